-- Laws of a file's queries: one query more, and what they say together.
use Prim.Native.Nat.{ℕ, zero, suc, ◌+◌, ◌-◌, ◌*◌, ◌/◌, ◌≤◌, ◌<◌}
use native.Mathlib.Omega.{arith}
use mathlib.Core.Path.{◌≡◌, refl, sym, ap, ◌∙◌, subst}
use mathlib.Core.Bool.{Bool, true, false}
use mathlib.Core.List.{List, [], ◌∷◌}
use lib.Dec.{leb}
use lib.ListN.{length, drop, get_or}
use borrow.Author.Tests.{le-leb, lt-leb}
use Rattle.sums.specs.Sum.{at}
use Rattle.answers.specs.Choice.{pick, both}
use Rattle.answers.proofs.Choices.{both_true}
use Rattle.treefile.specs.declared.query.Query.{Query}
use Rattle.treefile.specs.File.{query?, Queries, bad, all, before, queries_in, query_section, max_queries}
use Rattle.treefile.specs.Parsing.{query_numbers}
use Rattle.treefile.specs.Sections.{is_all, query_at, queries_from}
use Rattle.treefile.proofs.FileNumbers.{drop_next, drop_three}

all-before : (q : Query) (qs : Queries) → is_all (before q qs) ≡ both (query? q) (is_all qs)
all-before q bad = go (query? q)
  where
    go : (b : Bool) → false ≡ both b false
    go true = refl
    go false = refl
all-before q (all qs) = go (query? q)
  where
    go : (b : Bool) → is_all (pick b (all (q ∷ qs)) bad) ≡ both b true
    go true = refl
    go false = refl

-- one query, and those behind it
all_next : (ws : List ℕ) (p k : ℕ) → p + 4 ≤ length ws
    → is_all (queries_in (suc k) (drop p ws)) ≡ both (query? (query_at ws p)) (is_all (queries_in k (drop (p + 4) ws)))
all_next ws p k h =
    let e : p + 3 + 1 ≡ p + 4 = omega arith in
    ap (λ (l : List ℕ). is_all (queries_in (suc k) l)) (drop_three ws p (omega arith) ∙ ap (λ (l : List ℕ). at ws p ∷ at ws (p + 1) ∷ at ws (p + 2) ∷ l) (drop_next ws (p + 3) (omega arith)))
    ∙ all-before (query_at ws p) (queries_in k (drop (p + 3 + 1) ws))
    ∙ ap (λ (n : ℕ). both (query? (query_at ws p)) (is_all (queries_in k (drop n ws)))) e

-- as many numbers as the count says
pub all-length : (k : ℕ) (l : List ℕ) → (length l ≡ 4 * k → ⊥) → is_all (queries_in k l) ≡ false
all-length zero [] ne = absurd (ne refl)
all-length zero (x ∷ l) ne = refl
all-length (suc k) [] ne = refl
all-length (suc k) (x ∷ []) ne = refl
all-length (suc k) (x ∷ y ∷ []) ne = refl
all-length (suc k) (x ∷ y ∷ z ∷ []) ne = refl
all-length (suc k) (x ∷ y ∷ z ∷ w ∷ l) ne =
    let rest = all-length k l (λ e. ne (omega arith)) in
    let q : Query = record { kind = x; a = y; b = z; c = w } in
    all-before q (queries_in k l) ∙ ap (both (query? q)) rest ∙ go (query? q)
  where
    go : (b : Bool) → both b false ≡ false
    go true = refl
    go false = refl

-- what is left of the queries, behind i of them, decides the whole
pub record Judged (ws : List ℕ) (count i : ℕ) : Type 0 where
  pub same : is_all (queries_in count ws) ≡ is_all (queries_in (count - i) (drop (4 * i) ws))
  pub exact : length ws ≡ 4 * count

judged_split : {ws : List ℕ} {count i : ℕ} → i < count → Judged ws count i
    → is_all (queries_in count ws) ≡ both (query? (query_at ws (4 * i))) (is_all (queries_in (count - (i + 1)) (drop (4 * (i + 1)) ws)))
judged_split {ws} {count} {i} h j =
    let e : count - i ≡ suc (count - (i + 1)) = omega arith in
    let f : 4 * i + 4 ≡ 4 * (i + 1) = omega arith in
    j.same ∙ ap (λ (k : ℕ). is_all (queries_in k (drop (4 * i) ws))) e ∙ all_next ws (4 * i) (count - (i + 1)) (omega (arith, j.exact))
    ∙ ap (λ (k : ℕ). both (query? (query_at ws (4 * i))) (is_all (queries_in (count - (i + 1)) (drop k ws)))) f

pub judged_next : {ws : List ℕ} {count i : ℕ} → i < count → query? (query_at ws (4 * i)) ≡ true → Judged ws count i → Judged ws count (i + 1)
judged_next {ws} {count} {i} h good j =
    record { same = judged_split h j ∙ ap (λ (b : Bool). both b (is_all (queries_in (count - (i + 1)) (drop (4 * (i + 1)) ws)))) good; exact = j.exact }

pub judged_bad : {ws : List ℕ} {count i : ℕ} → i < count → query? (query_at ws (4 * i)) ≡ false → Judged ws count i
    → is_all (queries_in count ws) ≡ false
judged_bad {ws} {count} {i} h wrong j =
    judged_split h j ∙ ap (λ (b : Bool). both b (is_all (queries_in (count - (i + 1)) (drop (4 * (i + 1)) ws)))) wrong

-- queries that are good are those that their numbers are
all_read : (k : ℕ) (l : List ℕ) → is_all (queries_in k l) ≡ true → queries_in k l ≡ all (queries_from l)
all_read zero [] e = refl
all_read zero (x ∷ l) e = cc
all_read (suc k) [] e = cc
all_read (suc k) (x ∷ []) e = cc
all_read (suc k) (x ∷ y ∷ []) e = cc
all_read (suc k) (x ∷ y ∷ z ∷ []) e = cc
all_read (suc k) (x ∷ y ∷ z ∷ w ∷ l) e =
    let q : Query = record { kind = x; a = y; b = z; c = w } in
    let h = both_true (query? q) (is_all (queries_in k l)) (sym (all-before q (queries_in k l)) ∙ e) in
    ap (before q) (all_read k l h.1) ∙ ap (λ (b : Bool). pick b (all (q ∷ queries_from l)) bad) h.0

pub asked_many : (ws : List ℕ) (count : ℕ) → max_queries < count → bad ≡ query_section (count ∷ ws)
asked_many ws count h = sym (rw (lt-leb count max_queries h))

pub asked_bad : (ws : List ℕ) (count : ℕ) → false ≡ is_all (queries_in count ws) → bad ≡ query_section (count ∷ ws)
asked_bad ws count e = go (leb count max_queries) (queries_in count ws) e
  where
    go : (b : Bool) (q : Queries) → false ≡ is_all q → bad ≡ pick b q bad
    go true bad h = refl
    go true (all qs) h = cc
    go false q h = refl

pub asked_good : (ws : List ℕ) (count : ℕ) → count ≤ max_queries → true ≡ is_all (queries_in count ws) → all (queries_from ws) ≡ query_section (count ∷ ws)
asked_good ws count few e = sym (let r : query_section (count ∷ ws) ≡ queries_in count ws = rw (le-leb count max_queries few) in r ∙ all_read count ws (sym e))

-- how many they are, and the query at each place
pub queries-length : (l : List ℕ) → (4 * length (queries_from l) ≤ length l) × (length l < 4 * length (queries_from l) + 4)
queries-length [] = (omega arith, omega arith)
queries-length (x ∷ []) = (omega arith, omega arith)
queries-length (x ∷ y ∷ []) = (omega arith, omega arith)
queries-length (x ∷ y ∷ z ∷ []) = (omega arith, omega arith)
queries-length (x ∷ y ∷ z ∷ w ∷ l) = let rest = queries-length l in (omega arith, omega arith)

pub queries_count : (l : List ℕ) → length l / 4 ≡ length (queries_from l)
queries_count l = let h = queries-length l in omega arith

abbrev as_query : ℕ → ℕ → ℕ → ℕ → Query
as_query k a b c = record { kind = k; a = a; b = b; c = c }

same-query : (k a b c : ℕ) {k' a' b' c' : ℕ} → k ≡ k' → a ≡ a' → b ≡ b' → c ≡ c' → as_query k a b c ≡ as_query k' a' b' c'
same-query k a b c p q r s = cc

pub query_read : (l : List ℕ) (i : ℕ) (d : Query) → i < length (queries_from l) → query_at l (4 * i) ≡ get_or (queries_from l) i d
query_read [] i d h = absurd (omega arith)
query_read (x ∷ []) i d h = absurd (omega arith)
query_read (x ∷ y ∷ []) i d h = absurd (omega arith)
query_read (x ∷ y ∷ z ∷ []) i d h = absurd (omega arith)
query_read (x ∷ y ∷ z ∷ w ∷ l) zero d h = refl
query_read (x ∷ y ∷ z ∷ w ∷ l) (suc i) d h =
    let whole : List ℕ = x ∷ y ∷ z ∷ w ∷ l in
    let e0 : 4 * suc i ≡ suc (suc (suc (suc (4 * i)))) = omega arith in
    let e1 : 4 * suc i + 1 ≡ suc (suc (suc (suc (4 * i + 1)))) = omega arith in
    let e2 : 4 * suc i + 2 ≡ suc (suc (suc (suc (4 * i + 2)))) = omega arith in
    let e3 : 4 * suc i + 3 ≡ suc (suc (suc (suc (4 * i + 3)))) = omega arith in
    same-query (at whole (4 * suc i)) (at whole (4 * suc i + 1)) (at whole (4 * suc i + 2)) (at whole (4 * suc i + 3)) (ap (at whole) e0) (ap (at whole) e1) (ap (at whole) e2) (ap (at whole) e3)
    ∙ query_read l i d (omega arith)

-- good queries have as many numbers as their count says, and those are theirs
never_bad : {C : Type 0} (qs : List Query) → bad ≡ all qs → C
never_bad qs e = let z : ◌≡◌ {A = ℕ} 0 1 = cc in absurd (omega arith)

pub record Good (k : ℕ) (l : List ℕ) (qs : List Query) : Type 0 where
  pub numbers : query_numbers qs ≡ l
  pub count : length qs ≡ k

before_good : {k : ℕ} {l : List ℕ} (q : Query) (rest : Queries) (qs : List Query)
    → ((qs' : List Query) → rest ≡ all qs' → Good k l qs') → before q rest ≡ all qs → Good (suc k) (q.kind ∷ q.a ∷ q.b ∷ q.c ∷ l) qs
before_good q bad qs good e = never_bad qs e
before_good {k} {l} q (all qs') qs good e = go (query? q) e
  where
    go : (b : Bool) → pick b (all (q ∷ qs')) bad ≡ all qs → Good (suc k) (q.kind ∷ q.a ∷ q.b ∷ q.c ∷ l) qs
    go true e' =
        let g = good qs' refl in
        subst (λ (x : List Query). Good (suc k) (q.kind ∷ q.a ∷ q.b ∷ q.c ∷ l) x) ((let z : q ∷ qs' ≡ qs = cc in z))
        (record { numbers = ap (λ (x : List ℕ). q.kind ∷ q.a ∷ q.b ∷ q.c ∷ x) g.numbers; count = ap suc g.count })
    go false e' = never_bad qs e'

pub queries_good : (k : ℕ) (l : List ℕ) (qs : List Query) → queries_in k l ≡ all qs → Good k l qs
queries_good zero [] qs e = subst (λ (x : List Query). Good 0 [] x) (let z : [] ≡ qs = cc in z) (record { numbers = refl; count = refl })
queries_good zero (x ∷ l) qs e = never_bad qs e
queries_good (suc k) [] qs e = never_bad qs e
queries_good (suc k) (x ∷ []) qs e = never_bad qs e
queries_good (suc k) (x ∷ y ∷ []) qs e = never_bad qs e
queries_good (suc k) (x ∷ y ∷ z ∷ []) qs e = never_bad qs e
queries_good (suc k) (x ∷ y ∷ z ∷ w ∷ l) qs e =
    before_good (record { kind = x; a = y; b = z; c = w }) (queries_in k l) qs (λ qs' e'. queries_good k l qs' e') e

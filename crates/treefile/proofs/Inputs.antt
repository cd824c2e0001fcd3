-- A file is read from exactly the bytes that hold it.
use Prim.Native.Nat.{ℕ, zero, suc, ◌+◌, ◌*◌, ◌%◌, ◌≤◌}
use native.Mathlib.Omega.{arith}
use native.Mathlib.Decide.{ℕ_discrete}
use mathlib.Core.Path.{◌≡◌, refl, sym, ap, ap₂, ◌∙◌, subst}
use mathlib.Core.Logic.{◌≢◌, by_cases}
use mathlib.Core.Bool.{Bool, true, false}
use mathlib.Core.List.{List, [], ◌∷◌, ◌++◌}
use lib.Dec.{eqb, leb}
use lib.ListN.{length, length-append}
use borrow.Author.Tests.{leb-true, le-leb, eqb-true, eqb-false, eq-eqb, ne_eqb}
use Rattle.answers.specs.Choice.{pick}
use Rattle.answers.proofs.Choices.{both_true}
use Rattle.treefile.specs.declared.query.Query.{Query}
use Rattle.treefile.specs.File.{TreeFile, section, TreeRead, bad_tree, tree, read_tree, three?, query?, Queries, bad, all, before, queries_in, query_section, Parsed, bad_file, file, with_queries, after_tree, parse_numbers, parse_as, parse_file, numbers, narrow, max_offsets, max_file_targets, max_queries}
use Rattle.treefile.specs.declared.parse.Shape.{Shape}
use Rattle.treefile.specs.Parsing.{query_numbers, Parses}
use Rattle.std.specs.Prelude.{Option}
use Rattle.treefile.specs.Inputs.{counted, file_numbers, GoodQuery, GoodQueries, Holds}
use Rattle.treefile.proofs.Trees.{clash, tree_is, tree_of}
use Rattle.treefile.proofs.Queries.{queries_good}

-- A query is good exactly if its test passes.

query_good : (q : Query) → query? q ≡ true → GoodQuery q
query_good q e =
    let a = both_true (leb 1 q.kind) _ e in
    let b = both_true (leb q.kind 8) _ a.1 in
    record { some_kind = leb-true 1 q.kind a.0; known_kind = leb-true q.kind 8 b.0; unused = unused b.1 }
  where
    unused : pick (three? q.kind) true (eqb q.c 0) ≡ true → q.kind ≢ 2 → q.kind ≢ 4 → q.c ≡ 0
    unused h not2 not4 =
        eqb-true q.c 0 (sym (let r : pick (three? q.kind) true (eqb q.c 0) ≡ eqb q.c 0 = rw (ne_eqb q.kind 2 not2, ne_eqb q.kind 4 not4) in r) ∙ h)

good-query : (q : Query) → GoodQuery q → query? q ≡ true
good-query q g = rw (le-leb 1 q.kind g.some_kind, le-leb q.kind 8 g.known_kind) (told (eqb q.kind 2) (eqb q.kind 4) refl refl)
  where
    told : (x y : Bool) → eqb q.kind 2 ≡ x → eqb q.kind 4 ≡ y → pick (pick x true y) true (eqb q.c 0) ≡ true
    told true y e f = refl
    told false true e f = refl
    told false false e f = eq-eqb q.c 0 (g.unused (eqb-false q.kind 2 e) (eqb-false q.kind 4 f))

before_good : (q : Query) (r : Queries) (qs : List Query) → ((l : List Query) → r ≡ all l → GoodQueries l) → before q r ≡ all qs → GoodQueries qs
before_good q bad qs h e = clash cc
before_good q (all l) qs h e = told (query? q) refl e
  where
    told : (b : Bool) → query? q ≡ b → pick b (all (q ∷ l)) bad ≡ all qs → GoodQueries qs
    told false g e' = clash cc
    told true g e' = let z : q ∷ l ≡ qs = cc in subst GoodQueries z (query_good q g, h l refl)

all_good : (k : ℕ) (l : List ℕ) (qs : List Query) → queries_in k l ≡ all qs → GoodQueries qs
all_good zero [] qs e = let z : [] ≡ qs = cc in subst GoodQueries z tt
all_good zero (x ∷ l) qs e = clash cc
all_good (suc k) [] qs e = clash cc
all_good (suc k) (x ∷ []) qs e = clash cc
all_good (suc k) (x ∷ y ∷ []) qs e = clash cc
all_good (suc k) (x ∷ y ∷ z ∷ []) qs e = clash cc
all_good (suc k) (x ∷ y ∷ z ∷ w ∷ l) qs e =
    before_good (record { kind = x; a = y; b = z; c = w }) (queries_in k l) qs (λ m f. all_good k l m f) e

good-all : (qs : List Query) → GoodQueries qs → queries_in (length qs) (query_numbers qs) ≡ all qs
good-all [] g = refl
good-all (q ∷ qs) g = ap (before q) (good-all qs g.1) ∙ rw (good-query q g.0)

queries_is : (ws : List ℕ) (qs : List Query) → query_section ws ≡ all qs
    → (ws ≡ length qs ∷ query_numbers qs) × (length qs ≤ max_queries) × GoodQueries qs
queries_is [] qs e = clash cc
queries_is (count ∷ ws) qs e = told (leb count max_queries) refl e
  where
    told : (b : Bool) → leb count max_queries ≡ b → pick b (queries_in count ws) bad ≡ all qs
        → (count ∷ ws ≡ length qs ∷ query_numbers qs) × (length qs ≤ max_queries) × GoodQueries qs
    told false h e' = clash cc
    told true h e' =
        let g = queries_good count ws qs e' in
        let few = leb-true count max_queries h in
        (ap₂ (λ (c : ℕ) (m : List ℕ). c ∷ m) (sym g.count) (sym g.numbers), omega (arith, g.count), all_good count ws qs e')

queries_of_lem : (qs : List Query) → length qs ≤ max_queries → GoodQueries qs → query_section (length qs ∷ query_numbers qs) ≡ all qs
queries_of_lem qs few g = rw (le-leb (length qs) max_queries few) (good-all qs g)

-- The whole file.

file_is : (ws : List ℕ) (r : TreeRead) → read_tree ws ≡ r → (f : TreeFile) → after_tree r ≡ file f
    → (ws ≡ file_numbers f) × (length f.tree.offsets ≤ max_offsets) × (length f.tree.targets ≤ max_file_targets)
    × (length f.queries ≤ max_queries) × GoodQueries f.queries
file_is ws bad_tree h f e = clash cc
file_is ws (tree s rest) h f e = told (query_section rest) refl e
  where
    told : (q : Queries) → query_section rest ≡ q → with_queries s q ≡ file f
        → (ws ≡ file_numbers f) × (length f.tree.offsets ≤ max_offsets) × (length f.tree.targets ≤ max_file_targets)
        × (length f.queries ≤ max_queries) × GoodQueries f.queries
    told bad g e' = clash cc
    told (all qs) g e' =
        let z : record { tree = s; queries = qs } ≡ f = cc in
        let t = tree_is ws (section max_offsets ws) refl s rest h in
        let q = queries_is rest qs g in
        subst (λ (x : TreeFile).
        (ws ≡ file_numbers x) × (length x.tree.offsets ≤ max_offsets) × (length x.tree.targets ≤ max_file_targets)
        × (length x.queries ≤ max_queries) × GoodQueries x.queries)
        z (
          t.0 ∙ ap (λ (l : List ℕ). counted s.offsets ++ (counted s.targets ++ (counted (s.root ∷ []) ++ l))) q.0,
          t.1,
          t.2,
          q.1,
          q.2,
        )

-- bytes left are a bad file; else the numbers decide
pub left_bad : (w : ℕ) (bytes : List ℕ) → (length bytes % w ≡ 0 → ⊥) → parse_as w bytes ≡ bad_file
unfolding parse_as
left_bad w bytes left = rw (ne_eqb (length bytes % w) 0 left)

pub parse_whole : (w : ℕ) (bytes : List ℕ) → length bytes % w ≡ 0 → parse_as w bytes ≡ after_tree (read_tree (numbers w bytes))
unfolding parse_as parse_numbers
parse_whole w bytes none = rw (eq-eqb (length bytes % w) 0 none)

-- a file that was read has these numbers, within the limits
pub record Read (w : ℕ) (bytes : List ℕ) (f : TreeFile) : Type 0 where
  pub whole : length bytes % w ≡ 0
  pub sections : numbers w bytes ≡ file_numbers f
  pub few_offsets : length f.tree.offsets ≤ max_offsets
  pub few_targets : length f.tree.targets ≤ max_file_targets
  pub few_queries : length f.queries ≤ max_queries
  pub good_queries : GoodQueries f.queries

pub file_read : (w : ℕ) (bytes : List ℕ) (f : TreeFile) → parse_as w bytes ≡ file f → Read w bytes f
file_read w bytes f e =
    by_cases (ℕ_discrete (length bytes % w) 0)
    (λ none.
    let p = file_is (numbers w bytes) (read_tree (numbers w bytes)) refl f (sym (parse_whole w bytes none) ∙ e) in
    record { whole = none; sections = p.0; few_offsets = p.1; few_targets = p.2; few_queries = p.3; good_queries = p.4 })
    (λ left. let never : bad_file ≡ file f = sym (left_bad w bytes left) ∙ e in clash cc)

-- how many numbers a file is
queries_long : (qs : List Query) → length (query_numbers qs) ≡ 4 * length qs
queries_long [] = refl
queries_long (q ∷ qs) = let rest = queries_long qs in omega arith

pub file_numbers-length : (f : TreeFile) → length (file_numbers f) ≡ length f.tree.offsets + length f.tree.targets + 5 + 4 * length f.queries
file_numbers-length f =
    let tail : List ℕ = length f.queries ∷ query_numbers f.queries in
    let last = counted (f.tree.root ∷ []) ++ tail in
    omega (arith, queries_long f.queries, length-append f.tree.offsets (counted f.tree.targets ++ last), length-append f.tree.targets last)

module _ (bytes : List ℕ) (f : TreeFile) where
  -- what is read is what the bytes hold
  pub read-holds : parse_file bytes ≡ file f → Holds bytes f
  read-holds e =
      let r = file_read narrow bytes f e in
      record {
        whole = r.whole;
        sections = r.sections;
        few_offsets = r.few_offsets;
        few_targets = r.few_targets;
        few_queries = r.few_queries;
        good_queries = r.good_queries;
      }

  -- and what they hold is read
  pub holds_read : Holds bytes f → parse_file bytes ≡ file f
  holds_read h =
      let qs = f.queries in
      let rest : List ℕ = length qs ∷ query_numbers qs in
      parse_whole narrow bytes h.whole
      ∙ ap (λ (l : List ℕ). after_tree (read_tree l)) h.sections
      ∙ ap after_tree (tree_of f.tree rest h.few_offsets h.few_targets)
      ∙ ap (with_queries f.tree) (queries_of_lem qs h.few_queries h.good_queries)

-- bytes that hold no file are a bad one
pub none_bad : (bytes : List ℕ) → ((f : TreeFile) → Holds bytes f → ⊥) → parse_file bytes ≡ bad_file
none_bad bytes none = told (parse_file bytes) refl
  where
    told : (p : Parsed) → parse_file bytes ≡ p → p ≡ bad_file
    told bad_file e = refl
    told (file f) e = absurd (none f (read-holds bytes f e))

-- the answer and the buffers are determined
pub parses-one : {w : ℕ} {bytes os ts os₁ ts₁ os₂ ts₂ : List ℕ} {qs qs₁ qs₂ : List Query} {r₁ r₂ : Option Shape} → Parses w bytes os ts qs os₁ ts₁ qs₁ r₁
    → Parses w bytes os ts qs os₂ ts₂ qs₂ r₂
    → (r₁ ≡ r₂) × (os₁ ≡ os₂) × (ts₁ ≡ ts₂) × (qs₁ ≡ qs₂)
parses-one p q = (p.shape ∙ sym q.shape, p.offsets ∙ sym q.offsets, p.targets ∙ sym q.targets, p.queries ∙ sym q.queries)

-- The contracts of the decomposition and of the component lists determine the code, what is written, and all of work.
use Prim.Native.Nat.{ℕ, ◌+◌, ◌≤◌}
use native.Mathlib.Omega.{arith}
use native.Mathlib.Decide.{ℕ_discrete}
use mathlib.Core.Path.{◌≡◌, sym, ap, ◌∙◌}
use mathlib.Core.Logic.{by_cases}
use mathlib.Core.List.{List, [], ◌∷◌, ◌++◌}
use lib.ListN.{length, drop}
use Rattle.sums.specs.Sum.{at, sum}
use Rattle.answers.specs.Codes.{done, no_room}
use Rattle.graph.specs.Judgement.{test, First}
use Rattle.graph.specs.Lent.{vertices, list_of}
use Rattle.graph.specs.Validation.{graph_tests}
use Rattle.graph.proofs.Judging.{sized?}
use Rattle.graph.proofs.Passed.{all_passed, passed-front, passed_sound}
use Rattle.graph.proofs.Calling.{fits?, graph_call-one}
use Rattle.centroid.specs.Decomposition.{DecompositionOf}
use Rattle.paths.specs.Lists.{front}
use Rattle.centroid.specs.Calls.{Two, two, TwoLong, TwoOf, decomposing, Decomposes, Fitting, listing, Four, FourOf, Lists}
use Rattle.centroidlaws.proofs.Passed.{Passed, sound_rooted}
use Rattle.centroidlaws.proofs.Agreement.{decomposition-one}
use Rattle.centroidlaws.proofs.SameLists.{lists-one, lists_total}

-- whether both tables have n entries
two_long? : (n : ℕ) (t : Two) → Dec (TwoLong n t)
two_long? n t =
    by_cases (ℕ_discrete (length t.up) n)
    (λ a. by_cases (ℕ_discrete (length t.level) n) (λ b. yes (record { up_long = a; level_long = b })) (λ f. no (λ x. f x.level_long)))
    (λ f. no (λ x. f x.up_long))

-- a decomposition is written only for a tree
pub decomposing_passed : (os ts up level : List ℕ) (room : ℕ) → First (decomposing os ts up level room) done → Passed os ts
decomposing_passed os ts up level room f =
    sound_rooted (passed_sound os ts 0 (all_passed (decomposing os ts up level room) (omega arith) f).1.1)

-- two results that `Decomposes` allows coincide: the code, both tables, and all of work
pub decomposes-one :
    (os ts up level : List ℕ) {w up₁ level₁ w₁ up₂ level₂ w₂ : List ℕ} {c₁ c₂ : ℕ}
    → Decomposes os ts up level w up₁ level₁ w₁ c₁ → Decomposes os ts up level w up₂ level₂ w₂ c₂
    → (c₁ ≡ c₂) × (up₁ ≡ up₂) × (level₁ ≡ level₂) × (w₁ ≡ w₂)
decomposes-one os ts up level {w} p q =
    let e = graph_call-one (fits? os ts (two_long? (vertices os) (two up level))) one p q in
    (e.0, ap (λ (t : Two). t.up) e.1, ap (λ (t : Two). t.level) e.1, e.2)
  where
    one : {t t' : Two} → First (decomposing os ts up level (length w)) done → TwoOf os ts t → TwoOf os ts t' → t ≡ t'
    one f a b =
        let e = decomposition-one (decomposing_passed os ts up level (length w) f).listed.spans a b in
        λ i. record { up = e.0 i; level = e.1 i }

-- lists are written only for a tree
pub listing_passed : (os ts vs ds bs ss : List ℕ) (room : ℕ) → First (listing os ts vs ds bs ss room) done → Passed os ts
listing_passed os ts vs ds bs ss room f =
    sound_rooted (passed_sound os ts 0
    (passed-front (graph_tests os ts 0) (test no_room (Fitting os ts vs ds bs) ∷ [])
    (all_passed (listing os ts vs ds bs ss room) (omega arith) f).1.1))

-- lists that fit leave room for the sum of level + 1
pub fitting-total :
    (os ts vs ds bs : List ℕ) {up level : List ℕ} → Passed os ts → DecompositionOf (vertices os) (list_of os ts) up level → Fitting os ts vs ds bs
    → let total = sum (vertices os) (λ v. at level v + 1) in (total ≤ length vs) × (total ≤ length ds) × (total ≤ length bs)
fitting-total os ts vs ds bs g D F = let e = lists_total g.listed D F.lists in omega arith

-- one list at the front of a lent one gives one result
front-one : (lent : List ℕ) {l m a b : List ℕ} → l ≡ m → a ≡ front l lent → b ≡ front m lent → a ≡ b
front-one lent e p q = p ∙ ap (λ (l : List ℕ). l ++ drop (length l) lent) e ∙ sym q

-- two results that `Lists` allows coincide: the code, the four lists, and all of work
pub lists_call-one :
    (os ts vs ds bs ss : List ℕ) {w vs₁ ds₁ bs₁ ss₁ w₁ vs₂ ds₂ bs₂ ss₂ w₂ : List ℕ} {c₁ c₂ : ℕ}
    → Lists os ts vs ds bs ss w vs₁ ds₁ bs₁ ss₁ w₁ c₁ → Lists os ts vs ds bs ss w vs₂ ds₂ bs₂ ss₂ w₂ c₂
    → (c₁ ≡ c₂) × (vs₁ ≡ vs₂) × (ds₁ ≡ ds₂) × (bs₁ ≡ bs₂) × (ss₁ ≡ ss₂) × (w₁ ≡ w₂)
lists_call-one os ts vs ds bs ss {w} p q =
    let e = graph_call-one (sized? os ts) one p q in
    let m = e.1 in (
      e.0,
      ap (λ (m : Four). m.vertices) m,
      ap (λ (m : Four). m.distances) m,
      ap (λ (m : Four). m.branches) m,
      ap (λ (m : Four). m.starts) m,
      e.2,
    )
  where
    one : {m m' : Four} → First (listing os ts vs ds bs ss (length w)) done → FourOf os ts vs ds bs ss m → FourOf os ts vs ds bs ss m' → m ≡ m'
    one {m} {m'} f a b =
        let e = lists-one (listing_passed os ts vs ds bs ss (length w) f).listed.spans a.4 b.4 in
        let v : m.vertices ≡ m'.vertices = front-one vs e.0 a.5 b.5 in
        let d : m.distances ≡ m'.distances = front-one ds e.1 a.6 b.6 in
        let r : m.branches ≡ m'.branches = front-one bs e.2 a.7 b.7 in
        let s : m.starts ≡ m'.starts = front-one ss e.3 a.8 b.8 in
        λ i. record { vertices = v i; distances = d i; branches = r i; starts = s i }

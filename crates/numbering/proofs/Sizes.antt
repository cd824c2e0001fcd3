-- The numbers are those below n, each once, and a size is the number of vertices in a subtree.
use Prim.Native.Nat.{ℕ, ◌+◌, ◌-◌, ◌≤◌, ◌<◌}
use native.Mathlib.Omega.{arith}
use native.Mathlib.Decide.{ℕ_discrete}
use mathlib.Core.Path.{◌≡◌, refl, sym, ap, subst, ◌∙◌}
use mathlib.Core.Logic.Iff
use mathlib.Core.Logic.{◌↔◌, by_cases}
use mathlib.Core.Bool.{Bool, true, false, true≢false}
use mathlib.Core.List.{List}
use lib.Dec.{eqb}
use Rattle.sums.specs.Sum.{tally, sum, how_many}
use Rattle.sums.proofs.Sums.{tally_same, tally_other, sum_ext, sum_swap, sum_once, sum_none, sum_ones, sum-pick}
use Rattle.sums.proofs.Pigeon.{injective_onto}
use Rattle.paths.specs.Rooted.{Anc}
use Rattle.numbering.specs.Numbering.{Numbering}
use Rattle.numbering.proofs.Subtrees.{id_injective, anc_interval}
use Rattle.numbering.proofs.Whole.{interval-below, id_below}

module _ {n root : ℕ} {par dep head id order size : ℕ → ℕ} {kids : ℕ → List ℕ} (N : Numbering n root par dep head id order size kids) where
  -- each number below n is the number of the vertex that `order` gives
  pub order_inverse : {i : ℕ} → i < n → (order i < n) × (id (order i) ≡ i)
  order_inverse {i} h =
      let r = injective_onto n id (id_injective N.arrangement) (λ v hv. id_below N.arrangement hv) i h in
      let e : r.0 ≡ order i = sym (N.inverse r.0 r.1) ∙ ap order r.2 in
      subst (λ (v : ℕ). (v < n) × (id v ≡ i)) e (r.1, r.2)

  -- what `order` gives is a vertex
  pub order_below : {i : ℕ} → i < n → order i < n
  order_below h = (order_inverse h).0

  -- the number of the i-th vertex is i
  pub id_order : {i : ℕ} → i < n → id (order i) ≡ i
  id_order h = (order_inverse h).1

  -- of s numbers from a on, one is v's, if v's is among them
  one_of-range : (a s v : ℕ) → v < n → a + s ≤ n → a ≤ id v → id v < a + s → sum s (λ j. tally (eqb (order (a + j)) v)) ≡ 1
  one_of-range a s v hv h lo hi =
      sum_ext s (λ j. tally (eqb (order (a + j)) v)) (λ j. tally (eqb j (id v - a)))
      (λ j b. by_cases (ℕ_discrete j (id v - a))
      (λ e.
      let z : a + j ≡ id v = omega arith in
      tally_same (order (a + j)) v (ap order z ∙ N.inverse v hv) ∙ sym (tally_same j (id v - a) e))
      (λ d.
      let r = id_order {i = a + j} (omega arith) in
      tally_other (order (a + j)) v (λ e. let z = ap id e in d (omega arith)) ∙ sym (tally_other j (id v - a) d)))
      ∙ sum_once s (id v - a) (omega arith)

  -- and none, if it is not
  none_of-range : (a s v : ℕ) → a + s ≤ n → ((a ≤ id v) × (id v < a + s) → ⊥) → sum s (λ j. tally (eqb (order (a + j)) v)) ≡ 0
  none_of-range a s v h f =
      sum_none s (λ j. tally (eqb (order (a + j)) v)) (λ j b.
      let r = id_order {i = a + j} (omega arith) in
      tally_other (order (a + j)) v (λ e. let z = ap id e in f (omega arith)))

  -- s vertices have the s numbers from a on
  pub range-count : (a s : ℕ) (t : ℕ → Bool) → a + s ≤ n → ((v : ℕ) → v < n → (t v ≡ true) ↔ ((a ≤ id v) × (id v < a + s))) → how_many n t ≡ s
  range-count a s t h f =
      sum_ext n (λ v. tally (t v)) (λ v. sum s (λ j. tally (eqb (order (a + j)) v))) (λ v hv. each v hv (t v) refl)
      ∙ sum_swap n s (λ v j. tally (eqb (order (a + j)) v))
      ∙ sum_ext s (λ j. sum n (λ v. tally (eqb (order (a + j)) v))) (λ j. 1) (λ j b. sum-pick n (order (a + j)) (order_below (omega arith)))
      ∙ sum_ones s
    where
      each : (v : ℕ) → v < n → (b : Bool) → t v ≡ b → tally (t v) ≡ sum s (λ j. tally (eqb (order (a + j)) v))
      each v hv true e = let i = (f v hv).0 e in ap tally e ∙ sym (one_of-range a s v hv h i.0 i.1)
      each v hv false e =
          let out : (a ≤ id v) × (id v < a + s) → ⊥ = λ i. true≢false (sym ((f v hv).1 i) ∙ e) in
          ap tally e ∙ sym (none_of-range a s v h out)

  -- a size is the number of vertices below, by any test of them
  pub size-count : {u : ℕ} → u < n → (t : ℕ → Bool) → ((v : ℕ) → v < n → (t v ≡ true) ↔ Anc par dep u v) → size u ≡ how_many n t
  size-count {u} hu t f =
      sym (range-count (id u) (size u) t (interval-below N.arrangement hu)
      (λ v hv. Iff.trans (f v hv) (anc_interval N.arrangement hu hv)))

-- A decomposition under way: what it says of the starts that wait and of the removed vertices.
use Prim.Native.Nat.{ℕ, ◌+◌, ◌-◌, ◌≤◌, ◌<◌}
use native.Mathlib.Omega.{arith}
use mathlib.Core.Path.{◌≡◌, refl, sym, ap, ◌∙◌, subst}
use mathlib.Core.Bool.{Bool, true, false}
use mathlib.Core.List.{List}
use lib.Dec.{ltb, leb}
use borrow.Author.Tests.{lt-ltb, le-ltb, le-leb, leb-true, leb-false}
use Rattle.sums.specs.Sum.{tally, how_many}
use Rattle.sums.proofs.Sums.{equal_or_not, sum_ext, sum_add, sum_ones}
use Rattle.sums.proofs.Images.{few_pass}
use Rattle.paths.specs.Walk.{In, Stands}
use Rattle.paths.specs.Rooted.{Spans}
use Rattle.paths.specs.Route.{ptail}
use Rattle.centroid.specs.Components.{component_of}
use Rattle.centroid.specs.Decomposition.{Began, first, next, CentroidAt}
use Rattle.centroid.specs.Search.{joined_by}
use Rattle.centroid.specs.Parting.{Parting}
use Rattle.centroid.proofs.Classes.{joined_self, joined_same}
use Rattle.centroid.proofs.Ways.{centroid_same}

-- a vertex is removed or left
one_of_two : (a n : ℕ) → tally (ltb a n) + tally (leb n a) ≡ 1
one_of_two a n = go (leb n a) refl
  where
    go : (b : Bool) → leb n a ≡ b → tally (ltb a n) + tally b ≡ 1
    go true e = (let z = ap tally (le-ltb a n (leb-true n a e)) in omega arith)
    go false e = (let z = ap tally (lt-ltb a n (leb-false n a e)) in omega arith)

removed_or-left : (n : ℕ) (lv : ℕ → ℕ) → how_many n (λ x. ltb (lv x) n) + how_many n (λ x. leb n (lv x)) ≡ n
removed_or-left n lv =
    sym (sum_add n (λ x. tally (ltb (lv x) n)) (λ x. tally (leb n (lv x))))
    ∙ sum_ext n (λ x. tally (ltb (lv x) n) + tally (leb n (lv x))) (λ x. 1) (λ x h. one_of_two (lv x) n) ∙ sum_ones n

module _ {n : ℕ} {A : ℕ → List ℕ} {par dep : ℕ → ℕ} (Sp : Spans n (Stands A) 0 par dep) {S P L lv up : ℕ → ℕ} {h t : ℕ}
    (G : Parting n A (ptail par dep) S P L lv up h t) where
  -- there are never more starts than vertices: those taken stand for a removed vertex each, and those that wait are left
  pub parting_few : t ≤ n
  parting_few =
      let w = G.within in
      let m : ℕ = t - h in
      let few : m ≤ how_many n (λ x. leb n (lv x))
      = few_pass m n (λ i. S (h + i)) (λ x. leb n (lv x))
      (λ i j hi hj e. equal_or_not i j (λ s. s) (λ ne. absurd (G.apart (h + i) (h + j) (omega arith) (omega arith) (omega arith) (omega arith) (omega arith)
      (subst (λ (x : ℕ). joined_by (ptail par dep) (λ y. leb n (lv y)) (S (h + i)) x ≡ true) e
      (joined_self Sp.rooted (λ y. leb n (lv y)) (S (h + i)) (le-leb n (lv (S (h + i))) (G.entries (h + i) (omega arith) (omega arith)).left))))))
      (λ i hi. (G.entries (h + i) (omega arith) (omega arith)).below)
      (λ i hi. le-leb n (lv (S (h + i))) (G.entries (h + i) (omega arith) (omega arith)).left) in
      let all = removed_or-left n lv in
      let r = G.removed in
      omega arith

  -- none waits: none is left
  pub parting-all : h ≡ t → (x : ℕ) → x < n → lv x < n
  parting-all e x hx = equal_or_not (n - lv x) 0
      (λ z. absurd (let r = G.cover x hx (omega arith) in omega arith))
      (λ ne. omega arith)

-- the centroid of a removed vertex is told by its own row, its parent's level, and which vertices are above its level
module _ {n : ℕ} {A : ℕ → List ℕ} {par dep : ℕ → ℕ} (Sp : Spans n (Stands A) 0 par dep) {up lv up' lv' : ℕ → ℕ} {c : ℕ} (hc : c < n) (hl : lv c < n)
    (same_up : up' c ≡ up c) (same-lv : lv' c ≡ lv c) (above : (u : ℕ) → u < n → lv u < lv c → lv' u ≡ lv u)
    (tests : (y : ℕ) → y < n → leb (lv c) (lv y) ≡ leb (lv' c) (lv' y)) where
  began_same : {s : ℕ} → Began n A up lv c s → Began n A up' lv' c s
  began_same (first p z) = first (same_up ∙ p) (same-lv ∙ z)
  began_same (next s b i z) =
      next s (subst (λ (u : ℕ). u < n) (sym same_up) b) (subst (λ (u : ℕ). In s (A u)) (sym same_up) i)
      (same-lv ∙ z ∙ ap (λ (l : ℕ). l + 1) (sym (ap lv' same_up ∙ above (up c) b (omega arith))))

  -- so the row holds of other tables that agree in these
  pub centroid_at_same : CentroidAt n A (ptail par dep) up lv c → CentroidAt n A (ptail par dep) up' lv' c
  centroid_at_same f =
      record {
        start = f.start;
        start_below = f.start_below;
        began = began_same f.began;
        centroid = centroid_same n (ptail par dep) (ptail par dep) (component_of (ptail par dep) lv c) (component_of (ptail par dep) lv' c)
            (λ u v hu hv. refl) (λ x hx. joined_same Sp.rooted (λ y. leb (lv c) (lv y)) (λ y. leb (lv' c) (lv' y)) hc hx tests) f.start_below hc f.centroid;
      }

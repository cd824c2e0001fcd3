-- One centroid is removed: the rows of the two tables, its own and those before.
use Prim.Native.Nat.{ℕ, ◌≤◌, ◌<◌}
use native.Mathlib.Omega.{arith}
use mathlib.Core.Path.{◌≡◌, refl, sym, ap, ◌∙◌, subst}
use mathlib.Core.Logic.{◌≢◌}
use mathlib.Core.Bool.{true}
use mathlib.Core.List.{List}
use lib.Dec.{leb}
use borrow.Author.Tests.{le-leb, leb-true}
use Rattle.sums.proofs.Sums.{equal_or_not}
use Rattle.paths.specs.Walk.{In, Stands}
use Rattle.paths.specs.Rooted.{Spans}
use Rattle.paths.specs.Route.{ptail}
use Rattle.centroid.specs.Components.{component_of, CentroidFrom}
use Rattle.centroid.specs.Decomposition.{Began, CentroidAt}
use Rattle.centroid.specs.Decomposition as decomposition
use Rattle.centroid.specs.Search.{joined_by}
use Rattle.centroid.specs.Parting.{Pends, first, next, Entry, Parting}
use Rattle.answers.proofs.Choices.{same_test}
use Rattle.centroid.proofs.Classes.{same_class, joined_same, joined_weaker}
use Rattle.centroid.proofs.Ways.{centroid_same}
use Rattle.centroid.proofs.Pending.{centroid_at_same}
use Rattle.centroid.proofs.Removing.{Changed, head, level_small, c-left, all_left}

module _ {n : ℕ} {A : ℕ → List ℕ} {par dep : ℕ → ℕ} (Sp : Spans n (Stands A) 0 par dep) {S P L lv up : ℕ → ℕ} {h t : ℕ}
    (G : Parting n A (ptail par dep) S P L lv up h t) (more : h < t) {c : ℕ} (hc : c < n)
    (F : CentroidFrom n (ptail par dep) (joined_by (ptail par dep) (λ y. leb n (lv y)) (S h)) (S h) c)
    {lv' : ℕ → ℕ} (C : Changed c (L h) lv lv') where
  first_entry : Entry n A (ptail par dep) lv (S h) (P h) (L h)
  first_entry = head Sp G more hc F C

  start_below : S h < n
  start_below = first_entry.below

  low : L h < n
  low = level_small Sp G more hc F C

  was-left : n ≤ lv c
  was-left = c-left Sp G more hc F C

  -- the component of the centroid on its level is the one that was searched
  same_component : (x : ℕ) → x < n → joined_by (ptail par dep) (λ y. leb n (lv y)) (S h) x ≡ component_of (ptail par dep) lv' c x
  same_component x hx =
      same_test _ _ (all_weaker x hx) (all_left Sp G more hc F C first_entry x hx)
      ∙ same_class Sp.rooted (λ y. leb (L h) (lv y)) start_below hc (all_weaker c hc F.inside) x hx
      ∙ joined_same Sp.rooted (λ y. leb (L h) (lv y)) (λ y. leb (lv' c) (lv' y)) hc hx tests
    where
      all_weaker : (x : ℕ) → x < n → joined_by (ptail par dep) (λ y. leb n (lv y)) (S h) x ≡ true → joined_by (ptail par dep) (λ y. leb (L h) (lv y)) (S h) x ≡ true
      all_weaker x hx = joined_weaker Sp.rooted (λ y. leb n (lv y)) (λ y. leb (L h) (lv y)) start_below hx
          (λ y hy k. le-leb (L h) (lv y) (let a = leb-true n (lv y) k in let b = low in omega arith))

      tests : (y : ℕ) → y < n → leb (L h) (lv y) ≡ leb (lv' c) (lv' y)
      tests y hy = equal_or_not y c
          (λ e. le-leb (L h) (lv y) (let a = ap lv e in let b = was-left in let k = low in omega arith)
          ∙ sym (le-leb (lv' c) (lv' y) (let a = ap lv' e in omega arith)))
          (λ ne. ap (λ (l : ℕ). leb l (lv y)) (sym C.here) ∙ ap (leb (lv' c)) (sym (C.there y ne)))

  -- the rows of the two tables
  module _ {up' : ℕ → ℕ} (U : Changed c (P h) up up') where
    new_row : CentroidAt n A (ptail par dep) up' lv' c
    new_row =
        record {
          start = S h;
          start_below = start_below;
          began = begins first_entry.began;
          centroid = centroid_same n (ptail par dep) (ptail par dep) (joined_by (ptail par dep) (λ y. leb n (lv y)) (S h)) (component_of (ptail par dep) lv' c)
              (λ u v hu hv. refl) same_component start_below hc F;
        }
      where
        begins : Pends n A lv (S h) (P h) (L h) → Began n A up' lv' c (S h)
        begins (first a b d) = subst (Began n A up' lv' c) (sym d) (decomposition.first (U.here ∙ a) (C.here ∙ b))
        begins (next a b d e) =
            let z : lv' (P h) ≡ lv (P h) = C.there (P h) (λ q. (let x = ap lv q in let y = was-left in omega arith)) in
            decomposition.next (S h) (let u = U.here in omega arith) (subst (λ (v : ℕ). In (S h) (A v)) (sym U.here) d)
            (let u = ap lv' U.here in let w = C.here in omega arith)

    old_row : (d : ℕ) → d < n → lv d < n → d ≢ c → CentroidAt n A (ptail par dep) up' lv' d
    old_row d hd ld ne =
        centroid_at_same Sp hd ld (U.there d ne) (C.there d ne)
        (λ u hu less. C.there u (λ q. (let a = ap lv q in let b = was-left in omega arith)))
        (λ y hy. equal_or_not y c
        (λ q.
        le-leb (lv d) (lv y) (let a = ap lv q in let b = was-left in omega arith)
        ∙ sym (le-leb (lv' d) (lv' y) (let a = ap lv' q ∙ C.here in let b = C.there d ne in let e = first_entry.later d hd ld in omega arith)))
        (λ ny. ap (λ (l : ℕ). leb l (lv y)) (sym (C.there d ne)) ∙ ap (leb (lv' d)) (sym (C.there y ny))))
        (G.centroids d hd ld)

    -- each removed vertex has its row
    pub rows : (d : ℕ) → d < n → lv' d < n → CentroidAt n A (ptail par dep) up' lv' d
    rows d hd l = equal_or_not d c (λ e. subst (CentroidAt n A (ptail par dep) up' lv') (sym e) new_row)
        (λ ne. old_row d hd (let e = C.there d ne in omega arith) ne)

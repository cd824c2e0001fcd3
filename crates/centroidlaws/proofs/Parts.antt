-- A centroid's component is the part of its parent's component that it lies in when the parent is removed.
use Prim.Native.Nat.{ℕ, ◌+◌, ◌≤◌, ◌<◌}
use native.Mathlib.Omega.{arith}
use native.Mathlib.Decide.{dec_lt}
use mathlib.Core.Path.{◌≡◌, refl, sym, ap}
use mathlib.Core.Logic.{◌≢◌}
use mathlib.Core.Bool.{true, not}
use mathlib.Core.List.{List, ◌∷◌}
use lib.Dec.{eqb}
use borrow.Author.Tests.{not-true, eqb-false, ne_eqb}
use Rattle.sums.specs.Sum.{at}
use Rattle.paths.specs.Walk.{Stands}
use Rattle.paths.specs.Rooted.{Spans}
use Rattle.paths.specs.Route.{ptail}
use Rattle.paths.proofs.Steps.{on_below}
use Rattle.answers.specs.Limits.{no_parent}
use Rattle.centroid.specs.Components.{component_of, in_part}
use Rattle.centroid.specs.Decomposition.{Began, first, next, DecompositionOf}
use Rattle.answers.specs.Choice.{all?}
use Rattle.answers.proofs.Choices.{both_true, both_passed, all_in, in_all, same_test}
use Rattle.centroidlaws.proofs.Clear.{Clear, component_clear, clear_turn, clear_join, clear-part, clear_last}
use Rattle.centroidlaws.proofs.Parents.{Decomposed, Parent, decomposed, parent}
use Rattle.centroidlaws.proofs.Agreement.{one_centroid}

-- c is one level below its parent, lies in the parent's component, and its own component is the part of that in which it lies when the parent is
-- removed
pub record PartOfParent (n : ℕ) (way : ℕ → ℕ → List ℕ) (up level : ℕ → ℕ) (c : ℕ) : Type 0 where
  pub parent_below : up c < n
  pub one_up : level c ≡ level (up c) + 1
  pub inside : component_of way level (up c) c ≡ true
  pub part : (x : ℕ) → x < n → component_of way level c x ≡ in_part way (component_of way level (up c)) (up c) c x

module _ {n : ℕ} {A : ℕ → List ℕ} {par dep up level : ℕ → ℕ} (D : Decomposed n A par dep up level) where
  -- two vertices of one level in one component are equal
  pub one_of_level : {k c d : ℕ} → c < n → d < n → level c ≡ k → level d ≡ k → Clear par dep level k c d → c ≡ d
  one_of_level {k} {c} {d} hc hd e f cl = (one_centroid D D k (λ v hv h. (refl, refl)) c d hc hd e f cl).0

  -- a vertex with a parent is of a level above 0
  pub parent_deeper : n ≤ no_parent → {c : ℕ} → c < n → up c < n → 0 < level c
  parent_deeper few {c} hc hp = let a = D.centroids c hc in go a.start a.began
    where
      go : (s : ℕ) → Began n A up level c s → 0 < level c
      go s (first e z) = absurd (omega arith)
      go s (next _ h i z) = omega arith

  -- a vertex other than p that is joined to p in p's component is of a higher level
  pub higher : {p y : ℕ} → p < n → y < n → Clear par dep level (level p) p y → y ≢ p → level p < level y
  higher {p} {y} hp hy cl ne = elim (dec_lt (level p) (level y)) [
    | yes h ↦ h
    | no h ↦
        let low = clear_last D.spans.rooted level (level p) hp hy cl in
        absurd (ne (sym (one_of_level hp hy refl (omega arith) cl)))
  ]

  -- a vertex of a level above 0 lies in such a part
  pub part_of_parent : {c : ℕ} → c < n → 0 < level c → PartOfParent n (ptail par dep) up level c
  part_of_parent {c} hc pos = record {
    parent_below = P.below;
    one_up = P.one_up;
    inside = (component_clear par dep level (level p) p c).1 P.clear;
    part = λ x hx. same_test _ _ (to x hx) (back x hx);
  }
    where
      P : Parent n par dep up level c (parent D hc pos).0
      P = (parent D hc pos).1

      p : ℕ
      p = up c

      to : (x : ℕ) → x < n → component_of (ptail par dep) level c x ≡ true → in_part (ptail par dep) (component_of (ptail par dep) level p) p c x ≡ true
      to x hx e =
          let cl = (component_clear par dep level (level c) c x).0 e in
          let o = P.one_up in
          let low : Clear par dep level (level p) c x = λ y i. (let z = cl y i in omega arith) in
          both_passed (component_of (ptail par dep) level p x) (all? (λ y. not (eqb y p)) (c ∷ ptail par dep c x))
          ((component_clear par dep level (level p) p x).1 (clear_join D.spans.rooted level (level p) P.below hc hx P.clear low))
          (in_all (λ y. not (eqb y p)) (c ∷ ptail par dep c x)
          (λ y i. ap not (ne_eqb y p (λ q. (let z = cl y i in let w = ap level q in omega arith)))))

      back : (x : ℕ) → x < n → in_part (ptail par dep) (component_of (ptail par dep) level p) p c x ≡ true → component_of (ptail par dep) level c x ≡ true
      back x hx e =
          let R = D.spans.rooted in
          let h = both_true (component_of (ptail par dep) level p x) (all? (λ y. not (eqb y p)) (c ∷ ptail par dep c x)) e in
          let px = (component_clear par dep level (level p) p x).0 h.0 in
          let cx = clear_join R level (level p) hc P.below hx (clear_turn R level (level p) P.below hc P.clear) px in
          let o = P.one_up in
          (component_clear par dep level (level c) c x).1 (λ y i.
          let hy = on_below R y hc hx i in
          let cy = clear-part R level (level p) hc hx cx y i in
          let ne = eqb-false y p (not-true (eqb y p) (all_in (λ y. not (eqb y p)) y (c ∷ ptail par dep c x) h.1 i)) in
          let z = higher P.below hy (clear_join R level (level p) P.below hc hy P.clear cy) ne in
          omega arith)

-- in the decomposition of a tree, each vertex that has a parent lies in such a part
pub parent-part :
    {n : ℕ} {A : ℕ → List ℕ} {par dep : ℕ → ℕ} {up level : List ℕ} → n ≤ no_parent
    → Spans n (Stands A) 0 par dep → DecompositionOf n A up level → {c : ℕ} → c < n → at up c < n → PartOfParent n (ptail par dep) (at up) (at level) c
parent-part few S D hc hp = let T = decomposed S D in part_of_parent T hc (parent_deeper T few hc hp)

-- In a tree the code's test says what the definition asks: in the component, and one step farther from the centroid.
use Prim.Native.Nat.{ℕ, suc, ◌<◌}
use native.Mathlib.Omega.{arith}
use native.Mathlib.Decide.{dec_lt}
use mathlib.Core.Path.{◌≡◌, refl, sym, ap, subst, ◌∙◌}
use mathlib.Core.Logic.{inl, inr, ⊎_elim, ◌≢◌, by_cases}
use mathlib.Core.Bool.{Bool, true}
use mathlib.Core.List.{List, [], ◌∷◌, ◌++◌}
use lib.Dec.{eqb}
use lib.ListN.{length}
use borrow.Author.Tests.{eq-eqb, eqb-true}
use Rattle.sums.specs.Sum.{count}
use Rattle.sums.proofs.Sums.{equal_or_not, sum_mono, sum_ones}
use Rattle.paths.specs.Walk.{In, Below, Stands}
use Rattle.paths.specs.Rooted.{Rooted, Spans}
use Rattle.paths.specs.Route.{ptail, On}
use Rattle.paths.proofs.Listed.{in-below}
use Rattle.paths.proofs.Canon.{ptail_same}
use Rattle.paths.proofs.Steps.{ptail_none, path-below, path_once}
use Rattle.paths.proofs.Turn.{on_turn, length_turn}
use Rattle.paths.proofs.Cut.{cut, cut-length}
use Rattle.paths.proofs.Unique.{next_step}
use Rattle.paths.proofs.Counted.{in_count, count_in, nodup-count, count-length}
use Rattle.graph.specs.Lent.{list_of}
use Rattle.graph.proofs.Neighbours.{list-below}
use Rattle.paths.proofs.Kept.{keep_ext}
use Rattle.paths.specs.Lists.{keep}
use Rattle.centroid.specs.Components.{component_of}
use Rattle.centroid.specs.Lists.{onward, branch_of}
use Rattle.centroid.specs.Search.{LentTree}
use Rattle.answers.specs.Choice.{both}
use Rattle.answers.proofs.Choices.{both_true, both_passed, same_test}
use Rattle.centroidlaws.proofs.Clear.{Linked, component_clear, link_path, clear_join, clear_link, clear_last}
use Rattle.centroidlaws.proofs.Before.{Listed, before, before_nearer, before-one}
use Rattle.components.specs.Entering.{leads, beyond}
use Rattle.components.proofs.Passing.{leads_on, leads_parts, beyond_centre, beyond_other}

-- the first entry of a list, and d where there is none
abbrev head_or : ℕ → List ℕ → ℕ
head_or d l = elim l [ [] ↦ d | (y ∷ l) ↦ y ]

-- the first entry of two lists is that of the first
head-front : (d : ℕ) (a b : List ℕ) → 0 < length a → head_or d (a ++ b) ≡ head_or d a
head-front d [] b h = absurd (omega arith)
head-front d (x ∷ a) b h = refl

-- the lists of a lent tree, with any parents and depths from root 0
pub tree_listed : {os ts : List ℕ} {n : ℕ} {par dep : ℕ → ℕ} → LentTree os ts n → Spans n (Stands (list_of os ts)) 0 par dep → Listed n (list_of os ts) par dep
tree_listed {os} {ts} T S =
    let z = T.size in
    record {
      spans = S;
      below = λ u hu. subst (λ (k : ℕ). Below k (list_of os ts u)) (sym z) (list-below os ts T.offsets T.targets u (omega arith));
      once = T.once;
    }

-- a path has fewer steps than there are vertices
pub path_short : {n root : ℕ} {par dep : ℕ → ℕ} → Rooted n root par dep → {u v : ℕ} → u < n → v < n → length (ptail par dep u v) < n
path_short {n} {par = par} {dep = dep} R {u} {v} hu hv =
    let l : List ℕ = u ∷ ptail par dep u v in
    let a = count-length n l (path-below R hu hv) in
    let b = sum_mono n (λ x. count x l) (λ x. 1) (λ x h. nodup-count x l (path_once R hu hv)) in
    let d = sum_ones n in
    omega arith

module _ {n : ℕ} {A : ℕ → List ℕ} {par dep : ℕ → ℕ} (T : Listed n A par dep) {c : ℕ} (hc : c < n) where
  -- a neighbour that is not on the way back is one step farther
  farther : {x y : ℕ} → x < n → y < n → Linked par dep x y → y ≢ branch_of (ptail par dep) x c
      → length (ptail par dep c y) ≡ suc (length (ptail par dep c x))
  farther {x} {y} hx hy l ne =
      let R = T.spans.rooted in
      by_cases (dec_lt 0 (count x (y ∷ ptail par dep y c)))
      (λ h.
      let cl = cut-length R x hy hc (count_in x (y ∷ ptail par dep y c) h) in
      let one = ap length (link_path R hy hx (⊎_elim inr inl l)) in
      let p = length_turn R hc hy in
      let q = length_turn R hc hx in
      omega arith)
      (λ h. absurd (ne (sym (ap (head_or x) (next_step R hx hy hc l (λ i. h (in_count x (y ∷ ptail par dep y c) i)))))))

  -- what is one step farther is not on the way back
  not_back : {x y : ℕ} → x < n → length (ptail par dep c y) ≡ suc (length (ptail par dep c x)) → y ≢ branch_of (ptail par dep) x c
  not_back {x} {y} hx far e = equal_or_not x c
      (λ s.
      let z : branch_of (ptail par dep) x c ≡ x = ap (λ (v : ℕ). head_or x (ptail par dep x v)) (sym s) ∙ ap (head_or x) (ptail_same par dep x) in
      let q = ap (λ (v : ℕ). length (ptail par dep c v)) (e ∙ z) in
      omega arith)
      (λ ne.
      let r = before T hc hx ne in
      let near = before_nearer T hc hx r.1 in
      let z : branch_of (ptail par dep) x c ≡ r.0 = ap (head_or x) r.1.path in
      let q = ap (λ (v : ℕ). length (ptail par dep c v)) (e ∙ z) in
      omega arith)

  module _ {x y : ℕ} (hx : x < n) (hy : y < n) (l : Linked par dep x y) (far : length (ptail par dep c y) ≡ suc (length (ptail par dep c x))) where
    -- the way back from one that is farther goes over x
    way_back : ptail par dep y c ≡ x ∷ ptail par dep x c
    way_back =
        let ne : y ≢ c = λ s. (let z = ap (λ (v : ℕ). length (ptail par dep c v)) s in let q = ap length (ptail_same par dep c) in omega arith) in
        let r = before T hc hy ne in
        let e = before-one T hc hy r.1 hx (⊎_elim inr inl l) far in
        subst (λ (w : ℕ). ptail par dep y c ≡ w ∷ ptail par dep w c) (sym e) r.1.path

    -- so x led to it
    pub back_of : branch_of (ptail par dep) y c ≡ x
    back_of = ap (head_or y) way_back

    -- and it hangs from the branch of x, or from c itself
    pub branch_of_lem : branch_of (ptail par dep) c y ≡ beyond c x (branch_of (ptail par dep) c x) y
    branch_of_lem =
        let R = T.spans.rooted in
        let on : On par dep x c y = on_turn R x hy hc (inr (rw way_back (inl refl))) in
        equal_or_not x c
        (λ s.
        ap (λ (z : ℕ). head_or c (ptail par dep z y)) (sym s)
        ∙ ap (head_or c) (link_path R hx hy l)
        ∙ sym (beyond_centre c x (branch_of (ptail par dep) c x) y s))
        (λ ne.
        ap (head_or c) (cut R x hc hy on)
        ∙ head-front c (ptail par dep c x) (ptail par dep x y)
        (by_cases (dec_lt 0 (length (ptail par dep c x))) (λ h. h) (λ h. absurd (ne (sym (ptail_none R hc hx (omega arith))))))
        ∙ sym (beyond_other c x (branch_of (ptail par dep) c x) y ne))

  module _ (level : ℕ → ℕ) {x : ℕ} (hx : x < n) (inside : component_of (ptail par dep) level c x ≡ true) where
    -- the two tests agree on the neighbours of a vertex of the component
    lead-test : (y : ℕ) → In y (A x)
        → leads level c (branch_of (ptail par dep) x c) y
        ≡ both (component_of (ptail par dep) level c y) (eqb (length (ptail par dep c y)) (suc (length (ptail par dep c x))))
    lead-test y i =
        let R = T.spans.rooted in
        let way = ptail par dep in
        let hy = in-below n y (A x) (T.below x hx) i in
        let l = T.spans.only x y hx hy i in
        let cx = (component_clear par dep level (level c) c x).0 inside in
        same_test _ _
        (λ e.
        let p = leads_parts level c (branch_of way x c) y e in
        let cy = clear_join R level (level c) hc hx hy cx (clear_link R level (level c) hx hy l (clear_last R level (level c) hc hx cx) p.0) in
        both_passed (component_of way level c y) (eqb (length (way c y)) (suc (length (way c x))))
        ((component_clear par dep level (level c) c y).1 cy)
        (eq-eqb (length (way c y)) (suc (length (way c x))) (farther hx hy l p.1)))
        (λ e.
        let b = both_true (component_of way level c y) (eqb (length (way c y)) (suc (length (way c x)))) e in
        let far = eqb-true (length (way c y)) (suc (length (way c x))) b.1 in
        leads_on level c (branch_of way x c) y (clear_last R level (level c) hc hy ((component_clear par dep level (level c) c y).0 b.0)) (not_back hx far))

    -- what is entered is what the vertex leads on to
    pub lead_same : (test : ℕ → Bool) → ((y : ℕ) → In y (A x) → test y ≡ leads level c (branch_of (ptail par dep) x c) y)
        → keep test (A x) ≡ onward A (ptail par dep) (component_of (ptail par dep) level c) c x
    lead_same test f =
        keep_ext test (λ y. both (component_of (ptail par dep) level c y) (eqb (length (ptail par dep c y)) (suc (length (ptail par dep c x))))) (A x)
        (λ y i. f y i ∙ lead-test y i)

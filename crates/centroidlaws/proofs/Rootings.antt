-- What holds by the paths of one rooting holds by every way: component lists may be shown by one.
use Prim.Native.Nat.{ℕ, suc, ◌+◌, ◌<◌}
use mathlib.Core.Path.{◌≡◌, refl, ap, ap₂, ◌∙◌}
use mathlib.Core.Bool.{Bool}
use mathlib.Core.List.{List, [], ◌∷◌, ◌++◌, map}
use lib.Dec.{eqb}
use lib.ListN.{length}
use Rattle.sums.specs.Sum.{at}
use Rattle.paths.specs.Walk.{Below}
use Rattle.paths.specs.Route.{ptail}
use Rattle.paths.proofs.Listed.{in-below, map_same}
use Rattle.paths.proofs.Kept.{keep_ext}
use Rattle.centroid.specs.Components.{Ways, component_of}
use Rattle.centroid.specs.Decomposition.{DecompositionOf}
use Rattle.centroid.specs.Lists.{onward, onwards, Breadth, branch_of, joined, ListsOf}
use Rattle.centroid.proofs.Ways.{SameWay, SameSet, ways_same, component_same}
use Rattle.answers.specs.Choice.{both}
use Rattle.centroidlaws.proofs.Parents.{decomposed}
use Rattle.centroidlaws.proofs.Before.{Listed}
use Rattle.centroidlaws.proofs.Entries.{component_around, entries_below}
use Rattle.centroidlaws.proofs.SameLists.{joined_same}

module _
    {n : ℕ} (A : ℕ → List ℕ) (small : (u : ℕ) → u < n → Below n (A u))
    {way way' : ℕ → ℕ → List ℕ} (ways : SameWay n way way') {C C' : ℕ → Bool} (same : SameSet n C C') {c : ℕ} (hc : c < n)
  where
    -- a vertex leads on to the same vertices
    onward_same : (x : ℕ) → x < n → onward A way C c x ≡ onward A way' C' c x
    onward_same x hx =
        let leads : Bool → List ℕ → List ℕ → Bool = λ t l m. both t (eqb (length l) (suc (length m))) in
        keep_ext (λ y. leads (C y) (way c y) (way c x)) (λ y. leads (C' y) (way' c y) (way' c x)) (A x) (λ y i.
        let hy = in-below n y (A x) (small x hx) i in
        ap₂ (λ (t : Bool) (l : List ℕ). leads t l (way c x)) (same y hy) (ways c y hc hy)
        ∙ ap (leads (C' y) (way' c y)) (ways c x hc hx))

    -- so does a list of vertices
    onwards_same : (q : List ℕ) → Below n q → onwards A way C c q ≡ onwards A way' C' c q
    onwards_same [] b = refl
    onwards_same (x ∷ q) b = ap₂ ◌++◌ (onward_same x b.0) (onwards_same q b.1)

    -- a breadth first list by the one is one by the other
    breadth_same : (q : List ℕ) → Below n q → Breadth A way C c q → Breadth A way' C' c q
    breadth_same q b e = e ∙ ap (λ (l : List ℕ). c ∷ l) (onwards_same q b)

module _
    {n : ℕ} {A : ℕ → List ℕ} {par dep : ℕ → ℕ} (T : Listed n A par dep) {up level : List ℕ} (D : DecompositionOf n A up level)
    (q : ℕ → List ℕ) (B : (c : ℕ) → c < n → Breadth A (ptail par dep) (component_of (ptail par dep) (at level) c) c (q c))
  where
    -- the entries of the lists are vertices
    each_below : (c : ℕ) → c < n → Below n (q c)
    each_below c hc = entries_below T (component_around (decomposed T.spans D) hc) (B c hc)

    -- what is made of the ways from c to its list's entries does not depend on the ways
    made_same : (f : ℕ → List ℕ → ℕ) {way : ℕ → ℕ → List ℕ} → Ways n A way
        → joined (λ c. map (λ x. f c (ptail par dep c x)) (q c)) n ≡ joined (λ c. map (λ x. f c (way c x)) (q c)) n
    made_same f {way} W =
        joined_same (λ c. map (λ x. f c (ptail par dep c x)) (q c)) (λ c. map (λ x. f c (way c x)) (q c)) n (λ c hc.
        map_same (λ x. f c (ptail par dep c x)) (λ x. f c (way c x)) (q c)
        (λ x i. ap (f c) (ways_same T.spans W c x hc (in-below n x (q c) (each_below c hc) i))))

    -- component lists by the paths of one rooting are the component lists
    pub lists-from :
        {l₁ l₂ l₃ l₄ : List ℕ}
        → l₁ ≡ joined q n
        → l₂ ≡ joined (λ c. map (λ x. length (ptail par dep c x)) (q c)) n
        → l₃ ≡ joined (λ c. map (branch_of (ptail par dep) c) (q c)) n
        → length l₄ ≡ n + 1
        → ((c : ℕ) → c < n + 1 → at l₄ c ≡ length (joined q c))
        → ListsOf n A l₁ l₂ l₃ l₄
    lists-from e₁ e₂ e₃ e₄ starts = record {
      up = up;
      level = level;
      decomposition = D;
      q = q;
      breadth = λ way W c hc.
          let ways : SameWay n (ptail par dep) way = ways_same T.spans W in
          breadth_same A T.below ways (component_same n (ptail par dep) way ways (at level) hc) hc (q c) (each_below c hc) (B c hc);
      all_vertices = e₁;
      all_distances = λ way W. e₂ ∙ made_same (λ c l. length l) W;
      all_branches = λ way W. e₃ ∙ made_same (λ c l. elim l [ [] ↦ c | (y ∷ l) ↦ y ]) W;
      starts_long = e₄;
      all_starts = starts;
    }

-- A tree has one set of component lists, and they have together the sum of level + 1 entries.
use Prim.Native.Nat.{ℕ, zero, suc, ◌+◌, ◌≤◌, ◌<◌}
use native.Mathlib.Omega.{arith}
use mathlib.Core.Path.{◌≡◌, refl, sym, ap, ap₂, subst, ◌∙◌}
use mathlib.Core.List.{List, ◌++◌, map}
use lib.ListN.{length, length-append, length-map}
use lib.Seq.{ext_get_or}
use Rattle.sums.specs.Sum.{at, sum, how_many}
use Rattle.sums.proofs.Sums.{sum_ext}
use Rattle.paths.specs.Walk.{Stands}
use Rattle.paths.specs.Rooted.{Spans}
use Rattle.paths.specs.Route.{ptail}
use Rattle.centroid.specs.Components.{component_of}
use Rattle.centroid.specs.Decomposition.{DecompositionOf}
use Rattle.centroid.specs.Lists.{Breadth, branch_of, joined, ListsOf}
use Rattle.centroid.proofs.Ways.{span_ways}
use Rattle.centroidlaws.proofs.Parents.{decomposed}
use Rattle.centroidlaws.proofs.Agreement.{decomposition-one}
use Rattle.centroidlaws.proofs.Totals.{components-total}
use Rattle.centroidlaws.proofs.Layers.{breadth-one}
use Rattle.centroidlaws.proofs.Before.{Listed}
use Rattle.centroidlaws.proofs.Entries.{Holds, component_around, breadth-holds}

-- lists that agree below n are the same one behind the other
pub joined_same : (f g : ℕ → List ℕ) (n : ℕ) → ((c : ℕ) → c < n → f c ≡ g c) → joined f n ≡ joined g n
joined_same f g zero h = refl
joined_same f g (suc n) h = ap₂ ◌++◌ (joined_same f g n (λ c b. h c (omega arith))) (h n (omega arith))

-- their lengths add up
pub joined_length : (f : ℕ → List ℕ) (n : ℕ) → length (joined f n) ≡ sum n (λ c. length (f c))
joined_length f zero = refl
joined_length f (suc n) = let a = length-append (joined f n) (f n) in let ih = joined_length f n in omega arith

-- a number for each entry keeps the length
pub joined-map : (f : ℕ → ℕ → ℕ) (q : ℕ → List ℕ) (n : ℕ) → length (joined (λ c. map (f c) (q c)) n) ≡ length (joined q n)
joined-map f q n =
    joined_length (λ c. map (f c) (q c)) n
    ∙ sum_ext n (λ c. length (map (f c) (q c))) (λ c. length (q c)) (λ c b. length-map (q c) (f c))
    ∙ sym (joined_length q n)

module _
    {n : ℕ} {A : ℕ → List ℕ} {par dep : ℕ → ℕ} (S : Spans n (Stands A) 0 par dep)
    {l₁ l₂ l₃ l₄ m₁ m₂ m₃ m₄ : List ℕ} (L : ListsOf n A l₁ l₂ l₃ l₄) (M : ListsOf n A m₁ m₂ m₃ m₄)
  where
    -- each centroid has one breadth first list
    same_breadth : (c : ℕ) → c < n → L.q c ≡ M.q c
    same_breadth c hc =
        let way = ptail par dep in
        let levels = (decomposition-one S M.decomposition L.decomposition).1 in
        breadth-one A way (component_of way (at L.level) c) c (L.q c) (M.q c) (L.breadth way (span_ways S) c hc)
        (subst (λ (t : List ℕ). Breadth A way (component_of way (at t) c) c (M.q c)) levels (M.breadth way (span_ways S) c hc))

    -- what is made of each list is the same one behind the other
    same_made : (f : ℕ → List ℕ → List ℕ) (k : ℕ) → k ≤ n → joined (λ c. f c (L.q c)) k ≡ joined (λ c. f c (M.q c)) k
    same_made f k h = joined_same (λ c. f c (L.q c)) (λ c. f c (M.q c)) k (λ c b. ap (f c) (same_breadth c (omega arith)))

    -- the component lists of a tree are determined
    pub lists-one : (l₁ ≡ m₁) × (l₂ ≡ m₂) × (l₃ ≡ m₃) × (l₄ ≡ m₄)
    lists-one = let way = ptail par dep in let W = span_ways S in (
      L.all_vertices ∙ same_made (λ c q. q) n (omega arith) ∙ sym M.all_vertices,
      L.all_distances way W ∙ same_made (λ c q. map (λ x. length (way c x)) q) n (omega arith) ∙ sym (M.all_distances way W),
      L.all_branches way W ∙ same_made (λ c q. map (branch_of way c) q) n (omega arith) ∙ sym (M.all_branches way W),
      ext_get_or 0 l₄ m₄ (L.starts_long ∙ sym M.starts_long) (λ c b.
          let z = L.starts_long in
          L.all_starts c (omega arith) ∙ ap length (same_made (λ c q. q) c (omega arith)) ∙ sym (M.all_starts c (omega arith))),
    )

-- each list holds the vertices of its component once each
pub list-holds :
    {n : ℕ} {A : ℕ → List ℕ} {par dep : ℕ → ℕ} {l₁ l₂ l₃ l₄ : List ℕ} → Listed n A par dep → (L : ListsOf n A l₁ l₂ l₃ l₄)
    → (c : ℕ) → c < n → Holds n (component_of (ptail par dep) (at L.level) c) (L.q c)
list-holds {par = par} {dep = dep} T L c hc =
    breadth-holds T (component_around (decomposed T.spans L.decomposition) hc) (L.breadth (ptail par dep) (span_ways T.spans) c hc)

-- the lists have together the sum of level + 1 entries
pub lists_total :
    {n : ℕ} {A : ℕ → List ℕ} {par dep : ℕ → ℕ} {up level l₁ l₂ l₃ l₄ : List ℕ}
    → Listed n A par dep → DecompositionOf n A up level → ListsOf n A l₁ l₂ l₃ l₄ → length l₁ ≡ sum n (λ v. at level v + 1)
lists_total {n} {par = par} {dep = dep} {level = level} T D L =
    ap length L.all_vertices
    ∙ joined_length L.q n
    ∙ sum_ext n (λ c. length (L.q c)) (λ c. how_many n (component_of (ptail par dep) (at L.level) c)) (λ c hc. (list-holds T L c hc).size)
    ∙ components-total T.spans L.decomposition
    ∙ ap (λ (t : List ℕ). sum n (λ v. at t v + 1)) (decomposition-one T.spans L.decomposition D).1

-- distances and branches are as many as vertices
pub lists_even :
    {n : ℕ} {A : ℕ → List ℕ} {par dep : ℕ → ℕ} {l₁ l₂ l₃ l₄ : List ℕ}
    → Spans n (Stands A) 0 par dep → ListsOf n A l₁ l₂ l₃ l₄ → (length l₂ ≡ length l₁) × (length l₃ ≡ length l₁)
lists_even {n} {par = par} {dep = dep} S L =
    let all = sym (ap length L.all_vertices) in (
      ap length (L.all_distances (ptail par dep) (span_ways S)) ∙ joined-map (λ c x. length (ptail par dep c x)) L.q n ∙ all,
      ap length (L.all_branches (ptail par dep) (span_ways S)) ∙ joined-map (branch_of (ptail par dep)) L.q n ∙ all,
    )

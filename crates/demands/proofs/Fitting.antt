-- Every decomposition has its component lists, so the room that they need is the sum of level + 1.
use Prim.Native.Nat.{ℕ, zero, suc, ◌+◌, ◌≤◌, ◌<◌}
use native.Mathlib.Omega.{arith}
use mathlib.Core.Path.{◌≡◌, refl, sym, ap, ◌∙◌}
use mathlib.Core.Logic.{◌↔◌}
use mathlib.Core.List.{List, [], ◌∷◌}
use lib.ListN.{length, length-append, get_or-append}
use lib.Seq.{get_or_at}
use Rattle.sums.specs.Sum.{at, sum}
use Rattle.sums.proofs.Sums.{equal_or_not}
use Rattle.paths.specs.Route.{ptail}
use Rattle.answers.specs.Codes.{done}
use Rattle.graph.specs.Lent.{vertices}
use Rattle.centroid.specs.Components.{component_of}
use Rattle.centroid.specs.Decomposition.{DecompositionOf}
use Rattle.centroid.specs.Lists.{joined, ListsOf}
use Rattle.centroid.specs.Calls.{Decomposes, Fitting}
use Rattle.centroidlaws.proofs.Before.{Listed}
use Rattle.centroidlaws.proofs.SameLists.{lists_total}
use Rattle.centroidlaws.proofs.Rootings.{lists-from}
use Rattle.centroidlaws.proofs.Determined.{decomposing_passed, fitting-total}
use Rattle.demands.proofs.Breadth.{layers, layers_breadth}

-- the list of the first n values of f
values : (ℕ → ℕ) → ℕ → List ℕ
values f n = joined (λ i. f i ∷ []) n

-- it has n entries
values_length : (f : ℕ → ℕ) (n : ℕ) → length (values f n) ≡ n
unfolding values
values_length f zero = refl
values_length f (suc n) = let a = length-append (values f n) (f n ∷ []) in let ih = values_length f n in omega arith

-- and they are the values
values_at : (f : ℕ → ℕ) (n i : ℕ) → i < n → at (values f n) i ≡ f i
unfolding values
values_at f zero i h = absurd (omega arith)
values_at f (suc n) i h =
    let l = values_length f n in
    equal_or_not i n
    (λ e. get_or_at (values f n) (f n) [] 0 i (l ∙ sym e) ∙ ap f (sym e))
    (λ d. get_or-append (values f n) (f n ∷ []) 0 i (omega arith) ∙ values_at f n i (omega arith))

-- a decomposition has component lists
lists_there :
    {n : ℕ} {A : ℕ → List ℕ} {par dep : ℕ → ℕ} {up level : List ℕ} → Listed n A par dep → DecompositionOf n A up level
    → (l₁ : List ℕ) × (l₂ : List ℕ) × (l₃ : List ℕ) × (l₄ : List ℕ) × ListsOf n A l₁ l₂ l₃ l₄
lists_there {n} {A} {par} {dep} {level = level} T D =
    let way = ptail par dep in
    let q : ℕ → List ℕ = λ c. layers A way (component_of way (at level) c) c n (c ∷ []) in
    let starts : ℕ → ℕ = λ c. length (joined q c) in (
      _,
      _,
      _,
      values starts (n + 1),
      lists-from T D q (λ c hc. layers_breadth T (component_of way (at level) c) hc) refl refl refl
          (values_length starts (n + 1)) (values_at starts (n + 1)),
    )

-- the lists fit exactly if there is room for the sum of level + 1
pub lists_room :
    {os ts up level w up' level' w' : List ℕ} → Decomposes os ts up level w up' level' w' done → (vs ds bs : List ℕ)
    → let total = sum (vertices os) (λ v. at level' v + 1) in
    Fitting os ts vs ds bs ↔ ((total ≤ length vs) × (total ≤ length ds) × (total ≤ length bs))
lists_room {os} {ts} {up} {level} {w} p vs ds bs =
    let g = decomposing_passed os ts up level (length w) p.code in
    let D = p.written refl in
    let L = lists_there g.listed D in
    let e = lists_total g.listed D L.4 in (
      fitting-total os ts vs ds bs g D,
      λ h. record {
        l₁ = L.0;
        l₂ = L.1;
        l₃ = L.2;
        l₄ = L.3;
        lists = L.4;
        vertex_room = omega arith;
        distance_room = omega arith;
        branch_room = omega arith;
      },
    )

-- The tests 3 to 8 as `judge` makes them, the visit before the test of symmetry: what each asks and what its answer gives.
use Prim.Native.Nat.{ℕ, ◌+◌, ◌-◌, ◌*◌, ◌≤◌, ◌<◌}
use native.Mathlib.Omega.{arith}
use mathlib.Core.Path.{◌≡◌, refl, sym, ap, ◌∙◌, subst}
use mathlib.Core.Logic.{inl, inr}
use mathlib.Core.Bool.{Bool, true}
use mathlib.Core.List.{List, [], ◌∷◌}
use lib.ListN.{length}
use Rattle.sums.specs.Sum.{at}
use Rattle.paths.specs.Tree.{Symmetric, AllReached, Tree}
use Rattle.answers.specs.Codes.{done, not_symmetric, disconnected, has_cycle}
use Rattle.graph.specs.Judgement.{test, First}
use Rattle.graph.specs.Lent.{vertices, list_of, Offsets, Targets}
use Rattle.graph.specs.Validation.{room_of, graph_tests}
use Rattle.graph.specs.Steps.{Begun, GraphPart}
use Rattle.graph.specs.Work.{Only}
use Rattle.graph.proofs.Frames.{only_trans, only_wider}
use Rattle.answers.proofs.Bounds.{vertices_small}
use Rattle.graph.proofs.Neighbours.{entries-all, list-below}
use Rattle.symmetry.specs.Symmetry.{SymmetryAsks, SymmetryAnswers}
use Rattle.visit.specs.Visit.{VisitAnswers, Visited, queue_in, up_in}
use Rattle.visit.proofs.Positions.{places, visit_rooted, visit_held, listed_back, back_listed, visit_reaches, visit_few, visit-all, visited_same}
use Rattle.visit.proofs.Edges.{tree_entries, symmetric_back, entries_tree}
use Rattle.validate.specs.Judged.{Judged}
use Rattle.parents.specs.Listed.{ParentsListed}
use Rattle.validate.specs.Counts.{CountsAsk, TreeCounts}

-- a graph within its limits has few vertices
pub counts_ask : {os ts w : List ℕ} {n : ℕ} → Begun os ts w → n ≡ vertices os → CountsAsk n
counts_ask a e = (omega (arith, a.sized.some_vertex), omega (arith, a.sized.few_vertices, vertices_small))

-- the visit of a graph that passed the tests 3 to 5, of which the code has the number of vertices as n
pub record Visiting (os ts : List ℕ) (root : ℕ) (w : List ℕ) (n : ℕ) (w₁ : List ℕ) (t : ℕ) : Type 0 where
  pub begun : Begun os ts w
  pub offsets : Offsets os ts
  pub targets : Targets os ts
  pub size : n ≡ vertices os
  pub root_below : root < n
  pub answers : VisitAnswers os ts n 0 root w w₁ t

module _ {os ts : List ℕ} {root : ℕ} {w : List ℕ} {n : ℕ} {w₁ : List ℕ} {t : ℕ} (x : Visiting os ts root w n w₁ t) where
  v : VisitAnswers os ts (vertices os) 0 root w w₁ t
  v = rw x.size at x.answers

  only_visit : Only 0 (room_of os ts) w w₁
  only_visit = only_wider (omega arith) (omega arith) v.only

  -- a refusal by one of the tests 6 to 8 is no acceptance
  refused : {w' : List ℕ} {c : ℕ} → (c ≡ done → ⊥)
      → First (test not_symmetric (Symmetric (vertices os) (list_of os ts)) ∷ test disconnected (AllReached (vertices os) (list_of os ts) root)
      ∷ test has_cycle (Tree (vertices os) (list_of os ts)) ∷ []) c
      → Only 0 (room_of os ts) w w' → Judged os ts root w w' c
  refused never f o = record { code = inr (x.offsets, inr (x.targets, inr (omega (arith, x.root_below, x.size), f))); only = o; visit = λ e. absurd (never e) }

  -- a visit that met all vertices
  module _ (all : vertices os ≤ t) where
    whole : Visited (vertices os) (list_of os ts) root (queue_in w₁ 0) (up_in w₁ (vertices os) 0) v.place (vertices os)
    whole =
        subst (Visited (vertices os) (list_of os ts) root (queue_in w₁ 0) (up_in w₁ (vertices os) 0) v.place)
        (let k = visit_few v.visited in let e : t ≡ vertices os = omega arith in e) v.visited

    -- the same in the form in which the code reads it
    read : Visited (vertices os) (list_of os ts) root (at w₁) (λ j. at w₁ (vertices os + j)) v.place (vertices os)
    read =
        visited_same (λ j h. ap (at w₁) (let e : j ≡ 0 + j = omega arith in e))
        (λ j h k. ap (at w₁) (let e : vertices os + j ≡ 0 + vertices os + j = omega arith in e)) whole

    reached : AllReached (vertices os) (list_of os ts) root
    reached = visit_reaches whole (places whole).1

    tree-count : Tree (vertices os) (list_of os ts) → length ts ≡ 2 * (vertices os - 1)
    tree-count tree =
        sym (entries-all os ts x.offsets)
        ∙ tree_entries (list_of os ts) (visit_rooted whole (places whole).1) (visit_held whole (places whole).1) (list-below os ts x.offsets x.targets) tree

  -- as many vertices and entries as a tree has
  module _ (c : TreeCounts n t (length ts)) where
    all_met : vertices os ≤ t
    all_met = omega (arith, c.0, x.size)

    -- lists in which a vertex has not the one from which it was met are not symmetric
    pub not_listed : (ParentsListed os ts n w₁ → ⊥) → Judged os ts root w w₁ not_symmetric
    not_listed no-l = refused (λ e. cc) (inl ((λ s. rw x.size at no-l (listed s)), refl)) only_visit
      where
        listed : Symmetric (vertices os) (list_of os ts) → ParentsListed os ts (vertices os) w₁
        listed s =
            let vis = read all_met in
            let pl = (places vis).1 in
            back_listed vis pl (symmetric_back (list_of os ts) (visit_rooted vis pl) (visit_held vis pl) (list-below os ts x.offsets x.targets) s)

    pub is_tree : ParentsListed os ts n w₁ → Judged os ts root w w₁ done
    is_tree l =
        record {
          code =
              inr (x.offsets, inr (x.targets, inr (omega (arith, x.root_below, x.size), inr (tree.symmetric, inr (reached all_met, inr (tree, refl))))));
          only = only_visit;
          visit = λ z. record { place = v.place; visited = whole all_met };
        }
      where
        tree : Tree (vertices os) (list_of os ts)
        tree =
            let vis = read all_met in
            let pl = (places vis).1 in
            entries_tree (list_of os ts) (visit_rooted vis pl) (visit_held vis pl) (list-below os ts x.offsets x.targets)
            (listed_back vis pl (rw x.size at l)) (entries-all os ts x.offsets ∙ (rw x.size at c.1))

  pub symmetric_asks : SymmetryAsks os ts n (7 * n) w₁
  symmetric_asks =
      record {
        size = x.size;
        some_vertex = omega (arith, x.begun.sized.some_vertex, x.size);
        small = omega (arith, (counts_ask x.begun x.size).1);
        offsets = x.offsets;
        targets = x.targets;
        room = omega (arith, x.begun.room, v.only.same_length, x.size);
      }

  -- other counts than a tree's, and symmetric lists: the tests 7 and 8 in order
  module _ {w₂ : List ℕ} {b : Bool} (nc : TreeCounts n t (length ts) → ⊥) (s : SymmetryAnswers os ts n (7 * n) w₁ w₂ b) (e : b ≡ true) where
    only-both : Only 0 (room_of os ts) w w₂
    only-both = only_trans only_visit (only_wider (omega arith) (omega (arith, x.size)) s.only)

    even : Symmetric (vertices os) (list_of os ts)
    even = rw x.size at s.right e

    pub not_reached : t < n → Judged os ts root w w₂ disconnected
    not_reached few =
        refused (λ e. cc) (inr (even, inl ((λ r. (let k = visit-all v.visited r in omega (arith, x.size))), refl))) only-both

    pub has_cycle_lem : n ≤ t → Judged os ts root w w₂ has_cycle
    has_cycle_lem all = refused (λ e. cc) (inr (even, inr (reached met, inl ((λ tree. nc (exact, count tree)), refl)))) only-both
      where
        met : vertices os ≤ t
        met = omega (arith, x.size)

        exact : t ≡ n
        exact = omega (arith, visit_few v.visited, x.size)

        count : Tree (vertices os) (list_of os ts) → length ts ≡ 2 * (n - 1)
        count tree = omega (arith, tree-count met tree, x.size)

-- validation is this and no more: it is lent no memory to write
pub judged-part : {os ts : List ℕ} {root : ℕ} {w w' : List ℕ} {c : ℕ} → Judged os ts root w w' c
    → GraphPart os ts (graph_tests os ts root) (λ (m : Unit {0}). Unit {0}) tt tt w w' c
judged-part j = record { code = j.code; written = λ z. tt; refused = λ d. refl; only = j.only }

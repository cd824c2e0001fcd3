-- A graph, parents and depths that pass their tests: an accepted tree.
use Prim.Native.Nat.{ℕ, ◌+◌, ◌<◌}
use native.Mathlib.Omega.{arith}
use mathlib.Core.Path.{◌≡◌, refl}
use mathlib.Core.Logic.{inr}
use mathlib.Core.Bool.{Bool, true}
use mathlib.Core.List.{List}
use lib.Dec.{eqb, ltb}
use borrow.Author.Tests.{eqb-true, ltb-true, lt-ltb, le-ltb}
use Rattle.sums.specs.Sum.{at, count}
use Rattle.paths.specs.Walk.{Below, Stands}
use Rattle.paths.specs.Tree.{Tree}
use Rattle.paths.specs.Rooted.{Rooted, Spans}
use Rattle.paths.specs.Route.{links}
use Rattle.paths.proofs.Links.{links_span, links_tree}
use Rattle.answers.specs.Codes.{done}
use Rattle.graph.proofs.Neighbours.{list-below}
use Rattle.graph.proofs.Passed.{tree_reached}
use Rattle.answers.specs.Choice.{pick, both}
use Rattle.pcases.specs.Cases.{Graph, vertices_of, lists_of, Gives}
use Rattle.pcases.specs.Checks.{all}
use Rattle.pcases.specs.GraphChecks.{lent_tests, rooted_tests, tree_tests}
use Rattle.pcases.specs.Holds.{tree_from?}
use Rattle.pcases.proofs.Checking.{Passed, both_iff, all_iff, below_iff, pick_first, pick_second}
use Rattle.pcases.proofs.Refusing.{sized_iff, offsets_iff, targets_iff}

-- the tests of a rooted tree are right
rooted_of : (n root : ℕ) (par dep : ℕ → ℕ) → all (rooted_tests n root par dep) ≡ true → Rooted n root par dep
rooted_of n root par dep e =
    record {
      root_below = ltb-true root n p.0;
      root_top = eqb-true (dep root) 0 p.1.0;
      one_root = λ v h z. eqb-true v root (pick_second (hung v) (eqb v root) (le-ltb 0 (dep v) (omega arith)) (here v h));
      par_below = λ v h d. ltb-true (par v) n ((both_iff (ltb (par v) n) _).0 (deep v h d)).0;
      par_dep = λ v h d. eqb-true (dep (par v) + 1) (dep v) ((both_iff (ltb (par v) n) _).0 (deep v h d)).1;
    }
  where
    p : Passed (rooted_tests n root par dep)
    p = (all_iff (rooted_tests n root par dep)).0 e

    hung : ℕ → Bool
    hung v = both (ltb (par v) n) (eqb (dep (par v) + 1) (dep v))

    here : (v : ℕ) → v < n → pick (ltb 0 (dep v)) (hung v) (eqb v root) ≡ true
    here v h = (below_iff n _).0 p.1.1.0 v h

    deep : (v : ℕ) → v < n → 0 < dep v → hung v ≡ true
    deep v h d = pick_first (hung v) (eqb v root) (lt-ltb 0 (dep v) d) (here v h)

-- the graph is accepted, and is a tree with these parents and depths from this root
pub record TreeFrom (g : Graph) (root : ℕ) (parent depth : List ℕ) : Type 0 where
  pub accepted : Gives g root done
  pub spans : Spans (vertices_of g) (Stands (lists_of g)) root (at parent) (at depth)
  pub tree : Tree (vertices_of g) (lists_of g)
  pub inside : (u : ℕ) → u < vertices_of g → Below (vertices_of g) (lists_of g u)

-- a tree within the limits is accepted
gives-done :
    (g : Graph) (root : ℕ)
    → Passed (lent_tests g.offsets g.targets)
    → root < vertices_of g
    → Tree (vertices_of g) (lists_of g)
    → Gives g root done
gives-done g root p h t room r =
    let s = (sized_iff g.offsets g.targets).0 p.0 in
    let o = (offsets_iff g.offsets g.targets).0 p.1.0 in
    let e = (targets_iff g.offsets g.targets).0 p.1.1.0 in
    let a = tree_reached (vertices_of g) (lists_of g) root h t in
    inr (s, inr (r, inr (o, inr (e, inr (h, inr (t.symmetric, inr (a, inr (t, refl))))))))

-- the tests of an accepted tree are right
pub tree-from : (g : Graph) (root : ℕ) (parent depth : List ℕ) → tree_from? g root parent depth ≡ true → TreeFrom g root parent depth
tree-from g root parent depth e =
    let n = vertices_of g in
    let A = lists_of g in
    let b = (both_iff (all (lent_tests g.offsets g.targets)) (all (tree_tests n A root (at parent) (at depth)))).0 e in
    let l = (all_iff (lent_tests g.offsets g.targets)).0 b.0 in
    let p = (all_iff (tree_tests n A root (at parent) (at depth))).0 b.1 in
    let rooted = rooted_of n root (at parent) (at depth) p.0 in
    let counts : (u v : ℕ) → u < n → v < n → count v (A u) ≡ links (at parent) (at depth) u v =
    λ u v hu hv. eqb-true (count v (A u)) (links (at parent) (at depth) u v) ((below_iff n _).0 ((below_iff n _).0 p.1.0 u hu) v hv) in
    let offsets = (offsets_iff g.offsets g.targets).0 l.1.0 in
    let inside = list-below g.offsets g.targets offsets ((targets_iff g.offsets g.targets).0 l.1.1.0) in
    let tree = links_tree rooted A counts inside in
    record { accepted = gives-done g root l rooted.root_below tree; spans = links_span rooted A counts; tree = tree; inside = inside }

-- A lent graph that passes its tests is a tree, with parents and depths from root 0.
use Prim.Native.Nat.{ℕ}
use mathlib.Core.List.{List}
use Rattle.paths.specs.Tree.{Tree}
use Rattle.paths.proofs.Hung.{tree_hangs}
use Rattle.graph.specs.Lent.{vertices, list_of}
use Rattle.graph.proofs.Neighbours.{list-below}
use Rattle.graph.proofs.Passed.{Sound}
use Rattle.centroidlaws.proofs.Before.{Listed}

pub record Passed (os ts : List ℕ) : Type 0 where
  pub par : ℕ → ℕ
  pub dep : ℕ → ℕ
  pub tree : Tree (vertices os) (list_of os ts)
  pub listed : Listed (vertices os) (list_of os ts) par dep

pub sound_rooted : {os ts : List ℕ} → Sound os ts 0 → Passed os ts
sound_rooted {os} {ts} s =
    let h = tree_hangs s.tree s.root_below in
    record {
      par = h.par;
      dep = h.dep;
      tree = s.tree;
      listed = record { spans = h.spans; below = λ u hu. list-below os ts s.offsets s.targets u hu; once = s.tree.no_repeat };
    }

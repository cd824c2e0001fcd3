-- The call behind the tests 1 and 2: what each return leaves.
use Prim.Native.Nat.{ℕ}
use native.Mathlib.Omega.{arith}
use mathlib.Core.Path.{◌≡◌, refl, sym}
use mathlib.Core.List.{List}
use lib.ListN.{length}
use Rattle.paths.proofs.Links.{tree_span}
use Rattle.answers.specs.Codes.{done}
use Rattle.graph.specs.Lent.{vertices, list_of}
use Rattle.graph.specs.Validation.{Sized}
use Rattle.graph.proofs.Frames.{only_trans, only_wider}
use Rattle.answers.proofs.Bounds.{vertices_small}
use Rattle.graph.proofs.Passed.{done_sound}
use Rattle.visit.specs.Visit.{queue_in, up_in}
use Rattle.visit.proofs.Positions.{places, par_of, dep_of, visit_rooted, visit_held}
use Rattle.validate.specs.Judged.{Judged}
use Rattle.centroid.specs.Search.{LentTree}
use Rattle.centroid.specs.Parting.{DecomposeAsks, Decomposed, GraphAsks, GraphDecomposed}

-- an accepted graph is a tree seen from 0
pub lent_tree : {os ts w w' : List ℕ} {c : ℕ} → Sized os ts → Judged os ts 0 w w' c → c ≡ done → LentTree os ts (vertices os)
lent_tree {os} {ts} {w} {w'} s j z =
    let p = done_sound os ts 0 j.code z in
    let v = (j.visit z).visited in
    let g = places v in
    record {
      size = refl;
      some = s.some_vertex;
      small = (let l = s.few_vertices in let k = vertices_small in omega arith);
      offsets = p.offsets;
      targets = p.targets;
      par = par_of (queue_in w' 0) (up_in w' (vertices os) 0) g.0;
      dep = dep_of (up_in w' (vertices os) 0) g.0;
      spans = tree_span (visit_rooted v g.1) (list_of os ts) p.tree (visit_held v g.1);
      once = p.tree.no_repeat;
    }

-- n is the number of vertices, as the code has it
module _ {os ts up level w : List ℕ} (a : GraphAsks os ts up level w) {w₁ : List ℕ} (j : Judged os ts 0 w w₁ done) {n : ℕ} (size : n ≡ vertices os) where
  -- the tree can be decomposed
  pub tree_asks : DecomposeAsks os ts n level w₁
  tree_asks =
      rw size (record {
        tree = lent_tree a.begun.sized j refl;
        level_long = a.long.level_long;
        room = omega (arith, a.begun.room, j.only.same_length);
      })

  -- and is
  pub is_tree : {up' level' w₂ : List ℕ} → length up' ≡ length up → Decomposed os ts n up' level' w₁ w₂ → GraphDecomposed os ts up level w up' level' w₂ done
  is_tree {up'} {level'} same d =
      record {
        code = j.code;
        written = λ y. rw (d.held (omega (arith, a.long.up_long)), sym size) d.tables;
        refused = λ ne. absurd (ne refl);
        only = only_trans j.only (only_wider (omega arith) (omega arith) d.only);
      }

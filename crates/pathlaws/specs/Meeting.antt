-- How a climb from two vertices of a numbering ends.
use Rattle.std.specs.Prelude.{ℕ, ◌≤◌, ◌≡◌}
use Rattle.tables.specs.Tables.{Six}
use Rattle.numbering.specs.Log.{log2}
use Rattle.climb.specs.Sound.{head_in, place_of}
use Rattle.climb.specs.Climbing.{ancestor_of}
use Rattle.climb.specs.declared.places.Climb.{Climb}
use Rattle.pathlaws.specs.Given.{OnIn, top_in}

-- both ends stand on vertices of the path, on one chain; the ancestor is the deepest common one, and no side has left more than log2 n chains
pub record Meeting (n : ℕ) (t : Six) (u v : ℕ) (c : Climb) : Type 0 where
  pub u_end : ℕ
  pub v_end : ℕ
  pub u_at : c.u ≡ place_of t u_end
  pub v_at : c.v ≡ place_of t v_end
  pub u_on : OnIn t u_end u v
  pub v_on : OnIn t v_end u v
  pub one_head : head_in t u_end ≡ head_in t v_end
  pub ancestor : ancestor_of c ≡ place_of t (top_in t u v)
  pub u_few : c.u_count ≤ log2 n
  pub v_few : c.v_count ≤ log2 n

-- 01, "Sound entries": "Tables that a build wrote never give 9", for every query and any numbers that it is asked for.
use Rattle.std.specs.Prelude.{ℕ, ◌≢◌, Err}
use Rattle.tables.specs.Tables.{Six}
use Rattle.queries.specs.Queries.{vertex_count, root_of, depth_of, vertex_id, subtree_range, distance, lca, kth_ancestor, jump, subtree_size}
use Rattle.answers.specs.declared.answer.Refusal.TheVariants.{BadTable}

pub record NeverNine (t : Six) : Type 0 where
  pub of_vertex_count : vertex_count t ≢ Err BadTable
  pub of_root : root_of t ≢ Err BadTable
  pub of_depth : (v : ℕ) → depth_of t v ≢ Err BadTable
  pub of_vertex_id : (v : ℕ) → vertex_id t v ≢ Err BadTable
  pub of_subtree_range : (v : ℕ) → subtree_range t v ≢ Err BadTable
  pub of_distance : (u v : ℕ) → distance t u v ≢ Err BadTable
  pub of_lca : (r u v : ℕ) → lca t r u v ≢ Err BadTable
  pub of_kth_ancestor : (v k : ℕ) → kth_ancestor t v k ≢ Err BadTable
  pub of_jump : (u v k : ℕ) → jump t u v k ≢ Err BadTable
  pub of_subtree_size : (r v : ℕ) → subtree_size t r v ≢ Err BadTable

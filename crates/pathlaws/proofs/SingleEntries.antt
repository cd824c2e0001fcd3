-- The queries that read one entry: the number of vertices, the root, a depth, a number, and the numbers of a subtree.
use Rattle.std.specs.Prelude.{Ok, Err}
use Prim.Native.Nat.{ℕ, ◌+◌, ◌≤◌, ◌<◌}
use mathlib.Core.Path.{◌≡◌, sym, ap, ◌∙◌}
use mathlib.Core.Logic.{◌↔◌}
use mathlib.Core.Bool.{true}
use mathlib.Core.List.{List, [], ◌∷◌}
use lib.Dec.{ltb}
use borrow.Author.Tests.{lt-ltb, le-leb}
use Rattle.sums.specs.Sum.{at}
use Rattle.numbering.proofs.Subtrees.{size_pos, anc_interval}
use Rattle.numbering.proofs.Whole.{interval-below}
use Rattle.tables.specs.Tables.{Six}
use Rattle.answers.specs.Choice.{pick, both}
use Rattle.climb.specs.Sound.{depth_in, id_in, sound?}
use Rattle.queries.specs.Queries.{vertex_count, root_of, depth_of, vertex_id, size_sound?, subtree_range}
use Rattle.answers.specs.declared.answer.Refusal.TheVariants.{BadTable}
use Rattle.pathlaws.specs.Given.{Given, AncIn}
use Rattle.pathlaws.proofs.Standing.{both_pass, sound_vertex, answered}

module _ {n root : ℕ} {A : ℕ → List ℕ} {t : Six} {kids : ℕ → List ℕ} (G : Given n A root t kids) where
  -- `vertex_count` answers n
  pub vertex_count_lem : vertex_count t ≡ Ok n
  vertex_count_lem = answered G [] Err (λ m. Ok m) tt

  -- the root has the number 0
  order_root : at t.order 0 ≡ root
  order_root =
      ap (at t.order) (sym G.tables.numbering.arrangement.root_id) ∙ G.tables.numbering.inverse root G.tables.spans.rooted.root_below

  -- `root` answers the root
  pub root_answer : root_of t ≡ Ok root
  root_answer =
      let b = G.tables.spans.rooted.root_below in
      answered G [] Err (λ m. pick (both (ltb (at t.order 0) m) (sound? m t (at t.order 0))) (Ok (at t.order 0)) (Err BadTable)) tt
      ∙ rw (order_root, lt-ltb root n b, sound_vertex G b)

  -- `depth` answers the depth
  pub depth_answer : {v : ℕ} → v < n → depth_of t v ≡ Ok (depth_in t v)
  depth_answer {v} hv =
      answered G (v ∷ []) Err (λ m. pick (sound? m t v) (Ok (depth_in t v)) (Err BadTable)) (hv, tt) ∙ rw (sound_vertex G hv)

  -- `vertex_id` answers the number
  pub id_answer : {v : ℕ} → v < n → vertex_id t v ≡ Ok (id_in t v)
  id_answer {v} hv =
      answered G (v ∷ []) Err (λ m. pick (sound? m t v) (Ok (id_in t v)) (Err BadTable)) (hv, tt) ∙ rw (sound_vertex G hv)

  -- the size of a vertex is one that a query may use
  pub size_pass : {v : ℕ} → v < n → size_sound? n t v ≡ true
  size_pass {v} hv =
      both_pass (le-leb 1 (at t.size v) (size_pos G.tables.numbering.arrangement hv))
      (le-leb (id_in t v + at t.size v) n (interval-below G.tables.numbering.arrangement hv))

  -- `subtree_range` answers the numbers from that of the vertex on, as many as its size
  pub range_answer : {v : ℕ} → v < n → subtree_range t v ≡ Ok (id_in t v, id_in t v + at t.size v)
  range_answer {v} hv =
      answered G (v ∷ []) Err
      (λ m. pick (both (sound? m t v) (size_sound? m t v)) (Ok (id_in t v, id_in t v + at t.size v)) (Err BadTable)) (hv, tt)
      ∙ rw (both_pass (sound_vertex G hv) (size_pass hv))

  -- which are those of the vertices below it
  pub range_subtree : {v x : ℕ} → v < n → x < n → AncIn t v x ↔ ((id_in t v ≤ id_in t x) × (id_in t x < id_in t v + at t.size v))
  range_subtree hv hx = anc_interval G.tables.numbering.arrangement hv hx

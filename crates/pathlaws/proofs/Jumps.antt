-- `distance` answers the length of the simple path, and `jump` its entries.
use Rattle.std.specs.Prelude.{Ok, Err}
use Prim.Native.Nat.{ℕ, ◌+◌, ◌-◌, ◌*◌, ◌≤◌, ◌<◌}
use native.Mathlib.Omega.{arith}
use native.Mathlib.Decide.{dec_le}
use mathlib.Core.Path.{◌≡◌, ◌∙◌}
use mathlib.Core.List.{List, [], ◌∷◌}
use lib.Dec.{leb}
use lib.ListN.{length, get_or}
use borrow.Author.Tests.{le-leb, lt-leb}
use Rattle.paths.proofs.Top.{top_left, top_right, top-length}
use Rattle.tables.specs.Tables.{Six}
use Rattle.answers.specs.Choice.{pick}
use Rattle.climb.specs.Sound.{depth_in}
use Rattle.queries.specs.Queries.{distance_in, distance, ancestor_in, jump_in, jump}
use Rattle.pathlaws.specs.Given.{Given, path_in, top_in}
use Rattle.pathlaws.proofs.Standing.{answered}
use Rattle.pathlaws.proofs.Meetings.{climb_meets}
use Rattle.pathlaws.proofs.KthAncestor.{ancestor_found}
use Rattle.pathlaws.proofs.AlongPaths.{up_down-length, entry_up, entry_down}
use Rattle.answers.specs.Answers.{Answer}
use Rattle.answers.specs.declared.answer.Refusal.TheVariants.{TooFar}

-- what `jump` answers where the deepest common ancestor has the depth d
abbrev jump_by_distance : ℕ → Six → (u v k d : ℕ) → Answer
jump_by_distance n t u v k d =
    pick (leb k (depth_in t u - d)) (ancestor_in n t u k)
    (pick (leb k (depth_in t u - d + (depth_in t v - d))) (ancestor_in n t v (depth_in t u - d + (depth_in t v - d) - k)) (Err TooFar))

module _ {n root : ℕ} {A : ℕ → List ℕ} {t : Six} {kids : ℕ → List ℕ} (G : Given n A root t kids) where
  -- `distance` answers the length of the simple path
  pub distance_answer : {u v : ℕ} → u < n → v < n → distance t u v ≡ Ok (length (path_in t u v))
  distance_answer {u} {v} hu hv =
      let m = climb_meets G hu hv in
      let l = top-length G.tables.spans.rooted hu hv in
      let e : depth_in t u + depth_in t v - 2 * depth_in t (top_in t u v) ≡ length (path_in t u v) = omega arith in
      answered G (u ∷ v ∷ []) Err (λ k. distance_in k t u v) (hu, (hv, tt)) ∙ rw (m.1, distance_in, m.2.ancestor, e)

  -- `jump` climbs to the deepest common ancestor first
  jump_over : (k : ℕ) {u v : ℕ} → u < n → v < n → jump t u v k ≡ jump_by_distance n t u v k (depth_in t (top_in t u v))
  jump_over k {u} {v} hu hv =
      let m = climb_meets G hu hv in
      answered G (u ∷ v ∷ []) Err (λ i. jump_in i t u v k) (hu, (hv, tt)) ∙ rw (m.1, jump_in, m.2.ancestor)

  -- `jump` answers the k-th vertex of the simple path
  pub jump_answer : (k : ℕ) {u v : ℕ} → u < n → v < n → k ≤ length (path_in t u v) → jump t u v k ≡ Ok (get_or (u ∷ path_in t u v) k 0)
  jump_answer k {u} {v} hu hv h =
      let d : ℕ = depth_in t (top_in t u v) in
      let a = top_left G.tables.spans.rooted hu hv in
      let b = top_right G.tables.spans.rooted hu hv in
      let l = up_down-length G.tables.spans.rooted hu hv in
      let j : ℕ = depth_in t u - d + (depth_in t v - d) - k in
      elim (dec_le k (depth_in t u - d)) [
        | yes i ↦
            jump_over k hu hv
            ∙ rw (le-leb k (depth_in t u - d) i, ancestor_found G k hu (omega arith), entry_up G.tables.spans.rooted k hu hv (omega arith))
        | no q ↦
            jump_over k hu hv
            ∙ rw (
              lt-leb k (depth_in t u - d) (omega arith),
              le-leb k (depth_in t u - d + (depth_in t v - d)) (omega arith),
              ancestor_found G j hv (omega arith),
              entry_down G.tables.spans.rooted k j hu hv (omega arith) (omega arith),
            )
      ]

  -- and is refused if k exceeds the distance
  pub jump_too_far : (k : ℕ) {u v : ℕ} → u < n → v < n → length (path_in t u v) < k → jump t u v k ≡ Err TooFar
  jump_too_far k {u} {v} hu hv h =
      let d : ℕ = depth_in t (top_in t u v) in
      let l = up_down-length G.tables.spans.rooted hu hv in
      jump_over k hu hv
      ∙ rw (lt-leb k (depth_in t u - d) (omega arith), lt-leb k (depth_in t u - d + (depth_in t v - d)) (omega arith))

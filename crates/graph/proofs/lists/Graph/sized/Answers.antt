use native.Mathlib.Omega.{arith}
use Rattle.answers.specs.Limits.{max_vertices, max_targets}
use Rattle.graph.proofs.Judging.{decides_no, decides_leb}
use Rattle.graph.proofs.lists.Graph.sized.Goals as goal

pub returns-then-n-lt1 : goal.returns-then-n-lt1
unfolding max_vertices
returns-then-n-lt1 c = decides_no (λ s. omega (arith, s.some_vertex, s.few_vertices))

pub returns : goal.returns
unfolding max_vertices max_targets
returns c = decides_leb _ _ (λ h. record { some_vertex = omega arith; few_vertices = omega arith; few_targets = h }) (λ s. s.few_targets)

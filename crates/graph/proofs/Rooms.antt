-- The work room of a lent graph is a number of 64 bits.
use Prim.Native.Nat.{ℕ, ◌<◌, ◌^◌}
use native.Mathlib.Omega.{arith}
use mathlib.Core.List.{List}
use Rattle.answers.proofs.Bounds.{vertices_small, targets_small}
use Rattle.graph.specs.Validation.{Sized, room_of}

pub room_fits : (os ts : List ℕ) → Sized os ts → room_of os ts < 2 ^ 35
room_fits os ts s = omega (arith, s.few_vertices, s.few_targets, vertices_small, targets_small)

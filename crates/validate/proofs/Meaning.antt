-- What the contract of `validate_tree` says: it determines the code and all of work, and accepts exactly the trees.
use Prim.Native.Nat.{ℕ, ◌≤◌}
use native.Mathlib.Omega.{arith}
use mathlib.Core.Path.{◌≡◌, refl}
use mathlib.Core.Logic.{◌↔◌}
use mathlib.Core.List.{List}
use lib.ListN.{length}
use Rattle.answers.specs.Codes.{done}
use Rattle.graph.specs.Validation.{Sized, room_of, validation, Validates}
use Rattle.graph.proofs.Judging.{sized?}
use Rattle.graph.proofs.Passed.{done_exactly, Sound, passed_sound, sound_passed}
use Rattle.graph.proofs.Calling.{graph_call-one}

-- two results that the contract allows coincide: the code, and all of work
pub validates-one : (os ts : List ℕ) (root : ℕ) {w w₁ w₂ : List ℕ} {c₁ c₂ : ℕ} → Validates os ts root w w₁ c₁ → Validates os ts root w w₂ c₂ → (c₁ ≡ c₂) × (w₁ ≡ w₂)
validates-one os ts root p q = let e = graph_call-one (sized? os ts) (λ f a b. refl) p q in (e.0, e.2)

-- what is asked of an accepted graph
pub record Accepted (os ts : List ℕ) (root room : ℕ) : Type 0 where
  pub sized : Sized os ts
  pub room_enough : room_of os ts ≤ room
  pub sound : Sound os ts root

-- 0 is given exactly for a tree within the limits, with sound offsets, targets and root, and room enough
pub accepted : (os ts : List ℕ) (root : ℕ) {w w' : List ℕ} {c : ℕ} → Validates os ts root w w' c → (c ≡ done) ↔ Accepted os ts root (length w)
accepted os ts root {w} val =
    let d = done_exactly (validation os ts root (length w)) (omega arith) val.code in (
      λ z. let p = d.0 z in record { sized = p.0; room_enough = p.1.0; sound = passed_sound os ts root p.1.1 },
      λ a. d.1 (a.sized, (a.room_enough, sound_passed os ts root a.sound)),
    )

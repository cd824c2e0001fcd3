-- The build, behind the tests 1 and 2, to its answer.
use Prim.Native.Nat.{ℕ, ◌*◌, ◌≤◌, ◌<◌, ◌^◌}
use native.Mathlib.Omega.{arith}
use mathlib.Core.Path.{◌≡◌, refl}
use mathlib.Core.List.{List}
use lib.ListN.{length}
use Rattle.paths.specs.Walk.{Below}
use Rattle.answers.specs.Codes.{done}
use Rattle.graph.specs.Lent.{vertices, list_of}
use Rattle.graph.proofs.Frames.{only_trans, only_wider}
use Rattle.answers.proofs.Bounds.{vertices_small}
use Rattle.graph.proofs.Neighbours.{list-below}
use Rattle.graph.proofs.Passed.{Sound, done_sound}
use Rattle.validate.specs.Judged.{Judged}
use Rattle.tables.specs.Tables.{Six}
use Rattle.passes.specs.Passes.{WeighAsks, WeighAnswers}
use Rattle.ranks.specs.Ranks.{NumberAsks, NumberAnswers}
use Rattle.scatter.specs.Scatter.{ScatterAsks, Filled}
use Rattle.hld.specs.Steps.{BuildAsks, Built}
use Rattle.hld.proofs.Built.{weigh_asks, number_asks, scatter_asks, tables_built}

-- The code reads the number of vertices once, as n.
module _ {os ts : List ℕ} {root : ℕ} {t : Six} {w w₁ : List ℕ} {n : ℕ} (a : BuildAsks os ts t w) (j : Judged os ts root w w₁ done)
    (size : n ≡ vertices os)
  where
    small : vertices os < 2 ^ 31
    small = omega (arith, a.begun.sized.few_vertices, vertices_small)

    room : 8 * vertices os ≤ length w₁
    room = omega (arith, a.begun.room, j.only.same_length)

    sound : Sound os ts root
    sound = done_sound os ts root j.code refl

    below : (u : ℕ) → u < vertices os → Below (vertices os) (list_of os ts u)
    below = list-below os ts sound.offsets sound.targets

    pub to_weigh : WeighAsks n w₁
    to_weigh = rw size (weigh_asks (list_of os ts) w₁ w₁ w₁ small room (j.visit refl).visited)

    module _ {w₂ : List ℕ} (a₂ : WeighAnswers n w₁ w₂) where
      weighed : WeighAnswers (vertices os) w₁ w₂
      weighed = rw size at a₂

      pub to_number : NumberAsks n w₂
      to_number = rw size (number_asks (list_of os ts) w₁ w₂ w₂ small room (j.visit refl).visited weighed)

      module _ {w₃ : List ℕ} (a₃ : NumberAnswers n w₂ w₃) where
        numbered : NumberAnswers (vertices os) w₂ w₃
        numbered = rw size at a₃

        pub to_scatter : ScatterAsks n w₃ t
        to_scatter = rw size (scatter_asks (list_of os ts) w₁ w₂ w₃ small room (j.visit refl).visited weighed numbered sound.tree below a.long)

        pub build-done : {t' : Six} → Filled n w₃ n t' → Built os ts root t w t' w₃ done
        build-done f =
            record {
              code = j.code;
              written = λ e. tables_built (list_of os ts) w₁ w₂ w₃ small room (j.visit refl).visited weighed numbered sound.tree below (rw size at f);
              refused = λ d. absurd (d refl);
              only = only_trans j.only
                  (only_trans (only_wider (omega arith) (omega arith) weighed.only) (only_wider (omega arith) (omega arith) numbered.only));
            }

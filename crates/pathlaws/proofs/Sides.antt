-- Which vertices have their path to r pass a vertex, said by ancestors: those below it, or those not below its child towards r.
use Prim.Native.Nat.{ℕ, ◌+◌, ◌-◌, ◌<◌}
use native.Mathlib.Omega.{arith}
use mathlib.Core.Path.{◌≡◌, refl, sym, ap, ◌∙◌}
use mathlib.Core.Logic.{inl, inr, ⊎_elim, ◌↔◌}
use mathlib.Core.List.{◌∷◌}
use Rattle.paths.specs.Rooted.{Rooted, Anc, climb}
use Rattle.paths.specs.Route.{ptail, top, On}
use Rattle.paths.proofs.Listed.{in_right}
use Rattle.paths.proofs.Above.{climb_add, anc_trans, anc-below, par_no_anc, on_anc}
use Rattle.paths.proofs.Turn.{on_turn}
use Rattle.paths.proofs.Top.{top_deepest, on-top}
use Rattle.paths.proofs.Common.{passes}
use Rattle.numbering.proofs.Climbs.{climb_dep, climb_anc}
use Rattle.numbering.proofs.Leaves.{leave_at}

-- y is the child of v towards a vertex r below v
pub record Towards (n : ℕ) (par dep : ℕ → ℕ) (v r y : ℕ) : Type 0 where
  pub below : y < n
  pub deep : 0 < dep y
  pub parent : par y ≡ v
  pub above : Anc par dep y r

module _ {n root : ℕ} {par dep : ℕ → ℕ} (R : Rooted n root par dep) where
  -- where r is not below v, the vertices whose path to r passes v are those below v
  pub below_side : {v r x : ℕ} → v < n → r < n → x < n → (Anc par dep v r → ⊥) → On par dep v x r ↔ Anc par dep v x
  below_side {v} hv hr hx f = (λ h. ⊎_elim (λ a. a) (λ a. absurd (f a)) (on_anc R v hx hr h), λ a. passes R hx hv hr a f)

  -- where r is below the child y of a vertex, they are those not below y
  pub other_side : {y r x : ℕ} → y < n → 0 < dep y → r < n → x < n → Anc par dep y r → On par dep (par y) x r ↔ (Anc par dep y x → ⊥)
  other_side {y} {r} {x} hy p hr hx a = (into, from)
    where
      into : On par dep (par y) x r → Anc par dep y x → ⊥
      into h b =
          par_no_anc R hy p (anc_trans par dep y (top par dep x r) (par y) (top_deepest R y hx hr b a) (on-top R (par y) hx hr h))

      from : (Anc par dep y x → ⊥) → On par dep (par y) x r
      from f =
          on_turn R (par y) hr hx
          (inr (rw (leave_at R hy hr hx a f) (in_right (par y) (ptail par dep r y) (par y ∷ ptail par dep (par y) x) (inl refl))))

  -- climbing from r to one step below v finds the child towards r
  pub child_towards : {v r : ℕ} → r < n → Anc par dep v r → dep v < dep r → Towards n par dep v r (climb par (dep r - dep v - 1) r)
  child_towards {v} {r} hr a h =
      let j : ℕ = dep r - dep v - 1 in
      let d = climb_dep R j r hr (omega arith) in
      let b = climb_anc R j r hr (omega arith) in
      let e : j + 1 ≡ a.0 = omega arith in
      record {
        below = anc-below R (climb par j r) hr b;
        deep = omega arith;
        parent = sym (climb_add par j 1 r) ∙ ap (λ (k : ℕ). climb par k r) e ∙ a.2;
        above = b;
      }

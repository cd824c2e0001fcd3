-- A path is cut at the vertices on it, and covered by any detour.
use Prim.Native.Nat.{ℕ, ◌+◌, ◌<◌}
use mathlib.Core.Path.{◌≡◌, ◌∙◌, ap, sym, subst}
use mathlib.Core.Logic.{◌⊎◌, inl, inr, ⊎_elim}
use mathlib.Core.List.{[], ◌∷◌, ◌++◌, append-nil, append_assoc}
use native.Mathlib.Omega.{arith}
use lib.ListN.{length, length-append}
use Rattle.paths.specs.Walk.{In}
use Rattle.paths.specs.Rooted.{Rooted}
use Rattle.paths.specs.Route.{ptail, On}
use Rattle.paths.proofs.Listed.{in_left, in_right, in_snoc}
use Rattle.paths.proofs.Canon.{ptail_same, ptail_up, ptail_down, ends_ind, StepUp, StepDown}
use Rattle.paths.proofs.Above.{anc?, anc_refl, par_no_anc}
use Rattle.paths.proofs.Steps.{on_same, on_last, on_below, off_up, off_down, leave, arrive, enter}

module _ {n root : ℕ} {par dep : ℕ → ℕ} (R : Rooted n root par dep) where
  -- a path is its part up to a vertex on it and its part from there
  pub cut : (w : ℕ) {u v : ℕ} → u < n → v < n → On par dep w u v → ptail par dep u v ≡ ptail par dep u w ++ ptail par dep w v
  cut w {u} {v} hu hv = ends_ind R P same up down u v hu hv
    where
      P : ℕ → ℕ → Type 0
      P u v = On par dep w u v → ptail par dep u v ≡ ptail par dep u w ++ ptail par dep w v

      first : (u v : ℕ) → w ≡ u → ptail par dep u v ≡ ptail par dep u w ++ ptail par dep w v
      first u v e = rw (e, ptail_same par dep u)

      same : (u : ℕ) → u < n → P u u
      same u hu h = first u u (on_same par dep w u h)

      up : StepUp n par dep P
      up u v hu hv d p q ih (inl e) = first u v e
      up u v hu hv d p q ih (inr h) =
          let i : On par dep w (par u) v = rw (ptail_up R u v hu hv d q) at h in
          let hw = on_below R w (R.par_below u hu p) hv i in
          rw (ptail_up R u v hu hv d q, leave R hu hw (off_up R w hu hv d p q i), ih i)

      inner :
          (u v : ℕ) → u < n → v < n → dep u < dep v → P u (par v) → On par dep w u (par v)
          → ptail par dep u v ≡ ptail par dep u w ++ ptail par dep w v
      inner u v hu hv q ih i =
          let hw = on_below R w hu (R.par_below v hv (omega arith)) i in
          rw (ptail_down R u v hv q, arrive R hw hv (off_down R w hu hv q i), ih i, append_assoc)

      last : (u v : ℕ) → w ≡ v → ptail par dep u v ≡ ptail par dep u w ++ ptail par dep w v
      last u v e = rw (e, ptail_same par dep v, append-nil (ptail par dep u v))

      down : StepDown n par dep P
      down u v hu hv q ih (inl e) = first u v e
      down u v hu hv q ih (inr h) =
          ⊎_elim (λ i. inner u v hu hv q ih (inr i)) (last u v)
          (in_snoc w v (ptail par dep u (par v)) (rw (ptail_down R u v hv q) at h))

  -- the lengths of the two parts add up
  pub cut-length :
      (w : ℕ) {u v : ℕ} → u < n → v < n → On par dep w u v → length (ptail par dep u v) ≡ length (ptail par dep u w) + length (ptail par dep w v)
  cut-length w {u} {v} hu hv h = ap length (cut w hu hv h) ∙ length-append (ptail par dep u w) (ptail par dep w v)

  -- what is on the part of a path up to a vertex on it is on the path
  pub on_first-part : (x y : ℕ) {u v : ℕ} → u < n → v < n → On par dep x u v → On par dep y u x → On par dep y u v
  on_first-part x y {u} {v} hu hv h i = rw (cut x hu hv h) (in_left y (u ∷ ptail par dep u x) (ptail par dep x v) i)

  -- what is on the part of a path from a vertex on it is on the path
  pub on_last-part : (x y : ℕ) {u v : ℕ} → u < n → v < n → On par dep x u v → On par dep y x v → On par dep y u v
  on_last-part x y {u} {v} hu hv h (inl e) = subst (λ z. On par dep z u v) (sym e) h
  on_last-part x y {u} {v} hu hv h (inr i) = inr (rw (cut x hu hv h) (in_right y (ptail par dep u x) (ptail par dep x v) i))

  -- the path to the parent is one step
  pub step_up_lem : {x : ℕ} → x < n → 0 < dep x → ptail par dep x (par x) ≡ par x ∷ []
  step_up_lem {x} hx p = rw (leave R hx (R.par_below x hx p) (par_no_anc R hx p), ptail_same par dep (par x))

  -- the path to a child is one step
  pub step_down : {x : ℕ} → x < n → 0 < dep x → ptail par dep (par x) x ≡ x ∷ []
  step_down {x} hx p = rw (enter R hx hx p (anc_refl par dep x), ptail_same par dep x)

  -- each vertex on a path is on one of the two parts of any detour
  pub cover : (x : ℕ) {u v w : ℕ} → u < n → v < n → w < n → On par dep x u v → On par dep x u w ⊎ On par dep x w v
  cover x {u} {v} {w} hu hv hw h = ends_ind R P same up down u w hu hw h
    where
      P : ℕ → ℕ → Type 0
      P u w = On par dep x u v → On par dep x u w ⊎ On par dep x w v

      same : (u : ℕ) → u < n → P u u
      same u hu h = inr h

      from_par : (u : ℕ) → u < n → 0 < dep u → In x (ptail par dep u v) → On par dep x (par u) v
      from_par u hu p h = elim (anc? par dep u v) [
        | yes a ↦ rw (enter R hu hv p a) (inr (inr h))
        | no f ↦ rw (leave R hu hv f) at h
      ]

      up : StepUp n par dep P
      up u w hu hw d p q ih (inl e) = inl (inl e)
      up u w hu hw d p q ih (inr h) =
          ⊎_elim (λ j. inl (inr (rw (ptail_up R u w hu hw d q) j))) inr (ih (from_par u hu p h))

      longer : (u w : ℕ) → w < n → dep u < dep w → On par dep x u (par w) → On par dep x u w
      longer u w hw q j = rw (ptail_down R u w hw q) (in_left x (u ∷ ptail par dep u (par w)) (w ∷ []) j)

      to_child : (u w : ℕ) → u < n → w < n → dep u < dep w → On par dep x (par w) v → On par dep x u w ⊎ On par dep x w v
      to_child u w hu hw q j = elim (anc? par dep w v) [
        | no f ↦ inr (inr (rw (leave R hw hv f) j))
        | yes a ↦
            ⊎_elim (λ e. inl (longer u w hw q (subst (λ z. On par dep z u (par w)) (sym e) (on_last R hu (R.par_below w hw (omega arith))))))
            (λ k. inr (rw (enter R hw hv (omega arith) a) at k)) j
      ]

      down : StepDown n par dep P
      down u w hu hw q ih h = ⊎_elim (λ j. inl (longer u w hw q j)) (to_child u w hu hw q) (ih h)

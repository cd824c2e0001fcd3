-- The path to an ancestor is the climb, and the ancestors of a vertex are what its path to the root meets.
use Prim.Native.Nat.{ℕ, zero, suc, ◌+◌, ◌<◌, ◌≤◌}
use mathlib.Core.Path.{◌≡◌, refl, sym, ap}
use mathlib.Core.Logic.{inl, inr, ⊎_elim, ◌↔◌}
use mathlib.Core.List.{◌∷◌}
use native.Mathlib.Omega.{arith}
use lib.ListN.{length, get_or}
use Rattle.paths.specs.Rooted.{Rooted, Anc, climb}
use Rattle.paths.specs.Route.{ptail, On}
use Rattle.paths.proofs.Canon.{depth_ne, ptail_same, ptail_up, root_ind}
use Rattle.paths.proofs.Above.{anc_antisym, anc_trans, anc_step, anc-below, root_anc, on_anc}

module _ {n root : ℕ} {par dep : ℕ → ℕ} (R : Rooted n root par dep) where
  -- the first step of a climb is the first step of the path
  pub climb_step : (k x : ℕ) {v : ℕ} → v < n → suc k + dep x ≡ dep v → climb par k (par v) ≡ x → ptail par dep v x ≡ par v ∷ ptail par dep (par v) x
  climb_step k x {v} hv h e =
      let p : 0 < dep v = omega arith in
      let z = R.par_dep v hv p in
      let hx = anc-below R x (R.par_below v hv p) (k, omega arith, e) in
      ptail_up R v x hv hx (λ q. let y = ap dep q in omega arith) (omega arith)

  -- the path to the ancestor k steps above has k steps
  pub climb-length : (k x : ℕ) {v : ℕ} → v < n → k + dep x ≡ dep v → climb par k v ≡ x → length (ptail par dep v x) ≡ k
  climb-length zero x {v} hv h e = rw (← e, ptail_same par dep v)
  climb-length (suc k) x {v} hv h e =
      let p : 0 < dep v = omega arith in
      let z = R.par_dep v hv p in
      rw (climb_step k x hv h e) (ap suc (climb-length k x (R.par_below v hv p) (omega arith) e))

  -- the entries of the path to an ancestor are the climbs
  pub climb_entry : (k i x : ℕ) {v : ℕ} → v < n → k + dep x ≡ dep v → climb par k v ≡ x → i ≤ k → get_or (v ∷ ptail par dep v x) i 0 ≡ climb par i v
  climb_entry k zero x {v} hv h e l = refl
  climb_entry zero (suc i) x {v} hv h e l = absurd (omega arith)
  climb_entry (suc k) (suc i) x {v} hv h e l =
      let p : 0 < dep v = omega arith in
      let z = R.par_dep v hv p in
      rw (climb_step k x hv h e) (climb_entry k i x (R.par_below v hv p) (omega arith) e (omega arith))

  -- a vertex between an ancestor and a vertex is on the path
  pub anc_on : (x t : ℕ) {v : ℕ} → v < n → Anc par dep x v → Anc par dep t x → On par dep x v t
  anc_on x t {v} hv = root_ind R P start step v hv
    where
      P : ℕ → Type 0
      P v = Anc par dep x v → Anc par dep t x → On par dep x v t

      start : P root
      start a b = inl (anc_antisym par dep x root a (root_anc R (anc-below R x R.root_below a)))

      off :
          (v : ℕ) → v < n → 0 < dep v → Anc par dep x v → Anc par dep x (par v) → Anc par dep t x
          → ptail par dep v t ≡ par v ∷ ptail par dep (par v) t
      off v hv p a s b =
          let z = R.par_dep v hv p in
          let ht = anc-below R t hv (anc_trans par dep t x v b a) in
          ptail_up R v t hv ht (λ e. depth_ne dep t v (omega arith) (sym e)) (omega arith)

      step : (v : ℕ) → v < n → 0 < dep v → P (par v) → P v
      step v hv p ih a b =
          ⊎_elim inl (λ s. inr (rw (off v hv s.0 a s.1 b) (ih s.1 b))) (anc_step R x hv a)

  -- what is on the path to an ancestor is an ancestor
  pub on-between : (x t : ℕ) {v : ℕ} → v < n → Anc par dep t v → On par dep x v t → Anc par dep x v
  on-between x t {v} hv a h =
      ⊎_elim (λ b. b) (λ b. anc_trans par dep x t v b a) (on_anc R x hv (anc-below R t hv a) h)

  -- the ancestors are the vertices on the path to the root
  pub anc_root : (x : ℕ) {v : ℕ} → v < n → Anc par dep x v ↔ On par dep x v root
  anc_root x {v} hv =
      (λ a. anc_on x root hv a (root_anc R (anc-below R x hv a)), λ h. on-between x root hv (root_anc R hv) h)

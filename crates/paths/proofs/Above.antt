-- Ancestors: the order that the parents make, and that every vertex on a path is above one of its ends.
use Prim.Native.Nat.{ℕ, zero, suc, ◌+◌, ◌-◌, ◌<◌, ◌≤◌}
use mathlib.Core.Path.{◌≡◌, refl, sym, ◌∙◌, ap, subst}
use mathlib.Core.Logic.{◌⊎◌, inl, inr, ⊎_elim, ◌≢◌}
use native.Mathlib.Omega.{arith}
use native.Mathlib.Decide.{dec_le, ℕ_discrete}
use Rattle.paths.specs.Rooted.{Rooted, climb, Anc}
use Rattle.paths.specs.Route.{ptail, On}
use Rattle.paths.proofs.Listed.{in_snoc}
use Rattle.paths.proofs.Canon.{ptail_same, ptail_up, ptail_down, ends_ind, root_ind, StepUp, StepDown}

-- climbing k steps and then j is climbing k + j
pub climb_add : (par : ℕ → ℕ) (k j v : ℕ) → climb par (k + j) v ≡ climb par j (climb par k v)
climb_add par zero j v = let e : zero + j ≡ j = omega arith in ap (λ (i : ℕ). climb par i v) e
climb_add par (suc k) j v =
    let e : suc k + j ≡ suc (k + j) = omega arith in
    ap (λ (i : ℕ). climb par i v) e ∙ climb_add par k j (par v)

module _ (par dep : ℕ → ℕ) where
  -- each vertex is its own ancestor
  pub anc_refl : (v : ℕ) → Anc par dep v v
  anc_refl v = (0, omega arith, refl)

  -- an ancestor's ancestor is an ancestor
  pub anc_trans : (x y v : ℕ) → Anc par dep x y → Anc par dep y v → Anc par dep x v
  anc_trans x y v a b =
      (b.0 + a.0, omega arith, climb_add par b.0 a.0 v ∙ ap (climb par a.0) b.2 ∙ a.2)

  -- an ancestor is no deeper
  pub anc_dep : (x v : ℕ) → Anc par dep x v → dep x ≤ dep v
  anc_dep x v a = omega arith

  -- an ancestor as deep is the vertex itself
  pub anc_same : (x v : ℕ) → Anc par dep x v → dep x ≡ dep v → x ≡ v
  anc_same x v a h = go a.0 a.2 (omega arith)
    where
      go : (k : ℕ) → climb par k v ≡ x → k ≡ 0 → x ≡ v
      go zero e z = sym e
      go (suc k) e z = absurd (omega arith)

  -- two vertices that are each other's ancestors are one
  pub anc_antisym : (x v : ℕ) → Anc par dep x v → Anc par dep v x → x ≡ v
  anc_antisym x v a b = anc_same x v a (omega arith)

  -- of two ancestors of one vertex, the one no deeper is the other's ancestor
  pub anc_chain : (x y v : ℕ) → Anc par dep x v → Anc par dep y v → dep x ≤ dep y → Anc par dep x y
  anc_chain x y v a b h =
      let j : ℕ = a.0 - b.0 in
      let e : b.0 + j ≡ a.0 = omega arith in
      (j, omega arith, ap (climb par j) (sym b.2) ∙ sym (climb_add par b.0 j v) ∙ ap (λ (i : ℕ). climb par i v) e ∙ a.2)

  -- whether x is an ancestor of v
  pub anc? : (x v : ℕ) → Dec (Anc par dep x v)
  anc? x v = elim (dec_le (dep x) (dep v)) [
    | yes h ↦ elim (ℕ_discrete (climb par (dep v - dep x) v) x) [
      | yes e ↦ yes (dep v - dep x, omega arith, e)
      | no f ↦ no (λ a.
          let e : dep v - dep x ≡ a.0 = omega arith in
          f (ap (λ (k : ℕ). climb par k v) e ∙ a.2))
    ]
    | no q ↦ no (λ a. q (anc_dep x v a))
  ]

module _ {n root : ℕ} {par dep : ℕ → ℕ} (R : Rooted n root par dep) where
  -- an ancestor of the parent is an ancestor
  pub anc_up : (x : ℕ) {v : ℕ} → v < n → 0 < dep v → Anc par dep x (par v) → Anc par dep x v
  anc_up x {v} hv p a = let z = R.par_dep v hv p in (suc a.0, omega arith, a.2)

  -- an ancestor is the vertex or an ancestor of its parent
  pub anc_step : (x : ℕ) {v : ℕ} → v < n → Anc par dep x v → (x ≡ v) ⊎ ((0 < dep v) × Anc par dep x (par v))
  anc_step x {v} hv a = go a.0 a.1 a.2
    where
      go : (k : ℕ) → k + dep x ≡ dep v → climb par k v ≡ x → (x ≡ v) ⊎ ((0 < dep v) × Anc par dep x (par v))
      go zero h e = inl (sym e)
      go (suc k) h e = let z = R.par_dep v hv (omega arith) in inr (omega arith, (k, omega arith, e))

  -- an ancestor that is another vertex is an ancestor of the parent
  pub anc_par : (x : ℕ) {v : ℕ} → v < n → x ≢ v → Anc par dep x v → Anc par dep x (par v)
  anc_par x {v} hv d a = ⊎_elim (λ e. absurd (d e)) (λ q. q.1) (anc_step x hv a)

  -- no vertex is an ancestor of its parent
  pub par_no_anc : {v : ℕ} → v < n → 0 < dep v → Anc par dep v (par v) → ⊥
  par_no_anc {v} hv p a = let z = R.par_dep v hv p in omega arith

  -- an ancestor is a vertex
  pub anc-below : (x : ℕ) {v : ℕ} → v < n → Anc par dep x v → x < n
  anc-below x {v} hv = root_ind R (λ w. Anc par dep x w → x < n) start step v hv
    where
      start : Anc par dep x root → x < n
      start a =
          ⊎_elim (λ e. subst (λ (y : ℕ). y < n) (sym e) R.root_below)
          (λ q. let z = R.root_top in absurd (omega arith))
          (anc_step x R.root_below a)

      step : (w : ℕ) → w < n → 0 < dep w → (Anc par dep x (par w) → x < n) → Anc par dep x w → x < n
      step w hw p ih a = ⊎_elim (λ e. subst (λ (y : ℕ). y < n) (sym e) hw) (λ q. ih q.1) (anc_step x hw a)

  -- the root is an ancestor of every vertex
  pub root_anc : {v : ℕ} → v < n → Anc par dep root v
  root_anc {v} hv = root_ind R (λ w. Anc par dep root w) (anc_refl par dep root) (λ w hw p a. anc_up root hw p a) v hv

  -- each vertex on a path is an ancestor of one of its ends
  pub on_anc : (x : ℕ) {u v : ℕ} → u < n → v < n → On par dep x u v → Anc par dep x u ⊎ Anc par dep x v
  on_anc x {u} {v} hu hv = ends_ind R P same up down u v hu hv
    where
      P : ℕ → ℕ → Type 0
      P u v = On par dep x u v → Anc par dep x u ⊎ Anc par dep x v

      eq : (u : ℕ) → x ≡ u → Anc par dep x u
      eq u e = rw e (anc_refl par dep u)

      same : (u : ℕ) → u < n → P u u
      same u hu (inl e) = inl (eq u e)
      same u hu (inr h) = absurd (rw (ptail_same par dep u) at h)

      up : StepUp n par dep P
      up u v hu hv d p q ih (inl e) = inl (eq u e)
      up u v hu hv d p q ih (inr h) = ⊎_elim (λ a. inl (anc_up x hu p a)) inr (ih (rw (ptail_up R u v hu hv d q) at h))

      down : StepDown n par dep P
      down u v hu hv q ih (inl e) = inl (eq u e)
      down u v hu hv q ih (inr h) =
          ⊎_elim (λ i. ⊎_elim inl (λ a. inr (anc_up x hv (omega arith) a)) (ih (inr i)))
          (λ e. inr (eq v e))
          (in_snoc x v (ptail par dep u (par v)) (rw (ptail_down R u v hv q) at h))

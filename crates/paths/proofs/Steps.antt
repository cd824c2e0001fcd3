-- The path is a simple one, and how it changes when one of its ends moves to a neighbour.
use Prim.Native.Nat.{ℕ, ◌<◌, ◌≤◌}
use mathlib.Core.Path.{◌≡◌, refl, sym, ap}
use mathlib.Core.Logic.{inl, inr, ⊎_elim, ◌≢◌}
use mathlib.Core.List.{List, [], ◌∷◌, ◌++◌}
use native.Mathlib.Omega.{arith}
use native.Mathlib.Decide.{dec_le}
use lib.ListN.{length}
use Rattle.paths.specs.Walk.{In, NoDup, Below}
use Rattle.paths.specs.Rooted.{Rooted, Anc}
use Rattle.paths.specs.Route.{ptail, On}
use Rattle.paths.proofs.Listed.{in_last, out_of, nodup_snoc, below-append, in-below}
use Rattle.paths.proofs.Canon.{ptail_same, ptail_up, ptail_down, ends_ind, root_ind, StepUp, StepDown}
use Rattle.paths.proofs.Above.{anc_refl, anc_trans, anc_same, anc_up, anc_step, par_no_anc, root_anc, on_anc}

-- the only vertex on the path from a vertex to itself is the vertex
pub on_same : (par dep : ℕ → ℕ) (x u : ℕ) → On par dep x u u → x ≡ u
on_same par dep x u (inl e) = e
on_same par dep x u (inr h) = absurd (rw (ptail_same par dep u) at h)

module _ {n root : ℕ} {par dep : ℕ → ℕ} (R : Rooted n root par dep) where
  -- the last vertex of a path is on it
  pub on_last : {u v : ℕ} → u < n → v < n → On par dep v u v
  on_last {u} {v} hu hv = ends_ind R P (λ u h. inl refl) up down u v hu hv
    where
      P : ℕ → ℕ → Type 0
      P u v = On par dep v u v

      up : StepUp n par dep P
      up u v hu hv d p q ih = inr (rw (ptail_up R u v hu hv d q) ih)

      down : StepDown n par dep P
      down u v hu hv q ih = inr (rw (ptail_down R u v hv q) (in_last v (ptail par dep u (par v))))

  -- only the path from a vertex to itself has no step
  pub ptail_none : {u v : ℕ} → u < n → v < n → length (ptail par dep u v) ≡ 0 → u ≡ v
  ptail_none {u} {v} hu hv e = go (ptail par dep u v) e (on_last hu hv)
    where
      go : (l : List ℕ) → length l ≡ 0 → In v (u ∷ l) → u ≡ v
      go l z (inl q) = sym q
      go [] z (inr h) = absurd h
      go (x ∷ l) z (inr h) = absurd (omega arith)

  -- each vertex on a path is below n
  pub path-below : {u v : ℕ} → u < n → v < n → Below n (u ∷ ptail par dep u v)
  path-below {u} {v} hu hv = ends_ind R P same up down u v hu hv
    where
      P : ℕ → ℕ → Type 0
      P u v = Below n (u ∷ ptail par dep u v)

      same : (u : ℕ) → u < n → P u u
      same u hu = (hu, rw (ptail_same par dep u) tt)

      up : StepUp n par dep P
      up u v hu hv d p q ih = (hu, rw (ptail_up R u v hu hv d q) ih)

      down : StepDown n par dep P
      down u v hu hv q ih = (hu, rw (ptail_down R u v hv q) (below-append n (ptail par dep u (par v)) (v ∷ []) ih.1 (hv, tt)))

  -- a vertex on a path is a vertex
  pub on_below : (x : ℕ) {u v : ℕ} → u < n → v < n → On par dep x u v → x < n
  on_below x {u} {v} hu hv h = in-below n x (u ∷ ptail par dep u v) (path-below hu hv) h

  -- what is on the path that the deeper end's parent begins is not below that end
  pub off_up : (w : ℕ) {u v : ℕ} → u < n → v < n → u ≢ v → 0 < dep u → dep v ≤ dep u → On par dep w (par u) v → Anc par dep u w → ⊥
  off_up w {u} {v} hu hv d p q h a =
      ⊎_elim (λ b. par_no_anc R hu p (anc_trans par dep u w (par u) a b))
      (λ b. d (anc_same par dep u v (anc_trans par dep u w v a b) (omega arith)))
      (on_anc R w (R.par_below u hu p) hv h)

  -- what is on the path that the deeper end's parent ends is not below that end
  pub off_down : (w : ℕ) {u v : ℕ} → u < n → v < n → dep u < dep v → On par dep w u (par v) → Anc par dep v w → ⊥
  off_down w {u} {v} hu hv q h a =
      ⊎_elim (λ b. omega arith)
      (λ b. par_no_anc R hv (omega arith) (anc_trans par dep v w (par v) a b))
      (on_anc R w hu (R.par_below v hv (omega arith)) h)

  -- a path meets no vertex twice
  pub path_once : {u v : ℕ} → u < n → v < n → NoDup (u ∷ ptail par dep u v)
  path_once {u} {v} hu hv = ends_ind R P same up down u v hu hv
    where
      P : ℕ → ℕ → Type 0
      P u v = NoDup (u ∷ ptail par dep u v)

      same : (u : ℕ) → u < n → P u u
      same u hu = rw (ptail_same par dep u) (tt, tt)

      up : StepUp n par dep P
      up u v hu hv d p q ih =
          rw (ptail_up R u v hu hv d q) (out_of u (par u ∷ ptail par dep (par u) v) (λ h. off_up u hu hv d p q h (anc_refl par dep u)), ih)

      down : StepDown n par dep P
      down u v hu hv q ih =
          rw (ptail_down R u v hv q)
          (nodup_snoc v (u ∷ ptail par dep u (par v)) ih
          (out_of v (u ∷ ptail par dep u (par v)) (λ h. off_down v hu hv q h (anc_refl par dep v))))

  -- a vertex that is no ancestor of some vertex is not the root
  pub no_anc_pos : {x v : ℕ} → x < n → v < n → (Anc par dep x v → ⊥) → 0 < dep x
  no_anc_pos {x} {v} hx hv f = elim (dec_le 1 (dep x)) [
    | yes p ↦ p
    | no q ↦ absurd (f (rw (R.one_root x hx (omega arith)) (root_anc R hv)))
  ]

  -- from a vertex that is no ancestor of the last, the path goes up
  pub leave : {x v : ℕ} → x < n → v < n → (Anc par dep x v → ⊥) → ptail par dep x v ≡ par x ∷ ptail par dep (par x) v
  leave {x} {v} hx hv = root_ind R P start step v hv
    where
      P : ℕ → Type 0
      P v = (Anc par dep x v → ⊥) → ptail par dep x v ≡ par x ∷ ptail par dep (par x) v

      flat : (v : ℕ) → v < n → dep v ≤ dep x → P v
      flat v hv q f = ptail_up R x v hx hv (λ e. f (rw e (anc_refl par dep v))) q

      start : P root
      start = let z = R.root_top in flat root R.root_below (omega arith)

      step : (v : ℕ) → v < n → 0 < dep v → P (par v) → P v
      step v hv p ih f = elim (dec_le (dep v) (dep x)) [
        | yes q ↦ flat v hv q f
        | no q ↦
            let t = no_anc_pos hx hv f in
            let z = R.par_dep x hx t in
            rw (ptail_down R x v hv (omega arith), ptail_down R (par x) v hv (omega arith), ih (λ a. f (anc_up R x hv p a)))
      ]

  -- to a vertex that is no ancestor of the first, the path comes from the parent
  pub arrive : {u x : ℕ} → u < n → x < n → (Anc par dep x u → ⊥) → ptail par dep u x ≡ ptail par dep u (par x) ++ (x ∷ [])
  arrive {u} {x} hu hx = root_ind R P start step u hu
    where
      P : ℕ → Type 0
      P u = (Anc par dep x u → ⊥) → ptail par dep u x ≡ ptail par dep u (par x) ++ (x ∷ [])

      start : P root
      start f = let z = R.root_top in let p = no_anc_pos hx R.root_below f in ptail_down R root x hx (omega arith)

      step : (u : ℕ) → u < n → 0 < dep u → P (par u) → P u
      step u hu p ih f = elim (dec_le (dep x) (dep u)) [
        | no q ↦ ptail_down R u x hx (omega arith)
        | yes q ↦
            let t = no_anc_pos hx hu f in
            let z = R.par_dep x hx t in
            let d : u ≢ x = λ e. f (rw e (anc_refl par dep x)) in
            let d' : u ≢ par x = λ e. let y = ap dep e in omega arith in
            rw (ptail_up R u x hu hx d q, ptail_up R u (par x) hu (R.par_below x hx t) d' (omega arith), ih (λ a. f (anc_up R x hu p a)))
      ]

  -- from a vertex's parent to one below it, the path goes through the vertex
  pub enter : {x v : ℕ} → x < n → v < n → 0 < dep x → Anc par dep x v → ptail par dep (par x) v ≡ x ∷ ptail par dep x v
  enter {x} {v} hx hv p = root_ind R P start step v hv
    where
      P : ℕ → Type 0
      P v = Anc par dep x v → ptail par dep (par x) v ≡ x ∷ ptail par dep x v

      start : P root
      start a = let y = R.root_top in absurd (omega arith)

      self : (v : ℕ) → v < n → x ≡ v → ptail par dep (par x) v ≡ x ∷ ptail par dep x v
      self v hv e =
          let z = R.par_dep x hx p in
          rw (← e, ptail_down R (par x) x hx (omega arith), ptail_same par dep (par x), ptail_same par dep x)

      step : (v : ℕ) → v < n → 0 < dep v → P (par v) → P v
      step v hv q ih a =
          let y = R.par_dep v hv q in
          let z = R.par_dep x hx p in
          ⊎_elim (self v hv)
          (λ s. rw (ptail_down R (par x) v hv (omega arith), ptail_down R x v hv (omega arith), ih s.1))
          (anc_step R x hv a)

-- Three vertices have a vertex common to the three paths between them: the deepest of their deepest common ancestors.
use Prim.Native.Nat.{ℕ, ◌<◌, ◌≤◌}
use mathlib.Core.Path.{◌≡◌, refl}
use mathlib.Core.Logic.{◌⊎◌, inl, inr, ⊎_elim}
use native.Mathlib.Omega.{arith}
use Rattle.paths.specs.Rooted.{Rooted, Anc}
use Rattle.paths.specs.Route.{On, Common, top}
use Rattle.paths.proofs.Canon.{ends_ind, StepUp, StepDown}
use Rattle.paths.proofs.Above.{anc?, anc_dep, anc_same, anc_antisym, par_no_anc, on_anc}
use Rattle.paths.proofs.Steps.{on_last, no_anc_pos, leave, enter}
use Rattle.paths.proofs.Turn.{on_turn}
use Rattle.paths.proofs.Cut.{cover}
use Rattle.paths.proofs.Top.{top_deepest, on-top}

module _ {n root : ℕ} {par dep : ℕ → ℕ} (R : Rooted n root par dep) where
  -- it is common whichever of the two comes first
  pub common_swap : (m : ℕ) {r u v : ℕ} → u < n → v < n → Common par dep r u v m → Common par dep r v u m
  common_swap m hu hv c = record { across = on_turn R m hu hv c.across; to_first = c.to_second; to_second = c.to_first }

  -- it is common whichever of the three comes first
  pub common_turn : (m : ℕ) {r u v : ℕ} → r < n → u < n → v < n → Common par dep r u v m → Common par dep u v r m
  common_turn m hr hu hv c =
      record { across = on_turn R m hr hv c.to_second; to_first = c.across; to_second = on_turn R m hr hu c.to_first }

  -- an ancestor of r that is none of v is on the path between them
  pub passes : {r u v : ℕ} → r < n → u < n → v < n → Anc par dep u r → (Anc par dep u v → ⊥) → On par dep u r v
  passes {r} {u} {v} hr hu hv a f =
      let p = no_anc_pos R hu hv f in
      let hp = R.par_below u hu p in
      let i : On par dep u (par u) r = inr (rw (enter R hu hr p a) (inl refl)) in
      ⊎_elim (λ h. h) (λ h. absurd (⊎_elim f (par_no_anc R hu p) (on_anc R u hv hp h)))
      (cover R u hr hp hv (on_turn R u hp hr i))

  -- what is common for the parent of u gives what is common for u, where u is not above v
  common_up : {r u v : ℕ} → r < n → u < n → v < n → (Anc par dep u v → ⊥)
      → (m : ℕ) × Common par dep r (par u) v m → (m : ℕ) × Common par dep r u v m
  common_up {r} {u} {v} hr hu hv f (m, c) = elim (anc? par dep u r) [
    | no g ↦ same (inr (rw (leave R hu hr g) back))
    | yes a ↦ ⊎_elim (λ e. (u, at_u a)) (λ h. same (rw (enter R hu hr p a) at h)) back
  ]
    where
      p : 0 < dep u
      p = no_anc_pos R hu hv f

      back : On par dep m (par u) r
      back = on_turn R m hr (R.par_below u hu p) c.to_first

      at_u : Anc par dep u r → Common par dep r u v u
      at_u a = record { across = inl refl; to_first = on_last R hr hu; to_second = passes hr hu hv a f }

      same : On par dep m u r → (k : ℕ) × Common par dep r u v k
      same h =
          (m, record { across = inr (rw (leave R hu hv f) c.across); to_first = on_turn R m hu hr h; to_second = c.to_second })

  -- there is a vertex common to the three paths
  pub common_exists : {r u v : ℕ} → r < n → u < n → v < n → (m : ℕ) × Common par dep r u v m
  common_exists {r} {u} {v} hr hu hv = ends_ind R P same up down u v hu hv
    where
      P : ℕ → ℕ → Type 0
      P u v = (m : ℕ) × Common par dep r u v m

      same : (u : ℕ) → u < n → P u u
      same u hu = (u, record { across = inl refl; to_first = on_last R hr hu; to_second = on_last R hr hu })

      up : StepUp n par dep P
      up u v hu hv d p q ih = common_up hr hu hv (λ a. d (anc_same par dep u v a (omega arith))) ih

      down : StepDown n par dep P
      down u v hu hv q ih =
          let hp = R.par_below v hv (omega arith) in
          let s = common_up hr hv hu (λ a. omega arith) (ih.0, common_swap ih.0 hu hp ih.1) in
          (s.0, common_swap s.0 hv hu s.1)

  -- it is one of the three deepest common ancestors
  pub common-top :
      (m : ℕ) {r u v : ℕ}
      → r < n
      → u < n
      → v < n
      → Common par dep r u v m
      → (m ≡ top par dep u v) ⊎ ((m ≡ top par dep r u) ⊎ (m ≡ top par dep r v))
  common-top m {r} {u} {v} hr hu hv c = go (on_anc R m hu hv c.across) (on_anc R m hr hu c.to_first) (on_anc R m hr hv c.to_second)
    where
      is-top : {a b : ℕ} → a < n → b < n → On par dep m a b → Anc par dep m a → Anc par dep m b → m ≡ top par dep a b
      is-top {a} {b} ha hb h x y = anc_antisym par dep m (top par dep a b) (top_deepest R m ha hb x y) (on-top R m ha hb h)

      go : Anc par dep m u ⊎ Anc par dep m v → Anc par dep m r ⊎ Anc par dep m u → Anc par dep m r ⊎ Anc par dep m v
          → (m ≡ top par dep u v) ⊎ ((m ≡ top par dep r u) ⊎ (m ≡ top par dep r v))
      go (inl x) (inl y) z = inr (inl (is-top hr hu c.to_first y x))
      go (inl x) (inr y) (inl z) = inr (inl (is-top hr hu c.to_first z x))
      go (inl x) (inr y) (inr z) = inl (is-top hu hv c.across x z)
      go (inr x) (inl y) z = inr (inr (is-top hr hv c.to_second y x))
      go (inr x) (inr y) z = inl (is-top hu hv c.across y x)

  -- it is at least as deep as each of the three
  pub common_deepest :
      (m : ℕ) {r u v : ℕ}
      → r < n
      → u < n
      → v < n
      → Common par dep r u v m
      → (dep (top par dep u v) ≤ dep m) × (dep (top par dep r u) ≤ dep m) × (dep (top par dep r v) ≤ dep m)
  common_deepest m {r} {u} {v} hr hu hv c = (
    anc_dep par dep (top par dep u v) m (on-top R m hu hv c.across),
    anc_dep par dep (top par dep r u) m (on-top R m hr hu c.to_first),
    anc_dep par dep (top par dep r v) m (on-top R m hr hv c.to_second),
  )

  -- a deepest common ancestor of two ends that is as deep as a vertex on their path is that vertex
  pub top_as_deep : (m : ℕ) {u v : ℕ} → u < n → v < n → On par dep m u v → dep (top par dep u v) ≡ dep m → top par dep u v ≡ m
  top_as_deep m {u} {v} hu hv h e = anc_same par dep (top par dep u v) m (on-top R m hu hv h) e

  -- each of the three that is as deep as the common vertex is the common vertex
  pub common_as_deep :
      (m : ℕ) {r u v : ℕ}
      → r < n
      → u < n
      → v < n
      → Common par dep r u v m
      → (dep (top par dep u v) ≡ dep m → top par dep u v ≡ m)
      × (dep (top par dep r u) ≡ dep m → top par dep r u ≡ m)
      × (dep (top par dep r v) ≡ dep m → top par dep r v ≡ m)
  common_as_deep m hr hu hv c =
      (top_as_deep m hu hv c.across, top_as_deep m hr hu c.to_first, top_as_deep m hr hv c.to_second)

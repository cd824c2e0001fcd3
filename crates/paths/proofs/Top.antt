-- The deepest common ancestor of two vertices: where their path turns from going up to going down.
use Prim.Native.Nat.{ℕ, ◌+◌, ◌*◌, ◌<◌}
use mathlib.Core.Path.{◌≡◌, sym, ◌∙◌, ap, subst}
use mathlib.Core.Logic.{inl, inr, ⊎_elim, ◌≢◌}
use mathlib.Core.List.{[], ◌∷◌, ◌++◌}
use native.Mathlib.Omega.{arith}
use lib.ListN.{length, length-append}
use Rattle.paths.specs.Walk.{In}
use Rattle.paths.specs.Rooted.{Rooted, Anc}
use Rattle.paths.specs.Route.{ptail, On, top}
use Rattle.paths.proofs.Listed.{in_left, in_snoc}
use Rattle.paths.proofs.Canon.{ptail_same, ptail_up, ptail_down, top_same, top_up, top_down, ends_ind, StepUp, StepDown}
use Rattle.paths.proofs.Above.{anc_refl, anc_same, anc_antisym, anc_up, anc_par, anc-below}
use Rattle.paths.proofs.Steps.{on_same}
use Rattle.paths.proofs.Cut.{cut}

module _ {n root : ℕ} {par dep : ℕ → ℕ} (R : Rooted n root par dep) where
  -- it is an ancestor of both
  pub top_anc : {u v : ℕ} → u < n → v < n → Anc par dep (top par dep u v) u × Anc par dep (top par dep u v) v
  top_anc {u} {v} hu hv = ends_ind R P same up down u v hu hv
    where
      P : ℕ → ℕ → Type 0
      P u v = Anc par dep (top par dep u v) u × Anc par dep (top par dep u v) v

      same : (u : ℕ) → u < n → P u u
      same u hu = rw (top_same par dep u) (anc_refl par dep u, anc_refl par dep u)

      up : StepUp n par dep P
      up u v hu hv d p q ih = rw (top_up R u v hu hv d q) (anc_up R (top par dep (par u) v) hu p ih.0, ih.1)

      down : StepDown n par dep P
      down u v hu hv q ih = rw (top_down R u v hv q) (ih.0, anc_up R (top par dep u (par v)) hv (omega arith) ih.1)

  -- it is an ancestor of the first
  pub top_left : {u v : ℕ} → u < n → v < n → Anc par dep (top par dep u v) u
  top_left hu hv = (top_anc hu hv).0

  -- it is an ancestor of the second
  pub top_right : {u v : ℕ} → u < n → v < n → Anc par dep (top par dep u v) v
  top_right hu hv = (top_anc hu hv).1

  -- each common ancestor is an ancestor of it
  pub top_deepest : (x : ℕ) {u v : ℕ} → u < n → v < n → Anc par dep x u → Anc par dep x v → Anc par dep x (top par dep u v)
  top_deepest x {u} {v} hu hv = ends_ind R P same up down u v hu hv
    where
      P : ℕ → ℕ → Type 0
      P u v = Anc par dep x u → Anc par dep x v → Anc par dep x (top par dep u v)

      same : (u : ℕ) → u < n → P u u
      same u hu a b = rw (top_same par dep u) a

      up : StepUp n par dep P
      up u v hu hv d p q ih a b =
          let f : x ≢ u = λ e. let z = ap dep e in d (sym e ∙ anc_same par dep x v b (omega arith)) in
          rw (top_up R u v hu hv d q) (ih (anc_par R x hu f a) b)

      down : StepDown n par dep P
      down u v hu hv q ih a b =
          let f : x ≢ v = λ e. let z = ap dep e in omega arith in
          rw (top_down R u v hv q) (ih a (anc_par R x hv f b))

  -- a common ancestor that each common ancestor is above is it
  pub top_unique :
      (t : ℕ) {u v : ℕ}
      → u < n
      → v < n
      → Anc par dep t u
      → Anc par dep t v
      → ((x : ℕ) → Anc par dep x u → Anc par dep x v → Anc par dep x t)
      → t ≡ top par dep u v
  top_unique t {u} {v} hu hv a b f =
      anc_antisym par dep t (top par dep u v) (top_deepest t hu hv a b) (f (top par dep u v) (top_left hu hv) (top_right hu hv))

  -- it does not depend on which of the two is first
  pub top_comm : {u v : ℕ} → u < n → v < n → top par dep u v ≡ top par dep v u
  top_comm {u} {v} hu hv = top_unique (top par dep u v) hv hu (top_right hu hv) (top_left hu hv) (λ x a b. top_deepest x hu hv b a)

  -- it is on the path
  pub top_on : {u v : ℕ} → u < n → v < n → On par dep (top par dep u v) u v
  top_on {u} {v} hu hv = ends_ind R P same up down u v hu hv
    where
      P : ℕ → ℕ → Type 0
      P u v = On par dep (top par dep u v) u v

      same : (u : ℕ) → u < n → P u u
      same u hu = inl (top_same par dep u)

      up : StepUp n par dep P
      up u v hu hv d p q ih =
          inr (subst (λ l. In (top par dep u v) l) (sym (ptail_up R u v hu hv d q))
          (subst (λ z. On par dep z (par u) v) (sym (top_up R u v hu hv d q)) ih))

      down : StepDown n par dep P
      down u v hu hv q ih =
          subst (λ l. In (top par dep u v) (u ∷ l)) (sym (ptail_down R u v hv q))
          (subst (λ z. In z (u ∷ (ptail par dep u (par v) ++ (v ∷ [])))) (sym (top_down R u v hv q))
          (in_left (top par dep u (par v)) (u ∷ ptail par dep u (par v)) (v ∷ []) ih))

  -- the path goes up to it and then down
  pub top_cut : {u v : ℕ} → u < n → v < n → ptail par dep u v ≡ ptail par dep u (top par dep u v) ++ ptail par dep (top par dep u v) v
  top_cut {u} {v} hu hv = cut R (top par dep u v) hu hv (top_on hu hv)

  -- the path's length, by the depths
  pub top-length : {u v : ℕ} → u < n → v < n → length (ptail par dep u v) + 2 * dep (top par dep u v) ≡ dep u + dep v
  top-length {u} {v} hu hv = ends_ind R P same up down u v hu hv
    where
      P : ℕ → ℕ → Type 0
      P u v = length (ptail par dep u v) + 2 * dep (top par dep u v) ≡ dep u + dep v

      same : (u : ℕ) → u < n → P u u
      same u hu = rw (top_same par dep u, ptail_same par dep u) (omega arith)

      up : StepUp n par dep P
      up u v hu hv d p q ih =
          let z = R.par_dep u hu p in
          rw (top_up R u v hu hv d q, ptail_up R u v hu hv d q) (omega arith)

      down : StepDown n par dep P
      down u v hu hv q ih =
          let z = R.par_dep v hv (omega arith) in
          let l = length-append (ptail par dep u (par v)) (v ∷ []) in
          rw (top_down R u v hv q, ptail_down R u v hv q) (omega arith)

  -- it is an ancestor of each vertex on the path
  pub on-top : (x : ℕ) {u v : ℕ} → u < n → v < n → On par dep x u v → Anc par dep (top par dep u v) x
  on-top x {u} {v} hu hv = ends_ind R P same up down u v hu hv
    where
      P : ℕ → ℕ → Type 0
      P u v = On par dep x u v → Anc par dep (top par dep u v) x

      same : (u : ℕ) → u < n → P u u
      same u hu h = rw (on_same par dep x u h) (top_left hu hu)

      up : StepUp n par dep P
      up u v hu hv d p q ih (inl e) = rw e (top_left hu hv)
      up u v hu hv d p q ih (inr h) = rw (top_up R u v hu hv d q) (ih (rw (ptail_up R u v hu hv d q) at h))

      down : StepDown n par dep P
      down u v hu hv q ih (inl e) = rw e (top_left hu hv)
      down u v hu hv q ih (inr h) =
          let last : x ≡ v → Anc par dep (top par dep u v) x = λ e. rw e (top_right hu hv) in
          ⊎_elim (λ i. rw (top_down R u v hv q) (ih (inr i))) last
          (in_snoc x v (ptail par dep u (par v)) (rw (ptail_down R u v hv q) at h))

  -- the deepest common ancestor of a vertex and an ancestor is the ancestor
  pub top_of_anc : (t : ℕ) {v : ℕ} → v < n → Anc par dep t v → top par dep v t ≡ t
  top_of_anc t {v} hv a =
      let ht = anc-below R t hv a in
      sym (top_unique t hv ht a (anc_refl par dep t) (λ x b c. c))

-- The subtree of a vertex is an interval of numbers: the ancestors of a vertex are the vertices whose interval holds its number.
use Prim.Native.Nat.{ℕ, ◌+◌, ◌≤◌, ◌<◌}
use native.Mathlib.Omega.{arith}
use mathlib.Core.Path.{◌≡◌, refl, sym, ap, subst}
use mathlib.Core.Logic.{◌⊎◌, inl, inr, ⊎_elim, ◌↔◌}
use mathlib.Core.List.{List}
use Rattle.sums.proofs.Pigeon.{Injective}
use Rattle.paths.specs.Walk.{In}
use Rattle.paths.specs.Rooted.{Anc}
use Rattle.paths.proofs.Canon.{ends_ind, root_ind, StepUp, StepDown}
use Rattle.paths.proofs.Above.{anc_refl, anc_same, anc_up, anc_step}
use Rattle.numbering.specs.Numbering.{Arrangement}
use Rattle.numbering.proofs.Tiles.{Apart, apart_swap, tile_inside, tile_apart}

module _ {n root : ℕ} {par dep head id size : ℕ → ℕ} {kids : ℕ → List ℕ} (N : Arrangement n root par dep head id size kids) where
  -- a vertex is among its parent's children
  pub among_kids : {v : ℕ} → v < n → 0 < dep v → In v (kids (par v))
  among_kids {v} hv p = ((N.arranged (par v) (N.rooted.par_below v hv p)).children v).1 (hv, (p, refl))

  -- a subtree holds its vertex
  pub size_pos : {u : ℕ} → u < n → 1 ≤ size u
  size_pos {u} hu = let e = (N.arranged u hu).sizes in omega arith

  -- the numbers of a child's subtree lie behind the parent's number, within the parent's subtree
  pub child_inside : {v : ℕ} → v < n → 0 < dep v → (id (par v) < id v) × (id v + size v ≤ id (par v) + size (par v))
  child_inside {v} hv p =
      let a = N.arranged (par v) (N.rooted.par_below v hv p) in
      let t = tile_inside id size (id (par v) + 1) (kids (par v)) v a.numbers (among_kids hv p) in
      let s = a.sizes in
      omega arith

  -- the numbers of two siblings' subtrees lie apart
  siblings_apart : {u v : ℕ} → u < n → v < n → 0 < dep u → 0 < dep v → par u ≡ par v → (u ≡ v) ⊎ Apart id size u v
  siblings_apart {u} {v} hu hv p q e =
      tile_apart id size (id (par v) + 1) (kids (par v)) u v (N.arranged (par v) (N.rooted.par_below v hv q)).numbers
      (subst (λ (w : ℕ). In u (kids w)) e (among_kids hu p)) (among_kids hv q)

  -- the subtree of a vertex lies within that of its ancestor
  pub anc_inside : (x : ℕ) {v : ℕ} → v < n → Anc par dep x v → (id x ≤ id v) × (id v + size v ≤ id x + size x)
  anc_inside x {v} hv = root_ind N.rooted P start step v hv
    where
      P : ℕ → Type 0
      P v = Anc par dep x v → (id x ≤ id v) × (id v + size v ≤ id x + size x)

      same : (v : ℕ) → x ≡ v → (id x ≤ id v) × (id v + size v ≤ id x + size x)
      same v e = let a = ap id e in let b = ap size e in omega arith

      start : P root
      start a = ⊎_elim (same root) (λ q. let z = N.rooted.root_top in absurd (omega arith)) (anc_step N.rooted x N.rooted.root_below a)

      step : (v : ℕ) → v < n → 0 < dep v → P (par v) → P v
      step v hv p ih a =
          let c = child_inside hv p in
          ⊎_elim (same v) (λ q. let r = ih q.1 in omega arith) (anc_step N.rooted x hv a)

  -- of two vertices one is above the other, or their subtrees lie apart
  pub nested_or_apart : {u v : ℕ} → u < n → v < n → Anc par dep u v ⊎ (Anc par dep v u ⊎ Apart id size u v)
  nested_or_apart {u} {v} hu hv = ends_ind N.rooted P same up down u v hu hv
    where
      P : ℕ → ℕ → Type 0
      P u v = Anc par dep u v ⊎ (Anc par dep v u ⊎ Apart id size u v)

      same : (u : ℕ) → u < n → P u u
      same u hu = inl (anc_refl par dep u)

      outside : (u v : ℕ) → u < n → 0 < dep u → Apart id size (par u) v → Apart id size u v
      outside u v hu p (inl h) = let c = child_inside hu p in inl (omega arith)
      outside u v hu p (inr h) = let c = child_inside hu p in inr (omega arith)

      up : StepUp n par dep P
      up u v hu hv d p q (inr (inl a)) = inr (inl (anc_up N.rooted v hu p a))
      up u v hu hv d p q (inr (inr h)) = inr (inr (outside u v hu p h))
      up u v hu hv d p q (inl a) =
          let z = N.rooted.par_dep u hu p in
          ⊎_elim (λ e. inr (inl (anc_up N.rooted v hu p (subst (Anc par dep v) (sym e) (anc_refl par dep v)))))
          (λ s.
          let y = N.rooted.par_dep v hv s.0 in
          let e = anc_same par dep (par u) (par v) s.1 (omega arith) in
          ⊎_elim (λ f. absurd (d f)) (λ h. inr (inr h)) (siblings_apart hu hv p s.0 e))
          (anc_step N.rooted (par u) hv a)

      down : StepDown n par dep P
      down u v hu hv q (inl a) = inl (anc_up N.rooted u hv (omega arith) a)
      down u v hu hv q (inr (inl a)) =
          let z = N.rooted.par_dep v hv (omega arith) in
          let e = anc_same par dep (par v) u a (omega arith) in
          inl (anc_up N.rooted u hv (omega arith) (subst (Anc par dep u) (sym e) (anc_refl par dep u)))
      down u v hu hv q (inr (inr h)) =
          inr (inr (apart_swap id size v u (outside v u hv (omega arith) (apart_swap id size u (par v) h))))

  -- an ancestor with the same number is the vertex itself
  same_above : (u : ℕ) {v : ℕ} → v < n → Anc par dep u v → id u ≡ id v → u ≡ v
  same_above u {v} hv a e =
      ⊎_elim (λ s. s)
      (λ s. (let c = child_inside hv s.0 in let i = anc_inside u (N.rooted.par_below v hv s.0) s.1 in absurd (omega arith)))
      (anc_step N.rooted u hv a)

  -- no two vertices have one number
  pub id_injective : Injective n id
  id_injective u v hu hv e = from (nested_or_apart hu hv)
    where
      from : Anc par dep u v ⊎ (Anc par dep v u ⊎ Apart id size u v) → u ≡ v
      from (inl a) = same_above u hv a e
      from (inr (inl a)) = sym (same_above v hu a (sym e))
      from (inr (inr (inl o))) = let s = size_pos hu in absurd (omega arith)
      from (inr (inr (inr o))) = let s = size_pos hv in absurd (omega arith)

  -- u is above v exactly if v's number is in u's interval
  pub anc_interval : {u v : ℕ} → u < n → v < n → Anc par dep u v ↔ ((id u ≤ id v) × (id v < id u + size u))
  anc_interval {u} {v} hu hv = (λ a. let r = anc_inside u hv a in let s = size_pos hv in omega arith, λ h. from h (nested_or_apart hu hv))
    where
      from : (id u ≤ id v) × (id v < id u + size u) → Anc par dep u v ⊎ (Anc par dep v u ⊎ Apart id size u v) → Anc par dep u v
      from h (inl a) = a
      from h (inr (inl a)) =
          let r = anc_inside v hu a in
          let e : u ≡ v = id_injective u v hu hv (omega arith) in
          subst (Anc par dep u) e (anc_refl par dep u)
      from h (inr (inr (inl o))) = absurd (omega arith)
      from h (inr (inr (inr o))) = let s = size_pos hv in absurd (omega arith)

-- Chains: each vertex is on the chain of its head, and behind a vertex its chain's numbers rise with the depth.
use Prim.Native.Nat.{ℕ, zero, suc, ◌+◌, ◌*◌, ◌≤◌, ◌<◌}
use native.Mathlib.Omega.{arith}
use native.Mathlib.Decide.{dec_le}
use mathlib.Core.Path.{◌≡◌, sym, ap, subst, ◌∙◌}
use mathlib.Core.Logic.{◌⊎◌, inl, inr, ⊎_elim}
use mathlib.Core.List.{List}
use Rattle.paths.specs.Rooted.{Anc}
use Rattle.paths.proofs.Canon.{root_ind}
use Rattle.paths.proofs.Above.{anc_refl, anc_up, anc_step, anc-below, par_no_anc}
use Rattle.numbering.specs.Numbering.{Numbering}
use Rattle.numbering.proofs.Tiles.{chained_in}
use Rattle.numbering.proofs.Subtrees.{among_kids, child_inside, anc_inside}

module _ {n root : ℕ} {par dep head id order size : ℕ → ℕ} {kids : ℕ → List ℕ} (N : Numbering n root par dep head id order size kids) where
  -- a vertex goes on its parent's chain, right behind it, or heads its own chain and its parent's subtree is more than twice as large
  child_step :
      {v : ℕ} → v < n → 0 < dep v
      → ((head v ≡ head (par v)) × (id v ≡ id (par v) + 1)) ⊎ ((head v ≡ v) × (2 * (size v + 1) ≤ size (par v) + 1))
  child_step {v} hv p =
      let a = N.arrangement.arranged (par v) (N.arrangement.rooted.par_below v hv p) in
      let z = a.sizes in
      ⊎_elim inl (λ r. inr (r.0, omega arith))
      (chained_in head id size (head (par v)) (id (par v) + 1) (kids (par v)) v a.chain a.numbers (among_kids N.arrangement hv p))

  -- what holds of the root, of a light child, and of a heavy child if it holds of its parent, holds of all vertices
  chain_down_ind :
      (P : ℕ → Type 0)
      → P root
      → ((v : ℕ) → v < n → 0 < dep v → head v ≡ v → P v)
      → ((v : ℕ) → v < n → 0 < dep v → head v ≡ head (par v) → id v ≡ id (par v) + 1 → P (par v) → P v)
      → (v : ℕ)
      → v < n
      → P v
  chain_down_ind P start light heavy =
      root_ind N.arrangement.rooted P start (λ v hv p ih. ⊎_elim (λ r. heavy v hv p r.0 r.1 ih) (λ r. light v hv p r.0) (child_step hv p))

  -- the head of a vertex's chain is above it
  pub head_anc : {v : ℕ} → v < n → Anc par dep (head v) v
  head_anc {v} hv =
      chain_down_ind (λ v. Anc par dep (head v) v) (subst (λ (h : ℕ). Anc par dep h root) (sym N.arrangement.root_head) (anc_refl par dep root))
      (λ v hv p e. subst (λ (h : ℕ). Anc par dep h v) (sym e) (anc_refl par dep v))
      (λ v hv p e f ih. subst (λ (h : ℕ). Anc par dep h v) (sym e) (anc_up N.arrangement.rooted (head (par v)) hv p ih)) v hv

  -- the head is a vertex
  pub head_below : {v : ℕ} → v < n → head v < n
  head_below {v} hv = anc-below N.arrangement.rooted (head v) hv (head_anc hv)

  -- a head is its own head
  pub head_head : {v : ℕ} → v < n → head (head v) ≡ head v
  head_head {v} hv =
      chain_down_ind (λ v. head (head v) ≡ head v) (ap head N.arrangement.root_head) (λ v hv p e. ap head e)
      (λ v hv p e f ih. ap head e ∙ ih ∙ sym e) v hv

  -- the head's number comes first
  pub head_first : {v : ℕ} → v < n → id (head v) ≤ id v
  head_first {v} hv = (anc_inside N.arrangement (head v) hv (head_anc hv)).0

  -- a subtree is no larger than that of the head of the chain
  pub head_size : {v : ℕ} → v < n → size v ≤ size (head v)
  head_size {v} hv = let a = anc_inside N.arrangement (head v) hv (head_anc hv) in omega arith

  -- the head is no deeper
  pub head_dep : {v : ℕ} → v < n → dep (head v) ≤ dep v
  head_dep {v} hv = let a = head_anc hv in omega arith

  -- along a chain the numbers rise as the depths do
  pub head_id : {v : ℕ} → v < n → id v + dep (head v) ≡ id (head v) + dep v
  head_id {v} hv =
      chain_down_ind (λ v. id v + dep (head v) ≡ id (head v) + dep v) (let a = ap dep N.arrangement.root_head in let b = ap id N.arrangement.root_head in omega arith)
      (λ v hv p e. let a = ap dep e in let b = ap id e in omega arith)
      (λ v hv p e f ih. let a = ap dep e in let b = ap id e in let z = N.arrangement.rooted.par_dep v hv p in omega arith) v hv

  -- a vertex but the root has a greater number than its parent
  pub par_first : {v : ℕ} → v < n → 0 < dep v → id (par v) < id v
  par_first hv p = (child_inside N.arrangement hv p).0

  -- a vertex but the root heads its own chain, or goes on its parent's, right behind it
  pub light_or_heavy : {v : ℕ} → v < n → 0 < dep v → (head v ≡ v) ⊎ ((head v ≡ head (par v)) × (id v ≡ id (par v) + 1))
  light_or_heavy hv p = ⊎_elim inr (λ r. inl r.0) (child_step hv p)

  -- the subtree of a vertex that heads its chain is less than half its parent's
  pub light_half : {v : ℕ} → v < n → 0 < dep v → head v ≡ v → 2 * (size v + 1) ≤ size (par v) + 1
  light_half {v} hv p e =
      ⊎_elim
      (λ r. absurd (par_no_anc N.arrangement.rooted hv p (subst (λ (h : ℕ). Anc par dep h (par v)) (sym r.0 ∙ e) (head_anc (N.arrangement.rooted.par_below v hv p)))))
      (λ r. r.1) (child_step hv p)

  -- what is above a vertex, no higher than its head, is on its chain
  pub anc_head : (x : ℕ) {v : ℕ} → v < n → Anc par dep x v → dep (head v) ≤ dep x → head x ≡ head v
  anc_head x {v} hv = chain_down_ind P start light on v hv
    where
      P : ℕ → Type 0
      P v = Anc par dep x v → dep (head v) ≤ dep x → head x ≡ head v

      start : P root
      start a h = ⊎_elim (ap head) (λ q. let z = N.arrangement.rooted.root_top in absurd (omega arith)) (anc_step N.arrangement.rooted x N.arrangement.rooted.root_below a)

      light : (v : ℕ) → v < n → 0 < dep v → head v ≡ v → P v
      light v hv p e a h =
          let y = ap dep e in
          let z = N.arrangement.rooted.par_dep v hv p in
          ⊎_elim (ap head) (λ q. let b = q.1 in absurd (omega arith)) (anc_step N.arrangement.rooted x hv a)

      on : (v : ℕ) → v < n → 0 < dep v → head v ≡ head (par v) → id v ≡ id (par v) + 1 → P (par v) → P v
      on v hv p e f ih a h =
          let y = ap dep e in
          ⊎_elim (ap head) (λ q. ih q.1 (omega arith) ∙ sym e) (anc_step N.arrangement.rooted x hv a)

  -- a chain whose head has depth 0 is the root's
  pub top_chain : {v : ℕ} → v < n → dep (head v) ≡ 0 → head v ≡ root
  top_chain {v} hv z = N.arrangement.rooted.one_root (head v) (head_below hv) z

  -- what holds on the root's chain, and on any other if it holds of the parent of its head, holds of all vertices
  pub chain_ind :
      (P : ℕ → Type 0)
      → ((v : ℕ) → v < n → dep (head v) ≡ 0 → P v)
      → ((v : ℕ) → v < n → 0 < dep (head v) → P (par (head v)) → P v)
      → (v : ℕ)
      → v < n
      → P v
  chain_ind P start step v hv = go (dep v) v hv (omega arith)
    where
      go : (k v : ℕ) → v < n → dep v ≤ k → P v
      go zero v hv h = let a = head_dep hv in start v hv (omega arith)
      go (suc k) v hv h = elim (dec_le 1 (dep (head v))) [
        | yes p ↦
            let a = head_dep hv in
            let z = N.arrangement.rooted.par_dep (head v) (head_below hv) p in
            step v hv p (go k (par (head v)) (N.arrangement.rooted.par_below (head v) (head_below hv) p) (omega arith))
        | no q ↦ start v hv (omega arith)
      ]

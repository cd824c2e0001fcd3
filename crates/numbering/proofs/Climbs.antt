-- Climbing along a chain is counting its numbers down, and two vertices of one chain are one above the other.
use Prim.Native.Nat.{ℕ, zero, suc, ◌+◌, ◌-◌, ◌≤◌, ◌<◌}
use native.Mathlib.Omega.{arith}
use mathlib.Core.Path.{◌≡◌, refl, ap, ◌∙◌}
use mathlib.Core.List.{List}
use Rattle.paths.specs.Rooted.{Rooted, Anc, climb}
use Rattle.paths.specs.Route.{top}
use Rattle.paths.proofs.Above.{anc-below}
use Rattle.paths.proofs.Top.{top_of_anc, top_comm}
use Rattle.numbering.specs.Numbering.{Numbering}
use Rattle.numbering.proofs.Subtrees.{id_injective}
use Rattle.numbering.proofs.Chains.{head_dep, head_id, anc_head}

-- each step up to the root is one less deep
pub climb_dep : {n root : ℕ} {par dep : ℕ → ℕ} → Rooted n root par dep → (k v : ℕ) → v < n → k ≤ dep v → k + dep (climb par k v) ≡ dep v
climb_dep R zero v hv h = omega arith
climb_dep {par = par} R (suc k) v hv h =
    let z = R.par_dep v hv (omega arith) in
    let i = climb_dep R k (par v) (R.par_below v hv (omega arith)) (omega arith) in
    omega arith

-- the k-th vertex on the way up to the root is an ancestor
pub climb_anc : {n root : ℕ} {par dep : ℕ → ℕ} → Rooted n root par dep → (k v : ℕ) → v < n → k ≤ dep v → Anc par dep (climb par k v) v
climb_anc R k v hv h = (k, climb_dep R k v hv h, refl)

module _ {n root : ℕ} {par dep head id order size : ℕ → ℕ} {kids : ℕ → List ℕ} (N : Numbering n root par dep head id order size kids) where
  -- between two vertices of one chain the numbers rise as the depths do
  pub chain_gap : {u v : ℕ} → u < n → v < n → head u ≡ head v → id u + dep v ≡ id v + dep u
  chain_gap {u} {v} hu hv e =
      let a = head_id N hu in
      let b = head_id N hv in
      let y = ap dep e in
      let z = ap id e in
      omega arith

  -- the k-th ancestor on the chain is a vertex
  pub climb-below : (k : ℕ) {v : ℕ} → v < n → k + dep (head v) ≤ dep v → climb par k v < n
  climb-below k {v} hv h = anc-below N.arrangement.rooted (climb par k v) hv (climb_anc N.arrangement.rooted k v hv (omega arith))

  -- it is k steps less deep
  pub climb_depth : (k : ℕ) {v : ℕ} → v < n → k + dep (head v) ≤ dep v → dep (climb par k v) + k ≡ dep v
  climb_depth k {v} hv h = let a = climb_dep N.arrangement.rooted k v hv (omega arith) in omega arith

  -- it is on the chain
  pub climb_head : (k : ℕ) {v : ℕ} → v < n → k + dep (head v) ≤ dep v → head (climb par k v) ≡ head v
  climb_head k {v} hv h =
      let a = climb_depth k hv h in
      anc_head N (climb par k v) hv (climb_anc N.arrangement.rooted k v hv (omega arith)) (omega arith)

  -- its number is less by k
  pub climb_id : (k : ℕ) {v : ℕ} → v < n → k + dep (head v) ≤ dep v → id (climb par k v) + k ≡ id v
  climb_id k {v} hv h =
      let a = climb_depth k hv h in
      let b = chain_gap (climb-below k hv h) hv (climb_head k hv h) in
      omega arith

  -- so `order` finds it
  pub climb_order : (k : ℕ) {v : ℕ} → v < n → k + dep (head v) ≤ dep v → order (id v - k) ≡ climb par k v
  climb_order k {v} hv h =
      let e : id v - k ≡ id (climb par k v) = let a = climb_id k hv h in omega arith in
      ap order e ∙ N.inverse (climb par k v) (climb-below k hv h)

  -- of two vertices of one chain the one no deeper is above the other
  pub same_head_anc : {u v : ℕ} → u < n → v < n → head u ≡ head v → dep u ≤ dep v → Anc par dep u v
  same_head_anc {u} {v} hu hv e h =
      let a = head_dep N hu in
      let y = ap dep e in
      let k : ℕ = dep v - dep u in
      let q : k + dep (head v) ≤ dep v = omega arith in
      let b = climb_id k hv q in
      let c = chain_gap hu hv e in
      (k, omega arith, id_injective N.arrangement (climb par k v) u (climb-below k hv q) hu (omega arith))

  -- and their deepest common ancestor
  pub same_head-top : {u v : ℕ} → u < n → v < n → head u ≡ head v → dep u ≤ dep v → top par dep u v ≡ u
  same_head-top {u} {v} hu hv e h = top_comm N.arrangement.rooted hu hv ∙ top_of_anc N.arrangement.rooted u hv (same_head_anc hu hv e h)

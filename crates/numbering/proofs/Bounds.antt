-- A vertex has at most log2 n light edges above it, since each at least halves the subtree.
use Prim.Native.Nat.{ℕ, zero, suc, ◌+◌, ◌*◌, ◌^◌, ◌≤◌, ◌<◌}
use native.Mathlib.Omega.{arith}
use native.Mathlib.Decide.{dec_le}
use native.Mathlib.Nat.{pow-suc, two-pow-succ, mul_assoc, mul-le-mul_left}
use mathlib.Core.Path.{◌≡◌, refl, sym, ap, ◌∙◌}
use mathlib.Core.List.{List}
use lib.Pow.{pow_pos}
use borrow.Author.Tests.{lt-ltb, le-ltb}
use Rattle.numbering.specs.Numbering.{Numbering}
use Rattle.numbering.specs.Lights.{chains_left, lights}
use Rattle.numbering.specs.Log.{log2}
use Rattle.numbering.proofs.Logs.{log2_greatest}
use Rattle.numbering.proofs.Subtrees.{size_pos}
use Rattle.numbering.proofs.Whole.{root_size}
use Rattle.numbering.proofs.Chains.{head_below, head_head, head_dep, head_size, light_half, top_chain, chain_ind}

-- on the chain of a vertex of depth 0 no chain is left
chains_left_none : (k : ℕ) (par dep head : ℕ → ℕ) (v : ℕ) → dep (head v) ≡ 0 → chains_left k par dep head v ≡ 0
unfolding chains_left
chains_left_none zero par dep head v z = refl
chains_left_none (suc k) par dep head v z = rw (le-ltb 0 (dep (head v)) (omega arith), chains_left)

-- on any other the chain is left and then those above it
chains_left-one : (k : ℕ) (par dep head : ℕ → ℕ) (v : ℕ) → 0 < dep (head v) → chains_left (suc k) par dep head v ≡ suc (chains_left k par dep head (par (head v)))
unfolding chains_left
chains_left-one k par dep head v p = rw (lt-ltb 0 (dep (head v)) p, chains_left)

-- on the root's chain there is no light edge above
pub lights_none : (par dep head : ℕ → ℕ) (v : ℕ) → dep (head v) ≡ 0 → lights par dep head v ≡ 0
unfolding lights
lights_none par dep head v z = chains_left_none (dep v) par dep head v z

-- one more on both sides
add-one_mono : {a b : ℕ} → a ≤ b → a + 1 ≤ b + 1
add-one_mono h = omega arith

module _ {n root : ℕ} {par dep head id order size : ℕ → ℕ} {kids : ℕ → List ℕ} (N : Numbering n root par dep head id order size kids) where
  -- as many steps as the depth are enough
  chains_left_enough : (k j v : ℕ) → v < n → dep v ≤ k → dep v ≤ j → chains_left k par dep head v ≡ chains_left j par dep head v
  chains_left_enough zero j v hv a b =
      let h = head_dep N hv in
      chains_left_none zero par dep head v (omega arith) ∙ sym (chains_left_none j par dep head v (omega arith))
  chains_left_enough (suc k) zero v hv a b =
      let h = head_dep N hv in
      chains_left_none (suc k) par dep head v (omega arith) ∙ sym (chains_left_none zero par dep head v (omega arith))
  chains_left_enough (suc k) (suc j) v hv a b = elim (dec_le 1 (dep (head v))) [
    | yes p ↦
        let h = head_dep N hv in
        let z = N.arrangement.rooted.par_dep (head v) (head_below N hv) p in
        let hp = N.arrangement.rooted.par_below (head v) (head_below N hv) p in
        chains_left-one k par dep head v p
        ∙ ap suc (chains_left_enough k j (par (head v)) hp (omega arith) (omega arith))
        ∙ sym (chains_left-one j par dep head v p)
    | no q ↦ chains_left_none (suc k) par dep head v (omega arith) ∙ sym (chains_left_none (suc j) par dep head v (omega arith))
  ]

  -- on any other chain there is one more than above the parent of its head
  pub lights-one : {v : ℕ} → v < n → 0 < dep (head v) → lights par dep head v ≡ suc (lights par dep head (par (head v)))
  unfolding lights
  lights-one {v} hv p =
      let h = head_dep N hv in
      let z = N.arrangement.rooted.par_dep (head v) (head_below N hv) p in
      let hp = N.arrangement.rooted.par_below (head v) (head_below N hv) p in
      chains_left_enough (dep v) (suc (dep v)) v hv (omega arith) (omega arith)
      ∙ chains_left-one (dep v) par dep head v p
      ∙ ap suc (chains_left_enough (dep v) (dep (par (head v))) (par (head v)) hp (omega arith) (omega arith))

  -- doubled for each light edge above, the subtree of a chain is no larger than the tree
  lights_double : {v : ℕ} → v < n → 2 ^ lights par dep head v * (size (head v) + 1) ≤ n + 1
  lights_double {v} hv = chain_ind N P start step v hv
    where
      P : ℕ → Type 0
      P v = 2 ^ lights par dep head v * (size (head v) + 1) ≤ n + 1

      start : (v : ℕ) → v < n → dep (head v) ≡ 0 → P v
      start v hv z = let s = root_size N.arrangement in rw (lights_none par dep head v z, top_chain N hv z) (omega arith)

      step : (v : ℕ) → v < n → 0 < dep (head v) → P (par (head v)) → P v
      step v hv p ih =
          let hh = head_below N hv in
          let s = head_size N (N.arrangement.rooted.par_below (head v) hh p) in
          let l = light_half N hh p (head_head N hv) in
          let m = mul-le-mul_left (2 ^ lights par dep head (par (head v))) l in
          let b = mul-le-mul_left (2 ^ lights par dep head (par (head v))) (add-one_mono s) in
          rw (lights-one hv p, pow-suc 2 (lights par dep head (par (head v))), mul_assoc) (omega arith)

  -- doubled for each light edge above, a subtree is no larger than the tree
  pub lights_size : {v : ℕ} → v < n → 2 ^ lights par dep head v * (size v + 1) ≤ n + 1
  lights_size {v} hv =
      let m = mul-le-mul_left (2 ^ lights par dep head v) (add-one_mono (head_size N hv)) in
      let d = lights_double hv in
      omega arith

  -- with one more doubling for the vertex itself
  pub lights_tight : {v : ℕ} → v < n → 2 ^ (lights par dep head v + 1) ≤ n + 1
  lights_tight {v} hv =
      let m = mul-le-mul_left (2 ^ lights par dep head v) (add-one_mono (size_pos N.arrangement hv)) in
      let d = lights_size hv in
      let e : lights par dep head v + 1 ≡ suc (lights par dep head v) = omega arith in
      rw (e, pow-suc 2 (lights par dep head v)) (omega arith)

  -- so 2 to the number of light edges is at most the number of vertices
  pub lights_power : {v : ℕ} → v < n → 2 ^ lights par dep head v ≤ n
  lights_power {v} hv =
      let t = lights_tight hv in
      let e : lights par dep head v + 1 ≡ suc (lights par dep head v) = omega arith in
      let d = ap (λ (k : ℕ). 2 ^ k) e ∙ two-pow-succ (lights par dep head v) in
      let p = pow_pos (lights par dep head v) in
      omega arith

  -- there are at most log2 n light edges above a vertex
  pub lights_log : {v : ℕ} → v < n → lights par dep head v ≤ log2 n
  lights_log {v} hv = log2_greatest (lights par dep head v) n (lights_power hv)

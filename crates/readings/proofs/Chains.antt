-- What a path has of the chains at its ends: the numbers that their ranges read.
use Prim.Native.Nat.{ℕ, zero, suc, ◌+◌, ◌≤◌, ◌<◌}
use native.Mathlib.Omega.{arith}
use mathlib.Core.Path.{◌≡◌, sym, ap, ◌∙◌}
use mathlib.Core.Logic.{◌≢◌}
use mathlib.Core.List.{List, ◌++◌, append-nil, append_assoc, reverse-append}
use Rattle.paths.specs.Rooted.{Anc, climb}
use Rattle.paths.specs.Route.{ptail}
use Rattle.paths.proofs.Canon.{ptail_same}
use Rattle.paths.proofs.Above.{climb_add, anc_trans}
use Rattle.numbering.specs.Numbering.{Numbering}
use Rattle.numbering.proofs.Chains.{head_anc, head_below, head_dep, head_id, par_first}
use Rattle.numbering.proofs.Climbs.{climb_dep, climb_anc, climb_head, climb_id, chain_gap, same_head_anc}
use Rattle.numbering.proofs.Leaves.{other_chain, deeper_head_pos}
use Rattle.ranges.specs.Ranges.{piece, chain_range, last_range}
use Rattle.ranges.specs.Readings.{read_range, reading}
use Rattle.ranges.specs.declared.kinds.Direction.TheVariants.{Forward, Reversed}
use Rattle.ranges.specs.declared.kinds.Kind.{Kind}
use Rattle.readings.specs.Numbers.{numbers_of}
use Rattle.readings.proofs.Runs.{step_up, steps_up, chain_reads, last_reads, chain-turned, last-turned}
use Rattle.readings.proofs.Numbers.{numbers_alone, numbers_leave, numbers_turn}

module _
    {n root : ℕ} {par dep head id order size : ℕ → ℕ} {kids : ℕ → List ℕ}
    (N : Numbering n root par dep head id order size kids) (kind : Kind) where
  -- the numbers of the path from u to v
  abbrev along : ℕ → ℕ → List ℕ
  along u v = numbers_of kind dep id u (ptail par dep u v)

  -- a path that leaves k + 1 vertices of its first chain begins with k + 1 steps up it
  climb_reads :
      (k l x : ℕ) {y : ℕ} → x < n → y < n → k + dep (head x) ≤ dep x → id x ≡ l + k → (Anc par dep (climb par k x) y → ⊥)
      → along x y ≡ steps_up kind l (suc k) ++ along (climb par (suc k) x) y
  climb_reads zero l x {y} hx hy h e f =
      rw (numbers_leave N.arrangement.rooted kind id hx hy f, e, append-nil (step_up kind (l + zero)))
  climb_reads (suc k) l x {y} hx hy h e f =
      let a = climb_anc N.arrangement.rooted (suc k) x hx (omega arith) in
      let g : Anc par dep x y → ⊥ = λ b. f (anc_trans par dep (climb par (suc k) x) x y a b) in
      let z = N.arrangement.rooted.par_dep x hx (omega arith) in
      let i = climb_id N 1 hx (omega arith) in
      let d = ap dep (climb_head N 1 hx (omega arith)) in
      let hp = N.arrangement.rooted.par_below x hx (omega arith) in
      let r = climb_reads k l (par x) hp hy (omega arith) (omega arith) f in
      rw (numbers_leave N.arrangement.rooted kind id hx hy g, e, r)
      (sym (append_assoc (step_up kind (l + suc k)) (steps_up kind l (suc k)) (along (climb par (suc (suc k)) x) y)))

  -- a path that leaves its first chain begins with what the chain's range reads
  pub chain_left :
      {x y : ℕ} → x < n → y < n → head x ≢ head y → dep (head y) ≤ dep (head x)
      → along x y ≡ read_range (chain_range kind (piece (id (head x)) (id x + 1) Reversed)) ++ along (par (head x)) y
  chain_left {x} {y} hx hy d h =
      let a = head_anc N hx in
      let i = head_id N hx in
      let p = par_first N (head_below N hx) (deeper_head_pos N hx hy d h) in
      let s : suc a.0 ≡ a.0 + 1 = omega arith in
      let up : climb par (suc a.0) x ≡ par (head x) = ap (λ (k : ℕ). climb par k x) s ∙ climb_add par a.0 1 x ∙ ap par a.2 in
      climb_reads a.0 (id (head x)) x hx hy (omega arith) (omega arith) (rw a.2 (other_chain N hx hy d h))
      ∙ rw (up, chain_reads kind (id (head x)) (id x + 1) (suc a.0) (omega arith) (omega arith))

  -- a path that comes to its last chain ends with what the chain's range reads
  pub chain-entered :
      {x y : ℕ} → x < n → y < n → head x ≢ head y → dep (head x) ≤ dep (head y)
      → along x y ≡ along x (par (head y)) ++ read_range (chain_range kind (piece (id (head y)) (id y + 1) Forward))
  chain-entered {x} {y} hx hy d h =
      let e : head y ≢ head x = λ q. d (sym q) in
      let hp = N.arrangement.rooted.par_below (head y) (head_below N hy) (deeper_head_pos N hy hx e h) in
      rw (
        numbers_turn N.arrangement.rooted kind id hy hx,
        chain_left hy hx e h,
        reverse-append (read_range (chain_range kind (piece (id (head y)) (id y + 1) Reversed))) (along (par (head y)) x),
        chain-turned kind (id (head y)) (id y + 1),
        numbers_turn N.arrangement.rooted kind id hp hx,
      )

  -- a path up one chain is what its last range reads
  pub chain_last_up : {x z : ℕ} → x < n → z < n → head x ≡ head z → dep z ≤ dep x
      → along x z ≡ reading (last_range kind (piece (id z) (id x + 1) Reversed))
  chain_last_up {x} {z} hx hz e h = let a = same_head_anc N hz hx (sym e) h in go a.0 a.1 a.2
    where
      go : (k : ℕ) → k + dep z ≡ dep x → climb par k x ≡ z → along x z ≡ reading (last_range kind (piece (id z) (id x + 1) Reversed))
      go zero i c = rw (c, ptail_same par dep z, numbers_alone kind dep id z) (last_reads kind (id z) (id z + 1) zero (omega arith))
      go (suc k) i c =
          let q = head_dep N hz in
          let b = ap dep e in
          let g = chain_gap N hx hz e in
          let s = climb_dep N.arrangement.rooted k x hx (omega arith) in
          climb_reads k (suc (id z)) x hx hz (omega arith) (omega arith) (λ a. omega arith)
          ∙ rw (c, ptail_same par dep z, numbers_alone kind dep id z) (last_reads kind (id z) (id x + 1) (suc k) (omega arith))

  -- and so is one down it
  pub chain_last_down : {x z : ℕ} → x < n → z < n → head x ≡ head z → dep x ≤ dep z
      → along x z ≡ reading (last_range kind (piece (id x) (id z + 1) Forward))
  chain_last_down {x} {z} hx hz e h =
      rw (numbers_turn N.arrangement.rooted kind id hz hx, chain_last_up hz hx (sym e) h) (sym (last-turned kind (id x) (id z + 1)))

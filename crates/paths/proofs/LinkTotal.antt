-- A rooted tree of n vertices has n - 1 children, so its lists have twice as many entries.
use Prim.Native.Nat.{ℕ, ◌+◌, ◌-◌, ◌*◌, ◌<◌}
use mathlib.Core.Path.{◌≡◌, sym, ap}
use native.Mathlib.Omega.{arith}
use native.Mathlib.Decide.{dec_le}
use lib.Dec.{eqb}
use Rattle.sums.specs.Sum.{tally, sum}
use Rattle.paths.specs.Rooted.{Rooted}
use Rattle.paths.specs.Route.{child?, links}
use Rattle.sums.proofs.Sums.{sum_ext, sum_add, sum_zeros, sum_ones, sum_swap, sum-pick, tally_same, tally_other}
use Rattle.paths.proofs.Links.{child_none, child-test}

module _ {n root : ℕ} {par dep : ℕ → ℕ} (R : Rooted n root par dep) where
  -- each vertex but the root has one parent
  pub one_parent : (v : ℕ) → v < n → sum n (λ u. tally (child? par dep u v)) + tally (eqb root v) ≡ 1
  one_parent v hv = elim (dec_le 1 (dep v)) [
    | yes p ↦
        let a = sum_ext n (λ u. tally (child? par dep u v)) (λ u. tally (eqb (par v) u)) (λ u hu. ap tally (child-test par dep u v p)) in
        let b = sum-pick n (par v) (R.par_below v hv p) in
        let c = tally_other root v (λ e. let z = ap dep e in let y = R.root_top in omega arith) in
        omega arith
    | no q ↦
        let a = sum_ext n (λ u. tally (child? par dep u v)) (λ u. 0) (λ u hu. child_none par dep u v (λ c. q c.0)) in
        let b = sum_zeros n in
        let c = tally_same root v (sym (R.one_root v hv (omega arith))) in
        omega arith
  ]

  -- all vertices but the root are children
  pub child-total : sum n (λ v. sum n (λ u. tally (child? par dep u v))) + 1 ≡ n
  child-total =
      let a = sum_add n (λ v. sum n (λ u. tally (child? par dep u v))) (λ v. tally (eqb root v)) in
      let b = sum_ext n (λ v. sum n (λ u. tally (child? par dep u v)) + tally (eqb root v)) (λ v. 1) one_parent in
      let c = sum_ones n in
      let d = sum-pick n root R.root_below in
      omega arith

  -- the links of all vertices together
  pub links-total : sum n (λ u. sum n (λ v. links par dep u v)) ≡ 2 * (n - 1)
  links-total =
      let c = child-total in
      let s = sum_swap n n (λ u v. tally (child? par dep u v)) in
      let each = sum_ext n (λ u. sum n (λ v. links par dep u v))
      (λ u. sum n (λ v. tally (child? par dep u v)) + sum n (λ v. tally (child? par dep v u)))
      (λ u hu. sum_add n (λ v. tally (child? par dep u v)) (λ v. tally (child? par dep v u))) in
      let a = sum_add n (λ u. sum n (λ v. tally (child? par dep u v))) (λ u. sum n (λ v. tally (child? par dep v u))) in
      omega arith

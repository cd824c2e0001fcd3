-- Lists whose vertices are all reached, each standing in its parent's list and its parent in its own, are a tree exactly if they have
-- 2 (n - 1) entries.
use Prim.Native.Nat.{ℕ, ◌-◌, ◌*◌, ◌≤◌, ◌<◌}
use native.Mathlib.Omega.{arith}
use mathlib.Core.Path.{◌≡◌, sym, ◌∙◌, subst}
use mathlib.Core.Logic.{⊎_elim, by_cases}
use mathlib.Core.List.{List}
use lib.ListN.{length}
use Rattle.sums.specs.Sum.{sum, count}
use Rattle.sums.proofs.Sums.{sum_ext, sum_mono, sum_tight}
use Rattle.paths.specs.Walk.{In, Below}
use Rattle.paths.specs.Tree.{Symmetric, Tree}
use Rattle.paths.specs.Rooted.{Rooted, Child}
use Rattle.paths.specs.Route.{links}
use Rattle.paths.proofs.Counted.{in_count, count_in, count-length}
use Rattle.paths.proofs.Links.{links-one, links_none, link_dec, links_tree, tree-links}
use Rattle.paths.proofs.LinkTotal.{links-total}

-- all entries of all lists
abbrev pub entry_count : ℕ → (ℕ → List ℕ) → ℕ
entry_count n A = sum n (λ u. length (A u))

module _ {n root : ℕ} (A : ℕ → List ℕ) {par dep : ℕ → ℕ} (R : Rooted n root par dep) (held : (v : ℕ) → v < n → 0 < dep v → In v (A (par v)))
    (below : (u : ℕ) → u < n → Below n (A u)) where
  -- the entries are the counts together
  count-total : entry_count n A ≡ sum n (λ u. sum n (λ v. count v (A u)))
  count-total = sum_ext n (λ u. length (A u)) (λ u. sum n (λ v. count v (A u))) (λ u h. sym (count-length n (A u) (below u h)))

  -- a tree has as many entries as links
  pub tree_entries : Tree n A → entry_count n A ≡ 2 * (n - 1)
  tree_entries t =
      count-total
      ∙ sum_ext n (λ u. sum n (λ v. count v (A u))) (λ u. sum n (λ v. links par dep u v))
      (λ u hu. sum_ext n (λ v. count v (A u)) (λ v. links par dep u v) (λ v hv. tree-links R A t held u v hu hv))
      ∙ links-total R

  -- in symmetric lists each vertex but the root has its parent in its own list
  pub symmetric_back : Symmetric n A → (v : ℕ) → v < n → 0 < dep v → In (par v) (A v)
  symmetric_back s v h d =
      count_in (par v) (A v) (let k = in_count v (A (par v)) (held v h d) in let e = s (par v) v (R.par_below v h d) h in omega arith)

  module _ (back : (v : ℕ) → v < n → 0 < dep v → In (par v) (A v)) where
    -- each link stands in the lists
    links_stand : (u v : ℕ) → u < n → v < n → links par dep u v ≤ count v (A u)
    links_stand u v hu hv =
        by_cases (link_dec R u v)
        (λ c. (let one = links-one R hu hv c in let k = ⊎_elim (down u v hu hv) (up u v hu hv) c in omega arith))
        (λ d. (let none = links_none R u v d in omega arith))
      where
        down : (u v : ℕ) → u < n → v < n → Child par dep u v → 0 < count v (A u)
        down u v hu hv c = in_count v (A u) (subst (λ (x : ℕ). In v (A x)) c.1 (held v hv c.0))

        up : (u v : ℕ) → u < n → v < n → Child par dep v u → 0 < count v (A u)
        up u v hu hv c = in_count v (A u) (subst (λ (x : ℕ). In x (A u)) c.1 (back u hu c.0))

    links-sum : (u : ℕ) → u < n → sum n (λ v. links par dep u v) ≤ sum n (λ v. count v (A u))
    links-sum u hu = sum_mono n (λ v. links par dep u v) (λ v. count v (A u)) (λ v hv. links_stand u v hu hv)

    -- no more entries than links: no entry is anything else
    pub counts-links : entry_count n A ≡ 2 * (n - 1) → (u v : ℕ) → u < n → v < n → count v (A u) ≡ links par dep u v
    counts-links few u v hu hv =
        let total = links-total R in
        let c = count-total in
        let row : sum n (λ v. links par dep u v) ≡ sum n (λ v. count v (A u)) =
        sum_tight n (λ u. sum n (λ v. links par dep u v)) (λ u. sum n (λ v. count v (A u))) links-sum (omega arith) u hu in
        sym (sum_tight n (λ v. links par dep u v) (λ v. count v (A u)) (λ v hv. links_stand u v hu hv) (omega arith) v hv)

    pub entries_tree : entry_count n A ≡ 2 * (n - 1) → Tree n A
    entries_tree few = links_tree R A (counts-links few) below

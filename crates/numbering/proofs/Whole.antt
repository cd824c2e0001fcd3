-- The numbers of a tree are those below n: a subtree's numbers are an interval, and the root's is all of them.
use Prim.Native.Nat.{ℕ, zero, suc, ◌+◌, ◌≤◌, ◌<◌}
use native.Mathlib.Omega.{arith}
use native.Mathlib.Decide.{ℕ_discrete}
use mathlib.Core.Path.{◌≡◌}
use mathlib.Core.List.{List}
use Rattle.sums.proofs.Pigeon.{injective_le, onto_le}
use Rattle.paths.proofs.Above.{root_anc}
use Rattle.numbering.specs.Numbering.{Arrangement}
use Rattle.numbering.proofs.Tiles.{tile_inside, tile_find}
use Rattle.numbering.proofs.Subtrees.{size_pos, id_injective, anc_inside}

module _ {n root : ℕ} {par dep head id size : ℕ → ℕ} {kids : ℕ → List ℕ} (N : Arrangement n root par dep head id size kids) where
  -- each number of a subtree's interval is a vertex's, found in at most as many steps down as the subtree has vertices
  find_number : (k u i : ℕ) → u < n → size u ≤ k → id u ≤ i → i < id u + size u → (v : ℕ) × (v < n) × (id v ≡ i)
  find_number zero u i hu s a b = let p = size_pos N hu in absurd (omega arith)
  find_number (suc k) u i hu s a b = elim (ℕ_discrete (id u) i) [
    | yes e ↦ (u, hu, e)
    | no d ↦
        let here = N.arranged u hu in
        let z = here.sizes in
        let r = tile_find id size (id u + 1) (kids u) i here.numbers (omega arith) (omega arith) in
        let t = tile_inside id size (id u + 1) (kids u) r.0 here.numbers r.1 in
        find_number k r.0 i ((here.children r.0).0 r.1).0 (omega arith) r.2 r.3
  ]

  -- all numbers are within the root's interval
  root_inside : {v : ℕ} → v < n → id v + size v ≤ size root
  root_inside {v} hv =
      let a = anc_inside N root hv (root_anc N.rooted hv) in
      let z = N.root_id in
      omega arith

  -- the root's subtree is the whole tree
  pub root_size : size root ≡ n
  root_size =
      let z = N.root_id in
      let most = injective_le n (size root) id (id_injective N) (λ v hv. let a = root_inside hv in let p = size_pos N hv in omega arith) in
      let least = onto_le n (size root) id (λ i h. find_number (size root) root i N.rooted.root_below (omega arith) (omega arith) (omega arith)) in
      omega arith

  -- a subtree's numbers are below n
  pub interval-below : {u : ℕ} → u < n → id u + size u ≤ n
  interval-below hu = let a = root_inside hu in let z = root_size in omega arith

  -- a vertex's number is below n
  pub id_below : {v : ℕ} → v < n → id v < n
  id_below hv = let a = interval-below hv in let p = size_pos N hv in omega arith

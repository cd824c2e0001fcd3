-- The answers in 01's words, "by the simple path": whatever list is a simple path of the graph, the answers are read off it.
use Rattle.std.specs.Prelude.{Ok, Err}
use Prim.Native.Nat.{ℕ, ◌≤◌, ◌<◌}
use native.Mathlib.Omega.{arith}
use mathlib.Core.Path.{◌≡◌, ap, subst}
use mathlib.Core.Logic.Iff
use mathlib.Core.Logic.{◌↔◌}
use mathlib.Core.Bool.{Bool, true}
use mathlib.Core.List.{List, ◌∷◌}
use lib.ListN.{length, get_or}
use Rattle.sums.specs.Sum.{how_many}
use Rattle.paths.specs.Walk.{In, Stands, Simple}
use Rattle.paths.proofs.Listed.{in-below, from_last}
use Rattle.paths.proofs.Unique.{path_simple, path_unique}
use Rattle.tables.specs.Tables.{Six}
use Rattle.queries.specs.Queries.{distance, kth_ancestor, jump, lca, subtree_size}
use Rattle.pathlaws.specs.Given.{Given, OnIn}
use Rattle.pathlaws.proofs.KthAncestor.{kth_on_path, kth_too_far, depth_path}
use Rattle.pathlaws.proofs.Jumps.{distance_answer, jump_answer, jump_too_far}
use Rattle.pathlaws.proofs.Lca.{lca_answer}
use Rattle.pathlaws.proofs.SubtreeSizes.{subtree_size_counts}
use Rattle.answers.specs.declared.answer.Refusal.TheVariants.{TooFar}

module _ {n : ℕ} {E : ℕ → ℕ → Type 0} {u v : ℕ} {P : List ℕ} (s : Simple n E u v P) where
  -- a path begins at a vertex
  first_below : u < n
  first_below = s.below.0

  -- and ends at one
  last-below : v < n
  last-below = in-below n v (u ∷ P) s.below (from_last E u v P s.walk)

module _ {n root : ℕ} {A : ℕ → List ℕ} {t : Six} {kids : ℕ → List ℕ} (G : Given n A root t kids) where
  -- `distance` is the length of the simple path
  pub distance_simple : {u v : ℕ} {P : List ℕ} → Simple n (Stands A) u v P → distance t u v ≡ Ok (length P)
  distance_simple s = rw (path_unique G.tables.spans s) (distance_answer G (first_below s) (last-below s))

  -- `jump` is the k-th vertex on it
  pub jump_simple : (k : ℕ) {u v : ℕ} {P : List ℕ} → Simple n (Stands A) u v P → k ≤ length P → jump t u v k ≡ Ok (get_or (u ∷ P) k 0)
  jump_simple k s h =
      let e = path_unique G.tables.spans s in
      let l = ap length e in
      rw e (jump_answer G k (first_below s) (last-below s) (omega arith))

  -- and refused if k exceeds its length
  pub jump_simple_too_far : (k : ℕ) {u v : ℕ} {P : List ℕ} → Simple n (Stands A) u v P → length P < k → jump t u v k ≡ Err TooFar
  jump_simple_too_far k s h =
      let l = ap length (path_unique G.tables.spans s) in
      jump_too_far G k (first_below s) (last-below s) (omega arith)

  -- `kth_ancestor` is the k-th vertex on the simple path to the root
  pub kth_simple : (k : ℕ) {v : ℕ} {P : List ℕ} → Simple n (Stands A) v root P → k ≤ length P → kth_ancestor t v k ≡ Ok (get_or (v ∷ P) k 0)
  kth_simple k s h =
      let e = path_unique G.tables.spans s in
      let l = ap length e in
      let d = depth_path G (first_below s) in
      rw e (kth_on_path G k (first_below s) (omega arith))

  -- and refused if k exceeds its length
  pub kth_simple_too_far : (k : ℕ) {v : ℕ} {P : List ℕ} → Simple n (Stands A) v root P → length P < k → kth_ancestor t v k ≡ Err TooFar
  kth_simple_too_far k s h =
      let l = ap length (path_unique G.tables.spans s) in
      let d = depth_path G (first_below s) in
      kth_too_far G k (first_below s) (omega arith)

  -- what is on a simple path is on the path
  simple_on : (x : ℕ) {u v : ℕ} {P : List ℕ} → Simple n (Stands A) u v P → In x (u ∷ P) → OnIn t x u v
  simple_on x {u} s h = subst (λ (l : List ℕ). In x (u ∷ l)) (path_unique G.tables.spans s) h

  -- `lca` is the vertex common to the three simple paths
  pub lca_simple :
      (m : ℕ) {r u v : ℕ} {P Q S : List ℕ}
      → Simple n (Stands A) u v P
      → Simple n (Stands A) r u Q
      → Simple n (Stands A) r v S
      → In m (u ∷ P)
      → In m (r ∷ Q)
      → In m (r ∷ S)
      → lca t r u v ≡ Ok m
  lca_simple m p q s a b c =
      lca_answer G m (first_below q) (first_below p) (last-below p)
      (record { across = simple_on m p a; to_first = simple_on m q b; to_second = simple_on m s c })

  -- `subtree_size` is the number of vertices whose simple path to r passes v
  pub subtree_size_simple :
      {r v : ℕ}
      → r < n
      → v < n
      → (test : ℕ → Bool)
      → ((x : ℕ) → x < n → (test x ≡ true) ↔ ((P : List ℕ) × Simple n (Stands A) x r P × In v (x ∷ P)))
      → subtree_size t r v ≡ Ok (how_many n test)
  subtree_size_simple {r} {v} hr hv test f = subtree_size_counts G hr hv test (λ x hx. Iff.trans (f x hx) (passed x hx))
    where
      passed : (x : ℕ) → x < n → ((P : List ℕ) × Simple n (Stands A) x r P × In v (x ∷ P)) ↔ OnIn t v x r
      passed x hx = (λ p. simple_on v p.1 p.2, λ h. (_, path_simple G.tables.spans hx hr, h))

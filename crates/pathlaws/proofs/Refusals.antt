-- Which refusals a query on a numbering gives: never 9, and 10 exactly if k is too far.
use Rattle.std.specs.Prelude.{Ok, Err}
use Prim.Native.Nat.{ℕ, ◌+◌, ◌<◌}
use native.Mathlib.Omega.{arith}
use native.Mathlib.Decide.{dec_le}
use mathlib.Core.Path.{◌≡◌}
use mathlib.Core.Logic.{◌⊎◌, inl, inr, ⊎_elim, ◌↔◌, ◌≢◌}
use mathlib.Core.List.{List, [], ◌∷◌}
use lib.ListN.{length, get_or}
use Rattle.sums.specs.Sum.{at}
use Rattle.paths.specs.Walk.{Below}
use Rattle.paths.specs.Rooted.{climb}
use Rattle.tables.specs.Tables.{Six}
use Rattle.climb.specs.Sound.{depth_in, id_in}
use Rattle.climb.specs.Asked.{asked}
use Rattle.queries.specs.Queries.{subtree_range, kth_ancestor, jump}
use Rattle.answers.specs.declared.answer.Refusal.TheVariants.{BadVertex, BadTable, TooFar}
use Rattle.pathlaws.specs.Given.{Given, path_in}
use Rattle.pathlaws.specs.NeverNine.{NeverNine}
use Rattle.pathlaws.proofs.Standing.{asked_or_refused}
use Rattle.pathlaws.proofs.SingleEntries.{vertex_count_lem, root_answer, depth_answer, id_answer, range_answer}
use Rattle.pathlaws.proofs.KthAncestor.{kth_ancestor_lem, kth_too_far}
use Rattle.pathlaws.proofs.Jumps.{distance_answer, jump_answer, jump_too_far}
use Rattle.pathlaws.proofs.Lca.{lca_common}
use Rattle.pathlaws.proofs.SubtreeSizes.{subtree_size_lem}
use Rattle.answers.specs.Answers.{Answer, Interval}

-- the answer is a number
abbrev pub IsNumber : Answer → Type 0
IsNumber q = (x : ℕ) × (q ≡ Ok x)

-- the answer is a number, or that k is too far
abbrev pub NumberOrFar : Answer → Type 0
NumberOrFar q = IsNumber q ⊎ (q ≡ Err TooFar)

-- a number is no refusal
number_not_far : (q : Answer) (x : ℕ) → q ≡ Ok x → q ≢ Err TooFar
number_not_far q x e f = let z : ◌≡◌ {A = ℕ} 0 1 = cc in omega arith

-- neither a number nor "too far" is 9, nor is the refusal of an argument
told_not_nine : (q : Answer) → NumberOrFar q ⊎ (q ≡ Err BadVertex) → q ≢ Err BadTable
told_not_nine q (inl (inl a)) f = let e = a.1 in let z : ◌≡◌ {A = ℕ} 0 1 = cc in omega arith
told_not_nine q (inl (inr a)) f = let z : ◌≡◌ {A = ℕ} 0 1 = cc in omega arith
told_not_nine q (inr a) f = let z : ◌≡◌ {A = ℕ} 0 1 = cc in omega arith

-- the same of an interval
between_not_nine : (q : Interval) (a b : ℕ) → (q ≡ Ok (a, b)) ⊎ (q ≡ Err BadVertex) → q ≢ Err BadTable
between_not_nine q a b (inl e) f = let z : ◌≡◌ {A = ℕ} 0 1 = cc in omega arith
between_not_nine q a b (inr e) f = let z : ◌≡◌ {A = ℕ} 0 1 = cc in omega arith

module _ {n root : ℕ} {A : ℕ → List ℕ} {t : Six} {kids : ℕ → List ℕ} (G : Given n A root t kids) where
  -- `kth_ancestor` is refused exactly if there is no k-th ancestor
  pub kth_refused : (k : ℕ) {v : ℕ} → v < n → (kth_ancestor t v k ≡ Err TooFar) ↔ (depth_in t v < k)
  kth_refused k {v} hv = (
    λ e. elim (dec_le k (depth_in t v)) [
      | yes h ↦ absurd (number_not_far (kth_ancestor t v k) (climb (at t.parent) k v) (kth_ancestor_lem G k hv h) e)
      | no q ↦ omega arith
    ],
    kth_too_far G k hv,
  )

  -- `jump` is refused exactly if k exceeds the distance
  pub jump_refused : (k : ℕ) {u v : ℕ} → u < n → v < n → (jump t u v k ≡ Err TooFar) ↔ (length (path_in t u v) < k)
  jump_refused k {u} {v} hu hv = (
    λ e. elim (dec_le k (length (path_in t u v))) [
      | yes h ↦ absurd (number_not_far (jump t u v k) (get_or (u ∷ path_in t u v) k 0) (jump_answer G k hu hv h) e)
      | no q ↦ omega arith
    ],
    jump_too_far G k hu hv,
  )

  -- `kth_ancestor` answers a number or that k is too far
  pub kth_told : (k : ℕ) {v : ℕ} → v < n → NumberOrFar (kth_ancestor t v k)
  kth_told k {v} hv = elim (dec_le k (depth_in t v)) [
    | yes h ↦ inl (_, kth_ancestor_lem G k hv h)
    | no q ↦ inr (kth_too_far G k hv (omega arith))
  ]

  -- so does `jump`
  pub jump_told : (k : ℕ) {u v : ℕ} → u < n → v < n → NumberOrFar (jump t u v k)
  jump_told k {u} {v} hu hv = elim (dec_le k (length (path_in t u v))) [
    | yes h ↦ inl (_, jump_answer G k hu hv h)
    | no q ↦ inr (jump_too_far G k hu hv (omega arith))
  ]

  -- a query that answers vertices with a number or "too far" gives 9 to no arguments
  told : (vs : List ℕ) (answer : Answer) → (Below n vs → NumberOrFar (asked t vs Err answer)) → asked t vs Err answer ≢ Err BadTable
  told vs answer f = told_not_nine (asked t vs Err answer) (⊎_elim (λ b. inl (f b)) inr (asked_or_refused G vs Err answer))

  -- no query gives 9
  pub never_nine : NeverNine t
  never_nine =
      record {
        of_vertex_count = told [] _ (λ b. inl (_, vertex_count_lem G));
        of_root = told [] _ (λ b. inl (_, root_answer G));
        of_depth = λ v. told (v ∷ []) _ (λ b. inl (_, depth_answer G b.0));
        of_vertex_id = λ v. told (v ∷ []) _ (λ b. inl (_, id_answer G b.0));
        of_subtree_range =
            λ v. between_not_nine (subtree_range t v) (id_in t v) (id_in t v + at t.size v)
            (⊎_elim (λ b. inl (range_answer G b.0)) inr (asked_or_refused G (v ∷ []) Err _));
        of_distance = λ u v. told (u ∷ v ∷ []) _ (λ b. inl (_, distance_answer G b.0 b.1.0));
        of_lca = λ r u v. told (r ∷ u ∷ v ∷ []) _ (λ b. let m = lca_common G b.0 b.1.0 b.1.1.0 in inl (m.0, m.1));
        of_kth_ancestor = λ v k. told (v ∷ []) _ (λ b. kth_told k b.0);
        of_jump = λ u v k. told (u ∷ v ∷ []) _ (λ b. jump_told k b.0 b.1.0);
        of_subtree_size = λ r v. told (r ∷ v ∷ []) _ (λ b. inl (_, subtree_size_lem G b.0 b.1.0));
      }

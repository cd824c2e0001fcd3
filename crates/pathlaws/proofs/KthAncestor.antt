-- `kth_ancestor` answers the vertex k steps above, and is refused 10 where there is none.
use Rattle.std.specs.Prelude.{Ok, Err}
use Prim.Native.Nat.{ℕ, zero, suc, ◌+◌, ◌-◌, ◌≤◌, ◌<◌}
use native.Mathlib.Omega.{arith}
use native.Mathlib.Decide.{dec_le}
use mathlib.Core.Path.{◌≡◌, sym, ap, ◌∙◌}
use mathlib.Core.Bool.{true}
use mathlib.Core.List.{List, [], ◌∷◌}
use lib.Dec.{eqb, leb}
use lib.ListN.{length, get_or}
use borrow.Author.Tests.{lt-ltb, le-leb, lt-leb, eq-eqb}
use Rattle.sums.specs.Sum.{at}
use Rattle.paths.specs.Rooted.{climb}
use Rattle.paths.proofs.Above.{climb_add, root_anc}
use Rattle.paths.proofs.Ancestors.{climb-length, climb_entry}
use Rattle.answers.specs.Limits.{no_parent}
use Rattle.numbering.specs.Log.{log2}
use Rattle.numbering.proofs.Bounds.{lights-one, lights_log}
use Rattle.numbering.proofs.Chains.{head_anc, head_below, head_dep, chain_ind}
use Rattle.numbering.proofs.Climbs.{climb-below, climb_depth, climb_id, climb_order}
use Rattle.tables.specs.Tables.{Six}
use Rattle.answers.specs.Choice.{pick}
use Rattle.climb.specs.Sound.{parent_in, depth_in, head_in, id_in, place_of}
use Rattle.queries.specs.Queries.{entry_at, ancestor_from, ancestor_in, kth_ancestor}
use Rattle.climb.specs.declared.places.Place.{Place}
use Rattle.pathlaws.specs.Given.{Given, path_in, lights_in}
use Rattle.pathlaws.proofs.Standing.{up_below, up_parent, top_parent, stand_vertex, answered}
use Rattle.answers.specs.Answers.{Answer}
use Rattle.answers.specs.declared.answer.Refusal.TheVariants.{TooFar}

-- the ancestor k steps above v, or that there is none
abbrev found : Six → (v k : ℕ) → Answer
found t v k = pick (leb k (depth_in t v)) (Ok (climb (at t.parent) k v)) (Err TooFar)

-- as many steps as the chain has above the place lead to an entry of the order
ancestor_on : (chains n : ℕ) (t : Six) (p : Place) (k : ℕ) → k ≤ p.depth - p.top → ancestor_from chains n t p k ≡ entry_at n t (p.id - k) (p.depth - k)
unfolding ancestor_from
ancestor_on zero n t p k h = rw (le-leb k (p.depth - p.top) h)
ancestor_on (suc chains) n t p k h = rw (le-leb k (p.depth - p.top) h)

-- more are too many where the chain has no parent
ancestor_none :
    (chains n : ℕ) (t : Six) (p : Place) (k : ℕ) → p.depth - p.top < k → eqb p.up no_parent ≡ true → ancestor_from chains n t p k ≡ Err TooFar
unfolding ancestor_from
ancestor_none zero n t p k h e = rw (lt-leb k (p.depth - p.top) h, e)
ancestor_none (suc chains) n t p k h e = rw (lt-leb k (p.depth - p.top) h, e)

module _ {n root : ℕ} {A : ℕ → List ℕ} {t : Six} {kids : ℕ → List ℕ} (G : Given n A root t kids) where
  -- otherwise they lead on from the parent of the head
  ancestor_up :
      (chains k : ℕ) {v : ℕ} → v < n → depth_in t v - depth_in t (head_in t v) < k → 0 < depth_in t (head_in t v)
      → ancestor_from (suc chains) n t (place_of t v) k
      ≡ ancestor_from chains n t (place_of t (parent_in t (head_in t v))) (k - (depth_in t v - depth_in t (head_in t v) + 1))
  unfolding ancestor_from
  ancestor_up chains k {v} hv h p =
      rw (lt-leb k (depth_in t v - depth_in t (head_in t v)) h, up_parent G hv p, stand_vertex G (up_below G hv p))

  -- on its chain, the order has the ancestor where the number is less by k
  entry-climb :
      (k : ℕ) {v : ℕ} → v < n → k + depth_in t (head_in t v) ≤ depth_in t v → entry_at n t (id_in t v - k) (depth_in t v - k) ≡ Ok (climb (at t.parent) k v)
  entry-climb k {v} hv h =
      let x : ℕ = climb (at t.parent) k v in
      let d = climb_depth G.tables.numbering k hv h in
      let i = climb_id G.tables.numbering k hv h in
      rw (
        climb_order G.tables.numbering k hv h,
        lt-ltb x n (climb-below G.tables.numbering k hv h),
        eq-eqb (id_in t x) (id_in t v - k) (omega arith),
        eq-eqb (depth_in t x) (depth_in t v - k) (omega arith),
      )

  -- above its chain, the ancestor is the one of the parent of the head, with fewer steps
  climb_up :
      (k : ℕ) {v : ℕ} → v < n → depth_in t v - depth_in t (head_in t v) < k
      → climb (at t.parent) (k - (depth_in t v - depth_in t (head_in t v) + 1)) (parent_in t (head_in t v)) ≡ climb (at t.parent) k v
  climb_up k {v} hv h =
      let a = head_anc G.tables.numbering hv in
      let j : ℕ = k - (depth_in t v - depth_in t (head_in t v) + 1) in
      let e : a.0 + suc j ≡ k = omega arith in
      ap (climb (at t.parent) (suc j)) (sym a.2)
      ∙ sym (climb_add (at t.parent) a.0 (suc j) v)
      ∙ ap (λ (i : ℕ). climb (at t.parent) i v) e

  -- so both have the same answer
  same_answer :
      (k : ℕ) {v : ℕ} → v < n → depth_in t v - depth_in t (head_in t v) < k → 0 < depth_in t (head_in t v)
      → found t (parent_in t (head_in t v)) (k - (depth_in t v - depth_in t (head_in t v) + 1)) ≡ found t v k
  same_answer k {v} hv h p =
      let d = head_dep G.tables.numbering hv in
      let z = G.tables.spans.rooted.par_dep (head_in t v) (head_below G.tables.numbering hv) p in
      let j : ℕ = k - (depth_in t v - depth_in t (head_in t v) + 1) in
      let y : ℕ = parent_in t (head_in t v) in
      elim (dec_le k (depth_in t v)) [
        | yes i ↦ rw (le-leb k (depth_in t v) i, le-leb j (depth_in t y) (omega arith), climb_up k hv h)
        | no q ↦ rw (lt-leb k (depth_in t v) (omega arith), lt-leb j (depth_in t y) (omega arith))
      ]

  -- the search on the chain finds it
  searched_on : (chains k : ℕ) {v : ℕ} → v < n → k + depth_in t (head_in t v) ≤ depth_in t v → ancestor_from chains n t (place_of t v) k ≡ found t v k
  searched_on chains k {v} hv h =
      rw (ancestor_on chains n t (place_of t v) k (omega arith), entry-climb k hv h, le-leb k (depth_in t v) (omega arith))

  -- the search above the root finds none
  searched_none : (chains k : ℕ) {v : ℕ} → v < n → depth_in t v < k → depth_in t (head_in t v) ≡ 0 → ancestor_from chains n t (place_of t v) k ≡ found t v k
  searched_none chains k {v} hv h z =
      rw (ancestor_none chains n t (place_of t v) k (omega arith) (top_parent G hv z), lt-leb k (depth_in t v) h)

  -- with as many chains to leave as there are above the vertex, it is never stopped
  searched : (chains k : ℕ) {v : ℕ} → v < n → lights_in t v ≤ chains → ancestor_from chains n t (place_of t v) k ≡ found t v k
  searched chains k {v} hv l = chain_ind G.tables.numbering P start step v hv chains k l
    where
      P : ℕ → Type 0
      P v = (chains k : ℕ) → lights_in t v ≤ chains → ancestor_from chains n t (place_of t v) k ≡ found t v k

      start : (v : ℕ) → v < n → depth_in t (head_in t v) ≡ 0 → P v
      start v hv z chains k l = elim (dec_le k (depth_in t v)) [
        | yes h ↦ searched_on chains k hv (omega arith)
        | no q ↦ searched_none chains k hv (omega arith) z
      ]

      step : (v : ℕ) → v < n → 0 < depth_in t (head_in t v) → P (parent_in t (head_in t v)) → P v
      step v hv p ih zero k l = let o = lights-one G.tables.numbering hv p in absurd (omega arith)
      step v hv p ih (suc chains) k l = elim (dec_le (k + depth_in t (head_in t v)) (depth_in t v)) [
        | yes h ↦ searched_on (suc chains) k hv h
        | no q ↦
            let o = lights-one G.tables.numbering hv p in
            let d = head_dep G.tables.numbering hv in
            ancestor_up chains k hv (omega arith) p
            ∙ ih chains (k - (depth_in t v - depth_in t (head_in t v) + 1)) (omega arith)
            ∙ same_answer k hv (omega arith) p
      ]

  -- the search from a vertex finds the ancestor k steps above it
  pub ancestor_found : (k : ℕ) {v : ℕ} → v < n → k ≤ depth_in t v → ancestor_in n t v k ≡ Ok (climb (at t.parent) k v)
  ancestor_found k {v} hv h =
      rw (stand_vertex G hv, ancestor_in, searched (log2 n) k hv (lights_log G.tables.numbering hv), le-leb k (depth_in t v) h)

  -- or that there is none
  pub ancestor_missing : (k : ℕ) {v : ℕ} → v < n → depth_in t v < k → ancestor_in n t v k ≡ Err TooFar
  ancestor_missing k {v} hv h =
      rw (stand_vertex G hv, ancestor_in, searched (log2 n) k hv (lights_log G.tables.numbering hv), lt-leb k (depth_in t v) h)

  -- `kth_ancestor` answers the vertex k steps above v
  pub kth_ancestor_lem : (k : ℕ) {v : ℕ} → v < n → k ≤ depth_in t v → kth_ancestor t v k ≡ Ok (climb (at t.parent) k v)
  kth_ancestor_lem k {v} hv h = answered G (v ∷ []) Err (λ m. ancestor_in m t v k) (hv, tt) ∙ ancestor_found k hv h

  -- the path to the root has as many steps as the vertex is deep
  pub depth_path : {v : ℕ} → v < n → length (path_in t v root) ≡ depth_in t v
  depth_path {v} hv =
      let z = G.tables.spans.rooted.root_top in
      let a = root_anc G.tables.spans.rooted hv in
      climb-length G.tables.spans.rooted a.0 root hv a.1 a.2 ∙ omega arith

  -- the answer is the k-th vertex on that path
  pub kth_on_path : (k : ℕ) {v : ℕ} → v < n → k ≤ depth_in t v → kth_ancestor t v k ≡ Ok (get_or (v ∷ path_in t v root) k 0)
  kth_on_path k {v} hv h =
      let z = G.tables.spans.rooted.root_top in
      let a = root_anc G.tables.spans.rooted hv in
      kth_ancestor_lem k hv h ∙ ap Ok (sym (climb_entry G.tables.spans.rooted a.0 k root hv a.1 a.2 (omega arith)))

  -- `kth_ancestor` is refused where there is no vertex k steps above v
  pub kth_too_far : (k : ℕ) {v : ℕ} → v < n → depth_in t v < k → kth_ancestor t v k ≡ Err TooFar
  kth_too_far k {v} hv h = answered G (v ∷ []) Err (λ m. ancestor_in m t v k) (hv, tt) ∙ ancestor_missing k hv h

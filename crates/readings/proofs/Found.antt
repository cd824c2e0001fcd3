-- The ranges of a path of a numbering are always found, and what each move of the climb keeps holds of them.
use Prim.Native.Nat.{ℕ, zero, suc, ◌+◌, ◌*◌, ◌≤◌, ◌<◌}
use native.Mathlib.Omega.{arith}
use native.Mathlib.Decide.{dec_le, dec_lt, ℕ_discrete}
use mathlib.Core.Path.{◌≡◌, sym, ap, subst, ◌∙◌}
use mathlib.Core.Logic.{◌≢◌}
use mathlib.Core.List.{List, [], ◌∷◌, ◌++◌}
use borrow.Author.Tests.{lt-ltb, le-ltb}
use Rattle.numbering.specs.Log.{log2}
use Rattle.numbering.proofs.Bounds.{lights-one, lights_log}
use Rattle.numbering.proofs.Climbs.{chain_gap}
use Rattle.numbering.proofs.Leaves.{deeper_head_pos}
use Rattle.tables.specs.Tables.{Six}
use Rattle.climb.specs.Sound.{parent_in, depth_in, head_in, id_in}
use Rattle.pathlaws.specs.Given.{Given, lights_in}
use Rattle.pathlaws.proofs.Standing.{up_below, stand_vertex}
use Rattle.pathlaws.proofs.Meetings.{stage, leaves}
use Rattle.ranges.specs.Ranges.{Found, lost, found, piece, chain_range, last_range, path_ranges}
use Rattle.ranges.specs.Inner.{last_chain}
use Rattle.ranges.specs.declared.kinds.Direction.TheVariants.{Forward, Reversed}
use Rattle.ranges.specs.declared.kinds.PathRange.{PathRange}
use Rattle.ranges.specs.declared.kinds.Kind.{Kind}
use Rattle.ranges.proofs.Looks.{in_front, behind, ranging, range_met, range_u, range_v, range-from}

-- P holds of the ranges of two vertices of one chain, and stays when the range of a chain is set in front or behind as the climb does
pub record Kept (n : ℕ) (t : Six) (kind : Kind) (P : (u v : ℕ) → List PathRange → Type 0) : Type 0 where
  pub up : {x y : ℕ} → x < n → y < n → head_in t x ≡ head_in t y → depth_in t y ≤ depth_in t x
      → P x y (last_range kind (piece (id_in t y) (id_in t x + 1) Reversed))
  pub down : {x y : ℕ} → x < n → y < n → head_in t x ≡ head_in t y → depth_in t x ≤ depth_in t y
      → P x y (last_range kind (piece (id_in t x) (id_in t y + 1) Forward))
  pub left :
      {x y : ℕ} (l : List PathRange) → x < n → y < n → head_in t x ≢ head_in t y → depth_in t (head_in t y) ≤ depth_in t (head_in t x)
      → P (parent_in t (head_in t x)) y l → P x y (chain_range kind (piece (id_in t (head_in t x)) (id_in t x + 1) Reversed) ∷ l)
  pub entered :
      {x y : ℕ} (l : List PathRange) → x < n → y < n → head_in t x ≢ head_in t y → depth_in t (head_in t x) ≤ depth_in t (head_in t y)
      → P x (parent_in t (head_in t y)) l → P x y (l ++ (chain_range kind (piece (id_in t (head_in t y)) (id_in t y + 1) Forward) ∷ []))

-- the list that was found
listed : Found → List PathRange
listed lost = []
listed (found l) = l

-- what was found is one list
found-one : {a b : List PathRange} → found a ≡ found b → a ≡ b
unfolding listed
found-one e = ap listed e

module _
    {n root : ℕ} {A : ℕ → List ℕ} {t : Six} {kids : ℕ → List ℕ} (G : Given n A root t kids) (kind : Kind)
    {P : (u v : ℕ) → List PathRange → Type 0} (K : Kept n t kind P) where
  -- P holds of the ranges of the last chain
  last_kept : (a b : ℕ) {x y : ℕ} → x < n → y < n → head_in t x ≡ head_in t y → P x y (last_chain kind (stage t x y a b))
  last_kept a b {x} {y} hx hy e =
      let g = chain_gap G.tables.numbering hx hy e in
      elim (dec_lt (id_in t y) (id_in t x)) [
        | yes h ↦ rw (lt-ltb (id_in t y) (id_in t x) h) (K.up hx hy e (omega arith))
        | no q ↦ rw (le-ltb (id_in t y) (id_in t x) (omega arith)) (K.down hx hy e (omega arith))
      ]

  -- from any two vertices ranges are found, with fewer than k chains to leave, and P holds of them
  ranges :
      (k x y a b : ℕ)
      → x < n
      → y < n
      → a + lights_in t x ≤ log2 n
      → b + lights_in t y ≤ log2 n
      → lights_in t x + lights_in t y < k
      → (l : List PathRange) × (ranging kind n t (stage t x y a b) ≡ found l) × P x y l
  ranges zero x y a b hx hy i j h = absurd (omega arith)
  ranges (suc k) x y a b hx hy i j h = elim (ℕ_discrete (head_in t x) (head_in t y)) [
    | yes e ↦ (last_chain kind (stage t x y a b), range_met kind n t (stage t x y a b) e, last_kept a b hx hy e)
    | no d ↦ elim (dec_le (depth_in t (head_in t y)) (depth_in t (head_in t x))) [
      | yes q ↦
          let p = deeper_head_pos G.tables.numbering hx hy d q in
          let s = lights-one G.tables.numbering hx p in
          let new = chain_range kind (piece (id_in t (head_in t x)) (id_in t x + 1) Reversed) in
          let r = ranges k (parent_in t (head_in t x)) y (a + 1) b (up_below G hx p) hy (omega arith) j (omega arith) in (
            new ∷ r.0,
            range_u kind n t (stage t x y a b) d q (leaves G a hx p (omega arith)) ∙ ap (in_front new) r.1,
            K.left r.0 hx hy d q r.2,
          )
      | no q ↦
          let f : head_in t y ≢ head_in t x = λ e. d (sym e) in
          let g : depth_in t (head_in t x) ≤ depth_in t (head_in t y) = omega arith in
          let p = deeper_head_pos G.tables.numbering hy hx f g in
          let s = lights-one G.tables.numbering hy p in
          let new = chain_range kind (piece (id_in t (head_in t y)) (id_in t y + 1) Forward) in
          let r = ranges k x (parent_in t (head_in t y)) a (b + 1) hx (up_below G hy p) i (omega arith) (omega arith) in (
            r.0 ++ (new ∷ []),
            range_v kind n t (stage t x y a b) d (omega arith) (leaves G b hy p (omega arith)) ∙ ap (behind new) r.1,
            K.entered r.0 hx hy d g r.2,
          )
    ]
  ]

  -- ranges are found between any two vertices, and P holds of them
  found_kept : {u v : ℕ} → u < n → v < n → (l : List PathRange) × (path_ranges kind n t u v ≡ found l) × P u v l
  found_kept {u} {v} hu hv =
      let i = lights_log G.tables.numbering hu in
      let j = lights_log G.tables.numbering hv in
      let r = ranges (2 * log2 n + 1) u v 0 0 hu hv (omega arith) (omega arith) (omega arith) in
      (r.0, range-from kind n t u v (stand_vertex G hu) (stand_vertex G hv) ∙ r.1, r.2)

  -- P holds of the ranges that are found
  pub ranges_ind : {u v : ℕ} → u < n → v < n → (l : List PathRange) → path_ranges kind n t u v ≡ found l → P u v l
  ranges_ind {u} {v} hu hv l e = let r = found_kept hu hv in subst (P u v) (found-one (sym r.1 ∙ e)) r.2

module _ {n root : ℕ} {A : ℕ → List ℕ} {t : Six} {kids : ℕ → List ℕ} (G : Given n A root t kids) where
  -- nothing at all is kept
  trivial : (kind : Kind) → Kept n t kind (λ u v l. Unit {0})
  trivial kind = record { up = λ hx hy e h. tt; down = λ hx hy e h. tt; left = λ l hx hy d h p. tt; entered = λ l hx hy d h p. tt }

  -- between any two vertices ranges are found
  pub ranges_found : (kind : Kind) {u v : ℕ} → u < n → v < n → (l : List PathRange) × (path_ranges kind n t u v ≡ found l)
  ranges_found kind hu hv = let r = found_kept G kind (trivial kind) hu hv in (r.0, r.1)

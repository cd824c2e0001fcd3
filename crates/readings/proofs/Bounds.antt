-- Every range of a path has a number and ends in time, and there are at most 2 log2 n + 1 of them.
use Prim.Native.Nat.{ℕ, ◌+◌, ◌*◌, ◌≤◌, ◌<◌}
use native.Mathlib.Omega.{arith}
use native.Mathlib.Decide.{dec_lt}
use mathlib.Core.Path.{◌≡◌, sym}
use mathlib.Core.List.{List, [], ◌∷◌, ◌++◌}
use lib.ListN.{length, length-append}
use borrow.Author.Tests.{lt-ltb, le-ltb}
use Rattle.numbering.specs.Log.{log2}
use Rattle.numbering.proofs.Logs.{log2_greatest}
use Rattle.numbering.proofs.Bounds.{lights-one, lights_tight, lights_log}
use Rattle.numbering.proofs.Chains.{head_first}
use Rattle.numbering.proofs.Climbs.{chain_gap}
use Rattle.numbering.proofs.Leaves.{deeper_head_pos}
use Rattle.numbering.proofs.Whole.{id_below}
use Rattle.tables.specs.Tables.{Six}
use Rattle.climb.specs.Sound.{depth_in, head_in, id_in}
use Rattle.pathlaws.specs.Given.{Given, lights_in}
use Rattle.ranges.specs.Ranges.{found, piece, chain_range, last_range, path_ranges}
use Rattle.ranges.specs.declared.kinds.Direction.{Direction}
use Rattle.ranges.specs.declared.kinds.Direction.TheVariants.{Forward, Reversed}
use Rattle.ranges.specs.declared.kinds.PathRange.{PathRange}
use Rattle.ranges.specs.declared.kinds.Kind.{Kind}
use Rattle.ranges.specs.declared.kinds.Kind.TheVariants.{Vertices, Edges, Both}
use Rattle.ranges.proofs.Few.{last_one}
use Rattle.readings.specs.Numbers.{last_end, Within}
use Rattle.readings.proofs.Found.{Kept, ranges_ind}

-- the range of a chain of vertices has a number and ends in time
chain_within : (kind : Kind) (n l r : ℕ) (d : Direction) → l < r → r ≤ n → Within (last_end kind n) (chain_range kind (piece l r d) ∷ [])
chain_within Vertices n l r d h i = (h, i, tt)
chain_within Edges n l r d h i = (h, i, tt)
chain_within Both n l r d h i = (omega arith, omega arith, tt)

-- and so has that of the last chain
last_within : (kind : Kind) (n l r : ℕ) (d : Direction) → l < r → r ≤ n → Within (last_end kind n) (last_range kind (piece l r d))
last_within Vertices n l r d h i = (h, i, tt)
last_within Edges n l r d h i = elim (dec_lt (l + 1) r) [
  | yes p ↦ rw (lt-ltb (l + 1) r p) (p, i, tt)
  | no q ↦ rw (le-ltb (l + 1) r (omega arith)) tt
]
last_within Both n l r d h i = (omega arith, omega arith, tt)

-- two lists of such ranges, one behind the other
within-append : (m : ℕ) (a b : List PathRange) → Within m a → Within m b → Within m (a ++ b)
within-append m [] b h i = i
within-append m (r ∷ a) b h i = (h.0, h.1, within-append m a b h.2 i)

module _ {n root : ℕ} {A : ℕ → List ℕ} {t : Six} {kids : ℕ → List ℕ} (G : Given n A root t kids) (kind : Kind) where
  -- the range of a vertex's chain, from its head to the vertex
  head_within : (d : Direction) {x : ℕ} → x < n → Within (last_end kind n) (chain_range kind (piece (id_in t (head_in t x)) (id_in t x + 1) d) ∷ [])
  head_within d {x} hx =
      let i = head_first G.tables.numbering hx in
      let b = id_below G.tables.numbering.arrangement hx in
      chain_within kind n (id_in t (head_in t x)) (id_in t x + 1) d (omega arith) (omega arith)

  -- the range of the last chain, from a vertex to one below it
  one_within :
      (d : Direction) {x y : ℕ} → x < n → y < n → head_in t x ≡ head_in t y → depth_in t x ≤ depth_in t y
      → Within (last_end kind n) (last_range kind (piece (id_in t x) (id_in t y + 1) d))
  one_within d {x} {y} hx hy e h =
      let g = chain_gap G.tables.numbering hx hy e in
      let b = id_below G.tables.numbering.arrangement hy in
      last_within kind n (id_in t x) (id_in t y + 1) d (omega arith) (omega arith)

  -- each move of the climb keeps the ranges within the numbers
  within_kept : Kept n t kind (λ u v l. Within (last_end kind n) l)
  within_kept =
      record {
        up = λ hx hy e h. one_within Reversed hy hx (sym e) h;
        down = λ hx hy e h. one_within Forward hx hy e h;
        left = λ l hx hy d h w. let c = head_within Reversed hx in (c.0, c.1, w);
        entered = λ l hx hy d h w. within-append (last_end kind n) l _ w (head_within Forward hy);
      }

  -- each move of the climb leaves one light edge
  few_kept : Kept n t kind (λ u v l. length l ≤ lights_in t u + lights_in t v + 1)
  few_kept =
      record {
        up = λ {x} {y} hx hy e h. let o = last_one kind (piece (id_in t y) (id_in t x + 1) Reversed) in omega arith;
        down = λ {x} {y} hx hy e h. let o = last_one kind (piece (id_in t x) (id_in t y + 1) Forward) in omega arith;
        left = λ l hx hy d h w. let s = lights-one G.tables.numbering hx (deeper_head_pos G.tables.numbering hx hy d h) in omega arith;
        entered = λ {x} {y} l hx hy d h w.
            let s = lights-one G.tables.numbering hy (deeper_head_pos G.tables.numbering hy hx (λ e. d (sym e)) h) in
            let a = length-append l (chain_range kind (piece (id_in t (head_in t y)) (id_in t y + 1) Forward) ∷ []) in
            omega arith;
      }

  module _ {u v : ℕ} (hu : u < n) (hv : v < n) (l : List PathRange) (e : path_ranges kind n t u v ≡ found l) where
    -- every range has a number and ends in time
    pub ranges_within : Within (last_end kind n) l
    ranges_within = ranges_ind G kind within_kept hu hv l e

    -- there is one range for each light edge above u or v, and one more, at most
    pub ranges-lights : length l ≤ lights_in t u + lights_in t v + 1
    ranges-lights = ranges_ind G kind few_kept hu hv l e

    -- there are at most 2 log2 n + 1 ranges
    pub ranges_room : length l ≤ 2 * log2 n + 1
    ranges_room =
        let f = ranges-lights in
        let i = lights_log G.tables.numbering hu in
        let j = lights_log G.tables.numbering hv in
        omega arith

    -- there are fewer than 2 log2 (n + 1) ranges
    pub ranges_tight : length l + 1 ≤ 2 * log2 (n + 1)
    ranges_tight =
        let f = ranges-lights in
        let i = log2_greatest (lights_in t u + 1) (n + 1) (lights_tight G.tables.numbering hu) in
        let j = log2_greatest (lights_in t v + 1) (n + 1) (lights_tight G.tables.numbering hv) in
        omega arith

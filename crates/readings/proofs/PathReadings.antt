-- What the ranges of a path of a numbering read: the path's numbers, cut at any vertex on it and turned round.
use Prim.Native.Nat.{ℕ, ◌+◌, ◌≤◌, ◌<◌}
use mathlib.Core.Path.{◌≡◌, sym}
use mathlib.Core.Logic.{◌≢◌}
use mathlib.Core.List.{List, [], ◌∷◌, ◌++◌, map, reverse, append-nil}
use Rattle.sums.specs.Sum.{at}
use Rattle.paths.proofs.Cut.{cut}
use Rattle.paths.proofs.Steps.{on_below}
use Rattle.tables.specs.Tables.{Six}
use Rattle.climb.specs.Sound.{parent_in, depth_in, head_in, id_in}
use Rattle.pathlaws.specs.Given.{Given, path_in, OnIn}
use Rattle.ranges.specs.Ranges.{found, piece, chain_range, path_ranges}
use Rattle.ranges.specs.Readings.{read_range, reading}
use Rattle.ranges.specs.declared.kinds.Direction.TheVariants.{Forward}
use Rattle.ranges.specs.declared.kinds.PathRange.{PathRange}
use Rattle.ranges.specs.declared.kinds.Kind.{Kind}
use Rattle.ranges.specs.declared.kinds.Kind.TheVariants.{Vertices}
use Rattle.readings.specs.Numbers.{numbers_in, rest}
use Rattle.readings.proofs.Runs.{reading-append}
use Rattle.readings.proofs.Numbers.{numbers_join, numbers_turn, walks}
use Rattle.readings.proofs.Chains.{chain_left, chain-entered, chain_last_up, chain_last_down}
use Rattle.readings.proofs.Found.{Kept, ranges_ind}

module _ {n root : ℕ} {A : ℕ → List ℕ} {t : Six} {kids : ℕ → List ℕ} (G : Given n A root t kids) where
  -- the ranges read the path between the ends of the climb at each of its moves
  read_kept : (kind : Kind) → Kept n t kind (λ u v l. reading l ≡ numbers_in kind t u v)
  read_kept kind =
      record {
        up = λ hx hy e h. sym (chain_last_up G.tables.numbering kind hx hy e h);
        down = λ hx hy e h. sym (chain_last_down G.tables.numbering kind hx hy e h);
        left = λ l hx hy d h r. rw (r, chain_left G.tables.numbering kind hx hy d h);
        entered = entered;
      }
    where
      entered :
          {x y : ℕ} (l : List PathRange) → x < n → y < n → head_in t x ≢ head_in t y → depth_in t (head_in t x) ≤ depth_in t (head_in t y)
          → reading l ≡ numbers_in kind t x (parent_in t (head_in t y))
          → reading (l ++ (chain_range kind (piece (id_in t (head_in t y)) (id_in t y + 1) Forward) ∷ [])) ≡ numbers_in kind t x y
      entered {x} {y} l hx hy d h r =
          let c = chain_range kind (piece (id_in t (head_in t y)) (id_in t y + 1) Forward) in
          rw (reading-append l (c ∷ []), append-nil (read_range c), r, chain-entered G.tables.numbering kind hx hy d h)

  -- the ranges from u to v read the numbers of the path in order
  pub ranges_read : (kind : Kind) {u v : ℕ} → u < n → v < n → (l : List PathRange) → path_ranges kind n t u v ≡ found l → reading l ≡ numbers_in kind t u v
  ranges_read kind hu hv = ranges_ind G kind (read_kept kind) hu hv

  -- cut at any vertex w on the path, the reading is that to w, followed by what that from w adds
  pub ranges_cut :
      (kind : Kind) (w : ℕ) {u v : ℕ}
      → u < n
      → v < n
      → OnIn t w u v
      → (l l₁ l₂ : List PathRange)
      → path_ranges kind n t u v ≡ found l
      → path_ranges kind n t u w ≡ found l₁
      → path_ranges kind n t w v ≡ found l₂
      → reading l ≡ reading l₁ ++ rest kind (reading l₂)
  ranges_cut kind w {u} {v} hu hv h l l₁ l₂ e e₁ e₂ =
      let hw = on_below G.tables.spans.rooted w hu hv h in
      rw (
        ranges_read kind hu hv l e,
        ranges_read kind hu hw l₁ e₁,
        ranges_read kind hw hv l₂ e₂,
        cut G.tables.spans.rooted w hu hv h,
      )
      (numbers_join kind (at t.depth) (at t.id) (λ x y. Unit {0}) u w (path_in t u w) (path_in t w v) (walks G.tables.spans.rooted hu hw))

  -- from v to u the reading is reversed
  pub ranges_turn :
      (kind : Kind) {u v : ℕ} → u < n → v < n → (l m : List PathRange) → path_ranges kind n t u v ≡ found l → path_ranges kind n t v u ≡ found m
      → reading m ≡ reverse (reading l)
  ranges_turn kind hu hv l m e f =
      rw (ranges_read kind hu hv l e, ranges_read kind hv hu m f) (numbers_turn G.tables.spans.rooted kind (at t.id) hu hv)

  -- vertex ranges read the number of each vertex of the path
  pub vertices_read :
      {u v : ℕ} → u < n → v < n → (l : List PathRange) → path_ranges Vertices n t u v ≡ found l → reading l ≡ map (at t.id) (u ∷ path_in t u v)
  vertices_read hu hv = ranges_read Vertices hu hv

-- Laws of the ranges of a climb: one look in each case, and that they are as many as the climb counts.
use Rattle.std.specs.Prelude.{Ok, Err}
use Prim.Native.Nat.{ℕ, ◌+◌, ◌≤◌, ◌<◌}
use native.Mathlib.Omega.{arith}
use mathlib.Core.Path.{◌≡◌, refl, ap, ◌∙◌}
use mathlib.Core.List.{List, [], ◌∷◌, ◌++◌, map, reverse, append-nil, append_assoc, reverse-cons, map-append}
use lib.ListN.{length, length-append, length-map, length-reverse}
use Rattle.numbering.specs.Log.{log2}
use Rattle.tables.specs.Tables.{Six}
use Rattle.climb.specs.Sound.{stand_on, On, Unsound}
use Rattle.climb.specs.Climbing.{Climbed, Ascent, strays, meets, u_leaves, v_leaves, ascent, end_of, climb_to}
use Rattle.climb.specs.Inner.{Placed, climb_start, u_moved, v_moved}
use Rattle.climb.specs.declared.places.Place.{Place}
use Rattle.climb.specs.declared.places.Climb.{Climb}
use Rattle.climb.proofs.Climbs.{leave_chain, ascent_from, ascent_met, ascent_by_u, ascent_by_v, ascent-from, ascent_off_u, ascent_off_v}
use Rattle.ranges.specs.declared.kinds.PathRange.{PathRange}
use Rattle.ranges.specs.declared.kinds.Kind.{Kind}
use Rattle.ranges.specs.Ranges.{Found, lost, found, u_piece, v_piece, last_piece, chain_range, last_range, ranges_along, path_ranges}
use Rattle.ranges.specs.Inner.{last_chain}
use Rattle.ranges.proofs.Ends.{EndsWell, ascent-ends}

-- the range of the chain that a side leaves
abbrev pub u_range : Kind → Place → PathRange
u_range kind x = chain_range kind (u_piece x)

abbrev pub v_range : Kind → Place → PathRange
v_range kind x = chain_range kind (v_piece x)

-- a range before or behind those that were found
abbrev pub in_front : PathRange → Found → Found
in_front r lost = lost
in_front r (found l) = found (r ∷ l)

abbrev pub behind : PathRange → Found → Found
behind r lost = lost
behind r (found l) = found (l ++ (r ∷ []))

-- One more chain that is left: the u side's range comes in front, the v side's behind.
module _ (kind : Kind) (x : Place) where
  along_u : (a : Ascent) → ranges_along kind (u_leaves x a) ≡ in_front (u_range kind x) (ranges_along kind a)
  along_u strays = refl
  along_u (meets us vs p q) = refl

  along_v : (a : Ascent) → ranges_along kind (v_leaves x a) ≡ behind (v_range kind x) (ranges_along kind a)
  along_v strays = refl
  along_v (meets us vs p q) =
      ap found (rw (reverse-cons, map-append, append_assoc, append_assoc))

-- One look.

-- the ranges of the climb from a state of it
abbrev pub ranging : Kind → ℕ → Six → Climb → Found
ranging kind n t c = ranges_along kind (ascent_from n t c)

module _ (kind : Kind) (n : ℕ) (t : Six) (c : Climb) where
  pub range_met : c.u.head ≡ c.v.head → ranging kind n t c ≡ found (last_chain kind c)
  range_met e = ap (ranges_along kind) (ascent_met n t c e) ∙ ap found (append-nil (last_chain kind c))

  module _ (apart : c.u.head ≡ c.v.head → ⊥) where
    pub range_u : c.v.top ≤ c.u.top → {r : Place} → leave_chain n t c.u c.u_count ≡ On r
        → ranging kind n t c ≡ in_front (u_range kind c.u) (ranging kind n t (u_moved c r))
    range_u h {r} e = ap (ranges_along kind) (rw e at (ascent_by_u n t c apart h)) ∙ along_u kind c.u (ascent_from n t (u_moved c r))

    pub range_u_lost : c.v.top ≤ c.u.top → leave_chain n t c.u c.u_count ≡ Unsound → ranging kind n t c ≡ lost
    range_u_lost h e = ap (ranges_along kind) (rw e at (ascent_by_u n t c apart h))

    pub range_v : c.u.top < c.v.top → {r : Place} → leave_chain n t c.v c.v_count ≡ On r
        → ranging kind n t c ≡ behind (v_range kind c.v) (ranging kind n t (v_moved c r))
    range_v h {r} e = ap (ranges_along kind) (rw e at (ascent_by_v n t c apart h)) ∙ along_v kind c.v (ascent_from n t (v_moved c r))

    pub range_v_lost : c.u.top < c.v.top → leave_chain n t c.v c.v_count ≡ Unsound → ranging kind n t c ≡ lost
    range_v_lost h e = ap (ranges_along kind) (rw e at (ascent_by_v n t c apart h))

-- The ranges from u and v.

module _ (kind : Kind) (n : ℕ) (t : Six) (u v : ℕ) where
  pub range-from : {p q : Place} → stand_on n t u ≡ On p → stand_on n t v ≡ On q → path_ranges kind n t u v ≡ ranging kind n t (climb_start p q)
  unfolding path_ranges
  range-from e f = ap (ranges_along kind) (ascent-from n t u v e f)

  pub range_off_u : stand_on n t u ≡ Unsound → path_ranges kind n t u v ≡ lost
  unfolding path_ranges
  range_off_u e = ap (ranges_along kind) (ascent_off_u n t u v e)

  pub range_off_v : stand_on n t v ≡ Unsound → path_ranges kind n t u v ≡ lost
  unfolding path_ranges
  range_off_v e = ap (ranges_along kind) (ascent_off_v n t u v e)

-- The climb and its ranges.

-- a climb that is met at d, and its ranges: those of the chains that were left, and of the last chain
pub record Counted (kind : Kind) (n : ℕ) (D : List ℕ) (d : Climb) (f : Found) : Type 0 where
  pub list : List PathRange
  pub same : f ≡ found list
  pub counted : length list ≡ d.u_count + d.v_count + length (last_chain kind d)
  pub u_few : d.u_count ≤ log2 n
  pub v_few : d.v_count ≤ log2 n
  pub u_placed : Placed n D d.u
  pub v_placed : Placed n D d.v

-- both are lost, or neither
abbrev pub Agree : Kind → ℕ → List ℕ → Climbed → Found → Type 0
Agree kind n D (Err e) f = f ≡ lost
Agree kind n D (Ok d) f = Counted kind n D d f

agree_at : (kind : Kind) (n : ℕ) (D : List ℕ) (x : Ascent) → EndsWell n D (log2 n) (log2 n) x → Agree kind n D (end_of x) (ranges_along kind x)
agree_at kind n D strays e = refl
agree_at kind n D (meets us vs p q) e =
    let last = last_range kind (last_piece p q) in
    let back = map (v_range kind) (reverse vs) in
    let l = length-append (map (u_range kind) us) (last ++ back) in
    let m = length-append last back in
    let i = length-map us (u_range kind) in
    let j = length-map (reverse vs) (v_range kind) in
    let k = length-reverse vs in
    record {
      list = map (u_range kind) us ++ (last ++ back);
      same = refl;
      counted = omega arith;
      u_few = e.u_few;
      v_few = e.v_few;
      u_placed = e.u_placed;
      v_placed = e.v_placed;
    }

-- the ranges of the path from u to v are lost where the climb is, and are else as many as the climb counts
pub agree : (kind : Kind) (n : ℕ) (t : Six) (u v : ℕ) → Agree kind n t.depth (climb_to n t u v) (path_ranges kind n t u v)
unfolding climb_to path_ranges
agree kind n t u v = agree_at kind n t.depth (ascent n t u v) (ascent-ends n t u v)

-- What the contracts of inner functions cite: no reader of a query's meaning needs it. t is the six tables; n, where it is not said, is their length.
use Rattle.std.specs.Prelude.{ℕ, ◌+◌, ◌-◌, ◌≤◌, ◌<◌, ◌≡◌, Bool, true, List, eqb, leb, ltb, length, Result, Ok, Err}
use Rattle.sums.specs.Sum.{at}
use Rattle.answers.specs.Limits.{no_parent}
use Rattle.numbering.specs.Log.{log2}
use Rattle.tables.specs.Tables.{Six}
use Rattle.answers.specs.Choice.{pick, both}
use Rattle.answers.specs.declared.answer.Refusal.{Refusal}
use Rattle.answers.specs.declared.answer.Refusal.TheVariants.{BadTable}
use Rattle.climb.specs.Asked.{size_of}
use Rattle.climb.specs.Sound.{depth_in, head_in, id_in, sound?, place_of}
use Rattle.climb.specs.Climbing.{Climbed, climb_to, ancestor_of}
use Rattle.climb.specs.declared.places.Place.{Place}
use Rattle.climb.specs.declared.places.Climb.{Climb}

-- The state of a climb under way, with the number of chains that each side has left: as it begins, and after a move.
abbrev pub climb_start : Place → Place → Climb
climb_start p q = record { u = p; v = q; u_count = 0; v_count = 0 }

abbrev pub u_moved : Climb → Place → Climb
u_moved c p = record { u = p; v = c.v; u_count = c.u_count + 1; v_count = c.v_count }

abbrev pub v_moved : Climb → Place → Climb
v_moved c p = record { u = c.u; v = p; u_count = c.u_count; v_count = c.v_count + 1 }

-- the four tables that a climb reads have one length
pub record Even (t : Six) : Type 0 where
  pub depth : length t.depth ≡ size_of t
  pub head : length t.head ≡ size_of t
  pub id : length t.id ≡ size_of t

-- the tests of soundness on the numbers that were read: of a vertex of depth d and number i, whose head has the depth `top` and the number `first`
abbrev pub chained? : (n d i top first : ℕ) → Bool
chained? n d i top first =
    both (leb top d) (both (ltb d n) (both (leb first i) (both (ltb i n) (eqb (i - first) (d - top)))))

-- all that soundness asks of x but that its head hangs
abbrev pub seated? : ℕ → Six → ℕ → Bool
seated? n t x = both (ltb (head_in t x) n) (chained? n (depth_in t x) (id_in t x) (depth_in t (head_in t x)) (id_in t (head_in t x)))

-- a head of such a depth and number hangs from `up`
abbrev pub hangs_from? : (n : ℕ) → Six → (up top first : ℕ) → Bool
hangs_from? n t up top first = both (ltb up n) (both (eqb (depth_in t up + 1) top) (ltb (id_in t up) first))

-- the head of p's chain has no parent and depth 0, or hangs from its parent
abbrev pub hangs? : (n : ℕ) → Six → Place → Bool
hangs? n t p = pick (eqb p.up no_parent) (eqb p.top 0) (hangs_from? n t p.up p.top p.first)

pub record Hangs (t : Six) : Type 0 where
  pub depth : length t.depth ≡ size_of t
  pub id : length t.id ≡ size_of t

pub record StandAsks (t : Six) (x : ℕ) : Type 0 where
  pub even : Even t
  pub vertex : x < size_of t

-- x has the depth d and the number i
pub record ReadsHead (t : Six) (x d i : ℕ) : Type 0 where
  pub even : Even t
  pub vertex : x < size_of t
  pub depth : d ≡ depth_in t x
  pub id : i ≡ id_in t x
  pub depth_below : d < size_of t
  pub id_below : i < size_of t

-- x with what was read of it where the test passes, and else a refusal
abbrev pub reach : Bool → Six → ℕ → Result Place Refusal
reach test t x = pick test (Ok (place_of t x)) (Err BadTable)

-- where x is sound but that its head may not hang
pub record ReachedOn (t : Six) (x : ℕ) (r : Result Place Refusal) : Type 0 where
  pub is : r ≡ reach (seated? (size_of t) t x) t x

-- where x is sound
pub record StoodOn (t : Six) (x : ℕ) (r : Result Place Refusal) : Type 0 where
  pub is : r ≡ reach (sound? (size_of t) t x) t x

-- p is what was read of its vertex, which is sound but that its head may not hang
pub record Seat (t : Six) (p : Place) : Type 0 where
  pub place : p ≡ place_of t p.vertex
  pub seated : seated? (size_of t) t p.vertex ≡ true

pub record Rests (t : Six) (p : Place) : Type 0 where
  pub even : Even t
  pub seat : Seat t p

-- the parent of p's head was reached: the head hangs from it
abbrev pub above? : Six → Place → Bool
above? t p = both (hangs_from? (size_of t) t p.up p.top p.first) (seated? (size_of t) t p.up)

pub record ReachedAbove (t : Six) (p : Place) (r : Result Place Refusal) : Type 0 where
  pub is : r ≡ reach (above? t p) t p.up

-- what soundness says of the place where one stands
pub record Placed (n : ℕ) (D : List ℕ) (p : Place) : Type 0 where
  pub top_low : p.top ≤ p.depth
  pub first_low : p.first ≤ p.id
  pub level : p.id - p.first ≡ p.depth - p.top
  pub depth_below : p.depth < n
  pub id_below : p.id < n
  pub up_below : (p.up ≡ no_parent → ⊥) → p.up < n
  pub up_depth : (p.up ≡ no_parent → ⊥) → at D p.up + 1 ≡ p.top

pub record LeaveAsks (t : Six) (p : Place) (left : ℕ) : Type 0 where
  pub rests : Rests t p
  pub few : left < 64

-- p's chain is left while one more may be
abbrev pub leaves? : Six → Place → ℕ → Bool
leaves? t p left = both (ltb left (log2 (size_of t))) (above? t p)

pub record Left (t : Six) (p : Place) (left : ℕ) (r : Result Place Refusal) : Type 0 where
  pub is : r ≡ reach (leaves? t p left) t p.up

-- p and q were reached; no vertex is the number that says "no parent"
pub record ClimbsFrom (t : Six) (p q : Place) : Type 0 where
  pub even : Even t
  pub small : size_of t ≤ no_parent
  pub on_p : Seat t p
  pub on_q : Seat t q

-- how a climb ends once the head of the last chain was seen to hang, or not
abbrev pub settled : (n : ℕ) → Six → Climbed → Climbed
settled n t (Ok c) = pick (hangs? n t c.u) (Ok c) (Err BadTable)
settled n t (Err r) = Err r

-- a climb that ends is no deeper than where it began
pub record ClimbedTo (t : Six) (u v : ℕ) (r : Climbed) : Type 0 where
  pub climb : settled (size_of t) t r ≡ climb_to (size_of t) t u v
  pub u_low : (c : Climb) → r ≡ Ok c → (ancestor_of c).depth ≤ depth_in t u
  pub v_low : (c : Climb) → r ≡ Ok c → (ancestor_of c).depth ≤ depth_in t v

-- the climb from u and v, with every test: where it ends, the ancestor is no deeper than either
pub record Meets (t : Six) (u v : ℕ) (r : Climbed) : Type 0 where
  pub is : r ≡ climb_to (size_of t) t u v
  pub u_low : (c : Climb) → r ≡ Ok c → (ancestor_of c).depth ≤ depth_in t u
  pub v_low : (c : Climb) → r ≡ Ok c → (ancestor_of c).depth ≤ depth_in t v

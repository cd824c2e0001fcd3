-- What the inner functions of the symmetry test ask and answer. Lists are spoken of by functions: the entries are X 0, X 1, .., and list u is
-- those from o u up to o (u + 1).
use Rattle.std.specs.Prelude.{ℕ, ◌+◌, ◌-◌, ◌≤◌, ◌<◌, ◌^◌, min, ◌≡◌, Bool, true, false, List, eqb, length}
use Rattle.sums.specs.Sum.{at, tally, sum}
use Rattle.graph.specs.Work.{Only}
use Rattle.symmetry.specs.Symmetry.{SymmetryAsks}

-- how often v stands among the entries from a up to b
unfoldable pub part : (ℕ → ℕ) → ℕ → ℕ → ℕ → ℕ
part X a b v = sum (b - a) (λ i. tally (eqb (X (a + i)) v))

-- n lists stand one behind the other
pub record Starts (n : ℕ) (o : ℕ → ℕ) : Type 0 where
  pub first : o 0 ≡ 0
  pub rise : (u : ℕ) → u < n → o u ≤ o (u + 1)

-- v stands in T's list of x as often as x in X's list of v
abbrev pub Turns : ℕ → (ℕ → ℕ) → (ℕ → ℕ) → (ℕ → ℕ) → Type 0
Turns n o X T = (v x : ℕ) → v < n → x < n → part T (o x) (o (x + 1)) v ≡ part X (o v) (o (v + 1)) x

-- every entry is below n, where list x is filled up to c x
abbrev pub Below : ℕ → (ℕ → ℕ) → (ℕ → ℕ) → (ℕ → ℕ) → Type 0
Below n o c T = (x p : ℕ) → x < n → o x ≤ p → p < c x → T p < n

-- and each list ascends
abbrev pub Ascends : ℕ → (ℕ → ℕ) → (ℕ → ℕ) → (ℕ → ℕ) → Type 0
Ascends n o c T = (x p q : ℕ) → x < n → o x ≤ p → p ≤ q → q < c x → T p ≤ T q

-- the end of each list
abbrev pub ends : (ℕ → ℕ) → ℕ → ℕ
ends o x = o (x + 1)

-- the entries of X before e, the last of them in list u, are turned into the lists of T, of which list x is filled up to its cursor c x
pub record Turning (n : ℕ) (o X T c : ℕ → ℕ) (u e : ℕ) : Type 0 where
  pub in_range : u ≤ n
  pub from : o u ≤ e
  pub till : e ≤ o n
  pub begun : (x : ℕ) → x < n → o x ≤ c x
  pub within : (x : ℕ) → x < n → c x ≤ o (x + 1)
  pub total : sum n (λ x. c x - o x) ≡ e
  pub counts : (v x : ℕ) → v < n → x < n → part T (o x) (c x) v ≡ part X (o v) (min e (o (v + 1))) x
  pub passed : (x p : ℕ) → x < n → o x ≤ p → p < c x → T p ≤ u
  pub below : Below n o c T
  pub ascends : Ascends n o c T

-- all entries are turned
pub record Turned (n : ℕ) (o X T : ℕ → ℕ) : Type 0 where
  pub counts : Turns n o X T
  pub below : Below n o (ends o) T
  pub ascends : Ascends n o (ends o) T

-- the cursor of x in work
abbrev pub cursor : ℕ → List ℕ → ℕ → ℕ
cursor base w x = at w (base + x)

-- the entry of the turned lists at p in work
abbrev pub turned : ℕ → ℕ → List ℕ → ℕ → ℕ
turned n base w p = at w (base + n + p)

-- each cursor stands at the start of its list
abbrev pub AtStart : List ℕ → ℕ → ℕ → List ℕ → Type 0
AtStart os n base w = (x : ℕ) → x < n → cursor base w x ≡ at os x

-- `start_cursors`: each vertex has a start and a cursor
pub record StartAsks (os : List ℕ) (n base : ℕ) (w : List ℕ) : Type 0 where
  pub size : n ≤ length os
  pub room : base + n ≤ length w

-- the cursors are set, and nothing else is written
pub record StartAnswers (os : List ℕ) (n base : ℕ) (w w' : List ℕ) : Type 0 where
  pub at_start : AtStart os n base w'
  pub only : Only base (base + n) w w'

-- the loop's invariant, w₀ being work where it begins: the cursors below u are set
pub record Starting (os : List ℕ) (n base : ℕ) (w₀ w : List ℕ) (u : ℕ) : Type 0 where
  pub in_range : u ≤ n
  pub at_start : (x : ℕ) → x < u → cursor base w x ≡ at os x
  pub only : Only base (base + n) w₀ w

-- `turn`: sound lists, and each cursor at its start
pub record TurnAsks (os ts : List ℕ) (n base : ℕ) (w : List ℕ) : Type 0 where
  pub asks : SymmetryAsks os ts n base w
  pub at_start : AtStart os n base w

-- the lists are turned, or they are not symmetric
pub record TurnAnswers (os ts : List ℕ) (n base : ℕ) (w w' : List ℕ) (r : Bool) : Type 0 where
  pub right : r ≡ true → Turned n (at os) (at ts) (turned n base w')
  pub wrong : r ≡ false → Turns n (at os) (at ts) (at ts) → ⊥
  pub only : Only base (base + n + length ts) w w'

-- `turn_list`: the lists before that of u are turned
pub record ListAsks (os ts : List ℕ) (n base u : ℕ) (w : List ℕ) : Type 0 where
  pub asks : SymmetryAsks os ts n base w
  pub vertex : u < n
  pub turning : Turning n (at os) (at ts) (turned n base w) (cursor base w) u (at os u)

-- so is the list of u, or the lists are not symmetric
pub record ListAnswers (os ts : List ℕ) (n base u : ℕ) (w w' : List ℕ) (r : Bool) : Type 0 where
  pub right : r ≡ true → Turning n (at os) (at ts) (turned n base w') (cursor base w') (u + 1) (at os (u + 1))
  pub wrong : r ≡ false → Turns n (at os) (at ts) (at ts) → ⊥
  pub only : Only base (base + n + length ts) w w'

-- turned lists, with a cursor for each vertex before them
pub record BackLists (os : List ℕ) (n base : ℕ) (w : List ℕ) : Type 0 where
  pub size : n < length os
  pub small : n < 2 ^ 32
  pub starts : Starts n (at os)
  pub room : base + n + at os n ≤ length w
  pub below : Below n (at os) (ends (at os)) (turned n base w)
  pub ascends : Ascends n (at os) (ends (at os)) (turned n base w)

-- `turn_list_back`: the turned lists before that of u are turned back
pub record ListBackAsks (os : List ℕ) (n base u : ℕ) (w : List ℕ) : Type 0 where
  pub lists : BackLists os n base w
  pub vertex : u < n
  pub turning : Turning n (at os) (turned n base w) (turned n base w) (cursor base w) u (at os u)

-- so is that of u, or the turned lists are not symmetric; they stay as they are
pub record ListBackAnswers (os : List ℕ) (n base u : ℕ) (w w' : List ℕ) (r : Bool) : Type 0 where
  pub right : r ≡ true → Turning n (at os) (turned n base w) (turned n base w) (cursor base w') (u + 1) (at os (u + 1))
  pub wrong : r ≡ false → Turns n (at os) (turned n base w) (turned n base w) → ⊥
  pub only : Only base (base + n) w w'

-- `turn_back`: turned lists, and each cursor at its start again
pub record BackAsks (os : List ℕ) (n base : ℕ) (w : List ℕ) : Type 0 where
  pub lists : BackLists os n base w
  pub at_start : AtStart os n base w

-- whether the turned lists are symmetric; they stay as they are
pub record BackAnswers (os : List ℕ) (n base : ℕ) (w w' : List ℕ) (r : Bool) : Type 0 where
  pub right : r ≡ true → Turns n (at os) (turned n base w) (turned n base w)
  pub wrong : r ≡ false → Turns n (at os) (turned n base w) (turned n base w) → ⊥
  pub only : Only base (base + n) w w'

-- The loops' invariants, w₀ being work where the loop begins.

-- the entries before e are turned
pub record TurnLoop (os ts : List ℕ) (n base : ℕ) (w₀ w : List ℕ) (u e : ℕ) : Type 0 where
  pub turning : Turning n (at os) (at ts) (turned n base w) (cursor base w) u e
  pub only : Only base (base + n + length ts) w₀ w

-- the turned lists' entries before e are turned, into those same lists
pub record BackLoop (os : List ℕ) (n base : ℕ) (w₀ w : List ℕ) (u e : ℕ) : Type 0 where
  pub turning : Turning n (at os) (turned n base w₀) (turned n base w₀) (cursor base w) u e
  pub only : Only base (base + n) w₀ w

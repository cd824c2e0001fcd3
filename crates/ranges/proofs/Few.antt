-- On any tables a path has few ranges: each side leaves at most floor(log2 n) chains, and the last chain has one range or none.
use Rattle.std.specs.Prelude.{Ok, Err}
use Prim.Native.Nat.{ℕ, ◌+◌, ◌*◌, ◌≤◌}
use native.Mathlib.Omega.{arith}
use native.Mathlib.Decide.{dec_lt}
use mathlib.Core.Path.{◌≡◌, refl, sym, ap, ◌∙◌}
use mathlib.Core.Bool.{Bool, true, false}
use mathlib.Core.List.{List, [], ◌∷◌}
use lib.ListN.{length}
use borrow.Author.Tests.{lt-ltb, le-ltb}
use Rattle.answers.specs.Limits.{most_ranges}
use Rattle.numbering.specs.Log.{log2}
use Rattle.answers.proofs.Bounds.{chains_few}
use Rattle.tables.specs.Tables.{Six}
use Rattle.climb.specs.Asked.{size_of, others_of, tables?}
use Rattle.climb.specs.Climbing.{Climbed, climb_to}
use Rattle.answers.specs.Asked.{vertices?}
use Rattle.answers.specs.Choice.{pick}
use Rattle.answers.specs.declared.answer.Refusal.TheVariants.{BadSize, BadVertex}
use Rattle.answers.proofs.Passed.{sizes}
use Rattle.ranges.specs.declared.kinds.PathRange.{PathRange}
use Rattle.ranges.specs.declared.kinds.Piece.{Piece}
use Rattle.ranges.specs.declared.kinds.Kind.{Kind}
use Rattle.ranges.specs.declared.kinds.Kind.TheVariants.{Vertices, Edges, Both}
use Rattle.ranges.specs.Ranges.{Found, lost, found, last_piece, last_range, path_ranges}
use Rattle.ranges.specs.Calls.{Answered, refused, listed, from_found, ranges_of}
use Rattle.ranges.proofs.Looks.{Agree, agree}

-- the last chain has at most one range
pub last_one : (kind : Kind) (p : Piece) → length (last_range kind p) ≤ 1
last_one Vertices p = omega arith
last_one Edges p = elim (dec_lt (p.from + 1) p.to) [
  | yes h ↦ rw (lt-ltb (p.from + 1) p.to h) (omega arith)
  | no h ↦ rw (le-ltb (p.from + 1) p.to (omega arith)) (omega arith)
]
last_one Both p = omega arith

-- the ranges of a climb are at most one more than both sides' chains
found_few : (kind : Kind) (n : ℕ) (D : List ℕ) (x : Climbed) (f : Found) → Agree kind n D x f
    → (l : List PathRange) → f ≡ found l → length l ≤ 2 * log2 n + 1
found_few kind n D (Err x) f a l e =
    let z : lost ≡ found l = sym a ∙ e in
    let c : ◌≡◌ {A = ℕ} 0 1 = cc in
    absurd (omega arith)
found_few kind n D (Ok d) f a l e =
    let z : found a.list ≡ found l = sym a.same ∙ e in
    let m : a.list ≡ l = cc in
    let k = ap length m in
    omega (arith, a.counted, a.u_few, a.v_few, last_one kind (last_piece d.u d.v), k)

-- an answer of ranges is one of a climb
pub answer_found : (f : Found) (l : List PathRange) → from_found f ≡ listed l → f ≡ found l
answer_found lost l e = let z : ◌≡◌ {A = ℕ} 0 1 = cc in absurd (omega arith)
answer_found (found m) l e = cc

-- and of tests that were passed
tests_passed : (a b : Bool) (x : Answered) {l : List PathRange} → pick a (pick b x (refused BadVertex)) (refused BadSize) ≡ listed l → (a ≡ true) × (x ≡ listed l)
tests_passed true true x e = (refl, e)
tests_passed true false x e = let z : ◌≡◌ {A = ℕ} 0 1 = cc in absurd (omega arith)
tests_passed false b x e = let z : ◌≡◌ {A = ℕ} 0 1 = cc in absurd (omega arith)

module _ (kind : Kind) (t : Six) (u v : ℕ) (l : List PathRange) (e : ranges_of kind t u v ≡ listed l) where
  answer_passed : (tables? t ≡ true) × (from_found (path_ranges kind (size_of t) t u v) ≡ listed l)
  unfolding ranges_of
  answer_passed = tests_passed (tables? t) (vertices? (size_of t) (u ∷ v ∷ [])) (from_found (path_ranges kind (size_of t) t u v)) e

  -- "Range room: 2·floor(log2 n)+1 is always enough": for the ranges of each kind, on any tables
  pub ranges_enough : length l ≤ 2 * log2 (size_of t) + 1
  ranges_enough =
      let n = size_of t in
      let f = answer_found (path_ranges kind n t u v) l answer_passed.1 in
      found_few kind n t.depth (climb_to n t u v) (path_ranges kind n t u v) (agree kind n t u v) l f

  -- and so they fit where as many as a path has at most do
  pub ranges_few : length l ≤ most_ranges
  ranges_few =
      let s = sizes (size_of t) (others_of t) answer_passed.0 in
      let c = chains_few (size_of t) s.some s.few in
      let g = ranges_enough in
      omega arith

-- What the contract of the calls for records ties down, and what the records read where the tables number a tree.
use Rattle.std.specs.Prelude.{Ok, Err}
use Prim.Native.Nat.{ℕ, ◌+◌, ◌*◌, ◌≤◌}
use native.Mathlib.Omega.{arith}
use mathlib.Core.Path.{◌≡◌, sym, ap, ◌∙◌, subst}
use mathlib.Core.List.{List, [], ◌∷◌, ◌++◌}
use lib.ListN.{length, drop}
use borrow.Author.Tests.{le-leb}
use Rattle.sums.specs.Sum.{at}
use Rattle.paths.specs.Walk.{Stands, Simple}
use Rattle.numbering.specs.Log.{log2}
use Rattle.tables.specs.Tables.{Six}
use Rattle.answers.specs.declared.answer.Refusal.TheVariants.{NoRoom}
use Rattle.answers.proofs.Choices.{pick_true}
use Rattle.pathlaws.specs.Given.{Given}
use Rattle.pathlaws.proofs.Standing.{answered}
use Rattle.ranges.specs.Ranges.{found, path_ranges}
use Rattle.ranges.specs.Calls.{Answered, refused, listed, from_found, ranges_of}
use Rattle.ranges.specs.Readings.{reading}
use Rattle.ranges.specs.declared.kinds.PathRange.{PathRange}
use Rattle.ranges.specs.declared.kinds.Kind.{Kind}
use Rattle.readings.specs.Numbers.{numbers_of}
use Rattle.readings.proofs.Found.{ranges_found}
use Rattle.readings.proofs.Bounds.{ranges_room}
use Rattle.readings.proofs.SimpleReadings.{simple_last, ranges_simple}
use Rattle.records.specs.Records.{RecordedAs}
use Rattle.answers.specs.Answers.{Listed}

-- two results that the contract allows coincide: the answer and the whole slice
pub records-one : {a : Answered} {lent left left' : List PathRange} {r r' : Listed} → RecordedAs a lent left r → RecordedAs a lent left' r' → (r ≡ r') × (left ≡ left')
records-one p q = (p.answer ∙ sym q.answer, p.list ∙ sym q.list)

-- ranges that have room are answered by their number and written first
records_whole : {a : Answered} {lent left : List PathRange} {r : Listed} (l : List PathRange) → a ≡ listed l → length l ≤ length lent → RecordedAs a lent left r
    → (r ≡ Ok (length l)) × (left ≡ l ++ drop (length l) lent)
records_whole {a} {lent} {left} {r} l e h p =
    let q = subst (λ (b : Answered). RecordedAs b lent left r) e p in
    let t = le-leb (length l) (length lent) h in
    (q.answer ∙ pick_true (Ok (length l)) (Err NoRoom) t, q.list ∙ pick_true (l ++ drop (length l) lent) lent t)

module _ {n root : ℕ} {A : ℕ → List ℕ} {t : Six} {kids : ℕ → List ℕ} (G : Given n A root t kids) {u v : ℕ} {P : List ℕ} (s : Simple n (Stands A) u v P) (kind : Kind) where
  -- a path's ranges are what the call is for
  ranges_listed : (l : List PathRange) → path_ranges kind n t u v ≡ found l → ranges_of kind t u v ≡ listed l
  unfolding ranges_of
  ranges_listed l e = answered G (u ∷ v ∷ []) refused (λ m. from_found (path_ranges kind m t u v)) (s.below.0, (simple_last s, tt)) ∙ ap from_found e

  -- in a slice of range room the records come first, and they read the numbers of the simple path in order
  pub records_read : {lent left : List PathRange} {r : Listed} → RecordedAs (ranges_of kind t u v) lent left r → 2 * log2 n + 1 ≤ length lent
      → (l : List PathRange) × (r ≡ Ok (length l)) × (left ≡ l ++ drop (length l) lent) × (reading l ≡ numbers_of kind (at t.depth) (at t.id) u P)
  records_read p room =
      let f = ranges_found G kind s.below.0 (simple_last s) in
      let w = records_whole f.0 (ranges_listed f.0 f.1) (omega (arith, ranges_room G kind s.below.0 (simple_last s) f.0 f.1)) p in
      (f.0, w.0, w.1, ranges_simple G s kind f.0 f.1)

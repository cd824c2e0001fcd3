-- What the calls for records leave, by what the core handed back by value.
use Rattle.std.specs.Prelude.{Ok}
use Prim.Native.Nat.{ℕ, ◌*◌, ◌≤◌}
use native.Mathlib.Omega.{arith}
use mathlib.Core.Path.{◌≡◌, ap, ◌∙◌}
use mathlib.Core.List.{List}
use lib.ListN.{length, drop}
use borrow.Author.Tests.{le-leb}
use Rattle.ranges.specs.declared.kinds.PathRange.{PathRange}
use Rattle.rangelists.specs.declared.values.PathRanges.{PathRanges}
use Rattle.ranges.specs.Flat.{stride, flat_front}
use Rattle.ranges.specs.Calls.{Answered, refused, listed}
use Rattle.rangelists.specs.Values.{blank, ByValue}
use Rattle.records.specs.Inner.{copied}
use Rattle.records.specs.Records.{RecordedAs}
use Rattle.records.proofs.Copying.{copied_all}

-- where the records have room and were copied, the slice is as the call is to leave it
pub recorded : (a : Answered) {p : PathRanges} {lent left : List PathRange}
    → ByValue a (Ok p) → p.count ≤ length lent → left ≡ copied p.numbers 0 p.count lent → RecordedAs a lent left (Ok p.count)
recorded (refused y) h g e = absurd (let z = h.is in cc)
recorded (listed l) {p} {lent} {left} h g e =
    let z = h.is in
    let k : p.count ≡ length l = cc in
    let w : p.numbers ≡ flat_front l blank = cc in
    let t = le-leb (length l) (length lent) (omega arith) in
    record {
      answer = rw t (ap Ok k);
      list =
          rw t
          (e
          ∙ (ap (λ (i : ℕ). copied p.numbers 0 i lent) k
          ∙ (ap (λ (x : List ℕ). copied x 0 (length l) lent) w ∙ copied_all l (drop (stride * length l) blank) lent (omega arith))));
    }

-- An answer of few ranges, written into a blank array, is handed back by value.
use Rattle.std.specs.Prelude.{Ok, Err}
use Prim.Native.Nat.{ℕ, ◌*◌, ◌≤◌}
use native.Mathlib.Omega.{arith}
use mathlib.Core.Path.{◌≡◌, refl, ap, ◌∙◌}
use mathlib.Core.List.{List}
use lib.ListN.{length, length-replicate}
use borrow.Author.Tests.{le-leb}
use Rattle.answers.specs.Limits.{most_ranges}
use Rattle.tables.specs.Tables.{Six}
use Rattle.ranges.specs.declared.kinds.PathRange.{PathRange}
use Rattle.ranges.specs.declared.kinds.Kind.{Kind}
use Rattle.ranges.specs.Flat.{stride}
use Rattle.ranges.specs.Calls.{Answered, refused, listed, ranges_of, ListedAs}
use Rattle.rangelists.specs.Values.{blank, ByValue}
use Rattle.ranges.proofs.Few.{ranges_few}
use Rattle.answers.specs.declared.answer.Refusal.{Refusal}

-- where the list is blank, the answer is that of the calls by value
valued_at : (a : Answered) → ((l : List PathRange) → a ≡ listed l → length l ≤ most_ranges) → (w : List ℕ) (k : ℕ) → ListedAs a blank w (Ok k)
    → ByValue a (Ok (record { count = k; numbers = w }))
valued_at (refused x) few w k h = absurd (let z = h.answer in cc)
valued_at (listed l) few w k h =
    let f = few l refl in
    let t = le-leb (stride * length l) (length blank) (omega (arith, length-replicate (stride * most_ranges) (let z : ℕ = 0 in z))) in
    let c : Ok k ≡ Ok (length l) = rw t at h.answer in
    let n : k ≡ length l = cc in
    let m = rw t at h.list in
    record {
      is = ap (λ (i : ℕ). Ok (record { count = i; numbers = w })) n ∙ ap (λ (x : List ℕ). Ok (record { count = length l; numbers = x })) m;
      few = λ p e. let i : k ≡ p.count = cc in omega arith;
    }

-- a refusal is handed on, and it is not that of too little room
valued_refused : (a : Answered) → ((l : List PathRange) → a ≡ listed l → length l ≤ most_ranges) → (w : List ℕ) {x : Refusal} → ListedAs a blank w (Err x)
    → ByValue a (Err x)
valued_refused (refused y) few w h = record { is = let z = h.answer in cc; few = λ p e. absurd (cc) }
valued_refused (listed l) few w h =
    let f = few l refl in
    let t = le-leb (stride * length l) (length blank) (omega (arith, length-replicate (stride * most_ranges) (let z : ℕ = 0 in z))) in
    let c = rw t at h.answer in
    absurd (cc)

-- the ranges of a path of any kind
module _ (kind : Kind) (t : Six) (u v : ℕ) where
  pub valued : (w : List ℕ) (k : ℕ) → ListedAs (ranges_of kind t u v) blank w (Ok k) → ByValue (ranges_of kind t u v) (Ok (record { count = k; numbers = w }))
  valued w k h = valued_at (ranges_of kind t u v) (λ l e. ranges_few kind t u v l e) w k h

  pub value_refused : (w : List ℕ) {x : Refusal} → ListedAs (ranges_of kind t u v) blank w (Err x) → ByValue (ranges_of kind t u v) (Err x)
  value_refused w h = valued_refused (ranges_of kind t u v) (λ l e. ranges_few kind t u v l e) w h

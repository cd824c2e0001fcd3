-- Laws of ranges in a flat list: their text range by range, and the text of the list that a call left.
use Prim.Native.Nat.{ℕ, zero, suc, ◌+◌, ◌*◌, ◌≤◌, ◌<◌}
use native.Mathlib.Omega.{arith}
use native.Mathlib.Nat.{le_refl}
use native.Mathlib.Decide.{dec_le}
use native.Mathlib.Numerals.{add-one}
use mathlib.Core.Path.{◌≡◌, refl, sym, ap, ◌∙◌, subst}
use mathlib.Core.Logic.{by_cases}
use mathlib.Core.List.{List, [], ◌∷◌, ◌++◌, append_assoc, append-nil}
use lib.ListN.{length, drop, length-append}
use borrow.Author.Tests.{le-leb}
use Rattle.ranges.specs.Flat.{stride, flat, range_at, ranges_in}
use Rattle.ranges.specs.Calls.{Answered, refused, listed, room_answer, room_list}
use Rattle.ranges.specs.declared.kinds.PathRange.{PathRange}
use Rattle.ranges.proofs.ReadBack.{flat_ranges}
use Rattle.ranges.proofs.Slots.{flat-length}
use Rattle.treefile.specs.Report.{space, range_text, ranges_text, list_text}
use Rattle.treefile.specs.Flat.{answered_in, taken_by, listed_text, spoken_of}
use Rattle.treefile.specs.declared.page.Page.{Page}
use Rattle.treefile.specs.Writing.{Room, Prints}
use Rattle.treefile.proofs.Writing.{prints_then, prints_as, room_then, room_as}

-- the text of one range more
ranges_text_more : (l : List PathRange) (r : PathRange) → ranges_text (l ++ (r ∷ [])) ≡ ranges_text l ++ (space ++ range_text r)
ranges_text_more [] r = ap (λ (t : List ℕ). 32 ∷ t) (append-nil (range_text r))
ranges_text_more (x ∷ l) r =
    ap (λ (t : List ℕ). 32 ∷ t)
    (ap (λ (t : List ℕ). range_text x ++ t) (ranges_text_more l r) ∙ sym (append_assoc (range_text x) (ranges_text l) (space ++ range_text r)))

-- the text of the first ranges of a flat list
abbrev text_of : List ℕ → ℕ → List ℕ
text_of l k = ranges_text (ranges_in k l)

text_more : (l : List ℕ) (i : ℕ) → text_of l (suc i) ≡ text_of l i ++ (space ++ range_text (range_at l i))
text_more l i = ranges_text_more (ranges_in i l) (range_at l i)

-- more ranges are no shorter
text_longer : (l : List ℕ) (i k : ℕ) → i ≤ k → length (text_of l i) ≤ length (text_of l k)
text_longer l i zero h = let e : i ≡ 0 = omega arith in subst (λ (j : ℕ). length (text_of l j) ≤ length (text_of l 0)) (sym e) (le_refl _)
text_longer l i (suc k) h =
    let more = ap length (text_more l k) ∙ length-append (text_of l k) (space ++ range_text (range_at l k)) in
    by_cases (dec_le i k)
    (λ le. let rest = text_longer l i k le in omega arith)
    (λ gt. let e : i ≡ suc k = omega arith in subst (λ (j : ℕ). length (text_of l j) ≤ length (text_of l (suc k))) (sym e) (le_refl _))

-- behind the first i ranges there is room for the next
pub ranges_room : {p q : Page} (l : List ℕ) (i k : ℕ) → i < k
    → Prints (ranges_text (ranges_in i l)) p q → Room (ranges_text (ranges_in k l)) p → Room (space ++ range_text (range_at l i)) q
ranges_room l i k h w room =
    let longer = text_longer l (suc i) k h in
    room_then w (room_as (text_more l i) (record { fits = omega (arith, room.fits) }))

-- the next range is put behind them
pub ranges_more : {p q r : Page} (l : List ℕ) (i : ℕ)
    → Prints (ranges_text (ranges_in i l)) p q → Prints (space ++ range_text (range_at l i)) q r → Prints (ranges_text (ranges_in (i + 1) l)) p r
ranges_more l i v w = prints_as (sym (ap (text_of l) (add-one i) ∙ text_more l i)) (prints_then v w)

-- an answer and the list that was left say what was answered, where the list has room for it
pub answer_back : (a : Answered) (lent : List ℕ) → taken_by a ≤ length lent → answered_in (room_answer a (length lent)) (room_list a lent) ≡ a
answer_back (refused x) lent h = refl
answer_back (listed l) lent h = rw (le-leb (stride * length l) (length lent) h) (ap listed (flat_ranges l (drop (stride * length l) lent)))

-- its text
pub listed_text_lem : (a : Answered) (lent : List ℕ) → taken_by a ≤ length lent → listed_text (room_answer a (length lent)) (room_list a lent) ≡ list_text a
listed_text_lem a lent h = ap list_text (answer_back a lent h)

-- the list that was left holds what the answer speaks of
pub spoken_there : (a : Answered) (lent : List ℕ) → taken_by a ≤ length lent → spoken_of (room_answer a (length lent)) ≤ length (room_list a lent)
spoken_there (refused x) lent h = omega arith
spoken_there (listed l) lent h =
    rw (le-leb (stride * length l) (length lent) h) (omega (arith, length-append (flat l) (drop (stride * length l) lent), flat-length l))

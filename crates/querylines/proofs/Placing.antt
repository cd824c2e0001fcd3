-- Laws of the lines of queries: line by line, and the room for them.
use Prim.Native.Nat.{ℕ, ◌+◌, ◌<◌}
use native.Mathlib.Omega.{arith}
use native.Mathlib.Numerals.{add-one}
use mathlib.Core.Path.{◌≡◌, sym, ap, ◌∙◌}
use mathlib.Core.List.{List, ◌++◌}
use lib.ListN.{length, take, drop, get_or, take-append-drop}
use lib.Seq.{take-suc, length-take-le}
use Rattle.tables.specs.Tables.{Six}
use Rattle.treefile.specs.declared.page.Page.{Page}
use Rattle.treefile.specs.declared.query.Query.{Query}
use Rattle.treefile.specs.Report.{query_line, query_lines}
use Rattle.treefile.specs.Writing.{Room, Prints}
use Rattle.treefile.proofs.Writing.{prints_then, prints_as, room_then, room_as, room_first}
use Rattle.treefile.proofs.Report.{query_lines_more, query_lines-append}

-- the text of the first lines
abbrev text_of : Six → List Query → ℕ → List ℕ
text_of t qs k = query_lines t 1 (take k qs)

-- one line more
text_more : (t : Six) (qs : List Query) (i : ℕ) (d : Query) → i < length qs → text_of t qs (i + 1) ≡ text_of t qs i ++ query_line t (1 + i) (get_or qs i d)
text_more t qs i d h =
    ap (query_lines t 1) (ap (λ (k : ℕ). take k qs) (add-one i) ∙ take-suc qs i d h)
    ∙ query_lines_more t 1 (take i qs) (get_or qs i d)
    ∙ ap (λ (k : ℕ). text_of t qs i ++ query_line t (1 + k) (get_or qs i d)) (length-take-le i qs (omega arith))

-- behind the first i lines there is room for the next
pub lines_room : {p q : Page} (t : Six) (qs : List Query) (i : ℕ) (d : Query) → i < length qs
    → Prints (query_lines t 1 (take i qs)) p q → Room (query_lines t 1 qs) p → Room (query_line t (1 + i) (get_or qs i d)) q
lines_room t qs i d h w room =
    let rest = drop (i + 1) qs in
    let whole : query_lines t 1 qs ≡ text_of t qs (i + 1) ++ query_lines t (1 + length (take (i + 1) qs)) rest =
    ap (query_lines t 1) (sym (take-append-drop (i + 1) qs)) ∙ query_lines-append t 1 (take (i + 1) qs) rest in
    room_then w (room_as (text_more t qs i d h) (room_first _ (room_as whole room)))

-- the next line is put behind them
pub lines_more : {p q r : Page} (t : Six) (qs : List Query) (i : ℕ) (d : Query) → i < length qs
    → Prints (query_lines t 1 (take i qs)) p q → Prints (query_line t (1 + i) (get_or qs i d)) q r → Prints (query_lines t 1 (take (i + 1) qs)) p r
lines_more t qs i d h v w = prints_as (sym (text_more t qs i d h)) (prints_then v w)

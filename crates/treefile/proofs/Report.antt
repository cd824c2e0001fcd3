-- Laws of a report's lines: their parts, and how long they are.
use Rattle.std.specs.Prelude.{Ok, Err}
use Prim.Native.Nat.{ℕ, suc, ◌+◌, ◌-◌, ◌*◌, ◌^◌, ◌≤◌, ◌<◌}
use native.Mathlib.Omega.{arith}
use mathlib.Core.Path.{◌≡◌, refl, sym, ap, ◌∙◌}
use mathlib.Core.Bool.{Bool, true, false}
use mathlib.Core.List.{List, [], ◌∷◌, ◌++◌, append_assoc, append-nil}
use lib.Dec.{eqb}
use lib.ListN.{length, length-append}
use borrow.Author.Tests.{eq-eqb, ne_eqb}
use Rattle.tables.specs.Tables.{Six}
use Rattle.answers.specs.Answers.{refusal_code, Answer}
use Rattle.answers.specs.Choice.{pick}
use Rattle.queries.specs.Queries.{distance, lca, kth_ancestor, jump, subtree_size}
use Rattle.ranges.specs.Calls.{Answered, refused, listed, ranges_of}
use Rattle.ranges.specs.declared.kinds.Kind.{Kind}
use Rattle.ranges.specs.declared.kinds.Kind.TheVariants.{Vertices, Edges, Both}
use Rattle.ranges.specs.declared.kinds.PathRange.{PathRange}
use Rattle.treefile.specs.declared.query.Query.{Query}
use Rattle.treefile.specs.File.{TreeFile, max_queries}
use Rattle.treefile.specs.Report.{decimal, space, newline, fields, letter, range_text, ranges_text, number_text, list_text, answer_text, query_line, query_lines, tree_word, built_text, tree_line, file_report}
use Rattle.treefile.specs.Flat.{Low, Short, ShortLists, query_head}
use Rattle.treefile.specs.Sizes.{most_digits, file_ranges, range_digits, range_size, answer_size, line_size, tree_size, report_size}
use Rattle.treefile.proofs.Digits.{decimal_digits, decimal_room}
use native.Mathlib.Nat.{add-zero}

-- what the line of a tree says of a refused one, and of another
pub refused_text : (code n root : ℕ) → (code ≡ 0 → ⊥) → built_text code n root ≡ decimal code
refused_text code n root ne = rw (ne_eqb code 0 ne)

pub accepted_text : (code n root : ℕ) → code ≡ 0 → built_text code n root ≡ fields (0 ∷ n ∷ root ∷ [])
accepted_text code n root e = rw (eq-eqb code 0 e)

-- and the whole line
pub tree_refused : (code n root : ℕ) → (code ≡ 0 → ⊥) → tree_line code n root ≡ tree_word ++ (decimal code ++ newline)
tree_refused code n root ne = ap (λ (l : List ℕ). tree_word ++ (l ++ newline)) (refused_text code n root ne)

pub tree_built : (code n root : ℕ) → code ≡ 0 → tree_line code n root ≡ tree_word ++ (fields (0 ∷ n ∷ root ∷ []) ++ newline)
tree_built code n root e = ap (λ (l : List ℕ). tree_word ++ (l ++ newline)) (accepted_text code n root e)

-- a query's line is its head, its answer and the end of the line
pub query_line_lem : (t : Six) (place : ℕ) (q : Query) → query_line t place q ≡ query_head place q.kind ++ (answer_text t q ++ newline)
query_line_lem t place q =
    let rest : List ℕ = answer_text t q ++ newline in
    sym (append_assoc (decimal place) (space ++ (decimal q.kind ++ space)) rest
    ∙ ap (λ (l : List ℕ). decimal place ++ (32 ∷ l)) (append_assoc (decimal q.kind) space rest))

-- how long each text gets, from a range to the whole report
pub range_text_room : (k : ℕ) (r : PathRange) → 0 < k → r.start < 10 ^ k → r.end < 10 ^ k → length (range_text r) ≤ range_size k
range_text_room k r some low high =
    let first = decimal_digits k r.start some low in
    let last = decimal_digits k r.end some high in
    let whole = length-append (decimal r.start) (45 ∷ (decimal r.end ++ (letter r.direction ∷ []))) in
    let rest = length-append (decimal r.end) (letter r.direction ∷ []) in
    omega arith

pub ranges_text_room : (l : List PathRange) → Low (10 ^ range_digits) l → length (ranges_text l) ≤ (1 + range_size range_digits) * length l
ranges_text_room [] h = omega arith
ranges_text_room (r ∷ l) (low, high, rest) =
    omega (arith, range_text_room range_digits r (omega arith) low high, ranges_text_room l rest, length-append (range_text r) (ranges_text l))

pub number_text_room : (a : Answer) → length (number_text a) ≤ 2 * most_digits + 1
number_text_room (Ok x) = omega (arith, decimal_room 0, decimal_room x, length-append (decimal 0) (space ++ decimal x))
number_text_room (Err r) = omega (arith, decimal_room (refusal_code r))

pub tree_line_room : (code n root : ℕ) → length (tree_line code n root) ≤ tree_size
tree_line_room code n root = go (eqb code 0)
  where
    go : (b : Bool) → length (tree_word ++ (pick b (fields (0 ∷ n ∷ root ∷ [])) (decimal code) ++ newline)) ≤ tree_size
    go true =
        let a = decimal_room 0 in
        let b = decimal_room n in
        let c = decimal_room root in
        let d = length-append (fields (0 ∷ n ∷ root ∷ [])) newline in
        let e = length-append (decimal 0) (space ++ (decimal n ++ (space ++ decimal root))) in
        let f = length-append (decimal n) (space ++ decimal root) in
        omega arith
    go false = omega (arith, decimal_room code, length-append (decimal code) newline)

list_text_room : (a : Answered) → ((l : List PathRange) → a ≡ listed l → Short l) → length (list_text a) ≤ answer_size range_digits file_ranges
list_text_room (refused x) short = omega (arith, decimal_room (refusal_code x))
list_text_room (listed l) short =
    let s = short l refl in
    omega (arith, s.few, decimal_room 0, ranges_text_room l s.low, length-append (decimal 0) (ranges_text l))

pick_room : (b : Bool) {n : ℕ} (x y : List ℕ) → length x ≤ n → length y ≤ n → length (pick b x y) ≤ n
pick_room true x y hx hy = hx
pick_room false x y hx hy = hy

-- an answer of a number is no longer than one of ranges can be
pub answer_text_room : (t : Six) (q : Query) → ShortLists t → length (answer_text t q) ≤ answer_size range_digits file_ranges
unfolding answer_text
answer_text_room t q short =
    let room : (a : Answer) → length (number_text a) ≤ answer_size range_digits file_ranges = λ a. omega (arith, number_text_room a) in
    let list : (k : Kind) → length (list_text (ranges_of k t q.a q.b)) ≤ answer_size range_digits file_ranges =
    λ k. list_text_room (ranges_of k t q.a q.b) (short k q.a q.b) in
    pick_room (eqb q.kind 1) _ _ (room (distance t q.a q.b))
    (pick_room (eqb q.kind 2) _ _ (room (lca t q.a q.b q.c))
    (pick_room (eqb q.kind 3) _ _ (room (kth_ancestor t q.a q.b))
    (pick_room (eqb q.kind 4) _ _ (room (jump t q.a q.b q.c))
    (pick_room (eqb q.kind 5) _ _ (room (subtree_size t q.a q.b))
    (pick_room (eqb q.kind 6) _ _ (list Vertices)
    (pick_room (eqb q.kind 7) _ _ (list Edges) (list Both)))))))

pub query_head_room : (place kind : ℕ) → length (query_head place kind) ≤ 2 * (most_digits + 1)
query_head_room place kind =
    omega (arith, decimal_room place, decimal_room kind, length-append (decimal place) (space ++ (decimal kind ++ space)), length-append (decimal kind) space)

pub query_line_room : (t : Six) (place : ℕ) (q : Query) → ShortLists t → length (query_line t place q) ≤ line_size range_digits file_ranges
query_line_room t place q short =
    let parts = ap length (query_line_lem t place q) ∙ length-append (query_head place q.kind) (answer_text t q ++ newline) in
    omega (arith, query_head_room place q.kind, answer_text_room t q short, length-append (answer_text t q) newline)

pub query_lines_room : (t : Six) (place : ℕ) (qs : List Query) → ShortLists t
    → length (query_lines t place qs) ≤ line_size range_digits file_ranges * length qs
query_lines_room t place [] short = omega arith
query_lines_room t place (q ∷ qs) short =
    let parts = length-append (query_line t place q) (query_lines t (place + 1) qs) in
    omega (arith, query_line_room t place q short, query_lines_room t (place + 1) qs short)

pub report_room_lem : (code : ℕ) (t : Six) (f : TreeFile) → ShortLists t → length f.queries ≤ max_queries
    → length (file_report code t f) ≤ report_size range_digits file_ranges max_queries
unfolding max_queries
report_room_lem code t f short most =
    let lines = query_lines_room t 1 f.queries short in
    let rest : length (pick (eqb code 0) (query_lines t 1 f.queries) []) ≤ max_queries * line_size range_digits file_ranges =
    pick_room (eqb code 0) _ [] (omega arith) (omega arith) in
    let first : List ℕ = tree_line code (length f.tree.offsets - 1) f.tree.root in
    let both = length-append first (pick (eqb code 0) (query_lines t 1 f.queries) []) in
    omega (arith, tree_line_room code (length f.tree.offsets - 1) f.tree.root)

-- the lines of the first queries, and of those behind them
pub query_lines-append : (t : Six) (place : ℕ) (qs rs : List Query)
    → query_lines t place (qs ++ rs) ≡ query_lines t place qs ++ query_lines t (place + length qs) rs
query_lines-append t place [] rs = ap (λ (k : ℕ). query_lines t k rs) (sym (add-zero place))
query_lines-append t place (x ∷ qs) rs =
    let e : place + 1 + length qs ≡ place + suc (length qs) = omega arith in
    ap (λ (l : List ℕ). query_line t place x ++ l) (query_lines-append t (place + 1) qs rs ∙ ap (λ (k : ℕ). query_lines t (place + 1) qs ++ query_lines t k rs) e)
    ∙ sym (append_assoc (query_line t place x) (query_lines t (place + 1) qs) (query_lines t (place + suc (length qs)) rs))

pub query_lines_more : (t : Six) (place : ℕ) (qs : List Query) (q : Query)
    → query_lines t place (qs ++ (q ∷ [])) ≡ query_lines t place qs ++ query_line t (place + length qs) q
query_lines_more t place qs q =
    query_lines-append t place qs (q ∷ []) ∙ ap (λ (l : List ℕ). query_lines t place qs ++ l) (append-nil (query_line t (place + length qs) q))

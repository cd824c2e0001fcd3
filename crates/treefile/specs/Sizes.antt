-- How long the texts of a report can get: by the digits of their numbers, the ranges of an answer and the queries of a file.
use Rattle.std.specs.Prelude.{ℕ, ◌+◌, ◌*◌}

-- the digits of any number below 2 ^ 64
abbrev pub most_digits : ℕ
most_digits = 20

-- "more than 1,025 offsets" is a BadFile, so the program's trees have at most 1,024 vertices: a path has at most 2·floor(log2 1,024)+1 ranges
abbrev pub file_ranges : ℕ
file_ranges = 21

-- and its ranges end at 2·1,024-1 at the latest, so their numbers are below 10 ^ 4
abbrev pub range_digits : ℕ
range_digits = 4

-- "ranges as start-end with R or F": two numbers of so many digits, the dash and the letter
abbrev pub range_size : ℕ → ℕ
range_size digits = 2 * digits + 2

-- an answer of so many ranges: its code, and each range behind a space
abbrev pub answer_size : (digits ranges : ℕ) → ℕ
answer_size digits ranges = most_digits + ranges * (1 + range_size digits)

-- "for each query its place from 1, kind, code, and the answer": two numbers, each with a space, the answer with its code, and the line's end
abbrev pub line_size : (digits ranges : ℕ) → ℕ
line_size digits ranges = 2 * (most_digits + 1) + answer_size digits ranges + 1

-- "tree" and a space, then three numbers, each before a space or the line's end
abbrev pub tree_size : ℕ
tree_size = 5 + 3 * (most_digits + 1)

-- the line of the tree and those of so many queries
abbrev pub report_size : (digits ranges queries : ℕ) → ℕ
report_size digits ranges queries = tree_size + queries * line_size digits ranges

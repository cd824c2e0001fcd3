-- What the inner functions of the parser answer: the numbers of the file, a section, a tree's sections, and the queries.
use Rattle.std.specs.Prelude.{ℕ, ◌+◌, ◌^◌, ◌≤◌, ◌<◌, ◌≡◌, Bool, true, false, List, [], ◌∷◌, length, take, drop, Option, None, Some}
use Rattle.sums.specs.Sum.{at}
use Rattle.treefile.specs.declared.words.Width.{Width}
use Rattle.treefile.specs.declared.words.Width.TheVariants.{Narrow, Wide}
use Rattle.treefile.specs.declared.words.Words.{Words}
use Rattle.treefile.specs.declared.judge.Sections.{Sections}
use Rattle.treefile.specs.declared.query.Query.{Query}
use Rattle.treefile.specs.File.{little_endian, numbers, narrow, Section, cut, part, TreeRead, bad_tree, tree, Queries, bad, all, Parsed, bad_file, file}

-- the bytes of a number of each width
abbrev pub bytes_in : Width → ℕ
bytes_in Narrow = narrow
bytes_in Wide = 4

-- the numbers that bytes of a width hold
abbrev pub words_in : Words → List ℕ
words_in w = numbers (bytes_in w.width) w.bytes.now

-- r is what so many bytes from index at on say
pub record Little (width : ℕ) (bytes : List ℕ) (at r : ℕ) : Type 0 where
  pub value : r ≡ little_endian (take width (drop at bytes))
  pub small : r < 256 ^ width

-- r is the number at place i of the file
pub record Number (width : ℕ) (bytes : List ℕ) (i r : ℕ) : Type 0 where
  pub value : r ≡ at (numbers width bytes) i
  pub small : r < 256 ^ width

-- the numbers that a first one and the rest are
abbrev pub first_in : Option (ℕ × Words) → List ℕ
first_in None = []
first_in (Some (x, rest)) = x ∷ words_in rest

-- what was read: a section and what follows it
abbrev pub section_in : Option (Words × Words) → Section
section_in None = cut
section_in (Some (l, rest)) = part (words_in l) (words_in rest)

-- a tree's sections and what follows them
abbrev pub tree_in : Option Sections → TreeRead
tree_in None = bad_tree
tree_in (Some s) = tree (record { offsets = words_in s.offsets; targets = words_in s.targets; root = s.root }) (words_in s.rest)

-- the four numbers from place p on
abbrev pub query_at : List ℕ → ℕ → Query
query_at ws p = record { kind = at ws p; a = at ws (p + 1); b = at ws (p + 2); c = at ws (p + 3) }

abbrev pub is_all : Queries → Bool
is_all bad = false
is_all (all qs) = true

-- the queries that numbers are, four to a query
abbrev pub queries_from : List ℕ → List Query
queries_from [] = []
queries_from (x ∷ []) = []
queries_from (x ∷ y ∷ []) = []
queries_from (x ∷ y ∷ z ∷ []) = []
queries_from (x ∷ y ∷ z ∷ w ∷ ws) = record { kind = x; a = y; b = z; c = w } ∷ queries_from ws

-- the queries of a section that is good
abbrev pub asked_in : Option Words → Queries
asked_in None = bad
asked_in (Some w) = all (queries_from (words_in w))

-- the whole file
abbrev pub parsed_in : Option (Sections × Words) → Parsed
parsed_in None = bad_file
parsed_in (Some (s, w)) =
    file (record { tree = record { offsets = words_in s.offsets; targets = words_in s.targets; root = s.root }; queries = queries_from (words_in w) })

-- there is room for these numbers
abbrev pub Fits : List ℕ → List ℕ → Type 0
Fits l out = length l ≤ length out

-- 01, "The program `treepaths`": which inputs are no BadFile, said of what they hold and not of how they are read. "BadFile .. : input ends early or
-- has bytes left, more than 1,025 offsets, 2,048 targets or 64 queries, another root count, another kind, or an unused number not 0."
use Rattle.std.specs.Prelude.{ℕ, ◌%◌, ◌≤◌, ◌≡◌, ◌≢◌, List, [], ◌∷◌, ◌++◌, length}
use Rattle.treefile.specs.declared.query.Query.{Query}
use Rattle.treefile.specs.File.{TreeFile, max_offsets, max_file_targets, max_queries, numbers, narrow}
use Rattle.treefile.specs.Parsing.{query_numbers}

-- "each after its count"
abbrev pub counted : List ℕ → List ℕ
counted l = length l ∷ l

-- "sections in fixed order": "offsets; targets; the root (count 1); queries of four numbers"
abbrev pub file_numbers : TreeFile → List ℕ
file_numbers f =
    counted f.tree.offsets
    ++ (counted f.tree.targets ++ (counted (f.tree.root ∷ []) ++ (length f.queries ∷ query_numbers f.queries)))

-- a kind from 1 to 8; "Unused numbers are 0": only 2 lca(a,b,c) and 4 jump(a,b,c) use c
pub record GoodQuery (q : Query) : Type 0 where
  pub some_kind : 1 ≤ q.kind
  pub known_kind : q.kind ≤ 8
  pub unused : q.kind ≢ 2 → q.kind ≢ 4 → q.c ≡ 0

abbrev pub GoodQueries : List Query → Type 0
GoodQueries [] = Unit {0}
GoodQueries (q ∷ qs) = GoodQuery q × GoodQueries qs

-- the bytes are those of this file: its numbers, "all 16-bit little-endian", and nothing before, between or behind them
pub record Holds (bytes : List ℕ) (f : TreeFile) : Type 0 where
  pub whole : length bytes % narrow ≡ 0
  pub sections : numbers narrow bytes ≡ file_numbers f
  pub few_offsets : length f.tree.offsets ≤ max_offsets
  pub few_targets : length f.tree.targets ≤ max_file_targets
  pub few_queries : length f.queries ≤ max_queries
  pub good_queries : GoodQueries f.queries

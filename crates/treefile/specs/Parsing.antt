-- What `parse` answers and leaves in the lent buffers.
use Rattle.std.specs.Prelude.{ℕ, ◌≤◌, ◌≡◌, List, [], ◌∷◌, length, Option, None, Some}
use Rattle.paths.specs.Lists.{front}
use Rattle.treefile.specs.declared.parse.Shape.{Shape}
use Rattle.treefile.specs.declared.query.Query.{Query}
use Rattle.treefile.specs.File.{Parsed, bad_file, file, parse_as, max_offsets, max_file_targets, max_queries}

-- the counts of a well-formed file and its root
abbrev pub shape_of : Parsed → Option Shape
shape_of bad_file = None
shape_of (file f) =
    Some (record { offsets = length f.tree.offsets; targets = length f.tree.targets; root = f.tree.root; queries = length f.queries })

abbrev pub offsets_of : Parsed → List ℕ
offsets_of bad_file = []
offsets_of (file f) = f.tree.offsets

abbrev pub targets_of : Parsed → List ℕ
targets_of bad_file = []
targets_of (file f) = f.tree.targets

abbrev pub queries_of : Parsed → List Query
queries_of bad_file = []
queries_of (file f) = f.queries

-- queries as numbers, four to a query
abbrev pub query_numbers : List Query → List ℕ
query_numbers [] = []
query_numbers (q ∷ qs) = q.kind ∷ q.a ∷ q.b ∷ q.c ∷ query_numbers qs

-- the buffers hold any well-formed file
pub record Buffers (os ts : List ℕ) (qs : List Query) : Type 0 where
  pub offsets : max_offsets ≤ length os
  pub targets : max_file_targets ≤ length ts
  pub queries : max_queries ≤ length qs

-- reading the bytes by numbers of so many bytes answers r and leaves os', ts' and qs' in the buffers; for a bad file they are unchanged
pub record Parses (width : ℕ) (bytes os ts : List ℕ) (qs : List Query) (os' ts' : List ℕ) (qs' : List Query) (r : Option Shape) : Type 0 where
  pub shape : r ≡ shape_of (parse_as width bytes)
  pub offsets : os' ≡ front (offsets_of (parse_as width bytes)) os
  pub targets : ts' ≡ front (targets_of (parse_as width bytes)) ts
  pub queries : qs' ≡ front (queries_of (parse_as width bytes)) qs

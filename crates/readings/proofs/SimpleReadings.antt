-- The readings in 01's words: whatever list is a simple path of the graph, the ranges read its numbers.
use Prim.Native.Nat.{ℕ, ◌<◌}
use mathlib.Core.Path.{◌≡◌, subst}
use mathlib.Core.List.{List, ◌∷◌, ◌++◌, map}
use Rattle.sums.specs.Sum.{at}
use Rattle.paths.specs.Walk.{In, Stands, Simple}
use Rattle.paths.proofs.Listed.{in-below, from_last}
use Rattle.paths.proofs.Unique.{path_unique}
use Rattle.tables.specs.Tables.{Six}
use Rattle.pathlaws.specs.Given.{Given}
use Rattle.ranges.specs.Ranges.{found, path_ranges}
use Rattle.ranges.specs.Readings.{reading, edge_numbers, both_numbers}
use Rattle.ranges.specs.declared.kinds.PathRange.{PathRange}
use Rattle.ranges.specs.declared.kinds.Kind.{Kind}
use Rattle.ranges.specs.declared.kinds.Kind.TheVariants.{Vertices, Edges, Both}
use Rattle.readings.specs.Numbers.{numbers_of, rest}
use Rattle.readings.proofs.PathReadings.{ranges_read, ranges_cut}

module _ {n : ℕ} {E : ℕ → ℕ → Type 0} {u v : ℕ} {P : List ℕ} (s : Simple n E u v P) where
  -- a path ends at a vertex
  pub simple_last : v < n
  simple_last = in-below n v (u ∷ P) s.below (from_last E u v P s.walk)

module _ {n root : ℕ} {A : ℕ → List ℕ} {t : Six} {kids : ℕ → List ℕ} (G : Given n A root t kids) {u v : ℕ} {P : List ℕ} (s : Simple n (Stands A) u v P) where
  -- the ranges from u to v read the numbers of the simple path in order
  pub ranges_simple :
      (kind : Kind) (l : List PathRange) → path_ranges kind n t u v ≡ found l → reading l ≡ numbers_of kind (at t.depth) (at t.id) u P
  ranges_simple kind l e = rw (path_unique G.tables.spans s) (ranges_read G kind s.below.0 (simple_last s) l e)

  -- vertex ranges read the number of each of its vertices
  pub vertices_simple : (l : List PathRange) → path_ranges Vertices n t u v ≡ found l → reading l ≡ map (at t.id) (u ∷ P)
  vertices_simple = ranges_simple Vertices

  -- edge ranges read the number of each of its edges, that of the child
  pub edges_simple : (l : List PathRange) → path_ranges Edges n t u v ≡ found l → reading l ≡ edge_numbers (at t.depth) (at t.id) u P
  edges_simple = ranges_simple Edges

  -- vertex and edge ranges read the doubled numbers of both in turn
  pub both_simple : (l : List PathRange) → path_ranges Both n t u v ≡ found l → reading l ≡ both_numbers (at t.depth) (at t.id) u P
  both_simple = ranges_simple Both

  -- cut at any vertex w of the simple path, the reading is that to w, followed by what that from w adds
  pub ranges_simple_cut :
      (kind : Kind) (w : ℕ)
      → In w (u ∷ P)
      → (l l₁ l₂ : List PathRange)
      → path_ranges kind n t u v ≡ found l
      → path_ranges kind n t u w ≡ found l₁
      → path_ranges kind n t w v ≡ found l₂
      → reading l ≡ reading l₁ ++ rest kind (reading l₂)
  ranges_simple_cut kind w h =
      ranges_cut G kind w s.below.0 (simple_last s) (subst (λ (Q : List ℕ). In w (u ∷ Q)) (path_unique G.tables.spans s) h)

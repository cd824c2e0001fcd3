-- What condition 2 asks of the answers to calls on the tables of a build: "every .. ancestor, path .. right". It is said once, for any caller: in Rattle
-- an answer is a value; what it is in C says specs/InC.antt.
use Rattle.std.specs.Prelude.{ℕ, ◌+◌, ◌*◌, ◌≤◌, ◌<◌, ◌≡◌, ◌≢◌, Bool, List, ◌∷◌, map, length, Ok, Err}
use Rattle.sums.specs.Sum.{at, how_many}
use Rattle.paths.specs.Walk.{Stands, Simple}
use Rattle.numbering.specs.Log.{log2}
use Rattle.answers.specs.Limits.{max_vertices}
use Rattle.tables.specs.Tables.{Six}
use Rattle.queries.specs.Queries.{vertex_count, root_of, depth_of, vertex_id, subtree_range, kth_ancestor as ancestor_of, subtree_size, distance as distance_of, lca as lca_of, jump as jump_of}
use Rattle.answers.specs.declared.answer.Refusal.TheVariants.{BadTable, TooFar}
use Rattle.pathlaws.specs.NeverNine.{NeverNine}
use Rattle.ranges.specs.Calls.{Answered, refused, listed, ranges_of, range_room}
use Rattle.ranges.specs.Readings.{reading, edge_numbers, both_numbers}
use Rattle.ranges.specs.declared.kinds.PathRange.{PathRange}
use Rattle.ranges.specs.declared.kinds.Kind.{Kind}
use Rattle.ranges.specs.declared.kinds.Kind.TheVariants.{Vertices, Edges, Both}
use Rattle.centroid.specs.Reads.{read_of}
use Rattle.demands.specs.Numbers.{OnPath, PicksSubtree}
use Rattle.answers.specs.Answers.{Answer, Interval}

-- how a caller sees that the answer is this number, that it is the refusal 10, that it is this interval, that these are the ranges
pub record Caller : Type 1 where
  pub number : Answer → ℕ → Type 0
  pub too_far : Answer → Type 0
  pub interval : Interval → ℕ → ℕ → Type 0
  pub ranges : Answered → List PathRange → Type 0

-- in Rattle, by the answer itself
abbrev pub in_rattle : Caller
in_rattle = record { number = λ a x. a ≡ Ok x; too_far = λ a. a ≡ Err TooFar; interval = λ i x y. i ≡ Ok (x, y); ranges = λ a l. a ≡ listed l }

-- the answers of the calls on the tables t of the tree of n vertices with the lists A, as this caller sees them
pub record Answers (caller : Caller) (n : ℕ) (A : ℕ → List ℕ) (root : ℕ) (t : Six) : Type 0 where
  pub vertex_count : caller.number (vertex_count t) n
  pub root_answer : caller.number (root_of t) root
  pub depth : {v : ℕ} {P : List ℕ} → Simple n (Stands A) v root P → caller.number (depth_of t v) (length P)
  pub vertex_id : {v : ℕ} → v < n → caller.number (vertex_id t v) (at t.id v)
  pub subtree_range : {v : ℕ} → v < n → caller.interval (subtree_range t v) (at t.id v) (at t.id v + at t.size v)
  -- "`distance`, `kth_ancestor`, `jump`: by the simple path."
  pub distance : {u v : ℕ} {P : List ℕ} → Simple n (Stands A) u v P → caller.number (distance_of t u v) (length P)
  pub kth_ancestor : (k : ℕ) {v : ℕ} {P : List ℕ} → Simple n (Stands A) v root P → k ≤ length P → caller.number (ancestor_of t v k) (at (v ∷ P) k)
  pub jump : (k : ℕ) {u v : ℕ} {P : List ℕ} → Simple n (Stands A) u v P → k ≤ length P → caller.number (jump_of t u v k) (at (u ∷ P) k)
  -- "`kth_ancestor` is refused exactly if no k-th ancestor exists; `jump` exactly if k exceeds the distance."
  pub no_ancestor : (k : ℕ) {v : ℕ} {P : List ℕ} → Simple n (Stands A) v root P → length P < k → caller.too_far (ancestor_of t v k)
  pub no_jump : (k : ℕ) {u v : ℕ} {P : List ℕ} → Simple n (Stands A) u v P → length P < k → caller.too_far (jump_of t u v k)
  -- "`lca(r,u,v)` and `subtree_size(r,v)`: as if r were the root."
  pub lca :
      {r u v : ℕ} (m : ℕ) → OnPath n A u r m → OnPath n A v r m
      → ((x : ℕ) → OnPath n A u r x → OnPath n A v r x → OnPath n A m r x)
      → caller.number (lca_of t r u v) m
  pub subtree_size : {r v : ℕ} → r < n → v < n → (test : ℕ → Bool) → PicksSubtree n A r v test → caller.number (subtree_size t r v) (how_many n test)
  -- "Vertex ranges": they read the number of each vertex of the simple path in order
  pub vertex_ranges :
      {u v : ℕ} {P : List ℕ} → Simple n (Stands A) u v P
      → (l : List PathRange) × caller.ranges (ranges_of Vertices t u v) l × (reading l ≡ map (at t.id) (u ∷ P))
  -- "Edge ranges": they read the number of each edge of the simple path in order, that of its child
  pub edge_ranges :
      {u v : ℕ} {P : List ℕ} → Simple n (Stands A) u v P
      → (l : List PathRange) × caller.ranges (ranges_of Edges t u v) l × (reading l ≡ edge_numbers (at t.depth) (at t.id) u P)
  -- "Vertex and edge ranges": they read the doubled numbers of both in turn
  pub both_ranges :
      {u v : ℕ} {P : List ℕ} → Simple n (Stands A) u v P
      → (l : List PathRange) × caller.ranges (ranges_of Both t u v) l × (reading l ≡ both_numbers (at t.depth) (at t.id) u P)

-- the reads of the two tables of a decomposition: the entry of each vertex
pub record Reads (caller : Caller) (n : ℕ) (up level : List ℕ) : Type 0 where
  pub parent_read : {c : ℕ} → c < n → caller.number (read_of up level c) (at up c)
  pub level_read : {c : ℕ} → c < n → caller.number (read_of level up c) (at level c)

-- "and a call returns that number for n from 1 to 32,768"
abbrev pub RoomAnswer : Caller → Type 0
RoomAnswer caller = (n : ℕ) → 1 ≤ n → n ≤ max_vertices → caller.number (range_room n) (2 * log2 n + 1)

-- "Tables that a build wrote never give 9.": no query, and no call for ranges
pub record NoNine (t : Six) : Type 0 where
  pub queries : NeverNine t
  pub ranges : (kind : Kind) (u v : ℕ) → ranges_of kind t u v ≢ refused BadTable

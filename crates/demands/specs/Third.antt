-- Tender, condition 3: "For tables built from an accepted tree, the vertex ranges from u to v, read by their directions, give exactly the numbers of
-- the simple path in order. Cut at any vertex w on it, that reading is the one to w followed by the one from w without its first number. From v to u
-- the reading is reversed. There are at most 2·floor(log2 n)+1 ranges. lca(r,u,v) is the one vertex on all three paths between r, u and v, in every
-- order of the three."
use Rattle.std.specs.Prelude.{ℕ, ◌+◌, ◌*◌, ◌≤◌, ◌<◌, ◌^◌, ◌≡◌, List, ◌∷◌, ◌++◌, map, reverse, length, drop, Ok}
use Rattle.sums.specs.Sum.{at}
use Rattle.paths.specs.Lists.{front}
use Rattle.paths.specs.Walk.{Stands, Simple}
use Rattle.answers.specs.Codes.{done}
use Rattle.graph.specs.Lent.{vertices, list_of}
use Rattle.numbering.specs.Log.{log2}
use Rattle.tables.specs.Tables.{Six}
use Rattle.hld.specs.Build.{Builds}
use Rattle.climb.specs.Asked.{size_of}
use Rattle.queries.specs.Queries.{lca}
use Rattle.ranges.specs.Flat.{stride, flat_front}
use Rattle.ranges.specs.Calls.{listed, ranges_of, ListedAs}
use Rattle.ranges.specs.Readings.{reading}
use Rattle.ranges.specs.declared.kinds.PathRange.{PathRange}
use Rattle.ranges.specs.declared.kinds.Kind.{Kind}
use Rattle.ranges.specs.declared.kinds.Kind.TheVariants.{Vertices}
use Rattle.records.specs.Records.{RecordedAs}
use Rattle.demands.specs.Numbers.{OnPath}
use Rattle.demands.specs.Answers.{in_rattle, RoomAnswer}
use Rattle.answers.specs.Answers.{Listed}

-- l are the vertex ranges from u to v
abbrev pub Ranges : Six → ℕ → ℕ → List PathRange → Type 0
Ranges t u v l = ranges_of Vertices t u v ≡ listed l

-- "on all three paths between r, u and v"
pub record OnAllThree (n : ℕ) (A : ℕ → List ℕ) (r u v m : ℕ) : Type 0 where
  pub from_r_to_u : OnPath n A r u m
  pub from_r_to_v : OnPath n A r v m
  pub from_u_to_v : OnPath n A u v m

-- "in every order of the three"
pub record InEveryOrder (t : Six) (r u v m : ℕ) : Type 0 where
  pub r_u_v : lca t r u v ≡ Ok m
  pub r_v_u : lca t r v u ≡ Ok m
  pub u_r_v : lca t u r v ≡ Ok m
  pub u_v_r : lca t u v r ≡ Ok m
  pub v_r_u : lca t v r u ≡ Ok m
  pub v_u_r : lca t v u r ≡ Ok m

-- what is asked of the tables t of the tree of n vertices with the lists A
pub record Routes (n : ℕ) (A : ℕ → List ℕ) (t : Six) : Type 0 where
  -- between any two vertices there are vertex ranges: they are never refused
  pub found : {u v : ℕ} → u < n → v < n → (l : List PathRange) × Ranges t u v l
  -- "the vertex ranges from u to v, read by their directions, give exactly the numbers of the simple path in order"
  pub read : {u v : ℕ} {P : List ℕ} → Simple n (Stands A) u v P → {l : List PathRange} → Ranges t u v l → reading l ≡ map (at t.id) (u ∷ P)
  -- "Cut at any vertex w on it, that reading is the one to w followed by the one from w without its first number."
  pub cut :
      {u v w : ℕ} → OnPath n A u v w → {l l₁ l₂ : List PathRange} → Ranges t u v l → Ranges t u w l₁ → Ranges t w v l₂
      → reading l ≡ reading l₁ ++ drop 1 (reading l₂)
  -- "From v to u the reading is reversed."
  pub turned : {u v : ℕ} → u < n → v < n → {l m : List PathRange} → Ranges t u v l → Ranges t v u m → reading m ≡ reverse (reading l)
  -- "There are at most 2·floor(log2 n)+1 ranges."
  pub few : {u v : ℕ} → u < n → v < n → {l : List PathRange} → Ranges t u v l → length l ≤ 2 * log2 n + 1
  -- in a list with that room each call for ranges writes them all, `stride` numbers to a range, and answers how many they are
  pub listed_whole :
      (kind : Kind) {u v : ℕ} → u < n → v < n → {lent left : List ℕ} {r : Listed} → ListedAs (ranges_of kind t u v) lent left r
      → stride * (2 * log2 n + 1) ≤ length lent
      → (l : List PathRange) × (ranges_of kind t u v ≡ listed l) × (r ≡ Ok (length l)) × (left ≡ flat_front l lent)
  -- and so with records, one to a range
  pub recorded_whole :
      (kind : Kind) {u v : ℕ} → u < n → v < n → {lent left : List PathRange} {r : Listed} → RecordedAs (ranges_of kind t u v) lent left r
      → 2 * log2 n + 1 ≤ length lent
      → (l : List PathRange) × (ranges_of kind t u v ≡ listed l) × (r ≡ Ok (length l)) × (left ≡ front l lent)
  -- "lca(r,u,v) is the one vertex on all three paths between r, u and v, in every order of the three."
  pub lca :
      {r u v : ℕ} → r < n → u < n → v < n
      → (m : ℕ) × InEveryOrder t r u v m × OnAllThree n A r u v m × ((x : ℕ) → OnAllThree n A r u v x → x ≡ m)

-- 01: "Range room: 2·floor(log2 n)+1 is always enough, and a call returns that number for n from 1 to 32,768": for ranges of each kind, on any tables
pub record RangeRoom : Type 0 where
  -- floor(log2 n), whatever way it is computed
  pub floor_log2 : {n : ℕ} → 1 ≤ n → (2 ^ log2 n ≤ n) × (n < 2 ^ (log2 n + 1))
  pub enough : (kind : Kind) (t : Six) (u v : ℕ) (l : List PathRange) → ranges_of kind t u v ≡ listed l → length l ≤ 2 * log2 (size_of t) + 1
  pub answer : RoomAnswer in_rattle

pub record ThirdDemand : Type 0 where
  -- "For tables built from an accepted tree": after every build that answered 0
  pub built : {os ts w w' : List ℕ} {root : ℕ} {t t' : Six} → Builds os ts root t w t' w' done → Routes (vertices os) (list_of os ts) t'
  pub range_room : RangeRoom

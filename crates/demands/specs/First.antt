-- Tender, condition 1: "Every public call ends without a fault on every input, and gives the refusal that document 01 fixes, with the stated memory
-- afterwards."
-- No public call has a `requires`. Its proof then says that it ends without a fault on every input and that its contract holds; so there is nothing
-- to state of that here. The rest of the sentence is stated of the contracts. The calls that take a graph (`Validates`, `Builds`, `Decomposes`,
-- `Lists`) have what they have in common in one contract, `GraphCall`.
use Rattle.std.specs.Prelude.{ℕ, ◌+◌, ◌*◌, ◌≡◌, ◌≢◌, List, [], ◌∷◌, length, drop, Ok}
use Rattle.sums.specs.Sum.{at}
use Rattle.answers.specs.Codes.{done, bad_size}
use Rattle.graph.specs.Judgement.{test, First}
use Rattle.graph.specs.Lent.{vertices}
use Rattle.graph.specs.Validation.{Sized, Fits, room_of, Leaves, validation, Validates}
use Rattle.tables.specs.Tables.{Six, Long}
use Rattle.hld.specs.Build.{building, Builds}
use Rattle.queries.specs.Queries.{vertex_count, root_of, depth_of, vertex_id, subtree_range, kth_ancestor, subtree_size, distance as distance_of, lca as lca_of, jump as jump_of}
use Rattle.answers.specs.Answers.{answer_code, answer_values, interval_code, interval_values, listed_code, listed_values, Answer, Interval, Listed}
use Rattle.ranges.specs.Flat.{stride}
use Rattle.ranges.specs.Calls.{Answered, ranges_of, range_room, ListedAs}
use Rattle.ranges.specs.declared.kinds.Kind.{Kind}
use Rattle.ranges.specs.declared.kinds.PathRange.{PathRange}
use Rattle.records.specs.Records.{RecordedAs}
use Rattle.centroid.specs.Calls.{two, TwoLong, decomposing, Decomposes, listing, Lists}
use Rattle.centroid.specs.Reads.{read_of}
use Rattle.demands.specs.Tests.{Lengths, Queried, QueriedTwo, QueriedEnds, RangesAsked}

-- "gives the refusal that document 01 fixes": the code of the first test, in 01's order, that is not passed
pub record Refusals : Type 1 where
  pub validate_tree : {os ts w w' : List ℕ} {root c : ℕ} → Validates os ts root w w' c → First (validation os ts root (length w)) c
  pub try_hld : {os ts w w' : List ℕ} {root c : ℕ} {t t' : Six} → Builds os ts root t w t' w' c → First (building os ts root t (length w)) c
  pub decomposition :
      {os ts up level w up' level' w' : List ℕ} {c : ℕ} → Decomposes os ts up level w up' level' w' c → First (decomposing os ts up level (length w)) c
  pub component_lists :
      {os ts vs ds bs ss w vs' ds' bs' ss' w' : List ℕ} {c : ℕ} → Lists os ts vs ds bs ss w vs' ds' bs' ss' w' c
      → First (listing os ts vs ds bs ss (length w)) c
  -- the queries: the definition of each, which is its contract, with its vertices
  pub vertex_count : (t : Six) → Queried t [] (vertex_count t)
  pub root : (t : Six) → Queried t [] (root_of t)
  pub depth : (t : Six) (v : ℕ) → Queried t (v ∷ []) (depth_of t v)
  pub vertex_id : (t : Six) (v : ℕ) → Queried t (v ∷ []) (vertex_id t v)
  pub subtree_range : (t : Six) (v : ℕ) → QueriedEnds t (v ∷ []) (subtree_range t v)
  pub distance : (t : Six) (u v : ℕ) → Queried t (u ∷ v ∷ []) (distance_of t u v)
  pub lca : (t : Six) (r u v : ℕ) → Queried t (r ∷ u ∷ v ∷ []) (lca_of t r u v)
  pub kth_ancestor : (t : Six) (v k : ℕ) → Queried t (v ∷ []) (kth_ancestor t v k)
  pub jump : (t : Six) (u v k : ℕ) → Queried t (u ∷ v ∷ []) (jump_of t u v k)
  pub subtree_size : (t : Six) (r v : ℕ) → Queried t (r ∷ v ∷ []) (subtree_size t r v)
  -- the reads of a decomposition's two tables
  pub centroid_read : (table other : List ℕ) (v : ℕ) → QueriedTwo table other v (read_of table other v)
  -- the calls for ranges of each kind, into plain numbers and into records
  pub path_ranges :
      (kind : Kind) (t : Six) (u v : ℕ) {lent left : List ℕ} {r : Listed} → ListedAs (ranges_of kind t u v) lent left r
      → RangesAsked t (u ∷ v ∷ []) (ranges_of kind t u v) (λ k. stride * k) (length lent) (listed_code r)
  pub path_records :
      (kind : Kind) (t : Six) (u v : ℕ) {lent left : List PathRange} {r : Listed} → RecordedAs (ranges_of kind t u v) lent left r
      → RangesAsked t (u ∷ v ∷ []) (ranges_of kind t u v) (λ k. k) (length lent) (listed_code r)
  -- "for n from 1 to 32,768, else refusal 1"
  pub range_room : (n : ℕ) → First (test bad_size (Lengths n []) ∷ []) (answer_code (range_room n))
  -- "A refused call returns its code and no other number."
  pub no_number : (a : Answer) → answer_code a ≢ done → answer_values a ≡ []
  pub no_interval : (a : Interval) → interval_code a ≢ done → interval_values a ≡ []
  pub no_count : (a : Listed) → listed_code a ≢ done → listed_values a ≡ []

-- "It writes no table and no list."
pub record NothingWritten : Type 0 where
  pub try_hld : {os ts w w' : List ℕ} {root c : ℕ} {t t' : Six} → Builds os ts root t w t' w' c → c ≢ done → t' ≡ t
  pub decomposition :
      {os ts up level w up' level' w' : List ℕ} {c : ℕ} → Decomposes os ts up level w up' level' w' c → c ≢ done → (up' ≡ up) × (level' ≡ level)
  pub component_lists :
      {os ts vs ds bs ss w vs' ds' bs' ss' w' : List ℕ} {c : ℕ} → Lists os ts vs ds bs ss w vs' ds' bs' ss' w' c
      → c ≢ done → (vs' ≡ vs) × (ds' ≡ ds) × (bs' ≡ bs) × (ss' ≡ ss)
  pub ranges : {a : Answered} {lent left : List ℕ} {r : Listed} → ListedAs a lent left r → listed_code r ≢ done → left ≡ lent
  pub range_records : {a : Answered} {lent left : List PathRange} {r : Listed} → RecordedAs a lent left r → listed_code r ≢ done → left ≡ lent

-- "Entries of a list past its count are unchanged."
pub record PastCount : Type 0 where
  pub ranges : {a : Answered} {lent left : List ℕ} {k : ℕ} → ListedAs a lent left (Ok k) → drop (stride * k) left ≡ drop (stride * k) lent
  pub range_records : {a : Answered} {lent left : List PathRange} {k : ℕ} → RecordedAs a lent left (Ok k) → drop k left ≡ drop k lent
  -- the last of the n+1 starts is the number of entries
  pub component_lists :
      {os ts vs ds bs ss w vs' ds' bs' ss' w' : List ℕ} → Lists os ts vs ds bs ss w vs' ds' bs' ss' w' done
      → let n = vertices os in
      let k = at ss' n in
      (drop k vs' ≡ drop k vs) × (drop k ds' ≡ drop k ds) × (drop k bs' ≡ drop k bs) × (drop (n + 1) ss' ≡ drop (n + 1) ss)

-- "Once the work room was long enough, the first 8n+E entries of work are zero afterwards, on any answer; the rest of work, and all of it before that
-- test, is unchanged."
pub record WorkLeft : Type 0 where
  pub validate_tree : {os ts w w' : List ℕ} {root c : ℕ} → Validates os ts root w w' c → Leaves (Sized os ts) (room_of os ts) w w'
  pub try_hld :
      {os ts w w' : List ℕ} {root c : ℕ} {t t' : Six} → Builds os ts root t w t' w' c → Leaves (Fits os ts (Long (vertices os) t)) (room_of os ts) w w'
  pub decomposition :
      {os ts up level w up' level' w' : List ℕ} {c : ℕ} → Decomposes os ts up level w up' level' w' c
      → Leaves (Fits os ts (TwoLong (vertices os) (two up level))) (room_of os ts) w w'
  pub component_lists :
      {os ts vs ds bs ss w vs' ds' bs' ss' w' : List ℕ} {c : ℕ} → Lists os ts vs ds bs ss w vs' ds' bs' ss' w' c → Leaves (Sized os ts) (room_of os ts) w w'

-- 01, "How much a contract must tie down": "That two results allowed by it coincide is proved". The other calls (the ten queries, the two reads of a
-- decomposition, `neighbours`, `range_room`, `rule_part`) write nothing, and their contracts are equations: the answer is the definition of the call at
-- its arguments.
pub record Determined : Type 1 where
  pub validate_tree :
      {os ts w w₁ w₂ : List ℕ} {root c₁ c₂ : ℕ} → Validates os ts root w w₁ c₁ → Validates os ts root w w₂ c₂
      → (c₁ ≡ c₂) × (w₁ ≡ w₂)
  pub try_hld :
      {os ts w w₁ w₂ : List ℕ} {root c₁ c₂ : ℕ} {t t₁ t₂ : Six} → Builds os ts root t w t₁ w₁ c₁ → Builds os ts root t w t₂ w₂ c₂
      → (c₁ ≡ c₂) × (t₁ ≡ t₂) × (w₁ ≡ w₂)
  pub decomposition :
      {os ts up level w up₁ level₁ w₁ up₂ level₂ w₂ : List ℕ} {c₁ c₂ : ℕ}
      → Decomposes os ts up level w up₁ level₁ w₁ c₁ → Decomposes os ts up level w up₂ level₂ w₂ c₂
      → (c₁ ≡ c₂) × (up₁ ≡ up₂) × (level₁ ≡ level₂) × (w₁ ≡ w₂)
  pub component_lists :
      {os ts vs ds bs ss w vs₁ ds₁ bs₁ ss₁ w₁ vs₂ ds₂ bs₂ ss₂ w₂ : List ℕ} {c₁ c₂ : ℕ}
      → Lists os ts vs ds bs ss w vs₁ ds₁ bs₁ ss₁ w₁ c₁ → Lists os ts vs ds bs ss w vs₂ ds₂ bs₂ ss₂ w₂ c₂
      → (c₁ ≡ c₂) × (vs₁ ≡ vs₂) × (ds₁ ≡ ds₂) × (bs₁ ≡ bs₂) × (ss₁ ≡ ss₂) × (w₁ ≡ w₂)
  pub ranges :
      {a : Answered} {lent left₁ left₂ : List ℕ} {r₁ r₂ : Listed} → ListedAs a lent left₁ r₁ → ListedAs a lent left₂ r₂
      → (r₁ ≡ r₂) × (left₁ ≡ left₂)
  pub range_records :
      {a : Answered} {lent left₁ left₂ : List PathRange} {r₁ r₂ : Listed} → RecordedAs a lent left₁ r₁ → RecordedAs a lent left₂ r₂
      → (r₁ ≡ r₂) × (left₁ ≡ left₂)

pub record FirstDemand : Type 1 where
  pub refusals : Refusals
  pub determined : Determined
  -- "the stated memory afterwards"
  pub nothing_written : NothingWritten
  pub past_count : PastCount
  pub work_left : WorkLeft

-- Tender, condition 2: "On symmetric lists with in-range numbers, within 01's limits, the answers equal the Rust's, shown by differential runs, and are
-- proved against document 01's definitions: accepted exactly for trees, and every number, ancestor, path and centroid right."
-- The differential runs are tests/compare, and what differs by intent is in docs/DIFFERENCES.md. This is the proved part.
use Rattle.std.specs.Prelude.{ℕ, ◌+◌, ◌≤◌, ◌<◌, ◌≡◌, ◌↔◌, List, length}
use Rattle.sums.specs.Sum.{at, sum}
use Rattle.paths.specs.Tree.{Tree}
use Rattle.answers.specs.Codes.{done}
use Rattle.graph.specs.Lent.{vertices, list_of, Offsets, Targets}
use Rattle.graph.specs.Validation.{Sized, room_of, Validates}
use Rattle.tables.specs.Tables.{Six, Long}
use Rattle.hld.specs.Build.{Builds}
use Rattle.centroid.specs.Calls.{Decomposes, Fitting, Lists}
use Rattle.demands.specs.Numbers.{Entries}
use Rattle.demands.specs.Answers.{in_rattle, Answers, NoNine, Reads}
use Rattle.demands.specs.Centroids.{Centroids, ComponentLists}

-- "with in-range numbers, within 01's limits": what 01 asks of lists and root before it looks at the graph, with work of `room` entries
pub record InRange (os ts : List ℕ) (root room : ℕ) : Type 0 where
  pub sized : Sized os ts
  pub room_enough : room_of os ts ≤ room
  pub offsets : Offsets os ts
  pub targets : Targets os ts
  pub root_below : root < vertices os

-- "accepted exactly for trees": 0 is answered exactly if the lists are in range, what is lent has its length, and the graph is a tree
pub record Accepted : Type 0 where
  pub validate_tree :
      {os ts w w' : List ℕ} {root c : ℕ} → Validates os ts root w w' c
      → (c ≡ done) ↔ (InRange os ts root (length w) × Tree (vertices os) (list_of os ts))
  pub try_hld :
      {os ts w w' : List ℕ} {root c : ℕ} {t t' : Six} → Builds os ts root t w t' w' c
      → (c ≡ done) ↔ (InRange os ts root (length w) × Long (vertices os) t × Tree (vertices os) (list_of os ts))
  pub decomposition :
      {os ts up level w up' level' w' : List ℕ} {c : ℕ} → Decomposes os ts up level w up' level' w' c
      → (c ≡ done)
      ↔ (InRange os ts 0 (length w) × (length up ≡ vertices os) × (length level ≡ vertices os) × Tree (vertices os) (list_of os ts))
  pub component_lists :
      {os ts vs ds bs ss w vs' ds' bs' ss' w' : List ℕ} {c : ℕ} → Lists os ts vs ds bs ss w vs' ds' bs' ss' w' c
      → (c ≡ done)
      ↔ (InRange os ts 0 (length w) × (vertices os + 1 ≤ length ss) × Tree (vertices os) (list_of os ts) × Fitting os ts vs ds bs)
  -- the lists fit exactly if each of the three has room for the sum of level(v)+1, with the levels that the decomposition writes
  pub lists_room :
      {os ts up level w up' level' w' : List ℕ} → Decomposes os ts up level w up' level' w' done → (vs ds bs : List ℕ)
      → let total = sum (vertices os) (λ v. at level' v + 1) in
      Fitting os ts vs ds bs ↔ ((total ≤ length vs) × (total ≤ length ds) × (total ≤ length bs))

pub record SecondDemand : Type 0 where
  -- "accepted exactly for trees"
  pub accepted : Accepted
  -- "and every number"
  pub numbers :
      {os ts w w' : List ℕ} {root : ℕ} {t t' : Six} → Builds os ts root t w t' w' done → Entries (vertices os) (list_of os ts) root t'
  -- "ancestor, path"
  pub answers :
      {os ts w w' : List ℕ} {root : ℕ} {t t' : Six} → Builds os ts root t w t' w' done → Answers in_rattle (vertices os) (list_of os ts) root t'
  -- "Tables that a build wrote never give 9."
  pub no_nine : {os ts w w' : List ℕ} {root : ℕ} {t t' : Six} → Builds os ts root t w t' w' done → NoNine t'
  -- "and centroid right"
  pub centroids :
      {os ts up level w up' level' w' : List ℕ} → Decomposes os ts up level w up' level' w' done
      → Centroids (vertices os) (list_of os ts) up' level'
  pub reads :
      {os ts up level w up' level' w' : List ℕ} → Decomposes os ts up level w up' level' w' done
      → Reads in_rattle (vertices os) up' level'
  pub component_lists :
      {os ts vs ds bs ss w vs' ds' bs' ss' w' : List ℕ} → Lists os ts vs ds bs ss w vs' ds' bs' ss' w' done
      → ComponentLists (vertices os) (list_of os ts) vs' ds' bs' ss'

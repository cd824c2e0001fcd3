-- What a caller in C may rely on. The calls that take a graph are exported with the contracts that they have in Rattle, so all that is said of those
-- holds there as it stands. Of the others the code is the result, and what is answered arrives in memory that the caller lends (crates/relaypath).
use Rattle.std.specs.Prelude.{ℕ, ◌*◌, ◌≤◌, ◌≡◌, ◌≢◌, List, length}
use Rattle.answers.specs.Codes.{done, too_far}
use Rattle.graph.specs.Lent.{vertices, list_of}
use Rattle.tables.specs.Tables.{Six}
use Rattle.hld.specs.Build.{Builds}
use Rattle.ranges.specs.Flat.{stride, flat_front}
use Rattle.ranges.specs.Calls.{Answered}
use Rattle.centroid.specs.Calls.{Decomposes}
use Rattle.relaypath.specs.Handed.{Handed, HandedEnds}
use Rattle.relaypath.specs.Listing.{HandedList}
use Rattle.demands.specs.Answers.{Caller, Answers, Reads, RoomAnswer}
use Rattle.answers.specs.Answers.{Answer, Interval}

-- the code is 0 and the number stands in `*answer`; the code is 10 and `*answer` is as it was; the code is 0 and the ends stand in `*start` and `*end`;
-- where the list has room the code is 0, their number stands in `*count` and the ranges at the front of the list, the rest of which is as it was
abbrev pub in_c : Caller
in_c =
    record {
      number = λ a x. (before after code : ℕ) → Handed a before after code → (code ≡ done) × (after ≡ x);
      too_far = λ a. (before after code : ℕ) → Handed a before after code → (code ≡ too_far) × (after ≡ before);
      interval = λ i x y. (start end start' end' code : ℕ) → HandedEnds i start end start' end' code → (code ≡ done) × (start' ≡ x) × (end' ≡ y);
      ranges = λ a l.
          (lent left : List ℕ) (before after code : ℕ) → HandedList a lent left before after code → stride * length l ≤ length lent
          → (code ≡ done) × (after ≡ length l) × (left ≡ flat_front l lent);
    }

-- "A refused call returns its code and no other number.": what was lent for the answer is as it was
pub record Untouched : Type 0 where
  pub number : (a : Answer) {before after code : ℕ} → Handed a before after code → code ≢ done → after ≡ before
  pub ends :
      (i : Interval) {start end start' end' code : ℕ} → HandedEnds i start end start' end' code
      → code ≢ done → (start' ≡ start) × (end' ≡ end)
  pub list :
      (a : Answered) {lent left : List ℕ} {before after code : ℕ} → HandedList a lent left before after code
      → code ≢ done → (left ≡ lent) × (after ≡ before)

pub record DemandsInC : Type 0 where
  -- after a build that answered 0, each query and each call for ranges hands over what it means
  pub answers :
      {os ts w w' : List ℕ} {root : ℕ} {t t' : Six} → Builds os ts root t w t' w' done → Answers in_c (vertices os) (list_of os ts) root t'
  -- and after a decomposition that answered 0, each read
  pub reads :
      {os ts up level w up' level' w' : List ℕ} → Decomposes os ts up level w up' level' w' done → Reads in_c (vertices os) up' level'
  pub room : RoomAnswer in_c
  -- the codes are those of the answers, whose tests condition 1 has
  pub untouched : Untouched

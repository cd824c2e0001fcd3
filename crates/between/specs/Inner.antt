-- What the contracts of inner functions cite: no reader of a query's meaning needs it.
use Rattle.std.specs.Prelude.{◌≡◌, List, [], ◌∷◌, leb, length, Result, Ok, Err}
use Rattle.tables.specs.Tables.{Six}
use Rattle.answers.specs.Choice.{pick}
use Rattle.answers.specs.declared.answer.Refusal.{Refusal}
use Rattle.climb.specs.Asked.{size_of}
use Rattle.climb.specs.Climbing.{Climbed, ancestor_of}
use Rattle.climb.specs.Inner.{ClimbsFrom}
use Rattle.climb.specs.declared.places.Place.{Place}
use Rattle.between.specs.declared.lca.Candidate.{Candidate}

-- a jump between two places that were reached
pub record Jumps (t : Six) (p q : Place) : Type 0 where
  pub climbs : ClimbsFrom t p q
  pub order : length t.order ≡ size_of t

-- The candidates of the LCA: a climb's end with nothing but its vertex and depth.

abbrev pub candidate_of : Place → Candidate
candidate_of p = record { vertex = p.vertex; depth = p.depth }

abbrev pub climb_end : Climbed → Result Candidate Refusal
climb_end (Ok c) = Ok (candidate_of (ancestor_of c))
climb_end (Err e) = Err e

abbrev pub deeper_candidate : Candidate → Candidate → Candidate
deeper_candidate a b = pick (leb a.depth b.depth) b a

-- the last deepest of three
abbrev pub Deepest : List Candidate → Candidate → Type 0
Deepest l r = (a b c : Candidate) → l ≡ a ∷ b ∷ c ∷ [] → r ≡ deeper_candidate (deeper_candidate a b) c

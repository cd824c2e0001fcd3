-- Laws of subtrees: the tests of a size, and what the queries on sizes answer by how their tests end.
use Rattle.std.specs.Prelude.{Ok, Err}
use Prim.Native.Nat.{ℕ, ◌+◌, ◌-◌, ◌≤◌, ◌<◌}
use mathlib.Core.Path.{◌≡◌, refl, ap, ◌∙◌}
use mathlib.Core.Bool.{Bool, true, false}
use lib.Dec.{leb, ltb}
use borrow.Author.Tests.{le-leb, lt-ltb}
use Rattle.sums.specs.Sum.{at}
use Rattle.tables.specs.Tables.{Six}
use Rattle.answers.specs.Choice.{pick, both}
use Rattle.climb.specs.Sound.{stand_on, place_of, On}
use Rattle.queries.specs.Queries.{ancestor_in, without_child, re_rooted_size}
use Rattle.climb.specs.Asked.{size_of}
use Rattle.sizes.specs.Inner.{counted?, sound_size}
use Rattle.climb.specs.declared.places.Place.{Place}
use Rattle.answers.specs.declared.answer.Refusal.TheVariants.{BadTable}
use Rattle.answers.specs.Answers.{Answer}
use Rattle.climb.proofs.Soundness.{stood_place}

-- what is told by a size that passed
pub size_told : (t : Six) (y i : ℕ) {count : ℕ} → Ok count ≡ sound_size t y i → (counted? (size_of t) i (at t.size y) ≡ true) × (count ≡ at t.size y)
size_told t y i e = told (counted? (size_of t) i (at t.size y)) (at t.size y) e
  where
    told : (b : Bool) (m : ℕ) {count : ℕ} → Ok count ≡ pick b (Ok m) (Err BadTable) → (b ≡ true) × (count ≡ m)
    told true m e = (refl, cc)
    told false m e = cc

-- an answer of the lookup that is no vertex is handed on
pub left_refused : (n : ℕ) (t : Six) (a : Answer) → ((x : ℕ) → a ≡ Ok x → ⊥) → a ≡ without_child n t a
left_refused n t (Ok x) f = absurd (f x refl)
left_refused n t (Err r) f = refl

-- The re-rooted size, by the places a of the root and b of the vertex.

abbrev size_by : ℕ → Six → Place → Place → Answer
size_by n t a b =
    pick (counted? n b.id (at t.size b.vertex))
    (pick (both (leb b.id a.id) (ltb a.id (b.id + at t.size b.vertex)))
    (pick (ltb b.depth a.depth) (without_child n t (ancestor_in n t a.vertex (a.depth - b.depth - 1))) (Err BadTable))
    (Ok (at t.size b.vertex)))
    (Err BadTable)

module _ (n : ℕ) (t : Six) {a b : Place} (on_a : stand_on n t a.vertex ≡ On a) (on_b : stand_on n t b.vertex ≡ On b) where
  size_by_lem : size_by n t a b ≡ re_rooted_size n t a.vertex b.vertex
  size_by_lem =
      ap (λ (q : Place). size_by n t q b) (stood_place n t a.vertex on_a)
      ∙ ap (size_by n t (place_of t a.vertex)) (stood_place n t b.vertex on_b)

  pub size_inside : counted? n b.id (at t.size b.vertex) ≡ true → b.id ≤ a.id → a.id < b.id + at t.size b.vertex → b.depth < a.depth
      → without_child n t (ancestor_in n t a.vertex (a.depth - b.depth - 1)) ≡ re_rooted_size n t a.vertex b.vertex
  size_inside counted low high h =
      rw (counted, le-leb b.id a.id low, lt-ltb a.id (b.id + at t.size b.vertex) high, lt-ltb b.depth a.depth h) at size_by_lem

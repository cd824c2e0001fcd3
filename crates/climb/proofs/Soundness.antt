-- Laws of soundness: it is to be seated under a head that hangs; what it tells of the place where a query stands.
use Prim.Native.Nat.{ℕ, ◌+◌, ◌-◌, ◌≤◌, ◌<◌}
use native.Mathlib.Omega.{arith}
use mathlib.Core.Path.{◌≡◌, refl, sym, ap, ◌∙◌, subst}
use mathlib.Core.Bool.{Bool, true, false}
use lib.Dec.{eqb, leb, ltb}
use borrow.Author.Tests.{ltb-true, leb-true, eqb-true, ne_eqb}
use Rattle.sums.specs.Sum.{at}
use Rattle.answers.specs.Limits.{no_parent}
use Rattle.tables.specs.Tables.{Six}
use Rattle.answers.specs.Choice.{pick, both}
use Rattle.climb.specs.Sound.{depth_in, head_in, id_in, sound?, On, Unsound, stand_on, place_of}
use Rattle.climb.specs.Inner.{hangs_from?, hangs?, seated?, Placed}
use Rattle.climb.specs.declared.places.Place.{Place}
use Rattle.answers.proofs.Choices.{pick-both, both_last, both_true}

-- to be sound is to be seated under a head that hangs
pub sound_split : (n : ℕ) (t : Six) (x : ℕ) → sound? n t x ≡ both (seated? n t x) (hangs? n t (place_of t x))
unfolding sound?
sound_split n t x =
    both_last (ltb (head_in t x) n) (leb (depth_in t (head_in t x)) (depth_in t x)) (ltb (depth_in t x) n) (leb (id_in t (head_in t x)) (id_in t x)) (ltb (id_in t x) n)
    (eqb (id_in t x - id_in t (head_in t x)) (depth_in t x - depth_in t (head_in t x))) (hangs? n t (place_of t x))

-- so a query stands there by the one test and then the other
pub stand_split : (n : ℕ) (t : Six) (x : ℕ) → stand_on n t x ≡ pick (seated? n t x) (pick (hangs? n t (place_of t x)) (On (place_of t x)) Unsound) Unsound
stand_split n t x =
    ap (λ (b : Bool). pick b (On (place_of t x)) Unsound) (sound_split n t x)
    ∙ sym (pick-both (seated? n t x) (hangs? n t (place_of t x)) (On (place_of t x)) Unsound)

-- what it tells of a place that its vertex is seated
pub record Seated (n : ℕ) (p : Place) : Type 0 where
  pub head_below : p.head < n
  pub top_low : p.top ≤ p.depth
  pub first_low : p.first ≤ p.id
  pub level : p.id - p.first ≡ p.depth - p.top
  pub depth_below : p.depth < n
  pub id_below : p.id < n

pub seated_place : (n : ℕ) (t : Six) (x : ℕ) → seated? n t x ≡ true → Seated n (place_of t x)
seated_place n t x e =
    let h = both_true (ltb (head_in t x) n) _ e in
    let a = both_true (leb (depth_in t (head_in t x)) (depth_in t x)) _ h.1 in
    let b = both_true (ltb (depth_in t x) n) _ a.1 in
    let c = both_true (leb (id_in t (head_in t x)) (id_in t x)) _ b.1 in
    let d = both_true (ltb (id_in t x) n) _ c.1 in
    record {
      head_below = ltb-true _ _ h.0;
      top_low = leb-true _ _ a.0;
      first_low = leb-true _ _ c.0;
      level = eqb-true _ _ d.1;
      depth_below = ltb-true _ _ b.0;
      id_below = ltb-true _ _ d.0;
    }

-- a head that hangs from a parent
pub hangs-from : (n : ℕ) (t : Six) (up top first : ℕ) → hangs_from? n t up top first ≡ true → (up < n) × ((depth_in t up + 1 ≡ top) × (id_in t up < first))
hangs-from n t up top first e =
    let b = both_true (ltb up n) _ e in
    let c = both_true (eqb (depth_in t up + 1) top) _ b.1 in
    (ltb-true up n b.0, (eqb-true (depth_in t up + 1) top c.0, ltb-true (id_in t up) first c.1))

-- where a head has a parent, hanging is to hang from it
pub hangs_up : (n : ℕ) (t : Six) (p : Place) → (p.up ≡ no_parent → ⊥) → hangs? n t p ≡ hangs_from? n t p.up p.top p.first
hangs_up n t p ne = rw (ne_eqb p.up no_parent ne)

-- what soundness tells of the place of x
sound_placed : (n : ℕ) (t : Six) (x : ℕ) → sound? n t x ≡ true → Placed n t.depth (place_of t x)
sound_placed n t x e =
    let s = seated_place n t x parts.0 in
    record {
      top_low = s.top_low;
      first_low = s.first_low;
      level = s.level;
      depth_below = s.depth_below;
      id_below = s.id_below;
      up_below = λ ne. (up ne).0;
      up_depth = λ ne. (up ne).1.0;
    }
  where
    parts : (seated? n t x ≡ true) × (hangs? n t (place_of t x) ≡ true)
    parts = both_true (seated? n t x) _ (sym (sound_split n t x) ∙ e)

    up : ((place_of t x).up ≡ no_parent → ⊥) → ((place_of t x).up < n) × ((at t.depth (place_of t x).up + 1 ≡ (place_of t x).top) × (at t.id (place_of t x).up < (place_of t x).first))
    up ne = hangs-from n t (place_of t x).up (place_of t x).top (place_of t x).first (sym (hangs_up n t (place_of t x) ne) ∙ parts.1)

-- where a query stands on p, p is the place of a sound vertex
fell_on : (b : Bool) (q : Place) {p : Place} → pick b (On q) Unsound ≡ On p → (b ≡ true) × (q ≡ p)
fell_on true q e = (refl, cc)
fell_on false q e = let z : ◌≡◌ {A = ℕ} 0 1 = cc in absurd (omega arith)

-- where a query stands on x, it has read the place of x
pub stood_place : (n : ℕ) (t : Six) (x : ℕ) {p : Place} → stand_on n t x ≡ On p → p ≡ place_of t x
stood_place n t x e = sym (fell_on (sound? n t x) (place_of t x) e).1

pub stood_placed : (n : ℕ) (t : Six) (x : ℕ) {p : Place} → stand_on n t x ≡ On p → Placed n t.depth p
stood_placed n t x e =
    let s = fell_on (sound? n t x) (place_of t x) e in
    subst (Placed n t.depth) s.1 (sound_placed n t x s.0)

-- standing tells whether a vertex is sound
pub stood_sound : (n : ℕ) (t : Six) (x : ℕ) {p : Place} → stand_on n t x ≡ On p → sound? n t x ≡ true
stood_sound n t x e = (fell_on (sound? n t x) (place_of t x) e).0

fallen : (b : Bool) (q : Place) → pick b (On q) Unsound ≡ Unsound → b ≡ false
fallen true q e = let z : ◌≡◌ {A = ℕ} 0 1 = cc in absurd (omega arith)
fallen false q e = refl

pub unstood : (n : ℕ) (t : Six) (x : ℕ) → stand_on n t x ≡ Unsound → sound? n t x ≡ false
unstood n t x e = fallen (sound? n t x) (place_of t x) e

-- a place names the vertex that was stood on, and has its depth
pub stood_vertex : (n : ℕ) (t : Six) (x : ℕ) {p : Place} → stand_on n t x ≡ On p → p.vertex ≡ x
stood_vertex n t x e = ap (λ (q : Place). q.vertex) (stood_place n t x e)

pub stood_depth : (n : ℕ) (t : Six) (x : ℕ) {p : Place} → stand_on n t x ≡ On p → p.depth ≡ depth_in t x
stood_depth n t x e = ap (λ (q : Place). q.depth) (stood_place n t x e)

-- so that standing on it again finds the same place
pub stood_again : (n : ℕ) (t : Six) (x : ℕ) {p : Place} → stand_on n t x ≡ On p → On p ≡ stand_on n t p.vertex
stood_again n t x {p} e = sym (subst (λ (y : ℕ). stand_on n t y ≡ On p) (sym (stood_vertex n t x e)) e)

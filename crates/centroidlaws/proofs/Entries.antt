-- The breadth first list of a component holds each of its vertices once, and nothing else.
use Prim.Native.Nat.{ℕ, zero, suc, ◌<◌}
use native.Mathlib.Omega.{arith}
use native.Mathlib.Decide.{dec_lt}
use mathlib.Core.Path.{◌≡◌, refl, sym, ap, subst, ◌∙◌}
use mathlib.Core.Logic.{◌⊎◌, inl, inr, ⊎_elim, ◌≢◌, ◌↔◌, by_cases}
use mathlib.Core.Bool.{Bool, true, false, true≢false}
use mathlib.Core.List.{List, [], ◌∷◌}
use lib.Dec.{eqb}
use lib.ListN.{length}
use borrow.Author.Tests.{eq-eqb}
use Rattle.sums.specs.Sum.{tally, count, how_many}
use Rattle.sums.proofs.Sums.{equal_or_not, tally_same, tally_other, tally_small, sum_ext}
use Rattle.sums.proofs.Counts.{count-append}
use Rattle.paths.specs.Walk.{In, NoDup, Below}
use Rattle.paths.specs.Route.{ptail, On}
use Rattle.paths.proofs.Listed.{in-below}
use Rattle.paths.proofs.Canon.{ptail_same}
use Rattle.paths.proofs.Steps.{ptail_none}
use Rattle.paths.proofs.Turn.{on_turn}
use Rattle.paths.proofs.Counted.{in_count, count_in, count_absent, nodup-count, count_nodup, count-above, count-length}
use Rattle.paths.proofs.Kept.{keep_in, keep_once}
use Rattle.centroid.specs.Components.{component_of}
use Rattle.centroid.specs.Lists.{onward, onwards, Breadth}
use Rattle.answers.specs.Choice.{both}
use Rattle.answers.proofs.Choices.{both_passed}
use Rattle.centroidlaws.proofs.Clear.{component_clear, clear-part}
use Rattle.centroidlaws.proofs.Parents.{Decomposed}
use Rattle.centroidlaws.proofs.Before.{Listed, Before, before, before_nearer, before-one, linked_in}
use Rattle.centroidlaws.proofs.Layers.{onward_in, onwards_in}

-- a component around c: with a vertex it holds the path to it
pub record Around (n : ℕ) (par dep : ℕ → ℕ) (C : ℕ → Bool) (c : ℕ) : Type 0 where
  pub centre_below : c < n
  pub centre : C c ≡ true
  pub inward : (x : ℕ) → x < n → C x ≡ true → (y : ℕ) → On par dep y c x → C y ≡ true

-- the list q holds each vertex that passes the test C once, and nothing else
pub record Holds (n : ℕ) (C : ℕ → Bool) (q : List ℕ) : Type 0 where
  pub exactly : (x : ℕ) → In x q ↔ ((x < n) × (C x ≡ true))
  pub once : NoDup q
  pub size : length q ≡ how_many n C

-- a list of vertices is below n
pub below_all : (n : ℕ) (l : List ℕ) → ((x : ℕ) → In x l → x < n) → Below n l
below_all n [] h = tt
below_all n (x ∷ l) h = (h x (inl refl), below_all n l (λ y i. h y (inr i)))

-- a centroid's component is one around it
pub component_around : {n : ℕ} {A : ℕ → List ℕ} {par dep up level : ℕ → ℕ} → Decomposed n A par dep up level
    → {c : ℕ} → c < n → Around n par dep (component_of (ptail par dep) level c) c
component_around {par = par} {dep = dep} {level = level} D {c} hc = record {
  centre_below = hc;
  centre = (D.centroids c hc).centroid.inside;
  inward = λ x hx e y i.
      let cl = (component_clear par dep level (level c) c x).0 e in
      (component_clear par dep level (level c) c y).1 (clear-part D.spans.rooted level (level c) hc hx cl y i);
}

module _ {n : ℕ} {A : ℕ → List ℕ} {par dep : ℕ → ℕ} (T : Listed n A par dep) {C : ℕ → Bool} {c : ℕ} (K : Around n par dep C c) where
  -- the vertex before x leads on to x once
  lead_once : {x w : ℕ} → x < n → C x ≡ true → Before n par dep c x w → count x (onward A (ptail par dep) C c w) ≡ 1
  lead_once {x} {w} hx e b =
      let t : ℕ → Bool = λ y. both (C y) (eqb (length (ptail par dep c y)) (suc (length (ptail par dep c w)))) in
      let near = before_nearer T K.centre_below hx b in
      let pass = both_passed (C x) (eqb (length (ptail par dep c x)) (suc (length (ptail par dep c w)))) e
      (eq-eqb (length (ptail par dep c x)) (suc (length (ptail par dep c w))) near) in
      let i = in_count x (onward A (ptail par dep) C c w) ((keep_in t (A w) x).1 (linked_in T hx b.below b.linked, pass)) in
      let o = nodup-count x (onward A (ptail par dep) C c w) (keep_once t (A w) (T.once w b.below)) in
      omega arith

  -- no other vertex leads on to x
  lead_none : {x w y : ℕ} → x < n → Before n par dep c x w → y < n → y ≢ w → count x (onward A (ptail par dep) C c y) ≡ 0
  lead_none {x} {w} {y} hx b hy ne = count_absent x (onward A (ptail par dep) C c y) (λ i.
      let r = onward_in A (ptail par dep) C c y x i in
      ne (before-one T K.centre_below hx b hy (⊎_elim inr inl (T.spans.only y x hy hx r.0)) r.2))

  -- a list leads on to x as often as the vertex before x stands in it
  pub lead-count : {x w : ℕ} → x < n → C x ≡ true → Before n par dep c x w → (q : List ℕ) → Below n q
      → count x (onwards A (ptail par dep) C c q) ≡ count w q
  lead-count hx e b [] h = refl
  lead-count {x} {w} hx e b (y ∷ q) h =
      let ih = lead-count hx e b q h.1 in
      let a = count-append x (onward A (ptail par dep) C c y) (onwards A (ptail par dep) C c q) in
      equal_or_not y w
      (λ s. let o = ap (λ (z : ℕ). count x (onward A (ptail par dep) C c z)) s ∙ lead_once hx e b in let t = tally_same y w s in omega arith)
      (λ d. let o = lead_none hx b h.0 d in let t = tally_other y w d in omega arith)

-- A list of which each entry is c, or another entry leads on to it.
module _
    {n : ℕ} {A : ℕ → List ℕ} {par dep : ℕ → ℕ} (T : Listed n A par dep) {C : ℕ → Bool} {c : ℕ} (K : Around n par dep C c)
    (q : List ℕ) (led : (x : ℕ) → In x q → (x ≡ c) ⊎ ((y : ℕ) × In y q × In x (onward A (ptail par dep) C c y)))
  where
    -- an entry is a vertex if those nearer are
    led_next : (x : ℕ) → ((y : ℕ) → length (ptail par dep c x) ≡ suc (length (ptail par dep c y)) → In y q → y < n) → In x q → x < n
    led_next x nearer i =
        ⊎_elim (λ s. subst (λ (z : ℕ). z < n) (sym s) K.centre_below)
        (λ r. let f = onward_in A (ptail par dep) C c r.0 x r.2 in
        in-below n x (A r.0) (T.below r.0 (nearer r.0 f.2 r.1)) f.0) (led x i)

    -- an entry at distance m is a vertex
    led_at : (m x : ℕ) → length (ptail par dep c x) ≡ m → In x q → x < n
    led_at zero x e i = led_next x (λ y d j. absurd (omega arith)) i
    led_at (suc m) x e i = led_next x (λ y d j. led_at m y (omega arith) j) i

    -- the entries are vertices
    pub led-below : Below n q
    led-below = below_all n q (λ x i. led_at (length (ptail par dep c x)) x refl i)

    -- of the component
    pub led_inside : (x : ℕ) → In x q → C x ≡ true
    led_inside x i = ⊎_elim (λ s. ap C s ∙ K.centre) (λ r. (onward_in A (ptail par dep) C c r.0 x r.2).1) (led x i)

module _
    {n : ℕ} {A : ℕ → List ℕ} {par dep : ℕ → ℕ} (T : Listed n A par dep) {C : ℕ → Bool} {c : ℕ} (K : Around n par dep C c)
    {q : List ℕ} (B : Breadth A (ptail par dep) C c q)
  where
    -- an entry is c, or another entry leads on to it
    entry-from : (x : ℕ) → In x q → (x ≡ c) ⊎ ((y : ℕ) × In y q × In x (onward A (ptail par dep) C c y))
    entry-from x i = ⊎_elim inl (λ j. inr (onwards_in A (ptail par dep) C c q x j)) (subst (In x) B i)

    -- the entries are vertices
    pub entries_below : Below n q
    entries_below = led-below T K q entry-from

    -- an entry is in the component
    entry_inside : (x : ℕ) → In x q → C x ≡ true
    entry_inside = led_inside T K q entry-from

    -- c stands in it once, since nothing leads on to c
    centre_once : count c q ≡ 1
    centre_once =
        let none = count_absent c (onwards A (ptail par dep) C c q) (λ i.
        let r = onwards_in A (ptail par dep) C c q c i in
        let far = (onward_in A (ptail par dep) C c r.0 c r.2).2 in
        let z = ap length (ptail_same par dep c) in
        omega arith) in
        let e = ap (count c) B in
        let s = tally_same c c refl in
        omega arith

    -- another vertex stands in it as often as the one before it
    other-count : {x w : ℕ} → x < n → x ≢ c → C x ≡ true → Before n par dep c x w → count x q ≡ count w q
    other-count {x} {w} hx ne e b =
        let l = ap (count x) B in
        let t = tally_other c x (λ s. ne (sym s)) in
        let f = lead-count T K hx e b q entries_below in
        omega arith

    -- a vertex of the component at distance m stands in it once
    inside_once : (m : ℕ) {x : ℕ} → x < n → length (ptail par dep c x) ≡ m → C x ≡ true → count x q ≡ 1
    inside_once zero {x} hx d e =
        let s = ptail_none T.spans.rooted K.centre_below hx d in
        subst (λ (z : ℕ). count z q ≡ 1) s centre_once
    inside_once (suc m) {x} hx d e =
        let hc = K.centre_below in
        let R = T.spans.rooted in
        let ne : x ≢ c = λ s. (let z = ap (λ (y : ℕ). length (ptail par dep c y)) s in let y = ap length (ptail_same par dep c) in omega arith) in
        let r = before T hc hx ne in
        let b = r.1 in
        let near = before_nearer T hc hx b in
        let on : On par dep r.0 c x = on_turn R r.0 hx hc (inr (rw b.path (inl refl))) in
        other-count hx ne e b ∙ inside_once m b.below (omega arith) (K.inward x hx e r.0 on)

    -- each vertex stands in it as often as it is in the component, once or not at all
    pub entry-count : (x : ℕ) → x < n → count x q ≡ tally (C x)
    entry-count x hx = go (C x) refl
      where
        go : (t : Bool) → C x ≡ t → count x q ≡ tally t
        go true e = inside_once (length (ptail par dep c x)) hx refl e
        go false e = count_absent x q (λ i. true≢false (sym (entry_inside x i) ∙ e))

    -- it holds the vertices of the component once each
    pub breadth-holds : Holds n C q
    breadth-holds = record {
      exactly = λ x. (
        λ i. (in-below n x q entries_below i, entry_inside x i),
        λ h. count_in x q (let z = inside_once (length (ptail par dep c x)) h.0 refl h.1 in omega arith),
      );
      once = count_nodup q (λ x. by_cases (dec_lt x n)
          (λ h. let z = entry-count x h in let t = tally_small (C x) in omega arith)
          (λ h. let z = count-above n x q entries_below (omega arith) in omega arith));
      size = sym (count-length n q entries_below) ∙ sum_ext n (λ x. count x q) (λ x. tally (C x)) entry-count;
    }

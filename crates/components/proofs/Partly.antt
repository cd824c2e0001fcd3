-- A breadth first list under way: what the first m entries lead on to stands in it.
use Prim.Native.Nat.{ℕ, zero, suc, ◌+◌, ◌≤◌, ◌<◌}
use native.Mathlib.Omega.{arith}
use mathlib.Core.Path.{◌≡◌, refl, sym, ap, subst, ◌∙◌}
use mathlib.Core.Logic.{◌⊎◌, inl, inr, ⊎_elim, ◌≢◌}
use mathlib.Core.Bool.{Bool, true, false, true≢false}
use mathlib.Core.List.{List, [], ◌∷◌, ◌++◌, append-nil}
use lib.ListN.{length, take, drop, take-append-drop}
use lib.Seq.{take_all, take-suc, take-append-le}
use Rattle.sums.specs.Sum.{at, tally, count, how_many}
use Rattle.sums.proofs.Sums.{tally_same, tally_other, sum_mono}
use Rattle.sums.proofs.Counts.{count-append}
use Rattle.paths.specs.Walk.{In, Below}
use Rattle.paths.specs.Route.{ptail, On}
use Rattle.paths.proofs.Listed.{in-below}
use Rattle.paths.proofs.Canon.{ptail_same}
use Rattle.paths.proofs.Steps.{ptail_none}
use Rattle.paths.proofs.Turn.{on_turn}
use Rattle.paths.proofs.Counted.{count_absent, count-length}
use Rattle.centroid.specs.Lists.{onward, onwards, Breadth}
use Rattle.centroidlaws.proofs.Before.{Listed, Before, before, before_nearer}
use Rattle.centroidlaws.proofs.Layers.{onward_in, onwards_in, onwards-append}
use Rattle.centroidlaws.proofs.Entries.{Around, below_all, lead-count, led-below, led_inside}
use Rattle.components.proofs.Places.{in-front}

-- q is c and what the first m entries of q lead on to
abbrev pub Partly : (A : ℕ → List ℕ) (way : ℕ → ℕ → List ℕ) (C : ℕ → Bool) (c m : ℕ) → List ℕ → Type 0
Partly A way C c m q = q ≡ c ∷ onwards A way C c (take m q)

module _ (A : ℕ → List ℕ) (way : ℕ → ℕ → List ℕ) (C : ℕ → Bool) (c : ℕ) where
  -- with what the next entry leads on to
  pub partly_more : (m : ℕ) (q : List ℕ) → m < length q → Partly A way C c m q → Partly A way C c (m + 1) (q ++ onward A way C c (at q m))
  partly_more m q h e =
      let new : List ℕ = onward A way C c (at q m) in
      let front : take (m + 1) (q ++ new) ≡ take m q ++ (at q m ∷ []) =
      take-append-le (m + 1) q new (omega arith) ∙ ap (λ (k : ℕ). take k q) (let z : m + 1 ≡ suc m = omega arith in z) ∙ take-suc q m 0 h in
      let led : onwards A way C c (take (m + 1) (q ++ new)) ≡ onwards A way C c (take m q) ++ new =
      ap (onwards A way C c) front
      ∙ onwards-append A way C c (take m q) (at q m ∷ [])
      ∙ ap (λ (l : List ℕ). onwards A way C c (take m q) ++ l) (append-nil new) in
      ap (λ (l : List ℕ). l ++ new) e ∙ ap (λ (l : List ℕ). c ∷ l) (sym led)

  -- once all entries were looked at, it is breadth first
  pub partly-all : (m : ℕ) (q : List ℕ) → length q ≤ m → Partly A way C c m q → Breadth A way C c q
  partly-all m q h e = e ∙ ap (λ (l : List ℕ). c ∷ onwards A way C c l) (take_all m q h)

module _
    {n : ℕ} {A : ℕ → List ℕ} {par dep : ℕ → ℕ} (T : Listed n A par dep) {C : ℕ → Bool} {c : ℕ} (K : Around n par dep C c)
    (m : ℕ) (q : List ℕ) (B : Partly A (ptail par dep) C c m q)
  where
    -- an entry is c, or another entry leads on to it
    entry-from : (x : ℕ) → In x q → (x ≡ c) ⊎ ((y : ℕ) × In y q × In x (onward A (ptail par dep) C c y))
    entry-from x i =
        ⊎_elim inl (λ j. let r = onwards_in A (ptail par dep) C c (take m q) x j in inr (r.0, in-front r.0 m q r.1, r.2)) (subst (In x) B i)

    -- the entries are vertices
    pub partly-below : Below n q
    partly-below = led-below T K q entry-from

    -- of the component
    pub partly_inside : (x : ℕ) → In x q → C x ≡ true
    partly_inside = led_inside T K q entry-from

    -- so are the first m entries
    front_below : Below n (take m q)
    front_below = below_all n (take m q) (λ x i. in-below n x q partly-below (in-front x m q i))

    -- c stands in it once
    centre_once : count c q ≡ 1
    centre_once =
        let none = count_absent c (onwards A (ptail par dep) C c (take m q)) (λ i.
        let r = onwards_in A (ptail par dep) C c (take m q) c i in
        let far = (onward_in A (ptail par dep) C c r.0 c r.2).2 in
        let z = ap length (ptail_same par dep c) in
        omega arith) in
        let e = ap (count c) B in
        let s = tally_same c c refl in
        omega arith

    -- another vertex at most as often as the one before it
    other-count : {x w : ℕ} → x < n → x ≢ c → C x ≡ true → Before n par dep c x w → count x q ≤ count w q
    other-count {x} {w} hx ne e b =
        let l = ap (count x) B in
        let t = tally_other c x (λ s. ne (sym s)) in
        let f = lead-count T K hx e b (take m q) front_below in
        let a = count-append w (take m q) (drop m q) in
        let z = ap (count w) (take-append-drop m q) in
        omega arith

    -- a vertex of the component at distance d stands in it at most once
    inside_once : (d : ℕ) {x : ℕ} → x < n → length (ptail par dep c x) ≡ d → C x ≡ true → count x q ≤ 1
    inside_once zero {x} hx f e =
        let s = ptail_none T.spans.rooted K.centre_below hx f in
        let o = subst (λ (z : ℕ). count z q ≡ 1) s centre_once in
        omega arith
    inside_once (suc d) {x} hx f e =
        let hc = K.centre_below in
        let R = T.spans.rooted in
        let ne : x ≢ c = λ s. (let z = ap (λ (y : ℕ). length (ptail par dep c y)) s in let y = ap length (ptail_same par dep c) in omega arith) in
        let r = before T hc hx ne in
        let b = r.1 in
        let near = before_nearer T hc hx b in
        let on : On par dep r.0 c x = on_turn R r.0 hx hc (inr (rw b.path (inl refl))) in
        let o = other-count hx ne e b in
        let ih = inside_once d b.below (omega arith) (K.inward x hx e r.0 on) in
        omega arith

    -- it has no more entries than the component has vertices
    pub partly_few : length q ≤ how_many n C
    partly_few =
        let a = count-length n q partly-below in
        let s = sum_mono n (λ x. count x q) (λ x. tally (C x)) (λ x hx. few x hx (C x) refl) in
        omega arith
      where
        -- once or not at all, as the test says
        few : (x : ℕ) → x < n → (t : Bool) → C x ≡ t → count x q ≤ tally t
        few x hx true e = inside_once (length (ptail par dep c x)) hx refl e
        few x hx false e = (let z = count_absent x q (λ i. true≢false (sym (partly_inside x i) ∙ e)) in omega arith)

-- How the visit of a component goes on: at its start, past a removed neighbour, past the vertex it was met from, past a new one, and to the next
-- position. In a tree no vertex is met twice.
use Prim.Native.Nat.{ℕ, ◌+◌, ◌≤◌, ◌<◌}
use native.Mathlib.Omega.{arith}
use mathlib.Core.Path.{◌≡◌, sym, ap, ◌∙◌, subst}
use mathlib.Core.Logic.{◌≢◌, inl, inr, ⊎_elim}
use mathlib.Core.Bool.{Bool, true, false}
use mathlib.Core.List.{List, ◌∷◌}
use lib.ListN.{length}
use Rattle.sums.specs.Sum.{at}
use Rattle.sums.proofs.Sums.{equal_or_not, up_to}
use Rattle.sums.proofs.Pigeon.{Injective, injective_le}
use Rattle.paths.specs.Walk.{NoDup, Stands}
use Rattle.paths.specs.Rooted.{Spans}
use Rattle.paths.specs.Route.{ptail, On}
use Rattle.paths.proofs.Listed.{at_in, nodup_at}
use Rattle.paths.proofs.Canon.{ptail_same}
use Rattle.paths.proofs.Steps.{on_same}
use Rattle.visit.proofs.Growing.{upd, upd_here, upd_there}
use Rattle.centroid.specs.Search.{Spread}
use Rattle.centroid.proofs.Tests.{passed_not_failed}
use Rattle.centroid.proofs.Between.{Linked, linked_ne, linked_next, between-both}

-- what holds of each f j below t, and of x, holds of f with x at t
upd-all : (P : ℕ → Type 0) (f : ℕ → ℕ) (t x : ℕ) → ((j : ℕ) → j < t → P (f j)) → P x → (j : ℕ) → j < t + 1 → P (upd f t x j)
upd-all P f t x below here j h =
    up_to j t h (λ lt. subst P (sym (upd_there f t x j (omega arith))) (below j lt)) (λ e. subst P (sym (ap (upd f t x) e ∙ upd_here f t x)) here)

upd_old : (f : ℕ → ℕ) (t x j : ℕ) → j < t → upd f t x j ≡ f j
upd_old f t x j h = upd_there f t x j (omega arith)

upd_once : (f : ℕ → ℕ) (t x : ℕ) → Injective t f → ((j : ℕ) → j < t → f j ≢ x) → Injective (t + 1) (upd f t x)
upd_once f t x inj fresh j l hj hl e =
    up_to j t hj
    (λ j<. up_to l t hl
    (λ l<. inj j l j< l< (sym (upd_old f t x j j<) ∙ e ∙ upd_old f t x l l<))
    (λ l=. absurd (fresh j j< (sym (upd_old f t x j j<) ∙ e ∙ ap (upd f t x) l= ∙ upd_here f t x))))
    (λ j=. up_to l t hl
    (λ l<. absurd (fresh l l< (sym (upd_old f t x l l<) ∙ sym e ∙ ap (upd f t x) j= ∙ upd_here f t x)))
    (λ l=. j= ∙ sym l=))

-- s itself, met first
pub spread_start : {n : ℕ} (A : ℕ → List ℕ) (way : ℕ → ℕ → List ℕ) (g : ℕ → Bool) {s : ℕ} (q p : ℕ → ℕ) → s < n → g s ≡ true → q 0 ≡ s → p 0 ≡ 0 → Spread n A way g s q p 0 0 1
spread_start {n} A way g {s} q p hs gs q0 p0 =
    record {
      some = omega arith;
      within = omega arith;
      start = q0;
      start_from = p0;
      below = λ j h. (let z = ap q (let e : j ≡ 0 = omega arith in e) ∙ q0 in omega arith);
      passing = λ j h. ap g (ap q (let e : j ≡ 0 = omega arith in e) ∙ q0) ∙ gs;
      once = λ j l hj hl e. omega arith;
      earlier = λ j a b. absurd (omega arith);
      so_far = λ j a b. absurd (omega arith);
      step = λ j a b. absurd (omega arith);
      looked = λ j a b e. absurd (omega arith);
      closed = λ j c h. absurd (omega arith);
      closing = λ c h. absurd (omega arith);
    }

module _ {n : ℕ} {A : ℕ → List ℕ} {way : ℕ → ℕ → List ℕ} {g : ℕ → Bool} {s : ℕ} {q p : ℕ → ℕ} {i k t : ℕ} (M : Spread n A way g s q p i k t) where
  -- no more are met than there are
  pub spread_few : t ≤ n
  spread_few = injective_le t n q M.once M.below

  -- where the vertex at i was met from
  pub back_inside : i < t → p i < t
  back_inside hi = equal_or_not i 0 (λ e. (let z = ap p e ∙ M.start_from in omega arith)) (λ ne. (let z = M.earlier i (omega arith) hi in omega arith))

  -- an entry that needs no entering
  spread_past : (g (at (A (q i)) k) ≡ true → (l : ℕ) × (l < t) × (q l ≡ at (A (q i)) k)) → Spread n A way g s q p i (k + 1) t
  spread_past found =
      record {
        some = M.some;
        within = M.within;
        start = M.start;
        start_from = M.start_from;
        below = M.below;
        passing = M.passing;
        once = M.once;
        earlier = M.earlier;
        so_far = M.so_far;
        step = M.step;
        looked = λ j a b e. (let r = M.looked j a b e in (r.0, omega arith, r.2));
        closed = M.closed;
        closing = λ c h. up_to c k h (M.closing c)
            (λ e. subst (λ (y : ℕ). g (at (A (q i)) y) ≡ true → (l : ℕ) × (l < t) × (q l ≡ at (A (q i)) y)) (sym e) found);
      }

  -- an entry that is removed
  pub spread_gone : g (at (A (q i)) k) ≡ false → Spread n A way g s q p i (k + 1) t
  spread_gone e = spread_past (λ f. absurd (passed_not_failed f e))

  -- an entry from which the vertex itself was met
  pub spread_back : i < t → at (A (q i)) k ≡ q (p i) → Spread n A way g s q p i (k + 1) t
  spread_back hi e = spread_past (λ f. (p i, back_inside hi, sym e))

  -- the next position
  pub spread_next : i < t → k ≡ length (A (q i)) → Spread n A way g s q p (i + 1) 0 t
  spread_next hi hk =
      record {
        some = M.some;
        within = omega arith;
        start = M.start;
        start_from = M.start_from;
        below = M.below;
        passing = M.passing;
        once = M.once;
        earlier = M.earlier;
        so_far = λ j a b. (let h = M.so_far j a b in omega arith);
        step = M.step;
        looked = λ j a b e. absurd (let h = M.so_far j a b in omega arith);
        closed = λ j c h. up_to j i h (M.closed j c)
            (λ e. subst (λ (y : ℕ). c < length (A (q y)) → g (at (A (q y)) c) ≡ true → (l : ℕ) × (l < t) × (q l ≡ at (A (q y)) c)) (sym e)
            (λ hc. M.closing c (omega arith)));
        closing = λ c h. absurd (omega arith);
      }

module _ {n : ℕ} {A : ℕ → List ℕ} {par dep : ℕ → ℕ} (S : Spans n (Stands A) 0 par dep) (nodup : (u : ℕ) → u < n → NoDup (A u))
    {g : ℕ → Bool} {s : ℕ} {q p : ℕ → ℕ} {i k t : ℕ} (M : Spread n A (ptail par dep) g s q p i k t) (hi : i < t) (hk : k < length (A (q i)))
    (hx : at (A (q i)) k < n) (hs : s < n) (ne : at (A (q i)) k ≢ q (p i)) where
  linked : Linked par dep (q i) (at (A (q i)) k)
  linked = S.only (q i) (at (A (q i)) k) (M.below i hi) hx (at_in (A (q i)) k hk)

  turned : Linked par dep (at (A (q i)) k) (q i)
  turned = ⊎_elim inr inl linked

  -- a new entry is one step farther from s
  new_step : ptail par dep (at (A (q i)) k) s ≡ q i ∷ ptail par dep (q i) s
  new_step = ⊎_elim (λ e. e) (λ h. absurd (nearer h)) (linked_next S.rooted hx (M.below i hi) hs turned)
    where
      nearer : On par dep (at (A (q i)) k) (q i) s → ⊥
      nearer h =
          equal_or_not i 0
          (λ e.
          let z : q i ≡ s = ap q e ∙ M.start in
          linked_ne S.rooted (M.below i hi) hx linked (z ∙ sym (on_same par dep (at (A (q i)) k) s (subst (λ (y : ℕ). On par dep (at (A (q i)) k) y s) z h))))
          (λ later. ⊎_elim
          (λ e. ne (ap (λ (l : List ℕ). at l 0) (sym e ∙ M.step i (omega arith) hi)))
          (λ b. linked_ne S.rooted (M.below i hi) hx linked (between-both S.rooted (M.below i hi) hx hs h b))
          (linked_next S.rooted (M.below i hi) hx hs linked))

  -- and was not met before
  new_fresh : (j : ℕ) → j < t → q j ≢ at (A (q i)) k
  new_fresh j hj e =
      equal_or_not j 0
      (λ z.
      let f : at (A (q i)) k ≡ s = sym e ∙ ap q z ∙ M.start in
      let h = ap length (sym new_step ∙ ap (λ (y : ℕ). ptail par dep y s) f ∙ ptail_same par dep s) in
      omega arith)
      (λ later.
      let f : q (p j) ≡ q i = ap (λ (l : List ℕ). at l 0) (sym (M.step j (omega arith) hj) ∙ ap (λ (y : ℕ). ptail par dep y s) e ∙ new_step) in
      let pj = M.earlier j (omega arith) hj in
      let r = M.looked j (omega arith) hj (M.once (p j) i (omega arith) hi f) in
      let same = nodup_at (A (q i)) (nodup (q i) (M.below i hi)) r.0 k (omega arith) hk (r.2 ∙ e) in
      omega arith)

  -- so there is room for it
  pub new_room : t < n
  new_room =
      let le : t + 1 ≤ n =
      injective_le (t + 1) n (upd q t (at (A (q i)) k)) (upd_once q t (at (A (q i)) k) M.once new_fresh)
      (upd-all (λ y. y < n) q t (at (A (q i)) k) M.below hx) in
      omega arith

  module _ (gx : g (at (A (q i)) k) ≡ true) where
    -- an entry that is new
    pub spread_new : Spread n A (ptail par dep) g s (upd q t (at (A (q i)) k)) (upd p t i) i (k + 1) (t + 1)
    spread_new =
        let y : ℕ = at (A (q i)) k in
        let qo : (j : ℕ) → j < t → upd q t y j ≡ q j = upd_old q t y in
        let po : (j : ℕ) → j < t → upd p t i j ≡ p j = upd_old p t i in
        let qt : upd q t y t ≡ y = upd_here q t y in
        let pt : upd p t i t ≡ i = upd_here p t i in
        let grows : (z : ℕ) → (l : ℕ) × (l < t) × (q l ≡ z) → (l : ℕ) × (l < t + 1) × (upd q t y l ≡ z)
        = λ z r. (r.0, omega (arith, r.1), qo r.0 r.1 ∙ r.2) in
        record {
          some = omega arith;
          within = omega arith;
          start = qo 0 M.some ∙ M.start;
          start_from = po 0 M.some ∙ M.start_from;
          below = upd-all (λ z. z < n) q t y M.below hx;
          passing = upd-all (λ z. g z ≡ true) q t y M.passing gx;
          once = upd_once q t y M.once new_fresh;
          earlier = λ j a b. up_to j t b (λ lt. (let o = po j lt in let h = M.earlier j a lt in omega arith))
              (λ e. (let o = ap (upd p t i) e ∙ pt in omega arith));
          so_far = λ j a b. up_to j t b (λ lt. (let o = po j lt in let h = M.so_far j a lt in omega arith))
              (λ e. (let o = ap (upd p t i) e ∙ pt in omega arith));
          step = λ j a b. up_to j t b
              (λ lt.
              let o : upd q t y (upd p t i j) ≡ q (p j) = ap (upd q t y) (po j lt) ∙ qo (p j) (let h = M.earlier j a lt in omega arith) in
              ap (λ (z : ℕ). ptail par dep z s) (qo j lt) ∙ M.step j a lt ∙ ap (λ (z : ℕ). z ∷ ptail par dep z s) (sym o))
              (λ e.
              let o : upd q t y (upd p t i j) ≡ q i = ap (upd q t y) (ap (upd p t i) e ∙ pt) ∙ qo i hi in
              ap (λ (z : ℕ). ptail par dep z s) (ap (upd q t y) e ∙ qt) ∙ new_step ∙ ap (λ (z : ℕ). z ∷ ptail par dep z s) (sym o));
          looked = λ j a b e. up_to j t b
              (λ lt. (let r = M.looked j a lt (sym (po j lt) ∙ e) in (r.0, omega (arith, r.1), ap (λ (z : ℕ). at (A z) r.0) (qo i hi) ∙ r.2 ∙ sym (qo j lt))))
              (λ f. (k, omega arith, ap (λ (z : ℕ). at (A z) k) (qo i hi) ∙ sym (ap (upd q t y) f ∙ qt)));
          closed = λ j c h.
              subst (λ (z : ℕ). c < length (A z) → g (at (A z) c) ≡ true → (l : ℕ) × (l < t + 1) × (upd q t y l ≡ at (A z) c)) (sym (qo j (omega arith)))
              (λ hc gc. grows (at (A (q j)) c) (M.closed j c h hc gc));
          closing = λ c h.
              subst (λ (z : ℕ). g (at (A z) c) ≡ true → (l : ℕ) × (l < t + 1) × (upd q t y l ≡ at (A z) c)) (sym (qo i hi))
              (λ gc. up_to c k h (λ lt. grows (at (A (q i)) c) (M.closing c lt gc)) (λ e. (t, omega arith, qt ∙ ap (at (A (q i))) (sym e))));
        }

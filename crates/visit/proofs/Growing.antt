-- How a visit under way goes on: at its start, past an entry that was met before, past a new one, to the next position, and at its end.
use Prim.Native.Nat.{ℕ, ◌+◌, ◌≤◌, ◌<◌}
use native.Mathlib.Omega.{arith}
use mathlib.Core.Path.{◌≡◌, refl, sym, ap, ◌∙◌, subst}
use mathlib.Core.Logic.{◌≢◌}
use mathlib.Core.Bool.{Bool, true, false}
use mathlib.Core.List.{List}
use lib.Dec.{eqb}
use lib.ListN.{length}
use borrow.Author.Tests.{eq-eqb, ne_eqb}
use Rattle.sums.specs.Sum.{at}
use Rattle.sums.proofs.Sums.{equal_or_not, up_to}
use Rattle.sums.proofs.Pigeon.{Injective, injective_le}
use Rattle.graph.specs.Work.{Put}
use Rattle.visit.specs.Visit.{Visited}
use Rattle.visit.specs.Steps.{Seen}

pickℕ : Bool → ℕ → ℕ → ℕ
pickℕ true a b = a
pickℕ false a b = b

-- f with x at t
pub upd : (ℕ → ℕ) → ℕ → ℕ → ℕ → ℕ
upd f t x j = pickℕ (eqb j t) x (f j)

pub upd_here : (f : ℕ → ℕ) (t x : ℕ) → upd f t x t ≡ x
unfolding upd pickℕ
upd_here f t x = ap (λ (b : Bool). pickℕ b x (f t)) (eq-eqb t t refl)

pub upd_there : (f : ℕ → ℕ) (t x j : ℕ) → j ≢ t → upd f t x j ≡ f j
unfolding upd pickℕ
upd_there f t x j ne = ap (λ (b : Bool). pickℕ b x (f j)) (ne_eqb j t ne)

-- what stood below the store stands
pub put_old : {t x : ℕ} {f f' : ℕ → ℕ} → Put t t x f f' → (j : ℕ) → j < t → f' j ≡ f j
put_old g j h = g.there j h (omega arith)

upd_put : (f : ℕ → ℕ) (t x : ℕ) → Put t t x f (upd f t x)
upd_put f t x = record { here = upd_here f t x; there = λ j h. upd_there f t x j }

-- what holds of each f j below t, and of x, holds of each f' j below t + 1
put_all : {t x : ℕ} {f f' : ℕ → ℕ} (P : ℕ → Type 0) → Put t t x f f' → ((j : ℕ) → j < t → P (f j)) → P x → (j : ℕ) → j < t + 1 → P (f' j)
put_all {t} {x} {f} {f'} P g below here j h =
    up_to j t h (λ lt. subst P (sym (put_old g j lt)) (below j lt)) (λ e. subst P (sym (ap f' e ∙ g.here)) here)

-- a function without repeats, with a value that it has not
put_once : {t x : ℕ} {f f' : ℕ → ℕ} → Put t t x f f' → Injective t f → ((j : ℕ) → j < t → f j ≢ x) → Injective (t + 1) f'
put_once {t} {x} {f} {f'} g inj fresh j l hj hl e =
    up_to j t hj
    (λ j<. up_to l t hl
    (λ l<. inj j l j< l< (sym (put_old g j j<) ∙ e ∙ put_old g l l<))
    (λ l=. absurd (fresh j j< (sym (put_old g j j<) ∙ e ∙ ap f' l= ∙ g.here))))
    (λ j=. up_to l t hl
    (λ l<. absurd (fresh l l< (sym (put_old g l l<) ∙ sym e ∙ ap f' j= ∙ g.here)))
    (λ l=. j= ∙ sym l=))

module _ {n : ℕ} {A : ℕ → List ℕ} {r : ℕ} {q p e m : ℕ → ℕ} {i k t : ℕ} (S : Seen n A r q p e m i k t) where
  -- a vertex without a mark is not in the queue
  pub not-queued : {x : ℕ} → m x ≢ 1 → (j : ℕ) → j < t → q j ≢ x
  not-queued {x} fresh j h eq = fresh (subst (λ (y : ℕ). m y ≡ 1) eq (S.marked j h))

  -- and then there is room for it
  pub fresh_room : (x : ℕ) → x < n → m x ≢ 1 → t < n
  fresh_room x hx fresh =
      let le : t + 1 ≤ n =
      injective_le (t + 1) n (upd q t x) (put_once (upd_put q t x) S.once (not-queued fresh)) (put_all (λ y. y < n) (upd_put q t x) S.below hx) in
      omega arith

  pub few : t ≤ n
  few = injective_le t n q S.once S.below

  -- an entry that is marked
  pub seen_old : i < t → k < length (A (q i)) → m (at (A (q i)) k) ≡ 1 → Seen n A r q p e m i (k + 1) t
  seen_old hi hk mk =
      record {
        some = S.some;
        within = S.within;
        start = S.start;
        below = S.below;
        once = S.once;
        marked = S.marked;
        met = S.met;
        earlier = S.earlier;
        so_far = S.so_far;
        place = S.place;
        looked = λ j a b eq. (let h = S.looked j a b eq in omega arith);
        entry = S.entry;
        rise = S.rise;
        in_order = S.in_order;
        closed = S.closed;
        closing = λ c h. up_to c k h (S.closing c) (λ eq. subst (λ (y : ℕ). m (at (A (q i)) y) ≡ 1) (sym eq) mk);
      }

  -- the next position
  pub seen_next : i < t → k ≡ length (A (q i)) → Seen n A r q p e m (i + 1) 0 t
  seen_next hi hk =
      record {
        some = S.some;
        within = omega arith;
        start = S.start;
        below = S.below;
        once = S.once;
        marked = S.marked;
        met = S.met;
        earlier = S.earlier;
        so_far = λ j a b. (let h = S.so_far j a b in omega arith);
        place = S.place;
        looked = λ j a b eq. absurd (let h = S.so_far j a b in omega arith);
        entry = S.entry;
        rise = S.rise;
        in_order = S.in_order;
        closed = λ j c h hc. up_to j i h (λ lt. S.closed j c lt hc)
            (λ eq. subst (λ (y : ℕ). c < length (A (q y)) → m (at (A (q y)) c) ≡ 1) (sym eq) (λ hc'. S.closing c (subst (λ (y : ℕ). c < y) (sym hk) hc')) hc);
        closing = λ c h. absurd (omega arith);
      }

  -- all positions were looked at
  pub seen_done : i ≡ t → ((j c : ℕ) → j < t → c < length (A (q j)) → at (A (q j)) c < n) → Visited n A r q p e t
  seen_done eq inn =
      record {
        some = S.some;
        start = S.start;
        below = S.below;
        once = S.once;
        earlier = S.earlier;
        place = S.place;
        entry = S.entry;
        rise = S.rise;
        in_order = S.in_order;
        closed = λ j c h hc. S.met (at (A (q j)) c) (inn j c h hc) (S.closed j c (omega arith) hc);
      }

  module _ {q' p' m' : ℕ → ℕ} {x : ℕ} (gq : Put t t x q q') (gp : Put t t i p p') (mx : m' x ≡ 1) (mo : (y : ℕ) → y ≢ x → m' y ≡ m y) where
    -- a mark stays
    mark_stays : (y : ℕ) → m y ≡ 1 → m' y ≡ 1
    mark_stays y h = equal_or_not y x (λ eq. ap m' eq ∙ mx) (λ ne. mo y ne ∙ h)

    -- the vertex from which an older one was met
    from_old : (j : ℕ) → 0 < j → j < t → q' (p' j) ≡ q (p j)
    from_old j a b = ap q' (put_old gp j b) ∙ put_old gq (p j) (let h = S.earlier j a b in omega arith)

    from_new : i < t → q' (p' t) ≡ q i
    from_new hi = ap q' gp.here ∙ put_old gq i hi

    -- an entry that is new
    pub seen_new : i < t → k < length (A (q i)) → at (A (q i)) k ≡ x → x < n → m x ≢ 1 → Seen n A r q' p' (upd e t k) m' i (k + 1) (t + 1)
    seen_new hi hk ex hx fresh =
        let ge : Put t t k e (upd e t k) = upd_put e t k in
        record {
          some = omega arith;
          within = omega arith;
          start = put_old gq 0 (omega arith) ∙ S.start;
          below = put_all (λ y. y < n) gq S.below hx;
          once = put_once gq S.once (not-queued fresh);
          marked = put_all (λ y. m' y ≡ 1) gq (λ j h. mark_stays (q j) (S.marked j h)) mx;
          met = λ y hy my. equal_or_not y x (λ eq. (t, (omega arith), gq.here ∙ sym eq))
              (λ ne. (let f = S.met y hy (sym (mo y ne) ∙ my) in (f.0, (let lt = f.1 in omega arith), put_old gq f.0 f.1 ∙ f.2)));
          earlier = λ j a b. up_to j t b (λ lt. (let o = put_old gp j lt in let h = S.earlier j a lt in omega arith))
              (λ eq. (let o : p' j ≡ i = ap p' eq ∙ gp.here in omega arith));
          so_far = λ j a b. up_to j t b (λ lt. (let o = put_old gp j lt in let h = S.so_far j a lt in omega arith))
              (λ eq. (let o : p' j ≡ i = ap p' eq ∙ gp.here in omega arith));
          place = λ j a b. up_to j t b
              (λ lt. (let o = put_old ge j lt in let f = ap (λ (y : ℕ). length (A y)) (from_old j a lt) in let h = S.place j a lt in omega arith))
              (λ eq. subst (λ (y : ℕ). upd e t k y < length (A (q' (p' y)))) (sym eq)
              (let o = ge.here in let f = ap (λ (y : ℕ). length (A y)) (from_new hi) in omega arith));
          looked = λ j a b eq. up_to j t b (λ lt. (let o = put_old ge j lt in let h = S.looked j a lt (sym (put_old gp j lt) ∙ eq) in omega arith))
              (λ jt. (let o : upd e t k j ≡ k = ap (upd e t k) jt ∙ ge.here in omega arith));
          entry = λ j a b. up_to j t b
              (λ lt. ap (λ (y : ℕ). at (A y) (upd e t k j)) (from_old j a lt) ∙ ap (at (A (q (p j)))) (put_old ge j lt) ∙ S.entry j a lt ∙ sym (put_old gq j lt))
              (λ eq. subst (λ (y : ℕ). at (A (q' (p' y))) (upd e t k y) ≡ q' y) (sym eq)
              (ap (λ (y : ℕ). at (A y) (upd e t k t)) (from_new hi) ∙ ap (at (A (q i))) ge.here ∙ ex ∙ sym gq.here));
          rise = λ j l a b c. up_to l t c
              (λ lt. (let oj = put_old gp j (omega arith) in let ol = put_old gp l lt in let h = S.rise j l a b lt in omega arith))
              (λ eq. (let oj = put_old gp j (omega arith) in let ol : p' l ≡ i = ap p' eq ∙ gp.here in let h = S.so_far j a (omega arith) in omega arith));
          in_order = λ j l a b c same. up_to l t c
              (λ lt. (let oj = put_old ge j (omega arith) in let ol = put_old ge l lt in
              let h = S.in_order j l a b lt (sym (put_old gp j (omega arith)) ∙ same ∙ put_old gp l lt) in omega arith))
              (λ eq. (let oj = put_old ge j (omega arith) in let ol : upd e t k l ≡ k = ap (upd e t k) eq ∙ ge.here in
              let h = S.looked j a (omega arith) (sym (put_old gp j (omega arith)) ∙ same ∙ ap p' eq ∙ gp.here) in omega arith));
          closed = λ j c h hc. (let qe = put_old gq j (omega arith) in
              ap (λ (y : ℕ). m' (at (A y) c)) qe ∙ mark_stays (at (A (q j)) c) (S.closed j c h (subst (λ (y : ℕ). c < length (A y)) qe hc)));
          closing = λ c h. ap (λ (y : ℕ). m' (at (A y) c)) (put_old gq i hi)
              ∙ up_to c k h (λ lt. mark_stays (at (A (q i)) c) (S.closing c lt)) (λ eq. ap m' (ap (at (A (q i))) eq ∙ ex) ∙ mx);
        }

-- the root, met first
pub seen_start : {n : ℕ} (A : ℕ → List ℕ) {r : ℕ} {q p m : ℕ → ℕ} → r < n → q 0 ≡ r → m r ≡ 1 → ((y : ℕ) → y < n → y ≢ r → m y ≢ 1) → Seen n A r q p (λ j. 0) m 0 0 1
seen_start {n} A {r} {q} {p} {m} hr q0 mr others =
    record {
      some = omega arith;
      within = omega arith;
      start = q0;
      below = λ j h. (let z : q j ≡ r = ap q (let j0 : j ≡ 0 = omega arith in j0) ∙ q0 in omega arith);
      once = λ j l hj hl eq. omega arith;
      marked = λ j h. ap (λ (y : ℕ). m (q y)) (let j0 : j ≡ 0 = omega arith in j0) ∙ ap m q0 ∙ mr;
      met = λ x hx mx. equal_or_not x r (λ eq. (0, (omega arith), q0 ∙ sym eq)) (λ ne. absurd (others x hx ne mx));
      earlier = λ j a b. absurd (omega arith);
      so_far = λ j a b. absurd (omega arith);
      place = λ j a b. absurd (omega arith);
      looked = λ j a b eq. absurd (omega arith);
      entry = λ j a b. absurd (omega arith);
      rise = λ j l a b c. absurd (omega arith);
      in_order = λ j l a b c eq. absurd (omega arith);
      closed = λ j c h hc. absurd (omega arith);
      closing = λ c h. absurd (omega arith);
    }

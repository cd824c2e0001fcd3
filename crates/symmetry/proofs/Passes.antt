-- A pass that turns the lists: how it starts, steps and ends.
use Prim.Native.Nat.{ℕ, ◌+◌, ◌-◌, ◌*◌, ◌≤◌, ◌<◌, min}
use native.Mathlib.Omega.{arith}
use native.Mathlib.Decide.{dec_lt}
use mathlib.Core.Path.{◌≡◌, sym, ap, subst, ◌∙◌}
use mathlib.Core.Logic.{◌≢◌, ◌⊎◌, inl, inr, by_cases}
use lib.Dec.{eqb}
use Rattle.sums.specs.Sum.{tally, sum}
use Rattle.sums.proofs.Sums.{equal_or_not, tally_same, tally_other, sum_none, sum_change, sum_tight}
use Rattle.symmetry.specs.Inner.{part, Starts, Below, Ascends, Turning, Turned}
use Rattle.symmetry.proofs.Parts.{part_empty, part_ext, part_more}
use Rattle.symmetry.proofs.Lists.{starts_rise, one_list, lengths}

-- with every cursor at the start of its list nothing is turned yet
pub pass_starts : {n : ℕ} {o : ℕ → ℕ} (X T c : ℕ → ℕ) → Starts n o → ((x : ℕ) → x < n → c x ≡ o x) → Turning n o X T c 0 0
pass_starts {n} {o} X T c s at_start =
    record {
      in_range = omega arith;
      from = omega (arith, s.first);
      till = omega arith;
      begun = λ x h. omega (arith, at_start x h);
      within = λ x h. omega (arith, at_start x h, s.rise x h);
      total = sum_none n (λ x. c x - o x) (λ x h. omega (arith, at_start x h));
      counts =
          λ v x hv hx.
          part_empty T (o x) (c x) v (omega (arith, at_start x hx))
          ∙ sym (part_empty X (o v) (min 0 (o (v + 1))) x (omega arith));
      passed = λ x p h f t. absurd (omega (arith, at_start x h));
      below = λ x p h f t. absurd (omega (arith, at_start x h));
      ascends = λ x p q h f m t. absurd (omega (arith, at_start x h));
    }

-- a list is done, and the next comes
pub pass_next : {n : ℕ} {o X T c : ℕ → ℕ} {u e : ℕ} → Turning n o X T c u e → u < n → o (u + 1) ≤ e → Turning n o X T c (u + 1) e
pass_next i h done =
    record {
      in_range = omega arith;
      from = done;
      till = i.till;
      begun = i.begun;
      within = i.within;
      total = i.total;
      counts = i.counts;
      passed = λ x p hx f t. omega (arith, i.passed x p hx f t);
      below = i.below;
      ascends = i.ascends;
    }

-- the entry of list u at place e is in hand
pub record InHand (n : ℕ) (o X : ℕ → ℕ) (u e : ℕ) : Type 0 where
  pub starts : Starts n o
  pub in_range : u < n
  pub from : o u ≤ e
  pub till : e < o (u + 1)
  pub entry : X e < n

-- its own list is read one place further
read_here : {n : ℕ} {o X : ℕ → ℕ} {u e : ℕ} → InHand n o X u e → (x : ℕ)
    → part X (o u) (min (e + 1) (o (u + 1))) x ≡ part X (o u) (min e (o (u + 1))) x + tally (eqb (X e) x)
read_here {n} {o} {X} {u} {e} k x =
    let a : min (e + 1) (o (u + 1)) ≡ e + 1 = omega (arith, k.till) in
    let b : min e (o (u + 1)) ≡ e = omega (arith, k.till) in
    omega (arith, ap (λ (z : ℕ). part X (o u) z x) a, ap (λ (z : ℕ). part X (o u) z x) b, part_more X (o u) e x k.from)

-- and no other list
read_there : {n : ℕ} {o X : ℕ → ℕ} {u e : ℕ} → InHand n o X u e → (v x : ℕ) → v < n → v ≢ u
    → part X (o v) (min (e + 1) (o (v + 1))) x ≡ part X (o v) (min e (o (v + 1))) x
read_there {n} {o} {X} {u} {e} k v x hv d =
    by_cases (dec_lt v u)
    (λ l.
    let before = starts_rise k.starts (v + 1) u (omega arith) (omega (arith, k.in_range)) in
    let a : min (e + 1) (o (v + 1)) ≡ min e (o (v + 1)) = omega (arith, k.from) in
    ap (λ (z : ℕ). part X (o v) z x) a)
    (λ l.
    let behind = starts_rise k.starts (u + 1) v (omega arith) (omega arith) in
    part_empty X (o v) (min (e + 1) (o (v + 1))) x (omega (arith, k.till))
    ∙ sym (part_empty X (o v) (min e (o (v + 1))) x (omega (arith, k.till))))

-- one entry more is read of list u at its own value
pub read_more : {n : ℕ} {o X : ℕ → ℕ} {u e : ℕ} → InHand n o X u e → (v x : ℕ) → v < n
    → part X (o v) (min (e + 1) (o (v + 1))) x ≡ part X (o v) (min e (o (v + 1))) x + tally (eqb u v) * tally (eqb (X e) x)
read_more {n} {o} {X} {u} {e} k v x hv =
    let t = tally (eqb (X e) x) in
    equal_or_not v u
    (λ s.
    let here = subst (λ (z : ℕ). part X (o z) (min (e + 1) (o (z + 1))) x ≡ part X (o z) (min e (o (z + 1))) x + t) (sym s) (read_here k x) in
    omega (arith, ap (λ (z : ℕ). z * t) (tally_same u v (sym s))))
    (λ d. omega (arith, read_there k v x hv d, ap (λ (z : ℕ). z * t) (tally_other u v (λ s. d (sym s)))))

-- u was put at the cursor of x, and the cursor moved
pub record Put (n : ℕ) (T c T' c' : ℕ → ℕ) (u x : ℕ) : Type 0 where
  pub new : T' (c x) ≡ u
  pub old : (p : ℕ) → p ≢ c x → T' p ≡ T p
  pub moved : c' x ≡ c x + 1
  pub stayed : (y : ℕ) → y < n → y ≢ x → c' y ≡ c y

module _ {n : ℕ} {o X T c T' c' : ℕ → ℕ} {u e : ℕ} (i : Turning n o X T c u e) (k : InHand n o X u e) (free : c (X e) < o (X e + 1))
    (w : Put n T c T' c' u (X e)) where
  -- the places filled so far kept their entries
  kept : (y p : ℕ) → y < n → o y ≤ p → p < c y → T' p ≡ T p
  kept y p hy f t =
      w.old p (λ q.
      let same : X e ≡ y = one_list k.starts (X e) y p k.entry hy (omega (arith, i.begun (X e) k.entry)) (omega arith) f (omega (arith, i.within y hy)) in
      let z = ap c same in
      omega arith)

  -- a cursor goes on by one or stays, and not past the end of its list
  cursor_again : (y : ℕ) → y < n → (c y ≤ c' y) × (c' y ≤ o (y + 1))
  cursor_again y hy =
      equal_or_not y (X e)
      (λ s.
      subst (λ (z : ℕ). (c z ≤ c' z) × (c' z ≤ o (z + 1))) (sym s) (omega (arith, w.moved)))
      (λ d. omega (arith, w.stayed y hy d, i.within y hy))

  -- a filled place of list y is the new one or was filled before
  filled : (y p : ℕ) → y < n → p < c' y → (p < c y) ⊎ ((p ≡ c y) × (y ≡ X e) × (T' p ≡ u))
  filled y p hy t =
      equal_or_not y (X e)
      (λ s.
      let z = ap c s in
      let z' = ap c' s in
      equal_or_not p (c y)
      (λ q. inr (q, s, ap T' (q ∙ z) ∙ w.new))
      (λ d. inl (omega (arith, w.moved))))
      (λ d. inl (omega (arith, w.stayed y hy d)))

  passed_again : (y p : ℕ) → y < n → o y ≤ p → p < c' y → T' p ≤ u
  passed_again y p hy f t =
      elim (filled y p hy t) [
        | inl b ↦ omega (arith, kept y p hy f b, i.passed y p hy f b)
        | inr b ↦ omega (arith, b.2)
      ]

  below_again : Below n o c' T'
  below_again y p hy f t =
      elim (filled y p hy t) [
        | inl b ↦ omega (arith, kept y p hy f b, i.below y p hy f b)
        | inr b ↦ omega (arith, b.2, k.in_range)
      ]

  ascends_again : Ascends n o c' T'
  ascends_again y p q hy f m t =
      elim (filled y q hy t) [
        | inl b ↦ omega (arith, kept y p hy f (omega arith), kept y q hy (omega arith) b, i.ascends y p q hy f m b)
        | inr b ↦ omega (arith, b.2, passed_again y p hy f (omega arith))
      ]

  -- list y of T has one entry more, the u, if y is the entry in hand
  put_more : (v y : ℕ) → y < n → part T' (o y) (c' y) v ≡ part T (o y) (c y) v + tally (eqb u v) * tally (eqb (X e) y)
  put_more v y hy =
      let keeps = part_ext T' T (o y) (c y) v (λ p. kept y p hy) in
      equal_or_not y (X e)
      (λ s.
      let at-end : c' y ≡ c y + 1 = subst (λ (z : ℕ). c' z ≡ c z + 1) (sym s) w.moved in
      let new : T' (c y) ≡ u = subst (λ (z : ℕ). T' (c z) ≡ u) (sym s) w.new in
      omega (
        arith,
        ap (λ (z : ℕ). part T' (o y) z v) at-end,
        part_more T' (o y) (c y) v (i.begun y hy),
        ap (λ (z : ℕ). tally (eqb z v)) new,
        ap (λ (z : ℕ). tally (eqb u v) * z) (tally_same (X e) y (sym s)),
      ))
      (λ d.
      omega (
        arith,
        ap (λ (z : ℕ). part T' (o y) z v) (w.stayed y hy d),
        ap (λ (z : ℕ). tally (eqb u v) * z) (tally_other (X e) y (λ s. d (sym s))),
      ))

  total_again : sum n (λ x. c' x - o x) ≡ e + 1
  total_again =
      omega (
        arith,
        i.total,
        sum_change n (X e) 1 (λ x. c x - o x) (λ x. c' x - o x) k.entry (omega (arith, w.moved, i.begun (X e) k.entry))
            (λ y hy d. ap (λ (z : ℕ). z - o y) (w.stayed y hy d)),
      )

  -- the next entry of list u
  pub pass_steps : Turning n o X T' c' u (e + 1)
  pass_steps =
      record {
        in_range = i.in_range;
        from = omega (arith, i.from);
        till = omega (arith, k.till, starts_rise k.starts (u + 1) n (omega (arith, k.in_range)) (omega arith));
        begun = λ y hy. omega (arith, cursor_again y hy, i.begun y hy);
        within = λ y hy. omega (arith, cursor_again y hy, i.within y hy);
        total = total_again;
        counts = λ v y hv hy. omega (arith, put_more v y hy, i.counts v y hv hy, read_more k v y hv);
        passed = passed_again;
        below = below_again;
        ascends = ascends_again;
      }

-- after the last list everything is turned
pub pass-ends : {n : ℕ} {o X T c : ℕ → ℕ} {u e : ℕ} → Starts n o → Turning n o X T c u e → n ≤ u → Turned n o X T
pass-ends {n} {o} {X} {T} {c} {u} {e} s i h =
    record {
      counts =
          λ v x hv hx.
          let read : min e (o (v + 1)) ≡ o (v + 1) = omega (arith, all, starts_rise s (v + 1) n (omega arith) (omega arith)) in
          ap (λ (z : ℕ). part T (o x) z v) (sym (full x hx)) ∙ i.counts v x hv hx ∙ ap (λ (z : ℕ). part X (o v) z x) read;
      below = λ x p hx f t. i.below x p hx f (omega (arith, full x hx));
      ascends = λ x p q hx f m t. i.ascends x p q hx f m (omega (arith, full x hx));
    }
  where
    all : e ≡ o n
    all =
        let z : u ≡ n = omega (arith, i.in_range) in
        omega (arith, ap o z, i.from, i.till)

    full : (x : ℕ) → x < n → c x ≡ o (x + 1)
    full x hx =
        omega (
          arith,
          sum_tight n (λ y. c y - o y) (λ y. o (y + 1) - o y) (λ y hy. omega (arith, i.within y hy))
              (omega (arith, i.total, all, lengths s n (omega arith))) x hx,
          i.begun x hx,
          i.within x hx,
        )

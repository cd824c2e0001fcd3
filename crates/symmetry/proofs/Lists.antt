-- Lists that stand one behind the other, and the lent lists as such.
use Prim.Native.Nat.{ℕ, zero, suc, ◌+◌, ◌-◌, ◌≤◌, ◌<◌}
use native.Mathlib.Omega.{arith}
use native.Mathlib.Decide.{dec_le, dec_lt}
use mathlib.Core.Path.{◌≡◌, sym, ap, ◌∙◌}
use mathlib.Core.Logic.{by_cases}
use mathlib.Core.List.{List}
use lib.ListN.{length}
use borrow.Author.Tests.{lt-ltb, le-leb}
use Rattle.sums.specs.Sum.{at, sum, count}
use Rattle.sums.proofs.Counts.{count-slice}
use Rattle.paths.specs.Tree.{Symmetric}
use Rattle.graph.specs.Lent.{vertices, list_of, Offsets}
use Rattle.symmetry.specs.Inner.{part, Starts, Turns}

-- an earlier list starts no later
pub starts_rise : {n : ℕ} {o : ℕ → ℕ} → Starts n o → (a b : ℕ) → a ≤ b → b ≤ n → o a ≤ o b
starts_rise {n} {o} s a zero h k =
    let e : a ≡ 0 = omega arith in
    omega (arith, ap o e)
starts_rise {n} {o} s a (suc b) h k =
    by_cases (dec_le a b)
    (λ l.
    let e : b + 1 ≡ suc b = omega arith in
    omega (arith, starts_rise s a b l (omega arith), s.rise b (omega arith), ap o e))
    (λ l.
    let e : a ≡ suc b = omega arith in
    omega (arith, ap o e))

-- a place belongs to one list
pub one_list : {n : ℕ} {o : ℕ → ℕ} → Starts n o → (x y p : ℕ) → x < n → y < n
    → o x ≤ p → p < o (x + 1) → o y ≤ p → p < o (y + 1) → x ≡ y
one_list {n} {o} s x y p hx hy fx tx fy ty =
    by_cases (dec_lt x y) (λ l. absurd (omega (arith, starts_rise s (x + 1) y (omega arith) (omega arith))))
    (λ l.
    by_cases (dec_lt y x) (λ m. absurd (omega (arith, starts_rise s (y + 1) x (omega arith) (omega arith)))) (λ m. omega arith))

-- the lists' lengths add up
pub lengths : {n : ℕ} {o : ℕ → ℕ} → Starts n o → (m : ℕ) → m ≤ n → sum m (λ x. o (x + 1) - o x) ≡ o m
lengths s zero h = sym s.first
lengths {n} {o} s (suc m) h =
    let e : m + 1 ≡ suc m = omega arith in
    omega (arith, lengths s m (omega arith), s.rise m (omega arith), ap o e)

module _ {os ts : List ℕ} {n : ℕ} (size : n ≡ vertices os) (sound : Offsets os ts) where
  -- the lent lists stand one behind the other, and end with the targets
  pub lent_starts : Starts n (at os)
  lent_starts = record { first = sound.first; rise = λ u h. sound.rise u (omega arith) }

  pub lent_end : at os n ≡ length ts
  lent_end = ap (at os) size ∙ sound.last

  -- the list of u ends within the targets
  pub lent_inside : (u : ℕ) → u < n → at os (u + 1) ≤ length ts
  lent_inside u h = omega (arith, lent_end, starts_rise lent_starts (u + 1) n (omega arith) (omega arith))

  -- the list of u is a part of the targets
  pub lent-part : (u v : ℕ) → u < n → count v (list_of os ts u) ≡ part (at ts) (at os u) (at os (u + 1)) v
  unfolding list_of part
  lent-part u v h =
      let rises = sound.rise u (omega arith) in
      let inside = lent_inside u h in
      simp (lt-ltb (u + 1) (length os) (omega arith), le-leb (at os u) (at os (u + 1)) rises, le-leb (at os (u + 1)) (length ts) inside)
      (count-slice v (at os u) (at os (u + 1)) ts rises inside)

  -- symmetric lists, as a law of the targets' parts
  pub symmetric_turns : Symmetric n (list_of os ts) → Turns n (at os) (at ts) (at ts)
  symmetric_turns sy v x hv hx = sym (lent-part x v hx) ∙ sy x v hx hv ∙ lent-part v x hv

  pub turns_symmetric : Turns n (at os) (at ts) (at ts) → Symmetric n (list_of os ts)
  turns_symmetric t u v hu hv = lent-part u v hu ∙ t v u hv hu ∙ sym (lent-part v u hv)

-- The loops of `start_cursors`, `turn_list` and `turn` over work: each invariant holds at the start and after each turn, and gives the answer at the end.
use Prim.Native.Nat.{ℕ, ◌+◌, ◌≤◌, ◌<◌}
use native.Mathlib.Omega.{arith}
use mathlib.Core.Path.{◌≡◌, sym, subst, ◌∙◌}
use mathlib.Core.Bool.{true, false, true≢false, false≢true}
use mathlib.Core.List.{List}
use lib.ListN.{length, set, length-set}
use Rattle.sums.specs.Sum.{at}
use Rattle.sums.proofs.Sums.{equal_or_not}
use Rattle.graph.proofs.Frames.{only_refl, only_trans, only_set, at_set_same, at_set_other}
use Rattle.symmetry.specs.Symmetry.{SymmetryAsks}
use Rattle.symmetry.specs.Inner.{Starts, Turning, cursor, turned, StartAsks, StartAnswers, Starting, TurnAsks, TurnAnswers, ListAnswers, TurnLoop}
use Rattle.symmetry.proofs.Lists.{lent_starts, lent_inside}
use Rattle.symmetry.proofs.Passes.{InHand, pass_starts, pass_next, pass_steps, pass-ends}
use Rattle.symmetry.proofs.Refusals.{full_refutes}

-- no cursor is set yet
pub start_start : (os : List ℕ) (n base : ℕ) (w : List ℕ) → Starting os n base w w 0
start_start os n base w = record { in_range = omega arith; at_start = λ x h. absurd (omega arith); only = only_refl base (base + n) w }

module _ {os : List ℕ} {n base : ℕ} {w₀ w : List ℕ} {u : ℕ} where
  -- one cursor more is set
  pub start_step : StartAsks os n base w₀ → Starting os n base w₀ w u → u < n → Starting os n base w₀ (set w (base + u) (at os u)) (u + 1)
  start_step a i h =
      record {
        in_range = omega arith;
        at_start =
            λ x b.
            equal_or_not x u
            (λ s. subst (λ (z : ℕ). at (set w (base + u) (at os u)) (base + z) ≡ at os z) (sym s)
            (at_set_same w (base + u) (at os u) (omega (arith, a.room, i.only.same_length))))
            (λ d. at_set_other w (base + u) (at os u) (base + x) (omega arith) ∙ i.at_start x (omega arith));
        only = only_trans i.only (only_set w (base + u) (at os u) (omega arith) (omega arith));
      }

  -- all are set
  pub start-done : Starting os n base w₀ w u → n ≤ u → StartAnswers os n base w₀ w
  start-done i h = record { at_start = λ x b. i.at_start x (omega arith); only = i.only }

-- nothing is turned yet
pub turn_start : {os ts : List ℕ} {n base : ℕ} {w : List ℕ} → TurnAsks os ts n base w → TurnLoop os ts n base w w 0 (at os 0)
turn_start {os} {ts} {n} {base} {w} a =
    record {
      turning = subst (Turning n (at os) (at ts) (turned n base w) (cursor base w) 0) (sym a.asks.offsets.first)
          (pass_starts (at ts) (turned n base w) (cursor base w) (lent_starts a.asks.size a.asks.offsets) a.at_start);
      only = only_refl base (base + n + length ts) w;
    }

-- the entry in hand is a vertex, whose list is within the targets; work is as long as it was
pub record TurnRoom (os ts : List ℕ) (n : ℕ) (w₀ w : List ℕ) (e : ℕ) : Type 0 where
  pub entry : e < length ts
  pub vertex : at ts e < n
  pub inside : at os (at ts e + 1) ≤ length ts
  pub same_length : length w ≡ length w₀

module _ {os ts : List ℕ} {n base : ℕ} {w₀ w : List ℕ} {u e : ℕ} (a : SymmetryAsks os ts n base w₀) (i : TurnLoop os ts n base w₀ w u e) where
  starts : Starts n (at os)
  starts = lent_starts a.size a.offsets

  -- there is such an entry wherever the list of u goes on
  pub turn_room : u < n → e < at os (u + 1) → TurnRoom os ts n w₀ w e
  turn_room h t =
      let entry : e < length ts = omega (arith, lent_inside a.size a.offsets u h) in
      let vertex : at ts e < n = omega (arith, a.targets e entry, a.size) in
      record { entry = entry; vertex = vertex; inside = lent_inside a.size a.offsets (at ts e) vertex; same_length = i.only.same_length }

  in_hand : u < n → e < at os (u + 1) → InHand n (at os) (at ts) u e
  in_hand h t = record { starts = starts; in_range = h; from = i.turning.from; till = t; entry = (turn_room h t).vertex }

  -- u is stored at the cursor of the entry in hand, and the cursor goes on
  pub turn_step : u < n → e < at os (u + 1) → at w (base + at ts e) < at os (at ts e + 1)
      → TurnLoop os ts n base w₀ (set (set w (base + n + at w (base + at ts e)) u) (base + at ts e) (at w (base + at ts e) + 1)) u (e + 1)
  turn_step h t free =
      let r = turn_room h t in
      let x = at ts e in
      let next = at w (base + x) in
      let w₁ = set w (base + n + next) u in
      let w₂ = set w₁ (base + x) (next + 1) in
      let same : length w₁ ≡ length w = length-set w (base + n + next) u in
      record {
        turning =
            pass_steps i.turning (in_hand h t) free
            (record {
              new =
                  at_set_other w₁ (base + x) (next + 1) (base + n + next) (omega (arith, r.vertex))
                  ∙ at_set_same w (base + n + next) u (omega (arith, r, a.room));
              old =
                  λ p d.
                  at_set_other w₁ (base + x) (next + 1) (base + n + p) (omega (arith, r.vertex))
                  ∙ at_set_other w (base + n + next) u (base + n + p) (omega arith);
              moved = at_set_same w₁ (base + x) (next + 1) (omega (arith, r, a.room));
              stayed =
                  λ y hy d.
                  at_set_other w₁ (base + x) (next + 1) (base + y) (omega arith)
                  ∙ at_set_other w (base + n + next) u (base + y) (omega arith);
            });
        only =
            only_trans i.only
            (only_trans (only_set w (base + n + next) u (omega arith) (omega (arith, r)))
            (only_set w₁ (base + x) (next + 1) (omega arith) (omega (arith, r))));
      }

  -- the list of the entry in hand is full
  pub turn_refused : u < n → e < at os (u + 1) → at os (at ts e + 1) ≤ at w (base + at ts e) → ListAnswers os ts n base u w₀ w false
  turn_refused h t full =
      record {
        right = λ q. absurd (false≢true q);
        wrong =
            λ q. full_refutes i.turning (in_hand h t)
            (λ x p hx f b.
            omega (arith, a.targets p (omega (arith, lent_inside a.size a.offsets x hx)), a.size)) full;
        only = i.only;
      }

  -- the list of u is done
  pub list_turned : u < n → at os (u + 1) ≤ e → (at os u ≤ at os (u + 1) → e ≤ at os (u + 1)) → ListAnswers os ts n base u w₀ w true
  list_turned h done upto =
      let t : e ≡ at os (u + 1) = omega (arith, upto (starts.rise u h)) in
      record {
        right = λ q. subst (Turning n (at os) (at ts) (turned n base w) (cursor base w) (u + 1)) t (pass_next i.turning h done);
        wrong = λ q. absurd (true≢false q);
        only = i.only;
      }

module _ {os ts : List ℕ} {n base : ℕ} {w₀ w : List ℕ} {u : ℕ} (a : TurnAsks os ts n base w₀) (i : TurnLoop os ts n base w₀ w u (at os u)) where
  -- every list is done
  pub turn-done : n ≤ u → TurnAnswers os ts n base w₀ w true
  turn-done h =
      record { right = λ q. pass-ends (lent_starts a.asks.size a.asks.offsets) i.turning h; wrong = λ q. absurd (true≢false q); only = i.only }

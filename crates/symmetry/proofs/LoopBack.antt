-- The loops of `turn_list_back` and `turn_back` over work: each invariant holds at the start and after each turn, and gives the answer at the end.
use Prim.Native.Nat.{ℕ, ◌+◌, ◌≤◌, ◌<◌}
use native.Mathlib.Omega.{arith}
use mathlib.Core.Path.{◌≡◌, refl, sym, subst, ◌∙◌, fun_ext}
use mathlib.Core.Bool.{Bool, true, false, true≢false, false≢true}
use mathlib.Core.List.{List}
use lib.ListN.{length, set}
use Rattle.sums.specs.Sum.{at}
use Rattle.graph.proofs.Frames.{only_refl, only_trans, only_set, at_set_same, at_set_other}
use Rattle.graph.specs.Work.{Only}
use Rattle.symmetry.specs.Inner.{Turns, Turning, Below, Ascends, ends, cursor, turned, BackLists, ListBackAsks, ListBackAnswers, BackAsks, BackAnswers, BackLoop}
use Rattle.symmetry.proofs.Lists.{starts_rise}
use Rattle.symmetry.proofs.Passes.{InHand, Put, pass_starts, pass_next, pass_steps, pass-ends}
use Rattle.symmetry.proofs.Refusals.{must_stand}

-- nothing is turned back yet
pub back_start : {os : List ℕ} {n base : ℕ} {w : List ℕ} → BackAsks os n base w → BackLoop os n base w w 0 (at os 0)
back_start {os} {n} {base} {w} a =
    record {
      turning = subst (Turning n (at os) (turned n base w) (turned n base w) (cursor base w) 0) (sym a.lists.starts.first)
          (pass_starts (turned n base w) (turned n base w) (cursor base w) a.lists.starts a.at_start);
      only = only_refl base (base + n) w;
    }

-- the entry in hand is a vertex, whose list is within the lists; work is as long as it was
pub record BackRoom (os : List ℕ) (n base : ℕ) (w₀ w : List ℕ) (e : ℕ) : Type 0 where
  pub entry : e < at os n
  pub vertex : at w (base + n + e) < n
  pub inside : at os (at w (base + n + e) + 1) ≤ at os n
  pub same_length : length w ≡ length w₀

module _ {os : List ℕ} {n base : ℕ} {w₀ w : List ℕ} {u e : ℕ} (a : BackLists os n base w₀) (i : BackLoop os n base w₀ w u e) where
  -- the turned lists are as they were
  same : (p : ℕ) → at w (base + n + p) ≡ turned n base w₀ p
  same p = i.only.after (base + n + p) (omega arith)

  -- the entry in hand is a vertex
  vertex₀ : u < n → e < at os (u + 1) → turned n base w₀ e < n
  vertex₀ h t = a.below u e h i.turning.from t

  -- there is such an entry wherever the list of u goes on
  pub back_room : u < n → e < at os (u + 1) → BackRoom os n base w₀ w e
  back_room h t =
      let vertex : at w (base + n + e) < n = omega (arith, same e, vertex₀ h t) in
      record {
        entry = omega (arith, starts_rise a.starts (u + 1) n (omega arith) (omega arith));
        vertex = vertex;
        inside = starts_rise a.starts (at w (base + n + e) + 1) n (omega arith) (omega arith);
        same_length = i.only.same_length;
      }

  in_hand : u < n → e < at os (u + 1) → InHand n (at os) (turned n base w₀) u e
  in_hand h t = record { starts = a.starts; in_range = h; from = i.turning.from; till = t; entry = vertex₀ h t }

  -- a turn, for x the entry in hand
  step_at : (x : ℕ) → turned n base w₀ e ≡ x → u < n → e < at os (u + 1) → at w (base + x) < at os (x + 1) → at w (base + n + at w (base + x)) ≡ u
      → BackLoop os n base w₀ (set w (base + x) (at w (base + x) + 1)) u (e + 1)
  step_at x q h t free found =
      let T = turned n base w₀ in
      let next = at w (base + x) in
      let hx : x < n = omega (arith, vertex₀ h t) in
      record {
        turning =
            pass_steps i.turning (in_hand h t) (subst (λ (z : ℕ). at w (base + z) < at os (z + 1)) (sym q) free)
            (subst (λ (z : ℕ). Put n T (cursor base w) T (cursor base (set w (base + x) (next + 1))) u z) (sym q)
            (record {
              new = sym (same next) ∙ found;
              old = λ p d. refl;
              moved = at_set_same w (base + x) (next + 1) (omega (arith, a.room, i.only.same_length));
              stayed = λ y hy d. at_set_other w (base + x) (next + 1) (base + y) (omega arith);
            }));
        only = only_trans i.only (only_set w (base + x) (next + 1) (omega arith) (omega arith));
      }

  -- u stands at the cursor of the entry in hand, and the cursor goes on
  pub back_step : u < n → e < at os (u + 1) → at w (base + at w (base + n + e)) < at os (at w (base + n + e) + 1)
      → at w (base + n + at w (base + at w (base + n + e))) ≡ u
      → BackLoop os n base w₀ (set w (base + at w (base + n + e)) (at w (base + at w (base + n + e)) + 1)) u (e + 1)
  back_step = step_at (at w (base + n + e)) (sym (same e))

  -- u does not stand at the cursor of the entry in hand
  pub back_refused : u < n → e < at os (u + 1)
      → ((at w (base + at w (base + n + e)) < at os (at w (base + n + e) + 1)) × (at w (base + n + at w (base + at w (base + n + e))) ≡ u) → ⊥)
      → ListBackAnswers os n base u w₀ w false
  back_refused h t d =
      record {
        right = λ q. absurd (false≢true q);
        wrong =
            λ q even.
            let z = must_stand i.turning (in_hand h t) a.ascends even in
            d (subst (λ (x : ℕ). (at w (base + x) < at os (x + 1)) × (at w (base + n + at w (base + x)) ≡ u)) (sym (same e))
            (z.0, same (at w (base + turned n base w₀ e)) ∙ z.1));
        only = i.only;
      }

  -- the list of u is done
  pub list_back : u < n → at os (u + 1) ≤ e → (at os u ≤ at os (u + 1) → e ≤ at os (u + 1)) → ListBackAnswers os n base u w₀ w true
  list_back h done upto =
      let t : e ≡ at os (u + 1) = omega (arith, upto (a.starts.rise u h)) in
      record {
        right = λ q. subst (Turning n (at os) (turned n base w₀) (turned n base w₀) (cursor base w) (u + 1)) t (pass_next i.turning h done);
        wrong = λ q. absurd (true≢false q);
        only = i.only;
      }

-- what writes the cursors alone keeps the turned lists
pub keeps-turned : (n base : ℕ) {w w' : List ℕ} → Only base (base + n) w w' → turned n base w ≡ turned n base w'
keeps-turned n base k = fun_ext (λ p. sym (k.after (base + n + p) (omega arith)))

module _ {os : List ℕ} {n base : ℕ} {w₀ w : List ℕ} {u : ℕ} (a : BackLists os n base w₀) (i : BackLoop os n base w₀ w u (at os u)) where
  -- the next list can be turned back
  pub list_back_asks : u < n → ListBackAsks os n base u w
  list_back_asks h =
      let e = keeps-turned n base i.only in
      record {
        lists =
            record {
              size = a.size;
              small = a.small;
              starts = a.starts;
              room = omega (arith, a.room, i.only.same_length);
              below = subst (Below n (at os) (ends (at os))) e a.below;
              ascends = subst (Ascends n (at os) (ends (at os))) e a.ascends;
            };
        vertex = h;
        turning = subst (λ (T : ℕ → ℕ). Turning n (at os) T T (cursor base w) u (at os u)) e i.turning;
      }

  -- it is turned back
  pub back_more : {w' : List ℕ} {r : Bool} → ListBackAnswers os n base u w w' r → r ≡ true → BackLoop os n base w₀ w' (u + 1) (at os (u + 1))
  back_more {w'} l e =
      record {
        turning = subst (λ (T : ℕ → ℕ). Turning n (at os) T T (cursor base w') (u + 1) (at os (u + 1))) (sym (keeps-turned n base i.only)) (l.right e);
        only = only_trans i.only l.only;
      }

  -- or refused
  pub back_stopped : {w' : List ℕ} {r : Bool} → ListBackAnswers os n base u w w' r → r ≡ false → BackAnswers os n base w₀ w' false
  back_stopped l e =
      record {
        right = λ q. absurd (false≢true q);
        wrong = λ q. subst (λ (T : ℕ → ℕ). Turns n (at os) T T → ⊥) (sym (keeps-turned n base i.only)) (l.wrong e);
        only = only_trans i.only l.only;
      }

  -- every list is done
  pub back_done : n ≤ u → BackAnswers os n base w₀ w true
  back_done h = record { right = λ q. (pass-ends a.starts i.turning h).counts; wrong = λ q. absurd (true≢false q); only = i.only }

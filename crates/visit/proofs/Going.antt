-- The visit from its start to its end: the root is met with no mark set, and then each position in turn.
use Prim.Native.Nat.{ℕ, ◌+◌, ◌*◌, ◌≤◌, ◌<◌, ◌/◌, ◌%◌, ◌^◌}
use native.Mathlib.Omega.{arith}
use native.Mathlib.Nat.{zero-div}
use mathlib.Core.Path.{◌≡◌, sym, ap, ◌∙◌, subst, subst₂}
use mathlib.Core.Logic.{◌≢◌}
use mathlib.Core.List.{List}
use lib.ListN.{length}
use Rattle.sums.specs.Sum.{at}
use Rattle.graph.specs.Lent.{list_of}
use Rattle.graph.specs.Work.{Only, Zeroed}
use Rattle.graph.specs.Marks.{mark_of}
use Rattle.graph.proofs.Frames.{only_refl, only_trans, only_wider}
use Rattle.visit.specs.Visit.{VisitAsks, VisitAnswers}
use Rattle.visit.specs.Steps.{SeenIn, Met, old, new, ListAsks, ListAnswers}
use Rattle.visit.proofs.Growing.{seen_start, seen_next, seen_done}
use Rattle.visit.proofs.Looking.{new_queue, new_marks, new_only, entries}

-- no mark is set
abbrev pub Unmarked : List ℕ → ℕ → ℕ → Type 0
Unmarked w n base = (y : ℕ) → y < n → mark_of w (base + 2 * n) y ≢ 1

pub unmarked : (n base : ℕ) {w w₁ : List ℕ} → Zeroed (base + 2 * n) (base + 2 * n + n / 32 + 1) w w₁ → Unmarked w₁ n base
unmarked n base {w} {w₁} z y hy h =
    let e : mark_of w₁ (base + 2 * n) y ≡ 0 =
    ap (λ (x : ℕ). x / 2 ^ (y % 32) % 2) (z.zero (base + 2 * n + y / 32) (omega arith) (omega arith)) ∙ ap (λ (x : ℕ). x % 2) (zero-div (2 ^ (y % 32))) in
    omega arith

-- i positions were looked through, of the t that are met
pub record Going (os ts : List ℕ) (n base root : ℕ) (w₀ w : List ℕ) (i t : ℕ) : Type 0 where
  pub seen : SeenIn os ts n base root w i 0 t
  pub only : Only base (base + 3 * n) w₀ w

module _ (os ts : List ℕ) (n base root : ℕ) (w : List ℕ) (a : VisitAsks os ts n base root w) where
  -- work with the root met
  met_only : {w₁ w₂ : List ℕ} {t : ℕ} → Zeroed (base + 2 * n) (base + 2 * n + n / 32 + 1) w w₁ → Met n base root 0 0 w₁ w₂ t → Only base (base + 3 * n) w₁ w₂
  met_only {w₁} {w₂} {t} z (old mk same r) = subst (Only base (base + 3 * n) w₁) (sym same) (only_refl base (base + 3 * n) w₁)
  met_only {w₁} {w₂} {t} z (new v fresh M same r) =
      subst (Only base (base + 3 * n) w₁) (sym same)
      (new_only n base root 0 0 w₁ v (omega (arith, a.room, z.only.same_length)) a.root_below (omega (arith, a.root_below)) M)

  pub root_only : {w₁ w₂ : List ℕ} {t : ℕ} → Zeroed (base + 2 * n) (base + 2 * n + n / 32 + 1) w w₁ → Met n base root 0 0 w₁ w₂ t → Only base (base + 3 * n) w w₂
  root_only z m = only_trans (only_wider (omega arith) (omega (arith, a.root_below)) z.only) (met_only z m)

  pub root_seen : {w₁ w₂ : List ℕ} {t : ℕ} → Zeroed (base + 2 * n) (base + 2 * n + n / 32 + 1) w w₁ → Met n base root 0 0 w₁ w₂ t → SeenIn os ts n base root w₂ 0 0 t
  root_seen {w₁} {w₂} {t} z (old mk same r) = absurd (unmarked n base z root a.root_below mk)
  root_seen {w₁} {w₂} {t} z (new v fresh M same r) =
      let room : base + 3 * n ≤ length w₁ = omega (arith, a.room, z.only.same_length) in
      let hn : 0 < n = omega (arith, a.root_below) in
      subst₂ (λ (x : List ℕ) (s : ℕ). SeenIn os ts n base root x 0 0 s) (sym same) (sym r)
      (record {
        place = λ j. 0;
        seen = seen_start (list_of os ts) a.root_below (new_queue n base root 0 0 w₁ v room a.root_below hn M).here
            (new_marks n base root 0 0 w₁ v room a.root_below hn M root ∙ M.marked)
            (λ y hy ne h. unmarked n base z y hy (sym (M.others y ne) ∙ sym (new_marks n base root 0 0 w₁ v room a.root_below hn M y) ∙ h));
      })

  module _ (w₀ : List ℕ) (fits : length w₀ ≡ length w) where
    -- the list of the next position can be looked through
    pub going_asks : {v : List ℕ} {i t : ℕ} → Going os ts n base root w₀ v i t → i < t → ListAsks os ts n base i t v
    going_asks {v} {i} {t} g hi =
        let first : root ≡ at v base = sym (ap (at v) (let e : base ≡ base + 0 = omega arith in e) ∙ g.seen.seen.start) in
        record {
          size = a.size;
          small = a.small;
          offsets = a.offsets;
          targets = a.targets;
          room = omega (arith, a.room, g.only.same_length);
          inside = hi;
          seen = subst (λ (r : ℕ). SeenIn os ts n base r v i 0 t) first g.seen;
        }

    pub going_more : {v v' : List ℕ} {i t t' : ℕ} → Going os ts n base root w₀ v i t → ListAnswers os ts n base i v v' t' → Going os ts n base root w₀ v' (i + 1) t'
    going_more {v} {v'} {i} {t} {t'} g b =
        let first : at v base ≡ root = ap (at v) (let e : base ≡ base + 0 = omega arith in e) ∙ g.seen.seen.start in
        record {
          seen = subst (λ (r : ℕ). SeenIn os ts n base r v' (i + 1) 0 t') first
              (record { place = b.seen.place; seen = seen_next b.seen.seen b.inside (ap (λ (u : ℕ). length (list_of os ts u)) (sym b.kept)) });
          only = only_trans g.only b.only;
        }

    pub going_done : {v : List ℕ} {i t : ℕ} → Only base (base + 3 * n) w w₀ → Going os ts n base root w₀ v i t → i ≡ t → VisitAnswers os ts n base root w v t
    going_done o g e =
        record {
          place = g.seen.place;
          visited = seen_done g.seen.seen e (λ j c hj hc. entries os ts n a.size a.offsets a.targets _ c (g.seen.seen.below j hj) hc);
          only = only_trans o g.only;
        }

-- New starts in work: the neighbours of a centroid that are not removed, one behind the other.
use Prim.Native.Nat.{ℕ, suc, ◌+◌, ◌≤◌, ◌<◌}
use native.Mathlib.Omega.{arith}
use native.Mathlib.Numerals.{add-one}
use mathlib.Core.Path.{◌≡◌, sym, ap, ◌∙◌, subst, subst₂}
use mathlib.Core.Logic.{◌≢◌}
use mathlib.Core.Bool.{Bool, true, false}
use mathlib.Core.List.{List, ◌∷◌}
use lib.ListN.{length, drop, set, length-set}
use lib.Seq.{drop-cons}
use Rattle.sums.specs.Sum.{at}
use Rattle.sums.proofs.Sums.{up_to}
use Rattle.graph.specs.Lent.{list_of}
use Rattle.graph.specs.Work.{Only}
use Rattle.graph.proofs.Frames.{only_trans, only_set, at_set_same, at_set_other}
use Rattle.graph.proofs.Neighbours.{entry-below}
use Rattle.paths.specs.Lists.{keep}
use Rattle.paths.proofs.Kept.{keep_true, keep_false}
use Rattle.centroid.specs.Regions.{start_at, parent_at, level_at, removed_from, regions_end}
use Rattle.centroid.specs.Search.{live}
use Rattle.centroid.specs.Parting.{left_of, StartAsks, waiting, Started, gone, new, AddAsks}
use Rattle.centroid.proofs.Living.{live_kept}

-- what a new start changes in work
module _ (n x c l t : ℕ) (w : List ℕ) (room : regions_end n ≤ length w) (ht : t < n) where
  waiting_other : (j : ℕ) → j ≢ start_at n t → j ≢ parent_at n t → j ≢ level_at n t → at (waiting n x c l t w) j ≡ at w j
  waiting_other j p q r =
      at_set_other (set (set w (start_at n t) x) (parent_at n t) c) (level_at n t) l j r
      ∙ at_set_other (set w (start_at n t) x) (parent_at n t) c j q
      ∙ at_set_other w (start_at n t) x j p

  waiting_only : Only 0 (removed_from n) w (waiting n x c l t w)
  waiting_only =
      only_trans (only_set w (start_at n t) x (omega arith) (omega arith))
      (only_trans (only_set (set w (start_at n t) x) (parent_at n t) c (omega arith) (omega arith))
      (only_set (set (set w (start_at n t) x) (parent_at n t) c) (level_at n t) l (omega arith) (omega arith)))

  waiting_start : at (waiting n x c l t w) (start_at n t) ≡ x
  waiting_start =
      at_set_other (set (set w (start_at n t) x) (parent_at n t) c) (level_at n t) l (start_at n t) (omega arith)
      ∙ at_set_other (set w (start_at n t) x) (parent_at n t) c (start_at n t) (omega arith)
      ∙ at_set_same w (start_at n t) x (omega arith)

  waiting_parent : at (waiting n x c l t w) (parent_at n t) ≡ c
  waiting_parent =
      at_set_other (set (set w (start_at n t) x) (parent_at n t) c) (level_at n t) l (parent_at n t) (omega arith)
      ∙ at_set_same (set w (start_at n t) x) (parent_at n t) c (omega (arith, length-set w (start_at n t) x))

  waiting_level : at (waiting n x c l t w) (level_at n t) ≡ l
  waiting_level =
      at_set_same (set (set w (start_at n t) x) (parent_at n t) c) (level_at n t) l
      (omega (arith, length-set w (start_at n t) x, length-set (set w (start_at n t) x) (parent_at n t) c))

-- of the list K of new starts the first are in work, up to position m, and R is the rest
pub record Adding (n c l t : ℕ) (K : List ℕ) (w₀ w : List ℕ) (R : List ℕ) (m : ℕ) : Type 0 where
  pub total : m + length R ≡ t + length K
  pub rest : (i j : ℕ) → j < length R → t + i ≡ m + j → at K i ≡ at R j
  pub starts : (i : ℕ) → t + i < m → at w (start_at n (t + i)) ≡ at K i
  pub parents : (i : ℕ) → t + i < m → at w (parent_at n (t + i)) ≡ c
  pub levels : (i : ℕ) → t + i < m → at w (level_at n (t + i)) ≡ l
  pub old_starts : (j : ℕ) → j < t → at w (start_at n j) ≡ at w₀ (start_at n j)
  pub old_parents : (j : ℕ) → j < t → at w (parent_at n j) ≡ at w₀ (parent_at n j)
  pub old_levels : (j : ℕ) → j < t → at w (level_at n j) ≡ at w₀ (level_at n j)
  pub least : t ≤ m
  pub only : Only 0 (removed_from n) w₀ w

-- the next of the rest
adding-one : {n c l t : ℕ} {K w₀ w : List ℕ} {x : ℕ} {R : List ℕ} {m : ℕ} → Adding n c l t K w₀ w (x ∷ R) m → regions_end n ≤ length w → m < n
    → Adding n c l t K w₀ (waiting n x c l m w) R (m + 1)
adding-one {n} {c} {l} {t} {K} {w₀} {w} {x} {R} {m} A room hm =
    let w' : List ℕ = waiting n x c l m w in
    let least = A.least in
    record {
      total = (let e = A.total in omega arith);
      rest = λ i j h e. A.rest i (suc j) (omega arith) (omega arith);
      starts = λ i h. up_to (t + i) m h
          (λ lt. waiting_other n x c l m w room hm (start_at n (t + i)) (omega arith) (omega arith) (omega arith) ∙ A.starts i lt)
          (λ e. ap (λ (j : ℕ). at w' (start_at n j)) e ∙ waiting_start n x c l m w room hm ∙ sym (A.rest i 0 (omega arith) (omega arith)));
      parents = λ i h. up_to (t + i) m h
          (λ lt. waiting_other n x c l m w room hm (parent_at n (t + i)) (omega arith) (omega arith) (omega arith) ∙ A.parents i lt)
          (λ e. ap (λ (j : ℕ). at w' (parent_at n j)) e ∙ waiting_parent n x c l m w room hm);
      levels = λ i h. up_to (t + i) m h
          (λ lt. waiting_other n x c l m w room hm (level_at n (t + i)) (omega arith) (omega arith) (omega arith) ∙ A.levels i lt)
          (λ e. ap (λ (j : ℕ). at w' (level_at n j)) e ∙ waiting_level n x c l m w room hm);
      old_starts = λ j h. waiting_other n x c l m w room hm (start_at n j) (omega arith) (omega arith) (omega arith) ∙ A.old_starts j h;
      old_parents = λ j h. waiting_other n x c l m w room hm (parent_at n j) (omega arith) (omega arith) (omega arith) ∙ A.old_parents j h;
      old_levels = λ j h. waiting_other n x c l m w room hm (level_at n j) (omega arith) (omega arith) (omega arith) ∙ A.old_levels j h;
      least = omega arith;
      only = only_trans A.only (waiting_only n x c l m w room hm);
    }

-- the rest of a list behind its entry k
pub rest_gone : (g : ℕ → Bool) (l : List ℕ) (k : ℕ) → k < length l → g (at l k) ≡ false → keep g (drop k l) ≡ keep g (drop (k + 1) l)
rest_gone g l k h e = ap (keep g) (drop-cons l k 0 h) ∙ keep_false g (at l k) (drop (suc k) l) e ∙ ap (λ (i : ℕ). keep g (drop i l)) (sym (add-one k))

pub rest_new : (g : ℕ → Bool) (l : List ℕ) (k : ℕ) → k < length l → g (at l k) ≡ true → keep g (drop k l) ≡ at l k ∷ keep g (drop (k + 1) l)
rest_new g l k h e = ap (keep g) (drop-cons l k 0 h) ∙ keep_true g (at l k) (drop (suc k) l) e ∙ ap (λ (i : ℕ). at l k ∷ keep g (drop i l)) (sym (add-one k))

-- of the list of c the first k entries were looked at, and m starts are in work; w₀ is work at the start
abbrev pub Loop : (os ts : List ℕ) (n c v t : ℕ) (w₀ w : List ℕ) (k m : ℕ) → Type 0
Loop os ts n c v t w₀ w k m = Adding n c v t (left_of os ts n c w₀) w₀ w (keep (live w₀ n) (drop k (list_of os ts c))) m

module _ {os ts : List ℕ} {n c t : ℕ} {w₀ : List ℕ} (a : AddAsks os ts n c t w₀) {v : ℕ} {w : List ℕ} {k m : ℕ} (A : Loop os ts n c v t w₀ w k m) where
  module _ (hk : k < length (list_of os ts c)) where
    same_live : live w n ≡ live w₀ n
    same_live = live_kept n w₀ w (λ i p q. A.only.after i p)

    was_live : {b : Bool} → live w n (at (list_of os ts c) k) ≡ b → live w₀ n (at (list_of os ts c) k) ≡ b
    was_live e = ap (λ (f : ℕ → Bool). f (at (list_of os ts c) k)) (sym same_live) ∙ e

    has_room : live w n (at (list_of os ts c) k) ≡ true → m < n
    has_room e = omega (arith, ap length (rest_new (live w₀ n) (list_of os ts c) k hk (was_live e)), A.total, a.fits)

    entry_asks : StartAsks n (at (list_of os ts c) k) c m w
    entry_asks =
        record {
          small = a.tree.small;
          vertex = omega (arith, a.tree.size, entry-below os ts a.tree.offsets a.tree.targets c k (omega (arith, a.tree.size, a.vertex)) hk);
          centroid = a.vertex;
          fresh = has_room;
          room = omega (arith, a.room, A.only.same_length);
        }

    entry_more : {w' : List ℕ} {m' : ℕ} → Started n (at (list_of os ts c) k) c v m w w' m' → Loop os ts n c v t w₀ w' (k + 1) m'
    entry_more {w'} {m'} (gone e same r) =
        subst₂ (λ (x : List ℕ) (y : ℕ). Loop os ts n c v t w₀ x (k + 1) y) (sym same) (sym r)
        (subst (λ (R : List ℕ). Adding n c v t (left_of os ts n c w₀) w₀ w R m) (rest_gone (live w₀ n) (list_of os ts c) k hk (was_live e)) A)
    entry_more {w'} {m'} (new e same r) =
        subst₂ (λ (x : List ℕ) (y : ℕ). Loop os ts n c v t w₀ x (k + 1) y) (sym same) (sym r)
        (adding-one
        (subst (λ (R : List ℕ). Adding n c v t (left_of os ts n c w₀) w₀ w R m) (rest_new (live w₀ n) (list_of os ts c) k hk (was_live e)) A)
        (omega (arith, a.room, A.only.same_length)) (has_room e))

  -- the same over the list l as the code holds it
  module _ {l : List ℕ} (e : l ≡ list_of os ts c) (hk : k < length l) where
    -- the next entry may become a start
    pub loop_asks : StartAsks n (at l k) c m w
    loop_asks = subst (λ (y : List ℕ). k < length y → StartAsks n (at y k) c m w) (sym e) entry_asks hk

    -- one entry more
    pub loop_more : {w' : List ℕ} {m' : ℕ} → Started n (at l k) c v m w w' m' → Loop os ts n c v t w₀ w' (k + 1) m'
    loop_more {w'} {m'} = subst (λ (y : List ℕ). k < length y → Started n (at y k) c v m w w' m' → Loop os ts n c v t w₀ w' (k + 1) m') (sym e) (λ h. entry_more h) hk

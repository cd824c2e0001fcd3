-- A visit in work: looking through the list of one position, and from position to position.
use Prim.Native.Nat.{ℕ, ◌+◌, ◌*◌, ◌≤◌, ◌<◌, ◌/◌, ◌%◌, ◌^◌}
use native.Mathlib.Omega.{arith}
use mathlib.Core.Path.{◌≡◌, sym, ap, ◌∙◌, subst, subst₂}
use mathlib.Core.Logic.{◌≢◌}
use mathlib.Core.List.{List}
use lib.ListN.{length, set, length-set}
use Rattle.sums.specs.Sum.{at}
use Rattle.graph.specs.Lent.{vertices, list_of, Offsets, Targets}
use Rattle.graph.specs.Work.{Only, Put}
use Rattle.graph.specs.Marks.{mark_of, Marks}
use Rattle.graph.proofs.Frames.{only_trans, at_set_same, at_set_other}
use Rattle.graph.proofs.Neighbours.{entry-below}
use Rattle.visit.specs.Visit.{queue_in, up_in}
use Rattle.visit.specs.Steps.{SeenIn, Meets, queued, Met, old, new, ListAsks}
use Rattle.visit.proofs.Growing.{upd, put_old, seen_old, seen_new, fresh_room, few}

-- the list of position i is looked through: k of its entries so far, with work w₀ at its start
pub record Looking (os ts : List ℕ) (n base i : ℕ) (w₀ w : List ℕ) (k t : ℕ) : Type 0 where
  pub seen : SeenIn os ts n base (at w₀ base) w i k t
  pub inside : i < t
  pub kept : at w (base + i) ≡ at w₀ (base + i)
  pub only : Only base (base + 3 * n) w₀ w

-- what a new vertex changes in work
module _ (n base x i t : ℕ) (w w₁ : List ℕ) (room : base + 3 * n ≤ length w) (hx : x < n) (ht : t < n) (M : Marks (base + 2 * n) x w w₁) where
  -- entries that are neither of the two stored nor the mark's word
  new_other : (j : ℕ) → j ≢ base + t → j ≢ base + n + t → j ≢ base + 2 * n + x / 32 → at (queued n base x i t w₁) j ≡ at w j
  new_other j a b c = at_set_other (set w₁ (base + t) x) (base + n + t) i j b ∙ at_set_other w₁ (base + t) x j a ∙ M.elsewhere j c

  pub new_queue : Put t t x (queue_in w base) (queue_in (queued n base x i t w₁) base)
  new_queue =
      record {
        there = λ j h d. new_other (base + j) (omega arith) (omega arith) (omega arith);
        here = at_set_other (set w₁ (base + t) x) (base + n + t) i (base + t) (omega arith) ∙ at_set_same w₁ (base + t) x (omega (arith, M.same_length));
      }

  new_up : Put t t i (up_in w n base) (up_in (queued n base x i t w₁) n base)
  new_up =
      record {
        there = λ j h d. new_other (base + n + j) (omega arith) (omega arith) (omega arith);
        here = at_set_same (set w₁ (base + t) x) (base + n + t) i (omega (arith, M.same_length, length-set w₁ (base + t) x));
      }

  -- the two stores are before the marks
  pub new_marks : (y : ℕ) → mark_of (queued n base x i t w₁) (base + 2 * n) y ≡ mark_of w₁ (base + 2 * n) y
  new_marks y =
      ap (λ (z : ℕ). z / 2 ^ (y % 32) % 2)
      (at_set_other (set w₁ (base + t) x) (base + n + t) i (base + 2 * n + y / 32) (omega arith)
      ∙ at_set_other w₁ (base + t) x (base + 2 * n + y / 32) (omega arith))

  pub new_only : Only base (base + 3 * n) w (queued n base x i t w₁)
  new_only =
      record {
        same_length = length-set (set w₁ (base + t) x) (base + n + t) i ∙ length-set w₁ (base + t) x ∙ M.same_length;
        before = λ j h. new_other j (omega arith) (omega arith) (omega arith);
        after = λ j h. new_other j (omega arith) (omega arith) (omega arith);
      }

-- a graph of n vertices with sound offsets and targets
module _ (os ts : List ℕ) (n : ℕ) (size : n ≡ vertices os) (O : Offsets os ts) (T : Targets os ts) where
  -- the entries of a vertex's list are vertices
  pub entries : (u c : ℕ) → u < n → c < length (list_of os ts u) → at (list_of os ts u) c < n
  entries u c hu hc = (let h = entry-below os ts O T u c (omega arith) hc in omega arith)

  module _ (base i : ℕ) (w₀ : List ℕ) (room : base + 3 * n ≤ length w₀) where
    -- the vertex of an entry that is looked at
    looked-below : {w : List ℕ} {k t : ℕ} → Looking os ts n base i w₀ w k t → k < length (list_of os ts (at w₀ (base + i))) → at (list_of os ts (at w₀ (base + i))) k < n
    looked-below {w} {k} {t} L hk =
        entries (at w₀ (base + i)) k (let h = L.seen.seen.below i L.inside in let e = L.kept in omega arith) hk

    pub looking_asks : n < 2 ^ 32 → {w : List ℕ} {k t : ℕ} → Looking os ts n base i w₀ w k t → k < length (list_of os ts (at w₀ (base + i)))
        → Meets n base (at (list_of os ts (at w₀ (base + i))) k) i t w
    looking_asks small {w} {k} {t} L hk =
        record {
          small = small;
          vertex = looked-below L hk;
          position = (let h = L.inside in let f = few L.seen.seen in omega arith);
          fresh = fresh_room L.seen.seen (at (list_of os ts (at w₀ (base + i))) k) (looked-below L hk);
          room = omega (arith, L.only.same_length);
        }

    -- an entry that was met before
    more_old : {w : List ℕ} {k t : ℕ} → Looking os ts n base i w₀ w k t → k < length (list_of os ts (at w₀ (base + i)))
        → mark_of w (base + 2 * n) (at (list_of os ts (at w₀ (base + i))) k) ≡ 1 → Looking os ts n base i w₀ w (k + 1) t
    more_old {w} {k} {t} L hk mk =
        let e : at w₀ (base + i) ≡ at w (base + i) = sym L.kept in
        record {
          seen = record {
            place = L.seen.place;
            seen = seen_old L.seen.seen L.inside
                (subst (λ (y : ℕ). k < length (list_of os ts y)) e hk)
                (subst (λ (y : ℕ). mark_of w (base + 2 * n) (at (list_of os ts y) k) ≡ 1) e mk);
          };
          inside = L.inside;
          kept = L.kept;
          only = L.only;
        }

    -- a new one
    more_new : {w w₁ : List ℕ} {k t : ℕ} → Looking os ts n base i w₀ w k t → k < length (list_of os ts (at w₀ (base + i)))
        → mark_of w (base + 2 * n) (at (list_of os ts (at w₀ (base + i))) k) ≢ 1 → Marks (base + 2 * n) (at (list_of os ts (at w₀ (base + i))) k) w w₁
        → Looking os ts n base i w₀ (queued n base (at (list_of os ts (at w₀ (base + i))) k) i t w₁) (k + 1) (t + 1)
    more_new {w} {w₁} {k} {t} L hk fresh M =
        let x : ℕ = at (list_of os ts (at w₀ (base + i))) k in
        let e : at w₀ (base + i) ≡ at w (base + i) = sym L.kept in
        let hx : x < n = looked-below L hk in
        let ht : t < n = fresh_room L.seen.seen x hx fresh in
        let room' : base + 3 * n ≤ length w = omega (arith, L.only.same_length) in
        let inside = L.inside in
        record {
          seen = record {
            place = upd L.seen.place t k;
            seen = seen_new L.seen.seen (new_queue n base x i t w w₁ room' hx ht M) (new_up n base x i t w w₁ room' hx ht M)
                (new_marks n base x i t w w₁ room' hx ht M x ∙ M.marked)
                (λ y ne. new_marks n base x i t w w₁ room' hx ht M y ∙ M.others y ne)
                L.inside
                (subst (λ (y : ℕ). k < length (list_of os ts y)) e hk)
                (ap (λ (y : ℕ). at (list_of os ts y) k) L.kept)
                hx fresh;
          };
          inside = omega arith;
          kept = put_old (new_queue n base x i t w w₁ room' hx ht M) i L.inside ∙ L.kept;
          only = only_trans L.only (new_only n base x i t w w₁ room' hx ht M);
        }

    -- one entry more
    pub looking_more : {w w' : List ℕ} {k t t' : ℕ} → Looking os ts n base i w₀ w k t → k < length (list_of os ts (at w₀ (base + i)))
        → Met n base (at (list_of os ts (at w₀ (base + i))) k) i t w w' t' → Looking os ts n base i w₀ w' (k + 1) t'
    looking_more {w} {w'} {k} {t} {t'} L hk (old mk same r) =
        subst₂ (λ (v : List ℕ) (s : ℕ). Looking os ts n base i w₀ v (k + 1) s) (sym same) (sym r) (more_old L hk mk)
    looking_more {w} {w'} {k} {t} {t'} L hk (new w₁ fresh M same r) =
        subst₂ (λ (v : List ℕ) (s : ℕ). Looking os ts n base i w₀ v (k + 1) s) (sym same) (sym r) (more_new L hk fresh M)

-- the same over the list l as the code holds it
module _ (os ts : List ℕ) (n base i t₀ : ℕ) (w₀ l : List ℕ) (a : ListAsks os ts n base i t₀ w₀) (e : l ≡ list_of os ts (at w₀ (base + i))) where
  pub list_asks : {w : List ℕ} {k t : ℕ} → Looking os ts n base i w₀ w k t → k < length l → Meets n base (at l k) i t w
  list_asks {w} {k} {t} =
      subst (λ (m : List ℕ). Looking os ts n base i w₀ w k t → k < length m → Meets n base (at m k) i t w) (sym e)
      (looking_asks os ts n a.size a.offsets a.targets base i w₀ a.room a.small)

  pub list_more : {w w' : List ℕ} {k t t' : ℕ} → Looking os ts n base i w₀ w k t → k < length l → Met n base (at l k) i t w w' t' → Looking os ts n base i w₀ w' (k + 1) t'
  list_more {w} {w'} {k} {t} {t'} =
      subst (λ (m : List ℕ). Looking os ts n base i w₀ w k t → k < length m → Met n base (at m k) i t w w' t' → Looking os ts n base i w₀ w' (k + 1) t') (sym e)
      (looking_more os ts n a.size a.offsets a.targets base i w₀ a.room)

-- Sizes handed back along the positions: what is left of them, weighed by "hangs below j", stays the size of j until its turn comes.
use Prim.Native.Nat.{ℕ, suc, ◌+◌, ◌*◌, ◌-◌, ◌≤◌, ◌<◌}
use native.Mathlib.Omega.{arith}
use mathlib.Core.Path.{◌≡◌, refl, sym, ap, ◌∙◌, subst}
use mathlib.Core.Logic.{◌≢◌}
use mathlib.Core.Bool.{Bool, true, false}
use mathlib.Core.List.{List}
use lib.ListN.{set}
use Rattle.sums.specs.Sum.{at, tally, sum, how_many}
use Rattle.sums.proofs.Sums.{equal_or_not, sum_ext, sum_ones, sum_none, sum_term, sum_change}
use Rattle.graph.specs.Work.{Only}
use Rattle.graph.proofs.Frames.{only_refl, only_trans, only_wider, only_set, at_set_same, at_set_other}
use Rattle.centroid.specs.Regions.{queue_at, from_at, sizes_from, size_at, regions_end}
use Rattle.centroid.specs.Search.{PickAsks, Hangs, Picked}

-- a size where the test passes, else 0
pub weighed : (ℕ → Bool) → (ℕ → ℕ) → ℕ → ℕ
weighed b size i = elim (b i) [ true ↦ size i | false ↦ 0 ]

weighed_in : (b : ℕ → Bool) (size : ℕ → ℕ) (i : ℕ) → b i ≡ true → weighed b size i ≡ size i
unfolding weighed
weighed_in b size i e = rw (e, weighed) refl

weighed_out : (b : ℕ → Bool) (size : ℕ → ℕ) (i : ℕ) → b i ≡ false → weighed b size i ≡ 0
unfolding weighed
weighed_out b size i e = rw (e, weighed) refl

weighed-one : (b : ℕ → Bool) (size : ℕ → ℕ) (i : ℕ) → size i ≡ 1 → weighed b size i ≡ tally (b i)
weighed-one b size i e = go (b i) refl
  where
    go : (c : Bool) → b i ≡ c → weighed b size i ≡ tally c
    go true f = weighed_in b size i f ∙ e
    go false f = weighed_out b size i f

weighed_same : (b : ℕ → Bool) (size size' : ℕ → ℕ) (i : ℕ) → size' i ≡ size i → weighed b size' i ≡ weighed b size i
weighed_same b size size' i e = go (b i) refl
  where
    go : (c : Bool) → b i ≡ c → weighed b size' i ≡ weighed b size i
    go true f = weighed_in b size' i f ∙ e ∙ sym (weighed_in b size i f)
    go false f = weighed_out b size' i f ∙ sym (weighed_out b size i f)

-- the size at k goes to f, where the test says the same of both
weighed_moved : (b : ℕ → Bool) (size size' : ℕ → ℕ) (k f : ℕ) → b k ≡ b f → size' f ≡ size f + size k → weighed b size' f ≡ weighed b size f + weighed b size k
weighed_moved b size size' k f same e = go (b f) refl
  where
    go : (c : Bool) → b f ≡ c → weighed b size' f ≡ weighed b size f + weighed b size k
    go true g = (let x = weighed_in b size' f g in let y = weighed_in b size f g in let z = weighed_in b size k (same ∙ g) in omega arith)
    go false g = (let x = weighed_out b size' f g in let y = weighed_out b size f g in let z = weighed_out b size k (same ∙ g) in omega arith)

-- the positions from k on have handed their sizes back, and none of them is heavy
pub record Handing (n t : ℕ) (w₀ w : List ℕ) (k : ℕ) : Type 0 where
  pub within : k ≤ t
  pub whole : sum k (λ i. at w (size_at n i)) ≡ t
  pub parts : (on : ℕ → ℕ → Bool) → Hangs t (λ j. at w₀ (from_at n j)) on → (j : ℕ) → j < k → sum k (weighed (on j) (λ i. at w (size_at n i))) ≡ how_many t (on j)
  pub light : (on : ℕ → ℕ → Bool) → Hangs t (λ j. at w₀ (from_at n j)) on → (l : ℕ) → k ≤ l → l < t → 2 * how_many t (on l) ≤ t
  pub only : Only (sizes_from n) (regions_end n) w₀ w

-- no size was handed back
pub handing_start : {n t : ℕ} {w : List ℕ} → PickAsks n t w → Handing n t w w t
handing_start {n} {t} {w} a =
    record {
      within = omega arith;
      whole = sum_ext t (λ i. at w (size_at n i)) (λ i. 1) a.ones ∙ sum_ones t;
      parts = λ on h j hj. sum_ext t (weighed (on j) (λ i. at w (size_at n i))) (λ i. tally (on j i)) (λ i hi. weighed-one (on j) (λ l. at w (size_at n l)) i (a.ones i hi));
      light = λ on h l a b. absurd (omega arith);
      only = only_refl (sizes_from n) (regions_end n) w;
    }

module _ (n t : ℕ) (w₀ : List ℕ) (a : PickAsks n t w₀) where
  -- where the vertices and the positions stand, nothing changed
  kept : {w : List ℕ} {k : ℕ} → Handing n t w₀ w k → (i : ℕ) → i < sizes_from n → at w i ≡ at w₀ i
  kept H i h = H.only.before i h

  module _ (k : ℕ) (w : List ℕ) (H : Handing n t w₀ w (suc k)) where
    inside : k < t
    inside = (let h = H.within in omega arith)

    few : t ≤ n
    few = a.few

    -- the size at the last position that is left is its own
    size_at_lem : (on : ℕ → ℕ → Bool) → Hangs t (λ j. at w₀ (from_at n j)) on → at w (size_at n k) ≡ how_many t (on k)
    size_at_lem on h =
        let none : sum k (weighed (on k) (λ i. at w (size_at n i))) ≡ 0
        = sum_none k (weighed (on k) (λ i. at w (size_at n i))) (λ i hi. weighed_out (on k) (λ i. at w (size_at n i)) i (h.before k i inside hi)) in
        let one : weighed (on k) (λ i. at w (size_at n i)) k ≡ at w (size_at n k) = weighed_in (on k) (λ i. at w (size_at n i)) k (h.self k inside) in
        let all = H.parts on h k (omega arith) in
        omega arith

    -- a heavy position
    handing_found : t < 2 * at w (size_at n k) → Picked n t w₀ w (at w (queue_at n k))
    handing_found more =
        let hk = inside in
        let hf = few in
        record {
          place = k;
          inside = hk;
          answer = kept H (queue_at n k) (omega arith);
          heavy = λ on h. record { more = (let e = size_at_lem on h in omega arith); last = λ l x y. H.light on h l x y };
          only = only_wider (omega arith) (omega arith) H.only;
        }

    module _ (less : 2 * at w (size_at n k) ≤ t) where
      -- the first position is heavy
      later : 0 < k
      later = equal_or_not k 0
          (λ e.
          let z : sum 1 (λ i. at w (size_at n i)) ≡ t = subst (λ (x : ℕ). sum (suc x) (λ i. at w (size_at n i)) ≡ t) e H.whole in
          let y : at w (size_at n k) ≡ at w (size_at n 0) = ap (λ (x : ℕ). at w (size_at n x)) e in
          let s = a.some in
          absurd (omega arith))
          (λ ne. omega arith)

      from_kept : at w (from_at n k) ≡ at w₀ (from_at n k)
      from_kept = (let h = inside in let f = few in kept H (from_at n k) (omega arith))

      from_earlier : at w (from_at n k) < k
      from_earlier = (let e = from_kept in let h = a.earlier k later inside in omega arith)

      -- what it hands over fits
      handing_fits : at w (size_at n (at w (from_at n k))) + at w (size_at n k) ≤ t
      handing_fits =
          let s = sum_term k (at w (from_at n k)) (λ i. at w (size_at n i)) from_earlier in
          let e = H.whole in
          omega arith

      -- what the store changes
      here : at (set w (size_at n (at w (from_at n k))) (at w (size_at n (at w (from_at n k))) + at w (size_at n k))) (size_at n (at w (from_at n k))) ≡ at w (size_at n (at w (from_at n k))) + at w (size_at n k)
      here = at_set_same w (size_at n (at w (from_at n k))) _
          (let f = from_earlier in let h = inside in let m = few in let l = H.only.same_length in let r = a.room in omega arith)

      there : (i : ℕ) → i ≢ at w (from_at n k)
          → at (set w (size_at n (at w (from_at n k))) (at w (size_at n (at w (from_at n k))) + at w (size_at n k))) (size_at n i) ≡ at w (size_at n i)
      there i ne = at_set_other w (size_at n (at w (from_at n k))) _ (size_at n i) (λ e. ne (omega arith))

      -- one position more
      handing_more : Handing n t w₀ (set w (size_at n (at w (from_at n k))) (at w (size_at n (at w (from_at n k))) + at w (size_at n k))) k
      handing_more =
          let w' : List ℕ = set w (size_at n (at w (from_at n k))) (at w (size_at n (at w (from_at n k))) + at w (size_at n k)) in
          let f : ℕ = at w (from_at n k) in
          let fk : f < k = from_earlier in
          let hk = inside in
          let hf = few in
          record {
            within = omega arith;
            whole = sum_change k f (at w (size_at n k)) (λ i. at w (size_at n i)) (λ i. at w' (size_at n i)) fk here (λ i hi ne. there i ne) ∙ H.whole;
            parts = λ on h j hj.
                sum_change k f (weighed (on j) (λ i. at w (size_at n i)) k) (weighed (on j) (λ i. at w (size_at n i))) (weighed (on j) (λ i. at w' (size_at n i))) fk
                (weighed_moved (on j) (λ i. at w (size_at n i)) (λ i. at w' (size_at n i)) k f
                (h.up j k (omega arith) later hk (omega arith) ∙ ap (on j) (sym from_kept)) here)
                (λ i hi ne. weighed_same (on j) (λ i. at w (size_at n i)) (λ i. at w' (size_at n i)) i (there i ne))
                ∙ H.parts on h j (omega arith);
            light = λ on h l x y. equal_or_not l k
                (λ e. (let s = size_at_lem on h in let z = ap (λ (i : ℕ). how_many t (on i)) e in omega arith))
                (λ ne. H.light on h l (omega arith) y);
            only = only_trans H.only (only_set w (size_at n f) _ (omega arith) (omega arith));
          }

-- the same as the code counts down
module _ {n t : ℕ} {w₀ : List ℕ} (a : PickAsks n t w₀) {left : ℕ} {w : List ℕ} (H : Handing n t w₀ w left) (some : 0 < left) where
  last : Handing n t w₀ w (suc (left - 1))
  last = subst (Handing n t w₀ w) (let e : left ≡ suc (left - 1) = omega arith in e) H

  -- it is heavy
  pub down_found : t < 2 * at w (size_at n (left - 1)) → Picked n t w₀ w (at w (queue_at n (left - 1)))
  down_found = handing_found n t w₀ a (left - 1) w last

  -- it is not heavy: it was met from one of n
  pub down-from : 2 * at w (size_at n (left - 1)) ≤ t → at w (from_at n (left - 1)) < n
  down-from less = omega (arith, from_earlier n t w₀ a (left - 1) w last less, H.within, a.few)

  -- the two sizes together are at most all
  pub down_fits : 2 * at w (size_at n (left - 1)) ≤ t → at w (size_at n (at w (from_at n (left - 1)))) + at w (size_at n (left - 1)) ≤ t
  down_fits = handing_fits n t w₀ a (left - 1) w last

  -- its size is handed back
  pub down_more : 2 * at w (size_at n (left - 1)) ≤ t
      → Handing n t w₀ (set w (size_at n (at w (from_at n (left - 1)))) (at w (size_at n (at w (from_at n (left - 1)))) + at w (size_at n (left - 1)))) (left - 1)
  down_more = handing_more n t w₀ a (left - 1) w last

-- Laws of `Only`: what a function may have written.
use Prim.Native.Nat.{ℕ, ◌+◌, ◌-◌, ◌≤◌, ◌<◌}
use native.Mathlib.Omega.{arith}
use mathlib.Core.Path.{◌≡◌, refl, sym, ap, ◌∙◌}
use mathlib.Core.List.{List}
use lib.ListN.{length, set, length-set, drop, replicate, length-append, length-replicate, length-drop, get_or-replicate, get_or-append}
use lib.Seq.{get_or-set_other, get_or-set_same, ext_get_or, get_or-append-add, get_or-drop}
use mathlib.Core.Logic.{◌≢◌, by_cases}
use native.Mathlib.Decide.{dec_lt}
use Rattle.sums.specs.Sum.{at}
use Rattle.graph.specs.Work.{Only, Zeroed}
use Rattle.graph.specs.Validation.{cleared}

pub only_refl : (a e : ℕ) (w : List ℕ) → Only a e w w
only_refl a e w = record { same_length = refl; before = λ i h. refl; after = λ i h. refl }

pub only_trans : {a e : ℕ} {w w' w'' : List ℕ} → Only a e w w' → Only a e w' w'' → Only a e w w''
only_trans p q =
    record {
      same_length = q.same_length ∙ p.same_length;
      before = λ i h. q.before i h ∙ p.before i h;
      after = λ i h. q.after i h ∙ p.after i h;
    }

-- a smaller part is a part
pub only_wider : {a e a' e' : ℕ} {w w' : List ℕ} → a' ≤ a → e ≤ e' → Only a e w w' → Only a' e' w w'
only_wider ha he p =
    record {
      same_length = p.same_length;
      before = λ i h. p.before i (omega arith);
      after = λ i h. p.after i (omega arith);
    }

pub only_set : {a e : ℕ} (w : List ℕ) (i x : ℕ) → a ≤ i → i < e → Only a e w (set w i x)
only_set w i x ha he =
    record {
      same_length = length-set w i x;
      before = λ j h. get_or-set_other w i j x 0 (omega arith);
      after = λ j h. get_or-set_other w i j x 0 (omega arith);
    }

-- the entry that was stored, and any other
pub at_set_same : (w : List ℕ) (i x : ℕ) → i < length w → at (set w i x) i ≡ x
at_set_same w i x h = get_or-set_same w i x 0 h

pub at_set_other : (w : List ℕ) (i x j : ℕ) → j ≢ i → at (set w i x) j ≡ at w j
at_set_other w i x j h = get_or-set_other w i j x 0 h

-- whatever stood in the first k entries, zeroing them leaves the others of the work before
pub zeroed-cleared : {k : ℕ} {w w₁ w₂ : List ℕ} → k ≤ length w → Only 0 k w w₁ → Zeroed 0 k w₁ w₂ → w₂ ≡ cleared k w
zeroed-cleared {k} {w} {w₁} {w₂} room o z =
    let long = z.only.same_length ∙ o.same_length in
    let parts = length-append (replicate k 0) (drop k w) in
    let z0 : ℕ = 0 in
    let front : length (replicate k z0) ≡ k = length-replicate k z0 in
    let back = length-drop k w in
    ext_get_or 0 w₂ (cleared k w) (omega arith)
    (λ i h. by_cases (dec_lt i k)
    (λ lt. z.zero i (omega arith) lt ∙ sym (get_or-append (replicate k 0) (drop k w) 0 i (omega arith) ∙ get_or-replicate k i 0 0 lt))
    (λ ge.
    let d : ℕ = i - k in
    let e : k + d ≡ i = omega arith in
    z.only.after i (omega arith) ∙ o.after i (omega arith)
    ∙ sym (ap (λ (j : ℕ). at (cleared k w) j) (sym e)
    ∙ ap (λ (j : ℕ). at (cleared k w) (j + d)) (sym front)
    ∙ get_or-append-add (replicate k 0) (drop k w) d 0
    ∙ get_or-drop k w d 0
    ∙ ap (at w) e)))

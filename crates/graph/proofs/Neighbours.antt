-- Laws of the list of a vertex, and of picking by a test.
use Prim.Native.Nat.{ℕ, zero, suc, ◌+◌, ◌-◌, ◌≤◌, ◌<◌}
use native.Mathlib.Omega.{arith}
use mathlib.Core.Path.{◌≡◌, refl, sym, ap, ◌∙◌}
use mathlib.Core.Bool.{Bool, true, false}
use mathlib.Core.List.{List, [], ◌∷◌}
use lib.Dec.{ltb, leb}
use lib.ListN.{length, take, drop}
use lib.Seq.{slice, take-nil, length-slice, get_or-drop, get_or-take}
use borrow.Author.Tests.{lt-ltb, le-ltb, le-leb, lt-leb}
use mathlib.Core.Logic.{◌⊎◌, inl, inr}
use Rattle.std.specs.Prelude.{Option, Some, None, MatchOption, slice_range}
use Rattle.std.specs.Option.{unwrap_or}
use Rattle.std.specs.Borrow.{Bor}
use Rattle.sums.specs.Sum.{at, sum}
use Rattle.paths.specs.Walk.{Below}
use Rattle.graph.specs.Lent.{vertices, or_empty, list_of, Offsets, Targets}

pub or_empty_false : {b : Bool} (l : List ℕ) → b ≡ false → or_empty b l ≡ []
or_empty_false l e = simp e

pub or_empty_nil : (b : Bool) {l : List ℕ} → l ≡ [] → or_empty b l ≡ []
or_empty_nil true e = e
or_empty_nil false e = refl

pub or_empty_true : {b : Bool} (l : List ℕ) → b ≡ true → or_empty b l ≡ l
or_empty_true l e = simp e

-- a list whose every entry is below n
pub all-below : (n : ℕ) (l : List ℕ) → ((c : ℕ) → c < length l → at l c < n) → Below n l
all-below n [] h = tt
all-below n (x ∷ l) h = (h 0 (omega arith), all-below n l (λ c hc. h (suc c) (omega arith)))

-- a part as the code hands it back
pub part_slice : (a b : ℕ) (l : List ℕ) → a ≤ b → take (b - a) (drop a l) ≡ slice a b l
part_slice zero b l h = ap (λ (k : ℕ). take k l) (let e : b - 0 ≡ b = omega arith in e)
part_slice (suc a) zero l h = absurd (omega arith)
part_slice (suc a) (suc b) [] h = take-nil (suc b - suc a)
part_slice (suc a) (suc b) (x ∷ l) h =
    ap (λ (k : ℕ). take k (drop a l)) (let e : suc b - suc a ≡ b - a = omega arith in e) ∙ part_slice a b l (omega arith)

module _ (os ts : List ℕ) (u : ℕ) where
  -- u + 1 is no index of the offsets
  pub list_out : length os ≤ u + 1 → list_of os ts u ≡ []
  unfolding list_of
  list_out h = or_empty_false _ (le-ltb (u + 1) (length os) h)

  pub list_falls : at os (u + 1) < at os u → list_of os ts u ≡ []
  unfolding list_of
  list_falls h = or_empty_nil (ltb (u + 1) (length os)) (or_empty_false _ (lt-leb (at os u) (at os (u + 1)) h))

  pub list-above : length ts < at os (u + 1) → list_of os ts u ≡ []
  unfolding list_of
  list-above h =
      or_empty_nil (ltb (u + 1) (length os))
      (or_empty_nil (leb (at os u) (at os (u + 1))) (or_empty_false _ (lt-leb (at os (u + 1)) (length ts) h)))

  pub list-slice : u + 1 < length os → at os u ≤ at os (u + 1) → at os (u + 1) ≤ length ts → list_of os ts u ≡ slice (at os u) (at os (u + 1)) ts
  unfolding list_of
  list-slice h r k =
      or_empty_true _ (lt-ltb (u + 1) (length os) h)
      ∙ or_empty_true _ (le-leb (at os u) (at os (u + 1)) r)
      ∙ or_empty_true _ (le-leb (at os (u + 1)) (length ts) k)

  -- what the code gets of the targets
  pub got_list : (part : Option (Bor (List ℕ))) (none : Bor (List ℕ)) → none.now ≡ [] → u + 1 < length os
      → MatchOption part ((at os (u + 1) < at os u) ⊎ (length ts < at os (u + 1)))
      (λ l. (at os u ≤ at os (u + 1)) × (at os (u + 1) ≤ length ts) × (l.now ≡ slice_range ts (at os u) (at os (u + 1)))
      × (length l.now + at os u ≡ at os (u + 1)))
      → (unwrap_or part none).now ≡ list_of os ts u
  got_list None none e h (inl f) = e ∙ sym (list_falls f)
  got_list None none e h (inr f) = e ∙ sym (list-above f)
  got_list (Some l) none e h (rise, fit, is, long) = is ∙ part_slice (at os u) (at os (u + 1)) ts rise ∙ sym (list-slice h rise fit)

-- the lists of a graph whose offsets are sound
module _ (os ts : List ℕ) (O : Offsets os ts) where
  -- offsets rise
  pub offsets_rise : (d u : ℕ) → u + d ≤ vertices os → at os u ≤ at os (u + d)
  offsets_rise zero u h = omega (arith, ap (at os) (let e : u + 0 ≡ u = omega arith in e))
  offsets_rise (suc d) u h =
      let e = ap (at os) (let e : u + suc d ≡ u + d + 1 = omega arith in e) in
      omega (arith, offsets_rise d u (omega arith), O.rise (u + d) (omega arith))

  pub offset_fits : (u : ℕ) → u ≤ vertices os → at os u ≤ length ts
  offset_fits u h =
      let e = ap (at os) (let e : u + (vertices os - u) ≡ vertices os = omega arith in e) in
      omega (arith, offsets_rise (vertices os - u) u (omega arith), O.last)

  -- the list of a vertex is a part of the targets
  pub list-part : (u : ℕ) → u < vertices os → list_of os ts u ≡ slice (at os u) (at os (u + 1)) ts
  list-part u h = list-slice os ts u (omega arith) (O.rise u h) (offset_fits (u + 1) (omega arith))

  pub list_length : (u : ℕ) → u < vertices os → length (list_of os ts u) ≡ at os (u + 1) - at os u
  list_length u h = ap length (list-part u h) ∙ length-slice (at os u) (at os (u + 1)) ts (offset_fits (u + 1) (omega arith))

  pub list_entry : (u c : ℕ) → u < vertices os → c < length (list_of os ts u) → at (list_of os ts u) c ≡ at ts (at os u + c)
  list_entry u c h hc =
      let k = list_length u h in
      ap (λ (l : List ℕ). at l c) (list-part u h)
      ∙ get_or-drop (at os u) (take (at os (u + 1)) ts) c 0
      ∙ get_or-take (at os (u + 1)) ts (at os u + c) 0 (omega arith)

  -- its entries are vertices
  pub entry-below : Targets os ts → (u c : ℕ) → u < vertices os → c < length (list_of os ts u) → at (list_of os ts u) c < vertices os
  entry-below T u c h hc =
      let k = list_length u h in
      let f = offset_fits (u + 1) (omega arith) in
      let t = T (at os u + c) (omega arith) in
      let e = list_entry u c h hc in
      omega arith

  -- all entries below an offset, list by list
  entries_below : (k : ℕ) → k ≤ vertices os → sum k (λ u. length (list_of os ts u)) ≡ at os k
  entries_below zero h = sym O.first
  entries_below (suc k) h =
      let e = ap (at os) (let e : k + 1 ≡ suc k = omega arith in e) in
      omega (arith, entries_below k (omega arith), list_length k (omega arith), O.rise k (omega arith))

  -- the lists together have all targets
  pub entries-all : sum (vertices os) (λ u. length (list_of os ts u)) ≡ length ts
  entries-all = entries_below (vertices os) (omega arith) ∙ O.last

  -- every list holds vertices alone
  pub list-below : Targets os ts → (u : ℕ) → u < vertices os → Below (vertices os) (list_of os ts u)
  list-below T u h = all-below (vertices os) (list_of os ts u) (λ c hc. entry-below T u c h hc)

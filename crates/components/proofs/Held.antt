-- The levels by vertex in work, as a list and entry by entry.
use Prim.Native.Nat.{ℕ, ◌+◌, ◌≤◌, ◌<◌}
use native.Mathlib.Omega.{arith}
use native.Mathlib.Numerals.{add-one}
use mathlib.Core.Path.{◌≡◌, sym, ap, ◌∙◌}
use mathlib.Core.List.{List}
use lib.ListN.{length, drop, length-drop}
use lib.Seq.{ext_get_or, get_or-take, get_or-drop, length-take-le}
use Rattle.sums.specs.Sum.{at, sum}
use Rattle.sums.proofs.Sums.{sum_ext}
use Rattle.graph.specs.Work.{Only}
use Rattle.centroid.specs.Regions.{level_of_from, level_of_at, work_end, regions_end}
use Rattle.components.specs.Levels.{levels_in, total_in}

-- there are n of them
pub levels_long : (n : ℕ) (w : List ℕ) → work_end n ≤ length w → length (levels_in n w) ≡ n
levels_long n w h = length-take-le n (drop (level_of_from n) w) (let e = length-drop (level_of_from n) w in omega arith)

-- the entry of a vertex
pub levels_at : (n : ℕ) (w : List ℕ) (v : ℕ) → v < n → at (levels_in n w) v ≡ at w (level_of_at n v)
levels_at n w v h = get_or-take n (drop (level_of_from n) w) v 0 h ∙ get_or-drop (level_of_from n) w v 0

-- a list with the same entries is this list
pub levels_same : (n : ℕ) (w level : List ℕ) → work_end n ≤ length w → length level ≡ n → ((v : ℕ) → v < n → at w (level_of_at n v) ≡ at level v)
    → level ≡ levels_in n w
levels_same n w level h e f =
    ext_get_or 0 level (levels_in n w) (e ∙ sym (levels_long n w h)) (λ i b. sym (f i (omega arith)) ∙ sym (levels_at n w i (omega arith)))

-- they stay where only what is before them was written
pub levels_kept : (n : ℕ) {a e : ℕ} {w w' : List ℕ} → e ≤ regions_end n → work_end n ≤ length w → Only a e w w' → levels_in n w ≡ levels_in n w'
levels_kept n {w = w} {w' = w'} k h o =
    levels_same n w' (levels_in n w) (let l = o.same_length in omega arith) (levels_long n w h)
    (λ v b. o.after (level_of_at n v) (omega arith) ∙ sym (levels_at n w v b))

-- the sum of level + 1 over them
pub total_levels : (n : ℕ) (w : List ℕ) → total_in n w ≡ sum n (λ v. at (levels_in n w) v + 1)
total_levels n w = sum_ext n (λ v. at w (level_of_at n v) + 1) (λ v. at (levels_in n w) v + 1) (λ v h. ap (λ (x : ℕ). x + 1) (sym (levels_at n w v h)))

-- one term more of a sum
pub sum_next : (f : ℕ → ℕ) (v : ℕ) {total : ℕ} → total ≡ sum v f → total + f v ≡ sum (v + 1) f
sum_next f v e = ap (λ (k : ℕ). k + f v) e ∙ sym (ap (λ (k : ℕ). sum k f) (add-one v))

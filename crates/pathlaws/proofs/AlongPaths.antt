-- The entries of a path: up from the first vertex, and up from the last one by the steps that are left.
use Prim.Native.Nat.{ℕ, zero, suc, ◌+◌, ◌-◌, ◌≤◌, ◌<◌}
use native.Mathlib.Omega.{arith}
use native.Mathlib.Decide.{dec_le}
use mathlib.Core.Path.{◌≡◌, refl, sym, ap, subst, ◌∙◌}
use mathlib.Core.Logic.{inl, inr}
use mathlib.Core.List.{List, [], ◌∷◌, ◌++◌, reverse, reverse-cons}
use lib.ListN.{length, get_or, length-reverse, get_or-append}
use lib.Seq.{get_or-append-add, get_or_at}
use Rattle.paths.specs.Walk.{In}
use Rattle.paths.specs.Rooted.{Rooted, climb}
use Rattle.paths.specs.Route.{ptail, top, On}
use Rattle.paths.proofs.Steps.{on_below}
use Rattle.paths.proofs.Turn.{turn, length_turn}
use Rattle.paths.proofs.Cut.{cut, cut-length}
use Rattle.paths.proofs.Ancestors.{climb-length, climb_entry}
use Rattle.paths.proofs.Top.{top_left, top_right, top_comm, top_cut, top-length}
use Rattle.numbering.proofs.Climbs.{climb_dep}

-- an entry of a list stands in it
entry_in : (l : List ℕ) (i : ℕ) → i < length l → In (get_or l i 0) l
entry_in [] i h = absurd (omega arith)
entry_in (x ∷ l) zero h = inl refl
entry_in (x ∷ l) (suc i) h = inr (entry_in l i (omega arith))

-- the entries of a list reversed, counted from its end
entry-reverse : (l : List ℕ) (i j : ℕ) → i + j + 1 ≡ length l → get_or (reverse l) i 0 ≡ get_or l j 0
entry-reverse [] i j h = absurd (omega arith)
entry-reverse (x ∷ l) i zero h =
    let r = length-reverse l in
    ap (λ (m : List ℕ). get_or m i 0) (reverse-cons x l) ∙ get_or_at (reverse l) x [] 0 i (omega arith)
entry-reverse (x ∷ l) i (suc j) h =
    let r = length-reverse l in
    ap (λ (m : List ℕ). get_or m i 0) (reverse-cons x l)
    ∙ get_or-append (reverse l) (x ∷ []) 0 i (omega arith)
    ∙ entry-reverse l i j (omega arith)

-- the entries of a path are on it
pub entry_on : (par dep : ℕ → ℕ) (k u v : ℕ) → k ≤ length (ptail par dep u v) → On par dep (get_or (u ∷ ptail par dep u v) k 0) u v
entry_on par dep k u v h = entry_in (u ∷ ptail par dep u v) k (omega arith)

module _ {n root : ℕ} {par dep : ℕ → ℕ} (R : Rooted n root par dep) where
  -- read from its other end, a path has the same entries
  pub entry_turn : (i j : ℕ) {u v : ℕ} → u < n → v < n → i + j ≡ length (ptail par dep u v) → get_or (u ∷ ptail par dep u v) i 0 ≡ get_or (v ∷ ptail par dep v u) j 0
  entry_turn i j {u} {v} hu hv h =
      let e = length_turn R hu hv in
      ap (λ (l : List ℕ). get_or l i 0) (sym (turn R hv hu)) ∙ entry-reverse (v ∷ ptail par dep v u) i j (omega arith)

  -- the path's length in two parts: up to the deepest common ancestor, and down from it
  pub up_down-length : {u v : ℕ} → u < n → v < n → length (ptail par dep u v) ≡ dep u - dep (top par dep u v) + (dep v - dep (top par dep u v))
  up_down-length {u} {v} hu hv =
      let l = top-length R hu hv in
      let a = top_left R hu hv in
      let b = top_right R hu hv in
      omega arith

  -- up to the deepest common ancestor, the entries are the vertices above the first
  pub entry_up : (k : ℕ) {u v : ℕ} → u < n → v < n → k + dep (top par dep u v) ≤ dep u → get_or (u ∷ ptail par dep u v) k 0 ≡ climb par k u
  entry_up k {u} {v} hu hv h =
      let a = top_left R hu hv in
      let l = climb-length R a.0 (top par dep u v) hu a.1 a.2 in
      ap (λ (m : List ℕ). get_or (u ∷ m) k 0) (top_cut R hu hv)
      ∙ get_or-append (u ∷ ptail par dep u (top par dep u v)) (ptail par dep (top par dep u v) v) 0 k (omega arith)
      ∙ climb_entry R a.0 k (top par dep u v) hu a.1 a.2 (omega arith)

  -- from there on, they are the vertices above the last, by the steps that are left
  pub entry_down :
      (k j : ℕ) {u v : ℕ} → u < n → v < n → k + j ≡ length (ptail par dep u v) → j + dep (top par dep u v) ≤ dep v
      → get_or (u ∷ ptail par dep u v) k 0 ≡ climb par j v
  entry_down k j {u} {v} hu hv h i =
      let e = ap dep (top_comm R hu hv) in
      entry_turn k j hu hv h ∙ entry_up j hv hu (omega arith)

  -- the path to the k-th entry has k steps
  pub entry_length :
      (k : ℕ) {u v : ℕ} → u < n → v < n → k ≤ length (ptail par dep u v) → length (ptail par dep u (get_or (u ∷ ptail par dep u v) k 0)) ≡ k
  entry_length k {u} {v} hu hv h = elim (dec_le (k + dep (top par dep u v)) (dep u)) [
    | yes i ↦ rw (entry_up k hu hv i) (climb-length R k (climb par k u) hu (climb_dep R k u hu (omega arith)) refl)
    | no q ↦
        let a = top_left R hu hv in
        let b = top_right R hu hv in
        let l = up_down-length hu hv in
        let j : ℕ = length (ptail par dep u v) - k in
        let e = entry_down k j hu hv (omega arith) (omega arith) in
        let i : On par dep (climb par j v) u v = subst (λ (w : ℕ). On par dep w u v) e (entry_on par dep k u v h) in
        let c = cut-length R (climb par j v) hu hv i in
        let s = length_turn R hv (on_below R (climb par j v) hu hv i) in
        let f = climb-length R j (climb par j v) hv (climb_dep R j v hv (omega arith)) refl in
        rw e (omega arith)
  ]

  -- the entries of the path from a vertex on it are those that come behind it
  behind :
      (k j w : ℕ) {u v : ℕ} → u < n → v < n → On par dep w u v → length (ptail par dep u w) ≡ k → get_or (u ∷ ptail par dep u v) k 0 ≡ w
      → get_or (w ∷ ptail par dep w v) j 0 ≡ get_or (u ∷ ptail par dep u v) (k + j) 0
  behind k zero w {u} {v} hu hv h l e = let z : k + zero ≡ k = omega arith in rw z (sym e)
  behind k (suc j) w {u} {v} hu hv h l e =
      let z : length (u ∷ ptail par dep u w) + j ≡ k + suc j = omega arith in
      sym (get_or-append-add (u ∷ ptail par dep u w) (ptail par dep w v) j 0)
      ∙ ap (λ (i : ℕ). get_or (u ∷ (ptail par dep u w ++ ptail par dep w v)) i 0) z
      ∙ ap (λ (m : List ℕ). get_or (u ∷ m) (k + suc j) 0) (sym (cut R w hu hv h))

  -- so k steps and then j along a path are k + j steps
  pub entry_entry :
      (k j : ℕ) {u v : ℕ} → u < n → v < n → k ≤ length (ptail par dep u v)
      → get_or (get_or (u ∷ ptail par dep u v) k 0 ∷ ptail par dep (get_or (u ∷ ptail par dep u v) k 0) v) j 0 ≡ get_or (u ∷ ptail par dep u v) (k + j) 0
  entry_entry k j {u} {v} hu hv h = behind k j (get_or (u ∷ ptail par dep u v) k 0) hu hv (entry_on par dep k u v h) (entry_length k hu hv h) refl

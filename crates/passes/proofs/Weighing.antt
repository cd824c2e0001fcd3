-- Weighing, from the last position down: the sizes of the positions from `left` on are handed on to their parents.
use Prim.Native.Nat.{ℕ, suc, ◌+◌, ◌≤◌, ◌<◌}
use native.Mathlib.Omega.{arith}
use mathlib.Core.Path.{◌≡◌, refl, sym, ap, ◌∙◌, subst}
use mathlib.Core.Logic.{◌≢◌, inl, inr}
use mathlib.Core.List.{List, ◌∷◌}
use Rattle.sums.specs.Sum.{sum}
use Rattle.sums.proofs.Sums.{equal_or_not, sum_ext, sum_ones, sum_term, sum_change}
use Rattle.paths.specs.Walk.{In}
use Rattle.numbering.specs.Numbering.{total}
use Rattle.passes.specs.Passes.{run_from, heavy_of, Weighed}
use Rattle.passes.specs.Inner.{Heavier, HandedOn}
use Rattle.passes.proofs.Runs.{in-run, run_child, run_other, run_end}
use Rattle.passes.proofs.Heavy.{heavy-all, heavy-front, heavy_same, total_same}

-- s i and h i are size and heavy child of i among its children from `left` on; what is still to be handed on adds up to n
pub record Weighing (n : ℕ) (p s h : ℕ → ℕ) (left : ℕ) : Type 0 where
  pub some : 1 ≤ left
  pub in_range : left ≤ n
  pub size : (i : ℕ) → i < n → s i ≡ suc (total s (run_from p n left i))
  pub heavy : (i : ℕ) → i < n → h i ≡ heavy_of s (run_from p n left i)
  pub all : sum left s ≡ n

-- every size is 1, and there is no heavy child
pub weighing_start : {n : ℕ} (p : ℕ → ℕ) {s h : ℕ → ℕ} → 1 ≤ n → ((i : ℕ) → i < n → s i ≡ 1) → ((i : ℕ) → i < n → h i ≡ 0)
    → Weighing n p s h n
weighing_start {n} p {s} {h} some ones none =
    record {
      some = some;
      in_range = omega arith;
      size = λ i b. ones i b ∙ sym (ap (λ (l : List ℕ). suc (total s l)) (run_end p n i));
      heavy = λ i b. none i b ∙ sym (ap (heavy_of s) (run_end p n i));
      all = sum_ext n s (λ i. 1) ones ∙ sum_ones n;
    }

-- all is handed on
pub weighing-done : {n : ℕ} {p s h : ℕ → ℕ} {left : ℕ} → Weighing n p s h left → left ≤ 1 → Weighed n p s h
weighing-done {n} {p} {s} {h} {left} g few =
    let e : left ≡ 1 = omega (arith, g.some) in
    record {
      size = subst (λ (a : ℕ). (i : ℕ) → i < n → s i ≡ suc (total s (run_from p n a i))) e g.size;
      heavy = subst (λ (a : ℕ). (i : ℕ) → i < n → h i ≡ heavy_of s (run_from p n a i)) e g.heavy;
    }

-- position j is in hand
module _ {n : ℕ} {p s h : ℕ → ℕ} (j : ℕ) (g : Weighing n p s h (j + 1)) where
  -- the heavy child so far is a position
  pub best_below : (u : ℕ) → u < n → h u < n
  best_below u b =
      subst (λ (x : ℕ). x < n) (sym (g.heavy u b))
      (heavy-all (λ x. x < n) s (run_from p n (j + 1) u) (omega arith) (λ x i. (in-run p n (j + 1) u g.in_range i).1))

  -- and the new size is at most n
  pub sizes_fit : (u : ℕ) → u < j → s u + s j ≤ n
  sizes_fit u b =
      let e : j + 1 ≡ suc j = omega arith in
      omega (arith, sum_term j u s b, g.all, ap (λ (k : ℕ). sum k s) e)

  module _ {s' h' : ℕ → ℕ} (some : 1 ≤ j) (earlier : p j < j) (d : HandedOn n j (p j) s h s' h') where
    -- the sizes from j on stay
    size_kept : (i x : ℕ) → In x (run_from p n (j + 1) i) → s' x ≡ s x
    size_kept i x r =
        let b = in-run p n (j + 1) i g.in_range r in
        d.size.there x b.1 (omega arith)

    size_kept_here : s' j ≡ s j
    size_kept_here = d.size.there j (omega (arith, g.in_range)) (omega arith)

    total_kept : (i : ℕ) → total s' (run_from p n (j + 1) i) ≡ total s (run_from p n (j + 1) i)
    total_kept i = total_same s s' (run_from p n (j + 1) i) (size_kept i)

    heavy_kept : (i : ℕ) → heavy_of s' (run_from p n (j + 1) i) ≡ heavy_of s (run_from p n (j + 1) i)
    heavy_kept i = heavy_same s s' (run_from p n (j + 1) i) (size_kept i)

    size_parent : s' (p j) ≡ suc (total s' (run_from p n j (p j)))
    size_parent =
        let r = ap (total s') (run_child p n j (p j) (omega (arith, g.in_range)) refl) in
        omega (arith, d.size.here, g.size (p j) (omega (arith, g.in_range)), total_kept (p j), size_kept_here)

    size_other : (i : ℕ) → i < n → i ≢ p j → s' i ≡ suc (total s' (run_from p n j i))
    size_other i b ne =
        let r = ap (total s') (run_other p n j i (omega (arith, g.in_range)) (λ e. ne (sym e))) in
        omega (arith, d.size.there i b ne, g.size i b, total_kept i)

    heavy_parent : h' (p j) ≡ heavy_of s' (run_from p n j (p j))
    heavy_parent =
        let l = run_from p n (j + 1) (p j) in
        let b = g.in_range in
        d.heavy.here
        ∙ heavy-front s j l (λ x i. let r = in-run p n (j + 1) (p j) b i in omega arith)
        (subst (λ (x : ℕ). Heavier s x j d.best) (g.heavy (p j) (omega arith)) d.heavier)
        ∙ sym (heavy_same s s' (j ∷ l)
        (λ x i. elim i [ inl e ↦ subst (λ (y : ℕ). s' y ≡ s y) (sym e) size_kept_here | inr k ↦ size_kept (p j) x k ]))
        ∙ sym (ap (heavy_of s') (run_child p n j (p j) (omega arith) refl))

    heavy_other : (i : ℕ) → i < n → i ≢ p j → h' i ≡ heavy_of s' (run_from p n j i)
    heavy_other i b ne =
        let r = g.in_range in
        d.heavy.there i b ne
        ∙ g.heavy i b
        ∙ sym (heavy_kept i)
        ∙ sym (ap (heavy_of s') (run_other p n j i (omega arith) (λ e. ne (sym e))))

    -- j is handed on
    pub weighing_step : Weighing n p s' h' j
    weighing_step =
        let r = g.in_range in
        let e : j + 1 ≡ suc j = omega arith in
        record {
          some = some;
          in_range = omega arith;
          size = λ i b. equal_or_not i (p j) (λ q. subst (λ (x : ℕ). s' x ≡ suc (total s' (run_from p n j x))) (sym q) size_parent) (size_other i b);
          heavy = λ i b. equal_or_not i (p j) (λ q. subst (λ (x : ℕ). h' x ≡ heavy_of s' (run_from p n j x)) (sym q) heavy_parent) (heavy_other i b);
          all = sum_change j (p j) (s j) s s' earlier d.size.here (λ i b ne. d.size.there i (omega arith) ne)
              ∙ sym (ap (λ (k : ℕ). sum k s) e) ∙ g.all;
        }

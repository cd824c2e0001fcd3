-- Laws of light children and of numbers given backwards.
use Prim.Native.Nat.{ℕ, ◌+◌, ◌≤◌, ◌<◌}
use native.Mathlib.Omega.{arith}
use mathlib.Core.Path.{◌≡◌, refl, sym, ap, ◌∙◌, subst}
use mathlib.Core.Logic.{◌≢◌, inl, inr}
use mathlib.Core.List.{List, [], ◌∷◌, ◌++◌, append-nil}
use Rattle.sums.proofs.Sums.{equal_or_not}
use Rattle.paths.specs.Walk.{In}
use Rattle.numbering.specs.Numbering.{total}
use Rattle.numbering.specs.RuleOne.{without}
use Rattle.numbering.proofs.ChildLists.{without_same, without_other, without_in, total-append}
use Rattle.passes.specs.Passes.{run_from, run, Weighed}
use Rattle.ranks.specs.Ranks.{Backwards, lights}
use Rattle.passes.proofs.Runs.{in-run, run_child, run_split, run_more, run_same, run_none}

without-append : (h : ℕ) (l m : List ℕ) → without h (l ++ m) ≡ without h l ++ without h m
without-append h [] m = refl
without-append h (x ∷ l) m =
    let rest = without-append h l m in
    equal_or_not x h (λ e. without_same h x (l ++ m) e ∙ rest ∙ sym (ap (λ (k : List ℕ). k ++ without h m) (without_same h x l e)))
    (λ d. without_other h x (l ++ m) d ∙ ap (λ (k : List ℕ). x ∷ k) rest ∙ sym (ap (λ (k : List ℕ). k ++ without h m) (without_other h x l d)))

-- one more at the end
pub total_more : (s : ℕ → ℕ) (l : List ℕ) (x : ℕ) → total s (l ++ (x ∷ [])) ≡ total s l + s x
total_more s l x = total-append s l (x ∷ []) ∙ omega arith

total-without : (s : ℕ → ℕ) (h : ℕ) (l : List ℕ) → total s (without h l) ≤ total s l
total-without s h [] = omega arith
total-without s h (x ∷ l) =
    equal_or_not x h (λ e. omega (arith, total-without s h l, ap (total s) (without_same h x l e)))
    (λ d. omega (arith, total-without s h l, ap (total s) (without_other h x l d)))

-- other numbers that agree on the list
pub backwards_same : (id id' s : ℕ → ℕ) (end : ℕ) (l : List ℕ) → ((x : ℕ) → In x l → id' x ≡ id x)
    → Backwards id s end l → Backwards id' s end l
backwards_same id id' s end [] h b = tt
backwards_same id id' s end (x ∷ l) h b =
    let e : id' x ≡ id x = h x (inl refl) in
    (omega (arith, b.0), subst (λ (y : ℕ). Backwards id' s y l) (sym e) (backwards_same id id' s (id x) l (λ y i. h y (inr i)) b.1))

-- one more, where the numbers before it begin
pub backwards_more : (id s : ℕ → ℕ) (end : ℕ) (l : List ℕ) (x : ℕ) → id x + s x + total s l ≡ end → Backwards id s end l
    → Backwards id s end (l ++ (x ∷ []))
backwards_more id s end [] x e b = (omega arith, tt)
backwards_more id s end (y ∷ l) x e b = (b.0, backwards_more id s (id y) l x (omega (arith, b.0)) b.1)

module _ (p h : ℕ → ℕ) (j : ℕ) where
  -- a light child before j
  pub in-lights : (i x : ℕ) → 1 ≤ j → In x (lights p h j i) → x < j
  in-lights i x some k = (in-run p j 1 i some ((without_in (h i) (run p j i) x).0 k).0).1

  -- position j is no child of i
  pub lights_other : (i : ℕ) → 1 ≤ j → p j ≢ i → lights p h (j + 1) i ≡ lights p h j i
  lights_other i some d = ap (without (h i)) (run_same p j i some d)

  -- it is the heavy one
  pub lights_heavy : (i : ℕ) → 1 ≤ j → p j ≡ i → h i ≡ j → lights p h (j + 1) i ≡ lights p h j i
  lights_heavy i some e q =
      ap (without (h i)) (run_more p j i some e)
      ∙ without-append (h i) (run p j i) (j ∷ [])
      ∙ ap (λ (l : List ℕ). lights p h j i ++ l) (without_same (h i) j [] (sym q))
      ∙ append-nil (lights p h j i)

  -- it is a light one, the last so far
  pub lights_more : (i : ℕ) → 1 ≤ j → p j ≡ i → h i ≢ j → lights p h (j + 1) i ≡ lights p h j i ++ (j ∷ [])
  lights_more i some e d =
      ap (without (h i)) (run_more p j i some e)
      ∙ without-append (h i) (run p j i) (j ∷ [])
      ∙ ap (λ (l : List ℕ). lights p h j i ++ l) (without_other (h i) j [] (λ q. d (sym q)))

  -- it has no child up to itself
  pub lights_none : ((k : ℕ) → 0 < k → k ≤ j → p k < k) → lights p h (j + 1) j ≡ []
  lights_none earlier = ap (without (h j)) (run_none p j earlier)

  -- a child and the light children before it leave one number of their parent
  pub child_room : {n : ℕ} {s : ℕ → ℕ} → Weighed n p s h → 1 ≤ j → j < n → p j < n → total s (lights p h j (p j)) + s j + 1 ≤ s (p j)
  child_room {n} {s} w some b up =
      let u = p j in
      let e = ap (total s) (run_split p n j u some (omega arith)) in
      let f = ap (total s) (run_child p n j u b refl) in
      omega (arith, w.size u up, total-append s (run p j u) (run_from p n j u), total-without s (h u) (run p j u))

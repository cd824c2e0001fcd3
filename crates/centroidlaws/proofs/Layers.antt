-- Breadth first lists: one is determined by what each vertex leads on to, since that is one step farther.
use Prim.Native.Nat.{ℕ, zero, suc, ◌+◌, ◌≤◌, ◌<◌}
use native.Mathlib.Omega.{arith}
use mathlib.Core.Path.{◌≡◌, refl, sym, ap, subst, ◌∙◌}
use mathlib.Core.Logic.{inl, inr, ⊎_elim}
use mathlib.Core.Bool.{Bool, true}
use mathlib.Core.List.{List, [], ◌∷◌, ◌++◌, append_assoc}
use lib.Dec.{eqb}
use lib.ListN.{length}
use borrow.Author.Tests.{eqb-true}
use Rattle.paths.specs.Walk.{In}
use Rattle.paths.proofs.Listed.{in_right, in_either}
use Rattle.paths.proofs.Kept.{keep_in}
use Rattle.centroid.specs.Lists.{onward, onwards, Breadth}
use Rattle.answers.specs.Choice.{both}
use Rattle.answers.proofs.Choices.{both_true}

-- a list in which nothing stands is empty
empty : (l : List ℕ) → ((x : ℕ) → In x l → ⊥) → l ≡ []
empty [] f = refl
empty (x ∷ l) f = absurd (f x (inl refl))

-- the distances of a list's entries have a bound
bound : (far : ℕ → ℕ) (l : List ℕ) → (m : ℕ) × ((x : ℕ) → In x l → far x < m)
bound far [] = (0, λ x i. absurd i)
bound far (y ∷ l) =
    let r = bound far l in
    (suc (far y) + r.0, λ x i. ⊎_elim (λ e. let z = ap far e in omega arith) (λ j. let z = r.1 x j in omega arith) i)

module _ (A : ℕ → List ℕ) (way : ℕ → ℕ → List ℕ) (C : ℕ → Bool) (c : ℕ) where
  -- what a vertex leads on to stands in its list, is in the component, and is one step farther
  pub onward_in : (x y : ℕ) → In y (onward A way C c x) → In y (A x) × (C y ≡ true) × (length (way c y) ≡ suc (length (way c x)))
  onward_in x y i =
      let k = (keep_in (λ y. both (C y) (eqb (length (way c y)) (suc (length (way c x))))) (A x) y).0 i in
      let b = both_true (C y) (eqb (length (way c y)) (suc (length (way c x)))) k.1 in
      (k.0, b.0, eqb-true (length (way c y)) (suc (length (way c x))) b.1)

  -- what a list leads on to, one of its entries leads on to
  pub onwards_in : (q : List ℕ) (y : ℕ) → In y (onwards A way C c q) → (x : ℕ) × In x q × In y (onward A way C c x)
  onwards_in [] y i = absurd i
  onwards_in (x ∷ q) y i = ⊎_elim (λ j. (x, inl refl, j)) (λ j. let r = onwards_in q y j in (r.0, inr r.1, r.2))
      (in_either y (onward A way C c x) (onwards A way C c q) i)

  -- two lists joined lead on to what each leads on to
  pub onwards-append : (a b : List ℕ) → onwards A way C c (a ++ b) ≡ onwards A way C c a ++ onwards A way C c b
  onwards-append [] b = refl
  onwards-append (x ∷ a) b =
      ap (λ (l : List ℕ). onward A way C c x ++ l) (onwards-append a b)
      ∙ sym (append_assoc (onward A way C c x) (onwards A way C c a) (onwards A way C c b))

  -- the layers in front of a list, then what the list leads on to
  abbrev After : List ℕ → List ℕ → Type 0
  After front q = q ≡ front ++ onwards A way C c q

  -- the entries are at distances from d up to e, the end excluded
  abbrev Spread : ℕ → ℕ → List ℕ → Type 0
  Spread d e q = (x : ℕ) → In x q → (d ≤ length (way c x)) × (length (way c x) < e)

  -- behind the front comes a list of the same kind
  after_next : (front q : List ℕ) → After front q → After (onwards A way C c front) (onwards A way C c q)
  after_next front q e = ap (onwards A way C c) e ∙ onwards-append front (onwards A way C c q)

  -- its entries are one step farther
  spread_next : (d e : ℕ) (front q : List ℕ) → After front q → Spread d e q → Spread (suc d) e (onwards A way C c q)
  spread_next d e front q a s x i =
      let r = onwards_in q x i in
      let f = (onward_in r.0 x r.2).2 in
      let z = s r.0 r.1 in
      let t = s x (subst (In x) (sym a) (in_right x front (onwards A way C c q) i)) in
      (omega arith, t.1)

  -- two lists with the same front are equal
  after_one : (k d : ℕ) (front q q' : List ℕ) → After front q → After front q' → Spread d (d + k) q → Spread d (d + k) q' → q ≡ q'
  after_one zero d front q q' a a' s s' =
      empty q (λ x i. let z = s x i in omega arith) ∙ sym (empty q' (λ x i. let z = s' x i in omega arith))
  after_one (suc k) d front q q' a a' s s' =
      let more : (l : List ℕ) → After front l → Spread d (d + suc k) l → Spread (suc d) (suc d + k) (onwards A way C c l)
      = λ l b t x i. (let z = spread_next d (d + suc k) front l b t x i in (z.0, omega arith)) in
      let ih = after_one k (suc d) (onwards A way C c front) (onwards A way C c q) (onwards A way C c q')
      (after_next front q a) (after_next front q' a') (more q a s) (more q' a' s') in
      a ∙ ap (λ (l : List ℕ). front ++ l) ih ∙ sym a'

  -- a breadth first list is determined
  pub breadth-one : (q q' : List ℕ) → Breadth A way C c q → Breadth A way C c q' → q ≡ q'
  breadth-one q q' b b' =
      let far : ℕ → ℕ = λ x. length (way c x) in
      let m = bound far q in
      let m' = bound far q' in
      after_one (m.0 + m'.0) 0 (c ∷ []) q q' b b'
      (λ x i. let z = m.1 x i in (omega arith, omega arith)) (λ x i. let z = m'.1 x i in (omega arith, omega arith))

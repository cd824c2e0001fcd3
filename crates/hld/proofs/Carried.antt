-- From positions to vertices: rule 1's order, sizes and numbers are carried over by the vertex at each position.
use Prim.Native.Nat.{ℕ, ◌+◌}
use native.Mathlib.Omega.{arith}
use mathlib.Core.Path.{◌≡◌, refl, sym, ap, ap₂, ◌∙◌, subst}
use mathlib.Core.Logic.{inl, inr, by_cases}
use native.Mathlib.Decide.{dec_lt}
use mathlib.Core.List.{List, [], ◌∷◌, ◌++◌, map, reverse, reverse-cons}
use Rattle.sums.proofs.Sums.{equal_or_not}
use Rattle.paths.specs.Walk.{In}
use Rattle.numbering.specs.Numbering.{total, Numbered}
use Rattle.numbering.specs.RuleOne.{heaviest, without, by_rule_one}
use Rattle.numbering.proofs.ChildLists.{without_same, without_other, total-reverse}
use Rattle.numbering.proofs.Heaviest.{heaviest_next, heaviest_stays, heaviest_in}
use Rattle.numbering.proofs.Readings.{map-reverse}
use Rattle.ranks.specs.Ranks.{Backwards}

module _ (q s size : ℕ → ℕ) where
  -- the heaviest vertex stands at the heaviest position
  pub heaviest-map : (x : ℕ) (l : List ℕ) → ((k : ℕ) → In k (x ∷ l) → size (q k) ≡ s k) → heaviest size (q x) (map q l) ≡ q (heaviest s x l)
  heaviest-map x [] e = refl
  heaviest-map x (y ∷ l) e =
      let ex = e x (inl refl) in
      let ey = e y (inr (inl refl)) in
      by_cases (dec_lt (s x) (s y))
      (λ lt. heaviest_next size (q x) (q y) (map q l) (omega arith) ∙ heaviest-map y l (λ k i. e k (inr i)) ∙ sym (ap q (heaviest_next s x y l lt)))
      (λ ge. heaviest_stays size (q x) (q y) (map q l) (omega arith)
      ∙ heaviest-map x l (λ k i. e k (skip k i)) ∙ sym (ap q (heaviest_stays s x y l (omega arith))))
    where
      skip : (k : ℕ) → In k (x ∷ l) → In k (x ∷ y ∷ l)
      skip k (inl i) = inl i
      skip k (inr i) = inr (inr i)

  -- a vertex left out is a position left out
  without-map : (h : ℕ) (l : List ℕ) → ((k : ℕ) → In k l → q k ≡ q h → k ≡ h) → without (q h) (map q l) ≡ map q (without h l)
  without-map h [] inj = refl
  without-map h (x ∷ l) inj =
      equal_or_not x h
      (λ e. without_same (q h) (q x) (map q l) (ap q e) ∙ without-map h l (λ k i. inj k (inr i)) ∙ sym (ap (map q) (without_same h x l e)))
      (λ d. without_other (q h) (q x) (map q l) (λ e. d (inj x (inl refl) e))
      ∙ ap (λ (r : List ℕ). q x ∷ r) (without-map h l (λ k i. inj k (inr i))) ∙ sym (ap (map q) (without_other h x l d)))

  -- rule 1 arranges vertices as it arranges their positions
  pub by_rule-map : (l : List ℕ) → ((k : ℕ) → In k l → size (q k) ≡ s k) → ((k j : ℕ) → In k l → In j l → q k ≡ q j → k ≡ j)
      → by_rule_one size (map q l) ≡ map q (by_rule_one s l)
  by_rule-map [] e inj = refl
  by_rule-map (x ∷ l) e inj =
      let h : ℕ = heaviest s x l in
      ap₂ ◌∷◌ (heaviest-map x l e)
      (ap (λ (y : ℕ). reverse (without y (q x ∷ map q l))) (heaviest-map x l e)
      ∙ ap reverse (without-map h (x ∷ l) (λ k i. inj k h i (heaviest_in s x l)))
      ∙ sym (map-reverse q (without h (x ∷ l))))

  -- the sizes together
  pub total-map : (l : List ℕ) → ((k : ℕ) → In k l → size (q k) ≡ s k) → total size (map q l) ≡ total s l
  total-map [] e = refl
  total-map (x ∷ l) e = ap₂ ◌+◌ (e x (inl refl)) (total-map l (λ k i. e k (inr i)))

  -- the numbers
  pub numbered-map : (id id' : ℕ → ℕ) (next : ℕ) (l : List ℕ) → ((k : ℕ) → In k l → size (q k) ≡ s k) → ((k : ℕ) → In k l → id' (q k) ≡ id k)
      → Numbered id s next l → Numbered id' size next (map q l)
  numbered-map id id' next [] e i n = tt
  numbered-map id id' next (x ∷ l) e i n = (
    i x (inl refl) ∙ n.0,
    subst (λ (k : ℕ). Numbered id' size k (map q l)) (ap (λ (k : ℕ). next + k) (sym (e x (inl refl))))
        (numbered-map id id' (next + s x) l (λ k j. e k (inr j)) (λ k j. i k (inr j)) n.1),
  )

-- one more vertex at the end
numbered_snoc : (id s : ℕ → ℕ) (next x : ℕ) (l : List ℕ) → Numbered id s next l → id x ≡ next + total s l → Numbered id s next (l ++ (x ∷ []))
numbered_snoc id s next x [] n e = (omega arith, tt)
numbered_snoc id s next x (y ∷ l) n e = (n.0, numbered_snoc id s (next + s y) x l n.1 (omega arith))

-- numbers given backwards from the end are numbers given forwards along the reversed list
pub backwards_numbered : (id s : ℕ → ℕ) (end next : ℕ) (l : List ℕ) → Backwards id s end l → end ≡ next + total s l → Numbered id s next (reverse l)
backwards_numbered id s end next [] b e = tt
backwards_numbered id s end next (x ∷ l) b e =
    subst (Numbered id s next) (sym (reverse-cons x l))
    (numbered_snoc id s next x (reverse l) (backwards_numbered id s (id x) next l b.1 (let z = b.0 in omega arith))
    (let z = b.0 in let r = total-reverse s l in omega arith))

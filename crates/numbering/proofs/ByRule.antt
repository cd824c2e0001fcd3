-- Rule 1 orders the children, heaviest first: the same entries, none twice, and the chains and sizes of a numbering.
use Prim.Native.Nat.{ℕ, suc, ◌+◌, ◌≤◌, ◌<◌}
use native.Mathlib.Decide.{ℕ_discrete}
use mathlib.Core.Path.{◌≡◌, refl, sym, ap, subst, ◌∙◌}
use mathlib.Core.Logic.Iff
use mathlib.Core.Logic.{inl, inr, ⊎_elim, ◌↔◌, ◌≢◌}
use mathlib.Core.List.{List, [], ◌∷◌, reverse}
use Rattle.paths.specs.Walk.{In, NoDup}
use Rattle.paths.specs.Rooted.{Child}
use Rattle.paths.proofs.Listed.{out_of}
use Rattle.numbering.specs.Numbering.{total, Numbered, Light, Chained, Arranged}
use Rattle.numbering.specs.RuleOne.{heaviest, without, by_rule_one}
use Rattle.numbering.proofs.ChildLists.{without_in, without_once, without-total, reverse_in, reverse_once, total-reverse}
use Rattle.numbering.proofs.Heaviest.{heaviest_in, heaviest_most, heaviest_ext}

-- the light children, in the order of their numbers, are all but the heaviest
lights_in_lem : (size : ℕ → ℕ) (x : ℕ) (l : List ℕ) (v : ℕ)
    → In v (reverse (without (heaviest size x l) (x ∷ l))) ↔ (In v (x ∷ l) × (v ≢ heaviest size x l))
lights_in_lem size x l v =
    let h : ℕ = heaviest size x l in
    Iff.trans (reverse_in v (without h (x ∷ l))) (without_in h (x ∷ l) v)

-- ordered by rule 1 a list has the same entries
pub by_rule_in : (size : ℕ → ℕ) (l : List ℕ) (v : ℕ) → In v (by_rule_one size l) ↔ In v l
by_rule_in size [] v = (λ i. i, λ i. i)
by_rule_in size (x ∷ l) v = (
  ⊎_elim (λ e. subst (λ (y : ℕ). In y (x ∷ l)) (sym e) (heaviest_in size x l)) (λ i. ((lights_in_lem size x l v).0 i).0),
  λ i. elim (ℕ_discrete v (heaviest size x l)) [ yes e ↦ inl e | no d ↦ inr ((lights_in_lem size x l v).1 (i, d)) ],
)

-- none twice, if none was
pub by_rule_once : (size : ℕ → ℕ) (l : List ℕ) → NoDup l → NoDup (by_rule_one size l)
by_rule_once size [] d = tt
by_rule_once size (x ∷ l) d =
    let h : ℕ = heaviest size x l in
    (out_of h (reverse (without h (x ∷ l))) (λ i. ((lights_in_lem size x l h).0 i).1 refl), reverse_once (without h (x ∷ l)) (without_once h (x ∷ l) d))

-- and the same sizes together
pub by_rule-total : (size : ℕ → ℕ) (l : List ℕ) → NoDup l → total size (by_rule_one size l) ≡ total size l
by_rule-total size [] d = refl
by_rule-total size (x ∷ l) d =
    let h : ℕ = heaviest size x l in
    ap (λ (k : ℕ). size h + k) (total-reverse size (without h (x ∷ l))) ∙ without-total size h (x ∷ l) d (heaviest_in size x l)

-- sizes that agree on a list order it alike
pub by_rule_ext : (size size' : ℕ → ℕ) (l : List ℕ) → ((v : ℕ) → In v l → size v ≡ size' v) → by_rule_one size l ≡ by_rule_one size' l
by_rule_ext size size' [] f = refl
by_rule_ext size size' (x ∷ l) f = ap (λ (h : ℕ). h ∷ reverse (without h (x ∷ l))) (heaviest_ext size size' x l f)

-- vertices that head their chains and are no larger than the heavy one are light
pub light_of : (head size : ℕ → ℕ) (most : ℕ) (l : List ℕ) → ((v : ℕ) → In v l → (head v ≡ v) × (size v ≤ most)) → Light head size most l
light_of head size most [] f = tt
light_of head size most (x ∷ l) f = ((f x (inl refl)).0, (f x (inl refl)).1, light_of head size most l (λ v i. f v (inr i)))

-- the heaviest goes on the chain with head h, and every other entry heads its own
abbrev pub HeadsBy : (head size : ℕ → ℕ) → ℕ → List ℕ → Type 0
HeadsBy head size h [] = Unit {0}
HeadsBy head size h (x ∷ l) = (head (heaviest size x l) ≡ h) × ((v : ℕ) → In v (x ∷ l) → v ≢ heaviest size x l → head v ≡ v)

-- then the chains are those of a numbering
pub by_rule_chained : (head size : ℕ → ℕ) (h : ℕ) (l : List ℕ) → HeadsBy head size h l → Chained head size h (by_rule_one size l)
by_rule_chained head size h [] c = tt
by_rule_chained head size h (x ∷ l) c = (
  c.0,
  light_of head size (size (heaviest size x l)) (reverse (without (heaviest size x l) (x ∷ l)))
      (λ v i. let q = (lights_in_lem size x l v).0 i in (c.1 v q.0 q.1, heaviest_most size x l v q.0)),
)

-- from the children of u in list order: ordered by rule 1 they are arranged
pub by_rule_arranged :
    (n : ℕ) (par dep head id size : ℕ → ℕ) (u : ℕ) (l : List ℕ)
    → ((v : ℕ) → In v l ↔ ((v < n) × Child par dep u v))
    → NoDup l
    → size u ≡ suc (total size l)
    → Numbered id size (id u + 1) (by_rule_one size l)
    → HeadsBy head size (head u) l
    → Arranged n par dep head id size u (by_rule_one size l)
by_rule_arranged n par dep head id size u l f d s t c = record {
  children = λ v. Iff.trans (by_rule_in size l v) (f v);
  once = by_rule_once size l d;
  sizes = s ∙ ap suc (sym (by_rule-total size l d));
  numbers = t;
  chain = by_rule_chained head size (head u) l c;
}

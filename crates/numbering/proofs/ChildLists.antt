-- Lists of children: those that a list holds, without one of them, and reversed; what stands in them, that they do not repeat, their sizes together.
use Prim.Native.Nat.{ℕ, ◌+◌}
use native.Mathlib.Omega.{arith}
use native.Mathlib.Decide.{ℕ_discrete}
use mathlib.Core.Path.{◌≡◌, refl, sym, ap, subst, ◌∙◌}
use mathlib.Core.Logic.{inl, inr, ⊎_elim, ◌↔◌, ◌≢◌}
use mathlib.Core.Bool.{true}
use mathlib.Core.List.{List, [], ◌∷◌, ◌++◌, reverse, reverse-cons, reverse-reverse}
use borrow.Author.Tests.{eq-eqb, ne_eqb}
use Rattle.sums.specs.Sum.{tally}
use Rattle.paths.specs.Walk.{In, Out, NoDup}
use Rattle.paths.specs.Rooted.{Child}
use Rattle.paths.specs.Route.{child?}
use Rattle.paths.proofs.Listed.{out_of, out_not, nodup_snoc}
use Rattle.paths.proofs.Turn.{in-reverse}
use Rattle.paths.proofs.Links.{child-test, child_none, child_dec}
use Rattle.numbering.specs.Numbering.{total}
use Rattle.paths.proofs.Kept.{keep_in}
use Rattle.numbering.specs.RuleOne.{children_of, without}

-- the test of a child is true of the children
pub child_true : (par dep : ℕ → ℕ) (u v : ℕ) → (child? par dep u v ≡ true) ↔ Child par dep u v
child_true par dep u v = (to, λ c. child-test par dep u v c.0 ∙ eq-eqb (par v) u c.1)
  where
    to : child? par dep u v ≡ true → Child par dep u v
    to e = elim (child_dec par dep u v) [
      | yes c ↦ c
      | no f ↦ let a = child_none par dep u v f in let b = ap tally e in absurd (omega arith)
    ]

-- the children in list order are the children that the list holds
pub children_in : (A : ℕ → List ℕ) (par dep : ℕ → ℕ) (u v : ℕ) → In v (children_of A par dep u) ↔ (In v (A u) × Child par dep u v)
children_in A par dep u v =
    let k = keep_in (child? par dep u) (A u) v in
    let c = child_true par dep u v in
    (λ h. ((k.0 h).0, c.0 (k.0 h).1), λ h. k.1 (h.0, c.1 h.1))

-- an entry that is the one left out
pub without_same : (h x : ℕ) (l : List ℕ) → x ≡ h → without h (x ∷ l) ≡ without h l
without_same h x l e = rw (eq-eqb x h e, without)

-- any other stays
pub without_other : (h x : ℕ) (l : List ℕ) → x ≢ h → without h (x ∷ l) ≡ x ∷ without h l
without_other h x l d = rw (ne_eqb x h d, without)

-- a list without an entry holds all others
pub without_in : (h : ℕ) (l : List ℕ) (v : ℕ) → In v (without h l) ↔ (In v l × (v ≢ h))
without_in h [] v = (λ i. absurd i, λ i. absurd i.0)
without_in h (x ∷ l) v = go (ℕ_discrete x h) (without_in h l v)
  where
    go : Dec (x ≡ h) → In v (without h l) ↔ (In v l × (v ≢ h)) → In v (without h (x ∷ l)) ↔ (In v (x ∷ l) × (v ≢ h))
    go (yes e) ih = rw (without_same h x l e) (
      λ i. (inr (ih.0 i).0, (ih.0 i).1),
      λ i. ⊎_elim (λ q. absurd (i.1 (q ∙ e))) (λ j. ih.1 (j, i.1)) i.0,
    )
    go (no d) ih = rw (without_other h x l d) (
      ⊎_elim (λ q. (inl q, λ r. d (sym q ∙ r))) (λ i. (inr (ih.0 i).0, (ih.0 i).1)),
      λ i. ⊎_elim inl (λ j. inr (ih.1 (j, i.1))) i.0,
    )

-- what does not repeat does not repeat without an entry
pub without_once : (h : ℕ) (l : List ℕ) → NoDup l → NoDup (without h l)
without_once h [] d = tt
without_once h (x ∷ l) d = go (ℕ_discrete x h) (without_once h l d.1)
  where
    go : Dec (x ≡ h) → NoDup (without h l) → NoDup (without h (x ∷ l))
    go (yes e) ih = rw (without_same h x l e) ih
    go (no f) ih = rw (without_other h x l f) (out_of x (without h l) (λ i. out_not x l d.0 ((without_in h l x).0 i).0), ih)

-- a list without what is not in it is the list
without_absent : (h : ℕ) (l : List ℕ) → Out h l → without h l ≡ l
without_absent h [] o = refl
without_absent h (x ∷ l) o = without_other h x l (λ e. o.0 (sym e)) ∙ ap (λ (r : List ℕ). x ∷ r) (without_absent h l o.1)

-- the sizes with an entry are its size and the sizes without it
pub without-total : (size : ℕ → ℕ) (h : ℕ) (l : List ℕ) → NoDup l → In h l → size h + total size (without h l) ≡ total size l
without-total size h [] d i = absurd i
without-total size h (x ∷ l) d (inl e) =
    rw (without_same h x l (sym e), without_absent h l (subst (λ (y : ℕ). Out y l) (sym e) d.0), e)
without-total size h (x ∷ l) d (inr i) =
    let f : x ≢ h = λ e. out_not x l d.0 (subst (λ (y : ℕ). In y l) (sym e) i) in
    let ih = without-total size h l d.1 i in
    rw (without_other h x l f) (omega arith)

-- the sizes of two lists joined
pub total-append : (size : ℕ → ℕ) (a b : List ℕ) → total size (a ++ b) ≡ total size a + total size b
total-append size [] b = omega arith
total-append size (x ∷ a) b = let ih = total-append size a b in omega arith

-- the sizes of a list reversed
pub total-reverse : (size : ℕ → ℕ) (l : List ℕ) → total size (reverse l) ≡ total size l
total-reverse size [] = refl
total-reverse size (x ∷ l) =
    let a = ap (total size) (reverse-cons x l) ∙ total-append size (reverse l) (x ∷ []) in
    let ih = total-reverse size l in
    omega arith

-- a list reversed holds what the list holds
pub reverse_in : (v : ℕ) (l : List ℕ) → In v (reverse l) ↔ In v l
reverse_in v l = (λ h. subst (In v) (reverse-reverse l) (in-reverse v (reverse l) h), in-reverse v l)

-- and repeats nothing if the list does not
pub reverse_once : (l : List ℕ) → NoDup l → NoDup (reverse l)
reverse_once [] d = tt
reverse_once (x ∷ l) d =
    rw (reverse-cons x l) (nodup_snoc x (reverse l) (reverse_once l d.1) (out_of x (reverse l) (λ h. out_not x l d.0 ((reverse_in x l).0 h))))

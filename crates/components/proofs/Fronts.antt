-- Lists one behind the other, and lists at the front of lent ones.
use Prim.Native.Nat.{ℕ, ◌+◌, ◌≤◌}
use native.Mathlib.Omega.{arith}
use native.Mathlib.Numerals.{add-one}
use mathlib.Core.Path.{◌≡◌, refl, sym, ap, ap₂, ◌∙◌}
use mathlib.Core.Logic.{◌≢◌}
use mathlib.Core.Bool.{Bool, true, false}
use mathlib.Core.List.{List, ◌++◌}
use lib.Dec.{eqb}
use lib.ListN.{length, take, drop, length-drop, take-append-drop}
use lib.Seq.{sets, sets-eq, ext_get_or, get_or-drop, length-take-le}
use borrow.Author.Tests.{eq-eqb, ne_eqb}
use Rattle.graph.specs.Work.{Only}
use Rattle.centroid.specs.Lists.{joined}
use Rattle.paths.specs.Lists.{front}
use Rattle.centroidlaws.proofs.SameLists.{joined_same}
use Rattle.components.proofs.Places.{sets_join}

-- q with the list l at c
pub put : (ℕ → List ℕ) → ℕ → List ℕ → ℕ → List ℕ
put q c l b = elim (eqb b c) [ true ↦ l | false ↦ q b ]

-- at c it is l
pub put_here : (q : ℕ → List ℕ) (c : ℕ) (l : List ℕ) → put q c l c ≡ l
unfolding put
put_here q c l = ap (λ (t : Bool). elim t [ true ↦ l | false ↦ q c ]) (eq-eqb c c refl)

-- elsewhere it is as before
pub put_there : (q : ℕ → List ℕ) (c : ℕ) (l : List ℕ) (b : ℕ) → b ≢ c → put q c l b ≡ q b
unfolding put
put_there q c l b ne = ap (λ (t : Bool). elim t [ true ↦ l | false ↦ q b ]) (ne_eqb b c ne)

-- before c nothing changed
pub joined-before : (f : ℕ → List ℕ → List ℕ) (q : ℕ → List ℕ) (c : ℕ) (l : List ℕ) (k : ℕ) → k ≤ c
    → joined (λ b. f b (put q c l b)) k ≡ joined (λ b. f b (q b)) k
joined-before f q c l k h = joined_same (λ b. f b (put q c l b)) (λ b. f b (q b)) k (λ b hb. ap (f b) (put_there q c l b (omega arith)))

-- one list more
pub joined_next : (f : ℕ → List ℕ → List ℕ) (q : ℕ → List ℕ) (c : ℕ) (l : List ℕ)
    → joined (λ b. f b (put q c l b)) (c + 1) ≡ joined (λ b. f b (q b)) c ++ f c l
joined_next f q c l =
    ap (joined (λ b. f b (put q c l b))) (add-one c)
    ∙ ap₂ ◌++◌ (joined-before f q c l c (omega arith)) (ap (f c) (put_here q c l))

-- the same in a lent list
pub front_next : (f : ℕ → List ℕ → List ℕ) (q : ℕ → List ℕ) (c : ℕ) (l : List ℕ) (lent now now' : List ℕ) (from : ℕ)
    → now ≡ sets lent 0 (joined (λ b. f b (q b)) c) → from ≡ length (joined (λ b. f b (q b)) c) → now' ≡ sets now from (f c l)
    → now' ≡ sets lent 0 (joined (λ b. f b (put q c l b)) (c + 1))
front_next f q c l lent now now' from e₁ e₂ e₃ =
    let all : List ℕ = joined (λ b. f b (q b)) c in
    e₃
    ∙ ap₂ (λ (o : List ℕ) (k : ℕ). sets o k (f c l)) e₁ (let z : from ≡ 0 + length all = omega arith in z)
    ∙ sets_join all (f c l) lent 0
    ∙ ap (sets lent 0) (sym (joined_next f q c l))

-- a list written from the first place on is at the front
pub sets-front : (l lent : List ℕ) → length l ≤ length lent → sets lent 0 l ≡ front l lent
sets-front l lent h =
    sets-eq l lent 0 (omega arith) ∙ ap (λ (k : ℕ). l ++ drop k lent) (let e : 0 + length l ≡ length l = omega arith in e)

-- the first k entries are at the front where only they were written
pub only-front : (k : ℕ) {lent lent' : List ℕ} → k ≤ length lent → Only 0 k lent lent' → lent' ≡ front (take k lent') lent
only-front k {lent} {lent'} h o =
    let long = o.same_length in
    let a = length-drop k lent in
    let b = length-drop k lent' in
    let same : drop k lent' ≡ drop k lent =
    ext_get_or 0 (drop k lent') (drop k lent) (omega arith)
    (λ i hi. get_or-drop k lent' i 0 ∙ o.after (k + i) (omega arith) ∙ sym (get_or-drop k lent i 0)) in
    sym (take-append-drop k lent')
    ∙ ap (λ (r : List ℕ). take k lent' ++ r) same
    ∙ ap (λ (j : ℕ). take k lent' ++ drop j lent) (sym (length-take-le k lent' (omega arith)))

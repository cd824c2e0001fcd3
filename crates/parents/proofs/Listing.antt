-- Laws of looking for a number in a list, entry by entry, and for the vertices from which a visit met the others, one by one.
use Prim.Native.Nat.{ℕ, ◌+◌, ◌<◌}
use native.Mathlib.Omega.{arith}
use mathlib.Core.Path.{◌≡◌, refl, sym, subst}
use mathlib.Core.Logic.{inl, inr}
use mathlib.Core.List.{List, [], ◌∷◌}
use mathlib.Core.Bool.{Bool}
use lib.Dec.{eqb}
use borrow.Author.Tests.{eq-eqb, ne_eqb}
use Rattle.std.specs.List.{list_any}
use Rattle.sums.specs.Sum.{at}
use Rattle.graph.specs.Judgement.{Decides}
use Rattle.graph.proofs.Judging.{decides_yes, decides_no}
use Rattle.sums.proofs.Sums.{equal_or_not}
use Rattle.paths.specs.Walk.{In}
use Rattle.graph.specs.Lent.{list_of}

-- what a search of a list for x decides
pub search_decides : (x : ℕ) (l : List ℕ) (r : Bool) → r ≡ list_any (λ y. eqb y x) l → Decides (In x l) r
search_decides x [] r e = rw e (decides_no (λ h. h))
search_decides x (y ∷ l) r e =
    let d = search_decides x l (list_any (λ z. eqb z x) l) refl in
    equal_or_not y x
    (λ q. rw (e, eq-eqb y x q) (decides_yes (inl (sym q))))
    (λ q. rw (e, ne_eqb y x q)
    (record { right = λ t. inr (d.right t); wrong = λ f h. elim h [ inl s ↦ q (sym s) | inr i ↦ d.wrong f i ] }))

-- the vertex at position k has in its list the one from which it was met
abbrev pub Listed : List ℕ → List ℕ → ℕ → List ℕ → ℕ → Type 0
Listed os ts n w k = In (at w (at w (n + k))) (list_of os ts (at w k))

-- one position more
pub listed_more : (os ts : List ℕ) (n : ℕ) (w : List ℕ) (j : ℕ) → ((k : ℕ) → 0 < k → k < j → Listed os ts n w k) → Listed os ts n w j
    → (k : ℕ) → 0 < k → k < j + 1 → Listed os ts n w k
listed_more os ts n w j before here k a h =
    equal_or_not k j (λ e. subst (λ (x : ℕ). Listed os ts n w x) (sym e) here) (λ ne. before k a (omega arith))

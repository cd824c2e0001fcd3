-- Lists one behind the other at the front of a lent list, and the part of each.
use Prim.Native.Nat.{ℕ, zero, suc, ◌<◌}
use native.Mathlib.Omega.{arith}
use mathlib.Core.Path.{◌≡◌, sym, ap, ◌∙◌}
use mathlib.Core.List.{List, [], ◌++◌, append_assoc, append-nil}
use lib.ListN.{length, drop}
use lib.Seq.{slice, take_at, drop_at}
use Rattle.sums.proofs.Sums.{equal_or_not}
use Rattle.centroid.specs.Lists.{joined}
use Rattle.paths.specs.Lists.{front}

-- the first c + 1 lists stand at the front of all
joined-front : (f : ℕ → List ℕ) (c n : ℕ) → c < n → (r : List ℕ) × (joined f n ≡ joined f (suc c) ++ r)
joined-front f c zero h = absurd (omega arith)
joined-front f c (suc n) h =
    equal_or_not c n
    (λ e. ([], ap (λ (k : ℕ). joined f (suc k)) (sym e) ∙ sym (append-nil (joined f (suc c)))))
    (λ d.
    let ih = joined-front f c n (omega arith) in
    (ih.0 ++ f n, ap (λ (l : List ℕ). l ++ f n) ih.1 ∙ append_assoc (joined f (suc c)) ih.0 (f n)))

-- the c-th list is the part between the lengths of those before it and of those with it
pub joined-part :
    (f : ℕ → List ℕ) (n : ℕ) (lent : List ℕ) {l lent' : List ℕ} {a b c : ℕ} → c < n → l ≡ joined f n → lent' ≡ front l lent
    → a ≡ length (joined f c) → b ≡ length (joined f (suc c)) → slice a b lent' ≡ f c
joined-part f n lent {l} {lent'} {a} {b} {c} h e front ea eb =
    let r = joined-front f c n h in
    let whole : lent' ≡ joined f (suc c) ++ (r.0 ++ drop (length l) lent) =
    front ∙ ap (λ (k : List ℕ). k ++ drop (length l) lent) (e ∙ r.1) ∙ append_assoc (joined f (suc c)) r.0 (drop (length l) lent) in
    rw (whole, take_at (joined f (suc c)) (r.0 ++ drop (length l) lent) b (sym eb)) (drop_at (joined f c) (f c) a (sym ea))

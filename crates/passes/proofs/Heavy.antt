-- Laws of the heavy child: the first of greatest size.
use Prim.Native.Nat.{ℕ, ◌≤◌, ◌<◌}
use native.Mathlib.Omega.{arith}
use native.Mathlib.Decide.{dec_lt}
use mathlib.Core.Path.{◌≡◌, refl, sym, ap, ◌∙◌}
use mathlib.Core.Logic.{◌≢◌, inl, inr, by_cases}
use mathlib.Core.List.{List, [], ◌∷◌}
use Rattle.paths.specs.Walk.{In}
use Rattle.numbering.specs.Numbering.{total}
use Rattle.numbering.specs.RuleOne.{heaviest}
use Rattle.numbering.proofs.Heaviest.{heaviest_next, heaviest_stays, heaviest_in, heaviest_ext}
use Rattle.passes.specs.Passes.{heavy_of}
use Rattle.passes.specs.Inner.{Heavier, alone, less, more}

-- x in front of y and l is the heavy one unless one of them is greater
record InFront (s : ℕ → ℕ) (x y : ℕ) (l : List ℕ) : Type 0 where
  pub greater : s x < s (heaviest s y l) → heaviest s x (y ∷ l) ≡ heaviest s y l
  pub not_greater : s (heaviest s y l) ≤ s x → heaviest s x (y ∷ l) ≡ x

in-front : (s : ℕ → ℕ) (x y : ℕ) (l : List ℕ) → InFront s x y l
in-front s x y [] = record { greater = heaviest_next s x y []; not_greater = heaviest_stays s x y [] }
in-front s x y (z ∷ l) = one (in-front s x z l) (in-front s y z l)
  where
    one : InFront s x z l → InFront s y z l → InFront s x y (z ∷ l)
    one fx fy =
        by_cases (dec_lt (s y) (s (heaviest s z l)))
        (λ lt.
        let m = fy.greater lt in
        let e = ap s m in
        record {
          greater = λ h. by_cases (dec_lt (s x) (s y)) (λ b. heaviest_next s x y (z ∷ l) b)
              (λ b. heaviest_stays s x y (z ∷ l) (omega arith) ∙ fx.greater (omega arith) ∙ sym m);
          not_greater = λ h. heaviest_stays s x y (z ∷ l) (omega arith) ∙ fx.not_greater (omega arith);
        })
        (λ ge.
        let m = fy.not_greater (omega arith) in
        let e = ap s m in
        record {
          greater = λ h. heaviest_next s x y (z ∷ l) (omega arith);
          not_greater = λ h. heaviest_stays s x y (z ∷ l) (omega arith) ∙ fx.not_greater (omega arith);
        })

-- what holds of 0 and of all children holds of the heavy one
pub heavy-all : (P : ℕ → Type 0) (s : ℕ → ℕ) (l : List ℕ) → P 0 → ((x : ℕ) → In x l → P x) → P (heavy_of s l)
heavy-all P s [] z h = z
heavy-all P s (x ∷ l) z h = h (heaviest s x l) (heaviest_in s x l)

-- a child in front of the others, weighed against the heavy one of them
pub heavy-front : (s : ℕ → ℕ) (j : ℕ) (l : List ℕ) {r : ℕ} → ((x : ℕ) → In x l → x ≢ 0)
    → Heavier s (heavy_of s l) j r → r ≡ heavy_of s (j ∷ l)
heavy-front s j [] pos (alone z e) = e
heavy-front s j [] pos (less nz h e) = absurd (nz refl)
heavy-front s j [] pos (more nz h e) = e
heavy-front s j (x ∷ l) pos (alone z e) = absurd (pos (heaviest s x l) (heaviest_in s x l) z)
heavy-front s j (x ∷ l) pos (less nz h e) = e ∙ sym ((in-front s j x l).greater h)
heavy-front s j (x ∷ l) pos (more nz h e) = e ∙ sym ((in-front s j x l).not_greater h)

-- sizes that agree on the list have one heavy child
pub heavy_same : (s s' : ℕ → ℕ) (l : List ℕ) → ((y : ℕ) → In y l → s' y ≡ s y) → heavy_of s' l ≡ heavy_of s l
heavy_same s s' [] h = refl
heavy_same s s' (x ∷ l) h = heaviest_ext s' s x l h

-- and one total
pub total_same : (s s' : ℕ → ℕ) (l : List ℕ) → ((y : ℕ) → In y l → s' y ≡ s y) → total s' l ≡ total s l
total_same s s' [] h = refl
total_same s s' (x ∷ l) h = omega (arith, h x (inl refl), total_same s s' l (λ y i. h y (inr i)))

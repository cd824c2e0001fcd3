-- Laws of texts put at a place: one text after another, and the room for them.
use Prim.Native.Nat.{ℕ, suc, ◌+◌, ◌≤◌}
use native.Mathlib.Omega.{arith}
use native.Mathlib.Nat.{add-zero, add-suc, suc-add}
use mathlib.Core.Path.{◌≡◌, refl, sym, ap, ◌∙◌, subst}
use mathlib.Core.List.{List, [], ◌∷◌, ◌++◌, append_assoc}
use lib.ListN.{length, set, take, drop, length-append}
use lib.Seq.{sets, sets-eq, length-sets, drop-drop}
use Rattle.treefile.specs.declared.page.Page.{Page}
use Rattle.treefile.specs.Writing.{Room, Puts, Prints}

-- a text in two parts is put part by part
pub sets-append : (s t out : List ℕ) (i : ℕ) → sets out i (s ++ t) ≡ sets (sets out i s) (i + length s) t
sets-append [] t out i = rw add-zero
sets-append (b ∷ s) t out i = sets-append s t (set out i b) (suc i) ∙ ap (λ (k : ℕ). sets (sets (set out i b) (suc i) s) k t) (suc-add i (length s) ∙ sym (add-suc i (length s)))

pub puts_then : {s t out out₁ out₂ : List ℕ} {at m r : ℕ} → Puts s at out out₁ m → Puts t m out₁ out₂ r → Puts (s ++ t) at out out₂ r
puts_then {s} {t} {out} {out₁} {out₂} {at} {m} {r} p q =
    record {
      bytes = q.bytes ∙ ap (λ (l : List ℕ). sets l m t) p.bytes ∙ ap (λ (k : ℕ). sets (sets out at s) k t) p.next ∙ sym (sets-append s t out at);
      next = omega (arith, p.next, q.next, length-append s t);
    }

pub prints_then : {s t : List ℕ} {p q r : Page} → Prints s p q → Prints t q r → Prints (s ++ t) p r
prints_then a b = record { puts = puts_then a.puts b.puts; same = b.same ∙ a.same }

-- another word for the same text
pub prints_as : {s t : List ℕ} {p q : Page} → s ≡ t → Prints s p q → Prints t p q
prints_as {s} {t} {p} {q} e w = subst (λ (l : List ℕ). Prints l p q) e w

pub prints_none : (p : Page) → Prints [] p p
prints_none p = record { puts = record { bytes = refl; next = sym (add-zero p.at) }; same = refl }

pub prints-length : {s : List ℕ} {p q : Page} → Prints s p q → length q.out.now ≡ length p.out.now
prints-length {s} {p} w = ap length w.puts.bytes ∙ length-sets p.out.now p.at s

pub room_first : {s : List ℕ} {p : Page} (t : List ℕ) → Room (s ++ t) p → Room s p
room_first {s} t h = record { fits = omega (arith, h.fits, length-append s t) }

-- behind the first part there is room for the second
pub room_then : {s t : List ℕ} {p q : Page} → Prints s p q → Room (s ++ t) p → Room t q
room_then {s} {t} w h = record { fits = omega (arith, h.fits, length-append s t, w.puts.next, prints-length w) }

pub room_as : {s t : List ℕ} {p : Page} → s ≡ t → Room s p → Room t p
room_as e h = let l = ap length e in record { fits = omega (arith, h.fits) }

-- a text that fits is put in the place of as many bytes
pub sets_part : (text out : List ℕ) (at k : ℕ) → at + length text ≤ length out → k ≡ length text
    → take at out ++ (text ++ drop k (drop at out)) ≡ sets out at text
sets_part text out at k h e =
    ap (λ (l : List ℕ). take at out ++ (text ++ l)) (drop-drop k at out ∙ ap (λ (n : ℕ). drop (at + n) out) e)
    ∙ sym (sets-eq text out at h ∙ append_assoc (take at out) text (drop (at + length text) out))

-- a text at a place leaves one list of bytes and one place behind it
pub puts_one : {s out o₁ o₂ : List ℕ} {at r₁ r₂ : ℕ} → Puts s at out o₁ r₁ → Puts s at out o₂ r₂ → (o₁ ≡ o₂) × (r₁ ≡ r₂)
puts_one p q = (p.bytes ∙ sym q.bytes, p.next ∙ sym q.next)

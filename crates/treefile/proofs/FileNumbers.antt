-- Laws of a file's numbers: how many they are, what they are, their parts, and copying them.
use Prim.Native.Nat.{ℕ, zero, suc, ◌+◌, ◌-◌, ◌*◌, ◌/◌, ◌^◌, ◌≤◌, ◌<◌}
use native.Mathlib.Omega.{arith}
use native.Mathlib.Nat.{add_comm, mul-suc, suc-mul, div-le_self}
use native.Mathlib.Numerals.{add-one}
use mathlib.Core.Path.{◌≡◌, refl, sym, ap, ap₂, ◌∙◌, subst}
use mathlib.Core.List.{List, ◌∷◌, ◌++◌}
use lib.ListN.{length, take, drop, set, get_or, length-drop}
use lib.Seq.{drop-cons, drop-drop, take-take, set_at, append_snoc, take-suc, length-take-le}
use Rattle.std.proofs.lemmas.List.{drop-take}
use Rattle.sums.specs.Sum.{at}
use Rattle.treefile.specs.declared.words.Width.{Width}
use Rattle.treefile.specs.declared.words.Width.TheVariants.{Narrow, Wide}
use Rattle.treefile.specs.declared.words.Words.{Words}
use Rattle.treefile.specs.File.{little_endian, numbers_in, numbers}
use Rattle.treefile.specs.Sections.{bytes_in, words_in, Little, Number}

in-length : (k w : ℕ) (l : List ℕ) → length (numbers_in k w l) ≡ k
in-length zero w l = refl
in-length (suc k) w l = ap suc (in-length k w (drop w l))

-- how many numbers of w bytes there are
pub numbers-length : (w : ℕ) (l : List ℕ) → length (numbers w l) ≡ length l / w
unfolding numbers
numbers-length w l = in-length (length l / w) w l

-- the k bytes of a number are there
pub number_within : (w : Words) (k i : ℕ) → bytes_in w.width ≡ k → i < length (words_in w) → k * i + k ≤ length w.bytes.now
number_within w k i e h =
    subst (λ (n : ℕ). n * i + n ≤ length w.bytes.now) e
    (go w.width (subst (λ (n : ℕ). i < n) (numbers-length (bytes_in w.width) w.bytes.now) h))
  where
    go : (width : Width) → i < length w.bytes.now / bytes_in width → bytes_in width * i + bytes_in width ≤ length w.bytes.now
    go Narrow there = omega arith
    go Wide there = omega arith

in_at : (k w : ℕ) (l : List ℕ) (i : ℕ) → i < k → at (numbers_in k w l) i ≡ little_endian (take w (drop (w * i) l))
in_at zero w l i h = absurd (omega arith)
in_at (suc k) w l zero h = ap (λ (n : ℕ). little_endian (take w (drop n l))) (let e : 0 ≡ w * 0 = omega arith in e)
in_at (suc k) w l (suc i) h =
    in_at k w (drop w l) i (omega arith)
    ∙ ap (λ (m : List ℕ). little_endian (take w m)) (drop-drop (w * i) w l)
    ∙ ap (λ (n : ℕ). little_endian (take w (drop n l))) (add_comm w (w * i) ∙ sym (mul-suc w i))

-- the number at place i is what its w bytes say
numbers_at : (w : ℕ) (l : List ℕ) (i : ℕ) → i < length (numbers w l) → at (numbers w l) i ≡ little_endian (take w (drop (w * i) l))
unfolding numbers
numbers_at w l i h = in_at (length l / w) w l i (subst (λ (n : ℕ). i < n) (in-length (length l / w) w l) h)

-- a number of k bytes by the bytes
pub number_little : (w : Words) (k i r : ℕ) → bytes_in w.width ≡ k → i < length (words_in w) → Little k w.bytes.now (k * i) r
    → Number (bytes_in w.width) w.bytes.now i r
number_little w k i r e h n =
    let there = numbers_at (bytes_in w.width) w.bytes.now i h in
    let is = ap (λ (m : ℕ). little_endian (take m (drop (m * i) w.bytes.now))) (sym e) in
    record { value = n.value ∙ is ∙ sym there; small = subst (λ (m : ℕ). r < 256 ^ m) (sym e) n.small }

-- the first n numbers are those of the first bytes, and the others those of the other bytes
in_take : (n k w : ℕ) (l : List ℕ) → n ≤ k → take n (numbers_in k w l) ≡ numbers_in n w (take (n * w) l)
in_take zero k w l h = refl
in_take (suc n) zero w l h = absurd (omega arith)
in_take (suc n) (suc k) w l h =
    let e : suc n * w ≡ w + n * w = suc-mul n w ∙ add_comm (n * w) w in
    let first = take-take w (w + n * w) l (omega arith) in
    ap₂ (λ (x : ℕ) (r : List ℕ). x ∷ r) (ap little_endian (sym first))
    (in_take n k w (drop w l) (omega arith) ∙ ap (numbers_in n w) (sym (drop-take w (n * w) l)))
    ∙ ap (λ (m : ℕ). little_endian (take w (take m l)) ∷ numbers_in n w (drop w (take m l))) (sym e)

in_drop : (n k j w : ℕ) (l : List ℕ) → n + j ≡ k → drop n (numbers_in k w l) ≡ numbers_in j w (drop (n * w) l)
in_drop zero k j w l h =
    let e : 0 ≡ 0 * w = omega arith in
    let all : k ≡ j = omega arith in
    ap₂ (λ (i m : ℕ). numbers_in i w (drop m l)) all e
in_drop (suc n) zero j w l h = absurd (omega arith)
in_drop (suc n) (suc k) j w l h =
    let e : w + n * w ≡ suc n * w = sym (suc-mul n w ∙ add_comm (n * w) w) in
    in_drop n k j w (drop w l) (omega arith) ∙ ap (numbers_in j w) (drop-drop (n * w) w l ∙ ap (λ (m : ℕ). drop m l) e)

fits_whole : (width : Width) (n m : ℕ) → n ≤ m / bytes_in width → n * bytes_in width ≤ m
fits_whole Narrow n m h = omega arith
fits_whole Wide n m h = omega arith

whole_front : (width : Width) (n : ℕ) → n * bytes_in width / bytes_in width ≡ n
whole_front Narrow n = omega arith
whole_front Wide n = omega arith

whole_back : (width : Width) (n m : ℕ) → n ≤ m / bytes_in width → (m - n * bytes_in width) / bytes_in width ≡ m / bytes_in width - n
whole_back Narrow n m h = omega arith
whole_back Wide n m h = omega arith

module _ (w : Words) (n : ℕ) (h : n ≤ length (words_in w)) where
  few : n ≤ length w.bytes.now / bytes_in w.width
  few = subst (λ (k : ℕ). n ≤ k) (numbers-length (bytes_in w.width) w.bytes.now) h

  pub split_within : n * bytes_in w.width ≤ length w.bytes.now
  split_within = fits_whole w.width n (length w.bytes.now) few

  pub split-front : numbers (bytes_in w.width) (take (n * bytes_in w.width) w.bytes.now) ≡ take n (words_in w)
  unfolding numbers
  split-front =
      let k = length-take-le (n * bytes_in w.width) w.bytes.now split_within in
      ap (λ (m : ℕ). numbers_in (m / bytes_in w.width) (bytes_in w.width) (take (n * bytes_in w.width) w.bytes.now)) k
      ∙ ap (λ (m : ℕ). numbers_in m (bytes_in w.width) (take (n * bytes_in w.width) w.bytes.now)) (whole_front w.width n)
      ∙ sym (in_take n (length w.bytes.now / bytes_in w.width) (bytes_in w.width) w.bytes.now few)

  pub split-back : numbers (bytes_in w.width) (drop (n * bytes_in w.width) w.bytes.now) ≡ drop n (words_in w)
  unfolding numbers
  split-back =
      let k = length-drop (n * bytes_in w.width) w.bytes.now in
      ap (λ (m : ℕ). numbers_in (m / bytes_in w.width) (bytes_in w.width) (drop (n * bytes_in w.width) w.bytes.now)) k
      ∙ ap (λ (m : ℕ). numbers_in m (bytes_in w.width) (drop (n * bytes_in w.width) w.bytes.now)) (whole_back w.width n (length w.bytes.now) few)
      ∙ sym (in_drop n (length w.bytes.now / bytes_in w.width) (length w.bytes.now / bytes_in w.width - n) (bytes_in w.width) w.bytes.now (omega (arith, few)))

-- a list from place p on begins with its entry there
pub drop_next : (l : List ℕ) (p : ℕ) → p < length l → drop p l ≡ at l p ∷ drop (p + 1) l
drop_next l p h = drop-cons l p 0 h ∙ ap (λ (k : ℕ). at l p ∷ drop k l) (sym (add-one p))

pub drop_three : (l : List ℕ) (p : ℕ) → p + 3 ≤ length l → drop p l ≡ at l p ∷ at l (p + 1) ∷ at l (p + 2) ∷ drop (p + 3) l
drop_three l p h =
    let e2 : p + 1 + 1 ≡ p + 2 = omega arith in
    let e3 : p + 2 + 1 ≡ p + 3 = omega arith in
    drop_next l p (omega arith)
    ∙ ap (λ (r : List ℕ). at l p ∷ r) (drop_next l (p + 1) (omega arith))
    ∙ ap (λ (k : ℕ). at l p ∷ at l (p + 1) ∷ drop k l) e2
    ∙ ap (λ (r : List ℕ). at l p ∷ at l (p + 1) ∷ r) (drop_next l (p + 2) (omega arith))
    ∙ ap (λ (k : ℕ). at l p ∷ at l (p + 1) ∷ at l (p + 2) ∷ drop k l) e3

-- one entry more is copied
pub copied_more : {A : Type 0} {out : List A} {x : A} (s l : List A) (i : ℕ) (d : A) → i < length s → i < length l → x ≡ get_or s i d
    → out ≡ take i s ++ drop i l → set out i x ≡ take (i + 1) s ++ drop (i + 1) l
copied_more {A} s l i d hs hl e is =
    let rest : List A = drop (suc i) l in
    ap₂ (λ (o : List A) (y : A). set o i y) (is ∙ ap (λ (r : List A). take i s ++ r) (drop-cons l i d hl)) e
    ∙ set_at (take i s) (get_or l i d) rest (get_or s i d) i (length-take-le i s (omega arith))
    ∙ sym (append_snoc (take i s) (get_or s i d) rest)
    ∙ ap (λ (r : List A). r ++ rest) (sym (take-suc s i d hs))
    ∙ ap (λ (k : ℕ). take k s ++ drop k l) (sym (add-one i))

pub some_bytes : (width : Width) → 0 < bytes_in width
some_bytes Narrow = omega arith
some_bytes Wide = omega arith

-- there are no more numbers than bytes
pub numbers_few : (w : Words) → length (words_in w) ≤ length w.bytes.now
numbers_few w = subst (λ (n : ℕ). n ≤ length w.bytes.now) (sym (numbers-length (bytes_in w.width) w.bytes.now)) (div-le_self (length w.bytes.now) (bytes_in w.width))

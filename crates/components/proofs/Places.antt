-- Lists written into lent ones from a place on, and entries read back.
use Prim.Native.Nat.{ℕ, zero, suc, ◌+◌, ◌≤◌, ◌<◌}
use native.Mathlib.Omega.{arith}
use mathlib.Core.Path.{◌≡◌, refl, sym, ap, ap₂, ◌∙◌}
use mathlib.Core.Logic.{inl, inr, ⊎_elim}
use mathlib.Core.List.{List, [], ◌∷◌, ◌++◌, map}
use lib.ListN.{length, take, drop, set, length-set, length-append, length-map, take-append-drop, get_or-append}
use lib.Seq.{sets, sets-eq, set-set, length-take-le, get_or-append-add}
use Rattle.sums.specs.Sum.{at}
use Rattle.sums.proofs.Sums.{equal_or_not}
use Rattle.paths.specs.Walk.{In, Below}
use Rattle.paths.proofs.Listed.{in_left}
use Rattle.graph.specs.Work.{Only}
use Rattle.graph.proofs.Frames.{only_refl, only_trans, only_set, at_set_same, at_set_other}
use Rattle.centroid.specs.Regions.{queue_from, met_from, queue_at}
use Rattle.paths.proofs.Listed.{map_same}
use Rattle.components.specs.Entering.{notes}

-- two lists one behind the other
pub sets_join : (s t out : List ℕ) (i : ℕ) → sets (sets out i s) (i + length s) t ≡ sets out i (s ++ t)
sets_join [] t out i = ap (λ (k : ℕ). sets out k t) (let e : i + 0 ≡ i = omega arith in e)
sets_join (x ∷ s) t out i =
    ap (λ (k : ℕ). sets (sets (set out i x) (suc i) s) k t) (let e : i + suc (length s) ≡ suc i + length s = omega arith in e)
    ∙ sets_join s t (set out i x) (suc i)

-- an entry of what was written
pub sets_at : (q out : List ℕ) (i m : ℕ) → i + length q ≤ length out → m < length q → at (sets out i q) (i + m) ≡ at q m
sets_at q out i m fits h =
    let l = length-take-le i out (omega arith) in
    ap (λ (r : List ℕ). at r (i + m)) (sets-eq q out i fits)
    ∙ ap (at (take i out ++ q ++ drop (i + length q) out)) (let e : i + m ≡ length (take i out) + m = omega arith in e)
    ∙ get_or-append (take i out ++ q) (drop (i + length q) out) 0 (length (take i out) + m) (let j = length-append (take i out) q in omega arith)
    ∙ get_or-append-add (take i out) q m 0

-- a first entry that was written before is written over
pub sets_over : (out : List ℕ) (i x y : ℕ) (l r : List ℕ) → l ≡ y ∷ r → sets (set out i x) i l ≡ sets out i l
sets_over out i x y l r e =
    ap (sets (set out i x) i) e ∙ ap (λ (o : List ℕ). sets o (suc i) r) (set-set out i x y) ∙ sym (ap (sets out i) e)

-- a number made of each entry
pub map_at : (f : ℕ → ℕ) (q : List ℕ) (m : ℕ) → m < length q → at (map f q) m ≡ f (at q m)
map_at f [] m h = absurd (omega arith)
map_at f (x ∷ q) zero h = refl
map_at f (x ∷ q) (suc m) h = map_at f q m (omega arith)

-- of two lists one behind the other
pub map_join : (f : ℕ → ℕ) (a b : List ℕ) → map f (a ++ b) ≡ map f a ++ map f b
map_join f [] b = refl
map_join f (x ∷ a) b = ap (λ (l : List ℕ). f x ∷ l) (map_join f a b)

-- a list that was written grows by numbers that are made of new entries
pub sets_grown :
    (f g : ℕ → ℕ) (out l l' q led new : List ℕ) (from t : ℕ) → l ≡ sets out from (map g q) → t ≡ from + length q → led ≡ new
    → ((y : ℕ) → In y new → f y ≡ g y) → l' ≡ sets l t (map f led) → l' ≡ sets out from (map g (q ++ new))
sets_grown f g out l l' q led new from t e₁ e₂ e₃ h e₄ =
    let long = length-map q g in
    e₄
    ∙ ap (λ (r : List ℕ). sets l t (map f r)) e₃
    ∙ ap (sets l t) (map_same f g new h)
    ∙ ap₂ (λ (o : List ℕ) (k : ℕ). sets o k (map g new)) e₁ (let z : t ≡ from + length (map g q) = omega arith in z)
    ∙ sets_join (map g q) (map g new) out from
    ∙ ap (sets out from) (sym (map_join g q new))

-- the first entries of a list stand in it
pub in-front : (x m : ℕ) (q : List ℕ) → In x (take m q) → In x q
in-front x m q i = rw (← take-append-drop m q) (in_left x (take m q) (drop m q) i)

-- notes are written into one region
pub notes_only : (n x : ℕ) (l w : List ℕ) → Below n l → Only (queue_from n) (met_from n) w (notes n x l w)
notes_only n x [] w b = only_refl (queue_from n) (met_from n) w
notes_only n x (y ∷ l) w b =
    let h = b.0 in
    only_trans (only_set w (queue_at n y) x (omega arith) (omega arith)) (notes_only n x l (set w (queue_at n y) x) b.1)

-- a note of v stays where v is what would be noted
pub notes_stay : (n x v z : ℕ) (l w : List ℕ) → met_from n ≤ length w → z < n → (In z l → x ≡ v) → at w (queue_at n z) ≡ v
    → at (notes n x l w) (queue_at n z) ≡ v
notes_stay n x v z [] w room hz f e = e
notes_stay n x v z (y ∷ l) w room hz f e =
    let long = length-set w (queue_at n y) x in
    notes_stay n x v z l (set w (queue_at n y) x) (omega arith) hz (λ i. f (inr i))
    (equal_or_not z y
    (λ q. ap (λ (k : ℕ). at (set w (queue_at n k) x) (queue_at n z)) (sym q) ∙ at_set_same w (queue_at n z) x (omega arith) ∙ f (inl q))
    (λ ne. at_set_other w (queue_at n y) x (queue_at n z) (λ q. ne (omega arith)) ∙ e))

-- each vertex of the list is noted
pub notes_new : (n x z : ℕ) (l w : List ℕ) → met_from n ≤ length w → z < n → In z l → at (notes n x l w) (queue_at n z) ≡ x
notes_new n x z [] w room hz i = absurd i
notes_new n x z (y ∷ l) w room hz i =
    let long = length-set w (queue_at n y) x in
    ⊎_elim
    (λ q. notes_stay n x x z l (set w (queue_at n y) x) (omega arith) hz (λ j. refl)
    (ap (λ (k : ℕ). at (set w (queue_at n k) x) (queue_at n z)) (sym q) ∙ at_set_same w (queue_at n z) x (omega arith)))
    (notes_new n x z l (set w (queue_at n y) x) (omega arith) hz) i

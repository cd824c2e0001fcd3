-- The next state of a decomposition: the first entry is taken and the neighbours of its centroid wait behind the others.
use Prim.Native.Nat.{ℕ, ◌+◌, ◌-◌, ◌≤◌, ◌<◌}
use native.Mathlib.Omega.{arith}
use native.Mathlib.Decide.{dec_lt}
use mathlib.Core.Path.{◌≡◌, sym, ap, ◌∙◌, subst, subst₂, subst₃}
use mathlib.Core.Logic.{◌≢◌, by_cases}
use mathlib.Core.Bool.{true}
use mathlib.Core.List.{List}
use lib.Dec.{leb}
use lib.ListN.{length}
use Rattle.sums.specs.Sum.{at}
use Rattle.sums.proofs.Sums.{equal_or_not}
use Rattle.paths.specs.Walk.{In, NoDup, Stands}
use Rattle.paths.specs.Rooted.{Spans}
use Rattle.paths.specs.Route.{ptail}
use Rattle.paths.proofs.Listed.{in_at, nodup_at}
use Rattle.centroid.specs.Components.{CentroidFrom}
use Rattle.centroid.specs.Search.{joined_by}
use Rattle.centroid.specs.Parting.{Entry, Parting}
use Rattle.centroid.proofs.Classes.{joined_turn}
use Rattle.centroid.proofs.Removing.{Changed, still-left, was-joined, stays-joined, old_entry, new_entry, old_apart, new_apart, covered, one_more}
use Rattle.centroid.proofs.Rows.{rows}

-- K lists the neighbours of c that are left, once each
pub record LeftBeside (n : ℕ) (A : ℕ → List ℕ) (lv : ℕ → ℕ) (c : ℕ) (K : List ℕ) : Type 0 where
  pub near : (i : ℕ) → i < length K → In (at K i) (A c)
  pub below : (i : ℕ) → i < length K → at K i < n
  pub left : (i : ℕ) → i < length K → n ≤ lv (at K i)
  pub all : (y : ℕ) → y < n → In y (A c) → n ≤ lv y → In y K
  pub once : NoDup K

-- f' goes on from f at t with the m values of g
pub record Extended (t m : ℕ) (g f f' : ℕ → ℕ) : Type 0 where
  pub old : (j : ℕ) → j < t → f' j ≡ f j
  pub new : (i : ℕ) → i < m → f' (t + i) ≡ g i

module _ {n : ℕ} {A : ℕ → List ℕ} {par dep : ℕ → ℕ} (Sp : Spans n (Stands A) 0 par dep) {S P L lv up : ℕ → ℕ} {h t : ℕ}
    (G : Parting n A (ptail par dep) S P L lv up h t) (more : h < t) {c : ℕ} (hc : c < n)
    (F : CentroidFrom n (ptail par dep) (joined_by (ptail par dep) (λ y. leb n (lv y)) (S h)) (S h) c)
    {lv' up' : ℕ → ℕ} (C : Changed c (L h) lv lv') (U : Changed c (P h) up up') {K : List ℕ} (B : LeftBeside n A lv' c K)
    {S' P' L' : ℕ → ℕ} (ES : Extended t (length K) (at K) S S') (EP : Extended t (length K) (λ i. c) P P') (EL : Extended t (length K) (λ i. L h + 1) L L') where
  -- an entry waited before, or is a neighbour
  old_or_new : {D : Type 0} (j : ℕ) → h + 1 ≤ j → j < t + length K → (h < j → j < t → D) → ((i : ℕ) → i < length K → j ≡ t + i → D) → D
  old_or_new j a b f g = by_cases (dec_lt j t) (λ lt. f (omega arith) lt) (λ ge. g (j - t) (omega arith) (omega arith))

  start_new : {j : ℕ} (i : ℕ) → i < length K → j ≡ t + i → S' j ≡ at K i
  start_new i hi e = ap S' e ∙ ES.new i hi

  level_new : {j : ℕ} (i : ℕ) → i < length K → j ≡ t + i → L' j ≡ L h + 1
  level_new i hi e = ap L' e ∙ EL.new i hi

  entries : (j : ℕ) → h + 1 ≤ j → j < t + length K → Entry n A (ptail par dep) lv' (S' j) (P' j) (L' j)
  entries j a b =
      old_or_new j a b
      (λ later lt. subst₃ (Entry n A (ptail par dep) lv') (sym (ES.old j lt)) (sym (EP.old j lt)) (sym (EL.old j lt)) (old_entry Sp G more hc F C later lt))
      (λ i hi e. subst₃ (Entry n A (ptail par dep) lv') (sym (start_new i hi e)) (sym (ap P' e ∙ EP.new i hi)) (sym (level_new i hi e))
      (new_entry Sp G more hc F C (B.near i hi) (B.below i hi) (B.left i hi)))

  apart : (j l : ℕ) → h + 1 ≤ j → j < t + length K → h + 1 ≤ l → l < t + length K → j ≢ l → joined_by (ptail par dep) (λ y. leb n (lv' y)) (S' j) (S' l) ≡ true → ⊥
  apart j l a b d e ne on =
      old_or_new j a b
      (λ lj tj. old_or_new l d e
      (λ ll tl. G.apart j l (omega arith) tj (omega arith) tl ne
      (was-joined Sp G more hc F C n (G.entries j (omega arith) tj).below (G.entries l (omega arith) tl).below
      (subst₂ (λ (x y : ℕ). joined_by (ptail par dep) (λ z. leb n (lv' z)) x y ≡ true) (ES.old j tj) (ES.old l tl) on)))
      (λ i hi q. old_apart Sp G more hc F C (B.near i hi) (B.below i hi) (B.left i hi) lj tj
      (subst₂ (λ (x y : ℕ). joined_by (ptail par dep) (λ z. leb n (lv' z)) x y ≡ true) (ES.old j tj) (start_new i hi q) on)))
      (λ i hi q. old_or_new l d e
      (λ ll tl. old_apart Sp G more hc F C (B.near i hi) (B.below i hi) (B.left i hi) ll tl
      (joined_turn Sp.rooted (λ z. leb n (lv' z)) (B.below i hi) (G.entries l (omega arith) tl).below
      (subst₂ (λ (x y : ℕ). joined_by (ptail par dep) (λ z. leb n (lv' z)) x y ≡ true) (start_new i hi q) (ES.old l tl) on)))
      (λ k hk r. new_apart Sp G more hc F C (B.near i hi) (B.below i hi) (B.left i hi) (B.near k hk) (B.below k hk)
      (λ same. (let z = nodup_at K B.once i k hi hk same in omega arith))
      (subst₂ (λ (x y : ℕ). joined_by (ptail par dep) (λ z. leb n (lv' z)) x y ≡ true) (start_new i hi q) (start_new k hk r) on)))

  cover : (x : ℕ) → x < n → n ≤ lv' x → (j : ℕ) × (h + 1 ≤ j) × (j < t + length K) × (joined_by (ptail par dep) (λ y. leb n (lv' y)) (S' j) x ≡ true)
  cover x hx l =
      let r = G.cover x hx (still-left Sp G more hc F C x l) in
      let j : ℕ = r.0 in
      let on : joined_by (ptail par dep) (λ y. leb n (lv y)) (S j) x ≡ true = r.3 in
      equal_or_not j h
      (λ e.
      let y = covered Sp G more hc F C x hx l (subst (λ (k : ℕ). joined_by (ptail par dep) (λ y. leb n (lv y)) (S k) x ≡ true) e on) in
      let i = in_at y.0 K (B.all y.0 y.1 y.2 y.3) in (
        t + i.0,
        omega arith,
        omega (arith, i.1),
        subst (λ (v : ℕ). joined_by (ptail par dep) (λ z. leb n (lv' z)) v x ≡ true) (sym (ES.new i.0 i.1 ∙ i.2)) y.4,
      ))
      (λ ne.
      let later : h < j = omega (arith, r.1) in (
        j,
        omega arith,
        omega (arith, r.2),
        subst (λ (v : ℕ). joined_by (ptail par dep) (λ z. leb n (lv' z)) v x ≡ true) (sym (ES.old j r.2)) (stays-joined Sp G more hc F C later r.2 x hx on),
      ))

  sorted : (j l : ℕ) → h + 1 ≤ j → j ≤ l → l < t + length K → L' j ≤ L' l
  sorted j l a b d =
      old_or_new j a (omega arith)
      (λ lj tj. old_or_new l (omega arith) d
      (λ ll tl. (let x = EL.old j tj in let y = EL.old l tl in let s = G.sorted j l (omega arith) b tl in omega arith))
      (λ i hi q. (let x = EL.old j tj in let y = level_new i hi q in let s = G.close h j (omega arith) more (omega arith) tj in omega arith)))
      (λ i hi q. old_or_new l (omega arith) d
      (λ ll tl. absurd (omega arith))
      (λ k hk r. (let x = level_new i hi q in let y = level_new k hk r in omega arith)))

  close : (j l : ℕ) → h + 1 ≤ j → j < t + length K → h + 1 ≤ l → l < t + length K → L' l ≤ L' j + 1
  close j l a b d e =
      old_or_new j a b
      (λ lj tj. old_or_new l d e
      (λ ll tl. (let x = EL.old j tj in let y = EL.old l tl in let s = G.close j l (omega arith) tj (omega arith) tl in omega arith))
      (λ i hi q. (let x = EL.old j tj in let y = level_new i hi q in let s = G.sorted h j (omega arith) (omega arith) tj in omega arith)))
      (λ i hi q. old_or_new l d e
      (λ ll tl. (let x = level_new i hi q in let y = EL.old l tl in let s = G.close h l (omega arith) more (omega arith) tl in omega arith))
      (λ k hk r. (let x = level_new i hi q in let y = level_new k hk r in omega arith)))

  small : (j : ℕ) → h + 1 ≤ j → j < t + length K → L' j ≤ j
  small j a b =
      old_or_new j a b
      (λ lj tj. (let x = EL.old j tj in let s = G.small j (omega arith) tj in omega arith))
      (λ i hi q. (let x = level_new i hi q in let s = G.small h (omega arith) more in omega arith))

  -- the state after one more removal
  pub parting_more : Parting n A (ptail par dep) S' P' L' lv' up' (h + 1) (t + length K)
  parting_more =
      record {
        within = omega arith;
        removed = one_more Sp G more hc F C;
        centroids = rows Sp G more hc F C U;
        entries = entries;
        apart = apart;
        cover = cover;
        sorted = sorted;
        close = close;
        small = small;
      }

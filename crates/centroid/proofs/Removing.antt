-- One centroid is removed: what waits stays as it was, and its neighbours that are left wait.
use Prim.Native.Nat.{ℕ, ◌+◌, ◌≤◌, ◌<◌}
use native.Mathlib.Omega.{arith}
use mathlib.Core.Path.{◌≡◌, refl, sym, ap, ◌∙◌, subst}
use mathlib.Core.Logic.{◌≢◌, inr, ⊎_elim}
use mathlib.Core.Bool.{true}
use mathlib.Core.List.{List, ◌∷◌}
use lib.Dec.{ltb, leb}
use borrow.Author.Tests.{lt-ltb, le-ltb, le-leb, leb-true}
use Rattle.sums.specs.Sum.{tally, how_many}
use Rattle.sums.proofs.Sums.{equal_or_not, sum_change}
use Rattle.paths.specs.Walk.{In, Stands}
use Rattle.paths.specs.Rooted.{Spans}
use Rattle.paths.specs.Route.{ptail, On}
use Rattle.paths.proofs.Listed.{out_not}
use Rattle.paths.proofs.Steps.{on_below, path_once}
use Rattle.centroid.specs.Components.{CentroidFrom}
use Rattle.centroid.specs.Search.{joined_by}
use Rattle.centroid.specs.Parting.{Pends, first, next, Entry, Parting}
use Rattle.centroid.proofs.Classes.{joined_on, on-joined, joined_self, joined_first, joined_last, joined_turn, joined_trans, joined-part, joined_weaker}
use Rattle.centroid.proofs.Between.{Linked, linked_step, next_on, through}
use Rattle.centroid.proofs.Pending.{parting_few}

-- f' is f with x at c
pub record Changed (c x : ℕ) (f f' : ℕ → ℕ) : Type 0 where
  pub here : f' c ≡ x
  pub there : (y : ℕ) → y ≢ c → f' y ≡ f y

module _ {n : ℕ} {A : ℕ → List ℕ} {par dep : ℕ → ℕ} (Sp : Spans n (Stands A) 0 par dep) {S P L lv up : ℕ → ℕ} {h t : ℕ}
    (G : Parting n A (ptail par dep) S P L lv up h t) (more : h < t) {c : ℕ} (hc : c < n)
    (F : CentroidFrom n (ptail par dep) (joined_by (ptail par dep) (λ y. leb n (lv y)) (S h)) (S h) c)
    {lv' : ℕ → ℕ} (C : Changed c (L h) lv lv') where
  -- the entry that is taken
  pub head : Entry n A (ptail par dep) lv (S h) (P h) (L h)
  head = G.entries h (omega arith) more

  hs : S h < n
  hs = head.below

  -- the level is below n
  pub level_small : L h < n
  level_small = (let s = G.small h (omega arith) more in let f = parting_few Sp G in omega arith)

  -- the centroid was left, and is joined to the start
  pub c-left : n ≤ lv c
  c-left = leb-true n (lv c) (joined_last Sp.rooted (λ y. leb n (lv y)) hs hc F.inside)

  -- levels only fall
  falls : (y : ℕ) → lv' y ≤ lv y
  falls y = equal_or_not y c
      (λ e. (let a = ap lv' e ∙ C.here in let b = ap lv e in let k = level_small in let l = c-left in omega arith))
      (λ ne. (let e = C.there y ne in omega arith))

  -- what is left afterwards was left before, and is not the centroid
  pub still-left : (y : ℕ) → n ≤ lv' y → n ≤ lv y
  still-left y l = (let f = falls y in omega arith)

  not_centroid : (y : ℕ) → n ≤ lv' y → y ≢ c
  not_centroid y l e = (let a = ap lv' e ∙ C.here in let k = level_small in omega arith)

  stays-left : (y : ℕ) → y ≢ c → n ≤ lv y → n ≤ lv' y
  stays-left y ne l = (let e = C.there y ne in omega arith)

  -- at any level, what is joined afterwards was joined before
  pub was-joined : (m : ℕ) {s x : ℕ} → s < n → x < n → joined_by (ptail par dep) (λ y. leb m (lv' y)) s x ≡ true → joined_by (ptail par dep) (λ y. leb m (lv y)) s x ≡ true
  was-joined m {s} {x} hs hx e =
      joined_weaker Sp.rooted (λ y. leb m (lv' y)) (λ y. leb m (lv y)) hs hx
      (λ y hy k. le-leb m (lv y) (let a = leb-true m (lv' y) k in let f = falls y in omega arith)) e

  -- what is joined to an entry's start at its level is left, all the way
  pub all_left : {s p l : ℕ} → Entry n A (ptail par dep) lv s p l → (x : ℕ) → x < n → joined_by (ptail par dep) (λ y. leb l (lv y)) s x ≡ true
      → joined_by (ptail par dep) (λ y. leb n (lv y)) s x ≡ true
  all_left {s} {p} {l} E x hx e =
      on-joined Sp.rooted (λ y. leb n (lv y)) s x
      (λ z on. le-leb n (lv z)
      (E.own z (on_below Sp.rooted z E.below hx on) (joined-part Sp.rooted (λ y. leb l (lv y)) z E.below hx e on)))

  -- what is joined to another start that waits does not meet the centroid
  module _ {j : ℕ} (later : h < j) (hj : j < t) where
    misses : (x : ℕ) → x < n → joined_by (ptail par dep) (λ y. leb n (lv y)) (S j) x ≡ true → On par dep c (S j) x → ⊥
    misses x hx e on =
        let E = G.entries j (omega arith) hj in
        G.apart j h (omega arith) hj (omega arith) more (omega arith)
        (joined_trans Sp.rooted (λ y. leb n (lv y)) E.below hc hs (joined-part Sp.rooted (λ y. leb n (lv y)) c E.below hx e on)
        (joined_turn Sp.rooted (λ y. leb n (lv y)) hs hc F.inside))

    -- so it stays joined
    pub stays-joined : (x : ℕ) → x < n → joined_by (ptail par dep) (λ y. leb n (lv y)) (S j) x ≡ true → joined_by (ptail par dep) (λ y. leb n (lv' y)) (S j) x ≡ true
    stays-joined x hx e =
        on-joined Sp.rooted (λ y. leb n (lv' y)) (S j) x
        (λ z on. le-leb n (lv' z)
        (stays-left z (λ q. misses x hx e (subst (λ (v : ℕ). On par dep v (S j) x) q on))
        (leb-true n (lv z) (joined_on Sp.rooted (λ y. leb n (lv y)) (S j) x z e on))))

    -- an entry that waited waits on
    pub old_entry : Entry n A (ptail par dep) lv' (S j) (P j) (L j)
    old_entry =
        let E = G.entries j (omega arith) hj in
        record {
          below = E.below;
          left = leb-true n (lv' (S j))
              (joined_first Sp.rooted (λ y. leb n (lv' y)) (S j) (S j) (stays-joined (S j) E.below (joined_self Sp.rooted (λ y. leb n (lv y)) (S j) (le-leb n (lv (S j)) E.left))));
          began = pends E.began;
          own = λ x hx e. leb-true n (lv' x)
              (joined_last Sp.rooted (λ y. leb n (lv' y)) E.below hx (stays-joined x hx (all_left E x hx (was-joined (L j) E.below hx e))));
          later = λ z hz l. equal_or_not z c
              (λ q. (let a = ap lv' q ∙ C.here in let s = G.sorted h j (omega arith) (omega arith) hj in omega arith))
              (λ ne. (let a = C.there z ne in let b = E.later z hz (omega arith) in omega arith));
        }
      where
        pends : Pends n A lv (S j) (P j) (L j) → Pends n A lv' (S j) (P j) (L j)
        pends (first a b d) = first a b d
        pends (next a b d e) =
            let z : lv' (P j) ≡ lv (P j) = C.there (P j) (λ q. (let x = ap lv q in let y = c-left in omega arith)) in
            next a (omega arith) d (omega arith)

  -- a neighbour of the centroid that is left
  module _ {y : ℕ} (near : In y (A c)) (hy : y < n) (ly : n ≤ lv' y) where
    linked : Linked par dep c y
    linked = Sp.only c y hc hy near

    -- it is joined to the start before
    near-joined : joined_by (ptail par dep) (λ z. leb n (lv z)) c y ≡ true
    near-joined =
        on-joined Sp.rooted (λ z. leb n (lv z)) c y
        (λ z on. ⊎_elim (λ e. ap (λ (v : ℕ). leb n (lv v)) e ∙ le-leb n (lv c) c-left)
        (λ i. ⊎_elim (λ e. ap (λ (v : ℕ). leb n (lv v)) e ∙ le-leb n (lv y) (still-left y ly)) absurd
        (subst (λ (m : List ℕ). In z m) (linked_step Sp.rooted hc hy linked) i)) on)

    start-joined : joined_by (ptail par dep) (λ z. leb n (lv z)) (S h) y ≡ true
    start-joined = joined_trans Sp.rooted (λ z. leb n (lv z)) hs hc hy F.inside near-joined

    -- so it can wait, one level below the centroid
    pub new_entry : Entry n A (ptail par dep) lv' y c (L h + 1)
    new_entry =
        record {
          below = hy;
          left = ly;
          began = next hc (let e = C.here in let k = level_small in omega arith) near (let e = C.here in omega arith);
          own = own;
          later = λ z hz l. equal_or_not z c
              (λ q. (let a = ap lv' q ∙ C.here in omega arith))
              (λ ne. (let a = C.there z ne in let b = head.later z hz (omega arith) in omega arith));
        }
      where
        lower : (x : ℕ) → x < n → joined_by (ptail par dep) (λ z. leb (L h + 1) (lv' z)) y x ≡ true → joined_by (ptail par dep) (λ z. leb (L h) (lv z)) y x ≡ true
        lower x hx e = joined_weaker Sp.rooted (λ z. leb (L h + 1) (lv' z)) (λ z. leb (L h) (lv z)) hy hx
            (λ z hz k. le-leb (L h) (lv z) (let a = leb-true (L h + 1) (lv' z) k in let f = falls z in omega arith)) e

        own : (x : ℕ) → x < n → joined_by (ptail par dep) (λ z. leb (L h + 1) (lv' z)) y x ≡ true → n ≤ lv' x
        own x hx e =
            let from_start : joined_by (ptail par dep) (λ z. leb (L h) (lv z)) (S h) y ≡ true
            = joined_weaker Sp.rooted (λ z. leb n (lv z)) (λ z. leb (L h) (lv z)) hs hy
            (λ z hz k. le-leb (L h) (lv z) (let a = leb-true n (lv z) k in let b = level_small in omega arith)) start-joined in
            let l : n ≤ lv x = head.own x hx (joined_trans Sp.rooted (λ z. leb (L h) (lv z)) hs hy hx from_start (lower x hx e)) in
            let up = leb-true (L h + 1) (lv' x) (joined_last Sp.rooted (λ z. leb (L h + 1) (lv' z)) hy hx e) in
            stays-left x (λ q. (let a = ap lv' q ∙ C.here in omega arith)) l

    -- it is apart from the others that waited
    pub old_apart : {j : ℕ} → h < j → j < t → joined_by (ptail par dep) (λ z. leb n (lv' z)) (S j) y ≡ true → ⊥
    old_apart {j} later hj e =
        let E = G.entries j (omega arith) hj in
        G.apart j h (omega arith) hj (omega arith) more (omega arith)
        (joined_trans Sp.rooted (λ z. leb n (lv z)) E.below hy hs (was-joined n E.below hy e)
        (joined_turn Sp.rooted (λ z. leb n (lv z)) hs hy start-joined))

    -- and from the other neighbours
    pub new_apart : {z : ℕ} → In z (A c) → z < n → y ≢ z → joined_by (ptail par dep) (λ x. leb n (lv' x)) y z ≡ true → ⊥
    new_apart {z} nz hz ne e =
        not_centroid c (leb-true n (lv' c) (joined_on Sp.rooted (λ x. leb n (lv' x)) y z c e (through Sp.rooted hc hy hz linked (Sp.only c z hc hz nz) ne))) refl

  -- what was joined to the start is joined to a neighbour of the centroid
  pub covered : (x : ℕ) → x < n → n ≤ lv' x → joined_by (ptail par dep) (λ y. leb n (lv y)) (S h) x ≡ true
      → (y : ℕ) × (y < n) × In y (A c) × (n ≤ lv' y) × (joined_by (ptail par dep) (λ z. leb n (lv' z)) y x ≡ true)
  covered x hx l e =
      let cx : joined_by (ptail par dep) (λ y. leb n (lv y)) c x ≡ true
      = joined_trans Sp.rooted (λ y. leb n (lv y)) hc hs hx (joined_turn Sp.rooted (λ y. leb n (lv y)) hs hc F.inside) e in
      let nx = next_on A Sp hc hx (λ q. not_centroid x l (sym q)) in
      let y : ℕ = nx.0 in
      let once : In c (y ∷ ptail par dep y x) → ⊥
      = λ i. out_not c (ptail par dep c x) (path_once Sp.rooted hc hx).0 (subst (λ (m : List ℕ). In c m) (sym nx.3.path) i) in
      let yx : joined_by (ptail par dep) (λ z. leb n (lv' z)) y x ≡ true
      = on-joined Sp.rooted (λ z. leb n (lv' z)) y x
      (λ z on. le-leb n (lv' z)
      (stays-left z (λ q. once (subst (λ (v : ℕ). In v (y ∷ ptail par dep y x)) q on))
      (leb-true n (lv z) (joined_on Sp.rooted (λ v. leb n (lv v)) c x z cx (inr (subst (λ (m : List ℕ). In z m) (sym nx.3.path) on)))))) in
      (y, nx.1, nx.2, leb-true n (lv' y) (joined_first Sp.rooted (λ z. leb n (lv' z)) y x yx), yx)

  -- one vertex more is removed
  pub one_more : how_many n (λ x. ltb (lv' x) n) ≡ h + 1
  one_more =
      let a : tally (ltb (lv' c) n) ≡ 1 = ap tally (lt-ltb (lv' c) n (let e = C.here in let k = level_small in omega arith)) in
      let b : tally (ltb (lv c) n) ≡ 0 = ap tally (le-ltb (lv c) n c-left) in
      sum_change n c 1 (λ x. tally (ltb (lv x) n)) (λ x. tally (ltb (lv' x) n)) hc (omega arith)
      (λ x hx ne. ap (λ (l : ℕ). tally (ltb l n)) (C.there x ne))
      ∙ ap (λ (m : ℕ). m + 1) G.removed

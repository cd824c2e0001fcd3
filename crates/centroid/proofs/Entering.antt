-- The visit of a component in work: looking through the list of one position, and from position to position.
use Prim.Native.Nat.{ℕ, ◌+◌, ◌≤◌, ◌<◌}
use native.Mathlib.Omega.{arith}
use mathlib.Core.Path.{◌≡◌, sym, ap, ◌∙◌, subst, subst₂}
use mathlib.Core.Logic.{◌≢◌}
use mathlib.Core.Bool.{Bool, true, false}
use mathlib.Core.List.{List}
use lib.ListN.{length, set, length-set}
use Rattle.sums.specs.Sum.{at}
use Rattle.sums.proofs.Sums.{up_to}
use Rattle.paths.specs.Walk.{Stands}
use Rattle.paths.specs.Rooted.{Spans}
use Rattle.paths.specs.Route.{ptail}
use Rattle.graph.specs.Lent.{list_of}
use Rattle.graph.specs.Work.{Only}
use Rattle.graph.proofs.Frames.{only_refl, only_trans, only_set, at_set_same, at_set_other}
use Rattle.graph.proofs.Neighbours.{entry-below}
use Rattle.visit.proofs.Growing.{upd, upd_here, upd_there}
use Rattle.centroid.specs.Regions.{queue_from, queue_at, from_at, size_at, regions_end}
use Rattle.centroid.specs.Search.{LentTree, live, Spread, SpreadIn, EnterAsks, entered, Entered, gone, returning, new, ListAsks}
use Rattle.centroid.proofs.Living.{live_behind}
use Rattle.centroid.proofs.Spreading.{spread_few, back_inside, spread_gone, spread_back, new_room, spread_new}

-- what a new vertex changes in work
module _ (n x i t : ℕ) (w : List ℕ) (room : regions_end n ≤ length w) (ht : t < n) where
  entered_other : (j : ℕ) → j ≢ queue_at n t → j ≢ from_at n t → j ≢ size_at n t → at (entered n x i t w) j ≡ at w j
  entered_other j a b c =
      at_set_other (set (set w (queue_at n t) x) (from_at n t) i) (size_at n t) 1 j c
      ∙ at_set_other (set w (queue_at n t) x) (from_at n t) i j b
      ∙ at_set_other w (queue_at n t) x j a

  entered_only : Only (queue_from n) (regions_end n) w (entered n x i t w)
  entered_only =
      only_trans (only_set w (queue_at n t) x (omega arith) (omega arith))
      (only_trans (only_set (set w (queue_at n t) x) (from_at n t) i (omega arith) (omega arith))
      (only_set (set (set w (queue_at n t) x) (from_at n t) i) (size_at n t) 1 (omega arith) (omega arith)))

  entered_queue : at (entered n x i t w) (queue_at n t) ≡ x
  entered_queue =
      at_set_other (set (set w (queue_at n t) x) (from_at n t) i) (size_at n t) 1 (queue_at n t) (omega arith)
      ∙ at_set_other (set w (queue_at n t) x) (from_at n t) i (queue_at n t) (omega arith)
      ∙ at_set_same w (queue_at n t) x (omega arith)

  entered_from : at (entered n x i t w) (from_at n t) ≡ i
  entered_from =
      at_set_other (set (set w (queue_at n t) x) (from_at n t) i) (size_at n t) 1 (from_at n t) (omega arith)
      ∙ at_set_same (set w (queue_at n t) x) (from_at n t) i (omega (arith, length-set w (queue_at n t) x))

  entered_size : at (entered n x i t w) (size_at n t) ≡ 1
  entered_size =
      at_set_same (set (set w (queue_at n t) x) (from_at n t) i) (size_at n t) 1
      (omega (arith, length-set w (queue_at n t) x, length-set (set w (queue_at n t) x) (from_at n t) i))

-- the list of position i is looked through: k of its entries so far, with work w₀ at its start
pub record Entering (os ts : List ℕ) (n i : ℕ) (w₀ w : List ℕ) (k t : ℕ) : Type 0 where
  pub spread : SpreadIn os ts n (at w₀ (queue_from n)) w i k t
  pub inside : i < t
  pub here : spread.q i ≡ at w₀ (queue_at n i)
  pub back : spread.q (spread.p i) ≡ at w₀ (queue_at n (at w₀ (from_at n i)))
  pub only : Only (queue_from n) (regions_end n) w₀ w

module _ (os ts : List ℕ) (n i : ℕ) (w₀ : List ℕ) (tree : LentTree os ts n) (room : regions_end n ≤ length w₀) where
  -- the visit as one of the tree that is at hand
  now_spread : {s k t : ℕ} {w : List ℕ} (m : SpreadIn os ts n s w i k t) → Spread n (list_of os ts) (ptail tree.par tree.dep) (live w n) s m.q m.p i k t
  now_spread m = m.spread tree.par tree.dep tree.spans

  entering_few : {k t : ℕ} {w : List ℕ} → Entering os ts n i w₀ w k t → t ≤ n
  entering_few L = spread_few (now_spread L.spread)

  -- the vertex of an entry that is looked at
  entry_vertex : {k t : ℕ} {w : List ℕ} (L : Entering os ts n i w₀ w k t) → k < length (list_of os ts (at w₀ (queue_at n i))) → at (list_of os ts (at w₀ (queue_at n i))) k < n
  entry_vertex {k} {t} {w} L hk =
      let hu = (now_spread L.spread).below i L.inside in
      let z = tree.size in
      let e = L.here in
      let h = entry-below os ts tree.offsets tree.targets (at w₀ (queue_at n i)) k (omega arith) hk in
      omega arith

  module _ {k t : ℕ} {w : List ℕ} (L : Entering os ts n i w₀ w k t) (hk : k < length (list_of os ts (at w₀ (queue_at n i)))) where
    same_entry : at (list_of os ts (L.spread.q i)) k ≡ at (list_of os ts (at w₀ (queue_at n i))) k
    same_entry = ap (λ (u : ℕ). at (list_of os ts u) k) L.here

    entry_inside : k < length (list_of os ts (L.spread.q i))
    entry_inside = subst (λ (u : ℕ). k < length (list_of os ts u)) (sym L.here) hk

    entry-below_n : at (list_of os ts (L.spread.q i)) k < n
    entry-below_n = (let e = same_entry in let h = entry_vertex L hk in omega arith)

    start_below : at w₀ (queue_from n) < n
    start_below = (let M = now_spread L.spread in let h = M.below 0 M.some in let e = M.start in omega arith)

    not_back : at (list_of os ts (at w₀ (queue_at n i))) k ≢ at w₀ (queue_at n (at w₀ (from_at n i))) → at (list_of os ts (L.spread.q i)) k ≢ L.spread.q (L.spread.p i)
    not_back ne e = ne (sym same_entry ∙ e ∙ L.back)

    room_for : at (list_of os ts (at w₀ (queue_at n i))) k ≢ at w₀ (queue_at n (at w₀ (from_at n i))) → t < n
    room_for ne = new_room tree.spans tree.once (now_spread L.spread) L.inside entry_inside entry-below_n start_below (not_back ne)

    entering_asks : EnterAsks n (at (list_of os ts (at w₀ (queue_at n i))) k) (at w₀ (queue_at n (at w₀ (from_at n i)))) i t w
    entering_asks =
        record {
          small = tree.small;
          vertex = entry_vertex L hk;
          position = (let h = L.inside in let f = entering_few L in omega arith);
          fresh = λ e ne. room_for ne;
          room = omega (arith, L.only.same_length);
        }

    -- an entry that is not entered
    past : ((par dep : ℕ → ℕ) → Spans n (Stands (list_of os ts)) 0 par dep → Spread n (list_of os ts) (ptail par dep) (live w n) (at w₀ (queue_from n)) L.spread.q L.spread.p i (k + 1) t)
        → Entering os ts n i w₀ w (k + 1) t
    past f =
        record {
          spread = record { q = L.spread.q; p = L.spread.p; queue = L.spread.queue; from = L.spread.from; ones = L.spread.ones; spread = f };
          inside = L.inside;
          here = L.here;
          back = L.back;
          only = L.only;
        }

    more_gone : live w n (at (list_of os ts (at w₀ (queue_at n i))) k) ≡ false → Entering os ts n i w₀ w (k + 1) t
    more_gone e = past (λ par dep S. spread_gone (L.spread.spread par dep S) (ap (live w n) same_entry ∙ e))

    more_back : at (list_of os ts (at w₀ (queue_at n i))) k ≡ at w₀ (queue_at n (at w₀ (from_at n i))) → Entering os ts n i w₀ w (k + 1) t
    more_back e = past (λ par dep S. spread_back (L.spread.spread par dep S) L.inside (same_entry ∙ e ∙ sym L.back))

    more_new : live w n (at (list_of os ts (at w₀ (queue_at n i))) k) ≡ true → at (list_of os ts (at w₀ (queue_at n i))) k ≢ at w₀ (queue_at n (at w₀ (from_at n i)))
        → Entering os ts n i w₀ (entered n (at (list_of os ts (at w₀ (queue_at n i))) k) i t w) (k + 1) (t + 1)
    more_new alive ne =
        let x : ℕ = at (list_of os ts (at w₀ (queue_at n i))) k in
        let y : ℕ = at (list_of os ts (L.spread.q i)) k in
        let w' : List ℕ = entered n x i t w in
        let q : ℕ → ℕ = L.spread.q in
        let p : ℕ → ℕ = L.spread.p in
        let ht : t < n = room_for ne in
        let hi : i < t = L.inside in
        let rw' : regions_end n ≤ length w = omega (arith, L.only.same_length) in
        let o : Only (queue_from n) (regions_end n) w w' = entered_only n x i t w rw' ht in
        let bi : p i < t = back_inside (now_spread L.spread) hi in
        let old-q : (j : ℕ) → j < t → upd q t y j ≡ q j = λ j h. upd_there q t y j (omega arith) in
        let old-p : (j : ℕ) → j < t → upd p t i j ≡ p j = λ j h. upd_there p t i j (omega arith) in
        record {
          spread = record {
            q = upd q t y;
            p = upd p t i;
            queue = λ j h. up_to j t h
                (λ lt. entered_other n x i t w rw' ht (queue_at n j) (omega arith) (omega arith) (omega arith) ∙ L.spread.queue j lt ∙ sym (old-q j lt))
                (λ e. ap (λ (l : ℕ). at w' (queue_at n l)) e ∙ entered_queue n x i t w rw' ht ∙ sym (ap (upd q t y) e ∙ upd_here q t y ∙ same_entry));
            from = λ j h. up_to j t h
                (λ lt. entered_other n x i t w rw' ht (from_at n j) (omega arith) (omega arith) (omega arith) ∙ L.spread.from j lt ∙ sym (old-p j lt))
                (λ e. ap (λ (l : ℕ). at w' (from_at n l)) e ∙ entered_from n x i t w rw' ht ∙ sym (ap (upd p t i) e ∙ upd_here p t i));
            ones = λ j h. up_to j t h
                (λ lt. entered_other n x i t w rw' ht (size_at n j) (omega arith) (omega arith) (omega arith) ∙ L.spread.ones j lt)
                (λ e. ap (λ (l : ℕ). at w' (size_at n l)) e ∙ entered_size n x i t w rw' ht);
            spread = λ par dep S.
                subst (λ (g : ℕ → Bool). Spread n (list_of os ts) (ptail par dep) g (at w₀ (queue_from n)) (upd q t y) (upd p t i) i (k + 1) (t + 1))
                (sym (live_behind n (regions_end n) o))
                (spread_new S tree.once (L.spread.spread par dep S) hi entry_inside entry-below_n start_below (not_back ne) (ap (live w n) same_entry ∙ alive));
          };
          inside = omega arith;
          here = old-q i hi ∙ L.here;
          back = ap (upd q t y) (old-p i hi) ∙ old-q (p i) bi ∙ L.back;
          only = only_trans L.only o;
        }

    -- one entry more
    entering_more : {w' : List ℕ} {t' : ℕ} → Entered n (at (list_of os ts (at w₀ (queue_at n i))) k) (at w₀ (queue_at n (at w₀ (from_at n i)))) i t w w' t'
        → Entering os ts n i w₀ w' (k + 1) t'
    entering_more {w'} {t'} (gone e same r) = subst₂ (λ (v : List ℕ) (m : ℕ). Entering os ts n i w₀ v (k + 1) m) (sym same) (sym r) (more_gone e)
    entering_more {w'} {t'} (returning e same r) = subst₂ (λ (v : List ℕ) (m : ℕ). Entering os ts n i w₀ v (k + 1) m) (sym same) (sym r) (more_back e)
    entering_more {w'} {t'} (new e ne same r) = subst₂ (λ (v : List ℕ) (m : ℕ). Entering os ts n i w₀ v (k + 1) m) (sym same) (sym r) (more_new e ne)

-- the positions that are read first
pub asks_few : {os ts : List ℕ} {n i t : ℕ} {w : List ℕ} → ListAsks os ts n i t w → (i < n) × (at w (from_at n i) < n)
asks_few {os} {ts} {n} {i} {t} {w} a =
    let M = a.spread.spread a.tree.par a.tree.dep a.tree.spans in
    let few = spread_few M in
    let back = back_inside M a.inside in
    let e = a.spread.from i a.inside in
    let h = a.inside in
    (omega arith, omega arith)

-- no entry was looked at
pub entering_start : {os ts : List ℕ} {n i t : ℕ} {w : List ℕ} → ListAsks os ts n i t w → Entering os ts n i w w 0 t
entering_start {os} {ts} {n} {i} {t} {w} a =
    let M = a.spread.spread a.tree.par a.tree.dep a.tree.spans in
    record {
      spread = a.spread;
      inside = a.inside;
      here = sym (a.spread.queue i a.inside);
      back = sym (ap (λ (j : ℕ). at w (queue_at n j)) (a.spread.from i a.inside) ∙ a.spread.queue (a.spread.p i) (back_inside M a.inside));
      only = only_refl (queue_from n) (regions_end n) w;
    }

-- the same over the list l as the code holds it
module _ {os ts : List ℕ} {n i t₀ : ℕ} {w₀ l : List ℕ} (a : ListAsks os ts n i t₀ w₀) (e : l ≡ list_of os ts (at w₀ (queue_at n i))) where
  -- the next entry can be entered
  pub list_asks : {w : List ℕ} {k t : ℕ} → Entering os ts n i w₀ w k t → k < length l → EnterAsks n (at l k) (at w₀ (queue_at n (at w₀ (from_at n i)))) i t w
  list_asks {w} {k} {t} =
      subst (λ (m : List ℕ). Entering os ts n i w₀ w k t → k < length m → EnterAsks n (at m k) (at w₀ (queue_at n (at w₀ (from_at n i)))) i t w) (sym e)
      (entering_asks os ts n i w₀ a.tree a.room)

  -- one entry more
  pub list_more : {w w' : List ℕ} {k t t' : ℕ} → Entering os ts n i w₀ w k t → k < length l → Entered n (at l k) (at w₀ (queue_at n (at w₀ (from_at n i)))) i t w w' t'
      → Entering os ts n i w₀ w' (k + 1) t'
  list_more {w} {w'} {k} {t} {t'} =
      subst (λ (m : List ℕ). Entering os ts n i w₀ w k t → k < length m → Entered n (at m k) (at w₀ (queue_at n (at w₀ (from_at n i)))) i t w w' t' → Entering os ts n i w₀ w' (k + 1) t') (sym e)
      (λ L hk. entering_more os ts n i w₀ a.tree a.room L hk)

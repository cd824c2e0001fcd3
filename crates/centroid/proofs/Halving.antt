-- The visit met exactly the component, and its last heavy position holds the centroid.
use Prim.Native.Nat.{ℕ, zero, suc, ◌+◌, ◌*◌, ◌≤◌, ◌<◌}
use native.Mathlib.Omega.{arith}
use native.Mathlib.Decide.{dec_lt}
use mathlib.Core.Path.{◌≡◌, refl, sym, ap, ◌∙◌, subst}
use mathlib.Core.Logic.{◌≢◌, inl, inr, ⊎_elim, by_cases}
use mathlib.Core.Bool.{Bool, true, false, not}
use mathlib.Core.List.{List, [], ◌∷◌}
use lib.Dec.{eqb}
use lib.ListN.{length}
use Rattle.sums.specs.Sum.{at, tally, how_many}
use Rattle.sums.proofs.Sums.{equal_or_not}
use Rattle.sums.proofs.Images.{sum_image, how_many_le, how_many_apart, how_many-all}
use Rattle.paths.specs.Walk.{In, Stands, From}
use Rattle.paths.specs.Rooted.{Spans}
use Rattle.paths.specs.Route.{ptail, On}
use Rattle.paths.proofs.Canon.{ptail_same}
use Rattle.paths.proofs.Turn.{on_turn}
use Rattle.paths.proofs.Cut.{cover, on_last-part}
use Rattle.paths.proofs.Unique.{path_simple}
use Rattle.paths.proofs.Listed.{in_at}
use Rattle.answers.specs.Choice.{all?}
use Rattle.centroid.specs.Components.{in_part, Halves, CentroidFrom}
use Rattle.centroid.specs.Search.{joined_by, Spread, Hangs, Heavy}
use Rattle.answers.proofs.Choices.{all_others, not_passed}
use Rattle.centroid.proofs.Tests.{other_true}
use Rattle.centroid.proofs.Classes.{joined_on, joined_self, joined_turn, joined-part}
use Rattle.centroid.proofs.Between.{next_on, on_or_not, linked_ne, before-beyond, beyond_longer, beyond_next}
use Rattle.centroid.proofs.Avoiding.{avoids_off, off_avoids, meets, on_meets, off_meets, meets_on, part_avoids, in-part, out-part}

module _ {n : ℕ} {A : ℕ → List ℕ} {par dep : ℕ → ℕ} (S : Spans n (Stands A) 0 par dep) {g : ℕ → Bool} {s : ℕ} {q p : ℕ → ℕ} {t : ℕ}
    (M : Spread n A (ptail par dep) g s q p t 0 t) (hs : s < n) where
  first-joined : (j : ℕ) → j ≡ 0 → joined_by (ptail par dep) g (q j) s ≡ true
  first-joined j e =
      subst (λ (x : ℕ). joined_by (ptail par dep) g x s ≡ true) (sym (ap q e ∙ M.start))
      (joined_self S.rooted g s (ap g (sym M.start) ∙ M.passing 0 M.some))

  -- each vertex met is joined to s
  chain : (f j : ℕ) → j ≤ f → j < t → joined_by (ptail par dep) g (q j) s ≡ true
  chain zero j a h = first-joined j (omega arith)
  chain (suc f) j a h =
      equal_or_not j 0 (first-joined j)
      (λ later.
      let k = M.earlier j (omega arith) h in
      ap (λ (l : List ℕ). all? g (q j ∷ l)) (M.step j (omega arith) h)
      ∙ all_others g (q j) (q (p j) ∷ ptail par dep (q (p j)) s) (M.passing j h)
      ∙ chain f (p j) (omega arith) (omega arith))

  -- so s is joined to each of them
  pub met-joined : (j : ℕ) → j < t → joined_by (ptail par dep) g s (q j) ≡ true
  met-joined j h = joined_turn S.rooted g (M.below j h) hs (chain j j (omega arith) h)

  -- and each that is joined to s was met
  along : (P : List ℕ) (u v j : ℕ) → j < t → q j ≡ u → From (Stands A) u v P → ((y : ℕ) → In y P → g y ≡ true) → (l : ℕ) × (l < t) × (q l ≡ v)
  along [] u v j h e f pass = (j, h, e ∙ f)
  along (w ∷ P) u v j h e f pass =
      let i = in_at w (A u) f.0 in
      let same : at (A (q j)) i.0 ≡ w = ap (λ (x : ℕ). at (A x) i.0) e ∙ i.2 in
      let c = M.closed j i.0 h (subst (λ (x : ℕ). i.0 < length (A x)) (sym e) i.1) (ap g same ∙ pass w (inl refl)) in
      along P w v c.0 c.1 (c.2 ∙ same) f.1 (λ y k. pass y (inr k))

  -- so the vertices met are the component
  pub joined_met : (x : ℕ) → x < n → joined_by (ptail par dep) g s x ≡ true → (l : ℕ) × (l < t) × (q l ≡ x)
  joined_met x hx e = along (ptail par dep s x) s x 0 M.some M.start (path_simple S hs hx).walk (λ y h. joined_on S.rooted g s x y e (inr h))

  -- the position l is j or hangs below it: the path from l's vertex to s goes through j's
  pub hanging : ℕ → ℕ → Bool
  hanging j l = meets (ptail par dep) (q j) (q l) s

  on_hanging : (j l : ℕ) → On par dep (q j) (q l) s → hanging j l ≡ true
  unfolding hanging
  on_hanging j l h = on_meets par dep (q j) (q l) s h

  off_hanging : (j l : ℕ) → (On par dep (q j) (q l) s → ⊥) → hanging j l ≡ false
  unfolding hanging
  off_hanging j l f = off_meets par dep (q j) (q l) s f

  not_off : (j l : ℕ) → hanging j l ≡ true → (On par dep (q j) (q l) s → ⊥) → ⊥
  unfolding hanging
  not_off j l e f = meets_on par dep (q j) (q l) s e f

  -- nothing hangs above the first
  first_off : (j l : ℕ) → l ≡ 0 → In (q j) (ptail par dep (q l) s) → ⊥
  first_off j l e h = subst (λ (m : List ℕ). In (q j) m) (ap (λ (x : ℕ). ptail par dep x s) (ap q e ∙ M.start) ∙ ptail_same par dep s) h

  up_same : (j l : ℕ) → j < t → 0 < l → l < t → l ≢ j → hanging j l ≡ hanging j (p l)
  unfolding hanging
  up_same j l hj a h ne =
      ap not
      (ap (λ (m : List ℕ). all? (λ y. not (eqb y (q j))) (q l ∷ m)) (M.step l a h)
      ∙ all_others (λ y. not (eqb y (q j))) (q l) (q (p l) ∷ ptail par dep (q (p l)) s) (other_true (q j) (q l) (λ e. ne (M.once l j h hj e))))

  -- what is met before j does not hang below it
  early_off : (f j l : ℕ) → l ≤ f → j < t → l < j → On par dep (q j) (q l) s → ⊥
  early_off zero j l a hj h on = ⊎_elim (λ e. (let z = M.once j l hj (omega arith) e in omega arith)) (first_off j l (omega arith)) on
  early_off (suc f) j l a hj h on =
      ⊎_elim (λ e. (let z = M.once j l hj (omega arith) e in omega arith))
      (λ i. equal_or_not l 0 (λ e. first_off j l e i)
      (λ later.
      let k = M.earlier l (omega arith) (omega arith) in
      early_off f j (p l) (omega arith) hj (omega arith) (subst (λ (m : List ℕ). In (q j) m) (M.step l (omega arith) (omega arith)) i)))
      on

  -- hanging is what the positions say
  pub hangs : Hangs t p hanging
  hangs =
      record {
        self = λ j h. on_hanging j j (inl refl);
        before = λ j l hj h. off_hanging j l (early_off l j l (omega arith) hj h);
        up = λ j l hj a h ne. up_same j l hj a h ne;
      }

  -- counts in the component go through the positions
  pub component_size : how_many n (joined_by (ptail par dep) g s) ≡ t
  component_size =
      sum_image t n q (λ x. tally (joined_by (ptail par dep) g s x)) M.once M.below
      (λ x hx none. ap tally (not_passed (joined_by (ptail par dep) g s x) (λ e. (let r = joined_met x hx e in none r.0 r.1 r.2))))
      ∙ how_many-all t (λ l. joined_by (ptail par dep) g s (q l)) met-joined

  part_size : (v w : ℕ) → how_many n (in_part (ptail par dep) (joined_by (ptail par dep) g s) v w)
      ≡ how_many t (λ l. in_part (ptail par dep) (joined_by (ptail par dep) g s) v w (q l))
  part_size v w =
      sum_image t n q (λ x. tally (in_part (ptail par dep) (joined_by (ptail par dep) g s) v w x)) M.once M.below
      (λ x hx none. ap tally (out-part (ptail par dep) (joined_by (ptail par dep) g s) v w x
      (not_passed (joined_by (ptail par dep) g s x) (λ e. (let r = joined_met x hx e in none r.0 r.1 r.2)))))

  module _ (j : ℕ) (hj : j < t) (heavy : Heavy t hanging j) where
    hc : q j < n
    hc = M.below j hj

    -- a part below the centroid hangs below one of its later positions
    below_halves : (w : ℕ) → w < n → joined_by (ptail par dep) g s w ≡ true → w ≢ q j → On par dep (q j) s w
        → 2 * how_many n (in_part (ptail par dep) (joined_by (ptail par dep) g s) (q j) w) ≤ t
    below_halves w hw cw ne on =
        let nx = next_on A S hc hw (λ e. ne (sym e)) in
        let d : ℕ = nx.0 in
        let hd : d < n = nx.1 in
        let on-sw : On par dep d s w = on_last-part S.rooted (q j) d hs hw on nx.3.on in
        let r = joined_met d hd (joined-part S.rooted g d hs hw cw on-sw) in
        let l : ℕ = r.0 in
        let hl : l < t = r.1 in
        let ql : q l ≡ d = r.2 in
        let above : On par dep (q j) (q l) s
        = subst (λ (x : ℕ). On par dep (q j) x s) (sym ql) (on_turn S.rooted (q j) hs hd (before-beyond S.rooted hs hc hd hw on nx.3.on)) in
        let later : j < l = equal_or_not l j
        (λ e. absurd (linked_ne S.rooted hc hd nx.3.linked (ap q (sym e) ∙ ql)))
        (λ ne'. by_cases (dec_lt l j) (λ lt. absurd (early_off l j l (omega arith) hj lt above)) (λ ge. omega arith)) in
        let most = heavy.last l later hl in
        let le : how_many t (λ m. in_part (ptail par dep) (joined_by (ptail par dep) g s) (q j) w (q m)) ≤ how_many t (hanging l)
        = how_many_le t (λ m. in_part (ptail par dep) (joined_by (ptail par dep) g s) (q j) w (q m)) (hanging l)
        (λ m hm e. on_hanging l m
        (subst (λ (x : ℕ). On par dep x (q m) s) (sym ql)
        (on_turn S.rooted d hs (M.below m hm)
        (beyond_next S.rooted hs hc hd hw (M.below m hm) nx.3.linked nx.3.on on
        (avoids_off par dep (q j) w (q m) (part_avoids (ptail par dep) (joined_by (ptail par dep) g s) (q j) w (q m) e)))))) in
        let size = part_size (q j) w in
        omega arith

    -- a part that is not below it has none of what hangs below it
    away_halves : (w : ℕ) → w < n → (On par dep (q j) s w → ⊥) → 2 * how_many n (in_part (ptail par dep) (joined_by (ptail par dep) g s) (q j) w) ≤ t
    away_halves w hw off =
        let apart : how_many t (λ m. in_part (ptail par dep) (joined_by (ptail par dep) g s) (q j) w (q m)) + how_many t (hanging j) ≤ t
        = how_many_apart t (λ m. in_part (ptail par dep) (joined_by (ptail par dep) g s) (q j) w (q m)) (hanging j)
        (λ m hm e. off_hanging j m
        (λ h. ⊎_elim off
        (avoids_off par dep (q j) w (q m) (part_avoids (ptail par dep) (joined_by (ptail par dep) g s) (q j) w (q m) e))
        (cover S.rooted (q j) hs (M.below m hm) hw (on_turn S.rooted (q j) (M.below m hm) hs h)))) in
        let size = part_size (q j) w in
        let more = heavy.more in
        omega arith

    heavy_halves : Halves n (ptail par dep) (joined_by (ptail par dep) g s) (q j)
    heavy_halves w hw cw ne =
        let whole = component_size in
        on_or_not par dep (q j) s w (λ on. (let h = below_halves w hw cw ne on in omega arith)) (λ off. (let h = away_halves w hw off in omega arith))

    -- any other that halves the component is beyond it
    heavy_nearer : (y : ℕ) → y < n → y ≢ q j → Halves n (ptail par dep) (joined_by (ptail par dep) g s) y → length (ptail par dep s (q j)) < length (ptail par dep s y)
    heavy_nearer y hy ne h =
        on_or_not par dep (q j) s y (beyond_longer S.rooted hs hc hy (λ e. ne (sym e)))
        (λ off.
        let le : how_many t (hanging j) ≤ how_many t (λ m. in_part (ptail par dep) (joined_by (ptail par dep) g s) y (q j) (q m))
        = how_many_le t (hanging j) (λ m. in_part (ptail par dep) (joined_by (ptail par dep) g s) y (q j) (q m))
        (λ m hm e. in-part (ptail par dep) (joined_by (ptail par dep) g s) y (q j) (q m) (met-joined m hm)
        ∙ off_avoids par dep y (q j) (q m)
        (λ on. not_off j m e (λ up. off (before-beyond S.rooted hs hc hy (M.below m hm) (on_turn S.rooted (q j) (M.below m hm) hs up) on)))) in
        let half = h (q j) hc (met-joined j hj) (λ e. ne (sym e)) in
        let whole = component_size in
        let size = part_size y (q j) in
        let more = heavy.more in
        absurd (omega arith))

    -- so it is the centroid
    pub heavy_centroid : CentroidFrom n (ptail par dep) (joined_by (ptail par dep) g s) s (q j)
    heavy_centroid =
        record {
          inside = met-joined j hj;
          start_inside = joined_self S.rooted g s (ap g (sym M.start) ∙ M.passing 0 M.some);
          halves = heavy_halves;
          nearer = λ y hy cy ne h. heavy_nearer y hy ne h;
        }

-- A visit that met all n vertices makes them a rooted tree: the parent of a vertex is the one in whose list it was met.
use Prim.Native.Nat.{ℕ, zero, suc, ◌≤◌, ◌<◌}
use native.Mathlib.Omega.{arith}
use mathlib.Core.Path.{◌≡◌, refl, sym, ap, ◌∙◌, subst}
use mathlib.Core.List.{List, [], ◌∷◌, ◌++◌}
use lib.ListN.{length}
use borrow.Author.Tests.{ne_eqb}
use Rattle.sums.specs.Sum.{at}
use Rattle.sums.proofs.Sums.{equal_or_not}
use Rattle.sums.proofs.Pigeon.{injective_inverse, injective_le, onto_le}
use Rattle.paths.specs.Walk.{In, Stands, From}
use Rattle.paths.specs.Tree.{AllReached}
use Rattle.paths.specs.Rooted.{Rooted}
use Rattle.paths.proofs.Listed.{from-append, at_in, in_at}
use Rattle.paths.proofs.Canon.{root_ind}
use Rattle.visit.specs.Visit.{Visited, depth_at, depth_of}

-- depths of positions, where each position was met from an earlier one
module _ (p : ℕ → ℕ) (t : ℕ) (earlier : (j : ℕ) → 0 < j → j < t → p j < j) where
  depth_zero : (f : ℕ) → depth_at p f 0 ≡ 0
  unfolding depth_at
  depth_zero zero = refl
  depth_zero (suc f) = refl

  depth_suc : (f j : ℕ) → 0 < j → depth_at p (suc f) j ≡ suc (depth_at p f (p j))
  unfolding depth_at
  depth_suc f j h = rw (ne_eqb j 0 (omega arith), depth_at)

  depth_fuel : (f g j : ℕ) → j ≤ f → j ≤ g → j < t → depth_at p f j ≡ depth_at p g j
  depth_fuel zero g j a b h = ap (depth_at p 0) (let e : j ≡ 0 = omega arith in e) ∙ depth_zero 0 ∙ sym (ap (depth_at p g) (let e : j ≡ 0 = omega arith in e) ∙ depth_zero g)
  depth_fuel (suc f) zero j a b h = ap (depth_at p (suc f)) (let e : j ≡ 0 = omega arith in e) ∙ depth_zero (suc f) ∙ sym (ap (depth_at p 0) (let e : j ≡ 0 = omega arith in e) ∙ depth_zero 0)
  depth_fuel (suc f) (suc g) j a b h =
      equal_or_not j 0 (λ e. ap (depth_at p (suc f)) e ∙ depth_zero (suc f) ∙ sym (ap (depth_at p (suc g)) e ∙ depth_zero (suc g)))
      (λ ne. (let k = earlier j (omega arith) h in
      depth_suc f j (omega arith) ∙ ap suc (depth_fuel f g (p j) (omega arith) (omega arith) (omega arith)) ∙ sym (depth_suc g j (omega arith))))

  -- the first position
  pub depth_first : depth_of p 0 ≡ 0
  unfolding depth_of
  depth_first = depth_zero 0

  -- a later one
  pub depth_later : (j : ℕ) → 0 < j → j < t → depth_of p j ≡ suc (depth_of p (p j))
  unfolding depth_of
  depth_later zero a h = absurd (omega arith)
  depth_later (suc j) a h =
      let k = earlier (suc j) a h in
      depth_suc j (suc j) a ∙ ap suc (depth_fuel j (p (suc j)) (p (suc j)) (omega arith) (omega arith) (omega arith))

-- g gives each vertex its position in q
pub record Places (n : ℕ) (q g : ℕ → ℕ) : Type 0 where
  pub below : (v : ℕ) → v < n → g v < n
  pub back : (v : ℕ) → v < n → q (g v) ≡ v
  pub forth : (j : ℕ) → j < n → g (q j) ≡ j

-- a visit that met all vertices has a position for each
pub places : {n : ℕ} {A : ℕ → List ℕ} {root : ℕ} {q p e : ℕ → ℕ} → Visited n A root q p e n → (g : ℕ → ℕ) × Places n q g
places {n} {A} {root} {q} vis = (let r = injective_inverse n q vis.once vis.below in (r.0, record { below = r.1; back = r.2; forth = r.3 }))

-- parent and depth of a vertex with position g v
abbrev pub par_of : (q p g : ℕ → ℕ) → ℕ → ℕ
par_of q p g v = q (p (g v))

abbrev pub dep_of : (p g : ℕ → ℕ) → ℕ → ℕ
dep_of p g v = depth_of p (g v)

module _ {n : ℕ} {A : ℕ → List ℕ} {root : ℕ} {q p e g : ℕ → ℕ} (vis : Visited n A root q p e n) (pl : Places n q g) where
  -- the root alone stands first
  root_first : g root ≡ 0
  root_first = ap g (sym vis.start) ∙ pl.forth 0 vis.some

  deep_later : (v : ℕ) → v < n → 0 < dep_of p g v → 0 < g v
  deep_later v h d = equal_or_not (g v) 0 (λ e. (let z = ap (depth_of p) e ∙ depth_first p n vis.earlier in omega arith)) (λ ne. omega arith)

  -- the position of a parent
  pub pos_par : (v : ℕ) → v < n → 0 < g v → g (par_of q p g v) ≡ p (g v)
  pos_par v h d = pl.forth (p (g v)) (let k = vis.earlier (g v) d (pl.below v h) in let b = pl.below v h in omega arith)

  pub visit_rooted : Rooted n root (par_of q p g) (dep_of p g)
  visit_rooted =
      record {
        root_below = subst (λ (x : ℕ). x < n) vis.start (vis.below 0 vis.some);
        root_top = ap (depth_of p) root_first ∙ depth_first p n vis.earlier;
        one_root = λ v h d. equal_or_not (g v) 0 (λ e. sym (pl.back v h) ∙ ap q e ∙ vis.start)
            (λ ne. absurd (let k = depth_later p n vis.earlier (g v) (omega arith) (pl.below v h) in omega arith));
        par_below = λ v h d. vis.below (p (g v))
            (let k = vis.earlier (g v) (deep_later v h d) (pl.below v h) in let b = pl.below v h in omega arith);
        par_dep = λ v h d.
            (let k = depth_later p n vis.earlier (g v) (deep_later v h d) (pl.below v h) in
            let s = ap (depth_of p) (pos_par v h (deep_later v h d)) in omega arith);
      }

  -- each vertex but the root stands in its parent's list
  pub visit_held : (v : ℕ) → v < n → 0 < dep_of p g v → In v (A (par_of q p g v))
  visit_held v h d =
      let j : 0 < g v = deep_later v h d in
      let b : g v < n = pl.below v h in
      subst (λ (x : ℕ). In x (A (par_of q p g v))) (vis.entry (g v) j b ∙ pl.back v h)
      (at_in (A (par_of q p g v)) (e (g v)) (vis.place (g v) j b))

  -- each vertex but the root has its parent in its list exactly if each but the first has there the one from which it was met
  pub listed_back : ((j : ℕ) → 0 < j → j < n → In (q (p j)) (A (q j))) → (v : ℕ) → v < n → 0 < dep_of p g v → In (par_of q p g v) (A v)
  listed_back l v h d = subst (λ (x : ℕ). In (par_of q p g v) (A x)) (pl.back v h) (l (g v) (deep_later v h d) (pl.below v h))

  pub back_listed : ((v : ℕ) → v < n → 0 < dep_of p g v → In (par_of q p g v) (A v)) → (j : ℕ) → 0 < j → j < n → In (q (p j)) (A (q j))
  back_listed b j a h =
      subst (λ (x : ℕ). In (q (p x)) (A (q j))) (pl.forth j h)
      (b (q j) (vis.below j h) (let k = depth_later p n vis.earlier j a h in let s = ap (depth_of p) (pl.forth j h) in omega arith))

  -- so the root reaches every vertex
  pub visit_reaches : AllReached n A root
  visit_reaches =
      root_ind visit_rooted (λ v. (P : List ℕ) × From (Stands A) root v P) ([], refl)
      (λ v h d r. (r.0 ++ (v ∷ []), from-append (Stands A) root (par_of q p g v) v r.0 (v ∷ []) r.1 (visit_held v h d, refl)))

-- what the root reaches was met
module _ {n : ℕ} {A : ℕ → List ℕ} {root : ℕ} {q p e : ℕ → ℕ} {t : ℕ} (vis : Visited n A root q p e t) where
  walk_met : (P : List ℕ) (u v j : ℕ) → j < t → q j ≡ u → From (Stands A) u v P → (l : ℕ) × (l < t) × (q l ≡ v)
  walk_met [] u v j h eq f = (j, h, eq ∙ f)
  walk_met (w ∷ P) u v j h eq f =
      let i = in_at w (A u) f.0 in
      let c = vis.closed j i.0 h (subst (λ (x : ℕ). i.0 < length (A x)) (sym eq) i.1) in
      walk_met P w v c.0 c.1 (c.2 ∙ ap (λ (x : ℕ). at (A x) i.0) eq ∙ i.2) f.1

  -- no more are met than there are
  pub visit_few : t ≤ n
  visit_few = injective_le t n q vis.once vis.below

  -- all are met where the root reaches all
  pub visit-all : AllReached n A root → n ≤ t
  visit-all r = onto_le t n q (λ v h. walk_met (r v h).0 root v 0 vis.some vis.start (r v h).1)

-- a visit is told by its positions below t alone
pub visited_same : {n : ℕ} {A : ℕ → List ℕ} {root : ℕ} {q p e q' p' : ℕ → ℕ} {t : ℕ} → ((j : ℕ) → j < t → q' j ≡ q j) → ((j : ℕ) → 0 < j → j < t → p' j ≡ p j)
    → Visited n A root q p e t → Visited n A root q' p' e t
visited_same {n} {A} {root} {q} {p} {e} {q'} {p'} {t} sq sp vis =
    record {
      some = vis.some;
      start = sq 0 vis.some ∙ vis.start;
      below = λ j h. (let a = sq j h in let b = vis.below j h in omega arith);
      once = λ j l hj hl eq. vis.once j l hj hl (sym (sq j hj) ∙ eq ∙ sq l hl);
      earlier = λ j a h. (let b = sp j a h in let c = vis.earlier j a h in omega arith);
      place = λ j a h. subst (λ (x : ℕ). e j < length (A x)) (sym (home j a h)) (vis.place j a h);
      entry = λ j a h. ap (λ (x : ℕ). at (A x) (e j)) (home j a h) ∙ vis.entry j a h ∙ sym (sq j h);
      rise = λ j l a b c. (let x = sp j a (omega arith) in let y = sp l (omega arith) c in let z = vis.rise j l a b c in omega arith);
      in_order = λ j l a b c same. vis.in_order j l a b c (sym (sp j a (omega arith)) ∙ same ∙ sp l (omega arith) c);
      closed = λ j k h hk. (let r = vis.closed j k h (subst (λ (x : ℕ). k < length (A x)) (sq j h) hk) in
          (r.0, r.1, sq r.0 r.1 ∙ r.2 ∙ sym (ap (λ (x : ℕ). at (A x) k) (sq j h))));
    }
  where
    home : (j : ℕ) → 0 < j → j < t → q' (p' j) ≡ q (p j)
    home j a h = ap q' (sp j a h) ∙ sq (p j) (let k = vis.earlier j a h in omega arith)

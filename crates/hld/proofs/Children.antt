-- The children of a vertex in list order are the run of its position: positions whose parent's position it is, in the order of the visit.
use Prim.Native.Nat.{ℕ, ◌+◌, ◌-◌, ◌≤◌, ◌<◌}
use native.Mathlib.Omega.{arith}
use mathlib.Core.Path.{◌≡◌, refl, sym, ap, ◌∙◌, subst}
use mathlib.Core.Logic.{inl, inr, ◌↔◌}
use mathlib.Core.List.{List, [], ◌∷◌, map}
use lib.Dec.{eqb}
use lib.ListN.{length}
use borrow.Author.Tests.{eq-eqb, eqb-true}
use Rattle.sums.specs.Sum.{at}
use Rattle.sums.proofs.Sums.{equal_or_not}
use Rattle.paths.specs.Walk.{In, NoDup, Below}
use Rattle.paths.specs.Rooted.{Child}
use Rattle.paths.specs.Route.{child?}
use Rattle.paths.proofs.Listed.{in-below, at_in, nodup_at, map_same}
use Rattle.paths.proofs.Rising.{Rises, above_in, above_of, rises_same}
use Rattle.paths.specs.Lists.{keep}
use Rattle.numbering.specs.RuleOne.{children_of}
use Rattle.paths.proofs.Kept.{keep_in, keep_rises}
use Rattle.numbering.proofs.ChildLists.{child_true}
use Rattle.passes.specs.Passes.{from, run}
use Rattle.passes.proofs.Runs.{from_in, from_rises, keep_places}
use Rattle.visit.specs.Visit.{Visited}
use Rattle.visit.proofs.Positions.{Places}

-- what stands in a mapped list
pub map_in : (f : ℕ → ℕ) (l : List ℕ) (y : ℕ) → In y (map f l) → (x : ℕ) × In x l × (f x ≡ y)
map_in f [] y h = absurd h
map_in f (z ∷ l) y (inl e) = (z, inl refl, sym e)
map_in f (z ∷ l) y (inr i) = (let r = map_in f l y i in (r.0, inr r.1, r.2))

pub in_map : (f : ℕ → ℕ) (l : List ℕ) (x : ℕ) → In x l → In (f x) (map f l)
in_map f [] x h = absurd h
in_map f (z ∷ l) x (inl e) = inl (ap f e)
in_map f (z ∷ l) x (inr i) = inr (in_map f l x i)

pub map-map : (f h : ℕ → ℕ) (l : List ℕ) → map f (map h l) ≡ map (λ x. f (h x)) l
map-map f h [] = refl
map-map f h (x ∷ l) = ap (λ (r : List ℕ). f (h x) ∷ r) (map-map f h l)

-- a function that rises along a rising list
map_rises : (f : ℕ → ℕ) (l : List ℕ) → Rises l → ((x y : ℕ) → In x l → In y l → x < y → f x < f y) → Rises (map f l)
map_rises f [] r s = tt
map_rises f (x ∷ l) r s = (
  above_of (f x) (map f l) (λ y i. (let m = map_in f l y i in
      let k = s x m.0 (inl refl) (inr m.1) (above_in x m.0 l r.0 m.1) in let e = m.2 in omega arith)),
  map_rises f l r.1 (λ a b i j. s a b (inr i) (inr j)),
)

-- the positions of a run
pub run_in : (p : ℕ → ℕ) (n i k : ℕ) → 1 ≤ n → In k (run p n i) ↔ ((0 < k) × (k < n) × (p k ≡ i))
run_in p n i k h = (
  λ m. (let a = (keep_in (λ k. eqb (p k) i) (from 1 (n - 1)) k).0 m in let b = (from_in 1 (n - 1) k).0 a.0 in
      (omega arith, omega arith, eqb-true (p k) i a.1)),
  λ m. (keep_in (λ k. eqb (p k) i) (from 1 (n - 1)) k).1
      ((from_in 1 (n - 1) k).1 (let a = m.0 in let b = m.1 in omega arith), eq-eqb (p k) i m.2),
)

pub run_rises : (p : ℕ → ℕ) (n i : ℕ) → Rises (run p n i)
run_rises p n i = keep_rises (λ k. eqb (p k) i) (from 1 (n - 1)) (from_rises 1 (n - 1))

-- parents and depths of vertices, as far as the visit's positions give them
pub record Reads (n : ℕ) (q p par dep : ℕ → ℕ) : Type 0 where
  pub par_at : (j : ℕ) → 0 < j → j < n → par (q j) ≡ q (p j)
  pub dep_first : dep (q 0) ≡ 0
  pub dep_later : (j : ℕ) → 0 < j → j < n → 0 < dep (q j)

module _ {n : ℕ} (A : ℕ → List ℕ) {root : ℕ} {q p e g : ℕ → ℕ} (vis : Visited n A root q p e n) (pl : Places n q g)
    (once : (u : ℕ) → u < n → NoDup (A u)) (below : (u : ℕ) → u < n → Below n (A u)) (par dep : ℕ → ℕ) (rd : Reads n q p par dep) (u : ℕ) (hu : u < n) where
  -- a position in the run, and its place in u's list
  run_place : (k : ℕ) → In k (run p n (g u)) → (e k < length (A u)) × (at (A u) (e k) ≡ q k) × Child par dep u (q k)
  run_place k m =
      let r = (run_in p n (g u) k (let z = vis.some in omega arith)).0 m in
      let home : q (p k) ≡ u = ap q r.2 ∙ pl.back u hu in (
        subst (λ (x : ℕ). e k < length (A x)) home (vis.place k r.0 r.1),
        subst (λ (x : ℕ). at (A x) (e k) ≡ q k) home (vis.entry k r.0 r.1),
        (rd.dep_later k r.0 r.1, rd.par_at k r.0 r.1 ∙ home),
      )

  -- a child in u's list has a position in the run
  child_position : (x : ℕ) → x < length (A u) → Child par dep u (at (A u) x) → (k : ℕ) × In k (run p n (g u)) × (e k ≡ x)
  child_position x hx c =
      let v : ℕ = at (A u) x in
      let hv : v < n = in-below n v (A u) (below u hu) (at_in (A u) x hx) in
      let k : ℕ = g v in
      let kn : k < n = pl.below v hv in
      let k0 : 0 < k = equal_or_not k 0 (λ z. absurd (let d = ap dep (sym (pl.back v hv) ∙ ap q z) ∙ rd.dep_first in let c0 = c.0 in omega arith)) (λ d. omega arith) in
      let up : p k ≡ g u =
      sym (pl.forth (p k) (let z = vis.earlier k k0 kn in omega arith))
      ∙ ap g (sym (rd.par_at k k0 kn) ∙ ap par (pl.back v hv) ∙ c.1) in
      let m : In k (run p n (g u)) = (run_in p n (g u) k (omega arith)).1 (k0, kn, up) in
      let r = run_place k m in
      (k, m, nodup_at (A u) (once u hu) (e k) x r.0 hx (r.1 ∙ pl.back v hv))

  -- the places of the children in u's list
  spots : List ℕ
  spots = keep (λ k. child? par dep u (at (A u) k)) (from 0 (length (A u)))

  places-run : map e (run p n (g u)) ≡ spots
  unfolding spots
  places-run =
      rises_same (map e (run p n (g u))) (keep (λ k. child? par dep u (at (A u) k)) (from 0 (length (A u))))
      (map_rises e (run p n (g u)) (run_rises p n (g u)) (λ x y i j lt.
      (let a = (run_in p n (g u) x (let z = vis.some in omega arith)).0 i in let b = (run_in p n (g u) y (let z = vis.some in omega arith)).0 j in
      vis.in_order x y a.0 lt b.1 (a.2 ∙ sym b.2))))
      (keep_rises (λ k. child? par dep u (at (A u) k)) (from 0 (length (A u))) (from_rises 0 (length (A u))))
      (λ x i. (let m = map_in e (run p n (g u)) x i in let r = run_place m.0 m.1 in
      (keep_in (λ k. child? par dep u (at (A u) k)) (from 0 (length (A u))) x).1 (
        (from_in 0 (length (A u)) x).1 (let a = r.0 in let b = m.2 in omega arith),
        (child_true par dep u (at (A u) x)).1 (subst (Child par dep u) (sym r.1 ∙ ap (at (A u)) m.2) r.2),
      )))
      (λ x i. (let a = (keep_in (λ k. child? par dep u (at (A u) k)) (from 0 (length (A u))) x).0 i in
      let b = (from_in 0 (length (A u)) x).0 a.0 in
      let c = child_position x (omega arith) ((child_true par dep u (at (A u) x)).0 a.1) in
      subst (λ (y : ℕ). In y (map e (run p n (g u)))) c.2 (in_map e (run p n (g u)) c.0 c.1)))

  pub children-run : map q (run p n (g u)) ≡ children_of A par dep u
  unfolding spots
  children-run =
      map_same q (λ k. at (A u) (e k)) (run p n (g u)) (λ k m. sym (run_place k m).1)
      ∙ sym (map-map (at (A u)) e (run p n (g u)))
      ∙ ap (map (at (A u))) places-run
      ∙ sym (keep_places (child? par dep u) (A u) (A u) 0 (λ k h. ap (at (A u)) (let z : 0 + k ≡ k = omega arith in z)))

-- The decomposition from its start to its end.
use Prim.Native.Nat.{ℕ, ◌+◌, ◌≤◌, ◌<◌, ◌/◌, ◌%◌, ◌^◌}
use native.Mathlib.Omega.{arith}
use native.Mathlib.Nat.{zero-div}
use mathlib.Core.Path.{◌≡◌, refl, sym, ap, ◌∙◌}
use mathlib.Core.Logic.{◌≢◌, by_cases}
use native.Mathlib.Decide.{ℕ_discrete}
use Rattle.std.proofs.lemmas.List.{length-replicate}
use mathlib.Core.Bool.{true}
use mathlib.Core.List.{List}
use lib.Dec.{ltb, leb}
use lib.ListN.{length, set, length-set, replicate}
use borrow.Author.Tests.{le-ltb, le-leb, ne_eqb}
use Rattle.sums.specs.Sum.{at, tally}
use Rattle.sums.proofs.Sums.{sum_none}
use Rattle.paths.specs.Walk.{Stands}
use Rattle.paths.specs.Rooted.{Spans}
use Rattle.paths.specs.Route.{ptail}
use Rattle.answers.specs.Limits.{no_parent}
use Rattle.graph.specs.Lent.{list_of}
use Rattle.graph.specs.Marks.{mark_of}
use Rattle.graph.specs.Work.{Only, Zeroed}
use Rattle.graph.proofs.Frames.{only_refl, only_trans, only_wider, only_set, at_set_same, at_set_other}
use Rattle.centroid.specs.Regions.{starts_from, start_at, parents_from, parent_at, levels_from, level_at, removed_from, queue_from, regions_end}
use Rattle.centroid.specs.Decomposition.{DecompositionOf}
use Rattle.centroid.specs.Search.{LentTree, live}
use Rattle.centroid.specs.Parting.{first, Parting, PartingIn, HeldIn, RemoveAsks, Removed, DecomposeAsks, Decomposed}
use Rattle.centroid.proofs.Ways.{centroid_ways}
use Rattle.centroid.proofs.Living.{unmarked-live}
use Rattle.centroid.proofs.Classes.{on-joined}
use Rattle.centroid.proofs.Pending.{parting_few, parting-all, centroid_at_same}

-- no vertex is removed, and 0 waits
parting_start : {n : ℕ} {A : ℕ → List ℕ} {par dep : ℕ → ℕ} → Spans n (Stands A) 0 par dep → {S P L up : ℕ → ℕ} → 0 < n → S 0 ≡ 0 → P 0 ≡ no_parent → L 0 ≡ 0
    → Parting n A (ptail par dep) S P L (λ y. n) up 0 1
parting_start {n} {A} {par} {dep} Sp {S} {P} {L} {up} hn s0 p0 l0 =
    let zeroth : (j : ℕ) → j < 1 → j ≡ 0 = λ j h. omega arith in
    let level : (j : ℕ) → j < 1 → L j ≡ 0 = λ j h. ap L (zeroth j h) ∙ l0 in
    let start : (j : ℕ) → j < 1 → S j ≡ 0 = λ j h. ap S (zeroth j h) ∙ s0 in
    record {
      within = omega arith;
      removed = sum_none n (λ x. tally (ltb n n)) (λ x h. ap tally (le-ltb n n (omega arith)));
      centroids = λ c hc l. absurd (omega arith);
      entries = λ j a b. record {
        below = (let e = start j b in omega arith);
        left = omega arith;
        began = first (ap P (zeroth j b) ∙ p0) (level j b) (start j b);
        own = λ x hx e. omega arith;
        later = λ c hc l. absurd (omega arith);
      };
      apart = λ j l a b d e ne on. ne (zeroth j b ∙ sym (zeroth l e));
      cover = λ x hx l. (0, omega arith, omega arith, on-joined Sp.rooted (λ y. leb n n) (S 0) x (λ y h. le-leb n n (omega arith)));
      sorted = λ j l a b d. (let x = level j (omega arith) in let y = level l d in omega arith);
      close = λ j l a b d e. (let x = level j b in let y = level l e in omega arith);
      small = λ j a b. (let x = level j b in omega arith);
    }

-- where none waits, both tables are written
pub parted : {os ts : List ℕ} {n : ℕ} {up level w : List ℕ} {h t : ℕ} → LentTree os ts n → PartingIn os ts n up level w h t → h ≡ t
    → DecompositionOf n (list_of os ts) up level
parted {n = n} {level = level} T g e =
    let lv : ℕ → ℕ = g.lv in
    let gone = parting-all T.spans (g.parting T.par T.dep T.spans) e in
    let held : (x : ℕ) → x < n → at level x ≡ lv x = λ x hx. g.levels x hx (gone x hx) in
    record {
      up_long = g.up_long;
      level_long = g.level_long;
      centroids = λ way W c hc.
          centroid_ways T.spans W hc (centroid_at_same T.spans hc (gone c hc) refl (held c hc) (λ u hu l. held u hu)
          (λ y hy. ap (λ (x : ℕ). leb x (lv y)) (sym (held c hc)) ∙ ap (leb (at level c)) (sym (held y hy)))
          ((g.parting T.par T.dep T.spans).centroids c hc (gone c hc)));
    }

-- "no parent" as the code has it
abbrev pub none : ℕ
none = 4_294_967_295

no_parent_lem : none ≡ no_parent
unfolding no_parent
no_parent_lem = refl

-- work with the start 0, in cleared marks
abbrev pub begun : ℕ → List ℕ → List ℕ
begun n w = set (set (set w (starts_from n) 0) (parents_from n) none) (levels_from n) 0

-- a list for the parents: the table that is lent for them, or another where it has no room
parents : (n : ℕ) (table : List ℕ) → (up : List ℕ) × (length up ≡ n) × HeldIn n table up
parents n table =
    by_cases (ℕ_discrete (length table) n) (λ e. (table, e, λ z. refl)) (λ ne. (replicate n 0, length-replicate n 0, λ z. absurd (ne z)))

-- h entries were taken; w₀ is work as the loop began
pub record Going (os ts : List ℕ) (n : ℕ) (w₀ table level w : List ℕ) (h t : ℕ) : Type 0 where
  pub up : List ℕ
  pub held : HeldIn n table up
  pub state : PartingIn os ts n up level w h t
  pub only : Only 0 (regions_end n) w₀ w

module _ {os ts : List ℕ} {n : ℕ} {level w : List ℕ} (a : DecomposeAsks os ts n level w) {z : List ℕ} (Z : Zeroed (removed_from n) (queue_from n) w z) where
  -- what was written before the loop
  pub begun_only : Only 0 (regions_end n) w (begun n z)
  begun_only =
      let h = a.tree.some in
      only_trans (only_wider (omega arith) (omega arith) Z.only)
      (only_trans (only_set z (starts_from n) 0 (omega arith) (omega arith))
      (only_trans (only_set (set z (starts_from n) 0) (parents_from n) none (omega arith) (omega arith))
      (only_set (set (set z (starts_from n) 0) (parents_from n) none) (levels_from n) 0 (omega arith) (omega arith))))

  begun_other : (j : ℕ) → j ≢ starts_from n → j ≢ parents_from n → j ≢ levels_from n → at (begun n z) j ≡ at z j
  begun_other j p q r =
      at_set_other (set (set z (starts_from n) 0) (parents_from n) none) (levels_from n) 0 j r
      ∙ at_set_other (set z (starts_from n) 0) (parents_from n) none j q
      ∙ at_set_other z (starts_from n) 0 j p

  none_marked : (y : ℕ) → y < n → live (begun n z) n y ≡ true
  none_marked y hy =
      let zero' : at (begun n z) (removed_from n + y / 32) ≡ 0
      = begun_other (removed_from n + y / 32) (omega arith) (omega arith) (omega arith) ∙ Z.zero (removed_from n + y / 32) (omega arith) (omega arith) in
      let m : mark_of (begun n z) (removed_from n) y ≡ 0
      = ap (λ (x : ℕ). x / 2 ^ (y % 32) % 2) zero' ∙ ap (λ (x : ℕ). x % 2) (zero-div (2 ^ (y % 32))) in
      unmarked-live (begun n z) n y hy (ne_eqb (mark_of (begun n z) (removed_from n) y) 1 (omega arith))

  -- none was taken
  pub going_start : (table : List ℕ) → Going os ts n (begun n z) table level (begun n z) 0 1
  going_start table =
      let some = a.tree.some in
      let room = a.room in
      let l₀ = Z.only.same_length in
      let l₁ = length-set z (starts_from n) 0 in
      let l₂ = length-set (set z (starts_from n) 0) (parents_from n) none in
      let first-at : (b : ℕ) → at (begun n z) (b + 0) ≡ at (begun n z) b = λ b. ap (at (begun n z)) (let e : b + 0 ≡ b = omega arith in e) in
      record {
        up = (parents n table).0;
        held = (parents n table).2;
        state = record {
          lv = λ y. n;
          up_long = (parents n table).1;
          level_long = a.level_long;
          levels = λ c hc l. absurd (omega arith);
          marks = λ y hy. none_marked y hy ∙ sym (le-leb n n (omega arith));
          parting = λ par dep S. parting_start S some
              (first-at (starts_from n)
              ∙ at_set_other (set (set z (starts_from n) 0) (parents_from n) none) (levels_from n) 0 (starts_from n) (omega arith)
              ∙ at_set_other (set z (starts_from n) 0) (parents_from n) none (starts_from n) (omega arith)
              ∙ at_set_same z (starts_from n) 0 (omega arith))
              (first-at (parents_from n)
              ∙ at_set_other (set (set z (starts_from n) 0) (parents_from n) none) (levels_from n) 0 (parents_from n) (omega arith)
              ∙ at_set_same (set z (starts_from n) 0) (parents_from n) none (omega arith)
              ∙ no_parent_lem)
              (first-at (levels_from n) ∙ at_set_same (set (set z (starts_from n) 0) (parents_from n) none) (levels_from n) 0 (omega arith));
        };
        only = only_refl 0 (regions_end n) (begun n z);
      }

  module _ {table₁ level₁ v : List ℕ} {h t : ℕ} (g : Going os ts n (begun n z) table₁ level₁ v h t) where
    now_parting : Parting n (list_of os ts) (ptail a.tree.par a.tree.dep) (λ j. at v (start_at n j)) (λ j. at v (parent_at n j)) (λ j. at v (level_at n j)) g.state.lv (at g.up) h t
    now_parting = g.state.parting a.tree.par a.tree.dep a.tree.spans

    -- there are never more starts than vertices
    pub going_few : (h ≤ t) × (t ≤ n)
    going_few = (now_parting.within, parting_few a.tree.spans now_parting)

    -- the next one can be taken
    pub going_asks : h < t → RemoveAsks os ts n h t table₁ level₁ v
    going_asks more =
        record { tree = a.tree; room = omega (arith, a.room, g.only.same_length, begun_only.same_length); some = more; up = g.up; held = g.held; state = g.state }

    -- one more was taken
    pub going_more : {table₂ level₂ v' : List ℕ} {t' : ℕ} → Removed os ts n h v table₂ level₂ v' t' → Going os ts n (begun n z) table₂ level₂ v' (h + 1) t'
    going_more r = record { up = r.up; held = r.held; state = r.state; only = only_trans g.only r.only }

    -- none waits: both tables are written
    pub going_done : h ≡ t → Decomposed os ts n table₁ level₁ w v
    going_done e = record { up = g.up; held = g.held; tables = parted a.tree g.state e; only = only_trans begun_only g.only }

-- Lists that hold exactly each vertex's parent and children are a tree, and a tree's lists hold exactly those.
use Prim.Native.Nat.{ℕ, ◌+◌, ◌<◌, ◌≤◌}
use mathlib.Core.Bool.{false}
use mathlib.Core.Path.{◌≡◌, refl, sym, ◌∙◌, ap}
use mathlib.Core.Logic.{◌⊎◌, inl, inr, ⊎_elim, ◌≢◌}
use mathlib.Core.List.{List, [], ◌∷◌, head-eq_of_cons-eq}
use native.Mathlib.Omega.{arith}
use native.Mathlib.Decide.{dec_le, ℕ_discrete}
use lib.Dec.{eqb}
use lib.ListN.{length, length-append}
use borrow.Author.Tests.{lt-ltb, le-ltb}
use Rattle.sums.specs.Sum.{tally, count}
use Rattle.paths.specs.Walk.{In, Below, Stands, Simple}
use Rattle.paths.specs.Tree.{Tree}
use Rattle.paths.specs.Rooted.{Rooted, Spans, Child}
use Rattle.paths.specs.Route.{ptail, child?, links}
use Rattle.paths.proofs.Listed.{out_not}
use Rattle.paths.proofs.Counted.{in_count, count_in, count_absent, none_out, nodup-count, count_nodup, count-above}
use Rattle.sums.proofs.Sums.{tally_same, tally_other}
use Rattle.paths.proofs.Canon.{ptail_up, ptail_down, deeper_pos}
use Rattle.paths.proofs.Steps.{ptail_none}
use Rattle.paths.proofs.Unique.{path_simple_of, exactly-one}

module _ (par dep : ℕ → ℕ) where
  -- the test of a child, where there is a parent
  pub child-test : (u v : ℕ) → 0 < dep v → child? par dep u v ≡ eqb (par v) u
  child-test u v p = rw (lt-ltb 0 (dep v) p, child?)

  -- the test of a child, where there is none
  pub child-test_root : (u v : ℕ) → dep v ≡ 0 → child? par dep u v ≡ false
  child-test_root u v z = rw (le-ltb 0 (dep v) (omega arith), child?)

  -- a child is counted once
  pub child-one : (u v : ℕ) → Child par dep u v → tally (child? par dep u v) ≡ 1
  child-one u v c = ap tally (child-test u v c.0) ∙ tally_same (par v) u c.1

  -- what is no child is not counted
  pub child_none : (u v : ℕ) → (Child par dep u v → ⊥) → tally (child? par dep u v) ≡ 0
  child_none u v f = elim (dec_le 1 (dep v)) [
    | yes p ↦ ap tally (child-test u v p) ∙ tally_other (par v) u (λ e. f (p, e))
    | no q ↦ ap tally (child-test_root u v (omega arith))
  ]

  -- whether v is a child of u
  pub child_dec : (u v : ℕ) → Dec (Child par dep u v)
  child_dec u v = elim (dec_le 1 (dep v)) [
    | yes p ↦ elim (ℕ_discrete (par v) u) [ yes e ↦ yes (p, e) | no d ↦ no (λ c. d c.1) ]
    | no q ↦ no (λ c. q c.0)
  ]

module _ {n root : ℕ} {par dep : ℕ → ℕ} (R : Rooted n root par dep) where
  -- a child is one deeper
  pub child-deeper : {u v : ℕ} → v < n → Child par dep u v → dep u + 1 ≡ dep v
  child-deeper {u} {v} hv c = rw (← c.1) (R.par_dep v hv c.0)

  -- parent and child are linked once
  pub links-one : {u v : ℕ} → u < n → v < n → Child par dep u v ⊎ Child par dep v u → links par dep u v ≡ 1
  links-one {u} {v} hu hv (inl c) =
      let a = child-one par dep u v c in
      let b = child_none par dep v u (λ d. let x = child-deeper hv c in let y = child-deeper hu d in omega arith) in
      omega arith
  links-one {u} {v} hu hv (inr c) =
      let a = child-one par dep v u c in
      let b = child_none par dep u v (λ d. let x = child-deeper hu c in let y = child-deeper hv d in omega arith) in
      omega arith

  -- two vertices, neither a child of the other, are not linked
  pub links_none : (u v : ℕ) → (Child par dep u v ⊎ Child par dep v u → ⊥) → links par dep u v ≡ 0
  links_none u v f =
      let a = child_none par dep u v (λ c. f (inl c)) in
      let b = child_none par dep v u (λ c. f (inr c)) in
      omega arith

  -- two vertices are linked, as parent and child, or not
  pub link_dec : (u v : ℕ) → Dec (Child par dep u v ⊎ Child par dep v u)
  link_dec u v = elim (child_dec par dep u v) [
    | yes c ↦ yes (inl c)
    | no f ↦ elim (child_dec par dep v u) [
      | yes c ↦ yes (inr c)
      | no g ↦ no (⊎_elim f g)
    ]
  ]

  -- two vertices are linked at most once
  pub links_most : {u v : ℕ} → u < n → v < n → links par dep u v ≤ 1
  links_most {u} {v} hu hv = elim (link_dec u v) [
    | yes c ↦ let z = links-one hu hv c in omega arith
    | no f ↦ let z = links_none u v f in omega arith
  ]

  -- a path of one step is a step to the parent or to a child
  pub one_step : {u v : ℕ} → u < n → v < n → u ≢ v → v ∷ [] ≡ ptail par dep u v → Child par dep u v ⊎ Child par dep v u
  one_step {u} {v} hu hv d e = elim (dec_le (dep v) (dep u)) [
    | yes q ↦ inr (deeper_pos R hu hv d q, sym (head-eq_of_cons-eq (e ∙ ptail_up R u v hu hv d q)))
    | no q ↦
        let p : 0 < dep v = omega arith in
        let hp = R.par_below v hv p in
        let l = ap length (e ∙ ptail_down R u v hv (omega arith)) in
        let k = length-append (ptail par dep u (par v)) (v ∷ []) in
        let s : length (ptail par dep u (par v)) ≡ 0 = omega arith in
        inl (p, sym (ptail_none R hu hp s))
  ]

module _
    {n root : ℕ} {par dep : ℕ → ℕ} (R : Rooted n root par dep) (A : ℕ → List ℕ)
    (counts : (u v : ℕ) → u < n → v < n → count v (A u) ≡ links par dep u v)
  where
    -- lists that hold exactly the links span the rooted tree
    pub links_span : Spans n (Stands A) root par dep
    links_span = record {
      rooted = R;
      down = λ v hv p.
          let hp = R.par_below v hv p in
          let z = counts (par v) v hp hv in
          let o = links-one R hp hv (inl (p, refl)) in
          count_in v (A (par v)) (omega arith);
      up = λ v hv p.
          let hp = R.par_below v hv p in
          let z = counts v (par v) hv hp in
          let o = links-one R hv hp (inr (p, refl)) in
          count_in (par v) (A v) (omega arith);
      only = λ u v hu hv h. elim (link_dec R u v) [
        | yes c ↦ c
        | no f ↦
            let z = counts u v hu hv in
            let o = links_none R u v f in
            let i = in_count v (A u) h in
            absurd (omega arith)
      ];
    }

    -- lists that hold exactly the links, and nothing from n on, are a tree
    pub links_tree : ((u : ℕ) → u < n → Below n (A u)) → Tree n A
    links_tree small = record {
      symmetric = λ u v hu hv. let a = counts u v hu hv in let b = counts v u hv hu in omega arith;
      joined = λ u v hu hv. exactly-one links_span hu hv;
      no_self = λ u hu.
          let z = counts u u hu hu in
          let o = child_none par dep u u (λ c. let y = child-deeper R hu c in omega arith) in
          none_out u (A u) (omega arith);
      no_repeat = λ u hu. count_nodup (A u) (λ x. elim (dec_le n x) [
        | yes h ↦ let z = count-above n x (A u) (small u hu) h in omega arith
        | no h ↦
            let hx : x < n = omega arith in
            let z = counts u x hu hx in
            let m = links_most R hu hx in
            omega arith
      ]);
    }

module _
    {n root : ℕ} {par dep : ℕ → ℕ} (R : Rooted n root par dep) (A : ℕ → List ℕ) (t : Tree n A)
    (held : (v : ℕ) → v < n → 0 < dep v → In v (A (par v)))
  where
    -- each vertex holds its parent
    pub holds_parent : (v : ℕ) → v < n → 0 < dep v → In (par v) (A v)
    holds_parent v hv p =
        let z = t.symmetric v (par v) hv (R.par_below v hv p) in
        let i = in_count v (A (par v)) (held v hv p) in
        count_in (par v) (A v) (omega arith)

    -- a tree's lists hold nothing but parents and children
    pub only-links : {u v : ℕ} → u < n → v < n → In v (A u) → Child par dep u v ⊎ Child par dep v u
    only-links {u} {v} hu hv h =
        let d : u ≢ v = λ e. out_not v (A v) (t.no_self v hv) (rw e at h) in
        let one = t.joined u v hu hv in
        let direct : Simple n (Stands A) u v (v ∷ []) = record {
          walk = (h, refl);
          once = ((d, tt), (tt, tt));
          below = (hu, (hv, tt));
        } in
        let path = path_simple_of R (Stands A) held holds_parent hu hv in
        one_step R hu hv d (one.2 (v ∷ []) direct ∙ sym (one.2 (ptail par dep u v) path))

    -- a tree's lists hold exactly the links
    pub tree-links : (u v : ℕ) → u < n → v < n → count v (A u) ≡ links par dep u v
    tree-links u v hu hv = elim (link_dec R u v) [
      | no f ↦ count_absent v (A u) (λ h. f (only-links hu hv h)) ∙ sym (links_none R u v f)
      | yes c ↦
          let i : In v (A u) = ⊎_elim (λ b. rw b.1 at (held v hv b.0)) (λ b. rw b.1 at (holds_parent u hu b.0)) c in
          let l = in_count v (A u) i in
          let m = nodup-count v (A u) (t.no_repeat u hu) in
          let o = links-one R hu hv c in
          omega arith
    ]

    -- a tree in which each vertex but the root stands in its parent's list is spanned by the parents
    pub tree_span : Spans n (Stands A) root par dep
    tree_span = record { rooted = R; down = held; up = holds_parent; only = λ u v hu hv h. only-links hu hv h }

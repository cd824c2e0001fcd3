-- `subtree_size` answers how many vertices have their path to r pass v: the size of v's subtree as if r were the root.
use Rattle.std.specs.Prelude.{Ok, Err}
use Prim.Native.Nat.{ℕ, ◌+◌, ◌-◌, ◌<◌}
use native.Mathlib.Omega.{arith}
use native.Mathlib.Decide.{dec_le, ℕ_discrete}
use mathlib.Core.Path.{◌≡◌, sym, ap, subst, ◌∙◌}
use mathlib.Core.Logic.Iff
use mathlib.Core.Logic.{◌↔◌, ◌≢◌}
use mathlib.Core.Bool.{Bool, true, false, not}
use mathlib.Core.List.{List, [], ◌∷◌}
use lib.Dec.{eqb, leb, ltb}
use borrow.Author.Tests.{lt-ltb, le-ltb, le-leb, lt-leb, eq-eqb, ne_eqb, ltb-true}
use Rattle.sums.specs.Sum.{at, count, how_many}
use Rattle.paths.specs.Rooted.{climb}
use Rattle.paths.proofs.Counted.{in_iff-count}
use Rattle.paths.proofs.Above.{anc?, anc_same}
use Rattle.paths.proofs.Steps.{on_last}
use Rattle.numbering.proofs.Subtrees.{anc_interval}
use Rattle.numbering.proofs.Sizes.{size-count}
use Rattle.tables.specs.Tables.{Six}
use Rattle.answers.specs.Choice.{pick, both}
use Rattle.climb.specs.Sound.{depth_in, id_in, sound?}
use Rattle.queries.specs.Queries.{re_rooted_size, subtree_size}
use Rattle.answers.specs.declared.answer.Refusal.TheVariants.{BadTable}
use Rattle.pathlaws.specs.Given.{Given, path_in, OnIn, AncIn, through?}
use Rattle.pathlaws.proofs.Standing.{both_pass, sound_vertex, answered}
use Rattle.pathlaws.proofs.SingleEntries.{size_pass}
use Rattle.pathlaws.proofs.KthAncestor.{ancestor_found}
use Rattle.pathlaws.proofs.Tests.{not_pass, pass_not, all_pass, pass-rest}
use Rattle.pathlaws.proofs.Sides.{below_side, other_side, child_towards}

-- the test passes exactly for the vertices whose path to r passes v
pub through_on : (t : Six) (v r x : ℕ) → (through? t v r x ≡ true) ↔ OnIn t v x r
through_on t v r x =
    let c = in_iff-count v (x ∷ path_in t x r) in
    (λ e. c.1 (ltb-true 0 (count v (x ∷ path_in t x r)) e), λ h. lt-ltb 0 (count v (x ∷ path_in t x r)) (c.0 h))

module _ {n root : ℕ} {A : ℕ → List ℕ} {t : Six} {kids : ℕ → List ℕ} (G : Given n A root t kids) where
  -- a vertex below v has its number in v's range
  in_range : {v r : ℕ} → v < n → r < n → AncIn t v r → both (leb (id_in t v) (id_in t r)) (ltb (id_in t r) (id_in t v + at t.size v)) ≡ true
  in_range {v} {r} hv hr a =
      let i = (anc_interval G.tables.numbering.arrangement hv hr).0 a in
      both_pass (le-leb (id_in t v) (id_in t r) i.0) (lt-ltb (id_in t r) (id_in t v + at t.size v) i.1)

  -- any other has not
  out_of_range :
      {v r : ℕ} → v < n → r < n → (AncIn t v r → ⊥) → both (leb (id_in t v) (id_in t r)) (ltb (id_in t r) (id_in t v + at t.size v)) ≡ false
  out_of_range {v} {r} hv hr f = elim (dec_le (id_in t v) (id_in t r)) [
    | yes h ↦ elim (dec_le (id_in t v + at t.size v) (id_in t r)) [
      | yes i ↦ rw (le-leb (id_in t v) (id_in t r) h, le-ltb (id_in t r) (id_in t v + at t.size v) i)
      | no q ↦ absurd (f ((anc_interval G.tables.numbering.arrangement hv hr).1 (h, omega arith)))
    ]
    | no q ↦ rw (lt-leb (id_in t v) (id_in t r) (omega arith))
  ]

  -- where r lies outside v's range, the size is v's own
  size_outside : {r v : ℕ} → r < n → v < n → (AncIn t v r → ⊥) → re_rooted_size n t r v ≡ Ok (at t.size v)
  size_outside hr hv f = rw (size_pass G hv, out_of_range hv hr f)

  -- where r lies below v, it is all but the size of the child towards r
  size_inside :
      {r v : ℕ} → r < n → v < n → AncIn t v r → depth_in t v < depth_in t r
      → re_rooted_size n t r v ≡ Ok (n - at t.size (climb (at t.parent) (depth_in t r - depth_in t v - 1) r))
  size_inside {r} {v} hr hv a h =
      let c = child_towards G.tables.spans.rooted hr a h in
      rw (
        size_pass G hv,
        in_range hv hr a,
        lt-ltb (depth_in t v) (depth_in t r) h,
        ancestor_found G (depth_in t r - depth_in t v - 1) hr (omega arith),
        size_pass G c.below,
      )

  -- the vertices not below y are all but the size of y
  rest-count : {y : ℕ} → y < n → (test : ℕ → Bool) → ((x : ℕ) → x < n → (test x ≡ true) ↔ (AncIn t y x → ⊥)) → n - at t.size y ≡ how_many n test
  rest-count {y} hy test f =
      let s = size-count G.tables.numbering hy (λ x. not (test x)) below in
      let r = pass-rest n test in
      omega arith
    where
      below : (x : ℕ) → x < n → (not (test x) ≡ true) ↔ AncIn t y x
      below x hx = (
        λ e. elim (anc? (at t.parent) (at t.depth) y x) [ yes a ↦ a | no g ↦ absurd (pass_not (test x) ((f x hx).1 g) e) ],
        λ a. not_pass (test x) (λ e. (f x hx).0 e a),
      )

  -- the size re-rooted at another vertex counts the vertices whose path to it passes v
  re_rooted_counts :
      {r v : ℕ} → r < n → v < n → r ≢ v → (test : ℕ → Bool) → ((x : ℕ) → x < n → (test x ≡ true) ↔ OnIn t v x r)
      → re_rooted_size n t r v ≡ Ok (how_many n test)
  re_rooted_counts {r} {v} hr hv d test f = elim (anc? (at t.parent) (at t.depth) v r) [
    | no g ↦
        size_outside hr hv g
        ∙ ap Ok (size-count G.tables.numbering hv test (λ x hx. Iff.trans (f x hx) (below_side G.tables.spans.rooted hv hr hx g)))
    | yes a ↦ elim (dec_le (depth_in t r) (depth_in t v)) [
      | yes h ↦ absurd (d (sym (anc_same (at t.parent) (at t.depth) v r a (omega arith))))
      | no q ↦
          let h : depth_in t v < depth_in t r = omega arith in
          let y : ℕ = climb (at t.parent) (depth_in t r - depth_in t v - 1) r in
          let c = child_towards G.tables.spans.rooted hr a h in
          let g : (x : ℕ) → x < n → (test x ≡ true) ↔ (AncIn t y x → ⊥)
          = λ x hx. Iff.trans (f x hx) (subst (λ (w : ℕ). OnIn t w x r ↔ (AncIn t y x → ⊥)) c.parent
          (other_side G.tables.spans.rooted c.below c.deep hr hx c.above)) in
          size_inside hr hv a h ∙ ap Ok (rest-count c.below test g)
    ]
  ]

  -- `subtree_size` answers how many vertices have their path to r pass v, by any test of them
  pub subtree_size_counts :
      {r v : ℕ} → r < n → v < n → (test : ℕ → Bool) → ((x : ℕ) → x < n → (test x ≡ true) ↔ OnIn t v x r)
      → subtree_size t r v ≡ Ok (how_many n test)
  subtree_size_counts {r} {v} hr hv test f =
      answered G (r ∷ v ∷ []) Err
      (λ m. pick (both (sound? m t r) (sound? m t v)) (pick (eqb r v) (Ok m) (re_rooted_size m t r v)) (Err BadTable)) (hr, (hv, tt))
      ∙ rw (both_pass (sound_vertex G hr) (sound_vertex G hv))
      (elim (ℕ_discrete r v) [
        | yes e ↦
            rw (eq-eqb r v e)
            (ap Ok (sym (all_pass n test (λ x hx. (f x hx).1 (subst (OnIn t v x) (sym e) (on_last G.tables.spans.rooted hx hv))))))
        | no d ↦ rw (ne_eqb r v d) (re_rooted_counts hr hv d test f)
      ])

  -- and there is such a test
  pub subtree_size_lem : {r v : ℕ} → r < n → v < n → subtree_size t r v ≡ Ok (how_many n (through? t v r))
  subtree_size_lem {r} {v} hr hv = subtree_size_counts hr hv (through? t v r) (λ x hx. through_on t v r x)

-- Every vertex of a numbering is sound, so each query that is asked for vertices is answered.
use Prim.Native.Nat.{ℕ, ◌+◌, ◌-◌, ◌≤◌, ◌<◌}
use native.Mathlib.Omega.{arith}
use native.Mathlib.Decide.{dec_le, dec_lt}
use mathlib.Core.Path.{◌≡◌, refl, ap, ◌∙◌}
use mathlib.Core.Logic.{◌≢◌, ◌⊎◌, inl, inr, ⊎_elim}
use mathlib.Core.Bool.{Bool, true, false}
use mathlib.Core.List.{List, [], ◌∷◌}
use lib.Dec.{eqb}
use borrow.Author.Tests.{lt-ltb, le-ltb, le-leb, eq-eqb, ne_eqb}
use Rattle.sums.specs.Sum.{at}
use Rattle.paths.specs.Walk.{Below}
use Rattle.paths.proofs.Canon.{root_ind}
use Rattle.answers.specs.Limits.{max_vertices, no_parent}
use Rattle.answers.proofs.Bounds.{vertices_parents}
use Rattle.numbering.proofs.Whole.{id_below}
use Rattle.numbering.proofs.Chains.{head_below, head_dep, head_first, head_id, par_first, top_chain}
use Rattle.tables.specs.Tables.{Six}
use Rattle.answers.specs.Choice.{both}
use Rattle.climb.specs.Sound.{parent_in, depth_in, head_in, id_in, hung?, sound?, place_of, stand_on, On}
use Rattle.answers.specs.Asked.{vertices?}
use Rattle.climb.specs.Asked.{size_of, tables?, asked}
use Rattle.answers.specs.declared.answer.Refusal.{Refusal}
use Rattle.answers.specs.declared.answer.Refusal.TheVariants.{BadVertex}
use Rattle.pathlaws.specs.Given.{Given}

-- two tests that pass, pass together
pub both_pass : {a b : Bool} → a ≡ true → b ≡ true → both a b ≡ true
both_pass e f = rw (e, f)

-- a vertex is never taken for "no parent"
vertex_parent : (n p : ℕ) → n ≤ max_vertices → p < n → p ≢ no_parent
vertex_parent n p h b e = let l = vertices_parents in omega arith

module _ {n root : ℕ} {A : ℕ → List ℕ} {t : Six} {kids : ℕ → List ℕ} (G : Given n A root t kids) where
  -- a vertex is no deeper than its number
  depth_id : {x : ℕ} → x < n → depth_in t x ≤ id_in t x
  depth_id {x} hx =
      root_ind G.tables.spans.rooted (λ v. depth_in t v ≤ id_in t v) (let z = G.tables.spans.rooted.root_top in omega arith)
      (λ v hv p ih.
      let z = G.tables.spans.rooted.par_dep v hv p in
      let f = par_first G.tables.numbering hv p in
      omega arith) x hx

  -- the parent of a head that is not the root is a vertex
  pub up_below : {x : ℕ} → x < n → 0 < depth_in t (head_in t x) → parent_in t (head_in t x) < n
  up_below {x} hx p = G.tables.spans.rooted.par_below (head_in t x) (head_below G.tables.numbering hx) p

  -- so it is never "no parent"
  pub up_parent : {x : ℕ} → x < n → 0 < depth_in t (head_in t x) → eqb (parent_in t (head_in t x)) no_parent ≡ false
  up_parent {x} hx p = ne_eqb (parent_in t (head_in t x)) no_parent (vertex_parent n (parent_in t (head_in t x)) G.limit (up_below hx p))

  -- the root's chain has no parent
  pub top_parent : {x : ℕ} → x < n → depth_in t (head_in t x) ≡ 0 → eqb (parent_in t (head_in t x)) no_parent ≡ true
  top_parent {x} hx z =
      eq-eqb (parent_in t (head_in t x)) no_parent (ap (at t.parent) (top_chain G.tables.numbering hx z) ∙ G.tables.no_parent)

  -- a head has depth 0 and no parent, or hangs below a vertex with a smaller number
  hung : {x : ℕ} → x < n → hung? n t (head_in t x) (parent_in t (head_in t x)) ≡ true
  hung {x} hx = elim (dec_le 1 (depth_in t (head_in t x))) [
    | yes p ↦
        let hh = head_below G.tables.numbering hx in
        rw (
          up_parent hx p,
          lt-ltb (parent_in t (head_in t x)) n (up_below hx p),
          eq-eqb (depth_in t (parent_in t (head_in t x)) + 1) (depth_in t (head_in t x)) (G.tables.spans.rooted.par_dep (head_in t x) hh p),
          lt-ltb (id_in t (parent_in t (head_in t x))) (id_in t (head_in t x)) (par_first G.tables.numbering hh p),
        )
    | no q ↦ rw (top_parent hx (omega arith), eq-eqb (depth_in t (head_in t x)) 0 (omega arith))
  ]

  -- every vertex is sound
  pub sound_vertex : {x : ℕ} → x < n → sound? n t x ≡ true
  unfolding sound?
  sound_vertex {x} hx =
      let d = head_dep G.tables.numbering hx in
      let i = head_first G.tables.numbering hx in
      let s = head_id G.tables.numbering hx in
      let b = id_below G.tables.numbering.arrangement hx in
      let l = depth_id hx in
      both_pass (lt-ltb (head_in t x) n (head_below G.tables.numbering hx))
      (both_pass (le-leb (depth_in t (head_in t x)) (depth_in t x) d)
      (both_pass (lt-ltb (depth_in t x) n (omega arith))
      (both_pass (le-leb (id_in t (head_in t x)) (id_in t x) i)
      (both_pass (lt-ltb (id_in t x) n b)
      (both_pass (eq-eqb (id_in t x - id_in t (head_in t x)) (depth_in t x - depth_in t (head_in t x)) (omega arith)) (hung hx))))))

  -- so a query can stand on it
  pub stand_vertex : {x : ℕ} → x < n → stand_on n t x ≡ On (place_of t x)
  stand_vertex hx = rw (sound_vertex hx)

  -- the tables have the lengths that a query tests
  pub tables_pass : tables? t ≡ true
  tables_pass =
      let b = G.tables.spans.rooted.root_below in
      let l = G.tables.long in
      let m = G.limit in
      both_pass (le-leb 1 (size_of t) (omega arith))
      (both_pass (le-leb (size_of t) max_vertices (omega arith))
      (both_pass (eq-eqb _ (size_of t) (omega arith))
      (both_pass (eq-eqb _ (size_of t) (omega arith))
      (both_pass (eq-eqb _ (size_of t) (omega arith))
      (both_pass (eq-eqb _ (size_of t) (omega arith)) (both_pass (eq-eqb _ (size_of t) (omega arith)) refl))))))

-- vertices pass the test of arguments
vertices_pass : (n : ℕ) (vs : List ℕ) → Below n vs → vertices? n vs ≡ true
vertices_pass n [] b = refl
vertices_pass n (v ∷ vs) b = both_pass (lt-ltb v n b.0) (vertices_pass n vs b.1)

-- numbers are all vertices, or do not pass it
vertices_or_not : (n : ℕ) (vs : List ℕ) → Below n vs ⊎ (vertices? n vs ≡ false)
vertices_or_not n [] = inl tt
vertices_or_not n (v ∷ vs) = elim (dec_lt v n) [
  | yes h ↦ ⊎_elim (λ b. inl (h, b)) (λ e. inr (rw (lt-ltb v n h) e)) (vertices_or_not n vs)
  | no q ↦ inr (rw (le-ltb v n (omega arith)))
]

module _ {n root : ℕ} {A : ℕ → List ℕ} {t : Six} {kids : ℕ → List ℕ} (G : Given n A root t kids) where
  -- a query asked for vertices is answered
  pub answered : {X : Type 0} (vs : List ℕ) (refused : Refusal → X) (answer : ℕ → X) → Below n vs → asked t vs refused (answer (size_of t)) ≡ answer n
  answered vs refused answer b = rw (tables_pass G, G.tables.long.parent, vertices_pass n vs b)

  -- a query is asked for vertices, or refused 4
  pub asked_or_refused : {X : Type 0} (vs : List ℕ) (refused : Refusal → X) (answer : X) → Below n vs ⊎ (asked t vs refused answer ≡ refused BadVertex)
  asked_or_refused {X} vs refused answer = ⊎_elim inl (λ e. inr (none e)) (vertices_or_not n vs)
    where
      none : vertices? n vs ≡ false → asked t vs refused answer ≡ refused BadVertex
      none e = rw (tables_pass G, G.tables.long.parent, e)

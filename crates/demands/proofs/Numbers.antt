-- The tables of a numbering and the answers to queries on them, by the simple paths of the tree.
use Rattle.std.specs.Prelude.{Ok}
use Prim.Native.Nat.{ℕ, ◌<◌}
use native.Mathlib.Omega.{arith}
use mathlib.Core.Path.{◌≡◌, sym, ap, subst, ◌∙◌}
use mathlib.Core.Logic.Iff
use mathlib.Core.Logic.{◌↔◌}
use mathlib.Core.Bool.{Bool}
use mathlib.Core.List.{List, ◌∷◌, head-eq_of_cons-eq}
use lib.ListN.{length}
use Rattle.sums.specs.Sum.{at}
use Rattle.sums.proofs.Sums.{equal_or_not}
use Rattle.paths.specs.Walk.{In, Stands, Simple}
use Rattle.paths.specs.Tree.{Tree}
use Rattle.paths.specs.Rooted.{Spans, Anc}
use Rattle.paths.specs.Route.{ptail}
use Rattle.paths.proofs.Listed.{in-below}
use Rattle.paths.proofs.Unique.{path_simple, path_unique}
use Rattle.paths.proofs.Ancestors.{anc_root}
use Rattle.paths.proofs.Top.{top_unique}
use Rattle.numbering.proofs.SameTree.{depth-length, first_parent}
use Rattle.numbering.proofs.Subtrees.{anc_interval}
use Rattle.numbering.proofs.Sizes.{size-count, id_order}
use Rattle.tables.specs.Tables.{Six, kids_by_rule_one}
use Rattle.queries.specs.Queries.{lca}
use Rattle.pathlaws.specs.Given.{Given, path_in, through?}
use Rattle.pathlaws.proofs.SingleEntries.{vertex_count_lem, root_answer, depth_answer, id_answer, range_answer}
use Rattle.pathlaws.proofs.SimplePaths.{distance_simple, jump_simple, jump_simple_too_far, kth_simple, kth_simple_too_far, subtree_size_simple}
use Rattle.pathlaws.proofs.SubtreeSizes.{through_on}
use Rattle.pathlaws.proofs.Refusals.{never_nine}
use Rattle.pathlaws.proofs.ReRooted.{lca_re_rooted}
use Rattle.readings.proofs.SimpleReadings.{vertices_simple, edges_simple, both_simple, simple_last}
use Rattle.ranges.specs.declared.kinds.Kind.TheVariants.{Vertices, Edges, Both}
use Rattle.paths.proofs.Hung.{tree_hangs}
use Rattle.answers.proofs.Bounds.{vertices_parents}
use Rattle.demands.specs.Numbers.{OnPath, PicksSubtree, Entries}
use Rattle.demands.specs.Answers.{in_rattle, Answers, NoNine}
use Rattle.demands.proofs.Found.{ranges_along_lem, ranges_no_nine}

-- in a tree that hangs from r, the ancestors of v are the vertices on its simple path to r
pub on_anc :
    {n : ℕ} (A : ℕ → List ℕ) {r : ℕ} {par dep : ℕ → ℕ} → Spans n (Stands A) r par dep → (x : ℕ) {v : ℕ} → v < n → OnPath n A v r x ↔ Anc par dep x v
on_anc {n} A {r} {par} {dep} S x {v} hv =
    let a = anc_root S.rooted x hv in (
      λ p. a.1 (subst (λ (l : List ℕ). In x (v ∷ l)) (path_unique S p.1) p.2),
      λ h. (ptail par dep v r, path_simple S hv S.rooted.root_below, a.0 h),
    )

module _ {n root : ℕ} {A : ℕ → List ℕ} {t : Six} (G : Given n A root t (kids_by_rule_one A t)) where
  -- the depth is the length of the simple path to the root
  depth_of_lem : {v : ℕ} {P : List ℕ} → Simple n (Stands A) v root P → at t.depth v ≡ length P
  depth_of_lem s = sym (ap length (path_unique G.tables.spans s) ∙ depth-length G.tables.spans.rooted s.below.0)

  -- the parent is the next vertex on it
  parent_of : {v p : ℕ} {P : List ℕ} → Simple n (Stands A) v root (p ∷ P) → at t.parent v ≡ p
  parent_of s =
      let d = depth_of_lem s in
      head-eq_of_cons-eq (sym (path_unique G.tables.spans s ∙ first_parent G.tables.spans.rooted s.below.0 (omega arith)))

  -- a vertex whose parent is a vertex is not the root
  below_root : {u v : ℕ} → u < n → v < n → at t.parent v ≡ u → 0 < at t.depth v
  below_root {u} {v} hu hv e = equal_or_not (at t.depth v) 0
      (λ z.
      let o = ap (at t.parent) (G.tables.spans.rooted.one_root v hv z) in
      let q = G.tables.no_parent in
      let m = G.limit in
      let a = vertices_parents in
      absurd (omega arith))
      (λ d. omega arith)

  -- a test that picks v's subtree, seen from r
  picks : {r v : ℕ} → r < n → v < n → (test : ℕ → Bool) × PicksSubtree n A r v test
  picks {r} {v} hr hv =
      let S = G.tables.spans in (
        through? t v r,
        λ x hx.
            let on = through_on t v r x in
            (λ e. (path_in t x r, path_simple S hx hr, on.0 e), λ p. on.1 (subst (λ (l : List ℕ). In v (x ∷ l)) (path_unique S p.1) p.2)),
      )

  -- the entries of the tables
  pub entries : Entries n A root t
  entries =
      let N = G.tables.numbering in
      record {
        long = G.tables.long;
        parent = parent_of;
        no_parent = G.tables.no_parent;
        depth = depth_of_lem;
        size = λ hv test f. size-count N hv test (λ x hx. Iff.trans (f x hx) (on_anc A G.tables.spans _ hx));
        picks = picks;
        root_number = N.arrangement.root_id;
        numbers = λ {u} hu. (N.arrangement.arranged u hu).numbers;
        children = λ {u} hu v.
            let k = (N.arrangement.arranged u hu).children v in
            (λ i. let c = k.0 i in (c.0, c.1.1), λ c. k.1 (c.0, (below_root hu c.0 c.1, c.1)));
        each_once = λ {u} hu. (N.arrangement.arranged u hu).once;
        root_head = N.arrangement.root_head;
        heads = λ {u} hu. (N.arrangement.arranged u hu).chain;
        order_id = λ {v} hv. N.inverse v hv;
        id_order = λ hi. id_order N hi;
        subtree = λ {v} hv hx. Iff.trans (on_anc A G.tables.spans v hx) (anc_interval N.arrangement hv hx);
      }

  -- `lca` is the deepest vertex on the paths of both to r
  lca_deepest :
      Tree n A → {r u v : ℕ} (m : ℕ) → OnPath n A u r m → OnPath n A v r m
      → ((x : ℕ) → OnPath n A u r x → OnPath n A v r x → OnPath n A m r x)
      → lca t r u v ≡ Ok m
  lca_deepest tree {r} {u} {v} m p q deepest =
      let hu = p.1.below.0 in
      let hv = q.1.below.0 in
      let hm = in-below n m (u ∷ p.0) p.1.below p.2 in
      let H = tree_hangs tree (simple_last p.1) in
      let S = H.spans in
      lca_re_rooted G S hu hv
      ∙ ap Ok (sym (top_unique S.rooted m hu hv ((on_anc A S m hu).0 p) ((on_anc A S m hv).0 q)
      (λ x a b. (on_anc A S x hm).0 (deepest x ((on_anc A S x hu).1 a) ((on_anc A S x hv).1 b)))))

  -- the answers of the calls
  pub answers : Tree n A → Answers in_rattle n A root t
  answers tree = record {
    vertex_count = vertex_count_lem G;
    root_answer = root_answer G;
    depth = λ s. depth_answer G s.below.0 ∙ ap Ok (depth_of_lem s);
    vertex_id = λ hv. id_answer G hv;
    subtree_range = λ hv. range_answer G hv;
    distance = λ s. distance_simple G s;
    kth_ancestor = λ k s h. kth_simple G k s h;
    jump = λ k s h. jump_simple G k s h;
    no_ancestor = λ k s h. kth_simple_too_far G k s h;
    no_jump = λ k s h. jump_simple_too_far G k s h;
    lca = lca_deepest tree;
    subtree_size = λ hr hv test f. subtree_size_simple G hr hv test f;
    vertex_ranges = λ s. let f = ranges_along_lem G Vertices s in (f.0, f.1, vertices_simple G s f.0 f.2);
    edge_ranges = λ s. let f = ranges_along_lem G Edges s in (f.0, f.1, edges_simple G s f.0 f.2);
    both_ranges = λ s. let f = ranges_along_lem G Both s in (f.0, f.1, both_simple G s f.0 f.2);
  }

  -- none is the refusal 9
  pub no_nine : NoNine t
  no_nine = record { queries = never_nine G; ranges = ranges_no_nine G }

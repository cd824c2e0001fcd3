-- "`lca(r,u,v)` and `subtree_size(r,v)`: as if r were the root": the answers are those of the same tree hung from r.
use Rattle.std.specs.Prelude.{Ok}
use Prim.Native.Nat.{ℕ, ◌<◌}
use mathlib.Core.Path.{◌≡◌, sym, ap, subst, ◌∙◌}
use mathlib.Core.Logic.Iff
use mathlib.Core.Logic.{◌↔◌}
use mathlib.Core.List.{List, ◌∷◌}
use Rattle.sums.specs.Sum.{at}
use Rattle.paths.specs.Walk.{In, Stands}
use Rattle.paths.specs.Rooted.{Spans, Anc}
use Rattle.paths.specs.Route.{On, top}
use Rattle.paths.proofs.Unique.{root_free}
use Rattle.paths.proofs.Turn.{on_turn}
use Rattle.paths.proofs.Ancestors.{anc_root}
use Rattle.paths.proofs.Top.{top_left, top_right, top_on}
use Rattle.numbering.proofs.Sizes.{size-count}
use Rattle.tables.specs.Tables.{Six, NumberingOf}
use Rattle.queries.specs.Queries.{lca, subtree_size}
use Rattle.pathlaws.specs.Given.{Given, OnIn, through?}
use Rattle.pathlaws.proofs.Lca.{lca_answer}
use Rattle.pathlaws.proofs.SubtreeSizes.{through_on, subtree_size_lem}

module _ {n root : ℕ} {A : ℕ → List ℕ} {t : Six} {kids : ℕ → List ℕ} (G : Given n A root t kids) where
  module _ {r : ℕ} {par dep : ℕ → ℕ} (S : Spans n (Stands A) r par dep) where
    -- a vertex is on a path whichever root the path is read from
    on_same_tree : (x : ℕ) {u v : ℕ} → u < n → v < n → On par dep x u v ↔ OnIn t x u v
    on_same_tree x {u} {v} hu hv =
        let e = root_free S G.tables.spans hu hv in
        (subst (λ (l : List ℕ). In x (u ∷ l)) e, subst (λ (l : List ℕ). In x (u ∷ l)) (sym e))

    -- an ancestor in the tree hung from r is on the path to r
    anc_on_path : (x : ℕ) {v : ℕ} → v < n → Anc par dep x v ↔ OnIn t x v r
    anc_on_path x hv = Iff.trans (anc_root S.rooted x hv) (on_same_tree x hv S.rooted.root_below)

    -- `lca` answers the deepest common ancestor in the tree hung from r
    pub lca_re_rooted : {u v : ℕ} → u < n → v < n → lca t r u v ≡ Ok (top par dep u v)
    lca_re_rooted {u} {v} hu hv =
        let hr = S.rooted.root_below in
        let m : ℕ = top par dep u v in
        lca_answer G m hr hu hv
        (record {
          across = (on_same_tree m hu hv).0 (top_on S.rooted hu hv);
          to_first = on_turn G.tables.spans.rooted m hu hr ((anc_on_path m hu).0 (top_left S.rooted hu hv));
          to_second = on_turn G.tables.spans.rooted m hv hr ((anc_on_path m hv).0 (top_right S.rooted hu hv));
        })

  -- `subtree_size` answers the size that a numbering from r gives
  pub size_re_rooted :
      {r : ℕ} {s : Six} {heirs : ℕ → List ℕ} {v : ℕ} → NumberingOf n A r s heirs → v < n → subtree_size t r v ≡ Ok (at s.size v)
  size_re_rooted {r} {s} {v = v} B hv =
      subtree_size_lem G B.spans.rooted.root_below hv
      ∙ ap Ok (sym (size-count B.numbering hv (through? t v r)
      (λ x hx. Iff.trans (through_on t v r x) (back (anc_on_path B.spans v hx)))))
    where
      back : {P Q : Type 0} → P ↔ Q → Q ↔ P
      back i = (i.1, i.0)

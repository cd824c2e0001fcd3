-- A tree hung from one root has one parent and one depth for each vertex, and so the same ancestors.
use Prim.Native.Nat.{ℕ, ◌<◌}
use native.Mathlib.Omega.{arith}
use mathlib.Core.Path.{◌≡◌, sym, ap, subst, ◌∙◌}
use mathlib.Core.Logic.Iff
use mathlib.Core.Logic.{◌↔◌}
use mathlib.Core.List.{List, ◌∷◌, head-eq_of_cons-eq}
use lib.ListN.{length}
use Rattle.paths.specs.Walk.{In}
use Rattle.paths.specs.Rooted.{Rooted, Spans, Child, Anc}
use Rattle.paths.specs.Route.{ptail}
use Rattle.paths.proofs.Above.{root_anc}
use Rattle.paths.proofs.Steps.{leave}
use Rattle.paths.proofs.Ancestors.{climb-length, anc_root}
use Rattle.paths.proofs.Unique.{root_free}

module _ {n root : ℕ} {par dep : ℕ → ℕ} (R : Rooted n root par dep) where
  -- a vertex's depth is the length of its path to the root
  pub depth-length : {v : ℕ} → v < n → length (ptail par dep v root) ≡ dep v
  depth-length {v} hv =
      let a = root_anc R hv in
      let z = R.root_top in
      let l = climb-length R a.0 root hv a.1 a.2 in
      omega arith

  -- the path to the root begins with the parent
  pub first_parent : {v : ℕ} → v < n → 0 < dep v → ptail par dep v root ≡ par v ∷ ptail par dep (par v) root
  first_parent hv p = let z = R.root_top in leave R hv R.root_below (λ a. omega arith)

module _
    {n : ℕ} {E : ℕ → ℕ → Type 0} {root : ℕ} {par dep par' dep' : ℕ → ℕ}
    (S : Spans n E root par dep) (S' : Spans n E root par' dep')
  where
    -- the path to the root is one
    same_path : {v : ℕ} → v < n → ptail par dep v root ≡ ptail par' dep' v root
    same_path hv = root_free S S' hv S.rooted.root_below

    -- the depths agree
    pub same_dep : {v : ℕ} → v < n → dep v ≡ dep' v
    same_dep hv = sym (depth-length S.rooted hv) ∙ ap length (same_path hv) ∙ depth-length S'.rooted hv

    -- the parents agree
    pub same_par : {v : ℕ} → v < n → 0 < dep v → par v ≡ par' v
    same_par hv p =
        let z = same_dep hv in
        head-eq_of_cons-eq (sym (first_parent S.rooted hv p) ∙ same_path hv ∙ first_parent S'.rooted hv (omega arith))

    -- the children agree
    pub same_child : {u v : ℕ} → v < n → Child par dep u v → Child par' dep' u v
    same_child hv c = let z = same_dep hv in let p = c.0 in (omega arith, sym (same_par hv c.0) ∙ c.1)

    -- the ancestors agree
    pub same_anc : (x : ℕ) {v : ℕ} → v < n → Anc par dep x v ↔ Anc par' dep' x v
    same_anc x {v} hv =
        Iff.trans (anc_root S.rooted x hv)
        (subst (λ (l : List ℕ). In x (v ∷ l) ↔ Anc par' dep' x v) (sym (same_path hv)) (Iff.symm (anc_root S'.rooted x hv)))

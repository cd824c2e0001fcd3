-- Rule 1 leaves no choice: two numberings of one tree from one root by rule 1 are the same numbering.
use Prim.Native.Nat.{ℕ, ◌+◌, ◌<◌}
use native.Mathlib.Omega.{arith}
use mathlib.Core.Path.{◌≡◌, refl, sym, ap, subst, subst₂, ◌∙◌}
use mathlib.Core.Logic.Iff
use mathlib.Core.Logic.{inl, inr, ◌↔◌}
use mathlib.Core.Bool.{Bool, true, false, false≢true}
use mathlib.Core.List.{List, [], ◌∷◌}
use Rattle.paths.specs.Walk.{In, Stands}
use Rattle.paths.specs.Rooted.{Spans}
use Rattle.paths.specs.Route.{child?}
use Rattle.paths.proofs.Above.{anc?}
use Rattle.paths.proofs.Canon.{root_ind}
use Rattle.numbering.specs.Numbering.{Numbered, Chained}
use Rattle.numbering.specs.RuleOne.{children_of, by_rule_one}
use Rattle.numbering.specs.Ruled.{Ruled}
use Rattle.numbering.proofs.Tiles.{light_in}
use Rattle.numbering.proofs.Sizes.{size-count, order_below, id_order}
use Rattle.paths.proofs.Kept.{keep_ext}
use Rattle.numbering.proofs.ChildLists.{child_true, children_in}
use Rattle.numbering.proofs.ByRule.{by_rule_in, by_rule_ext}
use Rattle.numbering.proofs.SameTree.{same_child, same_anc}

-- siblings numbered from one number on, with sizes that agree, have numbers that agree
numbered_same : (id size id' size' : ℕ → ℕ) (next : ℕ) (l : List ℕ) → ((v : ℕ) → In v l → size v ≡ size' v)
    → Numbered id size next l → Numbered id' size' next l → (v : ℕ) → In v l → id v ≡ id' v
numbered_same id size id' size' next [] s t t' v h = absurd h
numbered_same id size id' size' next (x ∷ l) s t t' v (inl e) = ap id e ∙ t.0 ∙ sym t'.0 ∙ ap id' (sym e)
numbered_same id size id' size' next (x ∷ l) s t t' v (inr h) =
    let z = s x (inl refl) in
    let e : next + size' x ≡ next + size x = omega arith in
    numbered_same id size id' size' (next + size x) l (λ w i. s w (inr i)) t.1
    (subst (λ (k : ℕ). Numbered id' size' k l) e t'.1) v h

-- siblings below a chain with one head have heads that agree
chained_same : (head size head' size' : ℕ → ℕ) (h : ℕ) (l : List ℕ) → Chained head size h l → Chained head' size' h l
    → (v : ℕ) → In v l → head v ≡ head' v
chained_same head size head' size' h [] c c' v i = absurd i
chained_same head size head' size' h (x ∷ l) c c' v (inl e) = ap head e ∙ c.0 ∙ sym c'.0 ∙ ap head' (sym e)
chained_same head size head' size' h (x ∷ l) c c' v (inr i) =
    (light_in head size (size x) l v c.1 i).0 ∙ sym (light_in head' size' (size' x) l v c'.1 i).0

-- a decision as a test
decided : {P : Type 0} → Dec P → Bool
decided (yes h) = true
decided (no f) = false

-- the test is true exactly if the statement holds
decided_true : {P : Type 0} (d : Dec P) → (decided d ≡ true) ↔ P
unfolding decided
decided_true (yes h) = (λ e. h, λ p. refl)
decided_true (no f) = (λ e. absurd (false≢true e), λ p. absurd (f p))

-- two tests that are true together are the same
both_true : (a b : Bool) → (a ≡ true → b ≡ true) → (b ≡ true → a ≡ true) → a ≡ b
both_true true true f g = refl
both_true true false f g = sym (f refl)
both_true false true f g = g refl
both_true false false f g = refl

module _
    {n root : ℕ} {A : ℕ → List ℕ}
    {par dep head id order size : ℕ → ℕ} {kids : ℕ → List ℕ} (G : Ruled n A root par dep head id order size kids)
  where
    -- a child in list order is a vertex
    pub listed_below : {u : ℕ} → u < n → (v : ℕ) → In v (children_of A par dep u) → v < n
    listed_below {u} hu v i =
        let j = (by_rule_in size (children_of A par dep u) v).1 i in
        (((G.numbering.arrangement.arranged u hu).children v).0 (subst (In v) (sym (G.rule u hu)) j)).0

    -- what is a child in list order is one for any parents and depths of the tree
    listed_child :
        {par' dep' : ℕ → ℕ} → Spans n (Stands A) root par' dep' → {u : ℕ} → u < n → (v : ℕ) → In v (A u)
        → child? par dep u v ≡ true → child? par' dep' u v ≡ true
    listed_child {par'} {dep'} S' {u} hu v i e =
        let c = (child_true par dep u v).0 e in
        (child_true par' dep' u v).1 (same_child G.spans S' (listed_below hu v ((children_in A par dep u v).1 (i, c))) c)

module _
    {n root : ℕ} {A : ℕ → List ℕ}
    {par dep head id order size : ℕ → ℕ} {kids : ℕ → List ℕ}
    {par' dep' head' id' order' size' : ℕ → ℕ} {kids' : ℕ → List ℕ}
    (G : Ruled n A root par dep head id order size kids) (G' : Ruled n A root par' dep' head' id' order' size' kids')
  where
    -- the sizes agree
    pub same_size : {u : ℕ} → u < n → size u ≡ size' u
    same_size {u} hu =
        let t : ℕ → Bool = λ v. decided (anc? par dep u v) in
        size-count G.numbering hu t (λ v hv. decided_true (anc? par dep u v))
        ∙ sym (size-count G'.numbering hu t
        (λ v hv. Iff.trans (decided_true (anc? par dep u v)) (same_anc G.spans G'.spans u hv)))

    -- the children in list order agree
    same_children : {u : ℕ} → u < n → children_of A par dep u ≡ children_of A par' dep' u
    same_children {u} hu =
        keep_ext (child? par dep u) (child? par' dep' u) (A u)
        (λ v i. both_true (child? par dep u v) (child? par' dep' u v) (listed_child G G'.spans hu v i) (listed_child G' G.spans hu v i))

    -- the children in the order of their numbers agree
    pub same_kids : {u : ℕ} → u < n → kids u ≡ kids' u
    same_kids {u} hu =
        G.rule u hu
        ∙ by_rule_ext size size' (children_of A par dep u) (λ v i. same_size (listed_below G hu v i))
        ∙ ap (by_rule_one size') (same_children hu)
        ∙ sym (G'.rule u hu)

    -- the numbers and the heads agree
    same_id_head : {v : ℕ} → v < n → (id v ≡ id' v) × (head v ≡ head' v)
    same_id_head {v} hv = root_ind G.spans.rooted P start step v hv
      where
        P : ℕ → Type 0
        P v = (id v ≡ id' v) × (head v ≡ head' v)

        start : P root
        start = (G.numbering.arrangement.root_id ∙ sym G'.numbering.arrangement.root_id, G.numbering.arrangement.root_head ∙ sym G'.numbering.arrangement.root_head)

        step : (v : ℕ) → v < n → 0 < dep v → P (par v) → P v
        step v hv p ih =
            let hp = G.spans.rooted.par_below v hv p in
            let a = G.numbering.arrangement.arranged (par v) hp in
            let b = G'.numbering.arrangement.arranged (par v) hp in
            let k = sym (same_kids hp) in
            let i : In v (kids (par v)) = (a.children v).1 (hv, (p, refl)) in
            let t : Numbered id' size' (id (par v) + 1) (kids (par v)) =
            subst₂ (λ (x : ℕ) (l : List ℕ). Numbered id' size' (x + 1) l) (sym ih.0) k b.numbers in
            let c : Chained head' size' (head (par v)) (kids (par v)) =
            subst₂ (λ (x : ℕ) (l : List ℕ). Chained head' size' x l) (sym ih.1) k b.chain in (
              numbered_same id size id' size' (id (par v) + 1) (kids (par v)) (λ w j. same_size ((a.children w).0 j).0) a.numbers t v i,
              chained_same head size head' size' (head (par v)) (kids (par v)) a.chain c v i,
            )

    -- the numbers agree
    pub same_id : {v : ℕ} → v < n → id v ≡ id' v
    same_id hv = (same_id_head hv).0

    -- the heads of the chains agree
    pub same_head : {v : ℕ} → v < n → head v ≡ head' v
    same_head hv = (same_id_head hv).1

    -- the orders agree
    pub same_order : {i : ℕ} → i < n → order i ≡ order' i
    same_order {i} h =
        let hv = order_below G.numbering h in
        sym (G'.numbering.inverse (order i) hv) ∙ ap order' (sym (same_id hv) ∙ id_order G.numbering h)

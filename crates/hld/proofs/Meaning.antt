-- What the contract of `try_hld` says: it determines the code, all six tables and all of work.
use Prim.Native.Nat.{ℕ, ◌<◌}
use native.Mathlib.Omega.{arith}
use native.Mathlib.Decide.{ℕ_discrete}
use mathlib.Core.Path.{◌≡◌, refl, sym, ap, ◌∙◌}
use mathlib.Core.Logic.{by_cases}
use mathlib.Core.List.{List}
use lib.ListN.{length}
use lib.Seq.{ext_get_or}
use Rattle.sums.specs.Sum.{at}
use Rattle.sums.proofs.Sums.{equal_or_not}
use Rattle.graph.specs.Lent.{vertices}
use Rattle.graph.proofs.Calling.{fits?, graph_call-one}
use Rattle.numbering.specs.Ruled.{Ruled}
use Rattle.numbering.proofs.SameTree.{same_dep, same_par}
use Rattle.numbering.proofs.Same.{same_size, same_id, same_head, same_order}
use Rattle.tables.specs.Tables.{Six, Long, NumberingOf, kids_by_rule_one}
use Rattle.hld.specs.Build.{Builds}

-- the tables number the tree by rule 1
pub tables_ruled : {n : ℕ} {A : ℕ → List ℕ} {root : ℕ} {t : Six} → NumberingOf n A root t (kids_by_rule_one A t)
    → Ruled n A root (at t.parent) (at t.depth) (at t.head) (at t.id) (at t.order) (at t.size) (kids_by_rule_one A t)
tables_ruled b = record { spans = b.spans; numbering = b.numbering; rule = λ u h. refl }

-- two lists of n entries that agree at each
lists-one : (n : ℕ) (a b : List ℕ) → length a ≡ n → length b ≡ n → ((i : ℕ) → i < n → at a i ≡ at b i) → a ≡ b
lists-one n a b la lb same = ext_get_or 0 a b (la ∙ sym lb) (λ i h. same i (omega arith))

-- a tree has one set of tables from a root
pub tables-one : {n : ℕ} {A : ℕ → List ℕ} {root : ℕ} {t t' : Six} → NumberingOf n A root t (kids_by_rule_one A t) → NumberingOf n A root t' (kids_by_rule_one A t') → t ≡ t'
tables-one {n} {A} {root} {t} {t'} b b' =
    λ i. record { parent = parents i; depth = depths i; head = heads i; id = ids i; order = orders i; size = sizes i }
  where
    depths : t.depth ≡ t'.depth
    depths = lists-one n t.depth t'.depth b.long.depth b'.long.depth (λ v h. same_dep b.spans b'.spans h)

    parents : t.parent ≡ t'.parent
    parents =
        lists-one n t.parent t'.parent b.long.parent b'.long.parent
        (λ v h. equal_or_not (at t.depth v) 0
        (λ z. (let e = b.spans.rooted.one_root v h z in
        ap (at t.parent) e ∙ b.no_parent ∙ sym (ap (at t'.parent) e ∙ b'.no_parent)))
        (λ d. same_par b.spans b'.spans h (omega arith)))

    heads : t.head ≡ t'.head
    heads = lists-one n t.head t'.head b.long.head b'.long.head (λ v h. same_head (tables_ruled b) (tables_ruled b') h)

    ids : t.id ≡ t'.id
    ids = lists-one n t.id t'.id b.long.id b'.long.id (λ v h. same_id (tables_ruled b) (tables_ruled b') h)

    orders : t.order ≡ t'.order
    orders = lists-one n t.order t'.order b.long.order b'.long.order (λ v h. same_order (tables_ruled b) (tables_ruled b') h)

    sizes : t.size ≡ t'.size
    sizes = lists-one n t.size t'.size b.long.size b'.long.size (λ v h. same_size (tables_ruled b) (tables_ruled b') h)

-- whether each table has n entries
pub long? : (n : ℕ) (t : Six) → Dec (Long n t)
long? n t =
    by_cases (ℕ_discrete (length t.parent) n)
    (λ a. by_cases (ℕ_discrete (length t.depth) n)
    (λ b. by_cases (ℕ_discrete (length t.head) n)
    (λ c. by_cases (ℕ_discrete (length t.id) n)
    (λ d. by_cases (ℕ_discrete (length t.order) n)
    (λ e. by_cases (ℕ_discrete (length t.size) n)
    (λ f. yes (record { parent = a; depth = b; head = c; id = d; order = e; size = f }))
    (λ x. no (λ l. x l.size)))
    (λ x. no (λ l. x l.order)))
    (λ x. no (λ l. x l.id)))
    (λ x. no (λ l. x l.head)))
    (λ x. no (λ l. x l.depth)))
    (λ x. no (λ l. x l.parent))

-- two results that the contract allows coincide: the code, the tables and all of work
pub builds-one : (os ts : List ℕ) (root : ℕ) {t t₁ t₂ : Six} {w w₁ w₂ : List ℕ} {c₁ c₂ : ℕ} → Builds os ts root t w t₁ w₁ c₁ → Builds os ts root t w t₂ w₂ c₂
    → (c₁ ≡ c₂) × (t₁ ≡ t₂) × (w₁ ≡ w₂)
builds-one os ts root {t} p q = graph_call-one (fits? os ts (long? (vertices os) t)) (λ f a b. tables-one a b) p q

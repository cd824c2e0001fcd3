-- Ranked positions have numbers below n, each once, and heads among the positions: so the tables can be written by vertex and by number.
use Prim.Native.Nat.{ℕ, zero, suc, ◌≤◌, ◌<◌}
use native.Mathlib.Omega.{arith}
use mathlib.Core.Path.{◌≡◌, sym, ap, ◌∙◌}
use mathlib.Core.List.{List}
use Rattle.sums.proofs.Sums.{equal_or_not}
use Rattle.sums.proofs.Pigeon.{Injective}
use Rattle.paths.specs.Walk.{Below}
use Rattle.paths.specs.Tree.{Tree}
use Rattle.numbering.specs.Numbering.{Arrangement}
use Rattle.numbering.specs.RuleOne.{children_of, by_rule_one}
use Rattle.numbering.proofs.Subtrees.{id_injective}
use Rattle.numbering.proofs.Whole.{id_below}
use Rattle.passes.specs.Passes.{Weighed}
use Rattle.ranks.specs.Ranks.{Ranked}
use Rattle.visit.specs.Visit.{Visited}
use Rattle.visit.proofs.Positions.{Places}
use Rattle.hld.proofs.Tabled.{Holds, table_arrangement}

-- the head of each position is a position
pub tops-below : {n : ℕ} {p s h id top deep : ℕ → ℕ} → ((j : ℕ) → 0 < j → j < n → p j < j) → Ranked n p s h id top deep → (k j : ℕ) → j ≤ k → j < n → top j < n
tops-below {n} {p} {s} {h} {id} {top} earlier K zero j a b = (let z = ap top (let e : j ≡ 0 = omega arith in e) ∙ K.first_top in omega arith)
tops-below {n} {p} {s} {h} {id} {top} earlier K (suc k) j a b =
    equal_or_not j 0 (λ e. (let z = ap top e ∙ K.first_top in omega arith))
    (λ d. equal_or_not (h (p j)) j
    (λ e. (let t = K.heavy_top j (omega arith) b e in let o = earlier j (omega arith) b in
    let r = tops-below earlier K k (p j) (omega arith) (omega arith) in omega arith))
    (λ ne. (let t = K.light_top j (omega arith) b ne in omega arith)))

module _ {n : ℕ} (A : ℕ → List ℕ) {root : ℕ} {q p e g : ℕ → ℕ} (vis : Visited n A root q p e n) (pl : Places n q g) (tree : Tree n A)
    (below : (u : ℕ) → u < n → Below n (A u)) {s h id top deep : ℕ → ℕ} (W : Weighed n p s h) (K : Ranked n p s h id top deep) where
  -- what the positions give a vertex, by its position
  by_position : Holds n q p s id top deep (λ v. q (p (g v))) (λ v. deep (g v)) (λ v. q (top (g v))) (λ v. id (g v)) (λ v. s (g v))
  by_position =
      record {
        par_at = λ j a b. ap (λ (k : ℕ). q (p k)) (pl.forth j b);
        dep_at = λ j b. ap deep (pl.forth j b);
        head_at = λ j b. ap (λ (k : ℕ). q (top k)) (pl.forth j b);
        id_at = λ j b. ap id (pl.forth j b);
        size_at_lem = λ j b. ap s (pl.forth j b);
      }

  arrangement : Arrangement n root (λ v. q (p (g v))) (λ v. deep (g v)) (λ v. q (top (g v))) (λ v. id (g v)) (λ v. s (g v))
      (λ u. by_rule_one (λ v. s (g v)) (children_of A (λ v. q (p (g v))) (λ v. deep (g v)) u))
  arrangement = table_arrangement A vis pl tree below W K by_position

  -- the number of a position, as that of its vertex
  at_vertex : (j : ℕ) → j < n → id (g (q j)) ≡ id j
  at_vertex j b = ap id (pl.forth j b)

  pub ranks_injective : Injective n id
  ranks_injective i j a b same =
      vis.once i j a b (id_injective arrangement (q i) (q j) (vis.below i a) (vis.below j b) (at_vertex i a ∙ same ∙ sym (at_vertex j b)))

  pub ranks-below : (j : ℕ) → j < n → id j < n
  ranks-below j b = (let k = id_below arrangement (vis.below j b) in let e = at_vertex j b in omega arith)

-- Six tables that pass their tests are those of the tree, and no others are.
use Prim.Native.Nat.{ℕ, suc, ◌+◌, ◌<◌}
use mathlib.Core.Path.{◌≡◌, subst}
use mathlib.Core.Logic.Iff
use mathlib.Core.Logic.{◌↔◌}
use mathlib.Core.Bool.{true}
use mathlib.Core.List.{List, [], ◌∷◌}
use lib.Dec.{eqb, leb}
use lib.ListN.{length}
use borrow.Author.Tests.{eqb-true, leb-true}
use Rattle.sums.specs.Sum.{at}
use Rattle.paths.specs.Walk.{In}
use Rattle.paths.specs.Rooted.{Child}
use Rattle.paths.proofs.Listed.{in-below}
use Rattle.answers.specs.Limits.{no_parent}
use Rattle.numbering.specs.Numbering.{total, Numbered, Light, Chained, Arranged}
use Rattle.numbering.specs.RuleOne.{children_of}
use Rattle.paths.proofs.Kept.{keep_once}
use Rattle.numbering.proofs.ChildLists.{children_in}
use Rattle.numbering.proofs.ByRule.{by_rule_in, by_rule_once}
use Rattle.tables.specs.Tables.{Six, Long, TablesOf, kids_by_rule_one}
use Rattle.hld.proofs.Meaning.{tables-one}
use Rattle.pcases.specs.Cases.{Graph, vertices_of, lists_of, Example, TablesFor, HasTables}
use Rattle.pcases.specs.Checks.{all}
use Rattle.pcases.specs.TableChecks.{long_tests, numbered?, light?, chained?, arranged_tests, tables_tests}
use Rattle.pcases.specs.Holds.{tree_from?, own?}
use Rattle.pcases.proofs.Checking.{both_iff, all_iff, below_iff}
use Rattle.pcases.proofs.Spanning.{TreeFrom, tree-from}

long_of : (n : ℕ) (t : Six) → all (long_tests n t) ≡ true → Long n t
long_of n t e =
    let p = (all_iff (long_tests n t)).0 e in
    record {
      parent = eqb-true (length t.parent) n p.0;
      depth = eqb-true (length t.depth) n p.1.0;
      head = eqb-true (length t.head) n p.1.1.0;
      id = eqb-true (length t.id) n p.1.1.1.0;
      order = eqb-true (length t.order) n p.1.1.1.1.0;
      size = eqb-true (length t.size) n p.1.1.1.1.1.0;
    }

numbered_of : (id size : ℕ → ℕ) (next : ℕ) (l : List ℕ) → numbered? id size next l ≡ true → Numbered id size next l
numbered_of id size next [] e = tt
numbered_of id size next (v ∷ l) e =
    let p = (both_iff (eqb (id v) next) (numbered? id size (next + size v) l)).0 e in
    (eqb-true (id v) next p.0, numbered_of id size (next + size v) l p.1)

light_of : (head size : ℕ → ℕ) (most : ℕ) (l : List ℕ) → light? head size most l ≡ true → Light head size most l
light_of head size most [] e = tt
light_of head size most (v ∷ l) e =
    let p = (both_iff (eqb (head v) v) _).0 e in
    let q = (both_iff (leb (size v) most) (light? head size most l)).0 p.1 in
    (eqb-true (head v) v p.0, leb-true (size v) most q.0, light_of head size most l q.1)

chained_of : (head size : ℕ → ℕ) (h : ℕ) (l : List ℕ) → chained? head size h l ≡ true → Chained head size h l
chained_of head size h [] e = tt
chained_of head size h (v ∷ l) e =
    let p = (both_iff (eqb (head v) h) (light? head size (size v) l)).0 e in
    (eqb-true (head v) h p.0, light_of head size (size v) l p.1)

module _ (g : Graph) (root : ℕ) (t : Six) (T : TreeFrom g root t.parent t.depth) where
  -- a vertex's children are those in its list
  child_listed : (u : ℕ) → u < vertices_of g → (v : ℕ)
      → In v (children_of (lists_of g) (at t.parent) (at t.depth) u) ↔ ((v < vertices_of g) × Child (at t.parent) (at t.depth) u v)
  child_listed u hu v =
      let k = children_in (lists_of g) (at t.parent) (at t.depth) u v in (
        λ m. (in-below (vertices_of g) v (lists_of g u) (T.inside u hu) (k.0 m).0, (k.0 m).1),
        λ c. k.1 (subst (λ (x : ℕ). In v (lists_of g x)) c.1.1 (T.spans.down v c.0 c.1.0), c.1),
      )

  -- the children by rule 1, whose sizes, numbers and chains pass their tests, are arranged
  arranged_of :
      (u : ℕ)
      → u < vertices_of g
      → all (arranged_tests (at t.head) (at t.id) (at t.size) u (kids_by_rule_one (lists_of g) t u)) ≡ true
      → Arranged (vertices_of g) (at t.parent) (at t.depth) (at t.head) (at t.id) (at t.size) u (kids_by_rule_one (lists_of g) t u)
  arranged_of u hu e =
      let l = children_of (lists_of g) (at t.parent) (at t.depth) u in
      let kids = kids_by_rule_one (lists_of g) t u in
      let p = (all_iff (arranged_tests (at t.head) (at t.id) (at t.size) u kids)).0 e in
      record {
        children = λ v. Iff.trans (by_rule_in (at t.size) l v) (child_listed u hu v);
        once = by_rule_once (at t.size) l (keep_once _ (lists_of g u) (T.tree.no_repeat u hu));
        sizes = eqb-true (at t.size u) (suc (total (at t.size) kids)) p.0;
        numbers = numbered_of (at t.id) (at t.size) (at t.id u + 1) kids p.1.0;
        chain = chained_of (at t.head) (at t.size) (at t.head u) kids p.1.1.0;
      }

  -- the tests of six tables are right
  tables_of : all (tables_tests (vertices_of g) (lists_of g) root t) ≡ true → TablesOf (vertices_of g) (lists_of g) root t
  tables_of e =
      let n = vertices_of g in
      let p = (all_iff (tables_tests n (lists_of g) root t)).0 e in
      record {
        long = long_of n t p.0;
        spans = T.spans;
        no_parent = eqb-true (at t.parent root) no_parent p.1.0;
        numbering = record {
          arrangement = record {
            rooted = T.spans.rooted;
            root_id = eqb-true (at t.id root) 0 p.1.1.0;
            root_head = eqb-true (at t.head root) root p.1.1.1.0;
            arranged = λ u h. arranged_of u h ((below_iff n _).0 p.1.1.1.1.0 u h);
          };
          inverse = λ v h. eqb-true (at t.order (at t.id v)) v ((below_iff n _).0 p.1.1.1.1.1.0 v h);
        };
      }

-- the test of an example's tables is right
pub tables_right : (x : Example) → own? x ≡ true → HasTables x
tables_right x e =
    let p = (both_iff (tree_from? x.graph x.root x.tables.parent x.tables.depth) _).0 e in
    let T = tree-from x.graph x.root x.tables.parent x.tables.depth p.0 in
    let own : TablesFor x x.tables = tables_of x.graph x.root x.tables T p.1 in
    record { accepted = T.accepted; own = own; only = λ t b. tables-one b own }

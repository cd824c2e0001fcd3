-- What a build that answered 0 has written.
use Prim.Native.Nat.{ℕ}
use native.Mathlib.Omega.{arith}
use mathlib.Core.Path.{refl}
use mathlib.Core.List.{List}
use lib.ListN.{length}
use Rattle.answers.specs.Codes.{done}
use Rattle.graph.specs.Lent.{vertices, list_of}
use Rattle.graph.proofs.Passed.{all_passed}
use Rattle.tables.specs.Tables.{Six, kids_by_rule_one}
use Rattle.hld.specs.Build.{building, Builds}
use Rattle.pathlaws.specs.Given.{Given}

-- the tables of a build that answered 0 are a numbering of the tree within the limits
pub build_given :
    {os ts w w' : List ℕ} {root : ℕ} {t t' : Six} → Builds os ts root t w t' w' done
    → Given (vertices os) (list_of os ts) root t' (kids_by_rule_one (list_of os ts) t')
build_given {os} {ts} {w} {root = root} {t = t} b =
    let p = all_passed (building os ts root t (length w)) (omega arith) b.code in
    record { tables = b.written refl; limit = p.0.sized.few_vertices }

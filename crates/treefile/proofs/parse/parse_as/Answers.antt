use mathlib.Core.Path.{sym, ap, ◌∙◌}
use native.Mathlib.Omega.{arith}
use Rattle.paths.specs.Lists.{front}
use Rattle.treefile.specs.File.{Parsed}
use Rattle.treefile.specs.Parsing.{shape_of, offsets_of, targets_of, queries_of}
use Rattle.treefile.proofs.Inputs.{file_read}
use Rattle.treefile.proofs.parse.parse_as.Goals as goal

pub copy_tree-requires : goal.copy_tree-requires
copy_tree-requires c =
    let r = file_read _ _ _ (sym c.in_ok-tree.ensures) in
    (omega (arith, r.few_offsets), omega (arith, r.few_targets))

pub read_queries-requires : goal.read_queries-requires
read_queries-requires c = omega (arith, (file_read _ _ _ (sym c.in_ok-tree.ensures)).few_queries)

pub returns : goal.returns
returns c =
    let is = c.in_ok-tree.ensures in
    record {
      shape = (let e = ap shape_of is in cc);
      offsets = c.copy_tree.ensures.offsets ∙ ap (λ (p : Parsed). front (offsets_of p) c.args.offsets.now) is;
      targets = c.copy_tree.ensures.targets ∙ ap (λ (p : Parsed). front (targets_of p) c.args.targets.now) is;
      queries = c.read_queries.ensures ∙ ap (λ (p : Parsed). front (queries_of p) c.args.queries.now) is;
    }

use native.Mathlib.Omega.{arith}
use mathlib.Core.Path.{ap}
use Rattle.treefile.specs.Sections.{bytes_in}
use Rattle.treefile.proofs.FileNumbers.{number_within, number_little}
use Rattle.treefile.proofs.words.Words.number.Goals as goal

pub overflow_mul-i : goal.overflow_mul-i
overflow_mul-i c = omega (arith, number_within c.args.self 2 c.args.i (ap bytes_in c.in-Narrow.is) c.requires)

pub narrow_at-requires : goal.narrow_at-requires
narrow_at-requires c = number_within c.args.self 2 c.args.i (ap bytes_in c.in-Narrow.is) c.requires

pub overflow_mul-i-in-Wide : goal.overflow_mul-i-in-Wide
overflow_mul-i-in-Wide c = omega (arith, number_within c.args.self 4 c.args.i (ap bytes_in c.in-Wide.is) c.requires)

pub wide_at-requires : goal.wide_at-requires
wide_at-requires c = number_within c.args.self 4 c.args.i (ap bytes_in c.in-Wide.is) c.requires

pub returns-in-Narrow : goal.returns-in-Narrow
returns-in-Narrow c = number_little c.args.self 2 c.args.i _ (ap bytes_in c.in-Narrow.is) c.requires c.narrow_at.ensures

pub returns-in-Wide : goal.returns-in-Wide
returns-in-Wide c = number_little c.args.self 4 c.args.i _ (ap bytes_in c.in-Wide.is) c.requires c.wide_at.ensures

use Rattle.graph.proofs.Bits.{mark-test}
use Rattle.graph.proofs.marks.marked.Goals as goal

pub returns : goal.returns
returns c = mark-test c.args.work.now c.args.base c.args.v

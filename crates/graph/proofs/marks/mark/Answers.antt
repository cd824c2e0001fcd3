use Rattle.graph.proofs.Bits.{marks_store}
use Rattle.graph.proofs.marks.mark.Goals as goal

pub returns : goal.returns
returns c = marks_store c.args.base c.args.v c.args.work.now c.requires

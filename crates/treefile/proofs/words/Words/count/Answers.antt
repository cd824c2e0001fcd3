use Prim.Native.Nat.{ℕ, ◌/◌}
use mathlib.Core.Path.{sym, ap, ◌∙◌}
use lib.ListN.{length}
use Rattle.treefile.proofs.FileNumbers.{numbers-length}
use Rattle.treefile.proofs.words.Words.count.Goals as goal

pub returns : goal.returns
returns c = ap (λ (w : ℕ). length c.args.self.bytes.now / w) c.bytes.ensures ∙ sym (numbers-length _ c.args.self.bytes.now)

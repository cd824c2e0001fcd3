use Prim.Native.Nat.{ℕ, ◌*◌}
use native.Mathlib.Omega.{arith}
use mathlib.Core.Path.{ap, ◌∙◌}
use lib.ListN.{take, drop}
use Rattle.treefile.specs.File.{numbers}
use Rattle.treefile.specs.Sections.{bytes_in}
use Rattle.treefile.proofs.FileNumbers.{split_within, split-front, split-back}
use Rattle.treefile.proofs.words.Words.split_at.Goals as goal

pub overflow_mul-n : goal.overflow_mul-n
overflow_mul-n c = let e = c.bytes.ensures in let h = split_within c.args.self c.args.n c.requires in rw e (omega arith)

pub split_at-requires : goal.split_at-requires
split_at-requires c = rw c.bytes.ensures (split_within c.args.self c.args.n c.requires)

pub returns-clause-front : goal.returns-clause-front
returns-clause-front c =
    ap (numbers (bytes_in c.args.self.width)) (c.split_at.ensures.front ∙ ap (λ (w : ℕ). take (c.args.n * w) c.args.self.bytes.now) c.bytes.ensures)
    ∙ split-front c.args.self c.args.n c.requires

pub returns-clause-back : goal.returns-clause-back
returns-clause-back c =
    ap (numbers (bytes_in c.args.self.width)) (c.split_at.ensures.back ∙ ap (λ (w : ℕ). drop (c.args.n * w) c.args.self.bytes.now) c.bytes.ensures)
    ∙ split-back c.args.self c.args.n c.requires

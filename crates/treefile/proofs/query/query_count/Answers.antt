use Prim.Native.Nat.{ℕ, ◌/◌}
use mathlib.Core.Path.{ap, ◌∙◌}
use Rattle.treefile.proofs.Queries.{queries_count}
use Rattle.treefile.proofs.query.query_count.Goals as goal

pub returns : goal.returns
returns c = ap (λ (n : ℕ). n / 4) c.count.ensures ∙ queries_count _

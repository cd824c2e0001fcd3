use native.Mathlib.Omega.{arith}
use Rattle.components.proofs.Levelling.{found}
use Rattle.components.proofs.levels.find_levels.Goals as goal

pub returns : goal.returns
returns c =
    found c.requires c.split_at_mut-search.ensures.back
    (omega (arith, c.decompose.auto.work, c.split_at_mut-search.ensures.front_len, c.requires.room))
    (omega (arith, c.decompose.auto.level, c.split_at_mut-search.ensures.back_len, c.requires.room)) c.decompose.ensures

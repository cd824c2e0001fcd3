use Rattle.tables.specs.Tables.{six_mut, SameTables}
use Rattle.scatter.specs.Scatter.{Filled}
use Rattle.scatter.proofs.scatter.Given as goal

abbrev pub invariant-loop-j : goal.invariant-loop-j
invariant-loop-j l = Filled l.n l.work l.j (six_mut l.tables) × SameTables l.initial.tables l.tables

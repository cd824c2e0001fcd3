-- `Cursor::words` meets its contract: what is left begins behind the words.
use Rattle.std.specs.Prelude.{Some}
use mathlib.Core.Path.{sym}
use Rattle.std.proofs.lemmas.Bool.Decides.{Decides-eqb}
use Rattle.std.proofs.lemmas.Slice.Eq.{strip_prefix_is}
use Rattle.casetext.proofs.cursor.Cursor.words.Goals as goal

pub returns-clause-taken : goal.returns-clause-taken
returns-clause-taken c =
    sym (strip_prefix_is Decides-eqb c.args.self.now.rest.now c.args.expected.now (Some c.in_ok-self.field-0) c.in_ok-self.ensures.cases)

use mathlib.Core.Path.{sym, ap}
use Rattle.answers.specs.Answers.{Listed}
use Rattle.treefile.specs.Flat.{listed_text}
use Rattle.treefile.proofs.Writing.{prints_then, prints_as}
use Rattle.treefile.proofs.page.Page.put_list.Goals as goal

pub returns-in-Ok : goal.returns-in-Ok
returns-in-Ok c = prints_as (sym (ap (λ (a : Listed). listed_text a c.args.flat.now) c.in-Ok.is)) (prints_then c.put_decimal.ensures c.put_ranges.ensures)

use mathlib.Core.Path.{sym, ap, ◌∙◌}
use Rattle.tables.specs.Tables.{six_in}
use Rattle.querylines.specs.declared.question.Question.{Question}
use Rattle.querylines.specs.Answering.{asked_text}
use Rattle.treefile.proofs.Writing.{prints_as, room_as}
use Rattle.querylines.proofs.Texts.{answer_asked}
use Rattle.querylines.proofs.answer.put_answer.Goals as goal

pub put_asked-requires : goal.put_asked-requires
put_asked-requires c =
    let t = six_in c.args.tables.now in
    let same = answer_asked t c.args.query ∙ ap (λ (k : Question). asked_text k t c.args.query) (sym c.from.ensures) in
    record { short = c.requires.short; room = room_as same c.requires.room }

pub returns : goal.returns
returns c =
    let t = six_in c.args.tables.now in
    let same = answer_asked t c.args.query ∙ ap (λ (k : Question). asked_text k t c.args.query) (sym c.from.ensures) in
    prints_as (sym same) c.put_asked.ensures

use mathlib.Core.Path.{sym, ap, ◌∙◌}
use Rattle.treefile.specs.File.{TreeSections, after_tree, with_queries}
use Rattle.treefile.specs.Sections.{words_in, parsed_in}
use Rattle.treefile.proofs.Inputs.{left_bad, parse_whole}
use Rattle.treefile.proofs.judge.judge.Goals as goal

pub returns-then-words-bytes-ne0 : goal.returns-then-words-bytes-ne0
returns-then-words-bytes-ne0 c = sym (left_bad _ _ (λ e. c.if-words-bytes-ne0.true (rw c.bytes.ensures e)))

pub returns-in_err-tree : goal.returns-in_err-tree
returns-in_err-tree c =
    ap parsed_in c.from_residual.ensures ∙ ap after_tree c.in_err-tree.ensures ∙ sym (parse_whole _ _ (rw c.bytes.ensures at c.if-words-bytes-ne0.false))

pub returns-in_err-queries : goal.returns-in_err-queries
returns-in_err-queries c =
    let t = c.in_ok-tree.tree in
    let s : TreeSections = record { offsets = words_in t.offsets; targets = words_in t.targets; root = t.root } in
    ap parsed_in c.from_residual-in_err-queries.ensures ∙ ap (with_queries s) c.in_err-queries.ensures
    ∙ ap after_tree c.in_ok-tree.ensures ∙ sym (parse_whole _ _ (rw c.bytes.ensures at c.if-words-bytes-ne0.false))

pub returns : goal.returns
returns c =
    let t = c.in_ok-tree.tree in
    let s : TreeSections = record { offsets = words_in t.offsets; targets = words_in t.targets; root = t.root } in
    ap (with_queries s) c.in_ok-queries.ensures
    ∙ ap after_tree c.in_ok-tree.ensures ∙ sym (parse_whole _ _ (rw c.bytes.ensures at c.if-words-bytes-ne0.false))

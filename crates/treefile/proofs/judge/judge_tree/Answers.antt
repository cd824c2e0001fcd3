use Prim.Native.Nat.{ℕ}
use mathlib.Core.List.{List, ◌∷◌}
use mathlib.Core.Path.{sym, ap, ◌∙◌}
use Rattle.treefile.specs.File.{part, with_offsets, with_targets, with_root, max_offsets, max_file_targets, max_roots}
use Rattle.treefile.specs.Sections.{tree_in, words_in}
use Rattle.treefile.proofs.Trees.{root_alone}
use Rattle.treefile.proofs.judge.judge_tree.Goals as goal

pub returns-in_err-offsets : goal.returns-in_err-offsets
unfolding max_offsets
returns-in_err-offsets c = ap tree_in c.from_residual.ensures ∙ ap with_offsets c.in_err-offsets.ensures

pub returns-in_err-targets : goal.returns-in_err-targets
unfolding max_offsets max_file_targets
returns-in_err-targets c =
    ap tree_in c.from_residual-in_err-targets.ensures ∙ ap (with_targets (words_in c.in_ok-offsets.offsets)) c.in_err-targets.ensures
    ∙ ap with_offsets c.in_ok-offsets.ensures

pub returns-in_err-roots : goal.returns-in_err-roots
unfolding max_offsets max_file_targets max_roots
returns-in_err-roots c =
    let os : List ℕ = words_in c.in_ok-offsets.offsets in
    ap tree_in c.from_residual-in_err-roots.ensures ∙ ap (with_root os (words_in c.in_ok-targets.targets)) c.in_err-roots.ensures
    ∙ ap (with_targets os) c.in_ok-targets.ensures
    ∙ ap with_offsets c.in_ok-offsets.ensures

pub returns-in_err-root : goal.returns-in_err-root
unfolding max_offsets max_file_targets max_roots
returns-in_err-root c =
    let os : List ℕ = words_in c.in_ok-offsets.offsets in
    let ts : List ℕ = words_in c.in_ok-targets.targets in
    ap tree_in c.from_residual-in_err-root.ensures ∙ ap (λ (l : List ℕ). with_root os ts (part l (words_in c.in_ok-roots.rest))) c.in_err-root.ensures
    ∙ ap (with_root os ts) c.in_ok-roots.ensures
    ∙ ap (with_targets os) c.in_ok-targets.ensures
    ∙ ap with_offsets c.in_ok-offsets.ensures

pub returns : goal.returns
unfolding max_offsets max_file_targets max_roots
returns c =
    let os : List ℕ = words_in c.in_ok-offsets.offsets in
    let ts : List ℕ = words_in c.in_ok-targets.targets in
    let rest : List ℕ = words_in c.in_ok-roots.rest in
    let more : List ℕ = words_in c.in_ok-root.field-0-1 in
    let root = c.in_ok-root.root in
    let read = ap (λ (l : List ℕ). part l rest) c.in_ok-root.ensures ∙ c.in_ok-roots.ensures in
    ap (λ (l : List ℕ). with_root os ts (part (root ∷ l) rest)) (sym (root_alone (words_in c.in_ok-targets.rest) more rest root read))
    ∙ ap (with_root os ts) read
    ∙ ap (with_targets os) c.in_ok-targets.ensures
    ∙ ap with_offsets c.in_ok-offsets.ensures

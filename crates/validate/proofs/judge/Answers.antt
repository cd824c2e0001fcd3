use native.Mathlib.Omega.{arith}
use Rattle.validate.proofs.Steps.{Visiting, counts_ask, not_listed, is_tree, symmetric_asks, not_reached, has_cycle_lem}
use Rattle.validate.proofs.judge.Goals as goal
use Rattle.validate.proofs.judge.Goals.{After-visit-met}

-- what the visit found
visiting : (c : After-visit-met) → Visiting c.args.graph.now.offsets.now c.args.graph.now.targets.now c.args.root c.args.work.now c.vertices-n.result c.visit-met.new.work c.visit-met.result
visiting c =
    record {
      begun = c.requires;
      offsets = c.sound_offsets.ensures.right c.if-not-sound_offsets.false;
      targets = c.sound_targets.ensures.right c.if-not-sound_targets.false;
      size = c.vertices-n.ensures;
      root_below = c.if-n-root.false;
      answers = c.visit-met.ensures;
    }

pub visit-met-requires : goal.visit-met-requires
visit-met-requires c =
    record {
      size = c.vertices-n.ensures;
      small = omega (arith, (counts_ask c.requires c.vertices-n.ensures).1);
      offsets = c.sound_offsets.ensures.right c.if-not-sound_offsets.false;
      targets = c.sound_targets.ensures.right c.if-not-sound_targets.false;
      root_below = c.if-n-root.false;
      room = omega arith;
    }

pub tree_counts-requires : goal.tree_counts-requires
tree_counts-requires c = counts_ask c.requires c.vertices-n.ensures

pub returns-then-not-parents_listed : goal.returns-then-not-parents_listed
returns-then-not-parents_listed c =
    not_listed (visiting (goal.at.returns-then-not-parents_listed c).After-visit-met)
    (c.tree_counts.ensures.right c.if-tree_counts.true)
    (c.parents_listed.ensures.wrong c.if-not-parents_listed.true)

pub returns-then-tree_counts : goal.returns-then-tree_counts
returns-then-tree_counts c =
    is_tree (visiting (goal.at.returns-then-tree_counts c).After-visit-met)
    (c.tree_counts.ensures.right c.if-tree_counts.true)
    (c.parents_listed.ensures.right c.if-not-parents_listed.false)

pub symmetric-requires : goal.symmetric-requires
symmetric-requires c = symmetric_asks (visiting (goal.at.symmetric-requires c).After-visit-met)

pub returns-then-met-n : goal.returns-then-met-n
returns-then-met-n c =
    not_reached (visiting (goal.at.returns-then-met-n c).After-visit-met)
    (c.tree_counts.ensures.wrong c.if-tree_counts.false)
    c.symmetric.ensures c.if-not-symmetric.false c.if-met-n.true

pub returns : goal.returns
returns c =
    has_cycle_lem (visiting (goal.at.returns c).After-visit-met)
    (c.tree_counts.ensures.wrong c.if-tree_counts.false)
    c.symmetric.ensures c.if-not-symmetric.false c.if-met-n.false

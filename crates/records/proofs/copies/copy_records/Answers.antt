-- `copies::copy_records` meets its contract: each turn copies the next record.
use Rattle.std.proofs.Common.{rules, ◌≡◌, ℕ, suc, ◌+◌, ◌-◌, ◌<◌, List, set, sym, ap, ◌∙◌, arith}
use Rattle.answers.specs.Limits.{most_chains}
use Rattle.ranges.specs.declared.kinds.PathRange.{PathRange}
use Rattle.ranges.specs.Flat.{range_at}
use Rattle.records.specs.Inner.{copied}
use Rattle.records.proofs.copies.copy_records.Goals as goal

-- one record copied, and the rest behind it
copied_next : (w : List ℕ) (i n : ℕ) (records : List PathRange) → i < n
    → copied w i (n - i) records ≡ copied w (i + 1) (n - (i + 1)) (set records i (range_at w i))
copied_next w i n records h =
    let left : n - i ≡ suc (n - (i + 1)) = omega arith in
    let next : suc i ≡ i + 1 = omega arith in
    ap (λ (k : ℕ). copied w i k records) left ∙ ap (λ (j : ℕ). copied w j (n - (i + 1)) (set records i (range_at w i))) next

pub range_at-requires : goal.range_at-requires
unfolding most_chains
range_at-requires c = search rules

pub loop-i-preserved : goal.loop-i-preserved
loop-i-preserved c =
    let w = c.args.found.numbers in
    let n = c.args.found.count in
    let i = c.loop-i.i in
    ap (λ (r : PathRange). copied w (i + 1) (n - (i + 1)) (set c.loop-i.ranges i r)) c.range_at.ensures
    ∙ (sym (copied_next w i n c.loop-i.ranges c.loop-i-test.true) ∙ c.loop-i.invariant)

pub returns : goal.returns
returns c =
    let none : c.args.found.count - c.loop-i.i ≡ 0 = omega arith in
    sym (ap (λ (k : ℕ). copied c.args.found.numbers c.loop-i.i k c.loop-i.ranges) none) ∙ c.loop-i.invariant

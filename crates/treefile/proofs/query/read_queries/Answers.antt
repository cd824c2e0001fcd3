use Prim.Native.Nat.{ℕ}
use native.Mathlib.Omega.{arith}
use mathlib.Core.Path.{◌≡◌, ap, ◌∙◌}
use mathlib.Core.List.{List, ◌++◌}
use lib.ListN.{length, take, drop}
use lib.Seq.{take_all}
use Rattle.treefile.specs.declared.query.Query.{Query}
use Rattle.treefile.specs.Sections.{words_in, queries_from, query_at}
use Rattle.treefile.proofs.FileNumbers.{copied_more}
use Rattle.treefile.proofs.Queries.{queries-length, query_read}
use Rattle.treefile.proofs.query.read_queries.Goals as goal

pub query_at-requires : goal.query_at-requires
query_at-requires c = omega (arith, queries-length (words_in c.args.words))

pub loop-i-preserved : goal.loop-i-preserved
loop-i-preserved c =
    let ws = words_in c.args.words in
    let d = query_at ws 0 in
    let there = c.loop-i-test.true in
    copied_more (queries_from ws) c.args.out.now c.loop-i.i d (omega arith) (omega arith) (c.query_at.ensures ∙ query_read ws c.loop-i.i d (omega arith)) c.loop-i.invariant

pub returns : goal.returns
returns c =
    let qs : List Query = queries_from (words_in c.args.words) in
    let e : c.loop-i.i ≡ length qs = omega arith in
    c.loop-i.invariant ∙ ap (λ (k : ℕ). take k qs ++ drop k c.args.out.now) e
    ∙ ap (λ (l : List Query). l ++ drop (length qs) c.args.out.now) (take_all (length qs) qs (omega arith))

-- `sizes::re_rooted_size` meets its contract: one rises from a, and finds what the lookup from its vertex does.
use Prim.Native.Nat.{ℕ}
use native.Mathlib.Omega.{arith}
use mathlib.Core.Path.{sym, ap, ◌∙◌}
use Rattle.tables.specs.Tables.{six_in}
use Rattle.climb.specs.Asked.{size_of}
use Rattle.queries.specs.Queries.{without_child}
use Rattle.climb.proofs.Reaching.{stood_seat}
use Rattle.climb.proofs.Soundness.{stood_placed}
use Rattle.queries.proofs.Rising.{rise-from, found_below}
use Rattle.sizes.proofs.Counting.{size_told, size_inside, left_refused}
use Rattle.sizes.proofs.subtrees.re_rooted_size.Goals as goal

pub sound_size-requires : goal.sound_size-requires
sound_size-requires c =
    record { size = c.requires.size; vertex = c.requires.below; small = omega (arith, (stood_placed _ _ _ (sym c.requires.on_b)).id_below, c.well_formed) }

pub ancestor_from-found-requires : goal.ancestor_from-found-requires
ancestor_from-found-requires c = record { even = c.requires.even; order = c.requires.order; seat = (stood_seat _ _ (sym c.requires.on_a)).0 }

pub returns-in_default : goal.returns-in_default
returns-in_default c =
    let t = six_in c.args.tables.now in
    let z = size_told t c.args.b.vertex c.args.b.id c.in_ok-count.ensures in
    let found = c.ancestor_from-found.ensures ∙ rise-from _ _ _ (stood_seat _ _ (sym c.requires.on_a)).0 in
    left_refused (size_of t) t _ (λ (x : ℕ) e. absurd (c.in_default.not-Ok x e))
    ∙ (ap (without_child (size_of t) t) found
    ∙ size_inside _ _ (sym c.requires.on_a) (sym c.requires.on_b) z.0 c.if-a-b.false (omega (arith, c.if-b-count.false)) c.if-a-b-2.false)

pub without_child-requires : goal.without_child-requires
without_child-requires c = record { id = c.requires.even.id; size = c.requires.size; vertex = found_below _ _ _ _ _ _ (sym c.ancestor_from-found.ensures ∙ c.in-Ok.is) }

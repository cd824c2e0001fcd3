-- `between::jump_from` meets its contract: up to the ancestor, or down from it.
use mathlib.Core.Path.{sym, ◌∙◌, ap}
use Rattle.climb.specs.declared.places.Place.{Place}
use Rattle.queries.proofs.Rising.{rise-from}
use Rattle.between.proofs.Answering.{jump_up, jump_far, jump_down}
use Rattle.between.proofs.jump.jump_from.Goals as goal

pub returns-in_default : goal.returns-in_default
returns-in_default c =
    let p = ap (λ (x : Place). x.depth) c.requires.climbs.on_p.place in
    let q = ap (λ (x : Place). x.depth) c.requires.climbs.on_q.place in
    c.ancestor_from-found.ensures
    ∙ (rise-from _ _ _ c.requires.climbs.on_p ∙ jump_up _ _ _ _ _ p q c.in_ok-climb.ensures.is c.ancestor-w.ensures c.if-k-up.true)

pub returns-then-k-up : goal.returns-then-k-up
returns-then-k-up c =
    let p = ap (λ (x : Place). x.depth) c.requires.climbs.on_p.place in
    let q = ap (λ (x : Place). x.depth) c.requires.climbs.on_q.place in
    sym c.in-Ok.is ∙ (c.ancestor_from-found.ensures
    ∙ (rise-from _ _ _ c.requires.climbs.on_p ∙ jump_up _ _ _ _ _ p q c.in_ok-climb.ensures.is c.ancestor-w.ensures c.if-k-up.true))

pub returns-then-all-k : goal.returns-then-all-k
returns-then-all-k c =
    let p = ap (λ (x : Place). x.depth) c.requires.climbs.on_p.place in
    let q = ap (λ (x : Place). x.depth) c.requires.climbs.on_q.place in
    jump_far _ _ _ _ _ p q c.in_ok-climb.ensures.is c.ancestor-w.ensures c.if-k-up.false c.if-all-k.true

pub returns-in_default-found : goal.returns-in_default-found
returns-in_default-found c =
    let p = ap (λ (x : Place). x.depth) c.requires.climbs.on_p.place in
    let q = ap (λ (x : Place). x.depth) c.requires.climbs.on_q.place in
    c.ancestor_from-found-2.ensures
    ∙ (rise-from _ _ _ c.requires.climbs.on_q ∙ jump_down _ _ _ _ _ p q c.in_ok-climb.ensures.is c.ancestor-w.ensures c.if-k-up.false c.if-all-k.false)

pub returns : goal.returns
returns c =
    let p = ap (λ (x : Place). x.depth) c.requires.climbs.on_p.place in
    let q = ap (λ (x : Place). x.depth) c.requires.climbs.on_q.place in
    sym c.in-Ok-found.is ∙ (c.ancestor_from-found-2.ensures
    ∙ (rise-from _ _ _ c.requires.climbs.on_q ∙ jump_down _ _ _ _ _ p q c.in_ok-climb.ensures.is c.ancestor-w.ensures c.if-k-up.false c.if-all-k.false))

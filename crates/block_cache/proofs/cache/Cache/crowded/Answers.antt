use Rattle.std.proofs.Common.{◌≡◌, ◌<◌, ℕ, None, Option, length, slice_get, sym, ap, subst, ◌∙◌, arith}
use Rattle.std.specs.Prelude.{IfNone, IsSome}
use Rattle.block_cache.specs.Cache.{CacheView, frame_at, is_clean, victim_of}
use Rattle.block_cache.proofs.Crowds.{crowd, frame_within, not_some, some_last}
use Rattle.block_cache.proofs.Orders.{oldest_first}
use Rattle.block_cache.proofs.Places.{item_at, some_if}
use Rattle.block_cache.proofs.cache.Cache.crowded.Goals as goal

pub index-requires : goal.index-requires
index-requires c =
    let last = sym c.in-Some.ensures in
    let e : ℕ × Unit {0} = (c.in-Some.frame.now, c.in-Some.field-0-1.now) in
    let within : c.from.result < length c.self.inside.frames.items = omega (arith, frame_within c.self.inside.table.items c.self.inside.frames.items c.self.inside.order.entries c.self.invariant e last, c.from.ensures) in
    omega (arith, within)

pub returns-in-Some-clause-none : goal.returns-in-Some-clause-none
returns-in-Some-clause-none c =
    let last = sym c.in-Some.ensures in
    let e : ℕ × Unit {0} = (c.in-Some.frame.now, c.in-Some.field-0-1.now) in
    let within : c.from.result < length c.self.inside.frames.items = omega (arith, frame_within c.self.inside.table.items c.self.inside.frames.items c.self.inside.order.entries c.self.invariant e last, c.from.ensures) in
    let there = ap (slice_get c.self.inside.frames.items) (sym c.from.ensures) ∙ item_at c.self.inside.frames.items c.from.result c.index.result.now within c.index.ensures in
    let none : victim_of c.args.self.now ≡ None = sym c.victim.ensures ∙ not_some c.victim.result (sym c.is_some.ensures ∙ c.if-is_some.false) in
    let found = crowd c.self.inside.table.items c.self.inside.frames.items c.self.inside.order.entries c.self.invariant (ap victim_of c.self.view_is ∙ none) e last c.index.result.now there in
    subst (λ (o : Option ℕ). IfNone o (IsSome (victim_of c.args.self.now))) (sym found.1.stands) tt

pub returns-in-Some-clause-some : goal.returns-in-Some-clause-some
returns-in-Some-clause-some c =
    let last = sym c.in-Some.ensures in
    let e : ℕ × Unit {0} = (c.in-Some.frame.now, c.in-Some.field-0-1.now) in
    let within : c.from.result < length c.self.inside.frames.items = omega (arith, frame_within c.self.inside.table.items c.self.inside.frames.items c.self.inside.order.entries c.self.invariant e last, c.from.ensures) in
    let there = ap (slice_get c.self.inside.frames.items) (sym c.from.ensures) ∙ item_at c.self.inside.frames.items c.from.result c.index.result.now within c.index.ensures in
    let none : victim_of c.args.self.now ≡ None = sym c.victim.ensures ∙ not_some c.victim.result (sym c.is_some.ensures ∙ c.if-is_some.false) in
    let found = crowd c.self.inside.table.items c.self.inside.frames.items c.self.inside.order.entries c.self.invariant (ap victim_of c.self.view_is ∙ none) e last c.index.result.now there in
    some_if _ c.index.result.now.place found.0 found.1.stands (
      found.1.within,
      none,
      c.in-Some.frame.now,
      ap (λ (v : CacheView). frame_at v found.0) (sym c.self.view_is) ∙ found.1.at,
      ap (λ (v : CacheView). is_clean v.frames c.in-Some.frame.now) (sym c.self.view_is) ∙ found.1.dirty,
      ap (λ (v : CacheView). slice_get v.order 0) (sym c.self.view_is) ∙ oldest_first c.self.inside.order.entries e last,
    )

pub returns-in-None-clause-none : goal.returns-in-None-clause-none
returns-in-None-clause-none c = absurd (some_last c.self.inside.table.items c.self.inside.frames.items c.self.inside.order.entries c.self.invariant (sym c.in-None.ensures))

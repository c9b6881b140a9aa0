use Rattle.std.proofs.Common.{◌≡◌, ◌+◌, ℕ, suc, length, Some, None, sym, ap, subst, ◌∙◌, arith, List, [], ◌∷◌}
use Rattle.std.specs.Prelude.{slice_get}
use Rattle.std.specs.Option.{option_and_then}
use Rattle.std.proofs.lemmas.List.{length-append}
use Rattle.lru.specs.LruCache.{LruCache}
use Rattle.block_cache.specs.Cache.{IsFrame, place_of}
use Rattle.block_cache.specs.declared.frame.Frame.{Frame}
use Rattle.block_cache.proofs.Freshly.{by_none, counted, free_is, fresh_cache, no_frame, no_items, pushed, put-counted}
use Rattle.block_cache.proofs.cache.Cache.new.Goals as goal

pub loop-frame-init : goal.loop-frame-init
loop-frame-init c = (
  ap length c.in-Ok-with_capacity.ensures.items,
  omega (arith, c.in-Ok-with_capacity.ensures.capacity, c.from.ensures),
  no_items (λ (f : Frame). IsFrame f × (f.place ≡ None)) c.in-Ok-with_capacity.frames.items c.in-Ok-with_capacity.ensures.items,
  ap (λ (order : LruCache ℕ (Unit {0})). order.entries) c.in-Ok-new.ensures,
  ap (λ (order : LruCache ℕ (Unit {0})). order.cap) c.in-Ok-new.ensures ∙ c.in-Some.ensures ∙ c.from-2.ensures,
)

pub loop-frame-preserved : goal.loop-frame-preserved
loop-frame-preserved c =
    let old = c.loop-frame.frames.items in
    let x = c.in_ok-free_frame.field-0 in (
      omega (arith, ap length c.push_reserved.ensures.items, length-append old (x ∷ []), c.loop-frame.invariant.0),
      omega (arith, c.push_reserved.ensures.capacity, c.loop-frame.invariant.1),
      subst (λ (items : List Frame). (n : ℕ) (f : Frame) → slice_get items n ≡ Some f → IsFrame f × (f.place ≡ None)) (sym c.push_reserved.ensures.items)
          (pushed (λ (f : Frame). IsFrame f × (f.place ≡ None)) old x c.loop-frame.invariant.2 (free_is x c.in_ok-free_frame.ensures)),
      ap (λ (order : LruCache ℕ (Unit {0})). order.entries) c.in-Ok-put.ensures.entries
          ∙ put-counted c.loop-frame.order c.loop-frame.frame c.loop-frame.invariant.3 (omega (arith, c.loop-frame-test.true, c.loop-frame.invariant.4))
          ∙ ap counted (the_next c.loop-frame.frame),
      ap (λ (order : LruCache ℕ (Unit {0})). order.cap) c.in-Ok-put.ensures.entries ∙ c.loop-frame.invariant.4,
    )
  where
    the_next : (n : ℕ) → suc n ≡ n + 1
    the_next n = omega arith

pub invariant_of-result : goal.invariant_of-result
invariant_of-result c = fresh_cache c.in-Ok.table.items c.loop-frame.frames.items c.loop-frame.order.entries c.args.count
    (c.in-Ok.ensures.items_if_clones_equal (by_none _ (λ n h. h))) (c.loop-frame.invariant.0 ∙ omega (arith, c.loop-frame-test.false, c.loop-frame.auto.frame-end)) c.requires.above c.requires.below c.loop-frame.invariant.2 (c.loop-frame.invariant.3 ∙ ap counted (omega (arith, c.loop-frame-test.false, c.loop-frame.auto.frame-end)))

pub returns-clause-empty : goal.returns-clause-empty
returns-clause-empty c = λ file number. ap (option_and_then (λ (frame : ℕ). slice_get c.loop-frame.frames.items frame)) (no_frame c.in-Ok.table.items c.loop-frame.frames.items c.loop-frame.order.entries c.args.count (c.in-Ok.ensures.items_if_clones_equal (by_none _ (λ n h. h))) (place_of file number))

pub returns-clause-valid : goal.returns-clause-valid
returns-clause-valid c = fresh_cache c.in-Ok.table.items c.loop-frame.frames.items c.loop-frame.order.entries c.args.count
    (c.in-Ok.ensures.items_if_clones_equal (by_none _ (λ n h. h))) (c.loop-frame.invariant.0 ∙ omega (arith, c.loop-frame-test.false, c.loop-frame.auto.frame-end)) c.requires.above c.requires.below c.loop-frame.invariant.2 (c.loop-frame.invariant.3 ∙ ap counted (omega (arith, c.loop-frame-test.false, c.loop-frame.auto.frame-end)))

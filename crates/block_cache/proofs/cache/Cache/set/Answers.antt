use Rattle.std.proofs.Common.{◌≡◌, ◌<◌, ℕ, Option, Some, None, subst, refl, sym, ap, ◌∙◌, length, arith, true}
use Rattle.std.specs.Prelude.{slice_get, slice_set, IsSome}
use Rattle.keyed_file.specs.Search.{with_record}
use Rattle.block_cache.specs.declared.frame.Frame.{Frame}
use Rattle.block_cache.specs.Cache.{CacheView}
use Rattle.block_cache.proofs.Caches.{set_frame}
use Rattle.block_cache.proofs.Places.{item_at, if_some, some_is}
use Rattle.block_cache.proofs.cache.Cache.set.Goals as goal

no_place : (o : Option ℕ) → IsSome o → o ≡ None → ⊥
no_place o some none = let wrong = subst IsSome none some in cc

there : (c : goal.After-self-1) → slice_get c.self.inside.frames.items c.from.result ≡ Some c.index_mut-place.result.now
there c =
    let within : c.from.result < length c.self.inside.frames.items = omega (arith, c.requires.within, c.from.ensures, ap (λ (v : CacheView). length v.frames) c.self.view_is) in
    item_at c.self.inside.frames.items c.from.result c.index_mut-place.result.now within c.index_mut-place.ensures.value

was : (c : goal.After-self-1) → slice_get c.args.self.now.frames c.args.frame ≡ Some c.index_mut-place.result.now
was c = ap (λ (v : CacheView). slice_get v.frames c.args.frame) (sym c.self.view_is) ∙ ap (slice_get c.self.inside.frames.items) (sym c.from.ensures) ∙ there c

pub invariant_of-self : goal.invariant_of-self
invariant_of-self c =
    set_frame _ c.from.result c.index_mut-place.result.now _ c.self.invariant (there c) refl
    (record { free = λ none. absurd (no_place c.index_mut-place.result.now.place ((if_some _ _ _ (was c) c.requires.held).0) none); slot = (c.self.invariant.each c.from.result c.index_mut-place.result.now (there c)).slot })

pub returns-clause-valid : goal.returns-clause-valid
returns-clause-valid c = invariant_of-self c

pub returns-clause-frames : goal.returns-clause-frames
returns-clause-frames c = λ f at.
    let is : c.index_mut-place.result.now ≡ f = some_is _ f (sym (was c) ∙ at) in
    let view = c.self.view_is in
    let block = c.set.ensures in
    λ i. slice_set (view i).frames (c.from.ensures i) (record (is i) {
      block = record { file = (block.file ∙ ap (λ (x : Frame). x.block.file) is) i; number = (block.number ∙ ap (λ (x : Frame). x.block.number) is) i; position = block.position i; records = (block.records ∙ ap (λ (x : Frame). with_record c.args.key.now c.args.value x.block.records) is) i };
      dirty = true;
    })

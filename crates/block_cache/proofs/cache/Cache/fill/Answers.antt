use Rattle.std.proofs.Common.{◌≡◌, ◌<◌, ℕ, None, Some, true, refl, sym, ap, subst, ◌∙◌, length, get_or, arith}
use Rattle.std.specs.Map.{keys_of}
use Rattle.std.specs.Prelude.{reverse, slice_get, slice_set}
use Rattle.block_cache.specs.declared.frame.Frame.{Frame}
use Rattle.block_cache.specs.Cache.{CacheView, SetsEntry, frame_at}
use Rattle.block_cache.proofs.Caches.{clean_parts, taken_cache, taken_sets}
use Rattle.block_cache.proofs.Places.{item_at, if_some}
use Rattle.block_cache.proofs.cache.Cache.fill.Goals as goal

there : (inside : CacheView) (now : CacheView) (n frame : ℕ) (f : Frame) → inside ≡ now → frame < length now.frames → n ≡ frame → f ≡ get_or inside.frames n f → (slice_get inside.frames n ≡ Some f) × (slice_get now.frames frame ≡ Some f)
there inside now n frame f same lt is read =
    let within : n < length inside.frames = omega (arith, lt, is, ap (λ (v : CacheView). length v.frames) same) in
    let here = item_at inside.frames n f within read in
    (here, ap (λ (v : CacheView). slice_get v.frames frame) (sym same) ∙ ap (slice_get inside.frames) (sym is) ∙ here)

wrong : {place : ℕ} → Some place ≡ None → ⊥
wrong e = cc

pub invariant_of-self : goal.invariant_of-self
invariant_of-self c = taken_cache (record { table = c.self.inside.table.items; frames = c.self.inside.frames.items; order = keys_of (reverse c.self.inside.order.entries) }) (record { table = slice_set c.self.inside.table.items c.from-2.result (Some c.args.frame); frames = slice_set c.self.inside.frames.items c.from.result (record c.index_mut-f.result.now { place = Some c.place_of_block-place.result; block = c.args.content; dirty = true; slot = c.args.slot }); order = keys_of (reverse c.self.inside.order.entries) }) c.from.result c.from-2.result c.index_mut-f.result.now (record c.index_mut-f.result.now { place = Some c.place_of_block-place.result; block = c.args.content; dirty = true; slot = c.args.slot }) c.self.invariant (there _ c.args.self.now c.from.result c.args.frame c.index_mut-f.result.now c.self.view_is c.requires.within c.from.ensures c.index_mut-f.ensures.value).0 (if_some _ _ _ (there _ c.args.self.now c.from.result c.args.frame c.index_mut-f.result.now c.self.view_is c.requires.within c.from.ensures c.index_mut-f.ensures.value).1 c.requires.free).0 (omega (arith, c.from-2.ensures, c.place_of_block-place.ensures, c.requires.file, c.requires.number)) (ap (λ (v : CacheView). frame_at v c.from-2.result) c.self.view_is ∙ ap (frame_at c.args.self.now) (c.from-2.ensures ∙ c.place_of_block-place.ensures) ∙ c.requires.missing) (ap Some (sym c.from-2.ensures)) (record { free = λ none. absurd (wrong none); slot = c.requires.slot }) (ap (λ (n : ℕ). slice_set c.self.inside.table.items c.from-2.result (Some n)) (sym c.from.ensures)) refl refl

pub returns-clause-valid : goal.returns-clause-valid
returns-clause-valid c = taken_cache (record { table = c.self.inside.table.items; frames = c.self.inside.frames.items; order = keys_of (reverse c.self.inside.order.entries) }) (record { table = slice_set c.self.inside.table.items c.from-2.result (Some c.args.frame); frames = slice_set c.self.inside.frames.items c.from.result (record c.index_mut-f.result.now { place = Some c.place_of_block-place.result; block = c.args.content; dirty = true; slot = c.args.slot }); order = keys_of (reverse c.self.inside.order.entries) }) c.from.result c.from-2.result c.index_mut-f.result.now (record c.index_mut-f.result.now { place = Some c.place_of_block-place.result; block = c.args.content; dirty = true; slot = c.args.slot }) c.self.invariant (there _ c.args.self.now c.from.result c.args.frame c.index_mut-f.result.now c.self.view_is c.requires.within c.from.ensures c.index_mut-f.ensures.value).0 (if_some _ _ _ (there _ c.args.self.now c.from.result c.args.frame c.index_mut-f.result.now c.self.view_is c.requires.within c.from.ensures c.index_mut-f.ensures.value).1 c.requires.free).0 (omega (arith, c.from-2.ensures, c.place_of_block-place.ensures, c.requires.file, c.requires.number)) (ap (λ (v : CacheView). frame_at v c.from-2.result) c.self.view_is ∙ ap (frame_at c.args.self.now) (c.from-2.ensures ∙ c.place_of_block-place.ensures) ∙ c.requires.missing) (ap Some (sym c.from-2.ensures)) (record { free = λ none. absurd (wrong none); slot = c.requires.slot }) (ap (λ (n : ℕ). slice_set c.self.inside.table.items c.from-2.result (Some n)) (sym c.from.ensures)) refl refl

pub returns-clause-entry : goal.returns-clause-entry
returns-clause-entry c =
    let dirty = (if_some _ _ _ (there _ c.args.self.now c.from.result c.args.frame c.index_mut-f.result.now c.self.view_is c.requires.within c.from.ensures c.index_mut-f.ensures.value).1 c.requires.free).1 in (
      (record c.index_mut-f.result.now { place = Some c.place_of_block-place.result; block = c.args.content; dirty = true; slot = c.args.slot }),
      subst (λ (v : CacheView). SetsEntry v (record { table = slice_set c.self.inside.table.items c.from-2.result (Some c.args.frame); frames = slice_set c.self.inside.frames.items c.from.result (record c.index_mut-f.result.now { place = Some c.place_of_block-place.result; block = c.args.content; dirty = true; slot = c.args.slot }); order = keys_of (reverse c.self.inside.order.entries) }) c.args.n.file c.args.n.number (record c.index_mut-f.result.now { place = Some c.place_of_block-place.result; block = c.args.content; dirty = true; slot = c.args.slot })) c.self.view_is (taken_sets (record { table = c.self.inside.table.items; frames = c.self.inside.frames.items; order = keys_of (reverse c.self.inside.order.entries) }) (record { table = slice_set c.self.inside.table.items c.from-2.result (Some c.args.frame); frames = slice_set c.self.inside.frames.items c.from.result (record c.index_mut-f.result.now { place = Some c.place_of_block-place.result; block = c.args.content; dirty = true; slot = c.args.slot }); order = keys_of (reverse c.self.inside.order.entries) }) c.from.result c.from-2.result c.index_mut-f.result.now (record c.index_mut-f.result.now { place = Some c.place_of_block-place.result; block = c.args.content; dirty = true; slot = c.args.slot }) c.self.invariant (there _ c.args.self.now c.from.result c.args.frame c.index_mut-f.result.now c.self.view_is c.requires.within c.from.ensures c.index_mut-f.ensures.value).0 (if_some _ _ _ (there _ c.args.self.now c.from.result c.args.frame c.index_mut-f.result.now c.self.view_is c.requires.within c.from.ensures c.index_mut-f.ensures.value).1 c.requires.free).0 (omega (arith, c.from-2.ensures, c.place_of_block-place.ensures, c.requires.file, c.requires.number)) (ap (λ (v : CacheView). frame_at v c.from-2.result) c.self.view_is ∙ ap (frame_at c.args.self.now) (c.from-2.ensures ∙ c.place_of_block-place.ensures) ∙ c.requires.missing) (ap Some (sym c.from-2.ensures)) (record { free = λ none. absurd (wrong none); slot = c.requires.slot }) (ap (λ (n : ℕ). slice_set c.self.inside.table.items c.from-2.result (Some n)) (sym c.from.ensures)) refl refl c.args.n.file c.args.n.number (c.from-2.ensures ∙ c.place_of_block-place.ensures) c.requires.number),
      record { block = refl; dirty = refl; settled = (clean_parts c.index_mut-f.result.now dirty).1; slot_is = refl },
    )

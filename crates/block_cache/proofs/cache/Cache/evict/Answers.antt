use Rattle.std.proofs.Common.{◌≡◌, ◌<◌, ℕ, None, Some, refl, sym, ap, subst, ◌∙◌, length, get_or, arith}
use Rattle.std.specs.Map.{keys_of}
use Rattle.std.specs.Prelude.{reverse, slice_get, slice_set}
use Rattle.std.proofs.lemmas.Option.{slice_get_within}
use Rattle.block_cache.specs.declared.frame.Frame.{Frame}
use Rattle.block_cache.specs.Cache.{CacheView, Evicts, frame_at}
use Rattle.block_cache.proofs.Caches.{evict_within, evict_here, evict_none, evicted_cache, evicts, not_dirty}
use Rattle.block_cache.proofs.Places.{item_at, get_set_same, some_if}
use Rattle.block_cache.proofs.cache.Cache.evict.Goals as goal

there : (inside : CacheView) (now : CacheView) (n frame : ℕ) (f : Frame) → inside ≡ now → frame < length now.frames → n ≡ frame → f ≡ get_or inside.frames n f → (slice_get inside.frames n ≡ Some f) × (slice_get now.frames frame ≡ Some f)
there inside now n frame f same lt is read =
    let within : n < length inside.frames = omega (arith, lt, is, ap (λ (v : CacheView). length v.frames) same) in
    let here = item_at inside.frames n f within read in
    (here, ap (λ (v : CacheView). slice_get v.frames frame) (sym same) ∙ ap (slice_get inside.frames) (sym is) ∙ here)

pub index_mut-requires : goal.index_mut-requires
index_mut-requires c = let lt = evict_within _ c.from.result c.from-in-Some.result c.index_mut-f.result.now c.self.invariant (there _ c.args.self.now c.from.result c.args.frame c.index_mut-f.result.now c.self.view_is c.requires.within c.from.ensures c.index_mut-f.ensures.value).0 (c.in-Some.is ∙ ap Some (sym c.from-in-Some.ensures)) (not_dirty c.args.self.now.frames c.args.frame c.index_mut-f.result.now (there _ c.args.self.now c.from.result c.args.frame c.index_mut-f.result.now c.self.view_is c.requires.within c.from.ensures c.index_mut-f.ensures.value).1 c.requires.clean) in omega (arith, lt)

pub invariant_of-self : goal.invariant_of-self
invariant_of-self c = evicted_cache _ c.from.result c.from-in-Some.result c.index_mut-f.result.now c.self.invariant (there _ c.args.self.now c.from.result c.args.frame c.index_mut-f.result.now c.self.view_is c.requires.within c.from.ensures c.index_mut-f.ensures.value).0 (c.in-Some.is ∙ ap Some (sym c.from-in-Some.ensures)) (not_dirty c.args.self.now.frames c.args.frame c.index_mut-f.result.now (there _ c.args.self.now c.from.result c.args.frame c.index_mut-f.result.now c.self.view_is c.requires.within c.from.ensures c.index_mut-f.ensures.value).1 c.requires.clean) (record { table = slice_set c.self.inside.table.items c.from-in-Some.result None; frames = slice_set c.self.inside.frames.items c.from.result (record c.index_mut-f.result.now { place = None }); order = keys_of (reverse c.self.inside.order.entries) }) refl refl refl

pub returns-in-Some-clause-valid : goal.returns-in-Some-clause-valid
returns-in-Some-clause-valid c = evicted_cache _ c.from.result c.from-in-Some.result c.index_mut-f.result.now c.self.invariant (there _ c.args.self.now c.from.result c.args.frame c.index_mut-f.result.now c.self.view_is c.requires.within c.from.ensures c.index_mut-f.ensures.value).0 (c.in-Some.is ∙ ap Some (sym c.from-in-Some.ensures)) (not_dirty c.args.self.now.frames c.args.frame c.index_mut-f.result.now (there _ c.args.self.now c.from.result c.args.frame c.index_mut-f.result.now c.self.view_is c.requires.within c.from.ensures c.index_mut-f.ensures.value).1 c.requires.clean) (record { table = slice_set c.self.inside.table.items c.from-in-Some.result None; frames = slice_set c.self.inside.frames.items c.from.result (record c.index_mut-f.result.now { place = None }); order = keys_of (reverse c.self.inside.order.entries) }) refl refl refl

pub returns-in-Some-clause-entries : goal.returns-in-Some-clause-entries
returns-in-Some-clause-entries c = subst (λ (v : CacheView). Evicts v (record { table = slice_set c.self.inside.table.items c.from-in-Some.result None; frames = slice_set c.self.inside.frames.items c.from.result (record c.index_mut-f.result.now { place = None }); order = keys_of (reverse c.self.inside.order.entries) })) c.self.view_is (evicts _ c.from.result c.from-in-Some.result c.index_mut-f.result.now c.self.invariant (there _ c.args.self.now c.from.result c.args.frame c.index_mut-f.result.now c.self.view_is c.requires.within c.from.ensures c.index_mut-f.ensures.value).0 (c.in-Some.is ∙ ap Some (sym c.from-in-Some.ensures)) (not_dirty c.args.self.now.frames c.args.frame c.index_mut-f.result.now (there _ c.args.self.now c.from.result c.args.frame c.index_mut-f.result.now c.self.view_is c.requires.within c.from.ensures c.index_mut-f.ensures.value).1 c.requires.clean) (record { table = slice_set c.self.inside.table.items c.from-in-Some.result None; frames = slice_set c.self.inside.frames.items c.from.result (record c.index_mut-f.result.now { place = None }); order = keys_of (reverse c.self.inside.order.entries) }) refl refl refl)

pub returns-in-Some-clause-frame : goal.returns-in-Some-clause-frame
returns-in-Some-clause-frame c = some_if (λ (x : Frame). slice_get (slice_set c.self.inside.frames.items c.from.result (record c.index_mut-f.result.now { place = None })) c.args.frame ≡ Some (record x { place = None })) (slice_get c.args.self.now.frames c.args.frame) c.index_mut-f.result.now (there _ c.args.self.now c.from.result c.args.frame c.index_mut-f.result.now c.self.view_is c.requires.within c.from.ensures c.index_mut-f.ensures.value).1
    (ap (slice_get (slice_set c.self.inside.frames.items c.from.result (record c.index_mut-f.result.now { place = None }))) (sym c.from.ensures) ∙ evict_here _ c.from.result c.from-in-Some.result c.index_mut-f.result.now c.self.invariant (there _ c.args.self.now c.from.result c.args.frame c.index_mut-f.result.now c.self.view_is c.requires.within c.from.ensures c.index_mut-f.ensures.value).0 (c.in-Some.is ∙ ap Some (sym c.from-in-Some.ensures)) (not_dirty c.args.self.now.frames c.args.frame c.index_mut-f.result.now (there _ c.args.self.now c.from.result c.args.frame c.index_mut-f.result.now c.self.view_is c.requires.within c.from.ensures c.index_mut-f.ensures.value).1 c.requires.clean) (record { table = slice_set c.self.inside.table.items c.from-in-Some.result None; frames = slice_set c.self.inside.frames.items c.from.result (record c.index_mut-f.result.now { place = None }); order = keys_of (reverse c.self.inside.order.entries) }) refl refl refl)

pub returns-in-Some-clause-others : goal.returns-in-Some-clause-others
returns-in-Some-clause-others c = λ place none. evict_none _ c.from.result c.from-in-Some.result c.index_mut-f.result.now c.self.invariant (there _ c.args.self.now c.from.result c.args.frame c.index_mut-f.result.now c.self.view_is c.requires.within c.from.ensures c.index_mut-f.ensures.value).0 (c.in-Some.is ∙ ap Some (sym c.from-in-Some.ensures)) (not_dirty c.args.self.now.frames c.args.frame c.index_mut-f.result.now (there _ c.args.self.now c.from.result c.args.frame c.index_mut-f.result.now c.self.view_is c.requires.within c.from.ensures c.index_mut-f.ensures.value).1 c.requires.clean) (record { table = slice_set c.self.inside.table.items c.from-in-Some.result None; frames = slice_set c.self.inside.frames.items c.from.result (record c.index_mut-f.result.now { place = None }); order = keys_of (reverse c.self.inside.order.entries) }) refl refl refl place (ap (λ (v : CacheView). frame_at v place) c.self.view_is ∙ none)

pub returns-in_default-clause-frame : goal.returns-in_default-clause-frame
returns-in_default-clause-frame c = some_if (λ (x : Frame). slice_get (slice_set c.self.inside.frames.items c.from.result (record c.index_mut-f.result.now { place = None })) c.args.frame ≡ Some (record x { place = None })) (slice_get c.args.self.now.frames c.args.frame) c.index_mut-f.result.now (there _ c.args.self.now c.from.result c.args.frame c.index_mut-f.result.now c.self.view_is c.requires.within c.from.ensures c.index_mut-f.ensures.value).1
    (ap (slice_get (slice_set c.self.inside.frames.items c.from.result (record c.index_mut-f.result.now { place = None }))) (sym c.from.ensures) ∙ get_set_same c.self.inside.frames.items c.from.result (record c.index_mut-f.result.now { place = None }) (slice_get_within c.self.inside.frames.items c.from.result c.index_mut-f.result.now (there _ c.args.self.now c.from.result c.args.frame c.index_mut-f.result.now c.self.view_is c.requires.within c.from.ensures c.index_mut-f.ensures.value).0))

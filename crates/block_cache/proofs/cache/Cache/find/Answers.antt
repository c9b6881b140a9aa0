use Rattle.std.proofs.Common.{◌<◌, subst, length, arith}
use Rattle.std.specs.Prelude.{IfSome}
use Rattle.block_cache.specs.Cache.{CacheView}
use Rattle.block_cache.proofs.Caches.{frame_within, read_table}
use Rattle.block_cache.proofs.Places.{item_at}
use Rattle.block_cache.proofs.cache.Cache.find.Goals as goal

pub returns-clause-within : goal.returns-clause-within
returns-clause-within c =
    let lt : c.from.result < length c.self.inside.table.items = omega (arith, c.self.invariant.places, c.from.ensures, c.place_of_block.ensures, c.requires.file, c.requires.number) in
    let at = item_at c.self.inside.table.items c.from.result c.index.result.now lt c.index.ensures in
    subst (λ (v : CacheView). IfSome c.index.result.now (λ frame. frame < length v.frames)) c.self.view_is (frame_within _ c.from.result c.index.result.now c.self.invariant (read_table c.self.inside.table.items c.from.result c.index.result.now at))

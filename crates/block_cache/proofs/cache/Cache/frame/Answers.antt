use Rattle.std.proofs.Common.{◌<◌, ap, length, arith}
use Rattle.block_cache.specs.Cache.{CacheView}
use Rattle.block_cache.proofs.Places.{item_at}
use Rattle.block_cache.proofs.cache.Cache.frame.Goals as goal

pub returns-clause-fits : goal.returns-clause-fits
returns-clause-fits c =
    let within : c.from.result < length c.self.inside.frames.items = omega (arith, c.requires, c.from.ensures, ap (λ (v : CacheView). length v.frames) c.self.view_is) in
    c.self.invariant.each c.from.result c.index.result.now (item_at c.self.inside.frames.items c.from.result c.index.result.now within c.index.ensures)

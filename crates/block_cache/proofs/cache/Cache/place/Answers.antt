use Rattle.std.proofs.Common.{arith}
use Rattle.block_cache.proofs.Caches.{victim_clean, victim_within, free_frame}
use Rattle.block_cache.proofs.cache.Cache.place.Goals as goal

pub evict-requires-clause-within : goal.evict-requires-clause-within
evict-requires-clause-within c = victim_within c.args.self.now c.in-Some.frame c.in-Some.ensures

pub evict-requires-clause-clean : goal.evict-requires-clause-clean
evict-requires-clause-clean c = victim_clean c.args.self.now c.in-Some.frame c.in-Some.ensures

pub fill-requires-clause-within : goal.fill-requires-clause-within
fill-requires-clause-within c = let lt = victim_within c.args.self.now c.in-Some.frame c.in-Some.ensures in omega (arith, lt, c.evict.ensures.count)

pub fill-requires-clause-free : goal.fill-requires-clause-free
fill-requires-clause-free c = free_frame c.args.self.now c.evict.new.self c.in-Some.frame (victim_clean c.args.self.now c.in-Some.frame c.in-Some.ensures) c.evict.ensures.frame

pub touch-requires : goal.touch-requires
touch-requires c = let lt = victim_within c.args.self.now c.in-Some.frame c.in-Some.ensures in omega (arith, lt, c.evict.ensures.count, c.fill.ensures.count)

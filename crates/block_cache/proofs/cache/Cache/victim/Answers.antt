use Rattle.std.proofs.Common.{ap, reverse, find, List, ◌∙◌}
use Rattle.std.specs.Map.{keys_of}
use Rattle.block_cache.specs.Cache.{is_clean, victim_of}
use Rattle.block_cache.specs.declared.frame.Frame.{Frame}
use Rattle.block_cache.proofs.Orders.{found_key}
use Rattle.block_cache.proofs.cache.Cache.victim.Goals as goal

pub returns : goal.returns
returns c = c.oldest_clean.ensures ∙ found_key (is_clean c.deref.result.now) (reverse c.self.inside.order.entries)
    ∙ ap (λ (frames : List Frame). find (is_clean frames) (keys_of (reverse c.self.inside.order.entries))) c.deref.ensures.value ∙ ap victim_of c.self.view_is

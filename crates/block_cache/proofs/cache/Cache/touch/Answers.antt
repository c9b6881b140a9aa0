use Rattle.std.proofs.Common.{◌<◌, length, sym, ap, ◌∙◌, arith}
use Rattle.std.specs.Prelude.{nat_eq, reverse, ℕ}
use Rattle.std.proofs.lemmas.Bool.{lt-ltb}
use Rattle.block_cache.specs.Cache.{CacheView, used_last}
use Rattle.std.specs.List.{list_any}
use Rattle.std.specs.Map.{keys_of}
use Rattle.lru.specs.LruCache.{LruCache}
use Rattle.block_cache.proofs.Orders.{any_promoted, any_reversed, promoted_last}
use Rattle.block_cache.proofs.cache.Cache.touch.Goals as goal

pub invariant_of-self : goal.invariant_of-self
invariant_of-self c =
    record {
      places = c.self.invariant.places;
      some = c.self.invariant.some;
      few = c.self.invariant.few;
      each = c.self.invariant.each;
      held = c.self.invariant.held;
      placed = c.self.invariant.placed;
      ordered = λ n. any_reversed n c.promote.new.self.entries ∙ ap (λ (order : LruCache ℕ (Unit {0})). list_any (nat_eq n) (keys_of order.entries)) c.promote.ensures.entries ∙ any_promoted n _ c.self.inside.order.entries ∙ sym (any_reversed n c.self.inside.order.entries) ∙ c.self.invariant.ordered n;
    }

pub returns-clause-valid : goal.returns-clause-valid
returns-clause-valid c = invariant_of-self c

pub returns-clause-order : goal.returns-clause-order
returns-clause-order c =
    let within : c.args.frame < length c.self.inside.frames.items = omega (arith, c.requires, ap (λ (v : CacheView). length v.frames) c.self.view_is) in
    let any = sym (any_reversed c.args.frame c.self.inside.order.entries) ∙ c.self.invariant.ordered c.args.frame ∙ lt-ltb c.args.frame (length c.self.inside.frames.items) within in
    ap (λ (order : LruCache ℕ (Unit {0})). keys_of (reverse order.entries)) c.promote.ensures.entries
    ∙ promoted_last c.args.frame c.self.inside.order.entries any
    ∙ ap (λ (v : CacheView). used_last c.args.frame v.order) c.self.view_is

use Rattle.std.proofs.Common.{◌≡◌, false, true, refl, sym, subst, arith}
use Rattle.block_cache.specs.Blocks.{View, InCache}
use Rattle.block_cache.specs.Cache.{is_dirty}
use Rattle.block_cache.proofs.Caches.{dirty_entry}
use Rattle.block_cache.proofs.blocks.Blocks.dirty.Goals as goal

pub returns-in_err-place-clause-least : goal.returns-in_err-place-clause-least
returns-in_err-place-clause-least g c = λ file number is.
    let old = subst (λ (v : View g.row.D.Denot). InCache v.cache file number (λ f. is_dirty f ≡ true)) (sym c.self.view_is) is in
    let d = dirty_entry c.self.inside.cache file number old.1.0 old.1.1 old.1.2 in
    absurd (false_true (c.in_err-place.ensures.least _ d.0 d.1 d.2).1)
  where
    false_true : false ≡ true → ⊥
    false_true e = cc

pub returns-clause-least : goal.returns-clause-least
returns-clause-least g c = λ file number is.
    let old = subst (λ (v : View g.row.D.Denot). InCache v.cache file number (λ f. is_dirty f ≡ true)) (sym c.self.view_is) is in
    let d = dirty_entry c.self.inside.cache file number old.1.0 old.1.1 old.1.2 in
    let least = (c.in_ok-place.ensures.least _ d.0 d.1 d.2).0 in
    (omega (arith, least), refl)

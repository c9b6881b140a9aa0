use Rattle.std.proofs.Common.{rules, ◌≡◌, ◌∷◌, [], sym, subst}
use Rattle.keyed_file.specs.Block.{KeyedBlock}
use Rattle.block_cache.specs.Created.{AreAllFiles}
use Rattle.volume_tests.proofs.ExampleVolume.{given_all, two_sizes}
use Rattle.volume_tests.proofs.blocks.given.Goals as goal

pub returns : goal.returns
returns c =
    let first : KeyedBlock = c.in-Ok.first in
    let second : KeyedBlock = c.in-Ok-content.second in
    let third : KeyedBlock = c.in-Ok-content-2.third in
    let one : c.new-2.result ≡ c.in-Ok.first ∷ c.in-Ok-content.second ∷ [] = search (rules, c.new-2.ensures, c.in_ok-vec.ensures.items) in
    let two : c.new-3.result ≡ c.in-Ok-content-2.third ∷ [] = search (rules, c.new-3.ensures, c.in_ok-vec-2.ensures.items) in
    let items : c.in_ok-vec-3.field-0.items ≡ (record { file = 1; blocks = c.in-Ok.first ∷ c.in-Ok-content.second ∷ [] }) ∷ (record { file = 2; blocks = c.in-Ok-content-2.third ∷ [] }) ∷ [] =
    search (rules, c.in_ok-vec-3.ensures.items, one, two) in
    record { all = subst (AreAllFiles two_sizes) (sym items) (given_all first second third c.in-Ok.ensures.home c.in-Ok-content.ensures.home c.in-Ok-content-2.ensures.home) }

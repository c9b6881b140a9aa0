use Rattle.std.proofs.Common.{◌≡◌, ◌<◌, ◌-◌, ℕ, Some, true, false, refl}
use Rattle.keyed_file.specs.Block.{KeyedBlock}
use Rattle.block_cache.specs.declared.frame.Frame.{Frame}
use Rattle.block_cache.specs.declared.pair.PairPhase.TheVariants.{Settled, Written}
use Rattle.block_cache.specs.Cache.{SetsEntry, entry_at}
use Rattle.block_cache.specs.Rewrite.{IsCalm}
use Rattle.volume_tests.proofs.Calm.{CalmBut, calm-but, clean-settled, loads-calm, sets-but, sets-calm}
use Rattle.volume_tests.proofs.blocks.change.Goals as goal

pub draw_body-requires : goal.draw_body-requires
draw_body-requires c =
    let number : ℕ = c.from.result in
    let calm1 : IsCalm c.load.new.self.cache = loads-calm 1 number c.args.blocks.now.cache c.load.new.self.cache c.requires.calm c.in_ok-load.ensures.loaded.loads in
    let small : number < 256 = c.in_ok-load.ensures.loaded.there.0 in
    let f1 : Frame = c.in_ok-load.ensures.loaded.there.1.0 in
    let at1 : entry_at c.load.new.self.cache 1 number ≡ Some f1 = c.in_ok-load.ensures.loaded.there.1.1 in
    let settled1 : f1.phase ≡ Settled = clean-settled f1 (calm1 1 number f1 small at1) in
    let f2 : Frame = record f1 { block = c.in_ok-block.block; dirty = true } in
    let sets2 : SetsEntry c.load.new.self.cache c.put_block.new.self.cache 1 number f2 = c.put_block.ensures.cache f1 at1 in
    (small, (f2, sets2.entry, (refl, settled1)))

pub returns-clause-calm : goal.returns-clause-calm
returns-clause-calm c =
    let number : ℕ = c.from.result in
    let calm1 : IsCalm c.load.new.self.cache = loads-calm 1 number c.args.blocks.now.cache c.load.new.self.cache c.requires.calm c.in_ok-load.ensures.loaded.loads in
    let f1 : Frame = c.in_ok-load.ensures.loaded.there.1.0 in
    let at1 : entry_at c.load.new.self.cache 1 number ≡ Some f1 = c.in_ok-load.ensures.loaded.there.1.1 in
    let f2 : Frame = record f1 { block = c.in_ok-block.block; dirty = true } in
    let sets2 : SetsEntry c.load.new.self.cache c.put_block.new.self.cache 1 number f2 = c.put_block.ensures.cache f1 at1 in
    let but2 : CalmBut 1 number c.put_block.new.self.cache = sets-but 1 number c.load.new.self.cache c.put_block.new.self.cache f2 (calm-but 1 number c.load.new.self.cache calm1) sets2 in
    let f3 : Frame = record f2 { dirty = false; phase = Written } in
    let sets3 : SetsEntry c.put_block.new.self.cache c.draw_body.new.self.cache 1 number f3 = c.in_ok-draw_body.ensures.cache f2 sets2.entry in
    let but3 : CalmBut 1 number c.draw_body.new.self.cache = sets-but 1 number c.put_block.new.self.cache c.draw_body.new.self.cache f3 but2 sets3 in
    let f4 : Frame = record f3 { phase = Settled; slot = 1 - f3.slot } in
    let sets4 : SetsEntry c.draw_body.new.self.cache c.draw_select.new.self.cache 1 number f4 = c.in_ok-draw_select.ensures.cache f3 sets3.entry in
    sets-calm 1 number c.draw_select.new.self.cache f4 (sets-but 1 number c.draw_body.new.self.cache c.draw_select.new.self.cache f4 but3 sets4) sets4.entry refl

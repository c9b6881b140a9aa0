use Rattle.std.proofs.Common.{◌≡◌, true, Some, refl, sym, subst}
use Rattle.keyed_file.specs.BlockFormat.{is_at_home}
use Rattle.block_cache.specs.declared.frame.Frame.{Frame}
use Rattle.block_cache.specs.Blocks.{View}
use Rattle.keyed_file.specs.Volume.{blocks_of}
use Rattle.block_cache.proofs.Puts.{put_sets, put_valid, put_holds}
use Rattle.block_cache.proofs.blocks.Blocks.put_block.Goals as goal

pub invariant_of-self : goal.invariant_of-self
invariant_of-self g c = (c.self.invariant.0, put_valid g.D.Disk.tells g.D.Disk.held _ c.args.self.now c.self.view_is c.args.n.file c.args.n.number c.frame_of-frame.result c.self.invariant.1 c.requires.cached.0 c.frame_of-frame.ensures.place c.put.new.self (λ (f : Frame). record f { block = c.args.content; dirty = true }) (record { phase = λ f. refl; slot = λ f. refl; dirty = λ f. refl }) c.put.ensures.frames c.put.ensures.table c.put.ensures.valid (λ f found was. record { within = was.within; home = subst (λ (v : View g.row.D.Denot). is_at_home (Some (record { file = c.args.n.file; number = c.args.n.number; blocks = blocks_of v.label.files c.args.n.file })) c.args.content ≡ true) (sym c.self.view_is) c.requires.home }))

pub returns-clause-valid : goal.returns-clause-valid
returns-clause-valid g c = put_valid g.D.Disk.tells g.D.Disk.held _ c.args.self.now c.self.view_is c.args.n.file c.args.n.number c.frame_of-frame.result c.self.invariant.1 c.requires.cached.0 c.frame_of-frame.ensures.place c.put.new.self (λ (f : Frame). record f { block = c.args.content; dirty = true }) (record { phase = λ f. refl; slot = λ f. refl; dirty = λ f. refl }) c.put.ensures.frames c.put.ensures.table c.put.ensures.valid (λ f found was. record { within = was.within; home = subst (λ (v : View g.row.D.Denot). is_at_home (Some (record { file = c.args.n.file; number = c.args.n.number; blocks = blocks_of v.label.files c.args.n.file })) c.args.content ≡ true) (sym c.self.view_is) c.requires.home })

pub returns-clause-holds : goal.returns-clause-holds
returns-clause-holds g c = put_holds g.D.Disk.tells g.D.Disk.held _ c.args.self.now c.self.view_is c.args.n.file c.args.n.number c.frame_of-frame.result c.self.invariant.1 c.requires.cached.0 c.frame_of-frame.ensures.place c.put.new.self (λ (f : Frame). record f { block = c.args.content; dirty = true }) (record { phase = λ f. refl; slot = λ f. refl; dirty = λ f. refl }) c.put.ensures.frames c.put.ensures.table c.put.ensures.valid

pub returns-clause-cache : goal.returns-clause-cache
returns-clause-cache g c = put_sets g.D.Disk.tells g.D.Disk.held _ c.args.self.now c.self.view_is c.args.n.file c.args.n.number c.frame_of-frame.result c.self.invariant.1 c.requires.cached.0 c.frame_of-frame.ensures.place c.put.new.self (λ (f : Frame). record f { block = c.args.content; dirty = true }) (record { phase = λ f. refl; slot = λ f. refl; dirty = λ f. refl }) c.put.ensures.frames c.put.ensures.table c.put.ensures.valid

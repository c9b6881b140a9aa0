use Rattle.std.proofs.Common.{true, refl, ap, ◌∙◌, eq-eqb}
use Rattle.keyed_file.specs.Search.{with_record}
use Rattle.tmf_model.specs.Place.{block_of}
use Rattle.block_cache.specs.declared.frame.Frame.{Frame}
use Rattle.block_cache.specs.Blocks.{View}
use Rattle.keyed_file.specs.Volume.{blocks_of}
use Rattle.block_cache.proofs.AtHome.{at_home_set}
use Rattle.block_cache.proofs.Puts.{put_sets, put_valid, put_holds}
use Rattle.block_cache.proofs.blocks.Blocks.set.Goals as goal

pub invariant_of-self : goal.invariant_of-self
invariant_of-self g c = (c.self.invariant.0, put_valid g.D.Disk.tells g.D.Disk.held _ c.args.self.now c.self.view_is c.args.n.file c.args.n.number c.frame_of-frame.result c.self.invariant.1 c.requires.cached.0 c.frame_of-frame.ensures.place c.set.new.self (λ (f : Frame). record f { block = record f.block { records = with_record c.args.key.now c.args.value f.block.records; position = c.args.position }; dirty = true }) (record { phase = λ f. refl; slot = λ f. refl; dirty = λ f. refl }) c.set.ensures.frames c.set.ensures.table c.set.ensures.valid (λ f found was. record { within = was.within; home = at_home_set (record { file = c.args.n.file; number = c.args.n.number; blocks = blocks_of c.self.inside.label.files c.args.n.file }) f.block c.args.key.now c.args.value c.args.position was.home (eq-eqb _ _ (ap (λ (v : View g.row.D.Denot). block_of c.args.key.now (blocks_of v.label.files c.args.n.file)) c.self.view_is ∙ c.requires.home)) }))

pub returns-clause-valid : goal.returns-clause-valid
returns-clause-valid g c = put_valid g.D.Disk.tells g.D.Disk.held _ c.args.self.now c.self.view_is c.args.n.file c.args.n.number c.frame_of-frame.result c.self.invariant.1 c.requires.cached.0 c.frame_of-frame.ensures.place c.set.new.self (λ (f : Frame). record f { block = record f.block { records = with_record c.args.key.now c.args.value f.block.records; position = c.args.position }; dirty = true }) (record { phase = λ f. refl; slot = λ f. refl; dirty = λ f. refl }) c.set.ensures.frames c.set.ensures.table c.set.ensures.valid (λ f found was. record { within = was.within; home = at_home_set (record { file = c.args.n.file; number = c.args.n.number; blocks = blocks_of c.self.inside.label.files c.args.n.file }) f.block c.args.key.now c.args.value c.args.position was.home (eq-eqb _ _ (ap (λ (v : View g.row.D.Denot). block_of c.args.key.now (blocks_of v.label.files c.args.n.file)) c.self.view_is ∙ c.requires.home)) })

pub returns-clause-holds : goal.returns-clause-holds
returns-clause-holds g c = put_holds g.D.Disk.tells g.D.Disk.held _ c.args.self.now c.self.view_is c.args.n.file c.args.n.number c.frame_of-frame.result c.self.invariant.1 c.requires.cached.0 c.frame_of-frame.ensures.place c.set.new.self (λ (f : Frame). record f { block = record f.block { records = with_record c.args.key.now c.args.value f.block.records; position = c.args.position }; dirty = true }) (record { phase = λ f. refl; slot = λ f. refl; dirty = λ f. refl }) c.set.ensures.frames c.set.ensures.table c.set.ensures.valid

pub returns-clause-cache : goal.returns-clause-cache
returns-clause-cache g c = put_sets g.D.Disk.tells g.D.Disk.held _ c.args.self.now c.self.view_is c.args.n.file c.args.n.number c.frame_of-frame.result c.self.invariant.1 c.requires.cached.0 c.frame_of-frame.ensures.place c.set.new.self (λ (f : Frame). record f { block = record f.block { records = with_record c.args.key.now c.args.value f.block.records; position = c.args.position }; dirty = true }) (record { phase = λ f. refl; slot = λ f. refl; dirty = λ f. refl }) c.set.ensures.frames c.set.ensures.table c.set.ensures.valid

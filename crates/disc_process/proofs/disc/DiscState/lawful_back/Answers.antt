use Rattle.std.proofs.Common.{◌≡◌, ℕ, ◌<◌, false, Some, None, ap, sym, subst, ◌∙◌}
use Rattle.std.specs.Option.{option_map}
use Rattle.tmf_model.specs.declared.transid.Transid.{Transid}
use Rattle.keyed_file.specs.Block.{IsBlock, value_at}
use Rattle.keyed_file.specs.Volume.{blocks_of as label_blocks}
use Rattle.node_machine.specs.Made.{blocks_of}
use Rattle.node_machine.specs.Parts.{DiscPart}
use Rattle.block_cache.specs.declared.frame.Frame.{Frame}
use Rattle.block_cache.specs.Blocks.{InCache, home_of}
use Rattle.block_cache.specs.Cache.{entry_at}
use Rattle.disc_process.specs.declared.live.Change.{Change}
use Rattle.disc_process.specs.Blocks.{IsHome, cached}
use Rattle.disc_process.specs.Damage.{WasRight}
use Rattle.disc_process.specs.Device.{device_of}
use Rattle.disc_process.specs.Disc.{DiscView, the_disc}
use Rattle.disc_process.specs.Undo.{IsNewest, home_of_change, takes_back}
use Rattle.disc_process.proofs.Caches.{at_home}
use Rattle.disc_process.proofs.Damaged.{was_right}
use Rattle.disc_process.proofs.Keys.{back_crowded}
use Rattle.disc_process.proofs.disc.DiscState.lawful_back.Goals as goal

pub returns-clause-baseless : goal.returns-clause-baseless
returns-clause-baseless g c =
    let i = c.self.invariant in
    let s : DiscPart = the_disc g.J.Run.opening c.self.inside.seat in
    let blocks = c.self.inside.blocks in
    let t : Transid = c.args.t in
    let change : Change = c.args.change.now in
    let number : ℕ = home_of_change s change in
    let newest : IsNewest s t change = subst (λ (v : DiscView g.row.D.Denot). IsNewest v.part t change) (sym c.self.view_is) c.requires.newest in
    let n_is : c.args.n.number ≡ number = subst (λ (v : DiscView g.row.D.Denot). c.args.n.number ≡ home_of_change v.part change) (sym c.self.view_is) c.requires.number in
    let there : InCache blocks.cache c.args.n.file c.args.n.number (λ f. takes_back f.block change.before (value_at f.block change.key) ≡ false) =
    subst (λ (v : DiscView g.row.D.Denot). InCache v.blocks.cache c.args.n.file c.args.n.number (λ f. takes_back f.block change.before (value_at f.block change.key) ≡ false)) (sym c.self.view_is) c.requires.cached in
    let frame : Frame = there.1.0 in
    let valid : IsBlock frame.block = subst IsBlock (c.get.ensures.content frame there.1.1) c.get-2.ensures.valid in
    let at : entry_at blocks.cache change.file number ≡ Some frame = ap (λ (x : ℕ × ℕ). entry_at blocks.cache x.0 x.1) (λ j. (sym c.requires.file j, sym n_is j)) ∙ there.1.1 in
    let few : number < 256 = subst (λ (n : ℕ). n < 256) n_is there.0 in
    let in_file = c.get.ensures.valid.cached change.file number frame few at in
    let home : IsHome (blocks_of s.config change.file) number frame.block = subst (λ (b : ℕ). IsHome b number frame.block) (i.keeps.files change.file newest.here) (at_home change.file number (label_blocks blocks.label.files change.file) frame.block in_file.home) in
    let in_cache : cached blocks change.file number ≡ Some frame.block = ap (option_map (λ (x : Frame). x.block)) at in
    subst (λ (v : DiscView g.row.D.Denot). v.part.base ≡ None) c.self.view_is
    (back_crowded g.D.Disk.tells g.D.Disk.held s blocks t change frame.block newest in_cache valid home there.1.2 i.holds_keys i.keeps.values)

pub returns-clause-right : goal.returns-clause-right
returns-clause-right g c =
    let blocks = c.self.inside.blocks in
    let f = c.args.n.file in
    let n = c.args.n.number in
    let change : Change = c.args.change.now in
    let given = g.J.DeviceRun.devices (device_of c.self.inside.volume) in
    let there : InCache blocks.cache f n (λ f. takes_back f.block change.before (value_at f.block change.key) ≡ false) =
    subst (λ (v : DiscView g.row.D.Denot). InCache v.blocks.cache f n (λ f. takes_back f.block change.before (value_at f.block change.key) ≡ false)) (sym c.self.view_is) c.requires.cached in
    let in_file = c.get.ensures.valid.cached f n there.1.0 there.0 there.1.1 in
    let right : WasRight g.D.Disk given (home_of blocks f n) = was_right g.D.Disk given blocks f n there.1.0 in_file.within there.1.1 c.self.invariant.holds_blocks in
    subst (λ (v : DiscView g.row.D.Denot). WasRight g.D.Disk v.handed_in (home_of v.blocks change.file (home_of_change v.part change))) c.self.view_is
    (subst (λ (x : ℕ × ℕ). WasRight g.D.Disk given (home_of blocks x.0 x.1))
    (λ j. (c.requires.file j, subst (λ (v : DiscView g.row.D.Denot). n ≡ home_of_change v.part change) (sym c.self.view_is) c.requires.number j)) right)

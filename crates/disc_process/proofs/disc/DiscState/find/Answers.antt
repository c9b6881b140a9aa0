use Rattle.std.proofs.Common.{◌≡◌, ℕ, true, List, Some, None, refl, ap, sym, subst, ◌∙◌}
use Rattle.std.specs.Option.{option_map}
use Rattle.std.specs.Prelude.{⊤}
use Rattle.tmf_model.specs.declared.config.Config.{Config}
use Rattle.keyed_file.specs.Block.{KeyedBlock, IsBlock}
use Rattle.keyed_file.specs.Volume.{blocks_of as label_blocks}
use Rattle.node_machine.specs.Made.{home_block, volume_of}
use Rattle.node_machine.specs.Parts.{DiscPart}
use Rattle.block_cache.specs.declared.frame.Frame.{Frame}
use Rattle.block_cache.specs.Blocks.{InCache, home_of}
use Rattle.block_cache.specs.Cache.{entry_at}
use Rattle.disc_process.specs.Blocks.{IsHome, cached}
use Rattle.disc_process.specs.Damage.{WasRight}
use Rattle.disc_process.specs.Device.{device_of}
use Rattle.disc_process.specs.Disc.{AreKept, DiscView, FindsIn, the_disc}
use Rattle.disc_process.specs.Found.{found_in, is_put}
use Rattle.disc_process.proofs.Caches.{at_home}
use Rattle.disc_process.proofs.Damaged.{was_right}
use Rattle.disc_process.proofs.Keys.{step_crowded}
use Rattle.disc_process.proofs.disc.DiscState.find.Goals as goal

pub returns-clause-found : goal.returns-clause-found
returns-clause-found g c =
    let i = c.self.invariant in
    let s : DiscPart = the_disc g.J.Run.opening c.self.inside.seat in
    let step = c.args.step.now in
    let blocks = c.self.inside.blocks in
    let number : ℕ = home_block s.config step.file step.key in
    let there : InCache blocks.cache step.file number (λ f. ⊤) =
    subst (λ (v : DiscView g.row.D.Denot). InCache v.blocks.cache step.file (home_block v.part.config step.file step.key) (λ f. ⊤)) (sym c.self.view_is) c.requires.cached in
    let here : volume_of s.config step.file ≡ s.number = subst (λ (v : DiscView g.row.D.Denot). volume_of v.part.config step.file ≡ v.part.number) (sym c.self.view_is) c.requires.here in
    let frame : Frame = there.1.0 in
    let n_is : c.home-n.result.number ≡ number = c.home-n.ensures.number ∙ ap (λ (x : Config). home_block x step.file step.key) (sym i.seat.config_is) in
    let n_at : entry_at blocks.cache c.home-n.result.file c.home-n.result.number ≡ Some frame = ap (λ (x : ℕ × ℕ). entry_at blocks.cache x.0 x.1) (λ j. (c.home-n.ensures.file j, n_is j)) ∙ there.1.1 in
    let got : c.get.result.now ≡ frame.block = c.get.ensures.content frame n_at in
    let in_file = c.get.ensures.valid.cached step.file number frame there.0 there.1.1 in
    let finds : FindsIn s step number c.found_in.result frame.block = record {
      valid = subst IsBlock got c.found_in.ensures.valid;
      home = subst (λ (b : ℕ). IsHome b number frame.block) (i.keeps.files step.file here) (at_home step.file number (label_blocks blocks.label.files step.file) frame.block in_file.home);
      kept = c.in_ok-kept.kept.items;
      are = subst (λ (v : DiscView g.row.D.Denot). is_put step.op ≡ true → AreKept v.part step.file (home_block v.part.config step.file step.key) c.in_ok-kept.kept.items) (sym c.self.view_is) c.in_ok-kept.ensures.are;
      is = sym (c.found_in.ensures.found ∙ ap (λ (x : KeyedBlock × List (List ℕ)). found_in x.0 x.1 step) (λ j. (got j, c.as_slice.ensures.value j)));
    } in
    subst (λ (v : DiscView g.row.D.Denot). InCache v.blocks.cache step.file (home_block v.part.config step.file step.key) (λ f. FindsIn v.part step (home_block v.part.config step.file step.key) c.found_in.result f.block)) c.self.view_is
    (there.0, (frame, there.1.1, finds))

pub returns-clause-baseless : goal.returns-clause-baseless
returns-clause-baseless g c =
    let i = c.self.invariant in
    let s : DiscPart = the_disc g.J.Run.opening c.self.inside.seat in
    let step = c.args.step.now in
    let blocks = c.self.inside.blocks in
    let number : ℕ = home_block s.config step.file step.key in
    let there : InCache blocks.cache step.file number (λ f. ⊤) =
    subst (λ (v : DiscView g.row.D.Denot). InCache v.blocks.cache step.file (home_block v.part.config step.file step.key) (λ f. ⊤)) (sym c.self.view_is) c.requires.cached in
    let here : volume_of s.config step.file ≡ s.number = subst (λ (v : DiscView g.row.D.Denot). volume_of v.part.config step.file ≡ v.part.number) (sym c.self.view_is) c.requires.here in
    let frame : Frame = there.1.0 in
    let n_is : c.home-n.result.number ≡ number = c.home-n.ensures.number ∙ ap (λ (x : Config). home_block x step.file step.key) (sym i.seat.config_is) in
    let n_at : entry_at blocks.cache c.home-n.result.file c.home-n.result.number ≡ Some frame = ap (λ (x : ℕ × ℕ). entry_at blocks.cache x.0 x.1) (λ j. (c.home-n.ensures.file j, n_is j)) ∙ there.1.1 in
    let got : c.get.result.now ≡ frame.block = c.get.ensures.content frame n_at in
    let in_file = c.get.ensures.valid.cached step.file number frame there.0 there.1.1 in
    let finds : FindsIn s step number c.found_in.result frame.block = record {
      valid = subst IsBlock got c.found_in.ensures.valid;
      home = subst (λ (b : ℕ). IsHome b number frame.block) (i.keeps.files step.file here) (at_home step.file number (label_blocks blocks.label.files step.file) frame.block in_file.home);
      kept = c.in_ok-kept.kept.items;
      are = subst (λ (v : DiscView g.row.D.Denot). is_put step.op ≡ true → AreKept v.part step.file (home_block v.part.config step.file step.key) c.in_ok-kept.kept.items) (sym c.self.view_is) c.in_ok-kept.ensures.are;
      is = sym (c.found_in.ensures.found ∙ ap (λ (x : KeyedBlock × List (List ℕ)). found_in x.0 x.1 step) (λ j. (got j, c.as_slice.ensures.value j)));
    } in
    let in_cache : cached blocks step.file number ≡ Some frame.block = ap (option_map (λ (x : Frame). x.block)) there.1.1 in
    λ crowds.
    subst (λ (v : DiscView g.row.D.Denot). v.part.base ≡ None) c.self.view_is
    (step_crowded g.D.Disk.tells g.D.Disk.held s blocks step number frame.block c.found_in.result crowds here in_cache finds refl i.holds_keys i.keeps.values)

pub returns-clause-right : goal.returns-clause-right
returns-clause-right g c =
    let step = c.args.step.now in
    let blocks = c.self.inside.blocks in
    let number : ℕ = home_block (the_disc g.J.Run.opening c.self.inside.seat).config step.file step.key in
    let there : InCache blocks.cache step.file number (λ f. ⊤) =
    subst (λ (v : DiscView g.row.D.Denot). InCache v.blocks.cache step.file (home_block v.part.config step.file step.key) (λ f. ⊤)) (sym c.self.view_is) c.requires.cached in
    let in_file = c.get.ensures.valid.cached step.file number there.1.0 there.0 there.1.1 in
    subst (λ (v : DiscView g.row.D.Denot). WasRight g.D.Disk v.handed_in (home_of v.blocks step.file (home_block v.part.config step.file step.key))) c.self.view_is
    (was_right g.D.Disk (g.J.DeviceRun.devices (device_of c.self.inside.volume)) blocks step.file number there.1.0 in_file.within there.1.1 c.self.invariant.holds_blocks)

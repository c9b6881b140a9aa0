use Rattle.std.proofs.Common.{◌≡◌, ℕ, sym, subst, ◌∙◌}
use Rattle.std.specs.Prelude.{Some}
use Rattle.keyed_file.specs.Volume.{label_of}
use Rattle.block_cache.specs.Volume.{HasBase, RestsFor}
use Rattle.volume_restore.specs.Bases.{volume_on}
use Rattle.volume_restore.proofs.OnVolume.{line_blocks, line_declared, line_volume}
use Rattle.volume_restore.proofs.list.list_volume.Goals as goal

pub list_on-requires-clause-count : goal.list_on-requires-clause-count
list_on-requires-clause-count g c = sym (line_blocks c.args.config.now c.args.file c.unwrap-line.result (sym c.file.ensures ∙ c.unwrap-line.ensures))

pub list_on-requires-clause-few : goal.list_on-requires-clause-few
list_on-requires-clause-few g c = (line_declared c.args.config.now c.args.file c.unwrap-line.result c.requires.config (sym c.file.ensures ∙ c.unwrap-line.ensures)).1

pub returns-clause-listed : goal.returns-clause-listed
returns-clause-listed g c = λ base told has rests.
    let on : volume_on c.args.config.now c.args.file ≡ c.unwrap-line.result.volume = line_volume c.args.config.now c.args.file c.unwrap-line.result (sym c.file.ensures ∙ c.unwrap-line.ensures) in
    c.list_on.ensures.listed base told
    (subst (λ (v : ℕ). HasBase c.args.config.now v (g.D.Disk.held c.args.device.now) (Some base)) on has)
    (subst (λ (v : ℕ). RestsFor (label_of c.args.config.now v base.position) (g.D.Disk.held c.args.device.now)) on rests)

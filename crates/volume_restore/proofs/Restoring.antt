-- The contents that a volume is given are those of the map that recovery finds.
use Rattle.std.proofs.Common.{◌≡◌, inl, inr, ℕ, zero, suc, ◌-◌, ◌<◌, true, false, List, refl, ap, ◌∙◌, arith, eqb-true}
use Rattle.std.specs.Prelude.{Option, None, Some, ◌==◌, if◌then◌else◌, slice_get}
use Rattle.std.proofs.lemmas.Option.{slice_get_cases}
use Rattle.disk_model.specs.Held.{Held}
use Rattle.tmf_model.specs.Commits.{numbered}
use Rattle.tmf_model.specs.Config.{IsDeclared}
use Rattle.tmf_model.specs.declared.config.Config.{Config}
use Rattle.tmf_model.specs.declared.config.FileLine.{FileLine}
use Rattle.tmf_model.specs.declared.config.Volume.{Volume}
use Rattle.trail_files.specs.declared.audit_record.AuditRecord.{AuditRecord}
use Rattle.trail_files.specs.declared.monitor_record.MonitorRecord.{MonitorRecord}
use Rattle.trail_files.specs.StandsFor.{IsNumber}
use Rattle.keyed_file.specs.Volume.{Contents, files_on}
use Rattle.block_cache.specs.declared.contents.Change.{Change}
use Rattle.block_cache.specs.Changes.{AreChanges, MakeMap}
use Rattle.trail_replay.specs.declared.replay.FoundFiles.{FoundFiles}
use Rattle.trail_replay.specs.Home.{LiesOn}
use Rattle.volume_restore.specs.Bases.{recovered_from}
use Rattle.volume_restore.specs.Damage.{blocks_on}
use Rattle.volume_restore.specs.Found.{IsFoundOn}
use Rattle.volume_restore.specs.Pass.{AreNeeded, AreShown}
use Rattle.volume_restore.proofs.Counting.{by-line, on_line}
use Rattle.volume_restore.proofs.Recovering.{block_recovered}

on-volume : (volume : ℕ) (line : FileLine) → 0 < on_line volume (Some line) → line.volume ≡ volume
on-volume volume line some = (elim (line.volume == volume) as (λ b. line.volume == volume ≡ b → 0 < (if b then line.blocks else 0) → line.volume ≡ volume) [
  | true ↦ λ is lt. eqb-true line.volume volume is
  | false ↦ λ is lt. absurd (omega (arith, lt))
]) refl some

line-of : (volume : ℕ) (o : Option FileLine) → 0 < on_line volume o → (line : FileLine) × (o ≡ Some line) × (line.volume ≡ volume)
line-of volume None some = absurd (omega (arith, some))
line-of volume (Some line) some = (line, refl, on-volume volume line some)

numbered-at : {T : Type 0} (items : List T) (number : ℕ) (item : T) → numbered items number ≡ Some item → IsNumber items number item
numbered-at items zero item is = absurd (cc)
numbered-at items (suc before) item is = let same : suc before - 1 ≡ before = omega arith in (omega arith, ap (slice_get items) same ∙ is)

-- a declared number has its item
pub item-of : {T : Type 0} (items : List T) (number : ℕ) → IsDeclared items number → (x : T) × IsNumber items number x
item-of items number is = elim (slice_get_cases items (number - 1)).1 [
  | inl there ↦ (there.0, (is.above, there.2))
  | inr past ↦ absurd (omega (arith, past.0, is.above, is.below))
]

-- a file that has blocks on a volume lies on it
pub lies-on : (config : Config) (volume file : ℕ) (of : Volume) → IsNumber config.volumes volume of → 0 < blocks_on config volume file → LiesOn config file volume of.trail
lies-on config volume file of declared some =
    let there = line-of volume (numbered config.files file) (omega (arith, some, by-line volume config.files file)) in
    record { line = there.0; is_file = numbered-at config.files file there.0 there.1; on_disc = there.2; volume = of; is_volume = declared; on_trail = refl }

-- the changes that a volume needs make the map that recovery finds
pub makes-map : (config : Config) (volume low : ℕ) (of : Volume) (audit : List AuditRecord) (list : List MonitorRecord) (files : FoundFiles) (held : Held) (was : Contents) (row : List Change) → IsNumber config.volumes volume of
    → IsFoundOn config volume low audit list files → AreChanges (files_on volume 1 config.files) row → AreNeeded config volume files held row → AreShown config volume held was
    → MakeMap (recovered_from config volume low was audit list) (files_on volume 1 config.files) was row
makes-map config volume low of audit list files held was row declared on changes needed shown = record {
  given = λ i change at.
      let some : 0 < blocks_on config volume change.n.file = omega (arith, (changes.each i change at).within) in
      block_recovered config volume low change.n.file of.trail change.n.number was audit list files change.content on (lies-on config volume change.n.file of declared some) some (needed.each was shown i change at).0;
  kept = λ file number within among.
      let some : 0 < blocks_on config volume file = omega (arith, within) in
      block_recovered config volume low file of.trail number was audit list files (was file number) on (lies-on config volume file of declared some) some (needed.rest was shown file number within among);
}

-- Which files of a volume's device a recovery leaves as they were.
use Rattle.std.proofs.Common.{◌≡◌, ◌⊎◌, inl, inr, ℕ, ◌+◌, ◌<◌, ◌≤◌, Bool, List, [], ap, subst, ◌∙◌, arith}
use Rattle.std.proofs.lemmas.Bool.{cases_lt}
use Rattle.disk_model.specs.Frame.{IsLater}
use Rattle.disk_model.specs.declared.disk.Disk as disk
use Rattle.disk_model.specs.Held.{Held}
use Rattle.tmf_model.specs.declared.config.Config.{Config}
use Rattle.keyed_file.specs.Block.{KeyedBlock}
use Rattle.keyed_file.specs.Volume.{Contents, files_on}
use Rattle.block_cache.specs.declared.contents.Change.{Change}
use Rattle.block_cache.specs.Blocks.{OnlyReads, View}
use Rattle.block_cache.specs.Changes.{AreChanges, OffRow}
use Rattle.block_cache.specs.Created.{OffVolume}
use Rattle.block_cache.specs.Shows.{SpellsContent}
use Rattle.trail_replay.specs.declared.replay.FoundFiles.{FoundFiles}
use Rattle.volume_restore.specs.Damage.{AreBlocksFine, blocks_on}
use Rattle.volume_restore.specs.Pass.{AreNeeded, AreShown, home_on}
use Rattle.volume_restore.specs.Restored.{KeepsUnchanged, WereFound, WritesChanged}
use Rattle.volume_restore.proofs.Counting.{none-zero}

-- the contents that the blocks of a volume show of which none is wrong
module _ (config : Config) (volume : ℕ) (held : Held) (fine : AreBlocksFine config volume held) where
  abbrev content-at : (file number : ℕ) → (number < blocks_on config volume file) ⊎ (blocks_on config volume file ≤ number) → KeyedBlock
  content-at file number (inl within) = (fine.shown file number within).0
  content-at file number (inr past) = record { file = file; number = number; position = 0; records = [] }

  shown-at : (file number : ℕ) → number < blocks_on config volume file → (at : (number < blocks_on config volume file) ⊎ (blocks_on config volume file ≤ number)) → SpellsContent (home_on config volume file number) (content-at file number at) held
  unfolding content-at
  shown-at file number within (inl here) = (fine.shown file number here).1
  shown-at file number within (inr past) = absurd (omega (arith, within, past))

  abbrev pub shown-contents : Contents
  shown-contents = λ file number. content-at file number (cases_lt number (blocks_on config volume file))

  pub are-shown : AreShown config volume held shown-contents
  are-shown file number within = shown-at file number within (cases_lt number (blocks_on config volume file))

-- a file that is not the volume's has no block in the row
pub off-volume : (config : Config) (volume : ℕ) (old new : Held) (row : List Change) → AreChanges (files_on volume 1 config.files) row → OffRow row old new → OffVolume (files_on volume 1 config.files) old new
off-volume config volume old new row changes off q apart none = off q apart (λ i change at here. let within = (changes.each i change at).within in omega (arith, within, none change.n.file here))

-- nor has a file without a change
pub keeps-unchanged : (config : Config) (volume : ℕ) (files : FoundFiles) (held new : Held) (row : List Change) → AreBlocksFine config volume held → AreNeeded config volume files held row → OffRow row held new
    → KeepsUnchanged config volume files held new
keeps-unchanged config volume files held new row fine needed off file some has = off (1 + file) (λ label. omega (arith, some, none-zero volume config.files file (omega (arith, label)))) (λ i change at here.
    let same : file ≡ change.n.file = omega (arith, here) in
    let needs = needed.each (shown-contents config volume held fine) (are-shown config volume held fine) i change at in
    needs.1 (needs.0.same has.0 (subst (λ f. WereFound files f has.0) same has.1) (λ key lives. has.2 key)))

-- nothing was written
pub off-same : (config : Config) (volume : ℕ) (old new : Held) → new ≡ old → OffVolume (files_on volume 1 config.files) old new
off-same config volume old new same q apart none = ap (λ h. h q) same

pub unchanged-same : (config : Config) (volume : ℕ) (files : FoundFiles) (old new : Held) → new ≡ old → KeepsUnchanged config volume files old new
unchanged-same config volume files old new same file some has = ap (λ h. h (1 + file)) same

pub read-writes : {D : Type 0} (kind : disk.Ghosts D) (config : Config) (volume : ℕ) (is_fine : Bool) (files : FoundFiles) (old new : View D) → OnlyReads kind old new → WritesChanged kind config volume is_fine files old new
read-writes kind config volume is_fine files old new reads = record {
  valid = reads.valid;
  works = reads.works;
  others = λ told. off-same config volume (kind.held old.device) (kind.held new.device) reads.same;
  unchanged = λ told known. unchanged-same config volume files (kind.held old.device) (kind.held new.device) reads.same;
}

-- a device that was worked on twice
pub later-both : {D : Type 0} (kind : disk.Ghosts D) (a b c : D) → ((x y z : D) → kind.is_same x y → kind.is_same y z → kind.is_same x z) → IsLater kind a b → IsLater kind b c → IsLater kind a c
later-both kind a b c on first second = record { device = on a b c first.device second.device; tells = second.tells ∙ first.tells; later = omega (arith, first.later, second.later) }

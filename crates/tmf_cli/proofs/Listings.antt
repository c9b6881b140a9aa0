-- A listing of a node that is up finds no damage, and its volume is not lost.
use Rattle.std.specs.Prelude.{false, true, Option, Some, None}
use Rattle.std.proofs.Common.{◌≡◌, ◌+◌, ℕ, List, Bool, sym, subst, ◌∙◌, ⊎_elim}
use Rattle.disk_model.specs.Held.{File, Held}
use Rattle.tmf_model.specs.declared.config.Config.{Config}
use Rattle.tmf_model.specs.Config.{IsDeclared, IsValidConfig}
use Rattle.trail_files.specs.declared.damage.Damage.{Damage}
use Rattle.keyed_file.specs.Volume.{IsLost, label_of}
use Rattle.block_cache.specs.Damage.{bad_data_in}
use Rattle.block_cache.specs.LabelDamage.{bad_label_file}
use Rattle.volume_restore.specs.Bases.{volume_on}
use Rattle.volume_restore.specs.Damage.{blocks_on}
use Rattle.volume_restore.specs.Listed.{IsFineFile, TellsListing}
use Rattle.volume_restore.specs.declared.list.ListFault.TheVariants as fault
use Rattle.volume_recovery.specs.VolumeListing.{file_device}
use Rattle.volume_recovery.specs.VolumeNode.{volume_device}
use Rattle.tmf_cli.specs.BetweenActions.{AreReadable}
use Rattle.tmf_cli.specs.Lost.{AreLost, is_lost_volume}
use Rattle.tmf_cli.proofs.Losses.{lost-is, number-at}
use Rattle.tmf_cli.proofs.Resting.{file-volume, volume_on-line}

-- of a volume without a label no damage is told,
damage-lost : (config : Config) (volume file : ℕ) (held : Held) (damage : Damage) → IsLost held → TellsListing config volume file held (fault.Damaged damage) → ⊥
damage-lost config volume file held damage lost told =
    ⊎_elim (λ label. lost label.2.0 label.2.1 label.2.2.0) (λ blocks. lost blocks.0.0 blocks.0.1 blocks.0.2.0) told

some-none : {X : Type 0} (o : Option X) (x : X) → o ≡ None → o ≡ Some x → ⊥
some-none o x none some = absurd (cc)

-- and none of a fine file
damage-fine : (config : Config) (volume file : ℕ) (held : Held) (damage : Damage) → IsFineFile config volume file held → TellsListing config volume file held (fault.Damaged damage) → ⊥
damage-fine config volume file held damage fine told =
    ⊎_elim
    (λ label.
    let same : fine.label.0 ≡ label.2.0 = some-same (held 1) fine.label.0 label.2.0 fine.label.1 label.2.1 in
    some-none (bad_label_file (label_of config volume 1) label.2.0.bytes) damage.at (subst (λ f. bad_label_file (label_of config volume 1) f.bytes ≡ None) same fine.label.2.1) label.2.2.1)
    (λ blocks.
    let first = blocks.1 in
    some-none (bad_data_in (record { file = file; number = first.number; blocks = blocks_on config volume file }) (held (1 + file))) damage.at (fine.blocks first.number first.within) first.here.2)
    told
  where
    some-same : (o : Option File) (a b : File) → o ≡ Some a → o ≡ Some b → a ≡ b
    some-same o a b p q = cc

-- a file of which nothing is wrong is not told as damaged
pub undamaged-listing : (config : Config) (file : ℕ) (held : ℕ → Held) → IsValidConfig config → IsDeclared config.files file → AreReadable config held → (damage : Damage)
    → TellsListing config (volume_on config file) file (held (file_device config file)) (fault.Damaged damage) → ⊥
undamaged-listing config file held valid declared readable damage told =
    let line = number-at config.files file declared.above declared.below in
    let on = volume_on-line config file line.0 line.1 in
    let here = subst (λ v. TellsListing config v file (held (volume_device v)) (fault.Damaged damage)) on told in
    ⊎_elim (λ lost. damage-lost config line.0.volume file (held (volume_device line.0.volume)) damage lost here) (λ fine. damage-fine config line.0.volume file (held (volume_device line.0.volume)) damage fine here)
    (readable file line.0 line.1)

-- nor is one as lost of which the node knows that its volume is there
pub unlost-listing : (config : Config) (file : ℕ) (held : ℕ → Held) (lost : List Bool) → IsValidConfig config → IsDeclared config.files file → AreLost config held lost → is_lost_volume lost (volume_on config file) ≡ false
    → IsLost (held (file_device config file)) → ⊥
unlost-listing config file held lost valid declared are none gone =
    let volume = file-volume config file valid declared in
    let flagged : is_lost_volume lost (volume_on config file) ≡ true = sym (are (volume_on config file) volume.0 volume.1) ∙ lost-is (held (file_device config file)) gone in
    absurd (cc (sym none ∙ flagged))

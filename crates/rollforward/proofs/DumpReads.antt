-- What a dump says whose label and body were read.
use Rattle.std.proofs.Common.{◌≡◌, inl, inr, ℕ, ◌+◌, ◌*◌, ◌≤◌, List, length, Option, Some, None, refl, ap, subst, ◌∙◌, arith}
use Rattle.disk_model.specs.Held.{File, Held}
use Rattle.tmf_model.specs.Config.{IsDeclared, IsValidConfig}
use Rattle.tmf_model.specs.declared.config.Config.{Config}
use Rattle.keyed_file.specs.declared.block.TheConstants.{BLOCK_BYTES}
use Rattle.keyed_file.specs.declared.dump_label.DumpLabel.{DumpLabel}
use Rattle.keyed_file.specs.declared.home.Home.{Home}
use Rattle.keyed_file.specs.Dump.{blocks_before, blocks_in_all}
use Rattle.keyed_file.specs.LabelFormat.{file_row}
use Rattle.keyed_file.specs.Row.{IsRow}
use Rattle.keyed_file.specs.Volume.{blocks_of, files_on}
use Rattle.block_cache.specs.Volume.{HasDump}
use Rattle.volume_recovery.specs.VolumeNode.{dump_device}
use Rattle.rollforward.specs.Body.{AreSpelledIn, IsFirstIn, IsFirstInBody, IsFirstInRow, bad_from, homes_in}
use Rattle.rollforward.specs.DumpLabels.{IsDumpLabelOf}
use Rattle.rollforward.specs.Newest.{IsNewestDump, TellsNoDump}
use Rattle.rollforward.specs.Reading.{HasDumped, IsPlaced, TellsBody, contents_in, dump_of}
use Rattle.rollforward.specs.Rolls.{TellsDump}
use Rattle.rollforward.specs.declared.dump.Dumped.{Dumped}
use Rattle.rollforward.specs.declared.errors.RollError.{RollError}
use Rattle.rollforward.specs.declared.errors.RollError.TheVariants.{NotLost, NoDump, Failed, Damaged, NoMemory}
use Rattle.rollforward.proofs.HomeRows.{home_at, home_is, length-homes_in}
use Rattle.rollforward.proofs.Rollings.{block, home}

-- the blocks of a body are a dump's
pub dump-is : (config : Config) (volume : ℕ) (valid : IsValidConfig config) (declared : IsDeclared config.volumes volume) (dump : Dumped) (placed : IsPlaced config volume dump) (image : Held) (label : DumpLabel)
    → IsDumpLabelOf volume image label → label.start ≡ dump.start → AreSpelledIn dump.homes.items (image label.body) dump.blocks.items → HasDump config volume image (Some (dump_of config volume dump.start dump.blocks.items))
dump-is config volume valid declared dump placed image label labelled starts spelled =
    let files : List (ℕ × ℕ) = files_on volume 1 config.files in
    let many : length dump.homes.items ≡ blocks_in_all files = ap (λ (hs : List Home). length hs) placed.homes ∙ length-homes_in files in (
      contents_in files dump.blocks.items,
      record {
        label = label;
        valid = labelled.valid;
        of_volume = labelled.of_volume;
        starts = starts;
        label_file = labelled.spelled;
        body = (
          spelled.0,
          spelled.1,
          record {
            long = subst (λ (n : ℕ). n * BLOCK_BYTES ≤ length spelled.0.bytes) many spelled.2.long;
            each = λ file number below.
                let index : ℕ = blocks_before files file + number in
                let place : Home = record { file = file; number = number; blocks = blocks_of files file } in
                let at = block config volume valid declared dump placed file number below in
                let one = placed.blocks.each index place (contents_in files dump.blocks.items file number) (home config volume valid declared dump placed file number below) at in
                (record { valid = one.0; home = one.1 }, spelled.2.each index (contents_in files dump.blocks.items file number) at);
          },
        );
      },
      refl,
    )

-- the first damage of a row of blocks is that of the body of their files
row-body : (files : List (ℕ × ℕ)) (row : IsRow file_row 0 files) (bytes : List ℕ) (at : ℕ) → IsFirstInRow (homes_in files) bytes at → IsFirstInBody files bytes at
row-body files row bytes at first =
    let one = (home_is 0 files first.index first.home row first.is).1 in
    record {
      file = first.home.file;
      number = first.home.number;
      within = one.within;
      before = λ f n below earlier.
          first.before (blocks_before files f + n) (record { file = f; number = n; blocks = blocks_of files f }) (omega (arith, earlier, one.at)) (home_at files f n below);
      here = subst (λ (b : ℕ). bad_from (record { file = first.home.file; number = first.home.number; blocks = b }) ((blocks_before files first.home.file + first.home.number) * BLOCK_BYTES) bytes ≡ Some at) one.blocks
          (subst (λ (i : ℕ). bad_from first.home (i * BLOCK_BYTES) bytes ≡ Some at) one.at first.here);
    }

first-in : (files : List (ℕ × ℕ)) (row : IsRow file_row 0 files) (held : Option File) (at : ℕ) → IsFirstIn (IsFirstInRow (homes_in files)) held at → IsFirstIn (IsFirstInBody files) held at
first-in files row None at first = first
first-in files row (Some file) at first = row-body files row file.bytes at first

-- what is told of a body is told of the dump
pub body-told : (config : Config) (volume : ℕ) (images : ℕ → Held) (label : DumpLabel) (homes : List Home) (e : RollError) → IsRow file_row 0 (files_on volume 1 config.files) → homes ≡ homes_in (files_on volume 1 config.files)
    → IsNewestDump config volume images label → TellsBody volume label.body homes (images (dump_device volume)) e → TellsDump config volume images e
body-told config volume images label homes NotLost row is newest tells = absurd tells
body-told config volume images label homes NoDump row is newest tells = absurd tells
body-told config volume images label homes (Failed device) row is newest tells = tt
body-told config volume images label homes (Damaged device damage) row is newest tells =
    let first = subst (λ (hs : List Home). IsFirstIn (IsFirstInRow hs) (images (dump_device volume) label.body) damage.at) is tells.1.2 in
    inr (tells.0, (label, newest, (tells.1.0, tells.1.1, first-in (files_on volume 1 config.files) row (images (dump_device volume) label.body) damage.at first)))
body-told config volume images label homes NoMemory row is newest tells = tt

-- why no dump is found is why none is read
pub none-told : (config : Config) (volume : ℕ) (images : ℕ → Held) (e : RollError) → TellsNoDump config volume images e → TellsDump config volume images e
none-told config volume images NotLost tells = tells
none-told config volume images NoDump tells = tells
none-told config volume images (Failed device) tells = tt
none-told config volume images (Damaged device damage) tells = inl tells
none-told config volume images NoMemory tells = tt

-- what was read of a dump is what it says, where the volume has no label
pub dumped-is : (config : Config) (volume : ℕ) (images : ℕ → Held) (valid : IsValidConfig config) (declared : IsDeclared config.volumes volume) (dump : Dumped) (placed : IsPlaced config volume dump) (label : DumpLabel)
    → IsNewestDump config volume images label → label.start ≡ dump.start → AreSpelledIn dump.homes.items (images (dump_device volume) label.body) dump.blocks.items → HasDumped config volume images dump
dumped-is config volume images valid declared dump placed label newest starts spelled = (newest.lost, dump-is config volume valid declared dump placed (images (dump_device volume)) label newest.dump starts spelled)

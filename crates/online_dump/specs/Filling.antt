-- A dump device while the next dump is written: what its files have, and what each image of it says.
use Rattle.std.specs.Prelude.{◌≡◌, ◌≢◌, ◌⊎◌, ℕ, ◌+◌, ◌-◌, ◌*◌, ◌≤◌, Bool, true, false, List, [], length, min, Option, Some, None, IfSome, IsSome, IsTrue}
use Rattle.disk_model.specs.Held.{Held, IsThere}
use Rattle.keyed_file.specs.declared.block.TheConstants.{BLOCK_BYTES}
use Rattle.keyed_file.specs.declared.dump_label.DumpLabel.{DumpLabel}
use Rattle.keyed_file.specs.Dump.{SpellsDumpLabel}
use Rattle.keyed_file.specs.LabelFormat.{IsDumpLabel, dump_text}
use Rattle.block_cache.specs.declared.pair.PairPhase.{PairPhase}
use Rattle.block_cache.specs.declared.pair.PairPhase.TheVariants.{Settled, Written, Offered}
use Rattle.online_dump.specs.Body.{IsBodySoFar}
use Rattle.online_dump.specs.Found.{DumpView, IsSealed}
use Rattle.online_dump.specs.Sealing.{HasLabelFile, HoldsLabel, ShowsFound, next_slot}
use Rattle.online_dump.specs.declared.sealed.SealedDump.{SealedDump}

-- the file of the next body: the one of the two that the dump which stands does not name
abbrev pub next_body : Option SealedDump → ℕ
next_body None = 2
next_body (Some dump) = 5 - dump.label.body

-- the number of the next dump, which stops at the greatest number
abbrev pub next_sequence : Option SealedDump → ℕ
next_sequence None = 1
next_sequence (Some dump) = min (dump.label.sequence + 1) 18446744073709551615

-- the label of the next dump, which begins at this position
abbrev pub next_label : {D : Type 0} → DumpView D → ℕ → DumpLabel
next_label view start = record { volume = view.volume; body = next_body view.found; start = start; sequence = next_sequence view.found }

-- how far the next label has come
abbrev pub phase_of : Option DumpLabel → Bool → PairPhase
phase_of None offered = Settled
phase_of (Some label) false = Written
phase_of (Some label) true = Offered

abbrev pub text_of : Option DumpLabel → List ℕ
text_of None = []
text_of (Some label) = dump_text label

-- the label's file and that of the next body are as long as what is written there
pub record AreThere {D : Type 0} (tells : D → Bool) (held : D → Held) (view : DumpView D) : Type 0 where
  pub label : IsTrue (tells view.device) → IsSome view.found → HasLabelFile (held view.device)
  pub next : IsTrue (tells view.device) → IsSome view.next → HasLabelFile (held view.device)
  pub body : IsTrue (tells view.device) → IfSome view.filled (λ n. IsThere (held view.device) (next_body view.found) (λ f. n * BLOCK_BYTES ≤ length f.bytes))

-- the next label's numbers are in their ranges, and it is of the volume
abbrev pub IsNext : ℕ → DumpLabel → Type 0
IsNext volume label = IsDumpLabel label × (label.volume ≡ volume)

-- in every image the device has the label of the dump that was found, or of the next one, once that is offered
abbrev pub HoldsDump : {D : Type 0} → (D → Held) → DumpView D → Type 0
HoldsDump held view = HoldsLabel view.found (phase_of view.next view.offered) (text_of view.next) (held view.device)

-- the next body has these bytes so far
abbrev pub HoldsBody : {D : Type 0} → (D → Held) → DumpView D → List ℕ → Type 0
HoldsBody held view text = (n : ℕ) × (view.filled ≡ Some n) × IsThere (held view.device) (next_body view.found) (IsBodySoFar n text)

-- the image has the label of the dump that was found, or no label where none was, or the next label, where it is offered
abbrev pub ShowsDumpLabel : {D : Type 0} → DumpView D → Held → Type 0
ShowsDumpLabel view image = ShowsFound view.found image ⊎ ((view.offered ≡ true) × ((label : DumpLabel) × (view.next ≡ Some label) × IsThere image 1 (λ f. SpellsDumpLabel label f.bytes)))

-- The dump that stands and the next label have their numbers in range and are of this volume; and the next body does not go into the file of the one that stands.
pub record IsDumpFile {D : Type 0} (view : DumpView D) : Type 0 where
  pub found : IfSome view.found (IsSealed view.volume)
  pub next : IfSome view.next (IsNext view.volume)
  pub other : (dump : SealedDump) → view.found ≡ Some dump → next_body view.found ≢ dump.label.body
  pub behind_label : next_body view.found ≢ 1

-- the dump that was found stands, and the next label has come as far as before
pub record IsSameDump {D : Type 0} (old new : DumpView D) : Type 0 where
  pub volume : new.volume ≡ old.volume
  pub found : new.found ≡ old.found
  pub next : new.next ≡ old.next
  pub offered : new.offered ≡ old.offered

-- the next label is this one, and no image shows it
pub record HasWritten {D : Type 0} (old new : DumpView D) (start : ℕ) : Type 0 where
  pub volume : new.volume ≡ old.volume
  pub found : new.found ≡ old.found
  pub next : new.next ≡ Some (next_label old start)
  pub offered : new.offered ≡ false
  pub filled : new.filled ≡ old.filled
  pub whole : new.whole ≡ old.whole

-- nothing of it is changed but its device
pub record IsUnwritten {D : Type 0} (old new : DumpView D) : Type 0 where
  pub volume : new.volume ≡ old.volume
  pub found : new.found ≡ old.found
  pub next : new.next ≡ old.next
  pub offered : new.offered ≡ old.offered
  pub filled : new.filled ≡ old.filled
  pub whole : new.whole ≡ old.whole

-- the next dump stands
pub record HasSealed {D : Type 0} (old new : DumpView D) (label : DumpLabel) : Type 0 where
  pub volume : new.volume ≡ old.volume
  pub found : new.found ≡ Some (record { label = label; slot = next_slot old.found })
  pub next : new.next ≡ None
  pub filled : new.filled ≡ None
  pub whole : new.whole ≡ false

-- the next label is offered: an image may show it
pub record HasOffered {D : Type 0} (old new : DumpView D) : Type 0 where
  pub volume : new.volume ≡ old.volume
  pub found : new.found ≡ old.found
  pub next : new.next ≡ old.next
  pub offered : new.offered ≡ true
  pub filled : new.filled ≡ old.filled
  pub whole : new.whole ≡ old.whole

-- the next label is written, with this start, and the dump that stands is as before
pub record HasNext {D : Type 0} (old new : DumpView D) (start : ℕ) : Type 0 where
  pub volume : new.volume ≡ old.volume
  pub found : new.found ≡ old.found
  pub next : new.next ≡ Some (next_label old start)

-- The label of a dump device while the next one is written: what the device holds, and what each image of it says.
use Rattle.std.specs.Prelude.{◌≡◌, ◌≢◌, ◌⊎◌, ℕ, ◌-◌, ◌≤◌, List, [], ◌∷◌, length, Option, Some, None}
use Rattle.disk_model.specs.Held.{File, Held, IfThere, IsThere}
use Rattle.keyed_file.specs.declared.dump_label.DumpLabel.{DumpLabel}
use Rattle.keyed_file.specs.Dump.{SpellsDumpLabel}
use Rattle.keyed_file.specs.LabelFormat.{dump_text}
use Rattle.keyed_file.specs.Layout.{label_length, label_pair}
use Rattle.block_cache.specs.Pairs.{HoldsPair, IsSelected, StandsAt}
use Rattle.block_cache.specs.Volume.{HasNoLabel}
use Rattle.block_cache.specs.declared.pair.PairPhase.{PairPhase}
use Rattle.block_cache.specs.declared.pair.PairPhase.TheVariants.{Settled, Written, Offered}
use Rattle.online_dump.specs.declared.sealed.SealedDump.{SealedDump}

-- the slot that the next label goes to: slot 0 of a new label's file, or else the idle one
abbrev pub next_slot : Option SealedDump → ℕ
next_slot None = 0
next_slot (Some dump) = 1 - dump.slot

-- the next label is written, whether it was offered or not
abbrev pub IsUnderWay : PairPhase → Type 0
IsUnderWay Settled = ⊥
IsUnderWay Written = Unit {0}
IsUnderWay Offered = Unit {0}

-- the label's file is there, as long as a label's file is
abbrev pub HasLabelFile : Held → Type 0
HasLabelFile held = IsThere held 1 (λ f. label_length ≤ length f.bytes)

-- the label's file is whole in every image
pub record IsLong (file : File) : Type 0 where
  pub long : label_length ≤ file.synced
  pub sound : file.synced ≤ length file.bytes

-- its gate is shut in every image
pub record IsShut (file : File) : Type 0 where
  pub byte : ℕ
  pub shut : byte ≢ 1
  pub stands : StandsAt file 0 (byte ∷ [])

-- behind the gate of a new label's file the text stands in slot 0, which the selector names, in every image
pub record IsBehindGate (text : List ℕ) (file : File) : Type 0 where
  pub whole : IsLong file
  pub size : length text ≡ label_pair.size
  pub stands : StandsAt file 256 text
  pub selected : IsSelected file 1 0

-- its gate is open in every image, and its pair has this label, and the next text as far as that was written
pub record IsOpenWith (dump : SealedDump) (phase : PairPhase) (next : List ℕ) (file : File) : Type 0 where
  pub whole : IsLong file
  pub gate : StandsAt file 0 (1 ∷ [])
  pub pair : HoldsPair file label_pair phase dump.slot (dump_text dump.label) next

-- a device without a dump, whose first label may be on the way
abbrev pub HoldsFirst : PairPhase → List ℕ → Held → Type 0
HoldsFirst Settled next held = IfThere held 1 IsShut
HoldsFirst Written next held = IsThere held 1 (λ f. IsShut f × IsBehindGate next f)
HoldsFirst Offered next held = IsThere held 1 (IsBehindGate next)

-- The device has this dump's label, or none, in every image; and a next one, which is written, and which an image may show once it is offered.
abbrev pub HoldsLabel : Option SealedDump → PairPhase → List ℕ → Held → Type 0
HoldsLabel None phase next held = HoldsFirst phase next held
HoldsLabel (Some dump) phase next held = IsThere held 1 (IsOpenWith dump phase next)

-- the image has the label of this dump, or no label
abbrev pub ShowsFound : Option SealedDump → Held → Type 0
ShowsFound None image = HasNoLabel image
ShowsFound (Some dump) image = IsThere image 1 (λ f. SpellsDumpLabel dump.label f.bytes)

-- the same, or the next label, where that was offered
abbrev pub ShowsLabel : Option SealedDump → PairPhase → DumpLabel → Held → Type 0
ShowsLabel found phase next image = ShowsFound found image ⊎ ((phase ≡ Offered) × IsThere image 1 (λ f. SpellsDumpLabel next f.bytes))

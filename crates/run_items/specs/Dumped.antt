-- What a dump of a volume leaves: the act or the move that its worker knows then, and what the worker's seat has seen of it.
use Rattle.std.specs.Prelude.{◌≡◌, ◌⊎◌, ◌+◌, ◌++◌, ℕ, List, [], ◌∷◌, Option, Result, Ok, Err, MatchResult}
use Rattle.std.specs.declared.sync.ledger.Share.{Share}
use Rattle.chronicle.specs.Seats.{Sight}
use Rattle.disk_model.specs.declared.disk.Disk as disk
use Rattle.tmf_model.specs.declared.config.Config.{Config}
use Rattle.tmf_model.specs.declared.transid.Transid.{Transid}
use Rattle.node_machine.specs.Deeds.{HasDumped, Log}
use Rattle.node_machine.specs.Opening.{Found, disc_part, dump_part, trail_part}
use Rattle.node_machine.specs.Parts.{PartState}
use Rattle.node_machine.specs.Same.{Among}
use Rattle.node_machine.specs.Trail.{trail_of}
use Rattle.node_machine.specs.declared.event.By.TheVariants.{Attempt}
use Rattle.node_machine.specs.declared.event.DiscEvent.TheVariants as did
use Rattle.node_machine.specs.declared.event.DumpEvent.TheVariants as dump_did
use Rattle.node_machine.specs.declared.event.Event.{Event}
use Rattle.node_machine.specs.declared.event.Event.TheVariants.{OfDisc, OfDump, OfTrail}
use Rattle.node_machine.specs.declared.event.TrailEvent.TheVariants as trail_did
use Rattle.online_dump.specs.Dumped.{HasDumped as HasDumpedFor, HasFailedFor, HasReadDamage, IsDumpRefusal}
use Rattle.online_dump.specs.declared.refused.DumpRefused.{DumpRefused}
use Rattle.online_dump.specs.declared.refused.DumpRefused.TheVariants as refused
use Rattle.run_outcomes.specs.Concerned.{dump_parts}
use Rattle.run_outcomes.specs.Dumps.{EndsItsDumps}
use Rattle.run_outcomes.specs.Joined.{KnowsMore}
use Rattle.run_outcomes.specs.Moves.{start_move}
use Rattle.run_outcomes.specs.Reach.{Reach}
use Rattle.run_outcomes.specs.Told.{item_acts}
use Rattle.run_outcomes.specs.declared.outcome.Told.{Told}
use Rattle.run_outcomes.specs.declared.outcome.Told.TheVariants.{Damaged, Dumped, Dumping, Failed, Memory, Spent}
use Rattle.run_items.specs.Item.{IsSpentIn}

-- what a dump of the volume is told as
abbrev pub told_by_refusal : ℕ → DumpRefused → Told
told_by_refusal volume (refused.Spent part) = Spent part
told_by_refusal volume refused.Dumping = Dumping volume
told_by_refusal volume (refused.Failed device) = Failed device
told_by_refusal volume (refused.Damaged device damage) = Damaged device damage
told_by_refusal volume refused.NoMemory = Memory

abbrev pub told_by : ℕ → Result ℕ DumpRefused → Told
told_by volume (Ok start) = Dumped volume start
told_by volume (Err refusal) = told_by_refusal volume refusal

-- among these entries a call of this device has failed for the item: of the volume's trail, of the volume, or of its dump device
abbrev pub FailsIn : Config → ℕ → Transid → ℕ → Log → Type 0
FailsIn config volume t device entries =
    ((device ≡ trail_of config volume) × Among entries (trail_part (trail_of config volume), OfTrail (trail_did.Failed (Attempt t))))
    ⊎ (((device ≡ 4 + volume) × Among entries (disc_part volume, OfDisc (did.Failed (Attempt t))))
    ⊎ ((device ≡ 12 + volume) × Among entries (dump_part volume, OfDump (dump_did.Failed (Attempt t)))))

-- the dump was begun, and behind that a call of this device has failed for the item, as the seat has seen
pub record IsCutShort (config : Config) (volume : ℕ) (t : Transid) (number start device : ℕ) (seat : Sight Event) : Type 0 where
  pub front : Log
  pub rest : Log
  pub stands : seat.seen ≡ front ++ start_move volume t number start ∷ rest
  pub failed : FailsIn config volume t device rest

-- these are the begin of one dump of the volume for the item
abbrev pub AreOneStart : ℕ → Transid → Log → Type 0
AreOneStart volume t moves = (number start : ℕ) × (moves ≡ start_move volume t number start ∷ [])

module _ {D : Type 0} (kind : disk.Ghosts D) (devices : ℕ → Option D) (found : Found) (volume : ℕ) (t : Transid) where
  -- Which moves a dump has made that is told so, and what the seat has seen of it: its begin, and all of it where it is whole; its begin too where a block was damaged or memory was wanting;
  -- none where a part was spent or another dump was under way; and where a device has failed none, or its begin in front of that.
  abbrev pub DumpMakes : Sight Event → Sight Event → Told → Log → Type 0
  DumpMakes old new (Dumped named start) moves = (named ≡ volume) × ((whole : HasDumped new.seen volume t start) × (moves ≡ start_move volume t whole.number start ∷ []))
  DumpMakes old new (Dumping named) moves = (named ≡ volume) × (moves ≡ [])
  DumpMakes old new (Spent part) moves = IsSpentIn found.config (dump_parts volume) new part × (moves ≡ [])
  DumpMakes old new (Failed device) moves =
      HasFailedFor found.config volume t old new device × ((moves ≡ []) ⊎ ((number start : ℕ) × IsCutShort found.config volume t number start device new × (moves ≡ start_move volume t number start ∷ [])))
  DumpMakes old new (Damaged device damage) moves = HasReadDamage kind devices found volume device damage × AreOneStart volume t moves
  DumpMakes old new Memory moves = AreOneStart volume t moves
  DumpMakes old new _ moves = ⊥

  -- The worker knows the acts of the dump more, which are one turn where another dump was under way and else none, and its moves, which are what is told of it. Both were newly seen, and a dump that was begun is ended.
  pub record HasDoneDump (old new : Reach) (told : Told) : Type 0 where
    pub moves : Log
    pub known : KnowsMore t.worker old new (item_acts volume t told) moves
    pub makes : DumpMakes old.seat new.seat told moves
    pub apart : EndsItsDumps old.seat.seen new.seat.seen moves (record { tx = t; told = told })

-- What is told is the answer of a dump, which was whole, or was refused for its cause.
pub record IsDumpAnswered {D L : Type 0} (kind : disk.Ghosts D) (devices : ℕ → Option D) (opening : List PartState) (found : Found) (volume : ℕ) (t : Transid) (old new : Sight Event) (before after : Share L) (told : Told) : Type 0 where
  pub answer : Result ℕ DumpRefused
  pub told_is : told ≡ told_by volume answer
  pub cause : MatchResult answer (λ start. HasDumpedFor kind opening found volume t start old new before after) (λ refusal. IsDumpRefusal kind devices opening found volume t old new before after refusal)

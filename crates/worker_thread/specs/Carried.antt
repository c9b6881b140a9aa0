-- What an item that is carried out asks for, and what it has come to.
use Rattle.std.specs.Prelude.{◌≡◌, ℕ, ◌≤◌, ◌<◌, ◌+◌, ◌*◌, List, [], ◌∷◌, ◌++◌, length, Option, IsSome, vec_capacity}
use Rattle.std.proofs.Common.{Global, Vec}
use Rattle.std.specs.declared.sync.ledger.Share.{Share}
use Rattle.chronicle.specs.Seats.{Sight}
use Rattle.disk_model.specs.declared.disk.Disk as disk
use Rattle.tmf_model.specs.Config.{IsWithin}
use Rattle.tmf_model.specs.declared.script.Item.{Item}
use Rattle.tmf_model.specs.declared.script.Item.TheVariants.{Transaction as TransactionItem, Control, Dump}
use Rattle.tmf_model.specs.declared.transid.Transid.{Transid}
use Rattle.node_machine.specs.declared.event.Event.{Event}
use Rattle.node_machine.specs.Opening.{Found, found_volume}
use Rattle.node_machine.specs.Parts.{PartState}
use Rattle.commit_boxcar.specs.Settled.{IsOfRun}
use Rattle.disc_lock.specs.Seats.{HasSeenMore}
use Rattle.run_items.specs.Behind.{outcome_of}
use Rattle.run_items.specs.Controlled.{HasDoneControl}
use Rattle.run_items.specs.Dumped.{HasDoneDump}
use Rattle.run_outcomes.specs.Knowing.{most_tokens}
use Rattle.run_outcomes.specs.Outcomes.{most_attempts}
use Rattle.run_outcomes.specs.Reach.{Reach}
use Rattle.run_outcomes.specs.Room.{IsRoomForReads}
use Rattle.run_outcomes.specs.declared.outcome.Outcome.{Outcome}
use Rattle.run_outcomes.specs.declared.outcome.Told.{Told}
use Rattle.run_worker.specs.Going.{AreRunSteps}
use Rattle.run_worker.specs.Tried.{HasTried, MayBeginNext}

-- the item is a transaction of steps of the run, or the volume that it names was found
abbrev pub IsRunItem : Found → Item → Type 0
IsRunItem found (TransactionItem transaction) = AreRunSteps found transaction.steps × IsWithin 1 8 transaction.attempts
IsRunItem found (Control volume) = IsSome (found_volume found volume)
IsRunItem found (Dump volume) = IsSome (found_volume found volume)

-- The worker whose seat this is may begin the item's first attempt, with tokens for the acts and moves of all, room for their outcomes and room for what the reads of one find.
pub record MayCarryOut {L : Type 0} (opening : List PartState) (found : Found) (t : Transid) (item : Item) (reads : Vec (ℕ × Option (List ℕ)) Global) (seat : Sight Event) (share : Share L) (outcomes : Vec Outcome Global) : Type 0 where
  pub item_is : IsRunItem found item
  pub run : IsOfRun found t
  pub first : t.attempt ≡ 1
  pub next : MayBeginNext opening seat t
  pub parts : 0 < share.parts
  pub tokens : most_tokens * most_attempts item ≤ share.amount
  pub reads_room : IsRoomForReads item reads
  pub room : length outcomes.items + most_attempts item ≤ vec_capacity outcomes

-- The control point of a volume is done for the item, as its worker knows, and the last outcome tells what it has come to.
pub record HasControlled (opening : List PartState) (found : Found) (volume : ℕ) (t : Transid) (old new : Reach) (before after : List Outcome) : Type 0 where
  pub told : Told
  pub after_is : after ≡ before ++ outcome_of t told ∷ []
  pub seen : HasSeenMore opening old.seat new.seat
  pub done : HasDoneControl found.config volume t old new told

-- So is the dump of a volume.
pub record HasDumped {D : Type 0} (kind : disk.Ghosts D) (opening : List PartState) (found : Found) (devices : ℕ → Option D) (volume : ℕ) (t : Transid) (old new : Reach) (before after : List Outcome) : Type 0 where
  pub told : Told
  pub after_is : after ≡ before ++ outcome_of t told ∷ []
  pub seen : HasSeenMore opening old.seat new.seat
  pub done : HasDoneDump kind devices found volume t old new told

-- the item's attempts are made, or its control point or its dump is done
abbrev pub HasCarriedOut : {D : Type 0} → disk.Ghosts D → List PartState → Found → (ℕ → Option D) → Transid → Item → Reach → Reach → List Outcome → List Outcome → Type 0
HasCarriedOut kind opening found devices t (TransactionItem transaction) old new before after = HasTried kind opening found.config devices t transaction old new before after
HasCarriedOut kind opening found devices t (Control volume) old new before after = HasControlled opening found volume t old new before after
HasCarriedOut kind opening found devices t (Dump volume) old new before after = HasDumped kind opening found devices volume t old new before after

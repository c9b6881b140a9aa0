-- What a disc hands out to a transaction that has closed there.
use Rattle.std.specs.Prelude.{◌≡◌, ◌≢◌, ◌≤◌, ℕ, List, []}
use Rattle.chronicle.specs.Seats.{Sight, Knows}
use Rattle.tmf_model.specs.Config.{IsDeclared, IsValidConfig}
use Rattle.tmf_model.specs.declared.config.Config.{Config}
use Rattle.tmf_model.specs.declared.transid.Transid.{Transid}
use Rattle.trail_files.specs.declared.audit_record.AuditRecord.{AuditRecord}
use Rattle.trail_files.specs.declared.rules.Rules.{Rules}
use Rattle.node_machine.specs.declared.event.Event.{Event}
use Rattle.node_machine.specs.Node.{node}
use Rattle.node_machine.specs.Opening.{Found}
use Rattle.node_machine.specs.Parts.{Fact, PartState}
use Rattle.node_machine.specs.Parts.Fact.{Closed, Durable}
use Rattle.node_machine.specs.Trail.{trail_of}
use Rattle.audit_writer.specs.Handing.{MayHand, disc_of, last_of}

-- what callers see of it: the note of the disc's seat, the transaction, and the number of the disc's volume
pub record HandoverView : Type 0 where
  pub seat : Sight Event
  pub tx : Transid
  pub disc : ℕ

-- The transaction has closed, with its last change at a position that is not behind the last one, as the note knows. The records may be handed in; and
-- whoever knows what the note knows, and that they are durable, knows the disc's audit to be durable up to the last position. Up to this one the note knows it.
pub record IsHandover (opening : List PartState) (found : Found) (rules : ℕ → Rules) (config : Config) (volume : ℕ) (tx : Transid) (records : List AuditRecord) (last landed : ℕ) (note : Sight Event) : Type 0 where
  pub config_is : config ≡ found.config
  pub valid : IsValidConfig config
  pub declared : IsDeclared config.volumes volume
  pub position : ℕ
  pub closed : Knows node opening note (Closed tx volume position)
  pub within : position ≤ last
  pub may : records ≢ [] → MayHand opening found (rules (trail_of config volume)) (trail_of config volume) note (disc_of records) records
  pub all : (w : Sight Event) → ((f : Fact) → Knows node opening note f → Knows node opening w f) → (records ≢ [] → Knows node opening w (Durable (disc_of records) (last_of records))) → Knows node opening w (Durable volume last)
  pub durable : Knows node opening note (Durable volume landed)

-- What has happened at an audit trail, and what may happen next.
use Rattle.std.specs.Prelude.{◌≡◌, ◌≢◌, ◌⊎◌, ℕ, ◌<◌, ◌≤◌, ◌==◌, if◌then◌else◌, List, [], ◌∷◌, ◌++◌, length, map, filter, Option, Some, None}
use Rattle.std.specs.Option.{option_map_or}
use Rattle.tmf_model.specs.Commits.{numbered}
use Rattle.tmf_model.specs.declared.config.Config.{Config}
use Rattle.trail_files.specs.declared.audit_record.AuditRecord.{AuditRecord}
use Rattle.node_machine.specs.declared.event.TrailEvent.{TrailEvent}
use Rattle.node_machine.specs.declared.event.TrailEvent.TheVariants.{Offer, Land, Purge, Failed}
use Rattle.node_machine.specs.Parts.{Standing, TrailPart, Fact}
use Rattle.node_machine.specs.Parts.Fact.{Made, Durable, Floor}
use Rattle.node_machine.specs.Same.{Among}

-- the records of the batch that is being written; none where there is no such batch
abbrev pub offered : List TrailEvent → List AuditRecord
offered [] = []
offered (Offer file records ∷ events) = records
offered (Land ∷ events) = []
offered (_ ∷ events) = offered events

-- the records that have landed in this run, in order
abbrev pub landed : List TrailEvent → List AuditRecord
landed [] = []
landed (Land ∷ events) = landed events ++ offered events
landed (_ ∷ events) = landed events

-- the trail's last file, from that at the opening
abbrev pub present_file : ℕ → List TrailEvent → ℕ
present_file present [] = present
present_file present (Offer file records ∷ events) = file
present_file present (Purge file last ∷ events) = last
present_file present (_ ∷ events) = present_file present events

-- the records, each in this file
abbrev pub stand_in : ℕ → List AuditRecord → List Standing
stand_in file records = map (λ r. record { file = file; item = r }) records

-- the records of the batch that is being written, in its file
abbrev pub offered_standing : List TrailEvent → List Standing
offered_standing [] = []
offered_standing (Offer file records ∷ events) = stand_in file records
offered_standing (Land ∷ events) = []
offered_standing (_ ∷ events) = offered_standing events

-- the records that have landed in this run, each in its file
abbrev pub landed_standing : List TrailEvent → List Standing
landed_standing [] = []
landed_standing (Land ∷ events) = landed_standing events ++ offered_standing events
landed_standing (_ ∷ events) = landed_standing events

-- the trail of the disc, from 1
abbrev pub trail_of : Config → ℕ → ℕ
trail_of config disc = option_map_or (λ volume. volume.trail) (numbered config.volumes disc) 0

-- of the records those of one disc
abbrev pub records_of : ℕ → List AuditRecord → List AuditRecord
records_of disc records = filter (λ r. r.disc == disc) records

-- the disc's first position of this run, if it is one of these; 0 where it is none
abbrev pub first_of : List (ℕ × ℕ) → ℕ → ℕ
first_of [] disc = 0
first_of (entry ∷ entries) disc = if entry.0 == disc then entry.1 else first_of entries disc

-- no batch is being written, and this one is of records of the trail's discs, in its last file or one behind it
pub record MayOffer (s : TrailPart) (file : ℕ) (records : List AuditRecord) : Type 0 where
  pub idle : offered s.events ≡ []
  pub some : 0 < length records
  pub few : length records ≤ 512
  pub own : (r : AuditRecord) → Among records r → trail_of s.config r.disc ≡ s.number
  pub behind : present_file s.present s.events ≤ file

-- the files to be removed are in front of the last one
pub record MayPurge (s : TrailPart) (file last : ℕ) : Type 0 where
  pub front : file ≤ last
  pub rises : present_file s.present s.events ≤ last

-- which event a trail may have
abbrev pub TrailMay : TrailPart → TrailEvent → Type 0
TrailMay s (Offer file records) = MayOffer s file records
TrailMay s Land = offered s.events ≢ []
TrailMay s (Purge file last) = MayPurge s file last
TrailMay s (Failed by) = Unit {0}

-- the records in files below this one, of those that stood at the opening, that have landed and that are offered
abbrev pub IsBelow : List Standing → List TrailEvent → ℕ → Standing → Type 0
IsBelow old events file x = (Among old x ⊎ (Among (landed_standing events) x ⊎ Among (offered_standing events) x)) × (x.file < file)

-- each record that is removed is below a floor of its disc
abbrev pub PurgeAsks : (Fact → Type 0) → Option (List Standing) → List TrailEvent → ℕ → Type 0
PurgeAsks true_ None events file = Unit {0}
PurgeAsks true_ (Some old) events file = (x : Standing) → IsBelow old events file x → (bound : ℕ) × true_ (Floor x.item.disc bound) × (x.item.position < bound)

-- what an event of a trail asks of the true facts: of each disc that has records in a batch, these are its next ones, in order
abbrev pub TrailAsks : (Fact → Type 0) → TrailPart → TrailEvent → Type 0
TrailAsks true_ s (Offer file records) =
    (disc : ℕ) → records_of disc records ≢ [] → (position : ℕ) × true_ (Made disc position (records_of disc (landed s.events ++ records)))
TrailAsks true_ s (Purge file last) = PurgeAsks true_ s.old s.events file
TrailAsks true_ s _ = Unit {0}

-- a landed record of the disc is at the position or behind it
pub record HasLandedTo (events : List TrailEvent) (disc position : ℕ) : Type 0 where
  pub item : AuditRecord
  pub is_landed : Among (landed events) item
  pub of_disc : item.disc ≡ disc
  pub reaches : position ≤ item.position

-- which facts a trail makes true
abbrev pub TrailMakes : TrailPart → Fact → Type 0
TrailMakes s (Durable disc position) = (trail_of s.config disc ≡ s.number) × ((position < first_of s.firsts disc) ⊎ HasLandedTo s.events disc position)
TrailMakes s _ = ⊥

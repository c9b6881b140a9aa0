-- What stands at the keys of a disc: who holds those of which a change is left, what such changes have left there, and that each block has room.
use Rattle.std.specs.Prelude.{◌≡◌, ◌≤◌, ◌||◌, ℕ, true, false, List, [], ◌∷◌, length, Option, Some, None, is_some}
use Rattle.tmf_model.specs.RecordMap.{RecordMap}
use Rattle.tmf_model.specs.declared.transid.Transid.{Transid}
use Rattle.trail_files.specs.declared.audit_record.AuditRecord.{AuditRecord}
use Rattle.node_machine.specs.Disc.{TakesRoom}
use Rattle.node_machine.specs.Made.{changes_left, has_released, home_block, is_changing, key_holder, map_of, values_after, volume_of}
use Rattle.node_machine.specs.Parts.{DiscPart, Entry}
use Rattle.node_machine.specs.Same.{Among, is_same_key}
use Rattle.node_machine.specs.declared.event.DiscEvent.{DiscEvent}

-- the transaction holds the key of the change, by a change; and there was a value before it, or there is one behind it
pub record IsHeldFor (events : List DiscEvent) (t : Transid) (r : AuditRecord) : Type 0 where
  pub holder : key_holder events r.file r.key ≡ Some t
  pub changing : is_changing events r.file r.key ≡ true
  pub some : (is_some r.before || is_some r.after) ≡ true

-- Of these changes, the newest first, those of the key lead to the value: the newest has left it, and each older one has left what stood before the next.
abbrev pub LeadTo : ℕ → List ℕ → List AuditRecord → Option (List ℕ) → Type 0
LeadTo file key [] value = Unit {0}
LeadTo file key (r ∷ rs) value =
    (is_same_key file key r.file r.key ≡ true → (r.after ≡ value) × LeadTo file key rs r.before) × (is_same_key file key r.file r.key ≡ false → LeadTo file key rs value)

-- the keys of a block that take room are among 62
abbrev pub HasRoomIn : DiscPart → RecordMap → ℕ → ℕ → Type 0
HasRoomIn s values file number =
    (keys : List (List ℕ)) × (length keys ≤ 62) × ((key : List ℕ) → home_block s.config file key ≡ number → TakesRoom values s.events file key → Among keys key)

-- what is so of the values after the events, from these at the opening
pub record HoldsMap (s : DiscPart) (values : RecordMap) : Type 0 where
  pub leads : (t : Transid) (file : ℕ) (key : List ℕ) → has_released s.events t ≡ false → LeadTo file key (changes_left s.events t) (values file key)
  pub room : (file number : ℕ) → volume_of s.config file ≡ s.number → HasRoomIn s values file number

-- where the volume told its values, this is so of those that stand
abbrev pub MapTold : DiscPart → Option (List Entry) → Type 0
MapTold s None = Unit {0}
MapTold s (Some entries) = HoldsMap s (values_after (map_of entries) s.events)

-- each change that is left of a transaction which has not released here is held for it
pub record HoldsKeys (s : DiscPart) : Type 0 where
  pub left : (t : Transid) (r : AuditRecord) → has_released s.events t ≡ false → Among (changes_left s.events t) r → IsHeldFor s.events t r
  pub map_told : MapTold s s.base

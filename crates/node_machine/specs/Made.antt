-- What the events of a disc have made of its records: the audit, the values, the locks, and how far each transaction has come.
use Rattle.std.specs.Prelude.{ℕ, ◌+◌, ◌-◌, ◌==◌, nat_le, Bool, true, false, if◌then◌else◌, List, [], ◌∷◌, ◌++◌, length, drop, filter, Option, Some, None}
use Rattle.std.specs.Option.{option_or, option_map_or}
use Rattle.tmf_model.specs.Commits.{numbered}
use Rattle.tmf_model.specs.Place.{block_of}
use Rattle.tmf_model.specs.RecordMap.{RecordMap, empty_map, with_value}
use Rattle.tmf_model.specs.declared.config.Config.{Config}
use Rattle.tmf_model.specs.declared.transid.Transid.{Transid}
use Rattle.trail_files.specs.MonitorOrder.{is_same_transid}
use Rattle.trail_files.specs.Recovered.{records_on, after_last_of}
use Rattle.trail_files.specs.declared.audit_record.AuditRecord.{AuditRecord}
use Rattle.node_machine.specs.declared.event.Cause.TheVariants.{Full, Refused}
use Rattle.node_machine.specs.declared.event.DiscEvent.{DiscEvent}
use Rattle.node_machine.specs.declared.event.DiscEvent.TheVariants.{Write, Read, Lock, Turn, Undo, Close, Release, Draw, Drawn, Low, Lowered, Start, Raise}
use Rattle.node_machine.specs.Parts.{Entry, DumpStart, DiscPart}
use Rattle.node_machine.specs.Same.{is_same_key, is_same_block}

-- THE AUDIT

-- the audit records of this run, in order
abbrev pub made : List DiscEvent → List AuditRecord
made [] = []
made (Write r op ∷ events) = made events ++ r ∷ []
made (Undo r ∷ events) = made events ++ r ∷ []
made (_ ∷ events) = made events

-- those up to a position
abbrev pub up_to : ℕ → List AuditRecord → List AuditRecord
up_to position records = filter (λ r. nat_le r.position position) records

-- the position of the next record
abbrev pub next_position : DiscPart → ℕ
next_position s = s.first + length (made s.events)

-- the position of the last record before this run
abbrev pub position_before : DiscPart → ℕ
position_before s = s.first - 1

-- the changes of a transaction that are not undone, the newest first
abbrev pub changes_left : List DiscEvent → Transid → List AuditRecord
changes_left [] t = []
changes_left (Write r op ∷ events) t = if is_same_transid r.tx t then r ∷ changes_left events t else changes_left events t
changes_left (Undo r ∷ events) t = if is_same_transid r.tx t then drop 1 (changes_left events t) else changes_left events t
changes_left (_ ∷ events) t = changes_left events t

-- the position of a transaction's last change, or 0
abbrev pub last_write : List DiscEvent → Transid → ℕ
last_write [] t = 0
last_write (Write r op ∷ events) t = if is_same_transid r.tx t then r.position else last_write events t
last_write (_ ∷ events) t = last_write events t

-- HOW FAR A TRANSACTION HAS COME HERE

abbrev pub has_closed : List DiscEvent → Transid → Bool
has_closed [] t = false
has_closed (Close u ∷ events) t = if is_same_transid u t then true else has_closed events t
has_closed (_ ∷ events) t = has_closed events t

-- a change of it was undone
abbrev pub has_undone : List DiscEvent → Transid → Bool
has_undone [] t = false
has_undone (Undo r ∷ events) t = if is_same_transid r.tx t then true else has_undone events t
has_undone (_ ∷ events) t = has_undone events t

abbrev pub has_released : List DiscEvent → Transid → Bool
has_released [] t = false
has_released (Release u ∷ events) t = if is_same_transid u t then true else has_released events t
has_released (_ ∷ events) t = has_released events t

-- VALUES

-- the map of these records
abbrev pub map_of : List Entry → RecordMap
map_of [] = empty_map
map_of (entry ∷ entries) = with_value entry.file entry.key (Some entry.value) (map_of entries)

-- the values after the changes and what was undone of them, from those at the opening
abbrev pub values_after : RecordMap → List DiscEvent → RecordMap
values_after base [] = base
values_after base (Write r op ∷ events) = with_value r.file r.key r.after (values_after base events)
values_after base (Undo r ∷ events) = with_value r.file r.key r.after (values_after base events)
values_after base (_ ∷ events) = values_after base events

-- the values after the records up to a position
abbrev pub values_at : RecordMap → List DiscEvent → ℕ → RecordMap
values_at base events position = λ file key. after_last_of (records_on file key (up_to position (made events))) (base file key)

-- LOCKS

-- nobody, where the holder was this one
abbrev pub freed : Transid → Option Transid → Option Transid
freed t None = None
freed t (Some holder) = if is_same_transid t holder then None else Some holder

-- who holds the file as a whole
abbrev pub file_holder : List DiscEvent → ℕ → Option Transid
file_holder [] file = None
file_holder (Lock t locked ∷ events) file = if file == locked then Some t else file_holder events file
file_holder (Release t ∷ events) file = freed t (file_holder events file)
file_holder (_ ∷ events) file = file_holder events file

-- who holds the key by a step on it
abbrev pub key_holder : List DiscEvent → ℕ → List ℕ → Option Transid
key_holder [] file key = None
key_holder (Write r op ∷ events) file key = if is_same_key file key r.file r.key then Some r.tx else key_holder events file key
key_holder (Read t f k value ∷ events) file key = if is_same_key file key f k then Some t else key_holder events file key
key_holder (Turn t (Full step) ∷ events) file key = if is_same_key file key step.file step.key then Some t else key_holder events file key
key_holder (Turn t (Refused step reason) ∷ events) file key = if is_same_key file key step.file step.key then Some t else key_holder events file key
key_holder (Release t ∷ events) file key = freed t (key_holder events file key)
key_holder (_ ∷ events) file key = key_holder events file key

-- who holds the key: the holder of its file, where there is one
abbrev pub holder : List DiscEvent → ℕ → List ℕ → Option Transid
holder events file key = option_or (file_holder events file) (key_holder events file key)

-- whether it is so, unless its holder was this one
abbrev pub kept_from : Transid → Option Transid → Bool → Bool
kept_from t None is = is
kept_from t (Some holder) is = if is_same_transid t holder then false else is

-- whether the key is held by a change
abbrev pub is_changing : List DiscEvent → ℕ → List ℕ → Bool
is_changing [] file key = false
is_changing (Write r op ∷ events) file key = if is_same_key file key r.file r.key then true else is_changing events file key
is_changing (Release t ∷ events) file key = kept_from t (key_holder events file key) (is_changing events file key)
is_changing (_ ∷ events) file key = is_changing events file key

-- BLOCKS

-- how many blocks the file has
abbrev pub blocks_of : Config → ℕ → ℕ
blocks_of config file = option_map_or (λ line. line.blocks) (numbered config.files file) 0

-- the volume of the file, from 1
abbrev pub volume_of : Config → ℕ → ℕ
volume_of config file = option_map_or (λ line. line.volume) (numbered config.files file) 0

-- the block of the key in its file
abbrev pub home_block : Config → ℕ → List ℕ → ℕ
home_block config file key = block_of key (blocks_of config file)

-- whether the record is in the block
abbrev pub is_in_block : Config → ℕ → ℕ → AuditRecord → Bool
is_in_block config file block r = is_same_block file block r.file (home_block config r.file r.key)

-- the newer one, where there is one
abbrev pub or_newer : ℕ → Option ℕ → ℕ
or_newer position None = position
or_newer position (Some newer) = newer

-- the position behind which a block is being written
abbrev pub drawing : List DiscEvent → ℕ → ℕ → Option ℕ
drawing [] file block = None
drawing (Draw f b position ∷ events) file block = if is_same_block file block f b then Some position else drawing events file block
drawing (Drawn f b ∷ events) file block = if is_same_block file block f b then None else drawing events file block
drawing (_ ∷ events) file block = drawing events file block

-- the position behind which it was written last; `before` is that of the opening
abbrev pub drawn : ℕ → List DiscEvent → ℕ → ℕ → ℕ
drawn before [] file block = before
drawn before (Drawn f b ∷ events) file block = if is_same_block file block f b then or_newer (drawn before events f b) (drawing events f b) else drawn before events file block
drawn before (_ ∷ events) file block = drawn before events file block

-- LOW POSITION AND DUMPS

-- the low position that is being written
abbrev pub lowering : List DiscEvent → Option ℕ
lowering [] = None
lowering (Low position by ∷ events) = Some position
lowering (Lowered ∷ events) = None
lowering (_ ∷ events) = lowering events

-- the low position that was written last, from that at the opening
abbrev pub lowered : ℕ → List DiscEvent → ℕ
lowered low [] = low
lowered low (Lowered ∷ events) = or_newer (lowered low events) (lowering events)
lowered low (_ ∷ events) = lowered low events

-- how many dumps have begun
abbrev pub dumps_begun : List DiscEvent → ℕ
dumps_begun [] = 0
dumps_begun (Start number start item ∷ events) = dumps_begun events + 1
dumps_begun (_ ∷ events) = dumps_begun events

-- those dumps, the newest first
abbrev pub starts : List DiscEvent → List DumpStart
starts [] = []
starts (Start number start item ∷ events) = record { number = number; start = start } ∷ starts events
starts (_ ∷ events) = starts events

-- the dump under way
abbrev pub under_way : List DiscEvent → Option DumpStart
under_way [] = None
under_way (Start number start item ∷ events) = Some (record { number = number; start = start })
under_way (Raise number rest ∷ events) = None
under_way (_ ∷ events) = under_way events

-- the start of the dump that the disc counts on, from that at the opening
abbrev pub rest_start : Option ℕ → List DiscEvent → Option ℕ
rest_start rest [] = rest
rest_start rest (Raise number new ∷ events) = new
rest_start rest (_ ∷ events) = rest_start rest events

-- The list of the monitor trail, where its device tells what it holds: it stands in a proof alone.
use Rattle.std.specs.Prelude.{◌≡◌, ℕ, Bool, true, false, List, [], Option, Some, None, refl}
use Rattle.std.specs.Coded.{Coded, code_by, coded×, coded_ℕ, coded_bool, coded_list}
use Rattle.disk_model.specs.Held.{Held}
use Rattle.node_machine.specs.Only.{TheOnly, only_prop}
use Rattle.run_opening.specs.Codes.{transid_code}
use Rattle.run_opening.specs.declared.opening.Opened.{Opened}
use Rattle.tmf_model.specs.declared.transid.Transid.{Transid}
use Rattle.trail_files.specs.MonitorRecord.{monitor_format}
use Rattle.trail_files.specs.Text.{Spells}
use Rattle.trail_files.specs.declared.monitor_record.MonitorRecord.{MonitorRecord}
use Rattle.trail_files.specs.declared.monitor_record.MonitorRecord.TheVariants.{Start, Commit, Abort}

-- how a record is stored in a proof: whether it is a start, whether it is a commit, and its numbers
abbrev pub Fields : Type 0
Fields = Bool × (Bool × (ℕ × Transid))

abbrev pub no_transid : Transid
no_transid = record { epoch = 0; worker = 0; ordinal = 0; attempt = 0 }

abbrev pub fields_of : MonitorRecord → Fields
fields_of (Start epoch) = (true, (false, (epoch, no_transid)))
fields_of (Commit t) = (false, (true, (0, t)))
fields_of (Abort t) = (false, (false, (0, t)))

abbrev pub ending_of : Bool → Transid → MonitorRecord
ending_of true t = Commit t
ending_of false t = Abort t

abbrev pub record_by : Bool → Bool → ℕ → Transid → MonitorRecord
record_by true commits epoch t = Start epoch
record_by false commits epoch t = ending_of commits t

abbrev pub record_of : Fields → MonitorRecord
record_of f = record_by f.0 f.1.0 f.1.1.0 f.1.1.1

pub record_back : (item : MonitorRecord) → record_of (fields_of item) ≡ item
record_back (Start epoch) = refl
record_back (Commit t) = refl
record_back (Abort t) = refl

abbrev pub list_code : Coded (List MonitorRecord)
list_code = coded_list (code_by Fields (coded× coded_bool (coded× coded_bool (coded× coded_ℕ transid_code))) fields_of record_of record_back)

-- the device spells this list, and no other
abbrev pub IsSpelledAlone : Held → List MonitorRecord → Type 0
IsSpelledAlone held list = Spells monitor_format held list × ((other : List MonitorRecord) → Spells monitor_format held other → list ≡ other)

-- there is such a list of what the device told, if it told something
abbrev pub Listing : Option Held → Type 0
Listing None = Unit {0}
Listing (Some held) = TheOnly (IsSpelledAlone held)

pub listing_prop : (told : Option Held) → IsProp (Listing told)
listing_prop None = λ a b. refl
listing_prop (Some held) = only_prop list_code (IsSpelledAlone held) (λ one other is are. is.1 other are.0)

-- it, or none where the device told nothing
abbrev pub list_of : (told : Option Held) → Listing told → List MonitorRecord
list_of None listed = []
list_of (Some held) listed = listed.0

-- what callers see of devices that were opened
pub record ReadyView (D : Type 0) : Type 0 where
  pub opened : Opened D
  pub list : List MonitorRecord

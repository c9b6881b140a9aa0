-- What may be kept of a device, what may be told of one that is refused, and what was found: in a node of one trail and one volume.
use Rattle.std.proofs.Common.{◌≡◌, ℕ, zero, suc, ◌+◌, true, false, List, [], ◌∷◌, Option, Some, None, codes, refl, arith, inl, inr, ⊎_elim}
use Rattle.std.specs.Prelude.{is_some}
use Rattle.disk_model.specs.Held.{Held}
use Rattle.disk_model.specs.declared.disk.Disk as disk
use Rattle.node_machine.specs.Opening.{Found, VolumeFound, found_volume}
use Rattle.node_machine.specs.Parts.{Entry}
use Rattle.tmf_model.specs.declared.config.Config.{Config}
use Rattle.tmf_model.specs.declared.script.Item.{Item}
use Rattle.tmf_model.specs.declared.script.Item.TheVariants.{Transaction as TransactionItem, Control, Dump}
use Rattle.tmf_model.specs.declared.script.Close.TheVariants.{Commit}
use Rattle.tmf_model.specs.declared.script.Op.TheVariants.{Read}
use Rattle.trail_files.specs.declared.audit_record.AuditKind.TheVariants.{Change}
use Rattle.trail_files.specs.declared.audit_record.AuditRecord.{AuditRecord}
use Rattle.trail_files.specs.declared.damage.DamageKind.TheVariants.{BadLabel}
use Rattle.trail_files.specs.declared.damage.TrailFault.TheVariants as fault
use Rattle.run_outcomes.specs.Attaching.{misfit}
use Rattle.run_outcomes.specs.Devices.{told_by}
use Rattle.run_opening.specs.Found.{AreBased, standings}
use Rattle.run_opening.specs.Kept.{IsVolumeKept}
use Rattle.run_opening.specs.Lasts.{IsNextFor, with_next}
use Rattle.run_opening.specs.Named.{is_named}
use Rattle.run_opening.specs.Opening.{IsKept}
use Rattle.run_opening.specs.Refusal.{IsOf, TellsAt, refusal_by}
use Rattle.run_opening.specs.declared.kept.Kept.TheVariants.{Idle}
use Rattle.volume_restore.proofs.Takings.{later-itself}

-- THE NODE

-- one trail; one volume, with file 1; and file 2 on a second volume
abbrev pub config : Config
config = record {
  trails = codes "A" ∷ [];
  volumes = record { name = codes "$D"; trail = 1 } ∷ record { name = codes "$E"; trail = 1 } ∷ [];
  files = record { name = codes "F"; volume = 1; blocks = 1 } ∷ record { name = codes "G"; volume = 2; blocks = 1 } ∷ [];
  cache = 64;
  car_count = 64;
  car_holds = 0;
  roll = 256;
  steps = 1000;
}

-- a device is what it holds, if it tells that
abbrev pub Device : Type 0
Device = Option Held

abbrev pub held_in : Device → Held
held_in None = λ n. None
held_in (Some held) = held

abbrev pub kind : disk.Ghosts Device
kind = record { tells = λ d. is_some d; held = held_in; faults = λ d. 0; is_same = λ a b. Unit {0} }

abbrev pub empty : Device
empty = Some (λ n. None)

-- WHICH VOLUMES A RUN NAMES

abbrev reading : ℕ → Item
reading file = TransactionItem (record { attempts = 1; steps = record { file = file; key = codes "k"; op = Read } ∷ []; close = Commit })

by_its_step : is_named config 1 (record { kill = None; workers = [] ∷ (reading 1 ∷ []) ∷ [] }) ≡ true
by_its_step = refl

by_another : is_named config 1 (record { kill = None; workers = (reading 2 ∷ Control 2 ∷ []) ∷ [] }) ≡ false
by_another = refl

by_its_dump : is_named config 2 (record { kill = None; workers = (reading 1 ∷ Dump 2 ∷ []) ∷ [] }) ≡ true
by_its_dump = refl

-- A VOLUME THAT IS LOST

same_device : (x : Device) → kind.is_same x x
same_device x = tt

-- it is kept alone where the run does not name it
kept_alone : IsVolumeKept kind config 1 false empty (Idle empty)
kept_alone = ((record { is_later = later-itself kind empty same_device; same = refl }, (λ tells file there. absurd (cc))), refl)

-- and may not be where the run does, also over a device that tells nothing
kept_though_named : IsVolumeKept kind config 1 true None (Idle None) → ⊥
kept_though_named is = (let both : true ≡ false = is.1 in cc)

abbrev fifth_is_idle : List ℕ → Type 0
fifth_is_idle named = IsKept kind config 1 named 5 None (Idle None)

idle_though_named : fifth_is_idle (2 ∷ 1 ∷ []) → ⊥
idle_though_named is =
    ⊎_elim
    (λ alone. ⊎_elim (λ out. out.volume 1 (record { name = codes "$D"; trail = 1 }) (omega arith, refl) refl) (λ dump. (let place = dump.2 in omega (arith, place))) alone.0)
    (λ lost. (let at : 5 ≡ 4 + lost.0 = lost.2 in let one : 1 ≡ lost.0 = omega (arith, at) in lost.4 (inr (inl one)))) is

-- WHAT IS TOLD OF A DEVICE

told_of_it : TellsAt 5 (λ damage. damage ≡ misfit BadLabel) (refusal_by 5 (fault.Damaged (misfit BadLabel)))
told_of_it = (refl, refl)

-- not of another
told_of_another : TellsAt 5 (λ damage. damage ≡ misfit BadLabel) (refusal_by 6 (fault.Damaged (misfit BadLabel))) → ⊥
told_of_another is = (let other : 6 ≡ 5 = is.0 in omega (arith, other))

failed_of_another : IsOf 5 (refusal_by 6 fault.Failed) → ⊥
failed_of_another is = omega (arith, is)

-- THE POSITION THAT A DISC GIVES OUT NEXT

abbrev change : ℕ → ℕ → AuditRecord
change disc position = record {
  kind = Change;
  disc = disc;
  file = disc;
  tx = record { epoch = 1; worker = 1; ordinal = 1; attempt = 1 };
  position = position;
  key = codes "k";
  before = None;
  after = Some (codes "v");
}

-- it follows the disc's last record, and is the low one where there is none
behind_last : IsNextFor 1 4 (change 1 5 ∷ change 1 6 ∷ change 2 9 ∷ []) 7
behind_last least small = refl

before_any : IsNextFor 1 4 (change 2 9 ∷ []) 0
before_any least small = refl

behind_first : IsNextFor 1 4 (change 1 5 ∷ change 1 6 ∷ []) 6 → ⊥
behind_first is = (let same : 6 ≡ 7 = is (omega arith) (omega arith) in omega (arith, same))

of_the_other : IsNextFor 1 4 (change 1 5 ∷ change 2 9 ∷ []) 10 → ⊥
of_the_other is = (let same : 10 ≡ 6 = is (omega arith) (omega arith) in omega (arith, same))

-- of another disc the position stays
other_stays : with_next 2 10 (λ disc. 3) 1 ≡ 3
other_stays = refl

-- WHAT WAS FOUND

-- each record with its file
in_files : standings ((1, change 1 5) ∷ (2, change 1 6) ∷ []) ≡ record { file = 1; item = change 1 5 } ∷ record { file = 2; item = change 1 6 } ∷ []
in_files = refl

-- of the two volumes the first was found, or lost, with these records, if any
abbrev found_first : Option (Option (List Entry)) → Found
found_first None = record { config = config; epoch = 1; places = 1; trails = []; volumes = None ∷ None ∷ [] }
found_first (Some base) = record { config = config; epoch = 1; places = 1; trails = []; volumes = Some (record { low = 4; next = 4; rest = None; base = base }) ∷ None ∷ [] }

abbrev devices : List Device
devices = empty ∷ empty ∷ None ∷ None ∷ None ∷ empty ∷ []

-- a volume that told that it has no label was lost, and not found
lost_is_based : AreBased config (told_by kind devices) (found_first None)
lost_is_based = record { declared = λ number entry is. absurd (none_found number entry is); based = λ number entry base is told. absurd (none_found number entry is) } where
  none_found : (number : ℕ) (entry : VolumeFound) → found_volume (found_first None) number ≡ Some entry → ⊥
  none_found zero entry is = cc
  none_found (suc zero) entry is = cc
  none_found (suc (suc zero)) entry is = cc
  none_found (suc (suc (suc n))) entry is = cc

found_though_lost : AreBased config (told_by kind devices) (found_first (Some (Some []))) → ⊥
found_though_lost are =
    let based = are.based 1 (record { low = 4; next = 4; rest = None; base = Some [] }) None refl ((λ n. None), refl, ((λ file there. absurd (cc)), record { label_file = λ file there. absurd (cc); files = λ number some file there. absurd (cc) })) in
    let none : false ≡ true = based.0 in cc

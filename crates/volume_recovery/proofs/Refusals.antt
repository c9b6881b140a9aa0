-- What a damaged device is to a recovery: the first is told.
use Rattle.std.proofs.Common.{zero, suc, ◌≡◌, ◌≤◌, ◌<◌, ℕ, List, refl, sym, subst, arith, ⊎_elim}
use Rattle.std.specs.Prelude.{length}
use Rattle.std.proofs.lemmas.Bool.Decides.{leb_tells}
use Rattle.disk_model.specs.Held.{Held}
use Rattle.tmf_model.specs.declared.config.Config.{Config}
use Rattle.trail_files.specs.declared.damage.Damage.{Damage}
use Rattle.trail_files.specs.declared.damage.TrailFault.{TrailFault}
use Rattle.trail_files.specs.declared.damage.TrailFault.TheVariants as fault
use Rattle.trail_files.specs.declared.monitor_record.MonitorRecord.{MonitorRecord}
use Rattle.trail_files.specs.Fault.{IsUndamaged}
use Rattle.trail_files.specs.MonitorRecord.{monitor_format}
use Rattle.trail_files.specs.Scanned.{TellsOnly}
use Rattle.trail_files.specs.Text.{Spells}
use Rattle.trail_replay.specs.Texts.{NodeSpells, IsNodeDamage, IsFirstDamage}
use Rattle.trail_replay.specs.Texts.{SpellsAudit, IsMonitorDamage, IsAuditDamage}
use Rattle.volume_recovery.specs.Recovery.{IsRefusal, TellsDamage}
use Rattle.volume_recovery.specs.Stop.{recover_error}
use Rattle.volume_recovery.specs.VolumeLoop.{IsPlain}
use Rattle.volume_recovery.specs.declared.errors.RecoverError.{RecoverError}
use Rattle.volume_recovery.specs.declared.errors.RecoverError.TheVariants.{Failed, Damaged, EpochsSpent, NoMemory}

pub node-audit : (config : Config) (images : ℕ → Held) (n : ℕ) (damage : Damage) → 0 < n → IsNodeDamage config images n damage → IsAuditDamage config n (images n) damage
node-audit config images zero damage some is = absurd (omega (arith, some))
node-audit config images (suc n) damage some is = is

audit-node : (config : Config) (images : ℕ → Held) (n : ℕ) (damage : Damage) → 0 < n → IsAuditDamage config n (images n) damage → IsNodeDamage config images n damage
audit-node config images zero damage some is = absurd (omega (arith, some))
audit-node config images (suc n) damage some is = is

node-spells : (config : Config) (images : ℕ → Held) (n : ℕ) → 0 < n → NodeSpells config images n → SpellsAudit config n (images n)
node-spells config images zero some is = absurd (omega (arith, some))
node-spells config images (suc n) some is = is

each-spells : (config : Config) (images : ℕ → Held) (last : ℕ) (list : List MonitorRecord) → Spells monitor_format (images 0) list
    → ((m : ℕ) → 1 ≤ m → m < last → SpellsAudit config m (images m)) → (n : ℕ) → n < last → NodeSpells config images n
each-spells config images last list monitor each zero lt = (list, monitor)
each-spells config images last list monitor each (suc n) lt = each (suc n) (omega arith) lt

-- a refusal of the monitor trail tells its damage
pub refusal-monitor : (config : Config) (images : ℕ → Held) (it : TrailFault) → TellsOnly (IsMonitorDamage (images 0)) it → IsRefusal config images (recover_error 0 it)
refusal-monitor config images fault.Failed tells = tt
refusal-monitor config images fault.NoMemory tells = tt
refusal-monitor config images (fault.Damaged damage) tells = record { is_trail = omega arith; before = λ n lt. absurd (omega (arith, lt)); here = tells damage refl }

-- and so does that of another, where those before it are fine
pub refusal-trail : (config : Config) (images : ℕ → Held) (n : ℕ) (list : List MonitorRecord) → 0 < n → n ≤ length config.trails → Spells monitor_format (images 0) list
    → ((m : ℕ) → 1 ≤ m → m < n → SpellsAudit config m (images m)) → (it : TrailFault) → TellsOnly (IsAuditDamage config n (images n)) it → IsRefusal config images (recover_error n it)
refusal-trail config images n list some le monitor each fault.Failed tells = tt
refusal-trail config images n list some le monitor each fault.NoMemory tells = tt
refusal-trail config images n list some le monitor each (fault.Damaged damage) tells =
    record { is_trail = le; before = each-spells config images n list monitor each; here = audit-node config images n damage some (tells damage refl) }

-- where the monitor trail is fine, the first damage is another's
pub first-behind : (config : Config) (images : ℕ → Held) (device : ℕ) (damage : Damage) → IsFirstDamage config images device damage → ((d : Damage) → IsMonitorDamage (images 0) d → ⊥) → 0 < device
first-behind config images zero damage first fine = absurd (fine damage first.here)
first-behind config images (suc n) damage first fine = omega arith

told-here : (device : ℕ) (damage : Damage) (it : TrailFault) → TellsOnly (λ told. told ≡ damage) it → TellsDamage device damage (recover_error device it)
told-here device damage fault.Failed only = tt
told-here device damage fault.NoMemory only = tt
told-here device damage (fault.Damaged d) only = (refl, only d refl)

told-none : (n device : ℕ) (damage : Damage) (it : TrailFault) → IsUndamaged it → TellsDamage device damage (recover_error n it)
told-none n device damage fault.Failed fine = tt
told-none n device damage fault.NoMemory fine = tt
told-none n device damage (fault.Damaged d) fine = absurd (fine d refl)

-- what the monitor trail's refusal tells of the first damage
pub first-monitor : (config : Config) (images : ℕ → Held) (device : ℕ) (damage : Damage) (it : TrailFault) → IsFirstDamage config images device damage
    → ((d : Damage) → IsMonitorDamage (images 0) d → TellsOnly (λ told. told ≡ d) it) → ((list : List MonitorRecord) → Spells monitor_format (images 0) list → IsUndamaged it)
    → TellsDamage device damage (recover_error 0 it)
first-monitor config images zero damage it first only fine = told-here 0 damage it (only damage first.here)
first-monitor config images (suc n) damage it first only fine =
    let monitor = first.before 0 (omega arith) in told-none 0 (suc n) damage it (fine monitor.0 monitor.1)

-- and that of another trail, where the damage is at it or behind it
pub first-trail : (config : Config) (images : ℕ → Held) (n device : ℕ) (damage : Damage) (it : TrailFault) → 0 < n → n ≤ device → IsFirstDamage config images device damage
    → ((d : Damage) → IsAuditDamage config n (images n) d → TellsOnly (λ told. told ≡ d) it) → (SpellsAudit config n (images n) → IsUndamaged it)
    → TellsDamage device damage (recover_error n it)
first-trail config images n device damage it some le first only fine =
    ⊎_elim
    (λ most. let same : n ≡ device = omega (arith, le, most.1) in
    subst (λ m. TellsDamage device damage (recover_error m it)) (sym same)
    (told-here device damage it
    (subst (λ m. (d : Damage) → IsAuditDamage config m (images m) d → TellsOnly (λ told. told ≡ d) it) same only damage (node-audit config images device damage (omega arith) first.here))))
    (λ more. told-none n device damage it (fine (node-spells config images n some (first.before n more.1))))
    (leb_tells device n)

-- a fault of a trail that is spelled tells neither damage nor that no epoch is left
pub plain-undamaged : (n : ℕ) (it : TrailFault) → IsUndamaged it → IsPlain (recover_error n it)
plain-undamaged n fault.Failed fine = tt
plain-undamaged n fault.NoMemory fine = tt
plain-undamaged n (fault.Damaged damage) fine = absurd (fine damage refl)

pub refusal-plain : (config : Config) (images : ℕ → Held) (e : RecoverError) → IsPlain e → IsRefusal config images e
refusal-plain config images (Failed number) plain = tt
refusal-plain config images (Damaged number damage) plain = absurd plain
refusal-plain config images EpochsSpent plain = absurd plain
refusal-plain config images NoMemory plain = tt

-- What holds of a disc's device, behind an event, a meeting or a call.
use Rattle.std.proofs.Common.{◌≡◌, ℕ, ◌+◌, ◌-◌, ◌^◌, ◌<◌, ◌≤◌, List, ◌∷◌, Option, Some, None, Result, Ok, Err, OnErr, refl, sym, ◌∙◌, subst, arith}
use Rattle.disk_model.specs.declared.disk.Disk as disk
use Rattle.disk_model.specs.Frame.{IsLater}
use Rattle.disk_model.specs.Held.{Rose}
use Rattle.tmf_model.specs.declared.script.Step.{Step}
use Rattle.tmf_model.specs.declared.transid.Transid.{Transid}
use Rattle.node_machine.specs.declared.event.By.{By}
use Rattle.node_machine.specs.declared.event.DiscEvent.{DiscEvent}
use Rattle.node_machine.specs.declared.event.DiscEvent.TheVariants as did
use Rattle.node_machine.specs.Parts.{DiscPart}
use Rattle.audit_writer.specs.Writer.{IsHandedIn}
use Rattle.std.specs.Prelude.{IfErr}
use Rattle.block_cache.specs.Damage.{BlockCause}
use Rattle.block_cache.specs.declared.fault.BlockFault.{BlockFault}
use Rattle.block_cache.specs.declared.fault.BlockFault.TheVariants as fault
use Rattle.disc_process.specs.declared.found.Found.{Found}
use Rattle.disc_process.specs.declared.found.Found.TheVariants as found
use Rattle.disc_process.specs.Device.{HoldsDevice, IsRise, IsUntold, failures}
use Rattle.disc_process.specs.Disc.{hold_event}
use Rattle.disc_process.specs.Release.{with_event}

handed_on : {D : Type 0} (kind : disk.Ghosts D) → ((a b c : D) → kind.is_same a b → kind.is_same b c → kind.is_same a c) → (given : Option D) (old new : D) → IsHandedIn kind given old → IsLater kind old new → IsHandedIn kind given new
handed_on kind on None old new is later = is
handed_on kind on (Some given) old new is later = record { device = on given old new is.device later.device; tells = later.tells ∙ is.tells; later = (let a = is.later in let b = later.later in omega (arith, a, b)) }

rise_same : (first old new : ℕ) (events : List DiscEvent) → IsRise first old events → old ≤ new → IsRise first new events
rise_same first old new events is later small =
    let before = is (omega (arith, later, small)) in
    omega (arith, before, later)

-- a call that failed is not told yet
pub untold_failure : (first old new : ℕ) (events : List DiscEvent) → IsRise first old events → old ≤ new → Rose old new → IsUntold first new events
untold_failure first old new events is later rose small =
    let low : old < 2 ^ 64 - 1 = omega (arith, later, small) in
    let before = is low in
    let more = rose low in
    omega (arith, before, more)

-- nor is a block that was not read
pub unread_untold : {A : Type 0} (r : Result A BlockFault) (first old new : ℕ) (events : List DiscEvent) → IfErr r (BlockCause old new) → old ≤ new → IsRise first old events → IfErr r (λ (x : BlockFault). x ≡ fault.Failed → IsUntold first new events)
unread_untold (Ok x) first old new events cause later is = tt
unread_untold (Err fault.Failed) first old new events cause later is = λ same. untold_failure first old new events is later cause
unread_untold (Err (fault.Damaged d)) first old new events cause later is = λ same. absurd (cc (same))
unread_untold (Err fault.NoMemory) first old new events cause later is = absurd cause

-- the event of a step that holds its key tells no failure
pub hold_fails : (t : Transid) (step : Step) (what : Found) (events : List DiscEvent) → failures (hold_event t step what ∷ events) ≡ failures events
hold_fails t step (found.Value value) events = refl
hold_fails t step (found.Refused reason) events = refl
hold_fails t step found.Full events = refl
hold_fails t step (found.Change before after) events = refl
hold_fails t step found.Crowded events = refl

-- what is so in any case is so of an error
pub on_err : {A E : Type 0} (r : Result A E) (P : Type 0) → P → OnErr r P
on_err (Ok x) P p = tt
on_err (Err e) P p = p

module _ {D : Type 0} (kind : disk.Ghosts D) (given : Option D) (first : ℕ) where
  -- a part that has had no more
  pub device_same : (device : D) (s t : DiscPart) → t ≡ s → HoldsDevice kind given first device s.events → HoldsDevice kind given first device t.events
  device_same device s t same h = subst (λ (x : DiscPart). HoldsDevice kind given first device x.events) (sym same) h

  -- an event that tells no failure
  pub device_left : (device : D) (s t : DiscPart) (e : DiscEvent) → t ≡ with_event s e → failures (e ∷ s.events) ≡ failures s.events → HoldsDevice kind given first device s.events → HoldsDevice kind given first device t.events
  device_left device s t e is none h =
      subst (λ (x : DiscPart). HoldsDevice kind given first device x.events) (sym is)
      (record { handed = h.handed; rise = subst (λ (n : ℕ). kind.faults device < 2 ^ 64 - 1 → first + n ≤ kind.faults device) (sym none) h.rise })

  -- an event that tells one
  pub device_failed : (device : D) (s t : DiscPart) (by : By) → t ≡ with_event s (did.Failed by) → IsUntold first (kind.faults device) s.events → HoldsDevice kind given first device s.events → HoldsDevice kind given first device t.events
  device_failed device s t by is untold h =
      subst (λ (x : DiscPart). HoldsDevice kind given first device x.events) (sym is)
      (record { handed = h.handed; rise = λ small. (let one = untold small in omega (arith, one)) })

  -- a call of the device
  pub device_later : ((a b c : D) → kind.is_same a b → kind.is_same b c → kind.is_same a c) → (old new : D) (events : List DiscEvent) → IsLater kind old new → HoldsDevice kind given first old events → HoldsDevice kind given first new events
  device_later on old new events later h = record { handed = handed_on kind on given old new h.handed later; rise = rise_same first (kind.faults old) (kind.faults new) events h.rise later.later }

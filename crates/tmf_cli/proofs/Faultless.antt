-- Where a call of a device has failed in a run, its count of faults rose over the action.
use Rattle.std.specs.Prelude.{cond, filter, slice_get, ◌^◌, ◌==◌}
use Rattle.std.proofs.Common.{suc, true, false, ◌≡◌, ◌≤◌, ◌+◌, ◌-◌, ◌∷◌, [], ℕ, Bool, List, length, Option, Some, None, refl, sym, ap, subst, ◌∙◌, inl, inr, ⊎_elim, arith}
use Rattle.std.proofs.lemmas.Bool.{eq-eqb}
use Rattle.std.proofs.lemmas.Bool.Decides.{leb_tells}
use Rattle.chronicle.specs.Histories.{events_of}
use Rattle.disk_model.specs.Devices.{EachFuse, FuseAs, NoneFalls, RoseAt}
use Rattle.disk_model.specs.Fuse.{cuts_of, device_of, fuse_faults}
use Rattle.disk_model.specs.Held.{Rose}
use Rattle.disk_model.specs.declared.fuse.Fuse.{Fuse}
use Rattle.node_machine.specs.Deeds.{HasFailedFor, Log}
use Rattle.node_machine.specs.Same.{Among}
use Rattle.node_machine.specs.declared.event.By.{By}
use Rattle.node_machine.specs.declared.event.DiscEvent.TheVariants.{Failed as DiscFailed}
use Rattle.node_machine.specs.declared.event.DumpEvent.TheVariants.{Failed as DumpFailed}
use Rattle.node_machine.specs.declared.event.Event.{Event}
use Rattle.node_machine.specs.declared.event.Event.TheVariants.{OfDisc, OfDump, OfMonitor, OfTrail}
use Rattle.node_machine.specs.declared.event.MonitorEvent.TheVariants.{Failed as MonitorFailed}
use Rattle.node_machine.specs.declared.event.TrailEvent.TheVariants.{Failed as TrailFailed}
use Rattle.run_outcomes.specs.Ends.{is_failure, times_failed}
use Rattle.run_outcomes.specs.Run.{RoseBy}
use Rattle.tmf_cli.specs.Countdown.{IsSwitched, Switches}

-- A FAILED CALL IS COUNTED

counted : (here : Bool) (e : Event) (events : List Event) → here ≡ true → is_failure e ≡ true → 1 ≤ length (filter is_failure (cond here (e ∷ events) events))
counted here e events is fails =
    subst (λ b. 1 ≤ length (filter is_failure (cond b (e ∷ events) events))) (sym is)
    (subst (λ b. 1 ≤ length (cond b (e ∷ filter is_failure events) (filter is_failure events))) (sym fails) (omega arith))

counted-behind : (here : Bool) (e : Event) (events : List Event) → 1 ≤ length (filter is_failure events) → 1 ≤ length (filter is_failure (cond here (e ∷ events) events))
counted-behind false e events some = some
counted-behind true e events some = by (is_failure e)
  where
    by : (fails : Bool) → 1 ≤ length (cond fails (e ∷ filter is_failure events) (filter is_failure events))
    by true = omega arith
    by false = some

failed-counted : (log : Log) (part : ℕ) (event : Event) → is_failure event ≡ true → Among log (part, event) → 1 ≤ times_failed part log
failed-counted [] part event is there = absurd there
failed-counted (x ∷ rest) part event is (inl at) =
    counted (x.0 == part) x.1 (events_of part rest) (eq-eqb x.0 part (ap (λ (e : ℕ × Event). e.0) at)) (ap (λ (e : ℕ × Event). is_failure e.1) at ∙ is)
failed-counted (x ∷ rest) part event is (inr there) = counted-behind (x.0 == part) x.1 (events_of part rest) (failed-counted rest part event is there)

pub failed-times : (log : Log) (part : ℕ) (by : By) → HasFailedFor log part by → 1 ≤ times_failed part log
failed-times log part by (inl there) = failed-counted log part (OfDisc (DiscFailed by)) refl there
failed-times log part by (inr (inl there)) = failed-counted log part (OfTrail (TrailFailed by)) refl there
failed-times log part by (inr (inr (inl there))) = failed-counted log part (OfMonitor (MonitorFailed by)) refl there
failed-times log part by (inr (inr (inr there))) = failed-counted log part (OfDump (DumpFailed by)) refl there

-- so its device's count rose
pub times-rose : (times before now : ℕ) → 1 ≤ times → RoseBy times before now → Rose before now
times-rose times before now some by = λ small. omega (arith, some, small, by)

-- DEVICES FROM ONE MOMENT TO ANOTHER

module _ {D : Type 0} where
  pub fuse-after : (P : Fuse D → Fuse D → Type 0) (old new : List (Fuse D)) (device : ℕ) (before : Fuse D) → slice_get old device ≡ Some before → EachFuse P old new
      → (after : Fuse D) × (slice_get new device ≡ Some after) × P before after
  fuse-after P old new device before at each = of (slice_get new device) refl (subst (λ o. FuseAs P o (slice_get new device)) at (each device))
    where
      of : (now : Option (Fuse D)) → slice_get new device ≡ now → FuseAs P (Some before) now → (after : Fuse D) × (slice_get new device ≡ Some after) × P before after
      of None is f = absurd f
      of (Some after) is f = (after, is, f)

  pub fuse-before : (P : Fuse D → Fuse D → Type 0) (old new : List (Fuse D)) (device : ℕ) (after : Fuse D) → slice_get new device ≡ Some after → EachFuse P old new
      → (before : Fuse D) × (slice_get old device ≡ Some before) × P before after
  fuse-before P old new device after at each = of (slice_get old device) refl (subst (λ o. FuseAs P (slice_get old device) o) at (each device))
    where
      of : (then : Option (Fuse D)) → slice_get old device ≡ then → FuseAs P then (Some after) → (before : Fuse D) × (slice_get old device ≡ Some before) × P before after
      of None is f = absurd f
      of (Some before) is f = (before, is, f)

  -- no device has come or gone
  pub same-length : (P : Fuse D → Fuse D → Type 0) (old new : List (Fuse D)) → EachFuse P old new → length new ≡ length old
  same-length P [] [] each = refl
  same-length P [] (x ∷ new) each = absurd (each 0)
  same-length P (x ∷ old) [] each = absurd (each 0)
  same-length P (x ∷ old) (y ∷ new) each = ap suc (same-length P old new (λ device. each (suc device)))

module _ {D : Type 0} (faults : D → ℕ) where
  abbrev pub NoLess : Fuse D → Fuse D → Type 0
  NoLess a b = fuse_faults faults a ≤ fuse_faults faults b

  -- a count that has risen from one moment on has risen from any earlier one
  pub rose-from : (old middle new : List (Fuse D)) (device : ℕ) → NoneFalls faults old middle → NoneFalls faults middle new → RoseAt faults middle new device → RoseAt faults old new device
  rose-from old middle new device first later rise =
      let before = fuse-before NoLess old middle device rise.before rise.was first in
      let more : NoLess rise.before rise.after = subst (λ o. FuseAs NoLess (Some rise.before) o) rise.is (subst (λ o. FuseAs NoLess o (slice_get new device)) rise.was (later device)) in
      record {
        before = before.0;
        after = rise.after;
        was = before.1;
        is = rise.is;
        rose = λ small.
            ⊎_elim (λ end. omega (arith, small, before.2, more, end.1)) (λ below. omega (arith, before.2, rise.rose below.1)) (leb_tells (2 ^ 64 - 1) (fuse_faults faults rise.before));
      }

  pub same-faults : (a b : Fuse D) → IsSwitched a b → fuse_faults faults b ≡ fuse_faults faults a
  same-faults a b is = ap (λ d. faults d + cuts_of b) is.0 ∙ ap (λ n. faults (device_of a) + n) is.1

  -- a count that has risen while the countdown was on has risen over the action
  pub rose-within : (old opened closed new : List (Fuse D)) (device : ℕ) (before : Fuse D) → Switches old opened → Switches closed new → NoneFalls faults old new → slice_get old device ≡ Some before
      → ((was is : Fuse D) → slice_get opened device ≡ Some was → slice_get closed device ≡ Some is → Rose (fuse_faults faults was) (fuse_faults faults is)) → RoseAt faults old new device
  rose-within old opened closed new device before on off falls at rise =
      let was = fuse-after IsSwitched old opened device before at on in
      let after = fuse-after NoLess old new device before at falls in
      let is = fuse-before IsSwitched closed new device after.0 after.1 off in
      let rose : Rose (fuse_faults faults was.0) (fuse_faults faults is.0) = rise was.0 is.0 was.1 is.1 in
      record {
        before = before;
        after = after.0;
        was = at;
        is = after.1;
        rose = subst (λ (n : ℕ). Rose n (fuse_faults faults after.0)) (same-faults before was.0 was.2) (subst (λ (n : ℕ). Rose (fuse_faults faults was.0) n) (sym (same-faults is.0 after.0 is.2)) rose);
      }

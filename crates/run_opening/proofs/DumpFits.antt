-- From what the opening of a device of dumps tells to whether the device is fit.
use Rattle.std.proofs.Common.{◌≡◌, ℕ, ◌-◌, ◌≤◌, List, length, Option, Some, None, refl, sym, subst, ap, ◌∙◌, arith, inl, inr, ⊎_elim, IsTrue}
use Rattle.std.specs.Prelude.{IfSome, slice_get}
use Rattle.std.proofs.lemmas.Option.{slice_get_within}
use Rattle.disk_model.specs.Held.{Held, IsThere}
use Rattle.disk_model.specs.declared.disk.Disk as disk
use Rattle.keyed_file.specs.Dump.{SpellsDumpLabel}
use Rattle.keyed_file.specs.Volume.{IsLost}
use Rattle.online_dump.specs.Found.{IsFoundDump, IsSealed, start_in}
use Rattle.online_dump.specs.declared.sealed.SealedDump.{SealedDump}
use Rattle.tmf_model.specs.Config.{IsDeclared, IsNumber, IsValidConfig}
use Rattle.tmf_model.specs.declared.config.Config.{Config}
use Rattle.tmf_model.specs.declared.config.Volume.{Volume}
use Rattle.trail_files.specs.declared.damage.Damage.{Damage}
use Rattle.trail_replay.proofs.Rows.{there}
use Rattle.run_outcomes.specs.Attaching.{HasNext, HasStart, IsDumpFit, IsFit, IsLabelDamage, IsUnfitAt, IsVolumeLost, bad_dump_file}
use Rattle.run_outcomes.specs.Devices.{TellUpTo, dump_device, held_by, volume_device}
use Rattle.run_opening.specs.Dumps.{IsDumpRefused, SpellsStart}
use Rattle.run_opening.specs.Kept.{IsDumpOpened, SpellsLow, low_kept}
use Rattle.run_opening.specs.Laws.{Laws}
use Rattle.run_opening.specs.Opening.{AreOpenedSoFar, IsKept}
use Rattle.run_opening.specs.declared.kept.Kept.{Kept}
use Rattle.run_opening.specs.declared.kept.Kept.TheVariants as kept
use Rattle.run_opening.proofs.DumpRefusals.{start_spelled}
use Rattle.run_opening.proofs.Fits.{low_not_lost, one_low}
use Rattle.run_opening.proofs.Lists.{item_same}
use Rattle.run_opening.proofs.Lows.{spells_low}
use Rattle.run_opening.proofs.Openings.{held_there, idle_touched, line_declared, line_there, tells_lower}

module _ {D : Type 0} (kind : disk.Ghosts D) (laws : Laws) (config : Config) (epoch : ℕ) (named : List ℕ) (devices : List D) (kept_ : List (Kept D)) (valid : IsValidConfig config) (number volume : ℕ) (device : D)
    (is_number : number ≡ dump_device volume) (declared : IsDeclared config.volumes volume) (at : slice_get devices number ≡ Some device) (count : length kept_ ≡ number) (tell : TellUpTo kind number devices)
    (so_far : AreOpenedSoFar kind config epoch named devices kept_) where
  abbrev held : ℕ → Held
  held = held_by kind devices

  few : volume ≤ 8
  few = omega (arith, declared.below, valid.volumes.few)

  line : (v : Volume) × IsNumber config.volumes volume v
  line = line_there config volume declared

  -- THE VOLUME'S OWN DEVICE

  own : (d : D) × (slice_get devices (volume_device volume) ≡ Some d)
  own = there devices (volume_device volume) (let within = slice_get_within devices number device at in omega (arith, within, is_number))

  own_kept : (k : Kept D) × (slice_get kept_ (volume_device volume) ≡ Some k)
  own_kept = there kept_ (volume_device volume) (omega (arith, count, is_number))

  own_is : IsKept kind config epoch named (volume_device volume) own.0 own_kept.0
  own_is = (so_far.each (volume_device volume) own.0 own_kept.0 own.1 own_kept.1).0

  own_tells : IsTrue (kind.tells own.0)
  own_tells = tell (volume_device volume) own.0 (omega (arith, is_number)) own.1

  own_held : held (volume_device volume) ≡ kind.held own.0
  own_held = held_there kind config devices (volume_device volume) own.0 own.1

  here : held (dump_device volume) ≡ kind.held device
  here = subst (λ (n : ℕ). held n ≡ kind.held device) is_number (held_there kind config devices number device at)

  -- where its blocks are not kept the volume is lost
  lost_kept : (k : Kept D) → low_kept (Some k) ≡ None → IsKept kind config epoch named (volume_device volume) own.0 k → IsLost (kind.held own.0)
  lost_kept (kept.Monitor k) none is = (let zero_is = is.0 in absurd (omega (arith, zero_is)))
  lost_kept (kept.Audit k) none is = (let le = is.1 in absurd (omega (arith, le, declared.above, valid.trails.few)))
  lost_kept (kept.Volume blocks) none is = absurd (cc)
  lost_kept (kept.Dump file) none is = (let place = is.2 in let some = is.1.above in absurd (omega (arith, place, some, few)))
  lost_kept (kept.Idle left) none is = ⊎_elim (λ alone. absurd (idle_touched config valid (volume_device volume) volume declared refl alone.0)) (λ lost. lost.3.1 own_tells) is

  volume_lost : low_kept (slice_get kept_ (volume_device volume)) ≡ None → IsVolumeLost config epoch named held volume
  volume_lost none = subst IsLost (sym own_held) (lost_kept own_kept.0 (sym (ap low_kept own_kept.1) ∙ none) own_is)

  -- and where they are, its disc gives out its low position next
  low_there : (k : Kept D) (low : ℕ) → low_kept (Some k) ≡ Some low → IsKept kind config epoch named (volume_device volume) own.0 k → SpellsLow config volume low (kind.held own.0)
  low_there (kept.Volume blocks) low is_low is =
      let same : is.0 ≡ volume = (let place = is.2 in omega (arith, place)) in
      let low_is : blocks.label.low ≡ low = cc in
      subst (λ (n : ℕ). SpellsLow config volume n (kind.held own.0)) low_is
      (subst (λ (v : ℕ). SpellsLow config v blocks.label.low (kind.held own.0)) same (spells_low kind config is.0 own.0 blocks is.3 own_tells))
  low_there (kept.Monitor k) low is_low is = absurd (cc)
  low_there (kept.Audit k) low is_low is = absurd (cc)
  low_there (kept.Dump file) low is_low is = absurd (cc)
  low_there (kept.Idle left) low is_low is = absurd (cc)

  -- A DEVICE OF THE CONFIGURATION

  dump_fit : IsDumpFit config epoch named held volume line.0 → IsFit config epoch named held number
  dump_fit fit = record {
    trail = λ le. absurd (omega (arith, le, is_number, declared.above, valid.trails.few));
    volume = λ v other is e. (let own_declared = line_declared config v other is in absurd (omega (arith, e, is_number, declared.above, own_declared.below, valid.volumes.few)));
    dump = λ v other is e.
        let same : volume ≡ v = omega (arith, e, is_number) in
        let one : line.0 ≡ other = item_same (slice_get config.volumes (v - 1)) line.0 other (ap (λ (n : ℕ). slice_get config.volumes (n - 1)) (sym same) ∙ line.1.1) is.1 in
        subst (λ (l : Volume). IsDumpFit config epoch named held v l) one (subst (λ (n : ℕ). IsDumpFit config epoch named held n line.0) same fit);
  }

  pub lost_fit : low_kept (slice_get kept_ (volume_device volume)) ≡ None → IsFit config epoch named held number
  lost_fit none = dump_fit (inl (volume_lost none))

  module _ (low : ℕ) (is_low : low_kept (slice_get kept_ (volume_device volume)) ≡ Some low) where
    here_low : SpellsLow config volume low (held (volume_device volume))
    here_low = subst (SpellsLow config volume low) (sym own_held) (low_there own_kept.0 low (sym (ap low_kept own_kept.1) ∙ is_low) own_is)

    next : HasNext config epoch named held volume line.0 low low
    next =
        let fit = so_far.fit (volume_device volume) (omega (arith, count, is_number)) (tells_lower kind config devices (volume_device volume) number (omega (arith, is_number)) tell) in
        ⊎_elim (λ lost. absurd (low_not_lost laws config (held (volume_device volume)) volume low here_low lost.0))
        (λ has. subst (λ (n : ℕ). HasNext config epoch named held volume line.0 n n) (one_low laws config (held (volume_device volume)) volume has.0 low has.1.label here_low) has.1) (fit.volume volume line.0 line.1 refl)

    has_start : (start : ℕ) → SpellsStart volume start (kind.held device) → HasStart config epoch named held volume start
    has_start start s = record { label = s.0; valid = s.1; of_volume = s.2; starts = s.3; spelled = subst (λ (h : Held). IsThere h 1 (λ f. SpellsDumpLabel s.0 f.bytes)) (sym here) s.4 }

    found_fit : (found : Option SealedDump) → IfSome found (IsSealed volume) → IsFoundDump volume (kind.held device) found → ((start : ℕ) → start_in found ≡ Some start → start ≤ low) → IsDumpFit config epoch named held volume line.0
    found_fit None sealed is reached = inr (inl (subst IsLost (sym here) is))
    found_fit (Some dump) sealed is reached = inr (inr (low, low, dump.label.start, next, has_start dump.label.start (start_spelled volume dump.label.start (kind.held device) (Some dump) refl sealed is), reached dump.label.start refl))

    pub opened_fit : (k : Kept D) → IsDumpOpened kind volume low device k → IsFit config epoch named held number
    opened_fit (kept.Dump file) is = dump_fit (found_fit file.found is.0.sealed (is.0.found (tell number device (omega arith) at)) is.1)
    opened_fit (kept.Monitor k) is = absurd is
    opened_fit (kept.Audit k) is = absurd is
    opened_fit (kept.Volume blocks) is = absurd is
    opened_fit (kept.Idle left) is = absurd is

    pub refused_unfit : (damage : Damage) → IsDumpRefused volume low (kind.held device) damage → IsUnfitAt config epoch named held number damage
    refused_unfit damage refused =
        let not_lost = low_not_lost laws config (held (volume_device volume)) volume low here_low in
        inr (inr (
          volume,
          line.0,
          line.1,
          is_number,
          (
            not_lost,
            ⊎_elim
                (λ bad. inl (subst (λ (h : Held). IsLabelDamage (bad_dump_file volume) h damage) (sym here) bad))
                (λ start. inr (low, low, start.0, next, has_start start.0 start.1, start.2, start.3)) refused,
          ),
        ))

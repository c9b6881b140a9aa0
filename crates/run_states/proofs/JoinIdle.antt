-- A device that is kept alone may be joined with its part's seat.
use Rattle.std.specs.Prelude.{◌≡◌, ℕ, ◌<◌, ◌≤◌, Option, Some, None, slice_get}
use Rattle.std.proofs.Common.{refl, sym, ap, subst, ◌∙◌, arith, inl, inr, ⊎_elim}
use Rattle.chronicle.specs.Seats.{new_seat}
use Rattle.disk_model.specs.Held.{Held}
use Rattle.disk_model.specs.declared.disk.Disk as disk
use Rattle.keyed_file.specs.Volume.{IsLost}
use Rattle.run_opening.specs.Kept.{IsKeptAsLost, low_kept}
use Rattle.run_opening.specs.Opening.{IsKept, IsReachedIn}
use Rattle.run_opening.specs.declared.kept.Kept.TheVariants as kept
use Rattle.run_outcomes.specs.Devices.{IsUntouched, dump_device, part_of_device, volume_device}
use Rattle.tmf_model.specs.Config.{IsDeclared}
use Rattle.run_states.specs.Joined.{MayJoin}
use Rattle.run_states.specs.Post.{IsIdle}
use Rattle.run_states.specs.States.{IsLeftAlone}
use Rattle.run_states.specs.Volumes.{IsOfLost}
use Rattle.run_states.proofs.Fresh.{quiet_part}
use Rattle.run_states.proofs.Keeping.{F, O, Setting, as_given, count_given, given, items, kept_at, kept_few, later_given, not_found}

module _ {D : Type 0} (kind : disk.Ghosts D) (s : Setting kind) (n : ℕ) (left : D) (some : 1 ≤ n) (at : slice_get (items kind s) n ≡ Some (kept.Idle left)) (device : D)
    (is : IsKept kind s.config s.epoch s.named n device (kept.Idle left)) (reached : IsReachedIn kind s.config (items kind s) n (kept.Idle left)) where
  few : n < 21
  few = kept_few kind s n (kept.Idle left) at

  is_idle : IsIdle kind (O kind s) s.faults s.handed_in n left (new_seat (part_of_device n))
  is_idle =
      let part = quiet_part (F kind s) n some few in
      let count = count_given kind s n (kept.Idle left) at in
      record { part = refl; state = part.state; at = part.at; none = part.none; later = later_given kind s n (kept.Idle left) at; rise = omega (arith, count) }

  -- A DEVICE OF DUMPS

  none_low : (v : ℕ) → IsDeclared s.config.volumes v → n ≡ dump_device v → (o : Option ℕ) → low_kept (slice_get (items kind s) (volume_device v)) ≡ o → low_kept (slice_get (items kind s) (volume_device v)) ≡ None
  none_low v declared place None is_low = is_low
  none_low v declared place (Some low) is_low = absurd (reached v low declared place is_low)

  dump_lost : (v : ℕ) → IsDeclared s.config.volumes v → n ≡ dump_device v → IsOfLost kind (F kind s) s.handed_in n left
  dump_lost v declared place =
      let k = kept_at kind s (volume_device v) (omega (arith, declared.below, s.may.valid.volumes.few)) in
      let none = none_low v declared place (low_kept (slice_get (items kind s) (volume_device v))) refl in
      record {
        volume = v;
        declared = declared;
        none = not_found kind s v declared k.0 k.1 (ap low_kept (sym k.1) ∙ none);
        place = inr place;
        as_given = as_given kind s n (kept.Idle left) at;
      }

  -- A VOLUME'S DEVICE

  volume_lost : (v : ℕ) → IsDeclared s.config.volumes v → n ≡ volume_device v → IsKeptAsLost kind device left → IsOfLost kind (F kind s) s.handed_in n left
  volume_lost v declared place lost =
      let here : slice_get (items kind s) (volume_device v) ≡ Some (kept.Idle left) = ap (slice_get (items kind s)) (sym place) ∙ at in
      record {
        volume = v;
        declared = declared;
        none = not_found kind s v declared (kept.Idle left) here refl;
        place = inl (place, λ tells. subst (λ (h : Held). IsLost h) (sym lost.0.same) (lost.1 (sym lost.0.is_later.tells ∙ tells)));
        as_given = as_given kind s n (kept.Idle left) at;
      }

  alone : IsLeftAlone kind (F kind s) s.handed_in n left
  alone = ⊎_elim
      (λ a. ⊎_elim (λ (out : IsUntouched s.config n). inl (out, given kind s n (kept.Idle left) at, few)) (λ dump. inr (dump_lost dump.0 dump.1 dump.2)) a.0)
      (λ v. inr (volume_lost v.0 v.1 v.2 v.3)) is

  pub join_idle : (rest : Option ℕ) → MayJoin kind (O kind s) (F kind s) s.rules s.faults s.premise s.handed_in s.config n rest (new_seat (part_of_device n)) (kept.Idle left)
  join_idle rest = (is_idle, alone, refl)

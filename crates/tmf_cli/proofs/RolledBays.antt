-- What a rollforward leaves of a bay, where the countdown is switched before and behind it.
use Rattle.std.specs.Prelude.{slice_get, Result, Ok, Err, Some, IfErr, MatchResult}
use Rattle.std.specs.Option.{option_map_or}
use Rattle.std.proofs.Common.{◌≡◌, ◌⊎◌, ◌≤◌, ℕ, List, length, inl, inr, sym, ap, subst, ◌∙◌, ⊎_elim, arith}
use Rattle.disk_model.specs.Devices.{AreHeld, AreImages, DeviceAt, HoldSame, NoneFalls, held_at}
use Rattle.disk_model.specs.Fuse.{device_of}
use Rattle.disk_model.specs.Held.{Held}
use Rattle.disk_model.specs.declared.disk.Disk as disk
use Rattle.disk_model.specs.declared.fuse.Fuse.{Fuse}
use Rattle.disk_model.proofs.Devices.{held-as, held-then, rose-after}
use Rattle.tmf_model.specs.Config.{IsDeclared, IsValidConfig}
use Rattle.tmf_model.specs.declared.config.Config.{Config}
use Rattle.tmf_model.specs.RecordMap.{RecordMap}
use Rattle.trail_files.specs.declared.monitor_record.MonitorRecord.{MonitorRecord}
use Rattle.trail_files.specs.StandsFor.{Base}
use Rattle.keyed_file.specs.Volume.{IsLost, label_of}
use Rattle.block_cache.specs.Volume.{HasBase, RestsFor}
use Rattle.volume_recovery.specs.VolumeFormat.{IsNodeDevice}
use Rattle.volume_recovery.specs.VolumeNode.{RestsWithVolumes, volume_device}
use Rattle.rollforward.specs.declared.errors.RollError.{RollError}
use Rattle.rollforward.specs.declared.errors.RollError.TheVariants as roll
use Rattle.rollforward.specs.Newest.{HasFailedOn}
use Rattle.rollforward.specs.RolledNode.{RollsNode}
use Rattle.rollforward.specs.Rolls.{IsFailure, IsRollDevice, IsRolledTo, MayRoll, RollsOnly, TellsRoll, trail_on}
use Rattle.tmf_cli.specs.Countdown.{Switches}
use Rattle.tmf_cli.specs.OutputLaw.{LeavesRolled}
use Rattle.tmf_cli.specs.Rolling.{RollsBay}
use Rattle.tmf_cli.proofs.Bays.{each-old, held-is, held-same, held-there, images-same}
use Rattle.tmf_cli.proofs.Countdowns.{held-back, switched-holds}
use Rattle.tmf_cli.proofs.Falls.{rose-later}
use Rattle.tmf_cli.proofs.Losses.{number-at}
use Rattle.tmf_cli.proofs.Resting.{trail-declared}

-- a device of which a rollforward asks is one of the configuration's
pub roll-node : (config : Config) (volume number : ℕ) → IsValidConfig config → IsDeclared config.volumes volume → IsRollDevice config volume number → IsNodeDevice config number
roll-node config volume number valid declared is =
    ⊎_elim
    (λ of. ⊎_elim
    (λ own. inr (inl (record { above = omega (arith, own, declared.above); below = omega (arith, own, declared.below) })))
    (λ dump. inr (inr (record { above = omega (arith, dump, declared.above); below = omega (arith, dump, declared.below) })))
    of)
    (λ trail. ⊎_elim (λ monitor. inl (omega (arith, monitor))) (λ own. inl (subst (λ n. n ≤ length config.trails) (sym own) on)) trail)
    is
  where
    on : trail_on config volume ≤ length config.trails
    on =
        let line = number-at config.volumes volume declared.above declared.below in
        let same : trail_on config volume ≡ line.0.trail = ap (λ o. option_map_or (λ l. l.trail) o 0) line.1.1 in
        subst (λ n. n ≤ length config.trails) (sym same) (trail-declared config valid volume line.0 line.1).below

module _ {D : Type 0} (kind : disk.Ghosts D) (config : Config) (volume : ℕ) (old armed mid new : List (Fuse D)) (on : Switches old armed) (off : Switches mid new) where
  same_on : HoldSame kind.held old armed
  same_on = switched-holds old armed on kind.held

  same_off : HoldSame kind.held mid new
  same_off = switched-holds mid new off kind.held

  holds-on : HoldSame kind.held armed mid → HoldSame kind.held old new
  holds-on same = held-then kind.held old mid new (held-then kind.held old armed mid same_on same) same_off

  pub armed-held : AreHeld kind.held armed (held_at kind.held old)
  armed-held = held-as kind.held old armed (held_at kind.held old) same_on (held-is kind.held old)

  at-new : (P : D → Type 0) → ((a b : D) → kind.held b ≡ kind.held a → P a → P b) → (number : ℕ) → DeviceAt P mid number → DeviceAt P new number
  at-new P keeps number (fuse, is, so) =
      let after = each-old (λ a b. kind.held b ≡ kind.held a) (slice_get mid number) (slice_get new number) fuse (same_off number) is in
      (after.0, after.1, keeps (device_of fuse) (device_of after.0) after.2 so)

  abbrev IsHeldSo : Base → ℕ → Held → Type 0
  IsHeldSo base next h = HasBase config volume h (Some base) × RestsFor (label_of config volume next) h

  rolled-to : (images : ℕ → Held) (next : ℕ) → IsRolledTo kind.held config volume images mid next → IsRolledTo kind.held config volume images new next
  rolled-to images next is = record {
    base = is.base;
    rolls = is.rolls;
    next_is = is.next_is;
    device = at-new (λ d. IsHeldSo is.base next (kind.held d)) (λ a b same so. subst (IsHeldSo is.base next) (sym same) so) (volume_device volume) is.device;
    every = λ left are. is.every left (images-same kind.held mid new left same_off are);
  }

  leaves : RollsOnly kind config volume armed mid
      → ((held left : ℕ → Held) → AreHeld kind.held armed held → AreImages kind.held mid left → (images : ℕ → Held) × AreImages kind.held armed images × MayRoll config volume held images left)
      → ((images : ℕ → Held) → AreHeld kind.held armed images → (IsLost (images (volume_device volume)) → ⊥) → HoldSame kind.held armed mid)
      → LeavesRolled kind.held config volume old new
  leaves frame every shut = record {
    same = λ number other.
        ap (λ (h : ℕ → Held). h number) (held-same kind.held mid new same_off)
        ∙ held-there kind.held (slice_get armed number) (slice_get mid number) (frame.same number other)
        ∙ ap (λ (h : ℕ → Held). h number) (held-same kind.held old armed same_on);
    every = λ left are.
        let (images, was, may) = every (held_at kind.held old) left armed-held (images-same kind.held mid new left same_off are) in
        (images, images-same kind.held old armed images same_on was, may);
    shut = λ standing. holds-on (shut (held_at kind.held old) armed-held standing);
  }

  told-on : (result : Result ℕ RollError) (images : ℕ → Held) → MatchResult result (IsRolledTo kind.held config volume images mid) (TellsRoll config volume images) → MatchResult result (IsRolledTo kind.held config volume images new) (TellsRoll config volume images)
  told-on (Ok next) images is = rolled-to images next is
  told-on (Err error) images is = is

  unwritten-on : (result : Result ℕ RollError) → IfErr result (λ e. IsFailure e ⊎ HoldSame kind.held armed mid) → IfErr result (λ e. IsFailure e ⊎ HoldSame kind.held old new)
  unwritten-on (Ok next) is = tt
  unwritten-on (Err error) is = ⊎_elim inl (λ same. inr (holds-on same)) is

  node-on : (result : Result ℕ RollError) (list : List MonitorRecord) (map : RecordMap) (rests : RestsWithVolumes config (held_at kind.held old) list map)
      → RollsNode kind.held config volume (held_at kind.held old) list map rests result mid → RollsNode kind.held config volume (held_at kind.held old) list map rests result new
  node-on (Ok next) list map rests is = record {
    ok = λ now are. is.ok now (held-back kind.held mid new now same_off are);
    every = λ left are. is.every left (images-same kind.held mid new left same_off are);
    undamaged = tt;
  }
  node-on (Err error) list map rests is = record {
    ok = tt;
    every = λ left are. is.every left (images-same kind.held mid new left same_off are);
    undamaged = is.undamaged;
  }

  -- what a rollforward leaves is so of devices that hold the same
  pub rolls-bay : (result : Result ℕ RollError) → RollsOnly kind config volume armed mid
      → MatchResult result (IsRolledTo kind.held config volume (held_at kind.held old) mid) (TellsRoll config volume (held_at kind.held old))
      → ((held left : ℕ → Held) → AreHeld kind.held armed held → AreImages kind.held mid left → (images : ℕ → Held) × AreImages kind.held armed images × MayRoll config volume held images left)
      → ((images : ℕ → Held) → AreHeld kind.held armed images → (IsLost (images (volume_device volume)) → ⊥) → HoldSame kind.held armed mid)
      → IfErr result (λ e. IsFailure e ⊎ HoldSame kind.held armed mid)
      → ((list : List MonitorRecord) (map : RecordMap) (rests : RestsWithVolumes config (held_at kind.held old) list map) → RollsNode kind.held config volume (held_at kind.held old) list map rests result mid)
      → RollsBay kind.held config volume result old new
  rolls-bay result frame told every shut unwritten node = record {
    told = told-on result (held_at kind.held old) told;
    leaves = leaves frame every shut;
    unwritten = unwritten-on result unwritten;
    node = λ list map rests. node-on result list map rests (node list map rests);
  }

-- a device that has failed in it
pub failed-on : {D : Type 0} (faults : D → ℕ) (Is : ℕ → Type 0) (old armed mid new : List (Fuse D)) → NoneFalls faults old armed → NoneFalls faults armed mid → NoneFalls faults mid new → (result : Result ℕ RollError)
    → IfErr result (HasFailedOn faults Is armed mid) → IfErr result (HasFailedOn faults Is old new)
failed-on faults Is old armed mid new one two three (Ok next) is = tt
failed-on faults Is old armed mid new one two three (Err roll.NotLost) is = tt
failed-on faults Is old armed mid new one two three (Err roll.NoDump) is = tt
failed-on faults Is old armed mid new one two three (Err (roll.Failed device)) is = (is.0, rose-later faults old mid new device three (rose-after faults old armed mid device one two is.1))
failed-on faults Is old armed mid new one two three (Err (roll.Damaged device damage)) is = tt
failed-on faults Is old armed mid new one two three (Err roll.NoMemory) is = tt

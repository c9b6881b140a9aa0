-- The devices of a call whose countdown was switched off before its first action.
use Rattle.std.specs.Prelude.{Option}
use Rattle.std.proofs.Common.{List}
use Rattle.disk_model.specs.Held.{Held}
use Rattle.disk_model.specs.declared.disk.Disk as disk
use Rattle.disk_model.specs.declared.fuse.Fuse.{Fuse}
use Rattle.disk_model.proofs.Devices.{later-same, later-then, place-same, place-then, tells-same, tells-then}
use Rattle.tmf_model.specs.declared.config.Config.{Config}
use Rattle.tmf_model.specs.declared.script.Script.{Script}
use Rattle.tmf_cli.specs.BetweenActions.{LeavesBay}
use Rattle.tmf_cli.specs.Call.{KeepsBay}
use Rattle.tmf_cli.specs.Countdown.{IsOff, NoneCut, OnceSwitched, Switches}
use Rattle.tmf_cli.specs.OutputLaw.{Candidate}
use Rattle.tmf_cli.specs.Top.{Opens}
use Rattle.tmf_cli.proofs.Acts.{stands-same}
use Rattle.tmf_cli.proofs.Countdowns.{cut-then, once-any, switched-cuts, switched-falls, switched-holds, switched-place, switched-tells}

-- what the devices may stand for is as it was
pub opens-switched : {D : Type 0} (held : D → Held) (script : Script) (old opened : List (Fuse D)) → Switches old opened → (candidates : Option (List Candidate)) → Opens held script old candidates → Opens held script opened candidates
opens-switched held script old opened switched candidates opens = record { stands = stands-same held script.config old opened (switched-holds old opened switched held) candidates opens.stands }

module _ {D : Type 0} (kind : disk.Ghosts D) (on : (a b c : D) → kind.is_same a b → kind.is_same b c → kind.is_same a c) (itself : (d : D) → kind.is_same d d) where
  -- the devices of a call over which actions were begun
  pub bay-keeps : (config : Config) (whole : Type 0) (old new : List (Fuse D)) → OnceSwitched (λ opened. LeavesBay kind config whole opened new) old → KeepsBay kind old new
  bay-keeps config whole old new once = once-any (λ opened. LeavesBay kind config whole opened new) (KeepsBay kind old new) old
      (λ opened switched leaves. record {
        devices = place-then kind.is_same on old opened new (switched-place old opened switched kind.is_same itself) leaves.devices;
        tells = tells-then kind.tells old opened new (switched-tells old opened switched kind.tells) leaves.tells;
        later = later-then kind.faults old opened new (switched-falls old opened switched kind.faults) leaves.counts.falls;
      }) once

  -- and those of another
  pub bay-same : (old : List (Fuse D)) → KeepsBay kind old old
  bay-same old = record { devices = place-same kind.is_same itself old; tells = tells-same kind.tells old; later = later-same kind.faults old }

pub bay-uncut : {D : Type 0} (kind : disk.Ghosts D) (config : Config) (whole : Type 0) (old new : List (Fuse D)) → OnceSwitched (λ opened. LeavesBay kind config whole opened new) old → whole → NoneCut old new
bay-uncut kind config whole old new once all =
    once-any (λ opened. LeavesBay kind config whole opened new) (NoneCut old new) old (λ opened switched leaves. cut-then old opened new (switched-cuts old opened switched) (leaves.counts.uncut all)) once

-- behind them the countdown is off
pub bay-off : {D : Type 0} (kind : disk.Ghosts D) (config : Config) (whole : Type 0) (old new : List (Fuse D)) → OnceSwitched (λ opened. LeavesBay kind config whole opened new) old → IsOff new
bay-off kind config whole old new once = once-any (λ opened. LeavesBay kind config whole opened new) (IsOff new) old (λ opened switched leaves. leaves.counts.off) once

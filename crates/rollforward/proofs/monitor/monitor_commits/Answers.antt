use Rattle.std.proofs.Common.{List, IsTrue, inr, sym, subst}
use Rattle.std.specs.Prelude.{Result, Ok, Err, MatchResult}
use Rattle.disk_model.specs.Held.{Held}
use Rattle.tmf_model.specs.declared.transid.Transid.{Transid}
use Rattle.trail_files.specs.declared.damage.TrailFault.{TrailFault}
use Rattle.trail_files.specs.declared.monitor_record.MonitorRecord.{MonitorRecord}
use Rattle.trail_files.specs.Fault.{IsUndamaged}
use Rattle.trail_files.specs.MonitorRecord.{monitor_format}
use Rattle.trail_files.specs.Scanned.{TellsOnly}
use Rattle.trail_files.specs.Text.{Spells}
use Rattle.trail_replay.specs.Reading.{HasCommits}
use Rattle.trail_replay.specs.Texts.{IsMonitorDamage}
use Rattle.rollforward.proofs.monitor.monitor_commits.Goals as goal

-- what a reading of a whole trail tells
read-told : (r : Result (List Transid) TrailFault) (held : Held) (list : List MonitorRecord) → Spells monitor_format held list → MatchResult r (HasCommits list) IsUndamaged
    → MatchResult r (λ commits. (xs : List MonitorRecord) × Spells monitor_format held xs × HasCommits xs commits) (TellsOnly (IsMonitorDamage held))
read-told (Ok commits) held list spells has = (list, spells, has)
read-told (Err e) held list spells fine = λ damage is. absurd (fine damage is)

pub returns-in-Err-clause-told : goal.returns-in-Err-clause-told
returns-in-Err-clause-told g c = λ tells. c.in-Err.ensures.damage.damaged tells

pub returns-in-Ok-clause-told : goal.returns-in-Ok-clause-told
returns-in-Ok-clause-told g c = λ tells.
    let list = c.in-Ok.ensures.damage.spelled tells in
    read-told c.read_commits-commits.result (g.E.Disk.held c.args.device.now) list.0 list.1
    (c.read_commits-commits.ensures.told list.0 (subst IsTrue (sym c.in-Ok.ensures.keeps.tells) tells, inr (c.in-Ok.ensures.reads list.0 tells list.1)))

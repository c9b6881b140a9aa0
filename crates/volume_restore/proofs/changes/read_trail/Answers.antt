use Rattle.std.proofs.Common.{◌≤◌, arith, IsTrue, sym, subst}
use Rattle.std.specs.Prelude.{Result, Ok, Err, IfErr, MatchResult}
use Rattle.disk_model.specs.Held.{Held}
use Rattle.trail_files.specs.AuditOrder.{audit_damage}
use Rattle.trail_files.specs.AuditRecord.{audit_format}
use Rattle.trail_files.specs.Damaged.{IsDamagedAt}
use Rattle.trail_files.specs.Fault.{IsUndamaged}
use Rattle.trail_files.specs.Scanned.{TellsOnly}
use Rattle.trail_files.specs.Text.{Spells}
use Rattle.trail_replay.proofs.Replays.{on-ok}
use Rattle.trail_replay.specs.Rules.{rules_of}
use Rattle.trail_replay.specs.Texts.{IsAuditDamage, SpellsAudit}
use Rattle.volume_restore.proofs.Bounds.{behind-small, first-position}
use Rattle.volume_restore.proofs.Takings.{found-all, found-left, sofar-none}
use Rattle.volume_restore.proofs.changes.read_trail.Goals as goal

match_err : {A E : Type 0} (r : Result A E) (P : Type 0) (Q S : E → Type 0) → P → ((e : E) → Q e → S e) → IfErr r Q → MatchResult r (λ _. P) S
match_err (Ok a) P Q S p next holds = p
match_err (Err e) P Q S p next holds = next e holds

pub returns-in-Err-clause-read : goal.returns-in-Err-clause-read
returns-in-Err-clause-read g c = λ tells.
    subst (λ r. TellsOnly (IsDamagedAt (audit_format r) (audit_damage r) 128 (g.E.Disk.held c.args.device.now)) c.in-Err.refused.1) c.in-Ok.ensures (c.in-Err.ensures.damage.damaged tells)

pub returns-in-Err-clause-undamaged : goal.returns-in-Err-clause-undamaged
returns-in-Err-clause-undamaged g c = λ tells spells.
    c.in-Err.ensures.damage.undamaged spells.0 tells (subst (λ r. Spells (audit_format r) (g.E.Disk.held c.args.device.now) spells.0) (sym c.in-Ok.ensures) spells.1)

pub returns-in-Err-clause-exact : goal.returns-in-Err-clause-exact
returns-in-Err-clause-exact g c = λ damage tells is.
    c.in-Err.ensures.damage.exact damage tells (subst (λ r. IsDamagedAt (audit_format r) (audit_damage r) 128 (g.E.Disk.held c.args.device.now) damage) (sym c.in-Ok.ensures) is)

pub returns-in-Ok-attach-clause-taken : goal.returns-in-Ok-attach-clause-taken
returns-in-Ok-attach-clause-taken g c = λ written list tells spells commits.
    let held : Held = g.E.Disk.held c.args.device.now in
    let reads = c.in-Ok-attach.ensures.reads written tells (subst (λ r. Spells (audit_format r) held written) (sym c.in-Ok.ensures) spells) in
    let told = subst IsTrue (sym c.in-Ok-attach.ensures.keeps.tells) tells in
    on-ok c.read_records-read.result
    (λ own. record {
      own = λ volume low line is on found.
          let first = c.requires.fits.within _ _ found.place in
          let few : low ≤ 4611686018427387904 = omega (arith, first.below, first-position volume low) in
          found-all c.args.config.now volume low written list c.read_records-read.new.changes (behind-small (rules_of c.args.config.now c.args.trail) held volume low written few spells)
          (own volume low line is on (sofar-none c.args.config.now volume low list c.args.changes.now found));
      others = λ volume low line other is off found. found-left c.args.config.now volume low other list c.args.changes.now c.read_records-read.new.changes (c.read_records-read.ensures.others volume line is off) found;
    })
    (c.read_records-read.ensures.own written list told reads commits)

pub returns-in-Ok-attach-clause-read : goal.returns-in-Ok-attach-clause-read
returns-in-Ok-attach-clause-read g c = λ tells.
    let held : Held = g.E.Disk.held c.args.device.now in
    let written = c.in-Ok-attach.ensures.damage.spelled tells in
    match_err c.read_records-read.result (SpellsAudit c.args.config.now c.args.trail held) IsUndamaged (TellsOnly (IsAuditDamage c.args.config.now c.args.trail held))
    (written.0, subst (λ r. Spells (audit_format r) held written.0) c.in-Ok.ensures written.1)
    (λ e fine damage is. absurd (fine damage is))
    (c.read_records-read.ensures.undamaged written.0 (subst IsTrue (sym c.in-Ok-attach.ensures.keeps.tells) tells) (c.in-Ok-attach.ensures.reads written.0 tells written.1))

pub returns-in-Ok-attach-clause-undamaged : goal.returns-in-Ok-attach-clause-undamaged
returns-in-Ok-attach-clause-undamaged g c = λ tells spells.
    c.read_records-read.ensures.undamaged spells.0 (subst IsTrue (sym c.in-Ok-attach.ensures.keeps.tells) tells)
    (c.in-Ok-attach.ensures.reads spells.0 tells (subst (λ r. Spells (audit_format r) (g.E.Disk.held c.args.device.now) spells.0) (sym c.in-Ok.ensures) spells.1))

pub returns-in-Ok-attach-clause-exact : goal.returns-in-Ok-attach-clause-exact
returns-in-Ok-attach-clause-exact g c = λ damage tells is.
    absurd (c.in-Ok-attach.ensures.damage.exact damage tells (subst (λ r. IsDamagedAt (audit_format r) (audit_damage r) 128 (g.E.Disk.held c.args.device.now) damage) (sym c.in-Ok.ensures) is))

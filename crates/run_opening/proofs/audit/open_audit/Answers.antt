use Rattle.std.proofs.Common.{inl, ap, sym, subst, ◌∙◌, IsTrue}
use Rattle.trail_files.specs.AuditOrder.{audit_damage}
use Rattle.trail_files.specs.AuditRecord.{audit_format}
use Rattle.trail_files.specs.Content.{batch_of}
use Rattle.trail_files.specs.Damaged.{IsDamagedAt}
use Rattle.trail_files.specs.Scanned.{TellsOnly}
use Rattle.trail_files.specs.Text.{Spells}
use Rattle.trail_files.specs.declared.rules.Rules.{Rules}
use Rattle.trail_replay.specs.Opening.{IsOpened}
use Rattle.trail_replay.specs.Rules.{rules_of}
use Rattle.trail_replay.specs.Texts.{IsAuditDamage}
use Rattle.volume_restore.proofs.Takings.{later-then}
use Rattle.run_opening.specs.Refusal.{IsOf, TellsAt}
use Rattle.run_opening.proofs.Frames.{opened_then}
use Rattle.run_opening.proofs.Refusals.{fault_failed, fault_place, fault_tells, if_err, if_ok, rose_behind, tells_more}
use Rattle.run_opening.proofs.audit.open_audit.Goals as goal

pub returns-in-Err-clause-refused : goal.returns-in-Err-clause-refused
returns-in-Err-clause-refused g c = record {
  reread = record { is_later = c.in-Err.ensures.keeps; same = c.in-Err.ensures.same };
  place = subst (IsOf c.args.number) (sym c.refusal_by.ensures) (fault_place c.args.number c.in-Err.fault);
  failed = λ device is. c.in-Err.ensures.cause (fault_failed c.args.number device c.in-Err.fault (sym c.refusal_by.ensures ∙ is));
}

pub returns-in-Err-clause-damage : goal.returns-in-Err-clause-damage
returns-in-Err-clause-damage g c = λ tells.
    let held = g.D.Disk.held c.args.device in
    subst (TellsAt c.args.number (IsAuditDamage c.args.config.now c.args.number held)) (sym c.refusal_by.ensures)
    (fault_tells c.args.number (IsAuditDamage c.args.config.now c.args.number held) c.in-Err.fault
    (subst (λ (r : Rules). TellsOnly (IsDamagedAt (audit_format r) (audit_damage r) 128 held) c.in-Err.fault) c.in-Ok.ensures (c.in-Err.ensures.damage.damaged tells)))

pub returns-in-Ok-attach-clause-kept : goal.returns-in-Ok-attach-clause-kept
returns-in-Ok-attach-clause-kept g c =
    let opened : IsOpened g.D.Disk audit_format c.in-Ok.rules c.args.device c.in-Ok-attach.opened = record {
      landed = λ records tells rests.
          let opened = c.in-Ok-attach.ensures.holds records (λ _. rests) in
          record { content = opened.0; landed = opened.1.landed; behind = inl (ap batch_of opened.1.pending); tells = subst IsTrue (sym c.in-Ok-attach.ensures.keeps.tells) tells; holds = opened.2 };
      reads = c.in-Ok-attach.ensures.reads;
      spelled = c.in-Ok-attach.ensures.damage.spelled;
      ready = c.in-Ok-attach.ensures.opens.0;
      ruled = c.in-Ok-attach.ensures.opens.1;
      writable = c.in-Ok-attach.ensures.opens.2;
      reread = record { is_later = c.in-Ok-attach.ensures.keeps; same = c.in-Ok-attach.ensures.same };
    } in
    if_ok c.with_seen.result _ _ (λ t keeps. opened_then g.D.Disk audit_format (rules_of c.args.config.now c.args.number) c.args.device c.in-Ok-attach.opened t g.met.D.Disk.same_on
    (subst (λ (r : Rules). IsOpened g.D.Disk audit_format r c.args.device c.in-Ok-attach.opened) c.in-Ok.ensures opened) keeps) c.with_seen.ensures.kept

pub returns-in-Ok-attach-clause-own : goal.returns-in-Ok-attach-clause-own
returns-in-Ok-attach-clause-own g c = λ audit tells spells.
    c.with_seen.ensures.own audit (subst IsTrue (sym c.in-Ok-attach.ensures.keeps.tells) tells)
    (c.in-Ok-attach.ensures.reads audit tells (subst (λ (r : Rules). Spells (audit_format r) (g.D.Disk.held c.args.device) audit) (sym c.in-Ok.ensures) spells))

pub returns-in-Ok-attach-clause-refused : goal.returns-in-Ok-attach-clause-refused
returns-in-Ok-attach-clause-refused g c =
    if_err c.with_seen.result _ _ (λ e was. record {
      reread = record {
        is_later = later-then g.D.Disk c.args.device c.in-Ok-attach.opened.device e.0 g.met.D.Disk.same_on c.in-Ok-attach.ensures.keeps was.reread.is_later;
        same = was.reread.same ∙ c.in-Ok-attach.ensures.same;
      };
      place = was.place;
      failed = λ device is. rose_behind _ _ _ c.in-Ok-attach.ensures.keeps.later was.reread.is_later.later (was.failed device is);
    }) c.with_seen.ensures.refused

pub returns-in-Ok-attach-clause-damage : goal.returns-in-Ok-attach-clause-damage
returns-in-Ok-attach-clause-damage g c = λ tells.
    let spelled = c.in-Ok-attach.ensures.damage.spelled tells in
    if_err c.with_seen.result _ _ (λ e none. tells_more c.args.number (λ damage. ⊥) (IsAuditDamage c.args.config.now c.args.number (g.D.Disk.held c.args.device)) e.1 (λ damage no. absurd no) none)
    (c.with_seen.ensures.undamaged spelled.0 (subst IsTrue (sym c.in-Ok-attach.ensures.keeps.tells) tells) (c.in-Ok-attach.ensures.reads spelled.0 tells spelled.1))

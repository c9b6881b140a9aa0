use Rattle.std.proofs.Common.{inl, inr, ap, sym, subst, ◌∙◌, IsTrue}
use Rattle.trail_files.specs.Content.{batch_of}
use Rattle.trail_files.specs.declared.rules.Rules.{Rules}
use Rattle.trail_replay.specs.Opening.{IsOpened, rules_of_node}
use Rattle.trail_replay.specs.Rules.{monitor_formats}
use Rattle.volume_restore.proofs.Takings.{later-then}
use Rattle.run_opening.specs.Kept.{IsMonitorUnfit}
use Rattle.run_opening.specs.Refusal.{IsOf, TellsAt}
use Rattle.run_opening.proofs.Frames.{monitor_kept}
use Rattle.run_opening.proofs.Refusals.{fault_failed, fault_place, fault_tells, if_err, rose_behind, tells_more}
use Rattle.run_opening.proofs.monitor.open_monitor.Goals as goal

pub returns-in-Err-clause-refused : goal.returns-in-Err-clause-refused
returns-in-Err-clause-refused g c = record {
  reread = record { is_later = c.in-Err.ensures.keeps; same = c.in-Err.ensures.same };
  place = subst (IsOf 0) (sym c.refusal_by.ensures) (fault_place 0 c.in-Err.fault);
  failed = λ device is. c.in-Err.ensures.cause (fault_failed 0 device c.in-Err.fault (sym c.refusal_by.ensures ∙ is));
}

pub returns-in-Err-clause-damage : goal.returns-in-Err-clause-damage
returns-in-Err-clause-damage g c = λ tells.
    let held = g.D.Disk.held c.args.device in
    subst (TellsAt 0 (IsMonitorUnfit c.args.epoch held)) (sym c.refusal_by.ensures) (fault_tells 0 (IsMonitorUnfit c.args.epoch held) c.in-Err.fault (λ damage is. inl (c.in-Err.ensures.damage.damaged tells damage is)))

pub returns-in-Ok-clause-kept : goal.returns-in-Ok-clause-kept
returns-in-Ok-clause-kept g c =
    let rules : Rules = rules_of_node c.args.config.now in
    let before : IsOpened g.D.Disk monitor_formats rules c.args.device c.in-Ok.opened = record {
      landed = λ records tells rests.
          let opened = c.in-Ok.ensures.holds records (λ _. rests) in
          record { content = opened.0; landed = opened.1.landed; behind = inl (ap batch_of opened.1.pending); tells = subst IsTrue (sym c.in-Ok.ensures.keeps.tells) tells; holds = opened.2 };
      reads = c.in-Ok.ensures.reads;
      spelled = c.in-Ok.ensures.damage.spelled;
      ready = c.in-Ok.ensures.opens.0;
      ruled = c.in-Ok.ensures.opens.1 ∙ c.rules_of_monitor-rules.ensures;
      writable = c.in-Ok.ensures.opens.2;
      reread = record { is_later = c.in-Ok.ensures.keeps; same = c.in-Ok.ensures.same };
    } in
    monitor_kept g.D.Disk c.args.config.now c.args.epoch c.args.device c.in-Ok.opened c.counted.result g.met.D.Disk.same_on before c.counted.ensures.kept
    (λ list tells spells. c.counted.ensures.list list (subst IsTrue (sym c.in-Ok.ensures.keeps.tells) tells) (c.in-Ok.ensures.reads list tells spells))

pub returns-in-Ok-clause-refused : goal.returns-in-Ok-clause-refused
returns-in-Ok-clause-refused g c =
    if_err c.counted.result _ _ (λ e was. record {
      reread = record {
        is_later = later-then g.D.Disk c.args.device c.in-Ok.opened.device e.0 g.met.D.Disk.same_on c.in-Ok.ensures.keeps was.reread.is_later;
        same = was.reread.same ∙ c.in-Ok.ensures.same;
      };
      place = was.place;
      failed = λ device is. rose_behind _ _ _ c.in-Ok.ensures.keeps.later was.reread.is_later.later (was.failed device is);
    }) c.counted.ensures.refused

pub returns-in-Ok-clause-damage : goal.returns-in-Ok-clause-damage
returns-in-Ok-clause-damage g c = λ tells.
    let spelled = c.in-Ok.ensures.damage.spelled tells in
    if_err c.counted.result _ _ (λ e told. tells_more 0 _ (IsMonitorUnfit c.args.epoch (g.D.Disk.held c.args.device)) e.1 (λ damage is. inr ((spelled.0, spelled.1, is.0), is.1)) told)
    (c.counted.ensures.damage spelled.0 (subst IsTrue (sym c.in-Ok.ensures.keeps.tells) tells) (c.in-Ok.ensures.reads spelled.0 tells spelled.1))

use Rattle.std.proofs.Common.{◌≡◌, ℕ, sym, subst, ◌∙◌, arith, ⊎_elim, IsTrue}
use Rattle.std.specs.Prelude.{Some, slice_get}
use Rattle.block_cache.proofs.Caches.{same_or_other}
use Rattle.trail_files.specs.AuditRecord.{audit_format}
use Rattle.trail_files.specs.Text.{Spells}
use Rattle.trail_replay.specs.Opening.{IsOpened}
use Rattle.trail_replay.specs.Rules.{rules_of}
use Rattle.run_opening.specs.Lasts.{IsNextFor, next_at}
use Rattle.run_opening.proofs.Lists.{item_same}
use Rattle.run_opening.proofs.Nexts.{next_none}
use Rattle.run_opening.proofs.Openings.{audit_fit, audit_unfit}
use Rattle.run_opening.proofs.Placings.{placing_opened}
use Rattle.run_opening.proofs.Refusals.{tells_more}
use Rattle.run_opening.proofs.opening.keep_audit.Goals as goal

pub new-requires : goal.new-requires
new-requires g c = placing_opened g.D.Disk (rules_of c.args.run.config.now c.args.number) c.args.device c.in-Ok.trail c.in-Ok.ensures.kept

pub returns-in-Ok-clause-kept : goal.returns-in-Ok-clause-kept
returns-in-Ok-clause-kept g c = (
  c.requires.number.above,
  c.requires.number.below,
  subst (IsOpened g.D.Disk audit_format (rules_of c.args.run.config.now c.args.number) c.args.device) (sym c.new.ensures.trail) c.in-Ok.ensures.kept,
  c.new.ensures.placed,
)

pub returns-in-Ok-clause-judged : goal.returns-in-Ok-clause-judged
returns-in-Ok-clause-judged g c = λ named devices at tell.
    audit_fit g.D.Disk c.args.run.config.now devices c.args.run.epoch named c.args.number c.args.device c.requires.number.above (omega (arith, c.requires.number.below, c.requires.valid.trails.few)) at
    (c.in-Ok.ensures.kept.spelled (tell c.args.number c.args.device (omega arith) at))

pub returns-in-Err-clause-judged : goal.returns-in-Err-clause-judged
returns-in-Err-clause-judged g c = λ named devices at tell.
    tells_more c.args.number _ _ c.in-Err.refused.1
    (λ damage unfit. audit_unfit g.D.Disk c.args.run.config.now devices c.args.run.epoch named c.args.number c.args.device damage c.requires.number.above c.requires.number.below at unfit)
    (c.in-Err.ensures.damage (tell c.args.number c.args.device (omega arith) at))

pub returns-in-Ok-clause-seen : goal.returns-in-Ok-clause-seen
returns-in-Ok-clause-seen g c = λ devices at seen. record {
  seen = λ volume low line device audit is lt there tells spells.
      ⊎_elim
      (λ same.
      let one : device ≡ c.args.device = item_same (slice_get devices c.args.number) device c.args.device (subst (λ (n : ℕ). slice_get devices n ≡ Some device) same there) at in
      c.in-Ok.ensures.own audit (subst (λ d. IsTrue (g.D.Disk.tells d)) one tells) (subst (λ (n : ℕ). Spells (audit_format (rules_of c.args.run.config.now n)) (g.D.Disk.held c.args.device) audit) same (subst (λ d. Spells (audit_format (rules_of c.args.run.config.now line.trail)) (g.D.Disk.held d) audit) one spells))
      volume low line is same (next_none volume low (next_at c.args.lasts.now volume) (seen.unseen volume line is (omega (arith, same)))))
      (λ other. subst (IsNextFor volume low audit) (sym (c.open_audit.ensures.others volume line is other)) (seen.seen volume low line device audit is (omega (arith, lt, other)) there tells spells))
      (same_or_other line.trail c.args.number);
  unseen = λ volume line is le. c.open_audit.ensures.others volume line is (λ e. absurd (omega (arith, le, e))) ∙ seen.unseen volume line is (omega (arith, le));
}

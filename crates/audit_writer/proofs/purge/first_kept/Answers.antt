use Rattle.std.proofs.Common.{◌≡◌, ◌++◌, ◌∷◌, [], List, IsTrue, ap, sym, ◌∙◌, subst, append_assoc, append-nil, arith, ⊎_elim}
use Rattle.trail_files.specs.Content.{Placed}
use Rattle.trail_files.specs.declared.audit_record.AuditRecord.{AuditRecord}
use Rattle.node_machine.specs.Same.{Among}
use Rattle.node_machine.specs.SameLaws.{among_append}
use Rattle.audit_writer.specs.Purge.{IsSpent, IsFirstKept}
use Rattle.audit_writer.proofs.Kept.{keeps_then, kept_at, none_kept}
use Rattle.audit_writer.proofs.purge.first_kept.Goals as goal

pub loop-item-preserved : goal.loop-item-preserved
loop-item-preserved g c =
    let loop = c.loop-item.invariant in
    let next = c.next.ensures in
    let item = c.in-Ok-Some.item in
    let file = c.next.new.cursor.file in
    record {
      holds = λ content holds. next.frame.holds content (loop.holds content holds);
      keeps = keeps_then g.D.Disk (λ a b d p q. g.met.D.Disk.same_on a b d p q) c.args.trail.now c.loop-item.trail c.next.new.self loop.keeps next.frame.keeps;
      phase = ap (λ v. v.phase) next.frame.view ∙ loop.phase;
      least = ap (λ v. v.least) next.frame.view ∙ loop.least;
      file = ap (λ v. v.file) next.frame.view ∙ loop.file;
      ahead = λ content told holds.
          let so = loop.ahead content told holds in
          let step = rw c.in-Ok-Some.field-0-is at (c.in-Ok-Some.ensures.passes.next so.1 (subst IsTrue (sym loop.keeps.device.tells) told) so.3) in (
            so.0 ++ (file, item) ∷ [],
            step.0,
            so.2 ∙ ap (λ (l : List (Placed AuditRecord)). so.0 ++ l) step.1 ∙ sym (append_assoc so.0 ((file, item) ∷ []) step.0),
            step.2,
            λ x there. ⊎_elim
                (λ (h : Among so.0 x). so.4 x h)
                (λ (h : Among ((file, item) ∷ []) x). ⊎_elim (λ (same : (file, item) ≡ x). subst (λ (y : Placed AuditRecord). IsSpent c.args.bounds.now y.1) same (c.is_spent.ensures.yes c.if-not-is_spent.false)) (λ (none : ⊥). absurd none) h)
                (among_append so.0 ((file, item) ∷ []) x there),
          );
    }

pub returns-then-not-is_spent-clause-first : goal.returns-then-not-is_spent-clause-first
returns-then-not-is_spent-clause-first g c = λ content told holds.
    let loop = c.loop-item.invariant in
    let item = c.in-Ok-Some.item in
    let file = c.next.new.cursor.file in
    let so = loop.ahead content told holds in
    let step = rw c.in-Ok-Some.field-0-is at (c.in-Ok-Some.ensures.passes.next so.1 (subst IsTrue (sym loop.keeps.device.tells) told) so.3) in
    let parts = so.2 ∙ ap (λ (l : List (Placed AuditRecord)). so.0 ++ l) step.1 in
    let is = kept_at c.args.bounds.now content so.0 step.0 (file, item) parts (c.in_files.ensures.split c.args.trail.now content file holds told) (c.in_files.ensures.within c.args.trail.now content holds told) so.4 (c.is_spent.ensures.no c.if-not-is_spent.true) in
    let front = is.front in
    let same : file ≡ c.min.result = omega (arith, c.min.ensures, c.file.ensures, front, holds.file, c.present_file-present.ensures) in
    subst (IsFirstKept c.args.bounds.now content) same is

pub returns-in-Ok-None-clause-first : goal.returns-in-Ok-None-clause-first
returns-in-Ok-None-clause-first g c = λ content told holds.
    let loop = c.loop-item.invariant in
    let so = loop.ahead content told holds in
    let nil = rw c.in-Ok-None.field-0-is at (c.in-Ok-None.ensures.passes.next so.1 (subst IsTrue (sym loop.keeps.device.tells) told) so.3) in
    none_kept c.args.bounds.now content so.0 c.present_file-present.result (so.2 ∙ ap (λ (l : List (Placed AuditRecord)). so.0 ++ l) nil ∙ append-nil so.0) (c.present_file-present.ensures ∙ holds.file) so.4

pub returns-in-Err-Damaged-clause-first : goal.returns-in-Err-Damaged-clause-first
returns-in-Err-Damaged-clause-first g c = λ content told holds.
    let loop = c.loop-item.invariant in
    let so = loop.ahead content told holds in
    absurd ((rw c.in-Err-Damaged.is at (c.next.ensures.damage.undamaged so.1 (subst IsTrue (sym loop.keeps.device.tells) told) so.3)) c.in-Err-Damaged.damage c.in-Err-Damaged.field-0-is)

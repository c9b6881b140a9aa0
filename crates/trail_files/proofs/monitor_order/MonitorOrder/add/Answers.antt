use Rattle.std.specs.Prelude.{not}
use Rattle.std.proofs.Common.{refl, inl, inr, ap, ◌∙◌}
use Rattle.trail_files.specs.declared.monitor_record.MonitorRecord.TheVariants.{Commit, Abort}
use Rattle.trail_files.proofs.MonitorStanding.{stands_begun, stands_ended}
use Rattle.trail_files.proofs.monitor_order.MonitorOrder.add.Goals as goal

pub returns-in-Start-clause-stands : goal.returns-in-Start-clause-stands
returns-in-Start-clause-stands c = λ before stands follows. rw c.in-Start.is (stands_begun c.args.self.now before c.in-Start.epoch stands (rw c.in-Start.is at follows))

pub returns-in_ok-insert-in-Commit-clause-new : goal.returns-in_ok-insert-in-Commit-clause-new
returns-in_ok-insert-in-Commit-clause-new c = λ before stands.
    let added = c.in_ok-insert-in-Commit.ensures.added ∙ ap not (stands.ended c.in-Commit.tx) in
    elim c.in-Commit.is [
      | inl is ↦ rw is added
      | inr is ↦ rw is added
    ]

pub returns-in_ok-insert-in-Commit-clause-stands : goal.returns-in_ok-insert-in-Commit-clause-stands
returns-in_ok-insert-in-Commit-clause-stands c = λ before stands follows.
    let updates = c.in_ok-insert-in-Commit.ensures.updates.0 in
    elim c.in-Commit.is [
      | inl is ↦ rw is (stands_ended c.args.self.now before (Commit c.in-Commit.tx) c.in-Commit.tx c.insert.new.self stands (rw is at follows) refl (λ q. refl) updates)
      | inr is ↦ rw is (stands_ended c.args.self.now before (Abort c.in-Commit.tx) c.in-Commit.tx c.insert.new.self stands (rw is at follows) refl (λ q. refl) updates)
    ]

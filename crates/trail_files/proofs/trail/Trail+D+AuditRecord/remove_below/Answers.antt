use Rattle.std.specs.Prelude.{Some}
use Rattle.std.proofs.Common.{◌≡◌, ◌≤◌, true, ap, sym, refl, subst, ◌∙◌}
use Rattle.disk_model.specs.Held.{IsLeast}
use Rattle.trail_files.specs.AuditRecord.{audit_format}
use Rattle.trail_files.specs.Removed.{IsCut, AreThere}
use Rattle.trail_files.specs.Trail.{Ahead}
use Rattle.trail_files.proofs.Followed.{ahead_removed}
use Rattle.trail_files.specs.Holds.{Holds}
use Rattle.trail_files.proofs.AuditRests.{order_behind}
use Rattle.trail_files.proofs.Dropping.{holds_dropped}
use Rattle.trail_files.proofs.trail.Trail+D+AuditRecord.remove_below.Goals as goal

pub returns-clause-ahead : goal.returns-clause-ahead
returns-clause-ahead g c = λ cursor rest told low is.
    let held = g.D.Disk.held in
    let t = c.self.inside in
    let told' = subst (λ t. g.D.Disk.tells t.device ≡ true) (sym c.self.view_is) told in
    let is' = subst (λ t. Ahead held audit_format t cursor rest) (sym c.self.view_is) is in
    let device : c.deref_mut.result.now ≡ t.device.value = c.deref_mut.ensures.value in
    ahead_removed held audit_format _ c.clear_below.new.device cursor rest is' c.clear_below.new.least c.args.file c.clear_below.ensures.rises c.clear_below.ensures.within low
    (λ n le. c.clear_below.ensures.kept (ap g.D.Disk.tells device ∙ told') n le ∙ ap (λ d. held d n) device)

pub returns-clause-holds : goal.returns-clause-holds
returns-clause-holds g c = λ content is.
    let tells = g.D.Disk.tells in
    let held = g.D.Disk.held in
    let t = c.self.inside in
    let device : c.deref_mut.result.now ≡ t.device.value = c.deref_mut.ensures.value in
    let new = c.clear_below.new.device in
    let begun = c.clear_below.new.least in
    let is' = subst (λ v. Holds g.D.Disk audit_format v content) (sym c.self.view_is) is in
    let low = subst (λ v. c.args.file ≤ v.file) (sym c.self.view_is) c.requires.present in
    holds_dropped g.D.Disk audit_format _ (λ item place other. refl) (λ n. refl) order_behind new begun c.args.file low (c.clear_below.ensures.works.is_later.tells ∙ ap tells device) content is' c.clear_below.result (λ told start least begins there.
    let cut = c.clear_below.ensures.cut start (ap tells device ∙ told) (subst (λ d. IsLeast (held d) (Some start)) (sym device) least) begins (subst (λ d. AreThere (held d) start c.args.file) (sym device) there) in
    (cut.0, subst (λ d. IsCut (held d) (held new) begun start cut.0 c.args.file) device cut.1, cut.2))

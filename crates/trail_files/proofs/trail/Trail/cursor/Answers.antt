use Rattle.std.proofs.Common.{◌≡◌, true, subst, sym}
use Rattle.trail_files.specs.declared.cursor.Cursor.{Cursor}
use Rattle.trail_files.specs.Holds.{Holds}
use Rattle.trail_files.specs.Trail.{Reads, Ahead}
use Rattle.trail_files.proofs.Openings.{ahead_reads}
use Rattle.trail_files.proofs.Contents.{holds_ahead}
use Rattle.trail_files.proofs.trail.Trail.cursor.Goals as goal

pub returns-clause-reads : goal.returns-clause-reads
returns-clause-reads g c = λ records is.
    let held = g.D.Disk.held in
    let is' = subst (λ t. Reads held g.R.Spelled.format t records) (sym c.self.view_is) is in
    let has = ahead_reads held g.R.Spelled.format _ records is' in
    (has.0, has.1, subst (λ (cursor : Cursor). Ahead held g.R.Spelled.format c.args.self.now cursor has.0) (sym c.first.ensures) (subst (λ t. let first : Cursor = record { file = c.self.inside.least; at = 0; left = 0; place = 1 } in Ahead held g.R.Spelled.format t first has.0) c.self.view_is has.2))

pub returns-clause-holds : goal.returns-clause-holds
returns-clause-holds g c = λ content is told.
    let held = g.D.Disk.held in
    let first : Cursor = record { file = c.self.inside.least; at = 0; left = 0; place = 1 } in
    let is' = subst (λ t. Holds g.D.Disk g.R.Spelled.format t content) (sym c.self.view_is) is in
    let told' = subst (λ t. g.D.Disk.tells t.device ≡ true) (sym c.self.view_is) told in
    subst (λ (cursor : Cursor). Ahead held g.R.Spelled.format c.args.self.now cursor content.placed) (sym c.first.ensures) (subst (λ t. Ahead held g.R.Spelled.format t first content.placed) c.self.view_is (holds_ahead g.D.Disk g.R.Spelled.format _ content is' told'))

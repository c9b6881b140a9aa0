-- A trail that tells what it holds has its records in one way.
use Rattle.std.specs.Prelude.{◌≡◌, IsTrue, List, ◌++◌, true, length}
use Rattle.std.proofs.Common.{arith, lit<, sym, subst, ap, ◌∙◌}
use Rattle.disk_model.specs.declared.disk.Disk as disk
use Rattle.trail_files.specs.AuditLaws.{audit_one, audit_length, audit_begins}
use Rattle.trail_files.specs.AuditRecord.{audit_format}
use Rattle.trail_files.specs.Content.{Placed, batch_of, landed_in, placed_in, records_in}
use Rattle.trail_files.specs.Holds.{IsPending, Stands}
use Rattle.trail_files.specs.Text.{IsTrailText, all_of, records_of}
use Rattle.trail_files.specs.Trail.{IsReady, View}
use Rattle.trail_files.specs.declared.audit_record.AuditRecord.{AuditRecord}
use Rattle.trail_files.proofs.Laws.{rolled_now, same_text}
use Rattle.trail_files.proofs.Placing.{records_in-placed}
use Rattle.run_opening.specs.Placed.{HasPlaced}

module _ {D : Type 0} (kind : disk.Ghosts D) (trail : View D) (tells : IsTrue (kind.tells trail.device)) where
  module _ (placed : List (Placed AuditRecord)) (has : HasPlaced kind trail placed) where
    stands : Stands kind.held (audit_format trail.rules) trail has.content
    stands = has.holds.told tells

    ready : IsReady kind.held (audit_format trail.rules) trail stands.files stands.batches
    ready = subst (IsPending kind.held (audit_format trail.rules) trail stands.files stands.batches) has.pending stands.stands

    ordered : (audit_format trail.rules).in_order (records_of stands.files ++ all_of stands.batches) ≡ true
    ordered = ap (audit_format trail.rules).in_order (sym (records_in-placed stands.start stands.files stands.batches) ∙ ap records_in (sym stands.placed_is)) ∙ audit_begins (landed_in has.content) (batch_of has.content.pending) stands.in_order

    whole : IsTrailText (audit_format trail.rules) (kind.held trail.device) ready.front.start stands.files stands.batches
    whole =
        let front = ready.front in
        let text = ready.file.2 in
        let file_is = front.counts.file_is in
        record {
          numbers = omega (arith, front.numbers, file_is);
          rolled = rolled_now (audit_format trail.rules) (kind.held trail.device) front.start stands.files front.rolled;
          last = (ready.file.0, ap (kind.held trail.device) (sym file_is) ∙ ready.file.1, record { each = front.counts.each; gate = text.gate; rest = text.rest; closed = text.closed; parts = text.parts });
        }

  pub one_placed : (xs ys : List (Placed AuditRecord)) → HasPlaced kind trail xs → HasPlaced kind trail ys → xs ≡ ys
  one_placed xs ys x y =
      let sx = stands xs x in
      let sy = stands ys y in
      let same = same_text (audit_format trail.rules) 128 (lit< tt) (λ item place. audit_length item item.position) (λ a b place va vb e. (audit_one trail.rules a b va vb e).0) audit_begins (kind.held trail.device)
      (ready xs x).front.start (ready ys y).front.start sx.files sy.files sx.batches sy.batches (ready xs x).front.is_least (ready ys y).front.is_least (whole xs x) (whole ys y) (ordered xs x) (ordered ys y) in
      let start : sx.start ≡ sy.start = omega (arith, sx.file_is, sy.file_is, ap length same.1) in
      sym x.placed_is ∙ sx.placed_is ∙ (λ i. placed_in (start i) (same.1 i) (same.2 i)) ∙ sym sy.placed_is ∙ y.placed_is

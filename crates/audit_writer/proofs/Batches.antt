-- The next batch of what waits may be offered.
use Rattle.std.specs.Prelude.{ℕ, ◌==◌, ◌<◌, ◌≤◌, List, [], ◌++◌, length}
use Rattle.std.proofs.Common.{◌≡◌, ap, sym, ◌∙◌, subst, append_assoc}
use Rattle.std.proofs.lemmas.List.Elements.{filter-append}
use Rattle.disk_model.specs.declared.disk.Disk as disk
use Rattle.trail_files.specs.declared.audit_record.AuditRecord.{AuditRecord}
use Rattle.trail_files.specs.Trail.{View}
use Rattle.node_machine.specs.declared.event.TrailEvent.TheVariants.{Offer}
use Rattle.node_machine.specs.Parts.{TrailPart, Fact}
use Rattle.node_machine.specs.Trail.{offered, landed, present_file, records_of, TrailMay, TrailAsks}
use Rattle.node_machine.specs.Same.{Among}
use Rattle.node_machine.specs.SameLaws.{among_left}
use Rattle.audit_writer.specs.Writer.{Belong, disc_made}
use Rattle.audit_writer.proofs.Queues.{still_some}

-- the disc's records of two rows
pub records_of-append : (d : ℕ) (xs ys : List AuditRecord) → records_of d (xs ++ ys) ≡ records_of d xs ++ records_of d ys
records_of-append d xs ys = filter-append (λ r. r.disc == d) xs ys

module _ {D : Type 0} (kind : disk.Ghosts D) (premise : Type 0) (known : Fact → Type 0) (part : TrailPart) (view : View D) (queue : List AuditRecord) (is : Belong kind premise known part view queue) where
  pub may_offer : (file : ℕ) (batch rest : List AuditRecord) → queue ≡ batch ++ rest → 0 < length batch → length batch ≤ 512 → offered part.events ≡ [] → present_file part.present part.events ≤ file
      → TrailMay part (Offer file batch) × TrailAsks known part (Offer file batch)
  may_offer file batch rest parts some few none later = (
    record { idle = none; some = some; few = few; own = λ r there. is.own r (subst (λ (l : List AuditRecord). Among l r) (sym parts) (among_left batch rest r there)); behind = later },
    λ d ne.
        let done = landed part.events in
        let split : disc_made part queue d ≡ records_of d (done ++ batch) ++ records_of d rest =
        ap (records_of d) (ap (λ (l : List AuditRecord). done ++ l) parts ∙ sym (append_assoc done batch rest)) ∙ records_of-append d (done ++ batch) rest in
        is.made d (records_of d (done ++ batch)) (records_of d rest) split (λ e. still_some (records_of d done) (records_of d batch) ne (sym (records_of-append d done batch) ∙ e)),
  )

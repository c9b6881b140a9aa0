-- Each image of a writer's device is one that its part allows.
use Rattle.std.specs.Prelude.{ℕ, ◌≤◌, nat_le, Bool, List, [], ◌∷◌, ◌++◌}
use Rattle.std.proofs.Common.{◌≡◌, true, false, inl, inr, ⊎_elim, refl, ap, sym, ◌∙◌, subst, arith, append-nil}
use Rattle.std.proofs.lemmas.Bool.{le-leb}
use Rattle.disk_model.specs.declared.disk.Disk as disk
use Rattle.disk_model.specs.Held.{Held}
use Rattle.trail_files.specs.declared.audit_record.AuditRecord.{AuditRecord}
use Rattle.trail_files.specs.AuditRecord.{audit_format}
use Rattle.trail_files.specs.Content.{Pending, in_file, from_file, records_in, batch_of, offered_of, landed_in}
use Rattle.trail_files.specs.Content.Pending.{Nothing, Loaded, Offered, Rolling}
use Rattle.trail_files.specs.Holds.{MaySpell}
use Rattle.trail_files.specs.Trail.{View, Rests}
use Rattle.trail_files.proofs.Placing.{records_in-append, records_in-in_file, from_file-append}
use Rattle.node_machine.specs.Parts.{Standing, TrailPart}
use Rattle.node_machine.specs.Trail.{landed_standing, offered_standing}
use Rattle.node_machine.specs.Shows.{ShowsTrail, records_from}
use Rattle.audit_writer.specs.Writer.{Stands, placed_of}
use Rattle.audit_writer.proofs.Queues.{from_file-kept, placed_of-append}

-- the records in files from one on, with their files or without
records_from-placed : (file : ℕ) (xs : List Standing) → records_in (from_file file (placed_of xs)) ≡ records_from file xs
records_from-placed file [] = refl
records_from-placed file (x ∷ xs) = at (nat_le file x.file) refl (records_from-placed file xs)
  where
    at : (b : Bool) → nat_le file x.file ≡ b → records_in (from_file file (placed_of xs)) ≡ records_from file xs → records_in (from_file file (placed_of (x ∷ xs))) ≡ records_from file (x ∷ xs)
    at true e rest = rw e (ap (λ (l : List AuditRecord). x.item ∷ l) rest)
    at false e rest = rw e rest

module _ {D : Type 0} (kind : disk.Ghosts D) (trail : View D) (part : TrailPart) (queue : List AuditRecord) (image : Held) (s : Stands kind trail part queue) where
  -- the image spells what has landed
  without : Rests (audit_format trail.rules) image (landed_in s.content) → (audit : List AuditRecord) × ShowsTrail part audit × Rests (audit_format trail.rules) image audit
  without rests =
      let all = s.old ++ landed_standing part.events in (
        landed_in s.content,
        record { old = s.old; told = s.told; all = all; is_all = inl refl; least = s.from; gone = s.gone; audit_is = ap records_in s.placed ∙ records_from-placed s.from all },
        rests,
      )

  -- it spells what is offered too
  with_batch : Rests (audit_format trail.rules) image (landed_in s.content ++ batch_of s.content.pending) → (audit : List AuditRecord) × ShowsTrail part audit × Rests (audit_format trail.rules) image audit
  with_batch rests =
      let c = s.content in
      let batch = batch_of c.pending in
      let before = s.old ++ landed_standing part.events in
      let low : s.from ≤ c.file = omega (arith, s.front, s.holds.file) in
      let kept : in_file c.file batch ≡ from_file s.from (placed_of (offered_standing part.events)) = sym (from_file-kept s.from c.file batch (le-leb s.from c.file low)) ∙ ap (from_file s.from) s.pending in
      let both : c.placed ++ in_file c.file batch ≡ from_file s.from (placed_of (before ++ offered_standing part.events)) =
      (λ i. s.placed i ++ kept i)
      ∙ sym (from_file-append s.from (placed_of before) (placed_of (offered_standing part.events)))
      ∙ ap (from_file s.from) (sym (placed_of-append before (offered_standing part.events))) in (
        landed_in c ++ batch,
        record {
          old = s.old;
          told = s.told;
          all = before ++ offered_standing part.events;
          is_all = inr refl;
          least = s.from;
          gone = s.gone;
          audit_is =
              sym (records_in-append c.placed (in_file c.file batch) ∙ ap (λ (l : List AuditRecord). landed_in c ++ l) (records_in-in_file c.file batch))
              ∙ ap records_in both
              ∙ records_from-placed s.from (before ++ offered_standing part.events);
        },
        rests,
      )

  pub shown : MaySpell (audit_format trail.rules) s.content image → (audit : List AuditRecord) × ShowsTrail part audit × Rests (audit_format trail.rules) image audit
  shown spells = ⊎_elim without (at s.content.pending refl) spells
    where
      at : (p : Pending AuditRecord) → s.content.pending ≡ p → Rests (audit_format trail.rules) image (landed_in s.content ++ offered_of p) → (audit : List AuditRecord) × ShowsTrail part audit × Rests (audit_format trail.rules) image audit
      at Nothing e more = without (subst (λ (l : List AuditRecord). Rests (audit_format trail.rules) image l) (append-nil (landed_in s.content)) more)
      at (Loaded batch) e more = without (subst (λ (l : List AuditRecord). Rests (audit_format trail.rules) image l) (append-nil (landed_in s.content)) more)
      at (Offered batch) e more = with_batch (subst (λ (p : Pending AuditRecord). Rests (audit_format trail.rules) image (landed_in s.content ++ batch_of p)) (sym e) more)
      at Rolling e more = without (subst (λ (l : List AuditRecord). Rests (audit_format trail.rules) image l) (append-nil (landed_in s.content)) more)

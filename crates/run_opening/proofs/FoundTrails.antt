-- What was found of a trail is what it told.
use Rattle.std.proofs.Common.{◌≡◌, ℕ, ◌+◌, ◌≤◌, List, [], ◌∷◌, ◌++◌, map, length, refl, sym, subst, ap, ◌∙◌, arith, IsTrue}
use Rattle.std.proofs.Math.Logic.{∥∥₁_elim}
use base.Stored.{Coded-set}
use Rattle.std.specs.Prelude.{option_map}
use Rattle.disk_model.specs.declared.disk.Disk as disk
use Rattle.node_machine.specs.Law.{AreInOrder, IsFoundTrail}
use Rattle.node_machine.specs.Parts.{Standing}
use Rattle.trail_files.specs.AuditRecord.{audit_format}
use Rattle.trail_files.specs.Content.{Placed, in_file, placed_in as placed_files, records_in}
use Rattle.trail_files.specs.Holds.{Stands}
use Rattle.trail_files.specs.Text.{all_of}
use Rattle.trail_files.specs.Trail.{Rests}
use Rattle.trail_files.specs.declared.audit_record.AuditRecord.{AuditRecord}
use Rattle.trail_files.specs.declared.rules.Rules.{Rules}
use Rattle.run_opening.specs.Codes.{placed_code}
use Rattle.run_opening.specs.Found.{standings, trail_found}
use Rattle.trail_replay.specs.Opening.{IsOpened}
use Rattle.run_opening.specs.Placed.{AuditView, HasPlacedAlone, IsPlaced}
use Rattle.run_opening.proofs.Placings.{landed_placed, rest_at}

items : (xs : List (Placed AuditRecord)) → map (λ (x : Standing). x.item) (standings xs) ≡ records_in xs
items [] = refl
items (x ∷ xs) = ap (λ (rs : List AuditRecord). x.1 ∷ rs) (items xs)

order_lower : (low file last : ℕ) (xs : List Standing) → low ≤ file → AreInOrder file xs last → AreInOrder low xs last
order_lower low file last [] le order = omega (arith, le, order)
order_lower low file last (x ∷ xs) le order = (let first = order.0 in (omega (arith, le, first), order.1))

order_file : (file last : ℕ) (rs : List AuditRecord) (xs : List (Placed AuditRecord)) → AreInOrder file (standings xs) last → AreInOrder file (standings (in_file file rs ++ xs)) last
order_file file last [] xs order = order
order_file file last (r ∷ rs) xs order = (omega arith, order_file file last rs xs order)

order_last : (file last : ℕ) (rs : List AuditRecord) → file ≤ last → AreInOrder file (standings (in_file file rs)) last
order_last file last [] le = le
order_last file last (r ∷ rs) le = (omega arith, order_last file last rs le)

order_placed : (file last : ℕ) (files : List (List (List AuditRecord))) (batches : List (List AuditRecord)) → file + length files ≤ last → AreInOrder file (standings (placed_files file files batches)) last
order_placed file last [] batches le = order_last file last (all_of batches) (omega (arith, le))
order_placed file last (first ∷ files) batches le =
    order_file file last (all_of first) (placed_files (file + 1) files batches)
    (order_lower file (file + 1) last (standings (placed_files (file + 1) files batches)) (omega arith) (order_placed (file + 1) last files batches (omega (arith, le))))

module _ {D : Type 0} (kind : disk.Ghosts D) (rules : Rules) (device : D) (kept : AuditView D) (opened : IsOpened kind audit_format rules device kept.trail) (is : IsPlaced kind kept) where
  -- of a trail that told its audit and was at rest it was found, each record in its file
  pub trail_is : (audit : List AuditRecord) → IsTrue (kind.tells device) → Rests (audit_format rules) (kind.held device) audit → IsFoundTrail (trail_found kept) audit
  trail_is audit tells rests =
      let rest = rest_at kind rules device kept.trail opened tells audit rests in
      let there = is.there rest in
      let has = opened.landed audit tells rests in
      let own = landed_placed kind rules device kept.trail opened tells audit has in
      let again : IsTrue (kind.tells kept.trail.device) = opened.reread.is_later.tells ∙ tells in
      let same : there.0 ≡ has.content.placed = ∥∥₁_elim (is.told there.0 there.1).1 (Coded-set placed_code there.0 has.content.placed) (λ (p : HasPlacedAlone kind kept.trail there.0). p.1 has.content.placed own) in
      let stands : Stands kind.held (audit_format kept.trail.rules) kept.trail has.content = has.holds.told again in
      let placed : there.0 ≡ placed_files stands.start stands.files stands.batches = same ∙ stands.placed_is in
      record {
        old = standings there.0;
        told = ap (option_map standings) there.1;
        items = items there.0 ∙ ap records_in same ∙ has.landed;
        in_order = subst (λ (xs : List (Placed AuditRecord)). AreInOrder 0 (standings xs) kept.trail.file) (sym placed)
            (order_lower 0 stands.start kept.trail.file (standings (placed_files stands.start stands.files stands.batches)) (omega arith) (order_placed stands.start kept.trail.file stands.files stands.batches (omega (arith, stands.file_is))));
      }

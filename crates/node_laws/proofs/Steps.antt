-- A part with one more event is, seen so, the part after that event.
use Rattle.std.specs.Prelude.{◌≡◌, ℕ, ◌+◌, ◌==◌, ◌&&◌, Bool, true, false, cond, List, [], ◌∷◌, ◌++◌, length, Option, Some, None, if◌then◌else◌}
use Rattle.std.proofs.Common.{refl, ap, sym, ◌∙◌, eqb-true}
use mathlib.Core.Path.{fun_ext}
use Rattle.tmf_model.specs.RecordMap.{RecordMap}
use Rattle.trail_files.specs.declared.audit_record.AuditRecord.{AuditRecord}
use Rattle.trail_files.specs.declared.monitor_record.MonitorRecord.{MonitorRecord}
use Rattle.any_node.specs.Layout.{numbers, put}
use Rattle.any_node.specs.Value.{AuditRecord as AnyRecord}
use Rattle.any_node.specs.Node.{step_work, step_disc, step_trail, step_monitor, step_dump, undoing, undo_record}
use Rattle.any_node.specs.Node.{Disc as AnyDisc}
use Rattle.node_machine.specs.declared.event.Cause.TheVariants.{Busy, BusyFile, Full, Refused, Dumping}
use Rattle.node_machine.specs.declared.event.DiscEvent.{DiscEvent}
use Rattle.node_machine.specs.declared.event.DiscEvent.TheVariants.{Write, Read, Lock, Turn, Undo, Close as CloseEvent, Release, Draw, Drawn, Low, Lowered, Start, Raise, Failed}
use Rattle.node_machine.specs.declared.event.DumpEvent.{DumpEvent}
use Rattle.node_machine.specs.declared.event.DumpEvent.TheVariants.{Copy, Seal, Sealed, Failed as DumpFailed}
use Rattle.node_machine.specs.declared.event.MonitorEvent.{MonitorEvent}
use Rattle.node_machine.specs.declared.event.MonitorEvent.TheVariants.{Offer as OfferCar, Land as LandCar, Failed as MonitorFailed}
use Rattle.node_machine.specs.declared.event.TrailEvent.{TrailEvent}
use Rattle.node_machine.specs.declared.event.TrailEvent.TheVariants.{Offer, Land, Purge, Failed as TrailFailed}
use Rattle.node_machine.specs.declared.event.WorkerEvent.{WorkerEvent}
use Rattle.node_machine.specs.declared.event.WorkerEvent.TheVariants.{Begin, Enlist, Finish, End, Quit}
use Rattle.node_machine.specs.Disc.{MayUndo, DiscMay}
use Rattle.node_machine.specs.Made.{values_after}
use Rattle.node_machine.specs.Parts.{Entry as FileEntry}
use Rattle.node_machine.specs.Parts.{DiscPart, TrailPart, MonitorPart, DumpPart}
use Rattle.node_machine.specs.Dump.{copied}
use Rattle.node_machine.specs.Same.{is_same_block}
use Rattle.node_machine.specs.Opening.{Found}
use Rattle.node_laws.specs.Layouts.{layout, transids, file_keys, file_blocks, FileKey, FileBlock, Content}
use Rattle.node_laws.specs.Views.{rec_of, recs_of, recs_made, recs_left, without_first, change_of, base_of, copies_of, any_worker, any_disc, any_trail, any_monitor, any_dump, any_worker_event, any_disc_event, any_trail_event, any_monitor_event, any_dump_event}
use Rattle.node_laws.proofs.Records.{left_recs, length-recs_made, of_told_values}

module _ (found : Found) where
  pub worker_step : (number : ℕ) (events : List WorkerEvent) (e : WorkerEvent) → any_worker found number (e ∷ events) ≡ step_work (layout found) (any_worker found number events) (any_worker_event found e)
  worker_step number events (Begin t) = refl
  worker_step number events (Enlist t d) = refl
  worker_step number events (Finish t) = refl
  worker_step number events (End t) = refl
  worker_step number events (Quit t) = refl

  pub trail_step : (lost : ℕ → ℕ) (s : TrailPart) (e : TrailEvent) → any_trail found lost (record s { events = e ∷ s.events }) ≡ step_trail (layout found) (any_trail found lost s) (any_trail_event found e)
  trail_step lost s (Offer file records) = refl
  trail_step lost s Land = refl
  trail_step lost s (Purge below last) = refl
  trail_step lost s (TrailFailed by) = refl

  pub monitor_step : (before : List MonitorRecord) (s : MonitorPart) (e : MonitorEvent) → any_monitor found before (record s { events = e ∷ s.events }) ≡ step_monitor (layout found) (any_monitor found before s) (any_monitor_event found e)
  monitor_step before s (OfferCar records) = refl
  monitor_step before s LandCar = refl
  monitor_step before s (MonitorFailed by) = refl

  pub dump_step : (values : RecordMap) (s : DumpPart) (e : DumpEvent) → any_dump found values (record s { events = e ∷ s.events }) ≡ step_dump (layout found) (any_dump found values s) (any_dump_event found e)
  dump_step values s (Copy number file block position) =
      ap (λ (c : ℕ → FileBlock → Option ℕ). record (any_dump found values s) { copied = c }) (fun_ext (λ i. fun_ext (λ b. copy_case i b)))
    where
      -- the copy of a block of this dump, of another block of it, and of another dump
      copy_at : (is_dump is_block : Bool) (a b c : Option ℕ) → (is_dump ≡ true → b ≡ c) → (if is_dump && is_block then a else c) ≡ cond is_dump (cond is_block a b) c
      copy_at true true a b c e = refl
      copy_at true false a b c e = sym (e refl)
      copy_at false is_block a b c e = refl

      copy_case : (i : ℕ) (b : FileBlock) → copied (Copy number file block position ∷ s.events) i b.0 b.1 ≡ put numbers number (put file_blocks (file, block) (Some position) (copies_of found s.events number)) (copies_of found s.events) i b
      copy_case i b = copy_at (i == number) (is_same_block b.0 b.1 file block) (Some position) (copied s.events number b.0 b.1) (copied s.events i b.0 b.1) (λ e. ap (λ (n : ℕ). copied s.events n b.0 b.1) (sym (eqb-true i number e)))
          ∙ spread (i == number) (put file_blocks (file, block) (Some position) (copies_of found s.events number)) (copies_of found s.events i) b
        where
          spread : (is : Bool) (f g : FileBlock → Option ℕ) (x : FileBlock) → cond is (f x) (g x) ≡ (cond is f g) x
          spread true f g x = refl
          spread false f g x = refl
  dump_step values s (Seal number start) = refl
  dump_step values s (Sealed number true) = refl
  dump_step values s (Sealed number false) = refl
  dump_step values s (DumpFailed by) = refl

  -- what stands of a volume that tells its bytes
  abbrev pub IsTold : DiscPart → Type 0
  IsTold s = (entries : List FileEntry) × (s.base ≡ Some entries)

  undo_step : (s : DiscPart) (r : AuditRecord) → IsTold s → MayUndo s r → any_disc found (record s { events = Undo r ∷ s.events }) ≡ undoing (layout found) r.tx (any_disc found s) (recs_left found s.events r.tx)
  undo_step s r told may =
      let c : AuditRecord = may.change in
      let values : RecordMap = values_after (base_of s.base) s.events in
      let left : recs_left found s.events r.tx ≡ rec_of found c ∷ recs_of found may.others = left_recs found s.events r.tx ∙ ap (recs_of found) may.newest in
      let key : (r.file, r.key) ≡ (c.file, c.key) = λ i. (may.file i, may.key i) in
      let found_there : r.before ≡ values r.file r.key = of_told_values s.base told.0 s.events (λ v. r.before ≡ v r.file r.key) told.1 may.told in
      let before : r.before ≡ values c.file c.key = found_there ∙ ap (λ (k : FileKey). values k.0 k.1) key in
      let place : r.position ≡ s.first + length (recs_made found s.events) = may.position ∙ ap (λ n. s.first + n) (sym (length-recs_made found s.events)) in
      let kind : change_of r.kind r.before r.after ≡ None = ap (λ k. change_of k r.before r.after) may.kind in
      let item : rec_of found r ≡ undo_record (layout found) r.tx (any_disc found s) (rec_of found c) =
      λ i. record { tx = r.tx; disc = may.disc i; position = place i; key = key i; before = before i; after = may.after i; op = kind i } in
      ap (λ xs. with_undo s r (r.file, r.key) r.after (rec_of found r) (without_first found xs)) left
      ∙ (λ i. with_undo s r (key i) (may.after i) (item i) (recs_of found may.others))
      ∙ sym (ap (undoing (layout found) r.tx (any_disc found s)) left)
    where
      with_undo : (s : DiscPart) (r : AuditRecord) → FileKey → Content → AnyRecord (layout found) → List (AnyRecord (layout found)) → AnyDisc (layout found)
      with_undo s r key value item rest = record (any_disc found s) {
        map = put file_keys key value (any_disc found s).map;
        made = (any_disc found s).made ++ item ∷ [];
        left = put transids r.tx rest (any_disc found s).left;
        undone = put transids r.tx true (any_disc found s).undone;
      }

  pub disc_step : (s : DiscPart) (e : DiscEvent) → IsTold s → DiscMay s e → any_disc found (record s { events = e ∷ s.events }) ≡ step_disc (layout found) (any_disc found s) (any_disc_event found e)
  disc_step s (Write r op) told may = refl
  disc_step s (Read t file key value) told may = refl
  disc_step s (Lock t file) told may = refl
  disc_step s (Turn t (Busy step h)) told may = refl
  disc_step s (Turn t (BusyFile file h)) told may = refl
  disc_step s (Turn t (Full step)) told may = refl
  disc_step s (Turn t (Refused step reason)) told may = refl
  disc_step s (Turn t Dumping) told may = refl
  disc_step s (Undo r) told may = undo_step s r told may
  disc_step s (CloseEvent t) told may = refl
  disc_step s (Release t) told may = refl
  disc_step s (Draw file block position) told may = refl
  disc_step s (Drawn file block) told may = refl
  disc_step s (Low position by) told may = refl
  disc_step s Lowered told may = refl
  disc_step s (Start number start item) told may = refl
  disc_step s (Raise number rest) told may = refl
  disc_step s (Failed by) told may = refl

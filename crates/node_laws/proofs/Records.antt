-- The records of a part are those of its events.
use Rattle.std.specs.Prelude.{◌≡◌, ℕ, suc, Bool, true, false, List, [], ◌∷◌, ◌++◌, length, drop, Option, Some, None, if◌then◌else◌}
use Rattle.std.proofs.Common.{refl, ap, sym, ◌∙◌}
use Rattle.tmf_model.specs.RecordMap.{RecordMap}
use Rattle.tmf_model.specs.declared.transid.Transid.{Transid}
use Rattle.trail_files.specs.MonitorOrder.{is_same_transid}
use Rattle.trail_files.specs.declared.audit_record.AuditRecord.{AuditRecord}
use Rattle.any_node.specs.Value.{AuditRecord as AnyRecord}
use Rattle.node_machine.specs.declared.event.DiscEvent.{DiscEvent}
use Rattle.node_machine.specs.declared.event.DiscEvent.TheVariants.{Write, Read, Lock, Turn, Undo, Close as CloseEvent, Release, Draw, Drawn, Low, Lowered, Start, Raise, Failed}
use Rattle.node_machine.specs.Parts.{Entry as FileEntry}
use Rattle.node_machine.specs.Made.{made, changes_left, values_after}
use Rattle.node_machine.specs.Disc.{OfValues}
use Rattle.node_machine.specs.Opening.{Found}
use Rattle.node_machine.specs.SameLaws.{same_is}
use Rattle.node_laws.specs.Layouts.{layout}
use Rattle.node_laws.specs.Views.{rec_of, recs_of, recs_made, recs_left, without_first, base_of}

module _ (found : Found) where
  pub recs_of-append : (xs ys : List AuditRecord) → recs_of found (xs ++ ys) ≡ recs_of found xs ++ recs_of found ys
  recs_of-append [] ys = refl
  recs_of-append (x ∷ xs) ys = ap (λ rs. rec_of found x ∷ rs) (recs_of-append xs ys)

  pub length-recs_of : (xs : List AuditRecord) → length (recs_of found xs) ≡ length xs
  length-recs_of [] = refl
  length-recs_of (x ∷ xs) = ap (λ (n : ℕ). suc n) (length-recs_of xs)

  pub made_recs : (events : List DiscEvent) → recs_made found events ≡ recs_of found (made events)
  made_recs [] = refl
  made_recs (Write r op ∷ events) = ap (λ rs. rs ++ rec_of found r ∷ []) (made_recs events) ∙ sym (recs_of-append (made events) (r ∷ []))
  made_recs (Undo r ∷ events) = ap (λ rs. rs ++ rec_of found r ∷ []) (made_recs events) ∙ sym (recs_of-append (made events) (r ∷ []))
  made_recs (Read t file key value ∷ events) = made_recs events
  made_recs (Lock t file ∷ events) = made_recs events
  made_recs (Turn t cause ∷ events) = made_recs events
  made_recs (CloseEvent t ∷ events) = made_recs events
  made_recs (Release t ∷ events) = made_recs events
  made_recs (Draw file block position ∷ events) = made_recs events
  made_recs (Drawn file block ∷ events) = made_recs events
  made_recs (Low position by ∷ events) = made_recs events
  made_recs (Lowered ∷ events) = made_recs events
  made_recs (Start number start item ∷ events) = made_recs events
  made_recs (Raise number rest ∷ events) = made_recs events
  made_recs (Failed by ∷ events) = made_recs events

  pub length-recs_made : (events : List DiscEvent) → length (recs_made found events) ≡ length (made events)
  length-recs_made events = ap length (made_recs events) ∙ length-recs_of (made events)

  rest_recs : (xs : List AuditRecord) → without_first found (recs_of found xs) ≡ recs_of found (drop 1 xs)
  rest_recs [] = refl
  rest_recs (x ∷ xs) = refl

  -- where an identifier is the one of a record, what is left of it is what is left of that
  left_case : (b : Bool) (x y z : List (AnyRecord (layout found))) (u v : List AuditRecord) → (b ≡ true → x ≡ recs_of found u) → y ≡ recs_of found v → (if b then x else y) ≡ recs_of found (if b then u else v)
  left_case true x y z u v e f = e refl
  left_case false x y z u v e f = f

  pub left_recs : (events : List DiscEvent) (t : Transid) → recs_left found events t ≡ recs_of found (changes_left events t)
  left_recs [] t = refl
  left_recs (Write r op ∷ events) t =
      left_case (is_same_transid r.tx t) (rec_of found r ∷ recs_left found events r.tx) (recs_left found events t) [] (r ∷ changes_left events t) (changes_left events t)
      (λ same. ap (λ rs. rec_of found r ∷ rs) (left_recs events r.tx ∙ ap (λ (x : Transid). recs_of found (changes_left events x)) (same_is r.tx t same))) (left_recs events t)
  left_recs (Undo r ∷ events) t =
      left_case (is_same_transid r.tx t) (without_first found (recs_left found events r.tx)) (recs_left found events t) [] (drop 1 (changes_left events t)) (changes_left events t)
      (λ same. ap (without_first found) (left_recs events r.tx ∙ ap (λ (x : Transid). recs_of found (changes_left events x)) (same_is r.tx t same)) ∙ rest_recs (changes_left events t)) (left_recs events t)
  left_recs (Read u file key value ∷ events) t = left_recs events t
  left_recs (Lock u file ∷ events) t = left_recs events t
  left_recs (Turn u cause ∷ events) t = left_recs events t
  left_recs (CloseEvent u ∷ events) t = left_recs events t
  left_recs (Release u ∷ events) t = left_recs events t
  left_recs (Draw file block position ∷ events) t = left_recs events t
  left_recs (Drawn file block ∷ events) t = left_recs events t
  left_recs (Low position by ∷ events) t = left_recs events t
  left_recs (Lowered ∷ events) t = left_recs events t
  left_recs (Start number start item ∷ events) t = left_recs events t
  left_recs (Raise number rest ∷ events) t = left_recs events t
  left_recs (Failed by ∷ events) t = left_recs events t

-- what is said of a volume's values where it tells them is said of them
pub of_told_values : (base : Option (List FileEntry)) (entries : List FileEntry) (events : List DiscEvent) (says : RecordMap → Type 0) → base ≡ Some entries → OfValues base events says → says (values_after (base_of base) events)
of_told_values None entries events says e h = absurd (cc (e))
of_told_values (Some other) entries events says e h = h

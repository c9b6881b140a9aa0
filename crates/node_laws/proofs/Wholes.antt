-- The law of whole archives of a node: all audit of a disc and the commits give its records, from no volume and no dump.
use Rattle.std.specs.Prelude.{◌≡◌, ℕ, zero, suc, ◌≤◌, ◌<◌, true, false, List, [], ◌∷◌, ◌++◌, Option, Some, None, slice_get}
use Rattle.std.proofs.Common.{refl, ap, sym, ◌∙◌, arith}
use Rattle.chronicle.specs.Histories.{IsHistory, states_after}
use Rattle.disk_model.specs.Held.{Held}
use Rattle.tmf_model.specs.RecordMap.{RecordMap, empty_map}
use Rattle.trail_files.specs.Recovered.{recovered_value}
use Rattle.trail_files.specs.StandsFor.{Base}
use Rattle.trail_files.specs.declared.audit_record.AuditRecord.{AuditRecord}
use Rattle.trail_files.specs.declared.monitor_record.MonitorRecord.{MonitorRecord}
use Rattle.trail_files.specs.declared.monitor_record.MonitorRecord.TheVariants.{Start as StartRecord, Commit, Abort}
use Rattle.trail_files.specs.declared.rules.Rules.{Rules}
use Rattle.any_node.specs.Value.{AuditRecord as AnyRecord, Each, Ending, Among, closes, on, value}
use Rattle.any_node.specs.Node.{State, Event, node as any_node}
use Rattle.any_node.specs.Fold.{steps, After, IsServed}
use Rattle.any_node.proofs.Laws.{serial_law as any_serial_law}
use Rattle.any_node.proofs.Rows.{whole_law as any_whole_law}
use Rattle.node_machine.specs.Archives.{AreWhole, WholeLaw}
use Rattle.node_machine.specs.Law.{IsOpening, after_list}
use Rattle.node_machine.specs.Made.{made, volume_of}
use Rattle.node_machine.specs.Monitor.{recorded, offered_car}
use Rattle.node_machine.specs.Node.{node}
use Rattle.node_machine.specs.Opening.{Found, VolumeFound, found_volume, opening_parts, disc_part, monitor_part}
use Rattle.node_machine.specs.Parts.{DiscPart, MonitorPart, PartState}
use Rattle.node_machine.specs.Parts.PartState.{Disc, Monitor}
use Rattle.node_machine.specs.declared.event.Event.{Event as NodeEvent}
use Rattle.node_machine.proofs.Placed.{parts_placed}
use Rattle.node_laws.specs.Layouts.{layout, FileKey}
use Rattle.node_laws.specs.Views.{mons_of, recs_of, entries_of, landed_mons, offered_mons, any_disc, any_monitor}
use Rattle.node_laws.proofs.Begun.{first_image}
use Rattle.node_laws.proofs.Discs.{among_recs}
use Rattle.node_laws.proofs.Folds.{IsFile, Agree, folds, writes_of}
use Rattle.node_laws.proofs.Opens.{audit, values, idle, V, have_blocks, old_closes, opening_fit, opens}
use Rattle.node_laws.proofs.Others.{landed_mons_of, offered_mons_of}
use Rattle.node_laws.proofs.Records.{made_recs, recs_of-append}
use Rattle.node_laws.proofs.Seen.{view, views, view_at, AreFit}
use Rattle.node_laws.proofs.Shown.{mons_append}
use Rattle.node_laws.proofs.Standing.{declared_disc, each_from_all, inside, inside_is}
use Rattle.node_laws.proofs.Sums.{all_among, given_is}
use Rattle.node_laws.proofs.Transfer.{any_log, transfer}

module _ (rules : ℕ → Rules) (images : ℕ → Held) (bases dumps : ℕ → Option Base) (before : List MonitorRecord) (map_ : RecordMap) (found : Found) (o : IsOpening rules images bases dumps before map_ found) (log : List (ℕ × NodeEvent)) (h : IsHistory node (opening_parts found) log) where
  abbrev W : ℕ → RecordMap × ℕ
  W = values rules images bases dumps before map_ found o

  abbrev I : ℕ → State (layout found)
  I = idle rules images bases dumps before map_ found o

  abbrev A : List PartState
  A = states_after node (opening_parts found) log

  abbrev LOG : List (ℕ × Event (layout found))
  LOG = any_log found before W I (old_closes rules images bases dumps before map_ found o) (have_blocks rules images bases dumps before map_ found o) log

  abbrev NOW : List (State (layout found))
  NOW = states_after (any_node (layout found)) (V rules images bases dumps before map_ found o) LOG

  seen_so : IsHistory (any_node (layout found)) (V rules images bases dumps before map_ found o) LOG × (NOW ≡ views found before W I 0 A) × AreFit found before W I A
  seen_so = transfer found before W I (old_closes rules images bases dumps before map_ found o) (have_blocks rules images bases dumps before map_ found o) (opening_parts found) log (opening_fit rules images bases dumps before map_ found o) h

  there : (q : ℕ) (v : PartState) → slice_get A q ≡ Some v → slice_get NOW q ≡ Some (view found before W I q v)
  there q v at = ap (λ (ss : List (State (layout found))). slice_get ss q) seen_so.1 ∙ view_at found before W I A q v at

  -- the ends of attempts in a list and in what follows it
  closes_append : (xs ys : List MonitorRecord) → closes (entries_of found (xs ++ ys)) ≡ closes (entries_of found xs) ++ mons_of found ys
  closes_append [] [] = refl
  closes_append [] (StartRecord e ∷ ys) = closes_append [] ys
  closes_append [] (Commit t ∷ ys) = ap (λ ms. record { tx = t; commit = true } ∷ ms) (closes_append [] ys)
  closes_append [] (Abort t ∷ ys) = ap (λ ms. record { tx = t; commit = false } ∷ ms) (closes_append [] ys)
  closes_append (StartRecord e ∷ xs) ys = closes_append xs ys
  closes_append (Commit t ∷ xs) ys = ap (λ ms. record { tx = t; commit = true } ∷ ms) (closes_append xs ys)
  closes_append (Abort t ∷ xs) ys = ap (λ ms. record { tx = t; commit = false } ∷ ms) (closes_append xs ys)

  module _ (archive : ℕ → List AuditRecord) (whole : AreWhole found before map_ archive) where
    -- the archive of a disc, as rows of any layout
    abbrev ROW : ℕ → List (AnyRecord (layout found))
    ROW d = recs_of found (archive d)

    earlier : (d : ℕ) → Each (λ r. r.tx.epoch < found.epoch) (ROW d)
    earlier d = each_from_all found o.valid (λ r. r.tx.epoch < found.epoch) (ROW d) (λ x has.
        (let r = among_recs found (archive d) x has in
        let lt = all_among (λ r. r.tx.epoch < found.epoch) (archive d) (whole.earlier d) r.0 r.1 in
        let tx : r.0.tx.epoch ≡ x.tx.epoch = ap (λ (y : AnyRecord (layout found)). y.tx.epoch) r.2 in
        omega (arith, lt, tx)))

    given : (k : FileKey) → Among (layout found).discs (volume_of found.config k.0) → value {N = layout found} None (on k (ROW (volume_of found.config k.0))) (closes (entries_of found before)) ≡ inside found map_ k
    given k has =
        let one : IsFile found k.0 = (declared_disc found o.valid (volume_of found.config k.0) has).1.0 in
        given_is found (archive (volume_of found.config k.0)) before empty_map k.0 k.1 ∙ (whole.values k.0 k.1 one ∙ sym (inside_is found map_ k.0 k.1 one))

    module _ (s : MonitorPart) (at : slice_get A monitor_part ≡ Some (Monitor s)) (front rest : List MonitorRecord) (cut : recorded s.events ++ offered_car s.events ≡ front ++ rest) where
      cut_so : landed_mons found s.events ++ offered_mons found s.events ≡ mons_of found front ++ mons_of found rest
      cut_so =
          (λ i. landed_mons_of found s.events i ++ offered_mons_of found s.events i)
          ∙ (sym (mons_append found (recorded s.events) (offered_car s.events)) ∙ (ap (mons_of found) cut ∙ mons_append found front rest))

      served : (xs ys : List (Ending (layout found))) (y : Ending (layout found)) → landed_mons found s.events ++ offered_mons found s.events ≡ xs ++ y ∷ ys → y.commit ≡ true → IsServed (steps y.tx LOG) (After LOG xs (inside found map_))
      served xs ys y e c = any_serial_law (layout found) (V rules images bases dumps before map_ found o) (first_image found before (audit rules images bases dumps before map_ found o) bases dumps map_) (inside found map_) LOG xs ys y 28 (any_monitor found before s)
          (opens rules images bases dumps before map_ found o) seen_so.0 (there monitor_part (Monitor s) at) e c

      agree : Agree found (after_list log front map_) (After LOG (mons_of found front) (inside found map_))
      agree = folds found before W I (old_closes rules images bases dumps before map_ found o) (have_blocks rules images bases dumps before map_ found o) log
          (writes_of found before W I (old_closes rules images bases dumps before map_ found o) (have_blocks rules images bases dumps before map_ found o) (opening_parts found) log (opening_fit rules images bases dumps before map_ found o) h)
          (inside found map_) (landed_mons found s.events ++ offered_mons found s.events) served [] front (mons_of found rest) cut_so map_ (λ file key is_file. sym (inside_is found map_ file key is_file))

      pub comes_to : (d : DiscPart) (file : ℕ) (key : List ℕ) → slice_get A (disc_part (volume_of found.config file)) ≡ Some (Disc d)
          → recovered_value empty_map (archive d.number ++ made d.events) (before ++ front) file key ≡ after_list log front map_ file key
      comes_to d file key at_d =
          let placed : disc_part (volume_of found.config file) ≡ disc_part d.number = parts_placed found log h (disc_part (volume_of found.config file)) (Disc d) at_d in
          let here : volume_of found.config file ≡ d.number = omega (arith, placed) in
          let fit = seen_so.2.each (disc_part (volume_of found.config file)) (Disc d) at_d in
          let one : 1 ≤ d.number = number_one d.number fit.3.0 fit.3.1 in
          let any = any_whole_law (layout found) (V rules images bases dumps before map_ found o) (first_image found before (audit rules images bases dumps before map_ found o) bases dumps map_) (inside found map_) LOG ROW
          (opens rules images bases dumps before map_ found o) earlier given seen_so.0 (disc_part (volume_of found.config file)) 28 (any_disc found d) (any_monitor found before s)
          (there (disc_part (volume_of found.config file)) (Disc d) at_d) (there monitor_part (Monitor s) at) (mons_of found front) (mons_of found rest) cut_so (file, key) here in
          sym (given_is found (archive d.number ++ made d.events) (before ++ front) empty_map file key)
          ∙ ((λ i. value {N = layout found} None (on (file, key) ((recs_of-append found (archive d.number) (made d.events) ∙ ap (λ rs. ROW d.number ++ rs) (sym (made_recs found d.events))) i)) (closes_append before front i))
          ∙ (any ∙ sym (agree file key (omega (arith, here, one)))))
        where
          number_one : (n : ℕ) (v : VolumeFound) → found_volume found n ≡ Some v → 1 ≤ n
          number_one zero v e = absurd (cc (e))
          number_one (suc n) v e = omega arith

-- the law of whole archives
pub node_whole_law : WholeLaw
node_whole_law rules found images bases dumps before map_ log archive o h whole = comes_to rules images bases dumps before map_ found o log h archive whole

-- What an event asks of the true facts, it asks seen as one of any layout.
use Rattle.std.specs.Prelude.{◌≡◌, ◌⊎◌, ℕ, ◌-◌, ◌<◌, ◌≤◌, false, List, [], ◌∷◌, ◌++◌, Option, Some, None}
use Rattle.std.proofs.Common.{refl, ap, sym, ◌∙◌, subst, arith, ⊎_elim, inl, inr}
use Rattle.chronicle.specs.Histories.{IsTrueIn}
use Rattle.tmf_model.specs.RecordMap.{RecordMap}
use Rattle.tmf_model.specs.declared.script.Close.TheVariants.{Commit as Committing, Abort as Aborting}
use Rattle.tmf_model.specs.declared.transid.Transid.{Transid}
use Rattle.trail_files.specs.declared.audit_record.AuditRecord.{AuditRecord}
use Rattle.trail_files.specs.declared.monitor_record.MonitorRecord.{MonitorRecord}
use Rattle.trail_files.specs.declared.monitor_record.MonitorRecord.TheVariants.{Start as StartRecord, Commit, Abort}
use Rattle.any_node.specs.Value.{AuditRecord as AnyRecord, Ending, filed}
use Rattle.any_node.specs.Node.{State, Fact, node as any_node, asks_disc, asks_trail, asks_monitor, asks_dump, Backed}
use Rattle.any_node.specs.Node.Fact.{Decided as AnyDecided, Closed as AnyClosed, Made as AnyMade, Durable as AnyDurable, Floor as AnyFloor}
use Rattle.node_machine.specs.declared.event.Cause.TheVariants.{Busy, BusyFile, Full, Refused, Dumping}
use Rattle.node_machine.specs.declared.event.DiscEvent.{DiscEvent}
use Rattle.node_machine.specs.declared.event.DiscEvent.TheVariants.{Write, Read, Lock, Turn, Undo, Close as CloseEvent, Release, Draw, Drawn, Low, Lowered, Start, Raise, Failed}
use Rattle.node_machine.specs.declared.event.DumpEvent.{DumpEvent}
use Rattle.node_machine.specs.declared.event.DumpEvent.TheVariants.{Copy, Seal, Sealed, Failed as DumpFailed}
use Rattle.node_machine.specs.declared.event.MonitorEvent.{MonitorEvent}
use Rattle.node_machine.specs.declared.event.MonitorEvent.TheVariants.{Offer as OfferCar, Land as LandCar, Failed as MonitorFailed}
use Rattle.node_machine.specs.declared.event.TrailEvent.{TrailEvent}
use Rattle.node_machine.specs.declared.event.TrailEvent.TheVariants.{Offer, Land, Purge, Failed as TrailFailed}
use Rattle.node_machine.specs.Parts.{Standing, DiscPart, TrailPart, MonitorPart, DumpPart, PartState}
use Rattle.node_machine.specs.Parts.{Fact as NodeFact}
use Rattle.node_machine.specs.Parts.Fact.{Recorded, Floor}
use Rattle.node_machine.specs.Made.{changes_left}
use Rattle.node_machine.specs.Disc.{IsBackedOut, DiscAsks}
use Rattle.node_machine.specs.Trail.{landed, stand_in, landed_standing, offered_standing, records_of, IsBelow, PurgeAsks, TrailAsks}
use Rattle.node_machine.specs.Monitor.{IsFlushed, IsBacked, MonitorAsks}
use Rattle.node_machine.specs.Dump.{DumpAsks}
use Rattle.node_machine.specs.Node.{node}
use Rattle.node_machine.specs.Opening.{Found}
use Rattle.node_machine.specs.Same.{Among}
use Rattle.node_machine.specs.SameLaws.{among_append}
use Rattle.node_laws.specs.Layouts.{layout}
use Rattle.node_laws.specs.Views.{rec_of, recs_of, rows_of, old_rows, offered_rows, landed_rows, any_disc, any_trail, any_dump, any_disc_event, any_trail_event, any_monitor_event, any_dump_event}
use Rattle.node_laws.proofs.Others.{told_by, Tells}
use Rattle.node_laws.proofs.Places.{own_filed, own_both}
use Rattle.node_laws.proofs.Records.{left_recs}
use Rattle.node_laws.proofs.Seen.{views, AreFit, enlisted_true, finished_true, decided_true, closed_true, made_true, durable_true, committed_true, started_true, floor_true, over_true}

module _ (found : Found) where
  rows_append : (xs ys : List Standing) → rows_of found (xs ++ ys) ≡ rows_of found xs ++ rows_of found ys
  rows_append [] ys = refl
  rows_append (x ∷ xs) ys = ap (λ rs. (x.file, rec_of found x.item) ∷ rs) (rows_append xs ys)

  filed_rows : (file : ℕ) (rs : List AuditRecord) → filed file (recs_of found rs) ≡ rows_of found (stand_in file rs)
  filed_rows file [] = refl
  filed_rows file (r ∷ rs) = ap (λ xs. (file, rec_of found r) ∷ xs) (filed_rows file rs)

  pub offered_are : (events : List TrailEvent) → offered_rows found events ≡ rows_of found (offered_standing events)
  offered_are [] = refl
  offered_are (Offer file records ∷ events) = filed_rows file records
  offered_are (Land ∷ events) = refl
  offered_are (Purge below last ∷ events) = offered_are events
  offered_are (TrailFailed by ∷ events) = offered_are events

  pub landed_are : (events : List TrailEvent) → landed_rows found events ≡ rows_of found (landed_standing events)
  landed_are [] = refl
  landed_are (Offer file records ∷ events) = landed_are events
  landed_are (Land ∷ events) = (λ i. landed_are events i ++ offered_are events i) ∙ sym (rows_append (landed_standing events) (offered_standing events))
  landed_are (Purge below last ∷ events) = landed_are events
  landed_are (TrailFailed by ∷ events) = landed_are events

  among_rows : (xs : List Standing) (y : ℕ × AnyRecord (layout found)) → Among (rows_of found xs) y → (x : Standing) × Among xs x × ((x.file, rec_of found x.item) ≡ y)
  among_rows [] y h = absurd h
  among_rows (x ∷ xs) y h =
      ⊎_elim
      (λ (e : (x.file, rec_of found x.item) ≡ y). (x, inl refl, e))
      (λ (k : Among (rows_of found xs) y). (let m = among_rows xs y k in (m.0, inr m.1, m.2)))
      h

module _ (found : Found) (before : List MonitorRecord) (values : ℕ → RecordMap × ℕ) (idle : ℕ → State (layout found)) (ss : List PartState) (fit : AreFit found before values idle ss) where
  abbrev T : NodeFact → Type 0
  T f = IsTrueIn node ss f

  abbrev U : Fact (layout found) → Type 0
  U f = IsTrueIn (any_node (layout found)) (views found before values idle 0 ss) f

  backed_out : (t : Transid) → IsBackedOut T t → (ds : List ℕ) × U (AnyDecided t false ds)
  backed_out t h = (let d = decided_true found before values idle ss fit t Aborting h.0 h.1 in (d.0, d.1))

  pub disc_asks : (s : DiscPart) (e : DiscEvent) → DiscAsks T s e → asks_disc (layout found) U (any_disc found s) (any_disc_event found e)
  disc_asks s (Write r op) a = enlisted_true found before values idle ss fit r.tx s.number a
  disc_asks s (Read t file key value) a = enlisted_true found before values idle ss fit t s.number a
  disc_asks s (Lock t file) a = enlisted_true found before values idle ss fit t s.number a
  disc_asks s (Turn t (Busy step h)) a = tt
  disc_asks s (Turn t (BusyFile file h)) a = tt
  disc_asks s (Turn t (Full step)) a = enlisted_true found before values idle ss fit t s.number a
  disc_asks s (Turn t (Refused step reason)) a = enlisted_true found before values idle ss fit t s.number a
  disc_asks s (Turn t Dumping) a = tt
  disc_asks s (Undo r) a = backed_out r.tx a
  disc_asks s (CloseEvent t) a = (enlisted_true found before values idle ss fit t s.number a.0, finished_true found before values idle ss fit t a.1)
  disc_asks s (Release t) a =
      ⊎_elim
      (λ (x : (place : ℕ) × T (Recorded (Commit t) place)). inl (x.0, committed_true found before values idle ss fit t x.0 x.1))
      (λ (x : IsBackedOut T t × (changes_left s.events t ≡ [])). inr (backed_out t x.0, left_recs found s.events t ∙ ap (recs_of found) x.1))
      a
  disc_asks s (Draw file block position) a = durable_true found before values idle ss fit s.number position a
  disc_asks s (Drawn file block) a = tt
  disc_asks s (Low position by) a = durable_true found before values idle ss fit s.number (position - 1) a
  disc_asks s Lowered a = tt
  disc_asks s (Start number start item) a = tt
  disc_asks s (Raise number rest) a = over_true found before values idle ss fit s.number number rest a
  disc_asks s (Failed by) a = tt

  pub all_rows : (s : TrailPart) (old : List Standing) → s.old ≡ Some old
      → old_rows found s.old ++ (landed_rows found s.events ++ offered_rows found s.events) ≡ rows_of found (old ++ (landed_standing s.events ++ offered_standing s.events))
  all_rows s old e =
      ap (λ o. old_rows found o ++ (landed_rows found s.events ++ offered_rows found s.events)) e
      ∙ (λ i. rows_of found old ++ (landed_are found s.events i ++ offered_are found s.events i))
      ∙ ap (λ xs. rows_of found old ++ xs) (sym (rows_append found (landed_standing s.events) (offered_standing s.events)))
      ∙ sym (rows_append found old (landed_standing s.events ++ offered_standing s.events))

  purge_of : (old : Option (List Standing)) (told : List Standing) (events : List TrailEvent) (file : ℕ) → old ≡ Some told → PurgeAsks T old events file → (x : Standing) → IsBelow told events file x → (bound : ℕ) × T (Floor x.item.disc bound) × (x.item.position < bound)
  purge_of None told events file e a = absurd (cc (e))
  purge_of (Some old) told events file e a = (let same : old ≡ told = cc (e) in λ x below. a x (subst (λ (xs : List Standing). IsBelow xs events file x) (sym same) below))

  pub trail_asks : (s : TrailPart) (e : TrailEvent) → s.config ≡ found.config → 1 ≤ s.number → (old : List Standing) → s.old ≡ Some old → TrailAsks T s e → asks_trail (layout found) U (any_trail found (λ n. (values n).1) s) (any_trail_event found e)
  trail_asks s (Offer file records) same one old told a = λ d some.
      (let m = a d (λ e. some (own_filed found d file records ∙ ap (recs_of found) e)) in
      let made = made_true found before values idle ss fit d m.0 (records_of d (landed s.events ++ records)) m.1 in
      (m.0, subst (λ (xs : List (AnyRecord (layout found))). U (AnyMade d m.0 xs)) (sym (own_both found d file s.events records)) made))
  trail_asks s (Purge below last) same one old told a = λ y h lt.
      (let all = old ++ (landed_standing s.events ++ offered_standing s.events) in
      let x = among_rows found all y (subst (λ (rs : List (ℕ × AnyRecord (layout found))). Among rs y) (all_rows s old told) h) in
      let file : x.0.file ≡ y.0 = ap (λ (z : ℕ × AnyRecord (layout found)). z.0) x.2 in
      let at : x.0.item.position ≡ y.1.position = ap (λ (z : ℕ × AnyRecord (layout found)). z.1.position) x.2 in
      let of : x.0.item.disc ≡ y.1.disc = ap (λ (z : ℕ × AnyRecord (layout found)). z.1.disc) x.2 in
      let bound = purge_of s.old old s.events below told a x.0 (split x.0 x.1, omega (arith, file, lt)) in
      let under = bound.2 in
      (bound.0, subst (λ (n : ℕ). U (AnyFloor n bound.0)) of (floor_true found before values idle ss fit x.0.item.disc bound.0 bound.1), omega (arith, under, at)))
    where
      split : (x : Standing) → Among (old ++ (landed_standing s.events ++ offered_standing s.events)) x → Among old x ⊎ (Among (landed_standing s.events) x ⊎ Among (offered_standing s.events) x)
      split x h =
          ⊎_elim
          (λ (l : Among old x). inl l)
          (λ (r : Among (landed_standing s.events ++ offered_standing s.events) x). inr (among_append (landed_standing s.events) (offered_standing s.events) x r))
          (among_append old (landed_standing s.events ++ offered_standing s.events) x h)
  trail_asks s Land same one old told a = tt
  trail_asks s (TrailFailed by) same one old told a = tt

  flushed : (t : Transid) (d : ℕ) → IsFlushed T t d → (n : ℕ) × U (AnyClosed t d n) × U (AnyDurable d n)
  flushed t d f = (f.0, closed_true found before values idle ss fit t d f.0 f.1, durable_true found before values idle ss fit d f.0 f.2)

  backed : (z : MonitorRecord) (y : Ending (layout found)) → Tells found z y → IsBacked T z → Backed (layout found) U y
  backed (StartRecord e) y tells b = absurd tells
  backed (Commit t) y tells b =
      (let d = decided_true found before values idle ss fit t Committing b.0 b.1 in
      subst (λ (m : Ending (layout found)). Backed (layout found) U m) tells (d.0, d.1, λ _ n h. flushed t n (b.2 n (d.2 n h))))
  backed (Abort t) y tells b =
      (let d = decided_true found before values idle ss fit t Aborting b.0 b.1 in
      subst (λ (m : Ending (layout found)). Backed (layout found) U m) tells (d.0, d.1, λ e n h. absurd (cc (e))))

  pub monitor_asks : (s : MonitorPart) (e : MonitorEvent) → MonitorAsks T s e → asks_monitor (layout found) U (any_monitor_event found e)
  monitor_asks s (OfferCar records) a = λ y h. (let z = told_by found records y h in backed z.0 y z.2 (a z.0 z.1))
  monitor_asks s LandCar a = tt
  monitor_asks s (MonitorFailed by) a = tt

  pub dump_asks : (s : DumpPart) (e : DumpEvent) → DumpAsks T s e → asks_dump (layout found) U (any_dump found (values s.number).0 s) (any_dump_event found e)
  dump_asks s (Copy number file block position) a =
      (a.0, started_true found before values idle ss fit s.number number a.0 a.1, a.2, (recs_of found a.3.0, made_true found before values idle ss fit s.number position a.3.0 a.3.1))
  dump_asks s (Seal number start) a = (
    started_true found before values idle ss fit s.number number start a.0,
    durable_true found before values idle ss fit s.number (start - 1) a.1,
    λ b n e. durable_true found before values idle ss fit s.number n (a.2 b.0 b.1 n e),
  )
  dump_asks s (Sealed number whole) a = (a.0, started_true found before values idle ss fit s.number number a.0 a.1)
  dump_asks s (DumpFailed by) a = tt

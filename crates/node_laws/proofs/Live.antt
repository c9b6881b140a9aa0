-- What live attempts of a node have been told: the commits so far, with their own changes.
use Rattle.std.specs.Prelude.{◌≡◌, ℕ, ◌≤◌, Bool, true, false, cond, List, [], ◌∷◌, ◌++◌, Option, Some, None, Err, slice_get, if◌then◌else◌}
use Rattle.std.proofs.Common.{refl, ap, sym, ◌∙◌, subst, arith, ⊎_elim, inl, inr}
use Rattle.chronicle.specs.Histories.{IsEnabled, IsHistory, IsTrueIn, states_after}
use Rattle.chronicle.proofs.States.{history_front, history_rest}
use Rattle.disk_model.specs.Held.{Held}
use Rattle.tmf_model.specs.Effect.{applied}
use Rattle.tmf_model.specs.RecordMap.{RecordMap, with_value}
use Rattle.tmf_model.specs.declared.transid.Transid.{Transid}
use Rattle.trail_files.specs.MonitorOrder.{is_same_transid}
use Rattle.trail_files.specs.StandsFor.{Base}
use Rattle.trail_files.specs.declared.monitor_record.MonitorRecord.{MonitorRecord}
use Rattle.trail_files.specs.declared.monitor_record.MonitorRecord.TheVariants.{Start as StartRecord, Commit, Abort}
use Rattle.trail_files.specs.declared.rules.Rules.{Rules}
use Rattle.any_node.specs.Fold.{After, Fit, IsServed, acts, steps, steps_on}
use Rattle.any_node.specs.Fold.Step.{wrote, saw}
use Rattle.any_node.specs.Fold.{Step as AnyStep}
use Rattle.any_node.specs.Node.{Disc as AnyDisc, Event, IsFree, State, node as any_node}
use Rattle.any_node.specs.Node.State.{disc, monitor}
use Rattle.any_node.specs.Value.{Ending, commits}
use Rattle.any_node.proofs.Laws.{live_law as any_live_law, present_law as any_present_law, serial_law as any_serial_law}
use Rattle.node_machine.specs.declared.event.Cause.{Cause}
use Rattle.node_machine.specs.declared.event.Cause.TheVariants.{Busy, BusyFile, Full, Refused, Dumping}
use Rattle.node_machine.specs.declared.event.DiscEvent.TheVariants.{Write, Read, Lock, Turn, Undo, Close as CloseEvent, Release, Draw, Drawn, Low, Lowered, Start, Raise, Failed}
use Rattle.node_machine.specs.declared.event.DumpEvent.TheVariants.{Copy, Seal, Sealed, Failed as DumpFailed}
use Rattle.node_machine.specs.declared.event.MonitorEvent.TheVariants.{Offer as OfferCar, Land as LandCar, Failed as MonitorFailed}
use Rattle.node_machine.specs.declared.event.TrailEvent.TheVariants.{Offer, Land, Purge, Failed as TrailFailed}
use Rattle.node_machine.specs.declared.event.WorkerEvent.TheVariants.{Begin, Enlist, Finish, End, Quit}
use Rattle.node_machine.specs.declared.event.Event.{Event as NodeEvent}
use Rattle.node_machine.specs.declared.event.Event.TheVariants.{OfWorker, OfDisc, OfTrail, OfMonitor, OfDump}
use Rattle.node_machine.specs.Disc.{HasNoRoomFor, IsNoOther, MayTake, MayTurn, TurnAsks}
use Rattle.node_machine.specs.Law.{Deed, IsOpening, AreServed, deeds_of, after_list}
use Rattle.node_machine.specs.Law.Deed.{Changed, Saw, Locked}
use Rattle.node_machine.specs.Live.{HoldsAll, IsLiveAt, IsToldOf, IsUncommitted, LiveLaw, PresentLaw, TurnLaw, after_deeds, present_value}
use Rattle.node_machine.specs.Made.{file_holder, has_released, has_undone, key_holder, values_after, volume_of}
use Rattle.node_machine.specs.Monitor.{recorded}
use Rattle.node_machine.specs.Node.{node}
use Rattle.node_machine.specs.Opening.{Found, disc_part, monitor_part, opening_parts}
use Rattle.node_machine.specs.Parts.{Entry, DiscPart, MonitorPart, PartState}
use Rattle.node_machine.specs.Parts.Fact.{Enlisted}
use Rattle.node_machine.specs.Parts.PartState.{Disc, Monitor}
use Rattle.node_machine.specs.Same.{Among, is_same_key}
use Rattle.node_machine.specs.SameLaws.{same_is}
use Rattle.node_machine.proofs.Placed.{parts_placed}
use Rattle.node_laws.specs.Layouts.{layout, Content}
use Rattle.node_laws.specs.Views.{any_disc, any_monitor, base_of, landed_mons, mons_of, offered_mons, rec_of}
use Rattle.node_laws.proofs.Backed.{not_committed}
use Rattle.node_laws.proofs.Begun.{first_image}
use Rattle.node_laws.proofs.Crash.{IsLostDisc, disc_seen}
use Rattle.node_laws.proofs.Fine.{by_key}
use Rattle.node_laws.proofs.Folds.{Agree, AreWrites, deeds_served, folds, volume_one, writes_of}
use Rattle.node_laws.proofs.Opens.{V, audit, have_blocks, idle, old_closes, opening_fit, opens, values}
use Rattle.node_laws.proofs.Others.{AreOld, HaveBlocks, landed_mons_of}
use Rattle.node_laws.proofs.Records.{of_told_values}
use Rattle.node_laws.proofs.Seen.{AreFit, view_at, views}
use Rattle.node_laws.proofs.Standing.{inside, inside_is}
use Rattle.node_laws.proofs.Sums.{key_either}
use Rattle.node_laws.proofs.Transfer.{any_log, transfer}

module _ (found : Found) where
  -- the deeds as steps of any layout, in which a lock is none
  abbrev steps_from : List Deed → List (AnyStep (layout found))
  steps_from [] = []
  steps_from (Changed r op ∷ ds) = wrote (rec_of found r) ∷ steps_from ds
  steps_from (Saw file key value ∷ ds) = saw (file, key) value ∷ steps_from ds
  steps_from (Locked file ∷ ds) = steps_from ds

  -- what leads from the one value to the other is what the deeds make of the map there
  fit_deeds : (ds : List Deed) (m : RecordMap) (v c : Content) (file : ℕ) (key : List ℕ) → m file key ≡ v → Fit {N = layout found} v (steps_on {N = layout found} (file, key) (steps_from ds)) c → after_deeds ds m file key ≡ c
  fit_deeds [] m v c file key e fit = e ∙ fit
  fit_deeds (Changed r op ∷ ds) m v c file key e fit =
      by_case (λ m2 v2 e2 fit2. fit_deeds ds m2 v2 c file key e2 fit2) (is_same_key r.file r.key file key) (is_same_key file key r.file r.key) refl (key_either r.file file r.key key) fit
    where
      by_case : ((m2 : RecordMap) (v2 : Content) → m2 file key ≡ v2 → Fit {N = layout found} v2 (steps_on {N = layout found} (file, key) (steps_from ds)) c → after_deeds ds m2 file key ≡ c)
          → (a b : Bool) → is_same_key file key r.file r.key ≡ b → a ≡ b
          → Fit {N = layout found} v (cond a (wrote (rec_of found r) ∷ steps_on {N = layout found} (file, key) (steps_from ds)) (steps_on {N = layout found} (file, key) (steps_from ds))) c
          → after_deeds ds (with_value r.file r.key r.after m) file key ≡ c
      by_case rest true true same i fit = rest (with_value r.file r.key r.after m) r.after (ap (λ (b : Bool). if b then r.after else m file key) same) fit.2
      by_case rest false false other i fit = rest (with_value r.file r.key r.after m) v (ap (λ (b : Bool). if b then r.after else m file key) other ∙ e) fit
      by_case rest true false other i fit = absurd (cc (i))
      by_case rest false true same i fit = absurd (cc (i))
  fit_deeds (Saw f k value ∷ ds) m v c file key e fit = by_case (λ fit2. fit_deeds ds m v c file key e fit2) (is_same_key f k file key) fit where
    by_case : (Fit {N = layout found} v (steps_on {N = layout found} (file, key) (steps_from ds)) c → after_deeds ds m file key ≡ c) → (a : Bool) → Fit {N = layout found} v (cond a (saw (f, k) value ∷ steps_on {N = layout found} (file, key) (steps_from ds)) (steps_on {N = layout found} (file, key) (steps_from ds))) c → after_deeds ds m file key ≡ c
    by_case rest true fit = rest fit.1
    by_case rest false fit = rest fit
  fit_deeds (Locked f ∷ ds) m v c file key e fit = fit_deeds ds m v c file key e fit

  -- what is not committed by a list
  uncommitted : (xs : List MonitorRecord) (t : Transid) → (Among xs (Commit t) → ⊥) → commits {N = layout found} (mons_of found xs) t ≡ false
  uncommitted [] t none = refl
  uncommitted (StartRecord epoch ∷ xs) t none = uncommitted xs t (λ h. none (inr h))
  uncommitted (Abort u ∷ xs) t none = uncommitted xs t (λ h. none (inr h))
  uncommitted (Commit u ∷ xs) t none = by_case (is_same_transid u t) refl (uncommitted xs t (λ h. none (inr h))) where
    by_case : (b : Bool) → is_same_transid u t ≡ b → commits {N = layout found} (mons_of found xs) t ≡ false → cond b true (commits {N = layout found} (mons_of found xs) t) ≡ false
    by_case true same rest = absurd (none (inl (ap Commit (same_is u t same))))
    by_case false other rest = rest

module _ (found : Found) (before : List MonitorRecord) (W : ℕ → RecordMap × ℕ) (I : ℕ → State (layout found)) (old : AreOld found before) (blocks : HaveBlocks found) where
  -- the steps of a transaction are its deeds
  steps_are : (t : Transid) (log : List (ℕ × NodeEvent)) → steps {N = layout found} t (any_log found before W I old blocks log) ≡ steps_from found (deeds_of t log)
  steps_are t [] = refl
  steps_are t ((q, OfDisc (Write c op)) ∷ log) = by_case (is_same_transid t c.tx) (steps_are t log) where
    by_case : (b : Bool) → steps {N = layout found} t (any_log found before W I old blocks log) ≡ steps_from found (deeds_of t log)
        → cond b (wrote (rec_of found c) ∷ steps {N = layout found} t (any_log found before W I old blocks log)) (steps {N = layout found} t (any_log found before W I old blocks log)) ≡ steps_from found (if b then Changed c op ∷ deeds_of t log else deeds_of t log)
    by_case true e = ap (λ us. wrote (rec_of found c) ∷ us) e
    by_case false e = e
  steps_are t ((q, OfDisc (Read u file key value)) ∷ log) = by_case (is_same_transid t u) (steps_are t log) where
    by_case : (b : Bool) → steps {N = layout found} t (any_log found before W I old blocks log) ≡ steps_from found (deeds_of t log)
        → cond b (saw (file, key) value ∷ steps {N = layout found} t (any_log found before W I old blocks log)) (steps {N = layout found} t (any_log found before W I old blocks log)) ≡ steps_from found (if b then Saw file key value ∷ deeds_of t log else deeds_of t log)
    by_case true e = ap (λ us. saw (file, key) value ∷ us) e
    by_case false e = e
  steps_are t ((q, OfWorker (Begin t2)) ∷ log) = steps_are t log
  steps_are t ((q, OfWorker (Enlist t2 d)) ∷ log) = steps_are t log
  steps_are t ((q, OfWorker (Finish t2)) ∷ log) = steps_are t log
  steps_are t ((q, OfWorker (End t2)) ∷ log) = steps_are t log
  steps_are t ((q, OfWorker (Quit t2)) ∷ log) = steps_are t log
  steps_are t ((q, OfDisc (Lock u file)) ∷ log) = by_case (is_same_transid t u) (steps_are t log) where
    by_case : (b : Bool) → steps {N = layout found} t (any_log found before W I old blocks log) ≡ steps_from found (deeds_of t log)
        → steps {N = layout found} t (any_log found before W I old blocks log) ≡ steps_from found (if b then Locked file ∷ deeds_of t log else deeds_of t log)
    by_case true e = e
    by_case false e = e
  steps_are t ((q, OfDisc (Turn t2 (Busy step h2))) ∷ log) = steps_are t log
  steps_are t ((q, OfDisc (Turn t2 (BusyFile file h2))) ∷ log) = steps_are t log
  steps_are t ((q, OfDisc (Turn t2 (Full step))) ∷ log) = steps_are t log
  steps_are t ((q, OfDisc (Turn t2 (Refused step reason))) ∷ log) = steps_are t log
  steps_are t ((q, OfDisc (Turn t2 Dumping)) ∷ log) = steps_are t log
  steps_are t ((q, OfDisc (Undo r2)) ∷ log) = steps_are t log
  steps_are t ((q, OfDisc (CloseEvent t2)) ∷ log) = steps_are t log
  steps_are t ((q, OfDisc (Release t2)) ∷ log) = steps_are t log
  steps_are t ((q, OfDisc (Draw file block position)) ∷ log) = steps_are t log
  steps_are t ((q, OfDisc (Drawn file block)) ∷ log) = steps_are t log
  steps_are t ((q, OfDisc (Low position by)) ∷ log) = steps_are t log
  steps_are t ((q, OfDisc Lowered) ∷ log) = steps_are t log
  steps_are t ((q, OfDisc (Start number start item)) ∷ log) = steps_are t log
  steps_are t ((q, OfDisc (Raise number rest)) ∷ log) = steps_are t log
  steps_are t ((q, OfDisc (Failed by)) ∷ log) = steps_are t log
  steps_are t ((q, OfTrail (Offer file records)) ∷ log) = steps_are t log
  steps_are t ((q, OfTrail Land) ∷ log) = steps_are t log
  steps_are t ((q, OfTrail (Purge below last)) ∷ log) = steps_are t log
  steps_are t ((q, OfTrail (TrailFailed by)) ∷ log) = steps_are t log
  steps_are t ((q, OfMonitor (OfferCar records)) ∷ log) = steps_are t log
  steps_are t ((q, OfMonitor LandCar) ∷ log) = steps_are t log
  steps_are t ((q, OfMonitor (MonitorFailed by)) ∷ log) = steps_are t log
  steps_are t ((q, OfDump (Copy number file block position)) ∷ log) = steps_are t log
  steps_are t ((q, OfDump (Seal number start)) ∷ log) = steps_are t log
  steps_are t ((q, OfDump (Sealed number whole)) ∷ log) = steps_are t log
  steps_are t ((q, OfDump (DumpFailed by)) ∷ log) = steps_are t log

module _ (rules : ℕ → Rules) (images : ℕ → Held) (bases dumps : ℕ → Option Base) (before : List MonitorRecord) (map_ : RecordMap) (found : Found) (o : IsOpening rules images bases dumps before map_ found) (log : List (ℕ × NodeEvent)) (h : IsHistory node (opening_parts found) log) where
  abbrev W : ℕ → RecordMap × ℕ
  W = values rules images bases dumps before map_ found o

  abbrev I : ℕ → State (layout found)
  I = idle rules images bases dumps before map_ found o

  abbrev OLD : AreOld found before
  OLD = old_closes rules images bases dumps before map_ found o

  abbrev BLOCKS : HaveBlocks found
  BLOCKS = have_blocks rules images bases dumps before map_ found o

  abbrev A : List PartState
  A = states_after node (opening_parts found) log

  abbrev LOG : List (ℕ × Event (layout found))
  LOG = any_log found before W I OLD BLOCKS log

  abbrev FIRST : List (State (layout found))
  FIRST = V rules images bases dumps before map_ found o

  abbrev END : List (State (layout found))
  END = states_after (any_node (layout found)) FIRST LOG

  seen_so : IsHistory (any_node (layout found)) FIRST LOG × (END ≡ views found before W I 0 A) × AreFit found before W I A
  seen_so = transfer found before W I OLD BLOCKS (opening_parts found) log (opening_fit rules images bases dumps before map_ found o) h

  writes : AreWrites found log
  writes = writes_of found before W I OLD BLOCKS (opening_parts found) log (opening_fit rules images bases dumps before map_ found o) h

  module _ (s : MonitorPart) (at : slice_get A monitor_part ≡ Some (Monitor s)) where
    monitor_there : slice_get END 28 ≡ Some (monitor (any_monitor found before s))
    monitor_there = ap (λ (ss : List (State (layout found))). slice_get ss 28) seen_so.1 ∙ view_at found before W I A 28 (Monitor s) at

    abbrev LANDED : List (Ending (layout found))
    LANDED = landed_mons found s.events

    -- what has landed comes to the same map
    agree : Agree found (after_list log (recorded s.events) map_) (After LOG LANDED (inside found map_))
    agree =
        let whole : List (Ending (layout found)) = LANDED ++ offered_mons found s.events in
        let each : (xs ys : List (Ending (layout found))) (y : Ending (layout found)) → whole ≡ xs ++ y ∷ ys → y.commit ≡ true → IsServed (steps y.tx LOG) (After LOG xs (inside found map_)) = λ xs ys y e c.
        any_serial_law (layout found) FIRST (first_image found before (audit rules images bases dumps before map_ found o) bases dumps map_) (inside found map_) LOG xs ys y 28 (any_monitor found before s) (opens rules images bases dumps before map_ found o) seen_so.0 monitor_there e c in
        let cut : whole ≡ mons_of found (recorded s.events) ++ offered_mons found s.events = ap (λ xs. xs ++ offered_mons found s.events) (landed_mons_of found s.events) in
        subst (λ (xs : List (Ending (layout found))). Agree found (after_list log (recorded s.events) map_) (After LOG xs (inside found map_))) (sym (landed_mons_of found s.events))
        (folds found before W I OLD BLOCKS log writes (inside found map_) whole each [] (recorded s.events) (offered_mons found s.events) cut map_ (λ file key is_file. sym (inside_is found map_ file key is_file)))

    not_landed : (t : Transid) → IsUncommitted s t → commits {N = layout found} LANDED t ≡ false
    not_landed t none = ap (λ xs. commits {N = layout found} xs t) (landed_mons_of found s.events) ∙ uncommitted found (recorded s.events) t none

    -- a disc whose volume is lost has no event
    live_seen : (t : Transid) → HoldsAll A t → (q : ℕ) (x : AnyDisc (layout found)) → slice_get END q ≡ Some (disc x) → (x.released t ≡ false) × (x.undone t ≡ false)
    live_seen t live q x there =
        ⊎_elim
        (λ (u : (d : DiscPart) × (slice_get A q ≡ Some (Disc d)) × (x ≡ any_disc found d)).
        (let placed = parts_placed found log h q (Disc u.0) u.1 in
        let l = live u.0.number u.0 (ap (λ (n : ℕ). slice_get A n) (sym placed) ∙ u.1) in
        (ap (λ (y : AnyDisc (layout found)). y.released t) u.2 ∙ l.unreleased, ap (λ (y : AnyDisc (layout found)). y.undone t) u.2 ∙ l.nothing_undone)))
        (λ (l : IsLostDisc rules images bases dumps before map_ found o A q x). (ap (λ (y : AnyDisc (layout found)). y.released t) l.1, ap (λ (y : AnyDisc (layout found)). y.undone t) l.1))
        (disc_seen rules images bases dumps before map_ found o A q x (ap (λ (ss : List (State (layout found))). slice_get ss q) (sym seen_so.1) ∙ there))

    pub present : (t : Transid) → HoldsAll A t → IsUncommitted s t → AreServed (deeds_of t log) (after_list log (recorded s.events) map_)
    present t live none =
        deeds_served found before W I OLD BLOCKS t log writes (After LOG LANDED (inside found map_)) (after_list log (recorded s.events) map_)
        (any_present_law (layout found) FIRST (first_image found before (audit rules images bases dumps before map_ found o) bases dumps map_) (inside found map_) LOG (opens rules images bases dumps before map_ found o) seen_so.0 28 (any_monitor found before s) monitor_there t (live_seen t live) (not_landed t none))
        agree

    module _ (number : ℕ) (d : DiscPart) (at_d : slice_get A (disc_part number) ≡ Some (Disc d)) (entries : List Entry) (told : d.base ≡ Some entries) (file : ℕ) (key : List ℕ) (on : volume_of found.config file ≡ number) where
      disc_there : slice_get END (disc_part number) ≡ Some (disc (any_disc found d))
      disc_there = ap (λ (ss : List (State (layout found))). slice_get ss (disc_part number)) seen_so.1 ∙ view_at found before W I A (disc_part number) (Disc d) at_d

      here : volume_of found.config file ≡ d.number
      here = (let placed : disc_part number ≡ disc_part d.number = parts_placed found log h (disc_part number) (Disc d) at_d in omega (arith, placed, on))

      is_file : 1 ≤ volume_of found.config file
      is_file = (let f = seen_so.2.each (disc_part number) (Disc d) at_d in let one = volume_one found before W I OLD BLOCKS d.number f.3.0 f.3.1 in omega (arith, one, here))

      value_is : present_value d entries file key ≡ values_after (base_of d.base) d.events file key
      value_is = ap (λ (b : Option (List Entry)). values_after (base_of b) d.events file key) (sym told)

      law_at : ((key_holder d.events file key ≡ None → values_after (base_of d.base) d.events file key ≡ After LOG LANDED (inside found map_) (file, key))
          × ((t : Transid) → has_released d.events t ≡ false → has_undone d.events t ≡ false → commits {N = layout found} LANDED t ≡ false
          → (IsFree (key_holder d.events file key) t → Fit {N = layout found} (After LOG LANDED (inside found map_) (file, key)) (acts {N = layout found} (file, key) t LOG) (values_after (base_of d.base) d.events file key)) × ((IsFree (key_holder d.events file key) t → ⊥) → acts {N = layout found} (file, key) t LOG ≡ [])))
      law_at = any_live_law (layout found) FIRST (first_image found before (audit rules images bases dumps before map_ found o) bases dumps map_) (inside found map_) LOG (opens rules images bases dumps before map_ found o) seen_so.0 (disc_part number) 28 (any_disc found d) (any_monitor found before s) disc_there monitor_there (file, key) here

      pub unheld : key_holder d.events file key ≡ None → present_value d entries file key ≡ after_list log (recorded s.events) map_ file key
      unheld none = value_is ∙ (law_at.0 none ∙ sym (agree file key is_file))

      pub live_value : (t : Transid) → IsLiveAt d t → IsUncommitted s t → IsNoOther (key_holder d.events file key) t → present_value d entries file key ≡ after_deeds (deeds_of t log) (after_list log (recorded s.events) map_) file key
      live_value t live none free =
          let fit = (law_at.1 t live.unreleased live.nothing_undone (not_landed t none)).0 free in
          let same = subst (λ (us : List (AnyStep (layout found))). Fit {N = layout found} (After LOG LANDED (inside found map_) (file, key)) (steps_on {N = layout found} (file, key) us) (values_after (base_of d.base) d.events file key)) (steps_are found before W I OLD BLOCKS t log) fit in
          value_is ∙ sym (fit_deeds found (deeds_of t log) (after_list log (recorded s.events) map_) (After LOG LANDED (inside found map_) (file, key)) (values_after (base_of d.base) d.events file key) file key (agree file key is_file) same)

-- the present law
pub node_present_law : PresentLaw
node_present_law rules found images bases dumps before map_ log o h s at t live none = present rules images bases dumps before map_ found o log h s at t live none

-- the live law
pub node_live_law : LiveLaw
node_live_law rules found images bases dumps before map_ log o h number d s entries at_d at told file key on = (
  unheld rules images bases dumps before map_ found o log h s at number d at_d entries told file key on,
  live_value rules images bases dumps before map_ found o log h s at number d at_d entries told file key on,
)

-- WHAT A STEP WAS TOLD

module _ (rules : ℕ → Rules) (images : ℕ → Held) (bases dumps : ℕ → Option Base) (before : List MonitorRecord) (map_ : RecordMap) (found : Found) (o : IsOpening rules images bases dumps before map_ found) (front : List (ℕ × NodeEvent)) (h : IsHistory node (opening_parts found) front) where
  abbrev NOW : List PartState
  NOW = states_after node (opening_parts found) front

  module _ (m : MonitorPart) (at : slice_get NOW monitor_part ≡ Some (Monitor m)) (number : ℕ) (d : DiscPart) (at_d : slice_get NOW (disc_part number) ≡ Some (Disc d)) (t : Transid) where
    fit_here : AreFit found before (W rules images bases dumps before map_ found o front h) (I rules images bases dumps before map_ found o front h) NOW
    fit_here = (seen_so rules images bases dumps before map_ found o front h).2

    abbrev MAP : RecordMap
    MAP = after_deeds (deeds_of t front) (after_list front (recorded m.events) map_)

    -- the value of a key that it takes
    taken : (file : ℕ) (key : List ℕ) → MayTake d t file key → IsTrueIn node NOW (Enlisted t d.number) → values_after (base_of d.base) d.events file key ≡ MAP file key
    taken file key may listed =
        let f = fit_here.each (disc_part number) (Disc d) at_d in
        let placed : disc_part number ≡ disc_part d.number = parts_placed found front h (disc_part number) (Disc d) at_d in
        let same : number ≡ d.number = omega (arith, placed) in
        let on : volume_of found.config file ≡ number = ap (λ c. volume_of c file) (sym f.0) ∙ (may.here ∙ sym same) in
        let none = not_committed found front h t m number d at at_d (subst (λ (n : ℕ). IsTrueIn node NOW (Enlisted t n)) (sym same) listed) may.acts.unclosed in
        let free = by_key (file_holder d.events file) (key_holder d.events file key) t (f.2.exclusive file key) may.free in
        let is = live_value rules images bases dumps before map_ found o front h m at number d at_d f.1.0 f.1.1 file key on t (record { unreleased = may.acts.unreleased; nothing_undone = may.acts.nothing_undone }) none free in
        ap (λ (b : Option (List Entry)). values_after (base_of b) d.events file key) f.1.1 ∙ is

    turned : (cause : Cause) → MayTurn d t cause → TurnAsks (IsTrueIn node NOW) d.number t cause → IsToldOf MAP cause
    turned (Busy step u) may asked = tt
    turned (BusyFile file u) may asked = tt
    turned Dumping may asked = tt
    turned (Full step) may asked =
        let f = fit_here.each (disc_part number) (Disc d) at_d in
        let none = of_told_values d.base f.1.0 d.events (λ values. HasNoRoomFor d values step.file step.key) f.1.1 may.2 in
        sym (taken step.file step.key may.0 asked) ∙ none.absent
    turned (Refused step reason) may asked =
        let f = fit_here.each (disc_part number) (Disc d) at_d in
        ap (λ v. applied step.op v) (sym (taken step.file step.key may.0 asked)) ∙ of_told_values d.base f.1.0 d.events (λ values. applied step.op (values step.file step.key) ≡ Err reason) f.1.1 may.1

  told_at : (m : MonitorPart) → slice_get NOW monitor_part ≡ Some (Monitor m) → (number : ℕ) (t : Transid) (cause : Cause) → IsEnabled node NOW (disc_part number, OfDisc (Turn t cause)) → IsToldOf (after_deeds (deeds_of t front) (after_list front (recorded m.events) map_)) cause
  told_at m at number t cause (Disc d, at_d, may, asked) = turned m at number d at_d t cause may asked
  told_at m at number t cause (_, at_d, may, asked) = absurd may

-- the turn law
pub node_turn_law : TurnLaw
node_turn_law rules found images bases dumps before map_ log o h front rest number t cause cut m at =
    let here : IsHistory node (opening_parts found) (front ++ (disc_part number, OfDisc (Turn t cause)) ∷ rest) = subst (λ (l : List (ℕ × NodeEvent)). IsHistory node (opening_parts found) l) cut h in
    told_at rules images bases dumps before map_ found o front (history_front node (opening_parts found) front ((disc_part number, OfDisc (Turn t cause)) ∷ rest) here) m at number t cause
    (history_rest node (opening_parts found) front ((disc_part number, OfDisc (Turn t cause)) ∷ rest) here).0

-- The records of the monitor trail stand in the order of their attempts, in every history; and so do those that a run has made.
use Rattle.std.specs.Prelude.{◌≡◌, ℕ, List, [], ◌∷◌, ◌++◌, Option, Some, slice_get}
use Rattle.std.proofs.Common.{refl, ap, ap₂, sym, ◌∙◌, subst, append-nil, ⊎_elim, inl, inr}
use Rattle.chronicle.specs.Histories.{states_after}
use Rattle.disk_model.specs.declared.disk.Disk as disk
use Rattle.node_machine.specs.Deeds.{DoneLaw}
use Rattle.node_machine.specs.Law.{CrashLaw}
use Rattle.node_machine.specs.Monitor.{AreLater, IsLater, IsRequest, MonitorMay, offered_car, recorded}
use Rattle.node_machine.specs.Node.{IsAllowed, node, state_with}
use Rattle.node_machine.specs.Opening.{Found, monitor_at, monitor_part, opening_parts}
use Rattle.node_machine.specs.Parts.{MonitorPart, PartState}
use Rattle.node_machine.specs.Parts.PartState.{Disc, Dump, Idle, Monitor, Trail, Worker}
use Rattle.node_machine.specs.Reads.{ReadsLaw}
use Rattle.node_machine.specs.Same.{Among}
use Rattle.node_machine.specs.SameLaws.{among_append, among_left}
use Rattle.node_machine.specs.declared.event.Event.{Event}
use Rattle.node_machine.specs.declared.event.Event.TheVariants.{OfDisc, OfDump, OfMonitor, OfTrail, OfWorker}
use Rattle.node_machine.specs.declared.event.MonitorEvent.{MonitorEvent}
use Rattle.node_machine.specs.declared.event.MonitorEvent.TheVariants.{Failed, Land, Offer}
use Rattle.node_machine.proofs.Kept.{kept}
use Rattle.node_machine.proofs.Opened.{opening_monitor}
use Rattle.run_outcomes.specs.Ends.{monitor_events, monitor_events_in}
use Rattle.run_standing.proofs.Stands.{made_by}
use Rattle.trail_files.specs.declared.monitor_record.MonitorRecord.{MonitorRecord}
use Rattle.single_law.proofs.Given.{monitor_there}
use Rattle.single_law.specs.Row.{AreInRow, AreRequests, OrderLaw, RowLaw}

-- ROWS

pub row_front : (xs ys : List MonitorRecord) → AreInRow (xs ++ ys) → AreInRow xs
row_front [] ys row = tt
row_front (x ∷ xs) ys row = (λ y has. row.0 y (among_left xs ys y has), row_front xs ys row.1)

-- what stands behind is later than what stands before
pub row_across : (xs ys : List MonitorRecord) (x y : MonitorRecord) → AreInRow (xs ++ ys) → Among xs x → Among ys y → IsLater x y
row_across [] ys x y row before behind = absurd before
row_across (z ∷ xs) ys x y row before behind = ⊎_elim
    (λ (is : z ≡ x). subst (λ (u : MonitorRecord). IsLater u y) is (row.0 y (right xs behind)))
    (λ (rest : Among xs x). row_across xs ys x y row.1 rest behind)
    before
  where
    right : (us : List MonitorRecord) → Among ys y → Among (us ++ ys) y
    right [] has = has
    right (u ∷ us) has = inr (right us has)

row_both : (xs ys : List MonitorRecord) → AreInRow xs → AreInRow ys → ((x y : MonitorRecord) → Among xs x → Among ys y → IsLater x y) → AreInRow (xs ++ ys)
row_both [] ys one two across = two
row_both (x ∷ xs) ys one two across = (
  λ y has. ⊎_elim (λ (here : Among xs y). one.0 y here) (λ (there : Among ys y). across x y (inl refl) there) (among_append xs ys y has),
  row_both xs ys one.1 two (λ u y has. across u y (inr has)),
)

-- a car of which each record is later than all before it
car_across : (before xs : List MonitorRecord) → AreLater before xs → (x y : MonitorRecord) → Among before x → Among xs y → IsLater x y
car_across before [] later x y has is = absurd is
car_across before (z ∷ xs) later x y has is = ⊎_elim
    (λ (same : z ≡ y). subst (λ (u : MonitorRecord). IsLater x u) same (later.0 x has))
    (λ (rest : Among xs y). car_across (z ∷ before) xs later.1 x y (inr has) rest)
    is

car_row : (before xs : List MonitorRecord) → AreLater before xs → AreInRow xs
car_row before [] later = tt
car_row before (z ∷ xs) later = (λ y has. car_across (z ∷ before) xs later.1 z y (inl refl) has, car_row (z ∷ before) xs later.1)

-- EVERY HISTORY

abbrev AreOrdered : ℕ → MonitorPart → Type 0
AreOrdered epoch s = (s.epoch ≡ epoch) × AreInRow (recorded s.events ++ offered_car s.events) × AreRequests epoch (recorded s.events ++ offered_car s.events)

abbrev IsOrderedAt : ℕ → ℕ → PartState → Type 0
IsOrderedAt epoch q (Monitor s) = q ≡ monitor_part → AreOrdered epoch s
IsOrderedAt epoch q _ = Unit {0}

ordered_next : (epoch : ℕ) (s : MonitorPart) (e : MonitorEvent) → MonitorMay s e → AreOrdered epoch s → AreOrdered epoch (record s { events = e ∷ s.events })
ordered_next epoch s (Offer records) may was = (
  was.0,
  row_both (recorded s.events) records (row_front (recorded s.events) (offered_car s.events) was.1) (car_row (recorded s.events) records may.later) (car_across (recorded s.events) records may.later),
  λ x has. ⊎_elim
      (λ (landed : Among (recorded s.events) x). was.2 x (among_left (recorded s.events) (offered_car s.events) x landed))
      (λ (car : Among records x). subst (λ (n : ℕ). IsRequest n x) was.0 (may.requests x car))
      (among_append (recorded s.events) records x has),
)
ordered_next epoch s Land may was = subst (λ (xs : List MonitorRecord). (s.epoch ≡ epoch) × AreInRow xs × AreRequests epoch xs) (sym (append-nil (recorded s.events ++ offered_car s.events))) was
ordered_next epoch s (Failed by) may was = was

keeps : (epoch q : ℕ) (s : PartState) (e : Event) → IsAllowed s e → IsOrderedAt epoch q s → IsOrderedAt epoch q (state_with s e)
keeps epoch q (Worker s) (OfWorker e) may is = tt
keeps epoch q (Disc s) (OfDisc e) may is = tt
keeps epoch q (Trail s) (OfTrail e) may is = tt
keeps epoch q (Monitor s) (OfMonitor e) may is = λ here. ordered_next epoch s e may (is here)
keeps epoch q (Dump s) (OfDump e) may is = tt
keeps epoch q _ _ may is = absurd may

begins : (found : Found) (q : ℕ) (s : PartState) → slice_get (opening_parts found) q ≡ Some s → IsOrderedAt found.epoch q s
begins found q (Monitor s) at = λ here.
    let both : Some (monitor_at found) ≡ Some (Monitor s) = sym (opening_monitor found) ∙ (ap (λ (n : ℕ). slice_get (opening_parts found) n) (sym here) ∙ at) in
    let one : monitor_at found ≡ Monitor s = cc (both) in
    subst (λ (u : PartState). IsOrderedAt found.epoch monitor_part u) one (λ there. (refl, tt, λ x has. absurd has)) refl
begins found q (Worker s) at = tt
begins found q (Disc s) at = tt
begins found q (Trail s) at = tt
begins found q (Dump s) at = tt
begins found q Idle at = tt

pub order_law : OrderLaw
order_law found log s history at = (let is = kept node (IsOrderedAt found.epoch) (keeps found.epoch) (opening_parts found) log history (begins found) monitor_part (Monitor s) at refl in (is.1, is.2))

-- A RUN

pub row_law : CrashLaw → DoneLaw → ReadsLaw → {D : Type 0} (kind : disk.Ghosts D) → RowLaw kind
row_law crash_law done_law reads_law kind = λ config phase epoch old new outcomes list map_ valid old_count new_count telling up ran.
    let made = made_by crash_law done_law reads_law kind config phase epoch old new outcomes list map_ valid old_count new_count telling up ran in
    let monitor = monitor_there ran.found ran.log in
    let events : monitor_events (states_after node (opening_parts ran.found) ran.log) ≡ monitor.0.events = ap (λ (o : Option PartState). monitor_events_in o) monitor.1 in
    let row = (order_law ran.found ran.log monitor.0 ran.history monitor.1).0 in
    (made.0, subst AreInRow (sym (ap₂ (λ (l o : List MonitorRecord). l ++ o) made.1 made.2 ∙ ap (λ (es : List MonitorEvent). recorded es ++ offered_car es) events)) row)

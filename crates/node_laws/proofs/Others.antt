-- What a trail, the monitor and a dump device may do, they may do seen as those of any layout.
use Rattle.std.specs.Prelude.{◌≡◌, ◌⊎◌, ℕ, zero, suc, ◌<◌, ◌≤◌, true, false, List, [], ◌∷◌, ◌++◌, length, Option, Some, None, IsSome, slice_get}
use Rattle.std.specs.Option.{option_or}
use Rattle.std.proofs.Common.{refl, ap, sym, ◌∙◌, subst, arith, ⊎_elim, inl, inr}
use Rattle.std.proofs.Math.Nat.{mod-lt}
use Rattle.tmf_model.specs.Place.{key_sum}
use Rattle.tmf_model.specs.RecordMap.{RecordMap}
use Rattle.tmf_model.specs.declared.transid.Transid.{Transid}
use Rattle.trail_files.specs.declared.audit_record.AuditRecord.{AuditRecord}
use Rattle.trail_files.specs.declared.monitor_record.MonitorRecord.{MonitorRecord}
use Rattle.trail_files.specs.declared.monitor_record.MonitorRecord.TheVariants.{Start as StartRecord, Commit, Abort}
use Rattle.any_node.specs.Value.{AuditRecord as AnyRecord, Ending, Each, filed, closes}
use Rattle.any_node.specs.Node.{Label, now_landed, start_of, allows_trail, allows_monitor, allows_dump}
use Rattle.any_node.specs.Node.{AreLater as AnyLater}
use Rattle.any_node.specs.Node.Label.{Found as OldLabel, Taken}
use Rattle.node_machine.specs.declared.event.DumpEvent.{DumpEvent}
use Rattle.node_machine.specs.declared.event.DumpEvent.TheVariants.{Copy, Seal, Sealed, Failed as DumpFailed}
use Rattle.node_machine.specs.declared.event.MonitorEvent.{MonitorEvent}
use Rattle.node_machine.specs.declared.event.MonitorEvent.TheVariants.{Offer as OfferCar, Land as LandCar, Failed as MonitorFailed}
use Rattle.node_machine.specs.declared.event.TrailEvent.{TrailEvent}
use Rattle.node_machine.specs.declared.event.TrailEvent.TheVariants.{Offer, Land, Purge, Failed as TrailFailed}
use Rattle.node_machine.specs.Parts.{DumpStart, TrailPart, MonitorPart, DumpPart}
use Rattle.node_machine.specs.Made.{blocks_of, volume_of, home_block}
use Rattle.node_machine.specs.Trail.{offered, trail_of, TrailMay}
use Rattle.node_machine.specs.Monitor.{offered_car, recorded, ended_by, IsRequest, IsLater, AreLater, MonitorMay}
use Rattle.node_machine.specs.Dump.{label_of, offered_label, landed_here, landed_label, copied, ends, IsInNoDoubt, IsOngoing, DumpMay}
use Rattle.node_machine.specs.Same.{Among}
use Rattle.node_machine.specs.SameLaws.{among_append}
use Rattle.node_machine.specs.DumpLaws.{or_assoc}
use Rattle.node_machine.specs.Opening.{Found}
use Rattle.node_laws.specs.Layouts.{layout, FileKey, FileBlock, is_later, later_if_before, later_by_epoch}
use Rattle.node_laws.specs.Views.{recs_of, mons_of, entries_of, offered_rows, any_trail, any_trail_event, offered_mons, landed_mons, any_monitor, any_monitor_event, copies_of, offered_dump, landed_dump, old_dump, any_dump, any_dump_event}
use Rattle.node_laws.proofs.Records.{length-recs_of}

-- the records end attempts of this run
abbrev pub AreRequests : ℕ → List MonitorRecord → Type 0
AreRequests epoch xs = (x : MonitorRecord) → Among xs x → IsRequest epoch x

pub requests_kept : (s : MonitorPart) (e : MonitorEvent) → MonitorMay s e → AreRequests s.epoch (recorded s.events) × AreRequests s.epoch (offered_car s.events)
    → AreRequests s.epoch (recorded (e ∷ s.events)) × AreRequests s.epoch (offered_car (e ∷ s.events))
requests_kept s (OfferCar records) may h = (h.0, may.requests)
requests_kept s LandCar may h = ((λ x is. ⊎_elim (λ (l : Among (recorded s.events) x). h.0 x l) (λ (r : Among (offered_car s.events) x). h.1 x r) (among_append (recorded s.events) (offered_car s.events) x is)), λ x is. absurd is)
requests_kept s (MonitorFailed by) may h = h

module _ (found : Found) where
  -- THE TRAIL

  none_rows : (events : List TrailEvent) → offered events ≡ [] → offered_rows found events ≡ []
  none_rows [] e = refl
  none_rows (Offer file records ∷ events) e = ap (λ rs. filed file (recs_of found rs)) e
  none_rows (Land ∷ events) e = refl
  none_rows (Purge below last ∷ events) e = none_rows events e
  none_rows (TrailFailed by ∷ events) e = none_rows events e

  filed_none : (file : ℕ) (records : List AuditRecord) → filed file (recs_of found records) ≡ [] → records ≡ []
  filed_none file [] e = refl
  filed_none file (r ∷ rs) e = absurd (cc (e))

  rows_none : (events : List TrailEvent) → offered_rows found events ≡ [] → offered events ≡ []
  rows_none [] e = refl
  rows_none (Offer file records ∷ events) e = filed_none file records e
  rows_none (Land ∷ events) e = refl
  rows_none (Purge below last ∷ events) e = rows_none events e
  rows_none (TrailFailed by ∷ events) e = rows_none events e

  each_on : (number : ℕ) (records : List AuditRecord) → ((r : AuditRecord) → Among records r → trail_of found.config r.disc ≡ number) → Each (λ (r : AnyRecord (layout found)). trail_of found.config r.disc ≡ number) (recs_of found records)
  each_on number [] h = tt
  each_on number (r ∷ rs) h = (h r (inl refl), each_on number rs (λ x is. h x (inr is)))

  pub trail_allows : (lost : ℕ → ℕ) (s : TrailPart) (e : TrailEvent) → s.config ≡ found.config → TrailMay s e → allows_trail (layout found) (any_trail found lost s) (any_trail_event found e)
  trail_allows lost s (Offer file records) same may =
      let n = length-recs_of found records in (
        none_rows s.events may.idle,
        may.behind,
        (let some = may.some in omega (arith, n, some)),
        (let few = may.few in omega (arith, n, few)),
        each_on s.number records (λ r is. ap (λ c. trail_of c r.disc) (sym same) ∙ may.own r is),
      )
  trail_allows lost s Land same may = λ e. may (rows_none s.events e)
  trail_allows lost s (Purge below last) same may = (may.rises, may.front)
  trail_allows lost s (TrailFailed by) same may = tt

  -- THE MONITOR

  mons_append : (xs ys : List MonitorRecord) → mons_of found (xs ++ ys) ≡ mons_of found xs ++ mons_of found ys
  mons_append [] ys = refl
  mons_append (StartRecord e ∷ xs) ys = mons_append xs ys
  mons_append (Commit t ∷ xs) ys = ap (λ ms. record { tx = t; commit = true } ∷ ms) (mons_append xs ys)
  mons_append (Abort t ∷ xs) ys = ap (λ ms. record { tx = t; commit = false } ∷ ms) (mons_append xs ys)

  pub offered_mons_of : (events : List MonitorEvent) → offered_mons found events ≡ mons_of found (offered_car events)
  offered_mons_of [] = refl
  offered_mons_of (OfferCar records ∷ events) = refl
  offered_mons_of (LandCar ∷ events) = refl
  offered_mons_of (MonitorFailed by ∷ events) = offered_mons_of events

  pub landed_mons_of : (events : List MonitorEvent) → landed_mons found events ≡ mons_of found (recorded events)
  landed_mons_of [] = refl
  landed_mons_of (OfferCar records ∷ events) = landed_mons_of events
  landed_mons_of (LandCar ∷ events) = (λ i. landed_mons_of events i ++ offered_mons_of events i) ∙ sym (mons_append (recorded events) (offered_car events))
  landed_mons_of (MonitorFailed by ∷ events) = landed_mons_of events

  pub length-mons_of : (epoch : ℕ) (xs : List MonitorRecord) → AreRequests epoch xs → length (mons_of found xs) ≡ length xs
  length-mons_of epoch [] h = refl
  length-mons_of epoch (StartRecord e ∷ xs) h = absurd (h (StartRecord e) (inl refl))
  length-mons_of epoch (Commit t ∷ xs) h = ap (λ (n : ℕ). suc n) (length-mons_of epoch xs (λ x is. h x (inr is)))
  length-mons_of epoch (Abort t ∷ xs) h = ap (λ (n : ℕ). suc n) (length-mons_of epoch xs (λ x is. h x (inr is)))

  -- the element at a place
  pub mon_at : (epoch : ℕ) (xs : List MonitorRecord) → AreRequests epoch xs → (i : ℕ) (t : Transid) → slice_get xs i ≡ Some (Commit t) → ◌≡◌ {A = Option (Ending (layout found))} (slice_get (mons_of found xs) i) (Some (record { tx = t; commit = true }))
  mon_at epoch [] h i t e = absurd (cc (e))
  mon_at epoch (StartRecord n ∷ xs) h i t e = absurd (h (StartRecord n) (inl refl))
  mon_at epoch (Commit u ∷ xs) h zero t e = (let same : Commit u ≡ Commit t = cc (e) in let one : u ≡ t = cc (same) in λ i. Some (record { tx = one i; commit = true }))
  mon_at epoch (Commit u ∷ xs) h (suc i) t e = mon_at epoch xs (λ x is. h x (inr is)) i t e
  mon_at epoch (Abort u ∷ xs) h zero t e = (let same : Abort u ≡ Commit t = cc (e) in absurd (cc (same)))
  mon_at epoch (Abort u ∷ xs) h (suc i) t e = mon_at epoch xs (λ x is. h x (inr is)) i t e

  -- it is what this record says
  abbrev pub Tells : MonitorRecord → Ending (layout found) → Type 0
  Tells (StartRecord epoch) y = ⊥
  Tells (Commit t) y = record { tx = t; commit = true } ≡ y
  Tells (Abort t) y = record { tx = t; commit = false } ≡ y

  pub told_by : (xs : List MonitorRecord) (y : Ending (layout found)) → Among (mons_of found xs) y → (x : MonitorRecord) × Among xs x × Tells x y
  told_by [] y h = absurd h
  told_by (StartRecord e ∷ xs) y h = (let r = told_by xs y h in (r.0, inr r.1, r.2))
  told_by (Commit t ∷ xs) y h = ⊎_elim (λ (e : record { tx = t; commit = true } ≡ y). (Commit t, inl refl, e)) (λ (k : Among (mons_of found xs) y). (let r = told_by xs y k in (r.0, inr r.1, r.2))) h
  told_by (Abort t ∷ xs) y h = ⊎_elim (λ (e : record { tx = t; commit = false } ≡ y). (Abort t, inl refl, e)) (λ (k : Among (mons_of found xs) y). (let r = told_by xs y k in (r.0, inr r.1, r.2))) h

  -- each is of an earlier run, or told by one of these
  abbrev AreBehind : List (Ending (layout found)) → List MonitorRecord → Type 0
  AreBehind earlier before = (y : Ending (layout found)) → Among earlier y → (y.tx.epoch < found.epoch) ⊎ ((z : MonitorRecord) × Among before z × Tells z y × IsRequest found.epoch z)

  tx_of : (z : MonitorRecord) (y : Ending (layout found)) → Tells z y → IsRequest found.epoch z → (ended_by z ≡ Some y.tx) × (y.tx.epoch ≡ found.epoch)
  tx_of (StartRecord e) y h r = absurd h
  tx_of (Commit t) y h r = (ap (λ (m : Ending (layout found)). Some m.tx) h, ap (λ (m : Ending (layout found)). m.tx.epoch) (sym h) ∙ r)
  tx_of (Abort t) y h r = (ap (λ (m : Ending (layout found)). Some m.tx) h, ap (λ (m : Ending (layout found)). m.tx.epoch) (sym h) ∙ r)

  is_behind : (earlier : List (Ending (layout found))) (before : List MonitorRecord) (x : MonitorRecord) (t : Transid) → AreBehind earlier before → ended_by x ≡ Some t → t.epoch ≡ found.epoch → ((y : MonitorRecord) → Among before y → IsLater y x)
      → (y : Ending (layout found)) → Among earlier y → y.tx.worker ≡ t.worker → is_later y.tx t ≡ true
  is_behind earlier before x t behind ends of later y is worker =
      ⊎_elim
      (λ (old : y.tx.epoch < found.epoch). later_by_epoch y.tx t (omega (arith, old, of)))
      (λ (z : (z : MonitorRecord) × Among before z × Tells z y × IsRequest found.epoch z).
      (let w = tx_of z.0 y z.2 z.3 in later_if_before y.tx t (w.1 ∙ sym of) (later z.0 z.1 y.tx t w.0 ends worker)))
      (behind y is)

  push_behind : (earlier : List (Ending (layout found))) (before : List MonitorRecord) (x : MonitorRecord) (y : Ending (layout found)) → Tells x y → IsRequest found.epoch x → AreBehind earlier before → AreBehind (y ∷ earlier) (x ∷ before)
  push_behind earlier before x y tells r behind z is =
      ⊎_elim
      (λ (e : y ≡ z). inr (x, inl refl, subst (λ (m : Ending (layout found)). Tells x m) e tells, r))
      (λ (k : Among earlier z). ⊎_elim (λ (old : z.tx.epoch < found.epoch). inl old) (λ (w : (w : MonitorRecord) × Among before w × Tells w z × IsRequest found.epoch w). inr (w.0, inr w.1, w.2, w.3)) (behind z k))
      is

  later_list : (earlier : List (Ending (layout found))) (before xs : List MonitorRecord) → AreBehind earlier before → AreRequests found.epoch xs → AreLater before xs → AnyLater {N = layout found} earlier (mons_of found xs)
  later_list earlier before [] behind r later = tt
  later_list earlier before (StartRecord e ∷ xs) behind r later = absurd (r (StartRecord e) (inl refl))
  later_list earlier before (Commit t ∷ xs) behind r later = (
    is_behind earlier before (Commit t) t behind refl (r (Commit t) (inl refl)) later.0,
    later_list (record { tx = t; commit = true } ∷ earlier) (Commit t ∷ before) xs (push_behind earlier before (Commit t) (record { tx = t; commit = true }) refl (r (Commit t) (inl refl)) behind) (λ x is. r x (inr is)) later.1,
  )
  later_list earlier before (Abort t ∷ xs) behind r later = (
    is_behind earlier before (Abort t) t behind refl (r (Abort t) (inl refl)) later.0,
    later_list (record { tx = t; commit = false } ∷ earlier) (Abort t ∷ before) xs (push_behind earlier before (Abort t) (record { tx = t; commit = false }) refl (r (Abort t) (inl refl)) behind) (λ x is. r x (inr is)) later.1,
  )

  -- the list of the opening ends attempts of earlier runs alone
  abbrev pub AreOld : List MonitorRecord → Type 0
  AreOld before = (y : Ending (layout found)) → Among (closes (entries_of found before)) y → y.tx.epoch < found.epoch

  pub monitor_allows : (before : List MonitorRecord) (s : MonitorPart) (e : MonitorEvent) → AreOld before → s.epoch ≡ found.epoch → AreRequests s.epoch (recorded s.events) × AreRequests s.epoch (offered_car s.events)
      → MonitorMay s e → allows_monitor (layout found) (any_monitor found before s) (any_monitor_event found e)
  monitor_allows before s (OfferCar records) old same all may =
      let requests : AreRequests found.epoch records = subst (λ (n : ℕ). AreRequests n records) same may.requests in
      let n = length-mons_of s.epoch records may.requests in (
        offered_mons_of s.events ∙ ap (mons_of found) may.idle,
        later_list (closes (entries_of found before) ++ landed_mons found s.events) (recorded s.events) records
            (λ y is. ⊎_elim
            (λ (o : Among (closes (entries_of found before)) y). inl (old y o))
            (λ (l : Among (landed_mons found s.events) y).
            (let z = told_by (recorded s.events) y (subst (λ (ms : List (Ending (layout found))). Among ms y) (landed_mons_of s.events) l) in
            inr (z.0, z.1, z.2, subst (λ (n : ℕ). IsRequest n z.0) same (all.0 z.0 z.1))))
            (among_append (closes (entries_of found before)) (landed_mons found s.events) y is))
            requests may.later,
        (let some = may.some in omega (arith, n, some)),
        (let few = may.few in omega (arith, n, few)),
      )
  monitor_allows before s LandCar old same all may = λ e. may (none (offered_car s.events) all.1 (sym (offered_mons_of s.events) ∙ e)) where
    none : (xs : List MonitorRecord) → AreRequests s.epoch xs → mons_of found xs ≡ [] → xs ≡ []
    none [] r e = refl
    none (StartRecord n ∷ xs) r e = absurd (r (StartRecord n) (inl refl))
    none (Commit t ∷ xs) r e = absurd (cc (e))
    none (Abort t ∷ xs) r e = absurd (cc (e))
  monitor_allows before s (MonitorFailed by) old same all may = tt

  -- THE DUMP

  -- what a label says
  abbrev pub mark_of : Option (Label (layout found)) → Option DumpStart
  mark_of None = None
  mark_of (Some (OldLabel start values)) = Some (record { number = 0; start = start })
  mark_of (Some (Taken number start copies)) = Some (record { number = number; start = start })

  pub offered_mark : (events : List DumpEvent) → mark_of (offered_dump found events) ≡ offered_label events
  offered_mark [] = refl
  offered_mark (Seal number start ∷ events) = refl
  offered_mark (Sealed number true ∷ events) = refl
  offered_mark (Sealed number false ∷ events) = offered_mark events
  offered_mark (Copy number file block position ∷ events) = offered_mark events
  offered_mark (DumpFailed by ∷ events) = offered_mark events

  pub now_mark : (a b : Option (Label (layout found))) → mark_of (now_landed (layout found) a b) ≡ option_or (mark_of b) (mark_of a)
  now_mark a None = refl
  now_mark a (Some (OldLabel start values)) = refl
  now_mark a (Some (Taken number start copies)) = refl

  old_mark : (rest : Option ℕ) (values : RecordMap) → mark_of (old_dump found rest values) ≡ label_of rest
  old_mark None values = refl
  old_mark (Some start) values = refl

  pub landed_mark : (rest : Option ℕ) (values : RecordMap) (events : List DumpEvent) → mark_of (landed_dump found (old_dump found rest values) events) ≡ landed_label rest events
  landed_mark rest values [] = old_mark rest values
  landed_mark rest values (Sealed number true ∷ events) =
      now_mark (landed_dump found (old_dump found rest values) events) (offered_dump found events)
      ∙ ((λ i. option_or (offered_mark events i) (landed_mark rest values events i)) ∙ sym (or_assoc (offered_label events) (landed_here events) (label_of rest)))
  landed_mark rest values (Sealed number false ∷ events) = landed_mark rest values events
  landed_mark rest values (Seal number start ∷ events) = landed_mark rest values events
  landed_mark rest values (Copy number file block position ∷ events) = landed_mark rest values events
  landed_mark rest values (DumpFailed by ∷ events) = landed_mark rest values events

  unmarked : (o : Option (Label (layout found))) → mark_of o ≡ None → o ≡ None
  unmarked None e = refl
  unmarked (Some (OldLabel start values)) e = absurd (cc (e))
  unmarked (Some (Taken number start copies)) e = absurd (cc (e))

  in_no_doubt : (events : List DumpEvent) (o : Option DumpStart) (j l : ℕ) → o ≡ Some (record { number = j; start = l }) → IsInNoDoubt events o → IsOngoing events j
  in_no_doubt events None j l e h = absurd (cc (e))
  in_no_doubt events (Some d) j l e h = (let same : d ≡ record { number = j; start = l } = cc (e) in subst (λ (x : DumpStart). IsOngoing events x.number) same h)

  pub mark_start : (a : Label (layout found)) (d : DumpStart) → mark_of (Some a) ≡ Some d → start_of a ≡ d.start
  mark_start (OldLabel start values) d e = (let same : record { number = 0; start = start } ≡ d = cc (e) in ap (λ (x : DumpStart). x.start) same)
  mark_start (Taken number start copies) d e = (let same : record { number = number; start = start } ≡ d = cc (e) in ap (λ (x : DumpStart). x.start) same)

  marked_start : (a : Label (layout found)) → (d : DumpStart) × (mark_of (Some a) ≡ Some d)
  marked_start (OldLabel start values) = (_, refl)
  marked_start (Taken number start copies) = (_, refl)

  -- a label that this device writes is of a dump of this run
  taken_label : (events : List DumpEvent) (d : DumpStart) → offered_label events ≡ Some d → (l : ℕ) × (copies : FileBlock → Option ℕ) × (offered_dump found events ≡ Some (Taken d.number l copies))
  taken_label [] d e = absurd (cc (e))
  taken_label (Seal number start ∷ events) d e =
      (let same : record { number = number; start = start } ≡ d = cc (e) in (start, copies_of found events number, ap (λ (x : DumpStart). Some (Taken x.number start (copies_of found events number))) same))
  taken_label (Sealed number true ∷ events) d e = absurd (cc (e))
  taken_label (Sealed number false ∷ events) d e = taken_label events d e
  taken_label (Copy number file block position ∷ events) d e = taken_label events d e
  taken_label (DumpFailed by ∷ events) d e = taken_label events d e

  some_copy : (o : Option ℕ) → IsSome o → (n : ℕ) × (o ≡ Some n)
  some_copy None h = absurd (cc (h))
  some_copy (Some n) h = (n, refl)

  -- a file on a volume has blocks
  abbrev pub HaveBlocks : Type 0
  HaveBlocks = (file : ℕ) → 1 ≤ volume_of found.config file → 1 ≤ blocks_of found.config file

  pub dump_allows : (values : RecordMap) (s : DumpPart) (e : DumpEvent) → s.config ≡ found.config → 1 ≤ s.number → HaveBlocks → DumpMay s e → allows_dump (layout found) (any_dump found values s) (any_dump_event found e)
  dump_allows values s (Copy number file block position) same one have may =
      (may.ongoing, may.is_new, λ j l c e. in_no_doubt s.events (offered_label s.events) j l (sym (offered_mark s.events) ∙ ap mark_of e) may.certain)
  dump_allows values s (Seal number start) same one have may = (
    unmarked (offered_dump found s.events) (offered_mark s.events ∙ may.idle),
    may.ongoing,
    λ k e. some_copy (copied s.events number k.0 (home_block found.config k.0 k.1)) (may.whole k.0 (home_block found.config k.0 k.1) (record { here = ap (λ c. volume_of c k.0) same ∙ e; within = within k e })),
    λ a e. (let m = marked_start a in
        let rises : m.0.start ≤ start = may.rises m.0 (sym (landed_mark s.rest values s.events) ∙ (ap mark_of e ∙ m.1)) in
        let at : start_of a ≡ m.0.start = mark_start a m.0 m.1 in
        omega (arith, rises, at)),
  )
    where
      within : (k : FileKey) → volume_of found.config k.0 ≡ s.number → home_block found.config k.0 k.1 < blocks_of s.config k.0
      within k e =
          let some : 0 < blocks_of found.config k.0 = have k.0 (omega (arith, one, e)) in
          subst (λ c. home_block found.config k.0 k.1 < blocks_of c k.0) (sym same) (mod-lt (key_sum k.1) some)
  dump_allows values s (Sealed number true) same one have may =
      (let t = taken_label s.events may.0 may.1 in (t.0, t.1, subst (λ (n : ℕ). offered_dump found s.events ≡ Some (Taken n t.0 t.1)) may.2 t.2))
  dump_allows values s (Sealed number false) same one have may = may
  dump_allows values s (DumpFailed by) same one have may = tt

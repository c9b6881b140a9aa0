-- All parts of a node, seen as those of any layout; and the facts that are true of them.
use Rattle.std.specs.Prelude.{◌≡◌, ℕ, zero, suc, ◌+◌, ◌<◌, ◌≤◌, ◌==◌, Bool, true, false, List, [], ◌∷◌, ◌++◌, length, Option, Some, None, slice_get, if◌then◌else◌}
use Rattle.std.proofs.Common.{refl, ap, sym, ◌∙◌, subst, arith, ⊎_elim, inl, inr}
use mathlib.Core.List.{IsPrefix}
use Rattle.chronicle.specs.Histories.{IsTrueIn}
use Rattle.tmf_model.specs.Commits.{numbered}
use Rattle.tmf_model.specs.RecordMap.{RecordMap}
use Rattle.tmf_model.specs.declared.script.Close.{Close}
use Rattle.tmf_model.specs.declared.transid.Transid.{Transid}
use Rattle.trail_files.specs.declared.audit_record.AuditRecord.{AuditRecord}
use Rattle.trail_files.specs.declared.monitor_record.MonitorRecord.{MonitorRecord}
use Rattle.trail_files.specs.declared.monitor_record.MonitorRecord.TheVariants.{Start as StartRecord, Commit, Abort}
use Rattle.any_node.specs.Value.{AuditRecord as AnyRecord, own}
use Rattle.any_node.specs.Node.{State, Event, Fact, node as any_node, IsUpTo as AnyUpTo, start_under_way}
use Rattle.any_node.specs.Node.Label.{Found as OldLabel, Taken}
use Rattle.any_node.specs.Node.State.{worker, disc, trail, monitor, dump}
use Rattle.any_node.specs.Node.Fact.{Enlisted as AnyEnlisted, Finished as AnyFinished, Decided as AnyDecided, Closed as AnyClosed, Made as AnyMade, Durable as AnyDurable, Committed as AnyCommitted, Started as AnyStarted, Over as AnyOver, Floor as AnyFloor}
use Rattle.any_node.specs.Node.{IsOver as AnyIsOver, IsFrom, Label}
use Rattle.node_machine.specs.declared.event.Event.{Event as NodeEvent}
use Rattle.node_machine.specs.declared.event.Event.TheVariants.{OfWorker, OfDisc, OfTrail, OfMonitor, OfDump}
use Rattle.node_machine.specs.Parts.{Standing, DumpStart, TrailPart, DumpPart, PartState}
use Rattle.node_machine.specs.Parts.{Fact as NodeFact}
use Rattle.node_machine.specs.Parts.PartState.{Worker, Disc, Trail, Monitor, Dump, Idle}
use Rattle.node_machine.specs.Parts.Fact.{Enlisted, Finished, Decided, Closed, Made, Durable, Recorded, Started, Over, Floor}
use Rattle.node_machine.specs.Parts.{Entry as FileEntry}
use Rattle.node_machine.specs.Made.{made, up_to, starts, under_way, lowering, rest_start}
use Rattle.node_machine.specs.Disc.{IsUpTo, start_of as way_start}
use Rattle.node_machine.specs.Trail.{offered, landed, records_of, trail_of, first_of, HasLandedTo}
use Rattle.node_machine.specs.Monitor.{recorded, offered_car}
use Rattle.node_machine.specs.Dump.{AreFrom, IsOver, landed_label, offered_label}
use Rattle.node_machine.specs.Node.{node}
use Rattle.node_machine.specs.Opening.{Found, TrailFound, VolumeFound, found_volume, firsts_on}
use Rattle.node_machine.specs.Same.{Among}
use Rattle.node_laws.specs.Layouts.{layout}
use Rattle.node_laws.specs.Views.{first_or, is_commit, recs_of, entries_of, is_close, pair_of, way_of, pairs_of, old_dump, offered_dump, landed_dump, any_worker, any_disc, any_trail, any_monitor, any_dump, any_worker_event, any_disc_event, any_trail_event, any_monitor_event, any_dump_event, newest_discs}
use Rattle.node_laws.proofs.Dumps.{AreSolid}
use Rattle.node_laws.proofs.Fine.{AreAt, IsFine}
use Rattle.node_laws.proofs.Workers.{AreOwn, commits_close, newest_enlisted, enlisted_newest}
use Rattle.node_laws.proofs.Others.{AreRequests, landed_mons_of, mon_at, mark_of, offered_mark, landed_mark}
use Rattle.node_laws.proofs.Records.{recs_of-append, length-recs_of, made_recs}
use Rattle.node_laws.proofs.Places.{front, below_end, among_records, records_append, own_landed}

first_up : (other : ℕ) (firsts : List (ℕ × ℕ)) (d : ℕ) → first_of firsts d ≤ first_or other firsts d
first_up other [] d = omega arith
first_up other (x ∷ xs) d = by_case (x.0 == d) (first_up other xs d) where
  by_case : (b : Bool) → first_of xs d ≤ first_or other xs d → (if b then x.1 else first_of xs d) ≤ (if b then x.1 else first_or other xs d)
  by_case true le = omega arith
  by_case false le = le

length-entries_of : (found : Found) (xs : List MonitorRecord) → length (entries_of found xs) ≡ length xs
length-entries_of found [] = refl
length-entries_of found (StartRecord e ∷ xs) = ap (λ (n : ℕ). suc n) (length-entries_of found xs)
length-entries_of found (Commit t ∷ xs) = ap (λ (n : ℕ). suc n) (length-entries_of found xs)
length-entries_of found (Abort t ∷ xs) = ap (λ (n : ℕ). suc n) (length-entries_of found xs)

-- `before` is the monitor's list at the opening, `values` the records of each volume's dump there, and `idle` what an idle part is seen as.
module _ (found : Found) (before : List MonitorRecord) (values : ℕ → RecordMap × ℕ) (idle : ℕ → State (layout found)) where
  abbrev pub view : ℕ → PartState → State (layout found)
  view q (Worker s) = worker (any_worker found s.number s.events)
  view q (Disc s) = disc (any_disc found s)
  view q (Trail s) = trail (any_trail found (λ n. (values n).1) s)
  view q (Monitor s) = monitor (any_monitor found before s)
  view q (Dump s) = dump (any_dump found (values s.number).0 s)
  view q Idle = idle q

  abbrev pub views : ℕ → List PartState → List (State (layout found))
  views q [] = []
  views q (s ∷ ss) = view q s ∷ views (suc q) ss

  abbrev pub any_event : NodeEvent → Event (layout found)
  any_event (OfWorker e) = any_worker_event found e
  any_event (OfDisc e) = any_disc_event found e
  any_event (OfTrail e) = any_trail_event found e
  any_event (OfMonitor e) = any_monitor_event found e
  any_event (OfDump e) = any_dump_event found e

  view_from : (n : ℕ) (ss : List PartState) (q : ℕ) (s : PartState) → slice_get ss q ≡ Some s → slice_get (views n ss) q ≡ Some (view (n + q) s)
  view_from n [] q s at = absurd (cc (at))
  view_from n (x ∷ ss) zero s at = (let same : x ≡ s = cc (at) in let e : n ≡ n + 0 = omega arith in λ i. Some (view (e i) (same i)))
  view_from n (x ∷ ss) (suc q) s at = (let e : suc n + q ≡ n + suc q = omega arith in view_from (suc n) ss q s at ∙ ap (λ (m : ℕ). Some (view m s)) e)

  pub view_at : (ss : List PartState) (q : ℕ) (s : PartState) → slice_get ss q ≡ Some s → slice_get (views 0 ss) q ≡ Some (view q s)
  view_at ss q s at = (let e : 0 + q ≡ q = omega arith in view_from 0 ss q s at ∙ ap (λ (m : ℕ). Some (view m s)) e)

  -- what every history keeps of a part
  abbrev pub IsFit : ℕ → PartState → Type 0
  IsFit q (Worker s) = (s.epoch ≡ found.epoch) × AreOwn s.epoch s.events
  IsFit q (Disc s) = (s.config ≡ found.config) × ((entries : List FileEntry) × (s.base ≡ Some entries)) × IsFine s.first s.events × ((v : VolumeFound) × (found_volume found s.number ≡ Some v) × (s.first ≡ v.next))
  IsFit q (Trail s) = (s.config ≡ found.config) × (s.firsts ≡ firsts_on found s.number 1 found.volumes) × ((1 ≤ s.number) × (s.number ≤ length found.config.trails)) × ((old : List Standing) × (s.old ≡ Some old))
      × ((d : ℕ) → trail_of found.config d ≡ s.number → AreAt (first_or (values d).1 s.firsts d) (records_of d (landed s.events ++ offered s.events)))
      × ((r : AuditRecord) → Among (landed s.events ++ offered s.events) r → trail_of found.config r.disc ≡ s.number)
      × ((x : TrailFound) × (numbered found.trails s.number ≡ Some x) × (s.old ≡ x.old))
  IsFit q (Monitor s) = (s.epoch ≡ found.epoch) × (s.places ≡ length before) × (AreRequests s.epoch (recorded s.events) × AreRequests s.epoch (offered_car s.events))
  IsFit q (Dump s) = (s.config ≡ found.config) × (1 ≤ s.number) × AreSolid found s.number s.events × ((v : VolumeFound) × (found_volume found s.number ≡ Some v) × (s.rest ≡ v.rest))
  IsFit q Idle = Unit {0}

  pub record AreFit (ss : List PartState) : Type 0 where
    pub each : (q : ℕ) (s : PartState) → slice_get ss q ≡ Some s → IsFit q s

  module _ (ss : List PartState) (fit : AreFit ss) where
    abbrev IsTrue_ : NodeFact → Type 0
    IsTrue_ f = IsTrueIn node ss f

    abbrev Is : Fact (layout found) → Type 0
    Is f = IsTrueIn (any_node (layout found)) (views 0 ss) f

    -- a fact that one part makes
    fact : (q : ℕ) (s : PartState) (f : Fact (layout found)) → slice_get ss q ≡ Some s → (any_node (layout found)).makes (view q s) f → Is f
    fact q s f at makes = (q, view q s, view_at ss q s at, makes)

    pub enlisted_true : (t : Transid) (d : ℕ) → IsTrueIn node ss (Enlisted t d) → Is (AnyEnlisted t d)
    enlisted_true t d (q, Worker s, at, m) = fact q (Worker s) (AnyEnlisted t d) at (sym m.0.worker, m.0.epoch ∙ (fit.each q (Worker s) at).0, enlisted_newest found s.events t d m.1)
    enlisted_true t d (q, _, at, m) = absurd m

    pub finished_true : (t : Transid) → IsTrueIn node ss (Finished t) → Is (AnyFinished t)
    finished_true t (q, Worker s, at, m) = fact q (Worker s) (AnyFinished t) at (sym m.0.worker, m.1)
    finished_true t (q, _, at, m) = absurd m

    pub decided_true : (t : Transid) (close : Close) (ds : List ℕ) → IsTrueIn node ss (Decided t close ds) → (es : List ℕ) × Is (AnyDecided t (is_commit close) es) × ((d : ℕ) → Among es d → Among ds d)
    decided_true t close ds (q, Worker s, at, m) = (
      newest_discs found s.events t,
      fact q (Worker s) (AnyDecided t (is_commit close) (newest_discs found s.events t)) at (sym m.0.worker, commits_close found s.events t ∙ ap (is_close found) m.1, refl, m.0.epoch ∙ (fit.each q (Worker s) at).0),
      λ d h. subst (λ (xs : List ℕ). Among xs d) m.2 (newest_enlisted found s.events t d h),
    )
    decided_true t close ds (q, _, at, m) = absurd m

    pub closed_true : (t : Transid) (d n : ℕ) → IsTrueIn node ss (Closed t d n) → Is (AnyClosed t d n)
    closed_true t d n (q, Disc s, at, m) = fact q (Disc s) (AnyClosed t d n) at m
    closed_true t d n (q, _, at, m) = absurd m

    -- a front of the records is one of what they are seen as
    recs_front : (xs ys : List AuditRecord) → IsPrefix xs ys → IsPrefix (recs_of found xs) (recs_of found ys)
    recs_front xs ys p = (recs_of found p.0, sym (recs_of-append found xs p.0) ∙ ap (recs_of found) p.1)

    pub made_true : (d n : ℕ) (rs : List AuditRecord) → IsTrueIn node ss (Made d n rs) → Is (AnyMade d n (recs_of found rs))
    made_true d n rs (q, Disc s, at, m) =
        let fine = (fit.each q (Disc s) at).2 in
        let f = front s.first n (made s.events) fine.positions m.1 m.2 in
        fact q (Disc s) (AnyMade d n (recs_of found rs)) at (
          m.0,
          subst (λ (xs : List (AnyRecord (layout found))). IsPrefix (recs_of found rs) xs) (sym (made_recs found s.events))
              (subst (λ (xs : List AuditRecord). IsPrefix (recs_of found xs) (recs_of found (made s.events))) m.3 (recs_front (up_to n (made s.events)) (made s.events) f.0)),
          f.1 ∙ (ap (λ (xs : List AuditRecord). s.first + length xs) m.3 ∙ ap (λ (k : ℕ). s.first + k) (sym (length-recs_of found rs))),
        )
    made_true d n rs (q, _, at, m) = absurd m

    pub durable_true : (d n : ℕ) → IsTrueIn node ss (Durable d n) → Is (AnyDurable d n)
    durable_true d n (q, Trail s, at, m) =
        let f = fit.each q (Trail s) at in
        let on : trail_of found.config d ≡ s.number = ap (λ c. trail_of c d) (sym f.0) ∙ m.0 in
        let count : length (own d (any_trail found (λ n. (values n).1) s).landed) ≡ length (records_of d (landed s.events)) = ap length (own_landed found d s.events) ∙ length-recs_of found (records_of d (landed s.events)) in
        fact q (Trail s) (AnyDurable d n) at (
          sym on,
          ⊎_elim
              (λ (lt : n < first_of s.firsts d). (let le = first_up (values d).1 s.firsts d in omega (arith, lt, le)))
              (λ (h : HasLandedTo s.events d n).
              (let lt = below_end (first_or (values d).1 s.firsts d) (records_of d (landed s.events)) h.item (front_of s (f.4 d on)) (among_records d (landed s.events) h.item h.is_landed h.of_disc) in
              let reaches = h.reaches in
              omega (arith, lt, reaches, count)))
              m.1,
        )
      where
        at_front : (first : ℕ) (xs ys : List AuditRecord) → AreAt first (xs ++ ys) → AreAt first xs
        at_front first [] ys are = tt
        at_front first (x ∷ xs) ys are = (are.0, at_front (first + 1) xs ys are.1)

        front_of : (s : TrailPart) → AreAt (first_or (values d).1 s.firsts d) (records_of d (landed s.events ++ offered s.events)) → AreAt (first_or (values d).1 s.firsts d) (records_of d (landed s.events))
        front_of s are = at_front (first_or (values d).1 s.firsts d) (records_of d (landed s.events)) (records_of d (offered s.events)) (subst (λ (xs : List AuditRecord). AreAt (first_or (values d).1 s.firsts d) xs) (records_append d (landed s.events) (offered s.events)) are)
    durable_true d n (q, _, at, m) = absurd m

    pub committed_true : (t : Transid) (p : ℕ) → IsTrueIn node ss (Recorded (Commit t) p) → Is (AnyCommitted t p)
    committed_true t p (q, Monitor s, at, m) =
        let f = fit.each q (Monitor s) at in
        let n = length-entries_of found before in
        let places = f.1 in
        let place = m.place_is in
        fact q (Monitor s) (AnyCommitted t p) at
        (m.index, ap (λ ms. slice_get ms m.index) (landed_mons_of found s.events) ∙ mon_at found s.epoch (recorded s.events) f.2.0 m.index t m.at, omega (arith, n, places, place))
    committed_true t p (q, _, at, m) = absurd m

    among_pair : (dumps : List DumpStart) (x : DumpStart) → Among dumps x → Among (pairs_of dumps) (pair_of x)
    among_pair [] x h = h
    among_pair (d ∷ dumps) x h = ⊎_elim (λ (e : d ≡ x). inl (ap pair_of e)) (λ (r : Among dumps x). inr (among_pair dumps x r)) h

    pub started_true : (d i n : ℕ) → IsTrueIn node ss (Started d i n) → Is (AnyStarted d i n)
    started_true d i n (q, Disc s, at, m) = fact q (Disc s) (AnyStarted d i n) at (m.0, among_pair (starts s.events) (record { number = i; start = n }) m.1)
    started_true d i n (q, _, at, m) = absurd m

    up_way : (way : Option DumpStart) (n : ℕ) → IsUpTo (way_start way) n → AnyUpTo (start_under_way (way_of way)) n
    up_way None n h = tt
    up_way (Some d) n h = h

    up_same : (o : Option ℕ) (n : ℕ) → IsUpTo o n → AnyUpTo o n
    up_same None n h = tt
    up_same (Some m) n h = h

    pub floor_true : (d n : ℕ) → IsTrueIn node ss (Floor d n) → Is (AnyFloor d n)
    floor_true d n (q, Disc s, at, m) =
        fact q (Disc s) (AnyFloor d n) at (m.0, λ _. (m.1.low, up_same (lowering s.events) n m.1.lowering_), up_same (rest_start s.rest s.events) n m.1.rest, up_way (under_way s.events) n m.1.way)
    floor_true d n (q, _, at, m) = absurd m

    from_marks : (a b : Option (Label (layout found))) (n : ℕ) → AreFrom (mark_of found a) (mark_of found b) n → IsFrom {N = layout found} a b n
    from_marks None None n h = h
    from_marks (Some (OldLabel s v)) None n h = h
    from_marks (Some (Taken i s c)) None n h = h
    from_marks None (Some (OldLabel s v)) n h = h
    from_marks None (Some (Taken i s c)) n h = h
    from_marks (Some (OldLabel s v)) (Some (OldLabel s2 v2)) n h = h
    from_marks (Some (OldLabel s v)) (Some (Taken i2 s2 c2)) n h = h
    from_marks (Some (Taken i s c)) (Some (OldLabel s2 v2)) n h = h
    from_marks (Some (Taken i s c)) (Some (Taken i2 s2 c2)) n h = h

    unmark : (o : Option (Label (layout found))) → mark_of found o ≡ None → o ≡ None
    unmark None e = refl
    unmark (Some (OldLabel start values)) e = absurd (cc (e))
    unmark (Some (Taken number start copies)) e = absurd (cc (e))

    over_is : (s : DumpPart) (i : ℕ) (rest : Option ℕ) → IsOver s i rest → AnyIsOver {N = layout found} (any_dump found (values s.number).0 s) i rest
    over_is s i (Some n) h = (
      h.0,
      from_marks (landed_dump found (old_dump found s.rest (values s.number).0) s.events) (offered_dump found s.events) n
          (subst (λ (o : Option DumpStart). AreFrom o (mark_of found (offered_dump found s.events)) n) (sym (landed_mark found s.rest (values s.number).0 s.events))
          (subst (λ (o : Option DumpStart). AreFrom (landed_label s.rest s.events) o n) (sym (offered_mark found s.events)) h.1)),
    )
    over_is s i None h = (
      h.0,
      h.1,
      h.2,
      ⊎_elim
          (λ lt. inl lt)
          (λ (x : (landed_label s.rest s.events ≡ None) × (offered_label s.events ≡ None)).
          inr (unmark (landed_dump found (old_dump found s.rest (values s.number).0) s.events) (landed_mark found s.rest (values s.number).0 s.events ∙ x.0), unmark (offered_dump found s.events) (offered_mark found s.events ∙ x.1)))
          h.3,
    )

    pub over_true : (d i : ℕ) (rest : Option ℕ) → IsTrueIn node ss (Over d i rest) → Is (AnyOver d i rest)
    over_true d i rest (q, Dump s, at, m) = fact q (Dump s) (AnyOver d i rest) at (m.0, over_is s i rest m.1)
    over_true d i rest (q, _, at, m) = absurd m

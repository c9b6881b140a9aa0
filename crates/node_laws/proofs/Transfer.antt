-- Each history of a node is, seen so, one of the node of any layout, with the same states after it.
use Rattle.std.specs.Prelude.{◌≡◌, ◌≢◌, ◌⊎◌, ℕ, zero, suc, ◌+◌, List, [], ◌∷◌, ◌++◌, Some, slice_get}
use Rattle.std.proofs.Common.{refl, ap, sym, ◌∙◌, subst, arith, append-nil, ⊎_elim, inl, inr}
use Rattle.chronicle.specs.Histories.{IsTrueIn, IsEnabled, IsHistory, changed_at, next_states, states_after}
use Rattle.tmf_model.specs.RecordMap.{RecordMap}
use Rattle.trail_files.specs.declared.audit_record.AuditRecord.{AuditRecord}
use Rattle.trail_files.specs.declared.monitor_record.MonitorRecord.{MonitorRecord}
use Rattle.any_node.specs.Node.{State, Event, node as any_node, step as any_step, allows as any_allows, asks as any_asks}
use Rattle.any_node.specs.Node.State.{worker, disc, trail, monitor, dump}
use Rattle.node_machine.specs.declared.event.TrailEvent.{TrailEvent}
use Rattle.node_machine.specs.declared.event.TrailEvent.TheVariants.{Offer, Land, Purge, Failed as TrailFailed}
use Rattle.node_machine.specs.declared.event.Event.{Event as NodeEvent}
use Rattle.node_machine.specs.declared.event.Event.TheVariants.{OfWorker, OfDisc, OfTrail, OfMonitor, OfDump}
use Rattle.node_machine.specs.Parts.{TrailPart, PartState}
use Rattle.node_machine.specs.Parts.PartState.{Worker, Disc, Trail, Monitor, Dump}
use Rattle.node_machine.specs.Parts.Fact.{Made}
use Rattle.node_machine.specs.Made.{made}
use Rattle.node_machine.specs.Trail.{offered, landed, records_of, trail_of, TrailMay, TrailAsks}
use Rattle.node_machine.specs.Node.{node, IsAllowed, Asks, state_with}
use Rattle.node_machine.specs.Opening.{Found, found_volume}
use Rattle.node_machine.specs.Same.{Among}
use Rattle.node_machine.specs.SameLaws.{among_append, among_left}
use Rattle.node_machine.proofs.Kept.{changed_or}
use Rattle.node_laws.specs.Layouts.{layout}
use Rattle.node_laws.specs.Views.{first_or}
use Rattle.node_laws.proofs.Asked.{disc_asks, trail_asks, monitor_asks, dump_asks}
use Rattle.node_laws.proofs.Discs.{disc_allows}
use Rattle.node_laws.proofs.Dumps.{solid_kept}
use Rattle.node_laws.proofs.Fine.{AreAt, fine_kept}
use Rattle.node_laws.proofs.Others.{AreOld, HaveBlocks, requests_kept, trail_allows, monitor_allows, dump_allows}
use Rattle.node_laws.proofs.Places.{front, first_is, records_append}
use Rattle.node_laws.proofs.Seen.{view, views, any_event, view_at, IsFit, AreFit}
use Rattle.node_laws.proofs.Steps.{worker_step, disc_step, trail_step, monitor_step, dump_step}
use Rattle.node_laws.proofs.Workers.{own_kept, worker_allows}

module _ (found : Found) (before : List MonitorRecord) (values : ℕ → RecordMap × ℕ) (idle : ℕ → State (layout found)) (old : AreOld found before) (blocks : HaveBlocks found) where
  abbrev pub any_log : List (ℕ × NodeEvent) → List (ℕ × Event (layout found))
  any_log [] = []
  any_log (x ∷ log) = (x.0, any_event found before values idle x.1) ∷ any_log log

  -- WHAT IS KEPT

  empty_or : (xs : List AuditRecord) → (xs ≡ []) ⊎ (xs ≢ [])
  empty_or [] = inl refl
  empty_or (x ∷ xs) = inr (λ e. absurd (cc (e)))

  spelled_kept : (ss : List PartState) → AreFit found before values idle ss → (q : ℕ) (s : TrailPart) (e : TrailEvent) → IsFit found before values idle q (Trail s) → TrailMay s e → TrailAsks (IsTrueIn node ss) s e
      → (d : ℕ) → trail_of found.config d ≡ s.number → AreAt (first_or (values d).1 s.firsts d) (records_of d (landed (e ∷ s.events) ++ offered (e ∷ s.events)))
  spelled_kept ss fit q s (Offer file records) f may asked d on =
      ⊎_elim
      (λ (none : records_of d records ≡ []).
      (let same : records_of d (landed s.events ++ offered s.events) ≡ records_of d (landed s.events ++ records) =
      records_append d (landed s.events) (offered s.events) ∙ (ap (λ xs. records_of d (landed s.events) ++ records_of d xs) may.idle ∙ (ap (λ xs. records_of d (landed s.events) ++ xs) (sym none) ∙ sym (records_append d (landed s.events) records))) in
      subst (λ (xs : List AuditRecord). AreAt (first_or (values d).1 s.firsts d) xs) same (f.4 d on)))
      (λ (some : records_of d records ≢ []). by_fact (asked d some))
      (empty_or (records_of d records))
    where
      by_fact : ((n : ℕ) × IsTrueIn node ss (Made d n (records_of d (landed s.events ++ records)))) → AreAt (first_or (values d).1 s.firsts d) (records_of d (landed s.events ++ records))
      by_fact (n, (p, Disc u, at, m)) =
          let g = fit.each p (Disc u) at in
          let fr = front u.first n (made u.events) g.2.positions m.1 m.2 in
          let v = g.3 in
          let here : found_volume found d ≡ Some v.0 = ap (λ (k : ℕ). found_volume found k) (sym m.0) ∙ v.1 in
          let first : first_or (values d).1 s.firsts d ≡ u.first = ap (λ xs. first_or (values d).1 xs d) f.1 ∙ (first_is found (values d).1 s.number d v.0 here on ∙ sym v.2) in
          subst (λ (k : ℕ). AreAt k (records_of d (landed s.events ++ records))) (sym first) (subst (λ (xs : List AuditRecord). AreAt u.first xs) m.3 fr.2)
      by_fact (n, (p, _, at, m)) = absurd m
  spelled_kept ss fit q s Land f may asked d on =
      subst (λ (xs : List AuditRecord). AreAt (first_or (values d).1 s.firsts d) (records_of d xs)) (sym (append-nil (landed s.events ++ offered s.events))) (f.4 d on)
  spelled_kept ss fit q s (Purge below last) f may asked d on = f.4 d on
  spelled_kept ss fit q s (TrailFailed by) f may asked d on = f.4 d on

  of_kept : (s : TrailPart) (e : TrailEvent) → s.config ≡ found.config → TrailMay s e → ((r : AuditRecord) → Among (landed s.events ++ offered s.events) r → trail_of found.config r.disc ≡ s.number)
      → (r : AuditRecord) → Among (landed (e ∷ s.events) ++ offered (e ∷ s.events)) r → trail_of found.config r.disc ≡ s.number
  of_kept s (Offer file records) same may of r h =
      ⊎_elim
      (λ (l : Among (landed s.events) r). of r (among_left (landed s.events) (offered s.events) r l))
      (λ (k : Among records r). ap (λ c. trail_of c r.disc) (sym same) ∙ may.own r k)
      (among_append (landed s.events) records r h)
  of_kept s Land same may of r h = of r (subst (λ (xs : List AuditRecord). Among xs r) (append-nil (landed s.events ++ offered s.events)) h)
  of_kept s (Purge below last) same may of r h = of r h
  of_kept s (TrailFailed by) same may of r h = of r h

  fit_step : (ss : List PartState) → AreFit found before values idle ss → (q : ℕ) (s : PartState) (e : NodeEvent) → IsFit found before values idle q s → IsAllowed s e → Asks (IsTrueIn node ss) s e → IsFit found before values idle q (state_with s e)
  fit_step ss fit q (Worker s) (OfWorker e) f may asked = (f.0, own_kept s e may f.1)
  fit_step ss fit q (Disc s) (OfDisc e) f may asked = (f.0, f.1, fine_kept s e may f.2, f.3)
  fit_step ss fit q (Trail s) (OfTrail e) f may asked = (f.0, f.1, f.2, f.3, spelled_kept ss fit q s e f may asked, of_kept s e f.0 may f.5, f.6)
  fit_step ss fit q (Monitor s) (OfMonitor e) f may asked = (f.0, f.1, requests_kept s e may f.2)
  fit_step ss fit q (Dump s) (OfDump e) f may asked = (f.0, f.1, solid_kept found s e f.0 f.1 blocks may f.2, f.3)
  fit_step ss fit q _ _ f may asked = absurd may

  pub fit_next : (ss : List PartState) (x : ℕ × NodeEvent) → AreFit found before values idle ss → IsEnabled node ss x → AreFit found before values idle (next_states node ss x)
  fit_next ss x fit h = record {
    each = λ q s at. ⊎_elim
        (λ (same : slice_get ss q ≡ Some s). fit.each q s same)
        (λ (c : (t : PartState) × (slice_get ss q ≡ Some t) × (q ≡ x.0) × (s ≡ state_with t x.1)).
        (let both : Some h.0 ≡ Some c.0 = sym h.1 ∙ (ap (λ (n : ℕ). slice_get ss n) (sym c.2) ∙ c.1) in
        let one : h.0 ≡ c.0 = cc (both) in
        subst (λ (u : PartState). IsFit found before values idle q u) (sym c.3)
        (fit_step ss fit q c.0 x.1 (fit.each q c.0 c.1) (subst (λ (u : PartState). IsAllowed u x.1) one h.2) (subst (λ (u : PartState). Asks (IsTrueIn node ss) u x.1) one h.3))))
        (changed_or (λ u. state_with u x.1) x.0 q ss s at);
  }

  -- EACH EVENT

  allowed : (q : ℕ) (s : PartState) (e : NodeEvent) → IsFit found before values idle q s → IsAllowed s e → any_allows (layout found) (view found before values idle q s) (any_event found before values idle e)
  allowed q (Worker s) (OfWorker e) f may = worker_allows found s e f.0 f.1 may
  allowed q (Disc s) (OfDisc e) f may = (refl, disc_allows found s f.0 f.1.0 f.1.1 f.2 e may)
  allowed q (Trail s) (OfTrail e) f may = trail_allows found (λ n. (values n).1) s e f.0 may
  allowed q (Monitor s) (OfMonitor e) f may = monitor_allows found before s e old f.0 f.2 may
  allowed q (Dump s) (OfDump e) f may = dump_allows found (values s.number).0 s e f.0 f.1 blocks may
  allowed q _ _ f may = absurd may

  asked_of : (ss : List PartState) → AreFit found before values idle ss → (q : ℕ) (s : PartState) (e : NodeEvent) → IsFit found before values idle q s → IsAllowed s e → Asks (IsTrueIn node ss) s e
      → any_asks (layout found) (IsTrueIn (any_node (layout found)) (views found before values idle 0 ss)) (view found before values idle q s) (any_event found before values idle e)
  asked_of ss fit q (Worker s) (OfWorker e) f may a = tt
  asked_of ss fit q (Disc s) (OfDisc e) f may a = disc_asks found before values idle ss fit s e a
  asked_of ss fit q (Trail s) (OfTrail e) f may a = trail_asks found before values idle ss fit s e f.0 f.2.0 f.3.0 f.3.1 a
  asked_of ss fit q (Monitor s) (OfMonitor e) f may a = monitor_asks found before values idle ss fit s e a
  asked_of ss fit q (Dump s) (OfDump e) f may a = dump_asks found before values idle ss fit s e a
  asked_of ss fit q _ _ f may a = absurd may

  step_of : (q : ℕ) (s : PartState) (e : NodeEvent) → IsFit found before values idle q s → IsAllowed s e
      → view found before values idle q (state_with s e) ≡ any_step (layout found) (view found before values idle q s) (any_event found before values idle e)
  step_of q (Worker s) (OfWorker e) f may = ap worker (worker_step found s.number s.events e)
  step_of q (Disc s) (OfDisc e) f may = ap disc (disc_step found s e f.1 may)
  step_of q (Trail s) (OfTrail e) f may = ap trail (trail_step found (λ n. (values n).1) s e)
  step_of q (Monitor s) (OfMonitor e) f may = ap monitor (monitor_step found before s e)
  step_of q (Dump s) (OfDump e) f may = ap dump (dump_step found (values s.number).0 s e)
  step_of q _ _ f may = absurd may

  views_changed : (n : ℕ) (ss : List PartState) (p : ℕ) (s : PartState) (f : PartState → PartState) (g : State (layout found) → State (layout found)) → slice_get ss p ≡ Some s
      → view found before values idle (n + p) (f s) ≡ g (view found before values idle (n + p) s)
      → changed_at g p (views found before values idle n ss) ≡ views found before values idle n (changed_at f p ss)
  views_changed n [] p s f g at e = absurd (cc (at))
  views_changed n (x ∷ ss) zero s f g at e =
      let same : x ≡ s = cc (at) in
      let here : n + 0 ≡ n = omega arith in
      let e2 : view found before values idle n (f x) ≡ g (view found before values idle n x) =
      subst (λ (m : ℕ). view found before values idle m (f x) ≡ g (view found before values idle m x)) here
      (subst (λ (y : PartState). view found before values idle (n + 0) (f y) ≡ g (view found before values idle (n + 0) y)) (sym same) e) in
      ap (λ v. v ∷ views found before values idle (suc n) ss) (sym e2)
  views_changed n (x ∷ ss) (suc p) s f g at e =
      let here : n + suc p ≡ suc n + p = omega arith in
      ap (λ vs. view found before values idle n x ∷ vs)
      (views_changed (suc n) ss p s f g at (subst (λ (m : ℕ). view found before values idle m (f s) ≡ g (view found before values idle m s)) here e))

  pub transfer : (ss : List PartState) (log : List (ℕ × NodeEvent)) → AreFit found before values idle ss → IsHistory node ss log
      → IsHistory (any_node (layout found)) (views found before values idle 0 ss) (any_log log)
      × (states_after (any_node (layout found)) (views found before values idle 0 ss) (any_log log) ≡ views found before values idle 0 (states_after node ss log))
      × AreFit found before values idle (states_after node ss log)
  transfer ss [] fit h = (tt, refl, fit)
  transfer ss (x ∷ log) fit h =
      let en = h.0 in
      let f = fit.each x.0 en.0 en.1 in
      let here : 0 + x.0 ≡ x.0 = omega arith in
      let enabled : IsEnabled (any_node (layout found)) (views found before values idle 0 ss) (x.0, any_event found before values idle x.1) =
      (view found before values idle x.0 en.0, view_at found before values idle ss x.0 en.0 en.1, allowed x.0 en.0 x.1 f en.2, asked_of ss fit x.0 en.0 x.1 f en.2 en.3) in
      let one : changed_at (λ s. any_step (layout found) s (any_event found before values idle x.1)) x.0 (views found before values idle 0 ss) ≡ views found before values idle 0 (next_states node ss x) =
      views_changed 0 ss x.0 en.0 (λ s. state_with s x.1) (λ s. any_step (layout found) s (any_event found before values idle x.1)) en.1
      (subst (λ (m : ℕ). view found before values idle m (state_with en.0 x.1) ≡ any_step (layout found) (view found before values idle m en.0) (any_event found before values idle x.1)) (sym here) (step_of x.0 en.0 x.1 f en.2)) in
      let rest = transfer (next_states node ss x) log (fit_next ss x fit en) h.1 in (
        (enabled, subst (λ (us : List (State (layout found))). IsHistory (any_node (layout found)) us (any_log log)) (sym one) rest.0),
        ap (λ us. states_after (any_node (layout found)) us (any_log log)) one ∙ rest.1,
        rest.2,
      )

-- A commit that the monitor has recorded was backed: its transaction had closed at each disc that it has enlisted.
use Rattle.std.specs.Prelude.{◌≡◌, ◌⊎◌, ℕ, ◌-◌, true, false, List, ◌∷◌, ◌++◌, Some, slice_get}
use Rattle.std.proofs.Common.{ap, sym, ◌∙◌, subst, append-nil, ⊎_elim, inl, inr}
use Rattle.chronicle.specs.Histories.{IsHistory, IsTrueIn, states_after}
use Rattle.tmf_model.specs.declared.script.Close.TheVariants.{Commit as Committing}
use Rattle.tmf_model.specs.declared.transid.Transid.{Transid}
use Rattle.trail_files.specs.declared.monitor_record.MonitorRecord.{MonitorRecord}
use Rattle.trail_files.specs.declared.monitor_record.MonitorRecord.TheVariants.{Commit}
use Rattle.node_machine.specs.declared.event.Event.{Event}
use Rattle.node_machine.specs.declared.event.Event.TheVariants.{OfWorker, OfDisc, OfTrail, OfMonitor, OfDump}
use Rattle.node_machine.specs.declared.event.MonitorEvent.TheVariants.{Offer, Land, Failed}
use Rattle.node_machine.specs.Made.{has_closed}
use Rattle.node_machine.specs.Monitor.{IsBacked, offered_car, recorded}
use Rattle.node_machine.specs.Node.{node, Asks, IsAllowed, state_with}
use Rattle.node_machine.specs.Opening.{Found, disc_part, monitor_at, monitor_part, opening_parts}
use Rattle.node_machine.specs.Parts.{DiscPart, Fact, MonitorPart, PartState, WorkerPart}
use Rattle.node_machine.specs.Parts.Fact.{Closed, Decided, Durable, Enlisted}
use Rattle.node_machine.specs.Parts.PartState.{Worker, Disc, Trail, Monitor, Dump, Idle}
use Rattle.node_machine.specs.Same.{Among}
use Rattle.node_machine.specs.SameLaws.{among_append, among_left}
use Rattle.node_machine.specs.Worker.{WorkerMakes}
use Rattle.node_machine.proofs.Opened.{opening_monitor}
use Rattle.node_machine.proofs.Placed.{parts_placed}
use Rattle.node_machine.proofs.Sprung.{IsSprung, Was, sprung}
use Rattle.node_laws.proofs.Holders.{to_end}

module _ (found : Found) (log : List (ℕ × Event)) (h : IsHistory node (opening_parts found) log) (t : Transid) where
  abbrev END : List PartState
  END = states_after node (opening_parts found) log

  -- the commit stands in the trail, or is offered
  abbrev HasCommit : PartState → Type 0
  HasCommit (Monitor s) = Among (recorded s.events ++ offered_car s.events) (Commit t)
  HasCommit _ = ⊥

  abbrev Offers : PartState → Event → Type 0
  Offers (Monitor s) (OfMonitor (Offer records)) = Among records (Commit t)
  Offers _ _ = ⊥

  springs : (q : ℕ) (s : PartState) (x : Event) → IsAllowed s x → Unit {0} → HasCommit (state_with s x) → HasCommit s ⊎ Offers s x
  springs q (Monitor s) (OfMonitor (Offer records)) may i has =
      ⊎_elim
      (λ (l : Among (recorded s.events) (Commit t)). inl (among_left (recorded s.events) (offered_car s.events) (Commit t) l))
      (λ (r : Among records (Commit t)). inr r)
      (among_append (recorded s.events) records (Commit t) has)
  springs q (Monitor s) (OfMonitor Land) may i has = inl (subst (λ (xs : List MonitorRecord). Among xs (Commit t)) (append-nil (recorded s.events ++ offered_car s.events)) has)
  springs q (Monitor s) (OfMonitor (Failed by)) may i has = inl has
  springs q (Worker s) (OfWorker x) may i has = absurd has
  springs q (Disc s) (OfDisc x) may i has = absurd has
  springs q (Trail s) (OfTrail x) may i has = absurd has
  springs q (Dump s) (OfDump x) may i has = absurd has
  springs q _ _ may i has = absurd may

  -- what was so when it was offered is so still
  of_moment : (front rest : List (ℕ × Event)) (q : ℕ) (x : Event) → log ≡ front ++ (q, x) ∷ rest → (s : PartState) → Asks (IsTrueIn node (states_after node (opening_parts found) front)) s x → Offers s x → IsBacked (IsTrueIn node END) (Commit t)
  of_moment front rest q (OfMonitor (Offer records)) cut (Monitor s) asked is =
      let b = asked (Commit t) is in
      let up : (f : Fact) → IsTrueIn node (states_after node (opening_parts found) front) f → IsTrueIn node END f = to_end found log h front ((q, OfMonitor (Offer records)) ∷ rest) cut in
      (b.0, up (Decided t Committing b.0) b.1, λ d among. (let c = b.2 d among in (c.0, up (Closed t d c.0) c.1, up (Durable d c.0) c.2)))
  of_moment front rest q x cut (Worker s) asked is = absurd is
  of_moment front rest q x cut (Disc s) asked is = absurd is
  of_moment front rest q x cut (Trail s) asked is = absurd is
  of_moment front rest q x cut (Dump s) asked is = absurd is
  of_moment front rest q x cut Idle asked is = absurd is
  of_moment front rest q (OfMonitor Land) cut (Monitor s) asked is = absurd is
  of_moment front rest q (OfMonitor (Failed by)) cut (Monitor s) asked is = absurd is
  of_moment front rest q (OfWorker e) cut (Monitor s) asked is = absurd is
  of_moment front rest q (OfDisc e) cut (Monitor s) asked is = absurd is
  of_moment front rest q (OfTrail e) cut (Monitor s) asked is = absurd is
  of_moment front rest q (OfDump e) cut (Monitor s) asked is = absurd is

  backed : (s : MonitorPart) → slice_get END monitor_part ≡ Some (Monitor s) → Among (recorded s.events) (Commit t) → IsBacked (IsTrueIn node END) (Commit t)
  backed s at has =
      ⊎_elim
      (λ (was : Was node (λ q u. Unit {0}) (λ q u x may i. tt) HasCommit Offers springs (opening_parts found) monitor_part). absurd (none was.0 was.1 was.2))
      (λ (c : IsSprung node (λ q u. Unit {0}) (λ q u x may i. tt) HasCommit Offers springs (opening_parts found) log monitor_part). of_moment c.front c.rest monitor_part c.event c.here c.state c.asked c.because)
      (sprung node (λ q u. Unit {0}) (λ q u x may i. tt) HasCommit Offers springs (opening_parts found) log h (λ q u a. tt) monitor_part (Monitor s, at, among_left (recorded s.events) (offered_car s.events) (Commit t) has))
    where
      none : (u : PartState) → slice_get (opening_parts found) monitor_part ≡ Some u → HasCommit u → ⊥
      none u at has = (let both : Some (monitor_at found) ≡ Some u = sym (opening_monitor found) ∙ at in let one : monitor_at found ≡ u = cc (both) in subst HasCommit (sym one) has)

  -- the worker of a transaction
  abbrev IsOf : WorkerPart → Type 0
  IsOf s = slice_get END (t.worker - 1) ≡ Some (Worker s)

  enlisted_at : (d : ℕ) → IsTrueIn node END (Enlisted t d) → (s : WorkerPart) × IsOf s × WorkerMakes s (Enlisted t d)
  enlisted_at d (q, Worker s, at, m) = (s, ap (λ (n : ℕ). slice_get END n) (ap (λ (n : ℕ). n - 1) m.0.worker ∙ sym (parts_placed found log h q (Worker s) at)) ∙ at, m)
  enlisted_at d (q, _, at, m) = absurd m

  decided_at : (discs : List ℕ) → IsTrueIn node END (Decided t Committing discs) → (s : WorkerPart) × IsOf s × WorkerMakes s (Decided t Committing discs)
  decided_at discs (q, Worker s, at, m) = (s, ap (λ (n : ℕ). slice_get END n) (ap (λ (n : ℕ). n - 1) m.0.worker ∙ sym (parts_placed found log h q (Worker s) at)) ∙ at, m)
  decided_at discs (q, _, at, m) = absurd m

  closed_at : (d position : ℕ) (s : DiscPart) → slice_get END (disc_part d) ≡ Some (Disc s) → IsTrueIn node END (Closed t d position) → has_closed s.events t ≡ true
  closed_at d position s here (q, Disc u, at, m) =
      let there : slice_get END (disc_part d) ≡ Some (Disc u) = ap (λ (n : ℕ). slice_get END n) (sym (parts_placed found log h q (Disc u) at ∙ ap disc_part m.0)) ∙ at in
      let both : Some (Disc s) ≡ Some (Disc u) = sym here ∙ there in
      let one : Disc s ≡ Disc u = cc (both) in
      let same : s ≡ u = cc (one) in
      ap (λ (x : DiscPart). has_closed x.events t) same ∙ m.1
  closed_at d position s here (q, _, at, m) = absurd m

  -- what has enlisted a disc and has not closed there is not committed
  pub not_committed : (m : MonitorPart) (d : ℕ) (s : DiscPart) → slice_get END monitor_part ≡ Some (Monitor m) → slice_get END (disc_part d) ≡ Some (Disc s) → IsTrueIn node END (Enlisted t d) → has_closed s.events t ≡ false → Among (recorded m.events) (Commit t) → ⊥
  not_committed m d s at_m at_s listed open_ has =
      let b = backed m at_m has in
      let e = enlisted_at d listed in
      let w = decided_at b.0 b.1 in
      let both : Some (Worker e.0) ≡ Some (Worker w.0) = sym e.1 ∙ w.1 in
      let one : Worker e.0 ≡ Worker w.0 = cc (both) in
      let same : e.0 ≡ w.0 = cc (one) in
      let has_it : Among b.0 d = subst (λ (ds : List ℕ). Among ds d) w.2.2 (subst (λ (u : WorkerPart). WorkerMakes u (Enlisted t d)) same e.2).1 in
      let c = b.2 d has_it in
      let clash : true ≡ false = sym (closed_at d c.0 s at_s c.1) ∙ open_ in
      cc (clash)

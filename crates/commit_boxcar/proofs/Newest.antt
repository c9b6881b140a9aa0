-- A request of the attempt that its worker has decided last may be the last of its worker among all that are recorded.
use Rattle.std.specs.Prelude.{ℕ, List, Option, Some, None, slice_get}
use Rattle.std.proofs.Common.{◌≡◌, ◌≢◌, ◌⊎◌, inl, inr, ⊎_elim, refl, ap, sym, ◌∙◌, subst}
use Rattle.std.proofs.lemmas.Bool.{cases_eq}
use Rattle.chronicle.specs.Histories.{states_after, IsHistory}
use Rattle.chronicle.specs.Seats.{Sight, Knows, state_of}
use Rattle.tmf_model.specs.declared.script.Close.{Close}
use Rattle.tmf_model.specs.declared.script.Close.TheVariants.{Commit as Committing, Abort as Aborting}
use Rattle.tmf_model.specs.declared.transid.Transid.{Transid}
use Rattle.trail_files.specs.declared.monitor_record.MonitorRecord.{MonitorRecord}
use Rattle.trail_files.specs.declared.monitor_record.MonitorRecord.TheVariants.{Start, Commit, Abort}
use Rattle.node_machine.specs.declared.event.Event.{Event}
use Rattle.node_machine.specs.Monitor.{ended_by, IsLater, IsBacked}
use Rattle.node_machine.specs.Node.{node}
use Rattle.node_machine.specs.Opening.{Found, opening_parts, worker_part}
use Rattle.node_machine.specs.Parts.{WorkerPart, PartState}
use Rattle.node_machine.specs.Parts.Fact.{Decided}
use Rattle.node_machine.specs.Parts.PartState.{Worker, Disc, Trail, Monitor, Dump, Idle}
use Rattle.node_machine.specs.Same.{Among, IsBefore}
use Rattle.node_machine.specs.Worker.{decision}
use Rattle.node_machine.proofs.Placed.{IsPlaced, parts_placed}
use Rattle.txn_states.specs.Txn.{IsLastDecided}
use Rattle.commit_boxcar.specs.Line.{MayBeLast}

-- the record that ends an attempt this way
abbrev pub record_of : Close → Transid → MonitorRecord
record_of Committing t = Commit t
record_of Aborting t = Abort t

ended_of : (close : Close) (t : Transid) → ended_by (record_of close t) ≡ Some t
ended_of Committing t = refl
ended_of Aborting t = refl

module _ (opening : List PartState) (found : Found) (opens : opening ≡ opening_parts found) (v : Sight Event) (h : IsHistory node opening v.seen) where
  placed : (q : ℕ) (s : PartState) → slice_get (states_after node opening v.seen) q ≡ Some s → IsPlaced q s
  placed q s at = parts_placed found v.seen (subst (λ o. IsHistory node o v.seen) opens h) q s (subst (λ o. slice_get (states_after node o v.seen) q ≡ Some s) opens at)

  module _ (t : Transid) (close : Close) (is : IsLastDecided opening v t close) where
    -- what an attempt of this worker was decided to, its own seat has
    decided_here : (u : Transid) (c : Close) (discs : List ℕ) → u.worker ≡ t.worker → Knows node opening v (Decided u c discs) → decision is.part.events u ≡ Some c
    decided_here u c discs same (q, Worker s, at, makes) = of v.part is.at
      where
        of : (p : Option ℕ) → state_of (states_after node opening v.seen) p ≡ Some (Worker is.part) → decision is.part.events u ≡ Some c
        of None there = absurd (cc (there))
        of (Some p) there =
            let number : s.number ≡ is.part.number = sym makes.0.worker ∙ same ∙ is.is_own.worker in
            let one : q ≡ p = placed q (Worker s) at ∙ ap (λ (n : ℕ). worker_part n) number ∙ sym (placed p (Worker is.part) there) in
            let both : Some (Worker s) ≡ Some (Worker is.part) = sym at ∙ ap (λ (n : ℕ). slice_get (states_after node opening v.seen) n) one ∙ there in
            let part : s ≡ is.part = cc (both) in
            subst (λ (w : WorkerPart). decision w.events u ≡ Some c) part makes.1
    decided_here u c discs same (q, Disc s, at, makes) = absurd makes
    decided_here u c discs same (q, Trail s, at, makes) = absurd makes
    decided_here u c discs same (q, Monitor s, at, makes) = absurd makes
    decided_here u c discs same (q, Dump s, at, makes) = absurd makes
    decided_here u c discs same (q, Idle, at, makes) = absurd makes

    apart : (y : MonitorRecord) (u : Transid) → ended_by y ≡ Some u → u.worker ≢ t.worker → IsLater y (record_of close t)
    apart y u y_is other x r x_is r_is same =
        let one : x ≡ u = cc (x_is, y_is) in
        let two : r ≡ t = cc (r_is, ended_of close t) in
        absurd (other (ap (λ (z : Transid). z.worker) (sym one) ∙ same ∙ ap (λ (z : Transid). z.worker) two))

    behind : (y : MonitorRecord) (u : Transid) → ended_by y ≡ Some u → IsBefore u t → IsLater y (record_of close t)
    behind y u y_is before x r x_is r_is same =
        let one : u ≡ x = cc (x_is, y_is) in
        let two : t ≡ r = cc (r_is, ended_of close t) in
        subst (λ (z : Transid). IsBefore x z) two (subst (λ (z : Transid). IsBefore z t) one before)

    -- a request with this decision
    at_most : (c : Close) (u : Transid) (discs : List ℕ) → Knows node opening v (Decided u c discs) → (record_of c u ≡ record_of close t) ⊎ IsLater (record_of c u) (record_of close t)
    at_most c u discs known = ⊎_elim
        (λ (same : u.worker ≡ t.worker).
        (let here = decided_here u c discs same known in
        ⊎_elim
        (λ (e : u ≡ t).
        (let two : Some c ≡ Some close = sym here ∙ ap (λ (x : Transid). decision is.part.events x) e ∙ is.decided in
        let way : c ≡ close = cc (two) in
        inl (ap (λ (x : Transid). record_of c x) e ∙ ap (λ (x : Close). record_of x t) way)))
        (λ (b : IsBefore u t). inr (behind (record_of c u) u (ended_of c u) b))
        (is.last u c here)))
        (λ (other : u.worker ≢ t.worker). inr (apart (record_of c u) u (ended_of c u) other))
        (cases_eq u.worker t.worker)

    pub may_be_last : (line : List MonitorRecord) → ((x : MonitorRecord) → Among line x → IsBacked (Knows node opening v) x) → MayBeLast line (record_of close t)
    may_be_last line backed y there = of y (backed y there)
      where
        of : (y : MonitorRecord) → IsBacked (Knows node opening v) y → (y ≡ record_of close t) ⊎ IsLater y (record_of close t)
        of (Start epoch) b = absurd b
        of (Commit u) b = at_most Committing u b.0 b.1
        of (Abort u) b = at_most Aborting u b.0 b.1

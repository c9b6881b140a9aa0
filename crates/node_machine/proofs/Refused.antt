-- What the conditions refuse: for each of these wrong bodies a history after which its event is not enabled.
use Rattle.std.specs.Prelude.{◌≡◌, ◌⊎◌, ℕ, zero, suc, ◌<◌, ◌≤◌, nat_le, Bool, true, false, List, [], ◌∷◌, ◌++◌, take, drop, Some, slice_get, unwrap_or}
use Rattle.std.proofs.Common.{refl, sym, ◌∙◌, subst, arith, ⊎_elim, inl, inr}
use Rattle.std.proofs.lemmas.Bool.{leb-true, leb-false}
use Rattle.chronicle.specs.Histories.{IsEnabled, IsHistory, IsTrueIn, states_after}
use Rattle.chronicle.proofs.States.{history-append, history_front}
use Rattle.tmf_model.specs.declared.script.Close.{Close}
use Rattle.tmf_model.specs.declared.script.Close.TheVariants.{Commit as Committing, Abort as Aborting}
use Rattle.trail_files.specs.declared.audit_record.AuditRecord.{AuditRecord}
use Rattle.trail_files.specs.declared.monitor_record.MonitorRecord.{MonitorRecord}
use Rattle.trail_files.specs.declared.monitor_record.MonitorRecord.TheVariants.{Commit}
use Rattle.node_machine.specs.declared.event.By.TheVariants.{Disc as ByDisc}
use Rattle.node_machine.specs.declared.event.DiscEvent.TheVariants.{Undo, Release, Draw, Low, Start as StartDump}
use Rattle.node_machine.specs.declared.event.DumpEvent.TheVariants.{Copy, Seal}
use Rattle.node_machine.specs.declared.event.Event.{Event}
use Rattle.node_machine.specs.declared.event.Event.TheVariants.{OfWorker, OfDisc, OfTrail, OfMonitor, OfDump}
use Rattle.node_machine.specs.declared.event.MonitorEvent.TheVariants.{Offer as OfferCar}
use Rattle.node_machine.specs.declared.event.TrailEvent.TheVariants.{Purge}
use Rattle.node_machine.specs.declared.event.WorkerEvent.TheVariants.{End}
use Rattle.node_machine.specs.Disc.{DiscMakes}
use Rattle.node_machine.specs.Made.{drawn, has_released, home_block}
use Rattle.node_machine.specs.Monitor.{MonitorMakes}
use Rattle.node_machine.specs.Node.{node, Asks, IsAllowed, Makes}
use Rattle.node_machine.specs.Opening.{Found, each_from, opening_parts, worker_at}
use Rattle.node_machine.specs.Parts.{DiscPart, DumpPart, Fact, MonitorPart, PartState, TrailPart, WorkerPart}
use Rattle.node_machine.specs.Parts.Fact.{Closed, Decided, Durable, Floor, Recorded}
use Rattle.node_machine.specs.Parts.PartState.{Worker, Disc, Trail, Monitor, Dump, Idle}
use Rattle.node_machine.specs.Same.{Among}
use Rattle.node_machine.specs.Trail.{HasLandedTo, TrailMakes}
use Rattle.node_machine.specs.Worker.{WorkerMakes}
use Rattle.node_machine.proofs.Example.{change, config, example, example_with, found, found_with, log, more, none_drawn, one_change, t, taken_back, written_then}

-- after a lawful history this entry is not enabled
pub record IsRefusedAfter (start : Found) (before : List (ℕ × Event)) (x : ℕ × Event) : Type 0 where
  pub lawful : IsHistory node (opening_parts start) before
  pub refused : IsEnabled node (states_after node (opening_parts start) before) x → ⊥

abbrev pub state_at : List PartState → ℕ → PartState
state_at ss q = unwrap_or (slice_get ss q) Idle

-- what is not enabled in the state that the part is in is not enabled
pub in_state : (ss : List PartState) (x : ℕ × Event) → slice_get ss x.0 ≡ Some (state_at ss x.0) → (IsAllowed (state_at ss x.0) x.1 → Asks (IsTrueIn node ss) (state_at ss x.0) x.1 → ⊥) → IsEnabled node ss x → ⊥
in_state ss x at against (u, here, may, asked) =
    let both : Some u ≡ Some (state_at ss x.0) = sym here ∙ at in
    let one : u ≡ state_at ss x.0 = cc (both) in
    against (subst (λ (v : PartState). IsAllowed v x.1) one may) (subst (λ (v : PartState). Asks (IsTrueIn node ss) v x.1) one asked)

-- THE FACTS OF THE SMALL NODE

abbrev AreSo : (PartState → Type 0) → List PartState → Type 0
AreSo P [] = Unit {0}
AreSo P (s ∷ ss) = P s × AreSo P ss

so_at : (P : PartState → Type 0) (ss : List PartState) → AreSo P ss → (q : ℕ) (s : PartState) → slice_get ss q ≡ Some s → P s
so_at P [] all q s at = absurd (cc (at))
so_at P (x ∷ ss) all zero s at = (let same : x ≡ s = cc (at) in subst P same all.0)
so_at P (x ∷ ss) all (suc q) s at = so_at P ss all.1 q s at

-- whatever part makes the fact, this follows
whoever : (ss : List PartState) (f : Fact) (says : Type 0) → AreSo (λ s. Makes s f → says) ss → IsTrueIn node ss f → says
whoever ss f says all (q, s, at, makes) = so_at (λ u. Makes u f → says) ss all q s at makes

-- the node's parts, where one worker, one disc, its trail and its dump have come to these states
abbrev parts : WorkerPart → DiscPart → TrailPart → MonitorPart → DumpPart → List PartState
parts w d s m u =
    Worker w ∷ (each_from (worker_at found) 2 15
    ++ (Disc d ∷ Idle ∷ Idle ∷ Idle ∷ Idle ∷ Idle ∷ Idle ∷ Idle ∷ Trail s ∷ Idle ∷ Idle ∷ Idle ∷ Monitor m ∷ Dump u ∷ Idle ∷ Idle ∷ Idle ∷ Idle ∷ Idle ∷ Idle ∷ Idle ∷ []))

module _ (w : WorkerPart) (d : DiscPart) (s : TrailPart) (m : MonitorPart) (u : DumpPart) where
  durable : (disc position : ℕ) → IsTrueIn node (parts w d s m u) (Durable disc position) → TrailMakes s (Durable disc position)
  durable disc position = whoever (parts w d s m u) (Durable disc position) (TrailMakes s (Durable disc position)) (λ e. absurd e, (λ e. absurd e, (λ e. absurd e, (λ e. absurd e, (λ e. absurd e, (λ e. absurd e, (λ e. absurd e, (λ e. absurd e, (λ e. absurd e, (λ e. absurd e, (λ e. absurd e, (λ e. absurd e, (λ e. absurd e, (λ e. absurd e, (λ e. absurd e, (λ e. absurd e, (λ e. absurd e, (λ e. absurd e, (λ e. absurd e, (λ e. absurd e, (λ e. absurd e, (λ e. absurd e, (λ e. absurd e, (λ e. absurd e, (λ e. e, (λ e. absurd e, (λ e. absurd e, (λ e. absurd e, (λ e. absurd e, (λ e. absurd e, (λ e. absurd e, (λ e. absurd e, (λ e. absurd e, (λ e. absurd e, (λ e. absurd e, (λ e. absurd e, (λ e. absurd e, tt)))))))))))))))))))))))))))))))))))))

  closed : (disc position : ℕ) → IsTrueIn node (parts w d s m u) (Closed t disc position) → DiscMakes d (Closed t disc position)
  closed disc position = whoever (parts w d s m u) (Closed t disc position) (DiscMakes d (Closed t disc position)) (λ e. absurd e, (λ e. absurd e, (λ e. absurd e, (λ e. absurd e, (λ e. absurd e, (λ e. absurd e, (λ e. absurd e, (λ e. absurd e, (λ e. absurd e, (λ e. absurd e, (λ e. absurd e, (λ e. absurd e, (λ e. absurd e, (λ e. absurd e, (λ e. absurd e, (λ e. absurd e, (λ e. e, (λ e. absurd e, (λ e. absurd e, (λ e. absurd e, (λ e. absurd e, (λ e. absurd e, (λ e. absurd e, (λ e. absurd e, (λ e. absurd e, (λ e. absurd e, (λ e. absurd e, (λ e. absurd e, (λ e. absurd e, (λ e. absurd e, (λ e. absurd e, (λ e. absurd e, (λ e. absurd e, (λ e. absurd e, (λ e. absurd e, (λ e. absurd e, (λ e. absurd e, tt)))))))))))))))))))))))))))))))))))))

  floor : (disc position : ℕ) → IsTrueIn node (parts w d s m u) (Floor disc position) → DiscMakes d (Floor disc position)
  floor disc position = whoever (parts w d s m u) (Floor disc position) (DiscMakes d (Floor disc position)) (λ e. absurd e, (λ e. absurd e, (λ e. absurd e, (λ e. absurd e, (λ e. absurd e, (λ e. absurd e, (λ e. absurd e, (λ e. absurd e, (λ e. absurd e, (λ e. absurd e, (λ e. absurd e, (λ e. absurd e, (λ e. absurd e, (λ e. absurd e, (λ e. absurd e, (λ e. absurd e, (λ e. e, (λ e. absurd e, (λ e. absurd e, (λ e. absurd e, (λ e. absurd e, (λ e. absurd e, (λ e. absurd e, (λ e. absurd e, (λ e. absurd e, (λ e. absurd e, (λ e. absurd e, (λ e. absurd e, (λ e. absurd e, (λ e. absurd e, (λ e. absurd e, (λ e. absurd e, (λ e. absurd e, (λ e. absurd e, (λ e. absurd e, (λ e. absurd e, (λ e. absurd e, tt)))))))))))))))))))))))))))))))))))))

  recorded : (item : MonitorRecord) (place : ℕ) → IsTrueIn node (parts w d s m u) (Recorded item place) → MonitorMakes m (Recorded item place)
  recorded item place = whoever (parts w d s m u) (Recorded item place) (MonitorMakes m (Recorded item place)) (λ e. absurd e, (λ e. absurd e, (λ e. absurd e, (λ e. absurd e, (λ e. absurd e, (λ e. absurd e, (λ e. absurd e, (λ e. absurd e, (λ e. absurd e, (λ e. absurd e, (λ e. absurd e, (λ e. absurd e, (λ e. absurd e, (λ e. absurd e, (λ e. absurd e, (λ e. absurd e, (λ e. absurd e, (λ e. absurd e, (λ e. absurd e, (λ e. absurd e, (λ e. absurd e, (λ e. absurd e, (λ e. absurd e, (λ e. absurd e, (λ e. absurd e, (λ e. absurd e, (λ e. absurd e, (λ e. absurd e, (λ e. e, (λ e. absurd e, (λ e. absurd e, (λ e. absurd e, (λ e. absurd e, (λ e. absurd e, (λ e. absurd e, (λ e. absurd e, (λ e. absurd e, tt)))))))))))))))))))))))))))))))))))))

  decided : (close : Close) (discs : List ℕ) → IsTrueIn node (parts w d s m u) (Decided t close discs) → WorkerMakes w (Decided t close discs)
  decided close discs = whoever (parts w d s m u) (Decided t close discs) (WorkerMakes w (Decided t close discs)) (λ e. e, (λ e. absurd (cc), (λ e. absurd (cc), (λ e. absurd (cc), (λ e. absurd (cc), (λ e. absurd (cc), (λ e. absurd (cc), (λ e. absurd (cc), (λ e. absurd (cc), (λ e. absurd (cc), (λ e. absurd (cc), (λ e. absurd (cc), (λ e. absurd (cc), (λ e. absurd (cc), (λ e. absurd (cc), (λ e. absurd (cc), (λ e. absurd e, (λ e. absurd e, (λ e. absurd e, (λ e. absurd e, (λ e. absurd e, (λ e. absurd e, (λ e. absurd e, (λ e. absurd e, (λ e. absurd e, (λ e. absurd e, (λ e. absurd e, (λ e. absurd e, (λ e. absurd e, (λ e. absurd e, (λ e. absurd e, (λ e. absurd e, (λ e. absurd e, (λ e. absurd e, (λ e. absurd e, (λ e. absurd e, (λ e. absurd e, tt)))))))))))))))))))))))))))))))))))))

-- a front of the example
front : (count : ℕ) → take count log ++ drop count log ≡ log → IsHistory node (opening_parts found) (take count log)
front count cut = history_front node (opening_parts found) (take count log) (drop count log) (subst (λ (xs : List (ℕ × Event)). IsHistory node (opening_parts found) xs) (sym cut) example)

-- no audit has landed of the disc, which begins at position 1
none_landed : (disc : ℕ) → (1 < 1) ⊎ HasLandedTo [] disc 1 → ⊥
none_landed disc h = ⊎_elim (λ (lt : 1 < 1). omega (arith, lt)) (λ (l : HasLandedTo [] disc 1). l.is_landed) h

-- EACH WRONG BODY

-- a block is drawn before its audit is durable
pub draw_before_audit : IsRefusedAfter found (take 3 log) (16, OfDisc (Draw 1 0 1))
draw_before_audit = record {
  lawful = front 3 refl;
  refused = in_state (states_after node (opening_parts found) (take 3 log)) (16, OfDisc (Draw 1 0 1)) refl (λ may asked. (let is = durable _ _ _ _ _ 1 1 asked in absurd (not_durable is.1)));
} where
  not_durable : (1 < 1) ⊎ HasLandedTo [] 1 1 → ⊥
  not_durable h = none_landed 1 h

-- a control point takes the next position as low while a transaction is live
pub low_past_live : IsRefusedAfter found (take 3 log) (16, OfDisc (Low 2 (ByDisc 1)))
low_past_live = record {
  lawful = front 3 refl;
  refused = in_state (states_after node (opening_parts found) (take 3 log)) (16, OfDisc (Low 2 (ByDisc 1))) refl (λ may asked. (let released = may.greatest.quiet.released change (inl refl) (omega arith) in absurd (cc (released))));
}

-- a front of the example, and then this
then_ : (count : ℕ) → take count log ++ drop count log ≡ log → (rest : List (ℕ × Event)) → IsHistory node (states_after node (opening_parts found) (take count log)) rest → IsHistory node (opening_parts found) (take count log ++ rest)
then_ count cut rest h = history-append node (opening_parts found) (take count log) rest (front count cut) h

abbrev ended : List (ℕ × Event)
ended = (0, OfWorker (End t)) ∷ []

may_end : IsHistory node (states_after node (opening_parts found) (take 4 log)) ended
may_end = ((_, refl, record { is_open = record { is_own = record { worker = refl; epoch = refl }; begun = refl; undecided = refl }; finished = refl }, tt), tt)

may_end_closed : IsHistory node (states_after node (opening_parts found) (take 5 log)) ended
may_end_closed = ((_, refl, record { is_open = record { is_own = record { worker = refl; epoch = refl }; begun = refl; undecided = refl }; finished = refl }, tt), tt)

abbrev commit_car : ℕ × Event
commit_car = (28, OfMonitor (OfferCar (Commit t ∷ [])))

-- the commit record is written before phase one
pub commit_before_close : IsRefusedAfter found (take 4 log ++ ended) commit_car
commit_before_close = record {
  lawful = then_ 4 refl ended may_end;
  refused = in_state (states_after node (opening_parts found) (take 4 log ++ ended)) commit_car refl (λ may asked.
      (let backed = asked (Commit t) (inl refl) in
      let ends = decided _ _ _ _ _ Committing backed.0 backed.1 in
      let flushed = backed.2 1 (subst (λ (ds : List ℕ). Among ds 1) ends.2 (inl refl)) in
      let is_closed = closed _ _ _ _ _ 1 flushed.0 flushed.1 in
      absurd (cc (is_closed.1))));
}

-- the commit record is written when the disc has closed, and its audit has not landed
pub commit_before_audit : IsRefusedAfter found (take 5 log ++ ended) commit_car
commit_before_audit = record {
  lawful = then_ 5 refl ended may_end_closed;
  refused = in_state (states_after node (opening_parts found) (take 5 log ++ ended)) commit_car refl (λ may asked.
      (let backed = asked (Commit t) (inl refl) in
      let ends = decided _ _ _ _ _ Committing backed.0 backed.1 in
      let flushed = backed.2 1 (subst (λ (ds : List ℕ). Among ds 1) ends.2 (inl refl)) in
      let is_closed = closed _ _ _ _ _ 1 flushed.0 flushed.1 in
      let last : 1 ≡ flushed.0 = is_closed.2 in
      let landed = durable _ _ _ _ _ 1 flushed.0 flushed.2 in
      absurd (none_landed 1 (subst (λ (n : ℕ). (n < 1) ⊎ HasLandedTo [] 1 n) (sym last) landed.1))));
}

-- records are let go when the car is offered, before it has landed
pub early_release : IsRefusedAfter found (take 9 log) (16, OfDisc (Release t))
early_release = record {
  lawful = front 9 refl;
  refused = in_state (states_after node (opening_parts found) (take 9 log)) (16, OfDisc (Release t)) refl (λ may asked. ⊎_elim
      (λ (c : (place : ℕ) × IsTrueIn node (states_after node (opening_parts found) (take 9 log)) (Recorded (Commit t) place)).
      (let stands = recorded _ _ _ _ _ (Commit t) c.0 c.1 in let at = stands.at in absurd (cc (at))))
      (λ (b : ((discs : List ℕ) × IsTrueIn node (states_after node (opening_parts found) (take 9 log)) (Decided t Aborting discs)) × _).
      (let ends = decided _ _ _ _ _ Aborting b.0.0 b.0.1 in absurd (not_both ends.1)))
      asked);
} where
  not_both : Some Committing ≡ Some Aborting → ⊥
  not_both e = (let same : Committing ≡ Aborting = cc (e) in cc (same))

-- a commit is settled and its transaction then undone
pub undone_after_settle : IsRefusedAfter found (take 10 log) (16, OfDisc (Undo taken_back))
undone_after_settle = record {
  lawful = front 10 refl;
  refused = in_state (states_after node (opening_parts found) (take 10 log)) (16, OfDisc (Undo taken_back)) refl (λ may asked. (let ends = decided _ _ _ _ _ Aborting asked.0 asked.1 in absurd (not_both ends.1)));
} where
  not_both : Some Committing ≡ Some Aborting → ⊥
  not_both e = (let same : Committing ≡ Aborting = cc (e) in cc (same))

-- one transaction is recorded in two cars
pub recorded_twice : IsRefusedAfter found (take 10 log) commit_car
recorded_twice = record {
  lawful = front 10 refl;
  refused = in_state (states_after node (opening_parts found) (take 10 log)) commit_car refl (λ may asked. ⊎_elim
      (λ (lt : 1 < 1). absurd (omega (arith, lt)))
      (λ (x : (1 ≡ 1) × (1 < 1)). (let lt = x.1 in absurd (omega (arith, lt))))
      (may.later.0 (Commit t) (inl refl) t t refl refl refl));
}

-- or twice in one car
pub twice_in_a_car : IsRefusedAfter found (take 8 log) (28, OfMonitor (OfferCar (Commit t ∷ Commit t ∷ [])))
twice_in_a_car = record {
  lawful = front 8 refl;
  refused = in_state (states_after node (opening_parts found) (take 8 log)) (28, OfMonitor (OfferCar (Commit t ∷ Commit t ∷ []))) refl (λ may asked. ⊎_elim
      (λ (lt : 1 < 1). absurd (omega (arith, lt)))
      (λ (x : (1 ≡ 1) × (1 < 1)). (let lt = x.1 in absurd (omega (arith, lt))))
      (may.later.1.0 (Commit t) (inl refl) t t refl refl refl));
}

-- a dump begins while the transaction is live, and copies a block with its change
abbrev dumping : List (ℕ × Event)
dumping = (16, OfDisc (StartDump 1 1 t)) ∷ (29, OfDump (Copy 1 1 0 1)) ∷ []

-- no position behind the change is quiet
not_quiet : (other : ℕ) → ((r : AuditRecord) → Among (change ∷ []) r → r.position < other → has_released [] r.tx ≡ true) → other ≤ 1
not_quiet other released = by_case (nat_le other 1) refl where
  by_case : (b : Bool) → nat_le other 1 ≡ b → other ≤ 1
  by_case true e = leb-true other 1 e
  by_case false e = (let lt = leb-false other 1 e in let is = released change (inl refl) lt in absurd (cc (is)))

may_dump : IsHistory node (states_after node (opening_parts found) (take 3 log)) dumping
may_dump = (
  (
    _,
    refl,
    record {
      next = refl;
      alone = refl;
      greatest = record {
        quiet = record {
          reached = omega arith;
          released = λ r among lt. absurd (one_change (λ x. x.position < 1 → ⊥) (λ l. omega (arith, l)) r among lt);
          undone = λ r other among lt undone. absurd (cc (undone));
        };
        greatest = λ other quiet. not_quiet other quiet.released;
      };
      low = omega arith;
    },
    tt,
  ),
  (
    (
      _,
      refl,
      record { ongoing = λ count among. among; block_is = record { here = refl; within = omega arith }; is_new = refl; certain = tt },
      (1, (16, _, refl, (refl, inl refl)), omega arith, (change ∷ [], (16, _, refl, (refl, omega arith, omega arith, refl)))),
    ),
    tt,
  ),
)

-- a dump is sealed before the audit of its copies is flushed
pub sealed_before_flush : IsRefusedAfter found (take 3 log ++ dumping) (29, OfDump (Seal 1 1))
sealed_before_flush = record {
  lawful = then_ 3 refl dumping may_dump;
  refused = in_state (states_after node (opening_parts found) (take 3 log ++ dumping)) (29, OfDump (Seal 1 1)) refl (λ may asked. (let is = durable _ _ _ _ _ 1 1 (asked.2 1 0 1 refl) in absurd (none_landed 1 is.1)));
}

-- the volume has a sealed dump whose start is 1, and a control point has made the low position 2
abbrev old_dump : Found
old_dump = found_with (Some 1)

abbrev lowered_then : List (ℕ × Event)
lowered_then = take 4 more

may_lower : IsHistory node (states_after node (opening_parts old_dump) log) lowered_then
may_lower = (
  (
    _,
    refl,
    record {
      here = refl;
      idle = refl;
      last = change;
      is_made = inl refl;
      in_block = refl;
      at = refl;
      none_behind = λ r among in_it. one_change (λ x. x.position ≤ 1) (omega arith) r among;
      rises = omega arith;
    },
    (24, _, refl, (refl, inr (record { item = change; is_landed = inl refl; of_disc = refl; reaches = omega arith }))),
  ),
  (
    (_, refl, refl, tt),
    (
      (
        _,
        refl,
        record {
          greatest = record {
            quiet = record { reached = omega arith; released = λ r among lt. one_change (λ x. has_released (Release t ∷ []) x.tx ≡ true) refl r among; undone = λ r other among lt undone. absurd (cc (undone)) };
            greatest = λ other quiet. quiet.reached;
          };
          rises = omega arith;
          written = λ r among lt. one_change (λ x. x.position ≤ drawn 0 written_then x.file (home_block config x.file x.key)) (omega arith) r among;
          idle = none_drawn;
          still = refl;
        },
        (24, _, refl, (refl, inr (record { item = change; is_landed = inl refl; of_disc = refl; reaches = omega arith }))),
      ),
      ((_, refl, refl, tt), tt),
    ),
  ),
)

-- a purge takes a record that the sealed dump asks for
pub purge_past_dump : IsRefusedAfter old_dump (log ++ lowered_then) (24, OfTrail (Purge 2 2))
purge_past_dump = record {
  lawful = history-append node (opening_parts old_dump) log lowered_then (example_with (Some 1)) may_lower;
  refused = in_state (states_after node (opening_parts old_dump) (log ++ lowered_then)) (24, OfTrail (Purge 2 2)) refl (λ may asked.
      (let below = asked (record { file = 1; item = change }) (inr (inl (inl refl)), omega arith) in
      let is = floor _ _ _ _ _ 1 below.0 below.1 in
      let rest : below.0 ≤ 1 = is.1.rest in
      let behind : 1 < below.0 = below.2 in
      absurd (omega (arith, rest, behind))));
}

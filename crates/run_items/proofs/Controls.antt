-- What a control point's answer makes of what its worker knows.
use Rattle.std.specs.Prelude.{IfOk, IfErr, Result, Ok, Err}
use Rattle.std.specs.declared.sync.ledger.Share.{Share}
use Rattle.std.proofs.Common.{◌≡◌, ◌≤◌, ◌<◌, inl, inr, ⊎_elim, ℕ, true, false, List, [], ◌∷◌, ◌++◌, length, append_assoc, refl, ap, sym, ◌∙◌, subst, arith}
use Rattle.std.proofs.lemmas.Bool.{eq-eqb}
use Rattle.std.proofs.lemmas.List.{append_cancel_left}
use mathlib.Core.List.{IsPrefix}
use Rattle.chronicle.specs.Histories.{events_of}
use Rattle.chronicle.specs.Seats.{Sight}
use Rattle.chronicle.proofs.Facts.{events_of-prefix}
use Rattle.disk_model.specs.declared.disk.Disk as disk
use Rattle.tmf_model.specs.declared.config.Config.{Config}
use Rattle.tmf_model.specs.declared.transid.Transid.{Transid}
use Rattle.node_machine.specs.Deeds.{HasLowered, Log, count_of}
use Rattle.node_machine.specs.Opening.{disc_part, trail_part}
use Rattle.node_machine.specs.Parts.{PartState}
use Rattle.node_machine.specs.Same.{Among}
use Rattle.node_machine.specs.SameLaws.{among_right}
use Rattle.node_machine.specs.Trail.{trail_of}
use Rattle.node_machine.specs.declared.event.By.TheVariants.{Attempt}
use Rattle.node_machine.specs.declared.event.DiscEvent.TheVariants as did
use Rattle.node_machine.specs.declared.event.Event.{Event}
use Rattle.node_machine.specs.declared.event.Event.TheVariants.{OfDisc}
use Rattle.audit_writer.specs.Writer.{Writer}
use Rattle.disc_process.specs.Disc.{HasReached}
use Rattle.disc_lock.specs.Tokens.{HasGiven}
use Rattle.disc_lock.specs.Seats.{HasSeenMore}
use Rattle.control_point.specs.Control.{HasControlled, IsControlRefusal, IsSpent, WasSo}
use Rattle.control_point.specs.Given.{HasGivenToControl, IsCutShort}
use Rattle.control_point.specs.declared.refused.ControlRefused.{ControlRefused}
use Rattle.control_point.specs.declared.refused.ControlRefused.TheVariants as refused
use Rattle.run_outcomes.specs.Concerned.{control_parts}
use Rattle.run_outcomes.specs.Knowing.{MovesKnownLaw}
use Rattle.run_outcomes.specs.Moves.{low_move}
use Rattle.run_outcomes.specs.Reach.{HasMoved, reach_at}
use Rattle.run_items.specs.Controlled.{HasDoneControl, IsControlAnswered, told_by}
use Rattle.run_items.specs.Item.{HasGivenOneAtMost, IsSpentIn}
use Rattle.run_items.proofs.Entries.{among_event, count_more, entries_append, event_among, stands_between}

-- where two events of the disc are the begin and the end of a move, one behind the other, the list has the move whole
lowered_at : (volume : ℕ) (t : Transid) (low : ℕ) (log : Log) (front behind : List Event) → events_of (disc_part volume) log ≡ front ++ OfDisc (did.Low low (Attempt t)) ∷ OfDisc did.Lowered ∷ behind → HasLowered log volume t low
lowered_at volume t low log front behind is =
    let first = stands_between (disc_part volume) front (OfDisc (did.Low low (Attempt t))) (OfDisc did.Lowered ∷ behind) log is in
    let second = stands_between (disc_part volume) [] (OfDisc did.Lowered) behind first.rest first.behind_is in
    let begin : ℕ × Event = low_move volume t low in
    let end : ℕ × Event = (disc_part volume, OfDisc did.Lowered) in
    record {
      before = first.front;
      between = second.front;
      after = second.rest;
      stands = first.stands ∙ ap (λ (l : Log). first.front ++ begin ∷ l) second.stands ∙ sym (append_assoc first.front (begin ∷ second.front) (end ∷ second.rest));
      next = λ there. subst (λ (l : List Event). Among l (OfDisc did.Lowered)) second.before_is (event_among (disc_part volume) second.front (OfDisc did.Lowered) there);
    }

module _ {L : Type 0} (opening : List PartState) (config : Config) (volume : ℕ) (t : Transid) (old new : Sight Event) (before after : Share L) (seen : HasSeenMore opening old new) where
  whole : old.seen ++ seen.0.begins.0 ≡ new.seen
  whole = seen.0.begins.1

  -- no token was given: the worker knows no other move
  pub none_moved : MovesKnownLaw → HasGiven false before after → HasMoved t.worker (reach_at old before) (reach_at new after) []
  none_moved law given = (law t.worker).still (reach_at old before) (reach_at new after) seen.0.begins (let same = given.amount in omega (arith, same))

  -- one was, for a move that was newly seen: it knows that one
  pub one_moved : MovesKnownLaw → (low : ℕ) → HasGiven true before after → Among seen.0.begins.0 (low_move volume t low) → HasMoved t.worker (reach_at old before) (reach_at new after) (low_move volume t low ∷ [])
  one_moved law low given among = (law t.worker).once (reach_at old before) (reach_at new after) (low_move volume t low) (record {
    own = eq-eqb t.worker t.worker refl;
    more = seen.0.begins.0;
    seen = sym whole;
    among = among;
    given = given.amount;
  })

  module _ {D : Type 0} (kind : disk.Ghosts D) (IsOne : Writer D → Type 0) (low : ℕ) (is : HasControlled kind IsOne opening config volume (Attempt t) low old new) where
    -- the events of the disc behind the move, as the seat has seen
    later : IsPrefix (events_of (disc_part volume) is.between.seen) (events_of (disc_part volume) new.seen)
    later = events_of-prefix (disc_part volume) is.between.seen new.seen is.behind.0.begins

    at_disc : events_of (disc_part volume) new.seen ≡ (events_of (disc_part volume) old.seen ++ is.moved.more) ++ OfDisc (did.Low low (Attempt t)) ∷ OfDisc did.Lowered ∷ later.0
    at_disc =
        sym later.1
        ∙ ap (λ (l : List Event). l ++ later.0) is.moved.events
        ∙ append_assoc (events_of (disc_part volume) old.seen ++ is.moved.more) (OfDisc (did.Low low (Attempt t)) ∷ OfDisc did.Lowered ∷ []) later.0

    newly : events_of (disc_part volume) seen.0.begins.0 ≡ is.moved.more ++ OfDisc (did.Low low (Attempt t)) ∷ OfDisc did.Lowered ∷ later.0
    newly =
        append_cancel_left (events_of (disc_part volume) old.seen) (events_of (disc_part volume) seen.0.begins.0) (is.moved.more ++ OfDisc (did.Low low (Attempt t)) ∷ OfDisc did.Lowered ∷ later.0)
        (sym (entries_append (disc_part volume) old.seen seen.0.begins.0) ∙ ap (events_of (disc_part volume)) whole ∙ at_disc
        ∙ append_assoc (events_of (disc_part volume) old.seen) is.moved.more (OfDisc (did.Low low (Attempt t)) ∷ OfDisc did.Lowered ∷ later.0))

    -- the begin of the move was newly seen
    pub begin_seen : Among seen.0.begins.0 (low_move volume t low)
    begin_seen = among_event (disc_part volume) seen.0.begins.0 (OfDisc (did.Low low (Attempt t)))
        (subst (λ (l : List Event). Among l (OfDisc (did.Low low (Attempt t)))) (sym newly) (among_right is.moved.more (OfDisc (did.Low low (Attempt t)) ∷ OfDisc did.Lowered ∷ later.0) (OfDisc (did.Low low (Attempt t))) (inl refl)))

    -- the move is whole
    pub lowered : HasLowered new.seen volume t low
    lowered = lowered_at volume t low new.seen (events_of (disc_part volume) old.seen ++ is.moved.more) later.0 at_disc

  -- a move that was cut short was newly begun
  pub cut_seen : (device : ℕ) → (cut : IsCutShort config volume t device old new) → Among seen.0.begins.0 (low_move volume t cut.low)
  cut_seen device cut =
      let x : ℕ × Event = low_move volume t cut.low in
      let same : seen.0.begins.0 ≡ cut.since.0 ++ x ∷ cut.rest =
      append_cancel_left old.seen seen.0.begins.0 (cut.since.0 ++ x ∷ cut.rest)
      (whole ∙ cut.stands ∙ ap (λ (l : Log). l ++ x ∷ cut.rest) (sym cut.since.1) ∙ append_assoc old.seen cut.since.0 (x ∷ cut.rest)) in
      subst (λ (l : Log). Among l x) (sym same) (among_right cut.since.0 (x ∷ cut.rest) x (inl refl))

  -- the spent part is one of the control point's, and is spent still
  pub spent_in : {D : Type 0} (kind : disk.Ghosts D) (part : ℕ) → WasSo kind opening config volume old new (IsSpent config volume part) → IsSpentIn config (control_parts config volume) new part
  spent_in kind part was =
      let d = disc_part volume in
      let r = trail_part (trail_of config volume) in
      ⊎_elim
      (λ (x : (config.steps ≤ length (events_of d was.seen)) × (part ≡ d)).
      let on = count_more d was.seen new.seen was.before in
      let many = x.0 in
      let reached : config.steps ≤ count_of d new.seen = omega (arith, on, many) in
      record { which = inl (sym x.1); spent = subst (λ (n : ℕ). config.steps ≤ count_of n new.seen) (sym x.1) reached })
      (λ (y : (length (events_of d was.seen) < config.steps) × HasReached config.steps (length (events_of r was.seen)) (part ≡ r) ⊥).
      ⊎_elim
      (λ (x : (config.steps ≤ length (events_of r was.seen)) × (part ≡ r)).
      let on = count_more r was.seen new.seen was.before in
      let many = x.0 in
      let reached : config.steps ≤ count_of r new.seen = omega (arith, on, many) in
      record { which = inr (inl (sym x.1)); spent = subst (λ (n : ℕ). config.steps ≤ count_of n new.seen) (sym x.1) reached })
      (λ (none : (length (events_of r was.seen) < config.steps) × ⊥). absurd none.1)
      y.1)
      was.so.first

  module _ {D : Type 0} (kind : disk.Ghosts D) (IsOne : Writer D → Type 0) (law : MovesKnownLaw) where
    -- what the worker knows, and what is told
    pub control_done : (answer : Result ℕ ControlRefused) → IfOk answer (λ low. HasControlled kind IsOne opening config volume (Attempt t) low old new)
        → IfErr answer (IsControlRefusal kind opening config volume (Attempt t) old new) → HasGivenToControl config volume t old new answer before after
        → HasDoneControl config volume t (reach_at old before) (reach_at new after) (told_by volume answer)
    control_done (Ok low) is unasked given = record {
      moves = low_move volume t low ∷ [];
      moved = one_moved law low given (begin_seen kind IsOne low is);
      makes = (refl, lowered kind IsOne low is, refl);
    }
    control_done (Err (refused.Spent part)) unasked is given = record { moves = []; moved = none_moved law given; makes = (spent_in kind part is, refl) }
    control_done (Err (refused.Failed device)) unasked is given = ⊎_elim
        (λ (none : HasGiven false before after). record { moves = []; moved = none_moved law none; makes = (is.1, inl refl) })
        (λ (one : HasGiven true before after × IsCutShort config volume t device old new).
        record { moves = low_move volume t one.1.low ∷ []; moved = one_moved law one.1.low one.0 (cut_seen device one.1); makes = (is.1, inr (one.1, refl)) })
        given
    control_done (Err refused.NoMemory) unasked is given = record { moves = []; moved = none_moved law given; makes = refl }

    -- the answer has its cause
    pub control_answered : (answer : Result ℕ ControlRefused) → IfOk answer (λ low. HasControlled kind IsOne opening config volume (Attempt t) low old new)
        → IfErr answer (IsControlRefusal kind opening config volume (Attempt t) old new) → IsControlAnswered kind IsOne opening config volume t old new (told_by volume answer)
    control_answered (Ok low) is unasked = record { answer = Ok low; told_is = refl; cause = is }
    control_answered (Err refusal) unasked is = record { answer = Err refusal; told_is = refl; cause = is }

    pub given_one : (answer : Result ℕ ControlRefused) → HasGivenToControl config volume t old new answer before after → HasGivenOneAtMost before after
    given_one (Ok low) given = inl given
    given_one (Err (refused.Spent part)) given = inr given
    given_one (Err (refused.Failed device)) given = ⊎_elim (λ (none : HasGiven false before after). inr none) (λ (one : HasGiven true before after × IsCutShort config volume t device old new). inl one.0) given
    given_one (Err refused.NoMemory) given = inr given

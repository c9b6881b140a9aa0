-- What a dump's answer makes of what its worker knows.
use Rattle.std.specs.Prelude.{◌⊎◌, IfOk, IfErr, Option, Result, Ok, Err}
use Rattle.std.specs.declared.sync.ledger.Share.{Share}
use Rattle.std.proofs.Common.{◌≡◌, ◌≤◌, ◌<◌, ◌+◌, inl, inr, ⊎_elim, ℕ, true, false, List, [], ◌∷◌, ◌++◌, length, append_assoc, append-nil, refl, ap, sym, ◌∙◌, subst, arith}
use Rattle.std.proofs.lemmas.Bool.{eq-eqb}
use Rattle.std.proofs.lemmas.List.{append_cancel_left}
use mathlib.Core.List.{IsPrefix}
use Rattle.chronicle.specs.Histories.{events_of}
use Rattle.chronicle.specs.Seats.{Sight}
use Rattle.chronicle.proofs.Facts.{events_of-prefix}
use Rattle.disk_model.specs.declared.disk.Disk as disk
use Rattle.tmf_model.specs.declared.transid.Transid.{Transid}
use Rattle.node_machine.specs.Deeds.{HasDumped, Log, count_of}
use Rattle.node_machine.specs.Opening.{Found, disc_part, dump_part, trail_part}
use Rattle.node_machine.specs.Parts.{PartState}
use Rattle.node_machine.specs.Same.{Among}
use Rattle.node_machine.specs.SameLaws.{among_append, among_right}
use Rattle.node_machine.specs.Trail.{trail_of}
use Rattle.node_machine.specs.declared.event.By.TheVariants.{Attempt}
use Rattle.node_machine.specs.declared.event.Cause.TheVariants as cause
use Rattle.node_machine.specs.declared.event.DiscEvent.TheVariants as did
use Rattle.node_machine.specs.declared.event.DumpEvent.TheVariants as dump_did
use Rattle.node_machine.specs.declared.event.Event.{Event}
use Rattle.node_machine.specs.declared.event.Event.TheVariants.{OfDisc, OfDump, OfTrail}
use Rattle.node_machine.specs.declared.event.TrailEvent.TheVariants as trail_did
use Rattle.disc_process.specs.Disc.{HasReached}
use Rattle.disc_lock.specs.Tokens.{HasGiven}
use Rattle.disc_lock.specs.Seats.{HasSeenMore}
use Rattle.online_dump.specs.Dumped.{HasBegunFor, HasDumped as HasDumpedFor, HasFailedFor, HasGivenUpFor, HasSeenRaise, HasSeenSince, HasTurnedAway, IsDumpRefusal, IsRefusedBefore, WasFit, WasSpent}
use Rattle.online_dump.specs.declared.refused.DumpRefused.{DumpRefused}
use Rattle.online_dump.specs.declared.refused.DumpRefused.TheVariants as refused
use Rattle.run_outcomes.specs.Concerned.{dump_parts}
use Rattle.run_outcomes.specs.Dumps.{EndsItsDumps}
use Rattle.run_outcomes.specs.Knowing.{MovesKnownLaw, OnceLaw}
use Rattle.run_outcomes.specs.Moves.{dump_turn, start_move}
use Rattle.run_outcomes.specs.Joined.{KnowsMore}
use Rattle.run_outcomes.specs.Reach.{HasActed, HasMoved, KnowsActsAndMoves, reach_at}
use Rattle.run_outcomes.specs.declared.outcome.Told.{Told}
use Rattle.run_outcomes.specs.declared.outcome.Told.TheVariants as told
use Rattle.run_items.specs.Dumped.{HasDoneDump, IsCutShort, IsDumpAnswered, told_by}
use Rattle.run_items.specs.Item.{HasGivenOneAtMost, IsSpentIn}
use Rattle.run_items.proofs.Entries.{among_event, count_more, entries_append, event_among}
use Rattle.run_items.proofs.Lists.{among_on, among_split}

-- the event that was seen since stands in what was newly seen
since_more : (part : ℕ) (e : Event) (old new : Sight Event) (begins : IsPrefix old.seen new.seen) → HasSeenSince part e old new → Among begins.0 (part, e)
since_more part e old new begins since =
    let before = events_of part old.seen in
    let newly : events_of part begins.0 ≡ since.more ++ e ∷ since.rest =
    append_cancel_left before (events_of part begins.0) (since.more ++ e ∷ since.rest)
    (sym (entries_append part old.seen begins.0) ∙ ap (events_of part) begins.1 ∙ since.events ∙ append_assoc before since.more (e ∷ since.rest)) in
    among_event part begins.0 e (subst (λ (l : List Event). Among l e) (sym newly) (among_right since.more (e ∷ since.rest) e (inl refl)))

-- what was seen since a later moment was seen since an earlier one
since_then : (part : ℕ) (e : Event) (old between new : Sight Event) → IsPrefix old.seen between.seen → HasSeenSince part e between new → HasSeenSince part e old new
since_then part e old between new begins since =
    let on = events_of-prefix part old.seen between.seen begins in
    record {
      more = on.0 ++ since.more;
      rest = since.rest;
      events = since.events ∙ ap (λ (l : List Event). l ++ e ∷ since.rest) (ap (λ (l : List Event). l ++ since.more) (sym on.1) ∙ append_assoc (events_of part old.seen) on.0 since.more);
    }

module _ {L : Type 0} (opening : List PartState) (found : Found) (volume : ℕ) (t : Transid) (old new : Sight Event) (before after : Share L) (seen : HasSeenMore opening old new) where
  whole : old.seen ++ seen.0.begins.0 ≡ new.seen
  whole = seen.0.begins.1

  -- WHAT THE WORKER KNOWS

  moved_known : (more : Log) → HasMoved t.worker (reach_at old before) (reach_at new after) more → KnowsMore t.worker (reach_at old before) (reach_at new after) [] more
  moved_known more moved acts moves knows = subst (λ (l : Log). KnowsActsAndMoves t.worker (reach_at new after) l (moves ++ more)) (sym (append-nil acts)) (moved acts moves knows)

  acted_known : (more : Log) → HasActed t.worker (reach_at old before) (reach_at new after) more → KnowsMore t.worker (reach_at old before) (reach_at new after) more []
  acted_known more acted acts moves knows = subst (λ (l : Log). KnowsActsAndMoves t.worker (reach_at new after) (acts ++ more) l) (sym (append-nil moves)) (acted acts moves knows)

  -- no token was given
  none_known : MovesKnownLaw → HasGiven false before after → KnowsMore t.worker (reach_at old before) (reach_at new after) [] []
  none_known law given = moved_known [] ((law t.worker).still (reach_at old before) (reach_at new after) seen.0.begins (let same = given.amount in omega (arith, same)))

  -- one was, for the begin of a dump
  start_known : MovesKnownLaw → (number start : ℕ) → HasGiven true before after → Among seen.0.begins.0 (start_move volume t number start)
      → KnowsMore t.worker (reach_at old before) (reach_at new after) [] (start_move volume t number start ∷ [])
  start_known law number start given among = moved_known (start_move volume t number start ∷ []) ((law t.worker).once (reach_at old before) (reach_at new after) (start_move volume t number start) (record {
    own = eq-eqb t.worker t.worker refl;
    more = seen.0.begins.0;
    seen = sym whole;
    among = among;
    given = given.amount;
  }))

  -- or for a turn
  turn_known : OnceLaw → HasTurnedAway volume t old new before after → KnowsMore t.worker (reach_at old before) (reach_at new after) ((disc_part volume, OfDisc (did.Turn t cause.Dumping)) ∷ []) []
  turn_known law turned = acted_known ((disc_part volume, OfDisc (did.Turn t cause.Dumping)) ∷ []) (law t.worker (reach_at old before) (reach_at new after) (disc_part volume, OfDisc (did.Turn t cause.Dumping)) (record {
    own = eq-eqb t.worker t.worker refl;
    more = seen.0.begins.0;
    seen = sym whole;
    among = since_more (disc_part volume) (OfDisc (did.Turn t cause.Dumping)) old new seen.0.begins turned.turned;
    given = turned.given.amount;
  }))

  -- WHAT THE SEAT HAS SEEN

  -- the begin of a dump that is new was newly seen
  start_seen : (number start : ℕ) (between : Sight Event) → IsPrefix between.seen new.seen → HasBegunFor volume t number start old between before after → Among seen.0.begins.0 (start_move volume t number start)
  start_seen number start between later begun =
      let e = OfDisc (did.Start number start t) in
      let there : Among new.seen (disc_part volume, e) = among_on between.seen new.seen (disc_part volume, e) later (among_event (disc_part volume) between.seen e begun.started) in
      ⊎_elim
      (λ (was : Among old.seen (disc_part volume, e)). absurd (begun.is_new.at_disc e refl (event_among (disc_part volume) old.seen e was)))
      (λ (newly : Among seen.0.begins.0 (disc_part volume, e)). newly)
      (among_append old.seen seen.0.begins.0 (disc_part volume, e) (subst (λ (l : Log). Among l (disc_part volume, e)) (sym whole) there))

  seen_so : (part : ℕ) (e : Event) → Among (events_of part new.seen) e → Among new.seen (part, e)
  seen_so part e has = among_event part new.seen e has

  -- nothing of a dump
  none_apart : (tells : Told) → ((named : ℕ) → tells ≡ told.Dumping named → ⊥) → EndsItsDumps old.seen new.seen [] (record { tx = t; told = tells })
  none_apart tells undumped = record {
    more = seen.0.begins.0;
    seen = sym whole;
    begun = λ v u number start among. absurd among;
    ended = λ v u number start among. absurd among;
    turned = λ named is. absurd (undumped named is);
  }

  -- a turn
  turn_apart : HasTurnedAway volume t old new before after → EndsItsDumps old.seen new.seen [] (record { tx = t; told = told.Dumping volume })
  turn_apart turned = record {
    more = seen.0.begins.0;
    seen = sym whole;
    begun = λ v u number start among. absurd among;
    ended = λ v u number start among. absurd among;
    turned = λ named is.
        let same : volume ≡ named = cc (is) in
        (refl, subst (λ (n : ℕ). Among seen.0.begins.0 (dump_turn n t)) same (since_more (disc_part volume) (OfDisc (did.Turn t cause.Dumping)) old new seen.0.begins turned.turned));
  }

  abbrev raise_entry : ℕ → ℕ → Option ℕ → ℕ × Event
  raise_entry v number rest = (disc_part v, OfDisc (did.Raise number rest))

  -- the begin of a dump, and its end
  start_apart : (tells : Told) (number start : ℕ) → ((named : ℕ) → tells ≡ told.Dumping named → ⊥) → Among seen.0.begins.0 (start_move volume t number start) → HasSeenRaise volume number new
      → EndsItsDumps old.seen new.seen (start_move volume t number start ∷ []) (record { tx = t; told = tells })
  start_apart tells number start undumped begun raised = record {
    more = seen.0.begins.0;
    seen = sym whole;
    begun = λ v u n s among. ⊎_elim
        (λ (same : start_move volume t number start ≡ start_move v u n s). subst (λ (x : ℕ × Event). Among seen.0.begins.0 x) same begun)
        (λ none. absurd none)
        among;
    ended = λ v u n s among. ⊎_elim
        (λ (same : start_move volume t number start ≡ start_move v u n s). (raised.0, subst (λ (x : ℕ × Event). Among new.seen x) (raise_same v u n s raised.0 same) (seen_so (disc_part volume) (OfDisc (did.Raise number raised.0)) raised.1)))
        (λ none. absurd none)
        among;
    turned = λ named is. absurd (undumped named is);
  } where
    raise_same : (v : ℕ) (u : Transid) (n s : ℕ) (rest : Option ℕ) → start_move volume t number start ≡ start_move v u n s → raise_entry volume number rest ≡ raise_entry v n rest
    raise_same v u n s rest same =
        let part : disc_part volume ≡ disc_part v = ap (λ (x : ℕ × Event). x.0) same in
        let event : OfDisc (did.Start number start t) ≡ OfDisc (did.Start n s u) = ap (λ (x : ℕ × Event). x.1) same in
        let one : number ≡ n = cc (event) in
        λ i. (part i, OfDisc (did.Raise (one i) rest))

  dumped_so : {D : Type 0} (kind : disk.Ghosts D) (start : ℕ) → HasDumpedFor kind opening found volume t start old new before after → HasDumped new.seen volume t start
  dumped_so kind start is = record {
    number = is.number;
    started = seen_so (disc_part volume) (OfDisc (did.Start is.number start t)) is.begun.started;
    sealed = seen_so (dump_part volume) (OfDump (dump_did.Seal is.number start)) is.ended.seal;
    landed = seen_so (dump_part volume) (OfDump (dump_did.Sealed is.number true)) is.ended.sealed;
    rest = is.ended.raised.0;
    raised = seen_so (disc_part volume) (OfDisc (did.Raise is.number is.ended.raised.0)) is.ended.raised.1;
  }

  -- the spent part is one of the dump's, and is spent still
  spent_so : {D : Type 0} (kind : disk.Ghosts D) (part : ℕ) → WasSpent kind opening found volume old new part → IsSpentIn found.config (dump_parts volume) new part
  spent_so kind part was =
      let d = disc_part volume in
      let r = dump_part volume in
      let steps = found.config.steps in
      ⊎_elim
      (λ (x : (steps ≤ length (events_of d was.seen)) × (part ≡ d)).
      let on = count_more d was.seen new.seen was.before in
      let many = x.0 in
      let reached : steps ≤ count_of d new.seen = omega (arith, on, many) in
      record { which = inl (sym x.1); spent = subst (λ (n : ℕ). steps ≤ count_of n new.seen) (sym x.1) reached })
      (λ (y : (length (events_of d was.seen) < steps) × HasReached steps (length (events_of r was.seen)) (part ≡ r) ⊥).
      ⊎_elim
      (λ (x : (steps ≤ length (events_of r was.seen)) × (part ≡ r)).
      let on = count_more r was.seen new.seen was.before in
      let many = x.0 in
      let reached : steps ≤ count_of r new.seen = omega (arith, on, many) in
      record { which = inr (inl (sym x.1)); spent = subst (λ (n : ℕ). steps ≤ count_of n new.seen) (sym x.1) reached })
      (λ (none : (length (events_of r was.seen) < steps) × ⊥). absurd none.1)
      y.1)
      was.so.first

  -- a call that failed since a moment has failed since an earlier one
  failed_then : (between : Sight Event) (device : ℕ) → IsPrefix old.seen between.seen → HasFailedFor found.config volume t between new device → HasFailedFor found.config volume t old new device
  failed_then between device begins how = ⊎_elim
      (λ (x : (device ≡ trail_of found.config volume) × HasSeenSince (trail_part (trail_of found.config volume)) (OfTrail (trail_did.Failed (Attempt t))) between new).
      inl (x.0, since_then (trail_part (trail_of found.config volume)) (OfTrail (trail_did.Failed (Attempt t))) old between new begins x.1))
      (λ (y : ((device ≡ 4 + volume) × HasSeenSince (disc_part volume) (OfDisc (did.Failed (Attempt t))) between new) ⊎ ((device ≡ 12 + volume) × HasSeenSince (dump_part volume) (OfDump (dump_did.Failed (Attempt t))) between new)).
      ⊎_elim
      (λ (x : (device ≡ 4 + volume) × HasSeenSince (disc_part volume) (OfDisc (did.Failed (Attempt t))) between new). inr (inl (x.0, since_then (disc_part volume) (OfDisc (did.Failed (Attempt t))) old between new begins x.1)))
      (λ (x : (device ≡ 12 + volume) × HasSeenSince (dump_part volume) (OfDump (dump_did.Failed (Attempt t))) between new). inr (inr (x.0, since_then (dump_part volume) (OfDump (dump_did.Failed (Attempt t))) old between new begins x.1)))
      y)
      how

  -- it stands behind the begin of the dump
  cut_so : (between : Sight Event) (number start device : ℕ) → IsPrefix between.seen new.seen → HasBegunFor volume t number start old between before after → HasFailedFor found.config volume t between new device
      → IsCutShort found.config volume t number start device new
  cut_so between number start device later begun how =
      let x : ℕ × Event = start_move volume t number start in
      let cut = among_split between.seen x (among_event (disc_part volume) between.seen (OfDisc (did.Start number start t)) begun.started) in
      record {
        front = cut.0;
        rest = cut.1 ++ later.0;
        stands = sym later.1 ∙ ap (λ (l : Log). l ++ later.0) cut.2 ∙ append_assoc cut.0 (x ∷ cut.1) later.0;
        failed = ⊎_elim
            (λ (x : (device ≡ trail_of found.config volume) × HasSeenSince (trail_part (trail_of found.config volume)) (OfTrail (trail_did.Failed (Attempt t))) between new).
            inl (x.0, among_right cut.1 later.0 (trail_part (trail_of found.config volume), OfTrail (trail_did.Failed (Attempt t))) (since_more (trail_part (trail_of found.config volume)) (OfTrail (trail_did.Failed (Attempt t))) between new later x.1)))
            (λ (y : ((device ≡ 4 + volume) × HasSeenSince (disc_part volume) (OfDisc (did.Failed (Attempt t))) between new) ⊎ ((device ≡ 12 + volume) × HasSeenSince (dump_part volume) (OfDump (dump_did.Failed (Attempt t))) between new)).
            ⊎_elim
            (λ (x : (device ≡ 4 + volume) × HasSeenSince (disc_part volume) (OfDisc (did.Failed (Attempt t))) between new).
            inr (inl (x.0, among_right cut.1 later.0 (disc_part volume, OfDisc (did.Failed (Attempt t))) (since_more (disc_part volume) (OfDisc (did.Failed (Attempt t))) between new later x.1))))
            (λ (x : (device ≡ 12 + volume) × HasSeenSince (dump_part volume) (OfDump (dump_did.Failed (Attempt t))) between new).
            inr (inr (x.0, among_right cut.1 later.0 (dump_part volume, OfDump (dump_did.Failed (Attempt t))) (since_more (dump_part volume) (OfDump (dump_did.Failed (Attempt t))) between new later x.1))))
            y)
            how;
      }

  module _ {D : Type 0} (kind : disk.Ghosts D) (devices : ℕ → Option D) (moves_law : MovesKnownLaw) (once_law : OnceLaw) where
    -- a dump that had begun, for what stopped it behind that
    given_up_done : (refusal : DumpRefused) → HasGivenUpFor kind devices found volume t old new before after refusal → HasDoneDump kind devices found volume t (reach_at old before) (reach_at new after) (told_by volume (Err refusal))
    given_up_done (refused.Spent part) up = absurd up.stop
    given_up_done refused.Dumping up = absurd up.stop
    given_up_done (refused.Failed device) up = record {
      moves = start_move volume t up.number up.start ∷ [];
      known = start_known moves_law up.number up.start up.begun.given (start_seen up.number up.start up.between up.later up.begun);
      makes = (failed_then up.between device up.behind up.stop, inr (up.number, up.start, cut_so up.between up.number up.start device up.later up.begun up.stop, refl));
      apart = start_apart (told.Failed device) up.number up.start (λ named is. cc (is)) (start_seen up.number up.start up.between up.later up.begun) up.ended.raised;
    }
    given_up_done (refused.Damaged device damage) up = record {
      moves = start_move volume t up.number up.start ∷ [];
      known = start_known moves_law up.number up.start up.begun.given (start_seen up.number up.start up.between up.later up.begun);
      makes = (up.stop, (up.number, up.start, refl));
      apart = start_apart (told.Damaged device damage) up.number up.start (λ named is. cc (is)) (start_seen up.number up.start up.between up.later up.begun) up.ended.raised;
    }
    given_up_done refused.NoMemory up = record {
      moves = start_move volume t up.number up.start ∷ [];
      known = start_known moves_law up.number up.start up.begun.given (start_seen up.number up.start up.between up.later up.begun);
      makes = (up.number, up.start, refl);
      apart = start_apart told.Memory up.number up.start (λ named is. cc (is)) (start_seen up.number up.start up.between up.later up.begun) up.ended.raised;
    }

    -- one that had not
    before_done : (refusal : DumpRefused) → IsRefusedBefore kind opening found volume t old new before after refusal → HasDoneDump kind devices found volume t (reach_at old before) (reach_at new after) (told_by volume (Err refusal))
    before_done (refused.Spent part) is = record { moves = []; known = none_known moves_law is.1; makes = (spent_so kind part is.0, refl); apart = none_apart (told.Spent part) (λ named other. cc (other)) }
    before_done refused.Dumping is = record { moves = []; known = turn_known once_law is.1; makes = (refl, refl); apart = turn_apart is.1 }
    before_done (refused.Failed device) is = record { moves = []; known = none_known moves_law is.3; makes = (inr (inr (is.1, is.2)), inl refl); apart = none_apart (told.Failed device) (λ named other. cc (other)) }
    before_done (refused.Damaged device damage) is = absurd is
    before_done refused.NoMemory is = absurd is

    -- what the worker knows, and what is told
    pub dump_done : (answer : Result ℕ DumpRefused) → IfOk answer (λ start. HasDumpedFor kind opening found volume t start old new before after)
        → IfErr answer (IsDumpRefusal kind devices opening found volume t old new before after) → HasDoneDump kind devices found volume t (reach_at old before) (reach_at new after) (told_by volume answer)
    unfolding dumped_so
    dump_done (Ok start) is unasked = record {
      moves = start_move volume t is.number start ∷ [];
      known = start_known moves_law is.number start is.begun.given (start_seen is.number start new ([], append-nil new.seen) is.begun);
      makes = (refl, (dumped_so kind start is, refl));
      apart = start_apart (told.Dumped volume start) is.number start (λ named other. cc (other)) (start_seen is.number start new ([], append-nil new.seen) is.begun) is.ended.raised;
    }
    dump_done (Err refusal) unasked is = ⊎_elim
        (λ (early : IsRefusedBefore kind opening found volume t old new before after refusal). before_done refusal early)
        (λ (late : WasFit kind opening found volume old new × HasGivenUpFor kind devices found volume t old new before after refusal). given_up_done refusal late.1)
        is

    -- the answer has its cause
    pub dump_answered : (answer : Result ℕ DumpRefused) → IfOk answer (λ start. HasDumpedFor kind opening found volume t start old new before after)
        → IfErr answer (IsDumpRefusal kind devices opening found volume t old new before after) → IsDumpAnswered kind devices opening found volume t old new before after (told_by volume answer)
    dump_answered (Ok start) is unasked = record { answer = Ok start; told_is = refl; cause = is }
    dump_answered (Err refusal) unasked is = record { answer = Err refusal; told_is = refl; cause = is }

    before_given : (refusal : DumpRefused) → IsRefusedBefore kind opening found volume t old new before after refusal → HasGivenOneAtMost before after
    before_given (refused.Spent part) is = inr is.1
    before_given refused.Dumping is = inl is.1.given
    before_given (refused.Failed device) is = inr is.3
    before_given (refused.Damaged device damage) is = absurd is
    before_given refused.NoMemory is = absurd is

    pub dump_given : (answer : Result ℕ DumpRefused) → IfOk answer (λ start. HasDumpedFor kind opening found volume t start old new before after)
        → IfErr answer (IsDumpRefusal kind devices opening found volume t old new before after) → HasGivenOneAtMost before after
    dump_given (Ok start) is unasked = inl is.begun.given
    dump_given (Err refusal) unasked is = ⊎_elim
        (λ (early : IsRefusedBefore kind opening found volume t old new before after refusal). before_given refusal early)
        (λ (late : WasFit kind opening found volume old new × HasGivenUpFor kind devices found volume t old new before after refusal). inl late.1.begun.given)
        is

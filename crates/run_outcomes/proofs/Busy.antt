-- Whoever held what an attempt was turned away from is an attempt of another worker, and one of its steps may stand against the step that was turned away.
use Rattle.std.specs.Prelude.{◌≡◌, ◌≢◌, ℕ, suc, ◌-◌, ◌||◌, Bool, true, false, List, [], ◌∷◌, slice_get, Option, Some, None, if◌then◌else◌}
use Rattle.std.specs.List.{cons_option}
use Rattle.std.specs.Option.{option_map_or, option_or}
use Rattle.std.proofs.Common.{refl, sym, ap, subst, ◌∙◌, arith, ◌⊎◌, inl, inr, ⊎_elim}
use Rattle.chronicle.proofs.States.{history_front, history_rest}
use Rattle.chronicle.specs.Histories.{IsEnabled, IsHistory, states_after}
use Rattle.disk_model.specs.declared.disk.Disk as disk
use Rattle.node_machine.specs.Acts.{actor, acts_by}
use Rattle.run_outcomes.specs.Reach.{Reach}
use Rattle.node_machine.specs.Deeds.{EventsLaw, IsInOrder, IsOn, Log, is_lock, lock_step, step_of, turn_of, turns_of}
use Rattle.node_machine.specs.Disc.{MayTurn}
use Rattle.node_machine.specs.Holders.{HolderLaw, IsLiveBy, TakesFile, TakesKey}
use Rattle.node_machine.specs.Law.{Deed, deeds_of}
use Rattle.node_machine.specs.Law.Deed.{Changed, Saw, Locked}
use Rattle.node_machine.specs.Made.{file_holder, holder, key_holder}
use Rattle.node_machine.specs.Node.{IsAllowed, node}
use Rattle.node_machine.specs.Opening.{Found, disc_part, opening_parts}
use Rattle.node_machine.specs.Parts.{DiscPart, PartState}
use Rattle.node_machine.specs.Parts.PartState.{Worker as WorkerState, Disc, Trail as TrailState, Monitor as MonitorState, Dump as DumpState, Idle}
use Rattle.node_machine.specs.Same.{Among}
use Rattle.node_machine.specs.SameLaws.{among_left, case_true, same_is, same_self}
use Rattle.node_machine.specs.declared.event.Cause.{Cause}
use Rattle.node_machine.specs.declared.event.Cause.TheVariants as cause
use Rattle.node_machine.specs.declared.event.DiscEvent.{DiscEvent}
use Rattle.node_machine.specs.declared.event.DiscEvent.TheVariants.{Write, Read, Lock, Turn, Undo, Close, Release, Draw, Drawn, Low, Lowered, Start, Raise, Failed}
use Rattle.node_machine.specs.declared.event.Event.{Event}
use Rattle.node_machine.specs.declared.event.Event.TheVariants.{OfWorker, OfDisc, OfTrail, OfMonitor, OfDump}
use Rattle.tmf_model.specs.Commits.{numbered, script_transaction}
use Rattle.tmf_model.specs.declared.config.Config.{Config}
use Rattle.tmf_model.specs.declared.script.Phase.{Phase}
use Rattle.tmf_model.specs.declared.script.Step.{Step}
use Rattle.tmf_model.specs.declared.script.Transaction.{Transaction}
use Rattle.tmf_model.specs.declared.transid.Transid.{Transid}
use Rattle.trail_files.specs.MonitorOrder.{is_same_transid}
use Rattle.run_outcomes.proofs.Counted.{disc_within}
use Rattle.run_outcomes.proofs.Dumps.{dumping_told}
use Rattle.run_outcomes.proofs.Elements.{among_at, among_given, among_map, among_take, given_by}
use Rattle.run_outcomes.proofs.Telling.{acted, among_filter, among_split, begun, done, each_told}
use Rattle.run_outcomes.specs.Run.{account_of}
use Rattle.run_outcomes.specs.Telling.{AreWorkers, ToldLaw}
use Rattle.run_outcomes.specs.Told.{Account, IsHolder, IsOutcomeTold, IsTold, IsTurnedOn, MayClash, busy_cause, item_acts}
use Rattle.run_outcomes.specs.declared.outcome.Outcome.{Outcome}
use Rattle.run_outcomes.specs.declared.outcome.Told.{Told}
use Rattle.run_outcomes.specs.declared.outcome.Told.TheVariants.{Committed, Aborted, Busy, Full, Refused, Spent, Failed as FailedTold, Damaged, InDoubt, Hanging, Skipped, Memory, Controlled, Dumped, Dumping}

-- TURNS

if_turn : (t u : Transid) (c d : Cause) (b : Bool) → is_same_transid t u ≡ b → (if b then Some c else None) ≡ Some d → OfDisc (Turn u c) ≡ OfDisc (Turn t d)
if_turn t u c d true same is =
    let one : t ≡ u = same_is t u same in
    let two : c ≡ d = cc (is) in
    ap (λ (x : Transid). OfDisc (Turn x c)) (sym one) ∙ ap (λ (x : Cause). OfDisc (Turn t x)) two
if_turn t u c d false same is = absurd (cc (is))

turn_in : (t : Transid) (d : DiscEvent) (c : Cause) → turn_of t (OfDisc d) ≡ Some c → OfDisc d ≡ OfDisc (Turn t c)
turn_in t (Write r op) c is = absurd (cc (is))
turn_in t (Read u file key value) c is = absurd (cc (is))
turn_in t (Lock u file) c is = absurd (cc (is))
turn_in t (Turn u why) c is = if_turn t u why c (is_same_transid t u) refl is
turn_in t (Undo r) c is = absurd (cc (is))
turn_in t (Close u) c is = absurd (cc (is))
turn_in t (Release u) c is = absurd (cc (is))
turn_in t (Draw file block position) c is = absurd (cc (is))
turn_in t (Drawn file block) c is = absurd (cc (is))
turn_in t (Low position by) c is = absurd (cc (is))
turn_in t Lowered c is = absurd (cc (is))
turn_in t (Start number start item) c is = absurd (cc (is))
turn_in t (Raise number rest) c is = absurd (cc (is))
turn_in t (Failed by) c is = absurd (cc (is))

turn_is : (t : Transid) (e : Event) (c : Cause) → turn_of t e ≡ Some c → e ≡ OfDisc (Turn t c)
turn_is t (OfWorker e) c is = absurd (cc (is))
turn_is t (OfDisc d) c is = turn_in t d c is
turn_is t (OfTrail e) c is = absurd (cc (is))
turn_is t (OfMonitor e) c is = absurd (cc (is))
turn_is t (OfDump e) c is = absurd (cc (is))

-- a turn that is told stands in the history
pub turn_stands : (t : Transid) (log : Log) (c : Cause) → Among (turns_of t log) c → (part : ℕ) × Among log (part, OfDisc (Turn t c))
turn_stands t log c has =
    let given = given_by (λ (entry : ℕ × Event). turn_of t entry.1) log c has in
    let is = turn_is t given.0.1 c given.2 in
    (given.0.0, subst (λ (e : Event). Among log (given.0.0, e)) is given.1)

-- a turn that stands in the history is told
pub turn_told : (t : Transid) (log : Log) (part : ℕ) (c : Cause) → Among log (part, OfDisc (Turn t c)) → Among (turns_of t log) c
turn_told t log part c among =
    among_given (λ (entry : ℕ × Event). turn_of t entry.1) log (part, OfDisc (Turn t c)) c among (case_true (is_same_transid t t) (Some c) None (same_self t))

-- DEEDS

-- the deed of an event, where it is one of the attempt
abbrev deed_in : Transid → DiscEvent → Option Deed
deed_in t (Write r op) = if is_same_transid t r.tx then Some (Changed r op) else None
deed_in t (Read u file key value) = if is_same_transid t u then Some (Saw file key value) else None
deed_in t (Lock u file) = if is_same_transid t u then Some (Locked file) else None
deed_in t _ = None

if_deed : (b : Bool) (d : Deed) (deeds : List Deed) → cons_option (if b then Some d else None) deeds ≡ (if b then d ∷ deeds else deeds)
if_deed true d deeds = refl
if_deed false d deeds = refl

abbrev deed_of : Transid → Event → Option Deed
deed_of t (OfDisc d) = deed_in t d
deed_of t _ = None

deeds_more : (t : Transid) (x : ℕ × Event) (log : Log) → deeds_of t (x ∷ log) ≡ cons_option (deed_of t x.1) (deeds_of t log)
deeds_more t x log = by_event x.0 x.1 where
  by_event : (part : ℕ) (e : Event) → deeds_of t ((part, e) ∷ log) ≡ cons_option (deed_of t e) (deeds_of t log)
  by_event part (OfWorker e) = refl
  by_event part (OfDisc (Write r op)) = sym (if_deed (is_same_transid t r.tx) (Changed r op) (deeds_of t log))
  by_event part (OfDisc (Read u file key value)) = sym (if_deed (is_same_transid t u) (Saw file key value) (deeds_of t log))
  by_event part (OfDisc (Lock u file)) = sym (if_deed (is_same_transid t u) (Locked file) (deeds_of t log))
  by_event part (OfDisc (Turn u why)) = refl
  by_event part (OfDisc (Undo r)) = refl
  by_event part (OfDisc (Close u)) = refl
  by_event part (OfDisc (Release u)) = refl
  by_event part (OfDisc (Draw f block position)) = refl
  by_event part (OfDisc (Drawn f block)) = refl
  by_event part (OfDisc (Low position by)) = refl
  by_event part (OfDisc Lowered) = refl
  by_event part (OfDisc (Start number start item)) = refl
  by_event part (OfDisc (Raise number rest)) = refl
  by_event part (OfDisc (Failed by)) = refl
  by_event part (OfTrail e) = refl
  by_event part (OfMonitor e) = refl
  by_event part (OfDump e) = refl

-- a deed of the attempt that stands in the history is told
deed_told : (t : Transid) (log : Log) (part : ℕ) (e : Event) (d : Deed) → Among log (part, e) → deed_of t e ≡ Some d → Among (deeds_of t log) d
deed_told t [] part e d among is = among
deed_told t (x ∷ log) part e d among is = subst (λ (l : List Deed). Among l d) (sym (deeds_more t x log)) (⊎_elim
    (λ (same : x ≡ (part, e)). subst (λ (o : Option Deed). Among (cons_option o (deeds_of t log)) d) (sym (ap (λ (y : ℕ × Event). deed_of t y.1) same ∙ is)) (inl refl))
    (λ (later : Among log (part, e)). by_case (deed_of t x.1) (deed_told t log part e d later is))
    among)
  where
    by_case : (o : Option Deed) → Among (deeds_of t log) d → Among (cons_option o (deeds_of t log)) d
    by_case None has = has
    by_case (Some c) has = inr has

-- THE STEP BY WHICH A KEY OR A FILE WAS TAKEN

-- one of the steps is on the key, or locks the file
pub record HasStepOn (steps : List Step) (file : ℕ) (key : List ℕ) : Type 0 where
  pub step : Step
  pub has : Among steps step
  pub file_is : step.file ≡ file
  pub is_on : (step.key ≡ key) ⊎ (is_lock step.op ≡ true)

-- a step that was carried out is one of the attempt's
done_step : (log : Log) (t : Transid) (steps : List Step) (d : Deed) → IsInOrder log t steps → Among (deeds_of t log) d → Among steps (step_of d)
done_step log t steps d order has = among_take order.count steps (step_of d) (subst (λ (l : List Step). Among l (step_of d)) order.done (among_map step_of (deeds_of t log) d has))

-- so is one that was turned away
turned_step : (log : Log) (t : Transid) (steps : List Step) (c : Cause) → IsInOrder log t steps → Among (turns_of t log) c → (step : Step) × Among steps step × IsOn step c
turned_step log t steps c order has = ⊎_elim
    (λ (none : turns_of t log ≡ []). absurd (subst (λ (l : List Cause). Among l c) none has))
    (λ (one : (step : Step) × (why : Cause) × (turns_of t log ≡ why ∷ []) × (numbered steps (suc order.count) ≡ Some step) × IsOn step why).
    let same : one.1 ≡ c = ⊎_elim (λ (e : one.1 ≡ c). e) (λ none. absurd none) (subst (λ (l : List Cause). Among l c) one.2 has) in
    (one.0, among_at steps order.count one.0 one.3, subst (λ (x : Cause). IsOn one.0 x) same one.4))
    order.turn

-- an event by which the attempt took a key is of a step on it
took_key : (log : Log) (t : Transid) (steps : List Step) (file : ℕ) (key : List ℕ) (part : ℕ) (d : DiscEvent) → IsInOrder log t steps → TakesKey t file key d → Among log (part, OfDisc d)
    → HasStepOn steps file key
took_key log t steps file key part (Write r op) order takes among =
    let deed = deed_told t log part (OfDisc (Write r op)) (Changed r op) among (case_true (is_same_transid t r.tx) (Some (Changed r op)) None (ap (is_same_transid t) takes.0 ∙ same_self t)) in
    record { step = step_of (Changed r op); has = done_step log t steps (Changed r op) order deed; file_is = takes.1; is_on = inl takes.2 }
took_key log t steps file key part (Read u f k value) order takes among =
    let deed = deed_told t log part (OfDisc (Read u f k value)) (Saw f k value) among (case_true (is_same_transid t u) (Some (Saw f k value)) None (ap (is_same_transid t) takes.0 ∙ same_self t)) in
    record { step = step_of (Saw f k value); has = done_step log t steps (Saw f k value) order deed; file_is = takes.1; is_on = inl takes.2 }
took_key log t steps file key part (Lock u f) order takes among = absurd takes
took_key log t steps file key part (Turn u (cause.Busy step h)) order takes among = absurd takes
took_key log t steps file key part (Turn u (cause.BusyFile f h)) order takes among = absurd takes
took_key log t steps file key part (Turn u (cause.Full step)) order takes among =
    let turned = turned_step log t steps (cause.Full step) order (turn_told t log part (cause.Full step) (subst (λ (x : Transid). Among log (part, OfDisc (Turn x (cause.Full step)))) takes.0 among)) in
    record { step = turned.0; has = turned.1; file_is = ap (λ (s : Step). s.file) (sym turned.2) ∙ takes.1; is_on = inl (ap (λ (s : Step). s.key) (sym turned.2) ∙ takes.2) }
took_key log t steps file key part (Turn u (cause.Refused step reason)) order takes among =
    let turned = turned_step log t steps (cause.Refused step reason) order (turn_told t log part (cause.Refused step reason) (subst (λ (x : Transid). Among log (part, OfDisc (Turn x (cause.Refused step reason)))) takes.0 among)) in
    record { step = turned.0; has = turned.1; file_is = ap (λ (s : Step). s.file) (sym turned.2) ∙ takes.1; is_on = inl (ap (λ (s : Step). s.key) (sym turned.2) ∙ takes.2) }
took_key log t steps file key part (Turn u cause.Dumping) order takes among = absurd takes
took_key log t steps file key part (Undo r) order takes among = absurd takes
took_key log t steps file key part (Close u) order takes among = absurd takes
took_key log t steps file key part (Release u) order takes among = absurd takes
took_key log t steps file key part (Draw f block position) order takes among = absurd takes
took_key log t steps file key part (Drawn f block) order takes among = absurd takes
took_key log t steps file key part (Low position by) order takes among = absurd takes
took_key log t steps file key part Lowered order takes among = absurd takes
took_key log t steps file key part (Start number start item) order takes among = absurd takes
took_key log t steps file key part (Raise number rest) order takes among = absurd takes
took_key log t steps file key part (Failed by) order takes among = absurd takes

-- one by which it locked a file is of a step that does so
took_file : (log : Log) (t : Transid) (steps : List Step) (file : ℕ) (key : List ℕ) (part : ℕ) (d : DiscEvent) → IsInOrder log t steps → TakesFile t file d → Among log (part, OfDisc d)
    → HasStepOn steps file key
took_file log t steps file key part (Write r op) order takes among = absurd takes
took_file log t steps file key part (Read u f k value) order takes among = absurd takes
took_file log t steps file key part (Lock u f) order takes among =
    let deed = deed_told t log part (OfDisc (Lock u f)) (Locked f) among (case_true (is_same_transid t u) (Some (Locked f)) None (ap (is_same_transid t) takes.0 ∙ same_self t)) in
    record { step = lock_step f; has = done_step log t steps (Locked f) order deed; file_is = takes.1; is_on = inr refl }
took_file log t steps file key part (Turn u why) order takes among = absurd takes
took_file log t steps file key part (Undo r) order takes among = absurd takes
took_file log t steps file key part (Close u) order takes among = absurd takes
took_file log t steps file key part (Release u) order takes among = absurd takes
took_file log t steps file key part (Draw f block position) order takes among = absurd takes
took_file log t steps file key part (Drawn f block) order takes among = absurd takes
took_file log t steps file key part (Low position by) order takes among = absurd takes
took_file log t steps file key part Lowered order takes among = absurd takes
took_file log t steps file key part (Start number start item) order takes among = absurd takes
took_file log t steps file key part (Raise number rest) order takes among = absurd takes
took_file log t steps file key part (Failed by) order takes among = absurd takes

-- an event by which the transaction holds the file or the key
abbrev Takes : Transid → ℕ → List ℕ → DiscEvent → Type 0
Takes h file key d = TakesFile h file d ⊎ TakesKey h file key d

took_by : (log : Log) (t : Transid) (steps : List Step) (file : ℕ) (key : List ℕ) (part : ℕ) (d : DiscEvent) → IsInOrder log t steps → Takes t file key d → Among log (part, OfDisc d) → HasStepOn steps file key
took_by log t steps file key part d order takes among = ⊎_elim
    (λ (of_file : TakesFile t file d). took_file log t steps file key part d order of_file among)
    (λ (of_key : TakesKey t file key d). took_key log t steps file key part d order of_key among)
    takes

-- THE HOLDER

disc_turn : (s : PartState) (t : Transid) (c : Cause) → IsAllowed s (OfDisc (Turn t c)) → (d : DiscPart) × (s ≡ Disc d) × MayTurn d t c
disc_turn (WorkerState s) t c may = absurd may
disc_turn (Disc d) t c may = (d, refl, may)
disc_turn (TrailState s) t c may = absurd may
disc_turn (MonitorState s) t c may = absurd may
disc_turn (DumpState s) t c may = absurd may
disc_turn Idle t c may = absurd may

-- Another transaction stands against this step: it holds the key, or a key of the file that is to be locked.
abbrev StandsAgainst : DiscPart → Step → Transid → Type 0
StandsAgainst s step h = (key : List ℕ) × ((holder s.events step.file key ≡ Some h) ⊎ (file_holder s.events step.file ≡ Some h)) × ((key ≡ step.key) ⊎ (is_lock step.op ≡ true))

-- whoever is named in a turn stands against the step
against : (s : DiscPart) (t : Transid) (step : Step) (h : Transid) (b : Bool) → is_lock step.op ≡ b → MayTurn s t (if b then cause.BusyFile step.file h else cause.Busy step h) → StandsAgainst s step h
against s t step h true locks may = ⊎_elim
    (λ (file : file_holder s.events step.file ≡ Some h). (step.key, inr file, inr locks))
    (λ (one : (key : List ℕ) × (holder s.events step.file key ≡ Some h)). (one.0, inl one.1, inr locks))
    may.2
against s t step h false locks may = (step.key, inl may.2, inl refl)

held_by : (file_by key_by : Option Transid) (h : Transid) → option_or file_by key_by ≡ Some h → (file_by ≡ Some h) ⊎ (key_by ≡ Some h)
held_by None key_by h is = inr is
held_by (Some u) key_by h is = inl is

-- an event of the history by which the transaction took what it holds against the step
pub record Took (log : Log) (step : Step) (h : Transid) : Type 0 where
  pub part : ℕ
  pub event : DiscEvent
  pub key : List ℕ
  pub takes : Takes h step.file key event
  pub happened : Among log (part, OfDisc event)
  pub against : (key ≡ step.key) ⊎ (is_lock step.op ≡ true)

-- What is known of holders at a moment of the history, and whoever stands against the step then.
took_then : (states : List PartState) (front log : Log) (s : DiscPart) (step : Step) (h : Transid)
    → ((file : ℕ) (key : List ℕ) → key_holder s.events file key ≡ Some h → IsLiveBy states front s h (TakesKey h file key))
    → ((file : ℕ) → file_holder s.events file ≡ Some h → IsLiveBy states front s h (TakesFile h file))
    → ((x : ℕ × Event) → Among front x → Among log x) → StandsAgainst s step h → Took log step h
took_then states front log s step h keys files on why =
    ⊎_elim
    (λ (held : holder s.events step.file why.0 ≡ Some h). ⊎_elim of_file of_key (held_by (file_holder s.events step.file) (key_holder s.events step.file why.0) h held))
    of_file
    why.1
  where
    of_file : file_holder s.events step.file ≡ Some h → Took log step h
    of_file file =
        let live = files step.file file in
        record { part = disc_part s.number; event = live.event; key = why.0; takes = inl live.is_its; happened = on (disc_part s.number, OfDisc live.event) live.happened; against = why.2 }

    of_key : key_holder s.events step.file why.0 ≡ Some h → Took log step h
    of_key key =
        let live = keys step.file why.0 key in
        record { part = disc_part s.number; event = live.event; key = why.0; takes = inr live.is_its; happened = on (disc_part s.number, OfDisc live.event) live.happened; against = why.2 }

-- who is named in a turn had taken what it holds by an event of its own
holder_took : HolderLaw → (found : Found) (log : Log) (part : ℕ) (t : Transid) (step : Step) (h : Transid) → IsHistory node (opening_parts found) log
    → Among log (part, OfDisc (Turn t (busy_cause h step))) → Took log step h
holder_took law found log part t step h history among =
    let cut = among_split log (part, OfDisc (Turn t (busy_cause h step))) among in
    let whole = subst (λ (l : Log). IsHistory node (opening_parts found) l) cut.2 history in
    let rest = history_rest node (opening_parts found) cut.0 ((part, OfDisc (Turn t (busy_cause h step))) ∷ cut.1) whole in
    let enabled : IsEnabled node (states_after node (opening_parts found) cut.0) (part, OfDisc (Turn t (busy_cause h step))) = rest.0 in
    let by = disc_turn enabled.0 t (busy_cause h step) enabled.2 in
    let at : slice_get (states_after node (opening_parts found) cut.0) part ≡ Some (Disc by.0) = enabled.1 ∙ ap (λ (s : PartState). Some s) by.1 in
    let within = disc_within found cut.0 part by.0 at in
    let number : disc_part (part - 15) ≡ part = omega (arith, within.0) in
    let here : slice_get (states_after node (opening_parts found) cut.0) (disc_part (part - 15)) ≡ Some (Disc by.0) =
    subst (λ (p : ℕ). slice_get (states_after node (opening_parts found) cut.0) p ≡ Some (Disc by.0)) (sym number) at in
    let holds = law found cut.0 (part - 15) by.0 h (history_front node (opening_parts found) cut.0 ((part, OfDisc (Turn t (busy_cause h step))) ∷ cut.1) whole) here in
    let on : (x : ℕ × Event) → Among cut.0 x → Among log x = λ x has. subst (λ (l : Log). Among l x) (sym cut.2) (among_left cut.0 ((part, OfDisc (Turn t (busy_cause h step))) ∷ cut.1) x has) in
    took_then (states_after node (opening_parts found) cut.0) cut.0 log by.0 step h holds.0 holds.1 on (against by.0 t step h (is_lock step.op) refl by.2)

-- such an event is an act of it
takes_acts : (h : Transid) (file : ℕ) (key : List ℕ) (d : DiscEvent) → Takes h file key d → actor (OfDisc d) ≡ Some h
takes_acts h file key (Write r op) takes = ⊎_elim (λ none. absurd none) (λ (k : (r.tx ≡ h) × (r.file ≡ file) × (r.key ≡ key)). ap (λ (u : Transid). Some u) k.0) takes
takes_acts h file key (Read u f k value) takes = ⊎_elim (λ none. absurd none) (λ (q : (u ≡ h) × (f ≡ file) × (k ≡ key)). ap (λ (x : Transid). Some x) q.0) takes
takes_acts h file key (Lock u f) takes = ⊎_elim (λ (k : (u ≡ h) × (f ≡ file)). ap (λ (x : Transid). Some x) k.0) (λ none. absurd none) takes
takes_acts h file key (Turn u (cause.Busy step holder)) takes = ⊎_elim (λ none. absurd none) (λ none. absurd none) takes
takes_acts h file key (Turn u (cause.BusyFile f holder)) takes = ⊎_elim (λ none. absurd none) (λ none. absurd none) takes
takes_acts h file key (Turn u (cause.Full step)) takes = ⊎_elim (λ none. absurd none) (λ (k : (u ≡ h) × (step.file ≡ file) × (step.key ≡ key)). ap (λ (x : Transid). Some x) k.0) takes
takes_acts h file key (Turn u (cause.Refused step reason)) takes = ⊎_elim (λ none. absurd none) (λ (k : (u ≡ h) × (step.file ≡ file) × (step.key ≡ key)). ap (λ (x : Transid). Some x) k.0) takes
takes_acts h file key (Turn u cause.Dumping) takes = ⊎_elim (λ none. absurd none) (λ none. absurd none) takes
takes_acts h file key (Undo r) takes = ⊎_elim (λ none. absurd none) (λ none. absurd none) takes
takes_acts h file key (Close u) takes = ⊎_elim (λ none. absurd none) (λ none. absurd none) takes
takes_acts h file key (Release u) takes = ⊎_elim (λ none. absurd none) (λ none. absurd none) takes
takes_acts h file key (Draw f block position) takes = ⊎_elim (λ none. absurd none) (λ none. absurd none) takes
takes_acts h file key (Drawn f block) takes = ⊎_elim (λ none. absurd none) (λ none. absurd none) takes
takes_acts h file key (Low position by) takes = ⊎_elim (λ none. absurd none) (λ none. absurd none) takes
takes_acts h file key Lowered takes = ⊎_elim (λ none. absurd none) (λ none. absurd none) takes
takes_acts h file key (Start number start item) takes = ⊎_elim (λ none. absurd none) (λ none. absurd none) takes
takes_acts h file key (Raise number rest) takes = ⊎_elim (λ none. absurd none) (λ none. absurd none) takes
takes_acts h file key (Failed by) takes = ⊎_elim (λ none. absurd none) (λ none. absurd none) takes

item_turn : (volume : ℕ) (t : Transid) (told : Told) (x : ℕ × Event) → Among (item_acts volume t told) x → x.1 ≡ OfDisc (Turn t cause.Dumping)
item_turn volume t (Committed place reads) x among = absurd among
item_turn volume t Aborted x among = absurd among
item_turn volume t (Busy file key holder) x among = absurd among
item_turn volume t (Full file key) x among = absurd among
item_turn volume t (Refused op reason) x among = absurd among
item_turn volume t (Spent part) x among = absurd among
item_turn volume t (FailedTold device) x among = absurd among
item_turn volume t (Damaged device damage) x among = absurd among
item_turn volume t (InDoubt device) x among = absurd among
item_turn volume t (Hanging why) x among = absurd among
item_turn volume t Skipped x among = absurd among
item_turn volume t Memory x among = absurd among
item_turn volume t (Controlled named low) x among = absurd among
item_turn volume t (Dumped named start) x among = absurd among
item_turn volume t (Dumping named) x among = ⊎_elim (λ (same : (disc_part volume, OfDisc (Turn t cause.Dumping)) ≡ x). ap (λ (y : ℕ × Event). y.1) (sym same)) (λ none. absurd none) among

-- whoever took it is an attempt, and no other item
attempt_of : (a : Account) (outcome : Outcome) (file : ℕ) (key : List ℕ) (part : ℕ) (d : DiscEvent) → IsTold a outcome → Takes outcome.tx file key d → Among a.log (part, OfDisc d)
    → (transaction : Transaction) × (script_transaction a.phase a.epoch outcome.tx ≡ Some transaction)
attempt_of a outcome file key part d told takes among = elim told [
  | inl of_attempt ↦ (of_attempt.0, of_attempt.1)
  | inr of_item ↦ elim of_item [
    | inl of_control ↦ absurd (subst (λ (l : Log). Among l (part, OfDisc d)) of_control.3 own)
    | inr of_dump ↦ absurd (no_turn (item_turn of_dump.0 outcome.tx outcome.told (part, OfDisc d) (subst (λ (l : Log). Among l (part, OfDisc d)) of_dump.3 own)))
  ]
]
  where
    own : Among (acts_by outcome.tx a.log) (part, OfDisc d)
    own = among_filter (λ (entry : ℕ × Event). option_map_or (is_same_transid outcome.tx) (actor entry.1) false) a.log (part, OfDisc d) among
        (ap (λ (o : Option Transid). option_map_or (is_same_transid outcome.tx) o false) (takes_acts outcome.tx file key d takes) ∙ same_self outcome.tx)

    no_turn : OfDisc d ≡ OfDisc (Turn outcome.tx cause.Dumping) → ⊥
    no_turn e = (let same : d ≡ Turn outcome.tx cause.Dumping = cc (e) in ⊎_elim (λ none. absurd none) (λ none. absurd none) (subst (λ (x : DiscEvent). Takes outcome.tx file key x) same takes))

-- an attempt that tells that it was turned away for a holder
other_worker : (a : Account) (t : Transid) (file : ℕ) (key : List ℕ) (h : Transid) → IsTold a (record { tx = t; told = Busy file key h }) → h.worker ≢ t.worker
other_worker a t file key h told = elim told [
  | inl of_attempt ↦ of_attempt.2.1
  | inr of_item ↦ elim of_item [
    | inl of_control ↦ absurd (of_control.2)
    | inr of_dump ↦ absurd (of_dump.2)
  ]
]

-- where the holder's step is on the key that it holds, it may stand against the step that was turned away
clash_of : (one other : Step) (key : List ℕ) → other.file ≡ one.file → (other.key ≡ key) ⊎ (is_lock other.op ≡ true) → (key ≡ one.key) ⊎ (is_lock one.op ≡ true) → MayClash one other
clash_of one other key file is_on against = record {
  file = file;
  keys = ⊎_elim
      (λ (same : key ≡ one.key). ⊎_elim
      (λ (there : other.key ≡ key). inl (there ∙ same))
      (λ (locks : is_lock other.op ≡ true). inr (right_or (is_lock one.op) (is_lock other.op) locks))
      is_on)
      (λ (locks : is_lock one.op ≡ true). inr (ap (λ (b : Bool). b || is_lock other.op) locks))
      against;
}
  where
    right_or : (a b : Bool) → b ≡ true → (a || b) ≡ true
    right_or true b e = refl
    right_or false b e = e

-- the attempt of an outcome that took what stands against the step of another worker's attempt
holder_is : (a : Account) (t : Transid) (one : Step) (outcome : Outcome) → IsOutcomeTold a outcome → Took a.log one outcome.tx → outcome.tx.worker ≢ t.worker → IsHolder a.phase a.epoch t outcome.tx one
holder_is a t one outcome its took apart =
    let script = attempt_of a outcome one.file took.key took.part took.event its.told took.takes took.happened in
    let order = (its.in_order script.0 script.1).0 in
    let step = took_by a.log outcome.tx script.0.steps one.file took.key took.part took.event order took.takes took.happened in
    record {
      other = apart;
      transaction = script.0;
      is_attempt = script.1;
      step = step.step;
      has_step = step.has;
      clash = clash_of one step.step took.key step.file_is step.is_on took.against;
    }

-- the turn that an outcome tells stands in the history
turned_at : (log : Log) (t : Transid) (steps : List Step) (file : ℕ) (key : List ℕ) (why : Step → Cause) (on : IsTurnedOn log t steps file key why) → (part : ℕ) × Among log (part, OfDisc (Turn t (why on.step)))
turned_at log t steps file key why on = turn_stands t log (why on.step) (subst (λ (l : List Cause). Among l (why on.step)) (sym on.turned.turn) (inl refl))

module _ (law : HolderLaw) {D : Type 0} (kind : disk.Ghosts D) (config : Config) (phase : Phase) (epoch : ℕ) (handed_in : ℕ → Option D) (found : Found) (log : Log) (reach : ℕ → Reach) (acts moves : ℕ → Log)
    (of : ℕ → List Outcome) (outcomes : List Outcome) (all : AreWorkers (account_of kind config phase epoch handed_in found) found log reach acts moves of outcomes) where
  abbrev a : Log → Account
  a = account_of kind config phase epoch handed_in found

  -- whoever took what stands against the step is one of the outcomes' attempts
  taken_by : (t : Transid) (one : Step) (h : Transid) → h.worker ≢ t.worker → Took log one h → IsHolder phase epoch t h one
  taken_by t one h apart took =
      let other = acted a found log reach acts moves of outcomes all took.part (OfDisc took.event) h took.happened (takes_acts h one.file took.key took.event took.takes) in
      subst (λ (u : Transid). IsHolder phase epoch t u one) other.2
      (holder_is (a log) t one other.0 (each_told a found log reach acts moves of outcomes all other.0 other.1) (subst (λ (u : Transid). Took log one u) (sym other.2) took)
      (subst (λ (u : Transid). u.worker ≢ t.worker) (sym other.2) apart))

  busy_told : (outcome : Outcome) (transaction : Transaction) (file : ℕ) (key : List ℕ) (h : Transid) → Among outcomes outcome → outcome.told ≡ Busy file key h
      → script_transaction phase epoch outcome.tx ≡ Some transaction → (on : IsTurnedOn log outcome.tx transaction.steps file key (busy_cause h)) → IsHolder phase epoch outcome.tx h on.step
  busy_told outcome transaction file key h among told_is script on =
      let is = (each_told a found log reach acts moves of outcomes all outcome among).told in
      let apart = other_worker (a log) outcome.tx file key h (subst (λ (x : Told). IsTold (a log) (record { tx = outcome.tx; told = x })) told_is is) in
      let stands = turned_at log outcome.tx transaction.steps file key (busy_cause h) on in
      taken_by outcome.tx on.step h apart (holder_took law found log stands.0 outcome.tx on.step h all.history stands.1)

pub told_law : EventsLaw → HolderLaw → {D : Type 0} (kind : disk.Ghosts D) → ToldLaw kind
told_law events law kind = λ config phase epoch handed_in found log reach acts moves of outcomes all. record {
  each = each_told (account_of kind config phase epoch handed_in found) found log reach acts moves of outcomes all;
  begun = begun (account_of kind config phase epoch handed_in found) found log reach acts moves of outcomes all;
  done = done (account_of kind config phase epoch handed_in found) found log reach acts moves of outcomes all;
  busy = busy_told law kind config phase epoch handed_in found log reach acts moves of outcomes all;
  dumping = dumping_told events (account_of kind config phase epoch handed_in found) found log reach acts moves of outcomes all;
}

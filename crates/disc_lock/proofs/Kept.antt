-- What a disc has seen stays in time behind each of its calls, its share has as many tokens as it has had acts and moves, and it is told whether a move of its low position lacks its end.
use Rattle.std.specs.Prelude.{◌≡◌, ◌⊎◌, ◌==◌, ◌&&◌, ◌+◌, ◌-◌, ◌^◌, ◌<◌, ◌≤◌, ℕ, Bool, true, false, not, cond, if◌then◌else◌, is_some, is_ok, min, List, [], ◌∷◌, ◌++◌, length, map, reverse, Option, Some, None, Result, Ok, Err, OnOk, OnErr, IfErr, IfSome, IfNone, MatchOption, MatchResult, ⊤}
use Rattle.std.specs.List.{filter, list_all}
use Rattle.std.specs.declared.sync.ledger.Share.{Share}
use Rattle.std.proofs.Common.{refl, ap, sym, ◌∙◌, subst, inl, inr, ⊎_elim, eq-eqb, append-nil, append_assoc, arith}
use Rattle.std.proofs.lemmas.Bool.{and_parts}
use Rattle.std.proofs.lemmas.List.{append_cancel_left, length-append, map-append}
use Rattle.std.proofs.lemmas.List.Elements.{filter-append}
use mathlib.Core.List.{IsPrefix, reverse-cons}
use Rattle.chronicle.specs.Histories.{events_of}
use Rattle.chronicle.specs.Seats.{Sight, HasGrown, own_events}
use Rattle.chronicle.proofs.Facts.{own_events_of}
use Rattle.disk_model.specs.declared.disk.Disk as disk
use Rattle.keyed_file.specs.Block.{value_at}
use Rattle.tmf_model.specs.declared.script.Step.{Step}
use Rattle.tmf_model.specs.declared.transid.Transid.{Transid}
use Rattle.node_machine.specs.Acts.{act_count, actor}
use Rattle.node_machine.specs.Moves.{move_count, mover, token_count}
use Rattle.node_machine.specs.Deeds.{is_lock}
use Rattle.node_machine.specs.declared.event.By.{By}
use Rattle.node_machine.specs.declared.event.By.TheVariants.{Attempt}
use Rattle.node_machine.specs.declared.event.Cause.TheVariants as cause
use Rattle.node_machine.specs.declared.event.DiscEvent.{DiscEvent}
use Rattle.node_machine.specs.declared.event.DiscEvent.TheVariants as did
use Rattle.node_machine.specs.declared.event.Event.{Event}
use Rattle.node_machine.specs.declared.event.Event.TheVariants.{OfDisc, OfWorker}
use Rattle.node_machine.specs.Made.{has_closed, lowering, under_way}
use Rattle.node_machine.specs.Opening.{Found, worker_part}
use Rattle.node_machine.specs.Parts.{DiscPart, PartState}
use Rattle.node_machine.specs.Same.{Among}
use Rattle.node_machine.specs.SameLaws.{among_append, among_right}
use Rattle.audit_writer.specs.declared.lock.FlushRefused.{FlushRefused}
use Rattle.audit_writer.specs.declared.lock.FlushRefused.TheVariants as stopped
use Rattle.block_cache.specs.Cache.{entry_at}
use Rattle.block_cache.specs.declared.frame.Frame.{Frame}
use Rattle.txn_states.specs.Txn.{Txn}
use Rattle.disc_process.specs.declared.found.Found.{Found as FoundStep}
use Rattle.disc_process.specs.declared.found.Found.TheVariants as come
use Rattle.disc_process.specs.declared.refused.WriteRefused.{WriteRefused}
use Rattle.disc_process.specs.declared.refused.WriteRefused.TheVariants as refused
use Rattle.disc_process.specs.declared.undo_refused.UndoRefused.{UndoRefused}
use Rattle.disc_process.specs.declared.undo_refused.UndoRefused.TheVariants as stuck
use Rattle.disc_process.specs.Blocks.{dirty_in, half_in, position_in}
use Rattle.disc_process.specs.CloseLanded.{HasClosed, IsIdleDisc}
use Rattle.disc_process.specs.Coming.{is_live}
use Rattle.disc_process.specs.Disc.{DiscView, closings, event_of}
use Rattle.disc_process.specs.Draw.{HasDrawn, HasDrawnBlock, IsDrawRefusal, SameWork, drawings, endings, is_draw}
use Rattle.disc_process.specs.Dumping.{HasStarted, IsDumping, is_way, raisings}
use Rattle.disc_process.specs.InTime.{AreInTime, IsInTime, IsUnended, stepped}
use Rattle.disc_process.specs.Later.{IsLaterDisc, IsLawful}
use Rattle.disc_process.specs.Low.{HasLowFailed, HasLowered, IsBegun, IsLowRefusal, lacking}
use Rattle.disc_process.specs.Release.{HasFreed, releasings}
use Rattle.disc_process.specs.Undo.{HasUndoneSome, IsNotUndone, IsReleaseAnswer, IsUndoAnswer, is_undoing, undo_of}
use Rattle.disc_process.specs.Write.{HasCarriedOut, IsAnswered, IsKeyAnswered, IsLockAnswered, IsUnread}
use Rattle.disc_lock.specs.Numbered.{IsDiscOf}
use Rattle.disc_lock.specs.Moving.{has_begun, lacks_behind, lacks_end, still_lacks}
use Rattle.disc_lock.specs.Tokens.{HasGiven, HasGivenFor, IsCounted, is_told}

-- LISTS

-- an event of a part is among the entries only where it is one of the part's
has_event : (part : ℕ) (e : Event) (log : List (ℕ × Event)) → Among log (part, e) → Among (events_of part log) e
has_event part e [] there = absurd there
has_event part e (x ∷ log) there = ⊎_elim
    (λ (same : x ≡ (part, e)). subst (λ (y : ℕ × Event). Among (events_of part (y ∷ log)) e) (sym same) (subst (λ b. Among (cond b (e ∷ events_of part log) (events_of part log)) e) (sym (eq-eqb part part refl)) (inl refl)))
    (λ later. kept (x.0 == part) x.1 (has_event part e log later)) there
  where
    kept : (b : Bool) (y : Event) → Among (events_of part log) e → Among (cond b (y ∷ events_of part log) (events_of part log)) e
    kept true y among = inr among
    kept false y among = among

events-append : (part : ℕ) (xs ys : List (ℕ × Event)) → events_of part (xs ++ ys) ≡ events_of part xs ++ events_of part ys
events-append part [] ys = refl
events-append part (x ∷ xs) ys = by_case (x.0 == part) (events-append part xs ys) where
  by_case : (b : Bool) → events_of part (xs ++ ys) ≡ events_of part xs ++ events_of part ys
      → cond b (x.1 ∷ events_of part (xs ++ ys)) (events_of part (xs ++ ys)) ≡ cond b (x.1 ∷ events_of part xs) (events_of part xs) ++ events_of part ys
  by_case true e = ap (λ (l : List Event). x.1 ∷ l) e
  by_case false e = e

module _ {A : Type 0} where
  -- what stands behind x in two lists stands behind it in the first, or is in the second
  pub behind : (xs ys front rest : List A) (x y : A) → xs ++ ys ≡ front ++ x ∷ rest → Among rest y → ((r : List A) × (xs ≡ front ++ x ∷ r) × Among r y) ⊎ Among ys y
  behind [] ys front rest x y same there = inr (subst (λ (l : List A). Among l y) (sym same) (among_right front (x ∷ rest) y (inr there)))
  behind (z ∷ xs) ys [] rest x y same there =
      let head : z ≡ x = cc (same) in
      let tail : rest ≡ xs ++ ys = cc (same) in
      ⊎_elim
      (λ (l : Among xs y). inl (xs, ap (λ (w : A). w ∷ xs) head, l))
      (λ (r : Among ys y). inr r)
      (among_append xs ys y (subst (λ (l : List A). Among l y) tail there))
  behind (z ∷ xs) ys (w ∷ front) rest x y same there =
      let head : z ≡ w = cc (same) in
      let tail : xs ++ ys ≡ front ++ x ∷ rest = cc (same) in
      ⊎_elim
      (λ (l : (r : List A) × (xs ≡ front ++ x ∷ r) × Among r y). (let both : z ∷ xs ≡ w ∷ (front ++ x ∷ l.0) = λ j. head j ∷ l.1 j in inl (l.0, both, l.2)))
      (λ (r : Among ys y). inr r)
      (behind xs ys front rest x y tail there)

-- What a seat has seen grew: it stays in time, where each new step of its part is of an attempt whose worker has not ended its steps.
in_time_then : (v w : Sight Event) (more : List Event) → w.part ≡ v.part → IsPrefix v.seen w.seen → own_events w ≡ own_events v ++ more
    → ((t : Transid) (e : Event) → Among more e → stepped e ≡ Some t → IsUnended t w.seen) → IsInTime v → IsInTime w
in_time_then v w more place begins events news was = record { steps = λ part at t end e front rest ends same there is. late part at t end e front rest ends same there is }
  where
    late : (part : ℕ) → w.part ≡ Some part → AreInTime part w.seen
    late part at t end e front rest ends same there is =
        let at_v : v.part ≡ Some part = sym place ∙ at in
        let x : ℕ × Event = (worker_part t.worker, OfWorker end) in
        ⊎_elim
        (λ (l : (r : List (ℕ × Event)) × (v.seen ≡ front ++ x ∷ r) × Among r (part, e)). was.steps part at_v t end e front l.0 ends l.1 l.2 is)
        (λ (r : Among begins.0 (part, e)).
        let whole : events_of part v.seen ++ events_of part begins.0 ≡ events_of part v.seen ++ more =
        sym (events-append part v.seen begins.0) ∙ ap (events_of part) begins.1 ∙ sym (own_events_of w part at) ∙ events ∙ ap (λ (l : List Event). l ++ more) (own_events_of v part at_v) in
        let new : events_of part begins.0 ≡ more = append_cancel_left (events_of part v.seen) (events_of part begins.0) more whole in
        let unended = news t e (subst (λ (l : List Event). Among l e) new (has_event part e begins.0 r)) is in
        unended.none end ends (subst (λ (l : List (ℕ × Event)). Among l x) (sym same) (among_right front (x ∷ rest) x (inl refl))))
        (behind v.seen begins.0 front rest x (part, e) (begins.1 ∙ same) there)

-- PLAIN EVENTS

-- whether the event neither begins nor ends a move of the low position
abbrev pub is_unlow : Event → Bool
is_unlow (OfDisc (did.Low position by)) = false
is_unlow (OfDisc did.Lowered) = false
is_unlow _ = true

-- whether it is no act and no move either
abbrev pub is_plain : Event → Bool
is_plain e = not (is_some (actor e)) && (not (is_some (mover e)) && is_unlow e)

abbrev pub ArePlain : List Event → Type 0
ArePlain events = list_all is_plain events ≡ true

pub plain_parts : (e : Event) → is_plain e ≡ true → (not (is_some (actor e)) ≡ true) × (not (is_some (mover e)) ≡ true) × (is_unlow e ≡ true)
plain_parts e plain =
    let first = and_parts (not (is_some (actor e))) (not (is_some (mover e)) && is_unlow e) plain in
    let second = and_parts (not (is_some (mover e))) (is_unlow e) first.1 in
    (first.0, second.0, second.1)

-- what carries out a step, or turns one away, is an act
plain_steps : (e : Event) (t : Transid) → is_plain e ≡ true → stepped e ≡ Some t → ⊥
plain_steps (OfDisc (did.Write r op)) t none is = absurd (cc (none))
plain_steps (OfDisc (did.Read u file key value)) t none is = absurd (cc (none))
plain_steps (OfDisc (did.Lock u file)) t none is = absurd (cc (none))
plain_steps (OfDisc (did.Turn u why)) t none is = absurd (cc (none))
plain_steps _ t none is = absurd (cc (is))

no_step_among : (events : List Event) (t : Transid) (e : Event) → ArePlain events → Among events e → stepped e ≡ Some t → ⊥
no_step_among [] t e none there is = there
no_step_among (x ∷ xs) t e none (inl same) is = plain_steps x t (and_parts (is_plain x) (list_all is_plain xs) none).0 (ap stepped same ∙ is)
no_step_among (x ∷ xs) t e none (inr later) is = no_step_among xs t e (and_parts (is_plain x) (list_all is_plain xs) none).1 later is

and_both : (a b : Bool) → a ≡ true → b ≡ true → (a && b) ≡ true
and_both true b x y = y
and_both false b x y = x

plain_then : (xs ys : List Event) → ArePlain xs → ArePlain ys → ArePlain (xs ++ ys)
plain_then [] ys none more = more
plain_then (x ∷ xs) ys none more = (let both = and_parts (is_plain x) (list_all is_plain xs) none in and_both (is_plain x) (list_all is_plain (xs ++ ys)) both.0 (plain_then xs ys both.1 more))

-- events that pass a test which only plain ones pass
plain_by : (p : Event → Bool) (events : List Event) → ((e : Event) → p e ≡ true → is_plain e ≡ true) → list_all p events ≡ true → ArePlain events
plain_by p [] passes all = refl
plain_by p (x ∷ xs) passes all = (let both = and_parts (p x) (list_all p xs) all in and_both (is_plain x) (list_all is_plain xs) (passes x both.0) (plain_by p xs passes both.1))

draw_is_none : (e : Event) → is_draw e ≡ true → is_plain e ≡ true
draw_is_none (OfDisc (did.Draw f n p)) h = refl
draw_is_none (OfDisc (did.Drawn f n)) h = refl
draw_is_none _ h = absurd (cc (h))

undoing_is_none : (t : Transid) (e : Event) → is_undoing t e ≡ true → is_plain e ≡ true
undoing_is_none t (OfDisc (did.Draw f n p)) h = refl
undoing_is_none t (OfDisc (did.Drawn f n)) h = refl
undoing_is_none t (OfDisc (did.Undo r)) h = refl
undoing_is_none t _ h = absurd (cc (h))

-- the seat's part has had these events more, and each of them is plain
pub record HasPlain (v w : Sight Event) : Type 0 where
  pub more : List Event
  pub events : own_events w ≡ own_events v ++ more
  pub none : ArePlain more

none_same : (v w : Sight Event) → own_events w ≡ own_events v → HasPlain v w
none_same v w same = record { more = []; events = same ∙ sym (append-nil (own_events v)); none = refl }

-- behind some of them
plain_behind : (v w : Sight Event) (xs ys : List Event) → own_events w ≡ (own_events v ++ xs) ++ ys → ArePlain xs → ArePlain ys → HasPlain v w
plain_behind v w xs ys events first second = record { more = xs ++ ys; events = events ∙ append_assoc (own_events v) xs ys; none = plain_then xs ys first second }

still_then : (u v w : Sight Event) → HasPlain u v → HasPlain v w → HasPlain u w
still_then u v w a b = plain_behind u w a.more b.more (b.events ∙ ap (λ (l : List Event). l ++ b.more) a.events) a.none b.none

maybe_none : (b : Bool) (xs ys : List Event) → ArePlain xs → ArePlain ys → ArePlain (cond b xs ys)
maybe_none true xs ys a c = a
maybe_none false xs ys a c = c

of_draws : (v w : Sight Event) → HasDrawn v w → HasPlain v w
of_draws v w d = record { more = d.drawn; events = d.events; none = plain_by is_draw d.drawn draw_is_none d.are }

of_refusal : {D : Type 0} (faults : D → ℕ) (by : By) (old new : DiscView D) (e : FlushRefused) → IsDrawRefusal faults by old new e → HasPlain old.seat new.seat
of_refusal faults by old new (stopped.Failed device) (inl h) = of_draws old.seat new.seat h.1
of_refusal faults by old new (stopped.Failed device) (inr h) = plain_behind old.seat new.seat h.drawn (OfDisc (did.Failed by) ∷ []) h.events (plain_by is_draw h.drawn draw_is_none h.are) refl
of_refusal faults by old new stopped.NoMemory h = of_draws old.seat new.seat h

of_unread : {D : Type 0} (kind : disk.Ghosts D) (t : Transid) (f n : ℕ) (old new : DiscView D) (e : WriteRefused) → IsUnread kind t f n old new e → HasPlain old.seat new.seat
of_unread kind t f n old new refused.NoMemory h = of_draws old.seat new.seat h.0
of_unread kind t f n old new (refused.Failed device) h = of_refusal kind.faults (Attempt t) old new (stopped.Failed device) h.0
of_unread kind t f n old new (refused.Damaged device damage) h = of_draws old.seat new.seat h.1
of_unread kind t f n old new (refused.Spent part) h = absurd h
of_unread kind t f n old new (refused.Busy holder) h = absurd h
of_unread kind t f n old new refused.Full h = absurd h
of_unread kind t f n old new (refused.Refused reason) h = absurd h

-- COUNTS

act_count-append : (xs ys : List Event) → act_count (xs ++ ys) ≡ act_count xs + act_count ys
act_count-append xs ys = ap length (filter-append is_act xs ys) ∙ length-append (filter is_act xs) (filter is_act ys) where
  is_act : Event → Bool
  is_act e = is_some (actor e)

move_count-append : (xs ys : List Event) → move_count (xs ++ ys) ≡ move_count xs + move_count ys
move_count-append xs ys = ap length (filter-append is_move xs ys) ∙ length-append (filter is_move xs) (filter is_move ys) where
  is_move : Event → Bool
  is_move e = is_some (mover e)

pub token_count-append : (xs ys : List Event) → token_count (xs ++ ys) ≡ token_count xs + token_count ys
token_count-append xs ys = (let acts = act_count-append xs ys in let moves = move_count-append xs ys in omega (arith, acts, moves))

-- a test that none passes counts none
none_passes : (f : Event → Bool) (events : List Event) → list_all (λ e. not (f e)) events ≡ true → length (filter f events) ≡ 0
none_passes f [] none = refl
none_passes f (x ∷ xs) none = (let both = and_parts (not (f x)) (list_all (λ e. not (f e)) xs) none in passed (f x) both.0 (none_passes f xs both.1)) where
  passed : (b : Bool) → not b ≡ true → length (filter f xs) ≡ 0 → length (cond b (x ∷ filter f xs) (filter f xs)) ≡ 0
  passed true none_ same = absurd (cc (none_))
  passed false none_ same = same

-- where each passes one test, each passes another
all_by : (p q : Event → Bool) (events : List Event) → ((e : Event) → p e ≡ true → q e ≡ true) → list_all p events ≡ true → list_all q events ≡ true
all_by p q [] passes all = refl
all_by p q (x ∷ xs) passes all = (let both = and_parts (p x) (list_all p xs) all in and_both (q x) (list_all q xs) (passes x both.0) (all_by p q xs passes both.1))

plain_count : (events : List Event) → ArePlain events → token_count events ≡ 0
plain_count events plain =
    let acts : act_count events ≡ 0 = none_passes (λ e. is_some (actor e)) events (all_by is_plain (λ e. not (is_some (actor e))) events (λ e is. (plain_parts e is).0) plain) in
    let moves : move_count events ≡ 0 = none_passes (λ e. is_some (mover e)) events (all_by is_plain (λ e. not (is_some (mover e))) events (λ e is. (plain_parts e is).1) plain) in
    omega (arith, acts, moves)

-- the seat's part has had so many acts and moves more
abbrev pub HasTaken : ℕ → Sight Event → Sight Event → Type 0
HasTaken n v w = token_count (own_events w) ≡ token_count (own_events v) + n

taken_by : (v w : Sight Event) (more : List Event) (n : ℕ) → own_events w ≡ own_events v ++ more → token_count more ≡ n → HasTaken n v w
taken_by v w more n events count = ap token_count events ∙ token_count-append (own_events v) more ∙ ap (λ (k : ℕ). token_count (own_events v) + k) count

plain_taken : (v w : Sight Event) → HasPlain v w → HasTaken 0 v w
plain_taken v w h = taken_by v w h.more 0 h.events (plain_count h.more h.none)

module _ {L : Type 0} (share : Share L) (v w : Sight Event) where
  -- the share stays as it is where there was no act
  pub counted_none : HasTaken 0 v w → IsCounted share v → IsCounted share w
  counted_none acts was = (let amount = was.amount in record { part = was.part; amount = omega (arith, acts, amount) })

  pub counted_still : HasPlain v w → IsCounted share v → IsCounted share w
  counted_still h was = counted_none (plain_taken v w h) was

  pub counted_grown : HasGrown v w → IsCounted share v → IsCounted share w
  counted_grown grown was = counted_still (none_same v w grown.mine) was

module _ {L : Type 0} (old new : Share L) where
  -- it takes a token for an act
  pub counted_one : (v w : Sight Event) → HasTaken 1 v w → new.parts ≡ old.parts → new.amount ≡ old.amount + 1 → IsCounted old v → IsCounted new w
  counted_one v w acts parts amount was = (let had = was.amount in record { part = parts ∙ was.part; amount = omega (arith, acts, amount, had) })

  pub given_one : (acted : Bool) → acted ≡ true → new.parts ≡ old.parts → new.amount + 1 ≡ old.amount → HasGiven acted old new
  given_one true is parts amount = record { parts = parts; amount = amount }
  given_one false is parts amount = absurd (cc (is))

pub given_none : {L : Type 0} (share : Share L) (acted : Bool) → acted ≡ false → HasGiven acted share share
given_none share true is = absurd (cc (is))
given_none share false is = record { parts = refl; amount = omega arith }

-- what was given is what the seat's part has taken
pub given_for_one : {L : Type 0} (v w : Sight Event) (old new : Share L) → HasTaken 1 v w → new.parts ≡ old.parts → new.amount + 1 ≡ old.amount → HasGivenFor v w old new
given_for_one v w old new taken parts amount = record { parts = parts; amount = omega (arith, taken, amount) }

pub given_for_none : {L : Type 0} (v w : Sight Event) (share : Share L) → HasTaken 0 v w → HasGivenFor v w share share
given_for_none v w share taken = record { parts = refl; amount = omega (arith, taken) }

-- MOVES THAT LACK THEIR END

pub lacks_append : (b : Bool) (xs ys : List Event) → lacks_behind b (xs ++ ys) ≡ lacks_behind (lacks_behind b xs) ys
lacks_append b [] ys = refl
lacks_append b (OfDisc (did.Low position by) ∷ xs) ys = lacks_append true xs ys
lacks_append b (OfDisc did.Lowered ∷ xs) ys = lacks_append false xs ys
lacks_append b (_ ∷ xs) ys = lacks_append b xs ys

abbrev pub AreUnlow : List Event → Type 0
AreUnlow events = list_all is_unlow events ≡ true

unlow_one : (b : Bool) (e : Event) (xs : List Event) → is_unlow e ≡ true → lacks_behind b (e ∷ xs) ≡ lacks_behind b xs
unlow_one b (OfDisc (did.Low position by)) xs is = absurd (cc (is))
unlow_one b (OfDisc did.Lowered) xs is = absurd (cc (is))
unlow_one b _ xs is = refl

unlow_same : (b : Bool) (events : List Event) → AreUnlow events → lacks_behind b events ≡ b
unlow_same b [] are = refl
unlow_same b (x ∷ xs) are = (let both = and_parts (is_unlow x) (list_all is_unlow xs) are in unlow_one b x xs both.0 ∙ unlow_same b xs both.1)

plain_unlow : (events : List Event) → ArePlain events → AreUnlow events
plain_unlow events plain = all_by is_plain is_unlow events (λ e is. (plain_parts e is).2) plain

unlow_then : (xs ys : List Event) → AreUnlow xs → AreUnlow ys → AreUnlow (xs ++ ys)
unlow_then [] ys first second = second
unlow_then (x ∷ xs) ys first second = (let both = and_parts (is_unlow x) (list_all is_unlow xs) first in and_both (is_unlow x) (list_all is_unlow (xs ++ ys)) both.0 (unlow_then xs ys both.1 second))

lacks_more : (v w : Sight Event) (more : List Event) → own_events w ≡ own_events v ++ more → lacks_end w ≡ lacks_behind (lacks_end v) more
lacks_more v w more events = ap (lacks_behind false) events ∙ lacks_append false (own_events v) more

module _ (b : Bool) (v w : Sight Event) where
  pub ends_by : (more : List Event) → own_events w ≡ own_events v ++ more → AreUnlow more → b ≡ lacks_end v → b ≡ lacks_end w
  ends_by more events are was = was ∙ sym (lacks_more v w more events ∙ unlow_same (lacks_end v) more are)

  pub ends_still : HasPlain v w → b ≡ lacks_end v → b ≡ lacks_end w
  ends_still h was = ends_by h.more h.events (plain_unlow h.more h.none) was

  pub ends_grown : HasGrown v w → b ≡ lacks_end v → b ≡ lacks_end w
  ends_grown grown was = ends_still (none_same v w grown.mine) was

-- what the disc's part says of it is what its events say
lacks_in_part : (events : List DiscEvent) → lacks_behind false (map OfDisc (reverse events)) ≡ is_some (lowering events)
lacks_in_part [] = refl
lacks_in_part (d ∷ ds) =
    ap (lacks_behind false) (ap (map OfDisc) (reverse-cons d ds) ∙ map-append OfDisc (reverse ds) (d ∷ [])) ∙ lacks_append false (map OfDisc (reverse ds)) (OfDisc d ∷ [])
    ∙ ap (λ (b : Bool). lacks_behind b (OfDisc d ∷ [])) (lacks_in_part ds) ∙ last d
  where
    last : (e : DiscEvent) → lacks_behind (is_some (lowering ds)) (OfDisc e ∷ []) ≡ is_some (lowering (e ∷ ds))
    last (did.Low position by) = refl
    last did.Lowered = refl
    last _ = refl

lacks_lawful : {D : Type 0} (kind : disk.Ghosts D) (opening : List PartState) (disc : DiscView D) → IsLawful kind opening disc → lacks_end disc.seat ≡ is_some (lowering disc.part.events)
lacks_lawful kind opening disc lawful = ap (lacks_behind false) lawful.told ∙ lacks_in_part disc.part.events

-- CALLS

module _ {D : Type 0} (old new : DiscView D) where
  abbrev pub Still : Type 0
  Still = HasPlain old.seat new.seat

  pub of_closings : (t : Transid) → own_events new.seat ≡ own_events old.seat ++ closings old.part.events t → Still
  of_closings t events = record { more = closings old.part.events t; events = events; none = maybe_none (has_closed old.part.events t) [] (OfDisc (did.Close t) ∷ []) refl refl }

  pub closed_still : {A E : Type 0} (t_old t_new : Txn) (r : Result A E) → OnOk r (own_events new.seat ≡ own_events old.seat ++ closings old.part.events t_old.tx) → OnErr r ((new ≡ old) × (t_new ≡ t_old)) → Still
  closed_still t_old t_new (Ok x) events same = of_closings t_old.tx events
  closed_still t_old t_new (Err e) events same = none_same old.seat new.seat (ap (λ (v : DiscView D). own_events v.seat) same.0)

  pub landed_still : {A E : Type 0} (t : Transid) (r : Result A E) → MatchResult r (λ _. HasClosed old new t) (λ _. IsIdleDisc old new ⊎ HasClosed old new t) → Still
  landed_still t (Ok x) events = of_closings t events
  landed_still t (Err e) events = ⊎_elim (λ (same : IsIdleDisc old new). none_same old.seat new.seat same) (λ (closed : HasClosed old new t). of_closings t closed) events

  pub freed_still : (t : Transid) → HasFreed old new t → Still
  freed_still t freed = record { more = releasings old.part.events t; events = freed.events; none = maybe_none (is_live old.part.events t) (OfDisc (did.Release t) ∷ []) [] refl refl }

  pub grown_still : HasGrown old.seat new.seat → Still
  grown_still grown = none_same old.seat new.seat grown.mine

  pub drawings_none : (f n : ℕ) (entry : Option Frame) → ArePlain (endings f n entry ++ drawings f n entry)
  drawings_none f n entry =
      plain_then (endings f n entry) (drawings f n entry)
      (maybe_none (half_in entry) (OfDisc (did.Drawn f n) ∷ []) [] refl refl)
      (maybe_none (dirty_in entry) (OfDisc (did.Draw f n (position_in entry)) ∷ OfDisc (did.Drawn f n) ∷ []) [] refl refl)

  pub drawn_still : (faults : D → ℕ) (by : By) (f n : ℕ) (r : Result ⊤ FlushRefused) → OnOk r (HasDrawnBlock old new f n) → IfErr r (IsDrawRefusal faults by old new) → Still
  drawn_still faults by f n (Ok x) drawn refused_ = record { more = endings f n (entry_at old.blocks.cache f n) ++ drawings f n (entry_at old.blocks.cache f n); events = drawn.events; none = drawings_none f n (entry_at old.blocks.cache f n) }
  drawn_still faults by f n (Err e) drawn refused_ = of_refusal faults by old new e refused_

  pub copied_still : {A : Type 0} (kind : disk.Ghosts D) (t : Transid) (f n : ℕ) (r : Result A WriteRefused) → OnOk r (HasDrawn old.seat new.seat × SameWork old.part new.part) → IfErr r (IsUnread kind t f n old new) → Still
  copied_still kind t f n (Ok x) drawn refused_ = of_draws old.seat new.seat drawn.0
  copied_still kind t f n (Err e) drawn refused_ = of_unread kind t f n old new e refused_

  pub raised_still : (number : ℕ) (rest : Option ℕ) → own_events new.seat ≡ own_events old.seat ++ raisings old.part number rest → Still
  raised_still number rest events = record { more = raisings old.part number rest; events = events; none = maybe_none (is_way (under_way old.part.events) number) (OfDisc (did.Raise number rest) ∷ []) [] refl refl }

of_undo_refusal : {D : Type 0} (kind : disk.Ghosts D) (old new : DiscView D) (t : Transid) (refusal : UndoRefused) → IsNotUndone kind old new t refusal → HasPlain old.seat new.seat
of_undo_refusal kind old new t (stuck.Failed device) h = of_refusal kind.faults (Attempt t) old new (stopped.Failed device) h.why
of_undo_refusal kind old new t (stuck.Damaged device damage) h = of_draws old.seat new.seat h.why.1
of_undo_refusal kind old new t stuck.NoMemory h = of_draws old.seat new.seat h.why

pub undone_still : {D : Type 0} (kind : disk.Ghosts D) (old new : DiscView D) (t : Transid) (r : Result Bool UndoRefused) → IsUndoAnswer kind old new t r → HasPlain old.seat new.seat
undone_still kind old new t (Ok true) h = (let u = h.2 in plain_behind old.seat new.seat u.drawn (OfDisc (did.Undo (undo_of old.part t h.0 (value_at u.block h.0.key))) ∷ []) u.events (plain_by is_draw u.drawn draw_is_none u.draws) refl)
undone_still kind old new t (Ok false) h = none_same old.seat new.seat h.events
undone_still kind old new t (Err refusal) h = of_undo_refusal kind old new t refusal h

of_undos : {D : Type 0} (opening : List PartState) (old new : DiscView D) (t : Transid) → HasUndoneSome opening old new t → HasPlain old.seat new.seat
of_undos opening old new t h = record { more = h.more; events = h.events; none = plain_by (is_undoing t) h.more (undoing_is_none t) h.are }

pub let_go_still : {D : Type 0} (kind : disk.Ghosts D) (opening : List PartState) (old new : DiscView D) (t : Transid) (r : Result ⊤ UndoRefused) → IsReleaseAnswer kind opening old new t r → HasPlain old.seat new.seat
let_go_still kind opening old new t (Ok done) h =
    plain_behind old.seat new.seat h.more (releasings old.part.events t) h.events (plain_by (is_undoing t) h.more (undoing_is_none t) h.are)
    (maybe_none (is_live old.part.events t) (OfDisc (did.Release t) ∷ []) [] refl refl)
let_go_still kind opening old new t (Err refusal) h = still_then old.seat h.mid.seat new.seat (of_undos opening old h.mid t h.undone) (of_undo_refusal kind h.mid new t refusal h.next)

-- THE DISC BEHIND ITS LOCK

module _ {D : Type 0} (opening : List PartState) (found : Found) (old new : DiscView D) where
  -- it is the same disc, and stays in time
  pub of_later : IsLaterDisc opening old new → (IsInTime old.seat → IsInTime new.seat) → IsDiscOf found old.part.number old → IsDiscOf found new.part.number new
  of_later later stays is = record {
    number = refl;
    config = ap (λ (s : DiscPart). s.config) later.part ∙ is.config;
    in_time = stays is.in_time;
  }

  pub plain_stays : new.seat.part ≡ old.seat.part → IsPrefix old.seat.seen new.seat.seen → HasPlain old.seat new.seat → IsInTime old.seat → IsInTime new.seat
  plain_stays place begins h was = in_time_then old.seat new.seat h.more place begins h.events (λ t e there is. absurd (no_step_among h.more t e h.none there is)) was

  pub still_of : IsLaterDisc opening old new → HasPlain old.seat new.seat → IsDiscOf found old.part.number old → IsDiscOf found new.part.number new
  still_of later h is = of_later later (plain_stays later.place later.begins h) is

  -- it has had no event
  pub grown_of : new.part ≡ old.part → HasGrown old.seat new.seat → IsDiscOf found old.part.number old → IsDiscOf found new.part.number new
  grown_of part grown is = record {
    number = refl;
    config = ap (λ (s : DiscPart). s.config) part ∙ is.config;
    in_time = plain_stays grown.part grown.begins (none_same old.seat new.seat grown.mine) is.in_time;
  }

-- MOVES OF THE LOW POSITION

abbrev is_unstepped : Event → Bool
is_unstepped e = not (is_some (stepped e))

-- The events of a call that moves it take a token where the move has begun, by how many they are; and so they tell whether one lacks its end. None is a step.
pub record AreOfMove (ended lacked : Bool) (more : List Event) : Type 0 where
  taken : token_count more ≡ (if has_begun ended lacked (length more) then 1 else 0)
  ends : still_lacks ended lacked (length more) ≡ lacks_behind lacked more
  few : length more ≤ 3
  steps : list_all is_unstepped more ≡ true

abbrev end_of : Bool → List Event
end_of lacked = if lacked then OfDisc did.Lowered ∷ [] else []

whole_move : (lacked : Bool) (low : ℕ) (item : Transid) → AreOfMove true lacked (end_of lacked ++ OfDisc (did.Low low (Attempt item)) ∷ OfDisc did.Lowered ∷ [])
whole_move true low item = record { taken = refl; ends = refl; few = omega arith; steps = refl }
whole_move false low item = record { taken = refl; ends = refl; few = omega arith; steps = refl }

none_begun : (lacked : Bool) (item : Transid) → AreOfMove false lacked (OfDisc (did.Failed (Attempt item)) ∷ [])
none_begun true item = record { taken = refl; ends = refl; few = omega arith; steps = refl }
none_begun false item = record { taken = refl; ends = refl; few = omega arith; steps = refl }

one_ended : (lacked : Bool) (item : Transid) → AreOfMove false lacked (end_of lacked ++ OfDisc (did.Failed (Attempt item)) ∷ [])
one_ended true item = record { taken = refl; ends = refl; few = omega arith; steps = refl }
one_ended false item = record { taken = refl; ends = refl; few = omega arith; steps = refl }

one_begun : (lacked : Bool) (low : ℕ) (item : Transid) → AreOfMove false lacked ((end_of lacked ++ OfDisc (did.Low low (Attempt item)) ∷ []) ++ OfDisc (did.Failed (Attempt item)) ∷ [])
one_begun true low item = record { taken = refl; ends = refl; few = omega arith; steps = refl }
one_begun false low item = record { taken = refl; ends = refl; few = omega arith; steps = refl }

-- no step is among them
unstepped_among : (events : List Event) (t : Transid) (e : Event) → list_all is_unstepped events ≡ true → Among events e → stepped e ≡ Some t → ⊥
unstepped_among [] t e all there is = there
unstepped_among (x ∷ xs) t e all there is =
    let both = and_parts (is_unstepped x) (list_all is_unstepped xs) all in
    ⊎_elim
    (λ (same : x ≡ e). absurd (let one : not (is_some (stepped e)) ≡ true = subst (λ (y : Event). is_unstepped y ≡ true) same both.0 in let none : false ≡ true = ap (λ (o : Option Transid). not (is_some o)) (sym is) ∙ one in cc (none)))
    (λ (later : Among xs e). unstepped_among xs t e both.1 later is)
    there

module _ {D : Type 0} (kind : disk.Ghosts D) (opening : List PartState) (old new : DiscView D) (low : ℕ) (item : Transid) (lacked : Bool) where
  -- the events of the call, and what they are
  abbrev pub HasMoved : Bool → Type 0
  HasMoved ended = (more : List Event) × (own_events new.seat ≡ own_events old.seat ++ more) × AreOfMove ended lacked more

  abbrev failed : Event
  failed = OfDisc (did.Failed (Attempt item))

  begun_parts : (told : List Event) → lacking old.part ≡ end_of lacked → IsBegun old.part (Attempt item) low told → AreOfMove false lacked (told ++ failed ∷ [])
  begun_parts told is (inl none) = subst (λ (l : List Event). AreOfMove false lacked (l ++ failed ∷ [])) (sym none) (none_begun lacked item)
  begun_parts told is (inr (inl ended)) = subst (λ (l : List Event). AreOfMove false lacked (l ++ failed ∷ [])) (sym (ended ∙ is)) (one_ended lacked item)
  begun_parts told is (inr (inr begun)) =
      subst (λ (l : List Event). AreOfMove false lacked (l ++ failed ∷ [])) (sym (begun ∙ ap (λ (l : List Event). l ++ OfDisc (did.Low low (Attempt item)) ∷ []) is)) (one_begun lacked low item)

  moved_by : (r : Result ⊤ FlushRefused) → lacking old.part ≡ end_of lacked → OnOk r (HasLowered (Attempt item) low old new) → IfErr r (IsLowRefusal kind.faults (Attempt item) low old new) → HasMoved (is_ok r)
  moved_by (Ok x) is lowered refused_ =
      (end_of lacked ++ OfDisc (did.Low low (Attempt item)) ∷ OfDisc did.Lowered ∷ [], lowered.events ∙ ap (λ (l : List Event). own_events old.seat ++ (l ++ OfDisc (did.Low low (Attempt item)) ∷ OfDisc did.Lowered ∷ [])) is, whole_move lacked low item)
  moved_by (Err (stopped.Failed device)) is lowered h = (h.told ++ failed ∷ [], h.events ∙ append_assoc (own_events old.seat) h.told (failed ∷ []), begun_parts h.told is h.begun)
  moved_by (Err stopped.NoMemory) is lowered h = absurd h

  pub has_moved : (r : Result ⊤ FlushRefused) (ended : Bool) → ended ≡ is_ok r → IsLawful kind opening old → lacked ≡ lacks_end old.seat → OnOk r (HasLowered (Attempt item) low old new)
      → IfErr r (IsLowRefusal kind.faults (Attempt item) low old new) → HasMoved ended
  has_moved r ended is lawful lacks lowered refused_ = subst HasMoved (sym is) (moved_by r (ap end_of (sym (lacks ∙ lacks_lawful kind opening old lawful))) lowered refused_)

  module _ (ended : Bool) (m : HasMoved ended) (before after : ℕ) (few : length (own_events old.seat) < 2 ^ 41) (was : before ≡ min (length (own_events old.seat)) (2 ^ 64 - 1)) (is : after ≡ min (length (own_events new.seat)) (2 ^ 64 - 1)) where
    -- so many events were told
    pub told_count : after ≡ before + length m.0
    told_count =
        let size : length (own_events new.seat) ≡ length (own_events old.seat) + length m.0 = ap length m.1 ∙ length-append (own_events old.seat) m.0 in
        let at_most = m.2.few in
        omega (arith, was, is, few, at_most, size)

    told_is : after - before ≡ length m.0
    told_is = (let count = told_count in omega (arith, count))

    pub counts_on : before ≤ after
    counts_on = (let count = told_count in omega (arith, count))

    pub moved_taken : (begun : Bool) → begun ≡ has_begun ended lacked (after - before) → HasTaken (if begun then 1 else 0) old.seat new.seat
    moved_taken begun is = taken_by old.seat new.seat m.0 (if begun then 1 else 0) m.1 (m.2.taken ∙ ap (λ (b : Bool). if b then 1 else 0) (ap (has_begun ended lacked) (sym told_is) ∙ sym is))

    pub moved_ends : lacked ≡ lacks_end old.seat → still_lacks ended lacked (after - before) ≡ lacks_end new.seat
    moved_ends lacks = ap (still_lacks ended lacked) told_is ∙ m.2.ends ∙ ap (λ (b : Bool). lacks_behind b m.0) lacks ∙ sym (lacks_more old.seat new.seat m.0 m.1)

  -- it stays in time
  pub moved_of : (found : Found) (ended : Bool) → HasMoved ended → IsLaterDisc opening old new → IsDiscOf found old.part.number old → IsDiscOf found new.part.number new
  moved_of found ended m later is =
      of_later opening found old new later (in_time_then old.seat new.seat m.0 later.place later.begins m.1 (λ t e there step. absurd (unstepped_among m.0 t e m.2.steps there step))) is

-- WHAT A MOVE HAS GIVEN

whole_count : (b : Bool) (low : ℕ) (item : Transid) → token_count ((if b then OfDisc did.Lowered ∷ [] else []) ++ OfDisc (did.Low low (Attempt item)) ∷ OfDisc did.Lowered ∷ []) ≡ 1
whole_count true low item = refl
whole_count false low item = refl

none_count : (b : Bool) (item : Transid) → token_count ((if b then OfDisc did.Lowered ∷ [] else []) ++ OfDisc (did.Failed (Attempt item)) ∷ []) ≡ 0
none_count true item = refl
none_count false item = refl

cut_count : (b : Bool) (low : ℕ) (item : Transid) → token_count (((if b then OfDisc did.Lowered ∷ [] else []) ++ OfDisc (did.Low low (Attempt item)) ∷ []) ++ OfDisc (did.Failed (Attempt item)) ∷ []) ≡ 1
cut_count true low item = refl
cut_count false low item = refl

module _ {L D : Type 0} (faults : D → ℕ) (old new : DiscView D) (low : ℕ) (item : Transid) (before after : Share L) (given : HasGivenFor old.seat new.seat before after) where
  given_more : (more : List Event) (b : Bool) → own_events new.seat ≡ own_events old.seat ++ more → token_count more ≡ (if b then 1 else 0) → HasGiven b before after
  given_more more b events count =
      let taken : HasTaken (if b then 1 else 0) old.seat new.seat = taken_by old.seat new.seat more (if b then 1 else 0) events count in
      let amount = given.amount in
      record { parts = given.parts; amount = omega (arith, taken, amount) }

  -- a whole move has given one token
  pub given_whole : HasLowered (Attempt item) low old new → HasGiven true before after
  given_whole lowered = given_more (lacking old.part ++ OfDisc (did.Low low (Attempt item)) ∷ OfDisc did.Lowered ∷ []) true lowered.events (whole_count (is_some (lowering old.part.events)) low item)

  -- one that has failed has given one where it had begun, and else none
  pub given_cut : (device : ℕ) (h : HasLowFailed faults (Attempt item) low old new device) → HasGiven false before after ⊎ (HasGiven true before after × (h.told ≡ lacking old.part ++ OfDisc (did.Low low (Attempt item)) ∷ []))
  given_cut device h = by h.begun
    where
      failed : List Event
      failed = OfDisc (did.Failed (Attempt item)) ∷ []

      events : own_events new.seat ≡ own_events old.seat ++ (h.told ++ failed)
      events = h.events ∙ append_assoc (own_events old.seat) h.told failed

      by : IsBegun old.part (Attempt item) low h.told → HasGiven false before after ⊎ (HasGiven true before after × (h.told ≡ lacking old.part ++ OfDisc (did.Low low (Attempt item)) ∷ []))
      by (inl none) = inl (given_more (h.told ++ failed) false events (ap (λ (l : List Event). token_count (l ++ failed)) none))
      by (inr (inl ended)) = inl (given_more (h.told ++ failed) false events (ap (λ (l : List Event). token_count (l ++ failed)) ended ∙ none_count (is_some (lowering old.part.events)) item))
      by (inr (inr begun)) = inr (given_more (h.told ++ failed) true events (ap (λ (l : List Event). token_count (l ++ failed)) begun ∙ cut_count (is_some (lowering old.part.events)) low item), begun)

-- DUMPS

-- no step is among the events of a dump
no_step_alone : (x : Event) → stepped x ≡ None → (t : Transid) (e : Event) → Among (x ∷ []) e → stepped e ≡ Some t → ⊥
no_step_alone x none t e there is = ⊎_elim (λ (same : x ≡ e). absurd (let both : None ≡ Some t = sym none ∙ (ap stepped same ∙ is) in cc (both))) (λ (no_more : Among [] e). absurd no_more) there

module _ {D : Type 0} (old new : DiscView D) (item : Transid) where
  pub started_taken : (r : Option (ℕ × ℕ)) → IfSome r (λ x. HasStarted item old new x.0 x.1) → IfNone r (IsDumping item old new) → HasTaken 1 old.seat new.seat
  started_taken (Some x) started dumping = taken_by old.seat new.seat (OfDisc (did.Start x.0 x.1 item) ∷ []) 1 started.events refl
  started_taken None started dumping = taken_by old.seat new.seat (OfDisc (did.Turn item cause.Dumping) ∷ []) 1 dumping.events refl

  pub started_ends : (b : Bool) (r : Option (ℕ × ℕ)) → IfSome r (λ x. HasStarted item old new x.0 x.1) → IfNone r (IsDumping item old new) → b ≡ lacks_end old.seat → b ≡ lacks_end new.seat
  started_ends b (Some x) started dumping was = ends_by b old.seat new.seat (OfDisc (did.Start x.0 x.1 item) ∷ []) started.events refl was
  started_ends b None started dumping was = ends_by b old.seat new.seat (OfDisc (did.Turn item cause.Dumping) ∷ []) dumping.events refl was

  pub started_answer : (r : Option (ℕ × ℕ)) → IfSome r (λ x. HasStarted item old new x.0 x.1) → IfNone r (IsDumping item old new) → MatchOption r (IsDumping item old new) (λ x. HasStarted item old new x.0 x.1)
  started_answer (Some x) started dumping = started
  started_answer None started dumping = dumping

  pub started_of : (opening : List PartState) (found : Found) (r : Option (ℕ × ℕ)) → IsLaterDisc opening old new → IfSome r (λ x. HasStarted item old new x.0 x.1) → IfNone r (IsDumping item old new)
      → IsDiscOf found old.part.number old → IsDiscOf found new.part.number new
  started_of opening found (Some x) later started dumping is =
      of_later opening found old new later (in_time_then old.seat new.seat (OfDisc (did.Start x.0 x.1 item) ∷ []) later.place later.begins started.events
      (λ t e there is_step. absurd (no_step_alone (OfDisc (did.Start x.0 x.1 item)) refl t e there is_step))) is
  started_of opening found None later started dumping is =
      of_later opening found old new later (in_time_then old.seat new.seat (OfDisc (did.Turn item cause.Dumping) ∷ []) later.place later.begins dumping.events
      (λ t e there is_step. absurd (no_step_alone (OfDisc (did.Turn item cause.Dumping)) refl t e there is_step))) is

-- WRITES

-- the event of a step is of its attempt
step_is : (s : DiscPart) (t u : Transid) (step : Step) (what : FoundStep) → stepped (OfDisc (event_of s t step what)) ≡ Some u → t ≡ u
step_is s t u step (come.Change before after) is = cc (is)
step_is s t u step (come.Value value) is = cc (is)
step_is s t u step (come.Refused reason) is = cc (is)
step_is s t u step come.Full is = cc (is)
step_is s t u step come.Crowded is = cc (is)

-- and it is one act
step_taken : (s : DiscPart) (t : Transid) (step : Step) (what : FoundStep) → token_count (OfDisc (event_of s t step what) ∷ []) ≡ 1
step_taken s t step (come.Change before after) = refl
step_taken s t step (come.Value value) = refl
step_taken s t step (come.Refused reason) = refl
step_taken s t step come.Full = refl
step_taken s t step come.Crowded = refl

step_unlow : (s : DiscPart) (t : Transid) (step : Step) (what : FoundStep) → is_unlow (OfDisc (event_of s t step what)) ≡ true
step_unlow s t step (come.Change before after) = refl
step_unlow s t step (come.Value value) = refl
step_unlow s t step (come.Refused reason) = refl
step_unlow s t step come.Full = refl
step_unlow s t step come.Crowded = refl

-- The disc has had these events more, of which so many are acts and none is a move; each step is of the attempt, and none begins or ends a move of the low position.
pub record HasOwnStep (t : Transid) (n : ℕ) (v w : Sight Event) : Type 0 where
  pub more : List Event
  pub events : own_events w ≡ own_events v ++ more
  pub acts : token_count more ≡ n
  pub unlow : AreUnlow more
  pub own : (u : Transid) (e : Event) → Among more e → stepped e ≡ Some u → t ≡ u

own_none : (t : Transid) (v w : Sight Event) → HasPlain v w → HasOwnStep t 0 v w
own_none t v w h = record { more = h.more; events = h.events; acts = plain_count h.more h.none; unlow = plain_unlow h.more h.none; own = λ u e there is. absurd (no_step_among h.more u e h.none there is) }

own_last : (t : Transid) (v w : Sight Event) (xs : List Event) (x : Event) → own_events w ≡ (own_events v ++ xs) ++ x ∷ [] → ArePlain xs → token_count (x ∷ []) ≡ 1 → is_unlow x ≡ true → ((u : Transid) → stepped x ≡ Some u → t ≡ u) → HasOwnStep t 1 v w
own_last t v w xs x events none act unlow last = record {
  more = xs ++ x ∷ [];
  events = events ∙ append_assoc (own_events v) xs (x ∷ []);
  acts = (let both = token_count-append xs (x ∷ []) in let front = plain_count xs none in omega (arith, both, front, act));
  unlow = unlow_then xs (x ∷ []) (plain_unlow xs none) (and_both (is_unlow x) true unlow refl);
  own = λ u e there is.
      ⊎_elim
      (λ (front : Among xs e). absurd (no_step_among xs u e none front is))
      (λ (behind_ : Among (x ∷ []) e). ⊎_elim (λ (same : x ≡ e). last u (ap stepped same ∙ is)) (λ (no_more : Among [] e). absurd no_more) behind_)
      (among_append xs (x ∷ []) e there);
}

module _ {D : Type 0} (kind : disk.Ghosts D) (old new : DiscView D) (t_old t_new : Txn) (step : Step) where
  pub own_carried : (what : FoundStep) → HasCarriedOut old new t_old t_new step what → HasOwnStep t_old.tx 1 old.seat new.seat
  own_carried what h =
      own_last t_old.tx old.seat new.seat h.drawn (OfDisc (event_of old.part t_old.tx step what)) h.disc_events (plain_by is_draw h.drawn draw_is_none h.draws) (step_taken old.part t_old.tx step what) (step_unlow old.part t_old.tx step what) (λ u is. step_is old.part t_old.tx u step what is)

  own_key : (r : Result (Option (List ℕ)) WriteRefused) → IsKeyAnswered kind old new t_old t_new step r → HasOwnStep t_old.tx (if is_told r then 1 else 0) old.seat new.seat
  own_key (Ok value) h = own_carried h.0 h.1
  own_key (Err (refused.Spent part)) h = own_none t_old.tx old.seat new.seat (none_same old.seat new.seat h.0.disc_events)
  own_key (Err (refused.Busy holder)) h =
      own_last t_old.tx old.seat new.seat [] (OfDisc (did.Turn t_old.tx (cause.Busy step holder))) (h.2.disc_events ∙ ap (λ (l : List Event). l ++ OfDisc (did.Turn t_old.tx (cause.Busy step holder)) ∷ []) (sym (append-nil (own_events old.seat)))) refl refl refl (λ u is. cc (is))
  own_key (Err refused.NoMemory) h = own_none t_old.tx old.seat new.seat (of_draws old.seat new.seat h.1)
  own_key (Err (refused.Failed device)) h = own_none t_old.tx old.seat new.seat (of_refusal kind.faults (Attempt t_old.tx) old new (stopped.Failed device) h.1)
  own_key (Err (refused.Damaged device damage)) h = own_none t_old.tx old.seat new.seat (of_draws old.seat new.seat h.2.0)
  own_key (Err refused.Full) h = own_carried come.Full h
  own_key (Err (refused.Refused reason)) h = own_carried (come.Refused reason) h

  own_file : (r : Result (Option (List ℕ)) WriteRefused) → IsLockAnswered old new t_old t_new step.file r → HasOwnStep t_old.tx (if is_told r then 1 else 0) old.seat new.seat
  own_file (Ok value) h =
      own_last t_old.tx old.seat new.seat [] (OfDisc (did.Lock t_old.tx step.file)) (h.2.disc_events ∙ ap (λ (l : List Event). l ++ OfDisc (did.Lock t_old.tx step.file) ∷ []) (sym (append-nil (own_events old.seat)))) refl refl refl (λ u is. cc (is))
  own_file (Err (refused.Spent part)) h = own_none t_old.tx old.seat new.seat (none_same old.seat new.seat h.0.disc_events)
  own_file (Err (refused.Busy holder)) h =
      own_last t_old.tx old.seat new.seat [] (OfDisc (did.Turn t_old.tx (cause.BusyFile step.file holder))) (h.2.disc_events ∙ ap (λ (l : List Event). l ++ OfDisc (did.Turn t_old.tx (cause.BusyFile step.file holder)) ∷ []) (sym (append-nil (own_events old.seat)))) refl refl refl (λ u is. cc (is))
  own_file (Err refused.NoMemory) h = own_none t_old.tx old.seat new.seat (none_same old.seat new.seat h.1.disc_events)
  own_file (Err (refused.Failed device)) h = absurd h
  own_file (Err (refused.Damaged device damage)) h = absurd h
  own_file (Err refused.Full) h = absurd h
  own_file (Err (refused.Refused reason)) h = absurd h

  pub own_written : (r : Result (Option (List ℕ)) WriteRefused) → IsAnswered kind old new t_old t_new step r → HasOwnStep t_old.tx (if is_told r then 1 else 0) old.seat new.seat
  own_written r h = by (is_lock step.op) refl
    where
      by : (b : Bool) → is_lock step.op ≡ b → HasOwnStep t_old.tx (if is_told r then 1 else 0) old.seat new.seat
      by true is = own_file r (h.of_file is)
      by false is = own_key r (h.of_key is)

  pub written_taken : (r : Result (Option (List ℕ)) WriteRefused) → IsAnswered kind old new t_old t_new step r → HasTaken (if is_told r then 1 else 0) old.seat new.seat
  written_taken r answered = (let h = own_written r answered in taken_by old.seat new.seat h.more (if is_told r then 1 else 0) h.events h.acts)

  pub written_ends : (b : Bool) (r : Result (Option (List ℕ)) WriteRefused) → IsAnswered kind old new t_old t_new step r → b ≡ lacks_end old.seat → b ≡ lacks_end new.seat
  written_ends b r answered was = (let h = own_written r answered in ends_by b old.seat new.seat h.more h.events h.unlow was)

  -- a step of an attempt whose worker has not ended its steps
  pub written_of : (opening : List PartState) (found_ : Found) (r : Result (Option (List ℕ)) WriteRefused) → IsLaterDisc opening old new → IsAnswered kind old new t_old t_new step r → IsUnended t_old.tx new.seat.seen
      → IsDiscOf found_ old.part.number old → IsDiscOf found_ new.part.number new
  written_of opening found_ r later answered unended is =
      let h = own_written r answered in
      of_later opening found_ old new later (in_time_then old.seat new.seat h.more later.place later.begins h.events
      (λ u e there stepped_. subst (λ (t : Transid). IsUnended t new.seat.seen) (h.own u e there stepped_) unended)) is

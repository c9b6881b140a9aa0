-- What several calls of the monitor do together.
use Rattle.std.specs.Prelude.{ℕ, ◌<◌, ◌≤◌, ◌-◌, ◌^◌, List, [], ◌∷◌, ◌++◌, length, Result, Ok, Err, OnOk, OnErr, IfOk}
use Rattle.std.proofs.Common.{◌≡◌, inl, inr, ⊎_elim, refl, ap, sym, ◌∙◌, subst, arith, append_assoc, append-nil}
use Rattle.std.proofs.lemmas.Bool.{cases_lt}
use Rattle.trail_files.specs.declared.monitor_record.MonitorRecord.{MonitorRecord}
use Rattle.node_machine.specs.declared.event.By.{By}
use Rattle.node_machine.specs.declared.event.MonitorEvent.{MonitorEvent}
use Rattle.node_machine.specs.declared.event.MonitorEvent.TheVariants.{Offer, Land, Failed}
use Rattle.node_machine.specs.Monitor.{recorded, offered_car}
use Rattle.node_machine.specs.Parts.{MonitorPart}
use Rattle.commit_boxcar.specs.Cars.{HasFilled, HasTakenOne, HasMade, HasCar, HasStopped, HasLine, HasLineFor, HasDriven, IsIdle, car_events}
use Rattle.commit_boxcar.specs.Line.{line_of, AreTaken, IsNext}
use Rattle.commit_boxcar.specs.Monitor.{Monitor, line, offered_batch}
use Rattle.commit_boxcar.specs.Requests.{QueueEnd, ArePopped, HasFoundEmpty}
use Rattle.commit_boxcar.specs.Seat.{HasHad, monitor_after}
use Rattle.commit_boxcar.proofs.Lines.{line_taken, line_landed, line_offered, taken_push, taken_pass, taken_then}
use Rattle.commit_boxcar.proofs.Seats.{had_none, had_then}

car_some : (xs : List MonitorRecord) → 0 < length xs → car_events xs ≡ Offer xs ∷ Land ∷ []
car_some [] some = absurd (omega (arith, some))
car_some (x ∷ xs) some = refl

pub no_items : {A : Type 0} (xs : List A) → length xs ≡ 0 → xs ≡ []
no_items [] e = refl
no_items (x ∷ xs) e = absurd (omega (arith, e))

none_after_car : (part : MonitorPart) (xs : List MonitorRecord) → offered_car part.events ≡ [] → offered_car (monitor_after part (car_events xs)).events ≡ []
none_after_car part [] none = none
none_after_car part (x ∷ xs) none = refl

pub on_err : {T E P Q : Type 0} (r : Result T E) → (P → Q) → OnErr r P → OnErr r Q
on_err (Ok x) f h = tt
on_err (Err e) f h = f h

pub on_ok : {T E P Q : Type 0} (r : Result T E) → (P → Q) → OnOk r P → OnOk r Q
on_ok (Ok x) f h = f h
on_ok (Err e) f h = tt

pub on_ok_of : {T E : Type 0} {P Q : T → Type 0} (r : Result T E) → ((x : T) → P x → Q x) → IfOk r P → IfOk r Q
on_ok_of (Ok x) f h = f x h
on_ok_of (Err e) f h = tt

pub err_anyway : {T E P : Type 0} (r : Result T E) → P → OnErr r P
err_anyway (Ok x) h = tt
err_anyway (Err e) h = h

pub popped_same : (e f : QueueEnd) → f ≡ e → ArePopped [] e f
popped_same e f same = record {
  popped = ap (λ (x : QueueEnd). x.popped) same ∙ sym (append-nil e.popped);
  told = ap (λ (x : QueueEnd). x.told) same;
  later = (let n = ap (λ (x : QueueEnd). x.empties) same in omega (arith, n));
}

pub popped_then : (front more : List MonitorRecord) (e f g : QueueEnd) → ArePopped front e f → ArePopped more f g → ArePopped (front ++ more) e g
popped_then front more e f g p q = record {
  popped = q.popped ∙ ap (λ (l : List MonitorRecord). l ++ more) p.popped ∙ append_assoc e.popped front more;
  told = q.told ∙ p.told;
  later = (let a = p.later in let b = q.later in omega (arith, a, b));
}

pub found_then : (front more : List MonitorRecord) (e f g : QueueEnd) → ArePopped front e f → ArePopped more f g → HasFoundEmpty f g → HasFoundEmpty e g
found_then front more e f g p q found = record {
  rose = λ low. ⊎_elim
      (λ (lt : f.empties < 2 ^ 64 - 1). (let a = p.later in let b = found.rose lt in omega (arith, a, b)))
      (λ (ge : 2 ^ 64 - 1 ≤ f.empties). (let a = q.later in omega (arith, low, ge, a)))
      (cases_lt f.empties (2 ^ 64 - 1));
  drained = found.drained;
}

module _ {D : Type 0} where
  pub filled_none : (v : Monitor D) → HasFilled v v
  filled_none v = record { had = had_none v.seat; trail = refl; front = []; popped = popped_same v.end v.end refl; taken = []; are_taken = refl; room = sym (append-nil v.room) }

  -- the line behind some that were taken
  pub filled_line : (v w : Monitor D) (f : HasFilled v w) → line w ≡ line v ++ f.taken
  filled_line v w f =
      ap (λ (p : MonitorPart). line_of p w.room) f.had.part
      ∙ ap (λ (l : List MonitorRecord). line_of v.seat.part l) f.room
      ∙ line_taken (recorded v.seat.part.events) (offered_car v.seat.part.events) v.room f.taken

  -- a request is taken behind what the seat has heard
  pub taken_heard : (v u w : Monitor D) (x : MonitorRecord) → HasHad [] v.seat u.seat → u.trail ≡ v.trail → u.room ≡ v.room → u.end ≡ v.end → HasTakenOne u w x → HasTakenOne v w x
  taken_heard v u w x had trail room end t =
      let same : line u ≡ line v = ap (λ (p : MonitorPart). line_of p u.room) had.part ∙ ap (λ (l : List MonitorRecord). line_of v.seat.part l) room in
      record {
        had = had_then [] [] v.seat u.seat w.seat had t.had;
        trail = t.trail ∙ trail;
        end = t.end ∙ end;
        taken = elim t.taken [
          | inl next ↦ inl (subst (λ (l : List MonitorRecord). IsNext l x) same next.0, next.1 ∙ ap (λ (l : List MonitorRecord). l ++ x ∷ []) room)
          | inr pass ↦ inr (λ next. pass.0 (subst (λ (l : List MonitorRecord). IsNext l x) (sym same) next), pass.1 ∙ room)
        ];
      }

  -- one more that was popped
  pub filled_more : (v u popped w : Monitor D) (x : MonitorRecord) → HasFilled v u → popped.seat ≡ u.seat → popped.trail ≡ u.trail → popped.room ≡ u.room → ArePopped (x ∷ []) u.end popped.end → HasTakenOne popped w x → HasFilled v w
  filled_more v u popped w x f seat trail room end t =
      let same : line popped ≡ line v ++ f.taken = ap (λ (s : _). line_of s.part popped.room) seat ∙ ap (λ (l : List MonitorRecord). line_of u.seat.part l) room ∙ filled_line v u f in
      let had = had_then [] [] v.seat u.seat w.seat f.had (subst (λ (s : _). HasHad [] s w.seat) seat t.had) in
      let more = popped_then f.front (x ∷ []) v.end u.end w.end f.popped (subst (λ (e : QueueEnd). ArePopped (x ∷ []) u.end e) (sym t.end) end) in
      elim t.taken [
        | inl next ↦ record {
          had = had;
          trail = t.trail ∙ trail ∙ f.trail;
          front = f.front ++ x ∷ [];
          popped = more;
          taken = f.taken ++ x ∷ [];
          are_taken = taken_push (line v) f.front f.taken x f.are_taken (subst (λ (l : List MonitorRecord). IsNext l x) same next.0);
          room = next.1 ∙ ap (λ (l : List MonitorRecord). l ++ x ∷ []) (room ∙ f.room) ∙ append_assoc v.room f.taken (x ∷ []);
        }
        | inr pass ↦ record {
          had = had;
          trail = t.trail ∙ trail ∙ f.trail;
          front = f.front ++ x ∷ [];
          popped = more;
          taken = f.taken;
          are_taken = taken_pass (line v) f.front f.taken x f.are_taken (λ next. pass.0 (subst (λ (l : List MonitorRecord). IsNext l x) (sym same) next));
          room = pass.1 ∙ room ∙ f.room;
        }
      ]

  -- and at last none was found
  pub filled_empty : (v u w : Monitor D) → HasFilled v u → w.seat ≡ u.seat → w.trail ≡ u.trail → w.room ≡ u.room → ArePopped [] u.end w.end → HasFilled v w
  filled_empty v u w f seat trail room end = record {
    had = subst (λ (s : _). HasHad [] v.seat s) (sym seat) f.had;
    trail = trail ∙ f.trail;
    front = f.front;
    popped = subst (λ (l : List MonitorRecord). ArePopped l v.end w.end) (append-nil f.front) (popped_then f.front [] v.end u.end w.end f.popped end);
    taken = f.taken;
    are_taken = f.are_taken;
    room = room ∙ f.room;
  }

  -- LINES

  pub line_after_land : (v w : Monitor D) → HasHad (Land ∷ []) v.seat w.seat → w.room ≡ v.room → line w ≡ line v
  line_after_land v w had room =
      ap (λ (p : MonitorPart). line_of p w.room) had.part
      ∙ ap (λ (l : List MonitorRecord). (recorded v.seat.part.events ++ offered_car v.seat.part.events) ++ l) room
      ∙ line_landed (recorded v.seat.part.events) (offered_car v.seat.part.events) v.room

  pub line_after_offer : (v w : Monitor D) → HasHad (Offer v.room ∷ []) v.seat w.seat → w.room ≡ [] → offered_batch v ≡ [] → line w ≡ line v
  line_after_offer v w had room none =
      ap (λ (p : MonitorPart). line_of p w.room) had.part
      ∙ ap (λ (l : List MonitorRecord). recorded v.seat.part.events ++ (v.room ++ l)) room
      ∙ line_offered (recorded v.seat.part.events) (offered_car v.seat.part.events) v.room none

  pub line_after_fault : (by : By) (v w : Monitor D) → HasHad (Failed by ∷ []) v.seat w.seat → w.room ≡ v.room → line w ≡ line v
  line_after_fault by v w had room = ap (λ (p : MonitorPart). line_of p w.room) had.part ∙ ap (λ (l : List MonitorRecord). line_of v.seat.part l) room

  -- nothing was taken
  pub line_same : (v w : Monitor D) → line w ≡ line v → w.end ≡ v.end → HasLine v w
  line_same v w same end = record { front = []; popped = popped_same v.end w.end end; taken = []; are_taken = refl; line_is = same ∙ sym (append-nil (line v)) }

  -- some were taken, and then the line was the same
  pub line_filled : (v u w : Monitor D) → HasFilled v u → line w ≡ line u → w.end ≡ u.end → HasLine v w
  line_filled v u w f same end = record {
    front = f.front;
    popped = subst (λ (e : QueueEnd). ArePopped f.front v.end e) (sym end) f.popped;
    taken = f.taken;
    are_taken = f.are_taken;
    line_is = same ∙ filled_line v u f;
  }

  -- the seat told and heard alone
  pub line_met : (v w : Monitor D) → w.seat.part ≡ v.seat.part → w.room ≡ v.room → w.end ≡ v.end → HasLine v w
  line_met v w part room end = line_same v w (ap (λ (p : MonitorPart). line_of p w.room) part ∙ ap (λ (l : List MonitorRecord). line_of v.seat.part l) room) end

  -- one call behind the other
  pub line_then : (u v w : Monitor D) → HasLine u v → HasLine v w → HasLine u w
  line_then u v w p q = record {
    front = p.front ++ q.front;
    popped = popped_then p.front q.front u.end v.end w.end p.popped q.popped;
    taken = p.taken ++ q.taken;
    are_taken = taken_then (line u) p.front p.taken q.front q.taken p.are_taken (subst (λ (l : List MonitorRecord). AreTaken l q.front q.taken) p.line_is q.are_taken);
    line_is = q.line_is ∙ ap (λ (l : List MonitorRecord). l ++ q.taken) p.line_is ∙ append_assoc (line u) p.taken q.taken;
  }

  -- a request's own car was not needed
  pub line_for : (x : MonitorRecord) (v w : Monitor D) → HasLine v w → HasLineFor x v w
  line_for x v w p = record { front = p.front; popped = p.popped; taken = p.taken; are_taken = p.are_taken; own = []; own_is = inl refl; line_is = p.line_is ∙ sym (append-nil (line v ++ p.taken)) }

  -- and behind other calls
  pub line_for_then : (x : MonitorRecord) (u v w : Monitor D) → HasLine u v → HasLineFor x v w → HasLineFor x u w
  line_for_then x u v w p q = record {
    front = p.front ++ q.front;
    popped = popped_then p.front q.front u.end v.end w.end p.popped q.popped;
    taken = p.taken ++ q.taken;
    are_taken = taken_then (line u) p.front p.taken q.front q.taken p.are_taken (subst (λ (l : List MonitorRecord). AreTaken l q.front q.taken) p.line_is q.are_taken);
    own = q.own;
    own_is = q.own_is;
    line_is = q.line_is ∙ ap (λ (l : List MonitorRecord). (l ++ q.taken) ++ q.own) p.line_is ∙ ap (λ (l : List MonitorRecord). l ++ q.own) (append_assoc (line u) p.taken q.taken);
  }

  -- then the line was the same
  pub line_for_same : (x : MonitorRecord) (v u w : Monitor D) → HasLineFor x v u → line w ≡ line u → w.end ≡ u.end → HasLineFor x v w
  line_for_same x v u w p same end = record {
    front = p.front;
    popped = subst (λ (e : QueueEnd). ArePopped p.front v.end e) (sym end) p.popped;
    taken = p.taken;
    are_taken = p.are_taken;
    own = p.own;
    own_is = p.own_is;
    line_is = same ∙ p.line_is;
  }

  -- a request that is later than all of the line is taken behind it
  pub line_for_taken : (x : MonitorRecord) (v u : Monitor D) → HasTakenOne v u x → IsNext (line v) x → HasLineFor x v u
  line_for_taken x v u t next =
      let room : u.room ≡ v.room ++ x ∷ [] = elim t.taken [ inl took ↦ took.1 | inr passed ↦ absurd (passed.0 next) ] in
      record {
        front = [];
        popped = popped_same v.end u.end t.end;
        taken = [];
        are_taken = refl;
        own = x ∷ [];
        own_is = inr refl;
        line_is =
            ap (λ (p : MonitorPart). line_of p u.room) t.had.part
            ∙ ap (λ (l : List MonitorRecord). line_of v.seat.part l) room
            ∙ line_taken (recorded v.seat.part.events) (offered_car v.seat.part.events) v.room (x ∷ [])
            ∙ ap (λ (l : List MonitorRecord). l ++ x ∷ []) (sym (append-nil (line v)));
      }

  -- a car of that request alone is offered
  pub line_for_offered : (x : MonitorRecord) (v u w : Monitor D) → HasTakenOne v u x → IsIdle v → IsNext (line v) x → HasHad (Offer u.room ∷ []) u.seat w.seat → w.room ≡ [] → w.end ≡ u.end → HasLineFor x v w
  line_for_offered x v u w t idle next had empty end =
      line_for_same x v u w (line_for_taken x v u t next) (line_after_offer u w had empty (ap (λ (p : MonitorPart). offered_car p.events) t.had.part ∙ idle.none)) end

  -- CARS

  pub made : (v u offered w : Monitor D) → HasFilled v u → offered_batch v ≡ [] → 0 < length u.room → (length u.room < 64 → HasFoundEmpty v.end u.end) → HasHad (Offer u.room ∷ []) u.seat offered.seat → offered.room ≡ [] → offered.end ≡ u.end
      → HasHad (Land ∷ []) offered.seat w.seat → w.room ≡ offered.room → w.end ≡ offered.end → HasMade v w (length u.room)
  made v u offered w f none some all offer empty still land room end =
      let had = had_then (Offer u.room ∷ []) (Land ∷ []) v.seat offered.seat w.seat (had_then [] (Offer u.room ∷ []) v.seat u.seat offered.seat f.had offer) land in
      record {
        none = none;
        front = f.front;
        popped = subst (λ (e : QueueEnd). ArePopped f.front v.end e) (sym (end ∙ still)) f.popped;
        taken = f.taken;
        are_taken = f.are_taken;
        count_is = ap (λ (l : List MonitorRecord). length l) f.room;
        had = subst (λ (l : List MonitorRecord). HasHad (car_events l) v.seat w.seat) f.room (subst (λ (es : List MonitorEvent). HasHad es v.seat w.seat) (sym (car_some u.room some)) had);
        room = room ∙ empty;
        all = λ less. subst (λ (e : QueueEnd). HasFoundEmpty v.end e) (sym (end ∙ still)) (all less);
      }

  pub made_none : (v u : Monitor D) → HasFilled v u → offered_batch v ≡ [] → length u.room ≡ 0 → (length u.room < 64 → HasFoundEmpty v.end u.end) → HasMade v u (length u.room)
  made_none v u f none empty all =
      let nothing : u.room ≡ [] = no_items u.room empty in
      record {
        none = none;
        front = f.front;
        popped = f.popped;
        taken = f.taken;
        are_taken = f.are_taken;
        count_is = ap (λ (l : List MonitorRecord). length l) f.room;
        had = subst (λ (l : List MonitorRecord). HasHad (car_events l) v.seat u.seat) (sym nothing ∙ f.room) f.had;
        room = nothing;
        all = all;
      }

  -- a call failed behind these events
  pub stopped_then : (by : By) (es : List MonitorEvent) (v u w : Monitor D) → HasHad es v.seat u.seat → HasStopped by u w → HasStopped by v w
  stopped_then by es v u w had s = (
    es ++ s.0,
    subst (λ (l : List MonitorEvent). HasHad l v.seat w.seat) (sym (append_assoc es s.0 (Failed by ∷ []))) (had_then es (s.0 ++ Failed by ∷ []) v.seat u.seat w.seat had s.1),
  )

  -- DRIVING

  pub driven_none : (v : Monitor D) → HasDriven v v
  driven_none v = ([], had_none v.seat)

  pub car_driven : (v w : Monitor D) (count : ℕ) → HasCar v w count → HasDriven v w
  car_driven v w count (inl gated) = (Land ∷ [], gated.had)
  car_driven v w count (inr made) = (car_events (v.room ++ made.taken), made.had)

  pub driven_then : (u v w : Monitor D) → HasDriven u v → HasDriven v w → HasDriven u w
  driven_then u v w p q = (p.0 ++ q.0, had_then p.0 q.0 u.seat v.seat w.seat p.1 q.1)

  made_none_offered : (v w : Monitor D) (count : ℕ) → HasMade v w count → offered_batch w ≡ []
  made_none_offered v w count made = ap (λ (p : MonitorPart). offered_car p.events) made.had.part ∙ none_after_car v.seat.part (v.room ++ made.taken) made.none

  -- where no car was made, all that was taken has landed
  pub idle_after : (v w : Monitor D) (count : ℕ) → HasCar v w count → count ≡ 0 → IsIdle w
  idle_after v w count (inl gated) zero_ = (let is = gated.count_is in absurd (gated.some (no_items (offered_batch v) (sym is ∙ zero_))))
  idle_after v w count (inr made) zero_ = record { none = made_none_offered v w count made; empty = made.room }

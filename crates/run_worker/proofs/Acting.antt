-- What a step makes of what its worker knows, of its seat and of its transaction, where it was carried out in one hold of its disc's lock.
use Rattle.std.specs.Prelude.{◌⊎◌, ◌==◌, ◌<◌, ◌+◌, if◌then◌else◌}
use Rattle.std.specs.List.{list_any}
use Rattle.std.specs.Option.{option_map_or}
use Rattle.std.proofs.Common.{◌≡◌, inl, inr, ⊎_elim, ℕ, Bool, true, false, List, [], ◌∷◌, ◌++◌, length, append-nil, append_assoc, Option, Some, Result, refl, ap, sym, ◌∙◌, subst, arith, slice_get}
use Rattle.std.proofs.lemmas.Bool.{eq-eqb}
use Rattle.std.proofs.lemmas.List.{append_cancel_left}
use mathlib.Core.List.{IsPrefix}
use Rattle.chronicle.specs.Histories.{events_of, states_after}
use Rattle.chronicle.specs.Seats.{own_events}
use Rattle.chronicle.proofs.Facts.{own_events_of, state_of_part}
use Rattle.chronicle.proofs.States.{same_state}
use Rattle.disk_model.specs.declared.disk.Disk as disk
use Rattle.tmf_model.specs.declared.config.Config.{Config}
use Rattle.tmf_model.specs.declared.script.Step.{Step}
use Rattle.tmf_model.specs.declared.transid.Transid.{Transid}
use Rattle.node_machine.specs.Acts.{actor}
use Rattle.node_machine.specs.Deeds.{Log}
use Rattle.node_machine.specs.Made.{volume_of}
use Rattle.node_machine.specs.Node.{node}
use Rattle.node_machine.specs.Opening.{disc_part, trail_part, worker_part}
use Rattle.node_machine.specs.Parts.{PartState}
use Rattle.node_machine.specs.Parts.PartState.{Disc}
use Rattle.node_machine.specs.Same.{Among}
use Rattle.node_machine.specs.SameLaws.{among_append, among_right}
use Rattle.node_machine.specs.Trail.{trail_of}
use Rattle.node_machine.specs.declared.event.DiscEvent.{DiscEvent}
use Rattle.node_machine.specs.declared.event.Event.{Event}
use Rattle.node_machine.specs.declared.event.Event.TheVariants.{OfDisc, OfWorker}
use Rattle.node_machine.specs.declared.event.WorkerEvent.TheVariants.{Enlist}
use Rattle.txn_states.specs.Txn.{Txn, enlistings}
use Rattle.disc_process.specs.declared.refused.WriteRefused.{WriteRefused}
use Rattle.disc_process.specs.Coming.{is_coming_of}
use Rattle.disc_process.specs.Disc.{DiscView}
use Rattle.disc_process.specs.Draw.{AreDraws}
use Rattle.disc_process.specs.Later.{IsLaterTxn, IsLawful}
use Rattle.disc_process.specs.Write.{IsEnlisted, IsIdle, WasFit}
use Rattle.disc_lock.specs.Tokens.{is_told}
use Rattle.backout.specs.Backed.{HasCome}
use Rattle.run_outcomes.specs.Ends.{next_in}
use Rattle.run_outcomes.specs.Knowing.{OnceLaw, StillLaw}
use Rattle.run_outcomes.specs.Reach.{HasActed}
use Rattle.run_outcomes.specs.Told.{last_position}
use Rattle.run_worker.specs.Steps.{HasMadeStep, IsOneAct, MayHaveEnlisted, WasWithin}
use Rattle.run_worker.proofs.Entries.{entries_append, last_stands, seen_on}
use Rattle.run_worker.proofs.Told.{Told}

module _ {D : Type 0} (kind : disk.Ghosts D) (opening : List PartState) (config : Config) (first last : DiscView D) (volume : ℕ) (t_old t_new : Txn) (named : first.part.number ≡ volume) (configured : first.part.config ≡ config)
    (lawful : IsLawful kind opening first) (place : last.seat.part ≡ first.seat.part) (seen : t_new.seat.seen ≡ last.seat.seen) where
  -- the disc's seats are those of the volume's disc
  pub disc_here : first.seat.part ≡ Some (disc_part volume)
  disc_here = lawful.place ∙ ap (λ (n : ℕ). Some (disc_part n)) named

  -- the state of the disc's part, as long as it has had no event more
  pub disc_state : (entries : Log) → events_of (disc_part volume) entries ≡ own_events first.seat → slice_get (states_after node opening entries) (disc_part volume) ≡ Some (Disc first.part)
  disc_state entries same =
      same_state node (disc_part volume) opening entries first.seat.seen (same ∙ own_events_of first.seat (disc_part volume) disc_here)
      ∙ sym (state_of_part node opening first.seat (disc_part volume) disc_here)
      ∙ lawful.at

  -- an act behind draws stands in what the seat has then seen, and was within the limit
  pub act_within : (act : Event) (drawn : List Event) → t_old.seat.part ≡ Some (worker_part t_old.tx.worker) → WasFit first last t_old → AreDraws drawn → own_events last.seat ≡ (own_events first.seat ++ drawn) ++ act ∷ [] → WasWithin opening config volume t_old.tx t_old.seat t_new.seat act
  act_within act drawn actor_is fit draws told =
      let p = disc_part volume in
      let more : Log = fit.before.0 in
      let at : events_of p fit.seen ≡ own_events first.seat = ap (λ (n : ℕ). events_of (disc_part n) fit.seen) (sym named) ∙ fit.own in
      let whole : fit.seen ++ more ≡ t_new.seat.seen = fit.before.1 ∙ sym seen in
      let own : own_events last.seat ≡ events_of p fit.seen ++ events_of p more = own_events_of last.seat p (place ∙ disc_here) ∙ ap (events_of p) (sym fit.before.1) ∙ entries_append p fit.seen more in
      let behind : events_of p more ≡ drawn ++ act ∷ [] =
      append_cancel_left (own_events first.seat) (events_of p more) (drawn ++ act ∷ []) (ap (λ (l : List Event). l ++ events_of p more) (sym at) ∙ sym own ∙ told ∙ append_assoc (own_events first.seat) drawn (act ∷ [])) in
      let r = last_stands p act drawn more behind in
      record {
        front = fit.seen ++ r.front;
        rest = r.rest;
        stands = sym whole ∙ ap (λ (l : Log). fit.seen ++ l) r.stands ∙ sym (append_assoc fit.seen r.front ((p, act) ∷ r.rest));
        moment = fit.seen;
        met = fit.met;
        before = (r.front, refl);
        drawn = drawn;
        drawn_is = entries_append p fit.seen r.front ∙ ap (λ (l : List Event). events_of p fit.seen ++ l) r.drawn_is;
        draws = draws;
        worker = subst (λ (l : List Event). length l < config.steps) (own_events_of t_old.seat (worker_part t_old.tx.worker) actor_is)
            (subst (λ (c : Config). length (own_events t_old.seat) < c.steps) configured fit.fit.worker);
        disc = subst (λ (l : List Event). length l < config.steps) (sym at) (subst (λ (c : Config). length (own_events first.seat) < c.steps) configured fit.fit.disc_events);
        trail = subst (λ (x : Config × ℕ). length (events_of (trail_part (trail_of x.0 x.1)) fit.seen) < x.0.steps) (λ j. (configured j, named j)) fit.fit.trail;
        position = subst (λ (o : Option PartState). next_in o < last_position) (sym (disc_state fit.seen at)) fit.fit.position;
      }

  -- the worker knows the act, which it has paid for
  pub act_known : OnceLaw → (act : Event) (before after : ℕ) → actor act ≡ Some t_old.tx → WasWithin opening config volume t_old.tx t_old.seat t_new.seat act → after + 1 ≡ before
      → HasActed t_old.tx.worker (record { seat = t_old.seat; tokens = before }) (record { seat = t_new.seat; tokens = after }) ((disc_part volume, act) ∷ [])
  act_known once act before after its w given =
      let entry : ℕ × Event = (disc_part volume, act) in
      let behind : Log = w.before.0 ++ entry ∷ w.rest in
      once t_old.tx.worker (record { seat = t_old.seat; tokens = before }) (record { seat = t_new.seat; tokens = after }) entry (record {
        own = ap (λ (o : Option Transid). option_map_or (λ (t : Transid). t.worker == t_old.tx.worker) o false) its ∙ eq-eqb t_old.tx.worker t_old.tx.worker refl;
        more = w.met.0 ++ behind;
        seen = w.stands ∙ ap (λ (l : Log). l ++ entry ∷ w.rest) (sym w.before.1) ∙ append_assoc w.moment w.before.0 (entry ∷ w.rest) ∙ ap (λ (l : Log). l ++ behind) (sym w.met.1) ∙ append_assoc t_old.seat.seen w.met.0 behind;
        among = among_right w.met.0 behind entry (among_right w.before.0 (entry ∷ w.rest) entry (inl refl));
        given = given;
      })

  enlisted_by : (b : Bool) → (old new : List Event) → new ≡ old ++ (if b then [] else OfWorker (Enlist t_old.tx volume) ∷ []) → (new ≡ old) ⊎ (new ≡ old ++ OfWorker (Enlist t_old.tx volume) ∷ [])
  enlisted_by true old new h = inl (h ∙ append-nil old)
  enlisted_by false old new h = inr h

  -- the worker has had no event by the act, or has enlisted the disc
  act_worker : t_old.seat.part ≡ Some (worker_part t_old.tx.worker) → t_new.seat.part ≡ t_old.seat.part → IsIdle t_old t_new ⊎ IsEnlisted volume t_old t_new → MayHaveEnlisted t_old.tx volume t_old.seat.seen t_new.seat.seen
  act_worker actor_is same worker =
      let p = worker_part t_old.tx.worker in
      let before : own_events t_old.seat ≡ events_of p t_old.seat.seen = own_events_of t_old.seat p actor_is in
      let after : own_events t_new.seat ≡ events_of p t_new.seat.seen = own_events_of t_new.seat p (same ∙ actor_is) in
      ⊎_elim
      (λ (i : IsIdle t_old t_new). inl (sym after ∙ i.events ∙ before))
      (λ (e : IsEnlisted volume t_old t_new).
      enlisted_by (list_any (λ other. other == volume) t_old.discs) (events_of p t_old.seat.seen) (events_of p t_new.seat.seen) (sym after ∙ e.events ∙ ap (λ (l : List Event). l ++ enlistings t_old volume) before))
      worker

  volume_worker : IsIdle t_old t_new ⊎ IsEnlisted first.part.number t_old t_new → IsIdle t_old t_new ⊎ IsEnlisted volume t_old t_new
  volume_worker worker = subst (λ (n : ℕ). IsIdle t_old t_new ⊎ IsEnlisted n t_old t_new) named worker

  -- what the worker knows behind the step
  pub step_made : OnceLaw → StillLaw → t_old.seat.part ≡ Some (worker_part t_old.tx.worker) → t_new.seat.part ≡ t_old.seat.part → (step : Step) (answer : Result (Option (List ℕ)) WriteRefused) (before after : ℕ) → volume_of config step.file ≡ volume → IsPrefix t_old.seat.seen t_new.seat.seen
      → after + (if is_told answer then 1 else 0) ≡ before → Told kind first last volume t_old t_new step answer
      → HasMadeStep opening config t_old.tx step (record { seat = t_old.seat; tokens = before }) (record { seat = t_new.seat; tokens = after }) answer
  step_made once still actor_is same_place step answer before after here begins given (inl a) =
      let entry : ℕ × Event = (disc_part volume, OfDisc a.act) in
      let w = act_within (OfDisc a.act) a.drawn actor_is a.fit a.draws a.events in
      let worker = ⊎_elim (λ (i : IsIdle t_old t_new). inl i) (λ (e : IsEnlisted first.part.number t_old t_new × (is_coming_of a.act t_old.tx ≡ true)). inr e.0) a.worker in
      let paid : after + 1 ≡ before = subst (λ (b : Bool). after + (if b then 1 else 0) ≡ before) a.told given in
      record {
        acts = entry ∷ [];
        acted = act_known once (OfDisc a.act) before after a.its w paid;
        makes = a.makes;
        one = inr (subst (λ (n : ℕ). IsOneAct opening config n t_old.tx t_old.seat t_new.seat (entry ∷ [])) (sym here) (record { act = a.act; acts_are = refl; its = a.its; within = w; worker = act_worker actor_is same_place (volume_worker worker) }));
      }
  step_made once still actor_is same_place step answer before after here begins given (inr n) =
      let kept : after + 0 ≡ before = subst (λ (b : Bool). after + (if b then 1 else 0) ≡ before) n.untold given in
      record {
        acts = [];
        acted = still t_old.tx.worker (record { seat = t_old.seat; tokens = before }) (record { seat = t_new.seat; tokens = after }) begins (omega (arith, kept));
        makes = n.makes;
        one = inl refl;
      }

  -- the worker has had no event, or has enlisted the disc
  pub step_worker : (step : Step) (answer : Result (Option (List ℕ)) WriteRefused) → Told kind first last volume t_old t_new step answer → IsIdle t_old t_new ⊎ IsEnlisted volume t_old t_new
  step_worker step answer (inl a) = ⊎_elim (λ (i : IsIdle t_old t_new). inl i) (λ (e : IsEnlisted first.part.number t_old t_new × (is_coming_of a.act t_old.tx ≡ true)). inr (subst (λ (n : ℕ). IsEnlisted n t_old t_new) named e.0)) a.worker
  step_worker step answer (inr n) = inl n.worker

  enlisted_one : (b : Bool) (discs : List ℕ) (d x : ℕ) → Among (if b then discs else discs ++ d ∷ []) x → Among discs x ⊎ (d ≡ x)
  enlisted_one true discs d x h = inl h
  enlisted_one false discs d x h = ⊎_elim (λ (l : Among discs x). inl l) (λ (r : Among (d ∷ []) x). ⊎_elim (λ (e : d ≡ x). inr e) (λ (none : Among [] x). absurd none) r) (among_append discs (d ∷ []) x h)

  came_before : IsLaterTxn opening t_old t_new → HasCome t_old → (d : ℕ) → Among t_old.discs d → (e : DiscEvent) × (is_coming_of e t_new.tx ≡ true) × Among t_new.seat.seen (disc_part d, OfDisc e)
  came_before later came d there =
      let at = came d there in
      (at.0, subst (λ (t : Transid). is_coming_of at.0 t ≡ true) (sym later.tx) at.1, seen_on t_old.seat.seen t_new.seat.seen (disc_part d, OfDisc at.0) later.begins at.2)

  -- where it had come to each of its discs, it has come to the new one too
  pub step_come : t_old.seat.part ≡ Some (worker_part t_old.tx.worker) → (step : Step) (answer : Result (Option (List ℕ)) WriteRefused) → IsLaterTxn opening t_old t_new → Told kind first last volume t_old t_new step answer → HasCome t_old → HasCome t_new
  step_come actor_is step answer later (inr n) came = λ d there. came_before later came d (subst (λ (l : List ℕ). Among l d) n.worker.discs there)
  step_come actor_is step answer later (inl a) came = ⊎_elim
      (λ (i : IsIdle t_old t_new). λ d there. came_before later came d (subst (λ (l : List ℕ). Among l d) i.discs there))
      (λ (e : IsEnlisted first.part.number t_old t_new × (is_coming_of a.act t_old.tx ≡ true)). λ d there.
      ⊎_elim
      (λ (l : Among t_old.discs d). came_before later came d l)
      (λ (same : first.part.number ≡ d).
      let w = act_within (OfDisc a.act) a.drawn actor_is a.fit a.draws a.events in
      let entry : ℕ × Event = (disc_part volume, OfDisc a.act) in
      let stands : Among t_new.seat.seen entry = subst (λ (l : Log). Among l entry) (sym w.stands) (among_right w.front (entry ∷ w.rest) entry (inl refl)) in
      (a.act, subst (λ (t : Transid). is_coming_of a.act t ≡ true) (sym later.tx) e.1, subst (λ (n : ℕ). Among t_new.seat.seen (disc_part n, OfDisc a.act)) (sym named ∙ same) stands))
      (enlisted_one (list_any (λ other. other == first.part.number) t_old.discs) t_old.discs first.part.number d (subst (λ (l : List ℕ). Among l d) e.0.discs there)))
      a.worker

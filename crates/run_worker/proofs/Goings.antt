-- Steps one behind the other.
use Rattle.std.specs.Prelude.{◌⊎◌, ◌==◌, ◌≤◌, ◌<◌, if◌then◌else◌, ⊤, All}
use Rattle.std.specs.List.{filter, list_any}
use Rattle.std.proofs.Common.{◌≡◌, ◌+◌, inl, inr, ⊎_elim, ℕ, zero, suc, Bool, true, false, List, [], ◌∷◌, ◌++◌, length, map, take, append-nil, append_assoc, length-append, slice_get, get_or, Option, Some, Ok, Err, refl, ap, sym, ◌∙◌, subst, arith}
use Rattle.std.proofs.lemmas.List.{map-append, take_more, length-take-le}
use Rattle.std.proofs.lemmas.List.Elements.{All-push, All-same, filter-append}
use mathlib.Core.List.{IsPrefix}
use Rattle.chronicle.specs.Seats.{Sight, own_events}
use Rattle.tmf_model.specs.Commits.{numbered}
use Rattle.tmf_model.specs.declared.config.Config.{Config}
use Rattle.tmf_model.specs.declared.script.Step.{Step}
use Rattle.tmf_model.specs.declared.transid.Transid.{Transid}
use Rattle.node_machine.specs.Deeds.{Log, steps_done, turns_of, values_found}
use Rattle.node_machine.specs.Made.{volume_of}
use Rattle.node_machine.specs.Parts.{PartState}
use Rattle.node_machine.specs.Same.{Among}
use Rattle.node_machine.specs.SameLaws.{among_append}
use Rattle.node_machine.specs.declared.event.Cause.{Cause}
use Rattle.node_machine.specs.declared.event.Event.{Event}
use Rattle.node_machine.specs.declared.event.Event.TheVariants.{OfWorker}
use Rattle.node_machine.specs.declared.event.WorkerEvent.TheVariants.{Enlist}
use Rattle.txn_states.specs.Txn.{Txn, enlistings, with_disc}
use Rattle.disc_process.specs.declared.refused.WriteRefused.{WriteRefused}
use Rattle.disc_process.specs.declared.refused.WriteRefused.TheVariants as refused
use Rattle.disc_process.specs.Write.{IsEnlisted, IsIdle}
use Rattle.run_outcomes.specs.Concerned.{volumes_of_steps}
use Rattle.run_outcomes.specs.Knowing.{StillLaw, ThenLaw}
use Rattle.run_outcomes.specs.Reach.{HasActed, Reach}
use Rattle.run_outcomes.specs.Told.{is_read, read_numbers}
use Rattle.run_worker.specs.Going.{AreActs, HasGoneOn, HasOnlyEnlisted, turns_by}
use Rattle.run_worker.specs.Steps.{HasMadeStep, IsOneAct, StepMakes}
use Rattle.run_worker.proofs.Deeded.{steps_append, turns_append, values_append}
use Rattle.run_worker.proofs.Entries.{prefix_same, prefix_then}

-- one more read
pub numbers_more : (n : ℕ) (steps : List Step) (step : Step) → read_numbers n (steps ++ step ∷ []) ≡ read_numbers n steps ++ (if is_read step.op then (n + length steps) ∷ [] else [])
numbers_more n [] step = of (is_read step.op)
  where
    of : (b : Bool) → (if b then n ∷ [] else []) ≡ (if b then (n + 0) ∷ [] else [])
    of true = (let same : n ≡ n + 0 = omega arith in ap (λ (k : ℕ). k ∷ []) same)
    of false = refl
numbers_more n (s ∷ steps) step = of (is_read s.op) (numbers_more (suc n) steps step ∙ ap (λ (k : ℕ). read_numbers (suc n) steps ++ (if is_read step.op then k ∷ [] else [])) same)
  where
    same : suc n + length steps ≡ n + suc (length steps)
    same = omega arith

    of : (b : Bool) → read_numbers (suc n) (steps ++ step ∷ []) ≡ read_numbers (suc n) steps ++ (if is_read step.op then (n + suc (length steps)) ∷ [] else [])
        → (if b then n ∷ read_numbers (suc n) (steps ++ step ∷ []) else read_numbers (suc n) (steps ++ step ∷ []))
        ≡ (if b then n ∷ read_numbers (suc n) steps else read_numbers (suc n) steps) ++ (if is_read step.op then (n + suc (length steps)) ∷ [] else [])
    of true e = ap (λ (l : List ℕ). n ∷ l) e
    of false e = e

-- the item of a list at a place
pub at_place : (steps : List Step) (step : Step) (count : ℕ) → count < length steps → step ≡ get_or steps count step → slice_get steps count ≡ Some step
at_place [] step count few is = absurd (omega (arith, few))
at_place (s ∷ steps) step zero few is = ap (λ (x : Step). Some x) (sym is)
at_place (s ∷ steps) step (suc count) few is = at_place steps step count (omega (arith, few)) is

-- ROOM FOR THE READS

abbrev pub how_many : List Step → ℕ
how_many steps = length (filter (λ (s : Step). is_read s.op) steps)

many_one : (b : Bool) (s : Step) (l : List Step) → length (if b then s ∷ l else l) ≡ (if b then 1 else 0) + length l
many_one true s l = omega arith
many_one false s l = omega arith

-- a read that is to come has room left
pub room_left : (steps : List Step) (step : Step) (count : ℕ) → count < length steps → step ≡ get_or steps count step → is_read step.op ≡ true → how_many (take count steps) < how_many steps
room_left [] step count few is read = absurd (omega (arith, few))
room_left (s ∷ steps) step zero few is read =
    let here : is_read s.op ≡ true = ap (λ (x : Step). is_read x.op) (sym is) ∙ read in
    let size : how_many (s ∷ steps) ≡ 1 + how_many steps = many_one (is_read s.op) s (filter (λ (x : Step). is_read x.op) steps) ∙ ap (λ (b : Bool). (if b then 1 else 0) + how_many steps) here in
    omega (arith, size)
room_left (s ∷ steps) step (suc count) few is read =
    let rest = room_left steps step count (omega (arith, few)) is read in
    let front : how_many (s ∷ take count steps) ≡ (if is_read s.op then 1 else 0) + how_many (take count steps) = many_one (is_read s.op) s (filter (λ (x : Step). is_read x.op) (take count steps)) in
    let whole : how_many (s ∷ steps) ≡ (if is_read s.op then 1 else 0) + how_many steps = many_one (is_read s.op) s (filter (λ (x : Step). is_read x.op) steps) in
    omega (arith, rest, front, whole)

kept_one : (b : Bool) (x : ℕ × Option (List ℕ)) → length (if b then x ∷ [] else []) ≡ (if b then 1 else 0)
kept_one true x = refl
kept_one false x = refl

-- one step more has one read more, where it reads
pub kept_more : (steps : List Step) (step : Step) (count : ℕ) (old new : List (ℕ × Option (List ℕ))) (x : ℕ × Option (List ℕ)) → count < length steps → step ≡ get_or steps count step → length old ≡ how_many (take count steps)
    → new ≡ old ++ (if is_read step.op then x ∷ [] else []) → length new ≡ how_many (take (count + 1) steps)
kept_more steps step count old new x few is many kept =
    let front = take count steps in
    let next : take (count + 1) steps ≡ front ++ step ∷ [] = take_more steps count step few ∙ ap (λ (s : Step). front ++ s ∷ []) (sym is) in
    let size : length (old ++ (if is_read step.op then x ∷ [] else [])) ≡ length old + length (if is_read step.op then x ∷ [] else []) = length-append old (if is_read step.op then x ∷ [] else []) in
    let one = kept_one (is_read step.op) x in
    let split : how_many (front ++ step ∷ []) ≡ how_many front + how_many (step ∷ []) = ap (λ (l : List Step). length l) (filter-append (λ (s : Step). is_read s.op) front (step ∷ [])) ∙ length-append (filter (λ (s : Step). is_read s.op) front) (filter (λ (s : Step). is_read s.op) (step ∷ [])) in
    let last : how_many (step ∷ []) ≡ (if is_read step.op then 1 else 0) + 0 = many_one (is_read step.op) step [] in
    let was : length new ≡ length (old ++ (if is_read step.op then x ∷ [] else [])) = ap (λ (l : List (ℕ × Option (List ℕ))). length l) kept in
    let now : how_many (take (count + 1) steps) ≡ how_many (front ++ step ∷ []) = ap how_many next in
    omega (arith, size, one, split, last, was, now, many)

read_map : {B : Type 0} (f : ℕ × Option (List ℕ) → B) (b : Bool) (x : ℕ × Option (List ℕ)) → map f (if b then x ∷ [] else []) ≡ (if b then f x ∷ [] else [])
read_map f true x = refl
read_map f false x = refl

module _ (opening : List PartState) (config : Config) (t : Transid) where
  -- acts that go on up to a later moment
  acts_on : (old mid new : Sight Event) (acts : Log) → IsPrefix mid.seen new.seen → AreActs opening config t old acts mid → AreActs opening config t old acts new
  acts_on old mid new [] more are = prefix_then old.seen mid.seen new.seen are more
  acts_on old mid new (entry ∷ acts) more are = (are.0, are.1, are.2, are.3, acts_on are.1 mid new acts more are.4)

  acts_one : (old mid new : Sight Event) (acts : Log) (volume : ℕ) (entry : ℕ × Event) → AreActs opening config t old acts mid → IsOneAct opening config volume t mid new (entry ∷ []) → AreActs opening config t old (acts ++ entry ∷ []) new
  acts_one old mid new [] volume entry are one = (mid, new, are, (volume, one), prefix_same new.seen)
  acts_one old mid new (first ∷ acts) volume entry are one = (are.0, are.1, are.2, are.3, acts_one are.1 mid new acts volume entry are.4 one)

  -- a step behind others
  pub acts_more : (old mid new : Sight Event) (acts more : Log) (volume : ℕ) → IsPrefix mid.seen new.seen → AreActs opening config t old acts mid → (more ≡ []) ⊎ IsOneAct opening config volume t mid new more → AreActs opening config t old (acts ++ more) new
  acts_more old mid new acts more volume begins are (inl none) = subst (λ (l : Log). AreActs opening config t old l new) (sym (ap (λ (l : Log). acts ++ l) none ∙ append-nil acts)) (acts_on old mid new acts begins are)
  acts_more old mid new acts more volume begins are (inr one) =
      let here : IsOneAct opening config volume t mid new (_ ∷ []) = subst (λ (l : Log). IsOneAct opening config volume t mid new l) one.acts_are one in
      subst (λ (l : Log). AreActs opening config t old (acts ++ l) new) (sym one.acts_are) (acts_one old mid new acts volume _ are here)

  -- so many of the steps are carried out, and no turn has met the attempt
  pub record Gone (steps : List Step) (reads : List (ℕ × Option (List ℕ))) (old new : Reach) (count : ℕ) : Type 0 where
    pub acts : Log
    pub acted : HasActed t.worker old new acts
    pub are : AreActs opening config t old.seat acts new.seat
    pub done : steps_done t acts ≡ take count steps
    pub numbers : map (λ read. read.0) reads ≡ read_numbers 1 (take count steps)
    pub values : map (λ read. read.1) reads ≡ values_found t acts
    pub unturned : turns_of t acts ≡ []
    pub few : length acts ≤ count

  pub gone_none : StillLaw → (steps : List Step) (at : Reach) → Gone steps [] at at 0
  gone_none still steps at = record {
    acts = [];
    acted = still t.worker at at (prefix_same at.seat.seen) refl;
    are = prefix_same at.seat.seen;
    done = none steps;
    numbers = ap (λ (l : List Step). read_numbers 1 l) (none steps);
    values = refl;
    unturned = refl;
    few = omega arith;
  }
    where
      none : (l : List Step) → [] ≡ take 0 l
      none [] = refl
      none (s ∷ l) = refl

  few_acts : (old new : Sight Event) (volume : ℕ) (acts : Log) → (acts ≡ []) ⊎ IsOneAct opening config volume t old new acts → length acts ≤ 1
  few_acts old new volume acts (inl none) = (let size : length acts ≡ 0 = ap (λ (l : Log). length l) none in omega (arith, size))
  few_acts old new volume acts (inr one) = (let size : length acts ≡ 1 = ap (λ (l : Log). length l) one.acts_are in omega (arith, size))

  -- with those of a step more there is one more at most
  few_more : (old new : Sight Event) (volume count : ℕ) (before acts : Log) → length before ≤ count → (acts ≡ []) ⊎ IsOneAct opening config volume t old new acts → length (before ++ acts) ≤ count + 1
  few_more old new volume count before acts few one =
      let size : length (before ++ acts) ≡ length before + length acts = length-append before acts in
      let here = few_acts old new volume acts one in
      omega (arith, size, here, few)

  took : (steps : List Step) (step : Step) (count : ℕ) → count < length steps → step ≡ get_or steps count step → take (count + 1) steps ≡ take count steps ++ step ∷ []
  took steps step count few is = take_more steps count step few ∙ ap (λ (s : Step). take count steps ++ s ∷ []) (sym is)

  -- one step more
  pub gone_more : ThenLaw → (steps : List Step) (reads : List (ℕ × Option (List ℕ))) (old mid new : Reach) (count number : ℕ) (step : Step) (value : Option (List ℕ))
      → count < length steps → step ≡ get_or steps count step → number ≡ count + 1 → IsPrefix mid.seat.seen new.seat.seen → Gone steps reads old mid count → HasMadeStep opening config t step mid new (Ok value)
      → Gone steps (reads ++ (if is_read step.op then (number, value) ∷ [] else [])) old new (count + 1)
  gone_more then_ steps reads old mid new count number step value few is number_is begins g m =
      let front = take count steps in
      let next : take (count + 1) steps ≡ front ++ step ∷ [] = took steps step count few is in
      let size : length front ≡ count = length-take-le count steps (omega (arith, few)) in
      let place : 1 + length front ≡ number = omega (arith, size, number_is) in
      let read : List (ℕ × Option (List ℕ)) = if is_read step.op then (number, value) ∷ [] else [] in
      record {
        acts = g.acts ++ m.acts;
        acted = then_ t.worker old mid new g.acts m.acts g.acted m.acted;
        are = acts_more old.seat mid.seat new.seat g.acts m.acts _ begins g.are m.one;
        done = steps_append t g.acts m.acts ∙ ap (λ (l : List Step). l ++ steps_done t m.acts) g.done ∙ ap (λ (l : List Step). front ++ l) m.makes.done ∙ sym next;
        numbers = map-append (λ read. read.0) reads read
            ∙ ap (λ (l : List ℕ). l ++ map (λ read. read.0) read) g.numbers
            ∙ ap (λ (l : List ℕ). read_numbers 1 front ++ l) (read_map (λ read. read.0) (is_read step.op) (number, value) ∙ ap (λ (k : ℕ). if is_read step.op then k ∷ [] else []) (sym place))
            ∙ sym (numbers_more 1 front step)
            ∙ ap (λ (l : List Step). read_numbers 1 l) (sym next);
        values = map-append (λ read. read.1) reads read
            ∙ ap (λ (l : List (Option (List ℕ))). l ++ map (λ read. read.1) read) g.values
            ∙ ap (λ (l : List (Option (List ℕ))). values_found t g.acts ++ l) (read_map (λ read. read.1) (is_read step.op) (number, value) ∙ sym m.makes.found)
            ∙ sym (values_append t g.acts m.acts);
        unturned = turns_append t g.acts m.acts ∙ ap (λ (l : List Cause). l ++ turns_of t m.acts) g.unturned ∙ m.makes.unturned;
        few = few_more mid.seat new.seat _ count g.acts m.acts g.few m.one;
      }

  -- all steps are carried out
  pub gone_whole : (steps : List Step) (reads : List (ℕ × Option (List ℕ))) (old new : Reach) (count : ℕ) → count ≡ length steps → Gone steps reads old new count → (all : ⊤) → HasGoneOn opening config t steps reads old new (Ok all)
  gone_whole steps reads old new count whole g all = record { acts = g.acts; acted = g.acted; are = g.are; last = record { first = g.acts; last = []; acts_are = sym (append-nil g.acts); unturned = g.unturned; few = omega arith }; few = (let most = g.few in omega (arith, most, whole)); count = count; done = g.done; numbers = g.numbers; values = g.values; end = (whole, g.unturned) }

  refused_done : (step : Step) (refusal : WriteRefused) (acts : Log) → StepMakes t step (Err refusal) acts → (steps_done t acts ≡ []) × (values_found t acts ≡ []) × (turns_of t acts ≡ turns_by step refusal)
  refused_done step (refused.Spent part) acts none = (ap (steps_done t) none, ap (values_found t) none, ap (turns_of t) none)
  refused_done step (refused.Busy holder) acts m = (m.done, m.found, m.turned)
  refused_done step refused.NoMemory acts none = (ap (steps_done t) none, ap (values_found t) none, ap (turns_of t) none)
  refused_done step (refused.Failed device) acts none = (ap (steps_done t) none, ap (values_found t) none, ap (turns_of t) none)
  refused_done step (refused.Damaged device damage) acts none = (ap (steps_done t) none, ap (values_found t) none, ap (turns_of t) none)
  refused_done step refused.Full acts m = (m.done, m.found, m.turned)
  refused_done step (refused.Refused reason) acts m = (m.done, m.found, m.turned)

  -- the next step was refused
  pub gone_stopped : ThenLaw → (steps : List Step) (reads : List (ℕ × Option (List ℕ))) (old mid new : Reach) (count number : ℕ) (step : Step) (refusal : WriteRefused)
      → count < length steps → step ≡ get_or steps count step → number ≡ count + 1 → IsPrefix mid.seat.seen new.seat.seen → Gone steps reads old mid count → HasMadeStep opening config t step mid new (Err refusal)
      → HasGoneOn opening config t steps reads old new (Err (number, refusal))
  gone_stopped then_ steps reads old mid new count number step refusal few is number_is begins g m =
      let none = refused_done step refusal m.acts m.makes in
      let next : number ≡ suc count = omega (arith, number_is) in
      record {
        acts = g.acts ++ m.acts;
        acted = then_ t.worker old mid new g.acts m.acts g.acted m.acted;
        are = acts_more old.seat mid.seat new.seat g.acts m.acts _ begins g.are m.one;
        last = record { first = g.acts; last = m.acts; acts_are = refl; unturned = g.unturned; few = few_acts mid.seat new.seat _ m.acts m.one };
        few = (let most = few_more mid.seat new.seat _ count g.acts m.acts g.few m.one in omega (arith, most, few));
        count = count;
        done = steps_append t g.acts m.acts ∙ ap (λ (l : List Step). l ++ steps_done t m.acts) g.done ∙ ap (λ (l : List Step). take count steps ++ l) none.0 ∙ append-nil (take count steps);
        numbers = g.numbers;
        values = g.values ∙ sym (values_append t g.acts m.acts ∙ ap (λ (l : List (Option (List ℕ))). values_found t g.acts ++ l) none.1 ∙ append-nil (values_found t g.acts));
        end = record {
          number_is = next;
          step = step;
          at = ap (λ (n : ℕ). numbered steps n) next ∙ at_place steps step count few is;
          turned = turns_append t g.acts m.acts ∙ ap (λ (l : List Cause). l ++ turns_of t m.acts) g.unturned ∙ none.2;
        };
      }

-- THE WORKER'S OWN EVENTS

enlistings_if : (t : Transid) (d : ℕ) (b : Bool) (discs : List ℕ)
    → (more : List ℕ) × ((if b then [] else OfWorker (Enlist t d) ∷ []) ≡ map (λ disc. OfWorker (Enlist t disc)) more) × ((if b then discs else discs ++ d ∷ []) ≡ discs ++ more) × ((x : ℕ) → Among more x → d ≡ x)
enlistings_if t d true discs = ([], refl, sym (append-nil discs), λ x h. absurd h)
enlistings_if t d false discs = (d ∷ [], refl, refl, λ x h. ⊎_elim (λ (is : d ≡ x). is) (λ (none : Among [] x). absurd none) h)

-- the volume of a step is one of those that the steps name
pub volume_there : (config : Config) (steps : List Step) (place : ℕ) (step : Step) → slice_get steps place ≡ Some step → Among (volumes_of_steps config steps) (volume_of config step.file)
volume_there config [] place step at = absurd (cc (at))
volume_there config (s ∷ steps) zero step at = (let same : s ≡ step = cc (at) in inl (ap (λ (x : Step). volume_of config x.file) same))
volume_there config (s ∷ steps) (suc place) step at = inr (volume_there config steps place step at)

pub only_none : (volumes : List ℕ) (t : Txn) → HasOnlyEnlisted volumes t t
only_none volumes t = record { more = []; of_them = λ disc h. absurd h; events = sym (append-nil (own_events t.seat)); discs = sym (append-nil t.discs) }

of_both : (volumes xs ys : List ℕ) → ((d : ℕ) → Among xs d → Among volumes d) → ((d : ℕ) → Among ys d → Among volumes d) → (d : ℕ) → Among (xs ++ ys) d → Among volumes d
of_both volumes xs ys one two d h = ⊎_elim (λ (l : Among xs d). one d l) (λ (r : Among ys d). two d r) (among_append xs ys d h)

pub only_more : (volumes : List ℕ) (old mid new : Txn) (volume : ℕ) → Among volumes volume → mid.tx ≡ old.tx → HasOnlyEnlisted volumes old mid → IsIdle mid new ⊎ IsEnlisted volume mid new → HasOnlyEnlisted volumes old new
only_more volumes old mid new volume there same only (inl idle) = record { more = only.more; of_them = only.of_them; events = idle.events ∙ only.events; discs = idle.discs ∙ only.discs }
only_more volumes old mid new volume there same only (inr on) =
    let enlist : ℕ → Event = λ disc. OfWorker (Enlist old.tx disc) in
    let its = enlistings_if mid.tx volume (list_any (λ other. other == volume) mid.discs) mid.discs in
    let named : enlistings mid volume ≡ map enlist its.0 = its.1 ∙ ap (λ (t : Transid). map (λ disc. OfWorker (Enlist t disc)) its.0) same in
    record {
      more = only.more ++ its.0;
      of_them = of_both volumes only.more its.0 only.of_them (λ d h. subst (λ (n : ℕ). Among volumes n) (its.3 d h) there);
      events = on.events
          ∙ ap (λ (l : List Event). l ++ enlistings mid volume) only.events
          ∙ append_assoc (own_events old.seat) (map enlist only.more) (enlistings mid volume)
          ∙ ap (λ (l : List Event). own_events old.seat ++ (map enlist only.more ++ l)) named
          ∙ ap (λ (l : List Event). own_events old.seat ++ l) (sym (map-append enlist only.more its.0));
      discs = on.discs ∙ its.2 ∙ ap (λ (l : List ℕ). l ++ its.0) only.discs ∙ append_assoc old.discs only.more its.0;
    }

-- what is so of each disc that was enlisted, and of the new one, is so of all
pub all_more : (P : ℕ → Type 0) (old new : Txn) (volume : ℕ) → P volume → IsIdle old new ⊎ IsEnlisted volume old new → All P old.discs → All P new.discs
all_more P old new volume here (inl idle) all = All-same P new.discs old.discs idle.discs all
all_more P old new volume here (inr on) all = All-same P new.discs (with_disc volume old.discs) on.discs (of _)
  where
    of : (b : Bool) → All P (if b then old.discs else old.discs ++ volume ∷ [])
    of true = all
    of false = All-push P old.discs volume all here

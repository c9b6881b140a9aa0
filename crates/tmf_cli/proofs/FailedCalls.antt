-- The attempts of a run that tell of a device are no more than its failed calls.
use Rattle.std.specs.Prelude.{cond, map}
use Rattle.std.specs.List.{AllByRecursion, cons_option, filter, filter_map}
use Rattle.std.proofs.Common.{suc, true, false, ◌≡◌, ◌≢◌, ◌⊎◌, ◌==◌, ◌≤◌, ◌<◌, ◌++◌, ◌∷◌, [], ℕ, Bool, List, length, Option, Some, None, refl, sym, ap, subst, ◌∙◌, inl, inr, ⊎_elim, arith, eqb-true}
use Rattle.std.proofs.lemmas.Bool.{eq-eqb}
use Rattle.std.proofs.lemmas.List.{length-map, map-append}
use Rattle.std.proofs.lemmas.Option.{none-some}
use Rattle.chronicle.specs.Histories.{events_of}
use Rattle.tmf_model.specs.declared.script.Item.{Item}
use Rattle.tmf_model.specs.declared.script.Phase.{Phase}
use Rattle.tmf_model.specs.declared.transid.Transid.{Transid}
use Rattle.node_machine.specs.Deeds.{HasFailedFor, Log}
use Rattle.node_machine.specs.Same.{Among}
use Rattle.node_machine.specs.declared.event.By.TheVariants.{Attempt}
use Rattle.node_machine.specs.declared.event.DiscEvent.TheVariants.{Failed as DiscFailed}
use Rattle.node_machine.specs.declared.event.DumpEvent.TheVariants.{Failed as DumpFailed}
use Rattle.node_machine.specs.declared.event.Event.{Event}
use Rattle.node_machine.specs.declared.event.Event.TheVariants.{OfDisc, OfDump, OfMonitor, OfTrail}
use Rattle.node_machine.specs.declared.event.MonitorEvent.TheVariants.{Failed as MonitorFailed}
use Rattle.node_machine.specs.declared.event.TrailEvent.TheVariants.{Failed as TrailFailed}
use Rattle.run_outcomes.specs.Devices.{devices, part_of_device}
use Rattle.run_outcomes.specs.Ends.{is_failure, times_failed}
use Rattle.run_outcomes.specs.Outcomes.{AreAttempts, AreOfItems, AreOfWorkers, AreOutcomesOf, first_attempt, most_attempts, next_attempt}
use Rattle.run_outcomes.specs.Told.{Account, AreTold, HasDeviceFailed, IsTold}
use Rattle.run_outcomes.specs.declared.outcome.Hang.TheVariants as hang
use Rattle.run_outcomes.specs.declared.outcome.Outcome.{Outcome}
use Rattle.run_outcomes.specs.declared.outcome.Told.{Told}
use Rattle.run_outcomes.specs.declared.outcome.Told.TheVariants as told
use Rattle.tmf_cli.specs.Counts.{times_named}

-- LISTS

abbrev AreApart : {T : Type 0} → List T → Type 0
AreApart [] = Unit {0}
AreApart (x ∷ xs) = (Among xs x → ⊥) × AreApart xs

module _ {T : Type 0} where
  among-either : (xs ys : List T) (x : T) → Among (xs ++ ys) x → Among xs x ⊎ Among ys x
  among-either [] ys x among = inr among
  among-either (y ∷ xs) ys x (inl is) = inl (inl is)
  among-either (y ∷ xs) ys x (inr among) = ⊎_elim (λ front. inl (inr front)) inr (among-either xs ys x among)

  -- a list without one of its elements
  without : (ys : List T) (x : T) → Among ys x → (rest : List T) × (length ys ≡ suc (length rest)) × ((y : T) → Among ys y → (y ≢ x) → Among rest y)
  without [] x among = absurd among
  without (y ∷ ys) x (inl is) = (ys, refl, λ other among apart. ⊎_elim (λ same. absurd (apart (sym same ∙ is))) (λ behind. behind) among)
  without (y ∷ ys) x (inr among) =
      let left = without ys x among in
      (y ∷ left.0, ap suc left.1, λ other there apart. ⊎_elim inl (λ behind. inr (left.2 other behind apart)) there)

  -- what stands apart in one list, and all in another one, is no more than that has
  no-more : (xs ys : List T) → AreApart xs → ((x : T) → Among xs x → Among ys x) → length xs ≤ length ys
  no-more [] ys apart in_all = omega arith
  no-more (x ∷ xs) ys apart in_all =
      let left = without ys x (in_all x (inl refl)) in
      let fewer = no-more xs left.0 apart.1 (λ other among. left.2 other (in_all other (inr among)) (λ same. apart.0 (subst (Among xs) same among))) in
      omega (arith, fewer, left.1)

  apart-append : (xs ys : List T) → AreApart xs → AreApart ys → ((x : T) → Among xs x → Among ys x → ⊥) → AreApart (xs ++ ys)
  apart-append [] ys first second never = second
  apart-append (x ∷ xs) ys first second never =
      (λ among. ⊎_elim first.0 (never x (inl refl)) (among-either xs ys x among), apart-append xs ys first.1 second (λ other front behind. never other (inr front) behind))

  among-option : (o : Option T) (xs : List T) (x : T) → Among xs x → Among (cons_option o xs) x
  among-option None xs x among = among
  among-option (Some y) xs x among = inr among

-- THE ATTEMPTS OF A RUN ARE APART

abbrev attempts : List Outcome → List Transid
attempts outcomes = map (λ o. o.tx) outcomes

attempts-within : (most : ℕ) (tx t : Transid) (outcomes : List Outcome) → AreAttempts most tx outcomes → Among (attempts outcomes) t → (t.worker ≡ tx.worker) × (t.ordinal ≡ tx.ordinal) × (tx.attempt ≤ t.attempt)
attempts-within most tx t [] are among = absurd are
attempts-within most tx t (o ∷ []) are (inl is) =
    let same : tx ≡ t = sym are.0 ∙ is in
    let attempt = ap (λ (x : Transid). x.attempt) same in
    (ap (λ (x : Transid). x.worker) (sym same), ap (λ (x : Transid). x.ordinal) (sym same), omega (arith, attempt))
attempts-within most tx t (o ∷ []) are (inr none) = absurd none
attempts-within most tx t (o ∷ next ∷ more) are (inl is) =
    let same : tx ≡ t = sym are.0 ∙ is in
    let attempt = ap (λ (x : Transid). x.attempt) same in
    (ap (λ (x : Transid). x.worker) (sym same), ap (λ (x : Transid). x.ordinal) (sym same), omega (arith, attempt))
attempts-within most tx t (o ∷ next ∷ more) are (inr among) =
    let later = attempts-within most (next_attempt tx) t (next ∷ more) are.3 among in
    (later.0, later.1, omega (arith, later.2))

attempts-apart : (most : ℕ) (tx : Transid) (outcomes : List Outcome) → AreAttempts most tx outcomes → AreApart (attempts outcomes)
attempts-apart most tx [] are = absurd are
attempts-apart most tx (o ∷ []) are = (λ none. none, tt)
attempts-apart most tx (o ∷ next ∷ more) are = (
  λ among.
      let later = attempts-within most (next_attempt tx) o.tx (next ∷ more) are.3 among in
      let here = ap (λ (x : Transid). x.attempt) are.0 in
      absurd (omega (arith, later.2, here)),
  attempts-apart most (next_attempt tx) (next ∷ more) are.3,
)

items-within : (epoch worker ordinal : ℕ) (t : Transid) (items : List Item) (outcomes : List Outcome) → AreOfItems epoch worker ordinal items outcomes → Among (attempts outcomes) t → (t.worker ≡ worker) × (ordinal ≤ t.ordinal)
items-within epoch worker ordinal t [] outcomes are among = absurd (subst (λ l. Among (attempts l) t) are among)
items-within epoch worker ordinal t (item ∷ items) outcomes (first, more, is, own, others) among =
    ⊎_elim
    (λ here. let within = attempts-within (most_attempts item) (first_attempt epoch worker ordinal) t first own here in (within.0, omega (arith, within.1)))
    (λ later. let within = items-within epoch worker (suc ordinal) t items more others later in (within.0, omega (arith, within.1)))
    (among-either (attempts first) (attempts more) t (subst (λ l. Among l t) (ap attempts is ∙ map-append (λ (o : Outcome). o.tx) first more) among))

items-apart : (epoch worker ordinal : ℕ) (items : List Item) (outcomes : List Outcome) → AreOfItems epoch worker ordinal items outcomes → AreApart (attempts outcomes)
items-apart epoch worker ordinal [] outcomes are = subst (λ l. AreApart (attempts l)) (sym are) tt
items-apart epoch worker ordinal (item ∷ items) outcomes (first, more, is, own, others) =
    subst AreApart (sym (ap attempts is ∙ map-append (λ (o : Outcome). o.tx) first more))
    (apart-append (attempts first) (attempts more) (attempts-apart (most_attempts item) (first_attempt epoch worker ordinal) first own) (items-apart epoch worker (suc ordinal) items more others)
    (λ t here later.
    let one = attempts-within (most_attempts item) (first_attempt epoch worker ordinal) t first own here in
    let other = items-within epoch worker (suc ordinal) t items more others later in
    absurd (omega (arith, one.1, other.1))))

workers-within : (epoch worker : ℕ) (t : Transid) (workers : List (List Item)) (outcomes : List Outcome) → AreOfWorkers epoch worker workers outcomes → Among (attempts outcomes) t → worker ≤ t.worker
workers-within epoch worker t [] outcomes are among = absurd (subst (λ l. Among (attempts l) t) are among)
workers-within epoch worker t (items ∷ workers) outcomes (own, others, is, of, skipped, more) among =
    ⊎_elim
    (λ here. let within = items-within epoch worker 1 t items own of here in omega (arith, within.0))
    (λ later. let within = workers-within epoch (suc worker) t workers others more later in omega (arith, within))
    (among-either (attempts own) (attempts others) t (subst (λ l. Among l t) (ap attempts is ∙ map-append (λ (o : Outcome). o.tx) own others) among))

workers-apart : (epoch worker : ℕ) (workers : List (List Item)) (outcomes : List Outcome) → AreOfWorkers epoch worker workers outcomes → AreApart (attempts outcomes)
workers-apart epoch worker [] outcomes are = subst (λ l. AreApart (attempts l)) (sym are) tt
workers-apart epoch worker (items ∷ workers) outcomes (own, others, is, of, skipped, more) =
    subst AreApart (sym (ap attempts is ∙ map-append (λ (o : Outcome). o.tx) own others))
    (apart-append (attempts own) (attempts others) (items-apart epoch worker 1 items own of) (workers-apart epoch (suc worker) workers others more)
    (λ t here later.
    let one = items-within epoch worker 1 t items own of here in
    let other = workers-within epoch (suc worker) t workers others more later in
    absurd (omega (arith, one.0, other))))

-- so are those of some of the outcomes
among-some : (p : Outcome → Bool) (outcomes : List Outcome) (t : Transid) → Among (attempts (filter p outcomes)) t → (o : Outcome) × Among outcomes o × (p o ≡ true) × (o.tx ≡ t)
among-some p [] t among = absurd among
among-some p (o ∷ rest) t among = by (λ behind. let found = among-some p rest t behind in (found.0, inr found.1, found.2, found.3)) (p o) refl among
  where
    IsFound : Type 0
    IsFound = (x : Outcome) × Among (o ∷ rest) x × (p x ≡ true) × (x.tx ≡ t)

    by : (Among (attempts (filter p rest)) t → IsFound) → (b : Bool) → p o ≡ b → Among (attempts (cond b (o ∷ filter p rest) (filter p rest))) t → IsFound
    by later true is (inl same) = (o, inl refl, is, same)
    by later true is (inr behind) = later behind
    by later false is behind = later behind

among-attempts : (outcomes : List Outcome) (o : Outcome) → Among outcomes o → Among (attempts outcomes) o.tx
among-attempts [] o among = absurd among
among-attempts (x ∷ rest) o (inl is) = inl (ap (λ (y : Outcome). y.tx) is)
among-attempts (x ∷ rest) o (inr among) = inr (among-attempts rest o among)

apart-some : (p : Outcome → Bool) (outcomes : List Outcome) → AreApart (attempts outcomes) → AreApart (attempts (filter p outcomes))
apart-some p [] apart = tt
apart-some p (o ∷ rest) apart = by (apart-some p rest apart.1) (p o)
  where
    by : AreApart (attempts (filter p rest)) → (b : Bool) → AreApart (attempts (cond b (o ∷ filter p rest) (filter p rest)))
    by later true = (λ among. let found = among-some p rest o.tx among in apart.0 (subst (Among (attempts rest)) found.3 (among-attempts rest found.0 found.1)), later)
    by later false = later

-- THE FAILED CALLS OF A PART

-- the attempt for which a call has failed
abbrev failed_for : Event → Option Transid
failed_for (OfDisc (DiscFailed (Attempt t))) = Some t
failed_for (OfTrail (TrailFailed (Attempt t))) = Some t
failed_for (OfMonitor (MonitorFailed (Attempt t))) = Some t
failed_for (OfDump (DumpFailed (Attempt t))) = Some t
failed_for _ = None

fails-for : (event : Event) (t : Transid) → failed_for event ≡ Some t → is_failure event ≡ true
fails-for (OfDisc (DiscFailed (Attempt u))) t is = refl
fails-for (OfTrail (TrailFailed (Attempt u))) t is = refl
fails-for (OfMonitor (MonitorFailed (Attempt u))) t is = refl
fails-for (OfDump (DumpFailed (Attempt u))) t is = refl
fails-for _ t is = absurd (none-some t is)

few-failed : (events : List Event) → length (filter_map failed_for events) ≤ length (filter is_failure events)
few-failed [] = omega arith
few-failed (event ∷ rest) = by (few-failed rest) (failed_for event) (is_failure event) (fails-for event)
  where
    by : length (filter_map failed_for rest) ≤ length (filter is_failure rest) → (whose : Option Transid) (fails : Bool) → ((t : Transid) → whose ≡ Some t → fails ≡ true)
        → length (cons_option whose (filter_map failed_for rest)) ≤ length (cond fails (event ∷ filter is_failure rest) (filter is_failure rest))
    by few None true so = omega (arith, few)
    by few None false so = few
    by few (Some t) true so = omega (arith, few)
    by few (Some t) false so = let never = so t refl in absurd (cc never)

failed-among : (log : Log) (part : ℕ) (event : Event) (t : Transid) → failed_for event ≡ Some t → Among log (part, event) → Among (filter_map failed_for (events_of part log)) t
failed-among [] part event t whose there = absurd there
failed-among (x ∷ rest) part event t whose (inl at) =
    subst (λ b. Among (filter_map failed_for (cond b (x.1 ∷ events_of part rest) (events_of part rest))) t) (sym (eq-eqb x.0 part (ap (λ (e : ℕ × Event). e.0) at)))
    (subst (λ o. Among (cons_option o (filter_map failed_for (events_of part rest))) t) (sym (ap (λ (e : ℕ × Event). failed_for e.1) at ∙ whose)) (inl refl))
failed-among (x ∷ rest) part event t whose (inr there) = by (failed-among rest part event t whose there) (x.0 == part)
  where
    by : Among (filter_map failed_for (events_of part rest)) t → (b : Bool) → Among (filter_map failed_for (cond b (x.1 ∷ events_of part rest) (events_of part rest))) t
    by later true = among-option (failed_for x.1) (filter_map failed_for (events_of part rest)) t later
    by later false = later

failed-there : (log : Log) (part : ℕ) (t : Transid) → HasFailedFor log part (Attempt t) → Among (filter_map failed_for (events_of part log)) t
failed-there log part t (inl there) = failed-among log part (OfDisc (DiscFailed (Attempt t))) t refl there
failed-there log part t (inr (inl there)) = failed-among log part (OfTrail (TrailFailed (Attempt t))) t refl there
failed-there log part t (inr (inr (inl there))) = failed-among log part (OfMonitor (MonitorFailed (Attempt t))) t refl there
failed-there log part t (inr (inr (inr there))) = failed-among log part (OfDump (DumpFailed (Attempt t))) t refl there

-- THE OUTCOMES THAT TELL OF A DEVICE

-- the device of which an outcome tells that a call of it failed, by its number
abbrev pub device_told : Told → Option ℕ
device_told (told.Failed device) = Some device
device_told (told.InDoubt device) = Some device
device_told (told.Hanging (hang.Device device)) = Some device
device_told _ = None

abbrev pub devices_told : List Outcome → List ℕ
devices_told outcomes = filter_map (λ o. device_told o.told) outcomes

abbrev is_device : ℕ → Option ℕ → Bool
is_device device None = false
is_device device (Some other) = other == device

same-times : (device : ℕ) (outcomes : List Outcome) → times_named device (devices_told outcomes) ≡ length (filter (λ o. is_device device (device_told o.told)) outcomes)
same-times device [] = refl
same-times device (o ∷ rest) = by (devices_told rest) (filter (λ x. is_device device (device_told x.told)) rest) (same-times device rest) (device_told o.told)
  where
    at : (numbers : List ℕ) (others : List Outcome) → times_named device numbers ≡ length others → (n : ℕ) (b : Bool)
        → length (cond b (n ∷ filter (λ other. other == device) numbers) (filter (λ other. other == device) numbers)) ≡ length (cond b (o ∷ others) others)
    at numbers others same n true = ap suc same
    at numbers others same n false = same

    by : (numbers : List ℕ) (others : List Outcome) → times_named device numbers ≡ length others → (named : Option ℕ)
        → times_named device (cons_option named numbers) ≡ length (cond (is_device device named) (o ∷ others) others)
    by numbers others same None = same
    by numbers others same (Some n) = at numbers others same n (n == device)

is-device : (device : ℕ) (named : Option ℕ) → is_device device named ≡ true → named ≡ Some device
is-device device None is = absurd (cc is)
is-device device (Some other) is = ap Some (eqb-true other device is)

-- such an outcome has a failed call of its own
module _ (account : Account) (tx : Transid) where
  at-device : (device other : ℕ) → Some device ≡ Some other → HasDeviceFailed account device tx → HasDeviceFailed account other tx
  at-device device other is failed = subst (λ o. MatchDevice o) is failed
    where
      MatchDevice : Option ℕ → Type 0
      MatchDevice (Some n) = HasDeviceFailed account n tx
      MatchDevice None = ⊥

  has-failed : (tells : Told) (device : ℕ) → device_told tells ≡ Some device → IsTold account (record { tx = tx; told = tells }) → HasDeviceFailed account device tx
  has-failed (told.Failed other) device named (inl is) = at-device other device named is.2
  has-failed (told.Failed other) device named (inr (inl is)) = at-device other device named is.2.0
  has-failed (told.Failed other) device named (inr (inr is)) = at-device other device named is.2.0
  has-failed (told.InDoubt other) device named (inl is) = at-device other device named (subst (λ n. HasDeviceFailed account n tx) (sym is.2.2) is.2.4)
  has-failed (told.InDoubt other) device named (inr (inl is)) = absurd is.2
  has-failed (told.InDoubt other) device named (inr (inr is)) = absurd is.2
  has-failed (told.Hanging (hang.Device other)) device named (inl is) = at-device other device named is.2.1
  has-failed (told.Hanging (hang.Device other)) device named (inr (inl is)) = absurd is.2
  has-failed (told.Hanging (hang.Device other)) device named (inr (inr is)) = absurd is.2
  has-failed _ device named is = absurd (none-some device named)

within : (named : Option ℕ) (numbers : List ℕ) → ((device : ℕ) → named ≡ Some device → device < devices) → AllByRecursion (λ device. device < devices) numbers → AllByRecursion (λ device. device < devices) (cons_option named numbers)
within None numbers few all = all
within (Some device) numbers few all = (few device refl, all)

module _ (account : Account) (outcomes : List Outcome) (are : AreTold account outcomes) where
  -- each device that is told of is one of the bay's
  pub told-there : AllByRecursion (λ device. device < devices) (devices_told outcomes)
  told-there = each outcomes (λ o among. among)
    where
      each : (some : List Outcome) → ((o : Outcome) → Among some o → Among outcomes o) → AllByRecursion (λ device. device < devices) (devices_told some)
      each [] of = tt
      each (o ∷ rest) of = within (device_told o.told) (devices_told rest) (λ device is. (has-failed account o.tx o.told device is (are.each o (of o (inl refl))).told).0) (each rest (λ x among. of x (inr among)))

  -- and none is told of more often than a call of it failed
  pub told-times : (phase : Phase) (epoch : ℕ) → AreOutcomesOf phase epoch outcomes → (device : ℕ) → times_named device (devices_told outcomes) ≤ times_failed (part_of_device device) account.log
  told-times phase epoch of device =
      let tells : Outcome → Bool = λ o. is_device device (device_told o.told) in
      let events = events_of (part_of_device device) account.log in
      let few = no-more (attempts (filter tells outcomes)) (filter_map failed_for events) (apart-some tells outcomes (workers-apart epoch 1 phase.workers outcomes of))
      (λ t among.
      let found = among-some tells outcomes t among in
      let o = found.0 in
      let failed = has-failed account o.tx o.told device (is-device device (device_told o.told) found.2) (are.each o found.1).told in
      subst (Among (filter_map failed_for events)) found.3 (failed-there account.log (part_of_device device) o.tx failed.1)) in
      let many = length-map (filter tells outcomes) (λ (o : Outcome). o.tx) in
      let same = same-times device outcomes in
      let fails = few-failed events in
      omega (arith, few, many, same, fails)

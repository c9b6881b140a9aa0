-- The acts, and the moves, that the workers know are all that there are.
use Rattle.std.specs.Prelude.{◌≡◌, ◌≢◌, ℕ, zero, suc, ◌+◌, ◌*◌, ◌<◌, ◌≤◌, ◌==◌, Bool, true, false, cond, List, [], ◌∷◌, ◌++◌, length, slice_get, Option, Some, None, sum}
use Rattle.std.specs.List.{filter}
use Rattle.std.specs.Option.{is_some, option_map, option_map_or}
use Rattle.std.proofs.Common.{refl, sym, ap, subst, ◌∙◌, arith, ◌⊎◌, inl, inr, ⊎_elim}
use Rattle.std.proofs.lemmas.Bool.{cases_eq, cases_lt, eq-eqb, ne_eqb}
use Rattle.std.proofs.lemmas.List.Sums.{sum_by-cons}
use mathlib.Core.List.{IsPrefix}
use Rattle.chronicle.proofs.States.{changed_at_else, changed_at_here}
use Rattle.chronicle.specs.Histories.{IsHistory, changed_at, events_of, next_states, states_after}
use Rattle.node_machine.specs.Acts.{StandIn, act_count, actor, acts_of}
use Rattle.run_outcomes.specs.Reach.{first_tokens}
use Rattle.node_machine.specs.Deeds.{Log}
use Rattle.node_machine.specs.Same.{Among}
use Rattle.node_machine.specs.Node.{IsAllowed, node, state_with}
use Rattle.node_machine.specs.Opening.{Found, TrailFound, VolumeFound, disc_part, disc_at, dump_at, dump_with, each_from, found_volume, firsts_on, monitor_at, opening_parts, trail_at, trail_with, worker_at}
use Rattle.node_machine.specs.Parts.{DiscPart, PartState}
use Rattle.node_machine.specs.Parts.PartState.{Worker, Disc, Trail, Monitor, Dump, Idle}
use Rattle.node_machine.specs.declared.event.DiscEvent.{DiscEvent}
use Rattle.node_machine.specs.declared.event.Event.{Event}
use Rattle.node_machine.specs.declared.event.Event.TheVariants.{OfWorker, OfDisc, OfTrail, OfMonitor, OfDump}
use Rattle.tmf_model.specs.Commits.{numbered}
use Rattle.tmf_model.specs.Config.{IsWithin}
use Rattle.tmf_model.specs.declared.transid.Transid.{Transid}
use Rattle.run_outcomes.proofs.PartKinds.{kind_of, still_kind}
use Rattle.run_outcomes.proofs.Standing.{length_cond, stand_all, stand_behind, stand_fewer, stand_filtered}
use Rattle.run_outcomes.specs.Counted.{AreSeenActs, AreSeenMoves, CountedLaw, MovesLaw, OthersLaw, TokensLaw, all_acts, all_moves, all_tokens}
use Rattle.node_machine.specs.Moves.{move_count, mover, moves_of}

-- SUMS

-- the sum over so many numbers, from this one on
abbrev total : (ℕ → ℕ) → ℕ → ℕ → ℕ
total f first count = sum (each_from f first count)

total-cons : (f : ℕ → ℕ) (first count : ℕ) → total f first (suc count) ≡ f first + total f (first + 1) count
total-cons f first count = sum_by-cons (λ x. x) (f first) (each_from f (first + 1) count)

total-le : (f g : ℕ → ℕ) (first count : ℕ) → ((n : ℕ) → first ≤ n → n < first + count → f n ≤ g n) → total f first count ≤ total g first count
total-le f g first zero le = omega arith
total-le f g first (suc count) le =
    let one = total-cons f first count in
    let two = total-cons g first count in
    let here = le first (omega arith) (omega arith) in
    let rest = total-le f g (first + 1) count (λ n some few. le n (omega (arith, some)) (omega (arith, few))) in
    omega (arith, one, two, here, rest)

total-plus : (f g : ℕ → ℕ) (first count : ℕ) → total (λ n. f n + g n) first count ≡ total f first count + total g first count
total-plus f g first zero = refl
total-plus f g first (suc count) =
    let one = total-cons f first count in
    let two = total-cons g first count in
    let both = total-cons (λ n. f n + g n) first count in
    let rest = total-plus f g (first + 1) count in
    omega (arith, one, two, both, rest)

total-same : (c first count : ℕ) → total (λ n. c) first count ≡ count * c
total-same c first zero = omega arith
total-same c first (suc count) =
    let one = total-cons (λ n. c) first count in
    let rest = total-same c (first + 1) count in
    omega (arith, one, rest)

-- where no part of a sum is greater, and the sums are equal, the parts are
total_each : (f g : ℕ → ℕ) (first count : ℕ) → ((n : ℕ) → first ≤ n → n < first + count → f n ≤ g n) → total f first count ≡ total g first count
    → (n : ℕ) → first ≤ n → n < first + count → f n ≡ g n
total_each f g first zero le same n some few = absurd (omega (arith, some, few))
total_each f g first (suc count) le same n some few =
    let one = total-cons f first count in
    let two = total-cons g first count in
    let here = le first (omega arith) (omega arith) in
    let later : (m : ℕ) → first + 1 ≤ m → m < (first + 1) + count → f m ≤ g m = λ m more less. le m (omega (arith, more)) (omega (arith, less)) in
    let rest = total-le f g (first + 1) count later in
    ⊎_elim
    (λ (e : n ≡ first). let at_first : f first ≡ g first = omega (arith, one, two, here, rest, same) in subst (λ (m : ℕ). f m ≡ g m) (sym e) at_first)
    (λ (apart : n ≢ first). total_each f g (first + 1) count later (omega (arith, one, two, here, rest, same)) n (omega (arith, some, apart)) (omega (arith, few)))
    (cases_eq n first)

-- how often one number is among others
abbrev is_at : ℕ → ℕ → ℕ
is_at k n = cond (k == n) 1 0

is_here : (k n : ℕ) → k ≡ n → is_at k n ≡ 1
is_here k n e = ap (λ (b : Bool). cond b 1 0) (eq-eqb k n e)

is_else : (k n : ℕ) → k ≢ n → is_at k n ≡ 0
is_else k n apart = ap (λ (b : Bool). cond b 1 0) (ne_eqb k n apart)

none_below : (k first count : ℕ) → k < first → total (λ n. is_at k n) first count ≡ 0
none_below k first zero below = refl
none_below k first (suc count) below =
    let one = total-cons (λ n. is_at k n) first count in
    let here = is_else k first (λ e. omega (arith, below, e)) in
    let rest = none_below k (first + 1) count (omega (arith, below)) in
    omega (arith, one, here, rest)

at_most_one : (k first count : ℕ) → total (λ n. is_at k n) first count ≤ 1
at_most_one k first zero = omega arith
at_most_one k first (suc count) =
    let one = total-cons (λ n. is_at k n) first count in
    ⊎_elim
    (λ (e : k ≡ first). let here = is_here k first e in let rest = none_below k (first + 1) count (omega (arith, e)) in omega (arith, one, here, rest))
    (λ (apart : k ≢ first). let here = is_else k first apart in let rest = at_most_one k (first + 1) count in omega (arith, one, here, rest))
    (cases_eq k first)

at_least_one : (k first count : ℕ) → first ≤ k → k < first + count → 1 ≤ total (λ n. is_at k n) first count
at_least_one k first zero some few = absurd (omega (arith, some, few))
at_least_one k first (suc count) some few =
    let one = total-cons (λ n. is_at k n) first count in
    ⊎_elim
    (λ (e : k ≡ first). let here = is_here k first e in omega (arith, one, here))
    (λ (apart : k ≢ first). let rest = at_least_one k (first + 1) count (omega (arith, some, apart)) (omega (arith, few)) in omega (arith, one, rest))
    (cases_eq k first)

-- DISCS AMONG THE PARTS

-- the parts that are discs have these numbers
abbrev OnlyDiscs : List PartState → Type 0
OnlyDiscs states = (part : ℕ) (s : DiscPart) → slice_get states part ≡ Some (Disc s) → (16 ≤ part) × (part < 24)

disc_of : (s : PartState) → kind_of s ≡ 1 → (d : DiscPart) × (s ≡ Disc d)
disc_of (Worker s) e = absurd (omega (arith, e))
disc_of (Disc s) e = (s, refl)
disc_of (Trail s) e = absurd (omega (arith, e))
disc_of (Monitor s) e = absurd (omega (arith, e))
disc_of (Dump s) e = absurd (omega (arith, e))
disc_of Idle e = absurd (omega (arith, e))

only_after : (states : List PartState) (x : ℕ × Event) → OnlyDiscs states → OnlyDiscs (next_states node states x)
only_after states x only part s at = ⊎_elim
    (λ (e : x.0 ≡ part). own (slice_get states part) refl (sym (here e) ∙ at))
    (λ (apart : x.0 ≢ part). only part s (sym (changed_at_else (λ (t : PartState). state_with t x.1) x.0 part states apart) ∙ at))
    (cases_eq x.0 part)
  where
    here : x.0 ≡ part → slice_get (changed_at (λ (t : PartState). state_with t x.1) x.0 states) part ≡ option_map (λ (t : PartState). state_with t x.1) (slice_get states part)
    here e = subst (λ (p : ℕ). slice_get (changed_at (λ (t : PartState). state_with t x.1) p states) part ≡ option_map (λ (t : PartState). state_with t x.1) (slice_get states part)) (sym e)
        (changed_at_here (λ (t : PartState). state_with t x.1) part states)

    own : (o : Option PartState) → slice_get states part ≡ o → option_map (λ (t : PartState). state_with t x.1) o ≡ Some (Disc s) → (16 ≤ part) × (part < 24)
    own None was is = absurd (cc (is))
    own (Some t) was is =
        let same : state_with t x.1 ≡ Disc s = cc (is) in
        let before = disc_of t (sym (still_kind t x.1) ∙ ap kind_of same) in
        only part before.0 (was ∙ ap (λ (u : PartState). Some u) before.1)

-- an item of a list that begins with those of so many numbers
in_each : {A : Type 0} (f : ℕ → A) (first count : ℕ) (rest : List A) (n : ℕ) (x : A) → slice_get (each_from f first count ++ rest) n ≡ Some x
    → ((k : ℕ) × (n < count) × (f k ≡ x)) ⊎ ((m : ℕ) × (n ≡ count + m) × (slice_get rest m ≡ Some x))
in_each f first zero rest n x at = inr (n, omega arith, at)
in_each f first (suc count) rest zero x at = inl (first, omega arith, cc (at))
in_each {A} f first (suc count) rest (suc n) x at = ⊎_elim
    (λ (h : (k : ℕ) × (n < count) × (f k ≡ x)). inl (h.0, omega (arith, h.1), h.2))
    (λ (h : (m : ℕ) × (n ≡ count + m) × (slice_get rest m ≡ Some x)). inr (h.0, omega (arith, h.1), h.2))
    (in_each f (first + 1) count rest n x at)

in_last : {A : Type 0} (f : ℕ → A) (first count n : ℕ) (x : A) → slice_get (each_from f first count) n ≡ Some x → (k : ℕ) × (f k ≡ x)
in_last f first zero n x at = absurd (cc (at))
in_last f first (suc count) zero x at = (first, cc (at))
in_last f first (suc count) (suc n) x at = in_last f (first + 1) count n x at

no_trail : (found : Found) (number : ℕ) (s : DiscPart) → trail_at found number ≡ Disc s → ⊥
no_trail found number s e = by_case (numbered found.trails number) e where
  by_case : (t : Option TrailFound) → trail_with found.config number (firsts_on found number 1 found.volumes) t ≡ Disc s → ⊥
  by_case None e = absurd (cc (e))
  by_case (Some t) e = absurd (cc (e))

no_dump : (found : Found) (number : ℕ) (s : DiscPart) → dump_at found number ≡ Disc s → ⊥
no_dump found number s e = by_case (found_volume found number) e where
  by_case : (v : Option VolumeFound) → dump_with found.config number v ≡ Disc s → ⊥
  by_case None e = absurd (cc (e))
  by_case (Some v) e = absurd (cc (e))

-- the parts from the monitor's on, from the trails' on and from the discs' on
abbrev from_monitor : Found → List PartState
from_monitor found = monitor_at found ∷ each_from (dump_at found) 1 8

abbrev from_trails : Found → List PartState
from_trails found = each_from (trail_at found) 1 4 ++ from_monitor found

abbrev from_discs : Found → List PartState
from_discs found = each_from (disc_at found) 1 8 ++ from_trails found

no_last : (found : Found) (s : DiscPart) (n : ℕ) → slice_get (from_monitor found) n ≡ Some (Disc s) → ⊥
no_last found s zero at = absurd (cc (at))
no_last found s (suc n) at = (let d = in_last (dump_at found) 1 8 n (Disc s) at in no_dump found d.0 s d.1)

no_later : (found : Found) (s : DiscPart) (n : ℕ) → slice_get (from_trails found) n ≡ Some (Disc s) → ⊥
no_later found s n at = ⊎_elim
    (λ (t : (k : ℕ) × (n < 4) × (trail_at found k ≡ Disc s)). no_trail found t.0 s t.2)
    (λ (last : (m : ℕ) × (n ≡ 4 + m) × (slice_get (from_monitor found) m ≡ Some (Disc s))). no_last found s last.0 last.2)
    (in_each (trail_at found) 1 4 (from_monitor found) n (Disc s) at)

only_behind : (found : Found) (s : DiscPart) (part n : ℕ) → part ≡ 16 + n → slice_get (from_discs found) n ≡ Some (Disc s) → (16 ≤ part) × (part < 24)
only_behind found s part n is at = ⊎_elim
    (λ (d : (k : ℕ) × (n < 8) × (disc_at found k ≡ Disc s)). (omega (arith, is), omega (arith, is, d.1)))
    (λ (later : (m : ℕ) × (n ≡ 8 + m) × (slice_get (from_trails found) m ≡ Some (Disc s))). absurd (no_later found s later.0 later.2))
    (in_each (disc_at found) 1 8 (from_trails found) n (Disc s) at)

only_opening : (found : Found) → OnlyDiscs (opening_parts found)
only_opening found part s at = ⊎_elim
    (λ (w : (k : ℕ) × (part < 16) × (worker_at found k ≡ Disc s)). absurd (cc (w.2)))
    (λ (behind : (m : ℕ) × (part ≡ 16 + m) × (slice_get (from_discs found) m ≡ Some (Disc s))). only_behind found s part behind.0 behind.1 behind.2)
    (in_each (worker_at found) 1 16 (from_discs found) part (Disc s) at)

only_later : (states : List PartState) (log : Log) → OnlyDiscs states → OnlyDiscs (states_after node states log)
only_later states [] only = only
only_later states (x ∷ log) only = only_later (next_states node states x) log (only_after states x only)

-- a part that is a disc's is one of eight
pub disc_within : (found : Found) (log : Log) (part : ℕ) (s : DiscPart) → slice_get (states_after node (opening_parts found) log) part ≡ Some (Disc s) → (16 ≤ part) × (part < 24)
disc_within found log part s at = only_later (opening_parts found) log (only_opening found) part s at

allowed_disc : (s : PartState) (d : DiscEvent) → IsAllowed s (OfDisc d) → (p : DiscPart) × (s ≡ Disc p)
allowed_disc (Worker s) d may = absurd may
allowed_disc (Disc s) d may = (s, refl)
allowed_disc (Trail s) d may = absurd may
allowed_disc (Monitor s) d may = absurd may
allowed_disc (Dump s) d may = absurd may
allowed_disc Idle d may = absurd may

-- the disc whose part has the entry is one of the discs
one_disc : (part count first many : ℕ) → disc_part first ≤ part → part < disc_part (first + many) → count ≤ total (λ volume. cond (part == disc_part volume) count 0) first many
one_disc part count first zero some few = absurd (omega (arith, some, few))
one_disc part count first (suc many) some few =
    let one = total-cons (λ volume. cond (part == disc_part volume) count 0) first many in
    ⊎_elim
    (λ (e : part ≡ disc_part first). let here : cond (part == disc_part first) count 0 ≡ count = ap (λ (b : Bool). cond b count 0) (eq-eqb part (disc_part first) e) in omega (arith, one, here))
    (λ (apart : part ≢ disc_part first). let rest = one_disc part count (first + 1) many (omega (arith, some, apart)) (omega (arith, few)) in omega (arith, one, rest))
    (cases_eq part (disc_part first))

none_outside : (k first count : ℕ) → (k < first) ⊎ (first + count ≤ k) → total (λ n. is_at k n) first count ≡ 0
none_outside k first count outside =
    let none = total-le (λ n. is_at k n) (λ n. 0) first count (λ n some few. let apart = is_else k n (λ e. ⊎_elim (λ below. omega (arith, some, few, e, below)) (λ above. omega (arith, some, few, e, above)) outside) in omega (arith, apart)) in
    let zero_sum = total-same 0 first count in
    omega (arith, none, zero_sum)

-- EVENTS OF DISCS, EACH OF ONE WORKER

-- whose an event is, if it is one of these, and that each of these is a disc's
module _ (who : Event → Option Transid) (of_disc : (e : Event) → is_some (who e) ≡ true → (d : DiscEvent) × (e ≡ OfDisc d)) where
  abbrev is_its : ℕ → Event → Bool
  is_its worker e = option_map_or (λ (t : Transid). t.worker == worker) (who e) false

  abbrev its_of : ℕ → Log → Log
  its_of worker log = filter (λ (entry : ℕ × Event). is_its worker entry.1) log

  -- each stands at a disc's part
  abbrev AtDiscs : Log → Type 0
  AtDiscs [] = Unit {0}
  AtDiscs (x ∷ log) = (is_some (who x.1) ≡ true → (16 ≤ x.0) × (x.0 < 24)) × AtDiscs log

  at_discs : (states : List PartState) (log : Log) → OnlyDiscs states → IsHistory node states log → AtDiscs log
  at_discs states [] only history = tt
  at_discs states (x ∷ log) only history = (
    λ is.
        let enabled = history.0 in
        let d = of_disc x.1 is in
        let p = allowed_disc enabled.0 d.0 (subst (λ (e : Event). IsAllowed enabled.0 e) d.1 enabled.2) in
        only x.0 p.0 (enabled.1 ∙ ap (λ (s : PartState). Some s) p.1),
    at_discs (next_states node states x) log (only_after states x only) history.1,
  )

  abbrev all_in : Log → ℕ
  all_in log = length (filter (λ (entry : ℕ × Event). is_some (who entry.1)) log)

  -- one for such an event
  abbrev one_if : Event → ℕ
  one_if e = cond (is_some (who e)) 1 0

  abbrev all_at : Log → ℕ → ℕ
  all_at log volume = length (filter (λ (e : Event). is_some (who e)) (events_of (disc_part volume) log))

  -- an entry adds to those of its own part alone
  more_at : (x : ℕ × Event) (log : Log) (volume : ℕ) → all_at (x ∷ log) volume ≡ cond (x.0 == disc_part volume) (one_if x.1) 0 + all_at log volume
  more_at x log volume = by_case (x.0 == disc_part volume) where
    by_case : (b : Bool) → length (filter (λ (e : Event). is_some (who e)) (cond b (x.1 ∷ events_of (disc_part volume) log) (events_of (disc_part volume) log))) ≡ cond b (one_if x.1) 0 + all_at log volume
    by_case true = length_cond (is_some (who x.1)) x.1 (filter (λ (e : Event). is_some (who e)) (events_of (disc_part volume) log))
    by_case false = omega arith

  -- the discs have had all
  discs_have : (log : Log) → AtDiscs log → all_in log ≤ total (all_at log) 1 8
  discs_have [] at = omega arith
  discs_have (x ∷ log) at =
      let here : ℕ → ℕ = λ volume. cond (x.0 == disc_part volume) (one_if x.1) 0 in
      let parts : total (λ volume. here volume + all_at log volume) 1 8 ≤ total (all_at (x ∷ log)) 1 8 =
      total-le (λ volume. here volume + all_at log volume) (all_at (x ∷ log)) 1 8 (λ volume some few. let more = more_at x log volume in omega (arith, more)) in
      let sum_is = total-plus here (all_at log) 1 8 in
      let rest = discs_have log at.1 in
      let one : all_in (x ∷ log) ≡ one_if x.1 + all_in log = length_cond (is_some (who x.1)) x (filter (λ (entry : ℕ × Event). is_some (who entry.1)) log) in
      let own : one_if x.1 ≤ total here 1 8 = by_case (is_some (who x.1)) refl in
      omega (arith, parts, sum_is, rest, one, own)
    where
      by_case : (b : Bool) → is_some (who x.1) ≡ b → cond b 1 0 ≤ total (λ volume. cond (x.0 == disc_part volume) (cond b 1 0) 0) 1 8
      by_case true e = (let within = at.0 e in one_disc x.0 1 1 8 (omega (arith, within.0)) (omega (arith, within.1)))
      by_case false e = omega arith

  -- an event is of one worker at most
  abbrev own_one : Event → ℕ → ℕ
  own_one e worker = cond (is_its worker e) 1 0

  one_worker : (e : Event) → total (own_one e) 1 16 ≤ one_if e
  one_worker e = by_case (who e) where
    by_case : (o : Option Transid) → total (λ worker. cond (option_map_or (λ (t : Transid). t.worker == worker) o false) 1 0) 1 16 ≤ cond (is_some o) 1 0
    by_case None = omega arith
    by_case (Some t) = at_most_one t.worker 1 16

  -- the workers have had no more
  workers_have : (log : Log) → total (λ worker. length (its_of worker log)) 1 16 ≤ all_in log
  workers_have [] = (let none = total-same 0 1 16 in omega (arith, none))
  workers_have (x ∷ log) =
      let more : total (λ worker. length (its_of worker (x ∷ log))) 1 16 ≤ total (λ worker. own_one x.1 worker + length (its_of worker log)) 1 16 =
      total-le (λ worker. length (its_of worker (x ∷ log))) (λ worker. own_one x.1 worker + length (its_of worker log)) 1 16
      (λ worker some few. let one = length_cond (is_its worker x.1) x (its_of worker log) in omega (arith, one)) in
      let sum_is = total-plus (own_one x.1) (λ worker. length (its_of worker log)) 1 16 in
      let own = one_worker x.1 in
      let rest = workers_have log in
      let one : all_in (x ∷ log) ≡ one_if x.1 + all_in log = length_cond (is_some (who x.1)) x (filter (λ (entry : ℕ × Event). is_some (who entry.1)) log) in
      omega (arith, more, sum_is, own, rest, one)

  stand_whole : (worker : ℕ) (log seen its : Log) → IsPrefix seen log → its_of worker its ≡ its → StandIn its seen → StandIn its (its_of worker log)
  stand_whole worker log seen its begins own stand =
      stand_filtered (λ (entry : ℕ × Event). is_its worker entry.1) its log (subst (λ (l : Log). StandIn its l) begins.1 (stand_behind its seen begins.0 stand)) own

  -- these stand in first entries of the history
  abbrev AreKnown : ℕ → Log → Log → Log → Type 0
  AreKnown worker log seen its = IsPrefix seen log × (its_of worker its ≡ its) × StandIn its seen

  -- the workers know no more than the discs have had
  no_more : (found : Found) (log : Log) (seen its : ℕ → Log) → IsHistory node (opening_parts found) log → ((w : ℕ) → 1 ≤ w → w < 17 → AreKnown w log (seen w) (its w))
      → total (λ w. length (its w)) 1 16 ≤ total (all_at log) 1 8
  no_more found log seen its history known =
      let fewer : (w : ℕ) → 1 ≤ w → w < 1 + 16 → length (its w) ≤ length (its_of w log) =
      λ w some few. (let k = known w some (omega (arith, few)) in stand_fewer (its w) (its_of w log) (stand_whole w log (seen w) (its w) k.0 k.1 k.2)) in
      let sums = total-le (λ w. length (its w)) (λ w. length (its_of w log)) 1 16 fewer in
      let above = discs_have log (at_discs (opening_parts found) log (only_opening found) history) in
      let below = workers_have log in
      omega (arith, sums, above, below)

  counted : (found : Found) (log : Log) (seen its : ℕ → Log) → IsHistory node (opening_parts found) log → ((w : ℕ) → 1 ≤ w → w < 17 → AreKnown w log (seen w) (its w))
      → total (all_at log) 1 8 ≡ total (λ w. length (its w)) 1 16 → (worker : ℕ) → 1 ≤ worker → worker < 17 → its_of worker log ≡ its worker
  counted found log seen its history known many worker low high =
      let standing : (w : ℕ) → 1 ≤ w → w < 17 → StandIn (its w) (its_of w log) =
      λ w some few. (let k = known w some few in stand_whole w log (seen w) (its w) k.0 k.1 k.2) in
      let fewer : (w : ℕ) → 1 ≤ w → w < 1 + 16 → length (its w) ≤ length (its_of w log) = λ w some few. stand_fewer (its w) (its_of w log) (standing w some (omega (arith, few))) in
      let sums = total-le (λ w. length (its w)) (λ w. length (its_of w log)) 1 16 fewer in
      let above = discs_have log (at_discs (opening_parts found) log (only_opening found) history) in
      let below = workers_have log in
      let same : total (λ w. length (its w)) 1 16 ≡ total (λ w. length (its_of w log)) 1 16 = omega (arith, sums, above, below, many) in
      let each = total_each (λ w. length (its w)) (λ w. length (its_of w log)) 1 16 fewer same worker low (omega (arith, high)) in
      sym (stand_all (its worker) (its_of worker log) (standing worker low high) each)

  -- an event of somebody else is one more than the workers have had
  one_more : (log : Log) (part : ℕ) (e : Event) (t : Transid) → Among log (part, e) → who e ≡ Some t → (t.worker < 1) ⊎ (17 ≤ t.worker) → total (λ worker. length (its_of worker log)) 1 16 + 1 ≤ all_in log
  one_more [] part e t among is outside = absurd among
  one_more (x ∷ log) part e t among is outside =
      let more : total (λ worker. length (its_of worker (x ∷ log))) 1 16 ≤ total (λ worker. own_one x.1 worker + length (its_of worker log)) 1 16 =
      total-le (λ worker. length (its_of worker (x ∷ log))) (λ worker. own_one x.1 worker + length (its_of worker log)) 1 16
      (λ worker some few. let one = length_cond (is_its worker x.1) x (its_of worker log) in omega (arith, one)) in
      let sum_is = total-plus (own_one x.1) (λ worker. length (its_of worker log)) 1 16 in
      let one : all_in (x ∷ log) ≡ one_if x.1 + all_in log = length_cond (is_some (who x.1)) x (filter (λ (entry : ℕ × Event). is_some (who entry.1)) log) in
      ⊎_elim
      (λ (same : x ≡ (part, e)).
      let who_is : who x.1 ≡ Some t = ap (λ (y : ℕ × Event). who y.1) same ∙ is in
      let none : total (own_one x.1) 1 16 ≡ 0 = subst (λ (o : Option Transid). total (λ worker. cond (option_map_or (λ (u : Transid). u.worker == worker) o false) 1 0) 1 16 ≡ 0) (sym who_is) (none_outside t.worker 1 16 outside) in
      let one_here : one_if x.1 ≡ 1 = ap (λ (o : Option Transid). cond (is_some o) 1 0) who_is in
      let rest = workers_have log in
      omega (arith, more, sum_is, one, none, one_here, rest))
      (λ (later : Among log (part, e)).
      let own = one_worker x.1 in
      let rest = one_more log part e t later is outside in
      omega (arith, more, sum_is, one, own, rest))
      among

  -- NOBODY ELSE

  nobody_else : (found : Found) (log : Log) (seen its : ℕ → Log) → IsHistory node (opening_parts found) log → ((w : ℕ) → 1 ≤ w → w < 17 → AreKnown w log (seen w) (its w))
      → total (all_at log) 1 8 ≡ total (λ w. length (its w)) 1 16 → (part : ℕ) (e : Event) (t : Transid) → Among log (part, e) → who e ≡ Some t → (1 ≤ t.worker) × (t.worker ≤ 16)
  nobody_else found log seen its history known many part e t among is =
      let fewer : (w : ℕ) → 1 ≤ w → w < 1 + 16 → length (its w) ≤ length (its_of w log) =
      λ w some few. (let k = known w some (omega (arith, few)) in stand_fewer (its w) (its_of w log) (stand_whole w log (seen w) (its w) k.0 k.1 k.2)) in
      let sums = total-le (λ w. length (its w)) (λ w. length (its_of w log)) 1 16 fewer in
      let above = discs_have log (at_discs (opening_parts found) log (only_opening found) history) in
      ⊎_elim
      (λ (some : 1 ≤ t.worker). ⊎_elim (λ (few : t.worker ≤ 16). (some, few))
      (λ (beyond : 16 < t.worker). absurd (let more = one_more log part e t among is (inr (omega (arith, beyond))) in omega (arith, more, sums, above, many))) (cases_le t.worker 16))
      (λ (below : t.worker < 1). absurd (let more = one_more log part e t among is (inl below) in omega (arith, more, sums, above, many)))
      (cases_le 1 t.worker)
    where
      cases_le : (m n : ℕ) → (m ≤ n) ⊎ (n < m)
      cases_le m n = ⊎_elim (λ (less : n < m). inr less) (λ (le : m ≤ n). inl le) (cases_lt n m)

-- THE LAWS

disc_act : (e : Event) → is_some (actor e) ≡ true → (d : DiscEvent) × (e ≡ OfDisc d)
disc_act (OfWorker e) is = absurd (cc (is))
disc_act (OfDisc e) is = (e, refl)
disc_act (OfTrail e) is = absurd (cc (is))
disc_act (OfMonitor e) is = absurd (cc (is))
disc_act (OfDump e) is = absurd (cc (is))

known_acts : (log : Log) (seen acts : ℕ → Log) → ((worker : ℕ) → IsWithin 1 16 worker → AreSeenActs worker log (seen worker) (acts worker))
    → (w : ℕ) → 1 ≤ w → w < 17 → IsPrefix (seen w) log × (acts_of w (acts w) ≡ acts w) × StandIn (acts w) (seen w)
known_acts log seen acts known w some few = (let k = known w (record { above = some; below = omega (arith, few) }) in (k.begins, k.own, k.stand))

pub counted_law : CountedLaw
counted_law = λ found log seen acts history known many worker within.
    let high = within.below in
    counted actor disc_act found log seen acts history (known_acts log seen acts known) many worker within.above (omega (arith, high))

pub others_law : OthersLaw
others_law = λ found log seen acts history known many part e t among is.
    let r = nobody_else actor disc_act found log seen acts history (known_acts log seen acts known) many part e t among is in
    record { above = r.0; below = r.1 }

disc_move : (e : Event) → is_some (mover e) ≡ true → (d : DiscEvent) × (e ≡ OfDisc d)
disc_move (OfWorker e) is = absurd (cc (is))
disc_move (OfDisc e) is = (e, refl)
disc_move (OfTrail e) is = absurd (cc (is))
disc_move (OfMonitor e) is = absurd (cc (is))
disc_move (OfDump e) is = absurd (cc (is))

known_moves : (log : Log) (seen moves : ℕ → Log) → ((worker : ℕ) → IsWithin 1 16 worker → AreSeenMoves worker log (seen worker) (moves worker))
    → (w : ℕ) → 1 ≤ w → w < 17 → IsPrefix (seen w) log × (moves_of w (moves w) ≡ moves w) × StandIn (moves w) (seen w)
known_moves log seen moves known w some few = (let k = known w (record { above = some; below = omega (arith, few) }) in (k.begins, k.own, k.stand))

pub moves_law : MovesLaw
moves_law = λ found log seen moves history known many. record {
  each = λ worker within.
      let high = within.below in
      counted mover disc_move found log seen moves history (known_moves log seen moves known) many worker within.above (omega (arith, high));
  others = λ part e t among is.
      let r = nobody_else mover disc_move found log seen moves history (known_moves log seen moves known) many part e t among is in
      record { above = r.0; below = r.1 };
}

-- a disc has a token for each act and each move
both_counts : (log : Log) → all_tokens log ≡ all_acts log + all_moves log
both_counts log = total-plus (λ volume. act_count (events_of (disc_part volume) log)) (λ volume. move_count (events_of (disc_part volume) log)) 1 8

pub tokens_law : TokensLaw
tokens_law = λ found log reach acts moves history known all.
    let seen : ℕ → Log = λ w. (reach w).seat.seen in
    let seen_acts : (worker : ℕ) → IsWithin 1 16 worker → AreSeenActs worker log (seen worker) (acts worker) =
    λ worker within. (let k = known worker within in record { begins = k.0; own = k.1.own; stand = k.1.stand }) in
    let seen_moves : (worker : ℕ) → IsWithin 1 16 worker → AreSeenMoves worker log (seen worker) (moves worker) =
    λ worker within. (let k = known worker within in record { begins = k.0; own = k.1.own_moves; stand = k.1.moves_stand }) in
    let few_acts : total (λ w. length (acts w)) 1 16 ≤ all_acts log = no_more actor disc_act found log seen acts history (known_acts log seen acts seen_acts) in
    let few_moves : total (λ w. length (moves w)) 1 16 ≤ all_moves log = no_more mover disc_move found log seen moves history (known_moves log seen moves seen_moves) in
    let two = total-plus (λ w. length (acts w)) (λ w. length (moves w)) 1 16 in
    let three = total-plus (λ w. length (acts w) + length (moves w)) (λ w. (reach w).tokens) 1 16 in
    let each : (w : ℕ) → 1 ≤ w → w < 1 + 16 → (length (acts w) + length (moves w)) + (reach w).tokens ≡ first_tokens =
    λ w some few. (known w (record { above = some; below = omega (arith, few) })).1.counted in
    let parts = total-le (λ w. (length (acts w) + length (moves w)) + (reach w).tokens) (λ w. first_tokens) 1 16 (λ w some few. let k = each w some few in omega (arith, k)) in
    let back = total-le (λ w. first_tokens) (λ w. (length (acts w) + length (moves w)) + (reach w).tokens) 1 16 (λ w some few. let k = each w some few in omega (arith, k)) in
    let sixteen = total-same first_tokens 1 16 in
    let split = both_counts log in
    let many_acts : all_acts log ≡ total (λ w. length (acts w)) 1 16 = omega (arith, few_acts, few_moves, two, three, parts, back, sixteen, split, all) in
    let many_moves : all_moves log ≡ total (λ w. length (moves w)) 1 16 = omega (arith, few_acts, few_moves, two, three, parts, back, sixteen, split, all) in
    record {
      acted = counted_law found log seen acts history seen_acts many_acts;
      no_other = others_law found log seen acts history seen_acts many_acts;
      moved = moves_law found log seen moves history seen_moves many_moves;
    }

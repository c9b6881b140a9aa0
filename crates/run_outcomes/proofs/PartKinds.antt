-- A part stays of its kind, and a worker's keeps its number.
use Rattle.std.specs.Prelude.{◌≡◌, ℕ, zero, suc, ◌+◌, ◌<◌, ◌≤◌, List, [], ◌∷◌, ◌++◌, Option, Some, None, slice_get}
use Rattle.std.specs.Option.{option_map}
use Rattle.std.proofs.Common.{refl, sym, ap, subst, ◌∙◌, arith, ◌⊎◌, inl, inr, ⊎_elim}
use Rattle.chronicle.proofs.States.{state_after, state_is_own}
use Rattle.chronicle.specs.Histories.{events_of, states_after}
use Rattle.node_machine.specs.Deeds.{Log}
use Rattle.node_machine.specs.Node.{node, state_with}
use Rattle.node_machine.specs.Opening.{Found, TrailFound, VolumeFound, disc_at, disc_with, dump_at, dump_with, each_from, firsts_on, found_volume, monitor_at, opening_parts, trail_at, trail_with, worker_at}
use Rattle.node_machine.specs.Parts.{PartState, WorkerPart}
use Rattle.node_machine.specs.Parts.PartState.{Worker, Disc, Trail, Monitor, Dump, Idle}
use Rattle.node_machine.specs.declared.event.Event.{Event}
use Rattle.tmf_model.specs.Commits.{numbered}
use Rattle.node_machine.specs.declared.event.Event.TheVariants.{OfWorker, OfDisc, OfTrail, OfMonitor, OfDump}

-- a number for each kind of part
abbrev pub kind_of : PartState → ℕ
kind_of (Worker s) = 0
kind_of (Disc s) = 1
kind_of (Trail s) = 2
kind_of (Monitor s) = 3
kind_of (Dump s) = 4
kind_of Idle = 5

pub still_kind : (s : PartState) (e : Event) → kind_of (state_with s e) ≡ kind_of s
still_kind (Worker s) (OfWorker e) = refl
still_kind (Worker s) (OfDisc e) = refl
still_kind (Worker s) (OfTrail e) = refl
still_kind (Worker s) (OfMonitor e) = refl
still_kind (Worker s) (OfDump e) = refl
still_kind (Disc s) (OfWorker e) = refl
still_kind (Disc s) (OfDisc e) = refl
still_kind (Disc s) (OfTrail e) = refl
still_kind (Disc s) (OfMonitor e) = refl
still_kind (Disc s) (OfDump e) = refl
still_kind (Trail s) (OfWorker e) = refl
still_kind (Trail s) (OfDisc e) = refl
still_kind (Trail s) (OfTrail e) = refl
still_kind (Trail s) (OfMonitor e) = refl
still_kind (Trail s) (OfDump e) = refl
still_kind (Monitor s) (OfWorker e) = refl
still_kind (Monitor s) (OfDisc e) = refl
still_kind (Monitor s) (OfTrail e) = refl
still_kind (Monitor s) (OfMonitor e) = refl
still_kind (Monitor s) (OfDump e) = refl
still_kind (Dump s) (OfWorker e) = refl
still_kind (Dump s) (OfDisc e) = refl
still_kind (Dump s) (OfTrail e) = refl
still_kind (Dump s) (OfMonitor e) = refl
still_kind (Dump s) (OfDump e) = refl
still_kind Idle e = refl

kind_after : (s : PartState) (events : List Event) → kind_of (state_after state_with s events) ≡ kind_of s
kind_after s [] = refl
kind_after s (e ∷ events) = kind_after (state_with s e) events ∙ still_kind s e

-- a part's state after a list of entries is of the kind that it was of before
pub same_kind : (states : List PartState) (log : Log) (part : ℕ) (s : PartState) → slice_get (states_after node states log) part ≡ Some s
    → (t : PartState) × (slice_get states part ≡ Some t) × (kind_of s ≡ kind_of t)
same_kind states log part s at = by_case (slice_get states part) refl (sym (state_is_own node part states log) ∙ at) where
  by_case : (o : Option PartState) → slice_get states part ≡ o → option_map (λ (t : PartState). state_after state_with t (events_of part log)) o ≡ Some s
      → (t : PartState) × (slice_get states part ≡ Some t) × (kind_of s ≡ kind_of t)
  by_case None was is = absurd (cc (is))
  by_case (Some t) was is = (t, was, (let same : state_after state_with t (events_of part log) ≡ s = cc (is) in ap kind_of (sym same) ∙ kind_after t (events_of part log)))

-- the number of a worker
abbrev number_of : PartState → ℕ
number_of (Worker s) = s.number
number_of (Disc s) = 0
number_of (Trail s) = 0
number_of (Monitor s) = 0
number_of (Dump s) = 0
number_of Idle = 0

still_number : (s : PartState) (e : Event) → number_of (state_with s e) ≡ number_of s
still_number (Worker s) (OfWorker e) = refl
still_number (Worker s) (OfDisc e) = refl
still_number (Worker s) (OfTrail e) = refl
still_number (Worker s) (OfMonitor e) = refl
still_number (Worker s) (OfDump e) = refl
still_number (Disc s) (OfWorker e) = refl
still_number (Disc s) (OfDisc e) = refl
still_number (Disc s) (OfTrail e) = refl
still_number (Disc s) (OfMonitor e) = refl
still_number (Disc s) (OfDump e) = refl
still_number (Trail s) (OfWorker e) = refl
still_number (Trail s) (OfDisc e) = refl
still_number (Trail s) (OfTrail e) = refl
still_number (Trail s) (OfMonitor e) = refl
still_number (Trail s) (OfDump e) = refl
still_number (Monitor s) (OfWorker e) = refl
still_number (Monitor s) (OfDisc e) = refl
still_number (Monitor s) (OfTrail e) = refl
still_number (Monitor s) (OfMonitor e) = refl
still_number (Monitor s) (OfDump e) = refl
still_number (Dump s) (OfWorker e) = refl
still_number (Dump s) (OfDisc e) = refl
still_number (Dump s) (OfTrail e) = refl
still_number (Dump s) (OfMonitor e) = refl
still_number (Dump s) (OfDump e) = refl
still_number Idle e = refl

number_after : (s : PartState) (events : List Event) → number_of (state_after state_with s events) ≡ number_of s
number_after s [] = refl
number_after s (e ∷ events) = number_after (state_with s e) events ∙ still_number s e

-- an item of a list that begins with those of so many numbers
at_first : {A : Type 0} (f : ℕ → A) (first count : ℕ) (rest : List A) (n : ℕ) (x : A) → slice_get (each_from f first count ++ rest) n ≡ Some x
    → (n < count) × (f (first + n) ≡ x) ⊎ ((m : ℕ) × (n ≡ count + m) × (slice_get rest m ≡ Some x))
at_first f first zero rest n x at = inr (n, omega arith, at)
at_first f first (suc count) rest zero x at =
    let same : first + 0 ≡ first = omega arith in
    let here : f first ≡ x = cc (at) in
    inl (omega arith, ap f same ∙ here)
at_first {A} f first (suc count) rest (suc n) x at = ⊎_elim
    (λ (h : (n < count) × (f ((first + 1) + n) ≡ x)). let same : first + suc n ≡ (first + 1) + n = omega arith in inl (omega (arith, h.0), ap f same ∙ h.1))
    (λ (h : (m : ℕ) × (n ≡ count + m) × (slice_get rest m ≡ Some x)). inr (h.0, omega (arith, h.1), h.2))
    (at_first f (first + 1) count rest n x at)

at_last : {A : Type 0} (f : ℕ → A) (first count n : ℕ) (x : A) → slice_get (each_from f first count) n ≡ Some x → (k : ℕ) × (f k ≡ x)
at_last f first zero n x at = absurd (cc (at))
at_last f first (suc count) zero x at = (first, cc (at))
at_last f first (suc count) (suc n) x at = at_last f (first + 1) count n x at

disc_kind : (found : Found) (number : ℕ) → 1 ≤ kind_of (disc_at found number)
disc_kind found number = by_case (found_volume found number) where
  by_case : (v : Option VolumeFound) → 1 ≤ kind_of (disc_with found.config number v)
  by_case None = omega arith
  by_case (Some v) = omega arith

trail_kind : (found : Found) (number : ℕ) → 1 ≤ kind_of (trail_at found number)
trail_kind found number = by_case (numbered found.trails number) where
  by_case : (t : Option TrailFound) → 1 ≤ kind_of (trail_with found.config number (firsts_on found number 1 found.volumes) t)
  by_case None = omega arith
  by_case (Some t) = omega arith

dump_kind : (found : Found) (number : ℕ) → 1 ≤ kind_of (dump_at found number)
dump_kind found number = by_case (found_volume found number) where
  by_case : (v : Option VolumeFound) → 1 ≤ kind_of (dump_with found.config number v)
  by_case None = omega arith
  by_case (Some v) = omega arith

abbrev behind_trails : Found → List PartState
behind_trails found = monitor_at found ∷ each_from (dump_at found) 1 8

abbrev behind_discs : Found → List PartState
behind_discs found = each_from (trail_at found) 1 4 ++ behind_trails found

abbrev behind_workers : Found → List PartState
behind_workers found = each_from (disc_at found) 1 8 ++ behind_discs found

last_kind : (found : Found) (n : ℕ) (t : PartState) → slice_get (behind_trails found) n ≡ Some t → 1 ≤ kind_of t
last_kind found zero t at = (let same : monitor_at found ≡ t = cc (at) in subst (λ (x : PartState). 1 ≤ kind_of x) same (omega arith))
last_kind found (suc n) t at = (let d = at_last (dump_at found) 1 8 n t at in subst (λ (x : PartState). 1 ≤ kind_of x) d.1 (dump_kind found d.0))

later_kind : (found : Found) (n : ℕ) (t : PartState) → slice_get (behind_discs found) n ≡ Some t → 1 ≤ kind_of t
later_kind found n t at = ⊎_elim
    (λ (h : (n < 4) × (trail_at found (1 + n) ≡ t)). subst (λ (x : PartState). 1 ≤ kind_of x) h.1 (trail_kind found (1 + n)))
    (λ (h : (m : ℕ) × (n ≡ 4 + m) × (slice_get (behind_trails found) m ≡ Some t)). last_kind found h.0 t h.2)
    (at_first (trail_at found) 1 4 (behind_trails found) n t at)

behind_kind : (found : Found) (n : ℕ) (t : PartState) → slice_get (behind_workers found) n ≡ Some t → 1 ≤ kind_of t
behind_kind found n t at = ⊎_elim
    (λ (h : (n < 8) × (disc_at found (1 + n) ≡ t)). subst (λ (x : PartState). 1 ≤ kind_of x) h.1 (disc_kind found (1 + n)))
    (λ (h : (m : ℕ) × (n ≡ 8 + m) × (slice_get (behind_discs found) m ≡ Some t)). later_kind found h.0 t h.2)
    (at_first (disc_at found) 1 8 (behind_discs found) n t at)

-- at the opening the first sixteen parts are those of the workers
opening_worker : (found : Found) (part : ℕ) (t : PartState) → slice_get (opening_parts found) part ≡ Some t → kind_of t ≡ 0 → (part < 16) × (number_of t ≡ suc part)
opening_worker found part t at kind = ⊎_elim
    (λ (h : (part < 16) × (worker_at found (1 + part) ≡ t)). let number : 1 + part ≡ number_of t = ap number_of h.1 in (h.0, omega (arith, number)))
    (λ (h : (m : ℕ) × (part ≡ 16 + m) × (slice_get (behind_workers found) m ≡ Some t)). absurd (let other = behind_kind found h.0 t h.2 in omega (arith, other, kind)))
    (at_first (worker_at found) 1 16 (behind_workers found) part t at)

-- a part that is a worker's is that of the worker with the number behind its own
pub worker_is : (found : Found) (log : Log) (part : ℕ) (w : WorkerPart) → slice_get (states_after node (opening_parts found) log) part ≡ Some (Worker w) → (part < 16) × (w.number ≡ suc part)
worker_is found log part w at = by_case (slice_get (opening_parts found) part) refl (sym (state_is_own node part (opening_parts found) log) ∙ at) where
  by_case : (o : Option PartState) → slice_get (opening_parts found) part ≡ o → option_map (λ (t : PartState). state_after state_with t (events_of part log)) o ≡ Some (Worker w)
      → (part < 16) × (w.number ≡ suc part)
  by_case None was is = absurd (cc (is))
  by_case (Some t) was is =
      let same : state_after state_with t (events_of part log) ≡ Worker w = cc (is) in
      let kind : kind_of t ≡ 0 = sym (kind_after t (events_of part log)) ∙ ap kind_of same in
      let number : number_of t ≡ w.number = sym (number_after t (events_of part log)) ∙ ap number_of same in
      let opened = opening_worker found part t was kind in
      (opened.0, sym number ∙ opened.1)

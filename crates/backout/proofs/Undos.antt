-- The undo of a transaction, disc by disc.
use Rattle.std.proofs.Common.{◌≡◌, ◌<◌, ◌≤◌, ◌+◌, inl, inr, ⊎_elim, ℕ, Bool, true, false, List, [], ◌∷◌, ◌++◌, append_assoc, drop, length, get_or, Result, Ok, Err, IfErr, Option, Some, slice_get, refl, ap, sym, ◌∙◌, subst, arith, below_more}
use Rattle.std.specs.Prelude.{⊤}
use mathlib.Core.List.{IsPrefix}
use Rattle.chronicle.specs.Histories.{events_of, states_after}
use Rattle.chronicle.specs.Seats.{HasNewlySeen, Sight, note_of}
use Rattle.chronicle.proofs.Facts.{events_of-prefix, own_events_of, state_of_part}
use Rattle.disk_model.specs.declared.disk.Disk as disk
use Rattle.tmf_model.specs.declared.config.Config.{Config}
use Rattle.tmf_model.specs.declared.transid.Transid.{Transid}
use Rattle.node_machine.specs.declared.event.By.TheVariants.{Attempt}
use Rattle.node_machine.specs.declared.event.DiscEvent.TheVariants as did
use Rattle.node_machine.specs.declared.event.Event.{Event}
use Rattle.node_machine.specs.declared.event.Event.TheVariants.{OfDisc, OfTrail}
use Rattle.node_machine.specs.declared.event.TrailEvent.TheVariants as trail_did
use Rattle.node_machine.specs.Made.{changes_left}
use Rattle.node_machine.specs.Node.{node}
use Rattle.node_machine.specs.Opening.{disc_part, trail_part}
use Rattle.node_machine.specs.Parts.{DiscPart, PartState}
use Rattle.node_machine.specs.Same.{Among}
use Rattle.node_machine.specs.Trail.{trail_of}
use Rattle.audit_writer.specs.Locked.{HasFailed as HasTrailFailed}
use Rattle.audit_writer.specs.declared.lock.FlushRefused.TheVariants as stopped
use Rattle.txn_states.specs.Txn.{HasStepped, Txn}
use Rattle.disc_process.specs.declared.live.Change.{Change}
use Rattle.disc_process.specs.declared.undo_refused.UndoRefused.{UndoRefused}
use Rattle.disc_process.specs.declared.undo_refused.UndoRefused.TheVariants as stuck
use Rattle.disc_process.specs.Device.{device_of}
use Rattle.disc_process.specs.Disc.{DiscView}
use Rattle.disc_process.specs.Draw.{HasDrawn, HasFailed as HasVolumeFailed}
use Rattle.disc_process.specs.Later.{IsLaterDisc, IsLawful}
use Rattle.disc_process.specs.Undo.{IsNewest, IsReleaseAnswer, IsUndoAnswer, IsUndoRefusal}
use Rattle.backout.specs.Backed.{AreUndone, IsFailureSeen, IsStuckAt, IsStuckBehind, IsStuckSomewhere, WasUndone}
use Rattle.backout.proofs.Found.{among_at, place_among}
use Rattle.backout.proofs.Steps.{prefix_same, prefix_then, still_part, stepped_then}

-- AT ONE DISC

shorter : (A : Type 0) (left : List A) (x : A) (others : List A) → left ≡ x ∷ others → length (drop 1 left) < length left
shorter A left x others is = subst (λ (l : List A). length (drop 1 l) < length l) (sym is) (omega arith)

-- an undo leaves fewer changes
pub fewer_left : {D : Type 0} (kind : disk.Ghosts D) (old new : DiscView D) (t : Transid) (done : Bool) → done ≡ true → IsUndoAnswer kind old new t (Ok done) → length (changes_left new.part.events t) < length (changes_left old.part.events t)
fewer_left kind old new t false is h = absurd (cc (is))
fewer_left kind old new t true is h =
    let newest : IsNewest old.part t h.0 = h.1 in
    subst (λ l. length l < length (changes_left old.part.events t)) (sym h.2.left) (shorter _ (changes_left old.part.events t) newest.item newest.others newest.left)

-- where none was undone none is left
pub none_left : {D : Type 0} (kind : disk.Ghosts D) (opening : List PartState) (old new : DiscView D) (t : Transid) (done : Bool) → done ≡ false → IsUndoAnswer kind old new t (Ok done) → IsLaterDisc opening old new
    → changes_left new.part.events t ≡ []
none_left kind opening old new t true is h later = absurd (cc (is))
none_left kind opening old new t false is h later = ap (λ (s : DiscPart). changes_left s.events t) (still_part opening old new later h.events) ∙ h.none

-- what a seat has seen of the disc, whose lock is held
pub undone_here : {D : Type 0} (kind : disk.Ghosts D) (opening : List PartState) (t : Transid) (first last : List (ℕ × Event)) (number : ℕ) (disc : DiscView D)
    → IsLawful kind opening disc → disc.part.number ≡ number → last ≡ disc.seat.seen → IsPrefix first last → changes_left disc.part.events t ≡ [] → WasUndone opening t first last number
undone_here kind opening t first last number disc lawful named seen begins none = record {
  seen = last;
  behind = begins;
  within = prefix_same last;
  part = disc.part;
  at = ap (λ (l : List (ℕ × Event)). slice_get (states_after node opening l) (disc_part number)) seen
      ∙ ap (λ (n : ℕ). slice_get (states_after node opening disc.seat.seen) (disc_part n)) (sym named)
      ∙ sym (state_of_part node opening disc.seat (disc_part disc.part.number) lawful.place)
      ∙ lawful.at;
  none = none;
}

-- the last event that a seat has seen of a part is new to one that had seen less
pub newly_seen : (p : ℕ) (e : Event) (old before last seat : Sight Event) (more : List Event) → IsPrefix old.seen before.seen → seat.seen ≡ last.seen
    → events_of p last.seen ≡ (events_of p before.seen ++ more) ++ e ∷ [] → HasNewlySeen p e old seat
newly_seen p e old before last seat more met seen is =
    let pre = events_of-prefix p old.seen before.seen met in record {
      more = pre.0 ++ more;
      events = ap (events_of p) seen ∙ is ∙ ap (λ (l : List Event). (l ++ more) ++ e ∷ []) (sym pre.1) ∙ ap (λ (l : List Event). l ++ e ∷ []) (append_assoc (events_of p old.seen) pre.0 more);
    }

-- the trail's failure, or the volume's, is new to the transaction's seat
failure_seen : {D : Type 0} (kind : disk.Ghosts D) (opening : List PartState) (t : Transid) (old seat : Sight Event) (number : ℕ) (first before last : DiscView D) (change : Change) (refusal : UndoRefused)
    → first.part.number ≡ number → first.seat.part ≡ Some (disc_part first.part.number) → IsLaterDisc opening first before → last.seat.part ≡ first.seat.part → IsPrefix old.seen first.seat.seen → seat.seen ≡ last.seat.seen
    → IsUndoRefusal kind before last t change refusal → IsFailureSeen first.part.config number t old seat refusal
failure_seen kind opening t old seat number first before last change (stuck.Damaged device damage) named place later behind met seen why = tt
failure_seen kind opening t old seat number first before last change stuck.NoMemory named place later behind met seen why = tt
failure_seen {D} kind opening t old seat number first before last change (stuck.Failed device) named place later behind met seen why =
    let config : before.part.config ≡ first.part.config = ap (λ (s : DiscPart). s.config) later.part in
    let same : before.part.number ≡ number = ap (λ (s : DiscPart). s.number) later.part ∙ named in
    let trail : trail_of before.part.config before.part.number ≡ trail_of first.part.config number = ap (λ (k : Config). trail_of k before.part.number) config ∙ ap (trail_of first.part.config) same in
    let more = prefix_then old.seen first.seat.seen before.seat.seen met later.begins in
    let here : first.seat.part ≡ Some (disc_part number) = place ∙ ap (λ (n : ℕ). Some (disc_part n)) named in
    ⊎_elim
    (λ (x : HasTrailFailed (trail_of before.part.config before.part.number) (Attempt t) before.seat last.seat (stopped.Failed device) × HasDrawn before.seat last.seat).
    let newly : HasNewlySeen (trail_part (trail_of first.part.config number)) (OfTrail (trail_did.Failed (Attempt t))) before.seat last.seat =
    subst (λ (n : ℕ). HasNewlySeen (trail_part n) (OfTrail (trail_did.Failed (Attempt t))) before.seat last.seat) trail x.0.1 in
    inl (x.0.0 ∙ trail, newly_seen (trail_part (trail_of first.part.config number)) (OfTrail (trail_did.Failed (Attempt t))) old before.seat last.seat seat newly.more more seen newly.events))
    (λ (x : HasVolumeFailed kind.faults (Attempt t) before last device).
    inr (
      x.named ∙ ap (λ (n : ℕ). 4 + n) same,
      newly_seen (disc_part number) (OfDisc (did.Failed (Attempt t))) old before.seat last.seat seat x.drawn more seen
          (sym (own_events_of last.seat (disc_part number) (behind ∙ here)) ∙ x.events ∙ ap (λ (l : List Event). (l ++ x.drawn) ++ OfDisc (did.Failed (Attempt t)) ∷ []) (own_events_of before.seat (disc_part number) (later.place ∙ here))),
    ))
    why

-- why the undo has stopped at the disc
pub stuck_here : {D : Type 0} (kind : disk.Ghosts D) (opening : List PartState) (config : Config) (devices : ℕ → Option D) (t : Transid) (old seat : Sight Event) (number : ℕ) (first last : DiscView D) (refusal : UndoRefused)
    → first.part.number ≡ number → first.part.config ≡ config → IsLawful kind opening first → IsLawful kind opening last → last.handed_in ≡ devices (device_of last.part.number) → IsLaterDisc opening first last → IsPrefix old.seen first.seat.seen
    → seat.seen ≡ last.seat.seen → IsStuckBehind kind opening first last t refusal → IsStuckAt kind opening config devices t old seat number refusal
stuck_here kind opening config devices t old seat number first last refusal named configured before after handed later met seen stuck = record {
  first = first;
  last = last;
  number_is = named;
  config_is = configured;
  first_lawful = before;
  last_lawful = after;
  later = later;
  handed_in = handed ∙ ap (λ (s : DiscPart). devices (device_of s.number)) later.part ∙ ap (λ (n : ℕ). devices (device_of n)) named;
  met = met;
  stuck = stuck;
  seen = seen;
  failed = subst (λ (k : Config). IsFailureSeen k number t old seat refusal) configured
      (failure_seen kind opening t old seat number first stuck.before last stuck.refused.change refusal named before.place stuck.later later.place met seen stuck.refused.why);
}

-- the disc's seat has met a note of the transaction's
pub met_before : (old note caller disc : Sight Event) → note ≡ note_of old → IsPrefix note.seen caller.seen → disc.seen ≡ caller.seen → IsPrefix old.seen disc.seen
met_before old note caller disc is grown same = subst (λ (l : List (ℕ × Event)). IsPrefix l disc.seen) (ap (λ (v : Sight Event). v.seen) is) (subst (λ (l : List (ℕ × Event)). IsPrefix note.seen l) (sym same) grown)

-- why a release has stopped
pub release_stuck : {D : Type 0} (kind : disk.Ghosts D) (opening : List PartState) (first last : DiscView D) (t : Transid) (r : Result ⊤ UndoRefused) → IsReleaseAnswer kind opening first last t r → IfErr r (IsStuckBehind kind opening first last t)
release_stuck kind opening first last t (Ok x) h = tt
release_stuck kind opening first last t (Err e) h = record { before = h.mid; later = h.same_disc; refused = h.next }

-- what is new to a seat was new to it before
failure_earlier : (config : Config) (number : ℕ) (t : Transid) (old mid seat : Sight Event) (refusal : UndoRefused) → IsPrefix old.seen mid.seen → IsFailureSeen config number t mid seat refusal → IsFailureSeen config number t old seat refusal
failure_earlier config number t old mid seat (stuck.Damaged device damage) more h = tt
failure_earlier config number t old mid seat stuck.NoMemory more h = tt
failure_earlier config number t old mid seat (stuck.Failed device) more h =
    let trail = trail_part (trail_of config number) in
    ⊎_elim
    (λ (x : (device ≡ trail_of config number) × HasNewlySeen trail (OfTrail (trail_did.Failed (Attempt t))) mid seat). inl (x.0, newly_seen trail (OfTrail (trail_did.Failed (Attempt t))) old mid seat seat x.1.more more refl x.1.events))
    (λ (x : (device ≡ 4 + number) × HasNewlySeen (disc_part number) (OfDisc (did.Failed (Attempt t))) mid seat). inr (x.0, newly_seen (disc_part number) (OfDisc (did.Failed (Attempt t))) old mid seat seat x.1.more more refl x.1.events))
    h

pub stuck_earlier : {D : Type 0} (kind : disk.Ghosts D) (opening : List PartState) (config : Config) (devices : ℕ → Option D) (t : Transid) (old mid seat : Sight Event) (number : ℕ) (refusal : UndoRefused) → IsPrefix old.seen mid.seen
    → IsStuckAt kind opening config devices t mid seat number refusal → IsStuckAt kind opening config devices t old seat number refusal
stuck_earlier kind opening config devices t old mid seat number refusal more s = record {
  first = s.first;
  last = s.last;
  number_is = s.number_is;
  config_is = s.config_is;
  first_lawful = s.first_lawful;
  last_lawful = s.last_lawful;
  later = s.later;
  handed_in = s.handed_in;
  met = prefix_then old.seen mid.seen s.first.seat.seen more s.met;
  stuck = s.stuck;
  seen = s.seen;
  failed = failure_earlier config number t old mid seat refusal more s.failed;
}

-- AT EACH DISC

module _ (opening : List PartState) where
  -- what was seen has been seen later too
  further : (t : Transid) (first mid last : List (ℕ × Event)) (number : ℕ) → IsPrefix mid last → WasUndone opening t first mid number → WasUndone opening t first last number
  further t first mid last number more w = record { seen = w.seen; behind = w.behind; within = prefix_then w.seen mid last w.within more; part = w.part; at = w.at; none = w.none }

  earlier : (t : Transid) (first mid last : List (ℕ × Event)) (number : ℕ) → IsPrefix first mid → WasUndone opening t mid last number → WasUndone opening t first last number
  earlier t first mid last number more w = record { seen = w.seen; behind = prefix_then first mid w.seen more w.behind; within = w.within; part = w.part; at = w.at; none = w.none }

  -- the same transaction, with nothing left at its first n discs
  pub record HasUndoneFirst (old new : Txn) (n : ℕ) : Type 0 where
    pub stepped : HasStepped opening old [] new
    pub undone : (k : ℕ) → k < n → WasUndone opening old.tx old.seat.seen new.seat.seen (get_or old.discs k 0)

  pub undone_more : (old mid new : Txn) (n : ℕ) → HasUndoneFirst old mid n → HasStepped opening mid [] new → WasUndone opening mid.tx mid.seat.seen new.seat.seen (get_or old.discs n 0) → HasUndoneFirst old new (n + 1)
  undone_more old mid new n come step here = record {
    stepped = stepped_then opening old mid new come.stepped step;
    undone = below_more (λ k. WasUndone opening old.tx old.seat.seen new.seat.seen (get_or old.discs k 0)) n
        (λ k few. further old.tx old.seat.seen mid.seat.seen new.seat.seen (get_or old.discs k 0) step.seat.begins (come.undone k few))
        (earlier old.tx old.seat.seen mid.seat.seen new.seat.seen (get_or old.discs n 0) come.stepped.seat.begins
        (subst (λ (t : Transid). WasUndone opening t mid.seat.seen new.seat.seen (get_or old.discs n 0)) come.stepped.tx here));
  }

  -- nothing is left at any of its discs
  pub undone_whole : (old new : Txn) (n : ℕ) → HasUndoneFirst old new n → length old.discs ≤ n → AreUndone opening old new.seat
  undone_whole old new n come all = λ d there.
      let at = place_among old.discs d there in
      let few : at.0 < n = omega (arith, all, at.1) in
      subst (λ (x : ℕ). WasUndone opening old.tx old.seat.seen new.seat.seen x) at.2 (come.undone at.0 few)

  -- all was undone, as a later seat has seen too
  pub undone_later : (old mid new : Txn) → HasStepped opening mid [] new → AreUndone opening old mid.seat → AreUndone opening old new.seat
  undone_later old mid new step undone = λ d there. further old.tx old.seat.seen mid.seat.seen new.seat.seen d step.seat.begins (undone d there)

  pub undone_on : (old : Txn) (mid last : Sight Event) → IsPrefix mid.seen last.seen → AreUndone opening old mid → AreUndone opening old last
  undone_on old mid last more undone = λ d there. further old.tx old.seat.seen mid.seen last.seen d more (undone d there)

-- one of its discs has stopped it
pub stuck_at : {D : Type 0} (kind : disk.Ghosts D) (opening : List PartState) (config : Config) (devices : ℕ → Option D) (old mid : Txn) (seat : Sight Event) (n : ℕ) (refusal : UndoRefused) → HasStepped opening old [] mid → n < length old.discs
    → IsStuckAt kind opening config devices mid.tx mid.seat seat (get_or old.discs n 0) refusal → IsStuckSomewhere kind opening config devices old seat refusal
stuck_at kind opening config devices old mid seat n refusal step few stuck = (
  get_or old.discs n 0,
  among_at old.discs n few,
  subst (λ (x : Transid). IsStuckAt kind opening config devices x old.seat seat (get_or old.discs n 0) refusal) step.tx (stuck_earlier kind opening config devices mid.tx old.seat mid.seat seat (get_or old.discs n 0) refusal step.seat.begins stuck),
)

pub somewhere_earlier : {D : Type 0} (kind : disk.Ghosts D) (opening : List PartState) (config : Config) (devices : ℕ → Option D) (old mid : Txn) (seat : Sight Event) (refusal : UndoRefused) → HasStepped opening old [] mid
    → IsStuckSomewhere kind opening config devices mid seat refusal → IsStuckSomewhere kind opening config devices old seat refusal
somewhere_earlier kind opening config devices old mid seat refusal step h = (
  h.0,
  subst (λ (xs : List ℕ). Among xs h.0) step.discs h.1,
  subst (λ (x : Transid). IsStuckAt kind opening config devices x old.seat seat h.0 refusal) step.tx (stuck_earlier kind opening config devices mid.tx old.seat mid.seat seat h.0 refusal step.seat.begins h.2),
)

-- Why a dump was refused, as a caller has seen it that had seen less before.
use Rattle.std.specs.Prelude.{IfErr, IsSome, reverse}
use Rattle.std.proofs.Common.{◌≡◌, ◌⊎◌, ◌+◌, ◌<◌, ◌&&◌, ◌==◌, ⊎_elim, inl, inr, ℕ, List, [], ◌∷◌, Bool, true, false, arith, Option, Some, None, Result, Err, eqb-true, refl, ap, sym, ◌∙◌, subst}
use Rattle.std.specs.Prelude.{if◌then◌else◌}
use Rattle.std.specs.declared.sync.ledger.Share.{Share}
use mathlib.Core.List.{IsPrefix}
use Rattle.chronicle.specs.Seats.{Sight}
use Rattle.disk_model.specs.declared.disk.Disk as disk
use Rattle.tmf_model.specs.declared.config.Config.{Config}
use Rattle.tmf_model.specs.declared.transid.Transid.{Transid}
use Rattle.keyed_file.specs.Dump.{blocks_in_all}
use Rattle.node_machine.specs.declared.event.By.TheVariants.{Attempt}
use Rattle.node_machine.specs.declared.event.Cause.TheVariants as cause
use Rattle.node_machine.specs.declared.event.DiscEvent.TheVariants as did
use Rattle.node_machine.specs.declared.event.DumpEvent.{DumpEvent}
use Rattle.node_machine.specs.declared.event.DumpEvent.TheVariants.{Copy, Seal, Sealed, Failed as DumpFailed}
use Rattle.node_machine.specs.declared.event.Event.{Event}
use Rattle.node_machine.specs.declared.event.Event.TheVariants.{OfDisc, OfDump, OfTrail}
use Rattle.node_machine.specs.declared.event.TrailEvent.TheVariants as trail_did
use Rattle.node_machine.specs.Dump.{IsBlockOf, copied}
use Rattle.node_machine.specs.Made.{blocks_of, volume_of}
use Rattle.node_machine.specs.Opening.{Found, disc_part, dump_part, trail_part}
use Rattle.node_machine.specs.Parts.{PartState}
use Rattle.node_machine.specs.Same.{Among, is_same_block}
use Rattle.node_machine.specs.Trail.{trail_of}
use Rattle.disc_lock.specs.Tokens.{HasGiven}
use Rattle.online_dump.specs.Copies.{files_of}
use Rattle.online_dump.specs.Dumped.{HasBegunFor, HasFailedFor, HasGivenUpFor, HasSeen, HasSeenCopies, HasSeenEnd, HasSeenSince, IsDumpRefusal, IsFit, IsNextRefusal, IsSpent, HasTurnedAway, IsStopFor, IsUnseen, WasFit, WasSo}
use Rattle.online_dump.specs.Dumper.{AreCopied, Dumper, open_dump}
use Rattle.online_dump.specs.Dumping.{HasSealedDump}
use Rattle.online_dump.specs.Seat.{DumpSight, HasStepped, IsDumpAt}
use Rattle.online_dump.specs.declared.copying.Copying.{Copying}
use Rattle.online_dump.specs.declared.refused.DumpRefused.{DumpRefused}
use Rattle.online_dump.specs.declared.refused.DumpRefused.TheVariants.{Spent, Dumping, Failed, Damaged, NoMemory}
use Rattle.online_dump.proofs.Places.{place_within}
use Rattle.online_dump.proofs.Seeing.{had_seen}
use Rattle.online_dump.proofs.Since.{among_dump, among_reverse, device_seen, if_err, prefix_same, prefix_then, seen_more, since_more}

-- WIDER

pub failed_wider : (config : Config) (volume : ℕ) (item : Transid) (a b c d : Sight Event) (device : ℕ) → IsPrefix a.seen b.seen → IsPrefix c.seen d.seen → HasFailedFor config volume item b c device → HasFailedFor config volume item a d device
failed_wider config volume item a b c d device first last f =
    let trail = trail_part (trail_of config volume) in
    let disc = disc_part volume in
    let dump = dump_part volume in
    ⊎_elim
    (λ (x : (device ≡ trail_of config volume) × HasSeenSince trail (OfTrail (trail_did.Failed (Attempt item))) b c). inl (x.0, since_more trail (OfTrail (trail_did.Failed (Attempt item))) a b c d first last x.1))
    (λ (rest : ((device ≡ 4 + volume) × HasSeenSince disc (OfDisc (did.Failed (Attempt item))) b c) ⊎ ((device ≡ 12 + volume) × HasSeenSince dump (OfDump (DumpFailed (Attempt item))) b c)).
    inr (⊎_elim
    (λ (x : (device ≡ 4 + volume) × HasSeenSince disc (OfDisc (did.Failed (Attempt item))) b c). inl (x.0, since_more disc (OfDisc (did.Failed (Attempt item))) a b c d first last x.1))
    (λ (x : (device ≡ 12 + volume) × HasSeenSince dump (OfDump (DumpFailed (Attempt item))) b c). inr (x.0, since_more dump (OfDump (DumpFailed (Attempt item))) a b c d first last x.1))
    rest))
    f

pub stop_wider : {D : Type 0} (kind : disk.Ghosts D) (devices : ℕ → Option D) (found : Found) (volume : ℕ) (item : Transid) (a b c d : Sight Event) → IsPrefix a.seen b.seen → IsPrefix c.seen d.seen
    → (refused : DumpRefused) → IsStopFor kind devices found volume item b c refused → IsStopFor kind devices found volume item a d refused
stop_wider kind devices found volume item a b c d first last (Spent part) h = absurd h
stop_wider kind devices found volume item a b c d first last Dumping h = absurd h
stop_wider kind devices found volume item a b c d first last (Failed device) h = failed_wider found.config volume item a b c d device first last h
stop_wider kind devices found volume item a b c d first last (Damaged device damage) h = h
stop_wider kind devices found volume item a b c d first last NoMemory h = tt

pub stop_later : (found : Found) (volume : ℕ) (item : Transid) (a b c : Sight Event) → IsPrefix b.seen c.seen → (device : ℕ) → HasFailedFor found.config volume item a b device → HasFailedFor found.config volume item a c device
stop_later found volume item a b c last device h = failed_wider found.config volume item a a b c device (prefix_same a.seen) last h

pub so_wider : {D : Type 0} (kind : disk.Ghosts D) (opening : List PartState) (found : Found) (volume : ℕ) (a b c d : Sight Event) (says : List (ℕ × Event) → Type 0) → IsPrefix a.seen b.seen → IsPrefix c.seen d.seen
    → WasSo kind opening found volume b c says → WasSo kind opening found volume a d says
so_wider kind opening found volume a b c d says first last w = record {
  disc = w.disc;
  lawful = w.lawful;
  number_is = w.number_is;
  config_is = w.config_is;
  device = w.device;
  device_lawful = w.device_lawful;
  device_is = w.device_is;
  seen = w.seen;
  behind = prefix_then a.seen b.seen w.seen first w.behind;
  before = prefix_then w.seen c.seen d.seen w.before last;
  whole = w.whole;
  whole_device = w.whole_device;
  so = w.so;
}

pub unseen_before : (volume number : ℕ) (a b : Sight Event) → IsPrefix a.seen b.seen → IsUnseen volume number b → IsUnseen volume number a
unseen_before volume number a b begins h = record {
  at_disc = λ e of there. h.at_disc e of (seen_more (disc_part volume) e a b begins there);
  at_device = λ e of there. h.at_device e of (seen_more (dump_part volume) e a b begins there);
}

module _ {L : Type 0} (before after : Share L) where
  pub begun_wider : (volume : ℕ) (item : Transid) (number start : ℕ) (a b c d : Sight Event) → IsPrefix a.seen b.seen → IsPrefix c.seen d.seen → HasBegunFor volume item number start b c before after → HasBegunFor volume item number start a d before after
  begun_wider volume item number start a b c d first last h =
      record { is_new = unseen_before volume number a b first h.is_new; started = seen_more (disc_part volume) (OfDisc (did.Start number start item)) c d last h.started; given = h.given }

  pub turned_wider : (volume : ℕ) (item : Transid) (a b c d : Sight Event) → IsPrefix a.seen b.seen → IsPrefix c.seen d.seen → HasTurnedAway volume item b c before after → HasTurnedAway volume item a d before after
  turned_wider volume item a b c d first last h = record { turned = since_more (disc_part volume) (OfDisc (did.Turn item cause.Dumping)) a b c d first last h.turned; given = h.given }

  pub ended_wider : {D : Type 0} (kind : disk.Ghosts D) (devices : ℕ → Option D) (found : Found) (volume : ℕ) (item : Transid) (a b d : Sight Event) (refused : DumpRefused) → IsPrefix a.seen b.seen
      → HasGivenUpFor kind devices found volume item b d before after refused → HasGivenUpFor kind devices found volume item a d before after refused
  ended_wider kind devices found volume item a b d refused first h = record {
    number = h.number;
    start = h.start;
    between = h.between;
    behind = prefix_then a.seen b.seen h.between.seen first h.behind;
    later = h.later;
    begun = begun_wider volume item h.number h.start a b h.between h.between first (prefix_same h.between.seen) h.begun;
    stop = h.stop;
    ended = h.ended;
  }

-- the share that has given nothing
pub gives_none : {L : Type 0} (share : Share L) → HasGiven false share share
gives_none share = record { parts = refl; amount = omega arith }

-- a refusal of the next dump is one of the call, where no part was spent before
pub next_refused : {D L : Type 0} (kind : disk.Ghosts D) (devices : ℕ → Option D) (opening : List PartState) (found : Found) (volume : ℕ) (item : Transid) (a b c d : Sight Event) (before after : Share L) → IsPrefix a.seen c.seen → IsPrefix b.seen d.seen
    → WasFit kind opening found volume a b → (refused : DumpRefused) → IsNextRefusal kind devices opening found volume item c d before after refused → IsDumpRefusal kind devices opening found volume item a d before after refused
next_refused kind devices opening found volume item a b c d before after first last fit refused (inr h) =
    inr (so_wider kind opening found volume a a b d (IsFit found.config volume) (prefix_same a.seen) last fit, ended_wider before after kind devices found volume item a c d refused first h)
next_refused kind devices opening found volume item a b c d before after first last fit (Spent part) (inl h) = inl (so_wider kind opening found volume a c d d (IsSpent found.config volume part) first (prefix_same d.seen) h.0, h.1)
next_refused kind devices opening found volume item a b c d before after first last fit Dumping (inl h) =
    inl (so_wider kind opening found volume a a b d (IsFit found.config volume) (prefix_same a.seen) last fit, turned_wider before after volume item a c d d first (prefix_same d.seen) h)
next_refused kind devices opening found volume item a b c d before after first last fit (Failed device) (inl h) = absurd h
next_refused kind devices opening found volume item a b c d before after first last fit (Damaged device damage) (inl h) = absurd h
next_refused kind devices opening found volume item a b c d before after first last fit NoMemory (inl h) = absurd h

-- THE COPIES

both : (a b : Bool) → (a && b) ≡ true → (a ≡ true) × (b ≡ true)
both true b e = (refl, e)
both false b e = absurd (cc (e))

copied_among : (events : List DumpEvent) (number file block position : ℕ) → copied events number file block ≡ Some position → Among events (Copy number file block position)
copied_among [] number file block position e = absurd (cc (e))
copied_among (Copy i f b p ∷ events) number file block position e = of (copied_among events number file block position) ((number == i) && is_same_block file block f b) refl e
  where
    of : (copied events number file block ≡ Some position → Among events (Copy number file block position)) → (t : Bool) → ((number == i) && is_same_block file block f b) ≡ t → (if t then Some p else copied events number file block) ≡ Some position → (Copy i f b p ≡ Copy number file block position) ⊎ Among events (Copy number file block position)
    of rest true t h =
        let one = both (number == i) (is_same_block file block f b) t in
        let two = both (file == f) (block == b) one.1 in
        let n : number ≡ i = eqb-true number i one.0 in
        let x : file ≡ f = eqb-true file f two.0 in
        let y : block ≡ b = eqb-true block b two.1 in
        let z : p ≡ position = cc (h) in
        inl (cc (n, x, y, z))
    of rest false t h = inr (rest h)
copied_among (Seal i s ∷ events) number file block position e = inr (copied_among events number file block position e)
copied_among (Sealed i whole ∷ events) number file block position e = inr (copied_among events number file block position e)
copied_among (DumpFailed by ∷ events) number file block position e = inr (copied_among events number file block position e)

there_is : {A : Type 0} (o : Option A) → IsSome o → (x : A) × (o ≡ Some x)
there_is None some = absurd (cc (some))
there_is (Some x) some = (x, refl)

-- every block is copied, and a seat has seen what the device has
pub copies_seen : (opening : List PartState) (found : Found) (w : DumpSight) (volume number : ℕ) (seat : Sight Event) → IsDumpAt opening found w → w.part.number ≡ volume → w.sight.seen ≡ seat.seen
    → AreCopied w.part number (blocks_in_all (files_of w.part)) → HasSeenCopies found.config volume number seat
copies_seen opening found w volume number seat is number_is same are file block here within =
    let config : w.part.config ≡ found.config = is.was.config in
    let it : IsBlockOf w.part file block = record {
      here = ap (λ (k : Config). volume_of k file) config ∙ here ∙ sym number_is;
      within = subst (λ (k : Config). block < blocks_of k file) (sym config) within;
    } in
    let position = there_is (copied w.part.events number file block) (are.done file block it (place_within w.part file block it)) in
    let there = among_dump (reverse w.part.events) (Copy number file block position.0) (among_reverse w.part.events (Copy number file block position.0) (copied_among w.part.events number file block position.0 position.1)) in
    (position.0, subst (λ (l : List Event). Among l (OfDump (Copy number file block position.0))) (sym (device_seen opening found w volume seat.seen is number_is same ∙ is.told)) there)

pub copies_later : (config : Config) (volume number : ℕ) (a b : Sight Event) → IsPrefix a.seen b.seen → HasSeenCopies config volume number a → HasSeenCopies config volume number b
copies_later config volume number a b begins h file block here within =
    let one = h file block here within in
    (one.0, seen_more (dump_part volume) (OfDump (Copy number file block one.0)) a b begins one.1)

-- THE SEALING

-- the two events of a sealing are seen by whoever has seen more than one who has met the device behind it
pub sealed_seen : {D : Type 0} (opening : List PartState) (found : Found) (w x u : Dumper D) (c : Copying) (m : Sight Event) (volume : ℕ) → HasSealedDump w x → open_dump w ≡ Some c → HasStepped opening found [] x.seat u.seat → u.seat.sight.seen ≡ m.seen
    → u.seat.part.number ≡ volume → (d : Sight Event) → IsPrefix m.seen d.seen → HasSeen (dump_part volume) (OfDump (Seal c.number c.start)) d × HasSeen (dump_part volume) (OfDump (Sealed c.number true)) d
sealed_seen opening found w x u c m volume done opened stepped same number d begins =
    let is : done.c ≡ c = cc (done.was, opened) in
    let events : List DumpEvent = Seal done.c.number done.c.start ∷ Sealed done.c.number true ∷ [] in
    let seal = had_seen opening found w x u m stepped same volume number events (Seal c.number c.start) done.had (inl (ap (λ (y : Copying). Seal y.number y.start) is)) in
    let sealed = had_seen opening found w x u m stepped same volume number events (Sealed c.number true) done.had (inr (inl (ap (λ (y : Copying). Sealed y.number true) is))) in (
      seen_more (dump_part volume) (OfDump (Seal c.number c.start)) m d begins seal,
      seen_more (dump_part volume) (OfDump (Sealed c.number true)) m d begins sealed,
    )

-- how a dump ended that had begun, as a seat has seen it that had seen less before
pub stopped_wider : {T D : Type 0} (kind : disk.Ghosts D) (devices : ℕ → Option D) (found : Found) (volume : ℕ) (item : Transid) (number : ℕ) (a b d : Sight Event) (r : Result T DumpRefused) → IsPrefix a.seen b.seen
    → IfErr r (λ e. IsStopFor kind devices found volume item b d e × HasSeenEnd volume number d) → IfErr r (λ e. IsStopFor kind devices found volume item a d e × HasSeenEnd volume number d)
stopped_wider kind devices found volume item number a b d r first h =
    if_err (λ e. IsStopFor kind devices found volume item b d e × HasSeenEnd volume number d) (λ e. IsStopFor kind devices found volume item a d e × HasSeenEnd volume number d) r
    (λ e x. (stop_wider kind devices found volume item a b d d first (prefix_same d.seen) e x.0, x.1)) h

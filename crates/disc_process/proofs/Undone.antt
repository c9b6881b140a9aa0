-- What is said of an undo behind the draws that made room for it, and behind a meeting of seats.
use Rattle.std.proofs.Common.{◌≡◌, ◌≢◌, ℕ, ◌+◌, ◌<◌, ◌≤◌, ◌⊎◌, inl, inr, Bool, true, false, List, [], ◌∷◌, ◌++◌, drop, Option, Some, None, Result, Ok, Err, cond, refl, ap, sym, ◌∙◌, subst, append-nil}
use Rattle.chronicle.specs.Seats.{HasGrown, own_events}
use Rattle.disk_model.specs.declared.disk.Disk as disk
use Rattle.keyed_file.specs.Block.{KeyedBlock, value_at}
use Rattle.tmf_model.specs.declared.config.Config.{Config}
use Rattle.tmf_model.specs.declared.transid.Transid.{Transid}
use Rattle.trail_files.specs.MonitorOrder.{is_same_transid}
use Rattle.trail_files.specs.declared.audit_record.AuditRecord.{AuditRecord}
use Rattle.trail_files.specs.declared.audit_record.AuditKind.TheVariants.{Undo as UndoKind}
use Rattle.trail_files.specs.declared.damage.DamageKind.TheVariants.{BadBlock}
use Rattle.audit_writer.specs.declared.lock.FlushRefused.TheVariants as stopped
use Rattle.block_cache.specs.Blocks.{InCache, View, home_of}
use Rattle.node_machine.specs.declared.event.By.TheVariants.{Attempt}
use Rattle.node_machine.specs.declared.event.DiscEvent.TheVariants as did
use Rattle.node_machine.specs.declared.event.Event.TheVariants.{OfDisc}
use Rattle.node_machine.specs.Made.{changes_left, home_block, volume_of}
use Rattle.node_machine.specs.Parts.{DiscPart}
use Rattle.node_machine.specs.SameLaws.{same_self}
use Rattle.disc_process.specs.declared.live.Change.{Change}
use Rattle.disc_process.specs.declared.refused.WriteRefused.{WriteRefused}
use Rattle.disc_process.specs.declared.refused.WriteRefused.TheVariants as refused
use Rattle.disc_process.specs.declared.undo_refused.UndoRefused.{UndoRefused}
use Rattle.disc_process.specs.declared.undo_refused.UndoRefused.TheVariants as stuck
use Rattle.disc_process.specs.Blocks.{BringsIn, KeepsOtherBlocks, cached, with_change}
use Rattle.disc_process.specs.Damage.{WasRight}
use Rattle.disc_process.specs.Disc.{DiscView}
use Rattle.disc_process.specs.Draw.{AreDraws, AreForRoom, HasDrawn, HasMadeRoom, HasSoughtRoom, SameWork}
use Rattle.disc_process.specs.Release.{with_event}
use Rattle.disc_process.specs.Undo.{CannotTakeBack, HasPutBack, HasRoomTill, HasTakenBack, IsNewest, IsNotUndone, IsUndoAnswer, IsUndoRefusal, home_of_change, takes_back, undo_of, undo_refusal, undone_block}
use Rattle.disc_process.specs.Write.{HasBadBlock, IsUnread}
use Rattle.disc_process.proofs.Answered.{eq_le}
use Rattle.disc_process.proofs.Bringing.{others_brought, was_brought}
use Rattle.disc_process.proofs.Drawn.{draws_then, refusal_more}
use Rattle.disc_process.proofs.Rooms.{room_before, room_behind, room_draws, sought_before, sought_made}

pub newest_later : (s m : DiscPart) (t : Transid) (change : Change) → SameWork s m → IsNewest s t change → IsNewest m t change
newest_later s m t change work was = record {
  item = was.item;
  others = was.others;
  left = work.left t ∙ was.left;
  is = was.is;
  here = subst (λ (x : Config × ℕ). volume_of x.0 change.file ≡ x.1) (λ j. (sym work.config j, sym work.number j)) was.here;
  unreleased = work.released t ∙ was.unreleased;
}

undo_same : (s m : DiscPart) (t : Transid) (change : Change) (before : Option (List ℕ)) → SameWork s m → undo_of m t change before ≡ undo_of s t change before
undo_same s m t change before work = λ j. record { kind = UndoKind; disc = work.number j; file = change.file; tx = t; position = work.next j; key = change.key; before = before; after = change.before }

-- one change less is left
one_undone : (s n : DiscPart) (t : Transid) (r : AuditRecord) → r.tx ≡ t → n ≡ with_event s (did.Undo r) → changes_left n.events t ≡ drop 1 (changes_left s.events t)
one_undone s n t r is now =
    ap (λ (x : DiscPart). changes_left x.events t) now
    ∙ ap (λ b. cond b (drop 1 (changes_left s.events t)) (changes_left s.events t)) (ap (λ (x : Transid). is_same_transid x t) is ∙ same_self t)

module _ {D : Type 0} (kind : disk.Ghosts D) (old mid new : DiscView D) (t : Transid) (change : Change) (newest : IsNewest old.part t change) (drawn : HasMadeRoom old.blocks change.file (home_of_change old.part change) old.seat mid.seat) (work : SameWork old.part mid.part) where
  are_draws : AreDraws drawn.drawn
  are_draws = room_draws old.blocks change.file (home_of_change old.part change) drawn.drawn drawn.room

  -- a change that was undone behind draws
  pub undone_behind : BringsIn old.blocks mid.blocks change.file (home_of_change old.part change) → (block : KeyedBlock) × HasPutBack mid new t change block → IsUndoAnswer kind old new t (Ok true)
  undone_behind brings (block, h) = (
    change,
    newest,
    record {
      block = block;
      was = was_brought old.blocks mid.blocks change.file (home_of_change old.part change) brings
          (subst (λ (c : Config). home_block c change.file change.key < 256) work.config h.cached.0) block
          (subst (λ (c : Config). cached mid.blocks change.file (home_block c change.file change.key) ≡ Some block) work.config h.was);
      others = λ f n few other.
          others_brought old.blocks mid.blocks change.file (home_of_change old.part change) brings new.blocks f n few other
          (h.others f n few (subst (λ (c : Config). (f ≢ change.file) ⊎ (n ≢ home_block c change.file change.key)) (sym work.config) other));
      cached = subst (λ (x : Config × ℕ). InCache new.blocks.cache change.file (home_block x.0 change.file change.key) (λ f. f.block ≡ with_change change.key change.before x.1 block))
          (λ j. (work.config j, work.next j)) h.cached;
      drawn = drawn.drawn;
      draws = are_draws;
      room = drawn.room;
      events = h.events
          ∙ ap (λ xs. xs ++ OfDisc (did.Undo (undo_of mid.part t change (value_at block change.key))) ∷ []) drawn.events
          ∙ ap (λ (r : AuditRecord). (own_events old.seat ++ drawn.drawn) ++ OfDisc (did.Undo r) ∷ []) (undo_same old.part mid.part t change (value_at block change.key) work);
      left = one_undone mid.part new.part t (undo_of mid.part t change (value_at block change.key)) refl h.part ∙ ap (drop 1) (work.left t);
    },
  )

  still_drawn : new ≡ mid → HasDrawn old.seat new.seat
  still_drawn same = record { drawn = drawn.drawn; are = are_draws; events = ap (λ (v : DiscView D). own_events v.seat) same ∙ drawn.events }

  why_stuck : (e : UndoRefused) → HasTakenBack kind mid new t change (Err e) → IsUndoRefusal kind old new t change e
  why_stuck (stuck.Failed device) h = absurd h
  why_stuck stuck.NoMemory same = still_drawn same
  why_stuck (stuck.Damaged device damage) (named, same, cannot) = (
    named ∙ ap (λ n. 4 + n) work.number,
    still_drawn same,
    inr (record {
      block = subst (λ (x : View D × Config). InCache x.0.cache change.file (home_block x.1 change.file change.key) (λ f. takes_back f.block change.before (value_at f.block change.key) ≡ false))
          (λ j. (ap (λ (v : DiscView D). v.blocks) (sym same) j, work.config j)) cannot.block;
      at = subst (λ (c : Config). damage ≡ record { file = 1 + change.file; at = home_block c change.file change.key; kind = BadBlock }) work.config cannot.at;
      baseless = sym work.base ∙ cannot.baseless;
      right = subst (λ (x : DiscView D × Config). WasRight kind x.0.handed_in (home_of x.0.blocks change.file (home_block x.1 change.file change.key))) (λ j. (sym same j, work.config j)) cannot.right;
    }),
  )

  -- or was not
  stuck_same : (e : UndoRefused) → HasTakenBack kind mid new t change (Err e) → new ≡ mid
  stuck_same (stuck.Failed device) h = absurd h
  stuck_same stuck.NoMemory same = same
  stuck_same (stuck.Damaged device damage) h = h.1

  room_stuck : (e : UndoRefused) → own_events new.seat ≡ own_events mid.seat → HasRoomTill old new t change e
  room_stuck (stuck.Failed device) own = sought_made (Attempt t) old.blocks change.file (home_of_change old.part change) old.seat mid.seat new.seat drawn own
  room_stuck stuck.NoMemory own = sought_made (Attempt t) old.blocks change.file (home_of_change old.part change) old.seat mid.seat new.seat drawn own
  room_stuck (stuck.Damaged device damage) own = room_behind old.blocks change.file (home_of_change old.part change) old.seat mid.seat new.seat own drawn

  pub stuck_behind : BringsIn old.blocks mid.blocks change.file (home_of_change old.part change) → (e : UndoRefused) → HasTakenBack kind mid new t change (Err e) → IsNotUndone kind old new t e
  stuck_behind brings e h = record {
    change = change;
    newest = newest;
    why = why_stuck e h;
    brings = subst (λ (v : DiscView D). BringsIn old.blocks v.blocks change.file (home_of_change old.part change)) (sym (stuck_same e h)) brings;
    room = room_stuck e (ap (λ (v : DiscView D). own_events v.seat) (stuck_same e h));
  }

-- a block that was not read
why_unread : {D : Type 0} (kind : disk.Ghosts D) (old new : DiscView D) (t : Transid) (change : Change) (f n : ℕ) → f ≡ change.file → n ≡ home_of_change old.part change
    → (e : WriteRefused) → IsUnread kind t f n old new e → IsUndoRefusal kind old new t change (undo_refusal e)
why_unread kind old new t change f n file number refused.NoMemory h = h.0
why_unread kind old new t change f n file number (refused.Failed device) h = h.0
why_unread kind old new t change f n file number (refused.Damaged device damage) h =
    (h.0, h.1, inl (subst (λ (x : ℕ × ℕ). HasBadBlock kind new x.0 x.1 damage) (λ j. (file j, number j)) h.2))
why_unread kind old new t change f n file number (refused.Spent part) h = absurd h
why_unread kind old new t change f n file number (refused.Busy holder) h = absurd h
why_unread kind old new t change f n file number refused.Full h = absurd h
why_unread kind old new t change f n file number (refused.Refused reason) h = absurd h

room_till : {D : Type 0} (kind : disk.Ghosts D) (old new : DiscView D) (t : Transid) (change : Change) (f n : ℕ) → f ≡ change.file → n ≡ home_of_change old.part change
    → (e : WriteRefused) → IsUnread kind t f n old new e → HasRoomTill old new t change (undo_refusal e)
room_till kind old new t change f n file number refused.NoMemory h = subst (λ (x : ℕ × ℕ). HasSoughtRoom (Attempt t) old.blocks x.0 x.1 old.seat new.seat) (λ j. (file j, number j)) h.1
room_till kind old new t change f n file number (refused.Failed device) h = subst (λ (x : ℕ × ℕ). HasSoughtRoom (Attempt t) old.blocks x.0 x.1 old.seat new.seat) (λ j. (file j, number j)) h.1
room_till kind old new t change f n file number (refused.Damaged device damage) h = subst (λ (x : ℕ × ℕ). HasMadeRoom old.blocks x.0 x.1 old.seat new.seat) (λ j. (file j, number j)) h.3
room_till kind old new t change f n file number (refused.Spent part) h = absurd h
room_till kind old new t change f n file number (refused.Busy holder) h = absurd h
room_till kind old new t change f n file number refused.Full h = absurd h
room_till kind old new t change f n file number (refused.Refused reason) h = absurd h

pub unread_stuck : {D : Type 0} (kind : disk.Ghosts D) (old new : DiscView D) (t : Transid) (change : Change) (f n : ℕ) → IsNewest old.part t change → f ≡ change.file → n ≡ home_of_change old.part change
    → BringsIn old.blocks new.blocks f n → (e : WriteRefused) → IsUnread kind t f n old new e → IsNotUndone kind old new t (undo_refusal e)
unread_stuck kind old new t change f n newest file number brings e h = record {
  change = change;
  newest = newest;
  why = why_unread kind old new t change f n file number e h;
  brings = subst (λ (x : ℕ × ℕ). BringsIn old.blocks new.blocks x.0 x.1) (λ j. (file j, number j)) brings;
  room = room_till kind old new t change f n file number e h;
}

-- behind a meeting
module _ {D : Type 0} (kind : disk.Ghosts D) (old mid new : DiscView D) (t : Transid) (part : mid.part ≡ old.part) (blocks : mid.blocks ≡ old.blocks) (grown : HasGrown old.seat mid.seat)
    (later : kind.faults mid.blocks.device ≤ kind.faults new.blocks.device) where
  newest_met : (change : Change) → IsNewest mid.part t change → IsNewest old.part t change
  newest_met change h = subst (λ (s : DiscPart). IsNewest s t change) part h

  drawn_met : HasDrawn mid.seat new.seat → HasDrawn old.seat new.seat
  drawn_met h = draws_then old.seat mid.seat new.seat [] refl (grown.mine ∙ sym (append-nil (own_events old.seat))) h

  why_met : (change : Change) (e : UndoRefused) → IsUndoRefusal kind mid new t change e → IsUndoRefusal kind old new t change e
  why_met change stuck.NoMemory h = drawn_met h
  why_met change (stuck.Damaged device damage) h = (
    h.0 ∙ ap (λ (s : DiscPart). 4 + s.number) part,
    drawn_met h.1,
    subst (λ (s : DiscPart). HasBadBlock kind new change.file (home_of_change s change) damage ⊎ CannotTakeBack kind new.handed_in s new.blocks change damage) part h.2,
  )
  why_met change (stuck.Failed device) h =
      refusal_more kind.faults (Attempt t) old mid new (stopped.Failed device) [] (ap (λ (s : DiscPart). s.config) part) (ap (λ (s : DiscPart). s.number) part) grown.begins
      (grown.mine ∙ sym (append-nil (own_events old.seat))) refl (eq_le (sym (ap (λ (v : View D). kind.faults v.device) blocks))) later h

  sought_met : (change : Change) → HasSoughtRoom (Attempt t) mid.blocks change.file (home_of_change mid.part change) mid.seat new.seat → HasSoughtRoom (Attempt t) old.blocks change.file (home_of_change old.part change) old.seat new.seat
  sought_met change h = sought_before (Attempt t) old.blocks mid.blocks change.file (home_of_change old.part change) old.seat mid.seat new.seat blocks grown.mine
      (subst (λ (s : DiscPart). HasSoughtRoom (Attempt t) mid.blocks change.file (home_of_change s change) mid.seat new.seat) part h)

  room_met : (change : Change) (e : UndoRefused) → HasRoomTill mid new t change e → HasRoomTill old new t change e
  room_met change (stuck.Failed device) h = sought_met change h
  room_met change stuck.NoMemory h = sought_met change h
  room_met change (stuck.Damaged device damage) h = room_before old.blocks mid.blocks change.file (home_of_change old.part change) old.seat mid.seat new.seat blocks grown.mine
      (subst (λ (s : DiscPart). HasMadeRoom mid.blocks change.file (home_of_change s change) mid.seat new.seat) part h)

  pub refusal_met : (e : UndoRefused) → IsNotUndone kind mid new t e → IsNotUndone kind old new t e
  refusal_met e h = record {
    change = h.change;
    newest = newest_met h.change h.newest;
    why = why_met h.change e h.why;
    brings = subst (λ (x : View D × DiscPart). BringsIn x.0 new.blocks h.change.file (home_of_change x.1 h.change)) (λ j. (blocks j, part j)) h.brings;
    room = room_met h.change e h.room;
  }

  pub answer_met : (r : Result Bool UndoRefused) → IsUndoAnswer kind mid new t r → IsUndoAnswer kind old new t r
  answer_met (Ok true) (change, newest, h) = (
    change,
    newest_met change newest,
    record {
      block = h.block;
      was = subst (λ (x : View D × DiscPart). (cached x.0 change.file (home_of_change x.1 change) ≡ None) ⊎ (cached x.0 change.file (home_of_change x.1 change) ≡ Some h.block))
          (λ j. (blocks j, part j)) h.was;
      others = subst (λ (x : View D × DiscPart). KeepsOtherBlocks x.0 new.blocks change.file (home_of_change x.1 change)) (λ j. (blocks j, part j)) h.others;
      cached = subst (λ (s : DiscPart). InCache new.blocks.cache change.file (home_of_change s change) (λ f. f.block ≡ undone_block s change h.block)) part h.cached;
      drawn = h.drawn;
      draws = h.draws;
      room = subst (λ (x : View D × DiscPart). AreForRoom x.0 change.file (home_of_change x.1 change) h.drawn) (λ j. (blocks j, part j)) h.room;
      events = h.events
          ∙ ap (λ xs. (xs ++ h.drawn) ++ OfDisc (did.Undo (undo_of mid.part t change (value_at h.block change.key))) ∷ []) grown.mine
          ∙ ap (λ (s : DiscPart). (own_events old.seat ++ h.drawn) ++ OfDisc (did.Undo (undo_of s t change (value_at h.block change.key))) ∷ []) part;
      left = h.left ∙ ap (λ (s : DiscPart). drop 1 (changes_left s.events t)) part;
    },
  )
  answer_met (Ok false) h = record { none = ap (λ (s : DiscPart). changes_left s.events t) (sym part) ∙ h.none; events = h.events ∙ grown.mine; blocks = h.blocks ∙ blocks }
  answer_met (Err e) h = refusal_met e h

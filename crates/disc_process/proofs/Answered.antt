-- What the parts of a step say of the whole.
use Rattle.std.proofs.Common.{inl, inr, ⊎_elim, length, length-append, ◌≡◌, ◌≢◌, ◌⊎◌, ℕ, ◌+◌, ◌≤◌, ◌&&◌, ◌==◌, Bool, true, List, [], ◌∷◌, ◌++◌, Option, Some, Result, Ok, Err, refl, ap, sym, ◌∙◌, subst, append-nil, arith}
use Rattle.std.specs.List.{list_any}
use mathlib.Core.List.{IsPrefix}
use Rattle.chronicle.specs.Seats.{HasGrown, IsUnion, own_events}
use Rattle.keyed_file.specs.Block.{KeyedBlock}
use Rattle.tmf_model.specs.declared.config.Config.{Config}
use Rattle.tmf_model.specs.declared.script.Step.{Step}
use Rattle.tmf_model.specs.declared.transid.Transid.{Transid}
use Rattle.audit_writer.specs.declared.lock.FlushRefused.TheVariants as stopped
use Rattle.node_machine.specs.declared.event.By.TheVariants.{Attempt}
use Rattle.node_machine.specs.declared.event.DiscEvent.{DiscEvent}
use Rattle.node_machine.specs.declared.event.DiscEvent.TheVariants as did
use Rattle.trail_files.specs.declared.audit_record.AuditKind.TheVariants.{Change as ChangeKind}
use Rattle.node_machine.specs.declared.event.Event.TheVariants.{OfDisc}
use Rattle.node_machine.specs.Made.{blocks_of, home_block}
use Rattle.node_machine.specs.Parts.{DiscPart}
use Rattle.trail_files.specs.declared.damage.Damage.{Damage}
use Rattle.trail_files.specs.declared.damage.DamageKind.TheVariants.{BadBlock}
use Rattle.txn_states.specs.Txn.{Txn, enlistings, with_disc}
use Rattle.disc_process.specs.declared.refused.WriteRefused.{WriteRefused}
use Rattle.disc_process.specs.declared.refused.WriteRefused.TheVariants as refused
use Rattle.disc_process.specs.declared.found.Found.{Found}
use Rattle.disc_process.specs.declared.found.Found.TheVariants as found
use Rattle.block_cache.specs.Blocks.{InCache, View, home_of}
use Rattle.disc_process.specs.Blocks.{BringsIn, IsHome, cached, with_change}
use Rattle.disc_process.specs.Damage.{WasRight}
use Rattle.disc_process.specs.Disc.{AreKept, DiscView, FindsIn, event_of}
use Rattle.disc_process.specs.Draw.{AreDraws, HasMadeRoom, HasSoughtRoom, IsDrawRefusal, SameWork}
use Rattle.disk_model.specs.declared.disk.Disk as disk
use Rattle.disc_process.specs.Write.{HasBadBlock, HasCarriedOut, HasDone, IsAnswered, HasBlockAfter, IsCrowded, IsDone, IsEnlisted, IsIdle, IsKeyAnswered, IsLockAnswered, IsRefused, IsUnread, MakesHome, MayBegin, SeeksHome, block_after}
use Rattle.disc_process.proofs.Bringing.{others_brought, was_brought}
use Rattle.disc_process.proofs.Drawn.{draws_then, refusal_more}
use Rattle.disc_process.proofs.Rooms.{room_before, room_behind, room_draws, sought_before, sought_made}

pub event_same : (s t : DiscPart) (x : Transid) (step : Step) (what : Found) → SameWork s t → event_of t x step what ≡ event_of s x step what
event_same s t x step (found.Change before after) w =
    ap (λ (p : ℕ × ℕ). did.Write (record { kind = ChangeKind; disc = p.0; file = step.file; tx = x; position = p.1; key = step.key; before = before; after = after }) step.op) (λ j. (w.number j, w.next j))
event_same s t x step (found.Value value) w = refl
event_same s t x step (found.Refused reason) w = refl
event_same s t x step found.Full w = refl
event_same s t x step found.Crowded w = refl

kept_before : (s t : DiscPart) (f n : ℕ) (kept : List (List ℕ)) → SameWork s t → AreKept t f n kept → AreKept s f n kept
kept_before s t f n kept w are = record {
  distinct = are.distinct;
  exact = λ k. are.exact k ∙ ap (λ (x : Bool × Config). x.0 && (home_block x.1 f k == n)) (λ j. (w.changing f k j, w.config j));
}

after_same : (s t : DiscPart) (step : Step) (what : Found) (block : KeyedBlock) → SameWork s t → block_after t step what block ≡ block_after s step what block
after_same s t step (found.Change before after) block w = ap (λ (p : ℕ). with_change step.key after p block) w.next
after_same s t step (found.Value value) block w = refl
after_same s t step (found.Refused reason) block w = refl
after_same s t step found.Full block w = refl
after_same s t step found.Crowded block w = refl

-- the block after a step that stood behind draws
after_draws : {D : Type 0} (blocks : View D) (s t : DiscPart) (step : Step) (what : Found) (block : KeyedBlock) → SameWork s t → HasBlockAfter blocks t step what block → HasBlockAfter blocks s step what block
after_draws blocks s t step what block w h =
    let b : InCache blocks.cache step.file (home_block s.config step.file step.key) (λ f. f.block ≡ block_after t step what block) =
    subst (λ (c : Config). InCache blocks.cache step.file (home_block c step.file step.key) (λ f. f.block ≡ block_after t step what block)) w.config h in
    (b.0, (b.1.0, b.1.1, b.1.2 ∙ after_same s t step what block w))

-- what is found in a block behind draws is found in it before them
finds_before : (s t : DiscPart) (step : Step) (n : ℕ) (what : Found) (block : KeyedBlock) → SameWork s t → FindsIn t step n what block → FindsIn s step n what block
finds_before s t step n what block w f = record {
  valid = f.valid;
  home = subst (λ (c : Config). IsHome (blocks_of c step.file) n block) w.config f.home;
  kept = f.kept;
  are = λ put. kept_before s t step.file n f.kept w (f.are put);
  is = f.is;
}

enlistings_same : (t u : Txn) (d e : ℕ) → u.tx ≡ t.tx → u.discs ≡ t.discs → e ≡ d → enlistings u e ≡ enlistings t d
enlistings_same t u d e tx discs number =
    ap (λ (x : Transid × (List ℕ × ℕ)). enlistings (record t { tx = x.0; discs = x.1.0 }) x.1.1) (λ j. (tx j, (discs j, number j)))

pub eq_le : {m n : ℕ} → m ≡ n → m ≤ n
eq_le e = omega (arith, e)

pub idle_then : (t u v : Txn) → IsIdle t u → IsIdle u v → IsIdle t v
idle_then t u v a b = record { events = b.events ∙ a.events; discs = b.discs ∙ a.discs }

pub enlisted_behind : (t u v : Txn) (d e : ℕ) → u.tx ≡ t.tx → IsIdle t u → e ≡ d → IsEnlisted e u v → IsEnlisted d t v
enlisted_behind t u v d e tx idle is h = record {
  events = h.events ∙ ap (λ xs. xs ++ enlistings u e) idle.events ∙ ap (λ xs. own_events t.seat ++ xs) (enlistings_same t u d e tx idle.discs is);
  discs = h.discs ∙ ap (λ (x : ℕ × List ℕ). with_disc x.0 x.1) (λ j. (is j, idle.discs j));
  has = subst (λ (n : ℕ). list_any (λ other. other == n) v.discs ≡ true) is h.has;
}

module _ {D : Type 0} (kind : disk.Ghosts D) (old mid new : DiscView D) (t_old t_mid t_new : Txn) (step : Step)
    (tx : t_mid.tx ≡ t_old.tx) (idle : IsIdle t_old t_mid) (begun : MayBegin old new t_old step) where
  module _ (drawn : HasMadeRoom old.blocks step.file (home_block old.part.config step.file step.key) old.seat mid.seat) (work : SameWork old.part mid.part) (brings : BringsIn old.blocks mid.blocks step.file (home_block old.part.config step.file step.key)) where
    are_draws : AreDraws drawn.drawn
    are_draws = room_draws old.blocks step.file (home_block old.part.config step.file step.key) drawn.drawn drawn.room

    carried : (what : Found) → HasDone mid new t_mid t_new step what → HasCarriedOut old new t_old t_new step what
    carried what h = record {
      begun = begun;
      block = h.block;
      was = was_brought old.blocks mid.blocks step.file (home_block old.part.config step.file step.key) brings (after_draws new.blocks old.part mid.part step what h.block work h.cached).0 h.block (subst (λ (c : Config). cached mid.blocks step.file (home_block c step.file step.key) ≡ Some h.block) work.config h.was);
      others = λ f n few other.
          others_brought old.blocks mid.blocks step.file (home_block old.part.config step.file step.key) brings new.blocks f n few other
          (h.others f n few (subst (λ (c : Config). (f ≢ step.file) ⊎ (n ≢ home_block c step.file step.key)) (sym work.config) other));
      finds = finds_before old.part mid.part step (home_block old.part.config step.file step.key) what h.block work
          (subst (λ (c : Config). FindsIn mid.part step (home_block c step.file step.key) what h.block) work.config h.finds);
      cached = after_draws new.blocks old.part mid.part step what h.block work h.cached;
      drawn = drawn.drawn;
      draws = are_draws;
      room = drawn.room;
      disc_events = h.disc_events
          ∙ ap (λ xs. xs ++ OfDisc (event_of mid.part t_mid.tx step what) ∷ []) drawn.events
          ∙ ap (λ (x : Transid). (own_events old.seat ++ drawn.drawn) ++ OfDisc (event_of mid.part x step what) ∷ []) tx
          ∙ ap (λ (e : DiscEvent). (own_events old.seat ++ drawn.drawn) ++ OfDisc e ∷ []) (event_same old.part mid.part t_old.tx step what work);
      worker = enlisted_behind t_old t_mid t_new old.part.number mid.part.number tx idle work.number h.worker;
    }

    crowded_before : (damage : Damage) → IsCrowded kind new.handed_in mid.part new.blocks step damage → IsCrowded kind new.handed_in old.part new.blocks step damage
    crowded_before damage h =
        let b : InCache new.blocks.cache step.file (home_block old.part.config step.file step.key) (λ f. FindsIn mid.part step (home_block old.part.config step.file step.key) found.Crowded f.block) =
        subst (λ (c : Config). InCache new.blocks.cache step.file (home_block c step.file step.key) (λ f. FindsIn mid.part step (home_block c step.file step.key) found.Crowded f.block)) work.config h.block in
        record {
          block = (b.0, (b.1.0, b.1.1, finds_before old.part mid.part step (home_block old.part.config step.file step.key) found.Crowded b.1.0.block work b.1.2));
          at = h.at ∙ ap (λ (c : Config). record { file = 1 + step.file; at = home_block c step.file step.key; kind = BadBlock }) work.config;
          baseless = sym work.base ∙ h.baseless;
          right = subst (λ (c : Config). WasRight kind new.handed_in (home_of new.blocks step.file (home_block c step.file step.key))) work.config h.right;
        }

    still_brings : new.blocks ≡ mid.blocks → BringsIn old.blocks new.blocks step.file (home_block old.part.config step.file step.key)
    still_brings same = subst (λ (v : View D). BringsIn old.blocks v step.file (home_block old.part.config step.file step.key)) (sym same) brings

    still_sought : own_events new.seat ≡ own_events mid.seat → SeeksHome old new t_old step
    still_sought same = sought_made (Attempt t_old.tx) old.blocks step.file (home_block old.part.config step.file step.key) old.seat mid.seat new.seat drawn same

    still_made : own_events new.seat ≡ own_events mid.seat → MakesHome old new step
    still_made same = room_behind old.blocks step.file (home_block old.part.config step.file step.key) old.seat mid.seat new.seat same drawn

    -- a step that was carried out behind the draws that made room
    pub done_answered : (r : Result (Option (List ℕ)) WriteRefused) → IsDone kind mid new t_mid t_new step r → IsKeyAnswered kind old new t_old t_new step r
    done_answered (Ok value) (what, done, gives) = (what, carried what done, gives)
    done_answered (Err refused.NoMemory) h =
        (begun, record { drawn = drawn.drawn; are = are_draws; events = h.disc_events ∙ drawn.events }, idle_then t_old t_mid t_new idle h.worker, still_brings h.blocks, still_sought h.disc_events)
    done_answered (Err (refused.Damaged device damage)) h = (
      begun,
      h.0 ∙ ap (λ n. 4 + n) work.number,
      (record { drawn = drawn.drawn; are = are_draws; events = h.1.disc_events ∙ drawn.events }, idle_then t_old t_mid t_new idle h.1.worker),
      inr (crowded_before damage h.2),
      still_brings h.1.blocks,
      still_made h.1.disc_events,
    )
    done_answered (Err refused.Full) h = carried found.Full h
    done_answered (Err (refused.Refused reason)) h = carried (found.Refused reason) h
    done_answered (Err (refused.Spent part)) h = absurd h
    done_answered (Err (refused.Busy holder)) h = absurd h
    done_answered (Err (refused.Failed device)) h = absurd h

  -- a block that was not read; the seat of the disc has met others before
  module _ (part : mid.part ≡ old.part) (blocks : mid.blocks ≡ old.blocks) (grown : HasGrown old.seat mid.seat) (later : kind.faults mid.blocks.device ≤ kind.faults new.blocks.device) where
    brings_met : (f n : ℕ) → f ≡ step.file → n ≡ home_block old.part.config step.file step.key → BringsIn mid.blocks new.blocks f n
        → BringsIn old.blocks new.blocks step.file (home_block old.part.config step.file step.key)
    brings_met f n file number h = subst (λ (x : View D × (ℕ × ℕ)). BringsIn x.0 new.blocks x.1.0 x.1.1) (λ j. (blocks j, (file j, number j))) h

    sought_met : (t : Transid) (f n : ℕ) → t ≡ t_old.tx → f ≡ step.file → n ≡ home_block old.part.config step.file step.key → HasSoughtRoom (Attempt t) mid.blocks f n mid.seat new.seat → SeeksHome old new t_old step
    sought_met t f n is file number h =
        sought_before (Attempt t_old.tx) old.blocks mid.blocks step.file (home_block old.part.config step.file step.key) old.seat mid.seat new.seat blocks grown.mine
        (subst (λ (x : Transid × (ℕ × ℕ)). HasSoughtRoom (Attempt x.0) mid.blocks x.1.0 x.1.1 mid.seat new.seat) (λ j. (is j, (file j, number j))) h)

    made_met : (f n : ℕ) → f ≡ step.file → n ≡ home_block old.part.config step.file step.key → HasMadeRoom mid.blocks f n mid.seat new.seat → MakesHome old new step
    made_met f n file number h =
        room_before old.blocks mid.blocks step.file (home_block old.part.config step.file step.key) old.seat mid.seat new.seat blocks grown.mine
        (subst (λ (x : ℕ × ℕ). HasMadeRoom mid.blocks x.0 x.1 mid.seat new.seat) (λ j. (file j, number j)) h)

    pub unread_refused : (t : Transid) (f n : ℕ) → t ≡ t_old.tx → f ≡ step.file → n ≡ home_block old.part.config step.file step.key → IsIdle t_mid t_new → BringsIn mid.blocks new.blocks f n
        → (e : WriteRefused) → IsUnread kind t f n mid new e → IsRefused kind old new t_old t_new step e
    unread_refused t f n is file number still brings refused.NoMemory h = (
      begun,
      draws_then old.seat mid.seat new.seat [] refl (grown.mine ∙ sym (append-nil (own_events old.seat))) h.0,
      idle_then t_old t_mid t_new idle still,
      brings_met f n file number brings,
      sought_met t f n is file number h.1,
    )
    unread_refused t f n is file number still brings (refused.Damaged device damage) h = (
      begun,
      h.0 ∙ ap (λ (s : DiscPart). 4 + s.number) part,
      (draws_then old.seat mid.seat new.seat [] refl (grown.mine ∙ sym (append-nil (own_events old.seat))) h.1, idle_then t_old t_mid t_new idle still),
      inl (subst (λ (x : ℕ × ℕ). HasBadBlock kind new x.0 x.1 damage) (λ j. (file j, number j)) h.2),
      brings_met f n file number brings,
      made_met f n file number h.3,
    )
    unread_refused t f n is file number still brings (refused.Failed device) h = (
      begun,
      refusal_more kind.faults (Attempt t_old.tx) old mid new (stopped.Failed device) [] (ap (λ (s : DiscPart). s.config) part) (ap (λ (s : DiscPart). s.number) part) grown.begins
          (grown.mine ∙ sym (append-nil (own_events old.seat))) refl (eq_le (sym (ap (λ (v : View D). kind.faults v.device) blocks))) later
          (subst (λ (x : Transid). IsDrawRefusal kind.faults (Attempt x) mid new (stopped.Failed device)) is h.0),
      idle_then t_old t_mid t_new idle still,
      brings_met f n file number brings,
      sought_met t f n is file number h.1,
    )
    unread_refused t f n is file number still brings (refused.Spent part_) h = absurd h
    unread_refused t f n is file number still brings (refused.Busy holder_) h = absurd h
    unread_refused t f n is file number still brings refused.Full h = absurd h
    unread_refused t f n is file number still brings (refused.Refused reason) h = absurd h

-- THE LAST MEETING

prefix_both : {A : Type 0} (xs ys : List A) → IsPrefix xs ys → IsPrefix ys xs → xs ≡ ys
prefix_both {A = A} xs ys (rest, e) b = of rest e
  where
    of : (zs : List A) → xs ++ zs ≡ ys → xs ≡ ys
    of [] e = sym (append-nil xs) ∙ e
    of (z ∷ zs) e =
        let one = length-append xs (z ∷ zs) in
        let two = length-append ys b.0 in
        let same = ap length e in
        let back = ap length b.1 in
        absurd (omega (arith, one, two, same, back))

-- a seat that has seen all that another one has is as before when they have met
pub met_same : {A : Type 0} (xs ys zs : List A) → IsUnion xs ys zs → IsPrefix xs ys → zs ≡ ys
met_same {A = A} xs ys zs u pre =
    ⊎_elim
    (λ (e : zs ≡ xs). e ∙ prefix_both xs ys pre (subst (λ (l : List A). IsPrefix ys l) e u.second))
    (λ (e : zs ≡ ys). e)
    u.no_more

module _ {D : Type 0} (kind : disk.Ghosts D) (old new : DiscView D) (t_old t_mid t_new : Txn) (step : Step) (idle : IsIdle t_mid t_new) where
  enlisted_met : IsEnlisted old.part.number t_old t_mid → IsEnlisted old.part.number t_old t_new
  enlisted_met h = record { events = idle.events ∙ h.events; discs = idle.discs ∙ h.discs; has = ap (list_any (λ other. other == old.part.number)) idle.discs ∙ h.has }

  carried_met : (what : Found) → HasCarriedOut old new t_old t_mid step what → HasCarriedOut old new t_old t_new step what
  carried_met what h = record {
    begun = h.begun;
    block = h.block;
    was = h.was;
    others = h.others;
    finds = h.finds;
    cached = h.cached;
    drawn = h.drawn;
    draws = h.draws;
    room = h.room;
    disc_events = h.disc_events;
    worker = enlisted_met h.worker;
  }

  -- what the answer says before a last meeting it says behind it
  key_met : (r : Result (Option (List ℕ)) WriteRefused) → IsKeyAnswered kind old new t_old t_mid step r → IsKeyAnswered kind old new t_old t_new step r
  key_met (Ok value) (what, h, gives) = (what, carried_met what h, gives)
  key_met (Err (refused.Spent part)) h = (record { disc_events = h.0.disc_events; blocks = h.0.blocks; worker = idle_then t_old t_mid t_new h.0.worker idle }, h.1)
  key_met (Err (refused.Busy other)) h = (h.0, h.1, record { disc_events = h.2.disc_events; blocks = h.2.blocks; worker = idle_then t_old t_mid t_new h.2.worker idle })
  key_met (Err refused.NoMemory) h = (h.0, h.1, idle_then t_old t_mid t_new h.2 idle, h.3, h.4)
  key_met (Err (refused.Failed device)) h = (h.0, h.1, idle_then t_old t_mid t_new h.2 idle, h.3, h.4)
  key_met (Err (refused.Damaged device damage)) h = (h.0, h.1, (h.2.0, idle_then t_old t_mid t_new h.2.1 idle), h.3, h.4, h.5)
  key_met (Err refused.Full) h = carried_met found.Full h
  key_met (Err (refused.Refused reason)) h = carried_met (found.Refused reason) h

  lock_met : (file : ℕ) (r : Result (Option (List ℕ)) WriteRefused) → IsLockAnswered old new t_old t_mid file r → IsLockAnswered old new t_old t_new file r
  lock_met file (Ok value) h = (h.0, h.1, record { disc_events = h.2.disc_events; worker = enlisted_met h.2.worker; blocks = h.2.blocks })
  lock_met file (Err (refused.Spent part)) h = (record { disc_events = h.0.disc_events; blocks = h.0.blocks; worker = idle_then t_old t_mid t_new h.0.worker idle }, h.1)
  lock_met file (Err (refused.Busy other)) h = (h.0, h.1, record { disc_events = h.2.disc_events; blocks = h.2.blocks; worker = idle_then t_old t_mid t_new h.2.worker idle })
  lock_met file (Err refused.NoMemory) h = (h.0, record { disc_events = h.1.disc_events; blocks = h.1.blocks; worker = idle_then t_old t_mid t_new h.1.worker idle })
  lock_met file (Err (refused.Failed device)) h = absurd h
  lock_met file (Err (refused.Damaged device damage)) h = absurd h
  lock_met file (Err refused.Full) h = absurd h
  lock_met file (Err (refused.Refused reason)) h = absurd h

  pub met_answered : (r : Result (Option (List ℕ)) WriteRefused) → IsAnswered kind old new t_old t_mid step r → IsAnswered kind old new t_old t_new step r
  met_answered r h = record { of_file = λ is. lock_met step.file r (h.of_file is); of_key = λ is. key_met r (h.of_key is) }

-- What the fields keep of their part, when an event is added to it.
use Rattle.std.proofs.Common.{◌≡◌, ◌≢◌, ℕ, ◌+◌, ◌<◌, ◌≤◌, ◌==◌, ◌&&◌, ◌⊎◌, inl, inr, ⊎_elim, Bool, true, false, List, [], ◌∷◌, ◌++◌, length, map, Option, Some, Result, Ok, Err, IfOk, cond, refl, ap, sym, ◌∙◌, subst, arith, bytes_eq, append_assoc, append-nil, length-append}
use Rattle.trail_files.specs.Recovered.{records_on, after_last_of}
use Rattle.std.specs.Option.{option_map, unwrap_or}
use Rattle.std.specs.Result.{is_err, OnErr, OnOk}
use mathlib.Core.List.{IsPrefix}
use Rattle.chronicle.specs.Histories.{events_of}
use Rattle.chronicle.specs.Seats.{Sight, part_state}
use Rattle.chronicle.proofs.Facts.{events_of-prefix}
use Rattle.std.proofs.lemmas.Bool.{cases_eq}
use Rattle.std.proofs.lemmas.Cmp.{nat_eq_equiv}
use Rattle.std.proofs.lemmas.List.{length_push}
use Rattle.std.proofs.lemmas.List.Elements.{filter-append}
use Rattle.std.specs.Prelude.{nat_le}
use Rattle.disk_model.specs.Held.{Held}
use Rattle.keyed_file.specs.Block.{KeyedBlock, value_at}
use Rattle.keyed_file.proofs.Maps.{lookup-with_record}
use Rattle.tmf_model.specs.RecordMap.{RecordMap, with_value}
use Rattle.tmf_model.specs.declared.config.Config.{Config}
use Rattle.tmf_model.specs.declared.script.Op.{Op}
use Rattle.tmf_model.specs.declared.script.Step.{Step}
use Rattle.tmf_model.specs.declared.transid.Transid.{Transid}
use Rattle.node_machine.specs.declared.event.By.{By}
use Rattle.node_machine.specs.declared.event.Cause.TheVariants as cause
use Rattle.disc_process.specs.declared.found.Found.{Found}
use Rattle.disc_process.specs.declared.found.Found.TheVariants as found
use Rattle.trail_files.specs.MonitorOrder.{is_same_transid}
use Rattle.trail_files.specs.declared.audit_record.AuditRecord.{AuditRecord}
use Rattle.node_machine.specs.declared.event.DiscEvent.{DiscEvent}
use Rattle.node_machine.specs.declared.event.DiscEvent.TheVariants as did
use Rattle.node_machine.specs.Made.{made, next_position, changes_left, last_write, has_closed, has_undone, has_released, file_holder, key_holder, is_changing, volume_of, home_block, position_before, drawn, drawing, up_to, values_after, values_at}
use Rattle.node_machine.specs.declared.event.Event.{Event}
use Rattle.node_machine.specs.declared.event.Event.TheVariants.{OfDisc}
use Rattle.node_machine.specs.Node.{node}
use Rattle.node_machine.specs.Parts.{DiscPart, PartState}
use Rattle.node_machine.specs.Parts.PartState.{Disc}
use Rattle.record_locks.specs.Names.{Entry as LockEntry}
use Rattle.node_machine.specs.Same.{is_same_key}
use Rattle.disc_process.specs.declared.live.LiveTable.{LiveTable}
use Rattle.block_cache.specs.Blocks.{View}
use Rattle.keyed_file.specs.Volume.{Contents}
use Rattle.block_cache.specs.Blocks.{Holds}
use Rattle.keyed_file.specs.Volume.{blocks_of as label_blocks}
use Rattle.disc_process.specs.Blocks.{content, with_change}
use Rattle.disc_process.specs.Disc.{HoldsLocks, HoldsLive, HoldsPending, HoldsValues, DrawsBehind, IsDiscSeat, IsHolding, Keeps, ToldBy, disc_in, drawn_to, hold_event, the_disc}
use Rattle.disc_process.specs.Live.{live_of}
use Rattle.disc_process.specs.LiveTx.{LiveTx, arrived, change_of, ended, noted}
use Rattle.disc_process.specs.Coming.{HoldsComing, all_left, is_coming_of}
use Rattle.disc_process.proofs.Coming.{coming_moved, coming_same}
use Rattle.block_cache.specs.Cache.{entry_at}
use Rattle.disc_process.specs.Blocks.{SameDraws}
use Rattle.disc_process.proofs.Draws.{below_moved, draws_moved, drawn_same}
use Rattle.disc_process.proofs.Telling.{told_by}
use Rattle.disc_process.proofs.Caches.{home_few, home_small}
use Rattle.disc_process.proofs.Locking.{same_parts}
use Rattle.audit_writer.specs.Writer.{AreFrom}
use Rattle.disc_process.specs.Disc.{AreHomes}
use Rattle.disc_process.specs.Blocks.{HasMarked, set_in}
use Rattle.block_cache.specs.declared.frame.Frame.{Frame}
use Rattle.keyed_file.specs.declared.label.Label.{Label}
use Rattle.std.specs.Prelude.{IsTrue}

-- what is kept of each transaction after a change
pub live_changed : (old new : LiveTable) (events : List DiscEvent) (r : AuditRecord) (op : Op) (u : Transid)
    → live_of new u ≡ cond (is_same_transid r.tx u) (noted r (live_of old u)) (live_of old u)
    → HoldsLive old events u → HoldsLive new (did.Write r op ∷ events) u
live_changed old new events r op u is was = of (is_same_transid r.tx u) refl
  where
    of : (b : Bool) → is_same_transid r.tx u ≡ b → HoldsLive new (did.Write r op ∷ events) u
    of true e =
        let now : live_of new u ≡ noted r (live_of old u) = is ∙ ap (λ b. cond b (noted r (live_of old u)) (live_of old u)) e in record {
          left = ap (λ b. map change_of (cond b (r ∷ changes_left events u) (changes_left events u))) e ∙ ap (λ xs. change_of r ∷ xs) was.left ∙ sym (ap (λ (l : LiveTx). l.left) now);
          last = ap (λ b. cond b r.position (last_write events u)) e ∙ sym (ap (λ (l : LiveTx). l.last) now);
          closed = was.closed ∙ sym (ap (λ (l : LiveTx). l.closed) now);
          undone = was.undone ∙ sym (ap (λ (l : LiveTx). l.undone) now);
        }
    of false e =
        let now : live_of new u ≡ live_of old u = is ∙ ap (λ b. cond b (noted r (live_of old u)) (live_of old u)) e in record {
          left = ap (λ b. map change_of (cond b (r ∷ changes_left events u) (changes_left events u))) e ∙ was.left ∙ sym (ap (λ (l : LiveTx). l.left) now);
          last = ap (λ b. cond b r.position (last_write events u)) e ∙ was.last ∙ sym (ap (λ (l : LiveTx). l.last) now);
          closed = was.closed ∙ sym (ap (λ (l : LiveTx). l.closed) now);
          undone = was.undone ∙ sym (ap (λ (l : LiveTx). l.undone) now);
        }

-- nothing else of it matters than what is said of each transaction
pub live_same : (old new : LiveTable) (events : List DiscEvent) (u : Transid) → live_of new u ≡ live_of old u → HoldsLive old events u → HoldsLive new events u
live_same old new events u is was = record {
  left = was.left ∙ sym (ap (λ (l : LiveTx). l.left) is);
  last = was.last ∙ sym (ap (λ (l : LiveTx). l.last) is);
  closed = was.closed ∙ sym (ap (λ (l : LiveTx). l.closed) is);
  undone = was.undone ∙ sym (ap (λ (l : LiveTx). l.undone) is);
}

-- the same is kept of a transaction, but for whether it has come
pub record SameLive (old new : LiveTx) : Type 0 where
  pub left : new.left ≡ old.left
  pub last : new.last ≡ old.last
  pub closed : new.closed ≡ old.closed
  pub undone : new.undone ≡ old.undone

pub alike : (old new : LiveTx) → new ≡ old → SameLive old new
alike old new is = record { left = ap (λ (l : LiveTx). l.left) is; last = ap (λ (l : LiveTx). l.last) is; closed = ap (λ (l : LiveTx). l.closed) is; undone = ap (λ (l : LiveTx). l.undone) is }

-- or for that, where it has come
pub alike_arrived : (b : Bool) (old new : LiveTx) → new ≡ cond b (arrived old) old → SameLive old new
alike_arrived true old new is = record { left = ap (λ (l : LiveTx). l.left) is; last = ap (λ (l : LiveTx). l.last) is; closed = ap (λ (l : LiveTx). l.closed) is; undone = ap (λ (l : LiveTx). l.undone) is }
alike_arrived false old new is = alike old new is

kept_left : (b : Bool) (l : LiveTx) → (cond b (ended l) l).left ≡ l.left
kept_left true l = refl
kept_left false l = refl

kept_last : (b : Bool) (l : LiveTx) → (cond b (ended l) l).last ≡ l.last
kept_last true l = refl
kept_last false l = refl

kept_undone : (b : Bool) (l : LiveTx) → (cond b (ended l) l).undone ≡ l.undone
kept_undone true l = refl
kept_undone false l = refl

now_closed : (b : Bool) (l : LiveTx) → (cond b (ended l) l).closed ≡ cond b true l.closed
now_closed true l = refl
now_closed false l = refl

pub live_closed : (old new : LiveTable) (events : List DiscEvent) (t u : Transid) → live_of new u ≡ cond (is_same_transid t u) (ended (live_of old u)) (live_of old u)
    → HoldsLive old events u → HoldsLive new (did.Close t ∷ events) u
live_closed old new events t u is was = of (is_same_transid t u) refl
  where
    of : (b : Bool) → is_same_transid t u ≡ b → HoldsLive new (did.Close t ∷ events) u
    of b e =
        let now : live_of new u ≡ cond b (ended (live_of old u)) (live_of old u) = is ∙ ap (λ x. cond x (ended (live_of old u)) (live_of old u)) e in record {
          left = was.left ∙ sym (ap (λ (l : LiveTx). l.left) now ∙ kept_left b (live_of old u));
          last = was.last ∙ sym (ap (λ (l : LiveTx). l.last) now ∙ kept_last b (live_of old u));
          closed = ap (λ x. cond x true (has_closed events u)) e ∙ ap (λ x. cond b true x) was.closed ∙ sym (ap (λ (l : LiveTx). l.closed) now ∙ now_closed b (live_of old u));
          undone = was.undone ∙ sym (ap (λ (l : LiveTx). l.undone) now ∙ kept_undone b (live_of old u));
        }

not_le : (a b : ℕ) → b < a → nat_le a b ≡ false
not_le a b lt = grind (arith)

none_of_one : (b : Bool) (r : AuditRecord) (xs : List AuditRecord) → b ≡ false → xs ++ cond b (r ∷ []) [] ≡ xs
none_of_one true r xs e = absurd (cc (e))
none_of_one false r xs e = append-nil xs

-- a record behind a position changes no value at it
values_at_more : (base : RecordMap) (events : List DiscEvent) (r : AuditRecord) (op : Op) (p : ℕ) → p < r.position → (f : ℕ) (k : List ℕ) → values_at base (did.Write r op ∷ events) p f k ≡ values_at base events p f k
values_at_more base events r op p below f k =
    ap (λ (xs : List AuditRecord). after_last_of (records_on f k xs) (base f k))
    (filter-append (λ x. nat_le x.position p) (made events) (r ∷ []) ∙ none_of_one (nat_le r.position p) r (up_to p (made events)) (not_le r.position p below))

drawn_below : (s : DiscPart) (r : AuditRecord) → DrawsBehind s → r.position ≡ next_position s → (f n : ℕ) → drawn_to s f n < r.position
drawn_below s r behind at f n = (let lt = behind.drawn_at f n in omega (arith, lt, at))

module _ {D : Type 0} (tells : D → Bool) (held : D → Held) (s : DiscPart) (old new : View D) (r : AuditRecord) (op : Op) (number position : ℕ)
    (home : home_block s.config r.file r.key ≡ number) (set : HasMarked old new r.file number (set_in r.key r.after position)) (homes : AreHomes s)
    (told : IsTrue (tells old.device) → IsTrue (tells new.device)) (holds : (landed next : Contents) → Holds held old landed next → Holds held new landed next)
    (c : Frame) (there : entry_at old.cache r.file number ≡ Some c) (behind : DrawsBehind s) (at_next : r.position ≡ next_position s) where
  -- the values after a change
  values_changed : (base : RecordMap) → HoldsValues tells held s old base → HoldsValues tells held (record s { events = did.Write r op ∷ s.events }) new base
  values_changed base h = record {
    landed = h.landed;
    next = h.next;
    told = told h.told;
    holds = holds h.landed h.next h.holds;
    same = λ f k here. at f k here (cases_eq f r.file) (cases_eq (home_block s.config f k) number);
    landed_is = λ f k here. h.landed_is f k here ∙ sym (values_at_more base s.events r op (drawn_to s f (home_block s.config f k)) (drawn_below s r behind at_next f (home_block s.config f k)) f k);
    next_is = λ f k p here under. h.next_is f k p here under ∙ sym (values_at_more base s.events r op p (let lt = behind.drawing_at f (home_block s.config f k) p under in omega (arith, lt, at_next)) f k);
  }
    where
      shown : Option Frame → KeyedBlock
      shown o = unwrap_or (option_map (λ (x : Frame). x.block) o) (h.landed r.file number)

      here_block : content new h.landed r.file number ≡ with_change r.key r.after position c.block
      here_block = ap shown (set.entry ∙ ap (option_map (set_in r.key r.after position)) there)

      was_block : content old h.landed r.file number ≡ c.block
      was_block = ap shown there

      same_file : (f : ℕ) → f ≡ r.file → (f == r.file) ≡ true
      same_file f e = subst (λ (g : ℕ). (g == r.file) ≡ true) (sym e) (nat_eq_equiv.refl r.file)

      other : (f : ℕ) (k : List ℕ) → volume_of s.config f ≡ s.number → (f ≢ r.file) ⊎ (home_block s.config f k ≢ number) → value_at (content new h.landed f (home_block s.config f k)) k ≡ with_value r.file r.key r.after (values_after base s.events) f k
      other f k here apart =
          ap (λ c. value_at (unwrap_or (option_map (λ x. x.block) c) (h.landed f (home_block s.config f k))) k) (set.others f (home_block s.config f k) (home_few s homes f k here) apart)
          ∙ h.same f k here
          ∙ sym (ap (λ b. cond b r.after (values_after base s.events f k)) (not_same f k apart ((f == r.file) && bytes_eq k r.key) refl))
        where
          not_same : (f : ℕ) (k : List ℕ) → (f ≢ r.file) ⊎ (home_block s.config f k ≢ number) → (b : Bool) → ((f == r.file) && bytes_eq k r.key) ≡ b → ((f == r.file) && bytes_eq k r.key) ≡ false
          not_same f k apart false e = e
          not_same f k apart true e =
              let both = same_parts f r.file k r.key e in
              absurd (⊎_elim (λ (n : f ≢ r.file). n both.0) (λ (n : home_block s.config f k ≢ number). n (ap (λ (p : ℕ × List ℕ). home_block s.config p.0 p.1) (λ i. (both.0 i, both.1 i)) ∙ home)) apart)

      at : (f : ℕ) (k : List ℕ) → volume_of s.config f ≡ s.number → (f ≡ r.file) ⊎ (f ≢ r.file) → (home_block s.config f k ≡ number) ⊎ (home_block s.config f k ≢ number) → value_at (content new h.landed f (home_block s.config f k)) k ≡ with_value r.file r.key r.after (values_after base s.events) f k
      at f k here (inr n) c = other f k here (inl n)
      at f k here (inl e) (inr n) = other f k here (inr n)
      at f k here (inl e) (inl m) =
          ap (λ (g : ℕ). value_at (content new h.landed g (home_block s.config f k)) k) e
          ∙ ap (λ (n : ℕ). value_at (content new h.landed r.file n) k) m
          ∙ ap (λ (b : KeyedBlock). value_at b k) here_block
          ∙ lookup-with_record k r.key r.after c.block.records
          ∙ ap (λ v. cond (bytes_eq k r.key) r.after v) (ap (λ (b : KeyedBlock). value_at b k) (sym was_block) ∙ ap (λ (n : ℕ). value_at (content old h.landed r.file n) k) (sym m) ∙ ap (λ (g : ℕ). value_at (content old h.landed g (home_block s.config f k)) k) (sym e) ∙ h.same f k here)
          ∙ sym (ap (λ b. cond (b && bytes_eq k r.key) r.after (values_after base s.events f k)) (same_file f e))

  pub told_changed : ToldBy s.base (HoldsValues tells held s old) → ToldBy s.base (HoldsValues tells held (record s { events = did.Write r op ∷ s.events }) new)
  told_changed h = told_by s.base (HoldsValues tells held s old) (HoldsValues tells held (record s { events = did.Write r op ∷ s.events }) new) values_changed h

pub pending_changed : (pending : List AuditRecord) (events : List DiscEvent) (r : AuditRecord) (op : Op) → HoldsPending pending events → HoldsPending (pending ++ r ∷ []) (did.Write r op ∷ events)
pending_changed pending events r op h = (h.0, ap (λ xs. xs ++ r ∷ []) h.1 ∙ append_assoc h.0 pending (r ∷ []))

pub draws_changed : (s : DiscPart) (r : AuditRecord) (op : Op) → DrawsBehind s → DrawsBehind (record s { events = did.Write r op ∷ s.events })
draws_changed s r op h =
    let more = length_push (made s.events) r in record {
      first = h.first;
      drawn_at = λ f n. (let lt = h.drawn_at f n in omega (arith, lt, more));
      drawing_at = λ f n p is. (let lt = h.drawing_at f n p is in omega (arith, lt, more));
    }

pub position_changed : (s : DiscPart) (r : AuditRecord) (op : Op) (next : ℕ) → next ≡ next_position s → next + 1 ≡ next_position (record s { events = did.Write r op ∷ s.events })
position_changed s r op next is = (let more = length_push (made s.events) r in omega (arith, is, more))

-- the seat of a disc after one more event of its own
pub disc_seat_next : (opening : List PartState) (config : Config) (volume first : ℕ) (v met w : Sight Event) (e : DiscEvent) → IsDiscSeat opening config volume first v
    → part_state node opening met ≡ part_state node opening v → met.part ≡ v.part → w.part ≡ met.part
    → part_state node opening w ≡ option_map (λ x. node.step x (OfDisc e)) (part_state node opening met)
    → (the_disc opening w ≡ record (the_disc opening v) { events = e ∷ (the_disc opening v).events }) × IsDiscSeat opening config volume first w
disc_seat_next opening config volume first v met w e h same part part_w step =
    let s = the_disc opening v in
    let next : DiscPart = record s { events = e ∷ s.events } in
    let now : part_state node opening w ≡ Some (Disc next) = step ∙ ap (option_map (λ x. node.step x (OfDisc e))) (same ∙ h.at) in
    let is : the_disc opening w ≡ next = ap disc_in now in (
      is,
      record {
        part = part_w ∙ part ∙ h.part;
        at = now ∙ sym (ap (λ (x : DiscPart). Some (Disc x)) is);
        config_is = ap (λ (x : DiscPart). x.config) is ∙ h.config_is;
        number = ap (λ (x : DiscPart). x.number) is ∙ h.number;
        first = ap (λ (x : DiscPart). x.first) is ∙ h.first;
      },
    )

-- the same seat, which has only met others
pub disc_seat_same : (opening : List PartState) (config : Config) (volume first : ℕ) (v w : Sight Event) → IsDiscSeat opening config volume first v
    → part_state node opening w ≡ part_state node opening v → w.part ≡ v.part → (the_disc opening w ≡ the_disc opening v) × IsDiscSeat opening config volume first w
disc_seat_same opening config volume first v w h same part =
    let is : the_disc opening w ≡ the_disc opening v = ap disc_in same in (
      is,
      record {
        part = part ∙ h.part;
        at = same ∙ h.at ∙ sym (ap (λ (x : DiscPart). Some (Disc x)) is);
        config_is = ap (λ (x : DiscPart). x.config) is ∙ h.config_is;
        number = ap (λ (x : DiscPart). x.number) is ∙ h.number;
        first = ap (λ (x : DiscPart). x.first) is ∙ h.first;
      },
    )

pub err_of : {A E : Type 0} (r : Result A E) (P : Type 0) → is_err r ≡ true → OnErr r P → P
err_of (Ok x) P e h = absurd (cc (e))
err_of (Err x) P e h = h

pub ok_both : {A E : Type 0} (r : Result A E) (P Q R : Type 0) → (P → Q → R) → OnOk r P → OnOk r Q → OnOk r R
ok_both (Ok x) P Q R more p q = more p q
ok_both (Err x) P Q R more p q = tt

pub ok_map : {A E : Type 0} (r : Result A E) (P Q : Type 0) → (P → Q) → OnOk r P → OnOk r Q
ok_map (Ok x) P Q more p = more p
ok_map (Err e) P Q more p = tt

pub err_map : {A E : Type 0} (r : Result A E) (P Q : Type 0) → (P → Q) → OnErr r P → OnErr r Q
err_map (Ok x) P Q more p = tt
err_map (Err e) P Q more p = more p

pub if_both : {A E : Type 0} (r : Result A E) (P Q : A → Type 0) → IfOk r P → IfOk r Q → IfOk r (λ x. P x × Q x)
if_both (Ok x) P Q p q = (p, q)
if_both (Err e) P Q p q = tt

pub ok_of : {A E : Type 0} (r : Result A E) (P : Type 0) → is_err r ≡ false → OnOk r P → P
ok_of (Ok x) P e h = h
ok_of (Err x) P e h = absurd (cc (e))

-- an event that changes no value, and nothing of what has been done
pub record Leaves (e : DiscEvent) : Type 0 where
  pub made_same : (events : List DiscEvent) → made (e ∷ events) ≡ made events
  pub left : (events : List DiscEvent) (t : Transid) → changes_left (e ∷ events) t ≡ changes_left events t
  pub last : (events : List DiscEvent) (t : Transid) → last_write (e ∷ events) t ≡ last_write events t
  pub closed : (events : List DiscEvent) (t : Transid) → has_closed (e ∷ events) t ≡ has_closed events t
  pub undone : (events : List DiscEvent) (t : Transid) → has_undone (e ∷ events) t ≡ has_undone events t
  pub released : (events : List DiscEvent) (t : Transid) → has_released (e ∷ events) t ≡ has_released events t
  pub all : (events : List DiscEvent) → all_left (e ∷ events) ≡ all_left events
  pub values : (base : RecordMap) (events : List DiscEvent) → values_after base (e ∷ events) ≡ values_after base events
  pub drawn_at : (before : ℕ) (events : List DiscEvent) (f n : ℕ) → drawn before (e ∷ events) f n ≡ drawn before events f n
  pub drawing_at : (events : List DiscEvent) (f n : ℕ) → drawing (e ∷ events) f n ≡ drawing events f n

-- and nothing of what is held
pub record LeavesLocks (e : DiscEvent) : Type 0 where
  pub keys : (events : List DiscEvent) (f : ℕ) (k : List ℕ) → key_holder (e ∷ events) f k ≡ key_holder events f k
  pub writing : (events : List DiscEvent) (f : ℕ) (k : List ℕ) → is_changing (e ∷ events) f k ≡ is_changing events f k
  pub files : (events : List DiscEvent) (f : ℕ) → file_holder (e ∷ events) f ≡ file_holder events f

pub leaves_hold : (t : Transid) (step : Step) (what : Found) → Leaves (hold_event t step what)
leaves_hold t step (found.Value value) = record { made_same = λ events. refl; left = λ events u. refl; last = λ events u. refl; closed = λ events u. refl; undone = λ events u. refl; released = λ events u. refl; all = λ events. refl; values = λ base events. refl; drawn_at = λ before events f n. refl; drawing_at = λ events f n. refl }
leaves_hold t step (found.Refused reason) = record { made_same = λ events. refl; left = λ events u. refl; last = λ events u. refl; closed = λ events u. refl; undone = λ events u. refl; released = λ events u. refl; all = λ events. refl; values = λ base events. refl; drawn_at = λ before events f n. refl; drawing_at = λ events f n. refl }
leaves_hold t step found.Full = record { made_same = λ events. refl; left = λ events u. refl; last = λ events u. refl; closed = λ events u. refl; undone = λ events u. refl; released = λ events u. refl; all = λ events. refl; values = λ base events. refl; drawn_at = λ before events f n. refl; drawing_at = λ events f n. refl }
leaves_hold t step found.Crowded = record { made_same = λ events. refl; left = λ events u. refl; last = λ events u. refl; closed = λ events u. refl; undone = λ events u. refl; released = λ events u. refl; all = λ events. refl; values = λ base events. refl; drawn_at = λ before events f n. refl; drawing_at = λ events f n. refl }
leaves_hold t step (found.Change before after) = record { made_same = λ events. refl; left = λ events u. refl; last = λ events u. refl; closed = λ events u. refl; undone = λ events u. refl; released = λ events u. refl; all = λ events. refl; values = λ base events. refl; drawn_at = λ before events f n. refl; drawing_at = λ events f n. refl }

pub leaves_busy : (t : Transid) (step : Step) (h : Transid) → Leaves (did.Turn t (cause.Busy step h))
leaves_busy t step h = record { made_same = λ events. refl; left = λ events u. refl; last = λ events u. refl; closed = λ events u. refl; undone = λ events u. refl; released = λ events u. refl; all = λ events. refl; values = λ base events. refl; drawn_at = λ before events f n. refl; drawing_at = λ events f n. refl }

pub leaves_busy_file : (t : Transid) (f : ℕ) (h : Transid) → Leaves (did.Turn t (cause.BusyFile f h))
leaves_busy_file t f h = record { made_same = λ events. refl; left = λ events u. refl; last = λ events u. refl; closed = λ events u. refl; undone = λ events u. refl; released = λ events u. refl; all = λ events. refl; values = λ base events. refl; drawn_at = λ before events f n. refl; drawing_at = λ events f n. refl }

pub leaves_file_lock : (t : Transid) (f : ℕ) → Leaves (did.Lock t f)
leaves_file_lock t f = record { made_same = λ events. refl; left = λ events u. refl; last = λ events u. refl; closed = λ events u. refl; undone = λ events u. refl; released = λ events u. refl; all = λ events. refl; values = λ base events. refl; drawn_at = λ before events f n. refl; drawing_at = λ events f n. refl }

pub leaves_failed : (by : By) → Leaves (did.Failed by)
leaves_failed by = record { made_same = λ events. refl; left = λ events u. refl; last = λ events u. refl; closed = λ events u. refl; undone = λ events u. refl; released = λ events u. refl; all = λ events. refl; values = λ base events. refl; drawn_at = λ before events f n. refl; drawing_at = λ events f n. refl }

pub leaves_locks_busy : (t : Transid) (step : Step) (h : Transid) → LeavesLocks (did.Turn t (cause.Busy step h))
leaves_locks_busy t step h = record { keys = λ events f k. refl; writing = λ events f k. refl; files = λ events f. refl }

pub leaves_locks_busy_file : (t : Transid) (f : ℕ) (h : Transid) → LeavesLocks (did.Turn t (cause.BusyFile f h))
leaves_locks_busy_file t f h = record { keys = λ events f k. refl; writing = λ events f k. refl; files = λ events f. refl }

pub leaves_locks_failed : (by : By) → LeavesLocks (did.Failed by)
leaves_locks_failed by = record { keys = λ events f k. refl; writing = λ events f k. refl; files = λ events f. refl }

-- what an event that holds a key makes of the holders
pub hold_keys : (t : Transid) (step : Step) (what : Found) → IsHolding what → (events : List DiscEvent) (g : ℕ) (q : List ℕ) → key_holder (hold_event t step what ∷ events) g q ≡ cond (is_same_key g q step.file step.key) (Some t) (key_holder events g q)
hold_keys t step (found.Value value) is events g q = refl
hold_keys t step (found.Refused reason) is events g q = refl
hold_keys t step found.Full is events g q = refl
hold_keys t step found.Crowded is events g q = absurd is
hold_keys t step (found.Change before after) is events g q = absurd is

-- the transaction comes to the disc by it
pub hold_comes : (t : Transid) (step : Step) (what : Found) (u : Transid) → IsHolding what → is_coming_of (hold_event t step what) u ≡ is_same_transid t u
hold_comes t step (found.Value value) u is = refl
hold_comes t step (found.Refused reason) u is = refl
hold_comes t step found.Full u is = refl
hold_comes t step found.Crowded u is = absurd is
hold_comes t step (found.Change before after) u is = absurd is

pub hold_writing : (t : Transid) (step : Step) (what : Found) (events : List DiscEvent) (g : ℕ) (q : List ℕ) → is_changing (hold_event t step what ∷ events) g q ≡ is_changing events g q
hold_writing t step (found.Value value) events g q = refl
hold_writing t step (found.Refused reason) events g q = refl
hold_writing t step found.Full events g q = refl
hold_writing t step found.Crowded events g q = refl
hold_writing t step (found.Change before after) events g q = refl

pub hold_files : (t : Transid) (step : Step) (what : Found) (events : List DiscEvent) (g : ℕ) → file_holder (hold_event t step what ∷ events) g ≡ file_holder events g
hold_files t step (found.Value value) events g = refl
hold_files t step (found.Refused reason) events g = refl
hold_files t step found.Full events g = refl
hold_files t step found.Crowded events g = refl
hold_files t step (found.Change before after) events g = refl

pub locks_left : (locks : List LockEntry) (events : List DiscEvent) (e : DiscEvent) → LeavesLocks e → HoldsLocks locks events → HoldsLocks locks (e ∷ events)
locks_left locks events e leaves was = record {
  keys = λ f k. leaves.keys events f k ∙ was.keys f k;
  writing = λ f k. leaves.writing events f k ∙ was.writing f k;
  files = λ f. leaves.files events f ∙ was.files f;
}

module _ {D : Type 0} (tells : D → Bool) (held : D → Held) where
  values_left : (s : DiscPart) (e : DiscEvent) (blocks : View D) → Leaves e → (base : RecordMap) → HoldsValues tells held s blocks base → HoldsValues tells held (record s { events = e ∷ s.events }) blocks base
  values_left s e blocks leaves base h = record {
    landed = h.landed;
    next = h.next;
    told = h.told;
    holds = h.holds;
    same = λ f k here. h.same f k here ∙ ap (λ (m : RecordMap). m f k) (sym (leaves.values base s.events));
    landed_is = λ f k here.
        h.landed_is f k here
        ∙ ap (λ (p : ℕ). values_at base s.events p f k) (sym (leaves.drawn_at (position_before s) s.events f (home_block s.config f k)))
        ∙ sym (at_same (drawn (position_before s) (e ∷ s.events) f (home_block s.config f k)) f k);
    next_is = λ f k p here under. h.next_is f k p here (sym (leaves.drawing_at s.events f (home_block s.config f k)) ∙ under) ∙ sym (at_same p f k);
  }
    where
      at_same : (p f : ℕ) (k : List ℕ) → values_at base (e ∷ s.events) p f k ≡ values_at base s.events p f k
      at_same p f k = ap (λ (xs : List AuditRecord). after_last_of (records_on f k (up_to p xs)) (base f k)) (leaves.made_same s.events)

  draws_left : (s : DiscPart) (e : DiscEvent) → Leaves e → DrawsBehind s → DrawsBehind (record s { events = e ∷ s.events })
  draws_left s e leaves h =
      let same : next_position (record s { events = e ∷ s.events }) ≡ next_position s = ap (λ (xs : List AuditRecord). s.first + length xs) (leaves.made_same s.events) in record {
        first = h.first;
        drawn_at = λ f n. (let lt = h.drawn_at f n in let is = leaves.drawn_at (position_before s) s.events f n in omega (arith, lt, same, is));
        drawing_at = λ f n p is. (let lt = h.drawing_at f n p (sym (leaves.drawing_at s.events f n) ∙ is) in omega (arith, lt, same));
      }

  -- what the fields keep after such an event
  pub keeps_left : (s : DiscPart) (e : DiscEvent) (blocks : View D) (locks new_locks : List LockEntry) (live new_live : LiveTable) (pending new_pending : List AuditRecord) (next : ℕ)
      → Leaves e → HoldsLocks new_locks (e ∷ s.events) → ((u : Transid) → SameLive (live_of live u) (live_of new_live u)) → HoldsComing new_live (record s { events = e ∷ s.events }) → new_pending ≡ pending
      → Keeps tells held blocks locks live pending next s → Keeps tells held blocks new_locks new_live new_pending next (record s { events = e ∷ s.events })
  keeps_left s e blocks locks new_locks live new_live pending new_pending next leaves held_ same_live comes same_pending kept = record {
    position = kept.position ∙ ap (λ (xs : List AuditRecord). s.first + length xs) (sym (leaves.made_same s.events));
    few = subst (λ (xs : List AuditRecord). next + length xs ≤ 4611686018427387904) (sym (leaves.all s.events)) kept.few;
    coming = comes;
    holds_locks = held_;
    holds_live = λ u unreleased. live_left u (kept.holds_live u (sym (leaves.released s.events u) ∙ unreleased));
    holds_pending = (kept.holds_pending.0, leaves.made_same s.events ∙ kept.holds_pending.1 ∙ ap (λ xs. kept.holds_pending.0 ++ xs) (sym same_pending));
    values = told_by s.base (HoldsValues tells held s blocks) (HoldsValues tells held (record s { events = e ∷ s.events }) blocks) (values_left s e blocks leaves) kept.values;
    draws = draws_left s e leaves kept.draws;
    are_drawn = λ f n few. draws_moved s (e ∷ s.events) (leaves.made_same s.events) f n _ _ _ (leaves.drawn_at (position_before s) s.events f n) (leaves.drawing_at s.events f n) (kept.are_drawn f n few);
    below = below_moved s (e ∷ s.events) (leaves.made_same s.events) kept.below;
    audit = subst (AreFrom s.first s.number) (sym (leaves.made_same s.events)) kept.audit;
    homes = kept.homes;
    files = kept.files;
    only = kept.only;
  }
    where
      live_left : (u : Transid) → HoldsLive live s.events u → HoldsLive new_live (e ∷ s.events) u
      live_left u was = record {
        left = ap (map change_of) (leaves.left s.events u) ∙ was.left ∙ sym (same_live u).left;
        last = leaves.last s.events u ∙ was.last ∙ sym (same_live u).last;
        closed = leaves.closed s.events u ∙ was.closed ∙ sym (same_live u).closed;
        undone = leaves.undone s.events u ∙ was.undone ∙ sym (same_live u).undone;
      }

  -- what they keep where nothing of it has changed but the blocks in the cache
  pub keeps_same : (s : DiscPart) (blocks new_blocks : View D) (locks : List LockEntry) (live : LiveTable) (pending : List AuditRecord) (next : ℕ)
      → (IsTrue (tells blocks.device) → IsTrue (tells new_blocks.device))
      → ((landed after : Contents) → IsTrue (tells blocks.device) → Holds held blocks landed after
      → Holds held new_blocks landed after × ((g m : ℕ) → m < 256 → m < label_blocks blocks.label.files g → content new_blocks landed g m ≡ content blocks landed g m))
      → new_blocks.label ≡ blocks.label → ((f n : ℕ) → n < 256 → SameDraws (entry_at blocks.cache f n) (entry_at new_blocks.cache f n))
      → Keeps tells held blocks locks live pending next s → Keeps tells held new_blocks locks live pending next s
  keeps_same s blocks new_blocks locks live pending next told same label draws_are kept = record {
    position = kept.position;
    few = kept.few;
    holds_locks = kept.holds_locks;
    holds_live = kept.holds_live;
    coming = kept.coming;
    holds_pending = kept.holds_pending;
    values = told_by s.base (HoldsValues tells held s blocks) (HoldsValues tells held s new_blocks) (λ base h.
        (let k = same h.landed h.next h.told h.holds in
        record {
          landed = h.landed;
          next = h.next;
          told = told h.told;
          holds = k.0;
          same = λ f q here. ap (λ (b : KeyedBlock). value_at b q) (k.1 f (home_block s.config f q) (home_few s kept.homes f q here) (subst (λ (n : ℕ). home_block s.config f q < n) (sym (kept.files f here)) (home_small s kept.homes f q here))) ∙ h.same f q here;
          landed_is = h.landed_is;
          next_is = h.next_is;
        })) kept.values;
    draws = kept.draws;
    are_drawn = drawn_same s blocks new_blocks kept.are_drawn draws_are;
    below = kept.below;
    audit = kept.audit;
    homes = kept.homes;
    files = λ f here. ap (λ (l : Label). label_blocks l.files f) label ∙ kept.files f here;
    only = λ f some. kept.only f (subst (λ (l : Label). 0 < label_blocks l.files f) label some);
  }

  -- after a flush nothing is pending
  pub keeps_none : (s : DiscPart) (blocks : View D) (locks : List LockEntry) (live : LiveTable) (pending new_pending : List AuditRecord) (next : ℕ) → new_pending ≡ []
      → Keeps tells held blocks locks live pending next s → Keeps tells held blocks locks live new_pending next s
  keeps_none s blocks locks live pending new_pending next none kept = record {
    position = kept.position;
    few = kept.few;
    holds_locks = kept.holds_locks;
    holds_live = kept.holds_live;
    coming = kept.coming;
    holds_pending = (made s.events, sym (append-nil (made s.events)) ∙ ap (λ xs. made s.events ++ xs) (sym none));
    values = kept.values;
    draws = kept.draws;
    are_drawn = kept.are_drawn;
    below = kept.below;
    audit = kept.audit;
    homes = kept.homes;
    files = kept.files;
    only = kept.only;
  }

  -- other locks that say the same
  pub keeps_locks : (s : DiscPart) (blocks : View D) (locks new_locks : List LockEntry) (live : LiveTable) (pending : List AuditRecord) (next : ℕ) → HoldsLocks new_locks s.events
      → Keeps tells held blocks locks live pending next s → Keeps tells held blocks new_locks live pending next s
  keeps_locks s blocks locks new_locks live pending next says kept = record {
    position = kept.position;
    few = kept.few;
    holds_locks = says;
    holds_live = kept.holds_live;
    coming = kept.coming;
    holds_pending = kept.holds_pending;
    values = kept.values;
    draws = kept.draws;
    are_drawn = kept.are_drawn;
    below = kept.below;
    audit = kept.audit;
    homes = kept.homes;
    files = kept.files;
    only = kept.only;
  }

  -- a roomier table of live transactions
  pub keeps_roomy : (s : DiscPart) (blocks : View D) (locks : List LockEntry) (live new_live : LiveTable) (pending new_pending : List AuditRecord) (next : ℕ)
      → ((u : Transid) → live_of new_live u ≡ live_of live u) → new_pending ≡ pending
      → Keeps tells held blocks locks live pending next s → Keeps tells held blocks locks new_live new_pending next s
  keeps_roomy s blocks locks live new_live pending new_pending next same_live same_pending kept = record {
    position = kept.position;
    few = kept.few;
    holds_locks = kept.holds_locks;
    holds_live = λ u unreleased. live_same live new_live s.events u (same_live u) (kept.holds_live u unreleased);
    coming = coming_same live new_live s same_live kept.coming;
    holds_pending = (kept.holds_pending.0, kept.holds_pending.1 ∙ ap (λ xs. kept.holds_pending.0 ++ xs) (sym same_pending));
    values = kept.values;
    draws = kept.draws;
    are_drawn = kept.are_drawn;
    below = kept.below;
    audit = kept.audit;
    homes = kept.homes;
    files = kept.files;
    only = kept.only;
  }

  -- what they keep after a transaction has closed
  pub keeps_closed : (s : DiscPart) (t : Transid) (blocks : View D) (locks : List LockEntry) (live new_live : LiveTable) (pending : List AuditRecord) (next : ℕ)
      → ((u : Transid) → live_of new_live u ≡ cond (is_same_transid t u) (ended (live_of live u)) (live_of live u)) → has_released s.events t ≡ false
      → Keeps tells held blocks locks live pending next s → Keeps tells held blocks locks new_live pending next (record s { events = did.Close t ∷ s.events })
  keeps_closed s t blocks locks live new_live pending next is free kept = record {
    position = kept.position;
    few = kept.few;
    holds_locks = record { keys = kept.holds_locks.keys; writing = kept.holds_locks.writing; files = kept.holds_locks.files };
    holds_live = λ u unreleased. live_closed live new_live s.events t u (is u) (kept.holds_live u unreleased);
    coming = coming_moved live new_live s (did.Close t) t ended is (λ l u same. ap (λ b. cond b true l.come) (sym same)) (λ u other. other) (λ u. refl) free kept.coming.here kept.coming;
    holds_pending = kept.holds_pending;
    values = told_by s.base (HoldsValues tells held s blocks) (HoldsValues tells held (record s { events = did.Close t ∷ s.events }) blocks) (λ base h.
        record { landed = h.landed; next = h.next; told = h.told; holds = h.holds; same = h.same; landed_is = h.landed_is; next_is = h.next_is }) kept.values;
    draws = record { first = kept.draws.first; drawn_at = kept.draws.drawn_at; drawing_at = kept.draws.drawing_at };
    are_drawn = λ f n few. draws_moved s (did.Close t ∷ s.events) refl f n _ _ _ refl refl (kept.are_drawn f n few);
    below = below_moved s (did.Close t ∷ s.events) refl kept.below;
    audit = kept.audit;
    homes = kept.homes;
    files = kept.files;
    only = kept.only;
  }

prefix_length : {A : Type 0} (xs ys : List A) → IsPrefix xs ys → length xs ≤ length ys
prefix_length xs ys pre = (let whole = length-append xs pre.0 in let same = ap length pre.1 in omega (arith, whole, same))

-- what a seat has seen of a part, it sees when it has seen more
pub seen_more : {E : Type 0} (p n : ℕ) (xs ys : List (ℕ × E)) → n ≤ length (events_of p xs) → IsPrefix xs ys → n ≤ length (events_of p ys)
seen_more p n xs ys few pre = (let le = prefix_length (events_of p xs) (events_of p ys) (events_of-prefix p xs ys pre) in omega (arith, few, le))

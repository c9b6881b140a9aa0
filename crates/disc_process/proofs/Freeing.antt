-- What the fields keep of their part, when a transaction is released.
use Rattle.std.proofs.Common.{◌≡◌, ℕ, ◌++◌, inl, Bool, true, false, List, [], ◌∷◌, Option, Some, None, cond, refl, ap, sym, ◌∙◌, subst, append-nil, arith, ◌&&◌}
use Rattle.std.specs.Prelude.{nat_le, nat_lt}
use Rattle.std.specs.Option.{IsSome, option_map}
use Rattle.chronicle.specs.Seats.{Sight, HasGrown, Knows, own_events}
use Rattle.disk_model.specs.Held.{Held}
use Rattle.tmf_model.specs.declared.transid.Transid.{Transid}
use Rattle.trail_files.specs.MonitorOrder.{is_same_transid}
use Rattle.trail_files.specs.declared.audit_record.AuditRecord.{AuditRecord}
use Rattle.trail_files.specs.declared.monitor_record.MonitorRecord.TheVariants.{Commit}
use Rattle.node_machine.specs.declared.event.DiscEvent.{DiscEvent}
use Rattle.node_machine.specs.declared.event.DiscEvent.TheVariants as did
use Rattle.node_machine.specs.declared.event.Event.{Event}
use Rattle.node_machine.specs.declared.event.Event.TheVariants.{OfDisc}
use Rattle.node_machine.specs.Disc.{DiscAsks}
use Rattle.node_machine.specs.Made.{freed as nobody, has_released, kept_from}
use Rattle.node_machine.specs.Node.{node}
use Rattle.node_machine.specs.Parts.{DiscPart, Fact, PartState}
use Rattle.node_machine.specs.Parts.Fact.{Recorded}
use Rattle.node_machine.specs.SameLaws.{same_is, same_self}
use Rattle.record_locks.specs.Names.{Entry as LockEntry}
use Rattle.record_locks.specs.Locks.{file_name, freed, is_writing, key_name, lock_at}
use Rattle.record_locks.specs.declared.name.LockName.{LockName}
use Rattle.record_locks.specs.declared.table.Lock.{Lock}
use Rattle.txn_states.specs.Txn.{HasEnded, Txn}
use Rattle.disc_process.specs.declared.live.LiveTable.{LiveTable}
use Rattle.block_cache.specs.Blocks.{View}
use Rattle.disc_process.specs.Coming.{HoldsComing, is_live}
use Rattle.disc_process.specs.Disc.{DiscView, HoldsLocks, HoldsValues, Keeps}
use Rattle.disc_process.specs.Live.{live_of}
use Rattle.disc_process.specs.declared.live.Span.{Span}
use Rattle.disc_process.specs.LiveTx.{LiveTx, lifted_tx, nothing_done}
use Rattle.disc_process.specs.Span.{no_span}
use Rattle.disc_process.specs.Release.{HasFreed, freed_part, releasings, with_event}
use Rattle.disc_process.proofs.Draws.{below_moved, draws_moved}
use Rattle.disc_process.proofs.Drawn.{prefix_then}
use Rattle.disc_process.proofs.Telling.{told_by}

-- the test says the same of two identifiers in either order
pub same_turned : (a b : Transid) → is_same_transid a b ≡ is_same_transid b a
same_turned a b = of (is_same_transid a b) (is_same_transid b a) refl refl
  where
    of : (x y : Bool) → is_same_transid a b ≡ x → is_same_transid b a ≡ y → x ≡ y
    of true true p q = refl
    of false false p q = refl
    of true false p q = (let yes : is_same_transid b a ≡ true = subst (λ (c : Transid). is_same_transid c a ≡ true) (same_is a b p) (same_self a) in absurd (cc (yes, q)))
    of false true p q = (let yes : is_same_transid a b ≡ true = subst (λ (c : Transid). is_same_transid c b ≡ true) (same_is b a q) (same_self b) in absurd (cc (yes, p)))

-- the end of a committed transaction is what its release asks
pub commit_asks : (opening : List PartState) (t : Txn) (place : Option ℕ) (v : Sight Event) (s : DiscPart) → ((f : Fact) → Knows node opening t.seat f → Knows node opening v f)
    → IsSome place → HasEnded opening t place → DiscAsks (Knows node opening v) s (did.Release t.tx)
commit_asks opening t (Some place) v s told some ended = inl (place, told (Recorded (Commit t.tx) place) ended)
commit_asks opening t None v s told some ended = absurd (cc (some))

abbrev holder_of : Option Lock → Option Transid
holder_of lock = option_map (λ (l : Lock). l.holder) lock

chosen_key : (a b : Bool) (lock : Lock) → a ≡ b → cond a None (Some lock.holder) ≡ holder_of (cond b None (Some lock))
chosen_key true true lock e = refl
chosen_key false false lock e = refl
chosen_key true false lock e = absurd (cc (e))
chosen_key false true lock e = absurd (cc (e))

freed_key : (t : Transid) (o : Option Lock) → nobody t (holder_of o) ≡ holder_of (freed t o)
freed_key t None = refl
freed_key t (Some lock) = chosen_key (is_same_transid t lock.holder) (is_same_transid lock.holder t) lock (same_turned t lock.holder)

chosen_writing : (a b : Bool) (lock : Lock) → a ≡ b → cond a false lock.writing ≡ is_writing (cond b None (Some lock))
chosen_writing true true lock e = refl
chosen_writing false false lock e = refl
chosen_writing true false lock e = absurd (cc (e))
chosen_writing false true lock e = absurd (cc (e))

freed_writing : (t : Transid) (o : Option Lock) → kept_from t (holder_of o) (is_writing o) ≡ is_writing (freed t o)
freed_writing t None = refl
freed_writing t (Some lock) = chosen_writing (is_same_transid t lock.holder) (is_same_transid lock.holder t) lock (same_turned t lock.holder)

-- the locks after a release
locks_released : (old new : List LockEntry) (events : List DiscEvent) (t : Transid) → ((q : LockName) → lock_at new q ≡ freed t (lock_at old q)) → HoldsLocks old events → HoldsLocks new (did.Release t ∷ events)
locks_released old new events t frees was = record {
  keys = λ f k. ap (nobody t) (was.keys f k) ∙ freed_key t (lock_at old (key_name f k)) ∙ sym (ap holder_of (frees (key_name f k)));
  writing = λ f k.
      ap (λ (x : Option Transid × Bool). kept_from t x.0 x.1) (λ j. (was.keys f k j, was.writing f k j))
      ∙ freed_writing t (lock_at old (key_name f k))
      ∙ sym (ap is_writing (frees (key_name f k)));
  files = λ f. ap (nobody t) (was.files f) ∙ freed_key t (lock_at old (file_name f)) ∙ sym (ap holder_of (frees (file_name f)));
}

apart : (a b : Bool) → cond a true b ≡ false → (a ≡ false) × (b ≡ false)
apart true b e = absurd (cc (e))
apart false b e = (refl, e)

-- where no record stands nothing is lifted
pub none_lifted : (gone : Span) → lifted_tx gone nothing_done ≡ nothing_done
none_lifted gone = ap (λ b. record nothing_done { span = cond (b && nat_le 0 gone.newest) (record no_span { bound = gone.bound }) no_span }) (not_below gone.first)
  where
    not_below : (n : ℕ) → nat_lt n 0 ≡ false
    not_below n = grind (arith)

-- the table after a release
coming_released : (live new : LiveTable) (s : DiscPart) (t : Transid) (gone : Span) → ((u : Transid) → live_of new u ≡ cond (is_same_transid t u) nothing_done (lifted_tx gone (live_of live u))) → HoldsComing live s → HoldsComing new (with_event s (did.Release t))
coming_released live new s t gone is was = record {
  come = λ u unreleased.
      (let a = apart (is_same_transid t u) (has_released s.events u) unreleased in
      ap (λ (l : LiveTx). l.come) (is u ∙ ap (λ b. cond b nothing_done (lifted_tx gone (live_of live u))) a.0) ∙ was.come u a.1);
  gone = λ u. gone_at u (is_same_transid t u) refl;
  here = was.here;
}
  where
    gone_at : (u : Transid) (b : Bool) → is_same_transid t u ≡ b → has_released (did.Release t ∷ s.events) u ≡ true → live_of new u ≡ nothing_done
    gone_at u true e released = is u ∙ ap (λ b. cond b nothing_done (lifted_tx gone (live_of live u))) e
    gone_at u false e released =
        is u ∙ ap (λ b. cond b nothing_done (lifted_tx gone (live_of live u))) e ∙ ap (lifted_tx gone) (was.gone u (sym (ap (λ b. cond b true (has_released s.events u)) e) ∙ released)) ∙ none_lifted gone

module _ {D : Type 0} (tells : D → Bool) (held : D → Held) where
  -- what the fields keep after a transaction was released
  pub keeps_released : (s : DiscPart) (t : Transid) (blocks : View D) (locks new_locks : List LockEntry) (live new_live : LiveTable) (pending : List AuditRecord) (next : ℕ) (gone : Span)
      → ((q : LockName) → lock_at new_locks q ≡ freed t (lock_at locks q))
      → ((u : Transid) → live_of new_live u ≡ cond (is_same_transid t u) nothing_done (lifted_tx gone (live_of live u)))
      → Keeps tells held blocks locks live pending next s → Keeps tells held blocks new_locks new_live pending next (with_event s (did.Release t))
  keeps_released s t blocks locks new_locks live new_live pending next gone frees is kept = record {
    position = kept.position;
    few = kept.few;
    holds_locks = locks_released locks new_locks s.events t frees kept.holds_locks;
    holds_live = λ u unreleased.
        (let a = apart (is_same_transid t u) (has_released s.events u) unreleased in
        let now : live_of new_live u ≡ lifted_tx gone (live_of live u) = is u ∙ ap (λ b. cond b nothing_done (lifted_tx gone (live_of live u))) a.0 in
        let was = kept.holds_live u a.1 in
        record {
          left = was.left ∙ sym (ap (λ (l : LiveTx). l.left) now);
          last = was.last ∙ sym (ap (λ (l : LiveTx). l.last) now);
          closed = was.closed ∙ sym (ap (λ (l : LiveTx). l.closed) now);
          undone = was.undone ∙ sym (ap (λ (l : LiveTx). l.undone) now);
        });
    coming = coming_released live new_live s t gone is kept.coming;
    holds_pending = kept.holds_pending;
    values = told_by s.base (HoldsValues tells held s blocks) (HoldsValues tells held (with_event s (did.Release t)) blocks) (λ base h.
        record { landed = h.landed; next = h.next; told = h.told; holds = h.holds; same = h.same; landed_is = h.landed_is; next_is = h.next_is }) kept.values;
    draws = record { first = kept.draws.first; drawn_at = kept.draws.drawn_at; drawing_at = kept.draws.drawing_at };
    are_drawn = λ f n few. draws_moved s (did.Release t ∷ s.events) refl f n _ _ _ refl refl (kept.are_drawn f n few);
    below = below_moved s (did.Release t ∷ s.events) refl kept.below;
    audit = kept.audit;
    homes = kept.homes;
    files = kept.files;
    only = kept.only;
  }

-- of one that is not live nothing happens
pub none_freed : (s : DiscPart) (t : Transid) → is_live s.events t ≡ false → s ≡ freed_part s t
none_freed s t dead = ap (λ b. cond b (with_event s (did.Release t)) s) (sym dead)

pub one_freed : (s : DiscPart) (t : Transid) → is_live s.events t ≡ true → with_event s (did.Release t) ≡ freed_part s t
one_freed s t live = ap (λ b. cond b (with_event s (did.Release t)) s) (sym live)

pub none_told : (xs : List Event) (events : List DiscEvent) (t : Transid) → is_live events t ≡ false → xs ≡ xs ++ releasings events t
none_told xs events t dead = sym (append-nil xs) ∙ ap (λ b. xs ++ cond b (OfDisc (did.Release t) ∷ []) []) (sym dead)

pub one_told : (xs : List Event) (events : List DiscEvent) (t : Transid) → is_live events t ≡ true → xs ++ OfDisc (did.Release t) ∷ [] ≡ xs ++ releasings events t
one_told xs events t live = ap (λ b. xs ++ cond b (OfDisc (did.Release t) ∷ []) []) (sym live)

-- what is said of a release behind a meeting of the disc's seat
pub freed_met : {D : Type 0} (old mid new : DiscView D) (t : Transid) → mid.part ≡ old.part → mid.blocks ≡ old.blocks → HasGrown old.seat mid.seat → HasFreed mid new t → HasFreed old new t
freed_met old mid new t part blocks grown h = record {
  part = h.part ∙ ap (λ (s : DiscPart). freed_part s t) part;
  events = h.events ∙ ap (λ (x : List Event × DiscPart). x.0 ++ releasings x.1.events t) (λ j. (grown.mine j, part j));
  blocks = h.blocks ∙ blocks;
  place = h.place ∙ grown.part;
  begins = prefix_then old.seat.seen mid.seat.seen new.seat.seen grown.begins h.begins;
}

-- a disc whose seat has only met others has released nobody
pub dead_freed : {D : Type 0} (old new : DiscView D) (t : Transid) → new.part ≡ old.part → new.blocks ≡ old.blocks → HasGrown old.seat new.seat → is_live old.part.events t ≡ false → HasFreed old new t
dead_freed old new t part blocks grown dead = record {
  part = part ∙ none_freed old.part t dead;
  events = grown.mine ∙ none_told (own_events old.seat) old.part.events t dead;
  blocks = blocks;
  place = grown.part;
  begins = grown.begins;
}

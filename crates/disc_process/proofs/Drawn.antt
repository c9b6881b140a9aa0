-- What the fields keep of their part, when a block is drawn.
use Rattle.std.proofs.Common.{append-nil, ◌≡◌, inl, inr, ⊎_elim, ℕ, ◌+◌, ◌<◌, ◌≤◌, Bool, true, false, List, [], ◌∷◌, ◌++◌, append_assoc, Result, Ok, Err, Option, Some, None, cond, is_some, refl, ap, sym, ◌∙◌, subst, arith}
use Rattle.std.specs.Option.{option_map, unwrap_or}
use Rattle.std.specs.Prelude.{IfErr}
use Rattle.chronicle.specs.Histories.{events_of}
use Rattle.chronicle.proofs.Facts.{events_of-prefix}
use mathlib.Core.List.{IsPrefix}
use Rattle.tmf_model.specs.declared.config.Config.{Config}
use Rattle.node_machine.specs.declared.event.By.{By}
use Rattle.node_machine.specs.declared.event.Event.TheVariants.{OfDisc, OfTrail}
use Rattle.node_machine.specs.declared.event.TrailEvent.TheVariants as trail_did
use Rattle.audit_writer.specs.declared.lock.FlushRefused.{FlushRefused}
use Rattle.audit_writer.specs.declared.lock.FlushRefused.TheVariants as refused
use Rattle.audit_writer.specs.Locked.{HasFailed as HasTrailFailed}
use Rattle.audit_writer.proofs.Joining.{rose_more}
use Rattle.node_machine.specs.Opening.{trail_part}
use Rattle.std.specs.List.{list_all}
use Rattle.std.proofs.lemmas.Bool.{and_from}
use Rattle.std.proofs.lemmas.List.Folds.{list_all-append}
use Rattle.disc_process.specs.Draw.{AreDraws, HasDrawn, HasFailed, IsDrawRefusal, SameWork, drawings, endings, is_draw}
use Rattle.chronicle.specs.Seats.{Sight, HasNewlySeen, Knows, own_events}
use Rattle.disk_model.specs.Held.{Held}
use Rattle.keyed_file.specs.Block.{KeyedBlock}
use Rattle.trail_files.specs.declared.audit_record.AuditRecord.{AuditRecord}
use Rattle.node_machine.specs.declared.event.DiscEvent.TheVariants as did
use Rattle.node_machine.specs.declared.event.Event.{Event}
use Rattle.node_machine.specs.Made.{next_position, or_newer, position_before, drawn, drawing}
use Rattle.node_machine.specs.Node.{node}
use Rattle.node_machine.specs.Parts.{DiscPart, PartState}
use Rattle.node_machine.specs.Parts.Fact.{Durable}
use Rattle.node_machine.specs.Parts.PartState.{Worker, Disc, Trail, Monitor, Dump, Idle}
use Rattle.node_machine.specs.Same.{is_same_block}
use Rattle.node_machine.specs.Trail.{HasLandedTo, first_of, trail_of}
use Rattle.record_locks.specs.Names.{Entry as LockEntry}
use Rattle.disc_process.specs.declared.live.LiveTable.{LiveTable}
use Rattle.block_cache.specs.Blocks.{View}
use Rattle.block_cache.specs.declared.frame.Frame.{Frame}
use Rattle.keyed_file.specs.Volume.{Contents}
use Rattle.block_cache.specs.Blocks.{Holds}
use Rattle.keyed_file.specs.Volume.{blocks_of as label_blocks}
use Rattle.block_cache.specs.Cache.{entry_at}
use Rattle.block_cache.specs.Blocks.{with_content}
use Rattle.disc_process.specs.Blocks.{HasMarked, KeepsContents, begun_in, cached, dirty_in, ended_in, half_in, offered_in}
use Rattle.disc_process.specs.Disc.{DiscView, HoldsValues, Keeps}
use Rattle.disc_process.specs.Draws.{AreDrawn, DrawsOf}
use Rattle.disc_process.proofs.Drawing.{behind_draw, behind_drawn, same_block, values_draw, values_drawn}
use Rattle.disc_process.proofs.Draws.{OfEntry, apart_of, below_moved, draws_begun, draws_ended, draws_moved}
use Rattle.disc_process.proofs.Telling.{told_by}
use Rattle.disc_process.proofs.Keeping.{keeps_same}
use Rattle.disc_process.specs.Blocks.{SameDraws}
use Rattle.block_cache.specs.Blocks.{InCache}
use Rattle.block_cache.specs.Cache.{CacheView, KeepsFrames, is_settled}
use Rattle.block_cache.specs.declared.pair.PairPhase.{PairPhase}
use Rattle.block_cache.specs.declared.pair.PairPhase.TheVariants.{Settled, Written, Offered}
use Rattle.keyed_file.specs.declared.label.Label.{Label}
use Rattle.std.specs.Prelude.{IsTrue, not}

-- what is durable up to a position is so up to each one before it
pub durable_below : (opening : List PartState) (v : Sight Event) (d p q : ℕ) → q ≤ p → Knows node opening v (Durable d p) → Knows node opening v (Durable d q)
durable_below opening v d p q le (x, Worker s, at, makes) = absurd makes
durable_below opening v d p q le (x, Disc s, at, makes) = absurd makes
durable_below opening v d p q le (x, Monitor s, at, makes) = absurd makes
durable_below opening v d p q le (x, Dump s, at, makes) = absurd makes
durable_below opening v d p q le (x, Idle, at, makes) = absurd makes
durable_below opening v d p q le (x, Trail s, at, makes) = (
  x,
  Trail s,
  at,
  (
    makes.0,
    ⊎_elim
        (λ (lt : p < first_of s.firsts d). inl (omega (arith, le, lt)))
        (λ (h : HasLandedTo s.events d p). inr (record { item = h.item; is_landed = h.is_landed; of_disc = h.of_disc; reaches = (let far = h.reaches in omega (arith, le, far)) }))
        makes.1,
  ),
)

some_of : (o : Option ℕ) → is_some o ≡ true → (p : ℕ) × (o ≡ Some p)
some_of None e = absurd (cc (e))
some_of (Some p) e = (p, refl)

block_kept : (change : Frame → Frame) → ((c : Frame) → (change c).block ≡ c.block) → (o : Option Frame) → option_map (λ (c : Frame). c.block) (option_map change o) ≡ option_map (λ (c : Frame). c.block) o
block_kept change keeps None = refl
block_kept change keeps (Some c) = ap Some (keeps c)

module _ {D : Type 0} (old new : View D) (f n : ℕ) (change : Frame → Frame) (marked : HasMarked old new f n change) where
  -- the contents in the cache are as before
  cached_marked : ((c : Frame) → (change c).block ≡ c.block) → (g m : ℕ) → m < 256 → cached new g m ≡ cached old g m
  cached_marked keeps g m few = of (is_same_block g m f n) refl
    where
      of : (b : Bool) → is_same_block g m f n ≡ b → cached new g m ≡ cached old g m
      of true e = (let b = same_block g m f n e in
          subst (λ (x : ℕ × ℕ). cached new x.0 x.1 ≡ cached old x.0 x.1) (λ j. (sym b.0 j, sym b.1 j))
          (ap (option_map (λ (c : Frame). c.block)) marked.entry ∙ block_kept change keeps (entry_at old.cache f n)))
      of false e = ap (option_map (λ (c : Frame). c.block)) (marked.others g m few (apart_of g m f n e))

module _ {D : Type 0} (s : DiscPart) (old new : View D) (f n : ℕ) (small : n < 256) (c : Frame) (was : AreDrawn s old) (there : entry_at old.cache f n ≡ Some c) where
  pub entry_was : OfEntry s f n (Some c)
  entry_was = subst (λ (o : Option Frame). OfEntry s f n o) there (was f n small)

  drawn_begun : c.dirty ≡ true → half_in (Some c) ≡ false → HasMarked old new f n begun_in → AreDrawn (record s { events = did.Draw f n c.block.position ∷ s.events }) new
  drawn_begun dirty half marked g m few = of (is_same_block g m f n) refl
    where
      next : DiscPart
      next = record s { events = did.Draw f n c.block.position ∷ s.events }

      of : (b : Bool) → is_same_block g m f n ≡ b → OfEntry next g m (entry_at new.cache g m)
      of true e =
          let b = same_block g m f n e in
          let now : entry_at new.cache f n ≡ Some (begun_in c) = marked.entry ∙ ap (option_map begun_in) there in
          let before : DrawsOf s f n c.block.position true false = subst (λ (x : Bool × Bool). DrawsOf s f n c.block.position x.0 x.1) (λ j. (dirty j, half j)) entry_was in
          subst (λ (x : ℕ × ℕ). OfEntry next x.0 x.1 (entry_at new.cache x.0 x.1)) (λ j. (sym b.0 j, sym b.1 j))
          (subst (λ (o : Option Frame). OfEntry next f n o) (sym now) (draws_begun s f n c.block.position before))
      of false e =
          subst (λ (o : Option Frame). OfEntry next g m o) (sym (marked.others g m few (apart_of g m f n e)))
          (draws_moved s (did.Draw f n c.block.position ∷ s.events) refl g m _ _ _ refl (ap (λ b. cond b (Some c.block.position) (drawing s.events g m)) e) (was g m few))

  drawn_ended : half_in (Some c) ≡ true → HasMarked old new f n ended_in → AreDrawn (record s { events = did.Drawn f n ∷ s.events }) new
  drawn_ended half marked g m few = of (is_same_block g m f n) refl
    where
      next : DiscPart
      next = record s { events = did.Drawn f n ∷ s.events }

      of : (b : Bool) → is_same_block g m f n ≡ b → OfEntry next g m (entry_at new.cache g m)
      of true e =
          let b = same_block g m f n e in
          let now : entry_at new.cache f n ≡ Some (ended_in c) = marked.entry ∙ ap (option_map ended_in) there in
          let before : DrawsOf s f n c.block.position c.dirty true = subst (λ (x : Bool). DrawsOf s f n c.block.position c.dirty x) half entry_was in
          subst (λ (x : ℕ × ℕ). OfEntry next x.0 x.1 (entry_at new.cache x.0 x.1)) (λ j. (sym b.0 j, sym b.1 j))
          (subst (λ (o : Option Frame). OfEntry next f n o) (sym now) (draws_ended s f n c.block.position c.dirty before))
      of false e =
          subst (λ (o : Option Frame). OfEntry next g m o) (sym (marked.others g m few (apart_of g m f n e)))
          (draws_moved s (did.Drawn f n ∷ s.events) refl g m _ _ _
          (ap (λ b. cond b (or_newer (drawn (position_before s) s.events f n) (drawing s.events f n)) (drawn (position_before s) s.events g m)) e) (ap (λ b. cond b None (drawing s.events g m)) e) (was g m few))

module _ {D : Type 0} (tells : D → Bool) (held : D → Held) (s : DiscPart) (old new : View D) (locks : List LockEntry) (live : LiveTable) (pending : List AuditRecord) (next : ℕ)
    (f n : ℕ) (small : n < 256) (c : Frame) (there : entry_at old.cache f n ≡ Some c) (told : IsTrue (tells old.device) → IsTrue (tells new.device)) (kept : Keeps tells held old locks live pending next s) where
  in_cache : cached old f n ≡ Some c.block
  in_cache = ap (option_map (λ (x : Frame). x.block)) there

  -- the block's position is that of a record
  pub drawn_below : c.dirty ≡ true → c.block.position < next_position s
  drawn_below dirty =
      let a = (entry_was s old new f n small c kept.are_drawn there).dirty_is dirty in
      let lt = kept.below a.last a.is_made in
      let at = a.at in
      omega (arith, lt, at)

  pub begun_keeps : c.dirty ≡ true → half_in (Some c) ≡ false → HasMarked old new f n begun_in
      → ((landed after : Contents) → IsTrue (tells old.device) → Holds held old landed after → Holds held new landed (with_content after f n c.block))
      → Keeps tells held new locks live pending next (record s { events = did.Draw f n c.block.position ∷ s.events })
  begun_keeps dirty half marked holds = record {
    position = kept.position;
    few = kept.few;
    holds_locks = record { keys = kept.holds_locks.keys; writing = kept.holds_locks.writing; files = kept.holds_locks.files };
    holds_live = λ u unreleased. (let was = kept.holds_live u unreleased in record { left = was.left; last = was.last; closed = was.closed; undone = was.undone });
    coming = record { come = kept.coming.come; gone = kept.coming.gone; here = kept.coming.here };
    holds_pending = kept.holds_pending;
    values = told_by s.base (HoldsValues tells held s old) (HoldsValues tells held (record s { events = did.Draw f n c.block.position ∷ s.events }) new)
        (λ base h. values_draw tells held s old new f n c.block in_cache (cached_marked old new f n begun_in marked (λ x. refl)) told kept.homes c.block.position base h (holds h.landed h.next h.told h.holds)
        ((entry_was s old new f n small c kept.are_drawn there).dirty_is dirty).none_behind) kept.values;
    draws = behind_draw s f n c.block.position (drawn_below dirty) kept.draws;
    are_drawn = drawn_begun s old new f n small c kept.are_drawn there dirty half marked;
    below = below_moved s (did.Draw f n c.block.position ∷ s.events) refl kept.below;
    audit = kept.audit;
    homes = kept.homes;
    files = λ g here. ap (λ (l : Label). label_blocks l.files g) marked.label ∙ kept.files g here;
    only = λ g some. kept.only g (subst (λ (l : Label). 0 < label_blocks l.files g) marked.label some);
  }

  pub ended_keeps : half_in (Some c) ≡ true → HasMarked old new f n ended_in
      → ((landed after : Contents) → IsTrue (tells old.device) → Holds held old landed after → Holds held new (with_content landed f n (after f n)) after)
      → Keeps tells held new locks live pending next (record s { events = did.Drawn f n ∷ s.events })
  ended_keeps half marked holds =
      let way = some_of (drawing s.events f n) ((entry_was s old new f n small c kept.are_drawn there).half_is ∙ half) in record {
        position = kept.position;
        few = kept.few;
        holds_locks = record { keys = kept.holds_locks.keys; writing = kept.holds_locks.writing; files = kept.holds_locks.files };
        holds_live = λ u unreleased. (let was = kept.holds_live u unreleased in record { left = was.left; last = was.last; closed = was.closed; undone = was.undone });
        coming = record { come = kept.coming.come; gone = kept.coming.gone; here = kept.coming.here };
        holds_pending = kept.holds_pending;
        values = told_by s.base (HoldsValues tells held s old) (HoldsValues tells held (record s { events = did.Drawn f n ∷ s.events }) new)
            (λ base h. values_drawn tells held s old new f n c.block in_cache (cached_marked old new f n ended_in marked (λ x. refl)) told kept.homes way.0 base h (holds h.landed h.next h.told h.holds) way.1) kept.values;
        draws = behind_drawn s f n kept.draws;
        are_drawn = drawn_ended s old new f n small c kept.are_drawn there half marked;
        below = below_moved s (did.Drawn f n ∷ s.events) refl kept.below;
        audit = kept.audit;
        homes = kept.homes;
        files = λ g here. ap (λ (l : Label). label_blocks l.files g) marked.label ∙ kept.files g here;
        only = λ g some. kept.only g (subst (λ (l : Label). 0 < label_blocks l.files g) marked.label some);
      }

-- after a call that has failed
pub failed_keeps : {D : Type 0} (tells : D → Bool) (held : D → Held) (s : DiscPart) (old new : View D) (locks : List LockEntry) (live : LiveTable) (pending : List AuditRecord) (next : ℕ)
    → (IsTrue (tells old.device) → IsTrue (tells new.device)) → Keeps tells held old locks live pending next s
    → ((g m : ℕ) → m < 256 → SameDraws (entry_at old.cache g m) (entry_at new.cache g m)) → ((g m : ℕ) → m < 256 → cached new g m ≡ cached old g m) → new.label ≡ old.label
    → ((landed after : Contents) → IsTrue (tells old.device) → Holds held old landed after → Holds held new landed after)
    → Keeps tells held new locks live pending next s
failed_keeps tells held s old new locks live pending next told kept draws_are same label holds =
    keeps_same tells held s old new locks live pending next told
    (λ landed after is h. (holds landed after is h, λ g m few within. ap (λ (o : Option KeyedBlock). unwrap_or o (landed g m)) (same g m few)))
    label draws_are kept

pub is_half : (x : Frame) → is_settled x.phase ≡ false → half_in (Some x) ≡ true
is_half x e = ap not e

pub is_whole : (x : Frame) → x.phase ≡ Settled → half_in (Some x) ≡ false
is_whole x e = ap (λ (p : PairPhase). not (is_settled p)) e

-- where the selector was not written, nothing is said of a draw that was not said before
pub offered_keeps : {D : Type 0} (tells : D → Bool) (held : D → Held) (s : DiscPart) (old new : View D) (locks : List LockEntry) (live : LiveTable) (pending : List AuditRecord) (next : ℕ)
    → (f n : ℕ) (c : Frame) → entry_at old.cache f n ≡ Some c → (IsTrue (tells old.device) → IsTrue (tells new.device)) → half_in (Some c) ≡ true → HasMarked old new f n offered_in
    → ((landed after : Contents) → IsTrue (tells old.device) → Holds held old landed after → Holds held new landed after)
    → Keeps tells held old locks live pending next s → Keeps tells held new locks live pending next s
offered_keeps tells held s old new locks live pending next f n c there told half marked holds kept =
    failed_keeps tells held s old new locks live pending next told kept draws_are (cached_marked old new f n offered_in marked (λ x. refl)) marked.label holds
  where
    here : SameDraws (entry_at old.cache f n) (entry_at new.cache f n)
    here = subst (λ (x : Option Frame × Option Frame). SameDraws x.0 x.1) (λ j. (sym there j, sym (marked.entry ∙ ap (option_map offered_in) there) j)) (record { dirty = refl; half = sym half; position = λ d. refl })

    draws_are : (g m : ℕ) → m < 256 → SameDraws (entry_at old.cache g m) (entry_at new.cache g m)
    draws_are g m few = of (is_same_block g m f n) refl
      where
        of : (b : Bool) → is_same_block g m f n ≡ b → SameDraws (entry_at old.cache g m) (entry_at new.cache g m)
        of true e = (let b = same_block g m f n e in subst (λ (x : ℕ × ℕ). SameDraws (entry_at old.cache x.0 x.1) (entry_at new.cache x.0 x.1)) (λ j. (sym b.0 j, sym b.1 j)) here)
        of false e =
            subst (λ (x : Option Frame). SameDraws (entry_at old.cache g m) x) (sym (marked.others g m few (apart_of g m f n e))) (record { dirty = refl; half = refl; position = λ d. refl })

settled_of : (phase : PairPhase) → not (is_settled phase) ≡ false → phase ≡ Settled
settled_of Settled e = refl
settled_of Written e = absurd (cc (e))
settled_of Offered e = absurd (cc (e))

open_of : (phase : PairPhase) → not (is_settled phase) ≡ true → is_settled phase ≡ false
open_of Settled e = absurd (cc (e))
open_of Written e = refl
open_of Offered e = refl

-- an entry that is to be drawn, or is half drawn, is in the cache
pub dirty_cached : (cache : CacheView) (f n : ℕ) → n < 256 → dirty_in (entry_at cache f n) ≡ true → half_in (entry_at cache f n) ≡ false → InCache cache f n (λ x. (x.dirty ≡ true) × (x.phase ≡ Settled))
dirty_cached cache f n few dirty half = of (entry_at cache f n) refl dirty half
  where
    of : (o : Option Frame) → entry_at cache f n ≡ o → dirty_in o ≡ true → half_in o ≡ false → InCache cache f n (λ x. (x.dirty ≡ true) × (x.phase ≡ Settled))
    of None at d h = absurd (cc (d))
    of (Some x) at d h = (few, (x, at, (d, settled_of x.phase h)))

pub half_cached : (cache : CacheView) (f n : ℕ) → n < 256 → half_in (entry_at cache f n) ≡ true → InCache cache f n (λ x. is_settled x.phase ≡ false)
half_cached cache f n few half = of (entry_at cache f n) refl half
  where
    of : (o : Option Frame) → entry_at cache f n ≡ o → half_in o ≡ true → InCache cache f n (λ x. is_settled x.phase ≡ false)
    of None at h = absurd (cc (h))
    of (Some x) at h = (few, (x, at, open_of x.phase h))

pub begun_half : (o : Option Frame) → dirty_in o ≡ true → half_in (option_map begun_in o) ≡ true
begun_half None dirty = absurd (cc (dirty))
begun_half (Some c) dirty = refl

pub ended_half : (o : Option Frame) → half_in (option_map ended_in o) ≡ false
ended_half None = refl
ended_half (Some c) = refl

pub begun_dirty : (o : Option Frame) → dirty_in (option_map ended_in (option_map begun_in o)) ≡ false
begun_dirty None = refl
begun_dirty (Some c) = refl

-- the entry is as before but for the end of its draw
pub ended_drawings : (f n : ℕ) (o : Option Frame) → drawings f n (option_map ended_in o) ≡ drawings f n o
ended_drawings f n None = refl
ended_drawings f n (Some c) = refl

pub whole_events : (f n : ℕ) (o : Option Frame) (xs : List Event) → half_in o ≡ false → xs ++ drawings f n o ≡ xs ++ (endings f n o ++ drawings f n o)
whole_events f n o xs whole = ap (λ b. xs ++ (cond b (OfDisc (did.Drawn f n) ∷ []) [] ++ drawings f n o)) (sym whole)

pub ended_events : (f n : ℕ) (o e : Option Frame) (old mid new : List Event) → half_in o ≡ true → e ≡ option_map ended_in o → mid ≡ old ++ OfDisc (did.Drawn f n) ∷ [] → new ≡ mid ++ drawings f n e
    → new ≡ old ++ (endings f n o ++ drawings f n o)
ended_events f n o e old mid new half is first second =
    second
    ∙ ap (λ xs. xs ++ drawings f n e) first
    ∙ append_assoc old (OfDisc (did.Drawn f n) ∷ []) (drawings f n e)
    ∙ ap (λ x. old ++ (OfDisc (did.Drawn f n) ∷ drawings f n x)) is
    ∙ ap (λ xs. old ++ (OfDisc (did.Drawn f n) ∷ xs)) (ended_drawings f n o)
    ∙ ap (λ b. old ++ (cond b (OfDisc (did.Drawn f n) ∷ []) [] ++ drawings f n o)) (sym half)

pub no_draws : (v w : Sight Event) → own_events w ≡ own_events v → HasDrawn v w
no_draws v w same = record { drawn = []; are = refl; events = same ∙ sym (append-nil (own_events v)) }

-- draws behind draws
pub more_draws : (xs ys : List Event) → AreDraws xs → AreDraws ys → AreDraws (xs ++ ys)
more_draws xs ys a b = list_all-append is_draw xs ys ∙ and_from (list_all is_draw xs) (list_all is_draw ys) a b

pub draws_then : (v m w : Sight Event) (xs : List Event) → AreDraws xs → own_events m ≡ own_events v ++ xs → HasDrawn m w → HasDrawn v w
draws_then v m w xs are own h = record {
  drawn = xs ++ h.drawn;
  are = more_draws xs h.drawn are h.are;
  events = h.events ∙ ap (λ ys. ys ++ h.drawn) own ∙ append_assoc (own_events v) xs h.drawn;
}

-- a refusal after an earlier call
pub refusal_more : {D : Type 0} (faults : D → ℕ) (by : By) (old mid new : DiscView D) (e : FlushRefused) (xs : List Event) → mid.part.config ≡ old.part.config → mid.part.number ≡ old.part.number
    → IsPrefix old.seat.seen mid.seat.seen → own_events mid.seat ≡ own_events old.seat ++ xs → AreDraws xs → faults old.blocks.device ≤ faults mid.blocks.device → faults mid.blocks.device ≤ faults new.blocks.device
    → IsDrawRefusal faults by mid new e → IsDrawRefusal faults by old new e
refusal_more faults by old mid new refused.NoMemory xs config number begins own are later last h = draws_then old.seat mid.seat new.seat xs are own h
refusal_more faults by old mid new (refused.Failed device) xs config number begins own are later last h =
    ⊎_elim
    (λ (t : HasTrailFailed (trail_of mid.part.config mid.part.number) by mid.seat new.seat (refused.Failed device) × HasDrawn mid.seat new.seat).
    let same : trail_of mid.part.config mid.part.number ≡ trail_of old.part.config old.part.number = ap (λ (x : Config × ℕ). trail_of x.0 x.1) (λ j. (config j, number j)) in
    let p : ℕ = trail_part (trail_of old.part.config old.part.number) in
    let seen : HasNewlySeen p (OfTrail (trail_did.Failed by)) mid.seat new.seat = subst (λ (x : ℕ). HasNewlySeen (trail_part x) (OfTrail (trail_did.Failed by)) mid.seat new.seat) same t.0.1 in
    let pre = events_of-prefix p old.seat.seen mid.seat.seen begins in
    inl (
      (
        t.0.0 ∙ same,
        record {
          more = pre.0 ++ seen.more;
          events = seen.events ∙ ap (λ ys. (ys ++ seen.more) ++ OfTrail (trail_did.Failed by) ∷ []) (sym pre.1) ∙ ap (λ ys. ys ++ OfTrail (trail_did.Failed by) ∷ []) (append_assoc (events_of p old.seat.seen) pre.0 seen.more);
        },
      ),
      draws_then old.seat mid.seat new.seat xs are own t.1,
    ))
    (λ (f : HasFailed faults by mid new device).
    inr (record {
      named = f.named ∙ ap (λ n. 4 + n) number;
      rose = rose_more (faults old.blocks.device) (faults mid.blocks.device) (faults new.blocks.device) later last f.rose;
      drawn = xs ++ f.drawn;
      are = more_draws xs f.drawn are f.are;
      events = f.events ∙ ap (λ ys. (ys ++ f.drawn) ++ OfDisc (did.Failed by) ∷ []) own ∙ ap (λ ys. ys ++ OfDisc (did.Failed by) ∷ []) (append_assoc (own_events old.seat) xs f.drawn);
    }))
    h

pub if_err : {A E : Type 0} (r : Result A E) (P Q : E → Type 0) → ((e : E) → P e → Q e) → IfErr r P → IfErr r Q
if_err (Ok x) P Q more h = tt
if_err (Err e) P Q more h = more e h

-- WHAT DRAWS LEAVE AS IT WAS

pub work_same : (s t : DiscPart) → t ≡ s → SameWork s t
work_same s t e = subst (λ (x : DiscPart). SameWork s x) (sym e) (record { config = refl; number = refl; base = refl; next = refl; holders = λ f k. refl; changing = λ f k. refl; left = λ u. refl; released = λ u. refl })

pub work_draw : (s t : DiscPart) (f n p : ℕ) → t ≡ record s { events = did.Draw f n p ∷ s.events } → SameWork s t
work_draw s t f n p e = subst (λ (x : DiscPart). SameWork s x) (sym e) (record { config = refl; number = refl; base = refl; next = refl; holders = λ g k. refl; changing = λ g k. refl; left = λ u. refl; released = λ u. refl })

pub work_drawn : (s t : DiscPart) (f n : ℕ) → t ≡ record s { events = did.Drawn f n ∷ s.events } → SameWork s t
work_drawn s t f n e = subst (λ (x : DiscPart). SameWork s x) (sym e) (record { config = refl; number = refl; base = refl; next = refl; holders = λ g k. refl; changing = λ g k. refl; left = λ u. refl; released = λ u. refl })

pub work_then : (s m t : DiscPart) → SameWork s m → SameWork m t → SameWork s t
work_then s m t a b = record {
  config = b.config ∙ a.config;
  number = b.number ∙ a.number;
  base = b.base ∙ a.base;
  next = b.next ∙ a.next;
  holders = λ f k. b.holders f k ∙ a.holders f k;
  changing = λ f k. b.changing f k ∙ a.changing f k;
  left = λ u. b.left u ∙ a.left u;
  released = λ u. b.released u ∙ a.released u;
}

pub frames_then : (a b c : CacheView) → KeepsFrames a b → KeepsFrames b c → KeepsFrames a c
frames_then a b c first second = record { table = second.table ∙ first.table; order = second.order ∙ first.order }

-- WHAT A SEAT HAS SEEN

pub prefix_then : {A : Type 0} (xs ys zs : List A) → IsPrefix xs ys → IsPrefix ys zs → IsPrefix xs zs
prefix_then xs ys zs a b = (a.0 ++ b.0, sym (append_assoc xs a.0 b.0) ∙ ap (λ l. l ++ b.0) a.1 ∙ b.1)

pub prefix_same : {A : Type 0} (xs ys : List A) → xs ≡ ys → IsPrefix xs ys
prefix_same xs ys e = ([], append-nil xs ∙ e)

-- WHAT DRAWS LEAVE OF THE BLOCKS

pub contents_same : {D : Type 0} (old new : View D) (f n : ℕ) → new.cache ≡ old.cache → new.label ≡ old.label → KeepsContents old new f n
contents_same old new f n cache label = record {
  content = ap (λ (c : CacheView). option_map (λ (x : Frame). x.block) (entry_at c f n)) cache;
  others = λ g m few apart. ap (λ (c : CacheView). entry_at c g m) cache;
  label = label;
  frames = record { table = ap (λ (c : CacheView). c.table) cache; order = ap (λ (c : CacheView). c.order) cache };
}

pub contents_marked : {D : Type 0} (old new : View D) (f n : ℕ) (change : Frame → Frame) → ((x : Frame) → (change x).block ≡ x.block) → HasMarked old new f n change → KeepsContents old new f n
contents_marked old new f n change keeps marked = record {
  content = ap (option_map (λ (x : Frame). x.block)) marked.entry ∙ of (entry_at old.cache f n);
  others = marked.others;
  label = marked.label;
  frames = marked.frames;
}
  where
    of : (o : Option Frame) → option_map (λ (x : Frame). x.block) (option_map change o) ≡ option_map (λ (x : Frame). x.block) o
    of None = refl
    of (Some x) = ap Some (keeps x)

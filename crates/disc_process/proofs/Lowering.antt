-- A move of the low position.
use Rattle.std.proofs.Common.{◌≡◌, ℕ, ◌+◌, ◌<◌, ◌≤◌, inl, inr, not, is_some, Bool, true, false, List, [], ◌∷◌, ◌++◌, Option, Some, None, cond, refl, ap, sym, ◌∙◌, subst, arith, append_assoc, append-nil}
use Rattle.std.specs.Prelude.{IsTrue}
use Rattle.std.specs.Option.{IsSome}
use Rattle.chronicle.specs.Seats.{Sight, own_events}
use Rattle.disk_model.specs.Held.{Held, Rose}
use Rattle.trail_files.specs.declared.audit_record.AuditRecord.{AuditRecord}
use Rattle.keyed_file.specs.Block.{value_at}
use Rattle.keyed_file.specs.Volume.{Contents, blocks_of as label_blocks, label_of}
use Rattle.keyed_file.specs.declared.label.Label.{Label}
use Rattle.record_locks.specs.Names.{Entry as LockEntry}
use Rattle.block_cache.specs.declared.pair.PairPhase.{PairPhase}
use Rattle.block_cache.specs.declared.pair.PairPhase.TheVariants.{Settled, Written, Offered}
use Rattle.block_cache.specs.Blocks.{Holds, View, with_low}
use Rattle.block_cache.specs.Cache.{CacheView, entry_at, is_settled}
use Rattle.audit_writer.specs.declared.lock.FlushRefused.{FlushRefused}
use Rattle.audit_writer.specs.declared.lock.FlushRefused.TheVariants as refused
use Rattle.node_machine.specs.declared.event.By.{By}
use Rattle.node_machine.specs.declared.event.DiscEvent.TheVariants as did
use Rattle.node_machine.specs.declared.event.Event.{Event}
use Rattle.node_machine.specs.declared.event.Event.TheVariants.{OfDisc}
use Rattle.node_machine.specs.Disc.{IsFloor, IsGreatestQuiet, IsQuiet, IsUpTo, MayLower}
use Rattle.node_machine.specs.Made.{drawing, drawn, home_block, lowered, lowering, or_newer, position_before}
use Rattle.node_machine.specs.Parts.{DiscPart}
use Rattle.disc_process.specs.declared.live.LiveTable.{LiveTable}
use Rattle.disc_process.specs.declared.moves.Moves.{Moves}
use Rattle.disc_process.specs.Blocks.{content, dirty_in, half_in, position_in}
use Rattle.disc_process.specs.Disc.{AreHomes, DiscView, HoldsValues, Keeps}
use Rattle.disc_process.specs.Draw.{IsClean}
use Rattle.disc_process.specs.Draws.{AreDrawn, DrawsOf, drawing_to}
use Rattle.disc_process.specs.Low.{HasLowFailed, HasLowered, IsBegun, IsLowRefusal, lacking}
use Rattle.disc_process.specs.Moves.{HoldsMoves, low_in}
use Rattle.disc_process.specs.Release.{with_event}
use Rattle.disc_process.proofs.Caches.{home_few}
use Rattle.disc_process.proofs.Drawing.{self_block}
use Rattle.audit_writer.proofs.Joining.{rose_more}
use Rattle.disc_process.proofs.Keeping.{Leaves, LeavesLocks}
use Rattle.disc_process.proofs.Lives.{none_of}
use Rattle.disc_process.proofs.Moving.{quiet_moved}
use Rattle.disc_process.proofs.Telling.{told_by}

pub leaves_low : (low : ℕ) (by : By) → Leaves (did.Low low by)
leaves_low low by = record {
  made_same = λ es. refl;
  left = λ es t. refl;
  last = λ es t. refl;
  closed = λ es t. refl;
  undone = λ es t. refl;
  released = λ es t. refl;
  all = λ es. refl;
  values = λ base es. refl;
  drawn_at = λ before es f n. refl;
  drawing_at = λ es f n. refl;
}

pub leaves_lowered : Leaves did.Lowered
leaves_lowered = record {
  made_same = λ es. refl;
  left = λ es t. refl;
  last = λ es t. refl;
  closed = λ es t. refl;
  undone = λ es t. refl;
  released = λ es t. refl;
  all = λ es. refl;
  values = λ base es. refl;
  drawn_at = λ before es f n. refl;
  drawing_at = λ es f n. refl;
}

pub leaves_locks_low : (low : ℕ) (by : By) → LeavesLocks (did.Low low by)
leaves_locks_low low by = record { keys = λ es f k. refl; writing = λ es f k. refl; files = λ es f. refl }

pub leaves_locks_lowered : LeavesLocks did.Lowered
leaves_locks_lowered = record { keys = λ es f k. refl; writing = λ es f k. refl; files = λ es f. refl }

-- what the fields keep where the label has the same files and the cache is the same
pub keeps_label : {D : Type 0} (tells : D → Bool) (held : D → Held) (s : DiscPart) (old new : View D) (locks : List LockEntry) (live : LiveTable) (pending : List AuditRecord) (next : ℕ)
    → (IsTrue (tells old.device) → IsTrue (tells new.device)) → new.cache ≡ old.cache → new.label.files ≡ old.label.files
    → ((landed after : Contents) → IsTrue (tells old.device) → Holds held old landed after → Holds held new landed after)
    → Keeps tells held old locks live pending next s → Keeps tells held new locks live pending next s
keeps_label tells held s old new locks live pending next told cache files holds kept = record {
  position = kept.position;
  few = kept.few;
  holds_locks = kept.holds_locks;
  holds_live = kept.holds_live;
  coming = kept.coming;
  holds_pending = kept.holds_pending;
  values = told_by s.base (HoldsValues tells held s old) (HoldsValues tells held s new) (λ base h.
      record {
        landed = h.landed;
        next = h.next;
        told = told h.told;
        holds = holds h.landed h.next h.told h.holds;
        same = λ f k here. ap (λ (x : CacheView). value_at (content (record old { cache = x }) h.landed f (home_block s.config f k)) k) cache ∙ h.same f k here;
        landed_is = h.landed_is;
        next_is = h.next_is;
      }) kept.values;
  draws = kept.draws;
  are_drawn = λ f n few. subst (λ (x : CacheView). DrawsOf s f n (position_in (entry_at x f n)) (dirty_in (entry_at x f n)) (half_in (entry_at x f n))) (sym cache) (kept.are_drawn f n few);
  below = kept.below;
  audit = kept.audit;
  homes = kept.homes;
  files = λ f here. ap (λ (l : List (ℕ × ℕ)). label_blocks l f) files ∙ kept.files f here;
  only = λ f some. kept.only f (subst (λ (l : List (ℕ × ℕ)). 0 < label_blocks l f) files some);
}

module _ {D : Type 0} (moves : Moves) (blocks : View D) (s : DiscPart) (h : HoldsMoves moves blocks s) where
  -- no low position is under way where none is noted
  pub still_low : moves.lowering ≡ false → lowering s.events ≡ None
  still_low idle = of blocks.label_phase refl
    where
      of : (x : PairPhase) → blocks.label_phase ≡ x → lowering s.events ≡ None
      of Settled e = h.way ∙ ap (λ y. low_in y blocks.next_low) e
      of Written e = (let on = h.flag ∙ ap (λ (y : PairPhase). not (is_settled y)) e in absurd (cc (on, idle)))
      of Offered e = (let on = h.flag ∙ ap (λ (y : PairPhase). not (is_settled y)) e in absurd (cc (on, idle)))

  pub some_low : moves.lowering ≡ true → IsSome (lowering s.events)
  some_low busy = of blocks.label_phase refl
    where
      of : (x : PairPhase) → blocks.label_phase ≡ x → IsSome (lowering s.events)
      of Settled e = (let on = h.flag ∙ ap (λ (y : PairPhase). not (is_settled y)) e in absurd (cc (on, busy)))
      of Written e = subst IsSome (sym (h.way ∙ ap (λ y. low_in y blocks.next_low) e)) refl
      of Offered e = subst IsSome (sym (h.way ∙ ap (λ y. low_in y blocks.next_low) e)) refl

  pub settled_label : lowering s.events ≡ None → blocks.label_phase ≡ Settled
  settled_label none = of blocks.label_phase refl
    where
      of : (x : PairPhase) → blocks.label_phase ≡ x → blocks.label_phase ≡ Settled
      of Settled e = e
      of Written e = (let some = h.way ∙ ap (λ y. low_in y blocks.next_low) e in absurd (cc (some, none)))
      of Offered e = (let some = h.way ∙ ap (λ y. low_in y blocks.next_low) e in absurd (cc (some, none)))

  pub open_label : IsSome (lowering s.events) → is_settled blocks.label_phase ≡ false
  open_label some = of blocks.label_phase refl
    where
      of : (x : PairPhase) → blocks.label_phase ≡ x → is_settled blocks.label_phase ≡ false
      of Settled e = absurd (cc (subst IsSome (h.way ∙ ap (λ y. low_in y blocks.next_low) e) some))
      of Written e = ap is_settled e
      of Offered e = ap is_settled e

  -- it is the one that the label's pair has
  pub low_is : IsSome (lowering s.events) → lowering s.events ≡ Some blocks.next_low
  low_is some = h.way ∙ ap (λ b. cond b None (Some blocks.next_low)) (open_label some)

  -- where nothing is to be drawn, the greatest quiet position may be the low one
  pub may_lower : (low : ℕ) → AreDrawn s blocks → AreHomes s → ((f n : ℕ) → n < 256 → IsClean blocks f n) → lowering s.events ≡ None → IsGreatestQuiet s low → MayLower s low
  may_lower low draws homes clean still greatest = record {
    greatest = greatest;
    rises = greatest.greatest (lowered s.low s.events) h.quiet_low;
    written = λ r there below.
        (let n : ℕ = home_block s.config r.file r.key in
        let small = home_few s homes r.file r.key (h.here r there) in
        let up : r.position ≤ drawing_to s r.file n = (draws r.file n small).clean_is (clean r.file n small).clean r there (self_block r.file n) in
        subst (λ (o : Option ℕ). r.position ≤ or_newer (drawn (position_before s) s.events r.file n) o) (idle r.file n) up);
    idle = idle;
    still = still;
  }
    where
      idle : (f n : ℕ) → drawing s.events f n ≡ None
      idle f n = of (drawing s.events f n) refl
        where
          of : (o : Option ℕ) → drawing s.events f n ≡ o → drawing s.events f n ≡ None
          of None e = e
          of (Some p) e =
              let small = h.few f n p e in
              let half : is_some (drawing s.events f n) ≡ false = (draws f n small).half_is ∙ (clean f n small).whole in
              none_of (drawing s.events f n) half

  -- after the label was written
  pub moves_low : (new : View D) (low : ℕ) (by : By) → IsGreatestQuiet s low → new.label ≡ blocks.label → new.label_phase ≡ Written → new.next_low ≡ low
      → HoldsMoves (record moves { lowering = true }) new (with_event s (did.Low low by))
  moves_low new low by greatest label phase next = record {
    label = subst (λ (l : Label). l ≡ label_of s.config s.number l.low) (sym label) h.label;
    landed = h.landed ∙ ap (λ (l : Label). l.low) (sym label);
    way = sym (ap (λ (x : PairPhase × ℕ). low_in x.0 x.1) (λ j. (phase j, next j)));
    flag = sym (ap (λ (x : PairPhase). not (is_settled x)) phase);
    quiet_low = quiet_moved s (did.Low low by ∷ s.events) refl (λ t. refl) (λ t is. is) (lowered s.low s.events) h.quiet_low;
    rises = λ p e. (let le = greatest.greatest (lowered s.low s.events) h.quiet_low in let same : low ≡ p = cc (e) in omega (arith, le, same));
    quiet_next = λ p e. (let same : low ≡ p = cc (e) in quiet_moved s (did.Low low by ∷ s.events) refl (λ t. refl) (λ t is. is) p (subst (IsQuiet s) same greatest.quiet));
    dumps = h.dumps;
    dump = h.dump;
    number = h.number;
    rest = h.rest;
    few = h.few;
    here = h.here;
  }

  -- after its selector was written
  pub moves_lowered : (new : View D) → IsSome (lowering s.events) → new.label ≡ with_low blocks.label blocks.next_low → new.label_phase ≡ Settled
      → HoldsMoves (record moves { lowering = false }) new (with_event s did.Lowered)
  moves_lowered new some label phase =
      let is : lowered s.low (did.Lowered ∷ s.events) ≡ blocks.next_low = ap (or_newer (lowered s.low s.events)) (low_is some) in
      record {
        label = subst (λ (l : Label). l ≡ label_of s.config s.number l.low) (sym label) (ap (λ (l : Label). with_low l blocks.next_low) h.label);
        landed = is ∙ ap (λ (l : Label). l.low) (sym label);
        way = sym (ap (λ (x : PairPhase). low_in x new.next_low) phase);
        flag = sym (ap (λ (x : PairPhase). not (is_settled x)) phase);
        quiet_low = subst (IsQuiet (with_event s did.Lowered)) (sym is) (quiet_moved s (did.Lowered ∷ s.events) refl (λ t. refl) (λ t is. is) blocks.next_low (h.quiet_next blocks.next_low (low_is some)));
        rises = λ p e. absurd (cc (e));
        quiet_next = λ p e. absurd (cc (e));
        dumps = h.dumps;
        dump = h.dump;
        number = h.number;
        rest = h.rest;
        few = h.few;
        here = h.here;
      }

  -- where it may have been
  pub moves_offered : (new : View D) → IsSome (lowering s.events) → new.label ≡ blocks.label → new.label_phase ≡ Offered → new.next_low ≡ blocks.next_low → HoldsMoves moves new s
  moves_offered new some label phase next = record {
    label = subst (λ (l : Label). l ≡ label_of s.config s.number l.low) (sym label) h.label;
    landed = h.landed ∙ ap (λ (l : Label). l.low) (sym label);
    way = low_is some ∙ sym (ap (λ (x : PairPhase × ℕ). low_in x.0 x.1) (λ j. (phase j, next j)));
    flag = h.flag ∙ ap not (open_label some) ∙ sym (ap (λ (x : PairPhase). not (is_settled x)) phase);
    quiet_low = h.quiet_low;
    rises = h.rises;
    quiet_next = h.quiet_next;
    dumps = h.dumps;
    dump = h.dump;
    number = h.number;
    rest = h.rest;
    few = h.few;
    here = h.here;
  }

  -- where the label is still settled
  pub moves_unwritten : (new : View D) → lowering s.events ≡ None → new.label ≡ blocks.label → new.label_phase ≡ Settled → HoldsMoves moves new s
  moves_unwritten new none label phase = record {
    label = subst (λ (l : Label). l ≡ label_of s.config s.number l.low) (sym label) h.label;
    landed = h.landed ∙ ap (λ (l : Label). l.low) (sym label);
    way = none ∙ sym (ap (λ (x : PairPhase). low_in x new.next_low) phase);
    flag = h.flag ∙ ap (λ (x : PairPhase). not (is_settled x)) (settled_label none ∙ sym phase);
    quiet_low = h.quiet_low;
    rises = h.rises;
    quiet_next = h.quiet_next;
    dumps = h.dumps;
    dump = h.dump;
    number = h.number;
    rest = h.rest;
    few = h.few;
    here = h.here;
  }

  -- a position that is below what is kept is a floor
  pub floor_of : (p : ℕ) → p ≤ blocks.label.low → IsUpTo moves.rest p → IsUpTo moves.dump p → IsFloor s p
  floor_of p below rest way = record {
    low = (let is = h.landed in omega (arith, is, below));
    lowering_ = of (lowering s.events) refl;
    rest = subst (λ (o : Option ℕ). IsUpTo o p) (sym h.rest) rest;
    way = subst (λ (o : Option ℕ). IsUpTo o p) (sym h.dump) way;
  }
    where
      of : (o : Option ℕ) → lowering s.events ≡ o → IsUpTo (lowering s.events) p
      of None e = subst (λ (o : Option ℕ). IsUpTo o p) (sym e) tt
      of (Some q) e = subst (λ (o : Option ℕ). IsUpTo o p) (sym e) (let up = h.rises q e in let is = h.landed in omega (arith, up, is, below))

  -- and a floor is below what is kept
  pub below_floor : (p : ℕ) → IsFloor s p → (p ≤ blocks.label.low) × (IsUpTo moves.rest p × IsUpTo moves.dump p)
  below_floor p floor =
      (let is = h.landed in let below = floor.low in omega (arith, is, below), (subst (λ (o : Option ℕ). IsUpTo o p) h.rest floor.rest, subst (λ (o : Option ℕ). IsUpTo o p) h.dump floor.way))

-- the greatest quiet position stays it where the end of a move is told
pub greatest_lowered : (s : DiscPart) (low : ℕ) → IsGreatestQuiet s low → IsGreatestQuiet (with_event s did.Lowered) low
greatest_lowered s low g = record {
  quiet = quiet_moved s (did.Lowered ∷ s.events) refl (λ t. refl) (λ t is. is) low g.quiet;
  greatest = λ other q. g.greatest other (quiet_moved (with_event s did.Lowered) s.events refl (λ t. refl) (λ t is. is) other q);
}

none_lacking : (s : DiscPart) → lowering s.events ≡ None → lacking s ≡ []
none_lacking s none = ap (λ (o : Option ℕ). cond (is_some o) (OfDisc did.Lowered ∷ []) []) none

some_lacking : (s : DiscPart) → IsSome (lowering s.events) → lacking s ≡ OfDisc did.Lowered ∷ []
some_lacking s some = of (lowering s.events) refl
  where
    of : (o : Option ℕ) → lowering s.events ≡ o → lacking s ≡ OfDisc did.Lowered ∷ []
    of None e = absurd (cc (subst IsSome e some))
    of (Some p) e = ap (λ (o : Option ℕ). cond (is_some o) (OfDisc did.Lowered ∷ []) []) e

module _ {D : Type 0} (faults : D → ℕ) (by : By) (low : ℕ) where
  -- a whole move, where no end was lacking
  pub moved_whole : (old mid new : DiscView D) → lowering old.part.events ≡ None → own_events mid.seat ≡ own_events old.seat ++ OfDisc (did.Low low by) ∷ [] → own_events new.seat ≡ own_events mid.seat ++ OfDisc did.Lowered ∷ []
      → mid.blocks.next_low ≡ low → mid.blocks.label ≡ old.blocks.label → new.blocks.label ≡ with_low mid.blocks.label mid.blocks.next_low → new.blocks.label_phase ≡ Settled → HasLowered by low old new
  moved_whole old mid new none first second next same label phase = record {
    label = label ∙ ap (λ (x : Label × ℕ). with_low x.0 x.1) (λ j. (same j, next j));
    landed = phase;
    events = second
        ∙ ap (λ xs. xs ++ OfDisc did.Lowered ∷ []) first
        ∙ append_assoc (own_events old.seat) (OfDisc (did.Low low by) ∷ []) (OfDisc did.Lowered ∷ [])
        ∙ ap (λ xs. own_events old.seat ++ (xs ++ OfDisc (did.Low low by) ∷ OfDisc did.Lowered ∷ [])) (sym (none_lacking old.part none));
  }

  -- a move behind the end of another
  pub moved_more : (old mid new : DiscView D) → IsSome (lowering old.part.events) → mid.part ≡ with_event old.part did.Lowered → own_events mid.seat ≡ own_events old.seat ++ OfDisc did.Lowered ∷ []
      → mid.blocks.label ≡ with_low old.blocks.label old.blocks.next_low → HasLowered by low mid new → HasLowered by low old new
  moved_more old mid new some part first label h =
      let none : lacking mid.part ≡ [] = ap lacking part in
      record {
        label = h.label ∙ ap (λ (l : Label). with_low l low) label;
        landed = h.landed;
        events = h.events
            ∙ ap (λ (x : List Event × List Event). x.0 ++ (x.1 ++ OfDisc (did.Low low by) ∷ OfDisc did.Lowered ∷ [])) (λ j. (first j, none j))
            ∙ append_assoc (own_events old.seat) (OfDisc did.Lowered ∷ []) (OfDisc (did.Low low by) ∷ OfDisc did.Lowered ∷ [])
            ∙ ap (λ xs. own_events old.seat ++ (xs ++ OfDisc (did.Low low by) ∷ OfDisc did.Lowered ∷ [])) (sym (some_lacking old.part some));
      }

  -- the volume has failed behind these events
  pub failed_behind : (old mid new : DiscView D) (device : ℕ) (told : List Event) → IsBegun old.part by low told → own_events mid.seat ≡ own_events old.seat ++ told
      → own_events new.seat ≡ own_events mid.seat ++ OfDisc (did.Failed by) ∷ [] → device ≡ 4 + mid.part.number → mid.part.number ≡ old.part.number → Rose (faults old.blocks.device) (faults mid.blocks.device) → new.blocks ≡ mid.blocks
      → HasLowFailed faults by low old new device
  failed_behind old mid new device told begun first second named number rose same = record {
    named = named ∙ ap (λ n. 4 + n) number;
    rose = subst (λ (b : View D). Rose (faults old.blocks.device) (faults b.device)) (sym same) rose;
    told = told;
    begun = begun;
    events = second ∙ ap (λ xs. xs ++ OfDisc (did.Failed by) ∷ []) first;
  }

  -- a refusal behind the end of another move
  pub refused_more : (old mid new : DiscView D) (e : FlushRefused) → IsSome (lowering old.part.events) → mid.part ≡ with_event old.part did.Lowered → own_events mid.seat ≡ own_events old.seat ++ OfDisc did.Lowered ∷ []
      → faults old.blocks.device ≤ faults mid.blocks.device → faults mid.blocks.device ≤ faults new.blocks.device → IsLowRefusal faults by low mid new e → IsLowRefusal faults by low old new e
  refused_more old mid new refused.NoMemory some part first later last h = h
  refused_more old mid new (refused.Failed device) some part first later last h = record {
    named = h.named ∙ ap (λ (s : DiscPart). 4 + s.number) part;
    rose = rose_more (faults old.blocks.device) (faults mid.blocks.device) (faults new.blocks.device) later last h.rose;
    told = OfDisc did.Lowered ∷ h.told;
    begun = begun h.told h.begun;
    events = h.events ∙ ap (λ ys. (ys ++ h.told) ++ OfDisc (did.Failed by) ∷ []) first ∙ ap (λ ys. ys ++ OfDisc (did.Failed by) ∷ []) (append_assoc (own_events old.seat) (OfDisc did.Lowered ∷ []) h.told);
  }
    where
      ended : lacking old.part ≡ OfDisc did.Lowered ∷ []
      ended = some_lacking old.part some

      none : lacking mid.part ≡ []
      none = ap lacking part

      begun : (told : List Event) → IsBegun mid.part by low told → IsBegun old.part by low (OfDisc did.Lowered ∷ told)
      begun told (inl e) = inr (inl (ap (λ xs. OfDisc did.Lowered ∷ xs) e ∙ sym ended))
      begun told (inr (inl e)) = inr (inl (ap (λ xs. OfDisc did.Lowered ∷ xs) (e ∙ none) ∙ sym ended))
      begun told (inr (inr e)) = inr (inr (ap (λ xs. OfDisc did.Lowered ∷ xs) (e ∙ ap (λ xs. xs ++ OfDisc (did.Low low by) ∷ []) none) ∙ ap (λ xs. xs ++ OfDisc (did.Low low by) ∷ []) (sym ended)))

-- what is at most there, so is what is less
pub up_to_less : (o : Option ℕ) (p q : ℕ) → q ≤ p → IsUpTo o p → IsUpTo o q
up_to_less None p q le h = tt
up_to_less (Some b) p q le h = omega (arith, le, h)

module _ {D : Type 0} (faults : D → ℕ) (by : By) (low : ℕ) (old mid new : DiscView D) where
  pub low_refused : (e : FlushRefused) (told : List Event) → e ≡ refused.Failed (4 + mid.part.number) → IsBegun old.part by low told → own_events mid.seat ≡ own_events old.seat ++ told
      → own_events new.seat ≡ own_events mid.seat ++ OfDisc (did.Failed by) ∷ [] → mid.part.number ≡ old.part.number → Rose (faults old.blocks.device) (faults mid.blocks.device) → new.blocks ≡ mid.blocks
      → IsLowRefusal faults by low old new e
  low_refused e told is begun first second number rose same =
      subst (IsLowRefusal faults by low old new) (sym is) (failed_behind faults by low old mid new (4 + mid.part.number) told begun first second refl number rose same)

  -- the first call of a move has failed
  pub none_begun : (e : FlushRefused) → e ≡ refused.Failed (4 + mid.part.number) → (mid.seat ≡ old.seat) × (mid.part ≡ old.part) → own_events new.seat ≡ own_events mid.seat ++ OfDisc (did.Failed by) ∷ []
      → Rose (faults old.blocks.device) (faults mid.blocks.device) → new.blocks ≡ mid.blocks → IsLowRefusal faults by low old new e
  none_begun e is still second rose same =
      low_refused e [] is (inl refl) (ap (λ (v : Sight Event). own_events v) still.0 ∙ sym (append-nil (own_events old.seat))) second (ap (λ (s : DiscPart). s.number) still.1) rose same

-- the second has
pub one_begun : {D : Type 0} (faults : D → ℕ) (by : By) (low : ℕ) (old begun mid new : DiscView D) (e : FlushRefused) → e ≡ refused.Failed (4 + mid.part.number) → lowering old.part.events ≡ None
    → begun.part ≡ with_event old.part (did.Low low by) → own_events begun.seat ≡ own_events old.seat ++ OfDisc (did.Low low by) ∷ [] → faults old.blocks.device ≤ faults begun.blocks.device
    → faults begun.blocks.device ≤ faults mid.blocks.device → (mid.seat ≡ begun.seat) × (mid.part ≡ begun.part) → own_events new.seat ≡ own_events mid.seat ++ OfDisc (did.Failed by) ∷ []
    → Rose (faults begun.blocks.device) (faults mid.blocks.device) → new.blocks ≡ mid.blocks → IsLowRefusal faults by low old new e
one_begun faults by low old begun mid new e is none part first later last still second rose same =
    low_refused faults by low old mid new e (lacking old.part ++ OfDisc (did.Low low by) ∷ []) is (inr (inr refl))
    (ap (λ (v : Sight Event). own_events v) still.0 ∙ first ∙ ap (λ xs. own_events old.seat ++ (xs ++ OfDisc (did.Low low by) ∷ [])) (sym (none_lacking old.part none)))
    second (ap (λ (s : DiscPart). s.number) (still.1 ∙ part)) (rose_more (faults old.blocks.device) (faults begun.blocks.device) (faults mid.blocks.device) later last rose) same

pub begun_low : {D : Type 0} (mid : DiscView D) (s : DiscPart) (by : By) (low : ℕ) → mid.part ≡ with_event s (did.Low low by) → IsSome (lowering mid.part.events)
begun_low mid s by low is = subst (λ (t : DiscPart). IsSome (lowering t.events)) (sym is) refl

-- a disc that has only told its writer has been lowered, or refused, as it was before
pub lowered_told : {D : Type 0} (by : By) (low : ℕ) (old mid new : DiscView D) → own_events new.seat ≡ own_events mid.seat → new.blocks ≡ mid.blocks → HasLowered by low old mid → HasLowered by low old new
lowered_told {D} by low old mid new events blocks h = record {
  label = ap (λ (b : View D). b.label) blocks ∙ h.label;
  landed = ap (λ (b : View D). b.label_phase) blocks ∙ h.landed;
  events = events ∙ h.events;
}

pub refused_told : {D : Type 0} (faults : D → ℕ) (by : By) (low : ℕ) (old mid new : DiscView D) (e : FlushRefused) → own_events new.seat ≡ own_events mid.seat → new.blocks ≡ mid.blocks
    → IsLowRefusal faults by low old mid e → IsLowRefusal faults by low old new e
refused_told {D} faults by low old mid new refused.NoMemory events blocks h = h
refused_told {D} faults by low old mid new (refused.Failed device) events blocks h = record {
  named = h.named;
  rose = subst (λ (b : View D). Rose (faults old.blocks.device) (faults b.device)) (sym blocks) h.rose;
  told = h.told;
  begun = h.begun;
  events = events ∙ h.events;
}

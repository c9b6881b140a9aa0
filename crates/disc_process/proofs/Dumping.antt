-- The start, the end and the copies of a dump.
use Rattle.std.proofs.Common.{◌≡◌, ℕ, ◌+◌, Bool, true, List, [], ◌∷◌, Option, Some, None, cond, eq-eqb, ne_eqb, ◌≢◌, refl, ap, sym, ◌∙◌, subst}
use Rattle.std.specs.Option.{IsSome, option_map, unwrap_or}
use Rattle.disk_model.specs.Held.{Held}
use Rattle.std.specs.Prelude.{IfNone, IfSome}
use Rattle.chronicle.specs.Histories.{events_of}
use Rattle.chronicle.specs.Seats.{Sight, HasLearned, events_of_part, own_events}
use Rattle.tmf_model.specs.declared.transid.Transid.{Transid}
use Rattle.keyed_file.specs.Block.{value_at}
use Rattle.keyed_file.specs.BlockFormat.{is_at_home}
use Rattle.block_cache.specs.declared.frame.Frame.{Frame}
use Rattle.block_cache.specs.Blocks.{InCache, View}
use Rattle.block_cache.specs.Cache.{entry_at}
use Rattle.node_machine.specs.declared.event.Cause.TheVariants as cause
use Rattle.node_machine.specs.declared.event.DiscEvent.TheVariants as did
use Rattle.node_machine.specs.declared.event.Event.{Event}
use Rattle.node_machine.specs.declared.event.Event.TheVariants.{OfDisc}
use Rattle.node_machine.specs.Disc.{IsGreatestQuiet, MayRaise, MayStart, start_of}
use Rattle.node_machine.specs.Made.{blocks_of, home_block, lowered, next_position, under_way, values_after, volume_of}
use Rattle.node_machine.specs.Node.{node}
use Rattle.node_machine.specs.Parts.{DiscPart, DumpStart, Fact, PartState}
use Rattle.disc_process.specs.declared.moves.Moves.{Moves}
use Rattle.disc_process.specs.Disc.{DiscView, HoldsValues, ToldBy}
use Rattle.disc_process.specs.Copied.{HasCopied}
use Rattle.disc_process.specs.Dumping.{HasStarted, IsDumping, MayEnd, is_way, raisings}
use Rattle.disc_process.specs.Moves.{HoldsMoves}
use Rattle.disc_process.specs.Release.{with_event}
use Rattle.disc_process.proofs.Keeping.{Leaves, LeavesLocks}
use Rattle.disc_process.proofs.Moving.{quiet_moved}
use Rattle.disc_process.proofs.Telling.{told_by}

pub leaves_start : (number start : ℕ) (t : Transid) → Leaves (did.Start number start t)
leaves_start number start t = record { made_same = λ es. refl; left = λ es u. refl; last = λ es u. refl; closed = λ es u. refl; undone = λ es u. refl; released = λ es u. refl; all = λ es. refl; values = λ base es. refl; drawn_at = λ before es f n. refl; drawing_at = λ es f n. refl }

pub leaves_raise : (number : ℕ) (rest : Option ℕ) → Leaves (did.Raise number rest)
leaves_raise number rest = record { made_same = λ es. refl; left = λ es u. refl; last = λ es u. refl; closed = λ es u. refl; undone = λ es u. refl; released = λ es u. refl; all = λ es. refl; values = λ base es. refl; drawn_at = λ before es f n. refl; drawing_at = λ es f n. refl }

pub leaves_dumping : (t : Transid) → Leaves (did.Turn t cause.Dumping)
leaves_dumping t = record { made_same = λ es. refl; left = λ es u. refl; last = λ es u. refl; closed = λ es u. refl; undone = λ es u. refl; released = λ es u. refl; all = λ es. refl; values = λ base es. refl; drawn_at = λ before es f n. refl; drawing_at = λ es f n. refl }

pub leaves_locks_start : (number start : ℕ) (t : Transid) → LeavesLocks (did.Start number start t)
leaves_locks_start number start t = record { keys = λ es f k. refl; writing = λ es f k. refl; files = λ es f. refl }

pub leaves_locks_raise : (number : ℕ) (rest : Option ℕ) → LeavesLocks (did.Raise number rest)
leaves_locks_raise number rest = record { keys = λ es f k. refl; writing = λ es f k. refl; files = λ es f. refl }

pub leaves_locks_dumping : (t : Transid) → LeavesLocks (did.Turn t cause.Dumping)
leaves_locks_dumping t = record { keys = λ es f k. refl; writing = λ es f k. refl; files = λ es f. refl }

start_none : (o : Option DumpStart) → start_of o ≡ None → o ≡ None
start_none None e = refl
start_none (Some d) e = absurd (cc (e))

start_some : (o : Option DumpStart) → IsSome (start_of o) → IsSome o
start_some None e = e
start_some (Some d) e = refl

module _ {D : Type 0} (moves : Moves) (blocks : View D) (s : DiscPart) (h : HoldsMoves moves blocks s) where
  pub no_dump : moves.dump ≡ None → under_way s.events ≡ None
  no_dump none = start_none (under_way s.events) (h.dump ∙ none)

  pub some_dump : IsSome moves.dump → IsSome (under_way s.events)
  some_dump some = start_some (under_way s.events) (subst IsSome (sym h.dump) some)

  pub may_start : (number start : ℕ) → moves.dump ≡ None → number ≡ moves.dumps + 1 → IsGreatestQuiet s start → MayStart s number start
  may_start number start none next greatest = record {
    next = next ∙ ap (λ n. n + 1) (sym h.dumps);
    alone = no_dump none;
    greatest = greatest;
    low = greatest.greatest (lowered s.low s.events) h.quiet_low;
  }

  pub moves_started : (number start : ℕ) (t : Transid) → number ≡ moves.dumps + 1 → HoldsMoves (record moves { dumps = number; dump = Some start }) blocks (with_event s (did.Start number start t))
  moves_started number start t next = record {
    label = h.label;
    landed = h.landed;
    way = h.way;
    flag = h.flag;
    quiet_low = quiet_moved s (did.Start number start t ∷ s.events) refl (λ u. refl) (λ u is. is) (lowered s.low s.events) h.quiet_low;
    rises = h.rises;
    quiet_next = λ p is. quiet_moved s (did.Start number start t ∷ s.events) refl (λ u. refl) (λ u done. done) p (h.quiet_next p is);
    dumps = ap (λ n. n + 1) h.dumps ∙ sym next;
    dump = refl;
    number = λ d is. (let same : record { number = number; start = start } ≡ d = cc (is) in sym (ap (λ (x : DumpStart). x.number) same));
    rest = h.rest;
    few = h.few;
    here = h.here;
  }

  pub moves_raised : (number : ℕ) (rest : Option ℕ) → HoldsMoves (record moves { dump = None; rest = rest }) blocks (with_event s (did.Raise number rest))
  moves_raised number rest = record {
    label = h.label;
    landed = h.landed;
    way = h.way;
    flag = h.flag;
    quiet_low = quiet_moved s (did.Raise number rest ∷ s.events) refl (λ u. refl) (λ u is. is) (lowered s.low s.events) h.quiet_low;
    rises = h.rises;
    quiet_next = λ p is. quiet_moved s (did.Raise number rest ∷ s.events) refl (λ u. refl) (λ u done. done) p (h.quiet_next p is);
    dumps = h.dumps;
    dump = refl;
    number = λ d is. absurd (cc (is));
    rest = refl;
    few = h.few;
    here = h.here;
  }

  -- the dump under way has the number that is kept
  pub way_of : (number : ℕ) → IsSome moves.dump → moves.dumps ≡ number → (d : DumpStart) × (under_way s.events ≡ Some d) × (d.number ≡ number)
  way_of number some is = of (under_way s.events) refl
    where
      of : (o : Option DumpStart) → under_way s.events ≡ o → (d : DumpStart) × (under_way s.events ≡ Some d) × (d.number ≡ number)
      of None e = absurd (cc (subst IsSome e (some_dump some)))
      of (Some d) e = (d, e, h.number d e ∙ is)

  pub may_raise : (number : ℕ) (rest : Option ℕ) → IsSome moves.dump → moves.dumps ≡ number → MayEnd s number rest → MayRaise s number rest
  may_raise number rest some is ends = (let w = way_of number some is in record { dump = w.0; way = w.1; is_it = w.2; rests = ends w.0 w.1 w.2 })

  pub one_raised : (number : ℕ) (rest : Option ℕ) → IsSome moves.dump → moves.dumps ≡ number → OfDisc (did.Raise number rest) ∷ [] ≡ raisings s number rest
  one_raised number rest some is =
      let w = way_of number some is in
      let same : is_way (under_way s.events) number ≡ true = ap (λ o. is_way o number) w.1 ∙ eq-eqb w.0.number number w.2 in
      ap (λ b. cond b (OfDisc (did.Raise number rest) ∷ []) []) (sym same)

  pub none_raised : (number : ℕ) (rest : Option ℕ) → (IsSome moves.dump → moves.dumps ≢ number) → raisings s number rest ≡ []
  none_raised number rest apart = of (under_way s.events) refl
    where
      of : (o : Option DumpStart) → under_way s.events ≡ o → raisings s number rest ≡ []
      of None e = ap (λ o. cond (is_way o number) (OfDisc (did.Raise number rest) ∷ []) []) e
      of (Some d) e =
          let some : IsSome moves.dump = subst IsSome (ap start_of (sym e) ∙ h.dump) refl in
          let not : d.number ≢ number = λ is. apart some (sym (h.number d e) ∙ is) in
          ap (λ o. cond (is_way o number) (OfDisc (did.Raise number rest) ∷ []) []) e ∙ ap (λ b. cond b (OfDisc (did.Raise number rest) ∷ []) []) (ne_eqb d.number number not)

-- the values of a block in the cache
pub copied_values : {D : Type 0} (tells : D → Bool) (held : D → Held) (s : DiscPart) (blocks : View D) (f n : ℕ) (x : Frame) → entry_at blocks.cache f n ≡ Some x → volume_of s.config f ≡ s.number
    → ToldBy s.base (HoldsValues tells held s blocks) → ToldBy s.base (λ base. (k : List ℕ) → home_block s.config f k ≡ n → value_at x.block k ≡ values_after base s.events f k)
copied_values tells held s blocks f n x at here values =
    told_by s.base (HoldsValues tells held s blocks) (λ base. (k : List ℕ) → home_block s.config f k ≡ n → value_at x.block k ≡ values_after base s.events f k)
    (λ base h k home.
    sym (ap (λ (o : Option Frame). value_at (unwrap_or (option_map (λ (y : Frame). y.block) o) (h.landed f (home_block s.config f k))) k) (ap (entry_at blocks.cache f) home ∙ at))
    ∙ h.same f k here)
    values

pub if_some : {A : Type 0} (o : Option A) (P Q : A → Type 0) → ((x : A) → P x → Q x) → IfSome o P → IfSome o Q
if_some None P Q more h = tt
if_some (Some x) P Q more h = more x h

pub if_none : {A : Type 0} (o : Option A) (P Q : Type 0) → (P → Q) → IfNone o P → IfNone o Q
if_none None P Q more h = more h
if_none (Some x) P Q more h = tt

-- a disc whose seat has met others has started a dump, or was dumping, as before
pub started_met : {D : Type 0} (item : Transid) (old mid new : DiscView D) (number start : ℕ) → own_events new.seat ≡ own_events mid.seat → HasStarted item old mid number start → HasStarted item old new number start
started_met item old mid new number start mine h = record { alone = h.alone; next = h.next; quiet = h.quiet; events = mine ∙ h.events }

pub dumping_met : {D : Type 0} (item : Transid) (old mid new : DiscView D) → own_events new.seat ≡ own_events mid.seat → IsDumping item old mid → IsDumping item old new
dumping_met item old mid new mine h = record { busy = h.busy; events = mine ∙ h.events }

-- what has been seen of a seat's part by whoever has seen the same
pub seen_events : (v : Sight Event) (p : ℕ) (xs : List (ℕ × Event)) → v.part ≡ Some p → xs ≡ v.seen → events_of p xs ≡ own_events v
seen_events v p xs part same = ap (events_of p) same ∙ sym (ap (λ (q : Option ℕ). events_of_part q v.seen) part)

-- where a dump was to end
pub ends_in : (s t : DiscPart) (number : ℕ) (rest : Option ℕ) → t ≡ s → MayEnd s number rest → MayEnd t number rest
ends_in s t number rest same h = subst (λ (x : DiscPart). MayEnd x number rest) (sym same) h

-- a disc whose seat has met another has the block that was copied
pub copied_met : {D : Type 0} (mid new : DiscView D) (f n : ℕ) (bytes : List ℕ) (position : ℕ) → new.part ≡ mid.part → new.blocks ≡ mid.blocks → HasCopied mid f n bytes position → HasCopied new f n bytes position
copied_met {D} mid new f n bytes position part blocks h = record {
  last = h.last ∙ sym (ap next_position part);
  block = h.block;
  cached = subst (λ (b : View D). InCache b.cache f n (λ x. x.block ≡ h.block)) (sym blocks) h.cached;
  valid = h.valid;
  home = subst (λ (s : DiscPart). is_at_home (Some (record { file = f; number = n; blocks = blocks_of s.config f })) h.block ≡ true) (sym part) h.home;
  spelled = h.spelled;
  values = subst (λ (s : DiscPart). ToldBy s.base (λ base. (k : List ℕ) → home_block s.config f k ≡ n → value_at h.block k ≡ values_after base s.events f k)) (sym part) h.values;
}

-- what a seat has learned twice
pub learned_twice : (opening : List PartState) (u v w : Sight Event) → HasLearned node opening u v → HasLearned node opening v w → HasLearned node opening u w
learned_twice opening u v w a b = record { history = b.history; state = b.state ∙ a.state; knows = λ (f : Fact) k. b.knows f (a.knows f k) }

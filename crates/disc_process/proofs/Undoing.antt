-- What the fields keep of their part, when a change is undone. To the values and the blocks an Undo is what a Write is.
use Rattle.std.proofs.Common.{◌≡◌, ℕ, ◌+◌, ◌<◌, inl, inr, ◌||◌, Bool, true, false, List, [], ◌∷◌, ◌++◌, drop, length, map, Option, Some, None, cond, is_some, refl, ap, sym, ◌∙◌, subst, arith, ltb-true}
use Rattle.std.specs.Prelude.{IsTrue}
use Rattle.disk_model.specs.Held.{Held}
use Rattle.keyed_file.specs.Block.{KeyedBlock, CanTake, value_at}
use Rattle.keyed_file.specs.Volume.{Contents, blocks_of as label_blocks}
use Rattle.keyed_file.specs.declared.label.Label.{Label}
use Rattle.tmf_model.specs.declared.script.Op.TheVariants.{Del}
use Rattle.tmf_model.specs.declared.transid.Transid.{Transid}
use Rattle.trail_files.specs.MonitorOrder.{is_same_transid}
use Rattle.trail_files.specs.declared.audit_record.AuditRecord.{AuditRecord}
use Rattle.node_machine.specs.declared.event.DiscEvent.{DiscEvent}
use Rattle.node_machine.specs.declared.event.DiscEvent.TheVariants as did
use Rattle.node_machine.specs.Made.{changes_left, has_released, has_undone, home_block, made, next_position, volume_of}
use Rattle.node_machine.specs.Parts.{DiscPart}
use Rattle.node_machine.specs.Same.{Among}
use Rattle.node_machine.specs.SameLaws.{same_is}
use Rattle.record_locks.specs.Names.{Entry as LockEntry}
use Rattle.block_cache.specs.Blocks.{Holds, View}
use Rattle.block_cache.specs.Cache.{entry_at}
use Rattle.block_cache.specs.declared.frame.Frame.{Frame}
use Rattle.disc_process.specs.declared.live.LiveTable.{LiveTable}
use Rattle.disc_process.specs.Blocks.{HasMarked, set_in}
use Rattle.disc_process.specs.Coming.{all_left, without_first}
use Rattle.disc_process.specs.Disc.{HoldsLive, HoldsValues, Keeps}
use Rattle.disc_process.specs.Live.{live_of}
use Rattle.disc_process.specs.LiveTx.{LiveTx, change_of, taken_back}
use Rattle.disc_process.specs.Release.{with_event}
use Rattle.disc_process.specs.Undo.{takes_back}
use Rattle.disc_process.proofs.Coming.{coming_moved}
use Rattle.disc_process.proofs.Draws.{below_moved, below_written, draws_moved, drawn_written}
use Rattle.disc_process.proofs.Keeping.{draws_changed, pending_changed, position_changed, told_changed}
use Rattle.disc_process.proofs.Recording.{from_more}
use Rattle.disc_process.proofs.Telling.{told_by}

-- WHAT IS LEFT

-- the records of a transaction
abbrev of_tx : Transid → List AuditRecord → List AuditRecord
of_tx t [] = []
of_tx t (r ∷ rs) = cond (is_same_transid r.tx t) (r ∷ of_tx t rs) (of_tx t rs)

of_without : (t u : Transid) (rs : List AuditRecord) → of_tx u (without_first t rs) ≡ cond (is_same_transid t u) (drop 1 (of_tx u rs)) (of_tx u rs)
of_without t u [] = none (is_same_transid t u)
  where
    none : (b : Bool) → [] ≡ cond b (drop 1 (of_tx u [])) (of_tx u [])
    none true = refl
    none false = refl
of_without t u (r ∷ rs) = at (of_without t u rs) (is_same_transid r.tx t) refl (is_same_transid t u) refl (is_same_transid r.tx u) refl
  where
    at : of_tx u (without_first t rs) ≡ cond (is_same_transid t u) (drop 1 (of_tx u rs)) (of_tx u rs)
        → (a : Bool) → is_same_transid r.tx t ≡ a → (b : Bool) → is_same_transid t u ≡ b → (c : Bool) → is_same_transid r.tx u ≡ c
        → of_tx u (cond a rs (r ∷ without_first t rs)) ≡ cond b (drop 1 (cond c (r ∷ of_tx u rs) (of_tx u rs))) (cond c (r ∷ of_tx u rs) (of_tx u rs))
    at rest true p true q true w = refl
    at rest true p true q false w = (let yes : is_same_transid r.tx u ≡ true = subst (λ (x : Transid). is_same_transid x u ≡ true) (sym (same_is r.tx t p)) q in absurd (cc (yes, w)))
    at rest true p false q true w = (let yes : is_same_transid t u ≡ true = subst (λ (x : Transid). is_same_transid x u ≡ true) (same_is r.tx t p) w in absurd (cc (yes, q)))
    at rest true p false q false w = refl
    at rest false p true q true w = (let yes : is_same_transid r.tx t ≡ true = subst (λ (x : Transid). is_same_transid r.tx x ≡ true) (sym (same_is t u q)) w in absurd (cc (yes, p)))
    at rest false p true q false w = ap (λ b. cond b (r ∷ of_tx u (without_first t rs)) (of_tx u (without_first t rs))) w ∙ rest ∙ ap (λ b. cond b (drop 1 (of_tx u rs)) (of_tx u rs)) q
    at rest false p false q true w =
        ap (λ b. cond b (r ∷ of_tx u (without_first t rs)) (of_tx u (without_first t rs))) w
        ∙ ap (λ xs. r ∷ xs) (rest ∙ ap (λ b. cond b (drop 1 (of_tx u rs)) (of_tx u rs)) q)
    at rest false p false q false w = ap (λ b. cond b (r ∷ of_tx u (without_first t rs)) (of_tx u (without_first t rs))) w ∙ rest ∙ ap (λ b. cond b (drop 1 (of_tx u rs)) (of_tx u rs)) q

-- of the changes that are left, a transaction's are those that are left of it
left_of : (events : List DiscEvent) (t : Transid) → of_tx t (all_left events) ≡ changes_left events t
left_of [] t = refl
left_of (did.Write r op ∷ events) t = ap (λ xs. cond (is_same_transid r.tx t) (r ∷ xs) xs) (left_of events t)
left_of (did.Undo r ∷ events) t = of_without r.tx t (all_left events) ∙ ap (λ xs. cond (is_same_transid r.tx t) (drop 1 xs) xs) (left_of events t)
left_of (did.Read x f k v ∷ events) t = left_of events t
left_of (did.Lock x f ∷ events) t = left_of events t
left_of (did.Turn x c ∷ events) t = left_of events t
left_of (did.Close x ∷ events) t = left_of events t
left_of (did.Release x ∷ events) t = left_of events t
left_of (did.Draw f b p ∷ events) t = left_of events t
left_of (did.Drawn f b ∷ events) t = left_of events t
left_of (did.Low p by ∷ events) t = left_of events t
left_of (did.Lowered ∷ events) t = left_of events t
left_of (did.Start n p x ∷ events) t = left_of events t
left_of (did.Raise n r ∷ events) t = left_of events t
left_of (did.Failed by ∷ events) t = left_of events t

one_less : (t : Transid) (rs : List AuditRecord) (x : AuditRecord) (others : List AuditRecord) → of_tx t rs ≡ x ∷ others → length (without_first t rs) + 1 ≡ length rs
one_less t [] x others e = absurd (cc (e))
one_less t (r ∷ rs) x others e = at (one_less t rs x others) (is_same_transid r.tx t) refl
  where
    at : (of_tx t rs ≡ x ∷ others → length (without_first t rs) + 1 ≡ length rs) → (a : Bool) → is_same_transid r.tx t ≡ a → length (cond a rs (r ∷ without_first t rs)) + 1 ≡ length (r ∷ rs)
    at rest true p = (omega (arith))
    at less false p = (let rest = less (sym (ap (λ b. cond b (r ∷ of_tx t rs) (of_tx t rs)) p) ∙ e) in omega (arith, rest))

-- one change less is left after an undo
pub left_shorter : (events : List DiscEvent) (t : Transid) (x : AuditRecord) (others : List AuditRecord) → changes_left events t ≡ x ∷ others → length (without_first t (all_left events)) + 1 ≡ length (all_left events)
left_shorter events t x others e = one_less t (all_left events) x others (left_of events t ∙ e)

-- WHAT THE TABLE KEEPS

drop_map : (xs : List AuditRecord) → map change_of (drop 1 xs) ≡ drop 1 (map change_of xs)
drop_map [] = refl
drop_map (x ∷ xs) = refl

-- what is kept of each transaction after the newest change of one was undone
live_undone : (old new : LiveTable) (events : List DiscEvent) (r : AuditRecord) (u : Transid)
    → live_of new u ≡ cond (is_same_transid r.tx u) (taken_back r.position (live_of old u)) (live_of old u)
    → HoldsLive old events u → HoldsLive new (did.Undo r ∷ events) u
live_undone old new events r u is was = of (is_same_transid r.tx u) refl
  where
    of : (b : Bool) → is_same_transid r.tx u ≡ b → HoldsLive new (did.Undo r ∷ events) u
    of true e =
        let now : live_of new u ≡ taken_back r.position (live_of old u) = is ∙ ap (λ b. cond b (taken_back r.position (live_of old u)) (live_of old u)) e in record {
          left = ap (λ b. map change_of (cond b (drop 1 (changes_left events u)) (changes_left events u))) e ∙ drop_map (changes_left events u) ∙ ap (drop 1) was.left ∙ sym (ap (λ (l : LiveTx). l.left) now);
          last = was.last ∙ sym (ap (λ (l : LiveTx). l.last) now);
          closed = was.closed ∙ sym (ap (λ (l : LiveTx). l.closed) now);
          undone = ap (λ b. cond b true (has_undone events u)) e ∙ sym (ap (λ (l : LiveTx). l.undone) now);
        }
    of false e =
        let now : live_of new u ≡ live_of old u = is ∙ ap (λ b. cond b (taken_back r.position (live_of old u)) (live_of old u)) e in record {
          left = ap (λ b. map change_of (cond b (drop 1 (changes_left events u)) (changes_left events u))) e ∙ was.left ∙ sym (ap (λ (l : LiveTx). l.left) now);
          last = was.last ∙ sym (ap (λ (l : LiveTx). l.last) now);
          closed = was.closed ∙ sym (ap (λ (l : LiveTx). l.closed) now);
          undone = ap (λ b. cond b true (has_undone events u)) e ∙ was.undone ∙ sym (ap (λ (l : LiveTx). l.undone) now);
        }

among_drop : (xs : List AuditRecord) (x : AuditRecord) → Among (drop 1 xs) x → Among xs x
among_drop [] x there = there
among_drop (y ∷ xs) x there = inr there

here_undone : (s : DiscPart) (r : AuditRecord) → ((u : Transid) (x : AuditRecord) → Among (changes_left s.events u) x → volume_of s.config x.file ≡ s.number)
    → (u : Transid) (x : AuditRecord) → Among (changes_left (did.Undo r ∷ s.events) u) x → volume_of s.config x.file ≡ s.number
here_undone s r was u x = of (is_same_transid r.tx u)
  where
    of : (b : Bool) → Among (cond b (drop 1 (changes_left s.events u)) (changes_left s.events u)) x → volume_of s.config x.file ≡ s.number
    of true there = was u x (among_drop (changes_left s.events u) x there)
    of false there = was u x there

-- THE FIELDS

module _ {D : Type 0} (tells : D → Bool) (held : D → Held) where
  pub keeps_undone : (s : DiscPart) (r : AuditRecord) (old new : View D) (locks : List LockEntry) (live new_live : LiveTable) (pending : List AuditRecord) (next number : ℕ)
      → number < 256 → home_block s.config r.file r.key ≡ number → HasMarked old new r.file number (set_in r.key r.after r.position)
      → (IsTrue (tells old.device) → IsTrue (tells new.device)) → ((landed after : Contents) → Holds held old landed after → Holds held new landed after)
      → (c : Frame) → entry_at old.cache r.file number ≡ Some c → r.position ≡ next_position s → r.disc ≡ s.number
      → ((u : Transid) → live_of new_live u ≡ cond (is_same_transid r.tx u) (taken_back r.position (live_of live u)) (live_of live u))
      → has_released s.events r.tx ≡ false → (x : AuditRecord) (others : List AuditRecord) → changes_left s.events r.tx ≡ x ∷ others
      → Keeps tells held old locks live pending next s
      → Keeps tells held new locks new_live (pending ++ r ∷ []) (next + 1) (with_event s (did.Undo r))
  keeps_undone s r old new locks live new_live pending next number small home set told holds c there at disc is free x others left kept = record {
    position = position_changed s r Del next kept.position;
    few = (let less = left_shorter s.events r.tx x others left in let few = kept.few in omega (arith, less, few));
    holds_locks = record { keys = kept.holds_locks.keys; writing = kept.holds_locks.writing; files = kept.holds_locks.files };
    holds_live = λ u unreleased. live_undone live new_live s.events r u (is u) (kept.holds_live u unreleased);
    coming = coming_moved live new_live s (did.Undo r) r.tx (taken_back r.position) is (λ l u same. refl) (λ u other. refl) (λ u. refl) free (here_undone s r kept.coming.here) kept.coming;
    holds_pending = pending_changed pending s.events r Del kept.holds_pending;
    values = told_by s.base (HoldsValues tells held (with_event s (did.Write r Del)) new) (HoldsValues tells held (with_event s (did.Undo r)) new)
        (λ base h. record { landed = h.landed; next = h.next; told = h.told; holds = h.holds; same = h.same; landed_is = h.landed_is; next_is = h.next_is })
        (told_changed tells held s old new r Del number r.position home set kept.homes told holds c there kept.draws at kept.values);
    draws = (let d = draws_changed s r Del kept.draws in record { first = d.first; drawn_at = d.drawn_at; drawing_at = d.drawing_at });
    are_drawn = λ f n few. draws_moved (with_event s (did.Write r Del)) (did.Undo r ∷ s.events) refl f n _ _ _ refl refl
        (drawn_written s old new kept.are_drawn r Del number small home set c there at kept.draws kept.below f n few);
    below = below_moved (with_event s (did.Write r Del)) (did.Undo r ∷ s.events) refl (below_written s r Del at kept.below);
    audit = from_more s.first s.number (made s.events) r kept.audit disc at;
    homes = kept.homes;
    files = λ f on. ap (λ (l : Label). label_blocks l.files f) set.label ∙ kept.files f on;
    only = λ f some. kept.only f (subst (λ (l : Label). 0 < label_blocks l.files f) set.label some);
  }

-- WHAT A BLOCK CAN TAKE BACK

pub can_take_back : (block : KeyedBlock) (key : List ℕ) (before after : Option (List ℕ)) → value_at block key ≡ before → takes_back block after before ≡ true → CanTake block.records key after
can_take_back block key before None is holds = tt
can_take_back block key (Some v) (Some w) is holds = inl (ap is_some is)
can_take_back block key None (Some w) is holds = inr (ltb-true (length block.records) 62 holds)

pub some_taken : (block : KeyedBlock) (before after : Option (List ℕ)) → takes_back block after before ≡ true → (is_some before || is_some after) ≡ true
some_taken block (Some v) after holds = refl
some_taken block None (Some w) holds = refl
some_taken block None None holds = absurd (cc (holds))

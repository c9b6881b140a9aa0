-- How far the low position and the dumps have come, after an event.
use Rattle.std.proofs.Common.{◌≡◌, ◌⊎◌, ℕ, ◌+◌, ◌<◌, ◌≤◌, inl, inr, ⊎_elim, not, Bool, true, false, List, [], ◌∷◌, ◌++◌, length, Some, None, cond, refl, ap, sym, ◌∙◌, subst, arith}
use Rattle.std.proofs.lemmas.List.{length_push}
use Rattle.tmf_model.specs.declared.script.Op.{Op}
use Rattle.tmf_model.specs.declared.script.Step.{Step}
use Rattle.tmf_model.specs.declared.transid.Transid.{Transid}
use Rattle.trail_files.specs.MonitorOrder.{is_same_transid}
use Rattle.trail_files.specs.declared.audit_record.AuditRecord.{AuditRecord}
use Rattle.keyed_file.specs.declared.label.Label.{Label}
use Rattle.keyed_file.specs.Volume.{label_of}
use Rattle.block_cache.specs.declared.pair.PairPhase.{PairPhase}
use Rattle.block_cache.specs.declared.pair.PairPhase.TheVariants.{Settled}
use Rattle.block_cache.specs.Blocks.{SameLabel, View}
use Rattle.block_cache.specs.Cache.{is_settled}
use Rattle.node_machine.specs.declared.event.DiscEvent.{DiscEvent}
use Rattle.node_machine.specs.declared.event.DiscEvent.TheVariants as did
use Rattle.node_machine.specs.Disc.{IsQuiet, start_of}
use Rattle.node_machine.specs.Made.{made, drawing, dumps_begun, has_released, has_undone, lowered, lowering, next_position, rest_start, under_way, volume_of}
use Rattle.node_machine.specs.Parts.{DiscPart}
use Rattle.node_machine.specs.Same.{Among, is_same_block}
use Rattle.node_machine.specs.SameLaws.{among_append, same_is}
use Rattle.disc_process.specs.declared.found.Found.{Found}
use Rattle.disc_process.specs.declared.found.Found.TheVariants as found
use Rattle.disc_process.specs.declared.moves.Moves.{Moves}
use Rattle.disc_process.specs.Disc.{hold_event}
use Rattle.disc_process.specs.Moves.{HoldsMoves, low_in}
use Rattle.disc_process.proofs.Drawing.{same_block}

-- the same records, and nothing newly undone: below a quiet position nothing is unfinished
pub quiet_moved : (s : DiscPart) (events : List DiscEvent) → made events ≡ made s.events → ((t : Transid) → has_undone events t ≡ has_undone s.events t)
    → ((t : Transid) → has_released s.events t ≡ true → has_released events t ≡ true) → (p : ℕ) → IsQuiet s p → IsQuiet (record s { events = events }) p
quiet_moved s events same undone released p q = record {
  reached = subst (λ (xs : List AuditRecord). p ≤ s.first + length xs) (sym same) q.reached;
  released = λ r there below. released r.tx (q.released r (was r there) below);
  undone = λ r other there below gone also alike. q.undone r other (was r there) below (sym (undone r.tx) ∙ gone) (was other also) alike;
}
  where
    was : (r : AuditRecord) → Among (made events) r → Among (made s.events) r
    was r there = subst (λ (xs : List AuditRecord). Among xs r) same there

-- one more record, of a transaction that has not released
pub quiet_recorded : (s : DiscPart) (events : List DiscEvent) (r : AuditRecord) → made events ≡ made s.events ++ r ∷ [] → ((t : Transid) → is_same_transid r.tx t ≡ false → has_undone events t ≡ has_undone s.events t)
    → ((t : Transid) → has_released events t ≡ has_released s.events t) → has_released s.events r.tx ≡ false → r.position ≡ next_position s → (p : ℕ) → IsQuiet s p → IsQuiet (record s { events = events }) p
quiet_recorded s events r more undone released free at p q = record {
  reached = (let le = q.reached in let len = ap length more ∙ length_push (made s.events) r in omega (arith, le, len));
  released = λ x there below. released x.tx ∙ q.released x (older x there below) below;
  undone = λ x other there below gone also alike.
      let old = older x there below in
      let done : has_released s.events x.tx ≡ true = q.released x old below in
      of x done (is_same_transid r.tx x.tx) refl old below gone other alike (among_append (made s.events) (r ∷ []) other (subst (λ (xs : List AuditRecord). Among xs other) more also));
}
  where
    one : (x y : AuditRecord) → Among (x ∷ []) y → x ≡ y
    one x y (inl e) = e
    one x y (inr h) = absurd h

    older : (x : AuditRecord) → Among (made events) x → x.position < p → Among (made s.events) x
    older x there below =
        ⊎_elim (λ (o : Among (made s.events) x). o)
        (λ (n : Among (r ∷ []) x). (let same = ap (λ (y : AuditRecord). y.position) (one r x n) in let le = q.reached in absurd (omega (arith, same, at, below, le))))
        (among_append (made s.events) (r ∷ []) x (subst (λ (xs : List AuditRecord). Among xs x) more there))

    not_own : (x : AuditRecord) → has_released s.events x.tx ≡ true → is_same_transid r.tx x.tx ≡ true → ⊥
    not_own x done e =
        let free_x : has_released s.events x.tx ≡ false = subst (λ (t : Transid). has_released s.events t ≡ false) (same_is r.tx x.tx e) free in
        cc (free_x, done)

    of : (x : AuditRecord) → has_released s.events x.tx ≡ true → (b : Bool) → is_same_transid r.tx x.tx ≡ b → Among (made s.events) x → x.position < p → has_undone events x.tx ≡ true
        → (other : AuditRecord) → is_same_transid other.tx x.tx ≡ true → Among (made s.events) other ⊎ Among (r ∷ []) other → other.position < p
    of x done true e old below gone other alike also = absurd (not_own x done e)
    of x done false e old below gone other alike (inl there) = q.undone x other old below (sym (undone x.tx e) ∙ gone) there alike
    of x done false e old below gone other alike (inr new) =
        (let same = one r other new in
        absurd (not_own x done (subst (λ (y : AuditRecord). is_same_transid y.tx x.tx ≡ true) (sym same) alike)))

module _ {D : Type 0} (moves : Moves) (blocks : View D) (s : DiscPart) where
  -- an event that is none of the low position and of no dump, and makes no record
  pub moves_moved : (events : List DiscEvent) → lowered s.low events ≡ lowered s.low s.events → lowering events ≡ lowering s.events → dumps_begun events ≡ dumps_begun s.events
      → under_way events ≡ under_way s.events → rest_start s.rest events ≡ rest_start s.rest s.events → made events ≡ made s.events → ((t : Transid) → has_undone events t ≡ has_undone s.events t)
      → ((t : Transid) → has_released s.events t ≡ true → has_released events t ≡ true) → ((f n p : ℕ) → drawing events f n ≡ Some p → n < 256)
      → HoldsMoves moves blocks s → HoldsMoves moves blocks (record s { events = events })
  moves_moved events low way dumps dump rest same undone released few h = record {
    label = h.label;
    landed = low ∙ h.landed;
    way = way ∙ h.way;
    flag = h.flag;
    quiet_low = subst (IsQuiet (record s { events = events })) (sym low) (quiet_moved s events same undone released (lowered s.low s.events) h.quiet_low);
    rises = λ p is. (let le = h.rises p (sym way ∙ is) in omega (arith, le, low));
    quiet_next = λ p is. quiet_moved s events same undone released p (h.quiet_next p (sym way ∙ is));
    dumps = dumps ∙ h.dumps;
    dump = ap start_of dump ∙ h.dump;
    number = λ d is. h.number d (sym dump ∙ is);
    rest = rest ∙ h.rest;
    few = few;
    here = λ r there. h.here r (subst (λ (xs : List AuditRecord). Among xs r) same there);
  }

  -- one more record, of a transaction that has not released
  pub moves_recorded : (events : List DiscEvent) (r : AuditRecord) → lowered s.low events ≡ lowered s.low s.events → lowering events ≡ lowering s.events → dumps_begun events ≡ dumps_begun s.events
      → under_way events ≡ under_way s.events → rest_start s.rest events ≡ rest_start s.rest s.events → ((f n : ℕ) → drawing events f n ≡ drawing s.events f n)
      → made events ≡ made s.events ++ r ∷ [] → ((t : Transid) → is_same_transid r.tx t ≡ false → has_undone events t ≡ has_undone s.events t)
      → ((t : Transid) → has_released events t ≡ has_released s.events t) → has_released s.events r.tx ≡ false → r.position ≡ next_position s → volume_of s.config r.file ≡ s.number
      → HoldsMoves moves blocks s → HoldsMoves moves blocks (record s { events = events })
  moves_recorded events r low way dumps dump rest draws more undone released free at on h = record {
    label = h.label;
    landed = low ∙ h.landed;
    way = way ∙ h.way;
    flag = h.flag;
    quiet_low = subst (IsQuiet (record s { events = events })) (sym low) (quiet_recorded s events r more undone released free at (lowered s.low s.events) h.quiet_low);
    rises = λ p is. (let le = h.rises p (sym way ∙ is) in omega (arith, le, low));
    quiet_next = λ p is. quiet_recorded s events r more undone released free at p (h.quiet_next p (sym way ∙ is));
    dumps = dumps ∙ h.dumps;
    dump = ap start_of dump ∙ h.dump;
    number = λ d is. h.number d (sym dump ∙ is);
    rest = rest ∙ h.rest;
    few = λ f n p is. h.few f n p (sym (draws f n) ∙ is);
    here = λ x there. here_of x (among_append (made s.events) (r ∷ []) x (subst (λ (xs : List AuditRecord). Among xs x) more there));
  }
    where
      here_of : (x : AuditRecord) → Among (made s.events) x ⊎ Among (r ∷ []) x → volume_of s.config x.file ≡ s.number
      here_of x (inl was) = h.here x was
      here_of x (inr (inl e)) = subst (λ (y : AuditRecord). volume_of s.config y.file ≡ s.number) e on
      here_of x (inr (inr e)) = absurd e

  pub moves_written : (r : AuditRecord) (op : Op) → has_released s.events r.tx ≡ false → r.position ≡ next_position s → volume_of s.config r.file ≡ s.number
      → HoldsMoves moves blocks s → HoldsMoves moves blocks (record s { events = did.Write r op ∷ s.events })
  moves_written r op free at on h =
      moves_recorded (did.Write r op ∷ s.events) r refl refl refl refl refl (λ f n. refl) refl (λ t other. refl) (λ t. refl) free at on h

  pub moves_undone : (r : AuditRecord) → has_released s.events r.tx ≡ false → r.position ≡ next_position s → volume_of s.config r.file ≡ s.number
      → HoldsMoves moves blocks s → HoldsMoves moves blocks (record s { events = did.Undo r ∷ s.events })
  moves_undone r free at on h =
      moves_recorded (did.Undo r ∷ s.events) r refl refl refl refl refl (λ f n. refl) refl (λ t other. ap (λ b. cond b true (has_undone s.events t)) other) (λ t. refl) free at on h

  pub moves_held : (t : Transid) (step : Step) (what : Found) → HoldsMoves moves blocks s → HoldsMoves moves blocks (record s { events = hold_event t step what ∷ s.events })
  moves_held t step (found.Value value) h = moves_moved _ refl refl refl refl refl refl (λ u. refl) (λ u is. is) h.few h
  moves_held t step (found.Refused reason) h = moves_moved _ refl refl refl refl refl refl (λ u. refl) (λ u is. is) h.few h
  moves_held t step found.Full h = moves_moved _ refl refl refl refl refl refl (λ u. refl) (λ u is. is) h.few h
  moves_held t step found.Crowded h = moves_moved _ refl refl refl refl refl refl (λ u. refl) (λ u is. is) h.few h
  moves_held t step (found.Change before after) h = moves_moved _ refl refl refl refl refl refl (λ u. refl) (λ u is. is) h.few h

  pub moves_closed : (t : Transid) → HoldsMoves moves blocks s → HoldsMoves moves blocks (record s { events = did.Close t ∷ s.events })
  moves_closed t h = moves_moved (did.Close t ∷ s.events) refl refl refl refl refl refl (λ u. refl) (λ u is. is) h.few h

  pub moves_released : (t : Transid) → HoldsMoves moves blocks s → HoldsMoves moves blocks (record s { events = did.Release t ∷ s.events })
  moves_released t h = moves_moved (did.Release t ∷ s.events) refl refl refl refl refl refl (λ u. refl) (λ u is. stays (is_same_transid t u) (has_released s.events u) is) h.few h
    where
      stays : (a b : Bool) → b ≡ true → cond a true b ≡ true
      stays true b is = refl
      stays false b is = is

  pub moves_draw : (f n p : ℕ) → n < 256 → HoldsMoves moves blocks s → HoldsMoves moves blocks (record s { events = did.Draw f n p ∷ s.events })
  moves_draw f n p small h = moves_moved (did.Draw f n p ∷ s.events) refl refl refl refl refl refl (λ u. refl) (λ u is. is) (λ g m q is. of g m q (is_same_block g m f n) refl is) h
    where
      of : (g m q : ℕ) (b : Bool) → is_same_block g m f n ≡ b → cond b (Some p) (drawing s.events g m) ≡ Some q → m < 256
      of g m q true e is = subst (λ (k : ℕ). k < 256) (sym (same_block g m f n e).1) small
      of g m q false e is = h.few g m q is

  pub moves_drawn : (f n : ℕ) → HoldsMoves moves blocks s → HoldsMoves moves blocks (record s { events = did.Drawn f n ∷ s.events })
  moves_drawn f n h = moves_moved (did.Drawn f n ∷ s.events) refl refl refl refl refl refl (λ u. refl) (λ u is. is) (λ g m q is. of g m q (is_same_block g m f n) is) h
    where
      of : (g m q : ℕ) (b : Bool) → cond b None (drawing s.events g m) ≡ Some q → m < 256
      of g m q true is = absurd (cc (is))
      of g m q false is = h.few g m q is

-- a call that leaves the label and its pair
pub moves_label : {D : Type 0} (moves : Moves) (old new : View D) (s : DiscPart) → SameLabel old new → HoldsMoves moves old s → HoldsMoves moves new s
moves_label moves old new s same h = record {
  label = subst (λ (l : Label). l ≡ label_of s.config s.number l.low) (sym same.same) h.label;
  landed = h.landed ∙ ap (λ (l : Label). l.low) (sym same.same);
  way = h.way ∙ ap (λ (x : PairPhase × ℕ). low_in x.0 x.1) (λ j. (sym same.phase j, sym same.low j));
  flag = h.flag ∙ ap (λ (x : PairPhase). not (is_settled x)) (sym same.phase);
  quiet_low = h.quiet_low;
  rises = h.rises;
  quiet_next = h.quiet_next;
  dumps = h.dumps;
  dump = h.dump;
  number = h.number;
  rest = h.rest;
  few = h.few;
  here = h.here;
}

-- nothing has happened yet
pub opening_moves : {D : Type 0} (moves : Moves) (blocks : View D) (s : DiscPart) → s.events ≡ [] → s.low ≡ blocks.label.low → blocks.label.low ≤ s.first → blocks.label_phase ≡ Settled → blocks.label ≡ label_of s.config s.number blocks.label.low
    → moves ≡ record { lowering = false; dumps = 0; dump = None; rest = s.rest } → HoldsMoves moves blocks s
opening_moves moves blocks s still low behind settled label is =
    subst (λ (m : Moves). HoldsMoves m blocks s) (sym is)
    (subst (λ (es : List DiscEvent). HoldsMoves (record { lowering = false; dumps = 0; dump = None; rest = s.rest }) blocks (record s { events = es })) (sym still) (record {
      label = label;
      landed = low;
      way = sym (ap (λ (x : PairPhase). low_in x blocks.next_low) settled);
      flag = sym (ap (λ (x : PairPhase). not (is_settled x)) settled);
      quiet_low = record { reached = (omega (arith, low, behind)); released = λ r there below. absurd there; undone = λ r other there below gone also alike. absurd there };
      rises = λ p e. absurd (cc (e));
      quiet_next = λ p e. absurd (cc (e));
      dumps = refl;
      dump = refl;
      number = λ d e. absurd (cc (e));
      rest = refl;
      few = λ f n p e. absurd (cc (e));
      here = λ r there. absurd there;
    }))

-- How a writer's trail, part and queue go on belonging together.
use Rattle.std.specs.Prelude.{ℕ, ◌<◌, ◌≤◌, ◌+◌, List, [], ◌∷◌, ◌++◌, length, Option, Some, None, IsTrue, IfSome}
use Rattle.std.proofs.Common.{◌≡◌, ◌≢◌, ◌⊎◌, true, inl, inr, ⊎_elim, refl, ap, sym, ◌∙◌, subst, arith, append_assoc}
use Rattle.std.proofs.lemmas.Bool.{le-leb}
use Rattle.disk_model.specs.declared.disk.Disk as disk
use Rattle.trail_files.specs.declared.audit_record.AuditRecord.{AuditRecord}
use Rattle.trail_files.specs.declared.trail.TrailPhase.TheVariants.{Ready, Loaded, Offered, RollOffered}
use Rattle.trail_files.specs.AuditRecord.{audit_format}
use Rattle.trail_files.specs.AuditOrder.{audit_follows, is_audit_order, last_position}
use Rattle.trail_files.specs.Content.{Placed, Content, in_file, from_file, records_in, batch_of, landed_in, with_loaded, with_landed, with_offered}
use Rattle.trail_files.specs.Format.{AllValid}
use Rattle.trail_files.specs.Holds.{Holds, Keeps}
use Rattle.trail_files.specs.RecordOrder.{each_follows-front}
use Rattle.trail_files.specs.Trail.{View}
use Rattle.trail_files.proofs.Placing.{records_in-append, records_in-in_file, from_file-append}
use Rattle.node_machine.specs.declared.event.By.{By}
use Rattle.node_machine.specs.declared.event.TrailEvent.{TrailEvent}
use Rattle.node_machine.specs.declared.event.TrailEvent.TheVariants.{Offer, Land, Purge, Failed}
use Rattle.node_machine.specs.Parts.{Standing, TrailPart, Fact}
use Rattle.node_machine.specs.Parts.Fact.{Made, Floor}
use Rattle.node_machine.specs.Trail.{offered, landed, offered_standing, landed_standing, records_of, first_of, stand_in, IsBelow, PurgeAsks}
use Rattle.node_machine.specs.Same.{Among}
use Rattle.node_machine.specs.SameLaws.{among_right, among_append}
use Rattle.node_machine.specs.Shows.{MayBeGone}
use Rattle.audit_writer.specs.Seat.{trail_with_event}
use Rattle.audit_writer.specs.Writer.{HasPhase, Stands, Belong, AreFrom, disc_made, placed_of}
use Rattle.audit_writer.proofs.Queues.{all_right, not_none, from_file-kept, placed_of-append, placed_of-stand_in, records_in-offered}

not_rolling : Ready ≢ RollOffered
not_rolling e = cc

loaded_not_rolling : Loaded ≢ RollOffered
loaded_not_rolling e = cc

offered_not_rolling : Offered ≢ RollOffered
offered_not_rolling e = cc

-- files that may be gone may be gone after one more event
pub gone_more : (e : TrailEvent) (events : List TrailEvent) (from : ℕ) → MayBeGone events from → MayBeGone (e ∷ events) from
gone_more e events from gone =
    ⊎_elim (λ (none : from ≡ 0). inl none) (λ (p : (below last : ℕ) × Among events (Purge below last) × (from ≤ below)). inr (p.0, p.1, inr p.2, p.3)) gone

-- what a purge asked, after an event that puts no record below its files
pub asks_on : (known after : Fact → Type 0) (old : Option (List Standing)) (events next : List TrailEvent) (below : ℕ) → ((f : Fact) → known f → after f)
    → ((were : List Standing) (x : Standing) → IsBelow were next below x → IsBelow were events below x) → PurgeAsks known old events below → PurgeAsks after old next below
asks_on known after None events next below more back asks = tt
asks_on known after (Some old) events next below more back asks = λ x there. (let a = asks x (back old x there) in (a.0, more (Floor x.item.disc a.0) a.1, a.2))

was_purge : (e : TrailEvent) (events : List TrailEvent) (below last : ℕ) → e ≢ Purge below last → Among (e ∷ events) (Purge below last) → Among events (Purge below last)
was_purge e events below last other there = ⊎_elim (λ (same : e ≡ Purge below last). absurd (other same)) (λ (h : Among events (Purge below last)). h) there

in_its_file : (file : ℕ) (rs : List AuditRecord) (x : Standing) → Among (stand_in file rs) x → x.file ≡ file
in_its_file file [] x there = absurd there
in_its_file file (r ∷ rs) x there = ⊎_elim (λ (same : record { file = file; item = r } ≡ x). ap (λ (y : Standing). y.file) (sym same)) (λ (h : Among (stand_in file rs) x). in_its_file file rs x h) there

-- what lands stood there as it was offered
land_back : (events : List TrailEvent) (below : ℕ) (were : List Standing) (x : Standing) → IsBelow were (Land ∷ events) below x → IsBelow were events below x
land_back events below were x h = (
  ⊎_elim (λ (old : Among were x). inl old)
      (λ (r : Among (landed_standing events ++ offered_standing events) x ⊎ Among [] x). inr (⊎_elim (λ (l : Among (landed_standing events ++ offered_standing events) x). among_append (landed_standing events) (offered_standing events) x l) (λ (none : Among [] x). absurd none) r))
      h.0,
  h.1,
)

-- what is offered in a file from a number on is not below it
offer_back : (events : List TrailEvent) (file below : ℕ) (batch : List AuditRecord) (were : List Standing) (x : Standing) → below ≤ file → IsBelow were (Offer file batch ∷ events) below x → IsBelow were events below x
offer_back events file below batch were x le h = (
  ⊎_elim (λ (old : Among were x). inl old)
      (λ (r : Among (landed_standing events) x ⊎ Among (stand_in file batch) x).
      inr (⊎_elim (λ (l : Among (landed_standing events) x). inl l) (λ (o : Among (stand_in file batch) x). (let at = in_its_file file batch x o in let low = h.1 in absurd (omega (arith, at, low, le)))) r))
      h.0,
  h.1,
)

module _ {D : Type 0} (kind : disk.Ghosts D) (premise : Type 0) (known after : Fact → Type 0) (part : TrailPart) (trail next : View D) (queue : List AuditRecord)
    (more : (f : Fact) → known f → after f) (keeps : Keeps kind trail next) (is : Belong kind premise known part trail queue) where
  valid : AllValid (audit_format next.rules) queue
  valid = subst (λ r. AllValid (audit_format r) queue) (sym keeps.rules) is.valid

  made : (d : ℕ) (xs ys : List AuditRecord) → disc_made part queue d ≡ xs ++ ys → xs ≢ [] → (n : ℕ) × after (Made d n xs)
  made d xs ys parts some = (let m = is.made d xs ys parts some in (m.0, more (Made d m.0 xs) m.1))

  purged : (e : TrailEvent) → ((below last : ℕ) → e ≢ Purge below last) → trail.file ≤ next.file
      → ((below : ℕ) (were : List Standing) (x : Standing) → below ≤ trail.file → IsBelow were (e ∷ part.events) below x → IsBelow were part.events below x)
      → (below last : ℕ) → Among (e ∷ part.events) (Purge below last) → (below ≤ next.file) × PurgeAsks after part.old (e ∷ part.events) below
  purged e other file back below last there =
      let was = is.purged below last (was_purge e part.events below last (other below last) there) in
      (omega (arith, was.0, file), asks_on known after part.old part.events (e ∷ part.events) below more (λ were x h. back below were x was.0 h) was.1)

  -- the batch behind the gate is the one that is offered
  batch_is : (s : Stands kind trail part queue) → batch_of s.content.pending ≡ offered part.events
  batch_is s = sym (records_in-in_file s.content.file (batch_of s.content.pending)) ∙ ap records_in s.pending ∙ records_in-offered part.events

  -- what lands was handed in
  pub mine : (rest : List AuditRecord) → queue ≡ offered part.events ++ rest → (d : ℕ) → disc_made (trail_with_event part Land) rest d ≡ disc_made part queue d
  mine rest parts d = ap (records_of d) (append_assoc (landed part.events) (offered part.events) rest ∙ ap (λ (l : List AuditRecord). landed part.events ++ l) (sym parts))

  -- what was offered has landed
  pub lands : (rest : List AuditRecord) → queue ≡ offered part.events ++ rest → next.phase ≡ Ready → next.file ≡ trail.file
      → ((content : Content AuditRecord) → Holds kind audit_format trail content → Holds kind audit_format next (with_landed content))
      → Belong kind premise after (trail_with_event part Land) next rest
  lands rest parts ready file gated =
      record {
        writable = keeps.writable is.writable;
        phase = inl (inl ready, refl);
        more = λ rolls. absurd (not_rolling (sym ready ∙ rolls));
        file = omega (arith, file, is.file);
        front = (rest, refl);
        valid = all_right _ (offered part.events) rest (subst (λ (l : List AuditRecord). AllValid (audit_format next.rules) l) parts valid);
        own = λ r there. is.own r (subst (λ (l : List AuditRecord). Among l r) (sym parts) (among_right (offered part.events) rest r there));
        positions = λ d. subst (λ (l : List AuditRecord). AreFrom (first_of part.firsts d) d l) (sym (mine rest parts d)) (is.positions d);
        made = λ d xs ys there some. made d xs ys (sym (mine rest parts d) ∙ there) some;
        told = is.told;
        purged = purged Land (λ below last e. cc) (omega (arith, file)) (λ below were x le h. land_back part.events below were x h);
        stands = λ p. landed_there (is.stands p);
      }
    where
      landed_there : Stands kind trail part queue → Stands kind next (trail_with_event part Land) rest
      landed_there s =
          let c = s.content in
          let batch = batch_of c.pending in
          let low : s.from ≤ c.file = omega (arith, s.front, s.holds.file) in
          let kept : in_file c.file batch ≡ from_file s.from (placed_of (offered_standing part.events)) = sym (from_file-kept s.from c.file batch (le-leb s.from c.file low)) ∙ ap (from_file s.from) s.pending in
          let before = s.old ++ landed_standing part.events in
          let all : records_in (c.placed ++ in_file c.file batch) ++ rest ≡ landed_in c ++ queue =
          ap (λ (l : List AuditRecord). l ++ rest) (records_in-append c.placed (in_file c.file batch) ∙ ap (λ (l : List AuditRecord). landed_in c ++ l) (records_in-in_file c.file batch ∙ batch_is s))
          ∙ append_assoc (landed_in c) (offered part.events) rest
          ∙ ap (λ (l : List AuditRecord). landed_in c ++ l) (sym parts) in
          record {
            tells = keeps.device.tells ∙ s.tells;
            content = with_landed c;
            holds = gated c s.holds;
            old = s.old;
            told = s.told;
            from = s.from;
            gone = gone_more Land part.events s.from s.gone;
            front = omega (arith, s.front, file);
            placed =
                (λ i. s.placed i ++ kept i)
                ∙ sym (from_file-append s.from (placed_of before) (placed_of (offered_standing part.events)))
                ∙ ap (from_file s.from) (sym (placed_of-append before (offered_standing part.events)) ∙ ap placed_of (append_assoc s.old (landed_standing part.events) (offered_standing part.events)));
            pending = refl;
            order = ap is_audit_order all ∙ s.order;
            next = λ d there.
                subst (λ (l : List AuditRecord). IfSome (last_position d l) (λ last. last + 1 ≡ first_of part.firsts d + length (disc_made (trail_with_event part Land) rest d))) (sym all)
                (subst (λ (l : List AuditRecord). IfSome (last_position d (landed_in c ++ queue)) (λ last. last + 1 ≡ first_of part.firsts d + length l)) (sym (mine rest parts d)) (s.next d there));
          }

  -- a batch is offered
  pub offers : (batch rest : List AuditRecord) → queue ≡ batch ++ rest → 0 < length batch → offered part.events ≡ [] → next.phase ≡ Loaded → trail.file ≤ next.file
      → ((content : Content AuditRecord) → Holds kind audit_format trail content → batch_of content.pending ≡ [] → (IsTrue (kind.tells trail.device) → is_audit_order (landed_in content ++ batch) ≡ true)
      → (here : Content AuditRecord) × (here.placed ≡ content.placed) × Holds kind audit_format next (with_loaded batch here))
      → Belong kind premise after (trail_with_event part (Offer next.file batch)) next queue
  offers batch rest parts some none loaded file loads =
      record {
        writable = keeps.writable is.writable;
        phase = inr (inl loaded, not_none batch some);
        more = λ rolls. absurd (loaded_not_rolling (sym loaded ∙ rolls));
        file = omega arith;
        front = (rest, sym parts);
        valid = valid;
        own = is.own;
        positions = is.positions;
        made = made;
        told = is.told;
        purged = purged (Offer next.file batch) (λ below last e. cc) file (λ below were x le h. offer_back part.events next.file below batch were x (omega (arith, le, file)) h);
        stands = λ p. loaded_there (is.stands p);
      }
    where
      loaded_there : Stands kind trail part queue → Stands kind next (trail_with_event part (Offer next.file batch)) queue
      loaded_there s =
          let c = s.content in
          let order : is_audit_order (landed_in c ++ batch) ≡ true =
          each_follows-front audit_follows (landed_in c ++ batch) rest (ap is_audit_order (append_assoc (landed_in c) batch rest ∙ ap (λ (l : List AuditRecord). landed_in c ++ l) (sym parts)) ∙ s.order) in
          let put = loads c s.holds (batch_is s ∙ none) (λ told. order) in
          let here = put.0 in
          let all : records_in here.placed ++ queue ≡ landed_in c ++ queue = ap (λ (l : List (Placed AuditRecord)). records_in l ++ queue) put.1 in
          record {
            tells = keeps.device.tells ∙ s.tells;
            content = with_loaded batch here;
            holds = put.2;
            old = s.old;
            told = s.told;
            from = s.from;
            gone = gone_more (Offer next.file batch) part.events s.from s.gone;
            front = omega (arith, s.front, file);
            placed = put.1 ∙ s.placed;
            pending = ap (λ (n : ℕ). in_file n batch) (sym put.2.file) ∙ sym (placed_of-stand_in next.file batch);
            order = ap is_audit_order all ∙ s.order;
            next = λ d there. subst (λ (l : List AuditRecord). IfSome (last_position d l) (λ last. last + 1 ≡ first_of part.firsts d + length (disc_made part queue d))) (sym all) (s.next d there);
          }

  -- a call has failed: the trail has other things pending, and the same batch behind its gate
  fails : (by : By) → trail.file ≤ next.file → HasPhase next.phase (offered part.events) → (next.phase ≡ RollOffered → next.file < 4294967295)
      → ((s : Stands kind trail part queue) → (here : Content AuditRecord) × (here.placed ≡ s.content.placed) × (in_file here.file (batch_of here.pending) ≡ in_file s.content.file (batch_of s.content.pending)) × Holds kind audit_format next here)
      → Belong kind premise after (trail_with_event part (Failed by)) next queue
  fails by file phase rolls left =
      record {
        writable = keeps.writable is.writable;
        phase = phase;
        more = rolls;
        file = omega (arith, file, is.file);
        front = is.front;
        valid = valid;
        own = is.own;
        positions = is.positions;
        made = made;
        told = is.told;
        purged = purged (Failed by) (λ below last e. cc) file (λ below were x le h. h);
        stands = λ p. failed_there (is.stands p);
      }
    where
      failed_there : Stands kind trail part queue → Stands kind next (trail_with_event part (Failed by)) queue
      failed_there s =
          let l = left s in
          let all : records_in l.0.placed ++ queue ≡ landed_in s.content ++ queue = ap (λ (x : List (Placed AuditRecord)). records_in x ++ queue) l.1 in
          record {
            tells = keeps.device.tells ∙ s.tells;
            content = l.0;
            holds = l.3;
            old = s.old;
            told = s.told;
            from = s.from;
            gone = gone_more (Failed by) part.events s.from s.gone;
            front = omega (arith, s.front, file);
            placed = l.1 ∙ s.placed;
            pending = l.2 ∙ s.pending;
            order = ap is_audit_order all ∙ s.order;
            next = λ d there. subst (λ (x : List AuditRecord). IfSome (last_position d x) (λ last. last + 1 ≡ first_of part.firsts d + length (disc_made part queue d))) (sym all) (s.next d there);
          }

  -- the gate's write has failed, and what is offered is still offered
  pub not_landed : (by : By) → offered part.events ≢ [] → next.phase ≡ Offered → next.file ≡ trail.file
      → ((content : Content AuditRecord) → Holds kind audit_format trail content → Holds kind audit_format next (with_offered content))
      → Belong kind premise after (trail_with_event part (Failed by)) next queue
  not_landed by some phase file gated =
      fails by (omega (arith, file)) (inr (inr phase, some)) (λ rolls. absurd (offered_not_rolling (sym phase ∙ rolls))) (λ s. (with_offered s.content, refl, refl, gated s.content s.holds))

  -- a load or a roll has failed, and nothing is offered
  pub not_offered : (by : By) (batch rest : List AuditRecord) → queue ≡ batch ++ rest → offered part.events ≡ [] → (next.phase ≡ Ready) ⊎ (next.phase ≡ RollOffered) → (next.phase ≡ RollOffered → next.file < 4294967295) → trail.file ≤ next.file
      → ((content : Content AuditRecord) → Holds kind audit_format trail content → batch_of content.pending ≡ [] → (IsTrue (kind.tells trail.device) → is_audit_order (landed_in content ++ batch) ≡ true)
      → (here : Content AuditRecord) × (here.placed ≡ content.placed) × (batch_of here.pending ≡ []) × Holds kind audit_format next here)
      → Belong kind premise after (trail_with_event part (Failed by)) next queue
  not_offered by batch rest parts none phase rolls file loads =
      fails by file (inl (phase, none)) rolls (λ s.
      (let c = s.content in
      let order : is_audit_order (landed_in c ++ batch) ≡ true =
      each_follows-front audit_follows (landed_in c ++ batch) rest (ap is_audit_order (append_assoc (landed_in c) batch rest ∙ ap (λ (l : List AuditRecord). landed_in c ++ l) (sym parts)) ∙ s.order) in
      let empty : batch_of c.pending ≡ [] = batch_is s ∙ none in
      let put = loads c s.holds empty (λ told. order) in
      (put.0, put.1, ap (λ (l : List AuditRecord). in_file put.0.file l) put.2 ∙ ap (λ (l : List AuditRecord). in_file c.file l) (sym empty), put.3)))

-- who knows more has the same
pub learned : {D : Type 0} (kind : disk.Ghosts D) (premise : Type 0) (known after : Fact → Type 0) (part : TrailPart) (trail : View D) (queue : List AuditRecord) → ((f : Fact) → known f → after f)
    → Belong kind premise known part trail queue → Belong kind premise after part trail queue
learned kind premise known after part trail queue more is = record {
  writable = is.writable;
  phase = is.phase;
  more = is.more;
  file = is.file;
  front = is.front;
  valid = is.valid;
  own = is.own;
  positions = is.positions;
  made = λ d xs ys parts some. (let m = is.made d xs ys parts some in (m.0, more (Made d m.0 xs) m.1));
  told = is.told;
  purged = λ below last there. (let was = is.purged below last there in (was.0, asks_on known after part.old part.events part.events below more (λ were x h. h) was.1));
  stands = is.stands;
}

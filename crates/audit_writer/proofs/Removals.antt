-- What a reading of the trail, the event of a purge and the removal of files keep of a writer.
use Rattle.std.specs.Prelude.{ℕ, nat_le, cond, ◌<◌, ◌≤◌, ◌+◌, max, Bool, List, [], ◌∷◌, ◌++◌, length, slice_index, Option, Some, None, IsTrue, IfSome}
use Rattle.std.proofs.Common.{◌≡◌, ◌⊎◌, true, false, inl, inr, ⊎_elim, refl, ap, sym, ◌∙◌, subst, arith, append_assoc}
use Rattle.std.proofs.lemmas.Bool.{cases_lt, le-leb, lt-leb}
use Rattle.std.specs.List.{AllByRecursion}
use Rattle.disk_model.specs.declared.disk.Disk as disk
use Rattle.trail_files.specs.declared.audit_record.AuditRecord.{AuditRecord}
use Rattle.trail_files.specs.AuditRecord.{audit_format}
use Rattle.trail_files.specs.AuditOrder.{is_audit_order, last_position}
use Rattle.trail_files.specs.Content.{Placed, Content, in_file, from_file, below_file, records_in, batch_of, landed_in, without_below}
use Rattle.trail_files.specs.Format.{AllValid}
use Rattle.trail_files.specs.Holds.{Holds, Keeps}
use Rattle.trail_files.specs.Trail.{View}
use Rattle.trail_files.proofs.Placing.{records_in-append}
use Rattle.trail_files.proofs.AuditRests.{order_behind}
use Rattle.node_machine.specs.declared.event.By.{By}
use Rattle.node_machine.specs.declared.event.TrailEvent.{TrailEvent}
use Rattle.node_machine.specs.declared.event.TrailEvent.TheVariants.{Offer, Land, Purge, Failed}
use Rattle.node_machine.specs.Parts.{Standing, TrailPart, Fact}
use Rattle.node_machine.specs.Parts.Fact.{Made, Floor}
use Rattle.node_machine.specs.Trail.{offered, landed_standing, offered_standing, first_of, PurgeAsks}
use Rattle.node_machine.specs.Same.{Among}
use Rattle.node_machine.specs.SameLaws.{among_left, among_right}
use Rattle.node_machine.specs.Shows.{MayBeGone}
use Rattle.audit_writer.specs.Purge.{AreSpentBelow}
use Rattle.audit_writer.specs.Seat.{trail_with_event}
use Rattle.audit_writer.specs.Writer.{HasPhase, Stands, Belong, AreFloors, disc_made, placed_of}
use Rattle.audit_writer.proofs.Belongs.{gone_more, asks_on}

-- RECORDS WITH THEIR FILES

among_placed : (xs : List Standing) (x : Standing) → Among xs x → Among (placed_of xs) (x.file, x.item)
among_placed [] x there = absurd there
among_placed (y ∷ ys) x there = ⊎_elim (λ (same : y ≡ x). inl (ap (λ (z : Standing). (z.file, z.item)) same)) (λ (h : Among ys x). inr (among_placed ys x h)) there

among_from : (from : ℕ) (xs : List (Placed AuditRecord)) (x : Placed AuditRecord) → Among xs x → from ≤ x.0 → Among (from_file from xs) x
among_from from [] x there le = absurd there
among_from from (y ∷ ys) x there le = ⊎_elim
    (λ (same : y ≡ x). (let file = ap (λ (z : Placed AuditRecord). z.0) same in rw (le-leb from y.0 (omega (arith, file, le))) (inl same)))
    (λ (h : Among ys x). at (nat_le from y.0) (among_from from ys x h le))
    there
  where
    at : (b : Bool) → Among (from_file from ys) x → Among (cond b (y ∷ from_file from ys) (from_file from ys)) x
    at true h = inr h
    at false h = h

in_that_file : (file : ℕ) (rs : List AuditRecord) (x : Placed AuditRecord) → Among (in_file file rs) x → x.0 ≡ file
in_that_file file [] x there = absurd there
in_that_file file (r ∷ rs) x there = ⊎_elim (λ (same : (file, r) ≡ x). ap (λ (z : Placed AuditRecord). z.0) (sym same)) (λ (h : Among (in_file file rs) x). in_that_file file rs x h) there

-- all stand in files from 0 on
from_none : (xs : List (Placed AuditRecord)) → from_file 0 xs ≡ xs
from_none [] = refl
from_none (x ∷ xs) = rw (le-leb 0 x.0 (omega arith)) (ap (λ (l : List (Placed AuditRecord)). x ∷ l) (from_none xs))

from_twice : (a b : ℕ) (xs : List (Placed AuditRecord)) → from_file a (from_file b xs) ≡ from_file (max a b) xs
from_twice a b [] = refl
from_twice a b (x ∷ xs) = ⊎_elim
    (λ (lt : x.0 < b). rw (lt-leb b x.0 lt, lt-leb (max a b) x.0 (omega (arith, lt))) (from_twice a b xs))
    (λ (le : b ≤ x.0). ⊎_elim
    (λ (lt : x.0 < a). rw (le-leb b x.0 le, lt-leb a x.0 lt, lt-leb (max a b) x.0 (omega (arith, lt))) (from_twice a b xs))
    (λ (more : a ≤ x.0). rw (le-leb b x.0 le, le-leb a x.0 more, le-leb (max a b) x.0 (omega (arith, le, more))) (ap (λ (l : List (Placed AuditRecord)). x ∷ l) (from_twice a b xs)))
    (cases_lt x.0 a))
    (cases_lt x.0 b)

-- where all stand in files from a number on, none is below it
from_all : (file least top : ℕ) (xs : List (Placed AuditRecord)) → file ≤ least → AllByRecursion (λ (x : Placed AuditRecord). (least ≤ x.0) × (x.0 ≤ top)) xs → from_file file xs ≡ xs
from_all file least top [] le all = refl
from_all file least top (x ∷ xs) le all = (let low = all.0.0 in rw (le-leb file x.0 (omega (arith, le, low))) (ap (λ (l : List (Placed AuditRecord)). x ∷ l) (from_all file least top xs le all.1)))

-- no file below the number is there, so none goes
pub none_below : {D : Type 0} (kind : disk.Ghosts D) (trail : View D) (content : Content AuditRecord) (file : ℕ) → Holds kind audit_format trail content → file ≤ trail.least
    → AllByRecursion (λ (x : Placed AuditRecord). (content.least ≤ x.0) × (x.0 ≤ content.file)) content.placed → Holds kind audit_format trail (without_below trail.least file content)
none_below kind trail content file holds low within =
    let least : content.least ≡ trail.least = sym holds.least in
    let placed : content.placed ≡ from_file file content.placed = sym (from_all file content.least content.file content.placed (omega (arith, low, least)) within) in
    let same : content ≡ without_below trail.least file content = λ i. record { least = least i; file = content.file; placed = placed i; pending = content.pending; settled = content.settled } in
    subst (λ c. Holds kind audit_format trail c) same holds

-- nothing is gone
pub none_gone : {D : Type 0} (kind : disk.Ghosts D) (trail : View D) (content : Content AuditRecord) → Holds kind audit_format trail content → Holds kind audit_format trail (without_below trail.least 0 content)
none_gone kind trail content holds =
    let least : content.least ≡ trail.least = sym holds.least in
    let placed : content.placed ≡ from_file 0 content.placed = sym (from_none content.placed) in
    let same : content ≡ without_below trail.least 0 content = λ i. record { least = least i; file = content.file; placed = placed i; pending = content.pending; settled = content.settled } in
    subst (λ c. Holds kind audit_format trail c) same holds

last_there_too : (d : ℕ) (gone rest : List AuditRecord) (p : ℕ) → last_position d rest ≡ Some p → last_position d (gone ++ rest) ≡ Some p
last_there_too d [] rest p e = e
last_there_too d (g ∷ gone) rest p e = rw (last_there_too d gone rest p e) refl

last_of_rest : (d : ℕ) (gone rest : List AuditRecord) (says : ℕ → Type 0) → IfSome (last_position d (gone ++ rest)) says → IfSome (last_position d rest) says
last_of_rest d gone rest says h = at (last_position d rest) refl
  where
    at : (o : Option ℕ) → last_position d rest ≡ o → IfSome o says
    at None e = tt
    at (Some p) e = subst (λ (o : Option ℕ). IfSome o says) (last_there_too d gone rest p e) h

abbrev below_named : TrailEvent → ℕ
below_named (Purge below last) = below
below_named (Offer file records) = 0
below_named Land = 0
below_named (Failed by) = 0

module _ {D : Type 0} (kind : disk.Ghosts D) (premise : Type 0) (known : Fact → Type 0) (part : TrailPart) (trail : View D) (queue : List AuditRecord) (is : Belong kind premise known part trail queue) where
  -- the trail was read
  pub moved : (next : View D) → Keeps kind trail next → next.phase ≡ trail.phase → next.file ≡ trail.file → ((content : Content AuditRecord) → Holds kind audit_format trail content → Holds kind audit_format next content)
      → Belong kind premise known part next queue
  moved next keeps phase file holds = record {
    writable = keeps.writable is.writable;
    phase = subst (λ p. HasPhase p (offered part.events)) (sym phase) is.phase;
    more = λ rolls. (let few = is.more (sym phase ∙ rolls) in omega (arith, few, file));
    file = omega (arith, file, is.file);
    front = is.front;
    valid = subst (λ r. AllValid (audit_format r) queue) (sym keeps.rules) is.valid;
    own = is.own;
    positions = is.positions;
    made = is.made;
    told = is.told;
    purged = λ below last there. (let was = is.purged below last there in (omega (arith, was.0, file), was.1));
    stands = λ p. (let s = is.stands p in record {
      tells = keeps.device.tells ∙ s.tells;
      content = s.content;
      holds = holds s.content s.holds;
      old = s.old;
      told = s.told;
      from = s.from;
      gone = s.gone;
      front = omega (arith, s.front, file);
      placed = s.placed;
      pending = s.pending;
      order = s.order;
      next = s.next;
    });
  }

  -- a call has failed
  pub fell : (after : Fact → Type 0) (by : By) → ((f : Fact) → known f → after f) → Belong kind premise after (trail_with_event part (Failed by)) trail queue
  fell after by more = record {
    writable = is.writable;
    phase = is.phase;
    more = is.more;
    file = is.file;
    front = is.front;
    valid = is.valid;
    own = is.own;
    positions = is.positions;
    made = λ d xs ys parts some. (let m = is.made d xs ys parts some in (m.0, more (Made d m.0 xs) m.1));
    told = is.told;
    purged = λ below last there. ⊎_elim (λ (same : Failed by ≡ Purge below last). absurd cc)
        (λ (h : Among part.events (Purge below last)). (let was = is.purged below last h in (was.0, asks_on known after part.old part.events (Failed by ∷ part.events) below more (λ were x low. low) was.1))) there;
    stands = λ p. (let s = is.stands p in record {
      tells = s.tells;
      content = s.content;
      holds = s.holds;
      old = s.old;
      told = s.told;
      from = s.from;
      gone = gone_more (Failed by) part.events s.from s.gone;
      front = s.front;
      placed = s.placed;
      pending = s.pending;
      order = s.order;
      next = s.next;
    });
  }

  -- what a purge asks, where all records in the files that it names are spent
  pub asks : (bounds : List ℕ) (file : ℕ) → AreFloors known bounds → file ≤ trail.file → ((content : Content AuditRecord) → IsTrue (kind.tells trail.device) → Holds kind audit_format trail content → AreSpentBelow bounds content file)
      → PurgeAsks known part.old part.events file
  asks bounds file floors front spent = at part.old refl
    where
      has_floor : (s : Stands kind trail part queue) (x : Standing) → Among (s.old ++ landed_standing part.events) x → s.from ≤ x.file → x.file < file → (bound : ℕ) × known (Floor x.item.disc bound) × (x.item.position < bound)
      has_floor s x there ge low =
          let all = s.old ++ landed_standing part.events in
          let placed : Among s.content.placed (x.file, x.item) = subst (λ l. Among l (x.file, x.item)) (sym s.placed) (among_from s.from (placed_of all) (x.file, x.item) (among_placed all x there) ge) in
          let under = spent s.content s.tells s.holds (x.file, x.item) placed low in
          ⊎_elim (λ (none : slice_index bounds x.item.disc ≡ 0). absurd (omega (arith, none, under))) (λ (told : known (Floor x.item.disc (slice_index bounds x.item.disc))). (slice_index bounds x.item.disc, told, under)) (floors x.item.disc)

      not_offered : (s : Stands kind trail part queue) (x : Standing) → Among (offered_standing part.events) x → x.file < file → ⊥
      not_offered s x there low =
          let at = in_that_file s.content.file (batch_of s.content.pending) (x.file, x.item) (subst (λ l. Among l (x.file, x.item)) (sym s.pending) (among_placed (offered_standing part.events) x there)) in
          omega (arith, at, low, front, s.holds.file)

      at : (o : Option (List Standing)) → part.old ≡ o → PurgeAsks known o part.events file
      at None e = tt
      at (Some old) e = λ x there.
          let s = is.stands (is.told old e) in
          let same : old ≡ s.old = cc (s.told, e) in
          let low = there.1 in
          ⊎_elim
          (λ (lt : x.file < s.from). ⊎_elim
          (λ (none : s.from ≡ 0). absurd (omega (arith, none, lt)))
          (λ (p : (below last : ℕ) × Among part.events (Purge below last) × (s.from ≤ below)).
          (let was : PurgeAsks known (Some old) part.events p.0 = subst (λ o. PurgeAsks known o part.events p.0) e (is.purged p.0 p.1 p.2).1 in
          let far = p.3 in
          was x (there.0, omega (arith, lt, far))))
          s.gone)
          (λ (ge : s.from ≤ x.file). ⊎_elim
          (λ (o : Among old x). has_floor s x (among_left s.old (landed_standing part.events) x (subst (λ l. Among l x) same o)) ge low)
          (λ (r : Among (landed_standing part.events) x ⊎ Among (offered_standing part.events) x). ⊎_elim
          (λ (l : Among (landed_standing part.events) x). has_floor s x (among_right s.old (landed_standing part.events) x l) ge low)
          (λ (o : Among (offered_standing part.events) x). absurd (not_offered s x o low)) r)
          there.0)
          (cases_lt x.file s.from)

  -- a purge has named files
  pub named : (after : Fact → Type 0) (below last : ℕ) → ((f : Fact) → known f → after f) → below ≤ trail.file → last ≡ trail.file → PurgeAsks known part.old part.events below
      → Belong kind premise after (trail_with_event part (Purge below last)) trail queue
  named after below last more front present asked = record {
    writable = is.writable;
    phase = is.phase;
    more = is.more;
    file = omega (arith, present);
    front = is.front;
    valid = is.valid;
    own = is.own;
    positions = is.positions;
    made = λ d xs ys parts some. (let m = is.made d xs ys parts some in (m.0, more (Made d m.0 xs) m.1));
    told = is.told;
    purged = λ b l there. ⊎_elim
        (λ (same : Purge below last ≡ Purge b l). subst (λ (n : ℕ). (n ≤ trail.file) × PurgeAsks after part.old (Purge below last ∷ part.events) n) (ap below_named same) (front, asks_on known after part.old part.events (Purge below last ∷ part.events) below more (λ were x low. low) asked))
        (λ (h : Among part.events (Purge b l)). (let was = is.purged b l h in (was.0, asks_on known after part.old part.events (Purge below last ∷ part.events) b more (λ were x low. low) was.1)))
        there;
    stands = λ p. (let s = is.stands p in record {
      tells = s.tells;
      content = s.content;
      holds = s.holds;
      old = s.old;
      told = s.told;
      from = s.from;
      gone = gone_more (Purge below last) part.events s.from s.gone;
      front = s.front;
      placed = s.placed;
      pending = s.pending;
      order = s.order;
      next = s.next;
    });
  }

  -- files that a purge has named are gone, or some of them are
  pub dropped : (next : View D) (below last : ℕ) → Among part.events (Purge below last) → Keeps kind trail next → next.phase ≡ trail.phase → next.file ≡ trail.file
      → ((content : Content AuditRecord) (file : ℕ) → Holds kind audit_format trail content → IsTrue (kind.tells trail.device) → content.placed ≡ below_file file content.placed ++ from_file file content.placed)
      → ((content : Content AuditRecord) → Holds kind audit_format trail content → (from : ℕ) × (from ≤ below) × Holds kind audit_format next (without_below next.least from content))
      → Belong kind premise known part next queue
  dropped next below last there keeps phase file split left = record {
    writable = keeps.writable is.writable;
    phase = subst (λ p. HasPhase p (offered part.events)) (sym phase) is.phase;
    more = λ rolls. (let few = is.more (sym phase ∙ rolls) in omega (arith, few, file));
    file = omega (arith, file, is.file);
    front = is.front;
    valid = subst (λ r. AllValid (audit_format r) queue) (sym keeps.rules) is.valid;
    own = is.own;
    positions = is.positions;
    made = is.made;
    told = is.told;
    purged = λ b l named_there. (let was = is.purged b l named_there in (omega (arith, was.0, file), was.1));
    stands = λ p. still (is.stands p);
  }
    where
      still : Stands kind trail part queue → Stands kind next part queue
      still s =
          let c = s.content in
          let r = left c s.holds in
          let from = r.0 in
          let far = r.1 in
          let low = (is.purged below last there).0 in
          let gone = records_in (below_file from c.placed) in
          let kept = records_in (from_file from c.placed) in
          let parts : landed_in c ++ queue ≡ gone ++ (kept ++ queue) =
          ap (λ (l : List (Placed AuditRecord)). records_in l ++ queue) (split c from s.holds s.tells)
          ∙ ap (λ (l : List AuditRecord). l ++ queue) (records_in-append (below_file from c.placed) (from_file from c.placed))
          ∙ append_assoc gone kept queue in
          let most : MayBeGone part.events (max from s.from) = ⊎_elim
          (λ (lt : from < s.from). (let same : s.from ≡ max from s.from = omega (arith, lt) in subst (λ (n : ℕ). MayBeGone part.events n) same s.gone))
          (λ (le : s.from ≤ from). inr (below, last, there, omega (arith, le, far)))
          (cases_lt from s.from) in
          record {
            tells = keeps.device.tells ∙ s.tells;
            content = without_below next.least from c;
            holds = r.2;
            old = s.old;
            told = s.told;
            from = max from s.from;
            gone = most;
            front = omega (arith, s.front, file, far, low);
            placed = ap (from_file from) s.placed ∙ from_twice from s.from (placed_of (s.old ++ landed_standing part.events));
            pending = s.pending;
            order = order_behind gone (kept ++ queue) (ap is_audit_order (sym parts) ∙ s.order);
            next = λ d here. last_of_rest d gone (kept ++ queue) (λ last. last + 1 ≡ first_of part.firsts d + length (disc_made part queue d))
                (subst (λ (l : List AuditRecord). IfSome (last_position d l) (λ last. last + 1 ≡ first_of part.firsts d + length (disc_made part queue d))) parts (s.next d here));
          }

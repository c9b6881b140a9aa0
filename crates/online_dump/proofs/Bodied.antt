-- The bodies of a dump device behind each event and each call.
use Rattle.std.specs.Prelude.{IfSome}
use Rattle.std.specs.Option.{option_or}
use Rattle.std.proofs.lemmas.Bool.{ne_eqb}
use Rattle.std.proofs.Common.{◌≡◌, ◌≢◌, ℕ, ◌+◌, ◌*◌, true, List, [], ◌∷◌, ◌++◌, length, Option, Some, None, inl, refl, ap, sym, ◌∙◌, subst, arith}
use Rattle.disk_model.specs.Held.{Held, IsThere}
use Rattle.tmf_model.specs.RecordMap.{RecordMap}
use Rattle.keyed_file.specs.Volume.{Contents, IsContent}
use Rattle.node_machine.specs.declared.event.DumpEvent.{DumpEvent}
use Rattle.node_machine.specs.declared.event.DumpEvent.TheVariants.{Copy, Seal, Sealed}
use Rattle.node_machine.specs.Dump.{IsBlockOf, copied, ends, landed_here, offered_label, seals}
use Rattle.node_machine.specs.Parts.{DumpPart, DumpStart, Fact}
use Rattle.node_machine.specs.Same.{Among}
use Rattle.keyed_file.specs.Block.{KeyedBlock}
use Rattle.keyed_file.specs.BlockFormat.{block_text}
use Rattle.keyed_file.specs.Dump.{blocks_in_all}
use Rattle.keyed_file.specs.declared.block.TheConstants.{BLOCK_BYTES}
use Rattle.keyed_file.specs.declared.dump_label.DumpLabel.{DumpLabel}
use Rattle.trail_files.specs.declared.audit_record.AuditRecord.{AuditRecord}
use Rattle.node_machine.specs.Made.{blocks_of}
use Rattle.node_machine.specs.Parts.Fact.{Made}
use Rattle.online_dump.specs.Body.{IsWholeBody}
use Rattle.online_dump.specs.Copies.{HasBodies, HasBody, HasFront, IsContentBehind, files_of, place_of}
use Rattle.online_dump.specs.Dumper.{IsCopying}
use Rattle.online_dump.specs.Filling.{HoldsBody, IsDumpFile, next_body}
use Rattle.online_dump.specs.Found.{DumpView, IsSealed}
use Rattle.online_dump.specs.Seat.{dump_with_event}
use Rattle.online_dump.specs.declared.copying.Copying.{Copying}
use Rattle.online_dump.specs.declared.sealed.SealedDump.{SealedDump}
use Rattle.online_dump.proofs.Copied.{body_whole, contents_with, copies_none, copies_on, copies_put, copies_same, front_put}

module _ {D : Type 0} (held : D → Held) (known after : Fact → Type 0) (more : (f : Fact) → known f → after f) (part : DumpPart) (base : RecordMap) (file next : DumpView D) where
  -- a body that is left alone, where more is known
  pub body_same : (number body : ℕ) → held next.device body ≡ held file.device body → HasBody held known part base file number body → HasBody held after part base next number body
  body_same number body kept is = record {
    contents = is.contents;
    copies = copies_same known after more part base number is.contents is.copies;
    spelled = (is.spelled.0, kept ∙ is.spelled.1, is.spelled.2);
  }

  -- the same behind an event that copies nothing of its dump
  pub body_on : (e : DumpEvent) (number body : ℕ) → ((f b : ℕ) → copied (dump_with_event part e).events number f b ≡ copied part.events number f b) → held next.device body ≡ held file.device body
      → HasBody held known part base file number body → HasBody held after (dump_with_event part e) base next number body
  body_on e number body same kept is = record {
    contents = is.contents;
    copies = copies_on known after more part base number is.contents e same is.copies;
    spelled = (is.spelled.0, kept ∙ is.spelled.1, is.spelled.2);
  }

-- the body of the dump that stands is another file than the label's, and than the next body
pub apart_label : {D : Type 0} (view : DumpView D) → IsDumpFile view → (dump : SealedDump) → view.found ≡ Some dump → dump.label.body ≢ 1
apart_label view is dump at same =
    let sealed : IsSealed view.volume dump = subst (λ (o : Option SealedDump). IfSome o (IsSealed view.volume)) at is.found in
    let low = sealed.label.body.above in
    absurd (omega (arith, low, same))

pub apart_next : {D : Type 0} (view : DumpView D) → IsDumpFile view → (dump : SealedDump) → view.found ≡ Some dump → dump.label.body ≢ next_body view.found
apart_next view is dump at same = is.other dump at (sym same)

if_some : {A : Type 0} {P Q : A → Type 0} (o : Option A) → ((x : A) → o ≡ Some x → P x → Q x) → IfSome o P → IfSome o Q
if_some None f h = tt
if_some (Some x) f h = f x refl h

-- of no dump in a number other than that of the copy anything changes
pub copied_of : (events : List DumpEvent) (i file block position number : ℕ) → number ≢ i → (f b : ℕ) → copied (Copy i file block position ∷ events) number f b ≡ copied events number f b
copied_of events i file block position number other f b = rw (ne_eqb number i other) refl

module _ {D : Type 0} {first : Held} (held : D → Held) (known after : Fact → Type 0) (more : (f : Fact) → known f → after f) (part : DumpPart) (base : RecordMap) (file next : DumpView D) (current : Option Copying) (is : HasBodies held known part base file first current)
    (found : next.found ≡ file.found) (stands : (dump : SealedDump) → file.found ≡ Some dump → held next.device dump.label.body ≡ held file.device dump.label.body) where
  -- the body that is named by the label that stands, behind an event
  landed_on : (e : DumpEvent) → ((label : DumpStart) → landed_here part.events ≡ Some label → (f b : ℕ) → copied (dump_with_event part e).events label.number f b ≡ copied part.events label.number f b)
      → (label : DumpStart) → landed_here part.events ≡ Some label → IfSome next.found (λ dump. HasBody held after (dump_with_event part e) base next label.number dump.label.body)
  landed_on e same label at = subst (λ (o : Option SealedDump). IfSome o (λ dump. HasBody held after (dump_with_event part e) base next label.number dump.label.body)) (sym found)
      (if_some file.found (λ dump there h. body_on held known after more part base file next e label.number dump.label.body (same label at) (stands dump there) h) (is.landed label at))

  -- the body of the dump that was found is as it was
  still_opened : landed_here part.events ≡ None → (dump : SealedDump) → next.found ≡ Some dump → held next.device dump.label.body ≡ first dump.label.body
  still_opened none dump at = (let was = sym found ∙ at in stands dump was ∙ is.opened none dump was)

  -- an event that is no copy, no seal and no end of one that is whole
  pub bodies_on : (e : DumpEvent) → next.next ≡ file.next → landed_here (dump_with_event part e).events ≡ landed_here part.events → offered_label (dump_with_event part e).events ≡ offered_label part.events
      → ((number f b : ℕ) → copied (dump_with_event part e).events number f b ≡ copied part.events number f b) → ((x : ℕ × ℕ) → Among (ends part.events) x → Among (ends (dump_with_event part e).events) x)
      → ((label : DumpStart) → offered_label part.events ≡ Some label → held next.device (next_body file.found) ≡ held file.device (next_body file.found))
      → (now : Option Copying) → IfSome now (λ c. IfSome next.filled (HasFront held after (dump_with_event part e) base next c.number)) → HasBodies held after (dump_with_event part e) base next first now
  bodies_on e label_same landed_same offered_same same ends_more kept now way = record {
    landed = λ label at. landed_on e (λ l l_at. same l.number) label (sym landed_same ∙ at);
    opened = λ none dump at. still_opened (sym landed_same ∙ none) dump at;
    over = λ label at. (let o = is.over label (sym landed_same ∙ at) in (o.0, ends_more (label.number, o.0) o.1));
    offered = λ label at.
        (let was = sym offered_same ∙ at in
        subst (λ (o : Option SealedDump). HasBody held after (dump_with_event part e) base next label.number (next_body o)) (sym found)
        (body_on held known after more part base file next e label.number (next_body file.found) (same label.number) (kept label was) (is.offered label was)));
    named = λ label at. is.named label (sym label_same ∙ at) ∙ ap next_body (sym found);
    under_way = way;
  }

  -- a block is copied for a dump that is not over, while no label is offered
  pub bodies_copied : (c : Copying) (f b position : ℕ) → next.next ≡ file.next → ((count : ℕ) → Among (ends part.events) (c.number, count) → ⊥) → offered_label part.events ≡ None
      → (now : Option Copying) → IfSome now (λ x. IfSome next.filled (HasFront held after (dump_with_event part (Copy c.number f b position)) base next x.number)) → HasBodies held after (dump_with_event part (Copy c.number f b position)) base next first now
  bodies_copied c f b position label_same ongoing none now way = record {
    landed = λ label at. landed_on (Copy c.number f b position) (λ l l_at. copied_of part.events c.number f b position l.number (λ same. (let o = is.over l l_at in ongoing o.0 (subst (λ (n : ℕ). Among (ends part.events) (n, o.0)) same o.1)))) label at;
    opened = λ none dump at. still_opened none dump at;
    over = is.over;
    offered = λ label at. absurd (cc (sym none ∙ at));
    named = λ label at. is.named label (sym label_same ∙ at) ∙ ap next_body (sym found);
    under_way = way;
  }

  -- the label is offered of a dump whose body is whole
  pub bodies_offered : (number start : ℕ) → ((label : DumpLabel) → next.next ≡ Some label → label.body ≡ next_body file.found) → HasBody held after (dump_with_event part (Seal number start)) base next number (next_body file.found) → next.filled ≡ None → (now : Option Copying) → HasBodies held after (dump_with_event part (Seal number start)) base next first now
  bodies_offered number start named body unfilled now = record {
    landed = λ label at. landed_on (Seal number start) (λ l l_at f b. refl) label at;
    opened = λ none dump at. still_opened none dump at;
    over = is.over;
    offered = λ label at. (let one : record { number = number; start = start } ≡ label = cc (at) in
        subst (λ (n : ℕ). HasBody held after (dump_with_event part (Seal number start)) base next n (next_body next.found)) (ap (λ (l : DumpStart). l.number) one)
        (subst (λ (o : Option SealedDump). HasBody held after (dump_with_event part (Seal number start)) base next number (next_body o)) (sym found) body));
    named = λ label at. named label at ∙ ap next_body (sym found);
    under_way = unfilled_way now next.filled unfilled;
  }
    where
      unfilled_way : (now : Option Copying) (filled : Option ℕ) → filled ≡ None → IfSome now (λ c. IfSome filled (HasFront held after (dump_with_event part (Seal number start)) base next c.number))
      unfilled_way None filled e = tt
      unfilled_way (Some c) filled e = subst (λ (o : Option ℕ). IfSome o (HasFront held after (dump_with_event part (Seal number start)) base next c.number)) (sym e) tt

  -- nothing has happened at the part
  pub bodies_same : next.next ≡ file.next → ((label : DumpStart) → offered_label part.events ≡ Some label → held next.device (next_body file.found) ≡ held file.device (next_body file.found))
      → (now : Option Copying) → IfSome now (λ c. IfSome next.filled (HasFront held after part base next c.number)) → HasBodies held after part base next first now
  bodies_same label_same kept now way = record {
    landed = λ label at. subst (λ (o : Option SealedDump). IfSome o (λ dump. HasBody held after part base next label.number dump.label.body)) (sym found)
        (if_some file.found (λ dump there h. body_same held known after more part base file next label.number dump.label.body (stands dump there) h) (is.landed label at));
    opened = λ none dump at. still_opened none dump at;
    over = is.over;
    offered = λ label at. subst (λ (o : Option SealedDump). HasBody held after part base next label.number (next_body o)) (sym found)
        (body_same held known after more part base file next label.number (next_body file.found) (kept label at) (is.offered label at));
    named = λ label at. is.named label (sym label_same ∙ at) ∙ ap next_body (sym found);
    under_way = way;
  }

-- the label that was offered stands: its body is the one that is named now
pub bodies_sealed : {D : Type 0} {first : Held} (held : D → Held) (known after : Fact → Type 0) (more : (f : Fact) → known f → after f) (part : DumpPart) (base : RecordMap) (file next : DumpView D) (current : Option Copying) (is : HasBodies held known part base file first current)
    (number : ℕ) (label : DumpStart) (dump : SealedDump) → offered_label part.events ≡ Some label → label.number ≡ number → next.found ≡ Some dump → dump.label.body ≡ next_body file.found → held next.device (next_body file.found) ≡ held file.device (next_body file.found)
    → next.next ≡ None → HasBodies held after (dump_with_event part (Sealed number true)) base next first None
bodies_sealed {D} {first} held known after more part base file next current is number label dump offered same found body kept none = record {
  landed = λ l at.
      (let one : label ≡ l = cc (now ∙ at) in
      subst (λ (o : Option SealedDump). IfSome o (λ d. HasBody held after part_now base next l.number d.label.body)) (sym found)
      (subst (λ (n : ℕ). HasBody held after part_now base next l.number n) (sym body)
      (subst (λ (x : DumpStart). HasBody held after part_now base next x.number (next_body file.found)) one
      (body_on held known after more part base file next (Sealed number true) label.number (next_body file.found) (λ f b. refl) kept (is.offered label offered)))));
  opened = λ none d at. absurd (cc (now ∙ none));
  over = λ l at. (let one : label ≡ l = cc (now ∙ at) in (seals part.events, inl (ap (λ (n : ℕ). (n, seals part.events)) (sym same ∙ ap (λ (x : DumpStart). x.number) one))));
  offered = λ l at. absurd (cc (at));
  named = λ l at. absurd (cc (sym none ∙ at));
  under_way = tt;
}
  where
    part_now : DumpPart
    part_now = dump_with_event part (Sealed number true)

    -- what stands now
    now : Some label ≡ landed_here part_now.events
    now = ap (λ (o : Option DumpStart). option_or o (landed_here part.events)) (sym offered)

-- THE BODY THAT IS BEING WRITTEN

pub front_same : {D : Type 0} (held : D → Held) (known after : Fact → Type 0) (more : (f : Fact) → known f → after f) (part : DumpPart) (base : RecordMap) (file : DumpView D) (number blocks : ℕ) → HasFront held known part base file number blocks → HasFront held after part base file number blocks
front_same held known after more part base file number blocks front = record { contents = front.contents; copies = copies_same known after more part base number front.contents front.copies; text = front.text; body = front.body; spelled = front.spelled }

pub way_same : {D : Type 0} (held : D → Held) (known after : Fact → Type 0) (more : (f : Fact) → known f → after f) (part : DumpPart) (base : RecordMap) (file : DumpView D) (current : Option Copying) (filled : Option ℕ) → IfSome current (λ c. IfSome filled (HasFront held known part base file c.number))
    → IfSome current (λ c. IfSome filled (HasFront held after part base file c.number))
way_same held known after more part base file None filled h = tt
way_same held known after more part base file (Some c) None h = tt
way_same held known after more part base file (Some c) (Some blocks) h = front_same held known after more part base file c.number blocks h

-- where the body takes no block, nothing is asked of it
pub no_way : {D : Type 0} (held : D → Held) (known : Fact → Type 0) (part : DumpPart) (base : RecordMap) (file : DumpView D) (current : Option Copying) (filled : Option ℕ) → filled ≡ None → IfSome current (λ c. IfSome filled (HasFront held known part base file c.number))
no_way held known part base file None filled none = tt
no_way held known part base file (Some c) filled none = subst (λ (o : Option ℕ). IfSome o (HasFront held known part base file c.number)) (sym none) tt

-- while a label is offered the body takes none
pub no_way_offered : {D : Type 0} (held : D → Held) (known after : Fact → Type 0) (part now : DumpPart) (base : RecordMap) (file : DumpView D) (current : Option Copying) (filled : Option ℕ) (label : DumpStart) → offered_label part.events ≡ Some label → IfSome current (IsCopying known part filled)
    → IfSome current (λ c. IfSome filled (HasFront held after now base file c.number))
no_way_offered held known after part now base file None filled label offered is = tt
no_way_offered held known after part now base file (Some c) None label offered is = tt
no_way_offered held known after part now base file (Some c) (Some blocks) label offered is = (let none = is.are.certain in absurd (cc (none, offered)))

-- what was known is known
pub bodies_known : {D : Type 0} {first : Held} (held : D → Held) (known after : Fact → Type 0) (more : (f : Fact) → known f → after f) (part : DumpPart) (base : RecordMap) (file : DumpView D) (current : Option Copying) → HasBodies held known part base file first current → HasBodies held after part base file first current
bodies_known held known after more part base file current is =
    bodies_same held known after more part base file file current is refl (λ dump at. refl) refl (λ label at. refl) current (way_same held known after more part base file current file.filled is.under_way)

no_contents : Contents
no_contents = λ f b. record { file = f; number = b; position = 0; records = [] }

pub front_begun : {D : Type 0} (held : D → Held) (known : Fact → Type 0) (part : DumpPart) (base : RecordMap) (next : DumpView D) (number : ℕ) → ((f b : ℕ) → copied part.events number f b ≡ None) → HoldsBody held next [] → HasFront held known part base next number 0
front_begun held known part base next number none body = record {
  contents = no_contents;
  copies = copies_none known part base number no_contents none;
  text = [];
  body = body;
  spelled = λ f b here lt. absurd (omega (arith, lt));
}

-- how long the body is
pub body_long : {D : Type 0} (held : D → Held) (view : DumpView D) (text : List ℕ) (blocks : ℕ) → HoldsBody held view text → view.filled ≡ Some blocks → length text ≡ blocks * BLOCK_BYTES
body_long held view text blocks body filled =
    let same : body.0 ≡ blocks = cc (sym body.1 ∙ filled) in
    body.2.2.long ∙ ap (λ (n : ℕ). n * BLOCK_BYTES) same

pub front_more : {D : Type 0} (held : D → Held) (known after : Fact → Type 0) (more : (f : Fact) → known f → after f) (part : DumpPart) (base : RecordMap) (file next : DumpView D) (number f b position : ℕ) (content : KeyedBlock) (records : List AuditRecord)
    → (front : HasFront held known part base file number (place_of part f b)) → file.filled ≡ Some (place_of part f b) → HoldsBody held next (front.text ++ block_text content)
    → IsBlockOf part f b → IsContent f (blocks_of part.config f) b content → known (Made part.number position records) → IsContentBehind part.config base records f b content
    → HasFront held after (dump_with_event part (Copy number f b position)) base next number (place_of part f b + 1)
front_more held known after more part base file next number f b position content records front filled body here fits made values = record {
  contents = contents_with front.contents f b content;
  copies = copies_put known after more part base number front.contents f b position content records here made values front.copies;
  text = front.text ++ block_text content;
  body = body;
  spelled = front_put part front.contents number f b position content front.text (body_long held file front.text (place_of part f b) front.body filled) here fits front.spelled;
}

-- the body of all blocks is finished, and then left alone
pub body_of_front : {D : Type 0} (held : D → Held) (known : Fact → Type 0) (part : DumpPart) (base : RecordMap) (file next : DumpView D) (number : ℕ) (front : HasFront held known part base file number (blocks_in_all (files_of part))) → file.filled ≡ Some (blocks_in_all (files_of part))
    → IsThere (held next.device) (next_body file.found) (IsWholeBody front.text) → HasBody held known part base next number (next_body file.found)
body_of_front held known part base file next number front filled whole = record {
  contents = front.contents;
  copies = front.copies;
  spelled = (whole.0, whole.1, body_whole part front.contents front.text whole.0 (body_long held file front.text (blocks_in_all (files_of part)) front.body filled) front.spelled whole.2);
}

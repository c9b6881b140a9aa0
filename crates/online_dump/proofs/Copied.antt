-- The copies of a dump and its body, block by block.
use Rattle.std.specs.Prelude.{if◌then◌else◌}
use Rattle.std.proofs.Common.{◌≡◌, ◌≢◌, ℕ, ◌+◌, ◌*◌, ◌<◌, ◌≤◌, true, false, List, ◌∷◌, ◌++◌, length, take, drop, Some, None, ⊎_elim, refl, ap, sym, ◌∙◌, subst, arith, eq-eqb, length-drop}
use Rattle.disk_model.specs.Held.{File}
use Rattle.tmf_model.specs.RecordMap.{RecordMap}
use Rattle.trail_files.specs.Landed.{IsSettled}
use Rattle.trail_files.specs.declared.audit_record.AuditRecord.{AuditRecord}
use Rattle.keyed_file.specs.Block.{KeyedBlock}
use Rattle.keyed_file.specs.BlockFormat.{block_text}
use Rattle.keyed_file.specs.Dump.{SpellsBody, blocks_in_all}
use Rattle.keyed_file.specs.Layout.{IsSpelledAt}
use Rattle.keyed_file.specs.Volume.{Contents, IsContent}
use Rattle.keyed_file.specs.declared.block.TheConstants.{BLOCK_BYTES}
use Rattle.node_machine.specs.declared.event.DumpEvent.{DumpEvent}
use Rattle.node_machine.specs.declared.event.DumpEvent.TheVariants.{Copy}
use Rattle.node_machine.specs.Dump.{IsBlockOf, copied}
use Rattle.node_machine.specs.Made.{blocks_of}
use Rattle.node_machine.specs.Parts.{DumpPart, Fact}
use Rattle.node_machine.specs.Parts.Fact.{Made}
use Rattle.node_machine.specs.Same.{is_same_block}
use Rattle.keyed_file.proofs.Prefixes.{length-block_text}
use Rattle.online_dump.specs.Body.{IsWholeBody}
use Rattle.online_dump.specs.Copies.{AreCopies, IsContentBehind, SpellsFront, files_of, place_of}
use Rattle.online_dump.specs.Seat.{dump_with_event}
use Rattle.std.proofs.lemmas.Bool.{cases_eq}
use Rattle.std.proofs.lemmas.List.{drop-append-le, drop_at, take-append-le, take_all}
use Rattle.online_dump.proofs.Dumped.{cases_block, copied_at, copied_other, same_block}
use Rattle.online_dump.proofs.Places.{blocks_there, place_within, same_place, there_block}

-- THE COPIES

block_on : (part : DumpPart) (e : DumpEvent) (f b : ℕ) → IsBlockOf part f b → IsBlockOf (dump_with_event part e) f b
block_on part e f b h = record { here = h.here; within = h.within }

module _ (known after : Fact → Type 0) (more : (f : Fact) → known f → after f) (part : DumpPart) (base : RecordMap) (number : ℕ) (contents : Contents) where
  -- the same, where more is known
  pub copies_same : AreCopies known part base number contents → AreCopies after part base number contents
  copies_same are = λ f b p is. (let c = are f b p is in (c.0, (c.1.0, more (Made part.number p c.1.0) c.1.1, c.1.2)))

  -- behind an event that copies nothing of the dump
  pub copies_on : (e : DumpEvent) → ((f b : ℕ) → copied (dump_with_event part e).events number f b ≡ copied part.events number f b) → AreCopies known part base number contents → AreCopies after (dump_with_event part e) base number contents
  copies_on e same are = λ f b p is. (let c = are f b p (sym (same f b) ∙ is) in (block_on part e f b c.0, (c.1.0, more (Made part.number p c.1.0) c.1.1, c.1.2)))

-- nothing is copied for a new dump
pub copies_none : (known : Fact → Type 0) (part : DumpPart) (base : RecordMap) (number : ℕ) (contents : Contents) → ((f b : ℕ) → copied part.events number f b ≡ None) → AreCopies known part base number contents
copies_none known part base number contents none = λ f b p is. absurd (cc (sym (none f b) ∙ is))

-- these contents, with one block changed
abbrev pub contents_with : Contents → ℕ → ℕ → KeyedBlock → Contents
contents_with contents file block content = λ f b. if is_same_block f b file block then content else contents f b

with_here : (contents : Contents) (file block : ℕ) (content : KeyedBlock) → contents_with contents file block content file block ≡ content
with_here contents file block content = rw (eq-eqb file file refl, eq-eqb block block refl) refl

with_other : (contents : Contents) (file block : ℕ) (content : KeyedBlock) (f b : ℕ) → is_same_block f b file block ≡ false → contents_with contents file block content f b ≡ contents f b
with_other contents file block content f b other = rw other refl

-- a block more is copied
pub copies_put : (known after : Fact → Type 0) (more : (f : Fact) → known f → after f) (part : DumpPart) (base : RecordMap) (number : ℕ) (contents : Contents) (file block position : ℕ) (content : KeyedBlock) (records : List AuditRecord)
    → IsBlockOf part file block → known (Made part.number position records) → IsContentBehind part.config base records file block content → AreCopies known part base number contents
    → AreCopies after (dump_with_event part (Copy number file block position)) base number (contents_with contents file block content)
copies_put known after more part base number contents file block position content records here made is are = λ f b p copied_is. ⊎_elim
    (λ (same : (f ≡ file) × (b ≡ block)).
    (let one : Some p ≡ Some position = sym copied_is ∙ (λ i. copied (Copy number file block position ∷ part.events) number (same.0 i) (same.1 i)) ∙ copied_at part.events number file block position in
    let at : position ≡ p = cc (one) in
    let here_is : contents_with contents file block content f b ≡ content = (λ i. contents_with contents file block content (same.0 i) (same.1 i)) ∙ with_here contents file block content in (
      block_on part (Copy number file block position) f b (subst (λ (n : ℕ). IsBlockOf part n b) (sym same.0) (subst (λ (n : ℕ). IsBlockOf part file n) (sym same.1) here)),
      (
        records,
        more (Made part.number p records) (subst (λ (n : ℕ). known (Made part.number n records)) at made),
        subst (λ (x : KeyedBlock). IsContentBehind part.config base records f b x) (sym here_is)
            (subst (λ (n : ℕ). IsContentBehind part.config base records n b content) (sym same.0) (subst (λ (n : ℕ). IsContentBehind part.config base records file n content) (sym same.1) is)),
      ),
    )))
    (λ (other : is_same_block f b file block ≡ false).
    (let c = are f b p (sym (copied_other part.events number file block position f b other) ∙ copied_is) in (
      block_on part (Copy number file block position) f b c.0,
      (c.1.0, more (Made part.number p c.1.0) c.1.1, subst (λ (x : KeyedBlock). IsContentBehind part.config base c.1.0 f b x) (sym (with_other contents file block content f b other)) c.1.2),
    )))
    (cases_block f b file block)

-- THE BODY

-- what stands in the front of a text stands in the longer one
spelled_more : (text rest part : List ℕ) (at : ℕ) → at + length part ≤ length text → IsSpelledAt text at part → IsSpelledAt (text ++ rest) at part
spelled_more text rest part at within is =
    ap (λ (l : List ℕ). take (length part) l) (drop-append-le at text rest (omega (arith, within)))
    ∙ take-append-le (length part) (drop at text) rest (let many = length-drop at text in omega (arith, many, within))
    ∙ is

-- and what is put behind it stands at its end
spelled_last : (text part : List ℕ) (at : ℕ) → length text ≡ at → IsSpelledAt (text ++ part) at part
spelled_last text part at is = ap (λ (l : List ℕ). take (length part) l) (drop_at text part at is) ∙ take_all (length part) part (omega arith)

-- the block of the next place is put
pub front_put : (part : DumpPart) (contents : Contents) (number file block position : ℕ) (content : KeyedBlock) (text : List ℕ) → length text ≡ place_of part file block * BLOCK_BYTES
    → IsBlockOf part file block → IsContent file (blocks_of part.config file) block content → SpellsFront part contents (place_of part file block) text
    → SpellsFront (dump_with_event part (Copy number file block position)) (contents_with contents file block content) (place_of part file block + 1) (text ++ block_text content)
front_put part contents number file block position content text long here fits is = λ f b there lt. ⊎_elim
    (λ (same : (f ≡ file) × (b ≡ block)).
    (let here_is : contents_with contents file block content f b ≡ content = (λ i. contents_with contents file block content (same.0 i) (same.1 i)) ∙ with_here contents file block content in
    let at : place_of part f b ≡ place_of part file block = (λ i. place_of part (same.0 i) (same.1 i)) in (
      subst (λ (x : KeyedBlock). IsContent f (blocks_of part.config f) b x) (sym here_is)
          (subst (λ (n : ℕ). IsContent n (blocks_of part.config n) b content) (sym same.0) (subst (λ (n : ℕ). IsContent file (blocks_of part.config file) n content) (sym same.1) fits)),
      subst (λ (x : KeyedBlock). IsSpelledAt (text ++ block_text content) (place_of part f b * BLOCK_BYTES) (block_text x)) (sym here_is)
          (spelled_last text (block_text content) (place_of part f b * BLOCK_BYTES) (long ∙ ap (λ (n : ℕ). n * BLOCK_BYTES) (sym at))),
    )))
    (λ (other : is_same_block f b file block ≡ false).
    (let was = same_block part (Copy number file block position) f b there in
    let early : place_of part f b < place_of part file block = earlier f b was lt other in
    let c = is f b was early in
    let many = length-block_text (contents f b) c.0.valid in
    let old = with_other contents file block content f b other in (
      subst (λ (x : KeyedBlock). IsContent f (blocks_of part.config f) b x) (sym old) c.0,
      subst (λ (x : KeyedBlock). IsSpelledAt (text ++ block_text content) (place_of part f b * BLOCK_BYTES) (block_text x)) (sym old)
          (spelled_more text (block_text content) (block_text (contents f b)) (place_of part f b * BLOCK_BYTES) (omega (arith, early, long, many)) c.1),
    )))
    (cases_block f b file block)
  where
    earlier : (f b : ℕ) → IsBlockOf part f b → place_of part f b < place_of part file block + 1 → is_same_block f b file block ≡ false → place_of part f b < place_of part file block
    earlier f b was lt other = ⊎_elim
        (λ (same : place_of part f b ≡ place_of part file block).
        (let one = same_place part f b file block was here same in
        let both : is_same_block f b file block ≡ true = rw (eq-eqb f file one.0, eq-eqb b block one.1) refl in
        absurd (cc (both, other))))
        (λ (differs : place_of part f b ≢ place_of part file block). omega (arith, lt, differs))
        (cases_eq (place_of part f b) (place_of part file block))

-- a finished body of all places spells the contents
pub body_whole : (part : DumpPart) (contents : Contents) (text : List ℕ) (f : File) → length text ≡ blocks_in_all (files_of part) * BLOCK_BYTES → SpellsFront part contents (blocks_in_all (files_of part)) text → IsWholeBody text f
    → IsSettled f × SpellsBody (files_of part) contents f.bytes
body_whole part contents text f long front whole = (
  whole.settled,
  record {
    long = ⊎_elim
        (λ (none : blocks_in_all (files_of part) ≡ 0). (let z = ap (λ (n : ℕ). n * BLOCK_BYTES) none in omega (arith, z)))
        (λ (some : blocks_in_all (files_of part) ≢ 0). (let is = ap length (whole.bytes (omega (arith, long, some))) in omega (arith, is, long)))
        (cases_eq (blocks_in_all (files_of part)) 0);
    each = λ file number within.
        (let here = there_block part file number within in
        let place = place_within part file number here in
        let c = front file number here place in
        let some : 0 < length text = omega (arith, long, place) in (
          subst (λ (n : ℕ). IsContent file n number (contents file number)) (sym (blocks_there part file here.here)) c.0,
          subst (λ (l : List ℕ). IsSpelledAt l (place_of part file number * BLOCK_BYTES) (block_text (contents file number))) (sym (whole.bytes some)) c.1,
        ));
  },
)

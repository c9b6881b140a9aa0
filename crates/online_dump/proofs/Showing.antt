-- The dumps that an image of a dump device has.
use Rattle.std.specs.Prelude.{IfSome, option_map, ◌⊎◌}
use Rattle.std.specs.Option.{option_or}
use Rattle.std.proofs.Common.{◌≡◌, ℕ, ◌+◌, ◌<◌, ◌≤◌, true, List, length, drop, Option, Some, None, inl, inr, ⊎_elim, refl, ap, sym, ◌∙◌, subst, arith, length-drop, length-take}
use Rattle.disk_model.specs.Held.{File, Held, IsThere, Leaves, LeavesAt, LeavesFile}
use Rattle.tmf_model.specs.RecordMap.{RecordMap}
use Rattle.trail_files.specs.Landed.{IsSettled}
use Rattle.keyed_file.proofs.Prefixes.{length-block_text}
use Rattle.keyed_file.specs.BlockFormat.{block_text}
use Rattle.keyed_file.specs.Dump.{SpellsBody, SpellsDumpLabel, body_at}
use Rattle.keyed_file.specs.Layout.{IsSpelledAt}
use Rattle.keyed_file.specs.Volume.{Contents}
use Rattle.keyed_file.specs.declared.dump_label.DumpLabel.{DumpLabel}
use Rattle.node_machine.specs.Disc.{start_of}
use Rattle.node_machine.specs.Dump.{label_of, landed_here, offered_label}
use Rattle.node_machine.specs.Parts.{DumpPart, DumpStart, Fact}
use Rattle.online_dump.specs.Copies.{HasBodies, HasBody, files_of}
use Rattle.online_dump.specs.Dumper.{IsTied, ShowsCopies, ShowsOpening}
use Rattle.online_dump.specs.Filling.{IsDumpFile, IsNext, ShowsDumpLabel, next_body}
use Rattle.online_dump.specs.Found.{DumpView, IsSealed, start_in}
use Rattle.online_dump.specs.Sealing.{ShowsFound}
use Rattle.online_dump.specs.declared.copying.Copying.{Copying}
use Rattle.online_dump.specs.declared.sealed.SealedDump.{SealedDump}
use Rattle.online_dump.proofs.Bodies.{there_of}
use Rattle.online_dump.proofs.Stands.{stands_image}

-- a text of a file of which nothing is at risk stands in each image
image_spelled : (f g : File) (at : ℕ) (text : List ℕ) → 0 < length text → IsSettled f → LeavesFile f g → IsSpelledAt f.bytes at text → IsSpelledAt g.bytes at text
image_spelled f g at text some rest leaves spelled =
    let within : at + length text ≤ length f.bytes = omega (arith, some, ap length spelled, length-take (length text) (drop at f.bytes), length-drop at f.bytes) in
    stands_image f g at text some leaves (
    record {
      within = within;
      spelled = spelled;
      pinned = λ i from below. record { synced = (let all = rest.synced in omega (arith, below, within, all)); safe = rest.safe i (omega (arith, below, within)) };
    }
    )

pub image_body : (files : List (ℕ × ℕ)) (contents : Contents) (f g : File) → IsSettled f → LeavesFile f g → SpellsBody files contents f.bytes → SpellsBody files contents g.bytes
image_body files contents f g rest leaves is = record {
  long = (let long = is.long in let all = rest.synced in let more = leaves.no_shorter in omega (arith, long, all, more));
  each = λ file number within.
      (let c = is.each file number within in
      let size = length-block_text (contents file number) c.0.valid in
      (c.0, image_spelled f g (body_at files file number) (block_text (contents file number)) (omega (arith, size)) rest leaves c.1));
}

body_there : {D : Type 0} (held : D → Held) (known : Fact → Type 0) (part : DumpPart) (base : RecordMap) (file : DumpView D) (number body : ℕ) (is : HasBody held known part base file number body) (image : Held) → Leaves (held file.device) image
    → IsThere image body (λ f. SpellsBody (files_of part) is.contents f.bytes)
body_there held known part base file number body is image leaves =
    let there = there_of (held file.device body) (image body) is.spelled.0 is.spelled.1 (leaves body) in
    (there.0, there.1, image_body (files_of part) is.contents is.spelled.0 there.0 is.spelled.2.0 there.2 is.spelled.2.1)

some_start : (o : Option DumpStart) (start : ℕ) → start_of o ≡ Some start → (label : DumpStart) × (o ≡ Some label) × (label.start ≡ start)
some_start None start e = absurd (cc (e))
some_start (Some x) start e = (x, refl, cc (e))

pub dumps_shown : {D : Type 0} {first : Held} (held : D → Held) (known : Fact → Type 0) (part : DumpPart) (base : RecordMap) (file : DumpView D) (current : Option Copying) (image : Held) → IsTied part file → IsDumpFile file → file.volume ≡ part.number → HasBodies held known part base file first current
    → Leaves (held file.device) image → ShowsDumpLabel file image → ShowsOpening part first file.found image ⊎ ShowsCopies known part base image
dumps_shown {D} {first} held known part base file current image tied lawful volume bodies leaves shows = ⊎_elim (λ (h : ShowsFound file.found image). stood h) (λ h. inr (offered h)) shows
  where
    of_this : (label : DumpStart) → landed_here part.events ≡ Some label → (found : Option SealedDump) → file.found ≡ found → IfSome found (λ dump. HasBody held known part base file label.number dump.label.body) → ShowsFound found image → ShowsCopies known part base image
    of_this label at None is body h =
        (let none = ap (λ (o : Option DumpStart). start_of (option_or o (label_of part.rest))) (sym at) ∙ tied.landed ∙ ap start_in is in absurd (cc (none)))
    of_this label at (Some dump) is body h =
        let same : Some label.start ≡ Some dump.label.start = ap (λ (o : Option DumpStart). start_of (option_or o (label_of part.rest))) (sym at) ∙ tied.landed ∙ ap start_in is in
        let sealed : IsSealed file.volume dump = subst (λ (o : Option SealedDump). IfSome o (IsSealed file.volume)) is lawful.found in
        record {
          label = label;
          own = inl at;
          contents = body.contents;
          copies = body.copies;
          spelled = record {
            label = dump.label;
            valid = sealed.label;
            of_volume = sealed.of_volume ∙ volume;
            starts = cc (same);
            label_file = h;
            body = body_there held known part base file label.number dump.label.body body image leaves;
          };
        }

    stood : ShowsFound file.found image → ShowsOpening part first file.found image ⊎ ShowsCopies known part base image
    stood h = at (landed_here part.events) refl
      where
        at : (o : Option DumpStart) → landed_here part.events ≡ o → ShowsOpening part first file.found image ⊎ ShowsCopies known part base image
        at None is = inl (record { none = is; label = h; body = λ dump found. subst (λ (o : Option File). LeavesAt o (image dump.label.body)) (bodies.opened is dump found) (leaves dump.label.body) })
        at (Some label) is = inr (of_this label is file.found refl (bodies.landed label is) h)

    offered : (file.offered ≡ true) × ((label : DumpLabel) × (file.next ≡ Some label) × IsThere image 1 (λ f. SpellsDumpLabel label f.bytes)) → ShowsCopies known part base image
    offered h =
        let label = h.1.0 in
        let is = h.1.1 in
        let one = some_start (offered_label part.events) label.start (tied.offered ∙ ap (λ o. option_map (λ l. l.start) o) is) in
        let valid : IsNext file.volume label = subst (λ (o : Option DumpLabel). IfSome o (IsNext file.volume)) is lawful.next in
        let body = bodies.offered one.0 one.1 in
        let there = body_there held known part base file one.0.number (next_body file.found) body image leaves in
        record {
          label = one.0;
          own = inr one.1;
          contents = body.contents;
          copies = body.copies;
          spelled = record {
            label = label;
            valid = valid.0;
            of_volume = valid.1 ∙ volume;
            starts = sym one.2;
            label_file = h.1.2;
            body = subst (λ (n : ℕ). IsThere image n (λ f. SpellsBody (files_of part) body.contents f.bytes)) (sym (bodies.named label is)) there;
          };
        }

-- The dumps of images by the history: a copy has the values of its disc's own records.
use Rattle.std.specs.Prelude.{IfSome, slice_index, ◌==◌, if◌then◌else◌}
use Rattle.std.proofs.Common.{inl, length, append-nil, [], ◌≡◌, ℕ, Bool, List, Option, Some, None, inr, refl, ap, sym, ◌∙◌, subst, arith}
use Rattle.std.proofs.lemmas.Bool.{ne_eqb}
use Rattle.disk_model.specs.Held.{Held}
use Rattle.tmf_model.specs.Place.{block_of}
use Rattle.trail_files.specs.Recovered.{after_last_of, records_on}
use Rattle.trail_files.specs.StandsFor.{Base}
use Rattle.trail_files.specs.declared.audit_record.AuditRecord.{AuditRecord}
use Rattle.keyed_file.specs.Block.{value_at}
use Rattle.keyed_file.specs.Volume.{Contents, map_of as records_in}
use Rattle.chronicle.specs.Histories.{states_after}
use Rattle.chronicle.specs.Seats.{Knows, Sight}
use Rattle.audit_writer.proofs.Found.{disc_there, parts_found}
use Rattle.node_machine.specs.declared.event.Event.{Event}
use Rattle.node_machine.specs.Dump.{IsBlockOf}
use Rattle.node_machine.specs.Made.{blocks_of, home_block, made, map_of, up_to}
use Rattle.node_machine.specs.Node.{node}
use Rattle.node_machine.specs.Opening.{Found}
use Rattle.node_machine.specs.Parts.{DiscPart, DumpPart, Entry, PartState}
use Rattle.node_machine.specs.Parts.Fact.{Made}
use Rattle.node_machine.specs.Shows.{HasContent}
use Rattle.disk_model.specs.Held.{File, IfThere, IsThere, LeavesAt}
use Rattle.tmf_model.specs.Config.{IsWithin}
use Rattle.trail_files.specs.Landed.{IsSettled}
use Rattle.keyed_file.proofs.Prefixes.{dump_prefix}
use Rattle.keyed_file.specs.Dump.{SpellsBody, SpellsDumpLabel}
use Rattle.keyed_file.specs.LabelFormat.{IsDumpLabel, dump_text}
use Rattle.keyed_file.specs.Layout.{bytes_at, label_pair, selected_by, slot_at}
use Rattle.keyed_file.specs.declared.dump_label.DumpLabel.{DumpLabel}
use Rattle.block_cache.specs.Volume.{HasDump}
use Rattle.online_dump.specs.Found.{IsFoundDump, IsSealed}
use Rattle.online_dump.specs.Sealing.{ShowsFound}
use Rattle.online_dump.specs.declared.sealed.SealedDump.{SealedDump}
use Rattle.online_dump.proofs.Bodies.{there_of}
use Rattle.online_dump.proofs.Showing.{image_body}
use Rattle.online_dump.specs.Copies.{IsContentBehind, files_of}
use Rattle.online_dump.specs.Dumper.{ShowsCopies, ShowsOpening}
use Rattle.online_dump.specs.Seen.{HasAllowedDump, IsFirstDump, IsSeenDisc}
use Rattle.online_dump.proofs.Places.{blocks_there}

-- the record of a key is in its block
record_here : (part : DumpPart) (contents : Contents) (f b : ℕ) (key : List ℕ) → IsBlockOf part f b → home_block part.config f key ≡ b → records_in (files_of part) contents f key ≡ value_at (contents f b) key
record_here part contents f b key here home =
    let within = here.within in
    ap (λ (n : ℕ). if n == 0 then None else value_at (contents f (block_of key n)) key) (blocks_there part f here.here)
    ∙ ap (λ (t : Bool). if t then None else value_at (contents f (block_of key (blocks_of part.config f))) key) (ne_eqb (blocks_of part.config f) 0 (λ e. absurd (omega (arith, within, e))))
    ∙ ap (λ (n : ℕ). value_at (contents f n) key) home

pub allowed_dump : (opening : List PartState) (found : Found) (v : Sight Event) (part : DumpPart) (disc : DiscPart) (entries : List Entry) (old : Option Base) (image : Held) → IsSeenDisc opening found v part disc entries
    → ShowsCopies (Knows node opening v) part (map_of entries) image → HasAllowedDump part disc old image
allowed_dump opening found v part disc entries old image seen shows = (
  Some content,
  (shows.contents, shows.spelled, refl),
  inr (shows.label, shows.own, content, refl, record { entries = entries; told = seen.told; start = refl; blocks = λ f b p at. content_at f b p (shows.copies f b p at) }),
)
  where
    content : Base
    content = record { records = records_in (files_of part) shows.contents; position = shows.label.start }

    content_at : (f b p : ℕ) → IsBlockOf part f b × ((records : List AuditRecord) × Knows node opening v (Made part.number p records) × IsContentBehind part.config (map_of entries) records f b (shows.contents f b)) → HasContent disc entries f b p content.records
    content_at f b p c =
        let there = disc_there found (states_after node opening v.seen) (parts_found found opening v.seen seen.opens seen.history) part.number p c.1.0 c.1.1 in
        let same : there.0 ≡ disc = cc (there.1, seen.at) in
        let records : up_to p (made disc.events) ≡ c.1.0 = subst (λ (d : DiscPart). up_to p (made d.events) ≡ c.1.0) same there.2.3 in
        λ key home.
        (let here = subst (λ x. home_block x f key ≡ b) seen.config home in
        record_here part shows.contents f b key c.0 here
        ∙ c.1.2 key here
        ∙ ap (λ (rs : List AuditRecord). after_last_of (records_on f key rs) (map_of entries f key)) (sym records))

-- THE DUMP OF THE OPENING

size_of : (label : DumpLabel) → length (dump_text label) ≡ 256
size_of label = refl

-- a label's file spells one label
one_label : (a b : DumpLabel) (bytes : List ℕ) → IsDumpLabel a → IsDumpLabel b → SpellsDumpLabel a bytes → SpellsDumpLabel b bytes → b ≡ a
one_label a b bytes is_a is_b says_a says_b =
    let at = slot_at label_pair (selected_by (slice_index bytes 1)) in
    let same : dump_text b ≡ dump_text a = sym says_b.shown ∙ ap (λ (n : ℕ). bytes_at at n bytes) (size_of b ∙ sym (size_of a)) ∙ says_a.shown in
    (dump_prefix a b [] is_a is_b (same ∙ sym (append-nil (dump_text a)))).0

module _ (part : DumpPart) (first image : Held) (rests : (file : ℕ) → IsWithin 1 3 file → IfThere first file IsSettled) where
  as_opened : (old : Option Base) (found : Option SealedDump) → HasDump part.config part.number first old → IsFoundDump part.number first found → IfSome found (IsSealed part.number) → ShowsFound found image
      → ((dump : SealedDump) → found ≡ Some dump → LeavesAt (first dump.label.body) (image dump.label.body)) → HasDump part.config part.number image old
  as_opened None None had is sealed shows body = shows
  as_opened (Some b) None had is sealed shows body = (let file = had.1.label_file in absurd (is file.0 file.1 file.2.gate))
  as_opened None (Some dump) had is sealed shows body = (let no = had is.0 is.1 in absurd (no.1 is.2.spelled.gate))
  as_opened (Some b) (Some dump) had is sealed shows body =
      let spells = had.1 in
      let file = spells.label_file in
      let one : file.0 ≡ is.0 = cc (file.1, is.1) in
      let says : SpellsDumpLabel spells.label is.0.bytes = subst (λ (f : File). SpellsDumpLabel spells.label f.bytes) one file.2 in
      let same : dump.label ≡ spells.label = one_label spells.label dump.label is.0.bytes spells.valid sealed.label says is.2.spelled in
      let was = subst (λ (l : DumpLabel). IsThere first l.body (λ f. SpellsBody (files_of part) had.0 f.bytes)) (sym same) spells.body in
      let low = sealed.label.body.above in
      let high = sealed.label.body.below in
      let rest = rests dump.label.body (record { above = omega (arith, low); below = high }) was.0 was.1 in
      let there = there_of (first dump.label.body) (image dump.label.body) was.0 was.1 (body dump refl) in (
        had.0,
        record {
          label = dump.label;
          valid = sealed.label;
          of_volume = sealed.of_volume;
          starts = ap (λ (l : DumpLabel). l.start) same ∙ spells.starts;
          label_file = shows;
          body = (there.0, there.1, image_body (files_of part) had.0 was.0 there.0 rest there.2 was.2);
        },
        had.2,
      )

pub allowed_opening : (part : DumpPart) (disc : DiscPart) (first : Held) (old : Option Base) (found : Option SealedDump) (image : Held) → IsFirstDump part first old found → ShowsOpening part first found image → HasAllowedDump part disc old image
allowed_opening part disc first old found image was shows = (old, as_opened part first image was.rests old found was.had was.is_found was.sealed shows.label shows.body, inl (shows.none, refl))

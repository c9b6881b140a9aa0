-- A dump device says one thing at most.
use Rattle.std.specs.Prelude.{◌==◌, if◌then◌else◌, slice_index}
use Rattle.std.proofs.Common.{zero, suc, ◌≡◌, ◌≤◌, ◌<◌, ℕ, true, false, List, ◌++◌, length, take, drop, Option, None, Some, inl, inr, refl, sym, ap, subst, ◌∙◌, arith}
use Rattle.std.proofs.lemmas.Bool.{cases_lt}
use Rattle.std.proofs.lemmas.List.{take-append-drop, take-append-le}
use Rattle.disk_model.specs.Held.{File, Held}
use Rattle.tmf_model.specs.declared.config.Config.{Config}
use Rattle.tmf_model.specs.Place.{block_of}
use Rattle.tmf_model.specs.RecordMap.{RecordMap}
use Rattle.keyed_file.specs.declared.dump_label.DumpLabel.{DumpLabel}
use Rattle.keyed_file.specs.Block.{IsBlock, KeyedBlock, value_at}
use Rattle.keyed_file.specs.BlockFormat.{block_text}
use Rattle.keyed_file.specs.Dump.{SpellsBody, SpellsDumpLabel, body_at}
use Rattle.keyed_file.specs.LabelFormat.{IsDumpLabel, dump_text}
use Rattle.keyed_file.specs.Layout.{IsSpelledAt, label_pair, selected_by, slot_at}
use Rattle.keyed_file.specs.Volume.{Contents, IsLost, blocks_of, files_on, map_of}
use Rattle.trail_files.specs.StandsFor.{Base}
use Rattle.block_cache.specs.Volume.{HasBase, HasDump}
use Rattle.volume_restore.proofs.Adding.{in_file}
use Rattle.rollforward.specs.Texts.{BeginsNone}

pub some_file : (a b : File) → ◌≡◌ {A = Option File} (Some a) (Some b) → a ≡ b
some_file a b e = cc

-- of two texts at one place the shorter one begins the other
begins : (a b bytes : List ℕ) (at : ℕ) → length a ≤ length b → IsSpelledAt bytes at a → IsSpelledAt bytes at b → b ≡ a ++ drop (length a) b
begins a b bytes at shorter is_a is_b =
    let n : ℕ = length a in
    let m : ℕ = length b in
    let rest : List ℕ = drop at bytes in
    let within : n ≤ length (take m rest) = subst (λ (l : List ℕ). n ≤ length l) (sym is_b) shorter in
    let front : take n b ≡ a =
    ap (take n) (sym is_b) ∙ sym (take-append-le n (take m rest) (drop m rest) within) ∙ ap (take n) (take-append-drop m rest) ∙ is_a in
    sym (take-append-drop n b) ∙ ap (λ (l : List ℕ). l ++ drop n b) front

pub one-text : {X : Type 0} (text : X → List ℕ) (Is : X → Type 0) → BeginsNone text Is → (a b : X) (bytes : List ℕ) (at : ℕ) → Is a → Is b → IsSpelledAt bytes at (text a) → IsSpelledAt bytes at (text b) → b ≡ a
one-text text Is none a b bytes at valid_a valid_b is_a is_b = elim (cases_lt (length (text a)) (length (text b))) [
  | inl shorter ↦ (none a b (drop (length (text a)) (text b)) valid_a valid_b (begins (text a) (text b) bytes at (omega (arith, shorter)) is_a is_b)).0
  | inr longer ↦ sym (none b a (drop (length (text b)) (text a)) valid_b valid_a (begins (text b) (text a) bytes at longer is_b is_a)).0
]

some_blocks : (blocks : ℕ) → blocks == 0 ≡ false → 1 ≤ blocks
some_blocks zero some = absurd (cc)
some_blocks (suc blocks) some = omega arith

-- the same contents have the same records
map-same : (files : List (ℕ × ℕ)) (a b : Contents) (file : ℕ) (key : List ℕ) → ((number : ℕ) → number < blocks_of files file → a file number ≡ b file number) → map_of files a file key ≡ map_of files b file key
map-same files a b file key same =
    let blocks : ℕ = blocks_of files file in
    let number : ℕ = block_of key blocks in
    (elim (blocks == 0) as (λ c. blocks == 0 ≡ c → (if c then None else value_at (a file number) key) ≡ (if c then None else value_at (b file number) key)) [
      | true ↦ λ none. refl
      | false ↦ λ some. ap (λ (x : KeyedBlock). value_at x key) (same number (in_file key blocks (some_blocks blocks some)))
    ]) refl

-- a volume without a label has no base
pub lost-none : (config : Config) (volume : ℕ) (image : Held) (base : Option Base) → HasBase config volume image base → IsLost image → base ≡ None
lost-none config volume image None has lost = refl
lost-none config volume image (Some base) has lost = absurd (lost has.1.label_file.0 has.1.label_file.1 has.1.label_file.2.gate)

-- a device that says a dump says one
pub dump-some : (config : Config) (volume : ℕ) (image : Held) (dump : Option Base) (other : Base) → HasDump config volume image dump → HasDump config volume image (Some other) → (x : Base) × (dump ≡ Some x) × HasDump config volume image (Some x)
dump-some config volume image None other has is = absurd ((has is.1.label_file.0 is.1.label_file.1).1 is.1.label_file.2.gate)
dump-some config volume image (Some x) other has is = (x, refl, has)

pub one-dump : (config : Config) (volume : ℕ) (image : Held) (a b : Base) → BeginsNone dump_text IsDumpLabel → BeginsNone block_text IsBlock → HasDump config volume image (Some a) → HasDump config volume image (Some b)
    → (a.position ≡ b.position) × ((file : ℕ) (key : List ℕ) → a.records file key ≡ b.records file key)
one-dump config volume image a b labels blocks has_a has_b =
    let files : List (ℕ × ℕ) = files_on volume 1 config.files in
    let x = has_a.1 in
    let y = has_b.1 in
    let bytes : List ℕ = y.label_file.0.bytes in
    let label_file : x.label_file.0 ≡ y.label_file.0 = some_file x.label_file.0 y.label_file.0 (sym x.label_file.1 ∙ y.label_file.1) in
    let shown : SpellsDumpLabel x.label bytes = subst (λ (f : File). SpellsDumpLabel x.label f.bytes) label_file x.label_file.2 in
    let label : y.label ≡ x.label = one-text dump_text IsDumpLabel labels x.label y.label bytes (slot_at label_pair (selected_by (slice_index bytes 1))) x.valid y.valid shown.shown y.label_file.2.shown in
    let body : x.body.0 ≡ y.body.0 = some_file x.body.0 y.body.0 (sym x.body.1 ∙ ap (λ (l : DumpLabel). image l.body) (sym label) ∙ y.body.1) in
    let spelled : SpellsBody files has_a.0 y.body.0.bytes = subst (λ (f : File). SpellsBody files has_a.0 f.bytes) body x.body.2 in (
      sym x.starts ∙ ap (λ (l : DumpLabel). l.start) (sym label) ∙ y.starts,
      λ file key. ap (λ (r : RecordMap). r file key) has_a.2
          ∙ map-same files has_a.0 has_b.0 file key (λ number below.
          let one = spelled.each file number below in
          let two = y.body.2.each file number below in
          sym (one-text block_text IsBlock blocks (has_a.0 file number) (has_b.0 file number) y.body.0.bytes (body_at files file number) one.0.valid two.0.valid one.1 two.1))
          ∙ sym (ap (λ (r : RecordMap). r file key) has_b.2),
    )

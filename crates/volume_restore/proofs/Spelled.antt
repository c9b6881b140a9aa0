-- Nothing is wrong in a volume that is spelled.
use Rattle.std.proofs.Common.{◌≡◌, ◌⊎◌, ℕ, ◌+◌, ◌<◌, ◌≤◌, ◌∷◌, [], List, length, Bool, false, Option, Some, None, inl, inr, refl, sym, ap, subst, ◌∙◌, arith, eq-eqb}
use Rattle.std.proofs.lemmas.Bool.{cases_lt}
use Rattle.std.specs.Prelude.{if◌then◌else◌, nat_lt, option_map, slice_index}
use Rattle.std.proofs.lemmas.Bool.Decides.{nat_tests}
use Rattle.disk_model.specs.Held.{File, Held, IsThere}
use Rattle.tmf_model.specs.declared.config.Config.{Config}
use Rattle.keyed_file.specs.declared.label.Label.{Label}
use Rattle.keyed_file.specs.Block.{KeyedBlock}
use Rattle.keyed_file.specs.BlockFormat.{block_text}
use Rattle.keyed_file.specs.Fields.{first_difference, least_of}
use Rattle.keyed_file.specs.LabelFormat.{IsLabel, bad_label_at, label_text, low_at}
use Rattle.keyed_file.specs.Layout.{ShowsPair, block_pair, bytes_at, label_length, label_pair, selected_by, slot_at}
use Rattle.keyed_file.specs.Volume.{Contents, IsContent, SpellsLabel, SpellsVolume, label_of}
use Rattle.keyed_file.proofs.Labels.{spells_label}
use Rattle.block_cache.specs.LabelDamage.{IsFineLabel, bad_slot}
use Rattle.block_cache.specs.Shows.{SpellsContent}
use Rattle.block_cache.proofs.Shown.{shows-fine, shows-volume}
use Rattle.volume_restore.specs.Damage.{blocks_on}
use Rattle.volume_restore.specs.Inspected.{IsFineVolume}

same_nowhere : (at : ℕ) (bytes : List ℕ) → first_difference at bytes bytes ≡ None
same_nowhere at [] = refl
same_nowhere at (byte ∷ bytes) = ap (λ (t : Bool). if t then first_difference (at + 1) bytes bytes else Some at) (eq-eqb byte byte refl) ∙ same_nowhere (at + 1) bytes

-- the bytes of a label are those of the wanted one, whatever low position it has
wanted_fine : (wanted label : Label) → IsLabel label → label ≡ record wanted { low = label.low } → bad_label_at wanted (label_text label) ≡ None
wanted_fine wanted label is same =
    let text : List ℕ = label_text label in
    let read = spells_label label is in
    let low : low_at text ≡ label.low = ap (λ (l : Label). l.low) read.read in
    let wanted_text : label_text (record wanted { low = low_at text }) ≡ text = ap (λ (n : ℕ). label_text (record wanted { low = n })) low ∙ sym (ap label_text same) in
    ap (λ (o : Option ℕ). least_of o (first_difference 0 text (label_text (record wanted { low = low_at text })))) read.fine
    ∙ ap (first_difference 0 text) wanted_text ∙ same_nowhere 0 text

not_less : (a b : ℕ) → b ≤ a → nat_lt a b ≡ false
not_less a b le = grind (arith, nat_tests)

pub label_fine : ((label : Label) → IsLabel label → length (label_text label) ≡ 256) → (config : Config) (volume low : ℕ) (image : Held) → IsLabel (label_of config volume low)
    → IsThere image 1 (λ f. SpellsLabel (label_of config volume low) f.bytes) → IsFineLabel (label_of config volume 1) image
label_fine long config volume low image valid there =
    let label : Label = label_of config volume low in
    let wanted : Label = label_of config volume 1 in
    let bytes : List ℕ = there.0.bytes in
    let at : ℕ = slot_at label_pair (selected_by (slice_index bytes 1)) in
    let text : bytes_at at 256 bytes ≡ label_text label = ap (λ (n : ℕ). bytes_at at n bytes) (sym (long label valid)) ∙ there.2.shown in
    let own : bad_label_at wanted (bytes_at at 256 bytes) ≡ None = ap (bad_label_at wanted) text ∙ wanted_fine wanted label valid refl in
    let slot : bad_slot wanted bytes ≡ None = ap (λ (o : Option ℕ). option_map (λ bad. at + bad) o) own in
    (there.0, there.1, (there.2.gate, ap (λ (t : Bool). if t then Some (length bytes) else bad_slot wanted bytes) (not_less (length bytes) label_length there.2.long) ∙ slot))

pub volume_fine : ((label : Label) → IsLabel label → length (label_text label) ≡ 256) → (config : Config) (volume low : ℕ) (image : Held) (contents : Contents) → SpellsVolume (label_of config volume low) image contents → IsFineVolume config volume image
volume_fine long config volume low image contents spells = record {
  label = label_fine long config volume low image spells.valid spells.label_file;
  spelled = (low, spells.valid, spells.label_file);
  blocks = record {
    fine = λ file number within. shows-fine (record { file = file; number = number; blocks = blocks_on config volume file }) (contents file number) image within (shows file number within);
    shown = λ file number within. (contents file number, shows file number within);
  };
}
  where
    shows : (file number : ℕ) → number < blocks_on config volume file → SpellsContent (record { file = file; number = number; blocks = blocks_on config volume file }) (contents file number) image
    shows file number within = shows-volume (label_of config volume low) image contents file number spells within

same_file : (o : Option File) (a b : File) → o ≡ Some a → o ≡ Some b → a ≡ b
same_file o a b at_a at_b = cc

-- THE OTHER WAY: a volume of which nothing is wrong spells contents.
module _ (config : Config) (volume : ℕ) (image : Held) (fine : IsFineVolume config volume image) where
  abbrev blocks : ℕ → ℕ
  blocks file = blocks_on config volume file

  -- the content that a block shows; of a number that is no block's any
  abbrev content_at : (file number : ℕ) → (number < blocks file) ⊎ (blocks file ≤ number) → KeyedBlock
  content_at file number (inl within) = (fine.blocks.shown file number within).0
  content_at file number (inr past) = record { file = 0; number = 0; position = 0; records = [] }

  abbrev shown_contents : Contents
  shown_contents file number = content_at file number (cases_lt number (blocks file))

  shows_at : (file number : ℕ) (f : File) (side : (number < blocks file) ⊎ (blocks file ≤ number)) → image (1 + file) ≡ Some f → number < blocks file
      → IsContent file (blocks file) number (content_at file number side) × ShowsPair f.bytes (block_pair file number) (block_text (content_at file number side))
  shows_at file number f (inl within) at lt =
      let shown = fine.blocks.shown file number within in
      let there = shown.1.spelled in
      let same : there.0 ≡ f = same_file (image (1 + file)) there.0 f there.1 at in
      (shown.1.valid, subst (λ (x : File). ShowsPair x.bytes (block_pair file number) (block_text shown.0)) same there.2.1)
  shows_at file number f (inr past) at lt = absurd (omega (arith, past, lt))

  pub fine-spells : (low : ℕ) × (was : Contents) × SpellsVolume (label_of config volume low) image was
  fine-spells = (
    fine.spelled.0,
    shown_contents,
    record {
      valid = fine.spelled.1;
      label_file = fine.spelled.2;
      files = λ file some.
          let first = (fine.blocks.shown file 0 some).1.spelled in
          (first.0, first.1, record { long = first.2.0; each = λ number lt. shows_at file number first.0 (cases_lt number (blocks file)) first.1 lt });
    },
  )

-- What a device at rest says each image of it says.
use Rattle.std.specs.Prelude.{slice_index}
use Rattle.std.proofs.Common.{◌≡◌, ◌≢◌, ℕ, ◌+◌, ◌<◌, ◌≤◌, List, [], ◌∷◌, length, drop, Option, Some, None, refl, sym, ap, subst, ◌∙◌, arith, length-drop}
use Rattle.std.proofs.lemmas.List.{length-take}
use Rattle.disk_model.specs.Held.{File, Held, Leaves, LeavesAt, LeavesFile}
use Rattle.tmf_model.specs.declared.config.Config.{Config}
use Rattle.trail_files.specs.Landed.{IsSettled}
use Rattle.trail_files.specs.StandsFor.{Base}
use Rattle.keyed_file.specs.Block.{KeyedBlock, IsBlock}
use Rattle.keyed_file.specs.BlockFormat.{block_text}
use Rattle.keyed_file.specs.Dump.{SpellsDump}
use Rattle.keyed_file.specs.LabelFormat.{IsLabel, dump_text, label_text}
use Rattle.keyed_file.specs.declared.block.TheConstants.{BLOCK_BYTES}
use Rattle.keyed_file.specs.declared.label.Label.{Label}
use Rattle.keyed_file.specs.Layout.{IsSpelledAt, label_pair, selected_by, slot_at}
use Rattle.keyed_file.specs.Volume.{Contents, files_on, label_of}
use Rattle.block_cache.specs.Volume.{HasBase, HasDump, HasNoLabel, IsAtRest}
use Rattle.block_cache.proofs.Opening.{resting_image, rests_all, settled_stands}
use Rattle.block_cache.proofs.Showing.{leaves_there}
use Rattle.block_cache.proofs.Stands.{stands_image}

no_label_at : (o i : Option File) → ((f : File) → o ≡ Some f → (0 < length f.bytes) × (slice_index f.bytes 0 ≢ 1)) → ((f : File) → o ≡ Some f → IsSettled f) → LeavesAt o i
    → (f : File) → i ≡ Some f → (0 < length f.bytes) × (slice_index f.bytes 0 ≢ 1)
no_label_at None None none rests leaves f is = absurd (cc)
no_label_at None (Some g) none rests leaves f is = absurd leaves
no_label_at (Some o) None none rests leaves f is = absurd leaves
no_label_at (Some o) (Some g) none rests leaves f is =
    let same : g ≡ f = cc in
    let was = none o refl in
    let rest = rests o refl in
    subst (λ (x : File). (0 < length x.bytes) × (slice_index x.bytes 0 ≢ 1)) same
    (omega (arith, was.0, rest.synced, leaves.no_shorter), λ one. was.1 (sym (leaves.same 0 (omega (arith, was.0, rest.synced)) (rest.safe 0 was.0)) ∙ one))

no_label_image : (held image : Held) → HasNoLabel held → IsAtRest held → Leaves held image → HasNoLabel image
no_label_image held image none rests leaves = λ f is. no_label_at (held 1) (image 1) none (rests 1) (leaves 1) f is

-- a text of a file at rest stands in each image
pub image_spelled : (f g : File) (at : ℕ) (text : List ℕ) → IsSettled f → LeavesFile f g → IsSpelledAt f.bytes at text → IsSpelledAt g.bytes at text
image_spelled f g at [] rest leaves spelled = refl
image_spelled f g at (t ∷ text) rest leaves spelled =
    let all : List ℕ = t ∷ text in
    let within : at + length all ≤ length f.bytes = omega (arith, ap length spelled, length-take (length all) (drop at f.bytes), length-drop at f.bytes) in
    stands_image f g at all (omega arith) leaves (settled_stands f at all rest within spelled)

dump_image : (files : List (ℕ × ℕ)) (volume start : ℕ) (held image : Held) (contents : Contents) → SpellsDump files volume start held contents → IsAtRest held → Leaves held image → SpellsDump files volume start image contents
dump_image files volume start held image contents spells rests leaves =
    let file = spells.label_file.0 in
    let rest = rests 1 file spells.label_file.1 in
    let has = spells.label_file.2 in
    let left = leaves_there (held 1) (image 1) file spells.label_file.1 (leaves 1) in
    let body = spells.body.0 in
    let rest_body = rests spells.label.body body spells.body.1 in
    let body_left = leaves_there (held spells.label.body) (image spells.label.body) body spells.body.1 (leaves spells.label.body) in
    record {
      label = spells.label;
      valid = spells.valid;
      of_volume = spells.of_volume;
      starts = spells.starts;
      label_file = (
        left.0,
        left.1,
        record {
          long = omega (arith, has.long, rest.synced, left.2.no_shorter);
          gate = left.2.same 0 (omega (arith, has.long, rest.synced)) (rest.safe 0 (omega (arith, has.long))) ∙ has.gate;
          shown = subst (λ (byte : ℕ). IsSpelledAt left.0.bytes (slot_at label_pair (selected_by byte)) (dump_text spells.label)) (sym (left.2.same 1 (omega (arith, has.long, rest.synced)) (rest.safe 1 (omega (arith, has.long)))))
              (image_spelled file left.0 (slot_at label_pair (selected_by (slice_index file.bytes 1))) (dump_text spells.label) rest left.2 has.shown);
        },
      );
      body = (
        body_left.0,
        body_left.1,
        record {
          long = omega (arith, spells.body.2.long, rest_body.synced, body_left.2.no_shorter);
          each = λ f number within. let block = spells.body.2.each f number within in (block.0, image_spelled body body_left.0 _ _ rest_body body_left.2 block.1);
        },
      );
    }

module _ (block_long : (block : KeyedBlock) → IsBlock block → length (block_text block) ≡ BLOCK_BYTES) (label_long : (label : Label) → IsLabel label → length (label_text label) ≡ 256) where
  pub resting_base : (config : Config) (volume : ℕ) (base : Option Base) (held image : Held) → HasBase config volume held base → IsAtRest held → Leaves held image → HasBase config volume image base
  resting_base config volume None held image has rests leaves = no_label_image held image has rests leaves
  resting_base config volume (Some base) held image has rests leaves = (has.0, resting_image block_long label_long (label_of config volume base.position) held image has.0 has.1 (rests_all (label_of config volume base.position) held rests) leaves, has.2)

pub resting_dump : (config : Config) (volume : ℕ) (dump : Option Base) (held image : Held) → HasDump config volume held dump → IsAtRest held → Leaves held image → HasDump config volume image dump
resting_dump config volume None held image has rests leaves = no_label_image held image has rests leaves
resting_dump config volume (Some dump) held image has rests leaves = (has.0, dump_image (files_on volume 1 config.files) volume dump.position held image has.0 has.1 rests leaves, has.2)

-- What the slot of a block shows that was read into a frame, and that it shows one content, in which nothing is wrong.
use Rattle.std.proofs.Common.{◌≡◌, ℕ, ◌+◌, ◌<◌, ◌≤◌, List, length, Some, None, refl, sym, ap, subst, ◌∙◌, arith}
use Rattle.std.specs.Prelude.{slice_index}
use Rattle.disk_model.specs.Held.{File, Held, IsThere}
use Rattle.keyed_file.specs.declared.block.TheConstants.{BLOCK_BYTES}
use Rattle.keyed_file.specs.declared.home.Home.{Home}
use Rattle.keyed_file.specs.declared.label.Label.{Label}
use Rattle.keyed_file.specs.Block.{KeyedBlock}
use Rattle.keyed_file.specs.BlockFormat.{bad_block, block_at, block_text}
use Rattle.keyed_file.specs.Layout.{block_pair, bytes_at, data_length, selected_by, slot_at}
use Rattle.keyed_file.specs.Volume.{Contents, SpellsVolume, blocks_of}
use Rattle.keyed_file.proofs.BlockCalls.{length-block_text}
use Rattle.keyed_file.proofs.Blocks.{spells_block}
use Rattle.block_cache.specs.declared.frame.Frame.{Frame}
use Rattle.block_cache.specs.Cache.{IsTaken}
use Rattle.block_cache.specs.Damage.{IsRead, bad_data_in}
use Rattle.block_cache.specs.Shows.{SpellsContent}
use Rattle.block_cache.proofs.Damages.{long_data, whole_count, whole_fault}
use Rattle.block_cache.proofs.Places.{some_is}

-- a slot whose bytes a frame has spells the frame's block
pub shows-taken : (held : Held) (file number blocks slot : ℕ) (bytes : List ℕ) (f : Frame) → length bytes ≡ BLOCK_BYTES → IsTaken (record { file = file; number = number; blocks = blocks }) slot bytes f
    → IsThere held (1 + file) (λ x. (slot ≡ selected_by (slice_index x.bytes number)) × (data_length blocks ≤ length x.bytes) × (bytes ≡ bytes_at (slot_at (block_pair file number) slot) BLOCK_BYTES x.bytes))
    → SpellsContent (record { file = file; number = number; blocks = blocks }) f.block held
shows-taken held file number blocks slot bytes f long taken there =
    let file_bytes : List ℕ = there.0.bytes in
    let selected : ℕ = selected_by (slice_index file_bytes number) in
    let text : List ℕ = block_text f.block in
    let read : bytes_at (slot_at (block_pair file number) selected) BLOCK_BYTES file_bytes ≡ text =
    ap (λ (s : ℕ). bytes_at (slot_at (block_pair file number) s) BLOCK_BYTES file_bytes) (sym there.2.0) ∙ sym there.2.2 ∙ taken.spelled in
    let size : length text ≡ BLOCK_BYTES = ap (λ (xs : List ℕ). length xs) (sym taken.spelled) ∙ long in
    record {
      valid = record { valid = taken.valid; home = taken.at_home };
      spelled = (there.0, there.1, (there.2.1, ap (λ (n : ℕ). bytes_at (slot_at (block_pair file number) selected) n file_bytes) size ∙ read));
    }

-- the bytes of the selected slot are the text of what the block shows
shown-text : (home : Home) (content : KeyedBlock) (held : Held) (f : File) → held (1 + home.file) ≡ Some f → SpellsContent home content held
    → bytes_at (slot_at (block_pair home.file home.number) (selected_by (slice_index f.bytes home.number))) BLOCK_BYTES f.bytes ≡ block_text content
shown-text home content held f at shows =
    let long : length (block_text content) ≡ BLOCK_BYTES = length-block_text content shows.valid.valid in
    subst (λ (x : File). bytes_at (slot_at (block_pair home.file home.number) (selected_by (slice_index x.bytes home.number))) BLOCK_BYTES x.bytes ≡ block_text content)
    (some_is shows.spelled.0 f (sym shows.spelled.1 ∙ at))
    (ap (λ (n : ℕ). bytes_at (slot_at (block_pair home.file home.number) (selected_by (slice_index shows.spelled.0.bytes home.number))) n shows.spelled.0.bytes) (sym long) ∙ shows.spelled.2.1)

-- a block shows one content
pub shows-one : (home : Home) (a b : KeyedBlock) (held : Held) → SpellsContent home a held → SpellsContent home b held → a ≡ b
shows-one home a b held first second =
    let f : File = first.spelled.0 in
    let same : block_text a ≡ block_text b = sym (shown-text home a held f first.spelled.1 first) ∙ shown-text home b held f first.spelled.1 second in
    sym (spells_block (Some home) a first.valid.valid first.valid.home).read ∙ ap (block_at (Some home)) same ∙ (spells_block (Some home) b second.valid.valid second.valid.home).read

-- nothing is wrong in a block that shows a content
pub shows-fine : (home : Home) (content : KeyedBlock) (held : Held) → home.number < home.blocks → SpellsContent home content held → bad_data_in home (held (1 + home.file)) ≡ None
shows-fine home content held within shows =
    let f : File = shows.spelled.0 in
    let slot : ℕ = selected_by (slice_index f.bytes home.number) in
    let room : List ℕ = bytes_at (slot_at (block_pair home.file home.number) slot) BLOCK_BYTES f.bytes in
    let read : IsRead home f.bytes slot (length room) room = record { named = refl; counted = refl; spelled = λ all. refl } in
    let fine : bad_block (Some home) room ≡ None = ap (bad_block (Some home)) (shown-text home content held f shows.spelled.1 shows) ∙ (spells_block (Some home) content shows.valid.valid shows.valid.home).fine in
    ap (bad_data_in home) shows.spelled.1
    ∙ long_data home f.bytes shows.spelled.2.0
    ∙ whole_fault home f.bytes slot (length room) room None read (whole_count home f.bytes slot (length room) room read within shows.spelled.2.0) fine

-- each block of a volume that is spelled shows its content
pub shows-volume : (label : Label) (held : Held) (contents : Contents) (file number : ℕ) → SpellsVolume label held contents → number < blocks_of label.files file
    → SpellsContent (record { file = file; number = number; blocks = blocks_of label.files file }) (contents file number) held
shows-volume label held contents file number spells within =
    let there = spells.files file (omega (arith, within)) in
    let each = there.2.each number within in
    record { valid = each.0; spelled = (there.0, there.1, (there.2.long, each.1)) }

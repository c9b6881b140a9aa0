-- The blocks of a volume that told a base have the contents that are read of them.
use Rattle.std.proofs.Common.{◌≡◌, ◌≢◌, ◌⊎◌, ℕ, zero, suc, ◌+◌, ◌<◌, ◌≤◌, ◌^◌, Bool, true, false, Option, Some, None, List, [], ◌∷◌, length, refl, sym, subst, ap, ◌∙◌, arith, inl, inr, ⊎_elim, IsTrue}
use Rattle.std.specs.Prelude.{◌==◌, ◌&&◌, nat_eq, nat_le, nat_lt, bytes_eq, unwrap_or, slice_index}
use Rattle.std.specs.List.{list_all}
use Rattle.std.specs.Option.{option_map_or}
use Rattle.std.proofs.lemmas.Bool.{and_from, and_parts, cases_lt, eqb-true, leb-true}
use Rattle.std.proofs.lemmas.Bool.Decides.{nat_tests}
use Rattle.std.proofs.lemmas.Map.Entries.{lookup_head, lookup_tail}
use Rattle.std.proofs.lemmas.Slice.Eq.{bytes_eq-Decides}
use Rattle.block_cache.specs.Blocks.{View as BlocksView}
use Rattle.block_cache.specs.Opened.{StandsOpened}
use Rattle.block_cache.specs.Volume.{RestsFor}
use Rattle.disk_model.specs.Held.{File, Held, IfThere, IsThere}
use Rattle.disk_model.specs.declared.disk.Disk as disk
use Rattle.keyed_file.specs.Block.{KeyedBlock}
use Rattle.keyed_file.specs.BlockFormat.{block_text, is_home_file, is_home_number, record_row}
use Rattle.keyed_file.specs.Layout.{ShowsPair, block_pair, bytes_at, data_length, selected_by, slot_at}
use Rattle.keyed_file.specs.Row.{IsRow, RowFormat}
use Rattle.keyed_file.specs.Volume.{Contents, IsContent, SpellsFile, SpellsVolume, blocks_of, files_on, label_of}
use Rattle.keyed_file.specs.declared.home.Home.{Home}
use Rattle.keyed_file.specs.declared.label.Label.{Label}
use Rattle.keyed_file.proofs.BlockCalls.{length-block_text}
use Rattle.keyed_file.proofs.Orders.{has_row}
use Rattle.node_machine.specs.Opening.{each_from}
use Rattle.tmf_model.specs.declared.config.Config.{Config}
use Rattle.trail_files.specs.Landed.{IsSettled}
use Rattle.run_opening.specs.Entries.{block_of_slot, home_at, is_block_at, row_fits, slot_of, stand_in, stand_on, stands_at}
use Rattle.run_opening.specs.Found.{HoldsEntries, tells_base}
use Rattle.run_opening.specs.Kept.{AreBlocksKept}
use Rattle.run_opening.specs.Placed.{is_file_settled}
use Rattle.run_opening.proofs.Entries.{AreTold, read_on}
use Rattle.run_opening.proofs.Resting.{on_same, settled_file, settled_there}

-- what is tested of all is so of each
each_all : (test : ℕ → Bool) (first count : ℕ) → list_all test (each_from (λ n. n) first count) ≡ true → (n : ℕ) → first ≤ n → n < first + count → test n ≡ true
each_all test first zero all n le lt = absurd (omega (arith, le, lt))
each_all test first (suc count) all n le lt =
    let parts = and_parts (test first) (list_all test (each_from (λ n. n) (first + 1) count)) all in
    ⊎_elim (λ (past : first < n). each_all test (first + 1) count parts.1 n (omega (arith, past)) (omega (arith, lt)))
    (λ (here : n ≤ first). (let same : first ≡ n = omega (arith, le, here) in subst (λ (k : ℕ). test k ≡ true) same parts.0)) (cases_lt first n)

below : (a b : ℕ) → nat_lt a b ≡ true → a < b
below a b is = grind (arith, nat_tests)

off : (a b : ℕ) → a ≢ b → (a == b) ≡ false
off a b ne = by_test (a == b) refl where
  by_test : (t : Bool) → (a == b) ≡ t → (a == b) ≡ false
  by_test true is = absurd (ne (eqb-true a b is))
  by_test false is = is

one_or_other : (a b : ℕ) → (a ≡ b) ⊎ (a ≢ b)
one_or_other a b = by_test (a == b) refl where
  by_test : (t : Bool) → (a == b) ≡ t → (a ≡ b) ⊎ (a ≢ b)
  by_test true is = inl (eqb-true a b is)
  by_test false is = inr (λ e. (let both : true ≡ false = sym (on_same a b e) ∙ is in absurd (cc (both))))

-- A BLOCK THAT STANDS

row_of : {R M : Type 0} (format : RowFormat R M) (mark : M) (items : List R) → row_fits format mark items ≡ true → IsRow format mark items
row_of format mark [] is = tt
row_of format mark (item ∷ items) is = (let parts = and_parts (format.fits mark item) (row_fits format (format.mark item) items) is in (parts.0, row_of format (format.mark item) items parts.1))

content_is : (home : Home) (block : KeyedBlock) → is_block_at home block ≡ true → IsContent home.file home.blocks home.number block
content_is home block is =
    let file = and_parts (block.file == home.file) _ is in
    let number = and_parts (block.number == home.number) _ file.1 in
    let small_file = and_parts (nat_lt block.file (2 ^ 8)) _ number.1 in
    let small_number = and_parts (nat_lt block.number (2 ^ 16)) _ small_file.1 in
    let small_position = and_parts (nat_lt block.position (2 ^ 64)) _ small_number.1 in
    let few = and_parts (nat_le (length block.records) 62) _ small_position.1 in
    let row = has_row (Some home) [] block.records (row_of (record_row (Some home)) [] block.records few.1) in
    record {
      valid = record {
        file = below block.file (2 ^ 8) small_file.0;
        number = below block.number (2 ^ 16) small_number.0;
        position = below block.position (2 ^ 64) small_position.0;
        few = leb-true (length block.records) 62 few.0;
        each = row.each;
        rising = row.rising;
      };
      home = and_from (is_home_file (Some home) block.file) _ file.0 (and_from (is_home_number (Some home) block.number) _ number.0 row.at_home);
    }

shown_is : (home : Home) (f : File) (block : KeyedBlock) → IsContent home.file home.blocks home.number block → block_text block ≡ slot_of home f → ShowsPair f.bytes (block_pair home.file home.number) (block_text block)
shown_is home f block is text = ap (λ (n : ℕ). bytes_at (slot_at (block_pair home.file home.number) (selected_by (slice_index f.bytes home.number))) n f.bytes) (length-block_text block is.valid) ∙ sym text

-- FILES OF A VOLUME

blocks_own : (line : ℕ × ℕ) (files : List (ℕ × ℕ)) → blocks_of (line ∷ files) line.0 ≡ line.1
blocks_own line files = ap (λ (o : Option ℕ). unwrap_or o 0) (lookup_head (nat_eq line.0) line files (on_same line.0 line.0 refl))

blocks_other : (line : ℕ × ℕ) (files : List (ℕ × ℕ)) (file : ℕ) → file ≢ line.0 → blocks_of (line ∷ files) file ≡ blocks_of files file
blocks_other line files file ne = ap (λ (o : Option ℕ). unwrap_or o 0) (lookup_tail (nat_eq file) line files (off file line.0 ne))

-- each file that has a block stands
file_stands : (held : Held) (files : List (ℕ × ℕ)) (file : ℕ) → stand_on held files ≡ true → 0 < blocks_of files file → stand_in held file (blocks_of files file) ≡ true
file_stands held [] file all some = absurd (omega (arith, some))
file_stands held (line ∷ files) file all some =
    let parts = and_parts (stand_in held line.0 line.1) (stand_on held files) all in
    ⊎_elim
    (λ (same : file ≡ line.0).
    let own : blocks_of (line ∷ files) file ≡ line.1 = ap (blocks_of (line ∷ files)) same ∙ blocks_own line files in
    ap (stand_in held file) own ∙ ap (λ (n : ℕ). stand_in held n line.1) same ∙ parts.0)
    (λ (ne : file ≢ line.0). (let other = blocks_other line files file ne in ap (stand_in held file) other ∙ file_stands held files file parts.1 (omega (arith, some, other))))
    (one_or_other file line.0)

-- the block that is read where there is no file
abbrev no_block : KeyedBlock
no_block = record { file = 0; number = 0; position = 0; records = [] }

-- the blocks that are read
abbrev read_in : Held → List (ℕ × ℕ) → Contents
read_in held files = λ file number. option_map_or (λ f. block_of_slot (home_at file (blocks_of files file) number) f) (held (1 + file)) no_block

-- whether the block with this number stands in a file that is there
abbrev stands_in_file : ℕ → ℕ → ℕ → File → Bool
stands_in_file file blocks number f =
    is_file_settled f
    && (nat_le (data_length blocks) (length f.bytes)
    && (bytes_eq (block_text (block_of_slot (home_at file blocks number) f)) (slot_of (home_at file blocks number) f) && is_block_at (home_at file blocks number) (block_of_slot (home_at file blocks number) f)))

module _ (held : Held) (files : List (ℕ × ℕ)) (stand : stand_on held files ≡ true) (file : ℕ) (some : 0 < blocks_of files file) where
  abbrev blocks : ℕ
  blocks = blocks_of files file

  each : (n : ℕ) → n < blocks → option_map_or (stands_in_file file blocks n) (held (1 + file)) false ≡ true
  each n lt = each_all (stands_at held file blocks) 0 blocks (file_stands held files file stand some) n (omega arith) (omega (arith, lt))

  module _ (f : File) (at : held (1 + file) ≡ Some f) where
    here : (n : ℕ) → n < blocks → stands_in_file file blocks n f ≡ true
    here n lt = sym (ap (λ (o : Option File). option_map_or (stands_in_file file blocks n) o false) at) ∙ each n lt

    settled : IsSettled f
    settled = settled_file f (and_parts (is_file_settled f) _ (here 0 some)).0

    long : data_length blocks ≤ length f.bytes
    long = leb-true (data_length blocks) (length f.bytes) (and_parts (nat_le (data_length blocks) (length f.bytes)) _ (and_parts (is_file_settled f) _ (here 0 some)).1).0

    spells : (n : ℕ) → n < blocks → IsContent file blocks n (read_in held files file n) × ShowsPair f.bytes (block_pair file n) (block_text (read_in held files file n))
    spells n lt =
        let home : Home = home_at file blocks n in
        let whole = and_parts (is_file_settled f) _ (here n lt) in
        let enough = and_parts (nat_le (data_length blocks) (length f.bytes)) _ whole.1 in
        let text = and_parts (bytes_eq (block_text (block_of_slot home f)) (slot_of home f)) (is_block_at home (block_of_slot home f)) enough.1 in
        let is = content_is home (block_of_slot home f) text.1 in
        let read : read_in held files file n ≡ block_of_slot home f = ap (λ (o : Option File). option_map_or (λ x. block_of_slot home x) o no_block) at in
        subst (λ (b : KeyedBlock). IsContent file blocks n b × ShowsPair f.bytes (block_pair file n) (block_text b)) (sym read)
        (is, shown_is home f (block_of_slot home f) is ((bytes_eq-Decides (block_text (block_of_slot home f)) (slot_of home f)).0 text.0))

  told_in_file : (o : Option File) → held (1 + file) ≡ o → (f : File) × (held (1 + file) ≡ Some f) × SpellsFile file blocks (read_in held files) f.bytes × IsSettled f
  told_in_file (Some f) at = (f, at, record { long = long f at; each = spells f at }, settled f at)
  told_in_file None none = absurd (let both : false ≡ true = sym (ap (λ (o : Option File). option_map_or (stands_in_file file blocks 0) o false) none) ∙ each 0 some in cc (both))

are_told : (held : Held) (files : List (ℕ × ℕ)) → stand_on held files ≡ true → AreTold held (read_in held files) files
are_told held files stand file some = told_in_file held files stand file some (held (1 + file)) refl

-- A VOLUME THAT IS KEPT

some_same : (a b : File) → Some a ≡ Some b → a ≡ b
some_same a b e = cc (e)

module _ {D : Type 0} (kind : disk.Ghosts D) (config : Config) (volume : ℕ) (device : D) (blocks : BlocksView D) (are : AreBlocksKept kind config volume device blocks) (tells : IsTrue (tells_base kind config volume blocks.device)) where
  abbrev files : List (ℕ × ℕ)
  files = files_on volume 1 config.files

  abbrev held : Held
  held = kind.held blocks.device

  abbrev contents : Contents
  contents = read_in held files

  parts : (kind.tells blocks.device ≡ true) × ((option_map_or is_file_settled (held 1) true && stand_on held files) ≡ true)
  parts = and_parts (kind.tells blocks.device) _ tells

  rest : (option_map_or is_file_settled (held 1) true ≡ true) × (stand_on held files ≡ true)
  rest = and_parts (option_map_or is_file_settled (held 1) true) _ parts.1

  opened : StandsOpened kind.held (label_of config volume 1) blocks
  opened = are.2 (sym are.0.is_later.tells ∙ parts.0)

  same_files : files ≡ blocks.label.files
  same_files = sym (ap (λ (l : Label). l.files) are.1.label)

  told : AreTold held contents files
  told = are_told held files rest.1

  volume_spells : SpellsVolume blocks.label held contents
  volume_spells = record {
    valid = are.1.valid.label;
    label_file = opened.spelled;
    files = subst (λ (fs : List (ℕ × ℕ)). (file : ℕ) → 0 < blocks_of fs file → IsThere held (1 + file) (λ f. SpellsFile file (blocks_of fs file) contents f.bytes)) same_files
        (λ file some. (let one = told file some in (one.0, one.1, one.2)));
  }

  volume_rests : RestsFor blocks.label held
  volume_rests = record {
    label_file = λ f at. settled_there (held 1) rest.0 f at;
    files = subst (λ (fs : List (ℕ × ℕ)). (file : ℕ) → 0 < blocks_of fs file → IfThere held (1 + file) IsSettled) same_files
        (λ file some f at. (let one = told file some in subst IsSettled (some_same one.0 f (sym one.1 ∙ at)) one.3));
  }

  -- its blocks hold the records that were found
  pub holds_entries : HoldsEntries kind config volume blocks
  holds_entries = (contents, opened.holds contents volume_spells volume_rests, (read_on held contents volume 1 config.files told).same)

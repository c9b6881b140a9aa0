-- The records of a volume's blocks are those of its contents.
use Rattle.std.proofs.Common.{◌≡◌, ◌≢◌, ◌⊎◌, ℕ, zero, suc, ◌+◌, ◌<◌, ◌≤◌, ◌^◌, Bool, true, false, Option, Some, None, List, [], ◌∷◌, ◌++◌, map, length, refl, sym, subst, ap, ◌∙◌, arith, inl, inr, ⊎_elim}
use Rattle.std.specs.Prelude.{◌==◌, ◌&&◌, if◌then◌else◌, nat_eq, nat_le, nat_lt, flat_map, bytes_eq, unwrap_or, slice_index}
use Rattle.std.specs.List.{list_all}
use Rattle.std.specs.Map.{lookup}
use Rattle.std.specs.Option.{option_map_or, option_or}
use Rattle.std.proofs.lemmas.Bool.{and_parts, and_from, le-leb, cases_lt, eqb-true}
use Rattle.std.proofs.lemmas.Bool.Decides.{nat_tests}
use Rattle.std.proofs.lemmas.List.Concat.{flat_map-cons}
use Rattle.std.proofs.lemmas.Map.Entries.{lookup_head, lookup_tail}
use Rattle.std.proofs.lemmas.Slice.Eq.{bytes_eq-Decides}
use Rattle.disk_model.specs.Held.{File, Held}
use Rattle.keyed_file.specs.Block.{KeyedBlock, value_at}
use Rattle.keyed_file.specs.BlockFormat.{block_at, block_text, is_home_file, is_home_key, is_home_number, record_row}
use Rattle.keyed_file.specs.Layout.{ShowsPair, block_pair, bytes_at, data_length, selected_by, slot_at}
use Rattle.keyed_file.specs.Row.{IsRow, RowFormat}
use Rattle.keyed_file.specs.Volume.{Contents, IsContent, SpellsFile, blocks_of, files_on, map_of as contents_map}
use Rattle.keyed_file.specs.declared.home.Home.{Home}
use Rattle.keyed_file.proofs.BlockCalls.{length-block_text}
use Rattle.keyed_file.proofs.Blocks.{block_row, spells_block}
use Rattle.node_machine.specs.Made.{map_of}
use Rattle.node_machine.specs.Opening.{each_from}
use Rattle.node_machine.specs.Parts.{Entry}
use Rattle.tmf_model.specs.Place.{block_of}
use Rattle.tmf_model.specs.declared.config.FileLine.{FileLine}
use Rattle.trail_files.specs.Landed.{IsSettled}
use Rattle.run_opening.specs.Entries.{block_of_slot, entries_at, entries_in, entries_of, entries_on, home_at, is_block_at, row_fits, slot_of, stand_in, stand_on, stands_at}
use Rattle.run_opening.specs.Placed.{is_file_settled}
use Rattle.run_opening.proofs.Resting.{file_settled, on_same}

-- MAPS OF RECORDS

or_none : {A : Type 0} (o : Option A) → option_or o None ≡ o
or_none None = refl
or_none (Some x) = refl

or_some : {A : Type 0} (a b c : Option A) → option_or (option_or a b) c ≡ option_or a (option_or b c)
or_some None b c = refl
or_some (Some x) b c = refl

if_or : {A : Type 0} (b : Bool) (x : A) (o p : Option A) → (if b then Some x else option_or o p) ≡ option_or (if b then Some x else o) p
if_or true x o p = refl
if_or false x o p = refl

map-append : (xs ys : List Entry) (file : ℕ) (key : List ℕ) → map_of (xs ++ ys) file key ≡ option_or (map_of xs file key) (map_of ys file key)
map-append [] ys file key = refl
map-append (x ∷ xs) ys file key =
    ap (λ (o : Option (List ℕ)). if (file == x.file) && bytes_eq key x.key then Some x.value else o) (map-append xs ys file key)
    ∙ if_or ((file == x.file) && bytes_eq key x.key) x.value (map_of xs file key) (map_of ys file key)

-- the records of a block give those of another file none
map-other : (own file : ℕ) (key : List ℕ) (records : List (List ℕ × List ℕ)) → (file == own) ≡ false → map_of (map (λ r. record { file = own; key = r.0; value = r.1 }) records) file key ≡ None
map-other own file key [] other = refl
map-other own file key (r ∷ rs) other =
    ap (λ (b : Bool). if b && bytes_eq key r.0 then Some r.1 else map_of (map (λ r. record { file = own; key = r.0; value = r.1 }) rs) file key) other ∙ map-other own file key rs other

map-own : (own file : ℕ) (key : List ℕ) (records : List (List ℕ × List ℕ)) → (file == own) ≡ true → map_of (map (λ r. record { file = own; key = r.0; value = r.1 }) records) file key ≡ lookup (bytes_eq key) records
map-own own file key [] same = refl
map-own own file key (r ∷ rs) same =
    ap (λ (b : Bool). if b && bytes_eq key r.0 then Some r.1 else map_of (map (λ r. record { file = own; key = r.0; value = r.1 }) rs) file key) same
    ∙ by_test (map-own own file key rs same) (bytes_eq key r.0) refl
  where
    by_test : map_of (map (λ r. record { file = own; key = r.0; value = r.1 }) rs) file key ≡ lookup (bytes_eq key) rs → (b : Bool) → bytes_eq key r.0 ≡ b → (if b then Some r.1 else map_of (map (λ r. record { file = own; key = r.0; value = r.1 }) rs) file key) ≡ lookup (bytes_eq key) (r ∷ rs)
    by_test rest true is = sym (lookup_head (bytes_eq key) r rs is)
    by_test rest false is = rest ∙ sym (lookup_tail (bytes_eq key) r rs is)

-- a key has no value in a block that is not its own
not_home : (home : Home) (key : List ℕ) (records : List (List ℕ × List ℕ)) → list_all (λ entry. is_home_key (Some home) entry.0) records ≡ true → block_of key home.blocks ≢ home.number → lookup (bytes_eq key) records ≡ None
not_home home key [] all other = refl
not_home home key (r ∷ rs) all other =
    let parts = and_parts (is_home_key (Some home) r.0) (list_all (λ entry. is_home_key (Some home) entry.0) rs) all in
    by_test parts.0 (bytes_eq key r.0) refl ∙ not_home home key rs parts.1 other
  where
    by_test : is_home_key (Some home) r.0 ≡ true → (b : Bool) → bytes_eq key r.0 ≡ b → lookup (bytes_eq key) (r ∷ rs) ≡ lookup (bytes_eq key) rs
    by_test here true is = absurd (other (ap (λ (k : List ℕ). block_of k home.blocks) ((bytes_eq-Decides key r.0).0 is) ∙ eqb-true (block_of r.0 home.blocks) home.number here))
    by_test here false is = lookup_tail (bytes_eq key) r rs is

-- BLOCKS IN A ROW

module _ (entries : ℕ → List Entry) (file : ℕ) (key : List ℕ) where
  abbrev found_at : ℕ → Option (List ℕ)
  found_at n = map_of (entries n) file key

  abbrev row : ℕ → ℕ → List Entry
  row first count = flat_map entries (each_from (λ n. n) first count)

  row_step : (first count : ℕ) → map_of (row first (suc count)) file key ≡ option_or (found_at first) (map_of (row (first + 1) count) file key)
  row_step first count = ap (λ (xs : List Entry). map_of xs file key) (flat_map-cons entries first (each_from (λ n. n) (first + 1) count)) ∙ map-append (entries first) (row (first + 1) count) file key

  row_none : (first count : ℕ) → ((n : ℕ) → first ≤ n → n < first + count → found_at n ≡ None) → map_of (row first count) file key ≡ None
  row_none first zero none = refl
  row_none first (suc count) none =
      row_step first count ∙ ap (λ (o : Option (List ℕ)). option_or o (map_of (row (first + 1) count) file key)) (none first (omega arith) (omega arith))
      ∙ row_none (first + 1) count (λ n le lt. none n (omega (arith, le)) (omega (arith, lt)))

  row_one : (at first count : ℕ) → first ≤ at → at < first + count → ((n : ℕ) → n ≢ at → first ≤ n → n < first + count → found_at n ≡ None) → map_of (row first count) file key ≡ found_at at
  row_one at first zero le lt none = absurd (omega (arith, le, lt))
  row_one at first (suc count) le lt none =
      row_step first count
      ∙ ⊎_elim
      (λ (past : first < at). ap (λ (o : Option (List ℕ)). option_or o (map_of (row (first + 1) count) file key)) (none first (λ e. absurd (omega (arith, e, past))) (omega arith) (omega arith))
      ∙ row_one at (first + 1) count (omega (arith, past)) (omega (arith, lt)) (λ n other more less. none n other (omega (arith, more)) (omega (arith, less))))
      (λ (here : at ≤ first).
      let same : first ≡ at = omega (arith, le, here) in
      ap (option_or (found_at first)) (row_none (first + 1) count (λ n more less. none n (λ e. absurd (omega (arith, e, more, here))) (omega (arith, more)) (omega (arith, less))))
      ∙ or_none (found_at first) ∙ ap found_at same)
      (cases_lt first at)

all_each : (test : ℕ → Bool) (first count : ℕ) → ((n : ℕ) → first ≤ n → n < first + count → test n ≡ true) → list_all test (each_from (λ n. n) first count) ≡ true
all_each test first zero all = refl
all_each test first (suc count) all = and_from (test first) _ (all first (omega arith) (omega arith)) (all_each test (first + 1) count (λ n le lt. all n (omega (arith, le)) (omega (arith, lt))))

-- A BLOCK THAT IS SPELLED

row_is : {R M : Type 0} (format : RowFormat R M) (mark : M) (items : List R) → IsRow format mark items → row_fits format mark items ≡ true
row_is format mark [] is = refl
row_is format mark (item ∷ items) is = and_from (format.fits mark item) _ is.0 (row_is format (format.mark item) items is.1)

less : (a b : ℕ) → a < b → nat_lt a b ≡ true
less a b lt = grind (arith, nat_tests)

module _ (home : Home) (f : File) (content : KeyedBlock) (is : IsContent home.file home.blocks home.number content) (shows : ShowsPair f.bytes (block_pair home.file home.number) (block_text content)) where
  slot_is : slot_of home f ≡ block_text content
  slot_is = ap (λ (n : ℕ). bytes_at (slot_at (block_pair home.file home.number) (selected_by (slice_index f.bytes home.number))) n f.bytes) (sym (length-block_text content is.valid)) ∙ shows

  read_is : block_of_slot home f ≡ content
  read_is = ap (block_at (Some home)) slot_is ∙ (spells_block (Some home) content is.valid is.home).read

  text_is : bytes_eq (block_text (block_of_slot home f)) (slot_of home f) ≡ true
  text_is = (bytes_eq-Decides (block_text (block_of_slot home f)) (slot_of home f)).1 (ap block_text read_is ∙ sym slot_is)

  fits_is : is_block_at home (block_of_slot home f) ≡ true
  fits_is =
      let parts = and_parts (is_home_file (Some home) content.file) _ is.home in
      let more = and_parts (is_home_number (Some home) content.number) _ parts.1 in
      let valid = is.valid in
      ap (is_block_at home) read_is
      ∙ and_from _ _ parts.0 (and_from _ _ more.0 (and_from _ _ (less content.file (2 ^ 8) valid.file) (and_from _ _ (less content.number (2 ^ 16) valid.number) (and_from _ _ (less content.position (2 ^ 64) valid.position)
      (and_from _ _ (le-leb (length content.records) 62 valid.few) (row_is (record_row (Some home)) [] content.records (block_row (Some home) content valid is.home)))))))

-- A FILE THAT IS SPELLED

entries_other : (held : Held) (own blocks number file : ℕ) (key : List ℕ) → (file == own) ≡ false → map_of (entries_at held own blocks number) file key ≡ None
entries_other held own blocks number file key other = by_file (held (1 + own)) where
  by_file : (o : Option File) → map_of (option_map_or (λ f. entries_of own (block_of_slot (home_at own blocks number) f)) o []) file key ≡ None
  by_file None = refl
  by_file (Some f) = map-other own file key (block_of_slot (home_at own blocks number) f).records other

in_other : (held : Held) (own blocks file : ℕ) (key : List ℕ) → (file == own) ≡ false → map_of (entries_in held own blocks) file key ≡ None
in_other held own blocks file key other = row_none (entries_at held own blocks) file key 0 blocks (λ n le lt. entries_other held own blocks n file key other)

module _ (held : Held) (own blocks : ℕ) (contents : Contents) (f : File) (at : held (1 + own) ≡ Some f) (spells : SpellsFile own blocks contents f.bytes) (settled : IsSettled f) where
  entries_is : (n : ℕ) → n < blocks → entries_at held own blocks n ≡ entries_of own (contents own n)
  entries_is n lt =
      let each = spells.each n lt in
      ap (λ (o : Option File). option_map_or (λ x. entries_of own (block_of_slot (home_at own blocks n) x)) o []) at ∙ ap (entries_of own) (read_is (home_at own blocks n) f (contents own n) each.0 each.1)

  stands_is : (n : ℕ) → n < blocks → stands_at held own blocks n ≡ true
  stands_is n lt =
      let each = spells.each n lt in
      let home : Home = home_at own blocks n in
      ap
      (λ (o : Option File). option_map_or
      (λ x. is_file_settled x && (nat_le (data_length blocks) (length x.bytes) && (bytes_eq (block_text (block_of_slot home x)) (slot_of home x) && is_block_at home (block_of_slot home x)))) o false)
      at
      ∙ and_from _ _ (file_settled f settled)
      (and_from _ _ (le-leb (data_length blocks) (length f.bytes) spells.long) (and_from _ _ (text_is home f (contents own n) each.0 each.1) (fits_is home f (contents own n) each.0 each.1)))

  pub stand_is : stand_in held own blocks ≡ true
  stand_is = all_each (stands_at held own blocks) 0 blocks (λ n le lt. stands_is n (omega (arith, lt)))

  pub in_own : (file : ℕ) (key : List ℕ) → (file == own) ≡ true → 0 < blocks → map_of (entries_in held own blocks) file key ≡ value_at (contents own (block_of key blocks)) key
  in_own file key same some =
      let at_key : ℕ = block_of key blocks in
      let within : at_key < blocks = omega (arith, some) in
      let at_is : (n : ℕ) → n < blocks → map_of (entries_at held own blocks n) file key ≡ lookup (bytes_eq key) (contents own n).records =
      λ n lt. ap (λ (xs : List Entry). map_of xs file key) (entries_is n lt) ∙ map-own own file key (contents own n).records same in
      row_one (entries_at held own blocks) file key at_key 0 blocks (omega arith) (omega (arith, within))
      (λ n other le lt.
      let less : n < blocks = omega (arith, lt) in
      let each = spells.each n less in
      let home : Home = home_at own blocks n in
      let parts = and_parts (is_home_file (Some home) (contents own n).file) _ each.0.home in
      let more = and_parts (is_home_number (Some home) (contents own n).number) _ parts.1 in
      at_is n less ∙ not_home home key (contents own n).records more.1 (λ e. other (sym e)))
      ∙ at_is at_key within

-- FILES OF A VOLUME

-- each file that has a block is there, spells its contents, and nothing of it is at risk
abbrev pub AreTold : Held → Contents → List (ℕ × ℕ) → Type 0
AreTold held contents files = (file : ℕ) → 0 < blocks_of files file → (f : File) × (held (1 + file) ≡ Some f) × SpellsFile file (blocks_of files file) contents f.bytes × IsSettled f

-- their blocks stand, and have the records of the contents
pub record IsReadAs (held : Held) (contents : Contents) (files : List (ℕ × ℕ)) : Type 0 where
  pub stand : stand_on held files ≡ true
  pub same : (file : ℕ) (key : List ℕ) → map_of (entries_on held files) file key ≡ contents_map files contents file key

module _ (held : Held) (contents : Contents) where
  abbrev value_in : ℕ → List ℕ → ℕ → Option (List ℕ)
  value_in file key blocks = if blocks == 0 then None else value_at (contents file (block_of key blocks)) key

  zero_none : (file : ℕ) (key : List ℕ) (blocks : ℕ) → blocks ≡ 0 → value_in file key blocks ≡ None
  zero_none file key blocks none = ap (value_in file key) none

  off : (a b : ℕ) → a ≢ b → (a == b) ≡ false
  off a b ne = by_test (a == b) refl where
    by_test : (t : Bool) → (a == b) ≡ t → (a == b) ≡ false
    by_test true is = absurd (ne (eqb-true a b is))
    by_test false is = is

  some_value : (file : ℕ) (key : List ℕ) (blocks : ℕ) → 0 < blocks → value_in file key blocks ≡ value_at (contents file (block_of key blocks)) key
  some_value file key blocks some = ap (λ (b : Bool). if b then None else value_at (contents file (block_of key blocks)) key) (off blocks 0 (λ e. absurd (omega (arith, e, some))))

  on-cons : (number blocks : ℕ) (files : List (ℕ × ℕ)) (file : ℕ) (key : List ℕ)
      → map_of (entries_on held ((number, blocks) ∷ files)) file key ≡ option_or (map_of (entries_in held number blocks) file key) (map_of (entries_on held files) file key)
  on-cons number blocks files file key =
      ap (λ (xs : List Entry). map_of xs file key) (flat_map-cons (λ (line : ℕ × ℕ). entries_in held line.0 line.1) (number, blocks) files) ∙ map-append (entries_in held number blocks) (entries_on held files) file key

  blocks_own : (number blocks : ℕ) (files : List (ℕ × ℕ)) → blocks_of ((number, blocks) ∷ files) number ≡ blocks
  blocks_own number blocks files = ap (λ (o : Option ℕ). unwrap_or o 0) (lookup_head (nat_eq number) (number, blocks) files (on_same number number refl))

  blocks_other : (number blocks : ℕ) (files : List (ℕ × ℕ)) (file : ℕ) → file ≢ number → blocks_of ((number, blocks) ∷ files) file ≡ blocks_of files file
  blocks_other number blocks files file ne = ap (λ (o : Option ℕ). unwrap_or o 0) (lookup_tail (nat_eq file) (number, blocks) files (off file number ne))

  module _ (number blocks : ℕ) (files : List (ℕ × ℕ)) (none : (file : ℕ) → file ≤ number → blocks_of files file ≡ 0) (no_records : (file : ℕ) (key : List ℕ) → file ≤ number → map_of (entries_on held files) file key ≡ None)
      (told : AreTold held contents ((number, blocks) ∷ files)) where
    told_rest : AreTold held contents files
    told_rest file some =
        let ne : file ≢ number = λ e. absurd (let zero_is : blocks_of files file ≡ 0 = none file (omega (arith, e)) in omega (arith, zero_is, some)) in
        let same = blocks_other number blocks files file ne in
        let one = told file (omega (arith, some, same)) in
        (one.0, one.1, subst (λ (b : ℕ). SpellsFile file b contents one.0.bytes) same one.2, one.3)

    told_first : 0 < blocks → (f : File) × (held (1 + number) ≡ Some f) × SpellsFile number blocks contents f.bytes × IsSettled f
    told_first some =
        let same = blocks_own number blocks files in
        let one = told number (omega (arith, some, same)) in
        (one.0, one.1, subst (λ (b : ℕ). SpellsFile number b contents one.0.bytes) same one.2, one.3)

    stand_first : (0 < blocks) ⊎ (blocks ≤ 0) → stand_in held number blocks ≡ true
    stand_first (inl some) = (let one = told_first some in stand_is held number blocks contents one.0 one.1 one.2 one.3)
    stand_first (inr past) = (let zero_is : blocks ≡ 0 = omega (arith, past) in ap (stand_in held number) zero_is)

    own_same : (file : ℕ) (key : List ℕ) → file ≡ number → (0 < blocks) ⊎ (blocks ≤ 0) → map_of (entries_in held number blocks) file key ≡ value_in number key blocks
    own_same file key same (inl some) = (let one = told_first some in in_own held number blocks contents one.0 one.1 one.2 one.3 file key (on_same file number same) some ∙ sym (some_value number key blocks some))
    own_same file key same (inr past) = (let zero_is : blocks ≡ 0 = omega (arith, past) in ap (λ (b : ℕ). map_of (entries_in held number b) file key) zero_is ∙ sym (zero_none number key blocks zero_is))

    same_at : (rest : (file : ℕ) (key : List ℕ) → map_of (entries_on held files) file key ≡ contents_map files contents file key) (file : ℕ) (key : List ℕ) → (file ≡ number) ⊎ (file ≢ number)
        → map_of (entries_on held ((number, blocks) ∷ files)) file key ≡ contents_map ((number, blocks) ∷ files) contents file key
    same_at rest file key (inl same) =
        on-cons number blocks files file key ∙ ap (option_or (map_of (entries_in held number blocks) file key)) (no_records file key (omega (arith, same))) ∙ or_none (map_of (entries_in held number blocks) file key)
        ∙ own_same file key same (cases_lt 0 blocks) ∙ ap (value_in number key) (sym (blocks_own number blocks files)) ∙ ap (λ (n : ℕ). value_in n key (blocks_of ((number, blocks) ∷ files) n)) (sym same)
    same_at rest file key (inr ne) =
        on-cons number blocks files file key ∙ ap (λ (o : Option (List ℕ)). option_or o (map_of (entries_on held files) file key)) (in_other held number blocks file key (off file number ne))
        ∙ rest file key ∙ ap (value_in file key) (sym (blocks_other number blocks files file ne))

    one_or_other : (a b : ℕ) → (a ≡ b) ⊎ (a ≢ b)
    one_or_other a b = by_test (a == b) refl where
      by_test : (t : Bool) → (a == b) ≡ t → (a ≡ b) ⊎ (a ≢ b)
      by_test true is = inl (eqb-true a b is)
      by_test false is = inr (λ e. (let both : true ≡ false = sym (on_same a b e) ∙ is in absurd (cc)))

    read_cons : (AreTold held contents files → IsReadAs held contents files) → IsReadAs held contents ((number, blocks) ∷ files)
    read_cons more =
        let rest = more told_rest in
        record { stand = and_from (stand_in held number blocks) _ (stand_first (cases_lt 0 blocks)) rest.stand; same = λ file key. same_at rest.same file key (one_or_other file number) }

  -- THE FILES OF THE CONFIGURATION

  module _ (volume : ℕ) where
    none_lower : (number : ℕ) (lines : List FileLine) (file : ℕ) → file < number → blocks_of (files_on volume number lines) file ≡ 0
    none_lower number [] file lt = refl
    none_lower number (line ∷ lines) file lt =
        (elim (line.volume == volume) as (λ t. blocks_of (if t then (number, line.blocks) ∷ files_on volume (number + 1) lines else files_on volume (number + 1) lines) file ≡ 0) [
          | true ↦ blocks_other number line.blocks (files_on volume (number + 1) lines) file (λ e. omega (arith, e, lt)) ∙ none_lower (number + 1) lines file (omega (arith, lt))
          | false ↦ none_lower (number + 1) lines file (omega (arith, lt))
        ])

    no_records_lower : (number : ℕ) (lines : List FileLine) (file : ℕ) (key : List ℕ) → file < number → map_of (entries_on held (files_on volume number lines)) file key ≡ None
    no_records_lower number [] file key lt = refl
    no_records_lower number (line ∷ lines) file key lt =
        (elim (line.volume == volume) as (λ t. map_of (entries_on held (if t then (number, line.blocks) ∷ files_on volume (number + 1) lines else files_on volume (number + 1) lines)) file key ≡ None) [
          | true ↦
              on-cons number line.blocks (files_on volume (number + 1) lines) file key
              ∙ ap (λ (o : Option (List ℕ)). option_or o (map_of (entries_on held (files_on volume (number + 1) lines)) file key)) (in_other held number line.blocks file key (off file number (λ e. omega (arith, e, lt))))
              ∙ no_records_lower (number + 1) lines file key (omega (arith, lt))
          | false ↦ no_records_lower (number + 1) lines file key (omega (arith, lt))
        ])

    pub read_on : (number : ℕ) (lines : List FileLine) → AreTold held contents (files_on volume number lines) → IsReadAs held contents (files_on volume number lines)
    read_on number [] = λ told. record { stand = refl; same = λ file key. refl }
    read_on number (line ∷ lines) =
        (elim (line.volume == volume) as (λ t. AreTold held contents (if t then (number, line.blocks) ∷ files_on volume (number + 1) lines else files_on volume (number + 1) lines) → IsReadAs held contents (if t then (number, line.blocks) ∷ files_on volume (number + 1) lines else files_on volume (number + 1) lines)) [
          | true ↦ λ told. read_cons number line.blocks (files_on volume (number + 1) lines) (λ file le. none_lower (number + 1) lines file (omega (arith, le))) (λ file key le. no_records_lower (number + 1) lines file key (omega (arith, le))) told (read_on (number + 1) lines)
          | false ↦ read_on (number + 1) lines
        ])

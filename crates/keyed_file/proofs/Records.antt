-- What is read of a slot is what spells a record.
use Rattle.std.proofs.Common.{◌≡◌, ℕ, ◌+◌, ◌≤◌, Bool, true, false, ◌&&◌, ◌||◌, not, List, [], ◌∷◌, ◌++◌, length, take, drop, replicate, Option, None, refl, sym, ap, ◌∙◌, arith, length-append, length-drop}
use Rattle.std.specs.Prelude.{slice_index, slice_range}
use Rattle.std.specs.List.{list_all}
use Rattle.std.proofs.lemmas.Bool.{and_parts, and_from, leb-true, le-leb}
use Rattle.std.proofs.lemmas.List.{take_all}
use Rattle.tmf_model.specs.Transid.{is_between}
use Rattle.tmf_model.specs.Word.{is_word_byte, is_word, is_key, is_value, padded}
use Rattle.keyed_file.specs.declared.home.Home.{Home}
use Rattle.keyed_file.specs.Block.{is_record}
use Rattle.keyed_file.specs.BlockFormat.{bad_lengths, bad_words, is_behind, is_home_key, key_at, record_at, record_row, record_text}
use Rattle.keyed_file.specs.Fields.{first_of, bad_word}
use Rattle.keyed_file.proofs.Bytes.{AreBytes, option_or-none, option_or-behind, first_of-append, fits, none_unless, holds_word, none_bad_word, length-padded, word_from_held, take-front, drop-front, joined, length-field, field_zeros, field_byte}
use Rattle.keyed_file.proofs.Rows.{SpellsItem, ReadsItem}

-- a word's length and bytes
pub record IsWordOf (most : ℕ) (word : List ℕ) : Type 0 where
  pub some : 1 ≤ length word
  pub few : length word ≤ most
  pub bytes : list_all is_word_byte word ≡ true

pub word_parts : (most : ℕ) (word : List ℕ) → is_word most word ≡ true → IsWordOf most word
word_parts most word v =
    let from_some = and_parts _ _ v in
    let from_few = and_parts _ _ from_some.1 in
    record { some = leb-true 1 (length word) from_some.0; few = leb-true (length word) most from_few.0; bytes = from_few.1 }

-- the lengths in a slot in which nothing is wrong before the key
pub record HasLengths (slot : List ℕ) : Type 0 where
  pub key : is_between 1 16 (slice_index slot 0) ≡ true
  pub value : is_between 1 40 (slice_index slot 1) ≡ true
  pub zeros : slice_range slot 2 8 ≡ replicate 6 0

pub has_lengths : (at : ℕ) (slot : List ℕ) → length slot ≡ 64 → first_of (bad_lengths at slot) ≡ None → HasLengths slot
has_lengths at slot long none =
    let key = option_or-none _ _ none in
    let value = option_or-none _ _ key.1 in
    let rest = option_or-none _ _ value.1 in
    record { key = fits _ at key.0; value = fits _ (at + 1) value.0; zeros = field_zeros (at + 2) 2 6 slot (omega (arith, long)) rest.0 }

or_left : (a b : Bool) → a ≡ true → (not a || b) ≡ true → b ≡ true
or_left true b t e = e
or_left false b t e = absurd cc

or_right : (a b : Bool) → b ≡ true → (a || b) ≡ true
or_right true b e = refl
or_right false b e = e

-- what a slot in which nothing is wrong holds
pub reads_record : (home : Option Home) (at : ℕ) (previous slot : List ℕ) → length slot ≡ 64 → AreBytes slot → (record_row home).bad_item at previous slot ≡ None → ReadsItem (record_row home) previous slot
reads_record home at previous slot long are none =
    let parts = option_or-none (first_of (bad_lengths at slot)) (first_of (bad_words home at previous slot)) (sym (first_of-append (bad_lengths at slot) (bad_words home at previous slot)) ∙ none) in
    let lengths = has_lengths at slot long parts.0 in
    let order = option_or-none _ _ parts.1 in
    let key_none = option_or-none _ _ order.1 in
    let value_none = option_or-none _ _ key_none.1 in
    let behind = and_parts (is_behind previous (key_at slot)) _ (fits _ (at + 8) order.0) in
    let key_len = and_parts _ _ lengths.key in
    let value_len = and_parts _ _ lengths.value in
    let key_some = leb-true 1 (slice_index slot 0) key_len.0 in
    let key_few = leb-true (slice_index slot 0) 16 key_len.1 in
    let value_some = leb-true 1 (slice_index slot 1) value_len.0 in
    let value_few = leb-true (slice_index slot 1) 40 value_len.1 in
    let key = holds_word (at + 8) 16 (slice_index slot 0) (slice_range slot 8 24) (length-field 8 16 slot (omega (arith, long))) key_few key_none.0 in
    let value = holds_word (at + 24) 40 (slice_index slot 1) (slice_range slot 24 64) (length-field 24 40 slot (omega (arith, long))) value_few value_none.0 in
    let is_key = word_from_held 16 (slice_index slot 0) (slice_range slot 8 24) key_some key_few key in
    let is_value = word_from_held 40 (slice_index slot 1) (slice_range slot 24 64) value_some value_few value in
    record {
      fit = and_from _ _ (and_from _ _ is_key is_value) (and_from _ _ behind.0 (or_left _ _ is_key behind.1));
      spelled =
          joined 0 1 slot _ _ (field_byte 0 slot (omega (arith, long)) ∙ ap (λ b. b ∷ []) (sym key.long))
          (joined 1 1 slot _ _ (field_byte 1 slot (omega (arith, long)) ∙ ap (λ b. b ∷ []) (sym value.long))
          (joined 2 6 slot _ _ lengths.zeros
          (joined 8 16 slot _ _ key.spelled
          (sym (take_all 40 (drop 24 slot) (omega (arith, long, length-drop 24 slot))) ∙ value.spelled))));
    }

-- what stands in the slot of a record
pub record InSlot (entry : List ℕ × List ℕ) (slot : List ℕ) : Type 0 where
  pub key : slice_range slot 8 24 ≡ padded 16 entry.0
  pub value : slice_range slot 24 64 ≡ padded 40 entry.1
  pub long : length slot ≡ 64

pub in_slot : (entry : List ℕ × List ℕ) → length entry.0 ≤ 16 → length entry.1 ≤ 40 → InSlot entry (record_text entry)
in_slot entry key_few value_few =
    let key_long = length-padded 16 entry.0 key_few in
    let value_long = length-padded 40 entry.1 value_few in
    let words = padded 16 entry.0 ++ padded 40 entry.1 in
    let behind = drop-front 16 (padded 16 entry.0) (padded 40 entry.1) key_long in
    record {
      key = take-front 16 (padded 16 entry.0) (padded 40 entry.1) key_long;
      value = ap (take 40) behind ∙ take_all 40 (padded 40 entry.1) (omega (arith, value_long));
      long = omega (arith, length-append (padded 16 entry.0) (padded 40 entry.1), key_long, value_long);
    }

pub spells_record : (home : Option Home) (previous : List ℕ) (entry : List ℕ × List ℕ) → (record_row home).fits previous entry ≡ true → SpellsItem (record_row home) previous entry
spells_record home previous entry fit =
    let parts = and_parts (is_record entry) _ fit in
    let words = and_parts (is_key entry.0) (is_value entry.1) parts.0 in
    let order = and_parts (is_behind previous entry.0) (is_home_key home entry.0) parts.1 in
    let key = word_parts 16 entry.0 words.0 in
    let value = word_parts 40 entry.1 words.1 in
    let slot = in_slot entry key.few value.few in
    let key_read = ap (take (length entry.0)) slot.key ∙ take-front (length entry.0) entry.0 _ refl in
    let value_read = ap (take (length entry.1)) slot.value ∙ take-front (length entry.1) entry.1 _ refl in
    let text = record_text entry in
    record {
      long = slot.long;
      read = λ i. (key_read i, value_read i);
      fine = λ at.
          first_of-append (bad_lengths at text) (bad_words home at previous text)
          ∙ option_or-behind _ _
          (
          option_or-behind _ _ (none_unless _ at (and_from _ _ (le-leb 1 (length entry.0) key.some) (le-leb (length entry.0) 16 key.few)))
          ∙ option_or-behind _ _ (none_unless _ (at + 1) (and_from _ _ (le-leb 1 (length entry.1) value.some) (le-leb (length entry.1) 40 value.few)))
          )
          ∙ option_or-behind _ _ (none_unless _ (at + 8) (ap (λ k. is_behind previous k && (not (is_key k) || is_home_key home k)) key_read ∙ and_from _ _ order.0 (or_right _ _ order.1)))
          ∙ option_or-behind _ _ (ap (bad_word (at + 8) (length entry.0)) slot.key ∙ none_bad_word (at + 8) 16 entry.0 key.bytes)
          ∙ option_or-behind _ _ (ap (bad_word (at + 24) (length entry.1)) slot.value ∙ none_bad_word (at + 24) 40 entry.1 value.bytes);
    }

-- nothing is wrong in a slot where nothing is before its key and nothing is from the key on
pub fine_slot : (home : Option Home) (at : ℕ) (previous slot : List ℕ) → first_of (bad_lengths at slot) ≡ None → first_of (bad_words home at previous slot) ≡ None → (record_row home).bad_item at previous slot ≡ None
fine_slot home at previous slot lengths words =
    first_of-append (bad_lengths at slot) (bad_words home at previous slot) ∙ option_or-behind _ _ lengths ∙ words

pub is_record-fine : (home : Option Home) (at : ℕ) (previous slot : List ℕ) → length slot ≡ 64 → AreBytes slot → (record_row home).bad_item at previous slot ≡ None → is_record (record_at slot) ≡ true
is_record-fine home at previous slot long are none = (and_parts (is_record (record_at slot)) _ (reads_record home at previous slot long are none).fit).0

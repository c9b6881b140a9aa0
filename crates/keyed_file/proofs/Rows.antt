-- What is read of a row is what spells it.
use Rattle.std.proofs.Common.{◌≡◌, ℕ, zero, suc, ◌+◌, ◌*◌, ◌-◌, ◌<◌, ◌≤◌, true, List, [], ◌∷◌, ◌++◌, length, take, drop, get_or, replicate, Some, None, refl, sym, ap, ◌∙◌, arith, append_assoc, length-append, length-drop}
use Rattle.std.specs.Prelude.{flat_map}
use Rattle.std.specs.Option.{option_or}
use Rattle.std.proofs.lemmas.List.{append-nil, take-append-drop, length-take-le, take_more}
use Rattle.std.proofs.lemmas.List.Concat.{flat_map-append}
use Rattle.keyed_file.specs.Row.{RowFormat, IsRow, row_at, bad_row}
use Rattle.keyed_file.proofs.Bytes.{AreBytes, AreBytes-take, AreBytes-drop, option_or-none, option_or-behind, option_or-first, zeros, none_nonzero, take-front, drop-front}

-- an item that fits is spelled in its width, with nothing wrong, and is read again
pub record SpellsItem {R M : Type 0} (format : RowFormat R M) (mark : M) (item : R) : Type 0 where
  pub long : length (format.text item) ≡ format.width
  pub read : format.item_at (format.text item) ≡ item
  pub fine : (at : ℕ) → format.bad_item at mark (format.text item) ≡ None

-- bytes with nothing wrong spell an item that fits
pub record ReadsItem {R M : Type 0} (format : RowFormat R M) (mark : M) (bytes : List ℕ) : Type 0 where
  pub fit : format.fits mark (format.item_at bytes) ≡ true
  pub spelled : bytes ≡ format.text (format.item_at bytes)

-- what is read of a row's bytes
pub record ReadsRow {R M : Type 0} (format : RowFormat R M) (mark : M) (count : ℕ) (bytes : List ℕ) : Type 0 where
  pub row : IsRow format mark (row_at format count bytes)
  pub many : length (row_at format count bytes) ≡ count
  pub spelled : bytes ≡ flat_map format.text (row_at format count bytes) ++ replicate (length bytes - count * format.width) 0

module _ {R M : Type 0} (format : RowFormat R M) where
  pub reads_row : ((at : ℕ) (mark : M) (bytes : List ℕ) → length bytes ≡ format.width → AreBytes bytes → format.bad_item at mark bytes ≡ None → ReadsItem format mark bytes)
      → (count at : ℕ) (mark : M) (bytes : List ℕ) → count * format.width ≤ length bytes → AreBytes bytes → bad_row format at mark count bytes ≡ None → ReadsRow format mark count bytes
  reads_row each zero at mark bytes room are none = record { row = tt; many = refl; spelled = zeros at bytes none ∙ ap (λ n. replicate n 0) (omega arith) }
  reads_row each (suc count) at mark bytes room are none =
      let size : format.width ≤ length bytes = omega (arith, room) in
      let item = take format.width bytes in
      let behind = drop format.width bytes in
      let parts = option_or-none (format.bad_item at mark item) _ none in
      let first = each at mark item (length-take-le format.width bytes size) (AreBytes-take format.width bytes are) parts.0 in
      let rest = reads_row each count (at + format.width) (format.mark (format.item_at item)) behind (omega (arith, room, length-drop format.width bytes)) (AreBytes-drop format.width bytes are) parts.1 in
      let left : length behind - count * format.width ≡ length bytes - suc count * format.width = omega (arith, length-drop format.width bytes) in
      record {
        row = (first.fit, rest.row);
        many = ap suc rest.many;
        spelled = sym (take-append-drop format.width bytes) ∙ (λ i. first.spelled i ++ rest.spelled i)
            ∙ sym (append_assoc (format.text (format.item_at item)) (flat_map format.text (row_at format count behind)) (replicate (length behind - count * format.width) 0))
            ∙ ap (λ n. (format.text (format.item_at item) ++ flat_map format.text (row_at format count behind)) ++ replicate n 0) left;
      }

  module _ (each : (mark : M) (item : R) → format.fits mark item ≡ true → SpellsItem format mark item) where
    pub row_at-spelled : (mark : M) (items : List R) (n : ℕ) → IsRow format mark items → row_at format (length items) (flat_map format.text items ++ replicate n 0) ≡ items
    row_at-spelled mark [] n is = refl
    row_at-spelled mark (item ∷ items) n is =
        let first = each mark item is.0 in
        let rest = flat_map format.text items ++ replicate n 0 in
        let parts = append_assoc (format.text item) (flat_map format.text items) (replicate n 0) in
        let front = ap (take format.width) parts ∙ take-front format.width (format.text item) rest first.long in
        let behind = ap (drop format.width) parts ∙ drop-front format.width (format.text item) rest first.long in
        (λ i. format.item_at (front i) ∷ row_at format (length items) (behind i)) ∙ (λ i. first.read i ∷ row_at-spelled (format.mark item) items n is.1 i)

    pub bad_row-spelled : (at : ℕ) (mark : M) (items : List R) (n : ℕ) → IsRow format mark items → bad_row format at mark (length items) (flat_map format.text items ++ replicate n 0) ≡ None
    bad_row-spelled at mark [] n is = none_nonzero at n
    bad_row-spelled at mark (item ∷ items) n is =
        let first = each mark item is.0 in
        let rest = flat_map format.text items ++ replicate n 0 in
        let parts = append_assoc (format.text item) (flat_map format.text items) (replicate n 0) in
        let front = ap (take format.width) parts ∙ take-front format.width (format.text item) rest first.long in
        let behind = ap (drop format.width) parts ∙ drop-front format.width (format.text item) rest first.long in
        (λ i. option_or (format.bad_item at mark (front i)) (bad_row format (at + format.width) (format.mark (format.item_at (front i))) (length items) (behind i)))
        ∙ option_or-behind _ _ (first.fine at)
        ∙ ap (λ m. bad_row format (at + format.width) m (length items) rest) (ap format.mark first.read)
        ∙ bad_row-spelled (at + format.width) (format.mark item) items n is.1

    pub length-row : (mark : M) (items : List R) → IsRow format mark items → length (flat_map format.text items) ≡ length items * format.width
    length-row mark [] is = omega arith
    length-row mark (item ∷ items) is = omega (arith, length-append (format.text item) (flat_map format.text items), (each mark item is.0).long, length-row (format.mark item) items is.1)

module _ {R M : Type 0} (format : RowFormat R M) where
  -- a row of one item or more: the first and the others
  pub bad_row-step : (at : ℕ) (mark : M) (count : ℕ) (bytes : List ℕ) → 0 < count
      → bad_row format at mark count bytes ≡ option_or (format.bad_item at mark (take format.width bytes)) (bad_row format (at + format.width) (format.mark (format.item_at (take format.width bytes))) (count - 1) (drop format.width bytes))
  bad_row-step at mark zero bytes some = absurd (omega arith)
  bad_row-step at mark (suc count) bytes some =
      let less : count ≡ suc count - 1 = omega arith in
      ap (λ n. option_or (format.bad_item at mark (take format.width bytes)) (bad_row format (at + format.width) (format.mark (format.item_at (take format.width bytes))) n (drop format.width bytes))) less

  pub row_at-step : (count : ℕ) (bytes : List ℕ) → 0 < count → row_at format count bytes ≡ format.item_at (take format.width bytes) ∷ row_at format (count - 1) (drop format.width bytes)
  row_at-step zero bytes some = absurd (omega arith)
  row_at-step (suc count) bytes some =
      let less : count ≡ suc count - 1 = omega arith in
      ap (λ n. format.item_at (take format.width bytes) ∷ row_at format n (drop format.width bytes)) less

-- one item of a row
module _ {R M : Type 0} (format : RowFormat R M) (at : ℕ) (mark : M) (left : ℕ) (rest slot behind : List ℕ) (some : 0 < left) (front : slot ≡ take format.width rest) (back : behind ≡ drop format.width rest) where
  pub fine_step : format.bad_item at mark slot ≡ None → bad_row format at mark left rest ≡ bad_row format (at + format.width) (format.mark (format.item_at slot)) (left - 1) behind
  fine_step none =
      bad_row-step format at mark left rest some
      ∙ (λ i. option_or (format.bad_item at mark (sym front i)) (bad_row format (at + format.width) (format.mark (format.item_at (sym front i))) (left - 1) (sym back i)))
      ∙ option_or-behind _ _ none

  pub fault_step : (offset : ℕ) → format.bad_item at mark slot ≡ Some offset → bad_row format at mark left rest ≡ Some offset
  fault_step offset wrong =
      bad_row-step format at mark left rest some
      ∙ (λ i. option_or (format.bad_item at mark (sym front i)) (bad_row format (at + format.width) (format.mark (format.item_at (sym front i))) (left - 1) (sym back i)))
      ∙ option_or-first _ _ offset wrong

  pub items_step : (items : List R) → items ++ row_at format left rest ≡ (items ++ format.item_at slot ∷ []) ++ row_at format (left - 1) behind
  items_step items =
      ap (λ row. items ++ row) (row_at-step format left rest some ∙ (λ i. format.item_at (sym front i) ∷ row_at format (left - 1) (sym back i)))
      ∙ sym (append_assoc items (format.item_at slot ∷ []) (row_at format (left - 1) behind))

-- one item more
pub texts-more : {R : Type 0} (text : R → List ℕ) (items : List R) (i : ℕ) (item : R) → i < length items → item ≡ get_or items i item → flat_map text (take (i + 1) items) ≡ flat_map text (take i items) ++ text item
texts-more text items i item inside is =
    ap (flat_map text) (take_more items i item inside ∙ ap (λ e. take i items ++ e ∷ []) (sym is))
    ∙ flat_map-append text (take i items) (item ∷ [])
    ∙ ap (λ bytes. flat_map text (take i items) ++ bytes) (append-nil (text item))

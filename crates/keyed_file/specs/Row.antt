-- Rows of items: items of one width, each to follow the one before it, and zeros behind the last.
use Rattle.std.specs.Prelude.{◌≡◌, ℕ, zero, suc, ◌+◌, Bool, true, List, [], ◌∷◌, Option, take, drop}
use Rattle.std.specs.Option.{option_or}
use Rattle.keyed_file.specs.Fields.{first_nonzero}

-- What a kind of item is to a row. A mark is what the next item has to stand behind.
pub record RowFormat (R M : Type 0) : Type 0 where
  -- the bytes of an item
  pub width : ℕ
  -- the bytes of an item, and the item that they hold
  pub text : R → List ℕ
  pub item_at : List ℕ → R
  -- each part of the item is in its range, and it may stand behind the mark
  pub fits : M → R → Bool
  pub mark : R → M
  -- the first offset in an item's bytes that is wrong behind the mark; the bytes stand at an offset
  pub bad_item : ℕ → M → List ℕ → Option ℕ

-- the items may stand in this order behind the mark
abbrev pub IsRow : {R M : Type 0} → RowFormat R M → M → List R → Type 0
IsRow format mark [] = Unit {0}
IsRow format mark (item ∷ items) = (format.fits mark item ≡ true) × IsRow format (format.mark item) items

-- the items, of so many, that the bytes hold
abbrev pub row_at : {R M : Type 0} → RowFormat R M → ℕ → List ℕ → List R
row_at format zero bytes = []
row_at format (suc count) bytes = format.item_at (take format.width bytes) ∷ row_at format count (drop format.width bytes)

-- the first offset in the bytes of a row that is wrong: in an item, of so many, or in the zeros behind them
abbrev pub bad_row : {R M : Type 0} → RowFormat R M → ℕ → M → ℕ → List ℕ → Option ℕ
bad_row format at mark zero bytes = first_nonzero at bytes
bad_row format at mark (suc count) bytes =
    let item = take format.width bytes in
    option_or (format.bad_item at mark item) (bad_row format (at + format.width) (format.mark (format.item_at item)) count (drop format.width bytes))

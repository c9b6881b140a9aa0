-- The words that are numbers of transfers.
use Rattle.std.proofs.Common.{◌≡◌, ℕ, ◌<◌, ◌≤◌, Bool, true, false, ◌&&◌, List, [], ◌∷◌, length, map, bytes_eq, Some, None, Ok, Result, refl, sym, ap, ◌∙◌, arith}
use Rattle.std.specs.Prelude.{nat_le}
use Rattle.std.specs.Fmt.{decimal}
use Rattle.std.specs.Str.Parse.{digits_value, ParsesUnsigned}
use Rattle.std.proofs.lemmas.Bool.{cond-true, leb-true, le-leb}
use Rattle.std.proofs.lemmas.Fmt.{decimal_is_IsNumeral, parse-decimal}
use Rattle.std.proofs.lemmas.Option.{cond_some}
use Rattle.std.proofs.lemmas.Slice.Eq.{bytes_eq-Decides}
use Rattle.tmf_model.specs.Transid.{is_between}
use Rattle.tmf_words.specs.Words.{bank_of, folder_of, transfers_of}

both_so : (a b : Bool) → a ≡ true → b ≡ true → (a && b) ≡ true
both_so true b p q = q
both_so false b p q = p

pub first_so : (a b : Bool) → (a && b) ≡ true → a ≡ true
first_so true b e = refl
first_so false b e = e

pub second_so : (a b : Bool) → (a && b) ≡ true → b ≡ true
second_so true b e = e
second_so false b e = cc

-- the decimal text of a number of transfers is one
pub transfers_of-is : (text : List ℕ) (n : ℕ) → text ≡ decimal n → 1 ≤ n → n ≤ 4095 → transfers_of text ≡ Some n
unfolding transfers_of
transfers_of-is text n is above below =
    let value : digits_value 10 text ≡ n = ap (digits_value 10) is ∙ (decimal_is_IsNumeral n (omega arith)).1 in
    let same : bytes_eq (decimal (digits_value 10 text)) text ≡ true = (bytes_eq-Decides (decimal (digits_value 10 text)) text).1 (ap decimal value ∙ sym is) in
    let within : is_between 1 4095 (digits_value 10 text) ≡ true = rw value (both_so _ _ (le-leb 1 n above) (le-leb n 4095 below)) in
    cond-true _ _ _ (both_so _ _ same within) ∙ ap (λ m. Some m) value

-- a word that is a number of transfers is that one's decimal text
pub transfers_of-sound : (text : List ℕ) (n : ℕ) → transfers_of text ≡ Some n → (text ≡ decimal n) × (1 ≤ n) × (n ≤ 4095)
unfolding transfers_of
transfers_of-sound text n e =
    let told = cond_some _ _ _ e in
    let same = (bytes_eq-Decides (decimal (digits_value 10 text)) text).0 (first_so _ _ told.0) in
    let within = second_so (bytes_eq (decimal (digits_value 10 text)) text) (is_between 1 4095 (digits_value 10 text)) told.0 in
    let above : 1 ≤ digits_value 10 text = leb-true 1 (digits_value 10 text) (first_so (nat_le 1 (digits_value 10 text)) (nat_le (digits_value 10 text) 4095) within) in
    let below : digits_value 10 text ≤ 4095 = leb-true (digits_value 10 text) 4095 (second_so (nat_le 1 (digits_value 10 text)) (nat_le (digits_value 10 text) 4095) within) in
    (sym same ∙ ap decimal told.1, omega (arith, told.1), omega (arith, told.1))

-- what is no such text is no number of transfers
pub transfers_of-none : (text : List ℕ) → ((n : ℕ) → text ≡ decimal n → 1 ≤ n → n ≤ 4095 → ⊥) → transfers_of text ≡ None
transfers_of-none text none = elim (transfers_of text) as (λ v. transfers_of text ≡ v → v ≡ None) [
  | None ↦ λ _. refl
  | Some n ↦ λ is. let told = transfers_of-sound text n is in absurd (none n told.0 told.1 told.2)
] refl

-- such a text is read as its number
pub read_number : {E : Type 0} (text : List ℕ) (n : ℕ) (r : Result ℕ E) → text ≡ decimal n → n ≤ 4095 → ParsesUnsigned 32 10 text r → r ≡ Ok n
read_number text n r is below parsed = parse-decimal 32 n text r (omega arith) (omega arith) is parsed

-- fewer than two words ask for no bank run
pub bank_of-short : {S : Type 0} (bytes : S → List ℕ) (words : List S) → length words < 2 → bank_of (map bytes words) ≡ None
bank_of-short bytes [] short = refl
bank_of-short bytes (name ∷ []) short = refl
bank_of-short bytes (name ∷ word ∷ rest) short = absurd (omega arith)

-- and name no folder
pub folder_of-short : {S : Type 0} (bytes : S → List ℕ) (words : List S) → length words < 2 → folder_of (map bytes words) ≡ None
folder_of-short bytes [] short = refl
folder_of-short bytes (name ∷ []) short = refl
folder_of-short bytes (name ∷ word ∷ rest) short = absurd (omega arith)

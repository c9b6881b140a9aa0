-- Words and names are ASCII.
use Rattle.std.proofs.Common.{◌≡◌, ℕ, zero, suc, ◌<◌, ◌≤◌, Bool, true, false, ◌&&◌, ◌||◌, List, [], ◌∷◌, length, lit<, arith, refl}
use Rattle.std.specs.Prelude.{IsTrue, nat_le, ◌==◌}
use Rattle.std.specs.List.{list_all}
use Rattle.std.specs.Str.{IsAscii}
use Rattle.std.proofs.lemmas.Bool.{leb-true, eqb-true}
use Rattle.tmf_model.specs.Word.{is_word_byte, is_word}
use Rattle.tmf_model.specs.Name.{is_upper_case, is_digit, is_name_byte, is_plain_name, is_file_name, is_volume_name, is_name}

left : (a b : Bool) → (a && b) ≡ true → a ≡ true
left true b e = refl
left false b e = e

right : (a b : Bool) → (a && b) ≡ true → b ≡ true
right true b e = e
right false b e = absurd (cc)

either : (a b : Bool) (P : Type 0) → (a ≡ true → P) → (b ≡ true → P) → (a || b) ≡ true → P
either true b P l r e = l refl
either false b P l r e = r e

-- bytes that all pass a test below 128 are ASCII
ascii-all : (test : ℕ → Bool) → ((byte : ℕ) → test byte ≡ true → byte < 128) → (bytes : List ℕ) → list_all test bytes ≡ true → IsAscii bytes
ascii-all test below [] all i = lit< tt
ascii-all test below (x ∷ xs) all zero = below x (left (test x) (list_all test xs) all)
ascii-all test below (x ∷ xs) all (suc i) = ascii-all test below xs (right (test x) (list_all test xs) all) i

ascii-cons : (x : ℕ) (xs : List ℕ) → x < 128 → IsAscii xs → IsAscii (x ∷ xs)
ascii-cons x xs below all zero = below
ascii-cons x xs below all (suc i) = all i

word_byte-below : (byte : ℕ) → is_word_byte byte ≡ true → byte < 128
word_byte-below byte e = let most : byte ≤ 0x7E = leb-true byte 0x7E (right (nat_le 0x21 byte) (nat_le byte 0x7E) e) in omega arith

upper_case-below : (byte : ℕ) → is_upper_case byte ≡ true → byte < 128
upper_case-below byte e = let most : byte ≤ 90 = leb-true byte 90 (right (nat_le 65 byte) (nat_le byte 90) e) in omega arith

digit-below : (byte : ℕ) → is_digit byte ≡ true → byte < 128
digit-below byte e = let most : byte ≤ 57 = leb-true byte 57 (right (nat_le 48 byte) (nat_le byte 57) e) in omega arith

name_byte-below : (byte : ℕ) → is_name_byte byte ≡ true → byte < 128
name_byte-below byte e = either (is_upper_case byte) (is_digit byte) (byte < 128) (upper_case-below byte) (digit-below byte) e

pub word-ascii : (longest : ℕ) (bytes : List ℕ) → IsTrue (is_word longest bytes) → IsAscii bytes
word-ascii longest bytes word = ascii-all is_word_byte word_byte-below bytes
    (right (nat_le (length bytes) longest) (list_all is_word_byte bytes) (right (nat_le 1 (length bytes)) (nat_le (length bytes) longest && list_all is_word_byte bytes) word))

plain_name-ascii : (longest : ℕ) (bytes : List ℕ) → is_plain_name longest bytes ≡ true → IsAscii bytes
plain_name-ascii longest [] e = absurd (cc)
plain_name-ascii longest (first ∷ rest) e =
    ascii-cons first rest (upper_case-below first (left (is_upper_case first) (nat_le (length (first ∷ rest)) longest && list_all is_name_byte rest) e))
    (ascii-all is_name_byte name_byte-below rest (right (nat_le (length (first ∷ rest)) longest) (list_all is_name_byte rest)
    (right (is_upper_case first) (nat_le (length (first ∷ rest)) longest && list_all is_name_byte rest) e)))

volume_name-ascii : (bytes : List ℕ) → is_volume_name bytes ≡ true → IsAscii bytes
volume_name-ascii [] e = absurd (cc)
volume_name-ascii (first ∷ rest) e =
    let dollar : first ≡ 36 = eqb-true first 36 (left (first == 36) (is_plain_name 7 rest) e) in
    ascii-cons first rest (omega arith) (plain_name-ascii 7 rest (right (first == 36) (is_plain_name 7 rest) e))

pub name-ascii : (bytes : List ℕ) → IsTrue (is_name bytes) → IsAscii bytes
name-ascii bytes name = either (is_file_name bytes) (is_volume_name bytes) (IsAscii bytes) (plain_name-ascii 8 bytes) (volume_name-ascii bytes) name

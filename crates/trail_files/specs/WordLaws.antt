-- Laws of fields that hold a word.
use Rattle.std.specs.Prelude.{◌≡◌, ℕ, ◌+◌, ◌-◌, ◌≤◌, List, ◌++◌, length, take, drop, replicate}
use Rattle.std.proofs.Common.{sym, ap, subst, ◌∙◌, length-append}
use Rattle.std.proofs.Math.Nat.{add-sub_of_le, add_comm, le_refl, sub-add-eq-max, le-max_left}
use Rattle.std.proofs.Math.Seq.{take-append_seam, drop-append_seam}
use Rattle.std.proofs.lemmas.List.{length-replicate, length-take-le, take_all}
use Rattle.tmf_model.specs.Word.{padded}
use Rattle.trail_files.specs.WordField.{word_field}

-- the first part of two, whose length is known
pub take-front : (n : ℕ) (xs ys : List ℕ) → length xs ≡ n → take n (xs ++ ys) ≡ xs
take-front n xs ys e = subst (λ (k : ℕ). take k (xs ++ ys) ≡ xs) e (take-append_seam xs ys)

pub drop-front : (n : ℕ) (xs ys : List ℕ) → length xs ≡ n → drop n (xs ++ ys) ≡ ys
drop-front n xs ys e = subst (λ (k : ℕ). drop k (xs ++ ys) ≡ ys) e (drop-append_seam xs ys)

length-padded : (width : ℕ) (word : List ℕ) → length (padded width word) ≡ length word + (width - length word)
length-padded width word = length-append word (replicate (width - length word) 0) ∙ ap (λ n. length word + n) (length-replicate (width - length word) 0)

wide : (width len : ℕ) → width ≤ len + (width - len)
wide width len = subst (λ (n : ℕ). width ≤ n) (sym (add_comm len (width - len) ∙ sub-add-eq-max width len)) (le-max_left width len)

-- a field has its width
pub length-word_field : (width : ℕ) (word : List ℕ) → length (word_field width word) ≡ width
length-word_field width word = length-take-le width (padded width word) (subst (λ (n : ℕ). width ≤ n) (sym (length-padded width word)) (wide width (length word)))

-- a word that fits stands whole in its field, with zeros behind it
pub word_field-padded : (width : ℕ) (word : List ℕ) → length word ≤ width → word_field width word ≡ padded width word
word_field-padded width word h =
    take_all width (padded width word) (subst (λ (n : ℕ). n ≤ width) (sym (length-padded width word ∙ add-sub_of_le h)) (le_refl width))

pub take-word_field : (width : ℕ) (word : List ℕ) → length word ≤ width → take (length word) (word_field width word) ≡ word
take-word_field width word h = ap (take (length word)) (word_field-padded width word h) ∙ take-append_seam word (replicate (width - length word) 0)

-- Words that ask for a bank run ask for no script.
use Rattle.std.specs.Prelude.{Option, Some, None, bytes_eq, codes, is_some, if◌then◌else◌}
use Rattle.std.proofs.Common.{◌≡◌, ◌≢◌, ◌&&◌, ◌||◌, ◌∷◌, [], ℕ, Bool, List, true, false, refl, sym, ap, subst, ◌∙◌}
use Rattle.std.proofs.lemmas.Slice.Eq.{bytes_eq-Decides}
use Rattle.tmf_words.specs.Asked.{asked_for, asked_of}
use Rattle.tmf_words.specs.declared.asked.Asked.TheVariants.{Bank}
use Rattle.tmf_words.specs.Words.{are_accepted, bank_of, is_run, number_first, number_of_first}

-- words that are read as asking for a bank run ask for one
pub asked-bank : (words : List (List ℕ)) (transfers : ℕ) → asked_of words ≡ Bank transfers → bank_of words ≡ Some transfers
asked-bank words transfers is = of (bank_of words) is where
  of : (o : Option ℕ) → asked_for o ≡ Bank transfers → o ≡ Some transfers
  of None is = absurd (cc)
  of (Some other) is = let same : other ≡ transfers = cc in ap Some same

first-of : (a b : Bool) → (a && b) ≡ true → a ≡ true
first-of true b both = refl
first-of false b both = both

-- the word `run` is not the word `bank`
run-word : (word : List ℕ) → bytes_eq word (codes "run") ≡ true → bytes_eq word (codes "bank") ≡ false
run-word word is = subst (λ w. bytes_eq w (codes "bank") ≡ false) (sym ((bytes_eq-Decides word (codes "run")).0 is)) refl

pub run-no-bank : (words : List (List ℕ)) (transfers : ℕ) → is_run words ≡ true → bank_of words ≢ Some transfers
run-no-bank [] transfers run some = absurd (cc)
run-no-bank (name ∷ []) transfers run some = absurd (cc)
run-no-bank (name ∷ word ∷ option) transfers run some =
    let other = run-word word (first-of (bytes_eq word (codes "run")) _ run) in
    let none : bank_of (name ∷ word ∷ option) ≡ None = ap (λ b. if b then number_of_first (number_first option) else None) other in
    absurd (cc)

either-some : (a : Bool) → (a || true) ≡ true
either-some true = refl
either-some false = refl

pub accepted-bank : (words : List (List ℕ)) (transfers : ℕ) → bank_of words ≡ Some transfers → are_accepted words ≢ false
accepted-bank words transfers asked refused =
    let so : are_accepted words ≡ true = ap (λ o. is_run words || is_some o) asked ∙ either-some (is_run words) in
    absurd (cc)

-- Words that are accepted and words that are not, computed.
use Rattle.std.specs.Fmt.{digits}
use Rattle.std.proofs.Common.{◌≡◌, ℕ, true, false, List, [], ◌∷◌, codes, Some, None, refl}
use Rattle.clap.specs.Words.{subcommand_of, takes}
use Rattle.clap.proofs.OnLiterals.{clap_on_literals}
use Rattle.tmf_words.specs.Asked.{asked_of, number_in, program}
use Rattle.tmf_words.specs.declared.asked.Asked.TheVariants.{Bank, Run}
use Rattle.tmf_words.specs.Words.{are_accepted, bank_of, folder_of, transfers_of}

-- the words behind the program's name
abbrev words : List (List ℕ) → List (List ℕ)
words behind = codes "tmf" ∷ behind

-- the number and the folder of each form
forms : (bank_of (words (codes "bank" ∷ codes "5" ∷ [])) ≡ Some 5)
    × (bank_of (words (codes "bank" ∷ codes "4095" ∷ codes "--dir" ∷ codes "d" ∷ [])) ≡ Some 4095)
    × (bank_of (words (codes "bank" ∷ codes "1" ∷ codes "--dir=d" ∷ [])) ≡ Some 1)
    × (bank_of (words (codes "bank" ∷ codes "--dir" ∷ codes "d" ∷ codes "5" ∷ [])) ≡ Some 5)
    × (bank_of (words (codes "bank" ∷ codes "--dir=d" ∷ codes "5" ∷ [])) ≡ Some 5)
    × (folder_of (words (codes "bank" ∷ codes "5" ∷ [])) ≡ None)
    × (folder_of (words (codes "bank" ∷ codes "5" ∷ codes "--dir" ∷ codes "d" ∷ [])) ≡ Some (codes "d"))
    × (folder_of (words (codes "bank" ∷ codes "--dir=d" ∷ codes "5" ∷ [])) ≡ Some (codes "d"))
    × (folder_of (words (codes "bank" ∷ codes "--dir" ∷ codes "5" ∷ codes "5" ∷ [])) ≡ Some (codes "5"))
    × (folder_of (words (codes "run" ∷ codes "--dir" ∷ codes "d" ∷ [])) ≡ Some (codes "d"))
unfolding digits transfers_of
forms = (refl, refl, refl, refl, refl, refl, refl, refl, refl, refl)

-- words of no form
refused : (are_accepted (words (codes "bank" ∷ [])) ≡ false)
    × (are_accepted (words (codes "bank" ∷ codes "0" ∷ [])) ≡ false)
    × (are_accepted (words (codes "bank" ∷ codes "4096" ∷ [])) ≡ false)
    × (are_accepted (words (codes "bank" ∷ codes "007" ∷ [])) ≡ false)
    × (are_accepted (words (codes "bank" ∷ codes "+5" ∷ [])) ≡ false)
    × (are_accepted (words (codes "bank" ∷ codes "5" ∷ codes "5" ∷ [])) ≡ false)
    × (are_accepted (words (codes "bank" ∷ codes "5" ∷ codes "run" ∷ [])) ≡ false)
    × (are_accepted (words (codes "bank" ∷ codes "--dir" ∷ codes "5" ∷ [])) ≡ false)
    × (are_accepted (words (codes "bank" ∷ codes "5" ∷ codes "--dir=" ∷ [])) ≡ false)
    × (are_accepted (words (codes "bank" ∷ codes "--dir=d" ∷ codes "5" ∷ codes "--dir=d" ∷ [])) ≡ false)
    × (are_accepted (words (codes "run" ∷ codes "5" ∷ [])) ≡ false)
unfolding digits transfers_of
refused = (refl, refl, refl, refl, refl, refl, refl, refl, refl, refl, refl)

-- what accepted words ask for, and that of other words there is a run
asked : (asked_of (words (codes "run" ∷ codes "--dir" ∷ codes "bank" ∷ [])) ≡ Run)
    × (asked_of (words (codes "bank" ∷ codes "5" ∷ codes "--dir=d" ∷ [])) ≡ Bank 5)
    × (asked_of (words (codes "bank" ∷ [])) ≡ Run)
unfolding digits transfers_of
asked = (refl, refl, refl)

-- the command takes words of both forms, and none for help
taken : (takes program (words (codes "run" ∷ [])) ≡ true)
    × (takes program (words (codes "bank" ∷ codes "--dir" ∷ codes "d" ∷ codes "5" ∷ [])) ≡ true)
    × (number_in (subcommand_of program (words (codes "bank" ∷ codes "--dir" ∷ codes "d" ∷ codes "5" ∷ []))) ≡ Some 5)
    × (number_in (subcommand_of program (words (codes "run" ∷ codes "--dir" ∷ codes "5" ∷ []))) ≡ None)
    × (takes program (words (codes "--help" ∷ [])) ≡ false)
    × (takes program (words (codes "help" ∷ [])) ≡ false)
    × (takes program (words (codes "run" ∷ codes "-h" ∷ [])) ≡ false)
unfolding digits transfers_of clap_on_literals
taken = (refl, refl, refl, refl, refl, refl, refl)

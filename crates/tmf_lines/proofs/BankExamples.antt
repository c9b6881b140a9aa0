-- What the lines of bank runs come to, computed.
use Rattle.std.specs.Prelude.{negsuc}
use Rattle.std.specs.Fmt.{digits}
use Rattle.std.proofs.Common.{◌≡◌, pos, [], ◌∷◌, codes, refl}
use Rattle.tmf_lines.specs.declared.line.Line.TheVariants as line
use Rattle.tmf_lines.specs.Summary.{number_or_zero, summary_text}
use Rattle.tmf_lines.proofs.Examples.{item, text_of}
use Rattle.tmf_model.specs.declared.script.Reason.TheVariants as reason

-- values that are numbers, and values that are none
numbers : (number_or_zero (codes "-70") ≡ negsuc 69) × (number_or_zero (codes "9223372036854775807") ≡ pos 9223372036854775807) × (number_or_zero (codes "007") ≡ pos 0) × (number_or_zero (codes "9223372036854775808") ≡ pos 0) × (number_or_zero (codes "anna") ≡ pos 0)
unfolding digits
numbers = (refl, refl, refl, refl, refl)

-- an item that has committed and has read, two that have come to something else, accounts of which one's value is no number, and tellers whose listing was refused
sums : summary_text 3
    (line.Committed (item 1 1) 2 ∷ line.Read (item 1 1) 1 (codes "100") ∷ line.Refused (item 1 2) 1 reason.NotNumber ∷ line.Busy (item 1 3) (codes "ACCT") (codes "anna") (item 1 1)
    ∷ line.Entry (codes "ACCT") (codes "anna") (codes "-70") ∷ line.Entry (codes "ACCT") (codes "bert") (codes "20") ∷ line.Entry (codes "ACCT") (codes "carl") (codes "007") ∷ line.Listed (codes "ACCT") 3
    ∷ line.ListNotUp (codes "TELLER") ∷ line.Entry (codes "BRANCH") (codes "1") (codes "5") ∷ line.Listed (codes "BRANCH") 1 ∷ []) ≡ text_of
    (codes "bank 3" ∷ codes "committed 1" ∷ codes "other 2" ∷ codes "accounts -50" ∷ codes "tellers unknown" ∷ [])
unfolding digits
sums = refl

-- a listing of no record has the sum 0
no_records : summary_text 4095 (line.Listed (codes "TELLER") 0 ∷ []) ≡ text_of (codes "bank 4095" ∷ codes "committed 0" ∷ codes "other 0" ∷ codes "accounts unknown" ∷ codes "tellers 0" ∷ [])
unfolding digits
no_records = refl

-- The positions that control points and dumps tell change no record that outcomes leave.
use Rattle.std.specs.Prelude.{◌≡◌, List, [], ◌∷◌, map}
use Rattle.std.specs.List.{cons_option}
use Rattle.std.proofs.Common.{refl, ap, sym, ◌∙◌}
use Rattle.tmf_model.specs.declared.transid.Transid.{Transid}
use Rattle.run_outcomes.specs.declared.outcome.Outcome.{Outcome}
use Rattle.run_outcomes.specs.declared.outcome.Told.{Told}
use Rattle.run_outcomes.specs.declared.outcome.Told.TheVariants.{Controlled, Dumped}
use Rattle.single_law.specs.Left.{end_record, records_left}
use Rattle.single_law.specs.One.{AreSameOutcomes, plain_outcome, without_position}

-- the record that an attempt leaves is the same without a position
same_record : (t : Transid) (told : Told) → end_record t told ≡ end_record t (without_position told)
same_record t (Controlled volume low) = refl
same_record t (Dumped volume start) = refl
same_record t _ = refl

plain_left : (outcomes : List Outcome) → records_left outcomes ≡ records_left (map plain_outcome outcomes)
plain_left [] = refl
plain_left (outcome ∷ outcomes) =
    let first = same_record outcome.tx outcome.told in
    let rest = plain_left outcomes in
    λ i. cons_option (first i) (rest i)

-- outcomes that are the same apart from these positions leave the same records
pub records_same : (outcomes others : List Outcome) → AreSameOutcomes outcomes others → records_left outcomes ≡ records_left others
records_same outcomes others same = plain_left outcomes ∙ (ap records_left same ∙ sym (plain_left others))

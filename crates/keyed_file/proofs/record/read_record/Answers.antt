use Rattle.std.proofs.Common.{sym, ◌∙◌, arith}
use Rattle.std.proofs.lemmas.Bool.{and_parts, leb-true}
use Rattle.std.specs.Prelude.{slice_index}
use Rattle.keyed_file.proofs.Records.{fine_slot, is_record-fine, has_lengths}
use Rattle.keyed_file.proofs.record.read_record.Goals as goal

pub record_in-requires : goal.record_in-requires
record_in-requires c =
    let at = c.args.at in
    let slot = c.args.slot.now in
    let none = sym c.lengths_fault.ensures ∙ c.in_default.is in
    let fine = fine_slot c.args.home at c.args.previous.now slot none (sym c.words_fault.ensures ∙ c.in_default-words_fault.is) in
    let lengths = has_lengths at slot c.requires.slot none in
    record {
      slot = c.requires.slot;
      key = leb-true (slice_index slot 0) 16 (and_parts _ _ lengths.key).1;
      value = leb-true (slice_index slot 1) 40 (and_parts _ _ lengths.value).1;
      holds = is_record-fine c.args.home at c.args.previous.now slot c.requires.slot (record { at = λ i. omega (arith, c.type_inv.slot i) }) fine;
    }

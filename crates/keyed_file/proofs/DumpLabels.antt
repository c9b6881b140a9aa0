-- What is read of a dump label's bytes is what spells it.
use Rattle.std.proofs.Common.{◌≡◌, ℕ, true, List, [], ◌∷◌, length, drop, None, sym, ap, ◌∙◌, arith, length-drop, eqb-true}
use Rattle.std.specs.Prelude.{◌==◌, nat_le, slice_index}
use Rattle.std.proofs.lemmas.Bool.{leb-true, le-leb}
use Rattle.std.proofs.lemmas.List.{take_all}
use Rattle.std.proofs.lemmas.Nat.{from_be_bytes-to_be_bytes_8}
use Rattle.tmf_model.specs.Transid.{is_between}
use Rattle.keyed_file.specs.declared.dump_label.DumpLabel.{DumpLabel}
use Rattle.keyed_file.specs.LabelFormat.{IsDumpLabel, bad_dump_label, bad_dump_label_at, dump_at, dump_text, sequence_at, start_at}
use Rattle.keyed_file.specs.Fields.{offset_unless}
use Rattle.keyed_file.proofs.Differences.{least-nones}
use Rattle.keyed_file.proofs.Bytes.{AreBytes, below_64, between, field_64, field_byte, field_zeros, fits, joined, none_unless, option_or-behind, option_or-none, within}

-- what bytes in which nothing is wrong hold
pub record ReadsDump (bytes : List ℕ) : Type 0 where
  pub valid : IsDumpLabel (dump_at bytes)
  pub spelled : bytes ≡ dump_text (dump_at bytes)

pub reads_dump : (bytes : List ℕ) → length bytes ≡ 256 → AreBytes bytes → bad_dump_label bytes ≡ None → ReadsDump bytes
reads_dump bytes long are none =
    let at_0 = option_or-none _ _ none in
    let at_1 = option_or-none _ _ at_0.1 in
    let at_2 = option_or-none _ _ at_1.1 in
    let at_3 = option_or-none _ _ at_2.1 in
    let at_8 = option_or-none _ _ at_3.1 in
    let at_16 = option_or-none _ _ at_8.1 in
    let at_24 = option_or-none _ _ at_16.1 in
    let version = eqb-true (slice_index bytes 0) 1 (fits _ 0 at_0.0) in
    let small = below_64 16 bytes are in
    record {
      valid = record {
        volume = within 1 8 _ (fits _ 1 at_1.0);
        body = within 2 3 _ (fits _ 2 at_2.0);
        start = within 1 4611686018427387904 _ (fits _ 8 at_8.0);
        sequence = record { above = leb-true 1 (sequence_at bytes) (fits _ 16 at_16.0); below = omega (arith, small) };
      };
      spelled =
          joined 0 1 bytes _ _ (field_byte 0 bytes (omega (arith, long)) ∙ ap (λ b. b ∷ []) version)
          (joined 1 1 bytes _ _ (field_byte 1 bytes (omega (arith, long)))
          (joined 2 1 bytes _ _ (field_byte 2 bytes (omega (arith, long)))
          (joined 3 5 bytes _ _ (field_zeros 3 3 5 bytes (omega (arith, long)) at_3.0)
          (joined 8 8 bytes _ _ (field_64 8 bytes are (omega (arith, long)))
          (joined 16 8 bytes _ _ (field_64 16 bytes are (omega (arith, long)))
          (sym (take_all 232 (drop 24 bytes) (omega (arith, length-drop 24 bytes, long))) ∙ field_zeros 24 24 232 bytes (omega (arith, long)) at_24.0))))));
    }

-- what a dump label's bytes hold
pub record SpellsDump (label : DumpLabel) : Type 0 where
  pub read : dump_at (dump_text label) ≡ label
  pub fine : bad_dump_label (dump_text label) ≡ None

pub spells_dump : (label : DumpLabel) → IsDumpLabel label → SpellsDump label
spells_dump label is =
    let text = dump_text label in
    let start : start_at text ≡ label.start = from_be_bytes-to_be_bytes_8 label.start (omega (arith, is.start.below)) in
    let sequence : sequence_at text ≡ label.sequence = from_be_bytes-to_be_bytes_8 label.sequence (omega (arith, is.sequence.below)) in
    record {
      read = λ i. record { volume = label.volume; body = label.body; start = start i; sequence = sequence i };
      fine =
          option_or-behind _ _ (none_unless _ 1 (between 1 8 label.volume is.volume))
          ∙ option_or-behind _ _ (none_unless _ 2 (between 2 3 label.body is.body))
          ∙ option_or-behind _ _ (none_unless _ 8 (ap (is_between 1 4611686018427387904) start ∙ between 1 4611686018427387904 label.start is.start))
          ∙ option_or-behind _ _ (none_unless _ 16 (ap (nat_le 1) sequence ∙ le-leb 1 label.sequence is.sequence.above));
    }

-- the bytes of a volume's dump label have nothing wrong for that volume
pub fine_at : (volume : ℕ) (bytes : List ℕ) (label : DumpLabel) → IsDumpLabel label → label.volume ≡ volume → bytes ≡ dump_text label → bad_dump_label_at volume bytes ≡ None
fine_at volume bytes label is same spelled =
    least-nones (bad_dump_label bytes) (offset_unless (slice_index bytes 1 == volume) 1) (ap bad_dump_label spelled ∙ (spells_dump label is).fine)
    (none_unless (slice_index bytes 1 == volume) 1 (equal (slice_index bytes 1) volume (ap (λ l. slice_index l 1) spelled ∙ same)))
  where
    equal : (a b : ℕ) → a ≡ b → (a == b) ≡ true
    equal a b e = grind (arith, e)

use Rattle.std.proofs.Common.{◌≡◌, ◌+◌, ◌*◌, take}
use Rattle.trail_files.specs.declared.rules.Rules.{Rules}
use Rattle.trail_files.specs.Format.{text}
use Rattle.trail_files.specs.Text.{records_text}
use Rattle.trail_files.proofs.batch.fill_records.Given as goal

abbrev pub invariant-loop-record : goal.invariant-loop-record
invariant-loop-record g l = record {
  at : l.at ≡ l.record-index * l.size;
  next : l.next ≡ l.place + l.record-index;
  written : (rules : Rules) → take l.at l.into ≡ records_text (text (g.R.Spelled.format rules)) l.place (take l.record-index l.records);
}

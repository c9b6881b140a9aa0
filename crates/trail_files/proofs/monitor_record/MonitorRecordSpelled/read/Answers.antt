use Rattle.std.specs.Prelude.{false, ◌%◌, ◌^◌}
use Rattle.std.proofs.Common.{sym, ap, ◌∙◌, Ok, arith}
use Rattle.std.proofs.Math.Nat.{mod-lt}
use Rattle.trail_files.specs.MonitorFormat.{monitor_fields, monitor_record_at}
use Rattle.trail_files.specs.MonitorLaws.{monitor_record_at-spelling}
use Rattle.trail_files.specs.RecordTable.{first_bad, number_at}
use Rattle.trail_files.specs.MonitorReading.{monitor_read, monitor_fits, number_at-spelling}
use Rattle.trail_files.proofs.monitor_record.MonitorRecordSpelled.read.Goals as goal

pub returns-in-Some-clause-only : goal.returns-in-Some-clause-only
returns-in-Some-clause-only c = λ item place valid is.
    let fits = ap (λ b. first_bad (monitor_fields false b)) is ∙ monitor_fits item (place % 2 ^ 64) valid in
    absurd (cc (c.in-Some.ensures, fits))

pub returns-in-None-clause-found : goal.returns-in-None-clause-found
returns-in-None-clause-found c =
    let read = monitor_read c.args.bytes.now c.requires.length (record { at = λ i. omega (arith, c.type_inv.bytes i) }) (sym c.in-None.ensures) in
    rw (c.monitor_record.ensures, c.written_number.ensures) read

pub returns-in-None-clause-only : goal.returns-in-None-clause-only
returns-in-None-clause-only c = λ item place valid is.
    let same = c.monitor_record.ensures ∙ ap monitor_record_at is ∙ monitor_record_at-spelling item (place % 2 ^ 64) valid in
    let number = c.written_number.ensures ∙ ap number_at is ∙ number_at-spelling item (place % 2 ^ 64) (mod-lt place (omega arith)) in
    λ i. Ok (same i, number i)

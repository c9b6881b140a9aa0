use Rattle.std.specs.Prelude.{◌≡◌, ◌+◌, ◌==◌, ◌&&◌, not, false, [], ◌∷◌, length, is_some}
use Rattle.std.specs.Option.{option_or}
use Rattle.std.proofs.Common.{ap, sym, ◌∙◌}
use Rattle.trail_files.specs.declared.damage.DamageKind.TheVariants.{BadRecord, Order}
use Rattle.trail_files.specs.MonitorFormat.{monitor_record_at}
use Rattle.trail_files.specs.MonitorOrder.{has_epoch_after, begins_trail, monitor_order_fields}
use Rattle.trail_files.specs.RecordOrder.{damage_of}
use Rattle.trail_files.specs.RecordTable.{first_bad, number_at}
use Rattle.trail_files.specs.MonitorDamage.{first_place}
use Rattle.trail_files.proofs.MonitorDoubled.{damage_if-past, doubled_damage}
use Rattle.trail_files.proofs.monitor_order.MonitorOrder.damage.Goals as goal

pub returns-clause-told : goal.returns-clause-told
returns-clause-told c = λ before stands place_is.
    let bytes = c.args.bytes.now in
    let first = first_place (length before) c.args.place place_is in
    let right : (length before == 0 && not (begins_trail bytes)) ≡ false = ap (λ b. b && not (begins_trail bytes)) first ∙ sym c.begins_wrong.ensures ∙ c.if-begins_wrong.false in
    let due : c.is_due.result ≡ has_epoch_after before (monitor_record_at bytes) = c.is_due.ensures before stands ∙ ap (has_epoch_after before) c.monitor_record.ensures in
    let placed : (c.from.result == c.args.place) ≡ (number_at bytes == 1 + length before) = λ i. (c.from.ensures ∙ c.written_number.ensures) i == place_is i in
    let astray : c.first_bad_field-astray.result ≡ first_bad (monitor_order_fields before bytes) =
    c.first_bad_field-astray.ensures ∙ (λ i. first_bad ((4, due i) ∷ (16, placed i) ∷ [])) in
    c.or.ensures
    ∙ (λ i. option_or (c.damage_at.ensures i) (c.damage_at-2.ensures i))
    ∙ (λ i. option_or (damage_of BadRecord (c.bad_monitor_field-bad.ensures i)) (damage_of Order (astray i)))
    ∙ sym (damage_if-past c.args.doubled before bytes right)

pub returns-clause-doubled : goal.returns-clause-doubled
returns-clause-doubled c = λ doubled.
    ap (λ r. is_some r) (c.or.ensures ∙ (λ i. option_or (c.damage_at.ensures i) (c.damage_at-2.result)))
    ∙ doubled_damage c.bad_monitor_field-bad.result c.damage_at-2.result c.args.doubled c.args.bytes.now c.bad_monitor_field-bad.ensures doubled

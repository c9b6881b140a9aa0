use Rattle.std.specs.Prelude.{◌≡◌, true, false}
use Rattle.std.proofs.Common.{ap, sym, ◌∙◌}
use Rattle.std.proofs.lemmas.Bool.{not-true, not-false}
use Rattle.trail_files.specs.MonitorOrder.{is_doubled, ends_again, monitor_follows, damage_if}
use Rattle.trail_files.specs.MonitorDamage.{next_from_none}
use Rattle.trail_files.proofs.MonitorDoubled.{again_doubled, only_doubled}
use Rattle.trail_files.proofs.monitor_order.MonitorOrder.read_next.Goals as goal

pub returns-in-Some-clause-cause : goal.returns-in-Some-clause-cause
returns-in-Some-clause-cause c = λ before stands place_is.
    c.damage_or-at.ensures before stands place_is (sym (c.in-Some.ensures.told before stands place_is))

pub returns-then-is_new-clause-found : goal.returns-then-is_new-clause-found
returns-then-is_new-clause-found c = λ before stands place_is.
    let bytes = c.args.bytes.now in
    let item = c.monitor_record-item.ensures in
    let fresh : ends_again before c.monitor_record-item.result ≡ false = not-true (ends_again before c.monitor_record-item.result) (sym (c.in-Ok.ensures.new before stands) ∙ c.if-is_new.true) in
    let single : is_doubled before bytes ≡ false = sym (again_doubled before bytes) ∙ ap (ends_again before) (sym item) ∙ fresh in
    let none = ap (λ d. damage_if d before bytes) single ∙ sym (c.damage.ensures.told before stands place_is) ∙ c.in_default.is in
    let follows = ap (monitor_follows before) item ∙ (next_from_none before bytes none).follows in
    (item, none, c.in-Ok.ensures.stands before stands follows)

pub returns-else-is_new-clause-cause : goal.returns-else-is_new-clause-cause
returns-else-is_new-clause-cause c = λ before stands place_is.
    let bytes = c.args.bytes.now in
    let again : ends_again before c.monitor_record-item.result ≡ true = not-false (ends_again before c.monitor_record-item.result) (sym (c.in-Ok.ensures.new before stands) ∙ c.if-is_new.false) in
    let double : is_doubled before bytes ≡ true = sym (again_doubled before bytes) ∙ ap (ends_again before) (sym c.monitor_record-item.ensures) ∙ again in
    ap (λ d. damage_if d before bytes) double ∙ only_doubled before bytes (sym (c.damage.ensures.told before stands place_is) ∙ c.in_default.is)

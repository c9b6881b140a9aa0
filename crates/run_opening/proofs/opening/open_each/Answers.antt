use Rattle.std.proofs.Common.{ℕ, List, ◌∷◌, length, drop, add-one, refl, sym, subst, ap, ◌∙◌, arith}
use Rattle.std.proofs.lemmas.List.{length-drop}
use Rattle.trail_replay.proofs.Rows.{drop-first}
use Rattle.run_outcomes.specs.Run.{volumes_named}
use Rattle.run_opening.specs.Opening.{AreOpenedSoFar, IsKeptAmong, IsRefusedAt}
use Rattle.run_opening.specs.declared.kept.Kept.TheVariants as kept
use Rattle.run_opening.proofs.Each.{none_opened, none_seen, one_more}
use Rattle.run_opening.proofs.Lists.{none_behind}
use Rattle.run_opening.proofs.Refusals.{never_ok}
use Rattle.run_opening.proofs.opening.open_each.Goals as goal

pub loop-number-init : goal.loop-number-init
loop-number-init g c = record {
  so_far = none_opened g.D.Disk c.args.run.config.now c.args.run.epoch (volumes_named c.args.run.config.now c.args.run.phase.now) c.args.row.now.devices c.args.kept.now.items c.requires.kept.0;
  count = ap length c.requires.kept.0;
  rest = refl;
  seen = none_seen g.D.Disk c.args.run.config.now c.args.row.now.devices c.none-lasts.result c.none-lasts.ensures;
  room = refl;
  capacity = refl;
}

pub take_first-requires : goal.take_first-requires
take_first-requires g c =
    let loop = c.loop-number in
    omega (arith, ap length loop.invariant.rest, length-drop loop.number c.args.row.now.devices, c.requires.row.0, c.loop-number-test.true)

pub put_first-requires : goal.put_first-requires
put_first-requires g c =
    let loop = c.loop-number in
    omega (arith, ap length loop.invariant.rest, length-drop loop.number c.args.row.now.devices, ap length c.take_first.ensures.first, c.take_first.ensures.room, loop.invariant.room, c.requires.row.0, c.requires.row.1, c.loop-number-test.true)

pub push_reserved-requires : goal.push_reserved-requires
push_reserved-requires g c =
    let loop = c.loop-number in
    omega (arith, loop.invariant.count, loop.invariant.capacity, loop.kept.ok.0, c.requires.kept.1, c.loop-number-test.true)

pub open_device-requires-clause-count : goal.open_device-requires-clause-count
open_device-requires-clause-count g c = ap length c.as_slice.ensures.value ∙ c.loop-number.invariant.count

pub returns-clause-all : goal.returns-clause-all
returns-clause-all g c =
    let loop = c.loop-number in
    let inv = loop.invariant in
    let many = c.loop-number-test.false in
    (omega (arith, inv.count, many, loop.far-number), inv.rest ∙ none_behind loop.number c.args.row.now.devices (omega (arith, c.requires.row.0, many)))

pub loop-number-preserved : goal.loop-number-preserved
loop-number-preserved g c =
    let loop = c.loop-number in
    let inv = loop.invariant in
    let old = c.args.row.now.devices in
    let first = drop-first loop.number old c.take_first.result c.take_first.new.self.devices (sym inv.rest ∙ c.take_first.ensures.first) in
    let so_far = subst (AreOpenedSoFar g.D.Disk c.args.run.config.now c.args.run.epoch (volumes_named c.args.run.config.now c.args.run.phase.now) old) (sym c.as_slice.ensures.value) inv.so_far in
    record {
      so_far = subst (AreOpenedSoFar g.D.Disk c.args.run.config.now c.args.run.epoch (volumes_named c.args.run.config.now c.args.run.phase.now) old) (sym c.push_reserved.ensures.items)
          (one_more g.D.Disk c.args.run.config.now c.args.run.epoch (volumes_named c.args.run.config.now c.args.run.phase.now) old loop.kept.items loop.number c.take_first.result c.in-Ok.one inv.count first.0 inv.so_far
          (subst (λ xs. IsKeptAmong g.D.Disk c.args.run.config.now c.args.run.epoch (volumes_named c.args.run.config.now c.args.run.phase.now) old xs loop.number c.take_first.result c.in-Ok.one) c.as_slice.ensures.value (c.in-Ok.ensures.kept old first.0 inv.seen))
          (λ tell. c.in-Ok.ensures.judged old first.0 tell inv.seen so_far));
      count = omega (arith, inv.count, c.push_reserved.ensures.len);
      rest = first.1 ∙ ap (λ (n : ℕ). drop n old) (sym (add-one loop.number));
      seen = c.in-Ok.ensures.seen old first.0 inv.seen;
      room = c.take_first.ensures.room ∙ inv.room;
      capacity = c.push_reserved.ensures.capacity ∙ inv.capacity;
    }

pub returns-in-Err-clause-refused : goal.returns-in-Err-clause-refused
returns-in-Err-clause-refused g c =
    let loop = c.loop-number in
    let inv = loop.invariant in
    let old = c.args.row.now.devices in
    let first = drop-first loop.number old c.take_first.result c.take_first.new.self.devices (sym inv.rest ∙ c.take_first.ensures.first) in
    let so_far = subst (AreOpenedSoFar g.D.Disk c.args.run.config.now c.args.run.epoch (volumes_named c.args.run.config.now c.args.run.phase.now) old) (sym c.as_slice.ensures.value) inv.so_far in
    subst (λ (n : ℕ). IsRefusedAt g.D.Disk c.args.run.config.now c.args.run.epoch (volumes_named c.args.run.config.now c.args.run.phase.now) old c.put_first.new.self.devices n c.in-Err.why) (sym inv.count) (record {
      before = c.take_first.result;
      after = c.in-Err.device;
      was = first.0;
      is = c.put_first.ensures.devices ∙ ap (λ (xs : List _). c.in-Err.device ∷ xs) (first.1 ∙ ap (λ (n : ℕ). drop n old) (sym (add-one loop.number)));
      declared = λ out. never_ok (c.in-Err.device, c.in-Err.why) (kept.Idle c.take_first.result) (c.in-Err.ensures.untouched out);
      refused = c.in-Err.ensures.refused;
      damage = λ tell. c.in-Err.ensures.judged old first.0 tell inv.seen so_far;
    })

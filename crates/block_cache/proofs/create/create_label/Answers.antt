use Rattle.std.proofs.Common.{◌≡◌, length, sym, subst, ◌∙◌, arith}
use Rattle.std.specs.Prelude.{IsTrue}
use Rattle.std.proofs.lemmas.List.{length-take-le}
use Rattle.std.proofs.lemmas.Result.{on_ok_weaker, on_err_weaker}
use Rattle.disk_model.specs.Held.{written, synced, created}
use Rattle.block_cache.proofs.Labelling.{IsBehindGate, behind_gate, create_err, gate_ok, gate_err}
use Rattle.block_cache.proofs.Places.{on_err}
use Rattle.block_cache.proofs.create.create_label.Goals as goal

pub returns-in_err-create-clause-err : goal.returns-in_err-create-clause-err
returns-in_err-create-clause-err g c = λ told. on_err c.from_residual.result _
    (create_err c.args.label.now (g.D.Disk.held c.args.device.now) (g.D.Disk.held c.create.new.self) (c.create.ensures.others told) (c.in_err-create.ensures.err told) (c.requires.lost told))

pub slice_bounds-bytes-end : goal.slice_bounds-bytes-end
slice_bounds-bytes-end g c = sym (length-take-le 767 c.deref_mut.result.now (omega (arith, c.deref_mut.ensures.len, c.deref_mut.ensures.value, c.requires.room)))

pub fill_label-requires-clause-bytes : goal.fill_label-requires-clause-bytes
fill_label-requires-clause-bytes g c = length-take-le 767 c.deref_mut.result.now (omega (arith, c.deref_mut.ensures.len, c.deref_mut.ensures.value, c.requires.room))

pub put-requires-2 : goal.put-requires-2
put-requires-2 g c = λ told-2.
    let told-1 : IsTrue (g.D.Disk.tells c.create.new.self) = subst IsTrue c.put.ensures.tells told-2 in
    let told : IsTrue (g.D.Disk.tells c.args.device.now) = subst IsTrue c.create.ensures.tells told-1 in
    (synced (written 1 c.fill_label.new.into created), c.in_ok-put.ensures.ok told-1 created (c.in_ok-create.ensures.ok told), omega arith)

pub returns-clause-ok : goal.returns-clause-ok
returns-clause-ok g c = λ told.
    let long : length c.fill_label.new.into ≡ 767 = c.fill_label.auto.into ∙ length-take-le 767 c.deref_mut.result.now (omega (arith, c.deref_mut.ensures.len, c.deref_mut.ensures.value, c.requires.room)) in
    let f = synced (written 1 c.fill_label.new.into created) in
    let behind : IsBehindGate c.args.label.now f = behind_gate c.args.label.now c.fill_label.new.into long c.fill_label.ensures.selector c.fill_label.ensures.spelled (c.spelling_length_law.ensures.label c.args.label.now c.requires.label) in
    let told-1 : IsTrue (g.D.Disk.tells c.create.new.self) = subst IsTrue (sym c.create.ensures.tells) told in
    let told-2 : IsTrue (g.D.Disk.tells c.put.new.device) = subst IsTrue (sym c.put.ensures.tells) told-1 in
    let at = c.in_ok-put.ensures.ok told-1 created (c.in_ok-create.ensures.ok told) in
    on_ok_weaker c.put-2.result (λ ok. (_, ok f at, gate_ok c.args.label.now f behind)) (c.put-2.ensures.ok told-2)

pub returns-clause-err : goal.returns-clause-err
returns-clause-err g c = λ told.
    let long : length c.fill_label.new.into ≡ 767 = c.fill_label.auto.into ∙ length-take-le 767 c.deref_mut.result.now (omega (arith, c.deref_mut.ensures.len, c.deref_mut.ensures.value, c.requires.room)) in
    let f = synced (written 1 c.fill_label.new.into created) in
    let behind : IsBehindGate c.args.label.now f = behind_gate c.args.label.now c.fill_label.new.into long c.fill_label.ensures.selector c.fill_label.ensures.spelled (c.spelling_length_law.ensures.label c.args.label.now c.requires.label) in
    let told-1 : IsTrue (g.D.Disk.tells c.create.new.self) = subst IsTrue (sym c.create.ensures.tells) told in
    let told-2 : IsTrue (g.D.Disk.tells c.put.new.device) = subst IsTrue (sym c.put.ensures.tells) told-1 in
    let at = c.in_ok-put.ensures.ok told-1 created (c.in_ok-create.ensures.ok told) in
    on_err_weaker c.put-2.result (λ left. let l = left f at in gate_err c.args.label.now (g.D.Disk.held c.put-2.new.device) f l.0 behind l.2 l.1) (c.put-2.ensures.err told-2)

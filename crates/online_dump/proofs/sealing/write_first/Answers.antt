use Rattle.std.proofs.Common.{◌≡◌, length, sym, subst, arith}
use Rattle.std.specs.Prelude.{IsTrue}
use Rattle.std.proofs.lemmas.Result.{on_ok_weaker, on_err_weaker}
use Rattle.disk_model.specs.Held.{written, synced, created}
use Rattle.keyed_file.specs.LabelFormat.{dump_text}
use Rattle.online_dump.proofs.Sealings.{first_left, first_put, shut_after}
use Rattle.online_dump.proofs.Stands.{length-written}
use Rattle.online_dump.proofs.sealing.write_first.Goals as goal

pub returns-clause-ok : goal.returns-clause-ok
returns-clause-ok g c = λ told.
    let told-1 : IsTrue (g.D.Disk.tells c.create.new.self) = subst IsTrue (sym c.create.ensures.tells) told in
    let whole : length c.fill_label.new.into ≡ 767 = c.fill_label.auto.into in
    let made = first_put c.fill_label.new.into (dump_text c.args.label.now) whole c.fill_label.ensures.long c.fill_label.ensures.selector c.fill_label.ensures.spelled in
    on_ok_weaker c.put.result (λ put. (synced (written 1 c.fill_label.new.into created), put created (c.in_ok-create.ensures.ok told), made)) (c.put.ensures.ok told-1)

pub returns-clause-err : goal.returns-clause-err
returns-clause-err g c = λ any told shut.
    let told-1 : IsTrue (g.D.Disk.tells c.create.new.self) = subst IsTrue (sym c.create.ensures.tells) told in
    on_err_weaker c.put.result (λ left. let l = left created (c.in_ok-create.ensures.ok told) in shut_after (g.D.Disk.held c.put.new.device) l.0 l.1 (first_left c.fill_label.new.into l.0 l.2)) (c.put.ensures.err told-1)

pub returns-clause-there : goal.returns-clause-there
returns-clause-there g c = λ told.
    let told-1 : IsTrue (g.D.Disk.tells c.create.new.self) = subst IsTrue (sym c.create.ensures.tells) told in
    let whole : length c.fill_label.new.into ≡ 767 = c.fill_label.auto.into in
    on_ok_weaker c.put.result (λ put. (synced (written 1 c.fill_label.new.into created), put created (c.in_ok-create.ensures.ok told), omega (arith, (length-written 1 c.fill_label.new.into created (omega arith)).1, whole))) (c.put.ensures.ok told-1)

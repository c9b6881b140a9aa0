use Rattle.std.proofs.Common.{◌-◌, ◌∷◌, [], Option, Some, sym, subst, arith}
use Rattle.std.proofs.lemmas.Result.{on_ok_weaker, on_err_weaker}
use Rattle.disk_model.specs.Held.{synced, written}
use Rattle.keyed_file.specs.LabelFormat.{dump_text}
use Rattle.block_cache.specs.declared.pair.PairPhase.TheVariants.{Offered, Settled}
use Rattle.online_dump.specs.Sealing.{HoldsLabel, next_slot}
use Rattle.online_dump.specs.declared.sealed.SealedDump.{SealedDump}
use Rattle.online_dump.proofs.Sealings.{behind, file_kept, gate_left, gate_put, selector_left, selector_put}
use Rattle.online_dump.proofs.sealing.name_label.Goals as goal

pub returns-in-None-clause-ok : goal.returns-in-None-clause-ok
returns-in-None-clause-ok g c = λ label phase any told under_way was.
    let held = g.D.Disk.held c.args.device.now in
    let b = behind label phase held under_way (subst (λ (o : Option SealedDump). HoldsLabel o phase (dump_text label) held) c.in-None.is was) in
    on_ok_weaker c.put.result (λ put.
    subst (λ (o : Option SealedDump). HoldsLabel (Some (record { label = label; slot = next_slot o })) Settled any (g.D.Disk.held c.put.new.device)) (sym c.in-None.is)
    (synced (written 0 (1 ∷ []) b.0), put b.0 b.1, gate_put label b.0 b.2 any)) (c.put.ensures.ok told)

pub returns-in-None-clause-err : goal.returns-in-None-clause-err
returns-in-None-clause-err g c = λ label phase told under_way was.
    let held = g.D.Disk.held c.args.device.now in
    let b = behind label phase held under_way (subst (λ (o : Option SealedDump). HoldsLabel o phase (dump_text label) held) c.in-None.is was) in
    on_err_weaker c.put.result (λ left. let l = left b.0 b.1 in
    subst (λ (o : Option SealedDump). HoldsLabel o Offered (dump_text label) (g.D.Disk.held c.put.new.device)) (sym c.in-None.is) (l.0, l.1, gate_left label b.0 b.2 l.0 l.2)) (c.put.ensures.err told)

pub returns-in-Some-clause-ok : goal.returns-in-Some-clause-ok
returns-in-Some-clause-ok g c = λ label phase any told under_way was.
    let dump = c.in-Some.dump in
    let holds = subst (λ (o : Option SealedDump). HoldsLabel o phase (dump_text label) (g.D.Disk.held c.args.device.now)) c.in-Some.is was in
    on_ok_weaker c.put-in-Some.result (λ put.
    subst (λ (o : Option SealedDump). HoldsLabel (Some (record { label = label; slot = next_slot o })) Settled any (g.D.Disk.held c.put-in-Some.new.device)) (sym c.in-Some.is)
    (synced (written 1 ((1 - dump.slot) ∷ []) holds.0), put holds.0 holds.1, selector_put dump label phase under_way holds.0 holds.2 any)) (c.put-in-Some.ensures.ok told)

pub returns-in-Some-clause-err : goal.returns-in-Some-clause-err
returns-in-Some-clause-err g c = λ label phase told under_way was.
    let dump = c.in-Some.dump in
    let holds = subst (λ (o : Option SealedDump). HoldsLabel o phase (dump_text label) (g.D.Disk.held c.args.device.now)) c.in-Some.is was in
    on_err_weaker c.put-in-Some.result (λ left. let l = left holds.0 holds.1 in
    subst (λ (o : Option SealedDump). HoldsLabel o Offered (dump_text label) (g.D.Disk.held c.put-in-Some.new.device)) (sym c.in-Some.is) (l.0, l.1, selector_left dump label phase under_way holds.0 holds.2 l.0 l.2)) (c.put-in-Some.ensures.err told)

pub returns-in-None-clause-there : goal.returns-in-None-clause-there
returns-in-None-clause-there g c = λ told.
    file_kept c.put.result 0 (1 ∷ []) (g.D.Disk.held c.args.device.now) (g.D.Disk.held c.put.new.device) (c.requires.there told) (omega arith) (c.put.ensures.ok told) (c.put.ensures.err told)

pub returns-in-Some-clause-there : goal.returns-in-Some-clause-there
returns-in-Some-clause-there g c = λ told.
    file_kept c.put-in-Some.result 1 ((1 - c.in-Some.dump.slot) ∷ []) (g.D.Disk.held c.args.device.now) (g.D.Disk.held c.put-in-Some.new.device) (c.requires.there told) (omega arith) (c.put-in-Some.ensures.ok told) (c.put-in-Some.ensures.err told)

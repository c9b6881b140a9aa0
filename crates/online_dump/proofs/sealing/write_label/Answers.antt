use Rattle.std.proofs.Common.{◌-◌, List, ℕ, Option, sym, subst}
use Rattle.std.specs.Prelude.{IsTrue, OnErr}
use Rattle.std.proofs.lemmas.Result.{on_ok_weaker, on_err_weaker}
use Rattle.disk_model.specs.Held.{synced, written}
use Rattle.keyed_file.specs.LabelFormat.{dump_text}
use Rattle.keyed_file.specs.Layout.{label_pair, slot_at}
use Rattle.block_cache.specs.declared.pair.PairPhase.TheVariants.{Settled, Written}
use Rattle.online_dump.specs.Sealing.{HoldsLabel}
use Rattle.online_dump.specs.declared.sealed.SealedDump.{SealedDump}
use Rattle.online_dump.proofs.Sealings.{slot_left, slot_put}
use Rattle.online_dump.proofs.sealing.write_label.Goals as goal

pub returns-in-None-clause-err : goal.returns-in-None-clause-err
returns-in-None-clause-err g c =
    subst (λ (o : Option SealedDump). (any : List ℕ) → IsTrue (g.D.Disk.tells c.args.device.now) → HoldsLabel o Settled any (g.D.Disk.held c.args.device.now) → OnErr c.write_first.result (HoldsLabel o Settled any (g.D.Disk.held c.write_first.new.device))) (sym c.in-None.is) (λ any told shut. c.write_first.ensures.err any told shut)

pub returns-in-Some-clause-ok : goal.returns-in-Some-clause-ok
returns-in-Some-clause-ok g c = λ any told was.
    let dump = c.in-Some.dump in
    let new = g.D.Disk.held c.write_slot.new.device in
    let holds = subst (λ (o : Option SealedDump). HoldsLabel o Settled any (g.D.Disk.held c.args.device.now)) c.in-Some.is was in
    on_ok_weaker c.write_slot.result (λ put.
    subst (λ (o : Option SealedDump). HoldsLabel o Written (dump_text c.args.label.now) new) (sym c.in-Some.is)
    (synced (written (slot_at label_pair (1 - dump.slot)) (dump_text c.args.label.now) holds.0), put holds.0 holds.1, slot_put dump any (dump_text c.args.label.now) holds.0 c.write_slot.ensures.long holds.2)) (c.write_slot.ensures.ok told)

pub returns-in-Some-clause-err : goal.returns-in-Some-clause-err
returns-in-Some-clause-err g c = λ any told was.
    let dump = c.in-Some.dump in
    let new = g.D.Disk.held c.write_slot.new.device in
    let holds = subst (λ (o : Option SealedDump). HoldsLabel o Settled any (g.D.Disk.held c.args.device.now)) c.in-Some.is was in
    on_err_weaker c.write_slot.result (λ left. let l = left holds.0 holds.1 in
    subst (λ (o : Option SealedDump). HoldsLabel o Settled any new) (sym c.in-Some.is) (l.0, l.1, slot_left dump any (dump_text c.args.label.now) holds.0 c.write_slot.ensures.long holds.2 l.0 l.2)) (c.write_slot.ensures.err told)

use Rattle.std.proofs.Common.{◌≡◌, refl, sym, subst}
use Rattle.keyed_file.specs.Layout.{bytes_at}
use Rattle.rollforward.specs.DumpLabels.{TellsDumpLabel, TellsDumpSlot}
use Rattle.rollforward.proofs.LabelReads.{fine_file, gate_read, if_err_weaker, if_ok_four, long_read, read_spells, short_bad, short_read, tells_file, whole_read}
use Rattle.rollforward.proofs.dump_label.read_dump_label.Goals as goal

pub returns-then-count-lt-LABEL_FILE_BYTES-clause-fault : goal.returns-then-count-lt-LABEL_FILE_BYTES-clause-fault
returns-then-count-lt-LABEL_FILE_BYTES-clause-fault g c = λ told.
    let bytes = c.in-Ok.ensures.bytes told in
    let o = g.D.Disk.held c.args.device.now 1 in
    let gate = gate_read o c.in-Ok.count c.read.new.into bytes.0 bytes.1 c.if-bytes-ne1.false in
    subst (TellsDumpLabel c.args.volume (g.D.Disk.held c.args.device.now)) (sym c.damage.ensures)
    (refl, refl, (gate.0, gate.1, (gate.2, short_bad c.args.volume gate.0.bytes c.in-Ok.count (short_read o gate.0 c.in-Ok.count gate.1 bytes.0 c.if-count-lt-LABEL_FILE_BYTES.true) c.if-count-lt-LABEL_FILE_BYTES.true)))

pub returns-clause-told : goal.returns-clause-told
returns-clause-told g c = λ told.
    let bytes = c.in-Ok.ensures.bytes told in
    let o = g.D.Disk.held c.args.device.now 1 in
    let gate = gate_read o c.in-Ok.count c.read.new.into bytes.0 bytes.1 c.if-bytes-ne1.false in
    let f = gate.0 in
    let long = long_read o f c.in-Ok.count gate.1 bytes.0 c.if-count-lt-LABEL_FILE_BYTES.false in
    let into : c.read.new.into ≡ bytes_at 0 768 f.bytes = whole_read o f c.in-Ok.count c.read.new.into gate.1 bytes.0 bytes.1 c.if-count-lt-LABEL_FILE_BYTES.false in
    if_ok_four _ _ _ _ _ c.label_in.result
    (λ label valid of_volume spelled fine. record {
      valid = valid;
      of_volume = of_volume;
      spelled = (f, gate.1, read_spells c.read.new.into f.bytes into long label spelled gate.2);
      fine = (f, gate.1, (gate.2, fine_file c.read.new.into f.bytes into long c.args.volume fine));
    })
    c.label_in.ensures.valid c.label_in.ensures.of_volume c.label_in.ensures.spelled c.label_in.ensures.fine

pub returns-clause-fault : goal.returns-clause-fault
returns-clause-fault g c = λ told.
    let bytes = c.in-Ok.ensures.bytes told in
    let o = g.D.Disk.held c.args.device.now 1 in
    let gate = gate_read o c.in-Ok.count c.read.new.into bytes.0 bytes.1 c.if-bytes-ne1.false in
    let f = gate.0 in
    let long = long_read o f c.in-Ok.count gate.1 bytes.0 c.if-count-lt-LABEL_FILE_BYTES.false in
    let into : c.read.new.into ≡ bytes_at 0 768 f.bytes = whole_read o f c.in-Ok.count c.read.new.into gate.1 bytes.0 bytes.1 c.if-count-lt-LABEL_FILE_BYTES.false in
    if_err_weaker (TellsDumpSlot c.args.volume c.read.new.into) (TellsDumpLabel c.args.volume (g.D.Disk.held c.args.device.now)) c.label_in.result
    (tells_file c.read.new.into f.bytes into long c.args.volume (g.D.Disk.held c.args.device.now) f gate.1 refl gate.2) c.label_in.ensures.fault

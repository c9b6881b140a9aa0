use Rattle.std.proofs.Common.{◌≡◌, ℕ, ◌++◌, List, length, drop, Option, refl, sym, ap, subst, ◌∙◌}
use Rattle.std.proofs.lemmas.List.{length-replicate}
use Rattle.std.specs.Prelude.{replicate}
use Rattle.disk_model.specs.Held.{File, read_of}
use Rattle.block_cache.specs.LabelDamage.{TellsAttach, TellsLabel}
use Rattle.keyed_file.specs.Layout.{bytes_at}
use Rattle.block_cache.proofs.LabelReads.{fine_attach, gate_read, if_err_weaker, if_ok_both, long_read, read_spells, short_bad, short_read, tells_attach}
use Rattle.block_cache.proofs.Readings.{whole_read}
use Rattle.block_cache.proofs.label_file.read_label.Goals as goal

counted : (o : Option File) (count : ℕ) → count ≡ length (read_of o 0 768) → count ≡ length (read_of o 0 (length {A = ℕ} (replicate 768 0)))
counted o count is = is ∙ ap (λ (n : ℕ). length (read_of o 0 n)) (sym (length-replicate {A = ℕ} 768 0))

filled_in : (o : Option File) (count : ℕ) (into : List ℕ) → into ≡ read_of o 0 768 ++ drop count (replicate 768 0) → into ≡ read_of o 0 (length {A = ℕ} (replicate 768 0)) ++ drop count (replicate 768 0)
filled_in o count into is = is ∙ ap (λ (n : ℕ). read_of o 0 n ++ drop count (replicate 768 0)) (sym (length-replicate {A = ℕ} 768 0))

pub returns-then-count-lt-LABEL_FILE_BYTES-clause-fault : goal.returns-then-count-lt-LABEL_FILE_BYTES-clause-fault
returns-then-count-lt-LABEL_FILE_BYTES-clause-fault g c = λ told.
    let bytes = c.in-Ok.ensures.bytes told in
    let o = g.D.Disk.held c.args.device.now 1 in
    let gate = gate_read o c.in-Ok.count c.read.new.into bytes.0 bytes.1 c.if-bytes-ne1.false in
    subst (TellsAttach c.args.wanted.now (g.D.Disk.held c.args.device.now)) (sym c.damage.ensures)
    (refl, refl, (gate.0, gate.1, (gate.2, short_bad c.args.wanted.now gate.0.bytes c.in-Ok.count (short_read o gate.0 c.in-Ok.count gate.1 bytes.0 c.if-count-lt-LABEL_FILE_BYTES.true) c.if-count-lt-LABEL_FILE_BYTES.true)))

pub returns-clause-spelled : goal.returns-clause-spelled
returns-clause-spelled g c = λ told.
    let bytes = c.in-Ok.ensures.bytes told in
    let o = g.D.Disk.held c.args.device.now 1 in
    let gate = gate_read o c.in-Ok.count c.read.new.into bytes.0 bytes.1 c.if-bytes-ne1.false in
    let f = gate.0 in
    let long = long_read o f c.in-Ok.count gate.1 bytes.0 c.if-count-lt-LABEL_FILE_BYTES.false in
    let into : c.read.new.into ≡ bytes_at 0 768 f.bytes = whole_read o f 0 768 c.in-Ok.count (replicate 768 0) c.read.new.into gate.1 (length-replicate {A = ℕ} 768 0) (counted o c.in-Ok.count bytes.0) (filled_in o c.in-Ok.count c.read.new.into bytes.1) c.if-count-lt-LABEL_FILE_BYTES.false in
    if_ok_both _ _ _ c.label_in.result (λ found slot spelled. (f, gate.1, read_spells c.read.new.into f.bytes into long found.0 found.1 slot.0 slot.1 spelled gate.2)) c.label_in.ensures.slot c.label_in.ensures.spelled

pub returns-clause-fault : goal.returns-clause-fault
returns-clause-fault g c = λ told.
    let bytes = c.in-Ok.ensures.bytes told in
    let o = g.D.Disk.held c.args.device.now 1 in
    let gate = gate_read o c.in-Ok.count c.read.new.into bytes.0 bytes.1 c.if-bytes-ne1.false in
    let f = gate.0 in
    let long = long_read o f c.in-Ok.count gate.1 bytes.0 c.if-count-lt-LABEL_FILE_BYTES.false in
    let into : c.read.new.into ≡ bytes_at 0 768 f.bytes = whole_read o f 0 768 c.in-Ok.count (replicate 768 0) c.read.new.into gate.1 (length-replicate {A = ℕ} 768 0) (counted o c.in-Ok.count bytes.0) (filled_in o c.in-Ok.count c.read.new.into bytes.1) c.if-count-lt-LABEL_FILE_BYTES.false in
    if_err_weaker (TellsLabel c.args.wanted.now c.read.new.into) (TellsAttach c.args.wanted.now (g.D.Disk.held c.args.device.now)) c.label_in.result (tells_attach c.read.new.into f.bytes into long c.args.wanted.now (g.D.Disk.held c.args.device.now) f gate.1 refl gate.2) c.label_in.ensures.fault

pub returns-clause-fine : goal.returns-clause-fine
returns-clause-fine g c = λ told.
    let bytes = c.in-Ok.ensures.bytes told in
    let o = g.D.Disk.held c.args.device.now 1 in
    let gate = gate_read o c.in-Ok.count c.read.new.into bytes.0 bytes.1 c.if-bytes-ne1.false in
    let f = gate.0 in
    let long = long_read o f c.in-Ok.count gate.1 bytes.0 c.if-count-lt-LABEL_FILE_BYTES.false in
    let into : c.read.new.into ≡ bytes_at 0 768 f.bytes = whole_read o f 0 768 c.in-Ok.count (replicate 768 0) c.read.new.into gate.1 (length-replicate {A = ℕ} 768 0) (counted o c.in-Ok.count bytes.0) (filled_in o c.in-Ok.count c.read.new.into bytes.1) c.if-count-lt-LABEL_FILE_BYTES.false in
    if_ok_both _ _ _ c.label_in.result (λ found none always. (f, gate.1, (gate.2, fine_attach c.read.new.into f.bytes into long c.args.wanted.now none))) c.label_in.ensures.fine c.label_in.ensures.fine

use Rattle.std.proofs.Common.{◌≡◌, ℕ, ◌++◌, List, length, drop, Option, refl, sym, ap, subst, ◌∙◌}
use Rattle.std.proofs.lemmas.List.{length-replicate}
use Rattle.std.specs.Prelude.{replicate}
use Rattle.disk_model.specs.Held.{File, read_of}
use Rattle.keyed_file.specs.Layout.{bytes_at}
use Rattle.online_dump.specs.Found.{TellsDump}
use Rattle.online_dump.proofs.LabelBytes.{fine_dump, gate_read, long_read, read_spells, short_bad, short_read, tells_dump, whole_read}
use Rattle.online_dump.proofs.sealed.read_sealed.Goals as goal

counted : (o : Option File) (count : ℕ) → count ≡ length (read_of o 0 768) → count ≡ length (read_of o 0 (length {A = ℕ} (replicate 768 0)))
counted o count is = is ∙ ap (λ (n : ℕ). length (read_of o 0 n)) (sym (length-replicate {A = ℕ} 768 0))

filled_in : (o : Option File) (count : ℕ) (into : List ℕ) → into ≡ read_of o 0 768 ++ drop count (replicate 768 0) → into ≡ read_of o 0 (length {A = ℕ} (replicate 768 0)) ++ drop count (replicate 768 0)
filled_in o count into is = is ∙ ap (λ (n : ℕ). read_of o 0 n ++ drop count (replicate 768 0)) (sym (length-replicate {A = ℕ} 768 0))

pub returns-then-count-lt-LABEL_FILE_BYTES-clause-fault : goal.returns-then-count-lt-LABEL_FILE_BYTES-clause-fault
returns-then-count-lt-LABEL_FILE_BYTES-clause-fault g c = λ told.
    let bytes = c.in-Ok.ensures.bytes told in
    let o = g.D.Disk.held c.args.device.now 1 in
    let gate = gate_read o c.in-Ok.count c.read.new.into bytes.0 bytes.1 c.if-bytes-ne1.false in
    subst (TellsDump c.args.volume (g.D.Disk.held c.args.device.now)) (sym c.damage.ensures)
    (refl, refl, (gate.0, gate.1, (gate.2, short_bad c.args.volume gate.0.bytes c.in-Ok.count (short_read o gate.0 c.in-Ok.count gate.1 bytes.0 c.if-count-lt-LABEL_FILE_BYTES.true) c.if-count-lt-LABEL_FILE_BYTES.true)))

pub returns-in-Ok-sealed_in-clause-found : goal.returns-in-Ok-sealed_in-clause-found
returns-in-Ok-sealed_in-clause-found g c = λ told.
    let bytes = c.in-Ok.ensures.bytes told in
    let o = g.D.Disk.held c.args.device.now 1 in
    let gate = gate_read o c.in-Ok.count c.read.new.into bytes.0 bytes.1 c.if-bytes-ne1.false in
    let f = gate.0 in
    let long = long_read o f c.in-Ok.count gate.1 bytes.0 c.if-count-lt-LABEL_FILE_BYTES.false in
    let into : c.read.new.into ≡ bytes_at 0 768 f.bytes = whole_read o f 0 768 c.in-Ok.count (replicate 768 0) c.read.new.into gate.1 (length-replicate {A = ℕ} 768 0) (counted o c.in-Ok.count bytes.0) (filled_in o c.in-Ok.count c.read.new.into bytes.1) c.if-count-lt-LABEL_FILE_BYTES.false in
    let found = c.in-Ok-sealed_in.found in
    let here = c.in-Ok-sealed_in.ensures in
    let spells = read_spells c.read.new.into f.bytes into long found.label found.slot here.slot here.whole.slot here.spelled gate.2 in
    (f, gate.1, record { spelled = spells.0; slot = spells.1; fine = fine_dump c.read.new.into f.bytes into long c.args.volume here.fine })

pub returns-in-Err-clause-fault : goal.returns-in-Err-clause-fault
returns-in-Err-clause-fault g c = λ told.
    let bytes = c.in-Ok.ensures.bytes told in
    let o = g.D.Disk.held c.args.device.now 1 in
    let gate = gate_read o c.in-Ok.count c.read.new.into bytes.0 bytes.1 c.if-bytes-ne1.false in
    let f = gate.0 in
    let long = long_read o f c.in-Ok.count gate.1 bytes.0 c.if-count-lt-LABEL_FILE_BYTES.false in
    let into : c.read.new.into ≡ bytes_at 0 768 f.bytes = whole_read o f 0 768 c.in-Ok.count (replicate 768 0) c.read.new.into gate.1 (length-replicate {A = ℕ} 768 0) (counted o c.in-Ok.count bytes.0) (filled_in o c.in-Ok.count c.read.new.into bytes.1) c.if-count-lt-LABEL_FILE_BYTES.false in
    tells_dump c.read.new.into f.bytes into long c.args.volume (g.D.Disk.held c.args.device.now) f gate.1 refl gate.2 c.in-Err.fault c.in-Err.ensures.fault

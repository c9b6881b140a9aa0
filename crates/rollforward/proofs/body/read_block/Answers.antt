use Rattle.std.specs.Prelude.{replicate}
use Rattle.std.proofs.Common.{◌≡◌, ◌++◌, ℕ, drop, length, None, Some, refl, sym, ap, subst, ◌∙◌, arith}
use Rattle.disk_model.specs.Held.{read_of}
use Rattle.keyed_file.specs.BlockFormat.{bad_block, block_text}
use Rattle.keyed_file.specs.Fault.{IsBlockFault}
use Rattle.rollforward.specs.Body.{TellsFrom, bytes_in}
use Rattle.rollforward.proofs.BlockReads.{bad_long, bad_short, read_is, read_long, read_short, spelled_at}
use Rattle.rollforward.proofs.body.read_block.Goals as goal

pub returns-then-count-lt-BLOCK_BYTES-clause-fault : goal.returns-then-count-lt-BLOCK_BYTES-clause-fault
returns-then-count-lt-BLOCK_BYTES-clause-fault g c = λ told within.
    let o = g.D.Disk.held c.args.device.now c.args.body in
    let bytes = subst (λ (n : ℕ). (c.in-Ok.count ≡ length (read_of (g.D.Disk.held c.args.device.now n) c.args.at 4096)) × (c.read.new.into ≡ read_of (g.D.Disk.held c.args.device.now n) c.args.at 4096 ++ drop c.in-Ok.count (replicate 4096 0))) c.from.ensures (c.in-Ok.ensures.bytes told) in
    let short = read_short o c.args.at c.in-Ok.count c.read.new.into bytes.0 bytes.1 c.if-count-lt-BLOCK_BYTES.true within in
    subst (TellsFrom c.args.body c.args.home c.args.at (bytes_in o)) (sym c.damage.ensures) (refl, refl, bad_short c.args.home c.args.at c.in-Ok.count (bytes_in o) short c.if-count-lt-BLOCK_BYTES.true)

pub returns-in-Ok-decode_at-clause-read : goal.returns-in-Ok-decode_at-clause-read
returns-in-Ok-decode_at-clause-read g c = λ told.
    let o = g.D.Disk.held c.args.device.now c.args.body in
    let bytes = subst (λ (n : ℕ). (c.in-Ok.count ≡ length (read_of (g.D.Disk.held c.args.device.now n) c.args.at 4096)) × (c.read.new.into ≡ read_of (g.D.Disk.held c.args.device.now n) c.args.at 4096 ++ drop c.in-Ok.count (replicate 4096 0))) c.from.ensures (c.in-Ok.ensures.bytes told) in
    let long = read_long o c.args.at c.in-Ok.count c.read.new.into bytes.0 bytes.1 c.if-count-lt-BLOCK_BYTES.false in
    let is = read_is o c.args.at c.in-Ok.count c.read.new.into bytes.0 bytes.1 c.if-count-lt-BLOCK_BYTES.false in
    record {
      long = long;
      spelled = spelled_at c.read.new.into (bytes_in o) (block_text c.in-Ok-decode_at.block) c.args.at is c.in-Ok-decode_at.ensures.spelled (c.spelling_length_law.ensures.block c.in-Ok-decode_at.block c.in-Ok-decode_at.ensures.valid);
      fine = bad_long c.args.home c.args.at c.read.new.into (bytes_in o) None long is c.in-Ok-decode_at.ensures.fine;
    }

pub returns-in-Err-Bad-clause-fault : goal.returns-in-Err-Bad-clause-fault
returns-in-Err-Bad-clause-fault g c = λ told within.
    let o = g.D.Disk.held c.args.device.now c.args.body in
    let bytes = subst (λ (n : ℕ). (c.in-Ok.count ≡ length (read_of (g.D.Disk.held c.args.device.now n) c.args.at 4096)) × (c.read.new.into ≡ read_of (g.D.Disk.held c.args.device.now n) c.args.at 4096 ++ drop c.in-Ok.count (replicate 4096 0))) c.from.ensures (c.in-Ok.ensures.bytes told) in
    let long = read_long o c.args.at c.in-Ok.count c.read.new.into bytes.0 bytes.1 c.if-count-lt-BLOCK_BYTES.false in
    let is = read_is o c.args.at c.in-Ok.count c.read.new.into bytes.0 bytes.1 c.if-count-lt-BLOCK_BYTES.false in
    let bad = bad_long c.args.home c.args.at c.read.new.into (bytes_in o) (Some c.in-Err-Bad.bad.at) long is (subst (IsBlockFault (bad_block (Some c.args.home) c.read.new.into)) c.in-Err-Bad.field-0-is c.in-Err-Bad.ensures.cause) in
    subst (TellsFrom c.args.body c.args.home c.args.at (bytes_in o)) (sym c.damage-in-Err-Bad.ensures) (refl, refl, bad ∙ ap Some (omega (arith, c.from-in-Err-Bad.ensures)))

use Rattle.std.proofs.Common.{◌≡◌, ◌+◌, ◌<◌, ◌++◌, ℕ, List, length, drop, Option, Some, refl, sym, ap, subst, ◌∙◌, arith}
use Rattle.disk_model.specs.Held.{File, Held, read_of}
use Rattle.keyed_file.specs.Layout.{data_length}
use Rattle.block_cache.specs.Damage.{TellsBlock}
use Rattle.block_cache.proofs.OnePieces.{short-file}
use Rattle.block_cache.proofs.data_file.read_file.Goals as goal

pub returns-then-count-bytes-clause-told : goal.returns-then-count-bytes-clause-told
returns-then-count-bytes-clause-told g c = λ told.
    let held : Held = g.D.Disk.held c.args.device.now in
    let bytes = c.in_ok-count.ensures.bytes told in
    let same : held (c.from.result + 1) ≡ held (1 + c.args.home.file) = ap held (omega (arith, c.from.ensures)) in
    let old : List ℕ = c.args.bytes.now in
    let counted : c.in_ok-count.count ≡ length (read_of (held (1 + c.args.home.file)) 0 (length old)) = subst (λ (o : Option File). c.in_ok-count.count ≡ length (read_of o 0 (length old))) same bytes.0 in
    let filled : c.read.new.into ≡ read_of (held (1 + c.args.home.file)) 0 (length old) ++ drop c.in_ok-count.count old =
    subst (λ (o : Option File). c.read.new.into ≡ read_of o 0 (length old) ++ drop c.in_ok-count.count old) same bytes.1 in
    let short : c.in_ok-count.count < data_length c.args.home.blocks = omega (arith, c.if-count-bytes.true, c.requires.room, c.read.auto.into) in
    subst (TellsBlock c.args.home held) (sym c.damage.ensures)
    (refl, refl, short-file c.args.home (held (1 + c.args.home.file)) c.in_ok-count.count old c.read.new.into c.requires.room counted filled short ∙ ap Some (sym c.short_file_fault-at.ensures))

use Rattle.std.proofs.Common.{None, sym, ap, ◌∙◌}
use Rattle.std.specs.Prelude.{length, unwrap_or}
use Rattle.block_cache.proofs.Damages.{among_all, among_next}
use Rattle.block_cache.proofs.data_file.short_file_fault.Goals as goal

pub returns-in-Some : goal.returns-in-Some
returns-in-Some c =
    sym (ap (λ o. unwrap_or o (length c.args.bytes.now)) (among_all c.args.home c.loop-number.number c.args.home.blocks c.args.bytes.now c.in-Some.at c.loop-number-test.true c.loop-number.invariant (sym c.fault_in.ensures ∙ c.in-Some.is)))

pub loop-number-preserved : goal.loop-number-preserved
loop-number-preserved c = among_next c.args.home c.loop-number.number c.args.bytes.now None c.loop-number.invariant (sym c.fault_in.ensures ∙ c.in-None.is)

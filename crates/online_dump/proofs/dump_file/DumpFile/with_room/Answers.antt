use Rattle.std.proofs.Common.{rules, sym, subst}
use Rattle.std.specs.Prelude.{IsTrue}
use Rattle.online_dump.specs.Sealing.{HasLabelFile}
use Rattle.online_dump.proofs.dump_file.DumpFile.with_room.Goals as goal

pub invariant_of-result : goal.invariant_of-result
invariant_of-result g c = (
  search rules,
  c.requires.sealed,
  tt,
  record {
    label = λ told some.
        subst (λ (d : g.row.D.Denot). HasLabelFile (g.D.Disk.held d)) (sym c.in-Ok-new.ensures.ok)
        (c.requires.there (subst (λ (d : g.row.D.Denot). IsTrue (g.D.Disk.tells d)) c.in-Ok-new.ensures.ok told) some);
    next = λ told some. absurd (cc (some));
    body = λ told. tt;
  },
)

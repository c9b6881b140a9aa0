use Rattle.std.proofs.Common.{refl}
use Rattle.audit_writer.specs.Handing.{disc_of}
use Rattle.audit_writer.proofs.Ruled.{pushes}
use Rattle.audit_writer.proofs.queue.Entrance.push.Goals as goal

pub push_as-requires-clause-rule : goal.push_as-requires-clause-rule
push_as-requires-clause-rule g c = let m = c.requires.may in (pushes _ _ (disc_of c.args.parcel.records) m.0 _ c.args.parcel m.1 refl m.2 m.3, λ items views h at. tt)

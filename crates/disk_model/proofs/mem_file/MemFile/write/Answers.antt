use Rattle.std.proofs.Common.{ap, ◌∙◌, length}
use Rattle.disk_model.specs.Extent.{is_at_risk}
use Rattle.disk_model.proofs.Extents.{is_at_risk-push}
use Rattle.disk_model.proofs.mem_file.MemFile.write.Goals as goal

pub returns-clause-ok : goal.returns-clause-ok
returns-clause-ok c = λ i. record {
  bytes = c.in_ok-overwrite.ensures.ok i;
  risk = (ap (λ l. is_at_risk l) c.in_ok-mark.ensures.ok ∙ is_at_risk-push c.args.self.now.risk.items (record { at = c.args.at; size = length c.args.bytes.now })) i;
  synced = c.keep.ensures.length i;
}

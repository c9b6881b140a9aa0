use Rattle.std.proofs.Common.{rules, subst, sym}
use Rattle.disk_model.specs.Held.{LeavesFile}
use Rattle.disk_model.specs.MemDisk.{file_of}
use Rattle.disk_model.proofs.Files.{fresh_retained, leaves_retained, synced_retained, leaves_synced}
use Rattle.disk_model.specs.Sound.{is_sound}
use Rattle.disk_model.proofs.mem_disk.MemDiskDisk.restart.Goals as goal

pub returns-then-self-eq0-clause-image : goal.returns-then-self-eq0-clause-image
returns-then-self-eq0-clause-image c = λ n. leaves_retained _ (λ f k v b w f' t. (search rules, subst (LeavesFile (file_of v)) (sym (search rules)) (leaves_synced (file_of v) (is_sound v)))) _ _ c.args.self.now.files.entries c.retain.new.self.entries c.retain.ensures.filtered

pub returns-then-self-eq0-clause-stays : goal.returns-then-self-eq0-clause-stays
returns-then-self-eq0-clause-stays c = λ zero n. synced_retained _ (λ f k v b w f' t. search rules) _ _ c.args.self.now.files.entries c.retain.new.self.entries c.retain.ensures.filtered

pub returns-then-self-eq0-clause-fresh : goal.returns-then-self-eq0-clause-fresh
returns-then-self-eq0-clause-fresh c = λ n. fresh_retained _ (λ f k v b w f' t. search rules) _ _ c.args.self.now.files.entries c.retain.new.self.entries c.retain.ensures.filtered

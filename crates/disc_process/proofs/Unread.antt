-- Why a block was not read, behind the draws that were to make room for it.
use Rattle.std.proofs.Common.{ℕ}
use Rattle.tmf_model.specs.declared.transid.Transid.{Transid}
use Rattle.disk_model.specs.declared.disk.Disk as disk
use Rattle.audit_writer.specs.declared.lock.FlushRefused.{FlushRefused}
use Rattle.audit_writer.specs.declared.lock.FlushRefused.TheVariants as stopped
use Rattle.node_machine.specs.declared.event.By.TheVariants.{Attempt}
use Rattle.disc_process.specs.Disc.{DiscView}
use Rattle.disc_process.specs.Draw.{HasSoughtRoom, IsDrawRefusal}
use Rattle.disc_process.specs.Refused.{refused_from}
use Rattle.disc_process.specs.Write.{IsUnread}

-- the draws were broken off
pub unread_draw : {D : Type 0} (kind : disk.Ghosts D) (t : Transid) (f n : ℕ) (old new : DiscView D) (e : FlushRefused) → IsDrawRefusal kind.faults (Attempt t) old new e
    → HasSoughtRoom (Attempt t) old.blocks f n old.seat new.seat → IsUnread kind t f n old new (refused_from e)
unread_draw kind t f n old new stopped.NoMemory why sought = (why, sought)
unread_draw kind t f n old new (stopped.Failed device) why sought = (why, sought)

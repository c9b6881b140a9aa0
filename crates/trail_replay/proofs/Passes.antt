-- A pass over a trail, from its front on.
use Rattle.std.specs.Prelude.{IsTrue}
use Rattle.std.proofs.Common.{◌≡◌, List, ⊎_elim}
use Rattle.disk_model.specs.declared.disk.Disk as disk
use Rattle.trail_files.specs.declared.cursor.Cursor.{Cursor}
use Rattle.trail_files.specs.declared.rules.Rules.{Rules}
use Rattle.trail_files.specs.Content.{Content, Placed, records_in}
use Rattle.trail_files.specs.Format.{Format}
use Rattle.trail_files.specs.Holds.{Holds}
use Rattle.trail_files.specs.Trail.{Ahead, Reads, View}
use Rattle.trail_replay.specs.Landed.{IsReadAs}

-- in front of the first record lie those that a pass reads
pub front-placed : {D R : Type 0} (kind : disk.Ghosts D) (format : Rules → Format R) (trail : View D) (cursor : Cursor) (records : List R)
    → ((content : Content R) → Holds kind format trail content → IsTrue (kind.tells trail.device) → Ahead kind.held format trail cursor content.placed)
    → ((read : List R) → Reads kind.held format trail read → (placed : List (Placed R)) × (records_in placed ≡ read) × Ahead kind.held format trail cursor placed)
    → IsReadAs kind format trail records → (placed : List (Placed R)) × (records_in placed ≡ records) × Ahead kind.held format trail cursor placed
front-placed kind format trail cursor records holds reads is =
    ⊎_elim
    (λ landed. (landed.content.placed, landed.landed, holds landed.content landed.holds landed.tells))
    (λ read. reads records read)
    is.1

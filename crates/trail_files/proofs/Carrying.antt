-- What a cursor has in front of it, over the calls that move the last gate.
use Rattle.std.specs.Prelude.{IsTrue}
use Rattle.std.proofs.Common.{◌≡◌, ◌≢◌, ◌+◌, ◌++◌, ◌∷◌, List, [], sym, ◌∙◌, subst}
use Rattle.disk_model.specs.declared.disk.Disk as disk
use Rattle.disk_model.specs.Held.{Elsewhere}
use Rattle.trail_files.specs.declared.cursor.Cursor.{Cursor}
use Rattle.trail_files.specs.declared.rules.Rules.{Rules}
use Rattle.trail_files.specs.declared.trail.TrailPhase.TheVariants as phase
use Rattle.trail_files.specs.Content.{Placed, Content, in_file, batch_of}
use Rattle.trail_files.specs.Format.{Format}
use Rattle.trail_files.specs.Holds.{Holds}
use Rattle.trail_files.specs.Put.{Put}
use Rattle.trail_files.specs.Trail.{View, Ahead}
use Rattle.trail_files.proofs.Followed.{ahead_gate, ahead_roll}
use Rattle.trail_files.proofs.Holding.{offered_in, rolling_in}

module _ {D R : Type 0} (kind : disk.Ghosts D) (format : Rules → Format R) (t : View D) (c : Content R) (is : Holds kind format t c) (new : D) (cursor : Cursor) (rest : List (Placed R)) (ahead : Ahead kind.held format t cursor rest) where
  pub gate_ahead : t.phase ≢ phase.Ready → t.phase ≢ phase.RollOffered → IsTrue (kind.tells t.device) → Elsewhere t.file (kind.held t.device) (kind.held new) → Put t.file (kind.held t.device) (kind.held new) t.gate (1 ∷ [])
      → Ahead kind.held format (record t { device = new; phase = phase.Ready; gate = t.gate + t.size; places = t.places + t.count; size = 0; count = 0 }) cursor (rest ++ in_file c.file (batch_of c.pending))
  gate_ahead some no_roll told others put =
      let s = is.told told in
      let offered = offered_in kind.held (format t.rules) t s.files s.batches c.pending (λ e. some (is.phase ∙ e)) (λ e. no_roll (is.phase ∙ e)) s.stands in
      subst (λ n. Ahead kind.held format (record t { device = new; phase = phase.Ready; gate = t.gate + t.size; places = t.places + t.count; size = 0; count = 0 }) cursor (rest ++ in_file n (batch_of c.pending))) is.file
      (ahead_gate kind.held format t new cursor rest ahead s.files s.batches (batch_of c.pending) offered others put)

  pub roll_ahead : t.phase ≡ phase.RollOffered → IsTrue (kind.tells t.device) → Elsewhere t.file (kind.held t.device) (kind.held new) → Put t.file (kind.held t.device) (kind.held new) t.gate (1 ∷ [])
      → Ahead kind.held format (record t { device = new; phase = phase.Ready; file = t.file + 1; gate = 0; size = 0; count = 0 }) cursor rest
  roll_ahead rolls told others put =
      let s = is.told told in
      ahead_roll kind.held format t new cursor rest ahead s.files s.batches (rolling_in kind.held (format t.rules) t s.files s.batches c.pending (sym is.phase ∙ rolls) s.stands) others put

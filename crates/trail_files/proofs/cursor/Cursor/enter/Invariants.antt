use Rattle.std.proofs.Common.{◌≡◌, ◌+◌, ◌-◌, ◌*◌, ◌^◌, ◌≤◌, ◌<◌, List, true}
use Rattle.trail_files.specs.declared.rules.Rules.{Rules}
use Rattle.trail_files.specs.Cursor.{Leads}
use Rattle.trail_files.specs.Content.{Placed}
use Rattle.trail_files.proofs.Nexts.{IsEntered}
use Rattle.trail_files.proofs.cursor.Cursor.enter.Given as goal

abbrev pub invariant-loop-inside : goal.invariant-loop-inside
invariant-loop-inside g l = record {
  device : g.D.Disk.is_same l.initial.device l.device;
  tells : g.D.Disk.tells l.device ≡ g.D.Disk.tells l.initial.device;
  same : g.D.Disk.held l.device ≡ g.D.Disk.held l.initial.device;
  later : g.D.Disk.faults l.initial.device ≤ g.D.Disk.faults l.device;
  place : l.inside.place ≡ l.fn.self.place;
  leads : (rules : Rules) (rest : List (Placed g.row.R.Denot)) → g.D.Disk.tells l.initial.device ≡ true → Leads (g.R.Spelled.format rules) (g.D.Disk.held l.initial.device) l.fn.end.file l.fn.end.gate l.fn.self rest
      → Leads (g.R.Spelled.format rules) (g.D.Disk.held l.initial.device) l.fn.end.file l.fn.end.gate l.inside rest;
  entered : g.D.Disk.tells l.initial.device ≡ true → IsEntered (g.D.Disk.held l.initial.device) l.fn.self l.inside;
  rises : l.fn.self.file ≤ l.inside.file;
  within : 0 < l.inside.left → l.fn.self.file ≤ l.fn.end.file → l.inside.file ≤ l.fn.end.file;
}

abbrev pub decreases-loop-inside : goal.decreases-loop-inside
decreases-loop-inside g l = (2 ^ 32 - l.inside.file) * 2 + (1 - l.inside.left)

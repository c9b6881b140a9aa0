use Rattle.std.proofs.Common.{◌≡◌, ◌+◌, ◌*◌, ◌-◌, ◌++◌, List, length, true}
use Rattle.trail_files.proofs.Scans.{Begins}
use Rattle.trail_files.proofs.scan.check_records.Given as goal

abbrev pub invariant-loop-i : goal.invariant-loop-i
invariant-loop-i g l =
    let format = g.R.Spelled.format l.fn.rules in record {
      left : length l.rest ≡ (l.count - l.i) * l.size;
      offset : l.offset + length l.rest ≡ l.at + length l.bytes;
      passed : l.offset ≡ l.at + l.i * l.size;
      begins : (before : List g.row.R.Denot) → g.R.Spelled.stands l.fn.rules l.fn.order before → format.in_order before ≡ true → l.place ≡ 1 + length before
          → (done : List g.row.R.Denot) × Begins format before l.place l.i l.bytes l.rest done × g.R.Spelled.stands l.fn.rules l.order (before ++ done);
    }

use Rattle.std.proofs.Common.{◌+◌, ℕ, List, get_or, drop, sym, subst, arith}
use Rattle.rollforward.proofs.Gathers.{IsPassed, next_file, passed_more}
use Rattle.rollforward.proofs.Volumes.{row_file}
use Rattle.rollforward.proofs.gather.slot_of.Goals as goal

pub place_of-requires : goal.place_of-requires
place_of-requires c =
    let next = next_file c.args.files.now c.loop-other.other-index c.loop-other-test.true in
    let row = row_file 0 c.args.files.now c.loop-other.other-index (get_or c.args.files.now c.loop-other.other-index (0, 0)) c.requires.row next.1 in
    record { above = row.2; below = row.3 }

pub loop-other-preserved : goal.loop-other-preserved
loop-other-preserved c =
    let files : List (ℕ × ℕ) = c.args.files.now in
    let i : ℕ = c.loop-other.other-index in
    let f : ℕ × ℕ = get_or files i (0, 0) in
    let next = next_file files i c.loop-other-test.true in
    let row = row_file 0 files i f c.requires.row next.1 in
    record {
      passed = subst (λ (n : ℕ). IsPassed files (drop (i + 1) files) c.args.file (c.loop-other.before + n)) (sym c.from-before.ensures)
          (passed_more files (drop (i + 1) files) f c.args.file c.loop-other.before (λ e. c.if-other-file.false (sym e))
          (subst (λ (r : List (ℕ × ℕ)). IsPassed files r c.args.file c.loop-other.before) next.0 c.loop-other.invariant.passed));
      small = omega (arith, c.loop-other.invariant.small, row.3, c.from-before.ensures);
    }

use Rattle.std.proofs.Common.{◌+◌, sym, subst, arith}
use Rattle.keyed_file.specs.Volume.{files_on}
use Rattle.online_dump.specs.Places.{StandsIn}
use Rattle.online_dump.proofs.Placing.{more_else, more_here, stands_here}
use Rattle.online_dump.proofs.placed.block_at.Goals as goal
use Rattle.online_dump.proofs.placed.block_at.Goals.{then-line-volume+else-left-from, else-line-volume}

pub returns-then-left-from-clause-some : goal.returns-then-left-from-clause-some
returns-then-left-from-clause-some c =
    let lines = c.as_slice-line-items.result.now in
    let less = c.if-left-from.true in
    let size = c.from.ensures in
    let stands : StandsIn (files_on c.args.volume 1 lines) c.args.place (c.loop-line.line-index + 1) c.loop-line.left = stands_here c.args.volume lines c.loop-line.line-index c.line-item.result c.args.place c.loop-line.left c.loop-line-test.true c.line-item.is c.if-line-volume.true (omega (arith, less, size)) c.loop-line.invariant.left in
    subst (λ l. StandsIn (files_on c.args.volume 1 l) c.args.place c.loop-line.file c.loop-line.left) c.as_slice-line-items.ensures
    (subst (λ n. StandsIn (files_on c.args.volume 1 lines) c.args.place n c.loop-line.left) (sym c.loop-line.invariant.file) stands)

pub loop-line-preserved : goal.loop-line-preserved
loop-line-preserved c =
    let lines = c.as_slice-line-items.result.now in
    let left = c.loop-line.invariant.left in
    let file = c.loop-line.invariant.file in
    elim c.if-line-volume.branch [
      | then-line-volume+else-left-from w ↦ record {
        file = omega (arith, file);
        left =
            let more = more_here c.args.volume lines c.loop-line.line-index c.line-item.result c.loop-line-test.true c.line-item.is w.if-line-volume.true in
            omega (arith, more, left, w.left-is, w.from-left.ensures, w.if-left-from.false, w.from.ensures);
      }
      | else-line-volume w ↦ record {
        file = omega (arith, file);
        left =
            let more = more_else c.args.volume lines c.loop-line.line-index c.line-item.result c.loop-line-test.true c.line-item.is w.if-line-volume.false in
            omega (arith, more, left, w.left-is);
      }
    ]

use Rattle.std.proofs.Common.{arith, ◌∙◌}
use Rattle.std.proofs.lemmas.Result.{err_from_is_err_and}
use Rattle.trail_files.proofs.Removal.{cut_next, cut_refused, cut_whole}
use Rattle.trail_files.proofs.clear.clear_below.Goals as goal

pub returns-in_err-remove_there-clause-cut : goal.returns-in_err-remove_there-clause-cut
returns-in_err-remove_there-clause-cut g c = λ start told least begins there.
    let p = err_from_is_err_and c.from_residual.result c.from_residual.ensures.1 in
    let held = g.D.Disk.held in
    let v = c.loop-least.invariant in
    let i = v.cut start told least begins there in
    let told1 = v.works.tells ∙ told in
    let now = cut_refused (held c.args.device.now) (held c.loop-least.device) (held c.remove_there.new.device) c.loop-least.least start i.0 c.args.file i.1 (c.remove_there.ensures.others told1) (omega (arith, c.loop-least-test.true)) there (c.in_err-remove_there.ensures.err told1) in
    (now.0, now.1, rw p.1 tt)

pub loop-least-preserved : goal.loop-least-preserved
loop-least-preserved g c =
    let held = g.D.Disk.held in
    let v = c.loop-least.invariant in
    let works = c.remove_there.ensures.works.is_later in
    let lt = c.loop-least-test.true in
    record {
      works = record {
        device = g.met.D.Disk.same_on _ _ _ v.works.device works.device;
        tells = works.tells ∙ v.works.tells;
        later = omega (arith, v.works.later, works.later);
      };
      rises = omega (arith, v.rises);
      within = omega (arith, v.within, lt);
      kept = λ told n le. c.remove_there.ensures.others (v.works.tells ∙ told) n (λ e. omega (arith, e, le, lt)) ∙ v.kept told n le;
      cut = λ start told least begins there.
          let i = v.cut start told least begins there in
          let told1 = v.works.tells ∙ told in
          cut_next (held c.args.device.now) (held c.loop-least.device) (held c.remove_there.new.device) c.loop-least.least start i.0 c.args.file i.1 (c.remove_there.ensures.others told1) lt there (c.in_ok-remove_there.ensures.ok told1);
    }

pub returns-clause-cut : goal.returns-clause-cut
returns-clause-cut g c = λ start told least begins there.
    let held = g.D.Disk.held in
    let i = c.loop-least.invariant.cut start told least begins there in
    (i.0, i.1, cut_whole (held c.args.device.now) (held c.loop-least.device) c.loop-least.least start i.0 c.args.file i.1 c.loop-least-test.false)

use Rattle.std.proofs.Common.{◌+◌, ◌≤◌, ℕ, List, length, IsTrue, sym, subst, ◌∙◌, arith}
use Rattle.std.proofs.lemmas.Result.{err_from_is_err_and}
use Rattle.keyed_file.specs.declared.home.Home.{Home}
use Rattle.keyed_file.specs.Block.{KeyedBlock}
use Rattle.rollforward.specs.Body.{IsReadFrom, TellsFrom, bytes_in}
use Rattle.rollforward.proofs.Bodies.{ArePlacedTo, AreReadTo, absent-fault, placed_all, placed_more, read_all, read_more, row-fault}
use Rattle.rollforward.proofs.HomeRows.{home_in, home_there}
use Rattle.rollforward.proofs.body.read_body.Goals as goal

pub returns-in_err-find_body-clause-fault : goal.returns-in_err-find_body-clause-fault
returns-in_err-find_body-clause-fault g c = λ told.
    let p = err_from_is_err_and c.from_residual.result c.from_residual.ensures.1 in
    rw (p.1, p.2) (absent-fault c.args.body c.args.homes.now (g.D.Disk.held c.args.device.now c.args.body) _ (c.in_err-find_body.ensures.fault told))

pub returns-in_err-read_block-clause-fault : goal.returns-in_err-read_block-clause-fault
returns-in_err-read_block-clause-fault g c = λ told.
    let now : IsTrue (g.D.Disk.tells c.loop-home.device) = subst IsTrue (sym c.loop-home.invariant.keeps.tells) told in
    let homes : List Home = c.args.homes.now in
    let index : ℕ = c.loop-home.home-index in
    let home : Home = home_in homes index in
    let o = g.D.Disk.held c.args.device.now c.args.body in
    let read = c.loop-home.invariant.read told in
    let p = err_from_is_err_and c.from_residual-in_err-read_block.result c.from_residual-in_err-read_block.ensures.1 in
    let within : c.loop-home.at ≤ length (bytes_in o) = omega (arith, c.loop-home.invariant.at, read.long) in
    rw (p.1, p.2)
    (row-fault c.args.body homes o index c.loop-home.at home c.loop-home.blocks.items c.in_err-read_block.field-0.0
    (home_there homes index c.loop-home-test.true) c.loop-home.invariant.at (c.in_ok-find_body.ensures.there told) read
    (subst (λ h. TellsFrom c.args.body home c.loop-home.at (bytes_in (h c.args.body)) c.in_err-read_block.field-0.0) c.loop-home.invariant.same
    (c.in_err-read_block.ensures.fault now (subst (λ h. c.loop-home.at ≤ length (bytes_in (h c.args.body))) (sym c.loop-home.invariant.same) within))))

pub loop-home-preserved : goal.loop-home-preserved
loop-home-preserved g c =
    let homes : List Home = c.args.homes.now in
    let index : ℕ = c.loop-home.home-index in
    let home : Home = home_in homes index in
    let block : KeyedBlock = c.in_ok-read_block.field-0 in
    let items : List KeyedBlock = c.loop-home.blocks.items in
    let bytes = bytes_in (g.D.Disk.held c.args.device.now c.args.body) in
    let at = home_there homes index c.loop-home-test.true in
    record {
      at = omega (arith, c.loop-home.invariant.at);
      room = subst (λ (n : ℕ). length homes ≤ n) (sym c.push_reserved.ensures.capacity) c.loop-home.invariant.room;
      places = subst (ArePlacedTo homes (index + 1)) (sym c.push_reserved.ensures.items) (placed_more homes index items home block at c.in_ok-read_block.ensures.valid c.loop-home.invariant.places);
      read = λ told.
          let now : IsTrue (g.D.Disk.tells c.loop-home.device) = subst IsTrue (sym c.loop-home.invariant.keeps.tells) told in
          subst (AreReadTo homes (index + 1) bytes) (sym c.push_reserved.ensures.items)
          (read_more homes index c.loop-home.at bytes items home block at c.loop-home.invariant.at c.loop-home.invariant.places.many
          (subst (λ h. IsReadFrom home c.loop-home.at (bytes_in (h c.args.body)) block) c.loop-home.invariant.same (c.in_ok-read_block.ensures.read now)) (c.loop-home.invariant.read told));
      same = c.read_block.ensures.same ∙ c.loop-home.invariant.same;
      keeps = record {
        device = g.met.D.Disk.same_on _ _ _ c.loop-home.invariant.keeps.device c.read_block.ensures.keeps.device;
        tells = c.read_block.ensures.keeps.tells ∙ c.loop-home.invariant.keeps.tells;
        later = omega (arith, c.read_block.ensures.keeps.later, c.loop-home.invariant.keeps.later);
      };
    }

pub returns-clause-places : goal.returns-clause-places
returns-clause-places g c = placed_all c.args.homes.now c.loop-home.home-index c.loop-home.blocks.items (omega (arith, c.loop-home-test.false, c.loop-home.auto.home-index-end)) c.loop-home.invariant.places

pub returns-clause-spelled : goal.returns-clause-spelled
returns-clause-spelled g c = λ told.
    read_all c.args.homes.now c.loop-home.home-index (g.D.Disk.held c.args.device.now c.args.body) c.loop-home.blocks.items (c.in_ok-find_body.ensures.there told) (omega (arith, c.loop-home-test.false, c.loop-home.auto.home-index-end)) (c.loop-home.invariant.read told)

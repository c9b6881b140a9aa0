use Rattle.std.proofs.Common.{◌≡◌, Some, refl, subst, sym}
use Rattle.std.specs.BTreeMap.{get}
use Rattle.std.specs.Option.{IsSome}
use Rattle.disc_process.specs.Live.{tx_cmp}
use Rattle.disc_process.specs.LiveTx.{noted}
use Rattle.disc_process.proofs.Bounds.{changed_live}
use Rattle.disc_process.proofs.live.LiveTable.note.Goals as goal

pub returns-in-Some : goal.returns-in-Some
returns-in-Some c = λ u.
    let w = c.note.new.self in
    let h = c.get_mut.follows.holds w in
    let was : get tx_cmp c.args.self.now.live c.args.item.now.tx ≡ Some c.in-Some.live.now = sym c.in-Some.ensures.value in
    changed_live c.args.self.now.live (c.get_mut.follows.lender w) c.args.item.now.tx w c.in-Some.live.now (noted c.args.item.now) was (h.3 (subst IsSome (sym was) refl)) c.note.ensures u

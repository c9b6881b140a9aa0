use Rattle.chronicle.proofs.Steps.{appends}
use Rattle.chronicle.proofs.counter.append.Goals as goal

pub fetch_add-requires : goal.fetch_add-requires
fetch_add-requires g c =
    let may = c.requires.may in
    (c.requires.own.0, c.requires.own.1, appends g.M.Machine.rules g.M.Machine.facts_stay g.M.Machine.monotone g.X.PicksEvent.event (g.E.Names.event c.args.event.now) may.0 c.args.counter.now.shared.table_id.slots c.args.pass.now.id c.args.pass.now.me c.requires.picked c.requires.live may.1 may.2)

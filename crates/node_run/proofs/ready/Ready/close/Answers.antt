use Rattle.std.proofs.Common.{◌++◌, List, ap, length, map, ◌∙◌, append-nil, arith}
use Rattle.run_opening.specs.Kept.{device_kept}
use Rattle.run_opening.specs.declared.opening.Opened.{Opened}
use Rattle.node_run.proofs.ready.Ready.close.Goals as goal

pub close-requires : goal.close-requires
close-requires g c =
    let same = c.into_opened.ensures in
    let none = ap (λ (o : Opened g.row.D.Denot). length o.row.devices) same in
    let many = ap (λ (o : Opened g.row.D.Denot). length o.kept.items) same in
    let room = ap (λ (o : Opened g.row.D.Denot). o.row.room) same in
    let no_more = ap length c.requires.no_more in
    omega (arith, none, many, room, no_more, c.requires.count, c.requires.room)

pub returns : goal.returns
returns g c =
    c.close.ensures
    ∙ ap (λ (o : Opened g.row.D.Denot). map device_kept o.kept.items ++ o.row.devices) c.into_opened.ensures
    ∙ ap (λ (l : List g.row.D.Denot). map device_kept c.args.self.opened.kept.items ++ l) c.requires.no_more
    ∙ append-nil (map device_kept c.args.self.opened.kept.items)

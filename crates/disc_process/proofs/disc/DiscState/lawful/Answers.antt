use Rattle.std.proofs.Common.{ℕ, arith, Some, ap, sym, subst, ◌∙◌}
use Rattle.chronicle.specs.Seats.{Sight}
use Rattle.node_machine.specs.declared.event.Event.{Event}
use Rattle.tmf_model.specs.Config.{IsDeclared, IsValidConfig}
use Rattle.tmf_model.specs.declared.config.Config.{Config}
use Rattle.node_machine.specs.Opening.{disc_part}
use Rattle.disc_process.specs.Device.{device_of}
use Rattle.disc_process.specs.Disc.{DiscView, the_disc}
use Rattle.disc_process.specs.Later.{IsLawful}
use Rattle.disc_process.proofs.Own.{own_told}
use Rattle.disc_process.proofs.Showing.{is_shown}
use Rattle.disc_process.proofs.disc.DiscState.lawful.Goals as goal

pub returns : goal.returns
returns g c =
    let i = c.self.invariant in
    let seat : Sight Event = c.self.inside.seat in
    let disc : DiscView g.row.D.Denot = record { seat = c.self.inside.seat; part = the_disc g.J.Run.opening c.self.inside.seat; blocks = c.self.inside.blocks; handed_in = g.J.DeviceRun.devices (device_of c.self.inside.volume) } in
    let place = i.seat.part ∙ ap (λ (n : ℕ). Some (disc_part n)) (sym i.seat.number) in
    subst (IsLawful g.D.Disk g.J.Run.opening) c.self.view_is (record {
      place = place;
      at = i.seat.at;
      history = c.lawful.ensures;
      told = own_told g.J.Run.opening seat (disc_part disc.part.number) disc.part i.fresh place i.seat.at c.lawful.ensures;
      valid = subst IsValidConfig (sym i.seat.config_is) i.valid;
      declared = subst (λ (x : Config × ℕ). IsDeclared x.0.volumes x.1) (λ j. (sym i.seat.config_is j, sym i.seat.number j)) i.declared;
      few = (let few = i.keeps.few in let at = i.keeps.position in omega (arith, few, at));
      label = i.holds_moves.label;
      files = i.keeps.files;
      only = i.keeps.only;
      low = i.holds_moves.landed;
      way = i.holds_moves.way;
      values = i.keeps.values;
      shown = is_shown g.D.Disk disc c.self.inside.moves i.holds_moves i.keeps.homes i.keeps.are_drawn i.keeps.files c.always.ensures.label c.always.ensures.next_low c.every_image.ensures.volume c.every_image.ensures.contents
          c.every_image.ensures.low i.keeps.values;
      drawn = i.keeps.are_drawn;
    })

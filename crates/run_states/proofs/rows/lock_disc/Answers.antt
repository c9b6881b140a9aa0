use Rattle.std.specs.Prelude.{false, reverse}
use Rattle.std.proofs.Common.{◌≡◌, List, [], map, sym, ap, ◌∙◌}
use Rattle.chronicle.specs.Seats.{own_events}
use Rattle.disc_lock.specs.Moving.{lacks_behind}
use Rattle.node_machine.specs.Moves.{token_count}
use Rattle.node_machine.specs.declared.event.DiscEvent.{DiscEvent}
use Rattle.node_machine.specs.declared.event.Event.{Event}
use Rattle.node_machine.specs.declared.event.Event.TheVariants.{OfDisc}
use Rattle.run_states.proofs.rows.lock_disc.Goals as goal

pub new-requires : goal.new-requires
new-requires g c =
    let disc = c.args.state in
    let none : own_events disc.seat ≡ [] = c.lawful.ensures.told ∙ ap (λ (events : List DiscEvent). map (λ e. OfDisc e) (reverse events)) c.requires.disc.1 in
    record {
      state = c.requires.disc.0;
      ends = sym (ap (λ (events : List Event). lacks_behind false events) none);
      counted = record { part = c.split_off-share.ensures.parts; amount = c.split_off-share.ensures.amount ∙ sym (ap token_count none) };
      small = (c.requires.small.above, c.requires.small.below);
    }

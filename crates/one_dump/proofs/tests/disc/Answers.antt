use Rattle.std.specs.Prelude.{false}
use Rattle.std.proofs.Common.{◌≡◌, Some, ap, sym, ◌∙◌, subst, arith}
use Rattle.chronicle.specs.Seats.{own_events, part_state}
use Rattle.tmf_model.specs.Config.{IsDeclared, IsValidConfig}
use Rattle.tmf_model.specs.declared.config.Config.{Config}
use Rattle.keyed_file.specs.Volume.{label_of}
use Rattle.node_machine.specs.Moves.{token_count}
use Rattle.node_machine.specs.Node.{node}
use Rattle.node_machine.specs.Opening.{Found, opening_parts}
use Rattle.node_machine.specs.Parts.PartState.{Disc}
use Rattle.disc_process.specs.Disc.{DiscView, HoldsOpening, IsFresh, ToldBy, disc_in, first_found, the_disc}
use Rattle.disc_lock.specs.Numbered.{IsDiscOf}
use Rattle.one_dump.specs.OneDump.{one_disc, one_found}
use Rattle.disc_lock.specs.Moving.{lacks_end}
use Rattle.disc_lock.specs.Tokens.{IsCounted}
use Rattle.one_dump.proofs.OneDump.{found_disc, one_declared, one_durable, one_fresh, one_valid}
use Rattle.one_dump.proofs.tests.disc.Goals as goal

pub new-state-requires : goal.new-state-requires
new-state-requires g c =
    let o = g.J.Run.opening in
    let run = c.requires.run in
    let volume = c.requires.volume in
    let opened = volume.attached.opened in
    let config = c.requires.config in
    let at : part_state node o c.args.hand.seat ≡ Some (Disc one_disc) = ap (λ o. part_state node o c.args.hand.seat) run.opens ∙ ap (λ v. part_state node (opening_parts one_found) v) c.requires.hand.0 in
    let part : the_disc o c.args.hand.seat ≡ one_disc = ap disc_in at in
    record {
      fresh = subst IsFresh (sym run.opens) one_fresh;
      valid = subst IsValidConfig (sym config) one_valid;
      declared = subst (λ (k : Config). IsDeclared k.volumes 1) (sym config) one_declared;
      is_found = found_disc g.J.NodeRun.found g.J.NodeRun.rules c.args.config.now run.found_is c.requires.rules config;
      seat = record {
        part = ap (λ v. v.part) c.requires.hand.0;
        at = at ∙ ap (λ s. Some (Disc s)) (sym part);
        config_is = ap (λ s. s.config) part ∙ sym config;
        number = ap (λ s. s.number) part;
        first = ap (λ s. s.first) part ∙ sym (ap (λ (f : Found). first_found f 1) run.found_is);
      };
      still = ap (λ s. s.events) part;
      position = sym (ap (λ s. s.first) part);
      first = omega arith;
      few = omega arith;
      values = subst (λ b. ToldBy b (HoldsOpening g.D.Disk.tells g.D.Disk.held (the_disc o c.args.hand.seat) c.args.blocks)) (sym (ap (λ s. s.base) part)) tt;
      label = subst (λ (k : Config). c.args.blocks.label ≡ label_of k 1 c.args.blocks.label.low) (sym config) opened.label;
      empty = opened.empty;
      durable = one_durable o c.args.hand.seat run.opens (ap (λ v. v.seen) c.requires.hand.0);
      settled = opened.settled;
      low = ap (λ s. s.low) part ∙ sym volume.attached.low;
      behind = (let low = volume.attached.low in omega (arith, low));
      rest_is = ap (λ s. s.rest) part;
      unwritten = volume.held;
      holds_device = record { handed = volume.handed_in; rise = λ few. (let none = volume.faults_are in omega (arith, none)) };
    }

pub new-requires : goal.new-requires
new-requires g c =
    let o = g.J.Run.opening in
    let run = c.requires.run in
    let at : part_state node o c.args.hand.seat ≡ Some (Disc one_disc) = ap (λ o. part_state node o c.args.hand.seat) run.opens ∙ ap (λ v. part_state node (opening_parts one_found) v) c.requires.hand.0 in
    let part : the_disc o c.args.hand.seat ≡ one_disc = ap disc_in at in
    let made = c.new-state.ensures in
    record {
      state = subst (λ (d : DiscView g.row.D.Denot). IsDiscOf g.J.NodeRun.found 1 d) (sym made.value) (record {
        number = ap (λ s. s.number) part;
        config = ap (λ s. s.config) part ∙ sym (ap (λ (f : Found). f.config) run.found_is);
        in_time = made.in_time;
      });
      counted = subst (λ (d : DiscView g.row.D.Denot). IsCounted c.args.hand.share d.seat) (sym made.value) (record {
        part = c.requires.hand.1;
        amount = c.requires.hand.2 ∙ sym (ap (λ v. token_count (own_events v)) c.requires.hand.0);
      });
      ends = subst (λ (d : DiscView g.row.D.Denot). false ≡ lacks_end d.seat) (sym made.value) (sym (ap lacks_end c.requires.hand.0));
      small = (omega arith, omega arith);
    }

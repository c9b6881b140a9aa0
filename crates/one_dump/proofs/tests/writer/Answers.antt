use Rattle.std.proofs.Common.{◌≡◌, [], Some, refl, ap, sym, ◌∙◌, subst, inl, arith}
use Rattle.chronicle.specs.Seats.{part_state}
use Rattle.node_machine.specs.Node.{node}
use Rattle.node_machine.specs.Opening.{opening_parts, trail_part}
use Rattle.node_machine.specs.Parts.PartState.{Trail}
use Rattle.trail_files.specs.Content.{no_content}
use Rattle.audit_writer.specs.Seat.{trail_in}
use Rattle.audit_writer.specs.Writer.{IsHandedIn, Stands}
use Rattle.one_dump.specs.OneDump.{one_found, one_trail}
use Rattle.one_dump.proofs.tests.writer.Goals as goal

pub attach-requires : goal.attach-requires
attach-requires g c =
    let o = g.J.Run.opening in
    let run = c.requires.run in
    let trail = c.requires.trail in
    let t = trail.formatted in
    let at : part_state node o c.args.seat ≡ Some (Trail one_trail) = ap (λ o. part_state node o c.args.seat) run.opens ∙ ap (λ v. part_state node (opening_parts one_found) v) c.requires.seat in
    let part = ap trail_in at in
    let number = ap (λ p. p.number) part in
    record {
      opened = record {
        at = record {
          opens = run.opens ∙ ap opening_parts (sym run.found_is);
          seat = ap (λ v. v.part) c.requires.seat ∙ ap (λ s. Some (trail_part s.number)) (sym part);
          at = at ∙ ap (λ s. Some (Trail s)) (sym part);
        };
        none = ap (λ p. p.events) part;
        ready = t.ready;
        writable = t.writable;
        file = (let present = ap (λ p. p.present) part in let file = t.file in omega (arith, present, file));
        rules = t.rules ∙ sym trail.rules_are ∙ ap (λ k. g.J.NodeRun.rules k) (sym number);
        device = subst (λ k. IsHandedIn g.D.Disk (g.J.DeviceRun.devices k) c.args.trail.device) (sym number) trail.handed_in;
        before = (let none = ap (λ k. g.J.NodeRun.faults k) number ∙ trail.faults_are in omega (arith, none));
        told = λ old is. subst (λ k. g.J.NodeRun.premise k) (sym number) trail.premise_holds;
        stands = λ premise. subst (λ p. Stands g.D.Disk c.args.trail p []) (sym part) (record {
          tells = t.tells;
          content = no_content;
          holds = t.holds;
          old = [];
          told = refl;
          from = 0;
          gone = inl refl;
          front = omega arith;
          placed = refl;
          pending = refl;
          order = refl;
          next = λ d there. tt;
        });
      };
    }

pub new-requires : goal.new-requires
new-requires g c =
    let o = g.J.Run.opening in
    let at : part_state node o c.args.seat ≡ Some (Trail one_trail) = ap (λ o. part_state node o c.args.seat) c.requires.run.opens ∙ ap (λ v. part_state node (opening_parts one_found) v) c.requires.seat in
    record { state = ap (λ w. w.seat.part.number) c.in-Ok.ensures.ok ∙ ap (λ p. p.number) (ap trail_in at); small = (omega arith, omega arith) }

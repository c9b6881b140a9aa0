use Rattle.std.proofs.Common.{◌≡◌, [], ◌∷◌, Some, refl, ap, sym, ◌∙◌, subst, inl, arith}
use Rattle.chronicle.specs.Seats.{part_state}
use Rattle.node_machine.specs.Node.{node}
use Rattle.node_machine.specs.Opening.{opening_parts, trail_part}
use Rattle.node_machine.specs.Parts.{TrailPart}
use Rattle.node_machine.specs.Parts.PartState.{Trail}
use Rattle.audit_writer.specs.FourFiles.{four_content, four_found, four_standing}
use Rattle.audit_writer.specs.OneTrail.{one_config}
use Rattle.audit_writer.specs.Seat.{trail_in}
use Rattle.audit_writer.specs.Writer.{IsHandedIn, Stands}
use Rattle.audit_writer.proofs.Four.{order_three, next_four}
use Rattle.two_discs.proofs.one_writer.attached.Goals as goal

pub attach-requires : goal.attach-requires
attach-requires g c =
    let o = g.J.Run.opening in
    let run = c.requires.run in
    let f = run.filled in
    let old = four_standing run.a run.b run.c in
    let four : TrailPart = record { config = one_config; number = 1; old = Some old; present = 4; firsts = (1, 4) ∷ []; events = [] } in
    let at : part_state node o c.args.seat ≡ Some (Trail four) = ap (λ o. part_state node o c.args.seat) run.opens ∙ ap (λ v. part_state node (opening_parts (four_found old)) v) c.requires.seat in
    let part = ap trail_in at in
    let number = ap (λ p. p.number) part in
    record {
      opened = record {
        at = record {
          opens = run.opens ∙ ap opening_parts (sym run.found_is);
          seat = ap (λ v. v.part) c.requires.seat ∙ ap (λ s. Some (trail_part s.number)) (sym part);
          at = at ∙ ap (λ s. Some (Trail s)) (sym part);
        };
        none = ap (λ p. p.events) part;
        ready = f.ready;
        writable = f.writable;
        file = (let present = ap (λ p. p.present) part in let file = f.holds.file in omega (arith, present, file));
        rules = f.rules ∙ sym run.rules_are ∙ ap (λ k. g.J.NodeRun.rules k) (sym number);
        device = subst (λ k. IsHandedIn g.D.Disk (g.J.DeviceRun.devices k) c.args.trail.device) (sym number) run.handed_in;
        before = (let none = ap (λ k. g.J.NodeRun.faults k) number ∙ run.faults_are in omega (arith, none));
        told = λ old is. subst (λ k. g.J.NodeRun.premise k) (sym number) run.premise_holds;
        stands = λ premise. subst (λ p. Stands g.D.Disk c.args.trail p []) (sym part) (record {
          tells = f.tells;
          content = four_content run.a run.b run.c;
          holds = f.holds;
          old = old;
          told = refl;
          from = 0;
          gone = inl refl;
          front = omega arith;
          placed = refl;
          pending = refl;
          order = order_three run.a run.b run.c f.first f.second f.third;
          next = next_four run.a run.b run.c f.first f.second f.third;
        });
      };
    }

pub returns-in-Ok : goal.returns-in-Ok
returns-in-Ok g c =
    let o = g.J.Run.opening in
    let run = c.requires.run in
    let old = four_standing run.a run.b run.c in
    let four : TrailPart = record { config = one_config; number = 1; old = Some old; present = 4; firsts = (1, 4) ∷ []; events = [] } in
    let at : part_state node o c.args.seat ≡ Some (Trail four) = ap (λ o. part_state node o c.args.seat) run.opens ∙ ap (λ v. part_state node (opening_parts (four_found old)) v) c.requires.seat in
    ap (λ w. w.seat.part.number) c.in-Ok.ensures.ok ∙ ap (λ p. p.number) (ap trail_in at)

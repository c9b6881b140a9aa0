use Rattle.std.proofs.Common.{[], refl, ap, sym, ◌∙◌, subst, inl, arith}
use Rattle.trail_files.specs.Content.{no_content}
use Rattle.audit_writer.specs.Seat.{sight_of, IsTrailAt}
use Rattle.audit_writer.specs.Writer.{IsHandedIn, Stands}
use Rattle.two_discs.proofs.one_writer.opened.Goals as goal

pub attach-requires : goal.attach-requires
attach-requires g c =
    let at = c.make.ensures.at in
    let part = c.make.ensures.part in
    let t = c.requires.trail in
    let n = c.requires.name in
    let number = ap (λ p. p.number) part in
    record {
      opened = record {
        at = subst (λ f. IsTrailAt g.J.Run.opening f (sight_of g.J.Run.opening c.make.new.trail)) (sym n.found_is) at;
        none = ap (λ p. p.events) part;
        ready = t.ready;
        writable = t.writable;
        file = (let present = ap (λ p. p.present) part in let file = t.file in omega (arith, present, file));
        rules = t.rules ∙ sym n.rules_are ∙ ap (λ k. g.J.NodeRun.rules k) (sym number);
        device = subst (λ k. IsHandedIn g.D.Disk (g.J.DeviceRun.devices k) c.args.trail.device) (sym number) n.handed_in;
        before = (let none = ap (λ k. g.J.NodeRun.faults k) number ∙ n.faults_are in omega (arith, none));
        told = λ old is. subst (λ k. g.J.NodeRun.premise k) (sym number) n.premise_holds;
        stands = λ premise. subst (λ p. Stands g.D.Disk c.args.trail p []) (sym part) (record {
          tells = t.tells;
          content = no_content;
          holds = t.holds;
          old = [];
          told = refl;
          from = 0;
          gone = inl refl;
          front = omega arith;
          placed = refl;
          pending = refl;
          order = refl;
          next = λ d there. tt;
        });
      };
    }

use Rattle.std.proofs.Common.{◌++◌, [], ◌∷◌, ℕ, List, refl, ap, sym, ◌∙◌, subst}
use Rattle.chronicle.specs.Seats.{own_events}
use Rattle.node_machine.specs.SameLaws.{case_false, case_true}
use Rattle.node_machine.specs.Seats.{IsActive}
use Rattle.node_machine.specs.declared.event.Event.{Event}
use Rattle.txn_states.specs.Txn.{AreDiscs, HasEnlisted, Txn}
use Rattle.txn_states.proofs.Enlisting.{room_for_disc, more_discs, more_active, knows_enlisted, any_last, nothing_behind}
use Rattle.txn_states.proofs.active.Active.enlist_here.Goals as goal

pub push-requires : goal.push-requires
push-requires g c = room_for_disc c.self.inside.discs c.args.disc c.self.invariant.discs c.requires (sym c.has.ensures ∙ c.if-not-has.true)

pub invariant_of-self : goal.invariant_of-self
invariant_of-self g c =
    let fresh = sym c.has.ensures ∙ c.if-not-has.true in record {
      active = subst (λ (xs : List ℕ). IsActive g.J.Run.opening c.append.new.seat c.self.inside.tx xs) (sym c.push.ensures)
          (more_active g.J.Run.opening c.self.inside.seat c.append.new.seat c.self.inside.tx c.self.inside.discs c.args.disc c.self.invariant.active c.append.ensures.state);
      discs = subst AreDiscs (sym c.push.ensures) (more_discs c.self.inside.discs c.args.disc c.self.invariant.discs c.requires fresh);
      worker = c.self.invariant.worker;
    }

pub returns-then-not-has : goal.returns-then-not-has
returns-then-not-has g c =
    let fresh = sym c.has.ensures ∙ c.if-not-has.true in
    let old : Txn = record { tx = c.self.inside.tx; discs = c.self.inside.discs; seat = c.self.inside.seat; steps = c.self.inside.node.now.steps } in
    let new : Txn = record { tx = c.self.inside.tx; discs = c.push.new.self; seat = c.append.new.seat; steps = c.self.inside.node.now.steps } in
    let a = more_active g.J.Run.opening c.self.inside.seat c.append.new.seat c.self.inside.tx c.self.inside.discs c.args.disc c.self.invariant.active c.append.ensures.state in
    subst
    (λ (t : Txn). HasEnlisted g.J.Run.opening t c.args.disc new)
    c.self.view_is
    (record {
      tx = refl;
      discs = c.push.ensures ∙ sym (case_false _ c.self.inside.discs (c.self.inside.discs ++ c.args.disc ∷ []) fresh);
      steps = refl;
      seat = record {
        part = c.append.ensures.part;
        begins = c.append.ensures.begins;
        events = c.append.ensures.mine ∙ ap (λ (es : List Event). own_events c.self.inside.seat ++ es) (sym (case_false _ [] _ fresh));
        kept = c.append.ensures.knows;
      };
      knows = knows_enlisted g.J.Run.opening c.append.new.seat c.self.inside.tx (c.self.inside.discs ++ c.args.disc ∷ []) c.args.disc a (any_last g.J.Run.opening c.self.inside.discs c.args.disc);
      active = invariant_of-self g c;
    })

pub returns-else-not-has : goal.returns-else-not-has
returns-else-not-has g c =
    let has = sym c.has.ensures ∙ c.if-not-has.false in
    let same : Txn = record { tx = c.self.inside.tx; discs = c.self.inside.discs; seat = c.self.inside.seat; steps = c.self.inside.node.now.steps } in
    subst
    (λ (t : Txn). HasEnlisted g.J.Run.opening t c.args.disc t)
    c.self.view_is
    (record {
      tx = refl;
      discs = sym (case_true _ c.self.inside.discs (c.self.inside.discs ++ c.args.disc ∷ []) has);
      steps = refl;
      seat = record {
        part = refl;
        begins = ([], nothing_behind g.J.Run.opening c.self.inside.seat.seen);
        events = sym (nothing_behind g.J.Run.opening (own_events c.self.inside.seat)) ∙ ap (λ (es : List Event). own_events c.self.inside.seat ++ es) (sym (case_true _ [] _ has));
        kept = λ f k. k;
      };
      knows = knows_enlisted g.J.Run.opening c.self.inside.seat c.self.inside.tx c.self.inside.discs c.args.disc c.self.invariant.active has;
      active = c.self.invariant;
    })

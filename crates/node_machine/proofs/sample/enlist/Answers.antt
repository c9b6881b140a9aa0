use Rattle.std.proofs.Common.{◌≡◌, ◌∙◌, ap, sym, subst, List, [], ◌∷◌, ◌++◌, false, ℕ, refl, inl}
use Rattle.std.specs.Prelude.{◌==◌, option_map}
use Rattle.std.specs.List.{list_any}
use Rattle.node_machine.specs.declared.event.Event.TheVariants.{OfWorker}
use Rattle.node_machine.specs.declared.event.WorkerEvent.TheVariants.{Enlist}
use Rattle.node_machine.specs.Parts.{WorkerPart}
use Rattle.node_machine.specs.Parts.Fact.{Enlisted}
use Rattle.node_machine.specs.Parts.PartState.{Worker}
use Rattle.node_machine.specs.Same.{Among}
use Rattle.node_machine.specs.SameLaws.{same_self, case_true, among_right}
use Rattle.node_machine.specs.Worker.{enlisted_discs}
use Rattle.node_machine.specs.Node.{node}
use Rattle.node_machine.proofs.Appending.{worker_may}
use Rattle.node_machine.proofs.sample.enlist.Goals as goal

pub append-requires : goal.append-requires
append-requires g c =
    let a = c.requires.1.0 in
    worker_may g.J.Run.opening c.args.seat.now a.part (Enlist c.args.tx c.args.number) a.at
    (record { is_open = a.is_open; unfinished = a.unfinished; is_new = subst (λ (xs : List ℕ). list_any (λ other. other == c.args.number) xs ≡ false) (sym a.discs_are) c.requires.1.1 })

pub returns-clause-knows : goal.returns-clause-knows
returns-clause-knows g c =
    let a = c.requires.1.0 in
    let e = Enlist c.args.tx c.args.number in
    let s : WorkerPart = record a.part { events = e ∷ a.part.events } in
    c.append.ensures.makes (Worker s) (Enlisted c.args.tx c.args.number)
    (c.append.ensures.state ∙ ap (option_map (λ t. node.step t (OfWorker e))) a.at) (
      record { worker = a.is_open.is_own.worker; epoch = a.is_open.is_own.epoch },
      subst (λ (xs : List ℕ). Among xs c.args.number) (sym (case_true _ (enlisted_discs a.part.events c.args.tx ++ c.args.number ∷ []) (enlisted_discs a.part.events c.args.tx) (same_self c.args.tx)))
          (among_right (enlisted_discs a.part.events c.args.tx) (c.args.number ∷ []) c.args.number (inl refl)),
    )

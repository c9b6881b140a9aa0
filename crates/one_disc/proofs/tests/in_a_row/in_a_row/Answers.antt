use Rattle.std.proofs.Common.{◌≡◌, ℕ, ◌==◌, Bool, true, false, refl, List, Option, Result, Ok, Err, is_err, ap, sym, subst, ◌∙◌}
use Rattle.std.specs.List.{list_any}
use Rattle.disk_model.specs.declared.disk.Disk as disk
use Rattle.node_machine.specs.Disc.{is_lock}
use Rattle.node_machine.specs.Parts.{DiscPart}
use Rattle.tmf_model.specs.declared.script.Step.{Step}
use Rattle.txn_states.specs.Txn.{Txn}
use Rattle.disc_process.specs.declared.refused.WriteRefused.{WriteRefused}
use Rattle.disc_process.specs.Disc.{DiscView}
use Rattle.disc_process.specs.Write.{IsAnswered}
use Rattle.one_disc.proofs.tests.in_a_row.in_a_row.Goals as goal

-- a step that was carried out has enlisted the disc
enlisted_of : {D : Type 0} (kind : disk.Ghosts D) (old new : DiscView D) (t_old t_new : Txn) (step : Step) (r : Result (Option (List ℕ)) WriteRefused) → is_err r ≡ false → IsAnswered kind old new t_old t_new step r
    → list_any (λ other. other == old.part.number) t_new.discs ≡ true
enlisted_of kind old new t_old t_new step (Ok value) e h = by (is_lock step.op) refl
  where
    by : (b : Bool) → is_lock step.op ≡ b → list_any (λ other. other == old.part.number) t_new.discs ≡ true
    by true is = (h.of_file is).2.worker.has
    by false is = (h.of_key is).1.worker.has
enlisted_of kind old new t_old t_new step (Err refusal) e h = absurd (cc (e))

pub close-requires : goal.close-requires
close-requires g c =
    let old = c.args.disc.now in
    let first = enlisted_of g.D.Disk old c.write.new.self c.args.tx c.write.new.tx c.args.step.now c.write.result (sym c.is_err.ensures.value ∙ c.if-is_err.false) c.write.ensures.answered in
    let number : c.write-2.new.self.part.number ≡ old.part.number = ap (λ (p : DiscPart). p.number) c.write-2.ensures.disc.part ∙ ap (λ (p : DiscPart). p.number) c.write.ensures.disc.part in
    subst (λ (x : ℕ × List ℕ). list_any (λ d. d == x.0) x.1 ≡ true) (λ j. (sym number j, sym c.end-tx.ensures.discs j)) (c.write-2.ensures.txn.discs old.part.number first)

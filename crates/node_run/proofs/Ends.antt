-- A run that was taken down is one that is over.
use Rattle.std.specs.Prelude.{◌≡◌, ℕ, ◌+◌, List, Option}
use Rattle.std.specs.List.{Contains}
use Rattle.std.proofs.Common.{sym, ap, subst, ◌∙◌}
use Rattle.chronicle.specs.Seats.{IsWholeOf, Sight}
use Rattle.disk_model.specs.declared.disk.Disk as disk
use Rattle.node_machine.specs.Deeds.{Log}
use Rattle.node_machine.specs.Opening.{Found, opening_parts}
use Rattle.node_machine.specs.Parts.{PartState}
use Rattle.node_machine.specs.declared.event.Event.{Event}
use Rattle.run_outcomes.specs.Left.{AreLeft}
use Rattle.run_outcomes.specs.Telling.{RecordsLaw, ToldLaw, WithinLaw}
use Rattle.run_outcomes.specs.declared.outcome.Outcome.{Outcome}
use Rattle.run_threads.specs.Ended.{EndedLaw}
use Rattle.tmf_model.specs.declared.script.Phase.{Phase}
use Rattle.node_run.specs.Closing.{AreTakenDown, ClosingLaw, IsRunOver, SeatTokensLaw}

pub closing_law : {D : Type 0} (kind : disk.Ghosts D) → EndedLaw kind → SeatTokensLaw → ToldLaw kind → WithinLaw kind → RecordsLaw kind → ClosingLaw kind
closing_law kind ended counted told within records = λ found phase faults handed_in outcomes seats left log down left_is whole.
    let e = down.ended in
    let tokens = ap (λ (n : ℕ). n + down.amount) (sym (counted log seats down.seats_are whole)) ∙ down.tokens in
    let are = ended found phase handed_in seats down.amount outcomes log e left_is.history whole tokens in
    record {
      log = log;
      left_is = left_is;
      attempts = e.in_order;
      told = told found.config phase found.epoch handed_in found log e.reach e.acts e.moves e.of outcomes are;
      within = within found.config phase found.epoch handed_in found log e.reach e.acts e.moves e.of outcomes are;
      records = records found.config phase found.epoch handed_in found log e.reach e.acts e.moves e.of outcomes are;
    }

-- What is left of the devices is what the gathered history leaves, and so the run is over.
pub run_over : {D : Type 0} (kind : disk.Ghosts D) (found : Found) (phase : Phase) (faults : ℕ → ℕ) (handed_in : ℕ → Option D) → ClosingLaw kind
    → (opening : List PartState) (outcomes : List Outcome) (seats : List (Sight Event)) (left now : List D) (log : Log) → opening ≡ opening_parts found → now ≡ left
    → AreTakenDown kind found phase faults handed_in outcomes seats left → AreLeft kind opening found faults handed_in log now
    → ((v : Sight Event) → Contains seats v → IsWholeOf log v) → IsRunOver kind found phase faults handed_in outcomes left
run_over {D} kind found phase faults handed_in law opening outcomes seats left now log opens same down left_is whole =
    let here = subst (λ (o : List PartState). AreLeft kind o found faults handed_in log now) opens left_is in
    law found phase faults handed_in outcomes seats left log down (subst (λ (l : List D). AreLeft kind (opening_parts found) found faults handed_in log l) same here) whole

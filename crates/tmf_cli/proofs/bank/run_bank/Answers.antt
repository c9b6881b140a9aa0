use Rattle.std.specs.Prelude.{IfErr, MatchResult, OnOk}
use Rattle.std.proofs.Common.{rules, ◌≡◌, ◌++◌, [], IsTrue, refl, sym, subst, ◌∙◌, inr}
use Rattle.tmf_edges.specs.Moves.{AppendsPart}
use Rattle.tmf_lines.specs.Summary.{summary_text}
use Rattle.tmf_model.specs.Script.{IsValidScript}
use Rattle.tmf_script.specs.Bank.{bank_script}
use Rattle.tmf_cli.specs.declared.status.Status.TheVariants as status
use Rattle.tmf_cli.specs.AnyDevices.{HavePrinted, PrintsBy}
use Rattle.tmf_cli.specs.Bank.{CollectsAll, EndsBank, GivesSummary, PrintsBank, TellsBank}
use Rattle.tmf_cli.specs.Countdown.{IsSwitched, OnceSwitched}
use Rattle.tmf_cli.specs.Ending.{opening}
use Rattle.tmf_cli.specs.Status.{code_of}
use Rattle.tmf_cli.specs.Top.{IsStatusCaused, Opens, Tells}
use Rattle.tmf_cli.proofs.Banks.{bank-done, bank-ended, bank-keeps, bank-leaves, bank-off, bank-others, bank-printed, bank-summed, bank-unbegun, bank-uncut, gives-status, none-summed, summed-status}
use Rattle.tmf_cli.proofs.Countdowns.{once-so, same-length}
use Rattle.tmf_cli.proofs.Openings.{opens-switched}
use Rattle.tmf_cli.proofs.Statuses.{code-sink}
use Rattle.tmf_cli.proofs.bank.run_bank.Goals as goal

pub returns-in_default : goal.returns-in_default
returns-in_default g c = bank-unbegun g.K.Sink g.D.Disk c.args.transfers c.args.sink.now c.args.bay (record { tells = refl; later = search rules }) c.left_alone.ensures

pub returns-in-Ok-carried : goal.returns-in-Ok-carried
returns-in-Ok-carried g c =
    let transfers = c.args.transfers in
    let same = c.in-Ok.ensures.script in
    let carried = c.carry_out_bank-carried in
    let new = c.carry_out_bank-carried.result.1 in
    let lines = c.carry_out_bank-carried.new.lines.items in
    let before = g.K.Sink.given c.args.sink.now in
    let after = g.K.Sink.given c.sum_up.new.sink in
    let how = c.sum_up.result in
    let gives : IsTrue (g.K.Sink.tells c.args.sink.now) → GivesSummary transfers (code_of how) before after lines =
    (λ ts. gives-status transfers how before after lines (λ done. subst (λ ls. after ≡ before ++ summary_text transfers ls) c.deref.ensures.value (c.sum_up.ensures.given ts done))
    (λ sunk. subst (λ ls. AppendsPart before after (summary_text transfers ls)) c.deref.ensures.value (c.sum_up.ensures.part ts sunk)) (c.sum_up.ensures.none ts) c.sum_up.ensures.status) in
    let met = g.met.D.Disk g.world.𝓛 g.world.𝓜 g.world.𝓡 ((λ s x. x), (λ x. x), (λ x. x), λ x. x) in
    let leaves = bank-leaves g.D.Disk met.same_on met.same_itself transfers c.in-Ok.script c.args.bay new same carried.ensures.keeps in
    let valid = subst IsValidScript same c.in-Ok.ensures.valid in
    let prints = subst (λ s. OnceSwitched (λ opened. HavePrinted g.D.Disk s.config s.actions opened lines new) c.args.bay) same
    (subst (λ r. MatchResult r (λ _. OnceSwitched (λ opened. HavePrinted g.D.Disk c.in-Ok.script.config c.in-Ok.script.actions opened lines new) c.args.bay)
    (λ _. OnceSwitched (λ opened. PrintsBy g.D.Disk c.in-Ok.script.config c.in-Ok.script.actions 2 opened new ⊥ [] []) c.args.bay)) c.in-Ok-carried.is carried.ensures.prints) in
    record {
      status = summed-status how c.sum_up.ensures.status;
      told = λ candidates tell opens.
          once-so (λ opened. CollectsAll g.D.Disk.held g.D.Disk.faults (bank_script transfers).config (opening candidates) (bank_script transfers).actions opened lines new)
          (λ opened. TellsBank g.D.Disk.held g.D.Disk.faults transfers candidates (code_of how) opened new (IsTrue (g.K.Sink.tells c.args.sink.now)) before after) c.args.bay
          (λ opened switched all. bank-summed g.D.Disk.held g.D.Disk.faults transfers candidates opened new (IsTrue (g.K.Sink.tells c.args.sink.now)) before after lines (code_of how)
          (sym (same-length IsSwitched c.args.bay opened switched) ∙ carried.ensures.all) all gives)
          (subst (λ s. OnceSwitched (λ opened. CollectsAll g.D.Disk.held g.D.Disk.faults s.config (opening candidates) s.actions opened lines new) c.args.bay) same
          (subst (λ r. OnOk r (OnceSwitched (λ opened. CollectsAll g.D.Disk.held g.D.Disk.faults c.in-Ok.script.config (opening candidates) c.in-Ok.script.actions opened lines new) c.args.bay)) c.in-Ok-carried.is
          (carried.ensures.told candidates tell (subst (λ s. Opens g.D.Disk.held s c.args.bay candidates) (sym same) opens))));
      printed = λ summed.
          once-so (λ opened. HavePrinted g.D.Disk (bank_script transfers).config (bank_script transfers).actions opened lines new)
          (λ opened. PrintsBank g.D.Disk transfers (code_of how) opened new (IsTrue (g.K.Sink.tells c.args.sink.now)) before after) c.args.bay
          (λ opened switched told. bank-printed g.D.Disk transfers valid opened new lines told (code_of how) (IsTrue (g.K.Sink.tells c.args.sink.now)) before after gives) prints;
      ended = λ two.
          once-so (λ opened. HavePrinted g.D.Disk (bank_script transfers).config (bank_script transfers).actions opened lines new) (λ opened. EndsBank g.D.Disk transfers opened new) c.args.bay
          (λ opened switched told. bank-done g.D.Disk transfers valid opened new lines told) prints;
      silent = λ unsummed ts. (gives ts).none unsummed;
      sink_failed = λ four. subst (λ s. IsStatusCaused s (g.K.Sink.faults c.args.sink.now) (g.K.Sink.faults c.sum_up.new.sink)) (code-sink how four) c.sum_up.ensures.cause;
      keeps_sink = c.sum_up.ensures.keeps;
      devices = bank-keeps g.D.Disk met.same_on met.same_itself transfers c.in-Ok.script c.args.bay new leaves;
      others = bank-others g.D.Disk met.same_on met.same_itself transfers c.in-Ok.script c.args.bay new leaves;
      uncut = bank-uncut g.D.Disk met.same_on met.same_itself transfers c.in-Ok.script c.args.bay new leaves;
      off = inr (bank-off g.D.Disk met.same_on met.same_itself transfers c.in-Ok.script c.args.bay new leaves);
      summed_off = λ summed. bank-off g.D.Disk met.same_on met.same_itself transfers c.in-Ok.script c.args.bay new leaves;
    }

pub returns : goal.returns
returns g c =
    let transfers = c.args.transfers in
    let same = c.in-Ok.ensures.script in
    let carried = c.carry_out_bank-carried in
    let new = c.carry_out_bank-carried.result.1 in
    let sink = g.K.Sink.given c.args.sink.now in
    let met = g.met.D.Disk g.world.𝓛 g.world.𝓜 g.world.𝓡 ((λ s x. x), (λ x. x), (λ x. x), λ x. x) in
    let leaves = bank-leaves g.D.Disk met.same_on met.same_itself transfers c.in-Ok.script c.args.bay new same carried.ensures.keeps in
    record {
      status = inr refl;
      told = λ candidates tell opens.
          once-so (λ opened. Tells g.D.Disk.held g.D.Disk.faults (bank_script transfers) candidates status.NoMemory opened new ⊥ [] [])
          (λ opened. TellsBank g.D.Disk.held g.D.Disk.faults transfers candidates 2 opened new (IsTrue (g.K.Sink.tells c.args.sink.now)) sink sink) c.args.bay
          (λ opened switched tells. bank-ended g.D.Disk.held g.D.Disk.faults transfers candidates opened new (IsTrue (g.K.Sink.tells c.args.sink.now)) sink sink
          (opens-switched g.D.Disk.held (bank_script transfers) c.args.bay opened switched candidates opens).stands tells (λ t. refl {a = sink}))
          (subst (λ s. OnceSwitched (λ opened. Tells g.D.Disk.held g.D.Disk.faults s candidates status.NoMemory opened new ⊥ [] []) c.args.bay) same
          (subst (λ r. IfErr r (λ _. OnceSwitched (λ opened. Tells g.D.Disk.held g.D.Disk.faults c.in-Ok.script candidates status.NoMemory opened new ⊥ [] []) c.args.bay)) c.in-Err.is
          (carried.ensures.ended candidates tell (subst (λ s. Opens g.D.Disk.held s c.args.bay candidates) (sym same) opens))));
      printed = λ summed. absurd (none-summed summed);
      ended = λ memory.
          once-so (λ opened. PrintsBy g.D.Disk (bank_script transfers).config (bank_script transfers).actions 2 opened new ⊥ [] []) (λ opened. EndsBank g.D.Disk transfers opened new) c.args.bay
          (λ opened switched prints. (2, inr refl, prints))
          (subst (λ s. OnceSwitched (λ opened. PrintsBy g.D.Disk s.config s.actions 2 opened new ⊥ [] []) c.args.bay) same
          (subst (λ r. MatchResult r (λ _. OnceSwitched (λ opened. HavePrinted g.D.Disk c.in-Ok.script.config c.in-Ok.script.actions opened carried.new.lines.items new) c.args.bay)
          (λ _. OnceSwitched (λ opened. PrintsBy g.D.Disk c.in-Ok.script.config c.in-Ok.script.actions 2 opened new ⊥ [] []) c.args.bay)) c.in-Err.is carried.ensures.prints));
      silent = λ unsummed t. refl {a = sink};
      sink_failed = λ four. absurd (none-summed (inr four));
      keeps_sink = record { tells = refl; later = search rules };
      devices = bank-keeps g.D.Disk met.same_on met.same_itself transfers c.in-Ok.script c.args.bay new leaves;
      others = bank-others g.D.Disk met.same_on met.same_itself transfers c.in-Ok.script c.args.bay new leaves;
      uncut = bank-uncut g.D.Disk met.same_on met.same_itself transfers c.in-Ok.script c.args.bay new leaves;
      off = inr (bank-off g.D.Disk met.same_on met.same_itself transfers c.in-Ok.script c.args.bay new leaves);
      summed_off = λ summed. absurd (none-summed summed);
    }

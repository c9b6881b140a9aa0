use Rattle.std.specs.Prelude.{None, Some, map, string_bytes, take, true}
use Rattle.std.proofs.Common.{rules, ◌≡◌, IsTrue, false, refl, sym, ap, subst, ◌∙◌, inl, inr, ⊎_elim, arith}
use Rattle.disk_model.proofs.Devices.{rose-after}
use Rattle.disk_model.specs.Devices.{FuseRestarts}
use Rattle.tmf_words.specs.Words.{are_accepted}
use Rattle.tmf_script.proofs.Validity.{valid_text}
use Rattle.tmf_cli.specs.Headline.{KeepsEveryCommit}
use Rattle.tmf_cli.specs.Bank.{AnswersBank}
use Rattle.tmf_cli.specs.Call.{AnswersText, HasStatus, KeepsOn}
use Rattle.tmf_cli.specs.Status.{code_of}
use Rattle.tmf_cli.specs.declared.status.Status.TheVariants as status
use Rattle.tmf_cli.specs.OneOutput.{IsTheOutput}
use Rattle.tmf_cli.specs.Top.{IsPlayed, IsRead, Tells, TellsBy, read_limit}
use Rattle.tmf_cli.proofs.Statuses.{code-done, memory-unread, none-read}
use Rattle.tmf_cli.specs.Countdown.{IsSwitched}
use Rattle.tmf_cli.specs.Counts.{CountsFailures}
use Rattle.tmf_cli.specs.Faultless.{IsFaultlessOutput}
use Rattle.tmf_cli.proofs.BankWords.{accepted-bank, asked-bank, run-no-bank}
use Rattle.tmf_cli.proofs.Banks.{bank-unbegun}
use Rattle.tmf_cli.proofs.CountedLines.{counts-failures}
use Rattle.tmf_cli.proofs.Countdowns.{once-any, once-so, same-length, switched-cuts, switched-falls, switches-same}
use Rattle.tmf_cli.proofs.FaultlessLines.{the_faultless}
use Rattle.tmf_cli.proofs.OneOutputs.{the_output, whole-falls}
use Rattle.tmf_cli.proofs.Openings.{opens-switched}
use Rattle.tmf_cli.proofs.Playing.{others-none}
use Rattle.tmf_cli.proofs.Promises.{promised}
use Rattle.tmf_cli.specs.AnyDevices.{PrintsBy, PrintsOfSome}
use Rattle.tmf_cli.proofs.top.tmf.Goals as goal

pub returns-clause-told : goal.returns-clause-told
returns-clause-told g c = λ form candidates words is source tell opens.
    once-so (λ opened. Tells g.D.Disk.held g.D.Disk.faults form candidates c.run_script-status.result.0 opened c.run_script-status.result.1 (IsTrue (g.K.Sink.tells c.args.sink.now)) (g.K.Sink.given c.args.sink.now) (g.K.Sink.given c.run_script-status.new.sink))
    (λ opened. TellsBy g.D.Disk.held g.D.Disk.faults form candidates c.code-2.result opened c.run_script-status.result.1 (IsTrue (g.K.Sink.tells c.args.sink.now)) (g.K.Sink.given c.args.sink.now) (g.K.Sink.given c.run_script-status.new.sink)) c.args.bay
    (λ opened switched told. (c.run_script-status.result.0, sym c.code-2.ensures, told)) (c.run_script-status.ensures.told form candidates is source tell opens)

pub returns-clause-headline : goal.returns-clause-headline
returns-clause-headline g c = λ form candidates words is source tell opens.
    let s = c.run_script-status.result.0 in
    once-so (λ opened. Tells g.D.Disk.held g.D.Disk.faults form candidates c.run_script-status.result.0 opened c.run_script-status.result.1 (IsTrue (g.K.Sink.tells c.args.sink.now)) (g.K.Sink.given c.args.sink.now) (g.K.Sink.given c.run_script-status.new.sink))
    (λ opened. KeepsEveryCommit g.D.Disk.held g.D.Disk.faults form candidates c.code-2.result opened c.run_script-status.result.1 (IsTrue (g.K.Sink.tells c.args.sink.now)) (g.K.Sink.given c.args.sink.now) (g.K.Sink.given c.run_script-status.new.sink)) c.args.bay
    (λ opened switched told. subst (λ code. KeepsEveryCommit g.D.Disk.held g.D.Disk.faults form candidates code opened c.run_script-status.result.1 (IsTrue (g.K.Sink.tells c.args.sink.now)) (g.K.Sink.given c.args.sink.now)
    (g.K.Sink.given c.run_script-status.new.sink)) (sym c.code-2.ensures)
    (promised g.D.Disk.held g.D.Disk.faults form candidates opened c.run_script-status.result.1 (IsTrue (g.K.Sink.tells c.args.sink.now)) (g.K.Sink.given c.args.sink.now) (g.K.Sink.given c.run_script-status.new.sink)
    (opens-switched g.D.Disk.held form c.args.bay opened switched candidates opens).stands s told))
    (c.run_script-status.ensures.told form candidates is source tell opens)

pub returns-clause-counts : goal.returns-clause-counts
returns-clause-counts g c = λ form candidates words is source tell opens.
    let s = c.run_script-status.result.0 in
    once-so (λ opened. Tells g.D.Disk.held g.D.Disk.faults form candidates c.run_script-status.result.0 opened c.run_script-status.result.1 (IsTrue (g.K.Sink.tells c.args.sink.now)) (g.K.Sink.given c.args.sink.now) (g.K.Sink.given c.run_script-status.new.sink))
    (λ opened. CountsFailures g.D.Disk.held g.D.Disk.faults form candidates c.code-2.result opened c.run_script-status.result.1 (IsTrue (g.K.Sink.tells c.args.sink.now)) (g.K.Sink.given c.args.sink.now) (g.K.Sink.given c.run_script-status.new.sink)) c.args.bay
    (λ opened switched told. counts-failures g.D.Disk.held g.D.Disk.faults form candidates c.code-2.result opened c.run_script-status.result.1 (IsTrue (g.K.Sink.tells c.args.sink.now)) (g.K.Sink.given c.args.sink.now)
    (g.K.Sink.given c.run_script-status.new.sink) (valid_text _ form is)
    (subst (λ code. KeepsEveryCommit g.D.Disk.held g.D.Disk.faults form candidates code opened c.run_script-status.result.1 (IsTrue (g.K.Sink.tells c.args.sink.now)) (g.K.Sink.given c.args.sink.now)
    (g.K.Sink.given c.run_script-status.new.sink)) (sym c.code-2.ensures)
    (promised g.D.Disk.held g.D.Disk.faults form candidates opened c.run_script-status.result.1 (IsTrue (g.K.Sink.tells c.args.sink.now)) (g.K.Sink.given c.args.sink.now) (g.K.Sink.given c.run_script-status.new.sink)
    (opens-switched g.D.Disk.held form c.args.bay opened switched candidates opens).stands s told)))
    (c.run_script-status.ensures.told form candidates is source tell opens)

pub returns-clause-one_output : goal.returns-clause-one_output
returns-clause-one_output g c = λ form words is source sink tell first single none done.
    let s = c.run_script-status.result.0 in
    let new = c.run_script-status.result.1 in
    let code = code-done s (sym c.code-2.ensures ∙ done) in
    once-so (λ opened. Tells g.D.Disk.held g.D.Disk.faults form None c.run_script-status.result.0 opened c.run_script-status.result.1 (IsTrue (g.K.Sink.tells c.args.sink.now)) (g.K.Sink.given c.args.sink.now) (g.K.Sink.given c.run_script-status.new.sink))
    (λ opened. IsTheOutput g.D.Disk.held g.D.Disk.faults form opened new (g.K.Sink.given c.args.sink.now) (g.K.Sink.given c.run_script-status.new.sink)) c.args.bay
    (λ opened switched told. the_output g.D.Disk.held g.D.Disk.faults c.one_run_law.ensures (g.met.D.Disk g.world.𝓛 g.world.𝓜 g.world.𝓡 ((λ s x. x), (λ x. x), (λ x. x), λ x. x)).sound form (valid_text _ form is).config opened new (IsTrue (g.K.Sink.tells c.args.sink.now)) (g.K.Sink.given c.args.sink.now) (g.K.Sink.given c.run_script-status.new.sink)
    sink first single (λ device rose. none device (rose-after g.D.Disk.faults c.args.bay opened new device (switched-falls c.args.bay opened switched g.D.Disk.faults) (whole-falls g.D.Disk.held g.D.Disk.faults form None opened new _ _ _ s code told) rose)) s code told)
    (c.run_script-status.ensures.told form None is source tell (record { stands = tt }))

pub returns-clause-faultless : goal.returns-clause-faultless
returns-clause-faultless g c = λ form candidates words is source sink tell opens known none done.
    let s = c.run_script-status.result.0 in
    let new = c.run_script-status.result.1 in
    let code = code-done s (sym c.code-2.ensures ∙ done) in
    once-any (λ opened. Tells g.D.Disk.held g.D.Disk.faults form candidates c.run_script-status.result.0 opened c.run_script-status.result.1 (IsTrue (g.K.Sink.tells c.args.sink.now)) (g.K.Sink.given c.args.sink.now) (g.K.Sink.given c.run_script-status.new.sink))
    (IsFaultlessOutput (g.K.Sink.given c.args.sink.now) (g.K.Sink.given c.run_script-status.new.sink)) c.args.bay
    (λ opened switched told. the_faultless g.D.Disk.held g.D.Disk.faults form candidates opened new (IsTrue (g.K.Sink.tells c.args.sink.now)) (g.K.Sink.given c.args.sink.now) (g.K.Sink.given c.run_script-status.new.sink)
    sink (sym (same-length IsSwitched c.args.bay opened switched) ∙ c.run_script-status.ensures.all code) known
    (λ device rose. none device (rose-after g.D.Disk.faults c.args.bay opened new device (switched-falls c.args.bay opened switched g.D.Disk.faults) (whole-falls g.D.Disk.held g.D.Disk.faults form candidates opened new _ _ _ s code told) rose)) s code told)
    (c.run_script-status.ensures.told form candidates is source tell opens)

pub returns-clause-text : goal.returns-clause-text
returns-clause-text g c = λ none source.
    let accepted : are_accepted (map string_bytes c.args.words.now) ≡ true = search rules in
    let ran = c.run_script-status in
    subst (λ code. AnswersText g.S.Source g.K.Sink g.D.Disk (are_accepted (map string_bytes c.args.words.now)) code c.args.source.now ran.new.source c.args.sink.now ran.new.sink c.args.bay ran.result.1) (sym c.code-2.ensures)
    (subst (λ words. AnswersText g.S.Source g.K.Sink g.D.Disk words (code_of ran.result.0) c.args.source.now ran.new.source c.args.sink.now ran.new.sink c.args.bay ran.result.1) (sym accepted) (ran.ensures.text source))

pub returns-clause-status : goal.returns-clause-status
returns-clause-status g c = λ none.
    let accepted : are_accepted (map string_bytes c.args.words.now) ≡ true = search rules in
    let ran = c.run_script-status in
    subst (λ code. HasStatus g.S.Source g.K.Sink (are_accepted (map string_bytes c.args.words.now)) code c.args.source.now ran.new.source c.args.sink.now ran.new.sink c.args.bay ran.result.1) (sym c.code-2.ensures)
    (subst (λ words. HasStatus g.S.Source g.K.Sink words (code_of ran.result.0) c.args.source.now ran.new.source c.args.sink.now ran.new.sink c.args.bay ran.result.1) (sym accepted) ran.ensures.status)

pub returns-clause-keeps : goal.returns-clause-keeps
returns-clause-keeps g c = λ none.
    let ran = c.run_script-status in
    subst (λ code. KeepsOn g.S.Source g.K.Sink g.D.Disk code c.args.source.now ran.new.source c.args.sink.now ran.new.sink c.args.bay ran.result.1) (sym c.code-2.ensures) ran.ensures.keeps

pub returns-then-not-accepts-clause-keeps : goal.returns-then-not-accepts-clause-keeps
returns-then-not-accepts-clause-keeps g c = λ none. record {
  source_tells = refl;
  source_later = search rules;
  taken = λ source. record {
    front = search rules;
    whole = λ read. absurd (none-read c.tell.result c.tell.ensures.status (subst IsRead c.code.ensures read));
  };
  sink_tells = c.tell.ensures.tells;
  sink_later = c.tell.ensures.later;
  devices = c.left_alone.ensures;
}

pub returns-then-not-accepts-clause-text : goal.returns-then-not-accepts-clause-text
returns-then-not-accepts-clause-text g c = λ none source.
    let s = c.tell.result in
    let no : are_accepted (map string_bytes c.args.words.now) ≡ false = search rules in
    record {
      script = λ form is. record {
        complete = λ words no_source no_sink. absurd (cc);
        unrefused = λ e. none-read s c.tell.ensures.status (inr (sym c.code.ensures ∙ e));
        others = inl (others-none form.config (FuseRestarts g.D.Disk) c.args.bay);
        uncut = λ none. switched-cuts c.args.bay c.args.bay (switches-same c.args.bay);
        off = inl refl;
        played_off = λ e. absurd (none-read s c.tell.ensures.status (inl (subst IsPlayed c.code.ensures e)));
      };
      none = λ none. record {
        status = λ words no_source. absurd (cc);
        silent = λ sink e. ⊎_elim (λ lacked. lacked.1) (λ usage. let one : code_of s ≡ 1 = ap code_of usage.0 in absurd (omega (arith, one, c.code.ensures, e))) (c.tell.ensures.told sink);
        devices = refl;
      };
    }

pub returns-then-not-accepts-clause-bank : goal.returns-then-not-accepts-clause-bank
returns-then-not-accepts-clause-bank g c = λ transfers is. absurd (accepted-bank (map string_bytes c.args.words.now) transfers is (search rules))

pub returns-in-Bank-clause-headline : goal.returns-in-Bank-clause-headline
returns-in-Bank-clause-headline g c = λ form candidates words. absurd (run-no-bank (map string_bytes c.args.words.now) c.in-Bank.transfers words (asked-bank (map string_bytes c.args.words.now) c.in-Bank.transfers (sym c.in-Ok.ensures.asked ∙ c.in-Bank.is)))

pub returns-in-Bank-clause-counts : goal.returns-in-Bank-clause-counts
returns-in-Bank-clause-counts g c = λ form candidates words. absurd (run-no-bank (map string_bytes c.args.words.now) c.in-Bank.transfers words (asked-bank (map string_bytes c.args.words.now) c.in-Bank.transfers (sym c.in-Ok.ensures.asked ∙ c.in-Bank.is)))

pub returns-in-Bank-clause-told : goal.returns-in-Bank-clause-told
returns-in-Bank-clause-told g c = λ form candidates words. absurd (run-no-bank (map string_bytes c.args.words.now) c.in-Bank.transfers words (asked-bank (map string_bytes c.args.words.now) c.in-Bank.transfers (sym c.in-Ok.ensures.asked ∙ c.in-Bank.is)))

pub returns-in-Bank-clause-one_output : goal.returns-in-Bank-clause-one_output
returns-in-Bank-clause-one_output g c = λ form words. absurd (run-no-bank (map string_bytes c.args.words.now) c.in-Bank.transfers words (asked-bank (map string_bytes c.args.words.now) c.in-Bank.transfers (sym c.in-Ok.ensures.asked ∙ c.in-Bank.is)))

pub returns-in-Bank-clause-faultless : goal.returns-in-Bank-clause-faultless
returns-in-Bank-clause-faultless g c = λ form candidates words. absurd (run-no-bank (map string_bytes c.args.words.now) c.in-Bank.transfers words (asked-bank (map string_bytes c.args.words.now) c.in-Bank.transfers (sym c.in-Ok.ensures.asked ∙ c.in-Bank.is)))

pub returns-in-Bank-clause-keeps : goal.returns-in-Bank-clause-keeps
returns-in-Bank-clause-keeps g c = λ none.
    let some = asked-bank (map string_bytes c.args.words.now) c.in-Bank.transfers (sym c.in-Ok.ensures.asked ∙ c.in-Bank.is) in
    let never : Some c.in-Bank.transfers ≡ None = sym some ∙ none in absurd (cc)

pub returns-clause-prints : goal.returns-clause-prints
returns-clause-prints g c = λ form words is source.
    once-so (λ opened. PrintsBy g.D.Disk form.config form.actions (code_of c.run_script-status.result.0) opened c.run_script-status.result.1 (IsTrue (g.K.Sink.tells c.args.sink.now)) (g.K.Sink.given c.args.sink.now) (g.K.Sink.given c.run_script-status.new.sink))
    (λ opened. PrintsBy g.D.Disk form.config form.actions c.code-2.result opened c.run_script-status.result.1 (IsTrue (g.K.Sink.tells c.args.sink.now)) (g.K.Sink.given c.args.sink.now) (g.K.Sink.given c.run_script-status.new.sink)) c.args.bay
    (λ opened switched prints. subst (λ code. PrintsBy g.D.Disk form.config form.actions code opened c.run_script-status.result.1 (IsTrue (g.K.Sink.tells c.args.sink.now)) (g.K.Sink.given c.args.sink.now) (g.K.Sink.given c.run_script-status.new.sink)) (sym c.code-2.ensures) prints) (c.run_script-status.ensures.prints form is source)

pub returns-in-Bank-clause-prints : goal.returns-in-Bank-clause-prints
returns-in-Bank-clause-prints g c = λ form words. absurd (run-no-bank (map string_bytes c.args.words.now) c.in-Bank.transfers words (asked-bank (map string_bytes c.args.words.now) c.in-Bank.transfers (sym c.in-Ok.ensures.asked ∙ c.in-Bank.is)))

pub returns-clause-prints_some : goal.returns-clause-prints_some
returns-clause-prints_some g c = λ words played.
    subst (λ code. PrintsOfSome g.D.Disk code c.args.bay c.run_script-status.result.1 (IsTrue (g.S.Source.tells c.args.source.now)) (take read_limit (g.S.Source.rest c.args.source.now)) (IsTrue (g.K.Sink.tells c.args.sink.now)) (g.K.Sink.given c.args.sink.now) (g.K.Sink.given c.run_script-status.new.sink)) (sym c.code-2.ensures)
    (c.run_script-status.ensures.prints_some (subst IsPlayed c.code-2.ensures played))

pub returns-in-Bank-clause-prints_some : goal.returns-in-Bank-clause-prints_some
returns-in-Bank-clause-prints_some g c = λ words. absurd (run-no-bank (map string_bytes c.args.words.now) c.in-Bank.transfers words (asked-bank (map string_bytes c.args.words.now) c.in-Bank.transfers (sym c.in-Ok.ensures.asked ∙ c.in-Bank.is)))

pub returns-in_default-clause-headline : goal.returns-in_default-clause-headline
returns-in_default-clause-headline g c = λ form candidates words is source tell opens.
    let given = g.K.Sink.given c.args.sink.now in
    inl (subst (λ code. KeepsEveryCommit g.D.Disk.held g.D.Disk.faults form candidates code c.args.bay c.args.bay (IsTrue (g.K.Sink.tells c.args.sink.now)) given given) (sym c.code-in_default.ensures)
    (promised g.D.Disk.held g.D.Disk.faults form candidates c.args.bay c.args.bay (IsTrue (g.K.Sink.tells c.args.sink.now)) given given opens.stands status.NoMemory (inl (refl, λ t. refl))))

pub returns-in_default-clause-counts : goal.returns-in_default-clause-counts
returns-in_default-clause-counts g c = λ form candidates words is source tell opens.
    let given = g.K.Sink.given c.args.sink.now in
    inl (counts-failures g.D.Disk.held g.D.Disk.faults form candidates c.code-in_default.result c.args.bay c.args.bay (IsTrue (g.K.Sink.tells c.args.sink.now)) given given (valid_text _ form is)
    (subst (λ code. KeepsEveryCommit g.D.Disk.held g.D.Disk.faults form candidates code c.args.bay c.args.bay (IsTrue (g.K.Sink.tells c.args.sink.now)) given given) (sym c.code-in_default.ensures)
    (promised g.D.Disk.held g.D.Disk.faults form candidates c.args.bay c.args.bay (IsTrue (g.K.Sink.tells c.args.sink.now)) given given opens.stands status.NoMemory (inl (refl, λ t. refl)))))

pub returns-in_default-clause-told : goal.returns-in_default-clause-told
returns-in_default-clause-told g c = λ form candidates words is source tell opens. inl (status.NoMemory, sym c.code-in_default.ensures, inl (refl, λ t. refl))

pub returns-in_default-clause-keeps : goal.returns-in_default-clause-keeps
returns-in_default-clause-keeps g c = λ none. record {
  source_tells = refl;
  source_later = search rules;
  taken = λ source. record {
    front = search rules;
    whole = λ read. absurd (memory-unread (subst IsRead c.code-in_default.ensures read));
  };
  sink_tells = refl;
  sink_later = search rules;
  devices = c.left_alone-in_default.ensures;
}

pub returns-in_default-clause-bank : goal.returns-in_default-clause-bank
returns-in_default-clause-bank g c = λ transfers is. (
  refl,
  subst (λ code. AnswersBank g.K.Sink g.D.Disk transfers code c.args.sink.now c.args.sink.now c.args.bay c.args.bay) (sym c.code-in_default.ensures)
      (bank-unbegun g.K.Sink g.D.Disk transfers c.args.sink.now c.args.bay (record { tells = refl; later = search rules }) c.left_alone-in_default.ensures),
)

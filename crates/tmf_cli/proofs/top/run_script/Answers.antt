use Rattle.std.proofs.Common.{IsTrue, inl, sym, subst}
use Rattle.tmf_cli.specs.AnyDevices.{PrintsBy}
use Rattle.tmf_cli.specs.Status.{code_of}
use Rattle.tmf_cli.specs.Top.{Opens, Tells}
use Rattle.tmf_cli.proofs.AnyDevices.{prints-before, unread-prints}
use Rattle.tmf_cli.proofs.Calls.{played-keeps, played-status, played-text, unread-keeps, unread-quiet, unread-status, unread-text}
use Rattle.tmf_cli.proofs.Countdowns.{once-so}
use Rattle.tmf_cli.proofs.Endings.{tells-before, tells-unread, unread-unplayed}
use Rattle.tmf_cli.proofs.Openings.{bay-keeps, bay-same}
use Rattle.tmf_cli.proofs.Statuses.{played-from}
use Rattle.tmf_cli.specs.Countdown.{NoneKilled}
use Rattle.tmf_cli.proofs.top.run_script.Goals as goal

pub returns-in-Ok-clause-told : goal.returns-in-Ok-clause-told
returns-in-Ok-clause-told g c = λ script candidates is source tell opens.
    let read = c.in-Ok.ensures.read in
    let same = read.only source script is in
    let new = c.carry_out.result.1 in
    once-so (λ opened. Tells g.D.Disk.held g.D.Disk.faults c.in-Ok.script candidates c.carry_out.result.0 opened new (IsTrue (g.K.Sink.tells c.script_from.new.sink)) (g.K.Sink.given c.script_from.new.sink) (g.K.Sink.given c.carry_out.new.sink))
    (λ opened. Tells g.D.Disk.held g.D.Disk.faults script candidates c.carry_out.result.0 opened new (IsTrue (g.K.Sink.tells c.args.sink.now)) (g.K.Sink.given c.args.sink.now) (g.K.Sink.given c.carry_out.new.sink)) c.args.bay
    (λ opened switched told. tells-before g.D.Disk.held g.D.Disk.faults script candidates opened new (IsTrue (g.K.Sink.tells c.args.sink.now)) (IsTrue (g.K.Sink.tells c.script_from.new.sink)) (g.K.Sink.given c.args.sink.now) (g.K.Sink.given c.script_from.new.sink)
    (g.K.Sink.given c.carry_out.new.sink) (λ ts. subst IsTrue (sym c.in-Ok.ensures.keeps_sink.tells) ts) read.silent c.carry_out.result.0
    (subst (λ s. Tells g.D.Disk.held g.D.Disk.faults s candidates c.carry_out.result.0 opened new (IsTrue (g.K.Sink.tells c.script_from.new.sink)) (g.K.Sink.given c.script_from.new.sink) (g.K.Sink.given c.carry_out.new.sink)) same told))
    (c.carry_out.ensures.told candidates tell (subst (λ s. Opens g.D.Disk.held s c.args.bay candidates) (sym same) opens))

pub returns-in-Ok-clause-prints : goal.returns-in-Ok-clause-prints
returns-in-Ok-clause-prints g c = λ script is source.
    let read = c.in-Ok.ensures.read in
    let same = read.only source script is in
    let code = code_of c.carry_out.result.0 in
    once-so (λ opened. PrintsBy g.D.Disk c.in-Ok.script.config c.in-Ok.script.actions code opened c.carry_out.result.1 (IsTrue (g.K.Sink.tells c.script_from.new.sink)) (g.K.Sink.given c.script_from.new.sink) (g.K.Sink.given c.carry_out.new.sink))
    (λ opened. PrintsBy g.D.Disk script.config script.actions code opened c.carry_out.result.1 (IsTrue (g.K.Sink.tells c.args.sink.now)) (g.K.Sink.given c.args.sink.now) (g.K.Sink.given c.carry_out.new.sink)) c.args.bay
    (λ opened switched prints. prints-before g.D.Disk script.config script.actions code opened c.carry_out.result.1 (IsTrue (g.K.Sink.tells c.args.sink.now)) (IsTrue (g.K.Sink.tells c.script_from.new.sink)) (g.K.Sink.given c.args.sink.now) (g.K.Sink.given c.script_from.new.sink)
    (g.K.Sink.given c.carry_out.new.sink) (λ ts. subst IsTrue (sym c.in-Ok.ensures.keeps_sink.tells) ts) read.silent
    (subst (λ s. PrintsBy g.D.Disk s.config s.actions code opened c.carry_out.result.1 (IsTrue (g.K.Sink.tells c.script_from.new.sink)) (g.K.Sink.given c.script_from.new.sink) (g.K.Sink.given c.carry_out.new.sink)) same prints))
    c.carry_out.ensures.prints

pub returns-in-Ok-clause-prints_some : goal.returns-in-Ok-clause-prints_some
returns-in-Ok-clause-prints_some g c = λ played.
    let script = c.in-Ok.script in
    let read = c.in-Ok.ensures.read in
    let code = code_of c.carry_out.result.0 in
    record {
      script = script;
      valid = read.valid;
      of_text = read.of_text;
      printed = once-so (λ opened. PrintsBy g.D.Disk script.config script.actions code opened c.carry_out.result.1 (IsTrue (g.K.Sink.tells c.script_from.new.sink)) (g.K.Sink.given c.script_from.new.sink) (g.K.Sink.given c.carry_out.new.sink))
          (λ opened. PrintsBy g.D.Disk script.config script.actions code opened c.carry_out.result.1 (IsTrue (g.K.Sink.tells c.args.sink.now)) (g.K.Sink.given c.args.sink.now) (g.K.Sink.given c.carry_out.new.sink)) c.args.bay
          (λ opened switched prints. prints-before g.D.Disk script.config script.actions code opened c.carry_out.result.1 (IsTrue (g.K.Sink.tells c.args.sink.now)) (IsTrue (g.K.Sink.tells c.script_from.new.sink)) (g.K.Sink.given c.args.sink.now) (g.K.Sink.given c.script_from.new.sink)
          (g.K.Sink.given c.carry_out.new.sink) (λ ts. subst IsTrue (sym c.in-Ok.ensures.keeps_sink.tells) ts) read.silent prints)
          c.carry_out.ensures.prints;
    }

pub returns-in-Ok-clause-text : goal.returns-in-Ok-clause-text
returns-in-Ok-clause-text g c =
    played-text g.S.Source g.K.Sink g.D.Disk c.in-Ok.script c.carry_out.result.0 c.args.source.now c.script_from.new.source c.args.sink.now c.script_from.new.sink c.carry_out.new.sink c.args.bay c.carry_out.result.1
    c.in-Ok.ensures.read c.in-Ok.ensures.keeps_sink c.carry_out.ensures.keeps_sink c.carry_out.ensures.cause c.carry_out.ensures.keeps

pub returns-in-Ok-clause-status : goal.returns-in-Ok-clause-status
returns-in-Ok-clause-status g c =
    played-status g.S.Source g.K.Sink g.D.Disk c.in-Ok.script c.carry_out.result.0 c.args.source.now c.script_from.new.source c.args.sink.now c.script_from.new.sink c.carry_out.new.sink c.args.bay c.carry_out.result.1
    c.in-Ok.ensures.read c.in-Ok.ensures.keeps_sink c.carry_out.ensures.keeps_sink c.carry_out.ensures.cause c.carry_out.ensures.keeps

pub returns-in-Ok-clause-keeps : goal.returns-in-Ok-clause-keeps
returns-in-Ok-clause-keeps g c =
    let met = g.met.D.Disk g.world.𝓛 g.world.𝓜 g.world.𝓡 ((λ s x. x), (λ x. x), (λ x. x), λ x. x) in
    played-keeps g.S.Source g.K.Sink g.D.Disk c.in-Ok.script c.carry_out.result.0 c.args.source.now c.script_from.new.source c.args.sink.now c.script_from.new.sink c.carry_out.new.sink c.args.bay c.carry_out.result.1
    c.in-Ok.ensures.read c.in-Ok.ensures.keeps_sink c.carry_out.ensures.keeps_sink c.carry_out.ensures.cause c.carry_out.ensures.keeps c.in-Ok.ensures.keeps_source
    (bay-keeps g.D.Disk met.same_on met.same_itself c.in-Ok.script.config (NoneKilled c.in-Ok.script.actions) c.args.bay c.carry_out.result.1 c.carry_out.ensures.keeps)

pub returns-in-Err-clause-told : goal.returns-in-Err-clause-told
returns-in-Err-clause-told g c = λ script candidates is source tell opens.
    let none = c.in-Err.ensures.read in
    inl (tells-unread g.D.Disk.held g.D.Disk.faults script candidates c.args.bay (IsTrue (g.K.Sink.tells c.args.sink.now)) (g.K.Sink.given c.args.sink.now) (g.K.Sink.given c.script_from.new.sink) c.in-Err.status
    (g.S.Source.faults c.args.source.now) (g.S.Source.faults c.script_from.new.source) none.cause (none.unrefused source script is)
    (unread-quiet g.S.Source g.K.Sink g.D.Disk c.in-Err.status c.args.source.now c.script_from.new.source c.args.sink.now c.script_from.new.sink c.args.bay none source script is))

pub returns-in-Err-clause-prints : goal.returns-in-Err-clause-prints
returns-in-Err-clause-prints g c = λ script is source.
    let none = c.in-Err.ensures.read in
    inl (unread-prints g.D.Disk script.config script.actions c.args.bay (IsTrue (g.K.Sink.tells c.args.sink.now)) (g.K.Sink.given c.args.sink.now) (g.K.Sink.given c.script_from.new.sink) c.in-Err.status (g.S.Source.faults c.args.source.now) (g.S.Source.faults c.script_from.new.source)
    none.cause (none.unrefused source script is)
    (unread-quiet g.S.Source g.K.Sink g.D.Disk c.in-Err.status c.args.source.now c.script_from.new.source c.args.sink.now c.script_from.new.sink c.args.bay none source script is))

pub returns-in-Err-clause-prints_some : goal.returns-in-Err-clause-prints_some
returns-in-Err-clause-prints_some g c = λ played.
    absurd (unread-unplayed c.in-Err.status (g.S.Source.faults c.args.source.now) (g.S.Source.faults c.script_from.new.source) c.in-Err.ensures.read.cause (played-from c.in-Err.status played))

pub returns-in-Err-clause-text : goal.returns-in-Err-clause-text
returns-in-Err-clause-text g c =
    unread-text g.S.Source g.K.Sink g.D.Disk c.in-Err.status c.args.source.now c.script_from.new.source c.args.sink.now c.script_from.new.sink c.args.bay c.in-Err.ensures.read

pub returns-in-Err-clause-status : goal.returns-in-Err-clause-status
returns-in-Err-clause-status g c =
    unread-status g.S.Source g.K.Sink g.D.Disk c.in-Err.status c.args.source.now c.script_from.new.source c.args.sink.now c.script_from.new.sink c.args.bay c.in-Err.ensures.read

pub returns-in-Err-clause-keeps : goal.returns-in-Err-clause-keeps
returns-in-Err-clause-keeps g c =
    let met = g.met.D.Disk g.world.𝓛 g.world.𝓜 g.world.𝓡 ((λ s x. x), (λ x. x), (λ x. x), λ x. x) in
    unread-keeps g.S.Source g.K.Sink g.D.Disk c.in-Err.status c.args.source.now c.script_from.new.source c.args.sink.now c.script_from.new.sink c.args.bay c.in-Err.ensures.read c.in-Err.ensures.keeps_source c.in-Err.ensures.keeps_sink
    (bay-same g.D.Disk met.same_on met.same_itself c.args.bay)

pub returns-in-Err-clause-all : goal.returns-in-Err-clause-all
returns-in-Err-clause-all g c = λ done.
    absurd (unread-unplayed c.in-Err.status (g.S.Source.faults c.args.source.now) (g.S.Source.faults c.script_from.new.source) c.in-Err.ensures.read.cause (inl done))

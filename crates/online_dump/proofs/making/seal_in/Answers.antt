use Rattle.std.specs.Prelude.{IfSome, option_map}
use Rattle.std.specs.Option.{MatchOption}
use Rattle.std.proofs.Common.{◌≡◌, ◌+◌, ◌++◌, ◌∷◌, [], ℕ, Option, Some, inr, ap, sym, ◌∙◌, subst}
use Rattle.chronicle.specs.Seats.{Knows}
use Rattle.keyed_file.specs.Dump.{blocks_in_all}
use Rattle.node_machine.specs.declared.event.By.TheVariants.{Attempt}
use Rattle.node_machine.specs.declared.event.DumpEvent.TheVariants.{Failed}
use Rattle.node_machine.specs.Node.{node}
use Rattle.node_machine.specs.Parts.{DumpPart}
use Rattle.node_machine.specs.Parts.Fact.{Over}
use Rattle.disc_lock.specs.Locks.{number_of}
use Rattle.online_dump.specs.Copies.{files_of}
use Rattle.online_dump.specs.Dumper.{AreCopied, IsCopying}
use Rattle.online_dump.specs.Dumping.{MaySealAll}
use Rattle.online_dump.specs.declared.copying.Copying.{Copying}
use Rattle.online_dump.proofs.Dumped.{of_current, open_is}
use Rattle.online_dump.proofs.Meetings.{same_open, seen_met}
use Rattle.online_dump.proofs.Since.{more_then, prefix_then}
use Rattle.online_dump.proofs.Stepping.{failure_since, number_after, seal_behind, sealed_over}
use Rattle.online_dump.proofs.Stopping.{copies_later, copies_seen, sealed_seen, stop_later}
use Rattle.online_dump.proofs.making.seal_in.Goals as goal

pub seal-requires : goal.seal-requires
seal-requires g c =
    let o = g.J.Run.opening in
    let n = g.J.NodeRun.found in
    let v = c.args.state.now in
    let w = c.meet.new.self in
    let first = seen_met o n v w c.args.seat.now c.meet.new.caller c.meet.ensures.met c.meet.ensures.file c.meet.ensures.current in
    record { may = subst (λ (x : Option Copying). MatchOption x ⊥ (MaySealAll (Knows node o w.seat.sight) w.seat.part w.file.filled)) (sym (same_open o n v w w first ∙ c.requires.open)) (seal_behind o n v w c.args.copying first c.requires.may) }

pub raise_in-requires-clause-number : goal.raise_in-requires-clause-number
raise_in-requires-clause-number g c =
    ap (λ (s : DumpPart). s.number) c.meet-in-Ok.ensures.met.stepped.had.part ∙ ap (λ (s : DumpPart). s.number) c.in-Ok.ensures.sealed.had.part ∙ ap (λ (s : DumpPart). s.number) c.meet.ensures.met.stepped.had.part ∙ c.requires.number

pub raise_in-requires-clause-over : goal.raise_in-requires-clause-over
raise_in-requires-clause-over g c =
    let o = g.J.Run.opening in
    let n = g.J.NodeRun.found in
    let v = c.args.state.now in
    let w = c.meet.new.self in
    let x = c.seal.new.self in
    let u = c.meet-in-Ok.new.self in
    let copying = c.args.copying in
    let first = seen_met o n v w c.args.seat.now c.meet.new.caller c.meet.ensures.met c.meet.ensures.file c.meet.ensures.current in
    let later = seen_met o n x u c.meet.new.caller c.meet-in-Ok.new.caller c.meet-in-Ok.ensures.met c.meet-in-Ok.ensures.file c.meet-in-Ok.ensures.current in
    let opened = same_open o n v w w first ∙ c.requires.open in
    let current : w.current ≡ Some copying = (open_is w.file.filled w.current copying opened).0 in
    let known = of_current (λ (y : Copying). Knows node o x.seat.sight (Over x.seat.part.number y.number (Some y.start))) w.current copying current c.in-Ok.ensures.over in
    sealed_over o n w x u copying c.in-Ok.ensures.sealed current known later opened

pub returns-in-Ok-clause-sealed : goal.returns-in-Ok-clause-sealed
returns-in-Ok-clause-sealed g c =
    let o = g.J.Run.opening in
    let n = g.J.NodeRun.found in
    let volume : ℕ = number_of c.args.disc.now in
    let v = c.args.state.now in
    let w = c.meet.new.self in
    let x = c.seal.new.self in
    let u = c.meet-in-Ok.new.self in
    let copying = c.args.copying in
    let b = c.meet.new.caller in
    let m = c.meet-in-Ok.new.caller in
    let d = c.raise_in.new.seat in
    let first = seen_met o n v w c.args.seat.now b c.meet.ensures.met c.meet.ensures.file c.meet.ensures.current in
    let opened = same_open o n v w w first ∙ c.requires.open in
    let current : w.current ≡ Some copying = (open_is w.file.filled w.current copying opened).0 in
    let is = of_current (IsCopying (Knows node o w.seat.sight) w.seat.part w.file.filled) w.current copying current c.lawful.ensures.current in
    let all = (seal_behind o n v w copying first c.requires.may).all in
    let are : AreCopied w.seat.part copying.number (blocks_in_all (files_of w.seat.part)) = subst (λ (f : Option ℕ). IfSome f (AreCopied w.seat.part copying.number)) all is.are in
    let number : w.seat.part.number ≡ volume = ap (λ (s : DumpPart). s.number) c.meet.ensures.met.stepped.had.part ∙ c.requires.number in
    let last : u.seat.part.number ≡ volume = ap (λ (s : DumpPart). s.number) c.meet-in-Ok.ensures.met.stepped.had.part ∙ ap (λ (s : DumpPart). s.number) c.in-Ok.ensures.sealed.had.part ∙ number in
    let copies = copies_seen o n w.seat volume copying.number b c.lawful.ensures.at number c.meet.ensures.met.same are in
    let seen = sealed_seen o n w x u copying m volume c.in-Ok.ensures.sealed opened c.meet-in-Ok.ensures.met.stepped c.meet-in-Ok.ensures.met.same last d c.raise_in.ensures.seat.0.begins in
    record {
      copies = copies_later n.config volume copying.number b d (prefix_then b.seen m.seen d.seen c.meet-in-Ok.ensures.met.grown.begins c.raise_in.ensures.seat.0.begins) copies;
      seal = seen.0;
      sealed = seen.1;
      raised = c.raise_in.ensures.raised;
    }

pub returns-in-Ok-clause-number : goal.returns-in-Ok-clause-number
returns-in-Ok-clause-number g c =
    ap (λ (s : DumpPart). s.number) c.raise_in.ensures.state.seat.had.part ∙ ap (λ (s : DumpPart). s.number) c.meet-in-Ok.ensures.met.stepped.had.part ∙ ap (λ (s : DumpPart). s.number) c.in-Ok.ensures.sealed.had.part ∙ ap (λ (s : DumpPart). s.number) c.meet.ensures.met.stepped.had.part

pub returns-in-Ok-clause-seat : goal.returns-in-Ok-clause-seat
returns-in-Ok-clause-seat g c =
    let o = g.J.Run.opening in
    let a = c.meet.new.caller in
    let b = c.meet-in-Ok.new.caller in
    more_then o c.args.seat.now b c.raise_in.new.seat (more_then o c.args.seat.now a b (c.meet.ensures.met.grown, c.meet.ensures.met.learned) (c.meet-in-Ok.ensures.met.grown, c.meet-in-Ok.ensures.met.learned)) c.raise_in.ensures.seat

pub give_up_in-requires-clause-number : goal.give_up_in-requires-clause-number
give_up_in-requires-clause-number g c =
    ap (λ (s : DumpPart). s.number) c.meet-in-Err.ensures.met.stepped.had.part ∙ (ap (λ (s : DumpPart). s.number) c.in-Err.ensures.failed.had.part ∙ number_after c.meet.new.self.seat.part (c.in-Err.ensures.failed.front ++ Failed (Attempt c.args.item) ∷ []))
    ∙ ap (λ (s : DumpPart). s.number) c.meet.ensures.met.stepped.had.part
    ∙ c.requires.number

pub give_up_in-requires-clause-current : goal.give_up_in-requires-clause-current
give_up_in-requires-clause-current g c =
    let o = g.J.Run.opening in
    let n = g.J.NodeRun.found in
    let v = c.args.state.now in
    let w = c.meet.new.self in
    let first = seen_met o n v w c.args.seat.now c.meet.new.caller c.meet.ensures.met c.meet.ensures.file c.meet.ensures.current in
    let opened = same_open o n v w w first ∙ c.requires.open in
    let same : c.in-Err.ensures.failed.c ≡ c.args.copying = cc (c.in-Err.ensures.failed.was, opened) in
    ap (option_map (λ (x : Copying). x.number)) (c.meet-in-Err.ensures.current ∙ c.in-Err.ensures.failed.current_is ∙ ap (λ (x : Copying). Some x) same)

pub returns-in-Err-clause-refused : goal.returns-in-Err-clause-refused
returns-in-Err-clause-refused g c =
    let o = g.J.Run.opening in
    let n = g.J.NodeRun.found in
    let volume : ℕ = number_of c.args.disc.now in
    let w = c.meet.new.self in
    let x = c.seal.new.self in
    let u = c.meet-in-Err.new.self in
    let failed = c.in-Err.ensures.failed in
    let number : w.seat.part.number ≡ volume = ap (λ (s : DumpPart). s.number) c.meet.ensures.met.stepped.had.part ∙ c.requires.number in
    let last : u.seat.part.number ≡ volume = ap (λ (s : DumpPart). s.number) c.meet-in-Err.ensures.met.stepped.had.part ∙ (ap (λ (s : DumpPart). s.number) failed.had.part ∙ number_after w.seat.part (failed.front ++ Failed (Attempt c.args.item) ∷ [])) ∙ number in
    let since = failure_since o n c.args.item w x u c.args.seat.now c.meet.new.caller c.meet-in-Err.new.caller volume failed.front c.meet.ensures.met.stepped.is c.meet.ensures.met.same c.meet.ensures.met.grown.begins failed.had
    c.meet-in-Err.ensures.met.stepped c.meet-in-Err.ensures.met.same number last in
    let named = c.device.ensures ∙ ap (λ (k : ℕ). 12 + k) (c.give_up_in.ensures.number ∙ last) in (
      stop_later n volume c.args.item c.args.seat.now c.meet-in-Err.new.caller c.give_up_in.new.seat c.give_up_in.ensures.seat.0.begins c.device.result (inr (inr (named, since))),
      c.give_up_in.ensures.ended,
    )

pub returns-in-Err-clause-number : goal.returns-in-Err-clause-number
returns-in-Err-clause-number g c =
    c.give_up_in.ensures.number
    ∙ ap (λ (s : DumpPart). s.number) c.meet-in-Err.ensures.met.stepped.had.part
    ∙ (ap (λ (s : DumpPart). s.number) c.in-Err.ensures.failed.had.part ∙ number_after c.meet.new.self.seat.part (c.in-Err.ensures.failed.front ++ Failed (Attempt c.args.item) ∷ []))
    ∙ ap (λ (s : DumpPart). s.number) c.meet.ensures.met.stepped.had.part

pub returns-in-Err-clause-seat : goal.returns-in-Err-clause-seat
returns-in-Err-clause-seat g c =
    let o = g.J.Run.opening in
    let a = c.meet.new.caller in
    let b = c.meet-in-Err.new.caller in
    more_then o c.args.seat.now b c.give_up_in.new.seat (more_then o c.args.seat.now a b (c.meet.ensures.met.grown, c.meet.ensures.met.learned) (c.meet-in-Err.ensures.met.grown, c.meet-in-Err.ensures.met.learned)) c.give_up_in.ensures.seat

use Rattle.std.proofs.Common.{◌≡◌, ℕ, List, Some, ap, sym, ◌∙◌, subst}
use mathlib.Core.List.{IsPrefix}
use Rattle.tmf_model.specs.Config.{IsWithin}
use Rattle.node_machine.specs.declared.event.Cause.TheVariants as cause
use Rattle.node_machine.specs.declared.event.DiscEvent.TheVariants as did
use Rattle.node_machine.specs.declared.event.Event.{Event}
use Rattle.node_machine.specs.declared.event.Event.TheVariants.{OfDisc}
use Rattle.node_machine.specs.Dump.{offered_label}
use Rattle.node_machine.specs.Opening.{disc_part}
use Rattle.node_machine.specs.Parts.{DiscPart, DumpPart}
use Rattle.disc_lock.specs.Locks.{held_disc, number_of}
use Rattle.online_dump.specs.Dumper.{IsNamed}
use Rattle.online_dump.proofs.Meetings.{same_part, seen_then}
use Rattle.online_dump.proofs.Seeing.{counted, heard_last, heard_since, unseen}
use Rattle.online_dump.proofs.Since.{more_then}
use Rattle.online_dump.proofs.Stopping.{gives_none}
use Rattle.online_dump.proofs.steps.start_in.Goals as goal

pub returns-in-Some-clause-refused : goal.returns-in-Some-clause-refused
returns-in-Some-clause-refused g c =
    let disc = held_disc c.meet_all.new.disc in
    let w = c.meet_all.new.state in
    let d = c.meet_all.ensures in
    let number : ℕ = number_of c.args.disc.now in (
      counted g.D.Disk g.J.Run.opening g.J.NodeRun.found disc w.seat number c.lawful.ensures (ap (λ (s : DiscPart). s.number) d.disc.part ∙ c.lock-at.ensures.number) c.lawful-2.ensures.at
          (ap (λ (s : DumpPart). s.number) d.state.seat.had.part ∙ c.requires.number) d.disc.same (ap (λ (s : DiscPart). s.config) d.disc.part ∙ c.lock-at.ensures.config) c.args.seat.now c.meet_all.new.seat d.seat.0.begins d.same
          (Some c.in-Some.part) c.in-Some.ensures,
      gives_none c.args.share.now,
    )

pub start_at-requires-clause-number : goal.start_at-requires-clause-number
start_at-requires-clause-number g c =
    ap (λ (s : DiscPart). s.number) c.meet_all.ensures.disc.part ∙ c.lock-at.ensures.number ∙ sym c.requires.number ∙ sym (ap (λ (s : DumpPart). s.number) c.meet_all.ensures.state.seat.had.part)

pub start_at-requires-clause-steps : goal.start_at-requires-clause-steps
start_at-requires-clause-steps g c = c.in-None.ensures.0

pub start_at-requires-clause-certain : goal.start_at-requires-clause-certain
start_at-requires-clause-certain g c = ap (λ (s : DumpPart). offered_label s.events) c.meet_all.ensures.state.seat.had.part ∙ c.requires.certain

pub returns-in-Some-start_at-clause-started : goal.returns-in-Some-start_at-clause-started
returns-in-Some-start_at-clause-started g c =
    let o = g.J.Run.opening in
    let n = g.J.NodeRun.found in
    let volume : ℕ = number_of c.args.disc.now in
    let disc = held_disc c.meet_all.new.disc in
    let last = held_disc c.start_at.new.disc in
    let w = c.meet_all.new.state in
    let x = c.start_at.new.state in
    let d = c.meet_all.ensures in
    let copying = c.in-Some-start_at.copying in
    let begun = c.in-Some-start_at.ensures.started in
    let named : disc.part.number ≡ volume = ap (λ (s : DiscPart). s.number) d.disc.part ∙ c.lock-at.ensures.number in
    let number : w.seat.part.number ≡ volume = ap (λ (s : DumpPart). s.number) d.state.seat.had.part ∙ c.requires.number in
    let unnamed = λ (h : IsNamed w.seat.part.events copying.number). begun.may.is_new (subst (λ (s : DumpPart). IsNamed s.events copying.number) (sym (same_part o n w x x c.in-Some-start_at.ensures.state)) h) in (
      record {
        is_new = unseen g.D.Disk o n disc w.seat volume c.lawful.ensures named c.lawful-2.ensures.at number d.disc.same (subst (λ (k : ℕ). IsWithin 1 8 k) number c.lawful-2.ensures.within) copying.number begun.started.next unnamed c.args.seat.now
            (subst (λ (l : List (ℕ × Event)). IsPrefix c.args.seat.now.seen l) d.same d.seat.0.begins);
        started = heard_last o volume disc last (OfDisc (did.Start copying.number copying.start c.args.item)) c.meet_all.new.seat c.start_at.new.caller begun.started.events c.in-Some-start_at.ensures.caller
            (ap (λ (s : DiscPart). s.number) c.in-Some-start_at.ensures.disc.part ∙ named);
        given = c.in-Some-start_at.ensures.given;
      },
      begun.may,
    )

pub returns-in-Some-start_at-clause-state : goal.returns-in-Some-start_at-clause-state
returns-in-Some-start_at-clause-state g c = seen_then g.J.Run.opening g.J.NodeRun.found c.args.state.now c.meet_all.new.state c.start_at.new.state c.meet_all.ensures.state c.in-Some-start_at.ensures.state

pub returns-in-Some-start_at-clause-seat : goal.returns-in-Some-start_at-clause-seat
returns-in-Some-start_at-clause-seat g c =
    more_then g.J.Run.opening c.args.seat.now c.meet_all.new.seat c.start_at.new.caller c.meet_all.ensures.seat (c.in-Some-start_at.ensures.caller.grown, c.in-Some-start_at.ensures.caller.still_knows)

pub returns-clause-refused : goal.returns-clause-refused
returns-clause-refused g c =
    let o = g.J.Run.opening in
    let volume : ℕ = number_of c.args.disc.now in
    let disc = held_disc c.meet_all.new.disc in
    let last = held_disc c.start_at.new.disc in
    let d = c.meet_all.ensures in
    let named : disc.part.number ≡ volume = ap (λ (s : DiscPart). s.number) d.disc.part ∙ c.lock-at.ensures.number in
    record {
      turned = heard_since o volume disc last (OfDisc (did.Turn c.args.item cause.Dumping)) c.meet_all.new.seat c.start_at.new.caller c.in-None-start_at.ensures.started.events c.in-None-start_at.ensures.caller
          (ap (λ (s : DiscPart). s.number) c.in-None-start_at.ensures.disc.part ∙ named) (c.lawful.ensures.place ∙ ap (λ (k : ℕ). Some (disc_part k)) named) d.same c.args.seat.now d.seat.0.begins;
      given = c.in-None-start_at.ensures.given;
    }

pub returns-clause-state : goal.returns-clause-state
returns-clause-state g c = seen_then g.J.Run.opening g.J.NodeRun.found c.args.state.now c.meet_all.new.state c.start_at.new.state c.meet_all.ensures.state c.in-None-start_at.ensures.state

pub returns-clause-seat : goal.returns-clause-seat
returns-clause-seat g c =
    more_then g.J.Run.opening c.args.seat.now c.meet_all.new.seat c.start_at.new.caller c.meet_all.ensures.seat (c.in-None-start_at.ensures.caller.grown, c.in-None-start_at.ensures.caller.still_knows)

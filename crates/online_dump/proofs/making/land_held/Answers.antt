use Rattle.std.specs.Prelude.{IsSome}
use Rattle.std.proofs.Common.{◌≡◌, ℕ, List, Option, Some, ap, sym, ◌∙◌, subst}
use mathlib.Core.List.{IsPrefix}
use Rattle.tmf_model.specs.declared.config.Config.{Config}
use Rattle.node_machine.specs.declared.event.Event.{Event}
use Rattle.node_machine.specs.Opening.{disc_part}
use Rattle.node_machine.specs.Parts.{DiscPart, DumpPart}
use Rattle.disc_process.specs.Disc.{AreTrails}
use Rattle.disc_lock.specs.Locks.{held_disc, number_of}
use Rattle.keyed_file.specs.Dump.{blocks_in_all}
use Rattle.online_dump.specs.Copies.{files_of}
use Rattle.online_dump.specs.declared.copying.Copying.{Copying}
use Rattle.online_dump.proofs.CopyStops.{flush_stop}
use Rattle.online_dump.proofs.Meetings.{same_open, seen_then}
use Rattle.online_dump.proofs.Since.{more_then}
use Rattle.online_dump.proofs.making.land_held.Goals as goal

pub land_at-landed-requires-clause-number : goal.land_at-landed-requires-clause-number
land_at-landed-requires-clause-number g c =
    ap (λ (s : DiscPart). s.number) c.meet_all.ensures.disc.part ∙ c.lock-at.ensures.number ∙ sym c.requires.number ∙ sym (ap (λ (s : DumpPart). s.number) c.meet_all.ensures.state.seat.had.part)

pub land_at-landed-requires-clause-trails : goal.land_at-landed-requires-clause-trails
land_at-landed-requires-clause-trails g c =
    subst (λ (k : Config). AreTrails k c.args.trails.now) (sym (ap (λ (s : DiscPart). s.config) c.meet_all.ensures.disc.part ∙ c.lock-at.ensures.config)) c.requires.trails

pub land_at-landed-requires-clause-open : goal.land_at-landed-requires-clause-open
land_at-landed-requires-clause-open g c =
    subst (λ (o : Option Copying). IsSome o) (sym (same_open g.J.Run.opening g.J.NodeRun.found c.args.state.now c.meet_all.new.state c.meet_all.new.state c.meet_all.ensures.state)) c.requires.open

pub land_at-landed-requires-clause-all : goal.land_at-landed-requires-clause-all
land_at-landed-requires-clause-all g c =
    ap (λ f. f.filled) c.meet_all.ensures.state.file ∙ c.requires.all ∙ ap (λ (s : DumpPart). Some (blocks_in_all (files_of s))) (sym c.meet_all.ensures.state.seat.had.part)

pub returns-clause-refused : goal.returns-clause-refused
returns-clause-refused g c =
    let o = g.J.Run.opening in
    let n = g.J.NodeRun.found in
    let volume : ℕ = number_of c.args.disc.now in
    let first = held_disc c.meet_all.new.disc in
    let last = held_disc c.land_at-landed.new.disc in
    let number : first.part.number ≡ volume = ap (λ (s : DiscPart). s.number) c.meet_all.ensures.disc.part ∙ c.lock-at.ensures.number in
    let config : first.part.config ≡ n.config = ap (λ (s : DiscPart). s.config) c.meet_all.ensures.disc.part ∙ c.lock-at.ensures.config in
    flush_stop o n volume c.args.item first last c.args.seat.now c.meet.new.caller (c.lawful.ensures.place ∙ ap (λ (m : ℕ). Some (disc_part m)) number) c.land_at-landed.ensures.disc
    (subst (λ (l : List (ℕ × Event)). IsPrefix c.args.seat.now.seen l) c.meet_all.ensures.same c.meet_all.ensures.seat.0.begins)
    (subst (λ (l : List (ℕ × Event)). IsPrefix last.seat.seen l) c.meet.ensures.same c.meet.ensures.seats.disc_grown.begins)
    number config g.D.Disk g.J.DeviceRun.devices c.land_at-landed.result c.land_at-landed.ensures.refused

pub returns-clause-state : goal.returns-clause-state
returns-clause-state g c = seen_then g.J.Run.opening g.J.NodeRun.found c.args.state.now c.meet_all.new.state c.land_at-landed.new.state c.meet_all.ensures.state c.land_at-landed.ensures.state

pub returns-clause-seat : goal.returns-clause-seat
returns-clause-seat g c = more_then g.J.Run.opening c.args.seat.now c.meet_all.new.seat c.meet.new.caller c.meet_all.ensures.seat (c.meet.ensures.seats.caller_grown, c.meet.ensures.seats.caller_learned)

use Rattle.std.proofs.Common.{ℕ, inl, inr, ap, ◌∙◌}
use Rattle.node_machine.specs.Parts.{DumpPart}
use Rattle.disc_lock.specs.Locks.{number_of}
use Rattle.online_dump.proofs.Since.{more_then, prefix_same}
use Rattle.online_dump.proofs.Stopping.{begun_wider}
use Rattle.online_dump.proofs.making.begin_next.Goals as goal

pub open_in-requires-clause-number : goal.open_in-requires-clause-number
open_in-requires-clause-number g c = ap (λ (s : DumpPart). s.number) c.start_in.ensures.state.seat.had.part ∙ c.requires.number

pub open_in-requires-clause-may : goal.open_in-requires-clause-may
open_in-requires-clause-may g c = c.in-Ok.ensures.started.1

pub returns-in-Ok-open_in-clause-begun : goal.returns-in-Ok-open_in-clause-begun
returns-in-Ok-open_in-clause-begun g c =
    begun_wider c.args.share.now c.start_in.new.share (number_of c.args.disc.now) c.args.item c.in-Ok.copying.number c.in-Ok.copying.start c.args.seat.now c.args.seat.now c.start_in.new.seat c.open_in.new.seat (prefix_same c.args.seat.now.seen) c.open_in.ensures.seat.0.begins c.in-Ok.ensures.started.0

pub returns-in-Ok-open_in-clause-number : goal.returns-in-Ok-open_in-clause-number
returns-in-Ok-open_in-clause-number g c = c.open_in.ensures.number ∙ ap (λ (s : DumpPart). s.number) c.start_in.ensures.state.seat.had.part

pub returns-in-Ok-open_in-clause-seat : goal.returns-in-Ok-open_in-clause-seat
returns-in-Ok-open_in-clause-seat g c = more_then g.J.Run.opening c.args.seat.now c.start_in.new.seat c.open_in.new.seat c.start_in.ensures.seat c.open_in.ensures.seat

pub returns-in-Err-open_in-clause-refused : goal.returns-in-Err-open_in-clause-refused
returns-in-Err-open_in-clause-refused g c = inr (record {
  number = c.in-Ok.copying.number;
  start = c.in-Ok.copying.start;
  between = c.start_in.new.seat;
  behind = c.start_in.ensures.seat.0.begins;
  later = c.open_in.ensures.seat.0.begins;
  begun = c.in-Ok.ensures.started.0;
  stop = c.in-Err-open_in.ensures.refused.0;
  ended = c.in-Err-open_in.ensures.refused.1;
})

pub returns-in-Err-open_in-clause-number : goal.returns-in-Err-open_in-clause-number
returns-in-Err-open_in-clause-number g c = c.open_in.ensures.number ∙ ap (λ (s : DumpPart). s.number) c.start_in.ensures.state.seat.had.part

pub returns-in-Err-open_in-clause-seat : goal.returns-in-Err-open_in-clause-seat
returns-in-Err-open_in-clause-seat g c = more_then g.J.Run.opening c.args.seat.now c.start_in.new.seat c.open_in.new.seat c.start_in.ensures.seat c.open_in.ensures.seat

pub returns-in-Err-clause-refused : goal.returns-in-Err-clause-refused
returns-in-Err-clause-refused g c = inl c.in-Err.ensures.refused

pub returns-in-Err-clause-number : goal.returns-in-Err-clause-number
returns-in-Err-clause-number g c = ap (λ (s : DumpPart). s.number) c.start_in.ensures.state.seat.had.part

use Rattle.std.proofs.Common.{Some}
use Rattle.chronicle.proofs.seat.Seat.append.Given as goal

abbrev pub ghosts-append : goal.ghosts-append
ghosts-append g a = record { event = Some (g.E.Names.event a.event.now) }

use Rattle.std.proofs.Common.{refl}
use Rattle.one_boxcar.proofs.Turns.{fresh}
use Rattle.one_boxcar.proofs.tests.run_queued.Goals as goal

pub run_both-requires : goal.run_both-requires
run_both-requires g c = record {
  found = c.requires.run.found_is;
  first = fresh g.J.Run.opening 1 0 c.seats_of-seat.result.1.first c.requires.opening c.seats_of-seat.ensures.first refl;
  second = fresh g.J.Run.opening 2 1 c.seats_of-seat.result.1.second c.requires.opening c.seats_of-seat.ensures.second refl;
}

pub run_together-requires-clause-found : goal.run_together-requires-clause-found
run_together-requires-clause-found g c = λ κs bounds. c.requires.run.found_is

pub run_together-requires-clause-first : goal.run_together-requires-clause-first
run_together-requires-clause-first g c = λ κs bounds. fresh g.J.Run.opening 1 0 c.seats_of-seat.result.1.first c.requires.opening c.seats_of-seat.ensures.first refl

pub run_together-requires-clause-second : goal.run_together-requires-clause-second
run_together-requires-clause-second g c = λ κs bounds. fresh g.J.Run.opening 2 1 c.seats_of-seat.result.1.second c.requires.opening c.seats_of-seat.ensures.second refl

pub run_after_fault-requires : goal.run_after_fault-requires
run_after_fault-requires g c = record {
  found = c.requires.run.found_is;
  first = fresh g.J.Run.opening 1 0 c.seats_of-seat.result.1.first c.requires.opening c.seats_of-seat.ensures.first refl;
  second = fresh g.J.Run.opening 2 1 c.seats_of-seat.result.1.second c.requires.opening c.seats_of-seat.ensures.second refl;
}

pub run_three-requires : goal.run_three-requires
run_three-requires g c = record {
  new = c.in_ok-state.ensures;
  found = c.requires.run.found_is;
  first = fresh g.J.Run.opening 1 0 c.seats_of-seat.result.1.first c.requires.opening c.seats_of-seat.ensures.first refl;
  second = fresh g.J.Run.opening 2 1 c.seats_of-seat.result.1.second c.requires.opening c.seats_of-seat.ensures.second refl;
  third = fresh g.J.Run.opening 3 2 c.seats_of-seat.result.1.third c.requires.opening c.seats_of-seat.ensures.third refl;
}

pub run_two_cars-requires : goal.run_two_cars-requires
run_two_cars-requires g c = record {
  found = c.requires.run.found_is;
  first = fresh g.J.Run.opening 1 0 c.seats_of-seat.result.1.first c.requires.opening c.seats_of-seat.ensures.first refl;
}

pub run_four-requires-clause-found : goal.run_four-requires-clause-found
run_four-requires-clause-found g c = λ κs bounds. c.requires.run.found_is

pub run_four-requires-clause-first : goal.run_four-requires-clause-first
run_four-requires-clause-first g c = λ κs bounds. fresh g.J.Run.opening 1 0 c.seats_of-seat.result.1.first c.requires.opening c.seats_of-seat.ensures.first refl

pub run_four-requires-clause-second : goal.run_four-requires-clause-second
run_four-requires-clause-second g c = λ κs bounds. fresh g.J.Run.opening 2 1 c.seats_of-seat.result.1.second c.requires.opening c.seats_of-seat.ensures.second refl

pub run_four-requires-clause-third : goal.run_four-requires-clause-third
run_four-requires-clause-third g c = λ κs bounds. fresh g.J.Run.opening 3 2 c.seats_of-seat.result.1.third c.requires.opening c.seats_of-seat.ensures.third refl

pub run_four-requires-clause-fourth : goal.run_four-requires-clause-fourth
run_four-requires-clause-fourth g c = λ κs bounds. fresh g.J.Run.opening 4 3 c.seats_of-seat.result.1.fourth c.requires.opening c.seats_of-seat.ensures.fourth refl

pub run_four-requires-clause-fifth : goal.run_four-requires-clause-fifth
run_four-requires-clause-fifth g c = λ κs bounds. fresh g.J.Run.opening 5 4 c.seats_of-seat.result.1.fifth c.requires.opening c.seats_of-seat.ensures.fifth refl

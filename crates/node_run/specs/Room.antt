-- The room that a run takes for its threads and for its end.
use Rattle.std.specs.Prelude.{◌≡◌, ◌≤◌, [], vec_capacity}
use Rattle.std.proofs.Common.{Global, Vec}
use Rattle.chronicle.specs.Seats.{Sight}
use Rattle.node_machine.specs.declared.event.Event.{Event}
use Rattle.run_threads.specs.declared.hand.Hand.{Hand}

-- nothing is there, and there is room for a hand of each disc and each worker
pub record HasHandsRoom {J : Type 0} (hands : Vec (Hand J) Global) : Type 0 where
  pub empty : hands.items ≡ []
  pub enough : 24 ≤ vec_capacity hands

-- nothing is there, and there is room for the seats of all parts
pub record HasSeatsRoom (seats : Vec (Sight Event) Global) : Type 0 where
  pub empty : seats.items ≡ []
  pub enough : 37 ≤ vec_capacity seats

-- nothing is there, and there is room for all devices
pub record HasDevicesRoom {D : Type 0} (devices : Vec D Global) : Type 0 where
  pub empty : devices.items ≡ []
  pub enough : 21 ≤ vec_capacity devices

use Rattle.std.proofs.Common.{◌≡◌, length}
use Rattle.audit_writer.specs.Parcels.{holding}
use Rattle.two_discs.specs.TwoDiscs.{IsWriting}
use Rattle.two_discs.proofs.tests.fill_queue.Given as goal

abbrev pub invariant-loop-n : goal.invariant-loop-n
invariant-loop-n g l = record {
  number : l.disc.number ≡ l.initial.disc.number;
  many : length l.records.items ≡ l.n;
  writing : IsWriting g.J.Run.opening l.initial.disc.number l.records.items l.disc.seat;
  pass : l.disc.pass ≡ holding g.Q.QueueName.queue l.initial.disc.number l.n;
}

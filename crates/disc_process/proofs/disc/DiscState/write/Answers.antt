use Rattle.disc_process.proofs.Later.{later_disc}
use Rattle.disc_process.proofs.disc.DiscState.write.Goals as goal

pub returns-clause-disc : goal.returns-clause-disc
returns-clause-disc g c = (let a = c.write_step-answer in later_disc g.D.Disk g.J.Run.opening c.args.self.now a.new.self c.lawful.ensures c.lawful-2.ensures a.ensures.later_seat.place a.ensures.later_seat.begins)

pub returns-clause-in_time : goal.returns-clause-in_time
returns-clause-in_time g c = c.write_step-answer.ensures.in_time

use Rattle.std.proofs.Common.{ℕ, ◌<◌, sym, subst}
use Rattle.disc_process.proofs.Later.{later_disc}
use Rattle.disc_process.proofs.disc.DiscState.copy_block.Goals as goal

pub copy_step-copied-requires-clause-within : goal.copy_step-copied-requires-clause-within
copy_step-copied-requires-clause-within g c = subst (λ (b : ℕ). c.args.n.number < b) (sym (c.lawful.ensures.files c.args.n.file c.requires.here)) c.requires.within

pub returns-clause-disc : goal.returns-clause-disc
returns-clause-disc g c = (let a = c.copy_step-copied in later_disc g.D.Disk g.J.Run.opening c.args.self.now a.new.self c.lawful.ensures c.lawful-2.ensures a.ensures.later_seat.place a.ensures.later_seat.begins)

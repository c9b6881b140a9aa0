use Rattle.std.proofs.Common.{◌≡◌, ℕ, Some, ap, sym, ◌∙◌, subst}
use Rattle.tmf_model.specs.declared.config.Config.{Config}
use Rattle.node_machine.specs.Opening.{disc_part}
use Rattle.node_machine.specs.Parts.{DiscPart}
use Rattle.disc_process.specs.Disc.{AreTrails}
use Rattle.disc_lock.specs.Locks.{held_disc, number_of}
use Rattle.online_dump.proofs.Since.{raise_seen}
use Rattle.online_dump.proofs.steps.raise_in.Goals as goal

pub raise_at-requires-clause-number : goal.raise_at-requires-clause-number
raise_at-requires-clause-number g c = c.lock-at.ensures.number ∙ sym c.requires.number

pub raise_at-requires-clause-trails : goal.raise_at-requires-clause-trails
raise_at-requires-clause-trails g c = subst (λ (k : Config). AreTrails k c.args.trails.now) (sym c.lock-at.ensures.config) c.requires.trails

pub returns-clause-raised : goal.returns-clause-raised
returns-clause-raised g c =
    let first = held_disc c.lock-at.result in
    let last = held_disc c.raise_at.new.disc in
    let number : last.part.number ≡ number_of c.args.disc.now = ap (λ (s : DiscPart). s.number) c.raise_at.ensures.disc.part ∙ c.lock-at.ensures.number in
    raise_seen (number_of c.args.disc.now) c.args.number last (held_disc c.meet.new.self) c.meet.new.caller (c.lawful.ensures.place ∙ ap (λ (n : ℕ). Some (disc_part n)) number) c.lawful.ensures.told c.meet.ensures.seats.disc_grown c.meet.ensures.same c.raise_at.ensures.ended.raised

pub returns-clause-seat : goal.returns-clause-seat
returns-clause-seat g c = (c.meet.ensures.seats.caller_grown, c.meet.ensures.seats.caller_learned)

use Rattle.std.proofs.Common.{◌≡◌, ◌<◌, length, sym, ◌∙◌, arith}
use Rattle.volume_restore.proofs.Gathering.{one_taken, own_taken}
use Rattle.volume_restore.proofs.gather.take_change.Goals as goal

pub returns-clause-taken : goal.returns-clause-taken
returns-clause-taken c = λ found left own was.
    let parts = c.args.parts.now.items in
    let place : c.from.result ≡ c.place_of.result = c.from.ensures in
    let within : c.from.result < length parts = omega (arith, place, c.place_of.ensures.within, c.requires.count) in
    one_taken c.args.blocks c.from.result (c.args.key.now, c.args.change.now) parts c.index_mut.result.now c.insert.new.self (sym c.place_of.ensures.place ∙ sym place) within
    c.index_mut.ensures.value c.in_ok-insert.ensures.updates.0 found left own was

pub returns-clause-own : goal.returns-clause-own
returns-clause-own c = λ was.
    let parts = c.args.parts.now.items in
    let place : c.from.result ≡ c.place_of.result = c.from.ensures in
    let within : c.from.result < length parts = omega (arith, place, c.place_of.ensures.within, c.requires.count) in
    own_taken c.args.blocks c.from.result (c.args.key.now, c.args.change.now) parts c.index_mut.result.now c.insert.new.self (sym c.place_of.ensures.place ∙ sym place) within
    c.index_mut.ensures.value c.in_ok-insert.ensures.updates.0 was

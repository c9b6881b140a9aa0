use Rattle.std.proofs.Common.{List, sym, subst}
use Rattle.keyed_file.specs.declared.home.Home.{Home}
use Rattle.keyed_file.specs.Block.{KeyedBlock}
use Rattle.rollforward.specs.Body.{AreInPlace}
use Rattle.rollforward.specs.Rolled.{AreApart, AreInRow, AreRolled, HaveFound, TellsFullOf, TellsRolled}
use Rattle.rollforward.proofs.HomeRows.{are-apart, in-row}
use Rattle.rollforward.proofs.RollErrors.{full-error}
use Rattle.rollforward.proofs.Rollings.{have-found, have-room}
use Rattle.rollforward.proofs.roll.rolled_dump.Goals as goal

pub rolled_records-requires-clause-places : goal.rolled_records-requires-clause-places
rolled_records-requires-clause-places c =
    subst (λ (hs : List Home). AreInPlace hs c.deref-2.result.now) (sym c.deref.ensures.value)
    (subst (λ (bs : List KeyedBlock). AreInPlace c.args.dump.now.homes.items bs) (sym c.deref-2.ensures.value) c.requires.placed.blocks)

pub rolled_records-requires-clause-found : goal.rolled_records-requires-clause-found
rolled_records-requires-clause-found c =
    subst (λ (hs : List Home). HaveFound hs c.args.files.now) (sym c.deref.ensures.value)
    (have-found c.args.config.now c.args.volume c.requires.valid.0 c.requires.valid.1 c.args.dump.now c.requires.placed c.args.files.now c.requires.found)

pub rolled_records-requires-clause-apart : goal.rolled_records-requires-clause-apart
rolled_records-requires-clause-apart c =
    subst (λ (hs : List Home). AreApart hs) (sym c.deref.ensures.value) (subst (λ (hs : List Home). AreApart hs) (sym c.requires.placed.homes) (are-apart _ c.requires.placed.row))

pub rolled_records-requires-clause-row : goal.rolled_records-requires-clause-row
rolled_records-requires-clause-row c =
    subst (λ (hs : List Home). AreInRow hs) (sym c.deref.ensures.value) (subst (λ (hs : List Home). AreInRow hs) (sym c.requires.placed.homes) (in-row _ c.requires.placed.row))

pub returns-in-Ok-clause-rolled : goal.returns-in-Ok-clause-rolled
returns-in-Ok-clause-rolled c =
    subst (λ (hs : List Home). AreRolled hs c.args.dump.now.blocks.items c.args.files.now c.in-Ok.records.items) c.deref.ensures.value
    (subst (λ (bs : List KeyedBlock). AreRolled c.deref.result.now bs c.args.files.now c.in-Ok.records.items) c.deref-2.ensures.value c.in-Ok.ensures.rolled)

pub returns-in-Ok-clause-room : goal.returns-in-Ok-clause-room
returns-in-Ok-clause-room c =
    have-room c.args.config.now c.args.volume c.requires.valid.0 c.requires.valid.1 c.args.dump.now c.requires.placed c.args.files.now c.requires.found c.in-Ok.records.items
    (subst (λ (hs : List Home). AreRolled hs c.args.dump.now.blocks.items c.args.files.now c.in-Ok.records.items) c.deref.ensures.value
    (subst (λ (bs : List KeyedBlock). AreRolled c.deref.result.now bs c.args.files.now c.in-Ok.records.items) c.deref-2.ensures.value c.in-Ok.ensures.rolled))

pub returns-in-Err-clause-full : goal.returns-in-Err-clause-full
returns-in-Err-clause-full c =
    subst (TellsRolled c.args.volume c.args.dump.now.homes.items c.args.dump.now.blocks.items c.args.files.now) (sym c.at_device.ensures)
    (full-error c.args.volume c.args.dump.now.homes.items c.args.dump.now.blocks.items c.args.files.now c.in-Err.fault
    (subst (λ (hs : List Home). TellsFullOf hs c.args.dump.now.blocks.items c.args.files.now c.in-Err.fault) c.deref.ensures.value
    (subst (λ (bs : List KeyedBlock). TellsFullOf c.deref.result.now bs c.args.files.now c.in-Err.fault) c.deref-2.ensures.value c.in-Err.ensures.full)))

use Rattle.std.specs.Prelude.{slice_get, slice_index_or}
use Rattle.std.proofs.Common.{◌≡◌, ◌+◌, ◌<◌, ℕ, List, [], length, Option, Some, rules, sym, ap, subst, ◌∙◌, arith}
use Rattle.std.proofs.lemmas.Option.{slice_get-get_or}
use Rattle.std.proofs.lemmas.Result.{err_from_is_err_and}
use Rattle.keyed_file.specs.declared.home.Home.{Home}
use Rattle.keyed_file.specs.Block.{KeyedBlock}
use Rattle.trail_replay.specs.declared.replay.FoundFiles.{FoundFiles}
use Rattle.volume_restore.specs.Changed.{Changes}
use Rattle.rollforward.specs.Filled.{Records}
use Rattle.rollforward.specs.Rolled.{ArePartsAt}
use Rattle.rollforward.proofs.HomeRows.{home_in, home_there}
use Rattle.rollforward.proofs.PartRows.{IsRolling, found-of-place, in-hand-now, part-found, part-there, rolling-none}
use Rattle.rollforward.proofs.Rolleds.{AreRolledTo, full-first, rolled_all, rolled_more}
use Rattle.rollforward.proofs.rolled.rolled_records.Goals as goal

some-is : (a b : Home) → ◌≡◌ {A = Option Home} (Some a) (Some b) → a ≡ b
some-is a b e = cc

-- an item that is read at an index stands there
item-at : {X : Type 0} (xs : List X) (i : ℕ) (x : X) → i < length xs → x ≡ slice_index_or xs i x → slice_get xs i ≡ Some x
item-at xs i x below is = slice_get-get_or xs i x below ∙ ap Some (sym is)

pub rolled_block-requires-clause-home : goal.rolled_block-requires-clause-home
rolled_block-requires-clause-home c =
    let homes : List Home = c.args.homes.now in
    let blocks : List KeyedBlock = c.args.blocks.now in
    let index : ℕ = c.loop-index.index in
    let below : index < length homes = omega (arith, c.loop-index-test.true, c.loop-index.auto.index-end) in
    let is = item-at blocks index c.index-blocks-index.result (omega (arith, below, c.requires.places.many)) c.index-blocks-index.is in
    (c.requires.places.each index (home_in homes index) c.index-blocks-index.result (home_there homes index below) is).1

pub rolled_block-requires-clause-blocks : goal.rolled_block-requires-clause-blocks
rolled_block-requires-clause-blocks c =
    let homes : List Home = c.args.homes.now in
    let index : ℕ = c.loop-index.index in
    let below : index < length homes = omega (arith, c.loop-index-test.true, c.loop-index.auto.index-end) in
    (c.requires.found index (home_in homes index) (home_there homes index below)).0

pub take_parts-requires-clause-file : goal.take_parts-requires-clause-file
take_parts-requires-clause-file c =
    let homes : List Home = c.args.homes.now in
    let index : ℕ = c.loop-index.index in
    let below : index < length homes = omega (arith, c.loop-index-test.true, c.loop-index.auto.index-end) in
    (c.requires.found index (home_in homes index) (home_there homes index below)).1

pub take_parts-requires-clause-blocks : goal.take_parts-requires-clause-blocks
take_parts-requires-clause-blocks c =
    let homes : List Home = c.args.homes.now in
    let index : ℕ = c.loop-index.index in
    let below : index < length homes = omega (arith, c.loop-index-test.true, c.loop-index.auto.index-end) in
    (c.requires.found index (home_in homes index) (home_there homes index below)).0

pub loop-index-init : goal.loop-index-init
loop-index-init c =
    let none : c.new-records.result.items ≡ [] = search rules in
    subst (λ (r : Records). IsRolling c.args.homes.now c.args.blocks.now c.args.files.now 0 r c.new-parts.result.items) (sym none) (rolling-none c.args.homes.now c.args.blocks.now c.args.files.now c.new-parts.result.items)

pub index-changes-requires : goal.index-changes-requires
index-changes-requires c =
    let homes : List Home = c.args.homes.now in
    let files : FoundFiles = c.args.files.now in
    let index : ℕ = c.loop-index.index in
    let home : Home = home_in homes index in
    let parts : List Changes = c.take_parts.new.parts.items in
    let below : index < length homes = omega (arith, c.loop-index-test.true, c.loop-index.auto.index-end) in
    let at = home_there homes index below in
    let now : ArePartsAt files home parts = in-hand-now homes files index home c.loop-index.parts.items parts c.requires.row at c.loop-index.invariant.in_hand c.in_ok-take_parts.ensures.first c.in_ok-take_parts.ensures.same in
    let found = found-of-place homes files index home c.requires.found at in
    omega (arith, part-there files home parts found.0 now found.1 (c.requires.row index home at).within, c.from.ensures)

pub loop-index-preserved : goal.loop-index-preserved
loop-index-preserved c =
    let homes : List Home = c.args.homes.now in
    let blocks : List KeyedBlock = c.args.blocks.now in
    let files : FoundFiles = c.args.files.now in
    let index : ℕ = c.loop-index.index in
    let home : Home = home_in homes index in
    let block : KeyedBlock = c.index-blocks-index.result in
    let parts : List Changes = c.take_parts.new.parts.items in
    let below : index < length homes = omega (arith, c.loop-index-test.true, c.loop-index.auto.index-end) in
    let at = home_there homes index below in
    let is = item-at blocks index block (omega (arith, below, c.requires.places.many)) c.index-blocks-index.is in
    let now : ArePartsAt files home parts = in-hand-now homes files index home c.loop-index.parts.items parts c.requires.row at c.loop-index.invariant.in_hand c.in_ok-take_parts.ensures.first c.in_ok-take_parts.ensures.same in
    let found = found-of-place homes files index home c.requires.found at in
    let part = part-found files home parts found.0 c.index-changes.result.now c.from.result now found.1 (c.requires.row index home at).within c.from.ensures c.index-changes.ensures in
    record {
      rolled =
          subst (λ (r : Records). AreRolledTo homes blocks files (index + 1) r) (sym c.in_ok-push_records.ensures.ok)
          (rolled_more homes blocks files index c.loop-index.records.items home block c.in_ok-block.block c.requires.apart at is c.in_ok-block.ensures.home.0 c.in_ok-block.ensures.home.1 (c.in_ok-block.ensures.values files part) (c.in_ok-block.ensures.room files part)
          c.loop-index.invariant.rolled);
      in_hand = λ n other same there.
          let here : home ≡ other = some-is home other (sym at ∙ ap (slice_get homes) (omega (arith, same)) ∙ there) in
          subst (λ (h : Home). ArePartsAt files h parts) here now;
    }

pub returns-in_err-block-clause-full : goal.returns-in_err-block-clause-full
returns-in_err-block-clause-full c =
    let homes : List Home = c.args.homes.now in
    let blocks : List KeyedBlock = c.args.blocks.now in
    let files : FoundFiles = c.args.files.now in
    let index : ℕ = c.loop-index.index in
    let home : Home = home_in homes index in
    let parts : List Changes = c.take_parts.new.parts.items in
    let below : index < length homes = omega (arith, c.loop-index-test.true, c.loop-index.auto.index-end) in
    let at = home_there homes index below in
    let is = item-at blocks index c.index-blocks-index.result (omega (arith, below, c.requires.places.many)) c.index-blocks-index.is in
    let now : ArePartsAt files home parts = in-hand-now homes files index home c.loop-index.parts.items parts c.requires.row at c.loop-index.invariant.in_hand c.in_ok-take_parts.ensures.first c.in_ok-take_parts.ensures.same in
    let found = found-of-place homes files index home c.requires.found at in
    let part = part-found files home parts found.0 c.index-changes.result.now c.from.result now found.1 (c.requires.row index home at).within c.from.ensures c.index-changes.ensures in
    let p = err_from_is_err_and c.from_residual-in_err-block.result c.from_residual-in_err-block.ensures.1 in
    rw (p.1, p.2) (full-first homes blocks files index c.loop-index.records.items home c.index-blocks-index.result c.in_err-block.field-0.0 at is c.loop-index.invariant.rolled (c.in_err-block.ensures.full files part))

pub returns-clause-rolled : goal.returns-clause-rolled
returns-clause-rolled c = rolled_all c.args.homes.now c.args.blocks.now c.args.files.now c.loop-index.index c.loop-index.records.items (omega (arith, c.loop-index-test.false, c.loop-index.auto.index-end)) c.loop-index.invariant.rolled

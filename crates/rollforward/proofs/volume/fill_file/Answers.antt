use Rattle.std.proofs.Common.{◌≡◌, ◌<◌, [], ℕ, List, length, Some, refl, sym, ap, subst, ◌∙◌, arith}
use Rattle.std.proofs.lemmas.Option.{slice_get-get_or}
use Rattle.std.specs.Prelude.{IsTrue, IsSome, slice_index_or}
use Rattle.std.proofs.lemmas.Result.{on_ok_weaker}
use Rattle.keyed_file.specs.Block.{KeyedBlock}
use Rattle.rollforward.specs.Filled.{Records, values_of}
use Rattle.rollforward.specs.Gathered.{group_at, values_by_block}
use Rattle.rollforward.specs.Filling.{IsPartFilled}
use Rattle.rollforward.proofs.Maps.{SameIn, content_as, room_as}
use Rattle.rollforward.proofs.Volumes.{block_here, next_contents, part_before, part_more}
use Rattle.rollforward.proofs.volume.fill_file.Goals as goal

pub loop-number-init : goal.loop-number-init
loop-number-init g c = record {
  space = c.requires.space;
  part = λ told. record {
    contents = λ file number. record { file = file; number = number; position = 0; records = [] };
    part = c.in_ok-create_file.ensures.ok _ (subst IsTrue c.create_file.ensures.tells told);
    each = λ n below. absurd (omega (arith, below));
  };
  others = λ told q apart. refl;
  works = record { device = g.met.D.Disk.same_itself c.create_file.new.device; tells = refl; later = omega arith };
}

default-as : (groups : List Records) (n : ℕ) (d e : Records) → n < length groups → slice_index_or groups n d ≡ slice_index_or groups n e
default-as groups n d e below = some_is (slice_index_or groups n d) (slice_index_or groups n e) (sym (slice_get-get_or groups n d below) ∙ slice_get-get_or groups n e below)
  where
    some_is : {X : Type 0} (a b : X) → Some a ≡ Some b → a ≡ b
    some_is a b e = cc

-- the records of a block are its group
own-group : (groups : List Records) (records item : Records) (number at blocks file : ℕ) → records ≡ item → item ≡ slice_index_or groups at item → at ≡ number → number < length groups → SameIn blocks number (values_by_block blocks groups file) (values_of records file)
own-group groups records item number at blocks file is found place below key lives =
    ap (λ (r : Records). values_of r file key) (is ∙ found ∙ default-as groups at item [] (omega (arith, place, below)) ∙ ap (group_at groups) (place ∙ sym lives))

pub fill_block-requires-clause-room : goal.fill_block-requires-clause-room
fill_block-requires-clause-room g c =
    room_as c.args.first.blocks c.loop-number.number (values_by_block c.args.first.blocks c.args.groups.now c.args.first.file) (values_of c.as_slice-records.result.now c.args.first.file)
    (own-group c.args.groups.now c.as_slice-records.result.now c.index-groups-from.result c.loop-number.number c.from.result c.args.first.blocks c.args.first.file c.as_slice-records.ensures c.index-groups-from.is c.from.ensures
    (omega (arith, c.loop-number-test.true, c.loop-number.auto.number-end, c.requires.groups)))
    (c.requires.room c.loop-number.number (omega (arith, c.loop-number-test.true, c.loop-number.auto.number-end)))

pub append_block-requires-clause-there : goal.append_block-requires-clause-there
append_block-requires-clause-there g c = λ told.
    let was = c.loop-number.invariant.part (subst IsTrue c.loop-number.invariant.works.tells told) in
    (was.part.0, was.part.1, was.part.2.long)

pub loop-number-preserved : goal.loop-number-preserved
loop-number-preserved g c = record {
  space = c.append_block.ensures.room;
  part = λ told.
      let was = c.loop-number.invariant.part told in
      let block : KeyedBlock = c.fill_block.new.block in
      let number : ℕ = c.loop-number.number in
      let map = values_by_block c.args.first.blocks c.args.groups.now in
      let file : ℕ = c.args.first.file in
      let blocks : ℕ = c.args.first.blocks in
      part_more map file blocks number (g.D.Disk.held c.loop-number.device) (g.D.Disk.held c.append_block.new.device) block was
      (c.in_ok-append_block.ensures.ok (next_contents map file blocks number (g.D.Disk.held c.loop-number.device) (g.D.Disk.held c.append_block.new.device) block was)
      (subst IsTrue (sym c.loop-number.invariant.works.tells) told)
      (part_before map file blocks number (g.D.Disk.held c.loop-number.device) (g.D.Disk.held c.append_block.new.device) block was)
      (block_here was.contents number block file))
      (record { valid = c.fill_block.ensures.valid; home = c.fill_block.ensures.home })
      (content_as (values_of c.as_slice-records.result.now) map file blocks number block
      (λ key lives. sym (own-group c.args.groups.now c.as_slice-records.result.now c.index-groups-from.result number c.from.result blocks file c.as_slice-records.ensures c.index-groups-from.is c.from.ensures
      (omega (arith, c.loop-number-test.true, c.loop-number.auto.number-end, c.requires.groups)) key lives)) c.fill_block.ensures.content);
  others = λ told q apart. c.append_block.ensures.others (subst IsTrue (sym c.loop-number.invariant.works.tells) told) q apart ∙ c.loop-number.invariant.others told q apart;
  works = record {
    device = g.met.D.Disk.same_on _ _ _ c.loop-number.invariant.works.device c.append_block.ensures.device;
    tells = c.append_block.ensures.tells ∙ c.loop-number.invariant.works.tells;
    later = omega (arith, c.append_block.ensures.cause.later, c.loop-number.invariant.works.later);
  };
}

pub finish_file-requires : goal.finish_file-requires
finish_file-requires g c = λ told.
    let was = c.loop-number.invariant.part (subst IsTrue c.loop-number.invariant.works.tells told) in
    subst IsSome (sym was.part.1) refl

pub returns-clause-filled : goal.returns-clause-filled
returns-clause-filled g c = λ told.
    let told_made : IsTrue (g.D.Disk.tells c.create_file.new.device) = subst IsTrue (sym c.create_file.ensures.tells) told in
    let told_now : IsTrue (g.D.Disk.tells c.loop-number.device) = subst IsTrue (sym c.loop-number.invariant.works.tells) told_made in
    let end : c.loop-number.number ≡ c.args.first.blocks = omega (arith, c.loop-number-test.false, c.loop-number.auto.number-end) in
    let was : IsPartFilled (values_by_block c.args.first.blocks c.args.groups.now) c.args.first.file c.args.first.blocks c.args.first.blocks (g.D.Disk.held c.loop-number.device) =
    subst (λ (n : ℕ). IsPartFilled (values_by_block c.args.first.blocks c.args.groups.now) c.args.first.file c.args.first.blocks n (g.D.Disk.held c.loop-number.device)) end (c.loop-number.invariant.part told_made) in
    on_ok_weaker c.finish_file.result (λ finished. record { contents = was.contents; finished = finished; each = λ n below. (was.each n below).1 })
    (c.finish_file.ensures.ok was.contents c.args.first.blocks told_now was.part c.requires.blocks.below (λ n below. (was.each n below).0))

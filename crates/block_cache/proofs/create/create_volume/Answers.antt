use Rattle.std.proofs.Common.{◌≡◌, inl, inr, ℕ, ◌+◌, ◌<◌, length, Some, sym, ap, subst, ◌∙◌, arith}
use Rattle.std.specs.Prelude.{IsTrue, slice_get}
use Rattle.std.proofs.lemmas.Result.{on_ok_weaker}
use Rattle.keyed_file.specs.Volume.{blocks_of}
use Rattle.block_cache.specs.declared.contents.FileContents.{FileContents}
use Rattle.block_cache.specs.Created.{AreBlocksOf, IsFinished}
use Rattle.block_cache.specs.Whole.{FitsFile}
use Rattle.block_cache.proofs.Anew.{either_way, finished_step, labelled_being, made_volume, off_step}
use Rattle.block_cache.proofs.FileRows.{label_small}
use Rattle.block_cache.proofs.Labelling.{lost_created}
use Rattle.block_cache.proofs.Opening.{resting_image}
use Rattle.block_cache.proofs.Places.{item_at}
use Rattle.block_cache.proofs.create.create_volume.Goals as goal

pub returns-in_err-write_file-clause-every : goal.returns-in_err-write_file-clause-every
returns-in_err-write_file-clause-every g c = λ contents image told given leaves.
    let one : FileContents = c.one-item.result in
    let item = item_at c.args.contents.now c.loop-one.one-index one (omega (arith, c.loop-one-test.true, c.loop-one.auto.one-index-end)) c.one-item.is in
    let small = label_small c.args.label.now one.file c.requires.label (c.requires.all.only c.loop-one.one-index one item) in
    let told_now : IsTrue (g.D.Disk.tells c.loop-one.device) = subst IsTrue (sym c.loop-one.invariant.works.tells) told in
    let closed = c.write_file.ensures.others told_now 1 (λ e. omega (arith, e, small.0)) ∙ c.loop-one.invariant.closed told in
    inr (inl (lost_created (g.D.Disk.held c.write_file.new.device) closed image leaves))

pub loop-one-preserved : goal.loop-one-preserved
loop-one-preserved g c =
    let one : FileContents = c.one-item.result in
    let item = item_at c.args.contents.now c.loop-one.one-index one (omega (arith, c.loop-one-test.true, c.loop-one.auto.one-index-end)) c.one-item.is in
    let some = c.requires.all.only c.loop-one.one-index one item in
    let small = label_small c.args.label.now one.file c.requires.label some in
    let fits : FitsFile c.args.label.now.files one = c.requires.all.whole.fit c.loop-one.one-index one item in
    record {
      room = c.write_file.ensures.room;
      closed = λ told. c.write_file.ensures.others (subst IsTrue (sym c.loop-one.invariant.works.tells) told) 1 (λ e. omega (arith, e, small.0)) ∙ c.loop-one.invariant.closed told;
      others = λ told. off_step c.args.label.now.files (g.D.Disk.held c.args.device.now) (g.D.Disk.held c.loop-one.device) (g.D.Disk.held c.write_file.new.device) one.file some (c.loop-one.invariant.others told)
          (c.write_file.ensures.others (subst IsTrue (sym c.loop-one.invariant.works.tells) told));
      done = λ contents told given.
          let told_now : IsTrue (g.D.Disk.tells c.loop-one.device) = subst IsTrue (sym c.loop-one.invariant.works.tells) told in
          let now : IsFinished one.file (blocks_of c.args.label.now.files one.file) contents (g.D.Disk.held c.write_file.new.device) =
          subst (λ n. IsFinished one.file n contents (g.D.Disk.held c.write_file.new.device)) (ap length c.as_slice.ensures ∙ fits.count)
          (c.in_ok-write_file.ensures.ok contents told_now (subst (AreBlocksOf contents one.file) (sym c.as_slice.ensures) (given c.loop-one.one-index one item))) in
          finished_step c.args.label.now.files contents c.args.contents.now c.loop-one.one-index one (g.D.Disk.held c.loop-one.device) (g.D.Disk.held c.write_file.new.device) item (c.write_file.ensures.others told_now) now
          (c.loop-one.invariant.done contents told given);
      works = record {
        device = g.met.D.Disk.same_on _ _ _ c.loop-one.invariant.works.device c.write_file.ensures.works.is_later.device;
        tells = c.write_file.ensures.works.is_later.tells ∙ c.loop-one.invariant.works.tells;
        later = omega (arith, c.write_file.ensures.works.is_later.later, c.loop-one.invariant.works.later);
      };
    }

pub returns-clause-made : goal.returns-clause-made
returns-clause-made g c = λ contents told given.
    let told_now : IsTrue (g.D.Disk.tells c.loop-one.device) = subst IsTrue (sym c.loop-one.invariant.works.tells) told in
    on_ok_weaker c.create_label.result
    (made_volume c.args.label.now contents c.args.contents.now (g.D.Disk.held c.create_label.new.device) c.requires.label c.requires.all
    (λ n one within is.
    let was = c.loop-one.invariant.done contents told given n one (omega (arith, within, c.loop-one-test.false, c.loop-one.auto.one-index-end)) is in
    let small = label_small c.args.label.now one.file c.requires.label (c.requires.all.only n one is) in
    (was.0, c.create_label.ensures.others told_now (1 + one.file) (λ e. omega (arith, e, small.0)) ∙ was.1, was.2)))
    (c.create_label.ensures.ok told_now)

pub returns-clause-every : goal.returns-clause-every
returns-clause-every g c = λ contents image told given leaves.
    let told_now : IsTrue (g.D.Disk.tells c.loop-one.device) = subst IsTrue (sym c.loop-one.invariant.works.tells) told in
    let each : (n : ℕ) (one : FileContents) → n < length c.args.contents.now → slice_get c.args.contents.now n ≡ Some one → IsFinished one.file (blocks_of c.args.label.now.files one.file) contents (g.D.Disk.held c.create_label.new.device) =
    λ n one within is.
    let was = c.loop-one.invariant.done contents told given n one (omega (arith, within, c.loop-one-test.false, c.loop-one.auto.one-index-end)) is in
    let small = label_small c.args.label.now one.file c.requires.label (c.requires.all.only n one is) in
    (was.0, c.create_label.ensures.others told_now (1 + one.file) (λ e. omega (arith, e, small.0)) ∙ was.1, was.2) in
    either_way c.create_label.result (c.create_label.ensures.ok told_now) (c.create_label.ensures.err told_now)
    (λ top.
    let made = made_volume c.args.label.now contents c.args.contents.now (g.D.Disk.held c.create_label.new.device) c.requires.label c.requires.all each top in
    inr (inr (resting_image c.spelling_length_law.ensures.block c.spelling_length_law.ensures.label c.args.label.now (g.D.Disk.held c.create_label.new.device) image contents made.spells made.rests leaves)))
    (λ may. labelled_being c.args.label.now contents c.args.contents.now (g.D.Disk.held c.create_label.new.device) c.requires.label c.requires.all each (g.D.Disk.held c.args.device.now) image leaves (may image leaves))

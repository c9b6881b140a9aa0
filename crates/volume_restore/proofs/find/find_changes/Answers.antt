use Rattle.std.proofs.Common.{◌≤◌, ◌<◌, ◌+◌, ◌-◌, ℕ, IsTrue, None, length, refl, sym, subst, ◌∙◌, arith}
use Rattle.std.proofs.lemmas.Option.{MatchOption-at_some}
use Rattle.std.proofs.lemmas.Result.{err_from_is_err_and}
use Rattle.disk_model.specs.Held.{Held}
use Rattle.keyed_file.specs.Volume.{files_on}
use Rattle.block_cache.specs.Changes.{AreNamed}
use Rattle.volume_restore.specs.Inspected.{TellsBad}
use Rattle.volume_restore.specs.Pass.{AreBefore, AreFoundBefore, HasPassed}
use Rattle.volume_restore.specs.Restored.{IsFirstFull}
use Rattle.volume_restore.proofs.Counting.{few-on}
use Rattle.volume_restore.proofs.Keeping.{reads-itself, reads-then}
use Rattle.volume_restore.proofs.Passing.{all-before, all-fine, all-needed, named-first, passed-first, row-file, row-first}
use Rattle.volume_restore.proofs.Untouched.{passed-whole}
use Rattle.volume_restore.proofs.find.find_changes.Goals as goal

pub returns-in_err-pass-clause-told : goal.returns-in_err-pass-clause-told
returns-in_err-pass-clause-told g c = λ told known.
    let held : Held = g.D.Disk.held c.args.blocks.now.device in
    let p = err_from_is_err_and c.from_residual.result c.from_residual.ensures.1 in
    rw (p.1, p.2) (subst (TellsBad c.args.config.now c.args.volume held) (sym c.in_err-pass.ensures.memory) tt)

pub loop-before-init : goal.loop-before-init
loop-before-init g c =
    let config = c.args.config.now in
    let volume = c.args.volume in
    let files = c.args.files.now in
    let held : Held = g.D.Disk.held c.args.blocks.now.device in
    let new = c.in_ok-pass.ensures.new in
    record {
      named = λ told. subst (λ xs. AreNamed (files_on volume 1 config.files) xs held) (sym new.0) (named-first config volume held);
      passed = λ told known. subst (λ fu. HasPassed config volume files held 1 0 fu c.in_ok-pass.pass.row.items) (sym new.1) (subst (HasPassed config volume files held 1 0 None) (sym new.0) (passed-first config volume files held));
      row = subst (AreBefore config volume 1 0 (c.args.recovery.next - 1)) (sym new.0) (row-first config volume (c.args.recovery.next - 1));
      cache = refl;
      reads = reads-itself g.D.Disk c.args.blocks.now g.met.D.Disk.same_itself c.always.ensures;
    }

pub see_file-requires-clause-blocks : goal.see_file-requires-clause-blocks
see_file-requires-clause-blocks g c = subst (λ (n : ℕ). n ≤ 256) (sym c.count_on.ensures) (few-on c.args.volume c.args.config.now.files (c.loop-before.before + 1) c.requires.valid.files.blocks)

pub returns-in_err-see_file-clause-reads : goal.returns-in_err-see_file-clause-reads
returns-in_err-see_file-clause-reads g c = reads-then g.D.Disk c.args.blocks.now c.loop-before.blocks c.see_file.new.blocks g.met.D.Disk.same_on c.loop-before.invariant.reads c.see_file.ensures.reads

pub loop-before-preserved : goal.loop-before-preserved
loop-before-preserved g c =
    let config = c.args.config.now in
    let volume = c.args.volume in
    let files = c.args.files.now in
    let file : ℕ = c.loop-before.before + 1 in
    let reads = c.loop-before.invariant.reads in
    let full = c.loop-before.pass.full in
    let items = c.loop-before.pass.row.items in
    record {
      named = λ told.
          subst (λ (h : Held). AreNamed (files_on volume 1 config.files) c.see_file.new.self.row.items h) reads.same
          (c.in_ok-see_file.ensures.named config volume files (subst IsTrue (sym reads.works.tells) told) c.count_on.ensures c.of_file-found.ensures
          (subst (λ (h : Held). AreNamed (files_on volume 1 config.files) items h) (sym reads.same) (c.loop-before.invariant.named told)));
      passed = λ told known.
          subst (λ (h : Held). HasPassed config volume files h (file + 1) 0 c.see_file.new.self.full c.see_file.new.self.row.items) reads.same
          (c.in_ok-see_file.ensures.passed config volume files (subst IsTrue (sym reads.works.tells) told) c.count_on.ensures c.of_file-found.ensures
          (subst (λ (h : Held). HasPassed config volume files h file 0 full items) (sym reads.same) (c.loop-before.invariant.passed told known)));
      row = c.in_ok-see_file.ensures.before config volume c.count_on.ensures c.loop-before.invariant.row;
      cache = c.see_file.ensures.cache ∙ c.loop-before.invariant.cache;
      reads = reads-then g.D.Disk c.args.blocks.now c.loop-before.blocks c.see_file.new.blocks g.met.D.Disk.same_on reads c.see_file.ensures.reads;
    }

pub loop-before-preserved-then-stays_whole : goal.loop-before-preserved-then-stays_whole
loop-before-preserved-then-stays_whole g c =
    let config = c.args.config.now in
    let volume = c.args.volume in
    let files = c.args.files.now in
    let held : Held = g.D.Disk.held c.args.blocks.now.device in
    let file : ℕ = c.loop-before.before + 1 in
    let full = c.loop-before.pass.full in
    let items = c.loop-before.pass.row.items in
    let was = c.loop-before.invariant in
    record {
      named = was.named;
      passed = λ told known.
          passed-whole config volume files held file c.of_file-found.result.now (known (c.if-stays_whole.ensures.fine refl)) c.of_file-found.ensures (c.if-stays_whole.ensures.none refl) full items (was.passed told known);
      row = row-file config volume file 0 (c.args.recovery.next - 1) items was.row;
      cache = was.cache;
      reads = was.reads;
    }

pub returns-in_err-see_file-clause-told : goal.returns-in_err-see_file-clause-told
returns-in_err-see_file-clause-told g c = λ told known.
    let config = c.args.config.now in
    let volume = c.args.volume in
    let files = c.args.files.now in
    let file : ℕ = c.loop-before.before + 1 in
    let reads = c.loop-before.invariant.reads in
    let full = c.loop-before.pass.full in
    let items = c.loop-before.pass.row.items in
    let p = err_from_is_err_and c.from_residual-in_err-see_file.result c.from_residual-in_err-see_file.ensures.1 in
    rw (p.1, p.2)
    (subst (λ (h : Held). TellsBad config volume h c.in_err-see_file.field-0.0) reads.same
    (c.in_err-see_file.ensures.passed config volume files (subst IsTrue (sym reads.works.tells) told) c.count_on.ensures c.of_file-found.ensures
    (subst (λ (h : Held). HasPassed config volume files h file 0 full items) (sym reads.same) (c.loop-before.invariant.passed told known))))

pub returns-in-Some-clause-told : goal.returns-in-Some-clause-told
returns-in-Some-clause-told g c = λ told known.
    let config = c.args.config.now in
    let volume = c.args.volume in
    let files = c.args.files.now in
    let held : Held = g.D.Disk.held c.args.blocks.now.device in
    let last : ℕ = c.loop-before.before + 1 in
    let past : length config.files < last = omega (arith, c.loop-before-test.false, c.len-before-end.ensures) in
    let passed = c.loop-before.invariant.passed told known in (
      all-fine config volume files held last 0 c.loop-before.pass.full c.loop-before.pass.row.items passed (all-before config volume last past),
      λ was shown. MatchOption-at_some (AreFoundBefore config volume files was last 0 c.loop-before.pass.row.items) (IsFirstFull config volume files was) c.in-Some.damage c.in-Some.is (passed.found was shown),
    )

pub returns-clause-told : goal.returns-clause-told
returns-clause-told g c = λ told known.
    let config = c.args.config.now in
    let volume = c.args.volume in
    let files = c.args.files.now in
    let held : Held = g.D.Disk.held c.args.blocks.now.device in
    let last : ℕ = c.loop-before.before + 1 in
    let items = c.loop-before.pass.row.items in
    let past : length config.files < last = omega (arith, c.loop-before-test.false, c.len-before-end.ensures) in
    let passed = c.loop-before.invariant.passed told known in
    let none : HasPassed config volume files held last 0 None items = subst (λ fu. HasPassed config volume files held last 0 fu items) c.in-None.is passed in
    (all-fine config volume files held last 0 None items none (all-before config volume last past), all-needed config volume files held last 0 items none (all-before config volume last past))

pub returns-clause-position : goal.returns-clause-position
returns-clause-position g c = c.loop-before.invariant.row.hold

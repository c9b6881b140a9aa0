use Rattle.std.proofs.Common.{◌≡◌, inl, inr, ℕ, ◌+◌, ◌<◌, List, ◌++◌, length, get_or, drop, Some, sym, ap, subst, ◌∙◌, arith}
use Rattle.std.specs.Prelude.{IsTrue, slice_get}
use Rattle.std.proofs.lemmas.Option.{slice_get-get_or}
use Rattle.std.proofs.lemmas.Result.{on_ok_weaker}
use Rattle.tmf_model.specs.Place.{block_of}
use Rattle.keyed_file.specs.Dump.{blocks_before, blocks_in_all}
use Rattle.keyed_file.specs.LabelFormat.{file_row}
use Rattle.keyed_file.specs.Row.{IsRow}
use Rattle.volume_restore.specs.Changed.{HasRoomIn}
use Rattle.rollforward.specs.Filled.{Records, values_of}
use Rattle.rollforward.specs.Gathered.{group_at, values_by_block, values_gathered}
use Rattle.rollforward.proofs.Gathers.{IsRest, before_index, drop_blocks, rest_more, rest_none, rest_own}
use Rattle.rollforward.proofs.Maps.{file_as, room_as}
use Rattle.rollforward.proofs.Volumes.{AreFilledTo, either_way, filled_kept, filled_more, filled_none, labelled_being, lost_created, off_label, off_step, row_file, volume_filled}
use Rattle.rollforward.proofs.volume.fill_volume.Given.{Over}
use Rattle.rollforward.proofs.volume.fill_volume.Goals as goal

-- the file at the loop's index is the label's
at_index : (items files : List (ℕ × ℕ)) (i : ℕ) → items ≡ files → i < length items → slice_get files i ≡ Some (get_or items i (0, 0))
at_index items files i is lt = ap (λ (l : List (ℕ × ℕ)). slice_get l i) (sym is) ∙ slice_get-get_or items i (0, 0) lt

-- the records of a file's blocks give what those of all blocks give
own-values : (files : List (ℕ × ℕ)) (row : IsRow file_row 0 files) (groups rest own more : List Records) (i passed n : ℕ) (f : ℕ × ℕ) → slice_get files i ≡ Some f → n ≡ f.1 → rest ≡ own ++ more → length own ≡ n → IsRest groups rest passed
    → passed + blocks_in_all (drop i files) ≡ blocks_in_all files → (key : List ℕ) → block_of key f.1 < f.1 → values_by_block f.1 own f.0 key ≡ values_gathered files groups f.0 key
own-values files row groups rest own more i passed n f at count is long was left key below =
    let before = before_index 0 files i f row at in
    let blocks = (row_file 0 files i f row at).1 in
    ap (λ (r : Records). values_of r f.0 key) (rest_own groups rest own more passed n (block_of key f.1) is long was (omega (arith, below, count)))
    ∙ ap (λ (b : ℕ). values_of (group_at groups b) f.0 key) (ap (λ (p : ℕ). p + block_of key f.1) (omega (arith, before, left)) ∙ ap (λ (b : ℕ). blocks_before files f.0 + block_of key b) (sym blocks))

pub loop-file-init : goal.loop-file-init
loop-file-init g c = record {
  space = c.requires.space;
  closed = λ told. c.in_ok-create.ensures.ok told;
  others = λ told q apart free. c.create.ensures.others told q apart;
  done = λ told. filled_none (values_gathered c.args.label.now.files c.args.groups.now) c.args.label.now.files (g.D.Disk.held c.create.new.self);
  rest = (0, rest_none c.args.groups.now, omega arith);
  works = record { device = c.create.ensures.device; tells = c.create.ensures.tells; later = c.create.ensures.cause.later };
}

pub fill_file-requires-clause-blocks : goal.fill_file-requires-clause-blocks
fill_file-requires-clause-blocks g c =
    let f : ℕ × ℕ = get_or c.as_slice-file-items.result.now c.loop-file.file-index (0, 0) in
    let row = row_file 0 c.args.label.now.files c.loop-file.file-index f c.requires.label.files (at_index c.as_slice-file-items.result.now c.args.label.now.files c.loop-file.file-index c.as_slice-file-items.ensures c.loop-file-test.true) in
    record { above = row.2; below = row.3 }

pub fill_file-requires-clause-room : goal.fill_file-requires-clause-room
fill_file-requires-clause-room g c = λ number below.
    let f : ℕ × ℕ = get_or c.as_slice-file-items.result.now c.loop-file.file-index (0, 0) in
    let row = row_file 0 c.args.label.now.files c.loop-file.file-index f c.requires.label.files (at_index c.as_slice-file-items.result.now c.args.label.now.files c.loop-file.file-index c.as_slice-file-items.ensures c.loop-file-test.true) in
    let at = at_index c.as_slice-file-items.result.now c.args.label.now.files c.loop-file.file-index c.as_slice-file-items.ensures c.loop-file-test.true in
    room_as f.1 number (values_gathered c.args.label.now.files c.args.groups.now f.0) (values_by_block f.1 c.split_at.result.0.now f.0)
    (λ key lives. own-values c.args.label.now.files c.requires.label.files c.args.groups.now c.loop-file.rest.now c.split_at.result.0.now c.split_at.result.1.now c.loop-file.file-index c.loop-file.invariant.rest.0 c.from.result f at c.from.ensures
    c.split_at.ensures.by_index.0 c.split_at.ensures.front_len c.loop-file.invariant.rest.1 c.loop-file.invariant.rest.2 key (omega (arith, lives, below)))
    (subst (λ (b : ℕ). HasRoomIn b number (values_gathered c.args.label.now.files c.args.groups.now f.0)) row.1 (c.requires.room f.0 number (omega (arith, below, row.1))))

pub fill_file-requires-clause-groups : goal.fill_file-requires-clause-groups
fill_file-requires-clause-groups g c = omega (arith, c.split_at.ensures.front_len, c.from.ensures)

pub split_at-requires : goal.split_at-requires
split_at-requires g c =
    let files : List (ℕ × ℕ) = c.args.label.now.files in
    let f : ℕ × ℕ = get_or c.as_slice-file-items.result.now c.loop-file.file-index (0, 0) in
    let at : slice_get files c.loop-file.file-index ≡ Some f = at_index c.as_slice-file-items.result.now files c.loop-file.file-index c.as_slice-file-items.ensures c.loop-file-test.true in
    let next : blocks_in_all (drop c.loop-file.file-index files) ≡ f.1 + blocks_in_all (drop (c.loop-file.file-index + 1) files) = drop_blocks files c.loop-file.file-index f at in
    omega (arith, c.loop-file.invariant.rest.1.long, c.loop-file.invariant.rest.2, next, c.requires.groups, c.from.ensures)

pub returns-in_err-fill_file-clause-others : goal.returns-in_err-fill_file-clause-others
returns-in_err-fill_file-clause-others g c = λ told.
    let f : ℕ × ℕ = get_or c.as_slice-file-items.result.now c.loop-file.file-index (0, 0) in
    let row = row_file 0 c.args.label.now.files c.loop-file.file-index f c.requires.label.files (at_index c.as_slice-file-items.result.now c.args.label.now.files c.loop-file.file-index c.as_slice-file-items.ensures c.loop-file-test.true) in
    off_step c.args.label.now.files (g.D.Disk.held c.args.device.now) (g.D.Disk.held c.loop-file.device) (g.D.Disk.held c.fill_file.new.device) f.0 (omega (arith, row.1, row.2)) (c.loop-file.invariant.others told)
    (c.fill_file.ensures.others (subst IsTrue (sym c.loop-file.invariant.works.tells) told))

pub returns-in_err-fill_file-clause-every : goal.returns-in_err-fill_file-clause-every
returns-in_err-fill_file-clause-every g c = λ image told leaves.
    let f : ℕ × ℕ = get_or c.as_slice-file-items.result.now c.loop-file.file-index (0, 0) in
    let row = row_file 0 c.args.label.now.files c.loop-file.file-index f c.requires.label.files (at_index c.as_slice-file-items.result.now c.args.label.now.files c.loop-file.file-index c.as_slice-file-items.ensures c.loop-file-test.true) in
    let told_now : IsTrue (g.D.Disk.tells c.loop-file.device) = subst IsTrue (sym c.loop-file.invariant.works.tells) told in
    let closed = c.fill_file.ensures.others told_now 1 (λ e. omega (arith, e, row.0)) ∙ c.loop-file.invariant.closed told in
    inr (inl (lost_created (g.D.Disk.held c.fill_file.new.device) closed image leaves))

pub loop-file-preserved : goal.loop-file-preserved
loop-file-preserved g c =
    let files : List (ℕ × ℕ) = c.args.label.now.files in
    let f : ℕ × ℕ = get_or c.as_slice-file-items.result.now c.loop-file.file-index (0, 0) in
    let at : slice_get files c.loop-file.file-index ≡ Some f = at_index c.as_slice-file-items.result.now files c.loop-file.file-index c.as_slice-file-items.ensures c.loop-file-test.true in
    let row = row_file 0 files c.loop-file.file-index f c.requires.label.files at in
    let now : IsTrue (g.D.Disk.tells c.args.device.now) → IsTrue (g.D.Disk.tells c.loop-file.device) = λ told. subst IsTrue (sym c.loop-file.invariant.works.tells) told in
    record {
      space = c.fill_file.ensures.space;
      closed = λ told. c.fill_file.ensures.others (now told) 1 (λ e. omega (arith, e, row.0)) ∙ c.loop-file.invariant.closed told;
      others = λ told. off_step files (g.D.Disk.held c.args.device.now) (g.D.Disk.held c.loop-file.device) (g.D.Disk.held c.fill_file.new.device) f.0 (omega (arith, row.1, row.2)) (c.loop-file.invariant.others told) (c.fill_file.ensures.others (now told));
      done = λ told. filled_more (values_gathered c.args.label.now.files c.args.groups.now) files c.requires.label.files c.loop-file.file-index f at (g.D.Disk.held c.loop-file.device) (g.D.Disk.held c.fill_file.new.device) (c.fill_file.ensures.others (now told))
          (c.loop-file.invariant.done told)
          (file_as (values_by_block f.1 c.split_at.result.0.now) (values_gathered files c.args.groups.now) f.0 f.1 (g.D.Disk.held c.fill_file.new.device)
          (λ key below. sym (own-values files c.requires.label.files c.args.groups.now c.loop-file.rest.now c.split_at.result.0.now c.split_at.result.1.now c.loop-file.file-index c.loop-file.invariant.rest.0 c.from.result f at c.from.ensures
          c.split_at.ensures.by_index.0 c.split_at.ensures.front_len c.loop-file.invariant.rest.1 c.loop-file.invariant.rest.2 key below))
          (c.in_ok-fill_file.ensures.filled (now told)));
      rest = (
        c.loop-file.invariant.rest.0 + c.from.result,
        rest_more c.args.groups.now c.loop-file.rest.now c.split_at.result.0.now c.split_at.result.1.now c.loop-file.invariant.rest.0 c.from.result c.split_at.ensures.by_index.0 c.split_at.ensures.front_len c.loop-file.invariant.rest.1,
        omega (arith, c.loop-file.invariant.rest.2, drop_blocks files c.loop-file.file-index f at, c.from.ensures),
      );
      works = record {
        device = g.met.D.Disk.same_on _ _ _ c.loop-file.invariant.works.device c.fill_file.ensures.works.is_later.device;
        tells = c.fill_file.ensures.works.is_later.tells ∙ c.loop-file.invariant.works.tells;
        later = omega (arith, c.fill_file.ensures.works.is_later.later, c.loop-file.invariant.works.later);
      };
    }

all : (g : Over) (c : goal.After-create_label g) → IsTrue (g.D.Disk.tells c.args.device.now) → AreFilledTo (values_gathered c.args.label.now.files c.args.groups.now) c.args.label.now.files (length c.args.label.now.files) (g.D.Disk.held c.create_label.new.device)
all g c told =
    let files : List (ℕ × ℕ) = c.args.label.now.files in
    let told_now : IsTrue (g.D.Disk.tells c.loop-file.device) = subst IsTrue (sym c.loop-file.invariant.works.tells) told in
    let end : c.loop-file.file-index ≡ length files = omega (arith, c.loop-file-test.false, c.loop-file.auto.file-index-end, ap length c.as_slice-file-items.ensures) in
    filled_kept (values_gathered c.args.label.now.files c.args.groups.now) files c.requires.label.files (length files) (g.D.Disk.held c.loop-file.device) (g.D.Disk.held c.create_label.new.device) (c.create_label.ensures.others told_now)
    (subst (λ (n : ℕ). AreFilledTo (values_gathered c.args.label.now.files c.args.groups.now) files n (g.D.Disk.held c.loop-file.device)) end (c.loop-file.invariant.done told))

pub returns-clause-filled : goal.returns-clause-filled
returns-clause-filled g c = λ told.
    let told_now : IsTrue (g.D.Disk.tells c.loop-file.device) = subst IsTrue (sym c.loop-file.invariant.works.tells) told in
    on_ok_weaker c.create_label.result (volume_filled c.args.label.now (values_gathered c.args.label.now.files c.args.groups.now) (g.D.Disk.held c.create_label.new.device) c.requires.label (all g c told)) (c.create_label.ensures.ok told_now)

pub returns-clause-others : goal.returns-clause-others
returns-clause-others g c = λ told.
    off_label c.args.label.now.files (g.D.Disk.held c.args.device.now) (g.D.Disk.held c.loop-file.device) (g.D.Disk.held c.create_label.new.device) (c.loop-file.invariant.others told)
    (c.create_label.ensures.others (subst IsTrue (sym c.loop-file.invariant.works.tells) told))

pub returns-clause-every : goal.returns-clause-every
returns-clause-every g c = λ image told leaves.
    let told_now : IsTrue (g.D.Disk.tells c.loop-file.device) = subst IsTrue (sym c.loop-file.invariant.works.tells) told in
    let held = g.D.Disk.held c.create_label.new.device in
    either_way c.create_label.result (c.create_label.ensures.ok told_now) (c.create_label.ensures.err told_now)
    (λ top.
    let whole = volume_filled c.args.label.now (values_gathered c.args.label.now.files c.args.groups.now) held c.requires.label (all g c told) top in
    inr (inr (whole.contents, c.at_rest.ensures.image c.args.label.now held image whole.contents whole.made.spells whole.made.rests leaves, whole.each)))
    (λ may. labelled_being c.args.label.now (values_gathered c.args.label.now.files c.args.groups.now) held c.requires.label (all g c told) c.at_rest.ensures.image (g.D.Disk.held c.args.device.now) image leaves (may image leaves))

use Rattle.std.proofs.Common.{◌≡◌, ◌+◌, ◌*◌, ◌<◌, ◌^◌, ◌++◌, List, length, arith, ap, sym, subst, ◌∙◌}
use Rattle.std.proofs.lemmas.Result.{err_from_is_err_and}
use Rattle.disk_model.specs.Held.{IsThere, IfThere}
use Rattle.trail_files.specs.declared.scan.Reach.{Reach}
use Rattle.trail_files.specs.Format.{text}
use Rattle.trail_files.specs.Text.{records_of, all_of}
use Rattle.trail_files.specs.Scanned.{IsScanned, IsHeadAt, IsBatchAt}
use Rattle.trail_files.proofs.Batches.{scanned_batch, scanned_roll, scanned_missing, scanned_more, scanned_records, roll_at}
use Rattle.trail_files.proofs.Outcomes.{if_ok, if_err}
use Rattle.trail_files.proofs.Results.{ok_both}
use Rattle.trail_files.proofs.Scans.{at_file}
use Rattle.trail_files.proofs.Texts.{length-body}
use Rattle.trail_files.proofs.scan.pass_batch.Goals as goal

pub returns-in_err-count-clause-damaged : goal.returns-in_err-count-clause-damaged
returns-in_err-count-clause-damaged g c = λ least told is.
    let p = err_from_is_err_and c.from_residual.result c.from_residual.ensures.1 in
    let held = g.D.Disk.held in
    let r = c.args.rules.now in
    let format = g.R.Spelled.format r in
    let stands = g.R.Spelled.stands r in
    let damage = g.R.Spelled.damage r in
    let size = g.R.Spelled.record_length in
    let reach = c.args.reach in
    let f = is.here.0 in
    let there = is.here.1 in
    let opened = (at_file (held c.args.device.now reach.file) f there (c.requires.here told)).1 in
    rw (p.1, p.2)
    (λ d e. scanned_batch format stands (held c.args.device.now) least c.args.order.now reach.file reach.len reach.gate reach.places is f there damage size d c.requires.gate opened (c.in_err-count.ensures.damaged r told d e f there))

pub returns-then-count-eq0-clause-found : goal.returns-then-count-eq0-clause-found
returns-then-count-eq0-clause-found g c = λ least told is.
    let held = g.D.Disk.held in
    let r = c.args.rules.now in
    let format = g.R.Spelled.format r in
    let stands = g.R.Spelled.stands r in
    let damage = g.R.Spelled.damage r in
    let size = g.R.Spelled.record_length in
    let reach = c.args.reach in
    let f = is.here.0 in
    let there = is.here.1 in
    let opened = (at_file (held c.args.device.now reach.file) f there (c.requires.here told)).1 in
    let none : c.in_ok-count.count ≡ 0 = omega arith in
    let found = c.in_ok-count.ensures.found r told f there in
    let at = roll_at format stands (held c.args.device.now) least c.args.order.now reach.file reach.len reach.gate reach.places is f there c.in_ok-count.count none found.0 (omega (arith, c.in_ok-count.ensures.fits)) in
    let more : reach.file + 1 < 2 ^ 32 = omega (arith, c.in_ok-count.ensures.rolls none) in
    ok_both c.open_file.result (λ (next : Reach). next ≡ record { file = reach.file + 1; len = next.len; gate = 0; places = reach.places }) (λ (next : Reach). IsThere (held c.enter_batch.new.device) (reach.file + 1) (λ x. next.len ≡ length x.bytes))
    (λ (next : Reach). IsScanned format stands c.args.order.now (held c.args.device.now) least next.file next.len next.gate next.places) c.open_file.ensures.at (c.open_file.ensures.there (c.enter_batch.ensures.works.tells ∙ told))
    (λ next at_is next_there. subst (λ (x : Reach). IsScanned format stands c.args.order.now (held c.args.device.now) least x.file x.len x.gate x.places) (sym at_is)
    (scanned_roll format stands (held c.args.device.now) least c.args.order.now reach.file reach.len reach.gate reach.places is f there next.len at more (subst (λ h. IsThere h (reach.file + 1) (λ x. next.len ≡ length x.bytes)) c.enter_batch.ensures.same next_there)))

pub returns-then-count-eq0-clause-damaged : goal.returns-then-count-eq0-clause-damaged
returns-then-count-eq0-clause-damaged g c = λ least told is.
    let held = g.D.Disk.held in
    let r = c.args.rules.now in
    let format = g.R.Spelled.format r in
    let stands = g.R.Spelled.stands r in
    let damage = g.R.Spelled.damage r in
    let size = g.R.Spelled.record_length in
    let reach = c.args.reach in
    let f = is.here.0 in
    let there = is.here.1 in
    let opened = (at_file (held c.args.device.now reach.file) f there (c.requires.here told)).1 in
    let none : c.in_ok-count.count ≡ 0 = omega arith in
    let found = c.in_ok-count.ensures.found r told f there in
    let at = roll_at format stands (held c.args.device.now) least c.args.order.now reach.file reach.len reach.gate reach.places is f there c.in_ok-count.count none found.0 (omega (arith, c.in_ok-count.ensures.fits)) in
    let more : reach.file + 1 < 2 ^ 32 = omega (arith, c.in_ok-count.ensures.rolls none) in
    if_err c.open_file.result
    (λ e tells d same.
    let missing = tells d same in
    scanned_missing format stands (held c.args.device.now) least c.args.order.now reach.file reach.len reach.gate reach.places is f there damage size d at more (ap (λ h. h (reach.file + 1)) (sym c.enter_batch.ensures.same) ∙ missing.0) missing.1)
    (c.open_file.ensures.damaged (c.enter_batch.ensures.works.tells ∙ told))

pub returns-else-count-eq0-clause-found : goal.returns-else-count-eq0-clause-found
returns-else-count-eq0-clause-found g c = λ least told is.
    let held = g.D.Disk.held in
    let r = c.args.rules.now in
    let format = g.R.Spelled.format r in
    let stands = g.R.Spelled.stands r in
    let damage = g.R.Spelled.damage r in
    let size = g.R.Spelled.record_length in
    let reach = c.args.reach in
    let f = is.here.0 in
    let there = is.here.1 in
    let opened = (at_file (held c.args.device.now reach.file) f there (c.requires.here told)).1 in
    let before = records_of is.files ++ all_of is.batches in
    let found = c.in_ok-count.ensures.found r told f there in
    let there' = ap (λ h. h reach.file) c.enter_batch.ensures.same ∙ there in
    ok_both c.read_batch.result (λ (next : Reach). next ≡ record { file = reach.file; len = reach.len; gate = reach.gate + 16 + c.in_ok-count.count * size; places = reach.places + c.in_ok-count.count })
    (λ _. IfThere (held c.enter_batch.new.device) reach.file (λ f. IsHeadAt reach.gate c.in_ok-count.count f.bytes → (batch : List g.row.R.Denot)
    × IsBatchAt format before (reach.places + 1) reach.gate f.bytes batch × (length batch ≡ c.in_ok-count.count) × stands c.read_batch.new.order (before ++ batch)))
    (λ (next : Reach). IsScanned format stands c.read_batch.new.order (held c.args.device.now) least next.file next.len next.gate next.places) c.read_batch.ensures.at
    (c.read_batch.ensures.found before (c.enter_batch.ensures.works.tells ∙ told) is.kept is.fine.in_order is.next)
    (λ next at_is holds.
    let one = holds f there' found.0 in
    let long = length-body (text format) size (λ item place. g.met.R.Spelled.text_length r item (format.number item place)) (reach.places + 1) one.0 in
    subst (λ (x : Reach). IsScanned format stands c.read_batch.new.order (held c.args.device.now) least x.file x.len x.gate x.places) (sym at_is)
    (scanned_more format stands (held c.args.device.now) least c.args.order.now reach.file reach.len reach.gate reach.places is f there c.read_batch.new.order (reach.gate + 16 + c.in_ok-count.count * size) (reach.places + c.in_ok-count.count) one.0 one.1
    (omega (arith, long, ap (λ n. n * size) one.2)) c.in_ok-count.ensures.fits (omega (arith, one.2)) one.3))

pub returns-else-count-eq0-clause-damaged : goal.returns-else-count-eq0-clause-damaged
returns-else-count-eq0-clause-damaged g c = λ least told is.
    let held = g.D.Disk.held in
    let r = c.args.rules.now in
    let format = g.R.Spelled.format r in
    let stands = g.R.Spelled.stands r in
    let damage = g.R.Spelled.damage r in
    let size = g.R.Spelled.record_length in
    let reach = c.args.reach in
    let f = is.here.0 in
    let there = is.here.1 in
    let opened = (at_file (held c.args.device.now reach.file) f there (c.requires.here told)).1 in
    let before = records_of is.files ++ all_of is.batches in
    let found = c.in_ok-count.ensures.found r told f there in
    let there' = ap (λ h. h reach.file) c.enter_batch.ensures.same ∙ there in
    if_err c.read_batch.result
    (λ e tells d same.
    scanned_records format stands (held c.args.device.now) least c.args.order.now reach.file reach.len reach.gate reach.places is f there damage size (λ item place. g.met.R.Spelled.text_length r item (format.number item place)) d c.in_ok-count.count c.requires.gate opened found.1 found.0
    (omega (arith, c.in_ok-count.ensures.few r, g.met.R.Spelled.few r)) c.in_ok-count.ensures.fits (tells d same f there'))
    (c.read_batch.ensures.damaged before (c.enter_batch.ensures.works.tells ∙ told) is.kept is.fine.in_order is.next)

pub returns-then-count-eq0-clause-there : goal.returns-then-count-eq0-clause-there
returns-then-count-eq0-clause-there g c = λ told.
    let held = g.D.Disk.held in
    let reach = c.args.reach in
    ok_both c.open_file.result (λ (next : Reach). next ≡ record { file = reach.file + 1; len = next.len; gate = 0; places = reach.places }) (λ (next : Reach). IsThere (held c.enter_batch.new.device) (reach.file + 1) (λ x. next.len ≡ length x.bytes))
    (λ (next : Reach). IsThere (held c.args.device.now) next.file (λ x. next.len ≡ length x.bytes)) c.open_file.ensures.at (c.open_file.ensures.there (c.enter_batch.ensures.works.tells ∙ told))
    (λ next at_is next_there. subst (λ (x : Reach). IsThere (held c.args.device.now) x.file (λ f. x.len ≡ length f.bytes)) (sym at_is) (subst (λ h. IsThere h (reach.file + 1) (λ x. next.len ≡ length x.bytes)) c.enter_batch.ensures.same next_there))

pub returns-else-count-eq0-clause-there : goal.returns-else-count-eq0-clause-there
returns-else-count-eq0-clause-there g c = λ told.
    let held = g.D.Disk.held in
    let here = c.requires.here told in
    if_ok c.read_batch.result (λ next at_is. subst (λ (x : Reach). IsThere (held c.args.device.now) x.file (λ f. x.len ≡ length f.bytes)) (sym at_is) (here.0, here.1, here.2.0)) c.read_batch.ensures.at

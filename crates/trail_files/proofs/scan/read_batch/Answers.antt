use Rattle.std.proofs.Common.{◌≡◌, ◌+◌, ◌*◌, ◌<◌, length, take, drop, arith, ap, sym, subst, ◌∙◌}
use Rattle.std.proofs.Math.Nat.{mul-pos}
use Rattle.std.proofs.lemmas.Result.{err_from_is_err_and}
use Rattle.trail_files.specs.Scanned.{IsDamageAmong}
use Rattle.trail_files.proofs.Scans.{at_file, batch_read}
use Rattle.trail_files.proofs.scan.read_batch.Goals as goal

pub returns-in_err-read_all-clause-damaged : goal.returns-in_err-read_all-clause-damaged
returns-in_err-read_all-clause-damaged g c = λ before told stood ordered at.
    let p = err_from_is_err_and c.from_residual.result c.from_residual.ensures.1 in
    let here = c.requires.here told in
    rw (p.1, p.2)
    (λ d e. absurd (c.in_err-read_all.ensures.undamaged told (subst (λ n. 0 < n) (sym c.split_at_mut-bytes.ensures.front_len) (mul-pos c.requires.some c.length.ensures.some)) (here.0, here.1, omega (arith, here.2, c.requires.fits, c.split_at_mut-bytes.ensures.front_len, ap (λ n. c.args.count * n) c.length.ensures.length)) d e))

pub returns-in_err-check_records-clause-damaged : goal.returns-in_err-check_records-clause-damaged
returns-in_err-check_records-clause-damaged g c = λ before told stood ordered at.
    let p = err_from_is_err_and c.from_residual-in_err-check_records.result c.from_residual-in_err-check_records.ensures.1 in
    let r = c.args.rules.now in
    let format = g.R.Spelled.format r in
    rw (p.1, p.2)
    (λ d e f there.
    let read = c.in_ok-read_all.ensures.all told f there in
    let piece : c.read_all.new.into ≡ take (c.args.count * g.R.Spelled.record_length) (drop (c.args.reach.gate + 16) f.bytes) = read.1 ∙ ap (λ n. take n (drop (c.args.reach.gate + 16) f.bytes)) (c.split_at_mut-bytes.ensures.front_len ∙ ap (λ n. c.args.count * n) c.length.ensures.length) in
    subst (λ l. IsDamageAmong format (g.R.Spelled.damage r) g.R.Spelled.record_length c.args.reach.file (c.args.reach.gate + 16) c.args.count before l d) piece (c.in_err-check_records.ensures.damaged before stood ordered (omega (arith, at)) d e))

pub returns-clause-found : goal.returns-clause-found
returns-clause-found g c = λ before told stood ordered at f there is_head.
    let r = c.args.rules.now in
    let format = g.R.Spelled.format r in
    let found = c.in_ok-check_records.ensures.found before stood ordered (omega (arith, at)) in
    let read = c.in_ok-read_all.ensures.all told f there in
    let piece : c.read_all.new.into ≡ take (c.args.count * g.R.Spelled.record_length) (drop (c.args.reach.gate + 16) f.bytes) = read.1 ∙ ap (λ n. take n (drop (c.args.reach.gate + 16) f.bytes)) (c.split_at_mut-bytes.ensures.front_len ∙ ap (λ n. c.args.count * n) c.length.ensures.length) in
    let len : c.args.reach.len ≡ length f.bytes = at_file (g.D.Disk.held c.args.device.now c.args.reach.file) f there (c.requires.here told) in (
      found.0,
      batch_read format before (c.args.reach.places + 1) c.args.reach.gate f.bytes c.args.count (c.args.count * g.R.Spelled.record_length) c.read_all.new.into found.0 c.requires.some c.requires.few is_head (omega (arith, len, c.requires.fits)) piece found.1,
      found.1.count_is,
      found.2,
    )

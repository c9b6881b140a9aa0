use Rattle.std.proofs.Common.{◌≡◌, ◌+◌, ◌*◌, ◌≤◌, length, take, drop, arith, ap, sym, ◌∙◌}
use Rattle.std.proofs.lemmas.List.{length-drop}
use Rattle.std.proofs.lemmas.Result.{err_from_is_err_and}
use Rattle.trail_files.specs.declared.damage.Damage.{Damage}
use Rattle.std.specs.Prelude.{Some}
use Rattle.trail_files.specs.declared.damage.DamageKind.TheVariants.{Short}
use Rattle.trail_files.specs.Damaged.{first_failed, head_checks}
use Rattle.trail_files.proofs.Heads.{count_of_head, batch_head, batch_short, batch_fine}
use Rattle.trail_files.proofs.Scans.{at_file}
use Rattle.trail_files.proofs.scan.enter_batch.Goals as goal

pub returns-in_err-count-clause-damaged : goal.returns-in_err-count-clause-damaged
returns-in_err-count-clause-damaged g c = λ rules told.
    let p = err_from_is_err_and c.from_residual.result c.from_residual.ensures.1 in
    let format = g.R.Spelled.format rules in
    let here = c.requires.here told in
    rw (p.1, p.2)
    (λ d e f there.
    let is : (c.args.reach.len ≡ length f.bytes) × _ = at_file (g.D.Disk.held c.args.device.now c.args.reach.file) f there here in
    let long : c.args.reach.gate + 16 ≤ length f.bytes = omega (arith, is.0, c.if-reach-lt16.false) in
    let told' = c.in_err-count.ensures.damaged told (f, there, (long, is.1)) d e f there in
    record {
      offset = told'.offset;
      file_is = told'.file_is;
      at_is = told'.at_is;
      told = batch_head format.most g.R.Spelled.record_length c.args.reach.file (drop c.args.reach.gate f.bytes) (told'.offset, d.kind) (omega (arith, long, length-drop c.args.reach.gate f.bytes))
          (ap (λ n. first_failed (head_checks n c.args.reach.file (take 16 (drop c.args.reach.gate f.bytes)))) (sym (c.most.ensures.most rules)) ∙ told'.failed);
    })

pub returns-then-reach-size-clause-damaged : goal.returns-then-reach-size-clause-damaged
returns-then-reach-size-clause-damaged g c = λ rules told d e f there.
    let format = g.R.Spelled.format rules in
    let is : (c.args.reach.len ≡ length f.bytes) × _ = at_file (g.D.Disk.held c.args.device.now c.args.reach.file) f there (c.requires.here told) in
    let bytes = drop c.args.reach.gate f.bytes in
    let found = c.in_ok-count.ensures.found told f there in
    let few = g.met.R.Spelled.few rules in
    let count = count_of_head bytes c.in_ok-count.count (omega (arith, c.in_ok-count.ensures.few, c.most.ensures.most rules, few)) found.0.parts in
    let size : c.from-2.result ≡ g.R.Spelled.record_length = c.from-2.ensures ∙ c.length.ensures.length in
    let product : c.from.result * c.from-2.result ≡ c.in_ok-count.count * g.R.Spelled.record_length = λ i. c.from.ensures i * size i in
    let d_is : d ≡ record { file = c.args.reach.file; at = c.args.reach.gate; kind = Short } = cc in
    record {
      offset = 0;
      file_is = ap (λ (x : Damage). x.file) d_is;
      at_is = omega (arith, ap (λ (x : Damage). x.at) d_is);
      told = batch_short format.most g.R.Spelled.record_length c.args.reach.file bytes c.in_ok-count.count (omega (arith, found.0.within, length-drop c.args.reach.gate f.bytes))
          (ap (λ n. first_failed (head_checks n c.args.reach.file (take 16 bytes))) (sym (c.most.ensures.most rules)) ∙ found.1) count
          (omega (arith, is.0, length-drop c.args.reach.gate f.bytes, c.if-reach-size.true, product))
          ∙ ap (λ k. Some (0, k)) (sym (ap (λ (x : Damage). x.kind) d_is));
    }

pub returns-clause-found : goal.returns-clause-found
returns-clause-found g c = λ rules told f there.
    let format = g.R.Spelled.format rules in
    let is : (c.args.reach.len ≡ length f.bytes) × _ = at_file (g.D.Disk.held c.args.device.now c.args.reach.file) f there (c.requires.here told) in
    let bytes = drop c.args.reach.gate f.bytes in
    let found = c.in_ok-count.ensures.found told f there in
    let few = g.met.R.Spelled.few rules in
    let count = count_of_head bytes c.in_ok-count.count (omega (arith, c.in_ok-count.ensures.few, c.most.ensures.most rules, few)) found.0.parts in
    let size : c.from-2.result ≡ g.R.Spelled.record_length = c.from-2.ensures ∙ c.length.ensures.length in
    let product : c.from.result * c.from-2.result ≡ c.in_ok-count.count * g.R.Spelled.record_length = λ i. c.from.ensures i * size i in (
      found.0,
      batch_fine format.most g.R.Spelled.record_length c.args.reach.file bytes c.in_ok-count.count (omega (arith, found.0.within, length-drop c.args.reach.gate f.bytes))
          (ap (λ n. first_failed (head_checks n c.args.reach.file (take 16 bytes))) (sym (c.most.ensures.most rules)) ∙ found.1) count
          (omega (arith, is.0, length-drop c.args.reach.gate f.bytes, c.if-reach-size.false, product)),
    )

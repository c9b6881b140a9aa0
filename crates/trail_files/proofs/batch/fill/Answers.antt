use Rattle.std.proofs.Common.{length, arith, ◌≡◌, ◌∷◌, [], append_assoc, sym}
use Rattle.trail_files.specs.Format.{text}
use Rattle.trail_files.specs.Text.{head, body, records_text}
use Rattle.trail_files.proofs.Texts.{one_set}
use Rattle.trail_files.proofs.batch.fill.Goals as goal

pub returns : goal.returns
unfolding body
returns g c = λ rules.
    let last : length c.split_at_mut-middle.result.1.now ≡ 1 = omega (arith, c.split_at_mut-middle.ensures.back_len, c.split_at_mut-front.ensures.back_len) in
    rw (one_set c.split_at_mut-middle.result.1.now 0 last, c.fill_head.ensures, c.fill_records.ensures rules)
    (sym (append_assoc (head (length c.args.records.now)) (records_text (text (g.R.Spelled.format rules)) c.args.place c.args.records.now) (0 ∷ [])))

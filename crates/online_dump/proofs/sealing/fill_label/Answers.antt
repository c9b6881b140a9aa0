use Rattle.std.proofs.Common.{◌≡◌, ◌++◌, List, ℕ, length, take, refl, sym, ap, subst, ◌∙◌, arith}
use Rattle.std.proofs.lemmas.List.{drop_at, take_at}
use Rattle.keyed_file.specs.LabelFormat.{dump_text}
use Rattle.keyed_file.specs.Layout.{IsSpelledAt}
use Rattle.online_dump.proofs.sealing.fill_label.Goals as goal

spelled_behind : (front text rest : List ℕ) (at : ℕ) → length front ≡ at → IsSpelledAt (front ++ (text ++ rest)) at text
spelled_behind front text rest at long = ap (take (length text)) (drop_at front (text ++ rest) at long) ∙ take_at text rest (length text) refl

pub returns-clause-spelled : goal.returns-clause-spelled
returns-clause-spelled c =
    let front : length c.fill.new.self ≡ 255 = omega (arith, c.fill.auto.self, c.split_at_mut-front.ensures.front_len) in
    subst (λ (t : List ℕ). IsSpelledAt (c.fill.new.self ++ (t ++ c.fill-2.new.self)) 255 (dump_text c.args.label.now)) (sym c.encode.ensures)
    (spelled_behind c.fill.new.self (dump_text c.args.label.now) c.fill-2.new.self 255 front)

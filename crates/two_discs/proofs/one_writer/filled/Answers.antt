use Rattle.std.proofs.Common.{[], ◌∷◌, refl, ◌∙◌}
use Rattle.trail_files.specs.Content.{no_content, with_loaded, with_landed, with_next_file}
use Rattle.audit_writer.proofs.Four.{order_two, order_three}
use Rattle.two_discs.proofs.one_writer.filled.Goals as goal

pub returns : goal.returns
returns g c =
    let files = c.args.files.now in
    let a = files.first in
    let b = files.second in
    let third = files.third in
    let at = c.requires.at in
    let t = c.in_ok-trail.ensures in
    let one = with_landed (with_loaded (a ∷ []) no_content) in
    let two = with_landed (with_loaded (b ∷ []) (with_next_file one)) in
    let three = with_landed (with_loaded (third ∷ []) (with_next_file two)) in
    let h1 = c.in_ok-land_one.ensures.holds no_content t.holds refl in
    let h2 = c.in_ok-roll.ensures.holds one h1 in
    let h3 = c.in_ok-land_one-2.ensures.holds (with_next_file one) h2 (order_two a b at.0 at.1) in
    let h4 = c.in_ok-roll-2.ensures.holds two h3 in
    let h5 = c.in_ok-land_one-3.ensures.holds (with_next_file two) h4 (order_three a b third at.0 at.1 at.2) in
    let h6 = c.in_ok-roll-3.ensures.holds three h5 in
    let k1 = c.land_one.ensures.keeps in
    let k2 = c.roll.ensures.keeps in
    let k3 = c.land_one-2.ensures.keeps in
    let k4 = c.roll-2.ensures.keeps in
    let k5 = c.land_one-3.ensures.keeps in
    let k6 = c.roll-3.ensures.keeps in
    record {
      tells = k6.device.tells ∙ k5.device.tells ∙ k4.device.tells ∙ k3.device.tells ∙ k2.device.tells ∙ k1.device.tells ∙ t.tells;
      ready = c.in_ok-roll-3.ensures.phase;
      rules = k6.rules ∙ k5.rules ∙ k4.rules ∙ k3.rules ∙ k2.rules ∙ k1.rules ∙ t.rules;
      writable = c.in_ok-roll-3.ensures.writable;
      holds = h6;
      first = at.0;
      second = at.1;
      third = at.2;
    }

use Rattle.std.proofs.Common.{◌≡◌, inl, inr, sym, ap, subst, ◌∙◌, ⊎_elim}
use Rattle.std.specs.Prelude.{IsTrue}
use Rattle.std.proofs.lemmas.Result.{on_ok_weaker}
use Rattle.keyed_file.specs.declared.label.Label.{Label}
use Rattle.block_cache.specs.Blocks.{Holds, with_low}
use Rattle.block_cache.specs.Shown.{shown_low}
use Rattle.block_cache.specs.Rewrite.{IsCalm}
use Rattle.block_cache.proofs.Lowers.{either, low-offered, low-settled, lowers}
use Rattle.block_cache.proofs.Rests.{then-rests}
use Rattle.block_cache.proofs.change.move_low.Goals as goal

pub returns-in_err-low_body-clause-kept : goal.returns-in_err-low_body-clause-kept
returns-in_err-low_body-clause-kept g c = λ landed next told holds.
    let same : c.low_body.new.self.label ≡ c.args.blocks.now.label = c.low_body.ensures.label.0 in
    let held : Holds g.D.Disk.held c.low_body.new.self landed next = c.low_body.ensures.holds landed next told holds in
    lowers g.D.Disk.held c.low_body.new.self c.args.blocks.now.label c.args.low landed next c.low_body.ensures.frame.valid.label (subst IsCalm (sym c.low_body.ensures.frame.cache) c.requires.calm)
    (λ at. ap (λ (l : Label). with_low l at) same)
    (λ image leaves. c.every_image.ensures.volume c.low_body.new.self landed next image c.low_body.ensures.frame.valid.label c.low_body.ensures.frame.valid.next_low held leaves)
    (λ image leaves. c.every_image.ensures.contents c.low_body.new.self landed next image c.low_body.ensures.frame.valid.label c.low_body.ensures.frame.valid.next_low held leaves)
    (λ image. inl (low-settled c.low_body.new.self.label_phase c.low_body.new.self.label.low c.low_body.new.self.next_low (shown_low image c.low_body.new.self) c.in_err-low_body.ensures.phase_err (c.every_image.ensures.low c.low_body.new.self image)
    ∙ ap (λ (l : Label). l.low) same))

pub returns-clause-holds : goal.returns-clause-holds
returns-clause-holds g c = λ landed next told holds. c.low_select.ensures.holds landed next (subst IsTrue (sym c.low_body.ensures.works.is_later.tells) told) (c.low_body.ensures.holds landed next told holds)

pub returns-clause-kept : goal.returns-clause-kept
returns-clause-kept g c = λ landed next told holds.
    let same : c.low_body.new.self.label ≡ c.args.blocks.now.label = c.low_body.ensures.label.0 in
    let low : c.low_body.new.self.next_low ≡ c.args.low = c.in_ok-low_body.ensures.phase.1 in
    let held : Holds g.D.Disk.held c.low_select.new.self landed next = c.low_select.ensures.holds landed next (subst IsTrue (sym c.low_body.ensures.works.is_later.tells) told) (c.low_body.ensures.holds landed next told holds) in
    lowers g.D.Disk.held c.low_select.new.self c.args.blocks.now.label c.args.low landed next c.low_select.ensures.frame.valid.label
    (subst IsCalm (sym (c.low_select.ensures.frame.cache ∙ c.low_body.ensures.frame.cache)) c.requires.calm)
    (λ at. either c.low_select.result c.low_select.ensures.label c.low_select.ensures.label_err
    (λ ok. ap (λ (l : Label). with_low l at) ok.0 ∙ ap (λ (l : Label). with_low l at) same)
    (λ err. ap (λ (l : Label). with_low l at) err.0 ∙ ap (λ (l : Label). with_low l at) same))
    (λ image leaves. c.every_image.ensures.volume c.low_select.new.self landed next image c.low_select.ensures.frame.valid.label c.low_select.ensures.frame.valid.next_low held leaves)
    (λ image leaves. c.every_image.ensures.contents c.low_select.new.self landed next image c.low_select.ensures.frame.valid.label c.low_select.ensures.frame.valid.next_low held leaves)
    (λ image.
    let may = c.every_image.ensures.low c.low_select.new.self image in
    either c.low_select.result c.low_select.ensures.label c.low_select.ensures.label_err
    (λ ok. inr (low-settled c.low_select.new.self.label_phase c.low_select.new.self.label.low c.low_select.new.self.next_low (shown_low image c.low_select.new.self) ok.1 may ∙ ap (λ (l : Label). l.low) ok.0 ∙ low))
    (λ err. ⊎_elim
    (λ old. inl (old ∙ ap (λ (l : Label). l.low) err.0 ∙ ap (λ (l : Label). l.low) same))
    (λ new. inr (new ∙ c.low_select.ensures.next_low ∙ low))
    (low-offered c.low_select.new.self.label_phase c.low_select.new.self.label.low c.low_select.new.self.next_low (shown_low image c.low_select.new.self) err.1 may)))

pub returns-clause-rests : goal.returns-clause-rests
returns-clause-rests g c = λ told. on_ok_weaker c.low_select.result
    (then-rests c.args.blocks.now.label c.low_body.new.self.label (g.D.Disk.held c.args.blocks.now.device) (g.D.Disk.held c.low_body.new.self.device) (g.D.Disk.held c.low_select.new.self.device) c.low_body.ensures.label.0
    (c.in_ok-low_body.ensures.rests told))
    (c.low_select.ensures.rests (subst IsTrue (sym c.low_body.ensures.works.is_later.tells) told))

pub returns-in_err-low_body-clause-frame : goal.returns-in_err-low_body-clause-frame
returns-in_err-low_body-clause-frame g c = c.low_body.ensures.frame

pub returns-clause-frame : goal.returns-clause-frame
returns-clause-frame g c = record {
  cache = c.low_select.ensures.frame.cache ∙ c.low_body.ensures.frame.cache;
  valid = c.low_select.ensures.frame.valid;
  others = λ told q apart. c.low_select.ensures.frame.others (subst IsTrue (sym c.low_body.ensures.works.is_later.tells) told) q apart ∙ c.low_body.ensures.frame.others told q apart;
}

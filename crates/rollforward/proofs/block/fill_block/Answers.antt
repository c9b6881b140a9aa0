use Rattle.std.proofs.Common.{◌+◌, [], drop, inl, inr, sym, subst, ◌∙◌, arith}
use Rattle.std.proofs.lemmas.List.{drop_all}
use Rattle.volume_restore.proofs.Making.{next_item}
use Rattle.rollforward.specs.Filled.{Records}
use Rattle.rollforward.proofs.Blocks.{IsFillingFrom, can-take, filled-block, filling-none, filling-pass, filling-set, not-own}
use Rattle.rollforward.proofs.block.fill_block.Goals as goal
use Rattle.rollforward.proofs.block.fill_block.Goals.{then-file-home+then-place_of-home, else-file-home, else-file-home-via-then-file-home+else-place_of-home, else-file-home-via-else-file-home}

pub loop-file-init : goal.loop-file-init
loop-file-init c = filling-none c.args.home c.args.records.now c.clear.new.self c.clear.ensures.valid c.clear.ensures.value

pub set-requires : goal.set-requires
set-requires c =
    let item = next_item c.args.records.now c.loop-file.file-index c.loop-file-item.result c.loop-file-test.true c.loop-file-item.is in
    can-take c.args.home c.args.records.now (drop (c.loop-file.file-index + 1) c.args.records.now) c.loop-file-item.result c.loop-file.block c.if-file-home.true (sym c.place_of.ensures.place ∙ c.if-place_of-home.true) c.requires.room
    (subst (λ (rest : Records). IsFillingFrom c.args.home c.args.records.now rest c.loop-file.block) item.0 c.loop-file.invariant)

pub loop-file-preserved : goal.loop-file-preserved
loop-file-preserved c =
    let item = next_item c.args.records.now c.loop-file.file-index c.loop-file-item.result c.loop-file-test.true c.loop-file-item.is in
    let rest : Records = drop (c.loop-file.file-index + 1) c.args.records.now in
    let was = subst (λ (rest : Records). IsFillingFrom c.args.home c.args.records.now rest c.loop-file.block) item.0 c.loop-file.invariant in
    elim c.if-file-home.branch [
      | then-file-home+then-place_of-home w ↦
          subst (IsFillingFrom c.args.home c.args.records.now rest) (sym w.block-is)
          (filling-set c.args.home c.args.records.now rest c.loop-file-item.result c.loop-file.block w.set.new.self w.if-file-home.true (sym w.place_of.ensures.place ∙ w.if-place_of-home.true)
          w.set.ensures.valid w.set.ensures.file w.set.ensures.number w.set.ensures.content was)
      | else-file-home w ↦
          subst (IsFillingFrom c.args.home c.args.records.now rest) (sym w.block-is)
          (filling-pass c.args.home c.args.records.now rest c.loop-file-item.result c.loop-file.block
          (elim w.else-file-home.branch [
            | else-file-home-via-then-file-home+else-place_of-home w2 ↦ inr (λ here. w2.if-place_of-home.false (w2.place_of.ensures.place ∙ here))
            | else-file-home-via-else-file-home w2 ↦ inl (not-own c.loop-file-item.result.0 c.args.home.file w2.if-file-home.false)
          ]) was)
    ]

end : (c : goal.After-loop-file) → IsFillingFrom c.args.home c.args.records.now [] c.loop-file.block
end c = subst (λ (rest : Records). IsFillingFrom c.args.home c.args.records.now rest c.loop-file.block) (drop_all c.loop-file.file-index c.args.records.now (omega (arith, c.loop-file-test.false))) c.loop-file.invariant

pub returns-clause-content : goal.returns-clause-content
returns-clause-content c = (filled-block c.args.home c.args.records.now c.loop-file.block (end c)).1

pub returns-clause-home : goal.returns-clause-home
returns-clause-home c = (filled-block c.args.home c.args.records.now c.loop-file.block (end c)).0

pub returns-clause-valid : goal.returns-clause-valid
returns-clause-valid c = (end c).valid

use Rattle.std.proofs.Common.{◌≡◌, ◌<◌, ℕ, List, Some, Vec, Global, length, get_or, refl, sym, ap, subst, ◌∙◌, arith}
use Rattle.std.specs.Prelude.{slice_get}
use Rattle.std.proofs.lemmas.Option.{slice_get_read}
use Rattle.std.proofs.lemmas.Result.{err_from_is_err_and}
use Rattle.block_cache.specs.OnePiece.{AreFileBytes}
use Rattle.keyed_file.specs.declared.home.Home.{Home}
use Rattle.volume_restore.specs.Changed.{Changes}
use Rattle.volume_restore.proofs.Passing.{bad-told, passed-until}
use Rattle.volume_restore.proofs.pass.Pass.see_blocks.Goals as goal

part-at : (parts : List Changes) (blocks number place : ℕ) (part : Changes) → length parts ≡ blocks → number < blocks → place ≡ number → part ≡ get_or parts place part → slice_get parts number ≡ Some part
part-at parts blocks number place part size within same is = slice_get_read parts (length parts) number part refl (omega (arith, size, within)) (is ∙ ap (λ (n : ℕ). get_or parts n part) same)

pub returns-in_err-seen-clause-passed : goal.returns-in_err-seen-clause-passed
returns-in_err-seen-clause-passed c = λ config volume files held is are own first.
    let number : ℕ = c.loop-number.number in
    let home : Home = record { file = c.args.first.file; number = number; blocks = c.args.first.blocks } in
    let here : AreFileBytes home held c.deref.result.now = subst (AreFileBytes home held) (sym (c.deref.ensures.value ∙ ap (λ (v : Vec ℕ Global). v.items) c.loop-number.invariant.bytes)) are in
    let at = part-at c.args.parts.now c.args.first.blocks number c.from.result c.index-parts-from.result c.requires.parts c.loop-number-test.true c.from.ensures c.index-parts-from.is in
    let p = err_from_is_err_and c.from_residual.result c.from_residual.ensures.1 in
    rw (p.1, p.2)
    (bad-told config volume files held home c.loop-number.self.full c.loop-number.self.row.items c.in_err-seen.field-0.0 is c.loop-number-test.true (c.loop-number.invariant.passed config volume files held is are own first)
    (c.in_err-seen.ensures.seen files held here (own number c.index-parts-from.result at)))

pub loop-number-preserved : goal.loop-number-preserved
loop-number-preserved c =
    let number : ℕ = c.loop-number.number in
    let home : Home = record { file = c.args.first.file; number = number; blocks = c.args.first.blocks } in
    record {
      passed = λ config volume files held is are own first.
          let here : AreFileBytes home held c.deref.result.now = subst (AreFileBytes home held) (sym (c.deref.ensures.value ∙ ap (λ (v : Vec ℕ Global). v.items) c.loop-number.invariant.bytes)) are in
          let at = part-at c.args.parts.now c.args.first.blocks number c.from.result c.index-parts-from.result c.requires.parts c.loop-number-test.true c.from.ensures c.index-parts-from.is in
          let seen = c.in_ok-seen.ensures.seen files held here (own number c.index-parts-from.result at) in
          c.in_ok-take.ensures.passed config volume c.args.position files held seen.0 is seen.1 seen.2 c.in_ok-seen.ensures.change (c.loop-number.invariant.passed config volume files held is are own first);
      named = λ config volume files held is are own named.
          let here : AreFileBytes home held c.deref.result.now = subst (AreFileBytes home held) (sym (c.deref.ensures.value ∙ ap (λ (v : Vec ℕ Global). v.items) c.loop-number.invariant.bytes)) are in
          let at = part-at c.args.parts.now c.args.first.blocks number c.from.result c.index-parts-from.result c.requires.parts c.loop-number-test.true c.from.ensures c.index-parts-from.is in
          let seen = c.in_ok-seen.ensures.seen files held here (own number c.index-parts-from.result at) in
          c.in_ok-take.ensures.named config volume c.args.position files held seen.0 is seen.2 c.in_ok-seen.ensures.change (c.loop-number.invariant.named config volume files held is are own named);
      before = λ config volume is first. c.in_ok-take.ensures.before config volume c.args.position is c.in_ok-seen.ensures.change (c.loop-number.invariant.before config volume is first);
      bytes = c.take.ensures.bytes ∙ c.loop-number.invariant.bytes;
    }

pub returns-clause-passed : goal.returns-clause-passed
returns-clause-passed c = λ config volume files held is are own first.
    passed-until config volume files held c.args.first.file c.loop-number.number c.args.first.blocks c.loop-number.self.full c.loop-number.self.row.items c.loop-number-test.false (c.loop-number.invariant.passed config volume files held is are own first)

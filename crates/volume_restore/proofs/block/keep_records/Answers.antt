use Rattle.std.proofs.Common.{◌≡◌, inr, ℕ, ◌+◌, List, Option, Some, None, drop, refl, sym, ap, subst, ◌∙◌}
use Rattle.std.specs.Prelude.{IsSome, bytes_eq, slice_get}
use Rattle.std.specs.Map.{lookup}
use Rattle.std.proofs.lemmas.Slice.Eq.{bytes_eq-Decides}
use Rattle.keyed_file.specs.Block.{IsBlock, KeyedBlock, value_at}
use Rattle.volume_restore.specs.Changed.{IsPart, change_of, changed_value, changed_values}
use Rattle.volume_restore.proofs.Making.{is_kept, is_none, kept_away, kept_here, next_item, on_err, step_left}
use Rattle.volume_restore.proofs.Parts.{is_overfull, lives_home, own_values, part_given}
use Rattle.volume_restore.proofs.block.keep_records.Goals as goal
use Rattle.volume_restore.proofs.block.keep_records.Goals.{then-not-contains_key+in_ok-give, else-not-contains_key}

pub loop-key-init : goal.loop-key-init
loop-key-init c = record {
  part = c.requires.part;
  left = λ key none some. inr (subst (λ es. IsSome (lookup (bytes_eq key) es)) (sym c.records-key-items.ensures.records) some);
  own = λ n e at. own_values c.args.block.now c.records-key-items.ensures.valid n e (subst (λ es. slice_get es n ≡ Some e) c.records-key-items.ensures.records at);
  valid = c.requires.valid;
}

pub returns-in_err-give-clause-full : goal.returns-in_err-give-clause-full
returns-in_err-give-clause-full c =
    let e = c.loop-key-item.result in
    let block = c.args.block.now in
    let values = changed_values c.args.changes.now block in
    let none : change_of c.args.changes.now e.0 ≡ None = is_none (change_of c.args.changes.now e.0) (sym c.contains_key.ensures ∙ c.if-not-contains_key.true) in
    let own : value_at block e.0 ≡ Some e.1 = c.loop-key.invariant.own c.loop-key.key-index e (next_item c.records-key-items.result.now c.loop-key.key-index e c.loop-key-test.true c.loop-key-item.is).1 in
    let is : values e.0 ≡ Some e.1 = ap (λ change. changed_value change (value_at block e.0)) none ∙ own in
    on_err c.from_residual.result
    (is_overfull c.args.home values c.loop-key.made e.0 c.loop-key.invariant.valid c.loop-key.invariant.part c.in_err-give.ensures.full.1
    (lives_home c.args.home block e.0 c.requires.home (subst IsSome (sym own) refl)) (subst IsSome (sym is) refl))

pub loop-key-preserved : goal.loop-key-preserved
loop-key-preserved c =
    let e = c.loop-key-item.result in
    let block = c.args.block.now in
    let changes = c.args.changes.now in
    let old = c.loop-key.made in
    let rest = c.records-key-items.result.now in
    let item = next_item rest c.loop-key.key-index e c.loop-key-test.true c.loop-key-item.is in
    let own : value_at block e.0 ≡ Some e.1 = c.loop-key.invariant.own c.loop-key.key-index e item.1 in
    elim c.if-not-contains_key.branch [
      | then-not-contains_key+in_ok-give w ↦
          let new = w.give.new.block in
          let none : change_of changes e.0 ≡ None = is_none (change_of changes e.0) (sym c.contains_key.ensures ∙ w.if-not-contains_key.true) in
          let given = w.in_ok-give.ensures.content in
          record {
            part = subst (IsPart c.args.home (changed_values changes block)) (sym w.made-is)
                (part_given c.args.home (changed_values changes block) old new e.0 (Some e.1) c.loop-key.invariant.part given w.in_ok-give.ensures.file w.in_ok-give.ensures.number
                (lives_home c.args.home block e.0 c.requires.home (subst IsSome (sym own) refl)) (is_kept changes block old new e none own given));
            left = λ k unchanged some. step_left k e (drop c.loop-key.key-index rest) (drop (c.loop-key.key-index + 1) rest) (value_at old k ≡ value_at block k) (value_at c.if-not-contains_key.made k ≡ value_at block k) item.0
                (λ same. ap (λ (b : KeyedBlock). value_at b k) w.made-is ∙ kept_here changes block old new e none own given k same)
                (λ apart so_far. ap (λ (b : KeyedBlock). value_at b k) w.made-is ∙ kept_away changes block old new e none own given k apart ∙ so_far)
                (c.loop-key.invariant.left k unchanged some);
            own = c.loop-key.invariant.own;
            valid = subst IsBlock (sym w.made-is) w.in_ok-give.ensures.valid;
          }
      | else-not-contains_key w ↦
          let there : IsSome (change_of changes e.0) = sym c.contains_key.ensures ∙ w.if-not-contains_key.false in
          record {
            part = subst (IsPart c.args.home (changed_values changes block)) (sym w.made-is) c.loop-key.invariant.part;
            left = λ k unchanged some. step_left k e (drop c.loop-key.key-index rest) (drop (c.loop-key.key-index + 1) rest) (value_at old k ≡ value_at block k) (value_at c.if-not-contains_key.made k ≡ value_at block k) item.0
                (λ same.
                let gone : change_of changes e.0 ≡ None = ap (change_of changes) (sym ((bytes_eq-Decides k e.0).0 same)) ∙ unchanged in
                let none : IsSome {T = Option (List ℕ)} None = subst IsSome gone there in
                absurd (cc))
                (λ _ so_far. ap (λ (b : KeyedBlock). value_at b k) w.made-is ∙ so_far)
                (c.loop-key.invariant.left k unchanged some);
            own = c.loop-key.invariant.own;
            valid = subst IsBlock (sym w.made-is) c.loop-key.invariant.valid;
          }
    ]

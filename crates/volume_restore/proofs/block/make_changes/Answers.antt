use Rattle.std.proofs.Common.{◌≡◌, inr, ℕ, suc, List, Some, refl, sym, ap, subst, ◌∙◌}
use Rattle.std.specs.Prelude.{IsSome, bytes_eq, slice_get}
use Rattle.std.specs.Map.{lookup}
use Rattle.std.proofs.lemmas.Slice.Eq.{bytes_eq-Decides}
use Rattle.tmf_model.specs.Place.{block_of}
use Rattle.keyed_file.specs.Block.{value_at}
use Rattle.volume_restore.specs.Changed.{change_of, changed_value, changed_values}
use Rattle.volume_restore.proofs.Making.{on_err, step_left, is_value, made_here, made_away, stays_made}
use Rattle.volume_restore.proofs.Parts.{change_lookup, is_overfull, own_changes, part_given}
use Rattle.volume_restore.proofs.block.make_changes.Goals as goal

pub loop-key-init : goal.loop-key-init
loop-key-init c =
    let is = c.into_iter-key-iterator.ensures.into_iter_gives ∙ c.iter-key-items.ensures.rest in
    record {
      part = c.requires.part;
      left = λ key lives some. inr (subst (λ es. IsSome (lookup (bytes_eq key) es)) (sym is) (subst IsSome (change_lookup c.args.changes.now key) some));
      stays = λ key none. refl;
      own = λ n e at. own_changes c.args.changes.now c.iter-key-items.ensures.ordered n e (subst (λ es. slice_get es n ≡ Some e) is at);
      valid = c.requires.valid;
    }

pub loop-key-preserved-in-Continue-1 : goal.loop-key-preserved-in-Continue-1
loop-key-preserved-in-Continue-1 c =
    let key = c.in-Some.key.now in
    let value = c.in-Some.value.now in
    let changes = c.args.changes.now in
    let block = c.args.block.now in
    let old = c.loop-key.made in
    let new = c.give.new.block in
    let is = c.in-Some.ensures.steps in
    let found : change_of changes key ≡ Some value = c.loop-key.invariant.own 0 (key, value) (ap (λ es. slice_get es 0) is) in
    let given = c.in_ok-give.ensures.content in
    let lives : block_of key c.args.home.blocks ≡ c.args.home.number = sym c.place_of.ensures.place ∙ c.if-place_of-home.true in
    record {
      part = part_given c.args.home (changed_values changes block) old new key value c.loop-key.invariant.part given c.in_ok-give.ensures.file c.in_ok-give.ensures.number lives
          (is_value changes block old new key value found given);
      left = λ k there some. step_left k (key, value) c.loop-key.key-iterator c.next.new.self
          ((value_at old k ≡ changed_values changes block k) × (old.position ≡ c.args.position)) ((value_at new k ≡ changed_values changes block k) × (new.position ≡ c.args.position)) is
          (λ same. (made_here changes block old new key value found given k same, c.in_ok-give.ensures.position))
          (λ apart so_far. (made_away changes block old new key value found given k apart ∙ so_far.0, c.in_ok-give.ensures.position))
          (c.loop-key.invariant.left k there some);
      stays = λ k none. stays_made changes block old new key value found given k none ∙ c.loop-key.invariant.stays k none;
      own = λ n e at. c.loop-key.invariant.own (suc n) e (ap (λ es. slice_get es (suc n)) is ∙ at);
      valid = c.in_ok-give.ensures.valid;
    }

pub returns-in_err-give-clause-full : goal.returns-in_err-give-clause-full
returns-in_err-give-clause-full c =
    let key = c.in-Some.key.now in
    let value = c.in-Some.value.now in
    let values = changed_values c.args.changes.now c.args.block.now in
    let found : change_of c.args.changes.now key ≡ Some value = c.loop-key.invariant.own 0 (key, value) (ap (λ es. slice_get es 0) c.in-Some.ensures.steps) in
    let is : values key ≡ value = ap (λ change. changed_value change (value_at c.args.block.now key)) found in
    on_err c.from_residual.result
    (is_overfull c.args.home values c.loop-key.made key c.loop-key.invariant.valid c.loop-key.invariant.part c.in_err-give.ensures.full.1 (sym c.place_of.ensures.place ∙ c.if-place_of-home.true)
    (subst IsSome (sym is) c.in_err-give.ensures.full.0))

pub loop-key-preserved : goal.loop-key-preserved
loop-key-preserved c =
    let key = c.in-Some.key.now in
    let is = c.in-Some.ensures.steps in
    record {
      part = c.loop-key.invariant.part;
      left = λ k there some. step_left k (key, c.in-Some.value.now) c.loop-key.key-iterator c.next.new.self
          ((value_at c.loop-key.made k ≡ changed_values c.args.changes.now c.args.block.now k) × (c.loop-key.made.position ≡ c.args.position))
          ((value_at c.loop-key.made k ≡ changed_values c.args.changes.now c.args.block.now k) × (c.loop-key.made.position ≡ c.args.position)) is
          (λ same. absurd (c.if-place_of-home.false (c.place_of.ensures.place ∙ ap (λ (q : List ℕ). block_of q c.args.home.blocks) (sym ((bytes_eq-Decides k key).0 same)) ∙ there)))
          (λ _ so_far. so_far) (c.loop-key.invariant.left k there some);
      stays = c.loop-key.invariant.stays;
      own = λ n e at. c.loop-key.invariant.own (suc n) e (ap (λ es. slice_get es (suc n)) is ∙ at);
      valid = c.loop-key.invariant.valid;
    }

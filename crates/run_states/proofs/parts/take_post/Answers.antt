use Rattle.std.specs.Prelude.{slice_get, slice_index_or}
use Rattle.std.proofs.Common.{◌≡◌, ◌<◌, ◌++◌, suc, List, Some, length, take, drop, map, ap, sym, subst, ◌∙◌, arith, ⊎_elim}
use Rattle.std.proofs.lemmas.Bool.Decides.{leb_tells}
use Rattle.run_states.specs.Post.{PostView}
use Rattle.run_states.proofs.Taking.{length-numbers, number_at, post_there}
use Rattle.run_states.proofs.parts.take_post.Goals as goal

pub returns-then-number-clause-taken : goal.returns-then-number-clause-taken
returns-then-number-clause-taken g c =
    let items : List PostView = c.loop-at.posts.items in
    let same : items ≡ c.args.posts.now.items = ap (λ v. v.items) c.loop-at.invariant.same in
    let few : c.loop-at.at < length items = omega (arith, c.loop-at-test.true, c.len-at-end.ensures, c.args.posts.now.ok.0, ap length same) in
    let there : slice_get items c.loop-at.at ≡ Some c.remove.result = post_there items c.loop-at.at c.remove.result few ∙ ap (λ p. Some p) (sym c.remove.ensures.value) in
    record {
      place = c.loop-at.at;
      is = subst (λ l. slice_get l c.loop-at.at ≡ Some c.remove.result) same there;
      others = subst (λ l. c.remove.new.self.items ≡ take c.loop-at.at l ++ drop (suc c.loop-at.at) l) same c.remove.ensures.items;
    }

pub loop-at-preserved : goal.loop-at-preserved
loop-at-preserved g c =
    let items : List PostView = c.loop-at.posts.items in
    let same : items ≡ c.args.posts.now.items = ap (λ v. v.items) c.loop-at.invariant.same in
    let few : c.loop-at.at < length items = omega (arith, c.loop-at-test.true, c.len-at-end.ensures, c.args.posts.now.ok.0, ap length same) in
    record {
      same = c.loop-at.invariant.same;
      none = λ k lt e. ⊎_elim
          (λ h. c.loop-at.invariant.none k h.1 e)
          (λ h.
          let here : k ≡ c.loop-at.at = omega (arith, lt, h.1) in
          let number : slice_index_or (map (λ p. p.number) items) c.loop-at.at c.args.number ≡ c.number.result =
          number_at items c.loop-at.at c.args.number c.index.result.now few ∙ ap (λ p. p.number) (sym c.index.ensures) ∙ sym c.number.ensures.number in
          c.if-number.false (sym number ∙ subst (λ n. slice_index_or (map (λ p. p.number) items) n c.args.number ≡ c.args.number) here e))
          (leb_tells (suc k) c.loop-at.at);
    }

pub unreachable-requires : goal.unreachable-requires
unreachable-requires g c =
    let r = c.requires in
    let items : List PostView = c.loop-at.posts.items in
    let same : items ≡ c.args.posts.now.items = ap (λ v. v.items) c.loop-at.invariant.same in
    let many = length-numbers c.args.posts.now.items in
    c.loop-at.invariant.none r.0 (omega (arith, r.1, many, c.loop-at-test.false, c.len-at-end.ensures, c.args.posts.now.ok.0)) (ap (λ (l : List PostView). slice_index_or (map (λ p. p.number) l) r.0 c.args.number) same ∙ r.2)

use Rattle.std.proofs.Common.{◌≡◌, ◌≤◌, ◌++◌, ◌∷◌, [], ℕ, List, length, map, sym, ap, subst, ◌∙◌, arith, ⊎_elim}
use Rattle.std.specs.List.{Contains}
use Rattle.std.proofs.lemmas.Bool.Decides.{leb_tells}
use Rattle.std.proofs.lemmas.List.Elements.{Contains-append_left, Contains-push}
use Rattle.run_states.specs.Post.{PostView, seat_tokens, tokens_of}
use Rattle.run_states.specs.Rows.{total}
use Rattle.run_states.proofs.Counting.{trail_counts}
use Rattle.run_states.proofs.Joining.{map_pushed}
use Rattle.run_states.proofs.Locking.{held_place, length-all_places}
use Rattle.run_states.proofs.Places.{length-map}
use Rattle.run_states.proofs.Taking.{posts_more}
use Rattle.run_states.proofs.stage.Stage.into_posts.Goals as goal

pub push_reserved-requires : goal.push_reserved-requires
push_reserved-requires g c =
    let s = c.args.self.rows in
    let posts : List PostView = c.into_posts-posts.result.items in
    let many : length posts ≡ total s = sym (length-map (λ (p : PostView). p.number) posts) ∙ ap length c.into_posts-posts.ensures.places ∙ length-all_places s in
    omega (arith, many, c.requires.locked.count, c.into_posts-posts.result.ok.0, c.into_posts-posts.ensures.room)

pub returns-clause-all : goal.returns-clause-all
returns-clause-all g c = λ m lt.
    let s = c.args.self.rows in
    let posts : List PostView = c.into_posts-posts.result.items in
    let post : PostView = c.of_monitor-post.result in
    let numbers : map (λ (p : PostView). p.number) c.push_reserved.new.self.items ≡ map (λ (p : PostView). p.number) posts ++ post.number ∷ [] =
    ap (λ (l : List PostView). map (λ (p : PostView). p.number) l) c.push_reserved.ensures.items ∙ map_pushed (λ (p : PostView). p.number) posts post in
    subst (λ (l : List ℕ). Contains l m) (sym numbers)
    (⊎_elim
    (λ h. Contains-append_left (map (λ (p : PostView). p.number) posts) (post.number ∷ []) m
    (subst (λ (l : List ℕ). Contains l m) (sym c.into_posts-posts.ensures.places) (held_place s m (c.requires.locked.held m h.1 lt))))
    (λ h.
    let zero : post.number ≡ m = c.of_monitor-post.ensures ∙ omega (arith, h.1) in
    subst (λ (k : ℕ). Contains (map (λ (p : PostView). p.number) posts ++ post.number ∷ []) k) zero (Contains-push (map (λ (p : PostView). p.number) posts) post.number))
    (leb_tells 1 m))

pub returns-clause-many : goal.returns-clause-many
returns-clause-many g c =
    let s = c.args.self.rows in
    let posts : List PostView = c.into_posts-posts.result.items in
    let many : length posts ≡ total s = sym (length-map (λ (p : PostView). p.number) posts) ∙ ap length c.into_posts-posts.ensures.places ∙ length-all_places s in
    omega (arith, many, c.requires.locked.count, c.into_posts-posts.result.ok.0, c.push_reserved.ensures.len)

pub returns-clause-back : goal.returns-clause-back
returns-clause-back g c =
    let posts : List PostView = c.into_posts-posts.result.items in
    let post : PostView = c.of_monitor-post.result in
    let back = c.into_posts-posts.ensures.back in
    let few : post.number ≤ 4 = omega (arith, c.of_monitor-post.ensures) in
    let none : seat_tokens post.seat ≡ 0 = trail_counts post.seat post.number c.lawful.ensures few in
    let more = posts_more posts post in
    let here = ap tokens_of c.push_reserved.ensures.items in
    record { parts = back.parts; amount = omega (arith, back.amount, none, more, here) }

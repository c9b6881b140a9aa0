use Rattle.std.proofs.Common.{◌≡◌, [], length, refl, sym, ap, ◌∙◌, arith, vec_len}
use Rattle.audit_writer.specs.Writers.{number_of as trail_number}
use Rattle.disc_lock.specs.Locks.{number_of}
use Rattle.online_dump.specs.Locks.{dumper_number}
use Rattle.run_states.specs.Post.{tokens_of}
use Rattle.run_states.specs.Rows.{RowsView, all_places}
use Rattle.run_states.proofs.Places.{gathered_places, length-map}
use Rattle.run_states.proofs.rows.Rows.into_posts.Goals as goal

pub returns-clause-places : goal.returns-clause-places
returns-clause-places g c =
    let s = c.self.inside in
    gathered_places trail_number number_of dumper_number s.trails.items s.discs.items s.dumpers.items s.alone.items c.post_trails.new.posts.items c.post_discs.new.posts.items c.post_dumpers.new.posts.items
    c.post_trails.ensures.places c.post_discs.ensures.places c.post_dumpers.ensures.places
    ∙ ap (λ (v : RowsView). all_places v) c.self.view_is

pub returns-clause-back : goal.returns-clause-back
returns-clause-back g c =
    let s = c.self.inside in
    let none : tokens_of s.alone.items ≡ 0 = c.self.invariant.4 in
    let many : length c.args.self.discs ≡ vec_len s.discs = ap (λ (v : RowsView). length v.discs) (sym c.self.view_is) ∙ length-map number_of s.discs.items ∙ sym s.discs.ok.0 in
    let back = c.post_discs.ensures.back in
    let empty : tokens_of [] ≡ 0 = refl in
    record {
      parts = omega (arith, back.parts, many);
      amount = omega (arith, back.amount, none, empty, c.post_trails.ensures.tokens, c.post_dumpers.ensures.tokens);
    }

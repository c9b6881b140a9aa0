use Rattle.std.proofs.Common.{◌≡◌, Some, refl, ap, sym, subst, ◌∙◌}
use Rattle.std.specs.BTreeMap.{get}
use Rattle.std.specs.Option.{IsSome}
use Rattle.disc_process.specs.declared.live.LiveTable.{LiveTable}
use Rattle.disc_process.specs.Live.{live_of, live_in, tx_cmp}
use Rattle.disc_process.proofs.Lives.{none_of, same_live}
use Rattle.disc_process.proofs.live.LiveTable.reserve.Goals as goal
use Rattle.disc_process.proofs.live.LiveTable.reserve.Goals.{then-not-contains_key+in_ok-insert+in-Some-1, then-not-contains_key+in_ok-insert+in-None-1, else-not-contains_key}

pub returns-in-Some-clause-same : goal.returns-in-Some-clause-same
returns-in-Some-clause-same c = λ u.
    let h = c.get_mut.follows.holds c.reserve.new.self in
    let was : get tx_cmp c.if-not-contains_key.self.live c.args.t ≡ Some c.in-Some.live.now = sym c.in-Some.ensures.value in
    let written = h.3 (subst IsSome (sym was) refl) in
    let one : live_of (record { alloc = c.if-not-contains_key.self.alloc; live = c.get_mut.follows.lender c.reserve.new.self }) u ≡ live_of c.if-not-contains_key.self u =
    same_live c.if-not-contains_key.self.live (c.get_mut.follows.lender c.reserve.new.self) c.args.t c.reserve.new.self written (c.reserve.ensures.same ∙ ap live_in (sym was)) u in
    one ∙ elim c.if-not-contains_key.branch [
      | then-not-contains_key+in_ok-insert+in-Some-1 w ↦ ap (λ (t : LiveTable). live_of t u) w.self-is ∙ same_live c.args.self.now.live w.insert.new.self c.args.t w.new.result w.in_ok-insert.ensures.updates (w.new.ensures ∙ sym (ap live_in (none_of _ (sym c.contains_key.ensures ∙ w.if-not-contains_key.true)))) u
      | then-not-contains_key+in_ok-insert+in-None-1 w ↦ ap (λ (t : LiveTable). live_of t u) w.self-is ∙ same_live c.args.self.now.live w.insert.new.self c.args.t w.new.result w.in_ok-insert.ensures.updates (w.new.ensures ∙ sym (ap live_in (none_of _ (sym c.contains_key.ensures ∙ w.if-not-contains_key.true)))) u
      | else-not-contains_key w ↦ ap (λ (t : LiveTable). live_of t u) w.self-is
    ]

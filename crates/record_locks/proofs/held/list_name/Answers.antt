use Rattle.std.specs.Prelude.{if◌then◌else◌}
use Rattle.std.proofs.Common.{◌++◌, [], ◌∷◌, Option, Some, cond, refl, ap, sym, subst, ◌∙◌}
use Rattle.std.specs.Option.{IsSome}
use Rattle.std.specs.BTreeMap.{BTreeMap, get}
use Rattle.std.specs.Ordering.{is_eq}
use Rattle.tmf_model.specs.declared.transid.Transid.{Transid}
use Rattle.record_locks.specs.declared.held.NameList.{NameList}
use Rattle.record_locks.specs.Names.{transid_cmp}
use Rattle.record_locks.specs.Tied.{names_in, names_of}
use Rattle.record_locks.proofs.Names.{transid_at, transid_back, transid_is}
use Rattle.record_locks.proofs.Ties.{on_err, listed_same, listed_more}
use Rattle.record_locks.proofs.held.list_name.Goals as goal

pub returns-in-Some-clause-unchanged : goal.returns-in-Some-clause-unchanged
returns-in-Some-clause-unchanged c =
    on_err
    c.push.result
    (λ same u.
    let was = c.in-Some.ensures.value in
    let holds = c.get_mut.follows.holds c.push.new.self in
    ap names_in ((holds.3 (subst IsSome was refl)).0 u)
    ∙ listed_same _ c.push.new.self (get transid_cmp c.args.held.now u) (λ e. same ∙ ap names_in was ∙ ap (names_of c.args.held.now) (transid_is c.args.t u (sym (transid_at c.args.t u) ∙ e))))
    c.push.ensures.unchanged

pub returns-clause-listed : goal.returns-clause-listed
returns-clause-listed c = λ u.
    let none = c.in_default.ensures.value in
    ap names_in (c.in_ok-insert.ensures.updates.0 u ∙ ap (λ (m : BTreeMap Transid NameList). cond (is_eq (transid_cmp c.args.t u)) (Some c.in_ok-of.field-0) (get transid_cmp m u)) c.get_mut.follows.holds-at-none)
    ∙ listed_more _ c.in_ok-of.field-0 (get transid_cmp c.args.held.now u) (names_of c.args.held.now c.args.t ++ c.args.name.now ∷ []) (c.in_ok-of.ensures ∙ ap (λ (o : Option NameList). names_in o ++ c.args.name.now ∷ []) none)
    ∙ ap (λ b. if b then names_of c.args.held.now c.args.t ++ c.args.name.now ∷ [] else names_of c.args.held.now u) (transid_back c.args.t u)

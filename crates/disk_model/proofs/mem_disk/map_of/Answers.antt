use Rattle.std.proofs.Common.{rules, ◌≡◌, ◌∷◌, ◌++◌, [], ap, sym, ◌∙◌, append_assoc, length, arith}
use Rattle.std.specs.Prelude.{None}
use Rattle.std.specs.Option.{option_map}
use Rattle.std.specs.Ordering.{nat_cmp}
use Rattle.std.specs.BTreeMap.{get, is_at}
use Rattle.std.specs.List.{IsDistinct}
use Rattle.std.specs.Map.{keys_of, lookup}
use Rattle.std.specs.Vec.Iter.{into_iter_items}
use Rattle.std.proofs.lemmas.Cmp.{nat_eq_equiv}
use Rattle.std.proofs.lemmas.Map.Keys.{IsDistinct-push}
use Rattle.disk_model.specs.MemDisk.{file_of}
use Rattle.disk_model.proofs.Listed.{HoldsFiles-push, Contains_from_map, absent_from_map, keys_of-push, keys_of-parts, none_from_is_some, list_any-absent, fresh-push}
use Rattle.disk_model.proofs.mem_disk.map_of.Goals as goal

pub loop-number-init : goal.loop-number-init
unfolding IsDistinct
loop-number-init c = (search rules, λ n. ap (λ l. option_map file_of (lookup (is_at (nat_cmp n)) l)) c.new-made.ensures.empty, tt, search rules, λ n. search rules)

pub returns-then-contains_key-clause-refused : goal.returns-then-contains_key-clause-refused
returns-then-contains_key-clause-refused c =
    let at = c.loop-number in
    let steps : into_iter_items at.number-iterator ≡ (c.in-Some.number, c.in-Some.bytes) ∷ into_iter_items c.next.new.self = c.in-Some.ensures.steps.0 in
    record {
      front = keys_of at.yielded;
      rest = keys_of (into_iter_items c.next.new.self);
      parts = keys_of-parts c.args.files.items at.yielded (into_iter_items c.next.new.self) c.in-Some.number c.in-Some.bytes (sym at.invariant.0 ∙ ap (λ l. at.yielded ++ l) steps);
      before = Contains_from_map at.yielded at.made c.in-Some.number at.invariant.1 (search rules);
      first = at.invariant.2;
    }

pub loop-number-preserved-in-Ok-insert-2 : goal.loop-number-preserved-in-Ok-insert-2
loop-number-preserved-in-Ok-insert-2 c =
    let at = c.loop-number in
    let steps : into_iter_items at.number-iterator ≡ (c.in-Some.number, c.in-Some.bytes) ∷ into_iter_items c.next.new.self = c.in-Some.ensures.steps.0 in
    let absent : get nat_cmp at.made c.in-Some.number ≡ None = none_from_is_some (get nat_cmp at.made c.in-Some.number) (search rules) in
    let apart = list_any-absent c.in-Some.number at.yielded (absent_from_map at.yielded at.made c.in-Some.number at.invariant.1 absent) in (
      append_assoc at.yielded ((c.in-Some.number, c.in-Some.bytes) ∷ []) _ ∙ rw (← steps) at.invariant.0,
      HoldsFiles-push at.yielded c.in-Some.number c.in-Some.bytes c.in-Ok.file at.made c.insert.new.self (search rules) absent c.in-Ok-insert.ensures.updates.0 at.invariant.1,
      rw keys_of-push (IsDistinct-push nat_eq_equiv (keys_of at.yielded) c.in-Some.number at.invariant.2 apart),
      let was = at.invariant.3 in
          let gone = c.in-Some.ensures.steps.1 in
          let short = ap length steps in
          omega arith,
      fresh-push c.in-Some.number c.in-Ok.file at.made c.insert.new.self (search rules) c.in-Ok-insert.ensures.updates.0 at.invariant.4,
    )

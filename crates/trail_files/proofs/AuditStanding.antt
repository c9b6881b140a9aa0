-- What a reader of an audit trail keeps, with one record more.
use Rattle.std.proofs.Common.{◌≡◌, ℕ, Bool, true, false, cond, List, [], ◌∷◌, ◌++◌, Option, Some, None, refl, sym, ◌∙◌}
use Rattle.std.specs.Prelude.{◌==◌, if◌then◌else◌}
use Rattle.std.specs.BTreeMap.{BTreeMap, get, is_at}
use Rattle.std.specs.Option.{option_or}
use Rattle.std.specs.Ordering.{nat_cmp}
use Rattle.trail_files.specs.declared.audit_order.AuditOrder.{AuditOrder}
use Rattle.trail_files.specs.declared.audit_record.AuditRecord.{AuditRecord}
use Rattle.trail_files.specs.AuditOrder.{position_on, last_position, audit_follows}
use Rattle.trail_files.specs.AuditStands.{AuditStands}
use Rattle.trail_files.proofs.MonitorStanding.{is_eq-nat_cmp}
use Rattle.trail_files.specs.RecordOrders.{each_follows-push, last_told-push}

newest : (here : Bool) (position : ℕ) (rest : Option ℕ) → cond here (Some position) rest ≡ option_or (if here then Some position else None) rest
newest true position rest = refl
newest false position rest = refl

pub stands_push : (order : AuditOrder) (before : List AuditRecord) (r : AuditRecord) (last : BTreeMap ℕ ℕ)
    → AuditStands order before → audit_follows before r ≡ true
    → ((q : ℕ) → get nat_cmp last q ≡ cond (is_at (nat_cmp r.disc) q) (Some r.position) (get nat_cmp order.last q))
    → AuditStands (record { last = last }) (before ++ r ∷ [])
stands_push order before r last stands follows updates = record {
  last = λ q.
      updates q
      ∙ (λ i. cond (is_eq-nat_cmp r.disc q i) (Some r.position) (stands.last q i))
      ∙ newest (r.disc == q) r.position (last_position q before)
      ∙ sym (last_told-push (position_on q) before r);
  in_order = each_follows-push audit_follows before r stands.in_order follows;
}

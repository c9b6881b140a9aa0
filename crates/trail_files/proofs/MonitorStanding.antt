-- What a reader of the monitor trail keeps, with one record more.
use Rattle.std.proofs.Common.{◌≡◌, ℕ, suc, Bool, true, false, ◌&&◌, ◌||◌, cond, List, [], ◌∷◌, ◌++◌, length, Some, None, refl, sym, ap, ◌∙◌, arith}
use Rattle.std.proofs.lemmas.Bool.{le-leb}
use Rattle.std.proofs.lemmas.Bool.Decides.{nat_tests}
use Rattle.std.proofs.lemmas.List.Folds.{list_any-append}
use Rattle.std.specs.Prelude.{◌==◌, nat_le, is_some}
use Rattle.std.specs.BTreeSet.{BTreeSet, contains}
use Rattle.std.specs.BTreeMap.{is_at}
use Rattle.std.specs.Option.{option_or}
use Rattle.std.specs.Ordering.{nat_cmp, ordering_then, is_eq}
use Rattle.std.specs.declared.cmp.Ordering.{Ordering}
use Rattle.std.specs.declared.cmp.Ordering.TheVariants.{Less, Equal, Greater}
use Rattle.tmf_model.specs.declared.transid.Transid.{Transid}
use Rattle.trail_files.specs.declared.monitor_order.MonitorOrder.{MonitorOrder}
use Rattle.trail_files.specs.declared.monitor_record.MonitorRecord.{MonitorRecord}
use Rattle.trail_files.specs.declared.monitor_record.MonitorRecord.TheVariants.{Start, Commit, Abort}
use Rattle.trail_files.specs.MonitorOrder.{begun_epoch, last_epoch, is_same_transid, is_end_of, is_ended, monitor_follows, is_monitor_order}
use Rattle.trail_files.specs.MonitorStands.{transid_cmp, MonitorStands}
use Rattle.trail_files.specs.RecordOrders.{each_follows-push, last_told-push}

is_eq-then : (a b : Ordering) → is_eq (ordering_then a b) ≡ (is_eq a && is_eq b)
is_eq-then Less b = refl
is_eq-then Equal b = refl
is_eq-then Greater b = refl

pub is_eq-nat_cmp : (x y : ℕ) → is_eq (nat_cmp x y) ≡ (x == y)
is_eq-nat_cmp x y = grind (arith, nat_tests)

is_same-transid_cmp : (a b : Transid) → is_eq (transid_cmp a b) ≡ is_same_transid a b
is_same-transid_cmp a b =
    simp (is_eq-then, is_eq-nat_cmp)

first_or : (a b : Bool) → cond a true b ≡ (b || (a || false))
first_or true true = refl
first_or true false = refl
first_or false true = refl
first_or false false = refl

or_no : (b : Bool) → b ≡ (b || false)
or_no true = refl
or_no false = refl

pub stands_begun : (order : MonitorOrder) (before : List MonitorRecord) (e : ℕ) → MonitorStands order before → monitor_follows before (Start e) ≡ true
    → MonitorStands (record { epoch = Some e; ended = order.ended }) (before ++ Start e ∷ [])
stands_begun order before e stands follows = record {
  epoch = sym (last_told-push begun_epoch before (Start e));
  ended = λ tx. stands.ended tx ∙ or_no (is_ended before tx) ∙ sym (list_any-append (is_end_of tx) before (Start e ∷ []));
  in_order = each_follows-push monitor_follows before (Start e) stands.in_order follows;
}

pub stands_ended : (order : MonitorOrder) (before : List MonitorRecord) (r : MonitorRecord) (tx : Transid) (ended : BTreeSet Transid)
    → MonitorStands order before → monitor_follows before r ≡ true → begun_epoch r ≡ None
    → ((q : Transid) → is_end_of q r ≡ is_same_transid tx q)
    → ((q : Transid) → contains transid_cmp ended q ≡ cond (is_at (transid_cmp tx) q) true (contains transid_cmp order.ended q))
    → MonitorStands (record { epoch = order.epoch; ended = ended }) (before ++ r ∷ [])
stands_ended order before r tx ended stands follows none ends updates = record {
  epoch = stands.epoch ∙ sym (last_told-push begun_epoch before r ∙ ap (λ o. option_or o (last_epoch before)) none);
  ended = λ q.
      updates q
      ∙ ap (λ b. cond b true (contains transid_cmp order.ended q)) (is_same-transid_cmp tx q ∙ sym (ends q))
      ∙ ap (λ b. cond (is_end_of q r) true b) (stands.ended q)
      ∙ first_or (is_end_of q r) (is_ended before q)
      ∙ sym (list_any-append (is_end_of q) before (r ∷ []));
  in_order = each_follows-push monitor_follows before r stands.in_order follows;
}

-- records in order have a Start where there is a record
pub has_epoch : (records : List MonitorRecord) → is_monitor_order records ≡ true → is_some (last_epoch records) ≡ nat_le 1 (length records)
has_epoch [] e = refl
has_epoch (Start epoch ∷ rs) e = elim (last_epoch rs) as (λ o. is_some (option_or o (Some epoch)) ≡ nat_le 1 (length (Start epoch ∷ rs))) [ None ↦ sym (le-leb 1 (suc (length rs)) (omega arith)) | Some x ↦ sym (le-leb 1 (suc (length rs)) (omega arith)) ]
has_epoch (Commit tx ∷ rs) e = absurd cc
has_epoch (Abort tx ∷ rs) e = absurd cc

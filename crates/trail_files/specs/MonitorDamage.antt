-- A record's bytes have no damage exactly where they spell a record that may stand there.
use Rattle.std.proofs.Common.{◌≡◌, ℕ, suc, ◌+◌, ◌<◌, ◌^◌, Bool, true, false, ◌&&◌, not, List, [], ◌∷◌, ◌++◌, length, Option, Some, None, refl, sym, ap, ◌∙◌, arith, eq-eqb, eqb-true, length-append}
use Rattle.std.proofs.Math.Nat.{mod-eq_of_lt}
use Rattle.std.proofs.lemmas.Bool.{and_parts, and_from, and_left, not-true, ne_eqb, ltb-true, lt-ltb}
use Rattle.std.proofs.lemmas.Bool.Decides.{nat_tests}
use Rattle.std.specs.Prelude.{◌%◌, ◌==◌, nat_le, slice_index, if◌then◌else◌}
use Rattle.std.specs.Option.{option_or}
use Rattle.tmf_model.specs.declared.transid.Transid.{Transid}
use Rattle.trail_files.specs.declared.damage.DamageKind.{DamageKind}
use Rattle.trail_files.specs.declared.damage.DamageKind.TheVariants.{BadRecord, Order, NoStart}
use Rattle.trail_files.specs.declared.monitor_record.MonitorRecord.{MonitorRecord}
use Rattle.trail_files.specs.declared.monitor_record.MonitorRecord.TheVariants.{Start, Commit, Abort}
use Rattle.trail_files.specs.MonitorFormat.{monitor_spelling, is_monitor_record, monitor_fields, monitor_record_at}
use Rattle.trail_files.specs.MonitorLaws.{monitor_record_at-spelling}
use Rattle.trail_files.specs.MonitorOrder.{is_ended, ends_again, monitor_follows, is_monitor_order, begins_trail, is_doubled, monitor_order_fields, are_placed, monitor_damage}
use Rattle.trail_files.specs.RecordOrder.{damage_of}
use Rattle.trail_files.specs.RecordTable.{first_bad, transid_at, number_at}
use Rattle.trail_files.specs.MonitorReading.{monitor_read, monitor_fits, number_at-spelling}
use Rattle.trail_files.specs.OrderFaults.{none_parts, no_damage}
use Rattle.trail_files.specs.RecordFields.{AreBytes, each_fits, none_bad, field_bytes}
use Rattle.trail_files.specs.RecordOrders.{follows-push}

-- the bytes spell a record that may stand behind these
pub record IsNext (before : List MonitorRecord) (bytes : List ℕ) : Type 0 where
  pub fits : first_bad (monitor_fields false bytes) ≡ None
  pub follows : monitor_follows before (monitor_record_at bytes) ≡ true
  pub placed : number_at bytes ≡ 1 + length before

pub first_place : (n place : ℕ) → place ≡ 1 + n → (n == 0) ≡ (place == 1)
first_place n place e = grind (arith, nat_tests)

ends_again_is : (before : List MonitorRecord) (starts second : Bool) (tx : Transid)
    → ends_again before (if starts then Start tx.epoch else (if second then Commit tx else Abort tx)) ≡ (not starts && is_ended before tx)
ends_again_is before true second tx = refl
ends_again_is before false true tx = refl
ends_again_is before false false tx = refl

begins : (starts second : Bool) (tx : Transid)
    → monitor_follows [] (if starts then Start tx.epoch else (if second then Commit tx else Abort tx)) ≡ true → (starts && tx.epoch == 1) ≡ true
begins true second tx e = (and_parts (tx.epoch == 1) _ e).0
begins false true tx e = absurd cc
begins false false tx e = absurd cc

-- the damage, where the trail begins as it has to
pub monitor_damage-past : (before : List MonitorRecord) (bytes : List ℕ) → (length before == 0 && not (begins_trail bytes)) ≡ false
    → monitor_damage before bytes ≡ option_or (damage_of BadRecord (first_bad (monitor_fields (is_doubled before bytes) bytes))) (damage_of Order (first_bad (monitor_order_fields before bytes)))
monitor_damage-past before bytes e = rw e refl

past_if : (wrong : Bool) (x : ℕ × DamageKind) (rest : Option (ℕ × DamageKind)) → (if wrong then Some x else rest) ≡ None → wrong ≡ false
past_if false x rest e = refl
past_if true x rest e = absurd cc

past : (before : List MonitorRecord) (bytes : List ℕ) → monitor_damage before bytes ≡ None → (length before == 0 && not (begins_trail bytes)) ≡ false
past before bytes none = past_if _ (0, NoStart) _ none

pub next_from_none : (before : List MonitorRecord) (bytes : List ℕ) → monitor_damage before bytes ≡ None → IsNext before bytes
next_from_none before bytes none =
    let parts = none_parts _ _ (sym (monitor_damage-past before bytes (past before bytes none)) ∙ none) in
    let bad = no_damage BadRecord (first_bad (monitor_fields (is_doubled before bytes) bytes)) parts.0 in
    let fit = each_fits (monitor_fields (is_doubled before bytes) bytes) bad in
    let single : is_doubled before bytes ≡ false = not-true (is_doubled before bytes) (and_parts (nat_le 1 (transid_at bytes).epoch) _ fit.1.1.0).1 in
    let order = each_fits (monitor_order_fields before bytes) (no_damage Order (first_bad (monitor_order_fields before bytes)) parts.1) in
    let again : ends_again before (monitor_record_at bytes) ≡ false = ends_again_is before (slice_index bytes 0 == 1) (slice_index bytes 0 == 2) (transid_at bytes) ∙ single in
    record {
      fits = ap (λ d. first_bad (monitor_fields d bytes)) (sym single) ∙ bad;
      follows = and_from _ _ order.0 (ap not again);
      placed = eqb-true (number_at bytes) (1 + length before) order.1.0;
    }

no_wrong_start : (before : List MonitorRecord) (bytes : List ℕ) → monitor_follows before (monitor_record_at bytes) ≡ true → (length before == 0 && not (begins_trail bytes)) ≡ false
no_wrong_start [] bytes e = ap not (begins (slice_index bytes 0 == 1) (slice_index bytes 0 == 2) (transid_at bytes) e)
no_wrong_start (r ∷ rs) bytes e = and_left _ _ (ne_eqb (suc (length rs)) 0 (λ z. omega arith))

pub none_from_next : (before : List MonitorRecord) (bytes : List ℕ) → IsNext before bytes → monitor_damage before bytes ≡ None
none_from_next before bytes next =
    let parts = and_parts _ (not (ends_again before (monitor_record_at bytes))) next.follows in
    let single : is_doubled before bytes ≡ false = sym (ends_again_is before (slice_index bytes 0 == 1) (slice_index bytes 0 == 2) (transid_at bytes)) ∙ not-true _ parts.1 in
    let order = none_bad (monitor_order_fields before bytes) (parts.0, (eq-eqb _ _ next.placed, tt)) in
    monitor_damage-past before bytes (no_wrong_start before bytes next.follows)
    ∙ (λ i. option_or (damage_of BadRecord ((ap (λ d. first_bad (monitor_fields d bytes)) single ∙ next.fits) i)) (damage_of Order (order i)))

-- a valid record that may stand there is next
pub next_from_spelling : (before : List MonitorRecord) (item : MonitorRecord) (place : ℕ) (bytes : List ℕ) → place ≡ 1 + length before → place < 2 ^ 64
    → is_monitor_record item ≡ true → bytes ≡ monitor_spelling item place → is_monitor_order (before ++ item ∷ []) ≡ true → IsNext before bytes
next_from_spelling before item place bytes is l v spelled order = record {
  fits = ap (λ b. first_bad (monitor_fields false b)) spelled ∙ monitor_fits item place v;
  follows = ap (λ b. monitor_follows before (monitor_record_at b)) spelled ∙ ap (monitor_follows before) (monitor_record_at-spelling item place v) ∙ follows-push monitor_follows before item order;
  placed = ap number_at spelled ∙ number_at-spelling item place l ∙ is;
}

-- a place that eight bytes hold
pub placed_small : (before : List MonitorRecord) (place : ℕ) (bytes : List ℕ) → AreBytes bytes → place ≡ 1 + length before → IsNext before bytes → place < 2 ^ 64
placed_small before place bytes h is next =
    let small = field_bytes 16 8 bytes h in
    omega (arith, is, next.placed, small 0, small 1, small 2, small 3, small 4, small 5, small 6, small 7)

-- records that are placed leave room for the place of the last of them
pub placed_last : (before : List MonitorRecord) (item : MonitorRecord) (place : ℕ) → place ≡ 1 + length before → are_placed (before ++ item ∷ []) ≡ true → place < 2 ^ 64
placed_last before item place is placed = omega (arith, is, length-append before (item ∷ []), ltb-true (length (before ++ item ∷ [])) (2 ^ 64) placed)

pub last_placed : (before : List MonitorRecord) (item : MonitorRecord) (place : ℕ) → place ≡ 1 + length before → place < 2 ^ 64 → are_placed (before ++ item ∷ []) ≡ true
last_placed before item place is small = lt-ltb (length (before ++ item ∷ [])) (2 ^ 64) (omega (arith, is, length-append before (item ∷ []), small))

-- a valid record that may stand behind others has no damage there
pub monitor_undamaged : (before : List MonitorRecord) (item : MonitorRecord) → is_monitor_record item ≡ true → (is_monitor_order (before ++ item ∷ []) && are_placed (before ++ item ∷ [])) ≡ true
    → monitor_damage before (monitor_spelling item ((1 + length before) % 2 ^ 64)) ≡ None
monitor_undamaged before item v order =
    let both = and_parts (is_monitor_order (before ++ item ∷ [])) _ order in
    let small = placed_last before item (1 + length before) refl both.1 in
    none_from_next before _ (next_from_spelling before item (1 + length before) _ refl small v (ap (monitor_spelling item) (mod-eq_of_lt small)) both.0)

-- what is read without damage is a valid record, spelled by these bytes
pub next_read : (before : List MonitorRecord) (place : ℕ) (bytes : List ℕ) (item : MonitorRecord) → length bytes ≡ 32 → AreBytes bytes → place ≡ 1 + length before
    → monitor_damage before bytes ≡ None → item ≡ monitor_record_at bytes → (is_monitor_record item ≡ true) × (bytes ≡ monitor_spelling item place)
next_read before place bytes item l h is none same =
    let next = next_from_none before bytes none in
    let read = monitor_read bytes l h next.fits in
    (ap is_monitor_record same ∙ read.0, read.1 ∙ (λ i. monitor_spelling (sym same i) ((next.placed ∙ sym is) i)))

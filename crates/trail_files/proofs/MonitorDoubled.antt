-- The damage of a monitor record whose attempt an earlier one has ended, beside the one that it has if none has.
use Rattle.std.proofs.Common.{◌≡◌, ℕ, Bool, true, false, ◌&&◌, not, List, [], ◌∷◌, length, Option, Some, None, refl, sym, ap, ◌∙◌}
use Rattle.std.specs.Prelude.{◌==◌, is_some, nat_le, slice_index, slice_range, if◌then◌else◌}
use Rattle.std.specs.Option.{option_or}
use Rattle.tmf_model.specs.Transid.{is_between}
use Rattle.tmf_model.specs.declared.transid.Transid.{Transid}
use Rattle.trail_files.specs.declared.damage.DamageKind.{DamageKind}
use Rattle.trail_files.specs.declared.damage.DamageKind.TheVariants.{BadRecord, Order, NoStart}
use Rattle.trail_files.specs.declared.monitor_record.MonitorRecord.{MonitorRecord}
use Rattle.trail_files.specs.declared.monitor_record.MonitorRecord.TheVariants.{Start, Commit, Abort}
use Rattle.trail_files.specs.MonitorFormat.{is_part, monitor_fields, monitor_record_at}
use Rattle.trail_files.specs.MonitorOrder.{begins_trail, is_doubled, is_ended, ends_again, monitor_order_fields, damage_if}
use Rattle.trail_files.specs.OrderFaults.{none_parts, no_damage}
use Rattle.trail_files.specs.RecordFields.{each_fits}
use Rattle.trail_files.specs.RecordOrder.{damage_of}
use Rattle.trail_files.specs.RecordTable.{first_bad, are_zero, transid_at}

again_is : (before : List MonitorRecord) (starts second : Bool) (tx : Transid)
    → ends_again before (if starts then Start tx.epoch else (if second then Commit tx else Abort tx)) ≡ (not starts && is_ended before tx)
again_is before true second tx = refl
again_is before false true tx = refl
again_is before false false tx = refl

-- the record that the bytes hold ends again what they end again
pub again_doubled : (before : List MonitorRecord) (bytes : List ℕ) → ends_again before (monitor_record_at bytes) ≡ is_doubled before bytes
again_doubled before bytes = again_is before (slice_index bytes 0 == 1) (slice_index bytes 0 == 2) (transid_at bytes)

third_bad : (a b c : Bool) (rest : List (ℕ × Bool)) → a ≡ true → b ≡ true → first_bad ((0, a) ∷ (1, b) ∷ (4, c && not true) ∷ rest) ≡ Some 4
third_bad true true true rest p q = refl
third_bad true true false rest p q = refl
third_bad true false c rest p q = absurd cc
third_bad false b c rest p q = absurd cc

some_bad : (a b c : Bool) (rest : List (ℕ × Bool)) → is_some (first_bad ((0, a) ∷ (1, b) ∷ (4, c && not true) ∷ rest)) ≡ true
some_bad true true true rest = refl
some_bad true true false rest = refl
some_bad true false c rest = refl
some_bad false b c rest = refl

-- the fields behind the epoch's
abbrev behind_epoch : List ℕ → List (ℕ × Bool)
behind_epoch bytes =
    let starts = slice_index bytes 0 == 1 in
    let tx = transid_at bytes in
    (8, is_part starts 16 tx.worker)
    ∷ (10, is_part starts 4096 tx.ordinal)
    ∷ (12, is_part starts 8 tx.attempt)
    ∷ (13, are_zero (slice_range bytes 13 16))
    ∷ (24, are_zero (slice_range bytes 24 32))
    ∷ []

-- an identifier that has ended is a fault
doubled_bad : (bytes : List ℕ) → is_some (first_bad (monitor_fields true bytes)) ≡ true
doubled_bad bytes = some_bad (is_between 1 3 (slice_index bytes 0)) (are_zero (slice_range bytes 1 4)) (nat_le 1 (transid_at bytes).epoch) (behind_epoch bytes)

some_damage : (kind : DamageKind) (bad : Option ℕ) (other : Option (ℕ × DamageKind)) → is_some bad ≡ true → is_some (option_or (damage_of kind bad) other) ≡ true
some_damage kind (Some at) other some = refl
some_damage kind None other some = absurd cc

-- so there is damage
pub doubled_damage : (bad : Option ℕ) (other : Option (ℕ × DamageKind)) (doubled : Bool) (bytes : List ℕ) → bad ≡ first_bad (monitor_fields doubled bytes)
    → doubled ≡ true → is_some (option_or (damage_of BadRecord bad) other) ≡ true
doubled_damage bad other doubled bytes is e =
    some_damage BadRecord bad other (ap (λ b. is_some b) (is ∙ ap (λ d. first_bad (monitor_fields d bytes)) e) ∙ doubled_bad bytes)

past_if : (wrong : Bool) (x : ℕ × DamageKind) (rest : Option (ℕ × DamageKind)) → (if wrong then Some x else rest) ≡ None → wrong ≡ false
past_if false x rest e = refl
past_if true x rest e = absurd cc

-- the damage, where the trail begins as it has to
pub damage_if-past : (doubled : Bool) (before : List MonitorRecord) (bytes : List ℕ) → (length before == 0 && not (begins_trail bytes)) ≡ false
    → damage_if doubled before bytes ≡ option_or (damage_of BadRecord (first_bad (monitor_fields doubled bytes))) (damage_of Order (first_bad (monitor_order_fields before bytes)))
damage_if-past doubled before bytes e = rw e refl

-- where there is no other fault, the damage is at the identifier
pub only_doubled : (before : List MonitorRecord) (bytes : List ℕ) → damage_if false before bytes ≡ None → damage_if true before bytes ≡ Some (4, BadRecord)
only_doubled before bytes none =
    let right : (length before == 0 && not (begins_trail bytes)) ≡ false = past_if _ (0, NoStart) _ none in
    let parts = none_parts _ _ (sym (damage_if-past false before bytes right) ∙ none) in
    let fit = each_fits (monitor_fields false bytes) (no_damage BadRecord (first_bad (monitor_fields false bytes)) parts.0) in
    let bad : first_bad (monitor_fields true bytes) ≡ Some 4 = third_bad (is_between 1 3 (slice_index bytes 0)) (are_zero (slice_range bytes 1 4)) (nat_le 1 (transid_at bytes).epoch) (behind_epoch bytes) fit.0 fit.1.0 in
    damage_if-past true before bytes right ∙ (ap (λ b. option_or (damage_of BadRecord b) (damage_of Order (first_bad (monitor_order_fields before bytes)))) bad)

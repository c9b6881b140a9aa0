-- The last of an audit trail's records.
use Rattle.std.specs.Prelude.{Option, Some, None, ◌==◌, ◌&&◌, Bool}
use Rattle.std.specs.Option.{option_or, option_map_or}
use Rattle.std.proofs.Common.{◌≡◌, ℕ, ◌+◌, List, [], ◌∷◌, ◌++◌, true, refl, sym, ap, ◌∙◌, append_assoc}
use Rattle.std.proofs.lemmas.Bool.{and_parts}
use Rattle.std.proofs.lemmas.List.{append-nil}
use Rattle.trail_files.specs.declared.audit_record.AuditRecord.{AuditRecord}
use Rattle.trail_files.specs.AuditOrder.{position_on, last_position, audit_follows, is_audit_order}
use Rattle.trail_files.specs.RecordOrder.{each_follows, each_follows-append, last_told}

-- what the last tells, of records behind others
last_told-append : {R X : Type 0} (tells : R → Option X) (xs ys : List R) → last_told tells (xs ++ ys) ≡ option_or (last_told tells ys) (last_told tells xs)
last_told-append tells [] ys = none_behind (last_told tells ys)
  where
    none_behind : {X : Type 0} (o : Option X) → o ≡ option_or o None
    none_behind None = refl
    none_behind (Some x) = refl
last_told-append tells (x ∷ xs) ys = ap (λ o. option_or o (tells x)) (last_told-append tells xs ys) ∙ regroup (last_told tells ys) (last_told tells xs) (tells x)
  where
    regroup : {X : Type 0} (a b c : Option X) → option_or (option_or a b) c ≡ option_or a (option_or b c)
    regroup None b c = refl
    regroup (Some x) b c = refl

-- a record that may follow records may follow the last of them
follows_last : (gone before : List AuditRecord) (r : AuditRecord) → audit_follows (gone ++ before) r ≡ true → audit_follows before r ≡ true
follows_last gone before r e = go (last_position r.disc before) (ap (λ o. option_map_or (λ last. r.position == last + 1) o true) (sym (last_told-append (position_on r.disc) gone before)) ∙ e)
  where
    go : (o : Option ℕ) → option_map_or (λ last. r.position == last + 1) (option_or o (last_position r.disc gone)) true ≡ true → option_map_or (λ last. r.position == last + 1) o true ≡ true
    go None e = refl
    go (Some p) e = e

each_last : (gone before rest : List AuditRecord) → each_follows audit_follows (gone ++ before) rest ≡ true → each_follows audit_follows before rest ≡ true
each_last gone before [] e = refl
each_last gone before (r ∷ rest) e =
    let parts = and_parts (audit_follows (gone ++ before) r) (each_follows audit_follows ((gone ++ before) ++ r ∷ []) rest) e in
    both (audit_follows before r) (each_follows audit_follows (before ++ r ∷ []) rest) (follows_last gone before r parts.0) (each_last gone (before ++ r ∷ []) rest (ap (λ l. each_follows audit_follows l rest) (sym (append_assoc gone before (r ∷ []))) ∙ parts.1))
  where
    both : (a b : Bool) → a ≡ true → b ≡ true → (a && b) ≡ true
    both a b ea eb = rw (ea, eb) refl

-- the last of records that are in order are in order
pub order_behind : (xs ys : List AuditRecord) → is_audit_order (xs ++ ys) ≡ true → is_audit_order ys ≡ true
order_behind xs ys e =
    let parts = and_parts (each_follows audit_follows [] xs) (each_follows audit_follows xs ys) (sym (each_follows-append audit_follows [] xs ys) ∙ e) in
    each_last xs [] ys (ap (λ l. each_follows audit_follows l ys) (append-nil xs) ∙ parts.1)

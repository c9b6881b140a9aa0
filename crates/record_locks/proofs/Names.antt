-- Names and identifiers are the same exactly where their orders find them equal.
use Rattle.std.proofs.Common.{◌≡◌, ℕ, ◌==◌, ◌&&◌, true, List, Option, Some, None, bytes_eq, refl, ap, sym, ◌∙◌, arith, eqb-true}
use Rattle.std.specs.Cmp.{IsTotalOrder}
use Rattle.std.specs.Cmp.Lexicographic.{slice_cmp, options_total}
use Rattle.std.specs.Option.{option_cmp, option_eq}
use Rattle.std.specs.Ordering.{nat_cmp, is_eq, ordering_then}
use Rattle.std.specs.declared.cmp.Ordering.{Ordering}
use Rattle.std.specs.declared.cmp.Ordering.TheVariants.{Less, Equal, Greater}
use Rattle.std.proofs.lemmas.Bool.{and_parts}
use Rattle.std.proofs.lemmas.Bool.Decides.{nat_tests}
use Rattle.std.proofs.lemmas.Slice.Eq.{bytes_eq-Decides}
use Rattle.std.proofs.lemmas.Cmp.{on_total, then_total, nat_cmp_total, nat_list_cmp_total, eq_by_cmp_equiv}
use Rattle.std.proofs.lemmas.Map.Text.{is_eq-slice_cmp}
use Rattle.tmf_model.specs.declared.transid.Transid.{Transid}
use Rattle.record_locks.specs.declared.name.LockName.{LockName}
use Rattle.record_locks.specs.Names.{is_same_name, is_same_transid, name_cmp, transid_cmp}

is_eq_then : (a b : Ordering) → is_eq (ordering_then a b) ≡ (is_eq a && is_eq b)
is_eq_then Less b = refl
is_eq_then Equal b = refl
is_eq_then Greater b = refl

is_eq_nat : (a b : ℕ) → is_eq (nat_cmp a b) ≡ (a == b)
is_eq_nat a b = grind (arith, nat_tests)

is_eq_key : (a b : Option (List ℕ)) → is_eq (option_cmp (slice_cmp nat_cmp) a b) ≡ option_eq bytes_eq a b
is_eq_key None None = refl
is_eq_key None (Some b) = refl
is_eq_key (Some a) None = refl
is_eq_key (Some a) (Some b) = is_eq-slice_cmp a b

-- the order finds two names equal where they are the same
pub name_at : (a b : LockName) → is_eq (name_cmp a b) ≡ is_same_name a b
name_at a b =
    is_eq_then (nat_cmp a.file b.file) (option_cmp (slice_cmp nat_cmp) a.key b.key)
    ∙ ap (λ t. t && is_eq (option_cmp (slice_cmp nat_cmp) a.key b.key)) (is_eq_nat a.file b.file)
    ∙ ap (λ t. (a.file == b.file) && t) (is_eq_key a.key b.key)

pub name_cmp_total : IsTotalOrder name_cmp
name_cmp_total = then_total (on_total (λ (n : LockName). n.file) nat_cmp_total) (on_total (λ (n : LockName). n.key) (options_total nat_list_cmp_total))

-- and the other way round
pub name_back : (a b : LockName) → is_eq (name_cmp a b) ≡ is_same_name b a
name_back a b = (eq_by_cmp_equiv name_cmp_total).symm a b ∙ name_at b a

same_key : (a b : Option (List ℕ)) → option_eq bytes_eq a b ≡ true → a ≡ b
same_key None None e = refl
same_key None (Some b) e = absurd (cc (e))
same_key (Some a) None e = absurd (cc (e))
same_key (Some a) (Some b) e = ap (λ k. Some k) ((bytes_eq-Decides a b).0 e)

-- names that are the same are one
pub name_is : (a b : LockName) → is_same_name a b ≡ true → a ≡ b
name_is a b same =
    let both = and_parts (a.file == b.file) (option_eq bytes_eq a.key b.key) same in
    let file = eqb-true a.file b.file both.0 in
    let key = same_key a.key b.key both.1 in
    λ i. record { file = file i; key = key i }

pub transid_at : (a b : Transid) → is_eq (transid_cmp a b) ≡ is_same_transid a b
transid_at a b =
    is_eq_then (nat_cmp a.epoch b.epoch) (ordering_then (nat_cmp a.worker b.worker) (ordering_then (nat_cmp a.ordinal b.ordinal) (nat_cmp a.attempt b.attempt)))
    ∙ ap (λ t. t && is_eq (ordering_then (nat_cmp a.worker b.worker) (ordering_then (nat_cmp a.ordinal b.ordinal) (nat_cmp a.attempt b.attempt)))) (is_eq_nat a.epoch b.epoch)
    ∙ ap (λ t. (a.epoch == b.epoch) && t) (is_eq_then (nat_cmp a.worker b.worker) (ordering_then (nat_cmp a.ordinal b.ordinal) (nat_cmp a.attempt b.attempt)))
    ∙ ap (λ t. (a.epoch == b.epoch) && (t && is_eq (ordering_then (nat_cmp a.ordinal b.ordinal) (nat_cmp a.attempt b.attempt)))) (is_eq_nat a.worker b.worker)
    ∙ ap (λ t. (a.epoch == b.epoch) && ((a.worker == b.worker) && t)) (is_eq_then (nat_cmp a.ordinal b.ordinal) (nat_cmp a.attempt b.attempt))
    ∙ ap (λ t. (a.epoch == b.epoch) && ((a.worker == b.worker) && (t && is_eq (nat_cmp a.attempt b.attempt)))) (is_eq_nat a.ordinal b.ordinal)
    ∙ ap (λ t. (a.epoch == b.epoch) && ((a.worker == b.worker) && ((a.ordinal == b.ordinal) && t))) (is_eq_nat a.attempt b.attempt)

pub transid_cmp_total : IsTotalOrder transid_cmp
transid_cmp_total =
    then_total (on_total (λ (t : Transid). t.epoch) nat_cmp_total)
    (then_total (on_total (λ (t : Transid). t.worker) nat_cmp_total) (then_total (on_total (λ (t : Transid). t.ordinal) nat_cmp_total) (on_total (λ (t : Transid). t.attempt) nat_cmp_total)))

pub transid_back : (a b : Transid) → is_eq (transid_cmp a b) ≡ is_same_transid b a
transid_back a b = (eq_by_cmp_equiv transid_cmp_total).symm a b ∙ transid_at b a

pub transid_symm : (a b : Transid) → is_same_transid a b ≡ is_same_transid b a
transid_symm a b = sym (transid_at a b) ∙ transid_back a b

pub transid_is : (a b : Transid) → is_same_transid a b ≡ true → a ≡ b
transid_is a b same =
    let first = and_parts (a.epoch == b.epoch) ((a.worker == b.worker) && ((a.ordinal == b.ordinal) && (a.attempt == b.attempt))) same in
    let second = and_parts (a.worker == b.worker) ((a.ordinal == b.ordinal) && (a.attempt == b.attempt)) first.1 in
    let third = and_parts (a.ordinal == b.ordinal) (a.attempt == b.attempt) second.1 in
    let epoch = eqb-true a.epoch b.epoch first.0 in
    let worker = eqb-true a.worker b.worker second.0 in
    let ordinal = eqb-true a.ordinal b.ordinal third.0 in
    let attempt = eqb-true a.attempt b.attempt third.1 in
    λ i. record { epoch = epoch i; worker = worker i; ordinal = ordinal i; attempt = attempt i }

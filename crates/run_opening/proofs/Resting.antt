-- Whether files are at rest, by a look at each of their bytes.
use Rattle.std.proofs.Common.{◌≡◌, ℕ, zero, suc, ◌+◌, ◌<◌, ◌≤◌, Bool, true, false, Option, Some, None, length, refl, subst, arith, ⊎_elim}
use Rattle.std.specs.Prelude.{◌==◌, ◌&&◌, not}
use Rattle.std.specs.Option.{option_map_or}
use Rattle.std.proofs.lemmas.Bool.{cases_lt}
use Rattle.std.proofs.lemmas.Bool.Decides.{nat_tests}
use Rattle.disk_model.specs.Held.{File, Held, IfThere}
use Rattle.trail_files.specs.Landed.{IsSettled}
use Rattle.run_opening.specs.Placed.{are_settled, is_file_settled, none_at_risk}

pub both_on : (a b : Bool) → (a && b) ≡ true → (a ≡ true) × (b ≡ true)
both_on true b is = (refl, is)
both_on false b is = absurd (cc)

pub on_both : (a b : Bool) → a ≡ true → b ≡ true → (a && b) ≡ true
on_both true b is_a is_b = is_b
on_both false b is_a is_b = absurd (cc)

not_off : (b : Bool) → not b ≡ true → b ≡ false
not_off true is = absurd (cc)
not_off false is = refl

off_not : (b : Bool) → b ≡ false → not b ≡ true
off_not true is = absurd (cc)
off_not false is = refl

none_below : (n : ℕ) (risk : ℕ → Bool) → none_at_risk n risk ≡ true → (i : ℕ) → i < n → risk i ≡ false
none_below zero risk is i lt = absurd (omega (arith, lt))
none_below (suc n) risk is i lt =
    let parts = both_on (not (risk n)) (none_at_risk n risk) is in
    ⊎_elim (λ (before : i < n). none_below n risk parts.1 i before)
    (λ (past : n ≤ i). (let here : n ≡ i = omega (arith, lt, past) in subst (λ (k : ℕ). risk k ≡ false) here (not_off (risk n) parts.0))) (cases_lt i n)

below_none : (n : ℕ) (risk : ℕ → Bool) → ((i : ℕ) → i < n → risk i ≡ false) → none_at_risk n risk ≡ true
below_none zero risk all = refl
below_none (suc n) risk all = on_both (not (risk n)) (none_at_risk n risk) (off_not (risk n) (all n (omega arith))) (below_none n risk (λ i lt. all i (omega (arith, lt))))

same_on : (a b : ℕ) → (a == b) ≡ true → a ≡ b
same_on a b is = grind (arith, nat_tests)

pub on_same : (a b : ℕ) → a ≡ b → (a == b) ≡ true
on_same a b is = grind (arith, nat_tests)

pub settled_file : (f : File) → is_file_settled f ≡ true → IsSettled f
settled_file f is =
    let parts = both_on (f.synced == length f.bytes) (none_at_risk (length f.bytes) f.risk) is in
    record { safe = none_below (length f.bytes) f.risk parts.1; synced = same_on f.synced (length f.bytes) parts.0 }

pub file_settled : (f : File) → IsSettled f → is_file_settled f ≡ true
file_settled f is = on_both (f.synced == length f.bytes) (none_at_risk (length f.bytes) f.risk) (on_same f.synced (length f.bytes) is.synced) (below_none (length f.bytes) f.risk is.safe)

pub settled_there : (o : Option File) → option_map_or is_file_settled o true ≡ true → (f : File) → o ≡ Some f → IsSettled f
settled_there o is f at = settled_file f (subst (λ (x : Option File). option_map_or is_file_settled x true ≡ true) at is)

pub there_settled : (o : Option File) → ((f : File) → o ≡ Some f → IsSettled f) → option_map_or is_file_settled o true ≡ true
there_settled None all = refl
there_settled (Some f) all = file_settled f (all f refl)

-- each file among so many is settled
pub settled_each : (held : Held) (first count : ℕ) → are_settled held first count ≡ true → (n : ℕ) → first ≤ n → n < first + count → IfThere held n IsSettled
settled_each held first zero is n le lt = absurd (omega (arith, le, lt))
settled_each held first (suc count) is n le lt =
    let parts = both_on (option_map_or is_file_settled (held first) true) (are_settled held (first + 1) count) is in
    ⊎_elim (λ (past : first < n). settled_each held (first + 1) count parts.1 n (omega (arith, past)) (omega (arith, lt)))
    (λ (here : n ≤ first). (let same : first ≡ n = omega (arith, le, here) in subst (λ (k : ℕ). IfThere held k IsSettled) same (settled_there (held first) parts.0))) (cases_lt first n)

pub each_settled : (held : Held) (first count : ℕ) → ((n : ℕ) → first ≤ n → n < first + count → IfThere held n IsSettled) → are_settled held first count ≡ true
each_settled held first zero all = refl
each_settled held first (suc count) all =
    on_both (option_map_or is_file_settled (held first) true) (are_settled held (first + 1) count) (there_settled (held first) (all first (omega arith) (omega arith)))
    (each_settled held (first + 1) count (λ n le lt. all n (omega (arith, le)) (omega (arith, lt))))

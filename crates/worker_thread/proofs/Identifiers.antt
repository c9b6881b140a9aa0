-- The identifiers of a worker's attempts.
use Rattle.std.specs.Prelude.{◌≤◌, ◌==◌, ◌&&◌, nat_le, option_and_then}
use Rattle.std.proofs.Common.{◌≡◌, inl, inr, ℕ, suc, true, Option, Some, None, refl, ap, ◌∙◌, arith}
use Rattle.std.proofs.lemmas.Bool.{and_from, eq-eqb, le-leb}
use Rattle.tmf_model.specs.Commits.{attempted, script_transaction}
use Rattle.tmf_model.specs.Transid.{is_between, is_transid}
use Rattle.tmf_model.specs.declared.script.Item.{Item}
use Rattle.tmf_model.specs.declared.script.Item.TheVariants.{Transaction as TransactionItem}
use Rattle.tmf_model.specs.declared.script.Phase.{Phase}
use Rattle.tmf_model.specs.declared.script.Transaction.{Transaction}
use Rattle.tmf_model.specs.declared.transid.Transid.{Transid}
use Rattle.node_machine.specs.Same.{IsBefore}
use Rattle.node_machine.specs.SameLaws.{case_true}
use Rattle.run_outcomes.specs.Outcomes.{first_attempt, next_attempt}
use Rattle.run_outcomes.specs.Told.{item_of}

between_so : (a b n : ℕ) → a ≤ n → n ≤ b → is_between a b n ≡ true
between_so a b n low high = and_from (nat_le a n) (nat_le n b) (le-leb a n low) (le-leb n b high)

pub transid_so : (epoch worker ordinal : ℕ) → is_between 1 4294967295 epoch ≡ true → 1 ≤ worker → worker ≤ 16 → 1 ≤ ordinal → ordinal ≤ 4096 → is_transid (first_attempt epoch worker ordinal) ≡ true
transid_so epoch worker ordinal run worker_low worker_high low high =
    and_from (is_between 1 4294967295 epoch) (is_between 1 16 worker && (is_between 1 4096 ordinal && is_between 1 8 1)) run
    (and_from (is_between 1 16 worker) (is_between 1 4096 ordinal && is_between 1 8 1) (between_so 1 16 worker worker_low worker_high)
    (and_from (is_between 1 4096 ordinal) (is_between 1 8 1) (between_so 1 4096 ordinal low high) refl))

-- what the script has for an attempt at a transaction
pub script_of : (phase : Phase) (epoch : ℕ) (t : Transid) (transaction : Transaction) → t.epoch ≡ epoch → 1 ≤ t.attempt → t.attempt ≤ transaction.attempts → item_of phase t ≡ Some (TransactionItem transaction)
    → script_transaction phase epoch t ≡ Some transaction
script_of phase epoch t transaction run low high is =
    case_true (t.epoch == epoch) (option_and_then (attempted t.attempt) (item_of phase t)) None (eq-eqb t.epoch epoch run)
    ∙ ap (λ (o : Option Item). option_and_then (attempted t.attempt) o) is
    ∙ case_true (is_between 1 transaction.attempts t.attempt) (Some transaction) None (between_so 1 transaction.attempts t.attempt low high)

-- ONE BEFORE ANOTHER

pub before_next : (t : Transid) → IsBefore t (next_attempt t)
before_next t = inr (refl, omega arith)

pub still_before : (u t : Transid) → IsBefore u t → IsBefore u (next_attempt t)
still_before u t (inl less) = inl less
still_before u t (inr same) = inr (same.0, (let less = same.1 in omega (arith, less)))

pub before_item : (u : Transid) (epoch worker ordinal : ℕ) → IsBefore u (first_attempt epoch worker ordinal) → IsBefore u (first_attempt epoch worker (suc ordinal))
before_item u epoch worker ordinal (inl less) = inl (omega (arith, less))
before_item u epoch worker ordinal (inr same) = (let is = same.0 in inl (omega (arith, is)))

-- The tokens that are dealt to the workers of a run.
use Rattle.std.specs.Prelude.{ℕ, ◌+◌, ◌≤◌}
use Rattle.std.proofs.Common.{arith}
use Rattle.std.proofs.Math.Nat.{mul-le-mul_right}
use Rattle.std.specs.declared.sync.ledger.Book.{Book}
use Rattle.std.specs.declared.sync.ledger.Share.{Share}
use Rattle.run_outcomes.specs.Reach.{first_tokens}
use Rattle.run_states.specs.Rows.{HasGivenParts}
use Rattle.run_threads.specs.Dealt.{HasDealt, MayDeal}
use Rattle.node_run.specs.Tokens.{AreHome}

module _ {L : Type 0} (discs count : ℕ) (book : Book L) where
  -- there are enough at home for the workers of a phase
  pub may_deal : (home : Share L) → discs ≤ 8 → count ≤ 16 → AreHome discs 0 book home → MayDeal count home
  may_deal home few many is = record {
    parts = (let p = is.parts in omega (arith, p, few, many));
    amount = (let a = is.amount in let le = mul-le-mul_right first_tokens many in omega (arith, a, le));
  }

  -- those that are dealt are away
  pub home_dealt : (old new : Share L) → AreHome discs 0 book old → HasDealt count old new → AreHome (discs + count) count book new
  home_dealt old new is dealt = record {
    parts = (let p = is.parts in let d = dealt.parts in omega (arith, p, d));
    amount = (let a = is.amount in let d = dealt.amount in omega (arith, a, d));
    total = is.total;
  }

-- a part of each disc is away
pub home_locked : {L : Type 0} (discs : ℕ) (book : Book L) (old new : Share L) → AreHome 0 0 book old → HasGivenParts 0 discs old new → AreHome discs 0 book new
home_locked discs book old new is given = record {
  parts = (let p = is.parts in let d = given.parts in omega (arith, p, d));
  amount = (let a = is.amount in let d = given.amount in omega (arith, a, d));
  total = is.total;
}

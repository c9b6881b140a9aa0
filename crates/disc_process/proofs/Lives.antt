-- Tables of transactions.
use Rattle.std.proofs.Common.{◌≡◌, ℕ, ◌==◌, ◌&&◌, Bool, true, false, Option, Some, None, cond, if◌then◌else◌, refl, ap, ◌∙◌}
use Rattle.std.specs.BTreeMap.{BTreeMap, get, UpdatesBy}
use Rattle.std.specs.Option.{is_some}
use Rattle.std.specs.Ordering.{nat_cmp, is_eq, ordering_then}
use Rattle.std.specs.declared.cmp.Ordering.{Ordering}
use Rattle.std.specs.declared.cmp.Ordering.TheVariants.{Less, Equal, Greater}
use Rattle.std.proofs.lemmas.Bool.Decides.{nat_tests}
use Rattle.std.proofs.Common.{arith}
use Rattle.tmf_model.specs.declared.transid.Transid.{Transid}
use Rattle.trail_files.specs.MonitorOrder.{is_same_transid}
use Rattle.node_machine.specs.SameLaws.{same_is}
use Rattle.disc_process.specs.declared.live.Live.{Live}
use Rattle.disc_process.specs.Live.{tx_cmp, live_in}

is_eq_then : (a b : Ordering) → is_eq (ordering_then a b) ≡ (is_eq a && is_eq b)
is_eq_then Less b = refl
is_eq_then Equal b = refl
is_eq_then Greater b = refl

is_eq_nat : (a b : ℕ) → is_eq (nat_cmp a b) ≡ (a == b)
is_eq_nat a b = grind (arith, nat_tests)

-- the order finds two identifiers equal where they are the same
pub tx_at : (a b : Transid) → is_eq (tx_cmp a b) ≡ is_same_transid a b
tx_at a b =
    is_eq_then (nat_cmp a.epoch b.epoch) _
    ∙ ap (λ t. is_eq (nat_cmp a.epoch b.epoch) && t) (is_eq_then (nat_cmp a.worker b.worker) _)
    ∙ ap (λ t. is_eq (nat_cmp a.epoch b.epoch) && (is_eq (nat_cmp a.worker b.worker) && t)) (is_eq_then (nat_cmp a.ordinal b.ordinal) _)
    ∙ ap (λ t. t && (is_eq (nat_cmp a.worker b.worker) && (is_eq (nat_cmp a.ordinal b.ordinal) && is_eq (nat_cmp a.attempt b.attempt)))) (is_eq_nat a.epoch b.epoch)
    ∙ ap (λ t. (a.epoch == b.epoch) && (t && (is_eq (nat_cmp a.ordinal b.ordinal) && is_eq (nat_cmp a.attempt b.attempt)))) (is_eq_nat a.worker b.worker)
    ∙ ap (λ t. (a.epoch == b.epoch) && ((a.worker == b.worker) && (t && is_eq (nat_cmp a.attempt b.attempt)))) (is_eq_nat a.ordinal b.ordinal)
    ∙ ap (λ t. (a.epoch == b.epoch) && ((a.worker == b.worker) && ((a.ordinal == b.ordinal) && t))) (is_eq_nat a.attempt b.attempt)

-- what is kept of each transaction after one entry was written
pub written_live : (m n : BTreeMap Transid Live) (t : Transid) (w : Live) → UpdatesBy tx_cmp (tx_cmp t) m n (Some w)
    → (u : Transid) → live_in (get tx_cmp n u) ≡ (if is_same_transid t u then live_in (Some w) else live_in (get tx_cmp m u))
written_live m n t w h u = ap live_in (h.0 u ∙ ap (λ b. cond b (Some w) (get tx_cmp m u)) (tx_at t u)) ∙ inside (is_same_transid t u)
  where
    inside : (b : Bool) → live_in (cond b (Some w) (get tx_cmp m u)) ≡ cond b (live_in (Some w)) (live_in (get tx_cmp m u))
    inside true = refl
    inside false = refl

-- it is as before, where the entry says the same as before
pub same_live : (m n : BTreeMap Transid Live) (t : Transid) (w : Live) → UpdatesBy tx_cmp (tx_cmp t) m n (Some w) → live_in (Some w) ≡ live_in (get tx_cmp m t)
    → (u : Transid) → live_in (get tx_cmp n u) ≡ live_in (get tx_cmp m u)
same_live m n t w h same u = written_live m n t w h u ∙ chosen (is_same_transid t u) refl
  where
    chosen : (b : Bool) → is_same_transid t u ≡ b → cond b (live_in (Some w)) (live_in (get tx_cmp m u)) ≡ live_in (get tx_cmp m u)
    chosen true e = same ∙ ap (λ (v : Transid). live_in (get tx_cmp m v)) (same_is t u e)
    chosen false e = refl

pub none_of : {A : Type 0} (o : Option A) → is_some o ≡ false → o ≡ None
none_of None h = refl
none_of (Some x) h = absurd (cc (h))

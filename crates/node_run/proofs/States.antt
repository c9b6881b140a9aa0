-- The states of all devices, of those that may be joined.
use Rattle.std.specs.Prelude.{◌≡◌, ℕ, zero, suc, ◌<◌, true, false, List, [], ◌∷◌, length, Option, slice_index_or}
use Rattle.std.specs.List.{remove}
use Rattle.std.proofs.Common.{refl, sym, ap, subst, arith}
use Rattle.disk_model.specs.declared.disk.Disk as disk
use Rattle.node_machine.specs.Opening.{Found}
use Rattle.node_machine.specs.Parts.{PartState}
use Rattle.run_opening.specs.declared.kept.Kept.{Kept}
use Rattle.run_opening.specs.declared.kept.Kept.TheVariants as kept
use Rattle.run_states.specs.Begun.{JoinsMonitor}
use Rattle.run_states.specs.States.{AreBuilt, AreStates, IsBuilt, IsMonitorOrIdle, IsStateOf, is_idle}
use Rattle.run_states.specs.declared.state.State.{State}
use Rattle.run_states.specs.declared.state.State.TheVariants.{Monitor, Writer, Disc, Dumper, Idle}
use Rattle.trail_files.specs.declared.monitor_record.MonitorRecord.{MonitorRecord}
use Rattle.node_run.specs.Building.{JoinsFirst, is_first}
use Rattle.node_run.proofs.Lists.{some_same}

-- an item that was taken from the front of a list, and what is left of it
pub taken_first : {A : Type 0} (xs ys : List A) (x : A) → 0 < length xs → x ≡ slice_index_or xs 0 x → ys ≡ remove xs 0 → xs ≡ x ∷ ys
taken_first [] ys x some is left = absurd (omega (arith, some))
taken_first (y ∷ xs) ys x some is left = cc (is, left)

module _ {D : Type 0} (kind : disk.Ghosts D) (opening : List PartState) (found : Found) (before : List MonitorRecord) (faults : ℕ → ℕ) (premise : ℕ → Type 0) (handed_in : ℕ → Option D) where
  -- the first of the devices is the monitor trail's
  pub first_is : (first : Kept D) (behind : List (Kept D)) → JoinsMonitor kind (first ∷ behind) before faults premise handed_in opening found → is_first first ≡ true
  first_is first behind joins = ap is_first (some_same first (kept.Monitor joins.0) joins.1)

  -- so it may be joined with its part's seat
  pub joins_first : (first : Kept D) (behind : List (Kept D)) → JoinsMonitor kind (first ∷ behind) before faults premise handed_in opening found → JoinsFirst kind opening found before faults premise handed_in first
  joins_first first behind joins =
      let same : first ≡ kept.Monitor joins.0 = some_same first (kept.Monitor joins.0) joins.1 in
      subst (JoinsFirst kind opening found before faults premise handed_in) (sym same) (joins.2, joins.3)

  module _ {J C Q : Type 0} where
    -- it stands alone
    pub one_state : (state : State D J C Q) → IsStateOf kind opening found faults handed_in 0 state → AreStates kind opening found faults handed_in (state ∷ [])
    one_state state is zero other at = subst (IsStateOf kind opening found faults handed_in 0) (some_same state other at) is
    one_state state is (suc n) other at = absurd (cc (at))

    built_first : (state : State D J C Q) → IsMonitorOrIdle state → is_idle state ≡ false → IsBuilt kind found handed_in 0 state
    built_first (Monitor w) which busy = refl
    built_first (Writer w) which busy = absurd which
    built_first (Disc d) which busy = absurd which
    built_first (Dumper w) which busy = absurd which
    built_first (Idle aside) which busy = absurd (cc (busy))

    pub one_built : (state : State D J C Q) → IsMonitorOrIdle state → is_idle state ≡ false → AreBuilt kind found handed_in (state ∷ [])
    one_built state which busy zero other at = subst (IsBuilt kind found handed_in 0) (some_same state other at) (built_first state which busy)
    one_built state which busy (suc n) other at = absurd (cc (at))

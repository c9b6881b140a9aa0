-- A run over devices that were opened is one over the devices as they were handed in.
use Rattle.std.specs.Prelude.{◌≡◌, ℕ, ◌<◌, ◌≤◌, List, length, Option, Some, slice_get}
use Rattle.std.specs.Option.{option_map_or}
use Rattle.std.proofs.Common.{sym, ap, subst, ◌∙◌, arith, ⊎_elim}
use Rattle.std.proofs.lemmas.Bool.{cases_lt}
use Rattle.std.proofs.lemmas.Option.{slice_get_past, slice_get_within}
use Rattle.disk_model.specs.Frame.{IsLater}
use Rattle.disk_model.specs.Held.{Held}
use Rattle.disk_model.specs.declared.disk.Disk as disk
use Rattle.node_machine.specs.Opening.{Found, opening_parts}
use Rattle.run_opening.specs.Found.{FoundLaw, found_of}
use Rattle.run_opening.specs.Kept.{device_kept}
use Rattle.run_opening.specs.Opening.{AreOpened}
use Rattle.run_opening.specs.declared.opening.Opened.{Opened}
use Rattle.run_outcomes.specs.Devices.{AreReturned, IsUntouched, told_by}
use Rattle.run_outcomes.specs.Found.{IsFoundOver}
use Rattle.run_outcomes.specs.Left.{ReturnedLaw}
use Rattle.run_outcomes.specs.Ran.{RanLaw}
use Rattle.run_outcomes.specs.Reread.{RereadLaw}
use Rattle.run_outcomes.specs.Run.{HasNotRun, HasRun, volumes_named}
use Rattle.run_outcomes.specs.declared.outcome.Outcome.{Outcome}
use Rattle.run_outcomes.specs.declared.outcome.PhaseError.TheVariants as error
use Rattle.run_states.specs.Begun.{device_in, faults_in}
use Rattle.tmf_model.specs.Config.{IsValidConfig}
use Rattle.tmf_model.specs.declared.config.Config.{Config}
use Rattle.tmf_model.specs.declared.script.Phase.{Phase}
use Rattle.node_run.specs.Closing.{IsRunOver}
use Rattle.node_run.specs.Over.{AreOpenedFor, ClosedLaw, OverLaw}
use Rattle.node_run.proofs.Kept.{are_reread, device_same, devices, devices_same, many, told_all_same, untouched_kept}
use Rattle.node_run.proofs.Lists.{item_there, mapped_at}

-- What a device that is kept has come to is what the one that was handed in has come to.
module _ {D : Type 0} (kind : disk.Ghosts D) (same_itself : (device : D) → kind.is_same device device) (same_on : (a b c : D) → kind.is_same a b → kind.is_same b c → kind.is_same a c) where
  pub later_on : (a b c : D) → IsLater kind a b → IsLater kind b c → IsLater kind a c
  later_on a b c one next = record { device = same_on a b c one.device next.device; tells = next.tells ∙ one.tells; later = omega (arith, one.later, next.later) }

  module _ (config : Config) (epoch : ℕ) (named : List ℕ) (old : List D) (opened : Opened D) (count : length old ≡ 21) (are : AreOpened kind config epoch named old opened) where
    abbrev ds : List D
    ds = devices kind same_itself config epoch named old opened count are

    untouched_at : (n : ℕ) → IsUntouched config n → slice_get ds n ≡ slice_get old n
    untouched_at n out = ⊎_elim
        (λ (lt : n < 21).
        let was = item_there old n (omega (arith, lt, count)) in
        let k = item_there opened.kept.items n (omega (arith, lt, are.count)) in
        let same = untouched_kept kind same_itself config epoch named n was.0 k.0 out (are.each n was.0 k.0 was.1 k.1).0 in
        mapped_at device_kept opened.kept.items n k.0 k.1 ∙ ap (λ (d : D). Some d) same ∙ sym was.1)
        (λ (past : 21 ≤ n).
        slice_get_past ds n (let m = many kind same_itself config epoch named old opened count are in omega (arith, past, m, count)) ∙ sym (slice_get_past old n (omega (arith, past, count))))
        (cases_lt n 21)

    -- the devices as they were opened come back
    pub closed_returned : AreReturned kind config old ds
    closed_returned = record {
      count = many kind same_itself config epoch named old opened count are;
      later = λ n before after was at. ((are_reread kind same_itself config epoch named old opened count are).each n before after was at).later;
      untouched = untouched_at;
    }

    -- so no worker has begun, where memory was wanting
    pub closed_not_run : (phase : Phase) → HasNotRun kind config phase epoch old ds error.NoMemory
    closed_not_run phase = record {
      same = λ n before after was at. ((are_reread kind same_itself config epoch named old opened count are).each n before after was at).held;
      failed = λ device is. absurd (cc (is));
      damaged = λ device damage tell is. absurd (cc (is));
    }

    -- what comes back of them comes back of the devices that were handed in
    pub returned_on : (left : List D) → AreReturned kind config ds left → AreReturned kind config old left
    returned_on left back = record {
      count = back.count ∙ many kind same_itself config epoch named old opened count are;
      later = λ n before after was at.
          let mid = item_there ds n (let lt = slice_get_within old n before was in let m = many kind same_itself config epoch named old opened count are in omega (arith, lt, m)) in
          later_on before mid.0 after (((are_reread kind same_itself config epoch named old opened count are).each n before mid.0 was mid.1).later) (back.later n mid.0 after mid.1 at);
      untouched = λ n out. back.untouched n out ∙ untouched_at n out;
    }

  pub closed_law : ClosedLaw kind
  closed_law = λ config phase epoch named old opened valid count are. (closed_not_run config epoch named old opened count are phase, closed_returned config epoch named old opened count are)

  module _ (over_found : FoundLaw kind) (ran : RanLaw kind) (reread : RereadLaw kind) (returned : ReturnedLaw kind) where
    module _ (config : Config) (phase : Phase) (epoch : ℕ) (old left : List D) (opened : Opened D) (outcomes : List Outcome) (valid : IsValidConfig config) (are : AreOpenedFor kind config phase epoch old opened)
        (over : IsRunOver kind (found_of kind config epoch opened.kept.items) phase (faults_in kind opened.kept.items) (device_in opened.kept.items) outcomes left) where
      abbrev named : List ℕ
      named = volumes_named config phase

      abbrev here : List D
      here = devices kind same_itself config epoch named old opened are.count are.are

      abbrev F : Found
      F = found_of kind config epoch opened.kept.items

      abbrev counts : ℕ → ℕ
      counts = faults_in kind opened.kept.items

      -- what was found of the devices that were handed in was found of those that were opened
      found_here : IsFoundOver config (told_by kind here) epoch F
      found_here =
          subst (λ (t : ℕ → Option Held). IsFoundOver config t epoch F) (sym (told_all_same kind same_itself config epoch named old opened are.count are.are))
          (over_found config epoch named old opened valid are.are)

      over_here : IsRunOver kind F phase counts (λ n. slice_get here n) outcomes left
      over_here = subst (λ (h : ℕ → Option D). IsRunOver kind F phase counts h outcomes left) (devices_same kind same_itself config epoch named old opened are.count are.are) over

      counts_here : (n : ℕ) (device : D) → slice_get here n ≡ Some device → counts n ≡ kind.faults device
      counts_here n device at = ap (λ (o : Option D). option_map_or kind.faults o 0) (device_same kind same_itself config epoch named old opened are.count are.are n ∙ at)

      run_here : HasRun kind config phase epoch here left outcomes
      run_here =
          ran config phase epoch here left outcomes F counts over_here.log found_here counts_here over_here.left_is
          (record { attempts = over_here.attempts; told = over_here.told; within = over_here.within; records = over_here.records })

      pub has_run : HasRun kind config phase epoch old left outcomes
      has_run = reread config phase epoch old here left outcomes (are_reread kind same_itself config epoch named old opened are.count are.are) run_here

      back_here : AreReturned kind config here left
      back_here = returned (opening_parts F) F counts over_here.log here left (many kind same_itself config epoch named old opened are.count are.are ∙ are.count) over_here.left_is

      pub come_back : AreReturned kind config old left
      come_back = returned_on config epoch named old opened are.count are.are left back_here

    pub over_law : OverLaw kind
    over_law = λ config phase epoch old left opened outcomes valid are over. (has_run config phase epoch old left opened outcomes valid are over, come_back config phase epoch old left opened outcomes valid are over)

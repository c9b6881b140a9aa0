-- What is known of the only disc: its number in a list, and what a step at it leaves.
use Rattle.std.specs.Prelude.{◌⊎◌, ◌≤◌, ◌+◌, Bool, false, if◌then◌else◌, Option, Result, Ok, Err}
use Rattle.std.specs.declared.sync.ledger.Share.{Share}
use Rattle.std.specs.Result.{is_ok}
use Rattle.std.proofs.Common.{◌≡◌, ◌<◌, ◌==◌, ℕ, inl, inr, List, [], ◌∷◌, Bor, true, map, length, get_or, refl, ap, sym, ◌∙◌, subst, arith}
use Rattle.std.specs.List.{list_any}
use Rattle.std.proofs.lemmas.List.Elements.{All-from_recursion}
use Rattle.disk_model.specs.declared.disk.Disk as disk
use Rattle.chronicle.specs.declared.run.Run as run
use Rattle.node_machine.specs.Deeds.{is_lock}
use Rattle.node_machine.specs.declared.machine.Part.{Part}
use Rattle.audit_writer.specs.declared.name.DeviceRun as device_run
use Rattle.audit_writer.specs.declared.name.NodeRun as node_run
use Rattle.disc_lock.specs.Locks.{number_of}
use Rattle.disc_lock.specs.Tokens.{HasGiven}
use Rattle.disc_lock.specs.declared.lock.DiscProcess.{DiscProcess}
use Rattle.tmf_model.specs.declared.script.Step.{Step}
use Rattle.txn_states.specs.Txn.{Txn, with_disc}
use Rattle.disc_process.specs.declared.refused.WriteRefused.{WriteRefused}
use Rattle.disc_process.specs.Disc.{DiscView}
use Rattle.disc_process.specs.Write.{IsAnswered}
use Rattle.phase_one.specs.Stopped.{HasDisc, HaveDiscs}
use Rattle.one_node.specs.OneNode.{AreOnly}

-- a step that is carried out has enlisted the disc
pub done_discs : {D : Type 0} (kind : disk.Ghosts D) (old new : DiscView D) (t_old t_new : Txn) (step : Step) (r : Result (Option (List ℕ)) WriteRefused) → IsAnswered kind old new t_old t_new step r → is_ok r ≡ true
    → t_new.discs ≡ with_disc old.part.number t_old.discs
done_discs kind old new t_old t_new step (Ok value) h ok = by (is_lock step.op) refl
  where
    by : (b : Bool) → is_lock step.op ≡ b → t_new.discs ≡ with_disc old.part.number t_old.discs
    by true is = (h.of_file is).2.worker.discs
    by false is = (h.of_key is).1.worker.discs
done_discs kind old new t_old t_new step (Err refusal) h ok = absurd (cc (ok))

-- a step takes one token at most
pub given_at_most : {L : Type 0} (acted : Bool) (old new : Share L) → HasGiven acted old new → old.amount ≤ new.amount + 1
given_at_most true old new h = (let is = h.amount in omega (arith, is))
given_at_most false old new h = (let is = h.amount in omega (arith, is))

-- it has enlisted the only disc, or none, and so it has with that disc
pub with_only : (discs : List ℕ) → AreOnly discs → AreOnly (with_disc 1 discs)
with_only discs (inl none) = inr (ap (with_disc 1) none)
with_only discs (inr one) = inr (ap (with_disc 1) one)

module _ {D J : Type 0} {d : disk.Ghosts D} {f : device_run.Ghosts J D} {g : node_run.Ghosts J} {h : run.Ghosts J Part} where
  pub only_number : (discs : List (DiscProcess D J d f g h)) (default : DiscProcess D J d f g h) → map (λ p. number_of p) discs ≡ 1 ∷ [] → number_of (get_or discs 0 default) ≡ 1
  only_number [] default is = absurd (cc (is))
  only_number (x ∷ xs) default is = cc (is)

  pub some_disc : (discs : List (DiscProcess D J d f g h)) → map (λ p. number_of p) discs ≡ 1 ∷ [] → 0 < length discs
  some_disc [] is = absurd (cc (is))
  some_disc (x ∷ xs) is = omega arith

  has_only : (discs : List (DiscProcess D J d f g h)) → map (λ p. number_of p) discs ≡ 1 ∷ [] → HasDisc discs 1
  has_only [] is = absurd (cc (is))
  has_only (x ∷ xs) is = (let one : number_of x ≡ 1 = cc (is) in rw one refl)

  have_one : (discs : List (DiscProcess D J d f g h)) (numbers : List ℕ) → map (λ p. number_of p) discs ≡ 1 ∷ [] → numbers ≡ 1 ∷ [] → HaveDiscs discs numbers
  have_one discs numbers is are = subst (λ (l : List ℕ). HaveDiscs discs l) (sym are) (All-from_recursion (λ number. HasDisc discs number) (1 ∷ []) (has_only discs is, tt))

  -- each disc that was enlisted is there
  pub have_only : (discs : List (DiscProcess D J d f g h)) (numbers : List ℕ) → map (λ p. number_of p) discs ≡ 1 ∷ [] → AreOnly numbers → HaveDiscs discs numbers
  have_only discs numbers is (inl none) = subst (λ (l : List ℕ). HaveDiscs discs l) (sym none) (All-from_recursion (λ number. HasDisc discs number) [] tt)
  have_only discs numbers is (inr one) = have_one discs numbers is one

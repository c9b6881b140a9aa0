-- The devices that are at their places, when one more is.
use Rattle.std.proofs.Common.{◌≡◌, ℕ, List, [], ◌∷◌, ◌++◌, length, Option, Some, subst}
use Rattle.std.specs.Prelude.{slice_get}
use Rattle.std.proofs.lemmas.List.Elements.{Contains-append_left, Contains-push}
use Rattle.chronicle.specs.Seats.{Sight}
use Rattle.disk_model.specs.declared.disk.Disk as disk
use Rattle.node_machine.specs.Opening.{Found}
use Rattle.node_machine.specs.Parts.{PartState}
use Rattle.node_machine.specs.declared.event.Event.{Event}
use Rattle.run_states.specs.Post.{IsDone, IsPost}
use Rattle.run_states.proofs.Lists.{last_at, still_at}

module _ {D : Type 0} (kind : disk.Ghosts D) (opening : List PartState) (found : Found) (faults : ℕ → ℕ) (handed_in : ℕ → Option D) where
  pub done_still : (ds : List D) (ss : List (Sight Event)) (device : D) (seat : Sight Event) (m : ℕ) → IsDone kind opening found faults handed_in ds ss m
      → IsDone kind opening found faults handed_in (ds ++ device ∷ []) (ss ++ seat ∷ []) m
  done_still ds ss device seat m i = record { device = i.device; seat = i.seat; at = still_at ds device i.device m i.at; has = Contains-append_left ss (seat ∷ []) i.seat i.has; post = i.post }

  pub done_here : (ds : List D) (ss : List (Sight Event)) (device : D) (seat : Sight Event) (n : ℕ) → length ds ≡ n → IsPost kind opening found faults handed_in n device seat
      → IsDone kind opening found faults handed_in (ds ++ device ∷ []) (ss ++ seat ∷ []) n
  done_here ds ss device seat n all i = record { device = device; seat = seat; at = subst (λ k. slice_get (ds ++ device ∷ []) k ≡ Some device) all (last_at ds device); has = Contains-push ss seat; post = i }

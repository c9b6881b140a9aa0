-- The states of a run's devices, when one more is joined.
use Rattle.std.specs.Prelude.{◌≡◌, ◌⊎◌, ℕ, zero, suc, ◌+◌, ◌-◌, ◌<◌, false, List, [], ◌∷◌, ◌++◌, length, map, Option, Some, slice_get, slice_index_or}
use Rattle.std.specs.List.{remove}
use Rattle.std.proofs.Common.{refl, sym, ap, subst, ◌∙◌, arith, inl, inr, ⊎_elim}
use Rattle.block_cache.specs.Blocks.{View}
use Rattle.chronicle.specs.Seats.{Sight, new_seat}
use Rattle.disc_process.specs.Device.{device_of}
use Rattle.disc_process.specs.Disc.{DiscView, IsOpening, the_disc}
use Rattle.disc_process.specs.InTime.{IsInTime}
use Rattle.disc_lock.specs.Numbered.{IsDiscOf}
use Rattle.disk_model.specs.declared.disk.Disk as disk
use Rattle.node_machine.specs.Opening.{Found}
use Rattle.node_machine.specs.Parts.{PartState}
use Rattle.node_machine.specs.declared.event.Event.{Event}
use Rattle.run_opening.specs.Kept.{start_kept}
use Rattle.run_opening.specs.declared.kept.Kept.{Kept}
use Rattle.tmf_model.specs.Config.{IsDeclared, IsWithin}
use Rattle.tmf_model.specs.declared.config.Config.{Config}
use Rattle.trail_files.specs.declared.rules.Rules.{Rules}
use Rattle.run_outcomes.specs.Devices.{part_of_device, volume_device}
use Rattle.run_states.specs.Joined.{MayAllJoin, MayJoin}
use Rattle.run_states.specs.States.{AreBuilt, AreStates, IsBuilt, IsStateOf, IsWriterOrIdle, is_idle}
use Rattle.run_states.specs.declared.state.State.{State}
use Rattle.run_states.specs.declared.state.State.TheVariants.{Monitor, Writer, Disc, Dumper, Idle}

-- an item of a list to which one is added is of that list, or the one that is added
pushed_at : {A : Type 0} (xs : List A) (y x : A) (n : ℕ) → slice_get (xs ++ y ∷ []) n ≡ Some x → (slice_get xs n ≡ Some x) ⊎ ((n ≡ length xs) × (y ≡ x))
pushed_at [] y x zero at = inr (refl, cc (at))
pushed_at [] y x (suc n) at = absurd (cc (at))
pushed_at (z ∷ xs) y x zero at = inl at
pushed_at (z ∷ xs) y x (suc n) at = ⊎_elim (λ (h : slice_get xs n ≡ Some x). inl h) (λ (h : (n ≡ length xs) × (y ≡ x)). inr (ap suc h.0, h.1)) (pushed_at xs y x n at)

pub map_pushed : {A B : Type 0} (f : A → B) (xs : List A) (y : A) → map f (xs ++ y ∷ []) ≡ map f xs ++ f y ∷ []
map_pushed f [] y = refl
map_pushed f (x ∷ xs) y = ap (λ l. f x ∷ l) (map_pushed f xs y)

pub moved : {A : Type 0} (xs ys : List A) (y : A) → (xs ++ y ∷ []) ++ ys ≡ xs ++ y ∷ ys
moved [] ys y = refl
moved (x ∷ xs) ys y = ap (λ l. x ∷ l) (moved xs ys y)

module _ {D : Type 0} (kind : disk.Ghosts D) (opening : List PartState) (found : Found) (faults : ℕ → ℕ) (handed_in : ℕ → Option D) where
  pub states_pushed : {J C Q : Type 0} (states : List (State D J C Q)) (state : State D J C Q) → AreStates kind opening found faults handed_in states
      → IsStateOf kind opening found faults handed_in (length states) state → AreStates kind opening found faults handed_in (states ++ state ∷ [])
  states_pushed {J} {C} {Q} states state are is = λ number other at. ⊎_elim
      (λ (h : slice_get states number ≡ Some other). are number other h)
      (λ (h : (number ≡ length states) × (state ≡ other)).
      subst (λ (s : State D J C Q). IsStateOf kind opening found faults handed_in number s) h.1 (subst (λ (n : ℕ). IsStateOf kind opening found faults handed_in n state) (sym h.0) is))
      (pushed_at states state other number at)

  pub built_pushed : {J C Q : Type 0} (states : List (State D J C Q)) (state : State D J C Q) → AreBuilt kind found handed_in states → IsBuilt kind found handed_in (length states) state
      → AreBuilt kind found handed_in (states ++ state ∷ [])
  built_pushed {J} {C} {Q} states state are is = λ number other at. ⊎_elim
      (λ (h : slice_get states number ≡ Some other). are number other h)
      (λ (h : (number ≡ length states) × (state ≡ other)).
      subst (λ (s : State D J C Q). IsBuilt kind found handed_in number s) h.1 (subst (λ (n : ℕ). IsBuilt kind found handed_in n state) (sym h.0) is))
      (pushed_at states state other number at)

  pub writer_built : {J C Q : Type 0} (number : ℕ) (state : State D J C Q) → IsWriterOrIdle state → IsWithin 1 4 number → IsDeclared found.config.trails number → is_idle state ≡ false
      → IsBuilt kind found handed_in number state
  writer_built number (Writer w) which within declared apart = (within, declared)
  writer_built number (Idle aside) which within declared apart = absurd (cc (apart))
  writer_built number (Monitor m) which within declared apart = absurd which
  writer_built number (Disc d) which within declared apart = absurd which
  writer_built number (Dumper w) which within declared apart = absurd which

  pub disc_state : (rules : ℕ → Rules) (config : Config) (number : ℕ) (blocks : View D) (next : ℕ) (rest : Option ℕ) (seat : Sight Event) (disc : DiscView D)
      → IsWithin 5 12 number → IsOpening kind opening found rules faults handed_in config (number - 4) blocks next rest seat → IsInTime seat
      → disc ≡ record { seat = seat; part = the_disc opening seat; blocks = blocks; handed_in = handed_in (device_of (number - 4)) }
      → (number ≡ volume_device disc.part.number) × (disc.part.events ≡ []) × IsDiscOf found disc.part.number disc
  disc_state rules config number blocks next rest seat disc within is in_time made =
      let above = within.above in
      let named = is.seat.number in
      subst (λ (d : DiscView D). (number ≡ volume_device d.part.number) × (d.part.events ≡ []) × IsDiscOf found d.part.number d) (sym made)
      (omega (arith, above, named), is.still, record { number = refl; config = is.seat.config_is ∙ sym is.is_found.config_is; in_time = in_time })

  module _ (rules : ℕ → Rules) (premise : ℕ → Type 0) (config : Config) where
    pub may_first : (first : ℕ) (kept : Kept D) (rest : List (Kept D)) → MayAllJoin kind opening found rules faults premise handed_in config first (kept ∷ rest)
        → MayJoin kind opening found rules faults premise handed_in config first (start_kept (slice_get (kept ∷ rest) 8)) (new_seat (part_of_device first)) kept
    may_first first kept rest may =
        let same : first + 0 ≡ first = omega arith in
        subst (λ (n : ℕ). MayJoin kind opening found rules faults premise handed_in config n (start_kept (slice_get (kept ∷ rest) 8)) (new_seat (part_of_device n)) kept) same (may 0 kept refl)

    pub may_rest : (first : ℕ) (kept : Kept D) (rest : List (Kept D)) → MayAllJoin kind opening found rules faults premise handed_in config first (kept ∷ rest)
        → MayAllJoin kind opening found rules faults premise handed_in config (first + 1) rest
    may_rest first kept rest may = λ place other at.
        let same : first + suc place ≡ (first + 1) + place = omega arith in
        let behind : suc place + 8 ≡ suc (place + 8) = omega arith in
        subst (λ (n : ℕ). MayJoin kind opening found rules faults premise handed_in config n (start_kept (slice_get rest (place + 8))) (new_seat (part_of_device n)) other) same
        (subst (λ (k : ℕ). MayJoin kind opening found rules faults premise handed_in config (first + suc place) (start_kept (slice_get (kept ∷ rest) k)) (new_seat (part_of_device (first + suc place))) other) behind (may (suc place) other at))

-- an item that was taken from the front of a list, and what is left of it
pub taken_first : {A : Type 0} (xs ys : List A) (x : A) → 0 < length xs → x ≡ slice_index_or xs 0 x → ys ≡ remove xs 0 → xs ≡ x ∷ ys
taken_first [] ys x some is left = absurd (omega (arith, some))
taken_first (y ∷ xs) ys x some is left = cc (is, left)

-- The states of a run's devices behind their locks, by their numbers.
use Rattle.std.specs.Prelude.{◌≡◌, ◌⊎◌, ℕ, ◌+◌, ◌-◌, ◌<◌, ◌≤◌, List, [], ◌∷◌, ◌++◌, length, map, min, IsSome}
use Rattle.std.specs.List.{Contains}
use Rattle.std.specs.declared.sync.ledger.Share.{Share}
use Rattle.node_machine.specs.Opening.{Found, each_from, found_volume}
use Rattle.run_outcomes.specs.Devices.{devices, discs, dump_device, volume_device}
use Rattle.run_states.specs.Post.{PostView, tokens_of}
use Rattle.run_states.specs.declared.state.State.{State}
use Rattle.run_states.specs.declared.state.State.TheVariants.{Monitor, Writer, Disc, Dumper, Idle}

-- what stands behind locks: the writers by the numbers of their trails, discs and dump devices by those of their volumes; and, by their own numbers, the devices that have no part of their own
pub record RowsView : Type 0 where
  pub trails : List ℕ
  pub discs : List ℕ
  pub dumpers : List ℕ
  pub alone : List ℕ

abbrev pub no_rows : RowsView
no_rows = record { trails = []; discs = []; dumpers = []; alone = [] }

-- how many devices that are
abbrev pub total : RowsView → ℕ
total s = ((length s.trails + length s.discs) + length s.dumpers) + length s.alone

-- what stands there when the state of the device with this number does too
abbrev pub with_state : {D J C Q : Type 0} → ℕ → State D J C Q → RowsView → RowsView
with_state number (Monitor m) s = s
with_state number (Writer w) s = record s { trails = s.trails ++ number ∷ [] }
with_state number (Disc d) s = record s { discs = s.discs ++ (number - 4) ∷ [] }
with_state number (Dumper w) s = record s { dumpers = s.dumpers ++ (number - 12) ∷ [] }
with_state number (Idle aside) s = record s { alone = s.alone ++ number ∷ [] }

-- the share has given one part to each disc that is there now and was not before, and no token
pub record HasGivenParts {L : Type 0} (before after : ℕ) (old new : Share L) : Type 0 where
  pub parts : new.parts + after ≡ old.parts + before
  pub amount : new.amount ≡ old.amount

-- The share has one part back from each of so many discs, and the tokens of what they have had: as many as the devices of these count more.
pub record HasTakenBack {L : Type 0} (discs : ℕ) (before after : List PostView) (old new : Share L) : Type 0 where
  pub parts : new.parts ≡ old.parts + discs
  pub amount : new.amount + tokens_of before ≡ old.amount + tokens_of after

-- the device with this number has its place there: that of a trail, of a volume, of the dumps of one, or it has no part of its own
abbrev pub IsHeld : RowsView → ℕ → Type 0
IsHeld s number =
    Contains s.trails number
    ⊎ ((volume : ℕ) × Contains s.discs volume × (number ≡ volume_device volume))
    ⊎ ((volume : ℕ) × Contains s.dumpers volume × (number ≡ dump_device volume))
    ⊎ Contains s.alone number

-- The devices from 1 up to this number stand there, each once: the writers of the trails in order, and a disc and a dump device for each volume that was found.
pub record AreLockedUpTo (found : Found) (next : ℕ) (s : RowsView) : Type 0 where
  pub trails_are : s.trails ≡ each_from (λ k. k) 1 (min (next - 1) (length found.config.trails))
  pub discs_are : (volume : ℕ) → IsSome (found_volume found volume) → volume_device volume < next → Contains s.discs volume
  pub dumpers_are : (volume : ℕ) → IsSome (found_volume found volume) → dump_device volume < next → Contains s.dumpers volume
  pub held : (number : ℕ) → 1 ≤ number → number < next → IsHeld s number
  pub count : total s + 1 ≡ next
  pub few : (length s.discs ≤ next - 5) × (length s.discs ≤ discs)

-- So do all of a node but for the monitor trail's.
pub record AreLocked (found : Found) (s : RowsView) : Type 0 where
  pub trails_are : s.trails ≡ each_from (λ k. k) 1 (length found.config.trails)
  pub discs_are : (volume : ℕ) → IsSome (found_volume found volume) → Contains s.discs volume
  pub dumpers_are : (volume : ℕ) → IsSome (found_volume found volume) → Contains s.dumpers volume
  pub held : (number : ℕ) → 1 ≤ number → number < devices → IsHeld s number
  pub count : total s + 1 ≡ devices
  pub few : length s.discs ≤ discs

-- the numbers of all these devices, in the order in which they are given back
abbrev pub all_places : RowsView → List ℕ
all_places s = ((s.alone ++ s.trails) ++ map (λ volume. volume_device volume) s.discs) ++ map (λ volume. dump_device volume) s.dumpers

-- A disc from behind its lock is one of the run.
use Rattle.std.specs.Prelude.{◌≡◌, ℕ, ◌≤◌, List, [], ◌∷◌, length, map, filter, Option, Some, None, IsSome, slice_get}
use Rattle.std.proofs.Common.{refl, sym, ap, subst, ◌∙◌, arith}
use Rattle.chronicle.specs.Histories.{states_after}
use Rattle.chronicle.specs.Seats.{state_of}
use Rattle.disc_lock.specs.Numbered.{IsDiscOf}
use Rattle.disc_process.proofs.Opening.{homes_of}
use Rattle.disc_process.specs.Device.{HoldsDevice, device_of, failures}
use Rattle.disc_process.specs.Disc.{DiscView}
use Rattle.disc_process.specs.Later.{IsLawful}
use Rattle.disk_model.specs.declared.disk.Disk as disk
use Rattle.node_machine.specs.Node.{node}
use Rattle.node_machine.specs.Opening.{Found, VolumeFound, disc_part, found_volume, opening_parts}
use Rattle.node_machine.specs.Parts.{DiscPart, Entry, PartState}
use Rattle.node_machine.specs.Parts.PartState.{Disc, Idle}
use Rattle.node_machine.specs.declared.event.DiscEvent.{DiscEvent}
use Rattle.node_machine.specs.declared.event.DiscEvent.TheVariants as did
use Rattle.node_machine.specs.declared.event.Event.TheVariants.{OfDisc}
use Rattle.trail_files.specs.StandsFor.{Base}
use Rattle.run_outcomes.specs.Devices.{told_in, volume_device}
use Rattle.run_outcomes.specs.Ends.{is_failure}
use Rattle.run_outcomes.specs.Found.{ToldBase}
use Rattle.run_outcomes.specs.Run.{RoseBy}
use Rattle.run_states.specs.DiscPost.{IsOfRun}
use Rattle.run_states.specs.Volumes.{AreVolumesNamed}
use Rattle.run_states.proofs.InHistory.{disc_in, lost_disc}
use Rattle.run_states.proofs.Rises.{rose_by}

disc_failures : (events : List DiscEvent) → length (filter is_failure (map (λ e. OfDisc e) events)) ≡ failures events
disc_failures [] = refl
disc_failures (did.Write record_ op ∷ events) = disc_failures events
disc_failures (did.Read t file key value ∷ events) = disc_failures events
disc_failures (did.Lock t file ∷ events) = disc_failures events
disc_failures (did.Turn t cause ∷ events) = disc_failures events
disc_failures (did.Undo record_ ∷ events) = disc_failures events
disc_failures (did.Close t ∷ events) = disc_failures events
disc_failures (did.Release t ∷ events) = disc_failures events
disc_failures (did.Draw file block position ∷ events) = disc_failures events
disc_failures (did.Drawn file block ∷ events) = disc_failures events
disc_failures (did.Low position by ∷ events) = disc_failures events
disc_failures (did.Lowered ∷ events) = disc_failures events
disc_failures (did.Start number start t ∷ events) = disc_failures events
disc_failures (did.Raise number rest ∷ events) = disc_failures events
disc_failures (did.Failed by ∷ events) = (let rest = disc_failures events in omega (arith, rest))

module _ {D : Type 0} (kind : disk.Ghosts D) (opening : List PartState) (found : Found) (faults : ℕ → ℕ) (premise : ℕ → Type 0) (handed_in : ℕ → Option D) (volume : ℕ) (disc : DiscView D)
    (named : AreVolumesNamed kind opening found premise handed_in) (of_volume : IsDiscOf found volume disc) (lawful : IsLawful kind opening disc)
    (holds : HoldsDevice kind (handed_in (device_of disc.part.number)) (faults (device_of disc.part.number)) disc.blocks.device disc.part.events) where
  abbrev number : ℕ
  number = disc.part.number

  some : 1 ≤ number
  some = lawful.declared.above

  few : number ≤ 8
  few = (let declared = lawful.declared.below in let most = lawful.valid.volumes.few in omega (arith, declared, most))

  here : slice_get (states_after node (opening_parts found) disc.seat.seen) (disc_part number) ≡ Some (Disc disc.part)
  here =
      subst (λ (o : List PartState). slice_get (states_after node o disc.seat.seen) (disc_part number) ≡ Some (Disc disc.part)) named.opens
      (subst (λ (p : Option ℕ). state_of (states_after node opening disc.seat.seen) p ≡ Some (Disc disc.part)) lawful.place lawful.at)

  based : (base : Option Base) → ToldBase found.config (told_in kind handed_in) number base → (entry : Option VolumeFound) → found_volume found number ≡ entry → IsSome base × IsSome disc.part.base
  based base told None none = absurd (let idle : Some Idle ≡ Some (Disc disc.part) = sym (lost_disc found disc.seat.seen number some few none) ∙ here in cc (idle))
  based base told (Some entry) is =
      let still = disc_in found disc.seat.seen number entry some few is in
      let both : Some (Disc still.now) ≡ Some (Disc disc.part) = sym still.at ∙ here in
      let same : still.now ≡ disc.part = cc (both) in
      let known = named.based number entry base is told in
      (known.0, subst (λ (o : Option (List Entry)). IsSome o) (sym still.base ∙ ap (λ (s : DiscPart). s.base) same) known.1)

  pub is_of_run : IsOfRun kind found faults handed_in disc
  is_of_run = record {
    config = of_volume.config;
    number = record { above = some; below = few };
    homes = λ file on. homes_of disc.part.config number file lawful.valid some on;
    label = lawful.label;
    device = holds.handed;
    rise = subst (λ (n : ℕ). RoseBy n (faults (volume_device number)) (kind.faults disc.blocks.device)) (sym (disc_failures disc.part.events))
        (rose_by (failures disc.part.events) (faults (volume_device number)) (kind.faults disc.blocks.device) holds.rise);
    told = λ base told. based base told (found_volume found number) refl;
  }

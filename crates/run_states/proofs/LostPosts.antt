-- What a run needs of the devices of a volume that was lost.
use Rattle.std.specs.Prelude.{◌≡◌, ℕ, ◌-◌, ◌<◌, ◌≤◌, IsTrue, List, length, Option, Some, None, slice_get}
use Rattle.std.proofs.Common.{refl, sym, subst, arith, ⊎_elim}
use Rattle.block_cache.specs.Volume.{HasBase, HasNoLabel}
use Rattle.chronicle.specs.Histories.{states_after}
use Rattle.chronicle.specs.Seats.{Sight}
use Rattle.disk_model.specs.Held.{Held, IfThere, Leaves}
use Rattle.disk_model.specs.declared.disk.Disk as disk
use Rattle.keyed_file.specs.Volume.{IsLost}
use Rattle.node_machine.specs.Deeds.{Log}
use Rattle.node_machine.specs.Node.{node}
use Rattle.node_machine.specs.Opening.{Found, disc_part, dump_part}
use Rattle.node_machine.specs.Parts.{PartState}
use Rattle.node_machine.specs.Parts.PartState.{Idle}
use Rattle.node_machine.specs.declared.event.Event.{Event}
use Rattle.tmf_model.specs.Config.{IsNumber}
use Rattle.tmf_model.specs.declared.config.Volume.{Volume}
use Rattle.trail_files.specs.Landed.{IsSettled}
use Rattle.trail_files.specs.StandsFor.{Base}
use Rattle.run_outcomes.specs.Devices.{IsUntouched, dump_device, told_in, volume_device}
use Rattle.run_outcomes.specs.Found.{ToldBase, ToldDump}
use Rattle.run_outcomes.specs.Run.{RoseBy}
use Rattle.run_outcomes.specs.Shows.{ShowsCopy, ShowsRecords}
use Rattle.run_states.specs.Post.{IsIdle, IsPost}
use Rattle.run_states.specs.Volumes.{AreVolumesNamed, IsOfLost}
use Rattle.run_states.proofs.InHistory.{lost_disc, lost_dump}
use Rattle.run_states.proofs.Lists.{get_within, item_there}
use Rattle.run_states.proofs.Lost.{RestingDump, dump_stays, has_told, lost_base, no_label, still_holds, still_tells}
use Rattle.run_states.proofs.Rises.{rose_by}

module _ {D : Type 0} (kind : disk.Ghosts D) (opening : List PartState) (found : Found) (faults : ℕ → ℕ) (premise : ℕ → Type 0) (handed_in : ℕ → Option D) (number : ℕ) (device : D) (seat : Sight Event)
    (named : AreVolumesNamed kind opening found premise handed_in) (idle : IsIdle kind opening faults handed_in number device seat) (lost : IsOfLost kind found handed_in number device)
    (law : RestingDump) where
  abbrev volume : ℕ
  volume = lost.volume

  some : 1 ≤ volume
  some = lost.declared.above

  most : length found.config.volumes ≤ 8
  most = named.valid.volumes.few

  few : volume ≤ 8
  few = (let declared = lost.declared.below in omega (arith, declared, most))

  -- the number of another volume that is declared
  other_few : (other : ℕ) (line : Volume) → IsNumber found.config.volumes other line → other ≤ 8
  other_few other line is_line =
      let within = get_within found.config.volumes (other - 1) line is_line.1 in
      let one = is_line.0 in
      omega (arith, within, one, most)

  above : 5 ≤ number
  above = ⊎_elim (λ (h : (number ≡ volume_device volume) × (IsTrue (kind.tells device) → IsLost (kind.held device))). let is = h.0 in omega (arith, is, some)) (λ (h : number ≡ dump_device volume). omega (arith, h, some)) lost.place

  below : number < 21
  below = ⊎_elim (λ (h : (number ≡ volume_device volume) × (IsTrue (kind.tells device) → IsLost (kind.held device))). let is = h.0 in omega (arith, is, few)) (λ (h : number ≡ dump_device volume). omega (arith, h, few)) lost.place

  touched : IsUntouched found.config number → ⊥
  touched untouched =
      let declared = lost.declared.below in
      let line = item_there found.config.volumes (volume - 1) (omega (arith, some, declared)) in
      ⊎_elim
      (λ (h : (number ≡ volume_device volume) × (IsTrue (kind.tells device) → IsLost (kind.held device))). untouched.volume volume line.0 (some, line.1) h.0)
      (λ (h : number ≡ dump_device volume). untouched.dump volume line.0 (some, line.1) h)
      lost.place

  idle_disc : (log : Log) → slice_get (states_after node opening log) (disc_part volume) ≡ Some Idle
  idle_disc log = subst (λ (o : List PartState). slice_get (states_after node o log) (disc_part volume) ≡ Some Idle) (sym named.opens) (lost_disc found log volume some few lost.none)

  idle_dump : (log : Log) → slice_get (states_after node opening log) (dump_part volume) ≡ Some Idle
  idle_dump log = subst (λ (o : List PartState). slice_get (states_after node o log) (dump_part volume) ≡ Some Idle) (sym named.opens) (lost_dump found log volume some few lost.none)

  shows_none : (log : Log) (image : Held) (base : Option Base) → Leaves (kind.held device) image → number ≡ volume_device volume → (IsTrue (kind.tells device) → IsLost (kind.held device))
      → ToldBase found.config (told_in kind handed_in) volume base → ShowsRecords found.config (told_in kind handed_in) (states_after node opening log) image volume
  shows_none log image base leaves here is_lost told =
      let held = told.0 in
      let had = has_told kind handed_in number held (subst (λ (n : ℕ). told_in kind handed_in n ≡ Some held) (sym here) told.1) in
      let tells = still_tells kind (handed_in number) device held had idle.later in
      let holds = still_holds kind (handed_in number) device held had lost.as_given in
      let none = lost_base found.config volume held base (subst (λ (h : Held). IsLost h) holds (is_lost tells)) told.2.0 in
      let shut : HasNoLabel (kind.held device) = subst (λ (h : Held). HasNoLabel h) (sym holds) (subst (λ (o : Option Base). HasBase found.config volume held o) none told.2.0) in
      let rests : IfThere (kind.held device) 1 IsSettled = subst (λ (h : Held). IfThere h 1 IsSettled) (sym holds) told.2.1.label_file in
      (None, no_label (kind.held device) image shut rests leaves, (Idle, idle_disc log, refl))

  shows_same : (log : Log) (image : Held) (old : Option Base) → Leaves (kind.held device) image → number ≡ dump_device volume → ToldDump found.config (told_in kind handed_in) volume old
      → ShowsCopy found.config (told_in kind handed_in) (states_after node opening log) image volume old
  shows_same log image old leaves here told =
      let held = told.0 in
      let had = has_told kind handed_in number held (subst (λ (n : ℕ). told_in kind handed_in n ≡ Some held) (sym here) told.1) in
      let holds = still_holds kind (handed_in number) device held had lost.as_given in
      let left : Leaves held image = subst (λ (h : Held). Leaves h image) holds leaves in
      (old, dump_stays law found.config volume old held image told.2.0 told.2.1 left, (Idle, idle_disc log, (Idle, idle_dump log, refl)))

  pub lost_post : IsPost kind opening found faults handed_in number device seat
  lost_post = record {
    few = below;
    part = idle.part;
    state = idle.state;
    at = idle.at;
    later = idle.later;
    untouched = λ untouched. absurd (touched untouched);
    rise = subst (λ (n : ℕ). RoseBy n (faults number) (kind.faults device)) (sym idle.none) (rose_by 0 (faults number) (kind.faults device) (λ under. let rise = idle.rise in omega (arith, rise)));
    shown = λ log history whole image leaves. record {
      monitor = λ list first told. absurd (omega (arith, first, above));
      trail = λ old one within told. absurd (let trails = named.valid.trails.few in omega (arith, within, trails, above));
      volume = λ other line base is_line at told. ⊎_elim
          (λ (h : (number ≡ volume_device volume) × (IsTrue (kind.tells device) → IsLost (kind.held device))).
          let is = h.0 in
          let same : volume ≡ other = omega (arith, is, at) in
          subst (λ (n : ℕ). ShowsRecords found.config (told_in kind handed_in) (states_after node opening log) image n) same
          (shows_none log image base leaves h.0 h.1 (subst (λ (n : ℕ). ToldBase found.config (told_in kind handed_in) n base) (sym same) told)))
          (λ (h : number ≡ dump_device volume). absurd (let least = other_few other line is_line in omega (arith, h, at, some, least)))
          lost.place;
      dump = λ other line base old is_line at told dumped. ⊎_elim
          (λ (h : (number ≡ volume_device volume) × (IsTrue (kind.tells device) → IsLost (kind.held device))).
          absurd (let is = h.0 in let one = is_line.0 in omega (arith, is, at, few, one)))
          (λ (h : number ≡ dump_device volume).
          let same : volume ≡ other = omega (arith, h, at) in
          subst (λ (n : ℕ). ShowsCopy found.config (told_in kind handed_in) (states_after node opening log) image n old) same
          (shows_same log image old leaves h (subst (λ (n : ℕ). ToldDump found.config (told_in kind handed_in) n old) (sym same) dumped)))
          lost.place;
    };
  }

-- What the calls of a hold of the disc's lock are to the caller, which has met the disc and the device before and behind them.
use Rattle.std.specs.Prelude.{IfErr}
use Rattle.std.proofs.Common.{◌≡◌, ◌+◌, ◌<◌, ⊎_elim, inl, inr, ℕ, List, [], ◌∷◌, ◌++◌, Option, Some, Result, refl, ap, sym, ◌∙◌, subst}
use mathlib.Core.List.{IsPrefix}
use Rattle.chronicle.specs.Seats.{Sight, own_events}
use Rattle.disk_model.specs.declared.disk.Disk as disk
use Rattle.tmf_model.specs.declared.config.Config.{Config}
use Rattle.tmf_model.specs.declared.transid.Transid.{Transid}
use Rattle.keyed_file.specs.Volume.{blocks_of as label_blocks}
use Rattle.keyed_file.specs.declared.home.Home.{Home}
use Rattle.block_cache.specs.Blocks.{home_of}
use Rattle.node_machine.specs.declared.event.By.TheVariants.{Attempt}
use Rattle.node_machine.specs.declared.event.DiscEvent.TheVariants as did
use Rattle.node_machine.specs.declared.event.Event.{Event}
use Rattle.node_machine.specs.declared.event.Event.TheVariants.{OfDisc, OfTrail}
use Rattle.node_machine.specs.declared.event.TrailEvent.TheVariants as trail_did
use Rattle.node_machine.specs.Dump.{IsBlockOf}
use Rattle.node_machine.specs.Made.{blocks_of, volume_of}
use Rattle.node_machine.specs.Opening.{Found, disc_part, opening_parts, trail_part}
use Rattle.node_machine.specs.Parts.{DiscPart, PartState}
use Rattle.node_machine.specs.Trail.{trail_of}
use Rattle.audit_writer.specs.Locked.{HasFailed as HasTrailFailed}
use Rattle.audit_writer.specs.declared.lock.FlushRefused.{FlushRefused}
use Rattle.audit_writer.specs.declared.lock.FlushRefused.TheVariants as stopped
use Rattle.disc_process.specs.declared.refused.WriteRefused.{WriteRefused}
use Rattle.disc_process.specs.declared.refused.WriteRefused.TheVariants as refused
use Rattle.disc_process.specs.Damage.{HadBadBlock}
use Rattle.disc_process.specs.Disc.{DiscView}
use Rattle.disc_process.specs.Draw.{HasDrawn, HasFailed as HasVolumeFailed, IsDrawRefusal}
use Rattle.disc_process.specs.Later.{IsLaterDisc, IsLawful}
use Rattle.disc_process.specs.Write.{IsUnread}
use Rattle.online_dump.specs.AtDisc.{HasOnlySeen, IsCopyRefusal}
use Rattle.online_dump.specs.Dumped.{HasFailedFor, HasSeenSince, IsStopFor}
use Rattle.online_dump.specs.Dumper.{Dumper, base_found, device_of}
use Rattle.online_dump.specs.Dumping.{HasFailed}
use Rattle.online_dump.specs.Refused.{IsStop, refusal_of, refused_from}
use Rattle.online_dump.specs.Seat.{HasStepped, IsDumpAt}
use Rattle.online_dump.proofs.CopyNext.{base_here}
use Rattle.online_dump.proofs.Stepping.{failure_since}
use Rattle.online_dump.proofs.Since.{disc_seen, if_err, since_all, since_newly}

-- the trail has failed in a hold of the lock
trail_since : (config : Config) (volume : ℕ) (item : Transid) (a d : Sight Event) (first last : Sight Event) → IsPrefix a.seen first.seen → IsPrefix last.seen d.seen → (device : ℕ)
    → HasTrailFailed (trail_of config volume) (Attempt item) first last (stopped.Failed device) → HasFailedFor config volume item a d device
trail_since config volume item a d first last begins ends device h =
    let p = trail_part (trail_of config volume) in
    let e : Event = OfTrail (trail_did.Failed (Attempt item)) in
    let s = since_newly p e first last h.1 in
    inl (h.0, since_all p e a d first.seen last.seen s.more s.rest begins ends s.events)

module _ {D : Type 0} (opening : List PartState) (found : Found) (volume : ℕ) (item : Transid) (first last : DiscView D) (a d : Sight Event)
    (place : first.seat.part ≡ Some (disc_part volume)) (later : IsLaterDisc opening first last) (begins : IsPrefix a.seen first.seat.seen) (ends : IsPrefix last.seat.seen d.seen)
    (number : first.part.number ≡ volume) (config : first.part.config ≡ found.config) where
  -- the volume has failed in a hold of the lock
  volume_since : (told : List Event) → own_events last.seat ≡ (own_events first.seat ++ told) ++ OfDisc (did.Failed (Attempt item)) ∷ [] → HasSeenSince (disc_part volume) (OfDisc (did.Failed (Attempt item))) a d
  volume_since told is = since_all (disc_part volume) (OfDisc (did.Failed (Attempt item))) a d first.seat.seen last.seat.seen told [] begins ends
      (disc_seen last volume last.seat.seen (later.place ∙ place) refl ∙ is ∙ ap (λ (l : List Event). (l ++ told) ++ OfDisc (did.Failed (Attempt item)) ∷ []) (sym (disc_seen first volume first.seat.seen place refl)))

  -- a draw was refused
  draw_stop : (faults : D → ℕ) (device : ℕ) → IsDrawRefusal faults (Attempt item) first last (stopped.Failed device) → HasFailedFor found.config volume item a d device
  draw_stop faults device h = ⊎_elim
      (λ (x : HasTrailFailed (trail_of first.part.config first.part.number) (Attempt item) first.seat last.seat (stopped.Failed device) × HasDrawn first.seat last.seat).
      trail_since found.config volume item a d first.seat last.seat begins ends device
      (subst (λ (t : ℕ). HasTrailFailed t (Attempt item) first.seat last.seat (stopped.Failed device)) (ap (λ (x : Config × ℕ). trail_of x.0 x.1) (λ i. (config i, number i))) x.0))
      (λ (x : HasVolumeFailed faults (Attempt item) first last device). inr (inl (x.named ∙ ap (λ (n : ℕ). 4 + n) number, volume_since x.drawn x.events)))
      h

  -- the landing of the disc's audit was refused
  pub flush_stop : {T : Type 0} (kind : disk.Ghosts D) (devices : ℕ → Option D) (r : Result T FlushRefused) → IfErr r (HasTrailFailed (trail_of first.part.config first.part.number) (Attempt item) first.seat last.seat)
      → IfErr r (λ e. IsStopFor kind devices found volume item a d (refused_from e))
  flush_stop kind devices r h = if_err (HasTrailFailed (trail_of first.part.config first.part.number) (Attempt item) first.seat last.seat) (λ e. IsStopFor kind devices found volume item a d (refused_from e)) r of h where
    of : (e : FlushRefused) → HasTrailFailed (trail_of first.part.config first.part.number) (Attempt item) first.seat last.seat e → IsStopFor kind devices found volume item a d (refused_from e)
    of stopped.NoMemory x = tt
    of (stopped.Failed device) x = trail_since found.config volume item a d first.seat last.seat begins ends device
        (subst (λ (t : ℕ). HasTrailFailed t (Attempt item) first.seat last.seat (stopped.Failed device)) (ap (λ (x : Config × ℕ). trail_of x.0 x.1) (λ i. (config i, number i))) x)

  -- a block was not read
  unread_stop : (kind : disk.Ghosts D) (devices : ℕ → Option D) (opens : opening ≡ opening_parts found) → IsLawful kind opening last → last.handed_in ≡ devices (4 + last.part.number) → (file block : ℕ)
      → volume_of found.config file ≡ volume → block < blocks_of found.config file → (e : WriteRefused) → IsUnread kind item file block first last e
      → IsStop e × IsStopFor kind devices found volume item a d (refusal_of e)
  unread_stop kind devices opens lawful handed file block here within = of where
    last_number : last.part.number ≡ volume
    last_number = ap (λ (s : DiscPart). s.number) later.part ∙ number

    last_config : last.part.config ≡ found.config
    last_config = ap (λ (s : DiscPart). s.config) later.part ∙ config

    there : label_blocks last.blocks.label.files file ≡ blocks_of found.config file
    there = lawful.files file (ap (λ (k : Config). volume_of k file) last_config ∙ here ∙ sym last_number) ∙ ap (λ (k : Config). blocks_of k file) last_config

    home : home_of last.blocks file block ≡ record { file = file; number = block; blocks = blocks_of found.config file }
    home = ap (λ (n : ℕ). record { file = file; number = block; blocks = n }) there

    of : (e : WriteRefused) → IsUnread kind item file block first last e → IsStop e × IsStopFor kind devices found volume item a d (refusal_of e)
    of refused.NoMemory h = (tt, tt)
    of (refused.Failed device) h = (tt, draw_stop kind.faults device h.0)
    of (refused.Damaged device damage) h = (
      tt,
      record {
        device_is = h.0 ∙ ap (λ (n : ℕ). 4 + n) number;
        file = file;
        block = block;
        here = here;
        within = within;
        bad = subst (λ (x : Home). HadBadBlock kind (devices (4 + volume)) x damage) home
            (subst (λ (o : Option D). HadBadBlock kind o (home_of last.blocks file block) damage) (handed ∙ ap (λ (n : ℕ). devices (4 + n)) last_number) h.2.before);
        baseless = ap (base_found found) (sym last_number) ∙ sym (base_here kind opening found opens last lawful) ∙ h.2.baseless;
      },
    )
    of (refused.Spent part) h = absurd h
    of (refused.Busy holder) h = absurd h
    of refused.Full h = absurd h
    of (refused.Refused reason) h = absurd h

-- a copy was refused
pub copy_stop : {T D : Type 0} (kind : disk.Ghosts D) (opening : List PartState) (found : Found) (devices : ℕ → Option D) (volume : ℕ) (item : Transid) (first last : DiscView D) (w x u : Dumper D) (a b d : Sight Event) (r : Result T WriteRefused)
    → IsLawful kind opening first → IsLaterDisc opening first last → IsLawful kind opening last → last.handed_in ≡ devices (4 + last.part.number) → first.part.number ≡ volume → first.part.config ≡ found.config
    → IsDumpAt opening found w.seat → w.seat.part.number ≡ volume → w.seat.sight.seen ≡ b.seen → b.seen ≡ first.seat.seen → IsPrefix a.seen b.seen → IsPrefix last.seat.seen d.seen
    → HasStepped opening found [] x.seat u.seat → u.seat.sight.seen ≡ d.seen → u.seat.part.number ≡ volume
    → IfErr r (IsCopyRefusal kind opening found item first last w x) → IfErr r (λ e. IsStop e × IsStopFor kind devices found volume item a d (refusal_of e))
copy_stop {D = D} kind opening found devices volume item first last w x u a b d r lawful later then handed number config is number_is met same begins ends stepped now number_now h =
    if_err (IsCopyRefusal kind opening found item first last w x) (λ e. IsStop e × IsStopFor kind devices found volume item a d (refusal_of e)) r (λ e stop. ⊎_elim (unread e) (failed e) stop) h
  where
    place : first.seat.part ≡ Some (disc_part volume)
    place = lawful.place ∙ ap (λ (n : ℕ). Some (disc_part n)) number

    unread : (e : WriteRefused) → ((file : ℕ) × (block : ℕ) × IsBlockOf w.seat.part file block × IsUnread kind item file block first last e × HasOnlySeen opening found w x) → IsStop e × IsStopFor kind devices found volume item a d (refusal_of e)
    unread e stop = unread_stop opening found volume item first last a d place later (subst (λ (l : List (ℕ × Event)). IsPrefix a.seen l) same begins) ends number config kind devices is.opens then handed stop.0 stop.1
        (ap (λ (k : Config). volume_of k stop.0) (sym is.was.config) ∙ stop.2.here ∙ number_is) (subst (λ (k : Config). stop.1 < blocks_of k stop.0) is.was.config stop.2.within) e stop.3

    device_failed : (device : ℕ) → device ≡ device_of w.seat.part.number → HasFailed (Attempt item) w.current w x → HasFailedFor found.config volume item a d device
    device_failed device named h = inr (inr (named ∙ ap (λ (n : ℕ). 12 + n) number_is, failure_since opening found item w x u a b d volume [] is met begins h.had stepped now number_is number_now))

    failed : (e : WriteRefused) → (e ≡ refused.Failed (device_of w.seat.part.number)) × HasDrawn first.seat last.seat × HasFailed (Attempt item) w.current w x → IsStop e × IsStopFor kind devices found volume item a d (refusal_of e)
    failed e stop = subst (λ (y : WriteRefused). IsStop y × IsStopFor kind devices found volume item a d (refusal_of y)) (sym stop.0) (tt, device_failed (device_of w.seat.part.number) refl stop.2)

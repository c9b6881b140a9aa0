-- What a purge makes of a writer, behind a reading or a meeting.
use Rattle.std.specs.Prelude.{ℕ, List, ◌∷◌, [], ◌++◌, Result}
use Rattle.std.proofs.Common.{◌≡◌, ap, sym, ◌∙◌, subst}
use Rattle.disk_model.specs.declared.disk.Disk as disk
use Rattle.chronicle.specs.Seats.{own_events}
use Rattle.node_machine.specs.declared.event.By.{By}
use Rattle.node_machine.specs.declared.event.Event.{Event}
use Rattle.node_machine.specs.declared.event.Event.TheVariants.{OfTrail}
use Rattle.node_machine.specs.declared.event.TrailEvent.TheVariants.{Failed}
use Rattle.audit_writer.specs.Writer.{Writer}
use Rattle.audit_writer.specs.Purge.{AreOfPurge, HasRemoved, HasPurged, HasPurgeStopped}
use Rattle.audit_writer.specs.Writes.{HasTold}

of_purge : (least mid present between now : ℕ) (es : List Event) → mid ≡ least → between ≡ present → AreOfPurge mid between now es → AreOfPurge least present now es
of_purge least mid present between now es low file h = subst (λ (n : ℕ). AreOfPurge n present now es) low (subst (λ (n : ℕ). AreOfPurge mid n now es) file h)

told_of_purge : {D : Type 0} (u v w x : Writer D) → HasTold u v → HasTold w x → (es : List Event) → AreOfPurge v.trail.least v.trail.file w.trail.least es → AreOfPurge u.trail.least u.trail.file x.trail.least es
told_of_purge u v w x first last es h =
    subst (λ (n : ℕ). AreOfPurge u.trail.least u.trail.file n es) (ap (λ t. t.least) (sym last.trail))
    (of_purge u.trail.least v.trail.least u.trail.file v.trail.file w.trail.least es (ap (λ t. t.least) first.trail) (ap (λ t. t.file) first.trail) h)

module _ {D : Type 0} where
  pub purged_then : (u v w : Writer D) → own_events v.seat.sight ≡ own_events u.seat.sight → v.trail.least ≡ u.trail.least → v.trail.file ≡ u.trail.file → HasPurged v w → HasPurged u w
  purged_then u v w mine low file h = (h.0, h.1 ∙ ap (λ (l : List Event). l ++ h.0) mine, of_purge u.trail.least v.trail.least u.trail.file v.trail.file w.trail.least h.0 low file h.2)

  pub purge_stopped_then : (by : By) (u v w : Writer D) → own_events v.seat.sight ≡ own_events u.seat.sight → v.trail.least ≡ u.trail.least → v.trail.file ≡ u.trail.file → HasPurgeStopped by v w → HasPurgeStopped by u w
  purge_stopped_then by u v w mine low file h = (
    h.0,
    h.1 ∙ ap (λ (l : List Event). l ++ (h.0 ++ OfTrail (Failed by) ∷ [])) mine,
    of_purge u.trail.least v.trail.least u.trail.file v.trail.file w.trail.least h.0 low file h.2,
  )

  pub purged_between : (u v w x : Writer D) → HasTold u v → HasTold w x → HasPurged v w → HasPurged u x
  purged_between u v w x first last h = (
    h.0,
    last.mine ∙ h.1 ∙ ap (λ (l : List Event). l ++ h.0) first.mine,
    told_of_purge u v w x first last h.0 h.2,
  )

  pub purge_stopped_between : (by : By) (u v w x : Writer D) → HasTold u v → HasTold w x → HasPurgeStopped by v w → HasPurgeStopped by u x
  purge_stopped_between by u v w x first last h = (
    h.0,
    last.mine ∙ h.1 ∙ ap (λ (l : List Event). l ++ (h.0 ++ OfTrail (Failed by) ∷ [])) first.mine,
    told_of_purge u v w x first last h.0 h.2,
  )

  pub removed_between : {T E : Type 0} (kind : disk.Ghosts D) (r : Result T E) (u v w x : Writer D) → HasTold u v → HasTold w x → HasRemoved kind v.bounds v.trail w.trail r → HasRemoved kind u.bounds u.trail x.trail r
  removed_between kind r u v w x first last h =
      subst (λ b. HasRemoved kind b u.trail x.trail r) first.bounds
      (subst (λ t. HasRemoved kind v.bounds t x.trail r) first.trail (subst (λ t. HasRemoved kind v.bounds v.trail t r) (sym last.trail) h))

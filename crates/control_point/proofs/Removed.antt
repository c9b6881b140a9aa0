-- What a hold of a writer's lock says of a purge.
use Rattle.std.proofs.Common.{◌≡◌, ◌∙◌, ap, sym, append_assoc, ℕ, List, [], ◌∷◌, ◌++◌, Result, Ok, Err}
use Rattle.std.specs.Prelude.{◌≤◌, MatchResult, OnErr, OnOk, slice_index}
use mathlib.Core.List.{IsPrefix}
use Rattle.chronicle.specs.Histories.{events_of}
use Rattle.chronicle.specs.Seats.{Sight, HasNewlySeen}
use Rattle.chronicle.proofs.Facts.{events_of-prefix}
use Rattle.disk_model.specs.declared.disk.Disk as disk
use Rattle.disk_model.specs.declared.disk.DiskFault.{DiskFault}
use Rattle.node_machine.specs.declared.event.By.{By}
use Rattle.node_machine.specs.declared.event.Event.{Event}
use Rattle.audit_writer.specs.Purge.{HasPurged, HasPurgeStopped, HasRemoved}
use Rattle.audit_writer.specs.Writer.{Writer}
use Rattle.audit_writer.specs.Writes.{Writes}
use Rattle.control_point.specs.Purged.{WasPurged}

-- the writer that a guard holds, before and after a purge
pub was_purged : {D : Type 0} (kind : disk.Ghosts D) (IsOne : Writer D → Type 0) (by : By) (number trail disc floor : ℕ) (v w : Writer D) (r : Result (Unit {0}) DiskFault) → IsOne v → v.seat.part.number ≡ number → number ≡ trail → floor ≤ slice_index v.bounds disc
    → Writes kind v w × (w.queue ≡ v.queue) → HasRemoved kind v.bounds v.trail w.trail r → MatchResult r (λ _. HasPurged v w) (λ _. HasPurgeStopped by v w) → OnOk r (WasPurged kind IsOne trail disc floor)
was_purged kind IsOne by number trail disc floor v w (Ok x) is_one is same floor_told kept removed told = record { before = v; after = w; is_one = is_one; number_is = is ∙ same; floor_told = floor_told; removed = removed; told = told; kept = kept }
was_purged kind IsOne by number trail disc floor v w (Err e) is_one is same floor_told kept removed told = tt

-- what was newly seen since a later moment was so since an earlier one
pub newly_earlier : {A E : Type 0} (p : ℕ) (e : Event) (a b c : Sight Event) (r : Result A E) → IsPrefix a.seen b.seen → OnErr r (HasNewlySeen p e b c) → OnErr r (HasNewlySeen p e a c)
newly_earlier p e a b c (Ok x) begins newly = tt
newly_earlier p e a b c (Err x) begins newly =
    let pre = events_of-prefix p a.seen b.seen begins in
    record {
      more = pre.0 ++ newly.more;
      events = newly.events ∙ ap (λ (l : List Event). l ++ e ∷ []) (ap (λ (l : List Event). l ++ newly.more) (sym pre.1) ∙ append_assoc (events_of p a.seen) pre.0 newly.more);
    }

-- The newest change that is left of a transaction, as the table keeps it.
use Rattle.std.proofs.Common.{◌≡◌, inl, Bool, true, false, List, [], ◌∷◌, map, Some, None, slice_get, refl, ap, sym, ◌∙◌, subst}
use Rattle.tmf_model.specs.declared.transid.Transid.{Transid}
use Rattle.trail_files.specs.declared.audit_record.AuditRecord.{AuditRecord}
use Rattle.node_machine.specs.Made.{changes_left, has_released, volume_of}
use Rattle.node_machine.specs.Parts.{DiscPart}
use Rattle.node_machine.specs.Same.{Among}
use Rattle.disc_process.specs.declared.live.Change.{Change}
use Rattle.disc_process.specs.declared.live.LiveTable.{LiveTable}
use Rattle.disc_process.specs.Coming.{HoldsComing}
use Rattle.disc_process.specs.Disc.{HoldsLive}
use Rattle.disc_process.specs.Live.{live_of}
use Rattle.disc_process.specs.LiveTx.{LiveTx, change_of}
use Rattle.disc_process.specs.Undo.{IsNewest}

module _ (live : LiveTable) (s : DiscPart) (t : Transid) (comes : HoldsComing live s) (lives : has_released s.events t ≡ false → HoldsLive live s.events t) where
  kept_first : (left : List AuditRecord) → changes_left s.events t ≡ left → has_released s.events t ≡ false → slice_get (map change_of left) 0 ≡ slice_get (live_of live t).left 0
  kept_first left is free = ap (λ xs. slice_get (map change_of xs) 0) (sym is) ∙ ap (λ xs. slice_get xs 0) (lives free).left

  newest_at : (change : Change) → slice_get (live_of live t).left 0 ≡ Some change → has_released s.events t ≡ false → (left : List AuditRecord) → changes_left s.events t ≡ left → IsNewest s t change
  newest_at change is free [] left = (let none : None ≡ Some change = kept_first [] left free ∙ is in absurd (cc (none)))
  newest_at change is free (x ∷ xs) left =
      let same : change_of x ≡ change = (let some : Some (change_of x) ≡ Some change = kept_first (x ∷ xs) left free ∙ is in cc (some)) in record {
        item = x;
        others = xs;
        left = left;
        is = same;
        here = subst (λ (c : Change). volume_of s.config c.file ≡ s.number) same (comes.here t x (subst (λ (rs : List AuditRecord). Among rs x) (sym left) (inl refl)));
        unreleased = free;
      }

  pub newest_some : (change : Change) → slice_get (live_of live t).left 0 ≡ Some change → IsNewest s t change
  newest_some change is = of (has_released s.events t) refl
    where
      of : (b : Bool) → has_released s.events t ≡ b → IsNewest s t change
      of true e = (let none : None ≡ Some change = sym (ap (λ (l : LiveTx). slice_get l.left 0) (comes.gone t e)) ∙ is in absurd (cc (none)))
      of false e = newest_at change is e (changes_left s.events t) refl

  none_at : slice_get (live_of live t).left 0 ≡ None → has_released s.events t ≡ false → (left : List AuditRecord) → changes_left s.events t ≡ left → changes_left s.events t ≡ []
  none_at is free [] left = left
  none_at is free (x ∷ xs) left = (let some : Some (change_of x) ≡ None = kept_first (x ∷ xs) left free ∙ is in absurd (cc (some)))

  pub newest_none : (has_released s.events t ≡ true → changes_left s.events t ≡ []) → slice_get (live_of live t).left 0 ≡ None → changes_left s.events t ≡ []
  newest_none gone is = of (has_released s.events t) refl
    where
      of : (b : Bool) → has_released s.events t ≡ b → changes_left s.events t ≡ []
      of true e = gone e
      of false e = none_at is e (changes_left s.events t) refl

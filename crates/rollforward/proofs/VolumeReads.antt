-- Calls that read the device of a volume, or that of its dumps, one after the other.
use Rattle.std.specs.Prelude.{Some, Result, Ok, Err, IfErr, slice_get, slice_set}
use Rattle.std.proofs.Common.{◌≡◌, ◌≤◌, ◌⊎◌, inl, inr, ℕ, List, refl, sym, subst, ◌∙◌}
use Rattle.disk_model.specs.Devices.{NoneFalls, RoseAt}
use Rattle.disk_model.specs.Fuse.{IsSameFuse, device_of, fuse_faults}
use Rattle.disk_model.specs.Held.{Rose}
use Rattle.disk_model.specs.declared.disk.Disk as disk
use Rattle.disk_model.specs.declared.fuse.Fuse.{Fuse}
use Rattle.disk_model.proofs.Devices.{are-later-same, are-later-set, are-later-then, held-same, held-set, held-then, rose-after, rose-set, set-but}
use Rattle.rollforward.specs.Newest.{HasFailed, HasFailedOn, ReadsOnly}
use Rattle.volume_recovery.specs.VolumeNode.{dump_device}
use Rattle.rollforward.specs.declared.errors.RollError.{RollError}
use Rattle.rollforward.specs.declared.errors.RollError.TheVariants.{NotLost, NoDump, Failed, Damaged, NoMemory}
use Rattle.rollforward.specs.declared.dump_label.DumpFault.{DumpFault}
use Rattle.rollforward.specs.declared.dump_label.DumpFault.TheVariants as fault
use Rattle.block_cache.specs.declared.fault.AttachFault.{AttachFault}
use Rattle.block_cache.specs.declared.fault.AttachFault.TheVariants as opening

module _ {D : Type 0} (kind : disk.Ghosts D) (Is : ℕ → Type 0) where
  pub reads-at : ((d : D) → kind.is_same d d) → (xs : List (Fuse D)) (n : ℕ) (old new : Fuse D) → slice_get xs n ≡ Some old → Is n
      → kind.held (device_of new) ≡ kind.held (device_of old) → IsSameFuse kind.is_same old new → kind.tells (device_of new) ≡ kind.tells (device_of old) → fuse_faults kind.faults old ≤ fuse_faults kind.faults new
      → ReadsOnly kind Is xs (slice_set xs n new)
  reads-at itself xs n old new is own held same tells later = record {
    same = held-set kind.held xs n old new is held;
    keeps = are-later-set kind itself xs n old new is same tells later;
    others = λ q off. set-but xs n new q (λ e. off (subst Is (sym e) own));
  }

  pub reads-then : ((a b c : D) → kind.is_same a b → kind.is_same b c → kind.is_same a c) → (xs ys zs : List (Fuse D)) → ReadsOnly kind Is xs ys → ReadsOnly kind Is ys zs → ReadsOnly kind Is xs zs
  reads-then on xs ys zs p q = record {
    same = held-then kind.held xs ys zs p.same q.same;
    keeps = are-later-then kind on xs ys zs p.keeps q.keeps;
    others = λ n off. q.others n off ∙ p.others n off;
  }

  pub reads-none : ((d : D) → kind.is_same d d) → (xs : List (Fuse D)) → ReadsOnly kind Is xs xs
  reads-none itself xs = record { same = held-same kind.held xs; keeps = are-later-same kind itself xs; others = λ n off. refl }

-- why a label that was not read tells that the device failed
pub failed-at : {D : Type 0} (faults : D → ℕ) (xs : List (Fuse D)) (n : ℕ) (old new : Fuse D) → slice_get xs n ≡ Some old → {T : Type 0} (r : Result T DumpFault)
    → IfErr r (λ e. e ≡ fault.Failed → Rose (fuse_faults faults old) (fuse_faults faults new)) → IfErr r (λ e. e ≡ fault.Failed → RoseAt faults xs (slice_set xs n new) n)
failed-at faults xs n old new is (Ok x) cause = tt
failed-at faults xs n old new is (Err e) cause = λ failed. rose-set faults xs n old new is (cause failed)

no-memory : (e : AttachFault) → e ≡ opening.Failed → e ≡ opening.NoMemory → ⊥
no-memory e failed none = let both : opening.Failed ≡ opening.NoMemory = sym failed ∙ none in cc

pub rose-of : (e : AttachFault) (P : Type 0) → ((e ≡ opening.Failed) × P) ⊎ (e ≡ opening.NoMemory) → e ≡ opening.Failed → P
rose-of e P (inl told) failed = told.1
rose-of e P (inr none) failed = absurd (no-memory e failed none)

-- a failure that is told rose at some time
pub failed-after : {D : Type 0} (faults : D → ℕ) (Is : ℕ → Type 0) (xs ys zs : List (Fuse D)) (e : RollError) → NoneFalls faults xs ys → NoneFalls faults ys zs → HasFailedOn faults Is ys zs e → HasFailedOn faults Is xs zs e
failed-after faults Is xs ys zs NotLost p q failed = tt
failed-after faults Is xs ys zs NoDump p q failed = tt
failed-after faults Is xs ys zs (Failed number) p q failed = (failed.0, rose-after faults xs ys zs number p q failed.1)
failed-after faults Is xs ys zs (Damaged number damage) p q failed = tt
failed-after faults Is xs ys zs NoMemory p q failed = tt

-- the answer to what was read of a dump's label tells a failure where that did
pub answer-failed : {D T : Type 0} (faults : D → ℕ) (volume : ℕ) (xs ys zs : List (Fuse D)) (r : Result T RollError) (found : Result T DumpFault) → NoneFalls faults xs ys → NoneFalls faults ys zs
    → ((number : ℕ) → r ≡ Err (Failed number) → (number ≡ dump_device volume) × (found ≡ Err fault.Failed)) → IfErr found (λ e. e ≡ fault.Failed → RoseAt faults ys zs (dump_device volume))
    → IfErr r (HasFailed faults volume xs zs)
answer-failed faults volume xs ys zs (Ok x) found p q cause rose = tt
answer-failed faults volume xs ys zs (Err NotLost) found p q cause rose = tt
answer-failed faults volume xs ys zs (Err NoDump) found p q cause rose = tt
answer-failed faults volume xs ys zs (Err (Failed number)) found p q cause rose =
    let told = cause number refl in
    let here = subst (λ f. IfErr f (λ e. e ≡ fault.Failed → RoseAt faults ys zs (dump_device volume))) told.1 rose refl in
    (inr told.0, subst (RoseAt faults xs zs) (sym told.0) (rose-after faults xs ys zs (dump_device volume) p q here))
answer-failed faults volume xs ys zs (Err (Damaged number damage)) found p q cause rose = tt
answer-failed faults volume xs ys zs (Err NoMemory) found p q cause rose = tt

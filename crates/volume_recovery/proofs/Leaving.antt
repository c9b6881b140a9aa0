-- What a crash leaves of images that a restart has made.
use Rattle.std.specs.Prelude.{slice_get, Option, Some, None, IfSome}
use Rattle.std.specs.Option.{option_map_or}
use Rattle.std.proofs.Common.{zero, suc, ◌≡◌, ◌≤◌, ◌<◌, ◌∷◌, [], ℕ, List, length, refl, sym, ap, subst, ◌∙◌, arith, inl}
use Rattle.disk_model.specs.Fuse.{device_of}
use Rattle.disk_model.specs.Held.{Held, File, Leaves, LeavesAt}
use Rattle.disk_model.specs.declared.fuse.Fuse.{Fuse}
use Rattle.tmf_model.specs.declared.config.Config.{Config}
use Rattle.trail_files.specs.declared.audit_record.AuditRecord.{AuditRecord}
use Rattle.trail_files.specs.declared.rules.Rules.{Rules}
use Rattle.trail_files.specs.AuditRecord.{audit_format}
use Rattle.trail_files.specs.Format.{Format}
use Rattle.trail_files.specs.Landed.{IsSettled}
use Rattle.trail_files.specs.MonitorRecord.{monitor_format}
use Rattle.trail_files.specs.Text.{Spells}
use Rattle.trail_files.specs.Trail.{Rests}
use Rattle.disk_model.specs.Devices.{AreHeld, AreImages, EachAs, EachDevice, HoldSame, SameBut, held_at}
use Rattle.volume_recovery.specs.Node.{IsAtRest, AreAtRest}
use Rattle.volume_recovery.specs.Recovery.{KeepsRecords}
use Rattle.trail_replay.specs.Rules.{rules_of}

-- a list that a device at rest spells rests on it
pub rests-at_rest : {R : Type 0} (format : Format R) (image : Held) (list : List R) → IsAtRest image → Spells format image list → Rests format image list
rests-at_rest format image list rest spells = record { spells = spells; settled = λ n le lt. rest n }

-- what rests on a device is left by a crash
abbrev pub IsLaw : {R : Type 0} → Format R → Type 0
IsLaw {R} format = (held image : Held) (records : List R) → Rests format held records → Leaves held image → Rests format image records

pub spells-left : {R : Type 0} (format : Format R) → IsLaw format → (image left : Held) (list : List R) → IsAtRest image → Leaves image left → Spells format image list → Spells format left list
spells-left format law image left list rest leaves spells = (law image left list (rests-at_rest format image list rest spells) leaves).spells

settled-left : (before after : Option File) (file : File) → LeavesAt before after → after ≡ Some file → IsSettled file
settled-left None None file leaves is = absurd (cc)
settled-left None (Some image) file leaves is = absurd leaves
settled-left (Some old) None file leaves is = absurd leaves
settled-left (Some old) (Some image) file leaves is = subst (λ o. IfSome o IsSettled) is (record { safe = λ i lt. leaves.settled i; synced = leaves.synced })

-- an image is at rest
pub image-at_rest : (held image : Held) → Leaves held image → IsAtRest image
image-at_rest held image leaves n file is = settled-left (held n) (image n) file (leaves n) is

pub some-at : {X : Type 0} (xs : List X) (n : ℕ) → n < length xs → (x : X) × (slice_get xs n ≡ Some x)
some-at [] n lt = absurd (omega (arith, lt))
some-at (x ∷ xs) zero lt = (x, refl)
some-at (x ∷ xs) (suc n) lt = some-at xs n (omega (arith, lt))

pub there-after : {D : Type 0} (P : D → D → Type 0) (before after : Option (Fuse D)) (old : Fuse D) → before ≡ Some old → EachAs P before after → (new : Fuse D) × (after ≡ Some new)
there-after P None after old is each = absurd (cc)
there-after P (Some a) None old is each = absurd each
there-after P (Some a) (Some b) old is each = (b, refl)

-- what a crash leaves of a device that was not written, it leaves of the image
pub leaves-at : {D : Type 0} (held : D → Held) (ys zs : List (Fuse D)) (images left : ℕ → Held) (n : ℕ) (fuse : Fuse D) → AreHeld held ys images → slice_get ys n ≡ Some fuse
    → slice_get zs n ≡ slice_get ys n → AreImages held zs left → Leaves (images n) (left n)
leaves-at held ys zs images left n fuse are is same left_are = subst (λ h. Leaves h (left n)) (are n fuse is) (left_are n fuse (same ∙ is))

-- the devices hold what stands at their numbers
pub held_at-held : {D : Type 0} (held : D → Held) (xs : List (Fuse D)) → AreHeld held xs (held_at held xs)
held_at-held held xs n fuse is = ap (λ o. option_map_or (λ f. held (device_of f)) o (λ m. None)) (sym is)

images-option : {D : Type 0} (held : D → Held) (before after : Option (Fuse D)) (old : Fuse D) → before ≡ Some old → EachAs (λ a b. Leaves (held a) (held b)) before after
    → Leaves (held (device_of old)) (option_map_or (λ f. held (device_of f)) after (λ m. None))
images-option held None after old is each = absurd (cc)
images-option held (Some a) None old is each = absurd each
images-option held (Some a) (Some b) old is each = subst (λ o. IfSome o (λ f. Leaves (held (device_of f)) (held (device_of b)))) is each

-- restarted devices are images of what they were
pub restarted-images : {D : Type 0} (held : D → Held) (xs ys : List (Fuse D)) → EachDevice (λ a b. Leaves (held a) (held b)) xs ys → AreImages held xs (held_at held ys)
restarted-images held xs ys each n old is = images-option held (slice_get xs n) (slice_get ys n) old is (each n)

rest-option : {D : Type 0} (held : D → Held) (before after : Option (Fuse D)) → EachAs (λ a b. Leaves (held a) (held b)) before after → IsAtRest (option_map_or (λ f. held (device_of f)) after (λ m. None))
rest-option held None None each n file is = absurd (cc)
rest-option held None (Some b) each n file is = absurd each
rest-option held (Some a) None each n file is = absurd each
rest-option held (Some a) (Some b) each n file is = image-at_rest (held (device_of a)) (held (device_of b)) each n file is

-- and they are at rest
pub restarted-rest : {D : Type 0} (held : D → Held) (xs ys : List (Fuse D)) → EachDevice (λ a b. Leaves (held a) (held b)) xs ys → AreAtRest (held_at held ys)
restarted-rest held xs ys each n = rest-option held (slice_get xs n) (slice_get ys n) (each n)

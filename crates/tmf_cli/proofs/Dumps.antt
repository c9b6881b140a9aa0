-- Which devices of dumps have a dump, and which have none.
use Rattle.std.specs.Prelude.{slice_get, Option, Some, None}
use Rattle.std.specs.Option.{option_map_or}
use Rattle.std.proofs.Common.{◌≡◌, ◌⊎◌, ◌<◌, ◌≤◌, ◌+◌, ℕ, List, length, refl, sym, ap, subst, ◌∙◌, inr, arith}
use Rattle.std.proofs.lemmas.Option.{none-some}
use Rattle.disk_model.specs.Devices.{AreImages, FuseAs, NoneFalls, held_at}
use Rattle.disk_model.specs.Fuse.{device_of, fuse_faults}
use Rattle.disk_model.specs.Held.{File, Held, Leaves, LeavesAt, LeavesFile}
use Rattle.disk_model.specs.declared.fuse.Fuse.{Fuse}
use Rattle.disk_model.proofs.Devices.{was-at}
use Rattle.tmf_model.specs.declared.config.Config.{Config}
use Rattle.tmf_model.specs.Config.{IsDeclared, IsValidConfig}
use Rattle.block_cache.specs.Created.{IsSurelyLost}
use Rattle.single_law.specs.Dumps.{IsSurelyDumped}
use Rattle.volume_restore.specs.Formatted.{IsCleared}
use Rattle.volume_recovery.specs.VolumeFormat.{AreMadeAnew}
use Rattle.volume_recovery.specs.VolumeNode.{dump_device}
use Rattle.tmf_cli.specs.OutputLaw.{AreCleared, KeepsDumps}
use Rattle.tmf_cli.proofs.Bays.{held-is}

-- an image of an image is one of the first
file-leaves : (a b c : File) → LeavesFile a b → LeavesFile b c → LeavesFile a c
file-leaves a b c one two = record {
  same = λ i below safe. two.same i (let length_is = one.synced in let more = one.no_shorter in omega (arith, below, length_is, more)) (one.settled i) ∙ one.same i below safe;
  no_shorter = let length_is = one.synced in omega (arith, one.no_shorter, length_is, two.no_shorter);
  no_longer = two.no_longer;
  settled = two.settled;
  synced = two.synced;
}

leaves-then : (a b c : Held) → Leaves a b → Leaves b c → Leaves a c
leaves-then a b c one two n = of (a n) (b n) (c n) (one n) (two n)
  where
    of : (x y z : Option File) → LeavesAt x y → LeavesAt y z → LeavesAt x z
    of None None None f g = tt
    of None None (Some z) f g = absurd g
    of None (Some y) z f g = absurd f
    of (Some x) None z f g = absurd f
    of (Some x) (Some y) None f g = absurd g
    of (Some x) (Some y) (Some z) f g = file-leaves x y z f g

-- no image has a file that is not there
no-file : (held image : Held) (n : ℕ) → Leaves held image → held n ≡ None → (f : File) → image n ≡ Some f → ⊥
no-file held image n leaves none f there = subst (λ o. LeavesAt o (Some f)) none (subst (LeavesAt (held n)) there (leaves n))

-- a device without a file of a dump has no dump, whatever a crash leaves
pub cleared-lost : (held : Held) → IsCleared held → IsSurelyLost held
cleared-lost held cleared image leaves f there = absurd (no-file held image 1 leaves (cleared 1 (record { above = omega arith; below = omega arith })) f there)

-- no image has a file where there was none
cleared-image : (held image : Held) → IsCleared held → Leaves held image → IsCleared image
cleared-image held image cleared leaves file within = of (held file) (image file) (leaves file) (cleared file within)
  where
    of : (old new : Option File) → LeavesAt old new → old ≡ None → new ≡ None
    of None None left is = refl
    of None (Some f) left is = absurd left
    of (Some f) new left is = absurd (cc is)

-- a fuse that is gone was not there
gone-before : {D : Type 0} (P : Fuse D → Fuse D → Type 0) (old new : Option (Fuse D)) → FuseAs P old new → new ≡ None → old ≡ None
gone-before P None new each gone = refl
gone-before P (Some a) None each gone = absurd each
gone-before P (Some a) (Some b) each gone = absurd (none-some b (sym gone))

module _ {D : Type 0} (held : D → Held) (config : Config) where
  -- behind a format no file of a dump is there
  pub dumps-formatted : (new : List (Fuse D)) → AreMadeAnew held config new → AreCleared held config new
  dumps-formatted new made = λ volume declared. let there = made.dumps volume declared in subst IsCleared (held-is held new (dump_device volume) there.0 there.1) there.2

  -- so no dump is there
  pub dumps-cleared : (new : List (Fuse D)) → AreCleared held config new → (volume : ℕ) → IsDeclared config.volumes volume → IsSurelyLost (held_at held new (dump_device volume))
  dumps-cleared new cleared volume declared = cleared-lost (held_at held new (dump_device volume)) (cleared volume declared)

  -- devices of dumps that hold what they held keep their dumps
  pub dumps-same : (old new : List (Fuse D)) → ((volume : ℕ) → IsDeclared config.volumes volume → held_at held new (dump_device volume) ≡ held_at held old (dump_device volume)) → KeepsDumps held config old new
  dumps-same old new same = record {
    none = λ volume declared none. subst IsSurelyLost (sym (same volume declared)) none;
    kept = λ volume declared there. subst (IsSurelyDumped config volume) (sym (same volume declared)) there;
  }

  -- a recovery leaves each of them an image of what it held: so what is so of it, and with it of each of its images, stays so
  each-recovered : (P : ℕ → Held → Type 0) → ((volume : ℕ) (was image : Held) → P volume was → Leaves was image → P volume image) → (faults : D → ℕ) (old new : List (Fuse D)) → IsValidConfig config → NoneFalls faults old new → (images : ℕ → Held) → AreImages held old images
      → ((n : ℕ) (fuse : Fuse D) → 0 < n → (n ≤ 4) ⊎ (4 + length config.volumes < n) → slice_get new n ≡ Some fuse → held (device_of fuse) ≡ images n)
      → (volume : ℕ) → IsDeclared config.volumes volume → P volume (held_at held old (dump_device volume)) → P volume (held_at held new (dump_device volume))
  each-recovered P left faults old new valid falls images are others volume declared so = of (slice_get new (dump_device volume)) refl
    where
      number : ℕ
      number = dump_device volume

      what : Option (Fuse D) → Held
      what o = option_map_or (λ fuse. held (device_of fuse)) o (λ m. None)

      of : (o : Option (Fuse D)) → slice_get new number ≡ o → P volume (held_at held new number)
      of None is = subst (P volume) (ap what (gone-before (λ a b. fuse_faults faults a ≤ fuse_faults faults b) (slice_get old number) (slice_get new number) (falls number) is) ∙ sym (ap what is)) so
      of (Some fuse) is =
          let before = was-at (λ a b. fuse_faults faults a ≤ fuse_faults faults b) old new number fuse falls is in
          let was : P volume (held (device_of before.0)) = subst (P volume) (sym (held-is held old number before.0 before.1)) so in
          let image : P volume (images number) = left volume (held (device_of before.0)) (images number) was (are number before.0 before.1) in
          subst (P volume) (held-is held new number fuse is)
          (subst (P volume) (sym (others number fuse (omega (arith, declared.above)) (inr (let few = valid.volumes.few in omega (arith, few, declared.above))) is)) image)

  -- it keeps the dumps,
  pub dumps-recovered : (faults : D → ℕ) (old new : List (Fuse D)) → IsValidConfig config → NoneFalls faults old new → (images : ℕ → Held) → AreImages held old images
      → ((n : ℕ) (fuse : Fuse D) → 0 < n → (n ≤ 4) ⊎ (4 + length config.volumes < n) → slice_get new n ≡ Some fuse → held (device_of fuse) ≡ images n) → KeepsDumps held config old new
  dumps-recovered faults old new valid falls images are others = record {
    none = each-recovered (λ volume. IsSurelyLost) (λ volume was image lost leaves left again. lost left (leaves-then was image left leaves again)) faults old new valid falls images are others;
    kept = each-recovered (IsSurelyDumped config) (λ volume was image there leaves left again. there left (leaves-then was image left leaves again)) faults old new valid falls images are others;
  }

  -- and leaves none of their files where there was none
  pub cleared-recovered : (faults : D → ℕ) (old new : List (Fuse D)) → IsValidConfig config → NoneFalls faults old new → (images : ℕ → Held) → AreImages held old images
      → ((n : ℕ) (fuse : Fuse D) → 0 < n → (n ≤ 4) ⊎ (4 + length config.volumes < n) → slice_get new n ≡ Some fuse → held (device_of fuse) ≡ images n) → AreCleared held config old → AreCleared held config new
  cleared-recovered faults old new valid falls images are others none volume declared =
      each-recovered (λ v. IsCleared) (λ v was image cleared leaves. cleared-image was image cleared leaves) faults old new valid falls images are others volume declared (none volume declared)

-- The devices of a bay before and after calls.
use Rattle.std.specs.Prelude.{slice_get, Option, Some, None, IsTrue}
use Rattle.std.specs.Option.{option_map_or}
use Rattle.std.proofs.Common.{◌≡◌, ℕ, Bool, List, refl, sym, ap, subst}
use Rattle.disk_model.specs.Fuse.{device_of}
use Rattle.disk_model.specs.Held.{Held, Leaves}
use Rattle.disk_model.specs.declared.fuse.Fuse.{Fuse}
use Rattle.disk_model.specs.Devices.{DevicesTell, AreImages, AreHeld, EachAs, KeepTelling, HoldSame, held_at}

module _ {D : Type 0} (P : D → D → Type 0) where
  -- a device that is there afterwards was there before
  pub each-new : (old new : Option (Fuse D)) (fuse : Fuse D) → EachAs P old new → new ≡ Some fuse → (before : Fuse D) × (old ≡ Some before) × P (device_of before) (device_of fuse)
  each-new None None fuse each is = absurd (cc)
  each-new None (Some after) fuse each is = absurd each
  each-new (Some before) None fuse each is = absurd each
  each-new (Some before) (Some after) fuse each is = let same : after ≡ fuse = cc in (before, refl, subst (λ f. P (device_of before) (device_of f)) same each)

  -- a device that was there before is there afterwards
  pub each-old : (old new : Option (Fuse D)) (fuse : Fuse D) → EachAs P old new → old ≡ Some fuse → (after : Fuse D) × (new ≡ Some after) × P (device_of fuse) (device_of after)
  each-old None new fuse each is = absurd (cc)
  each-old (Some before) None fuse each is = absurd each
  each-old (Some before) (Some after) fuse each is = let same : before ≡ fuse = cc in (after, refl, subst (λ f. P (device_of f) (device_of after)) same each)

module _ {D : Type 0} (tells : D → Bool) where
  pub tell-on : (old new : List (Fuse D)) → KeepTelling tells old new → DevicesTell tells old → DevicesTell tells new
  tell-on old new keep tell = λ n fuse is.
      let before = each-new (λ a b. tells b ≡ tells a) (slice_get old n) (slice_get new n) fuse (keep n) is in
      subst IsTrue (sym before.2) (tell n before.0 before.1)

module _ {D : Type 0} (held : D → Held) where
  -- what the devices hold, by their numbers
  pub held-is : (devices : List (Fuse D)) → AreHeld held devices (held_at held devices)
  held-is devices = λ n fuse is. ap (λ o. option_map_or (λ f. held (device_of f)) o (λ m. None)) (sym is)

  pub held-there : (old new : Option (Fuse D)) → EachAs (λ a b. held b ≡ held a) old new → option_map_or (λ f. held (device_of f)) new (λ m. None) ≡ option_map_or (λ f. held (device_of f)) old (λ m. None)
  held-there None None each = refl
  held-there None (Some b) each = absurd each
  held-there (Some a) None each = absurd each
  held-there (Some a) (Some b) each = each

  -- devices that hold what they held
  pub held-same : (old new : List (Fuse D)) → HoldSame held old new → held_at held new ≡ held_at held old
  held-same old new same = λ i n. held-there (slice_get old n) (slice_get new n) (same n) i

  -- leave the images that they left
  pub images-same : (old new : List (Fuse D)) (images : ℕ → Held) → HoldSame held old new → AreImages held new images → AreImages held old images
  images-same old new images same are = λ n fuse is.
      let after = each-old (λ a b. held b ≡ held a) (slice_get old n) (slice_get new n) fuse (same n) is in
      subst (λ h. Leaves h (images n)) after.2 (are n after.0 after.1)

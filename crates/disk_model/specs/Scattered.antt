-- Bytes of a file on their way to an image.
use Rattle.std.specs.Prelude.{◌≡◌, ℕ, suc, ◌<◌, ◌≤◌, ◌||◌, Bool, true, false, nat_le, List, length, slice_index}
use Rattle.disk_model.specs.Extent.{is_at_risk}
use Rattle.disk_model.specs.Image.{count_below, number_after, picked}
use Rattle.disk_model.specs.declared.base.Base.{Base}
use Rattle.disk_model.specs.declared.extent.Extent.{Extent}

-- whether the byte at an offset is at risk
abbrev pub is_told : Base → List Extent → ℕ → Bool
is_told base risk i = nat_le base.length i || is_at_risk risk i

-- the first n bytes are those of an image, the others are as they were, and y is the number behind those of the bytes at risk among the first
pub record IsScattered (tells : ℕ → Bool) (earlier : ℕ → ℕ → ℕ) (x : ℕ) (old new : List ℕ) (n y : ℕ) : Type 0 where
  pub safe : (i : ℕ) → i < n → tells i ≡ false → slice_index new i ≡ slice_index old i
  pub risked : (i : ℕ) → i < n → tells i ≡ true → slice_index new i ≡ picked (number_after x (suc (count_below tells i))) (slice_index old i) (earlier i (slice_index old i))
  pub rest : (i : ℕ) → n ≤ i → slice_index new i ≡ slice_index old i
  pub number : y ≡ number_after x (count_below tells n)
  pub long : length new ≡ length old

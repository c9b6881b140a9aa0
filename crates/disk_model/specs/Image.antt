-- Which image of its files a memory disk picks.
use Rattle.std.specs.Prelude.{◌≡◌, ℕ, zero, suc, ◌+◌, ◌*◌, ◌/◌, ◌%◌, ◌^◌, ◌<◌, ◌≤◌, ◌==◌, ◌||◌, Bool, true, false, nat_le, length, slice_index, Option, Some, None, if◌then◌else◌}
use Rattle.disk_model.specs.Held.{File, Held}

-- the number behind x in the row of a choice
abbrev pub next_number : ℕ → ℕ
next_number x = (1103515245 * x + 12345) % 2 ^ 31

-- the number so many steps behind x
abbrev pub number_after : ℕ → ℕ → ℕ
number_after x zero = x
number_after x (suc steps) = next_number (number_after x steps)

-- how many of the first n offsets are among those that are told
abbrev pub count_below : (ℕ → Bool) → ℕ → ℕ
count_below tells zero = 0
count_below tells (suc n) = if tells n then suc (count_below tells n) else count_below tells n

-- whether the byte at an offset is at risk: it is in a range at risk, or past the synced length
abbrev pub is_risked : File → ℕ → Bool
is_risked file i = nat_le file.synced i || file.risk i

-- how many bytes at risk a file has, where it is there
abbrev pub risked_in : Option File → ℕ
risked_in None = 0
risked_in (Some file) = count_below (is_risked file) (length file.bytes)

-- how many bytes at risk the files have whose numbers are below n
abbrev pub risked_below : Held → ℕ → ℕ
risked_below held zero = 0
risked_below held (suc n) = risked_below held n + risked_in (held n)

-- what x leaves of a byte at risk: that byte, an earlier one, or a part of x
abbrev pub picked : ℕ → ℕ → ℕ → ℕ
picked x now earlier = if x % 3 == 0 then now else (if x % 3 == 1 then earlier else x / 65536 % 256)

-- The image of a file, where x is the number before that of its first byte at risk. Each byte at risk has the number of its place among them.
pub record IsImage (cut : Bool) (x : ℕ) (earlier : ℕ → ℕ) (file image : File) : Type 0 where
  pub length_is : length image.bytes ≡ (if cut then file.synced else length file.bytes)
  pub safe : (i : ℕ) → i < length image.bytes → is_risked file i ≡ false → slice_index image.bytes i ≡ slice_index file.bytes i
  pub risked : (i : ℕ) → i < length image.bytes → is_risked file i ≡ true
      → slice_index image.bytes i ≡ picked (number_after x (suc (count_below (is_risked file) i))) (slice_index file.bytes i) (earlier i)

-- The images of the files, where x is the number before that of the first byte at risk: the numbers go on from file to file, in rising order.
abbrev pub AreImages : Bool → ℕ → (ℕ → ℕ → ℕ) → Held → Held → Type 0
AreImages cut x earlier held image = (n : ℕ) (file new : File) → held n ≡ Some file → image n ≡ Some new → IsImage cut (number_after x (risked_below held n)) (earlier n) file new

-- y is the number behind those of all bytes at risk
abbrev pub IsBehindAll : ℕ → Held → ℕ → Type 0
IsBehindAll x held y = (last : ℕ) → ((n : ℕ) → last ≤ n → held n ≡ None) → y ≡ number_after x (risked_below held last)

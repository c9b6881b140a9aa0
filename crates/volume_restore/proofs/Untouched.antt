-- A file of a volume that is fine, of whose keys nothing was found: each of its blocks has what it gets.
use Rattle.std.proofs.Common.{◌≡◌, ℕ, zero, suc, ◌+◌, ◌-◌, ◌<◌, ◌≤◌, List, [], length, refl, sym, ap, subst, arith}
use Rattle.std.specs.Prelude.{Option, None, Some, slice_get}
use Rattle.std.specs.BTreeMap.{is_at}
use Rattle.std.specs.Cmp.Lexicographic.{slice_cmp}
use Rattle.std.specs.Map.{lookup}
use Rattle.std.specs.Ordering.{nat_cmp}
use Rattle.std.proofs.lemmas.List.{nil_from_length}
use Rattle.disk_model.specs.Held.{Held}
use Rattle.tmf_model.specs.declared.config.Config.{Config}
use Rattle.keyed_file.specs.declared.home.Home.{Home}
use Rattle.keyed_file.specs.Block.{KeyedBlock, value_at}
use Rattle.keyed_file.specs.Volume.{Contents}
use Rattle.trail_files.specs.declared.damage.Damage.{Damage}
use Rattle.block_cache.specs.declared.contents.Change.{Change}
use Rattle.block_cache.specs.Shows.{SpellsContent}
use Rattle.block_cache.proofs.Shown.{shows-fine}
use Rattle.trail_replay.specs.declared.replay.FoundFiles.{FoundFiles}
use Rattle.trail_replay.specs.Replay.{maps_of}
use Rattle.volume_restore.specs.Changed.{Changes, change_of, changed_value, changed_values}
use Rattle.volume_restore.specs.Damage.{AreBlocksFine, blocks_on}
use Rattle.volume_restore.specs.Pass.{AreShown, HasPassed, home_on}
use Rattle.volume_restore.specs.Restored.{HasRoomFor, IsRestored, WereFound, WereFoundAt}
use Rattle.volume_restore.proofs.Holding.{some_same}
use Rattle.volume_restore.proofs.Parts.{room_of}
use Rattle.volume_restore.proofs.Passing.{full-stays, passed-file, stays-next}
use Rattle.volume_restore.proofs.Seeing.{restored-of, room-for}

-- no key has a change in a map without one
pub nothing-in : (found : Changes) → length found.entries ≡ 0 → (key : List ℕ) → change_of found key ≡ None
nothing-in found none key = ap (λ (es : List (List ℕ × Option (List ℕ))). lookup (is_at (slice_cmp nat_cmp key)) es) (nil_from_length found.entries none)

-- a volume whose blocks show contents has none that is wrong
pub fine-shown : (config : Config) (volume : ℕ) (held : Held) (was : Contents) → AreShown config volume held was → AreBlocksFine config volume held
fine-shown config volume held was shown = record {
  fine = λ file number within. shows-fine (home_on config volume file number) (was file number) held within (shown file number within);
  shown = λ file number within. (was file number, shown file number within);
}

module _ (files : FoundFiles) (held : Held) (home : Home) (found : Changes) (were : WereFound files home.file found) (none : (key : List ℕ) → change_of found key ≡ None) (w : KeyedBlock) where
  found-at : WereFoundAt files home found
  found-at other were_other = λ key lives. ap (λ (x : Changes). change_of x key) (some_same found other (slice_get (maps_of files) (home.file - 1)) were were_other)

  as-was : (key : List ℕ) → value_at w key ≡ changed_values found w key
  as-was key = sym (ap (λ change. changed_value change (value_at w key)) (none key))

  -- it is restored as it is
  pub restored-whole : IsRestored files home w w
  restored-whole = restored-of files home found w found-at w (record { values = λ key lives. as-was key; same = λ unchanged. refl })

  -- and has room
  pub room-whole : SpellsContent home w held → HasRoomFor files home w
  room-whole shows = room-for files home found w found-at (room_of home (changed_values found w) w shows.valid.valid (λ key lives. as-was key))

module _ (config : Config) (volume : ℕ) (files : FoundFiles) (held : Held) (file : ℕ) (found : Changes) (fine : AreBlocksFine config volume held) (were : WereFound files file found) (none : (key : List ℕ) → change_of found key ≡ None) where
  one-more : (n : ℕ) (full : Option Damage) (row : List Change) → n < blocks_on config volume file → HasPassed config volume files held file n full row → HasPassed config volume files held file (n + 1) full row
  one-more n None row within passed =
      let home : Home = home_on config volume file n in
      let shows = fine.shown file n within in
      stays-next config volume files held home shows.0 refl within shows.1 row (restored-whole files held home found were none shows.0) (room-whole files held home found were none shows.0 shows.1) passed
  one-more n (Some d) row within passed =
      let shows = fine.shown file n within in
      full-stays config volume files held (home_on config volume file n) shows.0 refl within shows.1 d row passed

  to-end : (n : ℕ) (full : Option Damage) (row : List Change) → n ≤ blocks_on config volume file → HasPassed config volume files held file 0 full row → HasPassed config volume files held file n full row
  to-end zero full row le passed = passed
  to-end (suc n) full row le passed =
      let next : n + 1 ≡ suc n = omega arith in
      subst (λ (m : ℕ). HasPassed config volume files held file m full row) next (one-more n full row (omega (arith, le)) (to-end n full row (omega (arith, le)) passed))

  -- a pass may go on behind it
  pub passed-whole : (full : Option Damage) (row : List Change) → HasPassed config volume files held file 0 full row → HasPassed config volume files held (file + 1) 0 full row
  passed-whole full row passed = passed-file config volume files held file (blocks_on config volume file) full row refl (to-end (blocks_on config volume file) full row (omega arith) passed)

-- What the images of a volume on the way of its recovery say.
use Rattle.std.proofs.Common.{◌≡◌, ◌⊎◌, inl, inr, ⊎_elim, ℕ, ◌<◌, ◌≤◌, Bool, true, false, List, refl, sym, ap, ◌∙◌, arith}
use Rattle.std.specs.Prelude.{Option, Some, None, ◌==◌, if◌then◌else◌}
use Rattle.std.specs.Option.{option_map_or}
use Rattle.std.proofs.lemmas.Bool.{cases_Bool}
use Rattle.std.proofs.lemmas.Bool.Decides.{nat_tests}
use Rattle.disk_model.specs.Held.{Held}
use Rattle.tmf_model.specs.declared.config.Config.{Config}
use Rattle.tmf_model.specs.declared.config.FileLine.{FileLine}
use Rattle.tmf_model.specs.Commits.{numbered}
use Rattle.tmf_model.specs.Config.{IsValidConfig}
use Rattle.tmf_model.specs.Place.{block_of}
use Rattle.tmf_model.specs.RecordMap.{RecordMap}
use Rattle.trail_files.specs.declared.audit_record.AuditRecord.{AuditRecord}
use Rattle.trail_files.specs.declared.monitor_record.MonitorRecord.{MonitorRecord}
use Rattle.trail_files.specs.StandsFor.{Base}
use Rattle.keyed_file.specs.Block.{KeyedBlock, value_at}
use Rattle.keyed_file.specs.Volume.{Contents, blocks_of, files_on, map_of}
use Rattle.block_cache.specs.Rewrite.{AreMixed}
use Rattle.block_cache.specs.Volume.{HasBase}
use Rattle.volume_restore.specs.Bases.{IsPartlyRecovered, IsRecoveredBase, IsRewritten, MayRewrite, next_behind, recovered_from, volume_on}
use Rattle.volume_restore.specs.Damage.{blocks_on}
use Rattle.volume_restore.proofs.Adding.{in_file}
use Rattle.volume_restore.proofs.OnVolume.{line_blocks, line_declared}

-- the line of a file that lies on a volume
on-line : (config : Config) (volume file : ℕ) → 1 ≤ volume → volume_on config file ≡ volume → (line : FileLine) × (numbered config.files file ≡ Some line) × (line.volume ≡ volume)
on-line config volume file some on = with-line (numbered config.files file) refl on
  where
    with-line : (o : Option FileLine) → numbered config.files file ≡ o → option_map_or (λ l. l.volume) o 0 ≡ volume → (line : FileLine) × (numbered config.files file ≡ Some line) × (line.volume ≡ volume)
    with-line None is none = absurd (omega (arith, some, none))
    with-line (Some line) is same = (line, is, same)

-- it has blocks there
some-blocks : (config : Config) (volume file : ℕ) → IsValidConfig config → 1 ≤ volume → volume_on config file ≡ volume → 0 < blocks_on config volume file
some-blocks config volume file valid some on =
    let line = on-line config volume file some on in
    let count : blocks_on config volume file ≡ line.0.blocks = ap (λ (v : ℕ). blocks_on config v file) (sym line.2) ∙ line_blocks config file line.0 line.1 in
    let few = (line_declared config file line.0 valid line.1).1 in
    omega (arith, count, few.above)

not_none : (blocks : ℕ) → 0 < blocks → blocks == 0 ≡ false
not_none blocks some = grind (arith, nat_tests)

is_none : (blocks : ℕ) → blocks == 0 ≡ true → blocks ≡ 0
is_none blocks none = grind (arith, nat_tests)

is_some : (blocks : ℕ) → blocks == 0 ≡ false → 0 < blocks
is_some blocks some = grind (arith, nat_tests)

-- what the blocks of a file say of a key
of-blocks : (files : List (ℕ × ℕ)) (contents : Contents) (file : ℕ) (key : List ℕ) → 0 < blocks_of files file → map_of files contents file key ≡ value_at (contents file (block_of key (blocks_of files file))) key
of-blocks files contents file key some = ap (λ (b : Bool). if b then None else value_at (contents file (block_of key (blocks_of files file))) key) (not_none (blocks_of files file) some)

-- mixed blocks say of each key what the old ones do, or the map
mixed-key : (files : List (ℕ × ℕ)) (was shown : Contents) (map : RecordMap) (file : ℕ) (key : List ℕ) → AreMixed files was map shown
    → (map_of files shown file key ≡ map_of files was file key) ⊎ (map_of files shown file key ≡ map file key)
mixed-key files was shown map file key mixed =
    let blocks : ℕ = blocks_of files file in
    ⊎_elim
    (λ none. inl (ap (λ (b : Bool). if b then None else value_at (shown file (block_of key blocks)) key) none ∙ sym (ap (λ (b : Bool). if b then None else value_at (was file (block_of key blocks)) key) none)))
    (λ has.
    let some : 0 < blocks = is_some blocks has in
    ⊎_elim
    (λ old. inl (of-blocks files shown file key some ∙ ap (λ (b : KeyedBlock). value_at b key) old ∙ sym (of-blocks files was file key some)))
    (λ new. inr (of-blocks files shown file key some ∙ new key refl))
    (mixed file (block_of key blocks) (in_file key blocks some)))
    (cases_Bool (blocks == 0))

module _ (config : Config) (volume low : ℕ) (was : Contents) (audit : List AuditRecord) (list : List MonitorRecord) (image : Held) (valid : IsValidConfig config) (some : 1 ≤ volume) where
  pub whole-image : IsRewritten config volume low was audit list image → (base : Base) × HasBase config volume image (Some base) × IsRecoveredBase config volume low was audit list base
  whole-image is = (
    record { records = map_of (files_on volume 1 config.files) is.0; position = next_behind volume low audit },
    (is.0, is.1, refl),
    record {
      position = refl;
      values = λ file key on.
          let has : 0 < blocks_on config volume file = some-blocks config volume file valid some on in
          of-blocks (files_on volume 1 config.files) is.0 file key has ∙ is.2 file (block_of key (blocks_on config volume file)) (in_file key (blocks_on config volume file) has) key refl;
    },
  )

  pub way-image : MayRewrite config volume low was audit list image
      → (base : Base) × HasBase config volume image (Some base) × (IsPartlyRecovered config volume low was audit list base ⊎ IsRecoveredBase config volume low was audit list base)
  way-image is =
      ⊎_elim
      (λ old. (
        record { records = map_of (files_on volume 1 config.files) is.0; position = low },
        (is.0, old.0, refl),
        inl (record { position = refl; values = λ file key. mixed-key (files_on volume 1 config.files) was is.0 (recovered_from config volume low was audit list) file key old.1 }),
      ))
      (λ new. let one = whole-image (is.0, new.0, new.1) in (one.0, one.1, inr one.2))
      is.1

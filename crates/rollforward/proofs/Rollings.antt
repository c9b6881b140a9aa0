-- What a rollforward has read, and what it makes of that.
use Rattle.std.specs.Prelude.{slice_get, ◌==◌, ◌-◌, if◌then◌else◌, unwrap_or, filter}
use Rattle.std.specs.Option.{option_map_or}
use Rattle.std.proofs.Common.{zero, suc, ◌≡◌, inl, inr, ℕ, ◌+◌, ◌<◌, ◌≤◌, Bool, true, false, cond, List, [], ◌∷◌, length, Option, None, Some, refl, sym, ap, subst, ◌∙◌, arith, eq-eqb, eqb-true}
use Rattle.std.proofs.lemmas.Bool.Decides.{nat_tests}
use Rattle.std.proofs.lemmas.Option.{slice_get_within, slice_get-get_or, get_or_from_slice_get, slice_get_cases, unwrap_or-slice_get}
use Rattle.std.proofs.lemmas.List.Elements.{All-get_or}
use Rattle.disk_model.specs.Held.{Held}
use Rattle.tmf_model.specs.Commits.{numbered}
use Rattle.tmf_model.specs.Config.{IsDeclared, IsNumber, IsValidConfig, IsWithin}
use Rattle.tmf_model.specs.Place.{block_of}
use Rattle.tmf_model.specs.declared.config.Config.{Config}
use Rattle.tmf_model.specs.declared.config.FileLine.{FileLine}
use Rattle.tmf_model.specs.declared.config.Volume.{Volume}
use Rattle.keyed_file.specs.declared.home.Home.{Home}
use Rattle.keyed_file.specs.Block.{KeyedBlock, value_at}
use Rattle.keyed_file.specs.Dump.{blocks_before}
use Rattle.keyed_file.specs.Volume.{blocks_of, files_on, map_of}
use Rattle.trail_files.specs.declared.audit_record.AuditRecord.{AuditRecord}
use Rattle.trail_files.specs.declared.damage.Damage.{Damage}
use Rattle.trail_files.specs.declared.monitor_record.MonitorRecord.{MonitorRecord}
use Rattle.trail_files.specs.AuditRecord.{audit_format}
use Rattle.trail_files.specs.MonitorRecord.{monitor_format}
use Rattle.trail_files.specs.Text.{Spells}
use Rattle.trail_files.specs.Recovered.{after_last_of, before_first_of, is_committed, kept_records, records_on}
use Rattle.trail_files.specs.StandsFor.{next_position}
use Rattle.trail_replay.specs.declared.replay.FoundFiles.{FoundFiles}
use Rattle.trail_replay.specs.Found.{value_found}
use Rattle.trail_replay.specs.Home.{LiesOn}
use Rattle.trail_replay.specs.Replay.{maps_of}
use Rattle.trail_replay.specs.Rules.{rules_of}
use Rattle.volume_restore.specs.Bases.{next_behind, volume_on}
use Rattle.volume_restore.specs.Changed.{Changes, IsOverfull, change_of, changed_value, changed_values}
use Rattle.volume_restore.specs.Damage.{blocks_on}
use Rattle.volume_restore.specs.Found.{AreFoundFor}
use Rattle.volume_restore.specs.Restored.{WereFound}
use Rattle.volume_restore.specs.declared.changes.DiscPlace.{DiscPlace}
use Rattle.volume_restore.specs.declared.changes.NodeChanges.{NodeChanges}
use Rattle.volume_restore.proofs.Adding.{in_file}
use Rattle.rollforward.specs.Filled.{HaveRoom, Records, base_filled, values_of}
use Rattle.rollforward.specs.Reading.{HasDumped, IsPlaced, contents_in, dump_of}
use Rattle.rollforward.specs.Rolled.{AreRolled, HaveFound, IsFirstFullOf}
use Rattle.rollforward.specs.Rolls.{IsFirstOverfull, RollsForward, rolled_map, trail_on}
use Rattle.rollforward.specs.declared.dump.Dumped.{Dumped}
use Rattle.block_cache.proofs.Caches.{same_or_other}
use Rattle.rollforward.proofs.Gathers.{of_there}
use Rattle.rollforward.proofs.HomeRows.{files-on, home_at, home_is, some_blocks}
use Rattle.rollforward.proofs.Maps.{SameIn, overfull_as, room_as}

-- the position behind a dump is the same whether its start is taken for that of a base or of a dump
next-flip : (kept : List AuditRecord) (start : ℕ) → next_position kept (Some start) None ≡ next_position kept None (Some start)
next-flip [] start = omega arith
next-flip (r ∷ rest) start = refl

-- what was found of a key gives it the recovered value
recovered-as : (list : List MonitorRecord) (own : List AuditRecord) (base : Option (List ℕ)) → changed_value (value_found list own) base ≡ after_last_of (filter (is_committed list) own) (before_first_of own base)
recovered-as list [] base = refl
recovered-as list (r ∷ rest) base = refl

-- the files of a volume have blocks
files-have : (volume number : ℕ) (lines : List FileLine) (i : ℕ) (line : FileLine) → slice_get lines i ≡ Some line → line.volume ≡ volume → 1 ≤ line.blocks → 0 < blocks_of (files_on volume number lines) (number + i)
files-have volume number [] i line at on some = absurd (cc)
files-have volume number (l ∷ lines) zero line at on some =
    let same : l ≡ line = some_is l line at in
    let here : l.volume == volume ≡ true = eq-eqb l.volume volume (ap (λ (x : FileLine). x.volume) same ∙ on) in
    let first : (number + 0) == number ≡ true = eq-eqb (number + 0) number (omega arith) in
    let blocks : l.blocks ≡ line.blocks = ap (λ (x : FileLine). x.blocks) same in
    rw (here, first) (omega (arith, blocks, some))
  where
    some_is : {X : Type 0} (a b : X) → Some a ≡ Some b → a ≡ b
    some_is a b e = cc
files-have volume number (l ∷ lines) (suc i) line at on some =
    let behind : 0 < blocks_of (files_on volume (number + 1) lines) (number + 1 + i) = files-have volume (number + 1) lines i line at on some in
    let next : number + 1 + i ≡ number + suc i = omega arith in
    let here : 0 < blocks_of (files_on volume (number + 1) lines) (number + suc i) = subst (λ (n : ℕ). 0 < blocks_of (files_on volume (number + 1) lines) n) next behind in
    let other : (number + suc i) == number ≡ false = grind (arith, nat_tests) in
    (elim (l.volume == volume) as (λ b. 0 < blocks_of (if b then (number, l.blocks) ∷ files_on volume (number + 1) lines else files_on volume (number + 1) lines) (number + suc i)) [
      | true ↦ rw other here
      | false ↦ here
    ])

-- the line of a file that lies on a volume
on-line : (config : Config) (volume file : ℕ) → 1 ≤ volume → volume_on config file ≡ volume → (line : FileLine) × (numbered config.files file ≡ Some line) × (line.volume ≡ volume)
on-line config volume file some on = with-line (numbered config.files file) refl on
  where
    with-line : (o : Option FileLine) → numbered config.files file ≡ o → option_map_or (λ l. l.volume) o 0 ≡ volume → (line : FileLine) × (numbered config.files file ≡ Some line) × (line.volume ≡ volume)
    with-line None is none = absurd (omega (arith, some, none))
    with-line (Some line) is same = (line, is, same)

numbered-at : {T : Type 0} (items : List T) (number : ℕ) (item : T) → numbered items number ≡ Some item → IsNumber items number item
numbered-at items zero item is = absurd (cc)
numbered-at items (suc before) item is = let same : suc before - 1 ≡ before = omega arith in (omega arith, ap (slice_get items) same ∙ is)

-- a declared number has its item
pub item-of : {T : Type 0} (items : List T) (number : ℕ) → IsDeclared items number → (x : T) × IsNumber items number x
item-of items number is = elim (slice_get_cases items (number - 1)).1 [
  | inl there ↦ (there.0, (is.above, there.2))
  | inr past ↦ absurd (omega (arith, past.0, is.above, is.below))
]

-- the trail of a volume is that of its line
pub trail-is : (config : Config) (volume : ℕ) (line : Volume) → IsNumber config.volumes volume line → trail_on config volume ≡ line.trail
trail-is config volume line is = ap (λ (o : Option Volume). option_map_or (λ (v : Volume). v.trail) o 0) is.1

-- a file of a volume has blocks there
blocks-some : (config : Config) (volume file : ℕ) → IsValidConfig config → IsDeclared config.volumes volume → volume_on config file ≡ volume → 0 < blocks_on config volume file
blocks-some config volume file valid declared on =
    let line = on-line config volume file declared.above on in
    let at = numbered-at config.files file line.0 line.1 in
    let within = slice_get_within config.files (file - 1) line.0 at.1 in
    let blocks : IsWithin 1 256 line.0.blocks = subst (λ (l : FileLine). IsWithin 1 256 l.blocks) (get_or_from_slice_get config.files (file - 1) line.0 line.0 at.1)
    (All-get_or (λ (f : FileLine). IsWithin 1 256 f.blocks) config.files (file - 1) line.0 within valid.files.blocks) in
    let number : 1 + (file - 1) ≡ file = omega (arith, at.0) in
    subst (λ (n : ℕ). 0 < blocks_on config volume n) number (files-have volume 1 config.files (file - 1) line.0 at.1 line.2 blocks.above)

-- a file that has blocks on a volume has its line
line-of : (volume number : ℕ) (lines : List FileLine) (file : ℕ) → 0 < blocks_of (files_on volume number lines) file → (i : ℕ) × (line : FileLine) × (slice_get lines i ≡ Some line) × (line.volume ≡ volume) × (file ≡ number + i)
line-of volume number [] file some = absurd (omega (arith, some))
line-of volume number (l ∷ lines) file some = (elim (l.volume == volume) as (λ b. l.volume == volume ≡ b → 0 < blocks_of (cond b ((number, l.blocks) ∷ files_on volume (number + 1) lines) (files_on volume (number + 1) lines)) file
    → (i : ℕ) × (line : FileLine) × (slice_get (l ∷ lines) i ≡ Some line) × (line.volume ≡ volume) × (file ≡ number + i)) [
      | true ↦ λ own more. elim (same_or_other file number) [
        | inl is ↦ (0, l, refl, eqb-true l.volume volume own, omega (arith, is))
        | inr other ↦
            let behind = line-of volume (number + 1) lines file (omega (arith, more, of_there (number, l.blocks) (files_on volume (number + 1) lines) file other)) in
            (suc behind.0, behind.1, behind.2, behind.3, omega (arith, behind.4))
      ]
      | false ↦ λ _ more. let behind = line-of volume (number + 1) lines file more in (suc behind.0, behind.1, behind.2, behind.3, omega (arith, behind.4))
    ]) refl some

-- it lies there, and its audit is on the volume's trail
pub lies-of : (config : Config) (volume file : ℕ) → IsDeclared config.volumes volume → 0 < blocks_on config volume file → LiesOn config file volume (trail_on config volume)
lies-of config volume file declared some =
    let line = line-of volume 1 config.files file some in
    let of = item-of config.volumes volume declared in
    let before : line.0 ≡ file - 1 = omega (arith, line.4) in
    record { line = line.1; is_file = (omega (arith, line.4), ap (slice_get config.files) (sym before) ∙ line.2); on_disc = line.3; volume = of.0; is_volume = of.1; on_trail = sym (trail-is config volume of.0 of.1) }

there-or : {X : Type 0} (xs : List X) (n : ℕ) (d : X) → n < length xs → slice_get xs n ≡ Some (unwrap_or (slice_get xs n) d)
there-or xs n d below = slice_get-get_or xs n d below ∙ ap Some (sym (unwrap_or-slice_get xs n d))

not_none : (blocks : ℕ) → 0 < blocks → blocks == 0 ≡ false
not_none blocks some = grind (arith, nat_tests)

module _ (config : Config) (volume : ℕ) (valid : IsValidConfig config) (declared : IsDeclared config.volumes volume) (dump : Dumped) (placed : IsPlaced config volume dump) where
  abbrev files : List (ℕ × ℕ)
  files = files_on volume 1 config.files

  abbrev blocks : List KeyedBlock
  blocks = dump.blocks.items

  abbrev place : ℕ → ℕ → Home
  place file number = record { file = file; number = number; blocks = blocks_of files file }

  -- a block of the dump by its file and its number
  pub home : (file number : ℕ) → number < blocks_of files file → slice_get dump.homes.items (blocks_before files file + number) ≡ Some (place file number)
  home file number below = ap (λ (hs : List Home). slice_get hs (blocks_before files file + number)) placed.homes ∙ home_at files file number below

  pub block : (file number : ℕ) → number < blocks_of files file → slice_get blocks (blocks_before files file + number) ≡ Some (contents_in files blocks file number)
  block file number below =
      let within = slice_get_within dump.homes.items (blocks_before files file + number) (place file number) (home file number below) in
      there-or blocks (blocks_before files file + number) (record { file = file; number = number; position = 0; records = [] }) (omega (arith, within, placed.blocks.many))

  module _ (found : FoundFiles) (many : length (maps_of found) ≡ length config.files) where
    -- what was found of the keys of a file of the volume
    pub found-of : (file : ℕ) → 0 < blocks_of files file → IsWithin 1 (length (maps_of found)) file × ((changes : Changes) × WereFound found file changes)
    found-of file some =
        let within = files-on volume 1 config.files file some in
        let here : IsWithin 1 (length (maps_of found)) file = record { above = within.0; below = omega (arith, within.1, many) } in
        let it = item-of (maps_of found) file here in
        (here, (it.0, it.1.1))

    pub have-found : HaveFound dump.homes.items found
    have-found n at_home is =
        let one = (home_is 0 files n at_home placed.row (ap (λ (hs : List Home). slice_get hs n) (sym placed.homes) ∙ is)).1 in
        let some : 0 < blocks_of files at_home.file = omega (arith, one.within) in
        (subst (IsWithin 1 256) (sym one.blocks) (some_blocks files at_home.file placed.row some), (found-of at_home.file some).0)

    pub have-room : (records : Records) → AreRolled dump.homes.items blocks found records → HaveRoom config volume records
    have-room records rolled file number below =
        let index : ℕ = blocks_before files file + number in
        let was = found-of file (omega (arith, below)) in
        room_as (blocks_of files file) number (changed_values was.1.0 (contents_in files blocks file number)) (values_of records file)
        (λ key lives. rolled.values index (place file number) (contents_in files blocks file number) was.1.0 key (home file number below) (block file number below) was.1.1 lives)
        (rolled.room index (place file number) (contents_in files blocks file number) (home file number below) (block file number below) was.1.0 was.1.1)

  module _ (images : ℕ → Held) (dumped : HasDumped config volume images dump) (changes : NodeChanges) (list : List MonitorRecord) (audit : List AuditRecord)
      (found : AreFoundFor config volume dump.start audit list changes) where
    -- a key of the dump with the changes made has the recovered value
    value-is : (file : ℕ) (key : List ℕ) (was : Changes) → 0 < blocks_of files file → WereFound changes.files file was
        → changed_values was (contents_in files blocks file (block_of key (blocks_of files file))) key ≡ rolled_map volume (dump_of config volume dump.start blocks) list audit file key
    value-is file key was some is =
        let kept : List AuditRecord = kept_records volume dump.start audit in
        let at = found.found file (trail_on config volume) (lies-of config volume file declared some) in
        let same : at.found ≡ was = some_is at.found was (sym at.is_there ∙ is) in
        let change : change_of was key ≡ value_found list (records_on file key kept) = ap (λ (m : Changes). change_of m key) (sym same) ∙ at.is_found key in
        let own : Option (List ℕ) = value_at (contents_in files blocks file (block_of key (blocks_of files file))) key in
        let base : own ≡ map_of files (contents_in files blocks) file key = sym (ap (λ (b : Bool). if b then None else own) (not_none (blocks_of files file) some)) in
        ap (λ (o : Option (Option (List ℕ))). changed_value o own) change ∙ recovered-as list (records_on file key kept) own
        ∙ ap (λ (o : Option (List ℕ)). after_last_of (filter (is_committed list) (records_on file key kept)) (before_first_of (records_on file key kept) o)) base
      where
        some_is : {X : Type 0} (a b : X) → Some a ≡ Some b → a ≡ b
        some_is a b e = cc

    -- the records of a rolled dump are what its volume is to say
    pub rolls : (records : Records) (low next : ℕ) → AreRolled dump.homes.items blocks changes.files records → slice_get changes.places.items (volume - 1) ≡ Some (record { low = low; next = next })
        → Spells monitor_format (images 0) list → Spells (audit_format (rules_of config (trail_on config volume))) (images (trail_on config volume)) audit → RollsForward config volume images (base_filled config volume next records)
    rolls records low next rolled at listed audited = record {
      dump = dump_of config volume dump.start blocks;
      list = list;
      audit = audit;
      read = record { dumped = dumped; listed = listed; audited = audited };
      position = ap (λ (p : DiscPlace). p.next) (some_place (record { low = low; next = next }) (record { low = dump.start; next = next_behind volume dump.start audit }) (sym at ∙ found.place)) ∙ next-flip (kept_records volume 0 audit) dump.start;
      values = λ file key on.
          let some = blocks-some config volume file valid declared on in
          let number : ℕ = block_of key (blocks_of files file) in
          let below : number < blocks_of files file = in_file key (blocks_of files file) some in
          let was = found.found file (trail_on config volume) (lies-of config volume file declared some) in
          ap (λ (b : Bool). if b then None else values_of records file key) (not_none (blocks_of files file) some)
          ∙ rolled.values (blocks_before files file + number) (place file number) (contents_in files blocks file number) was.found key (home file number below) (block file number below) was.is_there refl
          ∙ value-is file key was.found some was.is_there;
    }
      where
        some_place : (a b : DiscPlace) → ◌≡◌ {A = Option DiscPlace} (Some a) (Some b) → a ≡ b
        some_place a b e = cc

    -- the changed values of a block are the map's
    same-values : (file number : ℕ) (was : Changes) → number < blocks_of files file → WereFound changes.files file was
        → SameIn (blocks_of files file) number (changed_values was (contents_in files blocks file number)) (rolled_map volume (dump_of config volume dump.start blocks) list audit file)
    same-values file number was below is key lives =
        sym (ap (λ (n : ℕ). changed_values was (contents_in files blocks file n) key) (sym lives) ∙ value-is file key was (omega (arith, below)) is)

    -- the first block that would hold too much is that of the map
    pub overfull : length (maps_of changes.files) ≡ length config.files → (damage : Damage) → IsFirstFullOf dump.homes.items blocks changes.files damage
        → IsFirstOverfull config volume (rolled_map volume (dump_of config volume dump.start blocks) list audit) damage
    overfull many damage full =
        let one = (home_is 0 files full.index full.home placed.row (ap (λ (hs : List Home). slice_get hs full.index) (sym placed.homes) ∙ full.place)).1 in
        let file : ℕ = full.home.file in
        let number : ℕ = full.home.number in
        let was = (found-of changes.files many file (omega (arith, one.within))).1 in
        let same_block : full.block ≡ contents_in files blocks file number = some_block full.block (contents_in files blocks file number) (sym full.is ∙ ap (slice_get blocks) one.at ∙ block file number one.within) in
        let over : IsOverfull (blocks_of files file) number (changed_values was.0 (contents_in files blocks file number)) =
        subst (λ (b : KeyedBlock). IsOverfull (blocks_of files file) number (changed_values was.0 b)) same_block (subst (λ (n : ℕ). IsOverfull n number (changed_values was.0 full.block)) one.blocks (full.here.1 was.0 was.1)) in
        record {
          file = file;
          number = number;
          within = one.within;
          at = full.here.0;
          here = overfull_as (blocks_of files file) number (changed_values was.0 (contents_in files blocks file number)) (rolled_map volume (dump_of config volume dump.start blocks) list audit file) (same-values file number was.0 one.within was.1) over;
          before = λ f n below earlier.
              let there = (found-of changes.files many f (omega (arith, below))).1 in
              room_as (blocks_of files f) n (changed_values there.0 (contents_in files blocks f n)) (rolled_map volume (dump_of config volume dump.start blocks) list audit f) (same-values f n there.0 below there.1)
              (full.before (blocks_before files f + n) (place f n) (contents_in files blocks f n) (omega (arith, earlier, one.at)) (home f n below) (block f n below) there.0 there.1);
        }
      where
        some_block : (a b : KeyedBlock) → ◌≡◌ {A = Option KeyedBlock} (Some a) (Some b) → a ≡ b
        some_block a b e = cc

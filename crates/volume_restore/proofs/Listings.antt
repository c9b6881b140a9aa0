-- The listing of a file from what its own blocks show.
use Rattle.std.proofs.Common.{◌≡◌, ◌⊎◌, inl, inr, ℕ, ◌<◌, ◌≤◌, List, [], refl, sym, ap, subst, ◌∙◌, arith}
use Rattle.std.proofs.lemmas.Bool.{cases_lt}
use Rattle.std.specs.Prelude.{Result, Ok, Err, IfOk, OnOk}
use Rattle.disk_model.specs.Held.{Held}
use Rattle.tmf_model.specs.declared.config.Config.{Config}
use Rattle.tmf_model.specs.Place.{block_of}
use Rattle.tmf_model.specs.RecordMap.{RecordMap, IsListing}
use Rattle.keyed_file.specs.Block.{KeyedBlock, value_at}
use Rattle.keyed_file.specs.Volume.{Contents, SpellsVolume, files_on, label_of, map_of}
use Rattle.block_cache.specs.Shows.{SpellsContent}
use Rattle.block_cache.proofs.Shown.{shows-one, shows-volume}
use Rattle.volume_restore.specs.Damage.{ShowsFile, blocks_on}
use Rattle.volume_restore.specs.Listed.{IsFileListing, ShowsRecords}
use Rattle.volume_restore.proofs.Adding.{in_file}
use Rattle.volume_restore.proofs.OnVolume.{block_value}

-- what each block shows is what the map of all contents has
pub shows-records : (config : Config) (volume file : ℕ) (contents : Contents) (held : Held) → 1 ≤ blocks_on config volume file
    → ((number : ℕ) → number < blocks_on config volume file → SpellsContent (record { file = file; number = number; blocks = blocks_on config volume file }) (contents file number) held)
    → ShowsRecords (map_of (files_on volume 1 config.files) contents) file (blocks_on config volume file) held
shows-records config volume file contents held some shown key content shows =
    let number : ℕ = block_of key (blocks_on config volume file) in
    ap (λ (b : KeyedBlock). value_at b key) (shows-one (record { file = file; number = number; blocks = blocks_on config volume file }) content (contents file number) held shows (shown number (in_file key (blocks_on config volume file) some)))
    ∙ block_value (files_on volume 1 config.files) contents file (blocks_on config volume file) key refl some

-- the same of a volume that is spelled
pub spelled-records : (config : Config) (volume low file : ℕ) (contents : Contents) (map : RecordMap) (held : Held) → 1 ≤ blocks_on config volume file → SpellsVolume (label_of config volume low) held contents → map ≡ map_of (files_on volume 1 config.files) contents
    → ShowsRecords map file (blocks_on config volume file) held
spelled-records config volume low file contents map held some spells is =
    subst (λ (m : RecordMap). ShowsRecords m file (blocks_on config volume file) held) (sym is)
    (shows-records config volume file contents held some (λ number within. shows-volume (label_of config volume low) held contents file number spells within))

-- the contents that a file's blocks show; of a number that is no block's any
module _ (file blocks : ℕ) (held : Held) (shown : ShowsFile file blocks held) where
  abbrev content_of : (number : ℕ) → (number < blocks) ⊎ (blocks ≤ number) → KeyedBlock
  content_of number (inl within) = (shown number within).0
  content_of number (inr past) = record { file = 0; number = 0; position = 0; records = [] }

  abbrev contents_of : Contents
  contents_of f number = content_of number (cases_lt number blocks)

  shows_of : (number : ℕ) (side : (number < blocks) ⊎ (blocks ≤ number)) → number < blocks → SpellsContent (record { file = file; number = number; blocks = blocks }) (content_of number side) held
  shows_of number (inl within) lt = (shown number within).1
  shows_of number (inr past) lt = absurd (omega (arith, past, lt))

  shows-contents : (number : ℕ) → number < blocks → SpellsContent (record { file = file; number = number; blocks = blocks }) (contents_of file number) held
  shows-contents number lt = shows_of number (cases_lt number blocks) lt

-- what is listed of every map that the file's blocks show is the file's listing
pub file-listing : (config : Config) (volume file : ℕ) (held : Held) (entries : List (List ℕ × List ℕ)) → 1 ≤ blocks_on config volume file → ShowsFile file (blocks_on config volume file) held
    → ((map : RecordMap) → ShowsRecords map file (blocks_on config volume file) held → IsListing map file entries) → IsFileListing config volume file held entries
file-listing config volume file held entries some shown listed =
    let contents : Contents = contents_of file (blocks_on config volume file) held shown in
    let shows = shows-contents file (blocks_on config volume file) held shown in
    record { contents = contents; shown = shows; listing = listed (map_of (files_on volume 1 config.files) contents) (shows-records config volume file contents held some shows) }

-- what an answer is of which this is said where it is Ok, and that for each of these
pub if-listed : {X E : Type 0} (r : Result X E) (A M : Type 0) (B : M → Type 0) (L : M → X → Type 0) (Q : X → Type 0) → OnOk r A → ((m : M) → B m → IfOk r (L m)) → ((x : X) → A → ((m : M) → B m → L m x) → Q x) → IfOk r Q
if-listed (Ok x) A M B L Q a each make = make x a each
if-listed (Err e) A M B L Q a each make = tt

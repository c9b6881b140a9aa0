-- A file on its volume: how many blocks it has there, and what its records are.
use Rattle.std.specs.Prelude.{All, IfErr, IfOk, MatchResult, Result, Ok, Err, Option, Some, None, ◌==◌, if◌then◌else◌, nat_eq, slice_get, slice_index}
use Rattle.std.specs.Option.{option_map_or}
use Rattle.std.proofs.Common.{◌≡◌, inl, inr, ℕ, zero, suc, ◌+◌, ◌<◌, Bool, true, false, List, [], ◌∷◌, ◌++◌, length, refl, sym, ap, subst, ◌∙◌, arith, eq-eqb}
use Rattle.std.proofs.lemmas.Bool.Decides.{nat_tests}
use Rattle.std.proofs.lemmas.List.{append-nil}
use Rattle.std.proofs.lemmas.Option.{get_or_from_slice_get, slice_get_within}
use Rattle.disk_model.specs.Held.{File, Held, IsThere, Rose}
use Rattle.tmf_model.specs.Config.{IsDeclared, IsValidConfig, IsWithin}
use Rattle.tmf_model.specs.declared.config.Config.{Config}
use Rattle.tmf_model.specs.declared.config.FileLine.{FileLine}
use Rattle.tmf_model.specs.Commits.{numbered}
use Rattle.tmf_model.specs.Place.{block_of}
use Rattle.keyed_file.specs.declared.label.Label.{Label}
use Rattle.keyed_file.specs.Block.{value_at}
use Rattle.keyed_file.specs.LabelFormat.{IsLabel, label_text}
use Rattle.keyed_file.specs.Layout.{bytes_at, label_pair, selected_by, slot_at}
use Rattle.keyed_file.specs.Volume.{Contents, SpellsLabel, blocks_of, files_on, label_of, map_of}
use Rattle.block_cache.specs.LabelDamage.{IsFineLabel, TellsAttach}
use Rattle.block_cache.specs.declared.fault.AttachFault.{AttachFault}
use Rattle.block_cache.specs.declared.fault.AttachFault.TheVariants.{Lost, Damaged, Failed, NoMemory}
use Rattle.volume_restore.specs.Damage.{IsFirstOfFile, blocks_on}
use Rattle.volume_restore.specs.declared.list.ListFault.{ListFault}
use Rattle.volume_restore.specs.declared.list.ListFault.TheVariants as list
use Rattle.volume_restore.specs.Listed.{ListCause, TellsFile, TellsListing, opening_fault}
use Rattle.volume_restore.specs.Bases.{volume_on}

some_is : {X : Type 0} (a b : X) → ◌≡◌ {A = Option X} (Some a) (Some b) → a ≡ b
some_is a b e = cc

-- the files of a volume have the blocks of their lines
files_blocks : (volume number : ℕ) (lines : List FileLine) (i : ℕ) (line : FileLine) (file : ℕ) → slice_get lines i ≡ Some line → line.volume ≡ volume → file ≡ number + i → blocks_of (files_on volume number lines) file ≡ line.blocks
files_blocks volume number [] i line file at on is = absurd (omega (arith, slice_get_within {A = FileLine} [] i line at))
files_blocks volume number (l ∷ lines) zero line file at on is =
    let same : l ≡ line = some_is l line at in
    let here : l.volume == volume ≡ true = eq-eqb l.volume volume (ap (λ (x : FileLine). x.volume) same ∙ on) in
    let first : nat_eq file number ≡ true = eq-eqb file number (omega (arith, is)) in
    rw (here, first) (ap (λ (x : FileLine). x.blocks) same)
files_blocks volume number (l ∷ lines) (suc i) line file at on is =
    let behind : blocks_of (files_on volume (number + 1) lines) file ≡ line.blocks = files_blocks volume (number + 1) lines i line file at on (omega (arith, is)) in
    let other : nat_eq file number ≡ false = grind (arith, nat_tests, is) in
    (elim (l.volume == volume) as (λ b. blocks_of (if b then (number, l.blocks) ∷ files_on volume (number + 1) lines else files_on volume (number + 1) lines) file ≡ line.blocks) [
      | true ↦ rw other behind
      | false ↦ behind
    ])

pub line_volume : (config : Config) (file : ℕ) (line : FileLine) → numbered config.files file ≡ Some line → volume_on config file ≡ line.volume
line_volume config file line is = ap (λ (o : Option FileLine). option_map_or (λ l. l.volume) o 0) is

pub line_blocks : (config : Config) (file : ℕ) (line : FileLine) → numbered config.files file ≡ Some line → blocks_on config line.volume file ≡ line.blocks
line_blocks config zero line is = absurd (cc)
line_blocks config (suc before) line is = files_blocks line.volume 1 config.files before line (suc before) is refl (omega arith)

-- one label stands in a label's file
one_label : (a b : Label) (bytes : List ℕ) → ((x y : Label) (rest : List ℕ) → IsLabel x → IsLabel y → label_text y ≡ label_text x ++ rest → (y ≡ x) × (rest ≡ [])) → ((x : Label) → IsLabel x → length (label_text x) ≡ 256)
    → IsLabel a → IsLabel b → SpellsLabel a bytes → SpellsLabel b bytes → b ≡ a
one_label a b bytes one long is_a is_b spells_a spells_b =
    let at : ℕ = slot_at label_pair (selected_by (slice_index bytes 1)) in
    let text_a : bytes_at at 256 bytes ≡ label_text a = ap (λ (n : ℕ). bytes_at at n bytes) (sym (long a is_a)) ∙ spells_a.shown in
    let text_b : bytes_at at 256 bytes ≡ label_text b = ap (λ (n : ℕ). bytes_at at n bytes) (sym (long b is_b)) ∙ spells_b.shown in
    (one a b [] is_a is_b (sym text_b ∙ text_a ∙ sym (append-nil (label_text a)))).0

pub label_there : (held : Held) (a b : Label) → ((x y : Label) (rest : List ℕ) → IsLabel x → IsLabel y → label_text y ≡ label_text x ++ rest → (y ≡ x) × (rest ≡ [])) → ((x : Label) → IsLabel x → length (label_text x) ≡ 256)
    → IsLabel a → IsLabel b → IsThere held 1 (λ f. SpellsLabel a f.bytes) → IsThere held 1 (λ f. SpellsLabel b f.bytes) → b ≡ a
label_there held a b one long is_a is_b there_a there_b =
    let same : there_a.0 ≡ there_b.0 = some_is there_a.0 there_b.0 (sym there_a.1 ∙ there_b.1) in
    one_label a b there_b.0.bytes one long is_a is_b (subst (λ (f : File). SpellsLabel a f.bytes) same there_a.2) there_b.2

not_none : (blocks : ℕ) → 0 < blocks → blocks == 0 ≡ false
not_none blocks some = grind (arith, nat_tests)

-- the records of a file are those of its blocks
pub block_value : (files : List (ℕ × ℕ)) (contents : Contents) (file count : ℕ) (key : List ℕ) → count ≡ blocks_of files file → 0 < count → value_at (contents file (block_of key count)) key ≡ map_of files contents file key
block_value files contents file count key is some =
    let blocks : ℕ = blocks_of files file in
    ap (λ (n : ℕ). value_at (contents file (block_of key n)) key) is
    ∙ sym (ap (λ (b : Bool). if b then None else value_at (contents file (block_of key blocks)) key) (not_none blocks (omega (arith, is, some))))

-- what holds of all lines holds of that with a number
numbered_all : {X : Type 0} (P : X → Type 0) (items : List X) (number : ℕ) (item : X) → numbered items number ≡ Some item → All P items → P item
numbered_all P items zero item is all = absurd (cc)
numbered_all P items (suc before) item is all = subst P (get_or_from_slice_get items before item item is) (all before item (slice_get_within items before item is))

-- the volume of a file is declared, and the file has 1 to 256 blocks
pub line_declared : (config : Config) (file : ℕ) (line : FileLine) → IsValidConfig config → numbered config.files file ≡ Some line → IsDeclared config.volumes line.volume × IsWithin 1 256 line.blocks
line_declared config file line valid is =
    (numbered_all (λ (l : FileLine). IsDeclared config.volumes l.volume) config.files file line is valid.files.declared, numbered_all (λ (l : FileLine). IsWithin 1 256 l.blocks) config.files file line is valid.files.blocks)

-- a fault of the opening of the volume tells why the file was not listed
pub tells_opening : (config : Config) (volume file : ℕ) (held : Held) (fault : AttachFault) → TellsAttach (label_of config volume 1) held fault → TellsListing config volume file held (opening_fault fault)
tells_opening config volume file held Lost tells = tells
tells_opening config volume file held (Damaged d) tells = inl tells
tells_opening config volume file held Failed tells = tt
tells_opening config volume file held NoMemory tells = tt

pub opening_cause : (before now : ℕ) (fault : AttachFault) → (fault ≡ Failed → Rose before now) → ListCause before now (opening_fault fault)
opening_cause before now Lost cause = tt
opening_cause before now (Damaged d) cause = tt
opening_cause before now Failed cause = cause refl
opening_cause before now NoMemory cause = tt

-- a fault of the file's blocks, where the label is fine, tells so too
pub tells_blocks : (config : Config) (volume file count : ℕ) (held : Held) (fault : ListFault) → count ≡ blocks_on config volume file → IsFineLabel (label_of config volume 1) held → TellsFile file count held fault → TellsListing config volume file held fault
tells_blocks config volume file count held list.Lost is label tells = absurd tells
tells_blocks config volume file count held (list.Damaged d) is label tells = inr (label, subst (λ (n : ℕ). IsFirstOfFile file n held d) is tells)
tells_blocks config volume file count held list.Failed is label tells = tt
tells_blocks config volume file count held list.NoMemory is label tells = tt

pub ok_of_match : {T E : Type 0} (r : Result T E) (P R : Type 0) (Q : E → Type 0) → (P → R) → MatchResult r (λ _. P) Q → IfOk r (λ _. R)
ok_of_match (Ok x) P R Q next holds = next holds
ok_of_match (Err e) P R Q next holds = tt

pub err_of_match : {T E : Type 0} (r : Result T E) (P : Type 0) (Q R : E → Type 0) → ((e : E) → Q e → R e) → MatchResult r (λ _. P) Q → IfErr r R
err_of_match (Ok x) P Q R next holds = tt
err_of_match (Err e) P Q R next holds = next e holds

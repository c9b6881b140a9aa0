-- What is said of a volume by its map is said by any other map with the same values on its blocks.
use Rattle.std.specs.Prelude.{IsSome}
use Rattle.std.proofs.Common.{◌≡◌, inl, inr, ℕ, ◌<◌, List, Option, sym, subst, ◌∙◌, arith}
use Rattle.std.proofs.lemmas.List.Elements.{All-weaker}
use Rattle.disk_model.specs.Held.{Held}
use Rattle.tmf_model.specs.Place.{block_of}
use Rattle.tmf_model.specs.RecordMap.{RecordMap}
use Rattle.keyed_file.specs.declared.label.Label.{Label}
use Rattle.keyed_file.specs.Block.{KeyedBlock}
use Rattle.keyed_file.specs.Volume.{blocks_of}
use Rattle.block_cache.specs.Rewrite.{AreContentsOf, IsContentOf}
use Rattle.volume_restore.specs.Changed.{AreValued, HasRoomIn, IsOverfull}
use Rattle.rollforward.specs.Filling.{HasRoomFor, IsBeingFilled, IsFileFilled, IsVolumeFilled}

-- the values are the same at each key of a block
abbrev pub SameIn : ℕ → ℕ → (List ℕ → Option (List ℕ)) → (List ℕ → Option (List ℕ)) → Type 0
SameIn blocks number v w = (key : List ℕ) → block_of key blocks ≡ number → w key ≡ v key

valued_as : (blocks number : ℕ) (v w : List ℕ → Option (List ℕ)) (keys : List (List ℕ)) → SameIn blocks number v w → AreValued blocks number v keys → AreValued blocks number w keys
valued_as blocks number v w keys same valued = record {
  distinct = valued.distinct;
  valued = All-weaker (λ key. (block_of key blocks ≡ number) × IsSome (v key)) (λ key. (block_of key blocks ≡ number) × IsSome (w key)) (λ key is. (is.0, subst IsSome (sym (same key is.0)) is.1)) keys valued.valued;
}

same_back : (blocks number : ℕ) (v w : List ℕ → Option (List ℕ)) → SameIn blocks number v w → SameIn blocks number w v
same_back blocks number v w same = λ key lives. sym (same key lives)

pub room_as : (blocks number : ℕ) (v w : List ℕ → Option (List ℕ)) → SameIn blocks number v w → HasRoomIn blocks number v → HasRoomIn blocks number w
room_as blocks number v w same room keys valued = room keys (valued_as blocks number w v keys (same_back blocks number v w same) valued)

pub overfull_as : (blocks number : ℕ) (v w : List ℕ → Option (List ℕ)) → SameIn blocks number v w → IsOverfull blocks number v → IsOverfull blocks number w
overfull_as blocks number v w same over = (over.0, valued_as blocks number v w over.0 same over.1, over.2)

pub content_as : (v w : RecordMap) (file blocks number : ℕ) (content : KeyedBlock) → SameIn blocks number (v file) (w file) → IsContentOf v file blocks number content → IsContentOf w file blocks number content
content_as v w file blocks number content same is = λ key lives. is key lives ∙ sym (same key lives)

-- the values are the same at each key of these files
abbrev pub SameOn : List (ℕ × ℕ) → RecordMap → RecordMap → Type 0
SameOn files v w = (file : ℕ) (key : List ℕ) → 0 < blocks_of files file → w file key ≡ v file key

pub same_on_back : (files : List (ℕ × ℕ)) (v w : RecordMap) → SameOn files v w → SameOn files w v
same_on_back files v w same = λ file key some. sym (same file key some)

on_block : (files : List (ℕ × ℕ)) (v w : RecordMap) (file number : ℕ) → SameOn files v w → number < blocks_of files file → SameIn (blocks_of files file) number (v file) (w file)
on_block files v w file number same below = λ key lives. same file key (omega (arith, below))

pub rooms_as : (files : List (ℕ × ℕ)) (v w : RecordMap) → SameOn files v w → HasRoomFor files v → HasRoomFor files w
rooms_as files v w same room file number below = room_as (blocks_of files file) number (v file) (w file) (on_block files v w file number same below) (room file number below)

contents_as : (files : List (ℕ × ℕ)) (v w : RecordMap) (contents : ℕ → ℕ → KeyedBlock) → SameOn files v w → AreContentsOf files v contents → AreContentsOf files w contents
contents_as files v w contents same are file number below = content_as v w file (blocks_of files file) number (contents file number) (on_block files v w file number same below) (are file number below)

pub filled_as : (label : Label) (v w : RecordMap) (held : Held) → SameOn label.files v w → IsVolumeFilled label v held → IsVolumeFilled label w held
filled_as label v w held same filled = record { contents = filled.contents; made = filled.made; each = contents_as label.files v w filled.contents same filled.each }

pub being_as : (label : Label) (v w : RecordMap) (before image : Held) → SameOn label.files v w → IsBeingFilled label v before image → IsBeingFilled label w before image
being_as label v w before image same (inl was) = inl was
being_as label v w before image same (inr (inl none)) = inr (inl none)
being_as label v w before image same (inr (inr whole)) = inr (inr (whole.0, whole.1, contents_as label.files v w whole.0 same whole.2))

pub file_as : (v w : RecordMap) (file blocks : ℕ) (held : Held) → ((key : List ℕ) → block_of key blocks < blocks → w file key ≡ v file key) → IsFileFilled v file blocks held → IsFileFilled w file blocks held
file_as v w file blocks held same filled = record {
  contents = filled.contents;
  finished = filled.finished;
  each = λ n below. content_as v w file blocks n (filled.contents file n) (λ key lives. same key (omega (arith, below, lives))) (filled.each n below);
}

-- What a filled volume says, and what its node's images are on the way.
use Rattle.std.specs.Prelude.{Option, None, Some, ◌==◌, if◌then◌else◌, IsTrue, slice_get, slice_set}
use Rattle.std.specs.Option.{option_map}
use Rattle.std.proofs.Common.{◌≡◌, ◌≢◌, inl, inr, ⊎_elim, ℕ, ◌<◌, true, false, cond, List, refl, sym, ap, subst, ◌∙◌, arith, eq-eqb, eqb-true}
use Rattle.std.proofs.lemmas.Bool.{cond-true, cond-false, false_from_ne_true}
use Rattle.std.proofs.lemmas.Bool.Decides.{nat_tests}
use Rattle.disk_model.specs.Devices.{AreImages}
use Rattle.disk_model.specs.Fuse.{device_of}
use Rattle.disk_model.specs.Held.{File, Held, IsSound, Leaves, LeavesAt, synced}
use Rattle.disk_model.specs.declared.disk.Disk as disk
use Rattle.disk_model.specs.declared.fuse.Fuse.{Fuse}
use Rattle.disk_model.proofs.Devices.{are-later-same, set-at, set-but}
use Rattle.disk_model.proofs.Files.{leaves_synced}
use Rattle.tmf_model.specs.declared.config.Config.{Config}
use Rattle.tmf_model.specs.Place.{block_of}
use Rattle.tmf_model.specs.RecordMap.{RecordMap}
use Rattle.keyed_file.specs.declared.label.Label.{Label}
use Rattle.keyed_file.specs.Block.{value_at}
use Rattle.keyed_file.specs.Volume.{Contents, blocks_of, files_on, label_of, map_of}
use Rattle.block_cache.specs.Created.{OffVolume}
use Rattle.block_cache.specs.Rewrite.{AreContentsOf}
use Rattle.block_cache.specs.Volume.{HasBase}
use Rattle.block_cache.proofs.Caches.{same_or_other}
use Rattle.volume_restore.proofs.Adding.{in_file}
use Rattle.volume_recovery.specs.VolumeNode.{volume_device}
use Rattle.rollforward.specs.Filled.{FillsOnly, IsFilled, KeepsOtherFiles, MayFill, Records, base_filled, values_of}
use Rattle.rollforward.specs.Filling.{IsBeingFilled, IsVolumeFilled, SpellsMap}

some_blocks : (blocks : ℕ) → blocks == 0 ≡ false → 0 < blocks
some_blocks blocks some = grind (arith, nat_tests)

-- the records of contents of a map are those of the map on the volume's files
filled-records : (files : List (ℕ × ℕ)) (map : RecordMap) (contents : Contents) → AreContentsOf files map contents
    → (λ file key. if blocks_of files file == 0 then None else map file key) ≡ map_of files contents
filled-records files map contents are i file key = at file key i
  where
    at : (file : ℕ) (key : List ℕ) → (if blocks_of files file == 0 then None else map file key) ≡ map_of files contents file key
    at file key = (elim (blocks_of files file == 0) as (λ b. blocks_of files file == 0 ≡ b → (if b then None else map file key) ≡ (if b then None else value_at (contents file (block_of key (blocks_of files file))) key)) [
      | true ↦ λ none. refl
      | false ↦ λ has.
          let some : 0 < blocks_of files file = some_blocks (blocks_of files file) has in
          sym (are file (block_of key (blocks_of files file)) (in_file key (blocks_of files file) some) key refl)
    ]) refl

-- an image that spells the records is the filled volume
pub map-base : (config : Config) (volume low : ℕ) (records : Records) (label : Label) (image : Held) → label ≡ label_of config volume low → SpellsMap label (values_of records) image
    → HasBase config volume image (Some (base_filled config volume low records))
map-base config volume low records label image is spells =
    let own : SpellsMap (label_of config volume low) (values_of records) image = subst (λ (l : Label). SpellsMap l (values_of records) image) is spells in
    (own.0, own.1, filled-records (files_on volume 1 config.files) (values_of records) own.0 own.2)

pub is-filled : (config : Config) (volume low : ℕ) (records : Records) (label : Label) (held : Held) → label ≡ label_of config volume low → IsVolumeFilled label (values_of records) held → IsFilled config volume low records held
is-filled config volume low records label held is filled =
    let own : IsVolumeFilled (label_of config volume low) (values_of records) held = subst (λ (l : Label). IsVolumeFilled l (values_of records) held) is filled in
    record { base = (own.contents, own.made.spells, filled-records (files_on volume 1 config.files) (values_of records) own.contents own.each); rests = own.made.rests }

image-at : (here : Option File) → ((file : File) → here ≡ Some file → IsSound file) → LeavesAt here (option_map synced here)
image-at None sound = tt
image-at (Some file) sound = leaves_synced file (sound file refl)

-- what a device holds, once it is synced, is an image of it
image-synced : (held : Held) → ((n : ℕ) (file : File) → held n ≡ Some file → IsSound file) → Leaves held (λ n. option_map synced (held n))
image-synced held sound n = image-at (held n) (sound n)

-- the images with another one at a number
abbrev put : ℕ → Held → (ℕ → Held) → ℕ → Held
put number image images n = cond (n == number) image (images n)

put-here : (number : ℕ) (image : Held) (images : ℕ → Held) → put number image images number ≡ image
put-here number image images = cond-true (number == number) image (images number) (eq-eqb number number refl)

put-other : (number : ℕ) (image : Held) (images : ℕ → Held) (n : ℕ) → n ≢ number → put number image images n ≡ images n
put-other number image images n other = cond-false (n == number) image (images n) (false_from_ne_true (n == number) (λ e. other (eqb-true n number e)))

some-fuse : {D : Type 0} (a b : Fuse D) → ◌≡◌ {A = Option (Fuse D)} (Some a) (Some b) → a ≡ b
some-fuse a b e = cc

module _ {D : Type 0} (held : D → Held) (xs : List (Fuse D)) (number : ℕ) (old new : Fuse D) (is : slice_get xs number ≡ Some old) (left : ℕ → Held) (are : AreImages held (slice_set xs number new) left) where
  -- where one device was written, the images of the others are those that were
  images-but : (images : ℕ → Held) → ((n : ℕ) → n ≢ number → images n ≡ left n) → Leaves (held (device_of old)) (images number) → AreImages held xs images
  images-but images others here n fuse at = elim (same_or_other n number) [
    | inl e ↦
        let same : old ≡ fuse = some-fuse old fuse (sym is ∙ ap (slice_get xs) (sym e) ∙ at) in
        subst (λ f. Leaves (held (device_of f)) (images n)) same (subst (λ k. Leaves (held (device_of old)) (images k)) (sym e) here)
    | inr other ↦ subst (λ h. Leaves (held (device_of fuse)) h) (sym (others n other)) (are n fuse (set-but xs number new n other ∙ at))
  ]

-- What a crash leaves where a volume's device alone was written, and has an image of before, or no label, or is filled.
pub may-fill : {D : Type 0} (held : D → Held) (xs : List (Fuse D)) (config : Config) (volume low : ℕ) (records : Records) (label : Label) (old new : Fuse D) → slice_get xs (volume_device volume) ≡ Some old
    → label ≡ label_of config volume low → ((n : ℕ) (file : File) → held (device_of old) n ≡ Some file → IsSound file)
    → ((image : Held) → Leaves (held (device_of new)) image → IsBeingFilled label (values_of records) (held (device_of old)) image)
    → (left : ℕ → Held) → AreImages held (slice_set xs (volume_device volume) new) left
    → (images : ℕ → Held) × AreImages held xs images × MayFill config volume low records images left
may-fill held xs config volume low records label old new is of sound every left are =
    let number : ℕ = volume_device volume in
    let image : Held = λ n. option_map synced (held (device_of old) n) in
    let before : ℕ → Held = put number image left in
    let images = images-but held xs number old new is left are before (put-other number image left) (subst (Leaves (held (device_of old))) (sym (put-here number image left)) (image-synced (held (device_of old)) sound)) in
    ⊎_elim
    (λ same. (left, images-but held xs number old new is left are left (λ n other. refl) same, record { others = λ n other. refl; own = inl refl }))
    (λ made. (
      before,
      images,
      record {
        others = λ n other. sym (put-other number image left n other);
        own = inr (⊎_elim (λ none. inl none) (λ spells. inr (map-base config volume low records label (left number) of spells)) made);
      },
    ))
    (every (left number) (are number new (set-at xs number old new is)))

-- where nothing was written, the images are those that were
pub may-same : {D : Type 0} (held : D → Held) (xs : List (Fuse D)) (config : Config) (volume low : ℕ) (records : Records) (left : ℕ → Held) → AreImages held xs left
    → (images : ℕ → Held) × AreImages held xs images × MayFill config volume low records images left
may-same held xs config volume low records left are = (left, are, record { others = λ n other. refl; own = inl refl })

the-same : {X : Type 0} (o : Option X) (a b : X) → o ≡ Some a → o ≡ Some b → a ≡ b
the-same o a b at at_b = let e : Some a ≡ Some b = sym at ∙ at_b in cc

-- what was not written is as it was
pub fills-none : {D : Type 0} (kind : disk.Ghosts D) → ((d : D) → kind.is_same d d) → (config : Config) (volume : ℕ) (xs : List (Fuse D)) → FillsOnly kind config volume xs xs
fills-none {D} kind itself config volume xs = record {
  others = λ n other. refl;
  keeps = are-later-same kind itself xs;
  files = λ before after at at_after told q apart only. ap (λ (f : Fuse D). kind.held (device_of f) q) (the-same (slice_get xs (volume_device volume)) after before at_after at);
}

-- a device takes the place of the volume's that has its other files
pub files-set : {D : Type 0} (kind : disk.Ghosts D) (config : Config) (volume : ℕ) (xs : List (Fuse D)) (old new : Fuse D) → slice_get xs (volume_device volume) ≡ Some old
    → (IsTrue (kind.tells (device_of old)) → OffVolume (files_on volume 1 config.files) (kind.held (device_of old)) (kind.held (device_of new)))
    → KeepsOtherFiles kind config volume xs (slice_set xs (volume_device volume) new)
files-set {D} kind config volume xs old new at off before after at_before at_after told =
    let number = volume_device volume in
    let was : old ≡ before = the-same (slice_get xs number) old before at at_before in
    let now : new ≡ after = the-same (slice_get (slice_set xs number new) number) new after (set-at xs number old new at) at_after in
    subst (λ (f : Fuse D). OffVolume (files_on volume 1 config.files) (kind.held (device_of before)) (kind.held (device_of f))) now
    (subst (λ (f : Fuse D). OffVolume (files_on volume 1 config.files) (kind.held (device_of f)) (kind.held (device_of new))) was
    (off (subst (λ (f : Fuse D). IsTrue (kind.tells (device_of f))) (sym was) told)))

-- What the inspection of a node's volumes has found so far.
use Rattle.std.specs.Prelude.{◌==◌, if◌then◌else◌, Option, None, Some, Result, Ok, Err, IfErr, OnOk, MatchResult, filter, slice_get, slice_index, unwrap_or}
use Rattle.std.specs.Option.{option_map_or}
use Rattle.std.proofs.Common.{◌≡◌, ◌≢◌, ◌⊎◌, inl, inr, ◌+◌, ◌-◌, ◌<◌, ◌≤◌, ◌++◌, zero, suc, ℕ, Bool, true, false, List, [], ◌∷◌, length, refl, sym, ap, subst, ◌∙◌, arith, ⊎_elim, eqb-true, eq-eqb, append-nil}
use Rattle.std.proofs.lemmas.Bool.{false_from_ne_true}
use Rattle.std.proofs.lemmas.Bool.Decides.{leb_tells}
use Rattle.std.proofs.lemmas.List.Elements.{filter-append}
use Rattle.disk_model.specs.Devices.{AreHeld, SameBut}
use Rattle.disk_model.specs.Fuse.{device_of}
use Rattle.disk_model.specs.Held.{Held, File}
use Rattle.disk_model.specs.declared.fuse.Fuse.{Fuse}
use Rattle.tmf_model.specs.declared.config.Config.{Config}
use Rattle.tmf_model.specs.declared.config.Volume.{Volume}
use Rattle.trail_files.specs.declared.damage.Damage.{Damage}
use Rattle.trail_files.specs.StandsFor.{IsNumber}
use Rattle.keyed_file.specs.Volume.{IsLost}
use Rattle.block_cache.specs.LabelDamage.{IsFineLabel}
use Rattle.volume_restore.specs.declared.changes.NodeChanges.{NodeChanges}
use Rattle.volume_restore.specs.declared.inspect.Inspected.{Inspected}
use Rattle.volume_restore.specs.declared.inspect.Inspected.TheVariants.{Lost, Ready, Full}
use Rattle.trail_replay.specs.declared.replay.FoundFiles.{FoundFiles}
use Rattle.volume_restore.specs.Inspected.{HasContents, IsFineVolume, IsVolumeDamage, TellsInspected, TellsRecovered, TellsRoom}
use Rattle.volume_restore.specs.Inspected as inspected
use Rattle.keyed_file.specs.Volume.{label_of}
use Rattle.volume_recovery.specs.VolumeAnswers.{IsReadable, is_lost, lost_among, numbers_to}
use Rattle.volume_recovery.specs.declared.errors.RecoverError.{RecoverError}
use Rattle.volume_recovery.specs.declared.errors.RecoverError.TheVariants.{Failed, Damaged, EpochsSpent, NoMemory}
use Rattle.volume_recovery.specs.Recovery.{IsUnwritten}
use Rattle.volume_recovery.specs.VolumeLoop.{AreReadable, AreTurnedDown, HasFailed, HaveRooms, HoldsImage, IsInspected, IsPlain, IsTurnedDown, Notes, TellsFull, TellsVolume, TellsVolumes, TellsWrong}
use Rattle.volume_recovery.specs.VolumeNode.{volume_device}

some-file : (a b : File) → ◌≡◌ {A = Option File} (Some a) (Some b) → a ≡ b
some-file a b e = cc

abbrev lost-file : Option File → Bool
lost-file file = option_map_or (λ f. if slice_index f.bytes 0 == 1 then false else true) file true

lost-some : (o : Option File) → ((f : File) → o ≡ Some f → slice_index f.bytes 0 ≢ 1) → lost-file o ≡ true
lost-some None none = refl
lost-some (Some f) none = ap (λ (b : Bool). if b then false else true) (false_from_ne_true (slice_index f.bytes 0 == 1) (λ e. none f refl (eqb-true (slice_index f.bytes 0) 1 e)))

fine-some : (o : Option File) (f : File) → o ≡ Some f → slice_index f.bytes 0 ≡ 1 → lost-file o ≡ false
fine-some o f is gate = ap lost-file is ∙ ap (λ (b : Bool). if b then false else true) (eq-eqb (slice_index f.bytes 0) 1 gate)

pub lost-is : (image : Held) → IsLost image → is_lost image ≡ true
lost-is image lost = lost-some (image 1) lost

-- a volume whose label's gate is open is not lost
pub label-there : (image : Held) (file : File) → image 1 ≡ Some file → slice_index file.bytes 0 ≡ 1 → is_lost image ≡ false
label-there image file is gate = fine-some (image 1) file is gate

pub fine-is : (config : Config) (volume : ℕ) (image : Held) → IsFineVolume config volume image → is_lost image ≡ false
fine-is config volume image fine = label-there image fine.label.0 fine.label.1 fine.label.2.0

-- a volume that is lost is not fine
pub lost-fine : (config : Config) (volume : ℕ) (image : Held) → IsLost image → IsFineVolume config volume image → ⊥
lost-fine config volume image lost fine = lost fine.label.0 fine.label.1 fine.label.2.0

lost-next : (images : ℕ → Held) (n m : ℕ) → m ≡ suc n → lost_among images m ≡ lost_among images n ++ filter (λ volume. is_lost (images (volume_device volume))) (m ∷ [])
lost-next images n m is =
    let next : lost_among images (suc n) ≡ lost_among images n ++ filter (λ volume. is_lost (images (volume_device volume))) (suc n ∷ []) = filter-append (λ volume. is_lost (images (volume_device volume))) (numbers_to n) (suc n ∷ []) in
    subst (λ k. lost_among images k ≡ lost_among images n ++ filter (λ volume. is_lost (images (volume_device volume))) (k ∷ [])) (sym is) next

-- what is noted of the next volume
pub lost-noted : (config : Config) (images : ℕ → Held) (changes : NodeChanges) (n m : ℕ) (it : Inspected) (old new : List ℕ) → m ≡ suc n → TellsInspected config m changes.files (images (volume_device m)) it
    → old ≡ lost_among images n → Notes m it old new → new ≡ lost_among images m
lost-noted config images changes n m Lost old new is tells before notes =
    notes ∙ ap (λ xs. xs ++ m ∷ []) before ∙ sym (lost-next images n m is ∙ ap (λ (b : Bool). lost_among images n ++ (if b then m ∷ [] else [])) (lost-is (images (volume_device m)) tells))
lost-noted config images changes n m Ready old new is tells before notes =
    notes ∙ before
    ∙ sym (lost-next images n m is ∙ ap (λ (b : Bool). lost_among images n ++ (if b then m ∷ [] else [])) (fine-is config m (images (volume_device m)) tells.0) ∙ append-nil (lost_among images n))
lost-noted config images changes n m (Full damage) old new is tells before notes = absurd notes

-- it is lost, or nothing is wrong of it
pub readable-told : (config : Config) (volume : ℕ) (changes : NodeChanges) (image : Held) (it : Inspected) → TellsInspected config volume changes.files image it → IsReadable config volume image
readable-told config volume changes image Lost tells = inl tells
readable-told config volume changes image Ready tells = inr tells.0
readable-told config volume changes image (Full damage) tells = inr tells.0

pub readable-more : (config : Config) (images : ℕ → Held) (n m : ℕ) → m ≡ suc n → AreReadable config images n → IsReadable config m (images (volume_device m)) → AreReadable config images m
readable-more config images n m is before here volume line number le =
    ⊎_elim
    (λ less. before volume line number less.1)
    (λ more. subst (λ v. IsReadable config v (images (volume_device v))) (omega (arith, le, more.1, is)) here)
    (leb_tells volume n)

-- a volume that is lost has no contents
room-lost : (config : Config) (volume : ℕ) (changes : NodeChanges) (image : Held) → IsLost image → TellsRoom config volume changes.files (HasContents config volume image) Ready
room-lost config volume changes image lost was has = absurd (lost has.1.0.label_file.0 has.1.0.label_file.1 has.1.0.label_file.2.gate)

rooms-more : (config : Config) (images : ℕ → Held) (changes : NodeChanges) (n m : ℕ) → m ≡ suc n → HaveRooms config images changes n
    → TellsRoom config m changes.files (HasContents config m (images (volume_device m))) Ready → HaveRooms config images changes m
rooms-more config images changes n m is before here volume line number le =
    ⊎_elim
    (λ less. before volume line number less.1)
    (λ more. subst (λ v. TellsRoom config v changes.files (HasContents config v (images (volume_device v))) Ready) (omega (arith, le, more.1, is)) here)
    (leb_tells volume n)

-- a volume that is noted has room
pub rooms-next : (config : Config) (images : ℕ → Held) (changes : NodeChanges) (n m : ℕ) (it : Inspected) (old new : List ℕ) → m ≡ suc n → HaveRooms config images changes n
    → TellsInspected config m changes.files (images (volume_device m)) it → Notes m it old new → HaveRooms config images changes m
rooms-next config images changes n m Lost old new is before tells notes = rooms-more config images changes n m is before (room-lost config m changes (images (volume_device m)) tells)
rooms-next config images changes n m Ready old new is before tells notes = rooms-more config images changes n m is before tells.1
rooms-next config images changes n m (Full damage) old new is before tells notes = absurd notes

-- the first volume that is damaged ends the inspection
pub bad-volumes : (config : Config) (images : ℕ → Held) (changes : NodeChanges) (n m : ℕ) (line : Volume) (e : RecoverError) → m ≡ suc n → IsNumber config.volumes m line → AreReadable config images n
    → HaveRooms config images changes n → TellsVolume config m (images (volume_device m)) e → TellsVolumes config images changes e
bad-volumes config images changes n m line (Failed number) is declared readable rooms tells = tt
bad-volumes config images changes n m line (Damaged number damage) is declared readable rooms tells = record {
  volume = m;
  line = line;
  is_volume = declared;
  device_is = tells.0;
  readable = λ v l lt other. readable v l other (omega (arith, lt, is));
  rooms = λ v l lt other. rooms v l other (omega (arith, lt, is));
  here = inl tells.1;
}
bad-volumes config images changes n m line EpochsSpent is declared readable rooms tells = absurd tells
bad-volumes config images changes n m line NoMemory is declared readable rooms tells = tt

fine-full : (config : Config) (volume : ℕ) (changes : NodeChanges) (image : Held) (it : Inspected) (damage : Damage) → it ≡ Full damage → TellsInspected config volume changes.files image it
    → IsFineVolume config volume image × TellsRoom config volume changes.files (HasContents config volume image) (Full damage)
fine-full config volume changes image it damage is tells = subst (TellsInspected config volume changes.files image) is tells

-- and so does the first without room
pub full-volumes : (config : Config) (images : ℕ → Held) (changes : NodeChanges) (n m : ℕ) (line : Volume) (it : Inspected) (e : RecoverError) → m ≡ suc n → IsNumber config.volumes m line → AreReadable config images n
    → HaveRooms config images changes n → TellsInspected config m changes.files (images (volume_device m)) it → TellsFull m it e → TellsVolumes config images changes e
full-volumes config images changes n m line it (Failed number) is declared readable rooms told tells = tt
full-volumes config images changes n m line it (Damaged number damage) is declared readable rooms told tells = record {
  volume = m;
  line = line;
  is_volume = declared;
  device_is = tells.0;
  readable = λ v l lt other. readable v l other (omega (arith, lt, is));
  rooms = λ v l lt other. rooms v l other (omega (arith, lt, is));
  here = inr (fine-full config m changes (images (volume_device m)) it damage tells.1 told);
}
full-volumes config images changes n m line it EpochsSpent is declared readable rooms told tells = absurd tells
full-volumes config images changes n m line it NoMemory is declared readable rooms told tells = tt

-- no device has failed there
pub full-failed : {D : Type 0} (faults : D → ℕ) (config : Config) (xs ys : List (Fuse D)) (volume : ℕ) (it : Inspected) (e : RecoverError) → TellsFull volume it e → HasFailed faults config xs ys e
full-failed faults config xs ys volume it (Failed number) tells = absurd tells
full-failed faults config xs ys volume it (Damaged number damage) tells = tt
full-failed faults config xs ys volume it EpochsSpent tells = tt
full-failed faults config xs ys volume it NoMemory tells = tt

-- behind the last of so many volumes all are ready
pub told-ready : (config : Config) (images : ℕ → Held) (changes : NodeChanges) (n last : ℕ) (lost : List ℕ) → n ≡ last → lost ≡ lost_among images n
    → AreReadable config images n → HaveRooms config images changes n → IsInspected config images changes last lost
told-ready config images changes n last lost is are readable rooms = record {
  lost = are ∙ ap (lost_among images) is;
  readable = subst (AreReadable config images) is readable;
  rooms = subst (HaveRooms config images changes) is rooms;
}

-- the next volume was recovered
pub inspected-fine : (config : Config) (images : ℕ → Held) (changes : NodeChanges) (n m : ℕ) (lost : List ℕ) → m ≡ suc n → TellsRecovered config m changes.files (images (volume_device m)) true
    → IsInspected config images changes n lost → IsInspected config images changes m lost
inspected-fine config images changes n m lost is tells so = record {
  lost = lost-noted config images changes n m Ready lost lost is tells so.lost refl;
  readable = readable-more config images n m is so.readable (inr tells.0);
  rooms = rooms-more config images changes n m is so.rooms tells.1;
}

-- it was lost
pub inspected-lost : (config : Config) (images : ℕ → Held) (changes : NodeChanges) (n m : ℕ) (lost more : List ℕ) → m ≡ suc n → TellsRecovered config m changes.files (images (volume_device m)) false
    → more ≡ lost ++ m ∷ [] → IsInspected config images changes n lost → IsInspected config images changes m more
inspected-lost config images changes n m lost more is tells added so = record {
  lost = lost-noted config images changes n m Lost lost more is tells so.lost added;
  readable = readable-more config images n m is so.readable (inl tells);
  rooms = rooms-more config images changes n m is so.rooms (room-lost config m changes (images (volume_device m)) tells);
}

-- it is wrong, and the first
wrong-volumes : (config : Config) (images : ℕ → Held) (changes : NodeChanges) (n m : ℕ) (lost : List ℕ) (line : Volume) (e : RecoverError) → m ≡ suc n → IsNumber config.volumes m line
    → IsInspected config images changes n lost → TellsWrong config m changes.files (images (volume_device m)) e → TellsVolumes config images changes e
wrong-volumes config images changes n m lost line (Failed number) is declared so tells = tt
wrong-volumes config images changes n m lost line (Damaged number damage) is declared so tells = record {
  volume = m;
  line = line;
  is_volume = declared;
  device_is = tells.0;
  readable = λ v l lt other. so.readable v l other (omega (arith, lt, is));
  rooms = λ v l lt other. so.rooms v l other (omega (arith, lt, is));
  here = tells.1;
}
wrong-volumes config images changes n m lost line EpochsSpent is declared so tells = absurd tells
wrong-volumes config images changes n m lost line NoMemory is declared so tells = tt

-- each device holds its image, where no other than this one was written, and this one holds it
all-held : {D : Type 0} (held : D → Held) (images : ℕ → Held) (m : ℕ) (xs ys : List (Fuse D)) → AreHeld held xs images → SameBut m xs ys → HoldsImage held images m ys → AreHeld held ys images
all-held held images m xs ys are but here n fuse at =
    let other : n ≢ m → held (device_of fuse) ≡ images n = λ apart. are n fuse (sym (but n apart) ∙ at) in
    ⊎_elim
    (λ less. ⊎_elim
    (λ most. let same : m ≡ n = omega (arith, less.1, most.1) in subst (λ k. slice_get ys k ≡ Some fuse → held (device_of fuse) ≡ images k) same (here fuse) at)
    (λ below. other (λ same. absurd (omega (arith, same, below.1))))
    (leb_tells m n))
    (λ above. other (λ same. absurd (omega (arith, same, above.1))))
    (leb_tells n m)

turned-held : {D : Type 0} (held : D → Held) (config : Config) (images : ℕ → Held) (files : FoundFiles) (m : ℕ) (xs ys : List (Fuse D)) (e : RecoverError) → AreHeld held xs images → SameBut (volume_device m) xs ys
    → IsTurnedDown held config m files images ys e → IsUnwritten held images ys e
turned-held held config images files m xs ys (Failed number) are but turned = tt
turned-held held config images files m xs ys (Damaged number damage) are but turned =
    ⊎_elim (λ plain. absurd plain) (λ here. all-held held images (volume_device m) xs ys are but here) turned.unwritten
turned-held held config images files m xs ys EpochsSpent are but turned = absurd turned.wrong
turned-held held config images files m xs ys NoMemory are but turned = tt

-- what turns the next volume down turns all down
pub turned-volumes : {D : Type 0} (held : D → Held) (config : Config) (images : ℕ → Held) (changes : NodeChanges) (n m : ℕ) (lost : List ℕ) (line : Volume) (xs ys : List (Fuse D)) (e : RecoverError) → m ≡ suc n
    → IsNumber config.volumes m line → AreHeld held xs images → SameBut (volume_device m) xs ys → IsInspected config images changes n lost → IsTurnedDown held config m changes.files images ys e
    → AreTurnedDown held config images changes ys e
turned-volumes held config images changes n m lost line xs ys e is declared are but so turned = record {
  wrong = wrong-volumes config images changes n m lost line e is declared so turned.wrong;
  unwritten = turned-held held config images changes.files m xs ys e are but turned;
}

-- so does a device that has failed, and want of memory
pub turned-plain : {D : Type 0} (held : D → Held) (config : Config) (images : ℕ → Held) (changes : NodeChanges) (ys : List (Fuse D)) (e : RecoverError) → IsPlain e → AreTurnedDown held config images changes ys e
turned-plain held config images changes ys (Failed number) plain = record { wrong = tt; unwritten = tt }
turned-plain held config images changes ys (Damaged number damage) plain = absurd plain
turned-plain held config images changes ys EpochsSpent plain = absurd plain
turned-plain held config images changes ys NoMemory plain = record { wrong = tt; unwritten = tt }

-- the next volume was lost, and is noted where there is memory
pub noted-lost : {D : Type 0} (held : D → Held) (config : Config) (images : ℕ → Held) (changes : NodeChanges) (n m : ℕ) (lost more : List ℕ) (ys : List (Fuse D)) (result : Result (Unit {0}) RecoverError) → m ≡ suc n
    → TellsRecovered config m changes.files (images (volume_device m)) false → OnOk result (more ≡ lost ++ m ∷ []) → IfErr result (λ e. e ≡ NoMemory) → IsInspected config images changes n lost
    → MatchResult result (λ _. IsInspected config images changes m more) (AreTurnedDown held config images changes ys)
noted-lost held config images changes n m lost more ys (Ok x) is tells added memory so = inspected-lost config images changes n m lost more is tells added so
noted-lost held config images changes n m lost more ys (Err e) is tells added memory so = turned-plain held config images changes ys e (subst IsPlain (sym memory) tt)

-- want of memory has no cause on a device
pub memory-failed : {D : Type 0} (faults : D → ℕ) (config : Config) (xs ys : List (Fuse D)) (result : Result (Unit {0}) RecoverError) → IfErr result (λ e. e ≡ NoMemory) → IfErr result (HasFailed faults config xs ys)
memory-failed faults config xs ys (Ok x) memory = tt
memory-failed faults config xs ys (Err e) memory = subst (HasFailed faults config xs ys) (sym memory) tt

-- What a call leaves of a bay that reads first, and then writes one volume.
use Rattle.std.specs.Prelude.{IsTrue, slice_get}
use Rattle.std.proofs.Common.{◌≡◌, ◌⊎◌, inl, inr, ℕ, List, Option, Some, None, refl, sym, ap, subst, ◌∙◌}
use Rattle.disk_model.specs.Devices.{AreImages, DeviceAt, EachAs, HoldSame, KeepTelling, NoneFalls, RoseAt}
use Rattle.disk_model.specs.Fuse.{device_of}
use Rattle.disk_model.specs.Held.{Held, Leaves}
use Rattle.disk_model.specs.declared.disk.Disk as disk
use Rattle.disk_model.specs.declared.fuse.Fuse.{Fuse}
use Rattle.disk_model.proofs.Devices.{are-later-then, rose-after}
use Rattle.tmf_model.specs.declared.config.Config.{Config}
use Rattle.volume_recovery.specs.VolumeNode.{volume_device}
use Rattle.keyed_file.specs.Block.{KeyedBlock}
use Rattle.keyed_file.specs.Volume.{files_on}
use Rattle.keyed_file.specs.declared.home.Home.{Home}
use Rattle.trail_files.specs.declared.audit_record.AuditRecord.{AuditRecord}
use Rattle.trail_files.specs.declared.damage.Damage.{Damage}
use Rattle.trail_files.specs.declared.monitor_record.MonitorRecord.{MonitorRecord}
use Rattle.trail_files.specs.StandsFor.{Base}
use Rattle.trail_replay.specs.declared.replay.FoundFiles.{FoundFiles}
use Rattle.block_cache.specs.Created.{OffVolume}
use Rattle.block_cache.specs.Volume.{HasBase}
use Rattle.rollforward.specs.Filled.{FillsOnly, IsFilled, KeepsOtherFiles, MayFill, Records, base_filled}
use Rattle.rollforward.specs.Newest.{HasFailedOn, ReadsOnly}
use Rattle.rollforward.specs.Reading.{fill_refused}
use Rattle.rollforward.specs.Rolled.{IsFirstFullOf, TellsRolled}
use Rattle.rollforward.specs.Rolls.{IsDumped, IsFailure, IsFirstOverfull, IsRead, IsRollDevice, IsRolledTo, MayRoll, RollsForward, RollsOnly, TellsDump, TellsRoll, TellsTrail, rolled_map}
use Rattle.rollforward.specs.declared.errors.FillError.{FillError}
use Rattle.rollforward.specs.declared.errors.FillError.TheVariants as filling
use Rattle.rollforward.specs.declared.errors.RollError.{RollError}
use Rattle.rollforward.specs.declared.errors.RollError.TheVariants.{NotLost, NoDump, Failed, Damaged, NoMemory}

-- a call that reads some devices reads these among more
pub reads-wider : {D : Type 0} (kind : disk.Ghosts D) (Is More : ℕ → Type 0) (xs ys : List (Fuse D)) → ((n : ℕ) → Is n → More n) → ReadsOnly kind Is xs ys → ReadsOnly kind More xs ys
reads-wider kind Is More xs ys wider reads = record { same = reads.same; keeps = reads.keeps; others = λ n off. reads.others n (λ is. off (wider n is)) }

pub failed-wider : {D : Type 0} (faults : D → ℕ) (Is More : ℕ → Type 0) (xs ys : List (Fuse D)) (e : RollError) → ((n : ℕ) → Is n → More n) → HasFailedOn faults Is xs ys e → HasFailedOn faults More xs ys e
failed-wider faults Is More xs ys NotLost wider failed = tt
failed-wider faults Is More xs ys NoDump wider failed = tt
failed-wider faults Is More xs ys (Failed number) wider failed = (wider number failed.0, failed.1)
failed-wider faults Is More xs ys (Damaged number damage) wider failed = tt
failed-wider faults Is More xs ys NoMemory wider failed = tt

-- images of devices that hold what they held are images of before
pub images-back : {D : Type 0} (held : D → Held) (xs ys : List (Fuse D)) (images : ℕ → Held) → HoldSame held xs ys → AreImages held ys images → AreImages held xs images
images-back {D} held xs ys images same are n fuse at = step (slice_get ys n) refl (subst (λ (o : Option (Fuse D)). EachAs (λ a b. held b ≡ held a) o (slice_get ys n)) at (same n))
  where
    step : (o : Option (Fuse D)) → slice_get ys n ≡ o → EachAs (λ a b. held b ≡ held a) (Some fuse) o → Leaves (held (device_of fuse)) (images n)
    step None is still = absurd still
    step (Some f) is still = subst (λ (h : Held). Leaves h (images n)) still (are n f is)

module _ {D : Type 0} (kind : disk.Ghosts D) (config : Config) (volume : ℕ) where
  -- what is said of a device by its number
  held-there : (xs ys : List (Fuse D)) (n : ℕ) (before after : Fuse D) → slice_get xs n ≡ Some before → slice_get ys n ≡ Some after → HoldSame kind.held xs ys → kind.held (device_of after) ≡ kind.held (device_of before)
  held-there xs ys n before after at_before at_after same =
      subst (λ (o : Option (Fuse D)). EachAs (λ a b. kind.held b ≡ kind.held a) (Some before) o) at_after (subst (λ (o : Option (Fuse D)). EachAs (λ a b. kind.held b ≡ kind.held a) o (slice_get ys n)) at_before (same n))

  -- a device that only was read holds the files that it then keeps
  files-then : (xs ys zs : List (Fuse D)) → HoldSame kind.held xs ys → KeepTelling kind.tells xs ys → KeepsOtherFiles kind config volume ys zs → KeepsOtherFiles kind config volume xs zs
  files-then xs ys zs same tells files before after at_before at_after told =
      step (slice_get ys number) refl (subst (λ (o : Option (Fuse D)). EachAs (λ a b. kind.held b ≡ kind.held a) o (slice_get ys number)) at_before (same number))
      (subst (λ (o : Option (Fuse D)). EachAs (λ a b. kind.tells b ≡ kind.tells a) o (slice_get ys number)) at_before (tells number))
    where
      number : ℕ
      number = volume_device volume

      step : (o : Option (Fuse D)) → slice_get ys number ≡ o → EachAs (λ a b. kind.held b ≡ kind.held a) (Some before) o → EachAs (λ a b. kind.tells b ≡ kind.tells a) (Some before) o
          → OffVolume (files_on volume 1 config.files) (kind.held (device_of before)) (kind.held (device_of after))
      step None is still telling = absurd still
      step (Some middle) is still telling =
          subst (λ (h : Held). OffVolume (files_on volume 1 config.files) h (kind.held (device_of after))) still (files middle after is at_after (subst IsTrue (sym telling) told))

  pub rolls-read : (xs ys : List (Fuse D)) → ReadsOnly kind (IsRollDevice config volume) xs ys → RollsOnly kind config volume xs ys
  rolls-read xs ys reads = record {
    same = λ n other. reads.same n;
    keeps = reads.keeps;
    others = reads.others;
    files = λ before after at_before at_after told q apart only. ap (λ (h : Held). h q) (held-there xs ys (volume_device volume) before after at_before at_after reads.same);
  }

  pub rolls-then : ((a b c : D) → kind.is_same a b → kind.is_same b c → kind.is_same a c) → (xs ys zs : List (Fuse D)) → ReadsOnly kind (IsRollDevice config volume) xs ys → FillsOnly kind config volume ys zs → RollsOnly kind config volume xs zs
  rolls-then on xs ys zs reads fills = record {
    same = λ n other. subst (λ (o : Option (Fuse D)). EachAs (λ a b. kind.held b ≡ kind.held a) (slice_get xs n) o) (sym (fills.others n other)) (reads.same n);
    keeps = are-later-then kind on xs ys zs reads.keeps fills.keeps;
    others = λ n off. fills.others n (λ is. off (inl (inl is))) ∙ reads.others n off;
    files = files-then xs ys zs reads.same reads.keeps.tells fills.files;
  }

-- before anything is written each image is one of before
pub may-none : {D : Type 0} (kind : disk.Ghosts D) (config : Config) (volume : ℕ) (xs ys : List (Fuse D)) (held left : ℕ → Held) → HoldSame kind.held xs ys → AreImages kind.held ys left
    → (images : ℕ → Held) × AreImages kind.held xs images × MayRoll config volume held images left
may-none kind config volume xs ys held left same are = (left, images-back kind.held xs ys left same are, record { others = λ n other. refl; own = inl refl })

-- what a filling may leave a rollforward may leave
pub may-some : {D : Type 0} (kind : disk.Ghosts D) (config : Config) (volume low : ℕ) (records : Records) (xs ys : List (Fuse D)) (held left : ℕ → Held) → HoldSame kind.held xs ys
    → RollsForward config volume held (base_filled config volume low records) → ((images : ℕ → Held) × AreImages kind.held ys images × MayFill config volume low records images left)
    → (images : ℕ → Held) × AreImages kind.held xs images × MayRoll config volume held images left
may-some kind config volume low records xs ys held left same rolls may = (
  may.0,
  images-back kind.held xs ys may.0 same may.1,
  record {
    others = may.2.others;
    own = elim may.2.own [ inl was ↦ inl was | inr now ↦ inr (elim now [ inl none ↦ inl none | inr has ↦ inr (base_filled config volume low records, rolls, has) ]) ];
  },
)

-- a volume that is filled is rolled forward
pub rolled-to : {D : Type 0} (kind : disk.Ghosts D) (config : Config) (volume low : ℕ) (records : Records) (images : ℕ → Held) (zs : List (Fuse D)) → RollsForward config volume images (base_filled config volume low records)
    → DeviceAt (λ d. IsFilled config volume low records (kind.held d)) zs (volume_device volume)
    → ((left : ℕ → Held) → AreImages kind.held zs left → HasBase config volume (left (volume_device volume)) (Some (base_filled config volume low records)))
    → IsRolledTo kind.held config volume images zs low
rolled-to kind config volume low records images zs rolls filled every = record {
  base = base_filled config volume low records;
  rolls = rolls;
  next_is = refl;
  device = (filled.0, filled.1, (filled.2.base, filled.2.rests));
  every = every;
}

-- the refusal of a filling
pub fill-unwritten : {D : Type 0} (kind : disk.Ghosts D) (xs ys zs : List (Fuse D)) (e : FillError) → HoldSame kind.held xs ys → (e ≡ filling.NoMemory → zs ≡ ys) → IsFailure (fill_refused e) ⊎ HoldSame kind.held xs zs
fill-unwritten kind xs ys zs (filling.Failed number) same none = inl tt
fill-unwritten {D} kind xs ys zs filling.NoMemory same none = inr (subst (λ (l : List (Fuse D)). HoldSame kind.held xs l) (sym (none refl)) same)

pub fill-failed : {D : Type 0} (kind : disk.Ghosts D) (config : Config) (volume : ℕ) (xs ys zs : List (Fuse D)) (e : FillError) → NoneFalls kind.faults xs ys → NoneFalls kind.faults ys zs
    → ((number : ℕ) → e ≡ filling.Failed number → (number ≡ volume_device volume) × RoseAt kind.faults ys zs number) → HasFailedOn kind.faults (IsRollDevice config volume) xs zs (fill_refused e)
fill-failed kind config volume xs ys zs (filling.Failed number) p q cause = let told = cause number refl in (inl (inl told.0), rose-after kind.faults xs ys zs number p q told.1)
fill-failed kind config volume xs ys zs filling.NoMemory p q cause = tt

-- what is told of a refused filling
pub fill-told : (P : RollError → Type 0) (e : FillError) → ((number : ℕ) → P (Failed number)) → P NoMemory → P (fill_refused e)
fill-told P (filling.Failed number) failed none = failed number
fill-told P filling.NoMemory failed none = none

-- why no dump, or no trail, was read is why no volume is rolled forward
pub dump-roll : (config : Config) (volume : ℕ) (images : ℕ → Held) (e : RollError) → TellsDump config volume images e → TellsRoll config volume images e
dump-roll config volume images NotLost tells = tells
dump-roll config volume images NoDump tells = tells
dump-roll config volume images (Failed device) tells = tt
dump-roll config volume images (Damaged device damage) tells = inl tells
dump-roll config volume images NoMemory tells = tt

pub trail-roll : (config : Config) (volume : ℕ) (images : ℕ → Held) (dump : Base) (e : RollError) → IsDumped config volume images dump → TellsTrail config volume images e → TellsRoll config volume images e
trail-roll config volume images dump NotLost dumped tells = absurd tells
trail-roll config volume images dump NoDump dumped tells = absurd tells
trail-roll config volume images dump (Failed device) dumped tells = tt
trail-roll config volume images dump (Damaged device damage) dumped tells = inr (inl ((dump, dumped), tells))
trail-roll config volume images dump NoMemory dumped tells = tt

-- so is a block that would hold too much
pub full-roll : (config : Config) (volume : ℕ) (images : ℕ → Held) (homes : List Home) (blocks : List KeyedBlock) (files : FoundFiles) (dump : Base) (list : List MonitorRecord) (audit : List AuditRecord) (e : RollError)
    → IsRead config volume images dump list audit → ((damage : Damage) → IsFirstFullOf homes blocks files damage → IsFirstOverfull config volume (rolled_map volume dump list audit) damage) → TellsRolled volume homes blocks files e → TellsRoll config volume images e
full-roll config volume images homes blocks files dump list audit NotLost read overfull tells = absurd tells
full-roll config volume images homes blocks files dump list audit NoDump read overfull tells = absurd tells
full-roll config volume images homes blocks files dump list audit (Failed device) read overfull tells = tt
full-roll config volume images homes blocks files dump list audit (Damaged device damage) read overfull tells = inr (inr (tells.0, (dump, list, audit, read, overfull damage tells.1)))
full-roll config volume images homes blocks files dump list audit NoMemory read overfull tells = tt

-- no device fails where the records are made
pub rolled-failed : {D : Type 0} (faults : D → ℕ) (Is : ℕ → Type 0) (xs ys : List (Fuse D)) (volume : ℕ) (homes : List Home) (blocks : List KeyedBlock) (files : FoundFiles) (e : RollError) → TellsRolled volume homes blocks files e → HasFailedOn faults Is xs ys e
rolled-failed faults Is xs ys volume homes blocks files NotLost tells = tt
rolled-failed faults Is xs ys volume homes blocks files NoDump tells = tt
rolled-failed faults Is xs ys volume homes blocks files (Failed device) tells = absurd tells
rolled-failed faults Is xs ys volume homes blocks files (Damaged device damage) tells = tt
rolled-failed faults Is xs ys volume homes blocks files NoMemory tells = tt

-- Which volumes are lost: in what devices hold, in its images, and by the flags of a node that is up.
use Rattle.std.specs.Prelude.{◌==◌, ◌||◌, if◌then◌else◌, filter, slice_index, Option, Some, None}
use Rattle.std.specs.List.{list_any}
use Rattle.std.specs.Option.{option_map_or}
use Rattle.std.proofs.Common.{zero, suc, true, false, ◌≡◌, ◌≢◌, ◌≤◌, ◌<◌, ◌-◌, ◌++◌, ◌∷◌, [], ℕ, Bool, List, length, refl, sym, ap, subst, ◌∙◌, ⊎_elim, arith, eqb-true, eq-eqb}
use Rattle.std.proofs.lemmas.Bool.{cases_lt, false_from_ne_true}
use Rattle.std.proofs.lemmas.List.Elements.{filter-append}
use Rattle.std.proofs.lemmas.Option.{slice_get_within}
use Rattle.disk_model.specs.Held.{Held, File, Leaves, LeavesAt, LeavesFile}
use Rattle.tmf_model.specs.declared.config.Config.{Config}
use Rattle.tmf_model.specs.declared.config.Volume.{Volume}
use Rattle.trail_files.specs.Landed.{IsSettled}
use Rattle.trail_files.specs.StandsFor.{Base, IsNumber}
use Rattle.keyed_file.specs.declared.label.Label.{Label}
use Rattle.keyed_file.specs.Volume.{Contents, IsLost, SpellsVolume, label_of}
use Rattle.block_cache.specs.LabelDamage.{IsFineLabel}
use Rattle.block_cache.specs.Volume.{HasBase, HasNoLabel, RestsFor}
use Rattle.volume_restore.proofs.Restoring.{item-of}
use Rattle.volume_restore.specs.Bases.{next_behind, recovered_from}
use Rattle.volume_recovery.specs.VolumeAnswers.{is_lost, lost_among, numbers_to}
use Rattle.volume_recovery.specs.VolumeNode.{volume_device}
use Rattle.volume_recovery.specs.VolumeRecovery.{MayLeave}
use Rattle.block_cache.specs.Blocks.{with_low}
use Rattle.block_cache.specs.Whole.{IsOnTheWay}
use Rattle.tmf_model.specs.RecordMap.{RecordMap}
use Rattle.trail_files.specs.declared.audit_record.AuditRecord.{AuditRecord}
use Rattle.trail_files.specs.declared.monitor_record.MonitorRecord.{MonitorRecord}
use Rattle.tmf_cli.specs.declared.node.Up.{Up}
use Rattle.tmf_cli.specs.Lost.{AreLost, is_among, is_lost_volume, lost_flags, unless}

-- OF ONE IMAGE

abbrev lost-file : Option File → Bool
lost-file file = option_map_or (λ f. if slice_index f.bytes 0 == 1 then false else true) file true

lost-some : (o : Option File) → ((f : File) → o ≡ Some f → slice_index f.bytes 0 ≢ 1) → lost-file o ≡ true
lost-some None none = refl
lost-some (Some f) none = ap (λ (b : Bool). if b then false else true) (false_from_ne_true (slice_index f.bytes 0 == 1) (λ e. none f refl (eqb-true (slice_index f.bytes 0) 1 e)))

label-some : (o : Option File) (f : File) → o ≡ Some f → slice_index f.bytes 0 ≡ 1 → lost-file o ≡ false
label-some o f is gate = ap lost-file is ∙ ap (λ (b : Bool). if b then false else true) (eq-eqb (slice_index f.bytes 0) 1 gate)

pub lost-is : (image : Held) → IsLost image → is_lost image ≡ true
lost-is image lost = lost-some (image 1) lost

-- and it is lost where that is told
lost-back : (image : Held) → is_lost image ≡ true → IsLost image
lost-back image is f some gate = let never : false ≡ true = sym (label-some (image 1) f some gate) ∙ is in absurd (cc never)

-- two images that are lost alike
pub lost-both : (a b : Held) → (IsLost a → IsLost b) → (IsLost b → IsLost a) → is_lost a ≡ is_lost b
lost-both a b to back = of (is_lost a) (is_lost b) refl refl
  where
    of : (x y : Bool) → is_lost a ≡ x → is_lost b ≡ y → is_lost a ≡ is_lost b
    of true y p q = p ∙ sym (lost-is b (to (lost-back a p)))
    of false true p q = let never : false ≡ true = sym p ∙ lost-is a (back (lost-back b q)) in absurd (cc never)
    of false false p q = p ∙ sym q

pub none-is : (image : Held) → HasNoLabel image → is_lost image ≡ true
none-is image none = lost-is image (λ f is. (none f is).1)

-- a label of which nothing is wrong is there
pub gate-is : (label : Label) (image : Held) → IsFineLabel label image → is_lost image ≡ false
gate-is label image fine = label-some (image 1) fine.0 fine.1 fine.2.0

pub label-is : (label : Label) (image : Held) (was : Contents) → SpellsVolume label image was → is_lost image ≡ false
label-is label image was spelled = label-some (image 1) spelled.label_file.0 spelled.label_file.1 spelled.label_file.2.gate

-- an image of a label's file that rests and has a byte begins with the same one
first-byte : (file image : File) → IsSettled file → 0 < length file.bytes → LeavesFile file image → slice_index image.bytes 0 ≡ slice_index file.bytes 0
first-byte file image settled some leaves = let synced = settled.synced in leaves.same 0 (omega (arith, synced, some)) (settled.safe 0 some)

-- so each image of a device that rests has lost its volume where the device has
pub lost-image : (config : Config) (volume : ℕ) (base : Option Base) (held image : Held) → HasBase config volume held base → RestsFor (label_of config volume 1) held → Leaves held image → is_lost image ≡ is_lost held
lost-image config volume base held image has rests leaves = of (held 1) (image 1) (leaves 1) rests.label_file (some-byte base has)
  where
    some-same : (o : Option File) (a b : File) → o ≡ Some a → o ≡ Some b → a ≡ b
    some-same o a b p q = cc

    of : (old new : Option File) → LeavesAt old new → ((f : File) → old ≡ Some f → IsSettled f) → ((f : File) → old ≡ Some f → 0 < length f.bytes) → lost-file new ≡ lost-file old
    of None None leaves settled some = refl
    of (Some a) (Some b) leaves settled some = ap (λ (n : ℕ). if n == 1 then false else true) (first-byte a b (settled a refl) (some a refl) leaves)
    of None (Some b) leaves settled some = absurd leaves
    of (Some a) None leaves settled some = absurd leaves

    some-byte : (base : Option Base) → HasBase config volume held base → (f : File) → held 1 ≡ Some f → 0 < length f.bytes
    some-byte None none f is = (none f is).0
    some-byte (Some b) spelled f is =
        let there = spelled.1.label_file in
        let same : there.0 ≡ f = some-same (held 1) there.0 f there.1 is in
        subst (λ (g : File). 0 < length g.bytes) same (let long = there.2.long in omega (arith, long))

-- OF ALL

next-lost : (images : ℕ → Held) (n : ℕ) → lost_among images (suc n) ≡ lost_among images n ++ filter (λ volume. is_lost (images (volume_device volume))) (suc n ∷ [])
next-lost images n = filter-append (λ volume. is_lost (images (volume_device volume))) (numbers_to n) (suc n ∷ [])

-- images in which the same volumes are lost
pub same-lost : (a b : ℕ → Held) (n : ℕ) → ((v : ℕ) → 1 ≤ v → v ≤ n → is_lost (a (volume_device v)) ≡ is_lost (b (volume_device v))) → lost_among a n ≡ lost_among b n
same-lost a b zero same = refl
same-lost a b (suc n) same =
    next-lost a n
    ∙ ap (λ xs. xs ++ filter (λ volume. is_lost (a (volume_device volume))) (suc n ∷ [])) (same-lost a b n (λ v some le. same v some (omega (arith, le))))
    ∙ ap (λ (c : Bool). lost_among b n ++ (if c then suc n ∷ [] else [])) (same (suc n) (omega arith) (omega arith))
    ∙ sym (next-lost b n)

-- each number up to that of the last volume is that of one
pub number-at : {T : Type 0} (xs : List T) (n : ℕ) → 1 ≤ n → n ≤ length xs → (x : T) × IsNumber xs n x
number-at xs n some le = item-of xs n (record { above = some; below = le })

pub number-within : {T : Type 0} (xs : List T) (n : ℕ) (x : T) → IsNumber xs n x → n ≤ length xs
number-within xs n x is = omega (arith, is.0, slice_get_within xs (n - 1) x is.1)

-- images in which each volume of the configuration is lost alike
pub lost-alike : (config : Config) (a b : ℕ → Held) → ((v : ℕ) (line : Volume) → IsNumber config.volumes v line → is_lost (a (volume_device v)) ≡ is_lost (b (volume_device v)))
    → lost_among a (length config.volumes) ≡ lost_among b (length config.volumes)
lost-alike config a b same = same-lost a b (length config.volumes) (λ v some le. let at = number-at config.volumes v some le in same v at.0 at.1)

-- images of which none is lost
abbrev pub nothing : ℕ → Held
nothing n = λ m. if m == 1 then Some (record { bytes = 1 ∷ []; risk = λ i. false; synced = 1 }) else None

pub none-among : (config : Config) → lost_among nothing (length config.volumes) ≡ []
none-among config = of (length config.volumes)
  where
    of : (n : ℕ) → lost_among nothing n ≡ []
    of zero = refl
    of (suc n) = next-lost nothing n ∙ ap (λ xs. xs ++ []) (of n)

-- what a recovery leaves of a volume, whole or stopped, is lost where its image was
pub kept-lost : (config : Config) (volume : ℕ) (audit : List AuditRecord) (list : List MonitorRecord) (image left : Held) (base : Option Base) → HasBase config volume image base → MayLeave config volume audit list image left → is_lost left ≡ is_lost image
kept-lost config volume audit list image left None none may = none-is left (may.lost none) ∙ sym (none-is image none)
kept-lost config volume audit list image left (Some base) (was, spelled, records) may =
    way-label (label_of config volume base.position) (next_behind volume base.position audit) was (recovered_from config volume base.position was audit list) left (may.rewritten base.position was spelled)
    ∙ sym (label-is (label_of config volume base.position) image was spelled)
  where
    way-label : (label : Label) (low : ℕ) (was : Contents) (map : RecordMap) (left : Held) → IsOnTheWay label low was map left → is_lost left ≡ false
    way-label label low was map left way = ⊎_elim (λ old. label-is label left way.0 old.0) (λ new. label-is (with_low label low) left way.0 new.0) way.1

-- THE FLAGS

any-append : {T : Type 0} (p : T → Bool) (xs ys : List T) → list_any p (xs ++ ys) ≡ (list_any p xs || list_any p ys)
any-append p [] ys = refl
any-append p (x ∷ xs) ys = of (p x) (any-append p xs ys)
  where
    of : (b : Bool) → list_any p (xs ++ ys) ≡ (list_any p xs || list_any p ys) → (b || list_any p (xs ++ ys)) ≡ ((b || list_any p xs) || list_any p ys)
    of true rest = refl
    of false rest = rest

or-false : (b : Bool) → (b || false) ≡ b
or-false true = refl
or-false false = refl

-- a number is told apart from a higher one
not-below : (v n : ℕ) → v < n → (n == v) ≡ false
not-below v n lt = false_from_ne_true (n == v) (λ e. let same = eqb-true n v e in omega (arith, same, lt))

one-among : (b : Bool) (n v : ℕ) → is_among (if b then n ∷ [] else []) v ≡ (if b then (n == v) || false else false)
one-among true n v = refl
one-among false n v = refl

-- none above the last is among the lost
above-among : (images : ℕ → Held) (n v : ℕ) → n < v → is_among (lost_among images n) v ≡ false
above-among images zero v lt = refl
above-among images (suc n) v lt =
    ap (λ xs. is_among xs v) (next-lost images n)
    ∙ any-append (λ number. number == v) (lost_among images n) (filter (λ volume. is_lost (images (volume_device volume))) (suc n ∷ []))
    ∙ ap (λ (b : Bool). b || is_among (filter (λ volume. is_lost (images (volume_device volume))) (suc n ∷ [])) v) (above-among images n v (omega (arith, lt)))
    ∙ one-among (is_lost (images (volume_device (suc n)))) (suc n) v
    ∙ last (is_lost (images (volume_device (suc n)))) (false_from_ne_true (suc n == v) (λ e. let same = eqb-true (suc n) v e in omega (arith, same, lt)))
  where
    last : (b : Bool) → (suc n == v) ≡ false → (if b then (suc n == v) || false else false) ≡ false
    last true e = or-false (suc n == v) ∙ e
    last false e = refl

-- a volume is among the lost exactly where it is lost
pub among-is : (images : ℕ → Held) (n v : ℕ) → 1 ≤ v → v ≤ n → is_among (lost_among images n) v ≡ is_lost (images (volume_device v))
among-is images zero v some le = absurd (omega (arith, some, le))
among-is images (suc n) v some le =
    ap (λ xs. is_among xs v) (next-lost images n)
    ∙ any-append (λ number. number == v) (lost_among images n) (filter (λ volume. is_lost (images (volume_device volume))) (suc n ∷ []))
    ∙ ⊎_elim (λ below. before (among-is images n v some (omega (arith, below))) (omega (arith, below))) (λ at. here (omega (arith, at, le))) (cases_lt v (suc n))
  where
    of : (b : Bool) → (suc n == v) ≡ true → (if b then (suc n == v) || false else false) ≡ b
    of true e = or-false (suc n == v) ∙ e
    of false e = refl

    here : suc n ≡ v → (is_among (lost_among images n) v || is_among (filter (λ volume. is_lost (images (volume_device volume))) (suc n ∷ [])) v) ≡ is_lost (images (volume_device v))
    here is =
        ap (λ (b : Bool). b || is_among (filter (λ volume. is_lost (images (volume_device volume))) (suc n ∷ [])) v) (above-among images n v (omega (arith, is)))
        ∙ one-among (is_lost (images (volume_device (suc n)))) (suc n) v
        ∙ of (is_lost (images (volume_device (suc n)))) (eq-eqb (suc n) v is)
        ∙ ap (λ m. is_lost (images (volume_device m))) is

    other : (b : Bool) → (suc n == v) ≡ false → (if b then (suc n == v) || false else false) ≡ false
    other true e = or-false (suc n == v) ∙ e
    other false e = refl

    before : is_among (lost_among images n) v ≡ is_lost (images (volume_device v)) → v < suc n → (is_among (lost_among images n) v || is_among (filter (λ volume. is_lost (images (volume_device volume))) (suc n ∷ [])) v) ≡ is_lost (images (volume_device v))
    before rest lt =
        ap (λ (b : Bool). is_among (lost_among images n) v || b) (one-among (is_lost (images (volume_device (suc n)))) (suc n) v ∙ other (is_lost (images (volume_device (suc n)))) (not-below v (suc n) lt))
        ∙ or-false (is_among (lost_among images n) v) ∙ rest

-- the flags have what they were made of
pub flag-is : (numbers : List ℕ) (v : ℕ) → 1 ≤ v → v ≤ 8 → is_lost_volume (lost_flags numbers) v ≡ is_among numbers v
flag-is numbers zero some le = absurd (omega (arith, some))
flag-is numbers (suc zero) some le = refl
flag-is numbers (suc (suc zero)) some le = refl
flag-is numbers (suc (suc (suc zero))) some le = refl
flag-is numbers (suc (suc (suc (suc zero)))) some le = refl
flag-is numbers (suc (suc (suc (suc (suc zero))))) some le = refl
flag-is numbers (suc (suc (suc (suc (suc (suc zero)))))) some le = refl
flag-is numbers (suc (suc (suc (suc (suc (suc (suc zero))))))) some le = refl
flag-is numbers (suc (suc (suc (suc (suc (suc (suc (suc zero)))))))) some le = refl
flag-is numbers (suc (suc (suc (suc (suc (suc (suc (suc (suc n))))))))) some le = absurd (omega (arith, le))

-- the flags of the volumes that images have lost are those of devices that have lost the same
pub flags-lost : (config : Config) (images held : ℕ → Held) → length config.volumes ≤ 8
    → ((v : ℕ) (line : Volume) → IsNumber config.volumes v line → is_lost (held (volume_device v)) ≡ is_lost (images (volume_device v))) → AreLost config held (lost_flags (lost_among images (length config.volumes)))
flags-lost config images held few same v line is =
    let within = number-within config.volumes v line is in
    same v line is ∙ sym (among-is images (length config.volumes) v is.0 within) ∙ sym (flag-is (lost_among images (length config.volumes)) v is.0 (omega (arith, within, few)))

-- where none is lost, none is flagged
pub none-flagged : (config : Config) (held : ℕ → Held) → length config.volumes ≤ 8 → ((v : ℕ) (line : Volume) → IsNumber config.volumes v line → is_lost (held (volume_device v)) ≡ false) → AreLost config held (lost_flags [])
none-flagged config held few none v line is =
    let within = number-within config.volumes v line is in
    none v line is ∙ sym (flag-is [] v is.0 (omega (arith, within, few)))

-- A RUN AND A LISTING

pub unless-some : (is_so : Up → Bool) (o : Option Up) (up : Up) → unless is_so o ≡ Some up → (o ≡ Some up) × (is_so up ≡ false)
unless-some is_so None up is = absurd (cc is)
unless-some is_so (Some x) up is = of (is_so x) refl is
  where
    same : Some x ≡ Some up → x ≡ up
    same e = cc

    of : (b : Bool) → is_so x ≡ b → (if b then None else Some x) ≡ Some up → (Some x ≡ Some up) × (is_so up ≡ false)
    of true here some = absurd (cc some)
    of false here some = (some, subst (λ (u : Up). is_so u ≡ false) (same some) here)

pub unless-there : (is_so : Up → Bool) (o : Option Up) → unless is_so o ≢ None → (up : Up) × (unless is_so o ≡ Some up)
unless-there is_so o some = of (unless is_so o) refl
  where
    of : (found : Option Up) → unless is_so o ≡ found → (up : Up) × (unless is_so o ≡ Some up)
    of None is = absurd (some is)
    of (Some up) is = (up, is)

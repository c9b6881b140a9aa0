-- What a call on one device does to those of a bay.
use Rattle.std.specs.Prelude.{slice_get, slice_set, Option, Some, None, IsTrue}
use Rattle.std.proofs.Common.{zero, suc, ◌≡◌, ◌≤◌, ◌^◌, ◌-◌, ◌++◌, ◌∷◌, [], ℕ, Bool, List, length, map, refl, sym, ap, subst, ◌∙◌, arith, ⊎_elim}
use Rattle.std.proofs.lemmas.Bool.Decides.{leb_tells}
use Rattle.disk_model.specs.Fuse.{CutsNone, IsSameFuse, KeepsCuts, device_of, fuse_faults}
use Rattle.disk_model.specs.SameFuse.{cuts_itself, cuts_on}
use Rattle.disk_model.specs.Held.{Held, Leaves, Rose}
use Rattle.disk_model.specs.declared.fuse.Fuse.{Fuse}
use Rattle.disk_model.specs.Devices.{AreLater, DevicesTell, AreHeld, EachFuse, FuseAs, FuseRestarts, KeepTelling, NoneFalls, HoldSame, RoseAt, SameBut, StayInPlace}
use Rattle.disk_model.specs.declared.disk.Disk as disk

-- the item that is set is there
pub set-at : {X : Type 0} (xs : List X) (n : ℕ) (old new : X) → slice_get xs n ≡ Some old → slice_get (slice_set xs n new) n ≡ Some new
set-at [] n old new is = absurd (cc)
set-at (x ∷ xs) zero old new is = refl
set-at (x ∷ xs) (suc n) old new is = set-at xs n old new is

-- the others stay
pub set-but : {D : Type 0} (xs : List (Fuse D)) (n : ℕ) (new : Fuse D) → SameBut n xs (slice_set xs n new)
set-but [] n new m other = refl
set-but (x ∷ xs) zero new zero other = absurd (other refl)
set-but (x ∷ xs) zero new (suc m) other = refl
set-but (x ∷ xs) (suc n) new zero other = refl
set-but (x ∷ xs) (suc n) new (suc m) other = set-but xs n new m (λ same. other (ap suc same))

as-same : {D : Type 0} (P : Fuse D → Fuse D → Type 0) → ((f : Fuse D) → P f f) → (o : Option (Fuse D)) → FuseAs P o o
as-same P same None = tt
as-same P same (Some fuse) = same fuse

-- what holds of a fuse that is left alone holds of each
pub each-same : {D : Type 0} (P : Fuse D → Fuse D → Type 0) → ((f : Fuse D) → P f f) → (xs : List (Fuse D)) → EachFuse P xs xs
each-same P same xs n = as-same P same (slice_get xs n)

-- it holds of each where it holds of the one that is set
pub each-set : {D : Type 0} (P : Fuse D → Fuse D → Type 0) → ((f : Fuse D) → P f f) → (xs : List (Fuse D)) (n : ℕ) (old new : Fuse D)
    → slice_get xs n ≡ Some old → P old new → EachFuse P xs (slice_set xs n new)
each-set P same [] n old new is holds m = absurd (cc)
each-set P same (x ∷ xs) zero old new is holds zero = subst (λ o. FuseAs P o (Some new)) (sym is) holds
each-set P same (x ∷ xs) zero old new is holds (suc m) = as-same P same (slice_get xs m)
each-set P same (x ∷ xs) (suc n) old new is holds zero = same x
each-set P same (x ∷ xs) (suc n) old new is holds (suc m) = each-set P same xs n old new is holds m

as-then : {D : Type 0} (P : Fuse D → Fuse D → Type 0) → ((a b c : Fuse D) → P a b → P b c → P a c) → (x y z : Option (Fuse D)) → FuseAs P x y → FuseAs P y z → FuseAs P x z
as-then P next None None None p q = tt
as-then P next None None (Some c) p q = q
as-then P next None (Some b) z p q = absurd p
as-then P next (Some a) None z p q = absurd p
as-then P next (Some a) (Some b) None p q = q
as-then P next (Some a) (Some b) (Some c) p q = next a b c p q

-- and over two calls
pub each-then : {D : Type 0} (P : Fuse D → Fuse D → Type 0) → ((a b c : Fuse D) → P a b → P b c → P a c) → (xs ys zs : List (Fuse D)) → EachFuse P xs ys → EachFuse P ys zs → EachFuse P xs zs
each-then P next xs ys zs p q n = as-then P next (slice_get xs n) (slice_get ys n) (slice_get zs n) (p n) (q n)

le-then : (a b c : ℕ) → a ≤ b → b ≤ c → a ≤ c
le-then a b c p q = omega (arith, p, q)

abbrev TellsAs : {D : Type 0} → (D → Bool) → Fuse D → Fuse D → Type 0
TellsAs tells a b = tells (device_of b) ≡ tells (device_of a)

abbrev NoLess : {D : Type 0} → (D → ℕ) → Fuse D → Fuse D → Type 0
NoLess faults a b = fuse_faults faults a ≤ fuse_faults faults b

abbrev HoldsAs : {D : Type 0} → (D → Held) → Fuse D → Fuse D → Type 0
HoldsAs held a b = held (device_of b) ≡ held (device_of a)

pub place-set : {D : Type 0} (is_same : D → D → Type 0) → ((d : D) → is_same d d) → (xs : List (Fuse D)) (n : ℕ) (old new : Fuse D) → slice_get xs n ≡ Some old
    → is_same (device_of old) (device_of new) → StayInPlace is_same xs (slice_set xs n new)
place-set is_same itself xs n old new is holds = each-set (λ a b. is_same (device_of a) (device_of b)) (λ f. itself (device_of f)) xs n old new is holds

pub tells-set : {D : Type 0} (tells : D → Bool) (xs : List (Fuse D)) (n : ℕ) (old new : Fuse D) → slice_get xs n ≡ Some old → tells (device_of new) ≡ tells (device_of old)
    → KeepTelling tells xs (slice_set xs n new)
tells-set tells xs n old new is holds = each-set (TellsAs tells) (λ f. refl) xs n old new is holds

pub later-set : {D : Type 0} (faults : D → ℕ) (xs : List (Fuse D)) (n : ℕ) (old new : Fuse D) → slice_get xs n ≡ Some old → fuse_faults faults old ≤ fuse_faults faults new
    → NoneFalls faults xs (slice_set xs n new)
later-set faults xs n old new is holds = each-set (NoLess faults) (λ f. omega arith) xs n old new is holds

pub held-set : {D : Type 0} (held : D → Held) (xs : List (Fuse D)) (n : ℕ) (old new : Fuse D) → slice_get xs n ≡ Some old → held (device_of new) ≡ held (device_of old)
    → HoldSame held xs (slice_set xs n new)
held-set held xs n old new is holds = each-set (HoldsAs held) (λ f. refl) xs n old new is holds

pub place-then : {D : Type 0} (is_same : D → D → Type 0) → ((a b c : D) → is_same a b → is_same b c → is_same a c) → (xs ys zs : List (Fuse D))
    → StayInPlace is_same xs ys → StayInPlace is_same ys zs → StayInPlace is_same xs zs
place-then is_same on xs ys zs p q = each-then (λ a b. is_same (device_of a) (device_of b)) (λ a b c. on (device_of a) (device_of b) (device_of c)) xs ys zs p q

pub tells-then : {D : Type 0} (tells : D → Bool) (xs ys zs : List (Fuse D)) → KeepTelling tells xs ys → KeepTelling tells ys zs → KeepTelling tells xs zs
tells-then tells xs ys zs p q = each-then (TellsAs tells) (λ a b c e f. f ∙ e) xs ys zs p q

pub later-then : {D : Type 0} (faults : D → ℕ) (xs ys zs : List (Fuse D)) → NoneFalls faults xs ys → NoneFalls faults ys zs → NoneFalls faults xs zs
later-then faults xs ys zs p q = each-then (NoLess faults) (λ a b c. le-then (fuse_faults faults a) (fuse_faults faults b) (fuse_faults faults c)) xs ys zs p q

pub held-then : {D : Type 0} (held : D → Held) (xs ys zs : List (Fuse D)) → HoldSame held xs ys → HoldSame held ys zs → HoldSame held xs zs
held-then held xs ys zs p q = each-then (HoldsAs held) (λ a b c e f. f ∙ e) xs ys zs p q

pub place-same : {D : Type 0} (is_same : D → D → Type 0) → ((d : D) → is_same d d) → (xs : List (Fuse D)) → StayInPlace is_same xs xs
place-same is_same itself xs = each-same (λ a b. is_same (device_of a) (device_of b)) (λ f. itself (device_of f)) xs

pub tells-same : {D : Type 0} (tells : D → Bool) (xs : List (Fuse D)) → KeepTelling tells xs xs
tells-same tells xs = each-same (TellsAs tells) (λ f. refl) xs

pub later-same : {D : Type 0} (faults : D → ℕ) (xs : List (Fuse D)) → NoneFalls faults xs xs
later-same faults xs = each-same (NoLess faults) (λ f. omega arith) xs

pub held-same : {D : Type 0} (held : D → Held) (xs : List (Fuse D)) → HoldSame held xs xs
held-same held xs = each-same (HoldsAs held) (λ f. refl) xs

-- the fuse that was there before one that is there
was-there : {D : Type 0} (P : Fuse D → Fuse D → Type 0) (o : Option (Fuse D)) (p : Option (Fuse D)) (new : Fuse D) → FuseAs P o p → p ≡ Some new → (old : Fuse D) × (o ≡ Some old) × P old new
was-there P None None new each is = absurd (cc)
was-there P None (Some b) new each is = absurd each
was-there P (Some a) None new each is = absurd each
was-there P (Some a) (Some b) new each is = (a, refl, subst (λ p. FuseAs P (Some a) p) is each)

pub was-at : {D : Type 0} (P : Fuse D → Fuse D → Type 0) (xs ys : List (Fuse D)) (n : ℕ) (new : Fuse D) → EachFuse P xs ys → slice_get ys n ≡ Some new → (old : Fuse D) × (slice_get xs n ≡ Some old) × P old new
was-at P xs ys n new each is = was-there P (slice_get xs n) (slice_get ys n) new (each n) is

-- devices that told their states go on
pub tell-then : {D : Type 0} (tells : D → Bool) (xs ys : List (Fuse D)) → KeepTelling tells xs ys → DevicesTell tells xs → DevicesTell tells ys
tell-then tells xs ys keep tell n fuse is =
    let was = was-at (TellsAs tells) xs ys n fuse keep is in
    subst IsTrue (sym was.2) (tell n was.0 was.1)

-- devices that hold what they held hold the same images
pub held-as : {D : Type 0} (held : D → Held) (xs ys : List (Fuse D)) (images : ℕ → Held) → HoldSame held xs ys → AreHeld held xs images → AreHeld held ys images
held-as held xs ys images same are n fuse is =
    let was = was-at (HoldsAs held) xs ys n fuse same is in
    was.2 ∙ are n was.0 was.1

rose-nat : (a b c : ℕ) → a ≤ b → b ≤ c → Rose b c → Rose a c
rose-nat a b c p q rose small =
    ⊎_elim
    (λ most. omega (arith, p, q, most.1, small))
    (λ less. omega (arith, p, q, rose less.1))
    (leb_tells (2 ^ 64 - 1) b)

at-here : {D : Type 0} (faults : D → ℕ) (ys zs : List (Fuse D)) (n : ℕ) (old new : Fuse D) → NoneFalls faults ys zs → slice_get ys n ≡ Some old → slice_get zs n ≡ Some new
    → fuse_faults faults old ≤ fuse_faults faults new
at-here faults ys zs n old new later was is = subst (λ p. FuseAs (NoLess faults) p (Some new)) was (subst (λ p. FuseAs (NoLess faults) (slice_get ys n) p) is (later n))

-- a fuse whose count rose is one whose count rose, whatever was done before
pub rose-after : {D : Type 0} (faults : D → ℕ) (xs ys zs : List (Fuse D)) (n : ℕ) → NoneFalls faults xs ys → NoneFalls faults ys zs → RoseAt faults ys zs n → RoseAt faults xs zs n
rose-after faults xs ys zs n later later_on rose =
    let was = was-at (NoLess faults) xs ys n rose.before later rose.was in
    record {
      before = was.0;
      after = rose.after;
      was = was.1;
      is = rose.is;
      rose = rose-nat (fuse_faults faults was.0) (fuse_faults faults rose.before) (fuse_faults faults rose.after) was.2
          (at-here faults ys zs n rose.before rose.after later_on rose.was rose.is) rose.rose;
    }

pub rose-set : {D : Type 0} (faults : D → ℕ) (xs : List (Fuse D)) (n : ℕ) (old new : Fuse D) → slice_get xs n ≡ Some old → Rose (fuse_faults faults old) (fuse_faults faults new)
    → RoseAt faults xs (slice_set xs n new) n
rose-set faults xs n old new is rose = record { before = old; after = new; was = is; is = set-at xs n old new is; rose = rose }

-- over two calls the devices are the same, and later
pub are-later-then : {D : Type 0} (kind : disk.Ghosts D) → ((a b c : D) → kind.is_same a b → kind.is_same b c → kind.is_same a c) → (xs ys zs : List (Fuse D))
    → AreLater kind xs ys → AreLater kind ys zs → AreLater kind xs zs
are-later-then kind on xs ys zs p q = record {
  devices = place-then kind.is_same on xs ys zs p.devices q.devices;
  tells = tells-then kind.tells xs ys zs p.tells q.tells;
  later = later-then kind.faults xs ys zs p.later q.later;
  cuts = each-then KeepsCuts cuts_on xs ys zs p.cuts q.cuts;
}

-- so are devices that no call was made on
pub are-later-same : {D : Type 0} (kind : disk.Ghosts D) → ((d : D) → kind.is_same d d) → (xs : List (Fuse D)) → AreLater kind xs xs
are-later-same kind itself xs = record {
  devices = place-same kind.is_same itself xs;
  tells = tells-same kind.tells xs;
  later = later-same kind.faults xs;
  cuts = each-same KeepsCuts cuts_itself xs;
}

-- and devices of which one was worked on
pub are-later-set : {D : Type 0} (kind : disk.Ghosts D) → ((d : D) → kind.is_same d d) → (xs : List (Fuse D)) (n : ℕ) (old new : Fuse D) → slice_get xs n ≡ Some old
    → IsSameFuse kind.is_same old new → kind.tells (device_of new) ≡ kind.tells (device_of old) → fuse_faults kind.faults old ≤ fuse_faults kind.faults new
    → AreLater kind xs (slice_set xs n new)
are-later-set kind itself xs n old new is same tells later = record {
  devices = place-set kind.is_same itself xs n old new is same.device;
  tells = tells-set kind.tells xs n old new is tells;
  later = later-set kind.faults xs n old new is later;
  cuts = each-set KeepsCuts cuts_itself xs n old new is same.cuts;
}

-- what is said of the fuses at each place of two lists of one length
pub each-at : {D : Type 0} (P : Fuse D → Fuse D → Type 0) (xs ys : List (Fuse D)) → length xs ≡ length ys
    → ((n : ℕ) (a b : Fuse D) → slice_get xs n ≡ Some a → slice_get ys n ≡ Some b → P a b) → EachFuse P xs ys
each-at P [] [] long each n = tt
each-at P [] (y ∷ ys) long each n = absurd (omega (arith, long))
each-at P (x ∷ xs) [] long each n = absurd (omega (arith, long))
each-at P (x ∷ xs) (y ∷ ys) long each zero = each 0 x y refl refl
each-at P (x ∷ xs) (y ∷ ys) long each (suc n) = each-at P xs ys (omega (arith, long)) (λ m. each (suc m)) n

uncut-keeps : {D : Type 0} (a b : Fuse D) → CutsNone a b → KeepsCuts a b
uncut-keeps a b none = record { armed = none.armed; later = omega (arith, none.cuts); uncut = λ _. none.cuts }

as-cuts : {D : Type 0} (o p : Option (Fuse D)) → FuseAs CutsNone o p → FuseAs KeepsCuts o p
as-cuts None None each = tt
as-cuts None (Some b) each = each
as-cuts (Some a) None each = each
as-cuts (Some a) (Some b) each = uncut-keeps a b each

-- and devices as a crash leaves them
pub are-later-restarted : {D : Type 0} (kind : disk.Ghosts D) (count : ℕ) (xs ys : List (Fuse D)) → length xs ≡ count → length ys ≡ count
    → ((n : ℕ) (old new : Fuse D) → slice_get xs n ≡ Some old → slice_get ys n ≡ Some new → FuseRestarts kind old new) → EachFuse CutsNone xs ys → AreLater kind xs ys
are-later-restarted kind count xs ys before after each uncut = record {
  devices = each-at (λ a b. kind.is_same (device_of a) (device_of b)) xs ys (before ∙ sym after) (λ n a b p q. (each n a b p q).device);
  tells = each-at (TellsAs kind.tells) xs ys (before ∙ sym after) (λ n a b p q. (each n a b p q).telling);
  later = each-at (NoLess kind.faults) xs ys (before ∙ sym after) (λ n a b p q. (each n a b p q).later);
  cuts = λ n. as-cuts (slice_get xs n) (slice_get ys n) (uncut n);
}

-- a fuse that restarts with its device
pub fuse-restarts : {D : Type 0} (kind : disk.Ghosts D) (old new : Fuse D) → kind.tells (device_of new) ≡ kind.tells (device_of old) → IsSameFuse kind.is_same old new
    → (IsTrue (kind.tells (device_of old)) → Leaves (kind.held (device_of old)) (kind.held (device_of new))) → fuse_faults kind.faults old ≤ fuse_faults kind.faults new
    → FuseRestarts kind old new
fuse-restarts kind old new tells same image later = record { telling = tells; device = same.device; image = image; later = later }

fused-on : {D : Type 0} (made : List (Fuse D)) (fuse : Fuse D) (rest : List D) → map device_of (made ++ fuse ∷ []) ++ rest ≡ map device_of made ++ device_of fuse ∷ rest
fused-on [] fuse rest = refl
fused-on (m ∷ ms) fuse rest = ap (λ l. device_of m ∷ l) (fused-on ms fuse rest)

-- the devices of the fuses that are made, and those that are left, stay all the devices where one more is put into a fuse
pub fused : {D : Type 0} (made now : List (Fuse D)) (fuse : Fuse D) (device : D) (left rest all : List D) → now ≡ made ++ fuse ∷ [] → device_of fuse ≡ device → left ≡ device ∷ rest
    → map device_of made ++ left ≡ all → map device_of now ++ rest ≡ all
fused made now fuse device left rest all more is next so =
    ap (λ fuses. map device_of fuses ++ rest) more ∙ fused-on made fuse rest ∙ ap (λ d. map device_of made ++ d ∷ rest) is ∙ ap (λ l. map device_of made ++ l) (sym next) ∙ so

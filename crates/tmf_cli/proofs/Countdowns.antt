-- The devices of a bay of which the countdown alone was switched, and fuses that were disarmed.
use Rattle.std.specs.Prelude.{slice_get, Option, Some, None, IsTrue, Result, Ok, Err}
use Rattle.std.proofs.Common.{suc, false, true, ◌≡◌, ◌≤◌, ◌++◌, ◌∷◌, [], ℕ, Bool, List, length, refl, sym, ap, subst, ◌∙◌, inl, inr, arith}
use Rattle.disk_model.specs.Devices.{AreHeld, AreImages, AreLater, EachFuse, FuseAs, FuseRestarts, HoldSame, KeepTelling, NoneFalls, RoseAt, StayInPlace}
use Rattle.disk_model.specs.Fuse.{IsSet, KeepsCuts, cuts_of, device_of, fuse_faults, is_armed}
use Rattle.disk_model.specs.Held.{Held, Leaves}
use Rattle.disk_model.specs.declared.disk.Disk as disk
use Rattle.disk_model.specs.declared.fuse.Fuse.{Fuse}
use Rattle.disk_model.proofs.Devices.{each-same, each-then, held-as, later-same, later-then, place-same, place-then, tells-same, tells-then, was-at}
use Rattle.tmf_model.specs.declared.config.Config.{Config}
use Rattle.tmf_model.specs.declared.script.Action.{Action}
use Rattle.volume_recovery.specs.declared.errors.RecoverError.{RecoverError}
use Rattle.volume_recovery.specs.declared.errors.RecoverError.TheVariants as recovery
use Rattle.volume_recovery.specs.declared.recovery.Recovered.{Recovered}
use Rattle.volume_recovery.specs.Recovery.{IsUnwritten}
use Rattle.volume_recovery.specs.VolumeAnswers.{HasRecoveredWithVolumes, RecoversWithVolumes}
use Rattle.volume_recovery.specs.VolumeLoop.{IsUsed}
use Rattle.tmf_cli.specs.BetweenActions.{LeavesBay, OthersRestarted, SameOthers}
use Rattle.tmf_cli.specs.Countdown.{IsOff, IsOn, IsSwitched, NoneCut, NoneKilled, OnceSwitched, Switches, kill_of}
use Rattle.tmf_cli.proofs.Acts.{others-kept, others-once}
use Rattle.tmf_cli.proofs.Bays.{each-old, images-same}
use Rattle.tmf_cli.proofs.Playing.{SwitchedBehind, others-none, others-then}

-- WHAT IS SAID OF EACH FUSE

as-weaker : {D : Type 0} (P Q : Fuse D → Fuse D → Type 0) → ((a b : Fuse D) → P a b → Q a b) → (o p : Option (Fuse D)) → FuseAs P o p → FuseAs Q o p
as-weaker P Q so None None each = tt
as-weaker P Q so None (Some b) each = absurd each
as-weaker P Q so (Some a) None each = absurd each
as-weaker P Q so (Some a) (Some b) each = so a b each

pub each-weaker : {D : Type 0} (P Q : Fuse D → Fuse D → Type 0) → ((a b : Fuse D) → P a b → Q a b) → (xs ys : List (Fuse D)) → EachFuse P xs ys → EachFuse Q xs ys
each-weaker P Q so xs ys each = λ n. as-weaker P Q so (slice_get xs n) (slice_get ys n) (each n)

is-there : {D : Type 0} (P : Fuse D → Fuse D → Type 0) (o p : Option (Fuse D)) (old : Fuse D) → FuseAs P o p → o ≡ Some old → (new : Fuse D) × (p ≡ Some new) × P old new
is-there P None p old each is = absurd (cc)
is-there P (Some a) None old each is = absurd each
is-there P (Some a) (Some b) old each is = let same : a ≡ old = cc in (b, refl, subst (λ f. P f b) same each)

-- the fuse that is there behind one that was
pub is-at : {D : Type 0} (P : Fuse D → Fuse D → Type 0) (xs ys : List (Fuse D)) (n : ℕ) (old : Fuse D) → EachFuse P xs ys → slice_get xs n ≡ Some old → (new : Fuse D) × (slice_get ys n ≡ Some new) × P old new
is-at P xs ys n old each is = is-there P (slice_get xs n) (slice_get ys n) old (each n) is

-- as many fuses are there
pub same-length : {D : Type 0} (P : Fuse D → Fuse D → Type 0) (xs ys : List (Fuse D)) → EachFuse P xs ys → length xs ≡ length ys
same-length P [] [] each = refl
same-length P [] (y ∷ ys) each = absurd (each 0)
same-length P (x ∷ xs) [] each = absurd (each 0)
same-length P (x ∷ xs) (y ∷ ys) each = ap suc (same-length P xs ys (λ n. each (suc n)))

-- WHERE THE COUNTDOWN ALONE WAS SWITCHED

abbrev SameCuts : {D : Type 0} → Fuse D → Fuse D → Type 0
SameCuts a b = cuts_of b ≡ cuts_of a

pub set-switches : {D : Type 0} (arms : Bool) (xs ys : List (Fuse D)) → EachFuse (IsSet arms) xs ys → Switches xs ys
set-switches arms xs ys set = each-weaker (IsSet arms) IsSwitched (λ a b s. (s.device, s.cuts)) xs ys set

pub set-on : {D : Type 0} (xs ys : List (Fuse D)) → EachFuse (IsSet true) xs ys → IsOn ys
set-on xs ys set = λ n fuse is. (was-at (IsSet true) xs ys n fuse set is).2.armed

pub set-off : {D : Type 0} (xs ys : List (Fuse D)) → EachFuse (IsSet false) xs ys → IsOff ys
set-off xs ys set = λ n fuse is. (was-at (IsSet false) xs ys n fuse set is).2.armed

pub switches-same : {D : Type 0} (xs : List (Fuse D)) → Switches xs xs
switches-same xs = each-same IsSwitched (λ f. (refl, refl)) xs

-- what is so once the countdown was switched
pub once-so : {D : Type 0} (P Q : List (Fuse D) → Type 0) (old : List (Fuse D)) → ((opened : List (Fuse D)) → Switches old opened → P opened → Q opened) → OnceSwitched P old → OnceSwitched Q old
once-so P Q old so (inl p) = inl (so old (switches-same old) p)
once-so P Q old so (inr (opened, switched, off, p)) = inr (opened, switched, off, so opened switched p)

pub once-any : {D : Type 0} (P : List (Fuse D) → Type 0) (R : Type 0) (old : List (Fuse D)) → ((opened : List (Fuse D)) → Switches old opened → P opened → R) → OnceSwitched P old → R
once-any P R old so (inl p) = so old (switches-same old) p
once-any P R old so (inr (opened, switched, off, p)) = so opened switched p

module _ {D : Type 0} (xs ys : List (Fuse D)) (switched : Switches xs ys) where
  pub switched-holds : (held : D → Held) → HoldSame held xs ys
  switched-holds held = each-weaker IsSwitched (λ a b. held (device_of b) ≡ held (device_of a)) (λ a b s. ap held s.0) xs ys switched

  pub switched-tells : (tells : D → Bool) → KeepTelling tells xs ys
  switched-tells tells = each-weaker IsSwitched (λ a b. tells (device_of b) ≡ tells (device_of a)) (λ a b s. ap tells s.0) xs ys switched

  pub switched-falls : (faults : D → ℕ) → NoneFalls faults xs ys
  switched-falls faults = each-weaker IsSwitched (λ a b. fuse_faults faults a ≤ fuse_faults faults b) (λ a b s. let own = ap faults s.0 in omega (arith, own, s.1)) xs ys switched

  pub switched-place : (is_same : D → D → Type 0) → ((d : D) → is_same d d) → StayInPlace is_same xs ys
  switched-place is_same itself = each-weaker IsSwitched (λ a b. is_same (device_of a) (device_of b)) (λ a b s. subst (λ d. is_same (device_of a) d) (sym s.0) (itself (device_of a))) xs ys switched

  pub switched-cuts : NoneCut xs ys
  switched-cuts = each-weaker IsSwitched SameCuts (λ a b s. s.1) xs ys switched

-- a fuse whose count rose is one whose count rose, whatever is done afterwards
pub rose-later : {D : Type 0} (faults : D → ℕ) (old mid new : List (Fuse D)) (device : ℕ) → NoneFalls faults mid new → RoseAt faults old mid device → RoseAt faults old new device
rose-later faults old mid new device goes rose =
    let (after, there, more) = is-at (λ a b. fuse_faults faults a ≤ fuse_faults faults b) mid new device rose.after goes rose.is in
    record { before = rose.before; after = after; was = rose.was; is = there; rose = λ small. omega (arith, rose.rose small, more) }

-- FUSES THAT WERE DISARMED

-- no call but switches them, so they stay so
pub later-off : {D : Type 0} (xs ys : List (Fuse D)) → EachFuse KeepsCuts xs ys → IsOff xs → IsOff ys
later-off xs ys cuts off = λ n fuse is. let was = was-at KeepsCuts xs ys n fuse cuts is in was.2.armed ∙ off n was.0 was.1

as-uncut : {D : Type 0} (o p : Option (Fuse D)) → ((f : Fuse D) → o ≡ Some f → is_armed f ≡ false) → FuseAs KeepsCuts o p → FuseAs SameCuts o p
as-uncut None None off each = tt
as-uncut None (Some b) off each = absurd each
as-uncut (Some a) None off each = absurd each
as-uncut (Some a) (Some b) off each = each.uncut (off a refl)

-- and cut no call
pub later-uncut : {D : Type 0} (xs ys : List (Fuse D)) → EachFuse KeepsCuts xs ys → IsOff xs → NoneCut xs ys
later-uncut xs ys cuts off = λ n. as-uncut (slice_get xs n) (slice_get ys n) (off n) (cuts n)

pub cut-then : {D : Type 0} (xs ys zs : List (Fuse D)) → NoneCut xs ys → NoneCut ys zs → NoneCut xs zs
cut-then xs ys zs p q = each-then SameCuts (λ a b c e f. f ∙ e) xs ys zs p q

-- WHAT A RECOVERY LEAVES, WHERE THE COUNTDOWN IS SWITCHED BEFORE AND BEHIND IT

-- devices that hold what others do hold their images
pub held-back : {D : Type 0} (held : D → Held) (old new : List (Fuse D)) (now : ℕ → Held) → HoldSame held old new → AreHeld held new now → AreHeld held old now
held-back held old new now same are = λ n fuse is.
    let after = each-old (λ a b. held b ≡ held a) (slice_get old n) (slice_get new n) fuse (same n) is in
    sym after.2 ∙ are n after.0 after.1

module _ {D : Type 0} (held : D → Held) (config : Config) (images : ℕ → Held) (mid new : List (Fuse D)) (same : HoldSame held mid new) where
  left-back : (left : ℕ → Held) → AreImages held new left → AreImages held mid left
  left-back left are = images-same held mid new left same are

  now-back : (now : ℕ → Held) → AreHeld held new now → AreHeld held mid now
  now-back now are = held-back held mid new now same are

  ok-on : (recovered : Recovered) → HasRecoveredWithVolumes held config images mid recovered → HasRecoveredWithVolumes held config images new recovered
  ok-on recovered has = record {
    audit = has.audit;
    trails = has.trails;
    epoch = has.epoch;
    lost = has.lost;
    readable = has.readable;
    room = has.room;
    stands = λ list map is left are. has.stands list map is left (left-back left are);
    begun = λ now are. has.begun now (now-back now are);
    trails_rest = λ now are. has.trails_rest now (now-back now are);
    volumes = λ left are. has.volumes left (left-back left are);
    ended = λ now are. has.ended now (now-back now are);
  }

  unwritten-on : (error : RecoverError) → IsUnwritten held images mid error → IsUnwritten held images new error
  unwritten-on (recovery.Failed device) is = tt
  unwritten-on (recovery.Damaged device damage) is = held-as held mid new images same is
  unwritten-on recovery.EpochsSpent is = held-as held mid new images same is
  unwritten-on recovery.NoMemory is = tt

  -- what a recovery leaves is so of devices that hold the same
  pub recovers-on : (result : Result Recovered RecoverError) → RecoversWithVolumes held config images result mid → RecoversWithVolumes held config images result new
  recovers-on (Ok recovered) is = record {
    ok = ok-on recovered is.ok;
    err = tt;
    first = is.first;
    kept = tt;
    records = λ list spells left are. is.records list spells left (left-back left are);
    volumes = λ left are. is.volumes left (left-back left are);
    others = λ n fuse some which there. let was = was-at (λ a b. held (device_of b) ≡ held (device_of a)) mid new n fuse same there in was.2 ∙ is.others n was.0 some which was.1;
    unwritten = tt;
  }
  recovers-on (Err error) is = record {
    ok = tt;
    err = is.err;
    first = is.first;
    kept = λ list map stands left are. is.kept list map stands left (left-back left are);
    records = λ list spells left are. is.records list spells left (left-back left are);
    volumes = λ left are. is.volumes left (left-back left are);
    others = λ n fuse some which there. let was = was-at (λ a b. held (device_of b) ≡ held (device_of a)) mid new n fuse same there in was.2 ∙ is.others n was.0 some which was.1;
    unwritten = unwritten-on error is.unwritten;
  }

-- a device that a call has left alone, whichever way its fuse was switched before and behind
others-switched : {D : Type 0} (config : Config) (restarts : Fuse D → Fuse D → Type 0) (old armed mid new : List (Fuse D)) → Switches old armed → Switches mid new → SameOthers config armed mid → OthersRestarted config restarts old new
others-switched config restarts old armed mid new on off same = λ number before after out was is.
    let (first, there, switched) = is-at IsSwitched old armed number before on was in
    let (last, here, switched_last) = was-at IsSwitched mid new number after off is in
    let kept : Some last ≡ Some first = sym here ∙ same number out ∙ there in
    let one : last ≡ first = cc in
    (0, (switched_last.0 ∙ ap device_of one ∙ switched.0, switched_last.1 ∙ ap cuts_of one ∙ switched.1))

module _ {D : Type 0} (kind : disk.Ghosts D) where
  -- a fuse that has restarted, whichever way it was switched before and behind
  restarts-as : (a b c d : Fuse D) → IsSwitched a b → IsSwitched c d → FuseRestarts kind b c → FuseRestarts kind a d
  restarts-as a b c d on off restarts = record {
    telling = ap kind.tells off.0 ∙ restarts.telling ∙ ap kind.tells on.0;
    device = subst (λ x. kind.is_same x (device_of d)) on.0 (subst (λ x. kind.is_same (device_of b) x) (sym off.0) restarts.device);
    image = λ tell. subst (λ x. Leaves (kind.held x) (kind.held (device_of d))) on.0
        (subst (λ x. Leaves (kind.held (device_of b)) (kind.held x)) (sym off.0) (restarts.image (subst (λ x. IsTrue (kind.tells x)) (sym on.0) tell)));
    later = let before = ap kind.faults on.0 in let behind = ap kind.faults off.0 in omega (arith, restarts.later, before, behind, on.1, off.1);
  }

  pub restarts-between : (config : Config) (old armed mid new : List (Fuse D)) → Switches old armed → Switches mid new
      → ((number : ℕ) (before after : Fuse D) → ¬ IsUsed config number → slice_get armed number ≡ Some before → slice_get mid number ≡ Some after → FuseRestarts kind before after)
      → (number : ℕ) (before after : Fuse D) → ¬ IsUsed config number → slice_get old number ≡ Some before → slice_get new number ≡ Some after → FuseRestarts kind before after
  restarts-between config old armed mid new on off restarts = λ number before after out was is.
      let (first, there, switched) = is-at IsSwitched old armed number before on was in
      let (last, here, switched_last) = was-at IsSwitched mid new number after off is in
      restarts-as before first last after switched switched_last (restarts number first last out there here)

  -- so may a restart have left a fuse that was switched behind it
  switched-behind : SwitchedBehind (FuseRestarts kind)
  switched-behind a b c restarts switched = restarts-as a a b c (refl, refl) switched restarts

  -- an action that switches nothing leaves a bay whose countdown is off as it should
  pub leaves-later : (config : Config) (whole : Type 0) (old new : List (Fuse D)) → AreLater kind old new → IsOff old → SameOthers config old new → LeavesBay kind config whole old new
  leaves-later config whole old new later off same = record {
    devices = later.devices;
    tells = later.tells;
    counts = record { falls = later.later; uncut = λ _. later-uncut old new later.cuts off; off = later-off old new later.cuts off };
    others = others-kept config (FuseRestarts kind) old new same;
  }

  module _ (itself : (d : D) → kind.is_same d d) where
    -- so does none
    pub leaves-same : (config : Config) (whole : Type 0) (old : List (Fuse D)) → IsOff old → LeavesBay kind config whole old old
    leaves-same config whole old off = record {
      devices = place-same kind.is_same itself old;
      tells = tells-same kind.tells old;
      counts = record { falls = later-same kind.faults old; uncut = λ _. each-same SameCuts (λ f. refl) old; off = off };
      others = others-none config (FuseRestarts kind) old;
    }

    module _ (on : (a b c : D) → kind.is_same a b → kind.is_same b c → kind.is_same a c) where
      -- so does one that the countdown may cut off
      leaves-switched : (config : Config) (whole : Type 0) (old armed mid new : List (Fuse D)) → IsOff old → Switches old armed → (whole → armed ≡ old) → AreLater kind armed mid → EachFuse (IsSet false) mid new
          → OthersRestarted config (FuseRestarts kind) old new → LeavesBay kind config whole old new
      leaves-switched config whole old armed mid new off switched unarmed later set others =
          let behind = set-switches false mid new set in
          record {
            devices = place-then kind.is_same on old mid new (place-then kind.is_same on old armed mid (switched-place old armed switched kind.is_same itself) later.devices) (switched-place mid new behind kind.is_same itself);
            tells = tells-then kind.tells old mid new (tells-then kind.tells old armed mid (switched-tells old armed switched kind.tells) later.tells) (switched-tells mid new behind kind.tells);
            counts = record {
              falls = later-then kind.faults old mid new (later-then kind.faults old armed mid (switched-falls old armed switched kind.faults) later.later) (switched-falls mid new behind kind.faults);
              uncut = λ none. cut-then old mid new (later-uncut old mid (subst (λ xs. EachFuse KeepsCuts xs mid) (unarmed none) later.cuts) off) (switched-cuts mid new behind);
              off = set-off mid new set;
            };
            others = others;
          }

      -- a recovery
      pub leaves-cut : (config : Config) (whole : Type 0) (old armed mid new : List (Fuse D)) → IsOff old → Switches old armed → (whole → armed ≡ old) → AreLater kind armed mid → EachFuse (IsSet false) mid new
          → ((number : ℕ) (before after : Fuse D) → ¬ IsUsed config number → slice_get armed number ≡ Some before → slice_get mid number ≡ Some after → FuseRestarts kind before after)
          → LeavesBay kind config whole old new
      leaves-cut config whole old armed mid new off switched unarmed later set restarts =
          leaves-switched config whole old armed mid new off switched unarmed later set
          (others-once config (FuseRestarts kind) old new (restarts-between config old armed mid new switched (set-switches false mid new set) restarts))

      -- and a call that leaves the other devices alone
      pub leaves-within : (config : Config) (whole : Type 0) (old armed mid new : List (Fuse D)) → IsOff old → Switches old armed → (whole → armed ≡ old) → AreLater kind armed mid → EachFuse (IsSet false) mid new
          → SameOthers config armed mid → LeavesBay kind config whole old new
      leaves-within config whole old armed mid new off switched unarmed later set same =
          leaves-switched config whole old armed mid new off switched unarmed later set (others-switched config (FuseRestarts kind) old armed mid new switched (set-switches false mid new set) same)

  -- one action behind others
  pub leaves-then : (on : (a b c : D) → kind.is_same a b → kind.is_same b c → kind.is_same a c) (config : Config) (first second whole : Type 0) → (whole → first) → (whole → second) → (old mid new : List (Fuse D))
      → LeavesBay kind config first old mid → LeavesBay kind config second mid new → LeavesBay kind config whole old new
  leaves-then on config first second whole before behind old mid new p q = record {
    devices = place-then kind.is_same on old mid new p.devices q.devices;
    tells = tells-then kind.tells old mid new p.tells q.tells;
    counts = record {
      falls = later-then kind.faults old mid new p.counts.falls q.counts.falls;
      uncut = λ all. cut-then old mid new (p.counts.uncut (before all)) (q.counts.uncut (behind all));
      off = q.counts.off;
    };
    others = others-then config kind.tells (FuseRestarts kind) switched-behind old mid new p.tells p.others q.others;
  }

-- an action of a script of which none is to be cut off
pub none-killed : (actions done rest : List Action) (action : Action) → actions ≡ done ++ action ∷ rest → NoneKilled actions → kill_of action ≡ None
none-killed actions done rest action parts none = at done (subst NoneKilled parts none)
  where
    at : (front : List Action) → NoneKilled (front ++ action ∷ rest) → kill_of action ≡ None
    at [] all = all.0
    at (x ∷ front) all = at front all.1

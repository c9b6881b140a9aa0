-- What the opening of devices leaves where one is refused.
use Rattle.std.proofs.Common.{◌≡◌, ℕ, zero, suc, ◌+◌, ◌-◌, ◌<◌, ◌≤◌, List, ◌∷◌, ◌++◌, length, map, drop, Some, refl, sym, subst, ap, ◌∙◌, arith, ⊎_elim, length-append}
use Rattle.std.specs.Prelude.{slice_get}
use Rattle.std.proofs.lemmas.Bool.{cases_lt}
use Rattle.std.proofs.lemmas.List.{length-drop, length-map}
use Rattle.std.proofs.lemmas.Option.{slice_get_past, slice_get_within}
use Rattle.disk_model.specs.Frame.{IsLater}
use Rattle.disk_model.specs.declared.disk.Disk as disk
use Rattle.tmf_model.specs.Config.{IsDeclared}
use Rattle.tmf_model.specs.declared.config.Config.{Config}
use Rattle.tmf_model.specs.declared.script.Phase.{Phase}
use Rattle.trail_files.specs.declared.damage.Damage.{Damage}
use Rattle.trail_replay.specs.Opening.{IsReread}
use Rattle.trail_replay.proofs.Rows.{there}
use Rattle.volume_restore.proofs.Takings.{later-itself}
use Rattle.run_outcomes.specs.Attaching.{IsFirstUnfit, IsFit, IsUnfitAt}
use Rattle.run_outcomes.specs.Devices.{AreReturned, CountRoseAt, IsUntouched, TellUpTo, dump_device, held_by, volume_device}
use Rattle.run_outcomes.specs.Run.{HasNotRun, volumes_named}
use Rattle.run_outcomes.specs.declared.outcome.PhaseError.{PhaseError}
use Rattle.run_outcomes.specs.declared.outcome.PhaseError.TheVariants as error
use Rattle.run_opening.specs.Kept.{device_kept}
use Rattle.run_opening.specs.Opening.{AreFitBelow, AreKept, AreOpenedSoFar, IsKept, IsRefusedAt}
use Rattle.run_opening.specs.Refusal.{IsOf, TellsAt}
use Rattle.run_opening.specs.declared.kept.Kept.{Kept}
use Rattle.run_opening.specs.declared.kept.Kept.TheVariants as kept
use Rattle.run_opening.proofs.Lists.{at_here, get_cases, get_drop, get_map, item_same}
use Rattle.run_opening.proofs.Openings.{line_there, tells_lower}

module _ {D : Type 0} (kind : disk.Ghosts D) (config : Config) where
  -- a device that goes back was read alone, and is as it was where the configuration leaves it out
  abbrev pub IsBack : ℕ → D → D → Type 0
  IsBack number before after = IsReread kind before after × (IsUntouched config number → after ≡ before)

  -- so is each of these, in its place
  abbrev pub AreBack : List D → List D → Type 0
  AreBack old front = (n : ℕ) (before after : D) → slice_get old n ≡ Some before → slice_get front n ≡ Some after → IsBack n before after

  declared_touched : (number volume : ℕ) → IsDeclared config.volumes volume → number ≡ volume_device volume → IsUntouched config number → ⊥
  declared_touched number volume declared at out = (let line = line_there config volume declared in out.volume volume line.0 line.1 at)

  dump_touched : (number volume : ℕ) → IsDeclared config.volumes volume → number ≡ dump_device volume → IsUntouched config number → ⊥
  dump_touched number volume declared at out = (let line = line_there config volume declared in out.dump volume line.0 line.1 at)

  module _ (same_itself : (x : D) → kind.is_same x x) where
    pub itself : (x : D) → IsReread kind x x
    itself x = record { is_later = later-itself kind x same_itself; same = refl }

    -- so is the device of what is kept
    kept_back : (epoch : ℕ) (named : List ℕ) (number : ℕ) (device : D) (k : Kept D) → IsKept kind config epoch named number device k → IsBack number device (device_kept k)
    kept_back epoch named number device (kept.Monitor k) is = (is.1.opened.reread, λ out. (let many = out.trail in let first = is.0 in absurd (omega (arith, many, first))))
    kept_back epoch named number device (kept.Audit k) is = (is.2.reread, λ out. (let many = out.trail in let few = is.1 in absurd (omega (arith, many, few))))
    kept_back epoch named number device (kept.Volume k) is = (is.3.0, λ out. absurd (declared_touched number is.0 is.1 is.2 out))
    kept_back epoch named number device (kept.Dump file) is = (is.3.reread, λ out. absurd (dump_touched number is.0 is.1 is.2 out))
    kept_back epoch named number device (kept.Idle left) is =
        ⊎_elim (λ alone. (subst (IsReread kind device) (sym alone.1) (itself device), (λ out. alone.1))) (λ v. (v.3.0, (λ out. absurd (declared_touched number v.0 v.1 v.2 out)))) is

    pub all_back : (epoch : ℕ) (named : List ℕ) (old : List D) (kept_ : List (Kept D)) → AreKept kind config epoch named old kept_ → AreBack old (map device_kept kept_)
    all_back epoch named old kept_ are n before after at bt =
        let k = get_map device_kept kept_ n after bt in
        subst (IsBack n before) (sym k.2) (kept_back epoch named n before k.0 (are n before k.0 at k.1).0)

-- Of these devices the first ones go back and are fit, and the next one was refused.
pub record AreRefused {D : Type 0} (kind : disk.Ghosts D) (config : Config) (phase : Phase) (epoch : ℕ) (old front new : List D) (why : PhaseError) : Type 0 where
  pub left : List D
  pub backs : AreBack kind config old front
  pub fits : AreFitBelow kind config epoch (volumes_named config phase) (length front) old
  pub refused : IsRefusedAt kind config epoch (volumes_named config phase) old left (length front) why
  pub is : new ≡ front ++ left

-- so it is where devices of trails and volumes were kept
pub kept_refused : {D : Type 0} (kind : disk.Ghosts D) (config : Config) (phase : Phase) (epoch : ℕ) (row old left new : List D) (kept_ : List (Kept D)) (why : PhaseError) → ((x : D) → kind.is_same x x) → row ≡ old
    → AreOpenedSoFar kind config epoch (volumes_named config phase) row kept_ → IsRefusedAt kind config epoch (volumes_named config phase) row left (length kept_) why → new ≡ map device_kept kept_ ++ left
    → AreRefused kind config phase epoch old (map device_kept kept_) new why
kept_refused kind config phase epoch row old left new kept_ why same_itself same so_far refused is =
    let many = sym (length-map kept_ device_kept) in
    subst (λ xs. AreRefused kind config phase epoch xs (map device_kept kept_) new why) same (record {
      left = left;
      backs = all_back kind config same_itself epoch (volumes_named config phase) row kept_ so_far.each;
      fits = subst (λ (n : ℕ). AreFitBelow kind config epoch (volumes_named config phase) n row) many so_far.fit;
      refused = subst (λ (n : ℕ). IsRefusedAt kind config epoch (volumes_named config phase) row left n why) many refused;
      is = is;
    })

module _ {D : Type 0} (kind : disk.Ghosts D) (config : Config) (phase : Phase) (epoch : ℕ) (old front new : List D) (why : PhaseError)
    (same_itself : (x : D) → kind.is_same x x) (are : AreRefused kind config phase epoch old front new why) where
  abbrev number : ℕ
  number = length front

  abbrev refused : IsRefusedAt kind config epoch (volumes_named config phase) old are.left number why
  refused = are.refused

  parts : new ≡ front ++ refused.after ∷ drop (number + 1) old
  parts = are.is ∙ ap (λ (xs : List D). front ++ xs) refused.is

  behind_it : (m n : ℕ) (before after : D) → n ≡ number + m → slice_get old n ≡ Some before → slice_get (refused.after ∷ drop (number + 1) old) m ≡ Some after → IsBack kind config n before after
  behind_it zero n before after n_is at bt =
      let place : n ≡ number = n_is ∙ omega arith in
      let here : before ≡ refused.before = item_same (slice_get old number) before refused.before (subst (λ (k : ℕ). slice_get old k ≡ Some before) place at) refused.was in
      let last : refused.after ≡ after = cc in (
        subst (λ (x : D). IsReread kind x after) (sym here) (subst (IsReread kind refused.before) last refused.refused.reread),
        (λ out. absurd (refused.declared (subst (λ (k : ℕ). IsUntouched config k) place out))),
      )
  behind_it (suc m) n before after n_is at bt =
      let there_is : slice_get old (number + 1 + m) ≡ Some after = sym (get_drop (number + 1) old m) ∙ bt in
      let place : number + 1 + m ≡ n = omega (arith, n_is) in
      let same : before ≡ after = item_same (slice_get old n) before after at (subst (λ (k : ℕ). slice_get old k ≡ Some after) place there_is) in
      (subst (IsReread kind before) same (itself kind config same_itself before), (λ out. sym same))

  back_at : AreBack kind config old new
  back_at n before after at bt =
      ⊎_elim
      (λ first. are.backs n before after at first)
      (λ rest. (let le = rest.0 in behind_it (n - length front) n before after (omega (arith, le)) at rest.1))
      (get_cases front (refused.after ∷ drop (number + 1) old) n after (subst (λ (xs : List D). slice_get xs n ≡ Some after) parts bt))

  count : length new ≡ length old
  count =
      let within = slice_get_within old number refused.before refused.was in
      let long = length-append front (refused.after ∷ drop (number + 1) old) in
      let rest = length-drop (number + 1) old in
      omega (arith, ap length parts, long, rest, within)

  untouched : (n : ℕ) → IsUntouched config n → slice_get new n ≡ slice_get old n
  untouched n out =
      ⊎_elim
      (λ (lt : n < length old).
      let was = there old n lt in
      let now = there new n (omega (arith, lt, count)) in
      now.1 ∙ ap Some ((back_at n was.0 now.0 was.1 now.1).1 out) ∙ sym was.1)
      (λ (past : length old ≤ n). slice_get_past new n (omega (arith, past, count)) ∙ sym (slice_get_past old n past))
      (cases_lt n (length old))

  pub returned : AreReturned kind config old new
  returned = record { count = count; later = λ n before after at bt. (back_at n before after at bt).0.is_later; untouched = untouched }

  after_at : slice_get new number ≡ Some refused.after
  after_at = ap (λ (xs : List D). slice_get xs number) parts ∙ at_here front (drop (number + 1) old) refused.after

  abbrev Unfit : ℕ → Damage → Type 0
  Unfit n damage = IsUnfitAt config epoch (volumes_named config phase) (held_by kind old) n damage

  told_at : (device : ℕ) (damage : Damage) → why ≡ error.Damaged device damage → device ≡ number
  told_at device damage told = subst (IsOf number) told refused.refused.place

  told_unfit : (device : ℕ) (damage : Damage) → why ≡ error.Damaged device damage → TellUpTo kind number old → Unfit number damage
  told_unfit device damage told tell = (subst (TellsAt number (Unfit number)) told (refused.damage tell)).1

  pub not_run : HasNotRun kind config phase epoch old new why
  not_run = record {
    same = λ n before after at bt. (back_at n before after at bt).0.same;
    failed = λ device told.
        let here : device ≡ number = subst (IsOf number) told refused.refused.place in
        subst (CountRoseAt kind old new) (sym here) (record { before = refused.before; after = refused.after; was = refused.was; is = after_at; rose = refused.refused.failed device told });
    damaged = λ device damage tell told.
        let here = told_at device damage told in
        record {
          before = λ n lt. are.fits n (omega (arith, lt, here)) (tells_lower kind config old n device (omega (arith, lt)) tell);
          here = subst (λ (n : ℕ). Unfit n damage) (sym here) (told_unfit device damage told (tells_lower kind config old number device (omega (arith, here)) tell));
        };
  }

  -- where a device that is fit is not unfit, and one is unfit in one way, the damage that is told is the one that there is
  module _ (clean : (n : ℕ) (damage : Damage) → IsFit config epoch (volumes_named config phase) (held_by kind old) n → Unfit n damage → ⊥) (one : (n : ℕ) (x y : Damage) → Unfit n x → Unfit n y → x ≡ y) where
    pub exact : (device : ℕ) (damage : Damage) → TellUpTo kind device old → IsFirstUnfit config epoch (volumes_named config phase) (held_by kind old) device damage
        → (other : ℕ) (told : Damage) → why ≡ error.Damaged other told → (other ≡ device) × (told ≡ damage)
    exact device damage tell first other told is_told =
        let here = told_at other told is_told in
        ⊎_elim
        (λ (lt : number < device). absurd (clean number told (first.before number lt) (told_unfit other told is_told (tells_lower kind config old number device (omega (arith, lt)) tell))))
        (λ (le : device ≤ number). ⊎_elim
        (λ (more : device < number). absurd (clean device damage (are.fits device more tell) first.here))
        (λ (ge : number ≤ device).
        let same : number ≡ device = omega (arith, le, ge) in (
          here ∙ same,
          one device told damage (subst (λ (n : ℕ). Unfit n told) same (told_unfit other told is_told (tells_lower kind config old number device ge tell))) first.here,
        ))
        (cases_lt device number))
        (cases_lt number device)

-- WHERE NOTHING WAS OPENED, SINCE THERE WAS NO MEMORY

no_fault : (device : ℕ) → error.NoMemory ≡ error.Failed device → ⊥
no_fault device e = cc

no_damage : (device : ℕ) (damage : Damage) → error.NoMemory ≡ error.Damaged device damage → ⊥
no_damage device damage e = cc

module _ {D : Type 0} (kind : disk.Ghosts D) (config : Config) (phase : Phase) (epoch : ℕ) (old : List D) (same_itself : (x : D) → kind.is_same x x) where
  pub back_itself : AreReturned kind config old old
  back_itself = record {
    count = refl;
    later = λ n before after at bt. subst (λ (x : D). IsLater kind before x) (item_same (slice_get old n) before after at bt) (later-itself kind before same_itself);
    untouched = λ n out. refl;
  }

  pub not_begun : HasNotRun kind config phase epoch old old error.NoMemory
  not_begun = record {
    same = λ n before after at bt. ap kind.held (sym (item_same (slice_get old n) before after at bt));
    failed = λ device e. absurd (no_fault device e);
    damaged = λ device damage tell e. absurd (no_damage device damage e);
  }

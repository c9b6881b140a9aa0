-- A run over devices that were read is one over them as they were handed in.
use Rattle.std.specs.Prelude.{◌≡◌, ℕ, zero, suc, ◌+◌, ◌-◌, ◌<◌, ◌≤◌, ◌^◌, min, Bool, IsTrue, List, [], ◌∷◌, length, Option, Some, None, slice_get, option_and_then, if◌then◌else◌}
use Rattle.std.specs.Option.{option_map_or}
use Rattle.std.proofs.Common.{refl, sym, ap, subst, ◌∙◌, arith, ◌⊎◌, inl, inr, ⊎_elim}
use Rattle.std.proofs.lemmas.Bool.{cases_lt}
use Rattle.block_cache.specs.Damage.{IsBadBlock, bad_data_in}
use Rattle.chronicle.specs.Histories.{states_after}
use Rattle.disk_model.specs.Held.{Held}
use Rattle.disk_model.specs.declared.disk.Disk as disk
use Rattle.node_machine.specs.Node.{node}
use Rattle.node_machine.specs.Opening.{opening_parts}
use Rattle.tmf_model.specs.declared.config.Config.{Config}
use Rattle.tmf_model.specs.declared.script.Transaction.{Transaction}
use Rattle.tmf_model.specs.declared.transid.Transid.{Transid}
use Rattle.trail_files.specs.declared.damage.Damage.{Damage}
use Rattle.run_outcomes.specs.Attaching.{IsFirstUnfit}
use Rattle.run_outcomes.specs.Concerned.{volumes_of_steps}
use Rattle.run_outcomes.specs.Devices.{held_by, part_of_device, told_by, told_of}
use Rattle.run_outcomes.specs.Ends.{times_failed}
use Rattle.run_outcomes.specs.Found.{IsFoundOver, ToldBase}
use Rattle.run_outcomes.specs.Reread.{AreReread, IsReread, NotRunRereadLaw, RereadLaw}
use Rattle.run_outcomes.specs.Run.{IsBroken, IsCrowdedAt, RoseBy, account_of, volumes_named}
use Rattle.run_outcomes.specs.Shows.{ShowsDevice}
use Rattle.run_outcomes.specs.Told.{Account, AreTold, IsAttemptTold, IsDumpTold, IsEnded, IsHung, IsTold}
use Rattle.run_outcomes.specs.declared.outcome.Hang.{Hang}
use Rattle.run_outcomes.specs.declared.outcome.Hang.TheVariants as hang
use Rattle.run_outcomes.specs.declared.outcome.Outcome.{Outcome}
use Rattle.run_outcomes.specs.declared.outcome.Told.{Told}
use Rattle.run_outcomes.specs.declared.outcome.Told.TheVariants.{Committed, Aborted, Busy, Full, Refused, Spent, Failed, Damaged, InDoubt, Hanging, Skipped, Memory, Controlled, Dumped, Dumping}

-- WHAT IS TOLD WHERE A RULE IS KNOWN TO BE BROKEN

module _ (a : Account) (broken : ℕ → Damage → Type 0) (more : (device : ℕ) (damage : Damage) → a.broken device damage → broken device damage) where
  abbrev b : Account
  b = record a { broken = broken }

  hung_more : (t : Transid) (volumes : List ℕ) (why : Hang) → IsHung a t volumes why → IsHung b t volumes why
  hung_more t volumes (hang.Device device) h = h
  hung_more t volumes (hang.Damaged device damage) h = (h.0, more device damage h.1)
  hung_more t volumes hang.Memory h = h

  attempt_more : (t : Transid) (transaction : Transaction) (told : Told) → IsAttemptTold a t transaction told → IsAttemptTold b t transaction told
  attempt_more t transaction (Committed place reads) h = h
  attempt_more t transaction Aborted h = h
  attempt_more t transaction (Busy file key holder) h = h
  attempt_more t transaction (Full file key) h = h
  attempt_more t transaction (Refused op reason) h = h
  attempt_more t transaction (Spent part) h = h
  attempt_more t transaction (Failed device) h = h
  attempt_more t transaction (Damaged device damage) h = (h.0, more device damage h.1)
  attempt_more t transaction (InDoubt device) h = h
  attempt_more t transaction (Hanging why) h = (h.0, hung_more t (volumes_of_steps a.config transaction.steps) why h.1)
  attempt_more t transaction Skipped h = h
  attempt_more t transaction Memory h = h
  attempt_more t transaction (Controlled volume low) h = h
  attempt_more t transaction (Dumped volume start) h = h
  attempt_more t transaction (Dumping volume) h = h

  dump_more : (t : Transid) (volume : ℕ) (told : Told) → IsDumpTold a t volume told → IsDumpTold b t volume told
  dump_more t volume (Committed place reads) h = h
  dump_more t volume Aborted h = h
  dump_more t volume (Busy file key holder) h = h
  dump_more t volume (Full file key) h = h
  dump_more t volume (Refused op reason) h = h
  dump_more t volume (Spent part) h = h
  dump_more t volume (Failed device) h = h
  dump_more t volume (Damaged device damage) h = ((h.0.0, more device damage h.0.1), h.1)
  dump_more t volume (InDoubt device) h = h
  dump_more t volume (Hanging why) h = h
  dump_more t volume Skipped h = h
  dump_more t volume Memory h = h
  dump_more t volume (Controlled named low) h = h
  dump_more t volume (Dumped named start) h = h
  dump_more t volume (Dumping named) h = h

  told_more : (outcome : Outcome) → IsTold a outcome → IsTold b outcome
  told_more outcome told = elim told [
    | inl of_attempt ↦ inl (of_attempt.0, of_attempt.1, attempt_more outcome.tx of_attempt.0 outcome.told of_attempt.2, of_attempt.3)
    | inr of_item ↦ elim of_item [
      | inl of_control ↦ inr (inl of_control)
      | inr of_dump ↦ inr (inr (of_dump.0, of_dump.1, dump_more outcome.tx of_dump.0 outcome.told of_dump.2, of_dump.3, of_dump.4))
    ]
  ]

  are_told_more : (outcomes : List Outcome) → AreTold a outcomes → AreTold b outcomes
  are_told_more outcomes told = record {
    each = λ outcome among.
        let is = told.each outcome among in
        record {
          told = told_more outcome is.told;
          in_order = is.in_order;
          last = is.last;
          ended = λ begun. ⊎_elim (λ holds. inl holds) (λ (e : IsEnded a outcome.tx outcome.told). inr (record { let_go = e.let_go; recorded = e.recorded })) (is.ended begun);
        };
    begun = told.begun;
    done = told.done;
    busy = told.busy;
    dumping = told.dumping;
  }

-- LISTS OF ONE LENGTH

also_there : {A : Type 0} (xs ys : List A) (n : ℕ) (x : A) → length ys ≡ length xs → slice_get xs n ≡ Some x → (y : A) × (slice_get ys n ≡ Some y)
also_there [] ys n x many at = absurd (cc (at))
also_there (z ∷ xs) [] n x many at = absurd (omega (arith, many))
also_there (z ∷ xs) (y ∷ ys) zero x many at = (y, refl)
also_there (z ∷ xs) (y ∷ ys) (suc n) x many at = also_there xs ys n x (omega (arith, many)) at

-- what is told of an item of one list is what is told of that of another
same_told : {A B : Type 0} (xs ys : List A) (n : ℕ) (f : Option A → B) → length ys ≡ length xs
    → ((x y : A) → slice_get xs n ≡ Some x → slice_get ys n ≡ Some y → f (Some y) ≡ f (Some x)) → f (slice_get ys n) ≡ f (slice_get xs n)
same_told [] [] n f many each = refl
same_told [] (y ∷ ys) n f many each = absurd (omega (arith, many))
same_told (x ∷ xs) [] n f many each = absurd (omega (arith, many))
same_told (x ∷ xs) (y ∷ ys) zero f many each = each x y refl refl
same_told (x ∷ xs) (y ∷ ys) (suc n) f many each = same_told xs ys n f (omega (arith, many)) each

-- COUNTS

min-mono : (m p n : ℕ) → m ≤ p → min m n ≤ min p n
min-mono zero p zero le = omega arith
min-mono zero p (suc n) le = omega arith
min-mono (suc m) zero n le = absurd (omega (arith, le))
min-mono (suc m) (suc p) zero le = omega arith
min-mono (suc m) (suc p) (suc n) le = (let less = min-mono m p n (omega (arith, le)) in omega (arith, less))

rose_from : (times before kept now : ℕ) → before ≤ kept → RoseBy times kept now → RoseBy times before now
rose_from times before kept now le rose = (let less = min-mono (before + times) (kept + times) (2 ^ 64 - 1) (omega (arith, le)) in omega (arith, less, rose))

-- DEVICES THAT WERE READ

module _ {D : Type 0} (kind : disk.Ghosts D) (old kept : List D) (read : AreReread kind old kept) where
  same_told_of : (before after : D) → IsReread kind before after → told_of kind after ≡ told_of kind before
  same_told_of before after is =
      ap (λ (tells : Bool). if tells then Some (kind.held after) else None) is.later.tells ∙ ap (λ (held : Held). if kind.tells before then Some held else None) is.held

  told_same : told_by kind kept ≡ told_by kind old
  told_same = λ i n. (same_told old kept n (λ o. option_and_then (told_of kind) o) read.count (λ before after was is. same_told_of before after (read.each n before after was is))) i

  held_same : held_by kind kept ≡ held_by kind old
  held_same = λ i n. (same_told old kept n (λ o. option_map_or kind.held o (λ n. None)) read.count (λ before after was is. (read.each n before after was is).held)) i

  broken_as : (config : Config) (device : ℕ) (damage : Damage) → IsBroken kind config (λ n. slice_get kept n) device damage → IsBroken kind config (λ n. slice_get old n) device damage
  broken_as config device damage is =
      let first = also_there kept old device is.before (sym read.count) is.was in
      let same = read.each device first.0 is.before first.1 is.was in
      record {
        volume = is.volume;
        device_is = is.device_is;
        baseless = λ base told. is.baseless base (subst (λ (f : ℕ → Option Held). ToldBase config f is.volume (Some base)) (sym told_same) told);
        place = is.place;
        is_its = is.is_its;
        before = first.0;
        was = first.1;
        bad = λ tells.
            subst (λ (held : Held). IsBadBlock is.place held damage ⊎ (bad_data_in is.place (held (1 + is.place.file)) ≡ None) × IsCrowdedAt is.place damage) same.held
            (is.bad (subst (λ (b : Bool). IsTrue b) (sym same.later.tells) tells));
      }

pub reread_law : {D : Type 0} (kind : disk.Ghosts D) → RereadLaw kind
reread_law {D} kind = λ config phase epoch old kept new outcomes read run.
    let states = states_after node (opening_parts run.found) run.log in
    let told = told_same kind old kept read in
    record {
      found = run.found;
      log = run.log;
      opens = subst (λ (f : ℕ → Option Held). IsFoundOver config f epoch run.found) told run.opens;
      history = run.history;
      attempts = run.attempts;
      told = are_told_more (account_of kind config phase epoch (λ n. slice_get kept n) run.found run.log) (IsBroken kind config (λ n. slice_get old n)) (broken_as kind old kept read config) outcomes run.told;
      within = run.within;
      records = run.records;
      shown = λ device after image at leaves. subst (λ (f : ℕ → Option Held). ShowsDevice config f states image device) told (run.shown device after image at leaves);
      failed = λ device before after was at.
          let then_ = also_there old kept device before read.count was in
          rose_from (times_failed (part_of_device device) run.log) (kind.faults before) (kind.faults then_.0) (kind.faults after) (read.each device before then_.0 was then_.1).later.later
          (run.failed device then_.0 after then_.1 at);
    }

pub not_run_reread_law : {D : Type 0} (kind : disk.Ghosts D) → NotRunRereadLaw kind
not_run_reread_law {D} kind = λ config phase epoch old kept new why read later run. record {
  same = λ number before after was at.
      let then_ = also_there old kept number before read.count was in
      run.same number then_.0 after then_.1 at ∙ (read.each number before then_.0 was then_.1).held;
  failed = λ device is.
      let rose = run.failed device is in
      let first = also_there kept old device rose.before (sym read.count) rose.was in
      let from = (read.each device first.0 rose.before first.1 rose.was).later.later in
      let after = (later device rose.before rose.after rose.was rose.is).later in
      record { before = first.0; after = rose.after; was = first.1; is = rose.is; rose = λ under. still_rose (kind.faults first.0) (kind.faults rose.before) (kind.faults rose.after) from after rose.rose under };
  damaged = λ device damage tell is.
      subst (λ (held : ℕ → Held). IsFirstUnfit config epoch (volumes_named config phase) held device damage) (held_same kind old kept read)
      (run.damaged device damage (λ number then_ few at. let first = also_there kept old number then_ (sym read.count) at in
      subst (λ (b : Bool). IsTrue b) (sym (read.each number first.0 then_ first.1 at).later.tells) (tell number first.0 few first.1)) is);
}
  where
    still_rose : (before kept now : ℕ) → before ≤ kept → kept ≤ now → (kept < 2 ^ 64 - 1 → kept < now) → before < 2 ^ 64 - 1 → before < now
    still_rose before kept now from after rose under = ⊎_elim (λ (less : kept < 2 ^ 64 - 1). let more = rose less in omega (arith, from, more)) (λ (most : 2 ^ 64 - 1 ≤ kept). omega (arith, under, most, after)) (cases_lt kept (2 ^ 64 - 1))

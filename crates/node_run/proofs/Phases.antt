-- Of devices that were opened for a phase each volume that it names was found; and there is one list of the monitor trail, if it tells one.
use Rattle.std.specs.Prelude.{◌≡◌, ◌⊎◌, ℕ, zero, suc, ◌+◌, ◌<◌, ◌≤◌, All, Bool, true, false, IsTrue, IsSome, if◌then◌else◌, List, [], ◌∷◌, ◌++◌, length, map, flat_map, Option, Some, None, option_and_then, slice_get, unwrap_or}
use Rattle.std.specs.Option.{is_some, option_map, option_map_or}
use Rattle.std.proofs.Common.{refl, sym, ap, subst, ◌∙◌, arith, inl, inr, ⊎_elim}
use Rattle.std.proofs.lemmas.List.Concat.{flat_map-cons}
use Rattle.std.proofs.lemmas.List.Elements.{All-head, All-tail}
use Rattle.disk_model.specs.Held.{Held}
use Rattle.disk_model.specs.declared.disk.Disk as disk
use Rattle.node_machine.specs.Made.{volume_of}
use Rattle.node_machine.specs.Opening.{VolumeFound, each_from, found_volume}
use Rattle.node_machine.specs.Same.{Among}
use Rattle.run_opening.specs.Found.{found_of, volume_of as volume_kept}
use Rattle.run_opening.specs.Kept.{device_kept, start_kept}
use Rattle.run_opening.specs.Opening.{AreOpened, IsKept}
use Rattle.run_opening.specs.declared.kept.Kept.{Kept}
use Rattle.run_opening.specs.declared.kept.Kept.TheVariants as kept
use Rattle.run_opening.specs.declared.opening.Opened.{Opened}
use Rattle.run_outcomes.specs.Devices.{dump_device, told_in, told_of, volume_device}
use Rattle.run_outcomes.specs.Run.{volumes_named, volumes_of_item}
use Rattle.run_states.specs.Begun.{device_in}
use Rattle.tmf_model.specs.Commits.{numbered}
use Rattle.tmf_model.specs.Config.{IsDeclared, IsValidConfig}
use Rattle.tmf_model.specs.Script.{IsValidItem, IsValidPhase, IsValidStep, IsValidWorker}
use Rattle.tmf_model.specs.declared.config.Config.{Config}
use Rattle.tmf_model.specs.declared.config.FileLine.{FileLine}
use Rattle.tmf_model.specs.declared.script.Item.{Item}
use Rattle.tmf_model.specs.declared.script.Item.TheVariants.{Transaction as TransactionItem, Control, Dump}
use Rattle.tmf_model.specs.declared.script.Phase.{Phase}
use Rattle.tmf_model.specs.declared.script.Step.{Step}
use Rattle.trail_files.specs.MonitorRecord.{monitor_format}
use Rattle.trail_files.specs.Text.{Spells}
use Rattle.trail_files.specs.declared.monitor_record.MonitorRecord.{MonitorRecord}
use Rattle.node_run.specs.Listed.{Listing}
use Rattle.node_run.specs.Over.{AreOpenedFor, ListedLaw, PhaseLaw}
use Rattle.worker_thread.specs.Work.{IsPhaseOf}
use Rattle.node_run.proofs.Kept.{line_there, reread_kept, told_again}
use Rattle.node_run.proofs.Lists.{item_there}

-- WHAT A PHASE NAMES IS DECLARED

at_place : {T : Type 0} (P : T → Type 0) (xs : List T) (n : ℕ) → n < length xs → All P xs → (x : T) × (slice_get xs n ≡ Some x) × P x
at_place P [] n few all = absurd (omega (arith, few))
at_place P (x ∷ xs) zero few all = (x, refl, All-head P x xs all)
at_place P (x ∷ xs) (suc n) few all = at_place P xs n (omega (arith, few)) (All-tail P x xs all)

at_number : {T : Type 0} (P : T → Type 0) (xs : List T) (number : ℕ) → IsDeclared xs number → All P xs → (x : T) × (numbered xs number ≡ Some x) × P x
at_number P xs zero within all = absurd (let above = within.above in omega (arith, above))
at_number P xs (suc n) within all = at_place P xs n (let below = within.below in omega (arith, below)) all

among_front : {A : Type 0} (xs ys : List A) (x : A) → Among (xs ++ ys) x → Among xs x ⊎ Among ys x
among_front [] ys x among = inr among
among_front (z ∷ xs) ys x among = ⊎_elim (λ is. inl (inl is)) (λ more. ⊎_elim (λ h. inl (inr h)) (λ h. inr h) (among_front xs ys x more)) among

-- what each of a list comes to is of this kind
among_flat : {A B : Type 0} (P : A → Type 0) (Q : B → Type 0) (f : A → List B) → ((a : A) → P a → (b : B) → Among (f a) b → Q b) → (xs : List A) → All P xs → (b : B) → Among (flat_map f xs) b → Q b
among_flat P Q f each [] all b among = absurd among
among_flat P Q f each (x ∷ xs) all b among =
    ⊎_elim (each x (All-head P x xs all) b) (among_flat P Q f each xs (All-tail P x xs all) b)
    (among_front (f x) (flat_map f xs) b (subst (λ l. Among l b) (flat_map-cons f x xs) among))

among_map : {A B : Type 0} (P : A → Type 0) (Q : B → Type 0) (f : A → B) → ((a : A) → P a → Q (f a)) → (xs : List A) → All P xs → (b : B) → Among (map f xs) b → Q b
among_map P Q f each [] all b among = absurd among
among_map P Q f each (x ∷ xs) all b among = ⊎_elim (λ is. subst Q is (each x (All-head P x xs all))) (among_map P Q f each xs (All-tail P x xs all) b) among

module _ (config : Config) (valid : IsValidConfig config) where
  abbrev IsThere : ℕ → Type 0
  IsThere volume = IsDeclared config.volumes volume

  of_step : (step : Step) → IsValidStep config step → IsThere (volume_of config step.file)
  of_step step is =
      let at = at_number (λ (line : FileLine). IsDeclared config.volumes line.volume) config.files step.file is.file valid.files.declared in
      subst (λ (v : ℕ). IsDeclared config.volumes v) (sym (ap (λ (o : Option FileLine). option_map_or (λ line. line.volume) o 0) at.1)) at.2

  of_item : (item : Item) → IsValidItem config item → (volume : ℕ) → Among (volumes_of_item config item) volume → IsThere volume
  of_item (TransactionItem transaction) is volume among = among_map (IsValidStep config) IsThere (λ step. volume_of config step.file) of_step transaction.steps is.steps volume among
  of_item (Control named) is volume among = ⊎_elim (λ same. subst IsThere same is) (λ none. absurd none) among
  of_item (Dump named) is volume among = ⊎_elim (λ same. subst IsThere same is) (λ none. absurd none) among

  of_items : (items : List Item) → IsValidWorker config items → (volume : ℕ) → Among (flat_map (volumes_of_item config) items) volume → IsThere volume
  of_items items is volume among = among_flat (IsValidItem config) IsThere (volumes_of_item config) of_item items is.each volume among

  pub named_there : (phase : Phase) → IsValidPhase config phase → (volume : ℕ) → Among (volumes_named config phase) volume → IsThere volume
  named_there phase is volume among = among_flat (IsValidWorker config) IsThere (λ items. flat_map (volumes_of_item config) items) of_items phase.workers is.workers volume among

-- SO IT WAS FOUND

get_each : {A : Type 0} (f : ℕ → A) (first count n : ℕ) → n < count → slice_get (each_from f first count) n ≡ Some (f (first + n))
get_each f first zero n lt = absurd (omega (arith, lt))
get_each f first (suc count) zero lt = ap (λ (k : ℕ). Some (f k)) (omega arith)
get_each f first (suc count) (suc n) lt = get_each f (first + 1) count n (omega (arith, lt)) ∙ ap (λ (k : ℕ). Some (f k)) (omega arith)

numbered_each : {A : Type 0} (f : ℕ → A) (count n : ℕ) → 1 ≤ n → n ≤ count → numbered (each_from f 1 count) n ≡ Some (f n)
numbered_each f count zero some le = absurd (omega (arith, some))
numbered_each f count (suc n) some le = get_each f 1 count n (omega (arith, le)) ∙ ap (λ (k : ℕ). Some (f k)) (omega arith)

module _ {D : Type 0} (kind : disk.Ghosts D) (same_itself : (device : D) → kind.is_same device device) where
  module _ (config : Config) (valid : IsValidConfig config) (phase : Phase) (valid_phase : IsValidPhase config phase) (epoch : ℕ) (old : List D) (opened : Opened D) (are : AreOpenedFor kind config phase epoch old opened) where
    abbrev items : List (Kept D)
    items = opened.kept.items

    -- the blocks of a volume that the phase names are kept
    found_kept : (volume : ℕ) → IsDeclared config.volumes volume → Among (volumes_named config phase) volume → (rest : Option ℕ) (device : D) (k : Kept D)
        → IsKept kind config epoch (volumes_named config phase) (volume_device volume) device k → IsSome (volume_kept kind config volume rest (Some k))
    found_kept volume there named rest device (kept.Monitor k) is = (let at = is.0 in absurd (omega (arith, at)))
    found_kept volume there named rest device (kept.Audit k) is = (let le = is.1 in let few = valid.trails.few in let above = there.above in absurd (omega (arith, le, few, above)))
    found_kept volume there named rest device (kept.Volume blocks) is = refl
    found_kept volume there named rest device (kept.Dump file) is = (let at = is.2 in let some = is.1.above in let below = there.below in let few = valid.volumes.few in absurd (omega (arith, at, some, below, few)))
    found_kept volume there named rest device (kept.Idle left) is =
        ⊎_elim
        (λ alone. ⊎_elim
        (λ out. (let line = line_there config volume there in absurd (out.volume volume line.0 line.1 refl)))
        (λ v. (let at = v.2 in let some = v.1.above in let below = there.below in let few = valid.volumes.few in absurd (omega (arith, at, some, below, few)))) alone.0)
        (λ v. (let at = v.2 in let same : volume ≡ v.0 = omega (arith, at) in absurd (v.4 (subst (Among (volumes_named config phase)) same named)))) is

    found_there : (volume : ℕ) → Among (volumes_named config phase) volume → IsSome (found_volume (found_of kind config epoch items) volume)
    found_there volume named =
        let there = named_there config valid phase valid_phase volume named in
        let n : ℕ = volume_device volume in
        let few : volume_device volume < 21 = (let below = there.below in let most = valid.volumes.few in omega (arith, below, most)) in
        let was = item_there old n (omega (arith, few, are.count)) in
        let k = item_there items n (omega (arith, few, are.are.count)) in
        let is = (are.are.each n was.0 k.0 was.1 k.1).0 in
        let entry = numbered_each (λ m. volume_kept kind config m (start_kept (slice_get items (dump_device m))) (slice_get items (volume_device m))) (length config.volumes) volume there.above there.below in
        subst (λ (o : Option VolumeFound). is_some o ≡ true)
        (sym (ap (λ (o : Option (Option VolumeFound)). unwrap_or o None) entry ∙ ap (volume_kept kind config volume (start_kept (slice_get items (dump_device volume)))) k.1))
        (found_kept volume there named (start_kept (slice_get items (dump_device volume))) was.0 k.0 is)

    pub is_phase : IsPhaseOf (found_of kind config epoch items) phase
    is_phase = record { valid = valid_phase; there = found_there }

  pub phase_law : PhaseLaw kind
  phase_law = λ config phase epoch old opened valid valid_phase are. is_phase config valid phase valid_phase epoch old opened are

  -- THE LIST OF THE MONITOR TRAIL

  module _ (one : (held : Held) (xs ys : List MonitorRecord) → Spells monitor_format held xs → Spells monitor_format held ys → xs ≡ ys) where
    module _ (config : Config) (epoch : ℕ) (named : List ℕ) (old : List D) (opened : Opened D) (count : length old ≡ 21) (are : AreOpened kind config epoch named old opened) where
      spelled : (device : D) (k : Kept D) → IsKept kind config epoch named 0 device k → IsTrue (kind.tells device) → (list : List MonitorRecord) × Spells monitor_format (kind.held device) list
      spelled device (kept.Monitor k) is tells = is.1.opened.spelled tells
      spelled device (kept.Audit k) is tells = (let some = is.0 in absurd (omega (arith, some)))
      spelled device (kept.Volume blocks) is tells = (let at = is.2 in absurd (omega (arith, at)))
      spelled device (kept.Dump file) is tells = (let at = is.2 in absurd (omega (arith, at)))
      spelled device (kept.Idle left) is tells = ⊎_elim (λ alone. ⊎_elim (λ out. (let far = out.trail in absurd (omega (arith, far)))) (λ v. (let at = v.2 in absurd (omega (arith, at)))) alone.0) (λ v. (let at = v.2 in absurd (omega (arith, at)))) is

      listed_by : (device : D) → (IsTrue (kind.tells device) → (list : List MonitorRecord) × Spells monitor_format (kind.held device) list) → (b : Bool) → kind.tells device ≡ b
          → Listing (if b then Some (kind.held device) else None)
      listed_by device has false is = tt
      listed_by device has true is = (let own = has is in (own.0, ∣ (own.1, (λ other spells. one (kind.held device) own.0 other own.1 spells)) ∣₁))

      pub listed : Listing (told_in kind (device_in opened.kept.items) 0)
      listed =
          let was = item_there old 0 (omega (arith, count)) in
          let k = item_there opened.kept.items 0 (omega (arith, are.count)) in
          let is = (are.each 0 was.0 k.0 was.1 k.1).0 in
          let same : told_in kind (device_in opened.kept.items) 0 ≡ told_of kind was.0 =
          ap (λ (o : Option (Kept D)). option_and_then (told_of kind) (option_map device_kept o)) k.1 ∙ told_again kind same_itself was.0 (device_kept k.0) (reread_kept kind same_itself config epoch named 0 was.0 k.0 is) in
          subst Listing (sym same) (listed_by was.0 (spelled was.0 k.0 is) (kind.tells was.0) refl)

    pub listed_law : ListedLaw kind
    listed_law = λ config epoch named old opened count are. listed config epoch named old opened count are

-- What is kept of a run's devices, and what the run's name carries of it.
use Rattle.std.specs.Prelude.{◌≡◌, ℕ, zero, suc, ◌+◌, ◌-◌, ◌<◌, ◌≤◌, Bool, IsTrue, if◌then◌else◌, List, length, Option, Some, None, option_and_then, slice_get, unwrap_or}
use Rattle.std.specs.Option.{option_map}
use Rattle.std.proofs.Common.{refl, sym, ap, subst, ◌∙◌, arith, ⊎_elim}
use Rattle.std.proofs.lemmas.Bool.{cases_lt}
use Rattle.std.proofs.lemmas.Option.{slice_get_past, slice_get_within}
use Rattle.audit_writer.specs.Writer.{IsHandedIn}
use Rattle.block_cache.specs.Blocks.{View as BlocksView}
use Rattle.disc_process.specs.Damage.{HoldsAsGiven}
use Rattle.disk_model.specs.Frame.{IsLater}
use Rattle.disk_model.specs.Held.{Held}
use Rattle.disk_model.specs.declared.disk.Disk as disk
use Rattle.node_machine.specs.Opening.{Found, VolumeFound, each_from, found_volume, opening_parts}
use Rattle.node_machine.specs.Parts.{PartState}
use Rattle.online_dump.specs.Found.{DumpView}
use Rattle.run_opening.specs.Found.{AreBased, BasedLaw, FoundLaw, ValuesLaw, found_of, trail_of as trail_kept, volume_found, volume_of}
use Rattle.run_opening.specs.Kept.{device_kept, low_kept, start_kept}
use Rattle.run_opening.specs.Opening.{IsKept, IsKeptAmong}
use Rattle.run_opening.specs.declared.kept.Kept.{Kept}
use Rattle.run_opening.specs.declared.kept.Kept.TheVariants as kept
use Rattle.run_opening.specs.declared.opening.Opened.{Opened}
use Rattle.run_outcomes.specs.Devices.{dump_device, told_by, told_in, told_of, volume_device}
use Rattle.run_outcomes.specs.Found.{IsFoundOver}
use Rattle.tmf_model.specs.Commits.{numbered}
use Rattle.tmf_model.specs.Config.{IsDeclared, IsNumber}
use Rattle.tmf_model.specs.declared.config.Config.{Config}
use Rattle.tmf_model.specs.declared.config.Volume.{Volume}
use Rattle.trail_files.specs.declared.monitor_record.MonitorRecord.{MonitorRecord}
use Rattle.trail_files.specs.declared.rules.Rules.{Rules}
use Rattle.trail_replay.specs.Opening.{IsReread}
use Rattle.run_states.specs.Begun.{MayBegin}
use Rattle.run_states.proofs.Lists.{item_there}
use Rattle.run_states.proofs.Lost.{has_told}

-- ONE FOR EACH NUMBER

get_each : {A : Type 0} (f : ℕ → A) (first count n : ℕ) → n < count → slice_get (each_from f first count) n ≡ Some (f (first + n))
get_each f first zero n lt = absurd (omega (arith, lt))
get_each f first (suc count) zero lt = ap (λ (k : ℕ). Some (f k)) (omega arith)
get_each f first (suc count) (suc n) lt = get_each f (first + 1) count n (omega (arith, lt)) ∙ ap (λ (k : ℕ). Some (f k)) (omega arith)

numbered_each : {A : Type 0} (f : ℕ → A) (count n : ℕ) → 1 ≤ n → n ≤ count → numbered (each_from f 1 count) n ≡ Some (f n)
numbered_each f count zero some le = absurd (omega (arith, some))
numbered_each f count (suc n) some le = get_each f 1 count n (omega (arith, le)) ∙ ap (λ (k : ℕ). Some (f k)) (omega arith)

-- a volume that is declared has a line
pub line_there : (config : Config) (volume : ℕ) → IsDeclared config.volumes volume → (line : Volume) × IsNumber config.volumes volume line
line_there config volume is = (let one = item_there config.volumes (volume - 1) (omega (arith, is.above, is.below)) in (one.0, (is.above, one.1)))

-- and one with a line is declared
pub line_declared : (config : Config) (volume : ℕ) (line : Volume) → IsNumber config.volumes volume line → IsDeclared config.volumes volume
line_declared config volume line is = record { above = is.0; below = (let lt = slice_get_within config.volumes (volume - 1) line is.1 in let some = is.0 in omega (arith, lt, some)) }

module _ {D : Type 0} (kind : disk.Ghosts D) (same_itself : (device : D) → kind.is_same device device) where
  itself : (device : D) → IsLater kind device device
  itself device = record { device = same_itself device; tells = refl; later = omega arith }

  -- what is kept of a device was read alone
  pub reread_kept : (config : Config) (epoch : ℕ) (named : List ℕ) (n : ℕ) (device : D) (k : Kept D) → IsKept kind config epoch named n device k → IsReread kind device (device_kept k)
  reread_kept config epoch named n device (kept.Monitor k) is = is.1.opened.reread
  reread_kept config epoch named n device (kept.Audit k) is = is.2.reread
  reread_kept config epoch named n device (kept.Volume blocks) is = is.3.0
  reread_kept config epoch named n device (kept.Dump file) is = is.3.reread
  reread_kept config epoch named n device (kept.Idle left) is = ⊎_elim (λ alone. subst (IsReread kind device) (sym alone.1) (record { is_later = itself device; same = refl })) (λ v. v.3.0) is

  -- so it tells what the device told
  pub told_again : (a b : D) → IsReread kind a b → told_of kind b ≡ told_of kind a
  told_again a b again = ap (λ (t : Bool). if t then Some (kind.held b) else None) again.is_later.tells ∙ ap (λ (h : Held). if kind.tells a then Some h else None) again.same

-- a run that may begin
pub record Setting {D : Type 0} (kind : disk.Ghosts D) : Type 1 where
  pub config : Config
  pub epoch : ℕ
  pub named : List ℕ
  pub old : List D
  pub opened : Opened D
  pub opening : List PartState
  pub found : Found
  pub before : List MonitorRecord
  pub rules : ℕ → Rules
  pub faults : ℕ → ℕ
  pub premise : ℕ → Type 0
  pub handed_in : ℕ → Option D
  pub may : MayBegin kind config epoch named old opened opening found before rules faults premise handed_in
  pub same_itself : (device : D) → kind.is_same device device
  pub over : FoundLaw kind
  pub based : BasedLaw kind
  pub values : ValuesLaw kind

module _ {D : Type 0} (kind : disk.Ghosts D) (s : Setting kind) where
  abbrev pub items : List (Kept D)
  items = s.opened.kept.items

  -- what was found, and the parts of the opening
  abbrev pub F : Found
  F = found_of kind s.config s.epoch items

  abbrev pub O : List PartState
  O = opening_parts F

  pub are_over : IsFoundOver s.config (told_by kind s.old) s.epoch F
  are_over = s.over s.config s.epoch s.named s.old s.opened s.may.valid s.may.are

  pub are_based : AreBased s.config (told_by kind s.old) F
  are_based = s.based s.config s.epoch s.named s.old s.opened s.may.valid s.may.are

  -- A DEVICE

  pub kept_at : (n : ℕ) → n < 21 → (k : Kept D) × (slice_get items n ≡ Some k)
  kept_at n lt = item_there items n (omega (arith, lt, s.may.are.count))

  pub kept_few : (n : ℕ) (k : Kept D) → slice_get items n ≡ Some k → n < 21
  kept_few n k at = (let lt = slice_get_within items n k at in omega (arith, lt, s.may.are.count))

  -- the device was opened, and this is kept of it
  pub record WasKept (n : ℕ) (k : Kept D) : Type 0 where
    pub device : D
    pub at : slice_get s.old n ≡ Some device
    pub is : IsKeptAmong kind s.config s.epoch s.named s.old items n device k

  pub was_kept : (n : ℕ) (k : Kept D) → slice_get items n ≡ Some k → WasKept n k
  was_kept n k at =
      let one = item_there s.old n (let lt = kept_few n k at in omega (arith, lt, s.may.count)) in
      record { device = one.0; at = one.1; is = s.may.are.each n one.0 k one.1 at }

  pub reread : (n : ℕ) (device : D) (k : Kept D) → IsKept kind s.config s.epoch s.named n device k → IsReread kind device (device_kept k)
  reread n device k is = reread_kept kind s.same_itself s.config s.epoch s.named n device k is

  -- the name's device is the one that is kept
  pub given : (n : ℕ) (k : Kept D) → slice_get items n ≡ Some k → s.handed_in n ≡ Some (device_kept k)
  given n k at = s.may.name.devices_are n ∙ ap (λ (o : Option (Kept D)). option_map device_kept o) at

  pub later_given : (n : ℕ) (k : Kept D) → slice_get items n ≡ Some k → IsHandedIn kind (s.handed_in n) (device_kept k)
  later_given n k at = subst (λ (o : Option D). IsHandedIn kind o (device_kept k)) (sym (given n k at)) (itself kind s.same_itself (device_kept k))

  pub as_given : (n : ℕ) (k : Kept D) → slice_get items n ≡ Some k → HoldsAsGiven kind (s.handed_in n) (device_kept k)
  as_given n k at = subst (λ (o : Option D). HoldsAsGiven kind o (device_kept k)) (sym (given n k at)) refl

  pub count_given : (n : ℕ) (k : Kept D) → slice_get items n ≡ Some k → s.faults n ≡ kind.faults (device_kept k)
  count_given n k at = s.may.name.faults_are n (device_kept k) (given n k at)

  -- WHAT A DEVICE TOLD

  -- what the name's device tells is what the device told that was opened
  pub told_same : (n : ℕ) → told_in kind s.handed_in n ≡ told_by kind s.old n
  told_same n = ⊎_elim
      (λ (lt : n < 21).
      let k = kept_at n lt in
      let was = was_kept n k.0 k.1 in
      let again = reread n was.device k.0 was.is.0 in
      ap (option_and_then (told_of kind)) (given n k.0 k.1) ∙ told_again kind s.same_itself was.device (device_kept k.0) again ∙ sym (ap (option_and_then (told_of kind)) was.at))
      (λ (past : 21 ≤ n).
      let none : slice_get items n ≡ None = slice_get_past items n (omega (arith, past, s.may.are.count)) in
      let was : slice_get s.old n ≡ None = slice_get_past s.old n (omega (arith, past, s.may.count)) in
      ap (option_and_then (told_of kind)) (s.may.name.devices_are n ∙ ap (λ (o : Option (Kept D)). option_map device_kept o) none) ∙ sym (ap (option_and_then (told_of kind)) was))
      (cases_lt n 21)

  some_same : (a b : D) → Some a ≡ Some b → a ≡ b
  some_same a b e = cc (e)

  -- the device that is kept tells what it told
  pub told_kept : (n : ℕ) (k : Kept D) (held : Held) → slice_get items n ≡ Some k → told_in kind s.handed_in n ≡ Some held → IsTrue (kind.tells (device_kept k)) × (kind.held (device_kept k) ≡ held)
  told_kept n k held at told =
      let has = has_told kind s.handed_in n held told in
      let same : has.device ≡ device_kept k = some_same has.device (device_kept k) (sym has.is ∙ given n k at) in
      (ap kind.tells (sym same) ∙ has.tells, ap kind.held (sym same) ∙ has.holds)

  -- TRAILS

  pub trail_there : (n : ℕ) → 1 ≤ n → n ≤ length s.config.trails → numbered F.trails n ≡ Some (trail_kept (slice_get items n))
  trail_there n some le = numbered_each (λ m. trail_kept (slice_get items m)) (length s.config.trails) n some le

  -- VOLUMES

  abbrev pub rest : ℕ → Option ℕ
  rest number = start_kept (slice_get items (dump_device number))

  -- what was found of a volume is what is kept of its device
  pub found_is : (number : ℕ) → IsDeclared s.config.volumes number → (k : Kept D) → slice_get items (volume_device number) ≡ Some k → found_volume F number ≡ volume_of kind s.config number (rest number) (Some k)
  found_is number declared k at =
      ap (λ (o : Option (Option VolumeFound)). unwrap_or o None) (numbered_each (λ n. volume_of kind s.config n (rest n) (slice_get items (volume_device n))) (length s.config.volumes) number declared.above declared.below)
      ∙ ap (volume_of kind s.config number (rest number)) at

  -- a volume that was found has its blocks kept
  pub record BlocksAt (number : ℕ) (entry : VolumeFound) : Type 0 where
    pub declared : IsDeclared s.config.volumes number
    pub blocks : BlocksView D
    pub at : slice_get items (volume_device number) ≡ Some (kept.Volume blocks)
    pub is : entry ≡ volume_found kind s.config number (rest number) blocks

  blocks_in : (number : ℕ) (entry : VolumeFound) (k : Kept D) → IsDeclared s.config.volumes number → slice_get items (volume_device number) ≡ Some k → volume_of kind s.config number (rest number) (Some k) ≡ Some entry → BlocksAt number entry
  blocks_in number entry (kept.Volume blocks) declared at is = record { declared = declared; blocks = blocks; at = at; is = cc (is) }
  blocks_in number entry (kept.Monitor k) declared at is = absurd (cc (is))
  blocks_in number entry (kept.Audit k) declared at is = absurd (cc (is))
  blocks_in number entry (kept.Dump file) declared at is = absurd (cc (is))
  blocks_in number entry (kept.Idle left) declared at is = absurd (cc (is))

  pub blocks_at : (number : ℕ) (entry : VolumeFound) → found_volume F number ≡ Some entry → BlocksAt number entry
  blocks_at number entry is =
      let declared = are_based.declared number entry is in
      let k = kept_at (volume_device number) (omega (arith, declared.below, s.may.valid.volumes.few)) in
      blocks_in number entry k.0 declared k.1 (sym (found_is number declared k.0 k.1) ∙ is)

  -- it stands among those that were found
  pub found_place : (number : ℕ) (blocks : BlocksView D) → IsDeclared s.config.volumes number → slice_get items (volume_device number) ≡ Some (kept.Volume blocks)
      → slice_get F.volumes (number - 1) ≡ Some (Some (volume_found kind s.config number (rest number) blocks))
  found_place number blocks declared at =
      let same : 1 + (number - 1) ≡ number = omega (arith, declared.above) in
      get_each (λ n. volume_of kind s.config n (rest n) (slice_get items (volume_device n))) 1 (length s.config.volumes) (number - 1) (omega (arith, declared.above, declared.below))
      ∙ ap (λ (n : ℕ). Some (volume_of kind s.config n (rest n) (slice_get items (volume_device n)))) same
      ∙ ap (λ (o : Option (Kept D)). Some (volume_of kind s.config number (rest number) o)) at

  -- a device of dumps that is opened is that of a volume whose blocks are kept
  blocks_there : (number low : ℕ) (o : Option (Kept D)) → slice_get items (volume_device number) ≡ o → low_kept o ≡ Some low → (blocks : BlocksView D) × (slice_get items (volume_device number) ≡ Some (kept.Volume blocks))
  blocks_there number low (Some (kept.Volume blocks)) at is = (blocks, at)
  blocks_there number low (Some (kept.Monitor k)) at is = absurd (cc (is))
  blocks_there number low (Some (kept.Audit k)) at is = absurd (cc (is))
  blocks_there number low (Some (kept.Dump file)) at is = absurd (cc (is))
  blocks_there number low (Some (kept.Idle left)) at is = absurd (cc (is))
  blocks_there number low None at is = absurd (cc (is))

  pub dump_blocks : (number : ℕ) (file : DumpView D) → slice_get items (dump_device number) ≡ Some (kept.Dump file) → (blocks : BlocksView D) × (slice_get items (volume_device number) ≡ Some (kept.Volume blocks))
  dump_blocks number file at =
      let was = was_kept (dump_device number) (kept.Dump file) at in
      let low = was.is.2 number refl in
      blocks_there number low.0 (slice_get items (volume_device number)) refl low.1

  -- a volume of which no blocks are kept was not found
  pub not_found : (number : ℕ) → IsDeclared s.config.volumes number → (k : Kept D) → slice_get items (volume_device number) ≡ Some k → low_kept (Some k) ≡ None → found_volume F number ≡ None
  not_found number declared k at none = found_is number declared k at ∙ by_kept k none where
    by_kept : (x : Kept D) → low_kept (Some x) ≡ None → volume_of kind s.config number (rest number) (Some x) ≡ None
    by_kept (kept.Volume blocks) is = absurd (cc (is))
    by_kept (kept.Monitor k) is = refl
    by_kept (kept.Audit k) is = refl
    by_kept (kept.Dump file) is = refl
    by_kept (kept.Idle left) is = refl

  -- A LOW POSITION

  low_in : (number : ℕ) (device : D) (blocks : BlocksView D) → IsKept kind s.config s.epoch s.named number device (kept.Volume blocks) → 1 ≤ blocks.label.low
  low_in number device blocks is = is.3.1.valid.label.low.above

  -- it is 1 or more
  pub low_least : (number : ℕ) → IsDeclared s.config.volumes number → (blocks : BlocksView D) → slice_get items (volume_device number) ≡ Some (kept.Volume blocks) → 1 ≤ blocks.label.low
  low_least number declared blocks at = (let was = was_kept (volume_device number) (kept.Volume blocks) at in low_in (volume_device number) was.device blocks was.is.0)

-- What is kept of devices that were opened, as the devices that it is over.
use Rattle.std.specs.Prelude.{◌≡◌, ℕ, ◌-◌, ◌<◌, ◌≤◌, Bool, if◌then◌else◌, List, length, map, Option, Some, None, option_and_then, slice_get}
use Rattle.std.proofs.Common.{refl, sym, ap, subst, ◌∙◌, arith, ⊎_elim}
use Rattle.std.proofs.Math.Path.{fun_ext}
use Rattle.std.proofs.lemmas.Bool.{cases_lt}
use Rattle.std.proofs.lemmas.List.{length-map}
use Rattle.std.proofs.lemmas.Option.{slice_get-map, slice_get_past, slice_get_within}
use Rattle.disk_model.specs.Frame.{IsLater}
use Rattle.disk_model.specs.Held.{Held}
use Rattle.disk_model.specs.declared.disk.Disk as disk
use Rattle.run_opening.specs.Kept.{device_kept}
use Rattle.run_opening.specs.Opening.{AreOpened, IsKept}
use Rattle.run_opening.specs.declared.kept.Kept.{Kept}
use Rattle.run_opening.specs.declared.kept.Kept.TheVariants as kept
use Rattle.run_opening.specs.declared.opening.Opened.{Opened}
use Rattle.run_outcomes.specs.Devices.{IsUntouched, told_by, told_in, told_of}
use Rattle.run_outcomes.specs.Reread.{AreReread, IsReread}
use Rattle.run_states.specs.Begun.{device_in}
use Rattle.tmf_model.specs.Config.{IsDeclared, IsNumber}
use Rattle.tmf_model.specs.declared.config.Config.{Config}
use Rattle.tmf_model.specs.declared.config.Volume.{Volume}
use Rattle.trail_replay.specs.Opening.{IsReread as IsReadAlone}
use Rattle.node_run.proofs.Lists.{item_there, mapped_at, some_same}

-- a volume that is declared has a line
pub line_there : (config : Config) (volume : ℕ) → IsDeclared config.volumes volume → (line : Volume) × IsNumber config.volumes volume line
line_there config volume is = (let one = item_there config.volumes (volume - 1) (omega (arith, is.above, is.below)) in (one.0, (is.above, one.1)))

module _ {D : Type 0} (kind : disk.Ghosts D) (same_itself : (device : D) → kind.is_same device device) where
  pub itself : (device : D) → IsLater kind device device
  itself device = record { device = same_itself device; tells = refl; later = omega arith }

  read_alone : (config : Config) (epoch : ℕ) (named : List ℕ) (n : ℕ) (device : D) (k : Kept D) → IsKept kind config epoch named n device k → IsReadAlone kind device (device_kept k)
  read_alone config epoch named n device (kept.Monitor k) is = is.1.opened.reread
  read_alone config epoch named n device (kept.Audit k) is = is.2.reread
  read_alone config epoch named n device (kept.Volume blocks) is = is.3.0
  read_alone config epoch named n device (kept.Dump file) is = is.3.reread
  read_alone config epoch named n device (kept.Idle left) is = ⊎_elim (λ alone. subst (IsReadAlone kind device) (sym alone.1) (record { is_later = itself device; same = refl })) (λ v. v.3.0) is

  -- what is kept of a device is the device, which was read alone
  pub reread_kept : (config : Config) (epoch : ℕ) (named : List ℕ) (n : ℕ) (device : D) (k : Kept D) → IsKept kind config epoch named n device k → IsReread kind device (device_kept k)
  reread_kept config epoch named n device k is = (let r = read_alone config epoch named n device k is in record { later = r.is_later; held = r.same })

  -- so it tells what the device told
  pub told_again : (a b : D) → IsReread kind a b → told_of kind b ≡ told_of kind a
  told_again a b again = ap (λ (t : Bool). if t then Some (kind.held b) else None) again.later.tells ∙ ap (λ (h : Held). if kind.tells a then Some h else None) again.held

  -- one that the configuration leaves out is kept as it was
  pub untouched_kept : (config : Config) (epoch : ℕ) (named : List ℕ) (n : ℕ) (device : D) (k : Kept D) → IsUntouched config n → IsKept kind config epoch named n device k → device_kept k ≡ device
  untouched_kept config epoch named n device (kept.Monitor k) out is = (let far = out.trail in let first = is.0 in absurd (omega (arith, far, first)))
  untouched_kept config epoch named n device (kept.Audit k) out is = (let far = out.trail in let le = is.1 in absurd (omega (arith, far, le)))
  untouched_kept config epoch named n device (kept.Volume blocks) out is = (let line = line_there config is.0 is.1 in absurd (out.volume is.0 line.0 line.1 is.2))
  untouched_kept config epoch named n device (kept.Dump file) out is = (let line = line_there config is.0 is.1 in absurd (out.dump is.0 line.0 line.1 is.2))
  untouched_kept config epoch named n device (kept.Idle left) out is = ⊎_elim (λ alone. alone.1) (λ v. (let line = line_there config v.0 v.1 in absurd (out.volume v.0 line.0 line.1 v.2))) is

  module _ (config : Config) (epoch : ℕ) (named : List ℕ) (old : List D) (opened : Opened D) (count : length old ≡ 21) (are : AreOpened kind config epoch named old opened) where
    abbrev pub items : List (Kept D)
    items = opened.kept.items

    -- the devices as they were opened
    abbrev pub devices : List D
    devices = map device_kept items

    pub many : length devices ≡ length old
    many = length-map items device_kept ∙ are.count ∙ sym count

    -- one of them, with what is kept of it
    pub record IsOpenedAs (n : ℕ) (before after : D) : Type 0 where
      pub k : Kept D
      pub at : slice_get items n ≡ Some k
      pub is : IsKept kind config epoch named n before k
      pub same : device_kept k ≡ after

    pub opened_as : (n : ℕ) (before after : D) → slice_get old n ≡ Some before → slice_get devices n ≡ Some after → IsOpenedAs n before after
    opened_as n before after was at =
        let lt = slice_get_within old n before was in
        let k = item_there items n (omega (arith, lt, count, are.count)) in
        record { k = k.0; at = k.1; is = (are.each n before k.0 was k.1).0; same = some_same (device_kept k.0) after (sym (mapped_at device_kept items n k.0 k.1) ∙ at) }

    pub are_reread : AreReread kind old devices
    are_reread = record {
      count = many;
      each = λ n before after was at. (let o = opened_as n before after was at in subst (IsReread kind before) o.same (reread_kept config epoch named n before o.k o.is));
    }

    -- they tell what was told when they were handed in
    pub told_same : (n : ℕ) → told_by kind devices n ≡ told_by kind old n
    told_same n = ⊎_elim
        (λ (lt : n < 21).
        let was = item_there old n (omega (arith, lt, count)) in
        let k = item_there items n (omega (arith, lt, are.count)) in
        let again = reread_kept config epoch named n was.0 k.0 (are.each n was.0 k.0 was.1 k.1).0 in
        ap (option_and_then (told_of kind)) (mapped_at device_kept items n k.0 k.1) ∙ told_again was.0 (device_kept k.0) again ∙ sym (ap (option_and_then (told_of kind)) was.1))
        (λ (past : 21 ≤ n).
        let none : slice_get devices n ≡ None = slice_get_past devices n (omega (arith, past, many, count)) in
        let was : slice_get old n ≡ None = slice_get_past old n (omega (arith, past, count)) in
        ap (option_and_then (told_of kind)) none ∙ sym (ap (option_and_then (told_of kind)) was))
        (cases_lt n 21)

    pub told_all_same : told_by kind devices ≡ told_by kind old
    told_all_same = fun_ext told_same

    -- the device with a number, of those that are kept, is the one at its place
    pub device_same : (n : ℕ) → device_in items n ≡ slice_get devices n
    device_same n = sym (slice_get-map device_kept items n)

    pub devices_same : device_in items ≡ (λ n. slice_get devices n)
    devices_same = fun_ext device_same

    -- so do those of them that are found by their numbers
    pub told_in_same : told_in kind (device_in items) ≡ told_by kind old
    told_in_same = ap (λ (h : ℕ → Option D). told_in kind h) devices_same ∙ told_all_same

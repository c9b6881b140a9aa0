-- The devices of a volume that was lost are as they were in each history, and so is each image of them.
use Rattle.std.specs.Prelude.{◌≡◌, ℕ, zero, suc, ◌≤◌, Bool, true, false, IsTrue, Option, Some, None, option_and_then, if◌then◌else◌}
use Rattle.std.proofs.Common.{refl, sym, ap, subst, ◌∙◌, arith}
use Rattle.audit_writer.specs.Writer.{IsHandedIn}
use Rattle.block_cache.specs.Volume.{HasBase, HasDump, HasNoLabel, IsAtRest}
use Rattle.disc_process.specs.Damage.{HoldsAsGiven}
use Rattle.disk_model.specs.Held.{File, Held, IfThere, Leaves, LeavesAt, LeavesFile}
use Rattle.disk_model.specs.declared.disk.Disk as disk
use Rattle.keyed_file.specs.Volume.{IsLost}
use Rattle.tmf_model.specs.declared.config.Config.{Config}
use Rattle.trail_files.specs.Landed.{IsSettled}
use Rattle.trail_files.specs.StandsFor.{Base}
use Rattle.run_outcomes.specs.Devices.{DumpRests, told_in, told_of}

-- the device told this when it was handed in
pub record HasTold {D : Type 0} (kind : disk.Ghosts D) (given : Option D) (held : Held) : Type 0 where
  pub device : D
  pub is : given ≡ Some device
  pub tells : kind.tells device ≡ true
  pub holds : kind.held device ≡ held

pub has_told : {D : Type 0} (kind : disk.Ghosts D) (handed_in : ℕ → Option D) (number : ℕ) (held : Held) → told_in kind handed_in number ≡ Some held → HasTold kind (handed_in number) held
has_told {D} kind handed_in number held told = by_case (handed_in number) told where
  by_tells : (device : D) (b : Bool) → kind.tells device ≡ b → (if b then Some (kind.held device) else None) ≡ Some held → HasTold kind (Some device) held
  by_tells device true tells is = record { device = device; is = refl; tells = tells; holds = cc (is) }
  by_tells device false tells is = absurd (cc (is))

  by_case : (given : Option D) → option_and_then (told_of kind) given ≡ Some held → HasTold kind given held
  by_case None is = absurd (cc (is))
  by_case (Some device) is = by_tells device (kind.tells device) refl is

-- it tells still, and holds it still, where it holds what it held
pub still_tells : {D : Type 0} (kind : disk.Ghosts D) (given : Option D) (now : D) (held : Held) → HasTold kind given held → IsHandedIn kind given now → IsTrue (kind.tells now)
still_tells kind None now held told later = absurd later
still_tells {D} kind (Some device) now held told later =
    let is = told.is in
    let same : device ≡ told.device = cc (is) in
    later.tells ∙ ap (λ (d : D). kind.tells d) same ∙ told.tells

pub still_holds : {D : Type 0} (kind : disk.Ghosts D) (given : Option D) (now : D) (held : Held) → HasTold kind given held → HoldsAsGiven kind given now → kind.held now ≡ held
still_holds kind None now held told as_given = absurd as_given
still_holds {D} kind (Some device) now held told as_given =
    let is = told.is in
    let same : device ≡ told.device = cc (is) in
    as_given ∙ ap (λ (d : D). kind.held d) same ∙ told.holds

-- IMAGES

-- a file of an image was there
pub record WasThere (was : Option File) (file : File) : Type 0 where
  pub before : File
  pub is : was ≡ Some before
  pub leaves : LeavesFile before file

was_there : (was now : Option File) (file : File) → LeavesAt was now → now ≡ Some file → WasThere was file
was_there None None file leaves at = absurd (cc (at))
was_there None (Some image) file leaves at = absurd leaves
was_there (Some before) None file leaves at = absurd (cc (at))
was_there (Some before) (Some image) file leaves at = record { before = before; is = refl; leaves = (let same : image ≡ file = cc (at) in subst (λ (x : File). LeavesFile before x) same leaves) }

-- a device without a label, nothing of whose label's file is at risk, has none in each image
pub no_label : (held image : Held) → HasNoLabel held → IfThere held 1 IsSettled → Leaves held image → HasNoLabel image
no_label held image none rests leaves file at =
    let was = was_there (held 1) (image 1) file (leaves 1) at in
    let shut = none was.before was.is in
    let settled = rests was.before was.is in
    let longer = was.leaves.no_shorter in
    let all = settled.synced in
    let same = was.leaves.same 0 (omega (arith, shut.0, all)) (settled.safe 0 (omega (arith, shut.0))) in
    (omega (arith, shut.0, longer, all), λ opened. shut.1 (sym same ∙ opened))

-- a lost volume has no base
pub lost_base : (config : Config) (volume : ℕ) (held : Held) (base : Option Base) → IsLost held → HasBase config volume held base → base ≡ None
lost_base config volume held None lost has = refl
lost_base config volume held (Some base) lost has =
    let label = has.1.label_file in absurd (lost label.0 label.1 label.2.gate)

-- THE FILES OF A DUMP

-- what is held of a dump's label and of its two bodies
abbrev dump_files : Held → Held
dump_files held zero = None
dump_files held (suc zero) = held 1
dump_files held (suc (suc zero)) = held 2
dump_files held (suc (suc (suc zero))) = held 3
dump_files held (suc (suc (suc (suc n)))) = None

file_kept : (held : Held) (file : ℕ) → 2 ≤ file → file ≤ 3 → dump_files held file ≡ held file
file_kept held zero some few = absurd (omega (arith, some))
file_kept held (suc zero) some few = absurd (omega (arith, some))
file_kept held (suc (suc zero)) some few = refl
file_kept held (suc (suc (suc zero))) some few = refl
file_kept held (suc (suc (suc (suc n)))) some few = absurd (omega (arith, few))

all_rest : (held : Held) → DumpRests held → IsAtRest (dump_files held)
all_rest held rests zero file at = absurd (cc (at))
all_rest held rests (suc zero) file at = rests 1 (record { above = omega arith; below = omega arith }) file at
all_rest held rests (suc (suc zero)) file at = rests 2 (record { above = omega arith; below = omega arith }) file at
all_rest held rests (suc (suc (suc zero))) file at = rests 3 (record { above = omega arith; below = omega arith }) file at
all_rest held rests (suc (suc (suc (suc n)))) file at = absurd (cc (at))

all_leave : (held image : Held) → Leaves held image → Leaves (dump_files held) (dump_files image)
all_leave held image leaves zero = tt
all_leave held image leaves (suc zero) = leaves 1
all_leave held image leaves (suc (suc zero)) = leaves 2
all_leave held image leaves (suc (suc (suc zero))) = leaves 3
all_leave held image leaves (suc (suc (suc (suc n)))) = tt

dump_in : (config : Config) (volume : ℕ) (held : Held) (dump : Option Base) → HasDump config volume held dump → HasDump config volume (dump_files held) dump
dump_in config volume held None has = has
dump_in config volume held (Some dump) has =
    let s = has.1 in
    let kept = file_kept held s.label.body s.valid.body.above s.valid.body.below in (
      has.0,
      record { label = s.label; valid = s.valid; of_volume = s.of_volume; starts = s.starts; label_file = s.label_file; body = (s.body.0, kept ∙ s.body.1, s.body.2) },
      has.2,
    )

dump_out : (config : Config) (volume : ℕ) (held : Held) (dump : Option Base) → HasDump config volume (dump_files held) dump → HasDump config volume held dump
dump_out config volume held None has = has
dump_out config volume held (Some dump) has =
    let s = has.1 in
    let kept = file_kept held s.label.body s.valid.body.above s.valid.body.below in (
      has.0,
      record { label = s.label; valid = s.valid; of_volume = s.of_volume; starts = s.starts; label_file = s.label_file; body = (s.body.0, sym kept ∙ s.body.1, s.body.2) },
      has.2,
    )

-- what each image of a dump device at rest says
abbrev pub RestingDump : Type 0
RestingDump = (config : Config) (volume : ℕ) (dump : Option Base) (held image : Held) → HasDump config volume held dump → IsAtRest held → Leaves held image → HasDump config volume image dump

pub dump_stays : RestingDump → (config : Config) (volume : ℕ) (dump : Option Base) (held image : Held) → HasDump config volume held dump → DumpRests held → Leaves held image
    → HasDump config volume image dump
dump_stays law config volume dump held image has rests leaves =
    dump_out config volume image dump (law config volume dump (dump_files held) (dump_files image) (dump_in config volume held dump has) (all_rest held rests) (all_leave held image leaves))

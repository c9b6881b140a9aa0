-- What a step comes to in its block.
use Rattle.std.specs.Prelude.{ℕ, Bool, true, false, not, ◌&&◌, nat_le, length, List, Option, Result, Ok, Err, if◌then◌else◌}
use Rattle.keyed_file.specs.Block.{KeyedBlock, has_key, has_room, value_at}
use Rattle.tmf_model.specs.Effect.{applied}
use Rattle.tmf_model.specs.declared.script.Op.{Op}
use Rattle.tmf_model.specs.declared.script.Op.TheVariants.{Put, Add, Del, Read, Lock}
use Rattle.tmf_model.specs.declared.script.Reason.{Reason}
use Rattle.tmf_model.specs.declared.script.Step.{Step}
use Rattle.disc_process.specs.declared.found.Found.{Found}
use Rattle.disc_process.specs.declared.found.Found.TheVariants.{Change, Value, Full, Crowded, Refused}

abbrev pub is_put : Op → Bool
is_put (Put value) = true
is_put (Add addend) = false
is_put Del = false
is_put Read = false
is_put Lock = false

-- it leaves the value as it is
abbrev pub is_still : Op → Bool
is_still (Put value) = false
is_still (Add addend) = false
is_still Del = false
is_still Read = true
is_still Lock = true

-- what an operation comes to, from this value and with this one after it
abbrev pub outcome : Op → Option (List ℕ) → Result (Option (List ℕ)) Reason → Found
outcome op before (Err reason) = Refused reason
outcome op before (Ok after) = if is_still op then Value after else Change before after

-- what the step comes to in its block, beside the keys of the block that are held by writing
abbrev pub found_in : KeyedBlock → List (List ℕ) → Step → Found
found_in block kept step =
    if is_put step.op && not (has_room block kept step.key) then Full
    else (if is_put step.op && (not (has_key block step.key) && nat_le 62 (length block.records)) then Crowded
    else outcome step.op (value_at block step.key) (applied step.op (value_at block step.key)))

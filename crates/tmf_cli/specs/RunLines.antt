-- The lines of what the attempts of a run have come to.
use Rattle.std.specs.Prelude.{ℕ, List, [], ◌∷◌, flat_map, map, Option, Some, None}
use Rattle.run_outcomes.specs.declared.outcome.Hang.{Hang}
use Rattle.run_outcomes.specs.declared.outcome.Hang.TheVariants as hang
use Rattle.run_outcomes.specs.declared.outcome.Outcome.{Outcome}
use Rattle.run_outcomes.specs.declared.outcome.Told.{Told}
use Rattle.run_outcomes.specs.declared.outcome.Told.TheVariants as told
use Rattle.tmf_lines.specs.Report.{file_name_of, node_device_name, part_name, spent_line, volume_name}
use Rattle.tmf_lines.specs.declared.line.Line.{Line}
use Rattle.tmf_lines.specs.declared.line.Line.TheVariants.{Aborted, AttemptDamaged, AttemptFailed, Busy, Committed, Controlled, Dumped, Dumping, Full, Hanging, HangingDamaged, HangingMemory, InDoubt, Memory, Read, ReadAbsent, Refused, Skipped}
use Rattle.tmf_model.specs.declared.config.Config.{Config}
use Rattle.tmf_model.specs.declared.transid.Transid.{Transid}

-- the line of what a read of a transaction, by the number of its operation, has found
abbrev pub read_line : Transid → ℕ → Option (List ℕ) → Line
read_line tx op None = ReadAbsent tx op
read_line tx op (Some value) = Read tx op value

-- the lines of its reads
abbrev pub read_lines : Transid → List (ℕ × Option (List ℕ)) → List Line
read_lines tx reads = map (λ read. read_line tx read.0 read.1) reads

-- the line of an attempt that was not backed out
abbrev pub hang_line : Config → Transid → Hang → Line
hang_line config tx (hang.Device device) = Hanging tx (node_device_name config device)
hang_line config tx (hang.Damaged device damage) = HangingDamaged tx (node_device_name config device) damage
hang_line config tx hang.Memory = HangingMemory tx

-- the lines of what an attempt, a control point or a dump is told to have come to
abbrev pub told_lines : Config → Transid → Told → List Line
told_lines config tx (told.Committed place reads) = Committed tx place ∷ read_lines tx reads
told_lines config tx told.Aborted = Aborted tx ∷ []
told_lines config tx (told.Busy file key holder) = Busy tx (file_name_of config file) key holder ∷ []
told_lines config tx (told.Full file key) = Full tx (file_name_of config file) key ∷ []
told_lines config tx (told.Refused op reason) = Refused tx op reason ∷ []
told_lines config tx (told.Spent part) = spent_line tx (part_name config part) ∷ []
told_lines config tx (told.Failed device) = AttemptFailed tx (node_device_name config device) ∷ []
told_lines config tx (told.Damaged device damage) = AttemptDamaged tx (node_device_name config device) damage ∷ []
told_lines config tx (told.InDoubt device) = InDoubt tx (node_device_name config device) ∷ []
told_lines config tx (told.Hanging why) = hang_line config tx why ∷ []
told_lines config tx told.Skipped = Skipped tx ∷ []
told_lines config tx told.Memory = Memory tx ∷ []
told_lines config tx (told.Controlled volume low) = Controlled tx (volume_name config volume) low ∷ []
told_lines config tx (told.Dumped volume start) = Dumped tx (volume_name config volume) start ∷ []
told_lines config tx (told.Dumping volume) = Dumping tx (volume_name config volume) ∷ []

-- of these the lines of what the reads of an attempt have found, which one that has committed alone has
abbrev pub reads_told : Transid → Told → List Line
reads_told tx (told.Committed place reads) = read_lines tx reads
reads_told tx _ = []

-- the lines of the outcomes of a run, in their order
abbrev pub run_lines : Config → List Outcome → List Line
run_lines config outcomes = flat_map (λ outcome. told_lines config outcome.tx outcome.told) outcomes

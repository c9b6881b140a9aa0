-- The program's exit statuses.
use Rattle.std.specs.Prelude.{ℕ}
use Rattle.disk_model.specs.Held.{Rose}
use Rattle.tmf_lines.specs.declared.output.GiveFault.{GiveFault}
use Rattle.tmf_lines.specs.declared.output.GiveFault.TheVariants.{NoMemory, SinkFailed}
use Rattle.tmf_cli.specs.declared.status.Status.{Status}
use Rattle.tmf_cli.specs.declared.status.Status.TheVariants as status

abbrev pub code_of : Status → ℕ
code_of status.Done = 0
code_of status.Usage = 1
code_of status.NoMemory = 2
code_of status.SourceFailed = 3
code_of status.SinkFailed = 4
code_of status.Refused = 5

-- that of lines which were not all given
abbrev pub fault_status : GiveFault → Status
fault_status NoMemory = status.NoMemory
fault_status SinkFailed = status.SinkFailed

-- the sink has not failed unless its count rose
abbrev pub IsFaultCaused : GiveFault → ℕ → ℕ → Type 0
IsFaultCaused NoMemory sink sink_now = Unit {0}
IsFaultCaused SinkFailed sink sink_now = Rose sink sink_now

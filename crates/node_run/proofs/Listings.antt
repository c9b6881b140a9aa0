-- The list that stands in a proof is the only one that the monitor trail told.
use Rattle.std.specs.Prelude.{◌≡◌, ℕ, List, Option, Some, None}
use Rattle.std.proofs.Common.{sym, subst}
use Rattle.std.proofs.Math.Logic.{∥∥₁_elim}
use base.Stored.{Coded-set}
use Rattle.disk_model.specs.Held.{Held}
use Rattle.run_opening.specs.Found.{IsOnlyList}
use Rattle.tmf_model.specs.declared.config.Config.{Config}
use Rattle.trail_files.specs.MonitorRecord.{monitor_format}
use Rattle.trail_files.specs.Text.{Spells}
use Rattle.trail_files.specs.declared.monitor_record.MonitorRecord.{MonitorRecord}
use Rattle.node_run.specs.Listed.{IsSpelledAlone, Listing, list_code, list_of}
use Rattle.node_run.proofs.Lists.{some_same}

only_by : (o : Option Held) (listed : Listing o) (held : Held) (other : List MonitorRecord) → o ≡ Some held → Spells monitor_format held other → list_of o listed ≡ other
only_by None listed held other is spells = absurd (cc (is))
only_by (Some first) listed held other is spells =
    ∥∥₁_elim listed.1 (Coded-set list_code listed.0 other)
    (λ (p : IsSpelledAlone first listed.0). p.1 other (subst (λ (h : Held). Spells monitor_format h other) (sym (some_same first held is)) spells))

pub only_listed : (told : ℕ → Option Held) (listed : Listing (told 0)) (config : Config) → IsOnlyList config told (list_of (told 0) listed)
only_listed told listed config = λ other there. only_by (told 0) listed there.0 other there.1 there.2.spells

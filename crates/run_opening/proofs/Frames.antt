-- What a pass over a trail keeps of it.
use Rattle.std.proofs.Common.{◌≡◌, ℕ, ◌+◌, ◌^◌, ◌<◌, length, List, Some, refl, sym, subst, ap, ◌∙◌, IsTrue}
use Rattle.std.specs.Prelude.{Result, Ok, Err, IfOk}
use Rattle.node_machine.specs.Law.{EndsWithStart}
use Rattle.tmf_model.specs.declared.config.Config.{Config}
use Rattle.trail_files.specs.MonitorRecord.{monitor_format}
use Rattle.trail_files.specs.declared.monitor_record.MonitorRecord.{MonitorRecord}
use Rattle.trail_replay.specs.Rules.{monitor_formats}
use Rattle.run_outcomes.specs.declared.outcome.PhaseError.{PhaseError}
use Rattle.run_opening.specs.Kept.{IsMonitorKept}
use Rattle.run_opening.specs.declared.kept.MonitorKept.{MonitorKept}
use Rattle.disk_model.specs.Held.{Held, IsLeast}
use Rattle.disk_model.specs.declared.disk.Disk as disk
use Rattle.trail_files.specs.Calls.{KeepsContent}
use Rattle.trail_files.specs.Format.{Format}
use Rattle.trail_files.specs.Text.{IsTrailText, Spells}
use Rattle.trail_files.specs.Trail.{Reads, View, with_device}
use Rattle.trail_files.specs.declared.rules.Rules.{Rules}
use Rattle.trail_replay.specs.Opening.{IsOpened, rules_of_node}
use Rattle.volume_restore.proofs.Takings.{later-itself, later-then}

module _ {D R : Type 0} (kind : disk.Ghosts D) (format : Rules → Format R) where
  pub content_itself : (a : View D) → ((x : D) → kind.is_same x x) → KeepsContent kind format a a
  content_itself a same_itself = record {
    keeps = record { rules = refl; device = later-itself kind a.device same_itself; writable = λ w. w };
    holds = λ content holds. holds;
    same = refl;
    view = refl;
  }

  pub content_then : (a b c : View D) → ((x y z : D) → kind.is_same x y → kind.is_same y z → kind.is_same x z) → KeepsContent kind format a b → KeepsContent kind format b c → KeepsContent kind format a c
  content_then a b c same_on ab bc = record {
    keeps = record {
      rules = bc.keeps.rules ∙ ab.keeps.rules;
      device = later-then kind a.device b.device c.device same_on ab.keeps.device bc.keeps.device;
      writable = λ w. bc.keeps.writable (ab.keeps.writable w);
    };
    holds = λ content holds. bc.holds content (ab.holds content holds);
    same = bc.same ∙ ab.same;
    view = bc.view ∙ ap (λ (v : View D). with_device v c.device) ab.view;
  }

  reads_on : (a : View D) (device : D) (records : List R) → kind.held device ≡ kind.held a.device → Reads kind.held format a records → Reads kind.held format (with_device a device) records
  reads_on a device records same reads = record {
    files = reads.files;
    batches = reads.batches;
    is_least = subst (λ (h : Held). IsLeast h (Some a.least)) (sym same) reads.is_least;
    counts = reads.counts;
    text = subst (λ (h : Held). IsTrailText (format a.rules) h a.least reads.files reads.batches) (sym same) reads.text;
    all = reads.all;
  }

  pub reads_then : (a b : View D) (records : List R) → KeepsContent kind format a b → Reads kind.held format a records → Reads kind.held format b records
  reads_then a b records keeps reads = subst (λ (v : View D). Reads kind.held format v records) (sym keeps.view) (reads_on a b.device records keeps.same reads)

  -- a trail that was opened and read is as it was opened
  pub opened_then : (rules : Rules) (device : D) (a b : View D) → ((x y z : D) → kind.is_same x y → kind.is_same y z → kind.is_same x z) → IsOpened kind format rules device a → KeepsContent kind format a b → IsOpened kind format rules device b
  opened_then rules device a b same_on opened keeps = record {
    landed = λ records tells rests.
        let landed = opened.landed records tells rests in
        record { content = landed.content; landed = landed.landed; behind = landed.behind; tells = subst IsTrue (sym keeps.keeps.device.tells) landed.tells; holds = keeps.holds landed.content landed.holds };
    reads = λ records tells spells. reads_then a b records keeps (opened.reads records tells spells);
    spelled = opened.spelled;
    ready = ap (λ (v : View D). v.phase) keeps.view ∙ opened.ready;
    ruled = ap (λ (v : View D). v.rules) keeps.view ∙ opened.ruled;
    writable = keeps.keeps.writable opened.writable;
    reread = record { is_later = later-then kind device a.device b.device same_on opened.reread.is_later keeps.keeps.device; same = keeps.same ∙ opened.reread.same };
  }

-- a monitor trail whose records were counted is kept
pub monitor_kept : {D : Type 0} (kind : disk.Ghosts D) (config : Config) (epoch : ℕ) (device : D) (trail : View D) (result : Result (MonitorKept D) (D × PhaseError)) → ((x y z : D) → kind.is_same x y → kind.is_same y z → kind.is_same x z)
    → IsOpened kind monitor_formats (rules_of_node config) device trail → IfOk result (λ k. KeepsContent kind monitor_formats trail k.trail × (k.places + 2 ^ 20 < 2 ^ 64))
    → ((list : List MonitorRecord) → IsTrue (kind.tells device) → Spells monitor_format (kind.held device) list → IfOk result (λ k. (k.places ≡ length list) × EndsWithStart epoch list))
    → IfOk result (IsMonitorKept kind config epoch device)
monitor_kept kind config epoch device trail (Ok k) same_on opened keeps listed = record {
  opened = opened_then kind monitor_formats (rules_of_node config) device trail k.trail same_on opened keeps.0;
  places = λ list tells spells. (listed list tells spells).0;
  ends = λ list tells spells. (listed list tells spells).1;
  short = keeps.1;
}
monitor_kept kind config epoch device trail (Err e) same_on opened keeps listed = tt

-- The rollforward law of a node: each dump that a device spells gives the volume's records, and one of this run has a dump's content.
use Rattle.std.specs.Prelude.{◌≡◌, ℕ, List, ◌++◌, Some, slice_get}
use Rattle.std.proofs.Common.{subst, arith}
use Rattle.chronicle.specs.Histories.{states_after}
use Rattle.trail_files.specs.StandsFor.{GivesValues}
use Rattle.trail_files.specs.declared.audit_record.AuditRecord.{AuditRecord}
use Rattle.node_machine.specs.Law.{RollforwardLaw, after_list}
use Rattle.node_machine.specs.Node.{node}
use Rattle.node_machine.specs.Opening.{opening_parts, disc_part, dump_part}
use Rattle.node_machine.specs.Parts.PartState.{Disc, Dump}
use Rattle.node_machine.proofs.Dumped.{dump_content}
use Rattle.node_machine.proofs.Placed.{parts_placed}
use Rattle.node_laws.proofs.Crash.{stands, stands_on}

pub node_rollforward_law : RollforwardLaw
node_rollforward_law rules found images bases dumps before map_ log now_images now_bases now_dumps list o h shown number volume is = (
  (let it = stands rules images bases dumps before map_ found o log h now_images now_bases now_dumps list shown in
      subst (λ (audit : ℕ → List AuditRecord). GivesValues found.config number (audit volume.trail) (before ++ list) (after_list log list map_) (now_dumps number))
      (stands_on rules images bases dumps before map_ found o log h now_images now_bases now_dumps list shown) (it.volumes number volume is).dump_values),
  λ s u label content at_s at_u shows copies.
      (let there : disc_part number ≡ disc_part s.number = parts_placed found log h (disc_part number) (Disc s) at_s in
      let same : number ≡ s.number = omega (arith, there) in
      dump_content found log h s u label
      (subst (λ (n : ℕ). slice_get (states_after node (opening_parts found) log) (disc_part n) ≡ Some (Disc s)) same at_s)
      (subst (λ (n : ℕ). slice_get (states_after node (opening_parts found) log) (dump_part n) ≡ Some (Dump u)) same at_u)
      shows content copies),
)

use Rattle.std.proofs.Common.{ℕ, true, [], Option, Some, sym, subst}
use Rattle.std.specs.Prelude.{IsTrue}
use Rattle.keyed_file.specs.LabelFormat.{dump_text}
use Rattle.keyed_file.specs.declared.dump_label.DumpLabel.{DumpLabel}
use Rattle.block_cache.specs.declared.pair.PairPhase.TheVariants.{Settled}
use Rattle.online_dump.specs.Filling.{HoldsDump, phase_of, text_of}
use Rattle.online_dump.specs.Found.{DumpView}
use Rattle.online_dump.specs.Sealing.{HoldsLabel}
use Rattle.online_dump.proofs.Files.{under_way}
use Rattle.online_dump.proofs.dump_file.DumpFile.seal.Goals as goal

pub returns-in-Ok-clause-holds : goal.returns-in-Ok-clause-holds
returns-in-Ok-clause-holds g c =
    let inside = c.self.inside in
    let label = c.in-Some.label in
    let phase = phase_of (Some label) inside.offered in
    let new = g.D.Disk.held c.name_label.new.device in
    subst (λ (v : DumpView g.row.D.Denot). IsTrue (g.D.Disk.tells v.device) → HoldsDump g.D.Disk.held v → HoldsLabel (Some (record { label = label; slot = c.next_slot-slot.result })) Settled [] new) c.self.view_is
    (λ told was.
    let told_first : IsTrue (g.D.Disk.tells c.deref_mut.result.now) = subst (λ (d : g.row.D.Denot). IsTrue (g.D.Disk.tells d)) (sym c.deref_mut.ensures.value) told in
    let named = subst (λ (o : Option DumpLabel). HoldsLabel inside.found (phase_of o inside.offered) (text_of o) (g.D.Disk.held inside.device.value)) c.in-Some.is was in
    let holds = subst (λ (d : g.row.D.Denot). HoldsLabel inside.found phase (dump_text label) (g.D.Disk.held d)) (sym c.deref_mut.ensures.value) named in
    subst (λ (slot : ℕ). HoldsLabel (Some (record { label = label; slot = slot })) Settled [] new) (sym c.next_slot-slot.ensures.slot)
    (c.in-Ok.ensures.ok label phase [] told_first (under_way label inside.offered) holds))

pub returns-in-Err-clause-holds : goal.returns-in-Err-clause-holds
returns-in-Err-clause-holds g c =
    let inside = c.self.inside in
    let label = c.in-Some.label in
    let phase = phase_of (Some label) inside.offered in
    let new = g.D.Disk.held c.name_label.new.device in
    subst (λ (v : DumpView g.row.D.Denot). IsTrue (g.D.Disk.tells v.device) → HoldsDump g.D.Disk.held v → HoldsLabel inside.found (phase_of inside.next true) (text_of inside.next) new) c.self.view_is
    (λ told was.
    let told_first : IsTrue (g.D.Disk.tells c.deref_mut.result.now) = subst (λ (d : g.row.D.Denot). IsTrue (g.D.Disk.tells d)) (sym c.deref_mut.ensures.value) told in
    let named = subst (λ (o : Option DumpLabel). HoldsLabel inside.found (phase_of o inside.offered) (text_of o) (g.D.Disk.held inside.device.value)) c.in-Some.is was in
    let holds = subst (λ (d : g.row.D.Denot). HoldsLabel inside.found phase (dump_text label) (g.D.Disk.held d)) (sym c.deref_mut.ensures.value) named in
    subst (λ (o : Option DumpLabel). HoldsLabel inside.found (phase_of o true) (text_of o) new) (sym c.in-Some.is)
    (c.in-Err.ensures.err label phase told_first (under_way label inside.offered) holds))

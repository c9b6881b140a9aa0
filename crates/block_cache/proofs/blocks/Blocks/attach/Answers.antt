use Rattle.std.proofs.Common.{◌≡◌, Option, sym, ap, subst, ◌∙◌}
use Rattle.disk_model.specs.Held.{Held, File, IsThere}
use Rattle.keyed_file.specs.Layout.{selected_by}
use Rattle.block_cache.specs.Shown.{byte_at}
use Rattle.keyed_file.specs.declared.label.Label.{Label}
use Rattle.keyed_file.specs.Volume.{SpellsLabel, label_of}
use Rattle.block_cache.specs.LabelDamage.{IsFineLabel}
use Rattle.block_cache.proofs.LabelReads.{if_ok_three}
use Rattle.block_cache.proofs.blocks.Blocks.attach.Goals as goal

pub returns-in-Ok-read_label-clause-stands : goal.returns-in-Ok-read_label-clause-stands
returns-in-Ok-read_label-clause-stands g c = λ told.
    let there = c.in-Ok-read_label.ensures.spelled told in
    if_ok_three _ _ _ _ c.open.result
    (λ b device label empty.
    let same : g.D.Disk.held b.device ≡ g.D.Disk.held c.args.device = ap g.D.Disk.held device ∙ c.read_label.ensures.same in
    record {
      spelled = subst (λ (h : Held). IsThere h 1 (λ f. SpellsLabel b.label f.bytes)) (sym same)
          (there.0, there.1, subst (λ (l : Label). SpellsLabel l there.0.bytes) (sym label.0) there.2.0);
      fine = subst (IsFineLabel (label_of c.args.config.now c.args.volume 1)) (sym same)
          (subst (λ (l : Label). IsFineLabel l (g.D.Disk.held c.args.device)) c.in-Ok.ensures.value (c.in-Ok-read_label.ensures.fine told));
      holds = λ contents spells rests. c.at_rest.ensures.holds b contents spells rests label.2
          (label.1 ∙ there.2.1 ∙ ap (λ (o : Option File). selected_by (byte_at o 1)) (sym there.1) ∙ ap (λ (h : Held). selected_by (byte_at (h 1) 1)) (sym same))
          (λ file number below. empty file number);
    })
    c.open.ensures.device c.open.ensures.label c.open.ensures.empty

-- What each image is of a volume whose recovery has stopped, or is done.
use Rattle.std.proofs.Common.{◌≡◌, inl, ℕ, ◌<◌, List, sym, ap, subst, ◌∙◌, arith}
use Rattle.std.specs.Prelude.{None, All}
use Rattle.disk_model.specs.Held.{Held, Leaves}
use Rattle.tmf_model.specs.Config.{IsWithin}
use Rattle.tmf_model.specs.declared.config.Config.{Config}
use Rattle.tmf_model.specs.declared.config.FileLine.{FileLine}
use Rattle.tmf_model.specs.declared.config.Volume.{Volume}
use Rattle.trail_files.specs.declared.audit_record.AuditRecord.{AuditRecord}
use Rattle.trail_files.specs.declared.monitor_record.MonitorRecord.{MonitorRecord}
use Rattle.trail_files.specs.StandsFor.{IsNumber}
use Rattle.keyed_file.specs.declared.label.Label.{Label}
use Rattle.keyed_file.specs.Block.{KeyedBlock}
use Rattle.keyed_file.specs.BlockFormat.{block_text}
use Rattle.keyed_file.specs.LabelFormat.{IsLabel}
use Rattle.keyed_file.specs.Layout.{IsSpelledAt, block_pair, slot_at}
use Rattle.keyed_file.specs.Volume.{Contents, SpellsVolume, blocks_of, files_on, label_of}
use Rattle.block_cache.specs.declared.contents.Change.{Change}
use Rattle.block_cache.specs.declared.pair.PairPhase.TheVariants.{Settled}
use Rattle.block_cache.specs.Blocks.{Holds, HoldsEntry, MayShow, MayShowContents, View, with_low}
use Rattle.block_cache.specs.Cache.{entry_at}
use Rattle.block_cache.specs.Rewrite.{IsCalm, IsContentOf}
use Rattle.block_cache.specs.Shown.{shown_in, shown_low}
use Rattle.block_cache.specs.Shows.{SpellsContent}
use Rattle.block_cache.specs.Changes.{AreChanges, HoldsMap, MakeMap}
use Rattle.block_cache.specs.Whole.{IsOnTheWay}
use Rattle.trail_replay.specs.declared.replay.FoundFiles.{FoundFiles}
use Rattle.volume_restore.specs.Bases.{IsRewritten, MayRewrite, next_behind, recovered_from}
use Rattle.volume_restore.specs.Found.{AreFoundIn}
use Rattle.volume_restore.specs.Pass.{AreNeeded, AreShown}
use Rattle.volume_restore.proofs.Counting.{few-on}
use Rattle.volume_restore.proofs.Holding.{none_some}
use Rattle.volume_restore.proofs.Images.{shows-landed}
use Rattle.volume_restore.proofs.Restoring.{makes-map}

-- a cache without a block is calm
pub empty-calm : {D : Type 0} (view : View D) → ((file n : ℕ) → entry_at view.cache file n ≡ None) → IsCalm view.cache
empty-calm view empty file n f small at = absurd (none_some f (sym (empty file n) ∙ at))

-- a block that is not in the cache shows what has landed
pub holds-shown : {D : Type 0} (held : D → Held) (view : View D) (was next : Contents) (config : Config) (volume : ℕ) → view.label.files ≡ files_on volume 1 config.files → ((file n : ℕ) → entry_at view.cache file n ≡ None)
    → Holds held view was next → AreShown config volume (held view.device) was
holds-shown held view was next config volume same empty holds file number within =
    let here : number < blocks_of view.label.files file = subst (λ fs. number < blocks_of fs file) (sym same) within in
    let there = holds.files file (omega (arith, here)) in
    let entry : HoldsEntry there.0 (block_pair file number) None (was file number) (next file number) =
    subst (λ o. HoldsEntry there.0 (block_pair file number) o (was file number) (next file number)) (empty file number) (there.2.each number here) in
    let pair = entry.1 in
    subst (λ fs. SpellsContent (record { file = file; number = number; blocks = blocks_of fs file }) (was file number) (held view.device)) same (record {
      valid = holds.are_contents file number here;
      spelled = (
        there.0,
        there.1,
        (omega (arith, there.2.whole, there.2.sound), subst (λ (s : ℕ). IsSpelledAt there.0.bytes (slot_at (block_pair file number) s) (block_text (was file number))) (sym pair.named.named) pair.landed.spelled),
      );
    })

module _ {D : Type 0} (held : D → Held) (old : View D) (config : Config) (volume : ℕ) (is_label : old.label ≡ label_of config volume old.label.low) (few : All (λ (line : FileLine). IsWithin 1 256 line.blocks) config.files)
    (volumes : (view : View D) (landed next : Contents) (image : Held) → IsLabel view.label → IsWithin 1 4611686018427387904 view.next_low → Holds held view landed next → Leaves (held view.device) image → SpellsVolume (with_low view.label (shown_low image view)) image (shown_in image view landed next))
    (contents : (view : View D) (landed next : Contents) (image : Held) → IsLabel view.label → IsWithin 1 4611686018427387904 view.next_low → Holds held view landed next → Leaves (held view.device) image → MayShowContents view landed next (shown_in image view landed next))
    (lows : (view : View D) (image : Held) → MayShow view.label_phase view.label.low view.next_low (shown_low image view)) where
  files : old.label.files ≡ files_on volume 1 config.files
  files = ap (λ (l : Label). l.files) is_label

  small : (fs : List (ℕ × ℕ)) → fs ≡ files_on volume 1 config.files → (f n : ℕ) → n < blocks_of fs f → n < 256
  small fs same f n within = omega (arith, within, ap (λ x. blocks_of x f) same, few-on volume config.files f few)

  -- nothing was written
  pub unwritten : (label : IsLabel old.label) (low : IsWithin 1 4611686018427387904 old.next_low) (settled : old.label_phase ≡ Settled) (calm : IsCalm old.cache) (device : D) → held device ≡ held old.device
      → (was next : Contents) (audit : List AuditRecord) (list : List MonitorRecord) (image : Held) → Holds held old was next → Leaves (held device) image → MayRewrite config volume old.label.low was audit list image
  unwritten label low settled calm device same was next audit list image holds leaves_new =
      let leaves : Leaves (held old.device) image = subst (λ h. Leaves h image) same leaves_new in
      let one = shows-landed old was next image settled calm (small old.label.files files) (volumes old was next image label low holds leaves) (contents old was next image label low holds leaves) (lows old image) in
      subst (λ (l : Label). IsOnTheWay l (next_behind volume old.label.low audit) was (recovered_from config volume old.label.low was audit list) image) is_label
      (one.0, inl (one.1, λ f n within. inl (one.2 f n within)))

  -- the changes make the map that recovery finds
  pub given-map : (of : Volume) → IsNumber config.volumes volume of → (fs : List (ℕ × ℕ)) → fs ≡ files_on volume 1 config.files → (was : Contents) (audit : List AuditRecord) (list : List MonitorRecord) (found_files : FoundFiles) (next_is : ℕ) (now : Held) (row : List Change)
      → AreFoundIn config volume old.label.low audit list found_files next_is → AreChanges (files_on volume 1 config.files) row → AreNeeded config volume found_files now row → AreShown config volume now was
      → MakeMap (recovered_from config volume old.label.low was audit list) fs was row
  given-map of declared fs same was audit list found_files next_is now row found changes needed shown =
      subst (λ x. MakeMap (recovered_from config volume old.label.low was audit list) x was row) (sym same) (makes-map config volume old.label.low of audit list found_files now was row declared found.found changes needed shown)

  -- each image on the way of the rewriting is one of the recovery
  pub on-way : (now : View D) → now.label ≡ old.label → (was : Contents) (audit : List AuditRecord) (list : List MonitorRecord) (found_files : FoundFiles) (next_is : ℕ) (image : Held) → AreFoundIn config volume old.label.low audit list found_files next_is
      → IsOnTheWay now.label next_is was (recovered_from config volume old.label.low was audit list) image → MayRewrite config volume old.label.low was audit list image
  on-way now same was audit list found_files next_is image found way =
      subst (λ (l : Label). IsOnTheWay l (next_behind volume old.label.low audit) was (recovered_from config volume old.label.low was audit list) image) (same ∙ is_label)
      (subst (λ n. IsOnTheWay now.label n was (recovered_from config volume old.label.low was audit list) image) found.next way)

  -- once it is done each image is recovered
  pub rewritten : (new now : View D) → now.label ≡ old.label → IsLabel new.label × IsWithin 1 4611686018427387904 new.next_low → (was : Contents) (audit : List AuditRecord) (list : List MonitorRecord) (found_files : FoundFiles) (next_is : ℕ) → AreFoundIn config volume old.label.low audit list found_files next_is
      → (new.label ≡ with_low now.label next_is) × (new.label_phase ≡ Settled) × IsCalm new.cache → HoldsMap held new (recovered_from config volume old.label.low was audit list)
      → (image : Held) → Leaves (held new.device) image → IsRewritten config volume old.label.low was audit list image
  rewritten new now same parts was audit list found_files next_is found lowered has image leaves =
      let of_files : new.label.files ≡ files_on volume 1 config.files = ap (λ (l : Label). l.files) lowered.0 ∙ ap (λ (l : Label). l.files) same ∙ files in
      let one = shows-landed new has.now has.later image lowered.1 lowered.2 (small new.label.files of_files) (volumes new has.now has.later image parts.0 parts.1 has.holds leaves) (contents new has.now has.later image parts.0 parts.1 has.holds leaves) (lows new image) in
      let label_is : new.label ≡ label_of config volume (next_behind volume old.label.low audit) = lowered.0 ∙ ap (λ (l : Label). with_low l next_is) (same ∙ is_label) ∙ ap (λ n. label_of config volume n) found.next in (
        one.0,
        subst (λ (l : Label). SpellsVolume l image one.0) label_is one.1,
        λ file number within.
            let here : number < blocks_of new.label.files file = subst (λ x. number < blocks_of x file) (sym of_files) within in
            subst (λ (b : KeyedBlock). IsContentOf (recovered_from config volume old.label.low was audit list) file (blocks_of (files_on volume 1 config.files) file) number b) (sym (one.2 file number here))
            (subst (λ x. IsContentOf (recovered_from config volume old.label.low was audit list) file (blocks_of x file) number (has.now file number)) of_files (has.done file number here)),
      )

-- The blocks of a volume, none of which is in the cache.
use Rattle.std.proofs.Common.{◌≡◌, ℕ, ◌<◌, ◌≤◌, Bool, length, Some, None, sym, subst, ◌∙◌}
use Rattle.std.specs.Prelude.{IsTrue}
use Rattle.disk_model.specs.Held.{Held, IsThere}
use Rattle.keyed_file.specs.declared.label.Label.{Label}
use Rattle.keyed_file.specs.LabelFormat.{IsLabel}
use Rattle.block_cache.specs.declared.frame.Frame.{Frame}
use Rattle.block_cache.specs.declared.pair.PairPhase.TheVariants.{Settled}
use Rattle.block_cache.specs.Blocks.{IsBlocks}
use Rattle.block_cache.specs.Cache.{CacheView, IsCache, entry_at}
use Rattle.keyed_file.specs.Layout.{label_length}

pub fresh_blocks : {D : Type 0} (tells : D → Bool) (held : D → Held) (given device : D) (label : Label) (slot : ℕ) (cache : CacheView) → device ≡ given → IsLabel label → slot < 2 → IsCache cache
    → ((file number : ℕ) → entry_at cache file number ≡ None) → (IsTrue (tells given) → IsThere (held given) 1 (λ f. label_length ≤ length f.bytes))
    → IsBlocks tells held (record { device = device; label = label; label_slot = slot; label_phase = Settled; next_low = label.low; cache = cache })
fresh_blocks tells held given device label slot cache same valid small is empty there = record {
  label = valid;
  slot = small;
  next_low = valid.low;
  frames = is;
  cached = λ file number f below at. absurd (none_some f (sym (empty file number) ∙ at));
  label_there = subst (λ d. IsTrue (tells d) → IsThere (held d) 1 (λ f. label_length ≤ length f.bytes)) (sym same) there;
  file_there = λ told file number f below at. absurd (none_some f (sym (empty file number) ∙ at));
  next_there = λ told file number f below at half. absurd (none_some f (sym (empty file number) ∙ at));
}
  where
    none_some : (f : Frame) → None ≡ Some f → ⊥
    none_some f e = cc

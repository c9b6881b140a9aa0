-- What a write that is synced leaves of a volume at rest.
use Rattle.std.proofs.Common.{◌≡◌, inl, inr, ◌<◌, ◌≤◌, ℕ, ◌+◌, Bool, List, length, sym, ap, subst, ◌∙◌}
use Rattle.std.specs.Prelude.{IsTrue}
use Rattle.disk_model.specs.Held.{Held, IfThere, IsThere, Elsewhere, synced, written}
use Rattle.trail_files.specs.Landed.{IsSettled}
use Rattle.trail_files.specs.Put.{Put}
use Rattle.keyed_file.specs.declared.label.Label.{Label}
use Rattle.keyed_file.specs.Volume.{blocks_of}
use Rattle.block_cache.specs.Rest.{KeepsRest}
use Rattle.block_cache.specs.Volume.{RestsFor}
use Rattle.block_cache.proofs.Caches.{same_or_other}
use Rattle.block_cache.proofs.Creating.{settled_synced}
use Rattle.block_cache.proofs.Places.{some_is}

module _ (file at : ℕ) (bytes : List ℕ) (old new : Held) (there : IsThere old file (λ f. at ≤ length f.bytes)) (others : Elsewhere file old new) (put : Put file old new at bytes) where
  still : (q : ℕ) → IfThere old q IsSettled → IfThere new q IsSettled
  still q was f is = elim (same_or_other q file) [
    | inl e ↦ subst IsSettled (some_is (synced (written at bytes there.0)) f (sym (put there.0 there.1) ∙ ap new (sym e) ∙ is)) (settled_synced (written at bytes there.0))
    | inr apart ↦ was f (sym (others q apart) ∙ is)
  ]

  pub put-rests : (label : Label) → KeepsRest label old new
  put-rests label rests = record { label_file = still 1 rests.label_file; files = λ g some. still (1 + g) (rests.files g some) }

-- the same of a write to a volume's device, which the call has by another name
module _ {D : Type 0} (tells : D → Bool) (held : D → Held) (old first new : D) (is_first : first ≡ old) (file at : ℕ) (bytes : List ℕ) where
  pub written-rests : (label : Label) → (IsTrue (tells first) → IsThere (held first) file (λ f. at ≤ length f.bytes)) → (IsTrue (tells first) → Elsewhere file (held first) (held new)) → (IsTrue (tells first) → Put file (held first) (held new) at bytes)
      → IsTrue (tells old) → KeepsRest label (held old) (held new)
  written-rests label there others put told =
      let told_first : IsTrue (tells first) = subst (λ (d : D). IsTrue (tells d)) (sym is_first) told in
      subst (λ (d : D). KeepsRest label (held d) (held new)) is_first (put-rests file at bytes (held first) (held new) (there told_first) (others told_first) (put told_first) label)

-- where nothing of what is held changes, nothing comes at risk
pub same-rests : (label : Label) (old new : Held) → new ≡ old → KeepsRest label old new
same-rests label old new same rests = subst (RestsFor label) (sym same) rests

-- what two calls keep, one after the other, both keep
pub then-rests : (label middle : Label) (a b c : Held) → middle ≡ label → KeepsRest label a b → KeepsRest middle b c → KeepsRest label a c
then-rests label middle a b c same first second rests = subst (λ (l : Label). KeepsRest l b c) same second (first rests)

-- what is at rest for a label is at rest for each with its files
pub rests-of : (label other : Label) (held : Held) → label.files ≡ other.files → RestsFor label held → RestsFor other held
rests-of label other held same rests = record { label_file = rests.label_file; files = λ file some. rests.files file (subst (λ (fs : List (ℕ × ℕ)). 0 < blocks_of fs file) (sym same) some) }

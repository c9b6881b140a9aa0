-- A slot that is named stays named where nothing changes.
use Rattle.std.proofs.Common.{◌≡◌, ℕ, List, sym, subst}
use Rattle.disk_model.specs.Held.{Held}
use Rattle.block_cache.specs.declared.contents.Change.{Change}
use Rattle.block_cache.specs.Changes.{change_home}
use Rattle.block_cache.specs.Shows.{NamesSlot}

pub named-later : (held later : Held) (files others : List (ℕ × ℕ)) (change : Change) → later ≡ held → others ≡ files → NamesSlot (change_home files change) change.slot held → NamesSlot (change_home others change) change.slot later
named-later held later files others change same same_files named =
    subst (λ (fs : List (ℕ × ℕ)). NamesSlot (change_home fs change) change.slot later) (sym same_files) (subst (NamesSlot (change_home files change) change.slot) (sym same) named)

-- A block stays at home where a key that lives in it is set.
use Rattle.std.proofs.Common.{◌≡◌, ℕ, Bool, true, false, List, [], ◌∷◌, Option, Some, None, refl}
use Rattle.std.specs.Prelude.{◌&&◌, not, filter}
use Rattle.std.specs.List.{list_all}
use Rattle.std.specs.Cmp.Lexicographic.{slice_cmp}
use Rattle.std.specs.FinMap.Entries.{put, by_order}
use Rattle.std.specs.Ordering.{nat_cmp, is_eq}
use Rattle.std.specs.declared.cmp.Ordering.{Ordering}
use Rattle.std.specs.declared.cmp.Ordering.TheVariants.{Less, Equal, Greater}
use Rattle.std.proofs.lemmas.Bool.{and_parts, and_from}
use Rattle.keyed_file.specs.declared.home.Home.{Home}
use Rattle.keyed_file.specs.Block.{KeyedBlock}
use Rattle.keyed_file.specs.BlockFormat.{is_at_home, is_home_file, is_home_key, is_home_number}
use Rattle.keyed_file.specs.Search.{with_record}

module _ (P : List ℕ → Bool) (key : List ℕ) where
  all_put : (value : List ℕ) (es : List (List ℕ × List ℕ)) → P key ≡ true → list_all (λ e. P e.0) es ≡ true → list_all (λ e. P e.0) (put (slice_cmp nat_cmp) key value es) ≡ true
  all_put value [] fits all = and_from (P key) true fits refl
  all_put value (e ∷ es) fits all =
      let parts = and_parts (P e.0) (list_all (λ e. P e.0) es) all in
      by_cases (all_put value es fits parts.1) (slice_cmp nat_cmp key e.0) parts.0 parts.1
    where
      by_cases : list_all (λ e. P e.0) (put (slice_cmp nat_cmp) key value es) ≡ true → (o : Ordering) → P e.0 ≡ true → list_all (λ e. P e.0) es ≡ true → list_all (λ e. P e.0) (by_order o ((key, value) ∷ e ∷ es) ((e.0, value) ∷ es) (e ∷ put (slice_cmp nat_cmp) key value es)) ≡ true
      by_cases behind Less first rest = and_from (P key) (P e.0 && list_all (λ e. P e.0) es) fits (and_from (P e.0) (list_all (λ e. P e.0) es) first rest)
      by_cases behind Equal first rest = and_from (P e.0) (list_all (λ e. P e.0) es) first rest
      by_cases behind Greater first rest = and_from (P e.0) (list_all (λ e. P e.0) (put (slice_cmp nat_cmp) key value es)) first behind

all_filter : (p q : List ℕ × List ℕ → Bool) (es : List (List ℕ × List ℕ)) → list_all p es ≡ true → list_all p (filter q es) ≡ true
all_filter p q [] all = refl
all_filter p q (e ∷ es) all = (elim (q e) as (λ b. q e ≡ b → list_all p (filter q (e ∷ es)) ≡ true) [
  | true ↦ λ t. let parts = and_parts (p e) (list_all p es) all in rw t (and_from (p e) (list_all p (filter q es)) parts.0 (all_filter p q es parts.1))
  | false ↦ λ t. let parts = and_parts (p e) (list_all p es) all in rw t (all_filter p q es parts.1)
]) refl

all_with : (P : List ℕ → Bool) (key : List ℕ) (value : Option (List ℕ)) (es : List (List ℕ × List ℕ)) → P key ≡ true → list_all (λ e. P e.0) es ≡ true → list_all (λ e. P e.0) (with_record key value es) ≡ true
all_with P key None es fits all = all_filter (λ e. P e.0) (λ e. not (is_eq (slice_cmp nat_cmp key e.0))) es all
all_with P key (Some value) es fits all = all_put P key value es fits all

pub at_home_set : (home : Home) (block : KeyedBlock) (key : List ℕ) (value : Option (List ℕ)) (position : ℕ) → is_at_home (Some home) block ≡ true → is_home_key (Some home) key ≡ true → is_at_home (Some home) (record block { records = with_record key value block.records; position = position }) ≡ true
at_home_set home block key value position at fits =
    let file = and_parts (is_home_file (Some home) block.file) _ at in
    let number = and_parts (is_home_number (Some home) block.number) _ file.1 in
    and_from (is_home_file (Some home) block.file) _ file.0 (and_from (is_home_number (Some home) block.number) _ number.0 (all_with (is_home_key (Some home)) key value block.records fits number.1))

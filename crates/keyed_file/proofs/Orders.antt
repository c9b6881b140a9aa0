-- Rows of records, and records in rising order of their keys.
use Rattle.std.proofs.Common.{◌≡◌, ℕ, true, List, [], ◌∷◌, Option, refl, ap}
use Rattle.std.specs.Cmp.Lexicographic.{slice_cmp, nat_list_cmp_total}
use Rattle.std.specs.List.{AllByRecursion, list_all}
use Rattle.std.specs.List.Sorted.{IsStrictlySortedBy}
use Rattle.std.specs.Map.{keys_of}
use Rattle.std.specs.Ordering.{nat_cmp, is_lt}
use Rattle.std.specs.declared.cmp.Ordering.{Ordering}
use Rattle.std.specs.declared.cmp.Ordering.TheVariants.{Less, Equal, Greater}
use Rattle.std.proofs.lemmas.Bool.{and_parts, and_from}
use Rattle.tmf_model.specs.Word.{is_key, is_value}
use Rattle.keyed_file.specs.declared.home.Home.{Home}
use Rattle.keyed_file.specs.Block.{is_record}
use Rattle.keyed_file.specs.BlockFormat.{is_behind, is_home_key, record_row}
use Rattle.keyed_file.specs.Row.{IsRow}

less_from_lt : (o : Ordering) → is_lt o ≡ true → o ≡ Less
less_from_lt Less e = refl
less_from_lt Equal e = absurd cc
less_from_lt Greater e = absurd cc

-- each of the keys is behind `previous`
abbrev pub AllBehind : List ℕ → List (List ℕ) → Type 0
AllBehind previous keys = AllByRecursion (λ key. slice_cmp nat_cmp previous key ≡ Less) keys

all_behind : (previous : List ℕ) (keys : List (List ℕ)) (first : List ℕ) → slice_cmp nat_cmp previous first ≡ Less → AllBehind first keys → AllBehind previous keys
all_behind previous [] first less all = tt
all_behind previous (key ∷ keys) first less all = (nat_list_cmp_total.trans previous first key less all.0, all_behind previous keys first less all.1)

-- what a row of records says of them
pub record HasRow (home : Option Home) (previous : List ℕ) (entries : List (List ℕ × List ℕ)) : Type 0 where
  pub each : AllByRecursion (λ entry. is_record entry ≡ true) entries
  pub behind : AllBehind previous (keys_of entries)
  pub rising : IsStrictlySortedBy (slice_cmp nat_cmp) (keys_of entries)
  pub at_home : list_all (λ entry. is_home_key home entry.0) entries ≡ true

pub has_row : (home : Option Home) (previous : List ℕ) (entries : List (List ℕ × List ℕ)) → IsRow (record_row home) previous entries → HasRow home previous entries
unfolding IsStrictlySortedBy
has_row home previous [] is = record { each = tt; behind = tt; rising = tt; at_home = refl }
has_row home previous (entry ∷ entries) is =
    let parts = and_parts (is_record entry) _ is.0 in
    let order = and_parts (is_behind previous entry.0) _ parts.1 in
    let first = less_from_lt (slice_cmp nat_cmp previous entry.0) order.0 in
    let rest = has_row home entry.0 entries is.1 in
    record {
      each = (parts.0, rest.each);
      behind = (first, all_behind previous (keys_of entries) entry.0 first rest.behind);
      rising = (rest.behind, rest.rising);
      at_home = and_from _ _ order.1 rest.at_home;
    }

pub is_row : (home : Option Home) (previous : List ℕ) (entries : List (List ℕ × List ℕ)) → HasRow home previous entries → IsRow (record_row home) previous entries
unfolding IsStrictlySortedBy
is_row home previous [] has = tt
is_row home previous (entry ∷ entries) has =
    let at_home = and_parts (is_home_key home entry.0) _ has.at_home in (
      and_from _ _ has.each.0 (and_from _ _ (ap is_lt has.behind.0) at_home.0),
      is_row home entry.0 entries (record { each = has.each.1; behind = has.rising.0; rising = has.rising.1; at_home = at_home.1 }),
    )

key_behind : (key : List ℕ) → is_key key ≡ true → slice_cmp nat_cmp [] key ≡ Less
key_behind [] e = absurd cc
key_behind (x ∷ xs) e = refl

-- every key is behind the empty word
pub all_behind-empty : (entries : List (List ℕ × List ℕ)) → AllByRecursion (λ entry. is_record entry ≡ true) entries → AllBehind [] (keys_of entries)
all_behind-empty [] each = tt
all_behind-empty (entry ∷ entries) each = (key_behind entry.0 (and_parts (is_key entry.0) (is_value entry.1) each.0).0, all_behind-empty entries each.1)

-- Records in rising order of their keys as a finite map.
use Rattle.std.proofs.Common.{◌≡◌, ℕ, suc, ◌+◌, ◌<◌, ◌≤◌, ◌^◌, Bool, true, false, cond, not, ◌&&◌, T, List, [], ◌∷◌, ◌++◌, length, take, drop, get_or, set, Option, Some, None, ◌⊎◌, ⊎_elim, refl, sym, ap, subst, ◌∙◌, arith, length-drop}
use Rattle.std.specs.Prelude.{is_some, IfSome, bytes_eq, if◌then◌else◌}
use Rattle.std.specs.Cmp.Lexicographic.{slice_cmp, nat_list_cmp_total}
use Rattle.std.specs.FinMap.Entries.{put, find, where_key, below_all, is_sorted, by_order, is_sorted-put, is_sorted-where_key, find-put, find-where_key, length-put}
use Rattle.std.specs.List.{AllByRecursion}
use Rattle.std.specs.List.Sorted.{IsStrictlySortedBy}
use Rattle.std.specs.Map.{lookup, keys_of}
use Rattle.std.specs.Ordering.{nat_cmp, is_eq, is_lt, ordering_reverse}
use Rattle.std.specs.declared.cmp.Ordering.{Ordering}
use Rattle.std.specs.declared.cmp.Ordering.TheVariants.{Less, Equal, Greater}
use Rattle.std.proofs.lemmas.Bool.{and_parts, and_from}
use Rattle.std.proofs.lemmas.List.{take-append-drop, get_or-drop, take-set, drop-set}
use Rattle.std.proofs.lemmas.Map.Text.{is_eq-slice_cmp}
use Rattle.std.proofs.lemmas.Slice.Eq.{bytes_eq-Decides}
use Rattle.tmf_model.specs.Word.{is_key, is_value}
use Rattle.keyed_file.specs.Block.{KeyedBlock, IsBlock, CanTake, is_record}
use Rattle.keyed_file.specs.Search.{IsAbove, IsBelowFirst, StandsAt, MissesAt, with_record}

abbrev order : List ℕ → List ℕ → Ordering
order = slice_cmp nat_cmp

both : (a b : Bool) → T a → T b → T (a && b)
both true b p q = q
both false b p q = absurd p

left : (a b : Bool) → T (a && b) → T a
left true b p = tt
left false b p = p

right : (a b : Bool) → T (a && b) → T b
right true b p = p
right false b p = absurd p

less : (o : Ordering) → T (is_lt o) → o ≡ Less
less Less p = refl
less Equal p = absurd p
less Greater p = absurd p

-- keys that compare as equal are equal
pub same_key : (xs ys : List ℕ) → order xs ys ≡ Equal → xs ≡ ys
same_key xs ys tie = (bytes_eq-Decides xs ys).0 (sym (is_eq-slice_cmp xs ys) ∙ ap is_eq tie)

find-lookup : (key : List ℕ) (entries : List (List ℕ × List ℕ)) → find order key entries ≡ lookup (bytes_eq key) entries
find-lookup key [] = refl
find-lookup key (e ∷ es) = λ i. cond (is_eq-slice_cmp key e.0 i) (Some e.1) (find-lookup key es i)

below_from_all : (key : List ℕ) (entries : List (List ℕ × List ℕ)) → AllByRecursion (λ other. order key other ≡ Less) (keys_of entries) → T (below_all order key entries)
below_from_all key [] all = tt
below_from_all key (e ∷ es) all = both _ _ (subst (λ o. T (is_lt o)) (sym all.0) tt) (below_from_all key es all.1)

all_from_below : (key : List ℕ) (entries : List (List ℕ × List ℕ)) → T (below_all order key entries) → AllByRecursion (λ other. order key other ≡ Less) (keys_of entries)
all_from_below key [] below = tt
all_from_below key (e ∷ es) below = (less _ (left _ _ below), all_from_below key es (right _ _ below))

pub sorted_from_rising : (entries : List (List ℕ × List ℕ)) → IsStrictlySortedBy order (keys_of entries) → T (is_sorted order entries)
unfolding IsStrictlySortedBy
sorted_from_rising [] rising = tt
sorted_from_rising (e ∷ es) rising = both _ _ (below_from_all e.0 es rising.0) (sorted_from_rising es rising.1)

pub rising_from_sorted : (entries : List (List ℕ × List ℕ)) → T (is_sorted order entries) → IsStrictlySortedBy order (keys_of entries)
unfolding IsStrictlySortedBy
rising_from_sorted [] sorted = tt
rising_from_sorted (e ∷ es) sorted = (all_from_below e.0 es (left _ _ sorted), rising_from_sorted es (right _ _ sorted))

-- a key that is above records passes them
put-passed : (key value : List ℕ) (front back : List (List ℕ × List ℕ)) → IsAbove key front → put order key value (front ++ back) ≡ front ++ put order key value back
put-passed key value [] back above = refl
put-passed key value (e ∷ es) back above =
    ap (λ o. by_order o ((key, value) ∷ e ∷ (es ++ back)) ((e.0, value) ∷ (es ++ back)) (e ∷ put order key value (es ++ back))) above.0
    ∙ ap (λ rest. e ∷ rest) (put-passed key value es back above.1)

lookup-passed : (key : List ℕ) (front back : List (List ℕ × List ℕ)) → IsAbove key front → find order key (front ++ back) ≡ find order key back
lookup-passed key [] back above = refl
lookup-passed key (e ∷ es) back above = ap (λ o. cond (is_eq o) (Some e.1) (find order key (es ++ back))) above.0 ∙ lookup-passed key es back above.1

-- the entries of other keys
abbrev pub others : List ℕ → List (List ℕ × List ℕ) → List (List ℕ × List ℕ)
others key entries = where_key order (λ other. not (is_eq (order key other))) entries

others-passed : (key : List ℕ) (front back : List (List ℕ × List ℕ)) → IsAbove key front → others key (front ++ back) ≡ front ++ others key back
others-passed key [] back above = refl
others-passed key (e ∷ es) back above = ap (λ o. cond (not (is_eq o)) (e ∷ others key (es ++ back)) (others key (es ++ back))) above.0 ∙ ap (λ rest. e ∷ rest) (others-passed key es back above.1)

others-below : (key : List ℕ) (entries : List (List ℕ × List ℕ)) → T (below_all order key entries) → others key entries ≡ entries
others-below key [] below = refl
others-below key (e ∷ es) below = ap (λ o. cond (not (is_eq o)) (e ∷ others key es) (others key es)) (less _ (left _ _ below)) ∙ ap (λ rest. e ∷ rest) (others-below key es (right _ _ below))

below_less : (key other : List ℕ) (entries : List (List ℕ × List ℕ)) → order key other ≡ Less → T (below_all order other entries) → T (below_all order key entries)
below_less key other [] is below = tt
below_less key other (e ∷ es) is below =
    both _ _ (subst (λ o. T (is_lt o)) (sym (nat_list_cmp_total.trans key other e.0 is (less _ (left _ _ below)))) tt) (below_less key other es is (right _ _ below))

sorted_back : (front back : List (List ℕ × List ℕ)) → T (is_sorted order (front ++ back)) → T (is_sorted order back)
sorted_back [] back sorted = sorted
sorted_back (e ∷ es) back sorted = sorted_back es back (right _ _ sorted)

sorted_drop : (at : ℕ) (records : List (List ℕ × List ℕ)) → T (is_sorted order records) → T (is_sorted order (drop at records))
sorted_drop at records sorted = sorted_back (take at records) (drop at records) (subst (λ rs. T (is_sorted order rs)) (sym (take-append-drop at records)) sorted)

-- where a record has the key
module _ (records : List (List ℕ × List ℕ)) (key : List ℕ) (at : ℕ) (sorted : T (is_sorted order records)) (is : StandsAt records key at) where
  parts : records ≡ take at records ++ is.entry ∷ drop (suc at) records
  parts = sym (take-append-drop at records) ∙ ap (λ back. take at records ++ back) is.there

  same : key ≡ is.entry.0
  same = same_key key is.entry.0 is.same

  rest_below : T (below_all order key (drop (suc at) records))
  rest_below =
      subst (λ k. T (below_all order k (drop (suc at) records))) (sym same)
      (left _ _ (subst (λ rs. T (is_sorted order rs)) is.there (sorted_drop at records sorted)))

  pub find_stands : find order key records ≡ Some is.entry.1
  find_stands =
      ap (find order key) parts
      ∙ lookup-passed key (take at records) (is.entry ∷ drop (suc at) records) is.above
      ∙ ap (λ o. cond (is_eq o) (Some is.entry.1) (find order key (drop (suc at) records))) is.same

  pub put_stands : (value : List ℕ) → put order key value records ≡ take at records ++ (key, value) ∷ drop (suc at) records
  put_stands value =
      let rest = drop (suc at) records in
      ap (put order key value) parts
      ∙ put-passed key value (take at records) (is.entry ∷ rest) is.above
      ∙ ap (λ o. take at records ++ by_order o ((key, value) ∷ is.entry ∷ rest) ((is.entry.0, value) ∷ rest) (is.entry ∷ put order key value rest)) is.same
      ∙ ap (λ k. take at records ++ (k, value) ∷ rest) (sym same)

  pub others_stands : others key records ≡ take at records ++ drop (suc at) records
  others_stands =
      let rest = drop (suc at) records in
      ap (others key) parts
      ∙ others-passed key (take at records) (is.entry ∷ rest) is.above
      ∙ ap (λ o. take at records ++ cond (not (is_eq o)) (is.entry ∷ others key rest) (others key rest)) is.same
      ∙ ap (λ tail. take at records ++ tail) (others-below key rest rest_below)

below_back : (key : List ℕ) (back : List (List ℕ × List ℕ)) → T (is_sorted order back) → IsBelowFirst key back → T (below_all order key back)
below_back key [] sorted below = tt
below_back key (e ∷ es) sorted below = both _ _ (subst (λ o. T (is_lt o)) (sym below) tt) (below_less key e.0 es below (left _ _ sorted))

find_below : (key : List ℕ) (entries : List (List ℕ × List ℕ)) → T (below_all order key entries) → find order key entries ≡ None
find_below key [] below = refl
find_below key (e ∷ es) below = ap (λ o. cond (is_eq o) (Some e.1) (find order key es)) (less _ (left _ _ below)) ∙ find_below key es (right _ _ below)

put_below : (key value : List ℕ) (back : List (List ℕ × List ℕ)) → IsBelowFirst key back → put order key value back ≡ (key, value) ∷ back
put_below key value [] below = refl
put_below key value (e ∷ es) below = ap (λ o. by_order o ((key, value) ∷ e ∷ es) ((e.0, value) ∷ es) (e ∷ put order key value es)) below

-- where no record has it
module _ (records : List (List ℕ × List ℕ)) (key : List ℕ) (at : ℕ) (sorted : T (is_sorted order records)) (is : MissesAt records key at) where
  pieces : records ≡ take at records ++ drop at records
  pieces = sym (take-append-drop at records)

  back_below : T (below_all order key (drop at records))
  back_below = below_back key (drop at records) (sorted_drop at records sorted) is.below

  pub find_misses : find order key records ≡ None
  find_misses = ap (find order key) pieces ∙ lookup-passed key (take at records) (drop at records) is.above ∙ find_below key (drop at records) back_below

  pub put_misses : (value : List ℕ) → put order key value records ≡ take at records ++ (key, value) ∷ drop at records
  put_misses value =
      ap (put order key value) pieces ∙ put-passed key value (take at records) (drop at records) is.above
      ∙ ap (λ tail. take at records ++ tail) (put_below key value (drop at records) is.below)

  pub others_misses : others key records ≡ records
  others_misses =
      ap (others key) pieces ∙ others-passed key (take at records) (drop at records) is.above
      ∙ ap (λ tail. take at records ++ tail) (others-below key (drop at records) back_below) ∙ sym pieces

pub lookup_stands : (records : List (List ℕ × List ℕ)) (key : List ℕ) (at : ℕ) → T (is_sorted order records) → (is : StandsAt records key at) → lookup (bytes_eq key) records ≡ Some is.entry.1
lookup_stands records key at sorted is = sym (find-lookup key records) ∙ find_stands records key at sorted is

pub lookup_misses : (records : List (List ℕ × List ℕ)) (key : List ℕ) (at : ℕ) → T (is_sorted order records) → MissesAt records key at → lookup (bytes_eq key) records ≡ None
lookup_misses records key at sorted is = sym (find-lookup key records) ∙ find_misses records key at sorted is

-- what the map has after a change
mirrored : (o : Ordering) → is_eq (ordering_reverse o) ≡ is_eq o
mirrored Less = refl
mirrored Equal = refl
mirrored Greater = refl

flipped : (b : Bool) (x : Option (List ℕ)) → cond (not b) x None ≡ cond b None x
flipped true x = refl
flipped false x = refl

pub lookup-put : (at key value : List ℕ) (records : List (List ℕ × List ℕ)) → lookup (bytes_eq at) (put order key value records) ≡ (if bytes_eq at key then Some value else lookup (bytes_eq at) records)
lookup-put at key value records =
    sym (find-lookup at (put order key value records))
    ∙ find-put order nat_list_cmp_total at key value records
    ∙ (λ i. cond (is_eq-slice_cmp at key i) (Some value) (find-lookup at records i))

pub lookup-others : (at key : List ℕ) (records : List (List ℕ × List ℕ)) → lookup (bytes_eq at) (others key records) ≡ (if bytes_eq at key then None else lookup (bytes_eq at) records)
lookup-others at key records =
    let test : List ℕ → Bool = λ other. not (is_eq (order key other)) in
    let swap : is_eq (order key at) ≡ bytes_eq at key = ap is_eq (nat_list_cmp_total.antisymm key at) ∙ mirrored (order at key) ∙ is_eq-slice_cmp at key in
    sym (find-lookup at (others key records))
    ∙ find-where_key order test at (λ x tie. ap test (sym (same_key at x tie))) records
    ∙ flipped (is_eq (order key at)) (find order at records)
    ∙ (λ i. cond (swap i) None (find-lookup at records i))

-- each record stays one
pub each-put : (key value : List ℕ) (records : List (List ℕ × List ℕ)) → is_key key ≡ true → is_value value ≡ true → AllByRecursion (λ entry. is_record entry ≡ true) records → AllByRecursion (λ entry. is_record entry ≡ true) (put order key value records)
each-put key value [] k v each = (and_from _ _ k v, tt)
each-put key value (e ∷ es) k v each =
    elim (order key e.0) as (λ o. AllByRecursion (λ entry. is_record entry ≡ true) (by_order o ((key, value) ∷ e ∷ es) ((e.0, value) ∷ es) (e ∷ put order key value es))) [
      | Less ↦ (and_from _ _ k v, each)
      | Equal ↦ (and_from _ _ (and_parts (is_key e.0) (is_value e.1) each.0).0 v, each.1)
      | Greater ↦ (each.0, each-put key value es k v each.1)
    ]

pub each-others : (key : List ℕ) (records : List (List ℕ × List ℕ)) → AllByRecursion (λ entry. is_record entry ≡ true) records → AllByRecursion (λ entry. is_record entry ≡ true) (others key records)
each-others key [] each = tt
each-others key (e ∷ es) each =
    let rest = each-others key es each.1 in
    elim (not (is_eq (order key e.0))) as (λ b. AllByRecursion (λ entry. is_record entry ≡ true) (cond b (e ∷ others key es) (others key es))) [ true ↦ (each.0, rest) | false ↦ rest ]

pub length-others : (key : List ℕ) (records : List (List ℕ × List ℕ)) → length (others key records) ≤ length records
length-others key [] = omega arith
length-others key (e ∷ es) =
    let rest = length-others key es in
    elim (not (is_eq (order key e.0))) as (λ b. length (cond b (e ∷ others key es) (others key es)) ≤ suc (length es)) [ true ↦ omega (arith, rest) | false ↦ omega (arith, rest) ]

pub length-put_few : (key value : List ℕ) (records : List (List ℕ × List ℕ)) → T (is_sorted order records) → length records ≤ 62 → (is_some (lookup (bytes_eq key) records) ≡ true) ⊎ (length records < 62) → length (put order key value records) ≤ 62
length-put_few key value records sorted few can =
    let long = length-put order nat_list_cmp_total key value records sorted in
    ⊎_elim
    (λ there. let known : is_some (find order key records) ≡ true = ap is_some (find-lookup key records) ∙ there in
    let same : length (put order key value records) ≡ length records = long ∙ ap (λ b. cond b (length records) (length records + 1)) known in
    omega (arith, same, few))
    (λ room. subst (λ (n : ℕ). n ≤ 62) (sym long) (elim (is_some (find order key records)) as (λ b. cond b (length records) (length records + 1) ≤ 62) [ true ↦ few | false ↦ omega (arith, room) ]))
    can

pub rising-put : (key value : List ℕ) (records : List (List ℕ × List ℕ)) → IsStrictlySortedBy order (keys_of records) → IsStrictlySortedBy order (keys_of (put order key value records))
rising-put key value records rising = rising_from_sorted (put order key value records) (is_sorted-put order nat_list_cmp_total key value records (sorted_from_rising records rising))

pub rising-others : (key : List ℕ) (records : List (List ℕ × List ℕ)) → IsStrictlySortedBy order (keys_of records) → IsStrictlySortedBy order (keys_of (others key records))
rising-others key records rising = rising_from_sorted (others key records) (is_sorted-where_key order (λ other. not (is_eq (order key other))) records (sorted_from_rising records rising))

pub get_or-there : (records : List (List ℕ × List ℕ)) (at : ℕ) (entry d : List ℕ × List ℕ) (rest : List (List ℕ × List ℕ)) → drop at records ≡ entry ∷ rest → get_or records at d ≡ entry
get_or-there records at entry d rest there =
    let same : at ≡ at + 0 = omega arith in
    ap (λ n. get_or records n d) same ∙ sym (get_or-drop at records 0 d) ∙ ap (λ tail. get_or tail 0 d) there

pub within-there : (records : List (List ℕ × List ℕ)) (at : ℕ) (entry : List ℕ × List ℕ) (rest : List (List ℕ × List ℕ)) → drop at records ≡ entry ∷ rest → at < length records
within-there records at entry rest there = omega (arith, length-drop at records, ap length there)

pub set_there : (records : List (List ℕ × List ℕ)) (at : ℕ) (entry : List ℕ × List ℕ) → at < length records → set records at entry ≡ take at records ++ entry ∷ drop (suc at) records
set_there records at entry inside =
    let next : at + 1 ≡ suc at = omega arith in
    sym (take-append-drop at (set records at entry))
    ∙ (λ i. take-set records at entry i ++ drop-set records at entry inside i)
    ∙ ap (λ n. take at records ++ entry ∷ drop n records) next

-- a changed block
pub lookup-with_record : (at key : List ℕ) (value : Option (List ℕ)) (records : List (List ℕ × List ℕ)) → lookup (bytes_eq at) (with_record key value records) ≡ (if bytes_eq at key then value else lookup (bytes_eq at) records)
lookup-with_record at key (Some value) records = lookup-put at key value records
lookup-with_record at key None records = lookup-others at key records

pub changed_block : (block : KeyedBlock) (key : List ℕ) (value : Option (List ℕ)) (position : ℕ) (records : List (List ℕ × List ℕ)) → IsBlock block → CanTake block.records key value → IfSome value (λ new. is_record (key, new) ≡ true) → position < 2 ^ 64 → records ≡ with_record key value block.records
    → IsBlock (record { file = block.file; number = block.number; position = position; records = records })
changed_block block key (Some value) position records is can form fits same =
    let parts = and_parts (is_key key) (is_value value) form in
    subst (λ (rs : List (List ℕ × List ℕ)). IsBlock (record { file = block.file; number = block.number; position = position; records = rs })) (sym same)
    (record {
      file = is.file;
      number = is.number;
      position = fits;
      few = length-put_few key value block.records (sorted_from_rising block.records is.rising) is.few can;
      each = each-put key value block.records parts.0 parts.1 is.each;
      rising = rising-put key value block.records is.rising;
    })
changed_block block key None position records is can form fits same =
    let shorter = length-others key block.records in
    subst (λ (rs : List (List ℕ × List ℕ)). IsBlock (record { file = block.file; number = block.number; position = position; records = rs })) (sym same)
    (record {
      file = is.file;
      number = is.number;
      position = fits;
      few = omega (arith, shorter, is.few);
      each = each-others key block.records is.each;
      rising = rising-others key block.records is.rising;
    })

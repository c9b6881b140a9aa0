-- Records that are read block by block.
use Rattle.std.specs.Prelude.{◌==◌, IsSome, Some, None, bytes_eq}
use Rattle.std.specs.Cmp.Lexicographic.{slice_cmp}
use Rattle.std.specs.Ordering.{is_eq, nat_cmp}
use Rattle.std.specs.List.Sorted.{IsStrictlySortedBy}
use Rattle.std.specs.Map.{keys_of, lookup}
use Rattle.std.proofs.Common.{◌≡◌, ◌≢◌, ◌⊎◌, inl, inr, ℕ, ◌+◌, ◌<◌, ◌≤◌, Bool, true, false, cond, List, [], ◌∷◌, ◌++◌, refl, sym, ap, subst, ◌∙◌, arith}
use Rattle.std.proofs.lemmas.Bool.{cases_eq}
use Rattle.std.proofs.lemmas.Bool.Decides.{nat_tests}
use Rattle.std.proofs.lemmas.List.{append-nil}
use Rattle.std.proofs.lemmas.Map.Text.{is_eq-slice_cmp}
use Rattle.std.proofs.lemmas.Slice.Eq.{bytes_eq-Decides}
use Rattle.disk_model.specs.Held.{Held}
use Rattle.tmf_model.specs.RecordMap.{RecordMap, IsListing}
use Rattle.block_cache.specs.Damage.{BlockCause, TellsBlock, bad_data_in, bad_selected}
use Rattle.block_cache.specs.OnePiece.{AreFileBytes, TellsIn}
use Rattle.block_cache.specs.declared.fault.BlockFault.{BlockFault}
use Rattle.block_cache.specs.declared.fault.BlockFault.TheVariants.{Failed as BlockFailed, Damaged as BlockDamaged, NoMemory as BlockNoMemory}
use Rattle.tmf_model.specs.Place.{block_of}
use Rattle.keyed_file.specs.declared.home.Home.{Home}
use Rattle.keyed_file.specs.Block.{KeyedBlock, value_at}
use Rattle.keyed_file.specs.BlockFormat.{is_at_home}
use Rattle.block_cache.specs.Shows.{SpellsContent, ShowsContent}
use Rattle.block_cache.proofs.OnePieces.{bad-same}
use Rattle.block_cache.proofs.Shown.{shows-one}
use Rattle.volume_restore.specs.Listed.{AreFine, AreRead, HasAdded, ListCause, Records, TellsFile, list_fault, value_in}
use Rattle.volume_restore.specs.declared.list.ListFault.TheVariants.{Failed as ListFailed}
use Rattle.volume_restore.proofs.Parts.{lives_home}

same_or_other : (n m : ℕ) → (n ≡ m) ⊎ (n ≢ m)
same_or_other n m = cases_eq n m

eq-sym : (a b : ℕ) → (a == b) ≡ (b == a)
eq-sym a b = grind (arith, nat_tests)

swapped : (a b : List ℕ) → bytes_eq a b ≡ bytes_eq b a
swapped [] [] = refl
swapped [] (y ∷ ys) = refl
swapped (x ∷ xs) [] = refl
swapped (x ∷ xs) (y ∷ ys) = rw (eq-sym x y, swapped xs ys) refl

-- one record of a block is added
module _ (block : KeyedBlock) (old new : Records) (e : List ℕ × List ℕ) (own : value_at block e.0 ≡ Some e.1)
    (updates : (key : List ℕ) → value_in new key ≡ cond (is_eq (slice_cmp nat_cmp e.0 key)) (Some e.1) (value_in old key)) where
  puts : (key : List ℕ) → value_in new key ≡ cond (bytes_eq key e.0) (Some e.1) (value_in old key)
  puts key = updates key ∙ ap (λ (b : Bool). cond b (Some e.1) (value_in old key)) (is_eq-slice_cmp e.0 key ∙ swapped e.0 key)

  pub added_here : (key : List ℕ) → bytes_eq key e.0 ≡ true → value_in new key ≡ value_at block key
  added_here key same = puts key ∙ ap (λ (b : Bool). cond b (Some e.1) (value_in old key)) same ∙ sym own ∙ ap (value_at block) (sym ((bytes_eq-Decides key e.0).0 same))

  pub added_away : (key : List ℕ) → bytes_eq key e.0 ≡ false → value_in new key ≡ value_in old key
  added_away key apart = puts key ∙ ap (λ (b : Bool). cond b (Some e.1) (value_in old key)) apart

  pub added_other : (key : List ℕ) → value_at block key ≡ None → value_in new key ≡ value_in old key
  added_other key none = (elim (bytes_eq key e.0) as (λ b. bytes_eq key e.0 ≡ b → value_in new key ≡ value_in old key) [
    | true ↦ λ same. absurd (differs (sym none ∙ ap (value_at block) ((bytes_eq-Decides key e.0).0 same) ∙ own))
    | false ↦ λ apart. added_away key apart
  ]) refl
    where
      differs : None ≡ Some e.1 → ⊥
      differs is = cc

-- a block at home has no value at a key of another block
no_value : (home : Home) (block : KeyedBlock) (key : List ℕ) → is_at_home (Some home) block ≡ true → block_of key home.blocks ≢ home.number → value_at block key ≡ None
no_value home block key at other = (elim (value_at block key) as (λ o. value_at block key ≡ o → o ≡ None) [
  | None ↦ λ _. refl
  | Some value ↦ λ is. absurd (other (lives_home home block key at (subst IsSome (sym is) refl)))
]) refl

-- one block more is read
pub read_more : (file blocks number : ℕ) (held : Held) (content : KeyedBlock) (old new : Records) → AreRead file blocks number held old → SpellsContent (record { file = file; number = number; blocks = blocks }) content held → HasAdded content old new
    → AreRead file blocks (number + 1) held new
read_more file blocks number held content old new was shows added = record {
  shown = λ n below. elim (same_or_other n number) [
    | inl e ↦ subst (λ (m : ℕ). ShowsContent (record { file = file; number = m; blocks = blocks }) held) (sym e) (content, shows)
    | inr other ↦ was.shown n (omega (arith, below, other))
  ];
  read = λ key any below shows_any. elim (same_or_other (block_of key blocks) number) [
    | inl e ↦ found key (omega (arith, e)) ∙ ap (λ (b : KeyedBlock). value_at b key)
        (shows-one (record { file = file; number = number; blocks = blocks }) content any held shows (subst (λ (m : ℕ). SpellsContent (record { file = file; number = m; blocks = blocks }) any held) e shows_any))
    | inr other ↦ added.others key (elsewhere key other) ∙ was.read key any (omega (arith, below, other)) shows_any
  ];
  left = λ key above. added.others key (elsewhere key (λ e. absurd (omega (arith, e, above)))) ∙ was.left key (omega (arith, above));
}
  where
    elsewhere : (key : List ℕ) → block_of key blocks ≢ number → value_at content key ≡ None
    elsewhere key other = no_value (record { file = file; number = number; blocks = blocks }) content key shows.valid.home other

    found : (key : List ℕ) → number ≤ block_of key blocks → value_in new key ≡ value_at content key
    found key above = (elim (value_at content key) as (λ o. value_at content key ≡ o → value_in new key ≡ value_at content key) [
      | None ↦ λ none. added.others key none ∙ was.left key above ∙ sym none
      | Some value ↦ λ is. added.added key (subst IsSome (sym is) refl)
    ]) refl

-- the records that were read of a file, in the order of their keys, are its listing
pub records_listing : (records : Records) (map : RecordMap) (file : ℕ) (entries : List (List ℕ × List ℕ)) → IsStrictlySortedBy (slice_cmp nat_cmp) (keys_of records.entries) → entries ≡ records.entries
    → ((key : List ℕ) → value_in records key ≡ map file key) → IsListing map file entries
records_listing records map file entries ordered is same = record {
  rising = subst (λ xs. IsStrictlySortedBy (slice_cmp nat_cmp) (keys_of xs)) (sym is) ordered;
  exact = λ key. ap (lookup (bytes_eq key)) is ∙ sym (by_bytes key) ∙ same key;
}
  where
    by_bytes : (key : List ℕ) → value_in records key ≡ lookup (bytes_eq key) records.entries
    by_bytes key = λ i. lookup (λ q. is_eq-slice_cmp key q i) records.entries

-- what is listed when nothing is left
pub listed_all : {X : Type 0} (entries rest all : List X) → rest ≡ [] → entries ++ rest ≡ all → entries ≡ all
listed_all entries rest all none so_far = sym (append-nil entries) ∙ ap (λ xs. entries ++ xs) (sym none) ∙ so_far

-- before any block is read
pub none_read : (file blocks : ℕ) (held : Held) (records : Records) → ((key : List ℕ) → value_in records key ≡ None) → AreRead file blocks 0 held records
none_read file blocks held records none = record {
  shown = λ n below. absurd (omega (arith, below));
  read = λ key content below shows. absurd (omega (arith, below));
  left = λ key _. none key;
}

-- a fault of a block is the first damage of its file, where the blocks before it are fine
pub tells_file : (home : Home) (blocks : ℕ) (held : Held) (fault : BlockFault) → home.blocks ≡ blocks → home.number < home.blocks
    → TellsBlock (record { file = home.file; number = home.number; blocks = blocks }) held fault → AreFine home.file home.blocks home.number held → TellsFile home.file home.blocks held (list_fault fault)
tells_file home blocks held BlockFailed is within tells before = tt
tells_file home blocks held (BlockDamaged d) is within tells before = record {
  number = home.number;
  within = within;
  before = before;
  here = (tells.0, tells.1, subst (λ (b : ℕ). bad_data_in (record { file = home.file; number = home.number; blocks = b }) (held (1 + home.file)) ≡ Some d.at) (sym is) tells.2);
}
tells_file home blocks held BlockNoMemory is within tells before = tt

-- so it is where the block was not taken out of its file's bytes
pub taken_tells : (home : Home) (held : Held) (bytes : List ℕ) (fault : BlockFault) → home.number < home.blocks → home.blocks ≤ 256 → AreFileBytes home held bytes → TellsIn home (bad_selected home bytes) fault
    → AreFine home.file home.blocks home.number held → TellsFile home.file home.blocks held (list_fault fault)
taken_tells home held bytes BlockFailed within few are tells before = absurd tells
taken_tells home held bytes (BlockDamaged d) within few are tells before = record {
  number = home.number;
  within = within;
  before = before;
  here = (tells.0, tells.1, bad-same home held bytes within few are (Some d.at) tells.2);
}
taken_tells home held bytes BlockNoMemory within few are tells before = tt

-- no device has failed then
pub taken_lists : (home : Home) (bytes : List ℕ) (fault : BlockFault) → TellsIn home (bad_selected home bytes) fault → list_fault fault ≢ ListFailed
taken_lists home bytes BlockFailed tells = absurd tells
taken_lists home bytes (BlockDamaged d) tells = λ is. cc
taken_lists home bytes BlockNoMemory tells = λ is. cc

-- one block more is fine
pub fine_more : (file blocks number : ℕ) (held : Held) → AreFine file blocks number held → bad_data_in (record { file = file; number = number; blocks = blocks }) (held (1 + file)) ≡ None → AreFine file blocks (number + 1) held
fine_more file blocks number held before here n below = elim (same_or_other n number) [
  | inl e ↦ subst (λ (m : ℕ). bad_data_in (record { file = file; number = m; blocks = blocks }) (held (1 + file)) ≡ None) (sym e) here
  | inr other ↦ before n (omega (arith, below, other))
]

-- the cause of a block's fault is that of its listing
pub list_cause : (before now : ℕ) (fault : BlockFault) → BlockCause before now fault → ListCause before now (list_fault fault)
list_cause before now BlockFailed cause = cause
list_cause before now (BlockDamaged d) cause = tt
list_cause before now BlockNoMemory cause = tt

-- each key lives in a block of its file
pub in_file : (key : List ℕ) (blocks : ℕ) → 1 ≤ blocks → block_of key blocks < blocks
in_file key blocks some = omega arith

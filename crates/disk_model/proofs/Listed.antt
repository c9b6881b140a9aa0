-- One file more in a list.
use Rattle.std.proofs.Common.{◌≡◌, ℕ, Bool, true, false, cond, List, [], ◌∷◌, ◌++◌, refl, sym, ap, subst, ◌∙◌, arith}
use Rattle.std.specs.Prelude.{Option, Some, None, IfSome, nat_eq, is_some, Contains, Vec, ◌||◌}
use Rattle.std.specs.Option.{option_map}
use Rattle.std.specs.Ordering.{nat_cmp}
use Rattle.std.specs.Cmp.{unsigned_Decides, unsigned_tied}
use Rattle.std.specs.BTreeMap.{BTreeMap, get, is_at}
use Rattle.std.specs.Map.{lookup, keys_of}
use Rattle.std.specs.List.{list_any}
use Rattle.std.proofs.lemmas.List.{map-append}
use Rattle.std.proofs.lemmas.Bool.Decides.{nat_tests}
use Rattle.std.proofs.lemmas.Map.Made.{is_member-Decides, is_some-lookup}
use Rattle.disk_model.specs.Held.{at_rest}
use Rattle.disk_model.specs.Listed.{HoldsFiles}
use Rattle.disk_model.specs.MemDisk.{IsFresh, file_of}
use Rattle.disk_model.specs.declared.mem_file.MemFile.{MemFile}

-- no entry was found here, nor behind
none_found : {X : Type 0} (b : Bool) (x : X) (o : Option X) → cond b (Some x) o ≡ None → (b ≡ false) × (o ≡ None)
none_found true x o is = absurd (cc)
none_found false x o is = (refl, is)

-- two tests of which one fails at most may change places
cond-swap : {X : Type 0} (b c : Bool) (x y : X) (o : Option X) → (b ≡ true → c ≡ false) → cond b (Some x) (cond c (Some y) o) ≡ cond c (Some y) (cond b (Some x) o)
cond-swap true true x y o apart = absurd (let e = apart refl in cc)
cond-swap true false x y o apart = refl
cond-swap false c x y o apart = refl

nat_eq-flip : (n k : ℕ) → nat_eq n k ≡ nat_eq k n
nat_eq-flip n k = grind (arith, nat_tests)

apart_from : (n k m : ℕ) → nat_eq k m ≡ false → nat_eq n m ≡ true → nat_eq k n ≡ false
apart_from n k m other same = grind (arith, nat_tests)

-- the entry that a number finds after one with a new number was added
pub lookup-push : {X : Type 0} (n k : ℕ) (v : X) (es : List (ℕ × X)) → lookup (nat_eq k) es ≡ None → lookup (nat_eq n) (es ++ (k, v) ∷ []) ≡ cond (nat_eq k n) (Some v) (lookup (nat_eq n) es)
lookup-push n k v [] absent = ap (λ b. cond b (Some v) None) (nat_eq-flip n k)
lookup-push n k v (e ∷ es) absent =
    let none = none_found (nat_eq k e.0) e.1 (lookup (nat_eq k) es) absent in
    ap (λ o. cond (nat_eq n e.0) (Some e.1) o) (lookup-push n k v es none.1)
    ∙ cond-swap (nat_eq n e.0) (nat_eq k n) e.1 v (lookup (nat_eq n) es) (apart_from n k e.0 none.0)

-- the numbers of a list with one entry more
pub keys_of-push : {X : Type 0} (k : ℕ) (v : X) (es : List (ℕ × X)) → keys_of (es ++ (k, v) ∷ []) ≡ keys_of es ++ k ∷ []
keys_of-push k v [] = refl
keys_of-push k v (e ∷ es) = ap (λ l. e.0 ∷ l) (keys_of-push k v es)

-- a number that finds no entry is none of the list's
pub list_any-absent : {X : Type 0} (k : ℕ) (es : List (ℕ × X)) → lookup (nat_eq k) es ≡ None → list_any (nat_eq k) (keys_of es) ≡ false
list_any-absent k [] absent = refl
list_any-absent k (e ∷ es) absent =
    let none = none_found (nat_eq k e.0) e.1 (lookup (nat_eq k) es) absent in
    ap (λ b. b || list_any (nat_eq k) (keys_of es)) none.0 ∙ list_any-absent k es none.1

none_from_map : {X Y : Type 0} (f : X → Y) (o : Option X) → option_map f o ≡ None → o ≡ None
none_from_map f None is = refl
none_from_map f (Some x) is = absurd (cc)

-- a test that found nothing
pub none_from_is_some : {X : Type 0} (o : Option X) → is_some o ≡ false → o ≡ None
none_from_is_some None is = refl
none_from_is_some (Some x) is = absurd (cc)

is_some-option_map : {X Y : Type 0} (f : X → Y) (o : Option X) → is_some (option_map f o) ≡ is_some o
is_some-option_map f None = refl
is_some-option_map f (Some x) = refl

-- the same choice among what is mapped
cond-mapped : {X Y Z : Type 0} (f : X → Z) (g : Y → Z) (b : Bool) (x : X) (y : Y) (o : Option X) (p : Option Y) → f x ≡ g y → option_map f o ≡ option_map g p → option_map f (cond b (Some x) o) ≡ option_map g (cond b (Some y) p)
cond-mapped f g true x y o p here others = ap Some here
cond-mapped f g false x y o p here others = others

-- where a list is parted, so are its numbers
pub keys_of-parts : {X : Type 0} (all front rest : List (ℕ × X)) (k : ℕ) (v : X) → all ≡ front ++ (k, v) ∷ rest → keys_of all ≡ keys_of front ++ k ∷ keys_of rest
keys_of-parts all front rest k v parts = ap keys_of parts ∙ map-append (λ (e : ℕ × _). e.0) front ((k, v) ∷ rest)

-- a number that a map of the listed files lacks finds no entry
pub absent_from_map : {A : Type 0} (files : List (ℕ × Vec ℕ A)) (made : BTreeMap ℕ MemFile) (k : ℕ) → HoldsFiles files (λ n. option_map file_of (get nat_cmp made n)) → get nat_cmp made k ≡ None → lookup (nat_eq k) files ≡ None
absent_from_map files made k holds absent = none_from_map (λ bytes. at_rest bytes.items) (lookup (nat_eq k) files) (sym (holds k) ∙ ap (option_map file_of) absent)

-- a number that a map of the listed files has is one of the list's
pub Contains_from_map : {A : Type 0} (files : List (ℕ × Vec ℕ A)) (made : BTreeMap ℕ MemFile) (k : ℕ) → HoldsFiles files (λ n. option_map file_of (get nat_cmp made n)) → is_some (get nat_cmp made k) ≡ true → Contains (keys_of files) k
Contains_from_map files made k holds there = (is_member-Decides unsigned_Decides (keys_of files) k).0
    (sym (is_some-lookup (nat_eq k) files) ∙ sym (is_some-option_map (λ bytes. at_rest bytes.items) (lookup (nat_eq k) files)) ∙ sym (ap is_some (holds k)) ∙ is_some-option_map file_of (get nat_cmp made k) ∙ there)

-- a map of the listed files and one more
pub HoldsFiles-push : {A : Type 0} (files : List (ℕ × Vec ℕ A)) (k : ℕ) (bytes : Vec ℕ A) (file : MemFile) (made new : BTreeMap ℕ MemFile) → file_of file ≡ at_rest bytes.items → get nat_cmp made k ≡ None
    → ((n : ℕ) → get nat_cmp new n ≡ cond (is_at (nat_cmp k) n) (Some file) (get nat_cmp made n)) → HoldsFiles files (λ n. option_map file_of (get nat_cmp made n)) → HoldsFiles (files ++ (k, bytes) ∷ []) (λ n. option_map file_of (get nat_cmp new n))
HoldsFiles-push files k bytes file made new is absent updates holds = λ n.
    ap (option_map file_of) (updates n ∙ ap (λ b. cond b (Some file) (get nat_cmp made n)) (unsigned_tied k n))
    ∙ cond-mapped file_of (λ bytes. at_rest bytes.items) (nat_eq k n) file bytes (get nat_cmp made n) (lookup (nat_eq n) files) is (holds n)
    ∙ ap (option_map (λ bytes. at_rest bytes.items)) (sym (lookup-push n k bytes files (absent_from_map files made k holds absent)))

fresh-cond : (b : Bool) (file : MemFile) (o : Option MemFile) → IsFresh file → IfSome o IsFresh → IfSome (cond b (Some file) o) IsFresh
fresh-cond true file o is others = is
fresh-cond false file o is others = others

-- one file more that is fresh
pub fresh-push : (k : ℕ) (file : MemFile) (made new : BTreeMap ℕ MemFile) → IsFresh file → ((n : ℕ) → get nat_cmp new n ≡ cond (is_at (nat_cmp k) n) (Some file) (get nat_cmp made n))
    → ((n : ℕ) → IfSome (get nat_cmp made n) IsFresh) → (n : ℕ) → IfSome (get nat_cmp new n) IsFresh
fresh-push k file made new is updates others n = subst (λ o. IfSome o IsFresh) (sym (updates n)) (fresh-cond (is_at (nat_cmp k) n) file (get nat_cmp made n) is (others n))

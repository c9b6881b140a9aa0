-- What a restart does to a memory disk's files.
use Rattle.std.proofs.Common.{◌≡◌, ℕ, Bool, true, false, cond, List, [], ◌∷◌, refl, sym, ap, subst, ◌∙◌}
use Rattle.std.specs.Prelude.{Option, Some, None, IfSome}
use Rattle.std.specs.Option.{option_map}
use Rattle.std.specs.Map.{lookup}
use Rattle.std.specs.Map.Calls.{RetainsPairs}
use Rattle.disk_model.specs.Held.{File, IsSound, LeavesFile, LeavesAt, synced}
use Rattle.disk_model.specs.MemDisk.{IsFresh, file_of}
use Rattle.disk_model.specs.declared.mem_file.MemFile.{MemFile}

-- a file leaves what it is once it is synced
pub leaves_synced : (file : File) → IsSound file → LeavesFile file (synced file)
leaves_synced file is = record { same = λ i lt safe. refl; no_shorter = is.synced; no_longer = is.short; settled = λ i. refl; synced = refl }

-- where each file of a map became one of its images, each number has an image
pub leaves_retained : {F : Type 0} (T : F → ℕ → MemFile → Bool → MemFile → F → Type 0) → ((f : F) (k : ℕ) (v : MemFile) (b : Bool) (w : MemFile) (f' : F) → T f k v b w f' → (b ≡ true) × LeavesFile (file_of v) (file_of w))
    → (test : ℕ → Bool) (f : F) (es kept : List (ℕ × MemFile)) → RetainsPairs T f es kept → LeavesAt (option_map file_of (lookup test es)) (option_map file_of (lookup test kept))
leaves_retained T each test f [] kept is = subst (λ l. LeavesAt None (option_map file_of (lookup test l))) (sym is) tt
leaves_retained T each test f (e ∷ es) kept is =
    let (b, w, f', rest, call, others, kept_is) = is in
    let done = each f e.0 e.1 b w f' call in
    let kept_are : kept ≡ (e.0, w) ∷ rest = kept_is ∙ ap (λ c. cond c ((e.0, w) ∷ rest) rest) done.0 in
    subst (λ l. LeavesAt (option_map file_of (lookup test (e ∷ es))) (option_map file_of (lookup test l))) (sym kept_are)
    (here e.1 w (test e.0) (lookup test es) (lookup test rest) done.1 (leaves_retained T each test f' es rest others))
  where
    here : (v w : MemFile) (t : Bool) (o o' : Option MemFile) → LeavesFile (file_of v) (file_of w) → LeavesAt (option_map file_of o) (option_map file_of o') → LeavesAt (option_map file_of (cond t (Some v) o)) (option_map file_of (cond t (Some w) o'))
    here v w true o o' is others = is
    here v w false o o' is others = others

-- where each file of a map was synced, each number has the synced file
pub synced_retained : {F : Type 0} (T : F → ℕ → MemFile → Bool → MemFile → F → Type 0) → ((f : F) (k : ℕ) (v : MemFile) (b : Bool) (w : MemFile) (f' : F) → T f k v b w f' → (b ≡ true) × (file_of w ≡ synced (file_of v)))
    → (test : ℕ → Bool) (f : F) (es kept : List (ℕ × MemFile)) → RetainsPairs T f es kept → option_map file_of (lookup test kept) ≡ option_map synced (option_map file_of (lookup test es))
synced_retained T each test f [] kept is = subst (λ l. option_map file_of (lookup test l) ≡ None) (sym is) refl
synced_retained T each test f (e ∷ es) kept is =
    let (b, w, f', rest, call, others, kept_is) = is in
    let done = each f e.0 e.1 b w f' call in
    let kept_are : kept ≡ (e.0, w) ∷ rest = kept_is ∙ ap (λ c. cond c ((e.0, w) ∷ rest) rest) done.0 in
    subst (λ l. option_map file_of (lookup test l) ≡ option_map synced (option_map file_of (lookup test (e ∷ es)))) (sym kept_are)
    (here e.1 w (test e.0) (lookup test es) (lookup test rest) done.1 (synced_retained T each test f' es rest others))
  where
    here : (v w : MemFile) (t : Bool) (o o' : Option MemFile) → file_of w ≡ synced (file_of v) → option_map file_of o' ≡ option_map synced (option_map file_of o) → option_map file_of (cond t (Some w) o') ≡ option_map synced (option_map file_of (cond t (Some v) o))
    here v w true o o' is others = ap Some is
    here v w false o o' is others = others

-- where each file of a map became fresh, each number has a fresh file, if it has one
pub fresh_retained : {F : Type 0} (T : F → ℕ → MemFile → Bool → MemFile → F → Type 0) → ((f : F) (k : ℕ) (v : MemFile) (b : Bool) (w : MemFile) (f' : F) → T f k v b w f' → IsFresh w)
    → (test : ℕ → Bool) (f : F) (es kept : List (ℕ × MemFile)) → RetainsPairs T f es kept → IfSome (lookup test kept) IsFresh
fresh_retained T each test f [] kept is = subst (λ l. IfSome (lookup test l) IsFresh) (sym is) tt
fresh_retained T each test f (e ∷ es) kept is =
    let (b, w, f', rest, call, others, kept_is) = is in
    subst (λ l. IfSome (lookup test l) IsFresh) (sym kept_is) (here b w rest (each f e.0 e.1 b w f' call) (fresh_retained T each test f' es rest others))
  where
    either : (t : Bool) (w : MemFile) (o : Option MemFile) → IsFresh w → IfSome o IsFresh → IfSome (cond t (Some w) o) IsFresh
    either true w o is others = is
    either false w o is others = others

    here : (b : Bool) (w : MemFile) (rest : List (ℕ × MemFile)) → IsFresh w → IfSome (lookup test rest) IsFresh → IfSome (lookup test (cond b ((e.0, w) ∷ rest) rest)) IsFresh
    here true w rest is others = either (test e.0) w (lookup test rest) is others
    here false w rest is others = others

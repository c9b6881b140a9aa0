-- Contents of which one block after the other gets what a map says.
use Rattle.std.specs.Prelude.{Some, slice_get, Result, Ok, Err, IfErr}
use Rattle.std.proofs.Common.{zero, suc, ◌≡◌, ◌⊎◌, inr, ◌++◌, ℕ, List, [], ◌∷◌, length, refl, sym, ap, subst, ◌∙◌, ⊎_elim}
use Rattle.disk_model.specs.Held.{Held}
use Rattle.tmf_model.specs.Place.{block_of}
use Rattle.tmf_model.specs.RecordMap.{RecordMap}
use Rattle.keyed_file.specs.Block.{KeyedBlock, value_at}
use Rattle.keyed_file.specs.Volume.{Contents, blocks_of}
use Rattle.block_cache.specs.Blocks.{SameLabel, View}
use Rattle.block_cache.specs.Rewrite.{AreMixed, EveryShows, IsContentOf, ShowsEither}

pub slice-front : {X : Type 0} (xs ys : List X) (n : ℕ) (x : X) → slice_get xs n ≡ Some x → slice_get (xs ++ ys) n ≡ Some x
slice-front [] ys n x is = absurd (cc)
slice-front (y ∷ xs) ys zero x is = is
slice-front (y ∷ xs) ys (suc n) x is = slice-front xs ys n x is

pub slice-last : {X : Type 0} (xs : List X) (x : X) → slice_get (xs ++ x ∷ []) (length xs) ≡ Some x
slice-last [] x = refl
slice-last (y ∷ xs) x = slice-last xs x

pub then-same : {D : Type 0} (a b c : View D) → SameLabel a b → SameLabel b c → SameLabel a c
then-same a b c ab bc = record { same = bc.same ∙ ab.same; slot = bc.slot ∙ ab.slot; phase = bc.phase ∙ ab.phase; low = bc.low ∙ ab.low }

pub self-same : {D : Type 0} (a : View D) → SameLabel a a
self-same a = record { same = refl; slot = refl; phase = refl; low = refl }

pub if-err : {T E : Type 0} {P : Type 0} (r : Result T E) → P → IfErr r (λ _. P)
if-err (Ok x) p = tt
if-err (Err e) p = p

-- one block of mixed contents with the map's content: they are mixed again
pub mixed-either : (files : List (ℕ × ℕ)) (was now shown : Contents) (map : RecordMap) (file number : ℕ) (content : KeyedBlock) → AreMixed files was map now → IsContentOf map file (blocks_of files file) number content
    → ShowsEither files now file number content shown → AreMixed files was map shown
mixed-either files was now shown map file number content mixed is either g n within =
    ⊎_elim
    (λ same. subst (λ b. (b ≡ was g n) ⊎ IsContentOf map g (blocks_of files g) n b) (sym same) (mixed g n within))
    (λ new. inr (λ key at. ap (λ b. value_at b key) new.2 ∙ is key (ap (λ f. block_of key (blocks_of files f)) (sym new.0) ∙ at ∙ new.1) ∙ ap (λ f. map f key) (sym new.0)))
    (either g n within)

pub shows-mixed : {D : Type 0} (held : D → Held) (view : View D) (files : List (ℕ × ℕ)) (was now : Contents) (map : RecordMap) (file number : ℕ) (content : KeyedBlock) → AreMixed files was map now
    → IsContentOf map file (blocks_of files file) number content → EveryShows held view (ShowsEither files now file number content) → EveryShows held view (AreMixed files was map)
shows-mixed held view files was now map file number content mixed is every image leaves =
    let one = every image leaves in (one.0, one.1, mixed-either files was now one.0 map file number content mixed is one.2)

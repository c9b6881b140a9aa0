-- The files of a memory disk on their way to their images.
use Rattle.std.proofs.Common.{zero, suc, ◌≡◌, ◌≢◌, ◌<◌, ◌≤◌, ◌+◌, ◌-◌, ℕ, Bool, refl, sym, ap, subst, ◌∙◌, ⊎_elim, arith}
use Rattle.std.specs.Prelude.{Option, Some, None, IfSome, IfNone}
use Rattle.std.specs.Option.{option_map, option_map_or}
use Rattle.std.specs.Ordering.{nat_cmp}
use Rattle.std.specs.BTreeMap.{BTreeMap, get}
use Rattle.std.proofs.lemmas.Bool.Decides.{leb_tells}
use Rattle.disk_model.specs.Held.{File, Held, LeavesFile}
use Rattle.disk_model.specs.Image.{AreImages, IsBehindAll, IsImage, number_after, next_number, risked_below, risked_in}
use Rattle.disk_model.specs.MemDisk.{IsFresh, earlier_at, earlier_of, file_of, held_in}
use Rattle.disk_model.specs.declared.mem_file.MemFile.{MemFile}

abbrev pub Files : Type 0
Files = BTreeMap ℕ MemFile

-- the file is fresh, and an image that was picked from x on
pub record IsPickedFile (cut : Bool) (x : ℕ) (old new : MemFile) : Type 0 where
  pub image : IsImage cut x (earlier_of old) (file_of old) (file_of new)
  pub leaves : LeavesFile (file_of old) (file_of new)
  pub fresh : IsFresh new

abbrev pub IsPickedAt : Bool → ℕ → Option MemFile → Option MemFile → Type 0
IsPickedAt cut x None None = Unit {0}
IsPickedAt cut x (Some old) (Some new) = IsPickedFile cut x old new
IsPickedAt cut x None (Some new) = ⊥
IsPickedAt cut x (Some old) None = ⊥

abbrev pub Behind : Option ℕ → ℕ → Type 0
Behind None n = Unit {0}
Behind (Some next) n = n < next

abbrev pub Ahead : Option ℕ → ℕ → Type 0
Ahead None n = ⊥
Ahead (Some next) n = next ≤ n

abbrev pub NumberAt : ℕ → Held → Option ℕ → ℕ → Type 0
NumberAt x held None y = IsBehindAll x held y
NumberAt x held (Some next) y = y ≡ number_after x (risked_below held next)

-- the files before the next one are images that were picked from x on, the others are as they were, and y is the number behind those of the first
pub record IsPickedUpTo (cut : Bool) (x : ℕ) (old new : Files) (next : Option ℕ) (y : ℕ) : Type 0 where
  pub done : (n : ℕ) → Behind next n → IsPickedAt cut (number_after x (risked_below (held_in old) n)) (get nat_cmp old n) (get nat_cmp new n)
  pub rest : (n : ℕ) → Ahead next n → get nat_cmp new n ≡ get nat_cmp old n
  pub number : NumberAt x (held_in old) next y

-- how many numbers of files are left from the next one on
abbrev pub left_from : Option ℕ → ℕ
left_from None = 0
left_from (Some next) = 4294967296 - next

-- no file is there from a number up to the next one
abbrev pub NoneTo : Files → ℕ → Option ℕ → Type 0
NoneTo files from None = (n : ℕ) → from ≤ n → get nat_cmp files n ≡ None
NoneTo files from (Some next) = (from ≤ next) × ((n : ℕ) → from ≤ n → n < next → get nat_cmp files n ≡ None)

none-risked : (held : Held) (n : ℕ) → held n ≡ None → risked_below held (suc n) ≡ risked_below held n
none-risked held n none = ap (λ o. risked_below held n + risked_in o) none ∙ omega arith

-- files that are not there have no bytes at risk
none-between : (held : Held) (from more : ℕ) → ((n : ℕ) → from ≤ n → n < from + more → held n ≡ None) → risked_below held (from + more) ≡ risked_below held from
none-between held from zero none = ap (risked_below held) (omega arith)
none-between held from (suc more) none =
    let one : from + suc more ≡ suc (from + more) = omega arith in
    ap (risked_below held) one
    ∙ none-risked held (from + more) (none (from + more) (omega arith) (omega arith))
    ∙ none-between held from more (λ n low high. none n low (omega (arith, high)))

none-to : (held : Held) (from to : ℕ) → from ≤ to → ((n : ℕ) → from ≤ n → n < to → held n ≡ None) → risked_below held to ≡ risked_below held from
none-to held from to le none =
    let one : from + (to - from) ≡ to = omega (arith, le) in
    ap (risked_below held) (sym one) ∙ none-between held from (to - from) (λ n low high. none n low (omega (arith, high, le)))

behind-all : (x : ℕ) (held : Held) (from y : ℕ) → y ≡ number_after x (risked_below held from) → ((n : ℕ) → from ≤ n → held n ≡ None) → IsBehindAll x held y
behind-all x held from y is none = λ last past.
    is ∙ ap (number_after x) (⊎_elim
    (λ le. sym (none-to held from last le.1 (λ n low high. none n low)))
    (λ gt. none-to held last from (omega (arith, gt.1)) (λ n low high. past n low))
    (leb_tells from last))

held-none : (files : Files) (n : ℕ) → get nat_cmp files n ≡ None → held_in files n ≡ None
held-none files n none = ap (option_map file_of) none

none-picked : (cut : Bool) (x : ℕ) (old new : Option MemFile) → old ≡ None → new ≡ old → IsPickedAt cut x old new
none-picked cut x old new none same = subst (λ o. IsPickedAt cut x o new) (sym none) (subst (λ o. IsPickedAt cut x None o) (sym (same ∙ none)) tt)

module _ (cut : Bool) (x : ℕ) (old new : Files) (from y : ℕ)
    (done : (n : ℕ) → n < from → IsPickedAt cut (number_after x (risked_below (held_in old) n)) (get nat_cmp old n) (get nat_cmp new n))
    (rest : (n : ℕ) → from ≤ n → get nat_cmp new n ≡ get nat_cmp old n) (number : y ≡ number_after x (risked_below (held_in old) from)) where
  -- from a number on to the next file
  pub to-next : (next : Option ℕ) → NoneTo old from next → IsPickedUpTo cut x old new next y
  to-next None none = record {
    done = λ n b. ⊎_elim (λ le. none-picked cut _ _ _ (none n le.1) (rest n le.1)) (λ lt. done n lt.1) (leb_tells from n);
    rest = λ n a. absurd a;
    number = behind-all x (held_in old) from y number (λ n le. held-none old n (none n le));
  }
  to-next (Some next) none = record {
    done = λ n b. ⊎_elim (λ le. none-picked cut _ _ _ (none.1 n le.1 b) (rest n le.1)) (λ lt. done n lt.1) (leb_tells from n);
    rest = λ n a. rest n (let low = none.0 in omega (arith, low, a));
    number = number ∙ ap (number_after x) (sym (none-to (held_in old) from next none.0 (λ n low high. held-none old n (none.1 n low high))));
  }

numbers-more : (x a b : ℕ) → number_after (number_after x a) b ≡ number_after x (a + b)
numbers-more x a zero = ap (number_after x) (omega arith)
numbers-more x a (suc b) = ap next_number (numbers-more x a b) ∙ ap (number_after x) (let one : suc (a + b) ≡ a + suc b = omega arith in one)

-- the number behind a file's
number-step : (x k y z : ℕ) (held : Held) → y ≡ number_after x (risked_below held k) → z ≡ number_after y (risked_in (held k)) → z ≡ number_after x (risked_below held (suc k))
number-step x k y z held before after = after ∙ ap (λ w. number_after w (risked_in (held k))) before ∙ numbers-more x (risked_below held k) (risked_in (held k))

-- the next file has become its image, or is not there
pub picked-one : (cut : Bool) (x : ℕ) (old mid new : Files) (k y z : ℕ) (next : Option ℕ) → IsPickedUpTo cut x old mid (Some k) y
    → ((n : ℕ) → n ≢ k → get nat_cmp new n ≡ get nat_cmp mid n) → IsPickedAt cut y (get nat_cmp mid k) (get nat_cmp new k) → z ≡ number_after y (risked_in (held_in mid k))
    → NoneTo new (suc k) next → IsPickedUpTo cut x old new next z
picked-one cut x old mid new k y z next is others here moved none =
    let mid_is : get nat_cmp mid k ≡ get nat_cmp old k = is.rest k (omega arith) in
    let picked : IsPickedAt cut (number_after x (risked_below (held_in old) k)) (get nat_cmp old k) (get nat_cmp new k) =
    subst (λ w. IsPickedAt cut w (get nat_cmp old k) (get nat_cmp new k)) is.number (subst (λ o. IsPickedAt cut y o (get nat_cmp new k)) mid_is here) in
    let behind : (n : ℕ) → suc k ≤ n → get nat_cmp new n ≡ get nat_cmp old n = λ n le. others n (λ e. omega (arith, le, e)) ∙ is.rest n (omega (arith, le)) in
    to-next cut x old new (suc k) z
    (λ n lt. ⊎_elim
    (λ le. let e : k ≡ n = omega (arith, lt, le.1) in subst (λ m. IsPickedAt cut (number_after x (risked_below (held_in old) m)) (get nat_cmp old m) (get nat_cmp new m)) e picked)
    (λ less. subst (λ o. IsPickedAt cut (number_after x (risked_below (held_in old) n)) (get nat_cmp old n) o) (sym (others n (λ e. let under = less.1 in omega (arith, under, e)))) (is.done n less.1))
    (leb_tells k n))
    behind
    (number-step x k y z (held_in old) is.number (moved ∙ ap (λ o. number_after y (risked_in (option_map file_of o))) mid_is))
    next (old-none next none)
  where
    old-none : (o : Option ℕ) → NoneTo new (suc k) o → NoneTo old (suc k) o
    old-none None none = λ n le. sym (others n (λ e. omega (arith, le, e)) ∙ is.rest n (omega (arith, le))) ∙ none n le
    old-none (Some m) none = (none.0, λ n le less. sym (others n (λ e. omega (arith, le, e)) ∙ is.rest n (omega (arith, le))) ∙ none.1 n le less)

pub none-first : (files : Files) (o : Option ℕ) → IfNone o ((n : ℕ) → get nat_cmp files n ≡ None) → IfSome o (λ next. (n : ℕ) → n < next → get nat_cmp files n ≡ None) → NoneTo files 0 o
none-first files None none first = λ n le. none n
none-first files (Some next) none first = (omega arith, λ n le less. first n less)

pub none-behind : (files : Files) (k : ℕ) (o : Option ℕ) → IfNone o ((n : ℕ) → k < n → get nat_cmp files n ≡ None) → IfSome o (λ next. k < next)
    → IfSome o (λ next. (n : ℕ) → k < n → n < next → get nat_cmp files n ≡ None) → NoneTo files (suc k) o
none-behind files k None none behind next = λ n le. none n (omega (arith, le))
none-behind files k (Some m) none behind next = (omega (arith, behind), λ n le less. next n (omega (arith, le)) less)

pub picked-first : (cut : Bool) (x : ℕ) (files : Files) (next : Option ℕ) → NoneTo files 0 next → IsPickedUpTo cut x files files next x
picked-first cut x files next none = to-next cut x files files 0 x (λ n lt. absurd (omega (arith, lt))) (λ n le. refl) refl next none

pub picked-there : (cut : Bool) (x : ℕ) (old mid new : Files) (k y z : ℕ) (next : Option ℕ) (f f' : MemFile) → IsPickedUpTo cut x old mid (Some k) y
    → ((n : ℕ) → n ≢ k → get nat_cmp new n ≡ get nat_cmp mid n) → get nat_cmp mid k ≡ Some f → get nat_cmp new k ≡ Some f' → IsPickedFile cut y f f'
    → z ≡ number_after y (risked_in (Some (file_of f))) → NoneTo new (suc k) next → IsPickedUpTo cut x old new next z
picked-there cut x old mid new k y z next f f' is others was now one moved none =
    picked-one cut x old mid new k y z next is others
    (subst (λ o. IsPickedAt cut y o (get nat_cmp new k)) (sym was) (subst (λ o. IsPickedAt cut y (Some f) o) (sym now) one))
    (moved ∙ ap (λ o. number_after y (risked_in (option_map file_of o))) (sym was)) none

pub picked-absent : (cut : Bool) (x : ℕ) (old mid new : Files) (k y z : ℕ) (next : Option ℕ) → IsPickedUpTo cut x old mid (Some k) y
    → ((n : ℕ) → get nat_cmp new n ≡ get nat_cmp mid n) → get nat_cmp mid k ≡ None → z ≡ y → NoneTo new (suc k) next → IsPickedUpTo cut x old new next z
picked-absent cut x old mid new k y z next is same absent stays none =
    picked-one cut x old mid new k y z next is (λ n other. same n) (none-picked cut y (get nat_cmp mid k) (get nat_cmp new k) absent (same k))
    (stays ∙ ap (λ o. number_after y (risked_in (option_map file_of o))) (sym absent)) none

-- where all is done, each file has become its image
pub all-picked : (cut : Bool) (x : ℕ) (old new : Files) (y : ℕ) → IsPickedUpTo cut x old new None y → AreImages cut x (earlier_at old) (held_in old) (held_in new)
all-picked cut x old new y is = λ n file image was now. by n (get nat_cmp old n) (get nat_cmp new n) refl refl (is.done n tt) file image was now
  where
    by : (n : ℕ) (o p : Option MemFile) → get nat_cmp old n ≡ o → get nat_cmp new n ≡ p → IsPickedAt cut (number_after x (risked_below (held_in old) n)) (get nat_cmp old n) (get nat_cmp new n)
        → (file image : File) → held_in old n ≡ Some file → held_in new n ≡ Some image → IsImage cut (number_after x (risked_below (held_in old) n)) (earlier_at old n) file image
    by n None p o_is p_is at file image was now = absurd (let none : None ≡ Some file = sym (ap (option_map file_of) o_is) ∙ was in cc)
    by n (Some f) None o_is p_is at file image was now = absurd (let none : None ≡ Some image = sym (ap (option_map file_of) p_is) ∙ now in cc)
    by n (Some f) (Some g) o_is p_is at file image was now =
        let there = subst (λ o. IsPickedAt cut (number_after x (risked_below (held_in old) n)) o (Some g)) o_is (subst (λ o. IsPickedAt cut (number_after x (risked_below (held_in old) n)) (get nat_cmp old n) o) p_is at) in
        let file_is : file_of f ≡ file = let both : Some (file_of f) ≡ Some file = sym (ap (option_map file_of) o_is) ∙ was in cc in
        let image_is : file_of g ≡ image = let both : Some (file_of g) ≡ Some image = sym (ap (option_map file_of) p_is) ∙ now in cc in
        let one = subst (λ h. IsImage cut (number_after x (risked_below (held_in old) n)) (earlier_of f) h (file_of g)) file_is there.image in
        let two = subst (λ h. IsImage cut (number_after x (risked_below (held_in old) n)) (earlier_of f) file h) image_is one in
        subst (λ o. IsImage cut (number_after x (risked_below (held_in old) n)) (option_map_or earlier_of o (λ i. 0)) file image) (sym o_is) two

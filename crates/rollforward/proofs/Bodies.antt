-- A dump's body that is read block by block.
use Rattle.std.specs.Prelude.{slice_get, IsSome}
use Rattle.std.proofs.Common.{zero, suc, ◌≡◌, ◌⊎◌, inl, inr, ℕ, ◌+◌, ◌*◌, ◌<◌, ◌≤◌, true, List, [], ◌∷◌, ◌++◌, length, Option, None, Some, refl, sym, ap, subst, ◌∙◌, arith, length-append}
use Rattle.disk_model.specs.Held.{File}
use Rattle.keyed_file.specs.declared.block.TheConstants.{BLOCK_BYTES}
use Rattle.keyed_file.specs.declared.home.Home.{Home}
use Rattle.keyed_file.specs.Block.{KeyedBlock, IsBlock}
use Rattle.keyed_file.specs.BlockFormat.{block_text, is_at_home}
use Rattle.keyed_file.specs.Layout.{IsSpelledAt}
use Rattle.block_cache.proofs.Caches.{same_or_other}
use Rattle.volume_restore.specs.declared.fault.VolumeFault.{VolumeFault}
use Rattle.volume_restore.specs.declared.fault.VolumeFault.TheVariants.{Failed, Damaged, NoMemory}
use Rattle.rollforward.specs.Body.{AreInPlace, AreSpelled, AreSpelledIn, IsFirstIn, IsFirstInRow, IsReadFrom, TellsAbsent, TellsFrom, TellsRow, bad_from, bytes_in}
use Rattle.rollforward.proofs.HomeRows.{get_split}

-- the blocks of the first places
pub record ArePlacedTo (homes : List Home) (index : ℕ) (blocks : List KeyedBlock) : Type 0 where
  pub many : length blocks ≡ index
  pub each : (n : ℕ) (home : Home) (block : KeyedBlock) → slice_get homes n ≡ Some home → slice_get blocks n ≡ Some block → IsBlock block × (is_at_home (Some home) block ≡ true)

-- they are spelled one behind the other, and nothing is wrong there
pub record AreReadTo (homes : List Home) (index : ℕ) (bytes : List ℕ) (blocks : List KeyedBlock) : Type 0 where
  pub long : index * BLOCK_BYTES ≤ length bytes
  pub spelled : (n : ℕ) (block : KeyedBlock) → slice_get blocks n ≡ Some block → IsSpelledAt bytes (n * BLOCK_BYTES) (block_text block)
  pub fine : (n : ℕ) (home : Home) → n < index → slice_get homes n ≡ Some home → bad_from home (n * BLOCK_BYTES) bytes ≡ None

pub placed_none : (homes : List Home) → ArePlacedTo homes 0 []
placed_none homes = record { many = refl; each = λ n home block at is. absurd (cc) }

pub read_none : (homes : List Home) (bytes : List ℕ) → AreReadTo homes 0 bytes []
read_none homes bytes = record { long = omega arith; spelled = λ n block at. absurd (cc); fine = λ n home below at. absurd (omega (arith, below)) }

some_is : {X : Type 0} (a b : X) → Some a ≡ Some b → a ≡ b
some_is a b e = cc

-- a block that was put behind others is the last
last_is : {X : Type 0} (xs : List X) (x y : X) (n : ℕ) → slice_get (xs ++ x ∷ []) n ≡ Some y → (slice_get xs n ≡ Some y) ⊎ ((n ≡ length xs) × (x ≡ y))
last_is {X} xs x y n at = elim (get_split xs (x ∷ []) n y at) [
  | inl here ↦ inl here
  | inr there ↦ one there.0 there.1 there.2
]
  where
    one : (m : ℕ) → n ≡ length xs + m → slice_get (x ∷ []) m ≡ Some y → (slice_get xs n ≡ Some y) ⊎ ((n ≡ length xs) × (x ≡ y))
    one zero is same = inr (omega (arith, is), some_is x y same)
    one (suc m) is none = absurd (cc)

pub placed_more : (homes : List Home) (index : ℕ) (blocks : List KeyedBlock) (home : Home) (block : KeyedBlock) → slice_get homes index ≡ Some home → IsBlock block × (is_at_home (Some home) block ≡ true)
    → ArePlacedTo homes index blocks → ArePlacedTo homes (index + 1) (blocks ++ block ∷ [])
placed_more homes index blocks home block at valid was = record {
  many = let more = length-append blocks (block ∷ []) in omega (arith, more, was.many);
  each = λ n other held there is. elim (last_is blocks block held n is) [
    | inl before ↦ was.each n other held there before
    | inr last ↦
        let same : home ≡ other = some_is home other (sym at ∙ ap (slice_get homes) (sym was.many ∙ sym last.0) ∙ there) in
        subst (λ (h : Home). IsBlock held × (is_at_home (Some h) held ≡ true)) same (subst (λ (b : KeyedBlock). IsBlock b × (is_at_home (Some home) b ≡ true)) last.1 valid)
  ];
}

pub read_more : (homes : List Home) (index at : ℕ) (bytes : List ℕ) (blocks : List KeyedBlock) (home : Home) (block : KeyedBlock) → slice_get homes index ≡ Some home → at ≡ index * BLOCK_BYTES → length blocks ≡ index
    → IsReadFrom home at bytes block → AreReadTo homes index bytes blocks → AreReadTo homes (index + 1) bytes (blocks ++ block ∷ [])
read_more homes index at bytes blocks home block is place many read was = record {
  long = omega (arith, read.long, place);
  spelled = λ n held there. elim (last_is blocks block held n there) [
    | inl before ↦ was.spelled n held before
    | inr last ↦ subst (λ (b : KeyedBlock). IsSpelledAt bytes (n * BLOCK_BYTES) (block_text b)) last.1 (subst (λ (a : ℕ). IsSpelledAt bytes a (block_text block)) (place ∙ ap (λ (k : ℕ). k * BLOCK_BYTES) (sym many ∙ sym last.0)) read.spelled)
  ];
  fine = λ n other below there. elim (same_or_other n index) [
    | inl e ↦
        let same : home ≡ other = some_is home other (sym is ∙ ap (slice_get homes) (sym e) ∙ there) in
        subst (λ (h : Home). bad_from h (n * BLOCK_BYTES) bytes ≡ None) same (subst (λ (a : ℕ). bad_from home a bytes ≡ None) (place ∙ ap (λ (k : ℕ). k * BLOCK_BYTES) (sym e)) read.fine)
    | inr apart ↦ was.fine n other (omega (arith, below, apart)) there
  ];
}

pub placed_all : (homes : List Home) (index : ℕ) (blocks : List KeyedBlock) → index ≡ length homes → ArePlacedTo homes index blocks → AreInPlace homes blocks
placed_all homes index blocks all was = record { many = was.many ∙ all; each = was.each }

-- what is said of the bytes of a file that is there
pub there-is : (held : Option File) (P : List ℕ → Type 0) → IsSome held → P (bytes_in held) → (file : File) × (held ≡ Some file) × P file.bytes
there-is None P some is = absurd (cc)
there-is (Some file) P some is = (file, refl, is)

pub read_all : (homes : List Home) (index : ℕ) (held : Option File) (blocks : List KeyedBlock) → IsSome held → index ≡ length homes → AreReadTo homes index (bytes_in held) blocks → AreSpelledIn homes held blocks
read_all homes index held blocks some all was =
    there-is held (λ bytes. AreSpelled homes bytes blocks) some (record { long = subst (λ (n : ℕ). n * BLOCK_BYTES ≤ length (bytes_in held)) all was.long; each = was.spelled })

-- the first damage of a row, where those before have none
pub row-fault : (file : ℕ) (homes : List Home) (held : Option File) (index at : ℕ) (home : Home) (blocks : List KeyedBlock) (e : VolumeFault) → slice_get homes index ≡ Some home → at ≡ index * BLOCK_BYTES → IsSome held
    → AreReadTo homes index (bytes_in held) blocks → TellsFrom file home at (bytes_in held) e → TellsRow file homes held e
row-fault file homes held index at home blocks Failed is place some was tells = tt
row-fault file homes held index at home blocks (Damaged damage) is place some was tells = (
  tells.0,
  tells.1,
  here held some (record {
    index = index;
    home = home;
    is = is;
    before = was.fine;
    here = subst (λ (a : ℕ). bad_from home a (bytes_in held) ≡ Some damage.at) place tells.2;
  }),
)
  where
    here : (o : Option File) → IsSome o → IsFirstInRow homes (bytes_in o) damage.at → IsFirstIn (IsFirstInRow homes) o damage.at
    here None none first = absurd (cc)
    here (Some f) there first = first
row-fault file homes held index at home blocks NoMemory is place some was tells = tt

-- a file that is not there
pub absent-fault : (file : ℕ) (homes : List Home) (held : Option File) (e : VolumeFault) → TellsAbsent file held e → TellsRow file homes held e
absent-fault file homes held Failed tells = tt
absent-fault file homes held (Damaged damage) tells = (tells.0, tells.1, subst (λ (o : Option File). IsFirstIn (IsFirstInRow homes) o damage.at) (sym tells.3) tells.2)
absent-fault file homes held NoMemory tells = tt

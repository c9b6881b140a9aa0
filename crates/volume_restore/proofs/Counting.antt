-- How many blocks a file has on a volume, by the line of its number.
use Rattle.std.proofs.Common.{◌≡◌, ◌≢◌, ℕ, zero, suc, ◌+◌, ◌<◌, ◌≤◌, Bool, true, false, cond, List, [], ◌∷◌, length, refl, sym, ap, subst, ◌∙◌, arith}
use Rattle.std.specs.Prelude.{Option, None, Some, All, ◌==◌, if◌then◌else◌, nat_eq, slice_get, unwrap_or}
use Rattle.std.specs.Map.{lookup}
use Rattle.std.specs.List.{AllByRecursion}
use Rattle.std.proofs.lemmas.Bool.Decides.{nat_tests}
use Rattle.std.proofs.lemmas.List.Elements.{recursion_from_All}
use Rattle.std.proofs.lemmas.Option.{slice_get_past}
use Rattle.tmf_model.specs.Config.{IsWithin}
use Rattle.tmf_model.specs.Commits.{numbered}
use Rattle.tmf_model.specs.declared.config.FileLine.{FileLine}
use Rattle.keyed_file.specs.Volume.{blocks_of, files_on}

-- the blocks of a file with this line
abbrev pub on_line : ℕ → Option FileLine → ℕ
on_line volume None = 0
on_line volume (Some line) = if line.volume == volume then line.blocks else 0

other_key : (file start : ℕ) → file < start → nat_eq file start ≡ false
other_key file start lt = grind (arith, nat_tests)

later_key : (start at : ℕ) → nat_eq (start + suc at) start ≡ false
later_key start at = grind (arith, nat_tests)

own_key : (start : ℕ) → nat_eq (start + 0) start ≡ true
own_key start = grind (arith, nat_tests)

none-before : (volume start file : ℕ) (lines : List FileLine) → file < start → blocks_of (files_on volume start lines) file ≡ 0
none-before volume start file [] lt = refl
none-before volume start file (line ∷ lines) lt = elim (line.volume == volume) as (λ b. blocks_of (if b then (start, line.blocks) ∷ files_on volume (start + 1) lines else files_on volume (start + 1) lines) file ≡ 0) [
  | true ↦ ap (λ (t : Bool). unwrap_or (cond t (Some line.blocks) (lookup (nat_eq file) (files_on volume (start + 1) lines))) 0) (other_key file start lt) ∙ none-before volume (start + 1) file lines (omega (arith, lt))
  | false ↦ none-before volume (start + 1) file lines (omega (arith, lt))
]

by-place : (volume start : ℕ) (lines : List FileLine) (at : ℕ) → blocks_of (files_on volume start lines) (start + at) ≡ on_line volume (slice_get lines at)
by-place volume start [] zero = refl
by-place volume start [] (suc at) = refl
by-place volume start (line ∷ lines) zero = elim (line.volume == volume) as (λ b. blocks_of (if b then (start, line.blocks) ∷ files_on volume (start + 1) lines else files_on volume (start + 1) lines) (start + 0) ≡ (if b then line.blocks else 0)) [
  | true ↦ ap (λ (t : Bool). unwrap_or (cond t (Some line.blocks) (lookup (nat_eq (start + 0)) (files_on volume (start + 1) lines))) 0) (own_key start)
  | false ↦ none-before volume (start + 1) (start + 0) lines (omega arith)
]
by-place volume start (line ∷ lines) (suc at) =
    let same : start + suc at ≡ (start + 1) + at = omega arith in
    let rest : blocks_of (files_on volume (start + 1) lines) (start + suc at) ≡ on_line volume (slice_get lines at) = ap (blocks_of (files_on volume (start + 1) lines)) same ∙ by-place volume (start + 1) lines at in
    elim (line.volume == volume) as (λ b. blocks_of (if b then (start, line.blocks) ∷ files_on volume (start + 1) lines else files_on volume (start + 1) lines) (start + suc at) ≡ on_line volume (slice_get lines at)) [
      | true ↦ ap (λ (t : Bool). unwrap_or (cond t (Some line.blocks) (lookup (nat_eq (start + suc at)) (files_on volume (start + 1) lines))) 0) (later_key start at) ∙ rest
      | false ↦ rest
    ]

from-one : (volume : ℕ) (lines : List FileLine) (before : ℕ) → blocks_of (files_on volume 1 lines) (suc before) ≡ on_line volume (slice_get lines before)
from-one volume lines before = let same : suc before ≡ 1 + before = omega arith in ap (blocks_of (files_on volume 1 lines)) same ∙ by-place volume 1 lines before

pub by-line : (volume : ℕ) (lines : List FileLine) (file : ℕ) → blocks_of (files_on volume 1 lines) file ≡ on_line volume (numbered lines file)
by-line volume lines zero = none-before volume 1 0 lines (omega arith)
by-line volume lines (suc before) = from-one volume lines before

-- no file has the number 0
pub none-zero : (volume : ℕ) (lines : List FileLine) (file : ℕ) → file ≡ 0 → blocks_of (files_on volume 1 lines) file ≡ 0
none-zero volume lines file is = ap (blocks_of (files_on volume 1 lines)) is ∙ none-before volume 1 0 lines (omega arith)

past-lines : {X : Type 0} (lines : List X) (at : ℕ) → length lines ≤ at → slice_get lines at ≡ None
past-lines lines at le = slice_get_past lines at le

-- nor one above the number of lines
pub none-past : (volume : ℕ) (lines : List FileLine) (file : ℕ) → length lines < file → blocks_of (files_on volume 1 lines) file ≡ 0
none-past volume lines zero past = absurd (omega (arith, past))
none-past volume lines (suc before) past = from-one volume lines before ∙ ap (on_line volume) (past-lines lines before (omega (arith, past)))

few-line : (volume : ℕ) (line : FileLine) → line.blocks ≤ 256 → on_line volume (Some line) ≤ 256
few-line volume line few = elim (line.volume == volume) as (λ b. (if b then line.blocks else 0) ≤ 256) [ true ↦ few | false ↦ omega arith ]

few-at : (volume : ℕ) (lines : List FileLine) (at : ℕ) → All (λ line. IsWithin 1 256 line.blocks) lines → on_line volume (slice_get lines at) ≤ 256
few-at volume lines at each = each-at lines at (recursion_from_All _ lines each)
  where
    each-at : (lines : List FileLine) (at : ℕ) → AllByRecursion (λ line. IsWithin 1 256 line.blocks) lines → on_line volume (slice_get lines at) ≤ 256
    each-at [] at each = omega arith
    each-at (line ∷ lines) zero each = few-line volume line each.0.below
    each-at (line ∷ lines) (suc at) each = each-at lines at each.1

-- no file has more than 256 blocks
pub few-on : (volume : ℕ) (lines : List FileLine) (file : ℕ) → All (λ line. IsWithin 1 256 line.blocks) lines → blocks_of (files_on volume 1 lines) file ≤ 256
few-on volume lines zero each = omega (arith, none-zero volume lines 0 refl)
few-on volume lines (suc before) each = subst (λ n. n ≤ 256) (sym (from-one volume lines before)) (few-at volume lines before each)

-- the blocks of a file of the volume, and of another one
pub on-own : (volume : ℕ) (line : FileLine) → line.volume ≡ volume → on_line volume (Some line) ≡ line.blocks
on-own volume line is = ap (λ (b : Bool). if b then line.blocks else 0) (same line.volume volume is)
  where
    same : (a b : ℕ) → a ≡ b → a == b ≡ true
    same a b e = grind (arith, nat_tests)

pub on-other : (volume : ℕ) (line : FileLine) → line.volume ≢ volume → on_line volume (Some line) ≡ 0
on-other volume line not = ap (λ (b : Bool). if b then line.blocks else 0) (apart line.volume volume not)
  where
    apart : (a b : ℕ) → a ≢ b → a == b ≡ false
    apart a b e = grind (arith, nat_tests)

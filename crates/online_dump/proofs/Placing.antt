-- The block at a place.
use Rattle.std.specs.Prelude.{if◌then◌else◌}
use Rattle.std.proofs.Common.{◌≡◌, ◌≢◌, ℕ, suc, ◌+◌, ◌<◌, ◌==◌, Bool, true, false, List, [], ◌∷◌, ◌++◌, length, take, drop, get_or, cond, eq-eqb, refl, ap, sym, ◌∙◌, arith}
use Rattle.std.proofs.lemmas.Bool.{ne_eqb}
use Rattle.std.proofs.lemmas.List.{length-take, take-append-drop, take_more}
use Rattle.std.proofs.Math.Seq.{drop-cons}
use Rattle.tmf_model.specs.declared.config.FileLine.{FileLine}
use Rattle.keyed_file.specs.Dump.{blocks_before, blocks_in_all}
use Rattle.keyed_file.specs.Volume.{blocks_of, files_on}
use Rattle.online_dump.specs.Places.{StandsIn}
use Rattle.online_dump.proofs.Places.{head_before, head_blocks, rest_before, rest_blocks}

-- behind other lines a file of the volume stands behind all blocks of theirs
record IsBehind (v first file blocks : ℕ) (front all : List FileLine) : Type 0 where
  before : blocks_before (files_on v first all) file ≡ blocks_in_all (files_on v first front)
  many : blocks_of (files_on v first all) file ≡ blocks

behind : (v first : ℕ) (front : List FileLine) (line : FileLine) (more : List FileLine) (file : ℕ) → (line.volume == v) ≡ true → file ≡ first + length front → IsBehind v first file line.blocks front (front ++ line ∷ more)
behind v first [] line more file on is =
    let here : file ≡ first = omega (arith, is) in
    let rest = files_on v (first + 1) more in
    let shape : files_on v first (line ∷ more) ≡ (first, line.blocks) ∷ rest = ap (λ t. cond t ((first, line.blocks) ∷ rest) rest) on in
    record {
      before = ap (λ l. blocks_before l file) shape ∙ head_before (first, line.blocks) rest file here;
      many = ap (λ l. blocks_of l file) shape ∙ head_blocks (first, line.blocks) rest file here;
    }
behind v first (x ∷ front) line more file on is =
    let b = behind v (first + 1) front line more file on (omega (arith, is)) in
    let apart : file ≢ first = λ same. omega (arith, is, same) in
    let all = files_on v (first + 1) (front ++ line ∷ more) in
    let some = files_on v (first + 1) front in
    let before : blocks_before all file ≡ blocks_in_all some = b.before in
    let many : blocks_of all file ≡ line.blocks = b.many in
    let both : (t : Bool) → (blocks_before (cond t ((first, x.blocks) ∷ all) all) file ≡ blocks_in_all (cond t ((first, x.blocks) ∷ some) some)) × (blocks_of (cond t ((first, x.blocks) ∷ all) all) file ≡ line.blocks) =
    λ t. elim t as (λ u. (blocks_before (cond u ((first, x.blocks) ∷ all) all) file ≡ blocks_in_all (cond u ((first, x.blocks) ∷ some) some)) × (blocks_of (cond u ((first, x.blocks) ∷ all) all) file ≡ line.blocks)) [
      | true ↦ (rest_before (first, x.blocks) all file apart ∙ ap (λ n. x.blocks + n) before, rest_blocks (first, x.blocks) all file apart ∙ many)
      | false ↦ (before, many)
    ] in
    let one = both (x.volume == v) in
    record { before = one.0; many = one.1 }

-- one line more
all_more : (v first : ℕ) (front : List FileLine) (line : FileLine) → blocks_in_all (files_on v first (front ++ line ∷ [])) ≡ blocks_in_all (files_on v first front) + (if line.volume == v then line.blocks else 0)
all_more v first [] line = elim (line.volume == v) as (λ t. blocks_in_all (if t then (first, line.blocks) ∷ [] else []) ≡ 0 + (if t then line.blocks else 0)) [ true ↦ omega arith | false ↦ refl ]
all_more v first (x ∷ front) line =
    let rest = all_more v (first + 1) front line in
    elim (x.volume == v) as (λ t. blocks_in_all (if t then (first, x.blocks) ∷ files_on v (first + 1) (front ++ line ∷ []) else files_on v (first + 1) (front ++ line ∷ [])) ≡ blocks_in_all (if t then (first, x.blocks) ∷ files_on v (first + 1) front else files_on v (first + 1) front) + (if line.volume == v then line.blocks else 0)) [
      | true ↦ omega (arith, rest)
      | false ↦ rest
    ]

next_line : (lines : List FileLine) (i : ℕ) (line : FileLine) → i < length lines → line ≡ get_or lines i line → take (i + 1) lines ≡ take i lines ++ line ∷ []
next_line lines i line lt is = take_more lines i line lt ∙ ap (λ x. take i lines ++ x ∷ []) (sym is)

-- the line's file is on the volume
pub more_here : (v : ℕ) (lines : List FileLine) (i : ℕ) (line : FileLine) → i < length lines → line ≡ get_or lines i line → line.volume ≡ v
    → blocks_in_all (files_on v 1 (take (i + 1) lines)) ≡ blocks_in_all (files_on v 1 (take i lines)) + line.blocks
more_here v lines i line lt is here =
    ap (λ l. blocks_in_all (files_on v 1 l)) (next_line lines i line lt is)
    ∙ all_more v 1 (take i lines) line
    ∙ ap (λ t. blocks_in_all (files_on v 1 (take i lines)) + (if t then line.blocks else 0)) (eq-eqb line.volume v here)

-- and where it is not
pub more_else : (v : ℕ) (lines : List FileLine) (i : ℕ) (line : FileLine) → i < length lines → line ≡ get_or lines i line → line.volume ≢ v
    → blocks_in_all (files_on v 1 (take (i + 1) lines)) ≡ blocks_in_all (files_on v 1 (take i lines))
more_else v lines i line lt is apart =
    ap (λ l. blocks_in_all (files_on v 1 l)) (next_line lines i line lt is)
    ∙ all_more v 1 (take i lines) line
    ∙ ap (λ t. blocks_in_all (files_on v 1 (take i lines)) + (if t then line.blocks else 0)) (ne_eqb line.volume v apart)
    ∙ omega arith

pub stands_here : (v : ℕ) (lines : List FileLine) (i : ℕ) (line : FileLine) (place left : ℕ) → i < length lines → line ≡ get_or lines i line → line.volume ≡ v → left < line.blocks
    → blocks_in_all (files_on v 1 (take i lines)) + left ≡ place → StandsIn (files_on v 1 lines) place (i + 1) left
stands_here v lines i line place left lt is here less at =
    let parts : take i lines ++ line ∷ drop (suc i) lines ≡ lines = ap (λ l. take i lines ++ l) (ap (λ x. x ∷ drop (suc i) lines) is ∙ sym (drop-cons lines i line lt)) ∙ take-append-drop i lines in
    let b = behind v 1 (take i lines) line (drop (suc i) lines) (i + 1) (eq-eqb line.volume v here) (let long = length-take i lines in omega (arith, long, lt)) in
    let before = ap (λ l. blocks_before (files_on v 1 l) (i + 1)) (sym parts) ∙ b.before in
    let many = ap (λ l. blocks_of (files_on v 1 l) (i + 1)) (sym parts) ∙ b.many in
    record { within = omega (arith, many, less); at = omega (arith, before, at) }

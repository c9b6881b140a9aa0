-- What lies within a piece of a file.
use Rattle.std.specs.Prelude.{Option, Some, None}
use Rattle.std.proofs.Common.{rules, [], ◌≡◌, ◌∙◌, ◌+◌, ◌-◌, ◌≤◌, ℕ, List, take, drop, arith, ap, sym}
use Rattle.std.proofs.lemmas.List.{take-take, drop-drop, drop-take}
use Rattle.disk_model.specs.Held.{File, read_of}

-- a part of the front of a list is that part of the list
pub part_of_front : (xs : List ℕ) (len skip count : ℕ) → skip + count ≤ len → take count (drop skip (take len xs)) ≡ take count (drop skip xs)
part_of_front xs len skip count within =
    let rest = len - skip in
    let len_is : len ≡ skip + rest = omega (arith, within) in
    let few : count ≤ rest = omega (arith, within) in
    ap (λ n. take count (drop skip (take n xs))) len_is ∙ ap (take count) (drop-take skip rest xs) ∙ take-take count rest (drop skip xs) few

none_of_none : (skip count : ℕ) → take {A = ℕ} count (drop skip []) ≡ []
none_of_none skip count = search rules

-- a part of what was read of a file is a read of that part
pub part_of_read : (file : Option File) (at len skip count : ℕ) → skip + count ≤ len → take count (drop skip (read_of file at len)) ≡ read_of file (at + skip) count
part_of_read None at len skip count within = none_of_none skip count
part_of_read (Some f) at len skip count within =
    part_of_front (drop at f.bytes) len skip count within ∙ ap (take count) (drop-drop skip at f.bytes)

-- what the piece at the front of a buffer has is what a read gives
pub part_of_piece : (file : Option File) (buffer : List ℕ) (at len skip count : ℕ) → take len buffer ≡ read_of file at len → skip + count ≤ len → take count (drop skip buffer) ≡ read_of file (at + skip) count
part_of_piece file buffer at len skip count has within =
    sym (part_of_front buffer len skip count within) ∙ ap (λ l. take count (drop skip l)) has ∙ part_of_read file at len skip count within

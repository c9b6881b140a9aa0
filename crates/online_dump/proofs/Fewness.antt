-- A volume has few blocks in all.
use Rattle.std.specs.Prelude.{All, if◌then◌else◌}
use Rattle.std.proofs.Common.{ℕ, suc, ◌+◌, ◌*◌, ◌<◌, ◌≤◌, ◌==◌, true, false, List, [], ◌∷◌, length, arith}
use Rattle.tmf_model.specs.Config.{IsValidConfig, IsWithin}
use Rattle.tmf_model.specs.declared.config.FileLine.{FileLine}
use Rattle.keyed_file.specs.Dump.{blocks_in_all}
use Rattle.keyed_file.specs.Volume.{files_on}
use Rattle.node_machine.specs.Dump.{IsBlockOf}
use Rattle.node_machine.specs.Parts.{DumpPart}
use Rattle.online_dump.specs.Copies.{place_of}
use Rattle.online_dump.proofs.Places.{place_within}

all_few : (v first : ℕ) (lines : List FileLine) → All (λ line. IsWithin 1 256 line.blocks) lines → blocks_in_all (files_on v first lines) ≤ 256 * length lines
all_few v first [] all = omega arith
all_few v first (x ∷ xs) all =
    let others : All (λ (y : FileLine). IsWithin 1 256 y.blocks) xs = λ k d lt. all (suc k) d (omega (arith, lt)) in
    let rest = all_few v (first + 1) xs others in
    let here = (all 0 x (omega arith)).below in
    elim (x.volume == v) as (λ t. blocks_in_all (if t then (first, x.blocks) ∷ files_on v (first + 1) xs else files_on v (first + 1) xs) ≤ 256 * length (x ∷ xs)) [
      | true ↦ omega (arith, rest, here)
      | false ↦ omega (arith, rest)
    ]

-- no place of a body is far behind
pub few_places : (part : DumpPart) (f b : ℕ) → IsValidConfig part.config → IsBlockOf part f b → place_of part f b < 65536
few_places part f b valid is =
    let within = place_within part f b is in
    let all = all_few part.number 1 part.config.files valid.files.blocks in
    omega (arith, within, all, valid.files.few)

-- What a failed write leaves of a file of a memory disk.
use Rattle.std.proofs.Common.{◌≡◌, ℕ, sym, ap, subst, ◌∙◌}
use Rattle.std.specs.Prelude.{Some, IfSome}
use Rattle.std.specs.Option.{option_map}
use Rattle.std.specs.Ordering.{nat_cmp}
use Rattle.std.specs.BTreeMap.{BTreeMap, get}
use Rattle.disk_model.specs.Held.{EndangersOrKeeps, File}
use Rattle.disk_model.specs.MemDisk.{HasPlace, HasPlaceAt, file_of, held_in}
use Rattle.disk_model.specs.declared.mem_file.MemFile.{MemFile}

-- what is so of a file is so of it in the map that has it
pub endangers-at : (files : BTreeMap ℕ MemFile) (number : ℕ) (f : MemFile) (at n : ℕ) (file new : File) → get nat_cmp files number ≡ Some f → held_in files number ≡ Some file
    → EndangersOrKeeps (HasPlace f) at n (file_of f) new → EndangersOrKeeps (HasPlaceAt files number) at n file new
endangers-at files number f at n file new there is left =
    let same : file_of f ≡ file = let both : Some (file_of f) ≡ Some file = sym (ap (option_map file_of) there) ∙ is in cc in
    subst (λ o. EndangersOrKeeps (IfSome o HasPlace) at n file new) (sym there) (subst (λ g. EndangersOrKeeps (HasPlace f) at n g new) same left)

-- Few records have room in whichever blocks.
use Rattle.std.specs.Prelude.{IsSome, bytes_eq, ◌==◌, ◌&&◌, Option, Some, None, map}
use Rattle.std.specs.Map.{lookup}
use Rattle.std.specs.Option.{option_or}
use Rattle.std.proofs.Common.{suc, ◌≡◌, ℕ, ◌≤◌, Bool, true, false, cond, List, [], ◌∷◌, length, refl, ap, subst, arith}
use Rattle.std.proofs.lemmas.Cmp.{nat_list_eq_equiv}
use Rattle.std.proofs.lemmas.List.Elements.{All-contains}
use Rattle.std.proofs.lemmas.Map.Steps.{length-le_from_keys}
use Rattle.std.proofs.lemmas.Map.Views.{Contains-from_any}
use Rattle.std.proofs.lemmas.Slice.Eq.{bytes_eq-Decides}
use Rattle.tmf_model.specs.declared.config.Config.{Config}
use Rattle.tmf_model.specs.Place.{block_of}
use Rattle.volume_restore.specs.Damage.{blocks_on}
use Rattle.rollforward.specs.Filled.{HaveRoom, Records, value_of, values_of}

-- the keys of the records, with their values
abbrev pairs : Records → List (List ℕ × List ℕ)
pairs records = map (λ r. (r.1, r.2)) records

-- a key that is given a value is one of theirs
given : (file : ℕ) (key : List ℕ) (records : Records) → IsSome (values_of records file key) → IsSome (lookup (bytes_eq key) (pairs records))
given file key [] some = some
given file key (r ∷ rest) some = (elim (bytes_eq key r.1) as (λ b. bytes_eq key r.1 ≡ b → IsSome (cond b (Some r.2) (lookup (bytes_eq key) (pairs rest)))) [
  | true ↦ λ same. refl
  | false ↦ λ apart. given file key rest (first (values_of rest file key) (value_of r file key) (none apart) some)
]) refl
  where
    none : bytes_eq key r.1 ≡ false → value_of r file key ≡ None
    none apart = away (r.0 == file) (bytes_eq key r.1) apart
      where
        away : (a b : Bool) → b ≡ false → cond (a && b) (Some r.2) None ≡ None
        away true b e = ap (λ (x : Bool). cond x (Some r.2) None) e
        away false b e = refl

    first : (a b : Option (List ℕ)) → b ≡ None → IsSome (option_or a b) → IsSome a
    first None b e some = subst IsSome e some
    first (Some x) b e some = refl

length-pairs : (records : Records) → length (pairs records) ≡ length records
length-pairs [] = refl
length-pairs (r ∷ rest) = ap suc (length-pairs rest)

pub few-room : (config : Config) (volume : ℕ) (records : Records) → length records ≤ 62 → HaveRoom config volume records
few-room config volume records few file number below keys valued =
    let Fits : List ℕ → Type 0 = λ k. (block_of k (blocks_on config volume file) ≡ number) × IsSome (values_of records file k) in
    let most : length keys ≤ length (pairs records) =
    length-le_from_keys nat_list_eq_equiv keys (pairs records) valued.distinct (λ q any.
    let fits = All-contains Fits keys q valued.valued (Contains-from_any (λ x y e. (bytes_eq-Decides x y).0 e) q keys any) in
    given file q records fits.1) in
    omega (arith, most, few, length-pairs records)

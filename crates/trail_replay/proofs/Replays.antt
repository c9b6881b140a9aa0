-- What is found of all files, record by record.
use Rattle.std.specs.Global.{Vec}
use Rattle.std.specs.BTreeMap.{BTreeMap}
use Rattle.std.specs.Prelude.{slice_get, slice_set, nat_le, ◌==◌, Option, Some, Result, Ok, Err, IfOk, OnOk}
use Rattle.std.proofs.Common.{◌≡◌, ◌≢◌, ◌≤◌, ◌<◌, ◌-◌, inl, inr, ℕ, zero, suc, length, ◌++◌, ◌&&◌, Bool, true, false, List, [], ◌∷◌, refl, sym, ap, subst, ◌∙◌, arith, length-set}
use Rattle.std.proofs.lemmas.Bool.{cases_lt}
use Rattle.std.proofs.lemmas.Bool.Decides.{nat_tests}
use Rattle.std.proofs.lemmas.List.{get_or-set_same, get_or-set_other}
use Rattle.std.proofs.lemmas.Option.{slice_get-get_or, slice_get_past, slice_get_within}
use Rattle.tmf_model.specs.declared.config.Config.{Config}
use Rattle.tmf_model.specs.RecordMap.{IsListing, empty_map}
use Rattle.trail_files.specs.declared.audit_record.AuditRecord.{AuditRecord}
use Rattle.trail_files.specs.declared.monitor_record.MonitorRecord.{MonitorRecord}
use Rattle.trail_files.specs.Recovered.{kept_records, recovered_value}
use Rattle.trail_replay.specs.declared.replay.FoundFiles.{FoundFiles}
use Rattle.trail_replay.specs.Found.{IsFound, records_found}
use Rattle.trail_replay.specs.Home.{LiesOn}
use Rattle.trail_replay.specs.Replay.{IsFoundAt, maps_of, records_at, records_of}
use Rattle.trail_replay.proofs.Founds.{found-recovered, found-skip}
use Rattle.trail_replay.proofs.Listings.{listing-as}

module _ {X : Type 0} (xs : List X) (i : ℕ) (v : X) where
  pub get_set_same : i < length xs → slice_get (slice_set xs i v) i ≡ Some v
  get_set_same lt = slice_get-get_or (slice_set xs i v) i v (omega (arith, length-set xs i v)) ∙ ap Some (get_or-set_same xs i v v lt)

  pub get_set_other : (j : ℕ) → j ≢ i → slice_get (slice_set xs i v) j ≡ slice_get xs j
  get_set_other j other = elim (cases_lt j (length xs)) [
    | inl lt ↦ slice_get-get_or (slice_set xs i v) j v (omega (arith, lt, length-set xs i v)) ∙ ap Some (get_or-set_other xs i j v v other) ∙ sym (slice_get-get_or xs j v lt)
    | inr le ↦ slice_get_past (slice_set xs i v) j (omega (arith, le, length-set xs i v)) ∙ sym (slice_get_past xs j le)
  ]

differs : (n m : ℕ) → n ≢ m → (n == m) ≡ false
differs n m ne = grind (arith, nat_tests)

and-false : (a b : Bool) → b ≡ false → (a && b) ≡ false
and-false true b e = e
and-false false b e = refl

false-and : (a b c : Bool) → a ≡ false → ((a && b) && c) ≡ false
false-and a b c e = rw e refl

-- a record of another volume or file says nothing of a file
pub skip-file : (disc from file : ℕ) (audit : List AuditRecord) (list : List MonitorRecord) (r : AuditRecord) (found : BTreeMap (List ℕ) (Option (List ℕ)))
    → file ≢ r.file → IsFound file (kept_records disc from audit) list found → IsFound file (kept_records disc from (audit ++ r ∷ [])) list found
skip-file disc from file audit list r found ne is = found-skip disc from file audit list r found (and-false ((r.disc == disc) && nat_le from r.position) (file == r.file) (differs file r.file ne)) is

pub skip-disc : (disc from file : ℕ) (audit : List AuditRecord) (list : List MonitorRecord) (r : AuditRecord) (found : BTreeMap (List ℕ) (Option (List ℕ)))
    → r.disc ≢ disc → IsFound file (kept_records disc from audit) list found → IsFound file (kept_records disc from (audit ++ r ∷ [])) list found
skip-disc disc from file audit list r found ne is = found-skip disc from file audit list r found (false-and (r.disc == disc) (nat_le from r.position) (file == r.file) (differs r.disc disc ne)) is

-- a file that lies somewhere has a number
pub lies-within : (config : Config) (file disc trail : ℕ) → LiesOn config file disc trail → (1 ≤ file) × (file ≤ length config.files)
lies-within config file disc trail lies =
    let below = slice_get_within config.files (file - 1) lies.line lies.is_file.1 in
    let some : 1 ≤ file = lies.is_file.0 in
    (some, omega (arith, below, some))

-- what is found stays so under the same numbers
pub found-as : (file other disc home from low : ℕ) (found now : BTreeMap (List ℕ) (Option (List ℕ))) (audit : List AuditRecord) (list : List MonitorRecord) → file ≡ other → disc ≡ home → from ≡ low → found ≡ now
    → IsFound file (kept_records disc from audit) list found → IsFound other (kept_records home low audit) list now
found-as file other disc home from low found now audit list files discs lows same is =
    subst (λ f. IsFound f (kept_records home low audit) list now) files
    (subst (λ d. IsFound file (kept_records d low audit) list now) discs
    (subst (λ n. IsFound file (kept_records disc n audit) list now) lows (subst (λ m. IsFound file (kept_records disc from audit) list m) same is)))

pub on-ok : {T E P Q : Type 0} (r : Result T E) → (P → Q) → OnOk r P → OnOk r Q
on-ok (Ok x) f p = f p
on-ok (Err e) f p = tt

pub ok-any : {T E P : Type 0} (r : Result T E) → P → OnOk r P
ok-any (Ok x) p = p
ok-any (Err e) p = tt

-- the numbers behind an index differ where the indexes do
pub apart : (n m : ℕ) → 1 ≤ n → 1 ≤ m → n ≢ m → n - 1 ≢ m - 1
apart n m some more ne = λ e. ne (omega (arith, some, more, e))

-- each number up to the count of maps without a key has one, and nothing is found there
pub found-empty : (files : List (BTreeMap (List ℕ) (Option (List ℕ)))) (index : ℕ) → index < length files
    → ((n : ℕ) (found : BTreeMap (List ℕ) (Option (List ℕ))) → slice_get files n ≡ Some found → found.entries ≡ [])
    → (found : BTreeMap (List ℕ) (Option (List ℕ))) × (slice_get files index ≡ Some found) × (found.entries ≡ [])
found-empty [] index within none = absurd (omega (arith, within))
found-empty (x ∷ xs) zero within none = (x, refl, none 0 x refl)
found-empty (x ∷ xs) (suc n) within none = found-empty xs n (omega (arith, within)) (λ m. none (suc m))

-- the listing of a file's map is that of all files' in the file
pub listing-at : {E : Type 0} (files : FoundFiles) (file : ℕ) (found : BTreeMap (List ℕ) (Option (List ℕ))) (result : Result (Vec (List ℕ × List ℕ)) E) → slice_get (maps_of files) (file - 1) ≡ Some found
    → IfOk result (λ entries. IsListing (records_found found) file entries.items) → IfOk result (λ entries. IsListing (records_at files) file entries.items)
listing-at files file found (Ok entries) there is = listing-as (records_found found) (records_at files) file entries.items (λ key. sym (ap (λ o. records_of o file key) there)) is
listing-at files file found (Err e) there is = tt

-- what is found of a file stays where its map does
pub found-stays : (file : ℕ) (audit : List AuditRecord) (list : List MonitorRecord) (old new : FoundFiles) → slice_get (maps_of new) (file - 1) ≡ slice_get (maps_of old) (file - 1)
    → IsFoundAt file audit list old → IsFoundAt file audit list new
found-stays file audit list old new same is = record { found = is.found; is_there = same ∙ is.is_there; is_found = is.is_found }

-- the values found of a file are those that the definition, which looks at one key, gives
pub found-value : (file : ℕ) (audit : List AuditRecord) (list : List MonitorRecord) (files : FoundFiles) → IsFoundAt file audit list files
    → (key : List ℕ) → records_at files file key ≡ recovered_value empty_map audit list file key
found-value file audit list files is key = ap (λ o. records_of o file key) is.is_there ∙ found-recovered file audit list is.found is.is_found key

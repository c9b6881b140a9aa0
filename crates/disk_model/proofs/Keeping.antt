-- What is kept of a file's last sync when a range is written over.
use Rattle.std.proofs.Common.{◌≡◌, ◌<◌, ◌≤◌, ◌+◌, ◌-◌, ◌∷◌, ◌++◌, [], ◌&&◌, ℕ, Bool, true, false, List, length, take, drop, min, slice_index, refl, ap, ◌∙◌, length-take-le, arith}
use Rattle.std.specs.Prelude.{if◌then◌else◌, nat_lt, nat_le}
use Rattle.std.proofs.lemmas.Bool.{leb-true, ltb-true, le-leb, lt-ltb}
use Rattle.std.proofs.lemmas.List.{get_or-drop, get_or-take, length-drop}
use Rattle.std.proofs.lemmas.Bool.Decides.{nat_tests}
use Rattle.disk_model.specs.Held.{is_within}
use Rattle.disk_model.specs.MemDisk.{earlier_byte}
use Rattle.disk_model.specs.declared.base.Overwritten.{Overwritten}

-- one range more, behind the others
pub earlier-push : (ranges : List Overwritten) (r : Overwritten) (i now : ℕ)
    → earlier_byte (ranges ++ r ∷ []) i now ≡ earlier_byte ranges i (if is_within r.at (length r.bytes.items) i then slice_index r.bytes.items (i - r.at) else now)
earlier-push [] r i now = refl
earlier-push (first ∷ ranges) r i now =
    ap (λ b. if is_within first.at (length first.bytes.items) i then slice_index first.bytes.items (i - first.at) else b) (earlier-push ranges r i now)

within-true : (at n i : ℕ) → at ≤ i → i < at + n → is_within at n i ≡ true
within-true at n i from to = ap (λ b. b && nat_lt i (at + n)) (le-leb at i from) ∙ lt-ltb i (at + n) to

within-parts : (a b : Bool) → (a && b) ≡ true → (a ≡ true) × (b ≡ true)
within-parts true b is = (refl, is)
within-parts false b is = absurd (cc)

pub within-from : (at n i : ℕ) → is_within at n i ≡ true → (at ≤ i) × (i < at + n)
within-from at n i is = let both = within-parts (nat_le at i) (nat_lt i (at + n)) is in (leb-true at i both.0, ltb-true i (at + n) both.1)

module _ (bytes over : List ℕ) (at size limit : ℕ) (from : at ≤ limit) (fits : limit ≤ length bytes) (over_is : over ≡ take (min (limit - at) size) (drop at bytes)) where
  long : length over ≡ min (limit - at) size
  long = ap length over_is ∙ length-take-le (min (limit - at) size) (drop at bytes) (let rest = length-drop at bytes in omega (arith, rest, from, fits))

  over-at : (i : ℕ) → at ≤ i → i < at + min (limit - at) size → slice_index over (i - at) ≡ slice_index bytes i
  over-at i low high =
      ap (λ xs. slice_index xs (i - at)) over_is
      ∙ get_or-take (min (limit - at) size) (drop at bytes) (i - at) 0 (omega (arith, low, high))
      ∙ get_or-drop at bytes (i - at) 0
      ∙ ap (slice_index bytes) (omega (arith, low))

  -- below the limit the range that is kept has the offsets of the one that is written
  same-range : (i : ℕ) → i < limit → is_within at (length over) i ≡ is_within at size i
  same-range i less = ap (λ b. nat_le at i && b) (grind (arith, nat_tests, long, less, from))

  value : (i now : ℕ) (b : Bool) → is_within at (length over) i ≡ b
      → (if b then slice_index over (i - at) else now) ≡ (if b then slice_index bytes i else now)
  value i now true is = let both = within-from at (length over) i is in over-at i both.0 (omega (arith, both.1, long))
  value i now false is = refl

  pushed : (ranges : List Overwritten) (r : Overwritten) → r.at ≡ at → r.bytes.items ≡ over → (i now : ℕ) → i < limit
      → earlier_byte (ranges ++ r ∷ []) i now ≡ earlier_byte ranges i (if is_within at size i then slice_index bytes i else now)
  pushed ranges r at_is bytes_is i now less =
      earlier-push ranges r i now
      ∙ ap (λ k. earlier_byte ranges i (if is_within k (length r.bytes.items) i then slice_index r.bytes.items (i - k) else now)) at_is
      ∙ ap (λ xs. earlier_byte ranges i (if is_within at (length xs) i then slice_index xs (i - at) else now)) bytes_is
      ∙ ap (earlier_byte ranges i) (value i now (is_within at (length over) i) refl)
      ∙ ap (λ b. earlier_byte ranges i (if b then slice_index bytes i else now)) (same-range i less)

  pub synced-pushed : (ranges all : List Overwritten) (r : Overwritten) → all ≡ ranges ++ r ∷ [] → r.at ≡ at → r.bytes.items ≡ over → (i now : ℕ)
      → (if nat_lt i limit then earlier_byte all i now else 0) ≡ (if nat_lt i limit then earlier_byte ranges i (if is_within at size i then slice_index bytes i else now) else 0)
  synced-pushed ranges all r all_is at_is bytes_is i now = by (nat_lt i limit) refl
    where
      by : (b : Bool) → nat_lt i limit ≡ b
          → (if b then earlier_byte all i now else 0) ≡ (if b then earlier_byte ranges i (if is_within at size i then slice_index bytes i else now) else 0)
      by true is = ap (λ xs. earlier_byte xs i now) all_is ∙ pushed ranges r at_is bytes_is i now (ltb-true i limit is)
      by false is = refl

pub same-both : (b : Bool) (x : ℕ) → (if b then x else x) ≡ x
same-both true x = refl
same-both false x = refl

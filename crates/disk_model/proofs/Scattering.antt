-- One byte more on the way to an image.
use Rattle.std.proofs.Common.{zero, suc, ◌≡◌, ◌<◌, ◌≤◌, ◌+◌, ◌-◌, ◌++◌, ℕ, Bool, take, drop, true, false, List, length, slice_index, refl, sym, ap, subst, ◌∙◌, ⊎_elim, arith}
use Rattle.std.specs.Prelude.{if◌then◌else◌}
use Rattle.std.proofs.Math.ListN.{set}
use Rattle.std.proofs.Math.Seq.{take-append_seam}
use Rattle.std.proofs.lemmas.Bool.Decides.{leb_tells, nat_tests}
use Rattle.std.proofs.lemmas.Grind.{get_or-set_at}
use Rattle.std.proofs.lemmas.List.{get_or-set_other, length-set}
use Rattle.disk_model.specs.Image.{count_below, next_number, number_after, picked}
use Rattle.disk_model.specs.Held.{LeavesFile, at_rest}
use Rattle.disk_model.specs.Image.{IsImage, is_risked}
use Rattle.disk_model.specs.MemDisk.{earlier_of, file_of, synced_byte}
use Rattle.disk_model.specs.Scattered.{IsScattered, is_told}
use Rattle.disk_model.specs.declared.mem_file.MemFile.{MemFile}

-- where nothing is done yet
pub scattered-none : (tells : ℕ → Bool) (earlier : ℕ → ℕ → ℕ) (x : ℕ) (bytes : List ℕ) → IsScattered tells earlier x bytes bytes 0 x
scattered-none tells earlier x bytes = record {
  safe = λ i lt off. refl;
  risked = λ i lt on. absurd (omega (arith, lt));
  rest = λ i le. refl;
  number = refl;
  long = refl;
}

none-counted : (tells : ℕ → Bool) (n more : ℕ) → ((i : ℕ) → n ≤ i → i < n + more → tells i ≡ false) → count_below tells (n + more) ≡ count_below tells n
none-counted tells n zero none = ap (count_below tells) (omega arith)
none-counted tells n (suc more) none =
    let one : n + suc more ≡ suc (n + more) = omega arith in
    ap (count_below tells) one
    ∙ ap (λ b. if b then suc (count_below tells (n + more)) else count_below tells (n + more)) (none (n + more) (omega arith) (omega arith))
    ∙ none-counted tells n more (λ i low high. none i low (omega (arith, high)))

-- bytes of which none is at risk are done
pub scattered-skip : (tells : ℕ → Bool) (earlier : ℕ → ℕ → ℕ) (x : ℕ) (old new : List ℕ) (n m y : ℕ) → n ≤ m → ((i : ℕ) → n ≤ i → i < m → tells i ≡ false)
    → IsScattered tells earlier x old new n y → IsScattered tells earlier x old new m y
scattered-skip tells earlier x old new n m y le none is = record {
  safe = λ i less off. ⊎_elim (λ from. is.rest i from.1) (λ under. is.safe i under.1 off) (leb_tells n i);
  risked = λ i less on. ⊎_elim (λ from. absurd (let no : true ≡ false = sym on ∙ none i from.1 less in cc)) (λ under. is.risked i under.1 on) (leb_tells n i);
  rest = λ i from. is.rest i (omega (arith, from, le));
  number = is.number ∙ ap (number_after x) (let to : n + (m - n) ≡ m = omega (arith, le) in
      sym (ap (count_below tells) (sym to) ∙ none-counted tells n (m - n) (λ i low high. none i low (omega (arith, high, le)))));
  long = is.long;
}

module _ (tells : ℕ → Bool) (earlier : ℕ → ℕ → ℕ) (x : ℕ) (old new : List ℕ) (n y v z : ℕ) (is : IsScattered tells earlier x old new n y) (lt : n < length new) where
  at-place : (i : ℕ) → i ≡ n → slice_index (set new n v) i ≡ v
  at-place i e = get_or-set_at new n i v 0 e lt

  off-place : (i : ℕ) → i < n → slice_index (set new n v) i ≡ slice_index new i
  off-place i less = get_or-set_other new n i v 0 (λ e. omega (arith, less, e))

  next : suc n ≡ n + 1
  next = omega arith

  was : slice_index new n ≡ slice_index old n
  was = is.rest n (omega arith)

  up-to : (P : ℕ → Type 0) → ((i : ℕ) → i < n → P i) → ((i : ℕ) → i ≡ n → P i) → (i : ℕ) → i < n + 1 → P i
  up-to P below here i less = ⊎_elim (λ from. here i (omega (arith, from.1, less))) (λ under. below i under.1) (leb_tells n i)

  behind : (i : ℕ) → n + 1 ≤ i → slice_index (set new n v) i ≡ slice_index old i
  behind i le = get_or-set_other new n i v 0 (λ e. omega (arith, le, e)) ∙ is.rest i (omega (arith, le))

  step-off : tells n ≡ false → v ≡ slice_index new n → z ≡ y → IsScattered tells earlier x old (set new n v) (n + 1) z
  step-off off same stays = record {
    safe = up-to (λ i. tells i ≡ false → slice_index (set new n v) i ≡ slice_index old i)
        (λ i less o. off-place i less ∙ is.safe i less o)
        (λ i e o. at-place i e ∙ same ∙ was ∙ ap (slice_index old) (sym e));
    risked = up-to (λ i. tells i ≡ true → slice_index (set new n v) i ≡ picked (number_after x (suc (count_below tells i))) (slice_index old i) (earlier i (slice_index old i)))
        (λ i less o. off-place i less ∙ is.risked i less o)
        (λ i e o. absurd (let no : false ≡ true = sym off ∙ ap tells (sym e) ∙ o in cc));
    rest = behind;
    number = stays ∙ is.number ∙ ap (λ b. number_after x (if b then suc (count_below tells n) else count_below tells n)) (sym off) ∙ ap (λ k. number_after x (count_below tells k)) next;
    long = length-set new n v ∙ is.long;
  }

  step-on : tells n ≡ true → v ≡ picked (next_number y) (slice_index new n) (earlier n (slice_index new n)) → z ≡ next_number y
      → IsScattered tells earlier x old (set new n v) (n + 1) z
  step-on on is_picked moves =
      let place : v ≡ picked (number_after x (suc (count_below tells n))) (slice_index old n) (earlier n (slice_index old n)) =
      is_picked ∙ ap (λ k. picked (next_number k) (slice_index new n) (earlier n (slice_index new n))) is.number
      ∙ ap (λ k. picked (next_number (number_after x (count_below tells n))) k (earlier n k)) was in record {
        safe = up-to (λ i. tells i ≡ false → slice_index (set new n v) i ≡ slice_index old i)
            (λ i less o. off-place i less ∙ is.safe i less o)
            (λ i e o. absurd (let no : true ≡ false = sym on ∙ ap tells (sym e) ∙ o in cc));
        risked = up-to (λ i. tells i ≡ true → slice_index (set new n v) i ≡ picked (number_after x (suc (count_below tells i))) (slice_index old i) (earlier i (slice_index old i)))
            (λ i less o. off-place i less ∙ is.risked i less o)
            (λ i e o. at-place i e ∙ place ∙ ap (λ k. picked (number_after x (suc (count_below tells k))) (slice_index old k) (earlier k (slice_index old k))) (sym e));
        rest = behind;
        number = moves ∙ ap next_number is.number ∙ ap (λ b. number_after x (if b then suc (count_below tells n) else count_below tells n)) (sym on) ∙ ap (λ k. number_after x (count_below tells k)) next;
        long = length-set new n v ∙ is.long;
      }

  pub step : (tells n ≡ false → (v ≡ slice_index new n) × (z ≡ y))
      → (tells n ≡ true → (v ≡ picked (next_number y) (slice_index new n) (earlier n (slice_index new n))) × (z ≡ next_number y))
      → IsScattered tells earlier x old (set new n v) (n + 1) z
  step safe risked = by (tells n) refl
    where
      by : (b : Bool) → tells n ≡ b → IsScattered tells earlier x old (set new n v) (n + 1) z
      by true on = step-on on (risked on).0 (risked on).1
      by false off = step-off off (safe off).0 (safe off).1

-- the bytes of a file all done, and cut or not
module _ (cut : Bool) (x : ℕ) (f : MemFile) (mid last : List ℕ) (y : ℕ) (is : IsScattered (is_told f.base f.risk.items) (synced_byte f.base) x f.bytes.items mid (length f.bytes.items) y)
    (same : (i : ℕ) → i < length last → slice_index last i ≡ slice_index mid i) (long : length last ≡ (if cut then f.base.length else length mid)) where
  no_longer : length last ≤ length f.bytes.items
  no_longer = by cut long
    where
      by : (b : Bool) → length last ≡ (if b then f.base.length else length mid) → length last ≤ length f.bytes.items
      by true e = let within = f.synced_within in omega (arith, e, within)
      by false e = let all = is.long in omega (arith, e, all)

  no_shorter : f.base.length ≤ length last
  no_shorter = by cut long
    where
      by : (b : Bool) → length last ≡ (if b then f.base.length else length mid) → f.base.length ≤ length last
      by true e = omega (arith, e)
      by false e = let all = is.long in let within = f.synced_within in omega (arith, e, all, within)

  below : (i : ℕ) → i < length last → i < length f.bytes.items
  below i less = omega (arith, less, no_longer)

  pub image-scattered : IsImage cut x (earlier_of f) (file_of f) (at_rest last)
  image-scattered = record {
    length_is = long ∙ ap (λ n. if cut then f.base.length else n) is.long;
    safe = λ i less off. same i less ∙ is.safe i (below i less) off;
    risked = λ i less on. same i less ∙ is.risked i (below i less) on;
  }

  pub leaves-scattered : LeavesFile (file_of f) (at_rest last)
  leaves-scattered = record {
    same = λ i less safe.
        let off : is_risked (file_of f) i ≡ false = grind (arith, nat_tests, less, safe) in
        same i (omega (arith, less, no_shorter)) ∙ is.safe i (below i (omega (arith, less, no_shorter))) off;
    no_shorter = no_shorter;
    no_longer = let short = f.short in omega (arith, no_longer, short);
    settled = λ i. refl;
    synced = refl;
  }

-- as many bytes as were lent take the places of all
pub put-back : (n : ℕ) (new old : List ℕ) → length new ≡ n → take n (new ++ drop (length new) old) ≡ new
put-back n new old is = subst (λ k. take k (new ++ drop (length new) old) ≡ new) is (take-append_seam new (drop (length new) old))

-- Heads of batches: those whose fields are right, and what is wrong with a batch but for its records.
use Rattle.std.specs.Prelude.{Some, ◌==◌, ◌||◌, not, slice_index, ◌<◌, ◌*◌, ◌^◌, false, ◌++◌, nat_lt, if◌then◌else◌}
use Rattle.std.specs.Option.{option_or}
use Rattle.std.proofs.lemmas.Bool.{lt-ltb, le-ltb}
use Rattle.std.proofs.lemmas.List.{take-append-drop}
use Rattle.std.proofs.lemmas.Nat.{from_be_bytes-to_be_bytes_4}
use Rattle.trail_files.specs.declared.damage.DamageKind.{DamageKind}
use Rattle.trail_files.specs.declared.damage.DamageKind.TheVariants.{Short}
use Rattle.std.proofs.Common.{◌≡◌, ℕ, ◌+◌, ◌≤◌, true, List, [], ◌∷◌, length, take, drop, get_or, None, sym, ap, ◌∙◌, arith, eqb-true}
use Rattle.trail_files.specs.Text.{head}
use Rattle.trail_files.specs.Damaged.{first_failed, count_in, head_checks, head_damage, batch_damage}
use Rattle.trail_files.specs.Next.{IsHeadFault, IsRecordFault}
use Rattle.std.specs.Prelude.{Option}
use Rattle.std.proofs.Common.{inl, refl}
use Rattle.std.proofs.lemmas.List.{drop_all, length-take}
use Rattle.disk_model.specs.Held.{Held, File, read_of}
use Rattle.trail_files.specs.declared.damage.Damage.{Damage}
use Rattle.trail_files.specs.Format.{Format}
use Rattle.trail_files.specs.RecordFields.{AreBytes, joined, field_32, field_byte, field_end}
use Rattle.trail_files.proofs.Damages.{each_passes}

pub head_again : (most file : ℕ) (bytes : List ℕ) → length bytes ≡ 16 → AreBytes bytes → get_or bytes 0 0 ≡ 1 → first_failed (head_checks most file bytes) ≡ None → bytes ≡ 1 ∷ head (count_in bytes)
head_again most file bytes l h opened none =
    let fit = each_passes (head_checks most file bytes) none in
    let z = fit.1.1.1.1 in
    joined 0 1 bytes _ _ (at 0 1 (omega arith) opened)
    (joined 1 1 bytes _ _ (at 1 1 (omega arith) (eqb-true _ _ fit.0))
    (joined 2 1 bytes _ _ (at 2 0 (omega arith) (eqb-true _ _ fit.1.0))
    (joined 3 1 bytes _ _ (at 3 0 (omega arith) (eqb-true _ _ fit.1.1.0))
    (joined 4 4 bytes _ _ (field_32 4 bytes h (omega arith))
    (joined 8 1 bytes _ _ (at 8 0 (omega arith) (eqb-true _ _ z.0))
    (joined 9 1 bytes _ _ (at 9 0 (omega arith) (eqb-true _ _ z.1.0))
    (joined 10 1 bytes _ _ (at 10 0 (omega arith) (eqb-true _ _ z.1.1.0))
    (joined 11 1 bytes _ _ (at 11 0 (omega arith) (eqb-true _ _ z.1.1.1.0))
    (joined 12 1 bytes _ _ (at 12 0 (omega arith) (eqb-true _ _ z.1.1.1.1.0))
    (joined 13 1 bytes _ _ (at 13 0 (omega arith) (eqb-true _ _ z.1.1.1.1.1.0))
    (joined 14 1 bytes _ _ (at 14 0 (omega arith) (eqb-true _ _ z.1.1.1.1.1.1.0))
    (joined 15 1 bytes _ [] (at 15 0 (omega arith) (eqb-true _ _ z.1.1.1.1.1.1.1.0)) (field_end 16 bytes l)))))))))))))
  where
    at : (n v : ℕ) → n + 1 ≤ length bytes → get_or bytes n 0 ≡ v → take 1 (drop n bytes) ≡ v ∷ []
    at n v within e = field_byte n bytes within ∙ ap (λ x. x ∷ []) e

-- the count of bytes that begin with a head
pub count_of_head : (bytes : List ℕ) (n : ℕ) → n < 2 ^ 32 → take 16 bytes ≡ 1 ∷ head n → count_in bytes ≡ n
count_of_head bytes n small e = ap count_in (sym (take-append-drop 16 bytes) ∙ ap (λ (l : List ℕ). l ++ drop 16 bytes) e) ∙ from_be_bytes-to_be_bytes_4 n small

module _ (most size file : ℕ) (bytes : List ℕ) where
  opened : nat_lt (length bytes) 16 ≡ false → batch_damage most size file bytes ≡ option_or (first_failed (head_checks most file (take 16 bytes))) (if nat_lt (16 + count_in bytes * size) (length bytes) then None else Some (0, Short))
  opened e = ap (λ b. if b then Some (0, Short) else option_or (first_failed (head_checks most file (take 16 bytes))) (if nat_lt (16 + count_in bytes * size) (length bytes) then None else Some (0, Short))) e

  -- a wrong head
  pub batch_head : (wrong : ℕ × DamageKind) → 16 ≤ length bytes → first_failed (head_checks most file (take 16 bytes)) ≡ Some wrong → batch_damage most size file bytes ≡ Some wrong
  batch_head wrong long failed = opened (le-ltb (length bytes) 16 long) ∙ ap (λ o. option_or o (if nat_lt (16 + count_in bytes * size) (length bytes) then None else Some (0, Short))) failed

  -- a right head, with too few bytes behind it
  pub batch_short : (count : ℕ) → 16 ≤ length bytes → first_failed (head_checks most file (take 16 bytes)) ≡ None → count_in bytes ≡ count → length bytes ≤ 16 + count * size → batch_damage most size file bytes ≡ Some (0, Short)
  batch_short count long fine count_is short =
      let past : nat_lt (16 + count_in bytes * size) (length bytes) ≡ false = ap (λ n. nat_lt (16 + n * size) (length bytes)) count_is ∙ le-ltb (16 + count * size) (length bytes) short in
      opened (le-ltb (length bytes) 16 long) ∙ (λ i. option_or (fine i) (if past i then None else Some (0, Short)))

  -- a right head with enough bytes behind it
  pub batch_fine : (count : ℕ) → 16 ≤ length bytes → first_failed (head_checks most file (take 16 bytes)) ≡ None → count_in bytes ≡ count → 16 + count * size < length bytes → batch_damage most size file bytes ≡ None
  batch_fine count long fine count_is room =
      let within : nat_lt (16 + count_in bytes * size) (length bytes) ≡ true = ap (λ n. nat_lt (16 + n * size) (length bytes)) count_is ∙ lt-ltb (16 + count * size) (length bytes) room in
      opened (le-ltb (length bytes) 16 long) ∙ (λ i. option_or (fine i) (if within i then None else Some (0, Short)))

-- what is read as a head: too few bytes
pub head_few : (most file : ℕ) (bytes : List ℕ) → length bytes < 16 → head_damage most file bytes ≡ Some (0, Short)
head_few most file bytes few = ap (λ b. if b || not (slice_index bytes 0 == 1) then Some (0, Short) else first_failed (head_checks most file bytes)) (lt-ltb (length bytes) 16 few)

-- or a field that is wrong
pub head_failed : (most file : ℕ) (bytes : List ℕ) (fault : ℕ × DamageKind) → length bytes ≡ 16 → slice_index bytes 0 ≡ 1 → first_failed (head_checks most file bytes) ≡ Some fault → head_damage most file bytes ≡ Some fault
head_failed most file bytes fault long is_open failed =
    let whole : nat_lt (length bytes) 16 ≡ false = le-ltb (length bytes) 16 (omega (arith, long)) in
    let first : (slice_index bytes 0 == 1) ≡ true = ap (λ n. n == 1) is_open in
    (λ i. if whole i || not (first i) then Some (0, Short) else first_failed (head_checks most file bytes)) ∙ failed

-- nothing is read behind the end of a file
pub read_none : (o : Option File) (at n : ℕ) → ((f : File) → o ≡ Some f → length f.bytes ≤ at) → length (read_of o at n) ≡ 0
read_none None at n far = refl
read_none (Some f) at n far = ap (λ l. length (take n l)) (drop_all at f.bytes (far f refl)) ∙ omega (arith, length-take {A = ℕ} n [])

-- so what stands there is a head that is cut off
pub far_head : (most : ℕ) (held : Held) (file at : ℕ) (d : Damage) → d ≡ record { file = file; at = at; kind = Short } → ((f : File) → held file ≡ Some f → length f.bytes ≤ at) → IsHeadFault most held file at d
far_head most held file at d d_is far =
    let short : length (read_of (held file) at 16) < 16 = omega (arith, read_none (held file) at 16 far) in
    (0, ap (λ (x : Damage). x.file) d_is, omega (arith, ap (λ (x : Damage). x.at) d_is), head_few most file (read_of (held file) at 16) short ∙ ap (λ k. Some (0, k)) (sym (ap (λ (x : Damage). x.kind) d_is)))

-- or a record that is
pub far_record : {R : Type 0} (format : Format R) (bad : List ℕ → Option ℕ) (size : ℕ) → 0 < size → (held : Held) (place file at : ℕ) (d : Damage) → d ≡ record { file = file; at = at; kind = Short } → ((f : File) → held file ≡ Some f → length f.bytes ≤ at)
    → IsRecordFault format bad size held place file at d
far_record format bad size some held place file at d d_is far =
    (0, ap (λ (x : Damage). x.file) d_is, omega (arith, ap (λ (x : Damage). x.at) d_is), inl (omega (arith, read_none (held file) at size far, some), refl, ap (λ (x : Damage). x.kind) d_is))

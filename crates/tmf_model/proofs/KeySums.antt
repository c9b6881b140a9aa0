-- The sum of a key's bytes, byte by byte.
use Rattle.std.proofs.Common.{◌≡◌, ℕ, ◌+◌, ◌*◌, ◌<◌, ◌%◌, List, length, take, get_or, sym, ap, ◌∙◌}
use Rattle.std.proofs.Math.Nat.{mod-add-mod, mul_comm}
use Rattle.std.proofs.lemmas.Nat.{mul-mod_second}
use Rattle.std.proofs.lemmas.Int.Digits.{number_more}
use Rattle.tmf_model.specs.Place.{key_sum}

step : (n byte : ℕ) → (31 * (n % 65521) + byte) % 65521 ≡ (n * 31 + byte) % 65521
step n byte =
    sym (mod-add-mod (31 * (n % 65521)) 65521 byte)
    ∙ ap (λ v. (v + byte) % 65521) (mul-mod_second 31 n 65521)
    ∙ mod-add-mod (31 * n) 65521 byte
    ∙ ap (λ v. (v + byte) % 65521) (mul_comm 31 n)

-- one byte more: 31 times the sum before it, and the byte
pub key_sum-more : (key : List ℕ) (i : ℕ) → i < length key → key_sum (take (i + 1) key) ≡ (31 * key_sum (take i key) + get_or key i 0) % 65521
key_sum-more key i inside = ap (λ n. n % 65521) (number_more 31 key i inside) ∙ sym (step _ (get_or key i 0))

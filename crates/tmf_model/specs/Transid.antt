-- Identifiers of attempts at transactions.
use Rattle.std.specs.Fmt.{decimal}
use Rattle.std.specs.Prelude.{List, ◌++◌, codes, ℕ, Bool, ◌&&◌, nat_le}
use Rattle.tmf_model.specs.declared.transid.Transid.{Transid}

-- `number` is from `least` to `greatest`
abbrev pub is_between : ℕ → ℕ → ℕ → Bool
is_between least greatest number = nat_le least number && nat_le number greatest

-- the identifier's fields are in their ranges
abbrev pub is_transid : Transid → Bool
is_transid transid =
    is_between 1 4294967295 transid.epoch
    && (is_between 1 16 transid.worker && (is_between 1 4096 transid.ordinal && is_between 1 8 transid.attempt))

-- the identifier as it is printed: its epoch, worker, ordinal and attempt in decimal, with points between them
abbrev pub transid_text : Transid → List ℕ
transid_text transid =
    decimal transid.epoch ++ codes "." ++ decimal transid.worker ++ codes "." ++ decimal transid.ordinal ++ codes "." ++ decimal transid.attempt

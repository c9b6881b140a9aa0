-- What an accepted answer tells of the checks before it.
use Rattle.std.proofs.Common.{◌≡◌, Bool, true, false, Option, Some, None, Result, Ok, Err, refl, subst}
use Rattle.tmf_script.specs.declared.fault.Why.{Why}
use Rattle.tmf_script.specs.Checks.{◌>>=◌, check, wanted}

pub bind_ok : {A B : Type 0} (r : Result A Why) (next : A → Result B Why) (y : B) → (r >>= next) ≡ Ok y
    → (x : A) × (r ≡ Ok x) × (next x ≡ Ok y)
bind_ok (Ok x) next y e = (x, refl, e)
bind_ok (Err why) next y e = cc

pub check_ok : {A : Type 0} (why : Why) (test : Bool) (next : Result A Why) (y : A) → check why test next ≡ Ok y → (test ≡ true) × (next ≡ Ok y)
check_ok why true next y e = (refl, e)
check_ok why false next y e = cc

pub wanted_ok : {A : Type 0} (why : Why) (o : Option A) (y : A) → wanted why o ≡ Ok y → o ≡ Some y
wanted_ok why (Some x) y e = cc
wanted_ok why None y e = cc

-- what holds of one answer holds of the same answer
pub ok_to : {A : Type 0} (P : A → Type 0) (x y : A) → ◌≡◌ {A = Result A Why} (Ok x) (Ok y) → P x → P y
ok_to P x y e p = let same : x ≡ y = cc in subst P same p

use Rattle.std.specs.Prelude.{IsSome, OnOk}
use Rattle.std.proofs.Common.{◌≡◌, Option, Some, None, Result, Ok, Err, refl}
use Rattle.one_dump.proofs.dump_file.seal.Goals as goal

some_is : {A : Type 0} (o : Option A) → IsSome o → (x : A) × (o ≡ Some x)
some_is None some = absurd (cc (some))
some_is (Some x) some = (x, refl)

on_ok : {T E P Q : Type 0} (r : Result T E) → (P → Q) → OnOk r P → OnOk r Q
on_ok (Ok x) f h = f h
on_ok (Err e) f h = tt

pub returns-clause-sealed : goal.returns-clause-sealed
returns-clause-sealed g c = (let one = some_is c.args.file.now.next c.requires.next in on_ok c.seal.result (λ s. (s.volume, s.next)) (c.seal.ensures.sealed one.0 one.1))

-- The disc that is found among others, and the dump device.
use Rattle.std.proofs.Common.{◌≡◌, ◌==◌, ◌||◌, Bool, true, false, ℕ, List, [], ◌∷◌, Option, Some, None, Bor, cond, refl, ap, sym, ◌∙◌, subst, eqb-true}
use Rattle.std.specs.List.{find, list_any}
use Rattle.std.specs.Option.{option_copied}
use Rattle.disk_model.specs.declared.disk.Disk as disk
use Rattle.chronicle.specs.declared.run.Run as run
use Rattle.node_machine.specs.declared.machine.Part.{Part}
use Rattle.audit_writer.specs.declared.name.DeviceRun as device_run
use Rattle.audit_writer.specs.declared.name.NodeRun as node_run
use Rattle.disc_lock.specs.Locks.{number_of}
use Rattle.disc_lock.specs.declared.lock.DiscProcess.{DiscProcess}
use Rattle.online_dump.specs.Locks.{dumper_number}
use Rattle.online_dump.specs.declared.lock.Dumper.{Dumper}
use Rattle.run_items.specs.Volumes.{HasDisc, HasDumper}

passes_step : {A : Type 0} (p : A → Bool) (x y : A) (b : Bool) (rest : Option A) → p x ≡ b → (rest ≡ Some y → p y ≡ true) → cond b (Some x) rest ≡ Some y → p y ≡ true
passes_step p x y true rest is more h = (let same : x ≡ y = cc (h) in subst (λ z. p z ≡ true) same is)
passes_step p x y false rest is more h = more h

-- what was found passes
passes : {A : Type 0} (p : A → Bool) (xs : List A) (y : A) → find p xs ≡ Some y → p y ≡ true
passes p [] y h = absurd (cc (h))
passes p (x ∷ xs) y h = passes_step p x y (p x) (find p xs) refl (passes p xs y) h

finds_step : {A : Type 0} (x : A) (b any : Bool) (rest : Option A) → (b || any) ≡ true → (any ≡ true → rest ≡ None → ⊥) → cond b (Some x) rest ≡ None → ⊥
finds_step x true any rest has more h = absurd (cc (h))
finds_step x false any rest has more h = more has h

-- where one passes, one is found
finds : {A : Type 0} (p : A → Bool) (xs : List A) → list_any p xs ≡ true → find p xs ≡ None → ⊥
finds p [] has h = absurd (cc (has))
finds p (x ∷ xs) has h = finds_step x (p x) (list_any p xs) (find p xs) has (finds p xs) h

module _ {D J : Type 0} {d : disk.Ghosts D} {f : device_run.Ghosts J D} {g : node_run.Ghosts J} {h : run.Ghosts J Part} where
  pub has_disc : (discs : List (DiscProcess D J d f g h)) (number : ℕ) (found : Option (Bor (DiscProcess D J d f g h)))
      → HasDisc discs number → option_copied found ≡ find (λ p. number_of p == number) discs → found ≡ None → ⊥
  has_disc discs number found has copied is = finds (λ p. number_of p == number) discs has (sym copied ∙ ap (λ r. option_copied r) is)

  pub is_disc : (discs : List (DiscProcess D J d f g h)) (number : ℕ) (found : Option (Bor (DiscProcess D J d f g h))) (disc : Bor (DiscProcess D J d f g h))
      → option_copied found ≡ find (λ p. number_of p == number) discs → found ≡ Some disc → number_of disc.now ≡ number
  is_disc discs number found disc copied is = eqb-true (number_of disc.now) number (passes (λ p. number_of p == number) discs disc.now (sym copied ∙ ap (λ r. option_copied r) is))

  pub has_dumper : (dumpers : List (Dumper D J d f g h)) (number : ℕ) (found : Option (Bor (Dumper D J d f g h)))
      → HasDumper dumpers number → option_copied found ≡ find (λ p. dumper_number p == number) dumpers → found ≡ None → ⊥
  has_dumper dumpers number found has copied is = finds (λ p. dumper_number p == number) dumpers has (sym copied ∙ ap (λ r. option_copied r) is)

  pub is_dumper : (dumpers : List (Dumper D J d f g h)) (number : ℕ) (found : Option (Bor (Dumper D J d f g h))) (dumper : Bor (Dumper D J d f g h))
      → option_copied found ≡ find (λ p. dumper_number p == number) dumpers → found ≡ Some dumper → dumper_number dumper.now ≡ number
  is_dumper dumpers number found dumper copied is = eqb-true (dumper_number dumper.now) number (passes (λ p. dumper_number p == number) dumpers dumper.now (sym copied ∙ ap (λ r. option_copied r) is))

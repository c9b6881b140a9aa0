-- Which damage of a volume may be told in a run: that of the bytes that were handed in.
use Rattle.std.specs.Prelude.{◌≡◌, ℕ, zero, suc, ◌+◌, IsTrue, ◌<◌, [], ◌∷◌, length, Option, Some, None}
use Rattle.std.proofs.Common.{refl, sym, ap, subst, ◌∙◌, arith, lit<, inl, ⊎_elim, ◌⊎◌}
use Rattle.block_cache.specs.Damage.{IsBadBlock, bad_data_in}
use Rattle.disk_model.specs.Held.{Held, at_rest}
use Rattle.keyed_file.specs.declared.home.Home.{Home}
use Rattle.node_machine.proofs.Example.{config}
use Rattle.node_machine.specs.Made.{blocks_of, volume_of}
use Rattle.trail_files.specs.StandsFor.{Base}
use Rattle.trail_files.specs.declared.damage.Damage.{Damage}
use Rattle.trail_files.specs.declared.damage.DamageKind.TheVariants.{BadBlock}
use Rattle.run_outcomes.specs.Devices.{told_in, volume_device}
use Rattle.run_outcomes.specs.Found.{ToldBase}
use Rattle.run_outcomes.specs.Run.{IsBroken, IsCrowdedAt}
use Rattle.run_outcomes.proofs.Example.{Device, kind, with_file}

-- volume 1, of whose data file one byte is left
abbrev cut : ℕ → Option Device
cut number = Some (Some (with_file 2 (0 ∷ [])))

-- the damage of its data file at this offset
abbrev damage_at : ℕ → Damage
damage_at at = record { file = 2; at = at; kind = BadBlock }

-- the volume told no whole base: its data file is too short
baseless : (base : Base) → ToldBase config (told_in kind cut) 1 (Some base) → ⊥
baseless base told =
    let spelled = told.2.0.1 in
    let file = spelled.files 1 (lit< tt) in
    let same : Some (with_file 2 (0 ∷ [])) ≡ Some told.0 = told.1 in
    let held : with_file 2 (0 ∷ []) ≡ told.0 = cc (same) in
    let there : Some (at_rest (0 ∷ [])) ≡ Some file.0 = ap (λ (h : Held). h 2) held ∙ file.1 in
    let bytes : at_rest (0 ∷ []) ≡ file.0 = cc (there) in
    let short : 1 ≡ length file.0.bytes = ap (λ f. length f.bytes) bytes in
    let long = file.2.long in
    omega (arith, short, long)

-- the file is wrong at its end
pub broken_there : IsBroken kind config cut 5 (damage_at 1)
broken_there = record {
  volume = 1;
  device_is = refl;
  baseless = baseless;
  place = record { file = 1; number = 0; blocks = 1 };
  is_its = record { file = refl; within = lit< tt; blocks = refl };
  before = Some (with_file 2 (0 ∷ []));
  was = refl;
  bad = λ tells. inl (refl, refl, refl);
}

abbrev wrong_at : ℕ → ℕ → ℕ → Device → Type 0
wrong_at file number blocks before =
    let place : Home = record { file = file; number = number; blocks = blocks } in
    IsTrue (kind.tells before) → IsBadBlock place (kind.held before) (damage_at 2) ⊎ (bad_data_in place (kind.held before (1 + file)) ≡ None) × IsCrowdedAt place (damage_at 2)

right_there : wrong_at 1 0 1 (Some (with_file 2 (0 ∷ []))) → ⊥
right_there wrong = ⊎_elim (λ bad. absurd (let at : ◌≡◌ {A = ℕ} 1 2 = cc (bad.2) in omega (arith, at))) (λ right. absurd (cc (right.0))) (wrong refl)

-- volume 1 has one block
one_block : (file number blocks : ℕ) (before : Device) → volume_of config file ≡ 1 → number < blocks_of config file → blocks ≡ blocks_of config file → wrong_at file number blocks before
    → wrong_at 1 0 1 before
one_block zero number blocks before on few many wrong = absurd (omega (arith, on))
one_block (suc zero) zero blocks before on few many wrong = subst (λ (n : ℕ). wrong_at 1 0 n before) many wrong
one_block (suc zero) (suc number) blocks before on few many wrong = absurd (omega (arith, few))
one_block (suc (suc file)) number blocks before on few many wrong = absurd (omega (arith, on))

-- It is wrong nowhere else.
pub not_broken_elsewhere : IsBroken kind config cut 5 (damage_at 2) → ⊥
not_broken_elsewhere is =
    let device : 5 ≡ volume_device is.volume = is.device_is in
    let one : is.volume ≡ 1 = omega (arith, device) in
    let given : Some (Some (with_file 2 (0 ∷ []))) ≡ Some is.before = is.was in
    let same : Some (with_file 2 (0 ∷ [])) ≡ is.before = cc (given) in
    right_there (subst (λ (d : Device). wrong_at 1 0 1 d) (sym same) (one_block is.place.file is.place.number is.place.blocks is.before (is.is_its.file ∙ one) is.is_its.within is.is_its.blocks is.bad))

-- Nor is damage told of a volume that told a whole base, whatever devices were handed in.
pub not_broken_with_base : (handed_in : ℕ → Option Device) (base : Base) (damage : Damage) → ToldBase config (told_in kind handed_in) 1 (Some base) → IsBroken kind config handed_in 5 damage → ⊥
not_broken_with_base handed_in base damage told is =
    let device : 5 ≡ volume_device is.volume = is.device_is in
    let one : 1 ≡ is.volume = omega (arith, device) in
    is.baseless base (subst (λ (n : ℕ). ToldBase config (told_in kind handed_in) n (Some base)) one told)

-- The rules of a volume's trail name its disc and its files.
use Rattle.std.specs.Prelude.{map, filter, Some, None, Option, slice_get, ◌==◌}
use Rattle.std.specs.List.{enumerate_from, list_any}
use Rattle.std.specs.Option.{option_map_or}
use Rattle.std.proofs.Common.{zero, suc, ◌&&◌, ◌≡◌, ◌≤◌, ◌+◌, ◌-◌, ℕ, Bool, true, List, [], ◌∷◌, refl, sym, ap, subst, ◌∙◌, arith, eq-eqb}
use Rattle.std.proofs.lemmas.Bool.{cond_both, or_right}
use Rattle.node_machine.specs.Made.{volume_of}
use Rattle.node_machine.specs.Trail.{trail_of}
use Rattle.tmf_model.specs.Config.{IsNumber}
use Rattle.tmf_model.specs.declared.config.Config.{Config}
use Rattle.tmf_model.specs.declared.config.FileLine.{FileLine}
use Rattle.tmf_model.specs.declared.config.Volume.{Volume}
use Rattle.trail_files.specs.AuditFormat.{is_disc_of, is_file_of}
use Rattle.trail_replay.specs.Rules.{discs_among, files_among, rules_of}
use Rattle.run_states.proofs.Firsts.{trail_is}

-- a volume of the trail has its number among its discs
disc_among : (volumes : List Volume) (start n : ℕ) (volume : Volume) (trail : ℕ) → slice_get volumes n ≡ Some volume → (volume.trail == trail) ≡ true
    → list_any (λ one. one == start + n) (discs_among trail (enumerate_from start volumes)) ≡ true
disc_among [] start n volume trail is on = absurd (cc)
disc_among (v ∷ vs) start zero volume trail is on =
    let same : v ≡ volume = cc in
    let here : (v.trail == trail) ≡ true = ap (λ x. x.trail == trail) same ∙ on in
    rw (here, eq-eqb start (start + 0) (omega arith)) refl
disc_among (v ∷ vs) start (suc n) volume trail is on =
    let rest = discs_among trail (enumerate_from (start + 1) vs) in
    let found : list_any (λ one. one == start + suc n) rest ≡ true = subst (λ m. list_any (λ one. one == m) rest ≡ true) (omega arith) (disc_among vs (start + 1) n volume trail is on) in
    cond_both (v.trail == trail) ((start, v) ∷ filter (λ numbered. numbered.1.trail == trail) (enumerate_from (start + 1) vs)) (filter (λ numbered. numbered.1.trail == trail) (enumerate_from (start + 1) vs))
    (λ xs. list_any (λ one. one == start + suc n) (map (λ numbered. numbered.0) xs) ≡ true)
    (λ e. or_right (start == start + suc n) (list_any (λ one. one == start + suc n) rest) found)
    (λ e. found)

is_disc : (config : Config) (trail disc : ℕ) (volume : Volume) → IsNumber config.volumes disc volume → (volume.trail == trail) ≡ true → is_disc_of (rules_of config trail) disc ≡ true
is_disc config trail disc volume is on =
    subst (λ n. list_any (λ one. one == n) (discs_among trail (enumerate_from 1 config.volumes)) ≡ true) (omega (arith, is.0)) (disc_among config.volumes 1 (disc - 1) volume trail is.1 on)

-- a file on one of the discs is among the files
file_among : (files : List FileLine) (discs : List ℕ) (start n : ℕ) (file : FileLine) → slice_get files n ≡ Some file → list_any (λ disc. disc == file.volume) discs ≡ true
    → list_any (λ pair. (pair.0 == start + n) && (pair.1 == file.volume)) (files_among discs (enumerate_from start files)) ≡ true
file_among [] discs start n file is on = absurd (cc)
file_among (f ∷ fs) discs start zero file is on =
    let same : f ≡ file = cc in
    let here : list_any (λ disc. disc == f.volume) discs ≡ true = ap (λ x. list_any (λ disc. disc == x.volume) discs) same ∙ on in
    rw (here, eq-eqb start (start + 0) (omega arith), eq-eqb f.volume file.volume (ap (λ x. x.volume) same)) refl
file_among (f ∷ fs) discs start (suc n) file is on =
    let test : ℕ × ℕ → Bool = λ pair. (pair.0 == start + suc n) && (pair.1 == file.volume) in
    let rest = files_among discs (enumerate_from (start + 1) fs) in
    let found : list_any test rest ≡ true = subst (λ m. list_any (λ pair. (pair.0 == m) && (pair.1 == file.volume)) rest ≡ true) (omega arith) (file_among fs discs (start + 1) n file is on) in
    let left = filter (λ numbered. list_any (λ disc. disc == numbered.1.volume) discs) (enumerate_from (start + 1) fs) in
    cond_both (list_any (λ disc. disc == f.volume) discs) ((start, f) ∷ left) left (λ xs. list_any test (map (λ numbered. (numbered.0, numbered.1.volume)) xs) ≡ true)
    (λ e. or_right (test (start, f.volume)) (list_any test rest) found)
    (λ e. found)

is_file : (config : Config) (trail number disc : ℕ) (file : FileLine) → IsNumber config.files number file → file.volume ≡ disc → is_disc_of (rules_of config trail) disc ≡ true
    → is_file_of (rules_of config trail) number disc ≡ true
is_file config trail number disc file is on among =
    let discs = discs_among trail (enumerate_from 1 config.volumes) in
    let here : list_any (λ one. one == file.volume) discs ≡ true = ap (λ d. list_any (λ one. one == d) discs) on ∙ among in
    subst (λ d. list_any (λ pair. (pair.0 == number) && (pair.1 == d)) (files_among discs (enumerate_from 1 config.files)) ≡ true) on
    (subst (λ n. list_any (λ pair. (pair.0 == n) && (pair.1 == file.volume)) (files_among discs (enumerate_from 1 config.files)) ≡ true) (omega (arith, is.0))
    (file_among config.files discs 1 (number - 1) file is.1 here))

-- a file on a volume has a line
file_line : (config : Config) (number volume : ℕ) → 1 ≤ volume → volume_of config number ≡ volume → (line : FileLine) × IsNumber config.files number line × (line.volume ≡ volume)
file_line config zero volume some is = absurd (omega (arith, some, is))
file_line config (suc n) volume some is = by_line (slice_get config.files n) refl is where
  by_line : (o : Option FileLine) → slice_get config.files n ≡ o → option_map_or (λ line. line.volume) o 0 ≡ volume → (line : FileLine) × IsNumber config.files (suc n) line × (line.volume ≡ volume)
  by_line None at own = absurd (omega (arith, some, own))
  by_line (Some line) at own = (line, (omega arith, (let same : suc n - 1 ≡ n = omega arith in ap (slice_get config.files) same ∙ at)), own)

module _ (config : Config) (volume : ℕ) (line : Volume) (is : IsNumber config.volumes volume line) where
  pub disc_named : is_disc_of (rules_of config (trail_of config volume)) volume ≡ true
  disc_named = is_disc config (trail_of config volume) volume line is (eq-eqb line.trail (trail_of config volume) (sym (trail_is config volume line is)))

  pub file_named : (file : ℕ) → volume_of config file ≡ volume → is_file_of (rules_of config (trail_of config volume)) file volume ≡ true
  file_named file own = (let one = file_line config file volume is.0 own in is_file config (trail_of config volume) file volume one.0 one.1 one.2 disc_named)

-- The configuration of the tests is valid.
use Rattle.std.specs.Prelude.{IsTrue, false, bytes_eq}
use Rattle.std.proofs.Common.{◌≡◌, ◌≢◌, ℕ, List, [], ◌∷◌, refl, sym, subst, arith}
use Rattle.std.proofs.lemmas.List.Elements.{All-from_recursion}
use Rattle.std.specs.List.{IsDistinct}
use Rattle.tmf_model.specs.declared.config.Config.{Config}
use Rattle.tmf_model.specs.declared.config.FileLine.{FileLine}
use Rattle.tmf_model.specs.declared.config.Volume.{Volume}
use Rattle.tmf_model.specs.Config.{IsDeclared, IsValidConfig, IsWithin, HasDistinctNames, monitor_name}
use Rattle.tmf_model.specs.Name.{is_file_name, is_volume_name}

abbrev pub test_trails : List (List ℕ)
test_trails = (65 ∷ []) ∷ []

abbrev pub test_volumes : List Volume
test_volumes = record { name = 36 ∷ 68 ∷ []; trail = 1 } ∷ []

abbrev pub test_files : List FileLine
test_files = record { name = 70 ∷ []; volume = 1; blocks = 2 } ∷ record { name = 71 ∷ []; volume = 1; blocks = 1 } ∷ []

distinct : (a : List ℕ) → HasDistinctNames (a ∷ [])
unfolding IsDistinct
distinct a = (tt, tt)

distinct_two : (a b : List ℕ) → bytes_eq a b ≡ false → HasDistinctNames (a ∷ b ∷ [])
unfolding IsDistinct
distinct_two a b apart = ((apart, tt), (tt, tt))

abbrev pub test_config : List (List ℕ) → List Volume → List FileLine → Config
test_config trails volumes files = record { trails = trails; volumes = volumes; files = files; cache = 64; car_count = 64; car_holds = 0; roll = 256; steps = 1000 }

no-monitor : (a : ℕ) → (a ∷ []) ≢ monitor_name
no-monitor a e = absurd (cc)

valid : IsValidConfig (test_config test_trails test_volumes test_files)
valid = record {
  trails = record {
    few = omega arith;
    named = All-from_recursion (λ name. IsTrue (is_file_name name)) test_trails (refl, tt);
    distinct = distinct (65 ∷ []);
    no_monitor = All-from_recursion (λ name. name ≢ monitor_name) test_trails (no-monitor 65, tt);
  };
  volumes = record {
    few = omega arith;
    named = All-from_recursion (λ volume. IsTrue (is_volume_name volume.name)) test_volumes (refl, tt);
    distinct = distinct (36 ∷ 68 ∷ []);
    declared = All-from_recursion (λ volume. IsDeclared test_trails volume.trail) test_volumes (record { above = omega arith; below = omega arith }, tt);
  };
  files = record {
    few = omega arith;
    named = All-from_recursion (λ file. IsTrue (is_file_name file.name)) test_files (refl, (refl, tt));
    distinct = distinct_two (70 ∷ []) (71 ∷ []) refl;
    declared = All-from_recursion (λ file. IsDeclared test_volumes file.volume) test_files (record { above = omega arith; below = omega arith }, (record { above = omega arith; below = omega arith }, tt));
    blocks = All-from_recursion (λ file. IsWithin 1 256 file.blocks) test_files (record { above = omega arith; below = omega arith }, (record { above = omega arith; below = omega arith }, tt));
  };
  cache = record { above = omega arith; below = omega arith };
  car_count = record { above = omega arith; below = omega arith };
  car_holds = omega arith;
  roll = record { above = omega arith; below = omega arith };
  steps = record { above = omega arith; below = omega arith };
}

pub test-valid : (trails : List (List ℕ)) (volumes : List Volume) (files : List FileLine) → trails ≡ test_trails → volumes ≡ test_volumes → files ≡ test_files
    → IsValidConfig (test_config trails volumes files)
test-valid trails volumes files t v f =
    subst (λ x. IsValidConfig (test_config x volumes files)) (sym t)
    (subst (λ x. IsValidConfig (test_config test_trails x files)) (sym v)
    (subst (λ x. IsValidConfig (test_config test_trails test_volumes x)) (sym f) valid))

-- The configurations of the tests are valid.
use Rattle.std.specs.Prelude.{IsTrue, false, bytes_eq}
use Rattle.std.proofs.Common.{◌≡◌, ◌≢◌, ℕ, List, [], ◌∷◌, refl, sym, subst, arith}
use Rattle.std.proofs.lemmas.List.Elements.{All-from_recursion}
use Rattle.std.specs.List.{IsDistinct}
use Rattle.tmf_model.specs.declared.config.Config.{Config}
use Rattle.tmf_model.specs.declared.config.FileLine.{FileLine}
use Rattle.tmf_model.specs.declared.config.Volume.{Volume}
use Rattle.tmf_model.specs.Config.{IsDeclared, IsValidConfig, IsWithin, HasDistinctNames, HasValidFiles, monitor_name}
use Rattle.tmf_model.specs.Name.{is_file_name, is_volume_name}

abbrev pub example_trails : List (List ℕ)
example_trails = (65 ∷ []) ∷ []

abbrev pub example_volumes : List Volume
example_volumes = record { name = 36 ∷ 68 ∷ []; trail = 1 } ∷ []

abbrev pub example_files : List FileLine
example_files = record { name = 70 ∷ []; volume = 1; blocks = 16 } ∷ []

abbrev pub two_files : List FileLine
two_files = record { name = 70 ∷ []; volume = 1; blocks = 2 } ∷ record { name = 71 ∷ []; volume = 1; blocks = 1 } ∷ []

distinct : (a : List ℕ) → HasDistinctNames (a ∷ [])
unfolding IsDistinct
distinct a = (tt, tt)

distinct_two : (a b : List ℕ) → bytes_eq a b ≡ false → HasDistinctNames (a ∷ b ∷ [])
unfolding IsDistinct
distinct_two a b apart = ((apart, tt), (tt, tt))

abbrev pub example : List (List ℕ) → List Volume → List FileLine → Config
example trails volumes files = record { trails = trails; volumes = volumes; files = files; cache = 64; car_count = 64; car_holds = 0; roll = 256; steps = 1000 }

no-monitor : (a : ℕ) → (a ∷ []) ≢ monitor_name
no-monitor a e = absurd (cc)

valid : (files : List FileLine) → HasValidFiles example_volumes files → IsValidConfig (example example_trails example_volumes files)
valid files fine = record {
  trails = record {
    few = omega arith;
    named = All-from_recursion (λ name. IsTrue (is_file_name name)) example_trails (refl, tt);
    distinct = distinct (65 ∷ []);
    no_monitor = All-from_recursion (λ name. name ≢ monitor_name) example_trails (no-monitor 65, tt);
  };
  volumes = record {
    few = omega arith;
    named = All-from_recursion (λ volume. IsTrue (is_volume_name volume.name)) example_volumes (refl, tt);
    distinct = distinct (36 ∷ 68 ∷ []);
    declared = All-from_recursion (λ volume. IsDeclared example_trails volume.trail) example_volumes (record { above = omega arith; below = omega arith }, tt);
  };
  files = fine;
  cache = record { above = omega arith; below = omega arith };
  car_count = record { above = omega arith; below = omega arith };
  car_holds = omega arith;
  roll = record { above = omega arith; below = omega arith };
  steps = record { above = omega arith; below = omega arith };
}

pub one-file-valid : HasValidFiles example_volumes example_files
one-file-valid = record {
  few = omega arith;
  named = All-from_recursion (λ file. IsTrue (is_file_name file.name)) example_files (refl, tt);
  distinct = distinct (70 ∷ []);
  declared = All-from_recursion (λ file. IsDeclared example_volumes file.volume) example_files (record { above = omega arith; below = omega arith }, tt);
  blocks = All-from_recursion (λ file. IsWithin 1 256 file.blocks) example_files (record { above = omega arith; below = omega arith }, tt);
}

pub two-files-valid : HasValidFiles example_volumes two_files
two-files-valid = record {
  few = omega arith;
  named = All-from_recursion (λ file. IsTrue (is_file_name file.name)) two_files (refl, (refl, tt));
  distinct = distinct_two (70 ∷ []) (71 ∷ []) refl;
  declared = All-from_recursion (λ file. IsDeclared example_volumes file.volume) two_files (record { above = omega arith; below = omega arith }, (record { above = omega arith; below = omega arith }, tt));
  blocks = All-from_recursion (λ file. IsWithin 1 256 file.blocks) two_files (record { above = omega arith; below = omega arith }, (record { above = omega arith; below = omega arith }, tt));
}

pub example-valid : (trails : List (List ℕ)) (volumes : List Volume) (files : List FileLine) → trails ≡ example_trails → volumes ≡ example_volumes → HasValidFiles example_volumes files
    → IsValidConfig (example trails volumes files)
example-valid trails volumes files t v fine =
    subst (λ x. IsValidConfig (example x volumes files)) (sym t)
    (subst (λ x. IsValidConfig (example example_trails x files)) (sym v) (valid files fine))

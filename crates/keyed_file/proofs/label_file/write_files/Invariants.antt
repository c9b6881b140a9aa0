use Rattle.std.proofs.Common.{◌≡◌, ◌*◌, take}
use Rattle.std.specs.Prelude.{flat_map}
use Rattle.keyed_file.specs.LabelFormat.{file_text}
use Rattle.keyed_file.proofs.label_file.write_files.Given as goal

abbrev pub invariant-loop-file : goal.invariant-loop-file
invariant-loop-file l = record {
  at : l.at ≡ 4 * l.file-index;
  written : take l.at l.entries ≡ flat_map file_text (take l.file-index l.files);
}

-- What accepted words ask for, and the command that reads them.
use Rattle.std.specs.Prelude.{ℕ, true, if◌then◌else◌, bytes_eq, codes, List, Option, Some, None, option_and_then}
use Rattle.clap.specs.Words.{App, Row, Rule, Text, first_of, new_app, new_rule, with_rule, with_subcommand}
use Rattle.tmf_words.specs.Words.{bank_of, transfers_of}
use Rattle.tmf_words.specs.declared.asked.Asked.{Asked}
use Rattle.tmf_words.specs.declared.asked.Asked.TheVariants.{Run, Bank}

-- a bank run of so many transfers, or else a run of a script
abbrev pub asked_for : Option ℕ → Asked
asked_for None = Run
asked_for (Some transfers) = Bank transfers

-- what accepted words ask for
abbrev pub asked_of : List (List ℕ) → Asked
asked_of words = asked_for (bank_of words)

-- the option `--dir`, which has a folder
abbrev pub folder_rule : Rule
folder_rule = record (new_rule (codes "dir")) { long = Some (codes "dir") }

-- the word `run`, and a folder or none
abbrev pub run_command : App
run_command = with_rule (new_app (codes "run")) folder_rule

-- the word `bank`, a folder or none, and a number of transfers
abbrev pub bank_command : App
bank_command = with_rule (with_rule (new_app (codes "bank")) folder_rule) (new_rule (codes "transfers"))

-- the command without help
abbrev pub without_help : App → App
without_help command = record command {
  top = record command.top {
    disable_help_flag = true;
    disable_help_subcommand = true;
  };
}

-- the command with nothing but its name
abbrev pub bare_program : App
bare_program = without_help (new_app (codes "tmf"))

-- the command that reads accepted words
abbrev pub program : App
program = with_subcommand (with_subcommand bare_program run_command.top) bank_command.top

-- the number of transfers that a parse by this command found: that of the subcommand `bank`
abbrev pub number_in : Option (Text × List Row) → Option ℕ
number_in None = None
number_in (Some parsed) = if bytes_eq parsed.0 (codes "bank") then option_and_then transfers_of (first_of (codes "transfers") parsed.1) else None

-- What the getters read of a subcommand that was found.
use Rattle.std.proofs.Common.{◌≡◌, ◌∙◌, true, true≢false, codes, bytes_eq, List, Option, Some, None, sym, ap, ap₂, option_map}
use Rattle.std.proofs.lemmas.Bool.{cond-true}
use Rattle.std.specs.Prelude.{is_some, option_and_then, unwrap_or}
use Rattle.std.specs.Box.{box_value}
use Rattle.clap.specs.Matches.{first_value, found_of, subcommand_name_of}
use Rattle.clap.specs.Simple.{subcommand_rows_of}
use Rattle.clap.specs.Walk.{Row, Text, rows_of}
use Rattle.clap.specs.declared.parser.matches.ArgMatches.{ArgMatches}
use Rattle.clap.specs.declared.parser.matches.ArgMatches.TheViews.{out-ArgMatches, out-SubCommand}
use Rattle.clap.proofs.WalkLemmas.{first_value-rows}
use Rattle.tmf_words.specs.Asked.{number_in}
use Rattle.tmf_words.specs.Words.{transfers_of}

-- what two parts of a value are, the value is
paired : {B X Y : Type 0} (s : Option B) (f : B → X) (g : B → Y) (x : X) (y : Y) → Some x ≡ option_map f s → Some y ≡ option_map (λ (p : X × Y). p.1) (option_map {U = X × Y} (λ b. (f b, g b)) s)
    → option_map {U = X × Y} (λ b. (f b, g b)) s ≡ Some (x, y)
paired None f g x y e d = absurd (true≢false (ap is_some e))
paired (Some b) f g x y e d = ap₂ (λ u v. Some (u, v)) (sym (ap (λ o. unwrap_or o x) e)) (sym (ap (λ o. unwrap_or o y) d))

-- the number in the matches of the subcommand `bank`, by their text
pub number_found : (found bank : ArgMatches) (name : Text) (text : Option Text) → Some name ≡ subcommand_name_of found
    → Some (rows_of (found_of bank)) ≡ option_map (λ (p : Text × List Row). p.1) (subcommand_rows_of found) → bytes_eq name (codes "bank") ≡ true → text ≡ first_value (found_of bank) (codes "transfers")
    → number_in (subcommand_rows_of found) ≡ option_and_then transfers_of text
number_found found bank name text named rows is reads =
    ap number_in (paired (out-ArgMatches found).subcommand (λ b. (out-SubCommand (box_value b)).name.now) (λ b. rows_of (found_of (out-SubCommand (box_value b)).matches)) name (rows_of (found_of bank)) named rows)
    ∙ cond-true _ _ _ is ∙ ap (option_and_then transfers_of) (sym (reads ∙ first_value-rows (found_of bank) (codes "transfers")))

-- Which text is that of a script, and what a refusal says of one.
use Rattle.std.specs.Prelude.{ℕ, List}
use Rattle.tmf_model.specs.declared.script.Script.{Script}
use Rattle.tmf_script.specs.Reading.{IsTextOf, IsRefused}
use Rattle.tmf_lines.specs.declared.script.ScriptRefusal.{ScriptRefusal}
use Rattle.tmf_lines.specs.declared.script.ScriptRefusal.TheVariants.{NoMemory, Refused}

-- the text is that of this script
abbrev pub IsScriptOf : Script → List ℕ → Type 0
IsScriptOf script text = IsTextOf text script

-- what a refusal says of the text; that memory ran out says nothing of it
abbrev pub IsRefusalOf : List ℕ → ScriptRefusal → Type 0
IsRefusalOf text NoMemory = Unit {0}
IsRefusalOf text (Refused number why) = IsRefused text number why

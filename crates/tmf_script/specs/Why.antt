-- The reasons of refusals as they are printed.
use Rattle.std.specs.Prelude.{ℕ, List, codes}
use Rattle.tmf_script.specs.declared.fault.Why.{Why}
use Rattle.tmf_script.specs.declared.fault.Why.TheVariants.{TooLong, BadByte, UnknownWord, WrongPlace, NoVolume, WrongForm, BadWord, BadNumber, UnknownName, SameName, TooMany}

-- the reason in words
abbrev pub why_text : Why → List ℕ
why_text TooLong = codes "too long"
why_text BadByte = codes "bad byte"
why_text UnknownWord = codes "unknown word"
why_text WrongPlace = codes "wrong place"
why_text NoVolume = codes "no volume"
why_text WrongForm = codes "wrong form"
why_text BadWord = codes "bad word"
why_text BadNumber = codes "bad number"
why_text UnknownName = codes "unknown name"
why_text SameName = codes "same name"
why_text TooMany = codes "too many"

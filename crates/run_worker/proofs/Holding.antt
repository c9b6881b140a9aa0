-- What one hold of a disc's lock has for a step of an attempt.
use Rattle.std.proofs.Common.{◌≡◌, true, ap, sym, subst}
use mathlib.Core.List.{IsPrefix}
use Rattle.chronicle.specs.Seats.{Sight, note_of}
use Rattle.tmf_model.specs.Script.{IsValidOp, IsValidStep, whole_file}
use Rattle.tmf_model.specs.declared.config.Config.{Config}
use Rattle.tmf_model.specs.declared.script.Op.{Op}
use Rattle.tmf_model.specs.declared.script.Op.TheVariants.{Put, Add, Del, Read, Lock}
use Rattle.tmf_model.specs.declared.script.Step.{Step}
use Rattle.node_machine.specs.Deeds.{Log}
use Rattle.node_machine.specs.Disc.{is_lock}
use Rattle.node_machine.specs.declared.event.Event.{Event}

-- the disc's seat has met a note of the attempt's
pub met_before : (old note caller disc : Sight Event) → note ≡ note_of old → IsPrefix note.seen caller.seen → disc.seen ≡ caller.seen → IsPrefix old.seen disc.seen
met_before old note caller disc is grown same = subst (λ (l : Log). IsPrefix l disc.seen) (ap (λ (v : Sight Event). v.seen) is) (subst (λ (l : Log). IsPrefix note.seen l) (sym same) grown)

-- a step that locks its file has the key that stands for the file
pub lock_key : (config : Config) (step : Step) → IsValidStep config step → is_lock step.op ≡ true → step.key ≡ whole_file
lock_key config step valid is = of step.op valid.op is
  where
    of : (op : Op) → IsValidOp step.key op → is_lock op ≡ true → step.key ≡ whole_file
    of (Put value) h e = absurd (cc (e))
    of (Add number) h e = absurd (cc (e))
    of Del h e = absurd (cc (e))
    of Read h e = absurd (cc (e))
    of Lock h e = h

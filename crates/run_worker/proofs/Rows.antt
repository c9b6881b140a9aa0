-- Worked rows: what a step makes, how far an attempt goes on, and which part is told as spent.
use Rattle.std.proofs.Common.{◌≡◌, [], ◌∷◌, None, Ok, Err, refl}
use Rattle.tmf_model.specs.Script.{whole_file}
use Rattle.tmf_model.specs.declared.script.Op.TheVariants.{Put, Read, Lock}
use Rattle.tmf_model.specs.declared.script.Step.{Step}
use Rattle.tmf_model.specs.declared.transid.Transid.{Transid}
use Rattle.node_machine.specs.declared.event.Cause.TheVariants as cause
use Rattle.node_machine.specs.declared.event.DiscEvent.TheVariants as did
use Rattle.node_machine.specs.declared.event.Event.TheVariants.{OfDisc}
use Rattle.disc_process.specs.declared.refused.WriteRefused.TheVariants as refused
use Rattle.run_outcomes.specs.Told.{read_numbers}
use Rattle.run_worker.specs.Going.{EndsAtStep}
use Rattle.run_worker.specs.Steps.{StepMakes}

first : Transid
first = record { epoch = 1; worker = 1; ordinal = 1; attempt = 1 }

other : Transid
other = record { epoch = 1; worker = 2; ordinal = 1; attempt = 1 }

read_step : Step
read_step = record { file = 1; key = 97 ∷ []; op = Read }

put_step : Step
put_step = record { file = 2; key = 98 ∷ []; op = Put (55 ∷ []) }

file_step : Step
file_step = record { file = 1; key = whole_file; op = Lock }

-- a read of a key without a value, at the disc of volume 1
row_read : StepMakes first read_step (Ok None) ((16, OfDisc (did.Read first 1 (97 ∷ []) None)) ∷ [])
unfolding first read_step
row_read = record { done = refl; found = refl; unturned = refl }

-- a put of a key that another holds, at the disc of volume 2
row_busy : StepMakes first put_step (Err (refused.Busy other)) ((17, OfDisc (did.Turn first (cause.Busy put_step other))) ∷ [])
unfolding first other put_step
row_busy = record { done = refl; found = refl; turned = refl }

-- a file of which another holds a key
row_busy_file : StepMakes first file_step (Err (refused.Busy other)) ((16, OfDisc (did.Turn first (cause.BusyFile 1 other))) ∷ [])
unfolding first other file_step
row_busy_file = record { done = refl; found = refl; turned = refl }

-- a step that is refused since a part is spent makes no act
row_spent : StepMakes first put_step (Err (refused.Spent 0)) []
row_spent = refl

-- a read, and a put that is turned away: one step is carried out, and it is the read with number 1
row_stop : EndsAtStep (read_step ∷ put_step ∷ []) 1 (cause.Busy put_step other ∷ []) 2 (refused.Busy other)
unfolding first other read_step put_step
row_stop = record { number_is = refl; step = put_step; at = refl; turned = refl }

row_numbers : read_numbers 1 (read_step ∷ put_step ∷ read_step ∷ []) ≡ 1 ∷ 3 ∷ []
unfolding read_step put_step
row_numbers = refl

-- Worked rows of what a dump device's state asks, over a volume with one file of one block, of which the device has no dump yet. Dump 1 began at position 1, and its block was
-- copied before any change.
use Rattle.std.specs.Prelude.{if◌then◌else◌}
use Rattle.std.proofs.Common.{◌≡◌, ◌≤◌, ℕ, Bool, true, false, [], ◌∷◌, Option, Some, None, inl, refl, subst, sym, arith}
use Rattle.disk_model.specs.Frame.{IsLater}
use Rattle.disk_model.specs.declared.disk.Disk as disk
use Rattle.tmf_model.specs.Config.{IsValidConfig}
use Rattle.chronicle.specs.Seats.{new_seat}
use Rattle.keyed_file.proofs.BlockCalls.{empty_block}
use Rattle.keyed_file.specs.Block.{KeyedBlock}
use Rattle.keyed_file.specs.BlockFormat.{block_text}
use Rattle.node_machine.proofs.Example.{config, found}
use Rattle.node_machine.specs.declared.event.DumpEvent.TheVariants.{Copy}
use Rattle.node_machine.specs.Opening.{opening_parts}
use Rattle.node_machine.specs.Parts.{DumpPart, Fact}
use Rattle.node_machine.specs.Parts.Fact.{Durable, Made, Started}
use Rattle.node_machine.specs.Same.{is_same_block}
use Rattle.keyed_file.specs.Volume.{IsLost}
use Rattle.audit_writer.specs.Writer.{IsHandedIn}
use Rattle.online_dump.specs.Dumper.{IsOpened, held_in}
use Rattle.online_dump.specs.Dumping.{MayBegin, MayCopyNext, MaySealAll, new_copying}
use Rattle.online_dump.specs.Filling.{HoldsDump}
use Rattle.online_dump.specs.Found.{DumpView}
use Rattle.online_dump.specs.Seat.{sight_of}

-- the dump has begun, no record is made up to position 0, and all audit up to there has landed
abbrev Known : Fact → Type 0
Known (Started disc number start) = (disc ≡ 1) × (number ≡ 1) × (start ≡ 1)
Known (Made disc position records) = (disc ≡ 1) × (position ≡ 0) × (records ≡ [])
Known (Durable disc position) = (disc ≡ 1) × (position ≡ 0)
Known _ = ⊥

abbrev new_part : DumpPart
new_part = record { config = config; number = 1; rest = None; events = [] }

-- with a copy of the one block
abbrev copied_part : ℕ → DumpPart
copied_part position = record { config = config; number = 1; rest = None; events = Copy 1 1 0 position ∷ [] }

abbrev new_block : KeyedBlock
new_block = record { file = 1; number = 0; position = 0; records = [] }

-- THE OPENING

opened : {D : Type 0} (kind : disk.Ghosts D) (faults_of : ℕ → ℕ) (premise_of : ℕ → Type 0) (devices : ℕ → Option D) (device : D) (view : DumpView D)
    → view ≡ record { device = device; volume = 1; found = None; next = None; offered = false; filled = None; whole = false }
    → IsValidConfig config → devices 13 ≡ Some device → IsLater kind device device → faults_of 13 ≤ kind.faults device
    → (premise_of 13 → (kind.tells device ≡ true) × HoldsDump kind.held view) → (premise_of 13 → IsLost (kind.held device))
    → IsOpened kind (opening_parts found) found faults_of premise_of devices (sight_of (opening_parts found) (new_seat 29)) (record { device = device; volume = 1; found = None; next = None; offered = false; filled = None; whole = false })
opened kind faults_of premise_of devices device view is valid given later before holds lost = record {
  at = record { opens = refl; seat = refl; at = refl; was = record { entry = _; is = refl; config = refl; rest = refl }; told = refl };
  valid = valid;
  none = refl;
  within = record { above = omega arith; below = omega arith };
  well = (omega arith, tt);
  volume = refl;
  rest = refl;
  next = refl;
  device = subst (λ (o : Option _). IsHandedIn kind o device) (sym given) later;
  before = before;
  as_found = subst (λ (o : Option _). kind.held device ≡ held_in kind.held o) (sym given) refl;
  holds = λ premise. (let h = holds premise in (h.0, subst (λ (v : DumpView _). HoldsDump kind.held v) is h.1));
  given = λ premise. subst (λ (o : Option _). IsLost (held_in kind.held o)) (sym given) (lost premise);
}

-- A DUMP BEGINS

may_begin : MayBegin Known new_part 1 1
may_begin = record { started = (refl, refl, refl); within = record { above = omega arith; below = omega arith }; is_new = λ named. named; certain = refl }

-- not one that is named already
not_twice : MayBegin Known (copied_part 0) 1 1 → ⊥
not_twice may = may.is_new (inl refl)

-- ITS BLOCK IS COPIED

may_copy : MayCopyNext Known (Some []) new_part (Some 0) 1 0 0 (block_text new_block) (new_copying 1 1)
may_copy = record {
  here = record { here = refl; within = omega arith };
  at = refl;
  behind = omega arith;
  records = [];
  is_made = (refl, refl, refl);
  content = new_block;
  fits = record { valid = empty_block 1 0 [] (omega arith) (omega arith) refl; home = refl };
  spelled = refl;
  values = λ key home. refl;
}

-- not at a place that is not the next one, and not a block that the volume has not
not_elsewhere : MayCopyNext Known (Some []) new_part (Some 1) 1 0 0 (block_text new_block) (new_copying 1 1) → ⊥
not_elsewhere may = (let at : Some 1 ≡ Some 0 = may.at in absurd (cc (at)))

not_another : MayCopyNext Known (Some []) new_part (Some 1) 1 1 0 (block_text new_block) (new_copying 1 1) → ⊥
not_another may = (let within = may.here.within in omega (arith, within))

-- IT IS SEALED

at_zero : (file block position : ℕ) → (if is_same_block file block 1 0 then Some 0 else None) ≡ Some position → position ≡ 0
at_zero file block position = of (is_same_block file block 1 0)
  where
    of : (b : Bool) → (if b then Some 0 else None) ≡ Some position → position ≡ 0
    of true e = (let same : 0 ≡ position = cc (e) in sym same)
    of false e = absurd (cc (e))

may_seal : MaySealAll Known (copied_part 0) (Some 1) (new_copying 1 1)
may_seal = record {
  all = refl;
  before = (refl, refl);
  landed = λ file block position at. (refl, at_zero file block position at);
  rises = λ label at. absurd (cc (at));
}

-- not while a block is left, and not before the audit of the copy has landed
not_early : MaySealAll Known new_part (Some 0) (new_copying 1 1) → ⊥
not_early may = (let all : Some 0 ≡ Some 1 = may.all in absurd (cc (all)))

not_ahead : MaySealAll Known (copied_part 2) (Some 1) (new_copying 1 1) → ⊥
not_ahead may = (let landed = may.landed 1 0 2 refl in omega (arith, landed.1))

-- Meetings of a dump device and a disc whose lock is held, and what is said behind them.
use Rattle.std.specs.Prelude.{IsSome, option_map}
use Rattle.std.specs.Option.{option_or}
use Rattle.std.proofs.Common.{◌≡◌, ℕ, ◌+◌, List, [], ◌∷◌, ◌++◌, Some, refl, ap, sym, ◌∙◌, subst}
use mathlib.Core.List.{IsPrefix}
use Rattle.chronicle.specs.Seats.{Sight, note_of, own_events}
use Rattle.tmf_model.specs.declared.transid.Transid.{Transid}
use Rattle.node_machine.specs.declared.event.By.{By}
use Rattle.node_machine.specs.declared.event.Cause.TheVariants as cause
use Rattle.node_machine.specs.declared.event.DiscEvent.TheVariants as did
use Rattle.node_machine.specs.declared.event.DumpEvent.{DumpEvent}
use Rattle.node_machine.specs.declared.event.Event.{Event}
use Rattle.node_machine.specs.declared.event.Event.TheVariants.{OfDisc}
use Rattle.node_machine.specs.Disc.{IsGreatestQuiet}
use Rattle.node_machine.specs.Made.{dumps_begun, under_way}
use Rattle.node_machine.specs.Opening.{Found}
use Rattle.node_machine.specs.Parts.{DiscPart, DumpPart, PartState}
use Rattle.disc_process.specs.Disc.{DiscView}
use Rattle.disc_process.specs.Dumping.{HasStarted, IsDumping}
use Rattle.disc_process.specs.Later.{HaveGrown}
use Rattle.disc_process.proofs.Answered.{met_same}
use Rattle.online_dump.specs.AtDisc.{HasOnlySeen, HaveMet}
use Rattle.online_dump.specs.Dumper.{Dumper, least_rest, open_dump, open_in}
use Rattle.online_dump.specs.Dumping.{HasFailed, HasPut}
use Rattle.online_dump.specs.Found.{DumpView, start_in}
use Rattle.online_dump.specs.Seat.{HasHad, HasMet, IsDumpAt}
use Rattle.online_dump.proofs.Seats.{had_none, had_then}

-- WHERE NOTHING HAS HAPPENED AT THE DEVICE

module _ {D : Type 0} (opening : List PartState) (found : Found) (v m w : Dumper D) (first : HasOnlySeen opening found v m) where
  pub seen_then : HasOnlySeen opening found m w → HasOnlySeen opening found v w
  seen_then second = record {
    seat = record { is = second.seat.is; had = had_then [] [] v.seat m.seat w.seat first.seat.had second.seat.had; knows = λ f k. second.seat.knows f (first.seat.knows f k) };
    file = second.file ∙ first.file;
    current = second.current ∙ first.current;
  }

  pub had_behind : (es : List DumpEvent) → HasHad es m.seat w.seat → HasHad es v.seat w.seat
  had_behind es had = had_then [] es v.seat m.seat w.seat first.seat.had had

  pub same_part : m.seat.part ≡ v.seat.part
  same_part = first.seat.had.part

  pub same_open : open_dump m ≡ open_dump v
  same_open = λ i. open_in (ap (λ f. f.filled) first.file i) (first.current i)

  pub same_least : least_rest m ≡ least_rest v
  same_least = ap (λ (f : DumpView D). option_or (start_in f.found) (option_map (λ l. l.start) f.next)) first.file

  pub put_behind : (file block position : ℕ) → HasPut file block position m w → HasPut file block position v w
  put_behind file block position put = record {
    c = put.c;
    was = sym same_open ∙ put.was;
    had = had_behind _ put.had;
    current_is = put.current_is;
    filled = put.filled ∙ ap (λ (s : DumpPart). Some (Rattle.online_dump.specs.Copies.place_of s file block + 1)) same_part;
  }

  pub failed_behind : (by : By) → HasFailed by m.current m w → HasFailed by v.current v w
  failed_behind by failed = record { had = had_behind _ failed.had; current_is = failed.current_is ∙ first.current }

-- THE MEETING

-- behind a note that has gone to the disc and back both have seen the same
pub meeting : {D : Type 0} (opening : List PartState) (found : Found) (old new : DiscView D) (v w : Dumper D) (gone back : Sight Event)
    → new.part ≡ old.part → new.blocks ≡ old.blocks → HaveGrown opening old.seat new.seat (note_of v.seat.sight) gone → new.seat.seen ≡ gone.seen
    → HasMet opening found v.seat w.seat gone back → HaveMet old new w
meeting opening found old new v w gone back part blocks seats same met = record {
  part = part;
  blocks = blocks;
  still = seats.disc_grown.mine;
  same = same ∙ sym (met_same v.seat.sight.seen gone.seen back.seen met.union seats.caller_grown.begins) ∙ sym met.same;
}

pub seen_met : {D : Type 0} (opening : List PartState) (found : Found) (v w : Dumper D) (gone back : Sight Event) → HasMet opening found v.seat w.seat gone back → w.file ≡ v.file → w.current ≡ v.current → HasOnlySeen opening found v w
seen_met opening found v w gone back met file current = record { seat = met.stepped; file = file; current = current }

-- a start behind the meeting, and a turn
pub started_behind : {D : Type 0} (item : Transid) (old mid new : DiscView D) (number start : ℕ) → mid.part ≡ old.part → own_events mid.seat ≡ own_events old.seat → HasStarted item mid new number start → HasStarted item old new number start
started_behind item old mid new number start part mine h = record {
  alone = sym (ap (λ (s : DiscPart). under_way s.events) part) ∙ h.alone;
  next = h.next ∙ ap (λ (s : DiscPart). dumps_begun s.events + 1) part;
  quiet = subst (λ (s : DiscPart). IsGreatestQuiet s start) part h.quiet;
  events = h.events ∙ ap (λ (l : List Event). l ++ OfDisc (did.Start number start item) ∷ []) mine;
}

pub dumping_behind : {D : Type 0} (item : Transid) (old mid new : DiscView D) → mid.part ≡ old.part → own_events mid.seat ≡ own_events old.seat → IsDumping item mid new → IsDumping item old new
dumping_behind item old mid new part mine h = record {
  busy = subst (λ (s : DiscPart). IsSome (under_way s.events)) part h.busy;
  events = h.events ∙ ap (λ (l : List Event). l ++ OfDisc (did.Turn item cause.Dumping) ∷ []) mine;
}

-- a state that has met a note since is as it was when the note was made
pub met_again : {D : Type 0} (opening : List PartState) (found : Found) (v m w : Dumper D) (gone back : Sight Event) → m ≡ v → HasMet opening found m.seat w.seat gone back → w.file ≡ m.file → w.current ≡ m.current → HasOnlySeen opening found v w
met_again {D} opening found v m w gone back same met file current = subst (λ (u : Dumper D). HasOnlySeen opening found u w) same (record { seat = met.stepped; file = file; current = current })

-- a state that has met a note, which has met a disc since it was made, has seen what the disc's seat has
pub seen_as_met : {D : Type 0} (opening : List PartState) (found : Found) (v w : Dumper D) (note gone back : Sight Event) (seen : List (ℕ × Event))
    → note ≡ note_of v.seat.sight → IsPrefix note.seen gone.seen → gone.seen ≡ seen → HasMet opening found v.seat w.seat gone back → w.seat.sight.seen ≡ seen
seen_as_met opening found v w note gone back seen is begins same met = met.same ∙ met_same v.seat.sight.seen gone.seen back.seen met.union (subst (λ (x : Sight Event). IsPrefix x.seen gone.seen) is begins) ∙ same

-- a state that meets a seat again has seen all that the seat has seen since, and the seat learns nothing new
pub seen_after : {D : Type 0} (opening : List PartState) (found : Found) (v m w : Dumper D) (a b c d : Sight Event) → HasMet opening found v.seat m.seat a b → HasMet opening found m.seat w.seat c d → IsPrefix b.seen c.seen → d.seen ≡ c.seen
seen_after opening found v m w a b c d first second begins = met_same m.seat.sight.seen c.seen d.seen second.union (subst (λ (l : List (ℕ × Event)). IsPrefix l c.seen) (sym first.same) begins)

-- a state is as it was
pub seen_none : {D : Type 0} (opening : List PartState) (found : Found) (v : Dumper D) → IsDumpAt opening found v.seat → HasOnlySeen opening found v v
seen_none opening found v is = record { seat = record { is = is; had = had_none v.seat; knows = λ f k. k }; file = refl; current = refl }

-- What an attempt did, deed by deed, is what its steps make of a map.
use Rattle.std.specs.Prelude.{◌≡◌, ℕ, zero, suc, ◌==◌, ◌&&◌, Bool, true, false, if◌then◌else◌, List, [], ◌∷◌, ◌++◌, map, fold, take, bytes_eq, Option, Some, None, Result, Ok}
use Rattle.std.specs.List.{cons_option}
use Rattle.std.proofs.Common.{refl, ap, sym, ◌∙◌, eqb-true}
use Rattle.std.proofs.lemmas.Bool.{and_parts}
use Rattle.std.proofs.lemmas.Slice.Eq.{bytes_eq-Decides}
use Rattle.tmf_model.specs.Effect.{after_step, after_steps, applied, stepped}
use Rattle.tmf_model.specs.RecordMap.{RecordMap, with_value}
use Rattle.tmf_model.specs.declared.script.Reason.{Reason}
use Rattle.tmf_model.specs.declared.script.Step.{Step}
use Rattle.tmf_model.specs.declared.transid.Transid.{Transid}
use Rattle.trail_files.specs.MonitorOrder.{is_same_transid}
use Rattle.node_machine.specs.Deeds.{Log, lock_step, step_of}
use Rattle.node_machine.specs.Law.{AreServed, Deed, deeds_of}
use Rattle.node_machine.specs.Law.Deed.{Changed, Locked, Saw}
use Rattle.node_machine.specs.Live.{after_deeds}
use Rattle.node_machine.specs.declared.event.DiscEvent.TheVariants.{Close, Draw, Drawn, Failed, Lock, Low, Lowered, Raise, Read, Release, Start, Turn, Undo, Write}
use Rattle.node_machine.specs.declared.event.Event.{Event}
use Rattle.node_machine.specs.declared.event.Event.TheVariants.{OfDisc, OfDump, OfMonitor, OfTrail, OfWorker}

-- MAPS

-- two maps have the same values
abbrev pub Agree : RecordMap → RecordMap → Type 0
Agree one other = (file : ℕ) (key : List ℕ) → one file key ≡ other file key

with_value-agree : (file : ℕ) (key : List ℕ) (value : Option (List ℕ)) (one other : RecordMap) → Agree one other → Agree (with_value file key value one) (with_value file key value other)
with_value-agree file key value one other same f k = ap (λ (v : Option (List ℕ)). if (f == file) && bytes_eq k key then value else v) (same f k)

-- a value that is there already changes nothing
with_value-same : (file : ℕ) (key : List ℕ) (map_ : RecordMap) → Agree (with_value file key (map_ file key) map_) map_
with_value-same file key map_ f k = by_case ((f == file) && bytes_eq k key) refl where
  by_case : (b : Bool) → ((f == file) && bytes_eq k key) ≡ b → (if b then map_ file key else map_ f k) ≡ map_ f k
  by_case true same = (let parts = and_parts (f == file) (bytes_eq k key) same in let one = eqb-true f file parts.0 in let two = (bytes_eq-Decides k key).0 parts.1 in sym (λ i. map_ (one i) (two i)))
  by_case false other = refl

pub after_deeds-agree : (deeds : List Deed) (one other : RecordMap) → Agree one other → Agree (after_deeds deeds one) (after_deeds deeds other)
after_deeds-agree [] one other same = same
after_deeds-agree (Changed r op ∷ deeds) one other same = after_deeds-agree deeds (with_value r.file r.key r.after one) (with_value r.file r.key r.after other) (with_value-agree r.file r.key r.after one other same)
after_deeds-agree (Saw file key value ∷ deeds) one other same = after_deeds-agree deeds one other same
after_deeds-agree (Locked file ∷ deeds) one other same = after_deeds-agree deeds one other same

pub after_deeds-append : (front rest : List Deed) (map_ : RecordMap) → after_deeds (front ++ rest) map_ ≡ after_deeds rest (after_deeds front map_)
after_deeds-append [] rest map_ = refl
after_deeds-append (Changed r op ∷ front) rest map_ = after_deeds-append front rest (with_value r.file r.key r.after map_)
after_deeds-append (Saw file key value ∷ front) rest map_ = after_deeds-append front rest map_
after_deeds-append (Locked file ∷ front) rest map_ = after_deeds-append front rest map_

-- STEPS

-- a step that is carried out leaves this map
carried : (step : Step) (map_ : RecordMap) (value : Option (List ℕ)) → applied step.op (map_ step.file step.key) ≡ Ok value → after_step (Ok map_) step ≡ Ok (with_value step.file step.key value map_)
carried step map_ value is = ap (λ (r : Result (Option (List ℕ)) Reason). stepped step r map_) is

-- what steps leave, and that it is a map
abbrev pub Leaves : List Step → RecordMap → RecordMap → Type 0
Leaves steps map_ to = (after : RecordMap) × (after_steps steps map_ ≡ Ok after) × Agree after to

one_step : (step : Step) (steps : List Step) (map_ next to : RecordMap) → after_step (Ok map_) step ≡ Ok next → Leaves steps next to → Leaves (step ∷ steps) map_ to
one_step step steps map_ next to is rest = (rest.0, ap (λ (r : Result RecordMap Reason). fold after_step r steps) is ∙ rest.1, rest.2)

-- Where each deed finds what is there, all steps are carried out.
pub served_leaves : (deeds : List Deed) (map_ own : RecordMap) → Agree own map_ → AreServed deeds map_ → Leaves (map step_of deeds) own (after_deeds deeds map_)
served_leaves [] map_ own same served = (own, refl, same)
served_leaves (Changed r op ∷ deeds) map_ own same served =
    let found : applied op (own r.file r.key) ≡ Ok r.after = ap (λ (v : Option (List ℕ)). applied op v) (same r.file r.key ∙ sym served.0) ∙ served.1 in
    one_step (step_of (Changed r op)) (map step_of deeds) own (with_value r.file r.key r.after own) (after_deeds deeds (with_value r.file r.key r.after map_)) (carried (step_of (Changed r op)) own r.after found)
    (served_leaves deeds (with_value r.file r.key r.after map_) (with_value r.file r.key r.after own) (with_value-agree r.file r.key r.after own map_ same) served.2)
served_leaves (Saw file key value ∷ deeds) map_ own same served =
    one_step (step_of (Saw file key value)) (map step_of deeds) own (with_value file key (own file key) own) (after_deeds deeds map_) refl
    (served_leaves deeds map_ (with_value file key (own file key) own) (λ f k. with_value-same file key own f k ∙ same f k) served.1)
served_leaves (Locked file ∷ deeds) map_ own same served =
    one_step (lock_step file) (map step_of deeds) own (with_value file (lock_step file).key (own file (lock_step file).key) own) (after_deeds deeds map_) refl
    (served_leaves deeds map_ (with_value file (lock_step file).key (own file (lock_step file).key) own) (λ f k. with_value-same file (lock_step file).key own f k ∙ same f k) served)

pub served_take : (n : ℕ) (deeds : List Deed) (map_ : RecordMap) → AreServed deeds map_ → AreServed (take n deeds) map_
served_take zero [] map_ served = tt
served_take zero (deed ∷ deeds) map_ served = tt
served_take (suc n) [] map_ served = tt
served_take (suc n) (Changed r op ∷ deeds) map_ served = (served.0, served.1, served_take n deeds (with_value r.file r.key r.after map_) served.2)
served_take (suc n) (Saw file key value ∷ deeds) map_ served = (served.0, served_take n deeds map_ served.1)
served_take (suc n) (Locked file ∷ deeds) map_ served = served_take n deeds map_ served

-- DEEDS

-- the deed that an entry of a history is, if it is one of this attempt
abbrev pub deed_in : Transid → ℕ × Event → Option Deed
deed_in t (part, OfDisc (Write r op)) = if is_same_transid t r.tx then Some (Changed r op) else None
deed_in t (part, OfDisc (Read u file key value)) = if is_same_transid t u then Some (Saw file key value) else None
deed_in t (part, OfDisc (Lock u file)) = if is_same_transid t u then Some (Locked file) else None
deed_in t _ = None

if_first : {A : Type 0} (b : Bool) (x : A) (xs : List A) → (if b then x ∷ xs else xs) ≡ cons_option (if b then Some x else None) xs
if_first true x xs = refl
if_first false x xs = refl

pub deeds_step : (t : Transid) (x : ℕ × Event) (log : Log) → deeds_of t (x ∷ log) ≡ cons_option (deed_in t x) (deeds_of t log)
deeds_step t (part, OfDisc (Write r op)) log = if_first (is_same_transid t r.tx) (Changed r op) (deeds_of t log)
deeds_step t (part, OfDisc (Read u file key value)) log = if_first (is_same_transid t u) (Saw file key value) (deeds_of t log)
deeds_step t (part, OfDisc (Lock u file)) log = if_first (is_same_transid t u) (Locked file) (deeds_of t log)
deeds_step t (part, OfDisc (Turn u cause)) log = refl
deeds_step t (part, OfDisc (Undo r)) log = refl
deeds_step t (part, OfDisc (Close u)) log = refl
deeds_step t (part, OfDisc (Release u)) log = refl
deeds_step t (part, OfDisc (Draw file block position)) log = refl
deeds_step t (part, OfDisc (Drawn file block)) log = refl
deeds_step t (part, OfDisc (Low position by)) log = refl
deeds_step t (part, OfDisc Lowered) log = refl
deeds_step t (part, OfDisc (Start number start item)) log = refl
deeds_step t (part, OfDisc (Raise number rest)) log = refl
deeds_step t (part, OfDisc (Failed by)) log = refl
deeds_step t (part, OfWorker e) log = refl
deeds_step t (part, OfTrail e) log = refl
deeds_step t (part, OfMonitor e) log = refl
deeds_step t (part, OfDump e) log = refl

cons_append : {A : Type 0} (o : Option A) (xs ys : List A) → cons_option o (xs ++ ys) ≡ cons_option o xs ++ ys
cons_append None xs ys = refl
cons_append (Some x) xs ys = refl

pub deeds_append : (t : Transid) (front rest : Log) → deeds_of t (front ++ rest) ≡ deeds_of t front ++ deeds_of t rest
deeds_append t [] rest = refl
deeds_append t (x ∷ front) rest =
    deeds_step t x (front ++ rest) ∙ ap (λ (l : List Deed). cons_option (deed_in t x) l) (deeds_append t front rest)
    ∙ cons_append (deed_in t x) (deeds_of t front) (deeds_of t rest) ∙ ap (λ (l : List Deed). l ++ deeds_of t rest) (sym (deeds_step t x front))

-- the deed finds what is there
abbrev pub IsServedOne : Deed → RecordMap → Type 0
IsServedOne (Changed r op) map_ = (r.before ≡ map_ r.file r.key) × (applied op r.before ≡ Ok r.after)
IsServedOne (Saw file key value) map_ = value ≡ map_ file key
IsServedOne (Locked file) map_ = Unit {0}

-- and so do those behind it
pub served_first : (deed : Deed) (deeds : List Deed) (map_ : RecordMap) → IsServedOne deed map_ → AreServed deeds (after_deeds (deed ∷ []) map_) → AreServed (deed ∷ deeds) map_
served_first (Changed r op) deeds map_ one rest = (one.0, one.1, rest)
served_first (Saw file key value) deeds map_ one rest = (one, rest)
served_first (Locked file) deeds map_ one rest = rest

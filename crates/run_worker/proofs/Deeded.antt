-- The deeds and the turns of two lists of acts in a row.
use Rattle.std.specs.Prelude.{if◌then◌else◌}
use Rattle.std.specs.List.{filter_map}
use Rattle.std.proofs.Common.{◌≡◌, Bool, true, false, List, [], ◌∷◌, ◌++◌, map, refl, ap, ◌∙◌}
use Rattle.std.proofs.lemmas.List.{map-append}
use Rattle.std.proofs.lemmas.List.Elements.{filter_map-append}
use Rattle.tmf_model.specs.declared.transid.Transid.{Transid}
use Rattle.trail_files.specs.MonitorOrder.{is_same_transid}
use Rattle.node_machine.specs.Deeds.{Log, step_of, steps_done, turn_of, turns_of, value_of, values_found}
use Rattle.node_machine.specs.Law.{Deed, deeds_of}
use Rattle.node_machine.specs.Law.Deed.{Changed, Saw, Locked}
use Rattle.node_machine.specs.declared.event.DiscEvent.TheVariants as did
use Rattle.node_machine.specs.declared.event.Event.TheVariants.{OfDisc}

one_deed : (b : Bool) (d : Deed) (l m n : List Deed) → n ≡ l ++ m → (if b then d ∷ n else n) ≡ (if b then d ∷ l else l) ++ m
one_deed true d l m n e = ap (λ (k : List Deed). d ∷ k) e
one_deed false d l m n e = e

deeds_append : (t : Transid) (xs ys : Log) → deeds_of t (xs ++ ys) ≡ deeds_of t xs ++ deeds_of t ys
deeds_append t [] ys = refl
deeds_append t ((part, OfDisc (did.Write r op)) ∷ xs) ys = one_deed (is_same_transid t r.tx) (Changed r op) (deeds_of t xs) (deeds_of t ys) (deeds_of t (xs ++ ys)) (deeds_append t xs ys)
deeds_append t ((part, OfDisc (did.Read u file key value)) ∷ xs) ys = one_deed (is_same_transid t u) (Saw file key value) (deeds_of t xs) (deeds_of t ys) (deeds_of t (xs ++ ys)) (deeds_append t xs ys)
deeds_append t ((part, OfDisc (did.Lock u file)) ∷ xs) ys = one_deed (is_same_transid t u) (Locked file) (deeds_of t xs) (deeds_of t ys) (deeds_of t (xs ++ ys)) (deeds_append t xs ys)
deeds_append t (_ ∷ xs) ys = deeds_append t xs ys

pub steps_append : (t : Transid) (xs ys : Log) → steps_done t (xs ++ ys) ≡ steps_done t xs ++ steps_done t ys
steps_append t xs ys = ap (λ (l : List Deed). map step_of l) (deeds_append t xs ys) ∙ map-append step_of (deeds_of t xs) (deeds_of t ys)

pub values_append : (t : Transid) (xs ys : Log) → values_found t (xs ++ ys) ≡ values_found t xs ++ values_found t ys
values_append t xs ys = ap (λ (l : List Deed). filter_map value_of l) (deeds_append t xs ys) ∙ filter_map-append value_of (deeds_of t xs) (deeds_of t ys)

pub turns_append : (t : Transid) (xs ys : Log) → turns_of t (xs ++ ys) ≡ turns_of t xs ++ turns_of t ys
turns_append t xs ys = filter_map-append (λ entry. turn_of t entry.1) xs ys

-- What one act of an attempt is: a deed, or a turn.
use Rattle.std.specs.List.{cons_option, filter_map}
use Rattle.std.proofs.Common.{◌≡◌, ℕ, true, List, [], ◌∷◌, map, Option, Some, None, refl, ap, sym, ◌∙◌}
use Rattle.tmf_model.specs.Script.{whole_file}
use Rattle.tmf_model.specs.declared.script.Op.{Op}
use Rattle.tmf_model.specs.declared.script.Op.TheVariants.{Put, Add, Del, Read, Lock}
use Rattle.tmf_model.specs.declared.script.Step.{Step}
use Rattle.tmf_model.specs.declared.transid.Transid.{Transid}
use Rattle.trail_files.specs.MonitorOrder.{is_same_transid}
use Rattle.trail_files.specs.declared.audit_record.AuditRecord.{AuditRecord}
use Rattle.node_machine.specs.Deeds.{Log, lock_step, step_of, steps_done, turns_of, value_of, values_found}
use Rattle.node_machine.specs.Disc.{is_lock}
use Rattle.node_machine.specs.Law.{Deed, deeds_of}
use Rattle.node_machine.specs.Law.Deed.{Changed, Saw, Locked}
use Rattle.node_machine.specs.SameLaws.{case_true, same_self}
use Rattle.node_machine.specs.declared.event.Cause.{Cause}
use Rattle.node_machine.specs.declared.event.DiscEvent.TheVariants as did
use Rattle.node_machine.specs.declared.event.Event.TheVariants.{OfDisc}

module _ (t : Transid) (p : ℕ) where
  pub deed_write : (r : AuditRecord) (op : Op) → r.tx ≡ t → deeds_of t ((p, OfDisc (did.Write r op)) ∷ []) ≡ Changed r op ∷ []
  deed_write r op same = case_true (is_same_transid t r.tx) (Changed r op ∷ []) [] (ap (λ (u : Transid). is_same_transid t u) same ∙ same_self t)

  pub deed_read : (file : ℕ) (key : List ℕ) (value : Option (List ℕ)) → deeds_of t ((p, OfDisc (did.Read t file key value)) ∷ []) ≡ Saw file key value ∷ []
  deed_read file key value = case_true (is_same_transid t t) (Saw file key value ∷ []) [] (same_self t)

  pub deed_lock : (file : ℕ) → deeds_of t ((p, OfDisc (did.Lock t file)) ∷ []) ≡ Locked file ∷ []
  deed_lock file = case_true (is_same_transid t t) (Locked file ∷ []) [] (same_self t)

  pub turn_one : (why : Cause) → turns_of t ((p, OfDisc (did.Turn t why)) ∷ []) ≡ why ∷ []
  turn_one why = ap (λ (o : Option Cause). cons_option o []) (case_true (is_same_transid t t) (Some why) None (same_self t))

  pub turn_no_deed : (why : Cause) → deeds_of t ((p, OfDisc (did.Turn t why)) ∷ []) ≡ []
  turn_no_deed why = refl

-- what deeds say of the steps and of the values
pub steps_by : (t : Transid) (acts : Log) (deeds : List Deed) → deeds_of t acts ≡ deeds → steps_done t acts ≡ map step_of deeds
steps_by t acts deeds is = ap (λ (l : List Deed). map step_of l) is

pub values_by : (t : Transid) (acts : Log) (deeds : List Deed) → deeds_of t acts ≡ deeds → values_found t acts ≡ filter_map value_of deeds
values_by t acts deeds is = ap (λ (l : List Deed). filter_map value_of l) is

pub lock_op : (op : Op) → is_lock op ≡ true → op ≡ Lock
lock_op (Put value) h = absurd (cc (h))
lock_op (Add amount) h = absurd (cc (h))
lock_op Del h = absurd (cc (h))
lock_op Read h = absurd (cc (h))
lock_op Lock h = refl

-- a step that locks its file is that of the file
pub lock_is : (step : Step) → is_lock step.op ≡ true → step.key ≡ whole_file → lock_step step.file ≡ step
lock_is step is key = (let op = lock_op step.op is in λ j. record { file = step.file; key = sym key j; op = sym op j })

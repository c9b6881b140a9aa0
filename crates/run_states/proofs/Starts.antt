-- In a list that ends with the start of an epoch nothing of that epoch has ended.
use Rattle.std.specs.Prelude.{◌≡◌, ℕ, ◌+◌, ◌<◌, ◌==◌, true, false, List, [], ◌∷◌, ◌++◌, Option, Some, None, unwrap_or}
use Rattle.std.specs.Option.{option_map_or, option_or}
use Rattle.std.proofs.Common.{refl, sym, ap, ◌∙◌, arith, eqb-true, ⊎_elim}
use Rattle.std.proofs.lemmas.Bool.{and_parts}
use Rattle.node_machine.specs.Monitor.{ended_by}
use Rattle.node_machine.specs.Same.{Among}
use Rattle.tmf_model.specs.declared.transid.Transid.{Transid}
use Rattle.trail_files.specs.MonitorOrder.{begun_epoch, has_epoch_after, last_epoch, monitor_follows}
use Rattle.trail_files.specs.RecordOrder.{each_follows}
use Rattle.trail_files.specs.declared.monitor_record.MonitorRecord.{MonitorRecord}
use Rattle.trail_files.specs.declared.monitor_record.MonitorRecord.TheVariants.{Start, Commit, Abort}

or_assoc : (a b c : Option ℕ) → option_or (option_or a b) c ≡ option_or a (option_or b c)
or_assoc None b c = refl
or_assoc (Some x) b c = refl

or_none : (o : Option ℕ) → option_or None o ≡ option_or o None
or_none None = refl
or_none (Some x) = refl

-- one more record tells, or those before it do
told_push : (list : List MonitorRecord) (r : MonitorRecord) → last_epoch (list ++ r ∷ []) ≡ option_or (begun_epoch r) (last_epoch list)
told_push [] r = or_none (begun_epoch r)
told_push (x ∷ xs) r = ap (λ (o : Option ℕ). option_or o (begun_epoch x)) (told_push xs r) ∙ or_assoc (begun_epoch r) (last_epoch xs) (begun_epoch x)

-- the epoch of the last start; 0 where there is none
abbrev epoch_of : List MonitorRecord → ℕ
epoch_of list = unwrap_or (last_epoch list) 0

-- the last start of a list that ends with one
pub last_start : (front : List MonitorRecord) (epoch : ℕ) → last_epoch (front ++ Start epoch ∷ []) ≡ Some epoch
last_start front epoch = told_push front (Start epoch)

epoch_behind : (before : List MonitorRecord) (x : MonitorRecord) (epoch : ℕ) → has_epoch_after before x ≡ true → epoch_of (before ++ x ∷ []) < epoch → epoch_of before < epoch
epoch_behind before (Start e) epoch follows lt =
    let at : e ≡ epoch_of before + 1 = eqb-true e (epoch_of before + 1) follows in
    let is : epoch_of (before ++ Start e ∷ []) ≡ e = ap (λ (o : Option ℕ). unwrap_or o 0) (told_push before (Start e)) in
    omega (arith, at, is, lt)
epoch_behind before (Commit t) epoch follows lt =
    let is : epoch_of (before ++ Commit t ∷ []) ≡ epoch_of before = ap (λ (o : Option ℕ). unwrap_or o 0) (told_push before (Commit t)) in
    omega (arith, is, lt)
epoch_behind before (Abort t) epoch follows lt =
    let is : epoch_of (before ++ Abort t ∷ []) ≡ epoch_of before = ap (λ (o : Option ℕ). unwrap_or o 0) (told_push before (Abort t)) in
    omega (arith, is, lt)

-- the start is later than all starts before
starts_later : (before xs : List MonitorRecord) (epoch : ℕ) → each_follows monitor_follows before (xs ++ Start epoch ∷ []) ≡ true → epoch_of before < epoch
starts_later before [] epoch e =
    let follows = (and_parts (has_epoch_after before (Start epoch)) _ (and_parts (monitor_follows before (Start epoch)) _ e).0).0 in
    let at : epoch ≡ epoch_of before + 1 = eqb-true epoch (epoch_of before + 1) follows in
    omega (arith, at)
starts_later before (x ∷ xs) epoch e =
    let parts = and_parts (monitor_follows before x) (each_follows monitor_follows (before ++ x ∷ []) (xs ++ Start epoch ∷ [])) e in
    epoch_behind before x epoch (and_parts (has_epoch_after before x) _ parts.0).0 (starts_later (before ++ x ∷ []) xs epoch parts.1)

of_last : (t : ℕ) (o : Option ℕ) → option_map_or (λ epoch. t == epoch) o false ≡ true → t ≡ unwrap_or o 0
of_last t None e = absurd (cc (e))
of_last t (Some n) e = eqb-true t n e

none_some : (t : Transid) → None ≡ Some t → ⊥
none_some t e = cc (e)

same_tx : (u t : Transid) → Some u ≡ Some t → u ≡ t
same_tx u t e = cc (e)

-- what a record ends is of the epoch of the last start
ends_last : (before : List MonitorRecord) (x : MonitorRecord) (t : Transid) → has_epoch_after before x ≡ true → ended_by x ≡ Some t → t.epoch ≡ epoch_of before
ends_last before (Start e) t follows ended = absurd (none_some t ended)
ends_last before (Commit u) t follows ended = ap (λ (x : Transid). x.epoch) (sym (same_tx u t ended)) ∙ of_last u.epoch (last_epoch before) follows
ends_last before (Abort u) t follows ended = ap (λ (x : Transid). x.epoch) (sym (same_tx u t ended)) ∙ of_last u.epoch (last_epoch before) follows

-- so what a record of the list ends is of an earlier epoch
pub ended_earlier : (before xs : List MonitorRecord) (epoch : ℕ) → each_follows monitor_follows before (xs ++ Start epoch ∷ []) ≡ true
    → (y : MonitorRecord) (t : Transid) → Among (xs ++ Start epoch ∷ []) y → ended_by y ≡ Some t → t.epoch < epoch
ended_earlier before [] epoch e y t there ended = ⊎_elim (λ (is : Start epoch ≡ y). absurd (none_some t (ap ended_by is ∙ ended))) (λ none. absurd none) there
ended_earlier before (x ∷ xs) epoch e y t there ended =
    let parts = and_parts (monitor_follows before x) (each_follows monitor_follows (before ++ x ∷ []) (xs ++ Start epoch ∷ [])) e in
    ⊎_elim
    (λ (is : x ≡ y).
    let at : t.epoch ≡ epoch_of before = ends_last before x t (and_parts (has_epoch_after before x) _ parts.0).0 (ap ended_by is ∙ ended) in
    let lt : epoch_of before < epoch = starts_later before (x ∷ xs) epoch e in
    omega (arith, at, lt))
    (λ more. ended_earlier (before ++ x ∷ []) xs epoch parts.1 y t more ended) there

-- The line of a run stands in the order of the monitor trail, behind what the run has found there.
use Rattle.std.specs.Prelude.{ℕ, ◌==◌, ◌<◌, ◌≤◌, ◌+◌, ◌^◌, ◌&&◌, ◌||◌, nat_le, Bool, List, [], ◌∷◌, ◌++◌, length, Option, Some, None}
use Rattle.std.proofs.Common.{◌≡◌, true, false, inl, inr, refl, ap, sym, ◌∙◌, arith, append_assoc, append-nil, length-append, eq-eqb}
use Rattle.std.proofs.lemmas.Bool.{false_from_ne_true}
use Rattle.std.proofs.lemmas.Bool.Decides.{nat_tests}
use Rattle.std.specs.Option.{option_or, option_map_or}
use Rattle.tmf_model.specs.declared.transid.Transid.{Transid}
use Rattle.trail_files.specs.declared.monitor_record.MonitorRecord.{MonitorRecord}
use Rattle.trail_files.specs.declared.monitor_record.MonitorRecord.TheVariants.{Start, Commit, Abort}
use Rattle.trail_files.specs.MonitorOrder.{begun_epoch, last_epoch, is_same_transid, is_end_of, is_ended, monitor_follows, is_monitor_order, are_placed, may_monitor_end}
use Rattle.trail_files.specs.RecordOrders.{each_follows-push, last_told-push}
use Rattle.node_machine.specs.Monitor.{ended_by, IsLater, IsRequest, AreLater}
use Rattle.node_machine.specs.Opening.{Found}
use Rattle.node_machine.specs.Same.{Among, IsBefore}
use Rattle.node_machine.specs.SameLaws.{same_is, among_append}
use Rattle.commit_boxcar.specs.Monitor.{IsFoundList}
use Rattle.commit_boxcar.proofs.Lines.{not_before}

-- what the list has of this run's attempts stands among these
abbrev pub AreRecent : ℕ → List MonitorRecord → List MonitorRecord → Type 0
AreRecent epoch list old = (y : MonitorRecord) (t : Transid) → Among list y → ended_by y ≡ Some t → t.epoch ≡ epoch → Among old y

same_false : (a b : Transid) → (a.epoch ≡ b.epoch → a.worker ≡ b.worker → IsBefore a b) → is_same_transid a b ≡ false
same_false a b before = false_from_ne_true (is_same_transid a b) (λ same.
    (let e = same_is a b same in not_before b a (inl (sym e)) (before (ap (λ (t : Transid). t.epoch) e) (ap (λ (t : Transid). t.worker) e))))

not_end : (t : Transid) (y : MonitorRecord) → ((u : Transid) → ended_by y ≡ Some u → u.epoch ≡ t.epoch → u.worker ≡ t.worker → IsBefore u t) → is_end_of t y ≡ false
not_end t (Start e) before = refl
not_end t (Commit u) before = same_false u t (before u refl)
not_end t (Abort u) before = same_false u t (before u refl)

not_ended : (list : List MonitorRecord) (t : Transid) → ((y : MonitorRecord) (u : Transid) → Among list y → ended_by y ≡ Some u → u.epoch ≡ t.epoch → u.worker ≡ t.worker → IsBefore u t) → is_ended list t ≡ false
not_ended [] t before = refl
not_ended (y ∷ ys) t before = ap (λ (b : Bool). b || is_ended ys t) (not_end t y (λ u is e w. before y u (inl refl) is e w)) ∙ not_ended ys t (λ z u there is e w. before z u (inr there) is e w)

-- an attempt of this run has not ended before
module _ (list old : List MonitorRecord) (e : ℕ) (recent : AreRecent e list old) where
  fresh : (r : MonitorRecord) (t : Transid) → ended_by r ≡ Some t → t.epoch ≡ e → ((y : MonitorRecord) → Among old y → IsLater y r) → is_ended list t ≡ false
  fresh r t r_is of later = not_ended list t (λ y u there u_is same_epoch same_worker. later y (recent y u there u_is (same_epoch ∙ of)) u t u_is r_is same_worker)

  here : (t : Transid) → t.epoch ≡ e → last_epoch list ≡ Some e → option_map_or (λ epoch. t.epoch == epoch) (last_epoch list) false ≡ true
  here t of last = ap (λ (o : Option ℕ). option_map_or (λ epoch. t.epoch == epoch) o false) last ∙ eq-eqb t.epoch e of

  follows : (r : MonitorRecord) → IsRequest e r → last_epoch list ≡ Some e → ((y : MonitorRecord) → Among old y → IsLater y r) → monitor_follows list r ≡ true
  follows (Start x) is last later = absurd is
  follows (Commit t) is last later = rw (here t is last, fresh (Commit t) t refl is later) refl
  follows (Abort t) is last later = rw (here t is last, fresh (Abort t) t refl is later) refl

none_begun : (e : ℕ) (r : MonitorRecord) → IsRequest e r → begun_epoch r ≡ None
none_begun e (Start x) is = absurd is
none_begun e (Commit t) is = refl
none_begun e (Abort t) is = refl

-- the list with requests behind it is in order, and of the same epoch
pub line_order : (list old xs : List MonitorRecord) (e : ℕ) → is_monitor_order list ≡ true → last_epoch list ≡ Some e → AreRecent e list old → AreLater old xs → ((x : MonitorRecord) → Among xs x → IsRequest e x)
    → is_monitor_order (list ++ xs) ≡ true
line_order list old [] e order last recent later each = ap is_monitor_order (append-nil list) ∙ order
line_order list old (r ∷ rs) e order last recent later each =
    ap is_monitor_order (sym (append_assoc list (r ∷ []) rs))
    ∙ line_order (list ++ r ∷ []) (r ∷ old) rs e
    (each_follows-push monitor_follows list r order (follows list old e recent r (each r (inl refl)) last later.0))
    (last_told-push begun_epoch list r ∙ ap (λ (o : Option ℕ). option_or o (last_epoch list)) (none_begun e r (each r (inl refl))) ∙ last)
    (λ y t there is of. elim (among_append list (r ∷ []) y there) [ inl a ↦ inr (recent y t a is of) | inr b ↦ elim b [ inl same ↦ inl same | inr none ↦ absurd none ] ])
    later.1 (λ x there. each x (inr there))

both : (a b : Bool) → a ≡ true → b ≡ true → (a && b) ≡ true
both a b p q = rw (p, q) refl

placed : (list : List MonitorRecord) → length list < 2 ^ 64 → are_placed list ≡ true
placed list short = grind (arith, nat_tests)

one : (n : ℕ) → 0 < n → nat_le 1 n ≡ true
one n lt = grind (arith, nat_tests)

module _ (found : Found) (before line : List MonitorRecord) (is : IsFoundList found before) where
  -- and the trail may have it
  pub trail_order : AreLater [] line → ((x : MonitorRecord) → Among line x → IsRequest found.epoch x) → length line ≤ 557192 → found.places + 2 ^ 20 < 2 ^ 64 → (is_monitor_order (before ++ line) && are_placed (before ++ line)) ≡ true
  trail_order later each few short =
      both (is_monitor_order (before ++ line)) (are_placed (before ++ line))
      (line_order before [] line found.epoch is.order is.epoch (λ y t there t_is of. absurd (is.earlier y t there t_is of)) later each)
      (placed (before ++ line) (let long = length-append before line in let many = is.many in omega (arith, long, many, few, short)))

  -- a trail has its first start
  pub trail_ends : may_monitor_end (before ++ line) ≡ true
  trail_ends = some before is.epoch
    where
      some : (l : List MonitorRecord) → last_epoch l ≡ Some found.epoch → may_monitor_end (l ++ line) ≡ true
      some [] e = absurd (cc (e))
      some (x ∷ xs) e = one (length ((x ∷ xs) ++ line)) (omega arith)

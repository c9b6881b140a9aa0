-- The headline, action by action.
use Rattle.std.specs.Prelude.{Contains, drop, max, map, flat_map, unwrap_or}
use Rattle.std.specs.List.{AllByRecursion, enumerate_from}
use Rattle.std.proofs.Common.{zero, suc, true, false, ◌≡◌, ◌⊎◌, ◌≤◌, ◌++◌, ◌∷◌, [], ℕ, Bool, List, length, Option, Some, None, refl, sym, ap, subst, ◌∙◌, inl, inr, ⊎_elim, arith}
use Rattle.std.proofs.lemmas.List.{append_assoc, append-nil}
use Rattle.std.proofs.lemmas.List.Elements.{Contains-append_left, Contains-append_right}
use Rattle.std.proofs.lemmas.Option.{none-some}
use Rattle.disk_model.specs.Held.{Held}
use Rattle.disk_model.specs.Devices.{held_at}
use Rattle.disk_model.specs.declared.fuse.Fuse.{Fuse}
use Rattle.tmf_model.specs.declared.config.Config.{Config}
use Rattle.tmf_model.specs.declared.script.Action.{Action}
use Rattle.tmf_model.specs.declared.script.Action.TheVariants as action
use Rattle.tmf_model.specs.declared.script.Phase.{Phase}
use Rattle.trail_files.specs.declared.monitor_record.MonitorRecord.{MonitorRecord}
use Rattle.trail_files.specs.declared.monitor_record.MonitorRecord.TheVariants.{Start}
use Rattle.volume_recovery.specs.Node.{next_epoch}
use Rattle.volume_recovery.proofs.Orders.{last_epoch-start}
use Rattle.tmf_lines.specs.declared.line.Line.{Line}
use Rattle.tmf_lines.specs.declared.line.Line.TheVariants.{Entry, Formatted, Listed, LoseFailed, LostVolume, Recorded, Recovered, Removed, RollFailed, Rolled}
use Rattle.tmf_lines.specs.Report.{listed_lines, lost_lines, node_device_name, recorded_lines, recovered_lines, volume_name}
use Rattle.run_outcomes.specs.declared.outcome.PhaseError.{PhaseError}
use Rattle.run_outcomes.specs.declared.outcome.PhaseError.TheVariants as phase_error
use Rattle.volume_recovery.specs.declared.errors.RecoverError.{RecoverError}
use Rattle.volume_recovery.specs.declared.errors.RecoverError.TheVariants as recovery
use Rattle.volume_recovery.specs.VolumeAnswers.{lost_among}
use Rattle.rollforward.specs.declared.errors.RollError.{RollError}
use Rattle.rollforward.specs.declared.errors.RollError.TheVariants as roll
use Rattle.rollforward.specs.RolledNode.{without}
use Rattle.tmf_cli.specs.declared.node.NodeState.{NodeState}
use Rattle.tmf_cli.specs.declared.node.Up.{Up}
use Rattle.tmf_cli.specs.Headline.{AllExtend, AreOf, CallHeadline, EndsByScript, Extends, IsOrigin, KnowsList, MayHaveLost, MayMove, RunDone, epoch_of, is_formatted, lost_behind, move_of, next_run, place_told}
use Rattle.tmf_cli.specs.OutputLaw.{Breaks, Candidate, Does, Formats, IsRecoveryLine, IsRollLine, IsRunLine, Lists, Loses, Node, OneGoesOn, OneIsLeft, OneOf, Recovers, Rolls, Runs, RunsWhole, ToldBy, after_loss, after_part_loss, after_part_roll, after_roll, after_stop, down, down_node, formatted_node, lost_node, part_lost_node, rolled_node, stopped_node, unrolled_node, with_back, with_records, with_start}
use Rattle.tmf_cli.specs.Lost.{lost_flags, lost_with, none_lost, up_for, up_with_volume, with_volume, workers_name_lost}
use Rattle.tmf_cli.specs.RunLines.{run_lines}
use Rattle.tmf_cli.proofs.Losses.{unless-some}
use Rattle.tmf_cli.proofs.Extending.{AreQuiet, AreSilent, IsQuiet, all-append, all-weaker, extend-moved, extend-more, extend-none, extend-start, silent-of, silent-unformatted}
use Rattle.tmf_cli.proofs.ThreadRuns.{extend-landed, extend-offered, run-unformatted}

pub all-map : {A B : Type 0} (P : B → Type 0) (f : A → B) → ((a : A) → P (f a)) → (xs : List A) → AllByRecursion P (map f xs)
all-map P f each [] = tt
all-map P f each (x ∷ xs) = (each x, all-map P f each xs)

pub all-drop : {A : Type 0} (P : A → Type 0) (n : ℕ) (xs : List A) → AllByRecursion P xs → AllByRecursion P (drop n xs)
all-drop P zero xs all = all
all-drop P (suc n) [] all = tt
all-drop P (suc n) (x ∷ xs) all = all-drop P n xs all.1

quiet-recovered : (config : Config) (printed : ℕ) (list : List MonitorRecord) (lost : List ℕ) (epoch : ℕ) → AreQuiet (recovered_lines config printed list lost epoch)
quiet-recovered config printed list lost epoch =
    all-append IsQuiet (drop printed (recorded_lines list) ++ lost_lines config lost) (Recovered epoch ∷ [])
    (all-append IsQuiet (drop printed (recorded_lines list)) (lost_lines config lost)
    (all-drop IsQuiet printed (recorded_lines list) (all-map IsQuiet (λ numbered. Recorded numbered.0 numbered.1) (λ a. ((refl, refl), refl)) (enumerate_from 1 list)))
    (all-map IsQuiet (λ volume. LostVolume (volume_name config volume)) (λ a. ((refl, refl), refl)) lost))
    (((refl, refl), refl), tt)

quiet-listed : (file : List ℕ) (entries : List (List ℕ × List ℕ)) → AreQuiet (listed_lines file entries)
quiet-listed file entries =
    all-append IsQuiet (map (λ entry. Entry file entry.0 entry.1) entries) (Listed file (length entries) ∷ [])
    (all-map IsQuiet (λ entry. Entry file entry.0 entry.1) (λ a. ((refl, refl), refl)) entries) (((refl, refl), refl), tt)

-- what a node says of runs does not fall
abbrev pub Rises : NodeState → NodeState → Type 0
Rises old new = (list : List MonitorRecord) → next_run old.up list ≤ next_run new.up list

next-most : (up : Option Up) (list : List MonitorRecord) → next_run up list ≤ suc (epoch_of list)
next-most None list = omega arith
next-most (Some up) list = omega arith

-- what one step of the headline says
pub record Step (config : Config) (node : Node) (lines : List Line) (after : Node) (done : Action) : Type 0 where
  pub runs : List RunDone
  pub of_action : AllByRecursion (λ run. done ≡ action.Run run.phase) runs
  pub knows : KnowsList after.state after.candidates
  pub extends : AllExtend config runs lines node.state after.state node.candidates after.candidates
  pub formatted : after.state.formatted ≡ node.state.formatted
  pub unformatted : AllByRecursion (λ line. is_formatted line ≡ false) lines

-- nothing is added, whatever may stand
pub same-all : (config : Config) (lines : List Line) (old new : NodeState) (candidates : Option (List Candidate)) → AreQuiet lines → Rises old new → AllExtend config [] lines old new candidates candidates
same-all config lines old new None quiet rises = refl
same-all config lines old new (Some before) quiet rises = (before, refl, λ t one. (t, one, extend-none config (next_run old.up t.list) (next_run new.up t.list) lines t (rises t.list) quiet))

-- where each standing stays or becomes another one, one of them is the one or the other of one before
from-either : (f : Candidate → Candidate) (t : Candidate) (before : List Candidate) → OneOf (λ o. o ≡ t) (flat_map (λ s. s ∷ f s ∷ []) before) → (s : Candidate) × OneOf (λ o. o ≡ s) before × ((s ≡ t) ⊎ (f s ≡ t))
from-either f t [] one = absurd one
from-either f t (s ∷ rest) (inl is) = (s, inl refl, inl is)
from-either f t (s ∷ rest) (inr (inl is)) = (s, inl refl, inr is)
from-either f t (s ∷ rest) (inr (inr one)) = let found = from-either f t rest one in (found.0, inr found.1, found.2)

from-each : (f : Candidate → Candidate) (t : Candidate) (before : List Candidate) → OneOf (λ o. o ≡ t) (map f before) → (s : Candidate) × OneOf (λ o. o ≡ s) before × (f s ≡ t)
from-each f t [] one = absurd one
from-each f t (s ∷ rest) (inl is) = (s, inl refl, is)
from-each f t (s ∷ rest) (inr one) = let found = from-each f t rest one in (found.0, inr found.1, found.2)

start-epoch : (list : List MonitorRecord) → epoch_of (list ++ Start (next_epoch list) ∷ []) ≡ next_epoch list
start-epoch list = ap (λ o. unwrap_or o 0) (last_epoch-start list (next_epoch list))

start-rises : (old new : Option Up) (list : List MonitorRecord) → next_run old list ≤ next_run new (list ++ Start (next_epoch list) ∷ [])
start-rises old None list = omega (arith, next-most old list, start-epoch list)
start-rises old (Some up) list = omega (arith, next-most old list, start-epoch list)

stop-all : (config : Config) (lines : List Line) (old : NodeState) (candidates : Option (List Candidate)) → AreQuiet lines → AllExtend config [] lines old (down old) candidates (after_stop candidates)
stop-all config lines old None quiet = refl
stop-all config lines old (Some before) quiet = (
  flat_map (λ s. s ∷ with_start s ∷ []) before,
  refl,
  λ t one.
      let found = from-either with_start t before one in
      let s = found.0 in (
        s,
        found.1,
        ⊎_elim
            (λ is. subst (λ u. Extends config (next_run old.up s.list) (next_run None u.list) [] lines s u) is (extend-none config (next_run old.up s.list) (suc (epoch_of s.list)) lines s (next-most old.up s.list) quiet))
            (λ is. subst (λ u. Extends config (next_run old.up s.list) (next_run None u.list) [] lines s u) is (extend-start config (next_run old.up s.list) (next_run None (with_start s).list) lines s (start-rises old.up None s.list) quiet))
            found.2,
      ),
)

-- where a volume is lost or comes back, list and map stay
module _ (config : Config) (moves : List ℕ → List ℕ) (lines : List Line) (old new : NodeState) (rises : Rises old new) (silent : AreSilent lines) (tells : (lost : List ℕ) → MayHaveLost config lines lost (moves lost)) where
  abbrev moved : Candidate → Candidate
  moved s = record { list = s.list; map = s.map; lost = moves s.lost }

  moved-all : (before : List Candidate) → AllExtend config [] lines old new (Some before) (Some (map moved before))
  moved-all before = (
    map moved before,
    refl,
    λ t one.
        let found = from-each moved t before one in
        let s = found.0 in (
          s,
          found.1,
          subst (λ u. Extends config (next_run old.up s.list) (next_run new.up u.list) [] lines s u) found.2
              (extend-moved config (next_run old.up s.list) (next_run new.up s.list) lines (moves s.lost) s (rises s.list) silent (tells s.lost)),
        ),
  )

  part-moved-all : ((lost : List ℕ) → MayHaveLost config lines lost lost) → (before : List Candidate) → AllExtend config [] lines old new (Some before) (Some (flat_map (λ s. s ∷ moved s ∷ []) before))
  part-moved-all keeps before = (
    flat_map (λ s. s ∷ moved s ∷ []) before,
    refl,
    λ t one.
        let found = from-either moved t before one in
        let s = found.0 in (
          s,
          found.1,
          ⊎_elim
              (λ is. subst (λ u. Extends config (next_run old.up s.list) (next_run new.up u.list) [] lines s u) is (extend-moved config (next_run old.up s.list) (next_run new.up s.list) lines s.lost s (rises s.list) silent (keeps s.lost)))
              (λ is. subst (λ u. Extends config (next_run old.up s.list) (next_run new.up u.list) [] lines s u) is
              (extend-moved config (next_run old.up s.list) (next_run new.up s.list) lines (moves s.lost) s (rises s.list) silent (tells s.lost)))
              found.2,
        ),
  )

down-rises : (state : NodeState) → Rises state (down state)
down-rises state list = next-most state.up list

with-rises : (volume : ℕ) (state : NodeState) → Rises state (with_volume volume state)
with-rises volume state list = of state.up
  where
    of : (up : Option Up) → next_run up list ≤ next_run (with_volume volume (record state { up = up })).up list
    of None = omega arith
    of (Some up) = omega arith

-- a line tells what was done to a volume
module _ (config : Config) (volume : ℕ) (line : Line) where
  tells-whole : (back whole : Bool) → move_of line ≡ Some (record { volume = volume_name config volume; back = back; whole = whole }) → (lost : List ℕ) → MayHaveLost config (line ∷ []) lost (lost_behind config volume back lost)
  tells-whole back whole is lost = (
    lost_behind config volume back lost,
    subst (λ m. MayMove config m lost (lost_behind config volume back lost)) (sym is) (volume, refl, inl refl),
    refl,
  )

  tells-part : (back : Bool) → move_of line ≡ Some (record { volume = volume_name config volume; back = back; whole = false }) → (lost : List ℕ) → MayHaveLost config (line ∷ []) lost lost
  tells-part back is lost = (lost, subst (λ m. MayMove config m lost lost) (sym is) (volume, refl, inr (refl, refl)), refl)

module _ (config : Config) (volume : ℕ) (lines : List Line) (old : NodeState) (silent : AreSilent lines) where
  -- these lines tell that it was lost, or rolled forward; or that it may be
  abbrev pub Tells : Bool → Type 0
  Tells back = (lost : List ℕ) → MayHaveLost config lines lost (lost_behind config volume back lost)

  abbrev pub Keeps : Type 0
  Keeps = (lost : List ℕ) → MayHaveLost config lines lost lost

  loss-all : Tells false → (candidates : Option (List Candidate)) → AllExtend config [] lines old (down old) candidates (after_loss config volume candidates)
  loss-all tells None = refl
  loss-all tells (Some before) = moved-all config (lost_with config volume) lines old (down old) (down-rises old) silent tells before

  part-loss-all : Tells false → Keeps → (candidates : Option (List Candidate)) → AllExtend config [] lines old (down old) candidates (after_part_loss config volume candidates)
  part-loss-all tells keeps None = refl
  part-loss-all tells keeps (Some before) = part-moved-all config (lost_with config volume) lines old (down old) (down-rises old) silent tells keeps before

  roll-all : Tells true → (candidates : Option (List Candidate)) → AllExtend config [] lines old (with_volume volume old) candidates (after_roll volume candidates)
  roll-all tells None = refl
  roll-all tells (Some before) = moved-all config (without volume) lines old (with_volume volume old) (with-rises volume old) silent tells before

  part-roll-all : Tells true → Keeps → (candidates : Option (List Candidate)) → AllExtend config [] lines old (down old) candidates (after_part_roll volume candidates)
  part-roll-all tells keeps None = refl
  part-roll-all tells keeps (Some before) = part-moved-all config (without volume) lines old (down old) (down-rises old) silent tells keeps before

-- a node that is up knows its list also behind a rollforward
back-knows : (volume : ℕ) (state : NodeState) (candidates : Option (List Candidate)) → KnowsList state candidates → KnowsList (with_volume volume state) (after_roll volume candidates)
back-knows volume state None knows = tt
back-knows volume state (Some standings) knows = λ up t is one.
    let found = from-each (with_back volume) t standings one in
    let was = before state.up up is in
    was.2 ∙ knows was.0 found.0 was.1 found.1 ∙ ap (λ (c : Candidate). epoch_of c.list) found.2
  where
    before : (o : Option Up) (up : Up) → (with_volume volume (record state { up = o })).up ≡ Some up → (u : Up) × (o ≡ Some u) × (up.epoch ≡ u.epoch)
    before None up is = absurd (cc is)
    before (Some u) up is = let same : up_with_volume volume u ≡ up = cc is in (u, refl, ap (λ (x : Up). x.epoch) (sym same))

pub down-knows : (state : NodeState) (candidates : Option (List Candidate)) → state.up ≡ None → KnowsList state candidates
down-knows state None none = tt
down-knows state (Some standings) none = λ up s is one. absurd (none-some up (sym none ∙ is))

-- a step that adds nothing: its lines tell of no commit
quiet-step : (config : Config) (node after : Node) (lines : List Line) (done : Action) → AreSilent lines → KnowsList after.state after.candidates → after.state.formatted ≡ node.state.formatted
    → AllExtend config [] lines node.state after.state node.candidates after.candidates → Step config node lines after done
quiet-step config node after lines done silent knows formatted extends = record {
  runs = [];
  of_action = tt;
  knows = knows;
  extends = extends;
  formatted = formatted;
  unformatted = silent-unformatted lines silent;
}

-- an action after which the same may stand, and the node is as it was
stays : (config : Config) (node after : Node) (lines : List Line) (done : Action) → KnowsList node.state node.candidates → after ≡ node → AreQuiet lines → Step config node lines after done
stays config node after lines done knows is quiet =
    subst (λ a. Step config node lines a done) (sym is) (quiet-step config node node lines done (silent-of lines quiet) knows refl (same-all config lines node.state node.state node.candidates quiet (λ list. omega arith)))

-- where each image may stand for what stood, with the next Start or without it
stop-step : (config : Config) (node after : Node) (lines : List Line) (kill : Option ℕ) → after ≡ stopped_node node → AreQuiet lines → Step config node lines after (action.Recover kill)
stop-step config node after lines kill is quiet =
    subst (λ a. Step config node lines a (action.Recover kill)) (sym is)
    (quiet-step config node (stopped_node node) lines (action.Recover kill) (silent-of lines quiet) (down-knows (down node.state) (after_stop node.candidates) refl) refl (stop-all config lines node.state node.candidates quiet))

-- lines of which none is an outcome
quiet-one : (line : Line) (lines : List Line) → place_told line ≡ None → is_formatted line ≡ false → move_of line ≡ None → lines ≡ line ∷ [] → AreQuiet lines
quiet-one line lines quiet unformatted still is = subst AreQuiet (sym is) (((quiet, unformatted), still), tt)

silent-one : (line : Line) (lines : List Line) → place_told line ≡ None → is_formatted line ≡ false → lines ≡ line ∷ [] → AreSilent lines
silent-one line lines quiet unformatted is = subst AreSilent (sym is) ((quiet, unformatted), tt)

-- what holds of each of two
each-of-two : {T : Type 0} (P : T → Type 0) (x y t : T) → OneOf (λ o. o ≡ t) (x ∷ y ∷ []) → P x → P y → P t
each-of-two P x y t (inl here) px py = subst P here px
each-of-two P x y t (inr (inl here)) px py = subst P here py
each-of-two P x y t (inr (inr none)) px py = absurd none

all-more : (config : Config) (first more : List RunDone) (lines others : List Line) (a b c : NodeState) (one two three : Option (List Candidate)) → AllExtend config first lines a b one two → AllExtend config more others b c two three
    → AllExtend config (first ++ more) (lines ++ others) a c one three
all-more config first more lines others a b c None two three is later = subst (λ m. AllExtend config more others b c m three) is later
all-more config first more lines others a b c (Some before) two three (standings, is, each) later =
    let behind = subst (λ m. AllExtend config more others b c m three) is later in (
      behind.0,
      behind.1,
      λ u one.
          let at = behind.2 u one in
          let from = each at.0 at.1 in
          (from.0, from.1, extend-more config (next_run a.up from.0.list) (next_run b.up at.0.list) (next_run c.up u.list) first more lines others from.0 at.0 u from.2 at.2),
    )

-- a node for a run is up
up-of : (config : Config) (phase : Phase) (state : NodeState) (up : Up) → up_for config phase state ≡ Some up → state.up ≡ Some up
up-of config phase state up may = (unless-some (λ u. workers_name_lost config u.lost phase.workers) state.up up may).0

module _ {D : Type 0} (held : D → Held) (faults : D → ℕ) (config : Config) where
  continues-all : (lines : List Line) (old : NodeState) (formatted : Bool) (printed : ℕ) (candidates after : Option (List Candidate)) (list : List MonitorRecord) (lost : List ℕ) → OneIsLeft candidates list lost after → AreQuiet lines
      → let state : NodeState = record { up = Some (record { epoch = next_epoch list; lost = lost_flags lost }); formatted = formatted; printed = printed } in KnowsList state after × AllExtend config [] lines old state candidates after
  continues-all lines old formatted printed None after list lost is quiet =
      let state : NodeState = record { up = Some (record { epoch = next_epoch list; lost = lost_flags lost }); formatted = formatted; printed = printed } in
      (subst (KnowsList state) (sym is) tt, is)
  continues-all lines old formatted printed (Some before) after list lost is quiet =
      let s : Candidate = record { list = list; map = is.0; lost = lost } in
      let now : Up = record { epoch = next_epoch list; lost = lost_flags lost } in
      let state : NodeState = record { up = Some now; formatted = formatted; printed = printed } in (
        subst (KnowsList state) (sym is.2) (λ up t was one. ⊎_elim
            (λ here. subst (λ (u : Candidate). up.epoch ≡ epoch_of u.list) here (subst (λ (u : Up). u.epoch ≡ epoch_of (with_start s).list) (up_same now up was) (sym (start-epoch list))))
            (λ none. absurd none) one),
        (
          with_start s ∷ [],
          is.2,
          λ t one. (
            s,
            is.1,
            ⊎_elim
                (λ here. subst (λ u. Extends config (next_run old.up list) (epoch_of u.list) [] lines s u) here
                (extend-start config (next_run old.up list) (epoch_of (with_start s).list) lines s (start-rises old.up (Some now) list) quiet))
                (λ none. absurd none) one,
          ),
        ),
      )
    where
      up_same : (a b : Up) → Some a ≡ Some b → a ≡ b
      up_same a b e = ap (λ o. unwrap_or o a) e

  recover-step : (node after : Node) (old new : List (Fuse D)) (lines : List Line) (kill : Option ℕ) → KnowsList node.state node.candidates → Recovers held faults config node old lines after new → Step config node lines after (action.Recover kill)
  recover-step node after old new lines kill knows (inl (formatted, lines_are, same, devices)) = stays config node after lines (action.Recover kill) knows same (quiet-one _ lines refl refl refl lines_are)
  recover-step node after old new lines kill knows (inr (inl (formatted, whole))) =
      let quiet = subst AreQuiet (sym whole.printed) (quiet-recovered config node.state.printed whole.list (lost_among whole.images (length config.volumes)) (next_epoch whole.list)) in
      let all = continues-all lines node.state true (max node.state.printed (length whole.list)) node.candidates after.candidates whole.list (lost_among whole.images (length config.volumes)) whole.stands quiet in
      quiet-step config node after lines (action.Recover kill) (silent-of lines quiet) (subst (λ s. KnowsList s after.candidates) (sym whole.state) all.0) (ap (λ (s : NodeState). s.formatted) whole.state ∙ sym formatted)
      (subst (λ s. AllExtend config [] lines node.state s node.candidates after.candidates) (sym whole.state) all.1)
  recover-step node after old new lines kill knows (inr (inr (formatted, refused))) = stop-step config node after lines kill refused.stopped (subst AreQuiet (sym refused.printed) (quiet-line refused.error refused.line refused.is_line, tt))
    where
      quiet-line : (error : RecoverError) (line : Line) → IsRecoveryLine config error line → IsQuiet line
      quiet-line (recovery.Failed device) line is = subst IsQuiet (sym is) ((refl, refl), refl)
      quiet-line (recovery.Damaged device damage) line is = subst IsQuiet (sym is) ((refl, refl), refl)
      quiet-line recovery.EpochsSpent line is = subst IsQuiet (sym is) ((refl, refl), refl)
      quiet-line recovery.NoMemory line is = absurd is

  list-step : (node after : Node) (old new : List (Fuse D)) (lines : List Line) (file : ℕ) → KnowsList node.state node.candidates → Lists held faults config file node old lines after new → Step config node lines after (action.List file)
  list-step node after old new lines file knows (inl (not_up, lines_are, same, devices)) = stays config node after lines (action.List file) knows same (quiet-one _ lines refl refl refl lines_are)
  list-step node after old new lines file knows (inr (up, same, hold, inl listed)) = stays config node after lines (action.List file) knows same (subst AreQuiet (sym listed.2) (quiet-listed _ listed.0))
  list-step node after old new lines file knows (inr (up, same, hold, inr failed)) = stays config node after lines (action.List file) knows same (quiet-one _ lines refl refl refl failed.2)

  lose-step : (node after : Node) (old new : List (Fuse D)) (lines : List Line) (volume : ℕ) → Loses held faults config volume node old lines after new → Step config node lines after (action.Lose volume)
  lose-step node after old new lines volume (leaves, inl (lines_are, gone, is)) =
      let silent : AreSilent lines = silent-one _ lines refl refl lines_are in
      let tells : Tells config volume lines node.state silent false = λ lost. subst (λ l. MayHaveLost config l lost (lost_behind config volume false lost)) (sym lines_are) (tells-whole config volume (Removed (volume_name config volume)) false true refl lost) in
      subst (λ a. Step config node lines a (action.Lose volume)) (sym is)
      (quiet-step config node (lost_node config volume node) lines (action.Lose volume) silent (down-knows (down node.state) (after_loss config volume node.candidates) refl) refl
      (loss-all config volume lines node.state silent tells node.candidates))
  lose-step node after old new lines volume (leaves, inr (failed, is)) =
      let silent : AreSilent lines = silent-one _ lines refl refl failed.2 in
      let tells : Tells config volume lines node.state silent false = λ lost. subst (λ l. MayHaveLost config l lost (lost_behind config volume false lost)) (sym failed.2) (tells-whole config volume (LoseFailed (volume_name config volume)) false false refl lost) in
      let keeps : Keeps config volume lines node.state silent = λ lost. subst (λ l. MayHaveLost config l lost lost) (sym failed.2) (tells-part config volume (LoseFailed (volume_name config volume)) false refl lost) in
      subst (λ a. Step config node lines a (action.Lose volume)) (sym is)
      (quiet-step config node (part_lost_node config volume node) lines (action.Lose volume) silent (down-knows (down node.state) (after_part_loss config volume node.candidates) refl) refl
      (part-loss-all config volume lines node.state silent tells keeps node.candidates))

  -- a rollforward that was refused adds nothing
  refused-step : (node : Node) (lines : List Line) (volume : ℕ) (kill : Option ℕ) (error : RollError) (line : Line) → KnowsList node.state node.candidates → IsRollLine config volume error line → lines ≡ line ∷ []
      → Step config node lines (unrolled_node volume error node) (action.Rollforward volume kill)
  refused-step node lines volume kill roll.NotLost line knows is printed =
      stays config node node lines (action.Rollforward volume kill) knows refl (quiet-one _ lines refl refl refl (printed ∙ ap (λ l. l ∷ []) is))
  refused-step node lines volume kill roll.NoDump line knows is printed =
      stays config node node lines (action.Rollforward volume kill) knows refl (quiet-one _ lines refl refl refl (printed ∙ ap (λ l. l ∷ []) is))
  refused-step node lines volume kill (roll.Failed device) line knows is printed =
      let lines_are = printed ∙ ap (λ l. l ∷ []) is in
      let silent : AreSilent lines = silent-one _ lines refl refl lines_are in
      let tells : Tells config volume lines node.state silent true = λ lost. subst (λ l. MayHaveLost config l lost (lost_behind config volume true lost)) (sym lines_are) (tells-whole config volume (RollFailed (volume_name config volume) (node_device_name config device)) true false refl lost) in
      let keeps : Keeps config volume lines node.state silent = λ lost. subst (λ l. MayHaveLost config l lost lost) (sym lines_are) (tells-part config volume (RollFailed (volume_name config volume) (node_device_name config device)) true refl lost) in
      quiet-step config node (unrolled_node volume (roll.Failed device) node) lines (action.Rollforward volume kill) silent (down-knows (down node.state) (after_part_roll volume node.candidates) refl) refl
      (part-roll-all config volume lines node.state silent tells keeps node.candidates)
  refused-step node lines volume kill (roll.Damaged device damage) line knows is printed =
      let quiet : AreQuiet lines = quiet-one _ lines refl refl refl (printed ∙ ap (λ l. l ∷ []) is) in
      quiet-step config node (unrolled_node volume (roll.Damaged device damage) node) lines (action.Rollforward volume kill) (silent-of lines quiet) (down-knows (down node.state) node.candidates refl) refl
      (same-all config lines node.state (down node.state) node.candidates quiet (down-rises node.state))
  refused-step node lines volume kill roll.NoMemory line knows is printed = absurd is

  roll-step : (node after : Node) (old new : List (Fuse D)) (lines : List Line) (volume : ℕ) (kill : Option ℕ) → KnowsList node.state node.candidates → Rolls held faults config volume node old lines after new
      → Step config node lines after (action.Rollforward volume kill)
  roll-step node after old new lines volume kill knows (inl (not_up, lines_are, same, devices)) = stays config node after lines (action.Rollforward volume kill) knows same (quiet-one _ lines refl refl refl lines_are)
  roll-step node after old new lines volume kill knows (inr (leaves, inl whole)) =
      let silent : AreSilent lines = silent-one _ lines refl refl whole.printed in
      let tells : Tells config volume lines node.state silent true = λ lost. subst (λ l. MayHaveLost config l lost (lost_behind config volume true lost)) (sym whole.printed) (tells-whole config volume (Rolled (volume_name config volume) whole.next) true true refl lost) in
      subst (λ a. Step config node lines a (action.Rollforward volume kill)) (sym whole.rolled)
      (quiet-step config node (rolled_node volume node) lines (action.Rollforward volume kill) silent (back-knows volume node.state node.candidates knows) refl (roll-all config volume lines node.state silent tells node.candidates))
  roll-step node after old new lines volume kill knows (inr (leaves, inr refused)) =
      subst (λ a. Step config node lines a (action.Rollforward volume kill)) (sym refused.refused)
      (refused-step node lines volume kill refused.error refused.line knows refused.is_line refused.printed)

  -- the one run of an action
  abbrev pub one_done : Up → Phase → List RunDone
  one_done up phase = record { epoch = up.epoch; phase = phase } ∷ []

  -- each of what stands behind a whole run extends what it was begun on
  run-all : (phase : Phase) (node after : Node) (old new : List (Fuse D)) (lines : List Line) → KnowsList node.state node.candidates → (whole : RunsWhole held faults config phase node old lines after new)
      → AllExtend config (one_done whole.up phase) lines node.state (down node.state) node.candidates after.candidates
  run-all phase node after old new lines knows whole = of-may node.candidates after.candidates knows whole.stands
    where
      was_up : node.state.up ≡ Some whole.up
      was_up = up-of config phase node.state whole.up whole.was_up

      of-may : (candidates left : Option (List Candidate)) → KnowsList node.state candidates → OneGoesOn config phase whole.up.epoch (held_at held whole.opened) whole.outcomes candidates left
          → AllExtend config (one_done whole.up phase) lines node.state (down node.state) candidates left
      of-may None left known is = is
      of-may (Some before) left known (s, one, is_up, goes) =
          let of = known whole.up s was_up one in
          let landed = with_records phase whole.up.epoch goes.landed s in
          let offered = with_records phase whole.up.epoch (goes.landed ++ goes.offered) s in (
            landed ∷ offered ∷ [],
            goes.candidates,
            λ t is. (
              s,
              one,
              subst (λ o. Extends config (next_run o s.list) (suc (epoch_of t.list)) (one_done whole.up phase) lines s t) (sym was_up)
                  (subst (λ l. Extends config (epoch_of s.list) (suc (epoch_of t.list)) (one_done whole.up phase) l s t) (sym whole.printed)
                  (each-of-two (λ u. Extends config (epoch_of s.list) (suc (epoch_of u.list)) (one_done whole.up phase) (run_lines config whole.outcomes) s u) landed offered t is
                  (extend-landed config phase whole.up.epoch s whole.outcomes left of whole.ran.attempts goes)
                  (extend-offered config phase whole.up.epoch s whole.outcomes left of whole.ran.attempts goes))),
            ),
          )

  whole-step : (phase : Phase) (node after : Node) (old new : List (Fuse D)) (lines : List Line) → KnowsList node.state node.candidates → RunsWhole held faults config phase node old lines after new → Step config node lines after (action.Run phase)
  whole-step phase node after old new lines knows whole = record {
    runs = one_done whole.up phase;
    of_action = (refl, tt);
    knows = subst (λ s. KnowsList s after.candidates) (sym whole.state) (down-knows (down node.state) after.candidates refl);
    extends = subst (λ s. AllExtend config (one_done whole.up phase) lines node.state s node.candidates after.candidates) (sym whole.state) (run-all phase node after old new lines knows whole);
    formatted = ap (λ (s : NodeState). s.formatted) whole.state;
    unformatted = subst (AllByRecursion (λ line. is_formatted line ≡ false)) (sym whole.printed) (run-unformatted config whole.outcomes);
  }

  -- a run that takes the node down, and of which no worker has begun, adds nothing
  idle-step : (phase : Phase) (node after : Node) (lines : List Line) → after ≡ down_node node → AreQuiet lines → Step config node lines after (action.Run phase)
  idle-step phase node after lines is quiet =
      subst (λ a. Step config node lines a (action.Run phase)) (sym is)
      (quiet-step config node (down_node node) lines (action.Run phase) (silent-of lines quiet) (down-knows (down node.state) node.candidates refl) refl
      (same-all config lines node.state (down node.state) node.candidates quiet (down-rises node.state)))

  run-step : (phase : Phase) (node after : Node) (old new : List (Fuse D)) (lines : List Line) → KnowsList node.state node.candidates → Runs held faults config phase node old lines after new → Step config node lines after (action.Run phase)
  run-step phase node after old new lines knows (inl (not_up, lines_are, same, devices)) = stays config node after lines (action.Run phase) knows same (quiet-one _ lines refl refl refl lines_are)
  run-step phase node after old new lines knows (inr (inl whole)) = whole-step phase node after old new lines knows whole
  run-step phase node after old new lines knows (inr (inr not_run)) =
      idle-step phase node after lines not_run.left (subst AreQuiet (sym not_run.printed) (quiet-line not_run.error not_run.line not_run.is_line, tt))
    where
      quiet-line : (error : PhaseError) (line : Line) → IsRunLine config error line → IsQuiet line
      quiet-line (phase_error.Failed device) line is = subst IsQuiet (sym is) ((refl, refl), refl)
      quiet-line (phase_error.Damaged device damage) line is = subst IsQuiet (sym is) ((refl, refl), refl)
      quiet-line phase_error.NoMemory line is = absurd is

  -- a format begins anew, or leaves the node unformatted
  abbrev pub Anew : Node → List Line → Type 0
  Anew after lines = ((after ≡ formatted_node) × (lines ≡ Formatted ∷ [])) ⊎ ((after.candidates ≡ None) × (after.state.formatted ≡ false))

  format-knows : (node after : Node) (old new : List (Fuse D)) (lines : List Line) → Formats held faults config node old lines after new → KnowsList after.state after.candidates × Anew after lines
  format-knows node after old new lines (inl (lines_are, is, dumps)) = (
    subst (λ (a : Node). KnowsList a.state a.candidates) (sym is)
        (λ up s was one. ⊎_elim
        (λ here. subst (λ (u : Candidate). up.epoch ≡ epoch_of u.list) here (subst (λ (u : Up). u.epoch ≡ 1) (up_same (record { epoch = 1; lost = none_lost }) up was) refl))
        (λ none. absurd none) one),
    inl (is, lines_are),
  )
    where
      up_same : (a b : Up) → Some a ≡ Some b → a ≡ b
      up_same a b e = ap (λ o. unwrap_or o a) e
  format-knows node after old new lines (inr (failed, is)) =
      (subst (λ (a : Node). KnowsList a.state a.candidates) (sym is) tt, inr (ap (λ (a : Node). a.candidates) is, ap (λ (a : Node). a.state.formatted) is))

  more-of : (done : Action) (rest : List Action) (runs : List RunDone) → AreOf rest runs → AreOf (done ∷ rest) runs
  more-of done rest runs of =
      all-weaker (λ run. Contains rest (action.Run run.phase)) (λ run. Contains (done ∷ rest) (action.Run run.phase)) (λ run is. Contains-append_right (done ∷ []) rest (action.Run run.phase) is) runs of

  first-of : (done : Action) (rest : List Action) (runs : List RunDone) → AllByRecursion (λ run. done ≡ action.Run run.phase) runs → AreOf (done ∷ rest) runs
  first-of done rest runs of = all-weaker (λ run. done ≡ action.Run run.phase) (λ run. Contains (done ∷ rest) (action.Run run.phase)) (λ run is. (0, omega arith, is)) runs of

  pub front-of : (actions more : List Action) (runs : List RunDone) → AreOf actions runs → AreOf (actions ++ more) runs
  front-of actions more runs of =
      all-weaker (λ run. Contains actions (action.Run run.phase)) (λ run. Contains (actions ++ more) (action.Run run.phase)) (λ run is. Contains-append_left actions more (action.Run run.phase) is) runs of

  behind-of : (actions more : List Action) (runs : List RunDone) → AreOf more runs → AreOf (actions ++ more) runs
  behind-of actions more runs of =
      all-weaker (λ run. Contains more (action.Run run.phase)) (λ run. Contains (actions ++ more) (action.Run run.phase)) (λ run is. Contains-append_right actions more (action.Run run.phase) is) runs of

  -- what an action does to the headline: it begins anew, or goes on by a step
  abbrev pub Turn : Node → List Line → Node → Action → Type 0
  Turn node lines after done = (KnowsList after.state after.candidates × Anew after lines) ⊎ Step config node lines after done

  does-turn : (done : Action) (node after : Node) (old new : List (Fuse D)) (lines : List Line) → KnowsList node.state node.candidates → Does held faults config done node old lines after new → Turn node lines after done
  does-turn action.Format node after old new lines knows does = inl (format-knows node after old new lines does)
  does-turn (action.Recover kill) node after old new lines knows does = inr (recover-step node after old new lines kill knows does)
  does-turn (action.Run phase) node after old new lines knows does = inr (run-step phase node after old new lines knows does)
  does-turn (action.Lose volume) node after old new lines knows does = inr (lose-step node after old new lines volume does)
  does-turn (action.Rollforward volume kill) node after old new lines knows does = inr (roll-step node after old new lines volume kill knows does)
  does-turn (action.List file) node after old new lines knows does = inr (list-step node after old new lines file knows does)

  breaks-turn : (done : Action) (node after : Node) (old new : List (Fuse D)) (lines : List Line) → KnowsList node.state node.candidates → Breaks held faults config done node old lines after new → Turn node lines after done
  breaks-turn action.Format node after old new lines knows (none, is) =
      inl (subst (λ (a : Node). KnowsList a.state a.candidates) (sym is) tt, inr (ap (λ (a : Node). a.candidates) is, ap (λ (a : Node). a.state.formatted) is))
  breaks-turn (action.Recover kill) node after old new lines knows (none, is) = inr (stop-step config node after lines kill is (subst AreQuiet (sym none) tt))
  breaks-turn (action.Run phase) node after old new lines knows (inl (not_up, none, is, same)) = inr (stays config node after lines (action.Run phase) knows is (subst AreQuiet (sym none) tt))
  breaks-turn (action.Run phase) node after old new lines knows (inr (inl (up, none, is, same))) = inr (idle-step phase node after lines is (subst AreQuiet (sym none) tt))
  breaks-turn (action.Run phase) node after old new lines knows (inr (inr whole)) = inr (whole-step phase node after old new lines knows whole)
  breaks-turn (action.Lose volume) node after old new lines knows (none, is, same) = inr (stays config node after lines (action.Lose volume) knows is (subst AreQuiet (sym none) tt))
  breaks-turn (action.Rollforward volume kill) node after old new lines knows (none, is, same) = inr (stays config node after lines (action.Rollforward volume kill) knows is (subst AreQuiet (sym none) tt))
  breaks-turn (action.List file) node after old new lines knows (none, is, same) = inr (stays config node after lines (action.List file) knows is (subst AreQuiet (sym none) tt))

  -- the origin lies behind some of the actions
  abbrev pub IsLater : Node → List Line → Type 0
  IsLater origin earlier = ((origin ≡ formatted_node) × (front : List Line) × (earlier ≡ front ++ Formatted ∷ [])) ⊎ ((origin.candidates ≡ None) × (origin.state.formatted ≡ false))

  longer : (origin : Node) (first earlier : List Line) → IsLater origin earlier → IsLater origin (first ++ earlier)
  longer origin first earlier (inl (is, front, ends)) = inl (is, first ++ front, ap (λ l. first ++ l) ends ∙ sym (append_assoc first front (Formatted ∷ [])))
  longer origin first earlier (inr unknown) = inr unknown

  anew-later : (origin middle : Node) (first earlier : List Line) → Anew middle first → IsOrigin middle earlier origin → IsLater origin (first ++ earlier)
  anew-later origin middle first earlier (inl anew) (inl (is, none)) = inl (is ∙ anew.0, [], ap (λ l. first ++ l) none ∙ append-nil first ∙ anew.1)
  anew-later origin middle first earlier (inr unknown) (inl (is, none)) = inr (ap (λ (n : Node). n.candidates) is ∙ unknown.0, ap (λ (n : Node). n.state.formatted) is ∙ unknown.1)
  anew-later origin middle first earlier anew (inr later) = longer origin first earlier later

  -- the headline of more actions, where it begins behind the first of them
  later-headline : (done : Action) (rest : List Action) (before middle after : Node) (first more lines : List Line) → lines ≡ first ++ more → (ends : EndsByScript config rest middle after more) → IsLater ends.origin (first ++ ends.earlier)
      → EndsByScript config (done ∷ rest) before after lines
  later-headline done rest before middle after first more lines parts ends later = record {
    origin = ends.origin;
    earlier = first ++ ends.earlier;
    later = ends.later;
    parts = parts ∙ ap (λ l. first ++ l) ends.parts ∙ sym (append_assoc first ends.earlier ends.later);
    is_origin = inr later;
    unformatted = ends.unformatted;
    formatted = ends.formatted;
    runs = ends.runs;
    of_script = more-of done rest ends.runs ends.of_script;
    extends = ends.extends;
    knows = ends.knows;
  }

  -- The headline of a whole row of actions.
  pub call_headline : CallHeadline held faults config
  call_headline [] before after old new lines knows told =
      subst (λ a. EndsByScript config [] before a lines) (sym told.1)
      (record {
        origin = before;
        earlier = [];
        later = lines;
        parts = refl;
        is_origin = inl (refl, refl);
        unformatted = subst (AllByRecursion (λ line. is_formatted line ≡ false)) (sym told.0) tt;
        formatted = refl;
        runs = [];
        of_script = tt;
        extends = same-all config lines before.state before.state before.candidates (subst AreQuiet (sym told.0) tt) (λ list. omega arith);
        knows = knows;
      })
  call_headline (done ∷ rest) before after old new lines knows (first, more, middle, between, does, stands, falls, told, parts) = ⊎_elim
      (λ format. let ends = call_headline rest middle after between new more format.0 told in later-headline done rest before middle after first more lines parts ends (anew-later ends.origin middle first ends.earlier format.1 ends.is_origin))
      (λ step.
      let ends = call_headline rest middle after between new more step.knows told in
      ⊎_elim
      (λ at. record {
        origin = before;
        earlier = [];
        later = lines;
        parts = refl;
        is_origin = inl (refl, refl);
        unformatted = subst (AllByRecursion (λ line. is_formatted line ≡ false)) (sym (parts ∙ ap (λ l. first ++ l) (ends.parts ∙ ap (λ l. l ++ ends.later) at.1)))
            (all-append (λ line. is_formatted line ≡ false) first ends.later step.unformatted ends.unformatted);
        formatted = ends.formatted ∙ ap (λ (o : Node). o.state.formatted) at.0 ∙ step.formatted;
        runs = step.runs ++ ends.runs;
        of_script = all-append (λ run. Contains (done ∷ rest) (action.Run run.phase)) step.runs ends.runs (first-of done rest step.runs step.of_action) (more-of done rest ends.runs ends.of_script);
        extends = subst (λ l. AllExtend config (step.runs ++ ends.runs) l before.state after.state before.candidates after.candidates) (sym parts)
            (all-more config step.runs ends.runs first more before.state middle.state after.state before.candidates middle.candidates after.candidates step.extends
            (subst (λ l. AllExtend config ends.runs l middle.state after.state middle.candidates after.candidates) (sym (ends.parts ∙ ap (λ l. l ++ ends.later) at.1))
            (subst (λ (o : Node). AllExtend config ends.runs ends.later o.state after.state o.candidates after.candidates) at.0 ends.extends)));
        knows = ends.knows;
      })
      (λ known. later-headline done rest before middle after first more lines parts ends (longer ends.origin first ends.earlier known))
      ends.is_origin)
      (does-turn done before middle old between first knows does)

  -- one more action behind a row of them
  ends-more : (actions : List Action) (done : Action) (before middle after : Node) (lines more : List Line) → EndsByScript config actions before middle lines → Step config middle more after done
      → EndsByScript config (actions ++ done ∷ []) before after (lines ++ more)
  ends-more actions done before middle after lines more ends step = record {
    origin = ends.origin;
    earlier = ends.earlier;
    later = ends.later ++ more;
    parts = ap (λ l. l ++ more) ends.parts ∙ append_assoc ends.earlier ends.later more;
    is_origin = ends.is_origin;
    unformatted = all-append (λ line. is_formatted line ≡ false) ends.later more ends.unformatted step.unformatted;
    formatted = step.formatted ∙ ends.formatted;
    runs = ends.runs ++ step.runs;
    of_script = all-append (λ run. Contains (actions ++ done ∷ []) (action.Run run.phase)) ends.runs step.runs (front-of actions (done ∷ []) ends.runs ends.of_script)
        (behind-of actions (done ∷ []) step.runs (first-of done [] step.runs step.of_action));
    extends = all-more config ends.runs step.runs ends.later more ends.origin.state middle.state after.state ends.origin.candidates middle.candidates after.candidates ends.extends step.extends;
    knows = step.knows;
  }

  -- a format behind them
  ends-anew : (actions : List Action) (before after : Node) (lines more : List Line) → KnowsList after.state after.candidates → Anew after more → EndsByScript config actions before after (lines ++ more)
  ends-anew actions before after lines more knows anew = record {
    origin = after;
    earlier = lines ++ more;
    later = [];
    parts = sym (append-nil (lines ++ more));
    is_origin = inr (⊎_elim (λ is. inl (is.0, lines, ap (λ l. lines ++ l) is.1)) inr anew);
    unformatted = tt;
    formatted = refl;
    runs = [];
    of_script = tt;
    extends = same-all config [] after.state after.state after.candidates tt (λ list. omega arith);
    knows = knows;
  }

  -- the headline of a row of actions and of one more
  turned : (actions : List Action) (done : Action) (before middle after : Node) (lines more : List Line) → EndsByScript config actions before middle lines → Turn middle more after done
      → EndsByScript config (actions ++ done ∷ []) before after (lines ++ more)
  turned actions done before middle after lines more ends (inl anew) = ends-anew (actions ++ done ∷ []) before after lines more anew.0 anew.1
  turned actions done before middle after lines more ends (inr step) = ends-more actions done before middle after lines more ends step

  -- The headline where a script ended in an action that was done or broken off: with the lines that this action had to print.
  pub last_headline : (actions : List Action) (done : Action) (before middle after : Node) (old between new : List (Fuse D)) (lines more : List Line) → KnowsList before.state before.candidates
      → ToldBy held faults config actions before old lines middle between → Does held faults config done middle between more after new ⊎ Breaks held faults config done middle between more after new
      → EndsByScript config (actions ++ done ∷ []) before after (lines ++ more)
  last_headline actions done before middle after old between new lines more knows told begun =
      let ends = call_headline actions before middle old between lines knows told in
      turned actions done before middle after lines more ends
      (⊎_elim (λ does. does-turn done middle after between new more ends.knows does) (λ broken. breaks-turn done middle after between new more ends.knows broken) begun)

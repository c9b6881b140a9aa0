-- How standings extend one another: nothing, a Start, and one behind the other.
use Rattle.std.specs.Prelude.{Contains, slice_get, ◌==◌, option_and_then, if◌then◌else◌}
use Rattle.std.specs.List.{AllByRecursion, cons_option, filter_map}
use Rattle.std.specs.Option.{option_or}
use Rattle.std.proofs.Common.{zero, suc, true, false, ◌≡◌, ◌≢◌, ◌⊎◌, ◌≤◌, ◌<◌, ◌+◌, ◌-◌, ◌++◌, ◌∷◌, [], ℕ, Bool, List, length, length-append, Option, Some, None, refl, sym, ap, subst, ◌∙◌, inl, inr, ⊎_elim, arith}
use Rattle.std.proofs.lemmas.Bool.{eq-eqb}
use Rattle.std.proofs.lemmas.Bool.Decides.{Decides-eqb}
use Rattle.std.proofs.lemmas.List.{append_assoc, append-nil}
use Rattle.std.proofs.lemmas.List.Elements.{Contains-append_cases, Contains-append_left, Contains-append_right, Contains-push_cases, filter_map-append}
use Rattle.std.proofs.lemmas.Option.{none-some, slice_get_within}
use Rattle.tmf_model.specs.declared.script.Phase.{Phase}
use Rattle.tmf_model.specs.declared.script.Transaction.{Transaction}
use Rattle.tmf_model.specs.declared.transid.Transid.{Transid}
use Rattle.tmf_model.specs.Commits.{after_commit, after_commits, attempted, numbered, script_transaction}
use Rattle.tmf_model.specs.RecordMap.{RecordMap}
use Rattle.tmf_model.proofs.CommitLaws.{after_commits-append}
use Rattle.tmf_model.specs.declared.config.Config.{Config}
use Rattle.trail_files.specs.declared.monitor_record.MonitorRecord.{MonitorRecord}
use Rattle.trail_files.specs.declared.monitor_record.MonitorRecord.TheVariants.{Start, Commit, Abort}
use Rattle.trail_files.specs.MonitorOrder.{begun_epoch, last_epoch}
use Rattle.trail_files.specs.Recovered.{commits_of, committed_by}
use Rattle.node_machine.specs.SameLaws.{slice_get-front}
use Rattle.volume_recovery.specs.Node.{next_epoch}
use Rattle.tmf_lines.specs.declared.line.Line.{Line}
use Rattle.tmf_lines.specs.declared.line.Line.TheVariants.{Committed}
use Rattle.tmf_cli.specs.Headline.{AreAbove, AreRising, Extends, MayHaveLost, MayMove, RunDone, acknowledged, acknowledged_by, doubted, doubted_by, is_formatted, meaning_in, move_of, place_told, places_told}
use Rattle.tmf_cli.specs.OutputLaw.{OneOf, Candidate, with_start}

pub nothing-in : {T : Type 0} (x : T) → Contains [] x → ⊥
nothing-in x there = omega (arith, there.1)

pub one-in : {T : Type 0} (x y : T) → Contains (x ∷ []) y → x ≡ y
one-in x y there = ⊎_elim (λ none. absurd (nothing-in y none)) (λ is. is) (Contains-push_cases [] x y there)

pub contained : {T : Type 0} (P : T → Type 0) (xs : List T) (x : T) → AllByRecursion P xs → Contains xs x → P x
contained P [] x all there = absurd (nothing-in x there)
contained P (y ∷ ys) x all (zero, lt, is) = subst P is all.0
contained P (y ∷ ys) x all (suc k, lt, is) = contained P ys x all.1 (k, omega (arith, lt), is)

pub all-weaker : {T : Type 0} (P Q : T → Type 0) → ((x : T) → P x → Q x) → (xs : List T) → AllByRecursion P xs → AllByRecursion Q xs
all-weaker P Q so [] all = tt
all-weaker P Q so (x ∷ xs) all = (so x all.0, all-weaker P Q so xs all.1)

pub all-append : {T : Type 0} (P : T → Type 0) (xs ys : List T) → AllByRecursion P xs → AllByRecursion P ys → AllByRecursion P (xs ++ ys)
all-append P [] ys all others = others
all-append P (x ∷ xs) ys all others = (all.0, all-append P xs ys all.1 others)

pub oneof-front : {T : Type 0} (P : T → Type 0) (xs ys : List T) → OneOf P xs → OneOf P (xs ++ ys)
oneof-front P [] ys one = absurd one
oneof-front P (x ∷ xs) ys one = ⊎_elim inl (λ rest. inr (oneof-front P xs ys rest)) one

pub oneof-behind : {T : Type 0} (P : T → Type 0) (xs ys : List T) → OneOf P ys → OneOf P (xs ++ ys)
oneof-behind P [] ys one = one
oneof-behind P (x ∷ xs) ys one = inr (oneof-behind P xs ys one)

not_true : (b : Bool) → (b ≡ true → ⊥) → b ≡ false
not_true true never = absurd (never refl)
not_true false never = refl

either_way : {T : Type 0} (b : Bool) (x y z : T) → (b ≡ true) ⊎ (y ≡ z) → (if b then x else y) ≡ (if b then x else z)
either_way true x y z how = refl
either_way false x y z (inl e) = absurd (cc e)
either_way false x y z (inr e) = e

-- an identifier of a run among the first means the same with others behind them
meaning-first : (tx : Transid) (first more : List RunDone) → OneOf (λ run. tx.epoch ≡ run.epoch) first → meaning_in (first ++ more) tx ≡ meaning_in first tx
meaning-first tx [] more is = absurd is
meaning-first tx (run ∷ runs) more is =
    either_way (tx.epoch == run.epoch) (script_transaction run.phase run.epoch tx) (meaning_in (runs ++ more) tx) (meaning_in runs tx)
    (⊎_elim (λ e. inl (eq-eqb tx.epoch run.epoch e)) (λ rest. inr (meaning-first tx runs more rest)) is)

-- one of none of the first means the same as behind them
meaning-second : (tx : Transid) (first more : List RunDone) → AllByRecursion (λ run. tx.epoch ≢ run.epoch) first → meaning_in (first ++ more) tx ≡ meaning_in more tx
meaning-second tx [] more differ = refl
meaning-second tx (run ∷ runs) more differ =
    ap (λ b. if b then script_transaction run.phase run.epoch tx else meaning_in (runs ++ more) tx) (not_true (tx.epoch == run.epoch) (λ e. differ.0 ((Decides-eqb tx.epoch run.epoch).0 e)))
    ∙ meaning-second tx runs more differ.1

-- RISING EPOCHS

pub rising-most : (low high : ℕ) (runs : List RunDone) → AreRising low high runs → low ≤ high
rising-most low high [] rising = rising
rising-most low high (run ∷ runs) rising = omega (arith, rising.0, rising-most (suc run.epoch) high runs rising.1)

rising-from : (lower low high : ℕ) (runs : List RunDone) → lower ≤ low → AreRising low high runs → AreRising lower high runs
rising-from lower low high [] less rising = omega (arith, less, rising)
rising-from lower low high (run ∷ runs) less rising = (omega (arith, less, rising.0), rising.1)

rising-append : (low middle high : ℕ) (first more : List RunDone) → AreRising low middle first → AreRising middle high more → AreRising low high (first ++ more)
rising-append low middle high [] more rising later = rising-from low middle high more rising later
rising-append low middle high (run ∷ runs) more rising later = (rising.0, rising-append (suc run.epoch) middle high runs more rising.1 later)

rising-within : (low high epoch : ℕ) (runs : List RunDone) → AreRising low high runs → OneOf (λ run. epoch ≡ run.epoch) runs → (low ≤ epoch) × (epoch < high)
rising-within low high epoch [] rising one = absurd one
rising-within low high epoch (run ∷ runs) rising one =
    ⊎_elim (λ e. (omega (arith, e, rising.0), omega (arith, e, rising-most (suc run.epoch) high runs rising.1)))
    (λ rest. let within = rising-within (suc run.epoch) high epoch runs rising.1 rest in (omega (arith, rising.0, within.0), within.1)) one

rising-below : (low high epoch : ℕ) (runs : List RunDone) → AreRising low high runs → high ≤ epoch → AllByRecursion (λ run. epoch ≢ run.epoch) runs
rising-below low high epoch [] rising above = tt
rising-below low high epoch (run ∷ runs) rising above =
    (λ e. omega (arith, e, above, rising-most (suc run.epoch) high runs rising.1), rising-below (suc run.epoch) high epoch runs rising.1 above)

-- two meanings that say the same of the commits make the same of them
pub commits-agree : (f g : Transid → Option Transaction) (records : List MonitorRecord) → ((tx : Transid) → Contains records (Commit tx) → f tx ≡ g tx) → (m : RecordMap)
    → after_commits f (commits_of records) m ≡ after_commits g (commits_of records) m
commits-agree f g [] same m = refl
commits-agree f g (Start e ∷ rest) same m = commits-agree f g rest (λ tx c. same tx (Contains-append_right (Start e ∷ []) rest (Commit tx) c)) m
commits-agree f g (Abort t ∷ rest) same m = commits-agree f g rest (λ tx c. same tx (Contains-append_right (Abort t ∷ []) rest (Commit tx) c)) m
commits-agree f g (Commit t ∷ rest) same m =
    ap (λ o. after_commits f (commits_of rest) (after_commit o m)) (same t (0, omega arith, refl))
    ∙ commits-agree f g rest (λ tx c. same tx (Contains-append_right (Commit t ∷ []) rest (Commit tx) c)) (after_commit (g t) m)

-- what stands in a list stands there with more behind it
pub stays-at : {T : Type 0} (xs ys zs : List T) (n : ℕ) (x : T) → zs ≡ xs ++ ys → slice_get xs n ≡ Some x → slice_get zs n ≡ Some x
stays-at xs ys zs n x is at = ap (λ l. slice_get l n) is ∙ slice_get-front xs ys n x at

-- the lines of which none tells of a commit, nor of a format
abbrev pub IsSilent : Line → Type 0
IsSilent line = (place_told line ≡ None) × (is_formatted line ≡ false)

abbrev pub AreSilent : List Line → Type 0
AreSilent lines = AllByRecursion IsSilent lines

-- nor of a loss or of a rollforward
abbrev pub IsQuiet : Line → Type 0
IsQuiet line = IsSilent line × (move_of line ≡ None)

abbrev pub AreQuiet : List Line → Type 0
AreQuiet lines = AllByRecursion IsQuiet lines

pub silent-of : (lines : List Line) → AreQuiet lines → AreSilent lines
silent-of lines quiet = all-weaker IsQuiet IsSilent (λ line is. is.0) lines quiet

abbrev pub AreStill : List Line → Type 0
AreStill lines = AllByRecursion (λ line. move_of line ≡ None) lines

still-of : (lines : List Line) → AreQuiet lines → AreStill lines
still-of lines quiet = all-weaker IsQuiet (λ line. move_of line ≡ None) (λ line is. is.1) lines quiet

-- behind lines that tell of no loss and of no rollforward the same volumes are lost
pub still-lost : (config : Config) (lines : List Line) (lost : List ℕ) → AreStill lines → MayHaveLost config lines lost lost
still-lost config [] lost still = refl
still-lost config (line ∷ lines) lost still = (lost, subst (λ m. MayMove config m lost lost) (sym still.0) refl, still-lost config lines lost still.1)

lost-append : (config : Config) (lines more : List Line) (a b c : List ℕ) → MayHaveLost config lines a b → MayHaveLost config more b c → MayHaveLost config (lines ++ more) a c
lost-append config [] more a b c first second = subst (λ l. MayHaveLost config more l c) first second
lost-append config (line ∷ lines) more a b c first second = (first.0, first.1, lost-append config lines more first.0 b c first.2 second)

pub silent-tell : (lines : List Line) → AreSilent lines → (tx : Transid) (place : ℕ) → Contains lines (Committed tx place) → ⊥
silent-tell lines quiet tx place there = none-some place (sym (contained IsSilent lines (Committed tx place) quiet there).0)

pub quiet-tell : (lines : List Line) → AreQuiet lines → (tx : Transid) (place : ℕ) → Contains lines (Committed tx place) → ⊥
quiet-tell lines quiet tx place there = silent-tell lines (silent-of lines quiet) tx place there

given_none : {T U : Type 0} (h : T → Option U) (x : T) (xs : List T) → h x ≡ None → filter_map h (x ∷ xs) ≡ filter_map h xs
given_none h x xs none = ap (λ o. cons_option o (filter_map h xs)) none

pub silent-none : (lines : List Line) → AreSilent lines → places_told lines ≡ []
silent-none [] quiet = refl
silent-none (line ∷ lines) quiet = given_none place_told line lines quiet.0.0 ∙ silent-none lines quiet.1

-- a line that tells no place acknowledges no commit
unplaced : (line : Line) → place_told line ≡ None → acknowledged_by line ≡ None
unplaced (Committed tx place) none = absurd (cc none)
unplaced _ none = refl

pub silent-acknowledge : (lines : List Line) → AreSilent lines → acknowledged lines ≡ []
silent-acknowledge [] silent = refl
silent-acknowledge (line ∷ lines) silent = given_none acknowledged_by line lines (unplaced line silent.0.0) ∙ silent-acknowledge lines silent.1

nil-parts : {T : Type 0} (xs ys : List T) → xs ++ ys ≡ [] → (xs ≡ []) × (ys ≡ [])
nil-parts [] ys none = (refl, none)
nil-parts (x ∷ xs) ys none = absurd (cc none)

-- a line that tells a place acknowledges a commit
place-or-none : (line : Line) → (place_told line ≡ None) ⊎ ((tx : Transid) × (place : ℕ) × (line ≡ Committed tx place))
place-or-none (Committed tx place) = inr (tx, place, refl)
place-or-none _ = inl refl

-- what is so of the place of each commit that lines acknowledge is so of the places that they tell
places-all : (P : ℕ → Type 0) (lines : List Line) → ((tx : Transid) (place : ℕ) → Contains lines (Committed tx place) → P place) → AllByRecursion P (places_told lines)
places-all P [] each = tt
places-all P (line ∷ lines) each =
    let rest = places-all P lines (λ tx place there. each tx place (Contains-append_right (line ∷ []) lines (Committed tx place) there)) in
    ⊎_elim (λ none. subst (AllByRecursion P) (sym (given_none place_told line lines none)) rest)
    (λ is. subst (λ l. AllByRecursion P (places_told (l ∷ lines))) (sym is.2) (each is.0 is.1 (0, omega arith, is.2), rest)) (place-or-none line)

above-lower : (low middle : ℕ) (places : List ℕ) → low ≤ middle → AreAbove middle places → AreAbove low places
above-lower low middle [] less above = tt
above-lower low middle (place ∷ places) less above = (omega (arith, less, above.0), above.1)

-- places up to this one, and then places above it
above-append : (low middle : ℕ) (first more : List ℕ) → low ≤ middle → AllByRecursion (λ n. n ≤ middle) first → AreAbove low first → AreAbove middle more → AreAbove low (first ++ more)
above-append low middle [] more less within above later = above-lower low middle more less later
above-append low middle (place ∷ first) more less within above later = (above.0, above-append place middle first more within.0 within.1 above.1 later)

-- a transaction of whose commit lines tell: it is acknowledged by one, or left in doubt
abbrev pub IsTold : List Line → Transid → Type 0
IsTold lines tx = Contains (acknowledged lines) tx ⊎ Contains (doubted lines) tx

-- so it is with more lines behind them
pub told-front : (lines more : List Line) (tx : Transid) → IsTold lines tx → IsTold (lines ++ more) tx
told-front lines more tx (inl is) = inl (subst (λ l. Contains l tx) (sym (filter_map-append acknowledged_by lines more)) (Contains-append_left (acknowledged lines) (acknowledged more) tx is))
told-front lines more tx (inr is) = inr (subst (λ l. Contains l tx) (sym (filter_map-append doubted_by lines more)) (Contains-append_left (doubted lines) (doubted more) tx is))

-- or before them
pub told-behind : (lines more : List Line) (tx : Transid) → IsTold more tx → IsTold (lines ++ more) tx
told-behind lines more tx (inl is) = inl (subst (λ l. Contains l tx) (sym (filter_map-append acknowledged_by lines more)) (Contains-append_right (acknowledged lines) (acknowledged more) tx is))
told-behind lines more tx (inr is) = inr (subst (λ l. Contains l tx) (sym (filter_map-append doubted_by lines more)) (Contains-append_right (doubted lines) (doubted more) tx is))

-- one behind the other
pub extend-more : (config : Config) (low middle high : ℕ) (first more : List RunDone) (lines others : List Line) (s t u : Candidate) → Extends config low middle first lines s t → Extends config middle high more others t u
    → Extends config low high (first ++ more) (lines ++ others) s u
extend-more config low middle high first more lines others s t u a b =
    let meaning : Transid → Option Transaction = meaning_in (first ++ more) in
    record {
      records = a.records ++ b.records;
      list = b.list ∙ ap (λ l. l ++ b.records) a.list ∙ append_assoc s.list a.records b.records;
      no_other = λ tx there.
          ⊎_elim (λ here. told-front lines others tx (a.no_other tx here)) (λ later. told-behind lines others tx (b.no_other tx later)) (Contains-append_cases a.records b.records (Commit tx) there);
      in_order = λ single.
          subst (AreAbove (length s.list)) (sym (filter_map-append place_told lines others))
          (above-append (length s.list) (length t.list) (places_told lines) (places_told others) longer
          (places-all (λ n. n ≤ length t.list) lines (λ tx place there. let at = a.places tx place there in up_to place at.0 (slice_get_within t.list (place - 1) (Commit tx) at.1)))
          (a.in_order (λ run tx of there. single run tx (Contains-append_left first more run of) (Contains-append_left a.records b.records (Commit tx) there)))
          (b.in_order (λ run tx of there. single run tx (Contains-append_right first more run of) (Contains-append_right a.records b.records (Commit tx) there))));
      all_in_order = λ single none.
          let parts = nil-parts (doubted lines) (doubted others) (sym (filter_map-append doubted_by lines others) ∙ none) in
          let one = a.all_in_order (λ run tx of there. single run tx (Contains-append_left first more run of) (Contains-append_left a.records b.records (Commit tx) there)) parts.0 in
          let other = b.all_in_order (λ run tx of there. single run tx (Contains-append_right first more run of) (Contains-append_right a.records b.records (Commit tx) there)) parts.1 in
          filter_map-append committed_by a.records b.records ∙ ap (λ l. l ++ commits_of b.records) one ∙ ap (λ l. acknowledged lines ++ l) other ∙ sym (filter_map-append acknowledged_by lines others);
      places = λ tx place there.
          ⊎_elim (λ here. let at = a.places tx place here in (at.0, stays-at t.list b.records u.list (place - 1) (Commit tx) b.list at.1)) (λ later. let at = b.places tx place later in (omega (arith, longer, at.0), at.1))
          (Contains-append_cases lines others (Committed tx place) there);
      map =
          b.map
          ∙ commits-agree (meaning_in more) meaning b.records (λ tx c.
          let within = rising-within middle high tx.epoch more b.rising (b.ours tx c) in
          sym (meaning-second tx first more (rising-below low middle tx.epoch first a.rising within.0))) t.map
          ∙ ap (λ m. after_commits meaning (commits_of b.records) m) (a.map ∙ commits-agree (meaning_in first) meaning a.records (λ tx c. sym (meaning-first tx first more (a.ours tx c))) s.map)
          ∙ sym (after_commits-append meaning (commits_of a.records) (commits_of b.records) s.map)
          ∙ ap (λ ids. after_commits meaning ids s.map) (sym (filter_map-append committed_by a.records b.records));
      lost = lost-append config lines others s.lost t.lost u.lost a.lost b.lost;
      ours = λ tx there.
          ⊎_elim (λ here. oneof-front (λ run. tx.epoch ≡ run.epoch) first more (a.ours tx here)) (λ later. oneof-behind (λ run. tx.epoch ≡ run.epoch) first more (b.ours tx later))
          (Contains-append_cases a.records b.records (Commit tx) there);
      rising = rising-append low middle high first more a.rising b.rising;
    }
  where
    longer : length s.list ≤ length t.list
    longer = omega (arith, ap length a.list, length-append s.list a.records)

    up_to : (place : ℕ) → length s.list < place → place - 1 < length t.list → place ≤ length t.list
    up_to place behind within = omega (arith, behind, within)

pub silent-unformatted : (lines : List Line) → AreSilent lines → AllByRecursion (λ line. is_formatted line ≡ false) lines
silent-unformatted lines quiet = all-weaker IsSilent (λ line. is_formatted line ≡ false) (λ line is. is.1) lines quiet

-- nothing is added by the loss of a volume or by its rollforward, of which the lines tell
pub extend-moved : (config : Config) (low high : ℕ) (lines : List Line) (lost : List ℕ) (s : Candidate) → low ≤ high → AreSilent lines → MayHaveLost config lines s.lost lost → Extends config low high [] lines s (record { list = s.list; map = s.map; lost = lost })
extend-moved config low high lines lost s rising silent moves = record {
  records = [];
  list = sym (append-nil s.list);
  no_other = λ tx there. absurd (nothing-in (Commit tx) there);
  in_order = λ single. subst (AreAbove (length s.list)) (sym (silent-none lines silent)) tt;
  all_in_order = λ single none. sym (silent-acknowledge lines silent);
  places = λ tx place there. absurd (silent-tell lines silent tx place there);
  map = refl;
  lost = moves;
  ours = λ tx there. absurd (nothing-in (Commit tx) there);
  rising = rising;
}

-- nothing is added
pub extend-none : (config : Config) (low high : ℕ) (lines : List Line) (s : Candidate) → low ≤ high → AreQuiet lines → Extends config low high [] lines s s
extend-none config low high lines s rising quiet = extend-moved config low high lines s.lost s rising (silent-of lines quiet) (still-lost config lines s.lost (still-of lines quiet))

abbrev is_start : MonitorRecord → Bool
is_start (Start e) = true
is_start (Commit t) = false
is_start (Abort t) = false

start-no-commit : (e : ℕ) (tx : Transid) → Start e ≡ Commit tx → ⊥
start-no-commit e tx is = absurd (cc (ap is_start is))

-- a Start is added
pub extend-start : (config : Config) (low high : ℕ) (lines : List Line) (s : Candidate) → low ≤ high → AreQuiet lines → Extends config low high [] lines s (with_start s)
extend-start config low high lines s rising quiet = record {
  records = Start (next_epoch s.list) ∷ [];
  list = refl;
  no_other = λ tx there. absurd (start-no-commit (next_epoch s.list) tx (one-in (Start (next_epoch s.list)) (Commit tx) there));
  in_order = λ single. subst (AreAbove (length s.list)) (sym (silent-none lines (silent-of lines quiet))) tt;
  all_in_order = λ single none. sym (silent-acknowledge lines (silent-of lines quiet));
  places = λ tx place there. absurd (quiet-tell lines quiet tx place there);
  map = refl;
  lost = still-lost config lines s.lost (still-of lines quiet);
  ours = λ tx there. absurd (start-no-commit (next_epoch s.list) tx (one-in (Start (next_epoch s.list)) (Commit tx) there));
  rising = rising;
}

-- the commits of a run mean what its script says
pub meaning-one : (phase : Phase) (epoch : ℕ) (tx : Transid) → meaning_in (record { epoch = epoch; phase = phase } ∷ []) tx ≡ script_transaction phase epoch tx
meaning-one phase epoch tx =
    once (tx.epoch == epoch) (option_and_then (attempted tx.attempt) (option_and_then (λ items. numbered items tx.ordinal) (numbered phase.workers tx.worker)))
  where
    once : {T : Type 0} (b : Bool) (x : Option T) → (if b then (if b then x else None) else None) ≡ (if b then x else None)
    once true x = refl
    once false x = refl

no-epoch : (records : List MonitorRecord) → ((e : ℕ) → Contains records (Start e) → ⊥) → last_epoch records ≡ None
no-epoch [] none = refl
no-epoch (Start e ∷ rest) none = absurd (none e (0, omega arith, refl))
no-epoch (Commit t ∷ rest) none = ap (λ o. option_or o (begun_epoch (Commit t))) (no-epoch rest (λ e c. none e (Contains-append_right (Commit t ∷ []) rest (Start e) c)))
no-epoch (Abort t ∷ rest) none = ap (λ o. option_or o (begun_epoch (Abort t))) (no-epoch rest (λ e c. none e (Contains-append_right (Abort t ∷ []) rest (Start e) c)))

-- records without a Start leave the last epoch as it is
pub last_epoch-more : (list records : List MonitorRecord) → ((e : ℕ) → Contains records (Start e) → ⊥) → last_epoch (list ++ records) ≡ last_epoch list
last_epoch-more [] records none = no-epoch records none
last_epoch-more (x ∷ list) records none = ap (λ o. option_or o (begun_epoch x)) (last_epoch-more list records none)

pub slice_get-behind : {T : Type 0} (xs ys : List T) (k : ℕ) → slice_get (xs ++ ys) (length xs + k) ≡ slice_get ys k
slice_get-behind [] ys k = ap (λ n. slice_get ys n) (none-more k)
  where
    none-more : (k : ℕ) → 0 + k ≡ k
    none-more k = omega arith
slice_get-behind (x ∷ xs) ys k = ap (λ n. slice_get (x ∷ (xs ++ ys)) n) (shifted (length xs) k) ∙ slice_get-behind xs ys k
  where
    shifted : (n k : ℕ) → suc n + k ≡ suc (n + k)
    shifted n k = omega arith

-- what stands at a number of a list is in it
pub contains-at : {T : Type 0} (xs : List T) (n : ℕ) (x : T) → slice_get xs n ≡ Some x → Contains xs x
contains-at [] n x at = absurd (cc at)
contains-at (y ∷ xs) zero x at = (zero, omega arith, cc at)
contains-at (y ∷ xs) (suc n) x at = let is = contains-at xs n x at in (suc is.0, omega (arith, is.1), is.2)

-- How a run extends what stood before it.
use Rattle.std.specs.Prelude.{Contains, slice_get, unwrap_or}
use Rattle.std.specs.List.{AllByRecursion}
use Rattle.std.proofs.Common.{zero, suc, false, ◌≡◌, ◌⊎◌, ◌≤◌, ◌<◌, ◌+◌, ◌-◌, ◌++◌, ◌∷◌, [], ℕ, List, length, Option, Some, None, refl, sym, ap, subst, ◌∙◌, inl, inr, ⊎_elim, arith}
use Rattle.std.proofs.lemmas.Bool.{cases_lt}
use Rattle.std.proofs.lemmas.List.{append-nil}
use Rattle.std.proofs.lemmas.List.Elements.{Contains-append_cases, Contains-append_left, Contains-append_right, filter_map-append}
use Rattle.node_machine.specs.Monitor.{IsLater}
use Rattle.node_machine.specs.Same.{Among, IsBefore}
use Rattle.node_machine.specs.SameLaws.{among_left}
use Rattle.run_outcomes.specs.Outcomes.{AreAttempts, AreOfItems, AreOfWorkers, AreOutcomesOf, first_attempt, most_attempts, next_attempt}
use Rattle.run_outcomes.specs.Told.{IsRecordOf, MayBeCommitted}
use Rattle.run_outcomes.specs.declared.outcome.Hang.{Hang}
use Rattle.run_outcomes.specs.declared.outcome.Hang.TheVariants as hang
use Rattle.run_outcomes.specs.declared.outcome.Outcome.{Outcome}
use Rattle.run_outcomes.specs.declared.outcome.Told.{Told}
use Rattle.run_outcomes.specs.declared.outcome.Told.TheVariants as told
use Rattle.single_law.specs.Row.{AreInRow}
use Rattle.tmf_lines.specs.declared.line.Line.{Line}
use Rattle.tmf_lines.specs.declared.line.Line.TheVariants.{Committed}
use Rattle.tmf_lines.specs.declared.line.PartName.{PartName}
use Rattle.tmf_lines.specs.declared.line.PartName.TheVariants.{Device, Worker}
use Rattle.tmf_lines.specs.Report.{part_name, spent_line}
use Rattle.tmf_model.specs.declared.config.Config.{Config}
use Rattle.tmf_model.specs.declared.script.Item.{Item}
use Rattle.tmf_model.specs.declared.script.Phase.{Phase}
use Rattle.tmf_model.specs.declared.transid.Transid.{Transid}
use Rattle.tmf_model.specs.Commits.{script_transaction}
use Rattle.trail_files.specs.declared.monitor_record.MonitorRecord.{MonitorRecord}
use Rattle.trail_files.specs.declared.monitor_record.MonitorRecord.TheVariants.{Start, Commit, Abort}
use Rattle.trail_files.specs.Recovered.{commits_of}
use Rattle.tmf_cli.specs.Headline.{AreAbove, AreOfSingle, Extends, acknowledged, acknowledged_by, doubted, epoch_of, is_formatted, meaning_in, move_of, place_told, places_told}
use Rattle.tmf_cli.specs.OutputLaw.{Candidate, GoesOn, with_records}
use Rattle.tmf_cli.specs.RunLines.{hang_line, read_line, read_lines, run_lines, told_lines}
use Rattle.tmf_cli.proofs.Extending.{AreQuiet, AreSilent, AreStill, IsQuiet, IsTold, all-append, all-weaker, commits-agree, contained, contains-at, last_epoch-more, meaning-one, nothing-in, one-in, quiet-tell, silent-acknowledge, silent-none, silent-of, silent-tell, slice_get-behind, stays-at, still-lost, told-behind, told-front}

-- THE LINES OF A RUN

quiet-reads : (tx : Transid) (reads : List (ℕ × Option (List ℕ))) → AreQuiet (read_lines tx reads)
quiet-reads tx [] = tt
quiet-reads tx (read ∷ reads) = (one read.1, quiet-reads tx reads)
  where
    one : (found : Option (List ℕ)) → IsQuiet (read_line tx read.0 found)
    one None = ((refl, refl), refl)
    one (Some value) = ((refl, refl), refl)

-- the lines tell of no format, and of no loss or rollforward
abbrev pub IsPlain : Line → Type 0
IsPlain line = (is_formatted line ≡ false) × (move_of line ≡ None)

hang-silent : (config : Config) (tx : Transid) (why : Hang) → AreSilent (hang_line config tx why ∷ []) × AllByRecursion IsPlain (hang_line config tx why ∷ [])
hang-silent config tx (hang.Device device) = (((refl, refl), tt), ((refl, refl), tt))
hang-silent config tx (hang.Damaged device damage) = (((refl, refl), tt), ((refl, refl), tt))
hang-silent config tx hang.Memory = (((refl, refl), tt), ((refl, refl), tt))

spent-silent : (tx : Transid) (part : PartName) → AreSilent (spent_line tx part ∷ []) × AllByRecursion IsPlain (spent_line tx part ∷ [])
spent-silent tx (Worker number) = (((refl, refl), tt), ((refl, refl), tt))
spent-silent tx (Device device) = (((refl, refl), tt), ((refl, refl), tt))

told-plain : (config : Config) (tx : Transid) (tells : Told) → AllByRecursion IsPlain (told_lines config tx tells)
told-plain config tx (told.Committed place reads) = ((refl, refl), all-weaker IsQuiet IsPlain (λ line is. (is.0.1, is.1)) (read_lines tx reads) (quiet-reads tx reads))
told-plain config tx told.Aborted = ((refl, refl), tt)
told-plain config tx (told.Busy file key holder) = ((refl, refl), tt)
told-plain config tx (told.Full file key) = ((refl, refl), tt)
told-plain config tx (told.Refused op reason) = ((refl, refl), tt)
told-plain config tx (told.Spent part) = (spent-silent tx (part_name config part)).1
told-plain config tx (told.Failed device) = ((refl, refl), tt)
told-plain config tx (told.Damaged device damage) = ((refl, refl), tt)
told-plain config tx (told.InDoubt device) = ((refl, refl), tt)
told-plain config tx (told.Hanging why) = (hang-silent config tx why).1
told-plain config tx told.Skipped = ((refl, refl), tt)
told-plain config tx told.Memory = ((refl, refl), tt)
told-plain config tx (told.Controlled volume low) = ((refl, refl), tt)
told-plain config tx (told.Dumped volume start) = ((refl, refl), tt)
told-plain config tx (told.Dumping volume) = ((refl, refl), tt)

run-plain : (config : Config) (outcomes : List Outcome) → AllByRecursion IsPlain (run_lines config outcomes)
run-plain config [] = tt
run-plain config (o ∷ rest) = all-append IsPlain (told_lines config o.tx o.told) (run_lines config rest) (told-plain config o.tx o.told) (run-plain config rest)

-- no line of a run is that of a format
pub run-unformatted : (config : Config) (outcomes : List Outcome) → AllByRecursion (λ line. is_formatted line ≡ false) (run_lines config outcomes)
run-unformatted config outcomes = all-weaker IsPlain (λ line. is_formatted line ≡ false) (λ line is. is.0) (run_lines config outcomes) (run-plain config outcomes)

-- nor does one tell of a loss or of a rollforward
run-still : (config : Config) (outcomes : List Outcome) → AreStill (run_lines config outcomes)
run-still config outcomes = all-weaker IsPlain (λ line. move_of line ≡ None) (λ line is. is.1) (run_lines config outcomes) (run-plain config outcomes)

-- THE COMMITS OF ITS LINES

abbrev committed_of : Line → Option (Transid × ℕ)
committed_of (Committed tx place) = Some (tx, place)
committed_of _ = None

some_same : {T : Type 0} (a b : T) → Some a ≡ Some b → a ≡ b
some_same a b e = ap (λ o. unwrap_or o a) e

-- a line that acknowledges a commit is that of an outcome which tells of it
abbrev Tells : List Outcome → Transid → ℕ → Type 0
Tells outcomes tx place = (o : Outcome) × (reads : List (ℕ × Option (List ℕ))) × Contains outcomes o × (o.tx ≡ tx) × (o.told ≡ told.Committed place reads)

committed-or-silent : (config : Config) (u : Transid) (tells : Told) → AreSilent (told_lines config u tells) ⊎ ((place : ℕ) × (reads : List (ℕ × Option (List ℕ))) × (tells ≡ told.Committed place reads))
committed-or-silent config u (told.Committed place reads) = inr (place, reads, refl)
committed-or-silent config u told.Aborted = inl ((refl, refl), tt)
committed-or-silent config u (told.Busy file key holder) = inl ((refl, refl), tt)
committed-or-silent config u (told.Full file key) = inl ((refl, refl), tt)
committed-or-silent config u (told.Refused op reason) = inl ((refl, refl), tt)
committed-or-silent config u (told.Spent part) = inl (spent-silent u (part_name config part)).0
committed-or-silent config u (told.Failed device) = inl ((refl, refl), tt)
committed-or-silent config u (told.Damaged device damage) = inl ((refl, refl), tt)
committed-or-silent config u (told.InDoubt device) = inl ((refl, refl), tt)
committed-or-silent config u (told.Hanging why) = inl (hang-silent config u why).0
committed-or-silent config u told.Skipped = inl ((refl, refl), tt)
committed-or-silent config u told.Memory = inl ((refl, refl), tt)
committed-or-silent config u (told.Controlled volume low) = inl ((refl, refl), tt)
committed-or-silent config u (told.Dumped volume start) = inl ((refl, refl), tt)
committed-or-silent config u (told.Dumping volume) = inl ((refl, refl), tt)

committed-line : (u : Transid) (p : ℕ) (reads : List (ℕ × Option (List ℕ))) (tx : Transid) (place : ℕ) → Contains (Committed u p ∷ read_lines u reads) (Committed tx place) → (u ≡ tx) × (p ≡ place)
committed-line u p reads tx place there =
    ⊎_elim (λ head.
    let same = some_same (u, p) (tx, place) (ap committed_of (one-in (Committed u p) (Committed tx place) head)) in
    (ap (λ (x : Transid × ℕ). x.0) same, ap (λ (x : Transid × ℕ). x.1) same))
    (λ read. absurd (quiet-tell (read_lines u reads) (quiet-reads u reads) tx place read))
    (Contains-append_cases (Committed u p ∷ []) (read_lines u reads) (Committed tx place) there)

line-told : (config : Config) (u : Transid) (tells : Told) (tx : Transid) (place : ℕ) → Contains (told_lines config u tells) (Committed tx place) → (reads : List (ℕ × Option (List ℕ))) × (u ≡ tx) × (tells ≡ told.Committed place reads)
line-told config u tells tx place there =
    ⊎_elim (λ silent. absurd (silent-tell (told_lines config u tells) silent tx place there))
    (λ is.
    let same = committed-line u is.0 is.1 tx place (subst (λ t. Contains (told_lines config u t) (Committed tx place)) is.2 there) in
    (is.1, same.0, is.2 ∙ ap (λ p. told.Committed p is.1) same.1))
    (committed-or-silent config u tells)

lines-tell : (config : Config) (outcomes : List Outcome) (tx : Transid) (place : ℕ) → Contains (run_lines config outcomes) (Committed tx place) → Tells outcomes tx place
lines-tell config [] tx place there = absurd (nothing-in (Committed tx place) there)
lines-tell config (o ∷ rest) tx place there =
    ⊎_elim (λ here. let is = line-told config o.tx o.told tx place here in (o, is.0, (0, omega arith, refl), is.1, is.2))
    (λ later. let is = lines-tell config rest tx place later in (is.0, is.1, Contains-append_right (o ∷ []) rest is.0 is.2, is.3, is.4))
    (Contains-append_cases (told_lines config o.tx o.told) (run_lines config rest) (Committed tx place) there)

-- an outcome that tells that its commit stands, or may stand, has a line that acknowledges it or leaves it in doubt
head-told : (config : Config) (tx : Transid) (tells : Told) → MayBeCommitted tells → IsTold (told_lines config tx tells) tx
head-told config tx (told.Committed place reads) may = inl (0, omega arith, refl)
head-told config tx (told.InDoubt device) may = inr (0, omega arith, refl)
head-told config tx told.Aborted may = absurd may
head-told config tx (told.Busy file key holder) may = absurd may
head-told config tx (told.Full file key) may = absurd may
head-told config tx (told.Refused op reason) may = absurd may
head-told config tx (told.Spent part) may = absurd may
head-told config tx (told.Failed device) may = absurd may
head-told config tx (told.Damaged device damage) may = absurd may
head-told config tx (told.Hanging why) may = absurd may
head-told config tx told.Skipped may = absurd may
head-told config tx told.Memory may = absurd may
head-told config tx (told.Controlled volume low) may = absurd may
head-told config tx (told.Dumped volume start) may = absurd may
head-told config tx (told.Dumping volume) may = absurd may

is-told : (config : Config) (outcomes : List Outcome) (o : Outcome) → Among outcomes o → MayBeCommitted o.told → IsTold (run_lines config outcomes) o.tx
is-told config [] o among may = absurd among
is-told config (x ∷ rest) o (inl is) may =
    told-front (told_lines config x.tx x.told) (run_lines config rest) o.tx (subst (λ (y : Outcome). IsTold (told_lines config y.tx y.told) o.tx) (sym is) (head-told config o.tx o.told may))
is-told config (x ∷ rest) o (inr among) may = told-behind (told_lines config x.tx x.told) (run_lines config rest) o.tx (is-told config rest o among may)

-- THE EPOCH OF ITS OUTCOMES

abbrev AreOfEpoch : ℕ → List Outcome → Type 0
AreOfEpoch epoch outcomes = AllByRecursion (λ o. o.tx.epoch ≡ epoch) outcomes

attempts-epoch : (most : ℕ) (tx : Transid) (outcomes : List Outcome) → AreAttempts most tx outcomes → AreOfEpoch tx.epoch outcomes
attempts-epoch most tx [] are = absurd are
attempts-epoch most tx (o ∷ []) are = (ap (λ (t : Transid). t.epoch) are.0, tt)
attempts-epoch most tx (o ∷ next ∷ more) are = (ap (λ (t : Transid). t.epoch) are.0, attempts-epoch most (next_attempt tx) (next ∷ more) are.3)

items-epoch : (epoch worker ordinal : ℕ) (items : List Item) (outcomes : List Outcome) → AreOfItems epoch worker ordinal items outcomes → AreOfEpoch epoch outcomes
items-epoch epoch worker ordinal [] outcomes are = subst (AreOfEpoch epoch) (sym are) tt
items-epoch epoch worker ordinal (item ∷ items) outcomes (first, more, is, attempts, others) =
    subst (AreOfEpoch epoch) (sym is)
    (all-append (λ (o : Outcome). o.tx.epoch ≡ epoch) first more (attempts-epoch (most_attempts item) (first_attempt epoch worker ordinal) first attempts) (items-epoch epoch worker (suc ordinal) items more others))

workers-epoch : (epoch worker : ℕ) (workers : List (List Item)) (outcomes : List Outcome) → AreOfWorkers epoch worker workers outcomes → AreOfEpoch epoch outcomes
workers-epoch epoch worker [] outcomes are = subst (AreOfEpoch epoch) (sym are) tt
workers-epoch epoch worker (items ∷ workers) outcomes (own, others, is, of, skipped, more) =
    subst (AreOfEpoch epoch) (sym is) (all-append (λ (o : Outcome). o.tx.epoch ≡ epoch) own others (items-epoch epoch worker 1 items own of) (workers-epoch epoch (suc worker) workers others more))

among-epoch : (epoch : ℕ) (outcomes : List Outcome) (o : Outcome) → AreOfEpoch epoch outcomes → Among outcomes o → o.tx.epoch ≡ epoch
among-epoch epoch [] o are among = absurd among
among-epoch epoch (x ∷ rest) o are (inl is) = subst (λ (y : Outcome). y.tx.epoch ≡ epoch) is are.0
among-epoch epoch (x ∷ rest) o are (inr among) = among-epoch epoch rest o are.1 among

-- THE ORDER OF THE OUTCOMES OF ONE WORKER

-- the one outcome is of a later attempt than the other, of the same worker
abbrev IsNext : Outcome → Outcome → Type 0
IsNext o next = IsBefore o.tx next.tx × (o.tx.worker ≡ next.tx.worker)

-- so is each than all before it
abbrev AreInOrder : List Outcome → Type 0
AreInOrder [] = Unit {0}
AreInOrder (o ∷ rest) = AllByRecursion (IsNext o) rest × AreInOrder rest

order-append : (outcomes more : List Outcome) → AreInOrder outcomes → AreInOrder more → AllByRecursion (λ o. AllByRecursion (IsNext o) more) outcomes → AreInOrder (outcomes ++ more)
order-append [] more order later across = later
order-append (o ∷ outcomes) more order later across = (all-append (IsNext o) outcomes more order.0 across.0, order-append outcomes more order.1 later across.1)

-- the outcome is of the item of this attempt, and of no attempt before it
abbrev IsAttemptFrom : Transid → Outcome → Type 0
IsAttemptFrom tx o = (o.tx.worker ≡ tx.worker) × (o.tx.ordinal ≡ tx.ordinal) × (tx.attempt ≤ o.tx.attempt)

-- the outcome is of this worker, and of no item before this one
abbrev IsItemFrom : ℕ → ℕ → Outcome → Type 0
IsItemFrom worker ordinal o = (o.tx.worker ≡ worker) × (ordinal ≤ o.tx.ordinal)

first-from : (tx : Transid) (o : Outcome) → o.tx ≡ tx → IsAttemptFrom tx o
first-from tx o is = subst (λ (t : Transid). (t.worker ≡ tx.worker) × (t.ordinal ≡ tx.ordinal) × (tx.attempt ≤ t.attempt)) (sym is) (refl, refl, omega arith)

attempts-from : (most : ℕ) (tx : Transid) (outcomes : List Outcome) → AreAttempts most tx outcomes → AllByRecursion (IsAttemptFrom tx) outcomes
attempts-from most tx [] are = absurd are
attempts-from most tx (o ∷ []) are = (first-from tx o are.0, tt)
attempts-from most tx (o ∷ next ∷ more) are = (
  first-from tx o are.0,
  all-weaker (IsAttemptFrom (next_attempt tx)) (IsAttemptFrom tx) (λ later is. (is.0, is.1, omega (arith, is.2))) (next ∷ more) (attempts-from most (next_attempt tx) (next ∷ more) are.3),
)

attempts-order : (most : ℕ) (tx : Transid) (outcomes : List Outcome) → AreAttempts most tx outcomes → AreInOrder outcomes
attempts-order most tx [] are = absurd are
attempts-order most tx (o ∷ []) are = (tt, tt)
attempts-order most tx (o ∷ next ∷ more) are = (
  all-weaker (IsAttemptFrom (next_attempt tx)) (IsNext o)
      (λ later is. subst (λ (t : Transid). IsBefore t later.tx × (t.worker ≡ later.tx.worker)) (sym are.0) (inr (sym is.1, omega (arith, is.2)), sym is.0))
      (next ∷ more) (attempts-from most (next_attempt tx) (next ∷ more) are.3),
  attempts-order most (next_attempt tx) (next ∷ more) are.3,
)

module _ (epoch worker : ℕ) where
  items-from : (ordinal : ℕ) (items : List Item) (outcomes : List Outcome) → AreOfItems epoch worker ordinal items outcomes → AllByRecursion (IsItemFrom worker ordinal) outcomes
  items-from ordinal [] outcomes are = subst (AllByRecursion (IsItemFrom worker ordinal)) (sym are) tt
  items-from ordinal (item ∷ items) outcomes (first, more, is, attempts, others) =
      subst (AllByRecursion (IsItemFrom worker ordinal)) (sym is)
      (all-append (IsItemFrom worker ordinal) first more
      (all-weaker (IsAttemptFrom (first_attempt epoch worker ordinal)) (IsItemFrom worker ordinal) (λ o of. (of.0, omega (arith, of.1))) first (attempts-from (most_attempts item) (first_attempt epoch worker ordinal) first attempts))
      (all-weaker (IsItemFrom worker (suc ordinal)) (IsItemFrom worker ordinal) (λ o of. (of.0, omega (arith, of.1))) more (items-from (suc ordinal) items more others)))

  items-order : (ordinal : ℕ) (items : List Item) (outcomes : List Outcome) → AreOfItems epoch worker ordinal items outcomes → AreInOrder outcomes
  items-order ordinal [] outcomes are = subst AreInOrder (sym are) tt
  items-order ordinal (item ∷ items) outcomes (first, more, is, attempts, others) =
      let behind = items-from (suc ordinal) items more others in
      subst AreInOrder (sym is)
      (order-append first more (attempts-order (most_attempts item) (first_attempt epoch worker ordinal) first attempts) (items-order (suc ordinal) items more others)
      (all-weaker (IsAttemptFrom (first_attempt epoch worker ordinal)) (λ o. AllByRecursion (IsNext o) more)
      (λ o of. all-weaker (IsItemFrom worker (suc ordinal)) (IsNext o) (λ later after. (inl (omega (arith, of.1, after.1)), of.0 ∙ sym after.0)) more behind)
      first (attempts-from (most_attempts item) (first_attempt epoch worker ordinal) first attempts)))

-- of one worker or none the outcomes are in order
workers-order : (epoch worker : ℕ) (workers : List (List Item)) (outcomes : List Outcome) → length workers ≤ 1 → AreOfWorkers epoch worker workers outcomes → AreInOrder outcomes
workers-order epoch worker [] outcomes few are = subst AreInOrder (sym are) tt
workers-order epoch worker (items ∷ []) outcomes few (own, others, is, of, skipped, more) =
    subst AreInOrder (sym (is ∙ ap (λ l. own ++ l) more ∙ append-nil own)) (items-order epoch worker 1 items own of)
workers-order epoch worker (items ∷ next ∷ rest) outcomes few are = absurd (omega (arith, few))

-- THE PLACES OF ITS COMMITS

row-front : (records more : List MonitorRecord) → AreInRow (records ++ more) → AreInRow records
row-front [] more row = tt
row-front (x ∷ records) more row = (λ y there. row.0 y (among_left records more y there), row-front records more row.1)

among-at : (records : List MonitorRecord) (n : ℕ) (x : MonitorRecord) → slice_get records n ≡ Some x → Among records x
among-at [] n x at = absurd (cc at)
among-at (y ∷ records) zero x at = inl (cc at)
among-at (y ∷ records) (suc n) x at = inr (among-at records n x at)

-- of two records in a row the second is the later one
row-at : (records : List MonitorRecord) → AreInRow records → (m n : ℕ) (x y : MonitorRecord) → m < n → slice_get records m ≡ Some x → slice_get records n ≡ Some y → IsLater x y
row-at [] row m n x y less at then = absurd (cc at)
row-at (r ∷ records) row m zero x y less at then = absurd (omega (arith, less))
row-at (r ∷ records) row zero (suc n) x y less at then = subst (λ z. IsLater z y) (some_same r x at) (row.0 y (among-at records n y then))
row-at (r ∷ records) row (suc m) (suc n) x y less at then = row-at records row.1 m n x y (omega (arith, less)) at then

not-both : (t u : Transid) → IsBefore t u → IsBefore u t → ⊥
not-both t u one other = ⊎_elim (λ a. ⊎_elim (λ b. omega (arith, a, b)) (λ b. omega (arith, a, b.0)) other) (λ a. ⊎_elim (λ b. omega (arith, a.0, b)) (λ b. omega (arith, a.0, a.1, b.0, b.1)) other) one

-- the commit stands at this place, among records behind the list
abbrev IsPlaced : List MonitorRecord → List MonitorRecord → Transid → ℕ → Type 0
IsPlaced list records tx place = (before : ℕ) × (place ≡ length list + suc before) × (slice_get records before ≡ Some (Commit tx))

-- so does that of each outcome that tells of it
abbrev ArePlaced : List MonitorRecord → List MonitorRecord → List Outcome → Type 0
ArePlaced list records outcomes = (o : Outcome) (place : ℕ) (reads : List (ℕ × Option (List ℕ))) → Contains outcomes o → o.told ≡ told.Committed place reads → IsPlaced list records o.tx place

module _ (list records : List MonitorRecord) (row : AreInRow records) where
  -- of two commits of one worker that of the later attempt stands at a higher place
  placed-above : (t u : Transid) (p q : ℕ) → IsPlaced list records t p → IsPlaced list records u q → IsBefore t u → t.worker ≡ u.worker → p < q
  placed-above t u p q one two before same =
      ⊎_elim (λ less. omega (arith, less, one.1, two.1))
      (λ least. ⊎_elim (λ less. absurd (not-both t u before (row-at records row two.0 one.0 (Commit u) (Commit t) less two.2 one.2 u t refl refl (sym same))))
      (λ most.
      let at : two.0 ≡ one.0 = omega (arith, least, most) in
      let is : Commit t ≡ Commit u = some_same (Commit t) (Commit u) (sym one.2 ∙ ap (λ n. slice_get records n) (sym at) ∙ two.2) in
      let tx : t ≡ u = cc is in
      let own : IsBefore t t = subst (λ v. IsBefore t v) (sym tx) before in
      absurd (not-both t t own own)) (cases_lt two.0 one.0))
      (cases_lt one.0 two.0)

  -- the places that the lines of outcomes tell rise, where the outcomes are in order as soon as the records have a commit
  places-rise : (config : Config) (low : ℕ) (outcomes : List Outcome) → ((tx : Transid) → Contains records (Commit tx) → AreInOrder outcomes) → ArePlaced list records outcomes
      → ((o : Outcome) (place : ℕ) (reads : List (ℕ × Option (List ℕ))) → Contains outcomes o → o.told ≡ told.Committed place reads → low < place) → AreAbove low (places_told (run_lines config outcomes))
  places-rise config low [] order placed above = tt
  places-rise config low (o ∷ rest) order placed above =
      ⊎_elim
      (λ silent. subst (AreAbove low) (sym (both ∙ ap (λ l. l ++ places_told (run_lines config rest)) (silent-none (told_lines config o.tx o.told) silent)))
      (places-rise config low rest (λ tx there. (order tx there).1) placed-rest (λ next place reads there tells. above next place reads (later next there) tells)))
      (λ is.
      let own = placed o is.0 is.1 (0, omega arith, refl) is.2 in
      let next_ones = order o.tx (contains-at records own.0 (Commit o.tx) own.2) in
      subst (AreAbove low) (sym (both ∙ ap (λ l. l ++ places_told (run_lines config rest)) (place-of o.tx o.told is.0 is.1 is.2))) (
        above o is.0 is.1 (0, omega arith, refl) is.2,
        places-rise config is.0 rest (λ tx there. (order tx there).1) placed-rest (λ next place reads there tells.
            let behind = contained (IsNext o) rest next next_ones.0 there in
            placed-above o.tx next.tx is.0 place own (placed-rest next place reads there tells) behind.0 behind.1),
      ))
      (committed-or-silent config o.tx o.told)
    where
      both : places_told (run_lines config (o ∷ rest)) ≡ places_told (told_lines config o.tx o.told) ++ places_told (run_lines config rest)
      both = filter_map-append place_told (told_lines config o.tx o.told) (run_lines config rest)

      later : (next : Outcome) → Contains rest next → Contains (o ∷ rest) next
      later next there = Contains-append_right (o ∷ []) rest next there

      placed-rest : ArePlaced list records rest
      placed-rest next place reads there tells = placed next place reads (later next there) tells

      place-of : (u : Transid) (tells : Told) (place : ℕ) (reads : List (ℕ × Option (List ℕ))) → tells ≡ told.Committed place reads → places_told (told_lines config u tells) ≡ place ∷ []
      place-of u tells place reads is = ap (λ (t : Told). places_told (told_lines config u t)) is ∙ ap (λ l. place ∷ l) (silent-none (read_lines u reads) (silent-of (read_lines u reads) (quiet-reads u reads)))

-- THE COMMITS THEMSELVES, IN ORDER

among-contains : {T : Type 0} (xs : List T) (x : T) → Among xs x → Contains xs x
among-contains [] x there = absurd there
among-contains (y ∷ xs) x (inl is) = (0, omega arith, is)
among-contains (y ∷ xs) x (inr there) = Contains-append_right (y ∷ []) xs x (among-contains xs x there)

contains-among : {T : Type 0} (xs : List T) (x : T) → Contains xs x → Among xs x
contains-among [] x there = absurd (nothing-in x there)
contains-among (y ∷ xs) x (zero, less, is) = inl is
contains-among (y ∷ xs) x (suc k, less, is) = inr (contains-among xs x (k, omega (arith, less), is))

-- each attempt is before all behind it
abbrev AreOrdered : List Transid → Type 0
AreOrdered [] = Unit {0}
AreOrdered (t ∷ ts) = ((u : Transid) → Among ts u → IsBefore t u) × AreOrdered ts

never-before : (t u : Transid) → t ≡ u → IsBefore t u → ⊥
never-before t u is before = let own = subst (λ v. IsBefore v u) is before in not-both u u own own

-- two such lists with the same members are one
same-ordered : (ts us : List Transid) → AreOrdered ts → AreOrdered us → ((t : Transid) → Among ts t → Among us t) → ((t : Transid) → Among us t → Among ts t) → ts ≡ us
same-ordered [] [] one other there back = refl
same-ordered [] (u ∷ us) one other there back = absurd (back u (inl refl))
same-ordered (t ∷ ts) [] one other there back = absurd (there t (inl refl))
same-ordered (t ∷ ts) (u ∷ us) one other there back =
    ap (λ v. v ∷ ts) head
    ∙ ap (λ l. u ∷ l)
    (same-ordered ts us one.1 other.1
    (λ v in_ts. ⊎_elim (λ is. absurd (never-before t v (head ∙ is) (one.0 v in_ts))) (λ in_us. in_us) (there v (inr in_ts)))
    (λ v in_us. ⊎_elim (λ is. absurd (never-before u v (sym head ∙ is) (other.0 v in_us))) (λ in_ts. in_ts) (back v (inr in_us))))
  where
    head : t ≡ u
    head = ⊎_elim (λ is. sym is) (λ in_us. ⊎_elim (λ is. is) (λ in_ts. absurd (not-both t u (one.0 u in_ts) (other.0 t in_us))) (back u (inl refl))) (there t (inl refl))

-- so it is where they are ordered as soon as the one list has a member
same-members : (ts us : List Transid) → ((t : Transid) → Among ts t → AreOrdered ts × AreOrdered us) → ((t : Transid) → Among ts t → Among us t) → ((t : Transid) → Among us t → Among ts t) → ts ≡ us
same-members [] [] ordered there back = refl
same-members [] (u ∷ us) ordered there back = absurd (back u (inl refl))
same-members (t ∷ ts) us ordered there back = let are = ordered t (inl refl) in same-ordered (t ∷ ts) us are.0 are.1 there back

-- the commits of records are those of which one of the records is
commits-among : (records : List MonitorRecord) (t : Transid) → Among (commits_of records) t → Among records (Commit t)
commits-among [] t there = absurd there
commits-among (Start e ∷ records) t there = inr (commits-among records t there)
commits-among (Abort u ∷ records) t there = inr (commits-among records t there)
commits-among (Commit u ∷ records) t (inl is) = inl (ap (λ v. Commit v) is)
commits-among (Commit u ∷ records) t (inr there) = inr (commits-among records t there)

among-commits : (records : List MonitorRecord) (t : Transid) → Among records (Commit t) → Among (commits_of records) t
among-commits [] t there = absurd there
among-commits (x ∷ records) t (inl is) = subst (λ y. Among (commits_of (y ∷ records)) t) (sym is) (inl refl)
among-commits (x ∷ records) t (inr there) = behind x (among-commits records t there)
  where
    behind : (y : MonitorRecord) → Among (commits_of records) t → Among (commits_of (y ∷ records)) t
    behind (Start e) is = is
    behind (Abort u) is = is
    behind (Commit u) is = inr is

-- of records in a row the commits of one worker are ordered
commits-ordered : (records : List MonitorRecord) → AreInRow records → ((t u : Transid) → Among records (Commit t) → Among records (Commit u) → t.worker ≡ u.worker) → AreOrdered (commits_of records)
commits-ordered [] row same = tt
commits-ordered (Start e ∷ records) row same = commits-ordered records row.1 (λ t u one other. same t u (inr one) (inr other))
commits-ordered (Abort v ∷ records) row same = commits-ordered records row.1 (λ t u one other. same t u (inr one) (inr other))
commits-ordered (Commit v ∷ records) row same = (
  λ u there. let at = commits-among records u there in row.0 (Commit u) at v u refl refl (same v u (inl refl) (inr at)),
  commits-ordered records row.1 (λ t u one other. same t u (inr one) (inr other)),
)

-- outcomes in order are of one worker
worker-same : (outcomes : List Outcome) → AreInOrder outcomes → (o p : Outcome) → Among outcomes o → Among outcomes p → o.tx.worker ≡ p.tx.worker
worker-same [] order o p one other = absurd one
worker-same (x ∷ outcomes) order o p one other = sym (first o one) ∙ first p other
  where
    first : (q : Outcome) → Among (x ∷ outcomes) q → x.tx.worker ≡ q.tx.worker
    first q (inl is) = ap (λ (y : Outcome). y.tx.worker) is
    first q (inr there) = (contained (IsNext x) outcomes q order.0 (among-contains outcomes q there)).1

-- the lines of an outcome acknowledge its attempt where it tells that it has committed, and nothing otherwise
acknowledge-one : (config : Config) (o : Outcome) (rest : List Outcome)
    → (acknowledged (run_lines config (o ∷ rest)) ≡ acknowledged (run_lines config rest))
    ⊎ ((place : ℕ) × (reads : List (ℕ × Option (List ℕ))) × (o.told ≡ told.Committed place reads) × (acknowledged (run_lines config (o ∷ rest)) ≡ o.tx ∷ acknowledged (run_lines config rest)))
acknowledge-one config o rest =
    ⊎_elim (λ silent. inl (both ∙ ap (λ l. l ++ acknowledged (run_lines config rest)) (silent-acknowledge (told_lines config o.tx o.told) silent)))
    (λ is. inr (is.0, is.1, is.2, both ∙ ap (λ l. l ++ acknowledged (run_lines config rest)) (own o.tx o.told is.0 is.1 is.2)))
    (committed-or-silent config o.tx o.told)
  where
    both : acknowledged (run_lines config (o ∷ rest)) ≡ acknowledged (told_lines config o.tx o.told) ++ acknowledged (run_lines config rest)
    both = filter_map-append acknowledged_by (told_lines config o.tx o.told) (run_lines config rest)

    own : (u : Transid) (tells : Told) (place : ℕ) (reads : List (ℕ × Option (List ℕ))) → tells ≡ told.Committed place reads → acknowledged (told_lines config u tells) ≡ u ∷ []
    own u tells place reads is = ap (λ (t : Told). acknowledged (told_lines config u t)) is ∙ ap (λ l. u ∷ l) (silent-acknowledge (read_lines u reads) (silent-of (read_lines u reads) (quiet-reads u reads)))

-- one of the outcomes is of the attempt, and tells that it has committed
abbrev HasTold : List Outcome → Transid → Type 0
HasTold outcomes t = (o : Outcome) × (place : ℕ) × (reads : List (ℕ × Option (List ℕ))) × Among outcomes o × (o.tx ≡ t) × (o.told ≡ told.Committed place reads)

told-later : (o : Outcome) (rest : List Outcome) (t : Transid) → HasTold rest t → HasTold (o ∷ rest) t
told-later o rest t is = (is.0, is.1, is.2, inr is.3, is.4, is.5)

-- it is so of each attempt that the lines acknowledge
acknowledged-told : (config : Config) (outcomes : List Outcome) (t : Transid) → Among (acknowledged (run_lines config outcomes)) t → HasTold outcomes t
acknowledged-told config [] t there = absurd there
acknowledged-told config (o ∷ rest) t there =
    ⊎_elim (λ same. told-later o rest t (acknowledged-told config rest t (subst (λ l. Among l t) same there)))
    (λ is. ⊎_elim (λ here. (o, is.0, is.1, inl refl, here, is.2)) (λ behind. told-later o rest t (acknowledged-told config rest t behind)) (subst (λ l. Among l t) is.3 there))
    (acknowledge-one config o rest)

-- those of outcomes in order are ordered
acknowledged-ordered : (config : Config) (outcomes : List Outcome) → AreInOrder outcomes → AreOrdered (acknowledged (run_lines config outcomes))
acknowledged-ordered config [] order = tt
acknowledged-ordered config (o ∷ rest) order =
    ⊎_elim (λ same. subst AreOrdered (sym same) (acknowledged-ordered config rest order.1))
    (λ is. subst AreOrdered (sym is.3) (
      λ u there. let of = acknowledged-told config rest u there in subst (λ v. IsBefore o.tx v) of.4 (contained (IsNext o) rest of.0 order.0 (among-contains rest of.0 of.3)).0,
      acknowledged-ordered config rest order.1,
    ))
    (acknowledge-one config o rest)

-- Where no line leaves a commit in doubt, and the outcomes are in order as soon as the records have a commit, the commits of the records are those that the lines acknowledge, in their order.
commits-exact : (config : Config) (list records : List MonitorRecord) (outcomes : List Outcome) → ((item : MonitorRecord) → Contains records item → IsRecordOf outcomes item) → AreInRow records → ArePlaced list records outcomes
    → ((tx : Transid) → Contains records (Commit tx) → AreInOrder outcomes) → doubted (run_lines config outcomes) ≡ [] → commits_of records ≡ acknowledged (run_lines config outcomes)
commits-exact config list records outcomes each row placed order none =
    same-members (commits_of records) (acknowledged (run_lines config outcomes))
    (λ t there. let are = order t (is_record t there) in (
      commits-ordered records row (λ u v one other.
          let of = each (Commit u) (among-contains records (Commit u) one) in
          let off = each (Commit v) (among-contains records (Commit v) other) in
          ap (λ (x : Transid). x.worker) (sym of.tx_is) ∙ worker-same outcomes are of.outcome off.outcome of.among off.among ∙ ap (λ (x : Transid). x.worker) off.tx_is),
      acknowledged-ordered config outcomes are,
    ))
    (λ t there.
    let of = each (Commit t) (is_record t there) in
    ⊎_elim (λ is. contains-among (acknowledged (run_lines config outcomes)) t (subst (λ u. Contains (acknowledged (run_lines config outcomes)) u) of.tx_is is))
    (λ doubt. absurd (nothing-in of.outcome.tx (subst (λ l. Contains l of.outcome.tx) none doubt)))
    (is-told config outcomes of.outcome of.among of.is_so))
    (λ t there.
    let of = acknowledged-told config outcomes t there in
    let at = placed of.0 of.1 of.2 (among-contains outcomes of.0 of.3) of.5 in
    subst (λ u. Among (commits_of records) u) of.4 (among-commits records of.0.tx (among-at records at.0 (Commit of.0.tx) at.2)))
  where
    is_record : (t : Transid) → Among (commits_of records) t → Contains records (Commit t)
    is_record t there = among-contains records (Commit t) (commits-among records t there)

-- A RUN IS ADDED

-- With records in a row of which each is of an outcome, where each transaction that is told as committed has its own at its place, it is extended by the run.
extend-run : (config : Config) (phase : Phase) (epoch : ℕ) (s : Candidate) (outcomes : List Outcome) (records : List MonitorRecord) → epoch ≡ epoch_of s.list → AreOutcomesOf phase epoch outcomes
    → ((item : MonitorRecord) → Contains records item → IsRecordOf outcomes item) → AreInRow records → ArePlaced s.list records outcomes
    → Extends config (epoch_of s.list) (suc (epoch_of (s.list ++ records))) (record { epoch = epoch; phase = phase } ∷ []) (run_lines config outcomes) s (with_records phase epoch records s)
extend-run config phase epoch s outcomes records same attempts each row placed =
    let last : epoch_of (s.list ++ records) ≡ epoch_of s.list = ap (λ o. unwrap_or o 0) (last_epoch-more s.list records (λ e there. each (Start e) there)) in
    record {
      records = records;
      list = refl;
      no_other = λ tx there.
          let of = each (Commit tx) there in
          subst (IsTold (run_lines config outcomes)) of.tx_is (is-told config outcomes of.outcome of.among of.is_so);
      in_order = λ single.
          places-rise s.list records row config (length s.list) outcomes (in_row single) placed
          (λ o place reads there tells. let is = placed o place reads there tells in omega (arith, is.1));
      all_in_order = λ single none. commits-exact config s.list records outcomes each row placed (in_row single) none;
      places = λ tx place there.
          let is = lines-tell config outcomes tx place there in
          let at = placed is.0 place is.1 is.2 is.4 in (
            omega (arith, at.1),
            ap (λ n. slice_get (s.list ++ records) n) (place-split place (length s.list) at.0 at.1) ∙ slice_get-behind s.list records at.0 ∙ at.2 ∙ ap (λ t. Some (Commit t)) is.3,
          );
      map = commits-agree (script_transaction phase epoch) (meaning_in (record { epoch = epoch; phase = phase } ∷ [])) records (λ tx there. sym (meaning-one phase epoch tx)) s.map;
      lost = still-lost config (run_lines config outcomes) s.lost (run-still config outcomes);
      ours = λ tx there. inl (of_epoch tx there);
      rising = (omega (arith, same), omega (arith, same, last));
    }
  where
    -- each new commit is of the run's epoch
    of_epoch : (tx : Transid) → Contains records (Commit tx) → tx.epoch ≡ epoch
    of_epoch tx there =
        let of = each (Commit tx) there in
        subst (λ (t : Transid). t.epoch ≡ epoch) of.tx_is (among-epoch epoch outcomes of.outcome (workers-epoch epoch 1 phase.workers outcomes attempts) of.among)

    -- as soon as there is one, the outcomes of a single run are in order
    in_row : AreOfSingle (record { epoch = epoch; phase = phase } ∷ []) records → (tx : Transid) → Contains records (Commit tx) → AreInOrder outcomes
    in_row single tx there = workers-order epoch 1 phase.workers outcomes (single (record { epoch = epoch; phase = phase }) tx (0, omega arith, refl) there (of_epoch tx there)) attempts

    place-split : (place count n : ℕ) → place ≡ count + suc n → place - 1 ≡ count + n
    place-split place count n is = omega (arith, is)

-- So it is with the records that have landed, and also with those behind them that were offered.
module _ (config : Config) (phase : Phase) (epoch : ℕ) (s : Candidate) (outcomes : List Outcome) (after : Option (List Candidate)) (same : epoch ≡ epoch_of s.list) (attempts : AreOutcomesOf phase epoch outcomes)
    (goes : GoesOn config phase epoch outcomes s after) where
  placed-in : (more records : List MonitorRecord) → records ≡ goes.landed ++ more → ArePlaced s.list records outcomes
  placed-in more records are o place reads there tells =
      let has = goes.committed o place reads there tells in
      (has.before, has.place_is, stays-at goes.landed more records has.before (Commit o.tx) are has.at)

  abbrev pub Behind : List MonitorRecord → Type 0
  Behind records = Extends config (epoch_of s.list) (suc (epoch_of (s.list ++ records))) (record { epoch = epoch; phase = phase } ∷ []) (run_lines config outcomes) s (with_records phase epoch records s)

  pub extend-landed : Behind goes.landed
  extend-landed = extend-run config phase epoch s outcomes goes.landed same attempts (λ item there. goes.records item (Contains-append_left goes.landed goes.offered item there)) (row-front goes.landed goes.offered goes.row)
      (placed-in [] goes.landed (sym (append-nil goes.landed)))

  pub extend-offered : Behind (goes.landed ++ goes.offered)
  extend-offered = extend-run config phase epoch s outcomes (goes.landed ++ goes.offered) same attempts goes.records goes.row (placed-in goes.offered (goes.landed ++ goes.offered) refl)

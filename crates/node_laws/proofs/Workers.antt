-- What a worker may do, it may do seen as that of any layout; and what it makes true.
use Rattle.std.specs.Prelude.{◌≡◌, ◌≢◌, ℕ, ◌<◌, ◌==◌, Bool, true, false, List, [], ◌∷◌, ◌++◌, Option, Some, None, IsSome, if◌then◌else◌}
use Rattle.std.specs.List.{list_any}
use Rattle.std.proofs.Common.{refl, ap, sym, ◌∙◌, subst, arith, eq-eqb, ⊎_elim, inl, inr}
use Rattle.std.proofs.lemmas.Bool.{false_from_ne_true, or_parts}
use Rattle.tmf_model.specs.declared.script.Close.{Close}
use Rattle.tmf_model.specs.declared.script.Close.TheVariants.{Commit as Committing, Abort as Aborting}
use Rattle.tmf_model.specs.declared.transid.Transid.{Transid}
use Rattle.trail_files.specs.MonitorOrder.{is_same_transid}
use Rattle.any_node.specs.Node.{allows_work}
use Rattle.node_machine.specs.declared.event.WorkerEvent.{WorkerEvent}
use Rattle.node_machine.specs.declared.event.WorkerEvent.TheVariants.{Begin, Enlist, Finish, End, Quit}
use Rattle.node_machine.specs.Parts.{WorkerPart}
use Rattle.node_machine.specs.Worker.{has_begun, decision, enlisted_discs, WorkerMay}
use Rattle.node_machine.specs.Same.{Among, IsBefore}
use Rattle.node_machine.specs.SameLaws.{same_is, among_left, among_right, among_append}
use Rattle.node_machine.specs.Opening.{Found}
use Rattle.node_laws.specs.Layouts.{layout, later_if_before}
use Rattle.node_laws.specs.Views.{is_close, commits_at, newest_discs, any_worker, any_worker_event}

not_among : (xs : List ℕ) (d : ℕ) → list_any (λ other. other == d) xs ≡ false → Among xs d → ⊥
not_among [] d e h = h
not_among (x ∷ xs) d e h =
    let parts = or_parts (x == d) (list_any (λ other. other == d) xs) e in
    ⊎_elim
    (λ (same : x ≡ d). (let both : true ≡ false = sym (eq-eqb x d same) ∙ parts.0 in absurd (cc (both))))
    (λ (r : Among xs d). not_among xs d parts.1 r)
    h

not_before_self : (t : Transid) → IsBefore t t → ⊥
not_before_self t h = ⊎_elim (λ (lt : t.ordinal < t.ordinal). absurd (omega (arith, lt))) (λ (x : (t.ordinal ≡ t.ordinal) × (t.attempt < t.attempt)). absurd (omega (arith, x.1))) h

is_not_none : (o : Option Close) → IsSome o → o ≢ None
is_not_none None h e = absurd (cc (h))
is_not_none (Some c) h e = absurd (cc (e))

-- what has begun is of this run
abbrev pub AreOwn : ℕ → List WorkerEvent → Type 0
AreOwn epoch events = (u : Transid) → has_begun events u ≡ true → u.epoch ≡ epoch

own_case : (b : Bool) (c : Bool) (u t : Transid) (epoch : ℕ) → (b ≡ true → t ≡ u) → t.epoch ≡ epoch → (c ≡ true → u.epoch ≡ epoch) → (if b then true else c) ≡ true → u.epoch ≡ epoch
own_case true c u t epoch e own more h = ap (λ (x : Transid). x.epoch) (sym (e refl)) ∙ own
own_case false c u t epoch e own more h = more h

pub own_kept : (s : WorkerPart) (e : WorkerEvent) → WorkerMay s e → AreOwn s.epoch s.events → AreOwn s.epoch (e ∷ s.events)
own_kept s (Begin t) may own u h = own_case (is_same_transid t u) (has_begun s.events u) u t s.epoch (λ e. same_is t u e) may.is_own.epoch (own u) h
own_kept s (Enlist t d) may own u h = own u h
own_kept s (Finish t) may own u h = own u h
own_kept s (End t) may own u h = own u h
own_kept s (Quit t) may own u h = own u h

module _ (found : Found) where
  close_case : (b : Bool) (x : Option Bool) (o c : Option Close) → x ≡ is_close found o → (if b then is_close found c else x) ≡ is_close found (if b then c else o)
  close_case true x o c e = refl
  close_case false x o c e = e

  pub commits_close : (events : List WorkerEvent) (t : Transid) → commits_at found events t ≡ is_close found (decision events t)
  commits_close [] t = refl
  commits_close (End u ∷ events) t = close_case (is_same_transid u t) (commits_at found events t) (decision events t) (Some Committing) (commits_close events t)
  commits_close (Quit u ∷ events) t = close_case (is_same_transid u t) (commits_at found events t) (decision events t) (Some Aborting) (commits_close events t)
  commits_close (Begin u ∷ events) t = commits_close events t
  commits_close (Enlist u d ∷ events) t = commits_close events t
  commits_close (Finish u ∷ events) t = commits_close events t

  undecided : (events : List WorkerEvent) (t : Transid) → decision events t ≡ None → commits_at found events t ≡ None
  undecided events t e = commits_close events t ∙ ap (is_close found) e

  some_close : (o : Option Close) → o ≢ None → is_close found o ≢ None
  some_close None h e = h refl
  some_close (Some c) h e = absurd (cc (e))

  decided : (events : List WorkerEvent) (t : Transid) → IsSome (decision events t) → commits_at found events t ≢ None
  decided events t h e = some_close (decision events t) (is_not_none (decision events t) h) (sym (commits_close events t) ∙ e)

  pub newest_enlisted : (events : List WorkerEvent) (t : Transid) (d : ℕ) → Among (newest_discs found events t) d → Among (enlisted_discs events t) d
  newest_enlisted [] t d h = h
  newest_enlisted (Enlist u n ∷ events) t d h =
      pick (newest_enlisted events t d) (is_same_transid u t) (λ e. same_is u t e) h
    where
      pick : (Among (newest_discs found events t) d → Among (enlisted_discs events t) d) → (b : Bool) → (b ≡ true → u ≡ t) → Among (if b then n ∷ newest_discs found events u else newest_discs found events t) d → Among (if b then enlisted_discs events t ++ n ∷ [] else enlisted_discs events t) d
      pick more true e h =
          ⊎_elim
          (λ (x : n ≡ d). among_right (enlisted_discs events t) (n ∷ []) d (inl x))
          (λ (r : Among (newest_discs found events u) d). among_left (enlisted_discs events t) (n ∷ []) d (more (subst (λ (x : Transid). Among (newest_discs found events x) d) (e refl) r)))
          h
      pick more false e h = more h
  newest_enlisted (Begin u ∷ events) t d h = newest_enlisted events t d h
  newest_enlisted (Finish u ∷ events) t d h = newest_enlisted events t d h
  newest_enlisted (End u ∷ events) t d h = newest_enlisted events t d h
  newest_enlisted (Quit u ∷ events) t d h = newest_enlisted events t d h

  pub enlisted_newest : (events : List WorkerEvent) (t : Transid) (d : ℕ) → Among (enlisted_discs events t) d → Among (newest_discs found events t) d
  enlisted_newest [] t d h = h
  enlisted_newest (Enlist u n ∷ events) t d h =
      pick (enlisted_newest events t d) (is_same_transid u t) (λ e. same_is u t e) h
    where
      pick : (Among (enlisted_discs events t) d → Among (newest_discs found events t) d) → (b : Bool) → (b ≡ true → u ≡ t) → Among (if b then enlisted_discs events t ++ n ∷ [] else enlisted_discs events t) d → Among (if b then n ∷ newest_discs found events u else newest_discs found events t) d
      pick more true e h =
          ⊎_elim
          (λ (l : Among (enlisted_discs events t) d). inr (subst (λ (x : Transid). Among (newest_discs found events x) d) (sym (e refl)) (more l)))
          (λ (r : Among (n ∷ []) d). ⊎_elim (λ (x : n ≡ d). inl x) (λ (z : ⊥). absurd z) r)
          (among_append (enlisted_discs events t) (n ∷ []) d h)
      pick more false e h = more h
  enlisted_newest (Begin u ∷ events) t d h = enlisted_newest events t d h
  enlisted_newest (Finish u ∷ events) t d h = enlisted_newest events t d h
  enlisted_newest (End u ∷ events) t d h = enlisted_newest events t d h
  enlisted_newest (Quit u ∷ events) t d h = enlisted_newest events t d h

  pub worker_allows : (s : WorkerPart) (e : WorkerEvent) → s.epoch ≡ found.epoch → AreOwn s.epoch s.events → WorkerMay s e → allows_work (layout found) (any_worker found s.number s.events) (any_worker_event found e)
  worker_allows s (Begin t) same own may = (
    may.is_own.worker,
    may.is_own.epoch ∙ same,
    false_from_ne_true (has_begun s.events t) (λ b. not_before_self t (may.later t b)),
    λ u b. (later_if_before u t (own u b ∙ sym may.is_own.epoch) (may.later u b), decided s.events u (may.decided u b)),
  )
  worker_allows s (Enlist t d) same own may =
      (may.is_open.is_own.worker, may.is_open.begun, may.unfinished, undecided s.events t may.is_open.undecided, λ h. not_among (enlisted_discs s.events t) d may.is_new (newest_enlisted s.events t d h))
  worker_allows s (Finish t) same own may = (may.is_open.is_own.worker, may.is_open.begun, may.unfinished, undecided s.events t may.is_open.undecided)
  worker_allows s (End t) same own may = (may.is_open.is_own.worker, may.finished, undecided s.events t may.is_open.undecided)
  worker_allows s (Quit t) same own may = (may.is_own.worker, may.begun, undecided s.events t may.undecided)

-- What is known of a transaction that has enlisted discs.
use Rattle.std.specs.Prelude.{if◌then◌else◌}
use Rattle.std.proofs.Common.{◌≡◌, ℕ, ◌<◌, ◌≤◌, ◌==◌, ◌||◌, ◌⊎◌, Bool, true, false, List, [], ◌∷◌, ◌++◌, length, option_map, refl, ap, sym, ◌∙◌, subst, inl, inr, ⊎_elim, arith, eqb-true}
use Rattle.std.specs.List.{IsDistinct, list_any}
use Rattle.std.proofs.lemmas.Cmp.{nat_eq_equiv}
use Rattle.std.proofs.lemmas.List.{length_push}
use Rattle.std.proofs.lemmas.List.Folds.{list_any-append}
use Rattle.std.proofs.lemmas.Map.Keys.{IsDistinct-push}
use Rattle.std.proofs.lemmas.Map.Steps.{length-le_from_distinct_below}
use Rattle.chronicle.specs.Seats.{Sight, part_state, Knows}
use Rattle.chronicle.proofs.Facts.{known_of_part}
use Rattle.tmf_model.specs.declared.transid.Transid.{Transid}
use Rattle.node_machine.specs.declared.event.Event.{Event}
use Rattle.node_machine.specs.declared.event.Event.TheVariants.{OfWorker}
use Rattle.node_machine.specs.declared.event.WorkerEvent.TheVariants.{Begin, Enlist}
use Rattle.node_machine.specs.Node.{node}
use Rattle.node_machine.specs.Parts.{PartState}
use Rattle.node_machine.specs.Parts.Fact.{Enlisted}
use Rattle.node_machine.specs.Parts.PartState.{Worker}
use Rattle.node_machine.specs.Same.{Among}
use Rattle.node_machine.specs.SameLaws.{same_self, case_true}
use Rattle.node_machine.specs.Seats.{CanBegin, IsActive}
use Rattle.node_machine.specs.Worker.{enlisted_discs, has_begun}
use Rattle.txn_states.specs.Txn.{AreDiscs}

among_step : (x d : ℕ) (xs : List ℕ) (b : Bool) → (x == d) ≡ b → (list_any (λ y. y == d) xs ≡ true → Among xs d) → (b || list_any (λ y. y == d) xs) ≡ true → Among (x ∷ xs) d
among_step x d xs true same rest h = inl (eqb-true x d same)
among_step x d xs false same rest h = inr (rest h)

pub among_any : (xs : List ℕ) (d : ℕ) → list_any (λ x. x == d) xs ≡ true → Among xs d
among_any [] d h = absurd (cc (h))
among_any (x ∷ xs) d h = among_step x d xs (x == d) refl (among_any xs d) h

any_flip : (xs : List ℕ) (d : ℕ) → list_any (λ x. d == x) xs ≡ list_any (λ x. x == d) xs
any_flip [] d = refl
any_flip (x ∷ xs) d = ap (λ b. b || list_any (λ y. d == y) xs) (nat_eq_equiv.symm d x) ∙ ap (λ b. (x == d) || b) (any_flip xs d)

any_one : (a b : Bool) → (a || (b || false)) ≡ true → (a ≡ true) ⊎ (b ≡ true)
any_one true b h = inl refl
any_one false true h = inr refl
any_one false false h = absurd (cc (h))

pub more_discs : (xs : List ℕ) (d : ℕ) → AreDiscs xs → d < 9 → list_any (λ x. x == d) xs ≡ false → AreDiscs (xs ++ d ∷ [])
more_discs xs d are below fresh = record {
  distinct = IsDistinct-push nat_eq_equiv xs d are.distinct (any_flip xs d ∙ fresh);
  few = λ e there.
      ⊎_elim
      (λ (h : list_any (λ x. x == e) xs ≡ true). are.few e h)
      (λ (h : (d == e) ≡ true). (let same = eqb-true d e h in omega (arith, same)))
      (any_one (list_any (λ x. x == e) xs) (d == e) (sym (list_any-append (λ x. x == e) xs (d ∷ [])) ∙ there));
}

few_discs : (xs : List ℕ) → AreDiscs xs → length xs ≤ 9
few_discs xs are = length-le_from_distinct_below xs 9 are.distinct (λ q h. are.few q (sym (any_flip xs q) ∙ h))

pub room_for_disc : (xs : List ℕ) (d : ℕ) → AreDiscs xs → d < 9 → list_any (λ x. x == d) xs ≡ false → length xs < 9
room_for_disc xs d are below fresh =
    let all = few_discs (xs ++ d ∷ []) (more_discs xs d are below fresh) in
    omega (arith, all, length_push xs d)

none_distinct : IsDistinct (λ (a b : ℕ). a == b) []
unfolding IsDistinct
none_distinct = tt

pub no_discs : AreDiscs []
no_discs = record { distinct = none_distinct; few = λ d there. absurd (cc (there)) }

module _ (opening : List PartState) where
  pub knows_enlisted : (v : Sight Event) (t : Transid) (discs : List ℕ) (d : ℕ) → IsActive opening v t discs → list_any (λ x. x == d) discs ≡ true → Knows node opening v (Enlisted t d)
  knows_enlisted v t discs d a there =
      known_of_part node opening v (Worker a.part) (Enlisted t d) a.at (
        record { worker = a.is_open.is_own.worker; epoch = a.is_open.is_own.epoch },
        subst (λ (xs : List ℕ). Among xs d) (sym a.discs_are) (among_any discs d there),
      )

  pub begun_active : (v w : Sight Event) (t : Transid) → CanBegin opening v t → part_state node opening w ≡ option_map (λ s. node.step s (OfWorker (Begin t))) (part_state node opening v)
      → IsActive opening w t []
  begun_active v w t can step = record {
    part = record can.part { events = Begin t ∷ can.part.events };
    at = step ∙ ap (option_map (λ s. node.step s (OfWorker (Begin t)))) can.at;
    is_open = record { is_own = record { worker = can.may.is_own.worker; epoch = can.may.is_own.epoch }; begun = ap (λ b. if b then true else has_begun can.part.events t) (same_self t); undecided = can.undecided };
    unfinished = can.unfinished;
    discs_are = can.alone;
  }

  pub more_active : (v w : Sight Event) (t : Transid) (discs : List ℕ) (d : ℕ) → IsActive opening v t discs
      → part_state node opening w ≡ option_map (λ s. node.step s (OfWorker (Enlist t d))) (part_state node opening v)
      → IsActive opening w t (discs ++ d ∷ [])
  more_active v w t discs d a step = record {
    part = record a.part { events = Enlist t d ∷ a.part.events };
    at = step ∙ ap (option_map (λ s. node.step s (OfWorker (Enlist t d)))) a.at;
    is_open = record { is_own = record { worker = a.is_open.is_own.worker; epoch = a.is_open.is_own.epoch }; begun = a.is_open.begun; undecided = a.is_open.undecided };
    unfinished = a.unfinished;
    discs_are = case_true _ (enlisted_discs a.part.events t ++ d ∷ []) (enlisted_discs a.part.events t) (same_self t) ∙ ap (λ xs. xs ++ d ∷ []) a.discs_are;
  }

  pub any_last : (xs : List ℕ) (d : ℕ) → list_any (λ x. x == d) (xs ++ d ∷ []) ≡ true
  any_last xs d = list_any-append (λ x. x == d) xs (d ∷ []) ∙ ends (list_any (λ x. x == d) xs) (d == d) (nat_eq_equiv.refl d)
    where
      ends : (a b : Bool) → b ≡ true → (a || (b || false)) ≡ true
      ends true b h = refl
      ends false b h = ap (λ x. x || false) h

  pub nothing_behind : {A : Type 0} (xs : List A) → xs ++ [] ≡ xs
  nothing_behind [] = refl
  nothing_behind (x ∷ xs) = ap (λ ys. x ∷ ys) (nothing_behind xs)

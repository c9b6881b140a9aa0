-- An opening, and a history with an event of almost each kind: the laws' premises can be met.
use Rattle.std.proofs.Common.{ne_eqb, ◌≡◌, ◌≢◌, ℕ, zero, suc, ◌==◌, ◌+◌, ◌≤◌, ◌<◌, Bool, true, false, cond, List, [], ◌∷◌, ◌++◌, length, Option, Some, None, slice_get, refl, ap, sym, ◌∙◌, subst, ⊎_elim, inl, inr, arith}
use Rattle.chronicle.specs.Histories.{states_after, IsHistory, IsTrueIn}
use Rattle.any_node.specs.Layout.{Layout}
use Rattle.any_node.specs.Numbered.{Numbered, layout}
use Rattle.any_node.specs.Value.{AuditRecord, Ending, Among, Each, AreDistinct, own, filed, entries}
use Rattle.any_node.specs.Node.Label.{Taken}
use Rattle.any_node.specs.Value.Entry.{start, close}
use Rattle.any_node.specs.Node.{Worker, Disc, Trail, Monitor, Dump, State, Event, node, Backed, IsTaken, IsQuiet, start_of}
use Rattle.any_node.specs.Node.State.{worker, disc, trail, monitor, dump}
use Rattle.any_node.specs.Node.Event.{Begin, Enlist, Finish, End, Write, Read, Close, Release, Draw, Drawn, Low, Lowered, Start, Raise, OfferAudit, OfferCar, Land, Purge, Copy, Seal, Sealed}
use Rattle.any_node.specs.Node.Fact.{Closed, Made, Durable, Floor}
use Rattle.chronicle.proofs.States.{history-append}
use Rattle.any_node.specs.Stands.{Base, Image}
use Rattle.any_node.specs.Opening.{Same, IsOpening, IsFresh, IsFreshTrail, IsFreshDump}
use Rattle.any_node.specs.Shows.{Shows, ShowsCloses, ShowsRows, ShowsVolume, ShowsDump, content}
use Rattle.any_node.proofs.Lists.{each_at, some_is}

abbrev numbered : Numbered
numbered = record { epoch = 1; worker_of = λ t. 0; epoch_of = λ t. 1; discs = 0 ∷ []; trail_of = λ d. 0; disc_of = λ k. 0; file_of = λ k. 0; block_of = λ k. 0; room = 1; gives = λ o v. Some (Some o); is_put = λ o. true; is_change = λ o. true; no_other = λ o v c e h. cc (e); one_disc = λ j k e. refl }

abbrev N : Layout
N = layout numbered

abbrev W : Worker N
W = record { number = 0; begun = λ t. false; discs = λ t. []; finished = λ t. false; decided = λ t. None }

abbrev D : Disc N
D = record {
  number = 0;
  lost = false;
  first = 1;
  base = λ k. None;
  map = λ k. None;
  made = [];
  held = λ k. None;
  locked = λ f. None;
  written = λ k. false;
  left = λ t. [];
  closed = λ t. false;
  undone = λ t. false;
  released = λ t. false;
  last = λ t. 0;
  drawn = λ b. 0;
  drawing = λ b. None;
  low = 1;
  lowering = None;
  rest = None;
  way = None;
  starts = [];
}

abbrev T : Trail N
T = record { number = 0; first = λ d. 1; before = []; landed = []; offered = []; present = 1; purged = 0 }

abbrev M : Monitor N
M = record { before = start 1 ∷ []; landed = []; offered = [] }

abbrev U : Dump N
U = record { number = 0; landed = None; offered = None; copied = λ i b. None; seals = 0; over = [] }

abbrev ss : List (State N)
ss = worker W ∷ disc D ∷ trail T ∷ monitor M ∷ dump U ∷ []

abbrev r : AuditRecord N
r = record { tx = 5; disc = 0; position = 1; key = 7; before = None; after = Some 9; op = Some 9 }

abbrev x : Ending N
x = record { tx = 5; commit = true }

abbrev log1 : List (ℕ × Event N)
log1 = (0, Begin 5) ∷ (0, Enlist 5 0) ∷ (1, Write 5 r) ∷ (1, Read 5 7 (Some 9)) ∷ (0, Finish 5) ∷ (1, Close 5) ∷ []

abbrev log2 : List (ℕ × Event N)
log2 = (2, OfferAudit 1 (r ∷ [])) ∷ (2, Land) ∷ (0, End 5) ∷ []

abbrev log3 : List (ℕ × Event N)
log3 = (3, OfferCar (x ∷ [])) ∷ (3, Land) ∷ (1, Release 5) ∷ (1, Draw 0 1) ∷ (1, Drawn 0) ∷ []

abbrev log4 : List (ℕ × Event N)
log4 = (1, Low 0 2) ∷ (1, Lowered) ∷ (1, Start 0 1 2) ∷ []

abbrev log5 : List (ℕ × Event N)
log5 = (4, Copy 1 0 1) ∷ (4, Seal 1 2) ∷ (4, Sealed 1 true) ∷ (1, Raise 1 (Some 2)) ∷ []

abbrev log6 : List (ℕ × Event N)
log6 = (2, Purge 2 2) ∷ []

abbrev log : List (ℕ × Event N)
log = log1 ++ (log2 ++ (log3 ++ (log4 ++ (log5 ++ log6))))

abbrev S1 : List (State N)
S1 = states_after (node N) ss log1

abbrev S2 : List (State N)
S2 = states_after (node N) S1 log2

abbrev S3 : List (State N)
S3 = states_after (node N) S2 log3

abbrev S4 : List (State N)
S4 = states_after (node N) S3 log4

abbrev S5 : List (State N)
S5 = states_after (node N) S4 log5

-- no key is taken
none_taken : (s : Disc N) → ((k : ℕ) → s.map k ≡ None) → ((k : ℕ) → s.written k ≡ false) → (ks : List ℕ) → AreDistinct ks → Each (λ k. (◌≡◌ {A = ℕ} 0 0) × IsTaken s k) ks → length ks < 1
none_taken s m w [] d t = omega arith
none_taken s m w (k ∷ ks) d t = ⊎_elim (λ (some : s.map k ≢ None). absurd (some (m k))) (λ (e : s.written k ≡ true). (let both : true ≡ false = sym e ∙ w k in absurd (cc (both)))) t.0.1

pub first_steps : IsHistory (node N) ss log1
first_steps = (
  (_, refl, (refl, refl, refl, (λ u e. absurd (cc (e)))), tt),
  (
    (_, refl, (refl, refl, refl, refl, (λ has. has)), tt),
    (
      (_, refl, (refl, ((refl, refl, refl), (inl refl, inl refl), refl, refl, refl, refl, refl, refl, (λ o e. (refl, inr (inr (none_taken D (λ k. refl) (λ k. refl))))))), (0, _, refl, (refl, refl, inl refl))),
      (
        (_, refl, (refl, ((refl, refl, refl), (inr refl, inl refl), refl, refl)), (0, _, refl, (refl, refl, inl refl))),
        (
          (_, refl, (refl, refl, refl, refl), tt),
          (
            (_, refl, (refl, (refl, refl, refl)), ((0, _, refl, (refl, refl, inl refl)), (0, _, refl, (refl, refl)))),
            tt,
          ),
        ),
      ),
    ),
  ),
)

-- the record of the first steps is made
audit_made : (d : ℕ) → own d (filed 1 (r ∷ [])) ≢ [] → (n : ℕ) × IsTrueIn (node N) S1 (Made d n (own d (filed 1 (r ∷ []))))
audit_made zero some = (1, (1, _, refl, (refl, ([], refl), refl)))
audit_made (suc d) some = absurd (some (ap (λ (b : Bool). cond {A = List (AuditRecord N)} b (r ∷ []) []) (ne_eqb 0 (suc d) (λ e. cc (e)))))

pub second_steps : IsHistory (node N) S1 log2
second_steps = (
  (_, refl, (refl, omega arith, omega arith, omega arith, (refl, tt)), (λ d some. audit_made d some)),
  (
    (_, refl, (λ e. absurd (cc (e))), tt),
    (
      (_, refl, (refl, refl, refl), tt),
      tt,
    ),
  ),
)

per_disc : (d : ℕ) → Among (0 ∷ []) d → (m : ℕ) × IsTrueIn (node N) S2 (Closed 5 d m) × IsTrueIn (node N) S2 (Durable d m)
per_disc zero has = (1, (1, _, refl, (refl, refl, refl)), (2, _, refl, (refl, omega arith)))
per_disc (suc d) has = ⊎_elim (λ (e : 0 ≡ suc d). absurd (cc (e))) (λ gone. absurd gone) has

backed : (y : Ending N) → Among (x ∷ []) y → Backed N (λ f. IsTrueIn (node N) S2 f) y
backed y has = each_at (Backed N (λ f. IsTrueIn (node N) S2 f)) (x ∷ []) y ((0 ∷ [], (0, _, refl, (refl, refl, refl, refl)), (λ c d h. per_disc d h)), tt) has

only_one : (y : AuditRecord N) → Among (r ∷ []) y → y.position ≤ 1
only_one y has = ⊎_elim (λ (e : r ≡ y). (let same : 1 ≡ y.position = ap (λ (z : AuditRecord N). z.position) e in omega (arith, same))) (λ gone. absurd gone) has

pub third_steps : IsHistory (node N) S2 log3
third_steps = (
  (_, refl, (refl, ((λ y has _. absurd has), tt), omega arith, omega arith), (λ y has. backed y has)),
  (
    (_, refl, (λ e. absurd (cc (e))), tt),
    (
      (_, refl, (refl, refl), inl (2, (3, _, refl, (0, refl, refl)))),
      (
        (_, refl, (refl, (refl, omega arith, (r, inl refl, refl, refl), (λ y has e. only_one y has))), (2, _, refl, (refl, omega arith))),
        (
          (_, refl, (refl, (λ e. absurd (cc (e)))), tt),
          tt,
        ),
      ),
    ),
  ),
)

abbrev disc_of : List (State N) → Disc N
disc_of (a ∷ disc s ∷ rest) = s
disc_of _ = D

quiet_two : (s : Disc N) → s.first ≡ 1 → s.made ≡ r ∷ [] → s.released 5 ≡ true → s.undone 5 ≡ false → IsQuiet s 2 × ((n : ℕ) → IsQuiet s n → n ≤ 2)
quiet_two s first made gone fine =
    let size : length s.made ≡ 1 = ap length made in (
      (
        (omega (arith, first, size)),
        (λ y has lt. (let is : r ≡ y = ⊎_elim (λ (e : r ≡ y). e) (λ none. absurd none) (subst (λ (us : List (AuditRecord N)). Among us y) made has) in
            (ap (λ (z : AuditRecord N). s.released z.tx) (sym is) ∙ gone, (λ u. (let both : true ≡ false = sym u ∙ ap (λ (z : AuditRecord N). s.undone z.tx) (sym is) ∙ fine in absurd (cc (both))))))),
      ),
      (λ n q. (let le : n ≤ s.first + length s.made = q.0 in omega (arith, le, first, size))),
    )

drawn_out : (b : ℕ) → cond {A = Option ℕ} (b == 0) None (cond (b == 0) (Some 1) None) ≡ None
drawn_out zero = refl
drawn_out (suc b) = pick (suc b == 0) where
  pick : (c : Bool) → cond {A = Option ℕ} c None (cond c (Some 1) None) ≡ None
  pick true = refl
  pick false = refl

clean_two : (b n : ℕ) → (b ≡ 0 → n ≡ 1) → (y : AuditRecord N) → Among (r ∷ []) y → 0 ≡ b → n < y.position → y.position < 2 → ⊥
clean_two b n is y has of lt to = (let one : y.position ≤ 1 = only_one y has in let at : n ≡ 1 = is (sym of) in omega (arith, lt, one, at))

drawn_at : (b : ℕ) → b ≡ 0 → cond {A = ℕ} (b == 0) 1 0 ≡ 1
drawn_at b e = ap (λ (c : ℕ). cond {A = ℕ} (c == 0) 1 0) e

pub fourth_steps : IsHistory (node N) S3 log4
fourth_steps = (
  (_, refl, (refl, (refl, omega arith, quiet_two (disc_of S3) refl refl refl refl, (λ b. (drawn_out b, λ y has of lt to. clean_two b _ (drawn_at b) y has of lt to)))), (2, _, refl, (refl, omega arith))),
  (
    (_, refl, (refl, (λ e. absurd (cc (e)))), tt),
    (
      (_, refl, (refl, (refl, omega arith, quiet_two (disc_of (states_after (node N) S3 ((1, Low 0 2) ∷ (1, Lowered) ∷ []))) refl refl refl refl, (λ n has. has))), tt),
      tt,
    ),
  ),
)

abbrev S4c : List (State N)
S4c = states_after (node N) S4 ((4, Copy 1 0 1) ∷ [])

copied_durable : (b n : ℕ) → cond {A = Option ℕ} (b == 0) (Some 1) None ≡ Some n → IsTrueIn (node N) S4c (Durable 0 n)
copied_durable b n e = pick (b == 0) e where
  pick : (c : Bool) → cond {A = Option ℕ} c (Some 1) None ≡ Some n → IsTrueIn (node N) S4c (Durable 0 n)
  pick true e = (let same : 1 ≡ n = cc (e) in subst (λ (m : ℕ). IsTrueIn (node N) S4c (Durable 0 m)) same (2, _, refl, (refl, omega arith)))
  pick false e = absurd (cc (e))

pub fifth_steps : IsHistory (node N) S4 log5
fifth_steps = (
  (_, refl, ((λ c has. has), refl, (λ j l c e. absurd (cc (e)))), (2, (1, _, refl, (refl, inl refl)), omega arith, (r ∷ [], (1, _, refl, (refl, ([], refl), refl))))),
  (
    (_, refl, (refl, (λ c has. has), (λ k e. (1, refl)), (λ a e. absurd (cc (e)))), ((1, _, refl, (refl, inl refl)), (2, _, refl, (refl, omega arith)), (λ b n e. copied_durable b n e))),
    (
      (_, refl, (2, _, refl), (2, (1, _, refl, (refl, inl refl)))),
      (
        (_, refl, (refl, (refl, refl)), (4, _, refl, (refl, ((1, inl refl), omega arith)))),
        tt,
      ),
    ),
  ),
)

below_floor : (y : ℕ × AuditRecord N) → Among ((1, r) ∷ []) y → (bound : ℕ) × IsTrueIn (node N) S5 (Floor y.1.disc bound) × (y.1.position < bound)
below_floor y has = each_at (λ y. (bound : ℕ) × IsTrueIn (node N) S5 (Floor y.1.disc bound) × (y.1.position < bound)) ((1, r) ∷ []) y ((2, (1, _, refl, (refl, (λ e. (omega arith, tt)), omega arith, tt)), omega arith), tt) has

pub last_step : IsHistory (node N) S5 log6
last_step = ((_, refl, (omega arith, omega arith), (λ y has lt. below_floor y has)), tt)

-- one history of all of them
pub whole : IsHistory (node N) ss log
whole =
    history-append (node N) ss log1 (log2 ++ (log3 ++ (log4 ++ (log5 ++ log6)))) first_steps
    (history-append (node N) S1 log2 (log3 ++ (log4 ++ (log5 ++ log6))) second_steps
    (history-append (node N) S2 log3 (log4 ++ (log5 ++ log6)) third_steps
    (history-append (node N) S3 log4 (log5 ++ log6) fourth_steps
    (history-append (node N) S4 log5 log6 fifth_steps last_step))))

-- a formatted node
abbrev nothing : ℕ → Option ℕ
nothing k = None

abbrev B : Base N
B = record { values = nothing; position = 1 }

abbrev I : Image N
I = record { list = start 1 ∷ []; audit = λ d. []; volume = λ d. Some B; dump = λ d. None }

-- which part a state is
abbrev place : State N → ℕ
place (worker s) = 0
place (disc s) = 1
place (trail s) = 2
place (monitor s) = 3
place (dump s) = 4

placed : (q : ℕ) (s : State N) → slice_get ss q ≡ Some s → q ≡ place s
placed zero s at = ap place (some_is (worker W) s at)
placed (suc zero) s at = ap place (some_is (disc D) s at)
placed (suc (suc zero)) s at = ap place (some_is (trail T) s at)
placed (suc (suc (suc zero))) s at = ap place (some_is (monitor M) s at)
placed (suc (suc (suc (suc zero)))) s at = ap place (some_is (dump U) s at)
placed (suc (suc (suc (suc (suc q))))) s at = absurd (cc (at))

same_place : (s t : State N) → Same s t → place s ≡ place t
same_place (worker a) (worker b) h = refl
same_place (disc a) (disc b) h = refl
same_place (trail a) (trail b) h = refl
same_place (monitor a) (monitor b) h = refl
same_place (dump a) (dump b) h = refl
same_place (worker a) _ h = absurd h
same_place (disc a) _ h = absurd h
same_place (trail a) _ h = absurd h
same_place (monitor a) _ h = absurd h
same_place (dump a) _ h = absurd h

disc_is : (q : ℕ) (s : Disc N) → slice_get ss q ≡ Some (disc s) → D ≡ s
disc_is q s at = (let e : q ≡ 1 = placed q (disc s) at in let is : Some (disc D) ≡ Some (disc s) = ap (λ p. slice_get ss p) (sym e) ∙ at in cc (is))

trail_is : (q : ℕ) (s : Trail N) → slice_get ss q ≡ Some (trail s) → T ≡ s
trail_is q s at = (let e : q ≡ 2 = placed q (trail s) at in let is : Some (trail T) ≡ Some (trail s) = ap (λ p. slice_get ss p) (sym e) ∙ at in cc (is))

monitor_is : (q : ℕ) (s : Monitor N) → slice_get ss q ≡ Some (monitor s) → M ≡ s
monitor_is q s at = (let e : q ≡ 3 = placed q (monitor s) at in let is : Some (monitor M) ≡ Some (monitor s) = ap (λ p. slice_get ss p) (sym e) ∙ at in cc (is))

dump_is : (q : ℕ) (s : Dump N) → slice_get ss q ≡ Some (dump s) → U ≡ s
dump_is q s at = (let e : q ≡ 4 = placed q (dump s) at in let is : Some (dump U) ≡ Some (dump s) = ap (λ p. slice_get ss p) (sym e) ∙ at in cc (is))

is_zero : (d : ℕ) → Among (0 ∷ []) d → d ≡ 0
is_zero d has = ⊎_elim (λ (e : 0 ≡ d). sym e) (λ none. absurd none) has

empty_fits : (b : ℕ) (ks : List ℕ) → AreDistinct ks → Each (λ k. (◌≡◌ {A = ℕ} 0 b) × (nothing k ≢ None)) ks → length ks ≤ 1
empty_fits b [] d t = omega arith
empty_fits b (k ∷ ks) d t = absurd (t.0.1 refl)

-- its parts at the opening
pub opening : IsOpening ss I nothing
opening = record {
  parts = record {
    apart = λ q p s t a b h. placed q s a ∙ same_place s t h ∙ sym (placed p t b);
    discs = λ d has. (1, D, refl, is_zero d has);
    trails = λ d has. (2, T, refl, refl);
    dumps = λ d has. (4, U, refl, is_zero d has);
    listed = λ q s at. inl (ap (λ (z : Disc N). z.number) (disc_is q s at));
    of_monitor = (3, M, refl);
  };
  stands = record {
    room = empty_fits;
    epochs = λ d has. tt;
    volumes = λ d has. record { values = λ k here. refl; dump_values = tt; kept_from = (omega arith, (λ n ge lt. absurd (omega (arith, ge, lt)))); dump_kept = tt };
  };
  discs = λ q s at. subst (λ (z : Disc N). IsFresh I nothing z) (disc_is q s at) (record { lost = λ e. absurd (cc (e)); there = λ e. (B, refl, refl); first = refl; positive = omega arith; base = λ k here. refl; made = refl; map = λ k. refl; held = λ k. refl; locked = λ f. refl; written = λ k. refl; left = λ t. refl; undone = λ t. refl; released = λ t. refl; drawn = λ b. refl; drawing = λ b. refl; low = refl; lowering = refl; way = refl; starts = refl });
  rests = λ q p s u at at_u same. subst (λ (z : Disc N). z.rest ≡ elim u.landed [ None ↦ None | Some l ↦ Some (start_of l) ]) (disc_is q s at) (subst (λ (z : Dump N). None ≡ elim z.landed [ None ↦ None | Some l ↦ Some (start_of l) ]) (dump_is p u at_u) refl);
  trails = λ q t at. subst (λ (z : Trail N). IsFreshTrail I z) (trail_is q t at) (record { before = λ d here. refl; first = λ d has here. refl; landed = refl; offered = refl; files = omega arith });
  mons = λ q u at. subst (λ (z : Monitor N). (z.before ≡ I.list) × (z.landed ≡ []) × (z.offered ≡ [])) (monitor_is q u at) (refl, refl, refl);
  dumps = λ q u at. subst (λ (z : Dump N). IsFreshDump I z) (dump_is q u at) (record { landed = inl (refl, refl); offered = refl; copied = λ n b. refl; over = refl });
  audit = λ d has. (tt, (0, tt), tt);
  list = tt;
  started = refl;
}

-- the states after it, and an image that they show
abbrev Z : List (State N)
Z = states_after (node N) ss log

abbrev J : Image N
J = record {
  list = start 1 ∷ close x ∷ [];
  audit = λ d. own d ((1, r) ∷ []);
  volume = λ d. Some (record { values = λ k. content (disc_of Z) 1 k; position = 2 });
  dump = λ d. Some (record { values = λ k. content (disc_of Z) 1 k; position = 2 });
}

end_place : (q : ℕ) (s : State N) → slice_get Z q ≡ Some s → q ≡ place s
end_place zero s at = ap place (some_is _ s at)
end_place (suc zero) s at = ap place (some_is _ s at)
end_place (suc (suc zero)) s at = ap place (some_is _ s at)
end_place (suc (suc (suc zero))) s at = ap place (some_is _ s at)
end_place (suc (suc (suc (suc zero)))) s at = ap place (some_is _ s at)
end_place (suc (suc (suc (suc (suc q))))) s at = absurd (cc (at))

abbrev MonitorShown : State N → Type 0
MonitorShown (monitor m) = ShowsCloses m (x ∷ []) × (J.list ≡ m.before ++ entries (x ∷ []))
MonitorShown _ = Unit {0}

abbrev TrailShown : State N → Type 0
TrailShown (trail t) = (rows : List (ℕ × AuditRecord N)) × ShowsRows t rows × ((d : ℕ) → N.trail_of d ≡ t.number → J.audit d ≡ own d rows)
TrailShown _ = Unit {0}

abbrev Lost : State N → Type 0
Lost (disc s) = s.lost ≡ true
Lost _ = Unit {0}

abbrev number_of : State N → ℕ
number_of (disc s) = s.number
number_of _ = 0

abbrev VolumeShown : State N → Type 0
VolumeShown (disc s) = (b : Base N) × (J.volume s.number ≡ Some b) × ShowsVolume s b
VolumeShown _ = Unit {0}

abbrev DumpShown : State N → State N → Type 0
DumpShown (disc s) (dump u) = ShowsDump s u (J.dump s.number)
DumpShown _ _ = Unit {0}

abbrev dump_in : List (State N) → Dump N
dump_in (a ∷ b ∷ c ∷ d ∷ dump u ∷ rest) = u
dump_in _ = U

-- the one block has the content behind position 1
in_block : (b k : ℕ) → 0 ≡ b → content (disc_of Z) 1 k ≡ content (disc_of Z) (cond (b == 0) 1 0) k
in_block b k of = ap (λ (c : ℕ). content (disc_of Z) (cond (c == 0) 1 0) k) of

-- what the history shows
pub shown : Shows Z (x ∷ []) J
shown = record {
  list = λ q m at. (let e : q ≡ 3 = end_place q (monitor m) at in let is = some_is _ (monitor m) (ap (λ p. slice_get Z p) (sym e) ∙ at) in
      subst (λ (z : State N). MonitorShown z) is (inl refl, refl));
  audit = λ q t at. (let e : q ≡ 2 = end_place q (trail t) at in let is = some_is _ (trail t) (ap (λ p. slice_get Z p) (sym e) ∙ at) in
      subst (λ (z : State N). TrailShown z) is ((1, r) ∷ [], (0, omega arith, inl refl), (λ d here. refl)));
  lost = λ q s at lost. (let e : q ≡ 1 = end_place q (disc s) at in let is = some_is _ (disc s) (ap (λ p. slice_get Z p) (sym e) ∙ at) in
      subst (λ (z : State N). Lost z → J.volume (number_of z) ≡ None) is (λ l. absurd (cc (l))) lost);
  volumes = λ q s at there. (let e : q ≡ 1 = end_place q (disc s) at in let is = some_is _ (disc s) (ap (λ p. slice_get Z p) (sym e) ∙ at) in
      subst (λ (z : State N). VolumeShown z) is (_, refl, record { low = inl refl; blocks = λ b. (_, inl refl, λ k here of. in_block b k of) }));
  dumps = λ q p s u at at_u same. (let e : q ≡ 1 = end_place q (disc s) at in let f : p ≡ 4 = end_place p (dump u) at_u in
      let is = some_is _ (disc s) (ap (λ p. slice_get Z p) (sym e) ∙ at) in let is_u = some_is _ (dump u) (ap (λ p. slice_get Z p) (sym f) ∙ at_u) in
      subst (λ (z : State N). DumpShown (disc s) z) is_u (subst (λ (z : State N). DumpShown z (dump (dump_in Z))) is (Taken 1 2 (λ b. cond (b == 0) (Some 1) None), inl refl, refl, (λ k here. refl))));
}

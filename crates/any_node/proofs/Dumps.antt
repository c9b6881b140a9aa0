-- What holds of a dump, and of a disc beside it, through a history.
use Rattle.std.proofs.Common.{◌≡◌, ◌⊎◌, ℕ, ◌+◌, ◌-◌, ◌≤◌, ◌<◌, Bool, true, false, List, Option, Some, None, refl, ap, sym, ◌∙◌, subst, ⊎_elim, inl, inr, arith}
use Rattle.any_node.specs.Layout.{Layout, numbers, put}
use Rattle.any_node.specs.Value.{AuditRecord, Among}
use Rattle.any_node.specs.Node.{Disc, Dump, Label, Event, Fact, allows_disc, allows_dump, asks_disc, asks_dump, step_disc, step_dump, now_landed, MayRest, MayRaise, IsUpTo, start_under_way, start_of, IsFrom, IsOver, IsWhole}
use Rattle.any_node.specs.Shows.{ShowsLabel}
use Rattle.any_node.specs.Node.Label.{Taken}
use Rattle.any_node.specs.Node.Event.{Turn, Undo, Start, Raise, Copy, Seal, Sealed, Failed}
use Rattle.any_node.specs.Node.Fact.{Made, Durable, Started, Over}
use Rattle.any_node.proofs.Lists.{put_at, some≢none, some_is}
use Rattle.any_node.proofs.Facts.{undo_cases, turn_cases}

raised_rest : (rest r : Option ℕ) (n : ℕ) → MayRest rest r n → r ≡ None → rest ≡ None
raised_rest (Some a) (Some b) n may e = absurd (cc (e))
raised_rest (Some a) None n may e = absurd may
raised_rest None r n may e = refl

-- the dump under way is the one that is raised
way_is : (way : Option (ℕ × ℕ)) (rest : Option ℕ) (i : ℕ) (r : Option ℕ) → MayRaise way rest i r → (n : ℕ) × (way ≡ Some (i, n)) × MayRest rest r n
way_is None rest i r may = absurd may
way_is (Some x) rest i r may = (x.1, (let e : x.0 ≡ i = may.0 in ap (λ (j : ℕ). Some (j, x.1)) e), may.1)

same_number : (a b : ℕ × ℕ) → Some a ≡ Some b → a.0 ≡ b.0
same_number a b e = ap (λ (x : ℕ × ℕ). x.0) (some_is a b e)

module _ {N : Layout} where
  from_label : (a b : Option (Label N)) (r : ℕ) (l : Label N) → IsFrom a b r → (a ≡ Some l) ⊎ (b ≡ Some l) → r ≤ start_of l
  from_label None None r l f h = absurd f
  from_label (Some a) None r l f h = ⊎_elim (λ (e : Some a ≡ Some l). subst (λ (x : Label N). r ≤ start_of x) (some_is a l e) f) (λ (e : ◌≡◌ {A = Option (Label N)} None (Some l)). absurd (cc (e))) h
  from_label None (Some b) r l f h = ⊎_elim (λ (e : ◌≡◌ {A = Option (Label N)} None (Some l)). absurd (cc (e))) (λ (e : Some b ≡ Some l). subst (λ (x : Label N). r ≤ start_of x) (some_is b l e) f) h
  from_label (Some a) (Some b) r l f h = ⊎_elim (λ (e : Some a ≡ Some l). subst (λ (x : Label N). r ≤ start_of x) (some_is a l e) f.0) (λ (e : Some b ≡ Some l). subst (λ (x : Label N). r ≤ start_of x) (some_is b l e) f.1) h

  -- a label's start is held by the rest start, or is that of the dump under way
  abbrev pub IsHeld : Disc N → ℕ → Type 0
  IsHeld s l = ((r : ℕ) × (s.rest ≡ Some r) × (r ≤ l)) ⊎ ((i : ℕ) × (s.way ≡ Some (i, l)))

  abbrev pub IsIn : Dump N → ℕ → Type 0
  IsIn u i = (c : ℕ) × Among u.over (i, c)

  pub record Pair (s : Disc N) (u : Dump N) : Type 0 where
    pub labels : (l : Label N) → ShowsLabel u l → IsHeld s (start_of l)
    pub started : (i n : ℕ) → Among s.starts (i, n) → IsIn u i ⊎ (s.way ≡ Some (i, n))
    pub unsealed : (i n c : ℕ) → s.way ≡ Some (i, n) → Among u.over (i, c) → c ≡ u.seals
    pub ended : (i c : ℕ) → Among u.over (i, c) → (n : ℕ) × Among s.starts (i, n)

  held_after : (s : Disc N) (u : Dump N) (i n : ℕ) (r : Option ℕ) → s.way ≡ Some (i, n) → IsOver u i r → Pair s u → (l : Label N) → ShowsLabel u l → ((x : ℕ) × (r ≡ Some x) × (x ≤ start_of l)) ⊎ ((j : ℕ) × (◌≡◌ {A = Option (ℕ × ℕ)} None (Some (j, start_of l))))
  held_after s u i n (Some x) w o p l shows = inl (x, refl, from_label u.landed u.offered x l o.1 shows)
  held_after s u i n None w o p l shows =
      ⊎_elim
      (λ (lt : o.0 < u.seals). (let same : o.0 ≡ u.seals = p.unsealed i n o.0 w o.1 in absurd (omega (arith, lt, same))))
      (λ (x : (u.landed ≡ None) × (u.offered ≡ None)). ⊎_elim
      (λ (e : u.landed ≡ Some l). absurd (some≢none l (sym e ∙ x.0)))
      (λ (e : u.offered ≡ Some l). absurd (some≢none l (sym e ∙ x.1)))
      shows)
      o.3

  is_in : (u : Dump N) (i : ℕ) (r : Option ℕ) → IsOver u i r → IsIn u i
  is_in u i (Some x) o = o.0
  is_in u i None o = (o.0, o.1)

module _ (N : Layout) where
  now_label : (a b : Option (Label N)) (l : Label N) → now_landed N a b ≡ Some l → (a ≡ Some l) ⊎ (b ≡ Some l)
  now_label a None l e = inl e
  now_label a (Some r) l e = inr e

  pair_raise : (s : Disc N) (u : Dump N) (i : ℕ) (r : Option ℕ) → MayRaise s.way s.rest i r → IsOver u i r → Pair s u → Pair (step_disc N s (Raise i r)) u
  pair_raise s u i r may o p =
      let w = way_is s.way s.rest i r may in
      record {
        labels = λ l shows. held_after s u i w.0 r w.1 o p l shows;
        started = λ j n has. ⊎_elim (λ (x : IsIn u j). inl x) (λ (e : s.way ≡ Some (j, n)). (let it : j ≡ i = same_number (j, n) (i, w.0) (sym e ∙ w.1) in inl (subst (λ (x : ℕ). IsIn u x) (sym it) (is_in u i r o)))) (p.started j n has);
        unsealed = λ j n c e. absurd (cc (e));
        ended = p.ended;
      }

  pair_start : (s : Disc N) (u : Dump N) (by : N.By) (i n : ℕ) → allows_disc N s (Start by i n) → Pair s u → Pair (step_disc N s (Start by i n)) u
  pair_start s u by i n may p = record {
    labels = λ l shows. ⊎_elim (λ (x : (r : ℕ) × (s.rest ≡ Some r) × (r ≤ start_of l)). inl x) (λ (x : (j : ℕ) × (s.way ≡ Some (j, start_of l))). absurd (some≢none (x.0, start_of l) (sym x.1 ∙ may.0))) (p.labels l shows);
    started = λ j m has. ⊎_elim (λ (e : (i, n) ≡ (j, m)). inr (ap (λ (x : ℕ × ℕ). Some x) e)) (λ (h : Among s.starts (j, m)). ⊎_elim (λ (x : IsIn u j). inl x) (λ (e : s.way ≡ Some (j, m)). absurd (some≢none (j, m) (sym e ∙ may.0))) (p.started j m h)) has;
    unsealed = λ j m c e has. (let it : i ≡ j = same_number (i, n) (j, m) e in let old = p.ended j c has in absurd (may.3 old.0 (subst (λ (x : ℕ). Among s.starts (x, old.0)) (sym it) old.1)));
    ended = λ j c has. (let old = p.ended j c has in (old.0, inr old.1));
  }

  pair_seal : (s : Disc N) (u : Dump N) (i n : ℕ) → allows_dump N u (Seal i n) → Among s.starts (i, n) → Pair s u → Pair s (step_dump N u (Seal i n))
  pair_seal s u i n may has p =
      let way : s.way ≡ Some (i, n) = ⊎_elim (λ (x : IsIn u i). absurd (may.1 x.0 x.1)) (λ (e : s.way ≡ Some (i, n)). e) (p.started i n has) in
      record {
        labels = λ l shows. ⊎_elim (λ (e : u.landed ≡ Some l). p.labels l (inl e)) (λ (e : Some (Taken i n (u.copied i)) ≡ Some l). (let same : n ≡ start_of l = ap (λ (x : Label N). start_of x) (some_is (Taken i n (u.copied i)) l e) in inr (i, way ∙ ap (λ (x : ℕ). Some (i, x)) same))) shows;
        started = p.started;
        unsealed = λ j m c e in_it. (let it : i ≡ j = same_number (i, n) (j, m) (sym way ∙ e) in absurd (may.1 c (subst (λ (x : ℕ). Among u.over (x, c)) (sym it) in_it)));
        ended = p.ended;
      }

  pair_sealed : (s : Disc N) (u : Dump N) (i n : ℕ) (b : Bool) → Among s.starts (i, n) → Pair s u → Pair s (step_dump N u (Sealed i b))
  pair_sealed s u i n true has p = record {
    labels = λ l shows. ⊎_elim (λ (e : now_landed N u.landed u.offered ≡ Some l). p.labels l (now_label u.landed u.offered l e)) (λ (e : ◌≡◌ {A = Option (Label N)} None (Some l)). absurd (cc (e))) shows;
    started = λ j m h. ⊎_elim (λ (x : IsIn u j). inl (x.0, inr x.1)) (λ (e : s.way ≡ Some (j, m)). inr e) (p.started j m h);
    unsealed = λ j m c e in_it. ⊎_elim (λ (x : (i, u.seals) ≡ (j, c)). sym (ap (λ (y : ℕ × ℕ). y.1) x)) (λ (h : Among u.over (j, c)). p.unsealed j m c e h) in_it;
    ended = λ j c in_it. ⊎_elim (λ (x : (i, u.seals) ≡ (j, c)). (let it : i ≡ j = ap (λ (y : ℕ × ℕ). y.0) x in (n, subst (λ (y : ℕ). Among s.starts (y, n)) it has))) (λ (h : Among u.over (j, c)). p.ended j c h) in_it;
  }
  pair_sealed s u i n false has p = record {
    labels = p.labels;
    started = λ j m h. ⊎_elim (λ (x : IsIn u j). inl (x.0, inr x.1)) (λ (e : s.way ≡ Some (j, m)). inr e) (p.started j m h);
    unsealed = λ j m c e in_it. ⊎_elim (λ (x : (i, u.seals) ≡ (j, c)). sym (ap (λ (y : ℕ × ℕ). y.1) x)) (λ (h : Among u.over (j, c)). p.unsealed j m c e h) in_it;
    ended = λ j c in_it. ⊎_elim (λ (x : (i, u.seals) ≡ (j, c)). (let it : i ≡ j = ap (λ (y : ℕ × ℕ). y.0) x in (n, subst (λ (y : ℕ). Among s.starts (y, n)) it has))) (λ (h : Among u.over (j, c)). p.ended j c h) in_it;
  }

  pub pair_disc : (T : Fact N → Type 0) (s : Disc N) (u : Dump N) (e : Event N) → ((i : ℕ) (r : Option ℕ) → T (Over s.number i r) → IsOver u i r) → allows_disc N s e → asks_disc N T s e → Pair s u → Pair (step_disc N s e) u
  pair_disc T s u (Start by i n) over may asked p = pair_start s u by i n may p
  pair_disc T s u (Raise i r) over may asked p = pair_raise s u i r may (over i r asked) p
  pair_disc T s u (Undo t) over may asked p = undo_cases N (λ z. Pair z u) t s (s.left t) p (λ r us. record { labels = p.labels; started = p.started; unsealed = p.unsealed; ended = p.ended })
  pair_disc T s u (Turn t why) over may asked p = turn_cases N (λ z. Pair z u) t why s p (λ k. record { labels = p.labels; started = p.started; unsealed = p.unsealed; ended = p.ended })
  pair_disc T s u _ over may asked p = record { labels = p.labels; started = p.started; unsealed = p.unsealed; ended = p.ended }

  pub pair_dump : (T : Fact N → Type 0) (s : Disc N) (u : Dump N) (e : Event N) → ((i l : ℕ) → T (Started u.number i l) → Among s.starts (i, l)) → allows_dump N u e → asks_dump N T u e → Pair s u → Pair s (step_dump N u e)
  pair_dump T s u (Copy i b n) started may asked p = record { labels = p.labels; started = p.started; unsealed = p.unsealed; ended = p.ended }
  pair_dump T s u (Seal i n) started may asked p = pair_seal s u i n may (started i n asked.0) p
  pair_dump T s u (Sealed i true) started may asked p = pair_sealed s u i asked.0 true (started i asked.0 asked.1) p
  pair_dump T s u (Sealed i false) started may asked p = pair_sealed s u i asked.0 false (started i asked.0 asked.1) p
  pair_dump T s u (Failed by) started may asked p = p
  pair_dump T s u _ started may asked p = absurd may

  -- what a copy rests on
  abbrev pub IsCopy : (Fact N → Type 0) → ℕ → ℕ → ℕ → Type 0
  IsCopy T d i n = (l : ℕ) × T (Started d i l) × (l ≤ n + 1) × ((rs : List (AuditRecord N)) × T (Made d n rs))

  -- what the label of a dump of this run rests on
  abbrev pub IsSound : (Fact N → Type 0) → ℕ → ℕ → ℕ → (N.Block → Option ℕ) → Type 0
  IsSound T d i l c = T (Started d i l) × T (Durable d (l - 1)) × IsWhole N d c × ((b : N.Block) (n : ℕ) → c b ≡ Some n → T (Durable d n) × IsCopy T d i n)

  pub record IsDumped (T : Fact N → Type 0) (u : Dump N) : Type 0 where
    pub copies : (i : ℕ) (b : N.Block) (n : ℕ) → u.copied i b ≡ Some n → IsCopy T u.number i n
    pub sound : (i l : ℕ) (c : N.Block → Option ℕ) → ShowsLabel u (Taken i l c) → IsSound T u.number i l c

  copy_more : (T U : Fact N → Type 0) → ((f : Fact N) → T f → U f) → (d i n : ℕ) → IsCopy T d i n → IsCopy U d i n
  copy_more T U up d i n c = (c.0, up (Started d i c.0) c.1, c.2, (c.3.0, up (Made d n c.3.0) c.3.1))

  pub dumped_more : (T U : Fact N → Type 0) (u : Dump N) → ((f : Fact N) → T f → U f) → IsDumped T u → IsDumped U u
  dumped_more T U u up d = record {
    copies = λ i b n e. copy_more T U up u.number i n (d.copies i b n e);
    sound = λ i l c shows. (let x = d.sound i l c shows in (up (Started u.number i l) x.0, up (Durable u.number (l - 1)) x.1, x.2, λ b n e. (up (Durable u.number n) (x.3 b n e).0, copy_more T U up u.number i n (x.3 b n e).1)));
  }

  taken_is : (i l j m : ℕ) (c e : N.Block → Option ℕ) → ◌≡◌ {A = Option (Label N)} (Some (Taken i l c)) (Some (Taken j m e)) → (i ≡ j) × (l ≡ m) × (c ≡ e)
  taken_is i l j m c e h = (cc (h), cc (h), cc (h))

  pub dumped_step : (T : Fact N → Type 0) (u : Dump N) (e : Event N) → allows_dump N u e → asks_dump N T u e → IsDumped T u → IsDumped T (step_dump N u e)
  dumped_step T u (Copy i b n) may asked d = record {
    copies = λ j x m. put_at numbers (λ f. f x ≡ Some m → IsCopy T u.number j m) i (put N.blocks b (Some n) (u.copied i)) u.copied j
        (λ here. subst (λ (y : ℕ). put N.blocks b (Some n) (u.copied i) x ≡ Some m → IsCopy T u.number y m) (sym here)
        (put_at N.blocks (λ o. o ≡ Some m → IsCopy T u.number i m) b (Some n) (u.copied i) x
        (λ it e. subst (λ (y : ℕ). IsCopy T u.number i y) (some_is n m e) asked)
        (λ else e. d.copies i x m e)))
        (λ else e. d.copies j x m e);
    sound = d.sound;
  }
  dumped_step T u (Seal i l) may asked d = record {
    copies = d.copies;
    sound = λ j m c shows. ⊎_elim
        (λ (e : u.landed ≡ Some (Taken j m c)). d.sound j m c (inl e))
        (λ (e : ◌≡◌ {A = Option (Label N)} (Some (Taken i l (u.copied i))) (Some (Taken j m c))).
        (let x = taken_is i l j m (u.copied i) c e in
        subst (λ (y : ℕ). IsSound T u.number y m c) x.0 (subst (λ (y : ℕ). IsSound T u.number i y c) x.1 (subst (λ (f : N.Block → Option ℕ). IsSound T u.number i l f) x.2
        (asked.0, asked.1, may.2, λ b n h. (asked.2 b n h, d.copies i b n h))))))
        shows;
  }
  dumped_step T u (Sealed i true) may asked d = record {
    copies = d.copies;
    sound = λ j m c shows. ⊎_elim
        (λ (e : now_landed N u.landed u.offered ≡ Some (Taken j m c)). d.sound j m c (now_label u.landed u.offered (Taken j m c) e))
        (λ (e : ◌≡◌ {A = Option (Label N)} None (Some (Taken j m c))). absurd (cc (e)))
        shows;
  }
  dumped_step T u (Sealed i false) may asked d = record { copies = d.copies; sound = d.sound }
  dumped_step T u (Failed by) may asked d = d
  dumped_step T u _ may asked d = absurd may

pub up_to_it : (o : Option ℕ) (r n : ℕ) → o ≡ Some r → IsUpTo o n → n ≤ r
up_to_it None r n e h = absurd (cc (e))
up_to_it (Some a) r n e h = (let same : a ≡ r = some_is a r e in omega (arith, same, h))

pub up_to_start : (o : Option (ℕ × ℕ)) (i l n : ℕ) → o ≡ Some (i, l) → IsUpTo (start_under_way o) n → n ≤ l
up_to_start None i l n e h = absurd (cc (e))
up_to_start (Some x) i l n e h = (let same : x.1 ≡ l = ap (λ (y : ℕ × ℕ). y.1) (some_is x (i, l) e) in omega (arith, same, h))

-- a floor is at most the start of each dump that an image can spell
pub floor_below : {N : Layout} (s : Disc N) (u : Dump N) (n : ℕ) (l : Label N) → Pair s u → IsUpTo s.rest n → IsUpTo (start_under_way s.way) n → ShowsLabel u l → n ≤ start_of l
floor_below s u n l p rest way shows =
    ⊎_elim
    (λ (x : (r : ℕ) × (s.rest ≡ Some r) × (r ≤ start_of l)). (let le : n ≤ x.0 = up_to_it s.rest x.0 n x.1 rest in let to : x.0 ≤ start_of l = x.2 in omega (arith, le, to)))
    (λ (x : (i : ℕ) × (s.way ≡ Some (i, start_of l))). up_to_start s.way x.0 (start_of l) n x.1 way)
    (p.labels l shows)

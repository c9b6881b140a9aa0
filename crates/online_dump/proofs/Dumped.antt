-- What the events of a dump device say, behind each of them.
use Rattle.std.specs.Prelude.{IfSome, IsSome, option_map}
use Rattle.std.specs.Option.{MatchOption, option_or}
use Rattle.std.proofs.Common.{◌≡◌, ◌≢◌, ◌⊎◌, ℕ, ◌+◌, ◌<◌, ◌≤◌, true, false, List, [], ◌∷◌, Option, Some, None, inl, inr, ⊎_elim, refl, ap, sym, ◌∙◌, subst, arith, eq-eqb}
use Rattle.std.proofs.lemmas.Bool.{cases_eq, ne_eqb}
use Rattle.node_machine.specs.declared.event.By.{By}
use Rattle.node_machine.specs.declared.event.DumpEvent.{DumpEvent}
use Rattle.node_machine.specs.declared.event.DumpEvent.TheVariants.{Copy, Seal, Sealed, Failed}
use Rattle.node_machine.specs.Disc.{start_of}
use Rattle.keyed_file.specs.Dump.{blocks_in_all}
use Rattle.node_machine.specs.Dump.{AreFrom, DumpAsks, DumpMay, IsBlockOf, IsInNoDoubt, IsOngoing, IsOver, copied, ends, label_of, landed_here, landed_label, offered_label, seals}
use Rattle.node_machine.specs.Parts.{DumpPart, DumpStart, Entry, Fact}
use Rattle.node_machine.specs.Parts.Fact.{Started}
use Rattle.node_machine.specs.Same.{Among, is_same_block}
use Rattle.online_dump.specs.Copies.{files_of, place_of}
use Rattle.online_dump.specs.Dumper.{AreCopied, AreStarted, IsCopying, IsNamed, IsTied, open_in}
use Rattle.online_dump.specs.Dumping.{MayBegin, MayCopyNext, MaySealAll, new_copying}
use Rattle.online_dump.specs.Found.{DumpView, start_in}
use Rattle.online_dump.specs.Seat.{dump_with_event}
use Rattle.online_dump.specs.declared.copying.Copying.{Copying}
use Rattle.online_dump.proofs.Places.{place_within, same_place}

-- THE DUMPS THAT THE EVENTS NAME

-- a dump that is over is named
over_named : (events : List DumpEvent) (number count : ℕ) → Among (ends events) (number, count) → IsNamed events number
over_named [] number count there = absurd there
over_named (Copy i f b p ∷ events) number count there = inr (over_named events number count there)
over_named (Seal i s ∷ events) number count there = inr (over_named events number count there)
over_named (Sealed i whole ∷ events) number count there = ⊎_elim (λ (same : (i, seals events) ≡ (number, count)). inl (ap (λ x. x.0) same)) (λ (rest : Among (ends events) (number, count)). inr (over_named events number count rest)) there
over_named (Failed by ∷ events) number count there = over_named events number count there

-- a dump that is not named is not over
pub new_ongoing : (events : List DumpEvent) (number : ℕ) → (IsNamed events number → ⊥) → IsOngoing events number
new_ongoing events number is_new = λ count there. is_new (over_named events number count there)

-- and nothing of it is copied
pub new_uncopied : (events : List DumpEvent) (number file block : ℕ) → (IsNamed events number → ⊥) → copied events number file block ≡ None
new_uncopied [] number file block is_new = refl
new_uncopied (Copy i f b p ∷ events) number file block is_new =
    let rest = new_uncopied events number file block (λ h. is_new (inr h)) in
    ⊎_elim (λ (same : number ≡ i). absurd (is_new (inl (sym same)))) (λ (other : number ≢ i). rw (ne_eqb number i other) rest) (cases_eq number i)
new_uncopied (Seal i s ∷ events) number file block is_new = new_uncopied events number file block (λ h. is_new (inr h))
new_uncopied (Sealed i whole ∷ events) number file block is_new = new_uncopied events number file block (λ h. is_new (inr h))
new_uncopied (Failed by ∷ events) number file block is_new = new_uncopied events number file block is_new

-- the dump of a label that is offered is named
pub offered_named : (events : List DumpEvent) (label : DumpStart) → offered_label events ≡ Some label → IsNamed events label.number
offered_named [] label is = absurd (cc (is))
offered_named (Copy i f b p ∷ events) label is = inr (offered_named events label is)
offered_named (Seal i s ∷ events) label is = (let same : record { number = i; start = s } ≡ label = cc (is) in inl (ap (λ (l : DumpStart). l.number) same))
offered_named (Sealed i true ∷ events) label is = absurd (cc (is))
offered_named (Sealed i false ∷ events) label is = inr (offered_named events label is)
offered_named (Failed by ∷ events) label is = offered_named events label is

module _ (known after : Fact → Type 0) (more : (f : Fact) → known f → after f) (part : DumpPart) where
  pub named_same : AreStarted known part → AreStarted after part
  named_same named number is = (let n = named number is in (n.0, more (Started part.number number n.0) n.1))

  -- one event more, of a dump that is known to have begun
  pub named_more : (i start : ℕ) → known (Started part.number i start) → AreStarted known part → (number : ℕ) → (i ≡ number) ⊎ IsNamed part.events number → (s : ℕ) × after (Started part.number number s)
  named_more i start is named number there =
      ⊎_elim
      (λ (same : i ≡ number). (start, subst (λ (n : ℕ). after (Started part.number n start)) same (more (Started part.number i start) is)))
      (λ (old : IsNamed part.events number). named_same named number old)
      there

-- THE LABELS

module _ {D : Type 0} (part : DumpPart) (file next : DumpView D) where
  -- the same, where the device has the same labels
  pub tied_same : next.found ≡ file.found → next.next ≡ file.next → IsTied part file → IsTied part next
  tied_same found label is = record { landed = is.landed ∙ ap start_in (sym found); offered = is.offered ∙ ap (λ o. option_map (λ l. l.start) o) (sym label); rises = is.rises }

  pub tied_failed : (by : By) → IsTied part file → IsTied (dump_with_event part (Failed by)) file
  tied_failed by is = record { landed = is.landed; offered = is.offered; rises = is.rises }

  pub tied_copied : (number f b position : ℕ) → IsTied part file → IsTied (dump_with_event part (Copy number f b position)) file
  tied_copied number f b position is = record { landed = is.landed; offered = is.offered; rises = is.rises }

  pub tied_given_up : (number : ℕ) → IsTied part file → IsTied (dump_with_event part (Sealed number false)) file
  tied_given_up number is = record { landed = is.landed; offered = is.offered; rises = is.rises }

  -- the next label is offered
  pub tied_offered : (number start : ℕ) → next.found ≡ file.found → option_map (λ l. l.start) next.next ≡ Some start
      → ((label : DumpStart) → landed_label part.rest part.events ≡ Some label → label.start ≤ start) → IsTied part file → IsTied (dump_with_event part (Seal number start)) next
  tied_offered number start found label rises is = record {
    landed = is.landed ∙ ap start_in (sym found);
    offered = sym label;
    rises = λ a b a_is b_is. (let same : record { number = number; start = start } ≡ b = cc (b_is) in subst (λ (l : DumpStart). a.start ≤ l.start) same (rises a a_is));
  }

-- the label that was offered is the one that stands
pub landed_now : (rest : Option ℕ) (events : List DumpEvent) (number : ℕ) (label : DumpStart) → offered_label events ≡ Some label → landed_label rest (Sealed number true ∷ events) ≡ Some label
landed_now rest events number label is = ap (λ (o : Option DumpStart). option_or (option_or o (landed_here events)) (label_of rest)) is

pub tied_sealed : {D : Type 0} (part : DumpPart) (file next : DumpView D) (number : ℕ) (label : DumpStart) → offered_label part.events ≡ Some label → start_in next.found ≡ option_map (λ l. l.start) file.next → next.next ≡ None
    → IsTied part file → IsTied (dump_with_event part (Sealed number true)) next
tied_sealed part file next number label is found none tied = record {
  landed = ap start_of (landed_now part.rest part.events number label is) ∙ ap start_of (sym is) ∙ tied.offered ∙ sym found;
  offered = ap (λ o. option_map (λ l. l.start) o) (sym none);
  rises = λ a b a_is b_is. absurd (cc (b_is));
}

-- no label is offered, or this one
pub none_offered : (o : Option DumpStart) → option_map (λ l. l.number) o ≡ None → o ≡ None
none_offered None e = refl
none_offered (Some label) e = absurd (cc (e))

pub some_offered : (o : Option DumpStart) (number : ℕ) → option_map (λ l. l.number) o ≡ Some number → (label : DumpStart) × (o ≡ Some label) × (label.number ≡ number)
some_offered None number e = absurd (cc (e))
some_offered (Some label) number e = (label, refl, cc (e))

-- where a label is offered, the next one is written
pub next_there : {A : Type 0} (f : A → ℕ) (o : Option DumpStart) (next : Option A) (label : DumpStart) → o ≡ Some label → start_of o ≡ option_map f next → IsSome next
next_there f o None label is same = absurd (cc (sym same ∙ ap start_of is))
next_there f o (Some x) label is same = refl

-- and where none is, none is
pub next_not_there : {A : Type 0} (f : A → ℕ) (o : Option DumpStart) (next : Option A) → o ≡ None → start_of o ≡ option_map f next → next ≡ None
next_not_there f o None is same = refl
next_not_there f o (Some x) is same = absurd (cc (same, ap start_of is))

-- THE DUMP THAT IS BEING COPIED

pub same_block : (part : DumpPart) (e : DumpEvent) (f b : ℕ) → IsBlockOf (dump_with_event part e) f b → IsBlockOf part f b
same_block part e f b h = record { here = h.here; within = h.within }

module _ (known after : Fact → Type 0) (more : (f : Fact) → known f → after f) (part : DumpPart) (filled : Option ℕ) (c : Copying) where
  -- the same, where more is known
  pub copying_same : IsCopying known part filled c → IsCopying after part filled c
  copying_same is = record { started = more (Started part.number c.number c.start) is.started; within = is.within; ongoing = is.ongoing; are = is.are }

  -- a call has failed, and the body takes no block more
  pub copying_failed : (by : By) → IsCopying known part filled c → IsCopying after (dump_with_event part (Failed by)) None c
  copying_failed by is = record { started = more (Started part.number c.number c.start) is.started; within = is.within; ongoing = is.ongoing; are = tt }

  -- the label is offered
  pub copying_offered : IsCopying known part filled c → IsCopying after (dump_with_event part (Seal c.number c.start)) None c
  copying_offered is = record { started = more (Started part.number c.number c.start) is.started; within = is.within; ongoing = is.ongoing; are = tt }

-- the same of the dump that is being copied, if there is one
pub copying_all : (known after : Fact → Type 0) (more : (f : Fact) → known f → after f) (part : DumpPart) (filled : Option ℕ) (current : Option Copying) → IfSome current (IsCopying known part filled) → IfSome current (IsCopying after part filled)
copying_all known after more part filled None is = tt
copying_all known after more part filled (Some c) is = copying_same known after more part filled c is

pub failed_all : (known after : Fact → Type 0) (more : (f : Fact) → known f → after f) (part : DumpPart) (filled : Option ℕ) (current : Option Copying) (by : By) → IfSome current (IsCopying known part filled)
    → IfSome current (IsCopying after (dump_with_event part (Failed by)) None)
failed_all known after more part filled None by is = tt
failed_all known after more part filled (Some c) by is = copying_failed known after more part filled c by is

-- the same while a label is offered, as the body takes no block then
pub failed_offered : (known after : Fact → Type 0) (more : (f : Fact) → known f → after f) (part : DumpPart) (filled : Option ℕ) (current : Option Copying) (by : By) (label : DumpStart) → offered_label part.events ≡ Some label → IfSome current (IsCopying known part filled)
    → IfSome current (IsCopying after (dump_with_event part (Failed by)) filled)
failed_offered known after more part filled None by label offered is = tt
failed_offered known after more part None (Some c) by label offered is = copying_failed known after more part None c by is
failed_offered known after more part (Some blocks) (Some c) by label offered is = (let none = is.are.certain in absurd (cc (none, offered)))

-- a dump begins, whose body has no block
pub copying_begun : (known : Fact → Type 0) (part : DumpPart) (number start : ℕ) → MayBegin known part number start → IsCopying known part (Some 0) (new_copying number start)
copying_begun known part number start may = record {
  started = may.started;
  within = may.within;
  ongoing = new_ongoing part.events number may.is_new;
  are = record { few = omega arith; certain = may.certain; done = λ f b here lt. absurd (omega (arith, lt)); left = λ f b here le. new_uncopied part.events number f b may.is_new };
}

-- the block is the one that was copied last, or not
pub copied_at : (events : List DumpEvent) (number file block position : ℕ) → copied (Copy number file block position ∷ events) number file block ≡ Some position
copied_at events number file block position = rw (eq-eqb number number refl, eq-eqb file file refl, eq-eqb block block refl) refl

pub copied_other : (events : List DumpEvent) (number file block position f b : ℕ) → is_same_block f b file block ≡ false → copied (Copy number file block position ∷ events) number f b ≡ copied events number f b
copied_other events number file block position f b other = rw (eq-eqb number number refl, other) refl

-- whether it is this block
abbrev pub is_it : ℕ → ℕ → ℕ → ℕ → Type 0
is_it f b file block = ((f ≡ file) × (b ≡ block)) ⊎ (is_same_block f b file block ≡ false)

pub cases_block : (f b file block : ℕ) → is_it f b file block
cases_block f b file block =
    ⊎_elim
    (λ (same : f ≡ file). ⊎_elim (λ (one : b ≡ block). inl (same, one)) (λ (other : b ≢ block). inr (rw (eq-eqb f file same, ne_eqb b block other) refl)) (cases_eq b block))
    (λ (other : f ≢ file). inr (rw (ne_eqb f file other) refl))
    (cases_eq f file)

-- the block of the next place is copied
module _ (part : DumpPart) (number file block position : ℕ) (next : IsBlockOf part file block) (is : AreCopied part number (place_of part file block)) where
  abbrev now : DumpPart
  now = dump_with_event part (Copy number file block position)

  done_now : (f b : ℕ) → IsBlockOf now f b → place_of now f b < place_of part file block + 1 → IsSome (copied now.events number f b)
  done_now f b here lt = ⊎_elim
      (λ (same : (f ≡ file) × (b ≡ block)).
      subst (λ (n : ℕ). IsSome (copied now.events number n b)) (sym same.0)
      (subst (λ (n : ℕ). IsSome (copied now.events number file n)) (sym same.1) (subst (λ (o : Option ℕ). IsSome o) (sym (copied_at part.events number file block position)) refl)))
      (λ (other : is_same_block f b file block ≡ false). subst (λ (o : Option ℕ). IsSome o) (sym (copied_other part.events number file block position f b other)) (is.done f b was (earlier other)))
      (cases_block f b file block)
    where
      was : IsBlockOf part f b
      was = same_block part (Copy number file block position) f b here

      earlier : is_same_block f b file block ≡ false → place_of part f b < place_of part file block
      earlier other = ⊎_elim
          (λ (same : place_of part f b ≡ place_of part file block).
          (let one = same_place part f b file block was next same in
          let both : is_same_block f b file block ≡ true = rw (eq-eqb f file one.0, eq-eqb b block one.1) refl in
          absurd (cc (both, other))))
          (λ (differs : place_of part f b ≢ place_of part file block). omega (arith, lt, differs))
          (cases_eq (place_of part f b) (place_of part file block))

  left_now : (f b : ℕ) → IsBlockOf now f b → place_of part file block + 1 ≤ place_of now f b → copied now.events number f b ≡ None
  left_now f b here le = ⊎_elim
      (λ (same : (f ≡ file) × (b ≡ block)). (let one : place_of part f b ≡ place_of part file block = (λ i. place_of part (same.0 i) (same.1 i)) in absurd (omega (arith, one, le))))
      (λ (other : is_same_block f b file block ≡ false). copied_other part.events number file block position f b other ∙ is.left f b (same_block part (Copy number file block position) f b here) (omega (arith, le)))
      (cases_block f b file block)

  pub copied_now : AreCopied now number (place_of part file block + 1)
  copied_now = record { few = (let within = place_within part file block next in omega (arith, within)); certain = is.certain; done = done_now; left = left_now }

pub copying_copied : (known after : Fact → Type 0) (more : (f : Fact) → known f → after f) (part : DumpPart) (c : Copying) (file block position : ℕ) → IsBlockOf part file block → IsCopying known part (Some (place_of part file block)) c
    → IsCopying after (dump_with_event part (Copy c.number file block position)) (Some (place_of part file block + 1)) c
copying_copied known after more part c file block position here is =
    record { started = more (Started part.number c.number c.start) is.started; within = is.within; ongoing = is.ongoing; are = copied_now part c.number file block position here is.are }

-- WHAT MAY HAPPEN NEXT

-- the dump whose body can take a block is the one that is being copied
pub open_some : (filled : Option ℕ) (current : Option Copying) (P : Copying → Type 0) → MatchOption (open_in filled current) ⊥ P → (c : Copying) × (current ≡ Some c) × (open_in filled current ≡ Some c) × P c
open_some None current P may = absurd may
open_some (Some blocks) None P may = absurd may
open_some (Some blocks) (Some c) P may = (c, refl, refl, may)

pub open_is : (filled : Option ℕ) (current : Option Copying) (c : Copying) → open_in filled current ≡ Some c → (current ≡ Some c) × IsSome filled
open_is None current c is = absurd (cc (is))
open_is (Some blocks) current c is = (is, refl)

pub some_of : (o : Option ℕ) (n : ℕ) → o ≡ Some n → IsSome o
some_of o n is = subst (λ (x : Option ℕ). IsSome x) (sym is) refl

pub of_current : (P : Copying → Type 0) (current : Option Copying) (c : Copying) → current ≡ Some c → IfSome current P → P c
of_current P current c is all = subst (λ (o : Option Copying). IfSome o P) is all

-- the next block may be copied
pub may_copy : (known : Fact → Type 0) (base : Option (List Entry)) (part : DumpPart) (filled : Option ℕ) (c : Copying) (file block position : ℕ) (bytes : List ℕ) → IsCopying known part filled c → MayCopyNext known base part filled file block position bytes c
    → DumpMay part (Copy c.number file block position) × DumpAsks known part (Copy c.number file block position)
may_copy known base part filled c file block position bytes is may =
    let are : AreCopied part c.number (place_of part file block) = subst (λ (o : Option ℕ). IfSome o (AreCopied part c.number)) may.at is.are in (
      record { ongoing = is.ongoing; block_is = may.here; is_new = are.left file block may.here (omega arith); certain = subst (λ (o : Option DumpStart). IsInNoDoubt part.events o) (sym are.certain) tt },
      (c.start, is.started, may.behind, (may.records, may.is_made)),
    )

-- the dump may be sealed
pub may_seal : (known : Fact → Type 0) (part : DumpPart) (filled : Option ℕ) (c : Copying) → IsCopying known part filled c → MaySealAll known part filled c
    → DumpMay part (Seal c.number c.start) × DumpAsks known part (Seal c.number c.start)
may_seal known part filled c is may =
    let are : AreCopied part c.number (blocks_in_all (files_of part)) = subst (λ (o : Option ℕ). IfSome o (AreCopied part c.number)) may.all is.are in (
      record { ongoing = is.ongoing; idle = are.certain; whole = λ f b here. are.done f b here (place_within part f b here); rises = may.rises },
      (is.started, may.before, may.landed),
    )

-- and no label is offered then
pub idle_now : (known : Fact → Type 0) (part : DumpPart) (filled : Option ℕ) (c : Copying) → IsCopying known part filled c → IsSome filled → offered_label part.events ≡ None
idle_now known part None c is some = absurd (cc (some))
idle_now known part (Some blocks) c is some = is.are.certain

-- WHERE A DUMP IS OVER

pub over_sealed : (part : DumpPart) (number : ℕ) (label : DumpStart) → offered_label part.events ≡ Some label → IsOver (dump_with_event part (Sealed number true)) number (Some label.start)
over_sealed part number label is = (
  (seals part.events, inl refl),
  subst (λ (o : Option DumpStart). AreFrom o None label.start) (sym (landed_now part.rest part.events number label is)) (omega arith),
)

pub over_given_up : (part : DumpPart) (number : ℕ) → ((x y : DumpStart) → landed_label part.rest part.events ≡ Some x → offered_label part.events ≡ Some y → x.start ≤ y.start)
    → IsOver (dump_with_event part (Sealed number false)) number (option_or (start_of (landed_label part.rest part.events)) (start_of (offered_label part.events)))
over_given_up part number rises = of (landed_label part.rest part.events) (offered_label part.events) refl refl
  where
    now : DumpPart
    now = dump_with_event part (Sealed number false)

    of : (a b : Option DumpStart) → landed_label part.rest part.events ≡ a → offered_label part.events ≡ b → IsOver now number (option_or (start_of (landed_label part.rest part.events)) (start_of (offered_label part.events)))
    of None None a_is b_is =
        subst (λ (o : Option ℕ). IsOver now number o) (sym ((λ i. option_or (start_of (a_is i)) (start_of (b_is i)))))
        (seals part.events, inl refl, omega arith, inr (a_is, b_is))
    of (Some a) None a_is b_is =
        subst (λ (o : Option ℕ). IsOver now number o) (sym ((λ i. option_or (start_of (a_is i)) (start_of (b_is i)))))
        ((seals part.events, inl refl), subst (λ (x : Option DumpStart). AreFrom x (offered_label part.events) a.start) (sym a_is) (subst (λ (y : Option DumpStart). AreFrom (Some a) y a.start) (sym b_is) (omega arith)))
    of None (Some b) a_is b_is =
        subst (λ (o : Option ℕ). IsOver now number o) (sym ((λ i. option_or (start_of (a_is i)) (start_of (b_is i)))))
        ((seals part.events, inl refl), subst (λ (x : Option DumpStart). AreFrom x (offered_label part.events) b.start) (sym a_is) (subst (λ (y : Option DumpStart). AreFrom None y b.start) (sym b_is) (omega arith)))
    of (Some a) (Some b) a_is b_is =
        subst (λ (o : Option ℕ). IsOver now number o) (sym ((λ i. option_or (start_of (a_is i)) (start_of (b_is i)))))
        ((seals part.events, inl refl), subst (λ (x : Option DumpStart). AreFrom x (offered_label part.events) a.start) (sym a_is) (subst (λ (y : Option DumpStart). AreFrom (Some a) y a.start) (sym b_is) (omega arith, rises a b a_is b_is)))

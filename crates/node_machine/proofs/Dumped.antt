-- The dumps of a run: when their labels were offered, each block had been copied, and each copy was durable; and when they began, all was quiet at their starts.
use Rattle.std.specs.Prelude.{◌≡◌, ◌⊎◌, ℕ, ◌+◌, ◌≤◌, ◌==◌, ◌&&◌, Bool, true, false, if◌then◌else◌, List, [], ◌∷◌, ◌++◌, Option, Some, None, IsSome, slice_get}
use Rattle.std.specs.Option.{option_or}
use Rattle.std.proofs.Common.{refl, ap, sym, ◌∙◌, subst, arith, eqb-true, ⊎_elim, inl, inr}
use Rattle.std.proofs.lemmas.Bool.{and_parts}
use Rattle.chronicle.specs.Histories.{states_after, IsHistory, IsTrueIn}
use Rattle.chronicle.proofs.States.{states_after-append, history_rest, stays_true}
use Rattle.tmf_model.specs.declared.transid.Transid.{Transid}
use Rattle.trail_files.specs.StandsFor.{Base}
use Rattle.node_machine.specs.declared.event.DiscEvent.{DiscEvent}
use Rattle.node_machine.specs.declared.event.DiscEvent.TheVariants.{Write, Read, Lock, Turn, Undo, Close, Release, Draw, Drawn, Low, Lowered, Start as StartDump, Raise, Failed as DiscFailed}
use Rattle.node_machine.specs.declared.event.DumpEvent.{DumpEvent}
use Rattle.node_machine.specs.declared.event.DumpEvent.TheVariants.{Copy, Seal, Sealed, Failed}
use Rattle.node_machine.specs.declared.event.Event.{Event}
use Rattle.node_machine.specs.declared.event.Event.TheVariants.{OfWorker, OfDisc, OfTrail, OfMonitor, OfDump}
use Rattle.node_machine.specs.Parts.{DumpStart, DiscPart, DumpPart, PartState, Fact}
use Rattle.node_machine.specs.Parts.Fact.{Durable, Started}
use Rattle.node_machine.specs.Parts.PartState.{Worker, Disc, Trail, Monitor, Dump, Idle}
use Rattle.node_machine.specs.Same.{Among, is_same_block}
use Rattle.node_machine.specs.Made.{starts, dumps_begun}
use Rattle.node_machine.specs.Disc.{DiscMay, MayStart, IsQuiet}
use Rattle.node_machine.specs.Dump.{offered_label, landed_here, copied, IsBlockOf, DumpMay, DumpAsks}
use Rattle.node_machine.specs.Shows.{ShowsOwn, HasCopies}
use Rattle.node_machine.specs.Node.{node, IsAllowed, Asks, state_with}
use Rattle.node_machine.specs.Laws.{node_facts_stay}
use Rattle.node_machine.specs.Opening.{Found, opening_parts, disc_part, dump_part}
use Rattle.node_machine.specs.Law.{IsOnce, DiscWas, IsDumpContent}
use Rattle.node_machine.proofs.Kept.{kept}
use Rattle.node_machine.proofs.Opened.{fresh}
use Rattle.node_machine.proofs.Placed.{IsPlaced, parts_placed}
use Rattle.node_machine.proofs.Sprung.{IsSprung, Was, sprung}

-- A DUMP DEVICE

abbrev IsWholeOf : DumpPart → Type 0
IsWholeOf u = (label : DumpStart) → ShowsOwn u label → (file block : ℕ) → IsBlockOf u file block → IsSome (copied u.events label.number file block)

-- each label of this run is of a dump of which all was copied
abbrev IsWholly : ℕ → PartState → Type 0
IsWholly q (Dump u) = IsWholeOf u
IsWholly q _ = Unit {0}

is_some : (o : Option ℕ) → IsSome o → (n : ℕ) × (o ≡ Some n)
is_some None h = absurd (cc (h))
is_some (Some n) h = (n, refl)

some_if : (c : Bool) (n : ℕ) (o : Option ℕ) → IsSome o → IsSome (if c then Some n else o)
some_if true n o h = refl
some_if false n o h = h

shown_before : (u : DumpPart) (a b : Option DumpStart) (label : DumpStart) → offered_label u.events ≡ a → landed_here u.events ≡ b → (option_or a b ≡ Some label) ⊎ (None ≡ Some label) → ShowsOwn u label
shown_before u None b label e f h = ⊎_elim (λ (x : b ≡ Some label). inl (f ∙ x)) (λ (x : None ≡ Some label). absurd (cc (x))) h
shown_before u (Some a) b label e f h = ⊎_elim (λ (x : Some a ≡ Some label). inr (e ∙ x)) (λ (x : None ≡ Some label). absurd (cc (x))) h

whole_step : (u : DumpPart) (e : DumpEvent) → DumpMay u e → IsWholeOf u → IsWholeOf (record u { events = e ∷ u.events })
whole_step u (Seal number start) may w label shows file block b =
    let here : IsBlockOf u file block = record { here = b.here; within = b.within } in
    ⊎_elim
    (λ (x : landed_here u.events ≡ Some label). w label (inl x) file block here)
    (λ (x : Some (record { number = number; start = start }) ≡ Some label).
    (let same : record { number = number; start = start } ≡ label = cc (x) in subst (λ (l : DumpStart). IsSome (copied u.events l.number file block)) same (may.whole file block here)))
    shows
whole_step u (Sealed number true) may w label shows file block b =
    w label (shown_before u (offered_label u.events) (landed_here u.events) label refl refl shows) file block (record { here = b.here; within = b.within })
whole_step u (Sealed number false) may w label shows file block b = w label shows file block (record { here = b.here; within = b.within })
whole_step u (Copy number f c position) may w label shows file block b =
    some_if ((label.number == number) && is_same_block file block f c) position (copied u.events label.number file block) (w label shows file block (record { here = b.here; within = b.within }))
whole_step u (Failed by) may w label shows file block b = w label shows file block (record { here = b.here; within = b.within })

wholly_kept : (q : ℕ) (s : PartState) (e : Event) → IsAllowed s e → IsWholly q s → IsWholly q (state_with s e)
wholly_kept q (Worker s) (OfWorker e) may w = tt
wholly_kept q (Disc s) (OfDisc e) may w = tt
wholly_kept q (Trail s) (OfTrail e) may w = tt
wholly_kept q (Monitor s) (OfMonitor e) may w = tt
wholly_kept q (Dump s) (OfDump e) may w = whole_step s e may w
wholly_kept q _ _ may w = absurd may

none_shown : (u : DumpPart) (label : DumpStart) → u.events ≡ [] → ShowsOwn u label → ⊥
none_shown u label e shows =
    ⊎_elim
    (λ (x : landed_here u.events ≡ Some label). (let no : None ≡ Some label = sym (ap landed_here e) ∙ x in absurd (cc (no))))
    (λ (x : offered_label u.events ≡ Some label). (let no : None ≡ Some label = sym (ap offered_label e) ∙ x in absurd (cc (no))))
    shows

wholly_opened : (found : Found) (q : ℕ) (s : PartState) → slice_get (opening_parts found) q ≡ Some s → IsWholly q s
wholly_opened found q (Dump u) at = λ label shows. absurd (none_shown u label (fresh found q (Dump u) at) shows)
wholly_opened found q (Worker s) at = tt
wholly_opened found q (Disc s) at = tt
wholly_opened found q (Trail s) at = tt
wholly_opened found q (Monitor s) at = tt
wholly_opened found q Idle at = tt

-- A DISC

-- the dumps that a disc has begun have numbers that rise, so each number has one start
pub record AreApart (s : DiscPart) : Type 0 where
  pub most : (x : DumpStart) → Among (starts s.events) x → x.number ≤ dumps_begun s.events
  pub apart : (x y : DumpStart) → Among (starts s.events) x → Among (starts s.events) y → x.number ≡ y.number → x.start ≡ y.start

abbrev AreApartIn : ℕ → PartState → Type 0
AreApartIn q (Disc s) = AreApart s
AreApartIn q _ = Unit {0}

begun_apart : (s : DiscPart) (number start : ℕ) (item : Transid) → number ≡ dumps_begun s.events + 1 → AreApart s → AreApart (record s { events = StartDump number start item ∷ s.events })
begun_apart s number start item next a = record {
  most = λ x h. ⊎_elim
      (λ (e : record { number = number; start = start } ≡ x). (let n : number ≡ x.number = ap (λ (y : DumpStart). y.number) e in omega (arith, next, n)))
      (λ (k : Among (starts s.events) x). (let le = a.most x k in omega (arith, le)))
      h;
  apart = λ x y h k same. ⊎_elim
      (λ (e : record { number = number; start = start } ≡ x). ⊎_elim
      (λ (f : record { number = number; start = start } ≡ y). ap (λ (z : DumpStart). z.start) (sym e ∙ f))
      (λ (f : Among (starts s.events) y). (let n : number ≡ x.number = ap (λ (z : DumpStart). z.number) e in let le = a.most y f in absurd (omega (arith, next, n, le, same))))
      k)
      (λ (e : Among (starts s.events) x). ⊎_elim
      (λ (f : record { number = number; start = start } ≡ y). (let n : number ≡ y.number = ap (λ (z : DumpStart). z.number) f in let le = a.most x e in absurd (omega (arith, next, n, le, same))))
      (λ (f : Among (starts s.events) y). a.apart x y e f same)
      k)
      h;
}

apart_step : (s : DiscPart) (e : DiscEvent) → DiscMay s e → AreApart s → AreApart (record s { events = e ∷ s.events })
apart_step s (StartDump number start item) may a = begun_apart s number start item may.next a
apart_step s (Write r op) may a = record { most = a.most; apart = a.apart }
apart_step s (Read t file key value) may a = record { most = a.most; apart = a.apart }
apart_step s (Lock t file) may a = record { most = a.most; apart = a.apart }
apart_step s (Turn t cause) may a = record { most = a.most; apart = a.apart }
apart_step s (Undo r) may a = record { most = a.most; apart = a.apart }
apart_step s (Close t) may a = record { most = a.most; apart = a.apart }
apart_step s (Release t) may a = record { most = a.most; apart = a.apart }
apart_step s (Draw file block position) may a = record { most = a.most; apart = a.apart }
apart_step s (Drawn file block) may a = record { most = a.most; apart = a.apart }
apart_step s (Low position by) may a = record { most = a.most; apart = a.apart }
apart_step s Lowered may a = record { most = a.most; apart = a.apart }
apart_step s (Raise number rest) may a = record { most = a.most; apart = a.apart }
apart_step s (DiscFailed by) may a = record { most = a.most; apart = a.apart }

apart_kept : (q : ℕ) (s : PartState) (e : Event) → IsAllowed s e → AreApartIn q s → AreApartIn q (state_with s e)
apart_kept q (Worker s) (OfWorker e) may a = tt
apart_kept q (Disc s) (OfDisc e) may a = apart_step s e may a
apart_kept q (Trail s) (OfTrail e) may a = tt
apart_kept q (Monitor s) (OfMonitor e) may a = tt
apart_kept q (Dump s) (OfDump e) may a = tt
apart_kept q _ _ may a = absurd may

apart_opened : (found : Found) (q : ℕ) (s : PartState) → slice_get (opening_parts found) q ≡ Some s → AreApartIn q s
apart_opened found q (Disc s) at = (let none : starts s.events ≡ [] = ap starts (fresh found q (Disc s) at) in record {
  most = λ x h. absurd (subst (λ (xs : List DumpStart). Among xs x) none h);
  apart = λ x y h k same. absurd (subst (λ (xs : List DumpStart). Among xs x) none h);
})
apart_opened found q (Worker s) at = tt
apart_opened found q (Trail s) at = tt
apart_opened found q (Monitor s) at = tt
apart_opened found q (Dump s) at = tt
apart_opened found q Idle at = tt

-- WHAT MADE THEM SO

abbrev Nothing : ℕ → PartState → Type 0
Nothing q s = Unit {0}

-- the disc has begun this dump
abbrev HasBegun : ℕ → ℕ → PartState → Type 0
HasBegun number start (Disc s) = Among (starts s.events) (record { number = number; start = start })
HasBegun number start _ = ⊥

abbrev Begins : ℕ → ℕ → PartState → Event → Type 0
Begins number start s e = (item : Transid) × (e ≡ OfDisc (StartDump number start item)) × (t : DiscPart) × (s ≡ Disc t)

begins_disc : (number start : ℕ) (s : DiscPart) (e : DiscEvent) → Among (starts (e ∷ s.events)) (record { number = number; start = start }) → Among (starts s.events) (record { number = number; start = start }) ⊎ Begins number start (Disc s) (OfDisc e)
begins_disc number start s (StartDump n l item) h =
    ⊎_elim
    (λ (e : record { number = n; start = l } ≡ record { number = number; start = start }). inr (item, ap (λ (x : DumpStart). OfDisc (StartDump x.number x.start item)) e, s, refl))
    (λ (k : Among (starts s.events) (record { number = number; start = start })). inl k)
    h
begins_disc number start s (Write r op) h = inl h
begins_disc number start s (Read t file key value) h = inl h
begins_disc number start s (Lock t file) h = inl h
begins_disc number start s (Turn t cause) h = inl h
begins_disc number start s (Undo r) h = inl h
begins_disc number start s (Close t) h = inl h
begins_disc number start s (Release t) h = inl h
begins_disc number start s (Draw file block position) h = inl h
begins_disc number start s (Drawn file block) h = inl h
begins_disc number start s (Low position by) h = inl h
begins_disc number start s Lowered h = inl h
begins_disc number start s (Raise n rest) h = inl h
begins_disc number start s (DiscFailed by) h = inl h

begins : (number start : ℕ) (q : ℕ) (s : PartState) (e : Event) → IsAllowed s e → Nothing q s → HasBegun number start (state_with s e) → HasBegun number start s ⊎ Begins number start s e
begins number start q (Disc s) (OfDisc e) may i h = begins_disc number start s e h
begins number start q (Worker s) (OfWorker e) may i h = absurd h
begins number start q (Trail s) (OfTrail e) may i h = absurd h
begins number start q (Monitor s) (OfMonitor e) may i h = absurd h
begins number start q (Dump s) (OfDump e) may i h = absurd h
begins number start q _ _ may i h = absurd may

-- the block was copied behind this position
abbrev HasCopied : ℕ → ℕ → ℕ → ℕ → ℕ → PartState → Type 0
HasCopied d number file block position (Dump u) = (u.number ≡ d) × (copied u.events number file block ≡ Some position)
HasCopied d number file block position _ = ⊥

abbrev Copies : ℕ → ℕ → ℕ → ℕ → ℕ → PartState → Event → Type 0
Copies d number file block position s e = (e ≡ OfDump (Copy number file block position)) × (u : DumpPart) × (s ≡ Dump u) × (u.number ≡ d)

copies_dump : (d number file block position : ℕ) (u : DumpPart) (e : DumpEvent) → u.number ≡ d → copied (e ∷ u.events) number file block ≡ Some position → HasCopied d number file block position (Dump u) ⊎ Copies d number file block position (Dump u) (OfDump e)
copies_dump d number file block position u (Copy n f b p) of h = by_case ((number == n) && is_same_block file block f b) refl h where
  by_case : (c : Bool) → ((number == n) && is_same_block file block f b) ≡ c → (if c then Some p else copied u.events number file block) ≡ Some position
      → HasCopied d number file block position (Dump u) ⊎ Copies d number file block position (Dump u) (OfDump (Copy n f b p))
  by_case true e h =
      let one = and_parts (number == n) (is_same_block file block f b) e in
      let two = and_parts (file == f) (block == b) one.1 in
      let n_is : number ≡ n = eqb-true number n one.0 in
      let f_is : file ≡ f = eqb-true file f two.0 in
      let b_is : block ≡ b = eqb-true block b two.1 in
      let p_is : p ≡ position = cc (h) in
      inr ((λ i. OfDump (Copy (sym n_is i) (sym f_is i) (sym b_is i) (p_is i))), u, refl, of)
  by_case false e h = inl (of, h)
copies_dump d number file block position u (Seal n l) of h = inl (of, h)
copies_dump d number file block position u (Sealed n whole) of h = inl (of, h)
copies_dump d number file block position u (Failed by) of h = inl (of, h)

copies : (d number file block position q : ℕ) (s : PartState) (e : Event) → IsAllowed s e → Nothing q s → HasCopied d number file block position (state_with s e) → HasCopied d number file block position s ⊎ Copies d number file block position s e
copies d number file block position q (Dump s) (OfDump e) may i h = copies_dump d number file block position s e h.0 h.1
copies d number file block position q (Worker s) (OfWorker e) may i h = absurd h
copies d number file block position q (Trail s) (OfTrail e) may i h = absurd h
copies d number file block position q (Monitor s) (OfMonitor e) may i h = absurd h
copies d number file block position q (Disc s) (OfDisc e) may i h = absurd h
copies d number file block position q _ _ may i h = absurd may

-- the label is shown, and the block was copied for it behind this position
abbrev HasSealed : ℕ → DumpStart → ℕ → ℕ → ℕ → PartState → Type 0
HasSealed d label file block position (Dump u) = ShowsOwn u label × IsBlockOf u file block × (u.number ≡ d) × (copied u.events label.number file block ≡ Some position)
HasSealed d label file block position _ = ⊥

abbrev Seals : ℕ → DumpStart → ℕ → ℕ → ℕ → PartState → Event → Type 0
Seals d label file block position s e = (e ≡ OfDump (Seal label.number label.start)) × (u : DumpPart) × (s ≡ Dump u) × (u.number ≡ d) × (copied u.events label.number file block ≡ Some position)

seals_dump : (d : ℕ) (label : DumpStart) (file block position : ℕ) (u : DumpPart) (e : DumpEvent) → DumpMay u e → IsWholeOf u → HasSealed d label file block position (Dump (record u { events = e ∷ u.events }))
    → HasSealed d label file block position (Dump u) ⊎ Seals d label file block position (Dump u) (OfDump e)
seals_dump d label file block position u (Seal n l) may w h =
    ⊎_elim
    (λ (x : landed_here u.events ≡ Some label). inl (inl x, record { here = h.1.here; within = h.1.within }, h.2, h.3))
    (λ (x : Some (record { number = n; start = l }) ≡ Some label).
    (let same : record { number = n; start = l } ≡ label = cc (x) in inr (ap (λ (y : DumpStart). OfDump (Seal y.number y.start)) same, u, refl, h.2, h.3)))
    h.0
seals_dump d label file block position u (Sealed n true) may w h =
    inl (shown_before u (offered_label u.events) (landed_here u.events) label refl refl h.0, record { here = h.1.here; within = h.1.within }, h.2, h.3)
seals_dump d label file block position u (Sealed n false) may w h = inl (h.0, record { here = h.1.here; within = h.1.within }, h.2, h.3)
seals_dump d label file block position u (Failed by) may w h = inl (h.0, record { here = h.1.here; within = h.1.within }, h.2, h.3)
seals_dump d label file block position u (Copy n f b p) may w h = by_case ((label.number == n) && is_same_block file block f b) refl h.3 where
  here : IsBlockOf u file block
  here = record { here = h.1.here; within = h.1.within }

  by_case : (c : Bool) → ((label.number == n) && is_same_block file block f b) ≡ c → (if c then Some p else copied u.events label.number file block) ≡ Some position
      → HasSealed d label file block position (Dump u) ⊎ Seals d label file block position (Dump u) (OfDump (Copy n f b p))
  by_case true e x =
      let one = and_parts (label.number == n) (is_same_block file block f b) e in
      let two = and_parts (file == f) (block == b) one.1 in
      let n_is : label.number ≡ n = eqb-true label.number n one.0 in
      let f_is : file ≡ f = eqb-true file f two.0 in
      let b_is : block ≡ b = eqb-true block b two.1 in
      let same : copied u.events label.number file block ≡ copied u.events n f b = (λ i. copied u.events (n_is i) (f_is i) (b_is i)) in
      let some = is_some (copied u.events label.number file block) (w label h.0 file block here) in
      let no : None ≡ Some some.0 = sym may.is_new ∙ (sym same ∙ some.1) in
      absurd (cc (no))
  by_case false e x = inl (h.0, here, h.2, x)

seals_so : (d : ℕ) (label : DumpStart) (file block position q : ℕ) (s : PartState) (e : Event) → IsAllowed s e → IsWholly q s → HasSealed d label file block position (state_with s e) → HasSealed d label file block position s ⊎ Seals d label file block position s e
seals_so d label file block position q (Dump s) (OfDump e) may w h = seals_dump d label file block position s e may w h
seals_so d label file block position q (Worker s) (OfWorker e) may w h = absurd h
seals_so d label file block position q (Trail s) (OfTrail e) may w h = absurd h
seals_so d label file block position q (Monitor s) (OfMonitor e) may w h = absurd h
seals_so d label file block position q (Disc s) (OfDisc e) may w h = absurd h
seals_so d label file block position q _ _ may w h = absurd may

-- the label is shown
abbrev HasShown : ℕ → DumpStart → PartState → Type 0
HasShown d label (Dump u) = (u.number ≡ d) × ShowsOwn u label
HasShown d label _ = ⊥

abbrev Labels : ℕ → DumpStart → PartState → Event → Type 0
Labels d label s e = (e ≡ OfDump (Seal label.number label.start)) × (u : DumpPart) × (s ≡ Dump u) × (u.number ≡ d)

labels_dump : (d : ℕ) (label : DumpStart) (u : DumpPart) (e : DumpEvent) → u.number ≡ d → ShowsOwn (record u { events = e ∷ u.events }) label → HasShown d label (Dump u) ⊎ Labels d label (Dump u) (OfDump e)
labels_dump d label u (Seal n l) of h =
    ⊎_elim
    (λ (x : landed_here u.events ≡ Some label). inl (of, inl x))
    (λ (x : Some (record { number = n; start = l }) ≡ Some label). (let same : record { number = n; start = l } ≡ label = cc (x) in inr (ap (λ (y : DumpStart). OfDump (Seal y.number y.start)) same, u, refl, of)))
    h
labels_dump d label u (Sealed n true) of h = inl (of, shown_before u (offered_label u.events) (landed_here u.events) label refl refl h)
labels_dump d label u (Sealed n false) of h = inl (of, h)
labels_dump d label u (Copy n f b p) of h = inl (of, h)
labels_dump d label u (Failed by) of h = inl (of, h)

labels : (d : ℕ) (label : DumpStart) (q : ℕ) (s : PartState) (e : Event) → IsAllowed s e → Nothing q s → HasShown d label (state_with s e) → HasShown d label s ⊎ Labels d label s e
labels d label q (Dump s) (OfDump e) may i h = labels_dump d label s e h.0 h.1
labels d label q (Worker s) (OfWorker e) may i h = absurd h
labels d label q (Trail s) (OfTrail e) may i h = absurd h
labels d label q (Monitor s) (OfMonitor e) may i h = absurd h
labels d label q (Disc s) (OfDisc e) may i h = absurd h
labels d label q _ _ may i h = absurd may

-- THE CONTENT OF A DUMP

-- the disc that has begun a dump is the one of its number
started_there : (ss : List PartState) → ((q : ℕ) (s : PartState) → slice_get ss q ≡ Some s → IsPlaced q s) → (d number start : ℕ) → IsTrueIn node ss (Started d number start)
    → (s : DiscPart) × (slice_get ss (disc_part d) ≡ Some (Disc s)) × Among (starts s.events) (record { number = number; start = start })
started_there ss each d n l (q, Disc s, at, makes) =
    (s, ap (λ (p : ℕ). slice_get ss p) (sym (each q (Disc s) at ∙ ap (λ (m : ℕ). disc_part m) makes.0)) ∙ at, makes.1)
started_there ss each d n l (q, Worker s, at, makes) = absurd makes
started_there ss each d n l (q, Trail s, at, makes) = absurd makes
started_there ss each d n l (q, Monitor s, at, makes) = absurd makes
started_there ss each d n l (q, Dump s, at, makes) = absurd makes
started_there ss each d n l (q, Idle, at, makes) = absurd makes

-- what a dump device's event asks
asked_so : (T : Fact → Type 0) (s : PartState) (e : Event) (u : DumpPart) (d : DumpEvent) → e ≡ OfDump d → s ≡ Dump u → Asks T s e → DumpAsks T u d
asked_so T s e u d is of a = subst (λ (x : Event). Asks T (Dump u) x) is (subst (λ (y : PartState). Asks T y e) of a)

module _ (found : Found) (log : List (ℕ × Event)) (h : IsHistory node (opening_parts found) log) where
  abbrev START : List PartState
  START = opening_parts found

  abbrev END : List PartState
  END = states_after node START log

  placed : (q : ℕ) (s : PartState) → slice_get END q ≡ Some s → IsPlaced q s
  placed = parts_placed found log h

  -- what was true at a moment of the history is true after it
  to_end : (front rest : List (ℕ × Event)) → log ≡ front ++ rest → (f : Fact) → IsTrueIn node (states_after node START front) f → IsTrueIn node END f
  to_end front rest e f t =
      let cut : IsHistory node START (front ++ rest) = subst (λ (xs : List (ℕ × Event)). IsHistory node START xs) e h in
      let stays : IsTrueIn node (states_after node (states_after node START front) rest) f = stays_true node node_facts_stay (states_after node START front) rest f (history_rest node START front rest cut) t in
      let all : END ≡ states_after node (states_after node START front) rest = ap (λ (xs : List (ℕ × Event)). states_after node START xs) e ∙ states_after-append node START front rest in
      subst (λ (ss : List PartState). IsTrueIn node ss f) (sym all) stays

  -- a dump that has begun did so at its start, which was quiet then
  begun_quiet : (s : DiscPart) → slice_get END (disc_part s.number) ≡ Some (Disc s) → (number start : ℕ) → Among (starts s.events) (record { number = number; start = start })
      → (item : Transid) × IsOnce START log (disc_part s.number) (OfDisc (StartDump number start item)) (DiscWas s.number (λ before. IsQuiet before start))
  begun_quiet s at number start has =
      ⊎_elim
      (λ (w : Was node Nothing (λ q s e may i. i) (HasBegun number start) (Begins number start) (begins number start) START (disc_part s.number)). absurd (never w.0 w.1 w.2))
      (λ (c : IsSprung node Nothing (λ q s e may i. i) (HasBegun number start) (Begins number start) (begins number start) START log (disc_part s.number)).
      (let e_is : c.event ≡ OfDisc (StartDump number start c.because.0) = c.because.1 in
      let s_is : c.state ≡ Disc c.because.2 = c.because.3 in
      let may : MayStart c.because.2 number start = subst (λ (x : Event). IsAllowed (Disc c.because.2) x) e_is (subst (λ (y : PartState). IsAllowed y c.event) s_is c.allowed) in
      (c.because.0, (c.front, c.rest, c.here ∙ ap (λ (x : Event). c.front ++ (disc_part s.number, x) ∷ c.rest) e_is, (c.because.2, c.at ∙ ap (λ (y : PartState). Some y) s_is, may.greatest.quiet)))))
      (sprung node Nothing (λ q s e may i. i) (HasBegun number start) (Begins number start) (begins number start) START log h (λ q s at. tt) (disc_part s.number) (Disc s, at, has))
    where
      never : (t : PartState) → slice_get START (disc_part s.number) ≡ Some t → HasBegun number start t → ⊥
      never (Disc t) at has = subst (λ (xs : List DumpStart). Among xs (record { number = number; start = start })) (ap starts (fresh found (disc_part s.number) (Disc t) at)) has
      never (Worker t) at has = has
      never (Trail t) at has = has
      never (Monitor t) at has = has
      never (Dump t) at has = has
      never Idle at has = has

  module _ (s : DiscPart) (u : DumpPart) (label : DumpStart) (at_s : slice_get END (disc_part s.number) ≡ Some (Disc s)) (at_u : slice_get END (dump_part s.number) ≡ Some (Dump u)) (shows : ShowsOwn u label) where
    of_u : u.number ≡ s.number
    of_u = (let q : dump_part s.number ≡ dump_part u.number = placed (dump_part s.number) (Dump u) at_u in omega (arith, q))

    -- a start that was true at a moment is one of the disc's
    begun_at : (front rest : List (ℕ × Event)) → log ≡ front ++ rest → (number start : ℕ) → IsTrueIn node (states_after node START front) (Started s.number number start) → Among (starts s.events) (record { number = number; start = start })
    begun_at front rest e number start t =
        let x = started_there END placed s.number number start (to_end front rest e (Started s.number number start) t) in
        let both : Some (Disc x.0) ≡ Some (Disc s) = sym x.1 ∙ at_s in
        let same : x.0 ≡ s = cc (both) in
        subst (λ (t : DiscPart). Among (starts t.events) (record { number = number; start = start })) same x.2

    -- a block that was copied for the label's dump
    sealed_at : (file block : ℕ) → IsBlockOf u file block → (position : ℕ) → copied u.events label.number file block ≡ Some position
        → IsOnce START log (dump_part s.number) (OfDump (Seal label.number label.start)) (λ before. IsTrueIn node before (Durable s.number position))
    sealed_at file block b position is =
        ⊎_elim
        (λ (w : Was node IsWholly wholly_kept (HasSealed s.number label file block position) (Seals s.number label file block position) (seals_so s.number label file block position) START (dump_part s.number)). absurd (never w.0 w.1 w.2))
        (λ (c : IsSprung node IsWholly wholly_kept (HasSealed s.number label file block position) (Seals s.number label file block position) (seals_so s.number label file block position) START log (dump_part s.number)).
        (let a = asked_so (IsTrueIn node (states_after node START c.front)) c.state c.event c.because.1 (Seal label.number label.start) c.because.0 c.because.2 c.asked in
        let here : log ≡ c.front ++ (dump_part s.number, OfDump (Seal label.number label.start)) ∷ c.rest = c.here ∙ ap (λ (x : Event). c.front ++ (dump_part s.number, x) ∷ c.rest) c.because.0 in
        let durable : IsTrueIn node (states_after node START c.front) (Durable s.number position) = subst (λ (n : ℕ). IsTrueIn node (states_after node START c.front) (Durable n position)) c.because.3 (a.2 file block position c.because.4) in
        (c.front, c.rest, here, durable)))
        (sprung node IsWholly wholly_kept (HasSealed s.number label file block position) (Seals s.number label file block position) (seals_so s.number label file block position) START log h (wholly_opened found) (dump_part s.number) (Dump u, at_u, (shows, b, of_u, is)))
      where
        never : (t : PartState) → slice_get START (dump_part s.number) ≡ Some t → HasSealed s.number label file block position t → ⊥
        never (Dump t) at has = (let none : copied t.events label.number file block ≡ None = ap (λ (es : List DumpEvent). copied es label.number file block) (fresh found (dump_part s.number) (Dump t) at) in let no : None ≡ Some position = sym none ∙ has.3 in absurd (cc (no)))
        never (Worker t) at has = has
        never (Trail t) at has = has
        never (Monitor t) at has = has
        never (Disc t) at has = has
        never Idle at has = has

    -- it was copied behind a position that is not before the start of that dump
    copied_from : (file block position : ℕ) → copied u.events label.number file block ≡ Some position → (start : ℕ) × Among (starts s.events) (record { number = label.number; start = start }) × (start ≤ position + 1)
    copied_from file block position is =
        ⊎_elim
        (λ (w : Was node Nothing (λ q s e may i. i) (HasCopied s.number label.number file block position) (Copies s.number label.number file block position) (copies s.number label.number file block position) START (dump_part s.number)). absurd (never w.0 w.1 w.2))
        (λ (c : IsSprung node Nothing (λ q s e may i. i) (HasCopied s.number label.number file block position) (Copies s.number label.number file block position) (copies s.number label.number file block position) START log (dump_part s.number)).
        (let a = asked_so (IsTrueIn node (states_after node START c.front)) c.state c.event c.because.1 (Copy label.number file block position) c.because.0 c.because.2 c.asked in
        let started : IsTrueIn node (states_after node START c.front) (Started s.number label.number a.0) = subst (λ (n : ℕ). IsTrueIn node (states_after node START c.front) (Started n label.number a.0)) c.because.3 a.1 in
        (a.0, begun_at c.front ((dump_part s.number, c.event) ∷ c.rest) c.here label.number a.0 started, a.2)))
        (sprung node Nothing (λ q s e may i. i) (HasCopied s.number label.number file block position) (Copies s.number label.number file block position) (copies s.number label.number file block position) START log h (λ q s at. tt) (dump_part s.number) (Dump u, at_u, (of_u, is)))
      where
        never : (t : PartState) → slice_get START (dump_part s.number) ≡ Some t → HasCopied s.number label.number file block position t → ⊥
        never (Dump t) at has = (let none : copied t.events label.number file block ≡ None = ap (λ (es : List DumpEvent). copied es label.number file block) (fresh found (dump_part s.number) (Dump t) at) in let no : None ≡ Some position = sym none ∙ has.1 in absurd (cc (no)))
        never (Worker t) at has = has
        never (Trail t) at has = has
        never (Monitor t) at has = has
        never (Disc t) at has = has
        never Idle at has = has

    -- the dump of the label has begun
    has_begun : Among (starts s.events) label
    has_begun =
        ⊎_elim
        (λ (w : Was node Nothing (λ q s e may i. i) (HasShown s.number label) (Labels s.number label) (labels s.number label) START (dump_part s.number)). absurd (never w.0 w.1 w.2))
        (λ (c : IsSprung node Nothing (λ q s e may i. i) (HasShown s.number label) (Labels s.number label) (labels s.number label) START log (dump_part s.number)).
        (let a = asked_so (IsTrueIn node (states_after node START c.front)) c.state c.event c.because.1 (Seal label.number label.start) c.because.0 c.because.2 c.asked in
        let started : IsTrueIn node (states_after node START c.front) (Started s.number label.number label.start) = subst (λ (n : ℕ). IsTrueIn node (states_after node START c.front) (Started n label.number label.start)) c.because.3 a.0 in
        begun_at c.front ((dump_part s.number, c.event) ∷ c.rest) c.here label.number label.start started))
        (sprung node Nothing (λ q s e may i. i) (HasShown s.number label) (Labels s.number label) (labels s.number label) START log h (λ q s at. tt) (dump_part s.number) (Dump u, at_u, (of_u, shows)))
      where
        never : (t : PartState) → slice_get START (dump_part s.number) ≡ Some t → HasShown s.number label t → ⊥
        never (Dump t) at has = none_shown t label (fresh found (dump_part s.number) (Dump t) at) has.1
        never (Worker t) at has = has
        never (Trail t) at has = has
        never (Monitor t) at has = has
        never (Disc t) at has = has
        never Idle at has = has

    -- the dump has a dump's content
    pub dump_content : (content : Base) (copied_so : HasCopies u s label content) → IsDumpContent START log s u copied_so.entries label content
    dump_content content copied_so =
        let q = begun_quiet s at_s label.number label.start has_begun in
        record {
          item = q.0;
          start = copied_so.start;
          quiet = q.1;
          blocks = λ file block b.
              (let whole : IsWholeOf u = kept node IsWholly wholly_kept START log h (wholly_opened found) (dump_part s.number) (Dump u) at_u in
              let some = is_some (copied u.events label.number file block) (whole label shows file block b) in
              let from = copied_from file block some.0 some.1 in
              let apart : AreApart s = kept node AreApartIn apart_kept START log h (apart_opened found) (disc_part s.number) (Disc s) at_s in
              let one : from.0 ≡ label.start = apart.apart (record { number = label.number; start = from.0 }) label from.1 has_begun refl in
              let le : from.0 ≤ some.0 + 1 = from.2 in
              (some.0, omega (arith, one, le), copied_so.blocks file block some.0 some.1, sealed_at file block b some.0 some.1));
        }

-- What a dump device gives back is what a run needs of a device and its seat.
use Rattle.std.specs.Prelude.{◌≡◌, ◌⊎◌, ℕ, zero, suc, ◌-◌, ◌≤◌, List, [], ◌∷◌, length, map, filter, Option, Some, None, IsSome, IfSome}
use Rattle.std.proofs.Common.{refl, sym, ap, subst, ◌∙◌, arith, ⊎_elim}
use Rattle.block_cache.specs.Volume.{HasDump}
use Rattle.chronicle.specs.Histories.{IsHistory, states_after}
use Rattle.chronicle.specs.Seats.{IsWholeOf, Knows, Sight}
use Rattle.disk_model.specs.Held.{Held, Leaves}
use Rattle.disk_model.specs.declared.disk.Disk as disk
use Rattle.node_machine.specs.Deeds.{Log}
use Rattle.node_machine.specs.Made.{map_of}
use Rattle.node_machine.specs.Node.{node}
use Rattle.node_machine.specs.Opening.{Found, VolumeFound, dump_part}
use Rattle.node_machine.specs.Parts.{DiscPart, DumpPart, Entry, PartState}
use Rattle.node_machine.specs.Parts.Fact.{Made}
use Rattle.node_machine.specs.Parts.PartState.{Disc, Dump}
use Rattle.node_machine.specs.declared.event.DumpEvent.{DumpEvent}
use Rattle.node_machine.specs.declared.event.DumpEvent.TheVariants as dumped
use Rattle.node_machine.specs.declared.event.Event.{Event}
use Rattle.node_machine.specs.declared.event.Event.TheVariants.{OfDump}
use Rattle.online_dump.specs.Copies.{ToldBy}
use Rattle.online_dump.specs.Dumper.{AreDumpsShown, Dumper, IsDumper, ShowsCopies, ShowsOpening, StandsAsGiven, base_found, base_in, failures, first_held, held_in}
use Rattle.online_dump.specs.Filling.{IsDumpFile}
use Rattle.online_dump.specs.Found.{IsSealed}
use Rattle.online_dump.specs.Seen.{HasAllowedDump, IsFirstDump, IsSeenDisc}
use Rattle.online_dump.specs.declared.sealed.SealedDump.{SealedDump}
use Rattle.tmf_model.specs.Config.{IsNumber}
use Rattle.tmf_model.specs.declared.config.Config.{Config}
use Rattle.tmf_model.specs.declared.config.Volume.{Volume}
use Rattle.trail_files.specs.StandsFor.{Base}
use Rattle.run_outcomes.specs.Devices.{DumpRests, IsUntouched, dump_device, part_of_device, told_in}
use Rattle.run_outcomes.specs.Ends.{is_failure}
use Rattle.run_outcomes.specs.Found.{ToldBase, ToldDump}
use Rattle.run_outcomes.specs.Run.{RoseBy}
use Rattle.run_outcomes.specs.Shows.{ShowsCopy}
use Rattle.run_states.specs.DumpPost.{DumpPostLaw}
use Rattle.run_states.specs.Post.{IsPost}
use Rattle.run_states.specs.Volumes.{AreVolumesNamed}
use Rattle.run_states.proofs.InHistory.{IsFoundStill, disc_in, known_in, part_in}
use Rattle.run_states.proofs.Lists.{get_within, item_there}
use Rattle.run_states.proofs.Lost.{HasTold, has_told}
use Rattle.run_states.proofs.Rises.{rose_by}

-- the part of a volume's dump device
pub part_dump : (number : ℕ) → 1 ≤ number → number ≤ 8 → part_of_device (dump_device number) ≡ dump_part number
part_dump zero some few = absurd (omega (arith, some))
part_dump (suc zero) some few = refl
part_dump (suc (suc zero)) some few = refl
part_dump (suc (suc (suc zero))) some few = refl
part_dump (suc (suc (suc (suc zero)))) some few = refl
part_dump (suc (suc (suc (suc (suc zero))))) some few = refl
part_dump (suc (suc (suc (suc (suc (suc zero)))))) some few = refl
part_dump (suc (suc (suc (suc (suc (suc (suc zero))))))) some few = refl
part_dump (suc (suc (suc (suc (suc (suc (suc (suc zero)))))))) some few = refl
part_dump (suc (suc (suc (suc (suc (suc (suc (suc (suc n))))))))) some few = absurd (omega (arith, few))

dump_failures : (events : List DumpEvent) → length (filter is_failure (map (λ e. OfDump e) events)) ≡ failures events
dump_failures [] = refl
dump_failures (dumped.Copy number file block position ∷ events) = dump_failures events
dump_failures (dumped.Seal number start ∷ events) = dump_failures events
dump_failures (dumped.Sealed number whole ∷ events) = dump_failures events
dump_failures (dumped.Failed by ∷ events) = (let rest = dump_failures events in omega (arith, rest))

-- what a device held that told it
first_is : {D : Type 0} (kind : disk.Ghosts D) (given : Option D) (held : Held) → HasTold kind given held → held_in kind.held given ≡ held
first_is kind None held told = absurd (let is = told.is in cc (is))
first_is {D} kind (Some device) held told =
    let is = told.is in
    let same : device ≡ told.device = cc (is) in
    ap (λ (d : D). kind.held d) same ∙ told.holds

-- what `shown_law` of `online_dump` says
abbrev pub OpeningShown : Type 0
OpeningShown = (part : DumpPart) (disc : DiscPart) (first : Held) (old : Option Base) (found : Option SealedDump) (image : Held) → IsFirstDump part first old found → ShowsOpening part first found image
    → HasAllowedDump part disc old image

abbrev pub OwnShown : Type 0
OwnShown =
    (opening : List PartState) (found : Found) (v : Sight Event) (part : DumpPart) (disc : DiscPart) (entries : List Entry) (old : Option Base) (image : Held) → IsSeenDisc opening found v part disc entries
    → ShowsCopies (Knows node opening v) part (map_of entries) image → HasAllowedDump part disc old image

module _ {D : Type 0} (kind : disk.Ghosts D) (opening : List PartState) (found : Found) (faults : ℕ → ℕ) (premise : ℕ → Type 0) (handed_in : ℕ → Option D) (w : Dumper D)
    (named : AreVolumesNamed kind opening found premise handed_in) (is : IsDumper kind opening found faults premise handed_in w) (file : IsDumpFile w.file)
    (dumps : AreDumpsShown kind (premise (dump_device w.seat.part.number)) (Knows node opening w.seat.sight) (base_found found w.seat.part.number) (first_held kind handed_in w.seat.part.number) w)
    (given : StandsAsGiven kind premise handed_in w) (opening_law : OpeningShown) (own_law : OwnShown) where
  abbrev part : DumpPart
  part = w.seat.part

  abbrev number : ℕ
  number = w.seat.part.number

  abbrev entry : VolumeFound
  entry = is.at.was.entry

  some : 1 ≤ number
  some = is.within.above

  few : number ≤ 8
  few = is.within.below

  -- the disc of its volume in a history
  disc_still : (log : Log) → IsFoundStill found entry (states_after node opening log) number
  disc_still log = subst (λ (o : List PartState). IsFoundStill found entry (states_after node o log) number) (sym named.opens) (disc_in found log number entry some few is.at.was.is)

  shows_opening : (log : Log) (old : Option Base) (image : Held) → ToldDump found.config (told_in kind handed_in) number old → ShowsOpening part (first_held kind handed_in number) w.file.found image
      → HasAllowedDump part (disc_still log).now old image
  shows_opening log old image told shows =
      let held = told.0 in
      let same = first_is kind (handed_in (dump_device number)) held (has_told kind handed_in (dump_device number) held told.1) in
      let first : IsFirstDump part (first_held kind handed_in number) old w.file.found = record {
        had = subst (λ (c : Config). HasDump c number (first_held kind handed_in number) old) (sym is.at.was.config) (subst (λ (h : Held). HasDump found.config number h old) (sym same) told.2.0);
        rests = subst (λ (h : Held). DumpRests h) (sym same) told.2.1;
        is_found = given (named.dumps number old told) shows.none;
        sealed = subst (λ (n : ℕ). IfSome w.file.found (IsSealed n)) is.volume file.found;
      } in
      opening_law part (disc_still log).now (first_held kind handed_in number) old w.file.found image first shows

  shows_own : (log : Log) (old : Option Base) (entries : List Entry) (image : Held) → IsHistory node opening log → IsWholeOf log w.seat.sight → entry.base ≡ Some entries
      → ShowsCopies (Knows node opening w.seat.sight) part (map_of entries) image → HasAllowedDump part (disc_still log).now old image
  shows_own log old entries image history whole base shows =
      let v : Sight Event = record { part = w.seat.sight.part; seen = log } in
      let still = disc_still log in
      own_law opening found v part still.now entries old image
      (record { opens = named.opens; history = history; at = still.at; config = still.config ∙ sym is.at.was.config; told = still.base ∙ base })
      (record {
        label = shows.label;
        own = shows.own;
        contents = shows.contents;
        copies = λ f b position at. let c = shows.copies f b position at in (c.0, (c.1.0, known_in opening log w.seat.sight (Made number position c.1.0) whole history c.1.1, c.1.2));
        spelled = shows.spelled;
      })

  allowed : (log : Log) (old : Option Base) (image : Held) → IsHistory node opening log → IsWholeOf log w.seat.sight → Leaves (kind.held w.file.device) image
      → ToldDump found.config (told_in kind handed_in) number old → (base : Option (List Entry)) → entry.base ≡ base → IsSome base → HasAllowedDump part (disc_still log).now old image
  allowed log old image history whole leaves told None base some_base = absurd (cc (some_base))
  allowed log old image history whole leaves told (Some entries) base some_base =
      let known : base_found found number ≡ Some entries = ap base_in is.at.was.is ∙ base in
      let shown = dumps (named.dumps number old told) image leaves in
      ⊎_elim
      (λ (h : ShowsOpening part (first_held kind handed_in number) w.file.found image). shows_opening log old image told h)
      (λ (h : ShowsCopies (Knows node opening w.seat.sight) part (map_of entries) image). shows_own log old entries image history whole base h)
      (subst
      (λ (o : Option (List Entry)). ToldBy o (λ records. ShowsOpening part (first_held kind handed_in number) w.file.found image ⊎ ShowsCopies (Knows node opening w.seat.sight) part records image))
      known shown)

  shows_copy : (log : Log) (base old : Option Base) (image : Held) → IsHistory node opening log → IsWholeOf log w.seat.sight → Leaves (kind.held w.file.device) image
      → ToldBase found.config (told_in kind handed_in) number base → ToldDump found.config (told_in kind handed_in) number old
      → ShowsCopy found.config (told_in kind handed_in) (states_after node opening log) image number old
  shows_copy log base old image history whole leaves told_base told =
      let based = named.based number entry base is.at.was.is told_base in
      let h = allowed log old image history whole leaves told entry.base refl based.1 in
      let still = disc_still log in (
        h.0,
        subst (λ (c : Config). HasDump c number image h.0) is.at.was.config h.1,
        (Disc still.now, still.at, (Dump part, part_in opening log w.seat.sight (dump_part number) (Dump part) whole is.at.seat is.at.at, h.2)),
      )

  touched : IsUntouched found.config (dump_device number) → ⊥
  touched untouched =
      let declared = (named.declared number entry is.at.was.is).below in
      let line = item_there found.config.volumes (number - 1) (omega (arith, some, declared)) in
      untouched.dump number line.0 (some, line.1) refl

  volume_few : (other : ℕ) (line : Volume) → IsNumber found.config.volumes other line → other ≤ 8
  volume_few other line is_line =
      let within = get_within found.config.volumes (other - 1) line is_line.1 in
      let one = is_line.0 in
      let most = is.valid.volumes.few in
      omega (arith, within, one, most)

  pub dump_post : IsPost kind opening found faults handed_in (dump_device number) w.file.device w.seat.sight
  dump_post = record {
    few = omega (arith, few);
    part = is.at.seat ∙ ap (λ (p : ℕ). Some p) (sym (part_dump number some few));
    state = Dump part;
    at = is.at.at;
    later = is.device;
    untouched = λ untouched. absurd (touched untouched);
    rise = subst (λ (n : ℕ). RoseBy n (faults (dump_device number)) (kind.faults w.file.device)) (sym (dump_failures part.events))
        (rose_by (failures part.events) (faults (dump_device number)) (kind.faults w.file.device) is.rise);
    shown = λ log history whole image leaves. record {
      monitor = λ list first told. absurd (omega (arith, first));
      trail = λ old one within told. absurd (let most = is.valid.trails.few in omega (arith, within, most));
      volume = λ other line base is_line at told. absurd (let most = volume_few other line is_line in omega (arith, at, most, some));
      dump = λ other line base old is_line at told told_dump.
          let same : number ≡ other = omega (arith, at) in
          subst (λ (n : ℕ). ShowsCopy found.config (told_in kind handed_in) (states_after node opening log) image n old) same
          (shows_copy log base old image history whole leaves (subst (λ (n : ℕ). ToldBase found.config (told_in kind handed_in) n base) (sym same) told)
          (subst (λ (n : ℕ). ToldDump found.config (told_in kind handed_in) n old) (sym same) told_dump));
    };
  }

pub dump_post_law : {D : Type 0} (kind : disk.Ghosts D) (opening : List PartState) (found : Found) (faults : ℕ → ℕ) (premise : ℕ → Type 0) (handed_in : ℕ → Option D) → OpeningShown → OwnShown
    → DumpPostLaw kind opening found faults premise handed_in
dump_post_law kind opening found faults premise handed_in opening_law own_law =
    λ w named is file dumps given. dump_post kind opening found faults premise handed_in w named is file dumps given opening_law own_law

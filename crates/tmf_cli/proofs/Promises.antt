-- The promise of a call, by the status with which it ended.
use Rattle.std.specs.Prelude.{drop, fold, take, if◌then◌else◌}
use Rattle.std.specs.List.{AllByRecursion}
use Rattle.std.proofs.Common.{true, false, ◌≡◌, ◌≢◌, ◌++◌, ◌∷◌, [], ℕ, List, Option, Some, None, refl, sym, ap, subst, ◌∙◌, inl, inr, arith}
use Rattle.std.proofs.lemmas.List.{append_assoc, append-nil, take-append-drop}
use Rattle.std.proofs.lemmas.List.Sums.{fold-append}
use Rattle.disk_model.specs.Held.{Held}
use Rattle.disk_model.specs.declared.fuse.Fuse.{Fuse}
use Rattle.tmf_model.specs.declared.config.Config.{Config}
use Rattle.tmf_model.specs.declared.script.Action.{Action}
use Rattle.tmf_model.specs.declared.script.Script.{Script}
use Rattle.tmf_lines.specs.declared.line.Line.{Line}
use Rattle.tmf_lines.specs.declared.line.Line.TheVariants.{Formatted}
use Rattle.tmf_cli.specs.declared.node.NodeState.{NodeState}
use Rattle.tmf_cli.specs.declared.status.Status.{Status}
use Rattle.tmf_cli.specs.declared.status.Status.TheVariants as status
use Rattle.tmf_cli.specs.Headline.{AllExtend, AreOf, EndsByScript, IsOrigin, KeepsEveryCommit, KnowsList, RunDone, StandBy, is_formatted, since}
use Rattle.tmf_lines.specs.Line.{lines_text}
use Rattle.tmf_cli.specs.Status.{code_of}
use Rattle.tmf_cli.specs.Ending.{EndsIn, EndsWhole, opening}
use Rattle.tmf_cli.specs.OutputLaw.{MayStand, Node, OneOf, Candidate, StandsAs, formatted_candidate}
use Rattle.tmf_cli.specs.Top.{Tells}
use Rattle.tmf_edges.specs.Moves.{AppendsPart}
use Rattle.disk_model.specs.Devices.{AreImages}
use Rattle.tmf_cli.proofs.Headlines.{call_headline, down-knows, front-of, last_headline, same-all}
use Rattle.tmf_lines.proofs.LineTexts.{lines_text-more}

-- WHERE THE LAST LINES BEGIN

abbrev after_line : Option (List Candidate) × List Line → Line → Option (List Candidate) × List Line
after_line before line = if is_formatted line then (Some (formatted_candidate ∷ []), []) else (before.0, before.1 ++ line ∷ [])

since-more : (candidates : Option (List Candidate)) (lines more : List Line) → AllByRecursion (λ line. is_formatted line ≡ false) more → fold after_line (candidates, lines) more ≡ (candidates, lines ++ more)
since-more candidates lines [] none = ap (λ l. (candidates, l)) (sym (append-nil lines))
since-more candidates lines (line ∷ more) none =
    ap (λ b. fold after_line (if b then (Some (formatted_candidate ∷ []), []) else (candidates, lines ++ line ∷ [])) more) none.0
    ∙ since-more candidates (lines ++ line ∷ []) more none.1 ∙ ap (λ l. (candidates, l)) (append_assoc lines (line ∷ []) more)

-- so where the lines end with a part behind a whole format, or have none
since-origin : (config : Config) (actions : List Action) (before after : Node) (lines : List Line) (ends : EndsByScript config actions before after lines) → after.state.formatted ≡ true
    → since before.candidates lines ≡ (ends.origin.candidates, ends.later)
since-origin config actions before after lines ends formatted = ap (since before.candidates) ends.parts ∙ of-origin ends.origin ends.earlier ends.later ends.unformatted (sym ends.formatted ∙ formatted) ends.is_origin
  where
    of-origin : (origin : Node) (earlier later : List Line) → AllByRecursion (λ line. is_formatted line ≡ false) later → origin.state.formatted ≡ true → IsOrigin before earlier origin
        → since before.candidates (earlier ++ later) ≡ (origin.candidates, later)
    of-origin origin earlier later none formatted (inl (is, empty)) =
        ap (λ e. since before.candidates (e ++ later)) empty ∙ since-more before.candidates [] later none ∙ ap (λ (o : Node). (o.candidates, later)) (sym is)
    of-origin origin earlier later none formatted (inr (inl (is, front, whole))) =
        fold-append after_line (before.candidates, []) earlier later
        ∙ ap (λ b. fold after_line b later) (ap (λ e. fold after_line (before.candidates, []) e) whole ∙ fold-append after_line (before.candidates, []) front (Formatted ∷ []))
        ∙ since-more (Some (formatted_candidate ∷ [])) [] later none ∙ ap (λ (o : Node). (o.candidates, later)) (sym is)
    of-origin origin earlier later none formatted (inr (inr unknown)) = absurd (cc (sym unknown.1 ∙ formatted))

-- WHAT THE IMAGES STAND FOR

one-of : {T : Type 0} (P : T → Type 0) (xs : List T) → OneOf P xs → (x : T) × OneOf (λ o. o ≡ x) xs × P x
one-of P [] one = absurd one
one-of P (x ∷ xs) (inl here) = (x, inl refl, here)
one-of P (x ∷ xs) (inr one) = let found = one-of P xs one in (found.0, inr found.1, found.2)

module _ {D : Type 0} (held : D → Held) (faults : D → ℕ) (config : Config) where
  stand-by : (runs : List RunDone) (lines : List Line) (old new : NodeState) (devices : List (Fuse D)) (candidates after : Option (List Candidate)) → AllExtend config runs lines old new candidates after → MayStand held config devices after
      → (images : ℕ → Held) → AreImages held devices images → StandBy config runs (candidates, lines) images
  stand-by runs lines old new devices None after all stands images left = tt
  stand-by runs lines old new devices (Some before) after (others, is, each) stands images left =
      let found = one-of (StandsAs config images) others (subst (MayStand held config devices) is stands images left) in
      let from = each found.0 found.1 in
      (from.0, found.0, _, _, from.1, found.2, from.2)

  pub keeps-so : (actions : List Action) (before after : Node) (lines : List Line) (new : List (Fuse D)) (ends : EndsByScript config actions before after lines) → MayStand held config new after.candidates → after.state.formatted ≡ true
      → (images : ℕ → Held) → AreImages held new images → StandBy config ends.runs (since before.candidates lines) images
  keeps-so actions before after lines new ends stands formatted images left =
      subst (λ from. StandBy config ends.runs from images) (sym (since-origin config actions before after lines ends formatted))
      (stand-by ends.runs ends.later ends.origin.state after.state new ends.origin.candidates after.candidates ends.extends stands images left)

-- HOW THE CALL ENDED

-- a part of bytes from their front on
part-given : (before after bytes : List ℕ) → AppendsPart before after bytes → (text rest : List ℕ) × (after ≡ before ++ text) × (bytes ≡ text ++ rest)
part-given before after bytes part = (take part.count bytes, drop part.count bytes, part.appended, sym (take-append-drop part.count bytes))

-- what was given of the lines of the first actions and of those of the last one
behind-given : (before after : List ℕ) (lines more : List Line) → (text rest : List ℕ) × (after ≡ (before ++ lines_text lines) ++ text) × (lines_text more ≡ text ++ rest)
    → (text rest : List ℕ) × (after ≡ before ++ text) × (lines_text (lines ++ more) ≡ text ++ rest)
behind-given before after lines more (text, rest, given, is) = (
  lines_text lines ++ text,
  rest,
  given ∙ append_assoc before (lines_text lines) text,
  lines_text-more lines more ∙ ap (λ t. lines_text lines ++ t) is ∙ sym (append_assoc (lines_text lines) text rest),
)

module _ {D : Type 0} (held : D → Held) (faults : D → ℕ) (script : Script) (candidates : Option (List Candidate)) (old new : List (Fuse D)) (sink : Type 0) (before after : List ℕ) where
  abbrev IsPromised : ℕ → Type 0
  IsPromised code = KeepsEveryCommit held faults script candidates code old new sink before after

  pub knows-opening : KnowsList (opening candidates).state candidates
  knows-opening = down-knows (opening candidates).state candidates refl

  -- all actions have their lines
  abbrev pub promised-whole : EndsWhole held faults script.config (opening candidates) script.actions old new sink before after → IsPromised 0
  promised-whole whole =
      let ends = call_headline held faults script.config script.actions (opening candidates) whole.left old new whole.lines knows-opening whole.told in
      record {
        lines = whole.lines;
        left = whole.left;
        went = inl whole.told;
        given = λ tells. (lines_text whole.lines, [], whole.given tells, sym (append-nil (lines_text whole.lines)), λ all. refl);
        runs = ends.runs;
        of_script = ends.of_script;
        keeps = keeps-so held faults script.config script.actions (opening candidates) whole.left whole.lines new ends whole.stands;
      }

  -- nothing was begun
  promised-nothing : (code : ℕ) → code ≢ 0 → MayStand held script.config old candidates → new ≡ old → (sink → after ≡ before) → IsPromised code
  promised-nothing code other stands same given =
      let ends : EndsByScript script.config [] (opening candidates) (opening candidates) [] = nothing in
      record {
        lines = [];
        left = opening candidates;
        went = inr (inr (refl, refl, same));
        given = λ tells. ([], [], given tells ∙ sym (append-nil before), refl, λ all. absurd (other all));
        runs = [];
        of_script = tt;
        keeps = keeps-so held faults script.config [] (opening candidates) (opening candidates) [] new ends (subst (λ devices. MayStand held script.config devices candidates) (sym same) stands);
      }
    where
      nothing : EndsByScript script.config [] (opening candidates) (opening candidates) []
      nothing = record {
        origin = opening candidates;
        earlier = [];
        later = [];
        parts = refl;
        is_origin = inl (refl, refl);
        unformatted = tt;
        formatted = refl;
        runs = [];
        of_script = tt;
        extends = same-all script.config [] (opening candidates).state (opening candidates).state candidates tt (λ list. omega arith);
        knows = knows-opening;
      }

  -- the script ended in an action
  promised-in : (code : ℕ) → code ≢ 0 → (ends : EndsIn held faults script.config (opening candidates) script.actions old new)
      → (sink → (text rest : List ℕ) × (after ≡ (before ++ lines_text ends.reaches.lines) ++ text) × (lines_text ends.more ≡ text ++ rest)) → IsPromised code
  promised-in code other ends given =
      let at = ends.reaches in
      let whole = last_headline held faults script.config at.done at.action (opening candidates) at.middle ends.left old at.between new at.lines ends.more knows-opening at.told ends.begun in
      record {
        lines = at.lines ++ ends.more;
        left = ends.left;
        went = inr (inl (ends, (refl, refl)));
        given = λ tells. let front = behind-given before after at.lines ends.more (given tells) in (front.0, front.1, front.2, front.3, λ all. absurd (other all));
        runs = whole.runs;
        of_script = subst (λ actions. AreOf actions whole.runs) (append_assoc at.done (at.action ∷ []) at.rest ∙ sym at.parts)
            (front-of held faults script.config (at.done ++ at.action ∷ []) at.rest whole.runs whole.of_script);
        keeps = keeps-so held faults script.config (at.done ++ at.action ∷ []) (opening candidates) ends.left (at.lines ++ ends.more) new whole ends.stands;
      }

  -- The promise.
  pub promised : MayStand held script.config old candidates → (how : Status) → Tells held faults script candidates how old new sink before after → IsPromised (code_of how)
  promised stands status.Done told = promised-whole told
  promised stands status.Usage told = absurd told
  promised stands status.NoMemory (inl nothing) = promised-nothing 2 (λ done. omega (arith, done)) stands nothing.0 nothing.1
  promised stands status.NoMemory (inr so_far) =
      promised-in 2 (λ done. omega (arith, done)) so_far.ends (λ tells. ([], lines_text so_far.ends.more, so_far.given tells ∙ sym (append-nil (before ++ lines_text so_far.ends.reaches.lines)), refl))
  promised stands status.SourceFailed nothing = promised-nothing 3 (λ done. omega (arith, done)) stands nothing.0 nothing.1
  promised stands status.SinkFailed part =
      promised-in 4 (λ done. omega (arith, done)) part.ends (λ tells. part-given (before ++ lines_text part.ends.reaches.lines) after (lines_text part.ends.more) (part.given tells))
  promised stands status.Refused told = absurd told

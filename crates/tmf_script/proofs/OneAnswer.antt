-- Each text has an answer, and it depends on its sentences alone.
use Rattle.std.proofs.Common.{◌≡◌, ◌⊎◌, inl, inr, ℕ, ◌+◌, ◌≤◌, ◌<◌, Bool, true, false, List, [], ◌∷◌, ◌++◌, length, take, drop, Result, Ok, Err, IsTrue, refl, sym, ◌∙◌, ap, subst, arith}
use Rattle.std.specs.Prelude.{if◌then◌else◌}
use Rattle.std.specs.List.{AllByRecursion}
use Rattle.std.proofs.lemmas.Bool.{cases_lt}
use Rattle.std.proofs.lemmas.List.{append_assoc, take-append-drop}
use Rattle.std.proofs.Math.Seq.{take-append-add}
use Rattle.tmf_model.specs.declared.script.Script.{Script}
use Rattle.tmf_script.specs.declared.fault.Why.{Why}
use Rattle.tmf_script.specs.declared.fault.Why.TheVariants.{TooLong, BadByte}
use Rattle.tmf_script.specs.declared.state.State.{State}
use Rattle.tmf_script.specs.Checks.{◌>>=◌, check}
use Rattle.tmf_script.specs.Reading.{most_bytes, is_comment, after_words, after_sentence, after_line, after_end, Leads, IsTextOf, long_line, FailsAtLine, IsRefused}
use Rattle.tmf_script.specs.Sentences.{said_before, sentences_of, IsPlain, SaysTheSame}
use Rattle.tmf_script.specs.State.{start}
use Rattle.tmf_script.specs.Text.{is_printable, lines_of, words_of}
use Rattle.tmf_script.proofs.Readings.{Answer, at_line, and_then, answer_of, answer_of-text, answer_of-line, answer_of-end}

-- what the lines from this state on come to
abbrev Script_ : State → List (List ℕ) → Script → Type 0
Script_ state lines script = (last : State) × Leads state lines last × (after_end last ≡ Ok script)

-- the first line that is refused, with those before it; or the end
record Stops (state : State) (lines : List (List ℕ)) (why : Why) : Type 0 where
  before : List (List ℕ)
  line : List ℕ
  behind : List (List ℕ)
  cut : lines ≡ before ++ line ∷ behind
  mid : State
  leads : Leads state before mid
  fails : after_line mid line ≡ Err why

abbrev Ends : State → List (List ℕ) → Why → Type 0
Ends state lines why = (last : State) × Leads state lines last × (after_end last ≡ Err why)

-- one of the three
data Fate (state : State) (lines : List (List ℕ)) : Type 0 where
  reads : (script : Script) → Script_ state lines script → Fate state lines
  stops : (why : Why) → Stops state lines why → Fate state lines
  ends : (why : Why) → Ends state lines why → Fate state lines

stops_later : (state next : State) (line : List ℕ) (lines : List (List ℕ)) → after_line state line ≡ Ok next → (why : Why) → Stops next lines why → Stops state (line ∷ lines) why
stops_later state next line lines here why stop = record {
  before = line ∷ stop.before;
  line = stop.line;
  behind = stop.behind;
  cut = ap (λ ls. line ∷ ls) stop.cut;
  mid = stop.mid;
  leads = (next, here, stop.leads);
  fails = stop.fails;
}

later : (state next : State) (line : List ℕ) (lines : List (List ℕ)) → after_line state line ≡ Ok next → Fate next lines → Fate state (line ∷ lines)
later state next line lines here (reads script (last, leads, whole)) = reads script (last, (next, here, leads), whole)
later state next line lines here (stops why stop) = stops why (stops_later state next line lines here why stop)
later state next line lines here (ends why (last, leads, fails)) = ends why (last, (next, here, leads), fails)

at_end : (state : State) (r : Result Script Why) → after_end state ≡ r → Fate state []
at_end state (Ok script) e = reads script (state, refl, e)
at_end state (Err why) e = ends why (state, refl, e)

at_first : (state : State) (line : List ℕ) (lines : List (List ℕ)) → ((next : State) → Fate next lines) → (r : Result State Why) → after_line state line ≡ r → Fate state (line ∷ lines)
at_first state line lines behind (Ok next) e = later state next line lines e (behind next)
at_first state line lines behind (Err why) e =
    stops why (record { before = []; line = line; behind = lines; cut = refl; mid = state; leads = refl; fails = e })

fate_of : (state : State) (lines : List (List ℕ)) → Fate state lines
fate_of state [] = at_end state (after_end state) refl
fate_of state (line ∷ lines) = at_first state line lines (λ next. fate_of next lines) (after_line state line) refl

abbrev HasAnswer : List ℕ → Type 0
HasAnswer text = ((script : Script) × IsTextOf text script) ⊎ ((line : ℕ) × ((why : Why) × IsRefused text line why))

answered : (text : List ℕ) → length text ≤ most_bytes → Fate start (lines_of text) → HasAnswer text
answered text short (reads script (last, leads, whole)) = inl (script, record { short = short; last = last; lines = leads; whole = whole })
answered text short (stops why stop) = inr (
  length stop.before + 1,
  (
    why,
    inr (inl (record {
      short = short;
      before = stop.before;
      line = stop.line;
      behind = stop.behind;
      lines = stop.cut;
      counted = refl;
      state = stop.mid;
      leads = stop.leads;
      fails = stop.fails;
    })),
  ),
)
answered text short (ends why (last, leads, fails)) =
    inr (length (lines_of text) + 1, (why, inr (inr (record { short = short; last = last; lines = leads; counted = refl; fails = fails }))))

-- each text is a script's, or it is refused
pub has_answer : (text : List ℕ) → HasAnswer text
has_answer text = by_length (cases_lt most_bytes (length text))
  where
    by_length : (most_bytes < length text) ⊎ (length text ≤ most_bytes) → HasAnswer text
    by_length (inr short) = answered text short (fate_of start (lines_of text))
    by_length (inl long) = inr (long_line text, (TooLong, inl (record { long = long; line = refl; cause = refl })))

-- what the sentences come to, without the numbers of lines
unfoldable pub said : State → List (List (List ℕ)) → Result Script Why
said state [] = after_end state
said state ([] ∷ sentences) = said state sentences
said state ((first ∷ words) ∷ sentences) = after_words state first words >>= (λ next. said next sentences)

abbrev reason : Answer Script → Result Script Why
reason (Ok script) = Ok script
reason (Err fault) = Err fault.1

abbrev ArePrintable : List (List ℕ) → Type 0
ArePrintable lines = AllByRecursion (λ line. IsTrue (is_printable line)) lines

-- what a line and the lines behind it come to
reason_line : (state : State) (number : ℕ) (r : Result State Why) (behind : State → Answer Script) (goes : State → Result Script Why)
    → ((next : State) → reason (behind next) ≡ goes next) → reason (and_then (at_line number r) behind) ≡ (r >>= goes)
reason_line state number (Ok next) behind goes same = same next
reason_line state number (Err why) behind goes same = refl

said_line : (state : State) (words : List (List ℕ)) (others : List (List (List ℕ))) → (after_sentence state words >>= (λ next. said next others)) ≡ said state (said_before words others)
unfolding said
said_line state [] others = refl
said_line state (first ∷ words) others = by_test (is_comment first)
  where
    by_test : (b : Bool) → ((if b then Ok state else after_words state first words) >>= (λ next. said next others)) ≡ said state (if b then others else (first ∷ words) ∷ others)
    by_test true = refl
    by_test false = refl

plain_line : (before : State) (text : List ℕ) → IsTrue (is_printable text) → after_line before text ≡ after_sentence before (words_of text)
unfolding after_line
plain_line before text ok = ap (λ b. check BadByte b (after_sentence before (words_of text))) ok

reason_of : (state : State) (number : ℕ) (lines : List (List ℕ)) → ArePrintable lines → reason (answer_of state number lines) ≡ said state (sentences_of lines)
unfolding answer_of said
reason_of state number [] printable = by_end (after_end state)
  where
    by_end : (r : Result Script Why) → reason (at_line number r) ≡ r
    by_end (Ok script) = refl
    by_end (Err why) = refl
reason_of state number (line ∷ lines) printable =
    reason_line state number (after_line state line) (λ next. answer_of next (number + 1) lines) (λ next. said next (sentences_of lines))
    (λ next. reason_of next (number + 1) lines printable.1)
    ∙ ap (λ r. r >>= (λ next. said next (sentences_of lines))) (plain_line state line printable.0)
    ∙ said_line state (words_of line) (sentences_of lines)

pub answer_text : (text : List ℕ) → IsPlain text → reason (answer_of start 1 (lines_of text)) ≡ said start (sentences_of (lines_of text))
answer_text text plain = reason_of start 1 (lines_of text) plain.printable

same_said : (text other : List ℕ) → SaysTheSame text other → reason (answer_of start 1 (lines_of text)) ≡ reason (answer_of start 1 (lines_of other))
same_said text other says =
    answer_text text says.plain ∙ ap (said start) says.same ∙ sym (answer_text other says.other_plain)

not_long : (text : List ℕ) (line : ℕ) (why : Why) → IsPlain text → IsRefused text line why → answer_of start 1 (lines_of text) ≡ Err (line, why)
not_long text line why plain (inl long) = absurd (omega (arith, long.long, plain.short))
not_long text line why plain (inr (inl fails)) = answer_of-line text line why fails
not_long text line why plain (inr (inr fails)) = answer_of-end text line why fails

-- a text whose sentences come to a script is that script's
pub script_from_said : (text : List ℕ) (script : Script) → IsPlain text → said start (sentences_of (lines_of text)) ≡ Ok script → IsTextOf text script
script_from_said text script plain is = by_answer (has_answer text)
  where
    told : reason (answer_of start 1 (lines_of text)) ≡ Ok script
    told = answer_text text plain ∙ is

    by_answer : HasAnswer text → IsTextOf text script
    by_answer (inl (found, found_is)) =
        let same : ◌≡◌ {A = Result Script Why} (Ok found) (Ok script) = sym (ap reason (answer_of-text text found found_is)) ∙ told in
        let one : found ≡ script = cc in subst (IsTextOf text) one found_is
    by_answer (inr (line, (why, refused))) =
        let same : ◌≡◌ {A = Result Script Why} (Err why) (Ok script) = sym (ap reason (not_long text line why plain refused)) ∙ told in cc

pub same_script : (text other : List ℕ) (script : Script) → SaysTheSame text other → IsTextOf text script → IsTextOf other script
same_script text other script says is =
    script_from_said other script says.other_plain
    (ap (said start) (sym says.same) ∙ sym (answer_text text says.plain) ∙ ap reason (answer_of-text text script is))

pub same_reason : (text other : List ℕ) (line : ℕ) (why : Why) → SaysTheSame text other → IsRefused text line why → (moved : ℕ) × IsRefused other moved why
same_reason text other line why says refused = by_answer (has_answer other)
  where
    told : Err why ≡ reason (answer_of start 1 (lines_of other))
    told = ap reason (sym (not_long text line why says.plain refused)) ∙ same_said text other says

    by_answer : HasAnswer other → (moved : ℕ) × IsRefused other moved why
    by_answer (inl (script, is)) =
        let same : ◌≡◌ {A = Result Script Why} (Err why) (Ok script) = told ∙ ap reason (answer_of-text other script is) in cc
    by_answer (inr (moved, (reason_, there))) =
        let same : ◌≡◌ {A = Result Script Why} (Err why) (Err reason_) = told ∙ ap reason (not_long other moved reason_ says.other_plain there) in
        let one : reason_ ≡ why = cc in (moved, subst (IsRefused other moved) one there)

-- what stands behind a refused line does not mend it
pub not_mended : (text other : List ℕ) (line : ℕ) (why : Why) → FailsAtLine text line why → take line (lines_of other) ≡ take line (lines_of text)
    → length other ≤ most_bytes → FailsAtLine other line why
not_mended text other line why fails same short =
    let front : take line (lines_of text) ≡ fails.before ++ fails.line ∷ [] =
    ap (λ n. take n (lines_of text)) fails.counted ∙ ap (take (length fails.before + 1)) fails.lines ∙ take-append-add fails.before (fails.line ∷ fails.behind) 1 in
    record {
      short = short;
      before = fails.before;
      line = fails.line;
      behind = drop line (lines_of other);
      lines = sym (take-append-drop line (lines_of other)) ∙ ap (λ ls. ls ++ drop line (lines_of other)) (same ∙ front)
          ∙ append_assoc fails.before (fails.line ∷ []) (drop line (lines_of other));
      counted = fails.counted;
      state = fails.state;
      leads = fails.leads;
      fails = fails.fails;
    }

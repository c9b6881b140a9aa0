use Rattle.std.specs.Prelude.{MatchResult, OnOk, Result, Ok, Err}
use Rattle.std.proofs.Common.{Some, ◌∙◌}
use Rattle.online_dump.specs.Filling.{IsUnwritten, next_body, next_sequence}
use Rattle.online_dump.proofs.dumper.write_next.Goals as goal

ok_of : {T E P R : Type 0} (Q : Type 0) (r : Result T E) → (P → R) → MatchResult r (λ _. P) (λ _. Q) → OnOk r R
ok_of Q (Ok x) f h = f h
ok_of Q (Err e) f h = tt

ok_all : {T E P : Type 0} (r : Result T E) → P → OnOk r P
ok_all (Ok x) p = p
ok_all (Err e) p = tt

pub returns-clause-written : goal.returns-clause-written
returns-clause-written g c =
    let same = c.finish_body.ensures.same in
    ok_of (IsUnwritten c.finish_body.new.self c.write_label.new.self) c.write_label.result
    (λ w.
    record {
      volume = w.volume ∙ same.volume;
      found = w.found ∙ same.found;
      next = w.next ∙ (λ i. Some (record { volume = same.volume i; body = next_body (same.found i); start = c.args.start; sequence = next_sequence (same.found i) }));
    })
    c.write_label.ensures.written

pub returns-clause-body : goal.returns-clause-body
returns-clause-body g c = λ text told was.
    let told_mid = c.finish_body.ensures.works.is_later.tells ∙ told in
    let there = c.in_ok-finish_body.ensures.body text told was in
    let q = next_body c.args.file.now.found in
    ok_all c.write_label.result (there.0, c.write_label.ensures.others told_mid q c.lawful.ensures.behind_label ∙ there.1, there.2)

pub returns-clause-others : goal.returns-clause-others
returns-clause-others g c = λ q told apart other. c.write_label.ensures.others (c.finish_body.ensures.works.is_later.tells ∙ told) q apart ∙ c.finish_body.ensures.others told q other

pub returns-in_err-finish_body-clause-others : goal.returns-in_err-finish_body-clause-others
returns-in_err-finish_body-clause-others g c = λ q told apart other. c.finish_body.ensures.others told q other

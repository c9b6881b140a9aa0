use Rattle.std.proofs.Common.{inl, refl, arith}
use Rattle.tmf_script.specs.Reading.{IsRefused, IsCause, IsTextOf}
use Rattle.tmf_script.proofs.Readings.{read_more, fails_at_end, reads_script, not_both, only_script, only_refused, refused_same, cause_at_line}
use Rattle.tmf_script.proofs.Validity.{small_after, valid_text}
use Rattle.tmf_script.specs.declared.fault.ParseError.TheVariants as errors
use Rattle.tmf_script.specs.declared.fault.Why.TheVariants.{TooLong}
use Rattle.tmf_script.specs.Checks.{fault_at}
use Rattle.tmf_script.proofs.reader.parse.Goals as goal

pub returns-then-bytes-gt-MOST_BYTES : goal.returns-then-bytes-gt-MOST_BYTES
returns-then-bytes-gt-MOST_BYTES c =
    let text = c.args.bytes.now in
    let is : IsRefused text c.line_of_limit.result TooLong = inl (record { long = c.if-bytes-gt-MOST_BYTES.true; line = c.line_of_limit.ensures; cause = refl }) in
    record {
      found = tt;
      valid = tt;
      only = only_refused text (errors.Refusal c.line_of_limit.result TooLong) is;
      cause = is;
      refused = refused_same text (errors.Refusal c.line_of_limit.result TooLong) is;
    }

pub read_line-requires : goal.read_line-requires
read_line-requires c = small_after c.loop-next.invariant.has_read.before c.loop-next.state c.loop-next.invariant.has_read.leads

pub loop-next-preserved : goal.loop-next-preserved
loop-next-preserved c = record {
  has_read = read_more c.args.bytes.now c.loop-next.rest.now c.loop-next.state c.loop-next.line c.loop-next.invariant.has_read
      c.in-Some.next.now c.in-Some.after.now c.read_line.new.self c.in-Some.ensures.line c.in-Ok.ensures;
  few = omega (arith, c.in-Some.ensures.shorter);
}

pub returns-in-Err : goal.returns-in-Err
returns-in-Err c =
    let text = c.args.bytes.now in
    let error = fault_at c.loop-next.line c.in-Err.error in
    let is : IsCause text error =
    cause_at_line text c.loop-next.rest.now c.loop-next.state c.loop-next.line c.if-bytes-gt-MOST_BYTES.false c.loop-next.invariant.has_read
    c.in-Some.next.now c.in-Some.after.now c.in-Some.ensures.line c.in-Err.error c.in-Err.ensures in
    rw c.at.ensures (record {
      found = tt;
      valid = tt;
      only = only_refused text error is;
      cause = is;
      refused = refused_same text error is;
    })

pub returns-in-Ok-end : goal.returns-in-Ok-end
returns-in-Ok-end c =
    let text = c.args.bytes.now in
    let is : IsTextOf text c.in-Ok-end.script =
    reads_script text c.loop-next.rest.now c.loop-next.state c.loop-next.line c.if-bytes-gt-MOST_BYTES.false c.loop-next.invariant.has_read
    c.in_default.ensures.line c.in-Ok-end.script c.in-Ok-end.ensures in
    record {
      found = is;
      valid = valid_text text c.in-Ok-end.script is;
      only = only_script text c.in-Ok-end.script is;
      cause = tt;
      refused = λ number why refused. not_both text c.in-Ok-end.script number why is refused;
    }

pub returns-in-Err-end : goal.returns-in-Err-end
returns-in-Err-end c =
    let text = c.args.bytes.now in
    let is : IsRefused text c.loop-next.line c.in-Err-end.why =
    fails_at_end text c.loop-next.rest.now c.loop-next.state c.loop-next.line c.if-bytes-gt-MOST_BYTES.false c.loop-next.invariant.has_read
    c.in_default.ensures.line c.in-Err-end.why c.in-Err-end.ensures in
    record {
      found = tt;
      valid = tt;
      only = only_refused text (errors.Refusal c.loop-next.line c.in-Err-end.why) is;
      cause = is;
      refused = refused_same text (errors.Refusal c.loop-next.line c.in-Err-end.why) is;
    }

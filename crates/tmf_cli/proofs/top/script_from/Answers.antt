use Rattle.std.specs.Prelude.{take, vec_len}
use Rattle.std.proofs.Common.{rules, refl, sym, subst, ◌∙◌, ⊎_elim}
use Rattle.tmf_lines.specs.Script.{IsRefusalOf, IsScriptOf}
use Rattle.tmf_cli.specs.Top.{IsUnreadCaused, read_limit}
use Rattle.tmf_cli.proofs.Sources.{read-whole}
use Rattle.tmf_cli.proofs.top.script_from.Goals as goal

pub returns-in-Ok-read_script-clause-read : goal.returns-in-Ok-read_script-clause-read
returns-in-Ok-read_script-clause-read g c = record {
  valid = c.in-Ok-read_script.ensures.valid;
  of_text = λ tells. subst (IsScriptOf c.in-Ok-read_script.script) (c.deref.ensures.value ∙ c.in-Ok.ensures.told tells) c.in-Ok-read_script.ensures.found;
  only = λ tells script is. c.in-Ok-read_script.ensures.only script (subst (IsScriptOf script) (sym (c.deref.ensures.value ∙ c.in-Ok.ensures.told tells)) is);
  taken = λ tells. read-whole read_limit (vec_len c.in-Ok.text) c.in-Ok.text.items (g.S.Source.rest c.args.source.now) (g.S.Source.rest c.read_to_limit.new.source) (search rules) (c.in-Ok.ensures.told tells) (c.in-Ok.ensures.rest tells);
  silent = λ told. refl;
}

pub returns-clause-read : goal.returns-clause-read
returns-clause-read g c = record {
  cause = ⊎_elim (λ e. subst (λ s. IsUnreadCaused s (g.S.Source.faults c.args.source.now) (g.S.Source.faults c.read_to_limit.new.source)) (sym e) tt)
      (λ e. subst (λ s. IsUnreadCaused s (g.S.Source.faults c.args.source.now) (g.S.Source.faults c.read_to_limit.new.source)) (sym e) tt) c.refuse.ensures.status;
  unrefused = λ tells script is refused.
      let lacked = c.refuse.ensures.none (c.in-Err.ensures.only script (subst (IsScriptOf script) (sym (c.deref.ensures.value ∙ c.in-Ok.ensures.told tells)) is)) in
      absurd (cc);
  taken = λ tells refused. read-whole read_limit (vec_len c.in-Ok.text) c.in-Ok.text.items (g.S.Source.rest c.args.source.now) (g.S.Source.rest c.read_to_limit.new.source) (search rules) (c.in-Ok.ensures.told tells) (c.in-Ok.ensures.rest tells);
  refused = λ tells told refused.
      c.refuse.ensures.told (take read_limit (g.S.Source.rest c.args.source.now)) (subst (λ text. IsRefusalOf text c.in-Err.refusal) (c.deref.ensures.value ∙ c.in-Ok.ensures.told tells) c.in-Err.ensures.cause) told refused;
  silent = λ told unrefused. c.refuse.ensures.silent told (⊎_elim (λ refused. absurd (unrefused refused)) (λ lacked. lacked) c.refuse.ensures.status);
}

pub returns-clause-keeps_source : goal.returns-clause-keeps_source
returns-clause-keeps_source g c = record {
  tells = c.read_to_limit.ensures.tells;
  later = c.read_to_limit.ensures.later;
  front = λ tells. record { count = vec_len c.in-Ok.text; small = c.in-Ok.ensures.within; rest = c.in-Ok.ensures.rest tells };
}

use Rattle.cq_words.proofs.Terms.{common_steps, arith, ◌≡◌, ◌∙◌, ap, IfOk-weaker, App, app_of, bare_line, with_form}
use Rattle.cq_words.specs.Line.{config_forms, part_form, pass_form, resume_form, soak_form}
use Rattle.cq_words.proofs.split.line.Goals as goal

pub returns : goal.returns
returns c =
    let bare : app_of c.disable_help_subcommand-line.result ≡ bare_line = grind (arith, common_steps) in
    let pass = c.in_ok-line.ensures ∙ ap (λ (l : App). with_form l pass_form) bare in
    let configs = c.in_ok-line-2.ensures ∙ ap config_forms pass in
    let soak = c.in_ok-line-3.ensures ∙ ap (λ (l : App). with_form l soak_form) configs in
    let part = c.in_ok-line-4.ensures ∙ ap (λ (l : App). with_form l part_form) soak in
    IfOk-weaker c.with_two-2.result _ _ (λ r h. h ∙ ap (λ (l : App). with_form l resume_form) part) c.with_two-2.ensures

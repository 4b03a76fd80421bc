use Rattle.cq_tables.proofs.Terms.{arith, ◌≡◌, ℕ, List, ◌∷◌, ◌++◌, None, Result, IfErr, ap, sym, ◌∙◌, length, rules, Members, table_view, Top, TableRefusal, Check, Refuses, first, classes_in, default_checks, default_checks_of, figure_keys, figures_of, ports_in, checks_of}
use Rattle.cq_tables.specs.declared.figures.Figures.{Figures}
use Rattle.cq_tables.proofs.Checks.{all_in, first_all, here, here_in, later, later_in}
use Rattle.cq_tables.proofs.read.tables_in.Goals as goal

-- where the keys, the figures and the files hold, the next checks decide
past_files : {A : Type 0} (r : Result A TableRefusal) (keys trace log : Check) (figures cs : List Check) → keys ≡ None →
    first figures ≡ None → trace ≡ None → log ≡ None → IfErr r (Refuses (first cs)) →
    IfErr r (Refuses (first (keys ∷ (figures ++ (trace ∷ log ∷ cs)))))
past_files r keys trace log figures cs k f t l told = search (arith, rules, later, later_in)

-- the checks of the defaults are those of the figures that were read and of what was counted
defaults_are : (top : Members) (figures : Figures) (ports classes : ℕ) → figures ≡ figures_of top → ports ≡ ports_in top
    → classes ≡ classes_in top → default_checks_of figures ports classes ≡ default_checks top
defaults_are top figures ports classes read counted classed = rw (read, counted, classed)

pub returns-in_err-only-clause-refused : goal.returns-in_err-only-clause-refused
returns-in_err-only-clause-refused c =
    let told = c.in_err-only.ensures {u = tt} in here _ _ _ (search (rules, told.refused))

pub returns-in_err-figures-clause-refused : goal.returns-in_err-figures-clause-refused
returns-in_err-figures-clause-refused c = later _ _ _ c.in_ok-only.ensures.held
    (here_in _ (checks_of (table_view c.args.top.now) (figure_keys Top)) _ (search rules))

pub returns-in_err-trace-clause-refused : goal.returns-in_err-trace-clause-refused
returns-in_err-trace-clause-refused c =
    later _ _ _ c.in_ok-only.ensures.held (later_in _ (checks_of (table_view c.args.top.now) (figure_keys Top)) _
    c.in_ok-figures.ensures.held (here _ _ _ (search rules)))

pub returns-in_err-log-clause-refused : goal.returns-in_err-log-clause-refused
returns-in_err-log-clause-refused c =
    later _ _ _ c.in_ok-only.ensures.held (later_in _ (checks_of (table_view c.args.top.now) (figure_keys Top)) _
    c.in_ok-figures.ensures.held (later _ _ _ c.in_ok-trace.ensures.held (here _ _ _ (search rules))))

pub returns-in_err-class_rows-clause-refused : goal.returns-in_err-class_rows-clause-refused
returns-in_err-class_rows-clause-refused c =
    past_files _ _ _ _ (checks_of (table_view c.args.top.now) (figure_keys Top)) _ c.in_ok-only.ensures.held
    c.in_ok-figures.ensures.held c.in_ok-trace.ensures.held c.in_ok-log.ensures.held (here _ _ _ (search rules))

pub returns-in_err-port_rows-clause-refused : goal.returns-in_err-port_rows-clause-refused
returns-in_err-port_rows-clause-refused c =
    past_files _ _ _ _ (checks_of (table_view c.args.top.now) (figure_keys Top)) _ c.in_ok-only.ensures.held
    c.in_ok-figures.ensures.held c.in_ok-trace.ensures.held c.in_ok-log.ensures.held
    (later _ _ _ c.in_ok-class_rows.ensures.held (here _ _ _ (search rules)))

pub returns-in_err-address_rows-clause-refused : goal.returns-in_err-address_rows-clause-refused
returns-in_err-address_rows-clause-refused c =
    past_files _ _ _ _ (checks_of (table_view c.args.top.now) (figure_keys Top)) _ c.in_ok-only.ensures.held
    c.in_ok-figures.ensures.held c.in_ok-trace.ensures.held c.in_ok-log.ensures.held (later _ _ _
    c.in_ok-class_rows.ensures.held (later _ _ _ c.in_ok-port_rows.ensures.held (here _ _ _ (search rules))))

pub returns-in_err-rule_rows-clause-refused : goal.returns-in_err-rule_rows-clause-refused
returns-in_err-rule_rows-clause-refused c =
    past_files _ _ _ _ (checks_of (table_view c.args.top.now) (figure_keys Top)) _ c.in_ok-only.ensures.held
    c.in_ok-figures.ensures.held c.in_ok-trace.ensures.held c.in_ok-log.ensures.held
    (later _ _ _ c.in_ok-class_rows.ensures.held (later _ _ _ c.in_ok-port_rows.ensures.held
    (later _ _ _ c.in_ok-address_rows.ensures.held (here _ _ _ (search rules)))))

pub returns-in_err-defaults_are_there-clause-refused : goal.returns-in_err-defaults_are_there-clause-refused
returns-in_err-defaults_are_there-clause-refused c =
    let told = c.in_err-defaults_are_there.ensures {u = tt} in
    let raw : IfErr c.from_residual-in_err-defaults_are_there.result (Refuses (first (default_checks_of
    c.in_ok-figures.figures (length c.in_ok-port_rows.port_rows.files.items)
    (length c.in_ok-class_rows.class_rows.items)))) = search (rules, told.refused) in
    past_files _ _ _ _ (checks_of (table_view c.args.top.now) (figure_keys Top)) _ c.in_ok-only.ensures.held
    c.in_ok-figures.ensures.held c.in_ok-trace.ensures.held c.in_ok-log.ensures.held
    (later _ _ _ c.in_ok-class_rows.ensures.held (later _ _ _ c.in_ok-port_rows.ensures.held
    (later _ _ _ c.in_ok-address_rows.ensures.held (later _ _ _ c.in_ok-rule_rows.ensures.held
    (rw (defaults_are (table_view c.args.top.now) _ _ _ c.in_ok-figures.ensures.value
    c.in_ok-port_rows.ensures.value.count (ap length c.in_ok-class_rows.ensures.value)) at raw)))))

pub returns-clause-held : goal.returns-clause-held
returns-clause-held c =
    let defaults = defaults_are (table_view c.args.top.now) c.in_ok-figures.figures
    (length c.in_ok-port_rows.port_rows.files.items) (length c.in_ok-class_rows.class_rows.items)
    c.in_ok-figures.ensures.value c.in_ok-port_rows.ensures.value.count (ap length c.in_ok-class_rows.ensures.value) in
    first_all _ _ c.in_ok-only.ensures.held (all_in (checks_of (table_view c.args.top.now) (figure_keys Top)) _
    c.in_ok-figures.ensures.held (first_all _ _ c.in_ok-trace.ensures.held (first_all _ _
    c.in_ok-log.ensures.held (first_all _ _ c.in_ok-class_rows.ensures.held
    (first_all _ _ c.in_ok-port_rows.ensures.held (first_all _ _ c.in_ok-address_rows.ensures.held
    (first_all _ _ c.in_ok-rule_rows.ensures.held (ap first (sym defaults) ∙ search rules))))))))

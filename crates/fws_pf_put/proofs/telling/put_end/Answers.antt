use Rattle.std.proofs.Common.{Some, sym, ap, ◌∙◌}
use Rattle.fws_tree.specs.OutcomeEquality.{end_exact}
use Rattle.fws_pf_put.proofs.telling.put_end.Goals as goal

pub returns-clause-there : goal.returns-clause-there
returns-clause-there c =
    let stored = c.in_ok-insert_full.ensures.stored in
    (c.in_ok-insert_full.field-0.0, stored.1 ∙ ap Some (sym (end_exact c.args.end stored.0 stored.2)))

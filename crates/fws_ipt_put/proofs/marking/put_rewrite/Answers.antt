use Rattle.std.proofs.Common.{Some, sym, ap, ◌∙◌}
use Rattle.fws_ipt_put.proofs.Written.{same_rewrites}
use Rattle.fws_ipt_put.proofs.marking.put_rewrite.Goals as goal

pub returns-clause-there : goal.returns-clause-there
returns-clause-there c writing =
    let stored = c.in_ok-insert_full.ensures.stored in
    (c.in_ok-insert_full.field-0.0, stored.1 ∙ ap Some (sym (same_rewrites c.args.rewrite stored.0 stored.2)))

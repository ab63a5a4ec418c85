use Rattle.std.proofs.Common.{List, sym, ap, ◌∙◌}
use Rattle.fws_pf.specs.declared.tables.Table.{Table}
use Rattle.fws_pf_words.specs.Reached.{table_at}
use Rattle.fws_pf_words.proofs.Reaching.{own_alone}
use Rattle.fws_pf_words.proofs.tables.lone_table.Goals as goal

pub returns-then-is_alone : goal.returns-then-is_alone
returns-then-is_alone c =
    own_alone c.args.tables.now c.args.name.now _ _ (sym c.in-Some.ensures)
    (c.table_at-table.ensures ∙ ap (λ (ts : List Table). table_at ts c.in-Some.place) c.as_slice.ensures) (c.is_alone.ensures c.if-is_alone.true)

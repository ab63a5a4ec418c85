use Rattle.std.proofs.Common.{◌++◌, ap, ◌∙◌}
use Rattle.fws_net.specs.SiteSpelling.{lines_text}
use Rattle.fws_ipt.specs.declared.config.IptTable.TheVariants.{Filter, Nat, Mangle}
use Rattle.fws_ipt_print.specs.PrintedText.{table_lines}
use Rattle.fws_ipt_print.proofs.LinesPut.{lines_put}
use Rattle.fws_ipt_print.proofs.printing.put_tables.Goals as goal

pub returns : goal.returns
returns c =
    let out = c.args.out.now in
    let site = c.args.site.now in
    let chains = c.args.c.now.chains in
    lines_put out c.put_table-2.new.out _ (table_lines site chains Mangle ++ table_lines site chains Nat) (table_lines site chains Filter)
    (lines_put out c.put_table.new.out _ (table_lines site chains Mangle) (table_lines site chains Nat)
    (c.in_ok-put_table.ensures ∙ ap (λ chains. out ++ lines_text (table_lines site chains Mangle)) c.as_slice.ensures)
    (c.in_ok-put_table-2.ensures ∙ ap (λ chains. c.put_table.new.out ++ lines_text (table_lines site chains Nat)) c.as_slice-2.ensures))
    (c.in_ok-put_table-3.ensures ∙ ap (λ chains. c.put_table-2.new.out ++ lines_text (table_lines site chains Filter)) c.as_slice-3.ensures)

use Rattle.fws_ios_print.specs.PrintedText.{list_lines, lists_comment}
use Rattle.fws_ios_print.proofs.LinesPut.{section_put}
use Rattle.fws_ios_print.proofs.printing.put_list_section.Goals as goal

pub returns-in_ok-put_lists : goal.returns-in_ok-put_lists
returns-in_ok-put_lists c =
    section_put lists_comment c.args.lists.now (list_lines c.args.lists.now) c.args.out.now c.put.new.self c.put_lists.new.out c.in-len1-up.len_at_least c.in_ok-put.ensures.ok c.in_ok-put_lists.ensures

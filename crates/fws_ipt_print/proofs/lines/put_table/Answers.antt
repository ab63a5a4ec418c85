use Rattle.std.proofs.Common.{[], ◌∷◌, ◌++◌, codes, ap, sym, ◌∙◌}
use Rattle.std.specs.List.{list_any}
use Rattle.fws_net.specs.SiteSpelling.{lines_text}
use Rattle.fws_ipt.specs.Walk.{is_table}
use Rattle.fws_ipt_print.specs.PrintedText.{chain_lines, rule_lines, table_word}
use Rattle.fws_ipt_print.proofs.Basics.{if_true}
use Rattle.fws_ipt_print.proofs.LinesPut.{lines_put}
use Rattle.fws_ipt_print.proofs.lines.put_table.Goals as goal

pub returns-in_ok-put : goal.returns-in_ok-put
returns-in_ok-put c =
    let out = c.args.out.now in
    let table = c.args.table in
    let chains = c.args.chains.now in
    let header = (table_word table ∷ []) ∷ [] in
    let declared = chain_lines table chains in
    let rules = rule_lines c.args.site.now chains table chains in
    let closing = (codes "COMMIT" ∷ []) ∷ [] in
    lines_put out c.put_all_rules.new.out _ (header ++ declared ++ rules) closing
    (lines_put out c.put_all_chains.new.out _ (header ++ declared) rules
    (lines_put out c.put_opening.new.out _ header declared c.in_ok-put_opening.ensures c.in_ok-put_all_chains.ensures)
    c.in_ok-put_all_rules.ensures)
    c.in_ok-put.ensures.ok
    ∙ ap (λ lines. out ++ lines_text lines)
    (sym (if_true (list_any (λ chain. is_table table chain.table) chains) (header ++ declared ++ rules ++ closing) [] (sym c.has_chain.ensures ∙ c.if-has_chain.true)))

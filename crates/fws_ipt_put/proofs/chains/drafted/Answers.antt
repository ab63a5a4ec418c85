use Rattle.std.proofs.Common.{◌+◌, ◌++◌, length, ap, ◌∙◌, subst}
use Rattle.fws_tree_seen.specs.declared.seen.Seen.TheVariants as seens
use Rattle.fws_ipt.specs.declared.config.IptTable.TheVariants.{Filter, Mangle}
use Rattle.fws_net.specs.Points.{tops_of}
use Rattle.fws_tree.specs.Plain.{IsReduced}
use Rattle.fws_ipt_put.specs.Marks.{mark_chains}
use Rattle.fws_ipt_put.proofs.Begun.{by_tops, draft_is, has_marks, no_marks}
use Rattle.fws_ipt_put.proofs.chains.drafted.Goals as goal

pub put_chains-requires-clause-marks : goal.put_chains-requires-clause-marks
put_chains-requires-clause-marks c =
    no_marks Mangle 5 c.put_marks.new.chains (tops_of c.args.site.now) c.args.entering.now.1
    (subst (λ t. IsReduced t c.args.entering.now.1) c.requires.entering_tops c.tops-entering_tops.ensures.reduced) c.requires.entering_marks

pub put_chains-requires-2-clause-marks : goal.put_chains-requires-2-clause-marks
put_chains-requires-2-clause-marks c =
    has_marks (tops_of c.args.site.now) c.args.news.now.1 c.args.marks.now c.put_chains.new.chains c.in_ok-known.ensures.block.block
    (c.in_ok-known.ensures.block.extends
    ∙ ap (λ l. l ++ c.in_ok-known.ensures.block.block) (c.in_ok-put_marks.ensures ∙ ap (λ l. l ++ mark_chains 5 c.args.marks.now) c.in_ok-chains.ensures))
    (subst (λ t. IsReduced t c.args.news.now.1) c.requires.news_tops c.tops-news_tops.ensures.reduced) c.requires.news_marks

pub put_chains-requires-3-clause-marks : goal.put_chains-requires-3-clause-marks
put_chains-requires-3-clause-marks c =
    no_marks Filter _ c.put_filter.new.chains (tops_of c.args.site.now) c.args.routed.now.1
    (subst (λ t. IsReduced t c.args.routed.now.1) c.requires.routed_tops c.tops-routed_tops.ensures.reduced) c.requires.routed_marks

pub returns : goal.returns
returns c =
    draft_is c.args.site.now c.args.entering.now.1 c.args.news.now.1 c.args.routed.now.1 c.args.marks.now
    c.put_marks.new.chains c.put_chains.new.chains c.put_chains-2.new.chains c.put_nat.new.chains c.put_filter.new.chains c.put_chains-3.new.chains
    c.in_ok-filter.filter c.in_ok-known.known c.in_ok-fresh.fresh c.in_ok-reply.reply
    (c.in_ok-put_marks.ensures ∙ ap (λ l. l ++ mark_chains 5 c.args.marks.now) c.in_ok-chains.ensures)
    c.in_ok-known.ensures.block c.in_ok-fresh.ensures.block c.in_ok-put_nat.ensures c.in_ok-put_filter.ensures c.in_ok-reply.ensures.block c.in_ok-filter.ensures.number
    (by_tops c.args.entering.now.0 (tops_of c.args.site.now) c.args.entering.now.1 seens.Entered 5 (length c.put_marks.new.chains) (length c.put_chains.new.chains)
    c.put_chains.new.chains c.in_ok-known.known c.requires.entering_tops c.in_ok-known.ensures.leads)
    (by_tops c.args.news.now.0 (tops_of c.args.site.now) c.args.news.now.1 seens.Entered 5 (length c.put_chains.new.chains) (length c.put_chains-2.new.chains)
    c.put_chains-2.new.chains c.in_ok-fresh.fresh c.requires.news_tops c.in_ok-fresh.ensures.leads)
    (by_tops c.args.routed.now.0 (tops_of c.args.site.now) c.args.routed.now.1 seens.Routed (c.in_ok-filter.filter + 3) (length c.put_filter.new.chains)
    (length c.put_chains-3.new.chains) c.put_chains-3.new.chains c.in_ok-reply.reply c.requires.routed_tops c.in_ok-reply.ensures.leads)
    c.in_ok-known.ensures.printed c.in_ok-fresh.ensures.printed c.in_ok-reply.ensures.printed
    c.in_ok-known.ensures.whole c.in_ok-fresh.ensures.whole c.in_ok-reply.ensures.whole

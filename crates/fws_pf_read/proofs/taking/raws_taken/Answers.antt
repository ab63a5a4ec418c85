use Rattle.fws_pf_read.proofs.taking.raws_taken.Goals as goal

pub raws_from-requires-clause-known : goal.raws_from-requires-clause-known
raws_from-requires-clause-known g c = c.new-uses.ensures c.args.setting.now c.args.macros.now (g.S.TakesWords.items (g.S.TakesWords.seen c.args.s))

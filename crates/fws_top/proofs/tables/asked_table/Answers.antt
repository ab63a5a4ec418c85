use Rattle.fws_top.proofs.tables.asked_table.Goals as goal

pub returns : goal.returns
returns c = λ walk does. c.asked_text.ensures c.args.asks.now walk c.in_ok-ask.ensures.sides c.in_ok-ask.ensures.verdict does

use Rattle.fws_pf_words.specs.UsesKnown.{AreUses}
use Rattle.fws_pf_read.proofs.Behind.{in_any_case}
use Rattle.fws_pf_read.proofs.taking.rest_taken.Goals as goal

pub returns-clause-known : goal.returns-clause-known
returns-clause-known g c = λ macros.
    in_any_case c.words_taken.result (λ next. AreUses c.args.setting.now macros (g.S.TakesWords.items (g.S.TakesWords.seen next)) c.forget.new.self)
    (λ next. c.forget.ensures c.args.setting.now macros (g.S.TakesWords.items (g.S.TakesWords.seen next)))

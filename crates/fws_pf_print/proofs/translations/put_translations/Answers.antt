use Rattle.fws_num.specs.Written.{spaced}
use Rattle.fws_pf_print.specs.PrintedText.{translation_words}
use Rattle.fws_pf_print.proofs.LinesPut.{items_put}
use Rattle.fws_pf_print.proofs.translations.put_translations.Goals as goal

pub loop-nat-preserved : goal.loop-nat-preserved
loop-nat-preserved c =
    items_put (λ nat. spaced (translation_words c.args.site.now c.args.redirects nat)) c.args.nats.now c.loop-nat.nat-index c.nat-item.result c.loop-nat.out c.put_translation.new.out _ c.loop-nat-test.true
    c.nat-item.is c.in_ok-put_translation.ensures c.loop-nat.invariant

use Rattle.fws_num.specs.Written.{spaced}
use Rattle.fws_pf_print.specs.PrintedText.{translation_words, translations_comment}
use Rattle.fws_pf_print.proofs.LinesPut.{section_put}
use Rattle.fws_pf_print.proofs.printing.put_translation_section.Goals as goal

pub returns-in_ok-put_translations : goal.returns-in_ok-put_translations
returns-in_ok-put_translations c =
    section_put (translations_comment c.args.redirects) (λ nat. spaced (translation_words c.args.site.now c.args.redirects nat)) c.args.nats.now c.args.out.now c.put_translations_comment.new.out
    c.put_translations.new.out c.in-len1-up.len_at_least c.in_ok-put_translations_comment.ensures c.in_ok-put_translations.ensures

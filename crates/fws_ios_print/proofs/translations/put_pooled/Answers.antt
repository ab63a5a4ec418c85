use Rattle.std.proofs.Common.{[], ◌∷◌}
use Rattle.fws_num.specs.Written.{spaced}
use Rattle.fws_ios_print.specs.PrintedText.{nat_words, pool_words}
use Rattle.fws_ios_print.proofs.LinesPut.{lines_put}
use Rattle.fws_ios_print.proofs.translations.put_pooled.Goals as goal

pub returns : goal.returns
returns c =
    lines_put c.args.out.now c.put_pool.new.out _ (spaced (pool_words c.args.n c.args.addr) ∷ []) (spaced (nat_words c.args.n c.args.name.now) ∷ []) c.in_ok-put_pool.ensures
    c.in_ok-put_list_nat.ensures

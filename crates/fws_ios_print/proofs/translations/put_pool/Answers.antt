use Rattle.std.proofs.Common.{[], ◌∷◌, codes}
use Rattle.fws_num.specs.Numbers.{dotted}
use Rattle.fws_ios_print.specs.PrintedText.{pool_name}
use Rattle.fws_ios_print.proofs.LinesPut.{line_put}
use Rattle.fws_ios_print.proofs.translations.put_pool.Goals as goal

pub returns : goal.returns
returns c =
    line_put c.args.out.now c.put.new.self c.put_pool_words.new.out _ (codes "ip")
    (codes "nat" ∷ codes "pool" ∷ pool_name c.args.n ∷ dotted c.args.addr ∷ dotted c.args.addr ∷ codes "prefix-length" ∷ codes "24" ∷ []) c.in_ok-put.ensures.ok c.in_ok-put_pool_words.ensures
    c.in_ok-put-2.ensures.ok

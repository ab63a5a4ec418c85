use Rattle.std.proofs.Common.{[], ◌∷◌, codes}
use Rattle.fws_ios_print.specs.PrintedText.{pool_name}
use Rattle.fws_ios_print.proofs.LinesPut.{line_put}
use Rattle.fws_ios_print.proofs.translations.put_list_nat.Goals as goal

pub returns : goal.returns
returns c =
    line_put c.args.out.now c.put.new.self c.put_list_words.new.out _ (codes "ip")
    (codes "nat" ∷ codes "inside" ∷ codes "source" ∷ codes "list" ∷ c.args.name.now ∷ codes "pool" ∷ pool_name c.args.n ∷ codes "overload" ∷ []) c.in_ok-put.ensures.ok
    c.in_ok-put_list_words.ensures c.in_ok-put-2.ensures.ok

use Rattle.std.proofs.Common.{[], ◌∷◌, codes}
use Rattle.fws_ios_print.proofs.LinesPut.{line_put}
use Rattle.fws_ios_print.proofs.lists.put_opening.Goals as goal

pub returns : goal.returns
returns c =
    line_put c.args.out.now c.put.new.self c.put_extended.new.out _ (codes "ip") (codes "access-list" ∷ codes "extended" ∷ c.args.name.now ∷ []) c.in_ok-put.ensures.ok c.in_ok-put_extended.ensures
    c.in_ok-put-2.ensures.ok

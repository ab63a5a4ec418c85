use Rattle.std.proofs.Common.{◌-◌, ap, ◌∙◌, arith}
use Rattle.fws_pf_words.specs.Reached.{with_place}
use Rattle.fws_pf_words.proofs.Circling.{first_back}
use Rattle.fws_pf_words.proofs.Found.{in_at}
use Rattle.fws_pf_words.proofs.circles.leading_back.Goals as goal

pub loop-i-init : goal.loop-i-init
loop-i-init c =
    first_back c.args.tables.now c.args.name.now c.args.places.now _
    (c.in_ok-find.ensures ∙ ap (λ k. with_place c.args.tables.now k c.args.name.now) c.new-back.ensures.empty) c.requires.root

pub put_leading-requires : goal.put_leading-requires
put_leading-requires c = c.requires.below _ (in_at c.args.places.now (c.loop-i.i - 1) (omega arith))

pub loop-i-preserved : goal.loop-i-preserved
loop-i-preserved c =
    c.in_ok-put_leading.ensures c.args.name.now c.args.places.now (in_at c.args.places.now (c.loop-i.i - 1) (omega arith)) c.loop-i.invariant

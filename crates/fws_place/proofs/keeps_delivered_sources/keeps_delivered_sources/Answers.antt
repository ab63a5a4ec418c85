use Rattle.std.proofs.Common.{sym, subst}
use Rattle.fws_box.specs.Sides.{IsWithin}
use Rattle.fws_place.proofs.keeps_delivered_sources.keeps_delivered_sources.Goals as goal

pub delivered_among-requires-clause-sources : goal.delivered_among-requires-clause-sources
delivered_among-requires-clause-sources c = λ q w. c.in_ok-sources.ensures.value q (subst (λ ts. IsWithin ts q) (sym c.requires.regular.fresh_tops) w)

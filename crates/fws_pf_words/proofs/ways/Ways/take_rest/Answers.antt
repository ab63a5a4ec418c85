use Rattle.std.proofs.Common.{arith, length, ap, ◌∙◌}
use Rattle.std.proofs.lemmas.List.{take_all}
use Rattle.fws_pf_words.specs.Fronts.{within}
use Rattle.fws_pf_words.proofs.Leading.{way_used, ways_grown}
use Rattle.fws_pf_words.proofs.ways.Ways.take_rest.Goals as goal

pub returns-in_ok-come_again-in-Some-clause-taken : goal.returns-in_ok-come_again-in-Some-clause-taken
returns-in_ok-come_again-in-Some-clause-taken c = λ words_of r are.
    ap (λ l. within c.args.setting.now l c.args.value.now) (take_all (length c.args.rest.now) c.args.rest.now (omega arith))
    ∙ way_used c.args.setting.now (words_of c.args.name.now) c.args.rest.now c.in-Some.way c.args.skipped c.args.value.now c.come_again.new.self
    (c.in-Some.ensures.2 c.args.setting.now words_of c.args.value.now.items are) c.in-Some.ensures.0 r (c.in-Some.ensures.1 ∙ c.spot.ensures)
    c.in_ok-come_again-in-Some.ensures

pub returns-in_ok-come_again-in-Some-clause-known : goal.returns-in_ok-come_again-in-Some-clause-known
returns-in_ok-come_again-in-Some-clause-known c = λ words_of r are.
    ways_grown c.args.setting.now words_of c.args.rest.now c.args.value.now c.come_again.new.self c.args.self.now.ways.entries
    (way_used c.args.setting.now (words_of c.args.name.now) c.args.rest.now c.in-Some.way c.args.skipped c.args.value.now c.come_again.new.self
    (c.in-Some.ensures.2 c.args.setting.now words_of c.args.value.now.items are) c.in-Some.ensures.0 r (c.in-Some.ensures.1 ∙ c.spot.ensures)
    c.in_ok-come_again-in-Some.ensures)
    are

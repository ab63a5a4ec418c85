use Rattle.std.proofs.Common.{◌∙◌}
use Rattle.fws_pf_words.proofs.Unions.{same_skipped}
use Rattle.fws_pf_words.proofs.skipped.with_skipped.Goals as goal

pub returns : goal.returns
returns c =
    c.in_ok-set.ensures
    ∙ same_skipped c.ranges_are_regular.ensures c.ranges_add_members.ensures c.same_members_same_list.ensures c.args.last c.args.skip.now c.kept.result.now c.args.items.now
    c.parts.ensures.regular c.kept.ensures

use Rattle.fws_pf_words.proofs.Unions.{table_given}
use Rattle.fws_pf_words.proofs.members.with_members.Goals as goal

pub returns : goal.returns
returns c =
    table_given c.ranges_are_regular.ensures c.ranges_add_members.ensures c.same_members_same_list.ensures c.args.name c.kept.result.now c.args.items _
    c.in_ok-own.ensures.own c.in_ok-own.ensures.ranged c.kept.ensures

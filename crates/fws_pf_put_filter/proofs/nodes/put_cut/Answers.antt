use Rattle.std.proofs.Common.{◌+◌, sym, ◌∙◌, ap, subst, arith}
use Rattle.std.proofs.lemmas.Option.{slice_get_within}
use Rattle.fws_tree.specs.declared.node.Node.TheVariants.{Cut}
use Rattle.fws_pf_put_filter.proofs.Deciding.{known_of}
use Rattle.fws_pf_put_filter.proofs.Moving.{cut_block, AreCutRules}
use Rattle.fws_pf_put_filter.proofs.Proper.{known_kids, testable_kids}
use Rattle.fws_pf_put_filter.proofs.nodes.put_cut.Goals as goal

pub put_tested-requires-clause-some : goal.put_tested-requires-clause-some
put_tested-requires-clause-some c =
    let plan = c.args.plan.now in
    let node = c.cut_nodes_part_values.ensures plan.tree.now.0 plan.tree.now.1 plan.leaves.now plan.nodes.now c.args.n c.args.f c.args.kids.now c.requires.planned.shared c.requires.cut in
    let many = node.many in omega (arith, many)

pub put_tested-requires-clause-testable : goal.put_tested-requires-clause-testable
put_tested-requires-clause-testable c =
    let plan = c.args.plan.now in
    let node = c.cut_nodes_part_values.ensures plan.tree.now.0 plan.tree.now.1 plan.leaves.now plan.nodes.now c.args.n c.args.f c.args.kids.now c.requires.planned.shared c.requires.cut in
    testable_kids c.seen_fields_agree.ensures plan.site.now plan.tree.now.0 plan.leaves.now plan.nodes.now c.args.n c.args.f c.args.kids.now c.requires.planned.sound c.requires.planned.tops_are node c.in-Some.tested
    (sym (c.tested_by.ensures plan.site.now (ap (λ m. m + 1) c.len.ensures)) ∙ c.in-Some.is)

pub put_tested-requires-clause-known : goal.put_tested-requires-clause-known
put_tested-requires-clause-known c =
    let plan = c.args.plan.now in
    known_kids plan.tree.now.0 plan.leaves.now plan.nodes.now c.args.n c.args.f c.args.kids.now c.requires.cut
    (c.cut_nodes_part_values.ensures plan.tree.now.0 plan.tree.now.1 plan.leaves.now plan.nodes.now c.args.n c.args.f c.args.kids.now c.requires.planned.shared c.requires.cut)

pub put_untested-requires-clause-some : goal.put_untested-requires-clause-some
put_untested-requires-clause-some c =
    let plan = c.args.plan.now in
    let node = c.cut_nodes_part_values.ensures plan.tree.now.0 plan.tree.now.1 plan.leaves.now plan.nodes.now c.args.n c.args.f c.args.kids.now c.requires.planned.shared c.requires.cut in
    let many = node.many in omega (arith, many)

pub put_untested-requires-clause-known : goal.put_untested-requires-clause-known
put_untested-requires-clause-known c =
    let plan = c.args.plan.now in
    known_kids plan.tree.now.0 plan.leaves.now plan.nodes.now c.args.n c.args.f c.args.kids.now c.requires.cut
    (c.cut_nodes_part_values.ensures plan.tree.now.0 plan.tree.now.1 plan.leaves.now plan.nodes.now c.args.n c.args.f c.args.kids.now c.requires.planned.shared c.requires.cut)

pub returns-in_ok-put_tested-in-Some-clause-rules :
    goal.returns-in_ok-put_tested-in-Some-clause-rules
returns-in_ok-put_tested-in-Some-clause-rules c =
    let plan = c.args.plan.now in
    let put = c.in_ok-put_tested-in-Some.ensures.rules in
    let known = known_of c.seen_fields_agree.ensures c.unseen_fields_are_open.ensures c.cut_nodes_part_values.ensures c.leaf_nodes_are_leaves.ensures plan.site.now plan.tree.now.0 plan.tree.now.1 plan.leaves.now plan.nodes.now plan.states.now c.requires.planned in (
      put.0,
      put.1,
      cut_block plan.site.now plan.tree.now.0 plan.tree.now.1 plan.leaves.now plan.nodes.now plan.states.now known c.args.n c.args.f c.args.kids.now put.0
          (slice_get_within plan.nodes.now c.args.n (Cut c.args.f c.args.kids.now) c.requires.cut) c.requires.cut
          (subst (AreCutRules plan.leaves.now plan.nodes.now plan.states.now c.args.n c.args.kids.now put.0) (sym c.in-Some.is ∙ c.tested_by.ensures plan.site.now (ap (λ m. m + 1) c.len.ensures)) put.2),
    )

pub returns-in_ok-put_untested-in-None-clause-rules :
    goal.returns-in_ok-put_untested-in-None-clause-rules
returns-in_ok-put_untested-in-None-clause-rules c =
    let plan = c.args.plan.now in
    let put = c.in_ok-put_untested-in-None.ensures in
    let known = known_of c.seen_fields_agree.ensures c.unseen_fields_are_open.ensures c.cut_nodes_part_values.ensures c.leaf_nodes_are_leaves.ensures plan.site.now plan.tree.now.0 plan.tree.now.1 plan.leaves.now plan.nodes.now plan.states.now c.requires.planned in (
      put.0,
      put.1,
      cut_block plan.site.now plan.tree.now.0 plan.tree.now.1 plan.leaves.now plan.nodes.now plan.states.now known c.args.n c.args.f c.args.kids.now put.0
          (slice_get_within plan.nodes.now c.args.n (Cut c.args.f c.args.kids.now) c.requires.cut) c.requires.cut
          (subst (AreCutRules plan.leaves.now plan.nodes.now plan.states.now c.args.n c.args.kids.now put.0) (sym c.in-None.is ∙ c.tested_by.ensures plan.site.now (ap (λ m. m + 1) c.len.ensures)) put.2),
    )

use Rattle.std.proofs.Common.{ap, ◌∙◌, rules}
use Rattle.fws_pf_words.specs.Stretches.{ones}
use Rattle.fws_pf_words.proofs.Repeating.{again_count, again_counted, again_list}
use Rattle.fws_pf_words.proofs.lists.ItemList.put_again.Goals as goal

pub invariant_of-self-2 : goal.invariant_of-self-2
invariant_of-self-2 c = record {
  kept = ap ones c.in_ok-push.ensures.items ∙ again_counted c.self.inside.marks.items c.args.from c.args.count ∙ c.self.invariant.kept;
  count =
      again_count c.self.inside.marks.items c.push.new.self.items c.self.inside.kept c.args.self.now c.args.from c.args.count c.self.inside.count _ c.self.view_is
      c.in_ok-push.ensures.items c.self.invariant.count c.requires (search rules);
}

pub returns : goal.returns
returns c = again_list c.self.inside.marks.items c.push.new.self.items c.self.inside.kept c.args.self.now c.args.from c.args.count c.self.view_is c.in_ok-push.ensures.items

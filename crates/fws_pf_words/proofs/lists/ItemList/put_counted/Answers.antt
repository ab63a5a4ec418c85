use Rattle.std.proofs.Common.{rules, ◌∙◌}
use Rattle.fws_pf_words.proofs.Repeating.{put_count, put_list, put_ones}
use Rattle.fws_pf_words.proofs.lists.ItemList.put_counted.Goals as goal

pub invariant_of-self-in-Ok : goal.invariant_of-self-in-Ok
invariant_of-self-in-Ok c = record {
  kept =
      put_ones c.self.inside.marks.items c.push.new.self.items c.self.inside.kept c.put.new.self c.args.item c.self.invariant.kept (c.in_ok-push-in-Ok.ensures.items ∙ search rules)
      c.in_ok-put-in-Ok.ensures.ok;
  count =
      put_count c.self.inside.marks.items c.push.new.self.items c.self.inside.kept c.put.new.self c.args.item c.self.inside.count _ c.self.invariant.kept
      (c.in_ok-push-in-Ok.ensures.items ∙ search rules) c.in_ok-put-in-Ok.ensures.ok c.self.invariant.count (search rules);
}

pub returns-in_ok-push-in-Ok : goal.returns-in_ok-push-in-Ok
returns-in_ok-push-in-Ok c =
    put_list c.self.inside.marks.items c.push.new.self.items c.self.inside.kept c.put.new.self c.args.self.now c.args.item c.self.invariant.kept c.self.view_is
    (c.in_ok-push-in-Ok.ensures.items ∙ search rules) c.in_ok-put-in-Ok.ensures.ok

use Rattle.fws_pf_put.proofs.Renewed.{empty_list, tags_gathered}
use Rattle.fws_pf_put.proofs.gathering.tags_of.Goals as goal

pub returns : goal.returns
returns c =
    tags_gathered c.args.c.now c.new-tags.result.keys c.gather_nats.new.tags.keys c.gather_nats-2.new.tags.keys c.gather_rules.new.tags.keys
    c.as_slice.result.now c.as_slice-2.result.now c.as_slice-3.result.now (empty_list c.new-tags.result.keys c.new-tags.ensures.len) c.as_slice.ensures c.as_slice-2.ensures c.as_slice-3.ensures
    c.in_ok-gather_nats.ensures c.in_ok-gather_nats-2.ensures c.in_ok-gather_rules.ensures

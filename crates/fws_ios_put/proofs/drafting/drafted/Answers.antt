use Rattle.std.proofs.Common.{refl}
use Rattle.fws_ios_put.proofs.drafting.drafted.Goals as goal

pub returns : goal.returns
returns c = record {
  own = c.in_ok-lists.lists;
  translations = c.in_ok-sources.sources;
  lists = c.in_ok-put_lists.ensures;
  groups = c.in_ok-groups.ensures;
  nats = refl;
  are_lists = c.in_ok-lists.ensures;
  are_sources = c.in_ok-sources.ensures;
  inside = c.in_ok-inside.ensures;
  outside = c.in_ok-outside.ensures;
  inside_regular = c.parts-inside.ensures.regular;
  outside_regular = c.parts-outside.ensures.regular;
}

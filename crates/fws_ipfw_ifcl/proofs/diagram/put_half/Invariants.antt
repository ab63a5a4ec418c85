use Rattle.std.proofs.Common.{◌≡◌, ◌≤◌, ◌++◌, length, slice_index}
use Rattle.fws_ipfw_ifcl.specs.Blocks.{starts_from}
use Rattle.fws_ipfw_ifcl.specs.Diagram.{half, half_place, second_place, ending_place}
use Rattle.fws_ipfw_ifcl.proofs.Starts.{Left}
use Rattle.fws_ipfw_ifcl.proofs.diagram.put_half.Given as goal

abbrev pub invariant-loop-k : goal.invariant-loop-k
invariant-loop-k l = record {
  within : l.k ≤ length l.c.rules;
  left : Left l.c.nats l.site.one_pass l.translated (ending_place l.site l.c) (half_place l.c l.translated) (second_place l.c) l.c.rules
      l.rules.items (l.fn.rules.items ++ half l.site l.c l.translated) l.k;
  long : length l.rules.items ≡ slice_index (starts_from l.c.nats l.translated (half_place l.c l.translated) l.c.rules) l.k;
}

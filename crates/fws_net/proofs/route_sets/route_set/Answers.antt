use Rattle.std.proofs.Common.{◌≤◌, ◌∙◌}
use Rattle.std.proofs.lemmas.List.Elements.{All-same}
use Rattle.fws_net.specs.Routes.{prefixes_of}
use Rattle.fws_net.proofs.Divided.{prefixes_sound}
use Rattle.fws_net.proofs.route_sets.route_set.Goals as goal

pub put_block-requires-clause-lines : goal.put_block-requires-clause-lines
put_block-requires-clause-lines c =
    All-same (λ line. (0 ≤ line.net.len) × (line.net.len ≤ 32)) c.deref.result.now (prefixes_of c.args.site.now)
    (c.deref.ensures.value ∙ c.in_ok-lines.ensures) (prefixes_sound c.args.site.now c.requires)

use Rattle.std.proofs.Common.{◌||◌, Bool, List, ap, ◌∙◌}
use Rattle.std.specs.HashSet.{contains}
use Rattle.fws_dead.specs.Used.{any_reached, key_eq, key_of}
use Rattle.fws_dead.proofs.Standing.{are_added}
use Rattle.fws_dead.proofs.used.add_used.Goals as goal

pub returns : goal.returns
returns c =
    are_added c.told_each.ensures c.args.f.now c.args.places.now c.args.site.now c.args.state c.in_ok-reached.reached.items c.requires.entries c.in_ok-reached.ensures
    (λ at. contains key_eq c.args.used.now (key_of at)) (λ at. contains key_eq c.add_reached.new.used (key_of at))
    (λ at. c.in_ok-add_reached.ensures at ∙ ap (λ (l : List Bool). contains key_eq c.args.used.now (key_of at) || any_reached l c.args.places.now at) c.as_slice.ensures.value)

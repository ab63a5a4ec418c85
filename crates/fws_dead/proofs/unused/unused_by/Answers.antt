use Rattle.std.proofs.Common.{Bool, List, ap, ◌∙◌}
use Rattle.std.specs.HashSet.{contains}
use Rattle.fws_dead.specs.Used.{key_eq, key_of}
use Rattle.fws_dead.proofs.Telling.{are_unused, unmarked}
use Rattle.fws_dead.proofs.unused.unused_by.Goals as goal

pub returns : goal.returns
returns c =
    are_unused c.args.f.now c.args.places.now c.args.site.now c.args.spots.now c.args.rules (λ at. contains key_eq c.in_ok-used.used (key_of at)) c.in_ok-marks.marks.items c.in_ok-numbers.numbers.items
    c.in_ok-used.ensures c.in_ok-marks.ensures.marks (c.in_ok-numbers.ensures ∙ ap (λ (l : List Bool). unmarked l c.args.rules) c.as_slice.ensures.value)

use Rattle.std.proofs.Common.{List, ap}
use Rattle.std.specs.HashSet.{contains}
use Rattle.std.specs.List.{list_any}
use Rattle.fws_dead.specs.declared.used.PlaceKey.{PlaceKey}
use Rattle.fws_dead.specs.Used.{key_eq, key_of}
use Rattle.fws_dead.proofs.Standing.{both_kinds}
use Rattle.fws_dead.proofs.used.used_places.Goals as goal

pub returns : goal.returns
returns c =
    both_kinds c.args.f.now c.args.places.now c.args.site.now (λ at. contains key_eq c.new-used.result (key_of at)) (λ at. contains key_eq c.add_used.new.used (key_of at)) (λ at. contains key_eq c.add_used-2.new.used (key_of at))
    (λ at. ap (λ (keys : List PlaceKey). list_any (key_eq (key_of at)) keys) c.new-used.ensures.empty) c.in_ok-add_used.ensures c.in_ok-add_used-2.ensures

use Rattle.std.proofs.Common.{◌∙◌, ap}
use Rattle.std.specs.List.{list_any}
use Rattle.std.specs.Str.{bytes_eq}
use Rattle.fws_pf_words.proofs.Placed.{name_put}
use Rattle.fws_pf_words.proofs.setting.Names.put.Goals as goal

pub invariant_of-self-2 : goal.invariant_of-self-2
invariant_of-self-2 c = λ name.
    name_put c.self.inside.names c.put.new.self c.args.name _ name _ _ (ap (list_any (bytes_eq name)) c.in_ok-reserve.ensures.keys ∙ c.self.invariant name)
    c.in_ok-put.ensures.ok c.in_ok-key.ensures (c.in_ok-insert.ensures.updates.0 name)

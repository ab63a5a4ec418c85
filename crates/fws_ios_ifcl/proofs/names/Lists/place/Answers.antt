use Rattle.std.proofs.Common.{◌∙◌, ap}
use Rattle.std.specs.List.{position_from}
use Rattle.std.specs.Str.{bytes_eq}
use Rattle.fws_ios.specs.declared.config.IosList.{IosList}
use Rattle.fws_ios_ifcl.proofs.Named.{within}
use Rattle.fws_ios_ifcl.proofs.names.Lists.place.Goals as goal

pub returns : goal.returns
returns c =
    let bears : IosList → _ = λ l. bytes_eq l.name c.args.name.now in
    let is = c.copied.ensures ∙ c.get.ensures.value ∙ c.self.invariant c.args.name.now ∙ ap (position_from bears 0) c.self.view_is in
    record { place = is; within = within bears c.args.self.now c.copied.result is }

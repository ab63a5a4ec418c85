use Rattle.std.proofs.Common.{List, ◌++◌, ◌∷◌, [], ap, ◌∙◌, rules}
use Rattle.std.proofs.lemmas.Fn.{filter_same}
use Rattle.fws_ios.specs.declared.config.IosGroup.{IosGroup}
use Rattle.fws_ios.specs.FileText.{is_elsewhere}
use Rattle.fws_ios_read.proofs.progress.put_group.Goals as goal

pub returns : goal.returns
returns c =
    c.in_ok-push.ensures.items
    ∙ ap (λ (gs : List IosGroup). gs ++ c.args.group ∷ [])
    (filter_same _ (is_elsewhere c.args.group.face c.args.group.outward) _ (λ other b f q. search rules) _ _ c.retain.ensures.filtered)

use Rattle.std.proofs.Common.{[], get_or, ap, ◌∙◌, ◌&&◌}
use Rattle.fws_iv.specs.Ivs.{has}
use Rattle.fws_box.specs.Boxes.{sides_of}
use Rattle.fws_box.specs.Fields.{place_of}
use Rattle.fws_box.proofs.Boxed.{kept, some_have}
use Rattle.fws_box.proofs.narrowing.narrow.Goals as goal

pub returns-clause-common : goal.returns-clause-common
returns-clause-common c =
    kept c.args.area.now c.args.field c.in_ok-part.part.now c.args.set.now c.with.result
    (λ v. c.in_ok-part.ensures.members v ∙ ap (λ s. has s v && has c.parts.result.now v) c.side.ensures.value ∙ ap (λ s. has (get_or (sides_of c.args.area.now) (place_of c.args.field) []) v && has s v) c.parts.ensures.value) c.with.ensures

pub returns-clause-some : goal.returns-clause-some
returns-clause-some c = some_have c.with.result

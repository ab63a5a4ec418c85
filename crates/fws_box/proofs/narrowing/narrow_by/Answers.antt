use Rattle.std.proofs.Common.{[], ap, ◌∙◌, ◌&&◌, get_or}
use Rattle.fws_iv.specs.Ivs.{has}
use Rattle.fws_box.specs.Boxes.{sides_of}
use Rattle.fws_box.specs.Fields.{place_of}
use Rattle.fws_box.proofs.Boxed.{kept}
use Rattle.fws_box.proofs.narrowing.narrow_by.Goals as goal

pub returns : goal.returns
returns c =
    kept c.args.area.now c.args.field c.in_ok-side.side.now (get_or (sides_of c.args.other.now) (place_of c.args.field) []) c.with.result
    (λ v. c.in_ok-side.ensures.members v ∙ ap (λ s. has s v && has c.side-2.result.now v) c.side.ensures.value ∙ ap (λ s. has (get_or (sides_of c.args.area.now) (place_of c.args.field) []) v && has s v) c.side-2.ensures.value) c.with.ensures

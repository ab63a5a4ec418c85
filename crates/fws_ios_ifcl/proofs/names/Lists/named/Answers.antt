use Rattle.std.proofs.Common.{◌≡◌, ◌<◌, length, slice_get, Some, refl, sym, ap, subst, ◌∙◌}
use Rattle.std.proofs.lemmas.Option.{slice_get_read}
use Rattle.std.specs.Str.{bytes_eq}
use Rattle.fws_ios.specs.declared.config.IosList.{IosList}
use Rattle.fws_ios_ifcl.proofs.Named.{absent, found_there}
use Rattle.fws_ios_ifcl.proofs.names.Lists.named.Goals as goal

pub returns-in-Some : goal.returns-in-Some
returns-in-Some c =
    let lists = c.self.inside.lists.now in
    let x = c.index-self-place.result in
    let near : c.in-Some.place < length lists = subst (λ ls. c.in-Some.place < length ls) (sym c.self.view_is) c.in-Some.ensures.within in
    let there : slice_get lists c.in-Some.place ≡ Some x = slice_get_read lists (length lists) c.in-Some.place x refl near c.index-self-place.is in
    found_there (λ (l : IosList). bytes_eq l.name c.args.name.now) c.args.self.now c.in-Some.place x c.in-Some.ensures.place
    (ap (λ ls. slice_get ls c.in-Some.place) (sym c.self.view_is) ∙ there)
    ∙ ap Some c.index-self-place.is

pub returns-in-None : goal.returns-in-None
returns-in-None c = absent (λ (l : IosList). bytes_eq l.name c.args.name.now) 0 c.args.self.now (sym c.in-None.ensures.place)

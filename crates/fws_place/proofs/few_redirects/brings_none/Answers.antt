use Rattle.std.proofs.Common.{◌≡◌, None, sym, ◌∙◌, ap}
use Rattle.fws_place.specs.RowRedirects.{destination_of}
use Rattle.fws_place.proofs.RedirectRows.{brings_nothing}
use Rattle.fws_place.proofs.few_redirects.brings_none.Goals as goal

pub returns-in-None : goal.returns-in-None
returns-in-None c =
    let here = c.index-rows-at.result in
    let none : destination_of here.leaf ≡ None = ap (λ o. destination_of o.leaf) c.index-rows-at.is ∙ sym c.destination_of.ensures ∙ c.in-None.is in
    λ e row r of. brings_nothing c.args.rows.now c.args.at here row r c.requires c.index-rows-at.is none of

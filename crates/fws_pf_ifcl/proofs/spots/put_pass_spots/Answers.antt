use Rattle.std.proofs.Common.{◌++◌, ap, ◌∙◌}
use Rattle.fws_ifcl_rules.specs.UsedPlaces.{spots_from}
use Rattle.fws_pf.specs.Uses.{first_filter_rule, first_translation}
use Rattle.fws_pf_ifcl.specs.Diagram.{filter_place, translations_place}
use Rattle.fws_pf_ifcl.specs.Placed.{filter_told, translations_told}
use Rattle.fws_pf_ifcl.proofs.Counted.{pass_spots}
use Rattle.fws_pf_ifcl.proofs.spots.put_pass_spots.Goals as goal

pub returns : goal.returns
returns c =
    let outward = c.args.outward in
    let chain = c.args.chain in
    let f = c.args.c.now in
    let old = c.args.spots.now.items in
    let translated = c.put_translation_spots.new.spots.items in
    let place = filter_place outward f in
    let first = translations_place outward in
    let nats = c.translations.result.now in
    pass_spots c.uses_are_told_by_places.ensures chain outward f old translated c.put_filter_spots.new.spots.items
    (c.in_ok-put_translation_spots.ensures outward place
    ∙ ap (λ n. old ++ spots_from chain n (translations_told outward place n c.first_translation-number.result nats)) c.translations_place-first.ensures
    ∙ ap (λ n. old ++ spots_from chain first (translations_told outward place first n nats)) c.first_translation-number.ensures
    ∙ ap (λ l. old ++ spots_from chain first (translations_told outward place first (first_translation f outward) l)) c.translations.ensures)
    (c.in_ok-put_filter_spots.ensures
    ∙ ap (λ n. translated ++ spots_from chain n (filter_told outward n c.in_ok-later.later c.as_slice.result.now)) c.in_ok-filter.ensures
    ∙ ap (λ n. translated ++ spots_from chain place (filter_told outward place n c.as_slice.result.now)) c.in_ok-later.ensures
    ∙ ap (λ l. translated ++ spots_from chain place (filter_told outward place (first_filter_rule f) l)) c.as_slice.ensures)

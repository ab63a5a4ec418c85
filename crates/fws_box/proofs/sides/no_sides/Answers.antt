use Rattle.std.proofs.Common.{rules, ◌≡◌, ◌<◌, List, [], replicate, slice_index_or, subst, sym, ◌∙◌}
use Rattle.std.proofs.lemmas.List.{ext_get_or, get_or-replicate}
use Rattle.fws_iv.specs.declared.iv.Iv.{Iv}
use Rattle.fws_box.proofs.sides.no_sides.Goals as goal

pub returns : goal.returns
returns c =
    let none : List Iv = [] in
    let made = c.from_fn.ensures.items in
    ext_get_or none c.from_fn.result (replicate 12 none) made.long (λ i below.
    let inside : i < 12 = subst (λ n. i < n) made.long below in
    let called = made.at i none inside in
    let each : slice_index_or c.from_fn.result i none ≡ none = search rules in
    each ∙ sym (get_or-replicate 12 i none none inside))

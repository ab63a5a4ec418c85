use Rattle.std.proofs.Common.{map, ap, ◌∙◌}
use Rattle.fws_pf_put.specs.Renumbered.{place_in, renamed_nat, renamed_rule}
use Rattle.fws_pf_put.proofs.Renewed.{renewed}
use Rattle.fws_pf_put.proofs.renumbering.renumbered.Goals as goal

pub returns : goal.returns
returns c =
    let tags = c.in_ok-tags.tags.keys in
    renewed c.args.c.now c.in_ok-copy.field-0 c.in_ok-rdr.rdr c.in_ok-nat.nat c.in_ok-filter.filter c.in_ok-names.names tags c.renamed_walks_are_same.ensures c.in_ok-tags.ensures
    c.in_ok-names.ensures.named (c.in_ok-names.ensures.size ∙ c.len.ensures.len)
    c.in_ok-copy.ensures
    (c.in_ok-rdr.ensures ∙ ap (map (renamed_nat (place_in tags))) c.as_slice.ensures)
    (c.in_ok-nat.ensures ∙ ap (map (renamed_nat (place_in tags))) c.as_slice-2.ensures)
    (c.in_ok-filter.ensures ∙ ap (map (renamed_rule (place_in tags))) c.as_slice-3.ensures)

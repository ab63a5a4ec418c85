use Rattle.std.proofs.Common.{sym, ◌∙◌}
use Rattle.std.proofs.lemmas.Bool.{eqb-true}
use Rattle.std.proofs.lemmas.Option.{get_or_from_slice_get, slice_get_within}
use Rattle.fws_ios_put_sources.proofs.addresses.put_address.Goals as goal

pub returns-clause-there : goal.returns-clause-there
returns-clause-there c =
    let r = c.in_ok-insert_full.field-0 in
    let keys = c.insert_full.new.self.keys in
    let stored = c.in_ok-insert_full.ensures.stored in
    (r.0, slice_get_within keys r.0 stored.0 stored.1, get_or_from_slice_get keys r.0 stored.0 c.args.addr stored.1 ∙ sym (eqb-true c.args.addr stored.0 stored.2))

use Rattle.std.proofs.Common.{subst}
use Rattle.fws_ios_put_entries.specs.declared.act.Act.{Act}
use Rattle.fws_ios_put_entries.specs.Entries.{IsEntryOf}
use Rattle.fws_ios_put_lists.proofs.Listing.{entry_is}
use Rattle.fws_ios_put_lists.proofs.nodes.put_entry.Goals as goal

pub returns : goal.returns
returns c =
    let e = c.in_ok-entry_of.field-0 in
    (e, c.in_ok-put.ensures.ok, entry_is c.args.permit c.args.keep c.args.path e (subst (λ (a : Act). IsEntryOf a c.args.path e) c.act_for.ensures c.in_ok-entry_of.ensures))

use Rattle.fws_top.proofs.PlacedPolicies.{explained_by}
use Rattle.fws_top.proofs.tables.explained.Goals as goal

pub returns : goal.returns
returns c = λ policy told.
    explained_by c.args.site.now policy c.args.code.now c.as_slice.result.now c.as_slice-2.result.now c.as_slice-3.result.now c.args.conns.now c.args.packets.now c.why.result
    told c.as_slice.ensures.value c.as_slice-2.ensures.value c.as_slice-3.ensures.value c.why.ensures.walked

use Rattle.std.proofs.Common.{◌≤◌, length, arith}
use Rattle.fws_ios_put_sources.proofs.Asking.{one_asked, all_asked}
use Rattle.fws_ios_put_sources.proofs.lists.lists_of.Goals as goal

pub loop-place-preserved : goal.loop-place-preserved
loop-place-preserved c =
    one_asked c.args.site.now c.args.crossing.now.1 c.args.addrs.now.keys c.loop-place.place c.address_at-addr.result c.loop-place.sources c.put_list_at.new.sources
    c.address_at-addr.ensures c.loop-place.invariant c.in_ok-put_list_at.ensures

pub returns : goal.returns
returns c =
    let keys = c.args.addrs.now.keys in
    let ended : length keys ≤ c.loop-place.place = omega (arith, c.loop-place-test.false, c.len-place-end.ensures.len) in
    all_asked c.args.site.now c.args.crossing.now.1 keys c.loop-place.place c.loop-place.sources ended c.loop-place.invariant

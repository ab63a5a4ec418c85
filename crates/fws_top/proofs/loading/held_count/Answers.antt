use Rattle.fws_top.proofs.Holding.{four_held}
use Rattle.fws_top.proofs.loading.held_count.Goals as goal

pub returns : goal.returns
returns c =
    four_held c.args.site.now c.args.tables.now c.in_ok-iptables.iptables c.in_ok-ipfw.ipfw c.in_ok-pf.pf c.in_ok-ios.ios _ _ _ _
    c.in_ok-iptables.ensures c.in_ok-ipfw.ensures c.in_ok-pf.ensures c.in_ok-ios.ensures
    c.one_if.ensures.value c.one_if-2.ensures.value c.one_if-3.ensures.value c.one_if-4.ensures.value

use Rattle.fws_net.specs.declared.packet.Lang.TheVariants.{Ios}
use Rattle.fws_ios_put.proofs.Known.{Known}
use Rattle.fws_ios_put.proofs.Laid.{placed}
use Rattle.std.proofs.Common.{List, ℕ, ◌+◌, ap, subst}
use Rattle.fws_ios_put.specs.Draft.{IsDraft}
use Rattle.fws_ios_put.specs.Layout.{AreLeaders}
use Rattle.fws_ios_put.proofs.placing.put_told.Goals as goal

pub drafted-requires-clause-named : goal.drafted-requires-clause-named
drafted-requires-clause-named c = c.orderly_sites_are_named.ensures Ios c.args.site.now c.requires.orderly

pub returns : goal.returns
returns c =
    let site = c.args.site.now in
    let tables = c.args.t.now in
    let regular = c.requires.regular in
    let fits = c.requires.fits in
    let known : Known site tables = record {
      host = c.ios_host_passes.ensures site tables regular fits;
      pairs = c.ios_pairs_are_told.ensures site tables regular fits;
      goes_on = c.ios_accepted_go_on.ensures site tables regular fits;
      kept = c.ios_keeps_new_packets.ensures site tables regular fits;
      lost = c.lost_pairs_are_dropped.ensures site tables regular;
      new_by_ack = c.ios_new_by_ack.ensures site tables regular fits;
      known_by_ack = c.ios_established_by_ack.ensures site tables regular fits;
      ahead = c.ios_ack_ahead.ensures site tables regular fits;
    } in
    placed site tables known (c.orderly_sites_are_named.ensures Ios site c.requires.orderly) c.args.new.now c.args.known.now c.requires.new c.requires.known c.in_ok-leaders.leaders
    (subst (λ (most : ℕ). AreLeaders c.args.new.now.1 c.args.known.now.1 most c.in_ok-leaders.leaders) (ap (λ (n : ℕ). n + 1) c.len.ensures) c.in_ok-leaders.ensures)
    c.in_ok-config.config
    (subst (λ (leaders : List ℕ). IsDraft site tables c.args.new.now.1 c.args.known.now.1 leaders c.in_ok-config.config) c.as_slice.ensures c.in_ok-config.ensures)

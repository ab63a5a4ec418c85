-- Walks are regular.
use Rattle.std.proofs.Common.{◌≡◌, Bool, true, false, ◌&&◌, Option, Some, None, refl}
use Rattle.std.specs.List.{list_all}
use Rattle.std.specs.Option.{option_map_or}
use Rattle.std.proofs.lemmas.Bool.{and_parts}
use Rattle.fws_net.specs.declared.packet.Packet.{Packet}
use Rattle.fws_net.specs.declared.site.Site.{Site}
use Rattle.fws_net.specs.declared.transit.Transit.{Transit}
use Rattle.fws_net.specs.RegularWalks.{IsRegularWalk}
use Rattle.fws_net.specs.Transits.{entered, with_dst, with_tracked_dst}
use Rattle.fws_rules.specs.AlikeWays.{AlikePacketsStayAlike}
use Rattle.fws_rules.specs.Regular.{AlikeWalksAreRegular, Part, StandsAsWritten, KeepsDestination, IsRegularPart, AreRegularParts, RegularPartsMakeAlikeWalks}
use Rattle.fws_ipfw.specs.declared.config.IpfwConfig.{IpfwConfig}
use Rattle.fws_ipfw.specs.declared.config.Redirect.{Redirect}
use Rattle.fws_ipfw.specs.Regular.{SpelledWalksAreRegular}
use Rattle.fws_ipfw.specs.Soundness.{rule_fits, nat_fits, are_apart, is_fitting}
use Rattle.fws_ipfw.specs.Walk.{redirect_in, pass_walk, walk}
use Rattle.fws_ipfw.proofs.AlikeWalks.{pass_alike}
use Rattle.fws_ipfw.proofs.Kept.{pass_kept}
use Rattle.fws_ipfw.proofs.Texts.{spelled_is_fitting}
use Rattle.fws_ipfw.proofs.Tracked.{arrived_tracked}
use Rattle.fws_ipfw.proofs.Written.{pass_portless}

moved_stands : (p : Packet) (o : Option Redirect) (t : Transit) → StandsAsWritten p t → StandsAsWritten p (option_map_or (λ r. with_dst p r.local t) o t)
moved_stands p None t h = h
moved_stands p (Some r) t h = refl

-- where instances fit, and rules name instances that are there
module _ (stay : AlikePacketsStayAlike) (c : IpfwConfig) (site : Site) (rules : list_all (rule_fits c.nats) c.rules ≡ true) (nats : list_all nat_fits c.nats ≡ true) where
  abbrev on_pass : Bool → Part
  on_pass outward p k t = pass_walk c site p k outward t

  -- the host's own packets have the destination with which they leave from the start
  abbrev sent : Part
  sent p k t = pass_walk c site p k true (with_tracked_dst k t)

  regular_pass : (outward : Bool) → IsRegularPart (on_pass outward)
  regular_pass outward = record {
    alike = λ p q k l a same. pass_alike p q (stay p q a) k l same c site nats outward;
    portless = λ p off t h. pass_portless c site p nats off outward t h;
  }

  regular_parts : AreRegularParts (on_pass false) (λ p k. Some) (on_pass true) sent
  regular_parts = record {
    arrives = regular_pass false;
    delivers = record { alike = λ p q k l a same t u h. h; portless = λ p off t h. h };
    forwards = regular_pass true;
    sends = record {
      alike = λ p q k l a same t u h. pass_alike p q (stay p q a) k l same c site nats true _ _ ((stay p q a).with_tracked_dst k l same t u h);
      portless = λ p off t h. pass_portless c site p nats off true t h;
    };
    routed = λ p.
        pass_kept c site p nats (StandsAsWritten p) false (λ xs t h. h) (λ nat fits t h. moved_stands p (redirect_in nat.redirects t.packet) t h) (entered p) refl;
    delivered = λ p t. refl;
    forwarded = λ p t. pass_kept c site p nats (KeepsDestination t) true (λ xs u h. h) (λ nat fits u h. h) t refl;
    tracked = λ p r. arrived_tracked c site p r rules (entered p);
  }

pub fitting_regular : AlikePacketsStayAlike → RegularPartsMakeAlikeWalks → AlikeWalksAreRegular
    → (site : Site) (c : IpfwConfig) → is_fitting c ≡ true → IsRegularWalk site (walk c site)
fitting_regular stay make regular site c fit =
    let rules = list_all (rule_fits c.nats) c.rules in
    let nats = list_all nat_fits c.nats in
    let both = and_parts rules nats (and_parts (rules && nats) (are_apart c.nats) fit).0 in
    regular site (walk c site) (make site _ _ _ _ (regular_parts stay c site both.0 both.1))

pub spelled_walks_are_regular : AlikePacketsStayAlike → RegularPartsMakeAlikeWalks → AlikeWalksAreRegular → SpelledWalksAreRegular
spelled_walks_are_regular stay make regular site text c e = fitting_regular stay make regular site c (spelled_is_fitting site text c e).0

-- Walks are regular.
use Rattle.std.proofs.Common.{◌≡◌, true, Option, Some, None, IfSome, refl}
use Rattle.std.specs.List.{list_all}
use Rattle.std.proofs.lemmas.Bool.{and_parts}
use Rattle.fws_net.specs.declared.packet.Packet.{Packet}
use Rattle.fws_net.specs.declared.outcome.End.{End}
use Rattle.fws_net.specs.declared.connection.Kind.TheVariants.{New, Est}
use Rattle.fws_net.specs.declared.site.Site.{Site}
use Rattle.fws_net.specs.declared.transit.Transit.{Transit}
use Rattle.fws_net.specs.RegularWalks.{IsRegularWalk}
use Rattle.fws_net.specs.Transits.{entered, with_dst, with_src}
use Rattle.fws_rules.specs.AlikeWays.{AlikePacketsStayAlike}
use Rattle.fws_rules.specs.Regular.{AlikeWalksAreRegular, StandsAsWritten, KeepsDestination, AreRegularParts, RegularPartsMakeAlikeWalks}
use Rattle.fws_ios.specs.declared.config.IosConfig.{IosConfig}
use Rattle.fws_ios.specs.Soundness.{nat_fits, is_fitting}
use Rattle.fws_ios.specs.Walk.{inner_end, first_end, source_end, arrived, forwarded, walk}
use Rattle.fws_ios.proofs.AlikeWalks.{arrived_alike, forwarded_alike}
use Rattle.fws_ios.proofs.Kept.{arrived_kept, forwarded_kept, routed_kept, sent_kept}
use Rattle.fws_ios.proofs.Written.{arrived_portless, forwarded_portless}

nats_fit : (site : Site) (c : IosConfig) → is_fitting site c ≡ true → list_all nat_fits c.nats ≡ true
nats_fit site c fit = (and_parts _ (list_all nat_fits c.nats) fit).1

-- what is written over the destination stands there
any_stands : (p : Packet) (t : Transit) (o : Option End) → IfSome o (λ e. StandsAsWritten p (with_dst p e t))
any_stands p t None = tt
any_stands p t (Some e) = refl

any_keeps : (p : Packet) (t : Transit) (o : Option End) → IfSome o (λ e. KeepsDestination t (with_src p e t))
any_keeps p t None = tt
any_keeps p t (Some e) = refl

module _ (stay : AlikePacketsStayAlike) (c : IosConfig) (site : Site) (fit : is_fitting site c ≡ true) where
  regular_parts : AreRegularParts (arrived c site) (λ p k. Some) (forwarded c site) (λ p k. Some)
  regular_parts = record {
    arrives = record {
      alike = λ p q k l a same. arrived_alike c site p q (stay p q a) k l same;
      portless = λ p off t h. arrived_portless c site (nats_fit site c fit) p off t h;
    };
    delivers = record { alike = λ p q k l a same t u h. h; portless = λ p off t h. h };
    forwards = record {
      alike = λ p q k l a same. forwarded_alike c site p q (stay p q a) k l same;
      portless = λ p off t h. forwarded_portless c site (nats_fit site c fit) p off t h;
    };
    sends = record { alike = λ p q k l a same t u h. h; portless = λ p off t h. h };
    routed = λ p.
        arrived_kept c site p (StandsAsWritten p) New (entered p)
        (routed_kept c site p (StandsAsWritten p) (entered p) (any_stands p (entered p) (first_end (inner_end p) c.nats)) refl);
    delivered = λ p t. refl;
    forwarded = λ p t.
        forwarded_kept c site p (KeepsDestination t) New t (sent_kept c site p (KeepsDestination t) t (any_keeps p t (source_end c site New t)) refl);
    tracked = λ p r. arrived_kept c site p (λ t. t.packet.dst ≡ r.rdst) (Est r) (entered p) refl;
  }

pub fitting_regular : AlikePacketsStayAlike → RegularPartsMakeAlikeWalks → AlikeWalksAreRegular
    → (site : Site) (c : IosConfig) → is_fitting site c ≡ true → IsRegularWalk site (walk c site)
fitting_regular stay make regular site c fit = regular site (walk c site) (make site _ _ _ _ (regular_parts stay c site fit))

-- Walks are regular.
use Rattle.std.proofs.Common.{◌≡◌, suc, Bool, true, false, ◌&&◌, Option, Some, None, length, refl}
use Rattle.std.specs.List.{list_all}
use Rattle.std.specs.Option.{option_map_or}
use Rattle.std.proofs.lemmas.Bool.{and_parts, cond_both}
use Rattle.fws_net.specs.declared.packet.Packet.{Packet}
use Rattle.fws_net.specs.declared.outcome.End.{End}
use Rattle.fws_net.specs.declared.site.Site.{Site}
use Rattle.fws_net.specs.declared.transit.Transit.{Transit}
use Rattle.fws_net.specs.RegularWalks.{IsRegularWalk}
use Rattle.fws_net.specs.Transits.{entered}
use Rattle.fws_rules.specs.AlikeWays.{AlikePacketsStayAlike}
use Rattle.fws_rules.specs.Regular.{AlikeWalksAreRegular, Part, StandsAsWritten, KeepsDestination, IsRegularPart, AreRegularParts, RegularPartsMakeAlikeWalks}
use Rattle.fws_pf.specs.declared.config.PfConfig.{PfConfig}
use Rattle.fws_pf.specs.Soundness.{is_entry, rule_fits, nat_fits, is_fitting}
use Rattle.fws_pf.specs.Walk.{written, translations, pass_of, walk}
use Rattle.fws_pf.proofs.AlikeWalks.{pass_alike}
use Rattle.fws_pf.proofs.Kept.{pass_kept}
use Rattle.fws_pf.proofs.Written.{pass_portless}

-- the translations of a pass fit
fits_on : (site : Site) (c : PfConfig) → is_fitting site c ≡ true → (outward : Bool) → list_all (nat_fits (length c.tags)) (translations c outward) ≡ true
fits_on site c fit outward =
    let skip = list_all (is_entry (suc (length site.faces))) c.skip in
    let rdr = list_all (nat_fits (length c.tags)) c.rdr in
    let nat = list_all (nat_fits (length c.tags)) c.nat in
    let three = and_parts (skip && rdr) nat (and_parts (skip && rdr && nat) (list_all (rule_fits (length c.tags)) c.filter) fit).0 in
    cond_both outward c.nat c.rdr (λ nats. list_all (nat_fits (length c.tags)) nats ≡ true) (λ e. three.1) (λ e. (and_parts skip rdr three.0).1)

moved_stands : (p : Packet) (to : Option End) (t : Transit) → StandsAsWritten p t → StandsAsWritten p (option_map_or (λ e. written p false e t) to t)
moved_stands p None t h = h
moved_stands p (Some e) t h = refl

moved_keeps : (p : Packet) (t : Transit) (to : Option End) (u : Transit) → KeepsDestination t u → KeepsDestination t (option_map_or (λ e. written p true e u) to u)
moved_keeps p t None u h = h
moved_keeps p t (Some e) u h = h

module _ (stay : AlikePacketsStayAlike) (c : PfConfig) (site : Site) (fit : is_fitting site c ≡ true) where
  abbrev on_pass : Bool → Part
  on_pass outward p k t = pass_of c site p k outward t

  regular_pass : (outward : Bool) → IsRegularPart (on_pass outward)
  regular_pass outward = record {
    alike = λ p q k l a same. pass_alike c site p q (stay p q a) outward k l same;
    portless = λ p off t h. pass_portless c site p (length c.tags) (fits_on site c fit) off outward t h;
  }

  regular_parts : AreRegularParts (on_pass false) (λ p k. Some) (on_pass true) (on_pass true)
  regular_parts = record {
    arrives = regular_pass false;
    delivers = record { alike = λ p q k l a same t u h. h; portless = λ p off t h. h };
    forwards = regular_pass true;
    sends = regular_pass true;
    routed = λ p.
        pass_kept c site p (StandsAsWritten p) false (nat_fits (length c.tags)) (fits_on site c fit false) (λ xs t h. h) (λ accepts t h. h)
        (λ nat fits t on h. moved_stands p nat.to t h) (entered p) refl;
    delivered = λ p t. refl;
    forwarded = λ p t.
        pass_kept c site p (KeepsDestination t) true (nat_fits (length c.tags)) (fits_on site c fit true) (λ xs u h. h) (λ accepts u h. h)
        (λ nat fits u on h. moved_keeps p t nat.to u h) t refl;
    tracked = λ p r. refl;
  }

pub fitting_regular : AlikePacketsStayAlike → RegularPartsMakeAlikeWalks → AlikeWalksAreRegular
    → (site : Site) (c : PfConfig) → is_fitting site c ≡ true → IsRegularWalk site (walk c site)
fitting_regular stay make regular site c fit = regular site (walk c site) (make site _ _ _ _ (regular_parts stay c site fit))

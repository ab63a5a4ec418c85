-- Walks are regular.
use Rattle.std.proofs.Common.{◌≡◌, suc, Bool, true, false, Option, Some, None, length, IfSome, refl}
use Rattle.std.specs.List.{list_all}
use Rattle.std.proofs.lemmas.Bool.{and_parts}
use Rattle.fws_net.specs.declared.outcome.End.{End}
use Rattle.fws_net.specs.declared.site.Site.{Site}
use Rattle.fws_net.specs.RegularWalks.{IsRegularWalk}
use Rattle.fws_net.specs.Transits.{entered}
use Rattle.fws_rules.specs.AlikeWays.{AlikePacketsStayAlike}
use Rattle.fws_rules.specs.Regular.{AlikeWalksAreRegular, Part, StandsAsWritten, KeepsDestination, IsRegularPart, AreRegularParts, RegularPartsMakeAlikeWalks}
use Rattle.fws_pf.specs.Soundness.{is_entry}
use Rattle.fws_pfo.specs.declared.config.PfoConfig.{PfoConfig}
use Rattle.fws_pfo.specs.Soundness.{rule_fits, is_fitting}
use Rattle.fws_pfo.specs.Walk.{pass_of, walk}
use Rattle.fws_pfo.proofs.AlikeWalks.{pass_alike}
use Rattle.fws_pfo.proofs.Kept.{pass_kept}
use Rattle.fws_pfo.proofs.Written.{pass_portless}

-- any end
abbrev Any : End → Type 0
Any e = Unit {0}

any_end : (to : Option End) → IfSome to Any
any_end None = tt
any_end (Some e) = tt

-- all rules of a fitting configuration fit
pub rules_fit : (site : Site) (c : PfoConfig) → is_fitting site c ≡ true → list_all (rule_fits (length c.tags)) c.rules ≡ true
rules_fit site c fit = (and_parts (list_all (is_entry (suc (length site.faces))) c.skip) (list_all (rule_fits (length c.tags)) c.rules) fit).1

module _ (stay : AlikePacketsStayAlike) (c : PfoConfig) (site : Site) (fit : is_fitting site c ≡ true) where
  abbrev on_pass : Bool → Part
  on_pass outward p k t = pass_of c site p k outward t

  regular_pass : (outward : Bool) → IsRegularPart (on_pass outward)
  regular_pass outward = record {
    alike = λ p q k l a same. pass_alike c site p q (stay p q a) outward k l same;
    portless = λ p off t h. pass_portless c site p (length c.tags) (rules_fit site c fit) off outward t h;
  }

  regular_parts : AreRegularParts (on_pass false) (λ p k. Some) (on_pass true) (on_pass true)
  regular_parts = record {
    arrives = regular_pass false;
    delivers = record { alike = λ p q k l a same t u h. h; portless = λ p off t h. h };
    forwards = regular_pass true;
    sends = regular_pass true;
    routed = λ p.
        pass_kept site p (StandsAsWritten p) Any false (rule_fits (length c.tags)) (λ xs t h. h) (λ accepts t h. h) (λ r fits t on h. any_end r.to)
        (λ e known t h. refl) c (rules_fit site c fit) (entered p) refl;
    delivered = λ p t. refl;
    forwarded = λ p t.
        pass_kept site p (KeepsDestination t) Any true (rule_fits (length c.tags)) (λ xs u h. h) (λ accepts u h. h) (λ r fits u on h. any_end r.to)
        (λ e known u h. h) c (rules_fit site c fit) t refl;
    tracked = λ p r. refl;
  }

pub fitting_regular : AlikePacketsStayAlike → RegularPartsMakeAlikeWalks → AlikeWalksAreRegular
    → (site : Site) (c : PfoConfig) → is_fitting site c ≡ true → IsRegularWalk site (walk c site)
fitting_regular stay make regular site c fit = regular site (walk c site) (make site _ _ _ _ (regular_parts stay c site fit))

-- Walks are regular.
use Rattle.std.proofs.Common.{◌≡◌, true, List, refl, sym, ◌∙◌}
use Rattle.std.specs.List.{list_all}
use Rattle.std.proofs.lemmas.Bool.{and_parts}
use Rattle.fws_net.specs.declared.packet.Packet.{Packet}
use Rattle.fws_net.specs.declared.outcome.Outcome.{Outcome}
use Rattle.fws_net.specs.declared.connection.Kind.{Kind}
use Rattle.fws_net.specs.declared.connection.Kind.TheVariants.{New, Est}
use Rattle.fws_net.specs.declared.site.Site.{Site}
use Rattle.fws_rules.specs.AlikeWays.{AlikePacketsStayAlike}
use Rattle.fws_rules.specs.Regular.{IsAlikeWalk, AlikeWalksAreRegular, IsRegularPart, AreRegularParts, RegularPartsMakeAlikeWalks}
use Rattle.fws_ipt.specs.declared.config.IptTable.{IptTable}
use Rattle.fws_ipt.specs.declared.config.IptConfig.{IptConfig}
use Rattle.fws_ipt.specs.declared.hook.Hook.{Hook}
use Rattle.fws_ipt.specs.Regular.{is_port_asked, ports_are_asked, AskedWalksAreRegular, SpelledWalksAreRegular}
use Rattle.fws_ipt.specs.Spelled.{is_spelled_cond, is_spelled_rule}
use Rattle.fws_ipt.specs.Walk.{arriving, delivered, forwarded, sent_out, walk}
use Rattle.fws_ipt.proofs.AlikeWalks.{visiting_alike}
use Rattle.fws_ipt.proofs.Routed.{arriving_stands, visiting_keeps, arriving_tracked}
use Rattle.fws_ipt.proofs.Shown.{visiting, walk_shown}
use Rattle.fws_ipt.proofs.Texts.{conditions_are_spelled}
use Rattle.fws_ipt.proofs.Users.{all_weaker}
use Rattle.fws_ipt.proofs.Written.{visiting_portless}

module _ (stay : AlikePacketsStayAlike) (site : Site) (c : IptConfig) (asking : ports_are_asked c ≡ true) where
  regular_visits : (stations : List (IptTable × Hook)) → list_all (λ at. true) stations ≡ true → IsRegularPart (visiting c site stations)
  regular_visits stations all = record {
    alike = λ p q k l a same. visiting_alike site p q (stay p q a) c k l same stations;
    portless = λ p off t h. visiting_portless c site p asking off stations all t h;
  }

  regular_parts : AreRegularParts (visiting c site arriving) (visiting c site delivered) (visiting c site forwarded) (visiting c site sent_out)
  regular_parts = record {
    arrives = regular_visits arriving refl;
    delivers = regular_visits delivered refl;
    forwards = regular_visits forwarded refl;
    sends = regular_visits sent_out refl;
    routed = arriving_stands c site;
    delivered = λ p t. visiting_keeps c site p t delivered refl;
    forwarded = λ p t. visiting_keeps c site p t forwarded refl;
    tracked = arriving_tracked c site;
  }

-- a walk with the outcomes of such a walk is one
same_alike : (site : Site) (one other : Packet → Kind → Outcome) → ((p : Packet) (k : Kind) → one p k ≡ other p k) → IsAlikeWalk site other → IsAlikeWalk site one
same_alike site one other same h = record {
  alike = λ p q k l a kinds. same p k ∙ h.alike p q k l a kinds ∙ sym (same q l);
  written = λ p w e. h.written p w (sym (same p New) ∙ e);
  unwritten = λ p r w e. h.unwritten p r w (sym (same p (Est r)) ∙ e);
  leaves = λ p w e. h.leaves p w (sym (same p New) ∙ e);
  lost = λ p r lost. same p (Est r) ∙ h.lost p r lost;
}

pub asked_walks_are_regular : AlikePacketsStayAlike → RegularPartsMakeAlikeWalks → AlikeWalksAreRegular → AskedWalksAreRegular
asked_walks_are_regular stay make regular site c asking =
    regular site (walk c site) (same_alike site _ _ (walk_shown c site) (make site _ _ _ _ (regular_parts stay site c asking)))

pub spelled_walks_are_regular : AlikePacketsStayAlike → RegularPartsMakeAlikeWalks → AlikeWalksAreRegular → SpelledWalksAreRegular
spelled_walks_are_regular stay make regular site text c e =
    asked_walks_are_regular stay make regular site c
    (all_weaker (λ chain. list_all is_spelled_rule chain.rules) (λ chain. list_all is_port_asked chain.rules)
    (λ chain. all_weaker is_spelled_rule is_port_asked (λ rule h. (and_parts (is_spelled_cond rule.cond) (is_port_asked rule) h).1) chain.rules)
    c.chains (conditions_are_spelled site text c e))

-- What is known of the configuration of a policy.
use Rattle.std.proofs.Common.{◌≡◌, ℕ, ◌+◌, ◌^◌, ◌<◌, ◌≤◌, Bool, List, [], ◌∷◌, ◌++◌, length, All, arith, refl, ◌∙◌, append_assoc}
use Rattle.std.proofs.lemmas.List.Elements.{All-cons, All-nil}
use Rattle.fws_net.specs.declared.outcome.End.{End}
use Rattle.fws_net.specs.declared.site.Site.{Site}
use Rattle.fws_tree.specs.declared.tables.Tables.{Tables}
use Rattle.fws_tree.specs.Plain.{Plain}
use Rattle.fws_tree.specs.Regular.{AreRegular}
use Rattle.fws_ipfw.specs.declared.config.IpfwAct.TheVariants as acts
use Rattle.fws_ipfw.specs.declared.config.IpfwConfig.{IpfwConfig}
use Rattle.fws_ipfw.specs.declared.config.IpfwNat.{IpfwNat}
use Rattle.fws_ipfw.specs.declared.config.IpfwRule.{IpfwRule}
use Rattle.fws_place.specs.declared.redirect.Redirect.{Redirect as Shown}
use Rattle.fws_ipfw_put.specs.Guards.{IsMet}
use Rattle.fws_ipfw_put.specs.Known.{Known}
use Rattle.fws_ipfw_put.specs.Laid.{AreEnds, AreRules, nats_for}
use Rattle.fws_ipfw_put.specs.Layout.{allowing, destination_instance, destination_number, destination_rules, inward, lookup_rules, outwards, plain_rule, source_instance, source_number, source_rules, source_tag, tagged_with}
use Rattle.fws_ipfw_put.specs.Redirects.{AreRedirects}
use Rattle.fws_ipfw_put.proofs.Guarded.{Above, Below, Guards, Numbered, above_both, above_less, guards, numbered_above}
use Rattle.fws_ipfw_put.proofs.Kept.{Clauses}

pub record Plan (site : Site) (tables : Tables) (c : IpfwConfig) : Type 0 where
  pub regular : AreRegular site tables
  pub met : Clauses site tables
  pub packet : Plain Bool
  pub before : Plain Bool
  pub behind : Plain Bool
  pub known : Known site tables packet before
  pub is_met : IsMet site before behind
  pub redirects : List Shown
  pub destinations : List End
  pub sources : List End
  pub shown : AreRedirects site tables redirects
  pub ends : AreEnds site tables.fresh.1 redirects destinations sources
  pub rules : AreRules site tables.fresh.1 packet behind destinations sources c.rules
  pub nats : c.nats ≡ nats_for redirects destinations sources
  pub aliases : All (λ (nat : IpfwNat). nat.alias < 2 ^ 32) c.nats

-- Numbers

pub destinations_high : (i : ℕ) (ends : List End) → Above 7000 (destination_rules i ends)
destinations_high i [] = All-nil (λ (r : IpfwRule). 7000 < r.number)
destinations_high i (e ∷ ends) =
    let P : IpfwRule → Type 0 = λ (r : IpfwRule). 7000 < r.number in
    let translating = plain_rule (destination_number i) (inward ∷ []) (acts.Nat (destination_instance i)) in
    let allows = allowing (destination_number i) (inward ∷ []) in
    All-cons P translating (allows ∷ destination_rules (i + 1) ends) (omega arith)
    (All-cons P allows (destination_rules (i + 1) ends) (omega arith) (destinations_high (i + 1) ends))

pub destinations_low : (i : ℕ) (ends : List End) → i + length ends ≤ 4096 → Below 60000 (destination_rules i ends)
destinations_low i [] few = All-nil (λ (r : IpfwRule). r.number < 60000)
destinations_low i (e ∷ ends) few =
    let P : IpfwRule → Type 0 = λ (r : IpfwRule). r.number < 60000 in
    let translating = plain_rule (destination_number i) (inward ∷ []) (acts.Nat (destination_instance i)) in
    let allows = allowing (destination_number i) (inward ∷ []) in
    All-cons P translating (allows ∷ destination_rules (i + 1) ends) (omega (arith, few))
    (All-cons P allows (destination_rules (i + 1) ends) (omega (arith, few)) (destinations_low (i + 1) ends (omega (arith, few))))

pub sources_numbered : (d j : ℕ) (ends : List End) → Numbered 60000 (source_rules d j ends)
sources_numbered d j [] = All-cons (λ (r : IpfwRule). r.number ≡ 60000) (allowing source_number (outwards ∷ [])) [] refl (All-nil (λ (r : IpfwRule). r.number ≡ 60000))
sources_numbered d j (e ∷ ends) =
    All-cons (λ (r : IpfwRule). r.number ≡ 60000) (plain_rule source_number (outwards ∷ tagged_with (source_tag j) ∷ []) (acts.Nat (source_instance d j)))
    (source_rules d (j + 1) ends) refl (sources_numbered d (j + 1) ends)

-- The parts

module _ (site : Site) (tables : Tables) (c : IpfwConfig) (plan : Plan site tables c) where
  -- the rules for ends
  abbrev pub for_sources : List IpfwRule
  for_sources = source_rules (length plan.destinations) 0 plan.sources

  abbrev pub for_ends : List IpfwRule
  for_ends = destination_rules 0 plan.destinations ++ for_sources

  -- behind the list of new packets that arrive
  abbrev pub for_sent : List IpfwRule
  for_sent = plan.rules.sent ++ for_ends

  -- behind the look-up
  abbrev pub rest : List IpfwRule
  rest = plan.rules.arriving ++ for_sent

  pub grouped : c.rules ≡ plan.rules.guard ++ (lookup_rules ++ rest)
  grouped =
      let g = plan.rules.guard in
      let a = plan.rules.arriving in
      let s = plan.rules.sent in
      let d = destination_rules 0 plan.destinations in
      plan.rules.are
      ∙ append_assoc (((g ++ lookup_rules) ++ a) ++ s) d for_sources
      ∙ append_assoc ((g ++ lookup_rules) ++ a) s for_ends
      ∙ append_assoc (g ++ lookup_rules) a for_sent
      ∙ append_assoc g lookup_rules rest

  pub ends_above : Above 7000 for_ends
  ends_above = above_both 7000 (destination_rules 0 plan.destinations) for_sources (destinations_high 0 plan.destinations)
      (numbered_above 60000 7000 for_sources (omega arith) (sources_numbered (length plan.destinations) 0 plan.sources))

  pub sent_above : Above 6000 for_sent
  sent_above = above_both 6000 plan.rules.sent for_ends (numbered_above 7000 6000 plan.rules.sent (omega arith) plan.rules.sent_list.list.numbered)
      (above_less 7000 6000 for_ends (omega arith) ends_above)

  pub rest_above : Above 5000 rest
  rest_above = above_both 5000 plan.rules.arriving for_sent (numbered_above 6000 5000 plan.rules.arriving (omega arith) plan.rules.arriving_list.list.numbered)
      (above_less 6000 5000 for_sent (omega arith) sent_above)

  pub guarded : Guards c site plan.packet plan.behind plan.rules.guard
  guarded = guards c site plan.packet plan.behind plan.rules.guard plan.rules.guarded

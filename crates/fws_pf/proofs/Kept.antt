-- What holds of a new packet all along a pass, if it holds as the packet enters it and tags, verdicts and translations keep it.
use Rattle.std.proofs.Common.{◌≡◌, ℕ, Bool, true, Option, Some, None, List, [], ◌∷◌, IfSome}
use Rattle.std.specs.List.{list_all}
use Rattle.std.specs.Option.{option_map_or}
use Rattle.std.proofs.lemmas.Bool.{and_parts, cond_both}
use Rattle.fws_net.specs.declared.packet.Packet.{Packet}
use Rattle.fws_net.specs.declared.site.Site.{Site}
use Rattle.fws_net.specs.declared.transit.Transit.{Transit}
use Rattle.fws_net.specs.Conditions.{holds, is_shown}
use Rattle.fws_net.specs.Transits.{with_verdict, decided}
use Rattle.fws_pf.specs.declared.config.PfConfig.{PfConfig}
use Rattle.fws_pf.specs.declared.config.PfNat.{PfNat}
use Rattle.fws_pf.specs.declared.config.PfRule.{PfRule}
use Rattle.fws_pf.specs.Walk.{view_on, tagged, written, translated_by, translations, chosen, matches, acted, rules_walk, behind, interface_of, pass_walk}

-- the translation that is chosen passes a test that all pass, and its condition holds
chosen_known : (site : Site) (outward : Bool) (test : PfNat → Bool) (nats : List PfNat) → list_all test nats ≡ true → (t : Transit)
    → IfSome (chosen site outward nats t) (λ nat. (test nat ≡ true) × (holds nat.cond (view_on site outward t) ≡ true))
chosen_known site outward test [] all t = tt
chosen_known site outward test (nat ∷ nats) all t =
    let both = and_parts (test nat) (list_all test nats) all in
    cond_both (holds nat.cond (view_on site outward t)) (Some nat) (chosen site outward nats t)
    (λ o. IfSome o (λ found. (test found ≡ true) × (holds found.cond (view_on site outward t) ≡ true))) (λ e. (both.0, e))
    (λ e. chosen_known site outward test nats both.1 t)

module _ (c : PfConfig) (site : Site) (p : Packet) (P : Transit → Type 0) (outward : Bool) (test : PfNat → Bool)
    (all : list_all test (translations c outward) ≡ true)
    (tags_kept : (xs : List ℕ) (t : Transit) → P t → P (record t { tags = xs }))
    (verdict_kept : (accepts : Bool) (t : Transit) → P t → P (with_verdict accepts t))
    (nat_kept : (nat : PfNat) → test nat ≡ true → (t : Transit) → holds nat.cond (view_on site outward t) ≡ true → P t
    → P (option_map_or (λ e. written p outward e t) nat.to t)) where
  tagged_kept : (tag : Option ℕ) (t : Transit) → P t → P (tagged tag t)
  tagged_kept None t h = h
  tagged_kept (Some n) t h = tags_kept (n ∷ []) t h

  decided_kept : (t : Transit) → P t → IfSome (decided t) P
  decided_kept t h = cond_both t.verdict (Some t) None (λ way. IfSome way P) (λ e. h) (λ e. tt)

  rules_kept : (rules : List PfRule) (t : Transit) → P t → IfSome (rules_walk site outward rules t) P
  rules_kept [] t h = decided_kept t h
  rules_kept (r ∷ rs) t h =
      let k = verdict_kept r.pass (tagged r.tag t) (tagged_kept r.tag t h) in
      cond_both (matches site outward r t) _ (rules_walk site outward rs t) (λ way. IfSome way P)
      (λ on. cond_both r.quick (decided (acted r t)) (rules_walk site outward rs (acted r t)) (λ way. IfSome way P) (λ e. decided_kept (acted r t) k)
      (λ e. rules_kept rs (acted r t) k))
      (λ off. rules_kept rs t h)

  behind_kept : (nat : Option PfNat) (t : Transit) → IfSome nat (λ found. (test found ≡ true) × (holds found.cond (view_on site outward t) ≡ true)) → P t
      → IfSome (behind c site p outward nat t) P
  behind_kept None t known h = rules_kept c.filter t h
  behind_kept (Some nat) t known h =
      let k = tagged_kept nat.tag _ (nat_kept nat known.0 t known.1 h) in
      cond_both nat.past (Some (translated_by p outward nat t)) (rules_walk site outward c.filter (translated_by p outward nat t)) (λ way. IfSome way P)
      (λ e. k) (λ e. rules_kept c.filter (translated_by p outward nat t) k)

  pub pass_kept : (t : Transit) → P t → IfSome (pass_walk c site p outward t) P
  pass_kept t h =
      cond_both (is_shown (interface_of site outward t) c.skip) (Some t) (behind c site p outward (chosen site outward (translations c outward) t) t)
      (λ way. IfSome way P) (λ e. h)
      (λ e. behind_kept (chosen site outward (translations c outward) t) t (chosen_known site outward test (translations c outward) all t) h)

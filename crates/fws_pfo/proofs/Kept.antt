-- What holds of a new packet all along a pass, if it holds as the packet enters it, and tags, verdicts and ends that rules have keep it.
use Rattle.std.proofs.Common.{◌≡◌, ℕ, Bool, true, false, cond, Option, Some, None, List, [], ◌∷◌, IfSome}
use Rattle.std.specs.List.{list_all}
use Rattle.std.proofs.lemmas.Bool.{and_parts, cond_both}
use Rattle.fws_net.specs.declared.packet.Packet.{Packet}
use Rattle.fws_net.specs.declared.outcome.End.{End}
use Rattle.fws_net.specs.declared.site.Site.{Site}
use Rattle.fws_net.specs.declared.transit.Transit.{Transit}
use Rattle.fws_net.specs.Conditions.{holds, is_shown}
use Rattle.fws_net.specs.Transits.{with_verdict, decided}
use Rattle.fws_pf.specs.Walk.{view_on, tagged, written, is_met, interface_of}
use Rattle.fws_pfo.specs.declared.config.PfoConfig.{PfoConfig}
use Rattle.fws_pfo.specs.declared.config.PfoKind.{PfoKind}
use Rattle.fws_pfo.specs.declared.config.PfoKind.TheVariants.{Pass, Block, Match}
use Rattle.fws_pfo.specs.declared.config.PfoRule.{PfoRule}
use Rattle.fws_pfo.specs.Walk.{matches, moved, acted_by, acted, held_by, held_behind, ended, rules_walk, pass_walk}

-- ends of rules whose conditions held are those of E
module _ (site : Site) (p : Packet) (P : Transit → Type 0) (E : End → Type 0) (outward : Bool) (test : PfoRule → Bool)
    (tags_kept : (xs : List ℕ) (t : Transit) → P t → P (record t { tags = xs }))
    (verdict_kept : (accepts : Bool) (t : Transit) → P t → P (with_verdict accepts t))
    (end_known : (r : PfoRule) → test r ≡ true → (t : Transit) → holds r.cond (view_on site outward t) ≡ true → P t → IfSome r.to E)
    (end_kept : (e : End) → E e → (t : Transit) → P t → P (written p outward e t)) where
  tagged_kept : (tag : Option ℕ) (t : Transit) → P t → P (tagged tag t)
  tagged_kept None t h = h
  tagged_kept (Some n) t h = tags_kept (n ∷ []) t h

  decided_kept : (t : Transit) → P t → IfSome (decided t) P
  decided_kept t h = cond_both t.verdict (Some t) None (λ way. IfSome way P) (λ e. h) (λ e. tt)

  moved_kept : (to : Option End) → IfSome to E → (t : Transit) → P t → P (moved p outward to t)
  moved_kept None known t h = h
  moved_kept (Some e) known t h = end_kept e known t h

  acted_kept : (kind : PfoKind) (to : Option End) → IfSome to E → (t : Transit) → P t → P (acted_by p outward to kind t)
  acted_kept Pass to known t h = verdict_kept true t h
  acted_kept Block to known t h = verdict_kept false t h
  acted_kept Match to known t h = moved_kept to known t h

  held_kept : (kind : PfoKind) (to held : Option End) → IfSome to E → IfSome held E → IfSome (held_by to kind held) E
  held_kept Pass to held known before = known
  held_kept Block to held known before = known
  held_kept Match to held known before = before

  ended_kept : (held : Option End) → IfSome held E → (t : Transit) → P t → IfSome (ended p outward held t) P
  ended_kept held known t h = decided_kept (moved p outward held t) (moved_kept held known t h)

  -- behind a rule that matches
  behind_kept : (r : PfoRule) (held : Option End) (go : Option End → Transit → Option Transit) → IfSome r.to E → IfSome held E
      → ((holding : Option End) → IfSome holding E → (u : Transit) → P u → IfSome (go holding u) P) → (t : Transit) → P t
      → IfSome (cond r.quick (ended p outward (held_behind r held) (acted p outward r t)) (go (held_behind r held) (acted p outward r t))) P
  behind_kept r held go known before next t h =
      let after = acted p outward r t in
      let holding = held_behind r held in
      let k = acted_kept r.kind r.to known (tagged r.tag t) (tagged_kept r.tag t h) in
      let g = held_kept r.kind r.to held known before in
      cond_both r.quick (ended p outward holding after) (go holding after) (λ way. IfSome way P) (λ e. ended_kept holding g after k)
      (λ e. next holding g after k)

  rules_kept : (rules : List PfoRule) → list_all test rules ≡ true → (held : Option End) → IfSome held E → (t : Transit) → P t
      → IfSome (rules_walk site p outward rules held t) P
  rules_kept [] all held known t h = ended_kept held known t h
  rules_kept (r ∷ rs) all held known t h =
      let both = and_parts (test r) (list_all test rs) all in
      cond_both (matches site outward r t) _ (rules_walk site p outward rs held t) (λ way. IfSome way P)
      (λ on. behind_kept r held (rules_walk site p outward rs)
      (end_known r both.0 t (and_parts (is_met r.way outward) (holds r.cond (view_on site outward t)) on).1 h) known (rules_kept rs both.1) t h)
      (λ off. rules_kept rs both.1 held known t h)

  pub pass_kept : (c : PfoConfig) → list_all test c.rules ≡ true → (t : Transit) → P t → IfSome (pass_walk c site p outward t) P
  pass_kept c all t h =
      cond_both (is_shown (interface_of site outward t) c.skip) (Some t) (rules_walk site p outward c.rules None (with_verdict true t)) (λ way. IfSome way P)
      (λ e. h) (λ e. rules_kept c.rules all None tt (with_verdict true t) (verdict_kept true t h))

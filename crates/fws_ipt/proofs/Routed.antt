-- Packets are routed by the destination with which they leave.
use Rattle.std.proofs.Common.{◌≡◌, true, false, not, Option, Some, None, option_map, List, [], ◌∷◌, IfSome, refl, option_and_then}
use Rattle.std.specs.List.{list_all}
use Rattle.std.proofs.lemmas.Bool.{both_ways, not-true}
use Rattle.fws_net.specs.declared.packet.Packet.{Packet}
use Rattle.fws_net.specs.declared.connection.Rec.{Rec}
use Rattle.fws_net.specs.declared.connection.Kind.TheVariants.{New, Est}
use Rattle.fws_net.specs.declared.site.Site.{Site}
use Rattle.fws_net.specs.declared.transit.Transit.{Transit}
use Rattle.fws_net.specs.Transits.{entered}
use Rattle.fws_rules.specs.Regular.{StandsAsWritten, KeepsDestination}
use Rattle.fws_ipt.specs.declared.config.IptTable.{IptTable}
use Rattle.fws_ipt.specs.declared.config.IptTable.TheVariants.{Nat, Mangle}
use Rattle.fws_ipt.specs.declared.config.IptGo.{IptGo}
use Rattle.fws_ipt.specs.declared.config.IptGo.TheVariants.{Mark, Source, Masquerade, Dest, Redirect, Netmap}
use Rattle.fws_ipt.specs.declared.config.IptRule.{IptRule}
use Rattle.fws_ipt.specs.declared.config.IptConfig.{IptConfig}
use Rattle.fws_ipt.specs.declared.hook.Hook.{Hook}
use Rattle.fws_ipt.specs.declared.hook.Hook.TheVariants.{Prerouting}
use Rattle.fws_ipt.specs.declared.passage.Passage.{Passage}
use Rattle.fws_ipt.specs.Walk.{writes_dst_at, rules_at, visit, visits, arriving, entering}
use Rattle.fws_ipt.proofs.Kept.{Writes, visits_kept}
use Rattle.fws_ipt.proofs.Shown.{transit_of, passage_of, visiting, shown_holds}

any_rule : (rules : List IptRule) → list_all (λ r. true) rules ≡ true
any_rule [] = refl
any_rule (r ∷ rs) = any_rule rs

module _ (c : IptConfig) (site : Site) (p : Packet) where
  abbrev Stands : Passage → Type 0
  Stands m = StandsAsWritten p (transit_of m)

  stands_kept : (hook : Hook) (go : IptGo) (m : Passage) → Stands m → Writes Stands site p hook go m
  stands_kept hook (Mark v) m h = h
  stands_kept hook (Source e) m h = λ on. refl
  stands_kept hook Masquerade m h = λ entry. refl
  stands_kept hook (Dest e) m h = λ on. refl
  stands_kept hook (Redirect port) m h = λ on. refl
  stands_kept hook (Netmap net) m h = (λ on. refl, λ on. refl)
  stands_kept hook _ m h = tt

  pub arriving_stands : IfSome (visiting c site arriving p New (entered p)) (StandsAsWritten p)
  arriving_stands =
      shown_holds (StandsAsWritten p) (visits c site p New arriving (entering p))
      (visits_kept c site p Stands (λ r. true) (λ hook. true) (λ n. any_rule (rules_at c.chains n)) (λ hook met r known m h on. stands_kept hook r.go m h) arriving refl
      (entering p) refl)

  module _ (t : Transit) where
    abbrev Keeps : Passage → Type 0
    Keeps m = KeepsDestination t (transit_of m)

    keeps_kept : (hook : Hook) → writes_dst_at hook ≡ false → (go : IptGo) (m : Passage) → Keeps m → Writes Keeps site p hook go m
    keeps_kept hook off (Mark v) m h = h
    keeps_kept hook off (Source e) m h = λ on. h
    keeps_kept hook off Masquerade m h = λ entry. h
    keeps_kept hook off (Dest e) m h = λ on. absurd (both_ways (writes_dst_at hook) off on)
    keeps_kept hook off (Redirect port) m h = λ on. absurd (both_ways (writes_dst_at hook) off on)
    keeps_kept hook off (Netmap net) m h = (λ on. absurd (both_ways (writes_dst_at hook) off on), λ on. h)
    keeps_kept hook off _ m h = tt

    -- the destination is written at hooks ahead of routing alone
    pub visiting_keeps : (stations : List (IptTable × Hook)) → list_all (λ at. not (writes_dst_at at.1)) stations ≡ true
        → IfSome (visiting c site stations p New t) (KeepsDestination t)
    visiting_keeps stations all =
        shown_holds (KeepsDestination t) (visits c site p New stations (passage_of t))
        (visits_kept c site p Keeps (λ r. true) (λ hook. not (writes_dst_at hook)) (λ n. any_rule (rules_at c.chains n))
        (λ hook off r known m h on. keeps_kept hook (not-true (writes_dst_at hook) off) r.go m h) stations all (passage_of t) refl)

  -- the nat chain before routing comes last there, and puts the connection's destination in place
  pub arriving_tracked : (r : Rec) → IfSome (visiting c site arriving p (Est r) (entered p)) (λ t. t.packet.dst ≡ r.rdst)
  arriving_tracked r = behind (visit c site p (Est r) Mangle Prerouting (entering p))
    where
      behind : (way : Option Passage)
          → IfSome (option_map transit_of (option_and_then (visits c site p (Est r) ((Nat, Prerouting) ∷ [])) way)) (λ t. t.packet.dst ≡ r.rdst)
      behind None = tt
      behind (Some m) = refl

-- Walks in regular parts give alike packets one outcome, and for the rest have what regular walks have.
use Rattle.std.proofs.Common.{◌≡◌, ◌≢◌, ℕ, true, false, cond, nat_eq, Option, Some, None, IfSome, refl, sym, ap, ◌∙◌, subst, option_and_then}
use Rattle.std.proofs.lemmas.Bool.{cond_both, cond-true}
use Rattle.fws_net.specs.declared.packet.Packet.{Packet}
use Rattle.fws_net.specs.declared.outcome.Rewrite.{Rewrite}
use Rattle.fws_net.specs.declared.outcome.Outcome.TheVariants as outcomes
use Rattle.fws_net.specs.declared.connection.Rec.{Rec}
use Rattle.fws_net.specs.declared.connection.Kind.TheVariants.{New, Est}
use Rattle.fws_net.specs.declared.exit.Exit.{Exit}
use Rattle.fws_net.specs.declared.exit.Exit.TheVariants.{Deliver, Out, Lost}
use Rattle.fws_net.specs.declared.site.Site.{Site}
use Rattle.fws_net.specs.declared.transit.Transit.{Transit}
use Rattle.fws_net.specs.Fates.{has_ports, written_addr}
use Rattle.fws_net.specs.RegularWalks.{WritesNoPort}
use Rattle.fws_net.specs.Routes.{exit_at, is_local, route_of}
use Rattle.fws_net.specs.Transits.{nothing_written, entered, onwards, way_by, outcome_of}
use Rattle.fws_rules.specs.AlikeWays.{AlikeWays}
use Rattle.fws_rules.specs.Regular.{GivesAlikeOutcomes, Part, walk_by, IsPortless, StandsAsWritten, KeepsDestination, AreRegularParts, RegularPartsMakeAlikeWalks}
use Rattle.fws_rules.proofs.AlikeWays.{both_chosen, then_alike, outcome_alike, entered_alike, onwards_alike}

then_kept : (P Q : Transit → Type 0) (next : Transit → Option Transit) → ((t : Transit) → P t → IfSome (next t) Q)
    → (x : Option Transit) → IfSome x P → IfSome (option_and_then next x) Q
then_kept P Q next step None h = tt
then_kept P Q next step (Some t) h = step t h

-- what holds of what was written in the end holds of what an accepted packet is rewritten to
accepted_holds : (P : Transit → Type 0) (Q : Rewrite → Type 0) → ((t : Transit) → P t → Q t.wrote)
    → (way : Option Transit) (w : Rewrite) → outcome_of New way ≡ outcomes.Accept w → IfSome way P → Q w
accepted_holds P Q weaker None w e h = absurd (cc)
accepted_holds P Q weaker (Some t) w e h = let same : t.wrote ≡ w = cc in subst Q same (weaker t h)

not_rewritten : (r : Rec) (way : Option Transit) (w : Rewrite) → outcome_of (Est r) way ≡ outcomes.Accept w → w ≡ nothing_written
not_rewritten r None w e = absurd (cc)
not_rewritten r (Some t) w e = cc

-- the host's own packets aren't lost
host_leaves : (site : Site) (entry dst : ℕ) → nat_eq entry 0 ≡ true → exit_at site entry dst ≢ Lost
host_leaves site entry dst host lost =
    cond_both (is_local site dst) (Out 1) (Out (route_of site dst)) (λ exit. exit ≢ Lost) (λ on e. (cc)) (λ off e. (cc))
    (sym (cond-true (nat_eq entry 0) (cond (is_local site dst) (Out 1) (Out (route_of site dst))) _ host) ∙ lost)

module _ (site : Site) (arrive deliver forward send : Part) (parts : AreRegularParts arrive deliver forward send) where
  alike_outcomes : GivesAlikeOutcomes (walk_by arrive deliver forward send site)
  alike_outcomes p q k l a same =
      let start = entered_alike p q a in
      let behind = onwards_alike p q a site (deliver p k) (forward p k) (deliver q l) (forward q l) (parts.delivers.alike p q k l a same) (parts.forwards.alike p q k l a same) in
      outcome_alike p k l same _ _
      (both_chosen (AlikeWays p) (nat_eq p.entry 0) (nat_eq q.entry 0) _ _ _ _ (ap (λ x. nat_eq x 0) a.entry)
      (parts.sends.alike p q k l a same (entered p) (entered q) start)
      (then_alike p _ _ behind (arrive p k (entered p)) (arrive q l (entered q)) (parts.arrives.alike p q k l a same (entered p) (entered q) start)))

  module _ (p : Packet) where
    -- the way of a new packet behind routing
    abbrev behind_routing : Transit → Option Transit
    behind_routing t = onwards (deliver p New) (forward p New) (exit_at site p.entry t.packet.dst) t

    -- what the way of a new packet is, as the host sends it or as it arrives
    new_way : (P : Transit → Type 0) → (nat_eq p.entry 0 ≡ true → IfSome (send p New (entered p)) P)
        → IfSome (option_and_then behind_routing (arrive p New (entered p))) P
        → IfSome (way_by (arrive p New) (deliver p New) (forward p New) (send p New) site p) P
    new_way P host other =
        cond_both (nat_eq p.entry 0) (send p New (entered p)) (option_and_then behind_routing (arrive p New (entered p))) (λ way. IfSome way P) host (λ off. other)

    -- Ports

    way_portless : has_ports p.proto ≡ false → IfSome (way_by (arrive p New) (deliver p New) (forward p New) (send p New) site p) (IsPortless p)
    way_portless off =
        let start : IsPortless p (entered p) = record { proto = refl; wrote = (tt, tt) } in
        new_way (IsPortless p) (λ host. parts.sends.portless p off (entered p) start)
        (then_kept (IsPortless p) (IsPortless p) behind_routing (λ t h. by_exit (exit_at site p.entry t.packet.dst) t h) (arrive p New (entered p))
        (parts.arrives.portless p off (entered p) start))
      where
        by_exit : (exit : Exit) (t : Transit) → IsPortless p t → IfSome (onwards (deliver p New) (forward p New) exit t) (IsPortless p)
        by_exit Deliver t h = parts.delivers.portless p off t h
        by_exit (Out entry) t h = parts.forwards.portless p off t h
        by_exit Lost t h = tt

    -- Exits

    abbrev Leaves : Transit → Type 0
    Leaves t = exit_at site p.entry (written_addr t.wrote.dst p.dst) ≢ Lost

    any_leaves : (way : Option Transit) → nat_eq p.entry 0 ≡ true → IfSome way Leaves
    any_leaves None host = tt
    any_leaves (Some t) host = host_leaves site p.entry (written_addr t.wrote.dst p.dst) host

    still_leave : (t : Transit) → StandsAsWritten p t → exit_at site p.entry t.packet.dst ≢ Lost → (way : Option Transit) → IfSome way (KeepsDestination t) → IfSome way Leaves
    still_leave t stands leaves None same = tt
    still_leave t stands leaves (Some u) same = λ lost. leaves (ap (exit_at site p.entry) (stands ∙ ap (λ e. written_addr e p.dst) (sym same)) ∙ lost)

    routed_leave : (exit : Exit) (t : Transit) → exit_at site p.entry t.packet.dst ≡ exit → StandsAsWritten p t → IfSome (onwards (deliver p New) (forward p New) exit t) Leaves
    routed_leave Deliver t e stands = still_leave t stands (λ lost. (cc)) (deliver p New t) (parts.delivered p t)
    routed_leave (Out entry) t e stands = still_leave t stands (λ lost. (cc)) (forward p New t) (parts.forwarded p t)
    routed_leave Lost t e stands = tt

    way_leaves : IfSome (way_by (arrive p New) (deliver p New) (forward p New) (send p New) site p) Leaves
    way_leaves =
        new_way Leaves (any_leaves (send p New (entered p)))
        (then_kept (StandsAsWritten p) Leaves behind_routing (λ t h. routed_leave (exit_at site p.entry t.packet.dst) t refl h) (arrive p New (entered p)) (parts.routed p))

    -- Established packets

    module _ (r : Rec) (lost : exit_at site p.entry r.rdst ≡ Lost) where
      abbrev behind_lost : Transit → Option Transit
      behind_lost t = onwards (deliver p (Est r)) (forward p (Est r)) (exit_at site p.entry t.packet.dst) t

      lost_behind : (way : Option Transit) → IfSome way (λ t. t.packet.dst ≡ r.rdst) → option_and_then behind_lost way ≡ None
      lost_behind None tracked = refl
      lost_behind (Some t) tracked = ap (λ exit. onwards (deliver p (Est r)) (forward p (Est r)) exit t) (ap (exit_at site p.entry) tracked ∙ lost)

      way_lost : way_by (arrive p (Est r)) (deliver p (Est r)) (forward p (Est r)) (send p (Est r)) site p ≡ None
      way_lost =
          cond_both (nat_eq p.entry 0) (send p (Est r) (entered p)) (option_and_then behind_lost (arrive p (Est r) (entered p))) (λ way. way ≡ None)
          (λ host. absurd (host_leaves site p.entry r.rdst host lost))
          (λ off. lost_behind (arrive p (Est r) (entered p)) (parts.tracked p r))

pub regular_parts_make_alike_walks : RegularPartsMakeAlikeWalks
regular_parts_make_alike_walks site arrive deliver forward send parts = record {
  alike = alike_outcomes site arrive deliver forward send parts;
  written = λ p w e off. accepted_holds (IsPortless p) WritesNoPort (λ t h. h.wrote) _ w e (way_portless site arrive deliver forward send parts p off);
  unwritten = λ p r w e. not_rewritten r _ w e;
  leaves = λ p w e.
      accepted_holds _ (λ v. exit_at site p.entry (written_addr v.dst p.dst) ≢ Lost) (λ t h. h) _ w e (way_leaves site arrive deliver forward send parts p);
  lost = λ p r lost. ap (outcome_of (Est r)) (way_lost site arrive deliver forward send parts p r lost);
}

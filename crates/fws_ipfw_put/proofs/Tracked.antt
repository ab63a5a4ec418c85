-- The ways of packets of connections through the rules of a policy.
use Rattle.std.proofs.Common.{◌≡◌, ℕ, Bool, true, false, cond, ◌&&◌, ◌||◌, not, nat_eq, Option, Some, None, option_and_then, refl, sym, ap, ◌∙◌}
use Rattle.fws_net.specs.declared.connection.Kind.TheVariants.{Est}
use Rattle.fws_net.specs.declared.connection.Rec.{Rec}
use Rattle.fws_net.specs.declared.exit.Exit.{Exit}
use Rattle.fws_net.specs.declared.exit.Exit.TheVariants.{Deliver, Out, Lost}
use Rattle.fws_net.specs.declared.outcome.Outcome.{Outcome}
use Rattle.fws_net.specs.declared.outcome.Outcome.TheVariants.{Drop, Accept}
use Rattle.fws_net.specs.declared.packet.Packet.{Packet}
use Rattle.fws_net.specs.declared.site.Site.{Site}
use Rattle.fws_net.specs.declared.transit.Transit.{Transit}
use Rattle.fws_net.specs.Routes.{exit_at, is_local, route_of}
use Rattle.fws_net.specs.Transits.{entered, nothing_written, onwards, outcome_of, with_rec_dst}
use Rattle.fws_tree.specs.declared.tables.Tables.{Tables}
use Rattle.fws_tree.specs.Plain.{value}
use Rattle.fws_ipfw.specs.declared.config.IpfwConfig.{IpfwConfig}
use Rattle.fws_ipfw.specs.declared.pass.Pass.{Pass}
use Rattle.fws_ipfw.specs.Walk.{ended, pass_walk, rules_walk, walk}
use Rattle.fws_place.specs.Meaning.{IsPairOf, est_of, point_of}
use Rattle.fws_place.specs.Pairs.{IsLost, is_host}
use Rattle.fws_ipfw_put.specs.Known.{stays}
use Rattle.fws_ipfw_put.proofs.Passing.{known_passes}
use Rattle.fws_ipfw_put.proofs.Plan.{Plan, grouped, guarded, rest, rest_above}

-- Exits

by_local : (site : Site) (l f : Bool) (n : ℕ) → cond l Deliver (cond f (Out n) Lost) ≡ Deliver → l ≡ true
by_local site true f n h = refl
by_local site false true n h = absurd (out_isnt h) where
  out_isnt : Out n ≡ Deliver → ⊥
  out_isnt h = cc
by_local site false false n h = absurd (lost_isnt h) where
  lost_isnt : Lost ≡ Deliver → ⊥
  lost_isnt h = cc

by_out : (l f : Bool) (n entry : ℕ) → cond l Deliver (cond f (Out n) Lost) ≡ Out entry → (l ≡ false) × (f ≡ true)
by_out true f n entry h = absurd (deliver_isnt h) where
  deliver_isnt : Deliver ≡ Out entry → ⊥
  deliver_isnt h = cc
by_out false true n entry h = (refl, refl)
by_out false false n entry h = absurd (lost_isnt h) where
  lost_isnt : Lost ≡ Out entry → ⊥
  lost_isnt h = cc

arriving_exit : (site : Site) (e dst : ℕ) → nat_eq e 0 ≡ false → exit_at site e dst ≡ cond (is_local site dst) Deliver (cond site.forwarding (Out (route_of site dst)) Lost)
arriving_exit site e dst arrives = ap (λ b. cond b (cond (is_local site dst) (Out 1) (Out (route_of site dst))) (cond (is_local site dst) Deliver (cond site.forwarding (Out (route_of site dst)) Lost))) arrives

own_exit : (site : Site) (e dst : ℕ) → nat_eq e 0 ≡ true → exit_at site e dst ≡ Lost → ⊥
own_exit site e dst own lost = by (is_local site dst) (sym (ap (λ b. cond b (cond (is_local site dst) (Out 1) (Out (route_of site dst))) (cond (is_local site dst) Deliver (cond site.forwarding (Out (route_of site dst)) Lost))) own) ∙ lost) where
  by : (l : Bool) → cond l (Out 1) (Out (route_of site dst)) ≡ Lost → ⊥
  by true h = cc
  by false h = cc

module _ (site : Site) (tables : Tables) (c : IpfwConfig) (plan : Plan site tables c) where
  abbrev kept : Outcome
  kept = Accept nothing_written

  abbrev unmoved : Transit → Pass
  unmoved t = record { transit = t; translated = false }

  module _ (p : Packet) (r : Rec) (of_site : IsPairOf site p r) (b : Bool) (b_is : value plan.packet (point_of p r) ≡ Some b) (d : Bool) (d_is : value plan.before (point_of p r) ≡ Some d) where
    -- with the destination of the connection in place
    abbrev moved : Transit
    moved = record (entered p) { packet = with_rec_dst r p }

    abbrev leaves : Option Transit
    leaves = pass_walk c site p (Est r) true moved

    -- the outcome by what both trees tell
    table_is : (IsLost site p r → ⊥) → est_of tables p r ≡ cond ((is_host p || b) && (stays site p r || d)) kept Drop
    table_is found = plan.known.told p r b d of_site found b_is d_is

    -- In

    in_pass : nat_eq p.entry 0 ≡ false → pass_walk c site p (Est r) false (entered p) ≡ cond b (Some moved) None
    in_pass arrives =
        let g = guarded site tables c plan in
        let m = unmoved (entered p) in
        ap (λ l. rules_walk c site p (Est r) false l 0 m) (grouped site tables c plan)
        ∙ g.arrives p (Est r) (rest site tables c plan) m (point_of p r) b (rest_above site tables c plan) arrives refl of_site (plan.known.entered p r) b_is
        ∙ ap (λ o. cond b o None) (known_passes c site p r false (rest site tables c plan) m)

    -- Out

    forwarded_value : nat_eq p.entry 0 ≡ false → is_local site r.rdst ≡ false → site.forwarding ≡ true → value plan.behind (point_of p r) ≡ Some d
    forwarded_value arrives elsewhere forwards =
        plan.is_met (point_of p r) of_site
        ∙ ap (λ h. cond (not h && (is_local site r.rdst || not site.forwarding)) (Some true) (value plan.before (point_of p r))) arrives
        ∙ ap (λ l. cond (l || not site.forwarding) (Some true) (value plan.before (point_of p r))) elsewhere
        ∙ ap (λ f. cond (not f) (Some true) (value plan.before (point_of p r))) forwards
        ∙ d_is

    out_pass : nat_eq p.entry 0 ≡ false → is_local site r.rdst ≡ false → site.forwarding ≡ true → leaves ≡ cond d (Some (ended (Est r) true (unmoved moved))) None
    out_pass arrives elsewhere forwards =
        let g = guarded site tables c plan in
        let m = unmoved moved in
        ap (λ l. rules_walk c site p (Est r) true l 0 m) (grouped site tables c plan)
        ∙ g.forwarded p (Est r) (rest site tables c plan) m (point_of p r) d (rest_above site tables c plan) refl arrives refl of_site (plan.known.routed p r)
        (forwarded_value arrives elsewhere forwards)
        ∙ ap (λ o. cond d o None) (known_passes c site p r true (rest site tables c plan) m)

    own_value : nat_eq p.entry 0 ≡ true → value plan.behind (point_of p r) ≡ Some d
    own_value own =
        plan.is_met (point_of p r) of_site
        ∙ ap (λ h. cond (not h && (is_local site r.rdst || not site.forwarding)) (Some true) (value plan.before (point_of p r))) own
        ∙ d_is

    own_pass : nat_eq p.entry 0 ≡ true → leaves ≡ cond d (Some (ended (Est r) true (unmoved moved))) None
    own_pass own =
        let g = guarded site tables c plan in
        let m = unmoved moved in
        ap (λ l. rules_walk c site p (Est r) true l 0 m) (grouped site tables c plan)
        ∙ g.sent p (Est r) (rest site tables c plan) m (point_of p r) d (rest_above site tables c plan) refl own refl of_site (plan.known.routed p r) (own_value own)
        ∙ ap (λ o. cond d o None) (known_passes c site p r true (rest site tables c plan) m)

    left_so : (d : Bool) (t : Transit) → outcome_of (Est r) (cond d (Some t) None) ≡ cond d kept Drop
    left_so true t = refl
    left_so false t = refl

    -- The whole way

    abbrev routed : Option Transit → Outcome
    routed o = outcome_of (Est r) (option_and_then (λ (t : Transit). onwards Some (pass_walk c site p (Est r) true) (exit_at site p.entry t.packet.dst) t) o)

    arrives_so : (b : Bool) → routed (cond b (Some moved) None) ≡ cond b (outcome_of (Est r) (onwards Some (pass_walk c site p (Est r) true) (exit_at site p.entry r.rdst) moved)) Drop
    arrives_so true = refl
    arrives_so false = refl

    arrives_way : nat_eq p.entry 0 ≡ false
        → walk c site p (Est r) ≡ cond b (outcome_of (Est r) (onwards Some (pass_walk c site p (Est r) true) (exit_at site p.entry r.rdst) moved)) Drop
    arrives_way arrives =
        ap (λ h. outcome_of (Est r) (cond h leaves
        (option_and_then (λ (t : Transit). onwards Some (pass_walk c site p (Est r) true) (exit_at site p.entry t.packet.dst) t) (pass_walk c site p (Est r) false (entered p))))) arrives
        ∙ ap routed (in_pass arrives)
        ∙ arrives_so b

    by_exit : nat_eq p.entry 0 ≡ false → (exit : Exit) → exit_at site p.entry r.rdst ≡ exit → walk c site p (Est r) ≡ est_of tables p r
    by_exit arrives Deliver exit_is =
        let here = by_local site (is_local site r.rdst) site.forwarding (route_of site r.rdst) (sym (arriving_exit site p.entry r.rdst arrives) ∙ exit_is) in
        arrives_way arrives
        ∙ ap (λ e. cond b (outcome_of (Est r) (onwards Some (pass_walk c site p (Est r) true) e moved)) Drop) exit_is
        ∙ sym (told_so b here)
        ∙ sym (table_is (λ lost. not_lost (sym exit_is ∙ lost))) where
          not_lost : Deliver ≡ Lost → ⊥
          not_lost h = cc

          told_so : (b : Bool) → is_local site r.rdst ≡ true → cond ((is_host p || b) && (stays site p r || d)) kept Drop ≡ cond b kept Drop
          told_so true here = rw arrives (rw here refl)
          told_so false here = rw arrives refl
    by_exit arrives (Out entry) exit_is =
        let there = by_out (is_local site r.rdst) site.forwarding (route_of site r.rdst) entry (sym (arriving_exit site p.entry r.rdst arrives) ∙ exit_is) in
        arrives_way arrives
        ∙ ap (λ e. cond b (outcome_of (Est r) (onwards Some (pass_walk c site p (Est r) true) e moved)) Drop) exit_is
        ∙ ap (λ o. cond b (outcome_of (Est r) o) Drop) (out_pass arrives there.0 there.1)
        ∙ ap (λ o. cond b o Drop) (left_so d (ended (Est r) true (unmoved moved)))
        ∙ sym (told_so b d there.0)
        ∙ sym (table_is (λ lost. not_lost (sym exit_is ∙ lost))) where
          not_lost : Out entry ≡ Lost → ⊥
          not_lost h = cc

          told_so : (b d : Bool) → is_local site r.rdst ≡ false → cond ((is_host p || b) && (stays site p r || d)) kept Drop ≡ cond b (cond d kept Drop) Drop
          told_so true d elsewhere = rw arrives (rw elsewhere refl)
          told_so false d elsewhere = rw arrives refl
    by_exit arrives Lost exit_is =
        arrives_way arrives
        ∙ ap (λ e. cond b (outcome_of (Est r) (onwards Some (pass_walk c site p (Est r) true) e moved)) Drop) exit_is
        ∙ dropped_so b
        ∙ sym (plan.known.lost p r of_site exit_is) where
          dropped_so : (b : Bool) → cond b Drop Drop ≡ Drop
          dropped_so true = refl
          dropped_so false = refl

    own_way : nat_eq p.entry 0 ≡ true → walk c site p (Est r) ≡ est_of tables p r
    own_way own =
        ap (λ h. outcome_of (Est r) (cond h leaves
        (option_and_then (λ (t : Transit). onwards Some (pass_walk c site p (Est r) true) (exit_at site p.entry t.packet.dst) t) (pass_walk c site p (Est r) false (entered p))))) own
        ∙ ap (outcome_of (Est r)) (own_pass own)
        ∙ left_so d (ended (Est r) true (unmoved moved))
        ∙ sym (told_so d)
        ∙ sym (table_is (own_exit site p.entry r.rdst own)) where
          told_so : (d : Bool) → cond ((is_host p || b) && (stays site p r || d)) kept Drop ≡ cond d kept Drop
          told_so d = rw own refl

    by_entry : (h : Bool) → nat_eq p.entry 0 ≡ h → walk c site p (Est r) ≡ est_of tables p r
    by_entry true own = own_way own
    by_entry false arrives = by_exit arrives (exit_at site p.entry r.rdst) refl

  pub est_placed : (p : Packet) (r : Rec) → IsPairOf site p r → walk c site p (Est r) ≡ est_of tables p r
  est_placed p r of_site =
      let b = plan.known.packet_value p r of_site in
      let d = plan.known.behind_value p r of_site in
      by_entry p r of_site b.0 b.1 d.0 d.1 (nat_eq p.entry 0) refl

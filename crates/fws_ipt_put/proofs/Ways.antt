-- The ways of packets through the chains of a policy.
use Rattle.std.proofs.Common.{◌≡◌, ◌≢◌, ℕ, Bool, true, false, cond, ◌&&◌, nat_eq, Some, None, option_and_then, unwrap_or, List, [], ◌∷◌, refl, sym, ap, ◌∙◌, eq-eqb}
use Rattle.std.proofs.lemmas.Bool.{false≢true, eqb-true}
use Rattle.fws_net.specs.declared.connection.Kind.TheVariants.{New, Est}
use Rattle.fws_net.specs.declared.connection.Rec.{Rec}
use Rattle.fws_net.specs.declared.exit.Exit.{Exit}
use Rattle.fws_net.specs.declared.exit.Exit.TheVariants.{Deliver, Out, Lost}
use Rattle.fws_net.specs.declared.outcome.Rewrite.{Rewrite}
use Rattle.fws_net.specs.declared.outcome.Outcome.{Outcome}
use Rattle.fws_net.specs.declared.outcome.Outcome.TheVariants.{Drop, Accept}
use Rattle.fws_net.specs.declared.packet.Packet.{Packet}
use Rattle.fws_net.specs.declared.site.Site.{Site}
use Rattle.fws_net.specs.Fates.{written_addr}
use Rattle.fws_net.specs.Routes.{exit_at, is_local, route_of}
use Rattle.fws_net.specs.Transits.{nothing_written, with_rec_dst}
use Rattle.fws_tree.specs.declared.tables.Tables.{Tables}
use Rattle.fws_tree.specs.Plain.{value}
use Rattle.fws_tree.specs.Regular.{AreRegular}
use Rattle.fws_ipt.specs.declared.config.IptConfig.{IptConfig}
use Rattle.fws_ipt.specs.declared.config.IptRule.{IptRule}
use Rattle.fws_ipt.specs.declared.config.IptTable.TheVariants.{Filter, Nat, Mangle}
use Rattle.fws_ipt.specs.declared.hook.Hook.{Hook}
use Rattle.fws_ipt.specs.declared.hook.Hook.TheVariants.{Prerouting, Input, Forward, Output, Postrouting}
use Rattle.fws_ipt.specs.declared.passage.Passage.{Passage}
use Rattle.fws_ipt.specs.Walk.{arriving, by_policy, delivered, entering, forwarded, go_to, outcome_of, routed, sent_out, visit, visits, walk}
use Rattle.fws_ipt_put_chains.specs.declared.verdict.Verdict.TheVariants as verdicts
use Rattle.fws_ipt_put_chains.specs.Branches.{verdict_end}
use Rattle.fws_place.specs.Meaning.{IsPacketOf, IsPairOf, est_of, new_of, no_ends, point_of}
use Rattle.fws_place.specs.Pairs.{IsLost}
use Rattle.fws_place.specs.TellingLaws.{PointsAreSeen}
use Rattle.fws_ipt_put.specs.declared.marks.Mark.{Mark}
use Rattle.fws_ipt_put.specs.Marks.{passing, verdict_of}
use Rattle.fws_ipt_put.specs.NatRules.{end_rules, nat_rules}
use Rattle.fws_ipt_put.proofs.Lists.{some_is}
use Rattle.fws_ipt_put.proofs.NatMet.{Writes, end_written}
use Rattle.fws_ipt_put.proofs.Standing.{Stands}
use Rattle.fws_ipt_put.proofs.Plan.{Known, Plan}
use Rattle.fws_ipt_put.proofs.Written.{both_written, dst_written, mark_stays, source_stays}
use Rattle.fws_ipt_put.proofs.NatMarks as given
use Rattle.fws_ipt_put.proofs.Visits as hooks

module _ (seen : PointsAreSeen) (site : Site) (tables : Tables) (regular : AreRegular site tables) (k : Known site tables) (c : IptConfig) (plan : Plan site tables k c.chains) where
  -- New packets

  -- the table's outcome
  new_is : (p : Packet) (o : Outcome) → value tables.fresh.1 (point_of p no_ends) ≡ Some o → new_of tables p ≡ o
  new_is p o is = ap (λ x. unwrap_or x Drop) is

  news_is : (p : Packet) (o : Outcome) → IsPacketOf site p → value tables.fresh.1 (point_of p no_ends) ≡ Some o
      → value k.news (point_of p no_ends) ≡ Some (verdict_of k.rewrites o)
  news_is p o of_site is =
      let made = k.news_made (point_of p no_ends) of_site in
      made.2 ∙ ap (λ x. Some (verdict_of k.rewrites x)) (some_is (sym made.1 ∙ is))

  arrives_if : (mark : Mark) (x y : List IptRule) → mark.arrives ≡ true → cond mark.arrives x y ≡ x
  arrives_if mark x y h = ap (λ b. cond b x y) h

  module _ (p : Packet) (of_site : IsPacketOf site p) (w : Rewrite) (is : value tables.fresh.1 (point_of p no_ends) ≡ Some (Accept w)) (v : ℕ) (mark : given.IsMarked site tables regular k c plan p w v) where
    abbrev first : Passage
    first = given.marked_passage site tables regular k c plan p v

    abbrev second : Passage
    second = end_written false p w.dst first

    abbrev third : Passage
    third = end_written true p w.src second

    there : (mark : Mark) → mark.rewrite ≡ w → value tables.fresh.1 (point_of p no_ends) ≡ Some (Accept mark.rewrite)
    there mark same = is ∙ ap (λ x. Some (Accept x)) (sym same)

    not_zero : nat_eq p.entry 0 ≡ false → p.entry ≢ 0
    not_zero arrives zero_is = false≢true (sym arrives ∙ eq-eqb p.entry 0 zero_is)

    at_prerouting : nat_eq p.entry 0 ≡ false → given.StandsAt site tables regular k c plan Prerouting false w
    at_prerouting arrives mark same known v =
        arrives_if mark _ [] (known.arrives (point_of p no_ends) of_site (there mark same) (not_zero arrives))
        ∙ ap (λ (x : Rewrite). end_rules false v mark mark.dst_blocks x.dst) same

    at_input : nat_eq p.entry 0 ≡ false → given.StandsAt site tables regular k c plan Input true w
    at_input arrives mark same known v =
        arrives_if mark _ [] (known.arrives (point_of p no_ends) of_site (there mark same) (not_zero arrives))
        ∙ ap (λ (x : Rewrite). end_rules true v mark mark.src_blocks x.src) same

    at_output : p.entry ≡ 0 → given.StandsAt site tables regular k c plan Output false w
    at_output host mark same known v =
        ap (λ b. cond b (end_rules false v mark mark.dst_blocks mark.rewrite.dst) []) (known.sends (point_of p no_ends) of_site (there mark same) host)
        ∙ ap (λ (x : Rewrite). end_rules false v mark mark.dst_blocks x.dst) same

    at_postrouting : given.StandsAt site tables regular k c plan Postrouting true w
    at_postrouting mark same known v = ap (λ (x : Rewrite). end_rules true v mark mark.src_blocks x.src) same

    writes_source : (hook : Hook) (at : ℕ) → Stands c.chains Nat hook true (nat_rules hook 5 k.marks) at → Writes true hook → given.StandsAt site tables regular k c plan hook true w
        → visit c site p New Nat hook second ≡ Some third
    writes_source hook at stands here stands_at =
        let stays = source_stays p v w.dst in
        mark.nat hook at stands true here stands_at second (mark_stays false p w.dst first) stays.1 stays.0

    new_outcome : outcome_of New (Some third) ≡ Accept w
    new_outcome = ap Accept (both_written p v w.src w.dst)

    delivered_way : nat_eq p.entry 0 ≡ false → visits c site p New delivered second ≡ Some third
    delivered_way arrives =
        ap (option_and_then (visits c site p New ((Filter, Input) ∷ (Nat, Input) ∷ []))) (hooks.mangle_delivered seen site tables k c plan p New second)
        ∙ ap (option_and_then (visits c site p New ((Nat, Input) ∷ []))) (hooks.new_delivered seen site tables k c plan p second)
        ∙ ap (option_and_then (visits c site p New [])) (writes_source Input plan.nat_input_at plan.nat_input (refl, refl) (at_input arrives))

    forwarded_way : visits c site p New forwarded second ≡ Some third
    forwarded_way =
        ap (option_and_then (visits c site p New ((Filter, Forward) ∷ (Mangle, Postrouting) ∷ (Nat, Postrouting) ∷ []))) (hooks.mangle_forwarded seen site tables k c plan p New second)
        ∙ ap (option_and_then (visits c site p New ((Mangle, Postrouting) ∷ (Nat, Postrouting) ∷ []))) (hooks.new_forwarded seen site tables k c plan p second)
        ∙ ap (option_and_then (visits c site p New ((Nat, Postrouting) ∷ []))) (hooks.mangle_leaves seen site tables k c plan p New second)
        ∙ ap (option_and_then (visits c site p New [])) (writes_source Postrouting plan.nat_postrouting_at plan.nat_postrouting (refl, refl) at_postrouting)

    onwards : nat_eq p.entry 0 ≡ false → (exit : Exit) → exit_at site p.entry (written_addr w.dst p.dst) ≡ exit → go_to c site p New exit second ≡ Some third
    onwards arrives Deliver exit_is = delivered_way arrives
    onwards arrives (Out entry) exit_is = forwarded_way
    onwards arrives Lost exit_is = absurd (regular.fresh_leaves (point_of p no_ends) w of_site is exit_is)

    arriving_way : nat_eq p.entry 0 ≡ false → visits c site p New arriving (entering p) ≡ Some second
    arriving_way arrives =
        ap (option_and_then (visits c site p New ((Nat, Prerouting) ∷ [])))
        (hooks.new_arrives seen site tables k c plan p (verdict_of k.rewrites (Accept w)) of_site arrives (news_is p (Accept w) of_site is) ∙ mark.decides)
        ∙ ap (option_and_then (visits c site p New []))
        (mark.nat Prerouting plan.nat_prerouting_at plan.nat_prerouting false refl (at_prerouting arrives) first refl refl refl)

    arrives_accepted : nat_eq p.entry 0 ≡ false → walk c site p New ≡ Accept w
    arrives_accepted arrives =
        ap (λ b. outcome_of New (cond b (visits c site p New sent_out (entering p)) (option_and_then (routed c site p New) (visits c site p New arriving (entering p))))) arrives
        ∙ ap (λ o. outcome_of New (option_and_then (routed c site p New) o)) (arriving_way arrives)
        ∙ ap (λ dst. outcome_of New (go_to c site p New (exit_at site p.entry dst) second)) (dst_written p v w.dst)
        ∙ ap (outcome_of New) (onwards arrives (exit_at site p.entry (written_addr w.dst p.dst)) refl)
        ∙ new_outcome

    sent_way : p.entry ≡ 0 → visits c site p New sent_out (entering p) ≡ Some third
    sent_way host =
        ap (option_and_then (visits c site p New ((Nat, Output) ∷ (Filter, Output) ∷ (Mangle, Postrouting) ∷ (Nat, Postrouting) ∷ [])))
        (hooks.new_sent seen site tables k c plan p (verdict_of k.rewrites (Accept w)) of_site host (news_is p (Accept w) of_site is) ∙ mark.decides)
        ∙ ap (option_and_then (visits c site p New ((Filter, Output) ∷ (Mangle, Postrouting) ∷ (Nat, Postrouting) ∷ [])))
        (mark.nat Output plan.nat_output_at plan.nat_output false refl (at_output host) first refl refl refl)
        ∙ ap (option_and_then (visits c site p New ((Mangle, Postrouting) ∷ (Nat, Postrouting) ∷ []))) (hooks.new_output seen site tables k c plan p second)
        ∙ ap (option_and_then (visits c site p New ((Nat, Postrouting) ∷ []))) (hooks.mangle_leaves seen site tables k c plan p New second)
        ∙ ap (option_and_then (visits c site p New [])) (writes_source Postrouting plan.nat_postrouting_at plan.nat_postrouting (refl, refl) at_postrouting)

    host_accepted : nat_eq p.entry 0 ≡ true → walk c site p New ≡ Accept w
    host_accepted host =
        ap (λ b. outcome_of New (cond b (visits c site p New sent_out (entering p)) (option_and_then (routed c site p New) (visits c site p New arriving (entering p))))) host
        ∙ ap (outcome_of New) (sent_way (eqb-true p.entry 0 host))
        ∙ new_outcome

  accepted : (p : Packet) → IsPacketOf site p → (w : Rewrite) → value tables.fresh.1 (point_of p no_ends) ≡ Some (Accept w) → walk c site p New ≡ Accept w
  accepted p of_site w is = by_entry (nat_eq p.entry 0) refl where
    by_entry : (host : Bool) → nat_eq p.entry 0 ≡ host → walk c site p New ≡ Accept w
    by_entry true host = let mark = given.is_marked site tables regular k c plan p w of_site is in host_accepted p of_site w is mark.0 mark.1 host
    by_entry false arrives = let mark = given.is_marked site tables regular k c plan p w of_site is in arrives_accepted p of_site w is mark.0 mark.1 arrives

  dropped : (p : Packet) → IsPacketOf site p → value tables.fresh.1 (point_of p no_ends) ≡ Some Drop → walk c site p New ≡ Drop
  dropped p of_site is = by_entry (nat_eq p.entry 0) refl where
    by_entry : (host : Bool) → nat_eq p.entry 0 ≡ host → walk c site p New ≡ Drop
    by_entry true host =
        ap (λ b. outcome_of New (cond b (visits c site p New sent_out (entering p)) (option_and_then (routed c site p New) (visits c site p New arriving (entering p))))) host
        ∙ ap (λ o. outcome_of New (option_and_then (visits c site p New ((Nat, Output) ∷ (Filter, Output) ∷ (Mangle, Postrouting) ∷ (Nat, Postrouting) ∷ [])) o))
        (hooks.new_sent seen site tables k c plan p verdicts.Drop of_site (eqb-true p.entry 0 host) (news_is p Drop of_site is))
    by_entry false arrives =
        ap (λ b. outcome_of New (cond b (visits c site p New sent_out (entering p)) (option_and_then (routed c site p New) (visits c site p New arriving (entering p))))) arrives
        ∙ ap (λ o. outcome_of New (option_and_then (routed c site p New) (option_and_then (visits c site p New ((Nat, Prerouting) ∷ [])) o)))
        (hooks.new_arrives seen site tables k c plan p verdicts.Drop of_site arrives (news_is p Drop of_site is))

  pub new_placed : (p : Packet) → IsPacketOf site p → walk c site p New ≡ new_of tables p
  new_placed p of_site = by_outcome (k.news_made (point_of p no_ends) of_site).0 (k.news_made (point_of p no_ends) of_site).1 where
    by_outcome : (o : Outcome) → value tables.fresh.1 (point_of p no_ends) ≡ Some o → walk c site p New ≡ new_of tables p
    by_outcome Drop is = dropped p of_site is ∙ sym (new_is p Drop is)
    by_outcome (Accept w) is = accepted p of_site w is ∙ sym (new_is p (Accept w) is)

  -- Packets of connections

  entering_is : (p : Packet) (r : Rec) → IsPairOf site p r → (b : Bool) × (value k.packet (point_of p r) ≡ Some b) × (value k.entering (point_of p r) ≡ Some (passing b))
  entering_is p r of_site = k.entering_made (point_of p r) of_site

  routed_is : (p : Packet) (r : Rec) → IsPairOf site p r → (b : Bool) × (value k.behind (point_of p r) ≡ Some b) × (value k.routed (point_of p r) ≡ Some (passing b))
  routed_is p r of_site = k.routed_made (point_of p r) of_site

  abbrev kept : Outcome
  kept = Accept nothing_written

  -- how a packet of a connection is left where the rules of a chain pass it or don't
  passing_mangle : (b : Bool) (m : Passage) → by_policy false (verdict_end (passing b) m) ≡ cond b (Some m) None
  passing_mangle true m = refl
  passing_mangle false m = refl

  passing_filter : (b : Bool) (m : Passage) → by_policy true (verdict_end (passing b) m) ≡ cond b (Some m) None
  passing_filter true m = refl
  passing_filter false m = refl

  module _ (p : Packet) (r : Rec) (of_site : IsPairOf site p r) (b : Bool) (b_is : value k.packet (point_of p r) ≡ Some b) (enters : value k.entering (point_of p r) ≡ Some (passing b))
      (d : Bool) (d_is : value k.behind (point_of p r) ≡ Some d) (goes : value k.routed (point_of p r) ≡ Some (passing d)) where
    abbrev moved : Passage
    moved = record (entering p) { packet = with_rec_dst r p }

    est_delivered_way : nat_eq p.entry 0 ≡ false → outcome_of (Est r) (visits c site p (Est r) delivered moved) ≡ cond d kept Drop
    est_delivered_way arrives =
        ap (λ o. outcome_of (Est r) (option_and_then (visits c site p (Est r) ((Filter, Input) ∷ (Nat, Input) ∷ [])) o)) (hooks.mangle_delivered seen site tables k c plan p (Est r) moved)
        ∙ ap (λ o. outcome_of (Est r) (option_and_then (visits c site p (Est r) ((Nat, Input) ∷ [])) o))
        (hooks.est_delivered seen site tables k c plan p r (passing d) moved of_site arrives refl goes ∙ passing_filter d moved)
        ∙ ended_so d where
          ended_so : (d : Bool) → outcome_of (Est r) (option_and_then (visits c site p (Est r) ((Nat, Input) ∷ [])) (cond d (Some moved) None)) ≡ cond d kept Drop
          ended_so true = refl
          ended_so false = refl

    est_forwarded_way : nat_eq p.entry 0 ≡ false → outcome_of (Est r) (visits c site p (Est r) forwarded moved) ≡ cond d kept Drop
    est_forwarded_way arrives =
        ap (λ o. outcome_of (Est r) (option_and_then (visits c site p (Est r) ((Filter, Forward) ∷ (Mangle, Postrouting) ∷ (Nat, Postrouting) ∷ [])) o)) (hooks.mangle_forwarded seen site tables k c plan p (Est r) moved)
        ∙ ap (λ o. outcome_of (Est r) (option_and_then (visits c site p (Est r) ((Mangle, Postrouting) ∷ (Nat, Postrouting) ∷ [])) o))
        (hooks.est_forwarded seen site tables k c plan p r (passing d) moved of_site arrives refl goes ∙ passing_filter d moved)
        ∙ ended_so d where
          ended_so : (d : Bool) → outcome_of (Est r) (option_and_then (visits c site p (Est r) ((Mangle, Postrouting) ∷ (Nat, Postrouting) ∷ [])) (cond d (Some moved) None)) ≡ cond d kept Drop
          ended_so true = ap (λ o. outcome_of (Est r) (option_and_then (visits c site p (Est r) ((Nat, Postrouting) ∷ [])) o)) (hooks.mangle_leaves seen site tables k c plan p (Est r) moved)
          ended_so false = refl

    -- whether it passes mangle, and what becomes of it then
    est_arriving : nat_eq p.entry 0 ≡ false → walk c site p (Est r) ≡ cond b (outcome_of (Est r) (routed c site p (Est r) moved)) Drop
    est_arriving arrives =
        ap (λ h. outcome_of (Est r) (cond h (visits c site p (Est r) sent_out (entering p)) (option_and_then (routed c site p (Est r)) (visits c site p (Est r) arriving (entering p))))) arrives
        ∙ ap (λ o. outcome_of (Est r) (option_and_then (routed c site p (Est r)) (option_and_then (visits c site p (Est r) ((Nat, Prerouting) ∷ [])) o)))
        (hooks.est_arrives seen site tables k c plan p r (passing b) of_site arrives enters ∙ passing_mangle b (entering p))
        ∙ passed_so b where
          passed_so : (b : Bool)
              → outcome_of (Est r) (option_and_then (routed c site p (Est r)) (option_and_then (visits c site p (Est r) ((Nat, Prerouting) ∷ [])) (cond b (Some (entering p)) None)))
              ≡ cond b (outcome_of (Est r) (routed c site p (Est r) moved)) Drop
          passed_so true = refl
          passed_so false = refl

    both_so : (b d : Bool) → cond b (cond d kept Drop) Drop ≡ cond (b && d) kept Drop
    both_so true d = refl
    both_so false d = refl

    always_dropped : (b : Bool) → cond b Drop Drop ≡ Drop
    always_dropped true = refl
    always_dropped false = refl

    found : (exit : Exit) → exit_at site p.entry r.rdst ≡ exit → (exit ≡ Lost → ⊥) → IsLost site p r → ⊥
    found exit exit_is other lost = other (sym exit_is ∙ lost)

    table_is : (IsLost site p r → ⊥) → est_of tables p r ≡ cond (b && d) kept Drop
    table_is found = k.told p r b d of_site found b_is d_is

    est_by_exit : nat_eq p.entry 0 ≡ false → (exit : Exit) → exit_at site p.entry r.rdst ≡ exit → walk c site p (Est r) ≡ est_of tables p r
    est_by_exit arrives Deliver exit_is =
        est_arriving arrives
        ∙ ap (λ e. cond b (outcome_of (Est r) (go_to c site p (Est r) e moved)) Drop) exit_is
        ∙ ap (λ o. cond b o Drop) (est_delivered_way arrives)
        ∙ both_so b d
        ∙ sym (table_is (found Deliver exit_is (λ h. cc)))
    est_by_exit arrives (Out entry) exit_is =
        est_arriving arrives
        ∙ ap (λ e. cond b (outcome_of (Est r) (go_to c site p (Est r) e moved)) Drop) exit_is
        ∙ ap (λ o. cond b o Drop) (est_forwarded_way arrives)
        ∙ both_so b d
        ∙ sym (table_is (found (Out entry) exit_is (λ h. cc)))
    est_by_exit arrives Lost exit_is =
        est_arriving arrives
        ∙ ap (λ e. cond b (outcome_of (Est r) (go_to c site p (Est r) e moved)) Drop) exit_is
        ∙ always_dropped b
        ∙ sym (k.lost p r of_site exit_is)

    -- the host's own
    host_found : nat_eq p.entry 0 ≡ true → IsLost site p r → ⊥
    host_found host lost = by_local (is_local site r.rdst) (sym (ap (λ h. cond h (cond (is_local site r.rdst) (Out 1) (Out (route_of site r.rdst)))
        (cond (is_local site r.rdst) Deliver (cond site.forwarding (Out (route_of site r.rdst)) Lost))) host) ∙ lost) where
          by_local : (l : Bool) → cond l (Out 1) (Out (route_of site r.rdst)) ≡ Lost → ⊥
          by_local true h = cc
          by_local false h = cc

    est_host : nat_eq p.entry 0 ≡ true → walk c site p (Est r) ≡ est_of tables p r
    est_host host =
        ap (λ h. outcome_of (Est r) (cond h (visits c site p (Est r) sent_out (entering p)) (option_and_then (routed c site p (Est r)) (visits c site p (Est r) arriving (entering p))))) host
        ∙ ap (λ o. outcome_of (Est r) (option_and_then (visits c site p (Est r) ((Nat, Output) ∷ (Filter, Output) ∷ (Mangle, Postrouting) ∷ (Nat, Postrouting) ∷ [])) o))
        (hooks.est_sent seen site tables k c plan p r (passing b) of_site (eqb-true p.entry 0 host) enters ∙ passing_mangle b (entering p))
        ∙ entered_so b
        ∙ ap (λ o. cond b (outcome_of (Est r) (option_and_then (visits c site p (Est r) ((Mangle, Postrouting) ∷ (Nat, Postrouting) ∷ [])) o)) Drop)
        (hooks.est_output seen site tables k c plan p r (passing d) moved of_site (eqb-true p.entry 0 host) refl goes ∙ passing_filter d moved)
        ∙ ap (λ o. cond b o Drop) (left_so d)
        ∙ both_so b d
        ∙ sym (table_is (host_found host)) where
          entered_so : (b : Bool)
              → outcome_of (Est r) (option_and_then (visits c site p (Est r) ((Nat, Output) ∷ (Filter, Output) ∷ (Mangle, Postrouting) ∷ (Nat, Postrouting) ∷ [])) (cond b (Some (entering p)) None))
              ≡ cond b (outcome_of (Est r) (option_and_then (visits c site p (Est r) ((Mangle, Postrouting) ∷ (Nat, Postrouting) ∷ [])) (visit c site p (Est r) Filter Output moved))) Drop
          entered_so true = refl
          entered_so false = refl

          left_so : (d : Bool) → outcome_of (Est r) (option_and_then (visits c site p (Est r) ((Mangle, Postrouting) ∷ (Nat, Postrouting) ∷ [])) (cond d (Some moved) None)) ≡ cond d kept Drop
          left_so true = ap (λ o. outcome_of (Est r) (option_and_then (visits c site p (Est r) ((Nat, Postrouting) ∷ [])) o)) (hooks.mangle_leaves seen site tables k c plan p (Est r) moved)
          left_so false = refl

    est_any : (host : Bool) → nat_eq p.entry 0 ≡ host → walk c site p (Est r) ≡ est_of tables p r
    est_any true host = est_host host
    est_any false arrives = est_by_exit arrives (exit_at site p.entry r.rdst) refl

  pub est_placed : (p : Packet) (r : Rec) → IsPairOf site p r → walk c site p (Est r) ≡ est_of tables p r
  est_placed p r of_site =
      let enters = entering_is p r of_site in
      let goes = routed_is p r of_site in
      est_any p r of_site enters.0 enters.1 enters.2 goes.0 goes.1 goes.2 (nat_eq p.entry 0) refl

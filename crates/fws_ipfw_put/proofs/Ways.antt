-- The ways of packets through the rules of a policy.
use Rattle.std.proofs.Common.{◌≡◌, ◌≢◌, inl, ℕ, Bool, true, false, cond, ◌&&◌, ◌||◌, not, nat_eq, Option, Some, None, option_and_then, unwrap_or, List, [], ◌∷◌, ◌++◌, length, arith, refl, sym, ap, ◌∙◌, subst}
use Rattle.std.proofs.lemmas.Bool.{false≢true, ne_eqb, eq-eqb}
use Rattle.std.proofs.lemmas.List.Elements.{All-contains}
use Rattle.std.specs.List.{list_any}
use Rattle.std.specs.Option.{option_map, option_map_or}
use Rattle.fws_net.specs.declared.connection.Kind.TheVariants.{New}
use Rattle.fws_net.specs.declared.connection.Rec.{Rec}
use Rattle.fws_net.specs.declared.exit.Exit.{Exit}
use Rattle.fws_net.specs.declared.exit.Exit.TheVariants.{Deliver, Out, Lost}
use Rattle.fws_net.specs.declared.outcome.End.{End}
use Rattle.fws_net.specs.declared.outcome.Outcome.{Outcome}
use Rattle.fws_net.specs.declared.outcome.Outcome.TheVariants.{Drop, Accept}
use Rattle.fws_net.specs.declared.outcome.Rewrite.{Rewrite}
use Rattle.fws_net.specs.declared.packet.Packet.{Packet}
use Rattle.fws_net.specs.declared.site.Site.{Site}
use Rattle.fws_net.specs.declared.transit.Transit.{Transit}
use Rattle.fws_net.specs.Fates.{has_ports, written_addr}
use Rattle.fws_net.specs.Routes.{exit_at, is_local}
use Rattle.fws_net.specs.Transits.{entered, has_tag, onwards, outcome_of, with_dst, with_src}
use Rattle.fws_tree.specs.declared.tables.Tables.{Tables}
use Rattle.fws_tree.specs.Plain.{value}
use Rattle.fws_ipfw.specs.declared.config.IpfwConfig.{IpfwConfig}
use Rattle.fws_ipfw.specs.declared.pass.Pass.{Pass}
use Rattle.fws_ipfw.specs.Walk.{nat_numbered, pass_walk, rules_walk, step_of, stepped, tagged, translated, walk}
use Rattle.fws_ipfw_put_rules.specs.declared.choice.Choice.TheVariants as choices
use Rattle.fws_ipfw_put_rules.specs.Lists.{act_of, tag_for, tag_of as rule_tag}
use Rattle.fws_place.specs.Counts.{redirect_of}
use Rattle.fws_place.specs.Meaning.{IsPacketOf, IsPairOf, new_of, no_ends, point_of}
use Rattle.fws_place.specs.Rewritings.{is_delivered, new_exit}
use Rattle.fws_tree_seen.specs.declared.seen.Seen.TheVariants.{Routed}
use Rattle.fws_tree_seen.specs.Shown.{IsSeenAs}
use Rattle.fws_ipfw_put.specs.Ends.{IsAmong}
use Rattle.fws_ipfw_put.specs.Layout.{arriving_choice, destination_instance, destination_number, destination_rules, destined, sent_by, sent_choice, source_instance, source_tag, tag_of}
use Rattle.fws_ipfw_put.proofs.Guarded.{numbered_below}
use Rattle.fws_ipfw_put.proofs.Kept.{delivered_keeps, host_keeps, source_bare, source_whole}
use Rattle.fws_ipfw_put.proofs.Nats.{dst_written, none_is, some_is, src_written}
use Rattle.fws_ipfw_put.proofs.Passing.{arriving_tagged, dst_met, ended_new, passed_over, src_met, src_none, tagged_leaves, untagged_leaves}
use Rattle.fws_ipfw_put.proofs.Places.{place_found}
use Rattle.fws_ipfw_put.proofs.Plan.{Plan, destinations_low, ends_above, for_ends, for_sent, for_sources, grouped, guarded, rest, rest_above, sent_above}

-- What is written

abbrev dst_of : Packet → Option End → Transit → Transit
dst_of p None t = t
dst_of p (Some e) t = with_dst p e t

abbrev src_of : Packet → Option End → Transit → Transit
src_of p None t = t
src_of p (Some e) t = with_src p e t

-- a packet with these tags and nothing written
abbrev with_tags : Packet → List ℕ → Transit
with_tags p tags = record (entered p) { tags = tags }

both_written : (p : Packet) (tags : List ℕ) (s d : Option End) → (src_of p s (dst_of p d (with_tags p tags))).wrote ≡ record { src = s; dst = d }
both_written p tags None None = refl
both_written p tags None (Some d) = refl
both_written p tags (Some s) None = refl
both_written p tags (Some s) (Some d) = refl

dst_stands : (p : Packet) (tags : List ℕ) (d : Option End) → (dst_of p d (with_tags p tags)).packet.dst ≡ written_addr d p.dst
dst_stands p tags None = refl
dst_stands p tags (Some e) = refl

dst_tags : (p : Packet) (tags : List ℕ) (d : Option End) → (dst_of p d (with_tags p tags)).tags ≡ tags
dst_tags p tags None = refl
dst_tags p tags (Some e) = refl

-- Tags

-- tags, and that of a source behind them
abbrev tags_with : List ℕ → Option ℕ → List ℕ
tags_with front None = front
tags_with front (Some n) = front ++ n ∷ []

-- tags that are none of a source
abbrev IsFront : List ℕ → Type 0
IsFront front = (n : ℕ) → list_any (nat_eq (source_tag n)) front ≡ false

no_front : IsFront []
no_front n = refl

arrived_front : IsFront (1 ∷ [])
arrived_front n = ap (λ b. b || false) (ne_eqb (source_tag n) 1 (λ is. omega (arith, is)))

has_arrived : (tag : Option ℕ) → list_any (nat_eq 1) (tags_with (1 ∷ []) tag) ≡ true
has_arrived None = refl
has_arrived (Some n) = refl

-- the tag of a source stands last
tag_last : (n : ℕ) (front : List ℕ) → list_any (nat_eq n) (front ++ n ∷ []) ≡ true
tag_last n [] = ap (λ b. b || false) (eq-eqb n n refl)
tag_last n (x ∷ front) = by_test (nat_eq n x) (tag_last n front) where
  by_test : (b : Bool) → list_any (nat_eq n) (front ++ n ∷ []) ≡ true → (b || list_any (nat_eq n) (front ++ n ∷ [])) ≡ true
  by_test true h = refl
  by_test false h = h

-- and no other one does
tag_alone : (k n : ℕ) (front : List ℕ) → k ≢ n → list_any (nat_eq k) front ≡ false → list_any (nat_eq k) (front ++ n ∷ []) ≡ false
tag_alone k n [] other none = ap (λ b. b || false) (ne_eqb k n other)
tag_alone k n (x ∷ front) other none = by_test (nat_eq k x) none (tag_alone k n front other) where
  by_test : (b : Bool) → (b || list_any (nat_eq k) front) ≡ false → (list_any (nat_eq k) front ≡ false → list_any (nat_eq k) (front ++ n ∷ []) ≡ false)
      → (b || list_any (nat_eq k) (front ++ n ∷ [])) ≡ false
  by_test true h later = absurd (false≢true (sym h))
  by_test false h later = later h

module _ (site : Site) (tables : Tables) (c : IpfwConfig) (plan : Plan site tables c) where
  abbrev ds : List End
  ds = plan.destinations

  abbrev ss : List End
  ss = plan.sources

  abbrev unmoved : Transit → Pass
  unmoved t = record { transit = t; translated = false }

  -- Sources

  -- the tag of a source, and what the rules of sources do with it
  record Sourced (p : Packet) (src : Option End) : Type 0 where
    pub tag : Option ℕ
    pub is : tag_of ss src ≡ tag
    pub none : tag ≡ None → src ≡ None
    pub tags : (front : List ℕ) → IsFront front → (t : Transit) → t.tags ≡ front → tagged (tag_for tag) t ≡ record t { tags = tags_with front tag }
    pub leaves : (front : List ℕ) → IsFront front → (t : Transit) → t.tags ≡ tags_with front tag
        → rules_walk c site p New true (for_sources site tables c plan) 60000 (unmoved t) ≡ Some (src_of p src t)

  sourced : (p : Packet) (of_site : IsPacketOf site p) (w : Rewrite) → value tables.fresh.1 (point_of p no_ends) ≡ Some (Accept w) → new_of tables p ≡ Accept w
      → (src : Option End) → w.src ≡ src → Sourced p src
  sourced p of_site w is accepted None src_is = record {
    tag = None;
    is = refl;
    none = λ h. refl;
    tags = λ front clear t same. ap (λ l. record t { tags = l }) same;
    leaves = λ front clear t same. src_none c site p (length ds) ss 0 60000 (unmoved t) (omega arith) (λ n le. ap (list_any (nat_eq (source_tag n))) same ∙ clear n);
  }
  sourced p of_site w is accepted (Some e) src_is =
      let at = place_found ss e (plan.ends.has_sources (point_of p no_ends) w e of_site is src_is) in
      record {
        tag = Some (source_tag at.place);
        is = ap (λ o. option_map source_tag o) at.found;
        none = λ h. absurd (none_is (sym h));
        tags = λ front clear t same.
            ap (λ b. cond b t (record t { tags = t.tags ++ source_tag at.place ∷ [] })) (ap (list_any (nat_eq (source_tag at.place))) same ∙ clear at.place)
            ∙ ap (λ l. record t { tags = l ++ source_tag at.place ∷ [] }) same;
        leaves = λ front clear t same.
            src_met c site p (length ds) ss 0 at.place at.place 60000 e (unmoved t) at.there (omega arith) (omega arith)
            (ap (list_any (nat_eq (source_tag at.place))) same ∙ tag_last (source_tag at.place) front)
            (λ n other. ap (list_any (nat_eq (source_tag n))) same ∙ tag_alone (source_tag n) (source_tag at.place) front (λ h. other (omega (arith, h))) (clear n))
            ∙ ap (λ nats. Some (translated p New true (nat_numbered (source_instance (length ds) at.place) nats) (unmoved t)).transit) plan.nats
            ∙ ap Some (src_written plan.redirects ds ss at.place e p (unmoved t) at.there
            (source_whole site tables plan.met p of_site w accepted e src_is) (source_bare site tables plan.met p of_site w accepted e src_is) refl);
      }

  -- behind the destinations
  past_destinations : (p : Packet) (m : Pass) → rules_walk c site p New true (for_ends site tables c plan) 60000 m ≡ rules_walk c site p New true (for_sources site tables c plan) 60000 m
  past_destinations p m =
      passed_over c site p New true (destination_rules 0 ds) (for_sources site tables c plan) 60000 m (destinations_low 0 ds (omega (arith, plan.ends.few_destinations)))

  -- behind all lists
  past_lists : (p : Packet) (m : Pass) → rules_walk c site p New true (rest site tables c plan) 60000 m ≡ rules_walk c site p New true (for_sources site tables c plan) 60000 m
  past_lists p m =
      passed_over c site p New true plan.rules.arriving (for_sent site tables c plan) 60000 m (numbered_below 6000 60000 plan.rules.arriving (omega arith) plan.rules.arriving_list.list.numbered)
      ∙ passed_over c site p New true plan.rules.sent (for_ends site tables c plan) 60000 m (numbered_below 7000 60000 plan.rules.sent (omega arith) plan.rules.sent_list.list.numbered)
      ∙ past_destinations p m

  -- New packets

  -- the table's outcome
  new_is : (p : Packet) (o : Outcome) → value tables.fresh.1 (point_of p no_ends) ≡ Some o → new_of tables p ≡ o
  new_is p o is = ap (λ x. unwrap_or x Drop) is

  -- a destination that is written is among those that have rules
  destination_there : (p : Packet) (of_site : IsPacketOf site p) (w : Rewrite) → new_of tables p ≡ Accept w → (e : End) → w.dst ≡ Some e → IsAmong ds e
  destination_there p of_site w accepted e dst_is =
      All-contains (λ r. IsAmong ds r.local) plan.redirects (redirect_of e p) plan.ends.have_destinations (plan.shown.shown p w e of_site accepted dst_is)

  module _ (p : Packet) (of_site : IsPacketOf site p) (arrives : nat_eq p.entry 0 ≡ false) where
    abbrev arrived : Pass
    arrived = unmoved (with_tags p (1 ∷ []))

    abbrev goes_on : ℕ → Pass → Option Transit
    goes_on to m = rules_walk c site p New false (for_sent site tables c plan) to m

    -- the in pass as far as the list of new packets
    in_pass : (b : Bool) → value plan.packet (point_of p no_ends) ≡ Some b
        → pass_walk c site p New false (entered p) ≡ cond b (rules_walk c site p New false (rest site tables c plan) 0 arrived) None
    in_pass b is =
        let g = guarded site tables c plan in
        ap (λ l. rules_walk c site p New false l 0 (unmoved (entered p))) (grouped site tables c plan)
        ∙ g.arrives p New (rest site tables c plan) (unmoved (entered p)) (point_of p no_ends) b (rest_above site tables c plan) arrives refl of_site (plan.known.entered p no_ends) is
        ∙ ap (λ o. cond b o None) (arriving_tagged c site p (rest site tables c plan) (unmoved (entered p)))

    -- what the list chooses
    chosen : (o : Outcome) → value tables.fresh.1 (point_of p no_ends) ≡ Some o
        → rules_walk c site p New false (rest site tables c plan) 0 arrived
        ≡ stepped goes_on (step_of c site p New false (act_of (arriving_choice ds ss o)) (record arrived { transit = tagged (rule_tag (arriving_choice ds ss o)) arrived.transit }))
    chosen o is =
        let l = plan.rules.arriving_list in
        let made = l.made (point_of p no_ends) of_site in
        l.list.decides c p New (for_sent site tables c plan) 0 arrived (point_of p no_ends) (arriving_choice ds ss o) (omega arith) (sent_above site tables c plan) (inl refl)
        (ap not arrives) refl of_site (plan.known.entered p no_ends) (made.2 ∙ ap (λ v. Some (arriving_choice ds ss v)) (some_is (sym made.1 ∙ is)))

    arriving_dropped : value tables.fresh.1 (point_of p no_ends) ≡ Some Drop → rules_walk c site p New false (rest site tables c plan) 0 arrived ≡ None
    arriving_dropped is = chosen Drop is

    module _ (w : Rewrite) (is : value tables.fresh.1 (point_of p no_ends) ≡ Some (Accept w)) (s : Sourced p w.src) where
      accepted : new_of tables p ≡ Accept w
      accepted = new_is p (Accept w) is

      -- the packet behind the list, and behind the in pass
      abbrev first : Transit
      first = with_tags p (tags_with (1 ∷ []) s.tag)

      abbrev second : Transit
      second = dst_of p w.dst first

      abbrev behind_choice : Option End → Option Transit
      behind_choice dst = stepped goes_on (step_of c site p New false (act_of (destined ds dst s.tag)) (record arrived { transit = tagged (rule_tag (destined ds dst s.tag)) arrived.transit }))

      first_is : tagged (tag_for s.tag) (with_tags p (1 ∷ [])) ≡ first
      first_is = s.tags (1 ∷ []) arrived_front (with_tags p (1 ∷ [])) refl

      written_by_rules : (e : End) → w.dst ≡ Some e → behind_choice (Some e) ≡ Some (with_dst p e first)
      written_by_rules e dst_is =
          let at = place_found ds e (destination_there p of_site w accepted e dst_is) in
          let n = destination_number at.place in
          ap (λ o. stepped goes_on (step_of c site p New false (act_of (option_map_or (λ i. choices.Skip (destination_number i) s.tag) o choices.Deny))
          (record arrived { transit = tagged (rule_tag (option_map_or (λ i. choices.Skip (destination_number i) s.tag) o choices.Deny)) arrived.transit }))) at.found
          ∙ ap (λ t. goes_on n (unmoved t)) first_is
          ∙ passed_over c site p New false plan.rules.sent (for_ends site tables c plan) n (unmoved first) (numbered_below 7000 n plan.rules.sent (omega arith) plan.rules.sent_list.list.numbered)
          ∙ dst_met c site p ds 0 at.place at.place e (for_sources site tables c plan) (unmoved first) at.there (omega arith)
          ∙ ap (λ nats. Some (translated p New false (nat_numbered (destination_instance at.place) nats) (unmoved first)).transit) plan.nats
          ∙ ap Some (dst_written plan.redirects ds ss at.place e p (unmoved first) at.there (plan.shown.shown p w e of_site accepted dst_is) refl refl)

      by_destination : (dst : Option End) → w.dst ≡ dst → behind_choice dst ≡ Some (dst_of p dst first)
      by_destination None dst_is = ap Some (ended_new false (record arrived { transit = tagged (tag_for s.tag) arrived.transit }) ∙ first_is)
      by_destination (Some e) dst_is = written_by_rules e dst_is

      arriving_accepted : rules_walk c site p New false (rest site tables c plan) 0 arrived ≡ Some second
      arriving_accepted =
          chosen (Accept w) is
          ∙ ap (λ tag. stepped goes_on (step_of c site p New false (act_of (destined ds w.dst tag)) (record arrived { transit = tagged (rule_tag (destined ds w.dst tag)) arrived.transit }))) s.is
          ∙ by_destination w.dst refl

      -- the out pass
      out_pass : pass_walk c site p New true second ≡ Some (src_of p w.src second)
      out_pass =
          let g = guarded site tables c plan in
          let has : has_tag 1 second ≡ true = ap (list_any (nat_eq 1)) (dst_tags p (tags_with (1 ∷ []) s.tag) w.dst) ∙ has_arrived s.tag in
          ap (λ l. rules_walk c site p New true l 0 (unmoved second)) (grouped site tables c plan)
          ∙ g.tagged p New (rest site tables c plan) (unmoved second) (rest_above site tables c plan) has
          ∙ tagged_leaves c site p (rest site tables c plan) (unmoved second) has
          ∙ past_lists p (unmoved second)
          ∙ s.leaves (1 ∷ []) arrived_front second (dst_tags p (tags_with (1 ∷ []) s.tag) w.dst)

      -- what is written is what was wanted
      written_is : outcome_of New (Some (src_of p w.src second)) ≡ Accept w
      written_is = ap Accept (both_written p (tags_with (1 ∷ []) s.tag) w.src w.dst)

      delivered_is : (exit_at site p.entry (written_addr w.dst p.dst) ≡ Deliver) → outcome_of New (Some second) ≡ Accept w
      delivered_is exit_is =
          let none : w.src ≡ None = delivered_keeps site tables plan.met p of_site w accepted (delivers exit_is) in
          ap (λ src. outcome_of New (Some (src_of p src second))) (sym none) ∙ written_is where
            delivers : exit_at site p.entry (written_addr w.dst p.dst) ≡ Deliver → is_delivered (new_exit site p w) ≡ true
            delivers h = ap is_delivered h

      goes : (exit : Exit) → exit_at site p.entry (written_addr w.dst p.dst) ≡ exit → outcome_of New (onwards Some (pass_walk c site p New true) exit second) ≡ Accept w
      goes Deliver exit_is = delivered_is exit_is
      goes (Out entry) exit_is = ap (outcome_of New) out_pass ∙ written_is
      goes Lost exit_is = absurd (plan.regular.fresh_leaves (point_of p no_ends) w of_site is exit_is)

    -- the whole way
    abbrev routed : Option Transit → Outcome
    routed o = outcome_of New (option_and_then (λ (t : Transit). onwards Some (pass_walk c site p New true) (exit_at site p.entry t.packet.dst) t) o)

    way_is : walk c site p New ≡ routed (pass_walk c site p New false (entered p))
    way_is = ap (λ b. outcome_of New (cond b (pass_walk c site p New true (entered p))
        (option_and_then (λ (t : Transit). onwards Some (pass_walk c site p New true) (exit_at site p.entry t.packet.dst) t) (pass_walk c site p New false (entered p))))) arrives

    by_outcome : (o : Outcome) → value tables.fresh.1 (point_of p no_ends) ≡ Some o → routed (rules_walk c site p New false (rest site tables c plan) 0 arrived) ≡ o
    by_outcome Drop is = ap routed (arriving_dropped is)
    by_outcome (Accept w) is =
        let s = sourced p of_site w is (new_is p (Accept w) is) w.src refl in
        ap routed (arriving_accepted w is s)
        ∙ ap (λ dst. outcome_of New (onwards Some (pass_walk c site p New true) (exit_at site p.entry dst) (second w is s))) (dst_stands p (tags_with (1 ∷ []) s.tag) w.dst)
        ∙ goes w is s (exit_at site p.entry (written_addr w.dst p.dst)) refl

    arrives_placed : walk c site p New ≡ new_of tables p
    arrives_placed = by_value (plan.known.packet_value p no_ends of_site).0 (plan.known.packet_value p no_ends of_site).1 where
      by_value : (b : Bool) → value plan.packet (point_of p no_ends) ≡ Some b → walk c site p New ≡ new_of tables p
      by_value true is =
          let made = plan.rules.arriving_list.made (point_of p no_ends) of_site in
          way_is ∙ ap routed (in_pass true is) ∙ by_outcome made.0 made.1 ∙ sym (new_is p made.0 made.1)
      by_value false is = way_is ∙ ap routed (in_pass false is) ∙ sym (plan.known.arrivals p no_ends of_site arrives is)

  -- The host's own new packets

  -- the ends as which the packet stands where it leaves
  abbrev own_ends : Packet → Rec
  own_ends p = record { rdst = p.dst; rdport = p.dport; rsrc = 0; rsport = 0 }

  same_both : {X : Type 0} (b : Bool) (x : X) → cond b x x ≡ x
  same_both true x = refl
  same_both false x = refl

  module _ (p : Packet) (of_site : IsPacketOf site p) (own : nat_eq p.entry 0 ≡ true) where
    own_pair : IsPairOf site p (own_ends p)
    own_pair =
        let q = of_site.1.1 in
        (of_site.0, (of_site.1.0, (q.0, (q.1.0, (q.1.1.0, (q.1.1.1.0, (q.1.1.1.1.0, (q.1.1.1.1.1.0, (q.0, (q.1.0, (omega arith, (omega arith, tt))))))))))))

    own_seen : IsSeenAs Routed p (point_of p (own_ends p))
    own_seen =
        subst (λ q. IsSeenAs Routed q (point_of p (own_ends p))) (ap (λ d. record p { dport = d }) (same_both (has_ports p.proto) p.dport))
        (plan.known.routed p (own_ends p))

    -- the painted tree is as it was at the host's pairs
    own_value : (b : Bool) → value plan.before (point_of p (own_ends p)) ≡ Some b → value plan.behind (point_of p (own_ends p)) ≡ Some b
    own_value b is =
        plan.is_met (point_of p (own_ends p)) own_pair
        ∙ ap (λ h. cond (not h && (is_local site p.dst || not site.forwarding)) (Some true) (value plan.before (point_of p (own_ends p)))) own
        ∙ is

    own_pass : (b : Bool) → value plan.before (point_of p (own_ends p)) ≡ Some b
        → pass_walk c site p New true (entered p) ≡ cond b (rules_walk c site p New true (for_sent site tables c plan) 0 (unmoved (entered p))) None
    own_pass b is =
        let g = guarded site tables c plan in
        let m = unmoved (entered p) in
        ap (λ l. rules_walk c site p New true l 0 m) (grouped site tables c plan)
        ∙ g.sent p New (rest site tables c plan) m (point_of p (own_ends p)) b (rest_above site tables c plan) refl own refl own_pair own_seen (own_value b is)
        ∙ ap (λ o. cond b o None)
        (untagged_leaves c site p (rest site tables c plan) m refl
        ∙ plan.rules.arriving_list.list.lets_by c p New (for_sent site tables c plan) 0 m (omega arith) (sent_above site tables c plan) (inl refl))

    abbrev leaves_by : ℕ → Pass → Option Transit
    leaves_by to m = rules_walk c site p New true (for_ends site tables c plan) to m

    abbrev behind_sent : Option ℕ → Option Transit
    behind_sent tag = stepped leaves_by (step_of c site p New true (act_of (sent_by tag)) (record (unmoved (entered p)) { transit = tagged (rule_tag (sent_by tag)) (entered p) }))

    own_chosen : (o : Outcome) → value tables.fresh.1 (point_of p no_ends) ≡ Some o
        → rules_walk c site p New true (for_sent site tables c plan) 0 (unmoved (entered p))
        ≡ stepped leaves_by (step_of c site p New true (act_of (sent_choice ss o)) (record (unmoved (entered p)) { transit = tagged (rule_tag (sent_choice ss o)) (entered p) }))
    own_chosen o is =
        let l = plan.rules.sent_list in
        let made = l.made (point_of p no_ends) of_site in
        l.list.decides c p New (for_ends site tables c plan) 0 (unmoved (entered p)) (point_of p no_ends) (sent_choice ss o) (omega arith) (ends_above site tables c plan) (inl refl)
        own refl of_site (plan.known.entered p no_ends) (made.2 ∙ ap (λ v. Some (sent_choice ss v)) (some_is (sym made.1 ∙ is)))

    module _ (w : Rewrite) (is : value tables.fresh.1 (point_of p no_ends) ≡ Some (Accept w)) (s : Sourced p w.src) where
      abbrev leaving : Transit
      leaving = with_tags p (tags_with [] s.tag)

      by_tag : (tag : Option ℕ) → s.tag ≡ tag → behind_sent tag ≡ Some (src_of p w.src leaving)
      by_tag None tag_is =
          ap Some (ended_new true (unmoved (entered p)))
          ∙ ap (λ t. Some (with_tags p (tags_with [] t))) (sym tag_is)
          ∙ ap (λ src. Some (src_of p src leaving)) (sym (s.none tag_is))
      by_tag (Some n) tag_is =
          ap (λ t. leaves_by 60000 (unmoved (tagged (tag_for t) (entered p)))) (sym tag_is)
          ∙ ap (λ t. leaves_by 60000 (unmoved t)) (s.tags [] no_front (entered p) refl)
          ∙ past_destinations p (unmoved leaving)
          ∙ s.leaves [] no_front leaving refl

      own_accepted : rules_walk c site p New true (for_sent site tables c plan) 0 (unmoved (entered p)) ≡ Some (src_of p w.src leaving)
      own_accepted =
          own_chosen (Accept w) is
          ∙ ap behind_sent s.is
          ∙ by_tag s.tag refl

      own_written : outcome_of New (Some (src_of p w.src leaving)) ≡ Accept w
      own_written =
          let none : w.dst ≡ None = host_keeps site tables plan.met p of_site w (new_is p (Accept w) is) own in
          ap (λ dst. outcome_of New (Some (src_of p w.src (dst_of p dst leaving)))) (sym none)
          ∙ ap Accept (both_written p (tags_with [] s.tag) w.src w.dst)

    own_outcome : (o : Outcome) → value tables.fresh.1 (point_of p no_ends) ≡ Some o
        → outcome_of New (rules_walk c site p New true (for_sent site tables c plan) 0 (unmoved (entered p))) ≡ o
    own_outcome Drop is = ap (outcome_of New) (own_chosen Drop is)
    own_outcome (Accept w) is =
        let s = sourced p of_site w is (new_is p (Accept w) is) w.src refl in
        ap (outcome_of New) (own_accepted w is s) ∙ own_written w is s

    own_way : walk c site p New ≡ outcome_of New (pass_walk c site p New true (entered p))
    own_way = ap (λ b. outcome_of New (cond b (pass_walk c site p New true (entered p))
        (option_and_then (λ (t : Transit). onwards Some (pass_walk c site p New true) (exit_at site p.entry t.packet.dst) t) (pass_walk c site p New false (entered p))))) own

    own_placed : walk c site p New ≡ new_of tables p
    own_placed = by_value (plan.known.behind_value p (own_ends p) own_pair).0 (plan.known.behind_value p (own_ends p) own_pair).1 where
      by_value : (b : Bool) → value plan.before (point_of p (own_ends p)) ≡ Some b → walk c site p New ≡ new_of tables p
      by_value true is =
          let made = plan.rules.sent_list.made (point_of p no_ends) of_site in
          own_way ∙ ap (outcome_of New) (own_pass true is) ∙ own_outcome made.0 made.1 ∙ sym (new_is p made.0 made.1)
      by_value false is = own_way ∙ ap (outcome_of New) (own_pass false is) ∙ sym (plan.known.own p (own_ends p) own_pair own is)

  pub new_placed : (p : Packet) → IsPacketOf site p → walk c site p New ≡ new_of tables p
  new_placed p of_site = by_entry (nat_eq p.entry 0) refl where
    by_entry : (b : Bool) → nat_eq p.entry 0 ≡ b → walk c site p New ≡ new_of tables p
    by_entry true own = own_placed p of_site own
    by_entry false arrives = arrives_placed p of_site arrives

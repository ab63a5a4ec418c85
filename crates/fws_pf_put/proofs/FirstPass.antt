-- The first pass of a new packet: the in pass of one that arrives, and the out pass of one of the host.
use Rattle.std.proofs.Common.{◌≡◌, ℕ, zero, suc, ◌≤◌, Bool, true, false, cond, not, Option, Some, None, slice_get, slice_index, List, [], ◌∷◌, ◌++◌, refl, sym, ap, ◌∙◌, subst}
use Rattle.std.specs.Option.{option_map_or}
use Rattle.fws_iv.specs.declared.iv.Iv.{Iv}
use Rattle.fws_net.specs.declared.outcome.End.{End}
use Rattle.fws_net.specs.declared.outcome.Outcome.{Outcome}
use Rattle.fws_net.specs.declared.outcome.Outcome.TheVariants.{Drop, Accept}
use Rattle.fws_net.specs.declared.outcome.Rewrite.{Rewrite}
use Rattle.fws_net.specs.declared.packet.Packet.{Packet}
use Rattle.fws_net.specs.declared.site.Site.{Site}
use Rattle.fws_net.specs.declared.transit.Transit.{Transit}
use Rattle.fws_net.specs.Conditions.{holds, is_shown}
use Rattle.fws_net.specs.Points.{tops_of}
use Rattle.fws_net.specs.Transits.{entered, with_only_tag, with_verdict}
use Rattle.fws_tree.specs.declared.node.Kid.{Kid}
use Rattle.fws_tree.specs.declared.node.Node.{Node}
use Rattle.fws_tree.specs.declared.node.Node.TheVariants.{Cut}
use Rattle.fws_tree.specs.declared.tables.Tables.{Tables}
use Rattle.fws_tree.specs.Plain.{value}
use Rattle.fws_tree_seen.specs.declared.seen.Seen.TheVariants.{Entered}
use Rattle.fws_tree_seen.specs.Reached.{IsTopped}
use Rattle.fws_pf.specs.declared.config.PfConfig.{PfConfig}
use Rattle.fws_pf.specs.declared.config.PfNat.{PfNat}
use Rattle.fws_pf.specs.Walk.{behind, chosen, interface_of, pass_walk, rules_walk, tagged, translated_by, translations, view_on, written}
use Rattle.fws_pf_print.specs.Printable.{is_printed_translation}
use Rattle.fws_pf_put_filter.specs.Filters.{Ends, ReachesBelow}
use Rattle.fws_pf_put_filter.specs.States.{IsSourceState, state_at}
use Rattle.fws_pf_put_nat.specs.Translations.{IsAfter, IsLed, IsMet, IsTranslations, end_of}
use Rattle.fws_place.specs.Meaning.{IsPacketOf, no_ends, point_of}
use Rattle.fws_pf_put.proofs.Fitting.{FitsEnd, found_passes, rewritten_of, same_port, source_port, translation_fits}
use Rattle.fws_pf_put.proofs.Plan.{Plan}

-- Ends over packets as they entered

abbrev pub moved : Packet → Bool → Option End → Transit
moved p outward to = option_map_or (λ e. written p outward e (entered p)) to (entered p)

after_moved : (p : Packet) (outward : Bool) (to : Option End) → FitsEnd (not outward) to → IsAfter outward to p (moved p outward to).packet
after_moved p outward None fits = refl
after_moved p false (Some e) fits =
    let q = (moved p false (Some e)).packet in
    λ i. record { entry = p.entry; proto = p.proto; dst = q.dst; dport = q.dport; src = p.src; sport = same_port p.proto p.sport i; flags = p.flags; icmp = p.icmp }
after_moved p true (Some e) fits =
    let q = (moved p true (Some e)).packet in
    λ i. record { entry = p.entry; proto = p.proto; dst = p.dst; dport = same_port p.proto p.dport i; src = q.src; sport = source_port p.proto p.sport e fits i; flags = p.flags; icmp = p.icmp }

moved_of : (site : Site) (p : Packet) (outward : Bool) (to : Option End) → IsPacketOf site p → FitsEnd (not outward) to → IsPacketOf site (moved p outward to).packet
moved_of site p outward None of_site fits = of_site
moved_of site p false (Some e) of_site fits = rewritten_of site p (record { src = None; dst = Some e }) of_site tt fits
moved_of site p true (Some e) of_site fits = rewritten_of site p (record { src = Some e; dst = None }) of_site fits tt

entry_stays : (p : Packet) (outward : Bool) (to : Option End) → (moved p outward to).packet.entry ≡ p.entry
entry_stays p outward None = refl
entry_stays p false (Some e) = refl
entry_stays p true (Some e) = refl

-- Lists

pub nothing_behind : {X : Type 0} (xs : List X) → xs ++ [] ≡ xs
nothing_behind [] = refl
nothing_behind (x ∷ xs) = ap (λ l. x ∷ l) (nothing_behind xs)

pub index_of : (xs : List ℕ) (i x : ℕ) → slice_get xs i ≡ Some x → slice_index xs i ≡ x
index_of [] i x at = absurd (none_is at) where
  none_is : None ≡ Some x → ⊥
  none_is h = cc
index_of (y ∷ xs) zero x at = some_is at where
  some_is : Some y ≡ Some x → y ≡ x
  some_is h = cc
index_of (y ∷ xs) (suc i) x at = index_of xs i x at

pub unskipped : (face : Option ℕ) (skip : List Iv) → skip ≡ [] → is_shown face skip ≡ false
unskipped None skip none = refl
unskipped (Some n) skip none = ap (is_shown (Some n)) none

-- a translation that is chosen, behind which the pass goes on
pub chosen_pass : (c : PfConfig) (site : Site) (p : Packet) (outward : Bool) (t : Transit) (nat : PfNat) → c.skip ≡ [] → chosen site outward (translations c outward) t ≡ Some nat → nat.past ≡ false
    → pass_walk c site p outward t ≡ rules_walk site outward c.filter (translated_by p outward nat t)
chosen_pass c site p outward t nat skip is past =
    ap (λ b. cond b (Some t) (behind c site p outward (chosen site outward (translations c outward) t) t)) (unskipped (interface_of site outward t) c.skip skip)
    ∙ ap (λ o. behind c site p outward o t) is
    ∙ ap (λ b. cond b (Some (translated_by p outward nat t)) (rules_walk site outward c.filter (translated_by p outward nat t))) past

-- The pass

-- a packet that is accepted goes on with the tag of an accepting state with its source, and with its end in place
pub record IsFirst (leaves : List Outcome) (nodes : List Node) (states : List ℕ) (outward : Bool) (p : Packet) (v : Rewrite) (r : Option Transit) : Type 0 where
  pub state : ℕ
  pub own : state_at states state ≡ state
  pub source : IsSourceState leaves nodes state v.src
  pub fits : FitsEnd (not outward) (end_of outward v)
  pub passes : r ≡ Some (with_verdict true (with_only_tag state (moved p outward (end_of outward v))))

abbrev pub FirstEnd : List Outcome → List Node → List ℕ → Bool → Packet → Outcome → Option Transit → Type 0
FirstEnd leaves nodes states outward p Drop r = r ≡ None
FirstEnd leaves nodes states outward p (Accept v) r = IsFirst leaves nodes states outward p v r

module _ (site : Site) (tables : Tables) (c : PfConfig) (plan : Plan site tables c) (p : Packet) (of_site : IsPacketOf site p) (outward : Bool) (met : IsMet outward (tops_of site) p.entry) where
  pub topped_of : (q : Packet) → IsPacketOf site q → IsTopped (tops_of site) Entered q
  topped_of q is = plan.laws.topped Entered (tops_of site) q (point_of q no_ends) is (plan.laws.seen q no_ends).entered

  pub record FirstPass : Type 0 where
    pub outcome : Outcome
    pub value_is : value tables.fresh.1 (point_of p no_ends) ≡ Some outcome
    pub end : FirstEnd plan.leaves plan.nodes plan.states outward p outcome (pass_walk c site p outward (entered p))

  module _ (nat : PfNat) (fits : FitsEnd (not outward) nat.to) (led : IsLed tables.fresh.1 plan.leaves plan.nodes plan.states outward p nat) where
    abbrev there : Transit
    there = moved p outward nat.to

    abbrev lead : Transit
    lead = with_only_tag led.state there

    lead_is : translated_by p outward nat (entered p) ≡ lead
    lead_is = ap (λ tag. tagged tag there) led.tag

    comes_by : (b : Bool) → outward ≡ b → (kids : List Kid) → slice_get plan.nodes led.node ≡ Some (Cut 0 kids) → (outward ≡ false) × (1 ≤ lead.packet.entry) × (lead.packet.entry ≤ slice_index (tops_of site) 0)
    comes_by true out kids at = absurd (led.entry out (Cut 0 kids) at refl)
    comes_by false inward kids at =
        let arrives : IsMet false (tops_of site) p.entry = subst (λ b. IsMet b (tops_of site) p.entry) inward met in
        let same = sym (entry_stays p outward nat.to) in
        (inward, subst (λ n. 1 ≤ n) same arrives.0, subst (λ n. n ≤ slice_index (tops_of site) 0) same arrives.1)

    filtered : (w : Outcome) × ReachesBelow plan.leaves plan.nodes led.node lead.packet w × Ends plan.leaves plan.nodes plan.states w lead (rules_walk site outward c.filter lead)
    filtered =
        plan.filter.decides outward led.node lead led.below (ap (λ s. s ∷ []) (sym (index_of plan.states led.node led.state led.is_state)))
        (topped_of there.packet (moved_of site p outward nat.to of_site fits)) (comes_by outward refl)

    first_end : (w : Outcome) → ReachesBelow plan.leaves plan.nodes led.node lead.packet w → (r : Option Transit) → Ends plan.leaves plan.nodes plan.states w lead r
        → FirstEnd plan.leaves plan.nodes plan.states outward p w r
    first_end Drop below r ends = ends
    first_end (Accept v) below r ends =
        let writes : end_of outward v ≡ nat.to = led.writes there.packet v (after_moved p outward nat.to fits) below in
        record {
          state = ends.state;
          own = ends.own;
          source = ends.source;
          fits = subst (FitsEnd (not outward)) (sym writes) fits;
          passes = ends.passes ∙ ap (λ to. Some (with_verdict true (with_only_tag ends.state (moved p outward to)))) (sym writes);
        }

    led_pass : chosen site outward (translations c outward) (entered p) ≡ Some nat → FirstPass
    led_pass is =
        let way : pass_walk c site p outward (entered p) ≡ rules_walk site outward c.filter lead =
        chosen_pass c site p outward (entered p) nat plan.skip is led.past ∙ ap (rules_walk site outward c.filter) lead_is in
        let reached = led.reached there.packet filtered.0 (after_moved p outward nat.to fits) filtered.1 in
        record {
          outcome = filtered.0;
          value_is = plan.laws.reached Entered (tops_of site) tables.fresh.1 p (point_of p no_ends) filtered.0 plan.known.reduced refl plan.known.told of_site (plan.laws.seen p no_ends).entered reached;
          end = subst (FirstEnd plan.leaves plan.nodes plan.states outward p filtered.0) (sym way) (first_end filtered.0 filtered.1 (rules_walk site outward c.filter lead) filtered.2);
        }

  pub first_pass : (block : List PfNat) → IsTranslations site (tops_of site) tables.fresh.1 plan.leaves plan.nodes plan.states outward block
      → ((nat : PfNat) → chosen site outward block (entered p) ≡ Some nat → chosen site outward (translations c outward) (entered p) ≡ Some nat) → FirstPass
  first_pass block t among =
      let d = t.decides (entered p) [] (topped_of p of_site) met in
      let is : chosen site outward block (entered p) ≡ Some d.0 = ap (λ l. chosen site outward l (entered p)) (sym (nothing_behind block)) ∙ d.1 in
      let printed = found_passes (λ (nat : PfNat). holds nat.cond (view_on site outward (entered p))) (is_printed_translation site (not outward)) block d.0 is t.printed in
      led_pass d.0 (translation_fits site (not outward) d.0 printed) d.2 (among d.0 is)

-- The whole ways of new packets.
use Rattle.std.proofs.Common.{◌≡◌, ℕ, zero, suc, ◌<◌, ◌≤◌, Bool, true, false, cond, nat_eq, is_some, Option, Some, None, option_and_then, unwrap_or, slice_get, slice_index, List, [], ◌∷◌, length, arith, refl, sym, ap, ◌∙◌, subst}
use Rattle.std.proofs.lemmas.Bool.{false≢true, eqb-true, eq-eqb}
use Rattle.std.proofs.lemmas.List.Folds.{find-append}
use Rattle.std.specs.Option.{option_map_or, option_or}
use Rattle.fws_net.specs.declared.connection.Kind.TheVariants.{New}
use Rattle.fws_net.specs.declared.exit.Exit.{Exit}
use Rattle.fws_net.specs.declared.exit.Exit.TheVariants.{Deliver, Out, Lost}
use Rattle.fws_net.specs.declared.outcome.End.{End}
use Rattle.fws_net.specs.declared.outcome.Outcome.{Outcome}
use Rattle.fws_net.specs.declared.outcome.Outcome.TheVariants.{Drop, Accept}
use Rattle.fws_net.specs.declared.outcome.Rewrite.{Rewrite}
use Rattle.fws_net.specs.declared.packet.Packet.{Packet}
use Rattle.fws_net.specs.declared.site.Site.{Site}
use Rattle.fws_net.specs.declared.transit.Transit.{Transit}
use Rattle.fws_net.specs.Conditions.{holds}
use Rattle.fws_net.specs.Fates.{written_addr}
use Rattle.fws_net.specs.Points.{tops_of}
use Rattle.fws_net.specs.Routes.{exit_at}
use Rattle.fws_net.specs.Transits.{entered, onwards, outcome_of, with_only_tag, with_verdict}
use Rattle.fws_tree.specs.declared.node.Kid.{Kid}
use Rattle.fws_tree.specs.declared.node.Node.TheVariants.{Cut, Leaf}
use Rattle.fws_tree.specs.declared.tables.Tables.{Tables}
use Rattle.fws_tree.specs.Plain.{Plain, branch, leaf, value}
use Rattle.fws_tree.specs.Shared.{subtree_of}
use Rattle.fws_tree_seen.specs.declared.seen.Seen.TheVariants.{Entered}
use Rattle.fws_tree_seen.specs.Reached.{Reaches}
use Rattle.fws_pf.specs.declared.config.PfConfig.{PfConfig}
use Rattle.fws_pf.specs.declared.config.PfNat.{PfNat}
use Rattle.fws_pf.specs.Walk.{chosen, pass_walk, rules_walk, tagged, translated_by, translations, view_on, walk, written}
use Rattle.fws_pf_print.specs.Printable.{is_printed_translation}
use Rattle.fws_pf_put_filter.specs.Filters.{Ends, ReachesBelow}
use Rattle.fws_place.specs.Meaning.{IsPacketOf, new_of, no_ends, point_of}
use Rattle.fws_place.specs.PfLaws.{IsKeptByPf}
use Rattle.fws_place.specs.Rewritings.{is_delivered, new_exit, writes_source_port}
use Rattle.fws_pf_put.specs.Gathered.{leaf_rewrite, rewrite_at, rewrite_of}
use Rattle.fws_pf_put.specs.Sources.{IsWritable, IsWrittenOver, WritesSource}
use Rattle.fws_pf_put.proofs.Fitting.{FitsEnd, found_passes, rewritten_of, translation_fits}
use Rattle.fws_pf_put.proofs.FirstPass.{FirstEnd, IsFirst, chosen_pass, first_pass, moved}
use Rattle.fws_pf_put.proofs.Plan.{Plan}

some_is : {X : Type 0} {x y : X} → Some x ≡ Some y → x ≡ y
some_is h = cc

none_is : {X : Type 0} {x : X} → None ≡ Some x → ⊥
none_is h = cc

-- What is written

moved_dst : (p : Packet) (to : Option End) → (moved p false to).packet.dst ≡ written_addr to p.dst
moved_dst p None = refl
moved_dst p (Some e) = refl

moved_src : (p : Packet) (to : Option End) → (moved p false to).packet.src ≡ p.src
moved_src p None = refl
moved_src p (Some e) = refl

inward_wrote : (p : Packet) (to : Option End) → (moved p false to).wrote ≡ record { src = None; dst = to }
inward_wrote p None = refl
inward_wrote p (Some e) = refl

outward_wrote : (p : Packet) (to : Option End) → (moved p true to).wrote ≡ record { src = to; dst = None }
outward_wrote p None = refl
outward_wrote p (Some e) = refl

-- the transit of a forwarded packet with its source in place
abbrev sourced : Packet → Option End → Transit → Transit
sourced p src t = option_map_or (λ e. written p true e t) src t

sourced_tags : (p : Packet) (src : Option End) (t : Transit) → (sourced p src t).tags ≡ t.tags
sourced_tags p None t = refl
sourced_tags p (Some e) t = refl

sourced_wrote : (p : Packet) (src dst : Option End) (k : ℕ) → (sourced p src (with_verdict true (with_only_tag k (moved p false dst)))).wrote ≡ record { src = src; dst = dst }
sourced_wrote p None None k = refl
sourced_wrote p None (Some d) k = refl
sourced_wrote p (Some s) None k = refl
sourced_wrote p (Some s) (Some d) k = refl

sourced_of : (site : Site) (p : Packet) (src dst : Option End) (k : ℕ) → IsPacketOf site p → FitsEnd false src → FitsEnd true dst
    → IsPacketOf site (sourced p src (with_verdict true (with_only_tag k (moved p false dst)))).packet
sourced_of site p None None k of_site s d = of_site
sourced_of site p None (Some e) k of_site s d = rewritten_of site p (record { src = None; dst = Some e }) of_site s d
sourced_of site p (Some e) None k of_site s d = rewritten_of site p (record { src = Some e; dst = None }) of_site s d
sourced_of site p (Some e) (Some f) k of_site s d = rewritten_of site p (record { src = Some e; dst = Some f }) of_site s d

got_low : {X : Type 0} (xs : List X) (i : ℕ) (x : X) → slice_get xs i ≡ Some x → i < length xs
got_low [] i x is = absurd (none_is is)
got_low (y ∷ xs) zero x is = omega arith
got_low (y ∷ xs) (suc i) x is = let le = got_low xs i x is in omega (arith, le)

got_at : (xs : List ℕ) (i : ℕ) → i < length xs → slice_get xs i ≡ Some (slice_index xs i)
got_at [] i low = absurd (omega (arith, low))
got_at (x ∷ xs) zero low = refl
got_at (x ∷ xs) (suc i) low = got_at xs i (omega (arith, low))

module _ (site : Site) (tables : Tables) (c : PfConfig) (plan : Plan site tables c) (p : Packet) (of_site : IsPacketOf site p) where
  abbrev x : List ℕ
  x = point_of p no_ends

  new_is : (w : Outcome) → value tables.fresh.1 x ≡ Some w → new_of tables p ≡ w
  new_is w is = ap (λ o. unwrap_or o Drop) is

  -- The out pass of a forwarded packet

  module _ (v : Rewrite) (value_is : value tables.fresh.1 x ≡ Some (Accept v)) (first : IsFirst plan.leaves plan.nodes plan.states false p v (pass_walk c site p false (entered p))) where
    abbrev k : ℕ
    k = first.state

    abbrev before : Transit
    before = with_verdict true (with_only_tag k (moved p false v.dst))

    kept : IsKeptByPf site p v
    kept = plan.known.kept p v of_site (new_is (Accept v) value_is)

    -- the leaf of the state
    abbrev w : Rewrite
    w = first.source.0

    k_low : k < length plan.nodes
    k_low = got_low plan.nodes k (Leaf first.source.1.0) first.source.1.1

    rewrite_is : rewrite_at plan.leaves plan.nodes plan.states k ≡ Some w
    rewrite_is =
        let at : slice_get plan.states k ≡ Some k = got_at plan.states k (subst (λ n. k < n) (sym plan.stated.size) k_low) ∙ ap Some first.own in
        ap (λ o. cond (option_map_or (nat_eq k) o false) (option_and_then (leaf_rewrite plan.leaves) (slice_get plan.nodes k)) None) at
        ∙ ap (λ b. cond b (option_and_then (leaf_rewrite plan.leaves) (slice_get plan.nodes k)) None) (eq-eqb k k refl)
        ∙ ap (option_and_then (leaf_rewrite plan.leaves)) first.source.1.1
        ∙ ap (option_and_then rewrite_of) first.source.1.2

    bare : (e : End) → v.src ≡ Some e → e.port ≡ None
    bare e src = no_port e.port (sym (ap (λ s. writes_source_port (record { src = s; dst = v.dst })) src) ∙ kept.source_port) where
      no_port : (port : Option ℕ) → is_some port ≡ false → port ≡ None
      no_port None h = refl
      no_port (Some n) h = absurd (false≢true (sym h))

    writable : (src : Option End) → v.src ≡ src → IsWritable plan.ends plan.sets src before.packet.src
    writable None src = tt
    writable (Some e) src = (
      bare e src,
      λ short. subst (λ a. IsWrittenOver plan.ends plan.sets e a) (sym (moved_src p v.dst)) (plan.tell x v e of_site value_is src),
    )

    source : WritesSource w.src (chosen site true plan.sources before)
    source =
        plan.are_sources.own site before k w k_low rewrite_is refl
        (subst (λ s. IsWritable plan.ends plan.sets s before.packet.src) (sym first.source.2) (writable v.src refl))

    source_fits : FitsEnd false v.src
    source_fits =
        subst (FitsEnd false) (source.to ∙ first.source.2)
        (translation_fits site false source.nat
        (found_passes (λ (nat : PfNat). holds nat.cond (view_on site true before)) (is_printed_translation site false) plan.sources source.nat source.is (plan.are_sources.printed site)))

    chosen_is : chosen site true (translations c true) before ≡ Some source.nat
    chosen_is =
        ap (λ l. chosen site true l before) plan.nat_is
        ∙ find-append (λ (nat : PfNat). holds nat.cond (view_on site true before)) plan.sources plan.host
        ∙ ap (λ o. option_or o (chosen site true plan.host before)) source.is

    abbrev behind_it : Transit
    behind_it = sourced p v.src before

    translated_is : translated_by p true source.nat before ≡ behind_it
    translated_is =
        ap (λ tag. tagged tag (sourced p source.nat.to before)) source.tag
        ∙ ap (λ src. sourced p src before) (source.to ∙ first.source.2)

    leaf_is : subtree_of plan.leaves plan.nodes k ≡ leaf (Accept w)
    leaf_is =
        let at = plan.laws.leaves (tops_of site) tables.fresh.1 plan.leaves plan.nodes k first.source.1.0 plan.shared first.source.1.1 in
        at.2 ∙ ap leaf (some_is (sym at.1 ∙ first.source.1.2))

    no_cut : (kids : List Kid) → slice_get plan.nodes k ≡ Some (Cut 0 kids) → ⊥
    no_cut kids at = other (some_is (sym first.source.1.1 ∙ at)) where
      other : Leaf first.source.1.0 ≡ Cut 0 kids → ⊥
      other h = cc

    reached_is : (o : Outcome) → ReachesBelow plan.leaves plan.nodes k behind_it.packet o → Accept w ≡ o
    reached_is o below = subst (λ (t : Plain Outcome). Reaches Entered behind_it.packet (branch 0 t behind_it.packet.entry) o) leaf_is below

    passes : (o : Outcome) → Accept w ≡ o → Ends plan.leaves plan.nodes plan.states o behind_it (rules_walk site true c.filter behind_it)
        → outcome_of New (rules_walk site true c.filter behind_it) ≡ Accept v
    passes Drop same ends = absurd (other same) where
      other : Accept w ≡ Drop → ⊥
      other h = cc
    passes (Accept u) same ends = ap (outcome_of New) ends.passes ∙ ap Accept (sourced_wrote p v.src v.dst k)

    pub forwarded : outcome_of New (pass_walk c site p true before) ≡ Accept v
    forwarded =
        let way : pass_walk c site p true before ≡ rules_walk site true c.filter behind_it =
        chosen_pass c site p true before source.nat plan.skip chosen_is source.past ∙ ap (rules_walk site true c.filter) translated_is in
        let of_it = sourced_of site p v.src v.dst k of_site source_fits first.fits in
        let filtered = plan.filter.decides true k behind_it k_low (sourced_tags p v.src before ∙ ap (λ s. s ∷ []) (sym first.own))
        (plan.laws.topped Entered (tops_of site) behind_it.packet (point_of behind_it.packet no_ends) of_it (plan.laws.seen behind_it.packet no_ends).entered)
        (λ kids at. absurd (no_cut kids at)) in
        ap (outcome_of New) way ∙ passes filtered.0 (reached_is filtered.0 filtered.1) filtered.2

    -- The exit

    abbrev ahead : Exit → Outcome
    ahead exit = outcome_of New (onwards Some (pass_walk c site p true) exit before)

    by_exit : (exit : Exit) → new_exit site p v ≡ exit → ahead exit ≡ Accept v
    by_exit Deliver is =
        let stays : v.src ≡ None = kept.delivered (ap is_delivered is) in
        ap Accept (inward_wrote p v.dst ∙ ap (λ s. record { src = s; dst = v.dst }) (sym stays))
    by_exit (Out entry) is = forwarded
    by_exit Lost is = absurd (kept.leaves is)

    pub arrived : nat_eq p.entry 0 ≡ false → walk c site p New ≡ Accept v
    arrived arrives =
        ap (λ h. outcome_of New (cond h (pass_walk c site p true (entered p))
        (option_and_then (λ (t : Transit). onwards Some (pass_walk c site p true) (exit_at site p.entry t.packet.dst) t) (pass_walk c site p false (entered p))))) arrives
        ∙ ap (λ o. outcome_of New (option_and_then (λ (t : Transit). onwards Some (pass_walk c site p true) (exit_at site p.entry t.packet.dst) t) o)) first.passes
        ∙ ap (λ d. ahead (exit_at site p.entry d)) (moved_dst p v.dst)
        ∙ by_exit (new_exit site p v) refl

  -- Packets that arrive

  arriving : nat_eq p.entry 0 ≡ false → (w : Outcome) → value tables.fresh.1 x ≡ Some w → FirstEnd plan.leaves plan.nodes plan.states false p w (pass_walk c site p false (entered p))
      → walk c site p New ≡ new_of tables p
  arriving arrives Drop value_is end =
      ap (λ h. outcome_of New (cond h (pass_walk c site p true (entered p))
      (option_and_then (λ (t : Transit). onwards Some (pass_walk c site p true) (exit_at site p.entry t.packet.dst) t) (pass_walk c site p false (entered p))))) arrives
      ∙ ap (λ o. outcome_of New (option_and_then (λ (t : Transit). onwards Some (pass_walk c site p true) (exit_at site p.entry t.packet.dst) t) o)) end
      ∙ sym (new_is Drop value_is)
  arriving arrives (Accept v) value_is end = arrived v value_is end arrives ∙ sym (new_is (Accept v) value_is)

  -- Packets of the host

  sending : nat_eq p.entry 0 ≡ true → (w : Outcome) → value tables.fresh.1 x ≡ Some w → FirstEnd plan.leaves plan.nodes plan.states true p w (pass_walk c site p true (entered p))
      → walk c site p New ≡ new_of tables p
  sending own Drop value_is end =
      ap (λ h. outcome_of New (cond h (pass_walk c site p true (entered p))
      (option_and_then (λ (t : Transit). onwards Some (pass_walk c site p true) (exit_at site p.entry t.packet.dst) t) (pass_walk c site p false (entered p))))) own
      ∙ ap (outcome_of New) end
      ∙ sym (new_is Drop value_is)
  sending own (Accept v) value_is end =
      let stays : v.dst ≡ None = (plan.known.kept p v of_site (new_is (Accept v) value_is)).host own in
      ap (λ h. outcome_of New (cond h (pass_walk c site p true (entered p))
      (option_and_then (λ (t : Transit). onwards Some (pass_walk c site p true) (exit_at site p.entry t.packet.dst) t) (pass_walk c site p false (entered p))))) own
      ∙ ap (outcome_of New) end.passes
      ∙ ap Accept (outward_wrote p v.src ∙ ap (λ d. record { src = v.src; dst = d }) (sym stays))
      ∙ sym (new_is (Accept v) value_is)

  some_entry : (n : ℕ) → nat_eq n 0 ≡ false → 1 ≤ n
  some_entry zero h = absurd (false≢true (sym h))
  some_entry (suc n) h = omega arith

  host_among : (nat : PfNat) → chosen site true plan.host (entered p) ≡ Some nat → chosen site true (translations c true) (entered p) ≡ Some nat
  host_among nat is =
      ap (λ l. chosen site true l (entered p)) plan.nat_is
      ∙ find-append (λ (nat : PfNat). holds nat.cond (view_on site true (entered p))) plan.sources plan.host
      ∙ ap (λ o. option_or o (chosen site true plan.host (entered p))) (plan.are_sources.others site (entered p) (λ k low. refl))
      ∙ is

  pub new_placed : walk c site p New ≡ new_of tables p
  new_placed = by_host (nat_eq p.entry 0) refl where
    by_host : (h : Bool) → nat_eq p.entry 0 ≡ h → walk c site p New ≡ new_of tables p
    by_host true own =
        let first = first_pass site tables c plan p of_site true (eqb-true p.entry 0 own) plan.host plan.outward host_among in
        sending own first.outcome first.value_is first.end
    by_host false arrives =
        let first = first_pass site tables c plan p of_site false (some_entry p.entry arrives, of_site.0) c.rdr plan.inward (λ nat is. is) in
        arriving arrives first.outcome first.value_is first.end

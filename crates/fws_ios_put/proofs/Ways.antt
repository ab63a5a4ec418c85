-- The ways of packets through a configuration with a list at each entry.
use Rattle.std.proofs.Common.{◌≡◌, inl, inr, ℕ, zero, suc, arith, ◌≤◌, ◌+◌, Bool, true, false, ◌&&◌, cond, nat_eq, Option, Some, None, option_and_then, option_map, List, [], ◌∷◌, length, refl, sym, ap, ◌∙◌}
use Rattle.std.proofs.lemmas.Bool.{and_parts, false≢true, true≢false}
use Rattle.std.specs.List.{list_all}
use Rattle.std.specs.Option.{option_map_or}
use Rattle.fws_net.specs.declared.connection.Kind.{Kind}
use Rattle.fws_net.specs.declared.connection.Kind.TheVariants.{New, Est}
use Rattle.fws_net.specs.declared.connection.Rec.{Rec}
use Rattle.fws_net.specs.declared.exit.Exit.{Exit}
use Rattle.fws_net.specs.declared.exit.Exit.TheVariants.{Deliver, Out, Lost}
use Rattle.fws_net.specs.declared.outcome.End.{End}
use Rattle.fws_net.specs.declared.outcome.Outcome.{Outcome}
use Rattle.fws_net.specs.declared.outcome.Outcome.TheVariants.{Drop, Accept}
use Rattle.fws_net.specs.declared.outcome.Rewrite.{Rewrite}
use Rattle.fws_net.specs.declared.packet.Packet.{Packet}
use Rattle.fws_net.specs.declared.site.Site.{Site}
use Rattle.fws_net.specs.declared.transit.Transit.{Transit}
use Rattle.fws_net.specs.Conditions.{is_shown}
use Rattle.fws_net.specs.Fates.{written_addr}
use Rattle.fws_net.specs.Routes.{exit_at}
use Rattle.fws_net.specs.Showing.{out_of, receiving, sending}
use Rattle.fws_net.specs.Transits.{entered, nothing_written, onwards, outcome_of, with_dst, with_src, with_tracked_dst}
use Rattle.fws_tree.specs.declared.tables.Tables.{Tables}
use Rattle.fws_ios.specs.declared.config.IosConfig.{IosConfig}
use Rattle.fws_ios.specs.declared.config.IosGroup.{IosGroup}
use Rattle.fws_ios.specs.declared.config.IosList.{IosList}
use Rattle.fws_ios.specs.declared.config.IosNat.{IosNat}
use Rattle.fws_ios.specs.declared.config.IosNat.TheVariants.{Static, List as Listed}
use Rattle.fws_ios.specs.Walk.{arrived, first_end, forwarded, group_at, inner_end, interface_of, met, passes, permits, routed_as, says, sent_as, source_end, translated_in, translated_out, walk}
use Rattle.fws_ios_print.specs.Printable.{is_printed_nat}
use Rattle.fws_place.specs.Meaning.{IsPacketOf, IsPairOf, est_of, new_of}
use Rattle.fws_place.specs.Pairs.{IsLost, is_host}
use Rattle.fws_place.specs.Rewritings.{goes_outside, is_accepted, is_delivered, is_inside, leaves_outside, side_of}
use Rattle.fws_ios_put.specs.InLists.{IsGuarded, IsLaidOut}
use Rattle.fws_ios_put.proofs.Known.{IsToldPair, Known}

-- printed translations have no inner ends
pub no_inner_end : (q : Packet) (nats : List IosNat) → list_all is_printed_nat nats ≡ true → first_end (inner_end q) nats ≡ None
no_inner_end q [] printed = refl
no_inner_end q (Static proto local global ∷ nats) printed = absurd (false≢true printed)
no_inner_end q (Listed name addr ∷ nats) printed = no_inner_end q nats (and_parts (is_printed_nat (Listed name addr)) (list_all is_printed_nat nats) printed).1

-- packets come in by the entry that they have
pub receiving_is : (p : Packet) → is_host p ≡ false → receiving p ≡ Some p.entry
receiving_is p arrives = ap (λ h. cond h None (Some p.entry)) arrives

-- a packet of the site comes in by one of its entries
pub entry_is : (site : Site) (p : Packet) → IsPacketOf site p → is_host p ≡ false → (1 ≤ p.entry) × (p.entry ≤ length site.faces + 1)
entry_is site p of_site arrives = (by p.entry arrives, of_site.0) where
  by : (n : ℕ) → nat_eq n 0 ≡ false → 1 ≤ n
  by zero h = absurd (true≢false h)
  by (suc n) h = omega arith

not_delivered : Deliver ≡ Lost → ⊥
not_delivered h = cc

not_out : (n : ℕ) → Out n ≡ Lost → ⊥
not_out n h = cc

module _ (site : Site) (tables : Tables) (known : Known site tables) (c : IosConfig) (laid : IsLaidOut site tables c) (p : Packet) where
  -- Lists

  -- packets that come in meet the list of their entry
  passes_in : (k : Kind) → is_host p ≡ false → (guard : IsGuarded site tables c p.entry) → passes c site k false (entered p) ≡ permits site k false guard.l.entries (entered p)
  passes_in k arrives guard =
      ap (λ (face : Option ℕ). option_map_or (λ (g : IosGroup). says c site k false true g.list (entered p)) (group_at false face c.groups) true) (receiving_is p arrives)
      ∙ ap (λ (found : Option IosGroup). option_map_or (λ (g : IosGroup). says c site k false true g.list (entered p)) found true) guard.applied
      ∙ ap (λ (found : Option IosList). option_map_or (λ (l : IosList). permits site k false l.entries (entered p)) found true) guard.defined

  -- and those that go out meet none
  passes_out : (k : Kind) (t : Transit) → passes c site k true t ≡ true
  passes_out k t =
      ap (λ (found : Option IosGroup). option_map_or (λ (g : IosGroup). says c site k true true g.list t) found true) (laid.outward (interface_of site true t))

  met_in : (k : Kind) (b : Bool) → passes c site k false (entered p) ≡ b → met c site k false (entered p) ≡ cond b (Some (entered p)) None
  met_in k b is = ap (λ (h : Bool). cond h (Some (entered p)) None) is

  leaves_as : (k : Kind) (t : Transit) → forwarded c site p k t ≡ Some (sent_as c site p k t)
  leaves_as k t = ap (λ (h : Bool). cond h (Some (sent_as c site p k t)) None) (passes_out k (sent_as c site p k t))

  -- Ways

  -- nothing is written over the destination of a new packet
  routed_new : (t : Transit) → routed_as c site p New t ≡ t
  routed_new t = by (is_shown (receiving t.packet) c.outside) where
    untranslated : translated_in p c t ≡ t
    untranslated = ap (λ (found : Option End). option_map_or (λ (e : End). with_dst p e t) found t) (no_inner_end t.packet c.nats laid.nats)

    by : (h : Bool) → cond h (translated_in p c t) t ≡ t
    by true = untranslated
    by false = refl

  -- what becomes of a packet that comes in, by whether it is permitted and by its exit
  abbrev behind : Kind → Bool → Exit → Transit → Outcome
  behind k b exit t = outcome_of k (cond b (onwards Some (λ u. Some (sent_as c site p k u)) exit t) None)

  onwards_as : (k : Kind) (exit : Exit) (t : Transit) → onwards Some (forwarded c site p k) exit t ≡ onwards Some (λ (u : Transit). Some (sent_as c site p k u)) exit t
  onwards_as k Deliver t = refl
  onwards_as k (Out n) t = leaves_as k t
  onwards_as k Lost t = refl

  abbrev ahead : Kind → Transit → Option Transit
  ahead k t = onwards Some (forwarded c site p k) (exit_at site p.entry t.packet.dst) t

  walk_in : (k : Kind) (b : Bool) → is_host p ≡ false → passes c site k false (entered p) ≡ b
      → walk c site p k ≡ behind k b (exit_at site p.entry (routed_as c site p k (entered p)).packet.dst) (routed_as c site p k (entered p))
  walk_in k b arrives is =
      ap (λ (h : Bool). outcome_of k (cond h (Some (entered p)) (option_and_then (ahead k) (arrived c site p k (entered p))))) arrives
      ∙ ap (λ (m : Option Transit). outcome_of k (option_and_then (ahead k) (option_map (routed_as c site p k) m))) (met_in k b is)
      ∙ by b where
        by : (h : Bool) → outcome_of k (option_and_then (ahead k) (option_map (routed_as c site p k) (cond h (Some (entered p)) None)))
            ≡ behind k h (exit_at site p.entry (routed_as c site p k (entered p)).packet.dst) (routed_as c site p k (entered p))
        by true = ap (outcome_of k) (onwards_as k (exit_at site p.entry (routed_as c site p k (entered p)).packet.dst) (routed_as c site p k (entered p)))
        by false = refl

  -- New packets

  -- the packet goes from the inside to the outside
  abbrev crosses : Exit → Bool
  crosses exit = is_inside (side_of site p.entry) && leaves_outside site exit

  -- sources are translated just where it does
  crosses_is : is_host p ≡ false → (n : ℕ) → exit_at site p.entry p.dst ≡ Out n
      → (is_shown (receiving p) c.inside && is_shown (sending site p) c.outside) ≡ crosses (Out n)
  crosses_is arrives n out =
      ap (λ (face : Option ℕ). is_shown face c.inside && is_shown (sending site p) c.outside) (receiving_is p arrives)
      ∙ ap (λ (b : Bool). b && is_shown (sending site p) c.outside) (laid.inside p.entry)
      ∙ ap (λ (exit : Exit). is_inside (side_of site p.entry) && is_shown (out_of exit) c.outside) out
      ∙ ap (λ (b : Bool). is_inside (side_of site p.entry) && b) (laid.outside n)

  sent_wrote : (source : Option End) → source_end c site New (entered p) ≡ source → (translated_out p c site New (entered p)).wrote ≡ record { src = source; dst = None }
  sent_wrote source is =
      ap (λ (found : Option End). (option_map_or (λ (e : End). with_src p e (entered p)) found (entered p)).wrote) is ∙ by source where
        by : (o : Option End) → (option_map_or (λ (e : End). with_src p e (entered p)) o (entered p)).wrote ≡ record { src = o; dst = None }
        by None = refl
        by (Some e) = refl

  goes_outside_is : (w : Rewrite) → w.dst ≡ None → (exit : Exit) → exit_at site p.entry p.dst ≡ exit → goes_outside site p w ≡ crosses exit
  goes_outside_is w kept exit is =
      ap (λ (d : Option End). crosses (exit_at site p.entry (written_addr d p.dst))) kept ∙ ap crosses is

  rewriting_is : (w : Rewrite) (source : Option End) → w.dst ≡ None → w.src ≡ source → w ≡ record { src = source; dst = None }
  rewriting_is w source kept is = ap (λ (d : Option End). record { src = w.src; dst = d }) kept ∙ ap (λ (s : Option End). record { src = s; dst = None }) is

  new_in : is_host p ≡ false → IsPacketOf site p → (guard : IsGuarded site tables c p.entry) → walk c site p New ≡ new_of tables p
  new_in arrives of_site guard =
      walk_in New (permits site New false guard.l.entries (entered p)) arrives (passes_in New arrives guard)
      ∙ ap (λ (t : Transit). behind New (permits site New false guard.l.entries (entered p)) (exit_at site p.entry t.packet.dst) t) (routed_new (entered p))
      ∙ by_exit (exit_at site p.entry p.dst) refl where
        b : Bool
        b = permits site New false guard.l.entries (entered p)

        source_of : (w : Rewrite) (n : ℕ) → exit_at site p.entry p.dst ≡ Out n → new_of tables p ≡ Accept w → (h : Bool) → crosses (Out n) ≡ h
            → (cond h (translated_out p c site New (entered p)) (entered p)).wrote ≡ w
        source_of w n out accepted true crossing =
            let kept = known.kept p w of_site accepted in
            sent_wrote w.src (laid.sources p w of_site accepted (goes_outside_is nothing_written refl (Out n) out ∙ crossing) (entered p) refl)
            ∙ sym (rewriting_is w w.src kept.dst refl)
        source_of w n out accepted false crossing =
            let kept = known.kept p w of_site accepted in
            sym (rewriting_is w None kept.dst (none w.src refl)) where
              none : (o : Option End) → w.src ≡ o → w.src ≡ None
              none None is = is
              none (Some e) is =
                  let kept = known.kept p w of_site accepted in
                  absurd (false≢true (sym crossing ∙ sym (goes_outside_is w kept.dst (Out n) out) ∙ kept.crosses e is))

        unless_lost : (exit : Exit) → exit_at site p.entry p.dst ≡ exit → (exit ≡ Lost → ⊥) → b ≡ is_accepted (new_of tables p)
        unless_lost exit is found = guard.decides.new p of_site refl (λ lost. found (sym is ∙ lost))

        delivered : (o : Outcome) → new_of tables p ≡ o → exit_at site p.entry p.dst ≡ Deliver → (h : Bool) → h ≡ is_accepted o → behind New h Deliver (entered p) ≡ o
        delivered Drop is deliver true h = absurd (true≢false h)
        delivered Drop is deliver false h = refl
        delivered (Accept w) is deliver true h =
            let kept = known.kept p w of_site is in
            ap Accept (sym (rewriting_is w None kept.dst (kept.delivered (ap (λ (d : Option End). is_delivered (exit_at site p.entry (written_addr d p.dst))) kept.dst ∙ ap is_delivered deliver))))
        delivered (Accept w) is deliver false h = absurd (false≢true h)

        sent_out : (n : ℕ) (o : Outcome) → new_of tables p ≡ o → exit_at site p.entry p.dst ≡ Out n → (h : Bool) → h ≡ is_accepted o → behind New h (Out n) (entered p) ≡ o
        sent_out n Drop is out true h = absurd (true≢false h)
        sent_out n Drop is out false h = refl
        sent_out n (Accept w) is out true h =
            ap (λ (t : Bool). Accept (cond t (translated_out p c site New (entered p)) (entered p)).wrote) (crosses_is arrives n out)
            ∙ ap Accept (source_of w n out is (crosses (Out n)) refl)
        sent_out n (Accept w) is out false h = absurd (false≢true h)

        gone : (o : Outcome) → new_of tables p ≡ o → exit_at site p.entry p.dst ≡ Lost → (h : Bool) → behind New h Lost (entered p) ≡ o
        gone Drop is lost true = refl
        gone Drop is lost false = refl
        gone (Accept w) is lost h =
            let kept = known.kept p w of_site is in
            absurd (kept.leaves (ap (λ (d : Option End). exit_at site p.entry (written_addr d p.dst)) kept.dst ∙ lost))

        by_exit : (exit : Exit) → exit_at site p.entry p.dst ≡ exit → behind New b (exit_at site p.entry p.dst) (entered p) ≡ new_of tables p
        by_exit Deliver is =
            ap (λ (exit : Exit). behind New b exit (entered p)) is ∙ delivered (new_of tables p) refl is b (unless_lost Deliver is (λ h. not_delivered h))
        by_exit (Out n) is = ap (λ (exit : Exit). behind New b exit (entered p)) is ∙ sent_out n (new_of tables p) refl is b (unless_lost (Out n) is (λ h. not_out n h))
        by_exit Lost is = ap (λ (exit : Exit). behind New b exit (entered p)) is ∙ gone (new_of tables p) refl is b

  -- Established packets

  est_in : (r : Rec) → is_host p ≡ false → IsPairOf site p r → (guard : IsGuarded site tables c p.entry) → walk c site p (Est r) ≡ est_of tables p r
  est_in r arrives of_site guard =
      walk_in (Est r) (permits site (Est r) false guard.l.entries (entered p)) arrives (passes_in (Est r) arrives guard)
      ∙ by_exit (exit_at site p.entry r.rdst) refl where
        b : Bool
        b = permits site (Est r) false guard.l.entries (entered p)

        -- an accepted pair isn't rewritten
        plain : (o : Outcome) → est_of tables p r ≡ o → (IsLost site p r → ⊥) → IsToldPair site tables p r → o ≡ cond (is_accepted o) (Accept nothing_written) Drop
        plain Drop is found told = refl
        plain (Accept w) is found (inl lost) = absurd (found lost.0)
        plain (Accept w) is found (inr (inl accepted)) = sym is ∙ accepted.1
        plain (Accept w) is found (inr (inr dropped)) = absurd (not_drop (sym is ∙ dropped.1)) where
          not_drop : Accept w ≡ Drop → ⊥
          not_drop h = cc

        here : (IsLost site p r → ⊥) → b ≡ is_accepted (est_of tables p r)
        here found = guard.decides.established p r of_site refl found

        passed : (h : Bool) → b ≡ h → (IsLost site p r → ⊥) → cond h (Accept nothing_written) Drop ≡ est_of tables p r
        passed h is found =
            ap (λ (t : Bool). cond t (Accept nothing_written) Drop) (sym is ∙ here found)
            ∙ sym (plain (est_of tables p r) refl found (known.pairs p r of_site arrives))

        with_bool : (exit : Exit) → (h : Bool) → (exit ≡ Lost → ⊥) → behind (Est r) h exit (with_tracked_dst (Est r) (entered p)) ≡ cond h (Accept nothing_written) Drop
        with_bool Deliver true found = refl
        with_bool Deliver false found = refl
        with_bool (Out n) true found = refl
        with_bool (Out n) false found = refl
        with_bool Lost h found = absurd (found refl)

        gone : (h : Bool) → behind (Est r) h Lost (with_tracked_dst (Est r) (entered p)) ≡ Drop
        gone true = refl
        gone false = refl

        by_exit : (exit : Exit) → exit_at site p.entry r.rdst ≡ exit
            → behind (Est r) b (exit_at site p.entry r.rdst) (with_tracked_dst (Est r) (entered p)) ≡ est_of tables p r
        by_exit Deliver is =
            ap (λ (exit : Exit). behind (Est r) b exit (with_tracked_dst (Est r) (entered p))) is ∙ with_bool Deliver b not_delivered
            ∙ passed b refl (λ lost. not_delivered (sym is ∙ lost))
        by_exit (Out n) is =
            ap (λ (exit : Exit). behind (Est r) b exit (with_tracked_dst (Est r) (entered p))) is ∙ with_bool (Out n) b (not_out n)
            ∙ passed b refl (λ lost. not_out n (sym is ∙ lost))
        by_exit Lost is =
            ap (λ (exit : Exit). behind (Est r) b exit (with_tracked_dst (Est r) (entered p))) is ∙ gone b ∙ sym (known.lost p r of_site is)

  -- Whole ways

  pub new_placed : IsPacketOf site p → walk c site p New ≡ new_of tables p
  new_placed of_site = by (is_host p) refl where
    by : (h : Bool) → is_host p ≡ h → walk c site p New ≡ new_of tables p
    by true own =
        ap (λ (t : Bool). outcome_of New (cond t (Some (entered p)) (option_and_then (ahead New) (arrived c site p New (entered p))))) own ∙ sym (known.host p of_site own).0
    by false arrives = let at = entry_is site p of_site arrives in new_in arrives of_site (laid.inward p.entry at.0 at.1)

  pub est_placed : (r : Rec) → IsPacketOf site p → IsPairOf site p r → walk c site p (Est r) ≡ est_of tables p r
  est_placed r packet of_site = by (is_host p) refl where
    by : (h : Bool) → is_host p ≡ h → walk c site p (Est r) ≡ est_of tables p r
    by true own =
        ap (λ (t : Bool). outcome_of (Est r) (cond t (Some (entered p)) (option_and_then (ahead (Est r)) (arrived c site p (Est r) (entered p))))) own
        ∙ sym ((known.host p packet own).1 r of_site)
    by false arrives = let at = entry_is site p packet arrives in est_in r arrives of_site (laid.inward p.entry at.0 at.1)

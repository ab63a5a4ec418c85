-- Rewritings that packets get by their marks.
use Rattle.std.proofs.Common.{◌≡◌, ℕ, ◌⊎◌, inl, inr, Bool, true, false, cond, ◌||◌, nat_eq, nat_lt, slice_get, Option, Some, None, IfSome, is_some, [], ◌∷◌, All, arith, refl, sym, ap, ◌∙◌, subst}
use Rattle.std.proofs.lemmas.Bool.{false≢true, eqb-true, lt-ltb}
use Rattle.std.specs.Option.{option_map_or}
use Rattle.fws_iv.specs.Ivs.{has}
use Rattle.fws_iv.specs.Prefixes.{IsBlock, some_prefix_has}
use Rattle.fws_net.specs.declared.connection.Kind.TheVariants.{New}
use Rattle.fws_net.specs.declared.outcome.End.{End}
use Rattle.fws_net.specs.declared.outcome.Rewrite.{Rewrite}
use Rattle.fws_net.specs.declared.outcome.Outcome.TheVariants.{Accept}
use Rattle.fws_net.specs.declared.packet.Packet.{Packet}
use Rattle.fws_net.specs.declared.site.Site.{Site}
use Rattle.fws_net.specs.Fates.{has_ports}
use Rattle.fws_net.specs.Points.{tops_of}
use Rattle.fws_net.specs.RegularWalks.{WritesNoPort}
use Rattle.fws_net.specs.Transits.{nothing_written}
use Rattle.fws_tree.specs.declared.tables.Tables.{Tables}
use Rattle.fws_tree.specs.Plain.{value}
use Rattle.fws_tree.specs.Regular.{AreRegular}
use Rattle.fws_ipt.specs.declared.config.IptConfig.{IptConfig}
use Rattle.fws_ipt.specs.declared.config.IptTable.TheVariants.{Nat}
use Rattle.fws_ipt.specs.declared.hook.Hook.{Hook}
use Rattle.fws_ipt.specs.declared.passage.ChainEnd.{ChainEnd}
use Rattle.fws_ipt.specs.declared.passage.Passage.{Passage}
use Rattle.fws_ipt.specs.Walk.{by_policy, chain_walk, entering, visit}
use Rattle.fws_ipt_put_chains.specs.declared.verdict.Verdict.{Verdict}
use Rattle.fws_ipt_put_chains.specs.declared.verdict.Verdict.TheVariants as verdicts
use Rattle.fws_ipt_put_chains.specs.Branches.{verdict_end}
use Rattle.fws_place.specs.Meaning.{IsPacketOf, no_ends, point_of}
use Rattle.fws_ipt_put.specs.declared.marks.Mark.{Mark}
use Rattle.fws_ipt_put.specs.Marks.{IsMarkOf, is_network, mark_at, marked, same_rewrite, verdict_of, writes}
use Rattle.fws_ipt_put.specs.NatRules.{end_rules, mark_rules_at, nat_rules}
use Rattle.fws_ipt_put.proofs.Lists.{all_got, map_got, none_is, position_found}
use Rattle.fws_ipt_put.proofs.NatMet.{SuitsEnd, Writes, address_of, all_passed, end_written, marks_met}
use Rattle.fws_ipt_put.proofs.Standing.{Stands, stood}
use Rattle.fws_ipt_put.proofs.Plan.{Known, Plan}
use Rattle.fws_ipt_put.proofs.Written.{end_of, blocks_of, ended_accepted, rewrite_itself, same_rewrites}

module _ (site : Site) (tables : Tables) (regular : AreRegular site tables) (k : Known site tables) (c : IptConfig) (plan : Plan site tables k c.chains) where
  abbrev enter : Packet → Bool → Hook → ℕ → ℕ → Passage → ChainEnd
  enter p is_est hook at = chain_walk c.chains site p is_est hook plan.n (at ∷ [])

  -- the mark of a rewriting: none where it writes nothing, else the one at its place
  pub record HasMark (p : Packet) (w : Rewrite) : Type 0 where
    pub place : ℕ
    pub mark : Mark
    pub at : slice_get k.marks place ≡ Some mark
    pub is : mark.rewrite ≡ w
    pub verdict : verdict_of k.rewrites (Accept w) ≡ verdicts.Mark (mark_at place)

  has_mark : (p : Packet) (w : Rewrite) → IsPacketOf site p → value tables.fresh.1 (point_of p no_ends) ≡ Some (Accept w) → writes w ≡ true → HasMark p w
  has_mark p w of_site is writing =
      let among = k.has_rewrites (point_of p no_ends) w of_site is writing in
      let found = position_found (same_rewrite w) k.rewrites among.0 w among.1 (rewrite_itself w) in
      let same : w ≡ found.2.0 = same_rewrites w found.2.0 found.2.2 in
      let listed = ap (λ l. slice_get l found.0) k.marked ∙ found.2.1 ∙ ap Some (sym same) in
      let mark = map_got (λ (mark : Mark). mark.rewrite) k.marks found.0 w listed in
      record {
        place = found.0;
        mark = mark.0;
        at = mark.1;
        is = mark.2;
        verdict = ap (λ b. cond b (marked k.rewrites w) verdicts.Accept) writing
            ∙ ap (λ o. option_map_or (λ i. verdicts.Mark (mark_at i)) o verdicts.Drop) found.1;
      }

  -- what rules of nat need of a packet with the mark
  suits_end : (p : Packet) (w : Rewrite) (of_site : IsPacketOf site p) → value tables.fresh.1 (point_of p no_ends) ≡ Some (Accept w)
      → (hook : Hook) (at : ℕ) (m : Passage) (on_source : Bool) → m.packet.proto ≡ p.proto → address_of on_source m.packet ≡ address_of on_source p
      → (mark : Mark) → mark.rewrite ≡ w → IsMarkOf (tops_of site) tables.fresh.1 mark
      → (end : Option End) → end_of on_source w ≡ end → SuitsEnd (enter p false hook at) site p hook m on_source mark (blocks_of on_source mark) end
  suits_end p w of_site is hook at m on_source proto address mark rewriting known None end_is = tt
  suits_end p w of_site is hook at m on_source proto address mark rewriting known (Some e) end_is = record {
    sound = sound_blocks on_source;
    ports = ports;
    within = λ short. ap (some_prefix_has (blocks_of on_source mark)) address ∙ within on_source end_is (lt-ltb e.len 32 short);
  } where
    there : value tables.fresh.1 (point_of p no_ends) ≡ Some (Accept mark.rewrite)
    there = is ∙ ap (λ x. Some (Accept x)) (sym rewriting)

    sound_blocks : (source : Bool) → All IsBlock (blocks_of source mark)
    sound_blocks true = known.src_sound
    sound_blocks false = known.dst_sound

    within : (source : Bool) → end_of source w ≡ Some e → nat_lt e.len 32 ≡ true → some_prefix_has (blocks_of source mark) (address_of source p) ≡ true
    within true same short =
        known.src (point_of p no_ends) of_site there (ap (λ (x : Rewrite). is_network x.src) rewriting ∙ ap is_network same ∙ short)
    within false same short =
        known.dst (point_of p no_ends) of_site there (ap (λ (x : Rewrite). is_network x.dst) rewriting ∙ ap is_network same ∙ short)

    -- a port is written at protocols that have one
    with_ports : (port : ℕ) → e.port ≡ Some port → has_ports p.proto ≡ true
    with_ports port port_is = by_case (has_ports p.proto) refl where
      by_case : (b : Bool) → has_ports p.proto ≡ b → has_ports p.proto ≡ true
      by_case true h = h
      by_case false h = absurd (none_is (sym (no_port on_source end_is (regular.fresh_written (point_of p no_ends) w of_site is h)) ∙ port_is)) where
        no_port : (source : Bool) → end_of source w ≡ Some e → WritesNoPort w → e.port ≡ None
        no_port true same plain = subst (λ o. IfSome o (λ (x : End). x.port ≡ None)) same plain.0
        no_port false same plain = subst (λ o. IfSome o (λ (x : End). x.port ≡ None)) same plain.1

    ports : (port : ℕ) → e.port ≡ Some port → ((m.packet.proto ≡ 6) × (mark.tcp ≡ true)) ⊎ ((m.packet.proto ≡ 17) × (mark.udp ≡ true))
    ports port port_is = by_proto (nat_eq p.proto 6) refl (nat_eq p.proto 17) refl (with_ports port port_is) where
      by_proto : (b : Bool) → nat_eq p.proto 6 ≡ b → (d : Bool) → nat_eq p.proto 17 ≡ d → (b || d) ≡ true
          → ((m.packet.proto ≡ 6) × (mark.tcp ≡ true)) ⊎ ((m.packet.proto ≡ 17) × (mark.udp ≡ true))
      by_proto true six d udp h =
          let six_is : p.proto ≡ 6 = eqb-true p.proto 6 six in
          inl (proto ∙ six_is, known.tcp (point_of p no_ends) of_site there six_is)
      by_proto false six true udp h =
          let udp_is : p.proto ≡ 17 = eqb-true p.proto 17 udp in
          inr (proto ∙ udp_is, known.udp (point_of p no_ends) of_site there udp_is)
      by_proto false six false udp h = absurd (false≢true h)

  -- the passage of an accepted packet behind mangle
  abbrev pub marked_passage : Packet → ℕ → Passage
  marked_passage p v = record { packet = p; mark = v; wrote = nothing_written }

  -- where the rules of a hook stand for all that get the rewriting
  abbrev pub StandsAt : Hook → Bool → Rewrite → Type 0
  StandsAt hook on_source w = (mark : Mark) → mark.rewrite ≡ w → IsMarkOf (tops_of site) tables.fresh.1 mark
      → (v : ℕ) → mark_rules_at hook v mark ≡ end_rules on_source v mark (blocks_of on_source mark) (end_of on_source w)

  -- a chain of nat writes the end of the mark
  nat_marked : (p : Packet) (w : Rewrite) → IsPacketOf site p → value tables.fresh.1 (point_of p no_ends) ≡ Some (Accept w) → (has : HasMark p w)
      → (hook : Hook) (at : ℕ) → Stands c.chains Nat hook true (nat_rules hook 5 k.marks) at → (on_source : Bool) → Writes on_source hook → StandsAt hook on_source w
      → (m : Passage) → m.mark ≡ mark_at has.place → m.packet.proto ≡ p.proto → address_of on_source m.packet ≡ address_of on_source p
      → visit c site p New Nat hook m ≡ Some (end_written on_source p (end_of on_source w) m)
  nat_marked p w of_site is has hook at stands on_source here stands_at m mark proto address =
      let known = all_got (IsMarkOf (tops_of site) tables.fresh.1) k.marks has.place has.mark k.marks_known has.at in
      stood c.chains Nat hook true (nat_rules hook 5 k.marks) at plan.n stands plan.size site p false m
      ∙ ap (by_policy true) (marks_met (enter p false hook at) site p hook m hook on_source here has.mark (blocks_of on_source has.mark) (end_of on_source w)
      (stands_at has.mark has.is known)
      (suits_end p w of_site is hook at m on_source proto address has.mark has.is known (end_of on_source w) refl)
      5 k.marks has.place has.at (mark ∙ omega arith))
      ∙ ended_accepted on_source p (end_of on_source w) m

  -- without a mark it passes
  nat_passed : (p : Packet) (hook : Hook) (at : ℕ) → Stands c.chains Nat hook true (nat_rules hook 5 k.marks) at → (m : Passage) → m.mark ≡ 0
      → visit c site p New Nat hook m ≡ Some m
  nat_passed p hook at stands m mark =
      stood c.chains Nat hook true (nat_rules hook 5 k.marks) at plan.n stands plan.size site p false m
      ∙ ap (by_policy true) (all_passed (enter p false hook at) site p hook m hook 5 k.marks (omega (arith, mark)))

  -- the packet of an accepted outcome, with its mark
  pub record IsMarked (p : Packet) (w : Rewrite) (v : ℕ) : Type 0 where
    -- what mangle decides leads to the mark
    pub decides : by_policy false (verdict_end (verdict_of k.rewrites (Accept w)) (entering p)) ≡ Some (marked_passage p v)
    -- and each chain of nat writes
    pub nat : (hook : Hook) (at : ℕ) → Stands c.chains Nat hook true (nat_rules hook 5 k.marks) at → (on_source : Bool) → Writes on_source hook → StandsAt hook on_source w
        → (m : Passage) → m.mark ≡ v → m.packet.proto ≡ p.proto → address_of on_source m.packet ≡ address_of on_source p
        → visit c site p New Nat hook m ≡ Some (end_written on_source p (end_of on_source w) m)

  no_end : (on_source : Bool) (w : Rewrite) → writes w ≡ false → end_of on_source w ≡ None
  no_end true w none = nothing w.src (or_false_first (is_some w.src) (is_some w.dst) none) where
    nothing : (end : Option End) → is_some end ≡ false → end ≡ None
    nothing None h = refl
    nothing (Some e) h = absurd (false≢true (sym h))

    or_false_first : (a b : Bool) → (a || b) ≡ false → a ≡ false
    or_false_first true b h = absurd (false≢true (sym h))
    or_false_first false b h = refl
  no_end false w none = nothing w.dst (or_false_second (is_some w.src) (is_some w.dst) none) where
    nothing : (end : Option End) → is_some end ≡ false → end ≡ None
    nothing None h = refl
    nothing (Some e) h = absurd (false≢true (sym h))

    or_false_second : (a b : Bool) → (a || b) ≡ false → b ≡ false
    or_false_second true b h = absurd (false≢true (sym h))
    or_false_second false b h = h

  pub is_marked : (p : Packet) (w : Rewrite) → IsPacketOf site p → value tables.fresh.1 (point_of p no_ends) ≡ Some (Accept w) → (v : ℕ) × IsMarked p w v
  is_marked p w of_site is = by_writing (writes w) refl where
    by_writing : (b : Bool) → writes w ≡ b → (v : ℕ) × IsMarked p w v
    by_writing true writing =
        let has = has_mark p w of_site is writing in (
          mark_at has.place,
          record {
            decides = ap (λ (v : Verdict). by_policy false (verdict_end v (entering p))) has.verdict;
            nat = λ hook at stands on_source here stands_at m mark proto address.
                nat_marked p w of_site is has hook at stands on_source here stands_at m mark proto address;
          },
        )
    by_writing false nothing = (
      0,
      record {
        decides = ap (λ b. by_policy false (verdict_end (cond b (marked k.rewrites w) verdicts.Accept) (entering p))) nothing;
        nat = λ hook at stands on_source here stands_at m mark proto address.
            nat_passed p hook at stands m mark ∙ ap (λ end. Some (end_written on_source p end m)) (sym (no_end on_source w nothing));
      },
    )

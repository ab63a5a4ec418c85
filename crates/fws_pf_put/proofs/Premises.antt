-- What lists of translations ask of tables that fit.
use Rattle.std.proofs.Common.{◌≡◌, ℕ, zero, suc, ◌-◌, ◌^◌, ◌≤◌, Bool, true, false, nat_eq, is_some, Option, Some, None, unwrap_or, slice_index, List, arith, refl, sym, ap, ◌∙◌, subst}
use Rattle.std.proofs.lemmas.Bool.{eq-eqb, false≢true, ne_eqb}
use Rattle.std.specs.Prelude.{IfSome}
use Rattle.fws_box.specs.Sides.{IsWithin}
use Rattle.fws_net.specs.declared.connection.Rec.{Rec}
use Rattle.fws_net.specs.declared.outcome.End.{End}
use Rattle.fws_net.specs.declared.outcome.Outcome.{Outcome}
use Rattle.fws_net.specs.declared.outcome.Outcome.TheVariants.{Drop, Accept}
use Rattle.fws_net.specs.declared.packet.Lang.TheVariants.{Pf}
use Rattle.fws_net.specs.declared.packet.Packet.{Packet}
use Rattle.fws_net.specs.declared.site.Site.{Site}
use Rattle.fws_net.specs.Points.{packet_of, tops_of}
use Rattle.fws_tree.specs.declared.tables.Tables.{Tables}
use Rattle.fws_tree.specs.Plain.{value}
use Rattle.fws_tree.specs.Regular.{AreRegular}
use Rattle.fws_place.specs.Clauses.{AgreeButFlagsAndType}
use Rattle.fws_place.specs.FitLaws.{PointsAreOfPairs}
use Rattle.fws_place.specs.Fits.{Fits}
use Rattle.fws_place.specs.Meaning.{IsPacketOf, IsPairOf, new_of, no_ends, point_of, rec_of}
use Rattle.fws_place.specs.PfLaws.{PfDestinationsAgree, PfHostSourcesAgree, PfKeepsNewPackets}
use Rattle.fws_place.specs.Rewritings.{writes_source_port}
use Rattle.fws_pf_put_nat.specs.Translations.{AgreeBefore, KeepsPortsOutward, WritesOneEnd, WritesPortsOfProtocols}

-- the pair with other ends
other_ends : (site : Site) (p : Packet) (r s : Rec) → IsPairOf site p r → s.rdst ≤ 2 ^ 32 - 1 → s.rdport ≤ 65535 → s.rsrc ≤ 2 ^ 32 - 1 → s.rsport ≤ 65535 → IsPairOf site p s
other_ends site p r s of_site dst dport src sport =
    let a = of_site.1 in
    let b = a.1 in
    let d = b.1 in
    let e = d.1 in
    let f = e.1 in
    let g = f.1 in
    let h = g.1 in
    (of_site.0, (a.0, (b.0, (d.0, (e.0, (f.0, (g.0, (h.0, (dst, (dport, (src, (sport, tt))))))))))))

module _ (site : Site) (tables : Tables) (regular : AreRegular site tables) where
  -- what becomes of a new packet doesn't change with the ends of a connection
  alone : (p : Packet) (r : Rec) → IsPairOf site p r → value tables.fresh.1 (point_of p no_ends) ≡ value tables.fresh.1 (point_of p r)
  alone p r of_site =
      let last = of_site.1.1.1.1.1.1.1.1 in
      let first : Rec = record { rdst = 0; rdport = r.rdport; rsrc = r.rsrc; rsport = r.rsport } in
      let second : Rec = record { rdst = 0; rdport = 0; rsrc = r.rsrc; rsport = r.rsport } in
      let third : Rec = record { rdst = 0; rdport = 0; rsrc = 0; rsport = r.rsport } in
      regular.fresh_alone 11 (point_of p third) (omega arith) (omega arith) (other_ends site p r third of_site (omega arith) (omega arith) (omega arith) last.1.1.1.0) 0 (omega arith)
      ∙ regular.fresh_alone 10 (point_of p second) (omega arith) (omega arith) (other_ends site p r second of_site (omega arith) (omega arith) last.1.1.0 last.1.1.1.0) 0 (omega arith)
      ∙ regular.fresh_alone 9 (point_of p first) (omega arith) (omega arith) (other_ends site p r first of_site (omega arith) last.1.0 last.1.1.0 last.1.1.1.0) 0 (omega arith)
      ∙ regular.fresh_alone 8 (point_of p r) (omega arith) (omega arith) of_site 0 (omega arith)

  packet_of_site : (p : Packet) (r : Rec) → IsPairOf site p r → IsPacketOf site p
  packet_of_site p r of_site = other_ends site p r no_ends of_site (omega arith) (omega arith) (omega arith) (omega arith)

  module _ (points : PointsAreOfPairs) where
    of_point : (q : List ℕ) → IsWithin (tops_of site) q → IsPairOf site (packet_of q) (rec_of q)
    of_point q within = subst (IsWithin (tops_of site)) (sym (points site q within)) within

    packet_at : (q : List ℕ) → IsWithin (tops_of site) q → IsPacketOf site (packet_of q)
    packet_at q within = packet_of_site (packet_of q) (rec_of q) (of_point q within)

    new_at : (q : List ℕ) (o : Outcome) → IsWithin (tops_of site) q → value tables.fresh.1 q ≡ Some o → new_of tables (packet_of q) ≡ o
    new_at q o within is =
        ap (λ v. unwrap_or v Drop)
        (alone (packet_of q) (rec_of q) (of_point q within) ∙ ap (value tables.fresh.1) (points site q within) ∙ is)

    agree_at : (p q : List ℕ) → AgreeBefore 6 p q → AgreeButFlagsAndType (packet_of p) (packet_of q)
    agree_at p q agree = record {
      entry = sym (agree 0 (omega arith));
      proto = sym (agree 1 (omega arith));
      dst = sym (agree 2 (omega arith));
      dport = sym (agree 3 (omega arith));
      src = sym (agree 4 (omega arith));
      sport = sym (agree 5 (omega arith));
    }

    arrives : (n : ℕ) → 1 ≤ n → nat_eq n 0 ≡ false
    arrives zero low = absurd (omega (arith, low))
    arrives (suc n) low = ne_eqb (suc n) 0 (omega arith)

    pub one_end : (outward : Bool) → Fits Pf site tables → PfDestinationsAgree → PfHostSourcesAgree → WritesOneEnd outward (tops_of site) tables.fresh.1
    one_end true fits destinations sources p q v w p_within q_within met agree p_is q_is =
        sources site tables fits (packet_of p) (packet_of q) v w (packet_at p p_within) (packet_at q q_within) (eq-eqb (slice_index p 0) 0 met) (agree_at p q agree)
        (new_at p (Accept v) p_within p_is) (new_at q (Accept w) q_within q_is)
    one_end false fits destinations sources p q v w p_within q_within met agree p_is q_is =
        destinations site tables fits (packet_of p) (packet_of q) v w (packet_at p p_within) (packet_at q q_within) (arrives (slice_index p 0) met.0) (agree_at p q agree)
        (new_at p (Accept v) p_within p_is) (new_at q (Accept w) q_within q_is)

    no_port : (src dst : Option End) → writes_source_port (record { src = src; dst = dst }) ≡ false → IfSome src (λ (e : End). e.port ≡ None)
    no_port None dst h = tt
    no_port (Some e) dst h = by_port e.port h where
      by_port : (port : Option ℕ) → is_some port ≡ false → port ≡ None
      by_port None h = refl
      by_port (Some n) h = absurd (false≢true (sym h))

    pub keeps_ports : (outward : Bool) → Fits Pf site tables → PfKeepsNewPackets → KeepsPortsOutward outward (tops_of site) tables.fresh.1
    keeps_ports outward fits keeps out p w within own is =
        no_port w.src w.dst (keeps site tables regular fits (packet_of p) w (packet_at p within) (new_at p (Accept w) within is)).source_port

  pub ports_of_protocols : WritesPortsOfProtocols (tops_of site) tables.fresh.1
  ports_of_protocols = regular.fresh_written

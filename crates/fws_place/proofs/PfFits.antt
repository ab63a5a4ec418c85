-- What follows where tables fit pf.
use Rattle.std.proofs.Common.{◌≡◌, ◌≢◌, ◌⊎◌, inl, inr, ℕ, Bool, true, false, ◌&&◌, nat_eq, is_some, Option, Some, None, eq-eqb, arith, refl, sym, ◌∙◌, ap}
use Rattle.std.proofs.lemmas.Bool.{and_from, both_ways, cases_Bool, false≢true}
use Rattle.std.specs.Option.{option_eq}
use Rattle.std.specs.Prelude.{unwrap_or}
use Rattle.fws_net.specs.declared.outcome.End.{End}
use Rattle.fws_net.specs.declared.outcome.Outcome.{Outcome}
use Rattle.fws_net.specs.declared.outcome.Outcome.TheVariants.{Drop, Accept}
use Rattle.fws_net.specs.declared.outcome.Rewrite.{Rewrite}
use Rattle.fws_net.specs.declared.packet.Lang.TheVariants.{Pf}
use Rattle.fws_net.specs.declared.packet.Packet.{Packet}
use Rattle.fws_net.specs.declared.site.Site.{Site}
use Rattle.fws_net.specs.Transits.{nothing_written}
use Rattle.fws_tree.specs.OutcomeEquality.{end_exact}
use Rattle.fws_tree.specs.LeafEquality.{option_exact}
use Rattle.fws_tree.specs.declared.tables.Tables.{Tables}
use Rattle.fws_tree.specs.Plain.{value}
use Rattle.fws_place.specs.declared.breach.Pair.{Pair}
use Rattle.fws_place.specs.declared.clause.Clause.TheVariants.{FewOutcomes, KeepsSourcePorts, KeepsHostDestinations, KeepsDeliveredSources, DropsNoEstablished, OneDestination, OneHostSource}
use Rattle.fws_place.specs.Clauses.{IsAcceptedWith, NamesPacket}
use Rattle.fws_place.specs.Fits.{Fits, Meets}
use Rattle.fws_place.specs.Lost.{is_lost_at}
use Rattle.fws_place.specs.Meaning.{IsPacketOf, est_of, no_ends, point_of}
use Rattle.fws_place.specs.Pairs.{IsLost, is_host}
use Rattle.fws_place.specs.PfLaws.{PfDestinationsAgree, PfHostSourcesAgree, PfKeepsNewPackets, PfPairsPass}
use Rattle.fws_place.specs.Rewritings.{is_accepted_with, is_delivered, new_exit, writes_destination, writes_source, writes_source_port}
use Rattle.fws_place.proofs.Viewing.{is_lost, lost_is}

-- Clauses

-- the tables meet the clauses of pf
pub record Clauses (site : Site) (tables : Tables) : Type 0 where
  pub source_ports : Meets site tables KeepsSourcePorts
  pub host_destinations : Meets site tables KeepsHostDestinations
  pub delivered_sources : Meets site tables KeepsDeliveredSources
  pub established : Meets site tables DropsNoEstablished
  pub destinations : Meets site tables OneDestination
  pub host_sources : Meets site tables OneHostSource

clauses_met : (site : Site) (tables : Tables) → Fits Pf site tables → Clauses site tables
clauses_met site tables fits = record {
  source_ports = fits 1 FewOutcomes (omega arith);
  host_destinations = fits 2 FewOutcomes (omega arith);
  delivered_sources = fits 3 FewOutcomes (omega arith);
  established = fits 4 FewOutcomes (omega arith);
  destinations = fits 5 FewOutcomes (omega arith);
  host_sources = fits 6 FewOutcomes (omega arith);
}

-- Established pairs

-- an outcome that a table doesn't have is a drop
pub got : (v : Option Outcome) (w : Rewrite) → unwrap_or v Drop ≡ Accept w → v ≡ Some (Accept w)
got None w e = absurd (cc)
got (Some o) w e = ap Some e

unwritten : (w : Rewrite) → w.src ≡ None → w.dst ≡ None → w ≡ nothing_written
unwritten w s d = λ i. record { src = s i; dst = d i }

pub pairs_pass : PfPairsPass
pairs_pass site tables regular fits p r w = by (est_of tables p r) refl
  where
    by : (o : Outcome) → est_of tables p r ≡ o → (IsLost site p r × (est_of tables p r ≡ Drop)) ⊎ (est_of tables p r ≡ Accept nothing_written)
    by (Accept v) e =
        let kept = regular.est_unwritten (point_of p r) v w (got (value tables.est.1 (point_of p r)) v e) in
        inr (e ∙ ap Accept (unwritten v kept.0 kept.1))
    by Drop e = elim (cases_Bool (is_lost_at site (point_of p r))) [
      | inl lost ↦ inl (lost_is site p r lost, e)
      | inr found ↦ absurd ((clauses_met site tables fits).established (record { packet = p; rec = Some r }) None (record {
        ends = r;
        of_site = w;
        established = refl;
        alone = refl;
        such = record { of_site = w; found = λ lost. both_ways (is_lost_at site (point_of p r)) found (is_lost site p r lost); dropped = e };
      }))
    ]

-- Ends that agree

-- the ends have the same plain parts
abbrev same_end : End → End → Bool
same_end x y = nat_eq x.addr y.addr && (nat_eq x.len y.len && option_eq nat_eq x.port y.port)

itself : (end : Option End) → option_eq same_end end end ≡ true
itself None = refl
itself (Some e) =
    and_from (nat_eq e.addr e.addr) (nat_eq e.len e.len && option_eq nat_eq e.port e.port) (eq-eqb e.addr e.addr refl)
    (and_from (nat_eq e.len e.len) (option_eq nat_eq e.port e.port) (eq-eqb e.len e.len refl) (port e.port))
  where
    port : (n : Option ℕ) → option_eq nat_eq n n ≡ true
    port None = refl
    port (Some n) = eq-eqb n n refl

-- ends that don't differ are equal
pub not_different : (x y : Option End) → (x ≢ y → ⊥) → x ≡ y
not_different x y h = elim (cases_Bool (option_eq same_end x y)) [
  | inl same ↦ option_exact same_end end_exact x y same
  | inr other ↦ absurd (h (λ e. both_ways (option_eq same_end x y) other (ap (option_eq same_end x) (sym e) ∙ itself x)))
]

pub destinations_agree : PfDestinationsAgree
destinations_agree site tables fits p q v w first second arrives agree accepted other =
    not_different v.dst w.dst (λ differ. (clauses_met site tables fits).destinations (record { packet = p; rec = None }) (Some (record { packet = q; rec = None })) (record {
      other = q;
      of_site = first;
      other_of_site = second;
      new = refl;
      both = refl;
      such = record {
        arrives = arrives;
        agree = agree;
        differ = record { rewriting = v; other = w; accepted = accepted; other_accepted = other; differ = differ };
      };
    }))

pub host_sources_agree : PfHostSourcesAgree
host_sources_agree site tables fits p q v w first second host agree accepted other =
    not_different v.src w.src (λ differ. (clauses_met site tables fits).host_sources (record { packet = p; rec = None }) (Some (record { packet = q; rec = None })) (record {
      other = q;
      of_site = first;
      other_of_site = second;
      new = refl;
      both = refl;
      such = record {
        host = host;
        agree = agree;
        differ = record { rewriting = v; other = w; accepted = accepted; other_accepted = other; differ = differ };
      };
    }))

-- New packets

-- what no packet is named for doesn't hold of a packet of the site
pub unnamed : (site : Site) (Such : Packet → Type 0) → ((first : Pair) (second : Option Pair) → NamesPacket site Such first second → ⊥) → (p : Packet) → IsPacketOf site p → Such p → ⊥
unnamed site Such none p of_site such =
    none (record { packet = p; rec = None }) None (record { of_site = of_site; new = refl; alone = refl; such = such })

pub no_truth : (b : Bool) → (b ≡ true → ⊥) → b ≡ false
no_truth true h = absurd (h refl)
no_truth false h = refl

pub nothing_there : (end : Option End) → is_some end ≡ false → end ≡ None
nothing_there None h = refl
nothing_there (Some e) h = absurd (false≢true (sym h))

pub keeps_new_packets : PfKeepsNewPackets
keeps_new_packets site tables regular fits p w of_site is = record {
  source_port = no_truth (writes_source_port w) (λ h. unnamed site (IsAcceptedWith tables writes_source_port) met.source_ports p of_site (accepted writes_source_port h));
  host = λ host. nothing_there w.dst (no_truth (writes_destination w)
      (λ h. unnamed site (λ q. (is_host q ≡ true) × IsAcceptedWith tables writes_destination q) met.host_destinations p of_site (host, accepted writes_destination h)));
  delivered = λ here. nothing_there w.src (sym (ap (λ b. b && writes_source w) here) ∙ no_truth (is_delivered (new_exit site p w) && writes_source w)
      (λ h. unnamed site (λ q. IsAcceptedWith tables (λ v. is_delivered (new_exit site q v) && writes_source v) q) met.delivered_sources p of_site
      (accepted (λ v. is_delivered (new_exit site p v) && writes_source v) h)));
  ports = λ none. regular.fresh_written (point_of p no_ends) w of_site there none;
  leaves = regular.fresh_leaves (point_of p no_ends) w of_site there;
}
  where
    met : Clauses site tables
    met = clauses_met site tables fits

    there : value tables.fresh.1 (point_of p no_ends) ≡ Some (Accept w)
    there = got (value tables.fresh.1 (point_of p no_ends)) w is

    accepted : (test : Rewrite → Bool) → test w ≡ true → IsAcceptedWith tables test p
    accepted test h = ap (is_accepted_with test) is ∙ h

-- A configuration with the translations and the rules of a policy does what the tables say.
use Rattle.std.proofs.Common.{◌≡◌, ℕ, true, false, List, [], ◌++◌, length, ap, ◌∙◌, subst}
use Rattle.std.proofs.lemmas.Bool.{and_from}
use Rattle.std.proofs.lemmas.List.Folds.{list_all-append}
use Rattle.std.specs.List.{list_all}
use Rattle.fws_iv.specs.declared.iv.Iv.{Iv}
use Rattle.fws_net.specs.declared.outcome.End.{End}
use Rattle.fws_net.specs.declared.outcome.Outcome.{Outcome}
use Rattle.fws_net.specs.declared.packet.Lang.TheVariants.{Pf}
use Rattle.fws_net.specs.declared.site.Site.{Site}
use Rattle.fws_net.specs.Points.{tops_of}
use Rattle.fws_tree.specs.declared.node.Node.{Node}
use Rattle.fws_tree.specs.declared.tables.Tables.{Tables}
use Rattle.fws_tree.specs.Plain.{IsReduced}
use Rattle.fws_tree.specs.Regular.{AreRegular}
use Rattle.fws_pf.specs.declared.config.PfConfig.{PfConfig}
use Rattle.fws_pf.specs.declared.config.PfNat.{PfNat}
use Rattle.fws_pf.specs.declared.config.PfRule.{PfRule}
use Rattle.fws_pf_print.specs.Printable.{is_printed_translation}
use Rattle.fws_pf_put_filter.specs.Filters.{IsFilter}
use Rattle.fws_pf_put_nat.specs.Translations.{IsTranslations}
use Rattle.fws_place.specs.FitLaws.{LostPairsAreDropped}
use Rattle.fws_place.specs.Fits.{Fits}
use Rattle.fws_place.specs.PfLaws.{PfKeepsNewPackets, PfPairsPass}
use Rattle.fws_place.specs.TellingLaws.{ViewsAreTold}
use Rattle.fws_pf_put.specs.Drafted.{IsDrafted, IsFitting}
use Rattle.fws_pf_put.specs.Gathered.{TellSources, rewrite_at}
use Rattle.fws_pf_put.specs.Sources.{AreSources}
use Rattle.fws_pf_put.proofs.EstWays.{est_placed}
use Rattle.fws_pf_put.proofs.NewWays.{new_placed}
use Rattle.fws_pf_put.proofs.Plan.{Known, Laws, Plan}

-- what is known of tables that fit
pub known_by : (site : Site) (tables : Tables) → AreRegular site tables → Fits Pf site tables → ViewsAreTold → PfKeepsNewPackets → PfPairsPass → LostPairsAreDropped
    → IsReduced tables.fresh.0 tables.fresh.1 → Known site tables
known_by site tables regular fits views keeps pairs lost reduced = record {
  told = (views site tables regular).fresh;
  reduced = subst (λ (ts : List ℕ). IsReduced ts tables.fresh.1) regular.fresh_tops reduced;
  kept = keeps site tables regular fits;
  pairs = pairs site tables regular fits;
  lost = lost site tables regular;
}

-- the translations of packets that go out
abbrev pub AreOutward : Site → Tables → List Outcome → List Node → List ℕ → List End → List (List Iv) → List PfNat → Type 0
AreOutward site tables leaves nodes states ends sets nat =
    (first : List PfNat) × (host : List PfNat) × (nat ≡ first ++ host) × AreSources (rewrite_at leaves nodes states) ends sets (length nodes) first
    × IsTranslations site (tops_of site) tables.fresh.1 leaves nodes states true host

pub all_drafted : (site : Site) (tables : Tables) (leaves : List Outcome) (nodes : List Node) (states : List ℕ) (ends : List End) (sets : List (List Iv))
    (skip : List Iv) (rdr nat : List PfNat) (filter : List PfRule) (tags : List (List ℕ))
    → IsFitting site tables leaves nodes states → Laws → Known site tables → TellSources (tops_of site) tables.fresh.1 ends sets
    → AreOutward site tables leaves nodes states ends sets nat
    → IsTranslations site (tops_of site) tables.fresh.1 leaves nodes states false rdr
    → IsFilter site (tops_of site) leaves nodes states filter
    → skip ≡ [] → IsDrafted site tables (record { skip = skip; rdr = rdr; nat = nat; filter = filter; tags = tags })
all_drafted site tables leaves nodes states ends sets skip rdr nat filter tags fitting laws known tell outward inward rules none =
    let c : PfConfig = record { skip = skip; rdr = rdr; nat = nat; filter = filter; tags = tags } in
    let plan : Plan site tables c = record {
      laws = laws;
      known = known;
      leaves = leaves;
      nodes = nodes;
      states = states;
      shared = fitting.shared;
      stated = fitting.stated;
      ends = ends;
      sets = sets;
      tell = tell;
      sources = outward.0;
      host = outward.1;
      are_sources = outward.3;
      inward = inward;
      outward = outward.4;
      nat_is = outward.2;
      skip = none;
      filter = rules;
    } in
    let p = is_printed_translation site false in
    record {
      printed = record {
        skip = none;
        rdr = inward.printed;
        nat = ap (list_all p) outward.2
            ∙ list_all-append p outward.0 outward.1
            ∙ and_from (list_all p outward.0) (list_all p outward.1) (outward.3.printed site) outward.4.printed;
        filter = rules.printed;
      };
      catches = rules.catches;
      tracks = rules.tracks;
      new = new_placed site tables c plan;
      established = est_placed site tables known c;
    }

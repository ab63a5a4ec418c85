-- Tables that fit are placed.
use Rattle.std.proofs.Common.{ℕ, ◌+◌, ◌^◌, ◌<◌, Bool, List, length, arith}
use Rattle.fws_net.specs.declared.outcome.Rewrite.{Rewrite}
use Rattle.fws_net.specs.declared.packet.Lang.TheVariants.{Iptables}
use Rattle.fws_net.specs.declared.site.Site.{Site}
use Rattle.fws_net.specs.Points.{tops_of}
use Rattle.fws_tree.specs.declared.tables.Tables.{Tables}
use Rattle.fws_tree.specs.Plain.{Plain}
use Rattle.fws_tree.specs.Regular.{AreRegular}
use Rattle.fws_tree_seen.specs.SightLaws.{HasImages}
use Rattle.fws_ipt.specs.declared.config.IptChain.{IptChain}
use Rattle.fws_ipt.specs.declared.config.IptConfig.{IptConfig}
use Rattle.fws_ipt_put_chains.specs.declared.verdict.Verdict.{Verdict}
use Rattle.fws_place.specs.declared.clause.Clause.TheVariants.{DropsByOneView}
use Rattle.fws_place.specs.Fits.{Fits, Meets}
use Rattle.fws_place.specs.FitLaws.{FittingPairsAreTold, LostPairsAreDropped}
use Rattle.fws_place.specs.TellingLaws.{PointsAreSeen}
use Rattle.fws_place.specs.Seen.{IsAcceptedAlike, IsAcceptedSomewhere, Tells}
use Rattle.fws_ipt_put.specs.declared.chains.Draft.{Draft}
use Rattle.fws_ipt_put.specs.declared.marks.Mark.{Mark}
use Rattle.fws_ipt_put.specs.Drafts.{IsDraft, IsFilled}
use Rattle.fws_ipt_put.specs.Marks.{AreMarks, passing, verdict_of}
use Rattle.fws_ipt_put.specs.Placed.{IsPlaced}
use Rattle.fws_ipt_put.proofs.Plan.{Known}
use Rattle.fws_ipt_put.proofs.Planned.{placed}
use Rattle.fws_ipt_put.proofs.Presented.{printable}
use Rattle.fws_ipt_put.proofs.Supplied.{known_fit}

module _ (site : Site) (tables : Tables) (regular : AreRegular site tables) where
  abbrev tops : List ℕ
  tops = tops_of site

  -- what is known of them
  abbrev known_of : FittingPairsAreTold → LostPairsAreDropped → Fits Iptables site tables → (packet behind : Plain Bool) (entering news routed : Plain Verdict) (rewrites : List Rewrite) (marks : List Mark)
      → Tells site (λ p r. IsAcceptedSomewhere site tables p) packet → Tells site (IsAcceptedAlike site tables) behind
      → HasImages tops passing packet entering → HasImages tops (verdict_of rewrites) tables.fresh.1 news → HasImages tops passing behind routed
      → AreMarks tops tables.fresh.1 rewrites marks → Known site tables
  known_of told lost fits packet behind entering news routed rewrites marks packet_tells behind_tells entering_made news_made routed_made are =
      let meets : Meets site tables DropsByOneView = fits 1 DropsByOneView (omega arith) in
      record {
        packet = packet;
        behind = behind;
        entering = entering;
        news = news;
        routed = routed;
        rewrites = rewrites;
        marks = marks;
        entering_made = entering_made;
        news_made = news_made;
        routed_made = routed_made;
        told = λ p r b c of_site found b_is c_is. told site tables packet behind regular meets packet_tells behind_tells p r b c of_site found b_is c_is;
        lost = λ p r of_site is_lost. lost site tables regular p r of_site is_lost;
        has_rewrites = are.has;
        marked = are.marked;
        marks_known = are.known;
      }

  pub all_placed : PointsAreSeen → FittingPairsAreTold → LostPairsAreDropped → Fits Iptables site tables → (packet behind : Plain Bool) (entering news routed : Plain Verdict) (rewrites : List Rewrite) (marks : List Mark)
      → Tells site (λ p r. IsAcceptedSomewhere site tables p) packet → Tells site (IsAcceptedAlike site tables) behind
      → HasImages tops passing packet entering → HasImages tops (verdict_of rewrites) tables.fresh.1 news → HasImages tops passing behind routed
      → AreMarks tops tables.fresh.1 rewrites marks
      → (draft : Draft) (chains : List IptChain) → IsDraft site entering news routed marks draft → IsFilled site draft chains
      → length marks + 5 < 2 ^ 32 → length draft.chains < 2 ^ 64 → IsPlaced site tables (record { chains = chains })
  all_placed seen told lost fits packet behind entering news routed rewrites marks packet_tells behind_tells entering_made news_made routed_made are draft chains d f few many =
      let k = known_of told lost fits packet behind entering news routed rewrites marks packet_tells behind_tells entering_made news_made routed_made are in
      let config : IptConfig = record { chains = chains } in
      placed seen site tables regular k draft d config f
      (printable site tables k draft d config f (known_fit tops tables.fresh.1 marks are.known) (omega (arith, few)) many)

-- A list that says what it should of each packet decides as the tables do.
use Rattle.std.proofs.Common.{◌≡◌, inl, inr, ℕ, ◌≤◌, true, false, List, refl, sym, ap, ◌∙◌, arith, subst}
use Rattle.std.proofs.lemmas.Bool.{false_from_ne_true, ne_eqb}
use Rattle.fws_net.specs.declared.connection.Kind.TheVariants.{New, Est}
use Rattle.fws_net.specs.declared.connection.Rec.{Rec}
use Rattle.fws_net.specs.declared.exit.Exit.TheVariants.{Lost}
use Rattle.fws_net.specs.declared.packet.Packet.{Packet}
use Rattle.fws_net.specs.declared.site.Site.{Site}
use Rattle.fws_net.specs.Routes.{exit_at}
use Rattle.fws_net.specs.Transits.{entered}
use Rattle.fws_ios.specs.declared.config.IosEntry.{IosEntry}
use Rattle.fws_tree.specs.declared.tables.Tables.{Tables}
use Rattle.fws_place.specs.Meaning.{IsPairOf, est_of, no_ends, point_of}
use Rattle.fws_place.specs.Pairs.{is_host}
use Rattle.fws_place.specs.Rewritings.{is_accepted}
use Rattle.fws_ios_put.specs.declared.choices.Choices.{Choices}
use Rattle.fws_ios_put.specs.Blocks.{IsListOf, IsSeen}
use Rattle.fws_ios_put.specs.Choices.{AreOfEntry, said_at}
use Rattle.fws_ios_put.specs.InLists.{IsInList}
use Rattle.fws_ios_put.proofs.Known.{IsToldPair, Known}

-- the packet of a pair is seen as its point
pub seen_as : (site : Site) (p : Packet) (r : Rec) → IsPairOf site p r → IsSeen site (entered p) (point_of p r)
seen_as site p r of_site = record {
  within = of_site;
  seen = record { proto = refl; dst = refl; dport = refl; src = refl; sport = refl; icmp = refl };
}

-- a packet that comes in by an entry isn't the host's
pub arrives_by : (p : Packet) (entry : ℕ) → 1 ≤ entry → p.entry ≡ entry → is_host p ≡ false
arrives_by p entry low is = ne_eqb p.entry 0 (λ h. not_none (subst (λ n. 1 ≤ n) (sym is ∙ h) low)) where
  not_none : 1 ≤ 0 → ⊥
  not_none h = omega arith

pub in_list_of : (site : Site) (tables : Tables) (entry : ℕ) (c : Choices) (block : List IosEntry) → Known site tables → 1 ≤ entry → AreOfEntry site tables entry c
    → IsListOf site c block → IsInList site tables entry block
in_list_of site tables entry c block known low chosen l = record {
  some = l.there;
  printed = l.formed.printed;
  keeps = l.formed.keeps;
  new = λ p of_site is found.
      let at = chosen p no_ends of_site is in
      l.decides New (entered p) (point_of p no_ends) (seen_as site p no_ends of_site) at.asked
      ∙ sym (at.new (λ lost. found (ap (λ n. exit_at site n p.dst) (sym is) ∙ lost)));
  established = λ p r of_site is found.
      let at = chosen p r of_site is in
      l.decides (Est r) (entered p) (point_of p r) (seen_as site p r of_site) at.asked
      ∙ told p r of_site is (λ lost. found (ap (λ n. exit_at site n r.rdst) (sym is) ∙ lost)) (known.pairs p r of_site (arrives_by p entry low is));
} where
  told : (p : Packet) (r : Rec) → IsPairOf site p r → p.entry ≡ entry → (exit_at site p.entry r.rdst ≡ Lost → ⊥) → IsToldPair site tables p r
      → said_at c true p (point_of p r) ≡ is_accepted (est_of tables p r)
  told p r of_site is found (inl lost) = absurd (found lost.0)
  told p r of_site is found (inr (inl accepted)) = (chosen p r of_site is).somewhere.1 accepted.0 ∙ sym (ap is_accepted accepted.1)
  told p r of_site is found (inr (inr dropped)) =
      false_from_ne_true (said_at c true p (point_of p r)) (λ h. dropped.0 ((chosen p r of_site is).somewhere.0 h)) ∙ sym (ap is_accepted dropped.1)

-- Trees that tell which pairs are dropped and aren't lost.
use Rattle.std.proofs.Common.{◌≡◌, ℕ, Bool, true, false, not, Option, Some, None, List, refl, sym, ◌∙◌, ap, MatchOption}
use Rattle.std.proofs.lemmas.Bool.{both_ways, false_from_ne_true, not-true, not_from_false}
use Rattle.std.specs.Prelude.{if◌then◌else◌}
use Rattle.fws_box.specs.Sides.{IsWithin}
use Rattle.fws_net.specs.declared.outcome.Outcome.{Outcome}
use Rattle.fws_net.specs.declared.site.Site.{Site}
use Rattle.fws_net.specs.Points.{tops_of}
use Rattle.fws_tree.specs.declared.tables.Tables.{Tables}
use Rattle.fws_tree.specs.Plain.{Plain, value}
use Rattle.fws_place.specs.declared.breach.Pair.{Pair}
use Rattle.fws_place.specs.declared.clause.Clause.TheVariants.{DropsNoEstablished}
use Rattle.fws_place.specs.Found.{IsNamedPair, IsSought, IsTrueAtNoPair}
use Rattle.fws_place.specs.Lost.{is_lost_at}
use Rattle.fws_place.specs.Meaning.{est_of, point_of}
use Rattle.fws_place.specs.Pairs.{IsDropped}
use Rattle.fws_place.specs.Rewritings.{is_accepted}
use Rattle.fws_place.specs.Seen.{Tells}
use Rattle.fws_place.proofs.Viewing.{accepts, est_at, is_lost, lost_is, not_accepted, same_told}

pub unlost : (l x : Bool) → (if l then false else x) ≡ true → (l ≡ false) × (x ≡ true)
unlost true x e = absurd (cc)
unlost false x e = (refl, e)

pub lostless : (l x : Bool) → l ≡ false → x ≡ true → (if l then false else x) ≡ true
lostless true x e f = absurd (cc)
lostless false x e f = f

pub inside : (l x : Bool) → (if l then Some false else Some x) ≡ Some (if l then false else x)
inside true x = refl
inside false x = refl

-- a tree with whether outcomes drop, that is false where pairs are lost
pub dropped_told : (site : Site) (tables : Tables) (d t : Plain Bool)
    → ((q : List ℕ) → IsWithin (tops_of site) q → (o : Outcome) × (value tables.est.1 q ≡ Some o) × (value d q ≡ Some (not (is_accepted o))))
    → ((q : List ℕ) → IsWithin (tops_of site) q → value t q ≡ (if is_lost_at site q then Some false else value d q))
    → Tells site (IsDropped site tables) t
dropped_told site tables d t at without = record {
  tells = λ p r w.
      let here = at (point_of p r) w in
      let o : Outcome = here.0 in
      let lost : Bool = is_lost_at site (point_of p r) in
      let same : est_of tables p r ≡ o = est_at tables p r o here.1 in
      let both = accepts o in (
        (if lost then false else not (is_accepted o)),
        without (point_of p r) w ∙ ap (λ v. if lost then Some false else v) here.2 ∙ inside lost (not (is_accepted o)),
        (
          (λ e. let parts = unlost lost (not (is_accepted o)) e in
              record {
                of_site = w;
                found = λ is. both_ways lost parts.0 (is_lost site p r is);
                dropped = same ∙ not_accepted o (λ n. both_ways (is_accepted o) (not-true (is_accepted o) parts.1) (both.1 n));
              }),
          λ dropped. lostless lost (not (is_accepted o)) (false_from_ne_true lost (λ e. dropped.found (lost_is site p r e)))
              (not_from_false (is_accepted o) (false_from_ne_true (is_accepted o) (λ e. both.0 e (sym same ∙ dropped.dropped)))),
        ),
      );
}

-- a pair at which such a tree is true is what was looked for
pub sought_dropped : (site : Site) (tables : Tables) (t : Plain Bool) → Tells site (IsDropped site tables) t → (found : Option (Pair × Option Pair))
    → MatchOption found (IsTrueAtNoPair site t) (IsNamedPair site t) → IsSought site tables DropsNoEstablished found
sought_dropped site tables t told None none = λ first second named.
    let here = told.tells first.packet named.ends named.of_site in
    none first.packet named.ends named.of_site (here.1 ∙ ap Some (here.2.1 named.such))
sought_dropped site tables t told (Some pair) named =
    let here = told.tells pair.0.packet named.ends named.of_site in
    record {
      ends = named.ends;
      of_site = named.of_site;
      established = named.established;
      alone = named.alone;
      such = here.2.0 (same_told _ here.0 true here.1 named.such);
    }

-- The tree of new packets that are accepted.
use Rattle.std.proofs.Common.{◌≡◌, ℕ, Bool, Option, Some, List, sym, ap, ◌∙◌, subst, arith}
use Rattle.std.specs.Prelude.{unwrap_or}
use Rattle.fws_box.specs.Sides.{IsWithin}
use Rattle.fws_net.specs.declared.outcome.Outcome.{Outcome}
use Rattle.fws_net.specs.declared.outcome.Outcome.TheVariants.{Drop}
use Rattle.fws_net.specs.declared.site.Site.{Site}
use Rattle.fws_net.specs.Points.{tops_of}
use Rattle.fws_tree_seen.specs.declared.seen.Seen.TheVariants.{Entered}
use Rattle.fws_tree_seen.specs.Shown.{IsTold}
use Rattle.fws_tree_seen.specs.SightLaws.{RelabelledTreesAreTold}
use Rattle.fws_tree.specs.declared.tables.Tables.{Tables}
use Rattle.fws_tree.specs.Plain.{Plain, value}
use Rattle.fws_tree.specs.Regular.{AreRegular}
use Rattle.fws_place.specs.Meaning.{IsPairOf, no_ends, point_of}
use Rattle.fws_place.specs.Rewritings.{is_accepted}
use Rattle.fws_place.specs.TellingLaws.{AreTold}
use Rattle.fws_ios_put.specs.Choices.{TellsNew}
use Rattle.fws_ios_put.proofs.Framing.{same_ends}

pub new_told : (site : Site) (tables : Tables) (t : List ℕ × Plain Bool) → AreRegular site tables → AreTold site tables → RelabelledTreesAreTold Outcome Bool
    → t.0 ≡ tables.fresh.0 → ((x : List ℕ) → IsWithin tables.fresh.0 x → (o : Outcome) × (value tables.fresh.1 x ≡ Some o) × (value t.1 x ≡ Some (is_accepted o)))
    → TellsNew site tables t
new_told site tables t regular views law tops made =
    let images : (x : List ℕ) → IsWithin (tops_of site) x → (o : Outcome) × (value tables.fresh.1 x ≡ Some o) × (value t.1 x ≡ Some (is_accepted o)) =
    subst (λ (ts : List ℕ). (x : List ℕ) → IsWithin ts x → (o : Outcome) × (value tables.fresh.1 x ≡ Some o) × (value t.1 x ≡ Some (is_accepted o))) regular.fresh_tops made in
    let told : IsTold Entered (tops_of site) t.1 = law Entered (tops_of site) is_accepted tables.fresh.1 t.1 images views.fresh in
    record {
      tops = tops ∙ regular.fresh_tops;
      told = told;
      tells = λ p r w.
          let v : IsPairOf site p no_ends = (
            w.0,
            (w.1.0, (w.1.1.0, (w.1.1.1.0, (w.1.1.1.1.0, (w.1.1.1.1.1.0, (w.1.1.1.1.1.1.0, (w.1.1.1.1.1.1.1.0, (omega arith, (omega arith, (omega arith, (omega arith, tt))))))))))),
          ) in
          let here = images (point_of p no_ends) v in
          let ends = w.1.1.1.1.1.1.1.1 in
          sym (same_ends site t.1 told p.entry p.proto p.dst p.dport p.src p.sport p.flags p.icmp 0 0 0 0 r.rdst r.rdport r.rsrc r.rsport v ends.0 ends.1.0 ends.1.1.0 ends.1.1.1.0)
          ∙ here.2 ∙ ap (λ (o : Outcome). Some (is_accepted o)) (sym (ap (λ (o : Option Outcome). unwrap_or o Drop) here.1));
    }

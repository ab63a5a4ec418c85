-- Pairs that are named because a tree is true at them.
use Rattle.std.proofs.Common.{Bool, Option, Some, None, true, ◌∙◌, ap, MatchOption}
use Rattle.std.specs.Prelude.{◌↔◌}
use Rattle.fws_net.specs.declared.connection.Rec.{Rec}
use Rattle.fws_net.specs.declared.packet.Packet.{Packet}
use Rattle.fws_net.specs.declared.site.Site.{Site}
use Rattle.fws_tree.specs.Plain.{Plain}
use Rattle.fws_place.specs.declared.breach.Pair.{Pair}
use Rattle.fws_place.specs.Clauses.{NamesPair}
use Rattle.fws_place.specs.Found.{IsNamedPair, IsTrueAtNoPair}
use Rattle.fws_place.specs.Seen.{Tells}
use Rattle.fws_place.proofs.Viewing.{same_told}

-- what tells of one property tells of another one that is equivalent
pub told_alike : (site : Site) (P Q : Packet → Rec → Type 0) (t : Plain Bool) → ((p : Packet) (r : Rec) → P p r ↔ Q p r) → Tells site P t → Tells site Q t
told_alike site P Q t alike told = record {
  tells = λ p r w.
      let here = told.tells p r w in
      (here.0, here.1, ((λ e. (alike p r).0 (here.2.0 e)), λ h. here.2.1 ((alike p r).1 h)));
}

-- a pair that has a property is named, or there is none
abbrev pub IsSoughtPair : Site → (Packet → Rec → Type 0) → Option (Pair × Option Pair) → Type 0
IsSoughtPair site P found =
    MatchOption found ((first : Pair) (second : Option Pair) → NamesPair site P first second → ⊥) (λ named. NamesPair site P named.0 named.1)

-- what was found in a tree that tells of a property is what was sought
pub sought_pair : (site : Site) (P : Packet → Rec → Type 0) (t : Plain Bool) → Tells site P t → (found : Option (Pair × Option Pair))
    → MatchOption found (IsTrueAtNoPair site t) (IsNamedPair site t) → IsSoughtPair site P found
sought_pair site P t told None none = λ first second named.
    let here = told.tells first.packet named.ends named.of_site in
    none first.packet named.ends named.of_site (here.1 ∙ ap Some (here.2.1 named.such))
sought_pair site P t told (Some pair) named =
    let here = told.tells pair.0.packet named.ends named.of_site in
    record {
      ends = named.ends;
      of_site = named.of_site;
      established = named.established;
      alone = named.alone;
      such = here.2.0 (same_told _ here.0 true here.1 named.such);
    }

-- The lines of an orderly site's routes are taken one after the other.
use Rattle.std.proofs.Common.{◌≡◌, ◌<◌, ◌≤◌, All, List, [], ◌∷◌, ◌++◌, map, length, get_or, refl, ap, sym, ◌∙◌, subst, append_assoc, append-nil, arith}
use Rattle.std.proofs.lemmas.Bool.{lt-leb}
use Rattle.std.proofs.lemmas.List.{get_or_at}
use Rattle.fws_net.specs.declared.draft.Stage.TheVariants.{Routes}
use Rattle.fws_net.specs.declared.site.Iface.{Iface}
use Rattle.fws_net.specs.declared.site.RouteLine.{RouteLine}
use Rattle.fws_net.specs.declared.site.Site.{Site}
use Rattle.fws_net.specs.Routes.{nets_from, IsSoundRoute}
use Rattle.fws_net.specs.SiteLaws.{is_cleared, IsOrderly}
use Rattle.fws_net.specs.SiteLines.{is_same_net}
use Rattle.fws_net.specs.SiteSpelling.{route_line, name_at}
use Rattle.fws_net.proofs.SiteLists.{is_prefix-among}
use Rattle.fws_net.proofs.SplitLists.{all_of, none_earlier, length_split}
use Rattle.fws_net.proofs.SpelledWords.{Laws}
use Rattle.fws_net.proofs.SpelledEntries.{entry_read, name_at_spelled}
use Rattle.fws_net.proofs.SpelledLines.{second, IsFreeRoute, route_taken}
use Rattle.fws_net.proofs.SpelledFaces.{faces_alone}
use Rattle.fws_net.proofs.SpelledAddresses.{names_apart}
use Rattle.fws_net.proofs.Taken.{AreTaken, none_taken, next_taken}

-- a site with nothing but interfaces and routes
abbrev pub faces_routed : List Iface → List RouteLine → Site
faces_routed faces routes = record (faces_alone faces) { routes = routes }

All_at : {A : Type 0} (P : A → Type 0) (front : List A) (x : A) (behind whole : List A) → whole ≡ front ++ x ∷ behind → All P whole → P x
All_at {A = A} P front x behind whole e h =
    let inside : length front < length (front ++ x ∷ behind) = length_split front x behind in
    let counted : length whole ≡ length (front ++ x ∷ behind) = ap length e in
    let is : get_or whole (length front) x ≡ x = ap (λ list. get_or list (length front) x) e ∙ get_or_at front x behind x (length front) refl in
    subst P is (h (length front) x (omega arith))

free_route : (site : Site) → IsOrderly site → (seen rest : List RouteLine) (line : RouteLine) → site.routes ≡ seen ++ line ∷ rest
    → IsFreeRoute line (name_at site.faces line.face) (faces_routed site.faces seen)
free_route site h seen rest line e =
    let nets = nets_from 2 site.faces in
    let sound : IsSoundRoute (length site.faces) line = All_at (IsSoundRoute (length site.faces)) seen line rest site.routes e h.sound.routes_sound in
    let split : nets ++ site.routes ≡ (nets ++ seen) ++ line ∷ rest = ap (λ list. nets ++ list) e ∙ sym (append_assoc nets seen (line ∷ rest)) in
    let inside : length seen < length (seen ++ line ∷ rest) = length_split seen line rest in
    let counted : length site.routes ≡ length (seen ++ line ∷ rest) = ap length e in
    let few : length site.routes ≤ 4096 = h.few_routes in
    record {
      len_in = sound.0;
      addr_in = sound.1;
      cleared = all_of is_cleared seen line rest site.routes e h.routes_cleared;
      spelled = name_at_spelled site.faces line.face sound.2 sound.3 h.names_spelled;
      free = sym (is_prefix-among line.net.addr line.net.len site.faces seen)
          ∙ none_earlier (λ a b. is_same_net a.net.addr a.net.len b.net.addr b.net.len) (nets ++ seen) line rest (nets ++ site.routes) split h.networks_differ;
      named = entry_read site.faces line.face sound.2 sound.3 (names_apart site h);
      room = lt-leb 4096 (length seen) (omega arith);
    }

pub routes_taken : Laws → (site : Site) → IsOrderly site → (seen rest : List RouteLine) → site.routes ≡ seen ++ rest
    → AreTaken (second Routes (faces_routed site.faces seen)) (map (route_line site.faces) rest) (second Routes (faces_routed site.faces site.routes))
routes_taken laws site h seen [] e =
    let all : seen ≡ site.routes = sym (e ∙ append-nil seen) in
    subst (λ (routes : List RouteLine). AreTaken (second Routes (faces_routed site.faces seen)) [] (second Routes (faces_routed site.faces routes))) all none_taken
routes_taken laws site h seen (line ∷ rest) e =
    next_taken (route_taken laws (faces_routed site.faces seen) line (free_route site h seen rest line e))
    (routes_taken laws site h (seen ++ line ∷ []) rest (e ∙ sym (append_assoc seen (line ∷ []) rest)))

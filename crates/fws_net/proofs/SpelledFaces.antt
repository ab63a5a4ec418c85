-- The lines of an orderly site's interfaces are taken one after the other.
use Rattle.std.proofs.Common.{◌≡◌, ◌<◌, ◌≤◌, false, ◌&&◌, ◌||◌, List, [], ◌∷◌, ◌++◌, map, length, codes, refl, ap, sym, ◌∙◌, subst, append_assoc, append-nil, arith}
use Rattle.std.proofs.lemmas.Bool.{and_parts, or_parts, or_from, lt-leb}
use Rattle.std.proofs.lemmas.List.{map-append, length-map}
use Rattle.std.specs.List.{list_any}
use Rattle.std.specs.Str.{bytes_eq}
use Rattle.fws_net.specs.declared.draft.Stage.TheVariants.{Interfaces}
use Rattle.fws_net.specs.declared.site.Iface.{Iface}
use Rattle.fws_net.specs.declared.site.Site.{Site}
use Rattle.fws_net.specs.SiteLaws.{addresses_of, are_names, IsOrderly}
use Rattle.fws_net.specs.SiteLines.{share_name, name_taken, names_taken}
use Rattle.fws_net.specs.SiteSpelling.{face_line}
use Rattle.fws_net.specs.SiteText.{empty_site}
use Rattle.fws_net.specs.SiteWords.{is_name}
use Rattle.fws_net.proofs.PairTests.{bytes_eq-sym}
use Rattle.fws_net.proofs.SplitLists.{all_of, none_earlier, any_mapped, length_split}
use Rattle.fws_net.proofs.SpelledLines.{second, with_addrs, IsFreeFace, face_taken}
use Rattle.fws_net.proofs.Taken.{AreTaken, none_taken, next_taken}

-- an interface without its addresses
abbrev pub bare : Iface → Iface
bare face = with_addrs [] face

-- a site with nothing but interfaces
abbrev pub faces_alone : List Iface → Site
faces_alone faces = record empty_site { faces = faces }

pub names_bare : (faces : List Iface) → map (λ face. face.name) (map bare faces) ≡ map (λ face. face.name) faces
names_bare [] = refl
names_bare (face ∷ faces) = ap (λ list. face.name ∷ list) (names_bare faces)

systems_bare : (faces : List Iface) → map (λ face. face.names) (map bare faces) ≡ map (λ face. face.names) faces
systems_bare [] = refl
systems_bare (face ∷ faces) = ap (λ list. face.names ∷ list) (systems_bare faces)

pub addresses_bare : (faces : List Iface) → addresses_of (map bare faces) ≡ []
addresses_bare [] = refl
addresses_bare (face ∷ faces) = addresses_bare faces

name_free : (site : Site) → IsOrderly site → (front later : List Iface) (face : Iface) → site.faces ≡ front ++ face ∷ later → name_taken (map bare front) face.name ≡ false
name_free site h front later face e =
    let host = codes "host" in
    let lo = codes "lo" in
    let split : map (λ face. face.name) site.faces ≡ map (λ face. face.name) front ++ face.name ∷ map (λ face. face.name) later =
    ap (map (λ face. face.name)) e ∙ map-append (λ face. face.name) front (face ∷ later) in
    let none : list_any (λ text. bytes_eq text face.name) (host ∷ lo ∷ map (λ face. face.name) front) ≡ false =
    none_earlier bytes_eq (host ∷ lo ∷ map (λ face. face.name) front) face.name (map (λ face. face.name) later) (host ∷ lo ∷ map (λ face. face.name) site.faces)
    (ap (λ list. host ∷ lo ∷ list) split) h.names_differ in
    let parts = or_parts (bytes_eq host face.name) (bytes_eq lo face.name || list_any (λ text. bytes_eq text face.name) (map (λ face. face.name) front)) none in
    let rest = or_parts (bytes_eq lo face.name) (list_any (λ text. bytes_eq text face.name) (map (λ face. face.name) front)) parts.1 in
    or_from (bytes_eq face.name host || bytes_eq face.name lo) (list_any (λ other. bytes_eq other.name face.name) (map bare front))
    (or_from (bytes_eq face.name host) (bytes_eq face.name lo) (bytes_eq-sym face.name host ∙ parts.0) (bytes_eq-sym face.name lo ∙ rest.0))
    (any_mapped (λ other. other.name) (λ text. bytes_eq text face.name) (map bare front)
    ∙ ap (list_any (λ text. bytes_eq text face.name)) (names_bare front) ∙ rest.1)

systems_free : (site : Site) → IsOrderly site → (front later : List Iface) (face : Iface) → site.faces ≡ front ++ face ∷ later → names_taken (map bare front) face.names ≡ false
systems_free site h front later face e =
    let split : map (λ face. face.names) site.faces ++ site.lo ∷ [] ≡ map (λ face. face.names) front ++ face.names ∷ (map (λ face. face.names) later ++ site.lo ∷ []) =
    ap (λ faces. map (λ face. face.names) faces ++ site.lo ∷ []) e
    ∙ ap (λ list. list ++ site.lo ∷ []) (map-append (λ face. face.names) front (face ∷ later))
    ∙ append_assoc (map (λ face. face.names) front) (face.names ∷ map (λ face. face.names) later) (site.lo ∷ []) in
    any_mapped (λ other. other.names) (λ names. share_name names face.names) (map bare front)
    ∙ ap (list_any (λ names. share_name names face.names)) (systems_bare front)
    ∙ none_earlier share_name (map (λ face. face.names) front) face.names (map (λ face. face.names) later ++ site.lo ∷ []) (map (λ face. face.names) site.faces ++ site.lo ∷ [])
    split h.system_names_differ

free_face : (site : Site) → IsOrderly site → (front later : List Iface) (face : Iface) → site.faces ≡ front ++ face ∷ later → IsFreeFace face (map bare front)
free_face site h front later face e =
    let spelled = all_of (λ face. is_name face.name && are_names face.names) front face later site.faces e h.names_spelled in
    let parts = and_parts (is_name face.name) (are_names face.names) spelled in
    let inside : length front < length (front ++ face ∷ later) = length_split front face later in
    let whole : length site.faces ≡ length (front ++ face ∷ later) = ap length e in
    let few : length site.faces ≤ 62 = h.sound.few_faces in
    let counted : length (map bare front) ≡ length front = length-map front bare in
    record {
      name = parts.0;
      names = parts.1;
      free = or_from (name_taken (map bare front) face.name) (names_taken (map bare front) face.names) (name_free site h front later face e) (systems_free site h front later face e);
      room = lt-leb 62 (length (map bare front)) (omega arith);
    }

pub faces_taken : (site : Site) → IsOrderly site → (front rest : List Iface) → site.faces ≡ front ++ rest → (seen : List Iface) → seen ≡ map bare front
    → AreTaken (second Interfaces (faces_alone seen)) (map face_line rest) (second Interfaces (faces_alone (map bare site.faces)))
faces_taken site h front [] e seen is =
    let all : seen ≡ map bare site.faces = is ∙ ap (map bare) (sym (e ∙ append-nil front)) in
    subst (λ (faces : List Iface). AreTaken (second Interfaces (faces_alone seen)) [] (second Interfaces (faces_alone faces))) all none_taken
faces_taken site h front (face ∷ later) e seen is =
    let free : IsFreeFace face seen = subst (λ (faces : List Iface). IsFreeFace face faces) (sym is) (free_face site h front later face e) in
    next_taken (face_taken (faces_alone seen) face free)
    (faces_taken site h (front ++ face ∷ []) later (e ∙ sym (append_assoc front (face ∷ []) later)) (seen ++ bare face ∷ [])
    (ap (λ list. list ++ bare face ∷ []) is ∙ sym (map-append bare front (face ∷ []))))
